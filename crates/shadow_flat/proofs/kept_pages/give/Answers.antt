use Rattle.std.proofs.Common.{◌≡◌, length, arith}
use Rattle.shadow_flat.proofs.Slots.{bytes_given}
use Rattle.shadow_flat.proofs.kept_pages.give.Goals as goal

pub returns-then-set-clause-kept : goal.returns-then-set-clause-kept
returns-then-set-clause-kept c =
    let rows = c.args.rows.now in
    let last : c.len-at.result ≡ length rows.items = omega (arith, c.len-at.ensures, rows.ok.0) in
    bytes_given c.args.slots.now c.set.new.self c.args.page rows.items c.push.new.self.items c.args.bytes c.in_ok-push.ensures.items c.requires.slots c.len-at.result last c.if-set.ensures
