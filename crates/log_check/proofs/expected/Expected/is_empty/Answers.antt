use Rattle.std.proofs.Common.{◌≡◌, ◌≤◌, vec_len, sym, arith}
use Rattle.log_check.proofs.TextFronts.{none_left}
use Rattle.log_check.proofs.expected.Expected.is_empty.Goals as goal

pub returns : goal.returns
returns c =
    let count = (c.self.inside.text).ok.0 in
    let inside : c.self.inside.next ≤ vec_len c.self.inside.text = c.self.invariant in
    let long : c.len.result ≡ vec_len c.self.inside.text = c.len.ensures in
    none_left c.self.inside.next c.len.result c.self.inside.text.items c.args.self.now (sym c.self.view_is) (omega (arith, inside, count)) (omega (arith, long, count))
