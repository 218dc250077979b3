use Rattle.std.proofs.Common.{sym, ◌∙◌}
use Rattle.state_pages.proofs.Looked.{looked}
use Rattle.state_pages.proofs.resting.rest_own.Goals as goal

pub set-requires-clause-entry : goal.set-requires-clause-entry
set-requires-clause-entry c =
    let behind = sym c.behind.ensures ∙ c.unwrap-behind.ensures in
    let place_is = c.resting_at-place.ensures c.requires.0 (c.requires.1.numbered c.unwrap-behind.result behind) in
    rw place_is (c.requires.1.entry c.unwrap-lies.result c.unwrap-behind.result c.unwrap-prot.result (sym c.at.ensures.value ∙ c.unwrap-lies.ensures) behind
    (sym (looked c.args.tables.now c.args.p.0 c.args.vpn c.look-look.result c.entry_in.result c.look-look.ensures.value c.entry_in.ensures) ∙ c.unwrap-prot.ensures))
