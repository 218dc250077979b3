use Rattle.std.proofs.Common.{IsSome, sym, ◌∙◌, subst}
use Rattle.state_pages.proofs.Looked.{looked}
use Rattle.state_pages.proofs.validity.make_valid.Goals as goal

pub unwrap-prot-requires : goal.unwrap-prot-requires
unwrap-prot-requires c = subst IsSome (sym (looked c.args.tables.now c.args.p.0 c.args.vpn c.look-look.result c.entry_in.result c.look-look.ensures.value c.entry_in.ensures)) c.requires.mapped

pub set-requires-clause-entry : goal.set-requires-clause-entry
set-requires-clause-entry c =
    c.requires.entry c.unwrap-prot.result
    (sym (looked c.args.tables.now c.args.p.0 c.args.vpn c.look-look.result c.entry_in.result c.look-look.ensures.value c.entry_in.ensures) ∙ c.unwrap-prot.ensures)

pub returns-clause-changed : goal.returns-clause-changed
returns-clause-changed c = (
  c.unwrap-prot.result,
  sym (looked c.args.tables.now c.args.p.0 c.args.vpn c.look-look.result c.entry_in.result c.look-look.ensures.value c.entry_in.ensures) ∙ c.unwrap-prot.ensures,
  c.set.ensures.changed,
)
