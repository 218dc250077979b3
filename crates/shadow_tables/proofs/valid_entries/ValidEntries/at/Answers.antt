use Rattle.std.proofs.Common.{ℕ, Some, None, List, Option, ap, sym, ◌∙◌}
use Rattle.std.specs.Option.{option_map}
use Rattle.pager_model.specs.Lookups.{entry_of}
use Rattle.pager_model.specs.Pager.{Valid}
use Rattle.shadow_tables.specs.declared.changes.Change.{Change}
use Rattle.shadow_tables.proofs.Entries.{entry_is}
use Rattle.shadow_tables.proofs.valid_entries.ValidEntries.at.Goals as goal

pub returns-in-Some : goal.returns-in-Some
returns-in-Some c =
    let p = (c.args.p).0 in
    let v = c.args.vpn in
    ap Some c.new.ensures
    ∙ (ap (option_map (λ (f : ℕ). record { proc = p; vpn = v; frame = f })) c.in-Some.ensures
    ∙ (entry_is _ _ _ c.self.invariant p v ∙ ap (λ (es : List Valid). entry_of es p v) c.self.view_is))

pub returns-in-None : goal.returns-in-None
returns-in-None c =
    let p = (c.args.p).0 in
    let v = c.args.vpn in
    ap (option_map (λ (f : ℕ). record { proc = p; vpn = v; frame = f })) c.in-None.ensures
    ∙ (entry_is _ _ _ c.self.invariant p v ∙ ap (λ (es : List Valid). entry_of es p v) c.self.view_is)
