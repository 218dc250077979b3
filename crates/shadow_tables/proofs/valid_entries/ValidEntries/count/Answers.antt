use Rattle.std.proofs.Common.{List, ap, sym, ◌∙◌}
use Rattle.pager_model.specs.Lookups.{entries_at}
use Rattle.pager_model.specs.Pager.{Valid}
use Rattle.shadow_tables.proofs.Entries.{no_entries, one_entry}
use Rattle.shadow_tables.proofs.valid_entries.ValidEntries.count.Goals as goal

pub returns-in-Some : goal.returns-in-Some
returns-in-Some c =
    let p = (c.args.p).0 in
    let v = c.args.vpn in
    sym (one_entry _ _ _ c.self.invariant p v _ (sym c.in-Some.ensures)) ∙ ap (λ (es : List Valid). entries_at es p v) c.self.view_is

pub returns-in-None : goal.returns-in-None
returns-in-None c =
    let p = (c.args.p).0 in
    let v = c.args.vpn in
    sym (no_entries _ _ _ c.self.invariant p v (sym c.in-None.ensures)) ∙ ap (λ (es : List Valid). entries_at es p v) c.self.view_is
