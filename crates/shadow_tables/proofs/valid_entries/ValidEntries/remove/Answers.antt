use Rattle.std.proofs.Common.{◌≡◌, List, subst, sym}
use Rattle.pager_model.specs.Changes.{without_entry}
use Rattle.pager_model.specs.Pager.{Valid}
use Rattle.shadow_tables.proofs.Entries.{left_told, none_left}
use Rattle.shadow_tables.proofs.valid_entries.ValidEntries.remove.Goals as goal

pub invariant_of-self-in-Some : goal.invariant_of-self-in-Some
invariant_of-self-in-Some c =
    left_told _ _ _ _ c.self.invariant c.args.p c.args.vpn _ c.in_ok-place.ensures.place c.in_ok-place.ensures.within _ _ c.in-Some.f (sym c.in-Some.ensures)
    c.in_ok-remove_in-in-Some.ensures.within c.in_ok-remove_in-in-Some.ensures.removed c.set.ensures c.then-self-inside.ensures

pub returns-in-None : goal.returns-in-None
returns-in-None c =
    let p = (c.args.p).0 in
    let v = c.args.vpn in
    subst (λ (es : List Valid). es ≡ without_entry es p v) c.self.view_is
    (none_left _ _ _ c.self.invariant p v _ c.in_ok-place.ensures.place c.in_ok-place.ensures.within (sym c.in-None.ensures))
