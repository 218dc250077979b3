use Rattle.std.proofs.Common.{[], ◌∷◌, ap, ◌∙◌, slice_index_or, slice_set}
use Rattle.pager_model.specs.Pager.{Valid}
use Rattle.shadow_tables.proofs.Entries.{entered_told}
use Rattle.shadow_tables.proofs.valid_entries.ValidEntries.put.Goals as goal

pub invariant_of-self-2 : goal.invariant_of-self-2
invariant_of-self-2 c =
    let sharers = c.self.inside.sharers.items in
    let f = (c.args.f).0 in
    entered_told _ _ _ _ c.self.invariant c.args.p c.args.vpn _ c.in_ok-place.ensures.place c.in_ok-place.ensures.within _ _ c.args.f c.in_ok-place.ensures.free c.in_ok-put_in.ensures.within
    (c.in_ok-put_in.ensures.put ∙ ap (λ (e : Valid). slice_set sharers f (e ∷ slice_index_or sharers f [])) c.new.ensures) c.set.ensures c.then-self-inside.ensures
