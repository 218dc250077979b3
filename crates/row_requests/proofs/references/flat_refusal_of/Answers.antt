use Rattle.std.proofs.Common.{ap, ◌∙◌}
use Rattle.vm_types.specs.declared.config.Config.{Config}
use Rattle.pager_model.specs.Flat.{FlatState, flat_refusal}
use Rattle.pager_model.specs.Spoken.{flat_after}
use Rattle.shadow_pager.specs.Shown.{shown}
use Rattle.row_requests.proofs.Flat.{same_flat}
use Rattle.row_requests.proofs.references.flat_refusal_of.Goals as goal

pub returns : goal.returns
returns c =
    let past = c.args.past.now in
    let a = (shown c.args.pager.now).pager in
    let flat = flat_after past.config past.past in
    let mine : FlatState = record { map = a.map; touched = a.touched; stored = flat.stored } in
    c.refusal.ensures flat.stored
    ∙ (ap (λ (g : Config). flat_refusal g mine c.args.p.0 c.args.r) c.config.ensures
    ∙ ap (λ (s : FlatState). flat_refusal past.config s c.args.p.0 c.args.r) (same_flat flat a.map a.touched c.requires.maps c.requires.touched))
