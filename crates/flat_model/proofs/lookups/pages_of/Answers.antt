use Rattle.std.proofs.Common.{◌≡◌, ◌*◌, List, length, ◌∙◌, ap}
use Rattle.vm_types.specs.declared.limits.TheConstants.{PRIVATE_PAGES}
use Rattle.vm_types.specs.declared.config.ProcSpec.{ProcSpec}
use Rattle.flat_model.proofs.Found.{can_lay_all}
use Rattle.flat_model.proofs.lookups.pages_of.Goals as goal

pub lay_all-requires-clause-can : goal.lay_all-requires-clause-can
lay_all-requires-clause-can c =
    let places : length c.deref_mut.result.now ≡ length c.args.config.now.procs * PRIVATE_PAGES =
    c.deref_mut.ensures.len ∙ c.in_ok-pages.ensures.len ∙ ap (λ (specs : List ProcSpec). length specs * PRIVATE_PAGES) c.items.ensures in
    rw c.items-2.ensures (can_lay_all c.args.config.now c.requires (length c.deref_mut.result.now) places)
