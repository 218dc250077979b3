use Rattle.std.proofs.Common.{◌∙◌, List, ap, slice_index_or}
use Rattle.std.proofs.lemmas.Option.{get_or_from_slice_get}
use Rattle.vm_types.specs.declared.config.Config.{Config}
use Rattle.vm_types.specs.declared.config.ProcSpec.{ProcSpec}
use Rattle.call_begins.proofs.Branches.{item_there}
use Rattle.vm_swapper.proofs.SlotsSeen.{slots_are}
use Rattle.vm_swapper.proofs.looks.slot_count.Goals as goal

pub returns-clause-count : goal.returns-clause-count
returns-clause-count g c =
    let found = item_there c.args.state.now.config.procs (c.args.p).0 c.requires in
    ap (λ (xs : List ProcSpec). (slice_index_or xs (c.args.p).0 (record { limit = 0; quota = 0; extent = 0; locks = 0 })).extent) (c.items.ensures ∙ ap (λ (x : Config). x.procs) c.config.ensures)
    ∙ (ap (λ (x : ProcSpec). x.extent) (get_or_from_slice_get c.args.state.now.config.procs (c.args.p).0 found.0 _ found.1)
    ∙ slots_are c.args.state.now.config c.args.state.now.past (c.args.p).0 c.run_law.ensures.formed c.run_law.ensures.run found.0 found.1)
