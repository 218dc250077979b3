use Rattle.std.proofs.Common.{◌≡◌, ◌*◌, List, length, ◌∙◌, ap, arith}
use Rattle.std.proofs.lemmas.List.{length-replicate}
use Rattle.vm_types.specs.declared.limits.TheConstants.{PRIVATE_PAGES}
use Rattle.vm_types.specs.declared.config.ProcSpec.{ProcSpec}
use Rattle.section_table.proofs.Layable.{can_lay_all}
use Rattle.section_table.proofs.sections.Sections.new.Goals as goal

pub lay_all-requires-clause-can : goal.lay_all-requires-clause-can
lay_all-requires-clause-can c =
    let places : length c.in_ok-origins.origins ≡ length c.args.config.now.procs * PRIVATE_PAGES =
    ap length c.in_ok-origins.ensures ∙ (length-replicate _ _ ∙ omega (arith, ap (λ (specs : List ProcSpec). length specs) c.items-procs.ensures)) in
    rw c.items-2.ensures (can_lay_all c.args.config.now c.requires (length c.in_ok-origins.origins) places)
