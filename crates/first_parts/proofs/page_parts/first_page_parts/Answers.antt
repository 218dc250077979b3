use Rattle.std.proofs.Common.{List, subst}
use Rattle.vm_types.specs.declared.config.Section.{Section}
use Rattle.state_parts.specs.ChargedTable.{HasPagedPlaces}
use Rattle.first_parts.proofs.page_parts.first_page_parts.Goals as goal

pub returns-clause-page_places : goal.returns-clause-page_places
returns-clause-page_places c =
    subst (λ (sections : List Section). HasPagedPlaces sections c.in_ok-new-2.field-0) c.items-2.ensures c.in_ok-new-2.ensures.places
