-- A page that is wanted: the one that a fault is for. Source: Kenah and Bate, "VAX/VMS Internals and Data
-- Structures", paging dynamics: a fault comes of a reference, and a reference that is refused makes none.
use Rattle.std.specs.Prelude.{◌≡◌, ℕ, List, Some, None}
use Rattle.vm_types.specs.declared.config.Config.{Config}
use Rattle.vm_types.specs.declared.reference.Ref.{Ref}
use Rattle.vm_types.specs.declared.service.Request.TheVariants as request
use Rattle.vm_journal.specs.declared.entry.Entry.{Entry}
use Rattle.pager_model.specs.Flat.{flat_refusal}
use Rattle.pager_model.specs.Lookups.{entries_at}
use Rattle.pager_model.specs.Maps.{page_number}
use Rattle.pager_model.specs.Pager.{Pager}
use Rattle.pager_model.specs.Spoken.{flat_after}
use Rattle.entry_causes.specs.NextRequest.{next_request}

-- the process's next request is a reference to this page number, which the flat machine doesn't refuse, and no
-- entry is valid there
pub record IsWanted (config : Config) (past : List Entry) (a : Pager) (p v : ℕ) : Type 0 where
  pub r : Ref
  pub next : next_request config past p ≡ Some (request.Reference r)
  pub here : page_number (r.addr).0 ≡ v
  pub granted : flat_refusal config (flat_after config past) p r ≡ None
  pub not_valid : entries_at a.valid p v ≡ 0
