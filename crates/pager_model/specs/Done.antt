-- DONE: a reference is answered. No adjustment is pending, the page is mapped, the right is there and
-- the entry is valid. That the reply is of the operation's kind and fits it is part of its line; which value it
-- is, is left to right values. Source: Kenah and Bate, "VAX/VMS Internals and Data Structures", paging dynamics: a
-- valid page table entry, and the modify bit; adjustments are this project's own.
use Rattle.std.specs.Prelude.{◌≡◌, ℕ, Bool, true, false, ◌+◌, List, Option, Some, None, if◌then◌else◌}
use Rattle.vm_types.specs.Access.{is_allowed}
use Rattle.vm_types.specs.declared.names.Page.{Page}
use Rattle.vm_types.specs.declared.config.Config.{Config}
use Rattle.vm_types.specs.declared.reference.Op.{Op}
use Rattle.vm_types.specs.declared.reference.Ref.{Ref}
use Rattle.pager_model.specs.Flat.{is_change, touched_with}
use Rattle.pager_model.specs.Lookups.{entry_of, is_pending, page_by}
use Rattle.pager_model.specs.Maps.{Mapped, page_number}
use Rattle.pager_model.specs.Own.{IsResident}
use Rattle.pager_model.specs.Pager.{Pager, Valid}
use Rattle.pager_model.specs.Sets.{at_number}

-- the mapping is there and gives the right
abbrev pub Allows : Option Mapped → Ref → Type 0
Allows None r = ⊥
Allows (Some m) r = is_allowed m.prot r.mode (is_change r.op) ≡ true

pub record IsDone (config : Config) (a : Pager) (p : ℕ) (r : Ref) : Type 0 where
  pub own : IsResident config a p
  pub not_pending : is_pending config (a.references p) ≡ false
  pub allowed : Allows (a.map p (page_number (r.addr).0)) r
  pub valid : (e : Valid) × (entry_of a.valid p (page_number (r.addr).0) ≡ Some e)

abbrev pub touched_at : Config → List Page → Option Page → List Page
touched_at config touched None = touched
touched_at config touched (Some page) = touched_with config touched page

abbrev pub modify_done : Op → Option Valid → (ℕ → Bool) → ℕ → Bool
modify_done op None modify = modify
modify_done op (Some e) modify = if is_change op then at_number modify e.frame true else modify

-- one more reference; the page is touched; a write or an add sets the modify mark
abbrev pub after_done : Config → Pager → ℕ → Ref → Pager
after_done config a p r =
    let v = page_number (r.addr).0 in
    record a {
      modify = modify_done r.op (entry_of a.valid p v) a.modify;
      references = at_number a.references p (a.references p + 1);
      touched = touched_at config a.touched (page_by config a.map p v);
    }
