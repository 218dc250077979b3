-- INOK: a read lands well, and its role says what becomes of the page. Source: Kenah and Bate, "VAX/VMS
-- Internals and Data Structures", paging dynamics, page read completion; that neighbours go to the free
-- list's tail, and that pages come back to their slots as modified, are this project's own.
use Rattle.std.specs.Prelude.{◌≡◌, ℕ, Bool, true, false, ◌&&◌, List, [], ◌∷◌, ◌++◌, Option, Some, None, find}
use Rattle.vm_types.specs.declared.names.Page.{Page}
use Rattle.vm_types.specs.declared.names.FrameState.TheVariants as state
use Rattle.vm_types.specs.declared.names.BlockId.{BlockId}
use Rattle.vm_journal.specs.declared.entry.Entry.{Entry}
use Rattle.vm_journal.specs.declared.entry.Role.{Role}
use Rattle.vm_journal.specs.declared.entry.Role.TheVariants as role
use Rattle.pager_model.specs.Changes.{is_section_block, lies_nowhere, swap_slot, valid_at}
use Rattle.pager_model.specs.Flights.{Direction, Flight, open_flights, reading, writing}
use Rattle.pager_model.specs.Maps.{is_private, page_number}
use Rattle.pager_model.specs.Pager.{Pager}
use Rattle.pager_model.specs.Ring.{placed, slotted}
use Rattle.pager_model.specs.Sets.{at_number}
use Rattle.pager_model.specs.Transfers.{starts}

-- the seat's open flight k is on the frame
pub record IsLanding (past : List Entry) (p f k : ℕ) (x : Flight) : Type 0 where
  pub open_k : find (starts k) (open_flights past) ≡ Some x
  pub seat : x.seat ≡ p
  pub frame : x.frame ≡ f

pub record IsInOk (past : List Entry) (seat f k : ℕ) : Type 0 where
  pub flight : Flight
  pub lands : IsLanding past seat f k flight
  pub role : Role
  pub reads : flight.direction ≡ reading role

-- the first read of a copy on reference page
abbrev pub is_first_read : Option Page → BlockId → Bool
is_first_read None b = false
is_first_read (Some g) b = is_private g && is_section_block b

-- FAULT: valid in the ring's place, the modify mark set after a first copy on reference read alone;
-- NEAR: at the free list's tail; COME: valid in the slot of its swap block, modified, and lies nowhere
abbrev pub after_read : Pager → ℕ → BlockId → Direction → Pager
after_read a f b (reading (role.Fault q address)) =
    let v = page_number address.0 in
    record a {
      state = at_number a.state f state.Active;
      modify = at_number a.modify f (is_first_read (a.page f) b);
      ring = at_number a.ring q.0 (placed (a.ring q.0) (a.limit q.0) v);
      valid = valid_at q.0 v f ∷ a.valid;
    }
after_read a f b (reading (role.Near near)) = record a { state = at_number a.state f state.Free; free = a.free ++ f ∷ [] }
after_read a f b (reading (role.Come q address)) =
    let v = page_number address.0 in
    record a {
      state = at_number a.state f state.Active;
      modify = at_number a.modify f true;
      ring = at_number a.ring q.0 (slotted (a.ring q.0) (swap_slot b) v);
      valid = valid_at q.0 v f ∷ a.valid;
      lies = lies_nowhere a.lies (a.page f);
    }
after_read a f b writing = a

abbrev pub after_in_ok : Pager → ℕ → Option Flight → Pager
after_in_ok a f None = a
after_in_ok a f (Some x) = after_read a f x.block x.direction
