-- The cases of a reference, one after another, on a history. This project's own.
use Rattle.std.specs.Prelude.{◌≡◌, ℕ, ◌<◌, true, Option, length, nat_le}
use Rattle.vm_types.specs.declared.names.BlockId.{BlockId}
use Rattle.vm_types.specs.declared.names.Seat.{Seat}
use Rattle.vm_types.specs.declared.reference.Ref.{Ref}
use Rattle.pager_policy.specs.Advance.{GivenNext, advance_gives, entry_given, fault_given, frame_given, held_given, mapped_given, out_given, read_given, refused_given, replace_given, room_given, source_of}
use Rattle.pager_model.specs.Flat.{flat_refusal}
use Rattle.pager_model.specs.Flights.{open_flights}
use Rattle.pager_model.specs.Forget.{holder}
use Rattle.pager_model.specs.Lookups.{entry_of, page_by}
use Rattle.pager_model.specs.Maps.{page_number}
use Rattle.pager_model.specs.Spoken.{flat_after}
use Rattle.pager_model.specs.Transfers.{is_read_on}
use Rattle.std.specs.Prelude.{find}
use Rattle.vm_types.specs.Ring.{filled}
use Rattle.vm_state.specs.History.{History, owed, pager}
use Rattle.fault_core.specs.declared.sought.Sought.{Sought}

abbrev pub vpn_of : Ref → ℕ
vpn_of r = page_number (r.addr).0

abbrev pub at_first : History → Seat → Ref → GivenNext
at_first s seat r = advance_gives s.config s.past (pager s) seat.0 r

abbrev pub at_refusal : History → Seat → Ref → GivenNext
at_refusal s seat r = refused_given s.config s.past (pager s) seat.0 r (flat_refusal s.config (flat_after s.config s.past) seat.0 r)

abbrev pub at_entry : History → Seat → Ref → GivenNext
at_entry s seat r = entry_given s.config s.past (pager s) seat.0 r (entry_of (pager s).valid seat.0 (vpn_of r))

abbrev pub at_map : History → Seat → Ref → GivenNext
at_map s seat r = mapped_given s.config s.past (pager s) seat.0 r (page_by s.config (pager s).map seat.0 (vpn_of r))

abbrev pub at_replace : History → Seat → GivenNext
at_replace s seat = replace_given s.config s.past (pager s) seat.0

-- those of the page that is sought
abbrev pub at_fault : History → Sought → GivenNext
at_fault s x = fault_given s.config s.past (pager s) (x.seat).0 x.r x.page (holder s.config (pager s).page x.page)

abbrev pub at_read : History → Sought → ℕ → GivenNext
at_read s x f = read_given s.config s.past (pager s) (x.seat).0 x.r x.page f (find (is_read_on f) (open_flights s.past))

abbrev pub at_room : History → Sought → GivenNext
at_room s x = room_given s.config s.past (pager s) (x.seat).0 x.r x.page

abbrev pub at_held : History → Sought → GivenNext
at_held s x = held_given s.config s.past (pager s) (x.seat).0 x.r x.page (holder s.config (pager s).page x.page)

-- the block from which its page is read
abbrev pub source_in : History → Sought → Option BlockId
source_in s x = source_of s.config (pager s) x.page ((pager s).map (x.seat).0 (vpn_of x.r))

abbrev pub at_out : History → Sought → GivenNext
at_out s x = out_given s.config s.past (pager s) (x.seat).0 x.r x.page (source_in s x)

abbrev pub at_frame : History → Sought → Option BlockId → GivenNext
at_frame s x o = frame_given s.config (pager s) (x.seat).0 x.r x.page o (pager s).free

-- whatever page is referred to, its process replaces one: nothing is in flight, not each block of the page file
-- is charged, and the working set is as long as its limit allows
pub record IsReplacedFirst (s : History) (p : ℕ) : Type 0 where
  pub landed : owed s.past ≡ 0
  pub chargeable : length (pager s).charged < s.config.pagefile
  pub full : nat_le ((pager s).limit p) (filled ((pager s).ring p).slots) ≡ true
