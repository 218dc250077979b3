-- What a reference's next step gives may be made, if there is room.
use Rattle.std.proofs.Common.{◌≡◌, ◌+◌, ◌≤◌, false, arith}
use Rattle.vm_types.specs.WellFormed.{IsWellFormedReference}
use Rattle.vm_types.specs.declared.names.Seat.{Seat}
use Rattle.vm_types.specs.declared.reference.Ref.{Ref}
use Rattle.pager_policy.specs.Advance.{again_not_resident, gives_again}
use Rattle.vm_types.specs.Status.{is_resident}
use Rattle.call_laws.proofs.AdvanceLegal.{advance_legal}
use Rattle.vm_state.specs.History.{History, owed, pager}
use Rattle.fault_core.specs.Cases.{at_first}
use Rattle.fault_core.specs.Gives.{MayGive}
use Rattle.call_begins.specs.ReadySeat.{IsReadySeat}
use Rattle.fault_core.proofs.Branches.{first_absent}
use Rattle.call_begins.proofs.ReadySeats.{ready_of}

pub may_advance : (s : History) (seat : Seat) (r : Ref) → IsReadySeat s seat → IsWellFormedReference r → owed s.past + 64 ≤ s.spare → MayGive s seat (at_first s seat r)
may_advance s seat r ready formed room = record {
  legal = advance_legal s.config s.past seat.0 r formed (ready_of s seat ready) (let short = ready.short in omega (arith, short));
  room = room;
}

pub absent : (s : History) (seat : Seat) (r : Ref) → is_resident ((pager s).status seat.0) ≡ false → at_first s seat r ≡ gives_again again_not_resident
absent s seat r is = first_absent s.config s.past (pager s) seat.0 r is
