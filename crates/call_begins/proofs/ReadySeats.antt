-- What a ready seat may do, and what a reader's answer says of a status and a frame.
use Rattle.std.proofs.Common.{◌≡◌, ℕ, true, Option, Some, None, refl, sym, ap, arith}
use Rattle.std.proofs.lemmas.Option.{none-some, same_Some}
use Rattle.std.specs.Option.{option_map}
use Rattle.vm_types.specs.declared.names.Pfn.{Pfn}
use Rattle.vm_types.specs.declared.names.ProcStatus.{ProcStatus}
use Rattle.vm_types.specs.declared.names.ProcStatus.TheVariants as status
use Rattle.vm_types.specs.declared.names.Seat.{Seat}
use Rattle.pager_model.specs.Maps.{pfn}
use Rattle.vm_types.specs.Status.{is_resident}
use Rattle.call_laws.specs.Ready.{IsReady}
use Rattle.vm_state.specs.History.{History}
use Rattle.call_begins.specs.ReadySeat.{IsReadySeat}

pub ready_of : (s : History) (seat : Seat) → IsReadySeat s seat → IsReady s.config s.past seat.0
ready_of s seat ready = record {
  formed = ready.formed;
  run = ready.run;
  few = let short = ready.short in omega (arith, short);
  free = record { idle = ready.seat_is.idle; calm = ready.seat_is.calm };
  own = record { process = ready.seat_is.process; resident = ready.resident };
}

pub is_in_memory : (x : ProcStatus) → is_resident x ≡ true → x ≡ status.Resident
is_in_memory status.Resident is = refl
is_in_memory status.Leaving is = absurd (cc)
is_in_memory status.Gone is = absurd (cc)
is_in_memory status.Coming is = absurd (cc)

-- the frame that a reader names
pub frame_some : (f : Pfn) (o : Option ℕ) → Some f ≡ option_map pfn o → o ≡ Some f.0
frame_some f None is = absurd (none-some f (sym is))
frame_some f (Some n) is = ap (λ (x : Pfn). Some x.0) (sym (same_Some f (pfn n) is))
