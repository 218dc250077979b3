-- One turn of a process, as a move of the serial policy.
use Rattle.std.proofs.Common.{◌≡◌, Bool, [], ◌∷◌, refl, sym, ◌∙◌, subst, arith}
use Rattle.vm_types.specs.declared.names.Proc.{Proc}
use Rattle.vm_types.specs.declared.names.ProcStatus.{ProcStatus}
use Rattle.vm_types.specs.declared.names.Seat.{Seat}
use Rattle.vm_journal.specs.declared.entry.What.TheVariants as what
use Rattle.pager_policy.specs.Moves.{Control as ControlIs, Move, makes}
use Rattle.call_begins.proofs.Steps.{paid_after}
use Rattle.serial_laws.proofs.Kept.{turns_legal}
use Rattle.vm_state.specs.History.{History, MayAdd, added, entry_by}
use Rattle.carried_landings.specs.Moved.{IsMoveHere, IsMoved, IsSteady}
use Rattle.carried_landings.proofs.Moving.{makes_move}
use Rattle.serial_moves.proofs.SteadySeats.{nothing_due}

module _ (s : History) (seat : Seat) (q : Proc) (turns : ProcStatus) (m : Move) (next : ControlIs) (is : m ≡ makes seat.0 (what.Turn q turns ∷ []) next) where
  -- it may be made
  pub may_turn : IsSteady s → IsMoveHere s m → MayAdd s (entry_by seat (what.Turn q turns))
  may_turn steady here = record {
    legal = turns_legal s.config s.past here.at seat.0 q turns next steady.between here.fits (here.is ∙ is);
    paid = paid_after s.past (entry_by seat (what.Turn q turns)) s.spare 1 refl refl (let none = nothing_due s steady in let room = steady.room in omega (arith, none, room));
  }

  -- and is the move
  pub turned_moved : (tells : Bool) (t : History) → t ≡ added s (entry_by seat (what.Turn q turns)) → IsMoved tells s t m next
  turned_moved tells t made = subst (λ (x : Move). IsMoved tells s t x next) (sym is) (makes_move s t seat (what.Turn q turns ∷ []) made tells next (tt, tt))
