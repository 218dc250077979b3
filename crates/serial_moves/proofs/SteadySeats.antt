-- What a seat may begin between two moves of the serial policy, and what is left where it makes nothing.
use Rattle.std.proofs.Common.{◌≡◌, ◌+◌, ◌*◌, ◌<◌, ◌≤◌, Bool, cond, List, [], Option, IfOk, length, refl, sym, ap, ◌∙◌, subst, arith}
use Rattle.std.specs.declared.result.Result.{Result}
use Rattle.vm_types.specs.declared.faults.NoMemory.{NoMemory}
use Rattle.vm_types.specs.declared.names.Seat.{Seat}
use Rattle.vm_journal.specs.declared.entry.What.{What}
use Rattle.pager_model.specs.Flights.{is_busy}
use Rattle.pager_policy.specs.Moves.{Control as ControlIs, Move, rests}
use Rattle.call_begins.specs.MayBegin.{MayBegin}
use Rattle.call_begins.specs.ReadySeat.{IsIdleSeat}
use Rattle.vm_state.specs.History.{History, owed}
use Rattle.vm_state.specs.LiftsLand.{added_each}
use Rattle.carried_landings.specs.Moved.{IsMoveHere, IsMoved, IsResting, IsSameBut, IsSteady}
use Rattle.lift_carriers.specs.CarrierView.{CarrierView}
use Rattle.serial_moves.specs.Carriers.{MayMove}
use Rattle.serial_moves.specs.Controls.{Moves}
use Rattle.serial_moves.specs.declared.control.Control.{Control}

-- ---- what a call asks for
module _ (s : History) (steady : IsSteady s) where
  pub nothing_due : owed s.past ≡ 0
  nothing_due = λ i. 2 * length (steady.between.landed i) + cond (steady.between.reused i) 1 0

  pub has_room : owed s.past + 64 ≤ s.spare
  has_room = let none = nothing_due in let room = steady.room in omega (arith, none, room)

  pub never_short : s.spare < owed s.past + 64 → ⊥
  never_short short = let none = nothing_due in let room = steady.room in omega (arith, none, room, short)

  pub may_begin : (seat : Seat) → seat.0 < length s.config.procs + 2 → MayBegin s seat
  may_begin seat there = record { there = there; idle = ap (is_busy seat.0) steady.between.landed; calm = steady.between.reused }

  pub idle_seat : (seat : Seat) → seat.0 < length s.config.procs → IsIdleSeat s seat
  idle_seat seat process = record { process = process; idle = ap (is_busy seat.0) steady.between.landed; calm = steady.between.reused }

-- ---- nothing was made
pub unchanged : (s t : History) (seat : Seat) (made : List What) → t ≡ added_each seat made s → made ≡ [] → t ≡ s
unchanged s t seat made history none = history ∙ ap (λ (ws : List What). added_each seat ws s) none

pub rests_there : (s t : History) (m : Move) → t ≡ s → m ≡ rests → IsResting s t m
rests_there s t m same is = record {
  rest = is;
  none_made = ap (λ (x : History). x.past) same;
  same = subst (λ (x : History). IsSameBut s x) (sym same) refl;
}

-- the next call begins where nothing was made
pub may_there : {B : Type 0} (s t : History) (seat : Seat) (c d : CarrierView B) → t ≡ s → d ≡ c → MayMove s seat c → MayMove t seat d
may_there s t seat c d same kept may =
    subst (λ (x : History). MayMove x seat d) (sym same) (record { steady = may.steady; there = may.there; carrier = kept ∙ may.carrier })

-- this move is that one on the history where the next call begins, and so what the next call leads to is what this move leads to
module _ (s t : History) (same : t ≡ s) (n : Move) (m : History → Move) (is : n ≡ m s) where
  pub here_there : IsMoveHere s n → IsMoveHere t (m t)
  here_there here = subst (λ (x : History). IsMoveHere x (m x)) (sym same) (subst (IsMoveHere s) is here)

  pub moved_there : (tells : Bool) (after : History) (c : ControlIs) → IsMoved tells t after (m t) c → IsMoved tells s after n c
  moved_there tells after c moved =
      subst (λ (x : Move). IsMoved tells s after x c) (sym is) (subst (λ (x : History). IsMoved tells x after (m x) c) same moved)

  pub goes_there : (tells : Bool) (after : History) (result : Result (Option Control) NoMemory) → IfOk result (Moves tells t after (m t)) → IfOk result (Moves tells s after n)
  goes_there tells after result moved =
      subst (λ (x : Move). IfOk result (Moves tells s after x)) (sym is) (subst (λ (x : History). IfOk result (Moves tells x after (m x))) same moved)

-- ---- two words for one move
pub here_as : (s : History) (n m : Move) → n ≡ m → IsMoveHere s n → IsMoveHere s m
here_as s n m is here = subst (λ (x : Move). IsMoveHere s x) is here

pub goes_as : (tells : Bool) (s after : History) (n m : Move) (goes : Option Control) → n ≡ m → Moves tells s after m goes → Moves tells s after n goes
goes_as tells s after n m goes is moved = subst (λ (x : Move). Moves tells s after x goes) (sym is) moved

pub leads_as : (tells : Bool) (s after : History) (n m : Move) (result : Result (Option Control) NoMemory) → n ≡ m → IfOk result (Moves tells s after m) → IfOk result (Moves tells s after n)
leads_as tells s after n m result is moved = subst (λ (x : Move). IfOk result (Moves tells s after x)) (sym is) moved
