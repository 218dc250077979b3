-- A step of a process that leaves, as a move of the serial policy.
use Rattle.std.proofs.Common.{◌≡◌, ℕ, List, refl, sym, ap, ◌∙◌, subst}
use Rattle.vm_types.specs.BlockView.{BlockView, Tells}
use Rattle.vm_types.specs.declared.names.Seat.{Seat}
use Rattle.vm_journal.specs.declared.entry.What.{What}
use Rattle.pager_policy.specs.Moves.{Control as ControlIs, Doing as DoingIs, Move, carries, control, makes, rests, while_leaving}
use Rattle.pager_policy.specs.Policy.{Ends, leave_move, leave_move_by, unless_all_failed, writing_move}
use Rattle.pager_policy.specs.Swap.{SwapIs, SwapWhy as Reason, leave_gives, swap_again, swap_carry, swap_in_flight, swap_modified_full, swap_more, swap_no_frame, swap_settled}
use Rattle.vm_swapper.specs.Swaps.{Swaps, again_of, returned}
use Rattle.vm_swapper.specs.declared.swap.Swap.TheVariants.{Again, Carry, More, Room, Settled}
use Rattle.vm_swapper.specs.declared.swap.SwapWhy.{SwapWhy}
use Rattle.vm_swapper.specs.declared.swap.SwapWhy.TheVariants.{InFlight, ModifiedFull, NoFrame}
use Rattle.serial_laws.specs.Between.{IsBetween}
use Rattle.lift_carriers.specs.CarrierView.{CarrierView}
use Rattle.vm_state.specs.History.{History, pager}
use Rattle.carried_landings.specs.CarriedOn.{IsCarriedOn, IsLoaded, MayRefuse}
use Rattle.carried_landings.specs.Moved.{IsMoveHere, IsMoved, IsResting}
use Rattle.carried_landings.proofs.Entries.{quiet_mute, starts_mute}
use Rattle.carried_landings.proofs.Moving.{carries_move, loaded, makes_move, may_refuse}
use Rattle.carried_landings.proofs.Shapes.{SwapShape, leave_shape}
use Rattle.serial_moves.proofs.SteadySeats.{here_there, moved_there, rests_there, unchanged}

-- the answer of the model that a returned one stands for
pub carry_is : (x : SwapIs) → Carry ≡ returned x → x ≡ swap_carry
carry_is swap_carry same = refl
carry_is swap_more same = absurd (cc)
carry_is swap_settled same = absurd (cc)
carry_is (swap_again reason) same = absurd (cc)

pub more_is : (x : SwapIs) → More ≡ returned x → x ≡ swap_more
more_is swap_carry same = absurd (cc)
more_is swap_more same = refl
more_is swap_settled same = absurd (cc)
more_is (swap_again reason) same = absurd (cc)

pub settled_is : (x : SwapIs) → Settled ≡ returned x → x ≡ swap_settled
settled_is swap_carry same = absurd (cc)
settled_is swap_more same = absurd (cc)
settled_is swap_settled same = refl
settled_is (swap_again reason) same = absurd (cc)

pub full_is : (x : SwapIs) → Again ModifiedFull ≡ returned x → x ≡ swap_again swap_modified_full
full_is swap_carry same = absurd (cc)
full_is swap_more same = absurd (cc)
full_is swap_settled same = absurd (cc)
full_is (swap_again swap_in_flight) same = absurd (cc)
full_is (swap_again swap_modified_full) same = refl
full_is (swap_again swap_no_frame) same = absurd (cc)

pub no_frame_is : (x : SwapIs) → Again NoFrame ≡ returned x → x ≡ swap_again swap_no_frame
no_frame_is swap_carry same = absurd (cc)
no_frame_is swap_more same = absurd (cc)
no_frame_is swap_settled same = absurd (cc)
no_frame_is (swap_again swap_in_flight) same = absurd (cc)
no_frame_is (swap_again swap_modified_full) same = absurd (cc)
no_frame_is (swap_again swap_no_frame) same = refl

pub in_flight_is : (x : SwapIs) → Again InFlight ≡ returned x → x ≡ swap_again swap_in_flight
in_flight_is swap_carry same = absurd (cc)
in_flight_is swap_more same = absurd (cc)
in_flight_is swap_settled same = absurd (cc)
in_flight_is (swap_again swap_in_flight) same = refl
in_flight_is (swap_again swap_modified_full) same = absurd (cc)
in_flight_is (swap_again swap_no_frame) same = absurd (cc)

pub never_room : (x : SwapIs) → Room ≡ returned x → ⊥
never_room swap_carry same = cc
never_room swap_more same = cc
never_room swap_settled same = cc
never_room (swap_again reason) same = cc

module _ (s : History) (seat q : ℕ) (ends : Ends) (doing : DoingIs) where
  abbrev made : List What
  made = (leave_gives s.config s.past (pager s) q).made

  abbrev the_move : Move
  the_move = leave_move s.config s.past (pager s) seat q ends doing

  by_answer : (x : SwapIs) → (leave_gives s.config s.past (pager s) q).answer ≡ x → the_move ≡ leave_move_by s.config (pager s) seat q ends doing made x
  by_answer x is = ap (leave_move_by s.config (pager s) seat q ends doing made) is

  pub carries_on : (leave_gives s.config s.past (pager s) q).answer ≡ swap_carry → the_move ≡ carries seat made (unless_all_failed ends (while_leaving doing q))
  carries_on is = by_answer swap_carry is

  pub makes_more : (leave_gives s.config s.past (pager s) q).answer ≡ swap_more → the_move ≡ makes seat made (while_leaving doing q)
  makes_more is = by_answer swap_more is

  pub makes_last : (leave_gives s.config s.past (pager s) q).answer ≡ swap_settled → the_move ≡ makes seat made (control doing)
  makes_last is = by_answer swap_settled is

  pub writes_first : (leave_gives s.config s.past (pager s) q).answer ≡ swap_again swap_modified_full → the_move ≡ writing_move s.config (pager s) seat ends (while_leaving doing q)
  writes_first is = by_answer (swap_again swap_modified_full) is

  pub waits_flight : (leave_gives s.config s.past (pager s) q).answer ≡ swap_again swap_in_flight → the_move ≡ rests
  waits_flight is = by_answer (swap_again swap_in_flight) is

  pub waits_frame : (leave_gives s.config s.past (pager s) q).answer ≡ swap_again swap_no_frame → the_move ≡ rests
  waits_frame is = by_answer (swap_again swap_no_frame) is

-- ---- what a step returned, as a move
abbrev pub reason_of : SwapWhy → Reason
reason_of InFlight = swap_in_flight
reason_of ModifiedFull = swap_modified_full
reason_of NoFrame = swap_no_frame

reason_back : (reason : Reason) → reason_of (again_of reason) ≡ reason
reason_back swap_in_flight = refl
reason_back swap_modified_full = refl
reason_back swap_no_frame = refl

pub again_is : (x : SwapIs) (why : SwapWhy) → Again why ≡ returned x → x ≡ swap_again (reason_of why)
again_is swap_carry why same = absurd (cc)
again_is swap_more why same = absurd (cc)
again_is swap_settled why same = absurd (cc)
again_is (swap_again reason) why same = let is : why ≡ again_of reason = cc in sym (ap (λ (w : SwapWhy). swap_again (reason_of w)) is ∙ ap swap_again (reason_back reason))

abbrev pub left_made : History → ℕ → List What
left_made s q = (leave_gives s.config s.past (pager s) q).made

left_shape : (s : History) (q : ℕ) (x : SwapIs) → (leave_gives s.config s.past (pager s) q).answer ≡ x → SwapShape x (left_made s q)
left_shape s q x is = subst (λ (y : SwapIs). SwapShape y (left_made s q)) is (leave_shape s.config s.past (pager s) q)

module _ {B : Type 0} {seen : B → BlockView} {tells : Tells} (s t : History) (seat : Seat) (q : ℕ) (ends : Ends) (doing : DoingIs) (old new : CarrierView B) where
  -- its carrier is loaded, and the policy goes on once that has landed
  pub leave_loaded : IsBetween s.config s.past → Swaps seen tells s t seat (leave_gives s.config s.past (pager s) q) Carry old new → IsLoaded seen tells t seat new
  leave_loaded between swaps = loaded s t seat (left_made s q) swaps.history new between (left_shape s q swap_carry (carry_is (leave_gives s.config s.past (pager s) q).answer swaps.answer)) swaps.carrier

  pub leave_may : IsBetween s.config s.past → Swaps seen tells s t seat (leave_gives s.config s.past (pager s) q) Carry old new → IsMoveHere s (leave_move s.config s.past (pager s) seat.0 q ends doing)
      → MayRefuse t.config t.past seat.0 (unless_all_failed ends (while_leaving doing q))
  leave_may between swaps here =
      may_refuse s t seat (left_made s q) swaps.history (unless_all_failed ends (while_leaving doing q)) between
      (subst (IsMoveHere s) (carries_on s seat.0 q ends doing (carry_is (leave_gives s.config s.past (pager s) q).answer swaps.answer)) here)

  pub left_carried : Swaps seen tells s t seat (leave_gives s.config s.past (pager s) q) Carry old new → (after : History) (c : ControlIs)
      → IsCarriedOn tells.content t after seat.0 (unless_all_failed ends (while_leaving doing q)) c → IsMoved tells.content s after (leave_move s.config s.past (pager s) seat.0 q ends doing) c
  left_carried swaps after c carried =
      let is = carry_is (leave_gives s.config s.past (pager s) q).answer swaps.answer in
      subst (λ (m : Move). IsMoved tells.content s after m c) (sym (carries_on s seat.0 q ends doing is))
      (carries_move s t seat (left_made s q) swaps.history tells.content after (unless_all_failed ends (while_leaving doing q)) c (starts_mute (left_made s q) (left_shape s q swap_carry is)) carried)

  -- an entry was made
  pub left_more : Swaps seen tells s t seat (leave_gives s.config s.past (pager s) q) More old new → IsMoved tells.content s t (leave_move s.config s.past (pager s) seat.0 q ends doing) (while_leaving doing q)
  left_more swaps =
      let is = more_is (leave_gives s.config s.past (pager s) q).answer swaps.answer in
      subst (λ (m : Move). IsMoved tells.content s t m (while_leaving doing q)) (sym (makes_more s seat.0 q ends doing is))
      (makes_move s t seat (left_made s q) swaps.history tells.content (while_leaving doing q)
      (quiet_mute (left_made s q) (left_shape s q swap_more is)))

  pub left_settled : Swaps seen tells s t seat (leave_gives s.config s.past (pager s) q) Settled old new → IsMoved tells.content s t (leave_move s.config s.past (pager s) seat.0 q ends doing) (control doing)
  left_settled swaps =
      let is = settled_is (leave_gives s.config s.past (pager s) q).answer swaps.answer in
      subst (λ (m : Move). IsMoved tells.content s t m (control doing)) (sym (makes_last s seat.0 q ends doing is))
      (makes_move s t seat (left_made s q) swaps.history tells.content (control doing)
      (quiet_mute (left_made s q) (left_shape s q swap_settled is)))

  -- nothing was made, for this reason
  module _ (why : SwapWhy) (swaps : Swaps seen tells s t seat (leave_gives s.config s.past (pager s) q) (Again why) old new) where
    again : (leave_gives s.config s.past (pager s) q).answer ≡ swap_again (reason_of why)
    again = again_is (leave_gives s.config s.past (pager s) q).answer why swaps.answer

    pub left_same : t ≡ s
    left_same = unchanged s t seat (left_made s q) swaps.history (left_shape s q (swap_again (reason_of why)) again)

    pub left_writes : why ≡ ModifiedFull → leave_move s.config s.past (pager s) seat.0 q ends doing ≡ writing_move s.config (pager s) seat.0 ends (while_leaving doing q)
    left_writes is = writes_first s seat.0 q ends doing (again ∙ ap (λ (w : SwapWhy). swap_again (reason_of w)) is)

    pub left_in_flight : why ≡ InFlight → IsResting s t (leave_move s.config s.past (pager s) seat.0 q ends doing)
    left_in_flight is = rests_there s t (leave_move s.config s.past (pager s) seat.0 q ends doing) left_same (waits_flight s seat.0 q ends doing (again ∙ ap (λ (w : SwapWhy). swap_again (reason_of w)) is))

    pub left_no_frame : why ≡ NoFrame → IsResting s t (leave_move s.config s.past (pager s) seat.0 q ends doing)
    left_no_frame is = rests_there s t (leave_move s.config s.past (pager s) seat.0 q ends doing) left_same (waits_frame s seat.0 q ends doing (again ∙ ap (λ (w : SwapWhy). swap_again (reason_of w)) is))

    -- a cluster is written there
    pub writes_here : why ≡ ModifiedFull → IsMoveHere s (leave_move s.config s.past (pager s) seat.0 q ends doing) → IsMoveHere t (writing_move t.config (pager t) seat.0 ends (while_leaving doing q))
    writes_here is =
        here_there s t left_same (leave_move s.config s.past (pager s) seat.0 q ends doing) (λ (x : History). writing_move x.config (pager x) seat.0 ends (while_leaving doing q)) (left_writes is)

    pub left_written : why ≡ ModifiedFull → (after : History) (c : ControlIs) → IsMoved tells.content t after (writing_move t.config (pager t) seat.0 ends (while_leaving doing q)) c
        → IsMoved tells.content s after (leave_move s.config s.past (pager s) seat.0 q ends doing) c
    left_written is after c moved =
        moved_there s t left_same (leave_move s.config s.past (pager s) seat.0 q ends doing) (λ (x : History). writing_move x.config (pager x) seat.0 ends (while_leaving doing q)) (left_writes is) tells.content after c moved
