-- A step of a process that comes back, as a move of the serial policy.
use Rattle.std.proofs.Common.{◌≡◌, Bool, refl, sym, ap, subst}
use Rattle.vm_types.specs.BlockView.{BlockView, Tells}
use Rattle.vm_types.specs.declared.names.Seat.{Seat}
use Rattle.pager_policy.specs.Moves.{After, Control as ControlIs, Move, asking, carries, control, makes}
use Rattle.pager_policy.specs.Policy.{come_move_by, ends_request, unless_all_failed}
use Rattle.pager_policy.specs.Swap.{GivenSwap, SwapIs, come_gives, swap_again, swap_carry, swap_in_flight, swap_modified_full, swap_more, swap_no_frame, swap_settled}
use Rattle.vm_swapper.specs.Swaps.{Swaps}
use Rattle.vm_swapper.specs.declared.swap.Swap.TheVariants.{Again, Carry, More, Settled}
use Rattle.vm_swapper.specs.declared.swap.SwapWhy.{SwapWhy}
use Rattle.vm_swapper.specs.declared.swap.SwapWhy.TheVariants.{InFlight, ModifiedFull, NoFrame}
use Rattle.lift_carriers.specs.CarrierView.{CarrierView}
use Rattle.vm_state.specs.History.{History, pager}
use Rattle.vm_state.specs.LiftsLand.{added_each}
use Rattle.carried_landings.specs.CarriedOn.{IsCarriedOn, IsLoaded, MayRefuse}
use Rattle.carried_landings.specs.Moved.{IsMoveHere, IsMoved, IsResting, IsSteady}
use Rattle.carried_landings.proofs.Entries.{quiet_mute, starts_mute}
use Rattle.carried_landings.proofs.Moving.{carries_move, loaded, makes_move, may_refuse}
use Rattle.carried_landings.proofs.Shapes.{AreQuiet, SwapShape, come_shape}
use Rattle.serial_moves.specs.Requests.{come_move, finding_for}
use Rattle.serial_moves.proofs.LeftProcesses.{carry_is, full_is, in_flight_is, more_is, no_frame_is, settled_is}
use Rattle.serial_moves.proofs.SteadySeats.{rests_there, unchanged}

-- after its transfers the policy is at the request, which is refused if each failed
abbrev pub after_coming : Bool → Bool → After
after_coming = unless_all_failed ends_request (control asking)

module _ (s t : History) (seat : Seat) where
  abbrev g : GivenSwap
  g = come_gives s.config s.past (pager s) seat.0

  move_by : (x : SwapIs) → g.answer ≡ x → come_move s seat.0 ≡ come_move_by s.config s.past (pager s) seat.0 g.made x
  move_by x is = ap (come_move_by s.config s.past (pager s) seat.0 g.made) is

  shape_by : (x : SwapIs) → g.answer ≡ x → SwapShape x g.made
  shape_by x is = subst (λ (y : SwapIs). SwapShape y g.made) is (come_shape s.config s.past (pager s) seat.0)

  made_on : (tells : Bool) → come_move s seat.0 ≡ makes seat.0 g.made (control asking) → t ≡ added_each seat g.made s → AreQuiet g.made → IsMoved tells s t (come_move s seat.0) (control asking)
  made_on tells move history quiet =
      subst (λ (m : Move). IsMoved tells s t m (control asking)) (sym move) (makes_move s t seat g.made history tells (control asking) (quiet_mute g.made quiet))

  module _ {B : Type 0} {seen : B → BlockView} {tells : Tells} {old new : CarrierView B} where
    -- ---- transfers were begun
    module _ (swaps : Swaps seen tells s t seat g Carry old new) where
      kind : g.answer ≡ swap_carry
      kind = carry_is g.answer swaps.answer

      carries_is : come_move s seat.0 ≡ carries seat.0 g.made after_coming
      carries_is = move_by swap_carry kind

      pub come_loaded : IsSteady s → IsLoaded seen tells t seat new
      come_loaded steady = loaded s t seat g.made swaps.history new steady.between (shape_by swap_carry kind) swaps.carrier

      pub come_may : IsSteady s → IsMoveHere s (come_move s seat.0) → MayRefuse t.config t.past seat.0 after_coming
      come_may steady here = may_refuse s t seat g.made swaps.history after_coming steady.between (subst (λ (m : Move). IsMoveHere s m) carries_is here)

      pub come_carried : (after : History) (c : ControlIs) → IsCarriedOn tells.content t after seat.0 after_coming c → IsMoved tells.content s after (come_move s seat.0) c
      come_carried after c carried =
          subst (λ (m : Move). IsMoved tells.content s after m c) (sym carries_is)
          (carries_move s t seat g.made swaps.history tells.content after after_coming c (starts_mute g.made (shape_by swap_carry kind)) carried)

    -- ---- an entry was made
    pub come_more : Swaps seen tells s t seat g More old new → IsMoved tells.content s t (come_move s seat.0) (control asking)
    come_more swaps =
        let is = more_is g.answer swaps.answer in
        made_on tells.content (move_by swap_more is) swaps.history (shape_by swap_more is)

    pub come_settled : Swaps seen tells s t seat g Settled old new → IsMoved tells.content s t (come_move s seat.0) (control asking)
    come_settled swaps =
        let is = settled_is g.answer swaps.answer in
        made_on tells.content (move_by swap_settled is) swaps.history (shape_by swap_settled is)

    -- ---- nothing was made
    pub come_same : (why : SwapWhy) → Swaps seen tells s t seat g (Again why) old new → t ≡ s
    come_same InFlight swaps = unchanged s t seat g.made swaps.history (shape_by (swap_again swap_in_flight) (in_flight_is g.answer swaps.answer))
    come_same ModifiedFull swaps = unchanged s t seat g.made swaps.history (shape_by (swap_again swap_modified_full) (full_is g.answer swaps.answer))
    come_same NoFrame swaps = unchanged s t seat g.made swaps.history (shape_by (swap_again swap_no_frame) (no_frame_is g.answer swaps.answer))

    -- for lack of a frame
    pub come_finds : (why : SwapWhy) → why ≡ NoFrame → Swaps seen tells s t seat g (Again why) old new → come_move s seat.0 ≡ finding_for s seat.0
    come_finds InFlight is swaps = absurd (cc)
    come_finds ModifiedFull is swaps = absurd (cc)
    come_finds NoFrame is swaps = move_by (swap_again swap_no_frame) (no_frame_is g.answer swaps.answer)

    -- for another reason
    pub come_rests : (why : SwapWhy) → (why ≡ NoFrame → ⊥) → Swaps seen tells s t seat g (Again why) old new → IsResting s t (come_move s seat.0)
    come_rests InFlight other swaps = rests_there s t (come_move s seat.0) (come_same InFlight swaps) (move_by (swap_again swap_in_flight) (in_flight_is g.answer swaps.answer))
    come_rests ModifiedFull other swaps = rests_there s t (come_move s seat.0) (come_same ModifiedFull swaps) (move_by (swap_again swap_modified_full) (full_is g.answer swaps.answer))
    come_rests NoFrame other swaps = absurd (other refl)
