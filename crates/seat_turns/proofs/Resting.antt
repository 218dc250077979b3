-- When the writer and the swapper rest.
use Rattle.std.proofs.Common.{◌≡◌, inl, inr, ◌⊎◌, ◌||◌, Bool, true, false, cond, List, [], Some, None, length, nat_eq, refl, sym, ap, ◌∙◌, subst, arith}
use Rattle.std.specs.Option.{option_map}
use Rattle.std.proofs.lemmas.Bool.{eqb-true, leb-true, or_cases}
use Rattle.vm_types.specs.BlockView.{BlockView, Tells}
use Rattle.vm_types.specs.declared.config.Config.{Config}
use Rattle.vm_types.specs.declared.names.Proc.{Proc}
use Rattle.vm_types.specs.declared.names.Seat.{Seat}
use Rattle.vm_journal.specs.declared.entry.Entry.{Entry}
use Rattle.pager_policy.specs.Given.{Given, given}
use Rattle.pager_policy.specs.Landings.{landed_by}
use Rattle.pager_model.specs.Pager.{Pager}
use Rattle.pager_policy.specs.Swap.{SwapIs, leave_gives, swap_again, swap_carry, swap_in_flight, swap_modified_full, swap_more, swap_no_frame, swap_settled}
use Rattle.pager_policy.specs.WriteCluster.{BeginIs, begin_carry, begin_gives, begin_nothing, is_enough, reason_high, writes_from}
use Rattle.lift_carriers.specs.CarrierView.{CarrierView}
use Rattle.vm_state.specs.Based.{base_of}
use Rattle.vm_state.specs.History.{History}
use Rattle.carried_landings.specs.Outside.{AreOut}
use Rattle.modified_writer.specs.Begins.{begin_of}
use Rattle.modified_writer.specs.declared.begun.Begin.TheVariants.{Nothing}
use Rattle.vm_swapper.specs.Swaps.{returned}
use Rattle.vm_swapper.specs.Victims.{process_number}
use Rattle.vm_swapper.specs.declared.swap.Swap.TheVariants.{Again}
use Rattle.vm_swapper.specs.declared.swap.SwapWhy.{SwapWhy}
use Rattle.vm_swapper.specs.declared.swap.SwapWhy.TheVariants.{InFlight}
use Rattle.seat_laws.proofs.FreeSeats.{free_by_lifts}
use Rattle.seat_steps.specs.Leaving.{lowest_leaving}
use Rattle.seat_turns.specs.Rests.{SwapperRests, SwapperRestsBy, WriterRests}
use Rattle.seat_turns.specs.Steps.{turned_by}
use Rattle.seat_turns.specs.Worked.{HasLandedOut}
use Rattle.seat_turns.specs.declared.turned.Turned.TheVariants.{Rests}

-- ---- the writer
pub enough_written : (config : Config) (a : Pager) → Nothing ≡ begin_of (begin_gives config a reason_high).answer → WriterRests config a
enough_written config a is = by (is_enough config a reason_high || nat_eq (length a.modified) 0) refl is
  where
    by : (b : Bool) → (is_enough config a reason_high || nat_eq (length a.modified) 0) ≡ b
        → Nothing ≡ begin_of (cond {A = Given BeginIs} b (given [] begin_nothing) (given (writes_from config a config.params.wrtcluster None a.modified) begin_carry)).answer → WriterRests config a
    by false found nothing = absurd (cc)
    by true found nothing = either (or_cases (is_enough config a reason_high) (nat_eq (length a.modified) 0) found)
      where
        either : (is_enough config a reason_high ≡ true) ⊎ (nat_eq (length a.modified) 0 ≡ true) → WriterRests config a
        either (inl enough) = leb-true (length a.modified) config.params.lolimit enough
        either (inr empty) = let none = eqb-true (length a.modified) 0 empty in omega (arith, none)

-- ---- the swapper
in_flight_by : (x : SwapIs) → Again InFlight ≡ returned x → x ≡ swap_again swap_in_flight
in_flight_by swap_carry is = absurd (cc)
in_flight_by swap_more is = absurd (cc)
in_flight_by swap_settled is = absurd (cc)
in_flight_by (swap_again swap_in_flight) is = refl
in_flight_by (swap_again swap_modified_full) is = absurd (cc)
in_flight_by (swap_again swap_no_frame) is = absurd (cc)

pub in_flight_is : (x : SwapIs) (why : SwapWhy) → Again why ≡ returned x → why ≡ InFlight → x ≡ swap_again swap_in_flight
in_flight_is x why is flight = in_flight_by x (ap Again (sym flight) ∙ is)

pub never_rests : (b : Bool) → turned_by b ≡ Rests → ⊥
never_rests true is = cc
never_rests false is = cc

-- the lowest process that is leaving waits, or none is leaving
pub swapped_lowest : (config : Config) (past : List Entry) (a : Pager) (q : Proc) → option_map process_number (Some q) ≡ lowest_leaving config a None → (leave_gives config past a q.0).answer ≡ swap_again swap_in_flight → SwapperRests config past a
swapped_lowest config past a q lowest waits = subst (SwapperRestsBy config past a) lowest waits

pub swapped_none : (config : Config) (past : List Entry) (a : Pager) → option_map process_number None ≡ lowest_leaving config a None → SwapperRestsBy config past a None → SwapperRests config past a
swapped_none config past a lowest enough = subst (SwapperRestsBy config past a) lowest enough

-- ---- a carrier without lifts: nothing lands
pub nothing_landed : {B : Type 0} {seen : B → BlockView} {tells : Tells} (s u : History) (seat : Seat) (c : CarrierView B) → AreOut seen tells (base_of s) s.past seat c → c.lifts ≡ [] → HasLandedOut s u seat → u.past ≡ s.past
nothing_landed s u seat c out none landed =
    landed.landed ∙ ap (λ xs. landed_by s.config seat.0 xs landed.outcomes s.past) (free_by_lifts seat.0 s.past c.lifts out.whole none)
