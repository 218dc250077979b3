-- Which step of the policy a seat has made.
use Rattle.std.proofs.Common.{◌≡◌, inl, inr, ◌⊎◌, ℕ, Bool, true, false, List, [], ◌∷◌, Option, Some, None, length, refl, sym, ap, ◌∙◌, subst}
use Rattle.std.proofs.lemmas.Option.{none-some}
use Rattle.vm_types.specs.declared.config.Config.{Config}
use Rattle.vm_types.specs.declared.names.ProcStatus.TheVariants as status
use Rattle.vm_types.specs.declared.names.Seat.{Seat}
use Rattle.vm_types.specs.declared.service.Request.{Request}
use Rattle.vm_journal.specs.declared.entry.Entry.{Entry}
use Rattle.vm_journal.specs.declared.entry.What.{What}
use Rattle.pager_model.specs.Flights.{carrier_of, is_busy, open_flights}
use Rattle.pager_policy.specs.Given.{by_seat}
use Rattle.pager_policy.specs.Landings.{Outcome, all_bad, first_bad, landed_by}
use Rattle.pager_policy.specs.Serial.{refusal_of}
use Rattle.pager_policy.specs.Swap.{SwapIs, swap_again, swap_carry, swap_in_flight, swap_modified_full, swap_more, swap_no_frame, swap_settled}
use Rattle.pager_model.specs.Maps.{proc}
use Rattle.lift_carriers.specs.CarrierView.{CarrierView}
use Rattle.vm_state.specs.History.{History, pager}
use Rattle.vm_state.specs.LiftsLand.{added_each}
use Rattle.vm_swapper.specs.Swaps.{returned}
use Rattle.vm_swapper.specs.declared.swap.Swap.TheVariants.{Again}
use Rattle.vm_swapper.specs.declared.swap.SwapWhy.{SwapWhy}
use Rattle.vm_swapper.specs.declared.swap.SwapWhy.TheVariants.{ModifiedFull, NoFrame}
use Rattle.seat_laws.specs.FreeSeat.{IsFreeSeat}
use Rattle.seat_laws.proofs.FreeSeats.{not_busy, past_is}
use Rattle.seat_steps.specs.Steps.{IsStep, IsStepFor, LooksForFrames, Step, WorksFor, makes_nothing, step_gives}
use Rattle.seat_steps.specs.Turns.{HasFailed, HasStepped}
use Rattle.seat_steps.specs.Waits.{WaitsForFrame}
use Rattle.seat_turns.specs.Worked.{HasLandedOut, WasLost}

-- ---- one step, by what it makes
pub step_of : (s t : History) (seat : Seat) (request : Option Request) (step : Step) → IsStepFor s.config s.past seat.0 request step → t ≡ added_each seat (step_gives s.config s.past (pager s) seat.0 step) s → IsStep s.config s.past t.past seat.0 request
step_of s t seat request step made_for history = record { step = step; made_for = made_for; is = past_is s seat t (step_gives s.config s.past (pager s) seat.0 step) history }

pub no_step : (s t : History) (seat : ℕ) (request : Option Request) → t ≡ s → IsStep s.config s.past t.past seat request
no_step s t seat request same = record { step = makes_nothing; made_for = tt; is = ap (λ (u : History). u.past) same }

-- by the seat of a carrier
pub step_at : (s t : History) (own seat : Seat) → own ≡ seat → (request : Option Request) (step : Step) → IsStepFor s.config s.past seat.0 request step → t ≡ added_each own (step_gives s.config s.past (pager s) seat.0 step) s → IsStep s.config s.past t.past seat.0 request
step_at s t own seat is request step made_for history =
    step_of s t seat request step made_for (subst (λ (x : Seat). t ≡ added_each x (step_gives s.config s.past (pager s) seat.0 step) s) is history)

-- where nothing was made before
pub step_from : (s u t : History) (seat : ℕ) (request : Option Request) → u ≡ s → IsStep u.config u.past t.past seat request → IsStep s.config s.past t.past seat request
step_from s u t seat request same step = subst (λ (x : History). IsStep x.config x.past t.past seat request) same step

pub step_after : {B : Type 0} (s u t : History) (c e : CarrierView B) (For : History → ℕ → Option Request → Type 0) → (u ≡ s) × (e ≡ c)
    → ((request : Option Request) → For u (e.seat).0 request → IsStep u.config u.past t.past (e.seat).0 request) → (request : Option Request) → For s (c.seat).0 request → IsStep s.config s.past t.past (c.seat).0 request
step_after {B} s u t c e For same step =
    subst (λ (d : CarrierView B). (request : Option Request) → For s (d.seat).0 request → IsStep s.config s.past t.past (d.seat).0 request) same.1
    (subst (λ (x : History). (request : Option Request) → For x (e.seat).0 request → IsStep x.config x.past t.past (e.seat).0 request) same.0 step)

-- ---- why a process can't go on
modified_full_by : (x : SwapIs) → Again ModifiedFull ≡ returned x → x ≡ swap_again swap_modified_full
modified_full_by swap_carry is = absurd (cc)
modified_full_by swap_more is = absurd (cc)
modified_full_by swap_settled is = absurd (cc)
modified_full_by (swap_again swap_in_flight) is = absurd (cc)
modified_full_by (swap_again swap_modified_full) is = refl
modified_full_by (swap_again swap_no_frame) is = absurd (cc)

pub modified_full_is : (x : SwapIs) (why : SwapWhy) → Again why ≡ returned x → why ≡ ModifiedFull → x ≡ swap_again swap_modified_full
modified_full_is x why is full = modified_full_by x (ap Again (sym full) ∙ is)

no_frame_by : (x : SwapIs) → Again NoFrame ≡ returned x → x ≡ swap_again swap_no_frame
no_frame_by swap_carry is = absurd (cc)
no_frame_by swap_more is = absurd (cc)
no_frame_by swap_settled is = absurd (cc)
no_frame_by (swap_again swap_in_flight) is = absurd (cc)
no_frame_by (swap_again swap_modified_full) is = absurd (cc)
no_frame_by (swap_again swap_no_frame) is = refl

pub no_frame_is : (x : SwapIs) (why : SwapWhy) → Again why ≡ returned x → why ≡ NoFrame → x ≡ swap_again swap_no_frame
no_frame_is x why is none = no_frame_by x (ap Again (sym none) ∙ is)

-- ---- a process looks for frames
pub looks_for : (s : History) (seat p : ℕ) (request : Option Request) → p ≡ seat → WorksFor request (WaitsForFrame s.config s.past seat) → (pager s).modified ≡ [] → LooksForFrames s.config s.past seat request (Some p)
looks_for s seat p request own works none = subst (λ (x : Option Request). LooksForFrames s.config s.past seat x (Some p)) (sym works.asks) (own, (works.is, none))

pub works_for_none : {Is : Request → Type 0} (request : Option Request) → WorksFor request Is → request ≡ None → ⊥
works_for_none {Is} request works none = none-some works.x (sym none ∙ works.asks)

-- ---- a turn: what was open has landed, and then
module _ (s u r : History) (seat : Seat) (landed : HasLandedOut s u seat) (config : r.config ≡ u.config) (past : r.past ≡ u.past) where
  idle : is_busy seat.0 (open_flights u.past) ≡ false
  idle = not_busy seat.0 u.past landed.none

  same_config : r.config ≡ s.config
  same_config = config ∙ ap (λ (x : History). x.config) landed.same

  -- one step is made
  pub stepped_then : (t : History) (request : Option Request) → IsStep r.config r.past t.past seat.0 request → HasStepped s.config s.past t.past seat.0 request
  stepped_then t request step = record {
    outcomes = landed.outcomes;
    each = landed.each;
    landed = u.past;
    landed_is = landed.landed;
    idle = idle;
    calm = landed.calm;
    stepped = inr (subst (λ (c : Config). IsStep c u.past t.past seat.0 request) same_config (subst (λ (xs : List Entry). IsStep r.config xs t.past seat.0 request) past step));
  }

  -- or none
  pub stepped_none : (request : Option Request) → HasStepped s.config s.past r.past seat.0 request
  stepped_none request = stepped_then r request (no_step r r seat.0 request refl)

  -- or the request is refused
  pub stepped_refused : (t : History) (x : Request) (own : Bool) → WasLost s u seat.0 own → (carrier_of seat.0 s.past ≡ [] → ⊥) → ((outcomes : List Outcome) → (all_bad outcomes ≡ true) ⊎ ((own ≡ true) × (first_bad outcomes ≡ true)) → HasFailed x outcomes)
      → t.past ≡ by_seat seat.0 (refusal_of (record { proc = proc seat.0; request = x })) ∷ r.past → HasStepped s.config s.past t.past seat.0 (Some x)
  stepped_refused t x own lost some failed is = record {
    outcomes = lost.outcomes;
    each = lost.each;
    landed = u.past;
    landed_is = lost.landed;
    idle = idle;
    calm = landed.calm;
    stepped = inl (record { x = x; asks = refl; some_open = some; failed = failed lost.outcomes lost.failed; is = is ∙ ap (λ (xs : List Entry). by_seat seat.0 (refusal_of (record { proc = proc seat.0; request = x })) ∷ xs) past });
  }

-- nothing was open
pub stepped_free : (s t : History) (seat : Seat) (request : Option Request) → IsFreeSeat s seat → IsStep s.config s.past t.past seat.0 request → HasStepped s.config s.past t.past seat.0 request
stepped_free s t seat request free step = record {
  outcomes = [];
  each = sym (ap length free.free);
  landed = s.past;
  landed_is = ap (λ xs. landed_by s.config seat.0 xs [] s.past) (sym free.free);
  idle = not_busy seat.0 s.past free.free;
  calm = free.calm;
  stepped = inr step;
}
