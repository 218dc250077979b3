-- A turn that lands what was out, and then makes a step or none.
use Rattle.std.proofs.Common.{◌≡◌, inl, inr, ◌⊎◌, ℕ, ◌+◌, ◌<◌, ◌≤◌, Bool, true, false, List, [], ◌∷◌, ◌++◌, Option, Some, None, length, refl, sym, ap, ◌∙◌, subst, append_assoc, arith, not}
use Rattle.std.proofs.lemmas.Bool.{true≢false}
use Rattle.vm_types.specs.BlockView.{BlockView, Tells}
use Rattle.vm_types.specs.WellFormed.{IsServiceOf}
use Rattle.vm_types.specs.declared.config.Config.{Config}
use Rattle.vm_types.specs.declared.names.Page.{Page}
use Rattle.vm_types.specs.declared.names.Proc.{Proc}
use Rattle.vm_types.specs.declared.names.Seat.{Seat}
use Rattle.vm_types.specs.declared.service.Request.{Request}
use Rattle.vm_types.specs.declared.service.Service.{Service}
use Rattle.vm_journal.specs.declared.entry.Entry.{Entry}
use Rattle.vm_journal.specs.declared.entry.What.{What}
use Rattle.pager_model.specs.Flights.{Direction, Flight, awaits_reuse, is_busy, open_flights, reading, writing, carrier_of}
use Rattle.pager_policy.specs.Given.{by_seat, made_by}
use Rattle.pager_policy.specs.Landings.{Outcome, all_bad, first_bad, landed_by, landing, reuse_of, went_badly, went_well}
use Rattle.pager_model.specs.Run.{pager_after}
use Rattle.lift_carriers.specs.CarrierView.{CarrierView}
use Rattle.vm_state.specs.History.{History, owed}
use Rattle.call_begins.specs.MayBegin.{empty}
use Rattle.carried_landings.specs.HaveLanded.{HaveLanded}
use Rattle.carried_landings.specs.declared.carrier_landed.CarrierLanded.{CarrierLanded}
use Rattle.seat_laws.specs.FreeSeat.{IsFreeSeat}
use Rattle.seat_laws.proofs.FreeSeats.{carries_none}
use Rattle.seat_turns.specs.Steps.{AreUnspoken, HasOnlyLanded, HasTurned, TurnTells, is_short, seat_of}
use Rattle.seat_turns.specs.Worked.{HasLandedOut, WasLost}
use Rattle.seat_turns.specs.declared.turned.Turned.{Turned}
use Rattle.seat_turns.specs.declared.turned.Turned.TheVariants.{Spoke, Reads, Made, Waits, Rests, Short}
use Rattle.seat_turns.proofs.Unspoken.{unspoken_then}
use Rattle.seat_turns.proofs.Worked.{empty_out, empty_waits, no_lifts}

pub made_then : (seat : ℕ) (xs ys : List What) (past : List Entry) → made_by seat (xs ++ ys) past ≡ made_by seat ys (made_by seat xs past)
made_then seat [] ys past = refl
made_then seat (x ∷ xs) ys past = made_then seat xs ys (by_seat seat x ∷ past)

-- ---- what lands is a list of entries of the seat that answer nothing
reuse_unspoken : (f : ℕ) (o : Option Page) → AreUnspoken (reuse_of f o)
reuse_unspoken f None = tt
reuse_unspoken f (Some g) = (refl, tt)

landing_unspoken : (past : List Entry) (page : ℕ → Option Page) (x : Flight) (d : Direction) (o : Outcome) → AreUnspoken (landing past page x d o)
landing_unspoken past page x (reading r) went_well = (refl, tt)
landing_unspoken past page x (reading r) (went_badly d) = (refl, reuse_unspoken x.frame (page x.frame))
landing_unspoken past page x writing went_well = (refl, tt)
landing_unspoken past page x writing (went_badly d) = (refl, tt)

pub landed_made : (config : Config) (seat : ℕ) (flights : List Flight) (outcomes : List Outcome) (past : List Entry) → (ws : List What) × (landed_by config seat flights outcomes past ≡ made_by seat ws past) × AreUnspoken ws
landed_made config seat [] outcomes past = ([], refl, tt)
landed_made config seat (x ∷ flights) [] past = ([], refl, tt)
landed_made config seat (x ∷ flights) (o ∷ outcomes) past =
    let ws = landing past (pager_after config past).page x x.direction o in
    let rest = landed_made config seat flights outcomes (made_by seat ws past) in
    (ws ++ rest.0, rest.1 ∙ sym (made_then seat ws rest.0 past), unspoken_then ws rest.0 (landing_unspoken past (pager_after config past).page x x.direction o) rest.2)

tells_then : (turned : Turned) (request : Option Request) (xs ys : List What) → AreUnspoken xs → TurnTells turned request ys → TurnTells turned request (xs ++ ys)
tells_then (Spoke shown) (Some x) xs ys first tells = record {
  before = xs ++ tells.before;
  last = tells.last;
  made_is = ap (λ (ws : List What). xs ++ ws) tells.made_is ∙ sym (append_assoc xs tells.before (tells.last ∷ []));
  unspoken = unspoken_then xs tells.before first tells.unspoken;
  answer = tells.answer;
}
tells_then (Spoke shown) None xs ys first tells = absurd tells
tells_then Reads request xs ys first tells = unspoken_then xs ys first tells
tells_then Made request xs ys first tells = unspoken_then xs ys first tells
tells_then Waits request xs ys first tells = unspoken_then xs ys first tells
tells_then Rests request xs ys first tells = unspoken_then xs ys first tells
tells_then Short request xs ys first tells = unspoken_then xs ys first tells

-- ---- the landing
pub landed_out : (s t : History) (seat own : Seat) (answer : CarrierLanded) → own ≡ seat → HaveLanded s.config own.0 s.past t.past answer → t ≡ record s { past = t.past; spare = t.spare } → awaits_reuse t.past ≡ false → is_busy own.0 (open_flights t.past) ≡ false → HasLandedOut s t seat
landed_out s t seat own answer is landed same calm idle =
    subst (HasLandedOut s t) is (record { outcomes = landed.outcomes; each = landed.each; landed = landed.landed; same = same; calm = calm; none = carries_none own.0 t.past idle })

-- a state that has room, or hasn't and is halted
abbrev pub IsRoomed : History → History → Bool → Type 0
IsRoomed u v halted = v ≡ record u { spare = v.spare; halted = halted }

module _ (s u v : History) (seat : Seat) (landed : HasLandedOut s u seat) (halted : Bool) (roomed : IsRoomed u v halted) where
  pub past_still : v.past ≡ u.past
  past_still = ap (λ (x : History). x.past) roomed

  pub none_open : carrier_of seat.0 v.past ≡ []
  none_open = ap (carrier_of seat.0) past_still ∙ landed.none

  pub still_calm : awaits_reuse v.past ≡ false
  still_calm = ap awaits_reuse past_still ∙ landed.calm

  pub config_still : v.config ≡ s.config
  config_still = ap (λ (x : History). x.config) roomed ∙ ap (λ (x : History). x.config) landed.same

  -- the seat may go on
  pub free_after : seat.0 < length s.config.procs + 2 → owed v.past + 64 ≤ v.spare → IsFreeSeat v seat
  free_after there room = record {
    there = subst (λ (c : Config). seat.0 < length c.procs + 2) (sym config_still) there;
    free = none_open;
    calm = still_calm;
    room = room;
  }

  pub halted_is : v.halted ≡ halted
  halted_is = ap (λ (x : History). x.halted) roomed

  abbrev only : HasOnlyLanded s v seat.0
  only = record { outcomes = landed.outcomes; landed = past_still ∙ landed.landed }

  module _ {B : Type 0} {seen : B → BlockView} {tells : Tells} where
    -- and then it makes a step
    pub turned_then : (t : History) (request : Option Request) (turned : Turned) (c : CarrierView B) → HasTurned seen tells v t seat request turned c → HasTurned seen tells s t seat request turned c
    turned_then t request turned c step =
        let first = landed_made s.config seat.0 (carrier_of seat.0 s.past) landed.outcomes s.past in
        let past_v : v.past ≡ made_by seat.0 first.0 s.past = past_still ∙ (landed.landed ∙ first.1) in
        record {
          made = first.0 ++ step.made;
          past = step.past ∙ (ap (made_by seat.0 step.made) past_v ∙ sym (made_then seat.0 first.0 step.made s.past));
          same =
              step.same
              ∙ ((λ i. record (roomed i) { past = t.past; spare = t.spare; halted = is_short turned }) ∙ (λ i. record (landed.same i) { past = t.past; spare = t.spare; halted = is_short turned }));
          answers = tells_then turned request first.0 step.made first.2 step.answers;
          idle = λ yes.
              let none = step.idle yes in
              record { outcomes = landed.outcomes; landed = none.landed ∙ (ap (λ (xs : List Flight). landed_by v.config seat.0 xs none.outcomes v.past) none_open ∙ only.landed) };
          calm = step.calm;
          out = step.out;
          staged = step.staged;
        }

    -- or none
    pub short_turned : halted ≡ true → (request : Option Request) (c : CarrierView B) → c ≡ empty seat → HasTurned seen tells s v seat request Short c
    short_turned is_halted request c is =
        let first = landed_made s.config seat.0 (carrier_of seat.0 s.past) landed.outcomes s.past in
        record {
          made = first.0;
          past = only.landed ∙ first.1;
          same = roomed ∙ (λ i. record (landed.same i) { past = sym past_still i; spare = v.spare; halted = is_halted i });
          answers = first.2;
          idle = λ short. only;
          calm = still_calm;
          out = empty_out v seat c is none_open;
          staged = no_lifts seat c is;
        }

-- ---- what the landing of a carrier says
pub emptied : {B : Type 0} (seat : Seat) (old new : CarrierView B) → old.seat ≡ seat → new ≡ record old { lifts = [] } → new ≡ empty seat
emptied seat old new own is = is ∙ (λ i. record { seat = own i; lifts = [] })

pub was_lost : (s t : History) (seat mine : Seat) (answer : CarrierLanded) (own : Bool) → mine ≡ seat → HaveLanded s.config mine.0 s.past t.past answer → (answer.all_failed ≡ true) ⊎ ((own ≡ true) × (answer.first_failed ≡ true)) → WasLost s t seat.0 own
was_lost s t seat mine answer own is landed failed = subst (λ (x : Seat). WasLost s t x.0 own) is (record { outcomes = landed.outcomes; each = landed.each; landed = landed.landed; failed = by failed })
  where
    by : (answer.all_failed ≡ true) ⊎ ((own ≡ true) × (answer.first_failed ≡ true)) → (all_bad landed.outcomes ≡ true) ⊎ ((own ≡ true) × (first_bad landed.outcomes ≡ true))
    by (inl all) = inl (sym landed.all_failed ∙ all)
    by (inr first) = inr (first.0, sym landed.first_failed ∙ first.1)

-- ---- where there is room
module _ (s u v : History) (p : Proc) (landed : HasLandedOut s u (seat_of p)) (some : Bool) (is : some ≡ true) (roomed : v ≡ record u { spare = v.spare; halted = not some }) where
  abbrev stays : IsRoomed u v false
  stays = roomed ∙ (λ i. record u { spare = v.spare; halted = not (is i) })

  pub running_here : v.halted ≡ false
  running_here = halted_is s u v (seat_of p) landed false stays

  pub free_here : p.0 < length s.config.procs → owed v.past + 64 ≤ v.spare → IsFreeSeat v (seat_of p)
  free_here process room = free_after s u v (seat_of p) landed false stays (omega (arith, process)) room

  pub process_here : p.0 < length s.config.procs → p.0 < length v.config.procs
  process_here process = subst (λ (c : Config). p.0 < length c.procs) (sym (config_still s u v (seat_of p) landed false stays)) process

  pub service_here : (x : Service) → IsServiceOf s.config.version x → IsServiceOf v.config.version x
  service_here x known = subst (λ (c : Config). IsServiceOf c.version x) (sym (config_still s u v (seat_of p) landed false stays)) known

  pub past_here : v.past ≡ u.past
  past_here = ap (λ (x : History). x.past) stays

  pub turned_here : {B : Type 0} {seen : B → BlockView} {tells : Tells} (t : History) (request : Option Request) (turned : Turned) (c : CarrierView B) → HasTurned seen tells v t (seat_of p) request turned c → HasTurned seen tells s t (seat_of p) request turned c
  turned_here t request turned c step = turned_then s u v (seat_of p) landed false stays t request turned c step

-- a state that was halted has no room
pub not_running : (s u : History) (seat : Seat) → HasLandedOut s u seat → (some : Bool) → (u.halted ≡ true → some ≡ false) → some ≡ true → s.halted ≡ true → ⊥
not_running s u seat landed some halted is was = true≢false (sym is ∙ halted (ap (λ (x : History). x.halted) landed.same ∙ was))

-- ---- nothing was out
-- other spare places change nothing of a turn
pub respared_turned : {B : Type 0} {seen : B → BlockView} {tells : Tells} (s v t : History) (seat : Seat) → v ≡ record s { spare = v.spare; halted = false } → (request : Option Request) (turned : Turned) (c : CarrierView B) → HasTurned seen tells v t seat request turned c
    → HasTurned seen tells s t seat request turned c
respared_turned s v t seat same request turned c step = record {
  made = step.made;
  past = step.past ∙ ap (λ (x : History). made_by seat.0 step.made x.past) same;
  same = step.same ∙ (λ i. record (same i) { past = t.past; spare = t.spare; halted = is_short turned });
  answers = step.answers;
  idle = λ yes.
      let none = step.idle yes in
      record { outcomes = none.outcomes; landed = none.landed ∙ ap (λ (x : History). landed_by x.config seat.0 (carrier_of seat.0 x.past) none.outcomes x.past) same };
  calm = step.calm;
  out = step.out;
  staged = step.staged;
}

-- what was out has landed, and nothing else was made
pub landed_turned : {B : Type 0} {seen : B → BlockView} {tells : Tells} (s u v : History) (seat : Seat) (landed : HasLandedOut s u seat) → v ≡ record u { spare = v.spare; halted = false } → (request : Option Request) (c : CarrierView B) → c ≡ empty seat
    → HasTurned seen tells s v seat request Made c
landed_turned s u v seat landed roomed request c is =
    let first = landed_made s.config seat.0 (carrier_of seat.0 s.past) landed.outcomes s.past in
    let still = past_still s u v seat landed false roomed in
    record {
      made = first.0;
      past = still ∙ (landed.landed ∙ first.1);
      same = roomed ∙ (λ i. record (landed.same i) { past = sym still i; spare = v.spare; halted = false });
      answers = first.2;
      idle = λ no. absurd no;
      calm = still_calm s u v seat landed false roomed;
      out = empty_out v seat c is (none_open s u v seat landed false roomed);
      staged = empty_waits seat c is;
    }

-- the history but for its spare places is as before, where nothing landed
pub still_same : (s u v : History) (seat : Seat) (landed : HasLandedOut s u seat) → v ≡ record u { spare = v.spare; halted = false } → u.past ≡ s.past → v ≡ record s { spare = v.spare; halted = false }
still_same s u v seat landed roomed nothing = roomed ∙ (λ i. record (landed.same i) { past = nothing i; spare = v.spare; halted = false })

pub has_some : {B : Type 0} (c : CarrierView B) (count : ℕ) → count ≡ length c.lifts → 0 < count → c.lifts ≡ [] → ⊥
has_some c count is some none = let same = ap length none in omega (arith, is, some, same)
