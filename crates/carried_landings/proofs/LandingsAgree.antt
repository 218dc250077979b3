-- What a lift adds when it lands is what the landing of its flight adds, with the outcome that its result tells.
use Rattle.std.proofs.Common.{◌≡◌, ℕ, Bool, true, false, List, [], ◌∷◌, Option, Some, find, nat_eq, refl, sym, ◌∙◌, subst}
use Rattle.std.proofs.lemmas.Option.{same_Some}
use Rattle.vm_types.specs.BlockView.{BlockView, Tells}
use Rattle.vm_types.specs.Configuration.{IsWellFormed}
use Rattle.vm_types.specs.declared.config.Config.{Config}
use Rattle.vm_types.specs.declared.names.Page.{Page}
use Rattle.vm_journal.specs.declared.entry.Entry.{Entry}
use Rattle.vm_journal.specs.declared.entry.What.{What}
use Rattle.vm_journal.specs.declared.entry.What.TheVariants as what
use Rattle.pager_model.specs.Counted.{counts_of, last_count}
use Rattle.pager_model.specs.Fits.{FitsResult, lands, meant}
use Rattle.pager_model.specs.Flights.{Direction, Flight, is_reading, open_flights, reading, without_flight, writing}
use Rattle.pager_policy.specs.Given.{by_seat, made_by}
use Rattle.pager_model.specs.Maps.{pfn}
use Rattle.pager_policy.specs.Landings.{Outcome, landing, reuse_of, went_badly, went_well}
use Rattle.pager_model.specs.Run.{IsRun, pager_after}
use Rattle.pager_model.specs.Transfers.{starts}
use Rattle.content_laws.proofs.LiftsStay.{lifts_stay}
use Rattle.frame_store.specs.LiftView.{LiftView}
use Rattle.frame_store.specs.declared.lift.Carried.{Carried}
use Rattle.frame_store.specs.declared.lift.Carried.TheVariants.{Waiting, Good, Bad}
use Rattle.vm_state.specs.Landings.{ended_as}
use Rattle.lift_carriers.specs.LiftsFit.{LiftFits, lift_seen, result_of}
use Rattle.vm_state.specs.LiftsLand.{landings_of, reuse_after}

-- the outcome that a result tells
abbrev pub outcome_of : Carried → Outcome
outcome_of (Bad before after) = went_badly after
outcome_of other = went_well

-- ---- by the parts of a lift
abbrev words : Bool → Carried → ℕ → ℕ → Page → List What
words is_read result f k g = ended_as is_read f k result ∷ reuse_after is_read result f g

abbrev IsCountedBy : List Entry → Flight → Carried → Type 0
IsCountedBy past x (Bad before after) = before ≡ last_count x.block past
IsCountedBy past x other = Unit {0}

same_words : (past : List Entry) (page : ℕ → Option Page) (x : Flight) (d : Direction) (r : Carried) (g : Page) → page x.frame ≡ Some g → IsCountedBy past x r
    → landing past page x d (outcome_of r) ≡ words (is_reading d) r x.frame x.start g
same_words past page x (reading role) Waiting g holds counted = refl
same_words past page x (reading role) Good g holds counted = refl
same_words past page x (reading role) (Bad before after) g holds counted =
    λ i. what.InFail (pfn x.frame) x.start (sym counted i) after ∷ reuse_of x.frame (holds i)
same_words past page x writing Waiting g holds counted = refl
same_words past page x writing Good g holds counted = refl
same_words past page x writing (Bad before after) g holds counted = λ i. what.OutFail (pfn x.frame) x.start (sym counted i) after ∷ []

-- the flight that began there is open no longer
words_land : (seat : ℕ) (past : List Entry) (is_read : Bool) (r : Carried) (f k : ℕ) (g : Page) → open_flights (made_by seat (words is_read r f k g) past) ≡ without_flight k (open_flights past)
words_land seat past true Waiting f k g = refl
words_land seat past true Good f k g = refl
words_land seat past true (Bad before after) f k g = refl
words_land seat past false Waiting f k g = refl
words_land seat past false Good f k g = refl
words_land seat past false (Bad before after) f k g = refl

pub lift_lands : {B : Type 0} (seat : ℕ) (past : List Entry) (lift : LiftView B) → open_flights (made_by seat (landings_of lift) past) ≡ without_flight lift.start (open_flights past)
lift_lands seat past lift = words_land seat past lift.is_read lift.result lift.frame lift.start lift.page

module _ {B : Type 0} (seen : B → BlockView) (tells : Tells) (config : Config) where
  abbrev pub Fits : List Entry → LiftView B → Type 0
  Fits past lift = LiftFits seen tells config past lift

  words_leave : IsWellFormed config → (seat : ℕ) (past : List Entry) (lift : LiftView B) (is_read : Bool) (r : Carried) (f k : ℕ) (g : Page) → IsRun config (made_by seat (words is_read r f k g) past) → nat_eq lift.start k ≡ false
      → Fits past lift → Fits (made_by seat (words is_read r f k g) past) lift
  words_leave formed seat past lift is_read r f k g run apart fits = by is_read r run
    where
      one : (e : Entry) (before : List Entry) → IsRun config (e ∷ before) → lands lift.start e.what ≡ false → Fits before lift → Fits (e ∷ before) lift
      one e before run other fits = lifts_stay tells.content tells.plan config before e (lift_seen seen lift) formed run other fits

      by : (b : Bool) (r : Carried) → IsRun config (made_by seat (words b r f k g) past) → Fits (made_by seat (words b r f k g) past) lift
      by true Waiting run = one (by_seat seat (what.InOk (pfn f) k)) past run apart fits
      by true Good run = one (by_seat seat (what.InOk (pfn f) k)) past run apart fits
      by true (Bad before after) run =
          let failed : Entry = by_seat seat (what.InFail (pfn f) k before after) in
          one (by_seat seat (what.Reuse (pfn f) g)) (failed ∷ past) run refl (one failed past run.0 apart fits)
      by false Waiting run = one (by_seat seat (what.OutOk (pfn f) k)) past run apart fits
      by false Good run = one (by_seat seat (what.OutOk (pfn f) k)) past run apart fits
      by false (Bad before after) run = one (by_seat seat (what.OutFail (pfn f) k before after)) past run apart fits

  -- ---- by a lift that fits
  module _ (past : List Entry) (lift : LiftView B) (fits : Fits past lift) where
    abbrev y : Flight
    y = fits.0

    pub open_here : find (starts lift.start) (open_flights past) ≡ Some y
    open_here = subst (λ (j : ℕ). find (starts j) (open_flights past) ≡ Some y) ((fits.1).flight).start (fits.1).found_x

    counted : (r : Carried) → FitsResult tells.content (lift_seen seen lift) (counts_of y.block past) (meant config past y.start lift.page y.direction) (result_of r) → IsCountedBy past y r
    counted Waiting fits = tt
    counted Good fits = tt
    counted (Bad before after) fits = fits.1

    abbrev page : ℕ → Option Page
    page = (pager_after config past).page

    landing_of_its : landing past page y y.direction (outcome_of lift.result) ≡ landings_of lift
    landing_of_its =
        let flight = (fits.1).flight in
        same_words past page y y.direction lift.result lift.page (fits.1).held_page (counted lift.result (fits.1).result)
        ∙ (λ i. words (flight.direction i) lift.result (flight.frame i) (flight.start i) lift.page)

    -- whatever open flight has its start
    pub lands_as : (x : Flight) → find (starts lift.start) (open_flights past) ≡ Some x → landing past page x x.direction (outcome_of lift.result) ≡ landings_of lift
    lands_as x found = subst (λ (z : Flight). landing past page z z.direction (outcome_of lift.result) ≡ landings_of lift) (same_Some _ _ (sym open_here ∙ found)) landing_of_its

  pub lift_leaves : IsWellFormed config → (seat : ℕ) (past : List Entry) (lift other : LiftView B) → IsRun config (made_by seat (landings_of lift) past) → nat_eq other.start lift.start ≡ false → Fits past other → Fits (made_by seat (landings_of lift) past) other
  lift_leaves formed seat past lift other run apart fits = words_leave formed seat past other lift.is_read lift.result lift.frame lift.start lift.page run apart fits
