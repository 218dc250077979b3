-- What landings leave as it was.
use Rattle.std.proofs.Common.{◌≡◌, ◌⊎◌, inl, inr, ℕ, ◌+◌, Bool, true, false, not, cond, List, [], ◌∷◌, Option, Some, None, length, find, nat_eq, refl, sym, ap, ◌∙◌}
use Rattle.std.specs.List.{AllByRecursion}
use Rattle.std.proofs.lemmas.Bool.{eq-eqb, true≢false, false≢true}
use Rattle.vm_types.specs.declared.names.Page.{Page}
use Rattle.vm_types.specs.declared.config.Config.{Config}
use Rattle.vm_journal.specs.declared.entry.Entry.{Entry}
use Rattle.vm_journal.specs.declared.entry.Role.TheVariants as role
use Rattle.vm_journal.specs.declared.entry.What.{What}
use Rattle.vm_journal.specs.declared.entry.What.TheVariants as what
use Rattle.pager_model.specs.Carrier.{Carrying, carrying, carrying_with}
use Rattle.pager_model.specs.Counted.{last_count}
use Rattle.pager_model.specs.Flights.{Direction, Flight, is_busy, open_flights, reading, without_flight, writing}
use Rattle.pager_policy.specs.Given.{by_seat, made_by}
use Rattle.pager_model.specs.Maps.{pfn}
use Rattle.pager_model.specs.InOk.{after_in_ok}
use Rattle.pager_policy.specs.Landings.{Outcome, first_bad, landed_by, landing, reuse_of, went_badly, went_well}
use Rattle.pager_model.specs.Pager.{Pager}
use Rattle.pager_model.specs.Run.{pager_after}
use Rattle.pager_model.specs.Transfers.{starts}
use Rattle.pager_rules.proofs.Lists.{all_filter, all_found}
use Rattle.serial_laws.proofs.Carriers.{own_entry}
use Rattle.serial_laws.proofs.Steps.{IsSteady, NoneEnters, is_steady, none_made, none_refl, none_then, steady_made, steady_refl, steady_then}

-- ---- every landing
landing_steady : (past : List Entry) (page : ℕ → Option Page) (x : Flight) (d : Direction) (o : Outcome) → AllByRecursion (λ (w : What). is_steady w ≡ true) (landing past page x d o)
landing_steady past page x (reading r) went_well = (refl, tt)
landing_steady past page x (reading r) (went_badly n) = (refl, by (page x.frame))
  where
    by : (o : Option Page) → AllByRecursion (λ (w : What). is_steady w ≡ true) (reuse_of x.frame o)
    by None = tt
    by (Some g) = (refl, tt)
landing_steady past page x writing went_well = (refl, tt)
landing_steady past page x writing (went_badly n) = (refl, tt)

pub landed_steady : (config : Config) (seat : ℕ) (flights : List Flight) (outcomes : List Outcome) (past : List Entry) → IsSteady config past (landed_by config seat flights outcomes past)
landed_steady config seat [] outcomes past = steady_refl config past
landed_steady config seat (x ∷ flights) [] past = steady_refl config past
landed_steady config seat (x ∷ flights) (o ∷ outcomes) past =
    let ws = landing past (pager_after config past).page x x.direction o in
    steady_then config past (made_by seat ws past) (landed_by config seat flights outcomes (made_by seat ws past)) (steady_made config seat ws past (landing_steady past (pager_after config past).page x x.direction o)) (landed_steady config seat flights outcomes (made_by seat ws past))

-- ---- the first flight of the seat's carrier stays
first_stays : (seat : ℕ) (past : List Entry) (w : What) → (carrying_with (length past + 1) seat (is_busy seat (open_flights past)) w (carrying seat past)).first ≡ (carrying seat past).first → (carrying seat (by_seat seat w ∷ past)).first ≡ (carrying seat past).first
first_stays seat past w same = ap (λ (c : Carrying). c.first) (own_entry seat past w) ∙ same

landing_first : (seat : ℕ) (past : List Entry) (page : ℕ → Option Page) (x : Flight) (d : Direction) (o : Outcome) → (carrying seat (made_by seat (landing past page x d o) past)).first ≡ (carrying seat past).first
landing_first seat past page x (reading r) went_well = first_stays seat past (what.InOk (pfn x.frame) x.start) refl
landing_first seat past page x (reading r) (went_badly n) = by (page x.frame) ∙ first_stays seat past (what.InFail (pfn x.frame) x.start (last_count x.block past) n) refl
  where
    by : (o : Option Page) → (carrying seat (made_by seat (reuse_of x.frame o) (by_seat seat (what.InFail (pfn x.frame) x.start (last_count x.block past) n) ∷ past))).first ≡ (carrying seat (by_seat seat (what.InFail (pfn x.frame) x.start (last_count x.block past) n) ∷ past)).first
    by None = refl
    by (Some g) = first_stays seat (by_seat seat (what.InFail (pfn x.frame) x.start (last_count x.block past) n) ∷ past) (what.Reuse (pfn x.frame) g) refl
landing_first seat past page x writing went_well = first_stays seat past (what.OutOk (pfn x.frame) x.start) refl
landing_first seat past page x writing (went_badly n) = first_stays seat past (what.OutFail (pfn x.frame) x.start (last_count x.block past) n) refl

pub landed_first : (config : Config) (seat : ℕ) (flights : List Flight) (outcomes : List Outcome) (past : List Entry) → (carrying seat (landed_by config seat flights outcomes past)).first ≡ (carrying seat past).first
landed_first config seat [] outcomes past = refl
landed_first config seat (x ∷ flights) [] past = refl
landed_first config seat (x ∷ flights) (o ∷ outcomes) past =
    landed_first config seat flights outcomes (made_by seat (landing past (pager_after config past).page x x.direction o) past) ∙ landing_first seat past (pager_after config past).page x x.direction o

-- ---- a neighbour's read and a write make no entry valid
abbrev pub enters : Direction → Bool
enters (reading (role.Near g)) = false
enters (reading other) = true
enters writing = false

abbrev pub NoneOpen : List Entry → Type 0
NoneOpen past = AllByRecursion (λ (x : Flight). enters x.direction ≡ false) (open_flights past)

in_ok_none : (a : Pager) (f : ℕ) (o : Option Flight) → ((x : Flight) → o ≡ Some x → enters x.direction ≡ false) → NoneEnters a (after_in_ok a f o)
in_ok_none a f None none = none_refl a
in_ok_none a f (Some x) none = by x.direction (none x refl)
  where
    by : (d : Direction) → enters d ≡ false → NoneEnters a (after_in_ok a f (Some (record x { direction = d })))
    by (reading (role.Fault q address)) is = absurd (true≢false is)
    by (reading (role.Near near)) is = λ p v n. n
    by (reading (role.Come q address)) is = absurd (true≢false is)
    by writing is = λ p v n. n

record LandsNone (config : Config) (past more : List Entry) : Type 0 where
  pub none : NoneEnters (pager_after config past) (pager_after config more)
  pub open_none : NoneOpen more

fewer_open : (past : List Entry) (k : ℕ) → NoneOpen past → AllByRecursion (λ (x : Flight). enters x.direction ≡ false) (without_flight k (open_flights past))
fewer_open past k none = all_filter (λ (x : Flight). enters x.direction ≡ false) (λ (x : Flight). not (nat_eq x.start k)) (open_flights past) none

landing_none : (config : Config) (seat : ℕ) (past : List Entry) (page : ℕ → Option Page) (x : Flight) (d : Direction) (o : Outcome) → NoneOpen past → LandsNone config past (made_by seat (landing past page x d o) past)
landing_none config seat past page x (reading r) went_well still = record {
  none = in_ok_none (pager_after config past) x.frame (find (starts x.start) (open_flights past)) (λ y found. all_found (λ (z : Flight). enters z.direction ≡ false) (starts x.start) (open_flights past) y still found);
  open_none = fewer_open past x.start still;
}
landing_none config seat past page x (reading r) (went_badly n) still = by (page x.frame)
  where
    by : (o : Option Page) → LandsNone config past (made_by seat (reuse_of x.frame o) (by_seat seat (what.InFail (pfn x.frame) x.start (last_count x.block past) n) ∷ past))
    by None = record { none = none_made config seat (what.InFail (pfn x.frame) x.start (last_count x.block past) n ∷ []) past (refl, tt); open_none = fewer_open past x.start still }
    by (Some g) = record { none = none_made config seat (what.InFail (pfn x.frame) x.start (last_count x.block past) n ∷ what.Reuse (pfn x.frame) g ∷ []) past (refl, (refl, tt)); open_none = fewer_open past x.start still }
landing_none config seat past page x writing went_well still = record { none = none_made config seat (what.OutOk (pfn x.frame) x.start ∷ []) past (refl, tt); open_none = fewer_open past x.start still }
landing_none config seat past page x writing (went_badly n) still = record { none = none_made config seat (what.OutFail (pfn x.frame) x.start (last_count x.block past) n ∷ []) past (refl, tt); open_none = fewer_open past x.start still }

pub landed_none : (config : Config) (seat : ℕ) (flights : List Flight) (outcomes : List Outcome) (past : List Entry) → NoneOpen past → NoneEnters (pager_after config past) (pager_after config (landed_by config seat flights outcomes past))
landed_none config seat [] outcomes past still = none_refl (pager_after config past)
landed_none config seat (x ∷ flights) [] past still = none_refl (pager_after config past)
landed_none config seat (x ∷ flights) (o ∷ outcomes) past still =
    let ws = landing past (pager_after config past).page x x.direction o in
    let first = landing_none config seat past (pager_after config past).page x x.direction o still in
    none_then (pager_after config past) (pager_after config (made_by seat ws past)) (pager_after config (landed_by config seat flights outcomes (made_by seat ws past))) first.none (landed_none config seat flights outcomes (made_by seat ws past) first.open_none)

-- ---- nor does a carrier whose first read fails, where only that one might
abbrev pub EntersFirst : ℕ → Flight → Type 0
EntersFirst k x = (enters x.direction ≡ false) ⊎ (x.start ≡ k)

failed_first : (k : ℕ) (flights : List Flight) → AllByRecursion (EntersFirst k) flights → AllByRecursion (λ (x : Flight). enters x.direction ≡ false) (without_flight k flights)
failed_first k [] each = tt
failed_first k (x ∷ flights) each = by (nat_eq x.start k) refl each.0 (failed_first k flights each.1)
  where
    by : (b : Bool) → nat_eq x.start k ≡ b → EntersFirst k x → AllByRecursion (λ (y : Flight). enters y.direction ≡ false) (without_flight k flights) → AllByRecursion (λ (y : Flight). enters y.direction ≡ false) (cond (not b) (x ∷ without_flight k flights) (without_flight k flights))
    by true is either rest = rest
    by false is (inl none) rest = (none, rest)
    by false is (inr same) rest = absurd (false≢true (sym is ∙ eq-eqb x.start k same))

pub failed_none : (config : Config) (seat : ℕ) (x : Flight) (flights : List Flight) (outcomes : List Outcome) (past : List Entry) → AllByRecursion (EntersFirst x.start) (open_flights past) → first_bad outcomes ≡ true
    → NoneEnters (pager_after config past) (pager_after config (landed_by config seat (x ∷ flights) outcomes past))
failed_none config seat x flights [] past each bad = absurd (false≢true bad)
failed_none config seat x flights (went_well ∷ outcomes) past each bad = absurd (false≢true bad)
failed_none config seat x flights (went_badly n ∷ outcomes) past each bad =
    let ws = landing past (pager_after config past).page x x.direction (went_badly n) in
    let first = by x.direction in
    none_then (pager_after config past) (pager_after config (made_by seat ws past)) (pager_after config (landed_by config seat flights outcomes (made_by seat ws past))) first.none (landed_none config seat flights outcomes (made_by seat ws past) first.open_none)
  where
    open_left : AllByRecursion (λ (y : Flight). enters y.direction ≡ false) (without_flight x.start (open_flights past))
    open_left = failed_first x.start (open_flights past) each

    reused : (o : Option Page) → LandsNone config past (made_by seat (reuse_of x.frame o) (by_seat seat (what.InFail (pfn x.frame) x.start (last_count x.block past) n) ∷ past))
    reused None = record { none = none_made config seat (what.InFail (pfn x.frame) x.start (last_count x.block past) n ∷ []) past (refl, tt); open_none = open_left }
    reused (Some g) = record { none = none_made config seat (what.InFail (pfn x.frame) x.start (last_count x.block past) n ∷ what.Reuse (pfn x.frame) g ∷ []) past (refl, (refl, tt)); open_none = open_left }

    by : (d : Direction) → LandsNone config past (made_by seat (landing past (pager_after config past).page x d (went_badly n)) past)
    by (reading r) = reused ((pager_after config past).page x.frame)
    by writing = record { none = none_made config seat (what.OutFail (pfn x.frame) x.start (last_count x.block past) n ∷ []) past (refl, tt); open_none = open_left }
