-- The seats of a run's entries and of its open flights.
use Rattle.std.proofs.Common.{◌≡◌, ℕ, ◌+◌, ◌<◌, Bool, true, false, cond, not, List, [], ◌∷◌, filter, length, nat_eq, refl, sym, ap, ◌∙◌, arith}
use Rattle.std.specs.List.{AllByRecursion}
use Rattle.std.proofs.lemmas.Bool.{eqb-false}
use Rattle.std.proofs.lemmas.List.{nil_from_length, length-reverse}
use Rattle.vm_types.specs.declared.config.Config.{Config}
use Rattle.vm_journal.specs.declared.entry.Entry.{Entry}
use Rattle.vm_journal.specs.declared.entry.What.{What}
use Rattle.vm_journal.specs.declared.entry.What.TheVariants as what
use Rattle.pager_model.specs.Flights.{Flight, open_flights, without_flight, carrier_of}
use Rattle.pager_policy.specs.Given.{by_seat}
use Rattle.pager_model.specs.Run.{IsRun}

-- its seat is below the number
abbrev pub IsBelow : ℕ → Entry → Type 0
IsBelow n e = (e.seat).0 < n

pub seats_below : (config : Config) (past : List Entry) → IsRun config past → AllByRecursion (IsBelow (length config.procs + 2)) past
seats_below config [] run = tt
seats_below config (e ∷ past) run = ((let most = run.1.line.seat in omega (arith, most)), seats_below config past run.0)

abbrev IsFlightBelow : ℕ → Flight → Type 0
IsFlightBelow n x = x.seat < n

all_without : (n k : ℕ) (flights : List Flight) → AllByRecursion (IsFlightBelow n) flights → AllByRecursion (IsFlightBelow n) (without_flight k flights)
all_without n k [] below = tt
all_without n k (x ∷ flights) below = by (not (nat_eq x.start k)) (all_without n k flights below.1)
  where
    by : (b : Bool) → AllByRecursion (IsFlightBelow n) (without_flight k flights) → AllByRecursion (IsFlightBelow n) (cond b (x ∷ without_flight k flights) (without_flight k flights))
    by true rest = (below.0, rest)
    by false rest = rest

flights_below : (n : ℕ) (past : List Entry) → AllByRecursion (IsBelow n) past → AllByRecursion (IsFlightBelow n) (open_flights past)
flights_below n [] below = tt
flights_below n (e ∷ past) below = by e.what (flights_below n past below.1)
  where
    by : (w : What) → AllByRecursion (IsFlightBelow n) (open_flights past) → AllByRecursion (IsFlightBelow n) (open_flights (by_seat (e.seat).0 w ∷ past))
    by (what.In f b r) rest = (below.0, rest)
    by (what.Out f b) rest = (below.0, rest)
    by (what.InOk f k) rest = all_without n k (open_flights past) rest
    by (what.InFail f k c d) rest = all_without n k (open_flights past) rest
    by (what.OutOk f k) rest = all_without n k (open_flights past) rest
    by (what.OutFail f k c d) rest = all_without n k (open_flights past) rest
    by other rest = rest

none_first : (x : Flight) (flights : List Flight) → filter (λ (y : Flight). nat_eq y.seat x.seat) (x ∷ flights) ≡ [] → ⊥
none_first x flights none = by (nat_eq x.seat x.seat) refl
  where
    by : (b : Bool) → nat_eq x.seat x.seat ≡ b → ⊥
    by true is = omega (arith, ap length (sym (ap (λ (c : Bool). cond c (x ∷ filter (λ (y : Flight). nat_eq y.seat x.seat) flights) (filter (λ (y : Flight). nat_eq y.seat x.seat) flights)) is) ∙ none))
    by false is = eqb-false x.seat x.seat is refl

-- where no seat's transfer is open, none is
none_of_any : (n : ℕ) (flights : List Flight) → AllByRecursion (IsFlightBelow n) flights → ((k : ℕ) → k < n → filter (λ (x : Flight). nat_eq x.seat k) flights ≡ []) → flights ≡ []
none_of_any n [] below none = refl
none_of_any n (x ∷ flights) below none = absurd (none_first x flights (none x.seat below.0))

pub none_open : (n : ℕ) (past : List Entry) → AllByRecursion (IsBelow n) past → ((k : ℕ) → k < n → carrier_of k past ≡ []) → open_flights past ≡ []
none_open n past below none =
    none_of_any n (open_flights past) (flights_below n past below)
    (λ k under. nil_from_length (filter (λ (x : Flight). nat_eq x.seat k) (open_flights past)) (sym (length-reverse (filter (λ (x : Flight). nat_eq x.seat k) (open_flights past))) ∙ ap length (none k under)))
