-- The flights of a cluster are writes.
use Rattle.std.proofs.Common.{◌≡◌, ℕ, ◌+◌, true, List, [], ◌∷◌, ◌++◌, length, nat_eq, filter, reverse, refl, sym, ap, ◌∙◌, subst}
use Rattle.std.specs.List.{AllByRecursion}
use Rattle.std.proofs.lemmas.Bool.{false≢true}
use Rattle.std.proofs.lemmas.List.{reverse-append}
use Rattle.vm_types.specs.declared.config.Config.{Config}
use Rattle.vm_journal.specs.declared.entry.Entry.{Entry}
use Rattle.vm_journal.specs.declared.entry.What.{What}
use Rattle.vm_journal.specs.declared.entry.What.TheVariants as what
use Rattle.pager_model.specs.Flights.{Direction, Flight, flights_with, open_flights, writing, carrier_of}
use Rattle.pager_policy.specs.Given.{by_seat, made_by}
use Rattle.pager_policy.specs.Landings.{Outcome, landing, went_badly, went_well}
use Rattle.pager_model.specs.Run.{pager_after}
use Rattle.pager_rules.proofs.Lists.{all_filter}
use Rattle.serial_laws.proofs.Writes.{IsWrite, is_out_entry}
use Rattle.log_laws.proofs.Made.{landing_entry, out_itself}
use Rattle.log_laws.specs.Underway.{same_made}

abbrev pub AreWrites : List Flight → Type 0
AreWrites flights = AllByRecursion IsWrite flights

pub out_same : (w : What) → is_out_entry w ≡ true → same_made w w ≡ true
out_same (what.Out f b) is = out_itself f b
out_same other is = absurd (false≢true is)

one_more : (n seat : ℕ) (w : What) (flights : List Flight) → is_out_entry w ≡ true → AreWrites flights → AreWrites (flights_with n seat w flights)
one_more n seat (what.Out f b) flights is each = (refl, each)
one_more n seat other flights is each = absurd (false≢true is)

-- all open flights are writes, and so they stay while OUTs are made
pub out_writes : (seat : ℕ) (w : What) (past : List Entry) → is_out_entry w ≡ true → AreWrites (open_flights past) → AreWrites (open_flights (by_seat seat w ∷ past))
out_writes seat w past is each = one_more (length past + 1) seat w (open_flights past) is each

all_joined : (P : Flight → Type 0) (xs ys : List Flight) → AllByRecursion P xs → AllByRecursion P ys → AllByRecursion P (xs ++ ys)
all_joined P [] ys first second = second
all_joined P (x ∷ xs) ys first second = (first.0, all_joined P xs ys first.1 second)

all_reversed : (P : Flight → Type 0) (xs : List Flight) → AllByRecursion P xs → AllByRecursion P (reverse xs)
all_reversed P [] all = tt
all_reversed P (x ∷ xs) all = subst (AllByRecursion P) (sym (reverse-append (x ∷ []) xs)) (all_joined P (reverse xs) (x ∷ []) (all_reversed P xs all.1) (all.0, tt))

pub carrier_writes : (seat : ℕ) (past : List Entry) → AreWrites (open_flights past) → AreWrites (carrier_of seat past)
carrier_writes seat past each =
    all_reversed IsWrite (filter (λ (x : Flight). nat_eq x.seat seat) (open_flights past)) (all_filter IsWrite (λ (x : Flight). nat_eq x.seat seat) (open_flights past) each)

-- the landing of a write is one entry
pub landing_one : (config : Config) (seat : ℕ) (past : List Entry) (x : Flight) (o : Outcome) → IsWrite x
    → made_by seat (landing past (pager_after config past).page x x.direction o) past ≡ by_seat seat (landing_entry past x o) ∷ past
landing_one config seat past x o is = ap (λ (d : Direction). made_by seat (landing past (pager_after config past).page x d o) past) is ∙ by o
  where
    by : (o : Outcome) → made_by seat (landing past (pager_after config past).page x writing o) past ≡ by_seat seat (landing_entry past x o) ∷ past
    by went_well = refl
    by (went_badly d) = refl
