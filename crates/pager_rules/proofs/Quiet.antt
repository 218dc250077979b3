-- A past that awaits no reuse, and the starts of its flights.
use Rattle.std.proofs.lemmas.Option.{none-some}
use Rattle.std.proofs.Common.{◌≡◌, ℕ, ◌+◌, ◌≤◌, Bool, true, false, not, List, [], ◌∷◌, None, length, count_by, nat_eq, refl, sym, ◌∙◌, subst, arith}
use Rattle.std.specs.List.{AllByRecursion}
use Rattle.std.proofs.lemmas.Bool.{false≢true, true≢false, eqb-true, ne_eqb}
use Rattle.vm_types.specs.declared.config.Config.{Config}
use Rattle.vm_journal.specs.declared.entry.Entry.{Entry}
use Rattle.vm_journal.specs.declared.entry.What.{What}
use Rattle.vm_journal.specs.declared.entry.What.TheVariants as what
use Rattle.pager_model.specs.Around.{PastView, past_view, quiet}
use Rattle.pager_model.specs.Flights.{Flight, awaits_reuse, failed_flight, failed_in, fails_read, fails_read_of, flights_with, has_failed_read, open_flights, reading, without_flight, writing}
use Rattle.pager_model.specs.Lookups.{is}
use Rattle.pager_model.specs.Pager.{Pager}
use Rattle.pager_model.specs.Transfers.{starts}
use Rattle.pager_rules.proofs.Basics.{count_cons_no, count_cons_yes, each_weaker, no_failed_read}
use Rattle.pager_rules.proofs.Lists.{all_filter, count_filter_le}
use Rattle.pager_rules.specs.Kept.{FitsFailed, IsKept, Views}

pub no_failure : (past : List Entry) → awaits_reuse past ≡ false → failed_flight past ≡ None
no_failure [] e = refl
no_failure (entry ∷ past) e = of_what entry.what e
  where
    of_what : (w : What) → fails_read w ≡ false → failed_in past w ≡ None
    of_what (what.InFail g k c d) waits = absurd (true≢false waits)
    of_what other waits = refl

pub quiet_past : (past : List Entry) → awaits_reuse past ≡ false → past_view past ≡ quiet (open_flights past)
quiet_past past e = λ i. record { flights = open_flights past; failed = λ f. no_failed_read past f e i; failure = no_failure past e i }

pub kept_quiet : (config : Config) (past : List Entry) (a : Pager) → awaits_reuse past ≡ false → IsKept config (past_view past) a → IsKept config (quiet (open_flights past)) a
kept_quiet config past a e kept = subst (λ (o : PastView). IsKept config o a) (quiet_past past e) kept

-- ---- each flight has a start of its own
abbrev StartsBy : ℕ → Flight → Type 0
StartsBy n x = x.start ≤ n

later : (n : ℕ) (flights : List Flight) → AllByRecursion (StartsBy n) flights → AllByRecursion (StartsBy (n + 1)) flights
later n flights all = each_weaker (StartsBy n) (StartsBy (n + 1)) (λ x h. omega arith) flights all

starts_with : (n seat : ℕ) (w : What) (flights : List Flight) → AllByRecursion (StartsBy n) flights → AllByRecursion (StartsBy (n + 1)) (flights_with (n + 1) seat w flights)
starts_with n seat (what.In f block role) flights all = (omega arith, later n flights all)
starts_with n seat (what.Out f block) flights all = (omega arith, later n flights all)
starts_with n seat (what.InOk f k) flights all = all_filter (StartsBy (n + 1)) _ flights (later n flights all)
starts_with n seat (what.InFail f k c d) flights all = all_filter (StartsBy (n + 1)) _ flights (later n flights all)
starts_with n seat (what.OutOk f k) flights all = all_filter (StartsBy (n + 1)) _ flights (later n flights all)
starts_with n seat (what.OutFail f k c d) flights all = all_filter (StartsBy (n + 1)) _ flights (later n flights all)
starts_with n seat other flights all = later n flights all

pub starts_by : (past : List Entry) → AllByRecursion (StartsBy (length past)) (open_flights past)
starts_by [] = tt
starts_by (e ∷ past) = subst (λ (n : ℕ). AllByRecursion (StartsBy n) (open_flights (e ∷ past))) (omega arith) (starts_with (length past) (e.seat).0 e.what (open_flights past) (starts_by past))

none_later : (n : ℕ) (flights : List Flight) → AllByRecursion (StartsBy n) flights → count_by (starts (n + 1)) flights ≡ 0
none_later n [] all = refl
none_later n (x ∷ flights) all = count_cons_no (starts (n + 1)) x flights (ne_eqb x.start (n + 1) (λ e. omega (arith, all.0))) ∙ none_later n flights all.1

once_with : (n seat : ℕ) (w : What) (flights : List Flight) → AllByRecursion (StartsBy n) flights → (k : ℕ) → count_by (starts k) flights ≤ 1 → count_by (starts k) (flights_with (n + 1) seat w flights) ≤ 1
once_with n seat w flights all k once = by w
  where
    first : (x : Flight) → x.start ≡ n + 1 → count_by (starts k) (x ∷ flights) ≤ 1
    first x is = go (nat_eq x.start k) refl
      where
        go : (b : Bool) → nat_eq x.start k ≡ b → count_by (starts k) (x ∷ flights) ≤ 1
        go true same =
            let n_is : n + 1 ≡ k = sym is ∙ eqb-true x.start k same in
            let none : count_by (starts k) flights ≡ 0 = subst (λ (m : ℕ). count_by (starts m) flights ≡ 0) n_is (none_later n flights all) in
            let step = count_cons_yes (starts k) x flights same in
            omega arith
        go false apart = let step = count_cons_no (starts k) x flights apart in omega arith

    fewer : (j : ℕ) → count_by (starts k) (without_flight j flights) ≤ 1
    fewer j = let less = count_filter_le (starts k) (λ (x : Flight). not (starts j x)) flights in omega arith

    by : (w : What) → count_by (starts k) (flights_with (n + 1) seat w flights) ≤ 1
    by (what.In f block role) = first (record { start = n + 1; seat = seat; frame = f.0; block = block; direction = reading role }) refl
    by (what.Out f block) = first (record { start = n + 1; seat = seat; frame = f.0; block = block; direction = writing }) refl
    by (what.InOk f j) = fewer j
    by (what.InFail f j c d) = fewer j
    by (what.OutOk f j) = fewer j
    by (what.OutFail f j c d) = fewer j
    by other = once

pub starts_once : (past : List Entry) (k : ℕ) → count_by (starts k) (open_flights past) ≤ 1
starts_once [] k = omega arith
starts_once (e ∷ past) k = once_with (length past) (e.seat).0 e.what (open_flights past) (starts_by past) k (starts_once past k)

-- one frame is in read error at most
pub only_failed : (past : List Entry) (f g : ℕ) → has_failed_read f past ≡ true → (f ≡ g → ⊥) → has_failed_read g past ≡ false
only_failed [] f g is apart = refl
only_failed (entry ∷ past) f g is apart = of_what entry.what is
  where
    of_what : (w : What) → fails_read_of f w ≡ true → fails_read_of g w ≡ false
    of_what (what.InFail h k c d) is = ne_eqb h.0 g (λ same. apart (sym (eqb-true h.0 f is) ∙ same))
    of_what other is = refl

-- a quiet past awaits no reuse
pub none_failed : (flights : List Flight) (v : Views) → FitsFailed (quiet flights) v
none_failed flights v = record { found = λ f is. absurd (false≢true is); fits = λ x is. absurd (none-some x is) }
