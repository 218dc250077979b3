-- After a move no flight is open, and no reuse is due.
use Rattle.std.proofs.Common.{◌≡◌, ◌⊎◌, inl, inr, ℕ, ◌+◌, ◌<◌, ◌||◌, Bool, true, false, cond, not, List, [], ◌∷◌, Option, Some, None, length, map, filter, nat_eq, reverse, refl, sym, ap, ap₂, ◌∙◌, subst, arith}
use Rattle.std.specs.List.{AllByRecursion, list_any}
use Rattle.std.proofs.lemmas.Bool.{false≢true, or_cases, or_left, or_right}
use Rattle.std.proofs.lemmas.List.{reverse-append}
use Rattle.std.proofs.lemmas.List.Folds.{list_any-append}
use Rattle.std.proofs.lemmas.Option.{none-some}
use Rattle.vm_types.specs.Configuration.{IsWellFormed}
use Rattle.vm_types.specs.declared.names.Page.{Page}
use Rattle.vm_types.specs.declared.config.Config.{Config}
use Rattle.vm_types.specs.declared.reply.Reply.{Reply}
use Rattle.vm_journal.specs.declared.entry.Entry.{Entry}
use Rattle.vm_journal.specs.declared.entry.What.{What}
use Rattle.vm_journal.specs.declared.entry.What.TheVariants as what
use Rattle.pager_model.specs.Counted.{last_count}
use Rattle.pager_model.specs.Flights.{Direction, Flight, awaits_reuse, fails_read, flights_with, open_flights, reading, without_flight, writing, carrier_of}
use Rattle.pager_policy.specs.Given.{by_seat, made_by, with_reply}
use Rattle.pager_model.specs.Maps.{pfn}
use Rattle.pager_policy.specs.Landings.{Outcome, landed_by, landing, reuse_of, went_badly, went_well}
use Rattle.pager_model.specs.Run.{IsRun, pager_after}
use Rattle.pager_model.specs.Transfers.{starts}
use Rattle.pager_rules.proofs.Basics.{each_weaker, nat_eq_refl}
use Rattle.pager_rules.proofs.Lists.{all_filter, all_found}
use Rattle.pager_rules.specs.Kept.{FitsFlight, views}
use Rattle.pager_laws.proofs.RunsAreSound.{run_kept}
use Rattle.serial_laws.specs.Between.{IsBetween}
use Rattle.serial_laws.proofs.Known.{is_still_entry, landed_from}

-- ---- what a seat makes begins flights of its own alone
abbrev IsOf : ℕ → Flight → Type 0
IsOf seat x = nat_eq x.seat seat ≡ true

own_more : (n seat : ℕ) (w : What) (flights : List Flight) → AllByRecursion (IsOf seat) flights → AllByRecursion (IsOf seat) (flights_with n seat w flights)
own_more n seat (what.In f b r) flights each = (nat_eq_refl seat, each)
own_more n seat (what.Out f b) flights each = (nat_eq_refl seat, each)
own_more n seat (what.InOk f k) flights each = all_filter (IsOf seat) (λ (x : Flight). not (nat_eq x.start k)) flights each
own_more n seat (what.InFail f k c d) flights each = all_filter (IsOf seat) (λ (x : Flight). not (nat_eq x.start k)) flights each
own_more n seat (what.OutOk f k) flights each = all_filter (IsOf seat) (λ (x : Flight). not (nat_eq x.start k)) flights each
own_more n seat (what.OutFail f k c d) flights each = all_filter (IsOf seat) (λ (x : Flight). not (nat_eq x.start k)) flights each
own_more n seat other flights each = each

own_made : (seat : ℕ) (ws : List What) (past : List Entry) → AllByRecursion (IsOf seat) (open_flights past) → AllByRecursion (IsOf seat) (open_flights (made_by seat ws past))
own_made seat [] past each = each
own_made seat (w ∷ ws) past each = own_made seat ws (by_seat seat w ∷ past) (own_more (length past + 1) seat w (open_flights past) each)

-- so its carrier is all of them
all_pass : {X : Type 0} (t : X → Bool) (xs : List X) → AllByRecursion (λ (x : X). t x ≡ true) xs → filter t xs ≡ xs
all_pass t [] each = refl
all_pass {X} t (x ∷ xs) each = ap₂ (λ (b : Bool) (ys : List X). cond b (x ∷ ys) ys) each.0 refl ∙ ap (λ (ys : List X). x ∷ ys) (all_pass t xs each.1)

-- ---- once each of them has landed none is open
abbrev StartsLike : List Flight → Flight → Type 0
StartsLike xs y = list_any (λ (x : Flight). nat_eq y.start x.start) xs ≡ true

without_all : List Flight → List Flight → List Flight
without_all [] flights = flights
without_all (x ∷ xs) flights = without_all xs (without_flight x.start flights)

others_left : (x : Flight) (xs flights : List Flight) → AllByRecursion (StartsLike (x ∷ xs)) flights → AllByRecursion (StartsLike xs) (without_flight x.start flights)
others_left x xs [] each = tt
others_left x xs (y ∷ flights) each = by (nat_eq y.start x.start) refl (or_cases (nat_eq y.start x.start) _ each.0) (others_left x xs flights each.1)
  where
    by : (b : Bool) → nat_eq y.start x.start ≡ b → (nat_eq y.start x.start ≡ true) ⊎ StartsLike xs y → AllByRecursion (StartsLike xs) (without_flight x.start flights) → AllByRecursion (StartsLike xs) (cond (not b) (y ∷ without_flight x.start flights) (without_flight x.start flights))
    by true is either rest = rest
    by false is (inl same) rest = absurd (false≢true (sym is ∙ same))
    by false is (inr later) rest = (later, rest)

none_left : (xs flights : List Flight) → AllByRecursion (StartsLike xs) flights → without_all xs flights ≡ []
unfolding without_all
none_left [] [] each = refl
none_left [] (y ∷ flights) each = absurd (false≢true each.0)
none_left (x ∷ xs) flights each = none_left xs (without_flight x.start flights) (others_left x xs flights each)

any_reversed : (t : Flight → Bool) (xs : List Flight) → list_any t xs ≡ true → list_any t (reverse xs) ≡ true
any_reversed t [] is = absurd (false≢true is)
any_reversed t (x ∷ xs) is = ap (list_any t) (reverse-append (x ∷ []) xs) ∙ (list_any-append t (reverse xs) (x ∷ []) ∙ by (or_cases (t x) (list_any t xs) is) (any_reversed t xs))
  where
    by : (t x ≡ true) ⊎ (list_any t xs ≡ true) → (list_any t xs ≡ true → list_any t (reverse xs) ≡ true) → (list_any t (reverse xs) || list_any t (x ∷ [])) ≡ true
    by (inl here) rest = or_right (list_any t (reverse xs)) (list_any t (x ∷ [])) (or_left (t x) false here)
    by (inr later) rest = or_left (list_any t (reverse xs)) (list_any t (x ∷ [])) (rest later)

each_like : (flights : List Flight) → AllByRecursion (StartsLike flights) flights
each_like [] = tt
each_like (x ∷ flights) = (or_left (nat_eq x.start x.start) _ (nat_eq_refl x.start), each_weaker (StartsLike flights) (StartsLike (x ∷ flights)) (λ y like. or_right (nat_eq y.start x.start) _ like) flights (each_like flights))

landing_open : (seat : ℕ) (past : List Entry) (page : ℕ → Option Page) (x : Flight) (d : Direction) (o : Outcome) → open_flights (made_by seat (landing past page x d o) past) ≡ without_flight x.start (open_flights past)
landing_open seat past page x (reading r) went_well = refl
landing_open seat past page x (reading r) (went_badly n) = by (page x.frame)
  where
    by : (o : Option Page) → open_flights (made_by seat (reuse_of x.frame o) (by_seat seat (what.InFail (pfn x.frame) x.start (last_count x.block past) n) ∷ past)) ≡ without_flight x.start (open_flights past)
    by None = refl
    by (Some g) = refl
landing_open seat past page x writing went_well = refl
landing_open seat past page x writing (went_badly n) = refl

landed_open : (config : Config) (seat : ℕ) (flights : List Flight) (outcomes : List Outcome) (past : List Entry) → length outcomes ≡ length flights → open_flights (landed_by config seat flights outcomes past) ≡ without_all flights (open_flights past)
unfolding without_all
landed_open config seat [] [] past each = refl
landed_open config seat [] (o ∷ outcomes) past each = absurd (omega (arith, each))
landed_open config seat (x ∷ flights) [] past each = absurd (omega (arith, each))
landed_open config seat (x ∷ flights) (o ∷ outcomes) past each =
    landed_open config seat flights outcomes (made_by seat (landing past (pager_after config past).page x x.direction o) past) (omega (arith, each))
    ∙ ap (without_all flights) (landing_open seat past (pager_after config past).page x x.direction o)

pub none_open : (config : Config) (past : List Entry) (seat : ℕ) (ws : List What) (outcomes : List Outcome) → open_flights past ≡ [] → length outcomes ≡ length (carrier_of seat (made_by seat ws past)) → open_flights (landed_from config (made_by seat ws past) seat outcomes) ≡ []
none_open config past seat ws outcomes none each =
    let begun = made_by seat ws past in
    let own = own_made seat ws past (subst (AllByRecursion (IsOf seat)) (sym none) tt) in
    landed_open config seat (carrier_of seat begun) outcomes begun each
    ∙ none_left (carrier_of seat begun) (open_flights begun)
    (each_weaker (StartsLike (open_flights begun)) (StartsLike (carrier_of seat begun))
    (λ y like. ap (λ (xs : List Flight). list_any (λ (x : Flight). nat_eq y.start x.start) (reverse xs)) (all_pass (λ (x : Flight). nat_eq x.seat seat) (open_flights begun) own) ∙ any_reversed (λ (x : Flight). nat_eq y.start x.start) (open_flights begun) like)
    (open_flights begun) (each_like (open_flights begun)))

-- ---- no reuse is due: the frame of a read that failed holds a page, which it gives up
run_before : (config : Config) (seat : ℕ) (ws : List What) (past : List Entry) → IsRun config (made_by seat ws past) → IsRun config past
run_before config seat [] past run = run
run_before config seat (w ∷ ws) past run = (run_before config seat ws (by_seat seat w ∷ past) run).0

run_landed : (config : Config) (seat : ℕ) (flights : List Flight) (outcomes : List Outcome) (past : List Entry) → IsRun config (landed_by config seat flights outcomes past) → IsRun config past
run_landed config seat [] outcomes past run = run
run_landed config seat (x ∷ flights) [] past run = run
run_landed config seat (x ∷ flights) (o ∷ outcomes) past run =
    let ws = landing past (pager_after config past).page x x.direction o in
    run_before config seat ws past (run_landed config seat flights outcomes (made_by seat ws past) run)

landing_calm : (config : Config) (seat : ℕ) (past : List Entry) (x : Flight) (d : Direction) (o : Outcome) → IsWellFormed config → IsRun config (made_by seat (landing past (pager_after config past).page x d o) past)
    → awaits_reuse (made_by seat (landing past (pager_after config past).page x d o) past) ≡ false
landing_calm config seat past x (reading r) went_well formed run = refl
landing_calm config seat past x writing went_well formed run = refl
landing_calm config seat past x writing (went_badly n) formed run = refl
landing_calm config seat past x (reading r) (went_badly n) formed run = by ((pager_after config past).page x.frame) refl run
  where
    by : (o : Option Page) → (pager_after config past).page x.frame ≡ o → IsRun config (made_by seat (reuse_of x.frame o) (by_seat seat (what.InFail (pfn x.frame) x.start (last_count x.block past) n) ∷ past))
        → awaits_reuse (made_by seat (reuse_of x.frame o) (by_seat seat (what.InFail (pfn x.frame) x.start (last_count x.block past) n) ∷ past)) ≡ false
    by (Some g) holds run = refl
    by None holds run =
        let row = run.1.row in
        let kept = run_kept config past formed run.0 in
        let fits = all_found (λ (y : Flight). FitsFlight (views config (pager_after config past)) y) (starts x.start) (open_flights past) row.flight kept.transfers row.lands.open_k in
        absurd (none-some fits.page (sym holds ∙ (ap (pager_after config past).page (sym row.lands.frame) ∙ fits.held)))

landed_calm : (config : Config) (seat : ℕ) (flights : List Flight) (outcomes : List Outcome) (past : List Entry) → IsWellFormed config → IsRun config (landed_by config seat flights outcomes past) → (0 < length flights × 0 < length outcomes) ⊎ (awaits_reuse past ≡ false)
    → awaits_reuse (landed_by config seat flights outcomes past) ≡ false
landed_calm config seat [] outcomes past formed run (inr calm) = calm
landed_calm config seat [] outcomes past formed run (inl some) = absurd (omega (arith, some.0))
landed_calm config seat (x ∷ flights) [] past formed run (inr calm) = calm
landed_calm config seat (x ∷ flights) [] past formed run (inl some) = absurd (omega (arith, some.1))
landed_calm config seat (x ∷ flights) (o ∷ outcomes) past formed run either =
    let now : List Entry = made_by seat (landing past (pager_after config past).page x x.direction o) past in
    landed_calm config seat flights outcomes now formed run (inr (landing_calm config seat past x x.direction o formed (run_landed config seat flights outcomes now run)))

pub carried_between : (config : Config) (past : List Entry) (seat : ℕ) (ws : List What) (outcomes : List Outcome) (first : Flight) (more : List Flight) → IsBetween config past → carrier_of seat (made_by seat ws past) ≡ first ∷ more
    → length outcomes ≡ length (carrier_of seat (made_by seat ws past)) → IsRun config (landed_from config (made_by seat ws past) seat outcomes) → IsBetween config (landed_from config (made_by seat ws past) seat outcomes)
carried_between config past seat ws outcomes first more between carrier each run = record {
  formed = between.formed;
  run = run;
  landed = none_open config past seat ws outcomes between.landed each;
  reused = landed_calm config seat (carrier_of seat (made_by seat ws past)) outcomes (made_by seat ws past) between.formed run (inl (let some = ap length carrier in (omega (arith, some), omega (arith, some, each))));
}

-- ---- entries that begin and land no flight
still_open : (seat : ℕ) (w : What) (past : List Entry) → is_still_entry w ≡ true → open_flights (by_seat seat w ∷ past) ≡ open_flights past
still_open seat (what.In f b r) past is = absurd (false≢true is)
still_open seat (what.InOk f k) past is = absurd (false≢true is)
still_open seat (what.InFail f k c d) past is = absurd (false≢true is)
still_open seat (what.Out f b) past is = absurd (false≢true is)
still_open seat (what.OutOk f k) past is = absurd (false≢true is)
still_open seat (what.OutFail f k c d) past is = absurd (false≢true is)
still_open seat other past is = refl

still_calm : (w : What) → is_still_entry w ≡ true → fails_read w ≡ false
still_calm (what.InFail f k c d) is = absurd (false≢true is)
still_calm other is = refl

pub still_between : (config : Config) (past : List Entry) (seat : ℕ) (w : What) → is_still_entry w ≡ true → IsBetween config past → IsRun config (by_seat seat w ∷ past) → IsBetween config (by_seat seat w ∷ past)
still_between config past seat w is between run = record { formed = between.formed; run = run; landed = still_open seat w past is ∙ between.landed; reused = still_calm w is }

shown_still : (shown : Reply) (w : What) → is_still_entry w ≡ true → is_still_entry (with_reply shown w) ≡ true
shown_still shown (what.Done r left_open) is = refl
shown_still shown other is = is

pub made_between : (config : Config) (seat : ℕ) (shown : Reply) (ws : List What) (past : List Entry) → AllByRecursion (λ (w : What). is_still_entry w ≡ true) ws → IsBetween config past → IsRun config (made_by seat (map (with_reply shown) ws) past) → IsBetween config (made_by seat (map (with_reply shown) ws) past)
made_between config seat shown [] past each between run = between
made_between config seat shown (w ∷ ws) past each between run =
    made_between config seat shown ws (by_seat seat (with_reply shown w) ∷ past) each.1
    (still_between config past seat (with_reply shown w) (shown_still shown w each.0) between (run_before config seat (map (with_reply shown) ws) (by_seat seat (with_reply shown w) ∷ past) run)) run
