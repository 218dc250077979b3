-- How many transfers failed: more entries have no fewer, and a bad landing is one.
use Rattle.std.proofs.Common.{◌≡◌, ℕ, ◌+◌, ◌≤◌, Bool, false, List, [], ◌∷◌, ◌++◌, Option, length, refl, arith}
use Rattle.vm_types.specs.declared.config.Config.{Config}
use Rattle.vm_types.specs.declared.names.Page.{Page}
use Rattle.vm_journal.specs.declared.entry.Entry.{Entry}
use Rattle.vm_journal.specs.declared.entry.What.{What}
use Rattle.vm_journal.specs.declared.entry.What.TheVariants as what
use Rattle.pager_model.specs.Counted.{last_count}
use Rattle.pager_model.specs.Flights.{Direction, Flight, reading, writing}
use Rattle.pager_policy.specs.Given.{by_seat, made_by}
use Rattle.pager_model.specs.Maps.{pfn}
use Rattle.pager_policy.specs.Landings.{Outcome, all_bad, landed_by, landing, reuse_of, went_badly, went_well}
use Rattle.pager_model.specs.Run.{pager_after}
use Rattle.serial_laws.specs.Refused.{is_failure}
use Rattle.pager_rules.proofs.Basics.{count_cons, count_cons_yes}
use Rattle.policy_ends.specs.Clean.{failures}

abbrev fails : Entry → Bool
fails e = is_failure e.what

pub one_more : (e : Entry) (past : List Entry) → failures past ≤ failures (e ∷ past)
one_more e past = let more = count_cons fails e past in omega (arith, more)

pub more_made : (seat : ℕ) (ws : List What) (past : List Entry) → failures past ≤ failures (made_by seat ws past)
more_made seat [] past = omega arith
more_made seat (w ∷ ws) past = omega (arith, one_more (by_seat seat w) past, more_made seat ws (by_seat seat w ∷ past))

pub more_landed : (config : Config) (seat : ℕ) (flights : List Flight) (outcomes : List Outcome) (past : List Entry) → failures past ≤ failures (landed_by config seat flights outcomes past)
more_landed config seat [] outcomes past = omega arith
more_landed config seat (x ∷ flights) [] past = omega arith
more_landed config seat (x ∷ flights) (o ∷ outcomes) past =
    let ws = landing past (pager_after config past).page x x.direction o in
    omega (arith, more_made seat ws past, more_landed config seat flights outcomes (made_by seat ws past))

pub landing_fails : (seat : ℕ) (past : List Entry) (page : ℕ → Option Page) (x : Flight) (d : Direction) (n : ℕ) → failures past + 1 ≤ failures (made_by seat (landing past page x d (went_badly n)) past)
landing_fails seat past page x (reading r) n =
    let e : Entry = by_seat seat (what.InFail (pfn x.frame) x.start (last_count x.block past) n) in
    omega (arith, count_cons_yes fails e past refl, more_made seat (reuse_of x.frame (page x.frame)) (e ∷ past))
landing_fails seat past page x writing n = omega (arith, count_cons_yes fails (by_seat seat (what.OutFail (pfn x.frame) x.start (last_count x.block past) n)) past refl)

-- a carrier of which no lift failed has one that went well
pub not_all_bad : (config : Config) (seat : ℕ) (x : Flight) (flights : List Flight) (outcomes : List Outcome) (past : List Entry) → length outcomes ≡ length (x ∷ flights)
    → failures (landed_by config seat (x ∷ flights) outcomes past) ≤ failures past → all_bad outcomes ≡ false
not_all_bad config seat x flights [] past each none = absurd (omega (arith, each))
not_all_bad config seat x flights (went_well ∷ outcomes) past each none = refl
not_all_bad config seat x flights (went_badly n ∷ outcomes) past each none =
    let ws = landing past (pager_after config past).page x x.direction (went_badly n) in
    absurd (omega (arith, none, landing_fails seat past (pager_after config past).page x x.direction n, more_landed config seat flights outcomes (made_by seat ws past)))

-- those of two parts
pub failures_both : (rest past : List Entry) → failures (rest ++ past) ≡ failures rest + failures past
failures_both [] past = omega arith
failures_both (e ∷ rest) past = let one = count_cons fails e rest in let all = count_cons fails e (rest ++ past) in omega (arith, one, all, failures_both rest past)
