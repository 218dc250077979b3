-- Entries that a move adds to a journal: an answer that shows a reply is the last, and what stood before them.
use Rattle.std.proofs.Common.{◌≡◌, ℕ, List, [], ◌∷◌, Option, Some, None, map, subst, sym}
use Rattle.vm_types.specs.declared.config.Config.{Config}
use Rattle.vm_types.specs.declared.config.Task.{Task}
use Rattle.vm_types.specs.declared.reply.Reply.{Reply}
use Rattle.vm_types.specs.declared.service.Request.{Request}
use Rattle.vm_types.specs.declared.service.Request.TheVariants as request
use Rattle.vm_journal.specs.declared.entry.Entry.{Entry}
use Rattle.vm_journal.specs.declared.entry.What.{What}
use Rattle.vm_journal.specs.declared.entry.What.TheVariants as what
use Rattle.pager_model.specs.Flights.{Flight}
use Rattle.pager_model.specs.Run.{IsRun, pager_after}
use Rattle.pager_policy.specs.Given.{by_seat, made_by, with_reply}
use Rattle.pager_policy.specs.Landings.{Outcome, landed_by, landing}
use Rattle.pager_policy.specs.Moves.{After, Control, goes, refuses}
use Rattle.pager_policy.specs.Policy.{next_task}
use Rattle.pager_policy.specs.Serial.{GoesOn, IsRefused, refusal_of}
use Rattle.call_laws.proofs.Said.{said}
use Rattle.entry_causes.specs.Caused.{IsCausedThroughout}
use Rattle.cause_laws.specs.AreCaused.{AreCaused}

-- ---- an answer that shows a reply is the last of them
abbrev pub AnswersLast : List What → Type 0
AnswersLast [] = Unit {0}
AnswersLast (what.Done r reply ∷ ws) = ws ≡ []
AnswersLast (w ∷ ws) = AnswersLast ws

pub silent_last : (ws : List What) → said ws ≡ [] → AnswersLast ws
silent_last [] silent = tt
silent_last (what.Done r reply ∷ ws) silent = absurd (cc)
silent_last (what.Denied r why ∷ ws) silent = absurd (cc)
silent_last (what.Served s answer ∷ ws) silent = absurd (cc)
silent_last (other ∷ ws) silent = silent_last ws silent

-- so whatever reply is shown, they have their causes
pub shown_caused : (config : Config) (seat : ℕ) (shown : Reply) (ws : List What) (past : List Entry) → AnswersLast ws → AreCaused config past seat ws → AreCaused config past seat (map (with_reply shown) ws)
shown_caused config seat shown [] past last caused = tt
shown_caused config seat shown (what.Done r reply ∷ ws) past last caused = (tt, subst (λ (xs : List What). AreCaused config (by_seat seat (what.Done r shown) ∷ past) seat (map (with_reply shown) xs)) (sym last) tt)
shown_caused config seat shown (other ∷ ws) past last caused = (caused.0, shown_caused config seat shown ws (by_seat seat other ∷ past) last caused.1)

-- ---- a refusal answers the next request
refusal_caused : (config : Config) (past : List Entry) (seat : ℕ) (task : Task) → IsCausedThroughout config past → IsCausedThroughout config (by_seat seat (refusal_of task) ∷ past)
refusal_caused config past seat task before = by task.request
  where
    by : (q : Request) → IsCausedThroughout config (by_seat seat (refusal_of (record task { request = q })) ∷ past)
    by (request.Reference r) = (before, tt)
    by (request.Service s) = (before, tt)

pub on_caused : (config : Config) (landed more : List Entry) (next : Control) (x : After) → GoesOn config landed more next x → IsCausedThroughout config landed → IsCausedThroughout config more
on_caused config landed more next (goes c) on before = subst (IsCausedThroughout config) (sym on.0) before
on_caused config landed more next refuses on before = by (next_task config landed) on
  where
    by : (o : Option Task) → IsRefused landed more next o → IsCausedThroughout config more
    by None refused = absurd refused
    by (Some task) refused = subst (IsCausedThroughout config) (sym refused.0) (refusal_caused config landed (task.proc).0 task before)

-- ---- the run before them
pub run_made : (config : Config) (seat : ℕ) (ws : List What) (past : List Entry) → IsRun config (made_by seat ws past) → IsRun config past
run_made config seat [] past run = run
run_made config seat (w ∷ ws) past run = (run_made config seat ws (by_seat seat w ∷ past) run).0

pub run_landed : (config : Config) (seat : ℕ) (flights : List Flight) (outcomes : List Outcome) (past : List Entry) → IsRun config (landed_by config seat flights outcomes past) → IsRun config past
run_landed config seat [] outcomes past run = run
run_landed config seat (x ∷ flights) [] past run = run
run_landed config seat (x ∷ flights) (o ∷ outcomes) past run =
    let ws = landing past (pager_after config past).page x x.direction o in
    run_made config seat ws past (run_landed config seat flights outcomes (made_by seat ws past) run)

pub run_on : (config : Config) (landed more : List Entry) (next : Control) (x : After) → GoesOn config landed more next x → IsRun config more → IsRun config landed
run_on config landed more next (goes c) on run = subst (IsRun config) on.0 run
run_on config landed more next refuses on run = by (next_task config landed) on
  where
    by : (o : Option Task) → IsRefused landed more next o → IsRun config landed
    by None refused = absurd refused
    by (Some task) refused = (subst (IsRun config) refused.0 run).0
