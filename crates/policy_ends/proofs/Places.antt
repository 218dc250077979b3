-- Each move's form: what lowers the rank, by where the policy goes on.
use Rattle.std.proofs.Common.{◌≡◌, inl, inr, ℕ, ◌+◌, ◌<◌, ◌≤◌, Bool, true, false, not, cond, List, [], ◌∷◌, Option, Some, None, length, map, slice_get, is_some, refl, sym, ap, ◌∙◌, subst, arith}
use Rattle.std.specs.List.{AllByRecursion}
use Rattle.std.proofs.lemmas.Option.{slice_get_within}
use Rattle.vm_types.specs.declared.config.Config.{Config}
use Rattle.vm_types.specs.declared.config.Task.{Task}
use Rattle.vm_types.specs.declared.reply.Answer.TheVariants as answer
use Rattle.vm_types.specs.declared.reply.Reply.{Reply}
use Rattle.vm_types.specs.declared.reply.Why.TheVariants as why
use Rattle.vm_types.specs.declared.service.Request.{Request}
use Rattle.vm_types.specs.declared.service.Request.TheVariants as request
use Rattle.vm_journal.specs.declared.entry.Entry.{Entry}
use Rattle.vm_journal.specs.declared.entry.What.{What}
use Rattle.vm_journal.specs.declared.entry.What.TheVariants as what
use Rattle.pager_model.specs.Flights.{Direction, Flight, reading, writing, carrier_of}
use Rattle.vm_types.specs.declared.names.Page.{Page}
use Rattle.pager_policy.specs.Given.{by_seat, made_by, with_reply}
use Rattle.pager_policy.specs.Landings.{Outcome, all_bad, landed_by, landing, reuse_of, went_badly, went_well}
use Rattle.pager_policy.specs.Moves.{Control, Doing, Move, asking, carries, control, goes, makes}
use Rattle.pager_policy.specs.Policy.{Ends, ends_part, ends_request, failing, next_task, unless_all_failed}
use Rattle.pager_model.specs.Spoken.{spoken, request_of}
use Rattle.pager_model.specs.Run.{IsRun, pager_after}
use Rattle.pager_policy.specs.Serial.{GoesOn, Heard, IsMade, IsRefused, refusal_of}
use Rattle.pager_rules.proofs.Basics.{count_cons_no, count_cons_yes}
use Rattle.serial_laws.proofs.Known.{landed_from}
use Rattle.policy_ends.specs.Rank.{IsLower, is_met, numbers_for, phase, process_at_hand, process_of, rank, unanswered, unmet, unmet_of}
use Rattle.policy_ends.proofs.Numbers.{AreLower}
use Rattle.policy_ends.proofs.Order.{down, here}

-- each way to make this move lowers the rank
pub record MoveLowers (config : Config) (past : List Entry) (c : Control) (m : Move) : Type 0 where
  pub lowers : (heard : Heard) (more : List Entry) (next : Control) → IsMade config past heard more next m → IsRun config more → IsLower (rank config more next) (rank config past c)

-- ---- what is answered
abbrev pub IsMute : What → Type 0
IsMute w = request_of w ≡ None

pub spoken_same : (seat : ℕ) (w : What) (past : List Entry) → IsMute w → spoken (by_seat seat w ∷ past) ≡ spoken past
spoken_same seat w past none = count_cons_no (λ (e : Entry). is_some (request_of e.what)) (by_seat seat w) past (ap is_some none)

pub spoken_made : (seat : ℕ) (ws : List What) (past : List Entry) → AllByRecursion IsMute ws → spoken (made_by seat ws past) ≡ spoken past
spoken_made seat [] past each = refl
spoken_made seat (w ∷ ws) past each = spoken_made seat ws (by_seat seat w ∷ past) each.1 ∙ spoken_same seat w past each.0

landing_mute : (past : List Entry) (page : ℕ → Option Page) (x : Flight) (d : Direction) (o : Outcome) → AllByRecursion IsMute (landing past page x d o)
landing_mute past page x (reading r) went_well = (refl, tt)
landing_mute past page x (reading r) (went_badly n) = (refl, by (page x.frame))
  where
    by : (o : Option Page) → AllByRecursion IsMute (reuse_of x.frame o)
    by None = tt
    by (Some g) = (refl, tt)
landing_mute past page x writing went_well = (refl, tt)
landing_mute past page x writing (went_badly n) = (refl, tt)

pub spoken_landed : (config : Config) (seat : ℕ) (flights : List Flight) (outcomes : List Outcome) (past : List Entry) → spoken (landed_by config seat flights outcomes past) ≡ spoken past
spoken_landed config seat [] outcomes past = refl
spoken_landed config seat (x ∷ flights) [] past = refl
spoken_landed config seat (x ∷ flights) (o ∷ outcomes) past =
    let ws = landing past (pager_after config past).page x x.direction o in
    spoken_landed config seat flights outcomes (made_by seat ws past) ∙ spoken_made seat ws past (landing_mute past (pager_after config past).page x x.direction o)

pub task_by : (config : Config) (past more : List Entry) → spoken more ≡ spoken past → next_task config more ≡ next_task config past
task_by config past more same = ap (slice_get config.body) same

-- an answer lowers the first number
pub answer_lowers : (config : Config) (past : List Entry) (c : Control) (task : Task) (more : List Entry) (next : Control) → next_task config past ≡ Some task → spoken past < spoken more
    → IsLower (rank config more next) (rank config past c)
answer_lowers config past c task more next is less = inl (let within = slice_get_within config.body (spoken past) task is in omega (arith, within, less))

refusal_speaks : (landed : List Entry) (seat : ℕ) (task : Task) (q : Request) → spoken (by_seat seat (refusal_of (record task { request = q })) ∷ landed) ≡ 1 + spoken landed
refusal_speaks landed seat task (request.Reference r) = count_cons_yes (λ (e : Entry). is_some (request_of e.what)) (by_seat seat (what.Denied r why.DiskFault)) landed refl
refusal_speaks landed seat task (request.Service s) = count_cons_yes (λ (e : Entry). is_some (request_of e.what)) (by_seat seat (what.Served s answer.DiskFault)) landed refl

pub refusal_lowers : (config : Config) (past : List Entry) (c : Control) (landed more : List Entry) (next : Control) → spoken landed ≡ spoken past
    → IsRefused landed more next (next_task config landed) → IsLower (rank config more next) (rank config past c)
refusal_lowers config past c landed more next same refused = by (next_task config landed) refl refused
  where
    by : (o : Option Task) → next_task config landed ≡ o → IsRefused landed more next o → IsLower (rank config more next) (rank config past c)
    by None is refused = absurd refused
    by (Some task) is refused =
        answer_lowers config past c task more next (sym (task_by config past landed same) ∙ is)
        (let longer = ap spoken refused.0 in let one = refusal_speaks landed (task.proc).0 task task.request in omega (arith, same, longer, one))

-- ---- the work that a move is part of: where it goes on, the later numbers decide, and a failure ends it
pub record LowersBy (config : Config) (past : List Entry) (c : Control) (p : ℕ) (ends : Ends) (doing : Doing) : Type 0 where
  pub on : (more : List Entry) (next : Control) → next.doing ≡ doing → spoken more ≡ spoken past → ((u v : ℕ) → u ≤ v → AreLower config past more p u v)
      → IsLower (rank config more next) (rank config past c)
  pub failed : (landed more : List Entry) (next : Control) → spoken landed ≡ spoken past → GoesOn config landed more next (failing ends) → IsLower (rank config more next) (rank config past c)

fewer_left : (config : Config) (past more : List Entry) → spoken more ≡ spoken past → unanswered config more ≤ unanswered config past
fewer_left config past more same = omega (arith, same)

-- an earlier phase comes later
pub phase_lowers : (config : Config) (past : List Entry) (c : Control) (more : List Entry) (next : Control) (doing : Doing) → next.doing ≡ doing → spoken more ≡ spoken past
    → phase doing < phase c.doing → IsLower (rank config more next) (rank config past c)
phase_lowers config past c more next doing is same less =
    let later = numbers_for config more (pager_after config more) (process_at_hand config more next.doing) (unmet config more next.doing) in
    let old = numbers_for config past (pager_after config past) (process_at_hand config past c.doing) (unmet config past c.doing) in
    down (unanswered config more) (unanswered config past) (phase next.doing ∷ later) (phase c.doing ∷ old) (fewer_left config past more same)
    (here (phase next.doing) (phase c.doing) later old (let phases = ap phase is in omega (arith, phases, less)))

-- at the same phase and process the later numbers decide
same_phase : (config : Config) (past : List Entry) (c : Control) (more : List Entry) (next : Control) (p : ℕ) → process_at_hand config more next.doing ≡ p → process_at_hand config past c.doing ≡ p
    → spoken more ≡ spoken past → phase next.doing ≤ phase c.doing
    → AreLower config past more p (unmet config more next.doing) (unmet config past c.doing) → IsLower (rank config more next) (rank config past c)
same_phase config past c more next p now before same phases lower =
    down (unanswered config more) (unanswered config past) (phase next.doing ∷ later (process_at_hand config more next.doing)) (phase c.doing ∷ old (process_at_hand config past c.doing))
    (fewer_left config past more same)
    (down (phase next.doing) (phase c.doing) (later (process_at_hand config more next.doing)) (old (process_at_hand config past c.doing)) phases
    (subst (λ (q : ℕ). IsLower (later q) (old (process_at_hand config past c.doing))) (sym now) (subst (λ (q : ℕ). IsLower (later p) (old q)) (sym before) lower)))
  where
    later : ℕ → List ℕ
    later q = numbers_for config more (pager_after config more) q (unmet config more next.doing)

    old : ℕ → List ℕ
    old q = numbers_for config past (pager_after config past) q (unmet config past c.doing)

-- at a request
pub asked_lowers : (config : Config) (past : List Entry) (c : Control) (task : Task) → c.doing ≡ asking → next_task config past ≡ Some task → (more : List Entry) (next : Control) → next.doing ≡ asking
    → spoken more ≡ spoken past
    → AreLower config past more (task.proc).0 (unmet_of (pager_after config more) (Some task)) (unmet_of (pager_after config past) (Some task)) → IsLower (rank config more next) (rank config past c)
asked_lowers config past c task doing is more next on same lower =
    same_phase config past c more next (task.proc).0 (ap (process_at_hand config more) on ∙ ap process_of now) (ap (process_at_hand config past) doing ∙ ap process_of is) same
    (let first = ap phase on in let second = ap phase doing in omega (arith, first, second))
    (subst (λ (u : ℕ). AreLower config past more (task.proc).0 u (unmet config past c.doing)) (sym (ap (unmet config more) on ∙ ap (unmet_of (pager_after config more)) now))
    (subst (λ (u : ℕ). AreLower config past more (task.proc).0 (unmet_of (pager_after config more) (Some task)) u) (sym (ap (unmet config past) doing ∙ ap (unmet_of (pager_after config past)) is)) lower))
  where
    now : next_task config more ≡ Some task
    now = task_by config past more same ∙ is

one_most : (b : Bool) → cond {A = ℕ} (not b) 1 0 ≤ 1
one_most true = omega arith
one_most false = omega arith

-- that can't be answered at once
pub request_lowers : (config : Config) (past : List Entry) (c : Control) (task : Task) → c.doing ≡ asking → next_task config past ≡ Some task
    → is_met (pager_after config past) (task.proc).0 task.request ≡ false → LowersBy config past c (task.proc).0 ends_request asking
request_lowers config past c task doing is not_met = record {
  on = λ more next there same lower. asked_lowers config past c task doing is more next there same
      (lower (unmet_of (pager_after config more) (Some task)) (unmet_of (pager_after config past) (Some task))
      (let most = one_most (is_met (pager_after config more) (task.proc).0 task.request) in let one = ap (λ (b : Bool). cond {A = ℕ} (not b) 1 0) not_met in omega (arith, most, one)));
  failed = λ landed more next same refused. refusal_lowers config past c landed more next same refused;
}

-- in a part of the work after an answer that goes on
pub part_lowers : (config : Config) (past : List Entry) (c : Control) (p : ℕ) (doing : Doing) (e : Control) → c.doing ≡ doing → ((xs : List Entry) → process_at_hand config xs doing ≡ p)
    → ((xs : List Entry) → unmet config xs doing ≡ 0) → phase e.doing < phase doing → LowersBy config past c p (ends_part e) doing
part_lowers config past c p doing e is hand none ending = record {
  on = λ more next there same lower.
      same_phase config past c more next p (ap (process_at_hand config more) there ∙ hand more) (ap (process_at_hand config past) is ∙ hand past) same
      (let first = ap phase there in let second = ap phase is in omega (arith, first, second))
      (lower (unmet config more next.doing) (unmet config past c.doing) (let first = ap (unmet config more) there in let zero_now = none more in omega (arith, first, zero_now)));
  failed = λ landed more next same on.
      subst (λ (xs : List Entry). IsLower (rank config xs next) (rank config past c)) (sym on.0)
      (phase_lowers config past c landed next e.doing (ap (λ (d : Control). d.doing) on.1) same (let phases = ap phase is in
      omega (arith, phases, ending)));
}

-- at the next request, from the work after an answer
pub later_lowers : (config : Config) (past : List Entry) (c : Control) (more : List Entry) (next : Control) → 0 < phase c.doing → IsLower (rank config more next) (rank config past (control asking))
    → IsLower (rank config more next) (rank config past c)
later_lowers config past c more next some (inl less) = inl less
later_lowers config past c more next some (inr (same, inl less)) = absurd (omega (arith, less))
later_lowers config past c more next some (inr (same, inr (none, rest))) = inr (same, inl (omega (arith, none, some)))

-- before it
pub earlier_lowers : (config : Config) (past : List Entry) (c : Control) (q : ℕ) (doing : Doing) (e : Control) → phase doing < phase c.doing → phase e.doing < phase c.doing
    → LowersBy config past c q (ends_part e) doing
earlier_lowers config past c q doing e less ending = record {
  on = λ more next is same lower. phase_lowers config past c more next doing is same less;
  failed = λ landed more next same on.
      subst (λ (xs : List Entry). IsLower (rank config xs next) (rank config past c)) (sym on.0)
      (phase_lowers config past c landed next e.doing (ap (λ (d : Control). d.doing) on.1) same ending);
}

-- ---- the forms of moves
pub makes_lowers : (config : Config) (past : List Entry) (c : Control) (seat : ℕ) (ws : List What) (d : Control)
    → ((reply : Reply) → IsRun config (made_by seat (map (with_reply reply) ws) past) → IsLower (rank config (made_by seat (map (with_reply reply) ws) past) d) (rank config past c)) → MoveLowers config past c (makes seat ws d)
makes_lowers config past c seat ws d made = record {
  lowers = λ heard more next is run.
      subst (λ (n : Control). IsLower (rank config more n) (rank config past c)) (sym is.1)
      (subst (λ (xs : List Entry). IsLower (rank config xs d) (rank config past c)) (sym is.0) (made heard.reply (subst (IsRun config) is.0 run)));
}

-- a carrier whose failure matters only if it is of all lifts
pub carries_lowers : (config : Config) (past : List Entry) (c : Control) (p seat : ℕ) (ws : List What) (ends : Ends) (doing : Doing) (d : Control) → LowersBy config past c p ends doing
    → d.doing ≡ doing → AllByRecursion IsMute ws
    → ((outcomes : List Outcome) → length outcomes ≡ length (carrier_of seat (made_by seat ws past)) → all_bad outcomes ≡ false → IsRun config (landed_from config (made_by seat ws past) seat outcomes)
    → (u v : ℕ) → u ≤ v → AreLower config past (landed_from config (made_by seat ws past) seat outcomes) p u v)
    → MoveLowers config past c (carries seat ws (unless_all_failed ends d))
carries_lowers config past c p seat ws ends doing d work there mute well = record {
  lowers = λ heard more next is run. by heard.outcomes more next run is.each (all_bad heard.outcomes) refl is.on;
}
  where
    same : (outcomes : List Outcome) → spoken (landed_from config (made_by seat ws past) seat outcomes) ≡ spoken past
    same outcomes = spoken_landed config seat (carrier_of seat (made_by seat ws past)) outcomes (made_by seat ws past) ∙ spoken_made seat ws past mute

    by : (outcomes : List Outcome) (more : List Entry) (next : Control) → IsRun config more → length outcomes ≡ length (carrier_of seat (made_by seat ws past)) → (all : Bool) → all_bad outcomes ≡ all
        → GoesOn config (landed_from config (made_by seat ws past) seat outcomes) more next (cond all (failing ends) (goes d)) → IsLower (rank config more next) (rank config past c)
    by outcomes more next run each true bad on = work.failed (landed_from config (made_by seat ws past) seat outcomes) more next (same outcomes) on
    by outcomes more next run each false good on =
        subst (λ (xs : List Entry). IsLower (rank config xs next) (rank config past c)) (sym on.0)
        (work.on (landed_from config (made_by seat ws past) seat outcomes) next (ap (λ (n : Control). n.doing) on.1 ∙ there) (same outcomes) (well outcomes each good (subst (IsRun config) on.0 run)))
