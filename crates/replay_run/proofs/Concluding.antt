-- What the work of all seats says of the whole journal.
use Rattle.std.proofs.Common.{◌≡◌, ◌⊎◌, ◌||◌, ℕ, ◌+◌, ◌<◌, ◌≤◌, Bool, true, false, cond, List, [], ◌∷◌, ◌++◌, Option, Some, None, filter, length, map, nat_eq, nat_lt, reverse, refl, sym, ap, ◌∙◌, subst, arith, inl, inr, append-nil}
use Rattle.std.specs.Option.{is_some}
use Rattle.std.specs.List.{AllByRecursion, list_any}
use Rattle.std.proofs.lemmas.Bool.{eq-eqb, eqb-true, eqb-false, false≢true, ltb-true, ltb-false}
use Rattle.std.proofs.lemmas.List.{reverse-append}
use Rattle.std.proofs.lemmas.List.Elements.{recursion_from_All}
use Rattle.std.proofs.lemmas.List.Folds.{list_any-append}
use Rattle.vm_types.specs.Configuration.{IsTask}
use Rattle.vm_types.specs.declared.config.Task.{Task}
use Rattle.vm_types.specs.declared.service.Request.{Request}
use Rattle.vm_journal.specs.Own.{own_entries}
use Rattle.vm_journal.specs.declared.entry.Entry.{Entry}
use Rattle.pager_model.specs.Flights.{carrier_of}
use Rattle.pager_model.specs.Order.{IsAnswered, answered, requests_of, spoken_by}
use Rattle.pager_model.specs.Spoken.{spoken, request_of}
use Rattle.pager_model.specs.Run.{IsRun, pager_after}
use Rattle.pager_rules.proofs.Basics.{count_cons}
use Rattle.serial_laws.specs.Between.{IsBetween}
use Rattle.seat_steps.specs.Turns.{EachInTurn}
use Rattle.vm_state.specs.declared.base.StateBase.{StateBase}
use Rattle.vm_actors.specs.Between.{IsCalm}
use Rattle.vm_actors.specs.Doings.{HasRested, RestsAt}
use Rattle.vm_actors.specs.InTurns.{GoesInTurns}
use Rattle.vm_actors.specs.OwnEntries.{MadeSome, own_of}
use Rattle.vm_actors.specs.Requests.{requests_in}
use Rattle.vm_actors.specs.declared.doing.Doing.{Doing}
use Rattle.vm_actors.specs.declared.doing.Doing.TheVariants.{Swapping, Writing}
use Rattle.vm_actors.proofs.Answering.{silent_ask}
use Rattle.vm_actors.proofs.Foreign.{IsForeign, all_foreign}
use Rattle.vm_actors.proofs.InTurns.{goes_on, others_go}
use Rattle.vm_actors.proofs.OthersLanded.{stays_landed}
use Rattle.vm_actors.proofs.Onto.{onto, onto_reverse}
use Rattle.replay_run.specs.Jobs.{IsIdleDone, IsPlayable}
use Rattle.replay_run.specs.Workers.{WasDone}
use Rattle.replay_run.specs.Worked.{HasWorkedAt, is_by}
use Rattle.replay_run.proofs.AnswerCounts.{no_more_answers, one_if}
use Rattle.replay_run.proofs.SeatBounds.{IsBelow, none_open, seats_below}
use Rattle.replay_run.proofs.WholeRun.{answered_all}
use Rattle.replay_run.proofs.WholeTurns.{whole_in_turns}

-- ---- seats that ask for nothing
none_of_task : (n k : ℕ) (body : List Task) → AllByRecursion (λ (task : Task). (task.proc).0 < n) body → n ≤ k → requests_of k body ≡ []
none_of_task n k [] tasks beyond = refl
none_of_task n k (task ∷ body) tasks beyond = by (nat_eq (task.proc).0 k) refl (none_of_task n k body tasks.1 beyond)
  where
    by : (b : Bool) → nat_eq (task.proc).0 k ≡ b → requests_of k body ≡ [] → map (λ (t : Task). t.request) (cond b (task ∷ filter (λ (t : Task). nat_eq (t.proc).0 k) body) (filter (λ (t : Task). nat_eq (t.proc).0 k) body)) ≡ []
    by true is rest = absurd (let same = eqb-true (task.proc).0 k is in let under = tasks.0 in omega (arith, same, under, beyond))
    by false is rest = rest

none_answered : (n k : ℕ) (past : List Entry) → AllByRecursion (IsBelow n) past → n ≤ k → answered k past ≡ []
none_answered n k [] below beyond = refl
none_answered n k (e ∷ past) below beyond =
    ap (λ (rs : List Request). rs ++ spoken_by k (e.seat).0 (request_of e.what)) (none_answered n k past below.1 beyond) ∙ by (request_of e.what)
  where
    other : (x : Request) (b : Bool) → nat_eq (e.seat).0 k ≡ b → cond b (x ∷ []) [] ≡ []
    other x true is = absurd (let same = eqb-true (e.seat).0 k is in let under = below.0 in omega (arith, same, under, beyond))
    other x false is = refl

    by : (o : Option Request) → spoken_by k (e.seat).0 o ≡ []
    by None = refl
    by (Some x) = other x (nat_eq (e.seat).0 k) refl

-- ---- an own entry is in its journal
or_left : (b c : Bool) → b ≡ true → (b || c) ≡ true
or_left true c is = refl
or_left false c is = absurd (false≢true is)

or_right : (b c : Bool) → c ≡ true → (b || c) ≡ true
or_right true c is = refl
or_right false c is = is

some_own : (k : ℕ) (es : List Entry) → (own_of (k ∷ []) es ≡ [] → ⊥) → list_any (is_by k) (reverse es) ≡ true
some_own k [] some = absurd (some refl)
some_own k (e ∷ es) some =
    ap (list_any (is_by k)) (reverse-append (e ∷ []) es) ∙ (list_any-append (is_by k) (reverse es) (e ∷ []) ∙ by (nat_eq k (e.seat).0) refl (some_own k es))
  where
    by : (b : Bool) → nat_eq k (e.seat).0 ≡ b → ((own_of (k ∷ []) es ≡ [] → ⊥) → list_any (is_by k) (reverse es) ≡ true) → (list_any (is_by k) (reverse es) || list_any (is_by k) (e ∷ [])) ≡ true
    by true is rest = or_right (list_any (is_by k) (reverse es)) (list_any (is_by k) (e ∷ [])) (or_left (nat_eq (e.seat).0 k) false (eq-eqb (e.seat).0 k (sym (eqb-true k (e.seat).0 is))))
    by false is rest =
        or_left (list_any (is_by k) (reverse es)) (list_any (is_by k) (e ∷ []))
        (rest (λ none. some (ap (λ (c : Bool). cond (c || false) (e ∷ own_of (k ∷ []) es) (own_of (k ∷ []) es)) is ∙ none)))

module _ (b : StateBase) (playable : IsPlayable b) (journal : List Entry) (run : IsRun b.config (reverse journal)) (done : (k : ℕ) → k < length b.config.procs + 2 → WasDone b k journal) where
  abbrev pub n : ℕ
  n = length b.config.procs

  tasks : AllByRecursion (λ (task : Task). (task.proc).0 < n) b.config.body
  tasks = each b.config.body (recursion_from_All (IsTask b.config.version n) b.config.body (playable.formed).body)
    where
      each : (body : List Task) → AllByRecursion (IsTask b.config.version n) body → AllByRecursion (λ (task : Task). (task.proc).0 < n) body
      each [] are = tt
      each (task ∷ body) are = ((are.0).proc, each body are.1)

  idle_asks : (k : ℕ) (doing : Doing) (was : WasDone b k journal) → IsIdleDone b k doing was.place → requests_in (own_of (k ∷ []) was.place) ≡ []
  idle_asks k doing was idle = ap (λ (es : List Entry). requests_in (own_of (k ∷ []) es)) (sym idle.silent.whole) ∙ silent_ask (own_of (k ∷ []) idle.silent.later) idle.silent.own

  asked_of : (k : ℕ) (was : WasDone b k journal) → k < n + 2 → requests_in (own_of (k ∷ []) was.place) ≡ requests_of k b.config.body
  asked_of k was under = by (nat_lt k n) refl
    where
      idle_by : (c : Bool) → nat_eq k n ≡ c → n ≤ k → requests_in (own_of (k ∷ []) was.place) ≡ requests_of k b.config.body
      idle_by true is beyond = idle_asks k _ was ((was.done).writer (eqb-true k n is)) ∙ sym (none_of_task n k b.config.body tasks beyond)
      idle_by false is beyond =
          idle_asks k _ was ((was.done).swapper (last k (eqb-false k n is) beyond under)) ∙ sym (none_of_task n k b.config.body tasks beyond)
        where
          last : (j : ℕ) → (j ≡ n → ⊥) → n ≤ j → j < n + 2 → j ≡ n + 1
          last j apart more less = omega (arith, apart, more, less)

      by : (c : Bool) → nat_lt k n ≡ c → requests_in (own_of (k ∷ []) was.place) ≡ requests_of k b.config.body
      by true is =
          let all = (was.done).process (ltb-true k n is) in
          ap (λ (es : List Entry). requests_in (own_of (k ∷ []) es)) (sym all.whole) ∙ all.own
      by false is = idle_by (nat_eq k n) refl (ltb-false k n is)

  pub all_answered : IsAnswered b.config (reverse journal)
  all_answered k = by (nat_lt k (n + 2)) refl
    where
      by : (c : Bool) → nat_lt k (n + 2) ≡ c → answered k (reverse journal) ≡ requests_of k b.config.body
      by true is =
          let was = done k (ltb-true k (n + 2) is) in
          answered_all k journal was.place was.own ∙ asked_of k was (ltb-true k (n + 2) is)
      by false is =
          let beyond : n + 2 ≤ k = ltb-false k (n + 2) is in
          none_answered (n + 2) k (reverse journal) (seats_below b.config (reverse journal) run) beyond ∙ sym (none_of_task n k b.config.body tasks (omega (arith, beyond)))

  landed_of : (k : ℕ) → k < n + 2 → carrier_of k (reverse journal) ≡ []
  landed_of k under =
      let was = done k under in
      let past_is : reverse journal ≡ onto (reverse was.place) was.begins.0 = ap reverse (sym was.begins.1) ∙ onto_reverse was.place was.begins.0 in
      let foreign : AllByRecursion (IsForeign k) was.begins.0 = all_foreign k was.place was.begins.0 (ap (own_entries k) was.begins.1 ∙ was.own) in
      subst (λ (past : List Entry). carrier_of k past ≡ []) (sym past_is)
      (stays_landed b k was.begins.0 (reverse was.place) playable.formed foreign (subst (IsRun b.config) past_is run) (was.landed k (0, omega arith, refl)))

  -- each seat's entries were made in turns, and so the whole journal was
  turns_of : (k : ℕ) → k < n + 2 → GoesInTurns b.config k [] (reverse journal)
  turns_of k under =
      let was = done k under in
      let past_is : reverse journal ≡ onto (reverse was.place) was.begins.0 = ap reverse (sym was.begins.1) ∙ onto_reverse was.place was.begins.0 in
      let foreign : AllByRecursion (IsForeign k) was.begins.0 = all_foreign k was.place was.begins.0 (ap (own_entries k) was.begins.1 ∙ was.own) in
      subst (GoesInTurns b.config k []) (sym past_is) (goes_on b.config k [] (reverse was.place) (onto (reverse was.place) was.begins.0) (was.done).turns (others_go b.config k was.begins.0 (reverse was.place) foreign))

  pub all_in_turns : EachInTurn b.config (reverse journal)
  all_in_turns = whole_in_turns b.config (n + 2) (reverse journal) (seats_below b.config (reverse journal) run) turns_of

  pub is_between : IsCalm journal → IsBetween b.config (reverse journal)
  is_between calm = record {
    formed = playable.formed;
    run = run;
    landed = none_open (n + 2) (reverse journal) (seats_below b.config (reverse journal) run) landed_of;
    reused = calm;
  }

  -- ---- the place where a seat that asks for nothing has ended
  more_spoken : (ys older : List Entry) → spoken older ≤ spoken (ys ++ older)
  more_spoken [] older = omega arith
  more_spoken (y ∷ ys) older = (let rest = more_spoken ys older in let one : spoken (y ∷ ys ++ older) ≡ one_if (is_some (request_of y.what)) + spoken (ys ++ older) = count_cons (λ (z : Entry). is_some (request_of z.what)) y (ys ++ older) in omega (arith, rest, one))

  none_after : (xs past : List Entry) → spoken (xs ++ past) ≤ spoken past → (k : ℕ) → answered k (xs ++ past) ≡ answered k past
  none_after [] past few k = refl
  none_after (e ∷ xs) past few k = by (request_of e.what) refl (λ less. none_after xs past less k)
    where
      counts : spoken (e ∷ xs ++ past) ≡ one_if (is_some (request_of e.what)) + spoken (xs ++ past)
      counts = count_cons (λ (z : Entry). is_some (request_of z.what)) e (xs ++ past)

      by : (o : Option Request) → request_of e.what ≡ o → (spoken (xs ++ past) ≤ spoken past → answered k (xs ++ past) ≡ answered k past) → answered k (xs ++ past) ++ spoken_by k (e.seat).0 (request_of e.what) ≡ answered k past
      by None is rest =
          ap (λ (p : Option Request). answered k (xs ++ past) ++ spoken_by k (e.seat).0 p) is
          ∙ (append-nil (answered k (xs ++ past)) ∙ rest (let all = counts in omega (arith, few, all)))
      by (Some x) is rest = absurd (let all = counts in let one : one_if (is_some (request_of e.what)) ≡ 1 = ap (λ (p : Option Request). one_if (is_some p)) is in let more = more_spoken xs past in omega (arith, few, all, one, more))

  worked_by : (k : ℕ) (doing : Doing) (was : WasDone b k journal) → IsIdleDone b k doing was.place → HasWorkedAt b.config (reverse journal) k (HasRested doing)
  worked_by k doing was idle = record {
    after = reverse was.begins.0;
    place = reverse was.place;
    is = split;
    answered = λ j. sym (none_after (reverse was.begins.0) (reverse was.place) few j) ∙ (ap (answered j) (sym split) ∙ all_answered j);
    worked = either idle.worked;
  }
    where
      split : reverse journal ≡ reverse was.begins.0 ++ reverse was.place
      split = ap reverse (sym was.begins.1) ∙ reverse-append was.place was.begins.0

      few : spoken (reverse was.begins.0 ++ reverse was.place) ≤ spoken (reverse was.place)
      few =
          let most = no_more_answers (n + 2) b.config.body (reverse journal) (seats_below b.config (reverse journal) run) all_answered in
          let all : length b.config.body ≤ spoken (reverse was.place) = idle.answered in
          let same : spoken (reverse journal) ≡ spoken (reverse was.begins.0 ++ reverse was.place) = ap spoken split in
          omega (arith, most, all, same)

      either : MadeSome (k ∷ []) [] was.place ⊎ RestsAt doing (Some b) (reverse was.place) → (list_any (is_by k) (reverse was.place) ≡ true) ⊎ HasRested doing b.config (reverse was.place) (pager_after b.config (reverse was.place))
      either (inl made) = inl (some_own k was.place (λ none. made.own (ap (own_of (k ∷ [])) made.whole ∙ none)))
      either (inr rests) = inr rests

  pub writer_worked : HasWorkedAt b.config (reverse journal) n (HasRested Writing)
  writer_worked = let was = done n (omega arith) in worked_by n _ was ((was.done).writer refl)

  pub swapper_worked : HasWorkedAt b.config (reverse journal) (n + 1) (HasRested Swapping)
  swapper_worked = let was = done (n + 1) (omega arith) in worked_by (n + 1) _ was ((was.done).swapper refl)
