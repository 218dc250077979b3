-- A serial journal has each process's requests once and in order, and when no task is left all of them.
use Rattle.std.proofs.Common.{◌≡◌, ℕ, ◌+◌, Bool, true, false, cond, List, [], ◌∷◌, ◌++◌, Option, Some, None, length, map, filter, take, drop, get_or, slice_get, nat_eq, append-nil, take-append-drop, refl, sym, ap, ap₂, ◌∙◌, subst, inl, inr, ⊎_elim}
use Rattle.std.proofs.lemmas.List.{map-append, take_all, take_more}
use Rattle.std.proofs.lemmas.List.Elements.{filter-append}
use Rattle.std.proofs.lemmas.Option.{get_or_from_slice_get, slice_get_within, slice_get_cases}
use Rattle.vm_types.specs.declared.config.Config.{Config}
use Rattle.vm_types.specs.declared.config.Task.{Task}
use Rattle.vm_types.specs.declared.service.Request.{Request}
use Rattle.vm_types.specs.declared.service.Request.TheVariants as request
use Rattle.vm_journal.specs.declared.entry.Entry.{Entry}
use Rattle.vm_journal.specs.declared.entry.What.{What}
use Rattle.pager_policy.specs.Given.{with_reply, made_by}
use Rattle.pager_policy.specs.Landings.{all_bad, first_bad, landed_by}
use Rattle.pager_model.specs.Flights.{carrier_of}
use Rattle.pager_policy.specs.Moves.{After, Control, Move, asking, carries, control, goes, makes, refuses, rests}
use Rattle.pager_model.specs.Order.{answered, requests_of, spoken_by, IsInOrder, IsAnswered}
use Rattle.pager_policy.specs.Policy.{move_of, next_task}
use Rattle.pager_model.specs.Spoken.{spoken}
use Rattle.pager_policy.specs.Serial.{GoesOn, Heard, IsMade, IsReached, IsRefused, IsSerialTo, refusal_of}
use Rattle.call_laws.proofs.MovesSay.{AnswersTask, SaysRight, move_says}
use Rattle.call_laws.proofs.Said.{said_shown, IsSilentStep, answered_made, landed_silent, said, said_by, silent_made, silent_then, spoken_made}

-- ---- the requests of a prefix of the body
requests_join : (p : ℕ) (xs ys : List Task) → requests_of p (xs ++ ys) ≡ requests_of p xs ++ requests_of p ys
requests_join p xs ys =
    let of_p : Task → Bool = λ task. nat_eq (task.proc).0 p in
    ap (map (λ (task : Task). task.request)) (filter-append of_p xs ys) ∙ map-append (λ (task : Task). task.request) (filter of_p xs) (filter of_p ys)

requests_one : (p : ℕ) (task : Task) → requests_of p (task ∷ []) ≡ spoken_by p (task.proc).0 (Some task.request)
requests_one p task = by (nat_eq (task.proc).0 p)
  where
    by : (b : Bool) → map (λ (x : Task). x.request) (cond b (task ∷ []) []) ≡ cond b (task.request ∷ []) []
    by true = refl
    by false = refl

requests_more : (p n : ℕ) (body : List Task) (task : Task) → slice_get body n ≡ Some task → requests_of p (take (n + 1) body) ≡ requests_of p (take n body) ++ spoken_by p (task.proc).0 (Some task.request)
requests_more p n body task next =
    let more = take_more body n task (slice_get_within body n task next) in
    let there : get_or body n task ≡ task = get_or_from_slice_get body n task task next in
    ap (requests_of p) (more ∙ ap (λ (x : Task). take n body ++ x ∷ []) there)
    ∙ requests_join p (take n body) (task ∷ [])
    ∙ ap (λ (x : List Request). requests_of p (take n body) ++ x) (requests_one p task)

-- ---- the answers are the requests of the tasks that were taken
abbrev IsTaken : Config → List Entry → Type 0
IsTaken config past = (p : ℕ) → answered p past ≡ requests_of p (take (spoken past) config.body)

silent_taken : (config : Config) (past more : List Entry) → IsSilentStep past more → IsTaken config past → IsTaken config more
silent_taken config past more silent old p = silent.answers p ∙ (old p ∙ ap (λ (n : ℕ). requests_of p (take n config.body)) (sym silent.count))

answer_taken : (config : Config) (past : List Entry) (seat : ℕ) (ws : List What) → AnswersTask config past seat ws → IsTaken config past → IsTaken config (made_by seat ws past)
answer_taken config past seat ws for old p =
    let count : spoken (made_by seat ws past) ≡ spoken past + 1 = spoken_made seat ws past ∙ ap (λ (xs : List Request). spoken past + length xs) for.says in
    answered_made p seat ws past
    ∙ (ap₂ (λ (xs : List Request) (s : ℕ). answered p past ++ said_by p s xs) for.says (sym for.seat_is)
    ∙ (ap₂ (λ (xs ys : List Request). xs ++ ys) (old p) (append-nil (spoken_by p ((for.task).proc).0 (Some for.task.request)))
    ∙ (sym (requests_more p (spoken past) config.body for.task for.next) ∙ ap (λ (n : ℕ). requests_of p (take n config.body)) (sym count))))

-- ---- one move
refusal_says : (task : Task) → said (refusal_of task ∷ []) ≡ task.request ∷ []
refusal_says task = by task.request
  where
    by : (r : Request) → said (refusal_of (record task { request = r }) ∷ []) ≡ r ∷ []
    by (request.Reference r) = refl
    by (request.Service s) = refl

refused_taken : (config : Config) (past more : List Entry) (next : Control) (o : Option Task) → next_task config past ≡ o → IsRefused past more next o → IsTaken config past → IsTaken config more
refused_taken config past more next None is refused old = absurd refused
refused_taken config past more next (Some task) is refused old =
    subst (IsTaken config) (sym refused.0) (answer_taken config past (task.proc).0 (refusal_of task ∷ []) (record { task = task; next = is; seat_is = refl; says = refusal_says task }) old)

on_taken : (config : Config) (past more : List Entry) (next : Control) (x : After) → GoesOn config past more next x → IsTaken config past → IsTaken config more
on_taken config past more next (goes c) on old = subst (IsTaken config) (sym on.0) old
on_taken config past more next refuses on old = refused_taken config past more next (next_task config past) refl on old

made_taken : (config : Config) (past : List Entry) (heard : Heard) (more : List Entry) (next : Control) (m : Move) → SaysRight config past m → IsMade config past heard more next m → IsTaken config past → IsTaken config more
made_taken config past heard more next (makes seat ws c) (inl silent) made old =
    let shown = map (with_reply heard.reply) ws in
    subst (IsTaken config) (sym made.0) (silent_taken config past (made_by seat shown past) (silent_made seat shown past (said_shown heard.reply ws ∙ silent)) old)
made_taken config past heard more next (makes seat ws c) (inr for) made old =
    subst (IsTaken config) (sym made.0) (answer_taken config past seat (map (with_reply heard.reply) ws) (record { task = for.task; next = for.next; seat_is = for.seat_is; says = said_shown heard.reply ws ∙ for.says }) old)
made_taken config past heard more next (carries seat ws onward) silent made old =
    let begun = made_by seat ws past in
    let landed = landed_by config seat (carrier_of seat begun) heard.outcomes begun in
    on_taken config landed more next (onward (all_bad heard.outcomes) (first_bad heard.outcomes)) made.on
    (silent_taken config past landed (silent_then past begun landed (silent_made seat ws past silent) (landed_silent config seat (carrier_of seat begun) heard.outcomes begun)) old)
made_taken config past heard more next rests says made old = absurd made

pub reached_taken : (config : Config) (start : List Entry) (from : Control) (told : List Heard) (past : List Entry) (c : Control) → IsReached config start from told past c → IsTaken config start → IsTaken config past
reached_taken config start from [] past c reached old = subst (IsTaken config) (sym reached.0) old
reached_taken config start from (heard ∷ told) past c reached old =
    made_taken config reached.earlier_past heard past c (move_of config reached.earlier_past reached.earlier_control) (move_says config reached.earlier_past reached.earlier_control).right reached.move
    (reached_taken config start from told reached.earlier_past reached.earlier_control reached.before old)

serial_taken : (config : Config) (past : List Entry) (c : Control) → IsSerialTo config past c → IsTaken config past
serial_taken config past c serial = reached_taken config [] (control asking) serial.told past c serial.reached (λ p. refl)

-- ---- the laws
pub serial_in_order : (config : Config) (past : List Entry) (c : Control) → IsSerialTo config past c → IsInOrder config past
serial_in_order config past c serial p =
    let n : ℕ = spoken past in
    let whole : requests_of p (take n config.body) ++ requests_of p (drop n config.body) ≡ requests_of p config.body =
    sym (requests_join p (take n config.body) (drop n config.body)) ∙ ap (requests_of p) (take-append-drop n config.body) in
    (requests_of p (drop n config.body), ap (λ (x : List Request). x ++ requests_of p (drop n config.body)) (serial_taken config past c serial p) ∙ whole)

pub serial_answered : (config : Config) (past : List Entry) (c : Control) → IsSerialTo config past c → next_task config past ≡ None → IsAnswered config past
serial_answered config past c serial none p = ⊎_elim
    (λ inside. let there : next_task config past ≡ Some inside.0 = inside.2 in absurd (cc))
    (λ beyond. serial_taken config past c serial p ∙ ap (requests_of p) (take_all (spoken past) config.body beyond.0))
    (slice_get_cases config.body (spoken past)).1
