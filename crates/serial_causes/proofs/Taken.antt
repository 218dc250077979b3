-- What the serial policy works for is what its process asks for next.
use Rattle.std.proofs.Common.{◌≡◌, inl, inr, ℕ, ◌+◌, Bool, true, false, cond, List, [], ◌∷◌, ◌++◌, Option, Some, None, length, map, filter, take, drop, get_or, slice_get, nat_eq, append-nil, take-append-drop, refl, sym, ap, ap₂, ◌∙◌, subst}
use Rattle.std.proofs.lemmas.List.{map-append, take_more}
use Rattle.std.proofs.lemmas.List.Elements.{filter-append}
use Rattle.std.proofs.lemmas.Option.{get_or_from_slice_get, slice_get_within}
use Rattle.vm_types.specs.declared.config.Config.{Config}
use Rattle.vm_types.specs.declared.config.Task.{Task}
use Rattle.vm_types.specs.declared.service.Request.{Request}
use Rattle.vm_types.specs.declared.service.Request.TheVariants as request
use Rattle.vm_journal.specs.declared.entry.Entry.{Entry}
use Rattle.vm_journal.specs.declared.entry.What.{What}
use Rattle.pager_model.specs.Flights.{carrier_of}
use Rattle.pager_model.specs.Order.{answered, requests_of, spoken_by}
use Rattle.pager_model.specs.Spoken.{spoken}
use Rattle.pager_policy.specs.Given.{made_by, with_reply}
use Rattle.pager_policy.specs.Landings.{all_bad, first_bad, landed_by}
use Rattle.pager_policy.specs.Moves.{After, Control, Move, carries, goes, makes, refuses, rests}
use Rattle.pager_policy.specs.Policy.{move_of, next_task}
use Rattle.pager_policy.specs.Serial.{GoesOn, Heard, IsMade, IsMove, IsRefused, refusal_of}
use Rattle.pager_rules.proofs.Basics.{nat_eq_refl}
use Rattle.call_laws.proofs.MovesSay.{AnswersTask, SaysRight, move_says}
use Rattle.call_laws.proofs.Said.{IsSilentStep, answered_made, landed_silent, said, said_by, said_shown, silent_made, silent_then, spoken_made}
use Rattle.entry_causes.specs.NextRequest.{next_request}

-- ---- the requests of a prefix of the body
requests_join : (p : ℕ) (xs ys : List Task) → requests_of p (xs ++ ys) ≡ requests_of p xs ++ requests_of p ys
requests_join p xs ys =
    let of_p : Task → Bool = λ task. nat_eq (task.proc).0 p in
    ap (map (λ (task : Task). task.request)) (filter-append of_p xs ys) ∙ map-append (λ (task : Task). task.request) (filter of_p xs) (filter of_p ys)

requests_one : (p : ℕ) (task : Task) → requests_of p (task ∷ []) ≡ spoken_by p (task.proc).0 (Some task.request)
requests_one p task = by (nat_eq (task.proc).0 p)
  where
    by : (b : Bool) → map (λ (x : Task). x.request) (cond b (task ∷ []) []) ≡ cond b (task.request ∷ []) []
    by true = refl
    by false = refl

requests_more : (p n : ℕ) (body : List Task) (task : Task) → slice_get body n ≡ Some task → requests_of p (take (n + 1) body) ≡ requests_of p (take n body) ++ spoken_by p (task.proc).0 (Some task.request)
requests_more p n body task next =
    let more = take_more body n task (slice_get_within body n task next) in
    let there : get_or body n task ≡ task = get_or_from_slice_get body n task task next in
    ap (requests_of p) (more ∙ ap (λ (x : Task). take n body ++ x ∷ []) there)
    ∙ requests_join p (take n body) (task ∷ [])
    ∙ ap (λ (x : List Request). requests_of p (take n body) ++ x) (requests_one p task)

-- ---- the answers are the requests of the tasks that were taken
abbrev pub IsTaken : Config → List Entry → Type 0
IsTaken config past = (p : ℕ) → answered p past ≡ requests_of p (take (spoken past) config.body)

silent_taken : (config : Config) (past more : List Entry) → IsSilentStep past more → IsTaken config past → IsTaken config more
silent_taken config past more silent old p = silent.answers p ∙ (old p ∙ ap (λ (n : ℕ). requests_of p (take n config.body)) (sym silent.count))

answer_taken : (config : Config) (past : List Entry) (seat : ℕ) (ws : List What) → AnswersTask config past seat ws → IsTaken config past → IsTaken config (made_by seat ws past)
answer_taken config past seat ws for old p =
    let count : spoken (made_by seat ws past) ≡ spoken past + 1 = spoken_made seat ws past ∙ ap (λ (xs : List Request). spoken past + length xs) for.says in
    answered_made p seat ws past
    ∙ (ap₂ (λ (xs : List Request) (s : ℕ). answered p past ++ said_by p s xs) for.says (sym for.seat_is)
    ∙ (ap₂ (λ (xs ys : List Request). xs ++ ys) (old p) (append-nil (spoken_by p ((for.task).proc).0 (Some for.task.request)))
    ∙ (sym (requests_more p (spoken past) config.body for.task for.next) ∙ ap (λ (n : ℕ). requests_of p (take n config.body)) (sym count))))

refusal_says : (task : Task) → said (refusal_of task ∷ []) ≡ task.request ∷ []
refusal_says task = by task.request
  where
    by : (r : Request) → said (refusal_of (record task { request = r }) ∷ []) ≡ r ∷ []
    by (request.Reference r) = refl
    by (request.Service s) = refl

refused_taken : (config : Config) (past more : List Entry) (next : Control) (o : Option Task) → next_task config past ≡ o → IsRefused past more next o → IsTaken config past → IsTaken config more
refused_taken config past more next None is refused old = absurd refused
refused_taken config past more next (Some task) is refused old =
    subst (IsTaken config) (sym refused.0) (answer_taken config past (task.proc).0 (refusal_of task ∷ []) (record { task = task; next = is; seat_is = refl; says = refusal_says task }) old)

on_taken : (config : Config) (past more : List Entry) (next : Control) (x : After) → GoesOn config past more next x → IsTaken config past → IsTaken config more
on_taken config past more next (goes c) on old = subst (IsTaken config) (sym on.0) old
on_taken config past more next refuses on old = refused_taken config past more next (next_task config past) refl on old

made_taken : (config : Config) (past : List Entry) (heard : Heard) (more : List Entry) (next : Control) (m : Move) → SaysRight config past m → IsMade config past heard more next m → IsTaken config past → IsTaken config more
made_taken config past heard more next (makes seat ws c) (inl silent) made old =
    let shown = map (with_reply heard.reply) ws in
    subst (IsTaken config) (sym made.0) (silent_taken config past (made_by seat shown past) (silent_made seat shown past (said_shown heard.reply ws ∙ silent)) old)
made_taken config past heard more next (makes seat ws c) (inr for) made old =
    subst (IsTaken config) (sym made.0) (answer_taken config past seat (map (with_reply heard.reply) ws) (record { task = for.task; next = for.next; seat_is = for.seat_is; says = said_shown heard.reply ws ∙ for.says }) old)
made_taken config past heard more next (carries seat ws onward) silent made old =
    let begun = made_by seat ws past in
    let landed = landed_by config seat (carrier_of seat begun) heard.outcomes begun in
    on_taken config landed more next (onward (all_bad heard.outcomes) (first_bad heard.outcomes)) made.on
    (silent_taken config past landed (silent_then past begun landed (silent_made seat ws past silent) (landed_silent config seat (carrier_of seat begun) heard.outcomes begun)) old)
made_taken config past heard more next rests says made old = absurd made

-- one move leaves it so
pub move_taken : (config : Config) (past : List Entry) (c : Control) (heard : Heard) (more : List Entry) (next : Control) → IsMove config past c heard more next → IsTaken config past → IsTaken config more
move_taken config past c heard more next move = made_taken config past heard more next (move_of config past c) (move_says config past c).right move

-- ---- so the next task's request is what its process asks for next
at_end : (xs : List Request) (x : Request) (ys : List Request) → slice_get ((xs ++ (x ∷ [])) ++ ys) (length xs) ≡ Some x
at_end [] x ys = refl
at_end (y ∷ xs) x ys = at_end xs x ys

own_spoken : (p : ℕ) (r : Request) → spoken_by p p (Some r) ≡ r ∷ []
own_spoken p r = ap (λ (b : Bool). cond b (r ∷ []) []) (nat_eq_refl p)

pub next_is_asked : (config : Config) (past : List Entry) (task : Task) → IsTaken config past → next_task config past ≡ Some task → next_request config past (task.proc).0 ≡ Some task.request
next_is_asked config past task taken next =
    let p : ℕ = (task.proc).0 in
    let n : ℕ = spoken past in
    let first : List Request = requests_of p (take n config.body) in
    let rest : List Request = requests_of p (drop (n + 1) config.body) in
    let whole : requests_of p config.body ≡ (first ++ (task.request ∷ [])) ++ rest =
    sym (ap (requests_of p) (take-append-drop (n + 1) config.body)) ∙ (requests_join p (take (n + 1) config.body) (drop (n + 1) config.body)
    ∙ ap (λ (xs : List Request). xs ++ rest) (requests_more p n config.body task next ∙ ap (λ (xs : List Request). first ++ xs) (own_spoken p task.request))) in
    ap₂ (λ (xs ys : List Request). slice_get xs (length ys)) whole (taken p) ∙ at_end first task.request rest
