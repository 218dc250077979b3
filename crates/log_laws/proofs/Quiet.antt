-- The moves of the rundown answer no request, so what was answered stays so, and right values stay right.
use Rattle.std.proofs.Common.{◌≡◌, ℕ, zero, suc, ◌+◌, Bool, true, false, cond, not, List, [], ◌∷◌, ◌++◌, Option, Some, None, length, map, nat_eq, nat_lt, refl, sym, ap, ◌∙◌, subst, arith, append_assoc, append-nil, length-append}
use Rattle.vm_types.specs.declared.config.Config.{Config}
use Rattle.vm_types.specs.declared.service.Request.{Request}
use Rattle.vm_journal.specs.declared.entry.Entry.{Entry}
use Rattle.vm_journal.specs.declared.entry.What.{What}
use Rattle.vm_journal.specs.declared.entry.What.TheVariants as what
use Rattle.pager_policy.specs.Cleaning.{Cleaning, evicting, rounds}
use Rattle.pager_model.specs.Flat.{FlatState}
use Rattle.pager_policy.specs.Given.{Seen, is_stopped, made_by, seen_at, with_reply}
use Rattle.pager_policy.specs.Landings.{all_bad, first_bad, landed_by}
use Rattle.pager_model.specs.Flights.{carrier_of}
use Rattle.pager_policy.specs.Moves.{After, Control, Move, carries, cleaning, control, goes, makes, rests}
use Rattle.pager_model.specs.Order.{answered, spoken_by}
use Rattle.pager_model.specs.Pager.{Pager}
use Rattle.pager_policy.specs.Policy.{move_of}
use Rattle.pager_model.specs.Run.{pager_after}
use Rattle.pager_policy.specs.Rundown.{Place, at_slot, clean_move, cleaning_move, is_shared_listed, later_move, next_round, place_move, rounds_move, shared_place, written_for_need}
use Rattle.pager_policy.specs.Serial.{GoesOn, Heard, IsMade, IsReached}
use Rattle.pager_model.specs.Spoken.{IsRight, ShowsReply, flat_after, request_of}
use Rattle.pager_policy.specs.WriteCluster.{reason_need}
use Rattle.call_laws.proofs.CallsSay.{begin_silent}
use Rattle.call_laws.proofs.Said.{IsSilentStep, Silent, landed_silent, said_shown, silent_made, silent_then}
use Rattle.pager_rules.proofs.Basics.{nat_eq_refl}

-- the policy is in the rundown
abbrev pub IsCleaning : Control → Type 0
IsCleaning c = (at : Cleaning) × (c ≡ control (cleaning at))

-- and stays there
abbrev StaysCleaning : After → Type 0
StaysCleaning x = (at : Cleaning) × (x ≡ goes (control (cleaning at)))

abbrev AnswersNone : Move → Type 0
AnswersNone (makes seat ws c) = Silent ws × IsCleaning c
AnswersNone (carries seat ws onward) = Silent ws × ((all first : Bool) → StaysCleaning (onward all first))
AnswersNone rests = Unit {0}

record IsQuiet (m : Move) : Type 0 where
  pub answers : AnswersNone m

module _ (config : Config) (past : List Entry) (a : Pager) where
  either : (b : Bool) (x y : Move) → IsQuiet x → IsQuiet y → IsQuiet (cond b x y)
  either true x y first second = first
  either false x y first second = second

  resting : IsQuiet rests
  resting = record { answers = tt }

  need_silent : Silent (written_for_need config a)
  need_silent = begin_silent config a reason_need

  next_round_quiet : (following : ℕ) → IsQuiet (next_round config a following)
  next_round_quiet zero = resting
  next_round_quiet (suc following) = record { answers = (need_silent, λ all first. (rounds following _, refl)) }

  rounds_quiet : (following left : ℕ) → IsQuiet (rounds_move config a following left)
  rounds_quiet following left =
      either (is_shared_listed a) _ _ (either (nat_lt 0 left) _ _ (record { answers = (need_silent, λ all first. (rounds following _, refl)) }) (next_round_quiet following)) resting

  clean_quiet : (at : Place) (failed : Bool) (later : Move) (o : Option Seen) → IsQuiet later → IsQuiet (clean_move config past a at failed later o)
  clean_quiet at failed later None quiet = quiet
  clean_quiet at failed later (Some s) quiet =
      either (not (is_stopped config past a s.frame)) _ _ (record { answers = (refl, (evicting at.process (at.slot + 1) false, refl)) })
      (either failed _ _ quiet (record { answers = (need_silent, λ all first. (evicting at.process at.slot all, refl)) }))

  place_quiet : (failed : Bool) (later : Place → Move) (o : Option Place) → ((at : Place) → IsQuiet (later at)) → IsQuiet (place_move config past a failed later o)
  place_quiet failed later None quiet = rounds_quiet 2 0
  place_quiet failed later (Some at) quiet = clean_quiet at failed (later at) (seen_at a at.process at.slot) (quiet at)

  later_quiet : (at : Place) → IsQuiet (later_move config past a at)
  later_quiet at = place_quiet false (λ (next : Place). rests) (shared_place config a at.process (at.slot + 1)) (λ next. resting)

  cleaning_quiet : (at : Cleaning) → IsQuiet (cleaning_move config past a at)
  cleaning_quiet (evicting p n failed) = place_quiet failed (later_move config past a) (shared_place config a p n) later_quiet
  cleaning_quiet (rounds following left) = rounds_quiet following left

-- ---- moves from the rundown's start on
record StaysQuiet (past more : List Entry) (next : Control) : Type 0 where
  pub silent : IsSilentStep past more
  pub stays : IsCleaning next

made_quiet : (config : Config) (past : List Entry) (heard : Heard) (more : List Entry) (next : Control) (m : Move) → AnswersNone m → IsMade config past heard more next m → StaysQuiet past more next
made_quiet config past heard more next (makes seat ws c) quiet made =
    let shown : List What = map (with_reply heard.reply) ws in
    record {
      silent = subst (IsSilentStep past) (sym made.0) (silent_made seat shown past (said_shown heard.reply ws ∙ quiet.0));
      stays = subst IsCleaning (sym made.1) quiet.1;
    }
made_quiet config past heard more next (carries seat ws onward) quiet made =
    let begun : List Entry = made_by seat ws past in
    let landed : List Entry = landed_by config seat (carrier_of seat begun) heard.outcomes begun in
    let stays = quiet.1 (all_bad heard.outcomes) (first_bad heard.outcomes) in
    let on = subst (GoesOn config landed more next) stays.1 made.on in
    record {
      silent = subst (IsSilentStep past) (sym on.0) (silent_then past begun landed (silent_made seat ws past quiet.0) (landed_silent config seat (carrier_of seat begun) heard.outcomes begun));
      stays = (stays.0, on.1);
    }
made_quiet config past heard more next rests quiet made = absurd made

move_quiet : (config : Config) (past : List Entry) (c : Control) → IsCleaning c → AnswersNone (move_of config past c)
move_quiet config past c at = subst (λ (d : Control). AnswersNone (move_of config past d)) (sym at.1) (cleaning_quiet config past (pager_after config past) at.0).answers

silent_none : (past : List Entry) → IsSilentStep past past
silent_none past = record { answers = λ p. refl; count = refl }

reached_quiet : (config : Config) (past : List Entry) (told : List Heard) (more : List Entry) (c : Control) → IsReached config past (at_slot 0 0 false) told more c → StaysQuiet past more c
reached_quiet config past [] more c reached = record { silent = subst (IsSilentStep past) (sym reached.0) (silent_none past); stays = (evicting 0 0 false, reached.1) }
reached_quiet config past (heard ∷ told) more c reached =
    let before = reached_quiet config past told reached.earlier_past reached.earlier_control reached.before in
    let step = made_quiet config reached.earlier_past heard more c (move_of config reached.earlier_past reached.earlier_control) (move_quiet config reached.earlier_past reached.earlier_control before.stays) reached.move in
    record { silent = silent_then past reached.earlier_past more before.silent step.silent; stays = step.stays }

-- what was answered before the rundown is all that is answered after it
pub rundown_answers : (config : Config) (past : List Entry) (told : List Heard) (more : List Entry) (c : Control) → IsReached config past (at_slot 0 0 false) told more c → (p : ℕ) → answered p more ≡ answered p past
rundown_answers config past told more c reached = (reached_quiet config past told more c reached).silent.answers

-- ---- where nothing more is answered, right values stay right
unspoken_shows : (config : Config) (flat : FlatState) (p : ℕ) (w : What) → request_of w ≡ None → ShowsReply config flat p w
unspoken_shows config flat p (what.Done r reply) none = absurd (let no : Some _ ≡ None = none in cc)
unspoken_shows config flat p other none = tt

no_longer : {X : Type 0} (xs ys zs : List X) → (xs ++ ys) ++ zs ≡ xs → zs ≡ []
no_longer xs ys [] same = refl
no_longer xs ys (z ∷ zs) same =
    let whole = length-append (xs ++ ys) (z ∷ zs) in
    let front = length-append xs ys in
    let equal = ap length same in
    absurd (omega arith)

-- more answers come behind the earlier ones
pub answers_grow : (p : ℕ) (rest past : List Entry) → (more : List Request) × (answered p (rest ++ past) ≡ answered p past ++ more)
answers_grow p [] past = ([], sym (append-nil (answered p past)))
answers_grow p (e ∷ rest) past =
    let before = answers_grow p rest past in
    let last : List Request = spoken_by p (e.seat).0 (request_of e.what) in
    (before.0 ++ last, ap (λ (xs : List Request). xs ++ last) before.1 ∙ append_assoc (answered p past) before.0 last)

-- the newest entry of such a list answers none
last_unspoken : (p : ℕ) (e : Entry) (rest past : List Entry) → answered p ((e ∷ rest) ++ past) ≡ answered p past → spoken_by p (e.seat).0 (request_of e.what) ≡ []
last_unspoken p e rest past same =
    let before = answers_grow p rest past in
    let last : List Request = spoken_by p (e.seat).0 (request_of e.what) in
    no_longer (answered p past) before.0 last (ap (λ (xs : List Request). xs ++ last) (sym before.1) ∙ same)

own_unspoken : (seat : ℕ) (o : Option Request) → spoken_by seat seat o ≡ [] → o ≡ None
own_unspoken seat None none = refl
own_unspoken seat (Some request) none =
    let one : cond (nat_eq seat seat) (request ∷ []) [] ≡ (request ∷ []) = ap (λ (b : Bool). cond b (request ∷ []) []) (nat_eq_refl seat) in
    let no : (request ∷ []) ≡ [] = sym one ∙ none in
    absurd (cc)

pub quiet_right : (config : Config) (rest past : List Entry) → ((p : ℕ) → answered p (rest ++ past) ≡ answered p past) → IsRight config past → IsRight config (rest ++ past)
quiet_right config [] past same right = right
quiet_right config (e ∷ rest) past same right =
    let last = λ (p : ℕ). last_unspoken p e rest past (same p) in
    let before = λ (p : ℕ). sym (append-nil (answered p (rest ++ past))) ∙ (ap (λ (xs : List Request). answered p (rest ++ past) ++ xs) (sym (last p)) ∙ same p) in
    (quiet_right config rest past before right, unspoken_shows config (flat_after config (rest ++ past)) (e.seat).0 e.what (own_unspoken (e.seat).0 (request_of e.what) (last (e.seat).0)))
