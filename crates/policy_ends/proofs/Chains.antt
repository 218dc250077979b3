-- Chains of moves outside the rundown are bounded by the rank of their start.
use Rattle.std.proofs.Common.{◌≡◌, inl, ℕ, suc, zero, ◌+◌, ◌*◌, ◌^◌, ◌<◌, ◌≤◌, Bool, true, false, not, cond, List, [], ◌∷◌, Option, Some, None, length, map, nat_lt, refl, sym, subst, arith}
use Rattle.std.proofs.Math.Nat.{mul-le-mul_right, suc-mul}
use Rattle.std.proofs.lemmas.Option.{none-some}
use Rattle.vm_types.specs.Configuration.{IsWellFormed}
use Rattle.vm_types.specs.declared.config.Config.{Config}
use Rattle.vm_types.specs.declared.config.Task.{Task}
use Rattle.vm_journal.specs.declared.entry.Entry.{Entry}
use Rattle.vm_journal.specs.declared.entry.EvictWhy.TheVariants as evict
use Rattle.pager_policy.specs.Cleaning.{Cleaning, evicting, rounds}
use Rattle.pager_policy.specs.Given.{Seen, eviction, is_stopped, made_by, seen_at, with_reply}
use Rattle.pager_policy.specs.Landings.{all_bad, first_bad, landed_by}
use Rattle.pager_model.specs.Flights.{carrier_of}
use Rattle.pager_policy.specs.Moves.{After, Control, Doing, Move, asking, carries, cleaning, control, freeing, goes, makes, refuses, rests, saving}
use Rattle.pager_model.specs.Pager.{Pager}
use Rattle.pager_policy.specs.Policy.{move_of, next_task}
use Rattle.pager_model.specs.Spoken.{spoken}
use Rattle.pager_model.specs.Run.{IsRun, pager_after}
use Rattle.pager_policy.specs.Rundown.{Place, at_slot, clean_move, cleaning_move, is_shared_listed, later_move, next_round, place_move, round_move, rounds_move, shared_place, writer_of, written_for_need}
use Rattle.pager_policy.specs.Serial.{GoesOn, Heard, IsMade, IsMove, IsReached, IsRefused}
use Rattle.serial_laws.specs.Between.{IsBetween}
use Rattle.serial_laws.specs.Controlled.{IsControlled, IsInBody}
use Rattle.serial_laws.proofs.Kept.{moves_between, moves_fit}
use Rattle.policy_ends.specs.Bound.{base_of_ranks, value_of, most_moves}
use Rattle.policy_ends.specs.Rank.{IsLower, numbers_for, phase, process_at_hand, rank, unanswered, unmet}
use Rattle.policy_ends.proofs.Digits.{value_below, value_lower}
use Rattle.policy_ends.proofs.Small.{small_numbers}
use Rattle.policy_ends.proofs.WalksLower.{moves_lower}
use Rattle.policy_ends.proofs.WriteCarriers.{run_before, run_landed}

-- ---- a move of the rundown leads to the rundown
abbrev IsCleaning : Doing → Type 0
IsCleaning (cleaning at) = Unit {0}
IsCleaning other = ⊥

abbrev GoesCleaning : After → Type 0
GoesCleaning (goes c) = IsCleaning c.doing
GoesCleaning refuses = ⊥

abbrev StaysCleaning : Move → Type 0
StaysCleaning (makes seat ws c) = IsCleaning c.doing
StaysCleaning (carries seat ws onward) = (all first : Bool) → GoesCleaning (onward all first)
StaysCleaning rests = Unit {0}

either : (b : Bool) (x y : Move) → StaysCleaning x → StaysCleaning y → StaysCleaning (cond b x y)
either true x y first second = first
either false x y first second = second

next_stays : (config : Config) (a : Pager) (following : ℕ) → StaysCleaning (next_round config a following)
next_stays config a zero = tt
next_stays config a (suc following) = λ all first. tt

rounds_stay : (config : Config) (a : Pager) (following left : ℕ) → StaysCleaning (rounds_move config a following left)
rounds_stay config a following left =
    either (is_shared_listed a) (cond (nat_lt 0 left) (round_move config a following left) (next_round config a following)) rests
    (either (nat_lt 0 left) (round_move config a following left) (next_round config a following) (λ all first. tt) (next_stays config a following)) tt

clean_stays : (config : Config) (past : List Entry) (a : Pager) (at : Place) (failed : Bool) (later : Move) (o : Option Seen) → StaysCleaning later
    → StaysCleaning (clean_move config past a at failed later o)
clean_stays config past a at failed later None stays = stays
clean_stays config past a at failed later (Some s) stays = by (is_stopped config past a s.frame) failed
  where
    by : (b c : Bool) → StaysCleaning (cond (not b) (makes (writer_of config) (eviction past a at.process s.vpn s.frame evict.Rundown ∷ []) (at_slot at.process (at.slot + 1) false))
        (cond c later (carries (writer_of config) (written_for_need config a) (λ (all first : Bool). goes (at_slot at.process at.slot all)))))
    by false c = tt
    by true true = stays
    by true false = λ all first. tt

place_stays : (config : Config) (past : List Entry) (a : Pager) (failed : Bool) (later : Place → Move) (o : Option Place) → ((at : Place) → StaysCleaning (later at))
    → StaysCleaning (place_move config past a failed later o)
place_stays config past a failed later None stays = rounds_stay config a 2 0
place_stays config past a failed later (Some at) stays = clean_stays config past a at failed (later at) (seen_at a at.process at.slot) (stays at)

cleaning_stays : (config : Config) (past : List Entry) (a : Pager) (at : Cleaning) → StaysCleaning (cleaning_move config past a at)
cleaning_stays config past a (evicting p n failed) =
    place_stays config past a failed (later_move config past a) (shared_place config a p n)
    (λ at. place_stays config past a false (λ (next : Place). rests) (shared_place config a at.process (at.slot + 1)) (λ next. tt))
cleaning_stays config past a (rounds following left) = rounds_stay config a following left

goes_cleaning : (config : Config) (landed more : List Entry) (next : Control) (x : After) → GoesCleaning x → GoesOn config landed more next x → IsCleaning next.doing
goes_cleaning config landed more next (goes c) stays on = subst (λ (d : Control). IsCleaning d.doing) (sym on.1) stays
goes_cleaning config landed more next refuses stays on = absurd stays

made_cleaning : (config : Config) (past : List Entry) (heard : Heard) (more : List Entry) (next : Control) (m : Move) → StaysCleaning m → IsMade config past heard more next m → IsCleaning next.doing
made_cleaning config past heard more next (makes seat ws c) stays made = subst (λ (d : Control). IsCleaning d.doing) (sym made.1) stays
made_cleaning config past heard more next (carries seat ws onward) stays made =
    goes_cleaning config _ more next (onward (all_bad heard.outcomes) (first_bad heard.outcomes)) (stays (all_bad heard.outcomes) (first_bad heard.outcomes)) made.on
made_cleaning config past heard more next rests stays made = absurd made

in_body : (d : Doing) → (IsCleaning d → ⊥) → IsInBody d
in_body asking apart = tt
in_body (saving begun p) apart = tt
in_body (freeing begun p) apart = tt
in_body (cleaning at) apart = apart tt

not_cleaning : (d : Doing) → IsInBody d → IsCleaning d → ⊥
not_cleaning (cleaning at) body is = body
not_cleaning asking body is = is
not_cleaning (saving begun p) body is = is
not_cleaning (freeing begun p) body is = is

-- so what leads to a place outside it stands outside it
body_before : (config : Config) (past : List Entry) (c : Control) (heard : Heard) (more : List Entry) (next : Control) → IsMove config past c heard more next → IsInBody next.doing → IsInBody c.doing
body_before config past c heard more next move body = in_body c.doing (by c.doing move)
  where
    by : (d : Doing) → IsMove config past (record c { doing = d }) heard more next → IsCleaning d → ⊥
    by (cleaning at) moved is =
        not_cleaning next.doing body
        (made_cleaning config past heard more next (cleaning_move config past (pager_after config past) at) (cleaning_stays config past (pager_after config past) at) moved)
    by asking moved is = is
    by (saving begun p) moved is = is
    by (freeing begun p) moved is = is

-- ---- a move's past is a run
on_before : (config : Config) (landed more : List Entry) (next : Control) (x : After) → GoesOn config landed more next x → IsRun config more → IsRun config landed
on_before config landed more next (goes c) on run = subst (IsRun config) on.0 run
on_before config landed more next refuses on run = by (next_task config landed) on
  where
    by : (o : Option Task) → IsRefused landed more next o → IsRun config landed
    by None refused = absurd refused
    by (Some task) refused = (subst (IsRun config) refused.0 run).0

pub move_before : (config : Config) (past : List Entry) (heard : Heard) (more : List Entry) (next : Control) (m : Move) → IsMade config past heard more next m → IsRun config more → IsRun config past
move_before config past heard more next (makes seat ws c) made run = run_before config seat (map (with_reply heard.reply) ws) past (subst (IsRun config) made.0 run)
move_before config past heard more next (carries seat ws onward) made run =
    let begun = made_by seat ws past in
    run_before config seat ws past
    (run_landed config seat (carrier_of seat begun) heard.outcomes begun (on_before config (landed_by config seat (carrier_of seat begun) heard.outcomes begun) more next (onward (all_bad heard.outcomes) (first_bad heard.outcomes)) made.on run))
move_before config past heard more next rests made run = absurd made

-- ---- chains
record IsBounded (config : Config) (start : List Entry) (from : Control) (told : List Heard) (past : List Entry) (c : Control) : Type 0 where
  between : IsBetween config past
  controlled : IsControlled config past c
  moves : length told + most_moves config past c ≤ most_moves config start from

same_place : (config : Config) (start : List Entry) (from : Control) (past : List Entry) (c : Control) → IsBetween config start → IsControlled config start from → past ≡ start → c ≡ from
    → IsBounded config start from [] past c
same_place config start from past c between controlled first second =
    subst (λ (d : Control). IsBounded config start from [] past d) (sym second)
    (subst (λ (xs : List Entry). IsBounded config start from [] xs from) (sym first) (record { between = between; controlled = controlled; moves = omega arith }))

lower_moves : (config : Config) (past more : List Entry) (c next : Control) → IsBetween config past → IsBetween config more → IsLower (rank config more next) (rank config past c)
    → most_moves config more next < most_moves config past c
lower_moves config past more c next between also lower =
    value_lower base_of_ranks (rank config more next) (rank config past c) refl (small_numbers config more also.formed also.run next) (small_numbers config past between.formed between.run c) lower

bounded : (config : Config) (start : List Entry) (from : Control) (told : List Heard) (past : List Entry) (c : Control) → IsBetween config start → IsControlled config start from
    → IsReached config start from told past c → IsInBody c.doing → IsRun config past → IsBounded config start from told past c
bounded config start from [] past c between controlled reached body run = same_place config start from past c between controlled reached.0 reached.1
bounded config start from (heard ∷ told) past c between controlled reached body run =
    let early = reached.earlier_past in
    let at = reached.earlier_control in
    let in_body = body_before config early at heard past c reached.move body in
    let first = bounded config start from told early at between controlled reached.before in_body (move_before config early heard past c (move_of config early at) reached.move run) in
    let now = moves_between config early at heard past c first.between first.controlled reached.move run in
    let lower = moves_lower config early at heard past c first.between first.controlled in_body reached.move run in
    let less = lower_moves config early past at c first.between now lower in
    let moves = first.moves in
    record { between = now; controlled = moves_fit config early at heard past c first.between first.controlled reached.move; moves = omega (arith, less, moves) }

pub moves_bounded : (config : Config) (start : List Entry) (from : Control) (told : List Heard) (past : List Entry) (c : Control) → IsBetween config start → IsControlled config start from
    → IsReached config start from told past c → IsInBody c.doing → IsRun config past
    → length told + most_moves config past c ≤ most_moves config start from
moves_bounded config start from told past c between controlled reached body run = (bounded config start from told past c between controlled reached body run).moves

few_left : (n u w t s p : ℕ) → n + (u * p + t) ≤ w * p + s → u ≡ w → s < p → n < p
few_left n u w t s p most same below = by (subst (λ (z : ℕ). n + (u * p + t) ≤ z * p + s) (sym same) most)
  where
    by : n + (u * p + t) ≤ u * p + s → n < p
    by less = omega (arith, less, below)

abbrev later_numbers : Config → List Entry → Control → List ℕ
later_numbers config past c = phase c.doing ∷ numbers_for config past (pager_after config past) (process_at_hand config past c.doing) (unmet config past c.doing)

pub answers_bounded : (config : Config) (start : List Entry) (from : Control) (told : List Heard) (past : List Entry) (c : Control) → IsBetween config start → IsControlled config start from
    → IsReached config start from told past c → IsInBody c.doing → IsRun config past
    → spoken past ≡ spoken start → length told < base_of_ranks ^ 9
answers_bounded config start from told past c between controlled reached body run same =
    let digits = small_numbers config start between.formed between.run from in
    few_left (length told) (unanswered config past) (unanswered config start) (value_of base_of_ranks (later_numbers config past c)) (value_of base_of_ranks (later_numbers config start from))
    (base_of_ranks ^ 9)
    (moves_bounded config start from told past c between controlled reached body run) (omega (arith, same)) (value_below base_of_ranks (later_numbers config start from) digits.1)

-- ---- from the first request on
most_of : (n t u s k p : ℕ) → n + t ≤ u * p + s → u ≤ k → s < p → n < (k + 1) * p
most_of n t u s k p most less below =
    let more = mul-le-mul_right p less in
    let one = suc-mul k p in
    grind (arith, most, more, one, below)

pub bodies_bounded : (config : Config) (told : List Heard) (past : List Entry) (c : Control) → IsWellFormed config → IsReached config [] (control asking) told past c → IsInBody c.doing
    → IsRun config past → length told < (length config.body + 1) * base_of_ranks ^ 9
bodies_bounded config told past c formed reached body run =
    most_of (length told) (most_moves config past c) (unanswered config []) (value_of base_of_ranks (later_numbers config [] (control asking))) (length config.body) (base_of_ranks ^ 9)
    (moves_bounded config [] (control asking) told past c (record { formed = formed; run = tt; landed = refl; reused = refl })
    (record { leaving = λ q is. absurd (none-some q is); answered_process = tt; waiting = tt; touched = inl (λ g some. absurd (omega (arith, some))) }) reached body run)
    (omega arith) (value_below base_of_ranks (later_numbers config [] (control asking)) (small_numbers config [] formed tt (control asking)).1)
