-- What a move of the serial policy makes has its cause, but for the rundown's.
use Rattle.std.proofs.Common.{◌≡◌, ◌⊎◌, inl, inr, ℕ, ◌+◌, ◌<◌, ◌≤◌, ◌^◌, ◌&&◌, ◌||◌, Bool, true, false, cond, not, List, [], ◌∷◌, Option, Some, None, length, nat_eq, nat_le, nat_lt, refl, sym, ap, ◌∙◌, subst, arith}
use Rattle.std.specs.List.{range_with_len}
use Rattle.std.proofs.lemmas.Bool.{and_from, and_parts, eqb-true, false≢true, leb-false, ltb-false, ltb-true}
use Rattle.std.proofs.lemmas.Option.{none-some}
use Rattle.vm_types.specs.Status.{is_coming, is_leaving}
use Rattle.vm_types.specs.declared.names.ProcStatus.{ProcStatus}
use Rattle.vm_types.specs.declared.names.ProcStatus.TheVariants as status
use Rattle.vm_types.specs.declared.config.Config.{Config}
use Rattle.vm_types.specs.declared.config.Task.{Task}
use Rattle.vm_types.specs.declared.service.Request.{Request}
use Rattle.vm_types.specs.declared.service.Request.TheVariants as request
use Rattle.vm_journal.specs.declared.entry.Entry.{Entry}
use Rattle.vm_journal.specs.declared.entry.What.{What}
use Rattle.pager_model.specs.Pager.{Pager}
use Rattle.pager_model.specs.Run.{pager_after}
use Rattle.pager_policy.specs.Advance.{NextIs, advance_gives, again_block_busy, again_charging, again_collided, again_modified_full, again_no_frame, again_not_resident, next_again, next_answered, next_carry, next_more}
use Rattle.pager_policy.specs.Given.{given}
use Rattle.pager_policy.specs.Moves.{After, Control, Doing, Move, asking, carries, cleaning, control, freeing, goes, makes, refuses, rests, saving, while_leaving}
use Rattle.pager_policy.specs.Policy.{Ends, advance_move_by, asked_move, asking_move, come_move_by, coming_process, ends_part, ends_request, failing, finding_move, freeing_move, gone_move, is_freeing, is_saving, leave_move, leave_move_by, leaving_other, move_of, next_task, other_move, resident_move, saving_by, saving_move, serve_move_by, status_move, swapper_of, task_move, unless_all_failed, unless_first_failed, victim_move, writing_move}
use Rattle.pager_policy.specs.Rundown.{writer_of}
use Rattle.pager_policy.specs.Serve.{ServeIs, serve_again, serve_answered, serve_gives, serve_in_flight, serve_modified_full, serve_more, serve_not_resident}
use Rattle.pager_policy.specs.Swap.{SwapIs, come_gives, leave_gives, swap_again, swap_carry, swap_in_flight, swap_modified_full, swap_more, swap_no_frame, swap_settled, victim_gives}
use Rattle.pager_policy.specs.WriteCluster.{BeginIs, begin_carry, begin_gives, begin_nothing, reason_high, reason_need, writes_from}
use Rattle.pager_rules.proofs.Lists.{found_passes}
use Rattle.call_laws.proofs.CallsSay.{come_silent, leave_silent}
use Rattle.call_laws.specs.Ready.{IsReady, MayWork}
use Rattle.serial_laws.specs.Between.{IsBetween}
use Rattle.serial_laws.specs.Controlled.{IsControlled, IsInBody, IsLeft}
use Rattle.serial_laws.proofs.Turns.{free_seat, may_work}
use Rattle.serial_laws.proofs.Victims.{victim_seen}
use Rattle.serial_laws.proofs.Walks.{task_formed}
use Rattle.entry_causes.specs.FrameWanted.{WantsFrame}
use Rattle.entry_causes.specs.HeldUp.{IsHeldUp}
use Rattle.entry_causes.specs.NextRequest.{HasRequest, next_request}
use Rattle.entry_causes.specs.TurnCause.{IsTurnCause}
use Rattle.entry_causes.specs.WriteCause.{AreFewFree, IsWriteCause}
use Rattle.cause_laws.specs.AreCaused.{AreCaused}
use Rattle.cause_laws.proofs.AdvanceCaused.{advance_caused}
use Rattle.cause_laws.proofs.BeginCaused.{begin_caused}
use Rattle.cause_laws.proofs.ComeCaused.{come_caused, come_misses}
use Rattle.cause_laws.proofs.HeldUp.{leaving_held, reference_held, service_held}
use Rattle.cause_laws.proofs.LeaveCaused.{leave_caused}
use Rattle.cause_laws.proofs.NoFrame.{no_frame_wanted}
use Rattle.cause_laws.proofs.ServeCaused.{serve_caused}
use Rattle.cause_laws.proofs.Turned.{none_leaves, none_where, victim_turned}
use Rattle.serial_causes.proofs.Entries.{AnswersLast, silent_last}
use Rattle.serial_causes.proofs.Lasts.{advance_last, serve_last}

-- ---- what is known of a move: its entries have their causes, and the policy stays out of the rundown
abbrev pub StaysInBody : After → Type 0
StaysInBody (goes c) = IsInBody c.doing
StaysInBody refuses = Unit {0}

abbrev pub CausesRight : Config → List Entry → Move → Type 0
CausesRight config past (makes seat ws c) = AnswersLast ws × AreCaused config past seat ws × IsInBody c.doing
CausesRight config past (carries seat ws onward) = AreCaused config past seat ws × ((all first : Bool) → StaysInBody (onward all first))
CausesRight config past rests = Unit {0}

pub record MoveIsCaused (config : Config) (past : List Entry) (m : Move) : Type 0 where
  pub right : CausesRight config past m

is_leaving_is : (s : ProcStatus) → is_leaving s ≡ true → s ≡ status.Leaving
is_leaving_is status.Leaving is = refl
is_leaving_is status.Resident is = absurd (false≢true is)
is_leaving_is status.Coming is = absurd (false≢true is)
is_leaving_is status.Gone is = absurd (false≢true is)

is_coming_is : (s : ProcStatus) → is_coming s ≡ true → s ≡ status.Coming
is_coming_is status.Coming is = refl
is_coming_is status.Resident is = absurd (false≢true is)
is_coming_is status.Leaving is = absurd (false≢true is)
is_coming_is status.Gone is = absurd (false≢true is)

unless_stays : (ends : Ends) (c : Control) → StaysInBody (failing ends) → IsInBody c.doing → (all first : Bool) → StaysInBody (unless_all_failed ends c all first)
unless_stays ends c failed stays true first = failed
unless_stays ends c failed stays false first = stays

first_stays : (c : Control) → IsInBody c.doing → (all first : Bool) → StaysInBody (unless_first_failed c all first)
first_stays c stays all true = tt
first_stays c stays all false = stays

-- none but this one is leaving, where no other one is found
only_leaving : (config : Config) (a : Pager) (p : ℕ) → leaving_other config a p ≡ None → (q : ℕ) → q < length config.procs → a.status q ≡ status.Leaving → p ≡ q
only_leaving config a p none q below leaving = by (nat_eq q p) refl
  where
    by : (b : Bool) → nat_eq q p ≡ b → p ≡ q
    by true same = sym (eqb-true q p same)
    by false other = absurd (none_where (λ (r : ℕ). is_leaving (a.status r) && not (nat_eq r p)) (length config.procs) q none below (and_from _ _ (ap is_leaving leaving) (ap not other)))

module _ (config : Config) (past : List Entry) (between : IsBetween config past) where
  abbrev a : Pager
  a = pager_after config past

  abbrev Caused : Move → Type 0
  Caused m = MoveIsCaused config past m

  either : (b : Bool) (x y : Move) → (b ≡ true → Caused x) → (b ≡ false → Caused y) → Caused (cond b x y)
  either true x y first second = first refl
  either false x y first second = second refl

  resting : Caused rests
  resting = record { right = tt }

  may : (seat : ℕ) → seat ≤ length config.procs + 1 → MayWork config past seat
  may seat there = may_work config past seat there between

  -- ---- writing
  writing_caused : (seat : ℕ) (ends : Ends) (c : Control) → IsWriteCause config past a seat → StaysInBody (failing ends) → IsInBody c.doing → Caused (writing_move config a seat ends c)
  writing_caused seat ends c cause failed stays = record { right = (begin_caused config past seat reason_need cause, unless_stays ends c failed stays) }

  held_up : (seat : ℕ) → IsHeldUp config past a → IsWriteCause config past a seat
  held_up seat held = inr (inr (inr (inr (inl held))))

  -- ---- a seat's work: what its failure ends, and where the policy goes on, are no part of the rundown
  module _ (seat : ℕ) (there : seat ≤ length config.procs + 1) (ends : Ends) (doing : Doing) (failed : StaysInBody (failing ends)) (stays : IsInBody doing) where
    leave_by_caused : (q : ℕ) (made : List What) (answer : SwapIs) → AnswersLast made → AreCaused config past seat made → (answer ≡ swap_again swap_modified_full → IsHeldUp config past a) → Caused (leave_move_by config a seat q ends doing made answer)
    leave_by_caused q made swap_carry last caused held = record { right = (caused, unless_stays ends (while_leaving doing q) failed stays) }
    leave_by_caused q made swap_more last caused held = record { right = (last, caused, stays) }
    leave_by_caused q made swap_settled last caused held = record { right = (last, caused, stays) }
    leave_by_caused q made (swap_again swap_modified_full) last caused held = writing_caused seat ends (while_leaving doing q) (held_up seat (held refl)) failed stays
    leave_by_caused q made (swap_again swap_in_flight) last caused held = resting
    leave_by_caused q made (swap_again swap_no_frame) last caused held = resting

    left_caused : (q : ℕ) → a.status q ≡ status.Leaving → Caused (leave_move config past a seat q ends doing)
    left_caused q leaving =
        leave_by_caused q (leave_gives config past a q).made (leave_gives config past a q).answer (silent_last (leave_gives config past a q).made (leave_silent config past a q).silent) (leave_caused config past seat q) (leaving_held config past seat q (may seat there) leaving)

    -- ---- finding a frame, because process p wants one and none is free, or because few are
    module _ (p : ℕ) (why : ((a.free ≡ []) × WantsFrame config past a p) ⊎ AreFewFree config a seat) (none : Move) (otherwise : Caused none) where
      -- with no cause but few free frames nothing is asked of the others
      turned : a.modified ≡ [] → leaving_other config a p ≡ None → (q : ℕ) → victim_gives config past a (Some p) ≡ Some q → ((a.free ≡ []) × WantsFrame config past a p) ⊎ AreFewFree config a seat → IsTurnCause config past a seat q status.Leaving
      turned empty alone q found (inl missed) = victim_turned config past seat p q empty (none_leaves config past a p missed.1 (only_leaving config a p alone)) found (inl missed)
      turned empty alone q found (inr few) = inl few

      victim_caused : a.modified ≡ [] → leaving_other config a p ≡ None → (o : Option ℕ) → victim_gives config past a (Some p) ≡ o → Caused (victim_move seat doing o none)
      victim_caused empty alone None found = otherwise
      victim_caused empty alone (Some q) found = record { right = (tt, (turned empty alone q found why, tt), stays) }

      other_caused : a.modified ≡ [] → (o : Option ℕ) → leaving_other config a p ≡ o → Caused (other_move config past a seat p ends doing none o)
      other_caused empty None found = victim_caused empty found (victim_gives config past a (Some p)) refl
      other_caused empty (Some q) found =
          left_caused q (is_leaving_is (a.status q) (and_parts (is_leaving (a.status q)) (not (nat_eq q p)) (found_passes (λ (r : ℕ). is_leaving (a.status r) && not (nat_eq r p)) (range_with_len 0 (length config.procs)) q found)).0)

      write_cause : ((a.free ≡ []) × WantsFrame config past a p) ⊎ AreFewFree config a seat → IsWriteCause config past a seat
      write_cause (inl missed) = inr (inr (inr (inl (record { none_free = missed.0; p = p; wants = missed.1 }))))
      write_cause (inr few) = inr (inr (inl few))

      empty_list : (xs : List ℕ) → nat_lt 0 (length xs) ≡ false → xs ≡ []
      empty_list [] is = refl
      empty_list (x ∷ xs) is = absurd (let none = ltb-false 0 (length (x ∷ xs)) is in omega (arith, none))

      finding_caused : Caused (finding_move config past a seat p ends doing none)
      finding_caused =
          either (nat_lt 0 (length a.modified)) _ _ (λ some. writing_caused seat ends (control doing) (write_cause why) failed stays)
          (λ empty. other_caused (empty_list a.modified empty) (leaving_other config a p) refl)

  -- ---- the task's own moves
  module _ (few : length past < 2 ^ 63) (task : Task) (next : next_task config past ≡ Some task) (asks : next_request config past (task.proc).0 ≡ Some task.request) where
    abbrev p : ℕ
    p = (task.proc).0

    process : (task.proc).0 < length config.procs
    process = (task_formed config past task between.formed next).0

    there : (task.proc).0 ≤ length config.procs + 1
    there = let below = process in omega (arith, below)

    has_request : HasRequest config past (task.proc).0
    has_request = record { request = task.request; next = asks }

    come_by_caused : (made : List What) (answer : SwapIs) → AnswersLast made → AreCaused config past p made → (answer ≡ swap_again swap_no_frame → (a.free ≡ []) × WantsFrame config past a p) → Caused (come_move_by config past a p made answer)
    come_by_caused made swap_carry last caused missed = record { right = (caused, unless_stays ends_request (control asking) tt tt) }
    come_by_caused made swap_more last caused missed = record { right = (last, caused, tt) }
    come_by_caused made swap_settled last caused missed = record { right = (last, caused, tt) }
    come_by_caused made (swap_again swap_no_frame) last caused missed = finding_caused p there ends_request asking tt tt p (inl (missed refl)) rests resting
    come_by_caused made (swap_again swap_in_flight) last caused missed = resting
    come_by_caused made (swap_again swap_modified_full) last caused missed = resting

    coming_caused : a.status p ≡ status.Coming → Caused (come_move_by config past a p (come_gives config past a p).made (come_gives config past a p).answer)
    coming_caused coming =
        come_by_caused (come_gives config past a p).made (come_gives config past a p).answer (silent_last (come_gives config past a p).made (come_silent config past a p).silent) (come_caused config past p p (may p there) coming has_request)
        (λ again. let missed = come_misses config past p p (may p there) coming has_request again in (missed.0, inr missed.1))

    gone_caused : a.status p ≡ status.Gone → (o : Option ℕ) → coming_process config a ≡ o → Caused (gone_move p o)
    gone_caused gone None found = record { right = (tt, (has_request, tt), tt) }
    gone_caused gone (Some q) found =
        record { right = (tt, (inr (inr (record { coming = is_coming_is (a.status q) (found_passes (λ (r : ℕ). is_coming (a.status r)) (range_with_len 0 (length config.procs)) q found); p = p; gone = gone; asks = has_request })), tt), tt) }

    advance_by_caused : (made : List What) (answer : NextIs) → AnswersLast made → AreCaused config past p made → (answer ≡ next_again again_modified_full → IsHeldUp config past a) → (answer ≡ next_again again_no_frame → (a.free ≡ []) × WantsFrame config past a p)
        → Caused (advance_move_by config past a p made answer)
    advance_by_caused made next_answered last caused held missed = record { right = (last, caused, tt) }
    advance_by_caused made next_carry last caused held missed = record { right = (caused, first_stays (control asking) tt) }
    advance_by_caused made next_more last caused held missed = record { right = (last, caused, tt) }
    advance_by_caused made (next_again again_modified_full) last caused held missed = writing_caused p ends_request (control asking) (held_up p (held refl)) tt tt
    advance_by_caused made (next_again again_no_frame) last caused held missed = finding_caused p there ends_request asking tt tt p (inl (missed refl)) rests resting
    advance_by_caused made (next_again again_not_resident) last caused held missed = resting
    advance_by_caused made (next_again again_collided) last caused held missed = resting
    advance_by_caused made (next_again again_block_busy) last caused held missed = resting
    advance_by_caused made (next_again again_charging) last caused held missed = resting

    serve_by_caused : (made : List What) (answer : ServeIs) → AnswersLast made → AreCaused config past p made → (answer ≡ serve_again serve_modified_full → IsHeldUp config past a) → Caused (serve_move_by config a p made answer)
    serve_by_caused made serve_answered last caused held = record { right = (last, caused, tt) }
    serve_by_caused made serve_more last caused held = record { right = (last, caused, tt) }
    serve_by_caused made (serve_again serve_modified_full) last caused held = writing_caused p ends_request (control asking) (held_up p (held refl)) tt tt
    serve_by_caused made (serve_again serve_not_resident) last caused held = resting
    serve_by_caused made (serve_again serve_in_flight) last caused held = resting

    ready : a.status p ≡ status.Resident → IsReady config past p
    ready resident = record { formed = between.formed; run = between.run; few = few; free = free_seat config past p between; own = record { process = process; resident = resident } }

    resident_caused : (q : Request) → task.request ≡ q → a.status p ≡ status.Resident → Caused (resident_move config past a p q)
    resident_caused (request.Reference r) own resident =
        let asked = asks ∙ ap Some own in
        advance_by_caused (advance_gives config past a p r).made (advance_gives config past a p r).answer (advance_last config past a p r) (advance_caused config past p r (ready resident) asked)
        (reference_held config past p r (ready resident) asked (victim_seen config past between p process))
        (λ again. let missed = no_frame_wanted config past p r (ready resident) asked again in (missed.0, inl missed.1))
    resident_caused (request.Service s) own resident =
        let asked = asks ∙ ap Some own in
        serve_by_caused (serve_gives config past a p s).made (serve_gives config past a p s).answer (serve_last config past a p s) (serve_caused config past p s asked) (service_held config past p (ready resident) s asked)

    status_caused : (s : ProcStatus) → a.status p ≡ s → Caused (status_move config past a p task.request s)
    status_caused status.Resident is = resident_caused task.request refl is
    status_caused status.Leaving is = left_caused p there ends_request asking tt tt p is
    status_caused status.Gone is = gone_caused is (coming_process config a) refl
    status_caused status.Coming is = coming_caused is

    asked_caused : (o : Option ℕ) → ((q : ℕ) → o ≡ Some q → IsLeft config a q) → Caused (asked_move config past a o p task.request)
    asked_caused (Some q) left = left_caused p there ends_request asking tt tt q (left q refl).1
    asked_caused None left = status_caused (a.status p) refl

  module _ (few : length past < 2 ^ 63) (asks : (task : Task) → next_task config past ≡ Some task → next_request config past (task.proc).0 ≡ Some task.request) where
    task_caused : (leaving : Option ℕ) → ((q : ℕ) → leaving ≡ Some q → IsLeft config a q) → (o : Option Task) → next_task config past ≡ o → Caused (task_move config past a leaving o)
    task_caused leaving left None next = resting
    task_caused leaving left (Some task) next = asked_caused few task next (asks task next) leaving left

    asking_caused : (leaving : Option ℕ) → ((q : ℕ) → leaving ≡ Some q → IsLeft config a q) → Caused (asking_move config past a leaving)
    asking_caused leaving left = task_caused leaving left (next_task config past) refl

    none_left : (q : ℕ) → ◌≡◌ {A = Option ℕ} None (Some q) → IsLeft config a q
    none_left q is = absurd (none-some q is)

    -- ---- the work after an answer
    freeing_caused : (o : Option ℕ) (begun : Bool) (q : ℕ) → ((q : ℕ) → o ≡ Some q → IsLeft config a q) → Caused (freeing_move config past a o begun q)
    freeing_caused (Some r) begun q left = left_caused (swapper_of config) (omega arith) (ends_part (control asking)) (freeing true q) tt tt r (left r refl).1
    freeing_caused None begun q left =
        either (is_freeing config a begun && is_freeing config a true) _ _
        (λ frees. finding_caused (swapper_of config) (omega arith) (ends_part (control asking)) (freeing true q) tt tt q
        (inr (record { swapper = refl; few = ltb-true _ _ (and_parts (is_freeing config a begun) (is_freeing config a true) frees).1 })) (asking_move config past a None) (asking_caused None none_left))
        (λ enough. asking_caused None none_left)

    high_caused : (nat_le (length a.modified) config.params.lolimit ≡ true) ⊎ (config.params.lolimit < length a.modified) → AreCaused config past (writer_of config) (begin_gives config a reason_high).made
    high_caused (inl short) =
        subst (λ (b : Bool). AreCaused config past (writer_of config) (cond (b || nat_eq (length a.modified) 0) (given [] begin_nothing) (given (writes_from config a config.params.wrtcluster None a.modified) begin_carry)).made) (sym short) tt
    high_caused (inr long) = begin_caused config past (writer_of config) reason_high (inr (inl (record { writer = refl; long = long })))

    is_short : (b : Bool) → nat_le (length a.modified) config.params.lolimit ≡ b → (nat_le (length a.modified) config.params.lolimit ≡ true) ⊎ (config.params.lolimit < length a.modified)
    is_short true is = inl is
    is_short false is = inr (let less = leb-false (length a.modified) config.params.lolimit is in omega (arith, less))

    saving_by_caused : (made : List What) (answer : BeginIs) (q : ℕ) (none : Move) → AreCaused config past (writer_of config) made → Caused none → Caused (saving_by config made answer q none)
    saving_by_caused made begin_carry q none caused otherwise = record { right = (caused, unless_stays (ends_part (control (freeing false q))) (control (saving true q)) tt tt) }
    saving_by_caused made begin_nothing q none caused otherwise = otherwise

    saving_caused : (begun : Bool) (q : ℕ) → Caused (saving_move config past a begun q)
    saving_caused begun q =
        either (is_saving config a begun) _ _
        (λ saves. saving_by_caused (begin_gives config a reason_high).made (begin_gives config a reason_high).answer q (freeing_move config past a None false q) (high_caused (is_short (nat_le (length a.modified) config.params.lolimit) refl)) (freeing_caused None false q none_left))
        (λ enough. freeing_caused None false q none_left)

-- outside the rundown
pub body_caused : (config : Config) (past : List Entry) (c : Control) → IsBetween config past → IsControlled config past c → length past < 2 ^ 63 → ((task : Task) → next_task config past ≡ Some task → next_request config past (task.proc).0 ≡ Some task.request)
    → IsInBody c.doing → MoveIsCaused config past (move_of config past c)
body_caused config past c between controlled few asks = by c.doing
  where
    by : (d : Doing) → IsInBody d → MoveIsCaused config past (move_of config past (record c { doing = d }))
    by asking body = asking_caused config past between few asks c.leaving controlled.leaving
    by (saving begun q) body = saving_caused config past between few asks begun q
    by (freeing begun q) body = freeing_caused config past between few asks c.leaving begun q controlled.leaving
    by (cleaning at) body = absurd body
