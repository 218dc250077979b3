-- A move of the serial policy answers the task that comes next, or nothing.
use Rattle.pager_policy.specs.Swap.{swap_carry, swap_more, swap_settled, swap_again, swap_in_flight, swap_modified_full, swap_no_frame}
use Rattle.pager_policy.specs.Advance.{next_answered, next_carry, next_more, next_again, again_not_resident, again_collided, again_block_busy, again_charging, again_modified_full, again_no_frame}
use Rattle.pager_policy.specs.Serve.{serve_answered, serve_more, serve_again, serve_not_resident, serve_in_flight, serve_modified_full}
use Rattle.pager_policy.specs.WriteCluster.{begin_carry, begin_nothing, reason_high, reason_need}
use Rattle.pager_policy.specs.Policy.{ends_request, ends_part}
use Rattle.pager_policy.specs.Cleaning.{evicting, rounds}
use Rattle.pager_policy.specs.Given.{is_stopped, seen_at, Seen}
use Rattle.pager_policy.specs.Advance.{next_again, NextIs, advance_gives}
use Rattle.call_laws.proofs.CallsSay.{serve_says, come_silent, leave_silent, advance_says, SaysBy, ServedBy, begin_silent}
use Rattle.pager_policy.specs.Serve.{serve_again, serve_gives, ServeIs}
use Rattle.pager_policy.specs.Swap.{swap_again, come_gives, leave_gives, victim_gives, SwapIs}
use Rattle.pager_policy.specs.Cleaning.{rounds, evicting, Cleaning}
use Rattle.vm_types.specs.declared.reference.Ref.{Ref}
use Rattle.pager_policy.specs.WriteCluster.{reason_high, begin_gives, reason_need, BeginIs}
use Rattle.pager_policy.specs.Rundown.{clean_move, shared_place, cleaning_move, later_move, place_move, is_shared_listed, Place, rounds_move, next_round}
use Rattle.pager_model.specs.Run.{pager_after}
use Rattle.std.proofs.Common.{◌&&◌, not, nat_lt, ◌≡◌, ◌⊎◌, ℕ, zero, suc, ◌+◌, Bool, true, false, cond, List, [], ◌∷◌, Option, Some, None, length, refl, sym, ap, ◌∙◌, inl, inr}
use Rattle.vm_types.specs.declared.config.Config.{Config}
use Rattle.vm_types.specs.declared.config.Task.{Task}
use Rattle.vm_types.specs.declared.names.ProcStatus.{ProcStatus}
use Rattle.vm_types.specs.declared.names.ProcStatus.TheVariants as status
use Rattle.vm_types.specs.declared.service.Request.{Request}
use Rattle.vm_types.specs.declared.service.Request.TheVariants as request
use Rattle.vm_types.specs.declared.service.Service.{Service}
use Rattle.vm_journal.specs.declared.entry.Entry.{Entry}
use Rattle.vm_journal.specs.declared.entry.What.{What}
use Rattle.pager_policy.specs.Moves.{while_leaving, control, Move, makes, carries, rests, Control, Doing, asking, saving, freeing, cleaning}
use Rattle.pager_model.specs.Pager.{Pager}
use Rattle.pager_policy.specs.Policy.{leaving_other, is_freeing, advance_move_by, serve_move_by, coming_process, leave_move_by, ends_part, come_move_by, saving_by, writing_move, leave_move, is_saving, finding_move, other_move, swapper_of, ends_request, freeing_move, asking_move, gone_move, resident_move, status_move, victim_move, asked_move, saving_move, task_move, Ends, next_task, move_of}
use Rattle.call_laws.proofs.Said.{Silent, said}

pub record AnswersTask (config : Config) (past : List Entry) (seat : ℕ) (ws : List What) : Type 0 where
  pub task : Task
  pub next : next_task config past ≡ Some task
  pub seat_is : (task.proc).0 ≡ seat
  pub says : said ws ≡ task.request ∷ []

abbrev pub SaysRight : Config → List Entry → Move → Type 0
SaysRight config past (makes seat ws c) = Silent ws ⊎ AnswersTask config past seat ws
SaysRight config past (carries seat ws onward) = Silent ws
SaysRight config past rests = Unit {0}

pub record MoveSays (config : Config) (past : List Entry) (m : Move) : Type 0 where
  pub right : SaysRight config past m

module _ (config : Config) (past : List Entry) (a : Pager) where
  either : (b : Bool) (x y : Move) → MoveSays config past x → MoveSays config past y → MoveSays config past (cond b x y)
  either true x y first second = first
  either false x y first second = second

  resting : MoveSays config past rests
  resting = record { right = tt }

  writing_says : (seat : ℕ) (ends : Ends) (c : Control) → MoveSays config past (writing_move config a seat ends c)
  writing_says seat ends c = record { right = begin_silent config a reason_need }

  leave_by_says : (seat q : ℕ) (ends : Ends) (doing : Doing) (made : List What) (is : SwapIs) → Silent made → MoveSays config past (leave_move_by config a seat q ends doing made is)
  leave_by_says seat q ends doing made swap_carry silent = record { right = silent }
  leave_by_says seat q ends doing made swap_more silent = record { right = inl silent }
  leave_by_says seat q ends doing made swap_settled silent = record { right = inl silent }
  leave_by_says seat q ends doing made (swap_again swap_modified_full) silent = writing_says seat ends (while_leaving doing q)
  leave_by_says seat q ends doing made (swap_again swap_in_flight) silent = resting
  leave_by_says seat q ends doing made (swap_again swap_no_frame) silent = resting

  leave_says : (seat q : ℕ) (ends : Ends) (doing : Doing) → MoveSays config past (leave_move config past a seat q ends doing)
  leave_says seat q ends doing = leave_by_says seat q ends doing (leave_gives config past a q).made (leave_gives config past a q).answer (leave_silent config past a q).silent

  victim_says : (seat : ℕ) (doing : Doing) (o : Option ℕ) (none : Move) → MoveSays config past none → MoveSays config past (victim_move seat doing o none)
  victim_says seat doing None none says = says
  victim_says seat doing (Some q) none says = record { right = inl refl }

  other_says : (seat p : ℕ) (ends : Ends) (doing : Doing) (none : Move) (o : Option ℕ) → MoveSays config past none → MoveSays config past (other_move config past a seat p ends doing none o)
  other_says seat p ends doing none (Some q) says = leave_says seat q ends doing
  other_says seat p ends doing none None says = victim_says seat doing (victim_gives config past a (Some p)) none says

  finding_says : (seat p : ℕ) (ends : Ends) (doing : Doing) (none : Move) → MoveSays config past none → MoveSays config past (finding_move config past a seat p ends doing none)
  finding_says seat p ends doing none says =
      either (nat_lt 0 (length a.modified)) _ _ (writing_says seat ends (control doing)) (other_says seat p ends doing none (leaving_other config a p) says)

  -- ---- the task's own moves
  module _ (task : Task) (next : next_task config past ≡ Some task) where
    abbrev p : ℕ
    p = (task.proc).0

    answers : (ws : List What) → said ws ≡ task.request ∷ [] → AnswersTask config past p ws
    answers ws says = record { task = task; next = next; seat_is = refl; says = says }

    come_says : (made : List What) (is : SwapIs) → Silent made → MoveSays config past (come_move_by config past a p made is)
    come_says made swap_carry silent = record { right = silent }
    come_says made swap_more silent = record { right = inl silent }
    come_says made swap_settled silent = record { right = inl silent }
    come_says made (swap_again swap_no_frame) silent = finding_says p p ends_request asking rests resting
    come_says made (swap_again swap_in_flight) silent = resting
    come_says made (swap_again swap_modified_full) silent = resting

    gone_says : (o : Option ℕ) → MoveSays config past (gone_move p o)
    gone_says None = record { right = inl refl }
    gone_says (Some q) = record { right = inl refl }

    advance_move_says : (r : Ref) → task.request ≡ request.Reference r → (made : List What) (is : NextIs) → SaysBy is (said made) r → MoveSays config past (advance_move_by config past a p made is)
    advance_move_says r own made next_answered says = record { right = inr (answers made (says ∙ ap (λ (x : Request). x ∷ []) (sym own))) }
    advance_move_says r own made next_carry says = record { right = says }
    advance_move_says r own made next_more says = record { right = inl says }
    advance_move_says r own made (next_again again_modified_full) says = writing_says p ends_request (control asking)
    advance_move_says r own made (next_again again_no_frame) says = finding_says p p ends_request asking rests resting
    advance_move_says r own made (next_again again_not_resident) says = resting
    advance_move_says r own made (next_again again_collided) says = resting
    advance_move_says r own made (next_again again_block_busy) says = resting
    advance_move_says r own made (next_again again_charging) says = resting

    serve_move_says : (s : Service) → task.request ≡ request.Service s → (made : List What) (is : ServeIs) → ServedBy is (said made) s → MoveSays config past (serve_move_by config a p made is)
    serve_move_says s own made serve_answered says = record { right = inr (answers made (says ∙ ap (λ (x : Request). x ∷ []) (sym own))) }
    serve_move_says s own made serve_more says = record { right = inl says }
    serve_move_says s own made (serve_again serve_modified_full) says = writing_says p ends_request (control asking)
    serve_move_says s own made (serve_again serve_not_resident) says = resting
    serve_move_says s own made (serve_again serve_in_flight) says = resting

    resident_says : (q : Request) → task.request ≡ q → MoveSays config past (resident_move config past a p q)
    resident_says (request.Reference r) own = advance_move_says r own (advance_gives config past a p r).made (advance_gives config past a p r).answer (advance_says config past a p r).says
    resident_says (request.Service s) own = serve_move_says s own (serve_gives config past a p s).made (serve_gives config past a p s).answer (serve_says config past a p s).says

    status_says : (q : Request) (s : ProcStatus) → task.request ≡ q → MoveSays config past (status_move config past a p q s)
    status_says q status.Resident own = resident_says q own
    status_says q status.Leaving own = leave_says p p ends_request asking
    status_says q status.Gone own = gone_says (coming_process config a)
    status_says q status.Coming own = come_says (come_gives config past a p).made (come_gives config past a p).answer (come_silent config past a p).silent

    asked_says : (o : Option ℕ) → MoveSays config past (asked_move config past a o p task.request)
    asked_says (Some q) = leave_says p q ends_request asking
    asked_says None = status_says task.request (a.status p) refl

  task_says : (leaving : Option ℕ) (o : Option Task) → next_task config past ≡ o → MoveSays config past (task_move config past a leaving o)
  task_says leaving None is = resting
  task_says leaving (Some task) is = asked_says task is leaving

  asking_says : (leaving : Option ℕ) → MoveSays config past (asking_move config past a leaving)
  asking_says leaving = task_says leaving (next_task config past) refl

  freeing_says : (o : Option ℕ) (begun : Bool) (p : ℕ) → MoveSays config past (freeing_move config past a o begun p)
  freeing_says (Some q) begun p = leave_says (swapper_of config) q (ends_part (control asking)) (freeing true p)
  freeing_says None begun p =
      either (is_freeing config a begun && is_freeing config a true) _ _
      (finding_says (swapper_of config) p (ends_part (control asking)) (freeing true p) (asking_move config past a None) (asking_says None)) (asking_says None)

  saving_by_says : (made : List What) (is : BeginIs) (p : ℕ) (none : Move) → Silent made → MoveSays config past none → MoveSays config past (saving_by config made is p none)
  saving_by_says made begin_carry p none silent says = record { right = silent }
  saving_by_says made begin_nothing p none silent says = says

  saving_says : (begun : Bool) (p : ℕ) → MoveSays config past (saving_move config past a begun p)
  saving_says begun p =
      either (is_saving config a begun) _ _
      (saving_by_says (begin_gives config a reason_high).made (begin_gives config a reason_high).answer p (freeing_move config past a None false p) (begin_silent config a reason_high) (freeing_says None false p))
      (freeing_says None false p)

  -- ---- the rundown
  next_round_says : (following : ℕ) → MoveSays config past (next_round config a following)
  next_round_says zero = resting
  next_round_says (suc following) = record { right = begin_silent config a reason_need }

  rounds_says : (following left : ℕ) → MoveSays config past (rounds_move config a following left)
  rounds_says following left =
      either (is_shared_listed a) _ _ (either (nat_lt 0 left) _ _ (record { right = begin_silent config a reason_need }) (next_round_says following)) resting

  clean_says : (at : Place) (failed : Bool) (later : Move) (o : Option Seen) → MoveSays config past later → MoveSays config past (clean_move config past a at failed later o)
  clean_says at failed later None says = says
  clean_says at failed later (Some s) says =
      either (not (is_stopped config past a s.frame)) _ _ (record { right = inl refl }) (either failed _ _ says (record { right = begin_silent config a reason_need }))

  place_says : (failed : Bool) (later : Place → Move) (o : Option Place) → ((at : Place) → MoveSays config past (later at)) → MoveSays config past (place_move config past a failed later o)
  place_says failed later None says = rounds_says 2 0
  place_says failed later (Some at) says = clean_says at failed (later at) (seen_at a at.process at.slot) (says at)

  later_says : (at : Place) → MoveSays config past (later_move config past a at)
  later_says at = place_says false (λ (next : Place). rests) (shared_place config a at.process (at.slot + 1)) (λ next. resting)

  cleaning_says : (at : Cleaning) → MoveSays config past (cleaning_move config past a at)
  cleaning_says (evicting p n failed) = place_says failed (later_move config past a) (shared_place config a p n) later_says
  cleaning_says (rounds following left) = rounds_says following left

pub move_says : (config : Config) (past : List Entry) (c : Control) → MoveSays config past (move_of config past c)
move_says config past c = by c.doing
  where
    by : (d : Doing) → MoveSays config past (move_of config past (record c { doing = d }))
    by asking = asking_says config past (pager_after config past) c.leaving
    by (saving begun p) = saving_says config past (pager_after config past) begun p
    by (freeing begun p) = freeing_says config past (pager_after config past) c.leaving begun p
    by (cleaning at) = cleaning_says config past (pager_after config past) at
