-- The serial policy as a table of moves: requests in the order of the body, each answered before the next,
-- and after each answer the writer's and the swapper's part. Room for entries is met by reserving, so it
-- isn't here. This project's own; the writer's and swapper's triggers by Kenah and Bate, "VAX/VMS Internals
-- and Data Structures", the modified page writer (HILIMIT, LOLIMIT) and the swapper (FREELIM, FREEGOAL).
use Rattle.std.specs.Prelude.{ℕ, Bool, true, false, ◌+◌, ◌&&◌, List, [], ◌∷◌, Option, Some, None, length, find, slice_get, nat_eq, nat_lt, not, if◌then◌else◌}
use Rattle.std.specs.List.{range_with_len}
use Rattle.vm_types.specs.declared.names.ProcStatus.{ProcStatus}
use Rattle.vm_types.specs.declared.names.ProcStatus.TheVariants as status
use Rattle.vm_types.specs.declared.config.Config.{Config}
use Rattle.vm_types.specs.declared.config.Task.{Task}
use Rattle.vm_types.specs.declared.service.Request.{Request}
use Rattle.vm_types.specs.declared.service.Request.TheVariants as request
use Rattle.vm_journal.specs.declared.entry.Entry.{Entry}
use Rattle.vm_journal.specs.declared.entry.What.{What}
use Rattle.vm_journal.specs.declared.entry.What.TheVariants as what
use Rattle.pager_policy.specs.Advance.{NextIs, advance_gives, again_modified_full, again_no_frame, next_again, next_answered, next_carry, next_more}
use Rattle.vm_types.specs.Status.{is_coming, is_leaving}
use Rattle.pager_model.specs.Maps.{proc}
use Rattle.pager_policy.specs.Moves.{After, Control, Doing, Move, asking, carries, cleaning, control, freeing, goes, makes, refuses, rests, saving, while_leaving}
use Rattle.pager_model.specs.Pager.{Pager}
use Rattle.pager_model.specs.Run.{pager_after}
use Rattle.pager_policy.specs.Rundown.{cleaning_move, writer_of}
use Rattle.pager_policy.specs.Serve.{ServeIs, serve_again, serve_answered, serve_gives, serve_modified_full, serve_more}
use Rattle.pager_model.specs.Spoken.{spoken}
use Rattle.pager_policy.specs.Swap.{SwapIs, come_gives, leave_gives, swap_again, swap_carry, swap_modified_full, swap_more, swap_no_frame, swap_settled, victim_gives}
use Rattle.pager_policy.specs.WriteCluster.{BeginIs, begin_carry, begin_gives, begin_nothing, reason_high, reason_need}

abbrev pub swapper_of : Config → ℕ
swapper_of config = length config.procs + 1

-- the request that comes next
abbrev pub next_task : Config → List Entry → Option Task
next_task config past = slice_get config.body (spoken past)

-- what a carrier's failure ends: a request that is refused, or the part of the work after an answer
pub data Ends : Type 0 where
  ends_request : Ends
  ends_part : Control → Ends

abbrev pub failing : Ends → After
failing ends_request = refuses
failing (ends_part c) = goes c

-- unless every lift failed the policy goes on
abbrev pub unless_all_failed : Ends → Control → Bool → Bool → After
unless_all_failed ends c all first = if all then failing ends else goes c

-- ---- writing: one cluster because room is needed
abbrev pub writing_move : Config → Pager → ℕ → Ends → Control → Move
writing_move config a seat ends c = carries seat (begin_gives config a reason_need).made (unless_all_failed ends c)

-- ---- leave q, until it is settled
abbrev pub leave_move_by : Config → Pager → ℕ → ℕ → Ends → Doing → List What → SwapIs → Move
leave_move_by config a seat q ends doing made swap_carry = carries seat made (unless_all_failed ends (while_leaving doing q))
leave_move_by config a seat q ends doing made swap_more = makes seat made (while_leaving doing q)
leave_move_by config a seat q ends doing made swap_settled = makes seat made (control doing)
leave_move_by config a seat q ends doing made (swap_again swap_modified_full) = writing_move config a seat ends (while_leaving doing q)
leave_move_by config a seat q ends doing made (swap_again other) = rests

abbrev pub leave_move : Config → List Entry → Pager → ℕ → ℕ → Ends → Doing → Move
leave_move config past a seat q ends doing =
    leave_move_by config a seat q ends doing (leave_gives config past a q).made (leave_gives config past a q).answer

-- ---- finding a frame, for a process: writing, else a process is left, else one is turned to leaving
abbrev pub leaving_other : Config → Pager → ℕ → Option ℕ
leaving_other config a p = find (λ (q : ℕ). is_leaving (a.status q) && not (nat_eq q p)) (range_with_len 0 (length config.procs))

abbrev pub victim_move : ℕ → Doing → Option ℕ → Move → Move
victim_move seat doing None none = none
victim_move seat doing (Some q) none = makes seat (what.Turn (proc q) status.Leaving ∷ []) (while_leaving doing q)

abbrev pub other_move : Config → List Entry → Pager → ℕ → ℕ → Ends → Doing → Move → Option ℕ → Move
other_move config past a seat p ends doing none (Some q) = leave_move config past a seat q ends doing
other_move config past a seat p ends doing none None = victim_move seat doing (victim_gives config past a (Some p)) none

abbrev pub finding_move : Config → List Entry → Pager → ℕ → ℕ → Ends → Doing → Move → Move
finding_move config past a seat p ends doing none =
    if nat_lt 0 (length a.modified) then writing_move config a seat ends (control doing)
    else other_move config past a seat p ends doing none (leaving_other config a p)

-- ---- a request of process p, which its own seat works for
-- the process comes back
abbrev pub come_move_by : Config → List Entry → Pager → ℕ → List What → SwapIs → Move
come_move_by config past a p made swap_carry = carries p made (unless_all_failed ends_request (control asking))
come_move_by config past a p made swap_more = makes p made (control asking)
come_move_by config past a p made swap_settled = makes p made (control asking)
come_move_by config past a p made (swap_again swap_no_frame) = finding_move config past a p p ends_request asking rests
come_move_by config past a p made (swap_again other) = rests

-- a process that is gone comes when no other one does
abbrev pub gone_move : ℕ → Option ℕ → Move
gone_move p None = makes p (what.Turn (proc p) status.Coming ∷ []) (control asking)
gone_move p (Some q) = makes p (what.Turn (proc q) status.Leaving ∷ []) (while_leaving asking q)

abbrev pub coming_process : Config → Pager → Option ℕ
coming_process config a = find (λ (q : ℕ). is_coming (a.status q)) (range_with_len 0 (length config.procs))

-- the reference's or the service's next step
abbrev pub unless_first_failed : Control → Bool → Bool → After
unless_first_failed c all first = if first then refuses else goes c

abbrev pub advance_move_by : Config → List Entry → Pager → ℕ → List What → NextIs → Move
advance_move_by config past a p made next_answered = makes p made (control (saving false p))
advance_move_by config past a p made next_carry = carries p made (unless_first_failed (control asking))
advance_move_by config past a p made next_more = makes p made (control asking)
advance_move_by config past a p made (next_again again_modified_full) = writing_move config a p ends_request (control asking)
advance_move_by config past a p made (next_again again_no_frame) = finding_move config past a p p ends_request asking rests
advance_move_by config past a p made (next_again other) = rests

abbrev pub serve_move_by : Config → Pager → ℕ → List What → ServeIs → Move
serve_move_by config a p made serve_answered = makes p made (control (saving false p))
serve_move_by config a p made serve_more = makes p made (control asking)
serve_move_by config a p made (serve_again serve_modified_full) = writing_move config a p ends_request (control asking)
serve_move_by config a p made (serve_again other) = rests

abbrev pub resident_move : Config → List Entry → Pager → ℕ → Request → Move
resident_move config past a p (request.Reference r) =
    advance_move_by config past a p (advance_gives config past a p r).made (advance_gives config past a p r).answer
resident_move config past a p (request.Service s) =
    serve_move_by config a p (serve_gives config past a p s).made (serve_gives config past a p s).answer

-- while it isn't resident the process is brought in
abbrev pub status_move : Config → List Entry → Pager → ℕ → Request → ProcStatus → Move
status_move config past a p request status.Resident = resident_move config past a p request
status_move config past a p request status.Leaving = leave_move config past a p p ends_request asking
status_move config past a p request status.Gone = gone_move p (coming_process config a)
status_move config past a p request status.Coming = come_move_by config past a p (come_gives config past a p).made (come_gives config past a p).answer

-- a process that is being left comes first
abbrev pub asked_move : Config → List Entry → Pager → Option ℕ → ℕ → Request → Move
asked_move config past a (Some q) p request = leave_move config past a p q ends_request asking
asked_move config past a None p request = status_move config past a p request (a.status p)

-- when no request is left the policy rests: that is the report's place
abbrev pub task_move : Config → List Entry → Pager → Option ℕ → Option Task → Move
task_move config past a leaving None = rests
task_move config past a leaving (Some task) = asked_move config past a leaving (task.proc).0 task.request

abbrev pub asking_move : Config → List Entry → Pager → Option ℕ → Move
asking_move config past a leaving = task_move config past a leaving (next_task config past)

-- ---- after an answer: the swapper's part, then the next request
-- it begins where the free list is shorter than FREELIM, and goes on until it has FREEGOAL frames
abbrev pub is_freeing : Config → Pager → Bool → Bool
is_freeing config a false = nat_lt (length a.free) config.params.freelim
is_freeing config a true = nat_lt (length a.free) config.params.freegoal

abbrev pub freeing_move : Config → List Entry → Pager → Option ℕ → Bool → ℕ → Move
freeing_move config past a (Some q) begun p = leave_move config past a (swapper_of config) q (ends_part (control asking)) (freeing true p)
freeing_move config past a None begun p =
    if is_freeing config a begun && is_freeing config a true
    then finding_move config past a (swapper_of config) p (ends_part (control asking)) (freeing true p) (asking_move config past a None)
    else asking_move config past a None

-- ---- before it the writer's part: it begins where the modified list is longer than HILIMIT, and goes on
-- while it is longer than LOLIMIT
abbrev pub is_saving : Config → Pager → Bool → Bool
is_saving config a false = nat_lt config.params.hilimit (length a.modified)
is_saving config a true = true

abbrev pub saving_by : Config → List What → BeginIs → ℕ → Move → Move
saving_by config made begin_carry p none = carries (writer_of config) made (unless_all_failed (ends_part (control (freeing false p))) (control (saving true p)))
saving_by config made begin_nothing p none = none

abbrev pub saving_move : Config → List Entry → Pager → Bool → ℕ → Move
saving_move config past a begun p =
    if is_saving config a begun
    then saving_by config (begin_gives config a reason_high).made (begin_gives config a reason_high).answer p (freeing_move config past a None false p)
    else freeing_move config past a None false p

-- ---- the whole table
abbrev pub move_of : Config → List Entry → Control → Move
move_of config past c = by c.doing where
  by : Doing → Move
  by asking = asking_move config past (pager_after config past) c.leaving
  by (saving begun p) = saving_move config past (pager_after config past) begun p
  by (freeing begun p) = freeing_move config past (pager_after config past) c.leaving begun p
  by (cleaning at) = cleaning_move config past (pager_after config past) at
