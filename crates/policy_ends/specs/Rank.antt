-- The rank of a place of the serial policy: ten numbers, of which each move lowers the first one that it
-- changes. This project's own.
use Rattle.std.specs.Prelude.{◌≡◌, ◌⊎◌, ℕ, Bool, false, ◌-◌, ◌<◌, ◌&&◌, List, [], ◌∷◌, Option, Some, None, length, count_by, nat_eq, not, if◌then◌else◌}
use Rattle.std.specs.Option.{is_some}
use Rattle.std.specs.List.{range_with_len, sum_by}
use Rattle.vm_types.specs.Ring.{filled}
use Rattle.vm_types.specs.declared.names.Page.{Page}
use Rattle.vm_types.specs.declared.names.BlockId.{BlockId}
use Rattle.vm_types.specs.declared.names.BlockId.TheVariants as block
use Rattle.vm_types.specs.declared.names.ProcStatus.{ProcStatus}
use Rattle.vm_types.specs.declared.names.ProcStatus.TheVariants as status
use Rattle.vm_types.specs.declared.config.Config.{Config}
use Rattle.vm_types.specs.declared.config.Task.{Task}
use Rattle.vm_types.specs.declared.service.Request.{Request}
use Rattle.vm_types.specs.declared.service.Request.TheVariants as request
use Rattle.vm_journal.specs.declared.entry.Entry.{Entry}
use Rattle.pager_model.specs.Lying.{lies_in}
use Rattle.pager_model.specs.Lookups.{entry_of, is_pending, slot_with}
use Rattle.vm_types.specs.Status.{is_coming, is_leaving, is_resident}
use Rattle.pager_model.specs.Maps.{is_private, page_number, proc}
use Rattle.pager_policy.specs.Moves.{Control, Doing, asking, freeing, saving}
use Rattle.pager_model.specs.Pager.{Pager, Valid}
use Rattle.pager_policy.specs.Policy.{next_task}
use Rattle.pager_model.specs.Spoken.{spoken}
use Rattle.pager_model.specs.Run.{pager_after}
use Rattle.pager_policy.specs.Swap.{is_still}
use Rattle.pager_rules.specs.Kept.{one_if}

-- compared at the first place where they differ
abbrev pub IsLower : List ℕ → List ℕ → Type 0
IsLower [] ys = ⊥
IsLower (x ∷ xs) [] = ⊥
IsLower (x ∷ xs) (y ∷ ys) = (x < y) ⊎ ((x ≡ y) × IsLower xs ys)

-- ---- where the policy is
-- the requests of the body that no entry has answered
abbrev pub unanswered : Config → List Entry → ℕ
unanswered config past = length config.body - spoken past

-- how much of the work after an answer is to come; none at a request
abbrev pub phase : Doing → ℕ
phase (saving begun p) = if begun then 3 else 4
phase (freeing begun p) = if begun then 1 else 2
phase other = 0

-- the process at hand: the next task's, or the one that was answered
abbrev pub process_of : Option Task → ℕ
process_of None = 0
process_of (Some task) = (task.proc).0

abbrev pub process_at_hand : Config → List Entry → Doing → ℕ
process_at_hand config past (saving begun p) = p
process_at_hand config past (freeing begun p) = p
process_at_hand config past other = process_of (next_task config past)

-- ---- the processes
abbrev pub processes_of : Config → List ℕ
processes_of config = range_with_len 0 (length config.procs)

-- how far a process is from being gone
abbrev pub presence : ProcStatus → ℕ
presence status.Gone = 0
presence status.Leaving = 1
presence other = 2

-- and how far from being resident
abbrev pub absence : ProcStatus → ℕ
absence status.Resident = 0
absence status.Coming = 1
absence status.Gone = 2
absence status.Leaving = 3

-- of all processes but one
abbrev pub presence_of_others : Config → Pager → ℕ → ℕ
presence_of_others config a p = sum_by (λ (q : ℕ). if nat_eq q p then 0 else presence (a.status q)) (processes_of config)

-- whether a page lies in a swap block of the process
abbrev pub lies_in_swap : ℕ → Option BlockId → Bool
lies_in_swap p (Some (block.Swap q n)) = nat_eq q.0 p
lies_in_swap p other = false

-- the pages of a coming process that lie in its swap blocks
abbrev pub swapped_out : Pager → ℕ → ℕ
swapped_out a p = count_by (λ (g : Page). lies_in_swap p (a.lies g)) a.charged

abbrev pub left_to_come : Pager → ℕ → ℕ
left_to_come a p = if is_coming (a.status p) then swapped_out a p else 0

-- an adjustment of the process's limit is pending
abbrev pub pending : Config → Pager → ℕ → ℕ
pending config a p = one_if (is_pending config (a.references p))

-- ---- the request that is asked
-- it is a reference of a resident process, and its page's entry is valid
abbrev pub is_met : Pager → ℕ → Request → Bool
is_met a p (request.Reference r) = is_resident (a.status p) && is_some (entry_of a.valid p (page_number (r.addr).0))
is_met a p (request.Service s) = false

-- whether it is another one
abbrev pub unmet_of : Pager → Option Task → ℕ
unmet_of a None = 0
unmet_of a (Some task) = one_if (not (is_met a (task.proc).0 task.request))

-- none is asked in the work after an answer
abbrev pub unmet : Config → List Entry → Doing → ℕ
unmet config past asking = unmet_of (pager_after config past) (next_task config past)
unmet config past other = 0

-- ---- memory, for which other processes are left and the modified list is written
-- the filled slots of all rings
abbrev pub filled_slots : Config → Pager → ℕ
filled_slots config a = sum_by (λ (q : ℕ). filled (a.ring q).slots) (processes_of config)

-- a page lies in the swap block of its entry's slot
abbrev pub is_in_its_block : Pager → Valid → Page → Bool
is_in_its_block a e g = lies_in (a.lies g) (block.Swap (proc e.proc) (slot_with (a.ring e.proc) e.vpn))

-- unmodified, and without a flight
abbrev pub is_saved_page : List Entry → Pager → Valid → Page → Bool
is_saved_page past a e g = is_in_its_block a e g && (not (a.modify e.frame) && is_still past e.frame)

-- a private page that doesn't
abbrev pub is_unsaved_page : List Entry → Pager → Valid → Option Page → Bool
is_unsaved_page past a e None = false
is_unsaved_page past a e (Some g) = is_private g && not (is_saved_page past a e g)

abbrev pub is_unsaved : List Entry → Pager → Valid → Bool
is_unsaved past a e = is_leaving (a.status e.proc) && is_unsaved_page past a e (a.page e.frame)

-- the valid entries of leaving processes for such pages
abbrev pub unsaved : List Entry → Pager → ℕ
unsaved past a = count_by (is_unsaved past a) a.valid

-- ---- the rank
-- its later numbers, for the process at hand
abbrev pub numbers_for : Config → List Entry → Pager → ℕ → ℕ → List ℕ
numbers_for config past a p u =
    presence_of_others config a p ∷ absence (a.status p) ∷ left_to_come a p ∷ pending config a p ∷ u ∷ filled_slots config a ∷ unsaved past a ∷ length a.modified ∷ []

-- the requests that are left, how far the work after an answer is, and what is to be done of the other processes,
-- of the process at hand, of its request and of memory
abbrev pub rank : Config → List Entry → Control → List ℕ
rank config past c =
    unanswered config past ∷ phase c.doing ∷ numbers_for config past (pager_after config past) (process_at_hand config past c.doing) (unmet config past c.doing)
