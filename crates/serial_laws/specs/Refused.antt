-- A failed transfer refuses at most one request. This project's own.
use Rattle.std.specs.Prelude.{ℕ, ◌≤◌, Bool, true, false, ◌&&◌, List, count_by, nat_eq}
use Rattle.vm_types.specs.declared.config.Config.{Config}
use Rattle.vm_types.specs.declared.reply.Answer.{Answer}
use Rattle.vm_types.specs.declared.reply.Answer.TheVariants as answer
use Rattle.vm_types.specs.declared.reply.Why.{Why}
use Rattle.vm_types.specs.declared.reply.Why.TheVariants as why
use Rattle.vm_journal.specs.declared.entry.Entry.{Entry}
use Rattle.vm_journal.specs.declared.entry.What.{What}
use Rattle.vm_journal.specs.declared.entry.What.TheVariants as what
use Rattle.pager_model.specs.Run.{IsRun}

abbrev pub is_disk_fault : Why → Bool
is_disk_fault why.DiskFault = true
is_disk_fault other = false

abbrev pub is_disk_answer : Answer → Bool
is_disk_answer answer.DiskFault = true
is_disk_answer other = false

-- a request is refused for a failed transfer
abbrev pub is_disk_refusal : What → Bool
is_disk_refusal (what.Denied r reason) = is_disk_fault reason
is_disk_refusal (what.Served s reply) = is_disk_answer reply
is_disk_refusal other = false

-- a transfer fails
abbrev pub is_failure : What → Bool
is_failure (what.InFail f k c d) = true
is_failure (what.OutFail f k c d) = true
is_failure other = false

abbrev pub is_own : (What → Bool) → ℕ → Entry → Bool
is_own test seat e = nat_eq (e.seat).0 seat && test e.what

-- how many requests of the seat's process were refused for a failed transfer, and how many transfers of the
-- seat have failed
abbrev pub refusals_of : ℕ → List Entry → ℕ
refusals_of seat past = count_by (is_own is_disk_refusal seat) past

abbrev pub failures_of : ℕ → List Entry → ℕ
failures_of seat past = count_by (is_own is_failure seat) past

-- along each run a seat's refusals are at most its failed transfers: no failed transfer refuses two requests,
-- and none refuses another seat's
abbrev pub FailuresRefuseOnce : Type 0
FailuresRefuseOnce = (config : Config) (past : List Entry) (seat : ℕ) → IsRun config past → refusals_of seat past ≤ failures_of seat past
