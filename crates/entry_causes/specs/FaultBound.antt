-- How many faults a process may have for one request: none, or one for a reference, one more for each read of its page
-- that failed, and one more for each time that the process was swapped out meanwhile. This project's own.
use Rattle.std.specs.Prelude.{ℕ, ◌+◌, ◌≤◌, List, [], ◌∷◌, Option, Some, None, nat_eq, if◌then◌else◌}
use Rattle.vm_types.specs.declared.names.ProcStatus.{ProcStatus}
use Rattle.vm_types.specs.declared.names.ProcStatus.TheVariants as status
use Rattle.vm_types.specs.declared.config.Config.{Config}
use Rattle.vm_types.specs.declared.service.Request.{Request}
use Rattle.vm_types.specs.declared.service.Request.TheVariants as request
use Rattle.vm_journal.specs.declared.entry.Entry.{Entry}
use Rattle.vm_journal.specs.declared.entry.Role.{Role}
use Rattle.vm_journal.specs.declared.entry.Role.TheVariants as role
use Rattle.vm_journal.specs.declared.entry.What.{What}
use Rattle.vm_journal.specs.declared.entry.What.TheVariants as what
use Rattle.pager_model.specs.Flights.{Flight, begun_in}
use Rattle.pager_model.specs.Pager.{Pager}
use Rattle.pager_model.specs.Run.{pager_after}
use Rattle.pager_model.specs.Transfers.{is_fault}
use Rattle.entry_causes.specs.NextRequest.{next_request}

-- since the process's last answer: its faults, the reads of pages of its faults that failed, and how often it turned to
-- leaving
pub record Since : Type 0 where
  pub faults : ℕ
  pub failed : ℕ
  pub left : ℕ

abbrev pub nothing_since : Since
nothing_since = record { faults = 0; failed = 0; left = 0 }

abbrev pub faulted : Since → Since
faulted s = record s { faults = s.faults + 1 }

-- a page that comes back to a coming process is no fault
abbrev pub with_back : ProcStatus → Since → Since
with_back status.Resident s = faulted s
with_back other s = s

abbrev pub with_read : Role → Since → Since
with_read (role.Fault p address) s = faulted s
with_read other s = s

abbrev pub with_failure : Option Flight → Since → Since
with_failure None s = s
with_failure (Some x) s = if is_fault x.direction then record s { failed = s.failed + 1 } else s

abbrev pub with_turn : ProcStatus → Since → Since
with_turn status.Leaving s = record s { left = s.left + 1 }
with_turn other s = s

-- with one entry more, which the process's own seat made
abbrev pub with_own : List Entry → What → Since → Since
with_own past (what.Done r reply) s = nothing_since
with_own past (what.Denied r reason) s = nothing_since
with_own past (what.Served service answer) s = nothing_since
with_own past (what.Zero address f) s = faulted s
with_own past (what.In f b r) s = with_read r s
with_own past (what.InFail f k c d) s = with_failure (begun_in k past) s
with_own past other s = s

-- with one entry more about the process, by whatever seat
abbrev pub with_any : Pager → ℕ → What → Since → Since
with_any a p (what.Back q address f from) s = if nat_eq q.0 p then with_back (a.status p) s else s
with_any a p (what.Turn q to) s = if nat_eq q.0 p then with_turn to s else s
with_any a p other s = s

abbrev pub since : Config → ℕ → List Entry → Since
since config p [] = nothing_since
since config p (e ∷ past) =
    let s = with_any (pager_after config past) p e.what (since config p past) in
    if nat_eq (e.seat).0 p then with_own past e.what s else s

-- by what the process asks for next
abbrev pub faults_asked : Option Request → ℕ
faults_asked (Some (request.Reference r)) = 1
faults_asked other = 0

-- the bound: for one request, and so for the sum of all
abbrev pub HasFewFaults : Config → List Entry → Type 0
HasFewFaults config past =
    (p : ℕ) → (since config p past).faults ≤ faults_asked (next_request config past p) + (since config p past).failed + (since config p past).left
