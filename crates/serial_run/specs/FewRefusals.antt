-- Requests are refused for failed transfers at most as often as blocks have failed. This project's own.
use Rattle.std.specs.Prelude.{ℕ, ◌≤◌, ◌&&◌, Bool, List, count_by, length, nat_lt, sum_by}
use Rattle.vm_types.specs.BlockView.{Retired}
use Rattle.vm_types.specs.declared.config.Config.{Config}
use Rattle.vm_journal.specs.declared.entry.Entry.{Entry}
use Rattle.serial_laws.specs.Refused.{is_disk_refusal, is_failure}

-- how many requests were refused for a failed transfer
abbrev pub refusals : List Entry → ℕ
refusals past = count_by (λ (e : Entry). is_disk_refusal e.what) past

-- how many transfers have failed, and how many of those were of processes' seats
abbrev pub failures : List Entry → ℕ
failures past = count_by (λ (e : Entry). is_failure e.what) past

abbrev pub is_process_failure : ℕ → Entry → Bool
is_process_failure procs e = nat_lt (e.seat).0 procs && is_failure e.what

abbrev pub process_failures : Config → List Entry → ℕ
process_failures config past = count_by (is_process_failure (length config.procs)) past

-- how often these blocks have failed
abbrev pub faults_of : List Retired → ℕ
faults_of taken = sum_by (λ (x : Retired). (x.seen).faults) taken

-- one failed transfer of a process's seat refuses at most one request, and each failed transfer is a failure of a block
pub record HasFewRefusals (config : Config) (past : List Entry) (taken : List Retired) : Type 0 where
  pub refused : refusals past ≤ process_failures config past
  pub of_all : process_failures config past ≤ failures past
  pub failed : failures past ≤ faults_of taken
