use Rattle.std.proofs.Common.{◌≡◌, ◌<◌, IfSome, length, ℕ}
use Rattle.std.specs.Option.{option_map}
use Rattle.vm_types.specs.declared.names.Proc.{Proc}
use Rattle.pager_policy.specs.Swap.{last_spoken}
use Rattle.vm_state.specs.History.{pager}
use Rattle.vm_swapper.specs.Victims.{leaves_resident, process_number}
use Rattle.vm_swapper.proofs.EarliestSpoken.{earliest_from}
use Rattle.vm_swapper.proofs.victims.earliest.Given as goal

-- it is the first of the processes from this one on
abbrev pub invariant-loop-n : goal.invariant-loop-n
invariant-loop-n g l = record {
  first : option_map process_number l.first ≡ earliest_from (λ (r : ℕ). last_spoken r l.state.past) (leaves_resident l.state.past (pager l.state) (option_map process_number l.but)) (length l.state.config.procs) l.n;
  there : IfSome l.first (λ (r : Proc). r.0 < length l.state.config.procs);
}
