-- Who finds a frame, by the rule of the serial policy. This project's own.
use Rattle.std.specs.Prelude.{◌≡◌, ℕ, ◌<◌, Bool, ◌&&◌, List, [], ◌∷◌, Option, Some, None, length, nat_eq, not}
use Rattle.vm_types.specs.declared.config.Config.{Config}
use Rattle.vm_types.specs.declared.names.ProcStatus.TheVariants as status
use Rattle.vm_journal.specs.declared.entry.Entry.{Entry}
use Rattle.vm_journal.specs.declared.entry.What.TheVariants as what
use Rattle.vm_types.specs.Status.{is_leaving}
use Rattle.pager_policy.specs.Moves.{Doing as DoingIs, Move, control, makes, while_leaving}
use Rattle.pager_model.specs.Pager.{Pager}
use Rattle.pager_policy.specs.Policy.{Ends as EndsIs, leave_move, writing_move}
use Rattle.vm_state.specs.History.{History, pager}
use Rattle.serial_moves.specs.declared.finding.Finder.{Finder}
use Rattle.serial_moves.specs.declared.finding.Finder.TheVariants.{Leaving, Victim, Writer}

-- the move of the one that was found
abbrev pub finding_by : Config → List Entry → Pager → ℕ → EndsIs → DoingIs → Finder → Move
finding_by config past a seat ends doing Writer = writing_move config a seat ends (control doing)
finding_by config past a seat ends doing (Leaving q) = leave_move config past a seat q.0 ends doing
finding_by config past a seat ends doing (Victim q) = makes seat (what.Turn q status.Leaving ∷ []) (while_leaving doing q.0)

abbrev pub found_move : Config → List Entry → Pager → ℕ → EndsIs → DoingIs → Move → Option Finder → Move
found_move config past a seat ends doing none None = none
found_move config past a seat ends doing none (Some finder) = finding_by config past a seat ends doing finder

-- a process that is found is one of the configuration, and leaves, or may be turned to leaving
abbrev pub IsFinder : History → Finder → Type 0
IsFinder s Writer = Unit {0}
IsFinder s (Leaving q) = (q.0 < length s.config.procs) × ((pager s).status q.0 ≡ status.Leaving)
IsFinder s (Victim q) = Unit {0}

-- whether a process is leaving, and is another one than this
abbrev pub is_other_leaving : Pager → ℕ → ℕ → Bool
is_other_leaving a p q = is_leaving (a.status q) && not (nat_eq q p)
