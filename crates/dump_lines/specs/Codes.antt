-- The states of frames and of processes by their codes in a dump. This project's own.
use Rattle.std.specs.Prelude.{ℕ, List, [], ◌∷◌, slice_index_or}
use Rattle.vm_types.specs.declared.names.FrameState.{FrameState}
use Rattle.vm_types.specs.declared.names.FrameState.TheVariants as state
use Rattle.vm_types.specs.declared.names.ProcStatus.{ProcStatus}
use Rattle.vm_types.specs.declared.names.ProcStatus.TheVariants as status
use Rattle.pager_model.specs.Report.{all_states}

abbrev pub state_of_code : ℕ → FrameState
state_of_code code = slice_index_or all_states code state.Active

abbrev pub all_statuses : List ProcStatus
all_statuses = status.Resident ∷ status.Leaving ∷ status.Gone ∷ status.Coming ∷ []

abbrev pub status_of_code : ℕ → ProcStatus
status_of_code code = slice_index_or all_statuses code status.Coming
