-- The words for the states of frames and processes, and for a mark. Source: this project's own.
use Rattle.std.specs.Prelude.{ℕ, Bool, true, false, List, codes}
use Rattle.vm_types.specs.declared.names.FrameState.{FrameState}
use Rattle.vm_types.specs.declared.names.FrameState.TheVariants as state
use Rattle.vm_types.specs.declared.names.ProcStatus.{ProcStatus}
use Rattle.vm_types.specs.declared.names.ProcStatus.TheVariants as status

abbrev pub state_word : FrameState → List ℕ
state_word state.Free = codes "FREE"
state_word state.Modified = codes "MODIFIED"
state_word state.Bad = codes "BAD"
state_word state.ReleasePending = codes "RELEASE"
state_word state.ReadError = codes "READERROR"
state_word state.Writing = codes "WRITING"
state_word state.Reading = codes "READING"
state_word state.Active = codes "ACTIVE"

abbrev pub status_word : ProcStatus → List ℕ
status_word status.Resident = codes "RESIDENT"
status_word status.Leaving = codes "LEAVING"
status_word status.Gone = codes "GONE"
status_word status.Coming = codes "COMING"

abbrev pub mark_text : Bool → List ℕ
mark_text true = codes "1"
mark_text false = codes "0"
