-- Where a process stands with the swapper, as tests that compute. Source: Kenah and Bate, "VAX/VMS Internals and
-- Data Structures", the swapper.
use Rattle.std.specs.Prelude.{Bool, true, false}
use Rattle.vm_types.specs.declared.names.ProcStatus.{ProcStatus}
use Rattle.vm_types.specs.declared.names.ProcStatus.TheVariants as status

abbrev pub is_resident : ProcStatus → Bool
is_resident status.Resident = true
is_resident other = false

abbrev pub is_coming : ProcStatus → Bool
is_coming status.Coming = true
is_coming other = false

abbrev pub is_leaving : ProcStatus → Bool
is_leaving status.Leaving = true
is_leaving other = false
