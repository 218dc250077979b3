-- Why a run did not end, by why a block was not made. This project's own.
use Rattle.disk_trait.specs.declared.depot.MakeFault.{MakeFault}
use Rattle.disk_trait.specs.declared.depot.MakeFault.TheVariants as make
use Rattle.serial_run.specs.declared.finished.RunFault.{RunFault}
use Rattle.serial_run.specs.declared.finished.RunFault.TheVariants.{DepotFault, NoMemory}

abbrev pub run_fault : MakeFault → RunFault
run_fault make.NoMemory = NoMemory
run_fault make.Failed = DepotFault
