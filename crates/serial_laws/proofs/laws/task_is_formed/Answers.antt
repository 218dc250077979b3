use Rattle.serial_laws.proofs.Walks.{task_formed}
use Rattle.serial_laws.proofs.laws.task_is_formed.Goals as goal

pub returns : goal.returns
returns c = task_formed
