use Rattle.pager_laws.proofs.CarriersBalance.{carriers_balance}
use Rattle.pager_laws.proofs.laws.carriers_balance.Goals as goal

pub returns : goal.returns
returns c = carriers_balance
