use Rattle.content_laws.proofs.CarriedFits.{bad_is_counted, carried_badly, carried_well}
use Rattle.content_laws.proofs.laws.carried_fits.Goals as goal
use Rattle.pager_model.specs.Run.{pager_after}

pub returns-clause-well : goal.returns-clause-well
returns-clause-well c tells tells_plan config past lift bytes told fits waits carried = carried_well tells tells_plan config past (pager_after config past) lift fits waits bytes told carried

pub returns-clause-badly : goal.returns-clause-badly
returns-clause-badly c tells tells_plan config past lift bytes told fits waits carried = carried_badly tells tells_plan config past (pager_after config past) lift fits waits bytes told carried

pub returns-clause-counted : goal.returns-clause-counted
returns-clause-counted c tells tells_plan config past lift = bad_is_counted tells tells_plan config past (pager_after config past) lift
