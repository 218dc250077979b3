use Rattle.std.proofs.Common.{sym, subst}
use Rattle.std.specs.List.{AllByRecursion}
use Rattle.pager_rules.proofs.Basics.{each_weaker}
use Rattle.lift_carriers.specs.CarrierView.{CarrierView}
use Rattle.lift_carriers.specs.LiftsFit.{LiftFits}
use Rattle.vm_state.proofs.ReadLands.{fits_before}
use Rattle.vm_state.proofs.ReadsBegin.{all_and_one}
use Rattle.vm_state.proofs.state.State.begin_out.Goals as goal

pub returns-clause-fit : goal.returns-clause-fit
returns-clause-fit g c = λ all.
    subst (λ (v : CarrierView g.row.B.Denot). AllByRecursion (LiftFits g.B.Block.seen g.B.Block.tells c.lift_out-lift.new.self.config c.lift_out-lift.new.self.past) v.lifts) (sym c.take.ensures)
    (all_and_one (LiftFits g.B.Block.seen g.B.Block.tells c.lift_out-lift.new.self.config c.lift_out-lift.new.self.past) c.args.carrier.now.lifts c.lift_out-lift.result
    (each_weaker (LiftFits g.B.Block.seen g.B.Block.tells c.args.self.now.config c.args.self.now.past) (LiftFits g.B.Block.seen g.B.Block.tells c.lift_out-lift.new.self.config c.lift_out-lift.new.self.past) c.lift_out-lift.ensures.others c.args.carrier.now.lifts all)
    (fits_before g.B.Block.seen g.B.Block.tells c.lift_out-lift.result c.lift_out-lift.ensures.state c.lift_out-lift.ensures.lift.fits))
