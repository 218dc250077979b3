use Rattle.std.proofs.Common.{false}
use Rattle.frame_store.specs.declared.lift.Carried.TheVariants.{Good}
use Rattle.vm_state.proofs.LandingRoles as landing
use Rattle.vm_state.proofs.state.State.out_ok.Goals as goal

pub out_ok_well-requires-after_bounds : goal.out_ok_well-requires-after_bounds
out_ok_well-requires-after_bounds g c κs within = landing.may_end g.B.Block.seen g.B.Block.tells c.args.self.now c.args.seat c.args.lift false Good c.requires.may c.requires.fits c.requires.pool c.requires.write c.requires.good
