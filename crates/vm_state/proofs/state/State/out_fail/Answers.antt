use Rattle.std.proofs.Common.{false, sym, ◌∙◌}
use Rattle.frame_store.specs.declared.lift.Carried.TheVariants.{Bad}
use Rattle.vm_state.proofs.LandingRoles as landing
use Rattle.vm_state.proofs.state.State.out_fail.Goals as goal

pub out_fail_counted-requires-after_bounds : goal.out_fail_counted-requires-after_bounds
out_fail_counted-requires-after_bounds g c κs within = landing.may_end g.B.Block.seen g.B.Block.tells c.args.self.now c.args.seat c.args.lift false (Bad c.in-Bad.before c.in-Bad.after) c.requires.may c.requires.fits c.requires.pool c.requires.write (sym c.result.ensures ∙ c.in-Bad.is)
