use Rattle.std.proofs.Common.{true, sym, ◌∙◌}
use Rattle.frame_store.specs.declared.lift.Carried.TheVariants.{Bad}
use Rattle.vm_state.proofs.LandingRoles as landing
use Rattle.vm_state.proofs.state.State.in_fail.Goals as goal

pub in_fail_counted-requires-after_bounds : goal.in_fail_counted-requires-after_bounds
in_fail_counted-requires-after_bounds g c κs within = landing.may_end g.B.Block.seen g.B.Block.tells c.args.self.now c.args.seat c.args.lift true (Bad c.in-Bad.before c.in-Bad.after) c.requires.may c.requires.fits c.requires.pool c.requires.read (sym c.result.ensures ∙ c.in-Bad.is)
