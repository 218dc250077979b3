use Rattle.std.proofs.Common.{sym, ◌∙◌, subst}
use Rattle.vm_state.proofs.LiftLandings as landing
use Rattle.vm_state.proofs.LiftLandings.{Stands}
use Rattle.vm_state.proofs.state.State.land_good.Goals as goal

pub in_ok-requires-clause-may : goal.in_ok-requires-clause-may
in_ok-requires-clause-may g c κs within = landing.adds_in_ok g.B.Block.seen g.B.Block.tells (c.args.self.now) (subst Stands c.self.view_is (record { formed = c.self.invariant.formed; run = c.self.invariant.run; short = c.self.invariant.short; paid = c.self.invariant.paid })) c.args.seat c.args.lift c.requires.calm c.requires.may (sym c.is_read.ensures ∙ c.if-is_read.true) c.requires.good

pub returns-then-is_read : goal.returns-then-is_read
returns-then-is_read g c = landing.landed_in_ok g.B.Block.seen g.B.Block.tells (c.args.self.now) (subst Stands c.self.view_is (record { formed = c.self.invariant.formed; run = c.self.invariant.run; short = c.self.invariant.short; paid = c.self.invariant.paid })) c.args.seat c.args.lift c.requires.calm c.requires.may (sym c.is_read.ensures ∙ c.if-is_read.true) c.requires.good c.in_ok.new.self c.in_ok.ensures

pub out_ok-requires-clause-may : goal.out_ok-requires-clause-may
out_ok-requires-clause-may g c κs within = landing.adds_out_ok g.B.Block.seen g.B.Block.tells (c.args.self.now) (subst Stands c.self.view_is (record { formed = c.self.invariant.formed; run = c.self.invariant.run; short = c.self.invariant.short; paid = c.self.invariant.paid })) c.args.seat c.args.lift c.requires.calm c.requires.may (sym c.is_read.ensures ∙ c.if-is_read.false) c.requires.good

pub returns : goal.returns
returns g c = landing.landed_out_ok g.B.Block.seen g.B.Block.tells (c.args.self.now) (subst Stands c.self.view_is (record { formed = c.self.invariant.formed; run = c.self.invariant.run; short = c.self.invariant.short; paid = c.self.invariant.paid })) c.args.seat c.args.lift c.requires.calm c.requires.may (sym c.is_read.ensures ∙ c.if-is_read.false) c.requires.good c.out_ok.new.self c.out_ok.ensures
