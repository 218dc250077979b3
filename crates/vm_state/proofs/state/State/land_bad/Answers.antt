use Rattle.std.proofs.Common.{◌≡◌, sym, ap, ◌∙◌, subst}
use Rattle.vm_journal.specs.declared.entry.What.{What}
use Rattle.vm_journal.specs.declared.entry.What.TheVariants as what
use Rattle.pager_model.specs.Maps.{pfn}
use Rattle.vm_state.specs.History.{MayAdd, added, entry_by}
use Rattle.vm_state.proofs.LiftLandings as landing
use Rattle.vm_state.proofs.LiftLandings.{Stands}
use Rattle.vm_state.proofs.state.State.land_bad.Goals as goal

pub in_fail-requires-clause-may : goal.in_fail-requires-clause-may
in_fail-requires-clause-may g c κs within = landing.adds_in_fail g.B.Block.seen g.B.Block.tells (c.args.self.now) (subst Stands c.self.view_is (record { formed = c.self.invariant.formed; run = c.self.invariant.run; short = c.self.invariant.short; paid = c.self.invariant.paid })) c.args.seat c.args.lift c.requires.calm c.requires.may c.args.before c.args.after c.ranges.before.fits c.ranges.after.fits (sym c.is_read.ensures ∙ c.if-is_read.true) c.requires.bad

pub reuse-requires-after_bounds : goal.reuse-requires-after_bounds
reuse-requires-after_bounds g c κs within =
    let reuse_is : what.Reuse c.frame-f.result c.page-page.result ≡ what.Reuse (pfn c.args.lift.frame) c.args.lift.page = λ i. what.Reuse (record { 0 = c.frame-f.ensures i }) (c.page-page.ensures i) in
    subst (λ (w : What). MayAdd c.in_fail.new.self (entry_by c.args.seat w)) (sym reuse_is)
    (landing.adds_reuse g.B.Block.seen g.B.Block.tells (c.args.self.now) (subst Stands c.self.view_is (record { formed = c.self.invariant.formed; run = c.self.invariant.run; short = c.self.invariant.short; paid = c.self.invariant.paid })) c.args.seat c.args.lift c.requires.calm c.requires.may c.args.before c.args.after c.ranges.before.fits c.ranges.after.fits (sym c.is_read.ensures ∙ c.if-is_read.true) c.requires.bad c.in_fail.new.self c.in_fail.ensures)

pub returns-then-is_read : goal.returns-then-is_read
returns-then-is_read g c =
    let reuse_is : what.Reuse c.frame-f.result c.page-page.result ≡ what.Reuse (pfn c.args.lift.frame) c.args.lift.page = λ i. what.Reuse (record { 0 = c.frame-f.ensures i }) (c.page-page.ensures i) in
    landing.landed_in_fail g.B.Block.seen g.B.Block.tells (c.args.self.now) (subst Stands c.self.view_is (record { formed = c.self.invariant.formed; run = c.self.invariant.run; short = c.self.invariant.short; paid = c.self.invariant.paid })) c.args.seat c.args.lift c.requires.calm c.requires.may c.args.before c.args.after c.ranges.before.fits c.ranges.after.fits (sym c.is_read.ensures ∙ c.if-is_read.true) c.requires.bad c.in_fail.new.self c.reuse.new.self c.in_fail.ensures
    (c.reuse.ensures ∙ ap (λ (w : What). added c.in_fail.new.self (entry_by c.args.seat w)) reuse_is)

pub out_fail-requires-clause-may : goal.out_fail-requires-clause-may
out_fail-requires-clause-may g c κs within = landing.adds_out_fail g.B.Block.seen g.B.Block.tells (c.args.self.now) (subst Stands c.self.view_is (record { formed = c.self.invariant.formed; run = c.self.invariant.run; short = c.self.invariant.short; paid = c.self.invariant.paid })) c.args.seat c.args.lift c.requires.calm c.requires.may c.args.before c.args.after c.ranges.before.fits c.ranges.after.fits (sym c.is_read.ensures ∙ c.if-is_read.false) c.requires.bad

pub returns : goal.returns
returns g c = landing.landed_out_fail g.B.Block.seen g.B.Block.tells (c.args.self.now) (subst Stands c.self.view_is (record { formed = c.self.invariant.formed; run = c.self.invariant.run; short = c.self.invariant.short; paid = c.self.invariant.paid })) c.args.seat c.args.lift c.requires.calm c.requires.may c.args.before c.args.after c.ranges.before.fits c.ranges.after.fits (sym c.is_read.ensures ∙ c.if-is_read.false) c.requires.bad c.out_fail.new.self c.out_fail.ensures
