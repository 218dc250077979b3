use Rattle.std.proofs.Common.{ℕ, true, Some, slice_index_or, ap, ◌∙◌, subst, arith}
use Rattle.frame_store.specs.declared.lift.Carried.TheVariants.{Good}
use Rattle.vm_journal.specs.declared.entry.Role.TheVariants as role
use Rattle.vm_state.specs.History.{History}
use Rattle.vm_state.specs.ReadRoles.{IsReadAs}
use Rattle.vm_state.proofs.Closing.{may_before}
use Rattle.vm_state.proofs.LandingRoles as landing
use Rattle.vm_state.proofs.ReadLands.{fits_before}
use Rattle.vm_state.proofs.state.State.in_ok.Goals as goal

pub index-requires : goal.index-requires
index-requires g c = let less = landing.frame_there c.self.invariant c.args.seat c.args.lift (may_before c.self.view_is c.requires.may).legal (fits_before g.B.Block.seen g.B.Block.tells c.args.lift c.self.view_is c.requires.fits) c.requires.read c.requires.good in omega (arith, less, c.frame.ensures, c.self.inside.roles.ok.0)

pub unwrap-role-requires : goal.unwrap-role-requires
unwrap-role-requires g c = landing.role_there c.self.invariant c.args.seat c.args.lift (may_before c.self.view_is c.requires.may).legal (fits_before g.B.Block.seen g.B.Block.tells c.args.lift c.self.view_is c.requires.fits) c.requires.read c.requires.good c.index.result.now (c.index.ensures ∙ ap (λ (f : ℕ). slice_index_or c.self.inside.roles.items f c.index.result.now) c.frame.ensures)

pub in_ok_fault-requires-after_bounds : goal.in_ok_fault-requires-after_bounds
in_ok_fault-requires-after_bounds g c κs within = record { well = landing.may_end g.B.Block.seen g.B.Block.tells c.args.self.now c.args.seat c.args.lift true Good c.requires.may c.requires.fits c.requires.pool c.requires.read c.requires.good; role = subst (λ (s : History). IsReadAs s.past c.args.lift.start (role.Fault c.in-Fault.q c.in-Fault.a)) c.self.view_is (landing.role_as c.self.invariant c.args.seat c.args.lift (may_before c.self.view_is c.requires.may).legal (fits_before g.B.Block.seen g.B.Block.tells c.args.lift c.self.view_is c.requires.fits) c.requires.read c.requires.good c.index.result.now (c.index.ensures ∙ ap (λ (f : ℕ). slice_index_or c.self.inside.roles.items f c.index.result.now) c.frame.ensures) (role.Fault c.in-Fault.q c.in-Fault.a) (c.unwrap-role.ensures ∙ ap Some c.in-Fault.is)) }

pub in_ok_near-requires-after_bounds : goal.in_ok_near-requires-after_bounds
in_ok_near-requires-after_bounds g c κs within = (c.in-Near.field-0, record { well = landing.may_end g.B.Block.seen g.B.Block.tells c.args.self.now c.args.seat c.args.lift true Good c.requires.may c.requires.fits c.requires.pool c.requires.read c.requires.good; role = subst (λ (s : History). IsReadAs s.past c.args.lift.start (role.Near c.in-Near.field-0)) c.self.view_is (landing.role_as c.self.invariant c.args.seat c.args.lift (may_before c.self.view_is c.requires.may).legal (fits_before g.B.Block.seen g.B.Block.tells c.args.lift c.self.view_is c.requires.fits) c.requires.read c.requires.good c.index.result.now (c.index.ensures ∙ ap (λ (f : ℕ). slice_index_or c.self.inside.roles.items f c.index.result.now) c.frame.ensures) (role.Near c.in-Near.field-0) (c.unwrap-role.ensures ∙ ap Some c.in-Near.is)) })

pub in_ok_come-requires-after_bounds : goal.in_ok_come-requires-after_bounds
in_ok_come-requires-after_bounds g c κs within = record { well = landing.may_end g.B.Block.seen g.B.Block.tells c.args.self.now c.args.seat c.args.lift true Good c.requires.may c.requires.fits c.requires.pool c.requires.read c.requires.good; role = subst (λ (s : History). IsReadAs s.past c.args.lift.start (role.Come c.in-Come.q c.in-Come.a)) c.self.view_is (landing.role_as c.self.invariant c.args.seat c.args.lift (may_before c.self.view_is c.requires.may).legal (fits_before g.B.Block.seen g.B.Block.tells c.args.lift c.self.view_is c.requires.fits) c.requires.read c.requires.good c.index.result.now (c.index.ensures ∙ ap (λ (f : ℕ). slice_index_or c.self.inside.roles.items f c.index.result.now) c.frame.ensures) (role.Come c.in-Come.q c.in-Come.a) (c.unwrap-role.ensures ∙ ap Some c.in-Come.is)) }
