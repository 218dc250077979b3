use Rattle.std.proofs.Common.{refl, subst, sym}
use Rattle.vm_types.specs.WellFormed.{IsRequestOf, IsWellFormedRequest}
use Rattle.vm_types.specs.declared.service.Request.{Request}
use Rattle.serial_moves.proofs.AskedMoves.{asked_coming, asked_gone, asked_leaving, asked_service, is_coming_there}
use Rattle.serial_moves.proofs.SteadySeats.{goes_as, here_as, leads_as}
use Rattle.serial_moves.proofs.requests.by_status.Goals as goal

-- ---- it is resident
pub serve-requires-clause-formed : goal.serve-requires-clause-formed
serve-requires-clause-formed g c κs within = subst (λ (x : Request). IsWellFormedRequest x) c.in-Service.is c.requires.may.formed

pub serve-requires-clause-known : goal.serve-requires-clause-known
serve-requires-clause-known g c κs within = subst (λ (x : Request). IsRequestOf c.args.state.now.config.version x) c.in-Service.is c.requires.may.known

pub serve-requires-clause-here : goal.serve-requires-clause-here
serve-requires-clause-here g c κs within = here_as c.args.state.now _ _ (asked_service c.args.state.now (c.args.task.proc).0 (c.args.task.proc).0 refl c.args.task.request c.in-Service.s c.in-Resident.ensures c.in-Service.is) c.requires.may.here

pub returns-in-Service-clause-moved : goal.returns-in-Service-clause-moved
returns-in-Service-clause-moved g c =
    leads_as g.B.Block.tells.content c.args.state.now c.serve.new.state _ _ c.serve.result (asked_service c.args.state.now (c.args.task.proc).0 (c.args.task.proc).0 refl c.args.task.request c.in-Service.s c.in-Resident.ensures c.in-Service.is) c.serve.ensures.moved

-- ---- it is leaving
pub leave-requires-clause-leaving : goal.leave-requires-clause-leaving
leave-requires-clause-leaving g c κs within = sym c.in-Leaving.ensures

pub leave-requires-clause-here : goal.leave-requires-clause-here
leave-requires-clause-here g c κs within = here_as c.args.state.now _ _ (asked_leaving c.args.state.now (c.args.task.proc).0 (c.args.task.proc).0 refl c.args.task.request c.in-Leaving.ensures) c.requires.may.here

pub returns-in-Leaving-clause-moved : goal.returns-in-Leaving-clause-moved
returns-in-Leaving-clause-moved g c = leads_as g.B.Block.tells.content c.args.state.now c.leave.new.state _ _ c.leave.result (asked_leaving c.args.state.now (c.args.task.proc).0 (c.args.task.proc).0 refl c.args.task.request c.in-Leaving.ensures) c.leave.ensures.moved

-- ---- it is gone
pub gone-requires-clause-here : goal.gone-requires-clause-here
gone-requires-clause-here g c κs within = here_as c.args.state.now _ _ (asked_gone c.args.state.now (c.args.task.proc).0 (c.args.task.proc).0 refl c.args.task.request c.in-Gone.ensures) c.requires.may.here

pub returns-in-Gone-clause-moved : goal.returns-in-Gone-clause-moved
returns-in-Gone-clause-moved g c = goes_as g.B.Block.tells.content c.args.state.now c.gone.new.state _ _ c.gone.result (asked_gone c.args.state.now (c.args.task.proc).0 (c.args.task.proc).0 refl c.args.task.request c.in-Gone.ensures) c.gone.ensures

-- ---- it is coming
pub come-requires-clause-coming : goal.come-requires-clause-coming
come-requires-clause-coming g c κs within = is_coming_there c.args.state.now (c.args.task.proc).0 (c.args.task.proc).0 refl c.args.task.request c.in-Coming.ensures

pub come-requires-clause-here : goal.come-requires-clause-here
come-requires-clause-here g c κs within = here_as c.args.state.now _ _ (asked_coming c.args.state.now (c.args.task.proc).0 (c.args.task.proc).0 refl c.args.task.request c.in-Coming.ensures) c.requires.may.here

pub returns-in-Coming-clause-moved : goal.returns-in-Coming-clause-moved
returns-in-Coming-clause-moved g c = leads_as g.B.Block.tells.content c.args.state.now c.come.new.state _ _ c.come.result (asked_coming c.args.state.now (c.args.task.proc).0 (c.args.task.proc).0 refl c.args.task.request c.in-Coming.ensures) c.come.ensures.moved

-- ---- a reference of a resident process isn't here
pub unreachable-requires : goal.unreachable-requires
unreachable-requires g c = c.requires.rare (sym c.in-Resident.ensures) c.in-Reference.field-0 c.in-Reference.is
