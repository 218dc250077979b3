use Rattle.std.proofs.Common.{Some, ap, subst, sym}
use Rattle.vm_types.specs.WellFormed.{IsRequestOf, IsWellFormedRequest}
use Rattle.vm_types.specs.declared.service.Request.{Request}
use Rattle.vm_state.specs.Based.{base_of}
use Rattle.seat_steps.specs.Turns.{HasStepped}
use Rattle.seat_turns.specs.Begun.{IsBegunFor}
use Rattle.seat_turns.specs.Steps.{HasTurned, is_reads, seat_of, swapper_seat, writer_seat}
use Rattle.vm_actors.specs.Doings.{request_of}
use Rattle.vm_actors.proofs.DoneInTurns.{asking_begun, asking_may, begun_asking, begun_idle, out_at, rested_asking, rested_swapping, rested_writing, stepped_asking, stepped_idle, swapping_may, turned_asking, turned_idle, writing_may}
use Rattle.vm_actors.proofs.StillBegun.{begun_service, service_begun}
use Rattle.vm_actors.proofs.stepping.do_in_turn.Goals as goal

pub refer_in_turn-requires-clause-process : goal.refer_in_turn-requires-clause-process
refer_in_turn-requires-clause-process g c κs within = (asking_may c.args._seat c.args.doing c.in-Asking.p c.in-Asking.x c.in-Asking.is (c.args.state.now).config c.requires.may).1.process

pub refer_in_turn-requires-clause-formed : goal.refer_in_turn-requires-clause-formed
refer_in_turn-requires-clause-formed g c κs within = subst IsWellFormedRequest c.in-Reference.is (asking_may c.args._seat c.args.doing c.in-Asking.p c.in-Asking.x c.in-Asking.is (c.args.state.now).config c.requires.may).1.formed

pub refer_in_turn-requires-clause-out : goal.refer_in_turn-requires-clause-out
refer_in_turn-requires-clause-out g c κs within =
    out_at (base_of c.args.state.now) (c.args.state.now).past c.args._seat (seat_of c.in-Asking.p) c.args.carrier.now (asking_may c.args._seat c.args.doing c.in-Asking.p c.in-Asking.x c.in-Asking.is (c.args.state.now).config c.requires.may).0 c.requires.out

pub refer_in_turn-requires-clause-begun : goal.refer_in_turn-requires-clause-begun
refer_in_turn-requires-clause-begun g c κs within =
    λ some. subst (λ (x : Request). IsBegunFor (c.args.state.now).past (c.in-Asking.p).0 x c.args.reading) c.in-Reference.is
    (asking_begun c.args._seat c.args.doing c.in-Asking.p c.in-Asking.x c.in-Asking.is (c.args.state.now).past c.args.reading (asking_may c.args._seat c.args.doing c.in-Asking.p c.in-Asking.x c.in-Asking.is (c.args.state.now).config c.requires.may).0 (c.requires.begun some))

pub returns-in-Reference-clause-turned : goal.returns-in-Reference-clause-turned
returns-in-Reference-clause-turned g c =
    turned_asking c.args._seat c.args.doing c.in-Asking.p c.in-Asking.x c.in-Asking.is c.args.state.now c.refer_in_turn.new.state c.refer_in_turn.result c.refer_in_turn.new.carrier (asking_may c.args._seat c.args.doing c.in-Asking.p c.in-Asking.x c.in-Asking.is (c.args.state.now).config c.requires.may).0
    (subst (λ (x : Request). HasTurned g.B.Block.seen g.B.Block.tells c.args.state.now c.refer_in_turn.new.state (seat_of c.in-Asking.p) (Some x) c.refer_in_turn.result c.refer_in_turn.new.carrier) (sym c.in-Reference.is) c.refer_in_turn.ensures.turned)

pub returns-in-Reference-clause-step : goal.returns-in-Reference-clause-step
returns-in-Reference-clause-step g c =
    stepped_asking c.args._seat c.args.doing c.in-Asking.p c.in-Asking.x c.in-Asking.is (c.args.state.now).config (c.args.state.now).past (c.refer_in_turn.new.state).past (asking_may c.args._seat c.args.doing c.in-Asking.p c.in-Asking.x c.in-Asking.is (c.args.state.now).config c.requires.may).0
    (subst (λ (x : Request). HasStepped (c.args.state.now).config (c.args.state.now).past (c.refer_in_turn.new.state).past (c.in-Asking.p).0 (Some x)) (sym c.in-Reference.is) c.refer_in_turn.ensures.step)

pub returns-in-Reference-clause-begun : goal.returns-in-Reference-clause-begun
returns-in-Reference-clause-begun g c =
    λ some. begun_asking c.args._seat c.args.doing c.in-Asking.p c.in-Asking.x c.in-Asking.is (c.refer_in_turn.new.state).past (is_reads c.refer_in_turn.result) (asking_may c.args._seat c.args.doing c.in-Asking.p c.in-Asking.x c.in-Asking.is (c.args.state.now).config c.requires.may).0
    (subst (λ (x : Request). IsBegunFor (c.refer_in_turn.new.state).past (c.in-Asking.p).0 x (is_reads c.refer_in_turn.result)) (sym c.in-Reference.is) (c.refer_in_turn.ensures.begun some))

pub returns-in-Reference-clause-rests : goal.returns-in-Reference-clause-rests
returns-in-Reference-clause-rests g c = λ rests. rested_asking c.args._seat c.args.doing c.in-Asking.p c.in-Asking.x c.in-Asking.is _ _ _

pub serve_in_turn-requires-clause-process : goal.serve_in_turn-requires-clause-process
serve_in_turn-requires-clause-process g c κs within = (asking_may c.args._seat c.args.doing c.in-Asking.p c.in-Asking.x c.in-Asking.is (c.args.state.now).config c.requires.may).1.process

pub serve_in_turn-requires-clause-formed : goal.serve_in_turn-requires-clause-formed
serve_in_turn-requires-clause-formed g c κs within = subst IsWellFormedRequest c.in-Service.is (asking_may c.args._seat c.args.doing c.in-Asking.p c.in-Asking.x c.in-Asking.is (c.args.state.now).config c.requires.may).1.formed

pub serve_in_turn-requires-clause-known : goal.serve_in_turn-requires-clause-known
serve_in_turn-requires-clause-known g c κs within = subst (IsRequestOf (c.args.state.now).config.version) c.in-Service.is (asking_may c.args._seat c.args.doing c.in-Asking.p c.in-Asking.x c.in-Asking.is (c.args.state.now).config c.requires.may).1.known

pub serve_in_turn-requires-clause-out : goal.serve_in_turn-requires-clause-out
serve_in_turn-requires-clause-out g c κs within =
    out_at (base_of c.args.state.now) (c.args.state.now).past c.args._seat (seat_of c.in-Asking.p) c.args.carrier.now (asking_may c.args._seat c.args.doing c.in-Asking.p c.in-Asking.x c.in-Asking.is (c.args.state.now).config c.requires.may).0 c.requires.out

pub serve_in_turn-requires-clause-begun : goal.serve_in_turn-requires-clause-begun
serve_in_turn-requires-clause-begun g c κs within =
    λ some. service_begun (c.args.state.now).past (c.in-Asking.p).0 c.in-Service.s c.args.reading
    (subst (λ (x : Request). IsBegunFor (c.args.state.now).past (c.in-Asking.p).0 x c.args.reading) c.in-Service.is
    (asking_begun c.args._seat c.args.doing c.in-Asking.p c.in-Asking.x c.in-Asking.is (c.args.state.now).past c.args.reading (asking_may c.args._seat c.args.doing c.in-Asking.p c.in-Asking.x c.in-Asking.is (c.args.state.now).config c.requires.may).0 (c.requires.begun some)))

pub returns-in-Service-clause-turned : goal.returns-in-Service-clause-turned
returns-in-Service-clause-turned g c =
    turned_asking c.args._seat c.args.doing c.in-Asking.p c.in-Asking.x c.in-Asking.is c.args.state.now c.serve_in_turn.new.state c.serve_in_turn.result c.serve_in_turn.new.carrier (asking_may c.args._seat c.args.doing c.in-Asking.p c.in-Asking.x c.in-Asking.is (c.args.state.now).config c.requires.may).0
    (subst (λ (x : Request). HasTurned g.B.Block.seen g.B.Block.tells c.args.state.now c.serve_in_turn.new.state (seat_of c.in-Asking.p) (Some x) c.serve_in_turn.result c.serve_in_turn.new.carrier) (sym c.in-Service.is) c.serve_in_turn.ensures.turned)

pub returns-in-Service-clause-step : goal.returns-in-Service-clause-step
returns-in-Service-clause-step g c =
    stepped_asking c.args._seat c.args.doing c.in-Asking.p c.in-Asking.x c.in-Asking.is (c.args.state.now).config (c.args.state.now).past (c.serve_in_turn.new.state).past (asking_may c.args._seat c.args.doing c.in-Asking.p c.in-Asking.x c.in-Asking.is (c.args.state.now).config c.requires.may).0
    (subst (λ (x : Request). HasStepped (c.args.state.now).config (c.args.state.now).past (c.serve_in_turn.new.state).past (c.in-Asking.p).0 (Some x)) (sym c.in-Service.is) c.serve_in_turn.ensures.step)

pub returns-in-Service-clause-begun : goal.returns-in-Service-clause-begun
returns-in-Service-clause-begun g c =
    λ some. begun_asking c.args._seat c.args.doing c.in-Asking.p c.in-Asking.x c.in-Asking.is (c.serve_in_turn.new.state).past (is_reads c.serve_in_turn.result) (asking_may c.args._seat c.args.doing c.in-Asking.p c.in-Asking.x c.in-Asking.is (c.args.state.now).config c.requires.may).0
    (subst (λ (x : Request). IsBegunFor (c.serve_in_turn.new.state).past (c.in-Asking.p).0 x (is_reads c.serve_in_turn.result)) (sym c.in-Service.is)
    (begun_service (c.serve_in_turn.new.state).past (c.in-Asking.p).0 c.in-Service.s (is_reads c.serve_in_turn.result) (c.serve_in_turn.ensures.begun some)))

pub returns-in-Service-clause-rests : goal.returns-in-Service-clause-rests
returns-in-Service-clause-rests g c = λ rests. rested_asking c.args._seat c.args.doing c.in-Asking.p c.in-Asking.x c.in-Asking.is _ _ _

pub write_in_turn-requires-clause-out : goal.write_in_turn-requires-clause-out
write_in_turn-requires-clause-out g c κs within =
    out_at (base_of c.args.state.now) (c.args.state.now).past c.args._seat (writer_seat (c.args.state.now).config) c.args.carrier.now (writing_may c.args._seat c.args.doing (c.args.state.now).config c.in-Writing.is c.requires.may) c.requires.out

pub returns-in-Writing-clause-turned : goal.returns-in-Writing-clause-turned
returns-in-Writing-clause-turned g c =
    turned_idle c.args._seat c.args.doing c.args.state.now c.write_in_turn.new.state (writer_seat (c.args.state.now).config) c.write_in_turn.result c.write_in_turn.new.carrier (ap request_of (sym c.in-Writing.is)) (writing_may c.args._seat c.args.doing (c.args.state.now).config c.in-Writing.is c.requires.may) c.write_in_turn.ensures.turned

pub returns-in-Writing-clause-step : goal.returns-in-Writing-clause-step
returns-in-Writing-clause-step g c =
    stepped_idle c.args._seat c.args.doing (c.args.state.now).config (c.args.state.now).past (c.write_in_turn.new.state).past (writer_seat (c.args.state.now).config) (ap request_of (sym c.in-Writing.is)) (writing_may c.args._seat c.args.doing (c.args.state.now).config c.in-Writing.is c.requires.may) c.write_in_turn.ensures.step

pub returns-in-Writing-clause-begun : goal.returns-in-Writing-clause-begun
returns-in-Writing-clause-begun g c = λ some. begun_idle c.args._seat c.args.doing _ _ (ap request_of c.in-Writing.is)

pub returns-in-Writing-clause-rests : goal.returns-in-Writing-clause-rests
returns-in-Writing-clause-rests g c = λ rests. rested_writing c.args._seat c.args.doing _ _ _ c.in-Writing.is (c.write_in_turn.ensures.rests rests).1

pub swap_in_turn-requires-clause-out : goal.swap_in_turn-requires-clause-out
swap_in_turn-requires-clause-out g c κs within =
    out_at (base_of c.args.state.now) (c.args.state.now).past c.args._seat (swapper_seat (c.args.state.now).config) c.args.carrier.now (swapping_may c.args._seat c.args.doing (c.args.state.now).config c.in-Swapping.is c.requires.may) c.requires.out

pub returns-in-Swapping-clause-turned : goal.returns-in-Swapping-clause-turned
returns-in-Swapping-clause-turned g c =
    turned_idle c.args._seat c.args.doing c.args.state.now c.swap_in_turn.new.state (swapper_seat (c.args.state.now).config) c.swap_in_turn.result c.swap_in_turn.new.carrier (ap request_of (sym c.in-Swapping.is)) (swapping_may c.args._seat c.args.doing (c.args.state.now).config c.in-Swapping.is c.requires.may) c.swap_in_turn.ensures.turned

pub returns-in-Swapping-clause-step : goal.returns-in-Swapping-clause-step
returns-in-Swapping-clause-step g c =
    stepped_idle c.args._seat c.args.doing (c.args.state.now).config (c.args.state.now).past (c.swap_in_turn.new.state).past (swapper_seat (c.args.state.now).config) (ap request_of (sym c.in-Swapping.is)) (swapping_may c.args._seat c.args.doing (c.args.state.now).config c.in-Swapping.is c.requires.may) c.swap_in_turn.ensures.step

pub returns-in-Swapping-clause-begun : goal.returns-in-Swapping-clause-begun
returns-in-Swapping-clause-begun g c = λ some. begun_idle c.args._seat c.args.doing _ _ (ap request_of c.in-Swapping.is)

pub returns-in-Swapping-clause-rests : goal.returns-in-Swapping-clause-rests
returns-in-Swapping-clause-rests g c = λ rests. rested_swapping c.args._seat c.args.doing _ _ _ c.in-Swapping.is (c.swap_in_turn.ensures.rests rests).1
