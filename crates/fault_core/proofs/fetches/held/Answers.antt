use Rattle.fault_core.proofs.Comes.{came_back, frame_held, frame_out, gives_back, held_within, may_answer_back}
use Rattle.fault_core.proofs.Firsts.{is_out}
use Rattle.fault_core.proofs.Steps.{gives_as, seeks_as}
use Rattle.fault_core.proofs.fetches.held.Goals as goal

pub frame-row-requires-after_bounds : goal.frame-row-requires-after_bounds
frame-row-requires-after_bounds g c κs within =
    held_within c.args.state.now c.args.x c.in-Some.f (frame_held c.args.state.now c.args.x c.requires.sought c.in-Some.f c.in-Some.is) c.requires.refers.ready

pub back-requires-after_bounds : goal.back-requires-after_bounds
back-requires-after_bounds g c κs within =
    came_back c.args.state.now c.args.x c.in-Some.f (frame_held c.args.state.now c.args.x c.requires.sought c.in-Some.f c.in-Some.is) c.frame-row.result c.frame-row.ensures c.page_start-start.result c.page_start-start.ensures c.requires.refers.may

pub done-requires-after_bounds : goal.done-requires-after_bounds
done-requires-after_bounds g c κs within =
    may_answer_back c.args.state.now c.args.x c.in-Some.f (frame_held c.args.state.now c.args.x c.requires.sought c.in-Some.f c.in-Some.is) c.frame-row.result c.frame-row.ensures c.page_start-start.result c.page_start-start.ensures c.back.new.self c.requires.refers.may c.back.ensures

pub returns-in-Some : goal.returns-in-Some
returns-in-Some g c =
    gives_back c.args.state.now c.args.x c.in-Some.f (frame_held c.args.state.now c.args.x c.requires.sought c.in-Some.f c.in-Some.is) c.frame-row.result c.frame-row.ensures c.page_start-start.result c.page_start-start.ensures c.back.new.self c.back.ensures _ c.done.result _ c.done.ensures.added c.done.ensures.right

pub fetch-requires-clause-out : goal.fetch-requires-clause-out
fetch-requires-clause-out g c κs within = frame_out c.args.state.now c.args.x c.requires.sought c.in-None.is

pub fetch-requires-clause-seeks : goal.fetch-requires-clause-seeks
fetch-requires-clause-seeks g c κs within = seeks_as _ _ (is_out c.args.state.now c.args.x (frame_out c.args.state.now c.args.x c.requires.sought c.in-None.is)) c.requires

pub returns-in-None : goal.returns-in-None
returns-in-None g c = gives_as _ _ (is_out c.args.state.now c.args.x (frame_out c.args.state.now c.args.x c.requires.sought c.in-None.is)) c.fetch.ensures
