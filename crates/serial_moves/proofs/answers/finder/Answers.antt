use Rattle.std.proofs.Common.{true, None, refl, sym, ◌∙◌}
use Rattle.pager_policy.specs.Moves.{asking, control, freeing}
use Rattle.pager_policy.specs.Policy.{asking_move, ends_part}
use Rattle.vm_state.specs.History.{pager}
use Rattle.serial_moves.proofs.AfterAnswers.{asks_on, finds_on}
use Rattle.serial_moves.proofs.answers.finder.Goals as goal

pub returns-then-is_short-clause-move_is : goal.returns-then-is_short-clause-move_is
returns-then-is_short-clause-move_is g c seat is =
    finds_on c.args.state.now.config c.args.state.now.past (pager c.args.state.now) c.args.begun (c.args.p).0 None seat refl is (sym c.is_short.ensures ∙ c.if-is_short.true)
    ∙ c.who_finds.ensures.move_is seat (ends_part (control asking)) (freeing true (c.args.p).0) (asking_move c.args.state.now.config c.args.state.now.past (pager c.args.state.now) None)

pub returns-else-is_short-clause-move_is : goal.returns-else-is_short-clause-move_is
returns-else-is_short-clause-move_is g c seat is =
    asks_on c.args.state.now.config c.args.state.now.past (pager c.args.state.now) c.args.begun (c.args.p).0 None refl (sym c.is_short.ensures ∙ c.if-is_short.false)
