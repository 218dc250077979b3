use Rattle.fault_core.proofs.Firsts.{granted_answers, granted_replaces, may_answer_granted}
use Rattle.fault_core.proofs.Steps.{answered, gives_as, refers_as}
use Rattle.fault_core.proofs.answers.answer.Goals as goal

pub done-requires-after_bounds : goal.done-requires-after_bounds
done-requires-after_bounds g c κs within = may_answer_granted c.args.state.now c.args.seat c.args.r c.in-Some.valid c.in-Some.ensures c.if-valid.true c.requires.may

pub returns-then-valid : goal.returns-then-valid
returns-then-valid g c = answered c.args.state.now _ c.args.seat c.args.r c.done.result _ _ (granted_answers c.args.state.now c.args.seat c.args.r c.in-Some.valid c.in-Some.ensures c.if-valid.true) c.done.ensures.added c.done.ensures.right

pub replace-requires-after_bounds : goal.replace-requires-after_bounds
replace-requires-after_bounds g c κs within =
    refers_as _ _ (granted_replaces c.args.state.now c.args.seat c.args.r c.in-Some.valid c.in-Some.ensures c.if-valid.false (c.replaces_first.ensures c.if-replaces_first.true)) c.requires

pub returns-then-replaces_first : goal.returns-then-replaces_first
returns-then-replaces_first g c =
    gives_as _ _ (granted_replaces c.args.state.now c.args.seat c.args.r c.in-Some.valid c.in-Some.ensures c.if-valid.false (c.replaces_first.ensures c.if-replaces_first.true)) c.replace.ensures
