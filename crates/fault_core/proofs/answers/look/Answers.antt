use Rattle.std.proofs.Common.{sym, ◌∙◌}
use Rattle.fault_core.proofs.Comes.{page_known}
use Rattle.fault_core.proofs.Firsts.{denies, mapped_to, may_deny}
use Rattle.fault_core.proofs.Steps.{refused}
use Rattle.fault_core.proofs.answers.look.Goals as goal

pub denied-requires-after_bounds : goal.denied-requires-after_bounds
denied-requires-after_bounds g c κs within = may_deny c.args.state.now c.args.seat c.args.r c.in-Some.why c.in-Some.ensures.value c.requires.may

pub returns-in-Some : goal.returns-in-Some
returns-in-Some g c = refused c.args.state.now _ c.args.seat c.args.r c.in-Some.why _ _ (denies c.args.state.now c.args.seat c.args.r c.in-Some.why c.in-Some.ensures.value) c.in-Some.ensures.value c.denied.ensures

pub backing-backing-requires-after_bounds : goal.backing-backing-requires-after_bounds
backing-backing-requires-after_bounds g c κs within =
    page_known c.args.state.now c.args.seat c.args.r c.requires.ready (c.unwrap-found.result).page
    (mapped_to c.args.state.now c.args.seat c.args.r c.unwrap-found.result (sym c.unwrap-found.ensures ∙ c.found-there.ensures)).0
