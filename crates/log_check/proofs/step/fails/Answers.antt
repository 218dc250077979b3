use Rattle.std.proofs.Common.{IsNone, arith, inl, refl}
use Rattle.shadow_pager.specs.Shown.{shown}
use Rattle.log_check.proofs.Entries.{entry_fails, entry_legal}
use Rattle.log_check.proofs.Follows.{follows_flat}
use Rattle.log_check.proofs.step.fails.Goals as goal

pub what_fails-requires-clause-frames : goal.what_fails-requires-clause-frames
what_fails-requires-clause-frames c =
    let same = c.requires.follows.tables.frames in
    let few = c.requires.follows.tables.formed.frames.1 in
    omega (arith, same, few)

pub what_fails-requires-clause-flat : goal.what_fails-requires-clause-flat
what_fails-requires-clause-flat c =
    follows_flat c.args.past.now.config c.args.past.now.past (shown c.args.pager.now) c.requires.follows
    c.flat_machine_follows.ensures.maps c.flat_machine_follows.ensures.touched c.runs_are_of_configuration.ensures.state

pub returns-in-Some-clause-said : goal.returns-in-Some-clause-said
returns-in-Some-clause-said c = inl c.in-Some.ensures.said

pub returns-clause-legal : goal.returns-clause-legal
returns-clause-legal c =
    entry_legal c.args.past.now.config c.args.past.now.past (shown c.args.pager.now).pager c.args.e (IsNone c.what_fails.result)
    c.requires.line (c.in_default.ensures.legal.0 refl) c.what_fails.ensures.legal

pub returns-clause-said : goal.returns-clause-said
returns-clause-said c =
    entry_fails c.args.past.now.config c.args.past.now.past (shown c.args.pager.now).pager c.args.e c.what_fails.result c.what_fails.ensures.said
