use Rattle.row_frames.proofs.collide.named_fails.Goals as goal

pub returns-in-Some-clause-said : goal.returns-in-Some-clause-said
returns-in-Some-clause-said c = c.in-Some.ensures.named c.args.k
