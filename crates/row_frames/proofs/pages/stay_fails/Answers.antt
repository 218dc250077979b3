use Rattle.row_frames.proofs.pages.stay_fails.Goals as goal

pub returns-in-Some-clause-said : goal.returns-in-Some-clause-said
returns-in-Some-clause-said c = c.in-Some.ensures.stays c.args.back.from
