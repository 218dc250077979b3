use Rattle.std.proofs.Common.{inl, refl, arith}
use Rattle.std.proofs.Math.Nat.{le_trans}
use Rattle.vm_types.proofs.Versions.{requests_at_most}
use Rattle.study_command.proofs.Answering.{lru_few, study_text}
use Rattle.paging_study.specs.PageString.{page_string}
use Rattle.study_command.proofs.command.study_config.Goals as goal

pub answers_of-requires-clause-few : goal.answers_of-requires-clause-few
answers_of-requires-clause-few g c = le_trans c.requires.formed.few_tasks (requests_at_most c.args.config.now.version)

pub end_answers-requires : goal.end_answers-requires
end_answers-requires g c =
    omega (arith, lru_few (page_string (c.args.study.process).0 c.args.config.now.body) c.in-Ok.answers.lru.items c.args.study.frames c.in-Ok.ensures.lru, c.requires.frames.1)

pub returns-in-Ok : goal.returns-in-Ok
returns-in-Ok g c =
    inl (record {
      status = 0;
      text = _;
      outcome = inl refl;
      answers = (refl, study_text c.args.study c.args.config.now c.in-Ok.answers c.in-Ok.ensures);
      ends = c.end_answers.ensures;
    })
