use Rattle.std.proofs.Common.{length, ap, arith}
use Rattle.study_command.proofs.Answering.{pages_few}
use Rattle.study_command.proofs.answers.answers_of.Goals as goal

pub of-requires : goal.of-requires
of-requires c =
    omega (arith, ap length c.in_ok-pages.ensures, pages_few (c.args.study.process).0 c.args.config.now.body, c.requires.few)
