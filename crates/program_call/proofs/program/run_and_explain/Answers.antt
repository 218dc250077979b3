use Rattle.std.proofs.Common.{length, take, subst, sym, ◌∙◌, inl, inr, arith}
use Rattle.std.proofs.KnownBytes.{Appends-kept}
use Rattle.std.specs.Prelude.{◌⊎◌}
use Rattle.std.specs.Io.KnownBytes.{Appends}
use Rattle.vm_types.specs.Counts.{Rose}
use Rattle.vm_types.specs.Moved.{moved}
use Rattle.command_ends.specs.Wrongs.{IsWrong}
use Rattle.program_call.specs.ProgramTells.{ProgramTells}
use Rattle.program_call.proofs.Telling.{whole_but_kept}
use Rattle.program_call.proofs.program.run_and_explain.Goals as goal

pub returns-clause-run : goal.returns-clause-run
returns-clause-run g c =
    let call = c.run_words-told.ensures.call in
    let end = c.finish-status.ensures in
    record {
      told = λ no_four.
          let run = end.run no_four in
          let told = call.told (λ four. no_four (run.0 ∙ four)) in
          (told.0, subst (λ status. ProgramTells (g.A.Arguments.left c.args.arguments.now) (moved (g.S.Source.seen c.args.ends.now.source) (g.S.Source.seen c.run_words-told.new.ends.source)) (moved (g.D.Depot.seen c.args.ends.now.depot) (g.D.Depot.seen c.run_words-told.new.ends.depot)) status told.0) (sym run.0) told.1, Appends-kept _ _ _ told.0 told.2 end.bytes);
      handed_on = λ no_four. (end.run no_four).1;
      unfailed = λ no_four.
          let run = end.run no_four in
          let quiet = call.unfailed (λ four. no_four (run.0 ∙ four)) in
          (run.2 ∙ quiet.0, end.stalls ∙ quiet.1);
      failed = λ four.
          elim (end.unwritten four) [
            | inl cut_short ↦
                let cut = call.cut cut_short in
                let still = sym (end.still cut_short) in (
                  cut.0,
                  (cut.1.0, (cut.1.1.0, cut.1.1.1, omega (arith, cut.1.1.2), subst (λ sink. Appends (g.K.Sink.seen c.args.ends.now.output).taken (g.K.Sink.seen sink).taken (take cut.1.1.0 cut.1.0)) still cut.1.1.3)),
                  subst (λ sink. Rose (g.K.Sink.seen c.args.ends.now.output).failures (g.K.Sink.seen sink).failures ⊎ Rose (g.K.Sink.seen c.args.ends.now.output).stalls (g.K.Sink.seen sink).stalls) still (call.write_fault cut_short),
                )
            | inr kept ↦
                let told = call.told kept.0 in
                let whole = whole_but_kept _ _ _ told.0 told.2 end.bytes in (
                  _,
                  (told.0, (length told.0, told.1, whole.0, whole.1)),
                  inl (subst (λ count. Rose count (g.K.Sink.seen c.finish-status.new.output).failures) (call.unfailed kept.0).0 kept.1),
                )
          ];
    }

pub returns-clause-message : goal.returns-clause-message
returns-clause-message g c =
    let told = c.run_words-told in
    let end = c.finish-status.ensures in
    record {
      wrong = told.result.1;
      line = told.result.2;
      text = told.new.kept.items;
      says = λ no_four.
          let run = end.run no_four in
          let said = told.ensures.wrong (λ four. no_four (run.0 ∙ four)) in
          (said.0, subst (λ status. IsWrong told.result.1 status said.0) (sym run.0) said.1, Appends-kept _ _ _ said.0 said.2 end.bytes);
      quotes = told.ensures.kept;
      told = λ one. told.ensures.line (sym (end.run (λ four. absurd (omega (arith, one, four)))).0 ∙ one);
      said = c.explain.ensures;
    }
