use Rattle.std.proofs.Common.{ap, refl, subst}
use Rattle.command_calls.proofs.Calling.{said_by}
use Rattle.replay_cli.specs.Commands.{Asks, obeyed}
use Rattle.replay_cli.specs.declared.words.Command.TheVariants.{Serial, Replay, Study, Make, Check, Dump, Show}
use Rattle.replay_cli.proofs.Obeying.{replay_call}
use Rattle.replay_cli.proofs.cli.run_alone.Goals as goal

pub returns-in-Serial-clause-call : goal.returns-in-Serial-clause-call
returns-in-Serial-clause-call g c = λ words asks. said_by _ (λ n text told. obeyed Serial n text (subst (Asks words) c.in-Serial.is asks) refl told) c.serial.ensures.call

pub returns-in-Study-clause-call : goal.returns-in-Study-clause-call
returns-in-Study-clause-call g c = λ words asks. said_by _ (λ n text told. obeyed (Study c.in-Study.study) n text (subst (Asks words) c.in-Study.is asks) refl (told, ap g.D.Depot.seen c.study_trace.ensures.no_block)) c.study_trace.ensures.call

pub returns-in-Make-clause-call : goal.returns-in-Make-clause-call
returns-in-Make-clause-call g c = λ words asks. said_by _ (λ n text told. obeyed (Make c.in-Make.make) n text (subst (Asks words) c.in-Make.is asks) refl (told, ap g.S.Source.seen c.run_make.ensures.no_read)) c.run_make.ensures.call

pub returns-in-Check-clause-call : goal.returns-in-Check-clause-call
returns-in-Check-clause-call g c = λ words asks. said_by _ (λ n text told. obeyed Check n text (subst (Asks words) c.in-Check.is asks) refl (told, ap g.D.Depot.seen c.check.ensures.no_block)) c.check.ensures.call

pub returns-in-Dump-clause-call : goal.returns-in-Dump-clause-call
returns-in-Dump-clause-call g c = λ words asks. said_by _ (λ n text told. obeyed Dump n text (subst (Asks words) c.in-Dump.is asks) refl told) c.dump.ensures.call

pub returns-in-Show-clause-call : goal.returns-in-Show-clause-call
returns-in-Show-clause-call g c = λ words asks. said_by _ (λ n text told. obeyed Show n text (subst (Asks words) c.in-Show.is asks) refl (told, ap g.D.Depot.seen c.show_dump.ensures.no_block)) c.show_dump.ensures.call

pub returns-in-Replay-clause-call : goal.returns-in-Replay-clause-call
returns-in-Replay-clause-call g c = λ words asks. replay_call (subst (Asks words) c.in-Replay.is asks) c.end_with.ensures

pub returns-in-Show-clause-kept : goal.returns-in-Show-clause-kept
returns-in-Show-clause-kept g c = c.show_dump.ensures.kept _ _
