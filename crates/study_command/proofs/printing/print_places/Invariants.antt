use Rattle.std.proofs.Common.{drop}
use Rattle.outside_io.proofs.WritesInTurn.{Progress}
use Rattle.study_command.specs.StudyText.{place_lines}
use Rattle.study_command.proofs.printing.print_places.Given as goal

abbrev pub invariant-loop-place : goal.invariant-loop-place
invariant-loop-place g l =
    Progress (g.K.Sink.seen l.initial.sink)
    (g.K.Sink.seen l.sink)
    (place_lines l.word l.places) (place_lines l.word (drop l.place-index l.places))
