use Rattle.std.proofs.Common.{sym, subst}
use Rattle.trace_reader.specs.declared.read.Reader.{Reader}
use Rattle.trace_reader.specs.Drafts.{IsDraft}
use Rattle.trace_reader.proofs.Drafting.{read_whole}
use Rattle.trace_reader.proofs.read.Reader.end.Goals as goal
use Rattle.trace_reader.proofs.read.Reader.end.Goals.{then-not-is_empty+in_ok-take_line, else-not-is_empty}

pub returns-in-Ended-clause-well_formed : goal.returns-in-Ended-clause-well_formed
returns-in-Ended-clause-well_formed c =
    read_whole c.if-not-is_empty.self.draft.part
    (elim c.if-not-is_empty.branch [
      | then-not-is_empty+in_ok-take_line w ↦ subst (λ (r : Reader). IsDraft r.draft.part) (sym w.self-is) w.in_ok-take_line.ensures.ok.reading.draft
      | else-not-is_empty w ↦ subst (λ (r : Reader). IsDraft r.draft.part) (sym w.self-is) c.requires.draft
    ])
    c.in-Ended.is
