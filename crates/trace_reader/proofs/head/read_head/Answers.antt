use Rattle.std.proofs.Common.{refl, sym, subst, lit≤}
use Rattle.trace_reader.specs.Drafts.{IsDraft}
use Rattle.trace_reader.proofs.Drafting.{start_draft}
use Rattle.trace_reader.proofs.HeadReads.{told_first}
use Rattle.trace_reader.proofs.head.read_head.Goals as goal

pub front-init : goal.front-init
front-init g c = record {
  same_reference = refl;
  reading = record { seen = c.new.ensures.seen; draft = subst IsDraft (sym c.new.ensures.part) start_draft; few = lit≤ tt };
  told = told_first _ c.new.result.part 1 c.new.ensures.part refl;
  still_told = λ h. h;
  faults = refl;
}
