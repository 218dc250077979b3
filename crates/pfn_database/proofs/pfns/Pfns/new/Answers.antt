use Rattle.std.proofs.Common.{ℕ, ap, ◌∙◌, arith, length}
use Rattle.std.proofs.lemmas.List.{length-replicate}
use Rattle.pfn_database.proofs.OpeningLists.{opening-is, IsConsistent-made, length-made}
use Rattle.pfn_database.proofs.pfns.Pfns.new.Goals as goal

pub invariant_of-result : goal.invariant_of-result
invariant_of-result c =
    let long = length-made c.args.frames c.args.bad.now _ _ c.in_ok-kept.ensures c.list_free.ensures.cells in
    record {
      consistent = IsConsistent-made c.args.frames c.args.bad.now _ _ c.in_ok-kept.ensures c.list_free.ensures.cells _ _ c.list_free.ensures.free c.list_free.ensures.modified;
      frames = c.list_free.ensures.frames;
      cells = ap length c.list_free.ensures.cells ∙ length-replicate {A = ℕ × ℕ} _ (0, 0);
      short = omega (arith, long, c.ranges.frames);
    }

pub returns-in-Ok-clause-frames : goal.returns-in-Ok-clause-frames
returns-in-Ok-clause-frames c = opening-is c.args.frames c.args.bad.now _ _ c.in_ok-kept.ensures c.list_free.ensures.cells _ _ c.list_free.ensures.free c.list_free.ensures.modified

pub returns-in-Ok-clause-consistent : goal.returns-in-Ok-clause-consistent
returns-in-Ok-clause-consistent c = (invariant_of-result c).consistent
