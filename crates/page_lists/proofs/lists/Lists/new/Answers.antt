use Rattle.std.proofs.Common.{ap, ◌∙◌, length, ℕ, arith}
use Rattle.std.proofs.lemmas.List.{length-replicate}
use Rattle.page_lists.proofs.TwoLists.{AreTwoLists-linked}
use Rattle.page_lists.proofs.Opening.{all_cells-opening, AreLinked-opening}
use Rattle.page_lists.proofs.lists.Lists.new.Goals as goal

pub invariant_of-result : goal.invariant_of-result
invariant_of-result c =
    let ahead = ap length c.in_ok-forward.ensures ∙ length-replicate {A = ℕ} c.args.frames 0 in
    let behind = ap length c.in_ok-backward.ensures ∙ length-replicate {A = ℕ} c.args.frames 0 in
    AreLinked-opening c.args.frames (omega (arith, c.ranges.frames)) _ _ _ ahead behind c.in_ok-marks.ensures

pub returns-clause-cells : goal.returns-clause-cells
returns-clause-cells c = all_cells-opening c.args.frames _ _ _ c.in_ok-forward.ensures c.in_ok-backward.ensures c.in_ok-marks.ensures

pub returns-clause-valid : goal.returns-clause-valid
returns-clause-valid c = AreTwoLists-linked _ _ _ _ _ (invariant_of-result c)
