use Rattle.std.proofs.Common.{ap, ◌∙◌, arith, List, ℕ}
use Rattle.std.proofs.lemmas.List.{take_all}
use Rattle.std.proofs.lemmas.List.FromFn.{fill_by_all}
use Rattle.pfn_database.specs.Rows.{bad_row}
use Rattle.pfn_database.specs.Frames.{opening_row}
use Rattle.pfn_database.specs.Kept.{kept_of}
use Rattle.pfn_database.proofs.opening.opening_frames.Goals as goal

pub returns : goal.returns
returns c =
    let all = take_all c.loop-frame.frame-index c.args.bad.now (omega arith) in
    fill_by_all (λ f. kept_of (opening_row c.args.bad.now f)) _ c.args.frames (kept_of bad_row) c.loop-frame.invariant.long
    (λ k within. c.loop-frame.invariant.kept k within ∙ ap (λ (bad : List ℕ). kept_of (opening_row bad k)) all)
