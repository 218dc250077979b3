use Rattle.std.proofs.Common.{IsNone, refl}
use Rattle.shadow_pager.specs.Shown.{shown}
use Rattle.row_frames.proofs.ComingBack.{coming_back}
use Rattle.row_frames.proofs.pages.back_coming_fails.Goals as goal

pub returns-clause-legal : goal.returns-clause-legal
returns-clause-legal c =
    let a = (shown c.args.pager.now).pager in
    coming_back c.args.config.now a c.args.back.process.0 c.args.back.at.0 c.args.back.frame.0 c.args.back.from (IsNone c.swapped_fails.result) c.requires (c.in_default.ensures.legal.0 refl) c.swapped_fails.ensures.legal
