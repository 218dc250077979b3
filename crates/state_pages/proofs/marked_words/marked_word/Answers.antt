use Rattle.std.proofs.Common.{ap}
use Rattle.state_pages.specs.Shown.{frame_by}
use Rattle.state_pages.proofs.marked_words.marked_word.Goals as goal

pub row-modify-requires : goal.row-modify-requires
row-modify-requires c = c.requires.frame c.in-Valid.frame.0 (ap frame_by c.in-Valid.is)
