use Rattle.std.proofs.Common.{sym}
use Rattle.pfn_database.proofs.pfns.cells_at.Goals as goal

-- a frame on a list has cells of zeros
pub returns-in-Some : goal.returns-in-Some
returns-in-Some c = sym (c.on.ensures.valid.zeros _ c.args.f c.in-Some.ensures.on)
