use Rattle.content_laws.proofs.ContentStays.{done_is_right}
use Rattle.content_laws.proofs.laws.done_is_right.Goals as goal

pub returns : goal.returns
returns c = done_is_right
