use Rattle.serial_laws.proofs.AloneInMemory.{alone_finds_a_page}
use Rattle.serial_laws.proofs.refusals.alone_finds_a_page.Goals as goal

pub returns : goal.returns
returns c = alone_finds_a_page
