use Rattle.content_laws.proofs.ContentStays.{read_begins, write_begins}
use Rattle.content_laws.proofs.laws.begun_fits.Goals as goal

pub returns-clause-reads : goal.returns-clause-reads
returns-clause-reads c = read_begins

pub returns-clause-writes : goal.returns-clause-writes
returns-clause-writes c = write_begins
