use Rattle.content_laws.proofs.ContentStays.{content_stays}
use Rattle.content_laws.proofs.OpeningContent.{opening_content}
use Rattle.content_laws.proofs.laws.content_stays.Goals as goal

pub returns-clause-opening : goal.returns-clause-opening
returns-clause-opening c = opening_content

pub returns-clause-entries : goal.returns-clause-entries
returns-clause-entries c = content_stays
