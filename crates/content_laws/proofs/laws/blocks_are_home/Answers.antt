use Rattle.content_laws.proofs.EndContent.{blocks_home, blocks_written_back, nowhere_uncharged}
use Rattle.content_laws.proofs.laws.blocks_are_home.Goals as goal

pub returns-clause-home : goal.returns-clause-home
returns-clause-home c = blocks_home

pub returns-clause-bytes : goal.returns-clause-bytes
returns-clause-bytes c = blocks_written_back

pub returns-clause-nowhere : goal.returns-clause-nowhere
returns-clause-nowhere c = nowhere_uncharged
