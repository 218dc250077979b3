use Rattle.pager_laws.proofs.OfConfigKept.{run_right}
use Rattle.call_laws.proofs.TurnsLegal.{comer_legal, coming_legal, victim_legal}
use Rattle.call_laws.proofs.laws.turns_are_legal.Goals as goal

pub returns-clause-victim : goal.returns-clause-victim
returns-clause-victim c = λ config past seat but q may found. victim_legal config past seat may but q found

pub returns-clause-gone : goal.returns-clause-gone
returns-clause-gone c = λ config past seat p may process gone none. coming_legal config past seat may p process gone none (run_right config past may.formed may.run).absent

pub returns-clause-comer : goal.returns-clause-comer
returns-clause-comer c = λ config past seat q may found idle. comer_legal config past seat may q found idle
