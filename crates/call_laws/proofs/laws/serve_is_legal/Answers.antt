use Rattle.call_laws.proofs.ServeLegal.{serve_legal}
use Rattle.call_laws.proofs.laws.serve_is_legal.Goals as goal

pub returns : goal.returns
returns c = λ config past p s ready allowed formed. serve_legal config past p ready s allowed formed
