use Rattle.std.proofs.Common.{rules, tests, ◌∙◌}
use Rattle.std.proofs.lemmas.Iterator.{YieldsList-from_slice}
use Rattle.std.proofs.lemmas.Iterator.Search.{find_from_yields_List}
use Rattle.pager_model.specs.Transfers.{starts}
use Rattle.shadow_history.proofs.open.find_start.Goals as goal

pub returns : goal.returns
returns c =
    c.copied.ensures ∙ find_from_yields_List (starts c.args.k) _ _ c.find.result c.find.ensures.ran (YieldsList-from_slice c.args.flights.now cc) (λ x b q k. search (rules, tests))
