use Rattle.std.proofs.Common.{sym, ◌∙◌, eq-eqb}
use Rattle.std.proofs.lemmas.Bool.{eqb-true}
use Rattle.shadow_tables.proofs.Counted.{none_counted, none_holds}
use Rattle.shadow_tables.proofs.held_pages.HeldPages.is_out.Goals as goal

pub returns : goal.returns
returns c = (
  λ yes f is. none_holds c.args.self.now c.args.page (sym c.count.ensures ∙ eqb-true c.count.result 0 yes) f is,
  λ none. eq-eqb c.count.result 0 (c.count.ensures ∙ none_counted c.args.self.now c.args.page none),
)
