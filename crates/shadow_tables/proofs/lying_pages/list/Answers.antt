use Rattle.std.proofs.Common.{List, false, subst, sym, true}
use Rattle.vm_types.specs.declared.names.Page.{Page}
use Rattle.shadow_tables.specs.Lying.{AreListed}
use Rattle.shadow_tables.specs.PageTables.{item_of}
use Rattle.shadow_tables.proofs.Swapped.{here_told, listed_told, others_told}
use Rattle.shadow_tables.proofs.lying_pages.list.Goals as goal

pub returns-then-set-clause-within : goal.returns-then-set-clause-within
returns-then-set-clause-within c = λ all.
    subst (λ (pages : List Page). AreListed (item_of c.set.new.self) pages) (sym c.in_ok-push.ensures.items) (listed_told _ _ _ _ true c.if-set.ensures all)

pub returns-then-set-clause-others : goal.returns-then-set-clause-others
returns-then-set-clause-others c = others_told _ _ c.args.page true c.if-set.ensures

pub returns-then-set-clause-listed : goal.returns-then-set-clause-listed
returns-then-set-clause-listed c = λ there. here_told _ _ _ c.if-set.ensures

pub returns-else-set-clause-within : goal.returns-else-set-clause-within
returns-else-set-clause-within c = λ all.
    subst (λ (pages : List Page). AreListed (item_of c.set.new.self) pages) (sym c.in_ok-push.ensures.items) (listed_told _ _ _ _ false c.if-set.ensures all)

pub returns-else-set-clause-others : goal.returns-else-set-clause-others
returns-else-set-clause-others c = others_told _ _ c.args.page false c.if-set.ensures
