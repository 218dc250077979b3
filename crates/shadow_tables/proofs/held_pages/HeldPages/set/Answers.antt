use Rattle.std.proofs.Common.{None, Some, Option, sym, ap, ◌∙◌, slice_set}
use Rattle.std.proofs.lemmas.List.{set-set}
use Rattle.std.proofs.lemmas.Result.{on_ok_weaker}
use Rattle.shadow_tables.proofs.held_pages.HeldPages.set.Goals as goal

pub returns-in-Some-clause-ok : goal.returns-in-Some-clause-ok
returns-in-Some-clause-ok c =
    on_ok_weaker c.fill.result
    (λ is. is ∙ (ap (λ xs. slice_set xs c.args.f (Some c.in-Some.page)) c.in_ok-clear.ensures.ok
    ∙ (set-set c.args.self.now c.args.f None (Some c.in-Some.page) ∙ ap (slice_set c.args.self.now c.args.f) (sym c.in-Some.is))))
    c.fill.ensures.ok
