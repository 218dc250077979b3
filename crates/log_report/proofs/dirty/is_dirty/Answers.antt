use Rattle.std.proofs.Common.{ℕ, Bool, ◌&&◌, ◌∙◌, sym, arith}
use Rattle.vm_types.specs.declared.names.Page.{Page}
use Rattle.pager_model.specs.Forget.{holds_page}
use Rattle.pager_model.specs.Pager.{Pager}
use Rattle.shadow_pager.specs.Shown.{shown}
use Rattle.log_report.proofs.DirtyFound.{none_found, none_more, one_found}
use Rattle.log_report.proofs.dirty.is_dirty.Goals as goal

abbrev holds : Pager → Page → ℕ → Bool
holds a page f = holds_page page (a.page f) && a.modify f

pub loop-f-init : goal.loop-f-init
loop-f-init c = λ f below. absurd (omega (arith, below))

pub loop-f-preserved : goal.loop-f-preserved
loop-f-preserved c =
    none_more (holds (shown c.args.pager.now).pager c.args.page) c.loop-f.f c.loop-f.invariant (sym c.is_dirty_in.ensures ∙ c.if-is_dirty_in.false)

pub returns-then-is_dirty_in : goal.returns-then-is_dirty_in
returns-then-is_dirty_in c =
    sym (one_found (holds (shown c.args.pager.now).pager c.args.page) 0 c.args.config.now.frames c.loop-f.f (omega arith) (omega (arith, c.loop-f-test.true))
    (sym c.is_dirty_in.ensures ∙ c.if-is_dirty_in.true))

pub returns : goal.returns
returns c =
    sym (none_found (holds (shown c.args.pager.now).pager c.args.page) 0 c.args.config.now.frames
    (λ f low high. c.loop-f.invariant f (omega (arith, high, c.loop-f-test.false))))
