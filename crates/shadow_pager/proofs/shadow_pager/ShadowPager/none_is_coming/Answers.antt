use Rattle.std.proofs.Common.{◌≡◌, List, slice_get, sym, ap, ◌∙◌}
use Rattle.vm_types.specs.declared.names.ProcStatus.{ProcStatus}
use Rattle.vm_types.specs.declared.names.ProcStatus.TheVariants as status
use Rattle.shadow_pager.specs.Shown.{shown}
use Rattle.shadow_pager.proofs.Whole.{read_there, there_read}
use Rattle.shadow_pager.proofs.shadow_pager.ShadowPager.none_is_coming.Goals as goal

pub returns : goal.returns
unfolding shown
returns c =
    let value = c.deref.ensures.value in (
      λ none q is.
          c.none_comes.ensures.0 none q
          (ap (λ (xs : List ProcStatus). slice_get xs q) value ∙ there_read status.Resident c.args.self.now.statuses.items q status.Coming is (λ (same : status.Resident ≡ status.Coming). cc)),
      λ none. c.none_comes.ensures.1 (λ q is. none q (read_there status.Resident c.args.self.now.statuses.items q status.Coming (sym (ap (λ (xs : List ProcStatus). slice_get xs q) value) ∙ is))),
    )
