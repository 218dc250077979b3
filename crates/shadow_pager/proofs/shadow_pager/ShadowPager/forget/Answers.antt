use Rattle.std.proofs.Common.{ap, ◌∙◌}
use Rattle.std.proofs.lemmas.Result.{on_ok_weaker}
use Rattle.shadow_pager.specs.Forgetting.{emptied, erased}
use Rattle.shadow_pager.specs.Shown.{Shown, shown, with_pager}
use Rattle.shadow_pager.proofs.shadow_pager.ShadowPager.forget.Goals as goal

pub returns : goal.returns
returns c =
    let s = shown c.args.self.now in
    on_ok_weaker c.erase.result
    (λ h config same. h
    ∙ (ap (λ (t : Shown). with_pager t (erased t.pager c.args.page)) c.in_ok-empty.ensures
    ∙ ap (λ o. with_pager s (erased (emptied s.pager o) c.args.page)) (c.holder-f.ensures.holds config same)))
    c.erase.ensures
