use Rattle.std.proofs.Common.{◌≡◌, ◌+◌, ◌-◌, ◌/◌, ap, ap₂, arith, refl, ◌∙◌, sym}
use Rattle.std.specs.List.{range_with_len}
use Rattle.vm_types.specs.declared.limits.TheConstants.{PAGE_BYTES}
use Rattle.pager_model.specs.Forget.{forget_all, own_pages}
use Rattle.pager_model.specs.Lookups.{page_by}
use Rattle.pager_model.specs.Maps.{Map}
use Rattle.shadow_pager.specs.Shown.{Shown, shown}
use Rattle.shadow_pager.proofs.Forgotten.{forget_next, own_keeps_map}
use Rattle.shadow_pager.proofs.Ranges.{range_next}
use Rattle.shadow_pager.proofs.Same.{same_shown}
use Rattle.shadow_pager.proofs.shadow_pager.ShadowPager.forget_range.Goals as goal

pub loop-k-init : goal.loop-k-init
loop-k-init c =
    let config = c.args.config.now in
    let s = shown c.args.self.now in
    let first : c.args.at.0 / PAGE_BYTES + 0 ≡ c.args.at.0 / PAGE_BYTES = omega arith in
    let all : c.args.pages - 0 ≡ c.args.pages = omega arith in
    record {
      frames = refl;
      processes = refl;
      mapped = refl;
      rest = ap₂ (λ a n. forget_all config (own_pages config s.pager.map c.args.p.0 (range_with_len a n)) s.pager) first all;
    }

pub loop-k-preserved : goal.loop-k-preserved
loop-k-preserved c =
    let config = c.args.config.now in
    let p = c.args.p.0 in
    let first = c.args.at.0 / PAGE_BYTES in
    let k = c.loop-k.k in
    let pages = c.args.pages in
    let before = c.loop-k.invariant in
    let maps = (shown c.args.self.now).pager.map in
    let rest = range_with_len (first + (k + 1)) (pages - (k + 1)) in
    let step = c.in_ok-forget_own.ensures config (c.requires.frames ∙ sym before.frames) in
    let there = c.page_of-page.ensures ∙ ap (λ (m : Map). page_by config m p (first + k)) before.mapped in
    record {
      frames = ap (λ (t : Shown). t.frames) step ∙ before.frames;
      processes = ap (λ (t : Shown). t.processes) step ∙ before.processes;
      mapped = ap (λ (t : Shown). t.pager.map) step ∙ (own_keeps_map config (shown c.loop-k.self).pager c.page_of-page.result ∙ before.mapped);
      rest =
          ap (λ (t : Shown). forget_all config (own_pages config maps p rest) t.pager) step
          ∙ (forget_next config maps p (first + k) rest (shown c.loop-k.self).pager c.page_of-page.result there
          ∙ (ap (λ ns. forget_all config (own_pages config maps p ns) (shown c.loop-k.self).pager) (sym (range_next first k pages (omega arith))) ∙ before.rest));
    }

pub returns : goal.returns
returns c =
    let config = c.args.config.now in
    let maps = (shown c.args.self.now).pager.map in
    let past = c.loop-k.invariant in
    let none : 0 ≡ c.args.pages - c.loop-k.k = omega arith in
    same_shown (shown c.loop-k.self) (shown c.args.self.now) _ past.frames past.processes
    (ap (λ n. forget_all config (own_pages config maps c.args.p.0 (range_with_len (c.args.at.0 / PAGE_BYTES + c.loop-k.k) n)) (shown c.loop-k.self).pager) none ∙ past.rest)
