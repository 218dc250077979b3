use Rattle.std.proofs.Common.{◌≡◌, ◌+◌, ◌-◌, ◌/◌}
use Rattle.std.specs.List.{range_with_len}
use Rattle.vm_types.specs.declared.limits.TheConstants.{PAGE_BYTES}
use Rattle.pager_model.specs.Forget.{forget_all, own_pages}
use Rattle.shadow_pager.specs.Shown.{shown}
use Rattle.shadow_pager.proofs.shadow_pager.ShadowPager.forget_range.Given as goal

-- what is left to forget leads to the same
abbrev pub invariant-loop-k : goal.invariant-loop-k
invariant-loop-k l =
    let config = l.fn.config in
    let maps = (shown l.initial.self).pager.map in
    record {
      frames : (shown l.self).frames ≡ (shown l.initial.self).frames;
      processes : (shown l.self).processes ≡ (shown l.initial.self).processes;
      mapped : (shown l.self).pager.map ≡ maps;
      rest : forget_all config (own_pages config maps l.fn.p.0 (range_with_len (l.fn.at.0 / PAGE_BYTES + l.k) (l.fn.pages - l.k))) (shown l.self).pager
          ≡ forget_all config (own_pages config maps l.fn.p.0 (range_with_len (l.fn.at.0 / PAGE_BYTES) l.fn.pages)) (shown l.initial.self).pager;
    }
