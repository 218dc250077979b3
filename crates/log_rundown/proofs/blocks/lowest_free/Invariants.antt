use Rattle.std.proofs.Common.{◌≡◌, ◌-◌, find}
use Rattle.std.specs.List.{range_with_len}
use Rattle.pager_policy.specs.WriteCluster.{is_free_block}
use Rattle.shadow_pager.specs.Shown.{shown}
use Rattle.log_rundown.proofs.blocks.lowest_free.Given as goal

-- no block before this one is free
abbrev pub invariant-loop-n : goal.invariant-loop-n
invariant-loop-n l =
    find (is_free_block l.config (shown l.pager).pager) (range_with_len 0 l.config.pagefile)
    ≡ find (is_free_block l.config (shown l.pager).pager) (range_with_len l.n (l.config.pagefile - l.n))
