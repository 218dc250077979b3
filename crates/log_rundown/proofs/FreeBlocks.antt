-- The free blocks of the page file.
use Rattle.std.proofs.Common.{◌≡◌, ℕ, ◌+◌, ◌≤◌, ◌&&◌, Bool, Some, None, count_by, nat_eq, if◌then◌else◌, sym, ap, arith}
use Rattle.std.proofs.lemmas.Bool.{le-ltb}
use Rattle.vm_types.specs.declared.config.Config.{Config}
use Rattle.vm_types.specs.declared.names.BlockId.TheVariants as block
use Rattle.pager_model.specs.Lookups.{is_owner}
use Rattle.pager_model.specs.Pager.{Pager}
use Rattle.pager_policy.specs.WriteCluster.{new_block}

-- none is behind the last block
pub none_after : (config : Config) (a : Pager) (n : ℕ) → config.pagefile ≤ n → None ≡ new_block config a (Some (block.PageFile n))
none_after config a n least =
    ap (λ (b : Bool). if b && nat_eq (count_by (is_owner (block.PageFile (n + 1))) a.assigned) 0 then (Some (block.PageFile (n + 1))) else None)
    (sym (le-ltb (n + 1) config.pagefile (omega (arith, least))))
