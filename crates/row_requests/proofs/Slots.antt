-- What a slot holds, if it is there, and of which process it is.
use Rattle.std.proofs.Common.{◌≡◌, ℕ, ◌<◌, length, Option, Some, None, sym, ap, ◌∙◌}
use Rattle.std.proofs.lemmas.Option.{none-some, slice_get_within}
use Rattle.vm_types.specs.Ring.{Held}
use Rattle.vm_types.specs.Configuration.{IsBlock}
use Rattle.vm_types.specs.declared.config.Config.{Config}
use Rattle.vm_types.specs.declared.names.BlockId.TheVariants as block
use Rattle.vm_types.specs.declared.names.Proc.{Proc}
use Rattle.pager_model.specs.Lookups.{slot_of}

pub held_there : (o : Option (Option Held)) (held : Held) → slot_of o ≡ Some held → o ≡ Some (Some held)
held_there None held is = absurd (none-some held is)
held_there (Some slot) held is = ap Some is

pub none_there : (o : Option (Option Held)) (held : Held) → slot_of o ≡ None → o ≡ Some (Some held) → ⊥
none_there o held none is = none-some held (sym none ∙ ap slot_of is)

-- a swap block of the configuration is of one of its processes
pub swap_process : (config : Config) (p : Proc) (n : ℕ) → IsBlock config (block.Swap p n) → p.0 < length config.procs
swap_process config p n is = slice_get_within config.procs p.0 is.0 is.1
