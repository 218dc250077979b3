-- In version 1 no page may be pinned, and in the others as many as may be locked.
use Rattle.std.proofs.Common.{◌≡◌, ℕ, Bool, true, false, cond, List, [], ◌∷◌, refl, ap, ◌∙◌, arith}
use Rattle.std.specs.Prelude.{sum_by}
use Rattle.std.proofs.lemmas.List.Sums.{sum_by-cons}
use Rattle.vm_types.specs.Configuration.{all_pins, pins_of}
use Rattle.vm_types.specs.Versions.{is_first}
use Rattle.vm_types.specs.declared.config.Config.{Config}
use Rattle.vm_types.specs.declared.config.ProcSpec.{ProcSpec}
use Rattle.vm_types.specs.declared.config.Version.TheVariants as version

none_of : (specs : List ProcSpec) → sum_by (pins_of version.One) specs ≡ 0
none_of [] = refl
none_of (spec ∷ specs) = let more = sum_by-cons (pins_of version.One) spec specs in omega (arith, more, none_of specs)

pub no_pins : (config : Config) → is_first config.version ≡ true → all_pins config ≡ 0
no_pins config first = ap (λ (b : Bool). sum_by (λ (spec : ProcSpec). cond b 0 spec.locks) config.procs) first ∙ none_of config.procs

pub pins_are_locks : (config : Config) → is_first config.version ≡ false → all_pins config ≡ sum_by (λ (spec : ProcSpec). spec.locks) config.procs
pins_are_locks config later = ap (λ (b : Bool). sum_by (λ (spec : ProcSpec). cond b 0 spec.locks) config.procs) later
