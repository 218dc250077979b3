-- What a sink keeps is the last of what it has taken. Source: this project's own.
use Rattle.std.specs.Prelude.{◌≡◌, ℕ, List, [], ◌++◌, None, Some, IfSome, refl}
use Rattle.std.specs.declared.option.Option.{Option}
use Rattle.std.specs.Io.KnownBytes.{append_known}
use Rattle.std.proofs.Common.{append-nil, sym}

-- if the bytes taken are known, they end with those that are kept
abbrev pub IsLast : List ℕ → Option (List ℕ) → Type 0
IsLast kept taken = IfSome taken (λ bytes. (handed_on : List ℕ) × (bytes ≡ handed_on ++ kept))

-- a sink with a buffer has taken what its writer holds, and then what is kept
pub kept_is_last_known : (handed_on : Option (List ℕ)) (kept : List ℕ) → IsLast kept (append_known handed_on kept)
kept_is_last_known None kept = tt
kept_is_last_known (Some bytes) kept = (bytes, refl)

-- a sink without a buffer keeps nothing
pub all_is_handed_on : (bytes : List ℕ) → IsLast [] (Some bytes)
all_is_handed_on bytes = (bytes, sym (append-nil bytes))
