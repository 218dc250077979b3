-- What may be known of a block: of some types of block it is, of others it isn't. Source: this
-- project's own.
use Rattle.std.specs.Prelude.{ℕ, ◌≡◌, List, length, Bool, true, false, Option, Some, None}
use Rattle.vm_types.specs.declared.limits.TheConstants.{PAGE_BYTES}

-- these numbers, where they are known
abbrev pub told : Bool → List ℕ → Option (List ℕ)
told true numbers = Some numbers
told false numbers = None

-- any 512 bytes, where they are known
abbrev pub IsAnyContent : Bool → Option (List ℕ) → Type 0
IsAnyContent tells content = (bytes : List ℕ) × (length bytes ≡ PAGE_BYTES) × (content ≡ told tells bytes)
