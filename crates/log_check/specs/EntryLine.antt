-- The entry whose line it is. This project's own.
use Rattle.std.specs.Prelude.{◌≡◌, ◌<◌, ◌^◌, ℕ, List, Option, Some, None}
use Rattle.vm_types.specs.declared.config.Config.{Config}
use Rattle.vm_journal.specs.declared.entry.Entry.{Entry}
pub use Rattle.log_reasons.specs.LineReasons.{IsItsLine}
use Rattle.log_reasons.specs.declared.line_reason.LineReason.{LineReason}
use Rattle.log_reasons.specs.declared.line_reason.LineReason.TheVariants as why

-- it is an entry's, or no entry's of this number
abbrev pub IsEntryOf : Config → ℕ → List ℕ → Option Entry → Type 0
IsEntryOf config number line (Some e) = IsItsLine config number line e
IsEntryOf config number line None = (e : Entry) → IsItsLine config number line e → ⊥

-- why it is no entry's of this number: it is no entry's, or another number's
abbrev pub IsNoEntry : Config → ℕ → List ℕ → LineReason → Type 0
IsNoEntry config number line why.NoEntry = (n : ℕ) (e : Entry) → n < 2 ^ 64 → IsItsLine config n line e → ⊥
IsNoEntry config number line (why.NotNextNumber right) = (n : ℕ) × (e : Entry) × IsItsLine config n line e × (right ≡ number) × (n ≡ right → ⊥)
IsNoEntry config number line other = ⊥
