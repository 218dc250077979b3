-- That each input has one answer. Source: this project's own.
use Rattle.std.specs.Prelude.{◌≡◌, ◌⊎◌, ℕ, List}
use Rattle.dump_bytes.specs.Dumped.{Dumped}
use Rattle.dump_bytes.specs.Begins.{IsTextOf, IsBadAfter}

-- bytes are one dump's text, or bad after one number of bytes, and never both
pub record EachHasOneAnswer : Type 0 where
  pub some : (bytes : List ℕ) → ((d : Dumped) × IsTextOf bytes d) ⊎ ((n : ℕ) × IsBadAfter bytes n)
  pub one_dump : (bytes : List ℕ) (d e : Dumped) → IsTextOf bytes d → IsTextOf bytes e → d ≡ e
  pub one_place : (bytes : List ℕ) (m n : ℕ) → IsBadAfter bytes m → IsBadAfter bytes n → m ≡ n
  pub not_both : (bytes : List ℕ) (d : Dumped) (n : ℕ) → IsTextOf bytes d → ¬ IsBadAfter bytes n
