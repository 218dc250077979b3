-- Landings by their way: of a read, or else of a write. This project's own.
use Rattle.std.specs.Prelude.{ℕ, Bool, true, false, List}
use Rattle.vm_journal.specs.declared.entry.Entry.{Entry}
use Rattle.pager_model.specs.InFail.{IsInFail}
use Rattle.pager_model.specs.InOk.{IsInOk}
use Rattle.pager_model.specs.OutLanding.{IsOutFail, IsOutOk}

-- INOK and OUTOK
abbrev pub IsGoodLanding : Bool → List Entry → ℕ → ℕ → ℕ → Type 0
IsGoodLanding true past seat f k = IsInOk past seat f k
IsGoodLanding false past seat f k = IsOutOk past seat f k

-- INFAIL and OUTFAIL
abbrev pub IsBadLanding : Bool → List Entry → ℕ → ℕ → ℕ → ℕ → ℕ → Type 0
IsBadLanding true past seat f k c d = IsInFail past seat f k c d
IsBadLanding false past seat f k c d = IsOutFail past seat f k c d
