-- The last carriers of the seats, as a list by seat. This project's own.
use Rattle.std.specs.Prelude.{◌≡◌, ℕ, ◌<◌, List, Some, length, slice_get}
use Rattle.vm_journal.specs.declared.entry.Entry.{Entry}
use Rattle.pager_model.specs.Carrier.{Carrying, carrying}

-- it has counted no further than this
pub record HasSmallCounts (most : ℕ) (c : Carrying) : Type 0 where
  pub begun : c.begun < most
  pub landed : c.landed < most
  pub failed : c.failed < most

-- the last carriers of the first n seats after a past
pub record AreCarriers (past : List Entry) (n : ℕ) (rows : List Carrying) : Type 0 where
  pub count : length rows ≡ n
  pub each : (seat : ℕ) → seat < n → slice_get rows seat ≡ Some (carrying seat past)
