-- Locked and pinned pages, by the mark that they have. This project's own.
use Rattle.std.specs.Prelude.{ℕ, Bool, true, Option}
use Rattle.vm_types.specs.Ring.{Ring, Held}
use Rattle.pager_model.specs.Ring.{range_locked, range_pinned}
use Rattle.pager_model.specs.Served.{is_locked_in, is_pinned_in}
use Rattle.row_requests.specs.declared.locking.Mark.{Mark}
use Rattle.row_requests.specs.declared.locking.Mark.TheVariants as mark

-- the ring with the pages of the range marked
abbrev pub range_marked : Mark → ℕ → ℕ → Ring → Ring
range_marked mark.Lock address pages ring = range_locked true address pages ring
range_marked mark.Pin address pages ring = range_pinned true address pages ring

-- whether the slot has a page of the range with the mark
abbrev pub is_marked_in : Mark → ℕ → ℕ → Option Held → Bool
is_marked_in mark.Lock address pages slot = is_locked_in address pages slot
is_marked_in mark.Pin address pages slot = is_pinned_in address pages slot
