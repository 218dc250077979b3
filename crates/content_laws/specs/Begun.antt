-- The lift of a transfer that has just begun: its own number, the page in its frame, and the block that was home,
-- whose call is still to come. This project's own.
use Rattle.std.specs.Prelude.{ℕ, true, false, ◌+◌, List, length}
use Rattle.vm_types.specs.BlockView.{BlockView}
use Rattle.vm_types.specs.declared.names.Page.{Page}
use Rattle.vm_types.specs.declared.names.BlockId.{BlockId}
use Rattle.vm_journal.specs.declared.entry.Entry.{Entry}
use Rattle.pager_model.specs.Fits.{Lift, waiting}

-- a read into the frame, whose buffer has any bytes
abbrev pub read_lift : List Entry → ℕ → BlockId → Page → List ℕ → BlockView → Lift
read_lift past f b page bytes seen = record { start = length past + 1; page = page; frame = f; block = b; is_read = true; buffer = bytes; seen = seen; result = waiting }

-- a write of the bytes in the frame's buffer
abbrev pub write_lift : List Entry → ℕ → BlockId → Page → List ℕ → BlockView → Lift
write_lift past f b page bytes seen = record { start = length past + 1; page = page; frame = f; block = b; is_read = false; buffer = bytes; seen = seen; result = waiting }
