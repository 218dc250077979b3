-- What of a dump can be printed: pages of 16 processes at most, and slots whose pages have an address of 32 bits.
-- This project's own.
use Rattle.std.specs.Prelude.{◌^◌, ◌<◌, ◌≤◌, All, Some, length}
use Rattle.vm_types.specs.declared.limits.TheConstants.{MOST_EXTENT, MOST_PROCESSES}
use Rattle.vm_types.specs.declared.names.Page.{Page}
use Rattle.dump_bytes.specs.declared.dump.FrameRec.{FrameRec}
use Rattle.dump_bytes.specs.declared.dump.ProcRec.{ProcRec}
use Rattle.dump_bytes.specs.declared.dump.SlotRec.{SlotRec}
use Rattle.dump_bytes.specs.Bounds.{IsDumpedPage}

abbrev pub IsDumpPage : Page → Type 0
IsDumpPage page = IsDumpedPage MOST_PROCESSES (Some page)

pub record IsPrintableFrame (row : FrameRec) : Type 0 where
  pub page : IsDumpedPage MOST_PROCESSES row.page

abbrev pub IsPrintableSlot : SlotRec → Type 0
IsPrintableSlot slot = slot.vpn < 2 ^ 22

pub record IsPrintableProcess (p : ProcRec) : Type 0 where
  pub few : length p.slots.items ≤ MOST_EXTENT
  pub slots : All IsPrintableSlot p.slots.items
