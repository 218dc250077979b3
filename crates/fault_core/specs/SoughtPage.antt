-- What is known of a page that a process refers to. This project's own.
use Rattle.std.specs.Prelude.{◌≡◌, Option, Some, None}
use Rattle.vm_types.specs.declared.names.BlockId.{BlockId}
use Rattle.vm_types.specs.declared.names.Page.{Page}
use Rattle.vm_types.specs.declared.names.Page.TheVariants.{Private, Shared}
use Rattle.pager_model.specs.Lookups.{page_by, section_at}
use Rattle.vm_state.specs.History.{History, pager}
use Rattle.vm_state.specs.PageReadings.{backing_in}
use Rattle.fault_core.specs.declared.sought.Sought.{Sought}
use Rattle.fault_core.specs.Cases.{vpn_of}

-- where it is read from first, by the section block behind it
abbrev pub first_block : Page → Option BlockId → Option BlockId
first_block (Private p v) behind = behind
first_block (Shared s i) behind = None

-- the seat's process has the page there, with this behind it, and the page is where it says
pub record IsSought (s : History) (x : Sought) : Type 0 where
  pub mapped : page_by s.config (pager s).map (x.seat).0 (vpn_of x.r) ≡ Some x.page
  pub behind : x.behind ≡ section_at ((pager s).map (x.seat).0 (vpn_of x.r))
  pub backing : x.backing ≡ backing_in s.config (pager s) x.page
