-- The pager's state, without bytes, by attribute: what is looked up is a function, what is counted is
-- a list. Source: Kenah and Bate, "VAX/VMS Internals and Data Structures", memory management data
-- structures (PFN database, working set list, page tables) and swapping. That a private page lies in
-- one block or nowhere, and the read that a collision named, are this project's own.
use Rattle.std.specs.Prelude.{ℕ, Bool, List, Option}
use Rattle.vm_types.specs.Ring.{Ring}
use Rattle.vm_types.specs.declared.names.Page.{Page}
use Rattle.vm_types.specs.declared.names.FrameState.{FrameState}
use Rattle.vm_types.specs.declared.names.BlockId.{BlockId}
use Rattle.vm_types.specs.declared.names.ProcStatus.{ProcStatus}
use Rattle.pager_model.specs.Maps.{Map}

-- a valid page table entry: the process, the page number and the frame
pub record Valid : Type 0 where
  pub proc : ℕ
  pub vpn : ℕ
  pub frame : ℕ

-- a page file block that is assigned to a page
pub record Assigned : Type 0 where
  pub page : Page
  pub block : ℕ

-- by frame number: state, the page that it holds, the modify mark; the free and the modified list;
-- by process number: status, working set list, limit, the references and faults since the limit was
-- last adjusted, the read that its last collision named, and what its pages are mapped to; the valid
-- entries; and of the pages: which are charged, which are touched, the block in which each lies, and
-- the page file blocks that are assigned
pub record Pager : Type 0 where
  pub state : ℕ → FrameState
  pub page : ℕ → Option Page
  pub modify : ℕ → Bool
  pub free : List ℕ
  pub modified : List ℕ
  pub status : ℕ → ProcStatus
  pub ring : ℕ → Ring
  pub limit : ℕ → ℕ
  pub references : ℕ → ℕ
  pub faults : ℕ → ℕ
  pub collided : ℕ → Option ℕ
  pub map : Map
  pub valid : List Valid
  pub charged : List Page
  pub touched : List Page
  pub lies : Page → Option BlockId
  pub assigned : List Assigned
