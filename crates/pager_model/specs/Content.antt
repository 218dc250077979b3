-- The bytes in frames and blocks are those of the flat machine. What is claimed of bytes is claimed where those
-- of blocks are known. This project's own.
use Rattle.std.specs.Prelude.{◌≡◌, ◌<◌, ℕ, Bool, true, false, List, Option, Some, length, count_by, slice_get, nat_eq, not}
use Rattle.std.specs.Option.{is_some}
use Rattle.std.specs.List.{AllByRecursion}
use Rattle.vm_types.specs.declared.limits.TheConstants.{PAGE_BYTES}
use Rattle.vm_types.specs.BlockView.{BlockView}
use Rattle.vm_types.specs.Configuration.{IsBlock}
use Rattle.vm_types.specs.declared.names.Page.{Page}
use Rattle.vm_types.specs.declared.names.SecId.{SecId}
use Rattle.vm_types.specs.declared.names.FrameState.{FrameState}
use Rattle.vm_types.specs.declared.names.FrameState.TheVariants as state
use Rattle.vm_types.specs.declared.names.BlockId.{BlockId}
use Rattle.vm_types.specs.declared.names.BlockId.TheVariants as block
use Rattle.vm_types.specs.declared.config.Config.{Config}
use Rattle.vm_journal.specs.declared.entry.Entry.{Entry}
use Rattle.pager_model.specs.Bytes.{is_real, now, was}
use Rattle.pager_model.specs.Flights.{Flight, is_reading, open_flights}
use Rattle.pager_model.specs.Lookups.{is}
use Rattle.pager_model.specs.Maps.{section_bytes, shared_of}
use Rattle.pager_model.specs.Pager.{Pager}
use Rattle.pager_model.specs.CountedBlock.{IsCountedBlock}
use Rattle.pager_model.specs.Transfers.{is_on_block, writes_on}

-- whether the bytes of the frame's buffer count
abbrev pub has_bytes : FrameState → Bool
has_bytes state.Reading = false
has_bytes state.ReadError = false
has_bytes other = true

-- each buffer has a page's length; the one of a frame is away exactly while the frame is read
pub record HasBuffers (config : Config) (state_of : ℕ → FrameState) (buffer : ℕ → Option (List ℕ)) : Type 0 where
  pub sizes : (f : ℕ) (bytes : List ℕ) → buffer f ≡ Some bytes → length bytes ≡ PAGE_BYTES
  pub home : (f : ℕ) → f < config.frames → is_some (buffer f) ≡ not (is state.Reading (state_of f))

-- each block of the configuration is home exactly while it is in no flight
pub record HasHomes (config : Config) (flights : List Flight) (home : BlockId → Option BlockView) : Type 0 where
  pub blocks : (b : BlockId) → IsBlock config b → is_some (home b) ≡ nat_eq (count_by (is_on_block b) flights) 0
  pub only : (b : BlockId) (x : BlockView) → home b ≡ Some x → IsBlock config b

-- a held page's buffer has the page's bytes, unless it is being read or couldn't be
abbrev pub HasHeld : (Page → List ℕ) → (ℕ → Option Page) → (ℕ → FrameState) → (ℕ → Option (List ℕ)) → Type 0
HasHeld bytes page state_of buffer = (f : ℕ) (g : Page) → page f ≡ Some g → has_bytes (state_of f) ≡ true → buffer f ≡ Some (bytes g)

-- the page is out, or held with the modify mark clear and no write open
abbrev pub IsSettled : (ℕ → Option Page) → (ℕ → Bool) → List Flight → Page → Type 0
IsSettled page modify flights g = (f : ℕ) → page f ≡ Some g → (modify f ≡ false) × (writes_on f flights ≡ 0)

-- a block at home in which such a page lies has the page's bytes
abbrev pub HasLying : Config → (Page → List ℕ) → (Page → Option BlockId) → (ℕ → Option Page) → (ℕ → Bool) → List Flight → (BlockId → Option BlockView) → Type 0
HasLying config bytes lies page modify flights home =
    (b : BlockId) (x : BlockView) (g : Page) → is_real config g ≡ true → home b ≡ Some x → lies g ≡ Some b → IsSettled page modify flights g → x.content ≡ Some (bytes g)

-- while a write is open and the frame hasn't changed, the page's bytes are those of when it began
abbrev pub IsWriting : (Page → List ℕ) → (ℕ → Page → List ℕ) → (ℕ → Option Page) → (ℕ → Bool) → Flight → Type 0
IsWriting bytes then_was page modify x = is_reading x.direction ≡ false → modify x.frame ≡ false → (g : Page) → page x.frame ≡ Some g → bytes g ≡ then_was x.start g

-- a block at home of a copy on reference section has its first bytes
abbrev pub HasCopied : Config → (BlockId → Option BlockView) → Type 0
HasCopied config home =
    (s : SecId) (i : ℕ) (x : BlockView) → home (block.Section s i) ≡ Some x → shared_of (slice_get config.sections s.0) ≡ false → x.content ≡ Some (section_bytes config s.0 i)

-- each block at home is counted
abbrev pub HasCounted : Bool → Config → List Entry → (BlockId → Option BlockView) → Type 0
HasCounted tells_plan config past home = (b : BlockId) (x : BlockView) → home b ≡ Some x → IsCountedBlock tells_plan config past b x

pub record ContentFits (tells tells_plan : Bool) (config : Config) (past : List Entry) (a : Pager) (buffer : ℕ → Option (List ℕ)) (home : BlockId → Option BlockView) : Type 0 where
  pub buffers : HasBuffers config a.state buffer
  pub homes : HasHomes config (open_flights past) home
  pub held : tells ≡ true → HasHeld (now config past) a.page a.state buffer
  pub lying : tells ≡ true → HasLying config (now config past) a.lies a.page a.modify (open_flights past) home
  pub written : tells ≡ true → AllByRecursion (IsWriting (now config past) (was config past) a.page a.modify) (open_flights past)
  pub copied : tells ≡ true → HasCopied config home
  pub counted : HasCounted tells_plan config past home
