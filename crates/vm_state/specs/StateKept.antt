-- What a state keeps. This project's own.
use Rattle.std.specs.Prelude.{◌≡◌, ℕ, Bool, true, not, ◌+◌, ◌*◌, ◌^◌, ◌≤◌, ◌<◌, List, Option, Some, length, count_by, slice_get}
use Rattle.std.specs.Option.{option_map}
use Rattle.vm_types.specs.BlockView.{BlockView, Tells}
use Rattle.vm_types.specs.Configuration.{IsWellFormed}
use Rattle.vm_types.specs.declared.config.Config.{Config}
use Rattle.vm_types.specs.declared.names.BlockId.{BlockId}
use Rattle.vm_journal.specs.declared.entry.Entry.{Entry}
use Rattle.pager_model.specs.Content.{ContentFits}
use Rattle.pager_model.specs.Flights.{Flight, is_reading, open_flights}
use Rattle.pager_model.specs.Run.{IsRun, pager_after}
use Rattle.pager_model.specs.Spoken.{IsRight}
use Rattle.frame_store.specs.Blocks.{block_at, blocks_of, held_at}
use Rattle.frame_store.specs.StoreView.{StoreView}
use Rattle.state_fits.specs.Entries.{section_page_number}
use Rattle.state_fits.specs.Parts.{Parts}
use Rattle.state_fits.specs.PartsFit.{PartsFit}
use Rattle.vm_state.specs.History.{owed}

-- whether a transfer is a write: it has a buffer of its own
abbrev pub is_writing : Flight → Bool
is_writing x = not (is_reading x.direction)

-- the store is the configuration's: its blocks, a place for each of them, a buffer for each frame, and as many more as may be out with writes, with
-- which the pool is full; and the number of the first page of each section
pub record IsStoreOf {B : Type 0} (config : Config) (flights : List Flight) (store : StoreView B) (numbers : List ℕ) : Type 0 where
  pub ids : store.ids ≡ blocks_of config
  pub buffers : length store.buffers ≡ config.frames
  pub blocks : length store.blocks ≡ length (blocks_of config)
  pub left : 16 * (length config.procs + 2) ≤ store.left + count_by is_writing flights
  pub size : store.pool.size ≡ config.frames + 16 * (length config.procs + 2)
  pub firsts : (s : ℕ) → s < length config.sections → slice_get numbers s ≡ Some (section_page_number config s 0)

module _ {B : Type 0} (seen : B → BlockView) where
  -- what is seen of a block at home
  abbrev pub home_in : Config → StoreView B → BlockId → Option BlockView
  home_in config store b = option_map seen (block_at config store.blocks b)

  -- the entries are a run; the parts stand for the state that it leads to; buffers and blocks have the bytes that
  -- they should; what is due is paid for; and if blocks tell their content each answered reference shows the flat reply
  pub record IsState (tells : Tells) (config : Config) (past : List Entry) (spare : ℕ) (store : StoreView B) (fields : Parts) (numbers : List ℕ) : Type 0 where
    pub formed : IsWellFormed config
    pub run : IsRun config past
    pub short : length past + spare ≤ 2 ^ 48
    pub paid : owed past ≤ spare
    pub parts : PartsFit config past (pager_after config past) fields
    pub bytes : ContentFits tells.content tells.plan config past (pager_after config past) (held_at store.buffers) (home_in config store)
    pub places : IsStoreOf config (open_flights past) store numbers
    pub right : tells.content ≡ true → IsRight config past
