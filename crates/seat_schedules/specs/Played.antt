-- What a schedule leaves. This project's own.
use Rattle.std.specs.Prelude.{◌≡◌, ℕ, List, Option, Some, None, length, map, reverse, slice_get}
use Rattle.std.specs.List.{range_with_len}
use Rattle.std.specs.Option.{option_map}
use Rattle.vm_types.specs.declared.config.Config.{Config}
use Rattle.vm_types.specs.declared.names.BlockId.{BlockId}
use Rattle.vm_types.specs.declared.names.Page.{Page}
use Rattle.vm_types.specs.declared.names.Page.TheVariants.{Private, Shared}
use Rattle.vm_types.specs.declared.names.Pfn.{Pfn}
use Rattle.pager_model.specs.Pager.{Pager}
use Rattle.pager_model.specs.Run.{IsRun}
use Rattle.run_words.specs.Text.{entry_lines}
use Rattle.state_fits.specs.File.{owner_in}
use Rattle.vm_state.specs.History.{History, pager}
use Rattle.vm_state.specs.ProcessReadings.{IsAfter}
use Rattle.vm_state.specs.Readings.{row_at}
use Rattle.state_pages.specs.Shown.{frame_number}
use Rattle.seat_schedules.specs.declared.page_block.PageBlock.{PageBlock}
use Rattle.seat_schedules.specs.declared.played.Played.{Played}

-- of each frame, by its number, the one after it on its list
pub record AreNext (a : Pager) (frames : ℕ) (nexts : List (Option Pfn)) : Type 0 where
  pub count : length nexts ≡ frames
  pub each : (f : ℕ) (next : Option Pfn) → slice_get nexts f ≡ Some next → IsAfter a f (option_map frame_number next)

-- the block in which a private page lies
abbrev pub lies_by : Pager → Page → Option BlockId
lies_by a (Private p v) = a.lies (Private p v)
lies_by a (Shared s i) = None

abbrev pub lies_of : Pager → Option Page → Option BlockId
lies_of a None = None
lies_of a (Some g) = lies_by a g

-- the page that a block of the page file is assigned to, and the block in which that page lies
abbrev pub page_block_at : History → ℕ → PageBlock
page_block_at s b = record { page = owner_in (pager s).assigned b; lies = lies_of (pager s) (owner_in (pager s).assigned b) }

-- a state's entries, oldest first, their lines, what is known of each frame and the frame after it, by its number, and
-- what is known of each block of the page file
pub record IsLeft (s : History) (p : Played) : Type 0 where
  pub entries : (p.entries).items ≡ reverse s.past
  pub lines : (p.lines).items ≡ entry_lines 1 (length s.config.procs) s.config.sections (reverse s.past)
  pub frames : (p.frames).items ≡ map (row_at s) (range_with_len 0 s.config.frames)
  pub nexts : AreNext (pager s) s.config.frames (p.nexts).items
  pub blocks : (p.blocks).items ≡ map (page_block_at s) (range_with_len 0 s.config.pagefile)

-- it is left by a state of the configuration, whose entries are a legal run
pub record IsPlayed (config : Config) (p : Played) : Type 0 where
  pub state : History
  pub same : state.config ≡ config
  pub run : IsRun config state.past
  pub left : IsLeft state p
