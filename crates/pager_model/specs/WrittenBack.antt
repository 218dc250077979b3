-- What the blocks that were retired have. This project's own.
use Rattle.std.specs.Prelude.{◌≡◌, ℕ, Bool, true, false, List, Some, None, slice_get}
use Rattle.std.specs.List.{AllByRecursion}
use Rattle.vm_types.specs.BlockView.{Retired}
use Rattle.vm_types.specs.declared.names.Page.TheVariants.{Shared}
use Rattle.vm_types.specs.declared.names.SecId.{SecId}
use Rattle.vm_types.specs.declared.names.BlockId.TheVariants as block
use Rattle.vm_types.specs.declared.config.Config.{Config}
use Rattle.vm_journal.specs.declared.entry.Entry.{Entry}
use Rattle.pager_model.specs.Bytes.{now}
use Rattle.pager_model.specs.Lookups.{count_page}
use Rattle.pager_model.specs.Maps.{paged_of, section_bytes, shared_of}
use Rattle.pager_model.specs.Pager.{Pager}
use Rattle.pager_model.specs.Run.{pager_after}
use Rattle.pager_model.specs.DirtyPages.{is_dirty}

-- a block in which a shared page lies has that page's bytes after the whole journal, unless the page is dirty
abbrev pub IsWrittenBack : Config → List Entry → Retired → Type 0
IsWrittenBack config past x =
    (s : SecId) (i : ℕ) → shared_of (slice_get config.sections s.0) ≡ true → (pager_after config past).lies (Shared s i) ≡ Some x.block
    → is_dirty config (pager_after config past) (Shared s i) ≡ false → (x.seen).content ≡ Some (now config past (Shared s i))

-- a shared page that lies nowhere and isn't dirty was never charged: it is of a section in the page file, whose
-- pages stay charged from their first touch on
abbrev pub NowhereMeansUncharged : Config → Pager → Type 0
NowhereMeansUncharged config a =
    (s : SecId) (i : ℕ) → shared_of (slice_get config.sections s.0) ≡ true → is_dirty config a (Shared s i) ≡ false
    → (a.lies (Shared s i) ≡ None) → (paged_of (slice_get config.sections s.0) ≡ true) × (count_page a.charged (Shared s i) ≡ 0)

-- a block of a copy on reference section has its first bytes
abbrev pub HasFirstBytes : Config → Retired → Type 0
HasFirstBytes config x =
    (s : SecId) (i : ℕ) → x.block ≡ block.Section s i → shared_of (slice_get config.sections s.0) ≡ false → (x.seen).content ≡ Some (section_bytes config s.0 i)

-- where the bytes of blocks are known, the blocks that were retired have these bytes, and a page that lies in none
-- of them has nothing to write; the past is that of the whole journal, with its rundown
pub record AreWrittenBack (tells : Bool) (config : Config) (past : List Entry) (retired : List Retired) : Type 0 where
  pub shared : tells ≡ true → AllByRecursion (IsWrittenBack config past) retired
  pub copied : tells ≡ true → AllByRecursion (HasFirstBytes config) retired
  pub nowhere : NowhereMeansUncharged config (pager_after config past)
