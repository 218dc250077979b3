-- Why a shared page is dirty at the rundown's end: its last write there failed, or its eviction stayed stopped. This
-- project's own.
use Rattle.std.specs.Prelude.{◌≡◌, ◌⊎◌, ℕ, Bool, true, false, List, [], ◌∷◌, Some, nat_eq, if◌then◌else◌}
use Rattle.vm_types.specs.declared.names.Page.{Page}
use Rattle.vm_types.specs.declared.config.Config.{Config}
use Rattle.vm_journal.specs.declared.entry.Entry.{Entry}
use Rattle.vm_journal.specs.declared.entry.What.{What}
use Rattle.vm_journal.specs.declared.entry.What.TheVariants as what
use Rattle.pager_policy.specs.Given.{Seen, seen_at}
use Rattle.pager_model.specs.Pager.{Pager}
use Rattle.pager_model.specs.DirtyPages.{is_dirty}

-- whether the last landed write of frame f failed, with one entry more
abbrev pub failed_by : ℕ → Bool → What → Bool
failed_by f before (what.OutOk g k) = if nat_eq g.0 f then false else before
failed_by f before (what.OutFail g k c d) = if nat_eq g.0 f then true else before
failed_by f before other = before

-- of these entries, the newest first; not so where none of them lands a write of it
abbrev pub last_write_failed : List Entry → ℕ → Bool
last_write_failed [] f = false
last_write_failed (e ∷ rest) f = failed_by f (last_write_failed rest f) e.what

abbrev pub LastWriteFailed : List Entry → ℕ → Type 0
LastWriteFailed rest f = last_write_failed rest f ≡ true

-- a frame holds the page, and its last write failed
pub record HasFailedWrite (rest : List Entry) (a : Pager) (g : Page) : Type 0 where
  pub frame : ℕ
  pub holds : a.page frame ≡ Some g
  pub failed : LastWriteFailed rest frame

-- the page is still valid, in a slot of some process
pub record StaysInSlot (a : Pager) (g : Page) : Type 0 where
  pub process : ℕ
  pub slot : ℕ
  pub seen : Seen
  pub is : seen_at a process slot ≡ Some seen
  pub page : seen.page ≡ g

-- a page is dirty for either reason, and for no other
pub record IsDirtyBecause (config : Config) (rest : List Entry) (a : Pager) (g : Page) : Type 0 where
  pub because : is_dirty config a g ≡ true → HasFailedWrite rest a g ⊎ StaysInSlot a g
  pub unwritten : HasFailedWrite rest a g → is_dirty config a g ≡ true
  pub stays : StaysInSlot a g → is_dirty config a g ≡ true
