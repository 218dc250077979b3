-- The page tables of the processes as a map. Source: VAX Architecture Reference Manual, memory
-- management; that the modify mark is kept with the frame is this project's own.
use Rattle.std.specs.Prelude.{ℕ, true, false, ◌<◌, List, Option, Some, None, IsSome, IfSome}
use Rattle.vm_types.specs.PagePlaces.{region_place, item_at}
use Rattle.pte_forms.specs.Word.{IsPte}
use Rattle.pte_forms.specs.declared.pte.Pte.{Pte}
use Rattle.pte_forms.specs.declared.pte.Place.{Place}
use Rattle.pte_forms.specs.declared.pte.Place.TheVariants.{Valid, DemandZero, Transition, PageFile, SectionIndex, GlobalIndex, Swap}
use Rattle.page_tables.specs.declared.look.Look.{Look}
use Rattle.page_tables.specs.declared.look.Look.TheVariants.{Absent, Entry}

-- how many processes there are, and by the place of a page its entry
pub record PageTables : Type 0 where
  pub procs : ℕ
  pub entries : List (Option Pte)

-- the entry of a page of a process; none for a page that isn't mapped
abbrev pub pte_in : PageTables → ℕ → ℕ → Option Pte
pte_in tables p v = item_at tables.entries p v

abbrev pub look_at : Option Pte → Look
look_at None = Absent
look_at (Some pte) = Entry pte

abbrev pub look_of : PageTables → ℕ → ℕ → Look
look_of tables p v = look_at (pte_in tables p v)

abbrev pub IsMapped : PageTables → ℕ → ℕ → Type 0
IsMapped tables p v = IsSome (pte_in tables p v)

-- the process is one of the tables', and the page one that may be mapped
pub record HasPage (tables : PageTables) (p v : ℕ) : Type 0 where
  pub proc : p < tables.procs
  pub page : IsSome (region_place v)

-- a valid entry hasn't the modify mark
abbrev pub IsUnmarked : Place → Type 0
IsUnmarked (Valid true frame) = ⊥
IsUnmarked (Valid false frame) = Unit {0}
IsUnmarked DemandZero = Unit {0}
IsUnmarked (Transition frame) = Unit {0}
IsUnmarked (PageFile block) = Unit {0}
IsUnmarked (SectionIndex page) = Unit {0}
IsUnmarked (GlobalIndex page) = Unit {0}
IsUnmarked (Swap slot) = Unit {0}

-- an entry that the tables may have
pub record IsEntry (pte : Pte) : Type 0 where
  pub fits : IsPte pte
  pub unmarked : IsUnmarked pte.place

-- each entry of the tables is one that they may have
abbrev pub AreEntries : PageTables → Type 0
AreEntries tables = (p v : ℕ) → IfSome (pte_in tables p v) IsEntry
