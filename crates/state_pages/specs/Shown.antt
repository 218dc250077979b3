-- What a look into the page tables shows. This project's own.
use Rattle.std.specs.Prelude.{ℕ, Option, Some, None}
use Rattle.vm_types.specs.declared.names.Pfn.{Pfn}
use Rattle.page_tables.specs.declared.look.Look.{Look}
use Rattle.page_tables.specs.declared.look.Look.TheVariants as look
use Rattle.pte_forms.specs.declared.pte.Place.{Place}
use Rattle.pte_forms.specs.declared.pte.Place.TheVariants as place
use Rattle.pte_forms.specs.declared.pte.Pte.{Pte}

abbrev pub entry_shown : Look → Option Pte
entry_shown look.Absent = None
entry_shown (look.Entry pte) = Some pte

abbrev pub frame_number : Pfn → ℕ
frame_number f = f.0

abbrev pub frame_by : Place → Option ℕ
frame_by (place.Valid modify f) = Some f.0
frame_by other = None

abbrev pub frame_entry : Option Pte → Option ℕ
frame_entry None = None
frame_entry (Some pte) = frame_by pte.place

-- the frame of a valid entry
abbrev pub frame_shown : Look → Option ℕ
frame_shown l = frame_entry (entry_shown l)
