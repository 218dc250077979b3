-- What the beginning of a read changes of its page: its entry, its global page, what is kept of it, and the
-- charges of the page file. Source: Kenah and Bate, "VAX/VMS Internals and Data Structures", paging dynamics,
-- page reads; that the first read of a copy on reference page charges it is this project's own.
use Rattle.std.specs.Prelude.{ℕ, ◌+◌, Option, Some, None, slice_set, false}
use Rattle.std.specs.Option.{option_map}
use Rattle.vm_types.specs.PagePlaces.{changed_at}
use Rattle.vm_types.specs.declared.config.Config.{Config}
use Rattle.vm_types.specs.declared.names.Page.{Page}
use Rattle.vm_types.specs.declared.names.Page.TheVariants.{Private, Shared}
use Rattle.pte_forms.specs.declared.pte.Place.{Place}
use Rattle.pte_forms.specs.declared.pte.Place.TheVariants as place
use Rattle.pte_forms.specs.declared.pte.Pte.{Pte}
use Rattle.global_pages.specs.GlobalPages.{GlobalPages}
use Rattle.page_file.specs.Blocks.{Blocks}
use Rattle.state_parts.specs.declared.charged_page.ChargedPage.{ChargedPage}
use Rattle.pager_model.specs.Maps.{pfn}
use Rattle.state_fits.specs.Entries.{section_page_number}

abbrev pub with_place : Place → Pte → Pte
with_place place pte = record { prot = pte.prot; place = place }

-- a private page's entry shows the frame; the entries for a shared page show its global page
abbrev pub entry_held : Page → ℕ → (ℕ → ℕ → Option Pte) → ℕ → ℕ → Option Pte
entry_held (Private p v) f entry q w = changed_at entry p.0 v (option_map (with_place (place.Transition (pfn f))) (entry p.0 v)) q w
entry_held (Shared s i) f entry q w = entry q w

-- the frame holds the page, which has this number if it is shared
abbrev pub held_at : Page → ℕ → ℕ → GlobalPages → GlobalPages
held_at (Private p v) number f table = table
held_at (Shared s i) number f table = record table { frames = slice_set table.frames number (Some (pfn f)) }

abbrev pub page_number_of : Config → Page → ℕ
page_number_of config (Private p v) = 0
page_number_of config (Shared s i) = section_page_number config s.0 i

abbrev pub held_in : Config → Page → ℕ → GlobalPages → GlobalPages
held_in config page f table = held_at page (page_number_of config page) f table

-- what is kept of a page that is charged now, if it wasn't before
abbrev pub charged_now : Option ChargedPage → ChargedPage
charged_now None = record { touched = false; lies = None; assigned = None }
charged_now (Some row) = row

-- of a page for which a fault reads
abbrev pub charged_in : Page → Option ChargedPage → Option ChargedPage
charged_in (Private p v) row = Some (charged_now row)
charged_in (Shared s i) row = row

-- one block more is charged, if the page wasn't charged before
abbrev pub one_charge : Option ChargedPage → Blocks → Blocks
one_charge None file = record file { charged = file.charged + 1 }
one_charge (Some row) file = file

abbrev pub file_charged : Page → Option ChargedPage → Blocks → Blocks
file_charged (Private p v) row file = one_charge row file
file_charged (Shared s i) row file = file
