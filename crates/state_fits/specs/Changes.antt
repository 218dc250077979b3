-- What an entry of the pager changes of one page's global page and of one page's entry. Source: Kenah and
-- Bate, "VAX/VMS Internals and Data Structures", memory structures, global pages; the forms of an invalid page
-- table entry.
use Rattle.std.specs.Prelude.{ℕ, Bool, false, ◌+◌, ◌-◌, ◌&&◌, Option, Some, None, slice_set}
use Rattle.vm_types.specs.declared.config.Config.{Config}
use Rattle.vm_types.specs.declared.names.BlockId.{BlockId}
use Rattle.vm_types.specs.declared.names.Page.{Page}
use Rattle.vm_types.specs.declared.names.Page.TheVariants.{Private, Shared}
use Rattle.pte_forms.specs.declared.pte.Place.{Place}
use Rattle.pte_forms.specs.declared.pte.Place.TheVariants as place
use Rattle.global_pages.specs.GlobalPages.{GlobalPages, count_of}
use Rattle.pager_model.specs.Changes.{is_section_block}
use Rattle.pager_model.specs.Maps.{pfn, is_private}
use Rattle.state_fits.specs.Entries.{section_page_number}

-- one valid entry less, or more, is for the page; a private page is no global one
abbrev pub unshared_in : Config → Page → GlobalPages → GlobalPages
unshared_in config (Private p v) table = table
unshared_in config (Shared s i) table = record table { counts = slice_set table.counts (section_page_number config s.0 i) (count_of table (section_page_number config s.0 i) - 1) }

abbrev pub shared_in : Config → Page → GlobalPages → GlobalPages
shared_in config (Private p v) table = table
shared_in config (Shared s i) table = record table { counts = slice_set table.counts (section_page_number config s.0 i) (count_of table (section_page_number config s.0 i) + 1) }

-- no frame holds the page
abbrev pub released_in : Config → Page → GlobalPages → GlobalPages
released_in config (Private p v) table = table
released_in config (Shared s i) table = record table { frames = slice_set table.frames (section_page_number config s.0 i) None }

-- the place of a page that is in a frame, and whose entry isn't valid any more
abbrev pub place_left : Config → ℕ → Page → Place
place_left config f (Private p v) = place.Transition (pfn f)
place_left config f (Shared s i) = place.GlobalIndex (section_page_number config s.0 i)

-- the ring slot that the row of a page's frame has: none of a shared page
abbrev pub page_slot : Page → ℕ → ℕ
page_slot (Private p v) slot = slot
page_slot (Shared s i) slot = 0

-- whether a page that is given up was charged for a first read that failed: of a copy on reference page, from its
-- section block
abbrev pub is_failed_first : Option BlockId → Page → Bool
is_failed_first None g = false
is_failed_first (Some b) g = is_private g && is_section_block b
