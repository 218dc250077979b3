-- The word of a page: that of its page table entry, with the modify mark of its frame. Source: VAX Architecture
-- Reference Manual, memory management; that the mark is kept with the frame is this project's own.
use Rattle.std.specs.Prelude.{ℕ, Option}
use Rattle.std.specs.Option.{option_map}
use Rattle.vm_types.specs.declared.config.Config.{Config}
use Rattle.pager_model.specs.Pager.{Pager}
use Rattle.state_fits.specs.Entries.{pte_of}
use Rattle.state_pages.specs.MarkedWords.{word_marked}

-- of a page number of a process; none exactly if it isn't mapped
abbrev pub word_in : Config → Pager → ℕ → ℕ → Option ℕ
word_in config a p v = option_map (word_marked a.modify) (pte_of config a.map a.valid a.page a.lies p v)
