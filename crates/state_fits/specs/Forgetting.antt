-- What the parts lose of a page that is forgotten. Source: Kenah and Bate, "VAX/VMS Internals and Data
-- Structures", memory management system services ($DELTVA); that its frame heads the free list is this
-- project's own.
use Rattle.std.specs.Prelude.{ℕ, ◌-◌, ◌∷◌, Option, Some, None, slice_set}
use Rattle.page_file.specs.Blocks.{Blocks}
use Rattle.page_lists.specs.Lists.{without}
use Rattle.pfn_database.specs.Frames.{Frames}
use Rattle.pfn_database.specs.Rows.{empty_row}
use Rattle.pte_forms.specs.declared.pte.Place.{Place}
use Rattle.pte_forms.specs.declared.pte.Place.TheVariants as place
use Rattle.state_parts.specs.declared.charged_page.ChargedPage.{ChargedPage}

-- the frame that an entry in transition names
abbrev pub frame_in_transition : Place → Option ℕ
frame_in_transition (place.Transition f) = Some f.0
frame_in_transition other = None

-- the frame, if there is one, is emptied and heads the free list
abbrev pub emptied_frame : Option ℕ → Frames → Frames
emptied_frame None frames = frames
emptied_frame (Some f) frames =
    record { rows = slice_set frames.rows f empty_row; free = f ∷ without frames.free f; modified = without frames.modified f }

-- the block, if there is one, is free
abbrev pub released_block : Option ℕ → Blocks → Blocks
released_block None file = file
released_block (Some b) file = record file { owners = slice_set file.owners b None }

-- a page of which this was kept isn't charged any more, and its block is free
abbrev pub uncharged_page : Option ChargedPage → Blocks → Blocks
uncharged_page None file = file
uncharged_page (Some page) file = record { charged = file.charged - 1; owners = (released_block page.assigned file).owners }
