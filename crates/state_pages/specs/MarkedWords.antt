-- The word of a page table entry, with the modify mark of its frame. Source: VAX Architecture Reference Manual,
-- memory management; that the mark is kept with the frame is this project's own.
use Rattle.std.specs.Prelude.{ℕ, Bool}
use Rattle.pte_forms.specs.Word.{word_of}
use Rattle.pte_forms.specs.declared.pte.Place.{Place}
use Rattle.pte_forms.specs.declared.pte.Place.TheVariants.{Valid}
use Rattle.pte_forms.specs.declared.pte.Pte.{Pte}

-- a valid entry has the modify mark of its frame, and another one has none
abbrev pub place_marked : (ℕ → Bool) → Place → Place
place_marked modify (Valid m f) = Valid (modify f.0) f
place_marked modify other = other

abbrev pub word_marked : (ℕ → Bool) → Pte → ℕ
word_marked modify pte = word_of (record pte { place = place_marked modify pte.place })
