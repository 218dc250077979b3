-- The lines of one of the page lists: its name and length, then its frames from the front on. This project's own.
use Rattle.std.specs.Prelude.{ℕ, List, ◌++◌, length, codes, decimal}
use Rattle.std.specs.List.{flat_map}
use Rattle.vm_text.specs.Names.{frame_text}
use Rattle.run_words.specs.Text.{ended}

abbrev pub list_line : List ℕ → ℕ → List ℕ
list_line name count = ended (codes "LIST " ++ name ++ codes " " ++ decimal count)

abbrev pub on_line : ℕ → List ℕ
on_line f = ended (codes "ON " ++ frame_text f)

abbrev pub list_lines : List ℕ → List ℕ → List ℕ
list_lines name members = list_line name (length members) ++ flat_map on_line members
