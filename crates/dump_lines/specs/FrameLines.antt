-- The lines of a dump's frames: a bad one has a line whatever it holds, another one only if it holds a page. This
-- project's own.
use Rattle.std.specs.Prelude.{ℕ, ◌+◌, List, [], ◌∷◌, ◌++◌, Option, Some, None, codes, decimal, nat_eq, if◌then◌else◌}
use Rattle.vm_types.specs.declared.names.Page.{Page}
use Rattle.vm_text.specs.States.{state_word, mark_text}
use Rattle.run_words.specs.Text.{ended}
use Rattle.dump_bytes.specs.declared.dump.FrameRec.{FrameRec}
use Rattle.dump_lines.specs.Codes.{state_of_code}
use Rattle.dump_lines.specs.PageText.{page_text}

abbrev pub bad_text : ℕ → List ℕ
bad_text f = codes "FRAME " ++ decimal f ++ codes " BAD"

abbrev pub held_text : ℕ → FrameRec → Page → List ℕ
held_text f row page =
    codes "FRAME " ++ decimal f ++ codes " " ++ state_word (state_of_code row.state) ++ codes " " ++ page_text page
    ++ codes " MODIFY " ++ mark_text row.modify ++ codes " REFS " ++ decimal row.refs ++ codes " SHARES " ++ decimal row.shares

abbrev pub held_line : ℕ → FrameRec → Option Page → List ℕ
held_line f row None = []
held_line f row (Some page) = ended (held_text f row page)

abbrev pub frame_line : ℕ → FrameRec → List ℕ
frame_line f row = if nat_eq row.state 2 then ended (bad_text f) else held_line f row row.page

-- in number order, from this number on
abbrev pub frame_lines : ℕ → List FrameRec → List ℕ
frame_lines f [] = []
frame_lines f (row ∷ rows) = frame_line f row ++ frame_lines (f + 1) rows
