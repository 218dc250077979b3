-- The text of a dump: its frames, its page lists, its processes, the page file's three numbers, and the kept numbers
-- that differ from their recounts, with how many these are. This project's own.
use Rattle.std.specs.Prelude.{ℕ, List, ◌++◌, length, codes, decimal}
use Rattle.run_words.specs.Text.{ended, status_line}
use Rattle.dump_bytes.specs.Dumped.{Dumped}
use Rattle.dump_lines.specs.Checks.{checks}
use Rattle.dump_lines.specs.FrameLines.{frame_lines}
use Rattle.dump_lines.specs.ListLines.{list_lines}
use Rattle.dump_lines.specs.ProcessLines.{process_lines}
use Rattle.dump_lines.specs.Wrong.{wrong_count}
use Rattle.dump_lines.specs.WrongLines.{wrong_lines}

-- how many frames and processes there are
abbrev pub dump_line : Dumped → List ℕ
dump_line d = ended (codes "DUMP " ++ decimal (length d.frames) ++ codes " " ++ decimal (length d.procs))

abbrev pub page_file_line : Dumped → List ℕ
page_file_line d = ended (codes "PAGEFILE " ++ decimal d.size ++ codes " CHARGED " ++ decimal d.charged ++ codes " ASSIGNED " ++ decimal d.assigned)

-- what the dump holds
abbrev pub held_lines : Dumped → List ℕ
held_lines d =
    dump_line d ++ frame_lines 0 d.frames ++ list_lines (codes "FREE") d.free ++ list_lines (codes "MODIFIED") d.modified
    ++ process_lines 0 d.procs ++ page_file_line d

abbrev pub count_line : ℕ → List ℕ
count_line n = ended (codes "WRONG " ++ decimal n)

-- what is wrong in it, and how much
abbrev pub found_lines : Dumped → List ℕ
found_lines d = wrong_lines (checks d) ++ count_line (wrong_count d)

abbrev pub show_text : Dumped → List ℕ
show_text d = held_lines d ++ found_lines d ++ status_line 0
