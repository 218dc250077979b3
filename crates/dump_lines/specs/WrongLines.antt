-- The lines of kept numbers that differ from their recounts. This project's own.
use Rattle.std.specs.Prelude.{ℕ, List, [], ◌++◌, codes, decimal, if◌then◌else◌}
use Rattle.std.specs.List.{flat_map}
use Rattle.vm_text.specs.Names.{frame_text}
use Rattle.run_words.specs.Text.{ended}
use Rattle.dump_lines.specs.Checks.{Check}
use Rattle.dump_lines.specs.Wrong.{is_wrong}

abbrev pub wrong_text : Check → List ℕ
wrong_text c =
    codes "WRONG " ++ frame_text c.frame ++ codes " " ++ c.name ++ codes " " ++ decimal c.kept ++ codes " RECOUNT " ++ decimal c.recount

abbrev pub wrong_line : Check → List ℕ
wrong_line c = if is_wrong c then ended (wrong_text c) else []

abbrev pub wrong_lines : List Check → List ℕ
wrong_lines checks = flat_map wrong_line checks
