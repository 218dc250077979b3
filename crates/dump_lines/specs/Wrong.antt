-- How many kept numbers differ from their recounts. This project's own.
use Rattle.std.specs.Prelude.{ℕ, Bool, count_by, nat_eq, not}
use Rattle.dump_bytes.specs.Dumped.{Dumped}
use Rattle.dump_lines.specs.Checks.{Check, checks}

abbrev pub is_wrong : Check → Bool
is_wrong c = not (nat_eq c.kept c.recount)

abbrev pub wrong_count : Dumped → ℕ
wrong_count d = count_by is_wrong (checks d)
