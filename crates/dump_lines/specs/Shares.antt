-- The share count of a frame, counted anew: how many words of valid entries are for it. Source: Kenah and Bate,
-- "VAX/VMS Internals and Data Structures", the PFN database, share count.
use Rattle.std.specs.Prelude.{ℕ, Bool, List, count_by, nat_eq}
use Rattle.std.specs.List.{flat_map}
use Rattle.dump_bytes.specs.Dumped.{Process, Dumped}
use Rattle.dump_lines.specs.WordFrame.{frame_of}

-- the entry's word is for the frame
abbrev pub is_for : ℕ → ℕ × ℕ → Bool
is_for f entry = nat_eq (frame_of entry.1) f

-- the valid entries of all processes
abbrev pub entries : List Process → List (ℕ × ℕ)
entries procs = flat_map (λ (p : Process). p.words) procs

abbrev pub shares_of : Dumped → ℕ → ℕ
shares_of d f = count_by (is_for f) (entries d.procs)
