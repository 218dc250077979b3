-- How many pinned slots hold a frame: those whose page has a valid entry for it in the same process. This
-- project's own.
use Rattle.std.specs.Prelude.{ℕ, Bool, ◌&&◌, List, count_by, nat_eq}
use Rattle.std.specs.List.{list_any, sum_by}
use Rattle.dump_bytes.specs.declared.dump.SlotRec.{SlotRec}
use Rattle.dump_bytes.specs.Dumped.{Process, Dumped}
use Rattle.dump_lines.specs.Shares.{is_for}

-- one of the entries is the page's, and for the frame
abbrev pub has_entry : List (ℕ × ℕ) → ℕ → ℕ → Bool
has_entry words vpn f = list_any (λ (w : ℕ × ℕ). nat_eq w.0 vpn && is_for f w) words

-- the slot is pinned, and its page's entry is for the frame
abbrev pub is_pin : List (ℕ × ℕ) → ℕ → SlotRec → Bool
is_pin words f s = s.pinned && has_entry words s.vpn f

-- the pins of some processes on a frame
abbrev pub pins_in : List Process → ℕ → ℕ
pins_in procs f = sum_by (λ (p : Process). count_by (is_pin p.words f) p.slots) procs

abbrev pub pins_of : Dumped → ℕ → ℕ
pins_of d f = pins_in d.procs f
