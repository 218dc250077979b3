-- The lines of a dump's processes, each followed by those of the filled slots of its working set list. This
-- project's own.
use Rattle.std.specs.Prelude.{ℕ, ◌+◌, ◌*◌, Bool, List, [], ◌∷◌, ◌++◌, codes, count_by, decimal, if◌then◌else◌}
use Rattle.vm_types.specs.declared.limits.TheConstants.{PAGE_BYTES}
use Rattle.vm_text.specs.Names.{place_text, process_name}
use Rattle.vm_text.specs.States.{status_word}
use Rattle.run_words.specs.Text.{ended}
use Rattle.dump_bytes.specs.declared.dump.SlotRec.{SlotRec}
use Rattle.dump_bytes.specs.Dumped.{Process}
use Rattle.dump_lines.specs.Codes.{status_of_code}

-- how many slots are filled
abbrev pub filled_in : List SlotRec → ℕ
filled_in slots = count_by (λ (s : SlotRec). s.filled) slots

abbrev pub process_text : ℕ → Process → List ℕ
process_text x p =
    codes "PROCESS " ++ process_name x ++ codes " " ++ status_word (status_of_code p.status) ++ codes " COUNT " ++ decimal (filled_in p.slots)
    ++ codes " LIMIT " ++ decimal p.limit ++ codes " HAND " ++ decimal p.hand

-- a word if the mark is set
abbrev pub marked : Bool → List ℕ → List ℕ
marked mark word = if mark then word else []

-- the slot's number, the process with the first address of the slot's page, and the marks
abbrev pub slot_text : ℕ → ℕ → SlotRec → List ℕ
slot_text x n s =
    codes "SLOT " ++ decimal n ++ codes " " ++ place_text x (PAGE_BYTES * s.vpn) ++ marked s.locked (codes " LOCKED") ++ marked s.pinned (codes " PINNED")

abbrev pub slot_line : ℕ → ℕ → SlotRec → List ℕ
slot_line x n s = if s.filled then ended (slot_text x n s) else []

-- the slots of process x, from this number on
abbrev pub slot_lines : ℕ → ℕ → List SlotRec → List ℕ
slot_lines x n [] = []
slot_lines x n (s ∷ slots) = slot_line x n s ++ slot_lines x (n + 1) slots

-- a process and its slots
abbrev pub one_process : ℕ → Process → List ℕ
one_process x p = ended (process_text x p) ++ slot_lines x 0 p.slots

-- the processes from this number on
abbrev pub process_lines : ℕ → List Process → List ℕ
process_lines x [] = []
process_lines x (p ∷ procs) = one_process x p ++ process_lines (x + 1) procs
