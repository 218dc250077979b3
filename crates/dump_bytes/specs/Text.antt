-- The bytes of a dump: numbers of four bytes, the highest first. Source: this project's own.
use Rattle.std.specs.Prelude.{ℕ, ◌+◌, ◌*◌, Bool, if◌then◌else◌, List, [], ◌∷◌, ◌++◌, length, Option, Some, None, codes}
use Rattle.std.specs.List.{flat_map}
use Rattle.std.specs.Int.{w32, to_be_bytes}
use Rattle.vm_types.specs.declared.names.Page.{Page}
use Rattle.vm_types.specs.declared.names.Page.TheVariants.{Private, Shared}
use Rattle.dump_bytes.specs.declared.dump.FrameRec.{FrameRec}
use Rattle.dump_bytes.specs.declared.dump.SlotRec.{SlotRec}
use Rattle.dump_bytes.specs.Dumped.{Process, Dumped}

-- a number of four bytes
abbrev pub number : ℕ → List ℕ
number n = to_be_bytes w32 n

-- 1 for true, 0 for false
abbrev pub bit : Bool → ℕ
bit b = if b then 1 else 0

-- 0 for no page, 1 for a private one, 2 for a shared one
abbrev pub kind_code : Option Page → ℕ
kind_code None = 0
kind_code (Some (Private owner vpn)) = 1
kind_code (Some (Shared section page)) = 2

-- the number of the page's process or section, 0 for no page
abbrev pub owner_number : Option Page → ℕ
owner_number None = 0
owner_number (Some (Private owner vpn)) = owner.0
owner_number (Some (Shared section page)) = section.0

-- the page's number there, 0 for no page
abbrev pub page_number : Option Page → ℕ
page_number None = 0
page_number (Some (Private owner vpn)) = vpn
page_number (Some (Shared section page)) = page

-- a frame: four bytes, then four numbers
abbrev pub frame_text : FrameRec → List ℕ
frame_text f =
    (f.state ∷ bit f.modify ∷ kind_code f.page ∷ 0 ∷ [])
    ++ number (owner_number f.page) ++ number (page_number f.page) ++ number f.refs ++ number f.shares

-- 0 empty, 1 filled, 3 locked, 5 pinned, 7 both
abbrev pub slot_code : SlotRec → ℕ
slot_code s = bit s.filled + 2 * bit s.locked + 4 * bit s.pinned

-- a slot: four bytes, then its page number
abbrev pub slot_text : SlotRec → List ℕ
slot_text s = (slot_code s ∷ 0 ∷ 0 ∷ 0 ∷ []) ++ number s.vpn

-- a valid entry: its page number, then its word
abbrev pub word_text : (ℕ × ℕ) → List ℕ
word_text w = number w.0 ++ number w.1

-- the head of a process: four bytes, the number of its slots, its hand and limit
abbrev pub process_head : Process → List ℕ
process_head p = (p.status ∷ 0 ∷ 0 ∷ 0 ∷ []) ++ number (length p.slots) ++ number p.hand ++ number p.limit

-- a process: its head, its slots, then its valid entries
abbrev pub process_text : Process → List ℕ
process_text p =
    process_head p ++ flat_map slot_text p.slots ++ number (length p.words) ++ flat_map word_text p.words

-- the counts at the head of a dump
abbrev pub head_text : Dumped → List ℕ
head_text d =
    number (length d.frames) ++ number (length d.free) ++ number (length d.modified) ++ number (length d.procs)
    ++ number d.size ++ number d.charged ++ number d.assigned

-- a whole dump
abbrev pub dump_text : Dumped → List ℕ
dump_text d =
    codes "VMSDUMP1" ++ head_text d ++ flat_map frame_text d.frames ++ flat_map number d.free
    ++ flat_map number d.modified ++ flat_map process_text d.procs ++ number (length d.flights)
    ++ flat_map number d.flights
