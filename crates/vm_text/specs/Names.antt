-- The words for processes, seats, addresses, frames, pages and blocks. Source: this project's own.
use Rattle.std.specs.Prelude.{ℕ, ◌+◌, ◌*◌, List, [], ◌∷◌, ◌++◌, Option, Some, None, slice_get, nat_lt, nat_eq, if◌then◌else◌, codes, decimal}
use Rattle.vm_types.specs.declared.limits.TheConstants.{PAGE_BYTES}
use Rattle.vm_types.specs.declared.config.Section.{Section}
use Rattle.vm_types.specs.declared.names.Page.{Page}
use Rattle.vm_types.specs.declared.names.Page.TheVariants.{Private, Shared}
use Rattle.vm_types.specs.declared.names.BlockId.{BlockId}
use Rattle.vm_types.specs.declared.names.BlockId.TheVariants as block
use Rattle.vm_text.specs.Hex.{hex}

-- a process's letter, A for process 0
abbrev pub process_name : ℕ → List ℕ
process_name process = (65 + process) ∷ []

-- with so many processes: a process's letter, or the writer's or the swapper's name
abbrev pub seat_name : ℕ → ℕ → List ℕ
seat_name procs seat =
    if nat_lt seat procs then process_name seat else (if nat_eq seat procs then codes "MPW" else codes "SWP")

-- eight hexadecimal digits
abbrev pub address_text : ℕ → List ℕ
address_text address = hex 8 address

abbrev pub frame_text : ℕ → List ℕ
frame_text frame = codes "F" ++ decimal frame

abbrev pub name_of : Option Section → List ℕ
name_of None = []
name_of (Some section) = section.name

abbrev pub section_name : List Section → ℕ → List ℕ
section_name names s = name_of (slice_get names s)

-- a process and an address, as A/00000200
abbrev pub place_text : ℕ → ℕ → List ℕ
place_text process address = process_name process ++ codes "/" ++ address_text address

-- a process and a slot, as A/2
abbrev pub slot_text : ℕ → ℕ → List ℕ
slot_text process slot = process_name process ++ codes "/" ++ decimal slot

-- a page of a section, as LIB/3
abbrev pub section_page_text : List Section → ℕ → ℕ → List ℕ
section_page_text names s page = section_name names s ++ (codes "/" ++ decimal page)

-- a page: a process and the first address, or a section and the number in it
abbrev pub page_text : List Section → Page → List ℕ
page_text names (Private p v) = place_text p.0 (PAGE_BYTES * v)
page_text names (Shared s i) = section_page_text names s.0 i

-- a block, as S:LIB/3, P:7 and X:A/2
abbrev pub block_text : List Section → BlockId → List ℕ
block_text names (block.Section s i) = codes "S:" ++ section_page_text names s.0 i
block_text names (block.PageFile b) = codes "P:" ++ decimal b
block_text names (block.Swap p n) = codes "X:" ++ slot_text p.0 n
