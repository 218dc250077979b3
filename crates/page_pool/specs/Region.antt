-- One region of memory for a pool's buffers, in parts of 512 bytes that have numbers. Source: this project's own.
use Rattle.std.specs.Prelude.{ℕ, ◌+◌, ◌*◌, List, [], ◌∷◌}
use Rattle.std.specs.Borrow.{Fml, ftrue, fsep, full_share, RattleType, Array, u8}
use Rattle.std.specs.Ptr.{Ptr, block_ptr, null_ptr, lies_at, room_for}
use Rattle.page_pool.specs.Tickets.{tickets_own}
use base.Fml.{flt}
use mir.Syntax.{Ty, w8, ty_int, ty_array}

-- 512 bytes, as a type of the machine, and so many of them side by side
abbrev pub page_type : Ty
page_type = ty_array (ty_int w8) 512

abbrev pub pages_type : ℕ → Ty
pages_type size = ty_array page_type size

-- 512 bytes, as values
abbrev pub Page : RattleType
Page = Array u8 512

-- the place of a part, by its number
abbrev pub place_of : Ptr → ℕ → Ptr
place_of (block_ptr b o) number = block_ptr b (number * 512 + o)
place_of null_ptr number = null_ptr

-- memory for each of the parts, whose numbers are below size
abbrev pub parts_own : Ptr → ℕ → List ℕ → Fml
parts_own start size [] = ftrue
parts_own start size (number ∷ numbers) = fsep (fsep (flt number size) (room_for page_type (place_of start number))) (parts_own start size numbers)

-- the parts that are in, each with its ticket
abbrev pub region_owns : ℕ → ℕ → Ptr → List ℕ → Fml
region_owns name size start numbers = fsep (tickets_own name start numbers) (parts_own start size numbers)

-- a part that is out, with its bytes and its ticket
abbrev pub part_owns : ℕ → ℕ → Ptr → Ptr → List ℕ → Fml
part_owns name number start at bytes = fsep (lies_at Page full_share at bytes) (tickets_own name start (number ∷ []))

-- a part that is out and isn't written yet, with its ticket
abbrev pub spare_owns : ℕ → ℕ → Ptr → Ptr → Fml
spare_owns name number start at = fsep (room_for page_type at) (tickets_own name start (number ∷ []))
