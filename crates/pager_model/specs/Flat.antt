-- The flat machine: what memory answers where no frame, list, flight or disk is seen. This
-- project's own; rights by the VAX Architecture Reference Manual.
use Rattle.std.specs.Prelude.{ℕ, Bool, true, false, ◌+◌, ◌%◌, ◌^◌, ◌&&◌, List, [], ◌++◌, Option, Some, None, length, take, drop, nat_eq, not, if◌then◌else◌}
use Rattle.std.specs.Int.{from_le_bytes, to_le_bytes, w8, w16, w32}
use Rattle.vm_types.specs.declared.limits.TheConstants.{PAGE_BYTES}
use Rattle.vm_types.specs.Access.{is_allowed}
use Rattle.vm_types.specs.declared.names.Page.{Page}
use Rattle.vm_types.specs.declared.names.Page.TheVariants.{Private, Shared}
use Rattle.vm_types.specs.declared.config.Config.{Config}
use Rattle.vm_types.specs.declared.config.Origin.{Origin}
use Rattle.vm_types.specs.declared.reference.Width.{Width as RefWidth}
use Rattle.vm_types.specs.declared.reference.Width.TheVariants.{One, Two, Four}
use Rattle.vm_types.specs.declared.reference.Op.{Op}
use Rattle.vm_types.specs.declared.reference.Op.TheVariants.{Read, Write, Add}
use Rattle.vm_types.specs.declared.reference.Ref.{Ref}
use Rattle.vm_types.specs.declared.reply.Reply.{Reply}
use Rattle.vm_types.specs.declared.reply.Reply.TheVariants as reply
use Rattle.vm_types.specs.declared.reply.Why.{Why}
use Rattle.vm_types.specs.declared.reply.Why.TheVariants as why
use Rattle.pager_model.specs.Maps.{Map, Mapped, first_bytes, first_map, is_paged, page_behind, page_number, section_bytes}
use Rattle.pager_model.specs.Sets.{at_page, has_page, with_page}

-- the maps, the paged pages touched so far, and the bytes of pages in files and of touched pages
pub record FlatState : Type 0 where
  pub map : Map
  pub touched : List Page
  pub stored : Page → List ℕ

-- a shared page's bytes in the configuration; a private page has none stored before it is touched
abbrev pub shared_bytes : Config → Page → List ℕ
shared_bytes config (Private p v) = []
shared_bytes config (Shared s i) = section_bytes config s.0 i

abbrev pub flat_start : Config → FlatState
flat_start config = record { map = first_map config; touched = []; stored = shared_bytes config }

abbrev pub is_untouched : Config → FlatState → Page → Bool
is_untouched config flat page = is_paged config page && not (has_page flat.touched page)

-- the bytes of a mapped page: those that its origin gives, until a paged page is touched
abbrev pub page_bytes : Config → FlatState → Page → Origin → List ℕ
page_bytes config flat page origin = if is_untouched config flat page then first_bytes config origin else flat.stored page

-- the number at an offset, least significant byte first
abbrev pub number_at : RefWidth → List ℕ → ℕ → ℕ
number_at Four bytes offset = from_le_bytes w32 (take 4 (drop offset bytes))
number_at Two bytes offset = from_le_bytes w16 (take 2 (drop offset bytes))
number_at One bytes offset = from_le_bytes w8 (take 1 (drop offset bytes))

-- the bytes with a number put at an offset
abbrev pub with_number : RefWidth → List ℕ → ℕ → ℕ → List ℕ
with_number Four bytes offset n = take offset bytes ++ to_le_bytes w32 n ++ drop (offset + 4) bytes
with_number Two bytes offset n = take offset bytes ++ to_le_bytes w16 n ++ drop (offset + 2) bytes
with_number One bytes offset n = take offset bytes ++ to_le_bytes w8 n ++ drop (offset + 1) bytes

abbrev pub is_change : Op → Bool
is_change (Read width) = false
is_change (Write width n) = true
is_change (Add n) = true

-- a reply by the bytes of the page
abbrev pub reply_from : Op → List ℕ → ℕ → Reply
reply_from (Read width) bytes offset = reply.Value (number_at width bytes offset)
reply_from (Write width n) bytes offset = reply.Written
reply_from (Add n) bytes offset = reply.Old (number_at Four bytes offset)

-- and the bytes afterwards; an add is modulo 2 ^ 32
abbrev pub bytes_after : Op → List ℕ → ℕ → List ℕ
bytes_after (Read width) bytes offset = bytes
bytes_after (Write width n) bytes offset = with_number width bytes offset n
bytes_after (Add n) bytes offset = with_number Four bytes offset ((number_at Four bytes offset + n) % 2 ^ 32)

-- the page file has a block for each touched paged page
abbrev pub is_page_file_full : Config → FlatState → Page → Bool
is_page_file_full config flat page = is_untouched config flat page && nat_eq (length flat.touched) config.pagefile

-- why the flat machine refuses a reference: no mapping, no right, or no page file block for a first touch
abbrev pub refusal_at : Config → FlatState → ℕ → Ref → Option Mapped → Option Why
refusal_at config flat p r None = Some why.Unmapped
refusal_at config flat p r (Some m) =
    if not (is_allowed m.prot r.mode (is_change r.op)) then Some why.Protected
    else (if is_page_file_full config flat (page_behind config p (page_number (r.addr).0) m.origin) then Some why.PageFileFull else None)

abbrev pub mapping_of : FlatState → ℕ → Ref → Option Mapped
mapping_of flat p r = flat.map p (page_number (r.addr).0)

abbrev pub flat_refusal : Config → FlatState → ℕ → Ref → Option Why
flat_refusal config flat p r = refusal_at config flat p r (mapping_of flat p r)

-- the bytes that an answered reference finds in its page
abbrev pub found_at : Config → FlatState → ℕ → Ref → Option Mapped → List ℕ
found_at config flat p r None = []
found_at config flat p r (Some m) = page_bytes config flat (page_behind config p (page_number (r.addr).0) m.origin) m.origin

abbrev pub offset_in_page : Ref → ℕ
offset_in_page r = (r.addr).0 % PAGE_BYTES

abbrev pub reply_unless : Option Why → Reply → Reply
reply_unless None answer = answer
reply_unless (Some reason) answer = reply.Refused reason

-- the reply to a reference of process p
abbrev pub flat_reply : Config → FlatState → ℕ → Ref → Reply
flat_reply config flat p r =
    reply_unless (flat_refusal config flat p r) (reply_from r.op (found_at config flat p r (mapping_of flat p r)) (offset_in_page r))

abbrev pub touched_with : Config → List Page → Page → List Page
touched_with config touched page = if is_paged config page then with_page touched page else touched

-- the state with a page's bytes stored and, where it is paged, touched
abbrev pub flat_with : Config → FlatState → Page → List ℕ → FlatState
flat_with config flat page bytes =
    record { map = flat.map; touched = touched_with config flat.touched page; stored = at_page flat.stored page bytes }

abbrev pub answered_at : Config → FlatState → ℕ → Ref → Option Mapped → FlatState
answered_at config flat p r None = flat
answered_at config flat p r (Some m) =
    flat_with config flat (page_behind config p (page_number (r.addr).0) m.origin)
    (bytes_after r.op (found_at config flat p r (Some m)) (offset_in_page r))

abbrev pub next_unless : Option Why → FlatState → FlatState → FlatState
next_unless None flat next = next
next_unless (Some reason) flat next = flat

-- the flat state after a reference of process p: a refusal leaves it
abbrev pub flat_next : Config → FlatState → ℕ → Ref → FlatState
flat_next config flat p r =
    next_unless (flat_refusal config flat p r) flat (answered_at config flat p r (mapping_of flat p r))
