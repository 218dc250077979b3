-- The lines PROCESS, MAPZERO and MAPSEC.
use Rattle.std.proofs.Common.{◌≡◌, ℕ, ◌+◌, ◌*◌, ◌%◌, ◌<◌, ◌≤◌, ◌^◌, true, false, leb, ltb, eqb, ◌&&◌, List, [], ◌∷◌, ◌++◌, map, length, replicate, Option, Some, Ok, refl, sym, ap, subst, ◌∙◌, arith, inl, inr, lit<, lt-ltb, le-leb, le-ltb, ne_eqb, eq-eqb, append_assoc, append-nil, length-append, ◌⊎◌, ◌-◌}
use Rattle.std.specs.Prelude.{codes, slice_get, position, sum_by, bytes_eq, decimal as printed}
use Rattle.std.specs.List.{list_any}
use Rattle.std.specs.Option.{option_map_or}
use Rattle.std.proofs.lemmas.Bool.{and_from, and_left, and_right, or_left, or_right}
use Rattle.vm_types.specs.declared.limits.TheConstants.{MOST_EXTENT, MOST_SECTION_PAGES, P0_PAGES, P1_PAGES, PAGE_BYTES}
use Rattle.vm_types.specs.Configuration.{IsWellFormed, AreSections, IsName, IsSection, IsProcess, IsMapping, AreApart, all_pins, section_pages}
use Rattle.vm_types.specs.WellFormed.{IsRange}
use Rattle.vm_types.specs.declared.config.Config.{Config}
use Rattle.vm_types.specs.declared.config.Mapping.{Mapping}
use Rattle.vm_types.specs.declared.config.Origin.{Origin}
use Rattle.vm_types.specs.declared.config.Origin.TheVariants as origin
use Rattle.vm_types.specs.declared.config.ProcSpec.{ProcSpec}
use Rattle.vm_types.specs.declared.config.Section.{Section}
use Rattle.vm_types.specs.declared.config.Version.{Version}
use Rattle.vm_text.specs.Names.{process_name, section_name, address_text, name_of}
use Rattle.vm_text.specs.Services.{protection_name}
use Rattle.trace_words.proofs.Codes.{protection_read}
use Rattle.trace_lines.specs.declared.keywords.Keyword.TheVariants as keyword
use Rattle.trace_lines.specs.declared.part.Part.{Part}
use Rattle.trace_lines.specs.Declarations.{are_ordered}
use Rattle.trace_lines.specs.Lookups.{process, section, number_named, pages_at, aligned, is_inside}
use Rattle.trace_lines.specs.Mappings.{overlaps}
use Rattle.trace_lines.specs.Says as says
use Rattle.trace_spelling.specs.Lines.{process_line, process_lines, map_words, map_line}
use Rattle.trace_spelling.proofs.Numbers.{number_read, within_read, hexadecimal_read}
use Rattle.trace_spelling.proofs.Printing.{IsShortWord, literal, number_word, hex_word, name_word}
use Rattle.trace_spelling.proofs.Words.{letter_read, letter_word, name_passes, protection_word}
use Rattle.trace_spelling.proofs.Leading.{line_of, Leads, leads_none, leads_line, leads_append, leads_each}
use Rattle.trace_spelling.proofs.Lists.{same_bytes, member, none_before, count_before, sum_before, parted, position_at}
use Rattle.trace_spelling.proofs.Headers.{keyword_says, declaring}
use Rattle.trace_spelling.proofs.Sections.{others_before}

-- PROCESS

abbrev with_procs : Config → List ProcSpec → Part
with_procs c procs = declaring c (replicate 14 true) c.params c.bad c.sections procs [] []

process_leads : (c : Config) → IsWellFormed c → (before : List ProcSpec) (x : ProcSpec) (after : List ProcSpec) → before ++ x ∷ after ≡ c.procs
    → Leads (with_procs c before) (process_line (length before) x ∷ []) (with_procs c (before ++ x ∷ []))
process_leads c w before x after e =
    let part = with_procs c before in
    let is : IsProcess c.frames (length c.bad + all_pins c) x = member (IsProcess c.frames (length c.bad + all_pins c)) before x after c.procs e w.procs in
    let count = count_before before x after c.procs e in
    let few : length c.procs ≤ 16 = w.some_process.1 in
    let locks : x.locks + 2 ≤ x.limit = is.limited.locks in
    let quota : x.limit ≤ x.quota = is.limited.quota in
    let extent : x.quota ≤ x.extent = is.limited.extent in
    let most : x.extent ≤ MOST_EXTENT = is.limited.most in
    let here : length before < 16 = omega arith in
    let ordered : are_ordered x ≡ true =
    and_from (leb (x.locks + 2) x.limit && leb x.limit x.quota) (leb x.quota x.extent)
    (and_from (leb (x.locks + 2) x.limit) (leb x.limit x.quota) (le-leb (x.locks + 2) x.limit locks) (le-leb x.limit x.quota quota)) (le-leb x.quota x.extent extent) in
    leads_line part (process_line (length before) x) (says.Process x) refl
    (line_of (7 ∷ 1 ∷ 10 ∷ 10 ∷ 10 ∷ 10 ∷ []) (codes "PROCESS") (process_name (length before) ∷ printed x.limit ∷ printed x.quota ∷ printed x.extent ∷ printed x.locks ∷ [])
    (literal 7 _ refl refl refl, (letter_word (length before) (omega arith), (number_word x.limit (omega arith), (number_word x.quota (omega arith), (number_word x.extent (omega arith), (number_word x.locks (omega arith), tt)))))) (omega arith))
    (keyword_says part (codes "PROCESS") (process_name (length before) ∷ printed x.limit ∷ printed x.quota ∷ printed x.extent ∷ printed x.locks ∷ []) keyword.Process refl refl refl refl
    ∙ (rw (letter_read (length before) (omega arith), eq-eqb (length before) (length before) refl, number_read x.limit (omega arith), number_read x.quota (omega arith), within_read 0 MOST_EXTENT x.extent (omega arith) most (lit< tt), number_read x.locks (omega arith), ordered, lt-ltb (length before) 16 here) refl))

processes_from : (c : Config) → IsWellFormed c → (p : ℕ) (before rest : List ProcSpec) → length before ≡ p → before ++ rest ≡ c.procs → Leads (with_procs c before) (process_lines p rest) (with_procs c c.procs)
processes_from c w p before [] at e = subst (λ (xs : List ProcSpec). Leads (with_procs c before) [] (with_procs c xs)) (sym (append-nil before) ∙ e) (leads_none (with_procs c before))
processes_from c w p before (x ∷ rest) at e =
    leads_append (with_procs c before) (with_procs c (before ++ x ∷ [])) (with_procs c c.procs) (process_line p x ∷ []) (process_lines (p + 1) rest)
    (subst (λ (n : ℕ). Leads (with_procs c before) (process_line n x ∷ []) (with_procs c (before ++ x ∷ []))) at (process_leads c w before x rest e))
    (processes_from c w (p + 1) (before ++ x ∷ []) rest (omega (arith, length-append before (x ∷ []), at)) (append_assoc before (x ∷ []) rest ∙ e))

pub processes_lead : (c : Config) → IsWellFormed c → Leads (declaring c (replicate 14 true) c.params c.bad c.sections [] [] []) (process_lines 0 c.procs) (declaring c (replicate 14 true) c.params c.bad c.sections c.procs [] [])
processes_lead c w = processes_from c w 0 [] c.procs refl refl

-- what words name

pub process_read : (procs : List ProcSpec) (p : ℕ) → p < length procs → length procs ≤ 16 → process procs (process_name p) ≡ Ok p
process_read procs p there few = rw (letter_read p (omega arith), lt-ltb p (length procs) there) refl

pub aligned_read : (bytes at : ℕ) → at < 2 ^ 32 → at % bytes ≡ 0 → aligned bytes (address_text at) ≡ Ok at
aligned_read bytes at small whole = rw (hexadecimal_read 8 at (omega arith) (omega arith) small, eq-eqb (at % bytes) 0 whole) refl

pub inside_read : (at pages : ℕ) → IsRange at pages → is_inside at pages ≡ true
inside_read at pages is = by_region is.inside where
  by_region : (at + PAGE_BYTES * pages ≤ PAGE_BYTES * P0_PAGES) ⊎ ((2 ^ 31 - PAGE_BYTES * P1_PAGES ≤ at) × (at + PAGE_BYTES * pages ≤ 2 ^ 31)) → is_inside at pages ≡ true
  by_region (inl low) = or_left (leb (at + PAGE_BYTES * pages) (PAGE_BYTES * P0_PAGES)) (leb (2 ^ 31 - PAGE_BYTES * P1_PAGES) at && leb (at + PAGE_BYTES * pages) (2 ^ 31)) (le-leb (at + PAGE_BYTES * pages) (PAGE_BYTES * P0_PAGES) (omega arith))
  by_region (inr high) = or_right (leb (at + PAGE_BYTES * pages) (PAGE_BYTES * P0_PAGES)) (leb (2 ^ 31 - PAGE_BYTES * P1_PAGES) at && leb (at + PAGE_BYTES * pages) (2 ^ 31))
      (and_from (leb (2 ^ 31 - PAGE_BYTES * P1_PAGES) at) (leb (at + PAGE_BYTES * pages) (2 ^ 31)) (le-leb (2 ^ 31 - PAGE_BYTES * P1_PAGES) at high.0) (le-leb (at + PAGE_BYTES * pages) (2 ^ 31) high.1))

pub range_small : (at pages : ℕ) → IsRange at pages → at < 2 ^ 31
range_small at pages is = by_region is.inside where
  by_region : (at + PAGE_BYTES * pages ≤ PAGE_BYTES * P0_PAGES) ⊎ ((2 ^ 31 - PAGE_BYTES * P1_PAGES ≤ at) × (at + PAGE_BYTES * pages ≤ 2 ^ 31)) → at < 2 ^ 31
  by_region (inl low) = omega (arith, is.some)
  by_region (inr high) = omega (arith, is.some, high.1)

pub record IsFound (sections : List Section) (s : ℕ) (x : Section) : Type 0 where
  pub named : section_name sections s ≡ x.name
  pub name : IsName x.name
  pub number : number_named sections x.name ≡ Some s
  pub pages : pages_at sections s ≡ section_pages x
  pub few : section_pages x ≤ MOST_SECTION_PAGES

pub found : (v : Version) (sections : List Section) → AreSections v sections → (s : ℕ) (x : Section) → slice_get sections s ≡ Some x → IsFound sections s x
found v sections are s x e =
    let at = parted sections s x e in
    let total : sum_by section_pages sections ≤ MOST_SECTION_PAGES = are.pages in
    let here : position (λ (y : Section). bytes_eq y.name x.name) (at.0 ++ x ∷ at.1) ≡ Some (length at.0) = position_at (λ (y : Section). bytes_eq y.name x.name) at.0 x at.1 (others_before at.0 x at.1 sections at.2 are.differ) (same_bytes x.name) in
    record {
      named = ap name_of e;
      name = (member (IsSection v) at.0 x at.1 sections at.2 are.each).name;
      number = ap (λ (ys : List Section). number_named ys x.name) (sym at.2) ∙ here ∙ ap (λ (n : ℕ). Some n) at.3;
      pages = ap (λ (o : Option Section). option_map_or section_pages o 0) e;
      few = (let sum = sum_before section_pages at.0 x at.1 sections at.2 in omega arith);
    }

pub section_read : (sections : List Section) (s : ℕ) (x : Section) → IsFound sections s x → section sections (section_name sections s) ≡ Ok s
section_read sections s x f = rw (f.named, name_passes x.name f.name, f.number) refl

-- MAPZERO and MAPSEC

apart_differ : (m n : Mapping) → AreApart m n → overlaps m n ≡ false
apart_differ m n (inl procs) = and_left (eqb (m.proc).0 (n.proc).0 && ltb (m.at).0 ((n.at).0 + PAGE_BYTES * n.pages)) (ltb (n.at).0 ((m.at).0 + PAGE_BYTES * m.pages)) (and_left (eqb (m.proc).0 (n.proc).0) (ltb (m.at).0 ((n.at).0 + PAGE_BYTES * n.pages)) (ne_eqb (m.proc).0 (n.proc).0 procs))
apart_differ m n (inr (inl before)) = and_right (eqb (m.proc).0 (n.proc).0 && ltb (m.at).0 ((n.at).0 + PAGE_BYTES * n.pages)) (ltb (n.at).0 ((m.at).0 + PAGE_BYTES * m.pages)) (le-ltb (n.at).0 ((m.at).0 + PAGE_BYTES * m.pages) before)
apart_differ m n (inr (inr behind)) = and_left (eqb (m.proc).0 (n.proc).0 && ltb (m.at).0 ((n.at).0 + PAGE_BYTES * n.pages)) (ltb (n.at).0 ((m.at).0 + PAGE_BYTES * m.pages)) (and_right (eqb (m.proc).0 (n.proc).0) (ltb (m.at).0 ((n.at).0 + PAGE_BYTES * n.pages)) (le-ltb (m.at).0 ((n.at).0 + PAGE_BYTES * n.pages) behind))

abbrev with_maps : Config → List Mapping → Part
with_maps c maps = declaring c (replicate 14 true) c.params c.bad c.sections c.procs maps []

-- the mapping with this origin
abbrev from : Mapping → Origin → Mapping
from m o = record m { from = o }

map_leads : (c : Config) → IsWellFormed c → (before : List Mapping) (m : Mapping) (o : Origin) → IsMapping (length c.procs) c.sections (from m o) → list_any (λ b. overlaps b (from m o)) before ≡ false
    → Leads (with_maps c before) (map_words c.sections m o ∷ []) (with_maps c (before ++ from m o ∷ []))
map_leads c w before m origin.Zero is new =
    let part = with_maps c before in
    let few : length c.procs ≤ 16 = w.some_process.1 in
    let there : (m.proc).0 < length c.procs = is.proc in
    let small = range_small (m.at).0 m.pages is.range in
    let pages : m.pages ≤ P0_PAGES = is.range.few in
    leads_line part (map_words c.sections m origin.Zero) (says.Map (from m origin.Zero)) refl
    (line_of (7 ∷ 1 ∷ 8 ∷ 10 ∷ 4 ∷ []) (codes "MAPZERO") (process_name (m.proc).0 ∷ address_text (m.at).0 ∷ printed m.pages ∷ protection_name m.prot ∷ [])
    (literal 7 _ refl refl refl, (letter_word (m.proc).0 (omega arith), (hex_word 8 (m.at).0 (omega arith), (number_word m.pages (omega arith), (protection_word m.prot is.code, tt))))) (omega arith))
    (keyword_says part (codes "MAPZERO") (process_name (m.proc).0 ∷ address_text (m.at).0 ∷ printed m.pages ∷ protection_name m.prot ∷ []) keyword.MapZero refl refl refl refl
    ∙ (rw (process_read c.procs (m.proc).0 there few, aligned_read PAGE_BYTES (m.at).0 (omega arith) is.range.aligned, within_read 1 P0_PAGES m.pages is.range.some is.range.few (lit< tt), protection_read m.prot is.code, inside_read (m.at).0 m.pages is.range, new) refl))
map_leads c w before m (origin.Section s first) is new =
    let part = with_maps c before in
    let few : length c.procs ≤ 16 = w.some_process.1 in
    let there : (m.proc).0 < length c.procs = is.proc in
    let small = range_small (m.at).0 m.pages is.range in
    let pages : m.pages ≤ P0_PAGES = is.range.few in
    let f = found c.version c.sections w.sections s.0 is.origin.0 is.origin.1 in
    let last : first + m.pages ≤ section_pages is.origin.0 = is.origin.2 in
    let most : section_pages is.origin.0 ≤ MOST_SECTION_PAGES = f.few in
    let count : pages_at c.sections s.0 ≡ section_pages is.origin.0 = f.pages in
    let within : leb (first + m.pages) (pages_at c.sections s.0) ≡ true = le-leb (first + m.pages) (pages_at c.sections s.0) (omega arith) in
    let name_short : IsShortWord 15 (section_name c.sections s.0) = subst (IsShortWord 15) (sym f.named) (name_word is.origin.0.name f.name) in
    leads_line part (map_words c.sections m (origin.Section s first)) (says.Map (from m (origin.Section s first))) refl
    (line_of (6 ∷ 1 ∷ 8 ∷ 10 ∷ 15 ∷ 10 ∷ 4 ∷ []) (codes "MAPSEC") (process_name (m.proc).0 ∷ address_text (m.at).0 ∷ printed m.pages ∷ section_name c.sections s.0 ∷ printed first ∷ protection_name m.prot ∷ [])
    (literal 6 _ refl refl refl, (letter_word (m.proc).0 (omega arith), (hex_word 8 (m.at).0 (omega arith), (number_word m.pages (omega arith), (name_short, (number_word first (omega arith), (protection_word m.prot is.code, tt))))))) (omega arith))
    (keyword_says part (codes "MAPSEC") (process_name (m.proc).0 ∷ address_text (m.at).0 ∷ printed m.pages ∷ section_name c.sections s.0 ∷ printed first ∷ protection_name m.prot ∷ []) keyword.MapSection refl refl refl refl
    ∙ (rw (process_read c.procs (m.proc).0 there few, aligned_read PAGE_BYTES (m.at).0 (omega arith) is.range.aligned, within_read 1 P0_PAGES m.pages is.range.some is.range.few (lit< tt), section_read c.sections s.0 is.origin.0 f, number_read first (omega arith), protection_read m.prot is.code, within, inside_read (m.at).0 m.pages is.range, new) refl))

pub maps_lead : (c : Config) → IsWellFormed c → Leads (declaring c (replicate 14 true) c.params c.bad c.sections c.procs [] []) (map (map_line c.sections) c.maps) (declaring c (replicate 14 true) c.params c.bad c.sections c.procs c.maps [])
maps_lead c w = leads_each (map_line c.sections) (λ maps. declaring c (replicate 14 true) c.params c.bad c.sections c.procs maps []) c.maps (λ before m after e.
    map_leads c w before m m.from (member (IsMapping (length c.procs) c.sections) before m after c.maps e w.maps)
    (none_before AreApart (λ b. overlaps b m) before m after c.maps e w.maps_apart (λ b apart. apart_differ b m apart)))
