-- The lines SECTION and DATA.
use Rattle.std.proofs.Common.{◌≡◌, ◌≢◌, ℕ, zero, suc, ◌+◌, ◌-◌, ◌*◌, ◌/◌, ◌%◌, ◌<◌, ◌≤◌, ◌^◌, Bool, true, false, not, leb, ltb, eqb, List, [], ◌∷◌, ◌++◌, map, flat_map, length, get_or, take, drop, replicate, All, AllPairs, Option, Some, None, Ok, refl, sym, ap, ap₂, subst, ◌∙◌, arith, lit<, eq-eqb, eqb-true, if◌then◌else◌, lt-ltb, le-leb, append_assoc, append-nil, length-append, cond, Err}
use Rattle.std.specs.Prelude.{codes, slice_get, position, sum_by, is_some, bytes_eq, decimal as printed}
use Rattle.std.specs.List.{AllByRecursion}
use Rattle.std.specs.Option.{option_map_or}
use Rattle.std.proofs.lemmas.Bool.{and_from, and_parts, true≢false}
use Rattle.std.proofs.lemmas.List.{map-append, length-map, length-replicate, length-take-le, length-drop, take_all, drop-replicate, replicate-append-replicate}
use Rattle.std.proofs.lemmas.List.Elements.{All-take, All-drop, All-replicate, recursion_from_All}
use Rattle.std.proofs.lemmas.List.Sums.{sum_by-cons}
use Rattle.std.proofs.Math.Seq.{take-add, take-append_seam, drop-append-add}
use Rattle.vm_types.specs.declared.limits.TheConstants.{MOST_SECTION_PAGES, PAGE_BYTES}
use Rattle.vm_types.specs.Configuration.{IsWellFormed, IsSection, IsName, section_pages}
use Rattle.vm_types.specs.Kinds.{is_paged_kind, paged_of}
use Rattle.vm_types.specs.declared.config.Config.{Config}
use Rattle.vm_types.specs.declared.config.Section.{Section}
use Rattle.vm_types.specs.declared.config.SectionKind.{SectionKind}
use Rattle.vm_types.specs.declared.config.SectionKind.TheVariants as kind
use Rattle.vm_types.specs.declared.config.Version.{Version}
use Rattle.vm_types.specs.Versions.{is_first}
use Rattle.trace_words.specs.declared.cause.Cause.TheVariants.{UnknownWord}
use Rattle.trace_lines.specs.declared.keywords.Keyword.TheVariants as keyword
use Rattle.trace_lines.specs.declared.part.Part.{Part}
use Rattle.trace_lines.specs.Declarations.{has_room, section_kind}
use Rattle.trace_lines.specs.Lookups.{bytes_at, has_file, number_named, section}
use Rattle.trace_lines.specs.Says as says
use Rattle.trace_reader.specs.Changes.{blank_section, overwritten, with_bytes, changed}
use Rattle.trace_spelling.specs.Laws.{IsTyped}
use Rattle.trace_spelling.specs.Lines.{kind_word, piece, pairs_text, are_zeros, piece_lines, below, data_lines}
use Rattle.trace_spelling.specs.Lines as lines
use Rattle.trace_spelling.proofs.Numbers.{number_read, within_read}
use Rattle.trace_spelling.proofs.Printing.{IsShortWord, literal, number_word, name_word}
use Rattle.trace_spelling.proofs.Words.{name_passes, length_pairs, pairs_read, pairs_plain}
use Rattle.trace_spelling.proofs.Leading.{line_of, Leads, leads_none, leads_line, leads_to, leads_append, leads_each, leads_many}
use Rattle.trace_spelling.proofs.Lists.{same_bytes, other_bytes, member, related, count_before, sum_before, position_at, position_none, position_map}
use Rattle.trace_spelling.proofs.Headers.{keyword_says, declaring}

-- the same section before its bytes are given
abbrev pub blank : Section → Section
blank x = blank_section x.name x.kind (section_pages x)

blank_pages : (x : Section) → section_pages (blank x) ≡ section_pages x
blank_pages x =
    let long : length (replicate (PAGE_BYTES * section_pages x) 0) ≡ PAGE_BYTES * section_pages x = length-replicate (PAGE_BYTES * section_pages x) 0 in
    ap (λ (n : ℕ). n / PAGE_BYTES) long ∙ whole (section_pages x) where
      whole : (n : ℕ) → (PAGE_BYTES * n) / PAGE_BYTES ≡ n
      whole n = omega arith

blank_sum : (xs : List Section) → sum_by section_pages (map blank xs) ≡ sum_by section_pages xs
blank_sum [] = refl
blank_sum (x ∷ xs) = omega (arith, sum_by-cons section_pages (blank x) (map blank xs), sum_by-cons section_pages x xs, blank_pages x, blank_sum xs)

abbrev pub names : List Section → List (List ℕ)
names sections = map (λ s. s.name) sections

blank_names : (xs : List Section) → names (map blank xs) ≡ names xs
blank_names [] = refl
blank_names (x ∷ xs) = ap (λ (ns : List (List ℕ)). x.name ∷ ns) (blank_names xs)

-- names that differ from this one
pub others_before : (before : List Section) (x : Section) (after all : List Section) → before ++ x ∷ after ≡ all → AllPairs (λ s t. s.name ≢ t.name) all → All (λ s. bytes_eq s.name x.name ≡ false) before
others_before before x after all e h k d lt = other_bytes (get_or before k d).name x.name (related (λ s t. s.name ≢ t.name) before x after all e h k d lt)

blank_number : (xs : List Section) (name : List ℕ) → number_named (map blank xs) name ≡ number_named xs name
blank_number xs name =
    position_map (λ (s : Section). s.name) (λ n. bytes_eq n name) (map blank xs)
    ∙ ap (position (λ n. bytes_eq n name)) (blank_names xs)
    ∙ sym (position_map (λ (s : Section). s.name) (λ n. bytes_eq n name) xs)

kind_read : (v : Version) (of_kind : SectionKind) → (is_paged_kind of_kind ≡ true → is_first v ≡ false) → section_kind v (kind_word of_kind) ≡ Ok of_kind
kind_read v kind.Shared known = refl
kind_read v kind.Crf known = refl
kind_read v kind.Paged known = ap (λ (b : Bool). cond b (Err UnknownWord) (Ok kind.Paged)) (known refl)

kind_is_word : (of_kind : SectionKind) → IsShortWord 6 (kind_word of_kind)
kind_is_word kind.Shared = literal 6 _ refl refl refl
kind_is_word kind.Crf = literal 6 _ refl refl refl
kind_is_word kind.Paged = literal 6 _ refl refl refl

-- a section with a byte that isn't zero has a file
zeros_pass : (bytes : List ℕ) → AllByRecursion (λ b. b ≡ 0) bytes → are_zeros bytes ≡ true
zeros_pass [] each = refl
zeros_pass (b ∷ bytes) each = and_from (eqb b 0) (are_zeros bytes) (eq-eqb b 0 each.0) (zeros_pass bytes each.1)

of_file : (v : Version) (x : Section) (k : ℕ) → IsSection v x → are_zeros (piece x.bytes k) ≡ false → is_paged_kind x.kind ≡ false
of_file v x k is some = go (is_paged_kind x.kind) refl where
  go : (b : Bool) → is_paged_kind x.kind ≡ b → is_paged_kind x.kind ≡ false
  go false e = e
  go true e =
      let all : All (λ b. b ≡ 0) x.bytes = subst (All (λ b. b ≡ 0)) (sym (is.paged e).1) (All-replicate (λ b. b ≡ 0) (length x.bytes) 0 refl) in
      let none : All (λ b. b ≡ 0) (piece x.bytes k) = All-take (λ b. b ≡ 0) 64 (drop (64 * k) x.bytes) (All-drop (λ b. b ≡ 0) (64 * k) x.bytes all) in
      absurd (true≢false (sym (zeros_pass (piece x.bytes k) (recursion_from_All (λ b. b ≡ 0) (piece x.bytes k) none)) ∙ some))

not_found : (o : Option ℕ) → o ≡ None → not (is_some o) ≡ true
not_found o e = rw e refl

pub sections_lead : (c : Config) → IsWellFormed c → Leads (declaring c (replicate 14 true) c.params c.bad [] [] [] []) (map lines.section_line c.sections) (declaring c (replicate 14 true) c.params c.bad (map blank c.sections) [] [] [])
sections_lead c w = leads_each lines.section_line (λ xs. declaring c (replicate 14 true) c.params c.bad (map blank xs) [] [] []) c.sections (λ before x after e.
    let part = declaring c (replicate 14 true) c.params c.bad (map blank before) [] [] [] in
    let is : IsSection c.version x = member (IsSection c.version) before x after c.sections e w.sections.each in
    let known : is_paged_kind x.kind ≡ true → is_first c.version ≡ false = λ paged. (is.paged paged).0 in
    let bytes : PAGE_BYTES ≤ length x.bytes = is.some in
    let some : 1 ≤ length x.bytes / PAGE_BYTES = omega arith in
    let sum = sum_before section_pages before x after c.sections e in
    let count = count_before before x after c.sections e in
    let few : length c.sections ≤ 64 = w.sections.few in
    let all_pages : sum_by section_pages c.sections ≤ MOST_SECTION_PAGES = w.sections.pages in
    let small : length x.bytes / PAGE_BYTES ≤ MOST_SECTION_PAGES = omega arith in
    let new : number_named (map blank before) x.name ≡ None = blank_number before x.name ∙ position_none (λ s. bytes_eq s.name x.name) before (others_before before x after c.sections e w.sections.differ) in
    let short : length (map blank before) < 64 = omega (arith, length-map before blank) in
    let inside : sum_by section_pages (map blank before) + length x.bytes / PAGE_BYTES ≤ MOST_SECTION_PAGES = omega (arith, blank_sum before) in
    let room : has_room (map blank before) (length x.bytes / PAGE_BYTES) ≡ true = and_from (ltb (length (map blank before)) 64) (leb (sum_by section_pages (map blank before) + length x.bytes / PAGE_BYTES) MOST_SECTION_PAGES) (lt-ltb (length (map blank before)) 64 short) (le-leb (sum_by section_pages (map blank before) + length x.bytes / PAGE_BYTES) MOST_SECTION_PAGES inside) in
    let unnamed = not_found (number_named (map blank before) x.name) new in
    leads_to part (changed part (says.Section x.name x.kind (length x.bytes / PAGE_BYTES))) (declaring c (replicate 14 true) c.params c.bad (map blank (before ++ x ∷ [])) [] [] []) (lines.section_line x ∷ [])
    (leads_line part (lines.section_line x) (says.Section x.name x.kind (length x.bytes / PAGE_BYTES)) refl
    (line_of (7 ∷ 15 ∷ 6 ∷ 10 ∷ []) (codes "SECTION") (x.name ∷ kind_word x.kind ∷ printed (length x.bytes / PAGE_BYTES) ∷ []) (literal 7 _ refl refl refl, (name_word x.name is.name, (kind_is_word x.kind, (number_word (length x.bytes / PAGE_BYTES) (omega arith), tt)))) (omega arith))
    (keyword_says part (codes "SECTION") (x.name ∷ kind_word x.kind ∷ printed (length x.bytes / PAGE_BYTES) ∷ []) keyword.Section refl refl refl refl
    ∙ (rw (name_passes x.name is.name, kind_read c.version x.kind known, within_read 1 4294967295 (length x.bytes / PAGE_BYTES) some (omega arith) (lit< tt), unnamed, room) refl)))
    (ap (λ (xs : List Section). declaring c (replicate 14 true) c.params c.bad xs [] [] []) (sym (map-append blank before (x ∷ [])))))

-- a section with so many of its pieces

abbrev begun : Section → ℕ → Section
begun x k = record x { bytes = take (64 * k) x.bytes ++ replicate (length x.bytes - 64 * k) 0 }

none_begun : (v : Version) (x : Section) → IsSection v x → begun x 0 ≡ blank x
none_begun v x is =
    let whole : length x.bytes % PAGE_BYTES ≡ 0 = is.whole in
    let long : length x.bytes - 64 * 0 ≡ PAGE_BYTES * (length x.bytes / PAGE_BYTES) = omega arith in
    ap (λ (n : ℕ). blank_bytes x (replicate n 0)) long where
      blank_bytes : Section → List ℕ → Section
      blank_bytes x bytes = record x { bytes = bytes }

all_begun : (v : Version) (x : Section) → IsSection v x → begun x (length x.bytes / 64) ≡ x
all_begun v x is =
    let whole : length x.bytes % PAGE_BYTES ≡ 0 = is.whole in
    let long : length x.bytes - 64 * (length x.bytes / 64) ≡ 0 = omega arith in
    let bytes : take (64 * (length x.bytes / 64)) x.bytes ++ replicate (length x.bytes - 64 * (length x.bytes / 64)) 0 ≡ x.bytes =
    ap (λ (n : ℕ). take (64 * (length x.bytes / 64)) x.bytes ++ replicate n 0) long ∙ append-nil (take (64 * (length x.bytes / 64)) x.bytes) ∙ take_all (64 * (length x.bytes / 64)) x.bytes (omega arith) in
    ap (λ (bs : List ℕ). record x { bytes = bs }) bytes

piece_length : (bytes : List ℕ) (k : ℕ) → 64 * (k + 1) ≤ length bytes → length (piece bytes k) ≡ 64
piece_length bytes k le = length-take-le 64 (drop (64 * k) bytes) (omega (arith, length-drop (64 * k) bytes))

one_piece : (bytes : List ℕ) (k : ℕ) → 64 * (k + 1) ≤ length bytes
    → overwritten (take (64 * k) bytes ++ replicate (length bytes - 64 * k) 0) (64 * k) (piece bytes k) ≡ take (64 * (k + 1)) bytes ++ replicate (length bytes - 64 * (k + 1)) 0
one_piece bytes k le =
    let long : length (take (64 * k) bytes) ≡ 64 * k = length-take-le (64 * k) bytes (omega arith) in
    let new : length (piece bytes k) ≡ 64 = piece_length bytes k le in
    let kept : take (64 * k) (take (64 * k) bytes ++ replicate (length bytes - 64 * k) 0) ≡ take (64 * k) bytes =
    ap (λ (n : ℕ). take n (take (64 * k) bytes ++ replicate (length bytes - 64 * k) 0)) (sym long) ∙ take-append_seam (take (64 * k) bytes) (replicate (length bytes - 64 * k) 0) in
    let place : 64 * k + length (piece bytes k) ≡ length (take (64 * k) bytes) + 64 = omega arith in
    let left : (length bytes - 64 * k) - 64 ≡ length bytes - 64 * (k + 1) = omega arith in
    let behind : drop (64 * k + length (piece bytes k)) (take (64 * k) bytes ++ replicate (length bytes - 64 * k) 0) ≡ replicate (length bytes - 64 * (k + 1)) 0 =
    ap (λ (n : ℕ). drop n (take (64 * k) bytes ++ replicate (length bytes - 64 * k) 0)) place
    ∙ drop-append-add (take (64 * k) bytes) (replicate (length bytes - 64 * k) 0) 64
    ∙ drop-replicate 64 (length bytes - 64 * k) 0
    ∙ ap (λ (n : ℕ). replicate n 0) left in
    let next : 64 * (k + 1) ≡ 64 * k + 64 = omega arith in
    let more : take (64 * (k + 1)) bytes ≡ take (64 * k) bytes ++ piece bytes k = ap (λ (n : ℕ). take n bytes) next ∙ take-add (64 * k) 64 bytes in
    ap (λ (xs : List ℕ). (xs ++ piece bytes k) ++ drop (64 * k + length (piece bytes k)) (take (64 * k) bytes ++ replicate (length bytes - 64 * k) 0)) kept
    ∙ ap (λ (xs : List ℕ). (take (64 * k) bytes ++ piece bytes k) ++ xs) behind
    ∙ ap (λ (xs : List ℕ). xs ++ replicate (length bytes - 64 * (k + 1)) 0) (sym more)

-- a piece of zeros is there already

zeros_are : (bytes : List ℕ) → are_zeros bytes ≡ true → bytes ≡ replicate (length bytes) 0
zeros_are [] e = refl
zeros_are (b ∷ bytes) e =
    let both = and_parts (eqb b 0) (are_zeros bytes) e in
    let here : b ≡ 0 = eqb-true b 0 both.0 in
    ap₂ (λ (x : ℕ) (xs : List ℕ). x ∷ xs) here (zeros_are bytes both.1)

zero_piece : (bytes : List ℕ) (k : ℕ) → 64 * (k + 1) ≤ length bytes → are_zeros (piece bytes k) ≡ true
    → take (64 * k) bytes ++ replicate (length bytes - 64 * k) 0 ≡ take (64 * (k + 1)) bytes ++ replicate (length bytes - 64 * (k + 1)) 0
zero_piece bytes k le e =
    let zeros : piece bytes k ≡ replicate 64 0 = zeros_are (piece bytes k) e ∙ ap (λ (n : ℕ). replicate n 0) (piece_length bytes k le) in
    let left : 64 + (length bytes - 64 * (k + 1)) ≡ length bytes - 64 * k = omega arith in
    let behind : piece bytes k ++ replicate (length bytes - 64 * (k + 1)) 0 ≡ replicate (length bytes - 64 * k) 0 =
    ap (λ (xs : List ℕ). xs ++ replicate (length bytes - 64 * (k + 1)) 0) zeros
    ∙ replicate-append-replicate 64 (length bytes - 64 * (k + 1)) 0 ∙ ap (λ (n : ℕ). replicate n 0) left in
    let next : 64 * (k + 1) ≡ 64 * k + 64 = omega arith in
    let more : take (64 * (k + 1)) bytes ≡ take (64 * k) bytes ++ piece bytes k = ap (λ (n : ℕ). take n bytes) next ∙ take-add (64 * k) 64 bytes in
    ap (λ (xs : List ℕ). take (64 * k) bytes ++ xs) (sym behind)
    ∙ sym (append_assoc (take (64 * k) bytes) (piece bytes k) (replicate (length bytes - 64 * (k + 1)) 0))
    ∙ ap (λ (xs : List ℕ). xs ++ replicate (length bytes - 64 * (k + 1)) 0) (sym more)

begun_length : (x : Section) (k : ℕ) → 64 * k ≤ length x.bytes → length (begun x k).bytes ≡ length x.bytes
begun_length x k le = omega (arith, length-append (take (64 * k) x.bytes) (replicate (length x.bytes - 64 * k) 0), length-take-le (64 * k) x.bytes le, length-replicate {A = ℕ} (length x.bytes - 64 * k) 0)

get_at : (before : List Section) (y : Section) (after : List Section) → slice_get (before ++ y ∷ after) (length before) ≡ Some y
get_at [] y after = refl
get_at (b ∷ before) y after = get_at before y after

bytes_there : (before : List Section) (y : Section) (after : List Section) → bytes_at (before ++ y ∷ after) (length before) ≡ length y.bytes
bytes_there before y after = ap (λ (o : Option Section). option_map_or (λ s. length s.bytes) o 0) (get_at before y after)

bytes_given : (before : List Section) (y : Section) (after : List Section) (at : ℕ) (new : List ℕ)
    → with_bytes (before ++ y ∷ after) (length before) at new ≡ before ++ record y { bytes = overwritten y.bytes at new } ∷ after
bytes_given [] y after at new = refl
bytes_given (b ∷ before) y after at new = ap (λ (xs : List Section). b ∷ xs) (bytes_given before y after at new)

-- a section is found by its name
pub section_found : (before : List Section) (y : Section) (after : List Section) (name : List ℕ) → IsName name → y.name ≡ name → All (λ s. bytes_eq s.name name ≡ false) before
    → section (before ++ y ∷ after) name ≡ Ok (length before)
section_found before y after name is same others =
    let here : bytes_eq y.name name ≡ true = ap (λ (n : List ℕ). bytes_eq n name) same ∙ same_bytes name in
    let found : number_named (before ++ y ∷ after) name ≡ Some (length before) = position_at (λ s. bytes_eq s.name name) before y after others here in
    rw (name_passes name is, found) refl

module _ (c : Config) (w : IsWellFormed c) (t : IsTyped c) (before : List Section) (x : Section) (after : List Section) (e : before ++ x ∷ after ≡ c.sections) where
  abbrev with_pieces : ℕ → Part
  with_pieces k = declaring c (replicate 14 true) c.params c.bad (before ++ begun x k ∷ map blank after) [] [] []

  is_section : IsSection c.version x
  is_section = member (IsSection c.version) before x after c.sections e w.sections.each

  bytes_small : All (λ b. b < 2 ^ 8) x.bytes
  bytes_small = member (λ (s : Section). All (λ b. b < 2 ^ 8) s.bytes) before x after c.sections e t.bytes

  few_bytes : length x.bytes ≤ MOST_SECTION_PAGES * PAGE_BYTES
  few_bytes =
      let whole : length x.bytes % PAGE_BYTES ≡ 0 = is_section.whole in
      let sum : sum_by section_pages before + length x.bytes / PAGE_BYTES ≤ sum_by section_pages c.sections = sum_before section_pages before x after c.sections e in
      let all_pages : sum_by section_pages c.sections ≤ MOST_SECTION_PAGES = w.sections.pages in
      let pages : length x.bytes / PAGE_BYTES ≤ MOST_SECTION_PAGES = omega (arith, sum, all_pages) in
      omega (arith, whole, pages)

  piece_leads : (k : ℕ) → 64 * (k + 1) ≤ length x.bytes → are_zeros (piece x.bytes k) ≡ false → Leads (with_pieces k) (lines.data_line x k ∷ []) (with_pieces (k + 1))
  piece_leads k le some =
      let most = few_bytes in
      let long = piece_length x.bytes k le in
      let here : section (before ++ begun x k ∷ map blank after) x.name ≡ Ok (length before) = section_found before (begun x k) (map blank after) x.name is_section.name refl (others_before before x after c.sections e w.sections.differ) in
      let small : All (λ b. b < 2 ^ 8) (piece x.bytes k) = All-take (λ b. b < 2 ^ 8) 64 (drop (64 * k) x.bytes) (All-drop (λ b. b < 2 ^ 8) (64 * k) x.bytes bytes_small) in
      let room : bytes_at (before ++ begun x k ∷ map blank after) (length before) ≡ length x.bytes = bytes_there before (begun x k) (map blank after) ∙ begun_length x k (omega arith) in
      let inside : leb (64 * k + length (piece x.bytes k)) (bytes_at (before ++ begun x k ∷ map blank after) (length before)) ≡ true = le-leb (64 * k + length (piece x.bytes k)) (bytes_at (before ++ begun x k ∷ map blank after) (length before)) (omega arith) in
      let file : has_file (before ++ begun x k ∷ map blank after) (length before) ≡ true = ap (λ (o : Option Section). not (paged_of o)) (get_at before (begun x k) (map blank after)) ∙ ap not (of_file c.version x k is_section some) in
      let digits : length (pairs_text (piece x.bytes k)) ≡ 2 * length (piece x.bytes k) = length_pairs (piece x.bytes k) in
      let word : IsShortWord 128 (pairs_text (piece x.bytes k)) = record { is = record { some = lt-ltb 0 (length (pairs_text (piece x.bytes k))) (omega arith); plain = pairs_plain (piece x.bytes k) }; short = omega arith } in
      leads_to (with_pieces k) (changed (with_pieces k) (says.Data (length before) (64 * k) (piece x.bytes k))) (with_pieces (k + 1)) (lines.data_line x k ∷ [])
      (leads_line (with_pieces k) (lines.data_line x k) (says.Data (length before) (64 * k) (piece x.bytes k)) refl
      (line_of (4 ∷ 15 ∷ 10 ∷ 128 ∷ []) (codes "DATA") (x.name ∷ printed (64 * k) ∷ pairs_text (piece x.bytes k) ∷ []) (literal 4 _ refl refl refl, (name_word x.name is_section.name, (number_word (64 * k) (omega arith), (word, tt)))) (omega arith))
      (keyword_says (with_pieces k) (codes "DATA") (x.name ∷ printed (64 * k) ∷ pairs_text (piece x.bytes k) ∷ []) keyword.Data refl refl refl refl
      ∙ (rw (here, file, number_read (64 * k) (omega arith), pairs_read (piece x.bytes k) (omega arith) (omega arith) small, inside) refl)))
      (ap (λ (xs : List Section). declaring c (replicate 14 true) c.params c.bad xs [] [] [])
      (bytes_given before (begun x k) (map blank after) (64 * k) (piece x.bytes k) ∙ ap (λ (bs : List ℕ). before ++ with_new bs ∷ map blank after) (one_piece x.bytes k le))) where
        with_new : List ℕ → Section
        with_new bs = record x { bytes = bs }

  zeros_lead : (k : ℕ) → 64 * (k + 1) ≤ length x.bytes → are_zeros (piece x.bytes k) ≡ true → Leads (with_pieces k) [] (with_pieces (k + 1))
  zeros_lead k le e =
      leads_to (with_pieces k) (with_pieces k) (with_pieces (k + 1)) [] (leads_none (with_pieces k))
      (ap (λ (bs : List ℕ). declaring c (replicate 14 true) c.params c.bad (before ++ with_new bs ∷ map blank after) [] [] []) (zero_piece x.bytes k le e)) where
        with_new : List ℕ → Section
        with_new bs = record x { bytes = bs }

  by_piece : (k : ℕ) → 64 * (k + 1) ≤ length x.bytes → (t : Bool) → are_zeros (piece x.bytes k) ≡ t → Leads (with_pieces k) (if t then [] else lines.data_line x k ∷ []) (with_pieces (k + 1))
  by_piece k le true e = zeros_lead k le e
  by_piece k le false e = piece_leads k le e

  pieces_lead : (n : ℕ) → 64 * n ≤ length x.bytes → Leads (with_pieces 0) (below (piece_lines x) n) (with_pieces n)
  pieces_lead zero le = leads_none (with_pieces 0)
  pieces_lead (suc n) le =
      let next : n + 1 ≡ suc n = omega arith in
      leads_append (with_pieces 0) (with_pieces n) (with_pieces (suc n)) (below (piece_lines x) n) (piece_lines x n) (pieces_lead n (omega arith))
      (subst (λ (m : ℕ). Leads (with_pieces n) (piece_lines x n) (with_pieces m)) next (by_piece n (omega arith) (are_zeros (piece x.bytes n)) refl))

  pub section_leads : Leads (declaring c (replicate 14 true) c.params c.bad (before ++ map blank (x ∷ after)) [] [] []) (data_lines x) (declaring c (replicate 14 true) c.params c.bad ((before ++ x ∷ []) ++ map blank after) [] [] [])
  section_leads =
      let first : before ++ begun x 0 ∷ map blank after ≡ before ++ map blank (x ∷ after) = ap (λ (y : Section). before ++ y ∷ map blank after) (none_begun c.version x is_section) in
      let last : before ++ begun x (length x.bytes / 64) ∷ map blank after ≡ (before ++ x ∷ []) ++ map blank after = ap (λ (y : Section). before ++ y ∷ map blank after) (all_begun c.version x is_section) ∙ sym (append_assoc before (x ∷ []) (map blank after)) in
      subst (λ (xs : List Section). Leads (declaring c (replicate 14 true) c.params c.bad xs [] [] []) (data_lines x) (declaring c (replicate 14 true) c.params c.bad ((before ++ x ∷ []) ++ map blank after) [] [] [])) first
      (subst (λ (xs : List Section). Leads (with_pieces 0) (data_lines x) (declaring c (replicate 14 true) c.params c.bad xs [] [] [])) last (pieces_lead (length x.bytes / 64) (omega arith)))

pub data_lead : (c : Config) → IsWellFormed c → IsTyped c → Leads (declaring c (replicate 14 true) c.params c.bad (map blank c.sections) [] [] []) (flat_map data_lines c.sections) (declaring c (replicate 14 true) c.params c.bad c.sections [] [] [])
data_lead c w t =
    subst (λ (xs : List Section). Leads (declaring c (replicate 14 true) c.params c.bad (map blank c.sections) [] [] []) (flat_map data_lines c.sections) (declaring c (replicate 14 true) c.params c.bad xs [] [] [])) (append-nil c.sections)
    (leads_many data_lines (λ before rest. declaring c (replicate 14 true) c.params c.bad (before ++ map blank rest) [] [] []) c.sections (λ before x after e. section_leads c w t before x after e))
