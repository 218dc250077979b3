-- The lines FAIL.
use Rattle.std.proofs.Common.{◌≡◌, ◌≢◌, ℕ, zero, suc, ◌+◌, ◌*◌, ◌<◌, ◌≤◌, ◌^◌, true, false, not, leb, ltb, eqb, ◌&&◌, List, [], ◌∷◌, ◌++◌, map, length, get_or, replicate, All, Option, Some, Ok, refl, sym, ap, ap₂, subst, ◌∙◌, arith, inl, inr, lit<, lt-ltb, le-leb, eqb-true, ltb-true, length-append, Bool, cond}
use Rattle.std.specs.Prelude.{codes, slice_index, decimal as printed}
use Rattle.std.specs.List.{list_any, list_all}
use Rattle.std.specs.Option.{option_map_or}
use Rattle.std.proofs.lemmas.Bool.{and_from, and_parts, false_from_ne_true, not_from_false}
use Rattle.std.proofs.lemmas.List.{length-map}
use Rattle.std.proofs.lemmas.List.Elements.{All-head, All-tail}
use Rattle.vm_types.specs.declared.limits.TheConstants.{MOST_BLOCKS, MOST_EXTENT, MOST_SECTION_PAGES}
use Rattle.vm_types.specs.Configuration.{IsWellFormed, IsName, IsNameByte, IsBlock, IsProcess, AreFails, section_pages, all_pins}
use Rattle.vm_types.specs.Kinds.{paged_of}
use Rattle.vm_types.specs.SectionBlocks.{section_block_count}
use Rattle.vm_types.specs.declared.config.Config.{Config}
use Rattle.vm_types.specs.declared.config.Fails.{Fails}
use Rattle.vm_types.specs.declared.config.ProcSpec.{ProcSpec}
use Rattle.vm_types.specs.declared.config.Section.{Section}
use Rattle.vm_types.specs.declared.names.BlockId.{BlockId}
use Rattle.vm_types.specs.declared.names.BlockId.TheVariants as block
use Rattle.vm_types.specs.declared.names.Proc.{Proc}
use Rattle.vm_types.specs.declared.names.SecId.{SecId}
use Rattle.vm_text.specs.Names.{process_name, block_text}
use Rattle.vm_text.proofs.Decimals.{byte_in, no_zero_first}
use Rattle.trace_words.specs.BlockWords.{Named, Section as InSection, PageFile as InPageFile, Swap as InSwap, is_digit, has_leading_zero, is_plain, plain_number, block_name, section_parts, swap_parts}
use Rattle.trace_words.specs.Words.{cut_at}
use Rattle.trace_words.proofs.Splitting.{cut_found}
use Rattle.trace_lines.specs.declared.keywords.Keyword.TheVariants as keyword
use Rattle.trace_lines.specs.declared.part.Part.{Part}
use Rattle.trace_lines.specs.Fails.{is_same, slots_at, block_named, call_numbers}
use Rattle.trace_lines.specs.Lookups.{blocks_at}
use Rattle.trace_lines.specs.Says as says
use Rattle.trace_spelling.specs.Laws.{IsTyped}
use Rattle.trace_spelling.specs.Lines.{fail_line}
use Rattle.trace_spelling.proofs.Numbers.{number_read, within_read, printed_some}
use Rattle.trace_spelling.proofs.Printing.{IsShortWord, literal, number_word, name_word, passes_each, passes_both}
use Rattle.trace_spelling.proofs.Printing as printing
use Rattle.trace_spelling.proofs.Words.{letter_read, letter_word, name_passes}
use Rattle.trace_spelling.proofs.Leading.{AreShort, total, line_of, Leads, leads_line, leads_each}
use Rattle.trace_spelling.proofs.Lists.{member, none_before, parted, count_before}
use Rattle.trace_spelling.proofs.Headers.{keyword_says, declaring}
use Rattle.trace_spelling.proofs.Mapped.{found}

-- numbers without leading zeros

no_leading_zero : (n : ℕ) → n < 2 ^ 32 → has_leading_zero (printed n) ≡ false
no_leading_zero n small = false_from_ne_true (has_leading_zero (printed n)) (λ e.
    let both = and_parts (ltb 1 (length (printed n))) (eqb (slice_index (printed n) 0) 48) e in
    let long = ltb-true 1 (length (printed n)) both.0 in
    let short = no_zero_first (printed n) n (omega arith) refl (eqb-true (slice_index (printed n) 0) 48 both.1) in
    omega (arith, long, short))

plain_read : (n : ℕ) → n < 2 ^ 32 → plain_number (printed n) ≡ Ok n
plain_read n small =
    let some : ltb 0 (length (printed n)) ≡ true = lt-ltb 0 (length (printed n)) (omega (arith, printed_some n small)) in
    let digits : list_all is_digit (printed n) ≡ true = passes_each is_digit (printed n) (λ i lt. let range = byte_in (printed n) n (omega arith) refl i lt in and_from (leb 48 (get_or (printed n) i 0)) (leb (get_or (printed n) i 0) 57) (le-leb 48 (get_or (printed n) i 0) range.0) (le-leb (get_or (printed n) i 0) 57 range.1)) in
    let plain : is_plain (printed n) ≡ true = and_from (ltb 0 (length (printed n)) && not (has_leading_zero (printed n))) (list_all is_digit (printed n)) (and_from (ltb 0 (length (printed n))) (not (has_leading_zero (printed n))) some (not_from_false (has_leading_zero (printed n)) (no_leading_zero n small))) digits in
    rw (plain, number_read n small) refl

-- names of blocks

no_slash : (b : ℕ) → IsNameByte b → b ≢ 47
no_slash b (inl letter) e = omega (arith, letter.0, e)
no_slash b (inr (inl digit)) e = omega (arith, digit.0, e)
no_slash b (inr (inr line)) e = omega (arith, line, e)

section_block_read : (name : List ℕ) (page : ℕ) → IsName name → page < 2 ^ 32 → block_name (83 ∷ 58 ∷ (name ++ 47 ∷ printed page)) ≡ Ok (InSection name page)
section_block_read name page is small =
    let cut : cut_at 47 (name ++ 47 ∷ printed page) ≡ Some (name, printed page) = cut_found 47 (name ++ 47 ∷ printed page) name (printed page) (λ k d lt. no_slash (get_or name k d) (is.bytes k d lt)) refl in
    ap section_parts cut ∙ (rw (name_passes name is, plain_read page small) refl)

swap_block_read : (p slot : ℕ) → p < 26 → slot < 2 ^ 32 → block_name (88 ∷ 58 ∷ (65 + p) ∷ 47 ∷ printed slot) ≡ Ok (InSwap p slot)
swap_block_read p slot few small =
    let cut : cut_at 47 ((65 + p) ∷ 47 ∷ printed slot) ≡ Some (process_name p, printed slot) = cut_found 47 ((65 + p) ∷ 47 ∷ printed slot) (process_name p) (printed slot) (no_letter p) refl in
    ap swap_parts cut ∙ (rw (letter_read p few, plain_read slot small) refl) where
      no_letter : (p : ℕ) → All (λ b. b ≢ 47) (process_name p)
      no_letter p zero d lt = λ e. absurd (omega arith)
      no_letter p (suc k) d lt = absurd (omega arith)

begins : (b : ℕ) (more : List ℕ) → ltb 0 (length (b ∷ more)) ≡ true
begins b more = lt-ltb 0 (length (b ∷ more)) (omega arith)

record IsBlockRead (c : Config) (id : BlockId) : Type 0 where
  pub word : IsShortWord 28 (block_text c.sections id)
  pub name : Named
  pub named : block_name (block_text c.sections id) ≡ Ok name
  pub there : block_named c name ≡ Ok id

block_read : (c : Config) → IsWellFormed c → (id : BlockId) → IsBlock c id → IsBlockRead c id
block_read c w (block.Section s page) is =
    let there = is.0 in
    let f = found c.version c.sections w.sections s.0 there.0 there.1 in
    let inside : page < section_pages there.0 = there.2 in
    let most : section_pages there.0 ≤ MOST_SECTION_PAGES = f.few in
    let blocks : blocks_at c.sections s.0 ≡ section_pages there.0 = ap (λ (o : Option Section). option_map_or section_block_count o 0) there.1 ∙ ap (λ (b : Bool). cond b 0 (section_pages there.0)) (ap paged_of (sym there.1) ∙ is.1) in
    let text : block_text c.sections (block.Section s page) ≡ 83 ∷ 58 ∷ (there.0.name ++ 47 ∷ printed page) = ap (λ (n : List ℕ). 83 ∷ 58 ∷ (n ++ 47 ∷ printed page)) f.named in
    let below : ltb page (blocks_at c.sections s.0) ≡ true = lt-ltb page (blocks_at c.sections s.0) (omega (arith, blocks, inside)) in
    let number = number_word page (omega arith) in
    let name = name_word there.0.name f.name in
    record {
      word = subst (IsShortWord 28) (sym text) (record {
        is = record { some = begins 83 (58 ∷ (there.0.name ++ 47 ∷ printed page)); plain = passes_both printing.is_plain (83 ∷ 58 ∷ there.0.name) (47 ∷ printed page) name.is.plain number.is.plain };
        short = omega (arith, length-append there.0.name (47 ∷ printed page), name.short, number.short);
      });
      name = InSection there.0.name page;
      named = ap block_name text ∙ section_block_read there.0.name page f.name (omega arith);
      there = rw (f.number, below) refl;
    }
block_read c w (block.PageFile b) is =
    let most : c.pagefile ≤ MOST_BLOCKS = w.pagefile.1 in
    let below : b < c.pagefile = is in
    let number = number_word b (omega arith) in
    record {
      word = record { is = record { some = begins 80 (58 ∷ printed b); plain = number.is.plain }; short = omega (arith, number.short) };
      name = InPageFile b;
      named = rw (plain_read b (omega arith)) refl;
      there = rw (lt-ltb b c.pagefile below) refl;
    }
block_read c w (block.Swap p slot) is =
    let at = parted c.procs p.0 is.0 is.1 in
    let spec : IsProcess c.frames (length c.bad + all_pins c) is.0 = member (IsProcess c.frames (length c.bad + all_pins c)) at.0 is.0 at.1 c.procs at.2 w.procs in
    let most : is.0.extent ≤ MOST_EXTENT = spec.limited.most in
    let below : slot < is.0.extent = is.2 in
    let count = count_before at.0 is.0 at.1 c.procs at.2 in
    let few : length c.procs ≤ 16 = w.some_process.1 in
    let place : length at.0 ≡ p.0 = at.3 in
    let number = number_word slot (omega arith) in
    let letter = letter_word p.0 (omega arith) in
    let slots : slots_at c.procs p.0 ≡ is.0.extent = ap (λ (o : Option ProcSpec). option_map_or (λ x. x.extent) o 0) is.1 in
    record {
      word = record {
        is = record { some = begins 88 (58 ∷ (65 + p.0) ∷ 47 ∷ printed slot); plain = passes_both printing.is_plain (process_name p.0) (47 ∷ printed slot) letter.is.plain number.is.plain };
        short = omega (arith, number.short);
      };
      name = InSwap p.0 slot;
      named = swap_block_read p.0 slot (omega arith) (omega arith);
      there = rw (lt-ltb slot (slots_at c.procs p.0) (omega arith)) refl;
    }

-- calls

calls_read : (place : ℕ) (calls : List ℕ) → All (λ n. 1 ≤ n) calls → All (λ n. n < 2 ^ 32) calls → call_numbers place (map printed calls) ≡ Ok calls
calls_read place [] some small = refl
calls_read place (n ∷ calls) some small =
    let low = All-head (λ n. 1 ≤ n) n calls some in
    let high = All-head (λ n. n < 2 ^ 32) n calls small in
    let rest = calls_read (place + 1) calls (All-tail (λ n. 1 ≤ n) n calls some) (All-tail (λ n. n < 2 ^ 32) n calls small) in
    rw (within_read 1 4294967295 n low (omega (arith, high)) (lit< tt), rest) refl

call_words : (calls : List ℕ) → All (λ n. n < 2 ^ 32) calls → AreShort (replicate (length calls) 10) (map printed calls)
call_words [] small = tt
call_words (n ∷ calls) small = (number_word n (All-head (λ n. n < 2 ^ 32) n calls small), call_words calls (All-tail (λ n. n < 2 ^ 32) n calls small))

total_calls : (n : ℕ) → total (replicate n 10) ≡ 11 * n
total_calls zero = refl
total_calls (suc n) = omega (arith, total_calls n)

-- blocks that differ

sec_same : (s t : SecId) → s.0 ≡ t.0 → s ≡ t
sec_same s t e = let make : ℕ → SecId = λ n. record { 0 = n } in ap make e

proc_same : (p q : Proc) → p.0 ≡ q.0 → p ≡ q
proc_same p q e = let make : ℕ → Proc = λ n. record { 0 = n } in ap make e

no_truth : false ≡ true → ⊥
no_truth e = cc

same_block : (a b : BlockId) → is_same a b ≡ true → a ≡ b
same_block (block.Section s n) (block.Section t m) e = let both = and_parts (eqb s.0 t.0) (eqb n m) e in ap₂ block.Section (sec_same s t (eqb-true s.0 t.0 both.0)) (eqb-true n m both.1)
same_block (block.Section s n) (block.PageFile c) e = absurd (no_truth e)
same_block (block.Section s n) (block.Swap q m) e = absurd (no_truth e)
same_block (block.PageFile b) (block.Section t m) e = absurd (no_truth e)
same_block (block.PageFile b) (block.PageFile c) e = ap block.PageFile (eqb-true b c e)
same_block (block.PageFile b) (block.Swap q m) e = absurd (no_truth e)
same_block (block.Swap p n) (block.Section t m) e = absurd (no_truth e)
same_block (block.Swap p n) (block.PageFile c) e = absurd (no_truth e)
same_block (block.Swap p n) (block.Swap q m) e = let both = and_parts (eqb p.0 q.0) (eqb n m) e in ap₂ block.Swap (proc_same p q (eqb-true p.0 q.0 both.0)) (eqb-true n m both.1)

other_block : (a b : BlockId) → a ≢ b → is_same a b ≡ false
other_block a b differ = false_from_ne_true (is_same a b) (λ e. differ (same_block a b e))

abbrev with_fails : Config → List Fails → Part
with_fails c fails = declaring c (replicate 14 true) c.params c.bad c.sections c.procs c.maps fails

fail_leads : (c : Config) → IsWellFormed c → (before : List Fails) (f : Fails) → AreFails c f → All (λ n. n < 2 ^ 32) f.calls → list_any (λ g. is_same g.block f.block) before ≡ false
    → IsBlockRead c f.block → Leads (with_fails c before) (fail_line c.sections f ∷ []) (with_fails c (before ++ f ∷ []))
fail_leads c w before f is small new b =
    let part = with_fails c before in
    let count : length (map printed f.calls) ≡ length f.calls = length-map f.calls printed in
    let some : 1 ≤ length f.calls = is.some.0 in
    let few : length f.calls ≤ 16 = is.some.1 in
    let size : (leb 1 (length (map printed f.calls)) && leb (length (map printed f.calls)) 16) ≡ true = and_from (leb 1 (length (map printed f.calls))) (leb (length (map printed f.calls)) 16) (le-leb 1 (length (map printed f.calls)) (omega arith)) (le-leb (length (map printed f.calls)) 16 (omega arith)) in
    let there : block_named part.config b.name ≡ Ok f.block = there_too b.name b.there in
    leads_line part (fail_line c.sections f) (says.Fail f.block f.calls) refl
    (line_of (4 ∷ 28 ∷ replicate (length f.calls) 10) (codes "FAIL") (block_text c.sections f.block ∷ map printed f.calls)
    (literal 4 _ refl refl refl, (b.word, call_words f.calls small)) (omega (arith, total_calls (length f.calls))))
    (keyword_says part (codes "FAIL") (block_text c.sections f.block ∷ map printed f.calls) keyword.Fail refl refl refl refl
    ∙ (rw (size, b.named, there, calls_read 3 f.calls is.calls small, new) refl)) where
      there_too : (name : Named) → block_named c name ≡ Ok f.block → block_named (with_fails c before).config name ≡ Ok f.block
      there_too (InSection name page) e = e
      there_too (InPageFile n) e = e
      there_too (InSwap p slot) e = e

pub fails_lead : (c : Config) → IsWellFormed c → IsTyped c → Leads (declaring c (replicate 14 true) c.params c.bad c.sections c.procs c.maps []) (map (fail_line c.sections) c.fails) (declaring c (replicate 14 true) c.params c.bad c.sections c.procs c.maps c.fails)
fails_lead c w t = leads_each (fail_line c.sections) (λ fails. declaring c (replicate 14 true) c.params c.bad c.sections c.procs c.maps fails) c.fails (λ before f after e.
    let is : AreFails c f = member (AreFails c) before f after c.fails e w.fails in
    fail_leads c w before f is (member (λ (g : Fails). All (λ n. n < 2 ^ 32) g.calls) before f after c.fails e t.calls)
    (none_before (λ a b. a.block ≢ b.block) (λ g. is_same g.block f.block) before f after c.fails e w.fails_differ (λ g differ. other_block g.block f.block differ))
    (block_read c w f.block is.block))
