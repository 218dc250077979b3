-- What is made is well formed.
use Rattle.std.proofs.Common.{◌≡◌, ◌≢◌, ℕ, zero, suc, ◌+◌, ◌*◌, ◌/◌, ◌%◌, ◌^◌, ◌<◌, ◌≤◌, ◌⊎◌, Bool, true, false, eqb, ltb, cond, List, [], ◌∷◌, ◌++◌, length, get_or, All, refl, sym, ap, subst, ◌∙◌, arith, lit<, lit≤, inl, inr}
use Rattle.std.specs.Prelude.{AllPairs, slice_index, codes}
use Rattle.std.proofs.lemmas.Bool.{true≢false}
use Rattle.std.proofs.lemmas.List.{length-append}
use Rattle.std.proofs.lemmas.List.Elements.{All-nil, All-cons, All-push, All-weaker}
use Rattle.std.proofs.lemmas.List.Quantifiers.{all_pairs_push}
use Rattle.std.proofs.lemmas.List.Kept.{AllPairs-cons}
use Rattle.vm_types.specs.declared.limits.TheConstants.{P0_PAGES, PAGE_BYTES}
use Rattle.vm_types.specs.Configuration.{IsName, IsLetter, IsNameByte, IsSection, AreSections, IsProcess, HasPages, IsMapping, AreApart, AreFails, IsTask, IsWellFormed, all_pins, section_pages}
use Rattle.vm_types.specs.Kinds.{is_paged_kind}
use Rattle.vm_types.specs.WellFormed.{IsRange, IsCode, FitsOp, op_bytes}
use Rattle.vm_types.specs.declared.config.Mapping.{Mapping}
use Rattle.vm_types.specs.declared.config.Origin.TheVariants as origin
use Rattle.vm_types.specs.declared.config.ProcSpec.{ProcSpec}
use Rattle.vm_types.specs.declared.config.SectionKind.{SectionKind}
use Rattle.vm_types.specs.declared.config.SectionKind.TheVariants as kind
use Rattle.vm_types.specs.declared.config.Version.TheVariants as version
use Rattle.vm_types.specs.declared.reference.Width.TheVariants.{Four}
use Rattle.vm_types.specs.declared.reference.Op.TheVariants.{Read, Write, Add}
use Rattle.vm_types.proofs.VersionOne.{no_pins}
use Rattle.trace_maker.specs.declared.draws.Region.{Region}
use Rattle.trace_maker.specs.Draws.{next_state, draw_of, region_of, op_of, near_pages, address_from, task_of, task_from}
use Rattle.trace_maker.specs.Made.{pattern, made_section, made_sections, made_process, made_procs, made_map, made_maps, state_after, made_body, made_config}

length_pattern : (n : ℕ) → length (pattern n) ≡ n
unfolding pattern
length_pattern zero = refl
length_pattern (suc n) = let rest = length_pattern n in simp length-append (omega (arith, rest))

length_procs : (n : ℕ) → length (made_procs n) ≡ n
unfolding made_procs
length_procs zero = refl
length_procs (suc n) = let rest = length_procs n in simp length-append (omega (arith, rest))

length_body : (seed procs n : ℕ) → length (made_body seed procs n) ≡ n
unfolding made_body
length_body seed procs zero = refl
length_body seed procs (suc n) = let rest = length_body seed procs n in simp length-append (omega (arith, rest))

all_procs : (P : ProcSpec → Type 0) (n : ℕ) → P made_process → All P (made_procs n)
unfolding made_procs
all_procs P zero p = All-nil P
all_procs P (suc n) p = All-push P (made_procs n) made_process (all_procs P n p) p

-- sections

section_good : (name : List ℕ) (of_kind : SectionKind) (pages : ℕ) → is_paged_kind of_kind ≡ false → IsName name → 1 ≤ pages → IsSection version.One (made_section name of_kind pages)
section_good name of_kind pages file good some =
    let count : length (pattern (PAGE_BYTES * pages)) ≡ PAGE_BYTES * pages = length_pattern (PAGE_BYTES * pages) in
    record { name = good; whole = ap (λ (n : ℕ). n % PAGE_BYTES) count ∙ omega arith; some = omega (arith, count, some); paged = λ paged. absurd (true≢false (sym paged ∙ file)) }

pages_of : (name : List ℕ) (of_kind : SectionKind) (pages : ℕ) → section_pages (made_section name of_kind pages) ≡ pages
pages_of name of_kind pages = ap (λ (n : ℕ). n / PAGE_BYTES) (length_pattern (PAGE_BYTES * pages)) ∙ omega arith

-- mappings

code_good : IsCode 4
code_good = record { small = lit< tt; named = λ e. omega (arith, e) }

low_range : (at pages : ℕ) → at % PAGE_BYTES ≡ 0 → 1 ≤ pages → pages ≤ P0_PAGES → at + PAGE_BYTES * pages ≤ 2097152 → IsRange at pages
low_range at pages whole some few inside = record { aligned = whole; some = some; few = few; inside = inl inside }

last_range : IsRange 0x7fffc000 32
last_range = record { aligned = refl; some = lit≤ tt; few = lit≤ tt; inside = inr (lit≤ tt, lit≤ tt) }

lib_pages : HasPages made_sections (origin.Section (record { 0 = 0 }) 0) 256
lib_pages = let pages = pages_of (codes "LIB") kind.Shared 256 in (made_section (codes "LIB") kind.Shared 256, refl, omega (arith, pages))

img_pages : HasPages made_sections (origin.Section (record { 0 = 1 }) 0) 64
img_pages = let pages = pages_of (codes "IMG") kind.Crf 64 in (made_section (codes "IMG") kind.Crf 64, refl, omega (arith, pages))

all_maps : (P : Mapping → Type 0) (n : ℕ) → ((p : ℕ) → p < n → P (made_map p 0 256 origin.Zero) × P (made_map p 0x40000 256 (origin.Section (record { 0 = 0 }) 0)) × P (made_map p 0x80000 64 (origin.Section (record { 0 = 1 }) 0)) × P (made_map p 0x7fffc000 32 origin.Zero)) → All P (made_maps n)
unfolding made_maps
all_maps P zero each = All-nil P
all_maps P (suc p) each =
    let here = each p (omega arith) in
    All-push P _ _ (All-push P _ _ (All-push P _ _ (All-push P _ _ (all_maps P p (λ q lt. each q (omega (arith, lt)))) here.0) here.1) here.2) here.3

maps_good : (procs : ℕ) → All (IsMapping procs made_sections) (made_maps procs)
maps_good procs = all_maps (IsMapping procs made_sections) procs (λ p lt. (
  record { proc = lt; range = low_range 0 256 refl (lit≤ tt) (lit≤ tt) (lit≤ tt); code = code_good; origin = tt },
  record { proc = lt; range = low_range 0x40000 256 refl (lit≤ tt) (lit≤ tt) (lit≤ tt); code = code_good; origin = lib_pages },
  record { proc = lt; range = low_range 0x80000 64 refl (lit≤ tt) (lit≤ tt) (lit≤ tt); code = code_good; origin = img_pages },
  record { proc = lt; range = last_range; code = code_good; origin = tt },
))

maps_below : (n : ℕ) → All (λ m. (m.proc).0 < n) (made_maps n)
maps_below n = all_maps (λ m. (m.proc).0 < n) n (λ p lt. (lt, lt, lt, lt))

-- of a process before, or below an address
abbrev IsBefore : ℕ → ℕ → Mapping → Type 0
IsBefore p bound m = ((m.proc).0 < p) ⊎ ((m.at).0 + PAGE_BYTES * m.pages ≤ bound)

before_apart : (p bound : ℕ) (m n : Mapping) → (n.proc).0 ≡ p → bound ≤ (n.at).0 → IsBefore p bound m → AreApart m n
before_apart p bound m n own above (inl lt) = inl (λ e. omega (arith, e, own, lt))
before_apart p bound m n own above (inr le) = inr (inl (omega (arith, le, above)))

record AreBefore (p bound : ℕ) (maps : List Mapping) : Type 0 where
  pub apart : AllPairs AreApart maps
  pub before : All (IsBefore p bound) maps

one_before : (p bound : ℕ) (maps : List Mapping) (n : Mapping) → (n.proc).0 ≡ p → bound ≤ (n.at).0 → AreBefore p bound maps → AreBefore p ((n.at).0 + PAGE_BYTES * n.pages) (maps ++ n ∷ [])
one_before p bound maps n own above b = record {
  apart = all_pairs_push AreApart maps n b.apart (λ k d lt. before_apart p bound (get_or maps k d) n own above (b.before k d lt));
  before = All-push (IsBefore p ((n.at).0 + PAGE_BYTES * n.pages)) maps n (All-weaker (IsBefore p bound) (IsBefore p ((n.at).0 + PAGE_BYTES * n.pages)) (λ m h. higher m h) maps b.before) (inr (omega arith));
} where
  higher : (m : Mapping) → IsBefore p bound m → IsBefore p ((n.at).0 + PAGE_BYTES * n.pages) m
  higher m (inl lt) = inl lt
  higher m (inr le) = inr (omega (arith, le, above))

maps_apart : (n : ℕ) → AllPairs AreApart (made_maps n)
unfolding made_maps
maps_apart zero = λ i j d lt bound. absurd (omega (arith, bound))
maps_apart (suc p) =
    let none : AreBefore p 0 (made_maps p) = record { apart = maps_apart p; before = All-weaker (λ m. (m.proc).0 < p) (IsBefore p 0) (λ m lt. inl lt) (made_maps p) (maps_below p) } in
    let one = one_before p 0 _ (made_map p 0 256 origin.Zero) refl (lit≤ tt) none in
    let two = one_before p 131072 _ (made_map p 0x40000 256 (origin.Section (record { 0 = 0 }) 0)) refl (lit≤ tt) one in
    let three = one_before p 393216 _ (made_map p 0x80000 64 (origin.Section (record { 0 = 1 }) 0)) refl (lit≤ tt) two in
    (one_before p 557056 _ (made_map p 0x7fffc000 32 origin.Zero) refl (lit≤ tt) three).apart

-- requests

draw_small : (x : ℕ) → draw_of (next_state x) < 2 ^ 32
draw_small x = omega arith

record IsGoodRegion (r : Region) : Type 0 where
  pub quarter : ℕ
  pub first : r.first ≡ 4 * quarter
  pub low : r.first ≤ 2147467264
  pub some : 32 ≤ r.pages
  pub few : r.pages ≤ 256

region_good : (n : ℕ) → IsGoodRegion (region_of n)
region_good n = by_low (ltb n 8) (ltb n 12) (ltb n 14) where
  by_low : (a b c : Bool) → IsGoodRegion (cond a (record { first = 0; pages = 256 }) (cond b (record { first = 0x40000; pages = 256 }) (cond c (record { first = 0x80000; pages = 64 }) (record { first = 0x7fffc000; pages = 32 }))))
  by_low true b c = record { quarter = 0; first = refl; low = lit≤ tt; some = lit≤ tt; few = lit≤ tt }
  by_low false true c = record { quarter = 65536; first = refl; low = lit≤ tt; some = lit≤ tt; few = lit≤ tt }
  by_low false false true = record { quarter = 131072; first = refl; low = lit≤ tt; some = lit≤ tt; few = lit≤ tt }
  by_low false false false = record { quarter = 536866816; first = refl; low = lit≤ tt; some = lit≤ tt; few = lit≤ tt }

near_good : (r : Region) (d : ℕ) → IsGoodRegion r → (1 ≤ near_pages r d) × (near_pages r d ≤ 256)
near_good r d g = by_test (eqb (d % 4) 0) where
  by_test : (t : Bool) → (1 ≤ cond t r.pages (r.pages / 4)) × (cond t r.pages (r.pages / 4) ≤ 256)
  by_test true = (let some : 32 ≤ r.pages = g.some in omega arith, g.few)
  by_test false = (let some : 32 ≤ r.pages = g.some in omega arith, let few : r.pages ≤ 256 = g.few in omega arith)

address_good : (r : Region) (d3 d4 : ℕ) → IsGoodRegion r → (address_from r d3 d4 < 2 ^ 32) × (address_from r d3 d4 % 4 ≡ 0)
address_good r d3 d4 g =
    let near = near_good r d3 g in
    let page : (d3 / 256) % near_pages r d3 < near_pages r d3 = mod_below (d3 / 256) (near_pages r d3) near.0 in
    let first = g.first in
    let low : r.first ≤ 2147467264 = g.low in
    (omega (arith, near.1, page, low), whole r.first g.quarter ((d3 / 256) % near_pages r d3) (d4 % 128) first) where
      mod_below : (a n : ℕ) → 1 ≤ n → a % n < n
      mod_below a n some = omega arith

      whole : (f q p b : ℕ) → f ≡ 4 * q → (f + PAGE_BYTES * p + 4 * b) % 4 ≡ 0
      whole f q p b e = omega arith

op_good : (kind value at : ℕ) → value < 2 ^ 32 → at % 4 ≡ 0 → (at % op_bytes (op_of kind value) ≡ 0) × FitsOp (op_of kind value)
op_good kind value at small whole = by_kind (ltb kind 2) (ltb kind 3) where
  by_kind : (a b : Bool) → (at % op_bytes (cond a (Read Four) (cond b (Write Four value) (Add value))) ≡ 0) × FitsOp (cond a (Read Four) (cond b (Write Four value) (Add value)))
  by_kind true b = (whole, tt)
  by_kind false true = (whole, small)
  by_kind false false = (whole, small)

task_good : (x procs : ℕ) → 1 ≤ procs → IsTask version.One procs (task_from x procs)
task_good x procs some =
    let a = next_state x in
    let b = next_state a in
    let c = next_state b in
    let d = next_state c in
    let e = next_state d in
    good procs (draw_of a) (draw_of b) (draw_of c) (draw_of d) (draw_of e) (draw_of (next_state e)) some (draw_small e) where
      below : (p n : ℕ) → 1 ≤ n → p % n < n
      below p n h = omega arith

      good : (procs d1 d2 d3 d4 d5 d6 : ℕ) → 1 ≤ procs → d6 < 2 ^ 32 → IsTask version.One procs (task_of procs d1 d2 d3 d4 d5 d6)
      good procs d1 d2 d3 d4 d5 d6 some small =
          let at = address_good (region_of (d2 % 16)) d3 d4 (region_good (d2 % 16)) in
          let op = op_good (d5 % 4) d6 (address_from (region_of (d2 % 16)) d3 d4) small at.1 in
          record { proc = below d1 procs some; request = record { address = at.0; aligned = op.0; fits = op.1 }; of_version = tt }

body_good : (seed procs n : ℕ) → 1 ≤ procs → All (IsTask version.One procs) (made_body seed procs n)
unfolding made_body
body_good seed procs zero some = All-nil (IsTask version.One procs)
body_good seed procs (suc n) some = All-push (IsTask version.One procs) (made_body seed procs n) (task_from (state_after seed n) procs) (body_good seed procs n some) (task_good (state_after seed n) procs some)

-- names

lib_name : IsName (codes "LIB")
lib_name = record { length = (lit≤ tt, lit≤ tt); letter = (lit≤ tt, lit≤ tt); bytes = three 76 73 66 (lit≤ tt, lit≤ tt) (lit≤ tt, lit≤ tt) (lit≤ tt, lit≤ tt) } where
  three : (a b c : ℕ) → IsLetter a → IsLetter b → IsLetter c → All IsNameByte (a ∷ b ∷ c ∷ [])
  three a b c x y z = All-cons IsNameByte a (b ∷ c ∷ []) (inl x) (All-cons IsNameByte b (c ∷ []) (inl y) (All-cons IsNameByte c [] (inl z) (All-nil IsNameByte)))

img_name : IsName (codes "IMG")
img_name = record { length = (lit≤ tt, lit≤ tt); letter = (lit≤ tt, lit≤ tt); bytes = three 73 77 71 (lit≤ tt, lit≤ tt) (lit≤ tt, lit≤ tt) (lit≤ tt, lit≤ tt) } where
  three : (a b c : ℕ) → IsLetter a → IsLetter b → IsLetter c → All IsNameByte (a ∷ b ∷ c ∷ [])
  three a b c x y z = All-cons IsNameByte a (b ∷ c ∷ []) (inl x) (All-cons IsNameByte b (c ∷ []) (inl y) (All-cons IsNameByte c [] (inl z) (All-nil IsNameByte)))

sections_good : AreSections version.One made_sections
sections_good =
    let lib = pages_of (codes "LIB") kind.Shared 256 in
    let img = pages_of (codes "IMG") kind.Crf 64 in
    record {
      few = lit≤ tt;
      pages = omega (arith, lib, img);
      each = All-cons (IsSection version.One) (made_section (codes "LIB") kind.Shared 256) (made_section (codes "IMG") kind.Crf 64 ∷ []) (section_good (codes "LIB") kind.Shared 256 refl lib_name (lit≤ tt)) (All-cons (IsSection version.One) (made_section (codes "IMG") kind.Crf 64) [] (section_good (codes "IMG") kind.Crf 64 refl img_name (lit≤ tt)) (All-nil (IsSection version.One)));
      differ = AllPairs-cons (λ s t. s.name ≢ t.name) (made_section (codes "LIB") kind.Shared 256) (made_section (codes "IMG") kind.Crf 64 ∷ []) (All-cons (λ t. codes "LIB" ≢ t.name) (made_section (codes "IMG") kind.Crf 64) [] other (All-nil (λ t. codes "LIB" ≢ t.name))) (AllPairs-cons (λ s t. s.name ≢ t.name) (made_section (codes "IMG") kind.Crf 64) [] (All-nil (λ t. codes "IMG" ≢ t.name)) (λ i j d lt bound. absurd (omega (arith, bound))));
    } where
      other : codes "LIB" ≢ codes "IMG"
      other e = let heads : 76 ≡ 73 = ap (λ (name : List ℕ). slice_index name 0) e in omega (arith, heads)

pub made_is_well_formed : (seed procs refs : ℕ) → 1 ≤ procs → procs ≤ 16 → refs ≤ 100000 → IsWellFormed (made_config seed procs refs)
made_is_well_formed seed procs refs some few short =
    let count = length_procs procs in
    let requests = length_body seed procs refs in
    let pins = no_pins (made_config seed procs refs) refl in
    let kept : 0 + all_pins (made_config seed procs refs) ≡ 0 = omega (arith, pins) in
    record {
      frames = (omega arith, omega (arith, few));
      of_version = omega (arith, few);
      bad = All-nil (λ f. f < 96 * procs + 32);
      bad_differ = λ i j d lt bound. absurd (omega (arith, bound));
      pagefile = (lit≤ tt, lit≤ tt);
      params = record { pfc = (lit≤ tt, lit≤ tt); hilimit = lit≤ tt; lolimit = lit≤ tt; waitlimit = (lit≤ tt, lit≤ tt); wait_above = lit≤ tt; wrtcluster = (lit≤ tt, lit≤ tt); freelim = lit≤ tt; freegoal = lit≤ tt; awstime = lit≤ tt; pfrath = lit≤ tt; pfratl = lit≤ tt; wsinc = lit≤ tt; wsdec = lit≤ tt; awsmin = (lit≤ tt, lit≤ tt); borrowlim = lit≤ tt };
      sections = sections_good;
      some_process = (omega (arith, count, some), omega (arith, count, few));
      procs = subst (λ (n : ℕ). All (IsProcess (96 * procs + 32) n) (made_procs procs)) (sym kept) (all_procs (IsProcess (96 * procs + 32) 0) procs (record { limited = record { locks = lit≤ tt; quota = lit≤ tt; extent = lit≤ tt; most = lit≤ tt }; room = omega (arith, some) }));
      maps = subst (λ (n : ℕ). All (IsMapping n made_sections) (made_maps procs)) (sym count) (maps_good procs);
      maps_apart = maps_apart procs;
      fails = All-nil (AreFails (made_config seed procs refs));
      fails_differ = λ i j d lt bound. absurd (omega (arith, bound));
      few_tasks = omega (arith, requests, short);
      body = subst (λ (n : ℕ). All (IsTask version.One n) (made_body seed procs refs)) (sym count) (body_good seed procs refs some);
    }
