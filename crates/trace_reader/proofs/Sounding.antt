-- The declarations so far keep what makes a configuration well formed.
use Rattle.std.proofs.Common.{◌≡◌, ◌≢◌, ℕ, ◌+◌, ◌*◌, ◌%◌, ◌<◌, ◌≤◌, Bool, true, false, eqb, ltb, ◌&&◌, List, [], ◌∷◌, ◌++◌, length, get_or, All, Some, refl, sym, ap, subst, ◌∙◌, arith, lit≤, inl, inr, eq-eqb, ◌⊎◌}
use Rattle.std.specs.Prelude.{replicate, sum_by, slice_get}
use Rattle.std.specs.List.{list_any}
use Rattle.std.proofs.lemmas.Bool.{ltb-false, eqb-false}
use Rattle.std.proofs.lemmas.List.{length-append}
use Rattle.std.proofs.lemmas.List.Elements.{All-nil, All-push, All-weaker}
use Rattle.std.proofs.lemmas.List.Quantifiers.{all_pairs_push}
use Rattle.std.proofs.lemmas.List.Sums.{sum_by-append, sum_by-cons}
use Rattle.vm_types.specs.declared.limits.TheConstants.{MOST_BLOCKS, MOST_SECTION_PAGES, PAGE_BYTES}
use Rattle.vm_types.specs.Configuration.{FitsVersion, AreSections, IsName, IsSection, HasPages, IsMapping, AreApart, IsBlock, AreFails, IsTask, section_pages, IsLimited}
use Rattle.vm_types.specs.Kinds.{is_paged_kind, paged_of}
use Rattle.vm_types.specs.Versions.{most_frames, most_requests}
use Rattle.vm_types.specs.declared.config.Config.{Config}
use Rattle.vm_types.specs.declared.config.Fails.{Fails}
use Rattle.vm_types.specs.declared.config.Mapping.{Mapping}
use Rattle.vm_types.specs.declared.config.Origin.{Origin}
use Rattle.vm_types.specs.declared.config.Origin.TheVariants as origin
use Rattle.vm_types.specs.declared.config.Params.{Params}
use Rattle.vm_types.specs.declared.config.ProcSpec.{ProcSpec}
use Rattle.vm_types.specs.declared.config.Section.{Section as Held}
use Rattle.vm_types.specs.declared.config.Task.{Task}
use Rattle.vm_types.specs.declared.config.Version.{Version}
use Rattle.vm_types.specs.declared.names.BlockId.{BlockId}
use Rattle.vm_types.specs.declared.names.BlockId.TheVariants as block
use Rattle.trace_lines.specs.Fails.{is_same}
use Rattle.trace_lines.specs.Headers.{is_listed}
use Rattle.trace_lines.specs.Mappings.{overlaps}
use Rattle.trace_reader.specs.Drafts.{AreInRange, AreSound}
use Rattle.trace_reader.proofs.Listing.{get_append, none_passes, IsSame, AreSame, same_length, same_pages, same_sum, same_get, same_get_or}

-- blocks and pages stay where they are

abbrev SectionsGo : Config → Config → Type 0
SectionsGo a b = (s : ℕ) (x : Held) → slice_get a.sections s ≡ Some x → (y : Held) × (slice_get b.sections s ≡ Some y) × (section_pages y ≡ section_pages x) × (y.kind ≡ x.kind)

abbrev ProcsGo : Config → Config → Type 0
ProcsGo a b = (p : ℕ) (x : ProcSpec) → slice_get a.procs p ≡ Some x → slice_get b.procs p ≡ Some x

block_goes : (a b : Config) → SectionsGo a b → ProcsGo a b → b.pagefile ≡ a.pagefile → (id : BlockId) → IsBlock a id → IsBlock b id
block_goes a b sections procs pagefile (block.Section s page) h =
    let x = h.0 in
    let y = sections s.0 x.0 x.1 in
    let pages : section_pages y.0 ≡ section_pages x.0 = y.2 in
    let lt : page < section_pages x.0 = x.2 in
    ((y.0, y.1, omega arith), ap paged_of y.1 ∙ (ap is_paged_kind y.3 ∙ (ap paged_of (sym x.1) ∙ h.1)))
block_goes a b sections procs pagefile (block.PageFile n) h = omega (arith, h, pagefile)
block_goes a b sections procs pagefile (block.Swap p n) h = (h.0, procs p.0 h.0 h.1, h.2)

fails_go : (a b : Config) → SectionsGo a b → ProcsGo a b → b.pagefile ≡ a.pagefile → (fails : List Fails) → All (AreFails a) fails → All (AreFails b) fails
fails_go a b sections procs pagefile fails each = All-weaker (AreFails a) (AreFails b) (λ f h. record { block = block_goes a b sections procs pagefile f.block h.block; some = h.some; calls = h.calls }) fails each

maps_go : (a b : Config) → SectionsGo a b → length a.procs ≤ length b.procs → (maps : List Mapping) → All (IsMapping (length a.procs) a.sections) maps → All (IsMapping (length b.procs) b.sections) maps
maps_go a b sections more maps each = All-weaker (IsMapping (length a.procs) a.sections) (IsMapping (length b.procs) b.sections) (λ m h.
    let there : (m.proc).0 < length a.procs = h.proc in
    record { proc = omega (arith, there, more); range = h.range; code = h.code; origin = origin_goes a b sections m.from m.pages h.origin }) maps each where
      origin_goes : (a b : Config) → SectionsGo a b → (o : Origin) (pages : ℕ) → HasPages a.sections o pages → HasPages b.sections o pages
      origin_goes a b sections origin.Zero pages h = tt
      origin_goes a b sections (origin.Section s first) pages h =
          let y = sections s.0 h.0 h.1 in
          let same : section_pages y.0 ≡ section_pages h.0 = y.2 in
          let le : first + pages ≤ section_pages h.0 = h.2 in
          (y.0, y.1, omega arith)

stay : (a : Config) → SectionsGo a a
stay a s x e = (x, e, refl, refl)

stay_procs : (a : Config) → ProcsGo a a
stay_procs a p x e = e

-- two mappings without a page of both
apart : (m n : Mapping) → overlaps m n ≡ false → AreApart m n
apart m n e = by_proc (eqb (m.proc).0 (n.proc).0) refl e where
  by_end : (p q : Bool) → ltb (m.at).0 ((n.at).0 + PAGE_BYTES * n.pages) ≡ p → ltb (n.at).0 ((m.at).0 + PAGE_BYTES * m.pages) ≡ q → (p && q) ≡ false → ((m.at).0 + PAGE_BYTES * m.pages ≤ (n.at).0) ⊎ ((n.at).0 + PAGE_BYTES * n.pages ≤ (m.at).0)
  by_end false q a b f = inr (ltb-false (m.at).0 ((n.at).0 + PAGE_BYTES * n.pages) a)
  by_end true false a b f = inl (ltb-false (n.at).0 ((m.at).0 + PAGE_BYTES * m.pages) b)
  by_end true true a b f = absurd (same f) where
    same : true ≡ false → ⊥
    same g = cc

  by_proc : (t : Bool) → eqb (m.proc).0 (n.proc).0 ≡ t → overlaps m n ≡ false → AreApart m n
  by_proc false p f = inl (eqb-false (m.proc).0 (n.proc).0 p)
  by_proc true p f = inr (by_end (ltb (m.at).0 ((n.at).0 + PAGE_BYTES * n.pages)) (ltb (n.at).0 ((m.at).0 + PAGE_BYTES * m.pages)) refl refl (rw p at f))

is_same_self : (a : BlockId) → is_same a a ≡ true
is_same_self (block.Section s n) = rw (eq-eqb s.0 s.0 refl, eq-eqb n n refl) refl
is_same_self (block.PageFile b) = eq-eqb b b refl
is_same_self (block.Swap p n) = rw (eq-eqb p.0 p.0 refl, eq-eqb n n refl) refl

other_block : (a b : BlockId) → is_same a b ≡ false → a ≢ b
other_block a b e same = let yes : is_same a b ≡ true = ap (is_same a) (sym same) ∙ is_same_self a in absurd (both (sym e ∙ yes)) where
  both : false ≡ true → ⊥
  both e = cc

sections_same : (v : Version) (xs ys : List Held) → AreSections v xs → AreSame xs ys → AreSections v ys
sections_same v xs ys s same = record {
  few = (let n = same_length xs ys same in let few : length xs ≤ 64 = s.few in omega arith);
  pages = (let n = same_sum xs ys same in let pages : sum_by section_pages xs ≤ MOST_SECTION_PAGES = s.pages in omega (arith, n, pages));
  each = λ k d lt. (let there : k < length xs = omega (arith, lt, same_length xs ys same) in section_same (get_or xs k d) (get_or ys k d) (same_get_or xs ys k d same there) (s.each k d there));
  differ = λ i j d lt bound.
      (let there : j < length xs = omega (arith, bound, same_length xs ys same) in
      let first = same_get_or xs ys i d same (omega arith) in
      let second = same_get_or xs ys j d same there in
      λ e. s.differ i j d lt there (sym first.name ∙ e ∙ second.name));
} where
  section_same : (x y : Held) → IsSame x y → IsSection v x → IsSection v y
  section_same x y same s = record {
    name = subst IsName (sym same.name) s.name;
    whole = ap (λ (n : ℕ). n % PAGE_BYTES) same.count ∙ s.whole;
    some = (let some : PAGE_BYTES ≤ length x.bytes = s.some in let n = same.count in omega arith);
    paged = λ paged. (
      (s.paged (ap is_paged_kind (sym same.kind) ∙ paged)).0,
      subst (λ (bytes : List ℕ). bytes ≡ replicate (length bytes) 0) (sym (same.zeros (ap is_paged_kind (sym same.kind) ∙ paged))) (s.paged (ap is_paged_kind (sym same.kind) ∙ paged)).1,
    );
  }

-- one line more keeps the declarations sound

pub with_bad : (c : Config) (f : ℕ) → AreSound c → f < c.frames → is_listed c.bad f ≡ false → AreSound (record c { bad = c.bad ++ f ∷ [] })
with_bad c f s below new = record {
  frames = s.frames;
  bad = All-push (λ g. g < c.frames) c.bad f s.bad below;
  bad_differ = all_pairs_push (λ g h. g ≢ h) c.bad f s.bad_differ (λ k d lt. eqb-false (get_or c.bad k d) f (none_passes (λ g. eqb g f) c.bad new k d lt));
  pagefile = s.pagefile;
  params = s.params;
  sections = s.sections;
  few_procs = s.few_procs;
  procs = s.procs;
  maps = s.maps;
  maps_apart = s.maps_apart;
  fails = fails_go c (record c { bad = c.bad ++ f ∷ [] }) (stay c) (stay_procs c) refl c.fails s.fails;
  fails_differ = s.fails_differ;
  few_tasks = s.few_tasks;
  body = s.body;
}

pub with_frames : (c : Config) (n : ℕ) → AreSound c → FitsVersion c.version n → c.bad ≡ [] → AreSound (record c { frames = n })
with_frames c n s few none = record {
  frames = few;
  bad = subst (λ (fs : List ℕ). All (λ f. f < n) fs) (sym none) (All-nil (λ f. f < n));
  bad_differ = s.bad_differ;
  pagefile = s.pagefile;
  params = s.params;
  sections = s.sections;
  few_procs = s.few_procs;
  procs = s.procs;
  maps = s.maps;
  maps_apart = s.maps_apart;
  fails = fails_go c (record c { frames = n }) (stay c) (stay_procs c) refl c.fails s.fails;
  fails_differ = s.fails_differ;
  few_tasks = s.few_tasks;
  body = s.body;
}

pub with_pagefile : (c : Config) (n : ℕ) → AreSound c → n ≤ MOST_BLOCKS → c.fails ≡ [] → AreSound (record c { pagefile = n })
with_pagefile c n s few none = record {
  frames = s.frames;
  bad = s.bad;
  bad_differ = s.bad_differ;
  pagefile = few;
  params = s.params;
  sections = s.sections;
  few_procs = s.few_procs;
  procs = s.procs;
  maps = s.maps;
  maps_apart = s.maps_apart;
  fails = subst (λ (fs : List Fails). All (AreFails (record c { pagefile = n })) fs) (sym none) (All-nil (AreFails (record c { pagefile = n })));
  fails_differ = s.fails_differ;
  few_tasks = s.few_tasks;
  body = s.body;
}

pub with_params : (c : Config) (params : Params) → AreSound c → AreInRange params → AreSound (record c { params = params })
with_params c params s good = record {
  frames = s.frames;
  bad = s.bad;
  bad_differ = s.bad_differ;
  pagefile = s.pagefile;
  params = good;
  sections = s.sections;
  few_procs = s.few_procs;
  procs = s.procs;
  maps = s.maps;
  maps_apart = s.maps_apart;
  fails = fails_go c (record c { params = params }) (stay c) (stay_procs c) refl c.fails s.fails;
  fails_differ = s.fails_differ;
  few_tasks = s.few_tasks;
  body = s.body;
}

pub with_section : (c : Config) (x : Held) → AreSound c → IsSection c.version x → length c.sections < 64 → sum_by section_pages c.sections + section_pages x ≤ MOST_SECTION_PAGES → ((k : ℕ) (d : Held) → k < length c.sections → (get_or c.sections k d).name ≢ x.name)
    → AreSound (record c { sections = c.sections ++ x ∷ [] })
with_section c x s good few pages differ =
    let go : SectionsGo c (record c { sections = c.sections ++ x ∷ [] }) = λ k y e. (y, get_append c.sections (x ∷ []) k y e, refl, refl) in
    record {
      frames = s.frames;
      bad = s.bad;
      bad_differ = s.bad_differ;
      pagefile = s.pagefile;
      params = s.params;
      sections = record { few = simp length-append (omega arith); pages = (let total = sum_by-append section_pages c.sections (x ∷ []) in let one = sum_by-cons section_pages x [] in omega (arith, total, one, pages)); each = All-push (IsSection c.version) c.sections x s.sections.each good; differ = all_pairs_push (λ a b. a.name ≢ b.name) c.sections x s.sections.differ differ };
      few_procs = s.few_procs;
      procs = s.procs;
      maps = maps_go c (record c { sections = c.sections ++ x ∷ [] }) go (omega arith) c.maps s.maps;
      maps_apart = s.maps_apart;
      fails = fails_go c (record c { sections = c.sections ++ x ∷ [] }) go (stay_procs c) refl c.fails s.fails;
      fails_differ = s.fails_differ;
      few_tasks = s.few_tasks;
      body = s.body;
    }

pub with_sections : (c : Config) (ys : List Held) → AreSound c → AreSame c.sections ys → AreSound (record c { sections = ys })
with_sections c ys s same =
    let go : SectionsGo c (record c { sections = ys }) = λ k x e. (let y = same_get c.sections ys k x same e in (y.0, y.1, same_pages x y.0 y.2, (y.2).kind)) in
    record {
      frames = s.frames;
      bad = s.bad;
      bad_differ = s.bad_differ;
      pagefile = s.pagefile;
      params = s.params;
      sections = sections_same c.version c.sections ys s.sections same;
      few_procs = s.few_procs;
      procs = s.procs;
      maps = maps_go c (record c { sections = ys }) go (omega arith) c.maps s.maps;
      maps_apart = s.maps_apart;
      fails = fails_go c (record c { sections = ys }) go (stay_procs c) refl c.fails s.fails;
      fails_differ = s.fails_differ;
      few_tasks = s.few_tasks;
      body = s.body;
    }

pub with_process : (c : Config) (spec : ProcSpec) → AreSound c → IsLimited spec → length c.procs < 16 → AreSound (record c { procs = c.procs ++ spec ∷ [] })
with_process c spec s good room =
    let longer : length (c.procs ++ spec ∷ []) ≡ length c.procs + 1 = length-append c.procs (spec ∷ []) in
    record {
      frames = s.frames;
      bad = s.bad;
      bad_differ = s.bad_differ;
      pagefile = s.pagefile;
      params = s.params;
      sections = s.sections;
      few_procs = omega (arith, longer, room);
      procs = All-push IsLimited c.procs spec s.procs good;
      maps = maps_go c (record c { procs = c.procs ++ spec ∷ [] }) (stay c) (omega (arith, longer)) c.maps s.maps;
      maps_apart = s.maps_apart;
      fails = fails_go c (record c { procs = c.procs ++ spec ∷ [] }) (stay c) (λ p x e. get_append c.procs (spec ∷ []) p x e) refl c.fails s.fails;
      fails_differ = s.fails_differ;
      few_tasks = s.few_tasks;
      body = All-weaker (IsTask c.version (length c.procs)) (IsTask c.version (length (c.procs ++ spec ∷ []))) (λ t h. record { proc = (let there : (t.proc).0 < length c.procs = h.proc in omega (arith, there, longer)); request = h.request; of_version = h.of_version }) c.body s.body;
    }

pub with_map : (c : Config) (m : Mapping) → AreSound c → IsMapping (length c.procs) c.sections m → list_any (λ b. overlaps b m) c.maps ≡ false → AreSound (record c { maps = c.maps ++ m ∷ [] })
with_map c m s good new = record {
  frames = s.frames;
  bad = s.bad;
  bad_differ = s.bad_differ;
  pagefile = s.pagefile;
  params = s.params;
  sections = s.sections;
  few_procs = s.few_procs;
  procs = s.procs;
  maps = All-push (IsMapping (length c.procs) c.sections) c.maps m s.maps good;
  maps_apart = all_pairs_push AreApart c.maps m s.maps_apart (λ k d lt. apart (get_or c.maps k d) m (none_passes (λ b. overlaps b m) c.maps new k d lt));
  fails = fails_go c (record c { maps = c.maps ++ m ∷ [] }) (stay c) (stay_procs c) refl c.fails s.fails;
  fails_differ = s.fails_differ;
  few_tasks = s.few_tasks;
  body = s.body;
}

pub with_fail : (c : Config) (f : Fails) → AreSound c → AreFails c f → list_any (λ g. is_same g.block f.block) c.fails ≡ false → AreSound (record c { fails = c.fails ++ f ∷ [] })
with_fail c f s good new = record {
  frames = s.frames;
  bad = s.bad;
  bad_differ = s.bad_differ;
  pagefile = s.pagefile;
  params = s.params;
  sections = s.sections;
  few_procs = s.few_procs;
  procs = s.procs;
  maps = s.maps;
  maps_apart = s.maps_apart;
  fails = fails_go c (record c { fails = c.fails ++ f ∷ [] }) (stay c) (stay_procs c) refl (c.fails ++ f ∷ []) (All-push (AreFails c) c.fails f s.fails good);
  fails_differ = all_pairs_push (λ a b. a.block ≢ b.block) c.fails f s.fails_differ (λ k d lt. other_block (get_or c.fails k d).block f.block (none_passes (λ g. is_same g.block f.block) c.fails new k d lt));
  few_tasks = s.few_tasks;
  body = s.body;
}

pub with_task : (c : Config) (t : Task) → AreSound c → IsTask c.version (length c.procs) t → length c.body < most_requests c.version → AreSound (record c { body = c.body ++ t ∷ [] })
with_task c t s good room = record {
  frames = s.frames;
  bad = s.bad;
  bad_differ = s.bad_differ;
  pagefile = s.pagefile;
  params = s.params;
  sections = s.sections;
  few_procs = s.few_procs;
  procs = s.procs;
  maps = s.maps;
  maps_apart = s.maps_apart;
  fails = fails_go c (record c { body = c.body ++ t ∷ [] }) (stay c) (stay_procs c) refl c.fails s.fails;
  fails_differ = s.fails_differ;
  few_tasks = simp length-append (omega (arith, room));
  body = All-push (IsTask c.version (length c.procs)) c.body t s.body good;
}

zero_le : (n : ℕ) → 0 ≤ n
zero_le n = omega arith

pub with_version : (c : Config) (v : Version) → AreSound c → c.frames ≡ 0 → c.sections ≡ [] → c.body ≡ [] → AreSound (record c { version = v })
with_version c v s no_frames no_sections no_tasks = record {
  frames = subst (FitsVersion v) (sym no_frames) (zero_le (most_frames v));
  bad = s.bad;
  bad_differ = s.bad_differ;
  pagefile = s.pagefile;
  params = s.params;
  sections = subst (AreSections v) (sym no_sections) (record { few = lit≤ tt; pages = lit≤ tt; each = All-nil (IsSection v); differ = λ i j d lt bound. absurd (omega (arith, bound)) });
  few_procs = s.few_procs;
  procs = s.procs;
  maps = s.maps;
  maps_apart = s.maps_apart;
  fails = fails_go c (record c { version = v }) (stay c) (stay_procs c) refl c.fails s.fails;
  fails_differ = s.fails_differ;
  few_tasks = subst (λ (tasks : List Task). length tasks ≤ most_requests v) (sym no_tasks) (zero_le (most_requests v));
  body = subst (All (IsTask v (length c.procs))) (sym no_tasks) (All-nil (IsTask v (length c.procs)));
}
