-- The dump after a run keeps the bounds, codes and orders of its layout.
use Rattle.std.proofs.Common.{◌≡◌, ◌⊎◌, inl, inr, ℕ, zero, suc, ◌+◌, ◌-◌, ◌*◌, ◌^◌, ◌<◌, ◌≤◌, Bool, true, false, cond, ◌&&◌, List, [], ◌∷◌, Option, Some, None, count_by, filter, length, map, nat_eq, refl, sym, ap, ◌∙◌, subst, arith}
use Rattle.std.specs.Prelude.{sum_by}
use Rattle.std.specs.List.{AllByRecursion, range_with_len}
use Rattle.std.proofs.lemmas.Bool.{cases_eq, cases_lt, false≢true, ne_eqb}
use Rattle.std.proofs.lemmas.List.FromFn.{length-map-range_with_len}
use Rattle.std.proofs.lemmas.List.Sums.{count_by-le-length, sum_by-cons}
use Rattle.std.proofs.lemmas.Option.{none-some}
use Rattle.vm_types.specs.declared.limits.TheConstants.{MOST_EXTENT, P0_PAGES, P1_PAGES}
use Rattle.vm_types.specs.Configuration.{IsSectionPage, IsWellFormed}
use Rattle.vm_types.specs.Ring.{Held}
use Rattle.vm_types.specs.Same.{state_code}
use Rattle.vm_types.specs.declared.config.Config.{Config}
use Rattle.vm_types.specs.declared.config.Section.{Section}
use Rattle.vm_types.specs.declared.names.BlockId.TheVariants as block
use Rattle.vm_types.specs.declared.names.FrameState.{FrameState}
use Rattle.vm_types.specs.declared.names.FrameState.TheVariants as state
use Rattle.vm_types.specs.declared.names.Page.{Page}
use Rattle.vm_types.specs.declared.names.Page.TheVariants.{Private, Shared}
use Rattle.vm_types.specs.declared.names.ProcStatus.{ProcStatus}
use Rattle.vm_types.specs.declared.names.ProcStatus.TheVariants as status
use Rattle.vm_journal.specs.declared.entry.Entry.{Entry}
use Rattle.page_lists.specs.Lists.{count_of}
use Rattle.page_lists.proofs.Counts.{length-once}
use Rattle.pfn_database.specs.Rows.{counted_references}
use Rattle.pager_model.specs.Around.{past_view}
use Rattle.pager_model.specs.Flights.{open_flights}
use Rattle.pager_model.specs.Lookups.{is, shares}
use Rattle.pager_model.specs.OfConfig.{IsOfConfig, IsPageOf}
use Rattle.pager_model.specs.Pager.{Assigned, Pager, Valid}
use Rattle.pager_model.specs.Transfers.{is_in_flight, reads_on, writes_on}
use Rattle.pager_rules.proofs.Basics.{count_cons, count_cons_no, nat_eq_refl, states_equal}
use Rattle.pager_rules.proofs.Lists.{all_step}
use Rattle.pager_rules.specs.Kept.{HasWrites, IsKept}
use Rattle.pager_laws.proofs.Holders.{good_within}
use Rattle.pager_laws.proofs.RingBounds.{bounded}
use Rattle.pager_laws.proofs.SectionNumbers.{number_within}
use Rattle.state_fits.specs.Frames.{frame_pins, frame_row}
use Rattle.dump_bytes.specs.Bounds.{AreFrames, Ascends, IsDump, IsDumpedPage, IsFrame, IsProcess, IsSlot, IsValidEntry}
use Rattle.dump_laws.specs.DumpAfter.{busy_frames, dump_by, dumped_slot, entry_word, frame_at, pages_of, process_at, status_code, valid_pages, words_of}
use Rattle.dump_laws.proofs.Entries.{IsShown, all_shown, is_own, own_entries, pages_few, pages_in, pages_once, same_pages}
use Rattle.dump_laws.proofs.Numbers.{all_ascending, ascending_rises, count_ascending, count_filter, count_map, length_ascending, length_map, once_ascends, one_if, same_length, times}
use Rattle.dump_laws.proofs.Shared.{over_processes}

-- ---- lists that are made by number
pub all_made : {X : Type 0} (P : X → Type 0) (f : ℕ → X) (s n : ℕ) → ((k : ℕ) → k < s + n → P (f k)) → AllByRecursion P (map f (range_with_len s n))
all_made P f s zero each = tt
all_made P f s (suc n) each = (each s (omega arith), all_made P f (s + 1) n (λ k less. each k (omega (arith, less))))

all_mapped : {X Y : Type 0} (P : Y → Type 0) (f : X → Y) (xs : List X) → AllByRecursion (λ (x : X). P (f x)) xs → AllByRecursion P (map f xs)
all_mapped P f [] all = tt
all_mapped P f (x ∷ xs) all = (all.0, all_mapped P f xs all.1)

-- what all have, one that stands there has
pub of_times : (P : ℕ → Type 0) (xs : List ℕ) (v : ℕ) → AllByRecursion P xs → 0 < times v xs → P v
of_times P [] v all some = absurd (omega (arith, some))
of_times P (x ∷ xs) v all some = go (cases_eq x v) (λ more. of_times P xs v all.1 more)
  where
    go : (x ≡ v) ⊎ (x ≡ v → ⊥) → (0 < times v xs → P v) → P v
    go (inl same) rest = subst P same all.0
    go (inr other) rest = rest (let step = count_cons_no (λ (n : ℕ). nat_eq n v) x xs (ne_eqb x v other) in omega (arith, step, some))

-- each number that stands in a list has what standing there gives
pub each_there : (P : ℕ → Type 0) (xs : List ℕ) → ((v : ℕ) → 0 < times v xs → P v) → AllByRecursion P xs
each_there P xs each = all_step (λ (v : ℕ). Unit {0}) P xs (λ v among _. each v (among (λ (n : ℕ). nat_eq n v) (nat_eq_refl v))) (nothing xs)
  where
    nothing : (ys : List ℕ) → AllByRecursion (λ (v : ℕ). Unit {0}) ys
    nothing [] = tt
    nothing (y ∷ ys) = (tt, nothing ys)

-- ---- numbers of a range that pass a test
passed_above : (t : ℕ → Bool) (s n : ℕ) (k : ℕ) → k < s → AllByRecursion (λ (m : ℕ). k < m) (filter t (range_with_len s n))
passed_above t s zero k less = tt
passed_above t s (suc n) k less = go (t s) (passed_above t (s + 1) n k (omega (arith, less)))
  where
    go : (b : Bool) → AllByRecursion (λ (m : ℕ). k < m) (filter t (range_with_len (s + 1) n)) → AllByRecursion (λ (m : ℕ). k < m) (cond b (s ∷ filter t (range_with_len (s + 1) n)) (filter t (range_with_len (s + 1) n)))
    go true rest = (less, rest)
    go false rest = rest

passed_ascend : (t : ℕ → Bool) (s n : ℕ) → Ascends (filter t (range_with_len s n))
passed_ascend t s zero = tt
passed_ascend t s (suc n) = go (t s) (passed_ascend t (s + 1) n) (passed_above t (s + 1) n s (omega arith))
  where
    go : (b : Bool) → Ascends (filter t (range_with_len (s + 1) n)) → AllByRecursion (λ (m : ℕ). s < m) (filter t (range_with_len (s + 1) n))
        → Ascends (cond b (s ∷ filter t (range_with_len (s + 1) n)) (filter t (range_with_len (s + 1) n)))
    go true rest above = (above, rest)
    go false rest above = rest

passed_few : (t : ℕ → Bool) (s n : ℕ) → length (filter t (range_with_len s n)) ≤ n
passed_few t s zero = omega arith
passed_few t s (suc n) = go (t s) (passed_few t (s + 1) n)
  where
    go : (b : Bool) → length (filter t (range_with_len (s + 1) n)) ≤ n → length (cond b (s ∷ filter t (range_with_len (s + 1) n)) (filter t (range_with_len (s + 1) n))) ≤ suc n
    go true rest = omega (arith, rest)
    go false rest = omega (arith, rest)

passed_below : (t : ℕ → Bool) (s n k : ℕ) → s + n ≤ k → AllByRecursion (λ (m : ℕ). m < k) (filter t (range_with_len s n))
passed_below t s zero k less = tt
passed_below t s (suc n) k less = go (t s) (passed_below t (s + 1) n k (omega (arith, less)))
  where
    go : (b : Bool) → AllByRecursion (λ (m : ℕ). m < k) (filter t (range_with_len (s + 1) n)) → AllByRecursion (λ (m : ℕ). m < k) (cond b (s ∷ filter t (range_with_len (s + 1) n)) (filter t (range_with_len (s + 1) n)))
    go true rest = (omega (arith, less), rest)
    go false rest = rest

-- ---- codes
code_small : (s : FrameState) → state_code s < 8
code_small state.Free = omega arith
code_small state.Modified = omega arith
code_small state.Bad = omega arith
code_small state.ReleasePending = omega arith
code_small state.ReadError = omega arith
code_small state.Writing = omega arith
code_small state.Reading = omega arith
code_small state.Active = omega arith

status_small : (s : ProcStatus) → status_code s < 4
status_small status.Resident = omega arith
status_small status.Leaving = omega arith
status_small status.Gone = omega arith
status_small status.Coming = omega arith

section_few : (sections : List Section) (s i : ℕ) → IsSectionPage sections s i → s < length sections
section_few [] s i page = absurd (none-some page.0 page.1)
section_few (x ∷ sections) zero i page = omega arith
section_few (x ∷ sections) (suc s) i page = let rest = section_few sections s i page in omega (arith, rest)

module _ (config : Config) (past : List Entry) (a : Pager) (formed : IsWellFormed config) (kept : IsKept config (past_view past) a) (right : IsOfConfig config a) where
  abbrev frames : ℕ
  frames = config.frames

  abbrev procs : ℕ
  procs = length config.procs

  pub shown : AllByRecursion (IsShown config a) a.valid
  shown = all_shown config (past_view past) a kept right formed.frames.1

  -- ---- frames
  dumped_page : (page : Option Page) → ((g : Page) → page ≡ Some g → IsPageOf config g) → IsDumpedPage procs page
  dumped_page None each = tt
  dumped_page (Some (Private p v)) each = let own = each (Private p v) refl in (own.0, mappable own.1)
    where
      mappable : (v < P0_PAGES) ⊎ ((2 ^ 22 - P1_PAGES ≤ v) × (v < 2 ^ 22)) → v < 2 ^ 22
      mappable (inl low) = omega (arith, low)
      mappable (inr high) = high.1
  dumped_page (Some (Shared s i)) each =
      let own = (each (Shared s i) refl).0 in
      let few = section_few config.sections s.0 i own in
      let most = formed.sections.few in
      let number = number_within config s.0 i own in
      let pages = formed.sections.pages in
      (omega (arith, few, most), omega (arith, number, pages))

  -- all processes together have at most as many valid entries as slots
  ring_few : (p : ℕ) → p < procs → length (a.ring p).slots ≤ MOST_EXTENT
  ring_few p less = let bounds = bounded config (past_view past) a formed kept p less in let slots = bounds.1.slots in let most = bounds.2 in omega (arith, slots, most)

  own_length : (p : ℕ) → length (pages_in (a.ring p).slots) ≡ length (pages_of a.valid p)
  own_length p = same_length (pages_in (a.ring p).slots) (pages_of a.valid p) (λ v. same_pages config (past_view past) a kept p v)

  counted : {X : Type 0} (xs : List X) → count_by (λ (x : X). true) xs ≡ length xs
  counted [] = refl
  counted {X} (x ∷ xs) = let all = count_cons (λ (y : X). true) x xs in let rest = counted xs in omega (arith, all, rest)

  own_count : (p : ℕ) → count_by (λ (e : Valid). is_own p e && true) a.valid ≡ length (pages_of a.valid p)
  own_count p = sym (count_filter (λ (e : Valid). true) (is_own p) a.valid) ∙ counted (filter (is_own p) a.valid) ∙ sym (length_map (λ (e : Valid). e.vpn) (filter (is_own p) a.valid))

  own_few : (p : ℕ) → p < procs → count_by (λ (e : Valid). is_own p e && true) a.valid ≤ MOST_EXTENT
  own_few p less =
      let count = own_count p in
      let same = own_length p in
      let few = pages_few (a.ring p).slots in
      let ring = ring_few p less in
      omega (arith, count, same, few, ring)

  sum_few : (f : ℕ → ℕ) (s n : ℕ) → ((p : ℕ) → p < s + n → f p ≤ MOST_EXTENT) → sum_by f (range_with_len s n) ≤ MOST_EXTENT * n
  sum_few f s zero few = omega arith
  sum_few f s (suc n) few =
      let all = sum_by-cons f s (range_with_len (s + 1) n) in
      let here = few s (omega arith) in
      let rest = sum_few f (s + 1) n (λ p less. few p (omega (arith, less))) in
      omega (arith, all, here, rest)

  valid_few : length a.valid ≤ 16384
  valid_few =
      let all = over_processes config a (λ (e : Valid). true) shown in
      let count = counted a.valid in
      let few = sum_few (λ (p : ℕ). count_by (λ (e : Valid). is_own p e && true) a.valid) 0 procs (λ p less. own_few p (omega (arith, less))) in
      let most = formed.some_process.1 in
      omega (arith, all, count, few, most)

  -- at most one transfer is open on a frame
  pub one_transfer : (f : ℕ) → reads_on f (open_flights past) + writes_on f (open_flights past) ≤ 1
  one_transfer f = go (a.state f) (reads_on f (open_flights past)) (writes_on f (open_flights past)) (kept.frames f).reads (kept.frames f).writes
    where
      go : (s : FrameState) (reads writes : ℕ) → reads ≡ one_if (is state.Reading s) → HasWrites s writes → reads + writes ≤ 1
      go state.Free reads writes r w = omega (arith, r, w)
      go state.Modified reads writes r w = omega (arith, r, w)
      go state.Bad reads writes r w = omega (arith, r, w)
      go state.ReleasePending reads writes r w = omega (arith, r, w)
      go state.ReadError reads writes r w = omega (arith, r, w)
      go state.Writing reads writes r w = omega (arith, r, w)
      go state.Reading reads writes r w = omega (arith, r, w)
      go state.Active reads writes r w = omega (arith, r, w)

  references_few : (n k : ℕ) → counted_references n k ≤ 1 + k
  references_few n k = by (nat_eq n 0)
    where
      by : (b : Bool) → cond b 0 1 + k ≤ 1 + k
      by true = omega arith
      by false = omega arith

  each_frame : (f : ℕ) → f < 0 + frames → IsFrame procs (frame_at past a f)
  unfolding frame_row
  each_frame f less =
      let valid = valid_few in
      let share = count_by-le-length (λ (e : Valid). nat_eq e.frame f) a.valid in
      let pins : frame_pins a.valid a.ring f ≤ length a.valid = count_by-le-length _ a.valid in
      let flights = one_transfer f in
      let refs = references_few (shares a.valid f) (reads_on f (open_flights past) + writes_on f (open_flights past)) in
      record {
        state = code_small (a.state f);
        page = dumped_page (a.page f) (right.held f);
        refs = omega (arith, valid, pins, flights, refs);
        shares = omega (arith, valid, share);
      }

  -- ---- the page lists
  on_free : (f : ℕ) → 0 < times f a.free → f < frames
  on_free f some = good_within config (past_view past) a f state.Free kept (states_equal (a.state f) state.Free (at (is state.Free (a.state f)) (kept.frames f).on_free)) refl
    where
      at : (b : Bool) → times f a.free ≡ one_if b → b ≡ true
      at true one = refl
      at false one = absurd (omega (arith, one, some))

  on_modified : (f : ℕ) → 0 < times f a.modified → f < frames
  on_modified f some = good_within config (past_view past) a f state.Modified kept (states_equal (a.state f) state.Modified (at (is state.Modified (a.state f)) (kept.frames f).on_modified)) refl
    where
      at : (b : Bool) → times f a.modified ≡ one_if b → b ≡ true
      at true one = refl
      at false one = absurd (omega (arith, one, some))

  if_few : (b : Bool) → one_if b ≤ 1
  if_few true = omega arith
  if_few false = omega arith

  listed : (xs : List ℕ) → ((f : ℕ) → 0 < times f xs → f < frames) → ((f : ℕ) → times f xs ≤ 1) → AreFrames frames xs
  listed xs there once = record {
    few = length-once xs frames (λ f above. beyond f above (cases_lt 0 (times f xs))) once;
    each = each_there (λ (f : ℕ). f < frames) xs there;
  }
    where
      beyond : (f : ℕ) → frames ≤ f → (0 < times f xs) ⊎ (times f xs ≤ 0) → times f xs ≡ 0
      beyond f above (inl some) = absurd (let less = there f some in omega (arith, above, less))
      beyond f above (inr none) = omega (arith, none)

  -- ---- the page file
  block_times : (b : ℕ) (assigned : List Assigned) → count_of (map (λ (x : Assigned). x.block) assigned) b ≡ count_by (λ (x : Assigned). nat_eq x.block b) assigned
  block_times b assigned = count_map (λ (x : Assigned). x.block) (λ (n : ℕ). nat_eq n b) assigned

  assigned_few : length a.assigned ≤ config.pagefile
  assigned_few =
      let few = length-once (map (λ (x : Assigned). x.block) a.assigned) config.pagefile
      (λ b above. beyond b above (cases_lt 0 (times b (map (λ (x : Assigned). x.block) a.assigned))))
      (λ b. let own = block_times b a.assigned in let one = (kept.blocks (block.PageFile b)).owners in omega (arith, own, one)) in
      let same = length_map (λ (x : Assigned). x.block) a.assigned in
      omega (arith, few, same)
    where
      within : AllByRecursion (λ (b : ℕ). b < config.pagefile) (map (λ (x : Assigned). x.block) a.assigned)
      within = all_mapped (λ (b : ℕ). b < config.pagefile) (λ (x : Assigned). x.block) a.assigned right.assigned

      beyond : (b : ℕ) → config.pagefile ≤ b → (0 < times b (map (λ (x : Assigned). x.block) a.assigned)) ⊎ (times b (map (λ (x : Assigned). x.block) a.assigned) ≤ 0)
          → times b (map (λ (x : Assigned). x.block) a.assigned) ≡ 0
      beyond b above (inl some) = absurd (let less = of_times (λ (n : ℕ). n < config.pagefile) (map (λ (x : Assigned). x.block) a.assigned) b within some in omega (arith, above, less))
      beyond b above (inr none) = omega (arith, none)

  -- ---- processes
  has_words : (p : ℕ) → AllByRecursion (λ (v : ℕ). IsValidEntry frames (v, entry_word a p v)) (pages_of a.valid p)
  has_words p = own_entries config a p a.valid shown

  small_page : (p v : ℕ) → 0 < times v (pages_in (a.ring p).slots) → v < 2 ^ 22
  small_page p v some =
      let same = same_pages config (past_view past) a kept p v in
      (of_times (λ (u : ℕ). IsValidEntry frames (u, entry_word a p u)) (pages_of a.valid p) v (has_words p) (omega (arith, same, some))).vpn

  slots_right : (slots : List (Option Held)) → AllByRecursion (λ (v : ℕ). v < 2 ^ 22) (pages_in slots) → AllByRecursion IsSlot (map dumped_slot slots)
  slots_right [] all = tt
  slots_right (None ∷ slots) all = (record { vpn = omega arith; empty = λ e. (refl, refl, refl) }, slots_right slots all)
  slots_right (Some held ∷ slots) all = (record { vpn = all.0; empty = λ e. absurd (false≢true (sym e)) }, slots_right slots all.1)

  first_of_pairs : (words : ℕ → ℕ) (vs : List ℕ) → map (λ (w : ℕ × ℕ). w.0) (map (λ (v : ℕ). (v, words v)) vs) ≡ vs
  first_of_pairs words [] = refl
  first_of_pairs words (v ∷ vs) = ap (λ (us : List ℕ). v ∷ us) (first_of_pairs words vs)

  words_right : (p : ℕ) → AllByRecursion (IsValidEntry frames) (words_of a p)
  words_right p =
      all_mapped (IsValidEntry frames) (λ (v : ℕ). (v, entry_word a p v)) (valid_pages a.valid p)
      (all_ascending (λ (v : ℕ). IsValidEntry frames (v, entry_word a p v)) (pages_of a.valid p) (has_words p))

  words_few : (p : ℕ) → length (words_of a p) ≤ length (map dumped_slot (a.ring p).slots)
  words_few p =
      let pairs = length_map {Y = ℕ × ℕ} (λ (v : ℕ). (v, entry_word a p v)) (valid_pages a.valid p) in
      let order = length_ascending (pages_of a.valid p) in
      let same = own_length p in
      let few = pages_few (a.ring p).slots in
      let slots = length_map dumped_slot (a.ring p).slots in
      omega (arith, pairs, order, same, few, slots)

  words_ascend : (p : ℕ) → Ascends (map (λ (w : ℕ × ℕ). w.0) (words_of a p))
  words_ascend p =
      subst Ascends (sym (first_of_pairs (entry_word a p) (valid_pages a.valid p)))
      (once_ascends (valid_pages a.valid p) (ascending_rises (pages_of a.valid p))
      (λ v. let same = count_ascending (λ (n : ℕ). nat_eq n v) (pages_of a.valid p) in let once = pages_once config (past_view past) a kept p v in omega (arith, same, once)))

  each_process : (p : ℕ) → p < 0 + procs → IsProcess frames (process_at a p)
  each_process p less =
      let bounds = bounded config (past_view past) a formed kept p (omega (arith, less)) in
      let least = bounds.1.least in
      let most = bounds.1.most in
      let slots = bounds.1.slots in
      let hand = bounds.1.hand in
      let extent = bounds.2 in
      let same = length_map dumped_slot (a.ring p).slots in
      record {
        status = status_small (a.status p);
        few_slots = (omega (arith, least, most, slots, same), omega (arith, slots, extent, same));
        hand = omega (arith, slots, hand, same);
        limit = omega (arith, most, extent);
        slots = slots_right (a.ring p).slots (each_there (λ (v : ℕ). v < 2 ^ 22) (pages_in (a.ring p).slots) (small_page p));
        few_words = words_few p;
        words = words_right p;
        ascends = words_ascend p;
      }

  -- ---- all together
  pub frames_are : length (map (frame_at past a) (range_with_len 0 frames)) ≡ frames
  frames_are = length-map-range_with_len (frame_at past a) 0 frames

  procs_are : length (map (process_at a) (range_with_len 0 procs)) ≡ procs
  procs_are = length-map-range_with_len (process_at a) 0 procs

  pub is_dump : IsDump (dump_by config past a)
  is_dump =
      let some_frames = formed.frames.0 in
      let few_frames = formed.frames.1 in
      let some_procs = formed.some_process.0 in
      let few_procs = formed.some_process.1 in
      let count = frames_are in
      let processes = procs_are in
      let file = formed.pagefile.1 in
      let charged = kept.fit in
      let assigned = assigned_few in
      record {
        frames = (omega (arith, count, some_frames), omega (arith, count, few_frames));
        procs = (omega (arith, processes, some_procs), omega (arith, processes, few_procs));
        size = omega (arith, file);
        charged = omega (arith, file, charged);
        assigned = omega (arith, file, assigned);
        each_frame = subst (λ (n : ℕ). AllByRecursion (IsFrame n) (map (frame_at past a) (range_with_len 0 frames))) (sym processes) (all_made (IsFrame procs) (frame_at past a) 0 frames each_frame);
        free = subst (λ (n : ℕ). AreFrames n a.free) (sym count) (listed a.free on_free (λ f. let one = (kept.frames f).on_free in let few = if_few (is state.Free (a.state f)) in omega (arith, one, few)));
        modified = subst (λ (n : ℕ). AreFrames n a.modified) (sym count) (listed a.modified on_modified (λ f. let one = (kept.frames f).on_modified in let few = if_few (is state.Modified (a.state f)) in omega (arith, one, few)));
        each_process = subst (λ (n : ℕ). AllByRecursion (IsProcess n) (map (process_at a) (range_with_len 0 procs))) (sym count) (all_made (IsProcess frames) (process_at a) 0 procs each_process);
        flights = subst (λ (n : ℕ). AreFrames n (busy_frames config past)) (sym count)
            (record { few = passed_few (λ (f : ℕ). is_in_flight f (open_flights past)) 0 frames; each = passed_below (λ (f : ℕ). is_in_flight f (open_flights past)) 0 frames frames (omega arith) });
        ascends = passed_ascend (λ (f : ℕ). is_in_flight f (open_flights past)) 0 frames;
      }
