-- What is kept is sound, by the thirteen points.
use Rattle.std.proofs.Common.{◌≡◌, ◌⊎◌, ℕ, ◌+◌, ◌<◌, ◌≤◌, Bool, true, false, cond, not, ◌&&◌, ◌||◌, List, [], ◌∷◌, Option, Some, None, map, find, nat_eq, nat_lt, count_by, refl, sym, ap, ap₂, ◌∙◌, subst, subst₂, inl, inr, arith}
use Rattle.std.specs.List.{IsDistinct, AllByRecursion, list_any}
use Rattle.std.proofs.lemmas.Bool.{cases_eq, ne_eqb, eqb-true, eq-eqb, and_parts, and_from, lt-ltb, ltb-true, false≢true}
use Rattle.std.proofs.lemmas.Option.{none-some}
use Rattle.vm_types.specs.Same.{same_page, same_block, same_state}
use Rattle.vm_types.specs.declared.names.Page.{Page}
use Rattle.vm_types.specs.declared.names.Page.TheVariants.{Private, Shared}
use Rattle.vm_types.specs.declared.names.BlockId.{BlockId}
use Rattle.vm_types.specs.declared.names.BlockId.TheVariants as block
use Rattle.vm_types.specs.declared.names.FrameState.{FrameState}
use Rattle.vm_types.specs.declared.names.FrameState.TheVariants as state
use Rattle.vm_types.specs.declared.config.Config.{Config}
use Rattle.vm_journal.specs.declared.entry.Entry.{Entry}
use Rattle.vm_journal.specs.declared.entry.Role.{Role}
use Rattle.vm_journal.specs.declared.entry.Role.TheVariants as role
use Rattle.pager_model.specs.Around.{FrameView, entry_view, frame_view, page_view, past_view, process_view}
use Rattle.pager_model.specs.Flights.{Direction, Flight, has_failed_read, has_flight, is_reading, open_flights, reading, writing}
use Rattle.pager_model.specs.Lookups.{count_page, is, is_assigned_to, is_entry, own_page, page_by, shares}
use Rattle.pager_model.specs.Maps.{is_paged, is_private, page_number}
use Rattle.pager_model.specs.Pager.{Assigned, Pager, Valid}
use Rattle.pager_model.specs.Sets.{has, has_page}
use Rattle.pager_model.specs.Sound.{ReadsFrom, IsFailureSound, HasCharges, HasPages, HasStatuses, GoesRight, IsFirstReading, HasEntries, IsFlightSound, HasStates, HasContents, HasBadFrames, HasFlights, HasLists, IsPagedMapped, IsSound}
use Rattle.pager_model.specs.Transfers.{is_on_block, is_read_on, is_write_on, reads_on, writes_on}
use Rattle.pager_rules.proofs.Basics.{count_cons, count_cons_no, count_cons_yes, count_none, each_weaker, find_none_from_count, nat_eq_refl, same_page_refl, states_equal}
use Rattle.pager_rules.proofs.Frames.{at_state}
use Rattle.pager_rules.proofs.Lists.{all_found, all_step, count_found, found_passes}
use Rattle.pager_rules.specs.Kept.{FitsDirection, FitsFlight, FitsRead, HasMark, FitsState, HasShares, HasWrites, IsFirstRead, IsForItsPage, IsKept, one_if, views}

-- ---- counts and tests
any_counts : {X : Type 0} (t : X → Bool) (xs : List X) → list_any t xs ≡ nat_lt 0 (count_by t xs)
any_counts t [] = refl
any_counts {X} t (x ∷ xs) = go (t x) refl (any_counts t xs)
  where
    go : (b : Bool) → t x ≡ b → list_any t xs ≡ nat_lt 0 (count_by t xs) → (b || list_any t xs) ≡ nat_lt 0 (count_by t (x ∷ xs))
    go true is rest = sym (lt-ltb 0 _ (omega (arith, count_cons_yes t x xs is)))
    go false is rest = rest ∙ ap (λ (n : ℕ). nat_lt 0 n) (sym (count_cons_no t x xs is))

nat_eq_sym : (m n : ℕ) → nat_eq m n ≡ nat_eq n m
nat_eq_sym m n = go (cases_eq m n)
  where
    go : (m ≡ n) ⊎ (m ≡ n → ⊥) → nat_eq m n ≡ nat_eq n m
    go (inl same) = eq-eqb m n same ∙ sym (eq-eqb n m (sym same))
    go (inr apart) = ne_eqb m n apart ∙ sym (ne_eqb n m (λ same. apart (sym same)))

none_by : {X : Type 0} (t : X → Bool) (xs : List X) → count_by t xs ≡ 0 → AllByRecursion (λ (x : X). t x ≡ false) xs
none_by t [] none = tt
none_by {X} t (x ∷ xs) none = go (t x) refl (none_by t xs)
  where
    go : (b : Bool) → t x ≡ b → (count_by t xs ≡ 0 → AllByRecursion (λ (x : X). t x ≡ false) xs) → (t x ≡ false) × AllByRecursion (λ (x : X). t x ≡ false) xs
    go true passes rest = absurd (omega (arith, count_cons_yes t x xs passes))
    go false fails rest = (fails, rest (sym (count_cons_no t x xs fails) ∙ none))

all_map : {K X : Type 0} (key : X → K) (P : K → Type 0) (xs : List X) → AllByRecursion (λ (x : X). P (key x)) xs → AllByRecursion P (map key xs)
all_map key P [] all = tt
all_map key P (x ∷ xs) all = (all.0, all_map key P xs all.1)

-- a list in which no key counts twice
distinct_by : {K X : Type 0} (eq : K → K → Bool) (key : X → K) (t : K → X → Bool) → ((k : K) (x : X) → t k x ≡ eq k (key x)) → ((k : K) → eq k k ≡ true) → (xs : List X) → ((k : K) → count_by (t k) xs ≤ 1) → IsDistinct eq (map key xs)
unfolding IsDistinct
distinct_by eq key t same reflexive [] once = tt
distinct_by {K} {X} eq key t same reflexive (x ∷ xs) once = (
  all_map key (λ (k : K). eq (key x) k ≡ false) xs (each_weaker (λ (y : X). t (key x) y ≡ false) (λ (y : X). eq (key x) (key y) ≡ false) (λ y fails. sym (same (key x) y) ∙ fails) xs
      (none_by (t (key x)) xs (omega (arith, once (key x), count_cons_yes (t (key x)) x xs (same (key x) x ∙ reflexive (key x)))))),
  distinct_by eq key t same reflexive xs (λ k. omega (arith, once k, count_cons (t k) x xs)),
)

map_same : {X : Type 0} (xs : List X) → map (λ (x : X). x) xs ≡ xs
map_same [] = refl
map_same {X} (x ∷ xs) = ap (λ (ys : List X). x ∷ ys) (map_same xs)

pub same_block_refl : (b : BlockId) → same_block b b ≡ true
same_block_refl (block.Section s i) = and_from _ _ (nat_eq_refl s.0) (nat_eq_refl i)
same_block_refl (block.PageFile i) = nat_eq_refl i
same_block_refl (block.Swap p n) = and_from _ _ (nat_eq_refl p.0) (nat_eq_refl n)

-- a page that counts
pub has_from_count : (pages : List Page) (g : Page) → 0 < count_page pages g → has_page pages g ≡ true
has_from_count pages g some = any_counts (same_page g) pages ∙ lt-ltb 0 _ some

pub count_from_has : (pages : List Page) (g : Page) → has_page pages g ≡ true → 0 < count_page pages g
count_from_has pages g is = ltb-true 0 _ (sym (any_counts (same_page g) pages) ∙ is)

pub has_none : (pages : List Page) (g : Page) → count_page pages g ≡ 0 → has_page pages g ≡ false
has_none pages g none = any_counts (same_page g) pages ∙ ap (λ (n : ℕ). nat_lt 0 n) none

pub none_from_has : (pages : List Page) (g : Page) → has_page pages g ≡ false → count_page pages g ≡ 0
none_from_has pages g none = count_none (same_page g) pages none

-- ---- the same by both definitions
flip_any : (xs : List ℕ) (f : ℕ) → has xs f ≡ list_any (λ (other : ℕ). nat_eq other f) xs
flip_any [] f = refl
flip_any (x ∷ xs) f = ap₂ (λ (b c : Bool). b || c) (nat_eq_sym f x) (flip_any xs f)

in_list : (xs : List ℕ) (f : ℕ) (b : Bool) → count_by (λ (other : ℕ). nat_eq other f) xs ≡ one_if b → has xs f ≡ b
in_list xs f b is = flip_any xs f ∙ (any_counts (λ (other : ℕ). nat_eq other f) xs ∙ (ap (λ (n : ℕ). nat_lt 0 n) is ∙ whole b))
  where
    whole : (b : Bool) → nat_lt 0 (one_if b) ≡ b
    whole true = refl
    whole false = refl

-- ---- by the state of a frame
active_is : (s : FrameState) (n : ℕ) → HasShares s n → same_state s state.Active ≡ nat_lt 0 n
active_is state.Active n some = sym (lt-ltb 0 n some)
active_is other n none = ap (λ (k : ℕ). nat_lt 0 k) (sym none)

writing_is : (s : FrameState) (n w : ℕ) → HasShares s n → HasWrites s w → (same_state s state.Writing || same_state s state.ReleasePending) ≡ (nat_eq n 0 && nat_lt 0 w)
writing_is state.Active n w some few = sym (ap (λ (b : Bool). b && nat_lt 0 w) (ne_eqb n 0 (λ zero. omega arith)))
writing_is state.Writing n w none one = ap₂ (λ (k l : ℕ). nat_eq k 0 && nat_lt 0 l) (sym none) (sym one)
writing_is state.ReleasePending n w none one = ap₂ (λ (k l : ℕ). nat_eq k 0 && nat_lt 0 l) (sym none) (sym one)
writing_is other n w none also = ap₂ (λ (k l : ℕ). nat_eq k 0 && nat_lt 0 l) (sym none) (sym also)

empty_is : (s : FrameState) (o : Option Page) → FitsState s o → o ≡ None → (same_state s state.Bad || same_state s state.Free) ≡ true
empty_is state.Free o has none = refl
empty_is state.Bad o has none = refl
empty_is other o has none = absurd (none-some has.0 (sym none ∙ has.1))

marked_is : (s : FrameState) (m : Bool) → HasMark s m → same_state s state.Modified ≡ true → m ≡ true
marked_is state.Modified m has is = has
marked_is state.Free m has is = absurd (false≢true is)
marked_is other m has is = absurd (false≢true is)

clear_is : (s : FrameState) (m : Bool) → HasMark s m → (same_state s state.Free || (same_state s state.Reading || same_state s state.ReadError)) ≡ true → m ≡ false
clear_is state.Free m has is = has
clear_is state.Reading m has is = has
clear_is state.ReadError m has is = has
clear_is other m has is = absurd (false≢true is)

few_is : (s : FrameState) (r w : ℕ) → r ≡ one_if (same_state s state.Reading) → HasWrites s w → r + w ≤ 1
few_is state.Active r w reads few = omega arith
few_is other r w reads few = omega arith

on_frame_is : (f : ℕ) (flights : List Flight) → count_by (λ (x : Flight). nat_eq x.frame f) flights ≡ reads_on f flights + writes_on f flights
on_frame_is f [] = refl
on_frame_is f (x ∷ flights) =
    let rest = on_frame_is f flights in
    let both = split (nat_eq x.frame f) (is_reading x.direction) in
    omega (arith, count_cons (λ (y : Flight). nat_eq y.frame f) x flights, count_cons (is_read_on f) x flights, count_cons (is_write_on f) x flights)
  where
    split : (b c : Bool) → cond {A = ℕ} b 1 0 ≡ cond (b && c) 1 0 + cond (b && not c) 1 0
    split true true = refl
    split true false = refl
    split false c = refl

one_of : (b : Bool) → nat_lt 0 (one_if b) ≡ b
one_of true = refl
one_of false = refl

units : {X : Type 0} (xs : List X) → AllByRecursion (λ (x : X). Unit {0}) xs
units [] = tt
units (x ∷ xs) = (tt, units xs)

module _ (config : Config) (past : List Entry) (a : Pager) (kept : IsKept config (past_view past) a) where
  abbrev flights : List Flight
  flights = open_flights past

  abbrev old : ℕ → FrameView
  old = frame_view config (past_view past) a

  bad_frames : HasBadFrames config a
  bad_frames = record {
    bad = λ f. sym (kept.frames f).bad;
    empty = λ f is. let row = at_state (old f) state.Bad (states_equal _ _ (sym (kept.frames f).bad ∙ is)) (kept.frames f) in row.page;
  }

  few : (xs : List ℕ) (s : FrameState) → ((f : ℕ) → count_by (λ (other : ℕ). nat_eq other f) xs ≡ one_if (same_state (a.state f) s)) → IsDistinct nat_eq xs
  few xs s is = subst (IsDistinct nat_eq) (map_same xs) (distinct_by nat_eq (λ (x : ℕ). x) (λ (k x : ℕ). nat_eq x k) (λ k x. nat_eq_sym x k) nat_eq_refl xs (λ k. at_most (same_state (a.state k) s) (is k)))
    where
      at_most : {n : ℕ} (b : Bool) → n ≡ one_if b → n ≤ 1
      at_most true e = omega arith
      at_most false e = omega arith

  lists : HasLists a
  lists = record {
    free = λ f. in_list a.free f (is state.Free (a.state f)) (kept.frames f).on_free;
    modified = λ f. in_list a.modified f (is state.Modified (a.state f)) (kept.frames f).on_modified;
    free_once = few a.free state.Free (λ f. (kept.frames f).on_free);
    modified_once = few a.modified state.Modified (λ f. (kept.frames f).on_modified);
  }

  states : HasStates past a
  states = record {
    active = λ f. active_is (a.state f) (shares a.valid f) (kept.frames f).shares;
    reading = λ f. sym (any_counts (is_read_on f) flights ∙ (ap (λ (n : ℕ). nat_lt 0 n) (kept.frames f).reads ∙ one_of (is state.Reading (a.state f))));
    writing = λ f. writing_is (a.state f) (shares a.valid f) (writes_on f flights) (kept.frames f).shares (kept.frames f).writes
        ∙ ap (λ (b : Bool). nat_eq (shares a.valid f) 0 && b) (sym (any_counts (is_write_on f) flights));
    read_error = λ f. sym (kept.frames f).failed;
  }

  pages : HasPages a
  pages = record {
    empty = λ f none. empty_is (a.state f) (a.page f) (kept.frames f).page none;
    once = λ f g page holds also. kept.held_once f g page holds also;
    modified = λ f is. marked_is (a.state f) (a.modify f) (kept.frames f).mark is;
    clear = λ f is. clear_is (a.state f) (a.modify f) (kept.frames f).mark is;
  }

  entry_held : (p v : ℕ) (e : Valid) → find (is_entry p v) a.valid ≡ Some e → (page : Page) × (page_by config a.map p v ≡ Some page) × (a.page e.frame ≡ Some page)
  entry_held p v e found =
      let fits = all_found (IsForItsPage config a.map a.page) (is_entry p v) a.valid e kept.valid found in
      let parts = and_parts (nat_eq e.proc p) (nat_eq e.vpn v) (found_passes (is_entry p v) a.valid e found) in
      (fits.0, subst₂ (λ (q w : ℕ). page_by config a.map q w ≡ Some fits.0) (eqb-true _ _ parts.0) (eqb-true _ _ parts.1) fits.1, fits.2)

  entries : HasEntries config a
  entries = record { holds = entry_held; once = λ p v. (kept.entries p v).once; slots = λ p v. (kept.entries p v).slots }

  flights_once : HasFlights past
  flights_once = record {
    frames = distinct_by nat_eq (λ (x : Flight). x.frame) (λ (k : ℕ) (x : Flight). nat_eq x.frame k) (λ k x. nat_eq_sym x.frame k) nat_eq_refl flights
        (λ f. omega (arith, on_frame_is f flights, few_is (a.state f) (reads_on f flights) (writes_on f flights) (kept.frames f).reads (kept.frames f).writes));
    blocks = distinct_by same_block (λ (x : Flight). x.block) is_on_block (λ k x. refl) same_block_refl flights (λ b. (kept.blocks b).flights);
  }

  charges : HasCharges config a
  charges = record {
    touched = λ page is. has_from_count a.charged page (omega (arith, count_from_has a.touched page is, (kept.pages page).touched));
    fit = kept.fit;
    once = subst (IsDistinct same_page) (map_same a.charged) (distinct_by same_page (λ (g : Page). g) same_page (λ k x. refl) same_page_refl a.charged (λ g. (kept.pages g).charged));
    touched_once = subst (IsDistinct same_page) (map_same a.touched) (distinct_by same_page (λ (g : Page). g) same_page (λ k x. refl) same_page_refl a.touched
        (λ g. omega (arith, (kept.pages g).touched, (kept.pages g).charged)));
    blocks = distinct_by nat_eq (λ (x : Assigned). x.block) (λ (k : ℕ) (x : Assigned). nat_eq x.block k) (λ k x. nat_eq_sym x.block k) nat_eq_refl a.assigned (λ n. (kept.blocks (block.PageFile n)).owners);
    one_each = distinct_by same_page (λ (x : Assigned). x.page) is_assigned_to (λ k x. refl) same_page_refl a.assigned (λ g. omega (arith, (kept.pages g).blocks, (kept.pages g).charged));
    belong = all_step (λ (x : Assigned). Unit {0}) (λ (x : Assigned). has_page a.charged x.page ≡ true) a.assigned
        (λ x counts u. has_from_count a.charged x.page (omega (arith, counts (is_assigned_to x.page) (same_page_refl x.page), (kept.pages x.page).blocks))) (units a.assigned);
    shared = λ s i file. (kept.pages (Shared s i)).shared s i refl file;
    lies = λ page b lies. (kept.pages page).in_file b lies;
  }

  paged_mapped : (page : Page) → is_paged config page ≡ true → (is_private page ≡ true → own_page config a.map page ≡ Some page) → IsPagedMapped config a page
  paged_mapped (Private p v) paged is = is refl
  paged_mapped (Shared s i) paged is = paged

  saved : (f : ℕ) → (a.modify f || (nat_lt 0 (reads_on f flights + writes_on f flights) || has_failed_read f past)) ≡ true → (a.modify f || (has_flight f flights || has_failed_read f past)) ≡ true
  saved f is = subst (λ (b : Bool). (a.modify f || (b || has_failed_read f past)) ≡ true) (ap (λ (n : ℕ). nat_lt 0 n) (sym (on_frame_is f flights)) ∙ sym (any_counts (λ (x : Flight). nat_eq x.frame f) flights)) is

  contents : HasContents config past a
  contents = record {
    nowhere = λ page is lies. let found = kept.unsaved page (count_from_has a.charged page is) lies in (found.0, found.1, saved found.0 found.2);
    lying = λ page b paged lies. has_from_count a.charged page (omega (arith, (kept.pages page).lying b paged lies));
    held = λ page f paged holds. has_from_count a.charged page (kept.held_charged f page paged holds);
    mapped = λ page is. let some = count_from_has a.charged page is in paged_mapped page ((kept.pages page).paged some) ((kept.pages page).mapped some);
  }

  statuses : HasStatuses config a
  statuses = record {
    coming = kept.coming_once;
    gone = λ p. (kept.processes p).gone;
    private = λ p v e page coming found own. (kept.entries p v).coming page coming (count_found (is_entry p v) (is_entry p v) a.valid e found (found_passes (is_entry p v) a.valid e found)) own;
  }

  -- ---- flights
  first_read : (x : Flight) (r : Role) (page : Page) → IsFirstRead x r page (page_view config a page) → IsFirstReading config a x r page
  first_read x r page first = record {
    fault = first.fault;
    private = first.private;
    behind = first.behind;
    charged = has_from_count a.charged page (omega (arith, first.charged));
    untouched = has_none a.touched page first.untouched;
    unassigned = first.unassigned;
    nowhere = first.nowhere;
  }

  reads_from : (x : Flight) (r : Role) (page : Page) → FitsRead x r page (page_view config a page) → ReadsFrom config a x r page
  reads_from x r page (inl lies) = inl lies
  reads_from x r page (inr first) = inr (first_read x r page first)

  goes_right : (x : Flight) (page : Page) (d : Direction) → FitsDirection x page (page_view config a page) (process_view config a) (entry_view config a) d → GoesRight config a x d page
  goes_right x page (reading (role.Fault p address)) fits = (
    reads_from x (role.Fault p address) page fits.0,
    (fits.1.0, fits.1.1, fits.1.2, find_none_from_count (is_entry p.0 (page_number address.0)) a.valid fits.1.3, fits.1.4),
  )
  goes_right x page (reading (role.Near near)) fits = (reads_from x (role.Near near) page fits.0, fits.1)
  goes_right x page (reading (role.Come p address)) fits = (reads_from x (role.Come p address) page fits.0, fits.1)
  goes_right x page writing (inl section) = inl section
  goes_right x page writing (inr (inl file)) = inr (inl file)
  goes_right x page writing (inr (inr swap)) = inr (inr (record { p = swap.p; n = swap.n; block = swap.block; own = swap.own; leaving = swap.leaving; held = swap.held; slot = swap.slot; fits = swap.fits; unpinned = swap.unpinned }))

  failure_sound : (f : ℕ) → has_failed_read f past ≡ true → IsFailureSound config past a f
  failure_sound f is =
      let found = kept.failed.found f is in
      let x = found.0 in
      let failure = kept.failed.fits x found.1 in
      record {
        flight = x;
        failed = found.1;
        frame = found.2;
        role = failure.role;
        reads = failure.reads;
        page = failure.page;
        holds = subst (λ (g : ℕ). a.page g ≡ Some failure.page) found.2 failure.held;
        from = reads_from x failure.role failure.page failure.fits;
      }

  pub kept_is_sound : IsSound config past a
  kept_is_sound = record {
    bad_frames = bad_frames;
    lists = lists;
    states = states;
    pages = pages;
    entries = entries;
    flights = flights_once;
    charges = charges;
    swapped = kept.swapped;
    contents = contents;
    limits = λ p. (kept.processes p).bounds;
    statuses = statuses;
    transfers = each_weaker (FitsFlight (views config a)) (IsFlightSound config a) (λ x fits. (fits.page, fits.held, goes_right x fits.page x.direction fits.fits)) flights kept.transfers;
    failed = failure_sound;
  }
