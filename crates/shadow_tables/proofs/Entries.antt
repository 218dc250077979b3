-- Entries and blocks, one at most for each page, after one more or one less.
use Rattle.std.proofs.Common.{◌≡◌, inl, inr, ℕ, zero, suc, ◌+◌, ◌<◌, ◌≤◌, ◌&&◌, Bool, true, false, cond, not, List, [], ◌∷◌, Option, Some, None, filter, find, length, count_by, nat_eq, slice_get, slice_set, slice_index_or, refl, sym, ap, ap₂, ◌∙◌, subst, arith}
use Rattle.std.specs.Prelude.{option_and_then, replicate}
use Rattle.std.specs.Option.{option_map}
use Rattle.std.proofs.lemmas.Bool.Decides.{eqb_tells}
use Rattle.std.proofs.lemmas.Bool.{and_parts, eqb-true, eq-eqb, ne_eqb}
use Rattle.std.proofs.lemmas.List.{get_or-set_other, get_or-set_same}
use Rattle.std.proofs.lemmas.List.Sums.{length-filter}
use Rattle.std.proofs.lemmas.List.Filters.{length-filter_both}
use Rattle.std.proofs.lemmas.Option.{get_or_from_slice_get, none-some, same_Some}
use Rattle.vm_types.specs.Same.{same_page}
use Rattle.vm_types.specs.PagePlaces.{item_at, page_place}
use Rattle.vm_types.proofs.Places.{item_at-set}
use Rattle.vm_types.specs.declared.names.BlockId.{BlockId}
use Rattle.vm_types.specs.declared.names.BlockId.TheVariants as block
use Rattle.vm_types.specs.declared.names.Page.{Page}
use Rattle.vm_types.specs.declared.names.Pfn.{Pfn}
use Rattle.vm_types.specs.declared.names.Proc.{Proc}
use Rattle.vm_types.specs.declared.names.SecId.{SecId}
use Rattle.pager_model.specs.Changes.{without_assigned, without_entry}
use Rattle.pager_model.specs.Lookups.{block_of, entries_at, entry_of, is_assigned_to, is_entry, is_owner, shares}
use Rattle.pager_model.specs.Out.{assigned_with}
use Rattle.pager_model.specs.Pager.{Assigned, Valid}
use Rattle.pager_model.specs.Sets.{at_page}
use Rattle.pager_rules.proofs.Basics.{count_cons, count_cons_no, count_cons_yes, count_from_no_find, find_none_from_count, pages_equal, same_from_equal}
use Rattle.pager_rules.proofs.Lists.{count_filter_le, count_removed, filter_all, found_passes}
use Rattle.shadow_tables.specs.declared.changes.Change.{Change}
use Rattle.shadow_tables.specs.declared.changes.Change.TheVariants as change
use Rattle.shadow_tables.specs.Listed.{AreAssigned, AreEntries, assigned_after, entries_of, frame_of, valid_after}
use Rattle.shadow_tables.proofs.Counted.{apart}
use Rattle.shadow_tables.proofs.Dropped.{dropped_find, dropped_other, dropped_own}

-- ---- what passes p, where one item passes q
none_mapped : {X Y : Type 0} (f : X → Y) (o : Option X) → option_map f o ≡ None → o ≡ None
none_mapped f None is = refl
none_mapped f (Some x) is = cc

some_mapped : {X Y : Type 0} (f : X → Y) (o : Option X) (y : Y) → option_map f o ≡ Some y → (x : X) × (o ≡ Some x) × (f x ≡ y)
some_mapped f None y is = absurd (cc)
some_mapped f (Some x) y is = (x, refl, same_Some (f x) y is)

-- it fails p: the items that pass p are the same without it
pub removed_filter : {X : Type 0} (p q : X → Bool) (xs : List X) (x : X) → find q xs ≡ Some x → count_by q xs ≤ 1 → p x ≡ false → filter p (filter (λ (y : X). not (q y)) xs) ≡ filter p xs
removed_filter p q [] x found once fails = refl
removed_filter {X} p q (y ∷ xs) x found once fails = go (q y) refl found (removed_filter p q xs x)
  where
    kept : List X
    kept = filter (λ (z : X). not (q z)) xs

    go : (b : Bool) → q y ≡ b → cond b (Some y) (find q xs) ≡ Some x → (find q xs ≡ Some x → count_by q xs ≤ 1 → p x ≡ false → filter p kept ≡ filter p xs)
        → filter p (cond (not b) (y ∷ kept) kept) ≡ filter p (y ∷ xs)
    go true is here rest =
        let same : y ≡ x = cc in
        let more = count_cons_yes q y xs is in
        let none : count_by q xs ≡ 0 = omega arith in
        ap (filter p) (filter_all q xs none) ∙ ap (λ (b : Bool). cond b (y ∷ filter p xs) (filter p xs)) (sym (ap p same ∙ fails))
    go false is there rest =
        let fewer = count_cons_no q y xs is in
        ap (λ (zs : List X). cond (p y) (y ∷ zs) zs) (rest there (omega arith) fails)

-- one test after the other
pub filters_change : {X : Type 0} (p q : X → Bool) (xs : List X) → filter p (filter q xs) ≡ filter q (filter p xs)
filters_change p q [] = refl
filters_change {X} p q (x ∷ xs) = go (p x) (q x) refl refl (filters_change p q xs)
  where
    go : (b c : Bool) → p x ≡ b → q x ≡ c → filter p (filter q xs) ≡ filter q (filter p xs) → filter p (cond c (x ∷ filter q xs) (filter q xs)) ≡ filter q (cond b (x ∷ filter p xs) (filter p xs))
    go true true is_p is_q rest =
        ap (λ (b : Bool). cond b (x ∷ filter p (filter q xs)) (filter p (filter q xs))) is_p
        ∙ (ap (λ (zs : List X). x ∷ zs) rest ∙ sym (ap (λ (b : Bool). cond b (x ∷ filter q (filter p xs)) (filter q (filter p xs))) is_q))
    go true false is_p is_q rest = rest ∙ sym (ap (λ (b : Bool). cond b (x ∷ filter q (filter p xs)) (filter q (filter p xs))) is_q)
    go false true is_p is_q rest = ap (λ (b : Bool). cond b (x ∷ filter p (filter q xs)) (filter p (filter q xs))) is_p ∙ rest
    go false false is_p is_q rest = rest

-- none passes
none_pass : {X : Type 0} (p : X → Bool) → ((x : X) → p x ≡ false) → (xs : List X) → count_by p xs ≡ 0
none_pass p none [] = refl
none_pass p none (x ∷ xs) = count_cons_no p x xs (none x) ∙ none_pass p none xs

-- the same item in each place
all_same : {X : Type 0} (x : X) (n k : ℕ) → slice_index_or (replicate n x) k x ≡ x
all_same x zero k = refl
all_same x (suc n) zero = refl
all_same x (suc n) (suc k) = all_same x n k

-- ---- blocks
module _ (xs : List Assigned) (blocks : Page → Option ℕ) (owners : List ℕ) (len : ℕ) (are : AreAssigned xs blocks owners len) (g : Page) where
  pub none_assigned : blocks g ≡ None → count_by (is_assigned_to g) xs ≡ 0
  none_assigned none = count_from_no_find (is_assigned_to g) xs (none_mapped (λ (x : Assigned). x.block) (find (is_assigned_to g) xs) (sym (are.each g) ∙ none))

  far : (h : Page) → same_page g h ≡ false → (x : Assigned) → is_assigned_to g x ≡ true → is_assigned_to h x ≡ false
  far h other x is = ap (same_page h) (sym (pages_equal g x.page is)) ∙ apart g h other

  pub given : (n m : ℕ) → blocks g ≡ None → n < length owners → m ≡ slice_index_or owners n 0 + 1
      → AreAssigned (record { page = g; block = n } ∷ xs) (at_page blocks g (Some n)) (slice_set owners n m) (len + 1)
  given n m none within more =
      record {
        each = λ h. each h (same_page g h) refl;
        once = λ h. once h (same_page g h) refl;
        owned = owned;
        all = omega (arith, are.all);
      }
    where
      new : Assigned
      new = record { page = g; block = n }

      each : (h : Page) (b : Bool) → same_page g h ≡ b → cond b (Some n) (blocks h) ≡ block_of (new ∷ xs) h
      each h true here = sym (ap (λ (b : Bool). option_map (λ (x : Assigned). x.block) (cond b (Some new) (find (is_assigned_to h) xs))) (same_from_equal h g (sym (pages_equal g h here))))
      each h false other = are.each h ∙ sym (ap (λ (b : Bool). option_map (λ (x : Assigned). x.block) (cond b (Some new) (find (is_assigned_to h) xs))) (apart g h other))

      once : (h : Page) (b : Bool) → same_page g h ≡ b → count_by (is_assigned_to h) (new ∷ xs) ≤ 1
      once h true here =
          let more = count_cons_yes (is_assigned_to h) new xs (same_from_equal h g (sym (pages_equal g h here))) in
          let before = ap (λ (k : Page). count_by (is_assigned_to k) xs) (pages_equal g h here) in
          omega (arith, more, before, none_assigned none)
      once h false other = let same = count_cons_no (is_assigned_to h) new xs (apart g h other) in omega (arith, same, are.once h)

      owned : (k : ℕ) → slice_index_or (slice_set owners n m) k 0 ≡ count_by (is_owner (block.PageFile k)) (new ∷ xs)
      owned k =
          elim (eqb_tells n k) [
            | inl same ↦
                let there = ap (λ (j : ℕ). slice_index_or (slice_set owners n m) j 0) (sym same.1) ∙ get_or-set_same owners n m 0 within in
                let one = count_cons_yes (is_owner (block.PageFile k)) new xs same.0 in
                let before = ap (λ (j : ℕ). slice_index_or owners j 0) same.1 in
                omega (arith, there, one, before, more, are.owned k)
            | inr other ↦ get_or-set_other owners n k m 0 (λ e. other.1 (sym e)) ∙ (are.owned k ∙ sym (count_cons_no (is_owner (block.PageFile k)) new xs other.0))
          ]

  pub freed : (n m l : ℕ) → blocks g ≡ Some n → n < length owners → m + 1 ≡ slice_index_or owners n 0 → l + 1 ≡ len
      → AreAssigned (without_assigned xs g) (at_page blocks g None) (slice_set owners n m) l
  freed n m l is within less shorter =
      let found = some_mapped (λ (x : Assigned). x.block) (find (is_assigned_to g) xs) n (sym (are.each g) ∙ is) in
      whole found.0 found.1 found.2
    where
      kept : List Assigned
      kept = without_assigned xs g

      each : (h : Page) (b : Bool) → same_page g h ≡ b → cond b None (blocks h) ≡ block_of kept h
      each h true here =
          let none : find (is_assigned_to g) kept ≡ None = find_none_from_count (is_assigned_to g) kept (dropped_own (is_assigned_to g) xs) in
          sym (ap (option_map (λ (x : Assigned). x.block)) none) ∙ ap (block_of kept) (pages_equal g h here)
      each h false other = are.each h ∙ sym (ap (option_map (λ (x : Assigned). x.block)) (dropped_find (is_assigned_to h) (is_assigned_to g) (far h other) xs))

      whole : (x : Assigned) → find (is_assigned_to g) xs ≡ Some x → x.block ≡ n → AreAssigned kept (at_page blocks g None) (slice_set owners n m) l
      whole x found at =
          record {
            each = λ h. each h (same_page g h) refl;
            once = λ h. let fewer = count_filter_le (is_assigned_to h) (λ (y : Assigned). not (is_assigned_to g y)) xs in omega (arith, fewer, are.once h);
            owned = owned;
            all =
                let passes = ap (λ (b : Bool). cond {A = ℕ} b 1 0) (found_passes (is_assigned_to g) xs x found) in
                let one = count_removed (is_assigned_to g) (is_assigned_to g) xs x found (are.once g) in
                let none = dropped_own (is_assigned_to g) xs in
                let both = length-filter_both (is_assigned_to g) (λ (y : Assigned). not (is_assigned_to g y)) (λ y. refl) xs in
                let gone = length-filter (is_assigned_to g) xs in
                omega (arith, passes, one, none, both, gone, shorter, are.all);
          }
        where
          owned : (k : ℕ) → slice_index_or (slice_set owners n m) k 0 ≡ count_by (is_owner (block.PageFile k)) kept
          owned k =
              let gone = count_removed (is_owner (block.PageFile k)) (is_assigned_to g) xs x found (are.once g) in
              elim (eqb_tells n k) [
                | inl same ↦
                    let there = ap (λ (j : ℕ). slice_index_or (slice_set owners n m) j 0) (sym same.1) ∙ get_or-set_same owners n m 0 within in
                    let one = ap (λ (b : Bool). cond {A = ℕ} b 1 0) (ap (λ (j : ℕ). nat_eq j k) at ∙ same.0) in
                    let before = ap (λ (j : ℕ). slice_index_or owners j 0) same.1 in
                    omega (arith, there, one, before, less, gone, are.owned k)
                | inr other ↦
                    let none = ap (λ (b : Bool). cond {A = ℕ} b 1 0) (ap (λ (j : ℕ). nat_eq j k) at ∙ other.0) in
                    let there = get_or-set_other owners n k m 0 (λ e. other.1 (sym e)) in
                    omega (arith, none, there, gone, are.owned k)
              ]

-- no block but one of the page file is assigned
pub none_owns_section : (xs : List Assigned) (b : BlockId) (s : SecId) (i : ℕ) → b ≡ block.Section s i → 0 ≡ count_by (is_owner b) xs
none_owns_section xs b s i is = sym (ap (λ (c : BlockId). count_by (is_owner c) xs) is ∙ none_pass (is_owner (block.Section s i)) (λ x. refl) xs)

pub none_owns_swap : (xs : List Assigned) (b : BlockId) (p : Proc) (n : ℕ) → b ≡ block.Swap p n → 0 ≡ count_by (is_owner b) xs
none_owns_swap xs b p n is = sym (ap (λ (c : BlockId). count_by (is_owner c) xs) is ∙ none_pass (is_owner (block.Swap p n)) (λ x. refl) xs)

-- a page that has a block is assigned no other, and one that has none is assigned this one
pub with_one : (xs : List Assigned) (g : Page) (n m : ℕ) → block_of xs g ≡ Some m → xs ≡ assigned_with xs (Some g) (block.PageFile n)
with_one xs g n m is = go (nat_eq (count_by (is_assigned_to g) xs) 0) refl
  where
    go : (b : Bool) → nat_eq (count_by (is_assigned_to g) xs) 0 ≡ b → xs ≡ cond b (record { page = g; block = n } ∷ xs) xs
    go true nil =
        let none : find (is_assigned_to g) xs ≡ None = find_none_from_count (is_assigned_to g) xs (eqb-true (count_by (is_assigned_to g) xs) 0 nil) in
        absurd (none-some m (sym (ap (option_map (λ (x : Assigned). x.block)) none) ∙ is))
    go false other = refl

unassigned : (xs : List Assigned) (g : Page) → block_of xs g ≡ None → count_by (is_assigned_to g) xs ≡ 0
unassigned xs g none = count_from_no_find (is_assigned_to g) xs (none_mapped (λ (x : Assigned). x.block) (find (is_assigned_to g) xs) none)

pub with_none : (xs : List Assigned) (g : Page) (n : ℕ) → block_of xs g ≡ None → record { page = g; block = n } ∷ xs ≡ assigned_with xs (Some g) (block.PageFile n)
with_none xs g n none = sym (ap (λ (b : Bool). cond b (record { page = g; block = n } ∷ xs) xs) (eq-eqb (count_by (is_assigned_to g) xs) 0 (unassigned xs g none)))

pub none_without : (xs : List Assigned) (g : Page) → block_of xs g ≡ None → xs ≡ without_assigned xs g
none_without xs g none = sym (filter_all (is_assigned_to g) xs (unassigned xs g none))

-- ---- blocks, by what was said of them
pub first_assigned : (changes : List Change) (blocks : Page → Option ℕ) (owners : List ℕ) (n : ℕ) → changes ≡ [] → ((g : Page) → blocks g ≡ None) → owners ≡ replicate n 0 → AreAssigned (assigned_after changes) blocks owners 0
first_assigned changes blocks owners n is none zeros =
    subst (λ (cs : List Change). AreAssigned (assigned_after cs) blocks owners 0) (sym is)
    (subst (λ (os : List ℕ). AreAssigned [] blocks os 0) (sym zeros)
    (record { each = none; once = λ g. omega arith; owned = λ k. all_same 0 n k; all = refl }))

module _ (changes after : List Change) (blocks : Page → Option ℕ) (owners counts : List ℕ) (len : ℕ) (assigned : List Assigned)
    (are : AreAssigned (assigned_after changes) blocks owners len) (view : assigned_after changes ≡ assigned) (same : counts ≡ owners) (g : Page) (n m l : ℕ) (within : n < length counts) where
  stood : blocks g ≡ block_of assigned g
  stood = are.each g ∙ ap (λ (xs : List Assigned). block_of xs g) view

  inside : n < length owners
  inside = subst (λ (os : List ℕ). n < length os) same within

  counted : slice_index_or counts n 0 ≡ slice_index_or owners n 0
  counted = ap (λ (os : List ℕ). slice_index_or os n 0) same

  pub given_told : (new : Page → Option ℕ) → block_of assigned g ≡ None → m ≡ slice_index_or counts n 0 + 1 → l ≡ len + 1 → new ≡ at_page blocks g (Some n) → after ≡ change.Given g n ∷ changes
      → AreAssigned (assigned_after after) new (slice_set owners n m) l
  given_told new none more longer is then =
      subst (λ (cs : List Change). AreAssigned (assigned_after cs) new (slice_set owners n m) l) (sym then)
      (subst (λ (bs : Page → Option ℕ). AreAssigned (record { page = g; block = n } ∷ assigned_after changes) bs (slice_set owners n m) l) (sym is)
      (subst (λ (k : ℕ). AreAssigned (record { page = g; block = n } ∷ assigned_after changes) (at_page blocks g (Some n)) (slice_set owners n m) k) (sym longer)
      (given (assigned_after changes) blocks owners len are g n m (stood ∙ none) inside (more ∙ ap (λ (k : ℕ). k + 1) counted))))

  pub freed_told : (new : Page → Option ℕ) → block_of assigned g ≡ Some n → m + 1 ≡ slice_index_or counts n 0 → l + 1 ≡ len → new ≡ at_page blocks g None → after ≡ change.Taken g ∷ changes
      → AreAssigned (assigned_after after) new (slice_set owners n m) l
  freed_told new some less shorter is then =
      subst (λ (cs : List Change). AreAssigned (assigned_after cs) new (slice_set owners n m) l) (sym then)
      (subst (λ (bs : Page → Option ℕ). AreAssigned (without_assigned (assigned_after changes) g) bs (slice_set owners n m) l) (sym is)
      (freed (assigned_after changes) blocks owners len are g n m l (stood ∙ some) inside (less ∙ counted) shorter))

-- ---- valid entries
pub list_there : {X : Type 0} (xs : List (List X)) (k : ℕ) (here : List X) → slice_get xs k ≡ Some here → here ≡ slice_index_or xs k []
list_there xs k here is = sym (get_or_from_slice_get xs k here [] is)

pub none_there : {X : Type 0} (xs : List (List X)) (k : ℕ) → slice_get xs k ≡ None → [] ≡ slice_index_or xs k []
none_there [] k is = refl
none_there (x ∷ xs) zero is = absurd (none-some x (sym is))
none_there (x ∷ xs) (suc k) is = none_there xs k is

module _ (valid : List Valid) (frames : List (Option ℕ)) (sharers : List (List Valid)) (are : AreEntries valid frames sharers) where
  -- the entry of a process for a page
  pub entry_is : (p v : ℕ) → option_map (λ f. record { proc = p; vpn = v; frame = f }) (item_at frames p v) ≡ entry_of valid p v
  entry_is p v = ap (option_map (λ (f : ℕ). record { proc = p; vpn = v; frame = f })) (are.each p v) ∙ go (entry_of valid p v) refl
    where
      go : (o : Option Valid) → entry_of valid p v ≡ o → option_map (λ (f : ℕ). record { proc = p; vpn = v; frame = f }) (frame_of o) ≡ o
      go None found = refl
      go (Some e) found =
          let is = found_passes (is_entry p v) valid e found in
          let parts = and_parts (nat_eq e.proc p) (nat_eq e.vpn v) is in
          ap Some (same_entry e p v (eqb-true e.proc p parts.0) (eqb-true e.vpn v parts.1))
        where
          same_entry : (x : Valid) (q w : ℕ) → x.proc ≡ q → x.vpn ≡ w → record { proc = q; vpn = w; frame = x.frame } ≡ x
          same_entry x q w is_q is_w = λ i. record { proc = sym is_q i; vpn = sym is_w i; frame = x.frame }

  -- how many there are
  pub entries_one : (p v : ℕ) (e : Valid) → entry_of valid p v ≡ Some e → entries_at valid p v ≡ 1
  entries_one p v e found =
      let passes = ap (λ (b : Bool). cond {A = ℕ} b 1 0) (found_passes (is_entry p v) valid e found) in
      let gone = count_removed (is_entry p v) (is_entry p v) valid e found (are.once p v) in
      omega (arith, passes, gone, are.once p v)

  pub entries_none : (p v : ℕ) → entry_of valid p v ≡ None → entries_at valid p v ≡ 0
  entries_none p v none = count_from_no_find (is_entry p v) valid none

  pub one_entry : (p v f : ℕ) → item_at frames p v ≡ Some f → entries_at valid p v ≡ 1
  one_entry p v f is =
      let found = some_mapped (λ (x : Valid). x.frame) (entry_of valid p v) f (sym (are.each p v) ∙ is) in
      entries_one p v found.0 found.1

  pub no_entries : (p v : ℕ) → item_at frames p v ≡ None → entries_at valid p v ≡ 0
  no_entries p v is = entries_none p v (none_mapped (λ (x : Valid). x.frame) (entry_of valid p v) (sym (are.each p v) ∙ is))

  module _ (p v place : ℕ) (at : page_place p v ≡ Some place) (there : place < length frames) where
    stands : slice_index_or frames place None ≡ frame_of (entry_of valid p v)
    stands = sym (ap (option_and_then (λ k. slice_index_or frames k None)) at) ∙ are.each p v

    no_entry : slice_index_or frames place None ≡ None → entries_at valid p v ≡ 0
    no_entry none = count_from_no_find (is_entry p v) valid (none_mapped (λ (x : Valid). x.frame) (entry_of valid p v) (sym stands ∙ none))

    -- it leaves nothing behind, since it isn't there
    pub none_left : slice_index_or frames place None ≡ None → valid ≡ without_entry valid p v
    none_left none = sym (filter_all (is_entry p v) valid (no_entry none))

    pub entered : (f : ℕ) → slice_index_or frames place None ≡ None → f < length sharers
        → AreEntries (record { proc = p; vpn = v; frame = f } ∷ valid) (slice_set frames place (Some f)) (slice_set sharers f (record { proc = p; vpn = v; frame = f } ∷ slice_index_or sharers f []))
    entered f none within =
        record {
          each = λ q w. item_at-set frames (Some f) p v place at there q w ∙ each q w (nat_eq p q && nat_eq v w);
          once = λ q w. once q w (nat_eq p q && nat_eq v w) refl;
          shared = shared;
        }
      where
        new : Valid
        new = record { proc = p; vpn = v; frame = f }

        each : (q w : ℕ) (b : Bool) → cond b (Some f) (item_at frames q w) ≡ frame_of (cond b (Some new) (entry_of valid q w))
        each q w true = refl
        each q w false = are.each q w

        once : (q w : ℕ) (b : Bool) → (nat_eq p q && nat_eq v w) ≡ b → entries_at (new ∷ valid) q w ≤ 1
        once q w true here =
            let parts = and_parts (nat_eq p q) (nat_eq v w) here in
            let before = ap₂ (entries_at valid) (eqb-true p q parts.0) (eqb-true v w parts.1) in
            let more = count_cons_yes (is_entry q w) new valid here in
            omega (arith, more, before, no_entry none)
        once q w false other = let same = count_cons_no (is_entry q w) new valid other in omega (arith, same, are.once q w)

        shared : (k : ℕ) → slice_index_or (slice_set sharers f (new ∷ slice_index_or sharers f [])) k [] ≡ entries_of (new ∷ valid) k
        shared k =
            elim (eqb_tells f k) [
              | inl same ↦
                  ap (λ (j : ℕ). slice_index_or (slice_set sharers f (new ∷ slice_index_or sharers f [])) j []) (sym same.1)
                  ∙ (get_or-set_same sharers f (new ∷ slice_index_or sharers f []) [] within
                  ∙ (ap (λ (zs : List Valid). new ∷ zs) (are.shared f ∙ ap (entries_of valid) same.1)
                  ∙ sym (ap (λ (b : Bool). cond b (new ∷ entries_of valid k) (entries_of valid k)) same.0)))
              | inr other ↦
                  get_or-set_other sharers f k (new ∷ slice_index_or sharers f []) [] (λ e. other.1 (sym e))
                  ∙ (are.shared k ∙ sym (ap (λ (b : Bool). cond b (new ∷ entries_of valid k) (entries_of valid k)) other.0))
            ]

    pub left : (f : ℕ) → slice_index_or frames place None ≡ Some f → f < length sharers
        → AreEntries (without_entry valid p v) (slice_set frames place None) (slice_set sharers f (filter (λ (e : Valid). not (is_entry p v e)) (slice_index_or sharers f [])))
    left f is within =
        let found = some_mapped (λ (x : Valid). x.frame) (entry_of valid p v) f (sym stands ∙ is) in
        whole found.0 found.1 found.2
      where
        kept : List Valid
        kept = without_entry valid p v

        each : (q w : ℕ) (b : Bool) → (nat_eq p q && nat_eq v w) ≡ b → cond b None (item_at frames q w) ≡ frame_of (entry_of kept q w)
        each q w true here =
            let parts = and_parts (nat_eq p q) (nat_eq v w) here in
            let none : entry_of kept p v ≡ None = find_none_from_count (is_entry p v) kept (dropped_own (is_entry p v) valid) in
            sym (ap frame_of none) ∙ ap₂ (λ a b. frame_of (entry_of kept a b)) (eqb-true p q parts.0) (eqb-true v w parts.1)
        each q w false other = are.each q w ∙ sym (ap frame_of (dropped_find (is_entry q w) (is_entry p v) far valid))
          where
            far : (x : Valid) → is_entry p v x ≡ true → is_entry q w x ≡ false
            far x is_x =
                let parts = and_parts (nat_eq x.proc p) (nat_eq x.vpn v) is_x in
                ap₂ (λ a b. nat_eq a q && nat_eq b w) (eqb-true x.proc p parts.0) (eqb-true x.vpn v parts.1) ∙ other

        whole : (e : Valid) → entry_of valid p v ≡ Some e → e.frame ≡ f
            → AreEntries kept (slice_set frames place None) (slice_set sharers f (filter (λ (x : Valid). not (is_entry p v x)) (slice_index_or sharers f [])))
        whole e found is_f =
            record {
              each = λ q w. item_at-set frames None p v place at there q w ∙ each q w (nat_eq p q && nat_eq v w) refl;
              once = λ q w. let fewer = count_filter_le (is_entry q w) (λ (x : Valid). not (is_entry p v x)) valid in omega (arith, fewer, are.once q w);
              shared = shared;
            }
          where
            rest : List Valid
            rest = filter (λ (x : Valid). not (is_entry p v x)) (slice_index_or sharers f [])

            shared : (k : ℕ) → slice_index_or (slice_set sharers f rest) k [] ≡ entries_of kept k
            shared k =
                elim (eqb_tells f k) [
                  | inl same ↦
                      ap (λ (j : ℕ). slice_index_or (slice_set sharers f rest) j []) (sym same.1)
                      ∙ (get_or-set_same sharers f rest [] within
                      ∙ (ap (filter (λ (x : Valid). not (is_entry p v x))) (are.shared f ∙ ap (entries_of valid) same.1)
                      ∙ sym (filters_change (λ (x : Valid). nat_eq x.frame k) (λ (x : Valid). not (is_entry p v x)) valid)))
                  | inr other ↦
                      get_or-set_other sharers f k rest [] (λ e. other.1 (sym e))
                      ∙ (are.shared k
                      ∙ sym (removed_filter (λ (x : Valid). nat_eq x.frame k) (is_entry p v) valid e found (are.once p v) (ap (λ (j : ℕ). nat_eq j k) is_f ∙ other.0)))
                ]

-- ---- entries, by what was said of them
abbrev empty_rows : ℕ → List (Option ℕ)
empty_rows m = replicate m None

none_placed : (m : ℕ) (o : Option ℕ) → option_and_then (λ (place : ℕ). slice_index_or (empty_rows m) place None) o ≡ None
none_placed m None = refl
none_placed m (Some k) = all_same None m k

pub first_valid : (changes : List Change) (frames : List (Option ℕ)) (sharers : List (List Valid)) (m n : ℕ) → changes ≡ [] → frames ≡ replicate m None → sharers ≡ replicate n [] → AreEntries (valid_after changes) frames sharers
first_valid changes frames sharers m n is none empty =
    subst (λ (cs : List Change). AreEntries (valid_after cs) frames sharers) (sym is)
    (subst (λ (fs : List (Option ℕ)). AreEntries [] fs sharers) (sym none)
    (subst (λ (ss : List (List Valid)). AreEntries [] (replicate m None) ss) (sym empty)
    (record { each = λ p v. none_placed m (page_place p v); once = λ p v. omega arith; shared = λ f. all_same [] n f })))

module _ (changes after : List Change) (frames : List (Option ℕ)) (sharers : List (List Valid)) (are : AreEntries (valid_after changes) frames sharers)
    (p : Proc) (v place : ℕ) (at : page_place p.0 v ≡ Some place) (there : place < length frames) (new_frames : List (Option ℕ)) (new_sharers : List (List Valid)) where
  pub entered_told : (f : Pfn) → slice_index_or frames place None ≡ None → f.0 < length sharers
      → new_sharers ≡ slice_set sharers f.0 (record { proc = p.0; vpn = v; frame = f.0 } ∷ slice_index_or sharers f.0 []) → new_frames ≡ slice_set frames place (Some f.0) → after ≡ change.Entered p v f ∷ changes
      → AreEntries (valid_after after) new_frames new_sharers
  entered_told f none within put set then =
      subst (λ (cs : List Change). AreEntries (valid_after cs) new_frames new_sharers) (sym then)
      (subst (λ (fs : List (Option ℕ)). AreEntries (record { proc = p.0; vpn = v; frame = f.0 } ∷ valid_after changes) fs new_sharers) (sym set)
      (subst (λ (ss : List (List Valid)). AreEntries (record { proc = p.0; vpn = v; frame = f.0 } ∷ valid_after changes) (slice_set frames place (Some f.0)) ss) (sym put)
      (entered (valid_after changes) frames sharers are p.0 v place at there f.0 none within)))

  pub left_told : (f : ℕ) → slice_index_or frames place None ≡ Some f → f < length sharers
      → new_sharers ≡ slice_set sharers f (filter (λ (e : Valid). not (is_entry p.0 v e)) (slice_index_or sharers f [])) → new_frames ≡ slice_set frames place None → after ≡ change.Left p v ∷ changes
      → AreEntries (valid_after after) new_frames new_sharers
  left_told f some within removed set then =
      subst (λ (cs : List Change). AreEntries (valid_after cs) new_frames new_sharers) (sym then)
      (subst (λ (fs : List (Option ℕ)). AreEntries (without_entry (valid_after changes) p.0 v) fs new_sharers) (sym set)
      (subst (λ (ss : List (List Valid)). AreEntries (without_entry (valid_after changes) p.0 v) (slice_set frames place None) ss) (sym removed)
      (left (valid_after changes) frames sharers are p.0 v place at there f some within)))
