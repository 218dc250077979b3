-- Small facts on tests, changed functions, sets as lists, counts and first elements.
use Rattle.std.proofs.Common.{◌≡◌, ℕ, ◌+◌, ◌*◌, Bool, true, false, cond, not, ◌&&◌, ◌||◌, List, [], ◌∷◌, Some, None, replicate, nat_eq, count_by, find, slice_get, slice_set, slice_index_or, refl, sym, ap, ◌∙◌, subst, arith}
use Rattle.std.specs.List.{list_any, AllByRecursion}
use Rattle.std.proofs.lemmas.Bool.{eqb-true, eqb-false, eq-eqb, ne_eqb, false≢true, true≢false, and_parts, and_from, or_parts, or_from, or_left}
use Rattle.std.proofs.lemmas.List.Sums.{sum_by-cons, sum_by-set}
use Rattle.std.proofs.lemmas.List.Folds.{sum_by-replicate}
use Rattle.std.proofs.lemmas.Option.{get_or_from_slice_get, slice_get_within}
use Rattle.vm_types.specs.Same.{same_page, same_state, state_code}
use Rattle.vm_types.specs.declared.names.Page.{Page}
use Rattle.vm_types.specs.declared.names.Page.TheVariants.{Private, Shared}
use Rattle.vm_types.specs.declared.names.FrameState.{FrameState}
use Rattle.vm_types.specs.declared.names.FrameState.TheVariants as state
use Rattle.vm_journal.specs.declared.entry.Entry.{Entry}
use Rattle.vm_journal.specs.declared.entry.What.{What}
use Rattle.vm_journal.specs.declared.entry.What.TheVariants as what
use Rattle.pager_model.specs.Flights.{Flight, awaits_reuse, fails_read, fails_read_of, has_failed_read, has_flight, has_read, has_write, is_reading}
use Rattle.pager_model.specs.Lookups.{passes}
use Rattle.pager_model.specs.Sets.{at_number, has_page}

-- ---- tests on numbers
pub nat_eq_refl : (n : ℕ) → nat_eq n n ≡ true
nat_eq_refl n = eq-eqb n n refl

pub nat_eq_apart : (m n : ℕ) → nat_eq m n ≡ false → nat_eq n m ≡ false
nat_eq_apart m n e = ne_eqb n m (λ (q : n ≡ m). eqb-false m n e (sym q))

-- ---- two pages are the same exactly where they are equal
pub same_page_refl : (page : Page) → same_page page page ≡ true
same_page_refl (Private p v) = and_from _ _ (nat_eq_refl p.0) (nat_eq_refl v)
same_page_refl (Shared s i) = and_from _ _ (nat_eq_refl s.0) (nat_eq_refl i)

pub pages_equal : (a b : Page) → same_page a b ≡ true → a ≡ b
pages_equal (Private p v) (Private q w) e =
    let parts = and_parts (nat_eq p.0 q.0) (nat_eq v w) e in
    let first = eqb-true p.0 q.0 parts.0 in
    let second = eqb-true v w parts.1 in
    λ i. Private (record { 0 = first i }) (second i)
pages_equal (Shared s x) (Shared t y) e =
    let parts = and_parts (nat_eq s.0 t.0) (nat_eq x y) e in
    let first = eqb-true s.0 t.0 parts.0 in
    let second = eqb-true x y parts.1 in
    λ i. Shared (record { 0 = first i }) (second i)
pages_equal (Private p v) (Shared t y) e = absurd (false≢true e)
pages_equal (Shared s x) (Private q w) e = absurd (false≢true e)

pub same_from_equal : (a b : Page) → a ≡ b → same_page a b ≡ true
same_from_equal a b e = subst (λ (x : Page). same_page a x ≡ true) e (same_page_refl a)

-- ---- two states are the same only if they are equal
abbrev state_by_code : ℕ → FrameState
state_by_code code =
    slice_index_or (state.Free ∷ state.Modified ∷ state.Bad ∷ state.ReleasePending ∷ state.ReadError ∷ state.Writing ∷ state.Reading ∷ []) code state.Active

state_by_code_lem : (s : FrameState) → state_by_code (state_code s) ≡ s
state_by_code_lem state.Free = refl
state_by_code_lem state.Modified = refl
state_by_code_lem state.Bad = refl
state_by_code_lem state.ReleasePending = refl
state_by_code_lem state.ReadError = refl
state_by_code_lem state.Writing = refl
state_by_code_lem state.Reading = refl
state_by_code_lem state.Active = refl

pub states_equal : (a b : FrameState) → same_state a b ≡ true → a ≡ b
states_equal a b e = sym (state_by_code_lem a) ∙ (ap state_by_code (eqb-true _ _ e) ∙ state_by_code_lem b)

-- ---- a function changed at one number: what holds there and at each other number
pub at_number_cases : {X : Type 0} (P : ℕ → X → Type 0) (f : ℕ → X) (n : ℕ) (x : X) → P n x → ((m : ℕ) → (n ≡ m → ⊥) → P m (f m)) → (m : ℕ) → P m (at_number f n x m)
at_number_cases {X} P f n x here there m = go (nat_eq n m) refl
  where
    go : (b : Bool) → nat_eq n m ≡ b → P m (cond b x (f m))
    go true e = subst (λ (k : ℕ). P k x) (eqb-true n m e) here
    go false e = there m (eqb-false n m e)

pub at_number_same : {X : Type 0} (f : ℕ → X) (n : ℕ) (x : X) → at_number f n x n ≡ x
at_number_same f n x = ap (λ (b : Bool). cond b x (f n)) (nat_eq_refl n)

pub at_number_other : {X : Type 0} (f : ℕ → X) (n : ℕ) (x : X) (m : ℕ) → (n ≡ m → ⊥) → at_number f n x m ≡ f m
at_number_other f n x m apart = ap (λ (b : Bool). cond b x (f m)) (ne_eqb n m apart)

-- ---- lists in which some, or no element passes
pub each_fails : {X : Type 0} (p : X → Bool) (xs : List X) → list_any p xs ≡ false → AllByRecursion (λ (x : X). p x ≡ false) xs
each_fails p [] e = tt
each_fails p (x ∷ xs) e = let parts = or_parts (p x) (list_any p xs) e in (parts.0, each_fails p xs parts.1)

pub none_passes : {X : Type 0} (p : X → Bool) (xs : List X) → AllByRecursion (λ (x : X). p x ≡ false) xs → list_any p xs ≡ false
none_passes p [] h = refl
none_passes p (x ∷ xs) h = subst (λ (b : Bool). (b || list_any p xs) ≡ false) (sym h.0) (none_passes p xs h.1)

pub each_weaker : {X : Type 0} (P Q : X → Type 0) → ((x : X) → P x → Q x) → (xs : List X) → AllByRecursion P xs → AllByRecursion Q xs
each_weaker P Q step [] h = tt
each_weaker P Q step (x ∷ xs) h = (step x h.0, each_weaker P Q step xs h.1)

pub each_of_two : {X : Type 0} (P Q R : X → Type 0) → ((x : X) → P x → Q x → R x) → (xs : List X) → AllByRecursion P xs → AllByRecursion Q xs → AllByRecursion R xs
each_of_two P Q R step [] h k = tt
each_of_two P Q R step (x ∷ xs) h k = (step x h.0 k.0, each_of_two P Q R step xs h.1 k.1)

pub has_page_first : (pages : List Page) (page : Page) → has_page (page ∷ pages) page ≡ true
has_page_first pages page = or_left (same_page page page) (has_page pages page) (same_page_refl page)

-- ---- counts
pub count_cons : {X : Type 0} (p : X → Bool) (x : X) (xs : List X) → count_by p (x ∷ xs) ≡ cond (p x) 1 0 + count_by p xs
count_cons {X} p x xs = sum_by-cons (λ (y : X). cond (p y) 1 0) x xs

pub count_cons_yes : {X : Type 0} (p : X → Bool) (x : X) (xs : List X) → p x ≡ true → count_by p (x ∷ xs) ≡ 1 + count_by p xs
count_cons_yes p x xs e = count_cons p x xs ∙ ap (λ (b : Bool). cond b 1 0 + count_by p xs) e

pub count_cons_no : {X : Type 0} (p : X → Bool) (x : X) (xs : List X) → p x ≡ false → count_by p (x ∷ xs) ≡ count_by p xs
count_cons_no p x xs e = let step = count_cons p x xs ∙ ap (λ (b : Bool). cond b 1 0 + count_by p xs) e in omega arith

pub count_none : {X : Type 0} (p : X → Bool) (xs : List X) → list_any p xs ≡ false → count_by p xs ≡ 0
count_none p [] e = refl
count_none p (x ∷ xs) e =
    let parts = or_parts (p x) (list_any p xs) e in
    count_cons_no p x xs parts.0 ∙ count_none p xs parts.1

pub count_replicate : {X : Type 0} (p : X → Bool) (n : ℕ) (x : X) → p x ≡ false → count_by p (replicate n x) ≡ 0
count_replicate {X} p n x e =
    let whole = sum_by-replicate (λ (y : X). cond (p y) 1 0) n x ∙ ap (λ (b : Bool). n * cond b 1 0) e in omega arith

-- after a write to a slot where the old element doesn't pass
pub count_set : {X : Type 0} (p : X → Bool) (xs : List X) (i : ℕ) (old new : X) → slice_get xs i ≡ Some old → p old ≡ false → count_by p (slice_set xs i new) ≡ cond (p new) 1 0 + count_by p xs
count_set {X} p xs i old new e fails =
    let whole = sum_by-set (λ (y : X). cond (p y) 1 0) xs i new old (slice_get_within xs i old e) in
    let there : slice_index_or xs i old ≡ old = get_or_from_slice_get xs i old old e in
    let nothing : cond {A = ℕ} (p (slice_index_or xs i old)) 1 0 ≡ 0 = ap (λ (y : X). cond {A = ℕ} (p y) 1 0) there ∙ ap (λ (b : Bool). cond {A = ℕ} b 1 0) fails in
    omega arith

-- ---- the first element that passes
pub find_cons_yes : {X : Type 0} (p : X → Bool) (x : X) (xs : List X) → p x ≡ true → find p (x ∷ xs) ≡ Some x
find_cons_yes p x xs e = ap (λ (b : Bool). cond b (Some x) (find p xs)) e

pub find_cons_no : {X : Type 0} (p : X → Bool) (x : X) (xs : List X) → p x ≡ false → find p (x ∷ xs) ≡ find p xs
find_cons_no p x xs e = ap (λ (b : Bool). cond b (Some x) (find p xs)) e

pub count_from_no_find : {X : Type 0} (p : X → Bool) (xs : List X) → find p xs ≡ None → count_by p xs ≡ 0
count_from_no_find p [] e = refl
count_from_no_find {X} p (x ∷ xs) e = go (p x) refl e (count_from_no_find p xs)
  where
    go : (b : Bool) → p x ≡ b → cond b (Some x) (find p xs) ≡ None → (find p xs ≡ None → count_by p xs ≡ 0) → count_by p (x ∷ xs) ≡ 0
    go true passes found rest = absurd (cc)
    go false fails found rest = count_cons_no p x xs fails ∙ rest found

pub find_none_from_count : {X : Type 0} (p : X → Bool) (xs : List X) → count_by p xs ≡ 0 → find p xs ≡ None
find_none_from_count p [] e = refl
find_none_from_count {X} p (x ∷ xs) e = go (p x) refl (find_none_from_count p xs)
  where
    go : (b : Bool) → p x ≡ b → (count_by p xs ≡ 0 → find p xs ≡ None) → cond b (Some x) (find p xs) ≡ None
    go true passes rest = let more = count_cons_yes p x xs passes in absurd (omega arith)
    go false fails rest = rest (sym (count_cons_no p x xs fails) ∙ e)

-- ---- flights and failed reads
pub no_failed_read : (past : List Entry) (f : ℕ) → awaits_reuse past ≡ false → has_failed_read f past ≡ false
no_failed_read [] f e = refl
no_failed_read (entry ∷ past) f e = of_what entry.what e
  where
    of_what : (w : What) → fails_read w ≡ false → fails_read_of f w ≡ false
    of_what (what.InFail g k c d) waits = absurd (true≢false waits)
    of_what other waits = refl

-- a frame without an open read or write has no open flight
pub no_flight : (f : ℕ) (flights : List Flight) → has_read f flights ≡ false → has_write f flights ≡ false → has_flight f flights ≡ false
no_flight f [] reads writes = refl
no_flight f (x ∷ flights) reads writes =
    let first = or_parts (nat_eq x.frame f && is_reading x.direction) (has_read f flights) reads in
    let second = or_parts (nat_eq x.frame f && not (is_reading x.direction)) (has_write f flights) writes in
    or_from (nat_eq x.frame f) (has_flight f flights) (neither (nat_eq x.frame f) (is_reading x.direction) first.0 second.0) (no_flight f flights first.1 second.1)
  where
    neither : (b c : Bool) → (b && c) ≡ false → (b && not c) ≡ false → b ≡ false
    neither true true h k = h
    neither true false h k = k
    neither false c h k = refl
