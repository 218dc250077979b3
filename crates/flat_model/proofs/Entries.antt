-- The entries of the flat machine, and its state, with one more or one written.
use Rattle.std.proofs.Common.{◌≡◌, ℕ, ◌+◌, ◌<◌, ◌&&◌, ◌||◌, not, Bool, true, false, cond, List, [], ◌∷◌, ◌++◌, Option, Some, None, length, count_by, refl, sym, ap, ◌∙◌, subst, arith}
use Rattle.std.specs.Prelude.{slice_get, slice_set, slice_index_or, is_some}
use Rattle.std.specs.Option.{option_or}
use Rattle.std.specs.List.{position_or_len}
use Rattle.std.proofs.lemmas.Bool.{true≢false}
use Rattle.std.proofs.lemmas.List.Folds.{find_at, find-append, find-set, find_past}
use Rattle.std.proofs.lemmas.List.Sums.{sum_by_push, sum_by-set}
use Rattle.std.proofs.lemmas.Option.{slice_get-get_or}
use Rattle.vm_types.specs.Same.{same_page}
use Rattle.vm_types.specs.declared.names.Page.{Page}
use Rattle.vm_types.specs.declared.config.Config.{Config}
use Rattle.vm_types.specs.declared.config.Section.{Section}
use Rattle.vm_types.specs.declared.names.Page.TheVariants.{Private, Shared}
use Rattle.pager_model.specs.Flat.{FlatState, flat_with, touched_with, is_untouched, shared_bytes}
use Rattle.flat_model.specs.FlatMachine.{IsFlat, AreTablesOf, stored_of, is_of, is_touch, is_touch_of, bytes_or, is_paged_in}
use Rattle.pager_model.specs.Maps.{is_paged}
use Rattle.pager_model.specs.Sets.{has_page, with_page}
use Rattle.flat_model.specs.Behind.{mapped_in}
use Rattle.flat_model.specs.declared.tables.Tables.{Tables}
use Rattle.flat_model.specs.declared.flat.Flat.{Flat}
use Rattle.flat_model.specs.declared.flat.Stored.{Stored}
use Rattle.pager_rules.proofs.Basics.{same_page_refl, pages_equal, same_from_equal, has_page_first, count_cons}
use Rattle.flat_model.proofs.Found.{found_passes}

-- ---- the entry of each page
abbrev pub IsWith : List Stored → Stored → List Stored → Type 0
IsWith before e after = (q : Page) → stored_of after q ≡ cond (same_page e.page q) (Some e) (stored_of before q)

or_none : {X : Type 0} (o : Option X) → option_or o None ≡ o
or_none None = refl
or_none (Some x) = refl

pub with_pushed : (es : List Stored) (e : Stored) → stored_of es e.page ≡ None → IsWith es e (es ++ e ∷ [])
with_pushed es e absent q = find-append (is_of q) es (e ∷ []) ∙ go (same_page e.page q) refl
  where
    go : (b : Bool) → same_page e.page q ≡ b → option_or (stored_of es q) (cond b (Some e) None) ≡ cond b (Some e) (stored_of es q)
    go true same = ap (λ (o : Option Stored). option_or o (Some e)) (subst (λ (x : Page). stored_of es x ≡ None) (pages_equal e.page q same) absent)
    go false apart = or_none (stored_of es q)

-- the entry at a page's place
pub entry_at : (es : List Stored) (i : ℕ) (page : Page) (d : Stored) → i < length es → i ≡ position_or_len (is_of page) es → stored_of es page ≡ Some (slice_index_or es i d)
entry_at es i page d within place = find_at (is_of page) es ∙ (ap (slice_get es) (sym place) ∙ slice_get-get_or es i d within)

pub page_at_place : (es : List Stored) (i : ℕ) (page : Page) (d : Stored) → i < length es → i ≡ position_or_len (is_of page) es → (slice_index_or es i d).page ≡ page
page_at_place es i page d within place = pages_equal _ page (found_passes (is_of page) es _ (entry_at es i page d within place))

pub with_written : (es : List Stored) (i : ℕ) (e : Stored) → i < length es → i ≡ position_or_len (is_of e.page) es → IsWith es e (slice_set es i e)
with_written es i e within place q = go (same_page e.page q) refl
  where
    go : (b : Bool) → same_page e.page q ≡ b → stored_of (slice_set es i e) q ≡ cond b (Some e) (stored_of es q)
    go true same = subst (λ (x : Page). stored_of (slice_set es i e) x ≡ Some e) (pages_equal e.page q same) (find-set (is_of e.page) es i e place within (same_page_refl e.page))
    go false apart = find_past (is_of q) es i e e (ap (λ (x : Page). same_page x q) (page_at_place es i e.page e within place) ∙ apart) apart

-- ---- the touched pages
touched_same : (config : Config) (touched : List Page) (page : Page) → is_paged config page ≡ true → has_page (touched_with config touched page) page ≡ true
touched_same config touched page private = ap (λ (b : Bool). has_page (cond b (with_page touched page) touched) page) private ∙ go (has_page touched page) refl
  where
    go : (b : Bool) → has_page touched page ≡ b → has_page (cond b touched (page ∷ touched)) page ≡ true
    go true has = has
    go false missing = has_page_first touched page

apart_back : (page q : Page) → same_page page q ≡ false → same_page q page ≡ false
apart_back page q apart = go (same_page q page) refl
  where
    go : (b : Bool) → same_page q page ≡ b → b ≡ false
    go true same = absurd (true≢false (sym (same_from_equal page q (sym (pages_equal q page same))) ∙ apart))
    go false e = refl

touched_other : (config : Config) (touched : List Page) (page q : Page) → same_page page q ≡ false → has_page (touched_with config touched page) q ≡ has_page touched q
touched_other config touched page q apart = go (is_paged config page) (has_page touched page)
  where
    go : (b c : Bool) → has_page (cond b (cond c touched (page ∷ touched)) touched) q ≡ has_page touched q
    go false c = refl
    go true true = refl
    go true false = ap (λ (b : Bool). b || has_page touched q) (apart_back page q apart)

-- ---- the state
pub and_no : (b : Bool) → (b && false) ≡ false
and_no true = refl
and_no false = refl

-- a page that has an entry is touched if it is charged
pub untouched_some : (config : Config) (state : FlatState) (flat : Flat) (page : Page) (e : Stored) → IsFlat config state flat → stored_of flat.stored.items page ≡ Some e → is_untouched config state page ≡ false
untouched_some config state flat page e h entry = ap (λ (b : Bool). is_paged config page && not b) (h.touched page ∙ ap (λ (o : Option Stored). is_paged config page && is_some o) entry) ∙ go (is_paged config page)
  where
    go : (b : Bool) → (b && not (b && true)) ≡ false
    go true = refl
    go false = refl

none_touched : (config : Config) (state : FlatState) (flat : Flat) (page : Page) → IsFlat config state flat → stored_of flat.stored.items page ≡ None → has_page state.touched page ≡ false
none_touched config state flat page h entry = h.touched page ∙ (ap (λ (o : Option Stored). is_paged config page && is_some o) entry ∙ and_no (is_paged config page))

pub untouched_none : (config : Config) (state : FlatState) (flat : Flat) (page : Page) → IsFlat config state flat → stored_of flat.stored.items page ≡ None → is_untouched config state page ≡ is_paged config page
untouched_none config state flat page h entry = ap (λ (b : Bool). is_paged config page && not b) (none_touched config state flat page h entry) ∙ go (is_paged config page)
  where
    go : (b : Bool) → (b && true) ≡ b
    go true = refl
    go false = refl

pub flat_kept : (config : Config) (state : FlatState) (old new : Flat) (e : Stored) → IsFlat config state old → new.tables ≡ old.tables → IsWith old.stored.items e new.stored.items → ((test : Page → Bool) → count_by test (touched_with config state.touched e.page) ≡ count_by (is_touch_of config test) new.stored.items) → IsFlat config (flat_with config state e.page e.bytes) new
flat_kept config state old new e h same entries counted =
    record {
      tables = subst (AreTablesOf config) (sym same) h.tables;
      map = λ p v. h.map p v ∙ ap (λ (t : Tables). mapped_in t.pages.items p v) (sym same);
      touched = λ q. has q (same_page e.page q) refl ∙ ap (λ (o : Option Stored). is_paged config q && is_some o) (sym (entries q));
      counts = counted;
      stored = λ q u. bytes q (same_page e.page q) refl u ∙ ap (bytes_or (shared_bytes config q)) (sym (entries q));
    }
  where
    has : (q : Page) (b : Bool) → same_page e.page q ≡ b → has_page (touched_with config state.touched e.page) q ≡ (is_paged config q && is_some (cond b (Some e) (stored_of old.stored.items q)))
    has q false apart = touched_other config state.touched e.page q apart ∙ h.touched q
    has q true same_pages = subst (λ (x : Page). has_page (touched_with config state.touched e.page) x ≡ (is_paged config x && true)) (pages_equal e.page q same_pages) (of_page (is_paged config e.page) refl)
      where
        of_page : (b : Bool) → is_paged config e.page ≡ b → has_page (touched_with config state.touched e.page) e.page ≡ (is_paged config e.page && true)
        of_page true private = touched_same config state.touched e.page private ∙ ap (λ (b : Bool). b && true) (sym private)
        of_page false shared = ap (λ (b : Bool). has_page (cond b (with_page state.touched e.page) state.touched) e.page) shared ∙ (h.touched e.page ∙ (ap (λ (b : Bool). b && is_some (stored_of old.stored.items e.page)) shared ∙ ap (λ (b : Bool). b && true) (sym shared)))

    bytes : (q : Page) (b : Bool) → same_page e.page q ≡ b → is_untouched config (flat_with config state e.page e.bytes) q ≡ false → cond b e.bytes (state.stored q) ≡ bytes_or (shared_bytes config q) (cond b (Some e) (stored_of old.stored.items q))
    bytes q true on u = refl
    bytes q false apart u = h.stored q (ap (λ (b : Bool). is_paged config q && not b) (sym (touched_other config state.touched e.page q apart)) ∙ u)

-- one more entry
pub flat_pushed : (config : Config) (state : FlatState) (old new : Flat) (e : Stored) → IsFlat config state old → new.tables ≡ old.tables → stored_of old.stored.items e.page ≡ None → new.stored.items ≡ old.stored.items ++ e ∷ [] → IsFlat config (flat_with config state e.page e.bytes) new
flat_pushed config state old new e h same absent items =
    flat_kept config state old new e h same
    (subst (IsWith old.stored.items e) (sym items) (with_pushed old.stored.items e absent))
    (λ test. counts test ∙ ap (count_by (is_touch_of config test)) (sym items))
  where
    go : (test : Page → Bool) (b : Bool) → count_by test (cond b (e.page ∷ state.touched) state.touched) ≡ count_by test state.touched + cond (b && test e.page) 1 0
    go test true = omega (arith, count_cons test e.page state.touched)
    go test false = omega arith

    more : (test : Page → Bool) → count_by test (touched_with config state.touched e.page) ≡ count_by test state.touched + cond (is_touch_of config test e) 1 0
    more test =
        ap (λ (b : Bool). count_by test (cond (is_paged config e.page) (cond b state.touched (e.page ∷ state.touched)) state.touched)) (none_touched config state old e.page h absent) ∙ go test (is_paged config e.page)

    counts : (test : Page → Bool) → count_by test (touched_with config state.touched e.page) ≡ count_by (is_touch_of config test) (old.stored.items ++ e ∷ [])
    counts test = more test ∙ (ap (λ (n : ℕ). n + cond (is_touch_of config test e) 1 0) (h.counts test) ∙ sym (sum_by_push (λ (x : Stored). cond (is_touch_of config test x) 1 0) old.stored.items e))

-- one entry written
pub flat_written : (config : Config) (state : FlatState) (old new : Flat) (i : ℕ) (e : Stored) → IsFlat config state old → new.tables ≡ old.tables → i < length old.stored.items → i ≡ position_or_len (is_of e.page) old.stored.items → new.stored.items ≡ slice_set old.stored.items i e → IsFlat config (flat_with config state e.page e.bytes) new
flat_written config state old new i e h same within place items =
    flat_kept config state old new e h same
    (subst (IsWith old.stored.items e) (sym items) (with_written old.stored.items i e within place))
    (λ test. ap (count_by test) (unchanged (is_paged config e.page) refl) ∙ (h.counts test ∙ (counts test ∙ ap (count_by (is_touch_of config test)) (sym items))))
  where
    entry : stored_of old.stored.items e.page ≡ Some (slice_index_or old.stored.items i e)
    entry = entry_at old.stored.items i e.page e within place

    has_it : has_page state.touched e.page ≡ (is_paged config e.page && true)
    has_it = h.touched e.page ∙ ap (λ (o : Option Stored). is_paged config e.page && is_some o) entry

    unchanged : (b : Bool) → is_paged config e.page ≡ b → touched_with config state.touched e.page ≡ state.touched
    unchanged false shared = ap (λ (b : Bool). cond b (with_page state.touched e.page) state.touched) shared
    unchanged true private = ap (λ (b : Bool). cond b (with_page state.touched e.page) state.touched) private ∙ ap (λ (b : Bool). cond b state.touched (e.page ∷ state.touched)) (has_it ∙ ap (λ (b : Bool). b && true) private)

    counts : (test : Page → Bool) → count_by (is_touch_of config test) old.stored.items ≡ count_by (is_touch_of config test) (slice_set old.stored.items i e)
    counts test =
        let whole = sum_by-set (λ (x : Stored). cond (is_touch_of config test x) 1 0) old.stored.items i e e within in
        let there : cond {A = ℕ} (is_touch_of config test (slice_index_or old.stored.items i e)) 1 0 ≡ cond (is_touch_of config test e) 1 0 = ap (λ (x : Page). cond {A = ℕ} (is_paged config x && test x) 1 0) (page_at_place old.stored.items i e.page e within place) in
        omega arith

-- how many pages are touched
all_count : {X : Type 0} (xs : List X) → length xs ≡ count_by (λ x. true) xs
all_count [] = refl
all_count {X} (x ∷ xs) = let test : X → Bool = λ y. true in omega (arith, all_count xs, count_cons test x xs)

pub paged_same : (config : Config) (page : Page) → is_paged config page ≡ is_paged_in config.sections page
paged_same config (Private p v) = refl
paged_same config (Shared s i) = refl

own_count : (config : Config) (es : List Stored) → count_by (is_touch_of config (λ page. true)) es ≡ count_by (is_touch config.sections) es
own_count config [] = refl
own_count config (e ∷ es) = count_cons (is_touch_of config (λ page. true)) e es ∙ (ap (λ (n : ℕ). n + count_by (is_touch_of config (λ page. true)) es) (go (is_paged config e.page) ∙ ap (λ (b : Bool). cond {A = ℕ} b 1 0) (paged_same config e.page)) ∙ (ap (λ (n : ℕ). cond (is_touch config.sections e) 1 0 + n) (own_count config es) ∙ sym (count_cons (is_touch config.sections) e es)))
  where
    go : (b : Bool) → cond {A = ℕ} (b && true) 1 0 ≡ cond b 1 0
    go true = refl
    go false = refl

pub touched_count : (config : Config) (state : FlatState) (flat : Flat) → IsFlat config state flat → length state.touched ≡ count_by (is_touch flat.tables.sections) flat.stored.items
touched_count config state flat h = all_count state.touched ∙ (h.counts (λ page. true) ∙ (own_count config flat.stored.items ∙ ap (λ (sections : List Section). count_by (is_touch sections) flat.stored.items) (sym h.tables.sections)))
