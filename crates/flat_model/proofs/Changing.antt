-- The flat machine after a service: what its tables and its entries stand for.
use Rattle.std.proofs.Common.{◌≡◌, ℕ, ◌+◌, ◌&&◌, not, Bool, true, false, cond, List, [], ◌∷◌, Option, Some, None, find, count_by, nat_eq, refl, sym, ap, ◌∙◌, arith, vec_len}
use Rattle.std.specs.Prelude.{filter, is_some}
use Rattle.std.specs.Option.{option_map}
use Rattle.std.proofs.lemmas.Bool.{true≢false}
use Rattle.std.proofs.lemmas.Map.Views.{any-filter_same}
use Rattle.vm_types.specs.PagePlaces.{item_at}
use Rattle.vm_types.specs.Same.{same_page}
use Rattle.vm_types.specs.declared.names.Page.{Page}
use Rattle.vm_types.specs.declared.names.Page.TheVariants.{Private, Shared}
use Rattle.vm_types.specs.declared.config.Config.{Config}
use Rattle.pager_model.specs.Flat.{FlatState, is_untouched, shared_bytes}
use Rattle.pager_model.specs.FlatService.{in_range, is_private_in, map_range}
use Rattle.pager_model.specs.Maps.{Map, Mapped, is_paged}
use Rattle.pager_model.specs.Sets.{has_page}
use Rattle.pager_rules.proofs.Basics.{pages_equal, count_cons}
use Rattle.flat_model.specs.Behind.{IsChangedIn, as_mapped, mapped_in}
use Rattle.flat_model.specs.FlatMachine.{AreTablesOf, IsFlat, bytes_or, is_kept, is_of, is_touch_of, stored_of}
use Rattle.flat_model.specs.declared.behind.Behind.{Behind}
use Rattle.flat_model.specs.declared.flat.Flat.{Flat}
use Rattle.flat_model.specs.declared.flat.Stored.{Stored}
use Rattle.flat_model.specs.declared.tables.Tables.{Tables}

-- ---- maps
pub maps_changed : (change : Option Mapped → Option Mapped) (code : Option Behind → Option Behind) → ((o : Option Behind) → option_map as_mapped (code o) ≡ change (option_map as_mapped o))
    → (p address pages : ℕ) (map : Map) (old new : List (Option Behind)) → ((q v : ℕ) → map q v ≡ mapped_in old q v) → IsChangedIn code p address pages (item_at old) (item_at new)
    → (q v : ℕ) → map_range change p address pages map q v ≡ mapped_in new q v
maps_changed change code along p address pages map old new same changed q v =
    go (nat_eq p q && in_range address pages v) ∙ ap (option_map as_mapped) (sym (changed q v))
  where
    go : (b : Bool) → cond b (change (map q v)) (map q v) ≡ option_map as_mapped (cond b (code (item_at old q v)) (item_at old q v))
    go true = ap change (same q v) ∙ sym (along (item_at old q v))
    go false = same q v

pub tables_kept : (config : Config) (old new : Tables) → AreTablesOf config old → new.pagefile ≡ old.pagefile → new.sections ≡ old.sections → vec_len new.pages ≡ vec_len old.pages → AreTablesOf config new
tables_kept config old new h size sections places =
    record { well_formed = h.well_formed; pagefile = size ∙ h.pagefile; sections = sections ∙ h.sections; places = places ∙ h.places }

-- ---- entries that are taken away
find_kept : {X : Type 0} (test keep : X → Bool) → ((x : X) → test x ≡ true → keep x ≡ true) → (xs : List X) → find test (filter keep xs) ≡ find test xs
find_kept test keep same [] = refl
find_kept {X} test keep same (x ∷ xs) = go (find_kept test keep same xs) (test x) (keep x) refl refl
  where
    go : find test (filter keep xs) ≡ find test xs → (t k : Bool) → test x ≡ t → keep x ≡ k → find test (cond k (x ∷ filter keep xs) (filter keep xs)) ≡ cond (test x) (Some x) (find test xs)
    go rest true true et ek = ap (λ (o : Option X). cond (test x) (Some x) o) rest
    go rest true false et ek = absurd (true≢false (sym (same x et) ∙ ek))
    go rest false true et ek = ap (λ (o : Option X). cond (test x) (Some x) o) rest
    go rest false false et ek = rest ∙ ap (λ (b : Bool). cond b (Some x) (find test xs)) (sym et)

find_dropped : {X : Type 0} (test keep : X → Bool) → ((x : X) → test x ≡ true → keep x ≡ false) → (xs : List X) → find test (filter keep xs) ≡ None
find_dropped test keep drops [] = refl
find_dropped test keep drops (x ∷ xs) = go (find_dropped test keep drops xs) (test x) (keep x) refl refl
  where
    go : find test (filter keep xs) ≡ None → (t k : Bool) → test x ≡ t → keep x ≡ k → find test (cond k (x ∷ filter keep xs) (filter keep xs)) ≡ None
    go rest true true et ek = absurd (true≢false (sym ek ∙ drops x et))
    go rest t false et ek = rest
    go rest false true et ek = ap (λ (b : Bool). cond b (Some x) (find test (filter keep xs))) et ∙ rest

count_same : {X : Type 0} (p q : X → Bool) → ((x : X) → p x ≡ q x) → (xs : List X) → count_by p xs ≡ count_by q xs
count_same p q same [] = refl
count_same p q same (x ∷ xs) =
    count_cons p x xs ∙ (ap (λ (b : Bool). cond b 1 0 + count_by p xs) (same x) ∙ (ap (λ (n : ℕ). cond (q x) 1 0 + n) (count_same p q same xs) ∙ sym (count_cons q x xs)))

count_filter : {X : Type 0} (p keep : X → Bool) (xs : List X) → count_by p (filter keep xs) ≡ count_by (λ x. keep x && p x) xs
count_filter p keep [] = refl
count_filter {X} p keep (x ∷ xs) = go (count_filter p keep xs) (keep x) ∙ sym (count_cons (λ y. keep y && p y) x xs)
  where
    go : count_by p (filter keep xs) ≡ count_by (λ y. keep y && p y) xs → (k : Bool) → count_by p (cond k (x ∷ filter keep xs) (filter keep xs)) ≡ cond {A = ℕ} (k && p x) 1 0 + count_by (λ y. keep y && p y) xs
    go rest true = count_cons p x (filter keep xs) ∙ ap (λ (n : ℕ). cond (p x) 1 0 + n) rest
    go rest false = omega (arith, rest)

swapped : (a b c : Bool) → (a && (b && c)) ≡ (b && (a && c))
swapped true true c = refl
swapped true false c = refl
swapped false true c = refl
swapped false false c = refl

module _ (config : Config) (state : FlatState) (old : Flat) (p address pages : ℕ) (h : IsFlat config state old) where
  abbrev stays : Page → Bool
  stays page = not (is_private_in p address pages page)

  abbrev kept : List Stored
  kept = filter (is_kept p address pages) old.stored.items

  of_page : (q : Page) (b : Bool) → is_private_in p address pages q ≡ b → (e : Stored) → is_of q e ≡ true → is_kept p address pages e ≡ not b
  of_page q b is e same = ap stays (pages_equal e.page q same) ∙ ap not is

  forgets : (q : Page) → is_private_in p address pages q ≡ true → stored_of kept q ≡ None
  forgets q is = find_dropped (is_of q) (is_kept p address pages) (of_page q true is) old.stored.items

  keeps : (q : Page) → is_private_in p address pages q ≡ false → stored_of kept q ≡ stored_of old.stored.items q
  keeps q is = find_kept (is_of q) (is_kept p address pages) (of_page q false is) old.stored.items

  touched_after : (q : Page) → has_page (filter stays state.touched) q ≡ (stays q && has_page state.touched q)
  touched_after q = any-filter_same (same_page q) stays (stays q) (λ page same. ap stays (sym (pages_equal q page same))) state.touched

  and_no : (b : Bool) → false ≡ (b && false)
  and_no true = refl
  and_no false = refl

  touched_is : (q : Page) → has_page (filter stays state.touched) q ≡ (is_paged config q && is_some (stored_of kept q))
  touched_is q = touched_after q ∙ go (is_private_in p address pages q) refl
    where
      go : (b : Bool) → is_private_in p address pages q ≡ b → (not b && has_page state.touched q) ≡ (is_paged config q && is_some (stored_of kept q))
      go true is = and_no (is_paged config q) ∙ ap (λ (o : Option Stored). is_paged config q && is_some o) (sym (forgets q is))
      go false is = h.touched q ∙ ap (λ (o : Option Stored). is_paged config q && is_some o) (sym (keeps q is))

  counts_are : (test : Page → Bool) → count_by test (filter stays state.touched) ≡ count_by (is_touch_of config test) kept
  counts_are test =
      count_filter test stays state.touched
      ∙ (h.counts (λ page. stays page && test page)
      ∙ (count_same (is_touch_of config (λ page. stays page && test page)) (λ e. is_kept p address pages e && is_touch_of config test e) (λ e. swapped (is_paged config e.page) (stays e.page) (test e.page)) old.stored.items
      ∙ sym (count_filter (is_touch_of config test) (is_kept p address pages) old.stored.items)))

  own_page : (q : Page) → is_private_in p address pages q ≡ true → is_paged config q ≡ true
  own_page (Private r v) is = refl
  own_page (Shared s i) is = absurd (true≢false (sym is))

  abbrev forgotten : Map → FlatState
  forgotten map = record { map = map; touched = filter stays state.touched; stored = state.stored }

  stored_is : (map : Map) (q : Page) → is_untouched config (forgotten map) q ≡ false → state.stored q ≡ bytes_or (shared_bytes config q) (stored_of kept q)
  stored_is map q u = go (is_private_in p address pages q) refl
    where
      now : (b : Bool) → is_private_in p address pages q ≡ b → (is_paged config q && not (not b && has_page state.touched q)) ≡ false
      now b is = ap (λ (c : Bool). is_paged config q && not (not c && has_page state.touched q)) (sym is) ∙ (ap (λ (c : Bool). is_paged config q && not c) (sym (touched_after q)) ∙ u)

      go : (b : Bool) → is_private_in p address pages q ≡ b → state.stored q ≡ bytes_or (shared_bytes config q) (stored_of kept q)
      go true is = absurd (true≢false (sym (ap (λ (c : Bool). c && true) (own_page q is)) ∙ now true is))
      go false is = h.stored q (now false is) ∙ ap (bytes_or (shared_bytes config q)) (sym (keeps q is))

  pub flat_forgotten : (new : Flat) (map : Map) → AreTablesOf config new.tables → ((q v : ℕ) → map q v ≡ mapped_in new.tables.pages.items q v) → new.stored.items ≡ kept → IsFlat config (forgotten map) new
  flat_forgotten new map tables same items =
      record {
        tables = tables;
        map = same;
        touched = λ page. touched_is page ∙ ap (λ (es : List Stored). is_paged config page && is_some (stored_of es page)) (sym items);
        counts = λ test. counts_are test ∙ ap (count_by (is_touch_of config test)) (sym items);
        stored = λ page u. stored_is map page u ∙ ap (λ (es : List Stored). bytes_or (shared_bytes config page) (stored_of es page)) (sym items);
      }
