-- First uses of names that are known, of which none is missing, are the names with values in some order.
use Rattle.std.proofs.Common.{◌≡◌, ◌∙◌, ◌&&◌, ◌||◌, Bool, cond, true, false, not, suc, refl, sym, ap, ap₂, subst, arith, List, [], ◌∷◌, ◌++◌, map, length, Option, Some, true≢false}
use Rattle.std.specs.Prelude.{IsPermutation, zip}
use Rattle.std.specs.List.{AllByRecursion, IsDistinct, list_any}
use Rattle.std.specs.Str.{bytes_eq}
use Rattle.std.proofs.lemmas.List.Folds.{list_any-append}
use Rattle.std.proofs.lemmas.List.Sorted.{IsPermutation-append_comm, IsPermutation-append_left, IsPermutation-append_right, IsPermutation-refl, IsPermutation-trans, list_any-IsPermutation}
use Rattle.std.proofs.lemmas.Map.Keys.{IsDistinct-IsPermutation, IsDistinct-head, IsDistinct-tail}
use Rattle.clap.specs.Walk.{Row, Text, first_of, has_row, with_default}
use Rattle.clap.specs.Faults.{defaults_fault}
use Rattle.clap.specs.Takes.{is_given}
use Rattle.clap.specs.declared.error.kind.ErrorKind.TheVariants.{MissingRequiredArgument}
use Rattle.clap.proofs.WalkLemmas.{list_any-map}
use Rattle.command_options.proofs.Rules.{known, own_text, read_rule, same_text}
use Rattle.command_options.proofs.Turns.{some_kind}
use Rattle.command_options.proofs.Walks.{Fits, Use, faults_by_rows, no_defaults, same_default, use_row}

-- ---- tests

either : (a b : Bool) → a || b ≡ false → (a ≡ false) × (b ≡ false)
either true b e = absurd (true≢false e)
either false b e = (refl, e)

second : (a b : Bool) → a ≡ false → a || b ≡ true → b ≡ true
second a b none e = rw none at e

untrue : (a : Bool) → not a ≡ false → a ≡ true
untrue true e = refl
untrue false e = absurd (true≢false e)

later : (a b : Bool) → b ≡ true → a || b ≡ true
later true b e = refl
later false b e = e

pub other_way : (a b : Text) → bytes_eq a b ≡ false → bytes_eq b a ≡ false
other_way a b e = go (bytes_eq b a) refl
  where
    go : (m : Bool) → bytes_eq b a ≡ m → m ≡ false
    go false m = refl
    go true m = absurd (true≢false (sym (own_text a) ∙ subst (λ x. bytes_eq a x ≡ false) (same_text b a m) e))

either_way : (a b : Text) → bytes_eq a b ≡ bytes_eq b a
either_way a b = go (bytes_eq a b) refl
  where
    go : (m : Bool) → bytes_eq a b ≡ m → m ≡ bytes_eq b a
    go false m = sym (other_way a b m)
    go true m = sym (own_text a) ∙ ap (λ x. bytes_eq x a) (same_text a b m)

module _ {X : Type 0} where
  each_then : (P Q : X → Type 0) → ((x : X) → P x → Q x) → (xs : List X) → AllByRecursion P xs → AllByRecursion Q xs
  each_then P Q f [] h = tt
  each_then P Q f (x ∷ xs) h = (f x h.0, each_then P Q f xs h.1)

  each_both : (P Q R : X → Type 0) → ((x : X) → P x → Q x → R x) → (xs : List X) → AllByRecursion P xs → AllByRecursion Q xs → AllByRecursion R xs
  each_both P Q R f [] h g = tt
  each_both P Q R f (x ∷ xs) h g = (f x h.0 g.0, each_both P Q R f xs h.1 g.1)

  no_other : (p : X → Bool) (xs : List X) → AllByRecursion (λ x. p x ≡ true) xs → list_any (λ x. not (p x)) xs ≡ false
  no_other p [] h = refl
  no_other p (x ∷ xs) h = rw h.0 (no_other p xs h.1)

  each_passes : (p : X → Bool) (xs : List X) → list_any (λ x. not (p x)) xs ≡ false → AllByRecursion (λ x. p x ≡ true) xs
  each_passes p [] e = tt
  each_passes p (x ∷ xs) e =
      let both = either (not (p x)) (list_any (λ y. not (p y)) xs) e in
      (untrue (p x) both.0, each_passes p xs both.1)

-- ---- uses by their names

abbrev pub has : Text → List Use → Bool
has n us = list_any (λ u. bytes_eq u.0 n) us

abbrev pub has_pair : Text → Text → List Use → Bool
has_pair n v us = list_any (λ u. bytes_eq u.0 n && bytes_eq u.1 v) us

abbrev pub value_in : List Use → Text → Option Text
value_in us n = first_of n (map use_row us)

abbrev pub AreKnown : List Text → List Use → Type 0
AreKnown names us = AllByRecursion (λ u. known names u.0 ≡ true) us

abbrev pub same_name : Use → Use → Bool
same_name u w = bytes_eq u.0 w.0

has_in_rows : (us : List Use) (n : Text) → has_row n (map use_row us) ≡ has n us
has_in_rows us n = sym (list_any-map (λ (r : Row). bytes_eq r.id n) use_row us)

given_has : (us : List Use) (n : Text) → is_given n (map use_row us) ≡ has n us
given_has [] n = refl
given_has (u ∷ us) n = go (bytes_eq u.0 n) refl (given_has us n)
  where
    go : (b : Bool) → bytes_eq u.0 n ≡ b → is_given n (map use_row us) ≡ has n us → is_given n (map use_row (u ∷ us)) ≡ has n (u ∷ us)
    go true b rest = rw b refl
    go false b rest = rw b rest

-- ---- what is missing at the end

no_default_faults : (names : List Text) (rows : List Row) → defaults_fault rows (map read_rule names) ≡ []
unfolding defaults_fault
no_default_faults [] rows = refl
no_default_faults (n ∷ names) rows = go (has_row n rows) refl (ap (λ r. defaults_fault r (map read_rule names)) (same_default n rows) ∙ no_default_faults names rows)
  where
    go : (b : Bool) → has_row n rows ≡ b → defaults_fault (with_default rows (read_rule n)) (map read_rule names) ≡ [] → defaults_fault rows (map read_rule (n ∷ names)) ≡ []
    go true b rest = rw b (rw b at rest)
    go false b rest = rw b (rw b at rest)

end_is : (names : List Text) (name : Text) (us : List Use)
    → faults_by_rows names name (map use_row us) ≡ cond (list_any (λ n. not (has n us)) names) (MissingRequiredArgument ∷ []) []
end_is names name us =
    let rows = map use_row us in
    let wants = sym (list_any-map (λ a. a.required && not (is_given a.id rows)) read_rule names) ∙ (λ i. list_any (λ n. not (given_has us n i)) names) in
    rw (no_default_faults names rows, no_defaults names rows) (ap (λ b. cond b (MissingRequiredArgument ∷ []) []) wants)

pub none_missing : (names : List Text) (name : Text) (us : List Use) → faults_by_rows names name (map use_row us) ≡ [] → list_any (λ n. not (has n us)) names ≡ false
none_missing names name us e = go (list_any (λ n. not (has n us)) names) (sym (end_is names name us) ∙ e)
  where
    go : (b : Bool) → cond b (MissingRequiredArgument ∷ []) [] ≡ [] → b ≡ false
    go false h = refl
    go true h = absurd (some_kind h)

pub ends_well : (names : List Text) (name : Text) (us : List Use) → list_any (λ n. not (has n us)) names ≡ false → faults_by_rows names name (map use_row us) ≡ []
ends_well names name us e = end_is names name us ∙ ap (λ b. cond b (MissingRequiredArgument ∷ []) []) e

-- ---- first uses

fits_known : (names : List Text) (vs us : List Use) → Fits names us vs → AreKnown names vs
fits_known names [] us f = tt
fits_known names (v ∷ vs) us f = (f.0.0, fits_known names vs (us ++ v ∷ []) f.1)

has_more : (us : List Use) (u : Use) (n : Text) → has n (us ++ u ∷ []) ≡ (has n us || (bytes_eq u.0 n || false))
has_more us u n = list_any-append (λ w. bytes_eq w.0 n) us (u ∷ [])

fits_apart : (names : List Text) (vs us : List Use) → Fits names us vs → AllByRecursion (λ w. has w.0 us ≡ false) vs
fits_apart names [] us f = tt
fits_apart names (v ∷ vs) us f = (
  sym (has_in_rows us v.0) ∙ f.0.1,
  each_then (λ w. has w.0 (us ++ v ∷ []) ≡ false) (λ w. has w.0 us ≡ false) (λ w h. (either _ _ (sym (has_more us v w.0) ∙ h)).0) vs (fits_apart names vs (us ++ v ∷ []) f.1),
)

fits_distinct : (names : List Text) (vs us : List Use) → Fits names us vs → IsDistinct same_name vs
unfolding IsDistinct
fits_distinct names [] us f = tt
fits_distinct names (v ∷ vs) us f = (
  each_then (λ w. has w.0 (us ++ v ∷ []) ≡ false) (λ w. bytes_eq v.0 w.0 ≡ false) (λ w h. (either _ _ (either (has w.0 us) _ (sym (has_more us v w.0) ∙ h)).1).0) vs
      (fits_apart names vs (us ++ v ∷ []) f.1),
  fits_distinct names vs (us ++ v ∷ []) f.1,
)

fits_from : (names : List Text) (vs us : List Use) → AreKnown names vs → IsDistinct same_name vs → AllByRecursion (λ w. has w.0 us ≡ false) vs → Fits names us vs
unfolding IsDistinct
fits_from names [] us all apart new = tt
fits_from names (v ∷ vs) us all apart new = (
  (all.0, has_in_rows us v.0 ∙ new.0),
  fits_from names vs (us ++ v ∷ []) all.1 apart.1
      (each_both (λ w. bytes_eq v.0 w.0 ≡ false) (λ w. has w.0 us ≡ false) (λ w. has w.0 (us ++ v ∷ []) ≡ false) (λ w a h. has_more us v w.0 ∙ rw (h, a) refl) vs apart.0 new.1),
)

-- ---- uses without the first of a name

abbrev without_use : Text → List Use → List Use
without_use n [] = []
without_use n (u ∷ us) = cond (bytes_eq u.0 n) us (u ∷ without_use n us)

record Taken (n : Text) (us : List Use) : Type 0 where
  v : Text
  first : value_in us n ≡ Some v
  order : IsPermutation ((n, v) ∷ without_use n us) us

swapped : (a b : Use) (us : List Use) → IsPermutation (a ∷ b ∷ us) (b ∷ a ∷ us)
swapped a b us = IsPermutation-append_left us (a ∷ b ∷ []) (b ∷ a ∷ []) (IsPermutation-append_comm (a ∷ []) (b ∷ []))

taken : (n : Text) (us : List Use) → has n us ≡ true → Taken n us
taken n [] e = absurd (true≢false (sym e))
taken n (u ∷ us) e = go (bytes_eq u.0 n) refl (taken n us)
  where
    go : (b : Bool) → bytes_eq u.0 n ≡ b → (has n us ≡ true → Taken n us) → Taken n (u ∷ us)
    go true b rest =
        let one : (n, u.1) ∷ us ≡ u ∷ us = ap (λ x. (x, u.1) ∷ us) (sym (same_text u.0 n b)) in
        record {
          v = u.1;
          first = rw b refl;
          order = rw b (subst (λ l. IsPermutation ((n, u.1) ∷ us) l) one (IsPermutation-refl ((n, u.1) ∷ us)));
        }
    go false b rest =
        let t = rest (rw b at e) in
        record {
          v = t.v;
          first = rw b t.first;
          order = rw b (IsPermutation-trans _ _ _ (swapped (n, t.v) u (without_use n us)) (IsPermutation-append_right (u ∷ []) _ _ t.order));
        }

each_without : (P : Use → Type 0) (n : Text) (us : List Use) → AllByRecursion P us → AllByRecursion P (without_use n us)
each_without P n [] h = tt
each_without P n (u ∷ us) h = go (bytes_eq u.0 n) (each_without P n us h.1)
  where
    go : (b : Bool) → AllByRecursion P (without_use n us) → AllByRecursion P (cond b us (u ∷ without_use n us))
    go true rest = h.1
    go false rest = (h.0, rest)

distinct_without : (n : Text) (us : List Use) → IsDistinct same_name us → IsDistinct same_name (without_use n us)
unfolding IsDistinct
distinct_without n [] h = tt
distinct_without n (u ∷ us) h = go (bytes_eq u.0 n) (distinct_without n us h.1)
  where
    go : (b : Bool) → IsDistinct same_name (without_use n us) → IsDistinct same_name (cond b us (u ∷ without_use n us))
    go true rest = h.1
    go false rest = (each_without (λ w. bytes_eq u.0 w.0 ≡ false) n us h.0, rest)

known_without : (n : Text) (ns : List Text) (us : List Use) → IsDistinct same_name us → AreKnown (n ∷ ns) us → AreKnown ns (without_use n us)
unfolding IsDistinct
known_without n ns [] apart all = tt
known_without n ns (u ∷ us) apart all = go (bytes_eq u.0 n) refl (known_without n ns us apart.1 all.1)
  where
    go : (b : Bool) → bytes_eq u.0 n ≡ b → AreKnown ns (without_use n us) → AreKnown ns (cond b us (u ∷ without_use n us))
    go true b rest = each_both (λ w. bytes_eq u.0 w.0 ≡ false) (λ w. known (n ∷ ns) w.0 ≡ true) (λ w. known ns w.0 ≡ true)
        (λ w a k. second (bytes_eq n w.0) (known ns w.0) (subst (λ x. bytes_eq x w.0 ≡ false) (same_text u.0 n b) a) k) us apart.0 all.1
    go false b rest = (second (bytes_eq n u.0) (known ns u.0) (other_way u.0 n b) all.0, rest)

has_without : (n m : Text) (us : List Use) → bytes_eq n m ≡ false → has m (without_use n us) ≡ has m us
has_without n m [] e = refl
has_without n m (u ∷ us) e = go (bytes_eq u.0 n) refl (has_without n m us e)
  where
    go : (b : Bool) → bytes_eq u.0 n ≡ b → has m (without_use n us) ≡ has m us → has m (cond b us (u ∷ without_use n us)) ≡ has m (u ∷ us)
    go true b rest =
        let other : bytes_eq u.0 m ≡ false = subst (λ x. bytes_eq x m ≡ false) (sym (same_text u.0 n b)) e in
        rw other refl
    go false b rest = ap (λ x. bytes_eq u.0 m || x) rest

value_without : (n m : Text) (us : List Use) → bytes_eq n m ≡ false → value_in (without_use n us) m ≡ value_in us m
value_without n m [] e = refl
value_without n m (u ∷ us) e = go (bytes_eq u.0 n) refl (value_without n m us e)
  where
    go : (b : Bool) → bytes_eq u.0 n ≡ b → value_in (without_use n us) m ≡ value_in us m → value_in (cond b us (u ∷ without_use n us)) m ≡ value_in (u ∷ us) m
    go true b rest =
        let other : bytes_eq u.0 m ≡ false = subst (λ x. bytes_eq x m ≡ false) (sym (same_text u.0 n b)) e in
        rw other refl
    go false b rest = here (bytes_eq u.0 m) refl
      where
        here : (h : Bool) → bytes_eq u.0 m ≡ h → value_in (u ∷ without_use n us) m ≡ value_in (u ∷ us) m
        here true h = rw h refl
        here false h = rw h rest

lacks_without : (n : Text) (us : List Use) (ns : List Text) → AllByRecursion (λ m. bytes_eq n m ≡ false) ns
    → list_any (λ m. not (has m (without_use n us))) ns ≡ list_any (λ m. not (has m us)) ns
lacks_without n us [] h = refl
lacks_without n us (m ∷ ns) h = ap₂ (λ a b. not a || b) (has_without n m us h.0) (lacks_without n us ns h.1)

values_without : (n : Text) (us : List Use) (ns : List Text) → AllByRecursion (λ m. bytes_eq n m ≡ false) ns
    → map (value_in (without_use n us)) ns ≡ map (value_in us) ns
values_without n us [] h = refl
values_without n us (m ∷ ns) h = ap₂ (λ a b. a ∷ b) (value_without n m us h.0) (values_without n us ns h.1)

-- ---- the names with values

pub record Valued (names : List Text) (us : List Use) : Type 0 where
  pub values : List Text
  pub counted : length values ≡ length names
  pub order : IsPermutation (zip names values) us
  pub are : map (value_in us) names ≡ map (λ v. Some v) values

valued : (names : List Text) (us : List Use) → IsDistinct bytes_eq names → AreKnown names us → IsDistinct same_name us → list_any (λ n. not (has n us)) names ≡ false → Valued names us
valued [] [] differ all apart e = record { values = []; counted = refl; order = IsPermutation-refl []; are = refl }
valued [] (u ∷ us) differ all apart e = absurd (true≢false (sym all.0))
valued (n ∷ names) us differ all apart e =
    let both = either (not (has n us)) (list_any (λ m. not (has m us)) names) e in
    let one = taken n us (untrue (has n us) both.0) in
    let heads = IsDistinct-head bytes_eq n names differ in
    let rest = valued names (without_use n us) (IsDistinct-tail bytes_eq n names differ) (known_without n names us apart all) (distinct_without n us apart)
    (lacks_without n us names heads ∙ both.1) in
    record {
      values = one.v ∷ rest.values;
      counted = ap suc rest.counted;
      order = IsPermutation-trans _ _ _ (IsPermutation-append_right ((n, one.v) ∷ []) _ _ rest.order) one.order;
      are = ap₂ (λ a b. a ∷ b) one.first (sym (values_without n us names heads) ∙ rest.are);
    }

pub fits_valued : (names : List Text) (us : List Use) → IsDistinct bytes_eq names → Fits names [] us → list_any (λ n. not (has n us)) names ≡ false → Valued names us
fits_valued names us differ f e = valued names us differ (fits_known names us [] f) (fits_distinct names us [] f) e

-- ---- names with values in another order

each_zip : (P : Text → Type 0) (names values : List Text) → AllByRecursion P names → AllByRecursion (λ (u : Use). P u.0) (zip names values)
each_zip P [] values h = tt
each_zip P (n ∷ names) [] h = tt
each_zip P (n ∷ names) (v ∷ values) h = (h.0, each_zip P names values h.1)

zip_distinct : (names values : List Text) → IsDistinct bytes_eq names → IsDistinct same_name (zip names values)
unfolding IsDistinct
zip_distinct [] values h = tt
zip_distinct (n ∷ names) [] h = tt
zip_distinct (n ∷ names) (v ∷ values) h = (each_zip (λ y. bytes_eq n y ≡ false) names values h.0, zip_distinct names values h.1)

own_names : (names : List Text) → AllByRecursion (λ n. known names n ≡ true) names
own_names [] = tt
own_names (n ∷ names) = (
  rw (own_text n) refl,
  each_then (λ m. known names m ≡ true) (λ m. known (n ∷ names) m ≡ true) (λ m k. later (bytes_eq n m) (known names m) k) names (own_names names),
)

own_pairs : (us : List Use) → AllByRecursion (λ u. has_pair u.0 u.1 us ≡ true) us
own_pairs [] = tt
own_pairs (u ∷ us) = (
  rw (own_text u.0, own_text u.1) refl,
  each_then (λ w. has_pair w.0 w.1 us ≡ true) (λ w. has_pair w.0 w.1 (u ∷ us) ≡ true) (λ w k. later (bytes_eq u.0 w.0 && bytes_eq u.1 w.1) (has_pair w.0 w.1 us) k) us (own_pairs us),
)

no_pair : (n v : Text) (us : List Use) → AllByRecursion (λ w. bytes_eq n w.0 ≡ false) us → has_pair n v us ≡ false
no_pair n v [] h = refl
no_pair n v (u ∷ us) h = rw (other_way n u.0 h.0) (no_pair n v us h.1)

pair_first : (n v : Text) (us : List Use) → IsDistinct same_name us → has_pair n v us ≡ true → (value_in us n ≡ Some v) × (has n us ≡ true)
unfolding IsDistinct
pair_first n v [] apart e = absurd (true≢false (sym e))
pair_first n v (u ∷ us) apart e = go (bytes_eq u.0 n) refl (pair_first n v us apart.1)
  where
    go : (b : Bool) → bytes_eq u.0 n ≡ b → (has_pair n v us ≡ true → (value_in us n ≡ Some v) × (has n us ≡ true)) → (value_in (u ∷ us) n ≡ Some v) × (has n (u ∷ us) ≡ true)
    go false b rest = let r = rest (rw b at e) in (rw b r.0, rw b r.1)
    go true b rest = here (bytes_eq u.1 v) refl
      where
        here : (h : Bool) → bytes_eq u.1 v ≡ h → (value_in (u ∷ us) n ≡ Some v) × (has n (u ∷ us) ≡ true)
        here true h = (rw b (ap (λ x. Some x) (same_text u.1 v h)), rw b refl)
        here false h =
            let pair : has_pair n v us ≡ true = rw (b, h) at e in
            let none = no_pair n v us (subst (λ x. AllByRecursion (λ w. bytes_eq x w.0 ≡ false) us) (same_text u.0 n b) apart.0) in
            absurd (true≢false (sym pair ∙ none))

values_there : (us : List Use) → IsDistinct same_name us → (names values : List Text) → length values ≡ length names → AllByRecursion (λ u. has_pair u.0 u.1 us ≡ true) (zip names values)
    → (map (value_in us) names ≡ map (λ v. Some v) values) × (list_any (λ n. not (has n us)) names ≡ false)
values_there us apart [] [] counted h = (refl, refl)
values_there us apart [] (v ∷ values) counted h = absurd (omega (arith, counted))
values_there us apart (n ∷ names) [] counted h = absurd (omega (arith, counted))
values_there us apart (n ∷ names) (v ∷ values) counted h =
    let one = pair_first n v us apart h.0 in
    let rest = values_there us apart names values (omega (arith, counted)) h.1 in
    (ap₂ (λ a b. a ∷ b) one.0 rest.0, rw one.1 rest.1)

pub record Placed (names values : List Text) (us : List Use) : Type 0 where
  pub fits : Fits names [] us
  pub all : list_any (λ n. not (has n us)) names ≡ false
  pub are : map (value_in us) names ≡ map (λ v. Some v) values

each_new : (us : List Use) → AllByRecursion (λ w. has w.0 [] ≡ false) us
each_new [] = tt
each_new (u ∷ us) = (refl, each_new us)

pub placed : (names values : List Text) (us : List Use) → IsDistinct bytes_eq names → length values ≡ length names → IsPermutation (zip names values) us → Placed names values us
placed names values us differ counted order =
    let zipped = zip names values in
    let apart = IsDistinct-IsPermutation same_name (λ u w. either_way u.0 w.0) zipped us order (zip_distinct names values differ) in
    let all = each_passes (λ u. known names u.0) us (sym (list_any-IsPermutation (λ u. not (known names u.0)) zipped us order)
    ∙ no_other (λ u. known names u.0) zipped (each_zip (λ n. known names n ≡ true) names values (own_names names))) in
    let pairs = each_then (λ u. has_pair u.0 u.1 zipped ≡ true) (λ u. has_pair u.0 u.1 us ≡ true)
    (λ u h. sym (list_any-IsPermutation (λ w. bytes_eq w.0 u.0 && bytes_eq w.1 u.1) zipped us order) ∙ h) zipped (own_pairs zipped) in
    let there = values_there us apart names values counted pairs in
    record {
      fits = fits_from names us [] all apart (each_new us);
      all = there.1;
      are = there.0;
    }
