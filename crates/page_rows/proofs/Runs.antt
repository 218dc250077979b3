-- The items of all places after one is set, and after a run is opened.
use Rattle.std.proofs.Common.{◌≡◌, ◌≢◌, ℕ, ◌+◌, ◌*◌, ◌/◌, ◌%◌, ◌<◌, ◌≤◌, ◌-◌, List, ◌++◌, Option, Some, None, length, replicate, slice_set, get_or, refl, inl, inr, if◌then◌else◌, sym, ap, ◌∙◌, subst, arith, length-set}
use Rattle.std.specs.Prelude.{◌⊎◌, option_and_then}
use Rattle.std.specs.List.{count_by}
use Rattle.std.specs.Option.{is_some}
use Rattle.std.proofs.lemmas.Bool.{cases_eq, cases_lt}
use Rattle.std.proofs.lemmas.List.{ext_get_or, get_or-set_same, get_or-set_other, get_or-append_right, get_or_append_left, get_or-replicate, get_or_past, set-get_or, length-append, length-replicate}
use Rattle.std.proofs.lemmas.List.FromFn.{get_or-map-range_with_len, length-map-range_with_len}
use Rattle.std.proofs.lemmas.List.Sums.{count_by-le-length, sum_by-set}
use Rattle.std.proofs.lemmas.Option.{same_Some}
use Rattle.page_rows.specs.Rows.{AreApart, HasOpenRuns, all_in, item_in}

abbrev one_if_some : Option ℕ → ℕ
one_if_some o = if is_some o then 1 else 0

module _ {X : Type 0} where
  pub length_all : (firsts : List (Option ℕ)) (items : List (Option X)) → length (all_in firsts items) ≡ length firsts * 64
  unfolding all_in
  length_all firsts items = length-map-range_with_len (item_in firsts items) 0 (length firsts * 64)

  get_within : (firsts : List (Option ℕ)) (items : List (Option X)) (place : ℕ) → place < length firsts * 64 → get_or (all_in firsts items) place None ≡ item_in firsts items place
  unfolding all_in
  get_within firsts items place within = get_or-map-range_with_len (item_in firsts items) 0 (length firsts * 64) place place None within (omega arith)

  -- the item of a place is what its run has
  pub get_all : (firsts : List (Option ℕ)) (items : List (Option X)) (place : ℕ) → get_or (all_in firsts items) place None ≡ item_in firsts items place
  get_all firsts items place = go (cases_lt place (length firsts * 64))
    where
      go : (place < length firsts * 64) ⊎ (length firsts * 64 ≤ place) → get_or (all_in firsts items) place None ≡ item_in firsts items place
      go (inl within) = get_within firsts items place within
      go (inr past) =
          let long = length_all firsts items in
          get_or_past (all_in firsts items) place None (omega (arith, long, past)) ∙ sym (ap (option_and_then (λ first. get_or items (first + place % 64) None)) (get_or_past firsts (place / 64) None (omega (arith, past))))

  all_equal : (f g : List (Option ℕ)) (xs ys : List (Option X)) → length f ≡ length g → ((place : ℕ) → item_in f xs place ≡ item_in g ys place) → all_in f xs ≡ all_in g ys
  all_equal f g xs ys long same =
      ext_get_or None (all_in f xs) (all_in g ys) (length_all f xs ∙ (ap (λ n. n * 64) long ∙ sym (length_all g ys)))
      (λ place _. get_all f xs place ∙ (same place ∙ sym (get_all g ys place)))

  pub none_in : (firsts : List (Option ℕ)) (items : List (Option X)) (runs : ℕ) → firsts ≡ replicate runs None → all_in firsts items ≡ replicate (runs * 64) None
  none_in firsts items runs are =
      let long : length firsts ≡ runs = ap length are ∙ length-replicate runs None in
      ext_get_or None (all_in firsts items) (replicate (runs * 64) None) (length_all firsts items ∙ (ap (λ n. n * 64) long ∙ sym (length-replicate {A = Option X} (runs * 64) None)))
      (λ place below.
      let within : place < runs * 64 = let all = length_all firsts items in omega (arith, below, all, long) in
      let shut : get_or firsts (place / 64) None ≡ None = ap (λ xs. get_or xs (place / 64) None) are ∙ get_or-replicate runs (place / 64) None None (omega (arith, within)) in
      get_all firsts items place ∙ (ap (option_and_then (λ f. get_or items (f + place % 64) None)) shut ∙ sym (get_or-replicate (runs * 64) place None None within)))

  -- no item is given to a run that isn't open
  pub shut_kept : (firsts : List (Option ℕ)) (items : List (Option X)) (place : ℕ) → get_or firsts (place / 64) None ≡ None → (item : Option X) → item ≡ None → all_in firsts items ≡ slice_set (all_in firsts items) place item
  shut_kept firsts items place shut item none =
      let there = get_all firsts items place ∙ (ap (option_and_then (λ f. get_or items (f + place % 64) None)) shut ∙ sym none) in
      sym (ap (slice_set (all_in firsts items) place) (sym there) ∙ set-get_or (all_in firsts items) place None)

  -- an item of an open run is set
  module _ (firsts : List (Option ℕ)) (items : List (Option X)) (space : ℕ) (laid : HasOpenRuns firsts items space) (place first : ℕ) (open_at : get_or firsts (place / 64) None ≡ Some first) (item : Option X) where
    abbrev pub at : ℕ
    at = first + place % 64

    at_within : at < length items
    at_within = let within = laid.within (place / 64) first open_at in omega (arith, within)

    other : (i : ℕ) → i ≢ place → (o : Option ℕ) → get_or firsts (i / 64) None ≡ o → option_and_then (λ f. get_or (slice_set items at item) (f + i % 64) None) o ≡ option_and_then (λ f. get_or items (f + i % 64) None) o
    other i differ None is = refl
    other i differ (Some f) is = get_or-set_other items at (f + i % 64) item None (apart (laid.apart (place / 64) (i / 64) first f open_at is))
      where
        apart : (place / 64 ≡ i / 64) ⊎ ((first + 64 ≤ f) ⊎ (f + 64 ≤ first)) → f + i % 64 ≢ at
        apart (inl same) =
            let alike : first ≡ f = same_Some first f (sym open_at ∙ (ap (λ r. get_or firsts r None) same ∙ is)) in
            λ equal. differ (omega (arith, same, alike, equal))
        apart (inr (inl before)) = λ equal. omega (arith, before, equal)
        apart (inr (inr after)) = λ equal. omega (arith, after, equal)

    pub all_set : all_in firsts (slice_set items at item) ≡ slice_set (all_in firsts items) place item
    all_set = ext_get_or None _ _ long (λ i below. go i below (cases_eq i place))
      where
        long : length (all_in firsts (slice_set items at item)) ≡ length (slice_set (all_in firsts items) place item)
        long = length_all firsts (slice_set items at item) ∙ (sym (length_all firsts items) ∙ sym (length-set (all_in firsts items) place item))

        go : (i : ℕ) → i < length (all_in firsts (slice_set items at item)) → (i ≡ place) ⊎ (i ≢ place) → get_or (all_in firsts (slice_set items at item)) i None ≡ get_or (slice_set (all_in firsts items) place item) i None
        go i below (inl same) =
            let many = length_all firsts (slice_set items at item) in
            let all = length_all firsts items in
            subst (λ n. get_or (all_in firsts (slice_set items at item)) n None ≡ get_or (slice_set (all_in firsts items) place item) n None) (sym same)
            (get_all firsts (slice_set items at item) place
            ∙ (ap (option_and_then (λ f. get_or (slice_set items at item) (f + place % 64) None)) open_at
            ∙ (get_or-set_same items at item None at_within
            ∙ sym (get_or-set_same (all_in firsts items) place item None (omega (arith, below, same, many, all))))))
        go i below (inr differ) =
            get_all firsts (slice_set items at item) i
            ∙ (other i differ (get_or firsts (i / 64) None) refl
            ∙ (sym (get_all firsts items i)
            ∙ sym (get_or-set_other (all_in firsts items) place i item None differ)))

  -- a run is opened
  module _ (firsts : List (Option ℕ)) (items : List (Option X)) (space run : ℕ) (laid : HasOpenRuns firsts items space) (below : run < length firsts) (shut : get_or firsts run None ≡ None) where
    abbrev pub opened : List (Option ℕ)
    opened = slice_set firsts run (Some (length items))

    abbrev pub longer : List (Option X)
    longer = items ++ replicate 64 None

    is_longer : length longer ≡ length items + 64
    is_longer = length-append items (replicate 64 None) ∙ ap (λ n. length items + n) (length-replicate {A = Option X} 64 None)

    here : get_or opened run None ≡ Some (length items)
    here = get_or-set_same firsts run (Some (length items)) None below

    elsewhere : (r : ℕ) → r ≢ run → get_or opened r None ≡ get_or firsts r None
    elsewhere r differ = get_or-set_other firsts run r (Some (length items)) None differ

    new_item : (n : ℕ) → n < 64 → get_or longer (length items + n) None ≡ None
    new_item n few = get_or-append_right items (replicate 64 None) (length items) (length items + n) None refl (omega arith) ∙ get_or-replicate 64 (length items + n - length items) None None (omega (arith, few))

    old_item : (place : ℕ) (o : Option ℕ) → get_or firsts (place / 64) None ≡ o → option_and_then (λ f. get_or longer (f + place % 64) None) o ≡ option_and_then (λ f. get_or items (f + place % 64) None) o
    old_item place None is = refl
    old_item place (Some f) is = get_or_append_left items (replicate 64 None) None (f + place % 64) (let within = laid.within (place / 64) f is in omega (arith, within))

    pub all_opened : all_in opened longer ≡ all_in firsts items
    all_opened = all_equal opened firsts longer items (length-set firsts run (Some (length items))) (λ place. go place (cases_eq (place / 64) run))
      where
        go : (place : ℕ) → (place / 64 ≡ run) ⊎ (place / 64 ≢ run) → item_in opened longer place ≡ item_in firsts items place
        go place (inl same) =
            ap (option_and_then (λ f. get_or longer (f + place % 64) None)) (subst (λ r. get_or opened r None ≡ Some (length items)) (sym same) here)
            ∙ (new_item (place % 64) (omega arith)
            ∙ sym (ap (option_and_then (λ f. get_or items (f + place % 64) None)) (subst (λ r. get_or firsts r None ≡ None) (sym same) shut)))
        go place (inr differ) = ap (option_and_then (λ f. get_or longer (f + place % 64) None)) (elsewhere (place / 64) differ) ∙ old_item place (get_or firsts (place / 64) None) refl

    counted : count_by is_some opened ≡ count_by is_some firsts + 1
    counted =
        let more = sum_by-set one_if_some firsts run (Some (length items)) None below in
        let none : one_if_some (get_or firsts run None) ≡ 0 = ap one_if_some shut in
        omega (arith, more, none)

    -- the first item of a run: the new one's, or one of those before
    abbrev Begins : ℕ → ℕ → Type 0
    Begins r f = ((r ≡ run) × (f ≡ length items)) ⊎ ((r ≢ run) × (get_or firsts r None ≡ Some f))

    begins : (r f : ℕ) → get_or opened r None ≡ Some f → Begins r f
    begins r f is = go (cases_eq r run)
      where
        go : (r ≡ run) ⊎ (r ≢ run) → Begins r f
        go (inl same) = inl (same, same_Some _ _ (sym is ∙ (ap (λ n. get_or opened n None) same ∙ here)))
        go (inr differ) = inr (differ, sym (elsewhere r differ) ∙ is)

    are_apart : AreApart opened
    are_apart r s f g is_f is_g = go (begins r f is_f) (begins s g is_g)
      where
        go : Begins r f → Begins s g → (r ≡ s) ⊎ ((f + 64 ≤ g) ⊎ (g + 64 ≤ f))
        go (inl new) (inl also) = inl (new.0 ∙ sym also.0)
        go (inl new) (inr old) = inr (inr (let within = laid.within s g old.1 in omega (arith, within, new.1)))
        go (inr old) (inl new) = inr (inl (let within = laid.within r f old.1 in omega (arith, within, new.1)))
        go (inr old) (inr also) = laid.apart r s f g old.1 also.1

    lies_within : (r f : ℕ) → get_or opened r None ≡ Some f → f + 64 ≤ length longer
    lies_within r f is = go (begins r f is)
      where
        go : Begins r f → f + 64 ≤ length longer
        go (inl new) = omega (arith, new.1, is_longer)
        go (inr old) = let within = laid.within r f old.1 in omega (arith, within, is_longer)

    pub is_laid : HasOpenRuns opened longer space
    is_laid =
        record {
          many = omega (arith, is_longer, counted, laid.many);
          room = let same = length-set firsts run (Some (length items)) in let room = laid.room in omega (arith, same, room);
          within = lies_within;
          apart = are_apart;
        }

    -- there is room for the run's items
    pub has_room : length items + 64 ≤ space
    has_room =
        let few = count_by-le-length (is_some {T = ℕ}) opened in
        let same = length-set firsts run (Some (length items)) in
        omega (arith, few, same, counted, laid.many, laid.room)
