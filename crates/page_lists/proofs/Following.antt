-- What following the links of a list gives, after each change of the links.
use Rattle.std.proofs.Common.{◌≡◌, ◌≢◌, ℕ, ◌+◌, ◌-◌, ◌≤◌, ◌<◌, zero, suc, Bool, true, false, cond, eqb, List, [], ◌∷◌, ◌++◌, Some, length, set, get_or, refl, sym, ◌∙◌, ap, subst, ⊎_elim, arith, length-set, get_or-set_same, get_or-set_other, length-append}
use Rattle.std.proofs.lemmas.Bool.{cases_eq, cases_lt, eq-eqb, ne_eqb, eqb-true}
use Rattle.std.proofs.lemmas.List.{get_or_append_left, get_or-append_right}
use Rattle.std.proofs.lemmas.Option.{slice_get-get_or}
use Rattle.page_lists.specs.declared.ends.Ends.{Ends}
use Rattle.page_lists.specs.Lists.{count_of}
use Rattle.page_lists.specs.Links.{followed, items_of, IsLinked, KeepsOthers}
use Rattle.page_lists.proofs.Counts.{count_of-cons, count_of-push, found, same_place, count_of-same}

-- writing a link, or none, leaves as many cells
pub length-linked : (b : Bool) (cells new : List ℕ) (place link : ℕ) → new ≡ cond b cells (set cells place link) → length new ≡ length cells
length-linked true cells new place link is = ap length is
length-linked false cells new place link is = ap length is ∙ length-set cells place link

-- links that lead from each frame to the next are followed
followed-is : (forward items : List ℕ) (head : ℕ) → ((place : ℕ) → place + 1 < length items → get_or forward (get_or items place 0) 0 ≡ get_or items (place + 1) 0) → (0 < length items → get_or items 0 0 ≡ head) → followed forward head (length items) ≡ items
followed-is forward [] head next first = refl
followed-is forward (x ∷ items) head next first =
    let here : x ≡ head = first (omega arith) in
    let rest = followed-is forward items (get_or forward x 0) (λ place within. let e : suc place + 1 ≡ suc (place + 1) = omega arith in rw e at (next (suc place) (omega arith))) (λ some. sym (next 0 (omega arith))) in
    subst (λ (h : ℕ). h ∷ followed forward (get_or forward h 0) (length items) ≡ x ∷ items) here (ap (λ (list : List ℕ). x ∷ list) rest)

pub followed-linked : (forward backward items : List ℕ) (ends : Ends) → IsLinked forward backward items ends → items_of forward ends ≡ items
followed-linked forward backward items ends linked =
    let n = linked.counted in
    subst (λ (n : ℕ). followed forward ends.head n ≡ items) n (followed-is forward items ends.head
    (λ place within. linked.next place (omega arith))
    (λ some. linked.first (omega arith)))

pub IsLinked-items : (forward backward items : List ℕ) (ends : Ends) → IsLinked forward backward items ends → IsLinked forward backward (items_of forward ends) ends
IsLinked-items forward backward items ends linked = subst (λ list. IsLinked forward backward list ends) (sym (followed-linked forward backward items ends linked)) linked

-- the same list under links that are equal at its frames
pub IsLinked-same : (forward backward forward' backward' items : List ℕ) (ends : Ends) → length forward' ≡ length forward → ((frame : ℕ) → 0 < count_of items frame → (get_or forward' frame 0 ≡ get_or forward frame 0) × (get_or backward' frame 0 ≡ get_or backward frame 0)) → IsLinked forward backward items ends → IsLinked forward' backward' items ends
IsLinked-same forward backward forward' backward' items ends long same linked = record {
  counted = linked.counted;
  first = linked.first;
  last = linked.last;
  within = λ place within. rw long (linked.within place within);
  once = linked.once;
  next = λ place within. (same _ (there place (omega arith))).0 ∙ linked.next place within;
  previous = λ place within. (same _ (there (place + 1) (omega arith))).1 ∙ linked.previous place within;
}
  where
    there : (place : ℕ) → place < ends.count → 0 < count_of items (get_or items place 0)
    there place within = let n = linked.counted in found items _ place (slice_get-get_or items place 0 (omega arith))

module _ (forward backward items : List ℕ) (ends : Ends) (linked : IsLinked forward backward items ends) where
  abbrev at : ℕ → ℕ
  at place = get_or items place 0

  -- each frame of the list stands in one place
  pub there : (place : ℕ) → place < ends.count → 0 < count_of items (at place)
  there place within = let n = linked.counted in found items _ place (slice_get-get_or items place 0 (omega arith))

  pub same_at : (i j : ℕ) → i < ends.count → j < ends.count → at i ≡ at j → i ≡ j
  same_at i j first second same =
      let n = linked.counted in
      same_place items (at i) i j (linked.once (at i)) (slice_get-get_or items i 0 (omega arith)) (slice_get-get_or items j 0 (omega arith) ∙ ap Some (sym same))

  apart : (i j : ℕ) → i < ends.count → j < ends.count → i ≢ j → at i ≢ at j
  apart i j first second other same = other (same_at i j first second same)

  -- a frame that is not on the list
  module _ (f : ℕ) (below : f < length forward) (cells : length backward ≡ length forward) (none : count_of items f ≡ 0) where
    pub off : (place : ℕ) → place < ends.count → at place ≢ f
    off place within same = let here = there place within in let count : count_of items (at place) ≡ 0 = rw same none in omega arith

    once_more : (list : List ℕ) → ((g : ℕ) → count_of list g ≡ count_of items g + cond (eqb f g) 1 0) → (g : ℕ) → count_of list g ≤ 1
    once_more list more g = grind (arith, more g, linked.once g, cases_eq f g, eqb-true f g, none)

    -- it comes after the last one
    module _ (forward' : List ℕ) (head' : ℕ) (links : forward' ≡ cond (eqb ends.count 0) forward (set forward ends.tail f)) (heads : head' ≡ cond (eqb ends.count 0) f ends.head) where
      abbrev pub appended : Ends
      appended = record { head = head'; tail = f; count = ends.count + 1 }

      pub KeepsOthers-append : KeepsOthers (items ++ f ∷ []) forward backward forward' (set backward f ends.tail)
      KeepsOthers-append = record { forward = ahead; backward = λ g away. get_or-set_other backward f g ends.tail 0 (λ e. (other g away).1 e) }
        where
          other : (g : ℕ) → count_of (items ++ f ∷ []) g ≡ 0 → (count_of items g ≡ 0) × (g ≢ f)
          other g away = (omega (arith, count_of-push items f g), λ e. let one = eq-eqb f g (sym e) in let more = rw one at (count_of-push items f g) in omega (arith, more))

          ahead : (g : ℕ) → count_of (items ++ f ∷ []) g ≡ 0 → get_or forward' g 0 ≡ get_or forward g 0
          ahead g away = ⊎_elim
              (λ none. rw links (rw (eq-eqb ends.count 0 none) refl))
              (λ some. rw links (rw (ne_eqb ends.count 0 some) (get_or-set_other forward ends.tail g f 0
              (λ e. let last = linked.last (omega arith) in let here = there (ends.count - 1) (omega arith) in
              let gone = (other g away).0 in let last_here : 0 < count_of items g = subst (λ (x : ℕ). 0 < count_of items x) (last ∙ sym e) here in omega arith))))
              (cases_eq ends.count 0)

      one_more : length (items ++ f ∷ []) ≡ ends.count + 1
      one_more = omega (arith, length-append items (f ∷ []), linked.counted)

      old : (place : ℕ) → place < ends.count → get_or (items ++ f ∷ []) place 0 ≡ at place
      old place within = get_or_append_left items (f ∷ []) 0 place (omega (arith, linked.counted))

      new : get_or (items ++ f ∷ []) ends.count 0 ≡ f
      new = get_or-append_right items (f ∷ []) ends.count ends.count 0 linked.counted (omega arith) ∙ (let none_more : ends.count - ends.count ≡ 0 = omega arith in ap (λ n. get_or (f ∷ []) n 0) none_more)

      -- the forward link of each frame but the last is as before, and that of the last one is the new frame
      ahead : (place : ℕ) → place + 1 < ends.count → get_or forward' (at place) 0 ≡ at (place + 1)
      ahead place within =
          let some : ends.count ≢ 0 = omega arith in
          let far = apart place (ends.count - 1) (omega arith) (omega arith) (omega arith) in
          rw links (rw (ne_eqb ends.count 0 some) (get_or-set_other forward ends.tail (at place) f 0 (λ e. far (e ∙ sym (linked.last (omega arith)))) ∙ linked.next place within))

      ahead_last : (place : ℕ) → place + 1 ≡ ends.count → get_or forward' (at place) 0 ≡ f
      ahead_last place last_one =
          let some : ends.count ≢ 0 = omega arith in
          let same : place ≡ ends.count - 1 = omega arith in
          let is : at place ≡ ends.tail = ap at same ∙ linked.last (omega arith) in
          let near : ends.tail < length forward = subst (λ (x : ℕ). x < length forward) is (linked.within place (omega arith)) in
          rw links (rw (ne_eqb ends.count 0 some) (ap (λ x. get_or (set forward ends.tail f) x 0) is ∙ get_or-set_same forward ends.tail f 0 near))

      pub IsLinked-append : IsLinked forward' (set backward f ends.tail) (items ++ f ∷ []) appended
      IsLinked-append = record {
        counted = one_more;
        first = λ some. ⊎_elim
            (λ empty. ap (λ n. get_or (items ++ f ∷ []) n 0) (sym empty) ∙ new ∙ sym (heads ∙ rw (eq-eqb ends.count 0 empty) refl))
            (λ full. old 0 (omega arith) ∙ linked.first (omega arith) ∙ sym (heads ∙ rw (ne_eqb ends.count 0 full) refl))
            (cases_eq ends.count 0);
        last = λ some. let end : ends.count + 1 - 1 ≡ ends.count = omega arith in ap (λ n. get_or (items ++ f ∷ []) n 0) end ∙ new;
        within = λ place near. rw long (⊎_elim
            (λ early. rw (old place early) (linked.within place early))
            (λ late. let last_one : place ≡ ends.count = omega arith in rw (last_one, new) below)
            (cases_lt place ends.count));
        once = once_more (items ++ f ∷ []) (λ g. count_of-push items f g);
        next = λ place near. ⊎_elim
            (λ early. rw (old place (omega arith), old (place + 1) early) (ahead place early))
            (λ late. let last_one : place + 1 ≡ ends.count = omega arith in rw (old place (omega arith), last_one, new) (ahead_last place last_one))
            (cases_lt (place + 1) ends.count);
        previous = λ place near. ⊎_elim
            (λ early. rw (old place (omega arith), old (place + 1) early) (get_or-set_other backward f (at (place + 1)) ends.tail 0 (off (place + 1) early) ∙ linked.previous place early))
            (λ late. let last_one : place + 1 ≡ ends.count = omega arith in let same : place ≡ ends.count - 1 = omega arith in
            rw (old place (omega arith), last_one, new) (get_or-set_same backward f ends.tail 0 (rw cells below) ∙ sym (ap at same ∙ linked.last (omega arith))))
            (cases_lt (place + 1) ends.count);
      }
        where
          long : length forward' ≡ length forward
          long = ⊎_elim
              (λ none. rw links (rw (eq-eqb ends.count 0 none) refl))
              (λ some. rw links (rw (ne_eqb ends.count 0 some) (length-set forward ends.tail f)))
              (cases_eq ends.count 0)

    -- it comes before the first one
    module _ (backward' : List ℕ) (tail' : ℕ) (links : backward' ≡ cond (eqb ends.count 0) backward (set backward ends.head f)) (tails : tail' ≡ cond (eqb ends.count 0) f ends.tail) where
      abbrev pub prepended : Ends
      prepended = record { head = f; tail = tail'; count = ends.count + 1 }

      pub KeepsOthers-prepend : KeepsOthers (f ∷ items) forward backward (set forward f ends.head) backward'
      KeepsOthers-prepend = record { forward = λ g away. get_or-set_other forward f g ends.head 0 (λ e. (other g away).1 e); backward = behind }
        where
          other : (g : ℕ) → count_of (f ∷ items) g ≡ 0 → (count_of items g ≡ 0) × (g ≢ f)
          other g away = (omega (arith, count_of-cons f items g), λ e. omega (arith, count_of-same f items g (sym e)))

          behind : (g : ℕ) → count_of (f ∷ items) g ≡ 0 → get_or backward' g 0 ≡ get_or backward g 0
          behind g away = ⊎_elim
              (λ none. rw links (rw (eq-eqb ends.count 0 none) refl))
              (λ some. rw links (rw (ne_eqb ends.count 0 some) (get_or-set_other backward ends.head g f 0
              (λ e. let first = linked.first (omega arith) in let here = there 0 (omega arith) in
              let gone = (other g away).0 in let first_here : 0 < count_of items g = subst (λ (x : ℕ). 0 < count_of items x) (first ∙ sym e) here in omega arith))))
              (cases_eq ends.count 0)

      pub IsLinked-prepend : IsLinked (set forward f ends.head) backward' (f ∷ items) prepended
      IsLinked-prepend = record {
        counted = omega (arith, linked.counted);
        first = λ some. refl;
        last = λ some. ⊎_elim
            (λ empty. let end : ends.count + 1 - 1 ≡ 0 = omega arith in ap (λ n. get_or (f ∷ items) n 0) end ∙ sym (tails ∙ rw (eq-eqb ends.count 0 empty) refl))
            (λ full. let place : ends.count + 1 - 1 ≡ suc (ends.count - 1) = omega arith in ap (λ n. get_or (f ∷ items) n 0) place ∙ linked.last (omega arith) ∙ sym (tails ∙ rw (ne_eqb ends.count 0 full) refl))
            (cases_eq ends.count 0);
        within = λ place near. rw (length-set forward f ends.head) (near_of place near);
        once = once_more (f ∷ items) (λ g. omega (arith, count_of-cons f items g));
        next = next_of;
        previous = previous_of;
      }
        where
          near_of : (place : ℕ) → place < ends.count + 1 → get_or (f ∷ items) place 0 < length forward
          near_of zero near = below
          near_of (suc place) near = linked.within place (omega arith)

          next_of : (place : ℕ) → place + 1 < ends.count + 1 → get_or (set forward f ends.head) (get_or (f ∷ items) place 0) 0 ≡ get_or (f ∷ items) (place + 1) 0
          next_of zero near = get_or-set_same forward f ends.head 0 below ∙ sym (linked.first (omega arith))
          next_of (suc place) near = let e : suc place + 1 ≡ suc (place + 1) = omega arith in rw e (get_or-set_other forward f (at place) ends.head 0 (off place (omega arith)) ∙ linked.next place (omega arith))

          behind_first : 0 < ends.count → get_or backward' (at 0) 0 ≡ f
          behind_first some =
              let full : ends.count ≢ 0 = omega arith in
              let is = linked.first some in
              let near : ends.head < length backward = rw cells (subst (λ (x : ℕ). x < length forward) is (linked.within 0 some)) in
              rw links (rw (ne_eqb ends.count 0 full) (ap (λ x. get_or (set backward ends.head f) x 0) is ∙ get_or-set_same backward ends.head f 0 near))

          previous_of : (place : ℕ) → place + 1 < ends.count + 1 → get_or backward' (get_or (f ∷ items) (place + 1) 0) 0 ≡ get_or (f ∷ items) place 0
          previous_of zero near = behind_first (omega arith)
          previous_of (suc place) near =
              let full : ends.count ≢ 0 = omega arith in
              let far = apart (place + 1) 0 (omega arith) (omega arith) (omega arith) in
              let e : suc place + 1 ≡ suc (place + 1) = omega arith in
              rw (e, links) (rw (ne_eqb ends.count 0 full) (get_or-set_other backward ends.head (at (place + 1)) f 0 (λ e. far (e ∙ sym (linked.first (omega arith)))) ∙ linked.previous place (omega arith)))
