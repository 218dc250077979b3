-- What following the links of a list gives, once one of its frames is taken out.
use Rattle.std.proofs.Common.{◌≡◌, ◌≢◌, ℕ, ◌+◌, ◌-◌, ◌≤◌, ◌<◌, zero, suc, true, false, cond, eqb, List, [], ◌∷◌, length, set, get_or, refl, sym, ◌∙◌, ap, subst, ⊎_elim, arith, length-set, get_or-set_same, get_or-set_other}
use Rattle.std.specs.List.{remove}
use Rattle.std.proofs.lemmas.Bool.{cases_eq, cases_lt, eq-eqb, ne_eqb}
use Rattle.std.proofs.lemmas.List.Edits.{length-remove, get_or-remove_below, get_or-remove_above}
use Rattle.page_lists.specs.declared.ends.Ends.{Ends}
use Rattle.page_lists.specs.Lists.{count_of, without}
use Rattle.page_lists.specs.Links.{IsLinked, KeepsOthers}
use Rattle.page_lists.proofs.Counts.{count_of-cons, count_of-same, count_of-without, without-absent}
use Rattle.page_lists.proofs.Following.{there, same_at}

-- the place of a frame
abbrev pub Place : List ℕ → ℕ → Type 0
Place items f = (p : ℕ) × (p < length items) × (get_or items p 0 ≡ f)

pub place_of : (items : List ℕ) (f : ℕ) → 0 < count_of items f → Place items f
place_of [] f some = absurd (let none : 0 < 0 = some in omega arith)
place_of (x ∷ items) f some = ⊎_elim (here x items f) (λ other. later x items f other (place_of items f (off x items f other some))) (cases_eq x f)
  where
    here : (x : ℕ) (items : List ℕ) (f : ℕ) → x ≡ f → Place (x ∷ items) f
    here x items f same = (0, omega arith, same)

    off : (x : ℕ) (items : List ℕ) (f : ℕ) → x ≢ f → 0 < count_of (x ∷ items) f → 0 < count_of items f
    off x items f other some = let none : cond {A = ℕ} (eqb x f) 1 0 ≡ 0 = rw (ne_eqb x f other) refl in omega (arith, count_of-cons x items f)

    later : (x : ℕ) (items : List ℕ) (f : ℕ) → x ≢ f → Place items f → Place (x ∷ items) f
    later x items f other rest = (suc rest.0, let within = rest.1 in omega arith, rest.2)

-- a list without a frame lacks its place
pub without-place : (items : List ℕ) (f p : ℕ) → count_of items f ≤ 1 → p < length items → get_or items p 0 ≡ f → without items f ≡ remove items p
without-place [] f p once within is = absurd (omega arith)
without-place (x ∷ items) f zero once within is =
    let absent : count_of items f ≡ 0 = omega (arith, count_of-same x items f is) in
    rw (eq-eqb x f is) (without-absent items f absent)
without-place (x ∷ items) f (suc p) once within is = ⊎_elim
    (λ same. absurd (let more = count_of-same x items f same in let some = there_in items f p (omega arith) is in omega arith))
    (λ other. rw (ne_eqb x f other) (ap (λ (list : List ℕ). x ∷ list) (without-place items f p (omega (arith, count_of-cons x items f)) (omega arith) is)))
    (cases_eq x f)
  where
    there_in : (items : List ℕ) (f p : ℕ) → p < length items → get_or items p 0 ≡ f → 0 < count_of items f
    there_in [] f p within is = absurd (omega arith)
    there_in (x ∷ items) f zero within is = omega (arith, count_of-same x items f is)
    there_in (x ∷ items) f (suc p) within is = omega (arith, count_of-cons x items f, there_in items f p (omega arith) is)

module _ (forward backward items : List ℕ) (ends : Ends) (linked : IsLinked forward backward items ends) (cells : length backward ≡ length forward) (f p : ℕ) (near : p < ends.count) (is : get_or items p 0 ≡ f) where
  abbrev at : ℕ → ℕ
  at place = get_or items place 0

  apart : (i j : ℕ) → i < ends.count → j < ends.count → i ≢ j → at i ≢ at j
  apart i j first second other same = other (same_at forward backward items ends linked i j first second same)

  off : (i : ℕ) → i < ends.count → i ≢ p → at i ≢ f
  off i within other same = apart i p within near other (same ∙ sym is)

  pub below : f < length forward
  below = subst (λ (x : ℕ). x < length forward) is (linked.within p near)

  module _ (next previous : ℕ) (next_read : next ≡ get_or forward f 0) (previous_read : previous ≡ get_or backward f 0) where
    next_is : p + 1 < ends.count → at (p + 1) ≡ next
    next_is more = sym (linked.next p more) ∙ ap (λ x. get_or forward x 0) is ∙ sym next_read

    previous_is : (q : ℕ) → q + 1 ≡ p → at q ≡ previous
    previous_is q before = sym (linked.previous q (omega arith)) ∙ ap (λ n. get_or backward (at n) 0) before ∙ ap (λ x. get_or backward x 0) is ∙ sym previous_read

    -- the frame is the head where its place is the first, and the tail where it is the last
    head_is : p ≡ 0 → ends.head ≡ f
    head_is first = sym (linked.first (omega arith)) ∙ ap at (sym first) ∙ is

    head_other : 0 < p → ends.head ≢ f
    head_other later same = off 0 (omega arith) (omega arith) (linked.first (omega arith) ∙ same)

    tail_is : p + 1 ≡ ends.count → ends.tail ≡ f
    tail_is last_one = let place : ends.count - 1 ≡ p = omega arith in sym (linked.last (omega arith)) ∙ ap at place ∙ is

    tail_other : p + 1 < ends.count → ends.tail ≢ f
    tail_other earlier same = off (ends.count - 1) (omega arith) (omega arith) (linked.last (omega arith) ∙ same)

    -- what is written through the neighbours of the frame is within the cells
    pub previous_below : eqb ends.head f ≡ false → previous < length forward
    previous_below not_head = ⊎_elim
        (λ first. absurd (let yes = eq-eqb ends.head f (head_is first) in let t : true ≡ false = sym yes ∙ not_head in cc))
        (λ later. let q : p - 1 + 1 ≡ p = omega arith in subst (λ (x : ℕ). x < length forward) (previous_is (p - 1) q) (linked.within (p - 1) (omega arith)))
        (cases_eq p 0)

    pub next_below : eqb ends.tail f ≡ false → next < length backward
    next_below not_tail = ⊎_elim
        (λ earlier. rw cells (subst (λ (x : ℕ). x < length forward) (next_is earlier) (linked.within (p + 1) earlier)))
        (λ later. absurd (let yes = eq-eqb ends.tail f (tail_is (omega arith)) in let t : true ≡ false = sym yes ∙ not_tail in cc))
        (cases_lt (p + 1) ends.count)

    module _ (ahead behind : List ℕ) (head' tail' : ℕ) (aheads : ahead ≡ cond (eqb ends.head f) forward (set forward previous next)) (behinds : behind ≡ cond (eqb ends.tail f) backward (set backward next previous)) (heads : head' ≡ cond (eqb ends.head f) next ends.head) (tails : tail' ≡ cond (eqb ends.tail f) previous ends.tail) where
      abbrev pub unlinked : Ends
      unlinked = record { head = head'; tail = tail'; count = ends.count - 1 }

      abbrev rest : List ℕ
      rest = remove items p

      rest_below : (i : ℕ) → i < p → get_or rest i 0 ≡ at i
      rest_below i before = get_or-remove_below items p 0 i before (omega (arith, linked.counted))

      rest_above : (i : ℕ) → p ≤ i → get_or rest i 0 ≡ at (i + 1)
      rest_above i after = get_or-remove_above items p 0 i after (omega (arith, linked.counted))

      -- only the neighbours' links change
      ahead_other : (x : ℕ) → x ≢ f → (0 < p → x ≢ previous) → get_or (set ahead f 0) x 0 ≡ get_or forward x 0
      ahead_other x not_f not_previous = get_or-set_other ahead f x 0 0 not_f ∙ ⊎_elim
          (λ first. rw aheads (rw (eq-eqb ends.head f (head_is first)) refl))
          (λ later. rw aheads (rw (ne_eqb ends.head f (head_other (omega arith))) (get_or-set_other forward previous x next 0 (not_previous (omega arith)))))
          (cases_eq p 0)

      behind_other : (x : ℕ) → x ≢ f → (p + 1 < ends.count → x ≢ next) → get_or (set behind f 0) x 0 ≡ get_or backward x 0
      behind_other x not_f not_next = get_or-set_other behind f x 0 0 not_f ∙ ⊎_elim
          (λ earlier. rw behinds (rw (ne_eqb ends.tail f (tail_other earlier)) (get_or-set_other backward next x previous 0 (not_next earlier))))
          (λ late. rw behinds (rw (eq-eqb ends.tail f (tail_is (omega arith))) refl))
          (cases_lt (p + 1) ends.count)

      ahead_previous : (q : ℕ) → q + 1 ≡ p → get_or (set ahead f 0) (at q) 0 ≡ next
      ahead_previous q before =
          let here = previous_is q before in
          let low : previous < length forward = subst (λ (x : ℕ). x < length forward) here (linked.within q (omega arith)) in
          get_or-set_other ahead f (at q) 0 0 (off q (omega arith) (omega arith))
          ∙ rw aheads (rw (ne_eqb ends.head f (head_other (omega arith))) (ap (λ x. get_or (set forward previous next) x 0) here ∙ get_or-set_same forward previous next 0 low))

      behind_next : p + 1 < ends.count → get_or (set behind f 0) (at (p + 1)) 0 ≡ previous
      behind_next more =
          let here = next_is more in
          let low : next < length backward = rw cells (subst (λ (x : ℕ). x < length forward) here (linked.within (p + 1) more)) in
          get_or-set_other behind f (at (p + 1)) 0 0 (off (p + 1) more (omega arith))
          ∙ rw behinds (rw (ne_eqb ends.tail f (tail_other more)) (ap (λ x. get_or (set backward next previous) x 0) here ∙ get_or-set_same backward next previous 0 low))

      not_previous : (i : ℕ) → i < ends.count → i + 1 ≢ p → 0 < p → at i ≢ previous
      not_previous i within other later same =
          let q : p - 1 + 1 ≡ p = omega arith in
          apart i (p - 1) within (omega arith) (λ e. other (omega arith)) (same ∙ sym (previous_is (p - 1) q))

      not_next : (i : ℕ) → i < ends.count → i ≢ p + 1 → p + 1 < ends.count → at i ≢ next
      not_next i within other more same = apart i (p + 1) within more other (same ∙ sym (next_is more))

      pub length-ahead : length ahead ≡ length forward
      length-ahead = ⊎_elim
          (λ e. rw aheads (rw (eq-eqb ends.head f e) refl))
          (λ e. rw aheads (rw (ne_eqb ends.head f e) (length-set forward previous next)))
          (cases_eq ends.head f)

      pub length-behind : length behind ≡ length backward
      length-behind = ⊎_elim
          (λ e. rw behinds (rw (eq-eqb ends.tail f e) refl))
          (λ e. rw behinds (rw (ne_eqb ends.tail f e) (length-set backward next previous)))
          (cases_eq ends.tail f)

      unlinked_first : 0 < ends.count - 1 → get_or rest 0 0 ≡ head'
      unlinked_first some = ⊎_elim
          (λ first. rest_above 0 (omega arith) ∙ (let place : 0 + 1 ≡ p + 1 = omega arith in ap at place) ∙ next_is (omega arith) ∙ sym (heads ∙ rw (eq-eqb ends.head f (head_is first)) refl))
          (λ later. rest_below 0 (omega arith) ∙ linked.first (omega arith) ∙ sym (heads ∙ rw (ne_eqb ends.head f (head_other (omega arith))) refl))
          (cases_eq p 0)

      unlinked_last : 0 < ends.count - 1 → get_or rest (ends.count - 1 - 1) 0 ≡ tail'
      unlinked_last some = ⊎_elim
          (λ earlier. let place : ends.count - 1 - 1 + 1 ≡ ends.count - 1 = omega arith in
          rest_above (ends.count - 1 - 1) (omega arith) ∙ ap at place ∙ linked.last (omega arith) ∙ sym (tails ∙ rw (ne_eqb ends.tail f (tail_other earlier)) refl))
          (λ late. rest_below (ends.count - 1 - 1) (omega arith) ∙ previous_is (ends.count - 1 - 1) (omega arith) ∙ sym (tails ∙ rw (eq-eqb ends.tail f (tail_is (omega arith))) refl))
          (cases_lt (p + 1) ends.count)

      unlinked_within : (place : ℕ) → place < ends.count - 1 → get_or rest place 0 < length (set ahead f 0)
      unlinked_within place low = rw (length-set ahead f 0, length-ahead) (⊎_elim
          (λ early. rw (rest_below place early) (linked.within place (omega arith)))
          (λ late. rw (rest_above place late) (linked.within (place + 1) (omega arith)))
          (cases_lt place p))

      next_before : (place : ℕ) → place + 1 < p → get_or (set ahead f 0) (get_or rest place 0) 0 ≡ get_or rest (place + 1) 0
      next_before place early = rw (rest_below place (omega arith), rest_below (place + 1) early)
          (ahead_other (at place) (off place (omega arith) (omega arith)) (not_previous place (omega arith) (omega arith)) ∙ linked.next place (omega arith))

      next_here : (place : ℕ) → place + 1 < ends.count - 1 → place + 1 ≡ p → get_or (set ahead f 0) (get_or rest place 0) 0 ≡ get_or rest (place + 1) 0
      next_here place low here =
          let after : place + 1 + 1 ≡ p + 1 = omega arith in
          rw (rest_below place (omega arith), rest_above (place + 1) (omega arith)) (ahead_previous place here ∙ sym (ap at after ∙ next_is (omega arith)))

      next_past : (place : ℕ) → place + 1 < ends.count - 1 → p ≤ place → get_or (set ahead f 0) (get_or rest place 0) 0 ≡ get_or rest (place + 1) 0
      next_past place low past = rw (rest_above place past, rest_above (place + 1) (omega arith))
          (ahead_other (at (place + 1)) (off (place + 1) (omega arith) (omega arith)) (not_previous (place + 1) (omega arith) (omega arith)) ∙ linked.next (place + 1) (omega arith))

      unlinked_next : (place : ℕ) → place + 1 < ends.count - 1 → get_or (set ahead f 0) (get_or rest place 0) 0 ≡ get_or rest (place + 1) 0
      unlinked_next place low = ⊎_elim
          (λ early. next_before place early)
          (λ late. ⊎_elim (next_here place low) (λ other. next_past place low (omega arith)) (cases_eq (place + 1) p))
          (cases_lt (place + 1) p)

      previous_before : (place : ℕ) → place + 1 < p → get_or (set behind f 0) (get_or rest (place + 1) 0) 0 ≡ get_or rest place 0
      previous_before place early = rw (rest_below place (omega arith), rest_below (place + 1) early)
          (behind_other (at (place + 1)) (off (place + 1) (omega arith) (omega arith)) (not_next (place + 1) (omega arith) (omega arith)) ∙ linked.previous place (omega arith))

      previous_here : (place : ℕ) → place + 1 < ends.count - 1 → place + 1 ≡ p → get_or (set behind f 0) (get_or rest (place + 1) 0) 0 ≡ get_or rest place 0
      previous_here place low here =
          let after : place + 1 + 1 ≡ p + 1 = omega arith in
          rw (rest_below place (omega arith), rest_above (place + 1) (omega arith)) (ap (λ n. get_or (set behind f 0) (at n) 0) after ∙ behind_next (omega arith) ∙ sym (previous_is place here))

      previous_past : (place : ℕ) → place + 1 < ends.count - 1 → p ≤ place → get_or (set behind f 0) (get_or rest (place + 1) 0) 0 ≡ get_or rest place 0
      previous_past place low past = rw (rest_above place past, rest_above (place + 1) (omega arith))
          (behind_other (at (place + 1 + 1)) (off (place + 1 + 1) (omega arith) (omega arith)) (not_next (place + 1 + 1) (omega arith) (omega arith)) ∙ linked.previous (place + 1) (omega arith))

      unlinked_previous : (place : ℕ) → place + 1 < ends.count - 1 → get_or (set behind f 0) (get_or rest (place + 1) 0) 0 ≡ get_or rest place 0
      unlinked_previous place low = ⊎_elim
          (λ early. previous_before place early)
          (λ late. ⊎_elim (previous_here place low) (λ other. previous_past place low (omega arith)) (cases_eq (place + 1) p))
          (cases_lt (place + 1) p)

      pub IsLinked-unlink : IsLinked (set ahead f 0) (set behind f 0) (without items f) unlinked
      IsLinked-unlink = rw (without-place items f p (linked.once f) (omega (arith, linked.counted)) is) (record {
        counted = omega (arith, length-remove items p (omega (arith, linked.counted)), linked.counted);
        first = unlinked_first;
        last = unlinked_last;
        within = unlinked_within;
        once = λ g. subst (λ (list : List ℕ). count_of list g ≤ 1) (without-place items f p (linked.once f) (omega (arith, linked.counted)) is) (grind (arith, count_of-without items f g, linked.once g));
        next = unlinked_next;
        previous = unlinked_previous;
      })

      pub KeepsOthers-unlink : KeepsOthers items forward backward (set ahead f 0) (set behind f 0)
      KeepsOthers-unlink = record {
        forward = λ g away. ahead_other g (not_here p near g away is) (λ later. let q : p - 1 + 1 ≡ p = omega arith in not_here (p - 1) (omega arith) g away (previous_is (p - 1) q));
        backward = λ g away. behind_other g (not_here p near g away is) (λ more. not_here (p + 1) more g away (next_is more));
      }
        where
          not_here : (i : ℕ) → i < ends.count → (g : ℕ) → count_of items g ≡ 0 → {x : ℕ} → at i ≡ x → g ≢ x
          not_here i within g away {x} here same = let some = there forward backward items ends linked i within in let none : count_of items (at i) ≡ 0 = rw (here ∙ sym same) away in omega arith
