-- What linked lists are for callers: two lists without repeats, none longer than the memory.
use Rattle.std.proofs.Common.{◌≡◌, ℕ, ◌+◌, ◌<◌, cond, eqb, List, [], ◌∷◌, Option, Some, None, length, drop, slice_get, get_or, refl, sym, ◌∙◌, ⊎_elim, arith}
use Rattle.std.proofs.lemmas.Bool.{eqb-true, eq-eqb, cases_lt}
use Rattle.std.proofs.lemmas.List.{get_or_past}
use Rattle.page_lists.specs.declared.list_name.ListName.{ListName}
use Rattle.page_lists.specs.declared.list_name.ListName.TheVariants.{Free, Modified}
use Rattle.page_lists.specs.declared.ends.Ends.{Ends}
use Rattle.page_lists.specs.Lists.{TwoLists, list_of, count_of, without, IsOn, IsOnNone, AreTwoLists, IsNext}
use Rattle.std.proofs.lemmas.List.FromFn.{length-map-range_with_len, get_or-map-range_with_len}
use Rattle.page_lists.specs.Links.{lent_cells, items_of, mark_of, AreLinked, all_cells}
use Rattle.page_lists.proofs.Counts.{count_of-cons, count_of-same, length-once, found, without-absent}
use Rattle.page_lists.proofs.Marked.{marked_once, marked_some, next-marked}

module _ (forward backward : List ℕ) (marks : List (Option ListName)) (free modified : Ends) (linked : AreLinked forward backward marks free modified) where
  abbrev pub lists : TwoLists
  lists = record { frames = length forward; free = items_of forward free; modified = items_of forward modified; cells = all_cells forward backward marks }

  pub AreTwoLists-linked : AreTwoLists lists
  AreTwoLists-linked = record {
    below = λ g past. let none = get_or_past marks g None (omega (arith, linked.marks_count)) in
        (linked.free_list.marked g ∙ rw none refl, linked.modified_list.marked g ∙ rw none refl);
    once = λ g. let once = marked_once (mark_of marks g) Free in omega (arith, linked.free_list.marked g, linked.modified_list.marked g);
    zeros = zeros;
    each = length-map-range_with_len (λ g. lent_cells (mark_of marks g) (get_or forward g 0) (get_or backward g 0)) 0 (length forward);
  }
    where
      covered : (g : ℕ) (name : ListName) → mark_of marks g ≡ Some name → get_or (all_cells forward backward marks) g (0, 0) ≡ (0, 0)
      covered g name mark = ⊎_elim
          (λ within. get_or-map-range_with_len (λ x. lent_cells (mark_of marks x) (get_or forward x 0) (get_or backward x 0)) 0 (length forward) g g (0, 0) within (omega arith) ∙ rw mark refl)
          (λ past. get_or_past (all_cells forward backward marks) g (0, 0) (let long = length-map-range_with_len (λ x. lent_cells (mark_of marks x) (get_or forward x 0) (get_or backward x 0)) 0 (length forward) in omega arith))
          (cases_lt g (length forward))

      zeros : (name : ListName) (g : ℕ) → IsOn lists name g → get_or (all_cells forward backward marks) g (0, 0) ≡ (0, 0)
      zeros Free g on = covered g Free (marked_some (mark_of marks g) Free (sym (linked.free_list.marked g) ∙ on))
      zeros Modified g on = covered g Modified (marked_some (mark_of marks g) Modified (sym (linked.modified_list.marked g) ∙ on))

-- a list that lacks a frame of the memory is shorter than the memory
pub length-list_of-lt : (lists : TwoLists) → AreTwoLists lists → (name : ListName) (f : ℕ) → f < lists.frames → IsOnNone lists f → length (list_of lists name) < lists.frames
length-list_of-lt lists valid Free f below none = length-once (f ∷ lists.free) lists.frames
    (λ g past. grind (arith, count_of-cons f lists.free g, valid.below g past, eqb-true f g))
    (λ g. grind (arith, count_of-cons f lists.free g, valid.once g, eqb-true f g))
length-list_of-lt lists valid Modified f below none = length-once (f ∷ lists.modified) lists.frames
    (λ g past. grind (arith, count_of-cons f lists.modified g, valid.below g past, eqb-true f g))
    (λ g. grind (arith, count_of-cons f lists.modified g, valid.once g, eqb-true f g))

-- the head of a list is on it, and the list without it is the rest
pub IsOn-head : (lists : TwoLists) → AreTwoLists lists → (name : ListName) (f : ℕ) → slice_get (list_of lists name) 0 ≡ Some f → IsOn lists name f
IsOn-head lists valid Free f head = let here = found lists.free f 0 head in omega (arith, valid.once f)
IsOn-head lists valid Modified f head = let here = found lists.modified f 0 head in omega (arith, valid.once f)

pub without-head : (list : List ℕ) (f : ℕ) → count_of list f ≡ 1 → slice_get list 0 ≡ Some f → without list f ≡ drop 1 list
without-head [] f once head = refl
without-head (x ∷ list) f once head =
    let same : x ≡ f = cc in
    let absent : count_of list f ≡ 0 = omega (arith, count_of-same x list f same) in
    rw (eq-eqb x f same) (without-absent list f absent)

pub IsOn-below : (lists : TwoLists) → AreTwoLists lists → (name : ListName) (f : ℕ) → IsOn lists name f → f < lists.frames
IsOn-below lists valid name f on = ⊎_elim (λ within. within) (λ past. let none = valid.below f past in absurd (off name on none)) (cases_lt f lists.frames)
  where
    off : (name : ListName) → IsOn lists name f → IsOnNone lists f → ⊥
    off Free on none = omega (arith, none.0)
    off Modified on none = omega (arith, none.1)

-- what stands after a frame, by its mark
module _ (forward backward : List ℕ) (marks : List (Option ListName)) (free modified : Ends) (linked : AreLinked forward backward marks free modified) (f : ℕ) where
  nowhere : (name : ListName) (items : List ℕ) (place : ℕ) → count_of items f ≡ 0 → slice_get items place ≡ Some f → ⊥
  nowhere name items place none here = let some = found items f place here in omega arith

  pub IsNext-free : mark_of marks f ≡ Some Free → IsNext (lists forward backward marks free modified linked) f (cond (eqb free.tail f) None (Some (get_or forward f 0)))
  IsNext-free mark = record {
    after = λ name place here. elim name as (λ l. slice_get (list_of (lists forward backward marks free modified linked) l) place ≡ Some f → cond (eqb free.tail f) None (Some (get_or forward f 0)) ≡ slice_get (list_of (lists forward backward marks free modified linked) l) (place + 1)) [
      | Free ↦ next-marked forward backward marks Free free modified linked.free_list linked.modified_list f known place
      | Modified ↦ λ there. absurd (nowhere Modified _ place (linked.modified_list.marked f ∙ rw mark refl) there)
    ] here;
    alone = λ none. let one : count_of (items_of forward free) f ≡ 1 = linked.free_list.marked f ∙ rw mark refl in absurd (omega (arith, none.0, one));
  }
    where
      known : f < length marks
      known = ⊎_elim (λ within. within) (λ past. let none = get_or_past marks f None past in let e = sym mark ∙ none in cc) (cases_lt f (length marks))

  pub IsNext-modified : mark_of marks f ≡ Some Modified → IsNext (lists forward backward marks free modified linked) f (cond (eqb modified.tail f) None (Some (get_or forward f 0)))
  IsNext-modified mark = record {
    after = λ name place here. elim name as (λ l. slice_get (list_of (lists forward backward marks free modified linked) l) place ≡ Some f → cond (eqb modified.tail f) None (Some (get_or forward f 0)) ≡ slice_get (list_of (lists forward backward marks free modified linked) l) (place + 1)) [
      | Free ↦ λ there. absurd (nowhere Free _ place (linked.free_list.marked f ∙ rw mark refl) there)
      | Modified ↦ next-marked forward backward marks Modified modified free linked.modified_list linked.free_list f known place
    ] here;
    alone = λ none. let one : count_of (items_of forward modified) f ≡ 1 = linked.modified_list.marked f ∙ rw mark refl in absurd (omega (arith, none.1, one));
  }
    where
      known : f < length marks
      known = ⊎_elim (λ within. within) (λ past. let none = get_or_past marks f None past in let e = sym mark ∙ none in cc) (cases_lt f (length marks))

  pub IsNext-none : mark_of marks f ≡ None → IsNext (lists forward backward marks free modified linked) f None
  IsNext-none mark = record {
    after = λ name place here. elim name as (λ l. slice_get (list_of (lists forward backward marks free modified linked) l) place ≡ Some f → None ≡ slice_get (list_of (lists forward backward marks free modified linked) l) (place + 1)) [
      | Free ↦ λ there. absurd (nowhere Free _ place (linked.free_list.marked f ∙ rw mark refl) there)
      | Modified ↦ λ there. absurd (nowhere Modified _ place (linked.modified_list.marked f ∙ rw mark refl) there)
    ] here;
    alone = λ none. refl;
  }
