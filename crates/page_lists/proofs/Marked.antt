-- What keeps the marks, the lists and the lent cells of a memory in step, where one frame changes.
use Rattle.std.proofs.Common.{◌≡◌, ◌≢◌, ℕ, ◌+◌, ◌-◌, ◌≤◌, ◌<◌, Bool, cond, eqb, List, Option, Some, None, length, map, set, get_or, slice_get, refl, sym, ◌∙◌, ap, ap₂, subst, ⊎_elim, arith, length-set, get_or-set_same, get_or-set_other}
use Rattle.std.specs.List.{range_with_len}
use Rattle.std.proofs.lemmas.Bool.{cases_eq, cases_lt, eq-eqb, ne_eqb}
use Rattle.std.proofs.lemmas.List.FromFn.{length-map-range_with_len, get_or-map-range_with_len, fill_by_all}
use Rattle.std.proofs.lemmas.Option.{slice_get_within, slice_get-get_or, slice_get_past, get_or_from_slice_get}
use Rattle.page_lists.specs.declared.list_name.ListName.{ListName}
use Rattle.page_lists.specs.declared.list_name.ListName.TheVariants.{Free, Modified}
use Rattle.page_lists.specs.declared.ends.Ends.{Ends}
use Rattle.page_lists.specs.Lists.{other_of, count_of, without}
use Rattle.page_lists.specs.Links.{items_of, IsLinked, KeepsOthers, mark_of, is_marked, IsMarked, lent_cells, all_cells}
use Rattle.page_lists.proofs.Counts.{count_of-without}
use Rattle.page_lists.proofs.Following.{followed-linked, IsLinked-same, same_at}

abbrev pub one_if : Bool → ℕ
one_if b = cond b 1 0

-- a mark is of one list at most
pub marked_once : (mark : Option ListName) (name : ListName) → one_if (is_marked mark name) + one_if (is_marked mark (other_of name)) ≤ 1
marked_once None Free = omega arith
marked_once None Modified = omega arith
marked_once (Some Free) Free = omega arith
marked_once (Some Free) Modified = omega arith
marked_once (Some Modified) Free = omega arith
marked_once (Some Modified) Modified = omega arith

pub marked_none : (mark : Option ListName) (name : ListName) → one_if (is_marked mark name) ≡ 0 → one_if (is_marked mark (other_of name)) ≡ 0 → mark ≡ None
marked_none None name a b = refl
marked_none (Some Free) Free a b = absurd (omega arith)
marked_none (Some Free) Modified a b = absurd (omega arith)
marked_none (Some Modified) Free a b = absurd (omega arith)
marked_none (Some Modified) Modified a b = absurd (omega arith)

pub marked_some : (mark : Option ListName) (name : ListName) → one_if (is_marked mark name) ≡ 1 → mark ≡ Some name
marked_some None Free a = absurd (omega arith)
marked_some None Modified a = absurd (omega arith)
marked_some (Some Free) Free a = refl
marked_some (Some Free) Modified a = absurd (omega arith)
marked_some (Some Modified) Free a = absurd (omega arith)
marked_some (Some Modified) Modified a = refl

own_mark : (name : ListName) → (one_if (is_marked (Some name) name) ≡ 1) × (one_if (is_marked (Some name) (other_of name)) ≡ 0) × (one_if (is_marked None name) ≡ 0) × (one_if (is_marked None (other_of name)) ≡ 0)
own_mark Free = (refl, refl, refl, refl)
own_mark Modified = (refl, refl, refl, refl)

-- the mark of one frame changes, and its list in the same way
pub IsMarked-change : (forward backward forward' backward' : List ℕ) (marks : List (Option ListName)) (name : ListName) (ends ends' : Ends) (f : ℕ) (mark : Option ListName) → IsMarked forward backward marks name ends → f < length marks → IsLinked forward' backward' (items_of forward' ends') ends' → ((g : ℕ) → count_of (items_of forward' ends') g ≡ cond (eqb f g) (one_if (is_marked mark name)) (count_of (items_of forward ends) g)) → IsMarked forward' backward' (set marks f mark) name ends'
IsMarked-change forward backward forward' backward' marks name ends ends' f mark was below linked counts = record {
  linked = linked;
  marked = λ g. ⊎_elim
      (λ same. counts g ∙ rw (eq-eqb f g same) (rw (← same) (rw (get_or-set_same marks f mark None below) refl)))
      (λ other. counts g ∙ rw (ne_eqb f g other) (rw (get_or-set_other marks f g mark None (λ e. other (sym e))) (was.marked g)))
      (cases_eq f g);
}

lent-same : (mark : Option ListName) (x y x' y' : ℕ) → (mark ≡ None → (x' ≡ x) × (y' ≡ y)) → lent_cells mark x' y' ≡ lent_cells mark x y
lent-same None x y x' y' same = let both = same refl in ap₂ (λ (a b : ℕ). lent_cells None a b) both.0 both.1
lent-same (Some name) x y x' y' same = refl

pub all_cells-change : (forward backward forward' backward' : List ℕ) (marks marks' : List (Option ListName)) (f : ℕ) (v : ℕ × ℕ) → length forward' ≡ length forward → f < length forward → ((g : ℕ) → lent_cells (mark_of marks' g) (get_or forward' g 0) (get_or backward' g 0) ≡ cond (eqb f g) v (lent_cells (mark_of marks g) (get_or forward g 0) (get_or backward g 0))) → all_cells forward' backward' marks' ≡ set (all_cells forward backward marks) f v
all_cells-change forward backward forward' backward' marks marks' f v long below each =
    let n = length forward in
    let old : ℕ → ℕ × ℕ = λ g. lent_cells (mark_of marks g) (get_or forward g 0) (get_or backward g 0) in
    let new : ℕ → ℕ × ℕ = λ g. lent_cells (mark_of marks' g) (get_or forward' g 0) (get_or backward' g 0) in
    let cells : List (ℕ × ℕ) = map old (range_with_len 0 n) in
    let count : length cells ≡ n = length-map-range_with_len old 0 n in
    rw long (sym (fill_by_all new (set cells f v) n (0, 0) (length-set cells f v ∙ count)
    (λ k within. ⊎_elim
    (λ same. subst (λ (g : ℕ). get_or (set cells f v) g (0, 0) ≡ new g) same (get_or-set_same cells f v (0, 0) (rw count below) ∙ sym (each f ∙ rw (eq-eqb f f refl) refl)))
    (λ other. get_or-set_other cells f k v (0, 0) (λ e. other (sym e)) ∙ get_or-map-range_with_len old 0 n k k (0, 0) within (omega arith) ∙ sym (each k ∙ rw (ne_eqb f k other) refl))
    (cases_eq f k))))

pub all_cells-same : (forward backward forward' backward' : List ℕ) (marks marks' : List (Option ListName)) → length forward' ≡ length forward → ((g : ℕ) → lent_cells (mark_of marks' g) (get_or forward' g 0) (get_or backward' g 0) ≡ lent_cells (mark_of marks g) (get_or forward g 0) (get_or backward g 0)) → all_cells forward' backward' marks' ≡ all_cells forward backward marks
all_cells-same forward backward forward' backward' marks marks' long each =
    let n = length forward in
    let old : ℕ → ℕ × ℕ = λ g. lent_cells (mark_of marks g) (get_or forward g 0) (get_or backward g 0) in
    let new : ℕ → ℕ × ℕ = λ g. lent_cells (mark_of marks' g) (get_or forward' g 0) (get_or backward' g 0) in
    rw long (sym (fill_by_all new (map old (range_with_len 0 n)) n (0, 0) (length-map-range_with_len old 0 n)
    (λ k within. get_or-map-range_with_len old 0 n k k (0, 0) within (omega arith) ∙ sym (each k))))

-- the list of a name and the other one
module _ (forward backward : List ℕ) (marks : List (Option ListName)) (name : ListName) (ends others : Ends) (own : IsMarked forward backward marks name ends) (other : IsMarked forward backward marks (other_of name) others) (f : ℕ) (known : f < length marks) where
  abbrev items : List ℕ
  items = items_of forward ends

  abbrev away : List ℕ
  away = items_of forward others

  unlisted : (g : ℕ) → mark_of marks g ≡ None → (count_of items g ≡ 0) × (count_of away g ≡ 0)
  unlisted g none = let marked = own_mark name in (own.marked g ∙ rw none marked.2, other.marked g ∙ rw none marked.3)

  pub mark_absent : count_of items f ≡ 0 → count_of away f ≡ 0 → mark_of marks f ≡ None
  mark_absent a b = marked_none (mark_of marks f) name (sym (own.marked f) ∙ a) (sym (other.marked f) ∙ b)

  pub mark_present : count_of items f ≡ 1 → mark_of marks f ≡ Some name
  mark_present a = marked_some (mark_of marks f) name (sym (own.marked f) ∙ a)

  apart : (g : ℕ) → 0 < count_of away g → count_of items g ≡ 0
  apart g some = let once = marked_once (mark_of marks g) name in omega (arith, own.marked g, other.marked g)

  module _ (forward' backward' : List ℕ) (ends' : Ends) (long : length forward' ≡ length forward) (linked : IsLinked forward' backward' (items_of forward' ends') ends') where
    abbrev items' : List ℕ
    items' = items_of forward' ends'

    -- a frame on neither comes onto the list
    module _ (none : count_of items f ≡ 0) (off : count_of away f ≡ 0) (gains : (g : ℕ) → count_of items' g ≡ count_of items g + one_if (eqb f g)) (keeps : KeepsOthers items' forward backward forward' backward') where
      gained : (g : ℕ) → f ≢ g → count_of items' g ≡ count_of items g
      gained g other_frame = gains g ∙ rw (ne_eqb f g other_frame) (omega arith)

      pub IsMarked-gain : IsMarked forward' backward' (set marks f (Some name)) name ends'
      IsMarked-gain = IsMarked-change forward backward forward' backward' marks name ends ends' f (Some name) own known linked (λ g. ⊎_elim
          (λ same. gains g ∙ rw (eq-eqb f g same) (rw (← same) (rw ((own_mark name).0, none) refl)))
          (λ other_frame. gained g other_frame ∙ sym (rw (ne_eqb f g other_frame) refl))
          (cases_eq f g))

      clear : (g : ℕ) → 0 < count_of away g → (get_or forward' g 0 ≡ get_or forward g 0) × (get_or backward' g 0 ≡ get_or backward g 0)
      clear g some =
          let other_frame : f ≢ g = λ e. let here : count_of away g ≡ 0 = rw (← e) off in omega arith in
          let gone : count_of items' g ≡ 0 = gained g other_frame ∙ apart g some in
          (keeps.forward g gone, keeps.backward g gone)

      still : IsLinked forward' backward' away others
      still = IsLinked-same forward backward forward' backward' away others long clear other.linked

      pub other-gain : items_of forward' others ≡ away
      other-gain = followed-linked forward' backward' away others still

      pub IsMarked-other-gain : IsMarked forward' backward' (set marks f (Some name)) (other_of name) others
      IsMarked-other-gain = IsMarked-change forward backward forward' backward' marks (other_of name) others others f (Some name) other known
          (subst (λ list. IsLinked forward' backward' list others) (sym other-gain) still)
          (λ g. ap (λ list. count_of list g) other-gain ∙ ⊎_elim
          (λ same. rw (eq-eqb f g same) (rw (← same) (off ∙ sym (own_mark name).1)))
          (λ other_frame. sym (rw (ne_eqb f g other_frame) refl))
          (cases_eq f g))

      pub cells-gain : f < length forward → all_cells forward' backward' (set marks f (Some name)) ≡ set (all_cells forward backward marks) f (0, 0)
      cells-gain below = all_cells-change forward backward forward' backward' marks (set marks f (Some name)) f (0, 0) long below (λ g. ⊎_elim
          (λ same. rw (eq-eqb f g same) (rw (← same) (rw (get_or-set_same marks f (Some name) None known) refl)))
          (λ other_frame. rw (ne_eqb f g other_frame) (rw (get_or-set_other marks f g (Some name) None (λ e. other_frame (sym e))) (lent-same (mark_of marks g) _ _ _ _ (λ empty.
          let gone : count_of items' g ≡ 0 = gained g other_frame ∙ (unlisted g empty).0 in (keeps.forward g gone, keeps.backward g gone)))))
          (cases_eq f g))

    -- a frame of the list leaves it
    module _ (here : count_of items f ≡ 1) (is : items' ≡ without items f) (keeps : KeepsOthers items forward backward forward' backward') (first : get_or forward' f 0 ≡ 0) (second : get_or backward' f 0 ≡ 0) where
      pub IsMarked-lose : IsMarked forward' backward' (set marks f None) name ends'
      IsMarked-lose = IsMarked-change forward backward forward' backward' marks name ends ends' f None own known linked (λ g.
          ap (λ list. count_of list g) is ∙ count_of-without items f g ∙ sym (rw (own_mark name).2 refl))

      clear_off : (g : ℕ) → 0 < count_of away g → (get_or forward' g 0 ≡ get_or forward g 0) × (get_or backward' g 0 ≡ get_or backward g 0)
      clear_off g some = let gone = apart g some in (keeps.forward g gone, keeps.backward g gone)

      still_linked : IsLinked forward' backward' away others
      still_linked = IsLinked-same forward backward forward' backward' away others long clear_off other.linked

      pub other-lose : items_of forward' others ≡ away
      other-lose = followed-linked forward' backward' away others still_linked

      off : count_of away f ≡ 0
      off = let once = marked_once (mark_of marks f) name in omega (arith, own.marked f, other.marked f)

      pub IsMarked-other-lose : IsMarked forward' backward' (set marks f None) (other_of name) others
      IsMarked-other-lose = IsMarked-change forward backward forward' backward' marks (other_of name) others others f None other known
          (subst (λ list. IsLinked forward' backward' list others) (sym other-lose) still_linked)
          (λ g. ap (λ list. count_of list g) other-lose ∙ ⊎_elim
          (λ same. rw (eq-eqb f g same) (rw (← same) (off ∙ sym (own_mark name).3)))
          (λ other_frame. sym (rw (ne_eqb f g other_frame) refl))
          (cases_eq f g))

      pub cells-lose : all_cells forward' backward' (set marks f None) ≡ all_cells forward backward marks
      cells-lose = all_cells-same forward backward forward' backward' marks (set marks f None) long (λ g. ⊎_elim
          (λ same. subst (λ (x : ℕ). lent_cells (mark_of (set marks f None) x) (get_or forward' x 0) (get_or backward' x 0) ≡ lent_cells (mark_of marks x) (get_or forward x 0) (get_or backward x 0)) same
          (rw (get_or-set_same marks f None None known, mark_present here, first, second) refl))
          (λ other_frame. rw (get_or-set_other marks f g None None (λ e. other_frame (sym e))) (lent-same (mark_of marks g) _ _ _ _ (λ empty.
          let gone = (unlisted g empty).0 in (keeps.forward g gone, keeps.backward g gone))))
          (cases_eq f g))

  -- what stands after the frame
  next_early : (place : ℕ) → slice_get items place ≡ Some f → place + 1 < ends.count → cond (eqb ends.tail f) None (Some (get_or forward f 0)) ≡ slice_get items (place + 1)
  next_early place here early =
      let linked = own.linked in
      let is = get_or_from_slice_get items place f 0 here in
      let e : get_or items (place + 1) 0 ≡ get_or forward f 0 = sym (linked.next place early) ∙ ap (λ x. get_or forward x 0) is in
      rw (ne_eqb ends.tail f (other_end linked is)) (ap Some (sym e) ∙ sym (slice_get-get_or items (place + 1) 0 (omega (arith, own.linked.counted))))
    where
      other_end : IsLinked forward backward items ends → get_or items place 0 ≡ f → ends.tail ≢ f
      other_end linked is same = let e = same_at forward backward items ends linked place (ends.count - 1) (omega arith) (omega arith) (is ∙ sym (linked.last (omega arith) ∙ same)) in omega arith

  next_late : (place : ℕ) → slice_get items place ≡ Some f → ends.count ≤ place + 1 → cond (eqb ends.tail f) None (Some (get_or forward f 0)) ≡ slice_get items (place + 1)
  next_late place here late =
      let within = slice_get_within items place f here in
      let is = get_or_from_slice_get items place f 0 here in
      let last_place : ends.count - 1 ≡ place = omega (arith, own.linked.counted) in
      let some : 0 < ends.count = omega (arith, own.linked.counted) in
      let end : ends.tail ≡ f = sym (own.linked.last some) ∙ ap (λ n. get_or items n 0) last_place ∙ is in
      rw (eq-eqb ends.tail f end) (sym (slice_get_past items (place + 1) (omega (arith, own.linked.counted))))

  pub next-marked : (place : ℕ) → slice_get items place ≡ Some f → cond (eqb ends.tail f) None (Some (get_or forward f 0)) ≡ slice_get items (place + 1)
  next-marked place here = ⊎_elim (next_early place here) (next_late place here) (cases_lt (place + 1) ends.count)
