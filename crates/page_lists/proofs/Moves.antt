-- What a memory's linked lists are once a frame came onto a list or left it, or its cells were written.
use Rattle.std.proofs.Common.{◌≡◌, ◌≢◌, ℕ, ◌+◌, ◌<◌, eqb, List, Option, Some, None, length, set, get_or, refl, sym, ◌∙◌, ap, subst, ⊎_elim, arith, length-set, get_or-set_same, get_or-set_other}
use Rattle.std.proofs.lemmas.Bool.{cases_eq, eq-eqb, ne_eqb}
use Rattle.std.proofs.lemmas.List.FromFn.{get_or-map-range_with_len}
use Rattle.page_lists.specs.declared.list_name.ListName.{ListName}
use Rattle.page_lists.specs.declared.list_name.ListName.TheVariants.{Free, Modified}
use Rattle.page_lists.specs.declared.ends.Ends.{Ends}
use Rattle.page_lists.specs.Lists.{count_of, without}
use Rattle.page_lists.specs.Links.{items_of, IsLinked, KeepsOthers, mark_of, IsMarked, AreLinked, lent_cells, all_cells}
use Rattle.page_lists.proofs.Following.{followed-linked, IsLinked-same}
use Rattle.page_lists.proofs.Marked.{one_if, mark_absent, all_cells-change, IsMarked-gain, IsMarked-other-gain, other-gain, cells-gain, IsMarked-lose, IsMarked-other-lose, other-lose, cells-lose}

module _ (forward backward : List ℕ) (marks : List (Option ListName)) (free modified : Ends) (was : AreLinked forward backward marks free modified) (f : ℕ) (below : f < length forward) where
  known : f < length marks
  known = omega (arith, was.marks_count)

  module _ (forward' backward' : List ℕ) (ends' : Ends) (long : length forward' ≡ length forward) (same : length backward' ≡ length backward) (linked : IsLinked forward' backward' (items_of forward' ends') ends') where
    made : (mark : Option ListName) (free' modified' : Ends) → IsMarked forward' backward' (set marks f mark) Free free' → IsMarked forward' backward' (set marks f mark) Modified modified' → AreLinked forward' backward' (set marks f mark) free' modified'
    made mark free' modified' one two = record {
      cells_count = omega (arith, was.cells_count);
      marks_count = length-set marks f mark ∙ was.marks_count ∙ sym long;
      short = rw long was.short;
      free_list = one;
      modified_list = two;
    }

    module _ (none : (count_of (items_of forward free) f ≡ 0) × (count_of (items_of forward modified) f ≡ 0)) (keeps : KeepsOthers (items_of forward' ends') forward backward forward' backward') where
      -- a frame on neither list comes onto the free one
      pub free-gain : ((g : ℕ) → count_of (items_of forward' ends') g ≡ count_of (items_of forward free) g + one_if (eqb f g)) → AreLinked forward' backward' (set marks f (Some Free)) ends' modified × (items_of forward' modified ≡ items_of forward modified) × (all_cells forward' backward' (set marks f (Some Free)) ≡ set (all_cells forward backward marks) f (0, 0))
      free-gain gains = (
        made (Some Free) ends' modified
            (IsMarked-gain forward backward marks Free free modified was.free_list was.modified_list f known forward' backward' ends' long linked none.0 none.1 gains keeps)
            (IsMarked-other-gain forward backward marks Free free modified was.free_list was.modified_list f known forward' backward' ends' long linked none.0 none.1 gains keeps),
        other-gain forward backward marks Free free modified was.free_list was.modified_list f known forward' backward' ends' long linked none.0 none.1 gains keeps,
        cells-gain forward backward marks Free free modified was.free_list was.modified_list f known forward' backward' ends' long linked none.0 none.1 gains keeps below,
      )

      -- or onto the modified one
      pub modified-gain : ((g : ℕ) → count_of (items_of forward' ends') g ≡ count_of (items_of forward modified) g + one_if (eqb f g)) → AreLinked forward' backward' (set marks f (Some Modified)) free ends' × (items_of forward' free ≡ items_of forward free) × (all_cells forward' backward' (set marks f (Some Modified)) ≡ set (all_cells forward backward marks) f (0, 0))
      modified-gain gains = (
        made (Some Modified) free ends'
            (IsMarked-other-gain forward backward marks Modified modified free was.modified_list was.free_list f known forward' backward' ends' long linked none.1 none.0 gains keeps)
            (IsMarked-gain forward backward marks Modified modified free was.modified_list was.free_list f known forward' backward' ends' long linked none.1 none.0 gains keeps),
        other-gain forward backward marks Modified modified free was.modified_list was.free_list f known forward' backward' ends' long linked none.1 none.0 gains keeps,
        cells-gain forward backward marks Modified modified free was.modified_list was.free_list f known forward' backward' ends' long linked none.1 none.0 gains keeps below,
      )

    module _ (first : get_or forward' f 0 ≡ 0) (second : get_or backward' f 0 ≡ 0) where
      -- a frame leaves the free list
      pub free-lose : count_of (items_of forward free) f ≡ 1 → items_of forward' ends' ≡ without (items_of forward free) f → KeepsOthers (items_of forward free) forward backward forward' backward' → AreLinked forward' backward' (set marks f None) ends' modified × (items_of forward' modified ≡ items_of forward modified) × (all_cells forward' backward' (set marks f None) ≡ all_cells forward backward marks)
      free-lose here is keeps = (
        made None ends' modified
            (IsMarked-lose forward backward marks Free free modified was.free_list was.modified_list f known forward' backward' ends' long linked here is keeps first second)
            (IsMarked-other-lose forward backward marks Free free modified was.free_list was.modified_list f known forward' backward' ends' long linked here is keeps first second),
        other-lose forward backward marks Free free modified was.free_list was.modified_list f known forward' backward' ends' long linked here is keeps first second,
        cells-lose forward backward marks Free free modified was.free_list was.modified_list f known forward' backward' ends' long linked here is keeps first second,
      )

      -- or the modified one
      pub modified-lose : count_of (items_of forward modified) f ≡ 1 → items_of forward' ends' ≡ without (items_of forward modified) f → KeepsOthers (items_of forward modified) forward backward forward' backward' → AreLinked forward' backward' (set marks f None) free ends' × (items_of forward' free ≡ items_of forward free) × (all_cells forward' backward' (set marks f None) ≡ all_cells forward backward marks)
      modified-lose here is keeps = (
        made None free ends'
            (IsMarked-other-lose forward backward marks Modified modified free was.modified_list was.free_list f known forward' backward' ends' long linked here is keeps first second)
            (IsMarked-lose forward backward marks Modified modified free was.modified_list was.free_list f known forward' backward' ends' long linked here is keeps first second),
        other-lose forward backward marks Modified modified free was.modified_list was.free_list f known forward' backward' ends' long linked here is keeps first second,
        cells-lose forward backward marks Modified modified free was.modified_list was.free_list f known forward' backward' ends' long linked here is keeps first second,
      )

  -- the cells of a frame on neither list are written
  module _ (none : (count_of (items_of forward free) f ≡ 0) × (count_of (items_of forward modified) f ≡ 0)) (first second : ℕ) where
    abbrev ahead : List ℕ
    ahead = set forward f first

    abbrev behind : List ℕ
    behind = set backward f second

    listed : (ends : Ends) → IsLinked forward backward (items_of forward ends) ends → count_of (items_of forward ends) f ≡ 0 → IsLinked ahead behind (items_of forward ends) ends
    listed ends linked off = IsLinked-same forward backward ahead behind (items_of forward ends) ends (length-set forward f first)
        (λ g some. let other : g ≢ f = λ e. let gone : count_of (items_of forward ends) g ≡ 0 = rw e off in omega arith in
        (get_or-set_other forward f g first 0 other, get_or-set_other backward f g second 0 other)) linked

    kept : (ends : Ends) → IsLinked forward backward (items_of forward ends) ends → count_of (items_of forward ends) f ≡ 0 → items_of ahead ends ≡ items_of forward ends
    kept ends linked off = followed-linked ahead behind (items_of forward ends) ends (listed ends linked off)

    marked : (name : ListName) (ends : Ends) → IsMarked forward backward marks name ends → count_of (items_of forward ends) f ≡ 0 → IsMarked ahead behind marks name ends
    marked name ends own off = record {
      linked = subst (λ list. IsLinked ahead behind list ends) (sym (kept ends own.linked off)) (listed ends own.linked off);
      marked = λ g. ap (λ list. count_of list g) (kept ends own.linked off) ∙ own.marked g;
    }

    pub free-written : items_of ahead free ≡ items_of forward free
    free-written = kept free was.free_list.linked none.0

    pub modified-written : items_of ahead modified ≡ items_of forward modified
    modified-written = kept modified was.modified_list.linked none.1

    pub AreLinked-written : AreLinked ahead behind marks free modified
    AreLinked-written = record {
      cells_count = length-set backward f second ∙ was.cells_count ∙ sym (length-set forward f first);
      marks_count = was.marks_count ∙ sym (length-set forward f first);
      short = rw (length-set forward f first) was.short;
      free_list = marked Free free was.free_list none.0;
      modified_list = marked Modified modified was.modified_list none.1;
    }

    pub cells-written : all_cells ahead behind marks ≡ set (all_cells forward backward marks) f (first, second)
    cells-written =
        let empty = mark_absent forward backward marks Free free modified was.free_list was.modified_list f known none.0 none.1 in
        let within : f < length backward = omega (arith, was.cells_count) in
        all_cells-change forward backward ahead behind marks marks f (first, second) (length-set forward f first) below (λ g. ⊎_elim
        (λ same. rw (eq-eqb f g same) (rw (← same) (rw (empty, get_or-set_same forward f first 0 below, get_or-set_same backward f second 0 within) refl)))
        (λ other. rw (ne_eqb f g other) (rw (get_or-set_other forward f g first 0 (λ e. other (sym e)), get_or-set_other backward f g second 0 (λ e. other (sym e))) refl))
        (cases_eq f g))

  -- the cells of a frame on neither list are its links
  pub lent-cells : (count_of (items_of forward free) f ≡ 0) × (count_of (items_of forward modified) f ≡ 0) → get_or (all_cells forward backward marks) f (0, 0) ≡ (get_or forward f 0, get_or backward f 0)
  lent-cells none =
      let empty = mark_absent forward backward marks Free free modified was.free_list was.modified_list f known none.0 none.1 in
      get_or-map-range_with_len (λ g. lent_cells (mark_of marks g) (get_or forward g 0) (get_or backward g 0)) 0 (length forward) f f (0, 0) below (omega arith) ∙ rw empty refl
