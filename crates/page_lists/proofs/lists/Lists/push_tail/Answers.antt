use Rattle.std.proofs.Common.{ℕ, ◌+◌, [], ◌∷◌, ◌++◌, eqb, ◌≡◌, ◌∙◌, ap, set, arith}
use Rattle.page_lists.specs.Lists.{TwoLists, count_of}
use Rattle.page_lists.proofs.Counts.{count_of-push}
use Rattle.page_lists.specs.Links.{items_of}
use Rattle.page_lists.proofs.Marked.{one_if}
use Rattle.page_lists.proofs.Moves.{free-gain, modified-gain}
use Rattle.page_lists.proofs.TwoLists.{AreTwoLists-linked, length-list_of-lt}
use Rattle.page_lists.specs.declared.list_name.ListName.TheVariants.{Free, Modified}
use Rattle.page_lists.proofs.lists.Lists.push_tail.Goals as goal

-- a list that lacks a frame has room for it
pub append-requires : goal.append-requires
append-requires c =
    let below = rw (← c.self.view_is) at c.requires.below in
    let none = rw (← c.self.view_is) at c.requires.on_none in
    let valid = AreTwoLists-linked _ _ _ _ _ c.self.invariant in
    let short = length-list_of-lt _ valid Free c.args.f below none in
    record {
      below = below;
      cells = c.self.invariant.cells_count;
      linked = c.self.invariant.free_list.linked;
      absent = none.0;
      room = omega (arith, short, c.self.invariant.free_list.linked.counted, c.self.invariant.short);
    }

pub invariant_of-self : goal.invariant_of-self
invariant_of-self c =
    let below = rw (← c.self.view_is) at c.requires.below in
    let none = rw (← c.self.view_is) at c.requires.on_none in
    let items = items_of c.self.inside.forward.items c.self.inside.free in
    let add : (g : ℕ) → count_of (items ++ c.args.f ∷ []) g ≡ count_of items g + one_if (eqb c.args.f g) = λ g. count_of-push items c.args.f g in
    rw c.in-Free.is (free-gain _ _ _ _ _ c.self.invariant c.args.f below _ _ _ c.append.ensures.count c.append.ensures.same_count c.append.ensures.linked none c.append.ensures.others (λ g. ap (λ list. count_of list g) c.append.ensures.items ∙ add g)).0

pub returns-in-Free-clause-other : goal.returns-in-Free-clause-other
returns-in-Free-clause-other c =
    let below = rw (← c.self.view_is) at c.requires.below in
    let none = rw (← c.self.view_is) at c.requires.on_none in
    let items = items_of c.self.inside.forward.items c.self.inside.free in
    let add : (g : ℕ) → count_of (items ++ c.args.f ∷ []) g ≡ count_of items g + one_if (eqb c.args.f g) = λ g. count_of-push items c.args.f g in
    rw c.in-Free.is ((free-gain _ _ _ _ _ c.self.invariant c.args.f below _ _ _ c.append.ensures.count c.append.ensures.same_count c.append.ensures.linked none c.append.ensures.others (λ g. ap (λ list. count_of list g) c.append.ensures.items ∙ add g)).1 ∙ ap (λ (lists : TwoLists). lists.modified) c.self.view_is)

pub returns-in-Free-clause-cells : goal.returns-in-Free-clause-cells
returns-in-Free-clause-cells c =
    let below = rw (← c.self.view_is) at c.requires.below in
    let none = rw (← c.self.view_is) at c.requires.on_none in
    let items = items_of c.self.inside.forward.items c.self.inside.free in
    let add : (g : ℕ) → count_of (items ++ c.args.f ∷ []) g ≡ count_of items g + one_if (eqb c.args.f g) = λ g. count_of-push items c.args.f g in
    rw c.in-Free.is ((free-gain _ _ _ _ _ c.self.invariant c.args.f below _ _ _ c.append.ensures.count c.append.ensures.same_count c.append.ensures.linked none c.append.ensures.others (λ g. ap (λ list. count_of list g) c.append.ensures.items ∙ add g)).2 ∙ ap (λ (lists : TwoLists). set lists.cells c.args.f (0, 0)) c.self.view_is)

pub returns-in-Free-clause-valid : goal.returns-in-Free-clause-valid
returns-in-Free-clause-valid c = AreTwoLists-linked _ _ _ _ _ (invariant_of-self c)

-- a list that lacks a frame has room for it
pub append-requires-in-Modified : goal.append-requires-in-Modified
append-requires-in-Modified c =
    let below = rw (← c.self.view_is) at c.requires.below in
    let none = rw (← c.self.view_is) at c.requires.on_none in
    let valid = AreTwoLists-linked _ _ _ _ _ c.self.invariant in
    let short = length-list_of-lt _ valid Modified c.args.f below none in
    record {
      below = below;
      cells = c.self.invariant.cells_count;
      linked = c.self.invariant.modified_list.linked;
      absent = none.1;
      room = omega (arith, short, c.self.invariant.modified_list.linked.counted, c.self.invariant.short);
    }

pub invariant_of-self-in-Modified : goal.invariant_of-self-in-Modified
invariant_of-self-in-Modified c =
    let below = rw (← c.self.view_is) at c.requires.below in
    let none = rw (← c.self.view_is) at c.requires.on_none in
    let items = items_of c.self.inside.forward.items c.self.inside.modified in
    let add : (g : ℕ) → count_of (items ++ c.args.f ∷ []) g ≡ count_of items g + one_if (eqb c.args.f g) = λ g. count_of-push items c.args.f g in
    rw c.in-Modified.is (modified-gain _ _ _ _ _ c.self.invariant c.args.f below _ _ _ c.append-in-Modified.ensures.count c.append-in-Modified.ensures.same_count c.append-in-Modified.ensures.linked none c.append-in-Modified.ensures.others (λ g. ap (λ list. count_of list g) c.append-in-Modified.ensures.items ∙ add g)).0

pub returns-in-Modified-clause-other : goal.returns-in-Modified-clause-other
returns-in-Modified-clause-other c =
    let below = rw (← c.self.view_is) at c.requires.below in
    let none = rw (← c.self.view_is) at c.requires.on_none in
    let items = items_of c.self.inside.forward.items c.self.inside.modified in
    let add : (g : ℕ) → count_of (items ++ c.args.f ∷ []) g ≡ count_of items g + one_if (eqb c.args.f g) = λ g. count_of-push items c.args.f g in
    rw c.in-Modified.is ((modified-gain _ _ _ _ _ c.self.invariant c.args.f below _ _ _ c.append-in-Modified.ensures.count c.append-in-Modified.ensures.same_count c.append-in-Modified.ensures.linked none c.append-in-Modified.ensures.others (λ g. ap (λ list. count_of list g) c.append-in-Modified.ensures.items ∙ add g)).1 ∙ ap (λ (lists : TwoLists). lists.free) c.self.view_is)

pub returns-in-Modified-clause-cells : goal.returns-in-Modified-clause-cells
returns-in-Modified-clause-cells c =
    let below = rw (← c.self.view_is) at c.requires.below in
    let none = rw (← c.self.view_is) at c.requires.on_none in
    let items = items_of c.self.inside.forward.items c.self.inside.modified in
    let add : (g : ℕ) → count_of (items ++ c.args.f ∷ []) g ≡ count_of items g + one_if (eqb c.args.f g) = λ g. count_of-push items c.args.f g in
    rw c.in-Modified.is ((modified-gain _ _ _ _ _ c.self.invariant c.args.f below _ _ _ c.append-in-Modified.ensures.count c.append-in-Modified.ensures.same_count c.append-in-Modified.ensures.linked none c.append-in-Modified.ensures.others (λ g. ap (λ list. count_of list g) c.append-in-Modified.ensures.items ∙ add g)).2 ∙ ap (λ (lists : TwoLists). set lists.cells c.args.f (0, 0)) c.self.view_is)

pub returns-in-Modified-clause-valid : goal.returns-in-Modified-clause-valid
returns-in-Modified-clause-valid c = AreTwoLists-linked _ _ _ _ _ (invariant_of-self-in-Modified c)
