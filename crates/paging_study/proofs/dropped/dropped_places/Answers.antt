use Rattle.std.proofs.Common.{◌≡◌, ◌+◌, ◌-◌, ℕ, suc, List, Bool, ◌&&◌, false, not, length, get_or, ltb, sym, ap, ◌∙◌, arith, eqb}
use Rattle.paging_study.specs.Places.{page_at, flag_at, any_place}
use Rattle.paging_study.specs.Intervals.{begins}
use Rattle.paging_study.specs.Dropped.{is_let_go}
use Rattle.paging_study.proofs.EndsByPlace.{ends_from, begins_before}
use Rattle.paging_study.proofs.LetGo.{end_there, pushed}
use Rattle.paging_study.proofs.dropped.dropped_places.Goals as goal

pub ends_of-requires-clause-before : goal.ends_of-requires-clause-before
ends_of-requires-clause-before c = begins_before c.args.pages.now.pages.items c.args.pages.now.firsts.items c.deref.result.now c.deref.ensures.value c.args.pages.now.begins

-- the place joins the list if an interval begins there that is not kept
pub loop-i-preserved : goal.loop-i-preserved
loop-i-preserved c =
    let pages : List ℕ = c.args.pages.now.pages.items in
    let i : ℕ = c.loop-i.i in
    let kept_here : Bool = get_or c.args.kept.now c.loop-i.i false in
    let ends : List ℕ = c.in_ok-ends.ends.items in
    let same_ends : c.deref-end-items.result.now ≡ ends = c.deref-end-items.ensures.value in
    let count : length ends ≡ length pages = c.in_ok-ends.ensures.len ∙ (ap length c.deref.ensures.value ∙ c.args.pages.now.len) in
    let are = ends_from pages c.args.pages.now.firsts.items c.deref.result.now ends c.deref.ensures.value c.args.pages.now.begins c.args.pages.now.len c.in_ok-ends.ensures.ends in
    let here = end_there (page_at pages) (length pages) (page_at ends) are i (omega (arith, ap length same_ends, count)) in
    let at : suc c.loop-i.i - 1 ≡ c.loop-i.i = omega arith in
    let end_is : get_or c.deref-end-items.result.now i 0 ≡ page_at ends (suc i) = ap (λ xs. get_or xs i 0) same_ends ∙ ap (λ j. get_or ends j 0) (sym at) in
    let is : (ltb 0 (get_or c.deref-end-items.result.now i 0) && not kept_here) ≡ is_let_go (page_at pages) (flag_at c.args.kept.now) (length pages) (suc i) =
    ap (λ e. ltb 0 e && not kept_here) end_is ∙ (ap (λ b. b && not kept_here) here
    ∙ ap (λ j. any_place (λ e. eqb (begins (page_at pages) e) (suc i)) (length pages) && not (get_or c.args.kept.now j false)) (sym at)) in
    pushed (is_let_go (page_at pages) (flag_at c.args.kept.now) (length pages)) i (c.loop-i.i + 1) (ltb 0 (get_or c.deref-end-items.result.now i 0) && not kept_here)
    c.loop-i.places.items c.push_if_dropped.new.places.items c.loop-i.invariant (omega arith) is c.in_ok-push_if_dropped.ensures
