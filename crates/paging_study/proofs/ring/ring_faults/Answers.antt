use Rattle.std.proofs.Common.{◌≡◌, ◌<◌, ◌+◌, ◌-◌, ℕ, suc, List, [], ◌∷◌, ◌++◌, not, length, length-append, get_or, ap, sym, subst, ◌∙◌, inl, inr, arith}
use Rattle.std.proofs.lemmas.Bool.{cases_lt}
use Rattle.std.proofs.lemmas.List.{get_or_read}
use Rattle.paging_study.specs.Places.{page_at}
use Rattle.paging_study.specs.Intervals.{begins}
use Rattle.paging_study.specs.RingFaults.{holds}
use Rattle.paging_study.proofs.Begins.{begins-lt}
use Rattle.paging_study.proofs.Forward.{one_if-le}
use Rattle.paging_study.proofs.Hints.{AreHints, only_there, hints_step, faults_more, below_more}
use Rattle.paging_study.proofs.ring.ring_faults.Goals as goal

-- the place of the last reference to the page
first_is : (c : goal.After-row_known-1) → c.index.result.now ≡ begins (page_at c.args.pages.now.pages.items) (suc c.loop-i.i)
first_is c =
    let within : c.loop-i.i < length c.args.pages.now.firsts.items = omega (arith, ap length c.deref-page-items.ensures.value, c.args.pages.now.len) in
    get_or_read c.args.pages.now.firsts.items c.loop-i.i c.index.result.now within c.index.ensures 0 ∙ c.args.pages.now.begins c.loop-i.i within

pub last_slot-last-requires : goal.last_slot-last-requires
last_slot-last-requires c =
    omega (arith, first_is c, begins-lt (page_at c.args.pages.now.pages.items) c.loop-i.i, ap length c.deref.ensures.value, c.loop-i.invariant.len)

pub refer-slot-requires-clause-slot : goal.refer-slot-requires-clause-slot
refer-slot-requires-clause-slot c =
    let within : c.loop-i.i < length c.args.pages.now.firsts.items = omega (arith, ap length c.deref-page-items.ensures.value, c.args.pages.now.len) in
    let first : c.index.result.now ≡ begins (page_at c.args.pages.now.pages.items) (suc c.loop-i.i) =
    get_or_read c.args.pages.now.firsts.items c.loop-i.i c.index.result.now within c.index.ensures 0 ∙ c.args.pages.now.begins c.loop-i.i within in
    elim (cases_lt 0 c.index.result.now) [
      | inl some ↦
          let is : c.last_slot-last.result ≡ get_or c.loop-i.slots.items (c.index.result.now - 1) 0 =
          c.last_slot-last.ensures.some some ∙ ap (λ (xs : List ℕ). get_or xs (c.index.result.now - 1) 0) c.deref.ensures.value in
          let small : get_or c.loop-i.slots.items (c.index.result.now - 1) 0 < c.args.frames =
          c.loop-i.invariant.within (c.index.result.now - 1) (omega (arith, some, first, begins-lt (page_at c.args.pages.now.pages.items) c.loop-i.i)) in
          omega (arith, is, small)
      | inr none ↦
          let none' : c.index.result.now ≡ 0 = omega (arith, none) in
          omega (arith, c.last_slot-last.ensures.none none', c.requires.0)
    ]

pub refer-slot-requires-clause-only : goal.refer-slot-requires-clause-only
refer-slot-requires-clause-only c =
    let pages : List ℕ = c.args.pages.now.pages.items in
    let within : c.loop-i.i < length c.args.pages.now.firsts.items = omega (arith, ap length c.deref-page-items.ensures.value, c.args.pages.now.len) in
    let first : c.index.result.now ≡ begins (page_at c.args.pages.now.pages.items) (suc c.loop-i.i) =
    get_or_read c.args.pages.now.firsts.items c.loop-i.i c.index.result.now within c.index.ensures 0 ∙ c.args.pages.now.begins c.loop-i.i within in
    let at : c.loop-i.i ≡ suc c.loop-i.i - 1 = omega arith in
    let page_is : get_or c.deref-page-items.result.now c.loop-i.i 0 ≡ page_at pages (suc c.loop-i.i) =
    ap (λ (xs : List ℕ). get_or xs c.loop-i.i 0) c.deref-page-items.ensures.value ∙ ap (λ (k : ℕ). get_or pages k 0) at in
    only_there c.loop-i.ring.slots c.loop-i.slots.items (page_at pages) c.loop-i.i (get_or c.deref-page-items.result.now c.loop-i.i 0) c.index.result.now c.last_slot-last.result
    c.loop-i.invariant.hints page_is first
    (λ some. c.last_slot-last.ensures.some some ∙ ap (λ (xs : List ℕ). get_or xs (c.index.result.now - 1) 0) c.deref.ensures.value)

pub loop-i-preserved : goal.loop-i-preserved
loop-i-preserved c =
    let pages : List ℕ = c.args.pages.now.pages.items in
    let page : ℕ = get_or c.deref-page-items.result.now c.loop-i.i 0 in
    let page_here : get_or c.deref-page-items.result.now c.loop-i.i 0 ≡ get_or pages c.loop-i.i 0 = ap (λ (xs : List ℕ). get_or xs c.loop-i.i 0) c.deref-page-items.ensures.value in
    let at : c.loop-i.i ≡ suc c.loop-i.i - 1 = omega arith in
    let page_is : get_or c.deref-page-items.result.now c.loop-i.i 0 ≡ page_at pages (suc c.loop-i.i) = page_here ∙ ap (λ (k : ℕ). get_or pages k 0) at in
    let next : suc c.loop-i.i ≡ c.loop-i.i + 1 = omega arith in
    record {
      counted = faults_more c.args.frames c.loop-i.ring c.refer-slot.new.ring pages c.loop-i.i page c.refer-slot.result.1 c.loop-i.faults _
          (omega (arith, ap length c.deref-page-items.ensures.value)) page_here c.refer-slot.ensures.ring c.refer-slot.ensures.fault c.loop-i.invariant.counted;
      count = omega (arith, c.refer-slot.ensures.len, c.loop-i.invariant.count);
      few = omega (arith, c.refer-slot.ensures.fault, one_if-le (not (holds c.loop-i.ring page)), c.loop-i.invariant.few);
      len = ap length c.in_ok-push.ensures.items ∙ (length-append c.loop-i.slots.items (c.refer-slot.result.0 ∷ []) ∙ omega (arith, c.loop-i.invariant.len));
      within = λ n below. subst (λ (xs : List ℕ). get_or xs n 0 < c.args.frames) (sym {A = List ℕ} c.in_ok-push.ensures.items)
          (below_more c.loop-i.slots.items c.refer-slot.result.0 c.loop-i.i c.args.frames c.loop-i.invariant.len c.loop-i.invariant.within c.refer-slot.ensures.slot n below);
      hints = subst (λ (xs : List ℕ). AreHints c.refer-slot.new.ring.slots xs (page_at pages) (c.loop-i.i + 1)) (sym {A = List ℕ} c.in_ok-push.ensures.items)
          (subst (λ (m : ℕ). AreHints c.refer-slot.new.ring.slots (c.loop-i.slots.items ++ c.refer-slot.result.0 ∷ []) (page_at pages) m) next
          (hints_step c.loop-i.ring.slots c.refer-slot.new.ring.slots c.loop-i.slots.items (page_at pages) c.loop-i.i page c.refer-slot.result.0
          c.loop-i.invariant.hints c.loop-i.invariant.len page_is c.refer-slot.ensures.held));
    }
