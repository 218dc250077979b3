-- The numbers on the stack are as many as were pushed.
use Rattle.std.proofs.Common.{◌≡◌, length, List, [], ◌∷◌, ◌++◌, ℕ, ap, ◌∙◌, arith}
use Rattle.std.specs.List.{range_with_len}
use Rattle.std.proofs.lemmas.List.FromFn.{length-range_with_len}
use Rattle.page_pool.proofs.Numbers.{range_pushed}
use Rattle.page_pool.proofs.pool.Pool.new.Goals as goal

counted : (items : List ℕ) (n : ℕ) → items ≡ range_with_len 0 n → length items ≡ n
counted items n e = ap (λ (xs : List ℕ). length xs) e ∙ length-range_with_len 0 n

pub push_reserved-requires : goal.push_reserved-requires
push_reserved-requires c =
    let v = c.loop-number.free in let long = counted v.items c.loop-number.number c.loop-number.invariant.0 in
    let len = v.ok.0 in let room = c.loop-number.invariant.1 in let more = c.loop-number-test.true in omega arith

pub loop-number-preserved : goal.loop-number-preserved
loop-number-preserved c =
    let room = c.loop-number.invariant.1 in let same = c.push_reserved.ensures.capacity in
    (c.push_reserved.ensures.items ∙ ap (λ (xs : List ℕ). xs ++ c.loop-number.number ∷ []) c.loop-number.invariant.0 ∙ range_pushed c.loop-number.number, omega arith)

pub returns-clause-left : goal.returns-clause-left
returns-clause-left c =
    let e = counted c.loop-number.free.items c.loop-number.number c.loop-number.invariant.0 in let low = c.loop-number.auto.number-end in omega arith
