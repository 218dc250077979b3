-- The count of a block: where it is found, and after it was set or added.
use Rattle.std.proofs.Common.{◌≡◌, ℕ, zero, suc, Bool, true, false, cond, List, [], ◌∷◌, ◌++◌, Some, length, slice_get, slice_set, refl, sym, ap, ◌∙◌, subst, arith}
use Rattle.std.proofs.lemmas.Bool.{false≢true}
use Rattle.vm_types.specs.Same.{same_block}
use Rattle.vm_types.specs.declared.names.BlockId.{BlockId}
use Rattle.pager_rules.proofs.Put.{blocks_equal}
use Rattle.shadow_history.specs.declared.count.Count.{Count}
use Rattle.shadow_history.specs.Counting.{AreOthers, IsCountSet, count_of}

-- the others without the first of them
others_after : (block : BlockId) (y : Count) (ys : List Count) (i : ℕ) → AreOthers block (y ∷ ys) (suc i) → AreOthers block ys i
others_after block y ys i others k x below is = others (suc k) x (omega (arith, below)) is

pub count_found : (block : BlockId) (xs : List Count) (i : ℕ) (x : Count) → AreOthers block xs i → slice_get xs i ≡ Some x → same_block block x.block ≡ true → count_of block xs ≡ x.faults
count_found block [] i x others is same = absurd cc
count_found block (y ∷ ys) zero x others is same =
    let e : y ≡ x = cc in
    subst (λ (z : Count). cond (same_block block z.block) z.faults (count_of block ys) ≡ x.faults) (sym e) (ap (λ (b : Bool). cond b x.faults (count_of block ys)) same)
count_found block (y ∷ ys) (suc i) x others is same =
    ap (λ (b : Bool). cond b y.faults (count_of block ys)) (others 0 y (omega arith) refl) ∙ count_found block ys i x (others_after block y ys i others) is same

pub count_absent : (block : BlockId) (xs : List Count) → AreOthers block xs (length xs) → count_of block xs ≡ 0
count_absent block [] others = refl
count_absent block (y ∷ ys) others =
    ap (λ (b : Bool). cond b y.faults (count_of block ys)) (others 0 y (omega arith) refl)
    ∙ count_absent block ys (λ k x below is. others (suc k) x (omega (arith, below)) is)

-- two tests of which one fails may change places
tests_swap : (p q : Bool) (m n r : ℕ) → (p ≡ true → q ≡ true → ⊥) → cond p m (cond q n r) ≡ cond q n (cond p m r)
tests_swap true true m n r apart = absurd (apart refl refl)
tests_swap true false m n r apart = refl
tests_swap false true m n r apart = refl
tests_swap false false m n r apart = refl

-- a block is not two blocks
not_both : (b block other : BlockId) → same_block block other ≡ false → same_block b other ≡ true → same_block b block ≡ true → ⊥
not_both b block other apart one two =
    let there : same_block block other ≡ true = subst (λ (d : BlockId). same_block d other ≡ true) (blocks_equal b block two) one in
    false≢true (sym apart ∙ there)

-- in place of a count of the block, another of it
replaced : (b block other : BlockId) (m n r : ℕ) → same_block block other ≡ true → (p : Bool) → same_block b block ≡ p → cond p m r ≡ cond p m (cond (same_block b other) n r)
replaced b block other m n r same true is = refl
replaced b block other m n r same false is =
    let e : block ≡ other = blocks_equal block other same in
    sym (ap (λ (q : Bool). cond q n r) (sym (ap (same_block b) e) ∙ is))

pub count_replaced : (block : BlockId) (faults : ℕ) (xs : List Count) (i : ℕ) (x : Count) → AreOthers block xs i → slice_get xs i ≡ Some x → same_block block x.block ≡ true
    → IsCountSet block faults xs (slice_set xs i (record { block = block; faults = faults }))
count_replaced block faults [] i x others is same b = absurd cc
count_replaced block faults (y ∷ ys) zero x others is same b =
    let e : y ≡ x = cc in
    let there : same_block block y.block ≡ true = subst (λ (z : Count). same_block block z.block ≡ true) (sym e) same in
    replaced b block y.block faults y.faults (count_of b ys) there (same_block b block) refl
count_replaced block faults (y ∷ ys) (suc i) x others is same b =
    let apart : same_block block y.block ≡ false = others 0 y (omega arith) refl in
    ap (λ (n : ℕ). cond (same_block b y.block) y.faults n) (count_replaced block faults ys i x (others_after block y ys i others) is same b)
    ∙ tests_swap (same_block b y.block) (same_block b block) y.faults faults (count_of b ys) (not_both b block y.block apart)

pub count_added : (block : BlockId) (faults : ℕ) (xs : List Count) → AreOthers block xs (length xs) → IsCountSet block faults xs (xs ++ record { block = block; faults = faults } ∷ [])
count_added block faults [] others b = refl
count_added block faults (y ∷ ys) others b =
    let apart : same_block block y.block ≡ false = others 0 y (omega arith) refl in
    ap (λ (n : ℕ). cond (same_block b y.block) y.faults n) (count_added block faults ys (λ k x below is. others (suc k) x (omega (arith, below)) is) b)
    ∙ tests_swap (same_block b y.block) (same_block b block) y.faults faults (count_of b ys) (not_both b block y.block apart)
