-- The steps of tickets: those of a new name, one taken away, and one that comes back. Assumes `Logic`.
use Rattle.std.proofs.Common.{ℕ, zero, suc, ◌≡◌, ◌+◌, ◌<◌, ◌≤◌, List, [], ◌∷◌, ◌++◌, refl, sym, ap, subst, ◌∙◌, arith, ⊎_elim, inl, inr, ◌⊎◌}
use Rattle.std.specs.List.{range_with_len}
use mathlib.Core.Path.{fun_ext}
use seplogic.Ra.Ura.{Ura}
use base.Graph.{sum_in, sum_out}
use base.Logic.{SProp, ent, sep, ex, guard, emp, upd, via, comm∗, mono∗, ex_i, ex_e, ex∗, guard_i, upd_mono}
use denote.RawPtr.{Ptr}
use types.Logic.{Logic, sem}
use types.Owned.{basic, own_new, own_glued}
use Rattle.page_pool.specs.Tickets.{one_if_same, times, Held, sums, tickets, tickets_own}

-- ---- numbers
pub one_most : (n k : ℕ) → one_if_same n k ≤ 1
one_most zero zero = omega arith
one_most zero (suc k) = omega arith
one_most (suc n) zero = omega arith
one_most (suc n) (suc k) = one_most n k

pub one_here : (n : ℕ) → one_if_same n n ≡ 1
one_here zero = refl
one_here (suc n) = one_here n

one_below : (n k : ℕ) → k < n → one_if_same n k ≡ 0
one_below zero k l = absurd (omega arith)
one_below (suc n) zero l = refl
one_below (suc n) (suc k) l = one_below n k (omega arith)

one_or : (n k : ℕ) → (one_if_same n k ≡ 0) ⊎ (n ≡ k)
one_or zero zero = inr refl
one_or zero (suc k) = inl refl
one_or (suc n) zero = inl refl
one_or (suc n) (suc k) = ⊎_elim (λ e. inl e) (λ e. inr (ap suc e)) (one_or n k)

times_append : (ns : List ℕ) (n k : ℕ) → times ns k + times (n ∷ []) k ≡ times (ns ++ n ∷ []) k
times_append [] n k = omega arith
times_append (m ∷ ns) n k = let h = times_append ns n k in omega arith

range_below : (a m k : ℕ) → k < a → times (range_with_len a m) k ≡ 0
range_below a zero k l = refl
range_below a (suc m) k l = let h = range_below (a + 1) m k (omega arith) in let e = one_below a k l in omega arith

pub range_once : (a m k : ℕ) → times (range_with_len a m) k ≤ 1
range_once a zero k = omega arith
range_once a (suc m) k = let h = range_once (a + 1) m k in let o = one_most a k in
    ⊎_elim (λ e. omega arith) (λ e. let none = range_below (a + 1) m k (omega arith) in omega arith) (one_or a k)

module _ {M : Type 1} {𝓤 : Ura M} (𝓛 : Logic 𝓤) where
  abbrev Pr : Type 2
  Pr = SProp 𝓤

  abbrev ◌⊢◌ : Pr → Pr → Type 1
  P ⊢ Q = ent 𝓤 P Q

  abbrev ◌∗◌ : Pr → Pr → Pr
  P ∗ Q = sep 𝓤 P Q

  infix 26 ◌⊢◌
  infixr 35 ◌∗◌
  abbrev has : ℕ → Ptr → List ℕ → Pr
  has name start numbers = sem 𝓛 (tickets_own name start numbers)

  abbrev Once : List ℕ → Type 0
  Once ns = (k : ℕ) → times ns k ≤ 1

  module _ (name : ℕ) where
    abbrev own : Held → Pr
    own = 𝓛.A.own tickets name

    -- an element is the tickets of its start and its numbers
    shown : (a : Held) (start : Ptr) (ns : List ℕ) → a.0.0 ≡ start → a.0.1 ≡ times ns → own a ⊢ has name start ns
    unfolding tickets_own
    shown a start ns p e =
        let goal : Ptr × (ℕ → ℕ) → Type 1 = λ t. (h : (k : ℕ) → t.1 k ≤ 1) → own (t, h) ⊢ ex 𝓤 (λ (few : Once ns). own ((start, times ns), few)) in
        subst goal (λ i. ((sym p) i, (sym e) i)) (λ h. ex_i 𝓤 (λ (few : Once ns). own ((start, times ns), few)) h) a.1

    pub cut : (start : Ptr) (ns : List ℕ) (n : ℕ) → has name start (ns ++ n ∷ []) ⊢ has name start ns ∗ has name start (n ∷ [])
    unfolding tickets_own
    cut start ns n = ex_e 𝓤 (λ (few : Once (ns ++ n ∷ [])). own ((start, times (ns ++ n ∷ [])), few)) (λ few.
        let l : Held = ((start, times ns), λ k. let h = few k in let e = times_append ns n k in omega arith) in
        let r : Held = ((start, times (n ∷ [])), λ k. let h = few k in let e = times_append ns n k in omega arith) in
        let w : Held = ((start, times (ns ++ n ∷ [])), few) in
        via 𝓤 (own l ∗ own r) (𝓛.algebras.own_cut tickets name l r w (sum_in sums l r w (refl, (refl, times_append ns n))))
        (mono∗ 𝓤 {P = own l} {P' = has name start ns} {Q = own r} {Q' = has name start (n ∷ [])} (shown l start ns refl refl) (shown r start (n ∷ []) refl refl)))

    pub glue : (start start' : Ptr) (ns : List ℕ) (n : ℕ) → has name start ns ∗ has name start' (n ∷ []) ⊢ guard 𝓤 (start' ≡ start) (has name start (ns ++ n ∷ []))
    unfolding tickets_own
    glue start start' ns n = let G : Pr = guard 𝓤 (start' ≡ start) (has name start (ns ++ n ∷ [])) in
        ex∗ 𝓤 (λ (p : Once ns). own ((start, times ns), p)) (has name start' (n ∷ [])) (λ p. via 𝓤 (has name start' (n ∷ []) ∗ own ((start, times ns), p)) (comm∗ 𝓤 (own ((start, times ns), p)) (has name start' (n ∷ []))) (ex∗ 𝓤 (λ (q : Once (n ∷ [])). own ((start', times (n ∷ [])), q)) (own ((start, times ns), p)) (λ q.
        via 𝓤 (own ((start, times ns), p) ∗ own ((start', times (n ∷ [])), q)) (comm∗ 𝓤 (own ((start', times (n ∷ [])), q)) (own ((start, times ns), p))) (own_glued 𝓛 tickets name ((start, times ns), p) ((start', times (n ∷ [])), q) G (λ c m.
        let s = sum_out sums ((start, times ns), p) ((start', times (n ∷ [])), q) c m in
        via 𝓤 (has name start (ns ++ n ∷ [])) (shown c start (ns ++ n ∷ []) (sym s.0) (fun_ext (λ k. sym (s.1.1 k) ∙ times_append ns n k)))
        (guard_i 𝓤 (start' ≡ start) (has name start (ns ++ n ∷ [])) (s.1.0 ∙ sym s.0)))))))

    -- no number has two
    pub once : (start : Ptr) (ns : List ℕ) → has name start ns ⊢ guard 𝓤 (Once ns) (has name start ns)
    unfolding tickets_own
    once start ns = ex_e 𝓤 (λ (few : Once ns). own ((start, times ns), few)) (λ few. via 𝓤 (has name start ns) (shown ((start, times ns), few) start ns refl refl) (guard_i 𝓤 (Once ns) (has name start ns) few))

  -- a new name, with a ticket for each number
  pub begins : (start : Ptr) (ns : List ℕ) → Once ns → emp 𝓤 ⊢ 𝓛.H.⇛ (ex 𝓤 (λ (name : ℕ). has name start ns))
  begins start ns few = let whole : Held = ((start, times ns), few) in let F : ℕ → Pr = λ name. 𝓛.A.own tickets name whole in let G : ℕ → Pr = λ name. has name start ns in
      via 𝓤 (upd 𝓤 (ex 𝓤 F)) (own_new 𝓛 tickets whole)
      (via 𝓤 (upd 𝓤 (ex 𝓤 G)) (upd_mono 𝓤 {P = ex 𝓤 F} {Q = ex 𝓤 G} (ex_e 𝓤 F (λ name. via 𝓤 (has name start ns) (shown name whole start ns refl refl) (ex_i 𝓤 G name)))) (basic 𝓛 (ex 𝓤 G)))

  -- another of the same name comes in: it is of the same region
  pub merged : (name name' : ℕ) (start start' : Ptr) (ns : List ℕ) (n : ℕ) → name' ≡ name
      → has name start ns ∗ has name' start' (n ∷ []) ⊢ guard 𝓤 (start' ≡ start) (has name start (ns ++ n ∷ []))
  merged name name' start start' ns n same =
      subst (λ (m : ℕ). has name start ns ∗ has m start' (n ∷ []) ⊢ guard 𝓤 (start' ≡ start) (has name start (ns ++ n ∷ []))) (sym same) (glue name start start' ns n)
