-- A range of pages of a process, one page after another.
use Rattle.std.proofs.Common.{◌≡◌, ℕ, ◌+◌, Bool, true, false, cond, nat_eq, nat_le, nat_lt, refl, ap, subst, arith}
use Rattle.std.specs.Prelude.{◌&&◌}
use Rattle.std.proofs.lemmas.Bool.{and_from, and_parts, eqb-true, eqb-false, le-leb, leb-true, lt-ltb, ltb-true, ltb-false}
use Rattle.vm_types.specs.PagePlaces.{changed_at}
use Rattle.pager_model.specs.FlatService.{in_range}
use Rattle.pager_model.specs.Maps.{page_number}
use Rattle.state_fits.specs.Serving.{ranged}

none_inside : (address w : ℕ) → in_range address 0 w ≡ false
none_inside address w = go (in_range address 0 w) refl
  where
    go : (b : Bool) → in_range address 0 w ≡ b → in_range address 0 w ≡ false
    go false e = e
    go true e = let both = and_parts (nat_le (page_number address) w) (nat_lt w (page_number address + 0)) e in let less = ltb-true _ _ both.1 in let least = leb-true _ _ both.0 in absurd (omega (arith, less, least))

-- of no pages nothing has changed
pub ranged_none : {X : Type 0} (change : X → X) (p address : ℕ) (f : ℕ → ℕ → X) (q w : ℕ) → ranged change p address 0 f q w ≡ f q w
ranged_none change p address f q w = go (nat_eq p q)
  where
    go : (c : Bool) → cond (c && in_range address 0 w) (change (f q w)) (f q w) ≡ f q w
    go false = refl
    go true = ap (λ (b : Bool). cond b (change (f q w)) (f q w)) (none_inside address w)

module _ (p address i v : ℕ) (is : page_number address + i ≡ v) where
  -- the page behind the range isn't of it, but is of the range with one page more
  pub beyond : in_range address i v ≡ false
  beyond = go (in_range address i v) refl
    where
      go : (c : Bool) → in_range address i v ≡ c → in_range address i v ≡ false
      go false e = e
      go true e = let less = ltb-true v (page_number address + i) (and_parts (nat_le (page_number address) v) _ e).1 in absurd (omega (arith, less, is))

  last : in_range address (i + 1) v ≡ true
  last = and_from _ _ (le-leb (page_number address) v (omega (arith, is))) (lt-ltb v (page_number address + (i + 1)) (omega (arith, is)))

  others : (w : ℕ) → (v ≡ w → ⊥) → in_range address (i + 1) w ≡ in_range address i w
  others w apart = ap (λ (c : Bool). nat_le (page_number address) w && c) (go (nat_lt w (page_number address + (i + 1))) (nat_lt w (page_number address + i)) refl refl)
    where
      go : (c d : Bool) → nat_lt w (page_number address + (i + 1)) ≡ c → nat_lt w (page_number address + i) ≡ d → c ≡ d
      go true true e k = refl
      go false false e k = refl
      go true false e k = let less = ltb-true _ _ e in let most = ltb-false _ _ k in absurd (apart (omega (arith, less, most, is)))
      go false true e k = let most = ltb-false _ _ e in let less = ltb-true _ _ k in absurd (omega (arith, less, most))

  module _ {X : Type 0} (change : X → X) (f : ℕ → ℕ → X) where
    pub ranged_next : ranged change p address i f p v ≡ f p v
    ranged_next = go (nat_eq p p)
      where
        go : (c : Bool) → cond (c && in_range address i v) (change (f p v)) (f p v) ≡ f p v
        go false = refl
        go true = ap (λ (b : Bool). cond b (change (f p v)) (f p v)) beyond

    -- one page more
    pub ranged_more : (q w : ℕ) → ranged change p address (i + 1) f q w ≡ changed_at (ranged change p address i f) p v (change (f p v)) q w
    ranged_more q w = go (nat_eq p q) refl (nat_eq v w) refl
      where
        go : (c : Bool) → nat_eq p q ≡ c → (d : Bool) → nat_eq v w ≡ d
            → cond (c && in_range address (i + 1) w) (change (f q w)) (f q w) ≡ cond (c && d) (change (f p v)) (cond (c && in_range address i w) (change (f q w)) (f q w))
        go false e d k = refl
        go true e false k = ap (λ (b : Bool). cond b (change (f q w)) (f q w)) (others w (eqb-false v w k))
        go true e true k =
            subst (λ (r : ℕ). cond (in_range address (i + 1) w) (change (f r w)) (f r w) ≡ change (f p v)) (eqb-true p q e)
            (subst (λ (u : ℕ). cond (in_range address (i + 1) u) (change (f p u)) (f p u) ≡ change (f p v)) (eqb-true v w k) (ap (λ (b : Bool). cond b (change (f p v)) (f p v)) last))
