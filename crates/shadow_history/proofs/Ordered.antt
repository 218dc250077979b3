-- The flights of a seat, in the order in which they were begun.
use Rattle.std.proofs.Common.{◌≡◌, ℕ, Bool, true, false, cond, not, nat_eq, List, [], ◌∷◌, ◌++◌, None, Some, filter, reverse, refl, sym, ap, ◌∙◌}
use Rattle.std.proofs.lemmas.List.{append-nil, reverse-append}
use Rattle.std.proofs.lemmas.List.Elements.{filter-append}
use Rattle.std.proofs.lemmas.Option.{none-some, same_Some}
use Rattle.vm_journal.specs.declared.entry.What.{What}
use Rattle.vm_journal.specs.declared.entry.What.TheVariants as what
use Rattle.pager_rules.proofs.Basics.{nat_eq_refl}
use Rattle.pager_model.specs.Flights.{Flight, begun_by, flights_with, without_flight}
use Rattle.pager_model.specs.Transfers.{is_by}
use Rattle.shadow_history.specs.Landed.{landed_flight}

reverse_cons : {X : Type 0} (x : X) (xs : List X) → reverse (x ∷ xs) ≡ reverse xs ++ x ∷ []
reverse_cons x xs = reverse-append (x ∷ []) xs

filter_reverse : {X : Type 0} (p : X → Bool) (xs : List X) → filter p (reverse xs) ≡ reverse (filter p xs)
filter_reverse p [] = refl
filter_reverse {X} p (x ∷ xs) =
    ap (filter p) (reverse_cons x xs)
    ∙ (filter-append p (reverse xs) (x ∷ []) ∙ (ap (λ (ys : List X). ys ++ filter p (x ∷ [])) (filter_reverse p xs) ∙ last (p x)))
  where
    last : (b : Bool) → reverse (filter p xs) ++ cond b (x ∷ []) [] ≡ reverse (cond b (x ∷ filter p xs) (filter p xs))
    last true = sym (reverse_cons x (filter p xs))
    last false = append-nil (reverse (filter p xs))

filter_swap : {X : Type 0} (p q : X → Bool) (xs : List X) → filter p (filter q xs) ≡ filter q (filter p xs)
filter_swap p q [] = refl
filter_swap {X} p q (x ∷ xs) = go (p x) (q x) refl refl (filter_swap p q xs)
  where
    go : (a b : Bool) → p x ≡ a → q x ≡ b → filter p (filter q xs) ≡ filter q (filter p xs) → filter p (cond (q x) (x ∷ filter q xs) (filter q xs)) ≡ filter q (cond (p x) (x ∷ filter p xs) (filter p xs))
    go true true pe qe rest = simp (pe, qe) (ap (λ (ys : List X). x ∷ ys) rest)
    go true false pe qe rest = simp (pe, qe) rest
    go false true pe qe rest = simp (pe, qe) rest
    go false false pe qe rest = simp (pe, qe) rest

module _ (number seat : ℕ) (flights : List Flight) where
  abbrev own : List Flight
  own = reverse (filter (is_by seat) flights)

  abbrev after : What → List Flight
  after w = reverse (filter (is_by seat) (flights_with number seat w flights))

  one_more : (x : Flight) → x.seat ≡ seat → own ++ x ∷ [] ≡ reverse (filter (is_by seat) (x ∷ flights))
  one_more x by =
      sym (reverse_cons x (filter (is_by seat) flights))
      ∙ ap (λ (b : Bool). reverse (cond b (x ∷ filter (is_by seat) flights) (filter (is_by seat) flights))) (sym (ap (λ (s : ℕ). nat_eq s seat) by ∙ nat_eq_refl seat))

  one_fewer : (k : ℕ) → without_flight k own ≡ reverse (filter (is_by seat) (without_flight k flights))
  one_fewer k =
      filter_reverse (λ (x : Flight). not (nat_eq x.start k)) (filter (is_by seat) flights)
      ∙ ap reverse (filter_swap (λ (x : Flight). not (nat_eq x.start k)) (is_by seat) flights)

  begun_is : (x y : Flight) → Some x ≡ Some y → y.seat ≡ seat → own ++ x ∷ [] ≡ reverse (filter (is_by seat) (y ∷ flights))
  begun_is x y is by = ap (λ (z : Flight). own ++ z ∷ []) (same_Some x y is) ∙ one_more y by

  landed_is : (k j : ℕ) → Some k ≡ Some j → without_flight k own ≡ reverse (filter (is_by seat) (without_flight j flights))
  landed_is k j is = one_fewer k ∙ ap (λ (n : ℕ). reverse (filter (is_by seat) (without_flight n flights))) (same_Some k j is)

  -- the seat begins a flight
  pub with_begun : (w : What) (x : Flight) → Some x ≡ begun_by number seat w → own ++ x ∷ [] ≡ after w
  with_begun (what.In f b r) x is = begun_is x _ is refl
  with_begun (what.Out f b) x is = begun_is x _ is refl
  with_begun other x is = absurd (none-some x (sym is))

  -- one lands
  pub with_landed : (w : What) (k : ℕ) → None ≡ begun_by number seat w → Some k ≡ landed_flight w → without_flight k own ≡ after w
  with_landed (what.In f b r) k none is = absurd (none-some _ none)
  with_landed (what.Out f b) k none is = absurd (none-some _ none)
  with_landed (what.InOk f j) k none is = landed_is k j is
  with_landed (what.InFail f j c d) k none is = landed_is k j is
  with_landed (what.OutOk f j) k none is = landed_is k j is
  with_landed (what.OutFail f j c d) k none is = landed_is k j is
  with_landed other k none is = absurd (none-some k (sym is))

  -- neither
  pub with_neither : (w : What) → None ≡ begun_by number seat w → None ≡ landed_flight w → own ≡ after w
  with_neither (what.In f b r) none other = absurd (none-some _ none)
  with_neither (what.Out f b) none other = absurd (none-some _ none)
  with_neither (what.InOk f j) none other = absurd (none-some _ other)
  with_neither (what.InFail f j c d) none other = absurd (none-some _ other)
  with_neither (what.OutOk f j) none other = absurd (none-some _ other)
  with_neither (what.OutFail f j c d) none other = absurd (none-some _ other)
  with_neither neither none other = refl
