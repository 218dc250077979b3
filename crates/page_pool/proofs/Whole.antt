-- A region is its parts, and parts that are as many as the region has are all of it. Assumes `Logic`.
use Rattle.std.proofs.Common.{ℕ, zero, suc, ◌≡◌, ◌+◌, ◌*◌, ◌<◌, ◌≤◌, Bool, true, false, List, [], ◌∷◌, length, replicate, refl, subst, ◌∙◌, arith}
use Rattle.std.specs.List.{range_with_len}
use seplogic.Ra.Ura.{Ura}
use base.Logic.{SProp, ent, sep, id⊢}
use base.Fml.{Fml, ftrue, fsep, froom}
use denote.RawPtr.{block_ptr}
use denote.Steps.{nothing}
use types.Logic.{Logic, sem}
use types.Kit.{‵, ◌⊛◌, given, ◌$◌, ◌∵◌, !, qed, by, move, keep, drop, use1, use2, split, learn, rewrite, fsplit, fjoin, flt_i, done}
use Rattle.page_pool.specs.Tickets.{times}
use Rattle.page_pool.specs.Region.{page_type, pages_type, parts_own}
use Rattle.page_pool.proofs.Numbers.{Below, Fresh, tally, bit, marked, filled, marked_long, filled_long, none_there, none_long, free, fewer, counted, all_new, tally_most}
use Rattle.page_pool.proofs.Parts.{below}

module _ {M : Type 1} {𝓤 : Ura M} (𝓛 : Logic 𝓤) (b o : ℕ) where
  open 𝓛 use {H}

  abbrev ◌⊢◌ : SProp 𝓤 → SProp 𝓤 → Type 1
  P ⊢ Q = ent 𝓤 P Q

  abbrev ◌∗◌ : SProp 𝓤 → SProp 𝓤 → SProp 𝓤
  P ∗ Q = sep 𝓤 P Q

  abbrev ⟦◌⟧ : Fml → SProp 𝓤
  ⟦ P ⟧ = sem 𝓛 P

  infix 26 ◌⊢◌
  infixr 35 ◌∗◌
  abbrev at : ℕ → Fml
  at k = froom page_type b (k * 512 + o)

  abbrev parts : ℕ → List ℕ → Fml
  parts n ks = parts_own (block_ptr b o) n ks

  -- the region from part k on is so many parts
  apart : (n m k : ℕ) → k + m ≤ n → H.room (pages_type m) b (k * 512 + o) ⊢ ⟦ parts n (range_with_len k m) ⟧
  apart n zero k le = qed 𝓛 (‵ (froom (pages_type 0) b (k * 512 + o)) ∷ []) ∵ keep ! [] $ nothing ! $ done !
  apart n (suc m) k le =
      let next : k * 512 + o + 512 ≡ (k + 1) * 512 + o = omega arith in let low : k < n = omega arith in
      qed 𝓛 (‵ (froom (pages_type (suc m)) b (k * 512 + o)) ∷ []) ∵
      use1 𝓛 (‵ (at k) ⊛ ‵ (froom (pages_type m) b (k * 512 + o + 512))) (𝓛.laws.room_uncons page_type m b (k * 512 + o)) $ split ! $ move ! (1 ∷ []) $
      rewrite ! 0 (λ (d : ℕ). ‵ (froom (pages_type m) b d)) next refl $
      use1 𝓛 (‵ (parts n (range_with_len (k + 1) m))) (apart n m (k + 1) (omega arith)) $
      move ! (1 ∷ []) $ flt_i ! k n low $ fjoin ! $ fjoin ! $ done !

  pub parts_of : (n : ℕ) → H.room (pages_type n) b o ⊢ ⟦ parts n (range_with_len 0 n) ⟧
  parts_of n = let start : 0 * 512 + o ≡ o = omega arith in subst (λ (d : ℕ). H.room (pages_type n) b d ⊢ ⟦ parts n (range_with_len 0 n) ⟧) start (apart n n 0 (omega arith))

  -- the parts from k on that are there
  abbrev held : ℕ → List Bool → Fml
  held k [] = ftrue
  held k (true ∷ fs) = fsep (at k) (held (k + 1) fs)
  held k (false ∷ fs) = held (k + 1) fs

  -- one more is there, which was not
  adds : (fs : List Bool) (i k : ℕ) → i < length fs → bit fs i ≡ 0 → ⟦ at (k + i) ⟧ ∗ ⟦ held k fs ⟧ ⊢ ⟦ held k (marked fs i) ⟧
  adds [] i k l e = absurd (omega arith)
  adds (true ∷ fs) zero k l e = absurd (omega arith)
  adds (false ∷ fs) zero k l e =
      let here : k + 0 ≡ k = omega arith in
      qed 𝓛 (‵ (at (k + 0)) ∷ ‵ (held (k + 1) fs) ∷ []) ∵ rewrite ! 0 (λ (d : ℕ). ‵ (at d)) here refl $ fjoin ! $ done !
  adds (false ∷ fs) (suc i) k l e =
      let there : k + suc i ≡ k + 1 + i = omega arith in
      qed 𝓛 (‵ (at (k + suc i)) ∷ ‵ (held (k + 1) fs) ∷ []) ∵ rewrite ! 0 (λ (d : ℕ). ‵ (at d)) there refl $ by ! (adds fs i (k + 1) (omega arith) e)
  adds (true ∷ fs) (suc i) k l e =
      let there : k + suc i ≡ k + 1 + i = omega arith in
      qed 𝓛 (‵ (at (k + suc i)) ∷ ‵ (held k (true ∷ fs)) ∷ []) ∵ move ! (1 ∷ []) $ fsplit ! $ rewrite ! 2 (λ (d : ℕ). ‵ (at d)) there refl $ move ! (2 ∷ 1 ∷ []) $
      use2 𝓛 (‵ (held (k + 1) (marked fs i))) (adds fs i (k + 1) (omega arith) e) $ move ! (1 ∷ 0 ∷ []) $ fjoin ! $ done !

  -- each of the parts is one more
  gathers : (n : ℕ) (ks : List ℕ) (fs : List Bool) → length fs ≡ n → Below n ks → Fresh fs ks → ⟦ parts n ks ⟧ ∗ ⟦ held 0 fs ⟧ ⊢ ⟦ held 0 (filled fs ks) ⟧
  gathers n [] fs l low h = qed 𝓛 (‵ (parts n []) ∷ ‵ (held 0 fs) ∷ []) ∵ keep ! (1 ∷ []) $ done !
  gathers n (k ∷ ks) fs l low h =
      let here : k ≡ 0 + k = omega arith in
      qed 𝓛 (‵ (parts n (k ∷ ks)) ∷ ‵ (held 0 fs) ∷ []) ∵ fsplit ! $ fsplit ! $ drop ! $ rewrite ! 0 (λ (d : ℕ). ‵ (at d)) here refl $
      move ! (0 ∷ 2 ∷ []) $ use2 𝓛 (‵ (held 0 (marked fs k))) (adds fs k 0 (omega arith) (free fs k ks h)) $
      move ! (1 ∷ 0 ∷ []) $ by ! (gathers n ks (marked fs k) (marked_long fs k ∙ l) low.1 (fewer n fs k ks l low.0 h))

  -- where all are there, they are the region from part k on
  whole : (fs : List Bool) (k : ℕ) → tally fs ≡ length fs → ⟦ held k fs ⟧ ⊢ H.room (pages_type (length fs)) b (k * 512 + o)
  whole [] k e = 𝓛.laws.room_nil page_type b (k * 512 + o)
  whole (false ∷ fs) k e = let m = tally_most fs in absurd (omega arith)
  whole (true ∷ fs) k e =
      let next : (k + 1) * 512 + o ≡ k * 512 + o + 512 = omega arith in
      qed 𝓛 (‵ (at k) ∷ ‵ (held (k + 1) fs) ∷ []) ∵ move ! (1 ∷ []) $ use1 𝓛 (‵ (froom (pages_type (length fs)) b ((k + 1) * 512 + o))) (whole fs (k + 1) (omega arith)) $
      rewrite ! 0 (λ (d : ℕ). ‵ (froom (pages_type (length fs)) b d)) next refl $ move ! (1 ∷ 0 ∷ []) $
      by ! (𝓛.laws.room_cons page_type (length fs) b (k * 512 + o))

  empty : (m k : ℕ) → ⟦ ftrue ⟧ ⊢ ⟦ held k (replicate m false) ⟧
  empty zero k = id⊢ 𝓤 ⟦ ftrue ⟧
  empty (suc m) k = empty m (k + 1)

  pub region_of : (n : ℕ) (ks : List ℕ) → length ks ≡ n → ((j : ℕ) → times ks j ≤ 1) → ⟦ parts n ks ⟧ ⊢ H.room (pages_type n) b o
  region_of n ks l once =
      let fs : List Bool = replicate n false in let fresh : Fresh fs ks = all_new n ks once in
      let long : length (filled fs ks) ≡ n = filled_long fs ks ∙ none_long n in let start : 0 * 512 + o ≡ o = omega arith in let z = none_there n in
      qed 𝓛 (‵ (parts n ks) ∷ []) ∵ use1 𝓛 (given (Below n ks) (‵ (parts n ks))) (below 𝓛 (block_ptr b o) n ks) $ learn ! (λ low.
      let e = counted n ks fs (none_long n) low fresh in
      nothing ! $ use1 𝓛 (‵ (held 0 fs)) (empty n 0) $ move ! (1 ∷ 0 ∷ []) $ use2 𝓛 (‵ (held 0 (filled fs ks))) (gathers n ks fs (none_long n) low fresh) $
      use1 𝓛 (‵ (froom (pages_type (length (filled fs ks))) b (0 * 512 + o))) (whole (filled fs ks) 0 (omega arith)) $
      rewrite ! 0 (λ (d : ℕ). ‵ (froom (pages_type (length (filled fs ks))) b d)) start refl $ rewrite ! 0 (λ (m : ℕ). ‵ (froom (pages_type m) b o)) long refl $ done !)
