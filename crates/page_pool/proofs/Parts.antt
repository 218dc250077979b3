-- Parts that are in: the last one leaves, one comes in, and their numbers are below the region's size. Assumes `Logic`.
use Rattle.std.proofs.Common.{ℕ, ◌<◌, List, [], ◌∷◌, ◌++◌, refl}
use seplogic.Ra.Ura.{Ura}
use base.Fraction.{full_share}
use base.Logic.{SProp, ent, sep, guard, id⊢}
use base.Fml.{Fml, fat}
use borrow.Table.OneValue.{part_out}
use denote.Memory.{part_at}
use denote.RawPtr.{Ptr, block_ptr, null_ptr, lies_at, room_for}
use mir.Val.{Val}
use types.Logic.{Logic, sem}
use types.Kit.{‵, ◌⊛◌, some, given, ◌$◌, ◌∵◌, !, qed, by, move, keep, pick, use1, use2, split, learn, fsplit, fjoin, flt_i, flt_l, check, done}
use Rattle.page_pool.specs.Region.{Page, page_type, place_of, parts_own}
use Rattle.page_pool.proofs.Numbers.{Below}

module _ {M : Type 1} {𝓤 : Ura M} (𝓛 : Logic 𝓤) (start : Ptr) where
  abbrev ◌⊢◌ : SProp 𝓤 → SProp 𝓤 → Type 1
  P ⊢ Q = ent 𝓤 P Q

  abbrev ◌∗◌ : SProp 𝓤 → SProp 𝓤 → SProp 𝓤
  P ∗ Q = sep 𝓤 P Q

  abbrev ⟦◌⟧ : Fml → SProp 𝓤
  ⟦ P ⟧ = sem 𝓛 P

  infix 26 ◌⊢◌
  infixr 35 ◌∗◌
  abbrev at : ℕ → Fml
  at k = room_for page_type (place_of start k)

  abbrev parts : ℕ → List ℕ → Fml
  parts n ks = parts_own start n ks

  -- the numbers of parts are below their count
  pub below : (n : ℕ) (ks : List ℕ) → ⟦ parts n ks ⟧ ⊢ guard 𝓤 (Below n ks) ⟦ parts n ks ⟧
  below n [] = qed 𝓛 (‵ (parts n []) ∷ []) ∵ check ! tt $ done !
  below n (k ∷ ks) = qed 𝓛 (‵ (parts n (k ∷ ks)) ∷ []) ∵ fsplit ! $ fsplit ! $ flt_l ! (λ low. move ! (1 ∷ []) $
      use1 𝓛 (given (Below n ks) (‵ (parts n ks))) (below n ks) $ learn ! (λ lows. move ! (1 ∷ []) $ flt_i ! k n low $ fjoin ! $ fjoin ! $ check ! (low, lows) $ done !))

  -- the last part leaves, and comes back
  pub parts_snoc : (n : ℕ) (ks : List ℕ) (k : ℕ) → k < n → ⟦ parts n ks ⟧ ∗ ⟦ at k ⟧ ⊢ ⟦ parts n (ks ++ k ∷ []) ⟧
  parts_snoc n [] k low = qed 𝓛 (‵ (parts n []) ∷ ‵ (at k) ∷ []) ∵ move ! (1 ∷ []) $ flt_i ! k n low $ fjoin ! $ fjoin ! $ done !
  parts_snoc n (j ∷ ks) k low = qed 𝓛 (‵ (parts n (j ∷ ks)) ∷ ‵ (at k) ∷ []) ∵ fsplit ! $ move ! (1 ∷ 2 ∷ []) $
      use2 𝓛 (‵ (parts n (ks ++ k ∷ []))) (parts_snoc n ks k low) $ move ! (1 ∷ 0 ∷ []) $ fjoin ! $ done !

  pub parts_last : (n : ℕ) (ks : List ℕ) (k : ℕ) → ⟦ parts n (ks ++ k ∷ []) ⟧ ⊢ guard 𝓤 (k < n) (⟦ parts n ks ⟧ ∗ ⟦ at k ⟧)
  parts_last n [] k = qed 𝓛 (‵ (parts n (k ∷ [])) ∷ []) ∵ fsplit ! $ fsplit ! $ flt_l ! (λ low. move ! (1 ∷ 0 ∷ []) $ check ! low $ done !)
  parts_last n (j ∷ ks) k = qed 𝓛 (‵ (parts n (j ∷ (ks ++ k ∷ []))) ∷ []) ∵ fsplit ! $ move ! (1 ∷ []) $
      use1 𝓛 (given (k < n) (‵ (parts n ks) ⊛ ‵ (at k))) (parts_last n ks k) $ learn ! (λ low. split ! $ move ! (2 ∷ 0 ∷ []) $ fjoin ! $ check ! low $ done !)

-- the bytes of a part are let go
pub emptied : {M : Type 1} {𝓤 : Ura M} (𝓛 : Logic 𝓤) (p : Ptr) (bytes : List ℕ) → ent 𝓤 (sem 𝓛 (lies_at Page full_share p bytes)) (sem 𝓛 (room_for page_type p))
emptied {𝓤 = 𝓤} 𝓛 null_ptr bytes = id⊢ 𝓤 _
emptied 𝓛 (block_ptr b o) bytes = qed 𝓛 (‵ (part_at Page full_share bytes b o) ∷ []) ∵
    use1 𝓛 (some (λ (v : Val). ‵ (fat full_share page_type b o v) ⊛ ‵ (Page.own_val bytes (v ∷ [])))) (part_out 𝓛 Page refl full_share bytes b o) $ pick ! (λ v. split ! $ keep ! (0 ∷ []) $ by ! (𝓛.laws.at_room page_type b o v))
