-- The writes of a cluster, one after another: what is made so far and what is left make the whole.
use Rattle.std.proofs.Common.{◌≡◌, ℕ, zero, suc, ◌+◌, ◌<◌, ◌≤◌, Bool, true, false, List, [], ◌∷◌, ◌++◌, Option, Some, None, drop, length, nat_eq, nat_lt, if◌then◌else◌, ◌||◌, slice_get, refl, sym, ap, ◌∙◌, arith}
use Rattle.std.specs.Option.{option_map}
use Rattle.std.proofs.lemmas.Bool.{ltb-false, ltb-true, ne_eqb}
use Rattle.std.proofs.lemmas.List.{append-nil, append_assoc, drop_all, drop_more, map-append}
use Rattle.std.proofs.lemmas.Option.{get_or_from_slice_get, none-some, same_Some, slice_get-get_or, slice_get_within}
use Rattle.vm_types.specs.declared.config.Config.{Config}
use Rattle.vm_types.specs.declared.names.BlockId.{BlockId}
use Rattle.vm_journal.specs.declared.entry.What.{What}
use Rattle.pager_policy.specs.Given.{given}
use Rattle.pager_model.specs.Pager.{Pager}
use Rattle.pager_policy.specs.Rundown.{written_for_need}
use Rattle.pager_policy.specs.WriteCluster.{begin_carry, begin_nothing, block_out, writes_from, writes_taken}
use Rattle.log_rundown.specs.NextWrite.{write_at, write_to}
use Rattle.log_rundown.specs.Written.{write_as, writes_as}
use Rattle.log_rundown.specs.declared.write.Write.{Write}

-- a list has nothing from a place on that isn't there
none_behind : (xs : List ℕ) (n : ℕ) → slice_get xs n ≡ None → drop n xs ≡ []
none_behind xs n is = by (nat_lt n (length xs)) refl
  where
    by : (b : Bool) → nat_lt n (length xs) ≡ b → drop n xs ≡ []
    by true less = absurd (none-some _ (sym is ∙ slice_get-get_or xs n 0 (ltb-true n (length xs) less)))
    by false least = drop_all n xs (ltb-false n (length xs) least)

-- and one from a place on that is there
one_behind : (xs : List ℕ) (n f : ℕ) → slice_get xs n ≡ Some f → drop n xs ≡ f ∷ drop (n + 1) xs
one_behind xs n f is = drop_more xs n f (slice_get_within xs n f is) ∙ ap (λ (y : ℕ). y ∷ drop (n + 1) xs) (get_or_from_slice_get xs n f f is)

module _ (config : Config) (a : Pager) where
  -- an empty list gives no writes, as it would in any case
  need_is : writes_from config a config.params.wrtcluster None a.modified ≡ written_for_need config a
  need_is = by a.modified
    where
      by : (xs : List ℕ)
          → writes_from config a config.params.wrtcluster None xs
          ≡ (if nat_eq (length xs) 0 || nat_eq (length xs) 0 then (given [] begin_nothing) else given (writes_from config a config.params.wrtcluster None xs) begin_carry).made
      by [] = refl
      by (x ∷ xs) =
          ap (λ (b : Bool). (if b || b then (given [] begin_nothing) else given (writes_from config a config.params.wrtcluster None (x ∷ xs)) begin_carry).made)
          (sym (ne_eqb (length (x ∷ xs)) 0 (λ none. omega (arith, none))))

  -- ---- at most m writes are left
  from_none : (m : ℕ) (last : Option BlockId) (xs : List ℕ) → m ≡ 0 → writes_from config a m last xs ≡ []
  from_none m last [] is = refl
  from_none m last (x ∷ xs) is = ap (λ (k : ℕ). writes_from config a k last (x ∷ xs)) is

  taken_none : (f m : ℕ) (o : Option BlockId) (rest : BlockId → ℕ → List What) → o ≡ None → writes_taken f m o rest ≡ []
  taken_none f zero o rest is = refl
  taken_none f (suc m) o rest is = ap (λ (x : Option BlockId). writes_taken f (suc m) x rest) is

  -- what is made so far, and what is left
  pub record IsLeft (ws : List Write) (last : Option BlockId) (n : ℕ) : Type 0 where
    pub most : ℕ
    pub count : n + most ≡ config.params.wrtcluster
    pub whole : writes_as ws ++ writes_from config a most last (drop n a.modified) ≡ written_for_need config a

  pub at_first : (ws : List Write) → ws ≡ [] → IsLeft ws None 0
  at_first ws none = record { most = config.params.wrtcluster; count = omega arith; whole = ap (λ (xs : List Write). writes_as xs ++ writes_from config a config.params.wrtcluster None a.modified) none ∙ need_is }

  -- nothing is left
  none_left : (ws : List Write) (last : Option BlockId) (n : ℕ) (left : IsLeft ws last n) → writes_from config a left.most last (drop n a.modified) ≡ [] → writes_as ws ≡ written_for_need config a
  none_left ws last n left none = sym (append-nil (writes_as ws)) ∙ (ap (λ (xs : List What). writes_as ws ++ xs) (sym none) ∙ left.whole)

  pub full : (ws : List Write) (last : Option BlockId) (n : ℕ) → IsLeft ws last n → config.params.wrtcluster ≤ n → writes_as ws ≡ written_for_need config a
  full ws last n left least = none_left ws last n left (from_none left.most last (drop n a.modified) (let count = left.count in omega (arith, count, least)))

  pub stopped : (ws : List Write) (last : Option BlockId) (n : ℕ) → IsLeft ws last n → None ≡ write_at config a last (slice_get a.modified n) → writes_as ws ≡ written_for_need config a
  stopped ws last n left none = none_left ws last n left (by (slice_get a.modified n) refl none)
    where
      blocked : (f : ℕ) (o : Option BlockId) → None ≡ option_map (write_to f) o → o ≡ None
      blocked f None is = refl
      blocked f (Some d) is = absurd (none-some _ is)

      by : (o : Option ℕ) → slice_get a.modified n ≡ o → None ≡ write_at config a last o → writes_from config a left.most last (drop n a.modified) ≡ []
      by None is nothing = ap (writes_from config a left.most last) (none_behind a.modified n is)
      by (Some f) is nothing =
          ap (writes_from config a left.most last) (one_behind a.modified n f is)
          ∙ taken_none f left.most (block_out config a last (a.page f)) (λ (d : BlockId) (k : ℕ). writes_from config a k (Some d) (drop (n + 1) a.modified)) (blocked f (block_out config a last (a.page f)) nothing)

  -- ---- one more write
  module _ (ws more : List Write) (last : Option BlockId) (n : ℕ) (x : Write) (added : more ≡ ws ++ x ∷ []) where
    regrouped : (rest : List What) → writes_as more ++ rest ≡ writes_as ws ++ write_as x ∷ rest
    regrouped rest = ap (λ (zs : List Write). writes_as zs ++ rest) added ∙ (ap (λ (zs : List What). zs ++ rest) (map-append write_as ws (x ∷ [])) ∙ append_assoc (writes_as ws) (write_as x ∷ []) rest)

    next_is : (m f : ℕ) (d : BlockId) → slice_get a.modified n ≡ Some f → block_out config a last (a.page f) ≡ Some d → write_as x ≡ write_to f d
        → writes_from config a (suc m) last (drop n a.modified) ≡ write_as x ∷ writes_from config a m (Some x.block) (drop (n + 1) a.modified)
    next_is m f d is out same =
        let block_is : x.block ≡ d = cc in
        ap (writes_from config a (suc m) last) (one_behind a.modified n f is)
        ∙ (ap (λ (o : Option BlockId). writes_taken f (suc m) o (λ (e : BlockId) (k : ℕ). writes_from config a k (Some e) (drop (n + 1) a.modified))) out
        ∙ (ap (λ (w : What). w ∷ writes_from config a m (Some d) (drop (n + 1) a.modified)) (sym same)
        ∙ ap (λ (e : BlockId). write_as x ∷ writes_from config a m (Some e) (drop (n + 1) a.modified)) (sym block_is)))

    found : (m : ℕ) (o : Option ℕ) → slice_get a.modified n ≡ o → Some (write_as x) ≡ write_at config a last o
        → writes_from config a (suc m) last (drop n a.modified) ≡ write_as x ∷ writes_from config a m (Some x.block) (drop (n + 1) a.modified)
    found m None is same = absurd (none-some _ (sym same))
    found m (Some f) is same = by (block_out config a last (a.page f)) refl same
      where
        by : (o : Option BlockId) → block_out config a last (a.page f) ≡ o → Some (write_as x) ≡ option_map (write_to f) o
            → writes_from config a (suc m) last (drop n a.modified) ≡ write_as x ∷ writes_from config a m (Some x.block) (drop (n + 1) a.modified)
        by None out nothing = absurd (none-some _ (sym nothing))
        by (Some d) out one = next_is m f d is out (same_Some _ _ one)

    pub one_more : IsLeft ws last n → n < config.params.wrtcluster → Some (write_as x) ≡ write_at config a last (slice_get a.modified n) → IsLeft more (Some x.block) (n + 1)
    one_more left less is = by left.most left.count left.whole
      where
        by : (m : ℕ) → n + m ≡ config.params.wrtcluster → writes_as ws ++ writes_from config a m last (drop n a.modified) ≡ written_for_need config a → IsLeft more (Some x.block) (n + 1)
        by zero count whole = absurd (omega (arith, count, less))
        by (suc m) count whole = record {
          most = m;
          count = omega (arith, count);
          whole = regrouped (writes_from config a m (Some x.block) (drop (n + 1) a.modified)) ∙ (ap (λ (zs : List What). writes_as ws ++ zs) (sym (found m (slice_get a.modified n) refl is)) ∙ whole);
        }
