-- The blocks that are given back are those of the configuration, each once.
use Rattle.std.proofs.Common.{◌≡◌, ℕ, zero, suc, ◌+◌, ◌<◌, Bool, true, false, List, [], ◌∷◌, Some, length, map, count_by, slice_get, slice_index_or, refl, sym, ap, ◌∙◌, arith}
use Rattle.std.specs.List.{AllByRecursion}
use Rattle.vm_types.specs.BlockView.{BlockView, Retired, Tells}
use Rattle.vm_types.specs.Same.{same_block}
use Rattle.vm_types.specs.Configuration.{IsBlock}
use Rattle.vm_types.specs.declared.config.Config.{Config}
use Rattle.vm_types.specs.declared.names.BlockId.{BlockId}
use Rattle.vm_journal.specs.declared.entry.Entry.{Entry}
use Rattle.pager_model.specs.Asked.{IsAsked, is_retired}
use Rattle.pager_model.specs.CountedBlock.{IsCountedBlock}
use Rattle.pager_model.specs.Run.{pager_after}
use Rattle.pager_model.specs.WrittenBack.{AreWrittenBack, HasFirstBytes, IsWrittenBack, NowhereMeansUncharged}
use Rattle.pager_rules.proofs.Basics.{count_cons_no, count_cons_yes}
use Rattle.disk_trait.specs.DepotView.{given_back}
use Rattle.frame_store.specs.Blocks.{blocks_of, number_of}
use Rattle.frame_store.proofs.Blocks.{is_block, number_only, number_there}
use Rattle.frame_store.proofs.Places.{block_itself, blocks_equal}
use Rattle.vm_state.specs.Ends.{AreGivenBack}

-- ---- what is in one place alone is counted once
module _ {X : Type 0} (test : X → Bool) where
  none_counted : (xs : List X) → ((k : ℕ) (y : X) → slice_get xs k ≡ Some y → test y ≡ false) → count_by test xs ≡ 0
  none_counted [] never = refl
  none_counted (x ∷ xs) never = count_cons_no test x xs (never 0 x refl) ∙ none_counted xs (λ k y there. never (suc k) y there)

  pub counted_once : (xs : List X) (n : ℕ) (x : X) → slice_get xs n ≡ Some x → test x ≡ true → ((k : ℕ) (y : X) → slice_get xs k ≡ Some y → test y ≡ true → k ≡ n) → count_by test xs ≡ 1
  counted_once [] n x there is alone = absurd (none_there n there)
    where
      none_there : (n : ℕ) → slice_get [] n ≡ Some x → ⊥
      none_there zero same = cc
      none_there (suc n) same = cc
  counted_once (y ∷ xs) zero x there is alone =
      let same : y ≡ x = cc in
      count_cons_yes test y xs (ap test same ∙ is) ∙ ap (λ (n : ℕ). 1 + n) (none_counted xs (λ k z at. never k z at (test z) refl))
    where
      never : (k : ℕ) (z : X) → slice_get xs k ≡ Some z → (b : Bool) → test z ≡ b → test z ≡ false
      never k z at false is = is
      never k z at true is = absurd (let bad = alone (suc k) z at is in omega (arith, bad))
  counted_once (y ∷ xs) (suc n) x there is alone =
      count_cons_no test y xs (first (test y) refl) ∙ counted_once xs n x there is (λ k z at here. let same = alone (suc k) z at here in omega (arith, same))
    where
      first : (b : Bool) → test y ≡ b → test y ≡ false
      first false is = is
      first true is = absurd (let bad = alone 0 y refl is in omega (arith, bad))

-- ---- the blocks of a configuration that are given back
module _ {B : Type 0} (seen : B → BlockView) where
  abbrev name : BlockId × B → BlockId
  name p = p.0

  abbrev back : BlockId × B → Retired
  back p = given_back seen p

  counted_names : (b : BlockId) (xs : List (BlockId × B)) → count_by (is_retired b) (map back xs) ≡ count_by (same_block b) (map name xs)
  counted_names b [] = refl
  counted_names b (x ∷ xs) = go (same_block b x.0) refl (counted_names b xs)
    where
      go : (t : Bool) → same_block b x.0 ≡ t → count_by (is_retired b) (map back xs) ≡ count_by (same_block b) (map name xs)
          → count_by (is_retired b) (map back (x ∷ xs)) ≡ count_by (same_block b) (map name (x ∷ xs))
      go true is rest = count_cons_yes (is_retired b) (back x) (map back xs) is ∙ (ap (λ (n : ℕ). 1 + n) rest ∙ sym (count_cons_yes (same_block b) (name x) (map name xs) is))
      go false is rest = count_cons_no (is_retired b) (back x) (map back xs) is ∙ (rest ∙ sym (count_cons_no (same_block b) (name x) (map name xs) is))

  -- what each has, each has as it was given back
  each_back : (Q : Retired → Type 0) (xs : List (BlockId × B)) → ((k : ℕ) (d : BlockId × B) → k < length xs → Q (back (slice_index_or xs k d))) → AllByRecursion Q (map back xs)
  each_back Q [] each = tt
  each_back Q (x ∷ xs) each = (each 0 x (omega arith), each_back Q xs (λ k d less. each (suc k) d (omega (arith, less))))

  each_named : (Q : BlockId → Type 0) (xs : List (BlockId × B)) → ((k : ℕ) (b : BlockId) → slice_get (map name xs) k ≡ Some b → Q b) → AllByRecursion (λ (x : Retired). Q x.block) (map back xs)
  each_named Q [] each = tt
  each_named Q (x ∷ xs) each = (each 0 x.0 refl, each_named Q xs (λ k b there. each (suc k) b there))

  module _ (tells : Tells) (config : Config) (past : List Entry) (taken : List (BlockId × B)) (names : map name taken ≡ blocks_of config)
      (given : AreGivenBack seen tells config past taken) where
    once : (b : BlockId) → IsBlock config b → count_by (same_block b) (blocks_of config) ≡ 1
    once b is =
        counted_once (same_block b) (blocks_of config) (number_of config b) b (number_there config b is) (block_itself b)
        (λ k c there same. sym (number_only config k c there) ∙ ap (number_of config) (sym (blocks_equal b c same)))

    pub asked : IsAsked tells.plan config past (map back taken)
    asked = record {
      all = λ b is. counted_names b taken ∙ (ap (count_by (same_block b)) names ∙ once b is);
      only = each_named (IsBlock config) taken (λ k b there. is_block config k b (ap (λ (ids : List BlockId). slice_get ids k) (sym names) ∙ there));
      counted = each_back (λ (x : Retired). IsCountedBlock tells.plan config past x.block x.seen) taken (λ k d less. (given k d less).counted);
    }

    pub written : NowhereMeansUncharged config (pager_after config past) → AreWrittenBack tells.content config past (map back taken)
    written nowhere = record {
      shared = λ told. each_back (IsWrittenBack config past) taken (λ k d less. ((given k d less).written told).0);
      copied = λ told. each_back (HasFirstBytes config) taken (λ k d less. ((given k d less).written told).1);
      nowhere = nowhere;
    }
