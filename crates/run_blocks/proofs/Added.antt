-- What one block more, and some blocks more, make of those that were made.
use Rattle.std.proofs.Common.{◌≡◌, ℕ, ◌+◌, Bool, true, false, List, [], ◌∷◌, ◌++◌, Some, map, refl, sym, ap, ◌∙◌, subst, append_assoc, append-nil, arith}
use Rattle.std.specs.List.{range_with_len}
use Rattle.std.proofs.lemmas.List.FromFn.{map-range_with_len_more}
use Rattle.std.proofs.lemmas.List.{map-append}
use Rattle.std.proofs.lemmas.List.Elements.{All-push}
use Rattle.vm_types.specs.BlockView.{BlockView, Tells}
use Rattle.vm_types.specs.declared.config.Config.{Config}
use Rattle.vm_types.specs.declared.names.BlockId.{BlockId}
use Rattle.disk_trait.specs.Told.{told}
use Rattle.pager_model.specs.CountedBlock.{plan_of, told_plan}
use Rattle.run_blocks.specs.Adds.{Adds, AreFirst, AreMade, names_of}
use Rattle.vm_state.specs.Made.{IsMade}

module _ {B : Type 0} (seen : B → BlockView) (tells : Tells) (config : Config) where
  pub record IsNew (x : B) (bytes calls : List ℕ) : Type 0 where
    pub content_is : (seen x).content ≡ told tells.content bytes
    pub plan_is : (seen x).plan ≡ told tells.plan calls
    pub unread : (seen x).reads ≡ 0
    pub unwritten : (seen x).writes ≡ 0
    pub sound : (seen x).faults ≡ 0

  planned : (told_it : Bool) (id : BlockId) → told told_it (plan_of config id) ≡ told_plan config told_it id
  planned true id = refl
  planned false id = refl

  new_made : (id : BlockId) (x : B) (bytes calls : List ℕ) → IsNew x bytes calls → calls ≡ plan_of config id → AreFirst config id bytes → IsMade tells config id (seen x)
  new_made id x bytes calls new is first =
      record {
        fresh = record { reads = new.unread; writes = new.unwritten; faults = new.sound; plan = new.plan_is ∙ (ap (told tells.plan) is ∙ planned tells.plan id) };
        first = λ telling s i own. new.content_is ∙ (ap (λ (b : Bool). told b bytes) telling ∙ ap Some (subst (λ (b : BlockId). AreFirst config b bytes) own first));
      }

  pub added_one : (id : BlockId) (x : B) (bytes calls : List ℕ) (before : List (BlockId × B)) → IsNew x bytes calls → calls ≡ plan_of config id → AreFirst config id bytes
      → Adds seen tells config (id ∷ []) before (before ++ (id, x) ∷ [])
  added_one id x bytes calls before new is first =
      record {
        names = map-append (λ (p : BlockId × B). p.0) before ((id, x) ∷ []);
        made = λ all. All-push (λ (p : BlockId × B). IsMade tells config p.0 (seen p.1)) before (id, x) all (new_made id x bytes calls new is first);
      }

  pub added_none : (before : List (BlockId × B)) → Adds seen tells config [] before before
  added_none before = record { names = sym (append-nil (names_of before)); made = λ all. all }

  pub added_more : (ids more all : List BlockId) (before between after : List (BlockId × B)) → ids ++ more ≡ all → Adds seen tells config ids before between
      → Adds seen tells config more between after → Adds seen tells config all before after
  added_more ids more all before between after are first second =
      record {
        names = second.names ∙ (ap (λ (xs : List BlockId). xs ++ more) first.names ∙ (append_assoc (names_of before) ids more ∙ ap (λ (xs : List BlockId). names_of before ++ xs) are));
        made = λ old. second.made (first.made old);
      }

  -- one block more of a row
  pub added_item : (name : ℕ → BlockId) (n : ℕ) (before between after : List (BlockId × B)) → Adds seen tells config (map name (range_with_len 0 n)) before between
      → Adds seen tells config (name n ∷ []) between after → Adds seen tells config (map name (range_with_len 0 (n + 1))) before after
  added_item name n before between after first second =
      added_more (map name (range_with_len 0 n)) (name n ∷ []) (map name (range_with_len 0 (n + 1))) before between after (sym (map-range_with_len_more name 0 n n (omega arith))) first second

  pub none_made : (blocks : List (BlockId × B)) → blocks ≡ [] → AreMade seen tells config blocks
  none_made blocks are = subst (AreMade seen tells config) (sym are) (λ k d within. absurd (omega (arith, within)))
