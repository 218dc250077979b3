-- Blocks at home, while one block goes away or comes back.
use Rattle.std.proofs.Common.{◌≡◌, ◌⊎◌, ℕ, ◌≤◌, Bool, true, false, List, ◌∷◌, Option, Some, None, is_some, find, nat_eq, count_by, slice_get, refl, sym, ap, ◌∙◌, subst, inl, inr, arith}
use Rattle.std.proofs.lemmas.Bool.{eq-eqb, ne_eqb, true≢false}
use Rattle.std.proofs.lemmas.Option.{none-some}
use Rattle.vm_types.specs.BlockView.{BlockView}
use Rattle.vm_types.specs.Configuration.{IsBlock}
use Rattle.vm_types.specs.Same.{same_block}
use Rattle.vm_types.specs.declared.names.SecId.{SecId}
use Rattle.vm_types.specs.declared.names.BlockId.{BlockId}
use Rattle.vm_types.specs.declared.names.BlockId.TheVariants as block
use Rattle.vm_types.specs.declared.config.Config.{Config}
use Rattle.vm_journal.specs.declared.entry.Entry.{Entry}
use Rattle.content_laws.specs.Put.{PutsBlock}
use Rattle.pager_laws.proofs.KeptIsSound.{same_block_refl}
use Rattle.pager_model.specs.Content.{HasCopied, HasCounted, HasHomes}
use Rattle.pager_model.specs.Counted.{Counts, counts_of}
use Rattle.pager_model.specs.Flights.{Flight, without_flight}
use Rattle.pager_model.specs.Maps.{section_bytes, shared_of}
use Rattle.pager_model.specs.CountedBlock.{HasCounts, IsCountedBlock}
use Rattle.pager_model.specs.Transfers.{is_on_block, starts}
use Rattle.pager_rules.proofs.Basics.{count_cons_no, count_cons_yes}
use Rattle.pager_rules.proofs.Lists.{count_removed_no, count_removed_yes}
use Rattle.pager_rules.proofs.Put.{blocks_equal}

-- ---- two names of blocks
pub block_cases : (b c : BlockId) → (b ≡ c) ⊎ (b ≡ c → ⊥)
block_cases b c = go (same_block b c) refl
  where
    go : (s : Bool) → same_block b c ≡ s → (b ≡ c) ⊎ (b ≡ c → ⊥)
    go true is = inl (blocks_equal b c is)
    go false is = inr (λ same. true≢false (sym (subst (λ (d : BlockId). same_block b d ≡ true) same (same_block_refl b)) ∙ is))

pub blocks_apart : (b c : BlockId) → (b ≡ c → ⊥) → same_block b c ≡ false
blocks_apart b c apart = go (same_block b c) refl
  where
    go : (s : Bool) → same_block b c ≡ s → same_block b c ≡ false
    go false is = is
    go true is = absurd (apart (blocks_equal b c is))

pub block_is : (b c : BlockId) → b ≡ c → same_block b c ≡ true
block_is b c same = subst (λ (d : BlockId). same_block b d ≡ true) same (same_block_refl b)

-- a block is counted if its counts are the same
pub counted_same : (tells_plan : Bool) (config : Config) (past past' : List Entry) (b : BlockId) (x : BlockView) → counts_of b past' ≡ counts_of b past → IsCountedBlock tells_plan config past b x → IsCountedBlock tells_plan config past' b x
counted_same tells_plan config past past' b x same old = record {
  counts = subst (λ (c : Counts). HasCounts x c 0 0) (sym same) old.counts;
  faults = old.faults ∙ sym (ap (λ (c : Counts). c.faults) same);
  plan = old.plan;
}

module _ (config : Config) (home home' : BlockId → Option BlockView) (d : BlockId) (o : Option BlockView) (put : PutsBlock d o home home') where
  -- a block that is home after it
  pub at_home : (b : BlockId) (x : BlockView) → home' b ≡ Some x → ((d ≡ b) × (o ≡ Some x)) ⊎ ((d ≡ b → ⊥) × (home b ≡ Some x))
  at_home b x is = go (block_cases d b)
    where
      go : (d ≡ b) ⊎ (d ≡ b → ⊥) → ((d ≡ b) × (o ≡ Some x)) ⊎ ((d ≡ b → ⊥) × (home b ≡ Some x))
      go (inl same) = inl (same, sym put.here ∙ (ap home' same ∙ is))
      go (inr apart) = inr (apart, sym (put.others b apart) ∙ is)

  pub counted_put : (tells_plan : Bool) (past past' : List Entry) → ((b : BlockId) → (d ≡ b → ⊥) → counts_of b past' ≡ counts_of b past) → ((x : BlockView) → o ≡ Some x → IsCountedBlock tells_plan config past' d x)
      → HasCounted tells_plan config past home → HasCounted tells_plan config past' home'
  counted_put tells_plan past past' others here old b x is = go (at_home b x is)
    where
      go : ((d ≡ b) × (o ≡ Some x)) ⊎ ((d ≡ b → ⊥) × (home b ≡ Some x)) → IsCountedBlock tells_plan config past' b x
      go (inl mine) = subst (λ (c : BlockId). IsCountedBlock tells_plan config past' c x) mine.0 (here x mine.1)
      go (inr theirs) = counted_same tells_plan config past past' b x (others b theirs.0) (old b x theirs.1)

  pub copied_put : ((s : SecId) (i : ℕ) (x : BlockView) → d ≡ block.Section s i → o ≡ Some x → shared_of (slice_get config.sections s.0) ≡ false → x.content ≡ Some (section_bytes config s.0 i)) → HasCopied config home → HasCopied config home'
  copied_put here old s i x is unshared = go (at_home (block.Section s i) x is)
    where
      go : ((d ≡ block.Section s i) × (o ≡ Some x)) ⊎ ((d ≡ block.Section s i → ⊥) × (home (block.Section s i) ≡ Some x)) → x.content ≡ Some (section_bytes config s.0 i)
      go (inl mine) = here s i x mine.0 mine.1 unshared
      go (inr theirs) = old s i x theirs.1 unshared

-- a transfer begins, and its block goes away
pub homes_begun : (config : Config) (home home' : BlockId → Option BlockView) (x : Flight) (flights : List Flight) → PutsBlock x.block None home home' → HasHomes config flights home → HasHomes config (x ∷ flights) home'
homes_begun config home home' x flights put old = record { blocks = λ b is. blocks b is (block_cases x.block b); only = λ b y is. only b y is (block_cases x.block b) }
  where
    blocks : (b : BlockId) → IsBlock config b → (x.block ≡ b) ⊎ (x.block ≡ b → ⊥) → is_some (home' b) ≡ nat_eq (count_by (is_on_block b) (x ∷ flights)) 0
    blocks b is (inl same) = ap is_some (sym (ap home' same) ∙ put.here) ∙ sym (ne_eqb _ _ (λ none. omega (arith, count_cons_yes (is_on_block b) x flights (block_is b x.block (sym same)))))
    blocks b is (inr apart) = ap is_some (put.others b apart) ∙ (old.blocks b is ∙ ap (λ (n : ℕ). nat_eq n 0) (sym (count_cons_no (is_on_block b) x flights (blocks_apart b x.block (λ same. apart (sym same))))))

    only : (b : BlockId) (y : BlockView) → home' b ≡ Some y → (x.block ≡ b) ⊎ (x.block ≡ b → ⊥) → IsBlock config b
    only b y is (inl same) = absurd (none-some y (sym put.here ∙ (ap home' same ∙ is)))
    only b y is (inr apart) = old.only b y (sym (put.others b apart) ∙ is)

-- it lands, and its block comes back
pub homes_landed : (config : Config) (home home' : BlockId → Option BlockView) (k : ℕ) (x : Flight) (seen : BlockView) (flights : List Flight) → find (starts k) flights ≡ Some x → count_by (starts k) flights ≤ 1
    → count_by (is_on_block x.block) flights ≤ 1 → IsBlock config x.block → PutsBlock x.block (Some seen) home home' → HasHomes config flights home → HasHomes config (without_flight k flights) home'
homes_landed config home home' k x seen flights found once alone known put old = record { blocks = λ b is. blocks b is (block_cases x.block b); only = λ b y is. only b y is (block_cases x.block b) }
  where
    none_left : count_by (is_on_block x.block) (without_flight k flights) ≡ 0
    none_left = omega (arith, count_removed_yes (is_on_block x.block) (starts k) flights x found once (same_block_refl x.block), alone)

    blocks : (b : BlockId) → IsBlock config b → (x.block ≡ b) ⊎ (x.block ≡ b → ⊥) → is_some (home' b) ≡ nat_eq (count_by (is_on_block b) (without_flight k flights)) 0
    blocks b is (inl same) = subst (λ (c : BlockId). is_some (home' c) ≡ nat_eq (count_by (is_on_block c) (without_flight k flights)) 0) same (ap is_some put.here ∙ sym (eq-eqb _ _ none_left))
    blocks b is (inr apart) = ap is_some (put.others b apart) ∙ (old.blocks b is ∙ ap (λ (n : ℕ). nat_eq n 0) (sym (count_removed_no (is_on_block b) (starts k) flights x found once (blocks_apart b x.block (λ same. apart (sym same))))))

    only : (b : BlockId) (y : BlockView) → home' b ≡ Some y → (x.block ≡ b) ⊎ (x.block ≡ b → ⊥) → IsBlock config b
    only b y is (inl same) = subst (IsBlock config) same known
    only b y is (inr apart) = old.only b y (sym (put.others b apart) ∙ is)
