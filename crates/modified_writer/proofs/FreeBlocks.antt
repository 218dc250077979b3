-- The free blocks of the page file.
use Rattle.std.proofs.Common.{◌≡◌, ◌⊎◌, inl, inr, ℕ, zero, suc, ◌+◌, ◌<◌, ◌≤◌, ◌&&◌, Bool, true, false, cond, List, Option, Some, None, count_by, find, is_none, is_some, nat_eq, not, refl, sym, ap, ◌∙◌, arith}
use Rattle.std.specs.List.{range_with_len}
use Rattle.std.specs.Option.{option_map}
use Rattle.std.proofs.lemmas.Bool.{eq-eqb, cases_eq, false≢true, lt-ltb, ne_eqb, true≢false}
use Rattle.vm_types.specs.declared.config.Config.{Config}
use Rattle.vm_types.specs.declared.names.BlockId.TheVariants as block
use Rattle.vm_types.specs.declared.names.Page.{Page}
use Rattle.pager_model.specs.Lookups.{is_owner}
use Rattle.pager_model.specs.Pager.{Assigned, Pager}
use Rattle.pager_policy.specs.WriteCluster.{is_free_block, lowest_free}
use Rattle.pager_rules.proofs.Basics.{count_from_no_find}
use Rattle.pager_rules.proofs.Lists.{count_found, found_passes}
use Rattle.state_fits.specs.File.{has_block, owner_in}

-- a block without an owner is assigned to no page
unowned : (assigned : List Assigned) (n : ℕ) → is_none (owner_in assigned n) ≡ nat_eq (count_by (is_owner (block.PageFile n)) assigned) 0
unowned assigned n = by (find (has_block n) assigned) refl
  where
    by : (o : Option Assigned) → find (has_block n) assigned ≡ o → is_none (option_map (λ (x : Assigned). x.page) o) ≡ nat_eq (count_by (is_owner (block.PageFile n)) assigned) 0
    by None is = sym (eq-eqb _ 0 (count_from_no_find (has_block n) assigned is))
    by (Some x) is =
        let some = count_found (has_block n) (has_block n) assigned x is (found_passes (has_block n) assigned x is) in
        sym (ne_eqb _ 0 (λ none. omega (arith, some, none)))

owned : (o : Option Page) → (o ≡ None → ⊥) → is_none o ≡ false
owned None some = absurd (some refl)
owned (Some g) some = refl

-- the first number of a range that passes
first_passing : (t : ℕ → Bool) (n s k : ℕ) → s ≤ k → k < s + n → t k ≡ true → ((j : ℕ) → j < k → t j ≡ false) → find t (range_with_len s n) ≡ Some k
first_passing t zero s k from below passes least = absurd (omega (arith, from, below))
first_passing t (suc n) s k from below passes least = go (cases_eq s k) (first_passing t n (s + 1) k)
  where
    go : (s ≡ k) ⊎ (s ≡ k → ⊥) → (s + 1 ≤ k → k < s + 1 + n → t k ≡ true → ((j : ℕ) → j < k → t j ≡ false) → find t (range_with_len (s + 1) n) ≡ Some k) → cond (t s) (Some s) (find t (range_with_len (s + 1) n)) ≡ Some k
    go (inl same) rest = ap (λ (c : Bool). cond c (Some s) (find t (range_with_len (s + 1) n))) (ap t same ∙ passes) ∙ ap Some same
    go (inr apart) rest =
        let less : s < k = omega (arith, from, apart) in
        ap (λ (c : Bool). cond c (Some s) (find t (range_with_len (s + 1) n))) (least s less) ∙ rest (omega (arith, less)) (omega (arith, below)) passes least

tested : (o : Option Page) (b : Bool) → is_some o ≡ not b → b ≡ is_none o
tested None true is = refl
tested None false is = absurd (false≢true is)
tested (Some g) true is = absurd (true≢false is)
tested (Some g) false is = refl

module _ (config : Config) (a : Pager) where
  free_is : (n : ℕ) → n < config.pagefile → is_free_block config a n ≡ is_none (owner_in a.assigned n)
  free_is n below = (λ i. lt-ltb n config.pagefile below i && sym (unowned a.assigned n) i)

  -- a block of the page file is free if it has no owner
  pub free_shown : (n : ℕ) (o : Option Page) (b : Bool) → n < config.pagefile → o ≡ owner_in a.assigned n → is_some o ≡ not b → b ≡ is_free_block config a n
  free_shown n o b below owner is = tested o b is ∙ (ap is_none owner ∙ sym (free_is n below))

  -- the lowest block without an owner
  pub lowest_is : (n : ℕ) → n < config.pagefile → owner_in a.assigned n ≡ None → ((j : ℕ) → j < n → owner_in a.assigned j ≡ None → ⊥) → lowest_free config a ≡ Some (block.PageFile n)
  lowest_is n below free least =
      ap (option_map block.PageFile)
      (first_passing (is_free_block config a) config.pagefile 0 n (omega arith) (omega (arith, below)) (free_is n below ∙ ap is_none free)
      (λ j less. free_is j (omega (arith, below, less)) ∙ owned (owner_in a.assigned j) (least j less)))
