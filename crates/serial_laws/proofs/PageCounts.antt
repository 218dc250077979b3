-- Pages and blocks, counted: the page file has a free block for a charged page that has none.
use Rattle.std.proofs.Common.{◌≡◌, ℕ, zero, suc, ◌+◌, ◌<◌, ◌≤◌, Bool, true, false, cond, List, Option, Some, None, length, find, count_by, nat_eq, refl, sym, ap, ◌∙◌, arith}
use Rattle.std.specs.Option.{option_map}
use Rattle.std.specs.List.{AllByRecursion, range_with_len}
use Rattle.std.proofs.lemmas.Bool.{and_from, false≢true, lt-ltb, eq-eqb}
use Rattle.std.proofs.lemmas.List.FromFn.{length-range_with_len}
use Rattle.std.proofs.lemmas.Option.{none-some}
use Rattle.vm_types.specs.Same.{same_page}
use Rattle.vm_types.specs.declared.names.Page.{Page}
use Rattle.vm_types.specs.declared.names.BlockId.{BlockId}
use Rattle.vm_types.specs.declared.names.BlockId.TheVariants as block
use Rattle.vm_types.specs.declared.config.Config.{Config}
use Rattle.pager_model.specs.Around.{PastView}
use Rattle.pager_model.specs.Lookups.{block_of, count_page, is_assigned_to, is_owner}
use Rattle.pager_model.specs.Pager.{Assigned, Pager}
use Rattle.pager_policy.specs.WriteCluster.{is_free_block, lowest_free}
use Rattle.pager_rules.proofs.Basics.{count_from_no_find, same_page_refl}
use Rattle.pager_rules.proofs.Lists.{all_step}
use Rattle.pager_rules.proofs.TouchedPages.{same_page_equiv}
use Rattle.pager_rules.specs.Kept.{IsKept}
use Rattle.pager_laws.proofs.FewAssigned.{one_unassigned}
use Rattle.serial_laws.proofs.Counting.{each_is, once_in_range, pairs_same, sum_less, sum_ones}

turned_count : (g : Page) (pages : List Page) → count_by (λ (h : Page). same_page h g) pages ≡ count_page pages g
turned_count g pages = λ i. count_by (λ (h : Page). same_page_equiv.symm h g i) pages

-- each page of one list, once, that lies in another
pub fewer_pages : (xs ys : List Page) → ((g : Page) → 0 < count_page xs g → 0 < count_page ys g) → ((g : Page) → count_page xs g ≤ 1) → length xs ≤ length ys
fewer_pages xs ys within once =
    let each = sum_less (λ (x : Page). 1) (λ (x : Page). count_by (same_page x) ys) xs (all_step (λ (x : Page). Unit {0}) (λ (x : Page). 1 ≤ count_by (same_page x) ys) xs (λ x counts u. let some = within x (counts (same_page x) (same_page_refl x)) in omega (arith, some)) (each_is (λ (x : Page). Unit {0}) (λ x. tt) xs)) in
    let turned = pairs_same same_page xs ys in
    let few = sum_less (λ (y : Page). count_by (λ (x : Page). same_page x y) xs) (λ (y : Page). 1) ys (each_is (λ (y : Page). count_by (λ (x : Page). same_page x y) xs ≤ 1) (λ y. let one = once y in let same = turned_count y xs in omega (arith, one, same)) ys) in
    omega (arith, each, turned, few, sum_ones xs, sum_ones ys)

module _ (config : Config) (o : PastView) (a : Pager) (kept : IsKept config o a) where
  -- with fewer assigned blocks than it has, one of the page file is free
  no_owner : (n : ℕ) → n < config.pagefile → is_free_block config a n ≡ false → 1 ≤ count_by (is_owner (block.PageFile n)) a.assigned
  no_owner n there taken = by (count_by (is_owner (block.PageFile n)) a.assigned) refl
    where
      by : (m : ℕ) → count_by (is_owner (block.PageFile n)) a.assigned ≡ m → 1 ≤ count_by (is_owner (block.PageFile n)) a.assigned
      by zero is = absurd (false≢true (sym taken ∙ and_from _ _ (lt-ltb n config.pagefile there) (eq-eqb _ _ is)))
      by (suc m) is = omega (arith, is)

  each_owned : (s n : ℕ) → s + n ≤ config.pagefile → find (is_free_block config a) (range_with_len s n) ≡ None → AllByRecursion (λ (k : ℕ). 1 ≤ count_by (is_owner (block.PageFile k)) a.assigned) (range_with_len s n)
  each_owned s zero most none = tt
  each_owned s (suc n) most none = go (is_free_block config a s) refl none (each_owned (s + 1) n (omega (arith, most)))
    where
      go : (b : Bool) → is_free_block config a s ≡ b → cond b (Some s) (find (is_free_block config a) (range_with_len (s + 1) n)) ≡ None
          → (find (is_free_block config a) (range_with_len (s + 1) n) ≡ None → AllByRecursion (λ (k : ℕ). 1 ≤ count_by (is_owner (block.PageFile k)) a.assigned) (range_with_len (s + 1) n))
          → (1 ≤ count_by (is_owner (block.PageFile s)) a.assigned) × AllByRecursion (λ (k : ℕ). 1 ≤ count_by (is_owner (block.PageFile k)) a.assigned) (range_with_len (s + 1) n)
      go true is found rest = absurd (none-some s (sym found))
      go false is found rest = (no_owner s (omega (arith, most)) is, rest found)

  none_free : find (is_free_block config a) (range_with_len 0 config.pagefile) ≡ None → config.pagefile ≤ length a.assigned
  none_free none =
      let blocks : List ℕ = range_with_len 0 config.pagefile in
      let each = sum_less (λ (n : ℕ). 1) (λ (n : ℕ). count_by (is_owner (block.PageFile n)) a.assigned) blocks (each_owned 0 config.pagefile (omega arith) none) in
      let turned = pairs_same (λ (n : ℕ) (x : Assigned). is_owner (block.PageFile n) x) blocks a.assigned in
      let few = sum_less (λ (x : Assigned). count_by (λ (n : ℕ). nat_eq x.block n) blocks) (λ (x : Assigned). 1) a.assigned (each_is (λ (x : Assigned). count_by (λ (n : ℕ). nat_eq x.block n) blocks ≤ 1) (λ x. once_in_range x.block 0 config.pagefile) a.assigned) in
      omega (arith, each, turned, few, sum_ones blocks, sum_ones a.assigned, length-range_with_len 0 config.pagefile)

  unassigned : (g : Page) (u : Option Assigned) → find (is_assigned_to g) a.assigned ≡ u → option_map (λ (x : Assigned). x.block) u ≡ None → count_by (is_assigned_to g) a.assigned ≡ 0
  unassigned g None found none = count_from_no_find (is_assigned_to g) a.assigned found
  unassigned g (Some x) found none = absurd (none-some x.block (sym none))

  pub has_free_block : (g : Page) → 0 < count_page a.charged g → block_of a.assigned g ≡ None → (b : BlockId) × (lowest_free config a ≡ Some b)
  has_free_block g charged none = by (find (is_free_block config a) (range_with_len 0 config.pagefile)) refl
    where
      by : (u : Option ℕ) → find (is_free_block config a) (range_with_len 0 config.pagefile) ≡ u → (b : BlockId) × (lowest_free config a ≡ Some b)
      by None is =
          let most = none_free is in
          let less = one_unassigned config o a g kept charged (unassigned g (find (is_assigned_to g) a.assigned) refl none) in
          let fit = kept.fit in
          absurd (omega (arith, most, less, fit))
      by (Some n) is = (block.PageFile n, ap (option_map block.PageFile) is)
