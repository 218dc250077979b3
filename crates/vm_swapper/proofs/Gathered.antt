-- A run of slots, gathered one after another, and the entries that it gives.
use Rattle.std.proofs.Common.{◌≡◌, ℕ, zero, suc, ◌+◌, ◌-◌, ◌<◌, Bool, true, false, cond, List, [], ◌∷◌, ◌++◌, Option, Some, None, length, refl, sym, ap, ◌∙◌, subst, arith}
use Rattle.std.proofs.lemmas.List.{append_assoc, length-append}
use Rattle.vm_types.specs.declared.config.Config.{Config}
use Rattle.vm_types.specs.declared.names.Page.{Page}
use Rattle.vm_journal.specs.declared.entry.Entry.{Entry}
use Rattle.pager_policy.specs.Given.{Seen, address_of, seen_at}
use Rattle.pager_model.specs.Lookups.{passes}
use Rattle.pager_model.specs.Pager.{Pager}
use Rattle.pager_policy.specs.Swap.{come_target, come_targets, is_out_page, is_to_save, run_from, write_slot, write_slots}
use Rattle.pager_model.specs.Lying.{lying_in}
use Rattle.vm_swapper.specs.Runs.{address_at, address_if, and_then, frame_at, frame_if, gathered, reads_from, writes_from}

module _ {Y : Type 0} (find_at : ℕ → Option Y) (n most : ℕ) where
  -- the items so far, and those from this place on, are all
  pub record IsGathered (items : List Y) (m : ℕ) : Type 0 where
    pub all : items ++ gathered find_at m (n + most - m) ≡ gathered find_at n most
    pub count : length items + n ≡ m

  more : (m : ℕ) → m < n + most → gathered find_at m (n + most - m) ≡ and_then (find_at m) (gathered find_at (m + 1) (n + most - (m + 1)))
  more m less = let one : n + most - m ≡ suc (n + most - (m + 1)) = omega (arith, less) in ap (gathered find_at m) one

  pub one_gathered : (items items' : List Y) (m : ℕ) (y : Y) → m < n + most → IsGathered items m → Some y ≡ find_at m → items' ≡ items ++ y ∷ [] → IsGathered items' (m + 1)
  one_gathered items items' m y less so_far found pushed = record {
    all =
        ap (λ (ys : List Y). ys ++ gathered find_at (m + 1) (n + most - (m + 1))) pushed
        ∙ (append_assoc items (y ∷ []) (gathered find_at (m + 1) (n + most - (m + 1)))
        ∙ (ap (λ (ys : List Y). items ++ ys) (sym (more m less ∙ ap (λ (o : Option Y). and_then o (gathered find_at (m + 1) (n + most - (m + 1)))) (sym found)))
        ∙ so_far.all));
    count = let before = so_far.count in let longer = ap (λ (ys : List Y). length ys) pushed ∙ length-append items (y ∷ []) in omega (arith, before, longer);
  }

-- ---- the writes of a run
module _ (past : List Entry) (a : Pager) (p : ℕ) where
  abbrev saves : ℕ → Bool
  saves m = passes (is_to_save past) (seen_at a p m)

  abbrev WritesFrom : ℕ → ℕ → Type 0
  WritesFrom k n = writes_from p n (gathered (frame_at past a p) n k) ≡ write_slots a p (run_from saves n k)

  abbrev WritesAt : ℕ → ℕ → Option Seen → Type 0
  WritesAt k n o = writes_from p n (and_then (frame_if past o) (gathered (frame_at past a p) (n + 1) k)) ≡ write_slots a p (cond (passes (is_to_save past) o) (n ∷ run_from saves (n + 1) k) [])

  pub writes_are : (k n : ℕ) → WritesFrom k n
  writes_are zero n = refl
  writes_are (suc k) n = by (seen_at a p n) refl (writes_are k (n + 1))
    where
      goes : (s : Seen) → seen_at a p n ≡ Some s → (b : Bool) → WritesFrom k (n + 1)
          → writes_from p n (and_then (cond b (Some s.frame) None) (gathered (frame_at past a p) (n + 1) k)) ≡ write_slots a p (cond b (n ∷ run_from saves (n + 1) k) [])
      goes s seen false rest = refl
      goes s seen true rest = λ i. write_slot p n (sym seen i) ++ rest i

      by : (o : Option Seen) → seen_at a p n ≡ o → WritesFrom k (n + 1) → WritesAt k n (seen_at a p n)
      by None seen rest = subst (WritesAt k n) (sym seen) refl
      by (Some s) seen rest = subst (WritesAt k n) (sym seen) (goes s seen (is_to_save past s) rest)

-- ---- the reads of a run
module _ (config : Config) (a : Pager) (p : ℕ) where
  abbrev comes : ℕ → Bool
  comes m = passes (is_out_page config a) (lying_in a p m)

  abbrev ReadsFrom : ℕ → ℕ → Type 0
  ReadsFrom k n = reads_from p n (gathered (address_at config a p) n k) ≡ come_targets a p (run_from comes n k)

  abbrev ReadsAt : ℕ → ℕ → Option Page → Type 0
  ReadsAt k n o = reads_from p n (and_then (address_if config a o) (gathered (address_at config a p) (n + 1) k)) ≡ come_targets a p (cond (passes (is_out_page config a) o) (n ∷ run_from comes (n + 1) k) [])

  pub reads_are : (k n : ℕ) → ReadsFrom k n
  reads_are zero n = refl
  reads_are (suc k) n = by (lying_in a p n) refl (reads_are k (n + 1))
    where
      goes : (g : Page) → lying_in a p n ≡ Some g → (b : Bool) → ReadsFrom k (n + 1)
          → reads_from p n (and_then (cond b (Some (address_of g).0) None) (gathered (address_at config a p) (n + 1) k)) ≡ come_targets a p (cond b (n ∷ run_from comes (n + 1) k) [])
      goes g lying false rest = refl
      goes g lying true rest = λ i. come_target p n (sym lying i) ++ rest i

      by : (o : Option Page) → lying_in a p n ≡ o → ReadsFrom k (n + 1) → ReadsAt k n (lying_in a p n)
      by None lying rest = subst (ReadsAt k n) (sym lying) refl
      by (Some g) lying rest = subst (ReadsAt k n) (sym lying) (goes g lying (is_out_page config a g) rest)
