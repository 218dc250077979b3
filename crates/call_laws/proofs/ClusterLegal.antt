-- The reads of a cluster are legal, each behind the one before it.
use Rattle.std.proofs.Common.{◌≡◌, ◌⊎◌, inl, inr, ℕ, zero, suc, ◌+◌, ◌<◌, ◌≤◌, ◌++◌, true, false, List, [], ◌∷◌, Option, Some, None, length, nat_eq, refl, sym, ap, ◌∙◌, subst, arith}
use Rattle.std.specs.List.{range_with_len}
use Rattle.std.proofs.lemmas.Bool.{and_from, cases_eq, false≢true}
use Rattle.std.proofs.lemmas.Option.{same_Some}
use Rattle.vm_types.specs.Same.{same_block}
use Rattle.vm_types.specs.declared.config.Config.{Config}
use Rattle.vm_types.specs.declared.names.BlockId.{BlockId}
use Rattle.vm_types.specs.declared.names.BlockId.TheVariants as block
use Rattle.vm_types.specs.declared.names.Page.{Page}
use Rattle.vm_journal.specs.declared.entry.Entry.{Entry}
use Rattle.vm_journal.specs.declared.entry.Role.TheVariants as role
use Rattle.vm_journal.specs.declared.entry.What.TheVariants as what
use Rattle.page_lists.specs.Lists.{count_of, without}
use Rattle.pager_policy.specs.Advance.{block_after, following, near_target, near_targets}
use Rattle.pager_policy.specs.Given.{Target, by_seat, reads_made, reuse_first}
use Rattle.pager_model.specs.Maps.{pfn}
use Rattle.pager_model.specs.In.{is_kin}
use Rattle.pager_model.specs.Lookups.{IsHead}
use Rattle.pager_model.specs.Pager.{Pager}
use Rattle.pager_model.specs.Run.{pager_after}
use Rattle.pager_model.specs.Sets.{at_number}
use Rattle.pager_rules.proofs.Basics.{at_number_other, at_number_same, count_cons, count_cons_yes, nat_eq_refl}
use Rattle.pager_rules.proofs.Put.{without_same}
use Rattle.call_laws.specs.AreLegal.{AreLegal}
use Rattle.call_laws.proofs.FollowingPages.{Follows, blocks_apart, kin_of_kin, next_after}
use Rattle.call_laws.proofs.NearLegal.{IsOutIn, IsReadingOn, near_legal, near_reading, out_after_near, out_after_reuse, reading_after_reuse, reuse_between, tail_without}

-- a page that follows at this place, is out now, and lies where it did
pub record IsNextOut (config : Config) (a₀ : Pager) (past : List Entry) (g : Page) (b : BlockId) (places : ℕ) : Type 0 where
  pub page : Page
  pub found : following config a₀ g b places ≡ Some page
  pub follows : Follows config a₀ g b places page
  pub there : IsOutIn config past (block_after b places) page

same_block_refl : (b : BlockId) → same_block b b ≡ true
same_block_refl (block.Section s i) = and_from _ _ (nat_eq_refl s.0) (nat_eq_refl i)
same_block_refl (block.PageFile n) = nat_eq_refl n
same_block_refl (block.Swap q n) = and_from _ _ (nat_eq_refl q.0) (nat_eq_refl n)

pub first_counts : (f : ℕ) (fs : List ℕ) → 0 < count_of (f ∷ fs) f
first_counts f fs = omega (arith, count_cons_yes (λ (x : ℕ). nat_eq x f) f fs (nat_eq_refl f))

pub later_counts : (f : ℕ) (fs : List ℕ) (k : ℕ) → 0 < count_of fs k → 0 < count_of (f ∷ fs) k
later_counts f fs k some = omega (arith, some, count_cons (λ (x : ℕ). nat_eq x k) f fs)

pub not_same : (b c : BlockId) → same_block b c ≡ false → b ≡ c → ⊥
not_same b c apart same = false≢true (sym apart ∙ (ap (λ (d : BlockId). same_block d c) same ∙ same_block_refl c))

module _ (config : Config) (a₀ : Pager) (p : ℕ) (g : Page) (b : BlockId) where
  -- the free frames are those of the list, and hold what they held at first
  abbrev HoldsFirst : List Entry → List ℕ → Type 0
  HoldsFirst past frames = (f : ℕ) → 0 < count_of frames f → (pager_after config past).page f ≡ a₀.page f

  pub record HasFrames (past : List Entry) (frames : List ℕ) : Type 0 where
    pub free : (pager_after config past).free ≡ frames
    pub holds : HoldsFirst past frames

  -- the pages of the places behind j, as many as m, are out
  abbrev pub AllNextOut : List Entry → ℕ → ℕ → Type 0
  AllNextOut past j m = (k : ℕ) → j < k → k ≤ j + m → IsNextOut config a₀ past g b k

  abbrev Rest : ℕ → ℕ → List ℕ → Type 0
  Rest j m frames =
      (past : List Entry) (h : Page) → IsReadingOn config past p (block_after b j) h (j + 1) → ((x : Page) → is_kin g x ≡ true → is_kin h x ≡ true) → HasFrames past frames → AllNextOut past j m → m ≤ length frames → j + 1 + m ≤ config.params.pfc
      → AreLegal config past p (reads_made a₀.page frames (near_targets config a₀ g b (range_with_len (j + 1) m)))

  -- the next read, into an empty frame at the free list's head
  read_next : (j m f : ℕ) (fs : List ℕ) (past : List Entry) (h : Page) → IsReadingOn config past p (block_after b j) h (j + 1) → ((x : Page) → is_kin g x ≡ true → is_kin h x ≡ true)
      → (pager_after config past).free ≡ f ∷ fs → HoldsFirst past fs → (pager_after config past).page f ≡ None → (next : IsNextOut config a₀ past g b (j + 1)) → ((k : ℕ) → j + 1 < k → k ≤ j + suc m → IsNextOut config a₀ past g b k) → j + 1 < config.params.pfc
      → ((past' : List Entry) → IsReadingOn config past' p (block_after b (j + 1)) next.page (j + 1 + 1) → HasFrames past' fs → AllNextOut past' (j + 1) m → AreLegal config past' p (reads_made a₀.page fs (near_targets config a₀ g b (range_with_len (j + 1 + 1) m))))
      → AreLegal config past p (what.In (pfn f) (block_after b (j + 1)) (role.Near next.page) ∷ reads_made a₀.page fs (near_targets config a₀ g b (range_with_len (j + 1 + 1) m)))
  read_next j m f fs past h on kin free holds empty next more room rest =
      let legal = near_legal config past p (block_after b j) h (j + 1) on f (block_after b (j + 1)) next.page (record { head = record { rest = fs; heads = free }; empty = empty }) next.there (next_after b j) (kin next.page next.follows.kin) room next.follows.of in
      (legal, rest _ (near_reading config past p (block_after b j) h (j + 1) on f (block_after b (j + 1)) next.page legal) (record { free = tail; holds = held }) others)
    where
      tail : without (pager_after config past).free f ≡ fs
      tail = tail_without config past on.formed on.run f fs free

      held : (k : ℕ) → 0 < count_of fs k → at_number (pager_after config past).page f (Some next.page) k ≡ a₀.page k
      held k some = go (cases_eq f k)
        where
          once : count_of fs f ≡ 0
          once = ap (λ (xs : List ℕ). count_of xs f) (sym tail) ∙ without_same (pager_after config past).free f

          go : (f ≡ k) ⊎ (f ≡ k → ⊥) → at_number (pager_after config past).page f (Some next.page) k ≡ a₀.page k
          go (inl same) = absurd (let none = ap (count_of fs) (sym same) ∙ once in omega (arith, some, none))
          go (inr apart) = at_number_other (pager_after config past).page f (Some next.page) k apart ∙ holds k some

      others : (k : ℕ) → j + 1 < k → k ≤ j + 1 + m → IsNextOut config a₀ (by_seat p (what.In (pfn f) (block_after b (j + 1)) (role.Near next.page)) ∷ past) g b k
      others k above below =
          let other = more k above (omega (arith, below)) in
          let apart = blocks_apart b (j + 1) k above in
          record {
            page = other.page;
            found = other.found;
            follows = other.follows;
            there = out_after_near config past p f (block_after b k) other.page other.there (block_after b (j + 1)) next.page apart
                (λ same. not_same (block_after b k) (block_after b (j + 1)) apart (same_Some _ _ (sym other.follows.lies ∙ (ap a₀.lies (sym same) ∙ next.follows.lies))));
          }

  -- a frame that holds a page gives it up first
  reuse_then : (j m f : ℕ) (fs : List ℕ) (past : List Entry) (h : Page) → IsReadingOn config past p (block_after b j) h (j + 1) → ((x : Page) → is_kin g x ≡ true → is_kin h x ≡ true)
      → HasFrames past (f ∷ fs) → (next : IsNextOut config a₀ past g b (j + 1)) → ((k : ℕ) → j + 1 < k → k ≤ j + suc m → IsNextOut config a₀ past g b k) → j + 1 < config.params.pfc
      → ((past' : List Entry) → IsReadingOn config past' p (block_after b (j + 1)) next.page (j + 1 + 1) → HasFrames past' fs → AllNextOut past' (j + 1) m → AreLegal config past' p (reads_made a₀.page fs (near_targets config a₀ g b (range_with_len (j + 1 + 1) m))))
      → (o : Option Page) → a₀.page f ≡ o
      → AreLegal config past p (reuse_first o f (what.In (pfn f) (block_after b (j + 1)) (role.Near next.page) ∷ reads_made a₀.page fs (near_targets config a₀ g b (range_with_len (j + 1 + 1) m))))
  reuse_then j m f fs past h on kin frames next more room rest None is =
      read_next j m f fs past h on kin frames.free (λ k some. frames.holds k (later_counts f fs k some)) (frames.holds f (first_counts f fs) ∙ is) next more room rest
  reuse_then j m f fs past h on kin frames next more room rest (Some x) is =
      let holds = frames.holds f (first_counts f fs) ∙ is in
      let head : IsHead (pager_after config past).free f = record { rest = fs; heads = frames.free } in
      let legal = reuse_between config past p (block_after b j) h (j + 1) on f x head holds in
      let past' : List Entry = by_seat p (what.Reuse (pfn f) x) ∷ past in (
        legal,
        read_next j m f fs past' h (reading_after_reuse config past p (block_after b j) h (j + 1) on f x head legal) kin
            (ap (λ (xs : List ℕ). f ∷ xs) (tail_without config past on.formed on.run f fs frames.free)) held (at_number_same (pager_after config past).page f None)
            (moved next) (λ k above below. moved (more k above below)) room rest,
      )
    where
      held : (k : ℕ) → 0 < count_of fs k → at_number (pager_after config past).page f None k ≡ a₀.page k
      held k some = go (cases_eq f k)
        where
          once : count_of fs f ≡ 0
          once = ap (λ (xs : List ℕ). count_of xs f) (sym (tail_without config past on.formed on.run f fs frames.free)) ∙ without_same (pager_after config past).free f

          go : (f ≡ k) ⊎ (f ≡ k → ⊥) → at_number (pager_after config past).page f None k ≡ a₀.page k
          go (inl same) = absurd (let none = ap (count_of fs) (sym same) ∙ once in omega (arith, some, none))
          go (inr apart) = at_number_other (pager_after config past).page f None k apart ∙ frames.holds k (later_counts f fs k some)

      moved : {k : ℕ} → IsNextOut config a₀ past g b k → IsNextOut config a₀ (by_seat p (what.Reuse (pfn f) x) ∷ past) g b k
      moved {k} out = record { page = out.page; found = out.found; follows = out.follows; there = out_after_reuse config past p f (block_after b k) out.page out.there x }

  -- the neighbours' reads
  pub near_reads : (m j : ℕ) (frames : List ℕ) → Rest j m frames
  near_reads zero j frames past h on kin has next few room = by frames
    where
      by : (fs : List ℕ) → AreLegal config past p (reads_made a₀.page fs [])
      by [] = tt
      by (f ∷ fs) = tt
  near_reads (suc m) j [] past h on kin has next few room = absurd (omega (arith, few))
  near_reads (suc m) j (f ∷ fs) past h on kin has next few room =
      let now = next (j + 1) (omega arith) (omega arith) in
      subst (λ (ts : List Target). AreLegal config past p (reads_made a₀.page (f ∷ fs) (ts ++ near_targets config a₀ g b (range_with_len (j + 1 + 1) m))))
      (sym (ap (near_target (block_after b (j + 1))) now.found))
      (reuse_then j m f fs past h on kin has now (λ k above below. next k (omega (arith, above)) below) (omega (arith, room))
      (λ past' on' has' next'. near_reads m (j + 1) fs past' now.page on' (λ x kin_x. kin_of_kin g now.page x now.follows.kin kin_x) has' next' (omega (arith, few)) (omega (arith, room)))
      (a₀.page f) refl)
