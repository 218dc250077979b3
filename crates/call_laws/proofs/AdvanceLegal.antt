-- What is made for a reference is legal.
use Rattle.std.proofs.Common.{◌≡◌, ◌⊎◌, inl, inr, ℕ, zero, suc, ◌+◌, ◌-◌, ◌*◌, ◌<◌, ◌≤◌, ◌^◌, ◌&&◌, Bool, true, false, cond, not, List, [], ◌∷◌, Option, Some, None, length, map, find, count_by, nat_eq, nat_le, slice_get, refl, sym, ap, ◌∙◌, subst, arith}
use Rattle.std.specs.List.{range_with_len}
use Rattle.std.specs.Option.{is_some}
use Rattle.std.proofs.lemmas.Bool.{cases_eq, false≢true, leb-true, leb-false}
use Rattle.std.proofs.lemmas.Option.{none-some, same_Some}
use Rattle.vm_types.specs.declared.limits.TheConstants.{PAGE_BYTES}
use Rattle.vm_types.specs.Adjust.{greater, lesser}
use Rattle.vm_types.specs.Ring.{choose, filled}
use Rattle.vm_types.specs.WellFormed.{IsWellFormedReference}
use Rattle.vm_types.specs.declared.config.Config.{Config}
use Rattle.vm_types.specs.declared.config.ProcSpec.{ProcSpec}
use Rattle.vm_types.specs.declared.names.BlockId.{BlockId}
use Rattle.vm_types.specs.declared.names.Page.{Page}
use Rattle.vm_types.specs.declared.names.ProcStatus.{ProcStatus}
use Rattle.vm_types.specs.declared.names.ProcStatus.TheVariants as status
use Rattle.vm_types.specs.declared.reference.Ref.{Ref}
use Rattle.vm_types.specs.declared.reply.Why.{Why}
use Rattle.vm_journal.specs.declared.entry.Entry.{Entry}
use Rattle.vm_journal.specs.declared.entry.What.TheVariants as what
use Rattle.pager_policy.specs.Advance.{GivenNext, advance_gives, again_block_busy, again_charging, again_collided, again_modified_full, again_not_resident, block_after, collide_given, entry_given, fault_given, following, frame_given, gives_again, held_given, is_busy_block, is_named, is_out, limit_given, mapped_given, near_targets, read_given, refused_given, replace_given, replace_seen, room_given, source_of, window}
use Rattle.pager_model.specs.Charging.{first_source, is_uncharged}
use Rattle.pager_model.specs.Around.{past_view}
use Rattle.pager_model.specs.Back.{after_any_back}
use Rattle.pager_model.specs.Changes.{valid_at}
use Rattle.pager_model.specs.ClusterLength.{cluster_length, leading_out}
use Rattle.pager_model.specs.Evict.{victim_of}
use Rattle.pager_model.specs.Flat.{flat_refusal}
use Rattle.pager_model.specs.Flights.{Flight, failed_flight, is_busy, open_flights}
use Rattle.pager_model.specs.Forget.{holder}
use Rattle.pager_policy.specs.Given.{Seen, by_seat, is_stopped, page_address, reads_made, reuse_first, seen_at, unsaid}
use Rattle.pager_model.specs.Maps.{pfn, page_behind, page_number, proc}
use Rattle.pager_model.specs.In.{IsFirstIn}
use Rattle.pager_model.specs.Lookups.{count_page, entry_of, is_pending, page_by}
use Rattle.vm_types.specs.Status.{is_resident}
use Rattle.pager_model.specs.OfConfig.{IsPageOf}
use Rattle.pager_model.specs.Own.{IsEmptyHead}
use Rattle.pager_model.specs.Pager.{Pager, Valid}
use Rattle.pager_model.specs.Reuse.{charged_reused}
use Rattle.pager_model.specs.Run.{pager_after}
use Rattle.pager_model.specs.Sets.{at_number}
use Rattle.pager_model.specs.Spoken.{flat_after}
use Rattle.pager_model.specs.Step.{IsLegal}
use Rattle.pager_model.specs.Transfers.{is_on_block, is_read_on}
use Rattle.pager_rules.proofs.Basics.{at_number_other, at_number_same, each_fails}
use Rattle.pager_rules.proofs.Lists.{all_found}
use Rattle.pager_rules.proofs.Put.{without_same}
use Rattle.page_lists.specs.Lists.{count_of, without}
use Rattle.vm_types.specs.Same.{same_block}
use Rattle.vm_journal.specs.declared.entry.Role.TheVariants as role
use Rattle.pager_rules.proofs.Quiet.{no_failure}
use Rattle.pager_laws.proofs.OfConfigKept.{page_right}
use Rattle.call_laws.specs.AreLegal.{AreLegal}
use Rattle.call_laws.proofs.AnswersLegal.{denied_legal, done_legal}
use Rattle.call_laws.proofs.BlocksHome.{lying_home}
use Rattle.call_laws.proofs.ClusterLegal.{AllNextOut, IsNextOut, near_reads, not_same}
use Rattle.call_laws.proofs.EntersLegal.{back_legal, back_ready, back_valid, reuse_legal, reuse_ready, zero_legal, zero_ready, zero_valid}
use Rattle.call_laws.proofs.FollowingPages.{block_at_none, blocks_apart, page_follows}
use Rattle.call_laws.specs.Ready.{IsReady}
use Rattle.call_laws.proofs.FreeTurn.{same_number}
use Rattle.call_laws.proofs.NearLegal.{IsReadingOn, out_after_fault, out_after_reuse, tail_without}
use Rattle.call_laws.proofs.ReadsLegal.{Comes, IsNewZero, comes_from, held_by_none, in_fault_legal, in_fault_reading, lying_block, new_zero, still_block}
use Rattle.call_laws.proofs.WaitsLegal.{collide_legal, kept, limit_legal, replace_legal, right}

-- the first so many that are out
pub out_in_front : (t : ℕ → Bool) (n s k : ℕ) → s ≤ k → k < s + leading_out (map t (range_with_len s n)) → t k ≡ true
out_in_front t zero s k least most = absurd (omega (arith, least, most))
out_in_front t (suc n) s k least most = go (t s) refl most (cases_eq s k) (out_in_front t n (s + 1) k)
  where
    go : (b : Bool) → t s ≡ b → k < s + cond b (leading_out (map t (range_with_len (s + 1) n)) + 1) 0 → (s ≡ k) ⊎ (s ≡ k → ⊥) → (s + 1 ≤ k → k < s + 1 + leading_out (map t (range_with_len (s + 1) n)) → t k ≡ true) → t k ≡ true
    go b is less (inl same) rest = by b is less
      where
        by : (c : Bool) → t s ≡ c → k < s + cond c (leading_out (map t (range_with_len (s + 1) n)) + 1) 0 → t k ≡ true
        by true is less = ap t (sym same) ∙ is
        by false is less = absurd (omega (arith, same, less))
    go true is less (inr apart) rest = rest (omega (arith, least, apart)) (omega (arith, less))
    go false is less (inr apart) rest = absurd (omega (arith, least, less))

pub many_in_front : (t : ℕ → Bool) (n s : ℕ) → leading_out (map t (range_with_len s n)) ≤ n
many_in_front t zero s = omega arith
many_in_front t (suc n) s = go (t s) (many_in_front t n (s + 1))
  where
    go : (b : Bool) → leading_out (map t (range_with_len (s + 1) n)) ≤ n → cond b (leading_out (map t (range_with_len (s + 1) n)) + 1) 0 ≤ suc n
    go true few = omega (arith, few)
    go false few = omega arith

-- a seat without an open flight reads nothing
not_own : (p f : ℕ) (flights : List Flight) (x : Flight) → is_busy p flights ≡ false → find (is_read_on f) flights ≡ Some x → nat_eq x.seat p ≡ true → ⊥
not_own p f flights x idle found own = false≢true (sym (all_found (λ (y : Flight). nat_eq y.seat p ≡ false) (is_read_on f) flights x (each_fails (λ (y : Flight). nat_eq y.seat p) flights idle) found) ∙ own)

-- ---- the lesser and the greater of two numbers
pub lesser_first : (m n : ℕ) → lesser m n ≤ m
lesser_first m n = go (nat_le m n) refl
  where
    go : (b : Bool) → nat_le m n ≡ b → cond b m n ≤ m
    go true is = omega arith
    go false is = let less = leb-false m n is in omega (arith, less)

pub lesser_second : (m n : ℕ) → lesser m n ≤ n
lesser_second m n = go (nat_le m n) refl
  where
    go : (b : Bool) → nat_le m n ≡ b → cond b m n ≤ n
    go true is = leb-true m n is
    go false is = omega arith

one_if_few : (n : ℕ) → greater 1 n ≤ 1 ⊎ (greater 1 n ≤ n)
one_if_few n = go (nat_le 1 n)
  where
    go : (b : Bool) → cond b n 1 ≤ 1 ⊎ (cond b n 1 ≤ n)
    go true = inr (omega arith)
    go false = inl (omega arith)

module _ (config : Config) (p : ℕ) (r : Ref) (formed_r : IsWellFormedReference r) where
  abbrev v : ℕ
  v = page_number (r.addr).0

  -- the page's entry is valid, and nothing stands against the reference
  answered : (past : List Entry) → IsReady config past p → is_pending config ((pager_after config past).references p) ≡ false → flat_refusal config (flat_after config past) p r ≡ None
      → (e : Valid) → entry_of (pager_after config past).valid p v ≡ Some e → AreLegal config past p (what.Done r unsaid ∷ [])
  answered past ready not_pending none e valid = ((λ reply answers. done_legal config past p ready r reply e formed_r answers not_pending none valid), tt)

  -- zeros into an empty frame
  zeroed : (past : List Entry) (ready : IsReady config past p) → length past + 1 < 2 ^ 63 → is_pending config ((pager_after config past).references p) ≡ false → flat_refusal config (flat_after config past) p r ≡ None
      → filled ((pager_after config past).ring p).slots < (pager_after config past).limit p → IsNewZero config past p ready v → (f : ℕ) → IsEmptyHead (pager_after config past) f
      → AreLegal config past p (what.Zero (page_address v) (pfn f) ∷ what.Done r unsaid ∷ [])
  zeroed past ready few not_pending none below z f empty =
      let legal = zero_legal config past p ready v f z.mapping z.mapped z.zero z.uncharged z.room below empty in
      (legal, answered (by_seat p (what.Zero (page_address v) (pfn f)) ∷ past) (zero_ready config past p ready v f legal few) not_pending none (valid_at p v f) (zero_valid config past p ready v f))

  -- the reads of a cluster, into an empty frame and those behind it
  read_on : (past₀ past : List Entry) (ready : IsReady config past p) (g : Page) (b : BlockId) → page_by config (pager_after config past).map p v ≡ Some g → ((k : ℕ) → (pager_after config past).page k ≡ Some g → ⊥)
      → filled ((pager_after config past).ring p).slots < (pager_after config past).limit p → Comes config past p ready v g b → count_by (is_on_block b) (open_flights past) ≡ 0
      → (f : ℕ) (fs : List ℕ) → (pager_after config past).free ≡ f ∷ fs → (pager_after config past).page f ≡ None → ((k : ℕ) → 0 < count_of fs k → (pager_after config past).page k ≡ (pager_after config past₀).page k)
      → (m : ℕ) → m ≤ length fs → 1 + m ≤ config.params.pfc → ((k : ℕ) → 0 < k → k ≤ m → (next : IsNextOut config (pager_after config past₀) past g b k) × (g ≡ next.page → ⊥))
      → AreLegal config past p (what.In (pfn f) b (role.Fault (proc p) (page_address v)) ∷ reads_made (pager_after config past₀).page fs (near_targets config (pager_after config past₀) g b (range_with_len 1 m)))
  read_on past₀ past ready g b mapped out below comes still f fs free empty holds m few room next =
      let legal = in_fault_legal config past p ready v f g b mapped out below (record { head = record { rest = fs; heads = free }; empty = empty }) comes still in
      let on = in_fault_reading config past p ready v f g b mapped legal in (
        legal,
        near_reads config (pager_after config past₀) p g b m 0 fs now g (subst (λ (c : BlockId). IsReadingOn config now p c g 1) (sym (block_at_none b)) on) (λ x kin. kin)
            (record { free = tail; holds = held }) others few room,
      )
    where
      now : List Entry
      now = by_seat p (what.In (pfn f) b (role.Fault (proc p) (page_address v))) ∷ past

      tail : without (pager_after config past).free f ≡ fs
      tail = tail_without config past ready.formed ready.run f fs free

      put : Option Page
      put = page_by config (pager_after config past).map p (page_number (PAGE_BYTES * v))

      held : (k : ℕ) → 0 < count_of fs k → at_number (pager_after config past).page f put k ≡ (pager_after config past₀).page k
      held k some = go (cases_eq f k)
        where
          once : count_of fs f ≡ 0
          once = ap (λ (xs : List ℕ). count_of xs f) (sym tail) ∙ without_same (pager_after config past).free f

          go : (f ≡ k) ⊎ (f ≡ k → ⊥) → at_number (pager_after config past).page f put k ≡ (pager_after config past₀).page k
          go (inl same) = absurd (let none = ap (count_of fs) (sym same) ∙ once in omega (arith, some, none))
          go (inr apart) = at_number_other (pager_after config past).page f put k apart ∙ holds k some

      others : AllNextOut config (pager_after config past₀) p g b (by_seat p (what.In (pfn f) b (role.Fault (proc p) (page_address v))) ∷ past) 0 m
      others k above most =
          let found = next k above (omega (arith, most)) in
          record {
            page = found.0.page;
            found = found.0.found;
            follows = found.0.follows;
            there = out_after_fault config past p f (block_after b k) found.0.page found.0.there b g v (ap (page_by config (pager_after config past).map p) (same_number v) ∙ mapped)
                (subst (λ (c : BlockId). same_block (block_after b k) c ≡ false) (block_at_none b) (blocks_apart b 0 k above)) found.1;
          }

module _ (config : Config) (past : List Entry) (p : ℕ) (r : Ref) (formed_r : IsWellFormedReference r) (ready : IsReady config past p) (few : length past + 2 < 2 ^ 63) where
  abbrev a : Pager
  a = pager_after config past

  abbrev w : ℕ
  w = page_number (r.addr).0

  abbrev Legal : GivenNext → Type 0
  Legal x = AreLegal config past p x.made

  either : (b : Bool) (x y : GivenNext) → (b ≡ true → Legal x) → (b ≡ false → Legal y) → Legal (cond b x y)
  either true x y first second = first refl
  either false x y first second = second refl

  -- a reuse of the free list's head leaves the charges
  charges_stay : (x : Page) → charged_reused (failed_flight past) x a.charged ≡ a.charged
  charges_stay x = ap (λ (o : Option Flight). charged_reused o x a.charged) (no_failure past ready.free.calm)

  -- ---- below the limit, with room in the page file, the page in no frame
  module _ (not_pending : is_pending config (a.references p) ≡ false) (none : flat_refusal config (flat_after config past) p r ≡ None) (g : Page) (mapped : page_by config a.map p w ≡ Some g) where
    reused : (f : ℕ) (fs : List ℕ) (x : Page) → a.free ≡ f ∷ fs → a.page f ≡ Some x → IsLegal config past a (by_seat p (what.Reuse (pfn f) x))
    reused f fs x free holds = reuse_legal config past p ready f x (record { rest = fs; heads = free }) holds

    module _ (out : (k : ℕ) → a.page k ≡ Some g → ⊥) (room : (is_uncharged config a g && nat_eq (length a.charged) config.pagefile) ≡ false) (below : filled (a.ring p).slots < a.limit p) (f : ℕ) (fs : List ℕ) (free : a.free ≡ f ∷ fs) where
      emptied : (x : Page) (k : ℕ) → at_number a.page f None k ≡ Some g → ⊥
      emptied x k is = go (cases_eq f k)
        where
          go : (f ≡ k) ⊎ (f ≡ k → ⊥) → ⊥
          go (inl same) = none-some g (sym (at_number_same a.page f None) ∙ (ap (at_number a.page f None) same ∙ is))
          go (inr apart) = out k (sym (at_number_other a.page f None k apart) ∙ is)

      -- ---- ZERO
      zero_by : source_of config a g (a.map p w) ≡ None → (o : Option Page) → a.page f ≡ o → AreLegal config past p (reuse_first o f (what.Zero (page_address w) (pfn f) ∷ what.Done r unsaid ∷ []))
      zero_by source None holds = zeroed config p r formed_r past ready (omega (arith, few)) not_pending none below (new_zero config past p ready w g mapped out source room) f (record { head = record { rest = fs; heads = free }; empty = holds })
      zero_by source (Some x) holds =
          let legal = reused f fs x free holds in
          let ready' = reuse_ready config past p ready f x legal (omega (arith, few)) in
          let z = new_zero config past p ready w g mapped out source room in (
            legal,
            zeroed config p r formed_r (by_seat p (what.Reuse (pfn f) x) ∷ past) ready' (omega (arith, few)) not_pending none below
                (record {
                  mapping = z.mapping;
                  mapped = z.mapped;
                  zero = z.zero;
                  uncharged = ap (λ (pages : List Page). count_page pages (page_behind config p w z.mapping.origin)) (charges_stay x) ∙ z.uncharged;
                  room = subst (λ (pages : List Page). length pages < config.pagefile) (sym (charges_stay x)) z.room;
                }) f (record { head = record { rest = without a.free f; heads = refl }; empty = at_number_same a.page f None }),
          )

      -- ---- the reads of a cluster
      module _ (b : BlockId) (source : source_of config a g (a.map p w) ≡ Some b) (still : is_busy_block past (Some b) ≡ false) where
        abbrev many : ℕ
        many = cluster_length (window config a g b) config.params.pfc (length a.free)

        comes : Comes config past p ready w g b
        comes = comes_from config past p ready w g b source room

        of : IsPageOf config g
        of = page_right config a.map p w g (right config past p ready).mapped mapped

        -- the neighbours are out, each in its block
        neighbour : (k : ℕ) → 0 < k → k ≤ many - 1 → (next : IsNextOut config a past g b k) × (g ≡ next.page → ⊥)
        neighbour k above most = by_charge (is_uncharged config a g) refl source
          where
            fewer : (ws : List Bool) → window config a g b ≡ ws → k + 1 ≤ leading_out ws
            fewer ws is =
                let less = lesser_first (lesser (leading_out (window config a g b)) config.params.pfc) (greater 1 (length a.free - 1)) in
                let least = lesser_first (leading_out (window config a g b)) config.params.pfc in
                let same = ap leading_out is in
                omega (arith, above, most, less, least, same)

            is_next : a.lies g ≡ Some b → (o : Option Page) → following config a g b k ≡ o → is_out config a o ≡ true → (next : IsNextOut config a past g b k) × (g ≡ next.page → ⊥)
            is_next lies None found passes = absurd (false≢true passes)
            is_next lies (Some h) found passes =
                let follows = page_follows config (past_view past) a (kept config past p ready) (right config past p ready) g b k h of lies found in
                let nowhere = held_by_none config past a h (kept config past p ready) (not_held (holder config a.page h) passes) in (
                  record {
                    page = h;
                    found = found;
                    follows = follows;
                    there = record {
                      exists = lying_block config past p ready h (block_after b k) follows.of follows.lies;
                      still = lying_home config (past_view past) a (kept config past p ready) h (block_after b k) follows.of follows.lies (λ f holds. absurd (nowhere f holds));
                      out = nowhere;
                      lies = follows.lies;
                    };
                  },
                  λ same. not_same (block_after b k) b (subst (λ (c : BlockId). same_block (block_after b k) c ≡ false) (block_at_none b) (blocks_apart b 0 k above)) (same_Some _ _ (sym follows.lies ∙ (ap a.lies (sym same) ∙ lies))),
                )
              where
                not_held : (o : Option ℕ) → not (is_some o) ≡ true → o ≡ None
                not_held None is = refl
                not_held (Some n) is = absurd (false≢true is)

            by_charge : (c : Bool) → is_uncharged config a g ≡ c → cond c (first_source g (a.map p w)) (a.lies g) ≡ Some b → (next : IsNextOut config a past g b k) × (g ≡ next.page → ⊥)
            by_charge true is there = absurd (let one = fewer (true ∷ []) (ap (λ (c : Bool). cond c (true ∷ []) (true ∷ map (λ (places : ℕ). is_out config a (following config a g b places)) (range_with_len 1 (config.params.pfc - 1)))) is) in omega (arith, above, one))
            by_charge false is there =
                let test : ℕ → Bool = λ places. is_out config a (following config a g b places) in
                let front = fewer (true ∷ map test (range_with_len 1 (config.params.pfc - 1))) (ap (λ (c : Bool). cond c (true ∷ []) (true ∷ map test (range_with_len 1 (config.params.pfc - 1)))) is) in
                is_next there (following config a g b k) refl (out_in_front test (config.params.pfc - 1) 1 k (omega (arith, above)) (omega (arith, front)))

        enough : many - 1 ≤ length fs
        enough =
            let most = lesser_second (lesser (leading_out (window config a g b)) config.params.pfc) (greater 1 (length a.free - 1)) in
            by (one_if_few (length a.free - 1)) most
          where
            by : (greater 1 (length a.free - 1) ≤ 1) ⊎ (greater 1 (length a.free - 1) ≤ length a.free - 1) → many ≤ greater 1 (length a.free - 1) → many - 1 ≤ length fs
            by (inl one) most = omega (arith, one, most)
            by (inr less) most = let size = ap length free in omega (arith, less, most, size)

        in_cluster : 1 + (many - 1) ≤ config.params.pfc
        in_cluster =
            let most = lesser_first (lesser (leading_out (window config a g b)) config.params.pfc) (greater 1 (length a.free - 1)) in
            let pfc = lesser_second (leading_out (window config a g b)) config.params.pfc in
            let some = ready.formed.params.pfc.0 in
            omega (arith, most, pfc, some)

        reads_by : (o : Option Page) → a.page f ≡ o → AreLegal config past p (reuse_first o f (what.In (pfn f) b (role.Fault (proc p) (page_address w)) ∷ reads_made a.page fs (near_targets config a g b (range_with_len 1 (many - 1)))))
        reads_by None holds = read_on config p r formed_r past past ready g b mapped out below comes (still_block past b still) f fs free holds (λ k some. refl) (many - 1) enough in_cluster neighbour
        reads_by (Some x) holds =
            let legal = reused f fs x free holds in
            let ready' = reuse_ready config past p ready f x legal (omega (arith, few)) in (
              legal,
              read_on config p r formed_r past (by_seat p (what.Reuse (pfn f) x) ∷ past) ready' g b mapped (emptied x) below (comes_still x comes) (still_block past b still) f fs
                  (ap (λ (xs : List ℕ). f ∷ xs) (tail_without config past ready.formed ready.run f fs free)) (at_number_same a.page f None) (held x) (many - 1) enough in_cluster (λ k above most. moved x (neighbour k above most)),
            )
          where
            comes_still : (x : Page) → Comes config past p ready w g b → (a.lies g ≡ Some b) ⊎ IsFirstIn config (pager_after config (by_seat p (what.Reuse (pfn f) x) ∷ past)) p w b g
            comes_still x (inl lies) = inl lies
            comes_still x (inr first) = inr (record {
              private = first.private;
              behind = first.behind;
              uncharged = ap (λ (pages : List Page). count_page pages g) (charges_stay x) ∙ first.uncharged;
              room = subst (λ (pages : List Page). length pages < config.pagefile) (sym (charges_stay x)) first.room;
            })

            held : (x : Page) (k : ℕ) → 0 < count_of fs k → at_number a.page f None k ≡ a.page k
            held x k some = go (cases_eq f k)
              where
                once : count_of fs f ≡ 0
                once = ap (λ (xs : List ℕ). count_of xs f) (sym (tail_without config past ready.formed ready.run f fs free)) ∙ without_same a.free f

                go : (f ≡ k) ⊎ (f ≡ k → ⊥) → at_number a.page f None k ≡ a.page k
                go (inl same) = absurd (let none = ap (count_of fs) (sym same) ∙ once in omega (arith, some, none))
                go (inr apart) = at_number_other a.page f None k apart

            moved : {k : ℕ} (x : Page) → (next : IsNextOut config a past g b k) × (g ≡ next.page → ⊥) → (next : IsNextOut config a (by_seat p (what.Reuse (pfn f) x) ∷ past) g b k) × (g ≡ next.page → ⊥)
            moved {k} x next = (record { page = next.0.page; found = next.0.found; follows = next.0.follows; there = out_after_reuse config past p f (block_after b k) next.0.page next.0.there x }, next.1)

    -- ---- the page comes from where it is
    framed : ((k : ℕ) → a.page k ≡ Some g → ⊥) → (is_uncharged config a g && nat_eq (length a.charged) config.pagefile) ≡ false → filled (a.ring p).slots < a.limit p
        → (o : Option BlockId) → source_of config a g (a.map p w) ≡ o → is_busy_block past o ≡ false → (frames : List ℕ) → a.free ≡ frames → Legal (frame_given config a p r g o frames)
    framed out room below o source still [] free = tt
    framed out room below None source still (f ∷ fs) free = zero_by out room below f fs free source (a.page f) refl
    framed out room below (Some b) source still (f ∷ fs) free = reads_by out room below f fs free b source still (a.page f) refl

    held_legal : ((f : ℕ) → holder config a.page g ≡ Some f → find (is_read_on f) (open_flights past) ≡ None) → entry_of a.valid p w ≡ None → (is_uncharged config a g && nat_eq (length a.charged) config.pagefile) ≡ false → filled (a.ring p).slots < a.limit p
        → (o : Option ℕ) → holder config a.page g ≡ o → Legal (held_given config past a p r g o)
    held_legal unread invalid room below (Some f) holds =
        let legal = back_legal config past p ready w f g mapped invalid holds (unread f holds) below in
        (legal, answered config p r formed_r (by_seat p (what.Back (proc p) (page_address w) (pfn f) (a.state f)) ∷ past) (back_ready config past p ready w f legal (omega (arith, few))) (still_pending f (a.status p)) none (valid_at p w f) (back_valid config past p ready w f))
      where
        still_pending : (f : ℕ) (s : ProcStatus) → is_pending config ((after_any_back a s p (PAGE_BYTES * w) f).references p) ≡ false
        still_pending f status.Coming = not_pending
        still_pending f status.Resident = not_pending
        still_pending f status.Leaving = not_pending
        still_pending f status.Gone = not_pending
    held_legal unread invalid room below None holds =
        either (is_busy_block past (source_of config a g (a.map p w))) (gives_again again_block_busy) (frame_given config a p r g (source_of config a g (a.map p w)) a.free) (λ busy. tt)
        (λ still. framed (held_by_none config past a g (kept config past p ready) holds) room below (source_of config a g (a.map p w)) refl still a.free refl)

    replaced : (o : Option Seen) → seen_at a p (victim_of (choose (a.ring p) (a.limit p))) ≡ o → a.limit p ≤ filled (a.ring p).slots → Legal (replace_seen config past a p o)
    replaced None seen full = tt
    replaced (Some s) seen full = either (is_stopped config past a s.frame) (gives_again again_modified_full) _ (λ stopped. tt) (λ goes. (replace_legal config past p ready s full seen goes, tt))

    room_legal : ((f : ℕ) → holder config a.page g ≡ Some f → find (is_read_on f) (open_flights past) ≡ None) → entry_of a.valid p w ≡ None → Legal (room_given config past a p r g)
    room_legal unread invalid =
        either (is_uncharged config a g && nat_eq (length a.charged) config.pagefile) (gives_again again_charging) _ (λ charging. tt) (λ room.
        either (nat_le (a.limit p) (filled (a.ring p).slots)) (replace_given config past a p) (held_given config past a p r g (holder config a.page g))
        (λ full. replaced (seen_at a p (victim_of (choose (a.ring p) (a.limit p)))) refl (leb-true _ _ full))
        (λ less. held_legal unread invalid room (let under = leb-false (a.limit p) (filled (a.ring p).slots) less in omega (arith, under)) (holder config a.page g) refl))

    read_legal : (f : ℕ) → holder config a.page g ≡ Some f → entry_of a.valid p w ≡ None → (o : Option Flight) → find (is_read_on f) (open_flights past) ≡ o → Legal (read_given config past a p r g f o)
    read_legal f holds invalid None found = room_legal (λ k is. ap (λ (n : ℕ). find (is_read_on n) (open_flights past)) (same_Some k f (sym is ∙ holds)) ∙ found) invalid
    read_legal f holds invalid (Some x) found =
        either (nat_eq x.seat p) (room_given config past a p r g) (collide_given a p r f x) (λ own. absurd (not_own p f (open_flights past) x ready.free.idle found own)) (λ other.
        either (is_named (a.collided p) x.start) (gives_again again_collided) _ (λ named. tt) (λ unnamed. (collide_legal config past p ready w f g x mapped holds found other unnamed, tt)))

    fault_legal : entry_of a.valid p w ≡ None → (o : Option ℕ) → holder config a.page g ≡ o → Legal (fault_given config past a p r g o)
    fault_legal invalid None holds = room_legal (λ f is. absurd (none-some f (sym holds ∙ is))) invalid
    fault_legal invalid (Some f) holds = read_legal f holds invalid (find (is_read_on f) (open_flights past)) refl

  mapped_legal : is_pending config (a.references p) ≡ false → flat_refusal config (flat_after config past) p r ≡ None → entry_of a.valid p w ≡ None → (o : Option Page) → page_by config a.map p w ≡ o → Legal (mapped_given config past a p r o)
  mapped_legal not_pending none invalid None mapped = tt
  mapped_legal not_pending none invalid (Some g) mapped = fault_legal not_pending none g mapped invalid (holder config a.page g) refl

  entry_legal : is_pending config (a.references p) ≡ false → flat_refusal config (flat_after config past) p r ≡ None → (o : Option Valid) → entry_of a.valid p w ≡ o → Legal (entry_given config past a p r o)
  entry_legal not_pending none (Some e) valid = answered config p r formed_r past ready not_pending none e valid
  entry_legal not_pending none None valid = mapped_legal not_pending none valid (page_by config a.map p w) refl

  refused_legal : is_pending config (a.references p) ≡ false → (o : Option Why) → flat_refusal config (flat_after config past) p r ≡ o → Legal (refused_given config past a p r o)
  refused_legal not_pending (Some reason) refused = (denied_legal config past p ready r reason formed_r not_pending refused, tt)
  refused_legal not_pending None refused = entry_legal not_pending refused (entry_of a.valid p w) refl

  adjusted_legal : is_pending config (a.references p) ≡ true → (o : Option ProcSpec) → slice_get config.procs p ≡ o → Legal (limit_given config a p o)
  adjusted_legal pending None found = tt
  adjusted_legal pending (Some spec) found = (limit_legal config past p ready spec found pending, tt)

  -- what is made for the reference is legal, each entry after those before it
  pub advance_legal : AreLegal config past p (advance_gives config past a p r).made
  advance_legal =
      either (not (is_resident (a.status p))) (gives_again again_not_resident) _ (λ away. tt) (λ resident.
      either (is_pending config (a.references p)) (limit_given config a p (slice_get config.procs p)) (refused_given config past a p r (flat_refusal config (flat_after config past) p r))
      (λ pending. adjusted_legal pending (slice_get config.procs p) refl) (λ not_pending. refused_legal not_pending (flat_refusal config (flat_after config past) p r) refl))
