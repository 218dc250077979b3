-- The reads of a fault's cluster are legal, and so have their cause.
use Rattle.std.proofs.Common.{◌≡◌, ◌⊎◌, inl, inr, ℕ, zero, suc, ◌+◌, ◌-◌, ◌<◌, ◌≤◌, ◌^◌, ◌&&◌, Bool, true, false, cond, not, List, [], ◌∷◌, ◌++◌, Option, Some, None, length, map, nat_eq, nat_le, refl, sym, ap, ◌∙◌, subst, arith}
use Rattle.std.specs.List.{AllByRecursion, range_with_len}
use Rattle.std.specs.Option.{is_some}
use Rattle.std.proofs.lemmas.Bool.{cases_eq, false≢true}
use Rattle.std.proofs.lemmas.Option.{same_Some}
use Rattle.vm_types.specs.Adjust.{greater, lesser}
use Rattle.vm_types.specs.Configuration.{IsBlock}
use Rattle.vm_types.specs.Ring.{filled}
use Rattle.vm_types.specs.Same.{same_block}
use Rattle.vm_types.specs.declared.names.BlockId.{BlockId}
use Rattle.vm_types.specs.declared.names.FrameState.TheVariants as state
use Rattle.vm_types.specs.declared.names.Page.{Page}
use Rattle.vm_types.specs.declared.config.Config.{Config}
use Rattle.vm_journal.specs.declared.entry.Entry.{Entry}
use Rattle.vm_journal.specs.declared.entry.Role.TheVariants as role
use Rattle.vm_journal.specs.declared.entry.What.{What}
use Rattle.vm_journal.specs.declared.entry.What.TheVariants as what
use Rattle.page_lists.specs.Lists.{count_of, without}
use Rattle.pager_model.specs.Around.{past_view}
use Rattle.pager_model.specs.Carrier.{Carrying}
use Rattle.pager_model.specs.Charging.{first_source, is_uncharged}
use Rattle.pager_model.specs.ClusterLength.{cluster_length, leading_out}
use Rattle.pager_model.specs.Flights.{Flight, failed_flight, is_busy, open_flights}
use Rattle.pager_model.specs.Forget.{holder}
use Rattle.pager_model.specs.In.{IsFirstIn}
use Rattle.pager_model.specs.Lookups.{count_page, page_by}
use Rattle.pager_model.specs.Maps.{pfn, page_number, proc}
use Rattle.pager_model.specs.OfConfig.{IsPageOf}
use Rattle.pager_model.specs.Pager.{Pager}
use Rattle.pager_model.specs.Reuse.{charged_reused}
use Rattle.pager_model.specs.Run.{IsRun, pager_after}
use Rattle.pager_model.specs.Sets.{at_number}
use Rattle.pager_model.specs.Step.{IsLegal}
use Rattle.pager_policy.specs.Advance.{block_after, following, is_busy_block, is_out, near_target, near_targets, source_of, window}
use Rattle.pager_policy.specs.Given.{Target, by_seat, page_address, reads_made}
use Rattle.pager_rules.proofs.Basics.{at_number_other, at_number_same}
use Rattle.pager_rules.proofs.Put.{head_counts, without_same}
use Rattle.pager_rules.proofs.Quiet.{no_failure}
use Rattle.pager_laws.proofs.Holders.{free_is}
use Rattle.pager_laws.proofs.OfConfigKept.{page_right}
use Rattle.call_laws.specs.Ready.{IsReady}
use Rattle.call_laws.proofs.AdvanceLegal.{lesser_first, lesser_second, out_in_front}
use Rattle.call_laws.proofs.BlocksHome.{lying_home}
use Rattle.call_laws.proofs.ClusterLegal.{AllNextOut, IsNextOut, near_reads, not_same}
use Rattle.call_laws.proofs.EntersLegal.{reuse_legal}
use Rattle.call_laws.proofs.FollowingPages.{block_at_none, blocks_apart, page_follows}
use Rattle.call_laws.proofs.FreeTurn.{free_turn, page_starts, same_number}
use Rattle.call_laws.proofs.HaveNames.{block_named}
use Rattle.call_laws.proofs.NearLegal.{IsReadingOn, begun_read, busy_after, carrying_after, out_after_fault, out_after_reuse, tail_without}
use Rattle.call_laws.proofs.ReadsLegal.{Comes, comes_from, held_by_none, in_fault_legal, lying_block, source_block, still_block}
use Rattle.call_laws.proofs.WaitsLegal.{frame_small, kept, mapped_small, right, seat_small}
use Rattle.cause_laws.proofs.NearCaused.{IsOutNeighbour, near_caused}
use Rattle.cause_laws.specs.AreCaused.{AreCaused}

one_if_few : (n : ℕ) → greater 1 n ≤ 1 ⊎ (greater 1 n ≤ n)
one_if_few n = go (nat_le 1 n)
  where
    go : (b : Bool) → cond b n 1 ≤ 1 ⊎ (cond b n 1 ≤ n)
    go true = inr (omega arith)
    go false = inl (omega arith)

-- ---- the targets of the places from one on are neighbours that are out
module _ (config : Config) (a : Pager) (g : Page) (b : BlockId) where
  abbrev IsOutAt : ℕ → Type 0
  IsOutAt k = (h : Page) → following config a g b k ≡ Some h → (f : ℕ) → a.page f ≡ Some h → ⊥

  one_near : (c : BlockId) (o : Option Page) (targets : List Target) → ((h : Page) → o ≡ Some h → (f : ℕ) → a.page f ≡ Some h → ⊥) → AllByRecursion (IsOutNeighbour a.page) targets → AllByRecursion (IsOutNeighbour a.page) (near_target c o ++ targets)
  one_near c None targets out rest = rest
  one_near c (Some h) targets out rest = ((h, refl, out h refl), rest)

  pub all_near : (m s : ℕ) → ((k : ℕ) → s ≤ k → k < s + m → IsOutAt k) → AllByRecursion (IsOutNeighbour a.page) (near_targets config a g b (range_with_len s m))
  all_near zero s out = tt
  all_near (suc m) s out =
      one_near (block_after b s) (following config a g b s) (near_targets config a g b (range_with_len (s + 1) m)) (out s (omega arith) (omega arith)) (all_near m (s + 1) (λ k above below. out k (omega (arith, above)) (omega (arith, below))))

module _ (config : Config) (past : List Entry) (p : ℕ) (ready : IsReady config past p) (v : ℕ) (g : Page) (b : BlockId) (f : ℕ) (fs : List ℕ) where
  abbrev a : Pager
  a = pager_after config past

  abbrev many : ℕ
  many = cluster_length (window config a g b) config.params.pfc (length a.free)

  abbrev first : What
  first = what.In (pfn f) b (role.Fault (proc p) (page_address v))

  abbrev near : List Target
  near = near_targets config a g b (range_with_len 1 (many - 1))

  -- ---- the page is in no frame, and its process has room for it
  module _ (mapped : page_by config a.map p v ≡ Some g) (out : (k : ℕ) → a.page k ≡ Some g → ⊥) (room : (is_uncharged config a g && nat_eq (length a.charged) config.pagefile) ≡ false) (below : filled (a.ring p).slots < a.limit p)
      (source : source_of config a g (a.map p v) ≡ Some b) (still : is_busy_block past (Some b) ≡ false) (free : a.free ≡ f ∷ fs) where
    abbrev Next : List Entry → ℕ → Type 0
    Next now k = (next : IsNextOut config a now g b k) × (g ≡ next.page → ⊥)

    comes : Comes config past p ready v g b
    comes = comes_from config past p ready v g b source room

    of : IsPageOf config g
    of = page_right config a.map p v g (right config past p ready).mapped mapped

    -- the neighbours are out, each in its block
    neighbour : (k : ℕ) → 0 < k → k ≤ many - 1 → Next past k
    neighbour k above most = by_charge (is_uncharged config a g) refl source
      where
        fewer : (ws : List Bool) → window config a g b ≡ ws → k + 1 ≤ leading_out ws
        fewer ws is =
            let less = lesser_first (lesser (leading_out (window config a g b)) config.params.pfc) (greater 1 (length a.free - 1)) in
            let least = lesser_first (leading_out (window config a g b)) config.params.pfc in
            let same = ap leading_out is in
            omega (arith, above, most, less, least, same)

        is_next : a.lies g ≡ Some b → (o : Option Page) → following config a g b k ≡ o → is_out config a o ≡ true → Next past k
        is_next lies None found passes = absurd (false≢true passes)
        is_next lies (Some h) found passes =
            let follows = page_follows config (past_view past) a (kept config past p ready) (right config past p ready) g b k h of lies found in
            let nowhere = held_by_none config past a h (kept config past p ready) (not_held (holder config a.page h) passes) in (
              record {
                page = h;
                found = found;
                follows = follows;
                there = record {
                  exists = lying_block config past p ready h (block_after b k) follows.of follows.lies;
                  still = lying_home config (past_view past) a (kept config past p ready) h (block_after b k) follows.of follows.lies (λ f holds. absurd (nowhere f holds));
                  out = nowhere;
                  lies = follows.lies;
                };
              },
              λ same. not_same (block_after b k) b (subst (λ (c : BlockId). same_block (block_after b k) c ≡ false) (block_at_none b) (blocks_apart b 0 k above)) (same_Some _ _ (sym follows.lies ∙ (ap a.lies (sym same) ∙ lies))),
            )
          where
            not_held : (o : Option ℕ) → not (is_some o) ≡ true → o ≡ None
            not_held None is = refl
            not_held (Some n) is = absurd (false≢true is)

        by_charge : (c : Bool) → is_uncharged config a g ≡ c → cond c (first_source g (a.map p v)) (a.lies g) ≡ Some b → Next past k
        by_charge true is there = absurd (let one = fewer (true ∷ []) (ap (λ (c : Bool). cond c (true ∷ []) (true ∷ map (λ (places : ℕ). is_out config a (following config a g b places)) (range_with_len 1 (config.params.pfc - 1)))) is) in omega (arith, above, one))
        by_charge false is there =
            let test : ℕ → Bool = λ places. is_out config a (following config a g b places) in
            let front = fewer (true ∷ map test (range_with_len 1 (config.params.pfc - 1))) (ap (λ (c : Bool). cond c (true ∷ []) (true ∷ map test (range_with_len 1 (config.params.pfc - 1)))) is) in
            is_next there (following config a g b k) refl (out_in_front test (config.params.pfc - 1) 1 k (omega (arith, above)) (omega (arith, front)))

    all_out : AllByRecursion (IsOutNeighbour a.page) near
    all_out = all_near config a g b (many - 1) 1 (λ k above below h found. let next = (neighbour k (omega (arith, above)) (omega (arith, below))).0 in subst (λ (y : Page). (j : ℕ) → a.page j ≡ Some y → ⊥) (same_Some next.page h (sym next.found ∙ found)) next.there.out)

    enough : many - 1 ≤ length fs
    enough =
        let most = lesser_second (lesser (leading_out (window config a g b)) config.params.pfc) (greater 1 (length a.free - 1)) in
        by (one_if_few (length a.free - 1)) most
      where
        by : (greater 1 (length a.free - 1) ≤ 1) ⊎ (greater 1 (length a.free - 1) ≤ length a.free - 1) → many ≤ greater 1 (length a.free - 1) → many - 1 ≤ length fs
        by (inl one) most = omega (arith, one, most)
        by (inr less) most = let size = ap length free in omega (arith, less, most, size)

    in_cluster : 1 + (many - 1) ≤ config.params.pfc
    in_cluster =
        let most = lesser_first (lesser (leading_out (window config a g b)) config.params.pfc) (greater 1 (length a.free - 1)) in
        let pfc = lesser_second (leading_out (window config a g b)) config.params.pfc in
        let some = ready.formed.params.pfc.0 in
        omega (arith, most, pfc, some)

    -- ---- after the first read, of an empty frame at the free list's head, where all else is as it was
    module _ (now : List Entry) (run : IsRun config now) (idle : is_busy p (open_flights now) ≡ false) (legal : IsLegal config now (pager_after config now) (by_seat p first)) (heads : (pager_after config now).free ≡ f ∷ fs)
        (holds : (k : ℕ) → 0 < count_of fs k → (pager_after config now).page k ≡ a.page k) (maps : page_by config (pager_after config now).map p v ≡ Some g) (next : (k : ℕ) → 0 < k → k ≤ many - 1 → Next now k) where
      abbrev read : List Entry
      read = by_seat p first ∷ now

      reading_on : IsReadingOn config read p b g 1
      reading_on =
          let carries = carrying_after now p f b (role.Fault (proc p) (page_address v)) false idle in
          record {
            formed = ready.formed;
            run = (run, legal);
            calm = refl;
            process = ready.own.process;
            busy = busy_after now p f b (role.Fault (proc p) (page_address v));
            last = begun_read now p f b (role.Fault (proc p) (page_address v));
            lasts = ap (λ (x : Carrying). x.last) carries;
            block = refl;
            role = refl;
            none_landed = ap (λ (x : Carrying). x.landed) carries;
            count = ap (λ (x : Carrying). x.begun) carries;
            holds = at_number_same (pager_after config now).page f _ ∙ (ap (page_by config (pager_after config now).map p) (same_number v) ∙ maps);
            state = at_number_same (pager_after config now).state f state.Reading;
          }

      tail : without (pager_after config now).free f ≡ fs
      tail = tail_without config now ready.formed run f fs heads

      abbrev put : Option Page
      put = page_by config (pager_after config now).map p (page_number (page_address v).0)

      held : (k : ℕ) → 0 < count_of fs k → at_number (pager_after config now).page f put k ≡ a.page k
      held k some = go (cases_eq f k)
        where
          once : count_of fs f ≡ 0
          once = ap (λ (xs : List ℕ). count_of xs f) (sym tail) ∙ without_same (pager_after config now).free f

          go : (f ≡ k) ⊎ (f ≡ k → ⊥) → at_number (pager_after config now).page f put k ≡ a.page k
          go (inl same) = absurd (let none = ap (count_of fs) (sym same) ∙ once in omega (arith, some, none))
          go (inr apart) = at_number_other (pager_after config now).page f put k apart ∙ holds k some

      others : AllNextOut config a p g b read 0 (many - 1)
      others k above most =
          let found = next k above (omega (arith, most)) in
          record {
            page = found.0.page;
            found = found.0.found;
            follows = found.0.follows;
            there = out_after_fault config now p f (block_after b k) found.0.page found.0.there b g v (ap (page_by config (pager_after config now).map p) (same_number v) ∙ maps)
                (subst (λ (c : BlockId). same_block (block_after b k) c ≡ false) (block_at_none b) (blocks_apart b 0 k above)) found.1;
          }

      neighbours_caused : AreCaused config read p (reads_made a.page fs near)
      neighbours_caused =
          near_caused config a.page p fs near all_out read
          (near_reads config a p g b (many - 1) 0 fs read g (subst (λ (c : BlockId). IsReadingOn config read p c g 1) (sym (block_at_none b)) reading_on) (λ x kin. kin) (record { free = tail; holds = held }) others enough in_cluster)

    -- ---- into an empty frame
    pub read_empty : a.page f ≡ None → AreCaused config (by_seat p first ∷ past) p (reads_made a.page fs near)
    read_empty empty =
        neighbours_caused past ready.run ready.free.idle (in_fault_legal config past p ready v f g b mapped out below (record { head = record { rest = fs; heads = free }; empty = empty }) comes (still_block past b still)) free (λ k some. refl) mapped neighbour

    -- ---- into one that gives up its page
    module _ (x : Page) (full : a.page f ≡ Some x) where
      abbrev reused : List Entry
      reused = by_seat p (what.Reuse (pfn f) x) ∷ past

      legal : IsLegal config past a (by_seat p (what.Reuse (pfn f) x))
      legal = reuse_legal config past p ready f x (record { rest = fs; heads = free }) full

      charges_stay : charged_reused (failed_flight past) x a.charged ≡ a.charged
      charges_stay = ap (λ (o : Option Flight). charged_reused o x a.charged) (no_failure past ready.free.calm)

      comes_still : Comes config past p ready v g b → (a.lies g ≡ Some b) ⊎ IsFirstIn config (pager_after config reused) p (page_number (page_address v).0) b g
      comes_still (inl lies) = inl lies
      comes_still (inr is) = inr (subst (λ (w : ℕ). IsFirstIn config (pager_after config reused) p w b g) (sym (same_number v)) (record {
        private = is.private;
        behind = is.behind;
        uncharged = ap (λ (pages : List Page). count_page pages g) charges_stay ∙ is.uncharged;
        room = subst (λ (pages : List Page). length pages < config.pagefile) (sym charges_stay) is.room;
      }))

      emptied : (k : ℕ) → at_number a.page f None k ≡ Some g → ⊥
      emptied k is = go (cases_eq f k)
        where
          go : (f ≡ k) ⊎ (f ≡ k → ⊥) → ⊥
          go (inl same) = let both : None ≡ Some g = sym (at_number_same a.page f None) ∙ (ap (at_number a.page f None) same ∙ is) in absurd (cc)
          go (inr apart) = out k (sym (at_number_other a.page f None k apart) ∙ is)

      heads_still : f ∷ without a.free f ≡ f ∷ fs
      heads_still = ap (λ (xs : List ℕ). f ∷ xs) (tail_without config past ready.formed ready.run f fs free)

      small : f < 2 ^ 32
      small = frame_small config past p ready f (free_is config past a f (kept config past p ready) (head_counts a.free f (record { rest = fs; heads = free }))).within

      real : IsBlock config b
      real = source_block config past p ready v g b mapped comes

      first_legal : IsLegal config reused (pager_after config reused) (by_seat p first)
      first_legal = record {
        in_turn = free_turn config reused p first (record { idle = ready.free.idle; calm = refl });
        line = record { seat = seat_small config past p ready; what = (small, block_named config ready.formed b real, (ready.own.process, page_starts v (mapped_small config past p ready v g mapped))) };
        row = record {
          own = record { process = ready.own.process; resident = ready.own.resident };
          self = refl;
          home = record { exists = real; still = still_block past b still };
          frame = record { head = record { rest = without a.free f; heads = refl }; empty = at_number_same a.page f None };
          below_limit = below;
          page = g;
          mapped = ap (page_by config a.map p) (same_number v) ∙ mapped;
          out = emptied;
          from = comes_still comes;
        };
      }

      held_still : (k : ℕ) → 0 < count_of fs k → at_number a.page f None k ≡ a.page k
      held_still k some = go (cases_eq f k)
        where
          once : count_of fs f ≡ 0
          once = ap (λ (xs : List ℕ). count_of xs f) (sym (tail_without config past ready.formed ready.run f fs free)) ∙ without_same a.free f

          go : (f ≡ k) ⊎ (f ≡ k → ⊥) → at_number a.page f None k ≡ a.page k
          go (inl same) = absurd (let none = ap (count_of fs) (sym same) ∙ once in omega (arith, some, none))
          go (inr apart) = at_number_other a.page f None k apart

      moved : (k : ℕ) → Next past k → Next reused k
      moved k next = (record { page = next.0.page; found = next.0.found; follows = next.0.follows; there = out_after_reuse config past p f (block_after b k) next.0.page next.0.there x }, next.1)

      pub read_reused : AreCaused config (by_seat p first ∷ reused) p (reads_made a.page fs near)
      read_reused = neighbours_caused reused (ready.run, legal) ready.free.idle first_legal heads_still held_still mapped (λ k above most. moved k (neighbour k above most))
