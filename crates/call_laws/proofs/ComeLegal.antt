-- What is made for a process that comes back is legal.
use Rattle.std.proofs.Common.{◌≡◌, ◌⊎◌, inl, inr, ℕ, zero, suc, ◌+◌, ◌<◌, ◌≤◌, ◌^◌, ◌&&◌, ◌++◌, Bool, true, false, cond, not, List, [], ◌∷◌, Option, Some, None, length, find, nat_eq, slice_get, refl, sym, ap, ◌∙◌, subst, arith}
use Rattle.std.specs.List.{range_with_len}
use Rattle.std.specs.Option.{is_some}
use Rattle.std.proofs.lemmas.Bool.{and_from, and_parts, cases_eq, cases_lt, eqb-true, false≢true, ne_eqb, true≢false}
use Rattle.std.proofs.lemmas.Option.{none-some, same_Some}
use Rattle.vm_types.specs.Adjust.{lesser}
use Rattle.vm_types.specs.declared.config.Config.{Config}
use Rattle.vm_types.specs.declared.names.BlockId.{BlockId}
use Rattle.vm_types.specs.declared.names.BlockId.TheVariants as block
use Rattle.vm_types.specs.declared.names.FrameState.{FrameState}
use Rattle.vm_types.specs.declared.names.FrameState.TheVariants as state
use Rattle.vm_types.specs.declared.names.Page.{Page}
use Rattle.vm_types.specs.declared.names.Page.TheVariants.{Private, Shared}
use Rattle.vm_types.specs.declared.names.ProcStatus.TheVariants as status
use Rattle.vm_journal.specs.declared.entry.Entry.{Entry}
use Rattle.vm_journal.specs.declared.entry.Role.TheVariants as role
use Rattle.vm_journal.specs.declared.entry.What.TheVariants as what
use Rattle.page_lists.specs.Lists.{count_of}
use Rattle.pager_model.specs.Lying.{lies_in, lying_in}
use Rattle.pager_model.specs.Around.{frame_view, page_view, past_view, process_view}
use Rattle.pager_model.specs.Flights.{Direction, Flight, awaits_reuse, is_busy, is_reading, open_flights, reading, writing}
use Rattle.pager_model.specs.Forget.{holder}
use Rattle.pager_policy.specs.Given.{address_of, by_seat, given, leading, page_address, reads_made, reuse_first, slots_of}
use Rattle.pager_model.specs.Lookups.{passes, count_page, entries_at, is, is_of, entry_of, is_entry, page_by}
use Rattle.pager_model.specs.Maps.{pfn, is_paged, page_number, proc}
use Rattle.pager_model.specs.In.{is_fault_or_near}
use Rattle.pager_model.specs.OfConfig.{IsMappable, IsOfConfig, IsPageOf}
use Rattle.pager_model.specs.Pager.{Pager, Valid}
use Rattle.pager_model.specs.Run.{pager_after}
use Rattle.pager_model.specs.Sound.{IsSwapped, MayHoldSwapped, is_out_state}
use Rattle.pager_model.specs.Step.{IsLegal}
use Rattle.pager_policy.specs.Swap.{GivenSwap, back_of, back_page, come_free, come_gives, come_out, come_target, come_targets, is_back_on_free, is_free_frame, is_out_page, run_from, swap_again, swap_carry, swap_in_flight, swap_no_frame, swap_settled, swap_where}
use Rattle.pager_model.specs.Transfers.{has_come, is_come, is_read_on}
use Rattle.pager_rules.proofs.Basics.{at_number_other, at_number_same, count_from_no_find, each_fails, nat_eq_refl, no_failed_read, pages_equal, states_equal}
use Rattle.vm_types.specs.Same.{same_page, same_block}
use Rattle.vm_types.specs.declared.names.Addr.{Addr}
use Rattle.pager_laws.proofs.EntryPages.{mapped_right}
use Rattle.pager_laws.proofs.Holders.{free_is, holder_holds, holds_within}
use Rattle.pager_laws.proofs.ValidEntries.{valid_at_page}
use Rattle.pager_rules.proofs.Frames.{at_state}
use Rattle.pager_rules.proofs.Lists.{all_found, found_one, found_passes, count_found}
use Rattle.pager_rules.proofs.Pages.{own_process}
use Rattle.pager_rules.proofs.Put.{head_counts, without_same}
use Rattle.pager_rules.specs.Kept.{FitsDirection, FitsFlight, FitsRead, IsKept, views}
use Rattle.pager_laws.proofs.OpeningKept.{in_range}
use Rattle.pager_laws.proofs.OfConfigKept.{page_right, run_right}
use Rattle.pager_laws.proofs.RunsAreSound.{run_kept}
use Rattle.call_laws.specs.AreLegal.{AreLegal}
use Rattle.call_laws.proofs.FollowingPages.{lies_there}
use Rattle.call_laws.specs.Ready.{MayWork}
use Rattle.call_laws.proofs.FreeTurn.{free_turn, not_both, page_starts, same_number}
use Rattle.pager_model.specs.Carrier.{Carrying, carrying}
use Rattle.pager_model.specs.InTurn.{InTurn, MayJoin}
use Rattle.vm_types.specs.BlockOrder.{is_next_block}
use Rattle.vm_types.specs.declared.names.Proc.{Proc}
use Rattle.call_laws.proofs.NearLegal.{IsOutIn, begun_read, busy_after, carrying_after, out_after_come, out_after_reuse, tail_without}
use Rattle.call_laws.proofs.HaveNames.{block_named, page_named}
use Rattle.call_laws.proofs.ClusterLegal.{first_counts, later_counts, not_same}
use Rattle.pager_model.specs.Sets.{at_number}
use Rattle.call_laws.proofs.WritesLegal.{IsAtWork, Joins}
use Rattle.call_laws.proofs.AdvanceLegal.{lesser_first, lesser_second}
use Rattle.call_laws.proofs.BlocksHome.{lying_home}
use Rattle.call_laws.proofs.ReadsLegal.{held_by_none}
use Rattle.vm_types.specs.Configuration.{IsBlock}
use Rattle.vm_types.specs.declared.config.ProcSpec.{ProcSpec}
use Rattle.call_laws.proofs.NearBlocks.{IsPagingRead, is_swap_block, reads_page}
use Rattle.call_laws.proofs.ServeLegal.{unfound}

module _ (config : Config) (past : List Entry) (seat p : ℕ) (may : MayWork config past seat) (process : p < length config.procs) (coming : (pager_after config past).status p ≡ status.Coming) where
  abbrev a : Pager
  a = pager_after config past

  kept : IsKept config (past_view past) a
  kept = run_kept config past may.formed may.run

  right : IsOfConfig config a
  right = run_right config past may.formed may.run

  abbrev Legal : GivenSwap → Type 0
  Legal x = AreLegal config past seat x.made

  -- ---- a page that lies in a swap block of the process
  pub record IsLying (n : ℕ) (g : Page) : Type 0 where
    pub lies : a.lies g ≡ Some (block.Swap (proc p) n)
    pub v : ℕ
    pub own : g ≡ Private (proc p) v
    pub mapped : page_by config a.map p v ≡ Some g
    pub within : n < length (a.ring p).slots

  is_lying : (n : ℕ) (g : Page) → a.lies g ≡ Some (block.Swap (proc p) n) → IsLying n g
  is_lying n g lies = by g lies (kept.swapped g p n lies)
    where
      by : (h : Page) → a.lies h ≡ Some (block.Swap (proc p) n) → IsSwapped a.lies a.status a.ring a.state a.page h p n → IsLying n h
      by (Shared s i) there swapped = absurd (false≢true swapped.own)
      by (Private q v) there swapped =
          let owner : q.0 ≡ p = eqb-true q.0 p swapped.own in
          let charged = (kept.pages (Private q v)).lying (block.Swap (proc p) n) refl there in
          let mapped = (kept.pages (Private q v)).mapped (omega (arith, charged)) refl in
          record {
            lies = there;
            v = v;
            own = ap (λ (r : ℕ). Private (proc r) v) owner;
            mapped = subst (λ (r : ℕ). page_by config a.map r v ≡ Some (Private q v)) owner mapped;
            within = swapped.within;
          }

  lying_found : (n : ℕ) (g : Page) → lying_in a p n ≡ Some g → IsLying n g
  lying_found n g found = is_lying n g (lies_there (a.lies g) (block.Swap (proc p) n) (found_passes (λ (h : Page). lies_in (a.lies h) (block.Swap (proc p) n)) a.charged g found))

  small_page : (v : ℕ) (g : Page) → page_by config a.map p v ≡ Some g → v < 2 ^ 23
  small_page v g mapped = by (mapped_right config a p v g right mapped).3.page
    where
      by : IsMappable v → v < 2 ^ 23
      by (inl less) = omega (arith, less)
      by (inr most) = let below = most.1 in omega (arith, below)

  small_frame : (f : ℕ) (g : Page) → a.page f ≡ Some g → f < 2 ^ 32
  small_frame f g holds = let within = holds_within config (past_view past) a f g kept holds in let most = may.formed.frames.1 in omega (arith, within, most)

  -- ---- BACK of a page on the free list
  back_legal : (n f : ℕ) (g : Page) → IsLying n g → a.page f ≡ Some g → a.state f ≡ state.Free → IsLegal config past a (by_seat seat (what.Back (proc p) (address_of g) (pfn f) state.Free))
  back_legal n f g lying holds free =
      subst (λ (at : Addr). IsLegal config past a (by_seat seat (what.Back (proc p) at (pfn f) state.Free))) (sym (ap address_of lying.own)) (record {
        in_turn = free_turn config past seat _ may.free;
        line = record { seat = may.seat_there; what = ((process, page_starts lying.v (small_page lying.v g lying.mapped)), small_frame f g holds) };
        row = inr (record {
          coming = coming;
          page = g;
          mapped = ap (page_by config a.map p) (same_number lying.v) ∙ lying.mapped;
          holds = holds;
          not_valid = ap (entries_at a.valid p) (same_number lying.v) ∙ invalid;
          free = refl;
          state = free;
          slot = n;
          lies = lying.lies;
        });
      })
    where
      no_entry : (e : Valid) → entry_of a.valid p lying.v ≡ Some e → ⊥
      no_entry e valid =
          let known = valid_at_page config past a p lying.v e kept valid in
          let same = kept.held_once e.frame f g (known.holds ∙ ap Some (same_Some known.page g (sym known.mapped ∙ lying.mapped))) holds in
          let both : state.Active ≡ state.Free = sym known.active ∙ (ap a.state same ∙ free) in
          absurd (cc)

      invalid : entries_at a.valid p lying.v ≡ 0
      invalid = by (cases_lt 0 (entries_at a.valid p lying.v))
        where
          by : (0 < entries_at a.valid p lying.v) ⊎ (entries_at a.valid p lying.v ≤ 0) → entries_at a.valid p lying.v ≡ 0
          by (inl some) = let found = found_one (is_entry p lying.v) a.valid some in absurd (no_entry found.0 found.1)
          by (inr none) = omega (arith, none)

  free_legal : (n : ℕ) → swap_where a p (is_back_on_free config a) ≡ Some n → AreLegal config past seat (back_page config a p (lying_in a p n))
  free_legal n found = by (lying_in a p n) refl (found_passes (λ (m : ℕ). passes (is_back_on_free config a) (lying_in a p m)) (slots_of a p) n found)
    where
      in_frame : (g : Page) (o : Option ℕ) → IsLying n g → holder config a.page g ≡ o → passes (is_free_frame a) o ≡ true → AreLegal config past seat (back_of p g o)
      in_frame g None lying held is = tt
      in_frame g (Some f) lying held is = (back_legal n f g lying (holder_holds config a.page g f held) (states_equal (a.state f) state.Free is), tt)

      by : (o : Option Page) → lying_in a p n ≡ o → passes (is_back_on_free config a) o ≡ true → AreLegal config past seat (back_page config a p o)
      by None lying is = tt
      by (Some g) lying is = in_frame g (holder config a.page g) (lying_found n g lying) refl is

  -- ---- TURN to resident: no page lies in a swap block any more
  module _ (none_free : swap_where a p (is_back_on_free config a) ≡ None) (none_out : swap_where a p (is_out_page config a) ≡ None) (none_comes : has_come p (open_flights past) ≡ false) where
    -- a page that lies in a slot's block is the one that is found there
    found_lying : (n : ℕ) (g : Page) → IsLying n g → lying_in a p n ≡ Some g
    found_lying n g lying = by (lying_in a p n) refl
      where
        charged : 0 < count_page a.charged g
        charged = let one = (kept.pages g).lying (block.Swap (proc p) n) (ap (is_paged config) lying.own) lying.lies in omega (arith, one)

        by : (o : Option Page) → lying_in a p n ≡ o → o ≡ Some g
        by None found = absurd (let listed = found_one (same_page g) a.charged charged in
            let none = count_from_no_find (λ (h : Page). lies_in (a.lies h) (block.Swap (proc p) n)) a.charged found in
            let same = pages_equal g listed.0 (found_passes (same_page g) a.charged listed.0 listed.1) in
            let some = count_found (λ (h : Page). lies_in (a.lies h) (block.Swap (proc p) n)) (same_page g) a.charged listed.0 listed.1 (ap (λ (h : Page). lies_in (a.lies h) (block.Swap (proc p) n)) (sym same) ∙ (ap (λ (o : Option BlockId). lies_in o (block.Swap (proc p) n)) lying.lies ∙ and_from _ _ (nat_eq_refl p) (nat_eq_refl n))) in
            omega (arith, none, some))
        by (Some h) found = ap Some ((kept.swapped g p n lying.lies).alone h (lies_there (a.lies h) (block.Swap (proc p) n) (found_passes (λ (x : Page). lies_in (a.lies x) (block.Swap (proc p) n)) a.charged h found) ∙ sym lying.lies))

    inside : (n : ℕ) (g : Page) → IsLying n g → 0 < count_of (slots_of a p) n
    inside n g lying = let within = lying.within in let listed = in_range 0 (length (a.ring p).slots) n (omega arith) (omega (arith, within)) in omega (arith, listed)

    no_read : (n f : ℕ) (g : Page) → IsLying n g → a.page f ≡ Some g → (x : Flight) → find (is_read_on f) (open_flights past) ≡ Some x → ⊥
    no_read n f g lying holds x found = by x.direction refl fits.fits
      where
        parts : (nat_eq x.frame f ≡ true) × (is_reading x.direction ≡ true)
        parts = and_parts (nat_eq x.frame f) (is_reading x.direction) (found_passes (is_read_on f) (open_flights past) x found)

        fits : FitsFlight (views config a) x
        fits = all_found (λ (y : Flight). FitsFlight (views config a) y) (is_read_on f) (open_flights past) x kept.transfers found

        same : fits.page ≡ g
        same = same_Some fits.page g (sym fits.held ∙ (ap a.page (eqb-true x.frame f parts.0) ∙ holds))

        owner : (q v : ℕ) → page_by config a.map q v ≡ Some fits.page → q ≡ p
        owner q v mapped = own_process config a.map q v p g (mapped ∙ ap Some same) (ap (is_of p) lying.own ∙ nat_eq_refl p)

        by : (d : Direction) → x.direction ≡ d → FitsDirection x fits.page (page_view config a fits.page) (process_view config a) (views config a).entry d → ⊥
        by writing is moves = absurd (false≢true (sym (ap is_reading is) ∙ parts.1))
        by (reading (role.Fault q address)) is moves =
            let role = moves.1 in
            let both : status.Resident ≡ status.Coming = sym role.1 ∙ (ap a.status (owner q.0 (page_number address.0) role.2) ∙ coming) in
            absurd (cc)
        by (reading (role.Come q address)) is moves =
            let role = moves.1 in
            true≢false (sym (ap (λ (d : Direction). is_come p d) is ∙ (ap (λ (r : ℕ). nat_eq r p) (owner q.0 (page_number address.0) role.1) ∙ nat_eq_refl p))
            ∙ all_found (λ (y : Flight). is_come p y.direction ≡ false) (is_read_on f) (open_flights past) x (each_fails (λ (y : Flight). is_come p y.direction) (open_flights past) none_comes) found)
        by (reading (role.Near h)) is moves = near moves.0
          where
            near : FitsRead x (role.Near h) fits.page (page_view config a fits.page) → ⊥
            near (inl there) =
                let swap : x.block ≡ block.Swap (proc p) n = same_Some x.block _ (sym there ∙ (ap a.lies same ∙ lying.lies)) in
                let paging = all_found IsPagingRead (is_read_on f) (open_flights past) x (reads_page config past may.formed may.run) found in
                false≢true (sym (paging (ap is_fault_or_near is)) ∙ ap is_swap_block swap)
            near (inr first) = none-some _ (sym first.nowhere ∙ (ap a.lies same ∙ lying.lies))

    none_lies : (g : Page) (n : ℕ) → a.lies g ≡ Some (block.Swap (proc p) n) → ⊥
    none_lies g n lies = by_holder (holder config a.page g) refl
      where
        lying : IsLying n g
        lying = is_lying n g lies

        by_holder : (o : Option ℕ) → holder config a.page g ≡ o → ⊥
        by_holder None held = unfound (λ (m : ℕ). passes (is_out_page config a) (lying_in a p m)) (slots_of a p) n none_out (inside n g lying) (ap (passes (is_out_page config a)) (found_lying n g lying) ∙ ap (λ (o : Option ℕ). not (is_some o)) held)
        by_holder (Some f) held = by_state (a.state f) refl ((kept.swapped g p n lies).frame f holds)
          where
            holds : a.page f ≡ Some g
            holds = holder_holds config a.page g f held

            on_free : a.state f ≡ state.Free → ⊥
            on_free free = unfound (λ (m : ℕ). passes (is_back_on_free config a) (lying_in a p m)) (slots_of a p) n none_free (inside n g lying)
                (ap (passes (is_back_on_free config a)) (found_lying n g lying) ∙ (ap (passes (is_free_frame a)) held ∙ ap (λ (s : FrameState). is state.Free s) free))

            not_leaving : (b : Bool) → (b ≡ true) ⊎ ((a.status p ≡ status.Leaving) × (is state.Active (a.state f) ≡ true)) → b ≡ true
            not_leaving b (inl out) = out
            not_leaving b (inr leaves) = absurd (let both : status.Coming ≡ status.Leaving = sym coming ∙ leaves.0 in cc)

            by_state : (s : FrameState) → a.state f ≡ s → MayHoldSwapped (a.state f) (a.status p) → ⊥
            by_state state.Free is holds_swapped = on_free is
            by_state state.Reading is holds_swapped =
                let one = (at_state (frame_view config (past_view past) a f) state.Reading is (kept.frames f)).reads in
                let found = found_one (is_read_on f) (open_flights past) (omega (arith, one)) in
                no_read n f g lying holds found.0 found.1
            by_state state.ReadError is holds_swapped = false≢true (sym (no_failed_read past f may.free.calm) ∙ (at_state (frame_view config (past_view past) a f) state.ReadError is (kept.frames f)).failed)
            by_state other is holds_swapped = false≢true (sym (ap is_out_state is) ∙ not_leaving (is_out_state (a.state f)) holds_swapped)

    resident_legal : IsLegal config past a (by_seat seat (what.Turn (proc p) status.Resident))
    resident_legal = record {
      in_turn = free_turn config past seat _ may.free;
      line = record { seat = may.seat_there; what = process };
      row = record { process = process; turned = (coming, none_lies) };
    }

-- ---- the reads of a run of slots
-- a seat carries reads of swap blocks: none yet, or so many, the last one of this block
record IsComingOn (past : List Entry) (seat : ℕ) (b : BlockId) (begun : ℕ) : Type 0 where
  pub busy : is_busy seat (open_flights past) ≡ true
  pub last : Flight
  pub lasts : (carrying seat past).last ≡ Some last
  pub block : last.block ≡ b
  pub reads : is_reading last.direction ≡ true
  pub none_landed : (carrying seat past).landed ≡ 0
  pub count : (carrying seat past).begun ≡ begun

abbrev HasRead : List Entry → ℕ → Option BlockId → ℕ → Type 0
HasRead past seat None begun = (is_busy seat (open_flights past) ≡ false) × (begun ≡ 0)
HasRead past seat (Some b) begun = IsComingOn past seat b begun

module _ (config : Config) (past : List Entry) (seat : ℕ) (work : IsAtWork config past seat) where
  come_turn : (last : Option BlockId) (begun f : ℕ) (c : BlockId) (q : Proc) (address : Addr) → HasRead past seat last begun → Joins last c → begun < config.params.pfc → InTurn config past (by_seat seat (what.In (pfn f) c (role.Come q address)))
  come_turn last begun f c q address read joins room = record {
    reuse = λ due. not_both (awaits_reuse past) due work.calm;
    work = λ busy. refl;
    carrier = λ x is busy. subst (λ (y : Flight). MayJoin config (carrying seat past) y) (same_Some (begun_read past seat f c (role.Come q address)) x is) (may_join last read joins busy);
  }
    where
      may_join : (last : Option BlockId) → HasRead past seat last begun → Joins last c → is_busy seat (open_flights past) ≡ true → MayJoin config (carrying seat past) (begun_read past seat f c (role.Come q address))
      may_join None read joins busy = not_both (is_busy seat (open_flights past)) busy read.0
      may_join (Some b) on joins busy = record {
        last = on.last;
        lasts = on.lasts;
        none_landed = on.none_landed;
        same_way = sym on.reads;
        next_block = ap (λ (d : BlockId). is_next_block d c) on.block ∙ joins;
        room = (let count = on.count in omega (arith, count, room));
        not_fault = refl;
      }

  read_more : (last : Option BlockId) (begun f : ℕ) (c : BlockId) (q : Proc) (address : Addr) → HasRead past seat last begun → IsComingOn (by_seat seat (what.In (pfn f) c (role.Come q address)) ∷ past) seat c (begun + 1)
  read_more None begun f c q address read =
      let is = carrying_after past seat f c (role.Come q address) false read.0 in
      record {
        busy = busy_after past seat f c (role.Come q address);
        last = begun_read past seat f c (role.Come q address);
        lasts = ap (λ (x : Carrying). x.last) is;
        block = refl;
        reads = refl;
        none_landed = ap (λ (x : Carrying). x.landed) is;
        count = ap (λ (x : Carrying). x.begun) is ∙ (let none = read.1 in omega (arith, none));
      }
  read_more (Some b) begun f c q address on =
      let is = carrying_after past seat f c (role.Come q address) true on.busy in
      record {
        busy = busy_after past seat f c (role.Come q address);
        last = begun_read past seat f c (role.Come q address);
        lasts = ap (λ (x : Carrying). x.last) is;
        block = refl;
        reads = refl;
        none_landed = ap (λ (x : Carrying). x.landed) is ∙ on.none_landed;
        count = ap (λ (x : Carrying). x.begun) is ∙ (let count = on.count in omega (arith, count));
      }

  -- a reuse of the free list's head leaves the carrier
  reuse_turn : (f : ℕ) (x : Page) → InTurn config past (by_seat seat (what.Reuse (pfn f) x))
  reuse_turn f x = record {
    reuse = λ due. not_both (awaits_reuse past) due work.calm;
    work = λ busy. refl;
    carrier = λ y is busy. absurd (none-some y is);
  }

  read_still : (last : Option BlockId) (begun f : ℕ) (x : Page) → HasRead past seat last begun → HasRead (by_seat seat (what.Reuse (pfn f) x) ∷ past) seat last begun
  read_still None begun f x read = read
  read_still (Some b) begun f x on =
      let same : carrying seat (by_seat seat (what.Reuse (pfn f) x) ∷ past) ≡ carrying seat past = ap (λ (own : Bool). cond own (carrying seat past) (carrying seat past)) (nat_eq_refl seat) in
      record {
        busy = on.busy;
        last = on.last;
        lasts = ap (λ (c : Carrying). c.last) same ∙ on.lasts;
        block = on.block;
        reads = on.reads;
        none_landed = ap (λ (c : Carrying). c.landed) same ∙ on.none_landed;
        count = ap (λ (c : Carrying). c.begun) same ∙ on.count;
      }

-- a page of a coming process that is out, in the swap block of a slot
record IsComing (config : Config) (past : List Entry) (p n : ℕ) (g : Page) : Type 0 where
  pub there : IsOutIn config past (block.Swap (proc p) n) g
  pub v : ℕ
  pub own : g ≡ Private (proc p) v
  pub mapped : page_by config (pager_after config past).map p v ≡ Some g

module _ (config : Config) (a₀ : Pager) (seat p : ℕ) (process : p < length config.procs) where
  -- the free frames are those of the list, those behind the head hold what they held, and the process is coming
  record ComesOn (past : List Entry) (frames : List ℕ) : Type 0 where
    pub free : (pager_after config past).free ≡ frames
    pub coming : (pager_after config past).status p ≡ status.Coming

  abbrev HoldsFirst : List Entry → List ℕ → Type 0
  HoldsFirst past frames = (f : ℕ) → 0 < count_of frames f → (pager_after config past).page f ≡ a₀.page f

  -- the pages of the slots from m on, as many as k, that were found at first
  abbrev NextComing : List Entry → ℕ → ℕ → Type 0
  NextComing past m k = (n : ℕ) (g : Page) → m ≤ n → n < m + k → lying_in a₀ p n ≡ Some g → is_out_page config a₀ g ≡ true → IsComing config past p n g

  come_step : (past : List Entry) (work : IsAtWork config past seat) (m begun f : ℕ) (fs : List ℕ) (last : Option BlockId) (g : Page) → HasRead past seat last begun → Joins last (block.Swap (proc p) m) → begun < config.params.pfc → ComesOn past (f ∷ fs) → (pager_after config past).page f ≡ None → IsComing config past p m g
      → IsLegal config past (pager_after config past) (by_seat seat (what.In (pfn f) (block.Swap (proc p) m) (role.Come (proc p) (address_of g))))
  come_step past work m begun f fs last g read joins room on empty next =
      subst (λ (at : Addr). IsLegal config past (pager_after config past) (by_seat seat (what.In (pfn f) (block.Swap (proc p) m) (role.Come (proc p) at)))) (sym (ap address_of next.own)) (record {
        in_turn = come_turn config past seat work last begun f (block.Swap (proc p) m) (proc p) (page_address next.v) read joins room;
        line = record { seat = work.seat_there; what = (small, block_named config work.formed (block.Swap (proc p) m) next.there.exists, (process, page_starts next.v page_small)) };
        row = record {
          page = g;
          mapped = ap (page_by config (pager_after config past).map p) (same_number next.v) ∙ next.mapped;
          coming = on.coming;
          slot = m;
          block = refl;
          lying = record { home = record { exists = next.there.exists; still = next.there.still }; frame = record { head = record { rest = fs; heads = on.free }; empty = empty }; out = next.there.out; lies = next.there.lies };
        };
      })
    where
      small : f < 2 ^ 32
      small = let within = (free_is config past (pager_after config past) f (run_kept config past work.formed work.run) (head_counts (pager_after config past).free f (record { rest = fs; heads = on.free }))).within in let most = work.formed.frames.1 in omega (arith, within, most)

      page_small : next.v < 2 ^ 23
      page_small = by (mapped_right config (pager_after config past) p next.v g (run_right config past work.formed work.run) next.mapped).3.page
        where
          by : IsMappable next.v → next.v < 2 ^ 23
          by (inl less) = omega (arith, less)
          by (inr most) = let below = most.1 in omega (arith, below)

  -- what stays of the later pages
  still_coming : (past : List Entry) (m n f : ℕ) (g h : Page) → m < n → IsComing config past p m g → IsComing config past p n h → IsComing config (by_seat seat (what.In (pfn f) (block.Swap (proc p) m) (role.Come (proc p) (address_of g))) ∷ past) p n h
  still_coming past m n f g h less now later = record { there = out_after_come config past seat f (block.Swap (proc p) n) h later.there (block.Swap (proc p) m) (proc p) (address_of g) g read apart other; v = later.v; own = later.own; mapped = later.mapped }
    where
      apart : same_block (block.Swap (proc p) n) (block.Swap (proc p) m) ≡ false
      apart = ap (λ (b : Bool). b && nat_eq n m) (nat_eq_refl p) ∙ ne_eqb n m (λ same. omega (arith, same, less))

      other : g ≡ h → ⊥
      other same = not_same (block.Swap (proc p) n) (block.Swap (proc p) m) apart (same_Some _ _ (sym later.there.lies ∙ (ap (pager_after config past).lies (sym same) ∙ now.there.lies)))

      read : page_by config (pager_after config past).map p (page_number (address_of g).0) ≡ Some g
      read = subst (λ (at : Addr). page_by config (pager_after config past).map p (page_number at.0) ≡ Some g) (sym (ap address_of now.own)) (ap (page_by config (pager_after config past).map p) (same_number now.v) ∙ now.mapped)

  -- the rest of the reads, after one more
  abbrev Rest : ℕ → ℕ → ℕ → List ℕ → Type 0
  Rest k m begun fs =
      (past : List Entry) → IsAtWork config past seat → HasRead past seat (Some (block.Swap (proc p) m)) (begun + 1) → ComesOn past fs → HoldsFirst past fs → NextComing past (m + 1) k
      → AreLegal config past seat (reads_made a₀.page fs (come_targets a₀ p (leading (λ (n : ℕ). passes (is_out_page config a₀) (lying_in a₀ p n)) (range_with_len (m + 1) k))))

  held_behind : (past : List Entry) (work : IsAtWork config past seat) (f : ℕ) (fs : List ℕ) (o : Option Page) → (pager_after config past).free ≡ f ∷ fs → HoldsFirst past fs → (k : ℕ) → 0 < count_of fs k → at_number (pager_after config past).page f o k ≡ a₀.page k
  held_behind past work f fs o free holds k some = go (cases_eq f k)
    where
      once : count_of fs f ≡ 0
      once = ap (λ (xs : List ℕ). count_of xs f) (sym (tail_without config past work.formed work.run f fs free)) ∙ without_same (pager_after config past).free f

      go : (f ≡ k) ⊎ (f ≡ k → ⊥) → at_number (pager_after config past).page f o k ≡ a₀.page k
      go (inl same) = absurd (let none = ap (count_of fs) (sym same) ∙ once in omega (arith, some, none))
      go (inr apart) = at_number_other (pager_after config past).page f o k apart ∙ holds k some

  come_next : (k m begun f : ℕ) (fs : List ℕ) (last : Option BlockId) (past : List Entry) (g : Page) → IsAtWork config past seat → HasRead past seat last begun → Joins last (block.Swap (proc p) m) → ComesOn past (f ∷ fs) → HoldsFirst past fs → (pager_after config past).page f ≡ None
      → IsComing config past p m g → NextComing past (m + 1) k → begun < config.params.pfc → Rest k m begun fs
      → AreLegal config past seat (what.In (pfn f) (block.Swap (proc p) m) (role.Come (proc p) (address_of g)) ∷ reads_made a₀.page fs (come_targets a₀ p (leading (λ (n : ℕ). passes (is_out_page config a₀) (lying_in a₀ p n)) (range_with_len (m + 1) k))))
  come_next k m begun f fs last past g work read joins on holds empty now next room rest =
      let legal = come_step past work m begun f fs last g read joins room on empty now in (
        legal,
        rest _ (record { formed = work.formed; run = (work.run, legal); calm = refl; seat_there = work.seat_there })
            (read_more config past seat work last begun f (block.Swap (proc p) m) (proc p) (address_of g) read)
            (record { free = tail_without config past work.formed work.run f fs on.free; coming = on.coming })
            (held_behind past work f fs (page_by config (pager_after config past).map p (page_number (address_of g).0)) on.free holds)
            (λ n h least most lying out. still_coming past m n f g h (omega (arith, least)) now (next n h least most lying out)),
      )

  reuse_next : (k m begun f : ℕ) (fs : List ℕ) (last : Option BlockId) (past : List Entry) (g : Page) → IsAtWork config past seat → HasRead past seat last begun → Joins last (block.Swap (proc p) m) → ComesOn past (f ∷ fs) → HoldsFirst past (f ∷ fs)
      → IsComing config past p m g → NextComing past (m + 1) k → begun < config.params.pfc → Rest k m begun fs → (o : Option Page) → a₀.page f ≡ o
      → AreLegal config past seat (reuse_first o f (what.In (pfn f) (block.Swap (proc p) m) (role.Come (proc p) (address_of g)) ∷ reads_made a₀.page fs (come_targets a₀ p (leading (λ (n : ℕ). passes (is_out_page config a₀) (lying_in a₀ p n)) (range_with_len (m + 1) k)))))
  reuse_next k m begun f fs last past g work read joins on holds now next room rest None is =
      come_next k m begun f fs last past g work read joins on (λ n some. holds n (later_counts f fs n some)) (holds f (first_counts f fs) ∙ is) now next room rest
  reuse_next k m begun f fs last past g work read joins on holds now next room rest (Some x) is = (
    legal,
    come_next k m begun f fs last (by_seat seat (what.Reuse (pfn f) x) ∷ past) g (record { formed = work.formed; run = (work.run, legal); calm = refl; seat_there = work.seat_there })
        (read_still config past seat work last begun f x read) joins
        (record { free = ap (λ (xs : List ℕ). f ∷ xs) (tail_without config past work.formed work.run f fs on.free); coming = on.coming })
        (held_behind past work f fs None on.free (λ n some. holds n (later_counts f fs n some))) (at_number_same (pager_after config past).page f None)
        (moved now) (λ n h least most lying out. moved (next n h least most lying out)) room rest,
  )
    where
      there : (pager_after config past).page f ≡ Some x
      there = holds f (first_counts f fs) ∙ is

      small : f < 2 ^ 32
      small = let within = holds_within config (past_view past) (pager_after config past) f x (run_kept config past work.formed work.run) there in let most = work.formed.frames.1 in omega (arith, within, most)

      legal : IsLegal config past (pager_after config past) (by_seat seat (what.Reuse (pfn f) x))
      legal = record {
        in_turn = reuse_turn config past seat work f x;
        line = record { seat = work.seat_there; what = (small, page_named config work.formed x ((run_right config past work.formed work.run).held f x there)) };
        row = inl (record { head = record { rest = fs; heads = on.free }; holds = there });
      }

      moved : {n : ℕ} {h : Page} → IsComing config past p n h → IsComing config (by_seat seat (what.Reuse (pfn f) x) ∷ past) p n h
      moved {n} {h} out = record { there = out_after_reuse config past seat f (block.Swap (proc p) n) h out.there x; v = out.v; own = out.own; mapped = out.mapped }

  come_reads : (k m begun : ℕ) (frames : List ℕ) (last : Option BlockId) (past : List Entry) → IsAtWork config past seat → HasRead past seat last begun → Joins last (block.Swap (proc p) m) → ComesOn past frames → HoldsFirst past frames → NextComing past m k → k ≤ length frames → begun + k ≤ config.params.pfc
      → AreLegal config past seat (reads_made a₀.page frames (come_targets a₀ p (leading (λ (n : ℕ). passes (is_out_page config a₀) (lying_in a₀ p n)) (range_with_len m k))))
  come_reads zero m begun frames last past work read joins on holds next few room = none frames
    where
      none : (fs : List ℕ) → AreLegal config past seat (reads_made a₀.page fs [])
      none [] = tt
      none (f ∷ fs) = tt
  come_reads (suc k) m begun [] last past work read joins on holds next few room = absurd (omega (arith, few))
  come_reads (suc k) m begun (f ∷ fs) last past work read joins on holds next few room =
      by (lying_in a₀ p m) refl (λ past' work' read' on' holds' next'. come_reads k (m + 1) (begun + 1) fs (Some (block.Swap (proc p) m)) past' work' read' (and_from _ _ (nat_eq_refl p) (nat_eq_refl (m + 1))) on' holds' next' (omega (arith, few)) (omega (arith, room)))
    where
      goes : (g : Page) → lying_in a₀ p m ≡ Some g → (b : Bool) → is_out_page config a₀ g ≡ b → Rest k m begun fs
          → AreLegal config past seat (reads_made a₀.page (f ∷ fs) (come_targets a₀ p (cond b (m ∷ leading (λ (n : ℕ). passes (is_out_page config a₀) (lying_in a₀ p n)) (range_with_len (m + 1) k)) [])))
      goes g lying false out rest = tt
      goes g lying true out rest =
          subst (λ (o : Option Page). AreLegal config past seat (reads_made a₀.page (f ∷ fs) (come_target p m o ++ come_targets a₀ p (leading (λ (n : ℕ). passes (is_out_page config a₀) (lying_in a₀ p n)) (range_with_len (m + 1) k))))) (sym lying)
          (reuse_next k m begun f fs last past g work read joins on holds (next m g (omega arith) (omega arith) lying out) (λ n h least most lying' out'. next n h (omega (arith, least)) (omega (arith, most)) lying' out') (omega (arith, room)) rest (a₀.page f) refl)

      by : (o : Option Page) → lying_in a₀ p m ≡ o → Rest k m begun fs
          → AreLegal config past seat (reads_made a₀.page (f ∷ fs) (come_targets a₀ p (cond (passes (is_out_page config a₀) (lying_in a₀ p m)) (m ∷ leading (λ (n : ℕ). passes (is_out_page config a₀) (lying_in a₀ p n)) (range_with_len (m + 1) k)) [])))
      by None lying rest =
          subst (λ (b : Bool). AreLegal config past seat (reads_made a₀.page (f ∷ fs) (come_targets a₀ p (cond b (m ∷ leading (λ (n : ℕ). passes (is_out_page config a₀) (lying_in a₀ p n)) (range_with_len (m + 1) k)) [])))) (sym (ap (passes (is_out_page config a₀)) lying)) tt
      by (Some g) lying rest =
          subst (λ (b : Bool). AreLegal config past seat (reads_made a₀.page (f ∷ fs) (come_targets a₀ p (cond b (m ∷ leading (λ (n : ℕ). passes (is_out_page config a₀) (lying_in a₀ p n)) (range_with_len (m + 1) k)) [])))) (sym (ap (passes (is_out_page config a₀)) lying))
          (goes g lying (is_out_page config a₀ g) refl rest)

-- what a step of a coming process makes is legal
module _ (config : Config) (past : List Entry) (seat p : ℕ) (may : MayWork config past seat) (process : p < length config.procs) (coming : (pager_after config past).status p ≡ status.Coming) where
  comes : (n : ℕ) (g : Page) → lying_in (pager_after config past) p n ≡ Some g → is_out_page config (pager_after config past) g ≡ true → IsComing config past p n g
  comes n g found out = record {
    there = record {
      exists = real;
      still = lying_home config (past_view past) (pager_after config past) kept_now g (block.Swap (proc p) n) of lying.lies (λ f holds. absurd (nowhere f holds));
      out = nowhere;
      lies = lying.lies;
    };
    v = lying.v;
    own = lying.own;
    mapped = lying.mapped;
  }
    where
      kept_now : IsKept config (past_view past) (pager_after config past)
      kept_now = run_kept config past may.formed may.run

      lying : IsLying config past seat p may process coming n g
      lying = lying_found config past seat p may process coming n g found

      none_of : (o : Option ℕ) → not (is_some o) ≡ true → o ≡ None
      none_of None is = refl
      none_of (Some f) is = absurd (false≢true is)

      nowhere : (f : ℕ) → (pager_after config past).page f ≡ Some g → ⊥
      nowhere = held_by_none config past (pager_after config past) g kept_now (none_of (holder config (pager_after config past).page g) out)

      of : IsPageOf config g
      of = page_right config (pager_after config past).map p lying.v g (run_right config past may.formed may.run).mapped lying.mapped

      real : IsBlock config (block.Swap (proc p) n)
      real = by (slice_get config.procs p) refl
        where
          by : (o : Option ProcSpec) → slice_get config.procs p ≡ o → IsBlock config (block.Swap (proc p) n)
          by None is = absurd (let none = (kept_now.processes p).none is in let within = lying.within in omega (arith, within, none.1))
          by (Some spec) is = let slots = ((kept_now.processes p).bounds spec is).slots in let within = lying.within in (spec, is, omega (arith, within, slots))

  out_legal : swap_where (pager_after config past) p (is_back_on_free config (pager_after config past)) ≡ None → (o : Option ℕ) → swap_where (pager_after config past) p (is_out_page config (pager_after config past)) ≡ o → AreLegal config past seat (come_out config past (pager_after config past) p o).made
  out_legal none_free None none_out = by (has_come p (open_flights past)) refl
    where
      by : (b : Bool) → has_come p (open_flights past) ≡ b → AreLegal config past seat (cond b (given [] (swap_again swap_in_flight)) (given (what.Turn (proc p) status.Resident ∷ []) swap_settled)).made
      by true some = tt
      by false none = (resident_legal config past seat p may process coming none_free none_out none, tt)
  out_legal none_free (Some n) found = by (nat_eq (length (pager_after config past).free) 0)
    where
      by : (b : Bool) → AreLegal config past seat (cond b (given [] (swap_again swap_no_frame)) (given (reads_made (pager_after config past).page (pager_after config past).free (come_targets (pager_after config past) p (run_from (λ (m : ℕ). passes (is_out_page config (pager_after config past)) (lying_in (pager_after config past) p m)) n (lesser config.params.pfc (length (pager_after config past).free))))) swap_carry)).made
      by true = tt
      by false =
          come_reads config (pager_after config past) seat p process (lesser config.params.pfc (length (pager_after config past).free)) n 0 (pager_after config past).free None past
          (record { formed = may.formed; run = may.run; calm = may.free.calm; seat_there = may.seat_there }) (may.free.idle, refl) tt
          (record { free = refl; coming = coming }) (λ f some. refl) (λ m g least less lying out. comes m g lying out)
          (lesser_second config.params.pfc (length (pager_after config past).free)) (let first = lesser_first config.params.pfc (length (pager_after config past).free) in omega (arith, first))

  free_or_not : (o : Option ℕ) → swap_where (pager_after config past) p (is_back_on_free config (pager_after config past)) ≡ o → AreLegal config past seat (come_free config past (pager_after config past) p o).made
  free_or_not (Some n) found = free_legal config past seat p may process coming n found
  free_or_not None found = out_legal found (swap_where (pager_after config past) p (is_out_page config (pager_after config past))) refl

  pub come_legal : AreLegal config past seat (come_gives config past (pager_after config past) p).made
  come_legal = free_or_not (swap_where (pager_after config past) p (is_back_on_free config (pager_after config past))) refl
