-- A read of a neighbour is legal behind the read before it, and the seat's carrier goes on.
use Rattle.std.proofs.Common.{◌≡◌, ◌⊎◌, inl, inr, ℕ, ◌+◌, ◌*◌, ◌<◌, ◌≤◌, ◌^◌, ◌||◌, Bool, true, false, cond, not, List, ◌∷◌, Option, Some, None, length, filter, count_by, nat_eq, refl, sym, ap, ◌∙◌, subst, arith}
use Rattle.std.proofs.lemmas.Bool.{cases_eq, false≢true}
use Rattle.std.proofs.lemmas.Option.{none-some, same_Some}
use Rattle.vm_types.specs.declared.limits.TheConstants.{PAGE_BYTES}
use Rattle.vm_types.specs.Configuration.{IsBlock, IsWellFormed}
use Rattle.vm_types.specs.Same.{same_block}
use Rattle.vm_types.specs.declared.config.Config.{Config}
use Rattle.vm_types.specs.declared.names.Addr.{Addr}
use Rattle.vm_types.specs.declared.names.BlockId.{BlockId}
use Rattle.vm_types.specs.declared.names.FrameState.TheVariants as state
use Rattle.vm_types.specs.declared.names.Page.{Page}
use Rattle.vm_types.specs.declared.names.Proc.{Proc}
use Rattle.vm_journal.specs.declared.entry.Entry.{Entry}
use Rattle.vm_journal.specs.declared.entry.Role.{Role}
use Rattle.vm_journal.specs.declared.entry.Role.TheVariants as role
use Rattle.vm_journal.specs.declared.entry.What.TheVariants as what
use Rattle.page_lists.specs.Lists.{count_of, without}
use Rattle.pager_model.specs.Around.{past_view}
use Rattle.pager_model.specs.Carrier.{Carrying, carried, carrying, carrying_with}
use Rattle.pager_model.specs.Flights.{Direction, Flight, awaits_reuse, is_busy, is_reading, open_flights, reading, writing}
use Rattle.pager_policy.specs.Given.{by_seat, page_address}
use Rattle.pager_model.specs.Maps.{pfn, page_number, proc}
use Rattle.pager_model.specs.In.{is_fault_or_near, is_kin}
use Rattle.pager_model.specs.InTurn.{MayJoin}
use Rattle.vm_types.specs.BlockOrder.{is_next_block}
use Rattle.pager_model.specs.Lookups.{IsHead, page_by}
use Rattle.pager_model.specs.OfConfig.{IsPageOf}
use Rattle.pager_model.specs.Own.{IsEmptyHead}
use Rattle.pager_model.specs.Pager.{Pager}
use Rattle.pager_model.specs.Run.{IsRun, pager_after}
use Rattle.pager_model.specs.Sets.{at_number}
use Rattle.pager_model.specs.Step.{IsLegal}
use Rattle.pager_model.specs.Transfers.{is_on_block}
use Rattle.pager_rules.proofs.Basics.{at_number_other, at_number_same, count_cons_no, count_cons_yes, nat_eq_refl}
use Rattle.pager_rules.proofs.Lists.{filter_all}
use Rattle.pager_rules.proofs.Put.{head_counts}
use Rattle.pager_rules.specs.Kept.{one_if}
use Rattle.pager_laws.proofs.OfConfigKept.{run_right}
use Rattle.pager_laws.proofs.RunsAreSound.{run_kept}
use Rattle.pager_laws.proofs.Holders.{free_is, holds_within}
use Rattle.call_laws.proofs.FreeTurn.{not_both}
use Rattle.call_laws.proofs.HaveNames.{block_named, page_named}

-- a seat carries reads: its last one, for the page g, is of the block b, none has landed, and so many were begun
pub record IsReadingOn (config : Config) (past : List Entry) (p : ℕ) (b : BlockId) (g : Page) (begun : ℕ) : Type 0 where
  pub formed : IsWellFormed config
  pub run : IsRun config past
  pub calm : awaits_reuse past ≡ false
  pub process : p < length config.procs
  pub busy : is_busy p (open_flights past) ≡ true
  pub last : Flight
  pub lasts : (carrying p past).last ≡ Some last
  pub block : last.block ≡ b
  pub role : is_fault_or_near last.direction ≡ true
  pub none_landed : (carrying p past).landed ≡ 0
  pub count : (carrying p past).begun ≡ begun
  pub holds : (pager_after config past).page last.frame ≡ Some g
  pub state : (pager_after config past).state last.frame ≡ state.Reading

-- a page that is out and lies in a block that is home
pub record IsOutIn (config : Config) (past : List Entry) (b : BlockId) (g : Page) : Type 0 where
  pub exists : IsBlock config b
  pub still : count_by (is_on_block b) (open_flights past) ≡ 0
  pub out : (f : ℕ) → (pager_after config past).page f ≡ Some g → ⊥
  pub lies : (pager_after config past).lies g ≡ Some b

reads_too : (d : Direction) → is_fault_or_near d ≡ true → is_reading d ≡ true
reads_too (reading r) is = refl
reads_too writing is = absurd (false≢true is)

-- ---- the carrier after one read more
abbrev pub begun_read : List Entry → ℕ → ℕ → BlockId → Role → Flight
begun_read past p f b r = record { start = length past + 1; seat = p; frame = f; block = b; direction = reading r }

pub carrying_after : (past : List Entry) (p f : ℕ) (b : BlockId) (r : Role) (busy : Bool) → is_busy p (open_flights past) ≡ busy
    → carrying p (by_seat p (what.In (pfn f) b r) ∷ past) ≡ carried busy (carrying p past) (Some (begun_read past p f b r))
carrying_after past p f b r busy is =
    ap (λ (own : Bool). cond own (carrying_with (length past + 1) p (is_busy p (open_flights past)) (what.In (pfn f) b r) (carrying p past)) (carrying p past)) (nat_eq_refl p)
    ∙ ap (λ (c : Bool). carried c (carrying p past) (Some (begun_read past p f b r))) is

pub busy_after : (past : List Entry) (p f : ℕ) (b : BlockId) (r : Role) → is_busy p (open_flights (by_seat p (what.In (pfn f) b r) ∷ past)) ≡ true
busy_after past p f b r = ap (λ (own : Bool). own || is_busy p (open_flights past)) (nat_eq_refl p)

-- ---- what stays of a page that is out
module _ (config : Config) (past : List Entry) (p f : ℕ) (c : BlockId) (h : Page) (there : IsOutIn config past c h) where
  abbrev a : Pager
  a = pager_after config past

  put_elsewhere : (o : Option Page) → (o ≡ Some h → ⊥) → (k : ℕ) → at_number a.page f o k ≡ Some h → ⊥
  put_elsewhere o not_it k is = go (cases_eq f k)
    where
      go : (f ≡ k) ⊎ (f ≡ k → ⊥) → ⊥
      go (inl same) = not_it (sym (at_number_same a.page f o) ∙ (ap (at_number a.page f o) same ∙ is))
      go (inr apart) = there.out k (sym (at_number_other a.page f o k apart) ∙ is)

  pub out_after_reuse : (g : Page) → IsOutIn config (by_seat p (what.Reuse (pfn f) g) ∷ past) c h
  out_after_reuse g = record { exists = there.exists; still = there.still; out = put_elsewhere None (none-some h); lies = there.lies }

  still_after : (b : BlockId) (r : Role) → same_block c b ≡ false → count_by (is_on_block c) (begun_read past p f b r ∷ open_flights past) ≡ 0
  still_after b r apart = count_cons_no (is_on_block c) (begun_read past p f b r) (open_flights past) apart ∙ there.still

  pub out_after_near : (b : BlockId) (g : Page) → same_block c b ≡ false → (g ≡ h → ⊥) → IsOutIn config (by_seat p (what.In (pfn f) b (role.Near g)) ∷ past) c h
  out_after_near b g apart other = record { exists = there.exists; still = still_after b (role.Near g) apart; out = put_elsewhere (Some g) (λ is. other (same_Some g h is)); lies = there.lies }

  pub out_after_fault : (b : BlockId) (g : Page) (v : ℕ) → page_by config a.map p (page_number (PAGE_BYTES * v)) ≡ Some g → same_block c b ≡ false → (g ≡ h → ⊥)
      → IsOutIn config (by_seat p (what.In (pfn f) b (role.Fault (proc p) (page_address v))) ∷ past) c h
  out_after_fault b g v mapped apart other = record {
    exists = there.exists;
    still = still_after b (role.Fault (proc p) (page_address v)) apart;
    out = put_elsewhere (page_by config a.map p (page_number (PAGE_BYTES * v))) (λ is. other (same_Some g h (sym mapped ∙ is)));
    lies = there.lies;
  }

  pub out_after_come : (b : BlockId) (q : Proc) (at : Addr) (g : Page) → page_by config a.map q.0 (page_number at.0) ≡ Some g → same_block c b ≡ false → (g ≡ h → ⊥)
      → IsOutIn config (by_seat p (what.In (pfn f) b (role.Come q at)) ∷ past) c h
  out_after_come b q at g mapped apart other = record {
    exists = there.exists;
    still = still_after b (role.Come q at) apart;
    out = put_elsewhere (page_by config a.map q.0 (page_number at.0)) (λ is. other (same_Some g h (sym mapped ∙ is)));
    lies = there.lies;
  }

-- ---- the free list
module _ (config : Config) (past : List Entry) (formed : IsWellFormed config) (run : IsRun config past) where
  -- a frame stands there once
  pub tail_without : (f : ℕ) (fs : List ℕ) → (pager_after config past).free ≡ f ∷ fs → without (pager_after config past).free f ≡ fs
  tail_without f fs is = ap (λ (xs : List ℕ). without xs f) is ∙ (drops ∙ filter_all (λ (g : ℕ). nat_eq g f) fs none)
    where
      once : count_of (f ∷ fs) f ≤ 1
      once =
          let row = ((run_kept config past formed run).frames f).on_free in
          at_most (count_of (f ∷ fs) f) _ (sym (ap (λ (xs : List ℕ). count_of xs f) is) ∙ row)
        where
          at_most : (n : ℕ) (b : Bool) → n ≡ one_if b → n ≤ 1
          at_most n true same = omega (arith, same)
          at_most n false same = omega (arith, same)

      none : count_of fs f ≡ 0
      none = omega (arith, once, count_cons_yes (λ (g : ℕ). nat_eq g f) f fs (nat_eq_refl f))

      drops : without (f ∷ fs) f ≡ filter (λ (g : ℕ). not (nat_eq g f)) fs
      drops = ap (λ (b : Bool). cond (not b) (f ∷ filter (λ (g : ℕ). not (nat_eq g f)) fs) (filter (λ (g : ℕ). not (nat_eq g f)) fs)) (nat_eq_refl f)

-- ---- one read more
module _ (config : Config) (past : List Entry) (p : ℕ) (b : BlockId) (h : Page) (begun : ℕ) (on : IsReadingOn config past p b h begun) where
  abbrev here : Pager
  here = pager_after config past

  pub near_legal : (f : ℕ) (c : BlockId) (g : Page) → IsEmptyHead here f → IsOutIn config past c g → is_next_block b c ≡ true → is_kin h g ≡ true → begun < config.params.pfc → IsPageOf config g
      → IsLegal config past here (by_seat p (what.In (pfn f) c (role.Near g)))
  near_legal f c g empty there next kin room real = record {
    in_turn = record {
      reuse = λ due. not_both (awaits_reuse past) due on.calm;
      work = λ busy. refl;
      carrier = λ x is busy. subst (λ (y : Flight). MayJoin config (carrying p past) y) (same_Some (begun_read past p f c (role.Near g)) x is) joins;
    };
    line = record { seat = (let below = on.process in omega (arith, below)); what = (small, block_named config on.formed c there.exists, page_named config on.formed g real) };
    row = record { busy = on.busy; last = on.last; lasts = on.lasts; role = on.role; before = h; holds = on.holds; kin = kin; lying = record { home = record { exists = there.exists; still = there.still }; frame = empty; out = there.out; lies = there.lies } };
  }
    where
      small : f < 2 ^ 32
      small = let within = (free_is config past here f (run_kept config past on.formed on.run) (head_counts here.free f empty.head)).within in let most = on.formed.frames.1 in omega (arith, within, most)

      joins : MayJoin config (carrying p past) (begun_read past p f c (role.Near g))
      joins = record {
        last = on.last;
        lasts = on.lasts;
        none_landed = on.none_landed;
        same_way = sym (reads_too on.last.direction on.role);
        next_block = ap (λ (d : BlockId). is_next_block d c) on.block ∙ next;
        room = (let count = on.count in omega (arith, count, room));
        not_fault = refl;
      }

  pub near_reading : (f : ℕ) (c : BlockId) (g : Page) → IsLegal config past here (by_seat p (what.In (pfn f) c (role.Near g))) → IsReadingOn config (by_seat p (what.In (pfn f) c (role.Near g)) ∷ past) p c g (begun + 1)
  near_reading f c g legal =
      let now = carrying_after past p f c (role.Near g) true on.busy in
      record {
        formed = on.formed;
        run = (on.run, legal);
        calm = refl;
        process = on.process;
        busy = busy_after past p f c (role.Near g);
        last = begun_read past p f c (role.Near g);
        lasts = ap (λ (x : Carrying). x.last) now;
        block = refl;
        role = refl;
        none_landed = ap (λ (x : Carrying). x.landed) now ∙ on.none_landed;
        count = ap (λ (x : Carrying). x.begun) now ∙ ap (λ (n : ℕ). n + 1) on.count;
        holds = at_number_same here.page f (Some g);
        state = at_number_same here.state f state.Reading;
      }

  -- a reuse of the free list's head between two reads
  pub reuse_between : (f : ℕ) (x : Page) → IsHead here.free f → here.page f ≡ Some x → IsLegal config past here (by_seat p (what.Reuse (pfn f) x))
  reuse_between f x head holds = record {
    in_turn = record {
      reuse = λ due. not_both (awaits_reuse past) due on.calm;
      work = λ busy. refl;
      carrier = λ y is busy. absurd (none-some y is);
    };
    line = record { seat = (let below = on.process in omega (arith, below)); what = (small, page_named config on.formed x ((run_right config past on.formed on.run).held f x holds)) };
    row = inl (record { head = head; holds = holds });
  }
    where
      small : f < 2 ^ 32
      small = let within = holds_within config (past_view past) here f x (run_kept config past on.formed on.run) holds in let most = on.formed.frames.1 in omega (arith, within, most)

  -- the frame of the last read isn't the one that is reused: that one is free
  pub reading_after_reuse : (f : ℕ) (x : Page) → IsHead here.free f → IsLegal config past here (by_seat p (what.Reuse (pfn f) x)) → IsReadingOn config (by_seat p (what.Reuse (pfn f) x) ∷ past) p b h begun
  reading_after_reuse f x head legal =
      let same : carrying p (by_seat p (what.Reuse (pfn f) x) ∷ past) ≡ carrying p past = ap (λ (own : Bool). cond own (carrying p past) (carrying p past)) (nat_eq_refl p) in
      record {
        formed = on.formed;
        run = (on.run, legal);
        calm = refl;
        process = on.process;
        busy = on.busy;
        last = on.last;
        lasts = ap (λ (c : Carrying). c.last) same ∙ on.lasts;
        block = on.block;
        role = on.role;
        none_landed = ap (λ (c : Carrying). c.landed) same ∙ on.none_landed;
        count = ap (λ (c : Carrying). c.begun) same ∙ on.count;
        holds = at_number_other here.page f None on.last.frame apart ∙ on.holds;
        state = at_number_other here.state f state.Free on.last.frame apart ∙ on.state;
      }
    where
      apart : f ≡ on.last.frame → ⊥
      apart is =
          let free = (free_is config past here f (run_kept config past on.formed on.run) (head_counts here.free f head)).state in
          let both : state.Reading ≡ state.Free = sym on.state ∙ (ap here.state (sym is) ∙ free) in
          absurd (cc)
