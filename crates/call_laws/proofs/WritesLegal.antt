-- The writes of a cluster are legal, each behind the one before it.
use Rattle.std.proofs.Common.{◌≡◌, inl, inr, ℕ, zero, suc, ◌+◌, ◌<◌, ◌≤◌, ◌^◌, ◌||◌, Bool, true, false, cond, not, filter, List, [], ◌∷◌, Option, Some, None, length, find, count_by, nat_eq, nat_lt, refl, sym, ap, ◌∙◌, subst, arith}
use Rattle.std.specs.List.{range_with_len}
use Rattle.std.specs.Option.{option_map}
use Rattle.std.proofs.lemmas.Bool.{and_parts, eqb-true, false≢true, ltb-true, ne_eqb}
use Rattle.std.proofs.lemmas.Option.{none-some, same_Some}
use Rattle.vm_types.specs.Configuration.{IsBlock, IsWellFormed}
use Rattle.vm_types.specs.Same.{same_page}
use Rattle.vm_types.specs.declared.config.Config.{Config}
use Rattle.vm_types.specs.declared.names.BlockId.{BlockId}
use Rattle.vm_types.specs.declared.names.BlockId.TheVariants as block
use Rattle.vm_types.specs.declared.names.Page.{Page}
use Rattle.vm_types.specs.declared.names.Page.TheVariants.{Private, Shared}
use Rattle.vm_journal.specs.declared.entry.Entry.{Entry}
use Rattle.vm_journal.specs.declared.entry.What.TheVariants as what
use Rattle.page_lists.specs.Lists.{count_of, without}
use Rattle.pager_model.specs.Around.{past_view}
use Rattle.pager_model.specs.Carrier.{Carrying, carried, carrying, carrying_with}
use Rattle.pager_model.specs.Flights.{Flight, awaits_reuse, is_busy, is_reading, open_flights, writing}
use Rattle.pager_policy.specs.Given.{by_seat, given}
use Rattle.pager_model.specs.Maps.{pfn, is_paged}
use Rattle.pager_model.specs.InTurn.{InTurn, MayJoin}
use Rattle.vm_types.specs.BlockOrder.{is_next_block, if_next}
use Rattle.pager_model.specs.Lookups.{IsHead, block_of, is_assigned_to, is_owner}
use Rattle.pager_model.specs.OfConfig.{IsOfConfig, IsPageOf}
use Rattle.pager_model.specs.Out.{IsOutBlock, after_any_out, assigned_with}
use Rattle.pager_model.specs.Pager.{Assigned, Pager}
use Rattle.pager_model.specs.Run.{IsRun, pager_after}
use Rattle.pager_model.specs.Step.{IsLegal}
use Rattle.pager_model.specs.Transfers.{is_on_block}
use Rattle.pager_policy.specs.WriteCluster.{Reason, begin_carry, begin_gives, begin_nothing, block_out, filed_block, is_enough, is_free_block, new_block, paged_block, writes_from, writes_taken}
use Rattle.pager_rules.proofs.Basics.{count_cons, count_cons_no, count_cons_yes, find_cons_no, nat_eq_refl, pages_equal}
use Rattle.pager_rules.proofs.Lists.{all_found, found_passes, filter_all}
use Rattle.pager_rules.proofs.Put.{head_counts}
use Rattle.pager_rules.specs.Kept.{IsKept, one_if}
use Rattle.pager_laws.proofs.OfConfigKept.{run_right}
use Rattle.pager_laws.proofs.RunsAreSound.{run_kept}
use Rattle.pager_laws.proofs.Holders.{holds_within}
use Rattle.call_laws.specs.AreLegal.{AreLegal}
use Rattle.call_laws.specs.Ready.{MayWork}
use Rattle.call_laws.proofs.BlocksHome.{lying_home}
use Rattle.call_laws.proofs.FreeTurn.{not_both}
use Rattle.call_laws.proofs.HaveNames.{block_named}
use Rattle.call_laws.proofs.WritesHome.{assigned_home, listed_still, unassigned_home}

-- the write of a listed page is no swap block's
abbrev IsPaging : BlockId → Type 0
IsPaging (block.Swap p n) = ⊥
IsPaging other = Unit {0}

-- a block joins the last one of a cluster, or is the first
abbrev pub Joins : Option BlockId → BlockId → Type 0
Joins None c = Unit {0}
Joins (Some b) c = is_next_block b c ≡ true

-- the block that a cluster's next page takes
record IsTaken (config : Config) (a : Pager) (last : Option BlockId) (g : Page) (c : BlockId) : Type 0 where
  pub joins : Joins last c
  pub paging : IsPaging c
  pub block : IsOutBlock config a c g

joined : (last : Option BlockId) (b c : BlockId) → if_next last b ≡ Some c → (b ≡ c) × Joins last c
joined None b c is = (same_Some b c is, tt)
joined (Some l) b c is = go (is_next_block l b) refl is
  where
    go : (n : Bool) → is_next_block l b ≡ n → cond n (Some b) None ≡ Some c → (b ≡ c) × Joins (Some l) c
    go false next is = absurd (none-some c is)
    go true next is = let same = same_Some b c is in (same, subst (λ (d : BlockId). is_next_block l d ≡ true) same next)

free_there : (config : Config) (a : Pager) (n : ℕ) → is_free_block config a n ≡ true → (n < config.pagefile) × (count_by (is_owner (block.PageFile n)) a.assigned ≡ 0)
free_there config a n is = let parts = and_parts (nat_lt n config.pagefile) (nat_eq (count_by (is_owner (block.PageFile n)) a.assigned) 0) is in (ltb-true _ _ parts.0, eqb-true _ _ parts.1)

new_taken : (config : Config) (a : Pager) (last : Option BlockId) (g : Page) (c : BlockId) → is_paged config g ≡ true → block_of a.assigned g ≡ None → new_block config a last ≡ Some c → IsTaken config a last g c
new_taken config a None g c private none is = by (find (is_free_block config a) (range_with_len 0 config.pagefile)) refl is
  where
    by : (o : Option ℕ) → find (is_free_block config a) (range_with_len 0 config.pagefile) ≡ o → option_map block.PageFile o ≡ Some c → IsTaken config a None g c
    by None found is = absurd (none-some c is)
    by (Some n) found is =
        let free = free_there config a n (found_passes (is_free_block config a) (range_with_len 0 config.pagefile) n found) in
        subst (IsTaken config a None g) (same_Some (block.PageFile n) c is) (record { joins = tt; paging = tt; block = inr (inr (n, private, none, refl, free.0, free.1)) })
new_taken config a (Some (block.PageFile m)) g c private none is = by (is_free_block config a (m + 1)) refl is
  where
    by : (b : Bool) → is_free_block config a (m + 1) ≡ b → cond b (Some (block.PageFile (m + 1))) None ≡ Some c → IsTaken config a (Some (block.PageFile m)) g c
    by false found is = absurd (none-some c is)
    by true found is =
        let free = free_there config a (m + 1) found in
        subst (IsTaken config a (Some (block.PageFile m)) g) (same_Some (block.PageFile (m + 1)) c is) (record { joins = nat_eq_refl (m + 1); paging = tt; block = inr (inr (m + 1, private, none, refl, free.0, free.1)) })
new_taken config a (Some (block.Section s i)) g c private none is = absurd (none-some c is)
new_taken config a (Some (block.Swap p n)) g c private none is = absurd (none-some c is)

-- the page of the block is written to its section block, its own block, or a free one
taken : (config : Config) (a : Pager) (last : Option BlockId) (g : Page) (c : BlockId) → ((b : BlockId) → is_paged config g ≡ false → a.lies g ≡ Some b → IsPaging b) → block_out config a last (Some g) ≡ Some c → IsTaken config a last g c
taken config a last g c paging is = by (is_paged config g) refl is
  where
    paged : is_paged config g ≡ true → (o : Option ℕ) → block_of a.assigned g ≡ o → paged_block config a last o ≡ Some c → IsTaken config a last g c
    paged private None own is = new_taken config a last g c private own is
    paged private (Some n) own is =
        let at = joined last (block.PageFile n) c is in
        subst (IsTaken config a last g) at.0 (record { joins = subst (Joins last) (sym at.0) at.1; paging = tt; block = inr (inl (n, private, own, refl)) })

    lying : is_paged config g ≡ false → (o : Option BlockId) → a.lies g ≡ o → filed_block last o ≡ Some c → IsTaken config a last g c
    lying shared None lies is = absurd (none-some c is)
    lying shared (Some b) lies is =
        let at = joined last b c is in
        record { joins = at.1; paging = subst IsPaging at.0 (paging b shared lies); block = inl (shared, lies ∙ ap Some at.0) }

    by : (b : Bool) → is_paged config g ≡ b → cond b (paged_block config a last (block_of a.assigned g)) (filed_block last (a.lies g)) ≡ Some c → IsTaken config a last g c
    by true private is = paged private (block_of a.assigned g) refl is
    by false shared is = lying shared (a.lies g) refl is

-- ---- a seat's writes so far
abbrev begun_write : List Entry → ℕ → ℕ → BlockId → Flight
begun_write past seat f b = record { start = length past + 1; seat = seat; frame = f; block = b; direction = writing }

pub record IsWritingOn (past : List Entry) (seat : ℕ) (b : BlockId) (begun : ℕ) : Type 0 where
  pub busy : is_busy seat (open_flights past) ≡ true
  pub last : Flight
  pub lasts : (carrying seat past).last ≡ Some last
  pub block : last.block ≡ b
  pub writes : is_reading last.direction ≡ false
  pub none_landed : (carrying seat past).landed ≡ 0
  pub count : (carrying seat past).begun ≡ begun

-- none yet, or so many, the last one to this block
abbrev pub HasWritten : List Entry → ℕ → Option BlockId → ℕ → Type 0
HasWritten past seat None begun = (is_busy seat (open_flights past) ≡ false) × (begun ≡ 0)
HasWritten past seat (Some b) begun = IsWritingOn past seat b begun

pub record IsAtWork (config : Config) (past : List Entry) (seat : ℕ) : Type 0 where
  pub formed : IsWellFormed config
  pub run : IsRun config past
  pub calm : awaits_reuse past ≡ false
  pub seat_there : seat ≤ length config.procs + 1

-- ---- one write more
module _ (config : Config) (past : List Entry) (seat : ℕ) (work : IsAtWork config past seat) where
  abbrev now : Pager
  now = pager_after config past

  kept_now : IsKept config (past_view past) now
  kept_now = run_kept config past work.formed work.run

  right_now : IsOfConfig config now
  right_now = run_right config past work.formed work.run

  own_block : (g : Page) (n : ℕ) → block_of now.assigned g ≡ Some n → n < config.pagefile
  own_block g n is = by (find (is_assigned_to g) now.assigned) refl is
    where
      by : (o : Option Assigned) → find (is_assigned_to g) now.assigned ≡ o → option_map (λ (x : Assigned). x.block) o ≡ Some n → n < config.pagefile
      by None found is = absurd (none-some n is)
      by (Some x) found is = subst (λ (m : ℕ). m < config.pagefile) (same_Some x.block n is) (all_found (λ (y : Assigned). y.block < config.pagefile) (is_assigned_to g) now.assigned x right_now.assigned found)

  section_real : (g : Page) (c : BlockId) → is_paged config g ≡ false → IsPageOf config g → now.lies g ≡ Some c → IsBlock config c
  section_real (Private p v) c file of lies = absurd (false≢true (sym file))
  section_real (Shared s i) c file of lies = subst (IsBlock config) (same_Some (block.Section s i) c (sym ((kept_now.pages (Shared s i)).shared s i refl file) ∙ lies)) (of.0, file)

  home_of : (f : ℕ) (g : Page) (c : BlockId) → 0 < count_of now.modified f → now.page f ≡ Some g → IsOutBlock config now c g → IsBlock config c × (count_by (is_on_block c) (open_flights past) ≡ 0)
  home_of f g c listed holds (inl shared) = (section_real g c shared.0 (right_now.held f g holds) shared.1, lying_home config (past_view past) now kept_now g c (right_now.held f g holds) shared.1 (listed_still config (past_view past) now kept_now f g listed holds))
  home_of f g c listed holds (inr (inl own)) =
      subst (λ (b : BlockId). IsBlock config b × (count_by (is_on_block b) (open_flights past) ≡ 0)) (sym own.3) (own_block g own.0 own.2, assigned_home config (past_view past) now kept_now g own.0 own.2 (listed_still config (past_view past) now kept_now f g listed holds))
  home_of f g c listed holds (inr (inr free)) =
      subst (λ (b : BlockId). IsBlock config b × (count_by (is_on_block b) (open_flights past) ≡ 0)) (sym free.3) (free.4, unassigned_home config (past_view past) now kept_now free.0 free.5)

  -- a write is in turn
  pub out_turn : (last : Option BlockId) (begun f : ℕ) (c : BlockId) → HasWritten past seat last begun → Joins last c → begun < config.params.wrtcluster → InTurn config past (by_seat seat (what.Out (pfn f) c))
  out_turn last begun f c written joins room = record {
    reuse = λ due. not_both (awaits_reuse past) due work.calm;
    work = λ busy. refl;
    carrier = λ x is busy. subst (λ (y : Flight). MayJoin config (carrying seat past) y) (same_Some (begun_write past seat f c) x is) (may_join last written joins busy);
  }
    where
      may_join : (last : Option BlockId) → HasWritten past seat last begun → Joins last c → is_busy seat (open_flights past) ≡ true → MayJoin config (carrying seat past) (begun_write past seat f c)
      may_join None written joins busy = not_both (is_busy seat (open_flights past)) busy written.0
      may_join (Some b) on joins busy = record {
        last = on.last;
        lasts = on.lasts;
        none_landed = on.none_landed;
        same_way = sym on.writes;
        next_block = ap (λ (d : BlockId). is_next_block d c) on.block ∙ joins;
        room = (let count = on.count in omega (arith, count, room));
        not_fault = refl;
      }

  out_legal : (last : Option BlockId) (begun f : ℕ) (g : Page) (c : BlockId) → HasWritten past seat last begun → IsHead now.modified f → now.page f ≡ Some g → IsOutBlock config now c g → Joins last c → begun < config.params.wrtcluster
      → IsLegal config past now (by_seat seat (what.Out (pfn f) c))
  out_legal last begun f g c written head holds out joins room =
      let home = home_of f g c (head_counts now.modified f head) holds out in
      record {
        in_turn = out_turn last begun f c written joins room;
        line = record { seat = work.seat_there; what = (small, block_named config work.formed c home.0) };
        row = inl (record { home = record { exists = home.0; still = home.1 }; head = head; page = g; holds = holds; block = out });
      }
    where
      small : f < 2 ^ 32
      small = let within = holds_within config (past_view past) now f g kept_now holds in let most = work.formed.frames.1 in omega (arith, within, most)

  pub written_more : (last : Option BlockId) (begun f : ℕ) (c : BlockId) → HasWritten past seat last begun → IsWritingOn (by_seat seat (what.Out (pfn f) c) ∷ past) seat c (begun + 1)
  written_more last begun f c written = by last written
    where
      carried_now : (busy : Bool) → is_busy seat (open_flights past) ≡ busy → carrying seat (by_seat seat (what.Out (pfn f) c) ∷ past) ≡ carried busy (carrying seat past) (Some (begun_write past seat f c))
      carried_now busy is =
          ap (λ (own : Bool). cond own (carrying_with (length past + 1) seat (is_busy seat (open_flights past)) (what.Out (pfn f) c) (carrying seat past)) (carrying seat past)) (nat_eq_refl seat)
          ∙ ap (λ (b : Bool). carried b (carrying seat past) (Some (begun_write past seat f c))) is

      busy_now : is_busy seat (open_flights (by_seat seat (what.Out (pfn f) c) ∷ past)) ≡ true
      busy_now = ap (λ (own : Bool). own || is_busy seat (open_flights past)) (nat_eq_refl seat)

      by : (last : Option BlockId) → HasWritten past seat last begun → IsWritingOn (by_seat seat (what.Out (pfn f) c) ∷ past) seat c (begun + 1)
      by None written =
          let is = carried_now false written.0 in
          record {
            busy = busy_now;
            last = begun_write past seat f c;
            lasts = ap (λ (x : Carrying). x.last) is;
            block = refl;
            writes = refl;
            none_landed = ap (λ (x : Carrying). x.landed) is;
            count = ap (λ (x : Carrying). x.begun) is ∙ (let none = written.1 in omega (arith, none));
          }
      by (Some b) on =
          let is = carried_now true on.busy in
          record {
            busy = busy_now;
            last = begun_write past seat f c;
            lasts = ap (λ (x : Carrying). x.last) is;
            block = refl;
            writes = refl;
            none_landed = ap (λ (x : Carrying). x.landed) is ∙ on.none_landed;
            count = ap (λ (x : Carrying). x.begun) is ∙ (let count = on.count in omega (arith, count));
          }

  -- a frame stands once on the modified list
  tail_without : (f : ℕ) (fs : List ℕ) → now.modified ≡ f ∷ fs → (without now.modified f ≡ fs) × (count_of fs f ≡ 0)
  tail_without f fs is = (ap (λ (xs : List ℕ). without xs f) is ∙ (drops ∙ filter_all (λ (g : ℕ). nat_eq g f) fs none), none)
    where
      once : count_of (f ∷ fs) f ≤ 1
      once = at_most (count_of (f ∷ fs) f) _ (sym (ap (λ (xs : List ℕ). count_of xs f) is) ∙ (kept_now.frames f).on_modified)
        where
          at_most : (n : ℕ) (b : Bool) → n ≡ one_if b → n ≤ 1
          at_most n true same = omega (arith, same)
          at_most n false same = omega (arith, same)

      none : count_of fs f ≡ 0
      none = omega (arith, once, count_cons_yes (λ (g : ℕ). nat_eq g f) f fs (nat_eq_refl f))

      drops : without (f ∷ fs) f ≡ filter (λ (g : ℕ). not (nat_eq g f)) fs
      drops = ap (λ (b : Bool). cond (not b) (f ∷ filter (λ (g : ℕ). not (nat_eq g f)) fs) (filter (λ (g : ℕ). not (nat_eq g f)) fs)) (nat_eq_refl f)

-- ---- what stays while a cluster is written
abbrev IsBeyond : Option BlockId → ℕ → Type 0
IsBeyond None n = Unit {0}
IsBeyond (Some (block.PageFile m)) n = m < n
IsBeyond (Some other) n = Unit {0}

record StaysIn (a₀ a : Pager) (last : Option BlockId) (frames : List ℕ) : Type 0 where
  pub page : (f : ℕ) → a.page f ≡ a₀.page f
  pub lies : (g : Page) → a.lies g ≡ a₀.lies g
  pub modified : a.modified ≡ frames
  pub blocks : (f : ℕ) (g : Page) → 0 < count_of frames f → a₀.page f ≡ Some g → block_of a.assigned g ≡ block_of a₀.assigned g
  pub owners : (n : ℕ) → IsBeyond last n → count_by (is_owner (block.PageFile n)) a.assigned ≡ count_by (is_owner (block.PageFile n)) a₀.assigned

out_stays : (config : Config) (a₀ a : Pager) (last : Option BlockId) (frames : List ℕ) (f : ℕ) (g : Page) (c : BlockId) → StaysIn a₀ a last frames → 0 < count_of frames f → a₀.page f ≡ Some g → Joins last c → IsOutBlock config a₀ c g → IsOutBlock config a c g
out_stays config a₀ a last frames f g c same listed holds joins (inl shared) = inl (shared.0, same.lies g ∙ shared.1)
out_stays config a₀ a last frames f g c same listed holds joins (inr (inl own)) = inr (inl (own.0, own.1, same.blocks f g listed holds ∙ own.2, own.3))
out_stays config a₀ a last frames f g c same listed holds joins (inr (inr free)) =
    inr (inr (free.0, free.1, same.blocks f g listed holds ∙ free.2, free.3, free.4, same.owners free.0 (beyond last (subst (Joins last) free.3 joins)) ∙ free.5))
  where
    beyond : (last : Option BlockId) → Joins last (block.PageFile free.0) → IsBeyond last free.0
    beyond None joins = tt
    beyond (Some (block.PageFile m)) joins = let next = eqb-true free.0 (m + 1) joins in omega (arith, next)
    beyond (Some (block.Section s i)) joins = tt
    beyond (Some (block.Swap p n)) joins = tt

stays_more : (a₀ a : Pager) (last : Option BlockId) (f : ℕ) (fs : List ℕ) (g : Page) (c : BlockId) → StaysIn a₀ a last (f ∷ fs) → ((k h : ℕ) (x : Page) → a₀.page k ≡ Some x → a₀.page h ≡ Some x → k ≡ h) → a₀.page f ≡ Some g → without a.modified f ≡ fs → count_of fs f ≡ 0
    → IsPaging c → Joins last c → StaysIn a₀ (after_any_out a f c) (Some c) fs
stays_more a₀ a last f fs g (block.Swap p n) same once holds tail none paging joins = absurd paging
stays_more a₀ a last f fs g (block.Section s i) same once holds tail none paging joins = record {
  page = same.page;
  lies = same.lies;
  modified = tail;
  blocks = λ k x listed is. ap (λ (xs : List Assigned). block_of xs x) assigned_same ∙ same.blocks k x (omega (arith, listed, count_cons (λ (y : ℕ). nat_eq y k) f fs)) is;
  owners = λ n beyond. ap (λ (xs : List Assigned). count_by (is_owner (block.PageFile n)) xs) assigned_same ∙ same.owners n (before last joins n);
}
  where
    assigned_same : assigned_with a.assigned (a.page f) (block.Section s i) ≡ a.assigned
    assigned_same = ap (λ (o : Option Page). assigned_with a.assigned o (block.Section s i)) (same.page f ∙ holds)

    before : (last : Option BlockId) → Joins last (block.Section s i) → (n : ℕ) → IsBeyond last n
    before None joins n = tt
    before (Some (block.PageFile m)) joins n = absurd (false≢true joins)
    before (Some (block.Section t j)) joins n = tt
    before (Some (block.Swap p k)) joins n = tt
stays_more a₀ a last f fs g (block.PageFile m) same once holds tail none paging joins = record {
  page = same.page;
  lies = same.lies;
  modified = tail;
  blocks = λ k x listed is. ap (λ (xs : List Assigned). block_of xs x) assigned_is ∙ (other_page (nat_eq (count_by (is_assigned_to g) a.assigned) 0) k x listed is ∙ same.blocks k x (omega (arith, listed, count_cons (λ (y : ℕ). nat_eq y k) f fs)) is);
  owners = λ n beyond. ap (λ (xs : List Assigned). count_by (is_owner (block.PageFile n)) xs) assigned_is ∙ (other_block (nat_eq (count_by (is_assigned_to g) a.assigned) 0) n beyond ∙ same.owners n (before last joins n beyond));
}
  where
    new_one : Assigned
    new_one = record { page = g; block = m }

    assigned_is : assigned_with a.assigned (a.page f) (block.PageFile m) ≡ cond (nat_eq (count_by (is_assigned_to g) a.assigned) 0) (new_one ∷ a.assigned) a.assigned
    assigned_is = ap (λ (o : Option Page). assigned_with a.assigned o (block.PageFile m)) (same.page f ∙ holds)

    apart : (k : ℕ) (x : Page) → 0 < count_of fs k → a₀.page k ≡ Some x → same_page x g ≡ false
    apart k x listed is = go (same_page x g) refl
      where
        go : (b : Bool) → same_page x g ≡ b → b ≡ false
        go false no_match = refl
        go true match_ = absurd (let at = once k f x is (holds ∙ ap Some (sym (pages_equal x g match_))) in let counts = ap (count_of fs) at in omega (arith, listed, counts, none))

    other_page : (b : Bool) (k : ℕ) (x : Page) → 0 < count_of fs k → a₀.page k ≡ Some x → block_of (cond b (new_one ∷ a.assigned) a.assigned) x ≡ block_of a.assigned x
    other_page false k x listed is = refl
    other_page true k x listed is = ap (λ (o : Option Assigned). option_map (λ (y : Assigned). y.block) o) (find_cons_no (is_assigned_to x) new_one a.assigned (apart k x listed is))

    other_block : (b : Bool) (n : ℕ) → m < n → count_by (is_owner (block.PageFile n)) (cond b (new_one ∷ a.assigned) a.assigned) ≡ count_by (is_owner (block.PageFile n)) a.assigned
    other_block false n beyond = refl
    other_block true n beyond = count_cons_no (is_owner (block.PageFile n)) new_one a.assigned (ne_eqb m n (λ at. omega (arith, at, beyond)))

    before : (last : Option BlockId) → Joins last (block.PageFile m) → (n : ℕ) → m < n → IsBeyond last n
    before None joins n beyond = tt
    before (Some (block.PageFile k)) joins n beyond = let next = eqb-true m (k + 1) joins in omega (arith, next, beyond)
    before (Some (block.Section t j)) joins n beyond = tt
    before (Some (block.Swap p k)) joins n beyond = tt

-- ---- the writes of a cluster
module _ (config : Config) (a₀ : Pager) (once : (k h : ℕ) (x : Page) → a₀.page k ≡ Some x → a₀.page h ≡ Some x → k ≡ h) (paging : (g : Page) (b : BlockId) → is_paged config g ≡ false → a₀.lies g ≡ Some b → IsPaging b) (seat : ℕ) where
  abbrev Later : ℕ → List ℕ → List Entry → ℕ → Type 0
  Later f fs past begun =
      (c : BlockId) (m : ℕ) → IsAtWork config (by_seat seat (what.Out (pfn f) c) ∷ past) seat → IsWritingOn (by_seat seat (what.Out (pfn f) c) ∷ past) seat c (begun + 1) → StaysIn a₀ (pager_after config (by_seat seat (what.Out (pfn f) c) ∷ past)) (Some c) fs
      → begun + 1 + m ≤ config.params.wrtcluster → AreLegal config (by_seat seat (what.Out (pfn f) c) ∷ past) seat (writes_from config a₀ m (Some c) fs)

  writes_legal : (frames : List ℕ) (n : ℕ) (last : Option BlockId) (past : List Entry) (begun : ℕ) → IsAtWork config past seat → HasWritten past seat last begun → StaysIn a₀ (pager_after config past) last frames → begun + n ≤ config.params.wrtcluster
      → AreLegal config past seat (writes_from config a₀ n last frames)
  writes_legal [] n last past begun work written same room = tt
  writes_legal (f ∷ fs) n last past begun work written same room = by n room (a₀.page f) refl (λ c m work' written' same' room'. writes_legal fs m (Some c) (by_seat seat (what.Out (pfn f) c) ∷ past) (begun + 1) work' written' same' room')
    where
      at_block : (m : ℕ) → begun + suc m ≤ config.params.wrtcluster → (g : Page) → a₀.page f ≡ Some g → (o : Option BlockId) → block_out config a₀ last (Some g) ≡ o → Later f fs past begun
          → AreLegal config past seat (writes_taken f (suc m) o (λ (b : BlockId) (k : ℕ). writes_from config a₀ k (Some b) fs))
      at_block m room g holds None found later = tt
      at_block m room g holds (Some c) found later =
          let takes = taken config a₀ last g c (paging g) found in
          let first : 0 < count_of (f ∷ fs) f = omega (arith, count_cons_yes (λ (y : ℕ). nat_eq y f) f fs (nat_eq_refl f)) in
          let out = out_stays config a₀ (pager_after config past) last (f ∷ fs) f g c same first holds takes.joins takes.block in
          let legal = out_legal config past seat work last begun f g c written (record { rest = fs; heads = same.modified }) (same.page f ∙ holds) out takes.joins (omega (arith, room)) in
          let tail = tail_without config past seat work f fs same.modified in (
            legal,
            later c m (record { formed = work.formed; run = (work.run, legal); calm = refl; seat_there = work.seat_there }) (written_more config past seat work last begun f c written)
                (stays_more a₀ (pager_after config past) last f fs g c same once holds tail.0 tail.1 takes.paging takes.joins) (omega (arith, room)),
          )

      by : (n : ℕ) → begun + n ≤ config.params.wrtcluster → (o : Option Page) → a₀.page f ≡ o → Later f fs past begun → AreLegal config past seat (writes_taken f n (block_out config a₀ last o) (λ (b : BlockId) (m : ℕ). writes_from config a₀ m (Some b) fs))
      by zero room o holds later = tt
      by (suc m) room None holds later = tt
      by (suc m) room (Some g) holds later = at_block m room g holds (block_out config a₀ last (Some g)) refl later

-- what a write cluster makes is legal
pub begin_legal : (config : Config) (past : List Entry) (seat : ℕ) (reason : Reason) → MayWork config past seat → AreLegal config past seat (begin_gives config (pager_after config past) reason).made
begin_legal config past seat reason may = by (is_enough config a reason || nat_eq (length a.modified) 0)
  where
    a : Pager
    a = pager_after config past

    kept : IsKept config (past_view past) (pager_after config past)
    kept = run_kept config past may.formed may.run

    paging : (g : Page) (b : BlockId) → is_paged config g ≡ false → (pager_after config past).lies g ≡ Some b → IsPaging b
    paging (Private p v) b shared lies = absurd (false≢true (sym shared))
    paging (Shared s i) b file lies = subst IsPaging (same_Some (block.Section s i) b (sym ((kept.pages (Shared s i)).shared s i refl file) ∙ lies)) tt

    by : (enough : Bool) → AreLegal config past seat (cond enough (given [] begin_nothing) (given (writes_from config (pager_after config past) config.params.wrtcluster None (pager_after config past).modified) begin_carry)).made
    by true = tt
    by false =
        writes_legal config (pager_after config past) kept.held_once paging seat (pager_after config past).modified config.params.wrtcluster None past 0
        (record { formed = may.formed; run = may.run; calm = may.free.calm; seat_there = may.seat_there }) (may.free.idle, refl)
        (record { page = λ f. refl; lies = λ g. refl; modified = refl; blocks = λ f g listed holds. refl; owners = λ n beyond. refl }) (omega arith)
