-- The first read of a fault's cluster is legal.
use Rattle.std.proofs.Common.{◌≡◌, ◌⊎◌, inl, inr, ℕ, zero, suc, ◌<◌, ◌≤◌, ◌^◌, ◌&&◌, Bool, true, false, cond, List, ◌∷◌, Option, Some, None, length, find, count_by, nat_eq, slice_get, refl, sym, ap, ◌∙◌, subst, arith, true≢false}
use Rattle.std.specs.Option.{option_map}
use Rattle.std.proofs.lemmas.Bool.{and_parts, cases_eq, eq-eqb, eqb-true, false≢true, ltb-false}
use Rattle.std.proofs.lemmas.Option.{none-some, same_Some}
use Rattle.vm_types.specs.Configuration.{IsBlock}
use Rattle.vm_types.specs.Ring.{filled}
use Rattle.vm_types.specs.declared.config.Config.{Config}
use Rattle.vm_types.specs.declared.config.Origin.{Origin}
use Rattle.vm_types.specs.declared.config.Origin.TheVariants as origin
use Rattle.vm_types.specs.declared.config.ProcSpec.{ProcSpec}
use Rattle.vm_types.specs.declared.names.BlockId.{BlockId}
use Rattle.vm_types.specs.declared.names.BlockId.TheVariants as block
use Rattle.vm_types.specs.declared.names.Page.{Page}
use Rattle.vm_types.specs.declared.names.Page.TheVariants.{Private, Shared}
use Rattle.vm_journal.specs.declared.entry.Entry.{Entry}
use Rattle.vm_journal.specs.declared.entry.Role.TheVariants as role
use Rattle.vm_journal.specs.declared.entry.What.TheVariants as what
use Rattle.pager_policy.specs.Advance.{is_busy_block, source_of}
use Rattle.pager_model.specs.Charging.{first_source, is_uncharged}
use Rattle.pager_model.specs.Around.{past_view}
use Rattle.pager_model.specs.Flights.{open_flights}
use Rattle.pager_model.specs.Forget.{holder}
use Rattle.pager_policy.specs.Given.{by_seat, page_address}
use Rattle.pager_model.specs.Maps.{pfn, Mapped, is_paged, is_private, page_behind, proc}
use Rattle.pager_model.specs.In.{IsFirstIn}
use Rattle.pager_model.specs.Lookups.{count_page, is_assigned_to, page_at, page_by, section_at, section_of}
use Rattle.pager_model.specs.OfConfig.{IsOrigin, IsPageOf}
use Rattle.pager_model.specs.Own.{IsEmptyHead}
use Rattle.pager_model.specs.Pager.{Assigned, Pager}
use Rattle.pager_model.specs.Run.{pager_after}
use Rattle.pager_model.specs.Step.{IsLegal}
use Rattle.pager_model.specs.Transfers.{is_on_block}
use Rattle.pager_rules.proofs.Lists.{all_found}
use Rattle.pager_rules.proofs.Put.{head_counts}
use Rattle.pager_rules.specs.Kept.{IsKept}
use Rattle.pager_laws.proofs.OfConfigKept.{page_right}
use Rattle.pager_laws.proofs.EntryPages.{mapped_right, mapped_there}
use Rattle.pager_laws.proofs.Holders.{free_is, holder_there}
use Rattle.pager_rules.proofs.Pages.{origin_behind}
use Rattle.pager_rules.proofs.Basics.{at_number_same}
use Rattle.pager_model.specs.Carrier.{Carrying}
use Rattle.vm_types.specs.declared.names.FrameState.TheVariants as state
use Rattle.pager_model.specs.Zero.{is_zero_origin}
use Rattle.content_laws.proofs.SectionBehind.{unshared_behind, unshared_file}
use Rattle.call_laws.specs.Ready.{IsReady}
use Rattle.call_laws.proofs.FreeTurn.{free_turn, page_starts, same_number}
use Rattle.call_laws.proofs.HaveNames.{block_named}
use Rattle.call_laws.proofs.NearLegal.{IsReadingOn, begun_read, busy_after, carrying_after}
use Rattle.call_laws.proofs.WaitsLegal.{frame_small, kept, mapped_small, right, seat_small}

-- a page that no frame holds, as the search for its frame says
pub held_by_none : (config : Config) (past : List Entry) (a : Pager) (g : Page) → IsKept config (past_view past) a → holder config a.page g ≡ None → (f : ℕ) → a.page f ≡ Some g → ⊥
held_by_none config past a g kept none f holds = none-some f (sym none ∙ holder_there config (past_view past) a g f kept holds)

pub still_block : (past : List Entry) (b : BlockId) → is_busy_block past (Some b) ≡ false → count_by (is_on_block b) (open_flights past) ≡ 0
still_block past b still = let most = ltb-false 0 (count_by (is_on_block b) (open_flights past)) still in omega (arith, most)

pub less_if_apart : (m n : ℕ) → m ≤ n → nat_eq m n ≡ false → m < n
less_if_apart m n most apart = go (cases_eq m n)
  where
    go : (m ≡ n) ⊎ (m ≡ n → ⊥) → m < n
    go (inl same) = absurd (false≢true (sym apart ∙ eq-eqb m n same))
    go (inr other) = omega (arith, most, other)

module _ (config : Config) (past : List Entry) (p : ℕ) (ready : IsReady config past p) where
  abbrev a : Pager
  a = pager_after config past

  in_file_block : (g : Page) (n : ℕ) → a.lies g ≡ Some (block.PageFile n) → n < config.pagefile
  in_file_block g n lies = by (find (is_assigned_to g) a.assigned) refl (((kept config past p ready).pages g).in_file n lies)
    where
      by : (o : Option Assigned) → find (is_assigned_to g) a.assigned ≡ o → option_map (λ (x : Assigned). x.block) o ≡ Some n → n < config.pagefile
      by None is found = absurd (none-some n found)
      by (Some x) is found = subst (λ (m : ℕ). m < config.pagefile) (same_Some x.block n found) (all_found (λ (y : Assigned). y.block < config.pagefile) (is_assigned_to g) a.assigned x (right config past p ready).assigned is)

  -- the block in which a page lies is one of the configuration
  pub lying_block : (g : Page) (b : BlockId) → IsPageOf config g → a.lies g ≡ Some b → IsBlock config b
  lying_block g (block.PageFile n) of lies = in_file_block g n lies
  lying_block (Shared s i) (block.Section t j) of lies = by (is_paged config (Shared s i)) refl
    where
      by : (c : Bool) → is_paged config (Shared s i) ≡ c → IsBlock config (block.Section t j)
      by true paged = absurd (((kept config past p ready).pages (Shared s i)).not_in_section t j paged lies)
      by false file =
          let there = same_Some (block.Section t j) (block.Section s i) (sym lies ∙ ((kept config past p ready).pages (Shared s i)).shared s i refl file) in
          subst (IsBlock config) (sym there) (of.0, file)
  lying_block (Shared s i) (block.Swap r n) of lies = absurd (false≢true ((kept config past p ready).swapped (Shared s i) r.0 n lies).own)
  lying_block (Private q w) (block.Section s i) of lies = absurd (((kept config past p ready).pages (Private q w)).not_in_section s i refl lies)
  lying_block (Private q w) (block.Swap r n) of lies =
      let swapped = (kept config past p ready).swapped (Private q w) r.0 n lies in
      let own : q.0 ≡ r.0 = eqb-true q.0 r.0 swapped.own in
      let process : r.0 < length config.procs = subst (λ (k : ℕ). k < length config.procs) own of.0 in
      slot_there r.0 n process swapped.within
    where
      slot_there : (k n : ℕ) → k < length config.procs → n < length (a.ring k).slots → (spec : ProcSpec) × (slice_get config.procs k ≡ Some spec) × (n < spec.extent)
      slot_there k n process within = by (slice_get config.procs k) refl
        where
          by : (o : Option ProcSpec) → slice_get config.procs k ≡ o → (spec : ProcSpec) × (slice_get config.procs k ≡ Some spec) × (n < spec.extent)
          by None is = absurd (let none = ((kept config past p ready).processes k).none is in omega (arith, within, none.1))
          by (Some spec) is = let slots = (((kept config past p ready).processes k).bounds spec is).slots in (spec, is, omega (arith, within, slots))

  -- the block behind a page is one too
  pub section_block : (v : ℕ) (g : Page) (b : BlockId) → page_by config a.map p v ≡ Some g → is_private g ≡ true → section_at (a.map p v) ≡ Some b → IsBlock config b
  section_block v g b mapped private behind =
      let found = mapped_right config a p v g (right config past p ready) mapped in
      by found.0.origin found.3.origin (sym (ap section_at found.1) ∙ behind)
    where
      by : (o : Origin) → IsOrigin config o → section_of o ≡ Some b → IsBlock config b
      by origin.Zero there is = absurd (none-some b is)
      by (origin.Section s i) there is =
          subst (IsBlock config) (same_Some (block.Section s i) b is) (there, unshared_file (slice_get config.sections s.0) (unshared_behind config a.map g p v s i mapped private (behind ∙ sym is)))

  -- ---- the source of a page that is out
  abbrev pub Comes : ℕ → Page → BlockId → Type 0
  Comes v g b = (a.lies g ≡ Some b) ⊎ IsFirstIn config a p v b g

  pub first_private : (g : Page) (m : Option Mapped) (b : BlockId) → first_source g m ≡ Some b → (is_private g ≡ true) × (section_at m ≡ Some b)
  first_private (Private q w) m b is = (refl, is)
  first_private (Shared s i) m b is = absurd (none-some b is)

  pub comes_from : (v : ℕ) (g : Page) (b : BlockId) → source_of config a g (a.map p v) ≡ Some b → (is_uncharged config a g && nat_eq (length a.charged) config.pagefile) ≡ false → Comes v g b
  comes_from v g b source room = by (is_uncharged config a g) refl source room
    where
      by : (c : Bool) → is_uncharged config a g ≡ c → cond c (first_source g (a.map p v)) (a.lies g) ≡ Some b → (c && nat_eq (length a.charged) config.pagefile) ≡ false → Comes v g b
      by false is there room = inl there
      by true is there room =
          let parts = and_parts (is_paged config g) (nat_eq (count_page a.charged g) 0) is in
          let first = first_private g (a.map p v) b there in
          let fit = (kept config past p ready).fit in
          inr (record { private = first.0; behind = first.1; uncharged = eqb-true _ _ parts.1; room = less_if_apart (length a.charged) config.pagefile fit room })

  pub source_block : (v : ℕ) (g : Page) (b : BlockId) → page_by config a.map p v ≡ Some g → Comes v g b → IsBlock config b
  source_block v g b mapped (inl lies) = lying_block g b (page_right config a.map p v g (right config past p ready).mapped mapped) lies
  source_block v g b mapped (inr first) = section_block v g b mapped first.private first.behind

  -- ---- IN of role FAULT
  pub in_fault_legal : (v f : ℕ) (g : Page) (b : BlockId) → page_by config a.map p v ≡ Some g → ((k : ℕ) → a.page k ≡ Some g → ⊥) → filled (a.ring p).slots < a.limit p → IsEmptyHead a f → Comes v g b → count_by (is_on_block b) (open_flights past) ≡ 0
      → IsLegal config past a (by_seat p (what.In (pfn f) b (role.Fault (proc p) (page_address v))))
  in_fault_legal v f g b mapped out below empty comes still = record {
    in_turn = free_turn config past p _ ready.free;
    line = record { seat = seat_small config past p ready; what = (small, block_named config ready.formed b real, (ready.own.process, page_starts v (mapped_small config past p ready v g mapped))) };
    row = record {
      own = ready.own;
      self = refl;
      home = record { exists = real; still = still };
      frame = empty;
      below_limit = below;
      page = g;
      mapped = ap (page_by config a.map p) (same_number v) ∙ mapped;
      out = out;
      from = subst (λ (w : ℕ). Comes w g b) (sym (same_number v)) comes;
    };
  }
    where
      real : IsBlock config b
      real = source_block v g b mapped comes

      small : f < 2 ^ 32
      small = frame_small config past p ready f (free_is config past a f (kept config past p ready) (head_counts a.free f empty.head)).within

  -- the seat carries that read then
  pub in_fault_reading : (v f : ℕ) (g : Page) (b : BlockId) → page_by config a.map p v ≡ Some g → IsLegal config past a (by_seat p (what.In (pfn f) b (role.Fault (proc p) (page_address v))))
      → IsReadingOn config (by_seat p (what.In (pfn f) b (role.Fault (proc p) (page_address v))) ∷ past) p b g 1
  in_fault_reading v f g b mapped legal =
      let now = carrying_after past p f b (role.Fault (proc p) (page_address v)) false ready.free.idle in
      record {
        formed = ready.formed;
        run = (ready.run, legal);
        calm = refl;
        process = ready.own.process;
        busy = busy_after past p f b (role.Fault (proc p) (page_address v));
        last = begun_read past p f b (role.Fault (proc p) (page_address v));
        lasts = ap (λ (x : Carrying). x.last) now;
        block = refl;
        role = refl;
        none_landed = ap (λ (x : Carrying). x.landed) now;
        count = ap (λ (x : Carrying). x.begun) now;
        holds = at_number_same a.page f _ ∙ (ap (page_by config a.map p) (same_number v) ∙ mapped);
        state = at_number_same a.state f state.Reading;
      }

  -- a page that is neither in a frame nor anywhere else is made of zeros
  pub record IsNewZero (v : ℕ) : Type 0 where
    pub mapping : Mapped
    pub mapped : a.map p v ≡ Some mapping
    pub zero : is_zero_origin config mapping.origin ≡ true
    pub uncharged : count_page a.charged (page_behind config p v mapping.origin) ≡ 0
    pub room : length a.charged < config.pagefile

  pub new_zero : (v : ℕ) (g : Page) → page_by config a.map p v ≡ Some g → ((f : ℕ) → a.page f ≡ Some g → ⊥) → source_of config a g (a.map p v) ≡ None → (is_uncharged config a g && nat_eq (length a.charged) config.pagefile) ≡ false → IsNewZero v
  new_zero v g mapped out source room = by (is_uncharged config a g) refl source room
    where
      -- a charged page is in a frame or lies somewhere, and a page of a section with a file lies in its block
      nowhere : is_uncharged config a g ≡ false → a.lies g ≡ None → IsNewZero v
      nowhere is lies = at (is_paged config g) refl
        where
          charged : (n : ℕ) → (true && nat_eq n 0) ≡ false → 0 < n
          charged zero is = absurd (false≢true (sym is))
          charged (suc n) is = omega arith

          filed : (h : Page) → is_paged config h ≡ false → a.lies h ≡ None → ⊥
          filed (Private q w) file none = true≢false file
          filed (Shared s i) file none = none-some _ (sym none ∙ ((kept config past p ready).pages (Shared s i)).shared s i refl file)

          at : (c : Bool) → is_paged config g ≡ c → IsNewZero v
          at false file = absurd (filed g file lies)
          at true paged =
              let some : 0 < count_page a.charged g = charged (count_page a.charged g) (sym (ap (λ (b : Bool). b && nat_eq (count_page a.charged g) 0) paged) ∙ is) in
              let held = (kept config past p ready).unsaved g some lies in
              absurd (out held.0 held.1)

      of_origin : (m : Mapped) → page_behind config p v m.origin ≡ g → is_paged config g ≡ true → first_source g (Some m) ≡ None → is_zero_origin config m.origin ≡ true
      of_origin m behind paged none = by_page g behind paged none
        where
          by_origin : (o : Origin) → section_of o ≡ None → is_zero_origin config o ≡ true
          by_origin origin.Zero is = refl
          by_origin (origin.Section s i) is = absurd (none-some _ (sym is))

          by_page : (h : Page) → page_behind config p v m.origin ≡ h → is_paged config h ≡ true → first_source h (Some m) ≡ None → is_zero_origin config m.origin ≡ true
          by_page (Private q w) behind paged none = by_origin m.origin none
          by_page (Shared s i) behind paged none = ap (is_zero_origin config) (origin_behind config p v m.origin s i behind) ∙ paged

      by : (c : Bool) → is_uncharged config a g ≡ c → cond c (first_source g (a.map p v)) (a.lies g) ≡ None → (c && nat_eq (length a.charged) config.pagefile) ≡ false → IsNewZero v
      by false is there room = nowhere is there
      by true is there room =
          let parts = and_parts (is_paged config g) (nat_eq (count_page a.charged g) 0) is in
          let found = mapped_there config a.map p v g mapped in
          let behind : page_behind config p v (found.0).origin ≡ g = same_Some _ g (sym (ap (page_at config p v) found.1) ∙ mapped) in
          let fit = (kept config past p ready).fit in
          record {
            mapping = found.0;
            mapped = found.1;
            zero = of_origin found.0 behind parts.0 (sym (ap (first_source g) found.1) ∙ there);
            uncharged = ap (count_page a.charged) behind ∙ eqb-true _ _ parts.1;
            room = less_if_apart (length a.charged) config.pagefile fit room;
          }
