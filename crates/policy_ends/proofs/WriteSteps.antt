-- What single entries of a write leave no higher: unsaved pages, and the modified list with the writes from it that
-- are open.
use Rattle.std.proofs.Common.{◌≡◌, ◌⊎◌, inl, inr, ℕ, ◌+◌, ◌<◌, ◌≤◌, ◌&&◌, Bool, true, false, not, cond, List, [], ◌∷◌, Option, Some, None, length, find, count_by, nat_eq, nat_lt, refl, sym, ap, ap₂, ◌∙◌, subst, arith}
use Rattle.std.specs.List.{AllByRecursion}
use Rattle.std.proofs.lemmas.Bool.{and_from, and_left, and_parts, cases_eq, eq-eqb, false≢true, lt-ltb, ltb-true, ne_eqb, true≢false}
use Rattle.std.proofs.lemmas.List.{length-append}
use Rattle.std.proofs.lemmas.List.Sums.{length-filter}
use Rattle.std.proofs.lemmas.Option.{same_Some}
use Rattle.vm_types.specs.Same.{same_block, same_page}
use Rattle.vm_types.specs.declared.names.Page.{Page}
use Rattle.vm_types.specs.declared.names.Page.TheVariants.{Private, Shared}
use Rattle.vm_types.specs.declared.names.BlockId.{BlockId}
use Rattle.vm_types.specs.declared.names.BlockId.TheVariants as block
use Rattle.vm_types.specs.declared.names.FrameState.{FrameState}
use Rattle.vm_types.specs.declared.names.FrameState.TheVariants as state
use Rattle.vm_types.specs.declared.names.ProcStatus.{ProcStatus}
use Rattle.vm_types.specs.declared.names.ProcStatus.TheVariants as status
use Rattle.vm_types.specs.declared.config.Config.{Config}
use Rattle.vm_journal.specs.declared.entry.Entry.{Entry}
use Rattle.page_lists.specs.Lists.{count_of, without}
use Rattle.pager_model.specs.Around.{frame_view, past_view, process_view, page_view, entry_view}
use Rattle.pager_model.specs.Changes.{pushed_if}
use Rattle.pager_model.specs.Flights.{Direction, Flight, is_reading, open_flights, without_flight, writing}
use Rattle.pager_model.specs.Lookups.{has_vpn, is, is_entry, own_page, page_by, shares, slot_with}
use Rattle.vm_types.specs.Status.{is_coming, is_leaving}
use Rattle.pager_model.specs.Maps.{is_paged, is_private, proc}
use Rattle.pager_model.specs.Out.{IsAnyOut, IsOut, IsOutBlock, IsOutSwap, after_any_out, after_out}
use Rattle.pager_model.specs.OutLanding.{after_out_ok, lies_at, marked}
use Rattle.pager_model.specs.Pager.{Pager, Valid}
use Rattle.pager_model.specs.Sets.{at_number, at_page}
use Rattle.pager_model.specs.Sound.{FitsSlot}
use Rattle.pager_policy.specs.Swap.{is_still}
use Rattle.pager_model.specs.Transfers.{is_in_flight, is_read_on, is_write_on, reads_on, starts, writes_on}
use Rattle.pager_rules.proofs.Basics.{at_number_other, at_number_same, count_cons, count_cons_no, count_cons_yes, each_weaker, nat_eq_refl, pages_equal, same_page_refl}
use Rattle.pager_rules.proofs.Frames.{at_state, modified_frame}
use Rattle.pager_rules.proofs.Lists.{all_filter, all_found, all_step, count_filter_le, count_removed, count_removed_yes, found_one}
use Rattle.pager_rules.proofs.Pages.{is_of_private, own_is, private_is_paged}
use Rattle.pager_rules.proofs.Quiet.{starts_once}
use Rattle.pager_rules.specs.Kept.{FitsDirection, FitsFlight, FitsWrite, HasWrites, IsForItsPage, IsKept, IsSwapWrite, one_if, views}
use Rattle.call_laws.proofs.FollowingPages.{lies_there}
use Rattle.call_laws.proofs.SlotsOnce.{only_place}
use Rattle.serial_laws.proofs.Slots.{slot_counts}
use Rattle.pager_laws.proofs.ValidEntries.{IsValidAt, valid_at_page}
use Rattle.policy_ends.specs.Rank.{is_in_its_block, is_saved_page, is_unsaved, is_unsaved_page, left_to_come, lies_in_swap, unsaved}
use Rattle.serial_laws.proofs.Counting.{each_is}
use Rattle.pager_model.specs.Lying.{lies_in}
use Rattle.policy_ends.proofs.Order.{fewer_pass, less_pass}

-- ---- the writes that leave the modified list
abbrev pub is_swap_block : BlockId → Bool
is_swap_block (block.Swap p n) = true
is_swap_block other = false

abbrev pub is_list_write : Flight → Bool
is_list_write x = not (is_swap_block x.block)

abbrev pub listed : List Entry → Pager → ℕ
listed past a = length a.modified + count_by is_list_write (open_flights past)

-- each open flight is a write, and its frame's modify mark is clear
abbrev pub IsClear : Pager → Flight → Type 0
IsClear a x = (x.direction ≡ writing) × (a.modify x.frame ≡ false)

abbrev pub AreClear : List Entry → Pager → Type 0
AreClear past a = AllByRecursion (IsClear a) (open_flights past)

pub record IsNoHigher (past more : List Entry) (a b : Pager) : Type 0 where
  pub status : b.status ≡ a.status
  pub ring : b.ring ≡ a.ring
  pub references : b.references ≡ a.references
  pub come : (p : ℕ) → left_to_come b p ≤ left_to_come a p
  pub unsaved : unsaved more b ≤ unsaved past a
  pub listed : listed more b ≤ listed past a
  pub clear : AreClear more b

-- ---- Booleans
and_none : (b : Bool) → (b && false) ≡ false
and_none true = refl
and_none false = refl

not_false : (b : Bool) → not b ≡ true → b ≡ false
not_false false is = refl
not_false true is = absurd (false≢true is)

still_with : (m n : ℕ) → m ≤ n → not (nat_lt 0 n) ≡ true → not (nat_lt 0 m) ≡ true
still_with m n less still = by (nat_lt 0 m) refl
  where
    by : (b : Bool) → nat_lt 0 m ≡ b → not b ≡ true
    by false is = refl
    by true is = absurd (let some = ltb-true 0 m is in false≢true (ap not (sym (lt-ltb 0 n (omega (arith, some, less)))) ∙ still))

-- ---- a page that is unsaved afterwards was so before
unsaved_back : (past more : List Entry) (a b : Pager) (e : Valid) → b.status ≡ a.status → b.page ≡ a.page
    → ((g : Page) → a.page e.frame ≡ Some g → is_private g ≡ true → is_saved_page past a e g ≡ true → is_saved_page more b e g ≡ true)
    → is_unsaved more b e ≡ true → is_unsaved past a e ≡ true
unsaved_back past more a b e same_status same_page saves is =
    and_from _ _ (ap (λ (f : ℕ → ProcStatus). is_leaving (f e.proc)) (sym same_status) ∙ parts.0)
    (by (a.page e.frame) refl (subst (λ (f : ℕ → Option Page). is_unsaved_page more b e (f e.frame) ≡ true) same_page parts.1))
  where
    parts : (is_leaving (b.status e.proc) ≡ true) × (is_unsaved_page more b e (b.page e.frame) ≡ true)
    parts = and_parts (is_leaving (b.status e.proc)) (is_unsaved_page more b e (b.page e.frame)) is

    by : (o : Option Page) → a.page e.frame ≡ o → is_unsaved_page more b e o ≡ true → is_unsaved_page past a e o ≡ true
    by None holds unsaved_now = absurd (false≢true unsaved_now)
    by (Some g) holds unsaved_now =
        let now = and_parts (is_private g) (not (is_saved_page more b e g)) unsaved_now in
        and_from _ _ now.0 (go (is_saved_page past a e g) refl now.0 (not_false (is_saved_page more b e g) now.1))
      where
        go : (c : Bool) → is_saved_page past a e g ≡ c → is_private g ≡ true → is_saved_page more b e g ≡ false → not c ≡ true
        go false before private after = refl
        go true before private after = absurd (false≢true (sym after ∙ saves g holds private before))

fewer_unsaved : (config : Config) (past more : List Entry) (a b : Pager) → IsKept config (past_view past) a → b.status ≡ a.status → b.page ≡ a.page → b.valid ≡ a.valid
    → ((e : Valid) → 0 < shares a.valid e.frame → IsForItsPage config a.map a.page e → (g : Page) → a.page e.frame ≡ Some g → is_private g ≡ true → is_saved_page past a e g ≡ true → is_saved_page more b e g ≡ true)
    → AllByRecursion (λ (e : Valid). is_unsaved more b e ≡ true → is_unsaved past a e ≡ true) a.valid
fewer_unsaved config past more a b kept same_status same_page same_valid saves =
    all_step (IsForItsPage config a.map a.page) (λ (e : Valid). is_unsaved more b e ≡ true → is_unsaved past a e ≡ true) a.valid
    (λ e some its. unsaved_back past more a b e same_status same_page (saves e (some (λ (y : Valid). nat_eq y.frame e.frame) (nat_eq_refl e.frame)) its)) kept.valid

count_unsaved : (past more : List Entry) (a b : Pager) → b.valid ≡ a.valid → AllByRecursion (λ (e : Valid). is_unsaved more b e ≡ true → is_unsaved past a e ≡ true) a.valid
    → unsaved more b ≤ unsaved past a
count_unsaved past more a b same each =
    let fewer = fewer_pass (is_unsaved more b) (is_unsaved past a) a.valid each in
    let now = ap (count_by (is_unsaved more b)) same in
    omega (arith, fewer, now)

-- saved before is saved afterwards, by its parts
saved_with : (past more : List Entry) (a b : Pager) (e : Valid) (g : Page) → (is_in_its_block a e g ≡ true → is_in_its_block b e g ≡ true) → b.modify e.frame ≡ a.modify e.frame
    → reads_on e.frame (open_flights more) + writes_on e.frame (open_flights more) ≤ reads_on e.frame (open_flights past) + writes_on e.frame (open_flights past) → is_saved_page past a e g ≡ true → is_saved_page more b e g ≡ true
saved_with past more a b e g lies mark fewer saved =
    let first = and_parts (is_in_its_block a e g) (not (a.modify e.frame) && is_still past e.frame) saved in
    let second = and_parts (not (a.modify e.frame)) (is_still past e.frame) first.1 in
    and_from _ _ (lies first.0) (and_from _ _ (ap not mark ∙ second.0) (still_with _ _ fewer second.1))

-- a frame with an open write holds no saved page
not_saved : (past : List Entry) (a : Pager) (e : Valid) (g : Page) → 0 < writes_on e.frame (open_flights past) → is_saved_page past a e g ≡ false
not_saved past a e g some = by (is_saved_page past a e g) refl
  where
    by : (c : Bool) → is_saved_page past a e g ≡ c → c ≡ false
    by false is = refl
    by true is =
        let first = and_parts (is_in_its_block a e g) (not (a.modify e.frame) && is_still past e.frame) is in
        let second = and_parts (not (a.modify e.frame)) (is_still past e.frame) first.1 in
        absurd (false≢true (ap not (sym (lt-ltb 0 (reads_on e.frame (open_flights past) + writes_on e.frame (open_flights past)) (omega (arith, some)))) ∙ second.1))

-- ---- a frame that is written has one write and no read
one_write_only : (s : FrameState) (reads writes : ℕ) → HasWrites s writes → reads ≡ one_if (is state.Reading s) → 0 < writes → (writes ≤ 1) × (reads ≡ 0)
one_write_only state.Active reads writes has is some = (has, is)
one_write_only state.Writing reads writes has is some = (omega (arith, has), is)
one_write_only state.ReleasePending reads writes has is some = (omega (arith, has), is)
one_write_only state.Free reads writes has is some = absurd (omega (arith, has, some))
one_write_only state.Modified reads writes has is some = absurd (omega (arith, has, some))
one_write_only state.Bad reads writes has is some = absurd (omega (arith, has, some))
one_write_only state.ReadError reads writes has is some = absurd (omega (arith, has, some))
one_write_only state.Reading reads writes has is some = absurd (omega (arith, has, some))

no_swap : (p : ℕ) (b : BlockId) → is_swap_block b ≡ false → lies_in_swap p (Some b) ≡ false
no_swap p (block.Swap q n) is = absurd (true≢false is)
no_swap p (block.PageFile n) is = refl
no_swap p (block.Section s i) is = refl

pushed_length : (b : Bool) (xs : List ℕ) (f : ℕ) → length (pushed_if b xs f) ≤ length xs + 1
pushed_length true xs f = let longer = length-append xs (f ∷ []) in omega (arith, longer)
pushed_length false xs f = omega arith

pub count_most : {X : Type 0} (t : X → Bool) (xs : List X) → count_by t xs ≤ length xs
count_most t [] = omega arith
count_most {X} t (x ∷ xs) = by (t x) (count_most t xs) (count_cons t x xs)
  where
    by : (b : Bool) → count_by t xs ≤ length xs → count_by t (x ∷ xs) ≡ cond b 1 0 + count_by t xs → count_by t (x ∷ xs) ≤ length (x ∷ xs)
    by true rest is = omega (arith, rest, is)
    by false rest is = omega (arith, rest, is)

-- of a private page: its process and number
abbrev process_in : Page → ℕ
process_in (Private p v) = p.0
process_in (Shared s i) = 0

abbrev number_in : Page → ℕ
number_in (Private p v) = v
number_in (Shared s i) = 0

-- ---- a write lands
module _ (config : Config) (past : List Entry) (a : Pager) (k f : ℕ) (kept : IsKept config (past_view past) a) (clear : AreClear past a) (x : Flight)
    (found : find (starts k) (open_flights past) ≡ Some x) (frame : x.frame ≡ f) where
  abbrev flights : List Flight
  flights = open_flights past

  abbrev rest : List Flight
  rest = without_flight k flights

  is_clear : IsClear a x
  is_clear = all_found (IsClear a) (starts k) flights x clear found

  mark : a.modify f ≡ false
  mark = ap a.modify (sym frame) ∙ is_clear.1

  abbrev once : count_by (starts k) flights ≤ 1
  once = starts_once past k

  one_write : writes_on f flights ≡ 1 + writes_on f rest
  one_write = count_removed_yes (is_write_on f) (starts k) flights x found once (and_from _ _ (eq-eqb x.frame f frame) (ap (λ (d : Direction). not (is_reading d)) is_clear.0))

  only_write : (writes_on f flights ≤ 1) × (reads_on f flights ≡ 0)
  only_write = one_write_only (a.state f) (reads_on f flights) (writes_on f flights) (kept.frames f).writes (kept.frames f).reads (omega (arith, one_write))

  none_left : reads_on f rest + writes_on f rest ≡ 0
  none_left = let most = only_write.0 in let no_read = only_write.1 in omega (arith, one_write, most, no_read, count_filter_le (is_read_on f) (λ (y : Flight). not (starts k y)) flights)

  fit : FitsFlight (views config a) x
  fit = all_found (FitsFlight (views config a)) (starts k) flights x kept.transfers found

  abbrev g : Page
  g = fit.page

  holds : a.page f ≡ Some g
  holds = ap a.page (sym frame) ∙ fit.held

  fits : FitsWrite x g (page_view config a g) (process_view config a)
  fits = subst (FitsDirection x g (page_view config a g) (process_view config a) (entry_view config a)) is_clear.0 fit.fits

  -- to a page file or section block, or to the swap block of a leaving process's slot
  kind : (is_swap_block x.block ≡ false) ⊎ IsSwapWrite x g (process_view config a)
  kind = by fits
    where
      filed_in : (h : Page) → is_paged config h ≡ false → a.lies h ≡ Some x.block → is_swap_block x.block ≡ false
      filed_in (Private q w) file lies = absurd (true≢false file)
      filed_in (Shared s i) file lies = ap is_swap_block (same_Some x.block (block.Section s i) (sym lies ∙ (kept.pages (Shared s i)).shared s i refl file))

      by : FitsWrite x g (page_view config a g) (process_view config a) → (is_swap_block x.block ≡ false) ⊎ IsSwapWrite x g (process_view config a)
      by (inl section) = inl (filed_in g section.0 section.1)
      by (inr (inl file)) = inl (ap is_swap_block file.2)
      by (inr (inr swap)) = inr swap

  not_coming : (p : ℕ) → a.status p ≡ status.Coming → lies_in_swap p (Some x.block) ≡ false
  not_coming p coming = by kind
    where
      by : (is_swap_block x.block ≡ false) ⊎ IsSwapWrite x g (process_view config a) → lies_in_swap p (Some x.block) ≡ false
      by (inl other) = no_swap p x.block other
      by (inr swap) =
          ap (λ (c : BlockId). lies_in_swap p (Some c)) swap.block ∙ ne_eqb swap.p p (λ same. let both : status.Leaving ≡ status.Coming = sym swap.leaving ∙ (ap a.status same ∙ coming) in absurd (cc))

  -- the entry whose page is written to its swap block
  record IsWrittenEntry (p n : ℕ) : Type 0 where
    entry : Valid
    vpn : ℕ
    valid : find (is_entry p vpn) a.valid ≡ Some entry
    of : entry.proc ≡ p
    at : entry.frame ≡ f
    slot : slot_with (a.ring entry.proc) entry.vpn ≡ n
    private : is_private g ≡ true
    shared : 0 < shares a.valid f

  written_entry : (swap : IsSwapWrite x g (process_view config a)) → IsWrittenEntry swap.p swap.n
  written_entry swap = record {
    entry = entry.0;
    vpn = v;
    valid = entry.1;
    of = known.proc;
    at = same_frame;
    slot = ap₂ (λ (q w : ℕ). slot_with (a.ring q) w) known.proc known.vpn ∙ only_place (has_vpn v) (a.ring p).slots swap.n (Some swap.held) swap.slot (nat_eq_refl v) (omega (arith, (kept.entries p v).slots, (kept.entries p v).once));
    private = private;
    shared = subst (λ (h : ℕ). 0 < shares a.valid h) same_frame known.shared;
  }
    where
      p : ℕ
      p = swap.p

      v : ℕ
      v = swap.held.vpn

      private : is_private g ≡ true
      private = is_of_private swap.p g swap.own

      is_page : (h : Page) → FitsSlot swap.p (Some swap.held) h → h ≡ Private (proc swap.p) swap.held.vpn
      is_page (Private q w) fits = λ i. Private (record { 0 = fits.0 i }) (sym fits.1 i)
      is_page (Shared s i) fits = absurd fits

      mapped : page_by config a.map swap.p swap.held.vpn ≡ Some g
      mapped = by g (is_page g swap.fits) ((kept.pages g).mapped (kept.held_charged f g (private_is_paged config g private) holds) private)
        where
          by : (h : Page) → h ≡ Private (proc swap.p) swap.held.vpn → own_page config a.map h ≡ Some h → page_by config a.map swap.p swap.held.vpn ≡ Some h
          by h is own = subst (λ (y : Page). own_page config a.map y ≡ Some h) is own

      entry : (e : Valid) × (find (is_entry swap.p swap.held.vpn) a.valid ≡ Some e)
      entry = found_one (is_entry swap.p swap.held.vpn) a.valid
          (let some = slot_counts (has_vpn swap.held.vpn) (a.ring swap.p).slots swap.n (Some swap.held) swap.slot (nat_eq_refl swap.held.vpn) in
          let slots = (kept.entries swap.p swap.held.vpn).slots in omega (arith, some, slots))

      known : IsValidAt config a swap.p swap.held.vpn entry.0
      known = valid_at_page config past a swap.p swap.held.vpn entry.0 kept entry.1

      same_frame : entry.0.frame ≡ f
      same_frame = kept.held_once entry.0.frame f g (known.holds ∙ (sym known.mapped ∙ mapped)) holds

  -- the reads and writes that are left on another frame
  fewer_flights : (h : ℕ) → reads_on h rest + writes_on h rest ≤ reads_on h flights + writes_on h flights
  fewer_flights h = omega (arith, count_filter_le (is_read_on h) (λ (y : Flight). not (starts k y)) flights, count_filter_le (is_write_on h) (λ (y : Flight). not (starts k y)) flights)

  written_not_saved : (e : Valid) (h : Page) → e.frame ≡ f → is_saved_page past a e h ≡ false
  written_not_saved e h same = not_saved past a e h (let here = ap (λ (y : ℕ). writes_on y flights) same in omega (arith, here, one_write))

  list_writes : count_by is_list_write flights ≡ cond (is_list_write x) 1 0 + count_by is_list_write rest
  list_writes = count_removed is_list_write (starts k) flights x found once

  -- ---- well
  module _ (more : List Entry) (left : open_flights more ≡ rest) where
    abbrev now : Pager
    now = after_out_ok a f (Some x)

    lies_now : now.lies ≡ at_page a.lies g (Some x.block)
    lies_now = ap₂ (λ (c : Bool) (o : Option Page). lies_at a.lies c o x.block) mark holds

    well_come : (p : ℕ) → left_to_come now p ≤ left_to_come a p
    well_come p = by (a.status p) refl
      where
        each : a.status p ≡ status.Coming → (h : Page) → lies_in_swap p (at_page a.lies g (Some x.block) h) ≡ true → lies_in_swap p (a.lies h) ≡ true
        each coming h = go (same_page g h)
          where
            go : (c : Bool) → lies_in_swap p (cond c (Some x.block) (a.lies h)) ≡ true → lies_in_swap p (a.lies h) ≡ true
            go true is = absurd (false≢true (sym (not_coming p coming) ∙ is))
            go false is = is

        by : (s : ProcStatus) → a.status p ≡ s
            → cond (is_coming s) (count_by (λ (h : Page). lies_in_swap p (now.lies h)) a.charged) 0 ≤ cond (is_coming s) (count_by (λ (h : Page). lies_in_swap p (a.lies h)) a.charged) 0
        by status.Coming is =
            subst (λ (l : Page → Option BlockId). count_by (λ (h : Page). lies_in_swap p (l h)) a.charged ≤ count_by (λ (h : Page). lies_in_swap p (a.lies h)) a.charged) (sym lies_now)
            (fewer_pass (λ (h : Page). lies_in_swap p (at_page a.lies g (Some x.block) h)) (λ (h : Page). lies_in_swap p (a.lies h)) a.charged (each_is _ (each is) a.charged))
        by status.Resident is = omega arith
        by status.Leaving is = omega arith
        by status.Gone is = omega arith

    fewer_now : (h : ℕ) → reads_on h (open_flights more) + writes_on h (open_flights more) ≤ reads_on h flights + writes_on h flights
    fewer_now h = subst (λ (xs : List Flight). reads_on h xs + writes_on h xs ≤ reads_on h flights + writes_on h flights) (sym left) (fewer_flights h)

    well_saved : AllByRecursion (λ (e : Valid). is_unsaved more now e ≡ true → is_unsaved past a e ≡ true) a.valid
    well_saved = fewer_unsaved config past more a now kept refl refl refl each
      where
        each : (e : Valid) → 0 < shares a.valid e.frame → IsForItsPage config a.map a.page e → (h : Page) → a.page e.frame ≡ Some h → is_private h ≡ true → is_saved_page past a e h ≡ true
            → is_saved_page more now e h ≡ true
        each e some its h held private saved = by (cases_eq e.frame f)
          where
            by : (e.frame ≡ f) ⊎ (e.frame ≡ f → ⊥) → is_saved_page more now e h ≡ true
            by (inl same) = absurd (false≢true (sym (written_not_saved e h same) ∙ saved))
            by (inr apart) =
                saved_with past more a now e h
                (λ lies. ap (λ (l : Page → Option BlockId). lies_in (l h) (block.Swap (proc e.proc) (slot_with (a.ring e.proc) e.vpn))) lies_now ∙ other (same_page g h) refl lies) refl
                (fewer_now e.frame) saved
              where
                other : (c : Bool) → same_page g h ≡ c → is_in_its_block a e h ≡ true → lies_in (cond c (Some x.block) (a.lies h)) (block.Swap (proc e.proc) (slot_with (a.ring e.proc) e.vpn)) ≡ true
                other false is lies = lies
                other true is lies = absurd (apart (kept.held_once e.frame f g (held ∙ ap Some (sym (pages_equal g h is))) holds))

    well_modified : now.modified ≡ a.modified
    well_modified = ap (λ (c : Bool). pushed_if c a.modified f) (ap (λ (c : Bool). nat_eq (shares a.valid f) 0 && c) mark ∙ and_none (nat_eq (shares a.valid f) 0))

    well_listed : listed more now + cond (is_list_write x) 1 0 ≡ listed past a
    well_listed = let same = ap length well_modified in let open_now = ap (count_by is_list_write) left in omega (arith, same, open_now, list_writes)

    pub well_no_higher : IsNoHigher past more a now
    well_no_higher = record {
      status = refl;
      ring = refl;
      references = refl;
      come = well_come;
      unsaved = count_unsaved past more a now refl well_saved;
      listed = omega (arith, well_listed);
      clear = subst (AllByRecursion (IsClear now)) (sym left) (all_filter (IsClear a) (λ (y : Flight). not (starts k y)) flights clear);
    }

    -- either number is lower
    pub well_lower : (unsaved more now < unsaved past a) ⊎ (listed more now < listed past a)
    well_lower = by kind
      where
        by : (is_swap_block x.block ≡ false) ⊎ IsSwapWrite x g (process_view config a) → (unsaved more now < unsaved past a) ⊎ (listed more now < listed past a)
        by (inl other) = inr (let one = ap (λ (c : Bool). cond {A = ℕ} (not c) 1 0) other in omega (arith, well_listed, one))
        by (inr swap) = inl (less_pass (is_unsaved more now) (is_unsaved past a) a.valid well_saved (is_entry swap.p w.vpn) e w.valid saved_now unsaved_before)
          where
            w : IsWrittenEntry swap.p swap.n
            w = written_entry swap

            e : Valid
            e = (written_entry swap).entry

            page_here : a.page (written_entry swap).entry.frame ≡ Some g
            page_here = ap a.page (written_entry swap).at ∙ holds

            leaving : is_leaving (a.status (written_entry swap).entry.proc) ≡ true
            leaving = ap (λ (q : ℕ). is_leaving (a.status q)) (written_entry swap).of ∙ ap is_leaving swap.leaving

            unsaved_before : is_unsaved past a (written_entry swap).entry ≡ true
            unsaved_before =
                and_from _ _ leaving
                (ap (is_unsaved_page past a (written_entry swap).entry) page_here ∙ and_from _ _ (written_entry swap).private (ap not (written_not_saved (written_entry swap).entry g (written_entry swap).at)))

            in_block : is_in_its_block now (written_entry swap).entry g ≡ true
            in_block =
                ap
                (λ (l : Page → Option BlockId). lies_in (l g) (block.Swap (proc (written_entry swap).entry.proc) (slot_with (a.ring (written_entry swap).entry.proc) (written_entry swap).entry.vpn))) lies_now
                ∙
                (ap (λ (c : Bool). lies_in (cond c (Some x.block) (a.lies g)) (block.Swap (proc (written_entry swap).entry.proc) (slot_with (a.ring (written_entry swap).entry.proc) (written_entry swap).entry.vpn))) (same_page_refl g)
                ∙ (ap (λ (d : BlockId). same_block (block.Swap (proc (written_entry swap).entry.proc) (slot_with (a.ring (written_entry swap).entry.proc) (written_entry swap).entry.vpn)) d) swap.block
                ∙ and_from _ _ (eq-eqb (written_entry swap).entry.proc swap.p (written_entry swap).of) (eq-eqb _ swap.n (written_entry swap).slot)))

            still_now : is_still more (written_entry swap).entry.frame ≡ true
            still_now =
                ap (is_still more) (written_entry swap).at
                ∙ (ap (λ (xs : List Flight). not (is_in_flight f xs)) left ∙ ap (λ (n : ℕ). not (nat_lt 0 n)) none_left)

            saved_now : is_unsaved more now (written_entry swap).entry ≡ false
            saved_now =
                ap₂ (λ (c : Bool) (o : Option Page). c && is_unsaved_page more now (written_entry swap).entry o) leaving page_here
                ∙ (ap (λ (c : Bool). is_private g && not c) (and_from _ _ in_block (and_from _ _ (ap not (ap a.modify (written_entry swap).at ∙ mark)) still_now)) ∙ and_none (is_private g))

    -- ---- badly
    abbrev failed : Pager
    failed = after_out_ok (marked a f) f (Some x)

    marked_now : at_number a.modify f true f ≡ true
    marked_now = at_number_same a.modify f true

    lies_failed : failed.lies ≡ a.lies
    lies_failed = ap₂ (λ (c : Bool) (o : Option Page). lies_at a.lies c o x.block) marked_now holds

    failed_saved : AllByRecursion (λ (e : Valid). is_unsaved more failed e ≡ true → is_unsaved past a e ≡ true) a.valid
    failed_saved = fewer_unsaved config past more a failed kept refl refl refl each
      where
        each : (e : Valid) → 0 < shares a.valid e.frame → IsForItsPage config a.map a.page e → (h : Page) → a.page e.frame ≡ Some h → is_private h ≡ true → is_saved_page past a e h ≡ true
            → is_saved_page more failed e h ≡ true
        each e some its h held private saved = by (cases_eq e.frame f)
          where
            by : (e.frame ≡ f) ⊎ (e.frame ≡ f → ⊥) → is_saved_page more failed e h ≡ true
            by (inl same) = absurd (false≢true (sym (written_not_saved e h same) ∙ saved))
            by (inr apart) =
                saved_with past more a failed e h (λ lies. ap (λ (l : Page → Option BlockId). lies_in (l h) (block.Swap (proc e.proc) (slot_with (a.ring e.proc) e.vpn))) lies_failed ∙ lies)
                (at_number_other a.modify f true e.frame (λ same. apart (sym same))) (fewer_now e.frame) saved

    failed_come : (p : ℕ) → left_to_come failed p ≤ left_to_come a p
    failed_come p = let same = ap (λ (l : Page → Option BlockId). cond (is_coming (a.status p)) (count_by (λ (h : Page). lies_in_swap p (l h)) a.charged) 0) lies_failed in omega (arith, same)

    failed_listed : listed more failed ≤ listed past a
    failed_listed = by kind
      where
        by : (is_swap_block x.block ≡ false) ⊎ IsSwapWrite x g (process_view config a) → listed more failed ≤ listed past a
        by (inl other) = let one = ap (λ (c : Bool). cond {A = ℕ} (not c) 1 0) other in let open_now = ap (count_by is_list_write) left in
            omega (arith, one, open_now, list_writes, pushed_length (nat_eq (shares a.valid f) 0 && at_number a.modify f true f) a.modified f)
        by (inr swap) =
            let some = (written_entry swap).shared in
            let shared : nat_eq (shares a.valid f) 0 ≡ false = ne_eqb (shares a.valid f) 0 (λ none. omega (arith, none, some)) in
            let same = ap (λ (c : Bool). length (pushed_if (c && at_number a.modify f true f) a.modified f)) shared in
            let open_now = ap (count_by is_list_write) left in
            let none = ap (λ (d : BlockId). cond {A = ℕ} (not (is_swap_block d)) 1 0) swap.block in
            omega (arith, same, open_now, none, list_writes)

    failed_clear : AllByRecursion (IsClear failed) rest
    failed_clear = all_step (IsClear a) (IsClear failed) rest each (all_filter (IsClear a) (λ (y : Flight). not (starts k y)) flights clear)
      where
        each : (y : Flight) → ((t : Flight → Bool) → t y ≡ true → 0 < count_by t rest) → IsClear a y → IsClear failed y
        each y some is = (is.0, at_number_other a.modify f true y.frame apart ∙ is.1)
          where
            apart : f ≡ y.frame → ⊥
            apart same = let one = some (is_write_on f) (and_from _ _ (eq-eqb y.frame f (sym same)) (ap (λ (d : Direction). not (is_reading d)) is.0)) in omega (arith, one, none_left)

    pub failed_no_higher : IsNoHigher past more a failed
    failed_no_higher = record {
      status = refl;
      ring = refl;
      references = refl;
      come = failed_come;
      unsaved = count_unsaved past more a failed refl failed_saved;
      listed = failed_listed;
      clear = subst (AllByRecursion (IsClear failed)) (sym left) failed_clear;
    }

-- ---- a write begins
module _ (config : Config) (past : List Entry) (a : Pager) (seat f : ℕ) (b : BlockId) (kept : IsKept config (past_view past) a) (clear : AreClear past a) where
  abbrev begun : Flight
  begun = record { start = length past + 1; seat = seat; frame = f; block = b; direction = writing }

  same_flights : (h : ℕ) → (h ≡ f → ⊥) → reads_on h (begun ∷ open_flights past) + writes_on h (begun ∷ open_flights past) ≤ reads_on h (open_flights past) + writes_on h (open_flights past)
  same_flights h apart =
      let other = ne_eqb f h (λ same. apart (sym same)) in
      omega (arith, count_cons_no (is_read_on h) begun (open_flights past) (and_left _ _ other), count_cons_no (is_write_on h) begun (open_flights past) (and_left _ _ other))

  each_clear : (now : Pager) → now.modify ≡ at_number a.modify f false → AllByRecursion (IsClear now) (begun ∷ open_flights past)
  each_clear now is =
      ((refl, ap (λ (m : ℕ → Bool). m f) is ∙ at_number_same a.modify f false), each_weaker (IsClear a) (IsClear now) (λ y old. (old.0, ap (λ (m : ℕ → Bool). m y.frame) is ∙ by y (cases_eq f y.frame) old.1)) (open_flights past) clear)
    where
      by : (y : Flight) → (f ≡ y.frame) ⊎ (f ≡ y.frame → ⊥) → a.modify y.frame ≡ false → at_number a.modify f false y.frame ≡ false
      by y (inl same) old = subst (λ (h : ℕ). at_number a.modify f false h ≡ false) same (at_number_same a.modify f false)
      by y (inr apart) old = at_number_other a.modify f false y.frame apart ∙ old

  -- to a swap block, of a page that isn't saved
  module _ (more : List Entry) (opened : open_flights more ≡ begun ∷ open_flights past) where
    abbrev swapped : Pager
    swapped = record a { modify = at_number a.modify f false }

    swap_saved : IsOutSwap config past a f b → AllByRecursion (λ (e : Valid). is_unsaved more swapped e ≡ true → is_unsaved past a e ≡ true) a.valid
    swap_saved legal = fewer_unsaved config past more a swapped kept refl refl refl each
      where
        each : (e : Valid) → 0 < shares a.valid e.frame → IsForItsPage config a.map a.page e → (h : Page) → a.page e.frame ≡ Some h → is_private h ≡ true → is_saved_page past a e h ≡ true
            → is_saved_page more swapped e h ≡ true
        each e some its h held private saved = by (cases_eq e.frame f)
          where
            not_both : e.frame ≡ f → ⊥
            not_both same = legal.changed (lies_there (a.lies legal.page) b at_block) clean
              where
                page_same : h ≡ legal.page
                page_same = same_Some h legal.page (sym held ∙ (ap a.page same ∙ legal.holds))

                first : (is_in_its_block a e h ≡ true) × ((not (a.modify e.frame) && is_still past e.frame) ≡ true)
                first = and_parts (is_in_its_block a e h) (not (a.modify e.frame) && is_still past e.frame) saved

                clean : a.modify f ≡ false
                clean = not_false (a.modify f) (ap (λ (n : ℕ). not (a.modify n)) (sym same) ∙ (and_parts (not (a.modify e.frame)) (is_still past e.frame) first.1).0)

                known : IsValidAt config a legal.p legal.v legal.entry
                known = valid_at_page config past a legal.p legal.v legal.entry kept legal.valid

                own_here : h ≡ Private (proc e.proc) e.vpn
                own_here = own_is config a.map e.proc e.vpn h (its.1 ∙ ap Some (same_Some its.0 h (sym its.2 ∙ held))) private

                own_there : h ≡ Private (proc legal.p) legal.v
                own_there = own_is config a.map legal.p legal.v h (known.mapped ∙ ap Some (same_Some known.page h (sym known.holds ∙ (ap a.page (legal.frame ∙ sym same) ∙ held)))) private

                same_slot : slot_with (a.ring e.proc) e.vpn ≡ legal.slot
                same_slot =
                    ap (λ (g : Page). slot_with (a.ring (process_in g)) (number_in g)) (sym own_here ∙ own_there)
                    ∙ only_place (has_vpn legal.v) (a.ring legal.p).slots legal.slot (Some legal.held) legal.filled (eq-eqb legal.held.vpn legal.v legal.same)
                    (omega (arith, (kept.entries legal.p legal.v).slots, (kept.entries legal.p legal.v).once))

                same_process : e.proc ≡ legal.p
                same_process = ap process_in (sym own_here ∙ own_there)

                at_block : lies_in (a.lies legal.page) b ≡ true
                at_block =
                    ap (lies_in (a.lies legal.page)) (legal.block ∙ ap₂ (λ (q n : ℕ). block.Swap (proc q) n) (sym same_process) (sym same_slot))
                    ∙ (ap (λ (g : Page). lies_in (a.lies g) (block.Swap (proc e.proc) (slot_with (a.ring e.proc) e.vpn))) (sym page_same) ∙ first.0)

            by : (e.frame ≡ f) ⊎ (e.frame ≡ f → ⊥) → is_saved_page more swapped e h ≡ true
            by (inl same) = absurd (not_both same)
            by (inr apart) = saved_with past more a swapped e h (λ lies. lies) (at_number_other a.modify f false e.frame (λ same. apart (sym same)))
                (subst (λ (xs : List Flight). reads_on e.frame xs + writes_on e.frame xs ≤ reads_on e.frame (open_flights past) + writes_on e.frame (open_flights past)) (sym opened) (same_flights e.frame apart)) saved

    swap_begins : is_swap_block b ≡ true → IsOutSwap config past a f b → IsNoHigher past more a swapped
    swap_begins is legal = record {
      status = refl;
      ring = refl;
      references = refl;
      come = λ p. omega arith;
      unsaved = count_unsaved past more a swapped refl (swap_saved legal);
      listed = (let open_now = ap (count_by is_list_write) opened in let none = count_cons_no is_list_write begun (open_flights past) (ap not is) in omega (arith, open_now, none));
      clear = subst (AllByRecursion (IsClear swapped)) (sym opened) (each_clear swapped refl);
    }

    -- from the modified list
    abbrev taken : Pager
    taken = after_out a f b

    unshared : IsOut config past a f b → shares a.valid f ≡ 0
    unshared legal =
        (at_state (frame_view config (past_view past) a f) state.Modified
        (modified_frame (frame_view config (past_view past) a f) (kept.frames f) (let heads = ap (λ (xs : List ℕ). count_of xs f) legal.head.heads in
        let one = count_cons_yes (λ (y : ℕ). nat_eq y f) f legal.head.rest (nat_eq_refl f) in omega (arith, heads, one)))
        (kept.frames f)).shares

    list_saved : IsOut config past a f b → AllByRecursion (λ (e : Valid). is_unsaved more taken e ≡ true → is_unsaved past a e ≡ true) a.valid
    list_saved legal = fewer_unsaved config past more a taken kept refl refl refl each
      where
        each : (e : Valid) → 0 < shares a.valid e.frame → IsForItsPage config a.map a.page e → (h : Page) → a.page e.frame ≡ Some h → is_private h ≡ true → is_saved_page past a e h ≡ true
            → is_saved_page more taken e h ≡ true
        each e some its h held private saved =
            saved_with past more a taken e h (λ lies. lies) (at_number_other a.modify f false e.frame (λ same. apart (sym same)))
            (subst (λ (xs : List Flight). reads_on e.frame xs + writes_on e.frame xs ≤ reads_on e.frame (open_flights past) + writes_on e.frame (open_flights past)) (sym opened) (same_flights e.frame apart)) saved
          where
            apart : e.frame ≡ f → ⊥
            apart same = let none = unshared legal in let here = ap (shares a.valid) same in omega (arith, none, here, some)

    list_begins : IsOut config past a f b → IsNoHigher past more a taken
    list_begins legal = record {
      status = refl;
      ring = refl;
      references = refl;
      come = λ p. omega arith;
      unsaved = count_unsaved past more a taken refl (list_saved legal);
      listed = (let open_now = ap (count_by is_list_write) opened in let one = at_most_one (is_list_write begun) in let more_writes = count_cons is_list_write begun (open_flights past) in
          let shorter = fewer_listed in omega (arith, open_now, one, more_writes, shorter));
      clear = subst (AllByRecursion (IsClear taken)) (sym opened) (each_clear taken refl);
    }
      where
        at_most_one : (c : Bool) → cond {A = ℕ} c 1 0 ≤ 1
        at_most_one true = omega arith
        at_most_one false = omega arith

        fewer_listed : length (without a.modified f) + 1 ≤ length a.modified
        fewer_listed =
            let heads = ap length legal.head.heads in
            let left = ap (λ (xs : List ℕ). length (without xs f)) legal.head.heads in
            let counted = length-filter (λ (y : ℕ). not (nat_eq y f)) (f ∷ legal.head.rest) in
            let gone = count_cons_no (λ (y : ℕ). not (nat_eq y f)) f legal.head.rest (ap not (nat_eq_refl f)) in
            let most = count_most (λ (y : ℕ). not (nat_eq y f)) legal.head.rest in
            omega (arith, heads, left, counted, gone, most)

-- by the block
pub out_no_higher : (config : Config) (past : List Entry) (a : Pager) (seat f : ℕ) (b : BlockId) → IsKept config (past_view past) a → AreClear past a → (more : List Entry)
    → open_flights more ≡ (record { start = length past + 1; seat = seat; frame = f; block = b; direction = writing } ∷ open_flights past) → IsAnyOut config past a f b
    → IsNoHigher past more a (after_any_out a f b)
out_no_higher config past a seat f (block.Swap q n) kept clear more opened (inr legal) = swap_begins config past a seat f (block.Swap q n) kept clear more opened refl legal
out_no_higher config past a seat f (block.Swap q n) kept clear more opened (inl legal) = absurd (by legal.block)
  where
    by : IsOutBlock config a (block.Swap q n) legal.page → ⊥
    by (inl shared) = let own = (kept.swapped legal.page q.0 n shared.1).own in true≢false (sym (private_is_paged config legal.page (is_of_private q.0 legal.page own)) ∙ shared.0)
    by (inr (inl (m, private, assigned, is))) = false≢true (ap is_swap_block (sym is))
    by (inr (inr (m, private, assigned, is, below, free))) = false≢true (ap is_swap_block (sym is))
out_no_higher config past a seat f (block.PageFile n) kept clear more opened (inl legal) = list_begins config past a seat f (block.PageFile n) kept clear more opened legal
out_no_higher config past a seat f (block.PageFile n) kept clear more opened (inr legal) = absurd (false≢true (ap is_swap_block legal.block))
out_no_higher config past a seat f (block.Section s i) kept clear more opened (inl legal) = list_begins config past a seat f (block.Section s i) kept clear more opened legal
out_no_higher config past a seat f (block.Section s i) kept clear more opened (inr legal) = absurd (false≢true (ap is_swap_block legal.block))
