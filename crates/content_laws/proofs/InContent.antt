-- Content along IN: the frame's buffer and the block go away; and the lift that then begins fits.
use Rattle.std.proofs.Common.{◌≡◌, ◌⊎◌, ℕ, ◌+◌, ◌<◌, Bool, true, false, cond, not, List, ◌∷◌, Option, Some, None, length, nat_eq, count_by, refl, sym, ap, ◌∙◌, subst, inl, inr, arith}
use Rattle.std.proofs.lemmas.Bool.{false_from_ne_true, false≢true, true≢false}
use Rattle.std.proofs.lemmas.Option.{none-some, same_Some}
use Rattle.vm_types.specs.BlockView.{BlockView}
use Rattle.vm_types.specs.declared.names.Page.{Page}
use Rattle.vm_types.specs.declared.names.Page.TheVariants.{Private}
use Rattle.vm_types.specs.declared.names.Pfn.{Pfn}
use Rattle.vm_types.specs.declared.names.BlockId.{BlockId}
use Rattle.vm_types.specs.declared.names.BlockId.TheVariants as block
use Rattle.vm_types.specs.declared.names.Seat.{Seat}
use Rattle.vm_types.specs.declared.names.FrameState.{FrameState}
use Rattle.vm_types.specs.declared.names.FrameState.TheVariants as state
use Rattle.vm_types.specs.declared.config.Config.{Config}
use Rattle.vm_journal.specs.declared.entry.Entry.{Entry}
use Rattle.vm_journal.specs.declared.entry.Role.{Role}
use Rattle.vm_journal.specs.declared.entry.Role.TheVariants as role
use Rattle.vm_journal.specs.declared.entry.What.TheVariants as what
use Rattle.content_laws.proofs.BlockMoved.{at_home, blocks_apart, copied_put, counted_put, homes_begun}
use Rattle.content_laws.proofs.FrameChanged.{buffers_put, held_move, settled_move, written_move}
use Rattle.content_laws.proofs.SectionBehind.{first_behind, unshared_behind}
use Rattle.content_laws.specs.Begun.{read_lift}
use Rattle.content_laws.specs.Put.{PutsBlock, PutsBuffer}
use Rattle.pager_laws.proofs.KeptIsSound.{count_from_has, same_block_refl}
use Rattle.pager_model.specs.Around.{frame_view, quiet}
use Rattle.pager_model.specs.Bytes.{is_real, now}
use Rattle.pager_model.specs.Changes.{is_section_block}
use Rattle.pager_model.specs.Content.{ContentFits, has_bytes}
use Rattle.pager_model.specs.Counted.{Counts, last_count, reads_of, writes_of}
use Rattle.pager_model.specs.Fits.{FitsLift}
use Rattle.pager_model.specs.Flights.{Flight, open_flights, reading}
use Rattle.pager_model.specs.In.{IsFirstIn, IsIn, after_in}
use Rattle.pager_model.specs.Lookups.{is, page_by, section_at}
use Rattle.pager_model.specs.Maps.{Map, page_number, proc}
use Rattle.pager_model.specs.Own.{IsEmptyHead}
use Rattle.pager_model.specs.Pager.{Pager}
use Rattle.pager_model.specs.Sets.{at_number, has_page}
use Rattle.pager_model.specs.Spoken.{flat_after}
use Rattle.pager_model.specs.CountedBlock.{HasCounts, IsCountedBlock}
use Rattle.pager_model.specs.Transfers.{IsHome, is_write_on, starts}
use Rattle.pager_rules.proofs.Basics.{at_number_other, at_number_same, count_cons_no, find_cons_yes, nat_eq_refl}
use Rattle.pager_rules.proofs.Pages.{behind_section}
use Rattle.pager_rules.proofs.Put.{and_false, free_row, head_counts}
use Rattle.pager_rules.proofs.Transfers.{on_frame}
use Rattle.pager_rules.specs.Kept.{FitsFrame, IsKept}

module _ (tells tells_plan : Bool) (config : Config) (past : List Entry) (a : Pager) (buffer : ℕ → Option (List ℕ)) (home : BlockId → Option BlockView) (fits : ContentFits tells tells_plan config past a buffer home)
    (kept : IsKept config (quiet (open_flights past)) a) (seat : Seat) (f : Pfn) (d : BlockId) (r : Role) where
  abbrev flights : List Flight
  flights = open_flights past

  abbrev n : ℕ
  n = f.0

  abbrev e : Entry
  e = record { seat = seat; what = what.In f d r }

  abbrev begun : Flight
  begun = record { start = length past + 1; seat = seat.0; frame = n; block = d; direction = reading r }

  -- the state after, for whatever becomes of what content doesn't name
  abbrev b : Option Page → List ℕ → (ℕ → ℕ) → List Page → Pager
  b o free faults charged = record a { state = at_number a.state n state.Reading; page = at_number a.page n o; free = free; faults = faults; charged = charged }

  abbrev counts_with : BlockId → Bool → Counts
  counts_with c same = record { reads = cond same (reads_of c past + 1) (reads_of c past); writes = writes_of c past; faults = last_count c past }

  begins : (o : Option Page) (free : List ℕ) (faults : ℕ → ℕ) (charged : List Page) → IsHome config d flights → IsEmptyHead a n → (buffer' : ℕ → Option (List ℕ)) (home' : BlockId → Option BlockView) → PutsBuffer n None buffer buffer'
      → PutsBlock d None home home' → ContentFits tells tells_plan config (e ∷ past) (b o free faults charged) buffer' home'
  begins o free faults charged is_home frame buffer' home' put away = record {
    buffers = buffers_put config a.state state_of buffer buffer' n None put (λ ys is. absurd (none-some ys is)) (sym (ap (λ (s : FrameState). not (is state.Reading s)) (at_number_same a.state n state.Reading)))
        (λ h apart. at_number_other a.state n state.Reading h apart) fits.buffers;
    homes = homes_begun config home home' begun flights away fits.homes;
    held = λ told. held_move (now config past) (now config past) a.page page_of a.state state_of buffer buffer' n
        (λ h apart. (at_number_other a.page n o h apart, at_number_other a.state n state.Reading h apart, put.others h apart, λ g holds. refl))
        (λ g holds filled. absurd (false≢true (sym (ap has_bytes (at_number_same a.state n state.Reading)) ∙ filled))) (fits.held told);
    lying = λ told c y g real at lies settled. fits.lying told c y g real (still c y at) lies
        (settled_move a.page page_of a.modify a.modify flights (begun ∷ flights) n g
        (λ h apart. (at_number_other a.page n o h apart, refl, count_cons_no (is_write_on h) begun flights (and_false (nat_eq n h))))
        (λ holds. absurd (none-some g (sym frame.empty ∙ holds))) settled);
    written = λ told. (
      λ writes. absurd (true≢false writes),
      written_move config past e a.page page_of a.modify a.modify (λ y some writes clear g holds. (clear, sym (at_number_other a.page n o y.frame (elsewhere y some)) ∙ holds, refl)) (fits.written told),
    );
    copied = λ told. copied_put config home home' d None away (λ s i y is none unshared. absurd (none-some y none)) (fits.copied told);
    counted = counted_put config home home' d None away tells_plan past (e ∷ past) (λ c apart. ap (counts_with c) (blocks_apart d c apart)) (λ y none. absurd (none-some y none)) fits.counted;
  }
    where
      state_of : ℕ → FrameState
      state_of = at_number a.state n state.Reading

      page_of : ℕ → Option Page
      page_of = at_number a.page n o

      row : FitsFrame (record (frame_view config (quiet flights) a n) { state = state.Free })
      row = free_row (frame_view config (quiet flights) a n) (kept.frames n) (head_counts a.free n frame.head)

      elsewhere : (y : Flight) → ((t : Flight → Bool) → t y ≡ true → 0 < count_by t flights) → n ≡ y.frame → ⊥
      elsewhere y some same = omega (arith, row.reads, row.writes, on_frame y flights some n (sym same))

      still : (c : BlockId) (y : BlockView) → home' c ≡ Some y → home c ≡ Some y
      still c y at = go (at_home config home home' d None away c y at)
        where
          go : ((d ≡ c) × (None ≡ Some y)) ⊎ ((d ≡ c → ⊥) × (home c ≡ Some y)) → home c ≡ Some y
          go (inl mine) = absurd (none-some y mine.1)
          go (inr theirs) = theirs.1

  -- the lift: its block has the page's bytes, and its read is still to come
  lift_begins : (o : Option Page) (page : Page) (y : BlockView) (bytes : List ℕ) → o ≡ Some page → home d ≡ Some y → (tells ≡ true → y.content ≡ Some (now config past page))
      → FitsLift tells tells_plan config (e ∷ past) (b o a.free a.faults a.charged) (read_lift past n d page bytes y)
  lift_begins o page y bytes holds at content = (
    begun,
    record {
      flight = record { start = refl; frame = refl; block = refl; direction = refl };
      found_x = find_cons_yes (starts (length past + 1)) begun flights (nat_eq_refl (length past + 1));
      held_page = at_number_same a.page n o ∙ holds;
      content = λ told reads. content told;
      buffer = λ told writes. absurd (true≢false writes);
      plan_is = old.plan;
      result = subst (λ (c : Counts). HasCounts y c 1 0 × (y.faults ≡ c.faults)) (sym (ap (counts_with d) (same_block_refl d)))
          (record { reads = omega (arith, old.counts.reads); writes = old.counts.writes }, old.faults);
    },
  )
    where
      old : IsCountedBlock tells_plan config past d y
      old = fits.counted d y at

-- a block that is to be read has the page's bytes
module _ (tells tells_plan : Bool) (config : Config) (past : List Entry) (a : Pager) (buffer : ℕ → Option (List ℕ)) (home : BlockId → Option BlockView) (fits : ContentFits tells tells_plan config past a buffer home)
    (maps : a.map ≡ (flat_after config past).map) (touches : a.touched ≡ (flat_after config past).touched) (kept : IsKept config (quiet (open_flights past)) a) (told : tells ≡ true) where
  lying_bytes : (d : BlockId) (y : BlockView) (page : Page) → home d ≡ Some y → is_real config page ≡ true → a.lies page ≡ Some d → ((g : ℕ) → a.page g ≡ Some page → ⊥) → y.content ≡ Some (now config past page)
  lying_bytes d y page at real lies out = fits.lying told d y page real at lies (λ h holds. absurd (out h holds))

  first_bytes_of : (p v : ℕ) (d : BlockId) (y : BlockView) (page : Page) → home d ≡ Some y → page_by config a.map p v ≡ Some page → IsFirstIn config a p v d page → y.content ≡ Some (now config past page)
  first_bytes_of p v d y page at mapped first = go d refl
    where
      behind_is : is_section_block d ≡ true
      behind_is = behind_section a.map (Private (proc p) v) d first.behind

      untouched : has_page (flat_after config past).touched page ≡ false
      untouched = subst (λ (ys : List Page). has_page ys page ≡ false) touches (false_from_ne_true (has_page a.touched page) (λ has. omega (arith, count_from_has a.touched page has, (kept.pages page).touched, first.uncharged)))

      go : (c : BlockId) → d ≡ c → y.content ≡ Some (now config past page)
      go (block.Section s i) is =
          fits.copied told s i y (sym (ap home is) ∙ at) (unshared_behind config a.map page p v s i mapped first.private (first.behind ∙ ap Some is))
          ∙ ap Some (sym (first_behind config (flat_after config past) page p v s i (subst (λ (map : Map). page_by config map p v ≡ Some page) maps mapped) first.private
          (subst (λ (map : Map). section_at (map p v) ≡ Some (block.Section s i)) maps (first.behind ∙ ap Some is)) untouched))
      go (block.PageFile m) is = absurd (false≢true (sym (ap is_section_block is) ∙ behind_is))
      go (block.Swap q m) is = absurd (false≢true (sym (ap is_section_block is) ∙ behind_is))

  fault_bytes : (p v : ℕ) (d : BlockId) (y : BlockView) (page : Page) → home d ≡ Some y → is_real config page ≡ true → page_by config a.map p v ≡ Some page → ((g : ℕ) → a.page g ≡ Some page → ⊥) → (a.lies page ≡ Some d) ⊎ IsFirstIn config a p v d page
      → y.content ≡ Some (now config past page)
  fault_bytes p v d y page at real mapped out (inl lies) = lying_bytes d y page at real lies out
  fault_bytes p v d y page at real mapped out (inr first) = first_bytes_of p v d y page at mapped first

-- ---- IN, by its role
module _ (tells tells_plan : Bool) (config : Config) (past : List Entry) (a : Pager) (buffer : ℕ → Option (List ℕ)) (home : BlockId → Option BlockView) (kept : IsKept config (quiet (open_flights past)) a) (seat : Seat) (f : Pfn) (d : BlockId) where
  pub in_content : (r : Role) (buffer' : ℕ → Option (List ℕ)) (home' : BlockId → Option BlockView) → IsIn r config past a seat.0 f.0 d → PutsBuffer f.0 None buffer buffer' → PutsBlock d None home home' → ContentFits tells tells_plan config past a buffer home
      → ContentFits tells tells_plan config (record { seat = seat; what = what.In f d r } ∷ past) (after_in config a f.0 r) buffer' home'
  in_content (role.Fault q address) buffer' home' legal put away fits =
      begins tells tells_plan config past a buffer home fits kept seat f d (role.Fault q address) (page_by config a.map q.0 (page_number address.0)) _ _ _ legal.home legal.frame buffer' home' put away
  in_content (role.Near g) buffer' home' legal put away fits =
      begins tells tells_plan config past a buffer home fits kept seat f d (role.Near g) (Some g) _ a.faults a.charged legal.lying.home legal.lying.frame buffer' home' put away
  in_content (role.Come q address) buffer' home' legal put away fits =
      begins tells tells_plan config past a buffer home fits kept seat f d (role.Come q address) (page_by config a.map q.0 (page_number address.0)) _ a.faults a.charged legal.lying.home legal.lying.frame buffer' home' put away

  pub in_begins : (r : Role) (page : Page) (y : BlockView) (bytes : List ℕ) → a.map ≡ (flat_after config past).map → a.touched ≡ (flat_after config past).touched → IsIn r config past a seat.0 f.0 d → (after_in config a f.0 r).page f.0 ≡ Some page
      → is_real config page ≡ true → home d ≡ Some y → ContentFits tells tells_plan config past a buffer home
      → FitsLift tells tells_plan config (record { seat = seat; what = what.In f d r } ∷ past) (after_in config a f.0 r) (read_lift past f.0 d page bytes y)
  in_begins (role.Fault q address) page y bytes maps touches legal holds real at fits =
      lift_begins tells tells_plan config past a buffer home fits kept seat f d (role.Fault q address) o page y bytes is at
      (λ told. fault_bytes tells tells_plan config past a buffer home fits maps touches kept told seat.0 (page_number address.0) d y page at real (legal.mapped ∙ ap Some same) (λ h there. legal.out h (there ∙ ap Some (sym same))) (subst (λ (g : Page). (a.lies g ≡ Some d) ⊎ IsFirstIn config a seat.0 (page_number address.0) d g) same legal.from))
    where
      o : Option Page
      o = page_by config a.map q.0 (page_number address.0)

      is : o ≡ Some page
      is = sym (at_number_same a.page f.0 o) ∙ holds

      same : legal.page ≡ page
      same = same_Some _ _ (sym legal.mapped ∙ (ap (λ (p : ℕ). page_by config a.map p (page_number address.0)) (sym legal.self) ∙ is))
  in_begins (role.Near g) page y bytes maps touches legal holds real at fits =
      lift_begins tells tells_plan config past a buffer home fits kept seat f d (role.Near g) (Some g) page y bytes is at
      (λ told. lying_bytes tells tells_plan config past a buffer home fits maps touches kept told d y page at real (ap a.lies (sym same) ∙ legal.lying.lies) (λ h there. legal.lying.out h (there ∙ ap Some (sym same))))
    where
      is : Some g ≡ Some page
      is = sym (at_number_same a.page f.0 (Some g)) ∙ holds

      same : g ≡ page
      same = same_Some _ _ is
  in_begins (role.Come q address) page y bytes maps touches legal holds real at fits =
      lift_begins tells tells_plan config past a buffer home fits kept seat f d (role.Come q address) o page y bytes is at
      (λ told. lying_bytes tells tells_plan config past a buffer home fits maps touches kept told d y page at real (ap a.lies (sym same) ∙ legal.lying.lies) (λ h there. legal.lying.out h (there ∙ ap Some (sym same))))
    where
      o : Option Page
      o = page_by config a.map q.0 (page_number address.0)

      is : o ≡ Some page
      is = sym (at_number_same a.page f.0 o) ∙ holds

      same : legal.page ≡ page
      same = same_Some _ _ (sym legal.mapped ∙ is)
