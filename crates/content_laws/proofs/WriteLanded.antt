-- Content along OUTOK and OUTFAIL: the block comes back, after a good write with the page's bytes.
use Rattle.std.proofs.Common.{◌≡◌, ◌⊎◌, ℕ, ◌<◌, ◌&&◌, Bool, true, false, cond, not, List, ◌∷◌, Option, Some, find, nat_eq, slice_get, refl, sym, ap, ◌∙◌, subst, inl, inr, arith}
use Rattle.std.specs.List.{AllByRecursion}
use Rattle.std.proofs.lemmas.Bool.{and_from, cases_eq, ne_eqb, true≢false}
use Rattle.std.proofs.lemmas.Option.{same_Some}
use Rattle.vm_types.specs.BlockView.{BlockView}
use Rattle.vm_types.specs.Configuration.{IsBlock}
use Rattle.vm_types.specs.Same.{same_page}
use Rattle.vm_types.specs.declared.names.Page.{Page}
use Rattle.vm_types.specs.declared.names.Pfn.{Pfn}
use Rattle.vm_types.specs.declared.names.SecId.{SecId}
use Rattle.vm_types.specs.declared.names.BlockId.{BlockId}
use Rattle.vm_types.specs.declared.names.BlockId.TheVariants as block
use Rattle.vm_types.specs.declared.names.Seat.{Seat}
use Rattle.vm_types.specs.declared.names.FrameState.{FrameState}
use Rattle.vm_types.specs.declared.names.FrameState.TheVariants as state
use Rattle.vm_types.specs.declared.config.Config.{Config}
use Rattle.vm_journal.specs.declared.entry.Entry.{Entry}
use Rattle.vm_journal.specs.declared.entry.What.TheVariants as what
use Rattle.content_laws.proofs.BlockMoved.{at_home, copied_put, counted_put, homes_landed}
use Rattle.content_laws.proofs.FrameChanged.{buffers_stay, held_move, settled_move, written_move}
use Rattle.content_laws.proofs.Landed.{IsLifted, Landed, failed_other, failed_own, lifted}
use Rattle.content_laws.proofs.LiesOnce.{writes_own}
use Rattle.content_laws.proofs.SectionBehind.{in_section}
use Rattle.content_laws.specs.Put.{PutsBlock}
use Rattle.pager_model.specs.Around.{page_view, process_view, quiet}
use Rattle.pager_model.specs.Bytes.{is_real, now, was}
use Rattle.pager_model.specs.Changes.{settled_to}
use Rattle.pager_model.specs.Content.{ContentFits, HasBuffers, HasCopied, HasCounted, HasHeld, HasHomes, HasLying, IsWriting, has_bytes}
use Rattle.pager_model.specs.Counted.{counts_of, last_count}
use Rattle.pager_model.specs.Fits.{FitsLift, FitsResult, FitsView, Lift, bad, flight_view, good, meant}
use Rattle.pager_model.specs.Flights.{Direction, Flight, is_reading, open_flights, without_flight, writing}
use Rattle.pager_model.specs.Lookups.{is, shares}
use Rattle.pager_model.specs.Maps.{shared_of}
use Rattle.pager_model.specs.OutLanding.{IsOutFail, IsOutOk, after_out_fail, after_out_ok, lies_at}
use Rattle.pager_model.specs.Pager.{Pager}
use Rattle.pager_model.specs.Sets.{at_number, at_page}
use Rattle.pager_model.specs.CountedBlock.{HasCounts, IsCountedBlock, told_plan}
use Rattle.pager_model.specs.Transfers.{is_write_on, starts, writes_on}
use Rattle.pager_rules.proofs.Basics.{at_number_other, at_number_same, nat_eq_refl, pages_equal, same_page_refl}
use Rattle.pager_rules.proofs.Lists.{all_filter, all_found, count_found, count_removed_no}
use Rattle.pager_rules.proofs.Quiet.{starts_once}
use Rattle.pager_rules.proofs.TouchedPages.{at_number_field}
use Rattle.pager_rules.specs.Kept.{FitsDirection, FitsFlight, FitsWrite, HasWrites, IsKept, views}

-- a frame that is written has its buffer
written_state : (s : FrameState) (n : ℕ) → HasWrites s n → 0 < n → (has_bytes s ≡ true) × (is state.Reading s ≡ false)
written_state state.Active n has some = (refl, refl)
written_state state.Writing n has some = (refl, refl)
written_state state.ReleasePending n has some = (refl, refl)
written_state state.Free n has some = absurd (omega arith)
written_state state.Modified n has some = absurd (omega arith)
written_state state.Bad n has some = absurd (omega arith)
written_state state.ReadError n has some = absurd (omega arith)
written_state state.Reading n has some = absurd (omega arith)

settled_state : (u m : Bool) (s : FrameState) → is state.Reading s ≡ false → is state.Reading (cond u (settled_to m) s) ≡ false
settled_state true true s is_not = refl
settled_state true false s is_not = refl
settled_state false m s is_not = is_not

module _ (tells tells_plan : Bool) (config : Config) (past : List Entry) (a : Pager) (buffer : ℕ → Option (List ℕ)) (home home' : BlockId → Option BlockView) (fits : ContentFits tells tells_plan config past a buffer home)
    (k : ℕ) (x : Flight) (lift : Lift) (kept : IsKept config (quiet (open_flights past)) a) (found : find (starts k) (open_flights past) ≡ Some x) (writes : x.direction ≡ writing)
    (fits_lift : FitsView tells (told_plan config tells_plan lift.block) x (flight_view config past a x lift.page) lift) (known : IsBlock config x.block) (real : is_real config lift.page ≡ true) (back : PutsBlock x.block (Some lift.seen) home home')
    (modify : ℕ → Bool) (marks : (h : ℕ) → (x.frame ≡ h → ⊥) → modify h ≡ a.modify h) (clear : modify x.frame ≡ false → a.modify x.frame ≡ false)
    (content : tells ≡ true → modify x.frame ≡ false → (lift.seen).content ≡ Some (was config past x.start lift.page)) where
  abbrev flights : List Flight
  flights = open_flights past

  abbrev f : ℕ
  f = x.frame

  abbrev lies : Page → Option BlockId
  lies = lies_at a.lies (modify f) (Some lift.page) x.block

  abbrev state_of : ℕ → FrameState
  state_of = at_number a.state f (cond (nat_eq (shares a.valid f) 0) (settled_to (modify f)) (a.state f))

  fit : FitsFlight (views config a) x
  fit = all_found (FitsFlight (views config a)) (starts k) flights x kept.transfers found

  write : FitsWrite x lift.page (page_view config a lift.page) (process_view config a)
  write = subst (λ (y : Page). FitsWrite x y (page_view config a y) (process_view config a)) (same_Some _ _ (sym fit.held ∙ fits_lift.held_page))
      (subst (λ (d : Direction). FitsDirection x fit.page (page_view config a fit.page) (process_view config a) (views config a).entry d) writes fit.fits)

  not_read : is_reading x.direction ≡ false
  not_read = ap is_reading writes

  state_is : (has_bytes (a.state f) ≡ true) × (is state.Reading (a.state f) ≡ false)
  state_is = written_state (a.state f) (writes_on f flights) (kept.frames f).writes (count_found (is_write_on f) (starts k) flights x found (and_from _ _ (nat_eq_refl f) (ap not not_read)))

  -- a page that lies in the block after it
  lies_own : (g : Page) → lies g ≡ Some x.block → g ≡ lift.page
  lies_own g = go (modify f)
    where
      by : (s : Bool) → same_page lift.page g ≡ s → cond s (Some x.block) (a.lies g) ≡ Some x.block → g ≡ lift.page
      by true same there = sym (pages_equal lift.page g same)
      by false other there = writes_own config (quiet flights) a kept x lift.page g write there

      go : (m : Bool) → cond m a.lies (at_page a.lies lift.page (Some x.block)) g ≡ Some x.block → g ≡ lift.page
      go true there = writes_own config (quiet flights) a kept x lift.page g write there
      go false there = by (same_page lift.page g) refl there

  -- and one that lies in another
  lies_other : (b : BlockId) (g : Page) → (x.block ≡ b → ⊥) → lies g ≡ Some b → (a.lies g ≡ Some b) × ((g ≡ lift.page) → modify f ≡ true)
  lies_other b g other = go (modify f) refl
    where
      by : (s : Bool) → same_page lift.page g ≡ s → cond s (Some x.block) (a.lies g) ≡ Some b → (a.lies g ≡ Some b) × ((g ≡ lift.page) → modify f ≡ true)
      by true is_page there = absurd (other (same_Some _ _ there))
      by false is_page there = (there, λ same. absurd (true≢false (sym (subst (λ (y : Page). same_page lift.page y ≡ true) (sym same) (same_page_refl lift.page)) ∙ is_page)))

      go : (m : Bool) → modify f ≡ m → cond m a.lies (at_page a.lies lift.page (Some x.block)) g ≡ Some b → (a.lies g ≡ Some b) × ((g ≡ lift.page) → modify f ≡ true)
      go true is_marked there = (there, λ same. is_marked)
      go false is_clear there = by (same_page lift.page g) refl there

  writes_there : (h : ℕ) → (f ≡ h → ⊥) → writes_on h (without_flight k flights) ≡ writes_on h flights
  writes_there h apart = count_removed_no (is_write_on h) (starts k) flights x found (starts_once past k) (ap (λ (c : Bool). c && not (is_reading x.direction)) (ne_eqb f h apart))

  landed_lying : tells ≡ true → HasLying config (now config past) lies a.page modify (without_flight k flights) home'
  landed_lying told b y g real_g at there settled = go (at_home config home home' x.block (Some lift.seen) back b y at)
    where
      go : ((x.block ≡ b) × (Some lift.seen ≡ Some y)) ⊎ ((x.block ≡ b → ⊥) × (home b ≡ Some y)) → y.content ≡ Some (now config past g)
      go (inl mine) =
          let own : g ≡ lift.page = lies_own g (there ∙ ap Some (sym mine.0)) in
          let clear_now : modify f ≡ false = (settled f (fits_lift.held_page ∙ ap Some (sym own))).0 in
          let same = all_found (IsWriting (now config past) (was config past) a.page a.modify) (starts k) flights x (fits.written told) found not_read (clear clear_now) lift.page fits_lift.held_page in
          subst (λ (z : BlockView). z.content ≡ Some (now config past g)) (same_Some _ _ mine.1) (content told clear_now ∙ ap Some (sym same ∙ ap (now config past) (sym own)))
      go (inr theirs) =
          let before = lies_other b g theirs.0 there in
          fits.lying told b y g real_g theirs.1 before.0 (settled_move a.page a.page a.modify modify flights (without_flight k flights) f g (λ h apart. (refl, marks h apart, writes_there h apart))
          (λ holds.
          let own : g ≡ lift.page = same_Some _ _ (sym holds ∙ fits_lift.held_page) in
          absurd (true≢false (sym (before.1 own) ∙ (settled f holds).0)))
          settled)

  landed_buffers : HasBuffers config state_of buffer
  landed_buffers = buffers_stay config a.state state_of buffer (at_number_field (is state.Reading) a.state f _ (settled_state (nat_eq (shares a.valid f) 0) (modify f) (a.state f) state_is.1 ∙ sym state_is.1)) fits.buffers

  landed_homes : HasHomes config (without_flight k flights) home'
  landed_homes = homes_landed config home home' k x lift.seen flights found (starts_once past k) (kept.blocks x.block).flights known back fits.homes

  landed_held : tells ≡ true → HasHeld (now config past) a.page state_of buffer
  landed_held told = held_move (now config past) (now config past) a.page a.page a.state state_of buffer buffer f (λ h apart. (refl, at_number_other a.state f _ h apart, refl, λ g holds. refl)) (λ g holds filled. fits.held told f g holds state_is.0) (fits.held told)

  -- a section's block that is written is of a shared section
  landed_copied : tells ≡ true → HasCopied config home'
  landed_copied told = copied_put config home home' x.block (Some lift.seen) back (λ s i y is here unshared. absurd (none s i is unshared write)) (fits.copied told)
    where
      none : (s : SecId) (i : ℕ) → x.block ≡ block.Section s i → shared_of (slice_get config.sections s.0) ≡ false → FitsWrite x lift.page (page_view config a lift.page) (process_view config a) → ⊥
      none s i is unshared (inl section) = true≢false (sym (in_section config (quiet flights) a lift.page s i kept real (section.1 ∙ ap Some is)) ∙ unshared)
      none s i is unshared (inr (inl file)) = let in_file = file.2 in absurd (cc)
      none s i is unshared (inr (inr swap)) = let in_swap = swap.block in absurd (cc)

  landed_written : (e : Entry) → ((g : Page) → now config (e ∷ past) g ≡ now config past g) → tells ≡ true → AllByRecursion (IsWriting (now config (e ∷ past)) (was config (e ∷ past)) a.page modify) (without_flight k flights)
  landed_written e same told = all_filter (IsWriting (now config (e ∷ past)) (was config (e ∷ past)) a.page modify) (λ (y : Flight). not (starts k y)) flights
      (written_move config past e a.page a.page a.modify modify (λ y some is_write clear_now g holds. (clear_before y.frame clear_now (cases_eq f y.frame), holds, same g)) (fits.written told))
    where
      clear_before : (h : ℕ) → modify h ≡ false → (f ≡ h) ⊎ (f ≡ h → ⊥) → a.modify h ≡ false
      clear_before h clear_now (inl same) = subst (λ (i : ℕ). a.modify i ≡ false) same (clear (ap modify same ∙ clear_now))
      clear_before h clear_now (inr apart) = sym (marks h apart) ∙ clear_now

  landed_counted : (longer : List Entry) → ((b : BlockId) → (x.block ≡ b → ⊥) → counts_of b longer ≡ counts_of b past) → HasCounts lift.seen (counts_of x.block longer) 0 0 → (lift.seen).faults ≡ last_count x.block longer → HasCounted tells_plan config longer home'
  landed_counted longer others counts faults = counted_put config home home' x.block (Some lift.seen) back tells_plan past longer others
      (λ y is. subst (λ (z : BlockView). IsCountedBlock tells_plan config longer x.block z) (same_Some _ _ is) (record { counts = counts; faults = faults; plan = fits_lift.plan_is ∙ ap (told_plan config tells_plan) (sym (fits_lift.flight).block) })) fits.counted

  pub landed : Landed tells tells_plan config past k x lift.seen state_of a.page modify lies buffer home'
  landed = record { buffers = landed_buffers; homes = landed_homes; held = landed_held; lying = landed_lying; written = landed_written; copied = landed_copied; counted = landed_counted }

-- ---- OUTOK and OUTFAIL, of the flight of a lift
module _ (tells tells_plan : Bool) (config : Config) (past : List Entry) (a : Pager) (buffer : ℕ → Option (List ℕ)) (home home' : BlockId → Option BlockView) (kept : IsKept config (quiet (open_flights past)) a)
    (seat : Seat) (n : Pfn) (lift : Lift) (fits_lift : FitsLift tells tells_plan config past a lift) (known : IsBlock config lift.block) (real : is_real config lift.page ≡ true) (back : PutsBlock lift.block (Some lift.seen) home home') where
  abbrev x : Flight
  x = fits_lift.0

  abbrev k : ℕ
  k = lift.start

  abbrev view : FitsView tells (told_plan config tells_plan lift.block) x (flight_view config past a x lift.page) lift
  view = fits_lift.1

  -- for the marks after it, if the block has the written bytes while the frame's mark is clear
  lands_by : (modify : ℕ → Bool) → IsOutOk past seat.0 n.0 k → ((h : ℕ) → (x.frame ≡ h → ⊥) → modify h ≡ a.modify h) → (modify x.frame ≡ false → a.modify x.frame ≡ false)
      → (tells ≡ true → modify x.frame ≡ false → (lift.seen).content ≡ Some (was config past x.start lift.page)) → ContentFits tells tells_plan config past a buffer home
      → Landed tells tells_plan config past k x lift.seen (at_number a.state x.frame (cond (nat_eq (shares a.valid x.frame) 0) (settled_to (modify x.frame)) (a.state x.frame))) a.page modify
      (lies_at a.lies (modify x.frame) (Some lift.page) x.block) buffer home'
  lands_by modify legal marks clear content fits =
      let is = lifted tells tells_plan config past a lift fits_lift seat.0 n.0 legal.flight legal.lands in
      landed tells tells_plan config past a buffer home home' fits k x lift kept is.0.found (ap (λ (y : Flight). y.direction) (sym is.1) ∙ legal.writes) view (subst (IsBlock config) is.0.block known) real
      (subst (λ (d : BlockId). PutsBlock d (Some lift.seen) home home') is.0.block back) modify marks clear content

  pub out_ok_content : IsOutOk past seat.0 n.0 k → lift.result ≡ good → ContentFits tells tells_plan config past a buffer home
      → ContentFits tells tells_plan config (record { seat = seat; what = what.OutOk n k } ∷ past) (after_out_ok a n.0 (find (starts k) (open_flights past))) buffer home'
  out_ok_content legal landed_well fits =
      subst (λ (o : Option Flight). ContentFits tells tells_plan config (e ∷ past) (after_out_ok a n.0 o) buffer home') (sym is.0.found)
      (subst (λ (h : ℕ). ContentFits tells tells_plan config (e ∷ past) (after_out_ok a h (Some x)) buffer home') is.0.frame
      (subst (λ (o : Option Page). ContentFits tells tells_plan config (e ∷ past) (record (after_out_ok a x.frame (Some x)) { lies = lies_at a.lies (a.modify x.frame) o x.block }) buffer home') (sym view.held_page)
      (record { buffers = after.buffers; homes = after.homes; held = after.held; lying = after.lying; written = after.written e (λ g. refl); copied = after.copied; counted = after.counted (e ∷ past) (λ b apart. refl) result.0 result.1 })))
    where
      e : Entry
      e = record { seat = seat; what = what.OutOk n k }

      is : IsLifted past lift x n.0 × (legal.flight ≡ x)
      is = lifted tells tells_plan config past a lift fits_lift seat.0 n.0 legal.flight legal.lands

      writes : x.direction ≡ writing
      writes = ap (λ (y : Flight). y.direction) (sym is.1) ∙ legal.writes

      result : FitsResult tells lift (counts_of x.block past) (meant config past x.start lift.page x.direction) good
      result = subst (FitsResult tells lift (counts_of x.block past) (meant config past x.start lift.page x.direction)) landed_well view.result

      -- what the block has now: the page's bytes of when the write began
      content : tells ≡ true → a.modify x.frame ≡ false → (lift.seen).content ≡ Some (was config past x.start lift.page)
      content told clear =
          let writes_lift : lift.is_read ≡ false = sym ((view.flight).direction) ∙ ap is_reading writes in
          result.3 told writes_lift ∙ ap Some (view.buffer told writes_lift ∙ ap (λ (d : Direction). meant config past x.start lift.page d) writes)

      after : Landed tells tells_plan config past k x lift.seen (at_number a.state x.frame (cond (nat_eq (shares a.valid x.frame) 0) (settled_to (a.modify x.frame)) (a.state x.frame))) a.page a.modify
          (lies_at a.lies (a.modify x.frame) (Some lift.page) x.block) buffer home'
      after = lands_by a.modify legal (λ h apart. refl) (λ clear. clear) content fits

  pub out_fail_content : (c d : ℕ) → IsOutFail past seat.0 n.0 k c d → lift.result ≡ bad c d → ContentFits tells tells_plan config past a buffer home
      → ContentFits tells tells_plan config (record { seat = seat; what = what.OutFail n k c d } ∷ past) (after_out_fail a n.0 (find (starts k) (open_flights past))) buffer home'
  out_fail_content c d legal landed_badly fits =
      subst (λ (o : Option Flight). ContentFits tells tells_plan config (e ∷ past) (after_out_fail a n.0 o) buffer home') (sym is.0.found)
      (subst (λ (h : ℕ). ContentFits tells tells_plan config (e ∷ past) (after_out_fail a h (Some x)) buffer home') is.0.frame
      (subst (λ (o : Option Page). ContentFits tells tells_plan config (e ∷ past) (record (after_out_fail a x.frame (Some x)) { lies = lies_at a.lies (modify x.frame) o x.block }) buffer home') (sym view.held_page)
      (record { buffers = after.buffers; homes = after.homes; held = after.held; lying = after.lying; written = after.written e (λ g. refl); copied = after.copied; counted = after.counted (e ∷ past) others counts faults })))
    where
      e : Entry
      e = record { seat = seat; what = what.OutFail n k c d }

      is : IsLifted past lift x n.0 × (legal.write.flight ≡ x)
      is = lifted tells tells_plan config past a lift fits_lift seat.0 n.0 legal.write.flight legal.write.lands

      modify : ℕ → Bool
      modify = at_number a.modify x.frame true

      marked_now : modify x.frame ≡ true
      marked_now = at_number_same a.modify x.frame true

      result : FitsResult tells lift (counts_of x.block past) (meant config past x.start lift.page x.direction) (bad c d)
      result = subst (FitsResult tells lift (counts_of x.block past) (meant config past x.start lift.page x.direction)) landed_badly view.result

      others : (b : BlockId) → (x.block ≡ b → ⊥) → counts_of b (e ∷ past) ≡ counts_of b past
      others b apart = failed_other past k x d b is.0.found apart

      counts : HasCounts lift.seen (counts_of x.block (e ∷ past)) 0 0
      counts = record { reads = result.0.reads; writes = result.0.writes }

      faults : (lift.seen).faults ≡ last_count x.block (e ∷ past)
      faults = sym result.2 ∙ sym (failed_own past k x d is.0.found)

      after : Landed tells tells_plan config past k x lift.seen (at_number a.state x.frame (cond (nat_eq (shares a.valid x.frame) 0) (settled_to (modify x.frame)) (a.state x.frame))) a.page modify
          (lies_at a.lies (modify x.frame) (Some lift.page) x.block) buffer home'
      after = lands_by modify legal.write (λ h apart. at_number_other a.modify x.frame true h apart) (λ clear. absurd (true≢false (sym marked_now ∙ clear))) (λ told clear. absurd (true≢false (sym marked_now ∙ clear))) fits
