-- Content along INOK and INFAIL: the frame's buffer and the block come back, after a good read with the page's bytes.
use Rattle.std.proofs.Common.{◌≡◌, ◌⊎◌, ℕ, ◌<◌, ◌&&◌, Bool, true, false, not, List, ◌∷◌, Option, Some, find, length, nat_eq, count_by, slice_get, refl, sym, ap, ◌∙◌, subst, inl, inr, arith}
use Rattle.std.proofs.lemmas.Bool.{and_from, eq-eqb, false≢true, true≢false}
use Rattle.std.proofs.lemmas.Option.{same_Some}
use Rattle.vm_types.specs.declared.limits.TheConstants.{PAGE_BYTES}
use Rattle.vm_types.specs.BlockView.{BlockView}
use Rattle.vm_types.specs.Configuration.{IsBlock}
use Rattle.vm_types.specs.declared.names.Page.{Page}
use Rattle.vm_types.specs.declared.names.Pfn.{Pfn}
use Rattle.vm_types.specs.declared.names.SecId.{SecId}
use Rattle.vm_types.specs.declared.names.BlockId.{BlockId}
use Rattle.vm_types.specs.declared.names.BlockId.TheVariants as block
use Rattle.vm_types.specs.declared.names.Seat.{Seat}
use Rattle.vm_types.specs.declared.names.FrameState.{FrameState}
use Rattle.vm_types.specs.declared.names.FrameState.TheVariants as state
use Rattle.vm_types.specs.declared.config.Config.{Config}
use Rattle.vm_journal.specs.declared.entry.Entry.{Entry}
use Rattle.vm_journal.specs.declared.entry.Role.{Role}
use Rattle.vm_journal.specs.declared.entry.Role.TheVariants as role
use Rattle.vm_journal.specs.declared.entry.What.TheVariants as what
use Rattle.content_laws.proofs.BlockMoved.{at_home, copied_put, counted_put, homes_landed}
use Rattle.content_laws.proofs.FrameChanged.{buffers_put, held_move, settled_move, written_move}
use Rattle.content_laws.proofs.Landed.{IsLifted, Landed, failed_other, failed_own, lifted}
use Rattle.content_laws.proofs.LiesOnce.{lies_once}
use Rattle.content_laws.proofs.QuietContent.{nowhere_lies}
use Rattle.content_laws.proofs.SectionBehind.{first_own, in_section, unshared_own}
use Rattle.content_laws.specs.Put.{PutsBlock, PutsBuffer}
use Rattle.pager_laws.proofs.KeptIsSound.{has_none}
use Rattle.pager_model.specs.Around.{frame_view, page_view, process_view, quiet}
use Rattle.pager_model.specs.Bytes.{is_real, now, was}
use Rattle.pager_model.specs.Changes.{lies_nowhere}
use Rattle.pager_model.specs.Content.{ContentFits, HasCopied, HasLying, IsWriting, has_bytes}
use Rattle.pager_model.specs.Counted.{counts_of, last_count}
use Rattle.pager_model.specs.Fits.{FitsLift, FitsResult, FitsView, Lift, bad, flight_view, good, meant}
use Rattle.pager_model.specs.Flights.{Direction, Flight, is_reading, open_flights, reading, without_flight}
use Rattle.pager_model.specs.InFail.{IsInFail, after_in_fail}
use Rattle.pager_model.specs.InOk.{IsInOk, IsLanding, after_in_ok, after_read, is_first_read}
use Rattle.pager_model.specs.Lookups.{is, own_page, own_section}
use Rattle.pager_model.specs.Maps.{Map, section_bytes, shared_of}
use Rattle.pager_model.specs.Pager.{Pager}
use Rattle.pager_model.specs.Sets.{at_number, has_page}
use Rattle.pager_model.specs.Spoken.{flat_after}
use Rattle.pager_model.specs.CountedBlock.{HasCounts, IsCountedBlock, told_plan}
use Rattle.pager_model.specs.Transfers.{is_read_on, is_write_on, starts, writes_on}
use Rattle.pager_rules.proofs.Basics.{at_number_other, at_number_same, nat_eq_refl}
use Rattle.pager_rules.proofs.Frames.{at_state, reading_frame}
use Rattle.pager_rules.proofs.Lists.{all_filter, all_found, count_found, count_removed_no}
use Rattle.pager_rules.proofs.Pages.{behind_section}
use Rattle.pager_rules.proofs.Put.{and_false}
use Rattle.pager_rules.proofs.Quiet.{starts_once}
use Rattle.pager_rules.specs.Kept.{FitsDirection, FitsFlight, FitsFrame, FitsRead, IsFirstRead, IsKept, views}

module _ (tells tells_plan : Bool) (config : Config) (past : List Entry) (a : Pager) (buffer buffer' : ℕ → Option (List ℕ)) (home home' : BlockId → Option BlockView) (fits : ContentFits tells tells_plan config past a buffer home)
    (maps : a.map ≡ (flat_after config past).map) (touches : a.touched ≡ (flat_after config past).touched) (k : ℕ) (x : Flight) (r : Role) (lift : Lift) (kept : IsKept config (quiet (open_flights past)) a)
    (found : find (starts k) (open_flights past) ≡ Some x) (reads : x.direction ≡ reading r) (fits_lift : FitsView tells (told_plan config tells_plan lift.block) x (flight_view config past a x lift.page) lift)
    (known : IsBlock config x.block) (real : is_real config lift.page ≡ true) (size : length lift.buffer ≡ PAGE_BYTES) (put : PutsBuffer x.frame (Some lift.buffer) buffer buffer') (back : PutsBlock x.block (Some lift.seen) home home')
    (state_of : ℕ → FrameState) (modify : ℕ → Bool) (lies : Page → Option BlockId) (states : (h : ℕ) → (x.frame ≡ h → ⊥) → state_of h ≡ a.state h) (marks : (h : ℕ) → (x.frame ≡ h → ⊥) → modify h ≡ a.modify h)
    (not_reading : is state.Reading (state_of x.frame) ≡ false) (less : (g : Page) (d : BlockId) → lies g ≡ Some d → a.lies g ≡ Some d)
    (filled : tells ≡ true → has_bytes (state_of x.frame) ≡ true → lift.buffer ≡ now config past lift.page) where
  abbrev flights : List Flight
  flights = open_flights past

  abbrev f : ℕ
  f = x.frame

  fit : FitsFlight (views config a) x
  fit = all_found (FitsFlight (views config a)) (starts k) flights x kept.transfers found

  read : FitsRead x r lift.page (page_view config a lift.page)
  read = subst (λ (y : Page). FitsRead x r y (page_view config a y)) (same_Some _ _ (sym fit.held ∙ fits_lift.held_page))
      ((subst (λ (d : Direction). FitsDirection x fit.page (page_view config a fit.page) (process_view config a) (views config a).entry d) reads fit.fits).0)

  is_read_of : is_reading x.direction ≡ true
  is_read_of = ap is_reading reads

  row : FitsFrame (record (frame_view config (quiet flights) a f) { state = state.Reading })
  row = at_state (frame_view config (quiet flights) a f) state.Reading (reading_frame (frame_view config (quiet flights) a f) (kept.frames f) (count_found (is_read_on f) (starts k) flights x found (and_from _ _ (nat_eq_refl f) is_read_of))) (kept.frames f)

  -- the block still has the page's bytes
  content_is : tells ≡ true → (lift.seen).content ≡ Some (now config past lift.page)
  content_is told = fits_lift.content told (sym ((fits_lift.flight).direction) ∙ is_read_of) ∙ ap Some (ap (λ (d : Direction). meant config past x.start lift.page d) reads)

  mapped : IsFirstRead x r lift.page (page_view config a lift.page) → own_page config a.map lift.page ≡ Some lift.page
  mapped first = (kept.pages lift.page).mapped (omega (arith, first.charged)) first.private

  -- a page that lies in the block is the one that was read
  lies_own : (g : Page) → is_real config g ≡ true → a.lies g ≡ Some x.block → g ≡ lift.page
  lies_own g real_g there = go read
    where
      by : (d : BlockId) → x.block ≡ d → IsFirstRead x r lift.page (page_view config a lift.page) → ⊥
      by (block.Section s i) is_d first =
          true≢false (sym (in_section config (quiet flights) a g s i kept real_g (there ∙ ap Some is_d)) ∙ unshared_own config a.map lift.page s i (mapped first) (first.behind ∙ ap Some is_d))
      by (block.PageFile m) is_d first = false≢true (behind_section a.map lift.page (block.PageFile m) (first.behind ∙ ap Some is_d))
      by (block.Swap p m) is_d first = false≢true (behind_section a.map lift.page (block.Swap p m) (first.behind ∙ ap Some is_d))

      go : FitsRead x r lift.page (page_view config a lift.page) → g ≡ lift.page
      go (inl lying) = lies_once config (quiet flights) a kept g lift.page x.block there lying
      go (inr first) = absurd (by x.block refl first)

  writes_there : (h : ℕ) → writes_on h (without_flight k flights) ≡ writes_on h flights
  writes_there h = count_removed_no (is_write_on h) (starts k) flights x found (starts_once past k) (subst (λ (b : Bool). (nat_eq f h && not b) ≡ false) (sym is_read_of) (and_false (nat_eq f h)))

  landed_lying : tells ≡ true → HasLying config (now config past) lies a.page modify (without_flight k flights) home'
  landed_lying told b y g real_g at there settled = go (at_home config home home' x.block (Some lift.seen) back b y at)
    where
      go : ((x.block ≡ b) × (Some lift.seen ≡ Some y)) ⊎ ((x.block ≡ b → ⊥) × (home b ≡ Some y)) → y.content ≡ Some (now config past g)
      go (inl mine) =
          let own : g ≡ lift.page = lies_own g real_g (less g b there ∙ ap Some (sym mine.0)) in
          subst (λ (z : BlockView). z.content ≡ Some (now config past g)) (same_Some _ _ mine.1) (content_is told ∙ ap Some (ap (now config past) (sym own)))
      go (inr theirs) = fits.lying told b y g real_g theirs.1 (less g b there) (settled_move a.page a.page a.modify modify flights (without_flight k flights) f g
          (λ h apart. (refl, marks h apart, writes_there h)) (λ holds. (row.mark, row.writes)) settled)

  landed_copied : tells ≡ true → HasCopied config home'
  landed_copied told = copied_put config home home' x.block (Some lift.seen) back (λ s i y is here unshared. subst (λ (z : BlockView). z.content ≡ Some (section_bytes config s.0 i)) (same_Some _ _ here) (content_is told ∙ ap Some (bytes s i is unshared read))) (fits.copied told)
    where
      bytes : (s : SecId) (i : ℕ) → x.block ≡ block.Section s i → shared_of (slice_get config.sections s.0) ≡ false → FitsRead x r lift.page (page_view config a lift.page) → now config past lift.page ≡ section_bytes config s.0 i
      bytes s i is unshared (inl lying) = absurd (true≢false (sym (in_section config (quiet flights) a lift.page s i kept real (lying ∙ ap Some is)) ∙ unshared))
      bytes s i is unshared (inr first) =
          first_own config (flat_after config past) lift.page s i (subst (λ (map : Map). own_page config map lift.page ≡ Some lift.page) maps (mapped first))
          (subst (λ (map : Map). own_section map lift.page ≡ Some (block.Section s i)) maps (first.behind ∙ ap Some is)) (subst (λ (ys : List Page). has_page ys lift.page ≡ false) touches (has_none a.touched lift.page first.untouched))

  pub landed : Landed tells tells_plan config past k x lift.seen state_of a.page modify lies buffer' home'
  landed = record {
    buffers = buffers_put config a.state state_of buffer buffer' f (Some lift.buffer) put (λ ys is. subst (λ (zs : List ℕ). length zs ≡ PAGE_BYTES) (same_Some _ _ is) size) (sym (ap not not_reading)) states fits.buffers;
    homes = homes_landed config home home' k x lift.seen flights found (starts_once past k) (kept.blocks x.block).flights known back fits.homes;
    held = λ told. held_move (now config past) (now config past) a.page a.page a.state state_of buffer buffer' f (λ h apart. (refl, states h apart, put.others h apart, λ g holds. refl))
        (λ g holds has. put.here ∙ ap Some (filled told has ∙ ap (now config past) (same_Some _ _ (sym fits_lift.held_page ∙ holds)))) (fits.held told);
    lying = landed_lying;
    written = λ e same told. all_filter (IsWriting (now config (e ∷ past)) (was config (e ∷ past)) a.page modify) (λ (y : Flight). not (starts k y)) flights
        (written_move config past e a.page a.page a.modify modify (λ y some writes clear g holds. (sym (marks y.frame (apart y some writes)) ∙ clear, holds, same g)) (fits.written told));
    copied = landed_copied;
    counted = λ longer others counts faults. counted_put config home home' x.block (Some lift.seen) back tells_plan past longer others
        (λ y is. subst (λ (z : BlockView). IsCountedBlock tells_plan config longer x.block z) (same_Some _ _ is) (record { counts = counts; faults = faults; plan = fits_lift.plan_is ∙ ap (told_plan config tells_plan) (sym (fits_lift.flight).block) })) fits.counted;
  }
    where
      apart : (y : Flight) → ((t : Flight → Bool) → t y ≡ true → 0 < count_by t flights) → is_reading y.direction ≡ false → f ≡ y.frame → ⊥
      apart y some writes same = omega (arith, row.writes, some (is_write_on f) (and_from _ _ (eq-eqb _ _ (sym same)) (ap not writes)))

-- ---- INOK and INFAIL, of the flight of a lift
module _ (tells tells_plan : Bool) (config : Config) (past : List Entry) (a : Pager) (buffer buffer' : ℕ → Option (List ℕ)) (home home' : BlockId → Option BlockView)
    (maps : a.map ≡ (flat_after config past).map) (touches : a.touched ≡ (flat_after config past).touched) (kept : IsKept config (quiet (open_flights past)) a) (seat : Seat) (n : Pfn) (lift : Lift)
    (fits_lift : FitsLift tells tells_plan config past a lift) (known : IsBlock config lift.block) (real : is_real config lift.page ≡ true) (size : length lift.buffer ≡ PAGE_BYTES)
    (put : PutsBuffer n.0 (Some lift.buffer) buffer buffer') (back : PutsBlock lift.block (Some lift.seen) home home') where
  abbrev x : Flight
  x = fits_lift.0

  abbrev k : ℕ
  k = lift.start

  abbrev view : FitsView tells (told_plan config tells_plan lift.block) x (flight_view config past a x lift.page) lift
  view = fits_lift.1

  lands_by : (r : Role) (y : Flight) → IsLanding past seat.0 n.0 k y → y.direction ≡ reading r → (state_of : ℕ → FrameState) (modify : ℕ → Bool) (lies : Page → Option BlockId) → ((h : ℕ) → (x.frame ≡ h → ⊥) → state_of h ≡ a.state h)
      → ((h : ℕ) → (x.frame ≡ h → ⊥) → modify h ≡ a.modify h) → is state.Reading (state_of x.frame) ≡ false → ((g : Page) (d : BlockId) → lies g ≡ Some d → a.lies g ≡ Some d)
      → (tells ≡ true → has_bytes (state_of x.frame) ≡ true → lift.buffer ≡ now config past lift.page) → ContentFits tells tells_plan config past a buffer home
      → Landed tells tells_plan config past k x lift.seen state_of a.page modify lies buffer' home'
  lands_by r y landing reads state_of modify lies states marks not_reading less filled fits =
      let its = lifted tells tells_plan config past a lift fits_lift seat.0 n.0 y landing in
      landed tells tells_plan config past a buffer buffer' home home' fits maps touches k x r lift kept its.0.found (ap (λ (z : Flight). z.direction) (sym its.1) ∙ reads) view (subst (IsBlock config) its.0.block known) real size
      (subst (λ (h : ℕ). PutsBuffer h (Some lift.buffer) buffer buffer') (sym its.0.frame) put) (subst (λ (d : BlockId). PutsBlock d (Some lift.seen) home home') its.0.block back) state_of modify lies states marks not_reading less filled

  pub in_ok_content : IsInOk past seat.0 n.0 k → lift.result ≡ good → ContentFits tells tells_plan config past a buffer home
      → ContentFits tells tells_plan config (record { seat = seat; what = what.InOk n k } ∷ past) (after_in_ok a n.0 (find (starts k) (open_flights past))) buffer' home'
  in_ok_content legal landed_well fits =
      subst (λ (o : Option Flight). ContentFits tells tells_plan config (e ∷ past) (after_in_ok a n.0 o) buffer' home') (sym its.0.found)
      (subst (λ (h : ℕ). ContentFits tells tells_plan config (e ∷ past) (after_in_ok a h (Some x)) buffer' home') its.0.frame
      (subst (λ (d : Direction). ContentFits tells tells_plan config (e ∷ past) (after_read a x.frame x.block d) buffer' home') (sym reads) (by legal.role legal.reads)))
    where
      e : Entry
      e = record { seat = seat; what = what.InOk n k }

      its : IsLifted past lift x n.0 × (legal.flight ≡ x)
      its = lifted tells tells_plan config past a lift fits_lift seat.0 n.0 legal.flight legal.lands

      reads : x.direction ≡ reading legal.role
      reads = ap (λ (y : Flight). y.direction) (sym its.1) ∙ legal.reads

      result : FitsResult tells lift (counts_of x.block past) (meant config past x.start lift.page x.direction) good
      result = subst (FitsResult tells lift (counts_of x.block past) (meant config past x.start lift.page x.direction)) landed_well view.result

      filled : tells ≡ true → lift.buffer ≡ now config past lift.page
      filled told = result.2 told (sym ((view.flight).direction) ∙ ap is_reading reads) ∙ ap (λ (d : Direction). meant config past x.start lift.page d) reads

      whole : (z : Pager) → z.page ≡ a.page → Landed tells tells_plan config past k x lift.seen z.state z.page z.modify z.lies buffer' home' → ContentFits tells tells_plan config (e ∷ past) z buffer' home'
      whole z page after = record { buffers = after.buffers; homes = after.homes; held = after.held; lying = after.lying; written = after.written e (λ g. refl); copied = after.copied; counted = after.counted (e ∷ past) (λ b apart. refl) result.0 result.1 }

      by : (r : Role) → legal.flight.direction ≡ reading r → ContentFits tells tells_plan config (e ∷ past) (after_read a x.frame x.block (reading r)) buffer' home'
      by (role.Fault q address) is_r = whole (after_read a x.frame x.block (reading (role.Fault q address))) refl
          (lands_by (role.Fault q address) legal.flight legal.lands is_r (at_number a.state x.frame state.Active) (at_number a.modify x.frame (is_first_read (a.page x.frame) x.block)) a.lies (at_number_other a.state x.frame state.Active)
          (at_number_other a.modify x.frame (is_first_read (a.page x.frame) x.block)) (ap (is state.Reading) (at_number_same a.state x.frame state.Active)) (λ g d there. there) (λ told has. filled told) fits)
      by (role.Near g) is_r = whole (after_read a x.frame x.block (reading (role.Near g))) refl
          (lands_by (role.Near g) legal.flight legal.lands is_r (at_number a.state x.frame state.Free) a.modify a.lies (at_number_other a.state x.frame state.Free)
          (λ h apart. refl) (ap (is state.Reading) (at_number_same a.state x.frame state.Free)) (λ g d there. there) (λ told has. filled told) fits)
      by (role.Come q address) is_r = whole (after_read a x.frame x.block (reading (role.Come q address))) refl
          (lands_by (role.Come q address) legal.flight legal.lands is_r (at_number a.state x.frame state.Active) (at_number a.modify x.frame true) (lies_nowhere a.lies (a.page x.frame)) (at_number_other a.state x.frame state.Active)
          (at_number_other a.modify x.frame true) (ap (is state.Reading) (at_number_same a.state x.frame state.Active)) (nowhere_lies a.lies (a.page x.frame)) (λ told has. filled told) fits)

  pub in_fail_content : (c d : ℕ) → IsInFail past seat.0 n.0 k c d → lift.result ≡ bad c d → ContentFits tells tells_plan config past a buffer home
      → ContentFits tells tells_plan config (record { seat = seat; what = what.InFail n k c d } ∷ past) (after_in_fail a n.0) buffer' home'
  in_fail_content c d legal landed_badly fits =
      subst (λ (h : ℕ). ContentFits tells tells_plan config (e ∷ past) (after_in_fail a h) buffer' home') its.0.frame
      (record { buffers = after.buffers; homes = after.homes; held = after.held; lying = after.lying; written = after.written e (λ g. refl); copied = after.copied; counted = after.counted (e ∷ past) (λ b apart. failed_other past k x d b its.0.found apart) counts faults })
    where
      e : Entry
      e = record { seat = seat; what = what.InFail n k c d }

      its : IsLifted past lift x n.0 × (legal.flight ≡ x)
      its = lifted tells tells_plan config past a lift fits_lift seat.0 n.0 legal.flight legal.lands

      result : FitsResult tells lift (counts_of x.block past) (meant config past x.start lift.page x.direction) (bad c d)
      result = subst (FitsResult tells lift (counts_of x.block past) (meant config past x.start lift.page x.direction)) landed_badly view.result

      counts : HasCounts lift.seen (counts_of x.block (e ∷ past)) 0 0
      counts = record { reads = result.0.reads; writes = result.0.writes }

      faults : (lift.seen).faults ≡ last_count x.block (e ∷ past)
      faults = sym result.2 ∙ sym (failed_own past k x d its.0.found)

      state_of : ℕ → FrameState
      state_of = at_number a.state x.frame state.ReadError

      now_failed : state_of x.frame ≡ state.ReadError
      now_failed = at_number_same a.state x.frame state.ReadError

      after : Landed tells tells_plan config past k x lift.seen state_of a.page a.modify a.lies buffer' home'
      after = lands_by legal.role legal.flight legal.lands legal.reads state_of a.modify a.lies (at_number_other a.state x.frame state.ReadError) (λ h apart. refl) (ap (is state.Reading) now_failed) (λ g b there. there)
          (λ told has. absurd (false≢true (sym (ap has_bytes now_failed) ∙ has))) fits
