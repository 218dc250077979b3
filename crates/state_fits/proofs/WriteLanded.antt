-- A write lands: what is around its frame before and after, and the frame's row.
use Rattle.std.proofs.Common.{◌≡◌, ℕ, ◌+◌, ◌<◌, ◌≤◌, Bool, true, false, cond, not, ◌&&◌, ◌||◌, List, [], ◌∷◌, Option, Some, None, find, nat_eq, count_by, slice_set, refl, sym, ap, ap₂, ◌∙◌, subst, inl, inr, arith}
use Rattle.std.specs.Prelude.{◌==◌, if◌then◌else◌}
use Rattle.std.proofs.lemmas.Bool.{and_from, and_left, eqb-true, ne_eqb}
use Rattle.vm_types.specs.declared.config.Config.{Config}
use Rattle.vm_types.specs.declared.names.FrameState.{FrameState}
use Rattle.vm_types.specs.declared.names.FrameState.TheVariants as state
use Rattle.vm_types.specs.declared.names.Page.{Page}
use Rattle.vm_types.specs.declared.names.Page.TheVariants.{Private, Shared}
use Rattle.vm_journal.specs.declared.entry.Entry.{Entry}
use Rattle.pfn_database.specs.Frames.{Frames, row_of}
use Rattle.pfn_database.specs.Rows.{IsOneOf, counted_references, uncounted}
use Rattle.pfn_database.specs.declared.row.Row.{Row}
use Rattle.pager_model.specs.Around.{FrameView, frame_view, page_view, past_view, process_view, entry_view}
use Rattle.pager_model.specs.Changes.{pushed_if, settled_to}
use Rattle.pager_model.specs.Flights.{Direction, Flight, is_reading, open_flights, without_flight, writing}
use Rattle.pager_model.specs.InOk.{IsLanding}
use Rattle.pager_model.specs.Lookups.{entries_at, entry_of, has_vpn, is_entry, page_by, shares}
use Rattle.pager_model.specs.Pager.{Pager, Valid}
use Rattle.pager_model.specs.Transfers.{is_read_on, is_write_on, reads_on, starts, writes_on}
use Rattle.pager_rules.proofs.Basics.{count_from_no_find, nat_eq_refl}
use Rattle.pager_rules.proofs.Frames.{at_state}
use Rattle.pager_rules.proofs.Lists.{all_found, count_filter_le, count_removed_no, count_removed_yes}
use Rattle.pager_rules.proofs.Quiet.{starts_once}
use Rattle.pager_rules.specs.Kept.{FitsDirection, FitsFlight, FitsFrame, FitsWrite, IsKept, views}
use Rattle.pager_laws.proofs.Holders.{holds_within}
use Rattle.pager_laws.proofs.ValidEntries.{valid_at_page}
use Rattle.state_fits.specs.Frames.{FramesFit, frame_pins, frame_row, or_zero, row_by, slot_for}
use Rattle.state_fits.proofs.FrameRows.{over_pins}
use Rattle.state_fits.proofs.PartsSet.{frames_set}
use Rattle.state_fits.proofs.RingSlots.{absent}

-- ---- the frame
record IsWritten (x : FrameView) : Type 0 where
  reads : x.reads ≡ 0
  writes : x.writes ≡ 1
  state : IsOneOf (state.Active ∷ state.Writing ∷ state.ReleasePending ∷ []) x.state

written_frame : (x : FrameView) → FitsFrame x → 0 < x.writes → IsWritten x
written_frame x fits some = go x.state refl
  where
    none : (s : FrameState) → x.state ≡ s → FitsFrame (record x { state = s })
    none s e = at_state x s e fits

    go : (s : FrameState) → x.state ≡ s → IsWritten x
    go state.Active e = let row = none state.Active e in record { reads = row.reads; writes = omega (arith, row.writes, some); state = inl e }
    go state.Writing e = let row = none state.Writing e in record { reads = row.reads; writes = row.writes; state = inr (inl e) }
    go state.ReleasePending e = let row = none state.ReleasePending e in record { reads = row.reads; writes = row.writes; state = inr (inr (inl e)) }
    go state.Free e = absurd (omega (arith, (none state.Free e).writes, some))
    go state.Modified e = absurd (omega (arith, (none state.Modified e).writes, some))
    go state.Bad e = absurd (omega (arith, (none state.Bad e).writes, some))
    go state.ReadError e = absurd (omega (arith, (none state.ReadError e).writes, some))
    go state.Reading e = absurd (omega (arith, (none state.Reading e).writes, some))

-- a page in a frame that no valid entry is for has no ring slot
unshared_slot : (config : Config) (past : List Entry) (a : Pager) (f : ℕ) (g : Page) → IsKept config (past_view past) a → a.page f ≡ Some g → shares a.valid f ≡ 0 → slot_for a.ring (Some g) ≡ 0
unshared_slot config past a f (Shared s i) kept holds none = refl
unshared_slot config past a f (Private p v) kept holds none = ap or_zero (absent (has_vpn v) (a.ring p.0).slots ((kept.entries p.0 v).slots ∙ go (entry_of a.valid p.0 v) refl))
  where
    own : page_by config a.map p.0 v ≡ Some (Private p v)
    own = (kept.pages (Private p v)).mapped (kept.held_charged f (Private p v) refl holds) refl

    go : (e : Option Valid) → entry_of a.valid p.0 v ≡ e → entries_at a.valid p.0 v ≡ 0
    go None is = count_from_no_find (is_entry p.0 v) a.valid is
    go (Some e) is =
        let at = valid_at_page config past a p.0 v e kept is in
        let same : at.page ≡ Private p v = let also = at.mapped in cc (also, own) in
        let frame : e.frame ≡ f = kept.held_once e.frame f (Private p v) (at.holds ∙ ap Some same) holds in
        let some = subst (λ (h : ℕ). 0 < shares a.valid h) frame at.shared in
        absurd (omega (arith, some, none))

-- the frame's page is being written; afterwards no transfer is open on it, and those on the others stay
pub record IsWrittenOn (config : Config) (a : Pager) (flights rest : List Flight) (x : Flight) (f : ℕ) : Type 0 where
  pub within : f < config.frames
  pub page : Page
  pub holds : a.page f ≡ Some page
  pub fits : FitsWrite x page (page_view config a page) (process_view config a)
  pub state : IsOneOf (state.Active ∷ state.Writing ∷ state.ReleasePending ∷ []) (a.state f)
  pub slot : shares a.valid f ≡ 0 → slot_for a.ring (a.page f) ≡ 0
  pub one : reads_on f flights + writes_on f flights ≡ 1
  pub none : reads_on f rest + writes_on f rest ≡ 0
  pub there : (h : ℕ) → (f ≡ h → ⊥) → reads_on h rest + writes_on h rest ≡ reads_on h flights + writes_on h flights

module _ (config : Config) (past : List Entry) (a : Pager) (k : ℕ) (x : Flight) (kept : IsKept config (past_view past) a) (found : find (starts k) (open_flights past) ≡ Some x) (writes : x.direction ≡ writing) where
  abbrev flights : List Flight
  flights = open_flights past

  abbrev rest : List Flight
  rest = without_flight k flights

  once : count_by (starts k) flights ≤ 1
  once = starts_once past k

  one_write : writes_on x.frame flights ≡ 1 + writes_on x.frame rest
  one_write = count_removed_yes (is_write_on x.frame) (starts k) flights x found once (and_from _ _ (nat_eq_refl x.frame) (ap (λ (d : Direction). not (is_reading d)) writes))

  at_frame : IsWrittenOn config a flights rest x x.frame
  at_frame =
      let its = all_found (FitsFlight (views config a)) (starts k) flights x kept.transfers found in
      let was = written_frame (frame_view config (past_view past) a x.frame) (kept.frames x.frame) (omega (arith, one_write)) in
      let reads = was.reads in
      let writes_is = was.writes in
      let fewer = count_filter_le (is_read_on x.frame) (λ (y : Flight). not (starts k y)) flights in
      record {
        within = holds_within config (past_view past) a x.frame its.page kept its.held;
        page = its.page;
        holds = its.held;
        fits = subst (FitsDirection x its.page (page_view config a its.page) (process_view config a) (entry_view config a)) writes its.fits;
        state = was.state;
        slot = λ none. ap (slot_for a.ring) its.held ∙ unshared_slot config past a x.frame its.page kept its.held none;
        one = omega (arith, reads, writes_is);
        none = omega (arith, fewer, reads, writes_is, one_write);
        there = λ h apart.
            let reads_is = count_removed_no (is_read_on h) (starts k) flights x found once (and_left _ _ (ne_eqb x.frame h apart)) in
            let writes_is = count_removed_no (is_write_on h) (starts k) flights x found once (and_left _ _ (ne_eqb x.frame h apart)) in
            ap₂ (λ (m n : ℕ). m + n) reads_is writes_is;
      }

pub written_on : (config : Config) (past : List Entry) (a : Pager) (p f k : ℕ) (x : Flight) → IsKept config (past_view past) a → IsLanding past p f k x → x.direction ≡ writing
    → IsWrittenOn config a (open_flights past) (without_flight k (open_flights past)) x f
written_on config past a p f k x kept lands writes = subst (IsWrittenOn config a (open_flights past) (without_flight k (open_flights past)) x) lands.frame (at_frame config past a k x kept lands.open_k writes)

-- ---- its row
module _ (config : Config) (a : Pager) (flights rest : List Flight) (x : Flight) (f : ℕ) (at : IsWrittenOn config a flights rest x f) (failed : Bool) (state_of : ℕ → FrameState) (modify : ℕ → Bool)
    (here : state_of f ≡ (if nat_eq (shares a.valid f) 0 then settled_to (failed || a.modify f) else a.state f)) (there : (h : ℕ) → (f ≡ h → ⊥) → state_of h ≡ a.state h)
    (mark : modify f ≡ (failed || a.modify f)) (marks : (h : ℕ) → (f ≡ h → ⊥) → modify h ≡ a.modify h) where
  abbrev old_row : ℕ → Row
  old_row = frame_row a.state a.page a.modify a.valid a.ring flights

  abbrev new_row : ℕ → Row
  new_row = frame_row state_of a.page modify a.valid a.ring rest

  abbrev landed_row : Row → Row
  landed_row row = record row {
    state = if row.shares == 0 then settled_to (failed || row.modify) else row.state;
    modify = failed || row.modify;
    refs = counted_references row.shares 0 + uncounted row;
    slot = if row.shares == 0 then 0 else row.slot;
    flights = 0;
  }

  slot_is : (b : Bool) → nat_eq (shares a.valid f) 0 ≡ b → cond b 0 (slot_for a.ring (a.page f)) ≡ slot_for a.ring (a.page f)
  slot_is true none = sym (at.slot (eqb-true (shares a.valid f) 0 none))
  slot_is false some = refl

  row_here : (row : Row) → row ≡ old_row f → landed_row row ≡ new_row f
  unfolding frame_row
  row_here row is = λ i. record {
    state = (ap (λ (r : Row). (landed_row r).state) is ∙ sym here) i;
    page = (is i).page;
    modify = (ap (λ (r : Row). failed || r.modify) is ∙ sym mark) i;
    refs = (ap (λ (r : Row). counted_references r.shares 0 + uncounted r) is ∙ (λ j. counted_references (shares a.valid f) (sym at.none j) + over_pins (counted_references (shares a.valid f) (reads_on f flights + writes_on f flights)) (frame_pins a.valid a.ring f) j)) i;
    shares = (is i).shares;
    slot = (ap (λ (r : Row). (landed_row r).slot) is ∙ slot_is (nat_eq (shares a.valid f) 0) refl) i;
    flights = sym at.none i;
  }

  row_there : (h : ℕ) → (f ≡ h → ⊥) → new_row h ≡ old_row h
  unfolding frame_row
  row_there h apart = λ i. row_by (there h apart i) (a.page h) (marks h apart i) (shares a.valid h) (at.there h apart i) (slot_for a.ring (a.page h)) (frame_pins a.valid a.ring h)

  unshared_is : (row : Row) → row ≡ old_row f → (row.shares == 0) ≡ nat_eq (shares a.valid f) 0
  unfolding frame_row
  unshared_is row is = ap (λ (r : Row). r.shares == 0) is

  modify_is : (row : Row) → row ≡ old_row f → (failed || row.modify) ≡ (failed || a.modify f)
  unfolding frame_row
  modify_is row is = ap (λ (r : Row). failed || r.modify) is

  pub write_landed : (n : ℕ) (pfns pfns' : Frames) → FramesFit old_row n a.free a.modified pfns → f < n
      → pfns'.rows ≡ slice_set pfns.rows f (landed_row (row_of pfns f))
      → pfns'.free ≡ pushed_if (((row_of pfns f).shares == 0) && not (failed || (row_of pfns f).modify)) pfns.free f
      → pfns'.modified ≡ pushed_if (((row_of pfns f).shares == 0) && (failed || (row_of pfns f).modify)) pfns.modified f
      → FramesFit new_row n (pushed_if (nat_eq (shares a.valid f) 0 && not (failed || a.modify f)) a.free f) (pushed_if (nat_eq (shares a.valid f) 0 && (failed || a.modify f)) a.modified f) pfns'
  write_landed n pfns pfns' fit below rows free modified =
      let row = row_of pfns f in
      let is = fit.rows f in
      let u = unshared_is row is in
      let m = modify_is row is in
      frames_set old_row new_row n a.free (pushed_if (nat_eq (shares a.valid f) 0 && not (failed || a.modify f)) a.free f) a.modified (pushed_if (nat_eq (shares a.valid f) 0 && (failed || a.modify f)) a.modified f)
      pfns pfns' f (landed_row row) fit below rows
      (free ∙ (λ i. pushed_if (u i && not (m i)) (fit.free_list i) f))
      (modified ∙ (λ i. pushed_if (u i && m i) (fit.modified_list i) f))
      (row_here row is) row_there
