-- DONE.
use Rattle.pager_rules.proofs.Quiet.{none_failed}
use Rattle.std.proofs.Common.{◌≡◌, ℕ, ◌+◌, ◌<◌, ◌≤◌, Bool, true, false, cond, List, ◌∷◌, Option, Some, find, nat_eq, count_by, refl, sym, ap, ◌∙◌, subst, subst₂, inr, arith}
use Rattle.std.proofs.lemmas.Bool.{eqb-true, and_parts, and_from, or_left}
use Rattle.vm_types.specs.Same.{same_page}
use Rattle.vm_types.specs.declared.names.Page.{Page}
use Rattle.vm_types.specs.declared.names.Seat.{Seat}
use Rattle.vm_types.specs.declared.names.FrameState.TheVariants as state
use Rattle.vm_types.specs.declared.config.Config.{Config}
use Rattle.vm_types.specs.declared.reference.Ref.{Ref}
use Rattle.vm_types.specs.declared.reply.Reply.{Reply}
use Rattle.vm_journal.specs.declared.entry.Entry.{Entry}
use Rattle.vm_journal.specs.declared.entry.What.TheVariants as what
use Rattle.pager_model.specs.Around.{FrameView, frame_view, page_view, past_view, quiet}
use Rattle.pager_model.specs.Done.{IsDone, after_done, modify_done, touched_at}
use Rattle.pager_model.specs.Flat.{is_change, touched_with}
use Rattle.pager_model.specs.Flights.{Flight, is_busy, is_reading, open_flights}
use Rattle.pager_model.specs.Lookups.{count_page, is_entry, page_by}
use Rattle.pager_model.specs.Maps.{is_paged, page_number}
use Rattle.pager_model.specs.Own.{IsResident}
use Rattle.pager_model.specs.Pager.{Pager, Valid}
use Rattle.pager_model.specs.Sets.{at_number, has_page}
use Rattle.pager_model.specs.Transfers.{is_read_on, reads_on}
use Rattle.pager_rules.proofs.Basics.{at_number_other, at_number_same, count_none, nat_eq_refl}
use Rattle.pager_rules.proofs.Frames.{active_frame, at_state, from_state}
use Rattle.pager_rules.proofs.Lists.{all_found, count_found, found_passes}
use Rattle.pager_rules.proofs.Put.{charged_other, charged_same, page_apart, unsaved_move}
use Rattle.pager_rules.proofs.Transfers.{transfers_idle}
use Rattle.pager_rules.proofs.Views.{frames_move, pages_move}
use Rattle.pager_rules.specs.Kept.{FitsFrame, FitsPage, HasUnsaved, IsForItsPage, IsKept, views}

-- ---- one more touched page
touched_other : (config : Config) (touched : List Page) (g h : Page) → same_page h g ≡ false → count_page (touched_with config touched g) h ≡ count_page touched h
touched_other config touched g h apart = go (is_paged config g) (has_page touched g)
  where
    go : (b c : Bool) → count_page (cond b (cond c touched (g ∷ touched)) touched) h ≡ count_page touched h
    go false c = refl
    go true true = refl
    go true false = charged_other g h touched apart

touched_own : (config : Config) (touched : List Page) (g : Page) (n : ℕ) → count_page touched g ≤ n → (is_paged config g ≡ true → n ≡ 1) → count_page (touched_with config touched g) g ≤ n
touched_own config touched g n most one = go (is_paged config g) refl (has_page touched g) refl
  where
    go : (b : Bool) → is_paged config g ≡ b → (c : Bool) → has_page touched g ≡ c → count_page (cond b (cond c touched (g ∷ touched)) touched) g ≤ n
    go false shared c is = most
    go true private true is = most
    go true private false is = omega (arith, charged_same g touched, count_none (same_page g) touched is, one private)

module _ (config : Config) (past : List Entry) (a : Pager) (p v : ℕ) (e : Valid) (kept : IsKept config (quiet (open_flights past)) a) (found : find (is_entry p v) a.valid ≡ Some e) (c : Bool) (references : ℕ → ℕ) where
  abbrev fits : IsForItsPage config a.map a.page e
  fits = all_found (IsForItsPage config a.map a.page) (is_entry p v) a.valid e kept.valid found

  abbrev f : ℕ
  f = e.frame

  abbrev old : ℕ → FrameView
  old = frame_view config (quiet (open_flights past)) a

  was : a.state f ≡ state.Active
  was = active_frame (old f) (kept.frames f) (count_found (λ (y : Valid). nat_eq y.frame f) (is_entry p v) a.valid e found (nat_eq_refl f))

  row : FitsFrame (record (old f) { state = state.Active })
  row = at_state (old f) state.Active was (kept.frames f)

  abbrev modify : Bool → ℕ → Bool
  modify d = cond d (at_number a.modify f true) a.modify

  abbrev b : Bool → Pager
  b d = record a { modify = modify d; references = references; touched = touched_with config a.touched fits.0 }

  there : (g : ℕ) → (f ≡ g → ⊥) → frame_view config (quiet (open_flights past)) (b true) g ≡ old g
  there g apart = let modify_is = at_number_other a.modify f true g apart in cc

  frames : (d : Bool) (g : ℕ) → FitsFrame (frame_view config (quiet (open_flights past)) (b d) g)
  frames false = kept.frames
  frames true = frames_move FitsFrame old (frame_view config (quiet (open_flights past)) (b true)) f there
      (from_state (frame_view config (quiet (open_flights past)) (b true) f) state.Active was (record {
        bad = row.bad;
        on_free = row.on_free;
        on_modified = row.on_modified;
        shares = row.shares;
        reads = row.reads;
        writes = row.writes;
        failed = refl;
        page = row.page;
        mark = tt;
      }))
      kept.frames

  unsaved : (d : Bool) → HasUnsaved config (quiet (open_flights past)) (b d)
  unsaved false = kept.unsaved
  unsaved true = unsaved_move config (quiet (open_flights past)) (quiet (open_flights past)) a (b true) f there
      (λ g charged lies. inr (charged, lies, λ holds saved. (f, holds, or_left _ _ (at_number_same a.modify f true))))
      kept.unsaved

  page_there : (g : Page) → same_page g fits.0 ≡ false → page_view config (b c) g ≡ page_view config a g
  page_there g apart = let touched_is = touched_other config a.touched fits.0 g apart in cc

  page_here : FitsPage fits.0 (page_view config (b c) fits.0)
  page_here =
      let page = kept.pages fits.0 in
      record {
        paged = page.paged;
        charged = page.charged;
        touched = touched_own config a.touched fits.0 (count_page a.charged fits.0) page.touched (λ private. omega (arith, kept.held_charged f fits.0 private fits.2, page.charged));
        blocks = page.blocks;
        mapped = page.mapped;
        lying = page.lying;
        in_file = page.in_file;
        not_in_section = page.not_in_section;
        shared = page.shared;
      }

  -- no page that is being read is this one
  not_read : (x : Flight) → ((t : Flight → Bool) → t x ≡ true → 0 < count_by t (open_flights past)) → (g : Page) → a.page x.frame ≡ Some g → is_reading x.direction ≡ true → page_view config (b c) g ≡ page_view config a g
  not_read x counts g holds reads = page_there g (page_apart g fits.0 (λ same.
      let frame : x.frame ≡ f = kept.held_once x.frame f g holds (fits.2 ∙ ap Some (sym same)) in
      let some = counts (is_read_on x.frame) (and_from _ _ (nat_eq_refl x.frame) reads) in
      let none : reads_on x.frame (open_flights past) ≡ 0 = subst (λ (h : ℕ). reads_on h (open_flights past) ≡ 0) (sym frame) row.reads in
      omega arith))

  pub done : IsResident config a p → is_busy p (open_flights past) ≡ false → IsKept config (quiet (open_flights past)) (b c)
  done own idle = record {
    frames = frames c;
    processes = kept.processes;
    entries = kept.entries;
    valid = kept.valid;
    pages = pages_move FitsPage (page_view config a) (page_view config (b c)) fits.0 page_there page_here kept.pages;
    blocks = kept.blocks;
    fit = kept.fit;
    held_once = kept.held_once;
    held_charged = kept.held_charged;
    unsaved = unsaved c;
    swapped = kept.swapped;
    coming_once = kept.coming_once;
    transfers = transfers_idle (views config a) (views config (b c)) p (record { not_leaving = λ leaving. let resident = own.resident in cc; status = λ r. refl; process = λ r far. refl; entries = λ r w far. refl; mapped = λ r w far. refl })
        (open_flights past) idle (λ x counts fits. (refl, λ g holds. record { read = not_read x counts g holds; paged = refl; lies = refl; block = refl })) kept.transfers;
    one_fault = kept.one_fault;
    failed = none_failed _ _;
  }

pub done_kept : (config : Config) (past : List Entry) (a : Pager) (seat : Seat) (r : Ref) (answer : Reply) → IsKept config (quiet (open_flights past)) a → is_busy seat.0 (open_flights past) ≡ false → IsDone config a seat.0 r
    → IsKept config (past_view (record { seat = seat; what = what.Done r answer } ∷ past)) (after_done config a seat.0 r)
done_kept config past a seat r answer before idle legal =
    let kept = before in
    let v = page_number (r.addr).0 in
    let e = legal.valid.0 in
    let found = legal.valid.1 in
    let for_page = all_found (IsForItsPage config a.map a.page) (is_entry seat.0 v) a.valid e kept.valid found in
    let parts = and_parts (nat_eq e.proc seat.0) (nat_eq e.vpn v) (found_passes (is_entry seat.0 v) a.valid e found) in
    let own : page_by config a.map seat.0 v ≡ Some for_page.0 = subst₂ (λ (q w : ℕ). page_by config a.map q w ≡ Some for_page.0) (eqb-true _ _ parts.0) (eqb-true _ _ parts.1) for_page.1 in
    let references = at_number a.references seat.0 (a.references seat.0 + 1) in
    subst₂ (λ (o : Option Valid) (g : Option Page). IsKept config (quiet (open_flights past)) (record a { modify = modify_done r.op o a.modify; references = references; touched = touched_at config a.touched g })) (sym found) (sym own)
    (done config past a seat.0 v e kept found (is_change r.op) references legal.own idle)
