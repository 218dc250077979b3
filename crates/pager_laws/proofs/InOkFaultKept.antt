-- INOK of a read of role FAULT.
use Rattle.pager_rules.proofs.Quiet.{none_failed}
use Rattle.std.proofs.Common.{◌≡◌, ◌⊎◌, ℕ, ◌+◌, ◌<◌, ◌≤◌, Bool, true, false, not, List, Option, Some, None, find, nat_eq, count_by, refl, sym, ap, ◌∙◌, subst, inl, inr, arith}
use Rattle.std.specs.List.{AllByRecursion}
use Rattle.std.proofs.lemmas.Bool.{cases_eq, ne_eqb, and_left, and_from, or_left}
use Rattle.std.proofs.lemmas.Option.{none-some}
use Rattle.vm_types.specs.Ring.{Ring}
use Rattle.vm_types.specs.declared.names.Page.{Page}
use Rattle.vm_types.specs.declared.names.Proc.{Proc}
use Rattle.vm_types.specs.declared.names.Addr.{Addr}
use Rattle.vm_types.specs.declared.names.FrameState.TheVariants as state
use Rattle.vm_types.specs.declared.config.Config.{Config}
use Rattle.vm_journal.specs.declared.entry.Role.TheVariants as role
use Rattle.pager_model.specs.Around.{FrameView, entry_view, frame_view, page_view, process_view, quiet}
use Rattle.pager_model.specs.Changes.{valid_at}
use Rattle.pager_model.specs.Flights.{Flight, is_reading, reading, without_flight}
use Rattle.pager_model.specs.InOk.{after_read, is_first_read}
use Rattle.pager_model.specs.Lookups.{is_entry}
use Rattle.pager_model.specs.Maps.{page_number}
use Rattle.pager_model.specs.Pager.{Pager, Valid}
use Rattle.pager_model.specs.Ring.{placed}
use Rattle.pager_model.specs.Sound.{HasSwapped}
use Rattle.pager_model.specs.Transfers.{faults_of, is_fault, is_fault_of, is_on_block, is_read_on, is_write_on, reads_on, starts}
use Rattle.pager_rules.proofs.Basics.{at_number_other, at_number_same, count_cons_no, count_cons_yes, nat_eq_refl}
use Rattle.pager_rules.proofs.Frames.{at_state, from_state, reading_frame}
use Rattle.pager_rules.proofs.Lists.{all_filter, all_found, all_step, count_filter_le, count_removed_no, count_removed_yes}
use Rattle.pager_rules.proofs.Pages.{behind_section, own_process, swapped_move}
use Rattle.pager_rules.proofs.PlacedRing.{IsPlaced}
use Rattle.pager_rules.proofs.Rings.{entries_add, placed_process, placed_there}
use Rattle.pager_rules.proofs.Transfers.{IsApart, alike, flight_apart}
use Rattle.pager_rules.proofs.Views.{frames_move}
use Rattle.pager_rules.specs.Kept.{FitsDirection, FitsFlight, FitsFrame, FitsProcess, FitsRead, FitsRole, HasUnsaved, IsInFrame, IsKept, saves, views}

module _ (config : Config) (a : Pager) (flights : List Flight) (k : ℕ) (x : Flight) (q : Proc) (address : Addr)
    (kept : IsKept config (quiet flights) a) (found : find (starts k) flights ≡ Some x) (once : count_by (starts k) flights ≤ 1)
    (reads : x.direction ≡ reading (role.Fault q address)) where
  abbrev p : ℕ
  p = q.0

  abbrev v : ℕ
  v = page_number address.0

  abbrev f : ℕ
  f = x.frame

  abbrev new : Ring
  new = placed (a.ring p) (a.limit p) v

  abbrev rest : List Flight
  rest = without_flight k flights

  abbrev b : Pager
  b = after_read a f x.block (reading (role.Fault q address))

  fit : FitsFlight (views config a) x
  fit = all_found (FitsFlight (views config a)) (starts k) flights x kept.transfers found

  fits : FitsRead x (role.Fault q address) fit.page (page_view config a fit.page) × FitsRole x fit.page (process_view config a) (entry_view config a) (role.Fault q address)
  fits = subst (FitsDirection x fit.page (page_view config a fit.page) (process_view config a) (entry_view config a)) reads fit.fits

  -- ---- frames
  one_read : reads_on f flights ≡ 1 + reads_on f rest
  one_read = count_removed_yes (is_read_on f) (starts k) flights x found once (and_from _ _ (nat_eq_refl f) (ap is_reading reads))

  was : a.state f ≡ state.Reading
  was = reading_frame (frame_view config (quiet flights) a f) (kept.frames f) (omega (arith, one_read))

  row : FitsFrame (record (frame_view config (quiet flights) a f) { state = state.Reading })
  row = at_state (frame_view config (quiet flights) a f) state.Reading was (kept.frames f)

  here : FitsFrame (frame_view config (quiet rest) b f)
  here = from_state (frame_view config (quiet rest) b f) state.Active (at_number_same a.state f state.Active) (record {
    bad = row.bad;
    on_free = row.on_free;
    on_modified = row.on_modified;
    shares = omega (arith, count_cons_yes (λ (e : Valid). nat_eq e.frame f) (valid_at p v f) a.valid (nat_eq_refl f));
    reads = omega (arith, one_read, row.reads);
    writes = omega (arith, count_filter_le (is_write_on f) (λ (y : Flight). not (starts k y)) flights, row.writes);
    failed = refl;
    page = (fit.page, fit.held);
    mark = tt;
  })

  there : (g : ℕ) → (f ≡ g → ⊥) → frame_view config (quiet rest) b g ≡ frame_view config (quiet flights) a g
  there g apart =
      let state_is = at_number_other a.state f state.Active g apart in
      let modify_is = at_number_other a.modify f (is_first_read (a.page f) x.block) g apart in
      let shares_is = count_cons_no (λ (e : Valid). nat_eq e.frame g) (valid_at p v f) a.valid (ne_eqb f g apart) in
      let reads_is = count_removed_no (is_read_on g) (starts k) flights x found once (and_left _ _ (ne_eqb f g apart)) in
      let writes_is = count_removed_no (is_write_on g) (starts k) flights x found once (and_left _ _ (ne_eqb f g apart)) in
      cc

  -- ---- the ring and the entry
  is_placed : IsPlaced (a.ring p) new v
  is_placed = placed_there (process_view config a p) v (kept.processes p) fits.1.4

  process_there : (r : ℕ) → (p ≡ r → ⊥) → process_view config b r ≡ process_view config a r
  process_there r apart = let ring_is = at_number_other a.ring p new r apart in cc

  process_here : FitsProcess (process_view config b p)
  process_here = subst (λ (r : Ring). FitsProcess (record (process_view config a p) { ring = r })) (sym (at_number_same a.ring p new)) (placed_process (process_view config a p) new v is_placed (λ gone. let resident = fits.1.1 in cc) (kept.processes p))

  -- ---- pages
  unsaved : HasUnsaved config (quiet rest) b
  unsaved g charged nowhere = go (kept.unsaved g charged nowhere)
    where
      first : a.lies fit.page ≡ None → FitsRead x (role.Fault q address) fit.page (page_view config a fit.page) → is_first_read (a.page f) x.block ≡ true
      first none (inl lies) = absurd (none-some _ (sym none ∙ lies))
      first none (inr is) = subst (λ (o : Option Page). is_first_read o x.block ≡ true) (sym fit.held) (and_from _ _ is.private (behind_section a.map fit.page x.block is.behind))

      go : IsInFrame config (quiet flights) a g → IsInFrame config (quiet rest) b g
      go (h, holds, saved) = by (cases_eq f h)
        where
          by : (f ≡ h) ⊎ (f ≡ h → ⊥) → IsInFrame config (quiet rest) b g
          by (inl same) =
              let g_is : g ≡ fit.page = cc (holds, fit.held) in
              let set = at_number_same a.modify f (is_first_read (a.page f) x.block) ∙ first (ap a.lies (sym g_is) ∙ nowhere) fits.0 in
              (f, fit.held ∙ ap Some (sym g_is), or_left _ _ set)
          by (inr apart) = (h, holds, subst (λ (view : FrameView). saves view ≡ true) (sym (there h apart)) saved)

  swapped : HasSwapped b.lies b.status b.ring b.state b.page
  swapped = swapped_move a.lies a.status a.ring b.ring a.state b.state a.page a.page p f fits.1.1
      (λ r apart. at_number_other a.ring p new r apart) (λ h apart. at_number_other a.state f state.Active h apart) (λ h apart. refl)
      (λ g r n holds lies own apart. let same : g ≡ fit.page = cc (holds, fit.held) in absurd (apart (own_process config a.map p v r g (fits.1.2 ∙ ap Some (sym same)) own)))
      kept.swapped

  -- ---- flights
  one_less : faults_of p flights ≡ 1 + faults_of p rest
  one_less = count_removed_yes (is_fault_of p) (starts k) flights x found once (and_from _ _ (subst (λ (s : ℕ). nat_eq s p ≡ true) (sym fits.1.0) (nat_eq_refl p)) (ap is_fault reads))

  apart : IsApart (views config a) (views config b) p
  apart = record {
    not_leaving = λ leaving. let resident = fits.1.1 in cc;
    status = λ r. refl;
    process = process_there;
    entries = λ r w apart. count_cons_no (is_entry r w) (valid_at p v f) a.valid (and_left _ _ (ne_eqb p r apart));
    mapped = λ r w far. refl;
  }

  transfers : AllByRecursion (FitsFlight (views config b)) rest
  transfers = all_step (FitsFlight (views config a)) (FitsFlight (views config b)) rest
      (λ y counts old. flight_apart (views config a) (views config b) p apart y (not_fault y counts (is_fault_of p y) refl) refl (λ g holds. alike _ _ _ refl) old)
      (all_filter (FitsFlight (views config a)) (λ (y : Flight). not (starts k y)) flights kept.transfers)
    where
      not_fault : (y : Flight) → ((t : Flight → Bool) → t y ≡ true → 0 < count_by t rest) → (c : Bool) → is_fault_of p y ≡ c → is_fault_of p y ≡ false
      not_fault y counts false is = is
      not_fault y counts true is = absurd (omega (arith, counts (is_fault_of p) is, one_less, kept.one_fault p))

  pub fault_landed : IsKept config (quiet rest) b
  fault_landed = record {
    frames = frames_move FitsFrame (frame_view config (quiet flights) a) (frame_view config (quiet rest) b) f there here kept.frames;
    processes = frames_move FitsProcess (process_view config a) (process_view config b) p process_there process_here kept.processes;
    entries = entries_add config a.map a.status a.ring a.valid p v f new is_placed (λ g coming own. let resident = fits.1.1 in absurd (cc)) fits.1.3 kept.entries;
    valid = ((fit.page, fits.1.2, fit.held), kept.valid);
    pages = kept.pages;
    blocks = λ d. record { owners = (kept.blocks d).owners; flights = omega (arith, count_filter_le (is_on_block d) (λ (y : Flight). not (starts k y)) flights, (kept.blocks d).flights) };
    fit = kept.fit;
    held_once = kept.held_once;
    held_charged = kept.held_charged;
    unsaved = unsaved;
    swapped = swapped;
    coming_once = kept.coming_once;
    transfers = transfers;
    one_fault = λ s. omega (arith, count_filter_le (is_fault_of s) (λ (y : Flight). not (starts k y)) flights, kept.one_fault s);
    failed = none_failed _ _;
  }
