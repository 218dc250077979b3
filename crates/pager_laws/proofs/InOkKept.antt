-- INOK of the roles NEAR and COME, and of any role.
use Rattle.std.proofs.Common.{◌≡◌, ℕ, ◌+◌, ◌≤◌, true, not, List, ◌∷◌, Option, Some, None, find, count_by, refl, sym, ap, ◌∙◌, subst, subst₂, inl, inr, arith}
use Rattle.std.proofs.lemmas.Bool.{ne_eqb, and_left, and_from, false≢true}
use Rattle.std.proofs.lemmas.Option.{none-some}
use Rattle.vm_types.specs.declared.names.Page.{Page}
use Rattle.vm_types.specs.declared.names.Proc.{Proc}
use Rattle.vm_types.specs.declared.names.Addr.{Addr}
use Rattle.vm_types.specs.declared.names.Pfn.{Pfn}
use Rattle.vm_types.specs.declared.names.Seat.{Seat}
use Rattle.vm_types.specs.declared.names.BlockId.TheVariants as block
use Rattle.vm_types.specs.declared.names.FrameState.TheVariants as state
use Rattle.vm_types.specs.declared.config.Config.{Config}
use Rattle.vm_journal.specs.declared.entry.Entry.{Entry}
use Rattle.vm_journal.specs.declared.entry.Role.{Role}
use Rattle.vm_journal.specs.declared.entry.Role.TheVariants as role
use Rattle.vm_journal.specs.declared.entry.What.TheVariants as what
use Rattle.pager_laws.proofs.ComingKept.{came_in}
use Rattle.pager_laws.proofs.InOkFaultKept.{fault_landed}
use Rattle.pager_model.specs.Around.{FrameView, entry_view, frame_view, page_view, past_view, process_view, quiet}
use Rattle.pager_model.specs.Changes.{lies_nowhere, swap_slot, valid_at}
use Rattle.pager_model.specs.Flights.{Direction, Flight, is_reading, open_flights, reading, without_flight}
use Rattle.pager_model.specs.InOk.{IsInOk, after_in_ok, after_read}
use Rattle.pager_model.specs.Maps.{page_number}
use Rattle.pager_model.specs.Pager.{Pager}
use Rattle.pager_model.specs.Ring.{slotted}
use Rattle.pager_model.specs.Sets.{at_number, at_page}
use Rattle.pager_model.specs.Sound.{is_out_state}
use Rattle.pager_model.specs.Transfers.{is_fault_of, is_on_block, is_read_on, is_write_on, reads_on, starts, writes_on}
use Rattle.pager_rules.proofs.Basics.{at_number_other, at_number_same, nat_eq_refl}
use Rattle.pager_rules.proofs.Frames.{at_state, from_state, reading_frame}
use Rattle.pager_rules.proofs.Lists.{all_filter, all_found, count_filter_le, count_removed_no, count_removed_yes}
use Rattle.pager_rules.proofs.Pages.{swapped_frame}
use Rattle.pager_rules.proofs.Put.{pushed_other, pushed_same, unsaved_move}
use Rattle.pager_rules.proofs.Quiet.{none_failed, starts_once}
use Rattle.pager_rules.proofs.Views.{frames_move}
use Rattle.pager_rules.specs.Kept.{FitsDirection, FitsFlight, FitsFrame, FitsRead, FitsRole, IsKept, views}

-- ---- the frame of a read that lands
module _ (config : Config) (a : Pager) (flights : List Flight) (k : ℕ) (x : Flight) (r : Role)
    (kept : IsKept config (quiet flights) a) (found : find (starts k) flights ≡ Some x) (once : count_by (starts k) flights ≤ 1)
    (reads : x.direction ≡ reading r) where
  abbrev pub f : ℕ
  f = x.frame

  abbrev pub rest : List Flight
  rest = without_flight k flights

  abbrev pub fit : FitsFlight (views config a) x
  fit = all_found (FitsFlight (views config a)) (starts k) flights x kept.transfers found

  abbrev pub g : Page
  g = fit.page

  pub fits : FitsRead x r g (page_view config a g) × FitsRole x g (process_view config a) (entry_view config a) r
  fits = subst (FitsDirection x g (page_view config a g) (process_view config a) (entry_view config a)) reads fit.fits

  one_read : reads_on f flights ≡ 1 + reads_on f rest
  one_read = count_removed_yes (is_read_on f) (starts k) flights x found once (and_from _ _ (nat_eq_refl f) (ap is_reading reads))

  was : a.state f ≡ state.Reading
  was = reading_frame (frame_view config (quiet flights) a f) (kept.frames f) (omega (arith, one_read))

  pub row : FitsFrame (record (frame_view config (quiet flights) a f) { state = state.Reading })
  row = at_state (frame_view config (quiet flights) a f) state.Reading was (kept.frames f)

  pub no_reads : reads_on f rest ≡ 0
  no_reads = omega (arith, one_read, row.reads)

  pub no_writes : writes_on f rest ≡ 0
  no_writes = omega (arith, count_filter_le (is_write_on f) (λ (y : Flight). not (starts k y)) flights, row.writes)

  pub reads_there : (h : ℕ) → (f ≡ h → ⊥) → reads_on h rest ≡ reads_on h flights
  reads_there h apart = count_removed_no (is_read_on h) (starts k) flights x found once (and_left _ _ (ne_eqb f h apart))

  pub writes_there : (h : ℕ) → (f ≡ h → ⊥) → writes_on h rest ≡ writes_on h flights
  writes_there h apart = count_removed_no (is_write_on h) (starts k) flights x found once (and_left _ _ (ne_eqb f h apart))

-- ---- NEAR
module _ (config : Config) (a : Pager) (flights : List Flight) (k : ℕ) (x : Flight) (near : Page)
    (kept : IsKept config (quiet flights) a) (found : find (starts k) flights ≡ Some x) (once : count_by (starts k) flights ≤ 1)
    (reads : x.direction ≡ reading (role.Near near)) where
  near_landed : IsKept config (quiet (without_flight k flights)) (after_read a x.frame x.block (reading (role.Near near)))
  near_landed = record {
    frames = frames_move FitsFrame (frame_view config (quiet flights) a) now x.frame there here kept.frames;
    processes = kept.processes;
    entries = kept.entries;
    valid = kept.valid;
    pages = kept.pages;
    blocks = λ d. record { owners = (kept.blocks d).owners; flights = omega (arith, count_filter_le (is_on_block d) (λ (y : Flight). not (starts k y)) flights, (kept.blocks d).flights) };
    fit = kept.fit;
    held_once = kept.held_once;
    held_charged = kept.held_charged;
    unsaved = unsaved_move config (quiet flights) (quiet (without_flight k flights)) a b x.frame there (λ y some lies. inr (some, lies, λ held saved. absurd (safe y held lies))) kept.unsaved;
    swapped = swapped_frame a.lies a.status a.ring a.state b.state a.page a.page x.frame (λ h apart. at_number_other a.state x.frame state.Free h apart) (λ h apart. refl)
        (λ y q n held old. inl (ap is_out_state (at_number_same a.state x.frame state.Free))) kept.swapped;
    coming_once = kept.coming_once;
    transfers = all_filter (FitsFlight (views config a)) (λ (y : Flight). not (starts k y)) flights kept.transfers;
    one_fault = λ s. omega (arith, count_filter_le (is_fault_of s) (λ (y : Flight). not (starts k y)) flights, kept.one_fault s);
    failed = none_failed _ _;
  }
    where
      b : Pager
      b = after_read a x.frame x.block (reading (role.Near near))

      now : ℕ → FrameView
      now = frame_view config (quiet (without_flight k flights)) b

      here_row : FitsFrame (record (frame_view config (quiet flights) a x.frame) { state = state.Reading })
      here_row = row config a flights k x (role.Near near) kept found once reads

      here : FitsFrame (now x.frame)
      here = from_state (now x.frame) state.Free (at_number_same a.state x.frame state.Free) (record {
        bad = here_row.bad;
        on_free = pushed_same a.free x.frame here_row.on_free;
        on_modified = here_row.on_modified;
        shares = here_row.shares;
        reads = no_reads config a flights k x (role.Near near) kept found once reads;
        writes = no_writes config a flights k x (role.Near near) kept found once reads;
        failed = refl;
        page = tt;
        mark = here_row.mark;
      })

      there : (h : ℕ) → (x.frame ≡ h → ⊥) → now h ≡ frame_view config (quiet flights) a h
      there h apart =
          let state_is = at_number_other a.state x.frame state.Free h apart in
          let free_is = pushed_other true a.free x.frame h apart in
          let reads_is = reads_there config a flights k x (role.Near near) kept found once reads h apart in
          let writes_is = writes_there config a flights k x (role.Near near) kept found once reads h apart in
          cc

      -- the page lies in the block
      safe : (y : Page) → a.page x.frame ≡ Some y → a.lies y ≡ None → ⊥
      safe y held none = go (fits config a flights k x (role.Near near) kept found once reads).0
        where
          go : FitsRead x (role.Near near) (fit config a flights k x (role.Near near) kept found once reads).page (page_view config a (fit config a flights k x (role.Near near) kept found once reads).page) → ⊥
          go (inl lies) = let own = (fit config a flights k x (role.Near near) kept found once reads).held in none-some _ (sym (subst (λ (z : Page). a.lies z ≡ None) (cc (held, own)) none) ∙ lies)
          go (inr first) = false≢true first.fault

-- ---- COME
module _ (config : Config) (a : Pager) (flights : List Flight) (k : ℕ) (x : Flight) (q : Proc) (address : Addr)
    (kept : IsKept config (quiet flights) a) (found : find (starts k) flights ≡ Some x) (once : count_by (starts k) flights ≤ 1)
    (reads : x.direction ≡ reading (role.Come q address)) where
  abbrev came : FitsFlight (views config a) x
  came = fit config a flights k x (role.Come q address) kept found once reads

  how : FitsRead x (role.Come q address) came.page (page_view config a came.page) × FitsRole x came.page (process_view config a) (entry_view config a) (role.Come q address)
  how = fits config a flights k x (role.Come q address) kept found once reads

  abbrev n : ℕ
  n = (how.1.2).0

  lies : a.lies came.page ≡ Some (block.Swap q n)
  lies = go how.0
    where
      go : FitsRead x (role.Come q address) came.page (page_view config a came.page) → a.lies came.page ≡ Some (block.Swap q n)
      go (inl is) = is ∙ ap Some (how.1.2).1
      go (inr first) = absurd (false≢true first.fault)

  come_landed : IsKept config (quiet (without_flight k flights)) (record a {
    state = at_number a.state x.frame state.Active;
    modify = at_number a.modify x.frame true;
    ring = at_number a.ring q.0 (slotted (a.ring q.0) n (page_number address.0));
    valid = valid_at q.0 (page_number address.0) x.frame ∷ a.valid;
    lies = at_page a.lies came.page None;
  })
  come_landed =
      let before = row config a flights k x (role.Come q address) kept found once reads in
      came_in config a flights (without_flight k flights) a.free q.0 (page_number address.0) x.frame n came.page kept how.1.0 how.1.1 came.held lies
      (record {
        bad = before.bad;
        on_free = before.on_free;
        on_modified = before.on_modified;
        shares = before.shares;
        reads = no_reads config a flights k x (role.Come q address) kept found once reads;
        writes = no_writes config a flights k x (role.Come q address) kept found once reads;
        free_there = λ h far. refl;
        reads_there = reads_there config a flights k x (role.Come q address) kept found once reads;
        writes_there = writes_there config a flights k x (role.Come q address) kept found once reads;
      })
      (λ d. record { owners = (kept.blocks d).owners; flights = omega (arith, count_filter_le (is_on_block d) (λ (z : Flight). not (starts k z)) flights, (kept.blocks d).flights) })
      (all_filter (FitsFlight (views config a)) (λ (z : Flight). not (starts k z)) flights kept.transfers)
      (λ s. omega (arith, count_filter_le (is_fault_of s) (λ (z : Flight). not (starts k z)) flights, kept.one_fault s))

pub in_ok_kept : (config : Config) (past : List Entry) (a : Pager) (seat : Seat) (f : Pfn) (k : ℕ) → IsKept config (quiet (open_flights past)) a → IsInOk past seat.0 f.0 k
    → IsKept config (past_view (record { seat = seat; what = what.InOk f k } ∷ past)) (after_in_ok a f.0 (find (starts k) (open_flights past)))
in_ok_kept config past a seat f k before legal =
    subst (λ (o : Option Flight). IsKept config (quiet (without_flight k (open_flights past))) (after_in_ok a f.0 o)) (sym legal.lands.open_k)
    (subst (λ (h : ℕ). IsKept config (quiet (without_flight k (open_flights past))) (after_read a h x.block x.direction)) legal.lands.frame
    (subst (λ (d : Direction). IsKept config (quiet (without_flight k (open_flights past))) (after_read a x.frame x.block d)) (sym legal.reads) (by legal.role legal.reads)))
  where
    kept : IsKept config (quiet (open_flights past)) a
    kept = before

    x : Flight
    x = legal.flight

    by : (r : Role) → x.direction ≡ reading r → IsKept config (quiet (without_flight k (open_flights past))) (after_read a x.frame x.block (reading r))
    by (role.Fault q address) reads = fault_landed config a (open_flights past) k x q address kept legal.lands.open_k (starts_once past k) reads
    by (role.Near near) reads = near_landed config a (open_flights past) k x near kept legal.lands.open_k (starts_once past k) reads
    by (role.Come q address) reads =
        let all = come_landed config a (open_flights past) k x q address kept legal.lands.open_k (starts_once past k) reads in
        let page = (came config a (open_flights past) k x q address kept legal.lands.open_k (starts_once past k) reads).held in
        let slot = ap swap_slot ((how config a (open_flights past) k x q address kept legal.lands.open_k (starts_once past k) reads).1.2).1 in
        subst₂ (λ (n : ℕ) (o : Option Page). IsKept config (quiet (without_flight k (open_flights past))) (record a {
          state = at_number a.state x.frame state.Active;
          modify = at_number a.modify x.frame true;
          ring = at_number a.ring q.0 (slotted (a.ring q.0) n (page_number address.0));
          valid = valid_at q.0 (page_number address.0) x.frame ∷ a.valid;
          lies = lies_nowhere a.lies o;
        })) (sym slot) (sym page) all
