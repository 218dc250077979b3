-- BACK.
use Rattle.pager_rules.proofs.Quiet.{none_failed}
use Rattle.std.proofs.Common.{◌≡◌, ℕ, ◌≤◌, true, false, List, ◌∷◌, Option, Some, inl, inr, nat_eq, refl, sym, ap, ◌∙◌, subst, arith}
use Rattle.std.proofs.lemmas.Bool.{false≢true, ne_eqb, and_left}
use Rattle.vm_types.specs.Ring.{Ring}
use Rattle.vm_types.specs.declared.names.Proc.{Proc}
use Rattle.vm_types.specs.declared.names.FrameState.{FrameState}
use Rattle.vm_types.specs.declared.names.ProcStatus.{ProcStatus}
use Rattle.vm_types.specs.declared.names.Page.{Page}
use Rattle.vm_types.specs.declared.names.BlockId.{BlockId}
use Rattle.vm_types.specs.declared.names.Addr.{Addr}
use Rattle.vm_types.specs.declared.names.Pfn.{Pfn}
use Rattle.vm_types.specs.declared.names.Seat.{Seat}
use Rattle.vm_types.specs.declared.names.FrameState.TheVariants as state
use Rattle.vm_types.specs.declared.config.Config.{Config}
use Rattle.vm_journal.specs.declared.entry.Entry.{Entry}
use Rattle.vm_journal.specs.declared.entry.What.TheVariants as what
use Rattle.page_lists.specs.Lists.{without}
use Rattle.pager_laws.proofs.ComingKept.{came_in}
use Rattle.pager_model.specs.Around.{FrameView, frame_view, past_view, process_view, quiet}
use Rattle.pager_model.specs.Back.{IsAnyBack, IsBack, IsBackComing, after_any_back, after_back, after_back_coming, block_slot, lies_of, may_come_back}
use Rattle.pager_model.specs.Changes.{lies_nowhere, valid_at}
use Rattle.pager_model.specs.Flights.{is_busy, open_flights}
use Rattle.pager_model.specs.Lookups.{is_entry}
use Rattle.pager_model.specs.Maps.{page_number}
use Rattle.pager_model.specs.Pager.{Pager, Valid}
use Rattle.pager_model.specs.Ring.{placed, slotted}
use Rattle.pager_model.specs.Sets.{at_number}
use Rattle.pager_model.specs.Sound.{HasSwapped}
use Rattle.pager_rules.proofs.Basics.{at_number_other, at_number_same, count_cons_no, count_cons_yes, nat_eq_refl}
use Rattle.pager_rules.proofs.Frames.{at_state, from_state}
use Rattle.pager_rules.proofs.Pages.{own_process, swapped_move}
use Rattle.pager_rules.proofs.PlacedRing.{IsPlaced}
use Rattle.pager_rules.proofs.Put.{without_other, without_same}
use Rattle.pager_rules.proofs.Rings.{entries_add, placed_process, placed_there}
use Rattle.pager_rules.proofs.Transfers.{IsApart, alike, transfers_idle}
use Rattle.pager_rules.proofs.Views.{frames_move}
use Rattle.pager_rules.specs.Kept.{FitsFrame, FitsProcess, IsKept, views}

-- the frame, by the state that it comes back from
record IsRested (x : FrameView) : Type 0 where
  bad : x.bad ≡ false
  reads : x.reads ≡ 0
  writes : x.writes ≤ 1
  failed : x.failed ≡ false

rested : (x : FrameView) (s : FrameState) → may_come_back s ≡ true → FitsFrame (record x { state = s }) → IsRested x
rested x state.Bad may row = absurd (false≢true may)
rested x state.Reading may row = absurd (false≢true may)
rested x state.ReadError may row = absurd (false≢true may)
rested x state.Active may row = record { bad = row.bad; reads = row.reads; writes = row.writes; failed = row.failed }
rested x other may row = record { bad = row.bad; reads = row.reads; writes = omega (arith, row.writes); failed = row.failed }

module _ (config : Config) (past : List Entry) (a : Pager) (p address f : ℕ) (from : FrameState) (kept : IsKept config (quiet (open_flights past)) a) (idle : is_busy p (open_flights past) ≡ false) (legal : IsBack config a p address f from) where
  abbrev v : ℕ
  v = page_number address

  abbrev new : Ring
  new = placed (a.ring p) (a.limit p) v

  abbrev b : Pager
  b = after_back a p address f

  abbrev old : ℕ → FrameView
  old = frame_view config (quiet (open_flights past)) a

  was : IsRested (old f)
  was = rested (old f) from legal.may (at_state (old f) from legal.state (kept.frames f))

  here : FitsFrame (frame_view config (quiet (open_flights past)) b f)
  here = from_state (frame_view config (quiet (open_flights past)) b f) state.Active (at_number_same a.state f state.Active) (record {
    bad = was.bad;
    on_free = without_same a.free f;
    on_modified = without_same a.modified f;
    shares = omega (arith, count_cons_yes (λ (e : Valid). nat_eq e.frame f) (valid_at p v f) a.valid (nat_eq_refl f));
    reads = was.reads;
    writes = was.writes;
    failed = was.failed;
    page = (legal.page, legal.holds);
    mark = tt;
  })

  there : (g : ℕ) → (f ≡ g → ⊥) → frame_view config (quiet (open_flights past)) b g ≡ old g
  there g apart =
      let state_is = at_number_other a.state f state.Active g apart in
      let free_is = without_other a.free f g apart in
      let modified_is = without_other a.modified f g apart in
      let shares_is = count_cons_no (λ (e : Valid). nat_eq e.frame g) (valid_at p v f) a.valid (ne_eqb f g apart) in
      cc

  is_placed : IsPlaced (a.ring p) new v
  is_placed = placed_there (process_view config a p) v (kept.processes p) legal.below_limit

  process_there : (r : ℕ) → (p ≡ r → ⊥) → process_view config b r ≡ process_view config a r
  process_there r apart = let ring_is = at_number_other a.ring p new r apart in cc

  process_here : FitsProcess (process_view config b p)
  process_here = subst (λ (r : Ring). FitsProcess (record (process_view config a p) { ring = r })) (sym (at_number_same a.ring p new))
      (placed_process (process_view config a p) new v is_placed (λ gone. let resident = legal.own.resident in cc) (kept.processes p))

  swapped : HasSwapped a.lies a.status b.ring b.state b.page
  swapped = swapped_move a.lies a.status a.ring b.ring a.state b.state a.page b.page p f legal.own.resident
      (λ r apart. at_number_other a.ring p new r apart) (λ h apart. at_number_other a.state f state.Active h apart) (λ h apart. refl)
      (λ g r n holds lies own_g apart. let held = legal.holds in let same : legal.page ≡ g = cc in absurd (apart (own_process config a.map p v r g (legal.mapped ∙ ap Some same) own_g)))
      kept.swapped

  apart : IsApart (views config a) (views config b) p
  apart = record {
    not_leaving = λ leaving. let resident = legal.own.resident in cc;
    status = λ r. refl;
    process = process_there;
    entries = λ r w far. count_cons_no (is_entry r w) (valid_at p v f) a.valid (and_left _ _ (ne_eqb p r far));
    mapped = λ r w far. refl;
  }

  came_back : IsKept config (quiet (open_flights past)) b
  came_back = record {
    frames = frames_move FitsFrame old (frame_view config (quiet (open_flights past)) b) f there here kept.frames;
    processes = frames_move FitsProcess (process_view config a) (process_view config b) p process_there process_here kept.processes;
    entries = entries_add config a.map a.status a.ring a.valid p v f new is_placed (λ g coming own. let resident = legal.own.resident in absurd (cc)) legal.not_valid kept.entries;
    valid = ((legal.page, legal.mapped, legal.holds), kept.valid);
    pages = kept.pages;
    blocks = kept.blocks;
    fit = kept.fit;
    held_once = kept.held_once;
    held_charged = kept.held_charged;
    unsaved = kept.unsaved;
    swapped = swapped;
    coming_once = kept.coming_once;
    transfers = transfers_idle (views config a) (views config b) p apart (open_flights past) idle (λ y counts fits. (refl, λ g holds. alike _ _ _ refl)) kept.transfers;
    one_fault = kept.one_fault;
    failed = none_failed _ _;
  }

-- ---- of a coming process
came_home : (config : Config) (past : List Entry) (a : Pager) (p address f : ℕ) (from : FrameState) → IsKept config (quiet (open_flights past)) a → IsBackComing config a p address f from
    → IsKept config (quiet (open_flights past)) (after_back_coming a p address f)
came_home config past a p address f from kept legal =
    subst (λ (o : Option Page). IsKept config (quiet (open_flights past)) (home o (block_slot (lies_of a.lies o)))) (sym legal.holds)
    (subst (λ (o : Option BlockId). IsKept config (quiet (open_flights past)) (home (Some legal.page) (block_slot o))) (sym legal.lies) (
    came_in config a (open_flights past) (open_flights past) (without a.free f) p (page_number address) f legal.slot legal.page kept legal.coming legal.mapped legal.holds legal.lies
    (record {
      bad = row.bad;
      on_free = without_same a.free f;
      on_modified = row.on_modified;
      shares = row.shares;
      reads = row.reads;
      writes = row.writes;
      free_there = without_other a.free f;
      reads_there = λ h far. refl;
      writes_there = λ h far. refl;
    })
    kept.blocks kept.transfers kept.one_fault
    ))
  where
    row : FitsFrame (record (frame_view config (quiet (open_flights past)) a f) { state = state.Free })
    row = at_state (frame_view config (quiet (open_flights past)) a f) state.Free (legal.state ∙ legal.free) (kept.frames f)

    home : Option Page → ℕ → Pager
    home o n = record a {
      state = at_number a.state f state.Active;
      modify = at_number a.modify f true;
      free = without a.free f;
      ring = at_number a.ring p (slotted (a.ring p) n (page_number address));
      valid = valid_at p (page_number address) f ∷ a.valid;
      lies = lies_nowhere a.lies o;
    }

pub back_kept : (config : Config) (past : List Entry) (a : Pager) (seat : Seat) (q : Proc) (address : Addr) (f : Pfn) (from : FrameState) → IsKept config (quiet (open_flights past)) a → is_busy seat.0 (open_flights past) ≡ false → IsAnyBack config a seat.0 q.0 address.0 f.0 from
    → IsKept config (past_view (record { seat = seat; what = what.Back q address f from } ∷ past)) (after_any_back a (a.status q.0) q.0 address.0 f.0)
back_kept config past a seat q address f from before idle (inl legal) =
    subst (λ (s : ProcStatus). IsKept config (quiet (open_flights past)) (after_any_back a s q.0 address.0 f.0)) (sym legal.1.own.resident)
    (came_back config past a q.0 address.0 f.0 from before (subst (λ (p : ℕ). is_busy p (open_flights past) ≡ false) (sym legal.0) idle) legal.1)
back_kept config past a seat q address f from before idle (inr legal) =
    subst (λ (s : ProcStatus). IsKept config (quiet (open_flights past)) (after_any_back a s q.0 address.0 f.0)) (sym legal.coming)
    (came_home config past a q.0 address.0 f.0 from before legal)
