-- What makes a page valid, or gives it a frame, is legal; and the seat is ready for what follows.
use Rattle.std.proofs.Common.{◌≡◌, inl, ℕ, ◌+◌, ◌*◌, ◌<◌, ◌^◌, true, false, List, ◌∷◌, Some, None, length, find, refl, sym, ap, ◌∙◌, Option, subst, arith}
use Rattle.std.proofs.lemmas.Bool.{and_from, false≢true}
use Rattle.std.proofs.lemmas.Option.{none-some}
use Rattle.vm_types.specs.declared.limits.TheConstants.{PAGE_BYTES}
use Rattle.vm_types.specs.Ring.{filled}
use Rattle.vm_types.specs.declared.config.Config.{Config}
use Rattle.vm_types.specs.declared.config.Origin.TheVariants as origin
use Rattle.vm_types.specs.declared.names.FrameState.{FrameState}
use Rattle.vm_types.specs.declared.names.FrameState.TheVariants as state
use Rattle.vm_types.specs.declared.names.Page.{Page}
use Rattle.vm_types.specs.declared.names.Page.TheVariants.{Private}
use Rattle.vm_types.specs.declared.names.ProcStatus.{ProcStatus}
use Rattle.vm_types.specs.declared.names.ProcStatus.TheVariants as status
use Rattle.vm_text.specs.Named.{IsNamedPage}
use Rattle.vm_journal.specs.declared.entry.Entry.{Entry}
use Rattle.vm_journal.specs.declared.entry.What.{What}
use Rattle.vm_journal.specs.declared.entry.What.TheVariants as what
use Rattle.pager_model.specs.Around.{FrameView, frame_view, past_view}
use Rattle.pager_model.specs.Back.{after_any_back, may_come_back}
use Rattle.pager_model.specs.Changes.{valid_at}
use Rattle.pager_model.specs.Flights.{fails_read, is_busy, open_flights}
use Rattle.pager_model.specs.Forget.{holder}
use Rattle.pager_policy.specs.Given.{by_seat, page_address}
use Rattle.pager_model.specs.Maps.{pfn, Mapped, page_behind, page_number, proc}
use Rattle.pager_model.specs.Lookups.{IsHead, count_page, entries_at, entry_of, is_entry, page_at, page_by}
use Rattle.pager_model.specs.Own.{IsEmptyHead}
use Rattle.pager_model.specs.Pager.{Pager}
use Rattle.pager_model.specs.Run.{pager_after}
use Rattle.pager_model.specs.Step.{IsLegal, after}
use Rattle.pager_model.specs.Transfers.{is_read_on}
use Rattle.pager_model.specs.Zero.{IsDemandZero, is_zero_origin, zeroed_page}
use Rattle.pager_rules.proofs.Basics.{count_from_no_find, find_cons_yes, nat_eq_refl, no_failed_read}
use Rattle.pager_rules.proofs.Frames.{at_state}
use Rattle.pager_rules.proofs.Put.{head_counts}
use Rattle.pager_rules.specs.Kept.{FitsFrame}
use Rattle.pager_laws.proofs.Holders.{free_is, holder_holds}
use Rattle.call_laws.proofs.HaveNames.{page_named}
use Rattle.call_laws.specs.Ready.{IsReady}
use Rattle.call_laws.proofs.FreeTurn.{free_turn, page_starts, same_number}
use Rattle.call_laws.proofs.WaitsLegal.{frame_small, held_small, kept, mapped_small, right, seat_small}

-- the seat's process stays ready for the next entry, if this one begins no transfer and fails no read
pub ready_after : (config : Config) (past : List Entry) (p : ℕ) (w : What) → IsReady config past p → IsLegal config past (pager_after config past) (by_seat p w)
    → length past + 1 < 2 ^ 63 → open_flights (by_seat p w ∷ past) ≡ open_flights past → fails_read w ≡ false → (after config past (pager_after config past) (by_seat p w)).status p ≡ status.Resident
    → IsReady config (by_seat p w ∷ past) p
ready_after config past p w ready legal few flights reads resident = record {
  formed = ready.formed;
  run = (ready.run, legal);
  few = omega (arith, few);
  free = record { idle = ap (is_busy p) flights ∙ ready.free.idle; calm = reads };
  own = record { process = ready.own.process; resident = resident };
}

-- ---- a frame that holds a page and isn't being read may come back
module _ (x : FrameView) (g : Page) (fits : FitsFrame x) (holds : x.page ≡ Some g) (unread : x.reads ≡ 0) (whole : x.failed ≡ false) where
  pub comes_back : may_come_back x.state ≡ true
  comes_back = go x.state refl
    where
      go : (s : FrameState) → x.state ≡ s → may_come_back s ≡ true
      go state.Bad is = absurd (none-some g (sym (at_state x state.Bad is fits).page ∙ holds))
      go state.Reading is = absurd (let one = (at_state x state.Reading is fits).reads in omega (arith, one, unread))
      go state.ReadError is = absurd (false≢true (sym whole ∙ (at_state x state.ReadError is fits).failed))
      go state.Free is = refl
      go state.Modified is = refl
      go state.ReleasePending is = refl
      go state.Writing is = refl
      go state.Active is = refl

module _ (config : Config) (past : List Entry) (p : ℕ) (ready : IsReady config past p) where
  abbrev a : Pager
  a = pager_after config past

  -- ---- BACK
  pub back_legal : (v f : ℕ) (g : Page) → page_by config a.map p v ≡ Some g → entry_of a.valid p v ≡ None → holder config a.page g ≡ Some f → find (is_read_on f) (open_flights past) ≡ None → filled (a.ring p).slots < a.limit p
      → IsLegal config past a (by_seat p (what.Back (proc p) (page_address v) (pfn f) (a.state f)))
  back_legal v f g mapped invalid holds unread below = record {
    in_turn = free_turn config past p _ ready.free;
    line = record { seat = seat_small config past p ready; what = ((ready.own.process, page_starts v (mapped_small config past p ready v g mapped)), held_small config past p ready f g held) };
    row = inl (
      refl,
      record {
        own = ready.own;
        page = g;
        mapped = ap (page_by config a.map p) (same_number v) ∙ mapped;
        holds = held;
        not_valid = ap (entries_at a.valid p) (same_number v) ∙ count_from_no_find (is_entry p v) a.valid invalid;
        state = refl;
        may = comes_back (frame_view config (past_view past) a f) g ((kept config past p ready).frames f) held (count_from_no_find (is_read_on f) (open_flights past) unread) (no_failed_read past f ready.free.calm);
        below_limit = below;
      },
    );
  }
    where
      held : a.page f ≡ Some g
      held = holder_holds config a.page g f holds

  pub back_ready : (v f : ℕ) → IsLegal config past a (by_seat p (what.Back (proc p) (page_address v) (pfn f) (a.state f))) → length past + 1 < 2 ^ 63 → IsReady config (by_seat p (what.Back (proc p) (page_address v) (pfn f) (a.state f)) ∷ past) p
  back_ready v f legal few = ready_after config past p _ ready legal few refl refl (by (a.status p) ready.own.resident)
    where
      by : (s : ProcStatus) → s ≡ status.Resident → (after_any_back a s p (PAGE_BYTES * v) f).status p ≡ status.Resident
      by status.Resident is = ready.own.resident
      by status.Leaving is = absurd (cc)
      by status.Gone is = absurd (cc)
      by status.Coming is = absurd (cc)

  -- its entry is valid then
  pub back_valid : (v f : ℕ) → entry_of (pager_after config (by_seat p (what.Back (proc p) (page_address v) (pfn f) (a.state f)) ∷ past)).valid p v ≡ Some (valid_at p v f)
  back_valid v f = by (a.status p)
    where
      first : entry_of (valid_at p (page_number (PAGE_BYTES * v)) f ∷ a.valid) p v ≡ Some (valid_at p v f)
      first = subst (λ (w : ℕ). entry_of (valid_at p w f ∷ a.valid) p v ≡ Some (valid_at p v f)) (sym (same_number v)) (find_cons_yes (is_entry p v) (valid_at p v f) a.valid (and_from _ _ (nat_eq_refl p) (nat_eq_refl v)))

      by : (s : ProcStatus) → entry_of (after_any_back a s p (PAGE_BYTES * v) f).valid p v ≡ Some (valid_at p v f)
      by status.Resident = first
      by status.Leaving = first
      by status.Gone = first
      by status.Coming = first

  -- ---- REUSE of the free list's head
  named : (g : Page) (f : ℕ) → a.page f ≡ Some g → IsNamedPage (length config.procs) config.sections g
  named g f holds = page_named config ready.formed g ((right config past p ready).held f g holds)

  pub reuse_legal : (f : ℕ) (g : Page) → IsHead a.free f → a.page f ≡ Some g → IsLegal config past a (by_seat p (what.Reuse (pfn f) g))
  reuse_legal f g head holds = record {
    in_turn = free_turn config past p _ ready.free;
    line = record { seat = seat_small config past p ready; what = (held_small config past p ready f g holds, named g f holds) };
    row = inl (record { head = head; holds = holds });
  }

  pub reuse_ready : (f : ℕ) (g : Page) → IsLegal config past a (by_seat p (what.Reuse (pfn f) g)) → length past + 1 < 2 ^ 63 → IsReady config (by_seat p (what.Reuse (pfn f) g) ∷ past) p
  reuse_ready f g legal few = ready_after config past p _ ready legal few refl refl ready.own.resident

  -- ---- ZERO
  pub zero_legal : (v f : ℕ) (m : Mapped) → a.map p v ≡ Some m → is_zero_origin config m.origin ≡ true → count_page a.charged (page_behind config p v m.origin) ≡ 0 → length a.charged < config.pagefile → filled (a.ring p).slots < a.limit p → IsEmptyHead a f
      → IsLegal config past a (by_seat p (what.Zero (page_address v) (pfn f)))
  zero_legal v f m mapped zero uncharged room below empty = record {
    in_turn = free_turn config past p _ ready.free;
    line = record { seat = seat_small config past p ready; what = (page_starts v small, free_small f empty.head) };
    row = record {
      own = ready.own;
      demand_zero = subst (λ (w : ℕ). IsDemandZero config (a.map p w)) (sym (same_number v)) (subst (IsDemandZero config) (sym mapped) zero);
      not_charged = ap (λ (w : ℕ). count_page a.charged (zeroed_page config p w (a.map p w))) (same_number v) ∙ (ap (λ (o : Option Mapped). count_page a.charged (zeroed_page config p v o)) mapped ∙ uncharged);
      room = room;
      below_limit = below;
      frame = empty;
    };
  }
    where
      small : v < 2 ^ 23
      small = mapped_small config past p ready v (page_behind config p v m.origin) (ap (page_at config p v) mapped)

      free_small : (f : ℕ) → IsHead a.free f → f < 2 ^ 32
      free_small f head = frame_small config past p ready f (free_is config past a f (kept config past p ready) (head_counts a.free f head)).within

  pub zero_ready : (v f : ℕ) → IsLegal config past a (by_seat p (what.Zero (page_address v) (pfn f))) → length past + 1 < 2 ^ 63 → IsReady config (by_seat p (what.Zero (page_address v) (pfn f)) ∷ past) p
  zero_ready v f legal few = ready_after config past p _ ready legal few refl refl ready.own.resident

  pub zero_valid : (v f : ℕ) → entry_of (pager_after config (by_seat p (what.Zero (page_address v) (pfn f)) ∷ past)).valid p v ≡ Some (valid_at p v f)
  zero_valid v f = subst (λ (w : ℕ). entry_of (valid_at p w f ∷ a.valid) p v ≡ Some (valid_at p v f)) (sym (same_number v)) (find_cons_yes (is_entry p v) (valid_at p v f) a.valid (and_from _ _ (nat_eq_refl p) (nat_eq_refl v)))
