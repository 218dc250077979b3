-- OUTFAIL: the mark is set, then the write lands.
use Rattle.pager_rules.proofs.Quiet.{none_failed}
use Rattle.std.proofs.Common.{◌≡◌, ℕ, ◌<◌, Bool, true, not, List, ◌∷◌, find, refl, sym, ap, subst, inr, arith}
use Rattle.std.proofs.lemmas.Bool.{and_from, eq-eqb, or_left}
use Rattle.vm_types.specs.declared.names.Pfn.{Pfn}
use Rattle.vm_types.specs.declared.names.Seat.{Seat}
use Rattle.vm_types.specs.declared.names.FrameState.{FrameState}
use Rattle.vm_types.specs.declared.names.FrameState.TheVariants as state
use Rattle.vm_types.specs.declared.config.Config.{Config}
use Rattle.vm_journal.specs.declared.entry.Entry.{Entry}
use Rattle.vm_journal.specs.declared.entry.What.TheVariants as what
use Rattle.pager_laws.proofs.OutOkKept.{write_landed}
use Rattle.pager_model.specs.Around.{FrameView, frame_view, past_view, quiet}
use Rattle.pager_model.specs.Flights.{Direction, Flight, is_reading, open_flights}
use Rattle.pager_model.specs.OutLanding.{IsOutFail, after_out_fail, marked}
use Rattle.pager_model.specs.Pager.{Pager}
use Rattle.pager_model.specs.Transfers.{is_write_on, starts, writes_on}
use Rattle.pager_rules.proofs.Basics.{at_number_other, at_number_same}
use Rattle.pager_rules.proofs.Frames.{at_state}
use Rattle.pager_rules.proofs.Lists.{count_found}
use Rattle.pager_rules.proofs.Put.{unsaved_move}
use Rattle.pager_rules.proofs.Views.{frames_move}
use Rattle.pager_rules.specs.Kept.{FitsFrame, HasMark, IsKept}

-- a frame that is written may have its mark set
marked_frame : (x : FrameView) → FitsFrame x → 0 < x.writes → FitsFrame (record x { modify = true })
marked_frame x fits some = record { bad = fits.bad; on_free = fits.on_free; on_modified = fits.on_modified; shares = fits.shares; reads = fits.reads; writes = fits.writes; failed = fits.failed; page = fits.page; mark = go x.state refl }
  where
    go : (s : FrameState) → x.state ≡ s → HasMark x.state true
    go state.Free e = absurd (omega (arith, (at_state x state.Free e fits).writes))
    go state.Reading e = absurd (omega (arith, (at_state x state.Reading e fits).writes))
    go state.ReadError e = absurd (omega (arith, (at_state x state.ReadError e fits).writes))
    go state.Modified e = subst (λ (s : FrameState). HasMark s true) (sym e) refl
    go state.Active e = subst (λ (s : FrameState). HasMark s true) (sym e) tt
    go state.Bad e = subst (λ (s : FrameState). HasMark s true) (sym e) tt
    go state.Writing e = subst (λ (s : FrameState). HasMark s true) (sym e) tt
    go state.ReleasePending e = subst (λ (s : FrameState). HasMark s true) (sym e) tt

marked_kept : (config : Config) (flights : List Flight) (a : Pager) (f : ℕ) → IsKept config (quiet flights) a → 0 < writes_on f flights → IsKept config (quiet flights) (marked a f)
marked_kept config flights a f kept some = record {
  frames = frames_move FitsFrame old now f there (subst (λ (m : Bool). FitsFrame (record (old f) { modify = m })) (sym (at_number_same a.modify f true)) (marked_frame (old f) (kept.frames f) some)) kept.frames;
  processes = kept.processes;
  entries = kept.entries;
  valid = kept.valid;
  pages = kept.pages;
  blocks = kept.blocks;
  fit = kept.fit;
  held_once = kept.held_once;
  held_charged = kept.held_charged;
  unsaved = unsaved_move config (quiet flights) (quiet flights) a (marked a f) f there (λ g charged lies. inr (charged, lies, λ holds saved. (f, holds, or_left _ _ (at_number_same a.modify f true)))) kept.unsaved;
  swapped = kept.swapped;
  coming_once = kept.coming_once;
  transfers = kept.transfers;
  one_fault = kept.one_fault;
  failed = none_failed _ _;
}
  where
    old : ℕ → FrameView
    old = frame_view config (quiet flights) a

    now : ℕ → FrameView
    now = frame_view config (quiet flights) (marked a f)

    there : (g : ℕ) → (f ≡ g → ⊥) → now g ≡ old g
    there g apart = let modify_is = at_number_other a.modify f true g apart in cc

pub out_fail_kept : (config : Config) (past : List Entry) (a : Pager) (seat : Seat) (f : Pfn) (k c d : ℕ) → IsKept config (quiet (open_flights past)) a → IsOutFail past seat.0 f.0 k c d
    → IsKept config (past_view (record { seat = seat; what = what.OutFail f k c d } ∷ past)) (after_out_fail a f.0 (find (starts k) (open_flights past)))
out_fail_kept config past a seat f k c d before legal =
    write_landed config past (marked a f.0) seat f k
    (marked_kept config (open_flights past) a f.0 before
    (count_found (is_write_on f.0) (starts k) (open_flights past) legal.write.flight legal.write.lands.open_k (and_from _ _ (eq-eqb _ _ legal.write.lands.frame) (ap (λ (d : Direction). not (is_reading d)) legal.write.writes)))) legal.write
