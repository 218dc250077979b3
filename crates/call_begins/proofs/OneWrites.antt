-- One write: what it leaves of the carrier.
use Rattle.std.proofs.Common.{◌≡◌, ℕ, false, List, [], ◌∷◌, ◌++◌, map, refl, sym, ap, ◌∙◌, subst}
use Rattle.std.proofs.lemmas.List.{map-append}
use Rattle.vm_types.specs.BlockView.{BlockView, Tells}
use Rattle.vm_types.specs.Configuration.{IsWellFormed}
use Rattle.vm_types.specs.declared.names.BlockId.{BlockId}
use Rattle.vm_types.specs.declared.names.Pfn.{Pfn}
use Rattle.vm_types.specs.declared.names.Seat.{Seat}
use Rattle.vm_journal.specs.declared.entry.What.TheVariants as what
use Rattle.pager_model.specs.Run.{IsRun}
use Rattle.frame_store.specs.LiftView.{LiftView}
use Rattle.lift_carriers.specs.CarrierView.{CarrierView, taking}
use Rattle.vm_state.specs.History.{History, MayAdd, added, entry_by}
use Rattle.vm_state.specs.LiftsBegin.{HasBegun}
use Rattle.call_begins.specs.Lifted.{HasBegunLifts, IsBegun, place_of}
use Rattle.call_begins.proofs.OneReads.{all_and_one, later}

module _ {B : Type 0} {seen : B → BlockView} {tells : Tells} (s s' : History) (seat : Seat) (f : Pfn) (b : BlockId) (c c' : CarrierView B) (lift : LiftView B)
    (made : s' ≡ added s (entry_by seat (what.Out f b))) (began : HasBegun seen tells s seat (what.Out f b) f.0 b false lift) (taken : c' ≡ taking c lift) where
  pub has_taken : IsWellFormed s.config → IsRun s.config s.past → MayAdd s (entry_by seat (what.Out f b)) → HasBegunLifts seen tells s seat c → HasBegunLifts seen tells s' seat c'
  has_taken formed run may has =
      let old : HasBegunLifts seen tells s' seat c = subst (λ (x : History). HasBegunLifts seen tells x seat c) (sym made) (later s (entry_by seat (what.Out f b)) seat c formed (run, may.legal) (λ k. refl) has) in
      subst (λ (x : CarrierView B). HasBegunLifts seen tells s' seat x) (sym taken) (record {
        own = old.own;
        begun = all_and_one (IsBegun seen tells s' seat) c.lifts lift old.begun (subst (λ (x : History). IsBegun seen tells x seat lift) (sym made) (record {
          seat_is = ap (λ (x : LiftView B). x.seat) began.begins;
          pool_is = ap (λ (x : LiftView B). x.pool) began.begins;
          waits = ap (λ (x : LiftView B). x.result) began.begins;
          fits = began.fits;
        }));
      })

  pub has_each : map place_of c'.lifts ≡ map place_of c.lifts ++ (f.0, b) ∷ []
  has_each =
      ap (λ (x : CarrierView B). map place_of x.lifts) taken
      ∙ (map-append place_of c.lifts (lift ∷ []) ∙ ap (λ (xs : List (ℕ × BlockId)). map place_of c.lifts ++ xs) (λ i. ((began.begins i).frame, (began.begins i).block) ∷ []))
