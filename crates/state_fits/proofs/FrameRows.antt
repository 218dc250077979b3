-- A frame's row by what it stands for.
use Rattle.std.proofs.Common.{◌≡◌, ℕ, ◌+◌, ◌-◌, Bool, List, Option, refl, ◌∙◌, arith}
use Rattle.vm_types.specs.Ring.{Ring}
use Rattle.vm_types.specs.declared.names.FrameState.{FrameState}
use Rattle.vm_types.specs.declared.names.Page.{Page}
use Rattle.pfn_database.specs.Frames.{Frames, row_of}
use Rattle.pager_model.specs.Flights.{Flight}
use Rattle.pager_model.specs.Lookups.{shares}
use Rattle.pager_model.specs.Pager.{Valid}
use Rattle.pager_model.specs.Transfers.{reads_on, writes_on}
use Rattle.state_fits.specs.Frames.{FramesFit, frame_pins, frame_row, row_by, slot_for}

-- what is over what is counted
pub over_pins : (counted pins : ℕ) → (counted + pins) - counted ≡ pins
over_pins counted pins = omega arith

module _ (state_of : ℕ → FrameState) (page : ℕ → Option Page) (modify : ℕ → Bool) (valid : List Valid) (ring : ℕ → Ring) (flights : List Flight) where
  pub row_is : (f : ℕ) → frame_row state_of page modify valid ring flights f ≡ row_by (state_of f) (page f) (modify f) (shares valid f) (reads_on f flights + writes_on f flights) (slot_for ring (page f)) (frame_pins valid ring f)
  unfolding frame_row
  row_is f = refl

  -- the row that was read
  pub row_read : (n : ℕ) (free modified : List ℕ) (pfns : Frames) (f : ℕ) → FramesFit (frame_row state_of page modify valid ring flights) n free modified pfns
      → row_of pfns f ≡ row_by (state_of f) (page f) (modify f) (shares valid f) (reads_on f flights + writes_on f flights) (slot_for ring (page f)) (frame_pins valid ring f)
  row_read n free modified pfns f fit = fit.rows f ∙ row_is f

  -- nothing that the row shows has changed
  pub row_stays : (state_of' : ℕ → FrameState) (page' : ℕ → Option Page) (modify' : ℕ → Bool) (valid' : List Valid) (ring' : ℕ → Ring) (f : ℕ)
      → state_of' f ≡ state_of f → page' f ≡ page f → modify' f ≡ modify f → shares valid' f ≡ shares valid f → slot_for ring' (page' f) ≡ slot_for ring (page f) → frame_pins valid' ring' f ≡ frame_pins valid ring f
      → frame_row state_of' page' modify' valid' ring' flights f ≡ frame_row state_of page modify valid ring flights f
  unfolding frame_row
  row_stays state_of' page' modify' valid' ring' f s g m n k pins = λ i. row_by (s i) (g i) (m i) (n i) (reads_on f flights + writes_on f flights) (k i) (pins i)
