-- What the row of a frame shows.
use Rattle.std.proofs.Common.{◌≡◌, ℕ, refl}
use Rattle.pager_model.specs.Evict.{evicted_to}
use Rattle.pager_policy.specs.Given.{goes_to}
use Rattle.state_fits.specs.Frames.{frame_row}
use Rattle.vm_state.specs.History.{History, pager}
use Rattle.vm_state.specs.Readings.{row_at}

-- where a frame goes, by its row
pub row_goes : (s : History) (f : ℕ) → evicted_to (row_at s f).shares (row_at s f).flights (row_at s f).modify ≡ goes_to s.past (pager s) f
unfolding frame_row
row_goes s f = refl

pub row_state : (s : History) (f : ℕ) → (row_at s f).state ≡ (pager s).state f
unfolding frame_row
row_state s f = refl

pub row_page : (s : History) (f : ℕ) → (row_at s f).page ≡ (pager s).page f
unfolding frame_row
row_page s f = refl
