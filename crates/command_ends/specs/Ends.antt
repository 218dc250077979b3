-- How a text is written with its status: whole, or cut with status 4. Source: this project's own.
use Rattle.std.specs.Prelude.{◌≡◌, ◌⊎◌, ℕ, ◌<◌, ◌≤◌, List, length, take, is_some}
use Rattle.std.specs.Io.KnownBytes.{Appends}
use Rattle.vm_types.specs.Counts.{Rose}
use Rattle.outside_io.specs.Views.{SinkView}

-- with the status the sink took the whole text and no count changed, with status 4 it took a proper
-- prefix of it, and one of its counts rose
pub record Ends (before after : SinkView) (status : ℕ) (text : List ℕ) (result : ℕ) : Type 0 where
  pub how : ((result ≡ status) × Appends before.taken after.taken text × (after.failures ≡ before.failures) × (after.stalls ≡ before.stalls))
      ⊎ ((result ≡ 4) × ((n : ℕ) × (n < length text) × Appends before.taken after.taken (take n text)) × (Rose before.failures after.failures ⊎ Rose before.stalls after.stalls))
  pub known : is_some after.taken ≡ is_some before.taken
  pub failures_later : before.failures ≤ after.failures
  pub stalls_later : before.stalls ≤ after.stalls
