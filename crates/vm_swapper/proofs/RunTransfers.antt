-- The writes and the reads of a run, one after another.
use Rattle.std.proofs.Common.{◌≡◌, ℕ, ◌+◌, ◌*◌, ◌<◌, ◌≤◌, List, [], ◌∷◌, ◌++◌, drop, get_or, length, map, subst, arith}
use Rattle.std.proofs.lemmas.List.{drop_all, drop_more}
use Rattle.vm_types.specs.BlockView.{BlockView, Tells}
use Rattle.vm_types.specs.Configuration.{IsWellFormed}
use Rattle.vm_types.specs.declared.names.BlockId.TheVariants as block
use Rattle.vm_types.specs.declared.names.Seat.{Seat}
use Rattle.vm_journal.specs.declared.entry.Role.TheVariants as role
use Rattle.vm_journal.specs.declared.entry.What.{What}
use Rattle.pager_policy.specs.Given.{Target, reads_made}
use Rattle.pager_model.specs.Maps.{proc}
use Rattle.pager_model.specs.Run.{IsRun}
use Rattle.call_laws.specs.AreLegal.{AreLegal}
use Rattle.call_begins.specs.Lifted.{HasBegunLifts, HasLifts, place_of, places_in}
use Rattle.call_begins.specs.OneRead.{one_read}
use Rattle.lift_carriers.specs.CarrierView.{CarrierView}
use Rattle.vm_state.specs.History.{History, owed, pager}
use Rattle.vm_state.specs.LiftsLand.{added_each}
use Rattle.vm_swapper.specs.Runs.{reads_from, writes_from}
use Rattle.call_begins.proofs.ReadsLeft.{IsReading, may_one, next_read, read_all}

module _ {B : Type 0} (seen : B → BlockView) (tells : Tells) (s₀ : History) (seat : Seat) (p : ℕ) where
  -- so many writes were begun, and these are left, from this slot on
  pub record IsWriting (all : List What) (frames : List ℕ) (slot i : ℕ) (s : History) (c : CarrierView B) : Type 0 where
    pub legal : AreLegal s.config s.past seat.0 (writes_from p slot frames)
    pub history : added_each seat (writes_from p slot frames) s ≡ added_each seat all s₀
    pub places : map place_of c.lifts ++ places_in (writes_from p slot frames) ≡ places_in all
    pub begun : HasBegunLifts seen tells s seat c
    pub few : length c.lifts ≡ i
    pub paid : owed s.past + 64 ≤ s.spare + 3 * i

  -- the same of reads
  pub record IsReadingFrom (all : List What) (addresses : List ℕ) (slot i : ℕ) (s : History) (c : CarrierView B) : Type 0 where
    pub reading : IsReading (pager s₀).page (added_each seat all s₀) all seat (reads_from p slot addresses) s c
    pub begun : HasBegunLifts seen tells s seat c
    pub few : length c.lifts ≤ i
    pub paid : owed s.past + 64 ≤ s.spare + 4 * i

-- all the reads of a run
abbrev pub all_reads : History → ℕ → ℕ → List ℕ → List What
all_reads s p n addresses = reads_made (pager s).page (pager s).free (reads_from p n addresses)

module _ {B : Type 0} {seen : B → BlockView} {tells : Tells} (s₀ : History) (seat : Seat) (p : ℕ) where
  module _ (all : List What) (address : ℕ) (rest : List ℕ) (slot i : ℕ) (s : History) (c : CarrierView B) (is : IsReadingFrom seen tells s₀ seat p all (address ∷ rest) slot i s c) where
    abbrev target : Target
    target = record { block = block.Swap (proc p) slot; role = role.Come (proc p) (record { 0 = address }) }

    pub may_read : AreLegal s.config s.past seat.0 (one_read s (block.Swap (proc p) slot) (role.Come (proc p) (record { 0 = address })))
    may_read = may_one (pager s₀).page (added_each seat all s₀) all seat target (reads_from p (slot + 1) rest) s c is.reading

    pub reading_next : (s' : History) (c' : CarrierView B) → IsWellFormed s.config → IsRun s.config s.past → s' ≡ added_each seat (one_read s (block.Swap (proc p) slot) (role.Come (proc p) (record { 0 = address }))) s
        → HasBegunLifts seen tells s' seat c' → map place_of c'.lifts ≡ map place_of c.lifts ++ places_in (one_read s (block.Swap (proc p) slot) (role.Come (proc p) (record { 0 = address })))
        → length c'.lifts ≤ length c.lifts + 1 → owed s'.past + s.spare ≤ owed s.past + s'.spare + 4
        → IsReadingFrom seen tells s₀ seat p all rest (slot + 1) (i + 1) s' c'
    reading_next s' c' formed run made begun each few paid = record {
      reading = next_read (pager s₀).page (added_each seat all s₀) all seat target (reads_from p (slot + 1) rest) s s' c c' is.reading made each formed run;
      begun = begun;
      few = let so_far = is.few in omega (arith, so_far, few);
      paid = let so_far = is.paid in omega (arith, so_far, paid);
    }

  module _ (all : List What) (slot i : ℕ) (s : History) (c : CarrierView B) (is : IsReadingFrom seen tells s₀ seat p all [] slot i s c) where
    pub all_are_read : s ≡ added_each seat all s₀
    all_are_read = (read_all (pager s₀).page (added_each seat all s₀) all seat s c is.reading).0

    pub lifts_read : HasLifts seen tells s seat all c
    lifts_read = record { own = is.begun.own; each = (read_all (pager s₀).page (added_each seat all s₀) all seat s c is.reading).1; begun = is.begun.begun }

  -- by a list and a place in it
  module _ (all : List What) (addresses : List ℕ) (slot i : ℕ) (s : History) (c : CarrierView B) (is : IsReadingFrom seen tells s₀ seat p all (drop i addresses) slot i s c) where
    pub reading_now : i < length addresses → IsReadingFrom seen tells s₀ seat p all (get_or addresses i 0 ∷ drop (i + 1) addresses) slot i s c
    reading_now less = subst (λ (xs : List ℕ). IsReadingFrom seen tells s₀ seat p all xs slot i s c) (drop_more addresses i 0 less) is

    pub reading_end : length addresses ≤ i → IsReadingFrom seen tells s₀ seat p all [] slot i s c
    reading_end most = subst (λ (xs : List ℕ). IsReadingFrom seen tells s₀ seat p all xs slot i s c) (drop_all i addresses most) is
