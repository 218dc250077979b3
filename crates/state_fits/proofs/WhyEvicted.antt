-- For each reason of an eviction the page's slot is emptied.
use Rattle.std.proofs.Common.{◌≡◌, ℕ, zero, suc, List, [], ◌∷◌, Option, Some, None, slice_get, slice_index_or, slice_set, refl, ap, ◌∙◌}
use Rattle.vm_types.specs.Ring.{Held, is_pinned_slot}
use Rattle.vm_types.specs.declared.config.Config.{Config}
use Rattle.vm_types.specs.declared.names.FrameState.{FrameState}
use Rattle.vm_types.specs.declared.ring_choice.Choice.{Choice}
use Rattle.vm_journal.specs.declared.entry.Entry.{Entry}
use Rattle.vm_journal.specs.declared.entry.EvictWhy.{EvictWhy}
use Rattle.vm_journal.specs.declared.entry.EvictWhy.TheVariants as evict
use Rattle.pager_laws.proofs.EvictKept.{in_its_slot}
use Rattle.pager_model.specs.Around.{quiet}
use Rattle.pager_model.specs.Evict.{IsEvict, IsEvicted, IsTaken, evicted_ring, victim_of}
use Rattle.pager_model.specs.Flights.{open_flights}
use Rattle.pager_model.specs.Lookups.{slot_with}
use Rattle.pager_model.specs.Maps.{page_number}
use Rattle.pager_model.specs.Pager.{Pager}
use Rattle.pager_rules.specs.Kept.{IsKept}
use Rattle.working_set.specs.Slots.{pin_at}
use Rattle.state_parts.specs.Victim.{slot_given}

-- what is read of a slot
read_slot : (slots : List (Option Held)) (n : ℕ) (slot d : Option Held) → slice_get slots n ≡ Some slot → slice_index_or slots n d ≡ slot
read_slot [] n slot d is = absurd cc
read_slot (x ∷ slots) zero slot d is = cc
read_slot (x ∷ slots) (suc n) slot d is = read_slot slots n slot d is

-- the page's slot, and the ring without it
pub record IsGivenUp (past : List Entry) (a : Pager) (why : EvictWhy) (p v f : ℕ) (to : FrameState) : Type 0 where
  pub slot : ℕ
  pub given : slot_given why (a.ring p) (a.limit p) v ≡ slot
  pub evicted : IsEvicted past a p v f slot to
  pub emptied : (evicted_ring why (a.ring p) (a.limit p) v).slots ≡ slice_set (a.ring p).slots slot None

module _ (config : Config) (past : List Entry) (a : Pager) (p address f : ℕ) (to : FrameState) (kept : IsKept config (quiet (open_flights past)) a) where
  abbrev in_slot : IsTaken past a p (page_number address) f to → IsEvicted past a p (page_number address) f (slot_with (a.ring p) (page_number address)) to
  in_slot taken = in_its_slot config past a p (page_number address) f to kept taken

  pub given_up : (seat : ℕ) (why : EvictWhy) → IsEvict why config past a seat p address f to → IsGivenUp past a why p (page_number address) f to
  given_up seat evict.Replace legal = record {
    slot = legal.1.slot;
    given = ap victim_of legal.1.chosen;
    evicted = legal.1.evicted;
    emptied = ap (λ (c : Choice). slice_set (a.ring p).slots (victim_of c) None) legal.1.chosen;
  }
  given_up seat evict.Purge legal = record { slot = slot_with (a.ring p) (page_number address); given = refl; evicted = in_slot legal.1.taken; emptied = refl }
  given_up seat evict.Delete legal = record { slot = slot_with (a.ring p) (page_number address); given = refl; evicted = in_slot legal.1.taken; emptied = refl }
  given_up seat evict.Leave legal = record { slot = slot_with (a.ring p) (page_number address); given = refl; evicted = in_slot legal.taken; emptied = refl }
  given_up seat evict.Rundown legal = record { slot = slot_with (a.ring p) (page_number address); given = refl; evicted = in_slot legal.taken; emptied = refl }

-- whether the page was pinned there
pub pin_given : (past : List Entry) (a : Pager) (why : EvictWhy) (p v f : ℕ) (to : FrameState) → (gone : IsGivenUp past a why p v f to) → pin_at (a.ring p) (slot_given why (a.ring p) (a.limit p) v) ≡ (gone.evicted.held).pinned
pin_given past a why p v f to gone = ap (λ (n : ℕ). pin_at (a.ring p) n) gone.given ∙ ap is_pinned_slot (read_slot (a.ring p).slots gone.slot (Some gone.evicted.held) None gone.evicted.holds)
