-- What is seen in a slot, by what the slot and its frame show.
use Rattle.std.proofs.Common.{◌≡◌, ℕ, ◌^◌, ◌<◌, ◌+◌, ◌&&◌, Bool, true, false, not, inl, inr, List, Option, Some, None, length, nat_eq, nat_lt, slice_get, refl, sym, ap, ◌∙◌, subst, arith}
use Rattle.std.proofs.lemmas.Bool.{ltb-false, ltb-true, ne_eqb}
use Rattle.std.proofs.lemmas.Option.{none-some, same_Some}
use Rattle.vm_types.specs.Configuration.{IsWellFormed}
use Rattle.vm_types.specs.Ring.{Held}
use Rattle.vm_types.specs.declared.config.Config.{Config}
use Rattle.vm_types.specs.declared.config.ProcSpec.{ProcSpec}
use Rattle.vm_types.specs.declared.names.Page.{Page}
use Rattle.vm_journal.specs.declared.entry.Entry.{Entry}
use Rattle.pfn_database.specs.declared.row.Row.{Row}
use Rattle.pager_policy.specs.Given.{Seen as Shown, seen_at, seen_by, seen_in, seen_page}
use Rattle.pager_model.specs.Flights.{open_flights}
use Rattle.pager_model.specs.Lookups.{entry_of, page_by, slot_of}
use Rattle.pager_model.specs.OfConfig.{IsMappable, IsOfConfig}
use Rattle.pager_model.specs.Pager.{Pager, Valid}
use Rattle.pager_model.specs.Run.{IsRun, pager_after}
use Rattle.pager_policy.specs.Swap.{is_still}
use Rattle.pager_model.specs.Transfers.{reads_on, writes_on}
use Rattle.pager_laws.proofs.OfConfigKept.{run_right}
use Rattle.pager_laws.proofs.RunsAreSound.{run_kept}
use Rattle.pager_laws.proofs.EntryPages.{mapped_right}
use Rattle.pager_laws.proofs.ValidEntries.{IsValidAt, valid_at_page}
use Rattle.state_fits.specs.Frames.{frame_row}
use Rattle.vm_state.specs.History.{History, pager}
use Rattle.vm_state.specs.ProcessReadings.{slot_by, slot_in, slot_with}
use Rattle.vm_state.specs.Readings.{row_at}
use Rattle.state_pages.specs.declared.found.Slot.{Slot}
use Rattle.call_begins.proofs.Slots.{IsSlotOf, slot_entry}

-- the page of a frame, as it is seen in a slot
abbrev pub shown_in : Slot → Option Page → Option Shown
shown_in x None = None
shown_in x (Some g) = Some (record { vpn = x.vpn; frame = (x.frame).0; page = g; pinned = x.pinned })

-- the number of a page that a process has is small
pub page_small : (config : Config) (a : Pager) (p v : ℕ) (g : Page) → IsOfConfig config a → page_by config a.map p v ≡ Some g → v < 2 ^ 23
page_small config a p v g right mapped = by (mapped_right config a p v g right mapped).3.page
  where
    by : IsMappable v → v < 2 ^ 23
    by (inl less) = omega (arith, less)
    by (inr most) = let below = most.1 in omega (arith, below)

shown : (a : Pager) (p : ℕ) (x : Slot) (o : Option Held) → Some x ≡ slot_with a.valid p o → seen_in a p o ≡ shown_in x (a.page (x.frame).0)
shown a p x None is = absurd (none-some x (sym is))
shown a p x (Some held) is = by (entry_of a.valid p held.vpn) is
  where
    by : (o : Option Valid) → Some x ≡ slot_by held o → seen_by a held o ≡ shown_in x (a.page (x.frame).0)
    by None is = absurd (none-some x (sym is))
    by (Some e) is = subst (λ (y : Slot). seen_page held e.frame (a.page e.frame) ≡ shown_in y (a.page (y.frame).0)) (sym (same_Some x _ is)) (page (a.page e.frame))
      where
        page : (o : Option Page) → seen_page held e.frame o ≡ shown_in (record { vpn = held.vpn; frame = record { 0 = e.frame }; locked = held.locked; pinned = held.pinned }) o
        page None = refl
        page (Some g) = refl

module _ (s : History) (p n : ℕ) where
  pub slot_seen : (x : Slot) → Some x ≡ slot_in (pager s) p n → seen_at (pager s) p n ≡ shown_in x ((pager s).page (x.frame).0)
  slot_seen x is = shown (pager s) p x (slot_of (slice_get ((pager s).ring p).slots n)) is

  module _ (formed : IsWellFormed s.config) (run : IsRun s.config s.past) (x : Slot) (is : Some x ≡ slot_in (pager s) p n) where
    there : IsSlotOf (pager s) p x
    there = slot_entry (pager s) p x (slot_of (slice_get ((pager s).ring p).slots n)) is

    around : IsValidAt s.config (pager s) p x.vpn there.entry
    around = valid_at_page s.config s.past (pager s) p x.vpn there.entry (run_kept s.config s.past formed run) there.valid

    pub slot_within : (x.frame).0 < s.config.frames
    slot_within = subst (λ (f : ℕ). f < s.config.frames) (sym there.frame) around.within

    pub slot_small : x.vpn < 2 ^ 23
    slot_small = page_small s.config (pager s) p x.vpn around.page (run_right s.config s.past formed run) around.mapped

-- what the row of a frame shows of its transfers and its modify mark
pub row_flights : (s : History) (f : ℕ) → (row_at s f).flights ≡ reads_on f (open_flights s.past) + writes_on f (open_flights s.past)
unfolding frame_row
row_flights s f = refl

pub row_modify : (s : History) (f : ℕ) → (row_at s f).modify ≡ (pager s).modify f
unfolding frame_row
row_modify s f = refl

none_is : (n : ℕ) → nat_eq n 0 ≡ not (nat_lt 0 n)
none_is n = by (nat_lt 0 n) refl
  where
    by : (b : Bool) → nat_lt 0 n ≡ b → nat_eq n 0 ≡ not b
    by true is = ne_eqb n 0 (λ same. let some = ltb-true 0 n is in omega (arith, same, some))
    by false is = let none = ltb-false 0 n is in let same : n ≡ 0 = omega (arith, none) in ap (λ (k : ℕ). nat_eq k 0) same

-- a frame without open transfers
pub still_is : (s : History) (f : ℕ) (row : Row) → row ≡ row_at s f → nat_eq row.flights 0 ≡ is_still s.past f
still_is s f row is = ap (λ (k : ℕ). nat_eq k 0) (ap (λ (x : Row). x.flights) is ∙ row_flights s f) ∙ none_is (reads_on f (open_flights s.past) + writes_on f (open_flights s.past))

-- how many slots a process has
module _ (config : Config) (past : List Entry) (p : ℕ) (formed : IsWellFormed config) (run : IsRun config past) (spec : ProcSpec) (is : slice_get config.procs p ≡ Some spec) where
  pub slots_are : spec.extent ≡ length ((pager_after config past).ring p).slots
  slots_are = sym (((run_kept config past formed run).processes p).bounds spec is).slots

-- a page that is saved, by its parts
pub saved_if : (private lies clean r : Bool) → private ≡ true → lies ≡ true → r ≡ clean → r ≡ (private && (lies && clean))
saved_if private lies clean r own there is = is ∙ (λ i. sym own i && (sym there i && clean))

pub pinned_first : (private loose clean : Bool) → (loose && (private && clean)) ≡ ((private && loose) && clean)
pinned_first true loose clean = refl
pinned_first false true clean = refl
pinned_first false false clean = refl

pub saved_not : (private lies clean : Bool) → private ≡ true → lies ≡ false → false ≡ (private && (lies && clean))
saved_not private lies clean own there = λ i. sym own i && (sym there i && clean)
