-- The ring's victim, as the slot shows it.
use Rattle.std.proofs.Common.{◌≡◌, ℕ, ◌^◌, ◌<◌, true, false, cond, List, [], ◌∷◌, Option, Some, None, slice_get, refl, sym, ap, ◌∙◌, subst, arith}
use Rattle.std.proofs.lemmas.Option.{none-some, same_Some}
use Rattle.vm_types.specs.Ring.{Held, choose}
use Rattle.vm_types.specs.declared.config.Config.{Config}
use Rattle.vm_types.specs.declared.names.FrameState.{FrameState}
use Rattle.vm_types.specs.declared.names.Page.{Page}
use Rattle.vm_types.specs.declared.names.Seat.{Seat}
use Rattle.vm_journal.specs.declared.entry.Entry.{Entry}
use Rattle.vm_journal.specs.declared.entry.EvictWhy.TheVariants as evict
use Rattle.vm_journal.specs.declared.entry.What.TheVariants as what
use Rattle.pager_policy.specs.Advance.{again_modified_full, gives_again, next_more, replace_seen}
use Rattle.pager_model.specs.Evict.{victim_of}
use Rattle.pager_policy.specs.Given.{eviction, given, goes_to, is_stopped, page_address, seen_by, seen_in, seen_page}
use Rattle.pager_model.specs.Lookups.{entry_of, slot_of}
use Rattle.pager_model.specs.Maps.{proc}
use Rattle.pager_model.specs.Pager.{Pager, Valid}
use Rattle.pager_laws.proofs.ValidEntries.{IsValidAt, valid_at_page}
use Rattle.vm_state.specs.History.{History, MayAdd, entry_by, pager}
use Rattle.vm_state.specs.ProcessReadings.{slot_by, slot_in, slot_with}
use Rattle.state_pages.specs.declared.found.Slot.{Slot}
use Rattle.call_laws.proofs.WaitsLegal.{kept, mapped_small}
use Rattle.call_begins.proofs.Branches.{if_false, if_true}
use Rattle.call_begins.proofs.Steps.{paid_first}
use Rattle.fault_core.specs.Cases.{at_replace}
use Rattle.fault_core.specs.Gives.{MayGive}
use Rattle.call_begins.specs.ReadySeat.{IsReadySeat}
use Rattle.call_begins.proofs.Slots.{IsSlotOf, seen_none, slot_entry}
use Rattle.fault_core.proofs.Steps.{may_as}
use Rattle.call_begins.proofs.ReadySeats.{ready_of}

seen_some : (config : Config) (past : List Entry) (a : Pager) (p : ℕ) (x : Slot) (e : Valid) (g : Page) (o : Option Held) → entry_of a.valid p x.vpn ≡ Some e → a.page e.frame ≡ Some g → Some x ≡ slot_with a.valid p o
    → replace_seen config past a p (seen_in a p o) ≡ cond (is_stopped config past a (x.frame).0) (gives_again again_modified_full) (given (eviction past a p x.vpn (x.frame).0 evict.Replace ∷ []) next_more)
seen_some config past a p x e g None valid holds is = absurd (none-some _ (sym is))
seen_some config past a p x e g (Some held) valid holds is = by (entry_of a.valid p held.vpn) refl is
  where
    by : (o : Option Valid) → entry_of a.valid p held.vpn ≡ o → Some x ≡ slot_by held o
        → replace_seen config past a p (seen_by a held o) ≡ cond (is_stopped config past a (x.frame).0) (gives_again again_modified_full) (given (eviction past a p x.vpn (x.frame).0 evict.Replace ∷ []) next_more)
    by None at is = absurd (none-some _ (sym is))
    by (Some d) at is =
        let same = same_Some x _ is in
        let vpn : x.vpn ≡ held.vpn = ap (λ (y : Slot). y.vpn) same in
        let frame : (x.frame).0 ≡ d.frame = ap (λ (y : Slot). (y.frame).0) same in
        let one : d ≡ e = same_Some d e (sym at ∙ (ap (entry_of a.valid p) (sym vpn) ∙ valid)) in
        let page : a.page d.frame ≡ Some g = ap (λ (y : Valid). a.page y.frame) one ∙ holds in
        ap (λ (o : Option Page). replace_seen config past a p (seen_page held d.frame o)) page
        ∙ (λ i. cond (is_stopped config past a (sym frame i)) (gives_again again_modified_full) (given (eviction past a p (sym vpn i) (sym frame i) evict.Replace ∷ []) next_more))

module _ (s : History) (seat : Seat) (ready : IsReadySeat s seat) where
  abbrev n : ℕ
  n = victim_of (choose ((pager s).ring seat.0) ((pager s).limit seat.0))

  module _ (x : Slot) (is : Some x ≡ slot_in (pager s) seat.0 n) where
    there : IsSlotOf (pager s) seat.0 x
    there = slot_entry (pager s) seat.0 x (slot_of (slice_get ((pager s).ring seat.0).slots n)) is

    around : IsValidAt s.config (pager s) seat.0 x.vpn there.entry
    around = valid_at_page s.config s.past (pager s) seat.0 x.vpn there.entry (kept s.config s.past seat.0 (ready_of s seat ready)) there.valid

    pub slot_within : (x.frame).0 < s.config.frames
    slot_within = subst (λ (f : ℕ). f < s.config.frames) (sym there.frame) around.within

    pub slot_small : x.vpn < 2 ^ 23
    slot_small = mapped_small s.config s.past seat.0 (ready_of s seat ready) x.vpn around.page around.mapped

    replaces_if : at_replace s seat ≡ cond (is_stopped s.config s.past (pager s) (x.frame).0) (gives_again again_modified_full) (given (eviction s.past (pager s) seat.0 x.vpn (x.frame).0 evict.Replace ∷ []) next_more)
    replaces_if = seen_some s.config s.past (pager s) seat.0 x there.entry around.page (slot_of (slice_get ((pager s).ring seat.0).slots n)) there.valid around.holds is

    pub stops : is_stopped s.config s.past (pager s) (x.frame).0 ≡ true → at_replace s seat ≡ gives_again again_modified_full
    stops stopped = replaces_if ∙ if_true (is_stopped s.config s.past (pager s) (x.frame).0) _ _ stopped

    pub replaces : (to : FrameState) → to ≡ goes_to s.past (pager s) (x.frame).0 → is_stopped s.config s.past (pager s) (x.frame).0 ≡ false
        → at_replace s seat ≡ given (what.Evict (proc seat.0) (page_address x.vpn) x.frame evict.Replace to ∷ []) next_more
    replaces to goes free =
        replaces_if ∙ (if_false (is_stopped s.config s.past (pager s) (x.frame).0) _ _ free ∙ ap (λ (z : FrameState). given (what.Evict (proc seat.0) (page_address x.vpn) x.frame evict.Replace z ∷ []) next_more) (sym goes))

    pub may_replace : (to : FrameState) → to ≡ goes_to s.past (pager s) (x.frame).0 → is_stopped s.config s.past (pager s) (x.frame).0 ≡ false
        → MayGive s seat (at_replace s seat) → MayAdd s (entry_by seat (what.Evict (proc seat.0) (page_address x.vpn) x.frame evict.Replace to))
    may_replace to goes free may =
        let m = may_as s seat _ _ (replaces to goes free) may in
        record { legal = m.legal.0; paid = paid_first s seat (what.Evict (proc seat.0) (page_address x.vpn) x.frame evict.Replace to) 1 (omega arith) refl refl m.room }

  pub none_seen : None ≡ slot_in (pager s) seat.0 n → at_replace s seat ≡ gives_again again_modified_full
  none_seen is = ap (replace_seen s.config s.past (pager s) seat.0) (seen_none (pager s) seat.0 (slot_of (slice_get ((pager s).ring seat.0).slots n)) is)
