-- The eviction of a valid page of a range.
use Rattle.std.proofs.Common.{◌≡◌, ◌^◌, ◌<◌, true, false, cond, ℕ, [], ◌∷◌, Option, Some, None, refl, sym, ap, ◌∙◌, subst, arith}
use Rattle.std.specs.Option.{option_map}
use Rattle.std.proofs.lemmas.Option.{none-some, same_Some}
use Rattle.vm_types.specs.declared.names.FrameState.{FrameState}
use Rattle.vm_types.specs.declared.names.Pfn.{Pfn}
use Rattle.vm_types.specs.declared.names.Seat.{Seat}
use Rattle.vm_journal.specs.declared.entry.EvictWhy.{EvictWhy}
use Rattle.vm_journal.specs.declared.entry.What.TheVariants as what
use Rattle.pager_policy.specs.Given.{eviction, given, goes_to, is_stopped, page_address}
use Rattle.pager_model.specs.Lookups.{entry_of}
use Rattle.pager_model.specs.Maps.{proc}
use Rattle.pager_model.specs.Pager.{Valid}
use Rattle.pager_policy.specs.Serve.{evict_given, serve_again, serve_modified_full, serve_more}
use Rattle.pager_laws.proofs.ValidEntries.{IsValidAt, valid_at_page}
use Rattle.call_laws.proofs.WaitsLegal.{kept, mapped_small}
use Rattle.call_begins.proofs.Branches.{if_false, if_true}
use Rattle.call_begins.proofs.Steps.{paid_first}
use Rattle.vm_state.specs.History.{History, MayAdd, entry_by, pager}
use Rattle.vm_state.specs.PageReadings.{frame_of}
use Rattle.state_pages.specs.Shown.{frame_number}
use Rattle.vm_services.specs.Cases.{at_evict}
use Rattle.call_begins.specs.ReadySeat.{IsReadySeat}
use Rattle.vm_services.specs.Serves.{MayServe}
use Rattle.vm_services.proofs.Steps.{may_as}
use Rattle.call_begins.proofs.ReadySeats.{ready_of}

-- the entry that shows a frame
entry_with : (f : Pfn) (o : Option Valid) → option_map frame_number (Some f) ≡ option_map frame_of o → (e : Valid) × (o ≡ Some e) × (f.0 ≡ e.frame)
entry_with f None is = absurd (none-some f.0 (sym is))
entry_with f (Some e) is = (e, refl, same_Some f.0 e.frame is)

module _ (s : History) (seat : Seat) (v : ℕ) (why : EvictWhy) (ready : IsReadySeat s seat) (f : Pfn) (is : option_map frame_number (Some f) ≡ option_map frame_of (entry_of (pager s).valid seat.0 v)) where
  there : (e : Valid) × (entry_of (pager s).valid seat.0 v ≡ Some e) × (f.0 ≡ e.frame)
  there = entry_with f (entry_of (pager s).valid seat.0 v) is

  around : IsValidAt s.config (pager s) seat.0 v there.0
  around = valid_at_page s.config s.past (pager s) seat.0 v there.0 (kept s.config s.past seat.0 (ready_of s seat ready)) there.1

  pub frame_within : f.0 < s.config.frames
  frame_within = subst (λ (n : ℕ). n < s.config.frames) (sym there.2) around.within

  pub page_small : v < 2 ^ 23
  page_small = mapped_small s.config s.past seat.0 (ready_of s seat ready) v around.page around.mapped

  evicts_if : at_evict s seat v why ≡ cond (is_stopped s.config s.past (pager s) f.0) (given [] (serve_again serve_modified_full)) (given (eviction s.past (pager s) seat.0 v f.0 why ∷ []) serve_more)
  evicts_if =
      ap (evict_given s.config s.past (pager s) seat.0 v why) there.1
      ∙ ap (λ (n : ℕ). cond (is_stopped s.config s.past (pager s) n) (given [] (serve_again serve_modified_full)) (given (eviction s.past (pager s) seat.0 v n why ∷ []) serve_more)) (sym there.2)

  pub stops : is_stopped s.config s.past (pager s) f.0 ≡ true → at_evict s seat v why ≡ given [] (serve_again serve_modified_full)
  stops stopped = evicts_if ∙ if_true (is_stopped s.config s.past (pager s) f.0) _ _ stopped

  pub evicts : (to : FrameState) → to ≡ goes_to s.past (pager s) f.0 → is_stopped s.config s.past (pager s) f.0 ≡ false
      → at_evict s seat v why ≡ given (what.Evict (proc seat.0) (page_address v) f why to ∷ []) serve_more
  evicts to goes free =
      evicts_if ∙ (if_false (is_stopped s.config s.past (pager s) f.0) _ _ free ∙ ap (λ (z : FrameState). given (what.Evict (proc seat.0) (page_address v) f why z ∷ []) serve_more) (sym goes))

  pub may_evict : (to : FrameState) → to ≡ goes_to s.past (pager s) f.0 → is_stopped s.config s.past (pager s) f.0 ≡ false
      → MayServe s seat (at_evict s seat v why) → MayAdd s (entry_by seat (what.Evict (proc seat.0) (page_address v) f why to))
  may_evict to goes free may =
      let m = may_as s seat _ _ (evicts to goes free) may in
      record { legal = m.legal.0; paid = paid_first s seat (what.Evict (proc seat.0) (page_address v) f why to) 1 (omega arith) refl refl m.room }
