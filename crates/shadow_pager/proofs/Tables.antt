-- What a write to one of a log's tables makes of the attribute that it stands for.
use Rattle.std.proofs.Common.{◌≡◌, ℕ, ◌+◌, ◌<◌, Bool, false, List, None, Option, ap, ◌∙◌, arith, vec_len}
use Rattle.std.specs.Prelude.{slice_index_or, slice_set, length}
use Rattle.vm_types.specs.Ring.{Ring}
use Rattle.vm_types.specs.declared.names.Page.{Page}
use Rattle.vm_types.specs.declared.names.FrameState.{FrameState}
use Rattle.vm_types.specs.declared.names.FrameState.TheVariants as state
use Rattle.vm_journal.specs.declared.entry.EvictWhy.{EvictWhy}
use Rattle.pager_model.specs.Evict.{evicted_ring}
use Rattle.pager_model.specs.Ring.{placed, slotted}
use Rattle.pager_model.specs.Sets.{at_number}
use Rattle.shadow_pager.specs.Shown.{at_or, no_ring}
use Rattle.shadow_pager.specs.declared.shadow_pager.ShadowPager.{ShadowPager}
use Rattle.shadow_pager.proofs.Same.{written, changed, read_at}

module _ (s : ShadowPager) (f : ℕ) (below : f < vec_len s.states) where
  state_in : f < length s.states.items
  state_in = omega (arith, s.states.ok.0)

  page_in : f < length s.held
  page_in = omega (arith, s.each_held)

  mark_in : f < length s.marks.items
  mark_in = omega (arith, s.marks.ok.0, s.each_mark)

  pub set_state : (x : FrameState) → at_or state.Bad (slice_set s.states.items f x) ≡ at_number (at_or state.Bad s.states.items) f x
  set_state x = written state.Bad s.states.items f x state_in

  pub set_page : (x : Option Page) (held : List (Option Page)) → held ≡ slice_set s.held f x → at_or None held ≡ at_number (at_or None s.held) f x
  set_page x held is = ap (at_or None) is ∙ written None s.held f x page_in

  pub set_modify : (x : Bool) → at_or false (slice_set s.marks.items f x) ≡ at_number (at_or false s.marks.items) f x
  set_modify x = written false s.marks.items f x mark_in

  pub state_read : (x : FrameState) → x ≡ slice_index_or s.states.items f x → x ≡ at_or state.Bad s.states.items f
  state_read x is = read_at state.Bad s.states.items f x state_in is

  pub modify_read : (x : Bool) → x ≡ slice_index_or s.marks.items f x → x ≡ at_or false s.marks.items f
  modify_read x is = read_at false s.marks.items f x mark_in is

module _ (s : ShadowPager) (p : ℕ) (below : p < vec_len s.statuses) where
  ring_in : p < length s.rings.items
  ring_in = omega (arith, s.rings.ok.0, s.each_ring)

  limit_in : p < length s.limits.items
  limit_in = omega (arith, s.limits.ok.0, s.each_limit)

  faults_in : p < length s.faults.items
  faults_in = omega (arith, s.faults.ok.0, s.each_faults)

  references_in : p < length s.references.items
  references_in = omega (arith, s.references.ok.0, s.each_references)

  pub limit_read : (x : ℕ) → x ≡ slice_index_or s.limits.items p x → x ≡ at_or 0 s.limits.items p
  limit_read x is = read_at 0 s.limits.items p x limit_in is

  set_ring : (change : Ring → Ring) (old new : Ring) → old ≡ slice_index_or s.rings.items p old → new ≡ change old
      → at_or no_ring (slice_set s.rings.items p new) ≡ at_number (at_or no_ring s.rings.items) p (change (at_or no_ring s.rings.items p))
  set_ring change old new is made = changed no_ring change s.rings.items p old new ring_in is made

  pub set_placed : (old new : Ring) (limit v : ℕ) → old ≡ slice_index_or s.rings.items p old → limit ≡ slice_index_or s.limits.items p limit → new ≡ placed old limit v
      → at_or no_ring (slice_set s.rings.items p new) ≡ at_number (at_or no_ring s.rings.items) p (placed (at_or no_ring s.rings.items p) (at_or 0 s.limits.items p) v)
  set_placed old new limit v is bound made =
      set_ring (λ (r : Ring). placed r (at_or 0 s.limits.items p) v) old new is (made ∙ ap (λ (n : ℕ). placed old n v) (limit_read limit bound))

  pub set_slotted : (old new : Ring) (given slot v : ℕ) → old ≡ slice_index_or s.rings.items p old → new ≡ slotted old given v → given ≡ slot
      → at_or no_ring (slice_set s.rings.items p new) ≡ at_number (at_or no_ring s.rings.items) p (slotted (at_or no_ring s.rings.items p) slot v)
  set_slotted old new given slot v is made same =
      set_ring (λ (r : Ring). slotted r slot v) old new is (made ∙ ap (λ (n : ℕ). slotted old n v) same)

  pub set_evicted : (why : EvictWhy) (old new : Ring) (limit v : ℕ) → old ≡ slice_index_or s.rings.items p old → limit ≡ slice_index_or s.limits.items p limit → new ≡ evicted_ring why old limit v
      → at_or no_ring (slice_set s.rings.items p new) ≡ at_number (at_or no_ring s.rings.items) p (evicted_ring why (at_or no_ring s.rings.items p) (at_or 0 s.limits.items p) v)
  set_evicted why old new limit v is bound made =
      set_ring (λ (r : Ring). evicted_ring why r (at_or 0 s.limits.items p) v) old new is (made ∙ ap (λ (n : ℕ). evicted_ring why old n v) (limit_read limit bound))

  pub set_faults : (old new : ℕ) → old ≡ slice_index_or s.faults.items p old → new ≡ old + 1
      → at_or 0 (slice_set s.faults.items p new) ≡ at_number (at_or 0 s.faults.items) p (at_or 0 s.faults.items p + 1)
  set_faults old new is made = changed 0 (λ n. n + 1) s.faults.items p old new faults_in is made

  pub set_references : (old new : ℕ) → old ≡ slice_index_or s.references.items p old → new ≡ old + 1
      → at_or 0 (slice_set s.references.items p new) ≡ at_number (at_or 0 s.references.items) p (at_or 0 s.references.items p + 1)
  set_references old new is made = changed 0 (λ n. n + 1) s.references.items p old new references_in is made
