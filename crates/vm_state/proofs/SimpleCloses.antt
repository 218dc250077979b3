-- DENIED, COLLIDE, LIMIT and TURN close.
use Rattle.std.proofs.Common.{◌≡◌, inl, inr, ℕ, ◌+◌, ◌-◌, ◌≤◌, ◌<◌, Bool, true, false, List, [], ◌∷◌, Some, length, nat_eq, slice_index_or, slice_set, refl, sym, ap, subst, arith}
use Rattle.vm_types.specs.BlockView.{BlockView, Tells}
use Rattle.vm_types.specs.declared.config.Config.{Config}
use Rattle.vm_types.specs.declared.names.Addr.{Addr}
use Rattle.vm_types.specs.declared.names.Pfn.{Pfn}
use Rattle.vm_types.specs.declared.names.Proc.{Proc}
use Rattle.vm_types.specs.declared.names.ProcStatus.{ProcStatus}
use Rattle.vm_types.specs.declared.names.Seat.{Seat}
use Rattle.vm_types.specs.declared.reference.Ref.{Ref}
use Rattle.vm_types.specs.declared.reply.Why.{Why}
use Rattle.vm_journal.specs.declared.entry.Entry.{Entry}
use Rattle.vm_journal.specs.declared.entry.What.{What}
use Rattle.vm_journal.specs.declared.entry.What.TheVariants as what
use Rattle.vm_types.specs.Ring.{Ring}
use Rattle.pager_laws.proofs.FewCounts.{counts_few}
use Rattle.state_fits.specs.Spoken.{one_more, spoken_by, spoken_with}
use Rattle.state_fits.proofs.PartsSet.{spoken_read}
use Rattle.pager_model.specs.Denied.{IsDenial}
use Rattle.pager_model.specs.Pager.{Pager}
use Rattle.pager_model.specs.Run.{pager_after}
use Rattle.pager_model.specs.Step.{IsLegal}
use Rattle.pager_model.specs.Turn.{turned_ring}
use Rattle.frame_store.specs.StoreView.{StoreView}
use Rattle.state_parts.specs.declared.process_row.ProcessRow.{ProcessRow}
use Rattle.state_parts.specs.declared.spoken_row.SpokenRow.{SpokenRow}
use Rattle.state_fits.specs.Parts.{Parts}
use Rattle.state_fits.proofs.SimpleParts.{read_process, collide_parts, denied_parts, limit_parts, turn_parts}
use Rattle.vm_state.specs.History.{owed}
use Rattle.vm_state.specs.StateKept.{IsState}
use Rattle.vm_state.proofs.Closing.{closed}

-- the process that a refusal is for is one of the configuration
pub denied_process : {config : Config} {past : List Entry} {a : Pager} {p : ℕ} (r : Ref) (reason : Why) → IsDenial config past a p r reason → p < length config.procs
denied_process r reason (inl denied) = denied.own.process
denied_process r reason (inr fault) = fault.process

one_more_few : (own : Bool) (number n : ℕ) (row : SpokenRow) → row.count ≤ n → (one_more own number row).count ≤ n + 1
one_more_few true number n row few = omega (arith, few)
one_more_few false number n row few = omega (arith, few)

spoken_with_few : (w : What) (own : Bool) (number n : ℕ) (row : SpokenRow) → row.count ≤ n → (spoken_with w own number row).count ≤ n + 1
spoken_with_few (what.Done r reply) own number n row few = one_more_few own number n row few
spoken_with_few (what.Denied r reason) own number n row few = one_more_few own number n row few
spoken_with_few (what.Served s answer) own number n row few = one_more_few own number n row few
spoken_with_few other own number n row few = omega (arith, few)

-- no process has more spoken entries than there are
pub spoken_by_few : (p : ℕ) (past : List Entry) → (spoken_by p past).count ≤ length past
spoken_by_few p [] = omega arith
spoken_by_few p (e ∷ past) = let few = spoken_with_few e.what (nat_eq (e.seat).0 p) (length past + 1) (length past) (spoken_by p past) (spoken_by_few p past) in subst (λ (n : ℕ). (spoken_by p (e ∷ past)).count ≤ n) (omega arith) few

module _ {B : Type 0} {seen : B → BlockView} {tells : Tells} {config : Config} {past : List Entry} {spare : ℕ} {store : StoreView B} {fields : Parts} {numbers : List ℕ}
    (before : IsState seen tells config past spare store fields numbers) where
  pub collide_closes : (seat : Seat) (address : Addr) (f : Pfn) (k : ℕ) → IsLegal config past (pager_after config past) (record { seat = seat; what = what.Collide address f k }) → owed (record { seat = seat; what = what.Collide address f k } ∷ past) + 1 ≤ spare
      → (x : ProcessRow) → x ≡ slice_index_or fields.processes seat.0 x
      → IsState seen tells config (record { seat = seat; what = what.Collide address f k } ∷ past) (spare - 1) store
      (record fields { processes = slice_set fields.processes seat.0 (record x { collided = Some k }) }) numbers
  collide_closes seat address f k legal paid x read =
      closed before (record { seat = seat; what = what.Collide address f k }) (λ told. tt) legal paid store _
      (collide_parts config past (pager_after config past) seat fields before.parts address f k legal x read) (refl, refl) before.places

  pub limit_closes : (seat : Seat) (n faulted : ℕ) → IsLegal config past (pager_after config past) (record { seat = seat; what = what.Limit n faulted }) → owed (record { seat = seat; what = what.Limit n faulted } ∷ past) + 1 ≤ spare
      → (x : ProcessRow) → x ≡ slice_index_or fields.processes seat.0 x
      → IsState seen tells config (record { seat = seat; what = what.Limit n faulted } ∷ past) (spare - 1) store
      (record fields { processes = slice_set fields.processes seat.0 (record x { limit = n; references = 0; faults = 0 }) }) numbers
  limit_closes seat n faulted legal paid x read =
      closed before (record { seat = seat; what = what.Limit n faulted }) (λ told. tt) legal paid store _
      (limit_parts config past (pager_after config past) seat fields before.parts n faulted legal x read) (refl, refl) before.places

  pub turn_closes : (seat : Seat) (p : Proc) (s : ProcStatus) → IsLegal config past (pager_after config past) (record { seat = seat; what = what.Turn p s }) → owed (record { seat = seat; what = what.Turn p s } ∷ past) + 1 ≤ spare
      → (x : ProcessRow) → x ≡ slice_index_or fields.processes p.0 x → (ring : Ring) → ring ≡ turned_ring s x.ring
      → IsState seen tells config (record { seat = seat; what = what.Turn p s } ∷ past) (spare - 1) store
      (record fields { processes = slice_set fields.processes p.0 (record x { status = s; ring = ring }) }) numbers
  turn_closes seat p s legal paid x read ring is =
      rw is (closed before (record { seat = seat; what = what.Turn p s }) (λ told. tt) legal paid store _
      (turn_parts config past (pager_after config past) seat fields before.parts p s legal x read) (refl, refl) before.places)

  pub denied_closes : (seat : Seat) (r : Ref) (reason : Why) → IsLegal config past (pager_after config past) (record { seat = seat; what = what.Denied r reason }) → owed (record { seat = seat; what = what.Denied r reason } ∷ past) + 1 ≤ spare
      → (x : ProcessRow) → x ≡ slice_index_or fields.processes seat.0 x → (y : SpokenRow) → y ≡ slice_index_or fields.spoken seat.0 y → (number : ℕ) → number ≡ length past + 1
      → IsState seen tells config (record { seat = seat; what = what.Denied r reason } ∷ past) (spare - 1) store
      (record fields { processes = slice_set fields.processes seat.0 (record x { references = x.references + 1 }); spoken = slice_set fields.spoken seat.0 (record { last = Some number; count = y.count + 1 }) }) numbers
  denied_closes seat r reason legal paid x read y read_y number is =
      rw is (closed before (record { seat = seat; what = what.Denied r reason }) (λ told. tt) legal paid store _
      (denied_parts config past (pager_after config past) seat fields before.parts r reason legal x read y read_y) (refl, refl) before.places)

  -- ---- counts don't overflow
  pub references_few : (p : ℕ) (x : ProcessRow) → p < length config.procs → x ≡ slice_index_or fields.processes p x → x.references ≤ length past
  references_few p x there read = let is = read_process config past (pager_after config past) (record { 0 = p }) fields before.parts p x there read in
      subst (λ (n : ℕ). n ≤ length past) (sym (ap (λ (z : ProcessRow). z.references) is)) ((counts_few config past).references p)

  pub faults_few : (p : ℕ) (x : ProcessRow) → p < length config.procs → x ≡ slice_index_or fields.processes p x → x.faults ≤ length past
  faults_few p x there read = let is = read_process config past (pager_after config past) (record { 0 = p }) fields before.parts p x there read in
      subst (λ (n : ℕ). n ≤ length past) (sym (ap (λ (z : ProcessRow). z.faults) is)) ((counts_few config past).faults p)

  pub spoken_few : (p : ℕ) (y : SpokenRow) → p < length config.procs → y ≡ slice_index_or fields.spoken p y → y.count ≤ length past
  spoken_few p y there read =
      subst (λ (n : ℕ). n ≤ length past) (sym (ap (λ (z : SpokenRow). z.count) (spoken_read past (length config.procs) fields.spoken p y before.parts.spoken there read))) (spoken_by_few p past)
