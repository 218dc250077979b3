-- One carrier of all is read, and is written back.
use Rattle.std.proofs.Common.{◌≡◌, ℕ, ◌+◌, ◌<◌, List, length, slice_get, slice_index_or, slice_set, sym, ap, ◌∙◌, arith}
use Rattle.std.proofs.lemmas.List.{get_or-set_same, length-set, set-get_or, set-set}
use Rattle.std.proofs.lemmas.Option.{get_or_from_slice_get}
use Rattle.vm_types.specs.declared.config.Config.{Config}
use Rattle.call_begins.specs.MayBegin.{empty}
use Rattle.lift_carriers.specs.CarrierView.{CarrierView}
use Rattle.vm_state.specs.History.{History}
use Rattle.serial_moves.specs.Carriers.{AreIdle}

module _ {B : Type 0} (s : History) (carriers : List (CarrierView B)) (idle : AreIdle s carriers) where
  pub carrier_there : (i : ℕ) → i < length s.config.procs + 2 → i < length carriers
  carrier_there i there = let count = idle.count in omega (arith, count, there)

  pub written_there : (i : ℕ) (x : CarrierView B) → i < length s.config.procs + 2 → i < length (slice_set carriers i x)
  written_there i x there = let same = length-set carriers i x in let within = carrier_there i there in omega (arith, same, within)

  -- each is empty
  pub empty_at : (i : ℕ) (d : CarrierView B) → i < length s.config.procs + 2 → slice_index_or carriers i d ≡ empty (record { 0 = i })
  empty_at i d there = get_or_from_slice_get carriers i (empty (record { 0 = i })) d (idle.each i (carrier_there i there))

  -- one that is as it was
  pub kept_at : (i : ℕ) (d y : CarrierView B) → y ≡ slice_index_or carriers i d → slice_set carriers i y ≡ carriers
  kept_at i d y same = ap (slice_set carriers i) same ∙ set-get_or carriers i d

  -- one that is empty again
  pub emptied_at : (i : ℕ) (y : CarrierView B) → i < length s.config.procs + 2 → y ≡ empty (record { 0 = i }) → slice_set carriers i y ≡ carriers
  emptied_at i y there is = kept_at i y y (is ∙ sym (empty_at i y there))

  -- one that was written is read again
  pub read_again : (i : ℕ) (x d : CarrierView B) → i < length s.config.procs + 2 → slice_index_or (slice_set carriers i x) i d ≡ x
  read_again i x d there = get_or-set_same carriers i x d (carrier_there i there)

  -- one that was written before is empty again
  pub emptied_again : (i : ℕ) (x y : CarrierView B) → i < length s.config.procs + 2 → y ≡ empty (record { 0 = i }) → slice_set (slice_set carriers i x) i y ≡ carriers
  emptied_again i x y there is = set-set carriers i x y ∙ emptied_at i y there is

  -- they stay so while the processes are the same
  pub idle_then : (t : History) (now : List (CarrierView B)) → t.config ≡ s.config → now ≡ carriers → AreIdle t now
  idle_then t now same kept = record {
    count = ap (λ (xs : List (CarrierView B)). length xs) kept ∙ (idle.count ∙ ap (λ (k : Config). length k.procs + 2) (sym same));
    each = λ i less. ap (λ (xs : List (CarrierView B)). slice_get xs i) kept ∙ idle.each i (let many = ap (λ (xs : List (CarrierView B)). length xs) kept in omega (arith, many, less));
  }
