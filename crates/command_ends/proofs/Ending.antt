-- A text and then another that ends with the status.
use Rattle.std.proofs.Common.{ℕ, ◌+◌, ◌≤◌, List, ◌++◌, length, take, refl, ◌∙◌, subst, arith, Ok, Err, inl, inr, length-append}
use Rattle.std.specs.Prelude.{◌⊎◌}
use Rattle.std.proofs.Math.Seq.{take-append-add}
use Rattle.std.proofs.lemmas.List.{take-append-le}
use Rattle.std.proofs.KnownBytes.{Appends-trans}
use Rattle.vm_types.specs.Counts.{Rose}
use Rattle.outside_io.specs.Views.{SinkView}
use Rattle.outside_io.specs.Writes.{Writes}
use Rattle.outside_io.specs.declared.whole.WriteFault.{WriteFault}
use Rattle.outside_io.specs.declared.whole.WriteFault.TheVariants.{Failed, NoneTaken}
use Rattle.command_ends.specs.Ends.{Ends}

rose_by : (a b : SinkView) (fault : WriteFault) (one : List ℕ) → Writes a b (Err fault) one → Rose a.failures b.failures ⊎ Rose a.stalls b.stalls
rose_by a b Failed one w = inl w.failures
rose_by a b NoneTaken one w = inr (omega (arith, w.stalls))

-- a fault in the first text cuts both
pub ends_cut : {a b : SinkView} {fault : WriteFault} {one : List ℕ} (two : List ℕ) (status : ℕ) → Writes a b (Err fault) one → Ends a b status (one ++ two) 4
ends_cut {a} {b} {fault} {one} two status w =
    let within : w.bytes.0 ≤ length one = omega (arith, w.bytes.1) in
    record {
      how = inr (refl, (w.bytes.0, omega (arith, length-append one two, w.bytes.1), rw (take-append-le w.bytes.0 one two within) w.bytes.2), rose_by a b fault one w);
      known = w.known;
      failures_later = w.failures_later;
      stalls_later = w.stalls_later;
    }

-- after the whole first text the second decides
pub ends_then : {a b c : SinkView} {one two : List ℕ} {status result : ℕ} → Writes a b (Ok tt) one → Ends b c status two result → Ends a c status (one ++ two) result
ends_then {a} {b} {c} {one} {two} {status} {result} w e =
    record {
      how = elim e.how [
        | inl whole ↦ inl (whole.0, Appends-trans a.taken b.taken c.taken one two w.bytes whole.1, whole.2 ∙ w.failures, whole.3 ∙ w.stalls)
        | inr cut ↦ inr (
          cut.0,
          (length one + cut.1.0, omega (arith, length-append one two, cut.1.1), rw (take-append-add one two cut.1.0) (Appends-trans a.taken b.taken c.taken one (take cut.1.0 two) w.bytes cut.1.2)),
          elim cut.2 [
            | inl failed ↦ inl (subst (λ count. Rose count c.failures) w.failures failed)
            | inr stalled ↦ inr (subst (λ count. Rose count c.stalls) w.stalls stalled)
          ],
        )
      ];
      known = e.known ∙ w.known;
      failures_later = omega (arith, w.failures_later, e.failures_later);
      stalls_later = omega (arith, w.stalls_later, e.stalls_later);
    }
