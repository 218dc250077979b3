use Rattle.std.proofs.Common.{◌∙◌, sym, inl, inr}
use Rattle.std.proofs.lemmas.Bool.{false≢true}
use Rattle.vm_text.proofs.Seats.{seat_words}
use Rattle.vm_text.proofs.names.read_seat.Goals as goal

pub returns-in_err-process : goal.returns-in_err-process
returns-in_err-process c = rw c.from_residual.ensures (record {
  found = tt;
  none = λ s has is.
      elim (seat_words c.args.procs s.0 has) [
        | inl w ↦ c.in_err-process.ensures.none (record { 0 = s.0 }) w.0 (sym w.1 ∙ is)
        | inr other ↦ elim other [
          | inl w ↦ false≢true (c.if-is.ensures.1 (sym w.1 ∙ is))
          | inr w ↦ false≢true (c.if-is-2.ensures.1 (sym w.1 ∙ is))
        ]
      ];
})
