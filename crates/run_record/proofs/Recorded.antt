-- A record with one entry more.
use Rattle.std.proofs.Common.{◌≡◌, ℕ, ◌+◌, ◌-◌, ◌<◌, Bool, true, false, List, [], ◌∷◌, ◌++◌, length, min, reverse, refl, sym, ap, ◌∙◌, arith, length-append}
use Rattle.std.specs.Prelude.{if◌then◌else◌}
use Rattle.std.proofs.lemmas.Grind.{reverse_onto}
use Rattle.std.proofs.lemmas.List.{map-append}
use mir.Val.{bool_byte}
use Rattle.vm_journal.specs.Journal.{answers_in, is_answer}
use Rattle.vm_journal.specs.declared.entry.Entry.{Entry}
use Rattle.run_record.specs.RunRecord.{IsRecorded, IsRecord, seat_bytes}
use Rattle.run_record.specs.declared.run_record.Kept.{Kept}
use Rattle.run_record.proofs.Tallies.{answers_more}

pub reverse_more : (past : List Entry) (e : Entry) → reverse (e ∷ past) ≡ reverse past ++ e ∷ []
reverse_more past e = reverse_onto past e []

pub bytes_more : (es : List Entry) (e : Entry) → seat_bytes es ++ min (e.seat).0 255 ∷ [] ≡ seat_bytes (es ++ e ∷ [])
bytes_more es e = sym (map-append (λ (x : Entry). min (x.seat).0 255) es (e ∷ []))

as_one : (b : Bool) → bool_byte b ≡ (if b then 1 else 0)
as_one true = refl
as_one false = refl

pub record_more : (es after : List Entry) (e : Entry) (len answers spare one : ℕ) (k k' : Kept) → after ≡ es ++ e ∷ [] → 0 < spare → one ≡ bool_byte (is_answer e.what)
    → IsRecord es len answers spare k → IsRecorded after (spare - 1) k' → IsRecord after (len + 1) (answers + one) (spare - 1) k'
record_more es after e len answers spare one k k' more some is old keeping =
    let long = ap length more ∙ length-append es (e ∷ []) in
    record {
      count = omega (arith, old.count, long);
      most = omega (arith, old.most, some, long);
      answering = (λ i. old.answering i + (is ∙ as_one (is_answer e.what)) i) ∙ (answers_more es e ∙ sym (ap answers_in more));
      keeping = keeping;
    }
