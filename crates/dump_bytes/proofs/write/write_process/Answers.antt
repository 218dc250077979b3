use Rattle.std.proofs.Common.{◌≡◌, ◌++◌, List, ℕ, Result, Err, length, ap, refl, ◌∙◌, arith}
use Rattle.std.proofs.lemmas.Result.{err_from_is_err_and}
use Rattle.std.specs.List.{flat_map}
use Rattle.outside_io.specs.declared.whole.WriteFault.{WriteFault}
use Rattle.outside_io.proofs.WritesInTurn.{writes_as, writes_then, writes_fault}
use Rattle.dump_bytes.specs.Text.{number, slot_text, word_text}
use Rattle.dump_bytes.proofs.write.write_process.Goals as goal

pub returns-in_err-write_row : goal.returns-in_err-write_row
returns-in_err-write_row g c =
    let p = err_from_is_err_and c.from_residual.result c.from_residual.ensures.1 in
    let failed0 = c.in_err-write_row.ensures in
    let failed1 = writes_fault (flat_map slot_text c.args.proc.now.slots.items) failed0 in
    let failed2 = writes_fault (number (length c.args.proc.now.words.items)) failed1 in
    let failed3 = writes_fault (flat_map word_text c.args.proc.now.words.items) failed2 in
    let err : WriteFault → Result (Unit {0}) WriteFault = λ fault. Err fault in
    writes_as (p.1 ∙ ap err p.2) (ap (λ (head : List ℕ). head ++ flat_map slot_text c.args.proc.now.slots.items ++ number (length c.args.proc.now.words.items) ++ flat_map word_text c.args.proc.now.words.items) c.process_row.ensures) failed3

pub returns-in_err-write_slots : goal.returns-in_err-write_slots
returns-in_err-write_slots g c =
    let p = err_from_is_err_and c.from_residual-in_err-write_slots.result c.from_residual-in_err-write_slots.ensures.1 in
    let done0 = c.in_ok-write_row.ensures in
    let failed1 = writes_then {two = flat_map slot_text c.args.proc.now.slots.items} done0 (rw c.deref.ensures.value at c.in_err-write_slots.ensures) in
    let failed2 = writes_fault (number (length c.args.proc.now.words.items)) failed1 in
    let failed3 = writes_fault (flat_map word_text c.args.proc.now.words.items) failed2 in
    let err : WriteFault → Result (Unit {0}) WriteFault = λ fault. Err fault in
    writes_as (p.1 ∙ ap err p.2) (ap (λ (head : List ℕ). head ++ flat_map slot_text c.args.proc.now.slots.items ++ number (length c.args.proc.now.words.items) ++ flat_map word_text c.args.proc.now.words.items) c.process_row.ensures) failed3

pub returns-in_err-write_number : goal.returns-in_err-write_number
returns-in_err-write_number g c =
    let count : c.len.result ≡ length c.args.proc.now.words.items = omega (arith, c.len.ensures) in
    let p = err_from_is_err_and c.from_residual-in_err-write_number.result c.from_residual-in_err-write_number.ensures.1 in
    let done0 = c.in_ok-write_row.ensures in
    let done1 = writes_then {two = flat_map slot_text c.args.proc.now.slots.items} done0 (rw c.deref.ensures.value at c.in_ok-write_slots.ensures) in
    let failed2 = writes_then {two = number (length c.args.proc.now.words.items)} done1 (rw count at c.in_err-write_number.ensures) in
    let failed3 = writes_fault (flat_map word_text c.args.proc.now.words.items) failed2 in
    let err : WriteFault → Result (Unit {0}) WriteFault = λ fault. Err fault in
    writes_as (p.1 ∙ ap err p.2) (ap (λ (head : List ℕ). head ++ flat_map slot_text c.args.proc.now.slots.items ++ number (length c.args.proc.now.words.items) ++ flat_map word_text c.args.proc.now.words.items) c.process_row.ensures) failed3

pub returns : goal.returns
returns g c =
    let count : c.len.result ≡ length c.args.proc.now.words.items = omega (arith, c.len.ensures) in
    let done0 = c.in_ok-write_row.ensures in
    let done1 = writes_then {two = flat_map slot_text c.args.proc.now.slots.items} done0 (rw c.deref.ensures.value at c.in_ok-write_slots.ensures) in
    let done2 = writes_then {two = number (length c.args.proc.now.words.items)} done1 (rw count at c.in_ok-write_number.ensures) in
    writes_as refl (ap (λ (head : List ℕ). head ++ flat_map slot_text c.args.proc.now.slots.items ++ number (length c.args.proc.now.words.items) ++ flat_map word_text c.args.proc.now.words.items) c.process_row.ensures) (writes_then {two = flat_map word_text c.args.proc.now.words.items} done2 (rw c.deref-2.ensures.value at c.write_entries.ensures))
