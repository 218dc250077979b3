use Rattle.std.proofs.Common.{◌≡◌, ◌++◌, List, ℕ, Result, Err, length, map, ap, refl, ◌∙◌, arith}
use Rattle.std.proofs.lemmas.Result.{err_from_is_err_and}
use Rattle.std.specs.List.{flat_map}
use Rattle.outside_io.specs.declared.whole.WriteFault.{WriteFault}
use Rattle.outside_io.proofs.WritesInTurn.{writes_as, writes_then, writes_fault}
use Rattle.dump_bytes.specs.Dumped.{process_of}
use Rattle.dump_bytes.specs.Text.{number, frame_text, process_text}
use Rattle.dump_bytes.proofs.Writing.{short_each}
use Rattle.dump_bytes.proofs.write.write_dump.Goals as goal

pub returns-in_err-write_row : goal.returns-in_err-write_row
returns-in_err-write_row g c =
    let p = err_from_is_err_and c.from_residual.result c.from_residual.ensures.1 in
    let failed0 = c.in_err-write_row.ensures in
    let failed1 = writes_fault (flat_map frame_text c.args.dump.now.frames.items) failed0 in
    let failed2 = writes_fault (flat_map number c.args.dump.now.free.items) failed1 in
    let failed3 = writes_fault (flat_map number c.args.dump.now.modified.items) failed2 in
    let failed4 = writes_fault (flat_map process_text (map process_of c.args.dump.now.procs.items)) failed3 in
    let failed5 = writes_fault (number (length c.args.dump.now.flights.items)) failed4 in
    let failed6 = writes_fault (flat_map number c.args.dump.now.flights.items) failed5 in
    let err : WriteFault → Result (Unit {0}) WriteFault = λ fault. Err fault in
    writes_as (p.1 ∙ ap err p.2) (ap (λ (head : List ℕ). head ++ flat_map frame_text c.args.dump.now.frames.items ++ flat_map number c.args.dump.now.free.items ++ flat_map number c.args.dump.now.modified.items ++ flat_map process_text (map process_of c.args.dump.now.procs.items) ++ number (length c.args.dump.now.flights.items) ++ flat_map number c.args.dump.now.flights.items) c.head_row.ensures) failed6

pub returns-in_err-write_frames : goal.returns-in_err-write_frames
returns-in_err-write_frames g c =
    let p = err_from_is_err_and c.from_residual-in_err-write_frames.result c.from_residual-in_err-write_frames.ensures.1 in
    let done0 = c.in_ok-write_row.ensures in
    let failed1 = writes_then {two = flat_map frame_text c.args.dump.now.frames.items} done0 (rw c.deref.ensures.value at c.in_err-write_frames.ensures) in
    let failed2 = writes_fault (flat_map number c.args.dump.now.free.items) failed1 in
    let failed3 = writes_fault (flat_map number c.args.dump.now.modified.items) failed2 in
    let failed4 = writes_fault (flat_map process_text (map process_of c.args.dump.now.procs.items)) failed3 in
    let failed5 = writes_fault (number (length c.args.dump.now.flights.items)) failed4 in
    let failed6 = writes_fault (flat_map number c.args.dump.now.flights.items) failed5 in
    let err : WriteFault → Result (Unit {0}) WriteFault = λ fault. Err fault in
    writes_as (p.1 ∙ ap err p.2) (ap (λ (head : List ℕ). head ++ flat_map frame_text c.args.dump.now.frames.items ++ flat_map number c.args.dump.now.free.items ++ flat_map number c.args.dump.now.modified.items ++ flat_map process_text (map process_of c.args.dump.now.procs.items) ++ number (length c.args.dump.now.flights.items) ++ flat_map number c.args.dump.now.flights.items) c.head_row.ensures) failed6

pub returns-in_err-write_numbers : goal.returns-in_err-write_numbers
returns-in_err-write_numbers g c =
    let p = err_from_is_err_and c.from_residual-in_err-write_numbers.result c.from_residual-in_err-write_numbers.ensures.1 in
    let done0 = c.in_ok-write_row.ensures in
    let done1 = writes_then {two = flat_map frame_text c.args.dump.now.frames.items} done0 (rw c.deref.ensures.value at c.in_ok-write_frames.ensures) in
    let failed2 = writes_then {two = flat_map number c.args.dump.now.free.items} done1 (rw c.deref-2.ensures.value at c.in_err-write_numbers.ensures) in
    let failed3 = writes_fault (flat_map number c.args.dump.now.modified.items) failed2 in
    let failed4 = writes_fault (flat_map process_text (map process_of c.args.dump.now.procs.items)) failed3 in
    let failed5 = writes_fault (number (length c.args.dump.now.flights.items)) failed4 in
    let failed6 = writes_fault (flat_map number c.args.dump.now.flights.items) failed5 in
    let err : WriteFault → Result (Unit {0}) WriteFault = λ fault. Err fault in
    writes_as (p.1 ∙ ap err p.2) (ap (λ (head : List ℕ). head ++ flat_map frame_text c.args.dump.now.frames.items ++ flat_map number c.args.dump.now.free.items ++ flat_map number c.args.dump.now.modified.items ++ flat_map process_text (map process_of c.args.dump.now.procs.items) ++ number (length c.args.dump.now.flights.items) ++ flat_map number c.args.dump.now.flights.items) c.head_row.ensures) failed6

pub returns-in_err-write_numbers-2 : goal.returns-in_err-write_numbers-2
returns-in_err-write_numbers-2 g c =
    let p = err_from_is_err_and c.from_residual-in_err-write_numbers-2.result c.from_residual-in_err-write_numbers-2.ensures.1 in
    let done0 = c.in_ok-write_row.ensures in
    let done1 = writes_then {two = flat_map frame_text c.args.dump.now.frames.items} done0 (rw c.deref.ensures.value at c.in_ok-write_frames.ensures) in
    let done2 = writes_then {two = flat_map number c.args.dump.now.free.items} done1 (rw c.deref-2.ensures.value at c.in_ok-write_numbers.ensures) in
    let failed3 = writes_then {two = flat_map number c.args.dump.now.modified.items} done2 (rw c.deref-3.ensures.value at c.in_err-write_numbers-2.ensures) in
    let failed4 = writes_fault (flat_map process_text (map process_of c.args.dump.now.procs.items)) failed3 in
    let failed5 = writes_fault (number (length c.args.dump.now.flights.items)) failed4 in
    let failed6 = writes_fault (flat_map number c.args.dump.now.flights.items) failed5 in
    let err : WriteFault → Result (Unit {0}) WriteFault = λ fault. Err fault in
    writes_as (p.1 ∙ ap err p.2) (ap (λ (head : List ℕ). head ++ flat_map frame_text c.args.dump.now.frames.items ++ flat_map number c.args.dump.now.free.items ++ flat_map number c.args.dump.now.modified.items ++ flat_map process_text (map process_of c.args.dump.now.procs.items) ++ number (length c.args.dump.now.flights.items) ++ flat_map number c.args.dump.now.flights.items) c.head_row.ensures) failed6

pub returns-in_err-write_processes : goal.returns-in_err-write_processes
returns-in_err-write_processes g c =
    let p = err_from_is_err_and c.from_residual-in_err-write_processes.result c.from_residual-in_err-write_processes.ensures.1 in
    let done0 = c.in_ok-write_row.ensures in
    let done1 = writes_then {two = flat_map frame_text c.args.dump.now.frames.items} done0 (rw c.deref.ensures.value at c.in_ok-write_frames.ensures) in
    let done2 = writes_then {two = flat_map number c.args.dump.now.free.items} done1 (rw c.deref-2.ensures.value at c.in_ok-write_numbers.ensures) in
    let done3 = writes_then {two = flat_map number c.args.dump.now.modified.items} done2 (rw c.deref-3.ensures.value at c.in_ok-write_numbers-2.ensures) in
    let failed4 = writes_then {two = flat_map process_text (map process_of c.args.dump.now.procs.items)} done3 (rw c.deref-4.ensures.value at c.in_err-write_processes.ensures) in
    let failed5 = writes_fault (number (length c.args.dump.now.flights.items)) failed4 in
    let failed6 = writes_fault (flat_map number c.args.dump.now.flights.items) failed5 in
    let err : WriteFault → Result (Unit {0}) WriteFault = λ fault. Err fault in
    writes_as (p.1 ∙ ap err p.2) (ap (λ (head : List ℕ). head ++ flat_map frame_text c.args.dump.now.frames.items ++ flat_map number c.args.dump.now.free.items ++ flat_map number c.args.dump.now.modified.items ++ flat_map process_text (map process_of c.args.dump.now.procs.items) ++ number (length c.args.dump.now.flights.items) ++ flat_map number c.args.dump.now.flights.items) c.head_row.ensures) failed6

pub returns-in_err-write_number : goal.returns-in_err-write_number
returns-in_err-write_number g c =
    let count : c.len.result ≡ length c.args.dump.now.flights.items = omega (arith, c.len.ensures) in
    let p = err_from_is_err_and c.from_residual-in_err-write_number.result c.from_residual-in_err-write_number.ensures.1 in
    let done0 = c.in_ok-write_row.ensures in
    let done1 = writes_then {two = flat_map frame_text c.args.dump.now.frames.items} done0 (rw c.deref.ensures.value at c.in_ok-write_frames.ensures) in
    let done2 = writes_then {two = flat_map number c.args.dump.now.free.items} done1 (rw c.deref-2.ensures.value at c.in_ok-write_numbers.ensures) in
    let done3 = writes_then {two = flat_map number c.args.dump.now.modified.items} done2 (rw c.deref-3.ensures.value at c.in_ok-write_numbers-2.ensures) in
    let done4 = writes_then {two = flat_map process_text (map process_of c.args.dump.now.procs.items)} done3 (rw c.deref-4.ensures.value at c.in_ok-write_processes.ensures) in
    let failed5 = writes_then {two = number (length c.args.dump.now.flights.items)} done4 (rw count at c.in_err-write_number.ensures) in
    let failed6 = writes_fault (flat_map number c.args.dump.now.flights.items) failed5 in
    let err : WriteFault → Result (Unit {0}) WriteFault = λ fault. Err fault in
    writes_as (p.1 ∙ ap err p.2) (ap (λ (head : List ℕ). head ++ flat_map frame_text c.args.dump.now.frames.items ++ flat_map number c.args.dump.now.free.items ++ flat_map number c.args.dump.now.modified.items ++ flat_map process_text (map process_of c.args.dump.now.procs.items) ++ number (length c.args.dump.now.flights.items) ++ flat_map number c.args.dump.now.flights.items) c.head_row.ensures) failed6

pub returns : goal.returns
returns g c =
    let count : c.len.result ≡ length c.args.dump.now.flights.items = omega (arith, c.len.ensures) in
    let done0 = c.in_ok-write_row.ensures in
    let done1 = writes_then {two = flat_map frame_text c.args.dump.now.frames.items} done0 (rw c.deref.ensures.value at c.in_ok-write_frames.ensures) in
    let done2 = writes_then {two = flat_map number c.args.dump.now.free.items} done1 (rw c.deref-2.ensures.value at c.in_ok-write_numbers.ensures) in
    let done3 = writes_then {two = flat_map number c.args.dump.now.modified.items} done2 (rw c.deref-3.ensures.value at c.in_ok-write_numbers-2.ensures) in
    let done4 = writes_then {two = flat_map process_text (map process_of c.args.dump.now.procs.items)} done3 (rw c.deref-4.ensures.value at c.in_ok-write_processes.ensures) in
    let done5 = writes_then {two = number (length c.args.dump.now.flights.items)} done4 (rw count at c.in_ok-write_number.ensures) in
    writes_as refl (ap (λ (head : List ℕ). head ++ flat_map frame_text c.args.dump.now.frames.items ++ flat_map number c.args.dump.now.free.items ++ flat_map number c.args.dump.now.modified.items ++ flat_map process_text (map process_of c.args.dump.now.procs.items) ++ number (length c.args.dump.now.flights.items) ++ flat_map number c.args.dump.now.flights.items) c.head_row.ensures) (writes_then {two = flat_map number c.args.dump.now.flights.items} done5 (rw c.deref-5.ensures.value at c.write_numbers-3.ensures))

pub write_processes-requires : goal.write_processes-requires
write_processes-requires g c = rw c.deref-4.ensures.value (short_each (length c.args.dump.now.frames.items) c.args.dump.now.procs.items c.requires.each_process)
