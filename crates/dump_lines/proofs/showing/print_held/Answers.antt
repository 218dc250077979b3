use Rattle.std.proofs.Common.{List, map, sym, subst}
use Rattle.std.specs.Prelude.{All, codes}
use Rattle.std.proofs.lemmas.Result.{err_from_is_err_and}
use Rattle.outside_io.proofs.WritesInTurn.{writes_then, writes_fault}
use Rattle.dump_bytes.specs.declared.dump.ProcRec.{ProcRec}
use Rattle.dump_bytes.specs.Dumped.{dumped, process_of}
use Rattle.dump_lines.specs.FrameLines.{frame_lines}
use Rattle.dump_lines.specs.ListLines.{list_lines}
use Rattle.dump_lines.specs.ProcessLines.{process_lines}
use Rattle.dump_lines.specs.ShowText.{page_file_line}
use Rattle.dump_lines.specs.Printable.{IsPrintableProcess}
use Rattle.dump_lines.proofs.DumpBounds.{processes_printable}
use Rattle.dump_lines.proofs.showing.print_held.Goals as goal

pub print_processes-requires-clause-printable : goal.print_processes-requires-clause-printable
print_processes-requires-clause-printable g c =
    subst (λ (ps : List ProcRec). All IsPrintableProcess ps) (sym c.deref-4.ensures.value) (processes_printable _ c.args.dump.now.procs.items c.requires.each_process)

pub returns-in_err-print_head : goal.returns-in_err-print_head
returns-in_err-print_head g c =
    let p = err_from_is_err_and c.from_residual.result c.from_residual.ensures.1 in
    let failed0 = c.in_err-print_head.ensures in
    let failed1 = writes_fault (frame_lines 0 c.args.dump.now.frames.items) failed0 in
    let failed2 = writes_fault (list_lines (codes "FREE") c.args.dump.now.free.items) failed1 in
    let failed3 = writes_fault (list_lines (codes "MODIFIED") c.args.dump.now.modified.items) failed2 in
    let failed4 = writes_fault (process_lines 0 (map process_of c.args.dump.now.procs.items)) failed3 in
    let failed5 = writes_fault (page_file_line (dumped c.args.dump.now)) failed4 in
    rw (p.1, p.2) failed5

pub returns-in_err-print_frames : goal.returns-in_err-print_frames
returns-in_err-print_frames g c =
    let p = err_from_is_err_and c.from_residual-in_err-print_frames.result c.from_residual-in_err-print_frames.ensures.1 in
    let done0 = c.in_ok-print_head.ensures in
    let failed1 = writes_then {two = frame_lines 0 c.args.dump.now.frames.items} done0 (rw c.deref.ensures.value at c.in_err-print_frames.ensures) in
    let failed2 = writes_fault (list_lines (codes "FREE") c.args.dump.now.free.items) failed1 in
    let failed3 = writes_fault (list_lines (codes "MODIFIED") c.args.dump.now.modified.items) failed2 in
    let failed4 = writes_fault (process_lines 0 (map process_of c.args.dump.now.procs.items)) failed3 in
    let failed5 = writes_fault (page_file_line (dumped c.args.dump.now)) failed4 in
    rw (p.1, p.2) failed5

pub returns-in_err-print_list : goal.returns-in_err-print_list
returns-in_err-print_list g c =
    let p = err_from_is_err_and c.from_residual-in_err-print_list.result c.from_residual-in_err-print_list.ensures.1 in
    let done0 = c.in_ok-print_head.ensures in
    let done1 = writes_then {two = frame_lines 0 c.args.dump.now.frames.items} done0 (rw c.deref.ensures.value at c.in_ok-print_frames.ensures) in
    let failed2 = writes_then {two = list_lines (codes "FREE") c.args.dump.now.free.items} done1 (rw c.deref-2.ensures.value at c.in_err-print_list.ensures) in
    let failed3 = writes_fault (list_lines (codes "MODIFIED") c.args.dump.now.modified.items) failed2 in
    let failed4 = writes_fault (process_lines 0 (map process_of c.args.dump.now.procs.items)) failed3 in
    let failed5 = writes_fault (page_file_line (dumped c.args.dump.now)) failed4 in
    rw (p.1, p.2) failed5

pub returns-in_err-print_list-2 : goal.returns-in_err-print_list-2
returns-in_err-print_list-2 g c =
    let p = err_from_is_err_and c.from_residual-in_err-print_list-2.result c.from_residual-in_err-print_list-2.ensures.1 in
    let done0 = c.in_ok-print_head.ensures in
    let done1 = writes_then {two = frame_lines 0 c.args.dump.now.frames.items} done0 (rw c.deref.ensures.value at c.in_ok-print_frames.ensures) in
    let done2 = writes_then {two = list_lines (codes "FREE") c.args.dump.now.free.items} done1 (rw c.deref-2.ensures.value at c.in_ok-print_list.ensures) in
    let failed3 = writes_then {two = list_lines (codes "MODIFIED") c.args.dump.now.modified.items} done2 (rw c.deref-3.ensures.value at c.in_err-print_list-2.ensures) in
    let failed4 = writes_fault (process_lines 0 (map process_of c.args.dump.now.procs.items)) failed3 in
    let failed5 = writes_fault (page_file_line (dumped c.args.dump.now)) failed4 in
    rw (p.1, p.2) failed5

pub returns-in_err-print_processes : goal.returns-in_err-print_processes
returns-in_err-print_processes g c =
    let p = err_from_is_err_and c.from_residual-in_err-print_processes.result c.from_residual-in_err-print_processes.ensures.1 in
    let done0 = c.in_ok-print_head.ensures in
    let done1 = writes_then {two = frame_lines 0 c.args.dump.now.frames.items} done0 (rw c.deref.ensures.value at c.in_ok-print_frames.ensures) in
    let done2 = writes_then {two = list_lines (codes "FREE") c.args.dump.now.free.items} done1 (rw c.deref-2.ensures.value at c.in_ok-print_list.ensures) in
    let done3 = writes_then {two = list_lines (codes "MODIFIED") c.args.dump.now.modified.items} done2 (rw c.deref-3.ensures.value at c.in_ok-print_list-2.ensures) in
    let failed4 = writes_then {two = process_lines 0 (map process_of c.args.dump.now.procs.items)} done3 (rw c.deref-4.ensures.value at c.in_err-print_processes.ensures) in
    let failed5 = writes_fault (page_file_line (dumped c.args.dump.now)) failed4 in
    rw (p.1, p.2) failed5

pub returns : goal.returns
returns g c =
    let done0 = c.in_ok-print_head.ensures in
    let done1 = writes_then {two = frame_lines 0 c.args.dump.now.frames.items} done0 (rw c.deref.ensures.value at c.in_ok-print_frames.ensures) in
    let done2 = writes_then {two = list_lines (codes "FREE") c.args.dump.now.free.items} done1 (rw c.deref-2.ensures.value at c.in_ok-print_list.ensures) in
    let done3 = writes_then {two = list_lines (codes "MODIFIED") c.args.dump.now.modified.items} done2 (rw c.deref-3.ensures.value at c.in_ok-print_list-2.ensures) in
    let done4 = writes_then {two = process_lines 0 (map process_of c.args.dump.now.procs.items)} done3 (rw c.deref-4.ensures.value at c.in_ok-print_processes.ensures) in
    writes_then {two = page_file_line (dumped c.args.dump.now)} done4 c.print_page_file.ensures
