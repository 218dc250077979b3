use Rattle.std.proofs.Common.{length}
use Rattle.vm_state.specs.History.{pager}
use Rattle.serial_moves.proofs.FoundFrames.{by_leaving, by_nobody, by_victim, by_writer, leaver_found, none_listed, some_listed}
use Rattle.serial_moves.proofs.finding.who_finds.Goals as goal

pub returns-then-modified_len-gt0-clause-move_is : goal.returns-then-modified_len-gt0-clause-move_is
returns-then-modified_len-gt0-clause-move_is g c =
    λ seat ends doing none. by_writer c.args.state.now.config c.args.state.now.past (pager c.args.state.now) seat (c.args.p).0 ends doing none
    (some_listed c.modified_len.result (length (pager c.args.state.now).modified) c.modified_len.ensures c.if-modified_len-gt0.true)

pub returns-in-Some-clause-move_is : goal.returns-in-Some-clause-move_is
returns-in-Some-clause-move_is g c =
    λ seat ends doing none. by_leaving c.args.state.now.config c.args.state.now.past (pager c.args.state.now) seat (c.args.p).0 ends doing none c.in-Some.q
    (none_listed c.modified_len.result (length (pager c.args.state.now).modified) c.modified_len.ensures c.if-modified_len-gt0.false) c.in-Some.ensures

pub returns-in-Some-clause-there : goal.returns-in-Some-clause-there
returns-in-Some-clause-there g c = leaver_found c.args.state.now.config (pager c.args.state.now) (c.args.p).0 c.in-Some.q c.in-Some.ensures

pub returns-in-Some-victim-clause-move_is : goal.returns-in-Some-victim-clause-move_is
returns-in-Some-victim-clause-move_is g c =
    λ seat ends doing none. by_victim c.args.state.now.config c.args.state.now.past (pager c.args.state.now) seat (c.args.p).0 ends doing none c.in-Some-victim.q
    (none_listed c.modified_len.result (length (pager c.args.state.now).modified) c.modified_len.ensures c.if-modified_len-gt0.false) c.in-None.ensures c.in-Some-victim.ensures

pub returns-in-None-victim-clause-move_is : goal.returns-in-None-victim-clause-move_is
returns-in-None-victim-clause-move_is g c =
    λ seat ends doing none. by_nobody c.args.state.now.config c.args.state.now.past (pager c.args.state.now) seat (c.args.p).0 ends doing none
    (none_listed c.modified_len.result (length (pager c.args.state.now).modified) c.modified_len.ensures c.if-modified_len-gt0.false) c.in-None.ensures c.in-None-victim.ensures
