use Rattle.std.proofs.Common.{◌<◌, length, sym, ap, ◌∙◌, subst, arith}
use Rattle.pager_policy.specs.WriteCluster.{begin_gives, reason_high}
use Rattle.vm_state.specs.History.{History, pager}
use Rattle.serial_moves.proofs.AfterAnswers.{as_before, enough_room, frees_next, goes_here, goes_comes, here_as, may_begin, comes_as, never_room, save_loaded_at, save_may, save_moved, still_steady, unchanged}
use Rattle.serial_moves.proofs.IdleCarriers.{carrier_there, emptied_again, empty_at, idle_then, kept_at, read_again, written_there}
use Rattle.serial_moves.proofs.answers.save.Goals as goal

-- ---- the writer's part doesn't begin
pub free-requires-clause-here : goal.free-requires-clause-here
free-requires-clause-here g c κs within =
    here_as c.args.state.now _ _ (frees_next c.args.state.now.config c.args.state.now.past (pager c.args.state.now) c.args.begun (c.args.p).0 (sym c.is_saving.ensures ∙ c.if-not-is_saving.true)) c.requires.here

pub returns-then-not-is_saving-clause-comes : goal.returns-then-not-is_saving-clause-comes
returns-then-not-is_saving-clause-comes g c =
    comes_as g.B.Block.tells.content c.args.state.now c.free.new.state _ _ c.free.result
    (frees_next c.args.state.now.config c.args.state.now.past (pager c.args.state.now) c.args.begun (c.args.p).0 (sym c.is_saving.ensures ∙ c.if-not-is_saving.true)) c.free.ensures.comes

-- ---- a cluster begins
pub bounds-carriers-seat : goal.bounds-carriers-seat
bounds-carriers-seat g c = carrier_there c.args.state.now c.args.carriers.now c.requires.may.carriers c.processes.result (let count = c.processes.ensures.count in omega (arith, count))

pub begin-requires-clause-idle : goal.begin-requires-clause-idle
begin-requires-clause-idle g c κs within = may_begin c.args.state.now (record { 0 = c.processes.result }) c.requires.may.steady (let count = c.processes.ensures.count in omega (arith, count))

pub begin-requires-clause-carrier : goal.begin-requires-clause-carrier
begin-requires-clause-carrier g c κs within =
    empty_at c.args.state.now c.args.carriers.now c.requires.may.carriers c.processes.result c.index-carriers-seat.result (let count = c.processes.ensures.count in omega (arith, count))

-- ---- and is carried
pub bounds-carriers-seat-in-Carry : goal.bounds-carriers-seat-in-Carry
bounds-carriers-seat-in-Carry g c =
    written_there c.args.state.now c.args.carriers.now c.requires.may.carriers c.processes.result c.begin.new.carrier (let count = c.processes.ensures.count in omega (arith, count))

pub carry_on-requires-clause-loaded : goal.carry_on-requires-clause-loaded
carry_on-requires-clause-loaded g c κs within =
    save_loaded_at c.args.state.now c.begin.new.state (record { 0 = c.processes.result }) _ c.begin.new.carrier c.args.begun (c.args.p).0 c.requires.may.steady (sym c.is_saving.ensures ∙ c.if-not-is_saving.false) c.processes.ensures.count
    (empty_at c.args.state.now c.args.carriers.now c.requires.may.carriers c.processes.result c.index-carriers-seat.result (let count = c.processes.ensures.count in omega (arith, count)))
    (c.in-Carry.ensures.gives (enough_room c.args.state.now c.requires.may.steady)) _
    (read_again c.args.state.now c.args.carriers.now c.requires.may.carriers c.processes.result c.begin.new.carrier c.index-carriers-seat-in-Carry.result (let count = c.processes.ensures.count in omega (arith, count)))

pub carry_on-requires-clause-may : goal.carry_on-requires-clause-may
carry_on-requires-clause-may g c κs within =
    save_may c.args.state.now c.begin.new.state (record { 0 = c.processes.result }) _ c.begin.new.carrier c.args.begun (c.args.p).0 c.requires.may.steady (sym c.is_saving.ensures ∙ c.if-not-is_saving.false) c.processes.ensures.count
    (empty_at c.args.state.now c.args.carriers.now c.requires.may.carriers c.processes.result c.index-carriers-seat.result (let count = c.processes.ensures.count in omega (arith, count)))
    (c.in-Carry.ensures.gives (enough_room c.args.state.now c.requires.may.steady)) c.requires.here

pub returns-in_err-next-in-Carry-clause-carriers : goal.returns-in_err-next-in-Carry-clause-carriers
returns-in_err-next-in-Carry-clause-carriers g c =
    emptied_again c.args.state.now c.args.carriers.now c.requires.may.carriers c.processes.result c.begin.new.carrier c.carry_on.new.carrier (let count = c.processes.ensures.count in omega (arith, count)) c.carry_on.ensures.carrier

pub returns-in_ok-next-in-Carry-clause-carriers : goal.returns-in_ok-next-in-Carry-clause-carriers
returns-in_ok-next-in-Carry-clause-carriers g c =
    emptied_again c.args.state.now c.args.carriers.now c.requires.may.carriers c.processes.result c.begin.new.carrier c.carry_on.new.carrier (let count = c.processes.ensures.count in omega (arith, count)) c.carry_on.ensures.carrier

pub returns-in_ok-next-in-Carry-clause-comes : goal.returns-in_ok-next-in-Carry-clause-comes
returns-in_ok-next-in-Carry-clause-comes g c =
    save_moved c.args.state.now c.begin.new.state (record { 0 = c.processes.result }) _ c.begin.new.carrier c.args.begun (c.args.p).0 c.requires.may.steady (sym c.is_saving.ensures ∙ c.if-not-is_saving.false) c.processes.ensures.count
    (empty_at c.args.state.now c.args.carriers.now c.requires.may.carriers c.processes.result c.index-carriers-seat.result (let count = c.processes.ensures.count in omega (arith, count)))
    (c.in-Carry.ensures.gives (enough_room c.args.state.now c.requires.may.steady)) c.carry_on.new.state _ c.in_ok-next-in-Carry.ensures.carried

-- ---- or nothing is written
pub free-requires-in-Nothing-clause-may : goal.free-requires-in-Nothing-clause-may
free-requires-in-Nothing-clause-may g c κs within = record {
  steady =
      still_steady c.args.state.now c.begin.new.state (record { 0 = c.processes.result }) _ c.begin.new.carrier c.args.begun (c.args.p).0 c.requires.may.steady (sym c.is_saving.ensures ∙ c.if-not-is_saving.false)
      (c.in-Nothing.ensures.gives (enough_room c.args.state.now c.requires.may.steady));
  process =
      subst (λ (x : History). (c.args.p).0 < length x.config.procs)
      (sym (unchanged c.args.state.now c.begin.new.state (record { 0 = c.processes.result }) _ c.begin.new.carrier c.args.begun (c.args.p).0 c.requires.may.steady (sym c.is_saving.ensures ∙ c.if-not-is_saving.false)
      (c.in-Nothing.ensures.gives (enough_room c.args.state.now c.requires.may.steady)))) c.requires.may.process;
  carriers =
      idle_then c.args.state.now c.args.carriers.now c.requires.may.carriers c.begin.new.state _
      (ap (λ (x : History). x.config)
      (unchanged c.args.state.now c.begin.new.state (record { 0 = c.processes.result }) _ c.begin.new.carrier c.args.begun (c.args.p).0 c.requires.may.steady (sym c.is_saving.ensures ∙ c.if-not-is_saving.false)
      (c.in-Nothing.ensures.gives (enough_room c.args.state.now c.requires.may.steady))))
      (kept_at c.args.state.now c.args.carriers.now c.requires.may.carriers c.processes.result c.index-carriers-seat.result c.begin.new.carrier
      (as_before c.args.state.now c.begin.new.state (record { 0 = c.processes.result }) _ c.begin.new.carrier c.args.begun (c.args.p).0 c.requires.may.steady (sym c.is_saving.ensures ∙ c.if-not-is_saving.false)
      (c.in-Nothing.ensures.gives (enough_room c.args.state.now c.requires.may.steady))));
}

pub free-requires-in-Nothing-clause-here : goal.free-requires-in-Nothing-clause-here
free-requires-in-Nothing-clause-here g c κs within =
    goes_here c.args.state.now c.begin.new.state (record { 0 = c.processes.result }) _ c.begin.new.carrier c.args.begun (c.args.p).0 c.requires.may.steady (sym c.is_saving.ensures ∙ c.if-not-is_saving.false)
    (c.in-Nothing.ensures.gives (enough_room c.args.state.now c.requires.may.steady)) c.requires.here

pub returns-in-Nothing-clause-carriers : goal.returns-in-Nothing-clause-carriers
returns-in-Nothing-clause-carriers g c =
    c.free-in-Nothing.ensures.carriers
    ∙ kept_at c.args.state.now c.args.carriers.now c.requires.may.carriers c.processes.result c.index-carriers-seat.result c.begin.new.carrier
    (as_before c.args.state.now c.begin.new.state (record { 0 = c.processes.result }) _ c.begin.new.carrier c.args.begun (c.args.p).0 c.requires.may.steady (sym c.is_saving.ensures ∙ c.if-not-is_saving.false)
    (c.in-Nothing.ensures.gives (enough_room c.args.state.now c.requires.may.steady)))

pub returns-in-Nothing-clause-comes : goal.returns-in-Nothing-clause-comes
returns-in-Nothing-clause-comes g c =
    goes_comes c.args.state.now c.begin.new.state (record { 0 = c.processes.result }) _ c.begin.new.carrier c.args.begun (c.args.p).0 c.requires.may.steady (sym c.is_saving.ensures ∙ c.if-not-is_saving.false)
    (c.in-Nothing.ensures.gives (enough_room c.args.state.now c.requires.may.steady)) c.free-in-Nothing.new.state c.free-in-Nothing.result c.free-in-Nothing.ensures.comes

-- ---- there is room
pub unreachable-requires : goal.unreachable-requires
unreachable-requires g c = never_room (begin_gives c.args.state.now.config (pager c.args.state.now) reason_high).answer (c.in-Room.ensures.gives (enough_room c.args.state.now c.requires.may.steady)).answer
