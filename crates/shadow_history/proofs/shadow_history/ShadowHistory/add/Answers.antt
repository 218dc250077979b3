use Rattle.std.proofs.Common.{◌+◌, ◌<◌, ◌^◌, List, length, sym, subst, arith}
use Rattle.vm_journal.specs.declared.entry.Entry.{Entry}
use Rattle.pager_model.specs.Flights.{open_flights}
use Rattle.shadow_history.specs.Standing.{FailsOpen, Passed, StandsFor}
use Rattle.shadow_history.proofs.Standing.{row_small, stands_after}
use Rattle.shadow_history.proofs.shadow_history.ShadowHistory.add.Goals as goal

pub carry-requires-clause-small : goal.carry-requires-clause-small
carry-requires-clause-small c row is =
    let s = c.self.inside in
    let within = subst (λ (v : Passed). (c.args.e.seat).0 < length v.config.procs + 2) (sym c.self.view_is) c.requires.seat in
    let few : length c.self.inside.past.entries + 1 < 2 ^ 48 = subst (λ (v : Passed). length v.past + 1 < 2 ^ 48) (sym c.self.view_is) c.requires.few in
    row_small s.past.entries _ (c.args.e.seat).0 (2 ^ 48) s.carriers.items row c.self.invariant.rows within (omega (arith, few)) is

-- what stands for the past stands, with the entry, for the longer one
pub invariant_of-self-2 : goal.invariant_of-self-2
invariant_of-self-2 c =
    let s = c.self.inside in
    let within = subst (λ (v : Passed). (c.args.e.seat).0 < length v.config.procs + 2) (sym c.self.view_is) c.requires.seat in
    let fails = subst (λ (v : Passed). FailsOpen (c.args.e).what (open_flights v.past)) (sym c.self.view_is) c.requires.fails_open in
    subst (λ (past : List Entry). StandsFor c.self.inside.config.now past (c.self.inside.count + 1) c.add.new.self c.failed_by-failed.result c.carry.new.rows.items c.count_failure.new.counts.items c.add-2.new.self) (sym c.then-self-inside.ensures)
    (stands_after s.config.now s.past.entries c.args.e s.count c.is_busy-busy.result s.flights c.add.new.self s.failed c.failed_by-failed.result s.carriers.items c.carry.new.rows.items s.counts.items c.count_failure.new.counts.items s.orders c.add-2.new.self
    c.self.invariant within fails c.is_busy-busy.ensures c.failed_by-failed.ensures c.in_ok-add.ensures.ok c.carry.ensures c.in_ok-count_failure.ensures.ok c.add-2.ensures.spoken c.add-2.ensures.quiet)
