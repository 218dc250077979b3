use Rattle.std.proofs.Common.{List, ap, sym, ◌++◌, ◌∙◌, map}
use Rattle.std.proofs.lemmas.List.{append-nil}
use Rattle.vm_journal.specs.declared.entry.What.{What}
use Rattle.vm_state.specs.History.{pager}
use Rattle.vm_state.specs.LiftsLand.{added_each}
use Rattle.call_begins.specs.Lifted.{place_of, places_in}
use Rattle.call_begins.proofs.Heads.{head_there, none_there}
use Rattle.call_begins.proofs.OneReads.{can_take, has_each, has_taken, is_made, is_paid, may_read, may_reuse_first, none_read, one_longer}
use Rattle.call_begins.proofs.begins.read_one.Goals as goal

pub reuse_first-requires-clause-head : goal.reuse_first-requires-clause-head
reuse_first-requires-clause-head g c κs within = head_there (pager c.args.state.now).free c.in-Some.f c.in-Some.ensures

pub reuse_first-requires-clause-may : goal.reuse_first-requires-clause-may
reuse_first-requires-clause-may g c κs within =
    may_reuse_first c.args.state.now c.args.seat c.in-Some.f c.args.block c.args.role (head_there (pager c.args.state.now).free c.in-Some.f c.in-Some.ensures) c.requires.may

pub begin_in-requires-clause-may : goal.begin_in-requires-clause-may
begin_in-requires-clause-may g c κs within =
    may_read c.args.state.now c.args.seat c.in-Some.f c.args.block c.args.role (head_there (pager c.args.state.now).free c.in-Some.f c.in-Some.ensures)
    c.reuse_first.new.state c.reuse_first.ensures c.requires.may c.requires.paid

pub begin_in-requires-clause-room : goal.begin_in-requires-clause-room
begin_in-requires-clause-room g c κs within = can_take c.args.state.now c.args.seat c.args.carrier.now c.requires.begun c.requires.few

pub returns-in-Some-clause-made : goal.returns-in-Some-clause-made
returns-in-Some-clause-made g c =
    is_made c.args.state.now c.args.seat c.in-Some.f c.args.block c.args.role (head_there (pager c.args.state.now).free c.in-Some.f c.in-Some.ensures)
    c.reuse_first.new.state c.reuse_first.ensures c.requires.may c.begin_in.new.self c.begin_in.ensures.state

pub returns-in-Some-clause-begun : goal.returns-in-Some-clause-begun
returns-in-Some-clause-begun g c =
    has_taken c.args.state.now c.args.seat c.in-Some.f c.args.block c.args.role (head_there (pager c.args.state.now).free c.in-Some.f c.in-Some.ensures)
    c.reuse_first.new.state c.begin_in.new.self c.args.carrier.now c.begin_in.ensures.lift.0 c.reuse_first.ensures c.begin_in.ensures.state c.begin_in.ensures.lift.1
    c.begin_in.new.carrier c.begin_in.ensures.lift.2 c.run_law.ensures.formed c.run_law.ensures.run c.requires.may c.requires.begun

pub returns-in-Some-clause-each : goal.returns-in-Some-clause-each
returns-in-Some-clause-each g c =
    has_each c.args.state.now c.args.seat c.in-Some.f c.args.block c.args.role (head_there (pager c.args.state.now).free c.in-Some.f c.in-Some.ensures)
    c.reuse_first.new.state c.begin_in.new.self c.args.carrier.now c.begin_in.ensures.lift.0 c.reuse_first.ensures c.begin_in.ensures.state c.begin_in.ensures.lift.1
    c.begin_in.new.carrier c.begin_in.ensures.lift.2

pub returns-in-Some-clause-few : goal.returns-in-Some-clause-few
returns-in-Some-clause-few g c = one_longer c.args.carrier.now c.begin_in.new.carrier c.begin_in.ensures.lift.0 c.begin_in.ensures.lift.2

pub returns-in-Some-clause-paid : goal.returns-in-Some-clause-paid
returns-in-Some-clause-paid g c =
    is_paid c.args.state.now c.args.seat c.in-Some.f c.args.block c.args.role (head_there (pager c.args.state.now).free c.in-Some.f c.in-Some.ensures)
    c.reuse_first.new.state c.reuse_first.ensures c.requires.may c.begin_in.new.self c.begin_in.ensures.state c.requires.paid

pub returns-in-None-clause-made : goal.returns-in-None-clause-made
returns-in-None-clause-made g c =
    ap (λ (ws : List What). added_each c.args.seat ws c.args.state.now) (sym (none_read c.args.state.now c.args.block c.args.role (none_there (pager c.args.state.now).free c.in-None.ensures)))

pub returns-in-None-clause-each : goal.returns-in-None-clause-each
returns-in-None-clause-each g c =
    sym (append-nil (map place_of c.args.carrier.now.lifts))
    ∙ ap (λ (ws : List What). map place_of c.args.carrier.now.lifts ++ places_in ws) (sym (none_read c.args.state.now c.args.block c.args.role (none_there (pager c.args.state.now).free c.in-None.ensures)))
