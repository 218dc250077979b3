use Rattle.std.proofs.Common.{rules, ◌≡◌, ℕ, length, ap, ◌∙◌}
use Rattle.history_lock.proofs.Places.{last_there, still_there}
use Rattle.vm_state.specs.Based.{base_of}
use Rattle.call_begins.specs.MayBegin.{empty}
use Rattle.thread_tests.proofs.Seating.{seated_first}
use Rattle.thread_tests.proofs.desks.last_desk.Goals as goal

pub returns-clause-fresh : goal.returns-clause-fresh
returns-clause-fresh g c = λ i pass at. c.requires.fresh i pass (still_there c.take_last-pass.new.items.items c.args.passes.now.items c.take_last-pass.result pass i c.take_last-pass.ensures at)

pub returns-clause-seated : goal.returns-clause-seated
returns-clause-seated g c =
    let left = c.take_last-pass.new.items.items in
    let number : c.len.result ≡ length left = search rules in
    seated_first c.args._lock.now (base_of c.args._of.now.value) (length left) c.take_last-pass.result c.in_ok-carrier.carrier (c.requires.fresh (length left) c.take_last-pass.result (last_there left c.args.passes.now.items c.take_last-pass.result c.take_last-pass.ensures))
    (c.in_ok-carrier.ensures ∙ ap (λ (n : ℕ). empty (record { 0 = n })) number)
