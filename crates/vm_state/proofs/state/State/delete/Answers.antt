use Rattle.std.proofs.Common.{length, ap, ◌+◌, ◌/◌, ◌∙◌, refl, sym, subst, arith}
use Rattle.std.proofs.lemmas.List.{length-reverse}
use Rattle.std.specs.Prelude.{IsSome}
use Rattle.vm_types.specs.declared.limits.TheConstants.{PAGE_BYTES}
use Rattle.vm_journal.specs.declared.entry.What.TheVariants as what
use Rattle.vm_types.specs.declared.reply.Answer.TheVariants as answer
use Rattle.vm_types.specs.declared.service.Service.TheVariants as service
use Rattle.run_record.specs.RunRecord.{Recorded}
use Rattle.vm_state.specs.History.{entry_by}
use Rattle.vm_state.proofs.Closing.{may_before, next_number, pushed}
use Rattle.vm_state.proofs.DeleteCloses as close
use Rattle.state_pages.proofs.Looked.{looked}
use Rattle.vm_state.proofs.state.State.delete.Goals as goal

pub loop-n-init : goal.loop-n-init
loop-n-init g c = record {
  parts = close.none_deleted c.self.invariant c.args.seat c.args.at c.args.pages (may_before c.self.view_is c.requires).legal;
  store = refl;
  config = refl;
  journal = refl;
  firsts = refl;
  halted = refl;
}

pub unwrap-place-requires : goal.unwrap-place-requires
unwrap-place-requires g c =
    subst IsSome (sym (looked c.loop-n.self-inside.tables c.args.seat.0 (c.args.at.0 / PAGE_BYTES + c.loop-n.n) c.look.result c.entry_in.result c.look.ensures.value c.entry_in.ensures))
    (close.can_unmap c.self.invariant c.args.seat c.args.at c.args.pages (may_before c.self.view_is c.requires).legal c.loop-n.n c.loop-n-test.true _ c.loop-n.invariant.parts).0

pub empty_frame-requires-clause-below : goal.empty_frame-requires-clause-below
empty_frame-requires-clause-below g c = λ f named.
    rw c.frames_mut.ensures.value
    (close.can_empty c.self.invariant c.args.seat c.args.at c.args.pages (may_before c.self.view_is c.requires).legal c.loop-n.n c.loop-n-test.true _ c.loop-n.invariant.parts
    c.unwrap-place.result (sym (looked c.loop-n.self-inside.tables c.args.seat.0 (c.args.at.0 / PAGE_BYTES + c.loop-n.n) c.look.result c.entry_in.result c.look.ensures.value c.entry_in.ensures) ∙ c.unwrap-place.ensures) f named).0

pub empty_frame-requires-clause-state : goal.empty_frame-requires-clause-state
empty_frame-requires-clause-state g c = λ f named.
    rw c.frames_mut.ensures.value
    (close.can_empty c.self.invariant c.args.seat c.args.at c.args.pages (may_before c.self.view_is c.requires).legal c.loop-n.n c.loop-n-test.true _ c.loop-n.invariant.parts
    c.unwrap-place.result (sym (looked c.loop-n.self-inside.tables c.args.seat.0 (c.args.at.0 / PAGE_BYTES + c.loop-n.n) c.look.result c.entry_in.result c.look.ensures.value c.entry_in.ensures) ∙ c.unwrap-place.ensures) f named).1

pub empty_frame-requires-clause-flights : goal.empty_frame-requires-clause-flights
empty_frame-requires-clause-flights g c = λ f named.
    rw c.frames_mut.ensures.value
    (close.can_empty c.self.invariant c.args.seat c.args.at c.args.pages (may_before c.self.view_is c.requires).legal c.loop-n.n c.loop-n-test.true _ c.loop-n.invariant.parts
    c.unwrap-place.result (sym (looked c.loop-n.self-inside.tables c.args.seat.0 (c.args.at.0 / PAGE_BYTES + c.loop-n.n) c.look.result c.entry_in.result c.look.ensures.value c.entry_in.ensures) ∙ c.unwrap-place.ensures) f named).2

pub uncharge-requires-clause-assigned : goal.uncharge-requires-clause-assigned
uncharge-requires-clause-assigned g c = λ p b found assigned.
    close.can_release c.self.invariant c.args.seat c.args.at c.args.pages (may_before c.self.view_is c.requires).legal c.loop-n.n c.loop-n-test.true _ c.loop-n.invariant.parts p (sym c.at-kept.ensures.value ∙ found) b assigned

pub uncharge-requires-clause-charged : goal.uncharge-requires-clause-charged
uncharge-requires-clause-charged g c = λ p found.
    close.can_uncharge c.self.invariant c.args.seat c.args.at c.args.pages (may_before c.self.view_is c.requires).legal c.loop-n.n c.loop-n-test.true _ c.loop-n.invariant.parts p (sym c.at-kept.ensures.value ∙ found)

pub forget-requires : goal.forget-requires
forget-requires g c =
    (close.can_unmap c.self.invariant c.args.seat c.args.at c.args.pages (may_before c.self.view_is c.requires).legal c.loop-n.n c.loop-n-test.true _ c.loop-n.invariant.parts).1

pub loop-n-preserved : goal.loop-n-preserved
loop-n-preserved g c = record {
  parts = close.one_deleted c.self.invariant c.args.seat c.args.at c.args.pages (may_before c.self.view_is c.requires).legal c.loop-n.n c.loop-n-test.true _ c.loop-n.invariant.parts
      c.unwrap-place.result (sym (looked c.loop-n.self-inside.tables c.args.seat.0 (c.args.at.0 / PAGE_BYTES + c.loop-n.n) c.look.result c.entry_in.result c.look.ensures.value c.entry_in.ensures) ∙ c.unwrap-place.ensures)
      c.at-kept.result c.at-kept.ensures.value c.empty_frame.new.frames (rw (← c.frames_mut.ensures.value) c.empty_frame.ensures.emptied) c.uncharge.new.file c.uncharge.ensures.uncharged
      c.unmap.new.self c.unmap.ensures.procs c.unmap.ensures.changed c.forget.new.self c.forget.ensures.procs c.forget.ensures.parts c.forget.ensures.changed
      c.set.new.self c.set.ensures;
  store = close.frames_in c.self.inside.store c.loop-n.self-inside.store c.loop-n.self-inside.store.frames c.empty_frame.new.frames c.loop-n.invariant.store;
  config = c.loop-n.invariant.config;
  journal = c.loop-n.invariant.journal;
  firsts = c.loop-n.invariant.firsts;
  halted = c.loop-n.invariant.halted;
}

pub speak-requires-clause-few : goal.speak-requires-clause-few
speak-requires-clause-few g c =
    let few = close.spoken_few c.self.invariant c.args.seat c.args.at c.args.pages (may_before c.self.view_is c.requires).legal c.loop-n.n _ c.loop-n.invariant.parts c.index_mut-spoken.result.now c.index_mut-spoken.ensures.value in
    let same = length-reverse c.self.inside.journal.entries in
    rw c.loop-n.invariant.journal (omega (arith, few, same))

pub invariant_of-self : goal.invariant_of-self
invariant_of-self g c =
    let may = may_before c.self.view_is c.requires in
    rw c.speak.ensures.row (pushed _ _ (entry_by c.args.seat (what.Served (service.Delete c.args.at c.args.pages) answer.Good)) c.speak.new.journal
    (close.pushed_on c.self.inside.journal c.loop-n.self-inside.journal c.speak.new.journal _ c.loop-n.invariant.journal c.speak.ensures.entry)
    (close.delete_closes c.self.invariant c.args.seat c.args.at c.args.pages may.legal may.paid c.loop-n.n (let least = c.loop-n-test.false in let most = c.loop-n.auto.n-end in omega (arith, least, most)) _ c.loop-n.invariant.parts
    _ c.loop-n.invariant.config _ c.loop-n.invariant.firsts _ _ c.loop-n.invariant.store
    c.index_mut-spoken.result.now c.index_mut-spoken.ensures.value _ (next_number _ _ (ap (λ (j : Recorded). length j.entries) c.loop-n.invariant.journal))))
