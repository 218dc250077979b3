use Rattle.std.proofs.Common.{length, ◌∙◌, ap, refl, sym, arith}
use Rattle.std.proofs.lemmas.List.{length-reverse}
use Rattle.std.specs.Option.{option_map}
use Rattle.vm_journal.specs.declared.entry.What.TheVariants as what
use Rattle.vm_types.specs.declared.reply.Answer.TheVariants as answer
use Rattle.state_pages.specs.Shown.{frame_number}
use Rattle.state_fits.specs.Serving.{pin_service}
use Rattle.run_record.specs.RunRecord.{Recorded}
use Rattle.vm_state.specs.History.{entry_by}
use Rattle.vm_state.proofs.Closing.{may_before, next_number, pushed}
use Rattle.vm_state.proofs.DeleteCloses.{frames_in}
use Rattle.vm_state.proofs.PinCloses as close
use Rattle.state_pages.proofs.Looked.{frame_looked}
use Rattle.vm_state.proofs.state.State.repin.Goals as goal
use Rattle.vm_state.proofs.state.State.repin.Goals.{in-Some, in_default}

pub loop-slot-init : goal.loop-slot-init
loop-slot-init g c = record {
  parts = close.none_pinned c.self.invariant c.args.seat c.args.pin c.args.at c.args.pages c.args.count (may_before c.self.view_is c.requires).legal;
  tables = refl;
  store = refl;
  config = refl;
  journal = refl;
  firsts = refl;
  halted = refl;
}

pub page_to_pin-requires : goal.page_to_pin-requires
page_to_pin-requires g c =
    let legal = (may_before c.self.view_is c.requires).legal in
    let within = close.within_first c.self.invariant c.args.seat c.args.pin c.args.at c.args.pages c.args.count legal c.index.result.now c.index.ensures c.slots-slots.result c.loop-slot.slot c.slots-slots.ensures.value c.loop-slot-test.true in
    close.slot_there c.self.invariant c.args.seat c.args.pin c.args.at c.args.pages c.args.count legal c.loop-slot.slot within _ c.loop-slot.invariant.parts c.index_mut-row.result.now c.index_mut-row.ensures.value

pub mark_pin-requires : goal.mark_pin-requires
mark_pin-requires g c =
    let legal = (may_before c.self.view_is c.requires).legal in
    let within = close.within_first c.self.invariant c.args.seat c.args.pin c.args.at c.args.pages c.args.count legal c.index.result.now c.index.ensures c.slots-slots.result c.loop-slot.slot c.slots-slots.ensures.value c.loop-slot-test.true in
    close.slot_there c.self.invariant c.args.seat c.args.pin c.args.at c.args.pages c.args.count legal c.loop-slot.slot within _ c.loop-slot.invariant.parts c.index_mut-row.result.now c.index_mut-row.ensures.value

pub unwrap-f-requires : goal.unwrap-f-requires
unwrap-f-requires g c =
    let legal = (may_before c.self.view_is c.requires).legal in
    let within = close.within_first c.self.invariant c.args.seat c.args.pin c.args.at c.args.pages c.args.count legal c.index.result.now c.index.ensures c.slots-slots.result c.loop-slot.slot c.slots-slots.ensures.value c.loop-slot-test.true in
    close.shown_some c.self.invariant c.args.seat c.args.pin c.args.at c.args.pages c.args.count legal c.loop-slot.slot within _ c.loop-slot.invariant.parts c.index_mut-row.result.now c.index_mut-row.ensures.value
    c.in-Some.vpn (sym c.in-Some.ensures) c.loop-slot.invariant.tables c.frame_in.result (c.frame_in.ensures ∙ frame_looked c.loop-slot.self-inside.tables c.args.seat.0 c.in-Some.vpn c.look.result c.look.ensures.value)

pub count_pin-requires-clause-below : goal.count_pin-requires-clause-below
count_pin-requires-clause-below g c =
    let legal = (may_before c.self.view_is c.requires).legal in
    let within = close.within_first c.self.invariant c.args.seat c.args.pin c.args.at c.args.pages c.args.count legal c.index.result.now c.index.ensures c.slots-slots.result c.loop-slot.slot c.slots-slots.ensures.value c.loop-slot-test.true in
    rw c.frames_mut.ensures.value
    (close.below c.self.invariant c.args.seat c.args.pin c.args.at c.args.pages c.args.count legal c.loop-slot.slot within _ c.loop-slot.invariant.parts c.index_mut-row.result.now c.index_mut-row.ensures.value
    c.in-Some.vpn (sym c.in-Some.ensures) c.loop-slot.invariant.tables c.unwrap-f.result
    (ap (option_map frame_number) (sym c.unwrap-f.ensures) ∙ (c.frame_in.ensures ∙ frame_looked c.loop-slot.self-inside.tables c.args.seat.0 c.in-Some.vpn c.look.result c.look.ensures.value)))

pub count_pin-requires-clause-room : goal.count_pin-requires-clause-room
count_pin-requires-clause-room g c = λ on.
    let legal = (may_before c.self.view_is c.requires).legal in
    let within = close.within_first c.self.invariant c.args.seat c.args.pin c.args.at c.args.pages c.args.count legal c.index.result.now c.index.ensures c.slots-slots.result c.loop-slot.slot c.slots-slots.ensures.value c.loop-slot-test.true in
    rw c.frames_mut.ensures.value
    (close.room c.self.invariant c.args.seat c.args.pin c.args.at c.args.pages c.args.count legal c.loop-slot.slot within _ c.loop-slot.invariant.parts c.index_mut-row.result.now c.index_mut-row.ensures.value
    c.in-Some.vpn (sym c.in-Some.ensures) c.loop-slot.invariant.tables c.unwrap-f.result
    (ap (option_map frame_number) (sym c.unwrap-f.ensures) ∙ (c.frame_in.ensures ∙ frame_looked c.loop-slot.self-inside.tables c.args.seat.0 c.in-Some.vpn c.look.result c.look.ensures.value)) on)

pub count_pin-requires-clause-some : goal.count_pin-requires-clause-some
count_pin-requires-clause-some g c = λ off.
    let legal = (may_before c.self.view_is c.requires).legal in
    let within = close.within_first c.self.invariant c.args.seat c.args.pin c.args.at c.args.pages c.args.count legal c.index.result.now c.index.ensures c.slots-slots.result c.loop-slot.slot c.slots-slots.ensures.value c.loop-slot-test.true in
    rw c.frames_mut.ensures.value
    (close.some_pin c.self.invariant c.args.seat c.args.pin c.args.at c.args.pages c.args.count legal c.loop-slot.slot within _ c.loop-slot.invariant.parts c.index_mut-row.result.now c.index_mut-row.ensures.value
    c.in-Some.vpn (sym c.in-Some.ensures) c.loop-slot.invariant.tables c.unwrap-f.result
    (ap (option_map frame_number) (sym c.unwrap-f.ensures) ∙ (c.frame_in.ensures ∙ frame_looked c.loop-slot.self-inside.tables c.args.seat.0 c.in-Some.vpn c.look.result c.look.ensures.value)) off)

pub loop-slot-preserved : goal.loop-slot-preserved
loop-slot-preserved g c =
    let legal = (may_before c.self.view_is c.requires).legal in
    let within = close.within_first c.self.invariant c.args.seat c.args.pin c.args.at c.args.pages c.args.count legal c.index.result.now c.index.ensures c.slots-slots.result c.loop-slot.slot c.slots-slots.ensures.value c.loop-slot-test.true in
    elim c.match-page_to_pin.branch [
      | in-Some w ↦
          rw w.self-inside-is
          (record {
            parts = close.one_pinned c.self.invariant c.args.seat c.args.pin c.args.at c.args.pages c.args.count legal c.loop-slot.slot within _ c.loop-slot.invariant.parts c.index_mut-row.result.now c.index_mut-row.ensures.value
                w.in-Some.vpn (sym w.in-Some.ensures) c.loop-slot.invariant.tables w.unwrap-f.result
                (ap (option_map frame_number) (sym w.unwrap-f.ensures) ∙ (w.frame_in.ensures ∙ frame_looked c.loop-slot.self-inside.tables c.args.seat.0 w.in-Some.vpn w.look.result w.look.ensures.value))
                w.mark_pin.new.ring w.mark_pin.ensures w.count_pin.new.frames
                (rw (← w.frames_mut.ensures.value) w.count_pin.ensures.rows) (rw (← w.frames_mut.ensures.value) w.count_pin.ensures.free) (rw (← w.frames_mut.ensures.value) w.count_pin.ensures.modified);
            tables = c.loop-slot.invariant.tables;
            store = frames_in c.self.inside.store c.loop-slot.self-inside.store c.loop-slot.self-inside.store.frames w.count_pin.new.frames c.loop-slot.invariant.store;
            config = c.loop-slot.invariant.config;
            journal = c.loop-slot.invariant.journal;
            firsts = c.loop-slot.invariant.firsts;
            halted = c.loop-slot.invariant.halted;
          })
      | in_default w ↦
          rw w.self-inside-is
          (record {
            parts = close.left_written c.self.invariant c.args.seat c.args.pin c.args.at c.args.pages c.args.count legal c.loop-slot.slot within _ c.loop-slot.invariant.parts c.index_mut-row.result.now c.index_mut-row.ensures.value
                (sym c.page_to_pin.ensures ∙ w.in_default.is);
            tables = c.loop-slot.invariant.tables;
            store = c.loop-slot.invariant.store;
            config = c.loop-slot.invariant.config;
            journal = c.loop-slot.invariant.journal;
            firsts = c.loop-slot.invariant.firsts;
            halted = c.loop-slot.invariant.halted;
          })
    ]

pub speak-requires-clause-few : goal.speak-requires-clause-few
speak-requires-clause-few g c =
    let few = close.spoken_few c.self.invariant c.args.seat c.args.pin c.args.at c.args.pages c.args.count (may_before c.self.view_is c.requires).legal c.loop-slot.slot _ c.loop-slot.invariant.parts c.index_mut-spoken.result.now c.index_mut-spoken.ensures.value in
    let same = length-reverse c.self.inside.journal.entries in
    rw c.loop-slot.invariant.journal (omega (arith, few, same))

pub invariant_of-self : goal.invariant_of-self
invariant_of-self g c =
    let may = may_before c.self.view_is c.requires in
    rw c.speak.ensures.row (pushed _ _ (entry_by c.args.seat (what.Served (pin_service c.args.pin c.args.at c.args.pages) (answer.Count c.args.count))) c.speak.new.journal
    (close.pushed_as c.self.inside.journal c.loop-slot.self-inside.journal c.speak.new.journal c.args.seat c.pin_service-s.result _ _ c.pin_service-s.ensures c.loop-slot.invariant.journal c.speak.ensures.entry)
    (close.pin_closes c.self.invariant c.args.seat c.args.pin c.args.at c.args.pages c.args.count may.legal may.paid c.loop-slot.slot
    (let least = c.loop-slot-test.false in let most = c.loop-slot.auto.slot-end in let many = c.slots-slots.ensures.value in let are = close.slots_are c.self.invariant c.args.seat c.args.pin c.args.at c.args.pages c.args.count may.legal c.index.result.now c.index.ensures in omega (arith, least, most, many, are)) _ c.loop-slot.invariant.parts
    _ c.loop-slot.invariant.config _ c.loop-slot.invariant.firsts _ _ c.loop-slot.invariant.store
    c.index_mut-spoken.result.now c.index_mut-spoken.ensures.value _ (next_number _ _ (ap (λ (j : Recorded). length j.entries) c.loop-slot.invariant.journal))))
