-- What is known of a box is known of the value in it.
use Rattle.std.proofs.Common.{List, Box}
use Rattle.vm_journal.specs.declared.entry.Entry.{Entry}
use Rattle.history_lock.specs.declared.view.View.{View}
use Rattle.history_lock.specs.Known.{Known}
use Rattle.history_lock.specs.Values.{of_box}

pub unboxed : {T A B : Type 0} (journal : T → List Entry) (base : T → B) (box : Box T A) (v : View B) → Known (of_box journal) (of_box base) box v → Known journal base box.value v
unboxed journal base box v known = record { base_is = known.base_is; begins = known.begins; own = known.own }
