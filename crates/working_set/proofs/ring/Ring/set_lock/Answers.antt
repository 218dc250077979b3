use Rattle.std.proofs.Common.{◌∙◌, ◌≡◌, None, ap, get_or, sym, rules}
use Rattle.std.specs.Option.{IsSome}
use Rattle.std.proofs.lemmas.List.{get_or_read}
use Rattle.vm_types.specs.Ring.{is_fixed}
use Rattle.working_set.proofs.Counts.{fixed_within, slot-lt-length}
use Rattle.working_set.proofs.ring.Ring.set_lock.Goals as goal
use mir.Val.{bool_byte}

-- there are no more marked pages than slots, before and after
pub overflow_add-self : goal.overflow_add-self
overflow_add-self c =
    let slots = c.self.inside.slots.items in
    let filled : IsSome (get_or slots c.args.slot None) = search rules in
    let exists = slot-lt-length slots c.args.slot filled in
    let is = sym c.in-Some.is ∙ get_or_read slots c.args.slot c.index.result.now exists c.index.ensures None in
    let was : c.from.result ≡ bool_byte (is_fixed c.in-Some.held) = c.from.ensures ∙ ap bool_byte c.is_fixed.ensures in
    let now = c.from-in-Some.ensures in
    let within = fixed_within slots c.args.slot c.in-Some.held c.is_fixed-in-Some.result exists is in
    search rules
