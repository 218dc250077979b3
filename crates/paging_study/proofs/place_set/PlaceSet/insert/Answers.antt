use Rattle.std.proofs.Common.{◌≡◌, ◌<◌, ◌+◌, ℕ, Bool, not, ◌∙◌, List, length, set, true, sym, subst, ap, arith, rules}
use Rattle.paging_study.specs.Places.{one_if}
use Rattle.paging_study.specs.Bits.{is_set, flags_of}
use Rattle.paging_study.proofs.Forward.{one_if-le}
use Rattle.paging_study.proofs.Levels.{word_of, top_of, root_of, crown_of, few, flags_set, inserted}
use Rattle.paging_study.proofs.place_set.PlaceSet.insert.Goals as goal

pub has_bit-requires : goal.has_bit-requires
has_bit-requires c = word_of c.self.inside.words.items c.args.i (subst (λ (flags : List Bool). c.args.i < length flags) (sym c.self.view_is) c.requires)

pub overflow_add-self : goal.overflow_add-self
overflow_add-self c =
    let more : c.from.result ≡ one_if (not c.has_bit.result) = search rules in
    omega (arith, more, one_if-le (not c.has_bit.result), few c.self.inside.words.items c.self.inside.tops.items c.self.inside.roots.items c.self.inside.crowns.items c.self.inside.count c.args.i c.self.invariant)

pub set_bit-requires : goal.set_bit-requires
set_bit-requires c = word_of c.self.inside.words.items c.args.i (subst (λ (flags : List Bool). c.args.i < length flags) (sym c.self.view_is) c.requires)

pub set_bit-requires-2 : goal.set_bit-requires-2
set_bit-requires-2 c =
    let word = word_of c.self.inside.words.items c.args.i (subst (λ (flags : List Bool). c.args.i < length flags) (sym c.self.view_is) c.requires) in
    top_of c.self.inside.words.items c.self.inside.tops.items c.self.inside.roots.items c.self.inside.crowns.items c.self.inside.count c.args.i c.self.invariant word

pub set_bit-requires-3 : goal.set_bit-requires-3
set_bit-requires-3 c =
    let word = word_of c.self.inside.words.items c.args.i (subst (λ (flags : List Bool). c.args.i < length flags) (sym c.self.view_is) c.requires) in
    root_of c.self.inside.words.items c.self.inside.tops.items c.self.inside.roots.items c.self.inside.crowns.items c.self.inside.count c.args.i c.self.invariant word

pub set_bit-requires-4 : goal.set_bit-requires-4
set_bit-requires-4 c =
    let word = word_of c.self.inside.words.items c.args.i (subst (λ (flags : List Bool). c.args.i < length flags) (sym c.self.view_is) c.requires) in
    crown_of c.self.inside.words.items c.self.inside.tops.items c.self.inside.roots.items c.self.inside.crowns.items c.self.inside.count c.args.i c.self.invariant word

pub invariant_of-self : goal.invariant_of-self
invariant_of-self c =
    let within : c.args.i < length (flags_of c.self.inside.words.items) = subst (λ (flags : List Bool). c.args.i < length flags) (sym c.self.view_is) c.requires in
    let more : c.from.result ≡ one_if (not c.has_bit.result) = search rules in
    let count : c.self.inside.count + c.from.result ≡ c.self.inside.count + one_if (not (is_set c.self.inside.words.items c.args.i)) =
    ap (λ (k : ℕ). c.self.inside.count + k) (more ∙ ap (λ (b : Bool). one_if (not b)) c.has_bit.ensures) in
    let low = c.set_bit.ensures in
    let mid = c.set_bit-2.ensures in
    let top = c.set_bit-3.ensures in
    let crown = c.set_bit-4.ensures in
    inserted c.self.inside.words.items c.self.inside.tops.items c.self.inside.roots.items c.self.inside.crowns.items c.self.inside.count c.args.i c.self.invariant
    c.set_bit.new.words.items c.set_bit-2.new.words.items c.set_bit-3.new.words.items c.set_bit-4.new.words.items
    (record { bits = low.bits; others = low.others; some = low.some; len = low.len })
    (record { bits = mid.bits; others = mid.others; some = mid.some; len = mid.len })
    (record { bits = top.bits; others = top.others; some = top.some; len = top.len })
    (record { bits = crown.bits; others = crown.others; some = crown.some; len = crown.len })
    within (c.self.inside.count + c.from.result) count

pub returns : goal.returns
returns c =
    let within : c.args.i < length (flags_of c.self.inside.words.items) = subst (λ (flags : List Bool). c.args.i < length flags) (sym c.self.view_is) c.requires in
    subst (λ (flags : List Bool). flags_of c.set_bit.new.words.items ≡ set flags c.args.i true) c.self.view_is
    (flags_set c.self.inside.words.items c.set_bit.new.words.items c.args.i within c.set_bit.ensures.len c.set_bit.ensures.bits)
