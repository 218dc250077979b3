use Rattle.std.proofs.Common.{◌≡◌, Bool, List, get_or, set, true, false, sym, ◌∙◌, subst}
use Rattle.paging_study.specs.Bits.{is_set, flags_of}
use Rattle.paging_study.proofs.Levels.{flag_is, place_of, word_of, top_of, root_of, crown_of, had, flags_clear, taken}
use Rattle.paging_study.proofs.place_set.PlaceSet.take.Goals as goal

pub clear_bit-empty-requires : goal.clear_bit-empty-requires
clear_bit-empty-requires c =
    let there : is_set c.self.inside.words.items c.args.i ≡ true = sym (flag_is c.self.inside.words.items c.args.i) ∙ subst (λ (flags : List Bool). get_or flags c.args.i false ≡ true) (sym c.self.view_is) c.requires in
    word_of c.self.inside.words.items c.args.i (place_of c.self.inside.words.items c.args.i there)

pub clear_bit-empty-requires-2 : goal.clear_bit-empty-requires-2
clear_bit-empty-requires-2 c =
    let there : is_set c.self.inside.words.items c.args.i ≡ true = sym (flag_is c.self.inside.words.items c.args.i) ∙ subst (λ (flags : List Bool). get_or flags c.args.i false ≡ true) (sym c.self.view_is) c.requires in
    top_of c.self.inside.words.items c.self.inside.tops.items c.self.inside.roots.items c.self.inside.crowns.items c.self.inside.count c.args.i c.self.invariant
    (word_of c.self.inside.words.items c.args.i (place_of c.self.inside.words.items c.args.i there))

pub clear_bit-empty-requires-3 : goal.clear_bit-empty-requires-3
clear_bit-empty-requires-3 c =
    let there : is_set c.self.inside.words.items c.args.i ≡ true = sym (flag_is c.self.inside.words.items c.args.i) ∙ subst (λ (flags : List Bool). get_or flags c.args.i false ≡ true) (sym c.self.view_is) c.requires in
    root_of c.self.inside.words.items c.self.inside.tops.items c.self.inside.roots.items c.self.inside.crowns.items c.self.inside.count c.args.i c.self.invariant
    (word_of c.self.inside.words.items c.args.i (place_of c.self.inside.words.items c.args.i there))

pub clear_bit-requires : goal.clear_bit-requires
clear_bit-requires c =
    let there : is_set c.self.inside.words.items c.args.i ≡ true = sym (flag_is c.self.inside.words.items c.args.i) ∙ subst (λ (flags : List Bool). get_or flags c.args.i false ≡ true) (sym c.self.view_is) c.requires in
    crown_of c.self.inside.words.items c.self.inside.tops.items c.self.inside.roots.items c.self.inside.crowns.items c.self.inside.count c.args.i c.self.invariant
    (word_of c.self.inside.words.items c.args.i (place_of c.self.inside.words.items c.args.i there))

pub overflow_sub-self : goal.overflow_sub-self
overflow_sub-self c =
    let there : is_set c.self.inside.words.items c.args.i ≡ true = sym (flag_is c.self.inside.words.items c.args.i) ∙ subst (λ (flags : List Bool). get_or flags c.args.i false ≡ true) (sym c.self.view_is) c.requires in
    had c.self.inside.words.items c.self.inside.tops.items c.self.inside.roots.items c.self.inside.crowns.items c.self.inside.count c.args.i c.self.invariant there
    (place_of c.self.inside.words.items c.args.i there)

pub invariant_of-self : goal.invariant_of-self
invariant_of-self c =
    let there : is_set c.self.inside.words.items c.args.i ≡ true = sym (flag_is c.self.inside.words.items c.args.i) ∙ subst (λ (flags : List Bool). get_or flags c.args.i false ≡ true) (sym c.self.view_is) c.requires in
    let low = c.clear_bit-empty.ensures in
    let mid = c.clear_bit-empty-2.ensures in
    let top = c.clear_bit-empty-3.ensures in
    let crown = c.clear_bit.ensures in
    taken c.self.inside.words.items c.self.inside.tops.items c.self.inside.roots.items c.self.inside.crowns.items c.self.inside.count c.args.i c.self.invariant
    c.clear_bit-empty.new.words.items c.clear_bit-empty-2.new.words.items c.clear_bit-empty-3.new.words.items c.clear_bit.new.words.items
    c.clear_bit-empty.result c.clear_bit-empty-2.result c.clear_bit-empty-3.result c.clear_bit.result
    (record { bits = low.bits; others = low.others; stays = low.stays; is_empty = low.empty; len = low.len })
    (record { bits = mid.bits; others = mid.others; stays = mid.stays; is_empty = mid.empty; len = mid.len })
    (record { bits = top.bits; others = top.others; stays = top.stays; is_empty = top.empty; len = top.len })
    (record { bits = crown.bits; others = crown.others; stays = crown.stays; is_empty = crown.empty; len = crown.len })
    there

pub returns : goal.returns
returns c =
    let there : is_set c.self.inside.words.items c.args.i ≡ true = sym (flag_is c.self.inside.words.items c.args.i) ∙ subst (λ (flags : List Bool). get_or flags c.args.i false ≡ true) (sym c.self.view_is) c.requires in
    subst (λ (flags : List Bool). flags_of c.clear_bit-empty.new.words.items ≡ set flags c.args.i false) c.self.view_is
    (flags_clear c.self.inside.words.items c.clear_bit-empty.new.words.items c.args.i (place_of c.self.inside.words.items c.args.i there) c.clear_bit-empty.ensures.len c.clear_bit-empty.ensures.bits)
