use Rattle.std.proofs.Common.{◌≡◌, ◌<◌, Bool, List, length, get_or, true, false, sym, ◌∙◌, subst}
use Rattle.paging_study.specs.Places.{flag_at, count_places}
use Rattle.paging_study.proofs.BitSteps.{word_within, below_top}
use Rattle.paging_study.proofs.Levels.{flag_is, place_of, crown_some, last_of_all}
use Rattle.paging_study.proofs.place_set.PlaceSet.pop_last.Goals as goal

pub last_bit-root-requires-clause-some : goal.last_bit-root-requires-clause-some
last_bit-root-requires-clause-some c =
    crown_some c.self.inside.words.items c.self.inside.tops.items c.self.inside.roots.items c.self.inside.crowns.items c.self.inside.count c.self.invariant
    (subst (λ (flags : List Bool). 0 < count_places (flag_at flags) (length flags)) (sym c.self.view_is) c.requires)

pub last_bit-top-requires-clause-within : goal.last_bit-top-requires-clause-within
last_bit-top-requires-clause-within c =
    word_within c.self.inside.roots.items c.last_bit-root.result (below_top c.self.inside.roots.items c.self.inside.crowns.items c.last_bit-root.result c.self.invariant.crowns_are c.last_bit-root.ensures.there)

pub last_bit-word-requires-clause-within : goal.last_bit-word-requires-clause-within
last_bit-word-requires-clause-within c =
    word_within c.self.inside.tops.items c.last_bit-top.result (below_top c.self.inside.tops.items c.self.inside.roots.items c.last_bit-top.result c.self.invariant.roots_are c.last_bit-top.ensures.there)

pub last_bit-last-requires-clause-within : goal.last_bit-last-requires-clause-within
last_bit-last-requires-clause-within c =
    word_within c.self.inside.words.items c.last_bit-word.result (below_top c.self.inside.words.items c.self.inside.tops.items c.last_bit-word.result c.self.invariant.tops_are c.last_bit-word.ensures.there)

pub take-requires : goal.take-requires
take-requires c = subst (λ (flags : List Bool). get_or flags c.last_bit-last.result false ≡ true) c.self.view_is (flag_is c.self.inside.words.items c.last_bit-last.result ∙ c.last_bit-last.ensures.there)

pub returns-clause-within : goal.returns-clause-within
returns-clause-within c = subst (λ (flags : List Bool). c.last_bit-last.result < length flags) c.self.view_is (place_of c.self.inside.words.items c.last_bit-last.result c.last_bit-last.ensures.there)

pub returns-clause-had : goal.returns-clause-had
returns-clause-had c = subst (λ (flags : List Bool). get_or flags c.last_bit-last.result false ≡ true) c.self.view_is (flag_is c.self.inside.words.items c.last_bit-last.result ∙ c.last_bit-last.ensures.there)

pub returns-clause-last : goal.returns-clause-last
returns-clause-last c = λ i there.
    last_of_all c.self.inside.words.items c.self.inside.tops.items c.self.inside.roots.items c.self.inside.crowns.items c.self.inside.count c.self.invariant
    c.last_bit-root.result c.last_bit-top.result c.last_bit-word.result c.last_bit-last.result
    c.last_bit-root.ensures.last c.last_bit-top.ensures.word c.last_bit-top.ensures.last c.last_bit-word.ensures.word c.last_bit-word.ensures.last c.last_bit-last.ensures.word c.last_bit-last.ensures.last
    i (sym (flag_is c.self.inside.words.items i) ∙ subst (λ (flags : List Bool). get_or flags i false ≡ true) (sym c.self.view_is) there)
