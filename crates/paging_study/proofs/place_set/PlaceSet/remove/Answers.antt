use Rattle.std.proofs.Common.{◌≡◌, ◌<◌, Bool, List, length, get_or, set, true, false, sym, ◌∙◌, subst}
use Rattle.std.proofs.lemmas.List.{set-get_or}
use Rattle.paging_study.proofs.Levels.{flag_is, word_of}
use Rattle.paging_study.proofs.place_set.PlaceSet.remove.Goals as goal

pub has_bit-was-requires : goal.has_bit-was-requires
has_bit-was-requires c = word_of c.self.inside.words.items c.args.i (subst (λ (flags : List Bool). c.args.i < length flags) (sym c.self.view_is) c.requires)

pub take-requires : goal.take-requires
take-requires c = subst (λ (flags : List Bool). get_or flags c.args.i false ≡ true) c.self.view_is (flag_is c.self.inside.words.items c.args.i ∙ (sym c.has_bit-was.ensures ∙ c.if-was.true))

pub returns-then-was-clause-was : goal.returns-then-was-clause-was
returns-then-was-clause-was c = subst (λ (flags : List Bool). c.has_bit-was.result ≡ get_or flags c.args.i false) c.self.view_is (c.has_bit-was.ensures ∙ sym (flag_is c.self.inside.words.items c.args.i))

pub returns-else-was-clause-was : goal.returns-else-was-clause-was
returns-else-was-clause-was c = subst (λ (flags : List Bool). c.has_bit-was.result ≡ get_or flags c.args.i false) c.self.view_is (c.has_bit-was.ensures ∙ sym (flag_is c.self.inside.words.items c.args.i))

pub returns-else-was-clause-set : goal.returns-else-was-clause-set
returns-else-was-clause-set c =
    let none : get_or c.args.self.now c.args.i false ≡ false =
    subst (λ (flags : List Bool). get_or flags c.args.i false ≡ false) c.self.view_is (flag_is c.self.inside.words.items c.args.i ∙ (sym c.has_bit-was.ensures ∙ c.if-was.false)) in
    sym (subst (λ (b : Bool). set c.args.self.now c.args.i b ≡ c.args.self.now) none (set-get_or c.args.self.now c.args.i false))
