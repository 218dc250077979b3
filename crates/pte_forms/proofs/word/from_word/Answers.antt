use Rattle.std.proofs.Common.{◌≡◌, ◌/◌, ◌%◌, arith}
use Rattle.std.proofs.lemmas.Grind.{common_steps}
use Rattle.pte_forms.specs.Word.{IsPte, word_of}
use Rattle.pte_forms.specs.declared.pte.Pte.{Pte}
use Rattle.pte_forms.proofs.word.from_word.Goals as goal

pub returns-in-Some-clause-bad : goal.returns-in-Some-clause-bad
returns-in-Some-clause-bad c =
    let found : Pte = record { prot = c.args.word / 134217728 % 16; place = c.in-Some.place } in
    let fits : IsPte found = grind (arith, common_steps, c.in-Some.ensures.some) in
    let same : word_of found ≡ c.args.word = grind (arith, common_steps, c.in-Some.ensures.some) in
    (λ wrong. cc, λ none. absurd (none (found, fits, same)))
