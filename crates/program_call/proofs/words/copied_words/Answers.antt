use Rattle.std.proofs.Common.{[], ◌∷◌, map, sym, subst}
use Rattle.std.specs.Option.{option_map}
use Rattle.std.proofs.lemmas.List.{map-append}
use Rattle.program_call.specs.Words.{TakesWord}
use Rattle.program_call.proofs.Copying.{Copied, copied_more}
use Rattle.program_call.proofs.words.copied_words.Goals as goal

pub loop-preserved : goal.loop-preserved
loop-preserved g c =
    let before = g.A.Arguments.left c.args.arguments.now in
    let after = g.A.Arguments.left c.next_word.new.self in
    let takes = subst (λ word. TakesWord (g.A.Arguments.left c.loop.arguments) after (option_map (λ bytes. bytes.items) word)) c.in-Some.is c.in_ok-word.ensures in
    subst (λ words. Copied before after (map (λ word. word.items) words)) (sym c.in_ok-push-in-Some.ensures.items)
    (subst (Copied before after) (sym (map-append (λ word. word.items) c.loop.words.items (c.in-Some.word ∷ [])))
    (copied_more before (g.A.Arguments.left c.loop.arguments) after _ c.in-Some.word.items c.loop.invariant takes))
