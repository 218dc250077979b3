use Rattle.std.proofs.Common.{◌∙◌, ap, map, List, ℕ, Bor, [], refl, sym, subst, All}
use Rattle.std.specs.Str.{IsUtf8}
use Rattle.command_calls.proofs.Calling.{call_by}
use Rattle.program_call.proofs.Lines.{line_told, no_text_told}
use Rattle.program_call.proofs.Texts.{if_some, if_none}
use Rattle.program_call.proofs.Telling.{run_tells, none_tells, no_words_call, no_words_right}
use Rattle.program_call.proofs.program.run_words.Goals as goal

pub returns-in_default-clause-call : goal.returns-in_default-clause-call
returns-in_default-clause-call g c = no_words_call c.end_with.ensures

pub returns-in_default-clause-wrong : goal.returns-in_default-clause-wrong
returns-in_default-clause-wrong g c = no_words_right c.end_with.ensures

pub returns-clause-call : goal.returns-clause-call
returns-clause-call g c = no_words_call c.end_with-in-Err.ensures

pub returns-clause-wrong : goal.returns-clause-wrong
returns-clause-wrong g c = no_words_right c.end_with-in-Err.ensures

pub returns-in-Ok-Some-clause-call : goal.returns-in-Ok-Some-clause-call
returns-in-Ok-Some-clause-call g c =
    let copied = ap (map (λ word. word.items)) c.as_slice.ensures.value in
    let same = ap (map (λ (text : Bor (List ℕ)). text.now)) c.as_slice-in-Ok-Some.ensures.value ∙ (if_some _ _ _ _ c.in-Ok-Some.field-0-is c.in-Ok-Some.ensures).0 ∙ copied in
    call_by (λ n text told. run_tells _ _ _ _ _ n text c.in-Ok.ensures same (subst (All IsUtf8) copied (if_some _ _ _ _ c.in-Ok-Some.field-0-is c.in-Ok-Some.ensures).1) told) c.run_many_and_tell-told.ensures.run.call

pub returns-then-told-eq1-clause-call : goal.returns-then-told-eq1-clause-call
returns-then-told-eq1-clause-call g c =
    let copied = ap (map (λ word. word.items)) c.as_slice.ensures.value in
    let same = ap (map (λ (text : Bor (List ℕ)). text.now)) c.as_slice-in-Ok-Some.ensures.value ∙ (if_some _ _ _ _ c.in-Ok-Some.field-0-is c.in-Ok-Some.ensures).0 ∙ copied in
    call_by (λ n text told. run_tells _ _ _ _ _ n text c.in-Ok.ensures same (subst (All IsUtf8) copied (if_some _ _ _ _ c.in-Ok-Some.field-0-is c.in-Ok-Some.ensures).1) told) c.run_many_and_tell-told.ensures.run.call

pub returns-in-Ok-None-clause-call : goal.returns-in-Ok-None-clause-call
returns-in-Ok-None-clause-call g c =
    call_by (λ n text told. none_tells _ _ [] _ _ n text c.in-Ok.ensures refl (λ utf8. if_none _ _ _ c.in-Ok-None.field-0-is c.in-Ok-None.ensures (subst (λ words. All IsUtf8 (map (λ word. word.items) words)) (sym c.as_slice.ensures.value) utf8)) told) c.run_many_and_tell-told-in-Ok-None.ensures.run.call

pub returns-in-Ok-None-clause-line : goal.returns-in-Ok-None-clause-line
returns-in-Ok-None-clause-line g c = λ one.
    no_text_told _ _ c.run_many_and_tell-told-in-Ok-None.new.kept.items c.in-Ok.ensures (λ utf8. if_none _ _ _ c.in-Ok-None.field-0-is c.in-Ok-None.ensures (subst (λ words. All IsUtf8 (map (λ word. word.items) words)) (sym c.as_slice.ensures.value) utf8))

pub returns-then-told-eq1-clause-line : goal.returns-then-told-eq1-clause-line
returns-then-told-eq1-clause-line g c = λ one.
    let copied = ap (map (λ word. word.items)) c.as_slice.ensures.value in
    let same = ap (map (λ (text : Bor (List ℕ)). text.now)) c.as_slice-then-told-eq1.ensures.value ∙ (if_some _ _ _ _ c.in-Ok-Some.field-0-is c.in-Ok-Some.ensures).0 ∙ copied in
    line_told _ _ _ c.quoted_fault.result _ c.in-Ok.ensures same c.quoted_fault.ensures.holds c.quoted_fault.ensures.quotes
