-- What is said of the copied words is said of the command line.
use Rattle.std.proofs.Common.{◌≡◌, ℕ, List, drop, All, ◌∙◌, subst}
use Rattle.std.specs.Prelude.{None, Some, IfSome}
use Rattle.std.specs.declared.option.Option.{Option}
use Rattle.std.specs.Str.{IsUtf8}
use Rattle.command_messages.specs.LineFaults.{HoldsOfWords, Quotes}
use Rattle.command_messages.specs.declared.faults.LineFault.{LineFault}
use Rattle.command_messages.specs.declared.faults.LineFault.TheVariants.{NotText}
use Rattle.program_call.specs.LineTold.{IsLineTold}

pub line_told : (told : Option (List (List ℕ))) (copied words : List (List ℕ)) (fault : LineFault) (kept : List ℕ)
    → IfSome told (λ all. copied ≡ drop 1 all) → words ≡ copied → HoldsOfWords words fault → Quotes words fault kept → IsLineTold told (Some fault) kept
line_told None copied words fault kept are same holds quotes = tt
line_told (Some all) copied words fault kept are same holds quotes =
    (subst (λ (words : List (List ℕ)). HoldsOfWords words fault) (same ∙ are) holds, subst (λ (words : List (List ℕ)). Quotes words fault kept) (same ∙ are) quotes)

pub no_text_told : (told : Option (List (List ℕ))) (copied : List (List ℕ)) (kept : List ℕ)
    → IfSome told (λ all. copied ≡ drop 1 all) → (All IsUtf8 copied → ⊥) → IsLineTold told (Some NotText) kept
no_text_told None copied kept are bad = tt
no_text_told (Some all) copied kept are bad = (subst (λ (words : List (List ℕ)). All IsUtf8 words → ⊥) are bad, tt)
