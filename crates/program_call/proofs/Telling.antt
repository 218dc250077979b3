-- What the program tells, from what its command tells.
use Rattle.std.proofs.Common.{◌≡◌, ◌≢◌, ℕ, ◌≤◌, List, [], ◌∷◌, length, take, drop, refl, sym, ◌∙◌, subst, arith, inl, inr, All}
use Rattle.std.specs.Prelude.{None, Some, IfSome}
use Rattle.std.specs.declared.option.Option.{Option}
use Rattle.std.specs.Str.{IsUtf8}
use Rattle.std.specs.Io.KnownBytes.{Appends, Keeps}
use Rattle.std.proofs.KnownBytes.{Appends-kept}
use Rattle.std.proofs.lemmas.List.{take_all}
use Rattle.std.proofs.Math.Nat.{le_refl}
use Rattle.vm_types.specs.Moved.{Moved, moved}
use Rattle.outside_io.specs.Views.{SourceView, SinkView}
use Rattle.run_words.specs.Text.{status_line}
use Rattle.command_ends.specs.Ends.{Ends}
use Rattle.command_ends.specs.Wrongs.{IsWrong}
use Rattle.command_ends.proofs.Wronging.{seven_right}
use Rattle.replay_cli.specs.Commands.{Told}
use Rattle.replay_cli.specs.declared.ways.Way.TheVariants.{Many}
use Rattle.disk_trait.specs.DepotView.{DepotView}
use Rattle.command_calls.specs.CommandCall.{IsCommandCall}
use Rattle.command_calls.specs.Moves.{Moves}
use Rattle.command_calls.proofs.Calling.{HasCauses, call_by, is_call}
use Rattle.program_call.specs.ProgramTells.{ProgramTells, ran, no_words}

-- all words of which these are those after the program's own name
all_words : (told : Option (List (List ℕ))) (copied : List (List ℕ)) → IfSome told (λ all. copied ≡ drop 1 all)
    → (all : List (List ℕ)) × IfSome told (λ known. all ≡ known) × (drop 1 all ≡ copied)
all_words None copied are = ([] ∷ copied, tt, refl)
all_words (Some all) copied are = (all, refl, sym are)

-- the words are handed over
pub run_tells : (told : Option (List (List ℕ))) (copied words : List (List ℕ)) (source : Moved SourceView) (depot : Moved DepotView) (status : ℕ) (text : List ℕ)
    → IfSome told (λ all. copied ≡ drop 1 all) → words ≡ copied → All IsUtf8 copied → Told Many words source depot status text → ProgramTells told source depot status text
run_tells told copied words source depot status text are same utf8 tells =
    let all = all_words told copied are in
    ran all.0 words status text all.1 (inl (same ∙ sym all.2, subst (All IsUtf8) (sym all.2) utf8)) tells

-- one of them isn't UTF-8
pub none_tells : (told : Option (List (List ℕ))) (copied words : List (List ℕ)) (source : Moved SourceView) (depot : Moved DepotView) (status : ℕ) (text : List ℕ)
    → IfSome told (λ all. copied ≡ drop 1 all) → words ≡ [] → (All IsUtf8 copied → ⊥) → Told Many words source depot status text → ProgramTells told source depot status text
none_tells told copied words source depot status text are none bad tells =
    let all = all_words told copied are in
    ran all.0 words status text all.1 (inr (none, λ utf8. bad (subst (All IsUtf8) all.2 utf8))) tells

-- memory ran out before
no_words_causes : (ends : Moves) → HasCauses (λ source depot status text. (status ≡ 7) × (text ≡ status_line 7)) ends
no_words_causes ends = record {
  not_four = λ status text is four. omega (arith, is.0, four);
  read = λ status text is three. absurd (omega (arith, is.0, three));
  made = λ status text is six. absurd (omega (arith, is.0, six));
}

pub no_words_call : {told : Option (List (List ℕ))} {source : SourceView} {depot : DepotView} {before after : SinkView} {result : ℕ} → Ends before after 7 (status_line 7) result
    → IsCommandCall (ProgramTells told) (record { source = moved source source; output = moved before after; depot = moved depot depot }) result
no_words_call {told} {source} {depot} ends =
    call_by (λ n text is. subst (λ (m : ℕ). ProgramTells told (moved source source) (moved depot depot) m text) (sym is.0)
    (subst (λ (t : List ℕ). ProgramTells told (moved source source) (moved depot depot) 7 t) (sym is.1) (no_words refl refl)))
    (is_call (no_words_causes _) (record { status = 7; text = status_line 7; tells_it = (refl, refl); ends = ends }) (le_refl _) (le_refl _))

-- and nothing is wrong
pub no_words_right : {before after : SinkView} {result : ℕ} → Ends before after 7 (status_line 7) result
    → result ≢ 4 → (text : List ℕ) × IsWrong None result text × Appends before.taken after.taken text
no_words_right ends no_four =
    elim ends.how [
      | inl whole ↦ (status_line 7, subst (λ status. IsWrong None status (status_line 7)) (sym whole.0) (seven_right (status_line 7)), whole.1)
      | inr cut ↦ absurd (no_four cut.0)
    ]

-- the flush failed after the whole text
pub whole_but_kept : (a b c : Option (List ℕ)) (text : List ℕ) → Appends a b text → Keeps b c → (length text ≤ length text) × Appends a c (take (length text) text)
whole_but_kept a b c text took kept =
    (omega arith, subst (Appends a c) (sym (take_all (length text) text (omega arith))) (Appends-kept a b c text took kept))
