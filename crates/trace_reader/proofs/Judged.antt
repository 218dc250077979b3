-- What a line that breaks no rule says fits the declarations, and stands there.
use Rattle.std.proofs.Common.{◌≡◌, ℕ, ◌≤◌, eqb, leb, List, [], ◌∷◌, length, Option, Some, None, Result, Ok, refl, sym, subst, ◌∙◌}
use Rattle.std.specs.Prelude.{IfOk}
use Rattle.std.specs.List.{list_all}
use Rattle.std.proofs.lemmas.Bool.{leb-true, eqb-true}
use Rattle.std.proofs.Math.Nat.{le_trans}
use Rattle.vm_types.specs.Versions.{most_lines}
use Rattle.vm_types.specs.declared.limits.TheConstants.{MOST_LONG_LINES}
use Rattle.vm_types.proofs.Versions.{lines_at_most}
use Rattle.trace_words.specs.declared.cause.Cause.TheVariants.{Misplaced}
use Rattle.trace_words.specs.Judged.{owed}
use Rattle.trace_words.specs.Words.{words}
use Rattle.trace_lines.specs.declared.breach.Breach.{Breach}
use Rattle.trace_lines.specs.declared.keywords.Keyword.{Keyword}
use Rattle.trace_lines.specs.declared.keywords.Keyword.TheVariants.{Version, Long, Frames, PageFile, Param, Bad, Section, Data, Process, MapZero, MapSection, Fail, Body, End}
use Rattle.trace_lines.specs.declared.part.Part.{Part}
use Rattle.trace_lines.specs.declared.places.Place.TheVariants.{Requests}
use Rattle.trace_lines.specs.Breaches.{at_word}
use Rattle.trace_lines.specs.Grammar.{by_keyword, placed, is_letter, is_comment, by_first, by_words, content, is_text, judged}
use Rattle.trace_lines.specs.Keywords.{keyword_of, place_of}
use Rattle.trace_lines.specs.Places.{rank}
use Rattle.trace_lines.specs.Requests.{request_line}
use Rattle.trace_lines.specs.Says.{Says, Nothing}
use Rattle.trace_reader.specs.Right.{IsRightLine}
use Rattle.trace_reader.proofs.Giving.{owed_gives, if_gives, weaker}
use Rattle.trace_reader.proofs.LinesRight.{Gives, version_gives, long_gives, frames_gives, pagefile_gives, param_gives, bad_gives, section_gives, data_gives, process_gives, mapzero_gives, mapsec_gives, fail_gives, body_gives, end_gives, request_gives}

keyword_gives : (part : Part) (args : List (List ℕ)) (keyword : Keyword) → IfOk (by_keyword part args keyword) (Gives part (rank (place_of keyword)))
keyword_gives part args Version = version_gives part args
keyword_gives part args Long = long_gives part args
keyword_gives part args Frames = frames_gives part args
keyword_gives part args PageFile = pagefile_gives part args
keyword_gives part args Param = param_gives part args
keyword_gives part args Bad = bad_gives part args
keyword_gives part args Section = section_gives part args
keyword_gives part args Data = data_gives part args
keyword_gives part args Process = process_gives part args
keyword_gives part args MapZero = mapzero_gives part args
keyword_gives part args MapSection = mapsec_gives part args
keyword_gives part args Fail = fail_gives part args
keyword_gives part args Body = body_gives part args
keyword_gives part args End = end_gives part args

stands : (part : Part) (place : ℕ) (said : Says) → rank part.place ≡ place → Gives part place said → IsRightLine part said
stands part place said e g = record { here = e ∙ sym g.1; fits = g.0 }

placed_gives : (part : Part) (args : List (List ℕ)) (keyword : Option Keyword) → IfOk (placed part args keyword) (IsRightLine part)
placed_gives part args None = tt
placed_gives part args (Some keyword) =
    owed_gives (eqb (rank part.place) (rank (place_of keyword))) _ (by_keyword part args keyword) (IsRightLine part) (λ e.
    weaker (by_keyword part args keyword) (Gives part (rank (place_of keyword))) (IsRightLine part) (keyword_gives part args keyword) (λ said g. stands part (rank (place_of keyword)) said (eqb-true (rank part.place) (rank (place_of keyword)) e) g))

letter_gives : (part : Part) (first : List ℕ) (args : List (List ℕ)) → IfOk (owed (eqb (rank part.place) (rank Requests)) (at_word 1 Misplaced) (request_line part.config first args)) (IsRightLine part)
letter_gives part first args =
    owed_gives (eqb (rank part.place) 4) _ (request_line part.config first args) (IsRightLine part) (λ e.
    weaker (request_line part.config first args) (Gives part 4) (IsRightLine part) (request_gives part first args) (λ said g. stands part 4 said (eqb-true (rank part.place) 4 e) g))

first_gives : (part : Part) (first : List ℕ) (args : List (List ℕ)) → IfOk (by_first part first args) (IsRightLine part)
first_gives part first args =
    if_gives (is_comment first) (Ok Nothing) _ (IsRightLine part) (record { here = refl; fits = tt })
    (if_gives (is_letter first) _ (placed part args (keyword_of part.place first)) (IsRightLine part) (letter_gives part first args) (placed_gives part args (keyword_of part.place first)))

words_give : (part : Part) (all : List (List ℕ)) → IfOk (by_words part all) (IsRightLine part)
words_give part [] = record { here = refl; fits = tt }
words_give part (first ∷ args) = first_gives part first args

-- what a judged line says
pub record IsJudged (number : ℕ) (part : Part) (said : Says) : Type 0 where
  pub right : IsRightLine part said
  pub few : number ≤ MOST_LONG_LINES

pub judged_gives : (number : ℕ) (part : Part) (line : List ℕ) → IfOk (judged number part line) (IsJudged number part)
judged_gives number part line =
    owed_gives (leb (length line) 255) _ _ (IsJudged number part) (λ _. owed_gives (list_all is_text (content line)) _ _ (IsJudged number part) (λ _.
    owed_gives (leb number (most_lines part.config.version)) _ (by_words part (words (content line))) (IsJudged number part) (λ e.
    weaker (by_words part (words (content line))) (IsRightLine part) (IsJudged number part) (words_give part (words (content line))) (λ said r. record { right = r; few = le_trans (leb-true number (most_lines part.config.version) e) (lines_at_most part.config.version) }))))

pub at_ok : {A : Type 0} (r : Result A Breach) (x : A) (P : A → Type 0) → IfOk r P → r ≡ Ok x → P x
at_ok {A} r x P h e = subst (λ (s : Result A Breach). IfOk s P) e h
