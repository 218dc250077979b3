-- No text is without a verdict.
use Rattle.std.proofs.Common.{◌≡◌, ◌≢◌, ◌⊎◌, inl, inr, ℕ, zero, suc, ◌+◌, ◌<◌, ◌≤◌, List, [], ◌∷◌, ◌++◌, length, refl, sym, ap, ◌∙◌, subst, append_assoc, arith, length-append}
use Rattle.std.proofs.lemmas.Bool.{cases_lt}
use Rattle.vm_types.specs.declared.config.Config.{Config}
use Rattle.run_words.specs.Text.{ended}
use Rattle.log_model.specs.Log.{AreLegal, BeginsLegal, HasNoNext, most_lines, text_of}
use Rattle.log_model.specs.NextLine.{IsFirstLine, IsNext}
use Rattle.log_model.specs.Stand.{Stand, in_ending, in_entries, in_report, in_rundown}
use Rattle.log_laws.specs.Verdict.{IsJudged, Verdict, faulty, legal, too_long}
use Rattle.log_laws.proofs.Texts.{line_joined}
use Rattle.log_laws.proofs.Verdicts.{no_first}

-- nothing is left to come and nothing is left of the text
record HasEnded (stand : Stand) (left : List ℕ) : Type 0 where
  pub entries : ℕ
  pub stand_is : stand ≡ in_ending entries []
  pub left_is : left ≡ []

abbrev IsUnfinished : Stand → List ℕ → Type 0
IsUnfinished stand left = (n : ℕ) → stand ≡ in_ending n [] → left ≢ []

ended_or : (stand : Stand) (left : List ℕ) → HasEnded stand left ⊎ IsUnfinished stand left
ended_or (in_ending n []) [] = inl (record { entries = n; stand_is = refl; left_is = refl })
ended_or (in_ending n []) (b ∷ left) = inr (λ m is none. (let no : (b ∷ left) ≡ [] = none in cc))
ended_or (in_ending n (c ∷ rest)) left = inr (λ m is none. (let no : in_ending n (c ∷ rest) ≡ in_ending m [] = is in cc))
ended_or (in_entries past) left = inr (λ m is none. (let no : in_entries past ≡ in_ending m [] = is in cc))
ended_or (in_report past rest) left = inr (λ m is none. (let no : in_report past rest ≡ in_ending m [] = is in cc))
ended_or (in_rundown past rest) left = inr (λ m is none. (let no : in_rundown past rest ≡ in_ending m [] = is in cc))

shorter : (text line left : List ℕ) → IsFirstLine text line left → length left < length text
shorter text line left first =
    let long = ap length (first.whole ∙ line_joined line left) ∙ length-append line (10 ∷ left) in
    omega arith

module _ (config : Config) (text : List ℕ) (none : (v : Verdict) → IsJudged config text v → ⊥) where
  one_further : (count : ℕ) (stand after : Stand) (left line rest : List ℕ) → BeginsLegal config text count stand left → IsFirstLine left line rest → IsNext config stand line after → BeginsLegal config text (count + 1) after rest
  one_further count stand after left line rest begins first next =
      let counted = begins.counted in
      record {
        lines = line ∷ begins.lines;
        legal = record { earlier = stand; before = begins.legal; next = next };
        counted = omega arith;
        whole = begins.whole ∙ (ap (λ (xs : List ℕ). text_of begins.lines ++ xs) first.whole ∙ sym (append_assoc (text_of begins.lines) (ended line) rest));
      }

  -- the last line that a log may have
  at_most : (count : ℕ) (stand : Stand) (left : List ℕ) → count ≡ most_lines → IsUnfinished stand left → BeginsLegal config text count stand left → ⊥
  at_most count stand [] most unfinished begins =
      none (faulty (count + 1)) (record {
        count = count;
        stand = stand;
        left = [];
        legal = begins;
        follows = refl;
        few = inr (most, refl);
        unfinished = unfinished;
        none = λ line left after first next. no_first line left first;
      })
  at_most count stand (b ∷ left) most unfinished begins =
      none too_long (record { stand = stand; left = b ∷ left; legal = subst (λ (k : ℕ). BeginsLegal config text k stand (b ∷ left)) most begins; more = λ empty. (let no : (b ∷ left) ≡ [] = empty in cc) })

  judged : (count : ℕ) (stand : Stand) (left : List ℕ) → count ≤ most_lines → BeginsLegal config text count stand left → (count < most_lines → HasNoNext config stand left) → ⊥
  judged count stand left few begins none_next = by (ended_or stand left)
    where
      by_room : IsUnfinished stand left → (count < most_lines) ⊎ (most_lines ≤ count) → ⊥
      by_room unfinished (inl less) = none (faulty (count + 1)) (record { count = count; stand = stand; left = left; legal = begins; follows = refl; few = inl less; unfinished = unfinished; none = none_next less })
      by_room unfinished (inr most) = at_most count stand left (omega arith) unfinished begins

      by : HasEnded stand left ⊎ IsUnfinished stand left → ⊥
      by (inl end) = none (legal end.entries) (record {
        count = count;
        few = few;
        legal = record {
          lines = begins.lines;
          legal = subst (AreLegal config begins.lines) end.stand_is begins.legal;
          counted = begins.counted;
          whole = begins.whole ∙ ap (λ (xs : List ℕ). text_of begins.lines ++ xs) end.left_is;
        };
      })
      by (inr unfinished) = by_room unfinished (cases_lt count most_lines)

  read_on : (n count : ℕ) (stand : Stand) (left : List ℕ) → length left ≤ n → count ≤ most_lines → BeginsLegal config text count stand left → ⊥
  read_on zero count stand left short few begins = judged count stand left few begins (λ less line rest after first next. omega (arith, shorter left line rest first))
  read_on (suc n) count stand left short few begins =
      judged count stand left few begins (λ less line rest after first next. read_on n (count + 1) after rest (omega (arith, shorter left line rest first)) (omega arith) (one_further count stand after left line rest begins first next))

pub none_unjudged : (config : Config) (text : List ℕ) → ((v : Verdict) → IsJudged config text v → ⊥) → ⊥
none_unjudged config text none =
    read_on config text none (length text) 0 (in_entries []) text (omega arith) (omega arith) (record { lines = []; legal = refl; counted = refl; whole = refl })
