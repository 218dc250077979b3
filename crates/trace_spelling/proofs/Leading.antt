-- Lines one after another: what the declarations are before them, and what they are after them.
use Rattle.std.proofs.Common.{◌≡◌, ℕ, ◌+◌, ◌<◌, ◌≤◌, true, leb, List, [], ◌∷◌, ◌++◌, map, flat_map, length, Ok, refl, sym, ap, subst, ◌∙◌, arith, le-leb, append-nil, append_assoc, length-append}
use Rattle.std.specs.List.{list_all}
use Rattle.std.proofs.lemmas.List.{map-append}
use Rattle.vm_text.specs.Spaced.{spaced}
use Rattle.vm_types.specs.Versions.{most_lines}
use Rattle.trace_words.specs.declared.cause.Cause.TheVariants.{LineTooLong, NotAscii, TooMany}
use Rattle.trace_words.specs.Judged.{owed}
use Rattle.trace_words.specs.Words.{words}
use Rattle.trace_lines.specs.declared.breach.Bound.TheVariants.{Most}
use Rattle.trace_lines.specs.declared.breach.Limited.TheVariants as limited
use Rattle.trace_lines.specs.declared.part.Part.{Part}
use Rattle.trace_lines.specs.Breaches.{at_word, bounded}
use Rattle.trace_lines.specs.Grammar.{is_text, content, by_words, judged}
use Rattle.trace_lines.specs.Says.{Says}
use Rattle.trace_reader.specs.Changes.{changed}
use Rattle.trace_reader.specs.Meaning.{next_line, judge}
use Rattle.trace_spelling.specs.Lines.{Line}
use Rattle.trace_spelling.specs.Spelling.{line_text}
use Rattle.trace_spelling.proofs.Numbers.{owed_passes}
use Rattle.trace_spelling.proofs.Printing.{IsShortWord, AreWords, words_line, line_drawn, drawn_texts, drawn_content}

-- a line that can be printed
pub record IsLine (line : Line) : Type 0 where
  pub words : AreWords line
  pub some : 0 < length line
  pub short : length (line_text line) ≤ 255

-- words of at most so many bytes

abbrev pub AreShort : List ℕ → Line → Type 0
AreShort [] [] = Unit {0}
AreShort [] (word ∷ words) = ⊥
AreShort (n ∷ ns) [] = ⊥
AreShort (n ∷ ns) (word ∷ words) = IsShortWord n word × AreShort ns words

-- with a byte behind each word
abbrev pub total : List ℕ → ℕ
total [] = 0
total (n ∷ ns) = n + 1 + total ns

short_words : (ns : List ℕ) (words : Line) → AreShort ns words → AreWords words
short_words [] [] h = tt
short_words [] (word ∷ words) h = absurd h
short_words (n ∷ ns) [] h = absurd h
short_words (n ∷ ns) (word ∷ words) h = (h.0.is, short_words ns words h.1)

short_spaced : (ns : List ℕ) (words : Line) → AreShort ns words → length (spaced words) ≤ total ns
short_spaced [] [] h = omega arith
short_spaced [] (word ∷ words) h = absurd h
short_spaced (n ∷ ns) [] h = absurd h
short_spaced (n ∷ ns) (word ∷ words) h = omega (arith, length-append word (spaced words), short_spaced ns words h.1, h.0.short)

pub line_of : (ns : List ℕ) (word : List ℕ) (more : Line) → AreShort ns (word ∷ more) → total ns ≤ 256 → IsLine (word ∷ more)
line_of ns word more h few = record {
  words = short_words ns (word ∷ more) h;
  some = omega arith;
  short = omega (arith, length-append word (spaced more), short_spaced ns (word ∷ more) h);
}

line_read : (number : ℕ) (part : Part) (line : Line) (says : Says) → IsLine line → number ≤ most_lines part.config.version → by_words part line ≡ Ok says → judged number part (line_text line) ≡ Ok says
line_read number part [] says is few e = absurd (omega (arith, is.some))
line_read number part (word ∷ more) says is few e =
    let drawn = line_drawn word more is.words in
    let same : content (word ++ spaced more) ≡ word ++ spaced more = drawn_content (word ++ spaced more) drawn in
    let ascii : list_all is_text (content (word ++ spaced more)) ≡ true = ap (list_all is_text) same ∙ drawn_texts (word ++ spaced more) drawn in
    let parted : words (content (word ++ spaced more)) ≡ word ∷ more = ap words same ∙ words_line word more is.words in
    let said : by_words part (words (content (word ++ spaced more))) ≡ Ok says = ap (by_words part) parted ∙ e in
    owed_passes (leb (length (word ++ spaced more)) 255) (at_word 0 LineTooLong) (owed (list_all is_text (content (word ++ spaced more))) (at_word 0 NotAscii) (owed (leb number (most_lines part.config.version)) (bounded 0 TooMany (Most limited.Lines (most_lines part.config.version))) (by_words part (words (content (word ++ spaced more)))))) (le-leb (length (word ++ spaced more)) 255 is.short)
    ∙ owed_passes (list_all is_text (content (word ++ spaced more))) (at_word 0 NotAscii) (owed (leb number (most_lines part.config.version)) (bounded 0 TooMany (Most limited.Lines (most_lines part.config.version))) (by_words part (words (content (word ++ spaced more))))) ascii
    ∙ owed_passes (leb number (most_lines part.config.version)) (bounded 0 TooMany (Most limited.Lines (most_lines part.config.version))) (by_words part (words (content (word ++ spaced more)))) (le-leb number (most_lines part.config.version) few)
    ∙ said

abbrev pub AreLines : List Line → Type 0
AreLines [] = Unit {0}
AreLines (line ∷ lines) = IsLine line × AreLines lines

lines_append : (xs ys : List Line) → AreLines xs → AreLines ys → AreLines (xs ++ ys)
lines_append [] ys a b = b
lines_append (x ∷ xs) ys a b = (a.0, lines_append xs ys a.1 b)

-- the lines are read one after another, whatever follows, and none of them says the version
pub record Leads (part : Part) (lines : List Line) (after : Part) : Type 0 where
  pub printed : AreLines lines
  pub version : after.config.version ≡ part.config.version
  pub judged : (number : ℕ) (rest : List (List ℕ)) → 0 < length rest → number + length lines ≤ most_lines part.config.version + 1
      → judge number part (map line_text lines ++ rest) ≡ judge (number + length lines) after rest

pub leads_none : (part : Part) → Leads part [] part
leads_none part = record {
  printed = tt;
  version = refl;
  judged = λ number rest some few. (let same : number ≡ number + 0 = omega arith in ap (λ (n : ℕ). judge n part rest) same);
}

pub line_judged : (part : Part) (line : Line) (says : Says) → IsLine line → by_words part line ≡ Ok says → (number : ℕ) (rest : List (List ℕ)) → 0 < length rest → number + length (line ∷ []) ≤ most_lines part.config.version + 1
    → judge number part (line_text line ∷ rest) ≡ judge (number + length (line ∷ [])) (changed part says) rest
line_judged part line says is e number [] some few = absurd (omega arith)
line_judged part line says is e number (next ∷ more) some few =
    let here : next_line number part (line_text line) ≡ Ok (changed part says) = rw (line_read number part line says is (omega arith) e) refl in
    rw here refl

pub leads_line : (part : Part) (line : Line) (says : Says) → (changed part says).config.version ≡ part.config.version → IsLine line → by_words part line ≡ Ok says → Leads part (line ∷ []) (changed part says)
leads_line part line says same is e = record { printed = (is, tt); version = same; judged = line_judged part line says is e }

pub leads_to : (p q r : Part) (lines : List Line) → Leads p lines q → q ≡ r → Leads p lines r
leads_to p q r lines h e = subst (λ (z : Part). Leads p lines z) e h

pub leads_append : (p q r : Part) (xs ys : List Line) → Leads p xs q → Leads q ys r → Leads p (xs ++ ys) r
leads_append p q r xs ys h k = record {
  printed = lines_append xs ys h.printed k.printed;
  version = k.version ∙ h.version;
  judged = λ number rest some few.
      (let long : length (xs ++ ys) ≡ length xs + length ys = length-append xs ys in
      let texts : map line_text (xs ++ ys) ++ rest ≡ map line_text xs ++ (map line_text ys ++ rest) =
      ap (λ (ls : List (List ℕ)). ls ++ rest) (map-append line_text xs ys) ∙ append_assoc (map line_text xs) (map line_text ys) rest in
      let more : 0 < length (map line_text ys ++ rest) = omega (arith, length-append (map line_text ys) rest) in
      let most : most_lines q.config.version ≡ most_lines p.config.version = ap most_lines h.version in
      let count : (number + length xs) + length ys ≡ number + length (xs ++ ys) = omega arith in
      ap (judge number p) texts
      ∙ h.judged number (map line_text ys ++ rest) more (omega arith)
      ∙ k.judged (number + length xs) rest some (omega (arith, most, few, long))
      ∙ ap (λ (n : ℕ). judge n r rest) count);
}

-- a line for each element

module _ {X : Type 0} (line : X → Line) (at : List X → Part) (all : List X) where
  module _ (step : (before : List X) (x : X) (after : List X) → before ++ x ∷ after ≡ all → Leads (at before) (line x ∷ []) (at (before ++ x ∷ []))) where
    leads_from : (before rest : List X) → before ++ rest ≡ all → Leads (at before) (map line rest) (at all)
    leads_from before [] e = subst (λ (xs : List X). Leads (at before) [] (at xs)) (sym (append-nil before) ∙ e) (leads_none (at before))
    leads_from before (x ∷ rest) e =
        leads_append (at before) (at (before ++ x ∷ [])) (at all) (line x ∷ []) (map line rest) (step before x rest e)
        (leads_from (before ++ x ∷ []) rest (append_assoc before (x ∷ []) rest ∙ e))

    pub leads_each : Leads (at []) (map line all) (at all)
    leads_each = leads_from [] all refl

-- lines for each element, where those to come are there in another form

module _ {X : Type 0} (lines : X → List Line) (at : List X → List X → Part) (all : List X) where
  module _ (step : (before : List X) (x : X) (after : List X) → before ++ x ∷ after ≡ all → Leads (at before (x ∷ after)) (lines x) (at (before ++ x ∷ []) after)) where
    leads_rest : (before rest : List X) → before ++ rest ≡ all → Leads (at before rest) (flat_map lines rest) (at all [])
    leads_rest before [] e = subst (λ (xs : List X). Leads (at before []) [] (at xs [])) (sym (append-nil before) ∙ e) (leads_none (at before []))
    leads_rest before (x ∷ rest) e =
        leads_append (at before (x ∷ rest)) (at (before ++ x ∷ []) rest) (at all []) (lines x) (flat_map lines rest) (step before x rest e)
        (leads_rest (before ++ x ∷ []) rest (append_assoc before (x ∷ []) rest ∙ e))

    pub leads_many : Leads (at [] all) (flat_map lines all) (at all [])
    leads_many = leads_rest [] all refl
