-- A legal log that is cut short is at fault at the line after its last whole one.
use Rattle.std.proofs.Common.{◌≡◌, ◌≢◌, ◌⊎◌, inl, inr, ℕ, ◌+◌, ◌<◌, ◌≤◌, List, [], ◌∷◌, ◌++◌, length, refl, sym, ap, ap₂, ◌∙◌, subst, append-nil, arith}
use Rattle.vm_types.specs.Configuration.{IsWellFormed}
use Rattle.vm_types.specs.declared.config.Config.{Config}
use Rattle.vm_text.specs.Named.{AreNames}
use Rattle.vm_text.proofs.Printable.{config_names}
use Rattle.run_words.specs.Text.{ended}
use Rattle.log_model.specs.Log.{AreLegal, IsAtFault, IsLegalLog, most_lines, text_of}
use Rattle.log_model.specs.NextLine.{IsNext}
use Rattle.log_model.specs.Stand.{Stand, in_ending}
use Rattle.log_laws.specs.Laws.{lines_in}
use Rattle.log_laws.proofs.OneWay.{legal_plain}
use Rattle.log_laws.proofs.Texts.{IsPlain, as_many_lines, line_joined, lines_join, lines_none}
use Rattle.log_laws.proofs.Verdicts.{no_first}

-- the first of two texts that are joined ends before a place of the whole, or at it or behind it
record EndsBefore (first second front rest : List ℕ) : Type 0 where
  pub part : List ℕ
  pub longer : front ≡ first ++ part
  pub others : second ≡ part ++ rest

record EndsBehind (first second front rest : List ℕ) : Type 0 where
  pub part : List ℕ
  pub some : part ≢ []
  pub shorter : first ≡ front ++ part
  pub others : rest ≡ part ++ second

where_cut : (first second front rest : List ℕ) → first ++ second ≡ front ++ rest → EndsBefore first second front rest ⊎ EndsBehind first second front rest
where_cut [] second front rest is = inl (record { part = front; longer = refl; others = is })
where_cut (b ∷ first) second [] rest is = inr (record { part = b ∷ first; some = λ none. (let no : (b ∷ first) ≡ [] = none in cc); shorter = refl; others = sym is })
where_cut (b ∷ first) second (c ∷ front) rest is = by (where_cut first second front rest behind)
  where
    head : b ≡ c
    head = cc

    behind : first ++ second ≡ front ++ rest
    behind = cc

    by : EndsBefore first second front rest ⊎ EndsBehind first second front rest → EndsBefore (b ∷ first) second (c ∷ front) rest ⊎ EndsBehind (b ∷ first) second (c ∷ front) rest
    by (inl before) = inl (record { part = before.part; longer = ap₂ (λ (x : ℕ) (xs : List ℕ). x ∷ xs) (sym head) before.longer; others = before.others })
    by (inr later) = inr (record { part = later.part; some = later.some; shorter = ap₂ (λ (x : ℕ) (xs : List ℕ). x ∷ xs) head later.shorter; others = later.others })

-- what is cut off a line before its byte 10 has none
cut_plain : (line part rest : List ℕ) → IsPlain line → rest ≢ [] → ended line ≡ part ++ rest → IsPlain part
cut_plain line [] rest plain some is = tt
cut_plain [] (b ∷ []) rest plain some is = absurd (some (let same : ended [] ≡ b ∷ rest = is in cc))
cut_plain [] (b ∷ (c ∷ part)) rest plain some is = absurd (let same : ended [] ≡ b ∷ (c ∷ (part ++ rest)) = is in cc)
cut_plain (c ∷ line) (b ∷ part) rest plain some is =
    let same : (c ∷ ended line) ≡ b ∷ (part ++ rest) = is in
    let head : c ≡ b = cc in
    let behind : ended line ≡ part ++ rest = cc in
    (λ ten. plain.0 (head ∙ ten), cut_plain line part rest plain.1 some behind)

plain_no_line : (line left : List ℕ) → IsPlain (line ++ (10 ∷ left)) → ⊥
plain_no_line [] left plain = plain.0 refl
plain_no_line (b ∷ line) left plain = plain_no_line line left plain.1

-- the lines that are whole before the cut, what is left of the next one, and that it was a legal next one
record IsCut (config : Config) (front : List ℕ) (most : ℕ) : Type 0 where
  pub lines : List (List ℕ)
  pub stand : Stand
  pub legal : AreLegal config lines stand
  pub left : List ℕ
  pub is : front ≡ text_of lines ++ left
  pub plain : IsPlain left
  pub fewer : length lines < most
  pub line : List ℕ
  pub after : Stand
  pub next : IsNext config stand line after

cut_at : (config : Config) → AreNames (length config.procs) config.sections → (lines : List (List ℕ)) (stand : Stand) (front rest : List ℕ) → length lines ≤ most_lines → AreLegal config lines stand
    → text_of lines ≡ front ++ rest → rest ≢ [] → IsCut config front (length lines)
cut_at config are [] stand [] rest few legal is some = absurd (some (sym is))
cut_at config are [] stand (b ∷ front) rest few legal is some = absurd (let no : [] ≡ b ∷ (front ++ rest) = is in cc)
cut_at config are (line ∷ lines) stand front rest few legal is some = by (where_cut (text_of lines) (ended line) front rest is) (λ part. cut_at config are lines legal.earlier front part (omega arith) legal.before)
  where
    by : EndsBefore (text_of lines) (ended line) front rest ⊎ EndsBehind (text_of lines) (ended line) front rest
        → ((part : List ℕ) → text_of lines ≡ front ++ part → part ≢ [] → IsCut config front (length lines)) → IsCut config front (length (line ∷ lines))
    by (inl here) before = record {
      lines = lines;
      stand = legal.earlier;
      legal = legal.before;
      left = here.part;
      is = here.longer;
      plain = cut_plain line here.part rest (legal_plain config are (line ∷ lines) stand few legal).0 some here.others;
      fewer = omega arith;
      line = line;
      after = stand;
      next = legal.next;
    }
    by (inr later) before =
        let cut = before later.part later.shorter later.some in
        record {
          lines = cut.lines;
          stand = cut.stand;
          legal = cut.legal;
          left = cut.left;
          is = cut.is;
          plain = cut.plain;
          fewer = omega (arith, cut.fewer);
          line = cut.line;
          after = cut.after;
          next = cut.next;
        }

-- a stand at which nothing is left to come has no next line
none_after : (config : Config) (stand : Stand) (n : ℕ) (line : List ℕ) (after : Stand) → stand ≡ in_ending n [] → IsNext config stand line after → ⊥
none_after config stand n line after ends next = by (subst (λ (s : Stand). IsNext config s line after) ends next)
  where
    by : IsNext config (in_ending n []) line after → ⊥
    by found = no_first line found.0 found.1

at_fault : (config : Config) (front : List ℕ) (most : ℕ) → AreNames (length config.procs) config.sections → most ≤ most_lines → IsCut config front most → IsAtFault config front (lines_in front + 1)
at_fault config front most are few cut =
    let less : length cut.lines < most_lines = omega (arith, cut.fewer) in
    let many = as_many_lines cut.lines (legal_plain config are cut.lines cut.stand (omega arith) cut.legal) in
    let joined = lines_join (text_of cut.lines) cut.left in
    let none = lines_none cut.left cut.plain in
    let same = ap lines_in cut.is in
    record {
      count = length cut.lines;
      stand = cut.stand;
      left = cut.left;
      legal = record { lines = cut.lines; legal = cut.legal; counted = refl; whole = cut.is };
      follows = omega arith;
      few = inl less;
      unfinished = λ n ends left_none. none_after config cut.stand n cut.line cut.after ends cut.next;
      none = λ line left after first next. plain_no_line line left (subst IsPlain (first.whole ∙ line_joined line left) cut.plain);
    }

pub cut_logs_are_at_fault : (config : Config) (front rest : List ℕ) (n : ℕ) → IsWellFormed config → IsLegalLog config (front ++ rest) n → rest ≢ [] → IsAtFault config front (lines_in front + 1)
cut_logs_are_at_fault config front rest n formed log some =
    let few : length log.legal.lines ≤ most_lines = omega (arith, log.few, log.legal.counted) in
    at_fault config front (length log.legal.lines) (config_names config formed) few
    (cut_at config (config_names config formed) log.legal.lines (in_ending n []) front rest few log.legal.legal (sym (append-nil (text_of log.legal.lines)) ∙ sym log.legal.whole) some)
