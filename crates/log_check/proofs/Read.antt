-- The verdict on a text, by its lines.
use Rattle.std.proofs.Common.{◌≡◌, ◌≢◌, ◌⊎◌, inl, inr, ℕ, ◌+◌, ◌<◌, ◌≤◌, List, [], ◌∷◌, ◌++◌, Option, Some, Ok, length, refl, sym, ap, ◌∙◌, subst, append_assoc, append-nil, arith, length-append}
use Rattle.std.specs.Prelude.{IfSome}
use Rattle.std.specs.List.{AllByRecursion}
use Rattle.std.proofs.lemmas.Bool.{cases_lt}
use Rattle.std.proofs.lemmas.List.Elements.{All-nil, recursion_from_All}
use Rattle.vm_types.specs.Configuration.{IsWellFormed}
use Rattle.vm_types.specs.declared.config.Config.{Config}
use Rattle.outside_io.specs.HandedOut.{IsInLine}
use Rattle.run_words.specs.Text.{ended}
use Rattle.shadow_history.specs.Standing.{Passed}
use Rattle.log_model.specs.Log.{BeginsLegal, HasNoNext, IsAtFault, most_lines, text_of}
use Rattle.log_model.specs.NextLine.{IsFirstLine, IsNext}
use Rattle.log_model.specs.Stand.{Stand, in_ending, in_entries, in_report, in_rundown}
use Rattle.log_reasons.specs.LineReasons.{IsWhy, LeftFails, LineFails}
use Rattle.log_reasons.specs.declared.line_reason.LineReason.{LineReason}
use Rattle.log_reasons.specs.declared.line_reason.LineReason.TheVariants as why
use Rattle.log_laws.specs.Laws.{LegalLinesAreShort}
use Rattle.log_laws.proofs.Texts.{one_line, plain_line}
use Rattle.log_check.specs.declared.followed.Followed.{Followed}
use Rattle.log_check.specs.declared.place.Place.{Place}
use Rattle.log_check.specs.declared.place.Place.TheVariants.{Ending, Entries, Report, Rundown}
use Rattle.log_check.specs.declared.verdict.Verdict.{Verdict}
use Rattle.log_check.specs.declared.verdict.Verdict.TheVariants.{Fault, Legal}
use Rattle.log_check.specs.Judged.{IsCutShort, IsPart, Judges}
use Rattle.log_check.specs.Leading.{LeadsTo, StandsAt}
use Rattle.log_check.specs.Reading.{HasRead, IsEndOf}

-- ---- texts
as_plain : (line : List ℕ) → IsInLine line → AllByRecursion (λ (b : ℕ). b ≢ 10) line
as_plain line plain = recursion_from_All (λ (b : ℕ). b ≢ 10) line plain

-- a byte 10 isn't in the front that has none
no_line_in : (out rest line left : List ℕ) → AllByRecursion (λ (b : ℕ). b ≢ 10) out → length line < length out → out ++ rest ≡ line ++ (10 ∷ left) → ⊥
no_line_in [] rest line left plain less is = absurd (omega (arith, less))
no_line_in (b ∷ out) rest [] left plain less is = let head : b ≡ 10 = cc in plain.0 head
no_line_in (b ∷ out) rest (c ∷ line) left plain less is =
    let behind : out ++ rest ≡ line ++ (10 ∷ left) = cc in
    no_line_in out rest line left plain.1 (omega (arith, less)) behind

-- where the first line ends
joined : (text line left : List ℕ) → IsFirstLine text line left → text ≡ line ++ (10 ∷ left)
joined text line left first = first.whole ∙ append_assoc line (10 ∷ []) left

-- a text without a byte 10 has no first line
none_unended : (text line left : List ℕ) → IsInLine text → IsFirstLine text line left → ⊥
none_unended text line left plain first =
    let is = joined text line left first in
    let long = ap length is ∙ length-append line (10 ∷ left) in
    no_line_in text [] line left (as_plain text plain) (omega (arith, long)) (append-nil text ∙ is)

-- the first line of a text that begins so is this one
one_first : (text out rest line left : List ℕ) → IsInLine out → text ≡ out ++ 10 ∷ rest → IsFirstLine text line left → line ≡ out
one_first text out rest line left plain is first =
    (one_line line out left rest (plain_line text line left first) (as_plain out plain) (sym first.whole ∙ (is ∙ sym (append_assoc out (10 ∷ []) rest)))).same

pub not_empty : (text out rest : List ℕ) → text ≡ out ++ 10 ∷ rest → text ≢ []
not_empty text [] rest is none = let no : (10 ∷ rest) ≡ [] = sym is ∙ none in cc
not_empty text (b ∷ out) rest is none = let no : (b ∷ (out ++ 10 ∷ rest)) ≡ [] = sym is ∙ none in cc

pub longer_not_empty : (text out rest : List ℕ) → length out ≡ 256 → text ≡ out ++ rest → text ≢ []
longer_not_empty text out rest long is none =
    let all = ap length (sym is ∙ none) in
    let parts = length-append out rest in
    omega (arith, long, all, parts)

-- ---- one line more
one_further : (config : Config) (text : List ℕ) (count : ℕ) (stand after : Stand) (left line rest : List ℕ) → BeginsLegal config text count stand left → left ≡ ended line ++ rest → IsNext config stand line after → BeginsLegal config text (count + 1) after rest
one_further config text count stand after left line rest begins is next =
    let counted = begins.counted in
    record {
      lines = line ∷ begins.lines;
      legal = record { earlier = stand; before = begins.legal; next = next };
      counted = omega (arith, counted);
      whole = begins.whole ∙ (ap (λ (xs : List ℕ). text_of begins.lines ++ xs) is ∙ sym (append_assoc (text_of begins.lines) (ended line) rest));
    }

-- as many lines as a log may have, or fewer
few_or_all : (count : ℕ) (left : List ℕ) → count ≤ most_lines → left ≡ [] → (count < most_lines) ⊎ (most_lines ≤ count) → (count < most_lines) ⊎ ((count ≡ most_lines) × (left ≡ []))
few_or_all count left few none (inl less) = inl less
few_or_all count left few none (inr not) = inr (omega (arith, not, few), none)

-- what was read of the text
pub takes_of : {X : Type 0} (o : Option X) (x : X) (P : X → Type 0) → o ≡ Some x → IfSome o P → P x
takes_of o x P is holds = subst (λ (p : Option _). IfSome p P) is holds

-- a whole line isn't a legal next one
left_fails : (config : Config) (stand : Stand) (left line rest : List ℕ) (reason : LineReason) → left ≡ ended line ++ rest → LineFails config stand line reason → LeftFails config stand left reason
left_fails config stand left line rest (why.NotLegal reason) is fails = (line, rest, is, fails)
left_fails config stand left line rest why.OutOfOrder is fails = (line, rest, is, fails)
left_fails config stand left line rest (why.WrongReply right) is fails = (line, rest, is, fails)
left_fails config stand left line rest why.NoEntry is fails = (line, rest, is, fails)
left_fails config stand left line rest (why.NotNextNumber n) is fails = (line, rest, is, fails)
left_fails config stand left line rest (why.NotInText right) is fails = (line, rest, is, fails)
left_fails config stand left line rest why.NotOfRundown is fails = (line, rest, is, fails)
left_fails config stand left line rest why.Ended is fails = absurd fails.2
left_fails config stand left line rest why.NotEnded is fails = absurd fails.2
left_fails config stand left line rest why.TooLong is fails = absurd fails.2

module _ (text : List ℕ) (s : Passed) (place : Place) (count : ℕ) (left : Option (List ℕ)) (read : HasRead text s place count left) where
  abbrev config : Config
  config = s.config

  -- the line isn't a legal next one, or there is none
  at_fault : (count < most_lines) → (read.rest ≢ []) → HasNoNext config read.stand read.rest → IsAtFault config text (count + 1)
  at_fault few some none = record {
    count = count;
    stand = read.stand;
    left = read.rest;
    legal = read.legal;
    follows = refl;
    few = inl few;
    unfinished = λ n is. some;
    none = none;
  }

  -- and this is why
  is_why : (reason : LineReason) → LeftFails config read.stand read.rest reason → IsWhy config text (count + 1) reason
  is_why reason fails = record { count = count; stand = read.stand; left = read.rest; legal = read.legal; follows = refl; fails = fails }

  -- a line was taken, and leads on
  pub read_on : (old new : Followed) (next : Place) (out rest : List ℕ) → old.past ≡ s → LeadsTo old place out new next → read.rest ≡ out ++ 10 ∷ rest → HasRead text new.past next (count + 1) (Some rest)
  read_on old new next out rest same leads is =
      let on = leads.stands read.stand (subst (λ (t : Passed). StandsAt t place read.stand) (sym same) read.stands) in
      let config_is : new.past.config ≡ config = leads.config ∙ ap (λ (t : Passed). t.config) same in
      record {
        stand = on.0;
        rest = rest;
        legal = subst (λ (c : Config). BeginsLegal c text (count + 1) on.0 rest) (sym config_is)
            (one_further config text count read.stand on.0 read.rest out rest read.legal (is ∙ sym (append_assoc out (10 ∷ []) rest)) (subst (λ (c : Config). IsNext c read.stand out on.0) (ap (λ (t : Passed). t.config) same) on.1));
        stands = on.2;
        left_over = refl;
      }

  -- it doesn't
  pub read_fault : (out rest : List ℕ) → count < most_lines → IsInLine out → ((after : Stand) → IsNext config read.stand out after → ⊥) → read.rest ≡ out ++ 10 ∷ rest → IsAtFault config text (count + 1)
  read_fault out rest few plain not is =
      at_fault few (not_empty read.rest out rest is)
      (λ line left after first next. not after (subst (λ (xs : List ℕ). IsNext config read.stand xs after) (one_first read.rest out rest line left plain is first) next))

  pub fault_why : (reason : LineReason) (out rest : List ℕ) → LineFails config read.stand out reason → read.rest ≡ ended out ++ rest → IsWhy config text (count + 1) reason
  fault_why reason out rest fails is = is_why reason (left_fails config read.stand read.rest out rest reason is fails)

  -- the last line isn't ended
  pub unended_why : (out : List ℕ) → IsInLine out → out ≢ [] → read.rest ≡ out → IsWhy config text (count + 1) why.NotEnded
  unended_why out plain some is = is_why why.NotEnded ((λ none. some (sym is ∙ none)), subst IsInLine (sym is) plain)

  pub read_unended : (out : List ℕ) → count < most_lines → IsInLine out → out ≢ [] → read.rest ≡ out → IsAtFault config text (count + 1)
  read_unended out few plain some is =
      at_fault few (λ none. some (sym is ∙ none)) (λ line left after first next. none_unended read.rest line left (subst IsInLine (sym is) plain) first)

  -- the line is too long
  pub long_why : (out rest : List ℕ) → IsInLine out → length out ≡ 256 → read.rest ≡ out ++ rest → IsWhy config text (count + 1) why.TooLong
  long_why out rest plain long is = is_why why.TooLong (out, rest, is, plain, omega (arith, long))

  pub read_long : (out rest : List ℕ) → LegalLinesAreShort → IsWellFormed config → count < most_lines → IsInLine out → length out ≡ 256 → read.rest ≡ out ++ rest → IsAtFault config text (count + 1)
  read_long out rest short formed few plain long is =
      at_fault few (longer_not_empty read.rest out rest long is)
      (λ line left after first next.
      let counted = read.legal.counted in
      let most = short config read.legal.lines line read.stand after formed read.legal.legal next (omega (arith, counted, few)) in
      no_line_in out rest line left (as_plain out plain) (omega (arith, most, long)) (sym is ∙ joined read.rest line left first))

  -- the log ends
  unfinished_at : (p : Place) (v : Verdict) (t : Stand) → StandsAt s p t → IsEndOf p count v → ((n : ℕ) × (t ≡ in_ending n []) × (v ≡ Legal n)) ⊎ (((n : ℕ) → t ≡ in_ending n [] → ⊥) × (v ≡ Fault (count + 1) why.Ended))
  unfinished_at Entries v t at is = inr (λ n ends. (let no : in_entries s.past ≡ in_ending n [] = sym at ∙ ends in cc), is)
  unfinished_at (Report left) v t at is = inr (λ n ends. (let no : in_report s.past left ≡ in_ending n [] = sym at.1 ∙ ends in cc), is)
  unfinished_at (Rundown u) v t at is = inr (λ n ends. (let no : in_rundown at.0 at.1 ≡ in_ending n [] = sym at.3 ∙ ends in cc), is)
  unfinished_at (Ending n []) v t at is = inl (n, at, is)
  unfinished_at (Ending n (b ∷ left)) v t at is = inr (λ m ends. (let no : in_ending n (b ∷ left) ≡ in_ending m [] = sym at ∙ ends in cc), is)

  pub read_end : (v : Verdict) (later : Option (List ℕ)) → count ≤ most_lines → read.rest ≡ [] → later ≡ Some [] → IsEndOf place count v → Judges config (Ok v) text later
  read_end v later few is none ends = by (unfinished_at place v read.stand read.stands ends)
    where
      empty : BeginsLegal config text count read.stand []
      empty = subst (λ (xs : List ℕ). BeginsLegal config text count read.stand xs) is read.legal

      by : ((n : ℕ) × (read.stand ≡ in_ending n []) × (v ≡ Legal n)) ⊎ (((n : ℕ) → read.stand ≡ in_ending n [] → ⊥) × (v ≡ Fault (count + 1) why.Ended)) → Judges config (Ok v) text later
      by (inl whole) =
          subst (λ (w : Verdict). Judges config (Ok w) text later) (sym whole.2)
          (record { count = count; few = few; legal = subst (λ (t : Stand). BeginsLegal config text count t []) whole.1 empty }, none)
      by (inr cut) =
          subst (λ (w : Verdict). Judges config (Ok w) text later) (sym cut.1) (
            record {
              count = count;
              stand = read.stand;
              left = [];
              legal = empty;
              follows = refl;
              few = few_or_all count [] few refl (cases_lt count most_lines);
              unfinished = λ n stands left. cut.0 n stands;
              none = λ line left after first next. none_unended [] line left (All-nil _) first;
            },
            record { count = count; stand = read.stand; left = []; legal = empty; follows = refl; fails = refl },
          )

  -- the lines can't be read further
  pub read_cut : (rest taken : List ℕ) (later : Option (List ℕ)) → count ≤ most_lines → IsPart taken → read.rest ≡ taken ++ rest → later ≡ Some rest → IsCutShort config text later
  read_cut rest taken later few part is left_over = record {
    count = count;
    stand = read.stand;
    taken = taken;
    rest = rest;
    legal = subst (λ (xs : List ℕ). BeginsLegal config text count read.stand xs) is read.legal;
    few = few;
    part = part;
    left_over = left_over;
  }
