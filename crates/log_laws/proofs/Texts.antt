-- The lines of a text: its first line, and that a text whose last byte is 10 has one.
use Rattle.std.proofs.Common.{◌≡◌, ◌≢◌, ◌⊎◌, inl, inr, ℕ, ◌+◌, ◌<◌, ◌≤◌, List, [], ◌∷◌, ◌++◌, length, nat_eq, refl, sym, ap, ap₂, ◌∙◌, append_assoc, append-nil, arith, length-append, ne_eqb}
use Rattle.std.specs.List.{AllByRecursion}
use Rattle.std.proofs.lemmas.Bool.{cases_eq}
use Rattle.std.proofs.lemmas.List.Elements.{All-from_recursion, recursion_from_All}
use Rattle.run_words.specs.Text.{ended}
use Rattle.log_model.specs.Log.{text_of}
use Rattle.log_model.specs.NextLine.{IsFirstLine}
use Rattle.log_laws.specs.Laws.{lines_in}
use Rattle.pager_rules.proofs.Basics.{count_cons, count_cons_no}

-- no byte of the text is 10
abbrev pub IsPlain : List ℕ → Type 0
IsPlain text = AllByRecursion (λ (b : ℕ). b ≢ 10) text

pub plain_line : (text line left : List ℕ) → IsFirstLine text line left → IsPlain line
plain_line text line left first = recursion_from_All (λ (b : ℕ). b ≢ 10) line first.one

-- a line with what is behind it
pub line_joined : (line left : List ℕ) → ended line ++ left ≡ line ++ (10 ∷ left)
line_joined line left = append_assoc line (10 ∷ []) left

-- two texts that are equal have one first line, and the same is left of them
pub record IsOneLine (line other left rest : List ℕ) : Type 0 where
  pub same : line ≡ other
  pub same_left : left ≡ rest

joined_same : (line other left rest : List ℕ) → IsPlain line → IsPlain other → line ++ (10 ∷ left) ≡ other ++ (10 ∷ rest) → IsOneLine line other left rest
joined_same [] [] left rest plain also is = record { same = refl; same_left = cc }
joined_same [] (b ∷ other) left rest plain also is = let head : b ≡ 10 = cc in absurd (also.0 head)
joined_same (b ∷ line) [] left rest plain also is = let head : b ≡ 10 = cc in absurd (plain.0 head)
joined_same (b ∷ line) (c ∷ other) left rest plain also is =
    let head : b ≡ c = cc in
    let behind : line ++ (10 ∷ left) ≡ other ++ (10 ∷ rest) = cc in
    let more = joined_same line other left rest plain.1 also.1 behind in
    record { same = ap₂ (λ (x : ℕ) (xs : List ℕ). x ∷ xs) head more.same; same_left = more.same_left }

pub one_line : (line other left rest : List ℕ) → IsPlain line → IsPlain other → ended line ++ left ≡ ended other ++ rest → IsOneLine line other left rest
one_line line other left rest plain also is =
    joined_same line other left rest plain also (sym (line_joined line left) ∙ (is ∙ line_joined other rest))

pub first_line : (text line left : List ℕ) → text ≡ ended line ++ left → IsPlain line → IsFirstLine text line left
first_line text line left is plain = record { whole = is; one = All-from_recursion (λ (b : ℕ). b ≢ 10) line plain }

-- the last byte of the text is 10
pub record EndsLine (text : List ℕ) : Type 0 where
  pub front : List ℕ
  pub is : text ≡ front ++ (10 ∷ [])

-- it is empty, or its last byte is 10
abbrev pub IsOfLines : List ℕ → Type 0
IsOfLines text = (text ≡ []) ⊎ EndsLine text

pub ended_ends : (line : List ℕ) → EndsLine (ended line)
ended_ends line = record { front = line; is = refl }

pub behind_ends : (xs ys : List ℕ) → EndsLine ys → EndsLine (xs ++ ys)
behind_ends xs ys ends = record {
  front = xs ++ ends.front;
  is = ap (λ (zs : List ℕ). xs ++ zs) ends.is ∙ sym (append_assoc xs ends.front (10 ∷ []));
}

pub both_end : (xs ys : List ℕ) → EndsLine xs → IsOfLines ys → EndsLine (xs ++ ys)
both_end xs ys ends (inl none) = record { front = ends.front; is = ap (λ (zs : List ℕ). xs ++ zs) none ∙ (append-nil xs ∙ ends.is) }
both_end xs ys ends (inr some) = behind_ends xs ys some

-- a text whose last byte is 10 has a first line, and what is left of it is empty or ends so too
pub record HasFirst (text : List ℕ) : Type 0 where
  pub line : List ℕ
  pub left : List ℕ
  pub first : IsFirstLine text line left
  pub rest : IsOfLines left
  pub shorter : length left < length text

-- the same, found from the front on
record IsSplit (front : List ℕ) : Type 0 where
  pub line : List ℕ
  pub left : List ℕ
  pub is : front ++ (10 ∷ []) ≡ line ++ (10 ∷ left)
  pub plain : IsPlain line
  pub rest : IsOfLines left

split : (front : List ℕ) → IsSplit front
split [] = record { line = []; left = []; is = refl; plain = tt; rest = inl refl }
split (b ∷ front) = by (cases_eq b 10) (split front)
  where
    by : (b ≡ 10) ⊎ (b ≡ 10 → ⊥) → IsSplit front → IsSplit (b ∷ front)
    by (inl ten) more = record {
      line = [];
      left = front ++ (10 ∷ []);
      is = ap (λ (x : ℕ). x ∷ (front ++ (10 ∷ []))) ten;
      plain = tt;
      rest = inr (record { front = front; is = refl });
    }
    by (inr other) more = record {
      line = b ∷ more.line;
      left = more.left;
      is = ap (λ (xs : List ℕ). b ∷ xs) more.is;
      plain = (other, more.plain);
      rest = more.rest;
    }

pub has_first : (text : List ℕ) → EndsLine text → HasFirst text
has_first text ends =
    let parts = split ends.front in
    let is : text ≡ ended parts.line ++ parts.left = ends.is ∙ (parts.is ∙ sym (line_joined parts.line parts.left)) in
    let long : length text ≡ length parts.line + length (10 ∷ parts.left) = ap length (ends.is ∙ parts.is) ∙ length-append parts.line (10 ∷ parts.left) in
    record { line = parts.line; left = parts.left; first = first_line text parts.line parts.left is parts.plain; rest = parts.rest; shorter = omega arith }

-- ---- how many bytes 10 a text has
pub lines_join : (xs ys : List ℕ) → lines_in (xs ++ ys) ≡ lines_in xs + lines_in ys
lines_join [] ys = omega arith
lines_join (b ∷ xs) ys =
    let whole = count_cons (λ (b : ℕ). nat_eq b 10) b (xs ++ ys) in
    let front = count_cons (λ (b : ℕ). nat_eq b 10) b xs in
    let more = lines_join xs ys in
    omega arith

pub lines_none : (line : List ℕ) → IsPlain line → lines_in line ≡ 0
lines_none [] plain = refl
lines_none (b ∷ line) plain = count_cons_no (λ (x : ℕ). nat_eq x 10) b line (ne_eqb b 10 plain.0) ∙ lines_none line plain.1

lines_ended : (line : List ℕ) → lines_in (ended line) ≡ lines_in line + 1
lines_ended line = lines_join line (10 ∷ [])

-- each line ends with a byte 10 of its own
pub no_more_lines : (lines : List (List ℕ)) → length lines ≤ lines_in (text_of lines)
no_more_lines [] = omega arith
no_more_lines (line ∷ lines) =
    let joined = lines_join (text_of lines) (ended line) in
    let last = lines_ended line in
    let more = no_more_lines lines in
    omega arith

-- and has no other one if no byte of it is 10
pub as_many_lines : (lines : List (List ℕ)) → AllByRecursion IsPlain lines → lines_in (text_of lines) ≡ length lines
as_many_lines [] plain = refl
as_many_lines (line ∷ lines) plain =
    let joined = lines_join (text_of lines) (ended line) in
    let last = lines_ended line in
    let none = lines_none line plain.0 in
    let more = as_many_lines lines plain.1 in
    omega arith
