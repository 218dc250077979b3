-- A text has one verdict, and a fault stays whatever follows its line.
use Rattle.std.proofs.Common.{◌≡◌, ◌≢◌, ◌⊎◌, inl, inr, ℕ, ◌+◌, ◌<◌, ◌≤◌, List, [], ◌∷◌, ◌++◌, All, length, refl, sym, ap, ap₂, ◌∙◌, subst, append_assoc, append-nil, arith}
use Rattle.std.specs.List.{AllByRecursion}
use Rattle.std.proofs.lemmas.Bool.{cases_eq, cases_lt}
use Rattle.std.proofs.lemmas.List.Elements.{recursion_from_All}
use Rattle.vm_types.specs.Configuration.{IsWellFormed}
use Rattle.vm_types.specs.declared.config.Config.{Config}
use Rattle.vm_text.specs.Named.{AreNames}
use Rattle.vm_text.proofs.Printable.{config_names}
use Rattle.run_words.specs.Text.{ended}
use Rattle.log_model.specs.Log.{AreLegal, BeginsLegal, IsAtFault, IsLegalLog, IsTextOfRun, IsTooLong, most_lines, text_of}
use Rattle.log_model.specs.NextLine.{IsFirstLine, IsNext}
use Rattle.log_model.specs.Stand.{Stand, in_ending}
use Rattle.log_laws.specs.Laws.{lines_in}
use Rattle.log_laws.specs.Verdict.{IsJudged, IsLines, Verdict, faulty, legal, too_long}
use Rattle.log_laws.proofs.LinesFound.{legal_or_too_long}
use Rattle.log_laws.proofs.OneWay.{legal_plain, legal_same}
use Rattle.log_laws.proofs.Texts.{IsPlain, as_many_lines, first_line, one_line, plain_line}

-- as many lines at the front of one text are the same lines
record AreSameLines (xs ys : List (List ℕ)) (left rest : List ℕ) : Type 0 where
  pub same : xs ≡ ys
  pub same_left : left ≡ rest

same_lines : (xs ys : List (List ℕ)) (left rest : List ℕ) → AllByRecursion IsPlain xs → AllByRecursion IsPlain ys → length xs ≡ length ys → text_of xs ++ left ≡ text_of ys ++ rest → AreSameLines xs ys left rest
same_lines [] [] left rest plain also many is = record { same = refl; same_left = is }
same_lines [] (y ∷ ys) left rest plain also many is = absurd (omega arith)
same_lines (x ∷ xs) [] left rest plain also many is = absurd (omega arith)
same_lines (x ∷ xs) (y ∷ ys) left rest plain also many is =
    let before = same_lines xs ys (ended x ++ left) (ended y ++ rest) plain.1 also.1 (omega arith) (sym (append_assoc (text_of xs) (ended x) left) ∙ (is ∙ append_assoc (text_of ys) (ended y) rest)) in
    let last = one_line x y left rest plain.0 also.0 before.same_left in
    record { same = ap₂ (λ (line : List ℕ) (lines : List (List ℕ)). line ∷ lines) last.same before.same; same_left = last.same_left }

pub no_first : (line left : List ℕ) → IsFirstLine [] line left → ⊥
no_first [] left first = let no : [] ≡ ended [] ++ left = first.whole in cc
no_first (b ∷ line) left first = let no : [] ≡ ended (b ∷ line) ++ left = first.whole in cc

-- the first line of what is left is a legal next one
record HasNext (config : Config) (stand : Stand) (left : List ℕ) : Type 0 where
  pub line : List ℕ
  pub rest : List ℕ
  pub after : Stand
  pub first : IsFirstLine left line rest
  pub next : IsNext config stand line after

-- what as many legal lines say, and what is left behind them
record IsOneStand (one two : Stand) (left rest : List ℕ) : Type 0 where
  pub stand : one ≡ two
  pub same_left : left ≡ rest

-- one number is below the other one, or they are the same
compare : {X : Type 0} (m n : ℕ) → (m < n → X) → (n < m → X) → (m ≡ n → X) → X
compare {X} m n below above same = by (cases_lt m n) (cases_lt n m)
  where
    by : (m < n) ⊎ (n ≤ m) → (n < m) ⊎ (m ≤ n) → X
    by (inl less) other = below less
    by (inr most) (inl less) = above less
    by (inr most) (inr least) = same (omega arith)

module _ (config : Config) (are : AreNames (length config.procs) config.sections) (text : List ℕ) where
  one_stand : (count : ℕ) (one two : Stand) (left rest : List ℕ) → count ≤ most_lines → BeginsLegal config text count one left → BeginsLegal config text count two rest → IsOneStand one two left rest
  one_stand count one two left rest few begins also =
      let first_few : length begins.lines ≤ most_lines = omega (arith, begins.counted) in
      let also_few : length also.lines ≤ most_lines = omega (arith, also.counted) in
      let lines = same_lines begins.lines also.lines left rest (legal_plain config are begins.lines one first_few begins.legal) (legal_plain config are also.lines two also_few also.legal)
      (begins.counted ∙ sym also.counted) (sym begins.whole ∙ also.whole) in
      record {
        stand = legal_same config are begins.lines one two first_few begins.legal (subst (λ (ls : List (List ℕ)). AreLegal config ls two) (sym lines.same) also.legal);
        same_left = lines.same_left;
      }

  -- if more lines are legal, the next one is
  next_of : (count : ℕ) (one two : Stand) (left rest : List ℕ) (lines : List (List ℕ)) → count < length lines → length lines ≤ most_lines → BeginsLegal config text count one left
      → AreLegal config lines two → text ≡ text_of lines ++ rest → HasNext config one left
  next_of count one two left rest [] less few begins are_legal is = absurd (omega arith)
  next_of count one two left rest (line ∷ lines) less few begins are_legal is =
      by (cases_eq count (length lines)) (λ fewer. next_of count one are_legal.earlier left (ended line ++ rest) lines fewer (omega arith) begins are_legal.before before)
    where
      before : text ≡ text_of lines ++ (ended line ++ rest)
      before = is ∙ append_assoc (text_of lines) (ended line) rest

      by : (count ≡ length lines) ⊎ (count ≡ length lines → ⊥) → (count < length lines → HasNext config one left) → HasNext config one left
      by (inl same) further =
          let here = one_stand count one are_legal.earlier left (ended line ++ rest) (omega arith) begins (record { lines = lines; legal = are_legal.before; counted = sym same; whole = before }) in
          let plain = legal_plain config are (line ∷ lines) two few are_legal in
          record {
            line = line;
            rest = rest;
            after = two;
            first = first_line left line rest here.same_left plain.0;
            next = subst (λ (s : Stand). IsNext config s line two) (sym here.stand) are_legal.next;
          }
      by (inr other) further = further (omega arith)

  next_line : (count more : ℕ) (one two : Stand) (left rest : List ℕ) → count < more → more ≤ most_lines → BeginsLegal config text count one left → BeginsLegal config text more two rest → HasNext config one left
  next_line count more one two left rest less few begins also = next_of count one two left rest also.lines (omega (arith, also.counted)) (omega (arith, also.counted)) begins also.legal also.whole

  -- ---- two verdicts
  no_more : (one : Stand) → HasNext config one [] → ⊥
  no_more one next = no_first next.line next.rest next.first

  legal_twice : (n m : ℕ) → IsLegalLog config text n → IsLegalLog config text m → n ≡ m
  legal_twice n m one two = compare one.count two.count
      (λ less. absurd (no_more (in_ending n []) (next_line one.count two.count (in_ending n []) (in_ending m []) [] [] less two.few one.legal two.legal)))
      (λ less. absurd (no_more (in_ending m []) (next_line two.count one.count (in_ending m []) (in_ending n []) [] [] less one.few two.legal one.legal)))
      (λ same. equal (one_stand two.count (in_ending n []) (in_ending m []) [] [] two.few (subst (λ (k : ℕ). BeginsLegal config text k (in_ending n []) []) same one.legal) two.legal).stand)
    where
      equal : in_ending n [] ≡ in_ending m [] → n ≡ m
      equal is = cc

  fault_few : (number : ℕ) (fault : IsAtFault config text number) → fault.count ≤ most_lines
  fault_few number fault = by fault.few
    where
      by : (fault.count < most_lines) ⊎ ((fault.count ≡ most_lines) × (fault.left ≡ [])) → fault.count ≤ most_lines
      by (inl less) = omega arith
      by (inr same) = omega (arith, same.0)

  not_both : (n number : ℕ) → IsLegalLog config text n → IsAtFault config text number → ⊥
  not_both n number log fault = compare log.count fault.count
      (λ less. no_more (in_ending n []) (next_line log.count fault.count (in_ending n []) fault.stand [] fault.left less (fault_few number fault) log.legal fault.legal))
      (λ less. fault_next (next_line fault.count log.count fault.stand (in_ending n []) fault.left [] less log.few fault.legal log.legal))
      (λ same. ended_there (one_stand log.count (in_ending n []) fault.stand [] fault.left log.few log.legal (subst (λ (k : ℕ). BeginsLegal config text k fault.stand fault.left) (sym same) fault.legal)))
    where
      fault_next : HasNext config fault.stand fault.left → ⊥
      fault_next next = fault.none next.line next.rest next.after next.first next.next

      ended_there : IsOneStand (in_ending n []) fault.stand [] fault.left → ⊥
      ended_there one = fault.unfinished n (sym one.stand) (sym one.same_left)

  faults_same : (number other : ℕ) → IsAtFault config text number → IsAtFault config text other → number ≡ other
  faults_same number other one two = compare one.count two.count
      (λ less. absurd (fault_next number one (next_line one.count two.count one.stand two.stand one.left two.left less (fault_few other two) one.legal two.legal)))
      (λ less. absurd (fault_next other two (next_line two.count one.count two.stand one.stand two.left one.left less (fault_few number one) two.legal one.legal)))
      (λ same. one.follows ∙ (ap (λ (k : ℕ). k + 1) same ∙ sym two.follows))
    where
      fault_next : (k : ℕ) (fault : IsAtFault config text k) → HasNext config fault.stand fault.left → ⊥
      fault_next k fault next = fault.none next.line next.rest next.after next.first next.next

  not_long : (n : ℕ) → IsLegalLog config text n → IsTooLong config text → ⊥
  not_long n log long = by (cases_eq log.count most_lines)
    where
      by : (log.count ≡ most_lines) ⊎ (log.count ≡ most_lines → ⊥) → ⊥
      by (inl same) = long.more (sym (one_stand most_lines (in_ending n []) long.stand [] long.left (omega arith) (subst (λ (k : ℕ). BeginsLegal config text k (in_ending n []) []) same log.legal) long.legal).same_left)
      by (inr other) =
          let few = log.few in
          no_more (in_ending n []) (next_line log.count most_lines (in_ending n []) long.stand [] long.left (omega arith) (omega arith) log.legal long.legal)

  no_fault_long : (number : ℕ) → IsAtFault config text number → IsTooLong config text → ⊥
  no_fault_long number fault long = by fault.few
    where
      by : (fault.count < most_lines) ⊎ ((fault.count ≡ most_lines) × (fault.left ≡ [])) → ⊥
      by (inl less) =
          let next = next_line fault.count most_lines fault.stand long.stand fault.left long.left less (omega arith) fault.legal long.legal in
          fault.none next.line next.rest next.after next.first next.next
      by (inr same) =
          let one = one_stand most_lines fault.stand long.stand fault.left long.left (omega arith) (subst (λ (k : ℕ). BeginsLegal config text k fault.stand fault.left) same.0 fault.legal) long.legal in
          long.more (sym one.same_left ∙ same.1)

  verdict_same : (v w : Verdict) → IsJudged config text v → IsJudged config text w → v ≡ w
  verdict_same (legal n) (legal m) one two = ap legal (legal_twice n m one two)
  verdict_same (legal n) (faulty m) one two = absurd (not_both n m one two)
  verdict_same (legal n) too_long one two = absurd (not_long n one two)
  verdict_same (faulty n) (legal m) one two = absurd (not_both m n two one)
  verdict_same (faulty n) (faulty m) one two = ap faulty (faults_same n m one two)
  verdict_same (faulty n) too_long one two = absurd (no_fault_long n one two)
  verdict_same too_long (legal m) one two = absurd (not_long m two one)
  verdict_same too_long (faulty m) one two = absurd (no_fault_long m two one)
  verdict_same too_long too_long one two = refl

pub one_verdict : (config : Config) (text : List ℕ) (v w : Verdict) → IsWellFormed config → IsJudged config text v → IsJudged config text w → v ≡ w
one_verdict config text v w formed one two = verdict_same config (config_names config formed) text v w one two

-- a legal log has no more lines than it may have
pub legal_logs_are_short : (config : Config) (text : List ℕ) (n : ℕ) → IsWellFormed config → IsLegalLog config text n → lines_in text ≤ most_lines
legal_logs_are_short config text n formed log =
    let few : length log.legal.lines ≤ most_lines = omega (arith, log.few, log.legal.counted) in
    let plain = legal_plain config (config_names config formed) log.legal.lines (in_ending n []) few log.legal.legal in
    let many = as_many_lines log.legal.lines plain in
    let same = ap lines_in (log.legal.whole ∙ append-nil (text_of log.legal.lines)) in
    omega arith

-- ---- what follows a fault
plain_each : (lines : List (List ℕ)) → AllByRecursion (λ (line : List ℕ). All (λ (b : ℕ). b ≢ 10) line) lines → AllByRecursion IsPlain lines
plain_each [] each = tt
plain_each (line ∷ lines) each = (recursion_from_All (λ (b : ℕ). b ≢ 10) line each.0, plain_each lines each.1)

module _ (config : Config) (are : AreNames (length config.procs) config.sections) (front rest other : List ℕ) (number : ℕ) (fault : IsAtFault config (front ++ rest) number) where
  stands_by : (line : List ℕ) (lines : List (List ℕ)) → AllByRecursion IsPlain (line ∷ lines) → length (line ∷ lines) ≡ number → front ≡ text_of (line ∷ lines) → IsAtFault config (front ++ other) number
  stands_by line lines plain counted is = record {
    count = fault.count;
    stand = fault.stand;
    left = ended line ++ other;
    legal = record { lines = fault.legal.lines; legal = fault.legal.legal; counted = fault.legal.counted; whole = cut other ∙ ap (λ (ls : List (List ℕ)). text_of ls ++ (ended line ++ other)) same.same };
    follows = fault.follows;
    few = fewer fault.few;
    unfinished = λ n is_end none. some_line other none;
    none = λ found left after first next. fault.none line rest after (first_line fault.left line rest (sym same.same_left) plain.0)
        (subst (λ (l : List ℕ). IsNext config fault.stand l after) (one_line found line left other (plain_line (ended line ++ other) found left first) plain.0 (sym first.whole)).same next);
  }
    where
      cut : (behind : List ℕ) → front ++ behind ≡ text_of lines ++ (ended line ++ behind)
      cut behind = ap (λ (xs : List ℕ). xs ++ behind) is ∙ append_assoc (text_of lines) (ended line) behind

      few_lines : length fault.legal.lines ≤ most_lines
      few_lines = omega (arith, fault.legal.counted, fault_few config are (front ++ rest) number fault)

      same : AreSameLines lines fault.legal.lines (ended line ++ rest) fault.left
      same = same_lines lines fault.legal.lines (ended line ++ rest) fault.left plain.1 (legal_plain config are fault.legal.lines fault.stand few_lines fault.legal.legal)
          (omega (arith, fault.legal.counted, fault.follows)) (sym (cut rest) ∙ fault.legal.whole)

      some_line : (behind : List ℕ) → ended line ++ behind ≡ [] → ⊥
      some_line behind none = no_first line behind (first_line [] line behind (sym none) plain.0)

      fewer : (fault.count < most_lines) ⊎ ((fault.count ≡ most_lines) × (fault.left ≡ [])) → (fault.count < most_lines) ⊎ ((fault.count ≡ most_lines) × ((ended line ++ other) ≡ []))
      fewer (inl less) = inl less
      fewer (inr last) = absurd (some_line rest (same.same_left ∙ last.1))

  stands : (lines : List (List ℕ)) → AllByRecursion IsPlain lines → length lines ≡ number → front ≡ text_of lines → IsAtFault config (front ++ other) number
  stands [] plain counted is = absurd (omega (arith, fault.follows))
  stands (line ∷ lines) plain counted is = stands_by line lines plain counted is

pub faults_stand : (config : Config) (front rest other : List ℕ) (number : ℕ) → IsWellFormed config → IsLines front number → IsAtFault config (front ++ rest) number → IsAtFault config (front ++ other) number
faults_stand config front rest other number formed lines fault =
    stands config (config_names config formed) front rest other number fault lines.lines
    (plain_each lines.lines (recursion_from_All (λ (line : List ℕ). All (λ (b : ℕ). b ≢ 10) line) lines.lines lines.each)) lines.counted lines.is

-- no run's text begins so
pub faults_are_no_runs : (config : Config) (front rest other : List ℕ) (number n : ℕ) → IsWellFormed config → IsLines front number → IsAtFault config (front ++ rest) number → IsTextOfRun config (front ++ other) n → ⊥
faults_are_no_runs config front rest other number n formed lines fault of_run = by (legal_or_too_long config (front ++ other) n of_run)
  where
    stays : IsAtFault config (front ++ other) number
    stays = faults_stand config front rest other number formed lines fault

    by : IsLegalLog config (front ++ other) n ⊎ IsTooLong config (front ++ other) → ⊥
    by (inl log) = not_both config (config_names config formed) (front ++ other) n number log stays
    by (inr long) = no_fault_long config (config_names config formed) (front ++ other) number stays long
