-- The text of a run is read line by line, each line a legal next one.
use Rattle.std.proofs.Common.{◌≡◌, ◌≢◌, ◌⊎◌, ⊎_elim, inl, inr, ℕ, zero, suc, ◌+◌, ◌<◌, ◌≤◌, false, List, [], ◌∷◌, ◌++◌, length, refl, sym, ap, ◌∙◌, subst, append_assoc, append-nil, arith, length-append}
use Rattle.std.proofs.lemmas.Bool.{cases_eq, cases_lt}
use Rattle.vm_types.specs.declared.config.Config.{Config}
use Rattle.vm_journal.specs.declared.entry.Entry.{Entry}
use Rattle.vm_journal.specs.Line.{line_text}
use Rattle.pager_model.specs.Order.{IsInOrder, spoken_by}
use Rattle.pager_model.specs.Run.{IsRun, pager_after}
use Rattle.pager_policy.specs.Rundown.{at_slot}
use Rattle.pager_policy.specs.Serial.{IsReached}
use Rattle.pager_model.specs.Spoken.{request_of}
use Rattle.run_words.specs.Text.{dirty_lines, ended, status_line}
use Rattle.pager_model.specs.DirtyPages.{dirty_pages}
use Rattle.log_model.specs.Log.{AreLegal, BeginsLegal, IsLegalLog, IsTextOfRun, IsTooLong, most_lines, text_of}
use Rattle.log_model.specs.NextLine.{AreRundownFirst, IsNext}
use Rattle.log_model.specs.Stand.{Stand, ending_after, in_ending, in_entries, in_report, in_rundown, report_after, reported, status_of}
use Rattle.log_laws.specs.Laws.{lines_in}
use Rattle.log_laws.proofs.EntryLines.{ending_ends, one_newer, report_ends}
use Rattle.log_laws.proofs.RunsRead.{AreRight, IsAtReport, entries_text, reported_text, rundown_text}
use Rattle.log_laws.proofs.Texts.{IsOfLines, has_first, no_more_lines}

-- the text is legal lines, which say this
record IsRead (config : Config) (text : List ℕ) (stand : Stand) : Type 0 where
  pub lines : List (List ℕ)
  pub legal : AreLegal config lines stand
  pub is : text_of lines ≡ text

one_more : (config : Config) (text line : List ℕ) (earlier stand : Stand) → IsRead config text earlier → IsNext config earlier line stand → IsRead config (text ++ ended line) stand
one_more config text line earlier stand read next =
    record { lines = line ∷ read.lines; legal = record { earlier = earlier; before = read.legal; next = next }; is = ap (λ (xs : List ℕ). xs ++ ended line) read.is }

as_text : (config : Config) (text other : List ℕ) (stand : Stand) → text ≡ other → IsRead config text stand → IsRead config other stand
as_text config text other stand is read = record { lines = read.lines; legal = read.legal; is = read.is ∙ is }

-- ---- what holds of a run holds of its beginning
order_before : (config : Config) (e : Entry) (past : List Entry) → IsInOrder config (e ∷ past) → IsInOrder config past
order_before config e past order p =
    (spoken_by p (e.seat).0 (request_of e.what) ++ (order p).0, sym (append_assoc _ (spoken_by p (e.seat).0 (request_of e.what)) (order p).0) ∙ (order p).1)

right_before : (config : Config) (rest past : List Entry) → AreRight config (rest ++ past) → AreRight config past
right_before config [] past are = are
right_before config (e ∷ rest) past are = right_before config rest past (record { run = are.run.0; right = are.right.0; in_order = order_before config e (rest ++ past) are.in_order })

-- ---- the entries
read_entries : (config : Config) (past : List Entry) → AreRight config past → IsRead config (entries_text config past) (in_entries past)
read_entries config [] are = record { lines = []; legal = refl; is = refl }
read_entries config (e ∷ past) are =
    let line : List ℕ = line_text (length past + 1) e (length config.procs) config.sections in
    let number : length past + 1 ≡ 1 + length past = omega arith in
    let before = read_entries config past (record { run = are.run.0; right = are.right.0; in_order = order_before config e past are.in_order }) in
    as_text config (entries_text config past ++ ended line) (entries_text config (e ∷ past)) (in_entries (e ∷ past))
    (ap (λ (n : ℕ). entries_text config past ++ ended (line_text n e (length config.procs) config.sections)) number ∙ sym (one_newer 1 (length config.procs) config.sections e past))
    (one_more config (entries_text config past) line (in_entries past) (in_entries (e ∷ past)) before (inl (e, record { text = refl; legal = are.run.1; in_order = are.in_order; right = are.right.1 }, refl)))

-- ---- a text of whole lines that is still to come, as the report's and the ending's
shorten : (n : ℕ) (xs ys : List ℕ) → length xs ≤ suc n → length ys < length xs → length ys ≤ n
shorten n xs ys most less = omega arith

read_report : (config : Config) (past : List Entry) (n : ℕ) (text left : List ℕ) → length left ≤ n → IsOfLines left → IsRead config text (reported past left) → IsRead config (text ++ left) (in_rundown past [])
read_report config past n text [] few whole read = as_text config text (text ++ []) (in_rundown past []) (sym (append-nil text)) read
read_report config past n text (b ∷ left) few (inl none) read = absurd (let no : (b ∷ left) ≡ [] = none in cc)
read_report config past zero text (b ∷ left) few (inr ends) read = absurd (omega arith)
read_report config past (suc n) text (b ∷ left) few (inr ends) read =
    let first = has_first (b ∷ left) ends in
    as_text config ((text ++ ended first.line) ++ first.left) (text ++ (b ∷ left)) (in_rundown past [])
    (append_assoc text (ended first.line) first.left ∙ ap (λ (xs : List ℕ). text ++ xs) (sym first.first.whole))
    (read_report config past n (text ++ ended first.line) first.left (shorten n (b ∷ left) first.left few first.shorter) first.rest
    (one_more config text first.line (in_report past (b ∷ left)) (reported past first.left) read (first.left, first.first, refl)))

read_ending : (config : Config) (count n : ℕ) (text left : List ℕ) → length left ≤ n → IsOfLines left → IsRead config text (in_ending count left) → IsRead config (text ++ left) (in_ending count [])
read_ending config count n text [] few whole read = as_text config text (text ++ []) (in_ending count []) (sym (append-nil text)) read
read_ending config count n text (b ∷ left) few (inl none) read = absurd (let no : (b ∷ left) ≡ [] = none in cc)
read_ending config count zero text (b ∷ left) few (inr ends) read = absurd (omega arith)
read_ending config count (suc n) text (b ∷ left) few (inr ends) read =
    let first = has_first (b ∷ left) ends in
    as_text config ((text ++ ended first.line) ++ first.left) (text ++ (b ∷ left)) (in_ending count [])
    (append_assoc text (ended first.line) first.left ∙ ap (λ (xs : List ℕ). text ++ xs) (sym first.first.whole))
    (read_ending config count n (text ++ ended first.line) first.left (shorten n (b ∷ left) first.left few first.shorter) first.rest
    (one_more config text first.line (in_ending count (b ∷ left)) (in_ending count first.left) read (first.left, first.first, refl)))

-- ---- the report, whole
all_reported : (config : Config) (past : List Entry) → IsAtReport config past → IsRead config (reported_text config past) (in_rundown past [])
all_reported config past place =
    let first = has_first (report_after config past) (report_ends config past) in
    let before : List ℕ = entries_text config past in
    as_text config ((before ++ ended first.line) ++ first.left) (before ++ report_after config past) (in_rundown past [])
    (append_assoc before (ended first.line) first.left ∙ ap (λ (xs : List ℕ). before ++ xs) (sym first.first.whole))
    (read_report config past (length first.left) (before ++ ended first.line) first.left (omega arith) first.rest
    (one_more config before first.line (in_entries past) (reported past first.left) (read_entries config past place.entries)
    (inr (first.left, record { answered = place.answered; landed = place.landed; reused = place.reused; text = first.first }, refl))))

-- ---- the rundown: the entries that are still to come are the later ones
earlier_first : (config : Config) (past rest : List Entry) (e : Entry) → AreRundownFirst config past (e ∷ rest) → AreRundownFirst config past rest
earlier_first config past rest e first = record {
  later = first.later ++ (e ∷ []);
  told = first.told;
  control = first.control;
  reached = subst (λ (all : List Entry). IsReached config past (at_slot 0 0 false) first.told all first.control) (joined first.later) first.reached;
}
  where
    joined : (later : List Entry) → (later ++ (e ∷ rest)) ++ past ≡ ((later ++ (e ∷ [])) ++ rest) ++ past
    joined later = ap (λ (xs : List Entry). xs ++ past) (sym (append_assoc later (e ∷ []) rest))

all_run_down : (config : Config) (past rest : List Entry) → IsRead config (reported_text config past) (in_rundown past []) → AreRundownFirst config past rest → IsRun config (rest ++ past)
    → IsRead config (reported_text config past ++ rundown_text config past rest) (in_rundown past rest)
all_run_down config past [] read first run = as_text config (reported_text config past) (reported_text config past ++ []) (in_rundown past []) (sym (append-nil (reported_text config past))) read
all_run_down config past (e ∷ rest) read first run =
    let line : List ℕ = line_text (length (rest ++ past) + 1) e (length config.procs) config.sections in
    let long = length-append rest past in
    let number : length (rest ++ past) + 1 ≡ (length past + 1) + length rest = omega arith in
    let before = all_run_down config past rest read (earlier_first config past rest e first) run.0 in
    as_text config ((reported_text config past ++ rundown_text config past rest) ++ ended line) (reported_text config past ++ rundown_text config past (e ∷ rest)) (in_rundown past (e ∷ rest))
    (append_assoc (reported_text config past) (rundown_text config past rest) (ended line)
    ∙ (ap (λ (n : ℕ). reported_text config past ++ (rundown_text config past rest ++ ended (line_text n e (length config.procs) config.sections))) number
    ∙ ap (λ (xs : List ℕ). reported_text config past ++ xs) (sym (one_newer (length past + 1) (length config.procs) config.sections e rest))))
    (one_more config (reported_text config past ++ rundown_text config past rest) line (in_rundown past rest) (in_rundown past (e ∷ rest)) before (inl (e, record { text = refl; legal = run.1; move = first }, refl)))

-- ---- all of it
whole_read : (config : Config) (text : List ℕ) (n : ℕ) → IsTextOfRun config text n → IsRead config text (in_ending n [])
whole_read config text n of_run =
    let past : List Entry = of_run.past in
    let rest : List Entry = of_run.rest in
    let whole = of_run.whole in
    let down = whole.rundown in
    let first = has_first (ending_after config (rest ++ past)) (ending_ends config (rest ++ past)) in
    let before : List ℕ = reported_text config past ++ rundown_text config past rest in
    let dirty : List ℕ = dirty_lines config.sections (dirty_pages config (pager_after config (rest ++ past))) in
    let last : List ℕ = status_line (status_of config (pager_after config (rest ++ past))) in
    let entries : AreRight config past = right_before config rest past (record { run = of_run.run; right = of_run.right; in_order = of_run.in_order }) in
    let place : IsAtReport config past = record { entries = entries; answered = whole.answered; landed = whole.landed; reused = whole.reused } in
    let read : IsRead config before (in_rundown past rest) =
    all_run_down config past rest (all_reported config past place) (record { later = []; told = down.told; control = down.control; reached = down.reached }) of_run.run in
    as_text config ((before ++ ended first.line) ++ first.left) text (in_ending n [])
    (append_assoc before (ended first.line) first.left ∙ (ap (λ (xs : List ℕ). before ++ xs) (sym first.first.whole) ∙ (sym (append_assoc before dirty last) ∙ sym of_run.is)))
    (subst (λ (m : ℕ). IsRead config ((before ++ ended first.line) ++ first.left) (in_ending m [])) (sym of_run.counted)
    (read_ending config (length (rest ++ past)) (length first.left) (before ++ ended first.line) first.left (omega arith) first.rest
    (one_more config before first.line (in_rundown past rest) (in_ending (length (rest ++ past)) first.left) read
    (inr (first.left, record { told = down.told; control = down.control; reached = down.reached; rests = down.rests; text = first.first }, refl)))))

of_lines : (config : Config) (text : List ℕ) (n : ℕ) (read : IsRead config text (in_ending n [])) → length read.lines ≤ most_lines → IsLegalLog config text n
of_lines config text n read few =
    record { count = length read.lines; few = few; legal = record { lines = read.lines; legal = read.legal; counted = refl; whole = sym (append-nil (text_of read.lines) ∙ read.is) } }

pub runs_are_legal_logs : (config : Config) (text : List ℕ) (n : ℕ) → IsTextOfRun config text n → lines_in text ≤ most_lines → IsLegalLog config text n
runs_are_legal_logs config text n of_run few =
    let read = whole_read config text n of_run in
    let fewer = no_more_lines read.lines in
    let same = ap lines_in read.is in
    of_lines config text n read (omega arith)

-- ---- more lines than a log may have
-- the text before the last lines
record HasBegun (config : Config) (text : List ℕ) (count : ℕ) : Type 0 where
  pub stand : Stand
  pub left : List ℕ
  pub legal : BeginsLegal config text count stand left
  pub more : left ≢ []

some_line : (xs line : List ℕ) → xs ++ ended line ≢ []
some_line [] [] none = let no : ended [] ≡ [] = none in cc
some_line [] (b ∷ line) none = let no : (b ∷ ended line) ≡ [] = none in cc
some_line (x ∷ xs) line none = let no : (x ∷ (xs ++ ended line)) ≡ [] = none in cc

first_lines : (config : Config) (lines : List (List ℕ)) (stand : Stand) (count : ℕ) → AreLegal config lines stand → count < length lines → HasBegun config (text_of lines) count
first_lines config [] stand count legal less = absurd (omega arith)
first_lines config (line ∷ lines) stand count legal less = by (cases_eq count (length lines)) (λ fewer. first_lines config lines legal.earlier count legal.before fewer)
  where
    by : (count ≡ length lines) ⊎ (count ≡ length lines → ⊥) → (count < length lines → HasBegun config (text_of lines) count) → HasBegun config (text_of (line ∷ lines)) count
    by (inl same) before = record {
      stand = legal.earlier;
      left = ended line;
      legal = record { lines = lines; legal = legal.before; counted = sym same; whole = refl };
      more = some_line [] line;
    }
    by (inr other) before =
        let begun = before (omega arith) in
        record {
          stand = begun.stand;
          left = begun.left ++ ended line;
          legal = record { lines = begun.legal.lines; legal = begun.legal.legal; counted = begun.legal.counted; whole = ap (λ (xs : List ℕ). xs ++ ended line) begun.legal.whole ∙ append_assoc (text_of begun.legal.lines) begun.left (ended line) };
          more = some_line begun.left line;
        }

too_long : (config : Config) (text : List ℕ) (stand : Stand) (read : IsRead config text stand) → most_lines < length read.lines → IsTooLong config text
too_long config text stand read many =
    let begun = first_lines config read.lines stand most_lines read.legal many in
    record {
      stand = begun.stand;
      left = begun.left;
      legal = record { lines = begun.legal.lines; legal = begun.legal.legal; counted = begun.legal.counted; whole = sym read.is ∙ begun.legal.whole };
      more = begun.more;
    }

pub legal_or_too_long : (config : Config) (text : List ℕ) (n : ℕ) → IsTextOfRun config text n → IsLegalLog config text n ⊎ IsTooLong config text
legal_or_too_long config text n of_run = by (whole_read config text n of_run)
  where
    by : (read : IsRead config text (in_ending n [])) → IsLegalLog config text n ⊎ IsTooLong config text
    by read = ⊎_elim (λ many. inr (too_long config text (in_ending n []) read many)) (λ few. inl (of_lines config text n read few)) (cases_lt most_lines (length read.lines))
