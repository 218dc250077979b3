-- The lines of a log, as far as they are legal, are the text of what they say.
use Rattle.std.proofs.Common.{◌≡◌, inl, inr, ℕ, ◌+◌, false, List, [], ◌∷◌, ◌++◌, length, reverse, refl, sym, ap, ◌∙◌, subst, append_assoc, append-nil, arith, length-append}
use Rattle.vm_types.specs.declared.config.Config.{Config}
use Rattle.vm_journal.specs.declared.entry.Entry.{Entry}
use Rattle.vm_journal.specs.Line.{line_text}
use Rattle.pager_model.specs.Flights.{awaits_reuse, open_flights}
use Rattle.pager_model.specs.Order.{IsAnswered, IsInOrder, requests_of}
use Rattle.pager_model.specs.Run.{IsRun, pager_after}
use Rattle.pager_policy.specs.Serial.{IsWhole}
use Rattle.pager_model.specs.Spoken.{IsRight}
use Rattle.run_words.specs.Text.{dirty_lines, ended, entry_lines, run_text, status_line}
use Rattle.pager_model.specs.DirtyPages.{dirty_pages}
use Rattle.log_model.specs.Log.{AreLegal, IsLegalLog, IsTextOfRun, text_of}
use Rattle.log_model.specs.NextLine.{BeginsEnding, BeginsReport, IsFirstLine, IsNext, IsNextEntry, IsNextRundown}
use Rattle.log_model.specs.Stand.{Stand, ending_after, in_ending, in_entries, in_report, in_rundown, report_after, reported, status_of}
use Rattle.log_laws.proofs.EntryLines.{one_newer}
use Rattle.log_laws.proofs.Quiet.{quiet_right, rundown_answers}

-- the text of the entries, with the report behind them, and of the entries after it
abbrev pub entries_text : Config → List Entry → List ℕ
entries_text config past = entry_lines 1 (length config.procs) config.sections (reverse past)

abbrev pub reported_text : Config → List Entry → List ℕ
reported_text config past = entries_text config past ++ report_after config past

abbrev pub rundown_text : Config → List Entry → List Entry → List ℕ
rundown_text config past rest = entry_lines (length past + 1) (length config.procs) config.sections (reverse rest)

-- they are a run, with right values, and keep the order of each process's requests
pub record AreRight (config : Config) (past : List Entry) : Type 0 where
  pub run : IsRun config past
  pub right : IsRight config past
  pub in_order : IsInOrder config past

-- and are at the report's place
pub record IsAtReport (config : Config) (past : List Entry) : Type 0 where
  pub entries : AreRight config past
  pub answered : IsAnswered config past
  pub landed : open_flights past ≡ []
  pub reused : awaits_reuse past ≡ false

record SaysEntries (config : Config) (past : List Entry) (text : List ℕ) : Type 0 where
  pub entries : AreRight config past
  pub is : text ≡ entries_text config past

record SaysReport (config : Config) (past : List Entry) (left text : List ℕ) : Type 0 where
  pub place : IsAtReport config past
  pub is : text ++ left ≡ reported_text config past

record SaysRundown (config : Config) (past rest : List Entry) (text : List ℕ) : Type 0 where
  pub place : IsAtReport config past
  pub run : IsRun config (rest ++ past)
  pub is : text ≡ reported_text config past ++ rundown_text config past rest

record SaysEnding (config : Config) (n : ℕ) (left text : List ℕ) : Type 0 where
  pub past : List Entry
  pub rest : List Entry
  pub entries : AreRight config (rest ++ past)
  pub whole : IsWhole config past rest
  pub counted : n ≡ length (rest ++ past)
  pub is : text ++ left ≡ run_text config past rest (status_of config (pager_after config (rest ++ past)))

-- the text says this
abbrev Says : Config → Stand → List ℕ → Type 0
Says config (in_entries past) text = SaysEntries config past text
Says config (in_report past left) text = SaysReport config past left text
Says config (in_rundown past rest) text = SaysRundown config past rest text
Says config (in_ending n left) text = SaysEnding config n left text

says_reported : (config : Config) (past : List Entry) (left text : List ℕ) → SaysReport config past left text → Says config (reported past left) text
says_reported config past [] text says = record { place = says.place; run = says.place.entries.run; is = sym (append-nil text) ∙ (says.is ∙ sym (append-nil (reported_text config past))) }
says_reported config past (b ∷ left) text says = says

-- one line further
one_further : (text line left all : List ℕ) → text ++ (ended line ++ left) ≡ all → (text ++ ended line) ++ left ≡ all
one_further text line left all is = append_assoc text (ended line) left ∙ is

further_left : (text left all line rest : List ℕ) → text ++ left ≡ all → IsFirstLine left line rest → (text ++ ended line) ++ rest ≡ all
further_left text left all line rest is first = one_further text line rest all (ap (λ (xs : List ℕ). text ++ xs) (sym first.whole) ∙ is)

entry_further : (config : Config) (past : List Entry) (e : Entry) (line text : List ℕ) → SaysEntries config past text → IsNextEntry config past e line → SaysEntries config (e ∷ past) (text ++ ended line)
entry_further config past e line text says next =
    let number : length past + 1 ≡ 1 + length past = omega arith in
    record {
      entries = record { run = (says.entries.run, next.legal); right = (says.entries.right, next.right); in_order = next.in_order };
      is =
          ap (λ (xs : List ℕ). xs ++ ended line) says.is
          ∙ (ap (λ (xs : List ℕ). entries_text config past ++ ended xs) (next.text ∙ ap (λ (n : ℕ). line_text n e (length config.procs) config.sections) number)
          ∙ sym (one_newer 1 (length config.procs) config.sections e past));
    }

report_further : (config : Config) (past : List Entry) (line left text : List ℕ) → SaysEntries config past text → BeginsReport config past line left → SaysReport config past left (text ++ ended line)
report_further config past line left text says begins = record {
  place = record { entries = says.entries; answered = begins.answered; landed = begins.landed; reused = begins.reused };
  is = further_left text (report_after config past) (reported_text config past) line left (ap (λ (xs : List ℕ). xs ++ report_after config past) says.is) begins.text;
}

rundown_further : (config : Config) (past rest : List Entry) (e : Entry) (line text : List ℕ) → SaysRundown config past rest text → IsNextRundown config past rest e line → SaysRundown config past (e ∷ rest) (text ++ ended line)
rundown_further config past rest e line text says next =
    let long = length-append rest past in
    let number : length (rest ++ past) + 1 ≡ (length past + 1) + length rest = omega arith in
    record {
      place = says.place;
      run = (says.run, next.legal);
      is =
          ap (λ (xs : List ℕ). xs ++ ended line) says.is
          ∙ (append_assoc (reported_text config past) (rundown_text config past rest) (ended line)
          ∙ (ap (λ (xs : List ℕ). reported_text config past ++ (rundown_text config past rest ++ ended xs)) (next.text ∙ ap (λ (n : ℕ). line_text n e (length config.procs) config.sections) number)
          ∙ ap (λ (xs : List ℕ). reported_text config past ++ xs) (sym (one_newer (length past + 1) (length config.procs) config.sections e rest))));
    }

ending_further : (config : Config) (past rest : List Entry) (line left text : List ℕ) → SaysRundown config past rest text → BeginsEnding config past rest line left → SaysEnding config (length (rest ++ past)) left (text ++ ended line)
ending_further config past rest line left text says begins =
    let answers = rundown_answers config past begins.told (rest ++ past) begins.control begins.reached in
    let dirty : List ℕ = dirty_lines config.sections (dirty_pages config (pager_after config (rest ++ past))) in
    let last : List ℕ = status_line (status_of config (pager_after config (rest ++ past))) in
    record {
      past = past;
      rest = rest;
      entries = record {
        run = says.run;
        right = quiet_right config rest past answers says.place.entries.right;
        in_order = λ p. ([], append-nil _ ∙ (answers p ∙ says.place.answered p));
      };
      whole = record {
        answered = says.place.answered;
        landed = says.place.landed;
        reused = says.place.reused;
        rundown = record { control = begins.control; told = begins.told; reached = begins.reached; rests = begins.rests };
      };
      counted = refl;
      is =
          further_left text (ending_after config (rest ++ past)) (run_text config past rest (status_of config (pager_after config (rest ++ past)))) line left
          (sym (append_assoc text dirty last) ∙ ap (λ (xs : List ℕ). (xs ++ dirty) ++ last) says.is) begins.text;
    }

says_next : (config : Config) (s : Stand) (line : List ℕ) (after : Stand) (text : List ℕ) → Says config s text → IsNext config s line after → Says config after (text ++ ended line)
says_next config (in_entries past) line after text says (inl next) = subst (λ (s : Stand). Says config s (text ++ ended line)) (sym next.2) (entry_further config past next.0 line text says next.1)
says_next config (in_entries past) line after text says (inr next) =
    subst (λ (s : Stand). Says config s (text ++ ended line)) (sym next.2) (says_reported config past next.0 (text ++ ended line) (report_further config past line next.0 text says next.1))
says_next config (in_report past left) line after text says next =
    subst (λ (s : Stand). Says config s (text ++ ended line)) (sym next.2) (says_reported config past next.0 (text ++ ended line) (record { place = says.place; is = further_left text left (reported_text config past) line next.0 says.is next.1 }))
says_next config (in_rundown past rest) line after text says (inl next) = subst (λ (s : Stand). Says config s (text ++ ended line)) (sym next.2) (rundown_further config past rest next.0 line text says next.1)
says_next config (in_rundown past rest) line after text says (inr next) = subst (λ (s : Stand). Says config s (text ++ ended line)) (sym next.2) (ending_further config past rest line next.0 text says next.1)
says_next config (in_ending n left) line after text says next =
    subst (λ (s : Stand). Says config s (text ++ ended line)) (sym next.2)
    (record { past = says.past; rest = says.rest; entries = says.entries; whole = says.whole; counted = says.counted; is = further_left text left (run_text config says.past says.rest (status_of config (pager_after config (says.rest ++ says.past)))) line next.0 says.is next.1 })

nothing_said : (config : Config) → SaysEntries config [] []
nothing_said config = record { entries = record { run = tt; right = tt; in_order = λ p. (requests_of p config.body, refl) }; is = refl }

all_said : (config : Config) (lines : List (List ℕ)) (stand : Stand) → AreLegal config lines stand → Says config stand (text_of lines)
all_said config [] stand legal = subst (λ (s : Stand). Says config s []) (sym legal) (nothing_said config)
all_said config (line ∷ lines) stand legal = says_next config legal.earlier line stand (text_of lines) (all_said config lines legal.earlier legal.before) legal.next

pub legal_logs_are_runs : (config : Config) (text : List ℕ) (n : ℕ) → IsLegalLog config text n → IsTextOfRun config text n
legal_logs_are_runs config text n log =
    let says : SaysEnding config n [] (text_of log.legal.lines) = all_said config log.legal.lines (in_ending n []) log.legal.legal in
    record {
      past = says.past;
      rest = says.rest;
      run = says.entries.run;
      right = says.entries.right;
      in_order = says.entries.in_order;
      whole = says.whole;
      counted = says.counted;
      is = log.legal.whole ∙ says.is;
    }
