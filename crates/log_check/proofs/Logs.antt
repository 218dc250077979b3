-- What is said of a log by what was read of it.
use Rattle.std.proofs.Common.{◌≡◌, ◌≤◌, inl, ℕ, List, [], Option, Some, None, Result, Ok, Err, length, refl, sym, ap, ◌∙◌, subst, lit≤}
use Rattle.std.specs.Prelude.{IfSome}
use Rattle.std.proofs.lemmas.List.Elements.{All-nil}
use Rattle.vm_types.specs.declared.config.Config.{Config}
use Rattle.shadow_history.specs.Standing.{Passed}
use Rattle.log_model.specs.Log.{most_lines}
use Rattle.log_model.specs.Stand.{in_entries}
use Rattle.log_check.specs.declared.check.Step.{Step}
use Rattle.log_check.specs.declared.check.Step.TheVariants.{Judged}
use Rattle.log_check.specs.declared.check_fault.CheckFault.{CheckFault}
use Rattle.log_check.specs.declared.check_fault.CheckFault.TheVariants.{NoMemory}
use Rattle.log_check.specs.declared.followed.Followed.{Followed}
use Rattle.log_check.specs.declared.place.Place.{Place}
use Rattle.log_check.specs.declared.place.Place.TheVariants.{Entries}
use Rattle.log_check.specs.declared.verdict.Verdict.{Verdict}
use Rattle.log_check.specs.Judged.{IsCutShort, Judges}
use Rattle.log_check.specs.Reading.{AnswersLast, AnswersNext, HasRead, IsBehind}

-- what is read, if it is known
abbrev pub ToldRead : Option (List ℕ) → Followed → Place → ℕ → Option (List ℕ) → Type 0
ToldRead told f place count left = IfSome told (λ text. HasRead text f.past place count left)

-- and what is said
abbrev pub ToldJudged : Config → Option (List ℕ) → Result Verdict CheckFault → Option (List ℕ) → Type 0
ToldJudged config told answer left = IfSome told (λ text. Judges config answer text left)

-- nothing is read
unbegun : (config : Config) (text : List ℕ) → IsCutShort config text (Some text)
unbegun config text = record {
  count = 0;
  stand = in_entries [];
  taken = [];
  rest = text;
  legal = record { lines = []; legal = refl; counted = refl; whole = refl };
  few = lit≤ tt;
  part = record { line = []; one = All-nil _; is = inl refl; few = lit≤ tt };
  left_over = refl;
}

unbegun_told : (config : Config) (told : Option (List ℕ)) → ToldJudged config told (Err NoMemory) told
unbegun_told config None = tt
unbegun_told config (Some text) = unbegun config text

pub log_unbegun : (config : Config) (told : Option (List ℕ)) (answer : Result Verdict CheckFault) (fault : CheckFault) → answer ≡ Err fault → fault ≡ NoMemory → ToldJudged config told answer told
log_unbegun config told answer fault is short =
    subst (λ (r : Result Verdict CheckFault). ToldJudged config told r told) (sym (is ∙ ap (λ (f : CheckFault). Err f) short)) (unbegun_told config told)

pub log_judged : (config : Config) (told left later : Option (List ℕ)) (old new : Followed) (place : Place) (count : ℕ) (step : Step) (v : Verdict) → ToldRead told old place count left → AnswersNext old place count left new later (Ok step) → step ≡ Judged v → old.past.config ≡ config → ToldJudged config told (Ok v) later
log_judged config None left later old new place count step v read answers is same = tt
log_judged config (Some text) left later old new place count step v read answers is same =
    subst (λ (c : Config). Judges c (Ok v) text later) same
    (subst (λ (s : Step). AnswersNext old place count left new later (Ok s)) is answers text read)

pub log_ended : (config : Config) (told left later : Option (List ℕ)) (f : Followed) (place : Place) (count : ℕ) (answer : Result Verdict CheckFault) → ToldRead told f place count left → AnswersLast f.past place left later answer → count ≡ most_lines → f.past.config ≡ config → ToldJudged config told answer later
log_ended config None left later f place count answer read answers all same = tt
log_ended config (Some text) left later f place count answer read answers all same =
    subst (λ (c : Config). Judges c answer text later) same
    (answers text (subst (λ (n : ℕ). HasRead text f.past place n left) all read))

-- no line can be read
pub log_failed : (config : Config) (told left later : Option (List ℕ)) (old new : Followed) (place : Place) (count : ℕ) (f : CheckFault) → ToldRead told old place count left → AnswersNext old place count left new later (Err f) → old.past.config ≡ config → ToldJudged config told (Err f) later
log_failed config None left later old new place count f read answers same = tt
log_failed config (Some text) left later old new place count f read answers same =
    subst (λ (c : Config). Judges c (Err f) text later) same (answers text read)

-- before the first line no line was read
pub begun_read : (config : Config) (told : Option (List ℕ)) (s : Passed) → s ≡ record { config = config; past = [] } → IfSome told (λ text. HasRead text s Entries 0 told)
begun_read config None s is = tt
begun_read config (Some text) s is = record {
  stand = in_entries [];
  rest = text;
  legal = record { lines = []; legal = refl; counted = refl; whole = refl };
  stands = ap (λ (p : Passed). in_entries p.past) (sym is);
  left_over = refl;
}

pub begun_behind : (told : Option (List ℕ)) → IfSome told (λ text. IsBehind text 0 told)
begun_behind None = tt
begun_behind (Some text) = record { rest = text; left_over = refl; stands = refl }

pub begun_few : (config : Config) (s : Passed) → s ≡ record { config = config; past = [] } → length s.past ≤ 0
begun_few config s is = subst (λ (p : Passed). length p.past ≤ 0) (sym is) (lit≤ tt)
