-- The first bytes of the line at which a log is at fault.
use Rattle.std.proofs.Common.{◌≡◌, ℕ, ◌+◌, Bool, true, List, [], ◌∷◌, Option, Some, None, Result, Ok, Err, sym, ap, ◌∙◌, subst, take}
use Rattle.std.specs.Prelude.{IfSome}
use Rattle.outside_io.specs.declared.lines.Line.{Line}
use Rattle.outside_io.specs.declared.lines.Line.TheVariants.{Text}
use Rattle.outside_io.specs.HandedOut.{HandsOut, Takes}
use Rattle.outside_io.specs.LineText.{line_text}
use Rattle.outside_io.proofs.Fronts.{first_front, line_behind, one_more}
use Rattle.log_model.specs.Log.{most_lines}
use Rattle.log_check.specs.declared.check.Step.{Step}
use Rattle.log_check.specs.declared.check.Step.TheVariants.{Judged}
use Rattle.log_check.specs.declared.check_fault.CheckFault.{CheckFault}
use Rattle.log_check.specs.declared.check_fault.CheckFault.TheVariants.{NoMemory, ReadFault, TooMany}
use Rattle.log_check.specs.declared.place.Place.{Place}
use Rattle.log_check.specs.declared.place.Place.TheVariants.{Ending, Entries, Report, Rundown}
use Rattle.log_check.specs.declared.verdict.Verdict.{Verdict}
use Rattle.log_check.specs.declared.verdict.Verdict.TheVariants.{Fault, Legal}
use Rattle.log_check.specs.Judged.{KeepsFault}
use Rattle.log_check.specs.Reading.{IsBehind, IsEndOf, IsFrontLast, IsFrontNext, IsFrontOf}
use Rattle.log_check.proofs.Read.{takes_of}

module _ (text : List ℕ) (count : ℕ) (left later : Option (List ℕ)) (out : List ℕ) (behind : IsBehind text count left) where
  taken : (line : Line) → IfSome left (λ bytes. Takes (Ok line) bytes out later) → Takes (Ok line) behind.rest out later
  taken line takes = takes_of left behind.rest (λ (bytes : List ℕ). Takes (Ok line) bytes out later) behind.left_over takes

  -- what was handed out
  pub front_is : (line : Line) → HandsOut line out → IfSome left (λ bytes. Takes (Ok line) bytes out later) → take 80 out ≡ line_text (count + 1) text
  front_is line gives takes =
      let t = taken line takes in
      first_front line behind.rest out t.rest gives t.parts ∙ line_behind text behind.rest count behind.stands

  -- a whole line was
  pub behind_next : (line : Line) (ended : Bool) → line ≡ Text ended → ended ≡ true → HandsOut line out → IfSome left (λ bytes. Takes (Ok line) bytes out later) → IsBehind text (count + 1) later
  behind_next line ended is so gives takes =
      let same : line ≡ Text true = is ∙ ap (λ (b : Bool). Text b) so in
      let given : HandsOut (Text true) out = subst (λ (l : Line). HandsOut l out) same gives in
      let t = taken (Text true) (subst (λ (l : Line). IfSome left (λ bytes. Takes (Ok l) bytes out later)) same takes) in
      record { rest = t.rest; left_over = t.left_over; stands = one_more text behind.rest out t.rest count behind.stands t.parts given.0 }

-- what is said where a log ends
pub end_front : (text out : List ℕ) (place : Place) (lines : ℕ) (v : Verdict) → IsEndOf place lines v → take 80 out ≡ line_text (lines + 1) text → IsFrontOf text out v
end_front text out Entries lines v is front = subst (λ (w : Verdict). IsFrontOf text out w) (sym is) front
end_front text out (Report left) lines v is front = subst (λ (w : Verdict). IsFrontOf text out w) (sym is) front
end_front text out (Rundown u) lines v is front = subst (λ (w : Verdict). IsFrontOf text out w) (sym is) front
end_front text out (Ending n []) lines v is front = subst (λ (w : Verdict). IsFrontOf text out w) (sym is) tt
end_front text out (Ending n (b ∷ left)) lines v is front = subst (λ (w : Verdict). IsFrontOf text out w) (sym is) front

-- what was kept of it
kept_of : (text out kept : List ℕ) (v : Verdict) → kept ≡ take 80 out → IsFrontOf text out v → KeepsFault (Ok v) (Some text) kept
kept_of text out kept (Legal n) same front = tt
kept_of text out kept (Fault n reason) same front = same ∙ front

none_kept : (v : Verdict) (kept : List ℕ) → KeepsFault (Ok v) None kept
none_kept (Legal n) kept = tt
none_kept (Fault n reason) kept = tt

pub next_kept : (told left later : Option (List ℕ)) (count : ℕ) (out kept : List ℕ) (step : Step) (v : Verdict) → IfSome told (λ text. IsBehind text count left)
    → ((text : List ℕ) → IsBehind text count left → IsFrontNext text count later out (Ok step)) → step ≡ Judged v → kept ≡ take 80 out → KeepsFault (Ok v) told kept
next_kept None left later count out kept step v behind fronts is same = none_kept v kept
next_kept (Some text) left later count out kept step v behind fronts is same =
    kept_of text out kept v same (subst (λ (s : Step). IsFrontNext text count later out (Ok s)) is (fronts text behind))

pub last_kept : (told left : Option (List ℕ)) (count : ℕ) (out kept : List ℕ) (answer : Result Verdict CheckFault) → IfSome told (λ text. IsBehind text count left) → count ≡ most_lines
    → ((text : List ℕ) → IsBehind text most_lines left → IsFrontLast text out answer) → kept ≡ take 80 out → KeepsFault answer told kept
last_kept None left count out kept (Ok v) behind all fronts same = none_kept v kept
last_kept (Some text) left count out kept (Ok v) behind all fronts same =
    kept_of text out kept v same (fronts text (subst (λ (n : ℕ). IsBehind text n left) all behind))
last_kept told left count out kept (Err NoMemory) behind all fronts same = tt
last_kept told left count out kept (Err ReadFault) behind all fronts same = tt
last_kept told left count out kept (Err TooMany) behind all fronts same = tt
