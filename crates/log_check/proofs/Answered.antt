-- What is said of a log by the answer to one more line.
use Rattle.std.proofs.Common.{◌≡◌, ◌≢◌, inl, inr, ℕ, ◌+◌, ◌<◌, ◌≤◌, Bool, true, false, List, [], ◌∷◌, Option, Some, None, Ok, Err, refl, sym, ap, ◌∙◌, subst, append_assoc, arith, length-append}
use Rattle.std.specs.Prelude.{IfSome}
use Rattle.vm_types.specs.Configuration.{IsWellFormed}
use Rattle.vm_types.specs.declared.faults.Failed.{Failed}
use Rattle.outside_io.specs.declared.lines.Line.{Line}
use Rattle.outside_io.specs.declared.lines.Line.TheVariants.{End, Long, Text}
use Rattle.outside_io.specs.HandedOut.{Gives, HandsOut, Takes}
use Rattle.run_words.specs.Text.{ended}
use Rattle.log_model.specs.Log.{BeginsLegal, IsAtFault, IsTooLong, most_lines}
use Rattle.log_laws.specs.Laws.{LegalLinesAreShort}
use Rattle.log_reasons.specs.LineReasons.{IsWhy}
use Rattle.log_reasons.specs.declared.line_reason.LineReason.{LineReason}
use Rattle.log_reasons.specs.declared.line_reason.LineReason.TheVariants as why
use Rattle.log_check.specs.declared.followed.Followed.{Followed}
use Rattle.log_check.specs.declared.place.Place.{Place}
use Rattle.log_check.specs.declared.verdict.Verdict.{Verdict}
use Rattle.log_check.specs.Judged.{IsCutShort, Judges}
use Rattle.log_check.specs.Leading.{Leads}
use Rattle.log_check.specs.Reading.{HasRead, IsEndOf}
use Rattle.log_check.specs.Refusing.{FailsAt}
use Rattle.log_check.proofs.Read.{fault_why, long_why, longer_not_empty, not_empty, read_cut, read_end, read_fault, read_long, read_on, read_unended, takes_of, unended_why}

abbrev Took : Option (List ℕ) → Line → List ℕ → Option (List ℕ) → Type 0
Took left line out later = IfSome left (λ bytes. Takes (Ok line) bytes out later)

module _ (text : List ℕ) (old : Followed) (place : Place) (count : ℕ) (left later : Option (List ℕ)) (out : List ℕ) (read : HasRead text old.past place count left) where
  taken_line : (line x : Line) → line ≡ x → Took left line out later → Takes (Ok x) read.rest out later
  taken_line line x is takes =
      takes_of left read.rest (λ (bytes : List ℕ). Takes (Ok x) bytes out later) read.left_over (subst (λ (l : Line). Took left l out later) is takes)

  given_line : (line x : Line) → line ≡ x → HandsOut line out → HandsOut x out
  given_line line x is gives = subst (λ (l : Line). HandsOut l out) is gives

  a_text : (line : Line) (b c : Bool) → line ≡ Text b → b ≡ c → line ≡ Text c
  a_text line b c is same = is ∙ ap (λ (x : Bool). Text x) same

  led : (slice : List ℕ) (o p : Option Place) (new : Followed) → slice ≡ out → o ≡ p → Leads old place slice new o → Leads old place out new p
  led slice o p new same is leads =
      subst (λ (q : Option Place). Leads old place out new q) is (subst (λ (xs : List ℕ). Leads old place xs new o) same leads)

  -- a line leads on
  pub told_on : (line : Line) (b : Bool) (new : Followed) (next : Place) (slice : List ℕ) (o : Option Place) → line ≡ Text b → b ≡ true → Took left line out later → slice ≡ out → o ≡ Some next → Leads old place slice new o → HasRead text new.past next (count + 1) later
  told_on line b new next slice o is told takes same some leads =
      let taken = taken_line line (Text true) (a_text line b true is told) takes in
      let here : Leads old place out new (Some next) = led slice o (Some next) new same some leads in
      subst (λ (l : Option (List ℕ)). HasRead text new.past next (count + 1) l) (sym taken.left_over)
      (read_on text old.past place count left read old new next out taken.rest refl here taken.parts)

  -- it doesn't
  pub told_fault : (line : Line) (b : Bool) (new : Followed) (slice : List ℕ) (o : Option Place) (reason : LineReason) → count < most_lines → line ≡ Text b → b ≡ true → HandsOut line out → Took left line out later → slice ≡ out → o ≡ None → Leads old place slice new o
      → FailsAt old.past place slice reason → IsAtFault old.past.config text (count + 1) × IsWhy old.past.config text (count + 1) reason
  told_fault line b new slice o reason few is told gives takes same none leads fails =
      let a = a_text line b true is told in
      let taken = taken_line line (Text true) a takes in
      let given : HandsOut (Text true) out = given_line line (Text true) a gives in
      let here : Leads old place out new None = led slice o None new same none leads in (
        read_fault text old.past place count left read out taken.rest few given.0 (λ after next. here read.stand after read.stands next) taken.parts,
        fault_why text old.past place count left read reason out taken.rest (subst (λ (xs : List ℕ). FailsAt old.past place xs reason) same fails read.stand read.stands)
            (taken.parts ∙ sym (append_assoc out (10 ∷ []) taken.rest)),
      )

  -- memory ran out at it
  pub told_short : (line : Line) (b : Bool) → count < most_lines → line ≡ Text b → b ≡ true → HandsOut line out → Took left line out later → IsCutShort old.past.config text later
  told_short line b few is told gives takes =
      let a = a_text line b true is told in
      let taken = taken_line line (Text true) a takes in
      let given : HandsOut (Text true) out = given_line line (Text true) a gives in
      let long = length-append out (10 ∷ []) in
      read_cut text old.past place count left read taken.rest (ended out) later (omega (arith, few))
      (record { line = out; one = given.0; is = inr refl; few = (let most = given.1 in omega (arith, long, most)) })
      (taken.parts ∙ sym (append_assoc out (10 ∷ []) taken.rest)) taken.left_over

  -- the last line isn't ended
  pub told_unended : (line : Line) (b : Bool) → count < most_lines → line ≡ Text b → b ≡ false → HandsOut line out → Took left line out later → IsAtFault old.past.config text (count + 1) × IsWhy old.past.config text (count + 1) why.NotEnded
  told_unended line b few is told gives takes =
      let a = a_text line b false is told in
      let taken = taken_line line (Text false) a takes in
      let given : HandsOut (Text false) out = given_line line (Text false) a gives in
      (read_unended text old.past place count left read out few given.0 given.2 taken.parts.0, unended_why text old.past place count left read out given.0 given.2 taken.parts.0)

  -- the line is too long
  pub told_long : (line : Line) → LegalLinesAreShort → IsWellFormed old.past.config → count < most_lines → line ≡ Long → HandsOut line out → Took left line out later → IsAtFault old.past.config text (count + 1) × IsWhy old.past.config text (count + 1) why.TooLong
  told_long line short formed few is gives takes =
      let taken = taken_line line Long is takes in
      let given : HandsOut Long out = given_line line Long is gives in (
        read_long text old.past place count left read out taken.rest short formed few given.0 given.1 taken.parts,
        long_why text old.past place count left read out taken.rest given.0 given.1 taken.parts,
      )

  -- the log ends
  pub told_end : (line : Line) (v : Verdict) → count ≤ most_lines → line ≡ End → Took left line out later → IsEndOf place count v → Judges old.past.config (Ok v) text later
  told_end line v few is takes ends =
      let taken = taken_line line End is takes in
      read_end text old.past place count left read v later few taken.parts.0 (taken.left_over ∙ ap (λ (xs : List ℕ). Some xs) taken.parts.1) ends

  -- it can't be read
  pub told_unread : (f : Failed) → count ≤ most_lines → Gives (Err f) out → IfSome left (λ bytes. Takes (Err f) bytes out later) → IsCutShort old.past.config text later
  told_unread f few gives takes =
      let taken = takes_of left read.rest (λ (bytes : List ℕ). Takes (Err f) bytes out later) read.left_over takes in
      read_cut text old.past place count left read taken.rest out later few
      (record { line = out; one = gives.0; is = inl refl; few = (let most = gives.1 in omega (arith, most)) })
      taken.parts taken.left_over

  -- as many lines as a log may have are read, and one more
  too_long : count ≡ most_lines → read.rest ≢ [] → IsTooLong old.past.config text
  too_long all more = record {
    stand = read.stand;
    left = read.rest;
    legal = subst (λ (n : ℕ). BeginsLegal old.past.config text n read.stand read.rest) all read.legal;
    more = more;
  }

  pub told_more : (line : Line) (b : Bool) → count ≡ most_lines → line ≡ Text b → HandsOut line out → Took left line out later → IsTooLong old.past.config text
  told_more line true all is gives takes =
      let taken = taken_line line (Text true) is takes in
      too_long all (not_empty read.rest out taken.rest taken.parts)
  told_more line false all is gives takes =
      let taken = taken_line line (Text false) is takes in
      let given : HandsOut (Text false) out = given_line line (Text false) is gives in
      too_long all (λ none. given.2 (sym taken.parts.0 ∙ none))

  pub told_longer : (line : Line) → count ≡ most_lines → line ≡ Long → HandsOut line out → Took left line out later → IsTooLong old.past.config text
  told_longer line all is gives takes =
      let taken = taken_line line Long is takes in
      let given : HandsOut Long out = given_line line Long is gives in
      too_long all (longer_not_empty read.rest out taken.rest given.1 taken.parts)
