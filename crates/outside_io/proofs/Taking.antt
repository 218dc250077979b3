-- The bytes of a line that were taken so far.
use Rattle.std.proofs.Common.{◌≡◌, ◌≢◌, ℕ, true, false, if◌then◌else◌, List, [], ◌∷◌, ◌++◌, Option, Some, None, Ok, Err, refl, sym, ap, subst, ◌∙◌, append-nil, append_assoc}
use Rattle.std.specs.Io.KnownBytes.{IsAtEnd, Keeps, prepend_known}
use Rattle.std.specs.Prelude.{Bool, IfSome}
use Rattle.std.proofs.lemmas.List.Elements.{All-append}
use Rattle.std.proofs.lemmas.Option.{none-some, same_Some}
use Rattle.vm_types.specs.declared.faults.Failed.{Failed}
use Rattle.outside_io.specs.BytesLeft.{IsHeldTaken}
use Rattle.outside_io.specs.HandedOut.{IsInLine, Takes, last_of}
use Rattle.outside_io.specs.declared.lines.Line.TheVariants.{Text}

-- the text that was left begins with what was taken, and its rest is left now
pub record IsRest (text out : List ℕ) (left : Option (List ℕ)) : Type 0 where
  pub rest : List ℕ
  pub left_over : left ≡ Some rest
  pub whole : text ≡ out ++ rest

abbrev pub IsSplit : Option (List ℕ) → Option (List ℕ) → List ℕ → Type 0
IsSplit told left out = IfSome told (λ text. IsRest text out left)

pub longer_in_line : (ended : Bool) (held out left longer : List ℕ) → IsInLine out → IsHeldTaken ended held out left longer → IsInLine longer
longer_in_line ended held out left longer in_line taken =
    subst IsInLine (sym taken.put) (All-append (λ (b : ℕ). b ≢ 10) out taken.part in_line taken.in_line)

-- the text is what was taken now and before, and what is left
longer_whole : (text out part longer held behind left bytes rest : List ℕ) → text ≡ out ++ rest → held ++ bytes ≡ rest → held ≡ part ++ behind → longer ≡ out ++ part → left ≡ behind ++ bytes → text ≡ longer ++ left
longer_whole text out part longer held behind left bytes rest whole is off put now =
    whole
    ∙ ap (λ (xs : List ℕ). out ++ xs) (sym is ∙ ap (λ (xs : List ℕ). xs ++ bytes) off ∙ append_assoc part behind bytes ∙ ap (λ (xs : List ℕ). part ++ xs) (sym now))
    ∙ sym (append_assoc out part left)
    ∙ ap (λ (xs : List ℕ). xs ++ left) (sym put)

-- the same bytes are left
kept : (told left now : Option (List ℕ)) (out : List ℕ) → IsSplit told left out → Keeps left now → IsSplit told now out
kept None left now out split keeps = tt
kept (Some text) None now out split keeps = absurd (none-some split.rest split.left_over)
kept (Some text) (Some bytes) None out split keeps = absurd keeps
kept (Some text) (Some bytes) (Some more) out split keeps =
    record { rest = split.rest; left_over = ap Some (keeps ∙ same_Some bytes split.rest split.left_over); whole = split.whole }

-- a part of the line was taken of the bytes that were read
part_taken : (told known : Option (List ℕ)) (ended : Bool) (held out left longer behind : List ℕ) → IsSplit told (prepend_known held known) out → IsHeldTaken ended held out left longer
    → (if ended then 10 ∷ left else left) ≡ behind → IsSplit told (prepend_known behind known) longer
part_taken None known ended held out left longer behind split taken is = tt
part_taken (Some text) None ended held out left longer behind split taken is = absurd (none-some split.rest split.left_over)
part_taken (Some text) (Some bytes) ended held out left longer behind split taken is = record {
  rest = behind ++ bytes;
  left_over = refl;
  whole = longer_whole text out taken.part longer held behind (behind ++ bytes) bytes split.rest split.whole (same_Some (held ++ bytes) split.rest split.left_over)
      (taken.off ∙ ap (λ (xs : List ℕ). taken.part ++ xs) is) taken.put refl;
}

-- with no byte 10 behind it
pub further : (told before known now : Option (List ℕ)) (ended : Bool) (held out left longer : List ℕ) → IsSplit told before out → Keeps before (prepend_known held known)
    → now ≡ known → ended ≡ false → IsHeldTaken ended held out left longer → IsSplit told (prepend_known left now) longer
further told before known now ended held out left longer split keeps same not_ended taken =
    subst (λ (o : Option (List ℕ)). IsSplit told (prepend_known left o) longer) (sym same)
    (part_taken told known ended held out left longer left (kept told before (prepend_known held known) out split keeps) taken (ap (λ (b : Bool). if b then 10 ∷ left else left) not_ended))

-- or with one
with_end : (told known : Option (List ℕ)) (left longer : List ℕ) → IsSplit told (prepend_known (10 ∷ left) known) longer → IfSome told (λ text. Takes (Ok (Text true)) text longer (prepend_known left known))
with_end None known left longer split = tt
with_end (Some text) None left longer split = absurd (none-some split.rest split.left_over)
with_end (Some text) (Some bytes) left longer split = record {
  rest = left ++ bytes;
  left_over = refl;
  parts = split.whole ∙ ap (λ (xs : List ℕ). longer ++ xs) (sym (same_Some (10 ∷ left ++ bytes) split.rest split.left_over));
}

pub line_taken : (told before known now : Option (List ℕ)) (ended : Bool) (held out left longer : List ℕ) → IsSplit told before out → Keeps before (prepend_known held known)
    → now ≡ known → ended ≡ true → IsHeldTaken ended held out left longer → IfSome told (λ text. Takes (Ok (Text true)) text longer (prepend_known left now))
line_taken told before known now ended held out left longer split keeps same is_ended taken =
    subst (λ (o : Option (List ℕ)). IfSome told (λ text. Takes (Ok (Text true)) text longer (prepend_known left o))) (sym same)
    (with_end told known left longer
    (part_taken told known ended held out left longer (10 ∷ left) (kept told before (prepend_known held known) out split keeps) taken (ap (λ (b : Bool). if b then 10 ∷ left else left) is_ended)))

-- no byte is left behind what was taken
last : (text out : List ℕ) (left : Option (List ℕ)) (rest : List ℕ) → text ≡ out ++ rest → rest ≡ [] → left ≡ Some [] → Takes (Ok (last_of out)) text out left
last text [] left rest whole gone now = record { rest = []; left_over = now; parts = (whole ∙ gone, refl) }
last text (b ∷ out) left rest whole gone now =
    record { rest = []; left_over = now; parts = (whole ∙ ap (λ (xs : List ℕ). b ∷ out ++ xs) gone ∙ append-nil (b ∷ out), refl) }

pub at_end : (told left now : Option (List ℕ)) (out : List ℕ) → IsSplit told left out → Keeps left now → IsAtEnd now → IfSome told (λ text. Takes (Ok (last_of out)) text out now)
at_end None left now out split keeps end = tt
at_end (Some text) None now out split keeps end = absurd (none-some split.rest split.left_over)
at_end (Some text) (Some bytes) None out split keeps end = absurd keeps
at_end (Some text) (Some bytes) (Some more) out split keeps end =
    last text out (Some more) split.rest split.whole (sym (same_Some bytes split.rest split.left_over) ∙ sym keeps ∙ end) (ap Some end)

-- a part of the line was taken
pub cut_short : (told left now : Option (List ℕ)) (out : List ℕ) (failed : Failed) → IsSplit told left out → Keeps left now → IfSome told (λ text. Takes (Err failed) text out now)
cut_short None left now out failed split keeps = tt
cut_short (Some text) left now out failed split keeps =
    let split = kept (Some text) left now out split keeps in
    record { rest = split.rest; left_over = split.left_over; parts = split.whole }
