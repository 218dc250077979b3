-- Texts that were cut at a slash: the part before it is the text's one part without a slash.
use Rattle.std.proofs.Common.{◌≡◌, ◌≢◌, ℕ, zero, suc, ◌<◌, List, ◌∷◌, ◌++◌, length, get_or, All, refl, sym, ◌∙◌, ap, subst, arith, ne_eqb, eq-eqb, eqb, inl, inr, length-append}
use Rattle.std.specs.List.{slice_split}
use Rattle.std.proofs.lemmas.List.{append_cancel_left}
use Rattle.std.proofs.lemmas.List.Splits.{slice_split_at}
use Rattle.std.proofs.lemmas.Option.{slice_get_read}
use Rattle.std.proofs.Math.Seq.{get_or-append_seam}
use Rattle.vm_types.specs.Configuration.{IsName, IsNameByte}
use Rattle.vm_types.specs.declared.config.Section.{Section}
use Rattle.vm_text.specs.Named.{AreNames}
use Rattle.vm_text.specs.Names.{section_name, name_of, process_name}
use Rattle.vm_text.specs.Spaced.{IsOther}
use Rattle.vm_text.proofs.Printable.{section_named}

pub no_cut : (byte : ℕ) (front back text : List ℕ) → front ++ byte ∷ back ≡ text → ¬ (All (IsOther byte) text)
no_cut byte front back text is other =
    let long : length front < length text = omega (arith, length-append front (byte ∷ back), ap (length {A = ℕ}) is) in
    let there : get_or text (length front) 0 ≡ byte = ap (λ (s : List ℕ). get_or s (length front) 0) (sym is) ∙ get_or-append_seam front byte back 0 in
    other (length front) 0 long there

pub cut_same : (byte : ℕ) (front back front' back' : List ℕ) → All (IsOther byte) front → All (IsOther byte) front'
    → front ++ byte ∷ back ≡ front' ++ byte ∷ back' → (front ≡ front') × (back ≡ back')
cut_same byte front back front' back' other other' e =
    let parts : (front ∷ slice_split (λ b. eqb b byte) back) ≡ front' ∷ slice_split (λ b. eqb b byte) back' =
    sym (slice_split_at (λ b. eqb b byte) front byte back (λ k d lt. ne_eqb _ _ (other k d lt)) (eq-eqb byte byte refl))
    ∙ ap (slice_split (λ b. eqb b byte)) e
    ∙ slice_split_at (λ b. eqb b byte) front' byte back' (λ k d lt. ne_eqb _ _ (other' k d lt)) (eq-eqb byte byte refl) in
    let same : front ≡ front' = cc in
    let rest : (byte ∷ back) ≡ byte ∷ back' = append_cancel_left front (byte ∷ back) (byte ∷ back') (e ∙ ap (λ (f : List ℕ). f ++ byte ∷ back') (sym same)) in
    (same, cc)

pub letter_other : (byte process : ℕ) → byte < 65 → All (IsOther byte) (process_name process)
letter_other byte process below zero d lt = λ e. absurd (omega arith)
letter_other byte process below (suc k) d lt = absurd (omega arith)

-- no byte of a name is below the digits
byte_other : (byte b : ℕ) → byte < 48 → IsNameByte b → b ≢ byte
byte_other byte b below (inl letter) e = absurd (omega (arith, letter.0))
byte_other byte b below (inr (inl digit)) e = absurd (omega (arith, digit.0))
byte_other byte b below (inr (inr line)) e = absurd (omega (arith, line))

name_other : (byte : ℕ) (name : List ℕ) → byte < 48 → IsName name → All (IsOther byte) name
name_other byte name below is = λ k d lt. byte_other byte (get_or name k d) below (is.bytes k d lt)

pub section_other : (byte procs : ℕ) (names : List Section) (s : ℕ) → byte < 48 → AreNames procs names → s < length names → All (IsOther byte) (section_name names s)
section_other byte procs names s below are within =
    let found = section_named procs names s are within in
    subst (λ o. All (IsOther byte) (name_of o)) (sym found.1) (name_other byte found.0.name below found.2)

-- the name of a section that was read
pub name_at : (names : List Section) (i : ℕ) (section : Section) → i < length names → section ≡ get_or names i section → section_name names i ≡ section.name
name_at names i section within is = ap name_of (slice_get_read names (length names) i section refl within is)
