-- Texts whose lines have at most 255 bytes, put together and read line by line.
use Rattle.std.proofs.Common.{◌≡◌, ◌≢◌, ℕ, ◌+◌, ◌-◌, ◌<◌, ◌≤◌, List, [], ◌∷◌, ◌++◌, length, refl, sym, subst, append_assoc, append-nil, arith}
use Rattle.run_words.specs.Text.{ended}
use Rattle.log_model.specs.NextLine.{IsFirstLine}
use Rattle.log_laws.proofs.Texts.{IsPlain, line_joined, plain_line}

-- no more than so many bytes come before the first byte 10, and no more than 255 before each other one
abbrev pub Fits : ℕ → List ℕ → Type 0
Fits room [] = Unit {0}
Fits room (b ∷ text) = (b ≡ 10 → Fits 255 text) × (b ≢ 10 → (0 < room) × Fits (room - 1) text)

-- a line that has room, and such a text behind it
behind : (line rest : List ℕ) (room : ℕ) → length line ≤ room → room ≤ 255 → Fits 255 rest → Fits room (line ++ (10 ∷ rest))
behind [] rest room short most fits = (λ ten. fits, λ other. absurd (other refl))
behind (b ∷ line) rest room short most fits =
    (λ ten. behind line rest 255 (omega (arith, short, most)) (omega arith) fits, λ other. (omega (arith, short), behind line rest (room - 1) (omega (arith, short)) (omega (arith, most)) fits))

-- the first line has room, and the rest is such a text
before : (line left : List ℕ) (room : ℕ) → IsPlain line → Fits room (line ++ (10 ∷ left)) → (length line ≤ room) × Fits 255 left
before [] left room plain fits = (omega arith, fits.0 refl)
before (b ∷ line) left room plain fits =
    let next = fits.1 plain.0 in
    let more = before line left (room - 1) plain.1 next.1 in
    (omega (arith, next.0, more.0), more.1)

pub first_short : (text line left : List ℕ) → IsFirstLine text line left → Fits 255 text → (length line ≤ 255) × Fits 255 left
first_short text line left first fits =
    before line left 255 (plain_line text line left first) (subst (λ (xs : List ℕ). Fits 255 xs) (line_joined line left) (subst (λ (xs : List ℕ). Fits 255 xs) first.whole fits))

-- ---- a text of short lines, whatever text of short lines is behind it
pub record IsShort (text : List ℕ) : Type 0 where
  pub fits : (rest : List ℕ) → Fits 255 rest → Fits 255 (text ++ rest)

pub none_short : IsShort []
none_short = record { fits = λ rest all. all }

pub both_short : (xs ys : List ℕ) → IsShort xs → IsShort ys → IsShort (xs ++ ys)
both_short xs ys first second = record { fits = λ rest all. subst (λ (zs : List ℕ). Fits 255 zs) (sym (append_assoc xs ys rest)) (first.fits (ys ++ rest) (second.fits rest all)) }

pub line_short : (line : List ℕ) → length line ≤ 255 → IsShort (ended line)
line_short line short = record { fits = λ rest all. subst (λ (zs : List ℕ). Fits 255 zs) (sym (line_joined line rest)) (behind line rest 255 short (omega arith) all) }

pub short_fits : (text : List ℕ) → IsShort text → Fits 255 text
short_fits text short = subst (λ (zs : List ℕ). Fits 255 zs) (append-nil text) (short.fits [] tt)
