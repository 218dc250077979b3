-- Whether a text begins with some bytes.
use Rattle.std.proofs.Common.{◌≡◌, ◌≢◌, ℕ, List, [], ◌∷◌, ◌++◌, refl, sym, ◌∙◌, ap}
use Rattle.std.specs.Prelude.{Bool, true, false, ◌&&◌, ◌==◌}
use Rattle.std.proofs.lemmas.Bool.{eq-eqb, eqb-true}
use Rattle.command_messages.specs.Reasons.{begins}

pub begins_with : (front rest : List ℕ) → true ≡ begins front (front ++ rest)
begins_with [] rest = refl
begins_with (byte ∷ front) rest = rw (eq-eqb byte byte refl) (begins_with front rest)

other_first : (same : Bool) (byte first : ℕ) (front text : List ℕ) → (byte == first) ≡ same → ((rest : List ℕ) → first ∷ text ≢ byte ∷ front ++ rest)
    → (((rest : List ℕ) → text ≢ front ++ rest) → false ≡ begins front text) → false ≡ same && begins front text
other_first false byte first front text is none more = refl
other_first true byte first front text is none more =
    more (λ rest e. none rest (ap (λ all. first ∷ all) e ∙ ap (λ head. head ∷ front ++ rest) (sym (eqb-true byte first is))))

pub begins_not : (front text : List ℕ) → ((rest : List ℕ) → text ≢ front ++ rest) → false ≡ begins front text
begins_not [] text none = absurd (none text refl)
begins_not (byte ∷ front) [] none = refl
begins_not (byte ∷ front) (first ∷ text) none = other_first (byte == first) byte first front text refl none (begins_not front text)
