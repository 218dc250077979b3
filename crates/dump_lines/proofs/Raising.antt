-- Counts by frame are raised one after the other.
use Rattle.std.proofs.Common.{◌≡◌, ℕ, ◌+◌, ◌<◌, ◌≤◌, Bool, true, false, cond, List, count_by, get_or, length, length-set, set, take, nat_eq, refl, sym, ap, subst, ◌∙◌, add-zero, arith, inl, inr}
use Rattle.std.proofs.lemmas.Bool.{cases_lt, eqb-true, eqb-false}
use Rattle.std.proofs.lemmas.List.{get_or-set_other, get_or-set_same, get_or_past, length-take-le}
use Rattle.std.proofs.lemmas.List.Sums.{count_by-le-length, sum_by_more}
use Rattle.dump_lines.specs.Raised.{AreRaised, HaveRoom}

abbrev pub one : Bool → ℕ
one b = cond b 1 0

-- nothing is counted yet
pub raised_none : (none : ℕ → ℕ) (counts : List ℕ) → ((f : ℕ) → none f ≡ 0) → AreRaised none counts counts
raised_none none counts is = record { size = refl; each = λ f within. (let e = is f in omega arith) }

-- one count more
pub raised_one : (counts : List ℕ) (frame : ℕ) → frame < length counts → AreRaised (λ f. one (nat_eq frame f)) counts (set counts frame (get_or counts frame 0 + 1))
raised_one counts frame there = record { size = length-set counts frame (get_or counts frame 0 + 1); each = λ f within. go f within (nat_eq frame f) refl }
  where
    go : (f : ℕ) → f < length counts → (b : Bool) → nat_eq frame f ≡ b → get_or (set counts frame (get_or counts frame 0 + 1)) f 0 ≡ get_or counts f 0 + one (nat_eq frame f)
    go f within true is =
        let same : frame ≡ f = eqb-true frame f is in
        ap (λ (k : ℕ). get_or (set counts frame (get_or counts frame 0 + 1)) k 0) (sym same)
        ∙ (get_or-set_same counts frame (get_or counts frame 0 + 1) 0 there ∙ (ap (λ (k : ℕ). get_or counts k 0 + 1) same ∙ ap (λ (b : Bool). get_or counts f 0 + one b) (sym is)))
    go f within false is =
        get_or-set_other counts frame f (get_or counts frame 0 + 1) 0 (λ same. eqb-false frame f is (sym same))
        ∙ (sym (add-zero (get_or counts f 0)) ∙ ap (λ (b : Bool). get_or counts f 0 + one b) (sym is))

-- what is raised twice
pub raised_more : (first second both : ℕ → ℕ) (a b c : List ℕ) → AreRaised first a b → AreRaised second b c → ((f : ℕ) → both f ≡ first f + second f) → AreRaised both a c
raised_more first second both a b c x y sum = record {
  size = y.size ∙ x.size;
  each = λ f within. (let s = x.size in let p = x.each f within in let q = y.each f (omega arith) in let r = sum f in omega arith);
}

pub raised_as : (more same : ℕ → ℕ) (a b : List ℕ) → AreRaised more a b → ((f : ℕ) → same f ≡ more f) → AreRaised same a b
raised_as more same a b x is = record { size = x.size; each = λ f within. (let p = x.each f within in let r = is f in omega arith) }

pub raised_of : (more same : ℕ → ℕ) (a b a' b' : List ℕ) → AreRaised more a b → more ≡ same → a ≡ a' → b ≡ b' → AreRaised same a' b'
raised_of more same a b a' b' x e from to =
    subst (λ (m : ℕ → ℕ). AreRaised m a' b') e (subst (λ (s : List ℕ). AreRaised more s b') from (subst (λ (t : List ℕ). AreRaised more a t) to x))

-- room that is left
pub room_left : (all left : ℕ) (more : ℕ → ℕ) (a b : List ℕ) → HaveRoom all a → AreRaised more a b → ((f : ℕ) → more f + left ≤ all) → HaveRoom left b
room_left all left more a b room x few f =
    elim (cases_lt f (length a)) [
      | inl within ↦ (let p = x.each f within in let r = room f in let s = few f in omega arith)
      | inr past ↦ (let s = x.size in let p : get_or b f 0 ≡ 0 = get_or_past b f 0 (omega arith) in let r = room f in let q = few f in omega arith)
    ]

-- one item more is counted
pub count_more : {X : Type 0} (p : X → Bool) (xs : List X) (i : ℕ) (d : X) → i < length xs → count_by p (take (i + 1) xs) ≡ count_by p (take i xs) + one (p (get_or xs i d))
count_more p xs i d within = sum_by_more (λ x. one (p x)) xs i d within

pub count_few : {X : Type 0} (p : X → Bool) (xs : List X) (i : ℕ) → i ≤ length xs → count_by p (take i xs) ≤ i
count_few p xs i within = omega (arith, count_by-le-length p (take i xs), length-take-le i xs within)
