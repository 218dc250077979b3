-- One entry more among the tallies, the answers and the seats.
use Rattle.std.proofs.Common.{◌≡◌, ◌⊎◌, inl, inr, ℕ, ◌+◌, ◌<◌, ◌≤◌, ◌==◌, Bool, true, false, cond, List, [], ◌∷◌, ◌++◌, length, get_or, replicate, refl, sym, ap, ◌∙◌, subst, arith, length-set}
use Rattle.std.specs.Prelude.{count_by, if◌then◌else◌}
use Rattle.std.proofs.lemmas.Bool.{cases_eq, eq-eqb, ne_eqb}
use Rattle.std.proofs.lemmas.List.{ext_get_or, get_or-set_same, get_or-set_other}
use Rattle.std.proofs.lemmas.List.FromFn.{get_or-map-range_with_len, length-map-range_with_len}
use Rattle.std.proofs.lemmas.List.Sums.{count_by-le-length, sum_by_push}
use Rattle.vm_journal.specs.Journal.{answers_in, is_answer}
use Rattle.vm_journal.specs.declared.entry.Entry.{Entry}
use Rattle.vm_journal.specs.declared.entry.What.{What}
use Rattle.vm_journal.specs.declared.entry.What.TheVariants as what
use Rattle.run_record.specs.Tallies.{place, tallied, tallies_of}

pub place_below : (w : What) → place w < 16
place_below (what.Done r reply) = omega arith
place_below (what.Denied r why) = omega arith
place_below (what.Served s answer) = omega arith
place_below (what.Reuse f page) = omega arith
place_below (what.Zero a f) = omega arith
place_below (what.Back p a f from) = omega arith
place_below (what.Collide a f k) = omega arith
place_below (what.In f block role) = omega arith
place_below (what.InOk f k) = omega arith
place_below (what.InFail f k c d) = omega arith
place_below (what.Out f block) = omega arith
place_below (what.OutOk f k) = omega arith
place_below (what.OutFail f k c d) = omega arith
place_below (what.Evict p a f why to) = omega arith
place_below (what.Limit n faults) = omega arith
place_below (what.Turn p status) = omega arith

count_push : (p : Entry → Bool) (es : List Entry) (e : Entry) → count_by p (es ++ e ∷ []) ≡ count_by p es + cond (p e) 1 0
count_push p es e = sum_by_push (λ x. cond (p x) 1 0) es e

-- the entries whose kind has this place
abbrev at_place : ℕ → List Entry → ℕ
at_place k entries = count_by (λ (e : Entry). k == place e.what) entries

pub tallies_long : (es : List Entry) → length (tallies_of es) ≡ 16
unfolding tallies_of
tallies_long es = length-map-range_with_len (λ (k : ℕ). at_place k es) 0 16

tally_at : (es : List Entry) (k : ℕ) → k < 16 → get_or (tallies_of es) k 0 ≡ at_place k es
unfolding tallies_of
tally_at es k below = get_or-map-range_with_len (λ (j : ℕ). at_place j es) 0 16 k k 0 below (omega arith)

pub tallies_none : replicate 16 0 ≡ tallies_of []
unfolding tallies_of
tallies_none = refl

pub tally_most : (es : List Entry) (w : What) → get_or (tallies_of es) (place w) 0 ≤ length es
tally_most es w =
    let is = tally_at es (place w) (place_below w) in
    let most = count_by-le-length (λ (e : Entry). place w == place e.what) es in
    omega (arith, is, most)

pub answers_most : (es : List Entry) → answers_in es ≤ length es
answers_most es = count_by-le-length (λ (e : Entry). is_answer e.what) es

pub answers_more : (es : List Entry) (e : Entry) → answers_in es + (if is_answer e.what then 1 else 0) ≡ answers_in (es ++ e ∷ [])
answers_more es e = sym (count_push (λ (x : Entry). is_answer x.what) es e)

pub tallied_more : (es : List Entry) (e : Entry) → tallied (tallies_of es) e.what ≡ tallies_of (es ++ e ∷ [])
tallied_more es e = ext_get_or 0 (tallied (tallies_of es) e.what) (tallies_of (es ++ e ∷ [])) same_long (λ k less. each k (within k less) (cases_eq at k))
  where
    at : ℕ
    at = place e.what

    long : length (tallied (tallies_of es) e.what) ≡ 16
    long = length-set (tallies_of es) (place e.what) (get_or (tallies_of es) (place e.what) 0 + 1) ∙ tallies_long es

    same_long : length (tallied (tallies_of es) e.what) ≡ length (tallies_of (es ++ e ∷ []))
    same_long = long ∙ sym (tallies_long (es ++ e ∷ []))

    within : (k : ℕ) → k < length (tallied (tallies_of es) e.what) → k < 16
    within k less = subst (λ n. k < n) long less

    after : (k : ℕ) → k < 16 → get_or (tallies_of (es ++ e ∷ [])) k 0 ≡ at_place k es + cond (k == place e.what) 1 0
    after k below = tally_at (es ++ e ∷ []) k below ∙ count_push (λ (x : Entry). k == place x.what) es e

    each : (k : ℕ) → k < 16 → (place e.what ≡ k) ⊎ (place e.what ≡ k → ⊥) → get_or (tallied (tallies_of es) e.what) k 0 ≡ get_or (tallies_of (es ++ e ∷ [])) k 0
    each k below (inl same) =
        let test : (k == place e.what) ≡ true = eq-eqb k (place e.what) (sym same) in
        subst (λ j. get_or (tallied (tallies_of es) e.what) j 0 ≡ get_or (tallies_of es) j 0 + 1) same
        (get_or-set_same (tallies_of es) (place e.what) (get_or (tallies_of es) (place e.what) 0 + 1) 0 (subst (λ n. place e.what < n) (sym (tallies_long es)) (place_below e.what)))
        ∙ ap (λ n. n + 1) (tally_at es k below) ∙ sym (after k below ∙ ap (λ b. at_place k es + cond b 1 0) test)
    each k below (inr apart) =
        let test : (k == place e.what) ≡ false = ne_eqb k (place e.what) (λ is. apart (sym is)) in
        let none = after k below ∙ ap (λ b. at_place k es + cond b 1 0) test in
        let kept = get_or-set_other (tallies_of es) (place e.what) k (get_or (tallies_of es) (place e.what) 0 + 1) 0 (λ is. apart (sym is)) in
        let is = tally_at es k below in
        kept ∙ is ∙ sym (none ∙ omega arith)
