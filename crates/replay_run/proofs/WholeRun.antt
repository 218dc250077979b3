-- What a process's pass has seen of its answers is all that the journal has of them.
use Rattle.std.proofs.Common.{◌≡◌, ℕ, ◌+◌, ◌||◌, Bool, true, false, cond, List, [], ◌∷◌, ◌++◌, Option, Some, None, map, nat_eq, reverse, refl, sym, ap, ◌∙◌, append_assoc, append-nil}
use Rattle.std.proofs.lemmas.Bool.{eqb-true, eqb-false, eq-eqb, ne_eqb}
use Rattle.vm_types.specs.declared.service.Request.{Request}
use Rattle.vm_journal.specs.Own.{own_entries, own_from}
use Rattle.vm_journal.specs.declared.entry.Entry.{Entry}
use Rattle.pager_model.specs.Order.{answered, spoken_by}
use Rattle.pager_model.specs.Spoken.{request_of}
use Rattle.vm_actors.specs.OwnEntries.{own_of}
use Rattle.vm_actors.specs.Requests.{requests_in, with_request}
use Rattle.vm_actors.proofs.Onto.{onto, onto_reverse}

same_test : (k n : ℕ) → nat_eq k n ≡ nat_eq n k
same_test k n = by (nat_eq n k) refl
  where
    by : (b : Bool) → nat_eq n k ≡ b → nat_eq k n ≡ b
    by true is = eq-eqb k n (sym (eqb-true n k is))
    by false is = ne_eqb k n (λ same. eqb-false n k is (sym same))

own_pairs : (k n : ℕ) (xs : List Entry) → map (λ (p : ℕ × Entry). p.1) (own_from n k xs) ≡ own_of (k ∷ []) xs
own_pairs k n [] = refl
own_pairs k n (e ∷ xs) =
    pairs_by (nat_eq (e.seat).0 k) (nat_eq k (e.seat).0) (same_test k (e.seat).0) (own_pairs k (n + 1) xs)
  where
    pairs_by : (b c : Bool) → c ≡ b → map (λ (p : ℕ × Entry). p.1) (own_from (n + 1) k xs) ≡ own_of (k ∷ []) xs
        → map (λ (p : ℕ × Entry). p.1) (cond b ((n, e) ∷ own_from (n + 1) k xs) (own_from (n + 1) k xs)) ≡ cond (c || false) (e ∷ own_of (k ∷ []) xs) (own_of (k ∷ []) xs)
    pairs_by true c is rest = ap (λ (es : List Entry). e ∷ es) rest ∙ ap (λ (x : Bool). cond (x || false) (e ∷ own_of (k ∷ []) xs) (own_of (k ∷ []) xs)) (sym is)
    pairs_by false c is rest = rest ∙ ap (λ (x : Bool). cond (x || false) (e ∷ own_of (k ∷ []) xs) (own_of (k ∷ []) xs)) (sym is)

one_answered : (k seat : ℕ) (o : Option Request) (b : Bool) → nat_eq seat k ≡ b → spoken_by k seat o ≡ cond b (with_request o []) []
one_answered k seat None true is = refl
one_answered k seat None false is = refl
one_answered k seat (Some x) b is = ap (λ (c : Bool). cond c (x ∷ []) []) is

with_front : (o : Option Request) (rest : List Request) → with_request o [] ++ rest ≡ with_request o rest
with_front None rest = refl
with_front (Some x) rest = refl

answered_onto : (k : ℕ) (past later : List Entry) → answered k (onto past later) ≡ answered k past ++ requests_in (own_of (k ∷ []) later)
answered_onto k past [] = sym (append-nil (answered k past))
answered_onto k past (e ∷ later) =
    answered_onto k (e ∷ past) later
    ∙ (append_assoc (answered k past) (spoken_by k (e.seat).0 (request_of e.what)) (requests_in (own_of (k ∷ []) later))
    ∙ ap (λ (rs : List Request). answered k past ++ rs) (by (nat_eq (e.seat).0 k) refl))
  where
    by : (b : Bool) → nat_eq (e.seat).0 k ≡ b → spoken_by k (e.seat).0 (request_of e.what) ++ requests_in (own_of (k ∷ []) later) ≡ requests_in (own_of (k ∷ []) (e ∷ later))
    by true is =
        ap (λ (rs : List Request). rs ++ requests_in (own_of (k ∷ []) later)) (one_answered k (e.seat).0 (request_of e.what) true is)
        ∙ (with_front (request_of e.what) (requests_in (own_of (k ∷ []) later))
        ∙ ap (λ (c : Bool). requests_in (cond (c || false) (e ∷ own_of (k ∷ []) later) (own_of (k ∷ []) later))) (sym (same_test k (e.seat).0 ∙ is)))
    by false is =
        ap (λ (rs : List Request). rs ++ requests_in (own_of (k ∷ []) later)) (one_answered k (e.seat).0 (request_of e.what) false is)
        ∙ ap (λ (c : Bool). requests_in (cond (c || false) (e ∷ own_of (k ∷ []) later) (own_of (k ∷ []) later))) (sym (same_test k (e.seat).0 ∙ is))

-- what the journal's past has answered of a process
pub answered_all : (k : ℕ) (journal seen : List Entry) → own_entries k journal ≡ own_entries k seen → answered k (reverse journal) ≡ requests_in (own_of (k ∷ []) seen)
answered_all k journal seen same =
    ap (answered k) (onto_reverse [] journal)
    ∙ (answered_onto k [] journal
    ∙ ap requests_in (sym (own_pairs k 1 journal) ∙ (ap (map (λ (p : ℕ × Entry). p.1)) same ∙ own_pairs k 1 seen)))
