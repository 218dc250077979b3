-- The requests of a process, one task after another.
use Rattle.std.proofs.Common.{◌≡◌, ◌≢◌, ℕ, ◌+◌, Bool, true, false, cond, List, [], ◌∷◌, ◌++◌, Some, filter, map, nat_eq, take, refl, ap, ◌∙◌}
use Rattle.std.specs.Prelude.{slice_get}
use Rattle.std.proofs.lemmas.Bool.{eq-eqb, ne_eqb}
use Rattle.std.proofs.lemmas.List.{take_more}
use Rattle.std.proofs.lemmas.Option.{get_or_from_slice_get, slice_get_within}
use Rattle.vm_types.specs.declared.config.Task.{Task}
use Rattle.vm_types.specs.declared.service.Request.{Request}
use Rattle.pager_model.specs.Order.{requests_of}

abbrev one_by : ℕ → Task → Bool → List Request
one_by k task b = map (λ (t : Task). t.request) (cond b (task ∷ []) [])

pub asks_here : (k : ℕ) (task : Task) → (task.proc).0 ≡ k → requests_of k (task ∷ []) ≡ task.request ∷ []
asks_here k task is = ap (one_by k task) (eq-eqb (task.proc).0 k is)

pub asks_none : (k : ℕ) (task : Task) → (task.proc).0 ≢ k → requests_of k (task ∷ []) ≡ []
asks_none k task apart = ap (one_by k task) (ne_eqb (task.proc).0 k apart)

pub requests_then : (k : ℕ) (xs ys : List Task) → requests_of k (xs ++ ys) ≡ requests_of k xs ++ requests_of k ys
requests_then k [] ys = refl
requests_then k (x ∷ xs) ys = by (nat_eq (x.proc).0 k) (requests_then k xs ys)
  where
    by : (b : Bool) → requests_of k (xs ++ ys) ≡ requests_of k xs ++ requests_of k ys
        → map (λ (t : Task). t.request) (cond b (x ∷ filter (λ (t : Task). nat_eq (t.proc).0 k) (xs ++ ys)) (filter (λ (t : Task). nat_eq (t.proc).0 k) (xs ++ ys)))
        ≡ map (λ (t : Task). t.request) (cond b (x ∷ filter (λ (t : Task). nat_eq (t.proc).0 k) xs) (filter (λ (t : Task). nat_eq (t.proc).0 k) xs)) ++ requests_of k ys
    by true rest = ap (λ (rs : List Request). x.request ∷ rs) rest
    by false rest = rest

pub requests_more : (k : ℕ) (body : List Task) (i : ℕ) (task : Task) → slice_get body i ≡ Some task → requests_of k (take (i + 1) body) ≡ requests_of k (take i body) ++ requests_of k (task ∷ [])
requests_more k body i task is =
    ap (requests_of k) (take_more body i task (slice_get_within body i task is) ∙ ap (λ (t : Task). take i body ++ t ∷ []) (get_or_from_slice_get body i task task is))
    ∙ requests_then k (take i body) (task ∷ [])
