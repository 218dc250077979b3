-- The pages of a process's references, one request after another.
use Rattle.std.proofs.Common.{◌≡◌, ℕ, ◌+◌, arith, List, [], ◌∷◌, ◌++◌, Option, Some, None, length, take, take_all, refl, sym, ap, ◌∙◌}
use Rattle.std.specs.Prelude.{slice_get}
use Rattle.std.specs.List.{filter_map}
use Rattle.std.proofs.lemmas.List.{take_more}
use Rattle.std.proofs.lemmas.Option.{get_or_from_slice_get, slice_get_within}
use Rattle.vm_types.specs.declared.config.Task.{Task}
use Rattle.paging_study.specs.PageString.{page_of_task, page_string}

abbrev one_by : Option ℕ → List ℕ → List ℕ
one_by (Some page) rest = page ∷ rest
one_by None rest = rest

split : (p : ℕ) (x : Task) (rest : List Task) (o : Option ℕ) → page_of_task p x ≡ o → page_string p (x ∷ rest) ≡ one_by o (page_string p rest)
split p x rest (Some page) is = rw is refl
split p x rest None is = rw is refl

pub page_here : (p : ℕ) (task : Task) (page : ℕ) → page_of_task p task ≡ Some page → page_string p (task ∷ []) ≡ page ∷ []
page_here p task page is = split p task [] (Some page) is

pub page_none : (p : ℕ) (task : Task) → page_of_task p task ≡ None → page_string p (task ∷ []) ≡ []
page_none p task is = split p task [] None is

pages_then : (p : ℕ) (xs ys : List Task) → page_string p (xs ++ ys) ≡ page_string p xs ++ page_string p ys
pages_then p [] ys = refl
pages_then p (x ∷ xs) ys = by (page_of_task p x) refl (pages_then p xs ys)
  where
    by : (o : Option ℕ) → page_of_task p x ≡ o → page_string p (xs ++ ys) ≡ page_string p xs ++ page_string p ys → page_string p (x ∷ (xs ++ ys)) ≡ page_string p (x ∷ xs) ++ page_string p ys
    by (Some page) is rest = split p x (xs ++ ys) (Some page) is ∙ (ap (λ (pages : List ℕ). page ∷ pages) rest ∙ ap (λ (pages : List ℕ). pages ++ page_string p ys) (sym (split p x xs (Some page) is)))
    by None is rest = split p x (xs ++ ys) None is ∙ (rest ∙ ap (λ (pages : List ℕ). pages ++ page_string p ys) (sym (split p x xs None is)))

pub pages_more : (p : ℕ) (body : List Task) (i : ℕ) (task : Task) → slice_get body i ≡ Some task → page_string p (take (i + 1) body) ≡ page_string p (take i body) ++ page_string p (task ∷ [])
pages_more p body i task is =
    ap (page_string p) (take_more body i task (slice_get_within body i task is) ∙ ap (λ (t : Task). take i body ++ t ∷ []) (get_or_from_slice_get body i task task is))
    ∙ pages_then p (take i body) (task ∷ [])

pub all_pages : (p : ℕ) (body : List Task) → page_string p (take (length body) body) ≡ page_string p body
all_pages p body = ap (page_string p) (take_all (length body) body (omega arith))
