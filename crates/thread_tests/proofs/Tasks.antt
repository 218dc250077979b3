-- The tasks of a body, one after another.
use Rattle.std.proofs.Common.{◌≡◌, ℕ, ◌+◌, arith, List, [], ◌∷◌, ◌++◌, Some, length, take, take_all, ap, ◌∙◌}
use Rattle.std.specs.Prelude.{slice_get}
use Rattle.std.proofs.lemmas.List.{take_more}
use Rattle.std.proofs.lemmas.Option.{get_or_from_slice_get, slice_get_within}
use Rattle.vm_types.specs.declared.config.Task.{Task}

pub one_more : (body : List Task) (i : ℕ) (task : Task) → slice_get body i ≡ Some task → take (i + 1) body ≡ take i body ++ task ∷ []
one_more body i task is = take_more body i task (slice_get_within body i task is) ∙ ap (λ (t : Task). take i body ++ t ∷ []) (get_or_from_slice_get body i task task is)

pub all_taken : (body : List Task) → take (length body) body ≡ body
all_taken body = take_all (length body) body (omega arith)
