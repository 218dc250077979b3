-- The requests as they are kept, and as the list that contracts see.
use Rattle.std.proofs.Common.{◌≡◌, ℕ, zero, suc, List, [], ◌∷◌, ◌++◌, Option, Some, None, length, map, refl, ap, ◌∙◌}
use Rattle.std.specs.Prelude.{slice_get}
use Rattle.std.proofs.lemmas.List.{map-append, length-map}
use Rattle.vm_types.specs.Short.{task_of}
use Rattle.vm_types.specs.declared.config.Task.{Task}
use Rattle.vm_types.specs.declared.short.Short.{Short}

pub one_more : (shorts : List Short) (s : Short) (task : Task) → task_of s ≡ task → map task_of (shorts ++ s ∷ []) ≡ map task_of shorts ++ task ∷ []
one_more shorts s task is = map-append task_of shorts (s ∷ []) ∙ ap (λ (t : Task). map task_of shorts ++ t ∷ []) is

pub as_many : (shorts : List Short) → length (map task_of shorts) ≡ length shorts
as_many shorts = length-map shorts task_of

pub one_at : (shorts : List Short) (i : ℕ) (s : Short) → slice_get shorts i ≡ Some s → slice_get (map task_of shorts) i ≡ Some (task_of s)
one_at [] i s e = absurd cc
one_at (x ∷ shorts) zero s e = let same : x ≡ s = cc in ap (λ (y : Short). Some (task_of y)) same
one_at (x ∷ shorts) (suc i) s e = one_at shorts i s e

pub none_at : (shorts : List Short) (i : ℕ) → slice_get shorts i ≡ None → slice_get (map task_of shorts) i ≡ None
none_at [] i e = refl
none_at (x ∷ shorts) zero e = absurd cc
none_at (x ∷ shorts) (suc i) e = none_at shorts i e
