-- Each process's requests once and in their order. This project's own.
use Rattle.std.specs.Prelude.{◌≡◌, ℕ, List, [], ◌∷◌, ◌++◌, Option, Some, None, map, filter, nat_eq, if◌then◌else◌}
use Rattle.vm_types.specs.declared.config.Config.{Config}
use Rattle.vm_types.specs.declared.config.Task.{Task}
use Rattle.vm_types.specs.declared.service.Request.{Request}
use Rattle.vm_journal.specs.declared.entry.Entry.{Entry}
use Rattle.pager_model.specs.Spoken.{request_of}

-- a request of a process's seat, where the entry speaks for it
abbrev pub spoken_by : ℕ → ℕ → Option Request → List Request
spoken_by p seat None = []
spoken_by p seat (Some request) = if nat_eq seat p then (request ∷ []) else []

-- the requests of a process that a past has answered, in the order of their answers
abbrev pub answered : ℕ → List Entry → List Request
answered p [] = []
answered p (e ∷ past) = answered p past ++ spoken_by p (e.seat).0 (request_of e.what)

-- the requests of a process in the body
abbrev pub requests_of : ℕ → List Task → List Request
requests_of p body = map (λ (task : Task). task.request) (filter (λ (task : Task). nat_eq (task.proc).0 p) body)

abbrev pub IsPrefix : {X : Type 0} → List X → List X → Type 0
IsPrefix {X} xs ys = (rest : List X) × (xs ++ rest ≡ ys)

-- what each process has been answered is a prefix of what it asks for
abbrev pub IsInOrder : Config → List Entry → Type 0
IsInOrder config past = (p : ℕ) → IsPrefix (answered p past) (requests_of p config.body)

-- and is all of it
abbrev pub IsAnswered : Config → List Entry → Type 0
IsAnswered config past = (p : ℕ) → answered p past ≡ requests_of p config.body
