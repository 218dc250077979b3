-- What each process still asks for. This project's own.
use Rattle.std.specs.Prelude.{◌≡◌, ℕ, suc, ◌<◌, ◌≤◌, List, [], Option, Some, None, drop, length, slice_get, nat_eq, if◌then◌else◌}
use Rattle.vm_types.specs.declared.config.Task.{Task}
use Rattle.vm_types.specs.declared.service.Request.{Request}
use Rattle.pager_model.specs.Order.{requests_of}

-- a body, and by process the place in it of the process's next task
pub record Left : Type 0 where
  pub body : List Task
  pub next : List ℕ

-- the requests of a process from a place on
abbrev pub requests_from : ℕ → List Task → Option ℕ → List Request
requests_from p body None = []
requests_from p body (Some i) = requests_of p (drop i body)

-- what is left of a process's requests
abbrev pub left_of : Left → ℕ → List Request
left_of l p = requests_from p l.body (slice_get l.next p)

-- the place is the body's end, or that of a task of the process
pub record IsTaskPlace (body : List Task) (p i : ℕ) : Type 0 where
  pub within : i ≤ length body
  pub own : (task : Task) → slice_get body i ≡ Some task → (task.proc).0 ≡ p

-- it is the process's first place from t on
pub record IsFirstFrom (body : List Task) (p t i : ℕ) : Type 0 where
  pub place : IsTaskPlace body p i
  pub first : requests_of p (drop i body) ≡ requests_of p (drop t body)

-- for each task from t on, the place of the same process's next one
abbrev pub AreAfter : List Task → ℕ → List ℕ → Type 0
AreAfter body t after = (u j : ℕ) (task : Task) → t ≤ u → slice_get body u ≡ Some task → slice_get after u ≡ Some j → IsFirstFrom body (task.proc).0 (suc u) j

-- for each process its first place from t on
abbrev pub AreNext : List Task → ℕ → List ℕ → Type 0
AreNext body t next = (p i : ℕ) → slice_get next p ≡ Some i → IsFirstFrom body p t i

-- the tasks from t on are linked
pub record AreLinked (body : List Task) (t : ℕ) (next after : List ℕ) : Type 0 where
  pub count : length after ≡ length body
  pub nexts : AreNext body t next
  pub afters : AreAfter body t after

-- each place is one of its process, and each task leads to the same process's next one
pub record ArePlaces (body : List Task) (next after : List ℕ) : Type 0 where
  pub count : length after ≡ length body
  pub places : (p i : ℕ) → slice_get next p ≡ Some i → IsTaskPlace body p i
  pub afters : AreAfter body 0 after

-- each task is one of so many processes
abbrev pub AreOf : List Task → ℕ → Type 0
AreOf body procs = (t : ℕ) (task : Task) → slice_get body t ≡ Some task → (task.proc).0 < procs

-- one process has one request fewer left, if it has any
abbrev pub IsRequestTaken : ℕ → Left → Left → Type 0
IsRequestTaken p old new = (q : ℕ) → left_of new q ≡ (if nat_eq p q then drop 1 (left_of old q) else left_of old q)
