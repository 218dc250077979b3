-- The requests that a journal's later entries of some numbers answer. This project's own.
use Rattle.std.specs.Prelude.{◌≡◌, ℕ, ◌≤◌, List, [], ◌∷◌, Option, Some, None, length, reverse}
use Rattle.vm_types.specs.declared.service.Request.{Request}
use Rattle.vm_journal.specs.declared.entry.Entry.{Entry}
use Rattle.pager_model.specs.Order.{IsPrefix}
use Rattle.pager_model.specs.Spoken.{spoken, request_of}
use Rattle.vm_state.specs.declared.base.StateBase.{StateBase}
use Rattle.vm_actors.specs.OwnEntries.{GoesOnWith}

abbrev pub with_request : Option Request → List Request → List Request
with_request None rest = rest
with_request (Some x) rest = x ∷ rest

-- the requests that entries answer, in their order
abbrev pub requests_in : List Entry → List Request
requests_in [] = []
requests_in (e ∷ entries) = with_request (request_of e.what) (requests_in entries)

-- they answer these requests, each once and in their order; or the first ones of them
abbrev pub AreAnswers : List Request → List Entry → Type 0
AreAnswers work entries = requests_in entries ≡ work

abbrev pub AreFirstAnswers : List Request → List Entry → Type 0
AreFirstAnswers work entries = IsPrefix (requests_in entries) work

abbrev pub HasAnswered : List ℕ → List Entry → List Entry → List Request → Type 0
HasAnswered numbers old new work = GoesOnWith (AreAnswers work) numbers old new

abbrev pub HasAnsweredSome : List ℕ → List Entry → List Entry → List Request → Type 0
HasAnsweredSome numbers old new work = GoesOnWith (AreFirstAnswers work) numbers old new

-- as many requests are answered as the configuration of the base has
abbrev pub AreAllAnswered : Option StateBase → List Entry → Type 0
AreAllAnswered None journal = ⊥
AreAllAnswered (Some b) journal = length b.config.body ≤ spoken (reverse journal)
