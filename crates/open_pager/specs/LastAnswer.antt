-- What a process was answered last. This project's own.
use Rattle.std.specs.Prelude.{◌≡◌, ℕ, ◌-◌, ◌&&◌, List, [], ◌∷◌, Option, Some, None, nat_eq, slice_get, if◌then◌else◌}
use Rattle.std.specs.Option.{is_some}
use Rattle.vm_types.specs.declared.service.Request.{Request}
use Rattle.vm_journal.specs.declared.entry.Entry.{Entry}
use Rattle.pager_model.specs.Spoken.{request_of}

-- the newest entry that answers a request of the process; none if there is none
abbrev pub last_answer : ℕ → List Entry → Option Entry
last_answer p [] = None
last_answer p (e ∷ past) = if is_some (request_of e.what) && nat_eq (e.seat).0 p then Some e else last_answer p past

-- it is there, and answers this request
pub record IsAnsweredLast (p : ℕ) (past : List Entry) (request : Request) : Type 0 where
  pub entry : Entry
  pub newest : last_answer p past ≡ Some entry
  pub of : request_of entry.what ≡ Some request

-- the entry of a number, from 1, in a list
abbrev pub numbered : List Entry → Option ℕ → Option Entry
numbered xs None = None
numbered xs (Some n) = slice_get xs (n - 1)
