-- What a process asks for next. This project's own.
use Rattle.std.specs.Prelude.{◌≡◌, ℕ, List, Option, Some, length, slice_get}
use Rattle.vm_types.specs.declared.config.Config.{Config}
use Rattle.vm_types.specs.declared.service.Request.{Request}
use Rattle.vm_journal.specs.declared.entry.Entry.{Entry}
use Rattle.pager_model.specs.Order.{answered, requests_of}

-- the first of its requests that isn't answered
abbrev pub next_request : Config → List Entry → ℕ → Option Request
next_request config past p = slice_get (requests_of p config.body) (length (answered p past))

-- the process has a request that isn't answered
pub record HasRequest (config : Config) (past : List Entry) (p : ℕ) : Type 0 where
  pub request : Request
  pub next : next_request config past p ≡ Some request
