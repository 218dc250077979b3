-- Spoken entries, the flat state after a journal, and right values. A journal's past is its list
-- of entries, the newest first. This project's own.
use Rattle.std.specs.Prelude.{◌≡◌, ℕ, List, [], ◌∷◌, Option, Some, None, count_by}
use Rattle.vm_types.specs.declared.config.Config.{Config}
use Rattle.vm_types.specs.declared.service.Request.{Request}
use Rattle.vm_types.specs.declared.service.Request.TheVariants as request
use Rattle.vm_journal.specs.declared.entry.Entry.{Entry}
use Rattle.vm_journal.specs.declared.entry.What.{What}
use Rattle.vm_journal.specs.declared.entry.What.TheVariants as what
use Rattle.pager_model.specs.Flat.{FlatState, flat_next, flat_reply, flat_start}
use Rattle.pager_model.specs.FlatService.{flat_service}
use Rattle.std.specs.Option.{is_some}

-- the request that a spoken entry answers
abbrev pub request_of : What → Option Request
request_of (what.Done r reply) = Some (request.Reference r)
request_of (what.Denied r why) = Some (request.Reference r)
request_of (what.Served s answer) = Some (request.Service s)
request_of other = None

-- how many requests a past has answered
abbrev pub spoken : List Entry → ℕ
spoken past = count_by (λ (e : Entry). is_some (request_of e.what)) past

abbrev pub flat_entry : Config → FlatState → ℕ → What → FlatState
flat_entry config flat p (what.Done r reply) = flat_next config flat p r
flat_entry config flat p (what.Served s answer) = flat_service flat p s answer
flat_entry config flat p other = flat

-- the flat state after the spoken entries of a past
abbrev pub flat_after : Config → List Entry → FlatState
flat_after config [] = flat_start config
flat_after config (e ∷ past) = flat_entry config (flat_after config past) (e.seat).0 e.what

-- the value that an entry shows is the flat reply
abbrev pub ShowsReply : Config → FlatState → ℕ → What → Type 0
ShowsReply config flat p (what.Done r reply) = reply ≡ flat_reply config flat p r
ShowsReply config flat p other = Unit {0}

-- each answered reference shows the reply of the flat state of the entries before it
abbrev pub IsRight : Config → List Entry → Type 0
IsRight config [] = Unit {0}
IsRight config (e ∷ past) = IsRight config past × ShowsReply config (flat_after config past) (e.seat).0 e.what
