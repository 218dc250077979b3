-- Serial journals: what the moves of the policy lead to. The outcomes of landings and the values of answers
-- are free, for they are the blocks' and the flat machine's. This project's own.
use Rattle.std.specs.Prelude.{map, ◌≡◌, ℕ, Bool, false, List, [], ◌∷◌, ◌++◌, Option, Some, None, length}
use Rattle.vm_types.specs.declared.config.Config.{Config}
use Rattle.vm_types.specs.declared.config.Task.{Task}
use Rattle.vm_types.specs.declared.service.Request.{Request}
use Rattle.vm_types.specs.declared.service.Request.TheVariants as request
use Rattle.vm_types.specs.declared.reply.Reply.{Reply}
use Rattle.vm_types.specs.declared.reply.Why.TheVariants as why
use Rattle.vm_types.specs.declared.reply.Answer.TheVariants as answer
use Rattle.vm_journal.specs.declared.entry.Entry.{Entry}
use Rattle.vm_journal.specs.declared.entry.What.{What}
use Rattle.vm_journal.specs.declared.entry.What.TheVariants as what
use Rattle.pager_model.specs.Flights.{awaits_reuse, open_flights, carrier_of}
use Rattle.pager_policy.specs.Given.{with_reply, by_seat, made_by}
use Rattle.pager_policy.specs.Landings.{Outcome, all_bad, first_bad, landed_by}
use Rattle.pager_policy.specs.Moves.{After, Control, Move, asking, carries, control, goes, makes, refuses, rests, saving}
use Rattle.pager_model.specs.Order.{IsAnswered}
use Rattle.pager_policy.specs.Policy.{move_of, next_task}
use Rattle.pager_policy.specs.Rundown.{at_slot}

-- what a move is told: the outcomes of its landings, and the reply that it shows if it answers a reference
pub record Heard : Type 0 where
  pub outcomes : List Outcome
  pub reply : Reply

-- a request that is refused for a failed carrier
abbrev pub refusal_of : Task → What
refusal_of task = by task.request where
  by : Request → What
  by (request.Reference r) = what.Denied r why.DiskFault
  by (request.Service s) = what.Served s answer.DiskFault

abbrev pub IsRefused : List Entry → List Entry → Control → Option Task → Type 0
IsRefused past more next None = ⊥
IsRefused past more next (Some task) = (more ≡ by_seat (task.proc).0 (refusal_of task) ∷ past) × (next ≡ control (saving false (task.proc).0))

abbrev pub GoesOn : Config → List Entry → List Entry → Control → After → Type 0
GoesOn config past more next (goes c) = (more ≡ past) × (next ≡ c)
GoesOn config past more next refuses = IsRefused past more next (next_task config past)

-- the seat's flights land, in the order in which they were begun, and the policy goes on
pub record IsCarried (config : Config) (seat : ℕ) (begun : List Entry) (onward : Bool → Bool → After) (heard : Heard) (more : List Entry) (next : Control) : Type 0 where
  pub each : length heard.outcomes ≡ length (carrier_of seat begun)
  pub on : GoesOn config (landed_by config seat (carrier_of seat begun) heard.outcomes begun) more next (onward (all_bad heard.outcomes) (first_bad heard.outcomes))

abbrev pub IsMade : Config → List Entry → Heard → List Entry → Control → Move → Type 0
IsMade config past heard more next (makes seat ws c) = (more ≡ made_by seat (map (with_reply heard.reply) ws) past) × (next ≡ c) × (heard.outcomes ≡ [])
IsMade config past heard more next (carries seat ws onward) = IsCarried config seat (made_by seat ws past) onward heard more next
IsMade config past heard more next rests = ⊥

-- one move of the policy leads from a past to a longer one
abbrev pub IsMove : Config → List Entry → Control → Heard → List Entry → Control → Type 0
IsMove config past c heard more next = IsMade config past heard more next (move_of config past c)

-- moves, told this, the newest first, lead from a past to a longer one
pub record IsAfterMove (config : Config) (heard : Heard) (Before : List Entry → Control → Type 0) (past : List Entry) (c : Control) : Type 0 where
  pub earlier_past : List Entry
  pub earlier_control : Control
  pub before : Before earlier_past earlier_control
  pub move : IsMove config earlier_past earlier_control heard past c

abbrev pub IsReached : Config → List Entry → Control → List Heard → List Entry → Control → Type 0
IsReached config start from [] past c = (past ≡ start) × (c ≡ from)
IsReached config start from (heard ∷ told) past c = IsAfterMove config heard (IsReached config start from told) past c

-- the policy leads to this past, from the first request on
pub record IsSerialTo (config : Config) (past : List Entry) (c : Control) : Type 0 where
  pub told : List Heard
  pub reached : IsReached config [] (control asking) told past c

-- the policy has no move
abbrev pub Rests : Config → List Entry → Control → Type 0
Rests config past c = move_of config past c ≡ rests

-- a serial journal up to the report's place: no request is left, and the work after the last answer is done
pub record IsSerial (config : Config) (past : List Entry) : Type 0 where
  pub control : Control
  pub reached : IsSerialTo config past control
  pub none_left : next_task config past ≡ None
  pub rests : Rests config past control

-- the entries after a past, the newest first, are its rundown
pub record IsRundown (config : Config) (past rest : List Entry) : Type 0 where
  pub control : Control
  pub told : List Heard
  pub reached : IsReached config past (at_slot 0 0 false) told (rest ++ past) control
  pub rests : Rests config (rest ++ past) control

-- the past at the report's place: every request is answered, nothing is in flight, and no frame awaits its
-- reuse; and the entries after it are the rundown
pub record IsWhole (config : Config) (past rest : List Entry) : Type 0 where
  pub answered : IsAnswered config past
  pub landed : open_flights past ≡ []
  pub reused : awaits_reuse past ≡ false
  pub rundown : IsRundown config past rest
