-- A state as its history, and when an entry may be added to it. This project's own.
use Rattle.std.specs.Prelude.{ℕ, Bool, ◌+◌, ◌-◌, ◌*◌, ◌≤◌, List, ◌∷◌, length, if◌then◌else◌}
use Rattle.vm_types.specs.declared.config.Config.{Config}
use Rattle.vm_types.specs.declared.pool_name.PoolName.{PoolName}
use Rattle.vm_types.specs.declared.names.Seat.{Seat}
use Rattle.vm_types.specs.declared.reference.Ref.{Ref}
use Rattle.vm_types.specs.declared.reply.Reply.{Reply}
use Rattle.vm_journal.specs.declared.entry.Entry.{Entry}
use Rattle.vm_journal.specs.declared.entry.What.{What}
use Rattle.vm_journal.specs.declared.entry.What.TheVariants as what
use Rattle.vm_text.specs.References.{IsReplyTo}
use Rattle.pager_model.specs.Flights.{awaits_reuse, open_flights}
use Rattle.pager_model.specs.Pager.{Pager}
use Rattle.pager_model.specs.Run.{pager_after}
use Rattle.pager_model.specs.Step.{IsLegal}

-- the configuration; the entries, the newest first; how many more can be written without memory; the name of the
-- pool that its buffers are of; whether it was halted; and whether the entries themselves are kept, so that code can
-- read them
pub record History : Type 0 where
  pub config : Config
  pub past : List Entry
  pub spare : ℕ
  pub pool : PoolName
  pub halted : Bool
  pub keeps : Bool

-- the state of the pager that it stands for
abbrev pub pager : History → Pager
pager s = pager_after s.config s.past

abbrev pub entry_by : Seat → What → Entry
entry_by seat what = record { seat = seat; what = what }

abbrev pub added : History → Entry → History
added s e = record s { past = e ∷ s.past; spare = s.spare - 1 }

-- the entries that are due whatever comes: a landing of each open flight, and a reuse after it or after the read
-- that has just failed
abbrev pub owed : List Entry → ℕ
owed past = 2 * length (open_flights past) + (if awaits_reuse past then 1 else 0)

-- an entry may be added: it is legal, and what is due after it is paid for
pub record MayAdd (s : History) (e : Entry) : Type 0 where
  pub legal : IsLegal s.config s.past (pager s) e
  pub paid : owed (e ∷ s.past) + 1 ≤ s.spare

-- a reference may be answered: it is legal with each reply of its kind
pub record MayAnswer (s : History) (seat : Seat) (r : Ref) : Type 0 where
  pub legal : (reply : Reply) → IsReplyTo r.op reply → IsLegal s.config s.past (pager s) (entry_by seat (what.Done r reply))
  pub paid : owed s.past + 1 ≤ s.spare
