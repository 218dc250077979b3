-- Legal steps: one row for each of the sixteen kinds of entry, any seat next, and the state that an entry
-- leads to. This project's own table of the changes that the pager makes under the memory lock.
use Rattle.vm_journal.specs.HasLine.{HasLine}
use Rattle.std.specs.Prelude.{length, ℕ, List, find}
use Rattle.vm_types.specs.declared.config.Config.{Config}
use Rattle.vm_journal.specs.declared.entry.Entry.{Entry}
use Rattle.vm_journal.specs.declared.entry.What.{What}
use Rattle.vm_journal.specs.declared.entry.What.TheVariants as what
use Rattle.pager_model.specs.Back.{IsAnyBack, after_any_back}
use Rattle.pager_model.specs.Collide.{IsCollide, after_collide}
use Rattle.pager_model.specs.Denied.{IsDenial, after_denied}
use Rattle.pager_model.specs.Done.{IsDone, after_done}
use Rattle.pager_model.specs.Evict.{IsEvict, after_evict}
use Rattle.pager_model.specs.Flights.{open_flights}
use Rattle.pager_model.specs.In.{IsIn, after_in}
use Rattle.pager_model.specs.InFail.{IsInFail, after_in_fail}
use Rattle.pager_model.specs.InOk.{IsInOk, after_in_ok}
use Rattle.pager_model.specs.InTurn.{InTurn}
use Rattle.pager_model.specs.Limit.{IsLimit, after_limit}
use Rattle.pager_model.specs.Out.{IsAnyOut, after_any_out}
use Rattle.pager_model.specs.OutLanding.{IsOutFail, IsOutOk, after_out_fail, after_out_ok}
use Rattle.pager_model.specs.Pager.{Pager}
use Rattle.pager_model.specs.Reuse.{IsReuse, after_reuse}
use Rattle.pager_model.specs.Served.{IsServed, after_served}
use Rattle.pager_model.specs.Transfers.{starts}
use Rattle.pager_model.specs.Turn.{IsTurn, after_turn}
use Rattle.pager_model.specs.Zero.{IsZero, after_zero}

-- the row of its kind, for an entry of seat p
abbrev pub IsLegalWhat : Config → List Entry → Pager → ℕ → What → Type 0
IsLegalWhat config past a p (what.Done r answer) = IsDone config a p r
IsLegalWhat config past a p (what.Denied r reason) = IsDenial config past a p r reason
IsLegalWhat config past a p (what.Served s answer) = IsServed config past a p s answer
IsLegalWhat config past a p (what.Reuse f g) = IsReuse past a p f.0 g
IsLegalWhat config past a p (what.Zero address f) = IsZero config a p address.0 f.0
IsLegalWhat config past a p (what.Back q address f from) = IsAnyBack config a p q.0 address.0 f.0 from
IsLegalWhat config past a p (what.Collide address f k) = IsCollide config past a p address.0 f.0 k
IsLegalWhat config past a p (what.In f b r) = IsIn r config past a p f.0 b
IsLegalWhat config past a p (what.InOk f k) = IsInOk past p f.0 k
IsLegalWhat config past a p (what.InFail f k c d) = IsInFail past p f.0 k c d
IsLegalWhat config past a p (what.Out f b) = IsAnyOut config past a f.0 b
IsLegalWhat config past a p (what.OutOk f k) = IsOutOk past p f.0 k
IsLegalWhat config past a p (what.OutFail f k c d) = IsOutFail past p f.0 k c d
IsLegalWhat config past a p (what.Evict q address f why to) = IsEvict why config past a p q.0 address.0 f.0 to
IsLegalWhat config past a p (what.Limit n faults) = IsLimit config a p n faults
IsLegalWhat config past a p (what.Turn q s) = IsTurn config past a q.0 s

-- the entry is in turn by the rules of seats, has a line, and is legal by the row of its kind
pub record IsLegal (config : Config) (past : List Entry) (a : Pager) (e : Entry) : Type 0 where
  pub in_turn : InTurn config past e
  pub line : HasLine (length config.procs) config.sections e
  pub row : IsLegalWhat config past a (e.seat).0 e.what

abbrev pub after_what : Config → List Entry → Pager → ℕ → What → Pager
after_what config past a p (what.Done r answer) = after_done config a p r
after_what config past a p (what.Denied r reason) = after_denied a p
after_what config past a p (what.Served s answer) = after_served config a p s answer
after_what config past a p (what.Reuse f g) = after_reuse past a f.0 g
after_what config past a p (what.Zero address f) = after_zero config a p address.0 f.0
after_what config past a p (what.Back q address f from) = after_any_back a (a.status q.0) q.0 address.0 f.0
after_what config past a p (what.Collide address f k) = after_collide a p k
after_what config past a p (what.In f b r) = after_in config a f.0 r
after_what config past a p (what.InOk f k) = after_in_ok a f.0 (find (starts k) (open_flights past))
after_what config past a p (what.InFail f k c d) = after_in_fail a f.0
after_what config past a p (what.Out f b) = after_any_out a f.0 b
after_what config past a p (what.OutOk f k) = after_out_ok a f.0 (find (starts k) (open_flights past))
after_what config past a p (what.OutFail f k c d) = after_out_fail a f.0 (find (starts k) (open_flights past))
after_what config past a p (what.Evict q address f why to) = after_evict a why q.0 address.0 f.0 to
after_what config past a p (what.Limit n faults) = after_limit a p n
after_what config past a p (what.Turn q s) = after_turn a q.0 s

-- the state that an entry leads to; a landing asks the past for its flight, a reuse for the failed read
abbrev pub after : Config → List Entry → Pager → Entry → Pager
after config past a e = after_what config past a (e.seat).0 e.what
