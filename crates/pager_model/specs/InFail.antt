-- INFAIL: a read lands badly; the frame is in read error until its reuse, which comes next. This
-- project's own.
use Rattle.std.specs.Prelude.{◌≡◌, ℕ, List}
use Rattle.vm_types.specs.declared.names.FrameState.TheVariants as state
use Rattle.vm_journal.specs.declared.entry.Entry.{Entry}
use Rattle.vm_journal.specs.declared.entry.Role.{Role}
use Rattle.pager_model.specs.Counted.{IsCounted}
use Rattle.pager_model.specs.Flights.{Flight, reading}
use Rattle.pager_model.specs.InOk.{IsLanding}
use Rattle.pager_model.specs.Pager.{Pager}
use Rattle.pager_model.specs.Sets.{at_number}

pub record IsInFail (past : List Entry) (p f k c d : ℕ) : Type 0 where
  pub flight : Flight
  pub lands : IsLanding past p f k flight
  pub role : Role
  pub reads : flight.direction ≡ reading role
  pub counted : IsCounted past flight.block c d

abbrev pub after_in_fail : Pager → ℕ → Pager
after_in_fail a f = record a { state = at_number a.state f state.ReadError }
