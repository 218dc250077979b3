-- Where the modified page writer and the swapper of a run by threads have worked, or had nothing to do. This project's
-- own.
use Rattle.std.specs.Prelude.{◌≡◌, ◌⊎◌, ℕ, Bool, true, List, ◌++◌, nat_eq}
use Rattle.std.specs.List.{list_any}
use Rattle.vm_types.specs.declared.config.Config.{Config}
use Rattle.vm_journal.specs.declared.entry.Entry.{Entry}
use Rattle.pager_model.specs.Order.{IsAnswered}
use Rattle.pager_model.specs.Pager.{Pager}
use Rattle.pager_model.specs.Run.{pager_after}

-- it is the seat's
abbrev pub is_by : ℕ → Entry → Bool
is_by seat e = nat_eq (e.seat).0 seat

-- a place of the journal, from the last answer on, at which the seat has an entry before it, or this holds
pub record HasWorkedAt (config : Config) (past : List Entry) (seat : ℕ) (Rests : Config → List Entry → Pager → Type 0) : Type 0 where
  pub after : List Entry
  pub place : List Entry
  pub is : past ≡ after ++ place
  pub answered : IsAnswered config place
  pub worked : (list_any (is_by seat) place ≡ true) ⊎ Rests config place (pager_after config place)
