-- What is made after a past in which each entry has its cause, and the landings of its flights.
use Rattle.std.proofs.Common.{ℕ, List, [], ◌∷◌, Option, Some, None, inl, refl}
use Rattle.vm_types.specs.declared.names.Page.{Page}
use Rattle.vm_types.specs.declared.config.Config.{Config}
use Rattle.vm_journal.specs.declared.entry.Entry.{Entry}
use Rattle.vm_journal.specs.declared.entry.What.{What}
use Rattle.vm_journal.specs.declared.entry.What.TheVariants as what
use Rattle.pager_model.specs.Counted.{last_count}
use Rattle.pager_model.specs.Flights.{Direction, Flight, reading, writing}
use Rattle.pager_model.specs.Maps.{pfn}
use Rattle.pager_model.specs.Run.{pager_after}
use Rattle.pager_policy.specs.Given.{by_seat, made_by}
use Rattle.pager_policy.specs.Landings.{Outcome, landed_by, landing, reuse_of, went_badly, went_well}
use Rattle.entry_causes.specs.Caused.{IsCausedThroughout}
use Rattle.cause_laws.specs.AreCaused.{AreCaused}

-- entries with causes keep it so
pub made_caused : (config : Config) (seat : ℕ) (ws : List What) (past : List Entry) → IsCausedThroughout config past → AreCaused config past seat ws → IsCausedThroughout config (made_by seat ws past)
made_caused config seat [] past before caused = before
made_caused config seat (w ∷ ws) past before caused = made_caused config seat ws (by_seat seat w ∷ past) (before, caused.0) caused.1

-- a landing has its flight; and the frame of a read that failed is reused for that
landing_caused : (config : Config) (past : List Entry) (seat : ℕ) (page : ℕ → Option Page) (x : Flight) (d : Direction) (o : Outcome) → AreCaused config past seat (landing past page x d o)
landing_caused config past seat page x (reading r) went_well = (tt, tt)
landing_caused config past seat page x (reading r) (went_badly n) = (tt, by (page x.frame))
  where
    by : (o : Option Page) → AreCaused config (by_seat seat (what.InFail (pfn x.frame) x.start (last_count x.block past) n) ∷ past) seat (reuse_of x.frame o)
    by None = tt
    by (Some g) = (inl refl, tt)
landing_caused config past seat page x writing went_well = (tt, tt)
landing_caused config past seat page x writing (went_badly n) = (tt, tt)

pub landed_caused : (config : Config) (seat : ℕ) (flights : List Flight) (outcomes : List Outcome) (past : List Entry) → IsCausedThroughout config past → IsCausedThroughout config (landed_by config seat flights outcomes past)
landed_caused config seat [] outcomes past before = before
landed_caused config seat (x ∷ flights) [] past before = before
landed_caused config seat (x ∷ flights) (o ∷ outcomes) past before =
    let ws = landing past (pager_after config past).page x x.direction o in
    landed_caused config seat flights outcomes (made_by seat ws past) (made_caused config seat ws past before (landing_caused config past seat (pager_after config past).page x x.direction o))
