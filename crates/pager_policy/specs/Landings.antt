-- What the landing of a carrier adds to a journal, by the answers of the blocks. This project's own.
use Rattle.std.specs.Prelude.{ℕ, Bool, true, false, ◌&&◌, List, [], ◌∷◌, Option, Some, None}
use Rattle.vm_types.specs.declared.names.Page.{Page}
use Rattle.vm_types.specs.declared.config.Config.{Config}
use Rattle.vm_journal.specs.declared.entry.Entry.{Entry}
use Rattle.vm_journal.specs.declared.entry.What.{What}
use Rattle.vm_journal.specs.declared.entry.What.TheVariants as what
use Rattle.pager_model.specs.Counted.{last_count}
use Rattle.pager_model.specs.Flights.{Direction, Flight, reading, writing}
use Rattle.pager_policy.specs.Given.{made_by}
use Rattle.pager_model.specs.Maps.{pfn}
use Rattle.pager_model.specs.Run.{pager_after}

-- a block's answer: good, or bad with its count of failures afterwards
pub data Outcome : Type 0 where
  went_well : Outcome
  went_badly : ℕ → Outcome

abbrev pub is_bad_outcome : Outcome → Bool
is_bad_outcome went_well = false
is_bad_outcome (went_badly d) = true

abbrev pub reuse_of : ℕ → Option Page → List What
reuse_of f None = []
reuse_of f (Some g) = what.Reuse (pfn f) g ∷ []

-- the entries of one landing: a failed read is followed by the reuse of its frame
abbrev pub landing : List Entry → (ℕ → Option Page) → Flight → Direction → Outcome → List What
landing past page x (reading r) went_well = what.InOk (pfn x.frame) x.start ∷ []
landing past page x (reading r) (went_badly d) = what.InFail (pfn x.frame) x.start (last_count x.block past) d ∷ reuse_of x.frame (page x.frame)
landing past page x writing went_well = what.OutOk (pfn x.frame) x.start ∷ []
landing past page x writing (went_badly d) = what.OutFail (pfn x.frame) x.start (last_count x.block past) d ∷ []

-- the past after these flights have landed, in order, with these outcomes
abbrev pub landed_by : Config → ℕ → List Flight → List Outcome → List Entry → List Entry
landed_by config seat [] outcomes past = past
landed_by config seat (x ∷ flights) [] past = past
landed_by config seat (x ∷ flights) (o ∷ outcomes) past =
    landed_by config seat flights outcomes (made_by seat (landing past (pager_after config past).page x x.direction o) past)

-- whether every lift failed, and whether the first one did
abbrev pub all_bad : List Outcome → Bool
all_bad [] = true
all_bad (o ∷ outcomes) = is_bad_outcome o && all_bad outcomes

abbrev pub first_bad : List Outcome → Bool
first_bad [] = false
first_bad (o ∷ outcomes) = is_bad_outcome o
