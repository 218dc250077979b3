-- The laws of content along runs, as statements: they tie the bytes in buffers and blocks to the flat machine's.
-- This project's own.
use Rattle.std.specs.Prelude.{◌≡◌, ℕ, Bool, true, false, List, [], ◌∷◌, Option, Some}
use Rattle.vm_types.specs.BlockView.{BlockView}
use Rattle.vm_types.specs.Configuration.{IsBlock, IsWellFormed}
use Rattle.vm_types.specs.declared.names.Page.{Page}
use Rattle.vm_types.specs.declared.names.Pfn.{Pfn}
use Rattle.vm_types.specs.declared.names.BlockId.{BlockId}
use Rattle.vm_types.specs.declared.names.Seat.{Seat}
use Rattle.vm_types.specs.declared.config.Config.{Config}
use Rattle.vm_types.specs.declared.reference.Ref.{Ref}
use Rattle.vm_types.specs.declared.reply.Reply.{Reply}
use Rattle.vm_journal.specs.declared.entry.Entry.{Entry}
use Rattle.vm_journal.specs.declared.entry.Role.{Role}
use Rattle.vm_journal.specs.declared.entry.What.TheVariants as what
use Rattle.content_laws.specs.Begun.{read_lift, write_lift}
use Rattle.content_laws.specs.Carried.{IsCarriedBadly, IsCarriedWell, carried_as}
use Rattle.content_laws.specs.Moved.{FindsBytes, Moves}
use Rattle.content_laws.specs.Opening.{HasNewBuffers, HasNewHomes}
use Rattle.pager_model.specs.Content.{ContentFits}
use Rattle.pager_model.specs.Counted.{IsCounted}
use Rattle.pager_model.specs.Fits.{FitsLift, Lift, bad, good, waiting}
use Rattle.pager_model.specs.Flat.{flat_reply, offset_in_page, reply_from}
use Rattle.pager_model.specs.Flights.{awaits_reuse, open_flights}
use Rattle.pager_model.specs.Opening.{opening}
use Rattle.pager_model.specs.Run.{IsRun, pager_after}
use Rattle.pager_model.specs.Spoken.{flat_after}
use Rattle.pager_model.specs.CountedBlock.{IsCountedBlock}
use Rattle.pager_model.specs.WrittenBack.{HasFirstBytes, IsWrittenBack, NowhereMeansUncharged}

-- content fits at the opening, whatever bytes the buffers and the blocks of the page file and of swapping have
abbrev pub ContentOpens : Type 0
ContentOpens =
    (tells tells_plan : Bool) (config : Config) (buffer : ℕ → Option (List ℕ)) (home : BlockId → Option BlockView)
    → HasNewBuffers config buffer → HasNewHomes tells tells_plan config home → ContentFits tells tells_plan config [] (opening config) buffer home

-- content that fits still does after any legal entry of any seat, with what the entry moves
abbrev pub ContentStays : Type 0
ContentStays =
    (tells tells_plan : Bool) (config : Config) (past : List Entry) (e : Entry) (buffer buffer' : ℕ → Option (List ℕ)) (home home' : BlockId → Option BlockView)
    → IsWellFormed config → IsRun config (e ∷ past) → Moves tells tells_plan config past (pager_after config past) (e.seat).0 e.what buffer buffer' home home'
    → ContentFits tells tells_plan config past (pager_after config past) buffer home → ContentFits tells tells_plan config (e ∷ past) (pager_after config (e ∷ past)) buffer' home'

-- if the bytes of blocks are known, what a legal reference reads from the buffer is the flat reply
abbrev pub DoneIsRight : Type 0
DoneIsRight =
    (tells tells_plan : Bool) (config : Config) (past : List Entry) (seat : Seat) (r : Ref) (answer : Reply) (buffer : ℕ → Option (List ℕ)) (home : BlockId → Option BlockView) (bytes : List ℕ)
    → IsWellFormed config → IsRun config (record { seat = seat; what = what.Done r answer } ∷ past) → FindsBytes (pager_after config past) seat.0 r buffer bytes
    → ContentFits tells tells_plan config past (pager_after config past) buffer home → tells ≡ true
    → reply_from r.op bytes (offset_in_page r) ≡ flat_reply config (flat_after config past) seat.0 r

-- the lift of a read that has just begun fits, whatever its buffer has
abbrev pub ReadBegins : Type 0
ReadBegins =
    (tells tells_plan : Bool) (config : Config) (past : List Entry) (seat : Seat) (f : Pfn) (b : BlockId) (r : Role) (page : Page) (bytes : List ℕ) (seen : BlockView) (buffer : ℕ → Option (List ℕ)) (home : BlockId → Option BlockView)
    → IsWellFormed config → IsRun config (record { seat = seat; what = what.In f b r } ∷ past) → (pager_after config (record { seat = seat; what = what.In f b r } ∷ past)).page f.0 ≡ Some page → home b ≡ Some seen
    → ContentFits tells tells_plan config past (pager_after config past) buffer home
    → FitsLift tells tells_plan config (record { seat = seat; what = what.In f b r } ∷ past) (pager_after config (record { seat = seat; what = what.In f b r } ∷ past)) (read_lift past f.0 b page bytes seen)

-- the lift of a write that has just begun fits, with the bytes of the frame's buffer
abbrev pub WriteBegins : Type 0
WriteBegins =
    (tells tells_plan : Bool) (config : Config) (past : List Entry) (seat : Seat) (f : Pfn) (b : BlockId) (page : Page) (bytes : List ℕ) (seen : BlockView) (buffer : ℕ → Option (List ℕ)) (home : BlockId → Option BlockView)
    → IsWellFormed config → IsRun config (record { seat = seat; what = what.Out f b } ∷ past) → (pager_after config past).page f.0 ≡ Some page → buffer f.0 ≡ Some bytes → home b ≡ Some seen
    → ContentFits tells tells_plan config past (pager_after config past) buffer home
    → FitsLift tells tells_plan config (record { seat = seat; what = what.Out f b } ∷ past) (pager_after config (record { seat = seat; what = what.Out f b } ∷ past)) (write_lift past f.0 b page bytes seen)

-- a lift that fits still fits after its block's call went well
abbrev pub CarriedWellFits : Type 0
CarriedWellFits =
    (tells tells_plan : Bool) (config : Config) (past : List Entry) (lift : Lift) (bytes : List ℕ) (seen : BlockView)
    → FitsLift tells tells_plan config past (pager_after config past) lift → lift.result ≡ waiting → IsCarriedWell tells lift bytes seen
    → FitsLift tells tells_plan config past (pager_after config past) (carried_as lift bytes seen good)

-- and after it failed
abbrev pub CarriedBadlyFits : Type 0
CarriedBadlyFits =
    (tells tells_plan : Bool) (config : Config) (past : List Entry) (lift : Lift) (bytes : List ℕ) (seen : BlockView)
    → FitsLift tells tells_plan config past (pager_after config past) lift → lift.result ≡ waiting → IsCarriedBadly tells lift bytes seen
    → FitsLift tells tells_plan config past (pager_after config past) (carried_as lift bytes seen (bad (lift.seen).faults seen.faults))

-- a lift that was carried badly shows its block's last count of failures, and a greater one
abbrev pub BadIsCounted : Type 0
BadIsCounted =
    (tells tells_plan : Bool) (config : Config) (past : List Entry) (lift : Lift) (c d : ℕ)
    → FitsLift tells tells_plan config past (pager_after config past) lift → lift.result ≡ bad c d → IsCounted past lift.block c d

-- when no flight is open each block is home and counted
abbrev pub BlocksAreHome : Type 0
BlocksAreHome =
    (tells tells_plan : Bool) (config : Config) (past : List Entry) (buffer : ℕ → Option (List ℕ)) (home : BlockId → Option BlockView)
    → open_flights past ≡ [] → ContentFits tells tells_plan config past (pager_after config past) buffer home
    → (b : BlockId) → IsBlock config b → (seen : BlockView) × (home b ≡ Some seen) × IsCountedBlock tells_plan config past b seen

-- when no flight is open and no frame awaits its reuse, a page of a section in the page file that lies nowhere and
-- isn't dirty was never charged
abbrev pub NowhereIsUncharged : Type 0
NowhereIsUncharged =
    (config : Config) (past : List Entry) → IsWellFormed config → IsRun config past → open_flights past ≡ [] → awaits_reuse past ≡ false → NowhereMeansUncharged config (pager_after config past)

-- if the bytes of blocks are known, and no flight is open, shared pages that aren't dirty are written back, and the
-- blocks of copy on reference sections have their first bytes
abbrev pub BlocksAreWrittenBack : Type 0
BlocksAreWrittenBack =
    (tells tells_plan : Bool) (config : Config) (past : List Entry) (buffer : ℕ → Option (List ℕ)) (home : BlockId → Option BlockView) (b : BlockId) (seen : BlockView)
    → IsWellFormed config → IsRun config past → open_flights past ≡ [] → tells ≡ true → ContentFits tells tells_plan config past (pager_after config past) buffer home → home b ≡ Some seen
    → IsWrittenBack config past (record { block = b; seen = seen }) × HasFirstBytes config (record { block = b; seen = seen })
