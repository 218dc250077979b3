-- A run that has ended. A past is a journal's list of entries, the newest first. This project's own.
use Rattle.std.specs.Prelude.{◌≡◌, ◌^◌, ◌≤◌, Bool, true, false, List, [], ◌++◌, length, reverse}
use Rattle.vm_types.specs.BlockView.{Retired, Tells}
use Rattle.vm_types.specs.declared.config.Config.{Config}
use Rattle.vm_types.specs.declared.names.Page.{Page}
use Rattle.vm_journal.specs.declared.entry.Entry.{Entry}
use Rattle.pager_model.specs.Asked.{IsAsked}
use Rattle.pager_model.specs.Maps.{is_private}
use Rattle.pager_model.specs.Order.{IsInOrder}
use Rattle.pager_model.specs.Report.{report_of}
use Rattle.pager_model.specs.Run.{IsRun, pager_after}
use Rattle.pager_policy.specs.Serial.{IsSerial, IsWhole}
use Rattle.pager_model.specs.Spoken.{IsRight}
use Rattle.pager_model.specs.DirtyPages.{dirty_pages}
use Rattle.pager_model.specs.WrittenBack.{AreWrittenBack, NowhereMeansUncharged}
use Rattle.pager_model.specs.Flights.{open_flights}
use Rattle.run_text.specs.Printable.{IsPrintable}
use Rattle.run_record.specs.Tallies.{tallies_of}
use Rattle.policy_ends.specs.Clean.{NoneFailed}
use Rattle.policy_ends.specs.Dirty.{IsDirtyBecause}
use Rattle.serial_run.specs.FewRefusals.{HasFewRefusals, faults_of, refusals}
use Rattle.serial_run.specs.declared.finished.Counted.{Counted}
use Rattle.serial_run.specs.declared.finished.Finished.{Finished}
use Rattle.serial_run.specs.declared.run.Ending.{Ending}
use Rattle.vm_state.specs.History.{History}

-- the entries up to the report's place and those after it are one legal run with right values where the bytes of
-- blocks are known, each process's requests once and in order; every request is answered at the report's place, and the
-- others are the rundown; and each entry has a number
pub record IsWholeRun (tells : Bool) (config : Config) (past rest : List Entry) : Type 0 where
  pub run : IsRun config (rest ++ past)
  pub right : tells ≡ true → IsRight config (rest ++ past)
  pub in_order : IsInOrder config (rest ++ past)
  pub whole : IsWhole config past rest
  pub few : length (rest ++ past) ≤ 2 ^ 48

-- the history is that of a whole run with these entries up to the report's place, no flight is open, and this was read
-- off it
pub record HasEnded (tells : Bool) (past : List Entry) (s : History) (ending : Ending) : Type 0 where
  pub rest : List Entry
  pub all : s.past ≡ rest ++ past
  pub landed : open_flights s.past ≡ []
  pub nowhere : NowhereMeansUncharged s.config (pager_after s.config s.past)
  pub run : IsWholeRun tells s.config past rest
  pub at : ending.at ≡ length past
  pub report : ending.report ≡ report_of s.config past (pager_after s.config past)
  pub printable : IsPrintable s.config.sections ending.report
  pub dirty : (ending.dirty).items ≡ dirty_pages s.config (pager_after s.config (rest ++ past))
  pub clean : NoneFailed rest → dirty_pages s.config (pager_after s.config (rest ++ past)) ≡ []
  pub dirty_because : (g : Page) → is_private g ≡ false → IsDirtyBecause s.config rest (pager_after s.config (rest ++ past)) g

-- the run of a configuration has ended with these entries and left these pages dirty, and these blocks were given
-- back: each block of the configuration once, and counted; where the bytes of blocks are known they are written back;
-- failed transfers have refused few requests; if no block failed, no request was refused and no page left dirty; and a
-- shared page is dirty exactly if its last write in the rundown failed or it is still valid
pub record IsOver (tells : Tells) (config : Config) (taken : List Retired) (dirty : List Page) (past rest : List Entry) : Type 0 where
  pub run : IsWholeRun tells.content config past rest
  pub left : dirty ≡ dirty_pages config (pager_after config (rest ++ past))
  pub asked : IsAsked tells.plan config (rest ++ past) taken
  pub written : AreWrittenBack tells.content config (rest ++ past) taken
  pub few : HasFewRefusals config (rest ++ past) taken
  pub complete : faults_of taken ≡ 0 → (refusals (rest ++ past) ≡ 0) × (dirty ≡ [])
  pub dirty_because : (g : Page) → is_private g ≡ false → IsDirtyBecause config rest (pager_after config (rest ++ past)) g

-- such a run, who made its entries up to the report's place, all its entries, and the report on them
pub record IsFinished (Makes : Config → List Entry → Type 0) (tells : Tells) (config : Config) (taken : List Retired) (f : Finished) : Type 0 where
  pub past : List Entry
  pub rest : List Entry
  pub over : IsOver tells config taken (f.dirty).items past rest
  pub made : Makes config past
  pub same : f.config ≡ config
  pub all : (f.entries).items ≡ reverse (rest ++ past)
  pub at : f.at ≡ length past
  pub report : f.report ≡ report_of config past (pager_after config past)
  pub printable : IsPrintable config.sections f.report

-- such a run by the serial policy, and how many entries it has
pub record IsCounted (tells : Tells) (config : Config) (taken : List Retired) (c : Counted) : Type 0 where
  pub past : List Entry
  pub rest : List Entry
  pub over : IsOver tells config taken (c.dirty).items past rest
  pub made : IsSerial config past
  pub all : c.all ≡ length (rest ++ past)
  pub kinds : c.kinds ≡ tallies_of (reverse (rest ++ past))
