-- The headline: what `serial` answers, and what its status 0 means. Each definition stands on those above it, and the
-- last one is the headline. A past is a list of entries, the newest first. Source: this project's own.
use Rattle.std.specs.Prelude.{◌≡◌, ◌⊎◌, ℕ, true, false, List, [], ◌++◌, length, nat_eq, Some, IfSome, if◌then◌else◌}
use Rattle.std.specs.Io.KnownBytes.{Appends}
use Rattle.vm_types.specs.BlockView.{Retired}
use Rattle.vm_types.specs.Moved.{Moved}
use Rattle.vm_types.specs.Counts.{Rose}
use Rattle.vm_types.specs.declared.names.Page.{Page}
use Rattle.vm_types.specs.declared.config.Config.{Config}
use Rattle.vm_journal.specs.declared.entry.Entry.{Entry}
use Rattle.disk_trait.specs.DepotView.{DepotView}
use Rattle.outside_io.specs.Views.{SinkView, SourceView}
use Rattle.pager_model.specs.Asked.{IsAsked}
use Rattle.pager_model.specs.Maps.{is_private}
use Rattle.pager_model.specs.Order.{IsInOrder}
use Rattle.pager_model.specs.Run.{IsRun, pager_after}
use Rattle.pager_policy.specs.Serial.{IsSerial, IsWhole}
use Rattle.pager_model.specs.Spoken.{IsRight}
use Rattle.run_words.specs.Text.{run_text, status_line}
use Rattle.pager_model.specs.DirtyPages.{dirty_pages}
use Rattle.pager_model.specs.WrittenBack.{AreWrittenBack}
use Rattle.pager_laws.specs.Laws.{IsSoundThroughout}
use Rattle.entry_causes.specs.Caused.{IsCausedThroughout}
use Rattle.command_ends.specs.Tells.{Tells}
use Rattle.policy_ends.specs.Dirty.{IsDirtyBecause}
use Rattle.serial_run.specs.FewRefusals.{HasFewRefusals, faults_of, refusals}
use Rattle.trace_reader.specs.Meaning.{Configuration, trace_of}

-- The run of a configuration is over. `past` are its entries up to the report, `rest` those after it, and `Makes`
-- says who made those up to the report.
pub record IsRunOver (Makes : List Entry → Type 0) (depot : Moved DepotView) (config : Config) (past rest : List Entry) : Type 0 where
  -- Each entry is a legal step of the pager in the state that the entries before it leave.
  pub legal : IsRun config (rest ++ past)
  -- Each reply and each value is that of flat sections at that point, if the blocks' content is known.
  pub right : (depot.before.tells).content ≡ true → IsRight config (rest ++ past)
  -- Each process's requests stand once and in its order.
  pub in_order : IsInOrder config (rest ++ past)
  -- At the report each request is answered, and the entries after it are the rundown.
  pub whole : IsWhole config past rest
  pub made : Makes past
  -- Nothing is done without a cause: each entry has its cause in the entries before it.
  pub caused : IsCausedThroughout config (rest ++ past)
  -- At the opening and after each entry every frame has one state, with the counts that page tables and
  -- pins give.
  pub sound : IsSoundThroughout config (rest ++ past)
  -- The depot took these blocks back, after those that it had taken back before.
  pub taken : List Retired
  pub longer : depot.after.retired ≡ depot.before.retired ++ taken
  -- They are the blocks of the configuration, each once. Each transfer of the entries was a call on its block, and no
  -- other call was made.
  pub asked : IsAsked (depot.before.tells).plan config (rest ++ past) taken
  -- One failed transfer of a process's seat refuses at most one request, and each failed transfer is a failure of a block.
  pub few : HasFewRefusals config (rest ++ past) taken
  -- If no block failed, no request was refused for a failed transfer and no page is left dirty.
  pub complete : faults_of taken ≡ 0 → (refusals (rest ++ past) ≡ 0) × (dirty_pages config (pager_after config (rest ++ past)) ≡ [])
  -- A shared page is left dirty exactly if the last write of its frame in the rundown failed, or it is still valid in
  -- a slot of some process.
  pub dirty_because : (g : Page) → is_private g ≡ false → IsDirtyBecause config rest (pager_after config (rest ++ past)) g
  -- If the blocks' content is known, each block in which a shared page lies has that page's bytes, unless the page
  -- is left dirty, and each block of a copy on reference section has its first bytes. A shared page that lies nowhere
  -- and isn't left dirty was never charged.
  pub written : AreWrittenBack (depot.before.tells).content config (rest ++ past) taken

-- The status of a run: 5 if it left a shared page dirty, and else 0.
abbrev pub finished_status : Config → List Entry → ℕ
finished_status config past = if nat_eq (length (dirty_pages config (pager_after config past))) 0 then 0 else 5

-- The text of one finished run: a line for each entry up to the report, the report, a line for each entry after
-- it, a line for each page left dirty, and the status line.
pub record IsFinishedRun (Makes : List Entry → Type 0) (depot : Moved DepotView) (config : Config) (status : ℕ) (text : List ℕ) : Type 0 where
  pub past : List Entry
  pub rest : List Entry
  pub over : IsRunOver Makes depot config past rest
  pub ending : status ≡ finished_status config (rest ++ past)
  pub lines : text ≡ run_text config past rest status

-- A block could not be made, for the depot failed: the text is the status line alone.
pub record HasNoBlocks (depot : Moved DepotView) (status : ℕ) (text : List ℕ) : Type 0 where
  pub ending : status ≡ 6
  pub lines : text ≡ status_line 6
  pub failed : Rose depot.before.failures depot.after.failures

-- The answer to a configuration: a finished run of it, or that a block could not be made.
abbrev pub IsRunAnswer : (List Entry → Type 0) → Moved DepotView → Config → ℕ → List ℕ → Type 0
IsRunAnswer Makes depot config status text = IsFinishedRun Makes depot config status text ⊎ HasNoBlocks depot status text

-- The answer of `serial`: the serial policy makes the entries up to the report.
abbrev pub IsSerialAnswer : Moved DepotView → Config → ℕ → List ℕ → Type 0
IsSerialAnswer depot config = IsRunAnswer (IsSerial config) depot config

-- What a command that reads a trace and runs it tells with each status; `Makes` says who made the entries up to the
-- report. No block is made for input that is no trace or can't be read.
pub record RunTells (Makes : Config → List Entry → Type 0) (source : Moved SourceView) (depot : Moved DepotView) (status : ℕ) (text : List ℕ) : Type 0 where
  pub tells : Tells (λ config. IsRunAnswer (Makes config) depot config) source.before source.after status text
  pub keeps : (status ≡ 2) ⊎ (status ≡ 3) → depot.after ≡ depot.before

abbrev pub SerialTells : Moved SourceView → Moved DepotView → ℕ → List ℕ → Type 0
SerialTells source depot status text = RunTells IsSerial source depot status text

-- What status 0 of such a command means; with status 5 it is the same, and pages are left dirty.
pub record IsServedBy (Makes : Config → List Entry → Type 0) (source : Moved SourceView) (depot : Moved DepotView) (sink : Moved SinkView) (status : ℕ) : Type 0 where
  -- The source's bytes, if they are known, stand for this configuration, and all of them were read.
  pub config : Config
  pub read : IfSome source.before.left (λ bytes. (trace_of bytes ≡ Configuration config) × (source.after.left ≡ Some []))
  -- This is the text of one finished run of the configuration over blocks of the depot.
  pub text : List ℕ
  pub run : IsFinishedRun (Makes config) depot config status text
  -- The sink has taken it.
  pub taken : Appends sink.before.taken sink.after.taken text

-- The headline of `serial`: the run is that of the serial policy.
abbrev pub IsSerialServed : Moved SourceView → Moved DepotView → Moved SinkView → ℕ → Type 0
IsSerialServed source depot sink status = IsServedBy IsSerial source depot sink status
