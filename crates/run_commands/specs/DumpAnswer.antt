-- What `dump` answers, by what is seen of the depot before and after. A past is a list of entries, the newest first.
-- Source: this project's own.
use Rattle.std.specs.Prelude.{◌≡◌, ◌⊎◌, ℕ, true, false, List, [], ◌++◌}
use Rattle.vm_types.specs.BlockView.{Retired}
use Rattle.vm_types.specs.Moved.{Moved}
use Rattle.vm_types.specs.declared.config.Config.{Config}
use Rattle.vm_journal.specs.declared.entry.Entry.{Entry}
use Rattle.disk_trait.specs.DepotView.{DepotView}
use Rattle.outside_io.specs.Views.{SourceView}
use Rattle.pager_model.specs.Asked.{IsAsked}
use Rattle.pager_model.specs.Flights.{awaits_reuse, open_flights}
use Rattle.pager_model.specs.Order.{IsAnswered, IsInOrder}
use Rattle.pager_model.specs.Run.{IsRun}
use Rattle.pager_policy.specs.Serial.{IsSerial}
use Rattle.pager_model.specs.Spoken.{IsRight}
use Rattle.pager_laws.specs.Laws.{IsSoundThroughout}
use Rattle.dump_bytes.specs.Text.{dump_text}
use Rattle.dump_laws.specs.DumpAfter.{dump_after}
use Rattle.dump_laws.specs.Laws.{IsSoundDump}
use Rattle.command_ends.specs.Tells.{Tells}
use Rattle.run_commands.specs.Headline.{HasNoBlocks}

-- The run of a configuration up to the report's place, over blocks of the depot.
pub record IsRunToReport (depot : Moved DepotView) (config : Config) (past : List Entry) : Type 0 where
  -- Each entry is a legal step of the pager in the state that the entries before it leave.
  pub legal : IsRun config past
  -- Each reply and each value is that of flat sections at that point, if the blocks' content is known.
  pub right : (depot.before.tells).content ≡ true → IsRight config past
  -- Each process's requests stand once and in its order, and all of them are answered.
  pub in_order : IsInOrder config past
  pub answered : IsAnswered config past
  -- The serial policy makes the entries, and rests at their end, which is the report's place.
  pub made : IsSerial config past
  -- No transfer is open there, and no frame is in read error.
  pub landed : open_flights past ≡ []
  pub reused : awaits_reuse past ≡ false
  -- At the opening and after each entry every frame has one state, with the counts that page tables and pins give.
  pub sound : IsSoundThroughout config past
  -- The depot took these blocks back, after those that it had taken back before.
  pub taken : List Retired
  pub longer : depot.after.retired ≡ depot.before.retired ++ taken
  -- They are the blocks of the configuration, each once. Each transfer of the entries was a call on its block, and no
  -- other call was made.
  pub asked : IsAsked (depot.before.tells).plan config past taken

-- The text is the dump of the state at the report's place of one such run. It keeps the bounds, codes and orders of its
-- layout, and `show` finds nothing wrong in it.
pub record IsDumpedRun (depot : Moved DepotView) (config : Config) (status : ℕ) (text : List ℕ) : Type 0 where
  pub past : List Entry
  pub run : IsRunToReport depot config past
  pub ending : status ≡ 0
  pub bytes : text ≡ dump_text (dump_after config past)
  pub shown : IsSoundDump (dump_after config past)

-- The answer of `dump` to a configuration: that dump, or that a block could not be made.
abbrev pub IsDumpAnswer : Moved DepotView → Config → ℕ → List ℕ → Type 0
IsDumpAnswer depot config status text = IsDumpedRun depot config status text ⊎ HasNoBlocks depot status text

-- What `dump` tells with each status. No block is made for input that is no trace or can't be read.
pub record DumpTells (source : Moved SourceView) (depot : Moved DepotView) (status : ℕ) (text : List ℕ) : Type 0 where
  pub tells : Tells (IsDumpAnswer depot) source.before source.after status text
  pub keeps : (status ≡ 2) ⊎ (status ≡ 3) → depot.after ≡ depot.before
