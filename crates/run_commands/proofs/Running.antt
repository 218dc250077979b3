-- What follows from what a command tells that reads a trace and runs it.
use Rattle.std.proofs.Common.{◌≡◌, ℕ, List, ◌++◌, sym, ◌∙◌, refl, subst, arith, inl, inr}
use Rattle.std.specs.Prelude.{◌⊎◌}
use Rattle.std.specs.Io.KnownBytes.{Appends}
use Rattle.vm_types.specs.declared.config.Config.{Config}
use Rattle.vm_types.specs.Moved.{Moved, moved}
use Rattle.vm_types.specs.Counts.{Rose}
use Rattle.vm_journal.specs.declared.entry.Entry.{Entry}
use Rattle.disk_trait.specs.DepotView.{DepotView}
use Rattle.outside_io.specs.Views.{SinkView, SourceView}
use Rattle.pager_model.specs.Run.{pager_after}
use Rattle.pager_model.specs.DirtyPages.{dirty_pages}
use Rattle.command_ends.specs.Tells.{IsTrace, Reads, Tells, answered, faulty, unfinished, unread, no_memory}
use Rattle.command_ends.specs.Concludes.{Concludes}
use Rattle.command_ends.proofs.Concluding.{unfailed_status}
use Rattle.command_ends.proofs.Telling as telling
use Rattle.command_calls.specs.Moves.{HasNoFailure}
use Rattle.command_calls.proofs.Calling.{HasCauses}
use Rattle.run_commands.specs.Headline.{IsFinishedRun, IsRunAnswer, IsServedBy, RunTells}
use Rattle.run_commands.proofs.Finishing.{run_ends}

-- a status of an answer: 0 or 5, or the depot failed and it is 6
abbrev pub HasEnding : DepotView → DepotView → ℕ → Type 0
HasEnding depot depot' status = ((status ≡ 0) ⊎ (status ≡ 5)) ⊎ ((status ≡ 6) × Rose depot.failures depot'.failures)

run_ending : (Makes : Config → List Entry → Type 0) (depot depot' : DepotView) (config : Config) (status : ℕ) (text : List ℕ) → IsRunAnswer (Makes config) (moved depot depot') config status text → HasEnding depot depot' status
run_ending Makes depot depot' config status text (inl run) =
    inl (subst (λ n. (n ≡ 0) ⊎ (n ≡ 5)) (sym run.ending) (run_ends (dirty_pages config (pager_after config (run.rest ++ run.past)))))
run_ending Makes depot depot' config status text (inr none) = inr (none.ending, none.failed)

-- what holds of the status with which a command's text goes
pub record Holds (Input : Type 0) (Done : ℕ → Type 0) (before after : SourceView) (depot depot' : DepotView) (status : ℕ) : Type 0 where
  pub not_four : status ≡ 4 → ⊥
  pub not_one : status ≡ 1 → ⊥
  pub read : status ≡ 3 → Rose before.failures after.failures
  pub made : status ≡ 6 → Rose depot.failures depot'.failures
  pub complete : Input → (Rose before.failures after.failures → ⊥) → (Rose depot.failures depot'.failures → ⊥) → Done status

-- a status of a run, or 7
abbrev pub IsRunStatus : ℕ → Type 0
IsRunStatus status = (status ≡ 0) ⊎ ((status ≡ 5) ⊎ (status ≡ 7))

pub is_run_status : (status : ℕ) → ((status ≡ 0) ⊎ (status ≡ 5)) ⊎ (status ≡ 7) → IsRunStatus status
is_run_status status (inl (inl zero)) = inl zero
is_run_status status (inl (inr five)) = inr (inl five)
is_run_status status (inr seven) = inr (inr seven)

pub six : (depot depot' : DepotView) (status : ℕ) → HasEnding depot depot' status → status ≡ 6 → Rose depot.failures depot'.failures
six depot depot' status (inl (inl zero)) e = absurd (omega (arith, zero, e))
six depot depot' status (inl (inr five)) e = absurd (omega (arith, five, e))
six depot depot' status (inr none) e = none.1

pub unfailed_ending : (depot depot' : DepotView) (status : ℕ) → (Rose depot.failures depot'.failures → ⊥) → HasEnding depot depot' status → (status ≡ 0) ⊎ (status ≡ 5)
unfailed_ending depot depot' status made (inl ran) = ran
unfailed_ending depot depot' status made (inr none) = absurd (made none.1)

module _ (depot depot' : DepotView) {before after : SourceView} (answer : Config → ℕ → List ℕ → Type 0)
    (ending : (config : Config) (status : ℕ) (text : List ℕ) → answer config status text → HasEnding depot depot' status) where
  pub told_made : (status : ℕ) (text : List ℕ) → Tells answer before after status text → status ≡ 6 → Rose depot.failures depot'.failures
  told_made status text (answered config own t outcome quiet reads right) e = six depot depot' status (ending config status text right) e
  told_made status text (faulty n breach quiet shown) e = absurd (omega arith)
  told_made status text (unfinished quiet short) e = absurd (omega arith)
  told_made status text (unread rose faultless) e = absurd (omega arith)
  told_made status text (no_memory quiet) e = absurd (omega arith)

  pub tells_holds : (status : ℕ) (text : List ℕ) → Tells answer before after status text → Holds (IsTrace before) IsRunStatus before after depot depot' status
  tells_holds status text told = record {
    not_four = telling.not_four status text told;
    not_one = telling.not_one status text told;
    read = telling.told_read status text told;
    made = told_made status text told;
    complete = λ trace unfailed made.
        is_run_status status (telling.told_answered (λ m. (m ≡ 0) ⊎ (m ≡ 5)) (λ config n t outcome right. unfailed_ending depot depot' n made (ending config n t right)) status text told trace unfailed);
  }

pub run_holds : (Makes : Config → List Entry → Type 0) {before after : SourceView} {depot depot' : DepotView} (status : ℕ) (text : List ℕ) → RunTells Makes (moved before after) (moved depot depot') status text
    → Holds (IsTrace before) IsRunStatus before after depot depot' status
run_holds Makes {depot = depot} {depot' = depot'} status text told =
    tells_holds depot depot' (λ config. IsRunAnswer (Makes config) (moved depot depot') config) (run_ending Makes depot depot') status text told.tells

-- no text goes with status 4, and with 3 and 6 an end failed
pub causes : (Makes : Config → List Entry → Type 0) {before after : SourceView} {output : Moved SinkView} {depot depot' : DepotView}
    → HasCauses (RunTells Makes) (record { source = moved before after; output = output; depot = moved depot depot' })
causes Makes = record {
  not_four = λ status text told. (run_holds Makes status text told).not_four;
  read = λ status text told. (run_holds Makes status text told).read;
  made = λ status text told. (run_holds Makes status text told).made;
}

-- over a trace, where nothing failed
pub run_complete : (Makes : Config → List Entry → Type 0) {before after : SourceView} {depot depot' : DepotView} {sink sink' : SinkView} {result : ℕ}
    → Concludes (RunTells Makes (moved before after) (moved depot depot')) sink sink' result → IsTrace before
    → HasNoFailure (record { source = moved before after; output = moved sink sink'; depot = moved depot depot' }) → IsRunStatus result
run_complete Makes c trace none =
    subst IsRunStatus (sym (unfailed_status c none.wrote none.took)) ((run_holds Makes c.status c.text c.tells_it).complete trace none.read none.made)

-- ---- with status 0 or 5 the trace was served
abbrev pub IsFinal : ℕ → Type 0
IsFinal status = (status ≡ 0) ⊎ (status ≡ 5)

-- the status is 0 or 5, and another number
pub not_both : (status n : ℕ) → IsFinal status → status ≡ n → (0 ≡ n → ⊥) → (5 ≡ n → ⊥) → ⊥
not_both status n (inl zero) is none five = none (sym zero ∙ is)
not_both status n (inr same) is none five = five (sym same ∙ is)

-- the configuration that was read, and its finished run
pub record HasRun (Makes : Config → List Entry → Type 0) (source : Moved SourceView) (depot : Moved DepotView) (status : ℕ) (text : List ℕ) : Type 0 where
  pub config : Config
  pub read : Reads source.before source.after config
  pub run : IsFinishedRun (Makes config) depot config status text

module _ (Makes : Config → List Entry → Type 0) {source : Moved SourceView} {depot : Moved DepotView} where
  answer_runs : (config : Config) (status : ℕ) (text : List ℕ) → IsFinal status → Reads source.before source.after config → IsRunAnswer (Makes config) depot config status text
      → HasRun Makes source depot status text
  answer_runs config status text ends read (inl run) = record { config = config; read = read; run = run }
  answer_runs config status text ends read (inr none) = absurd (not_both status 6 ends none.ending (λ e. omega (arith, e)) (λ e. omega (arith, e)))

  pub tells_run : (status : ℕ) (text : List ℕ) → Tells (λ config. IsRunAnswer (Makes config) depot config) source.before source.after status text → IsFinal status → HasRun Makes source depot status text
  tells_run status text (answered config own t outcome quiet reads right) ends = answer_runs config status text ends reads right
  tells_run status text (faulty n breach quiet shown) ends = absurd (not_both 2 2 ends refl (λ e. omega (arith, e)) (λ e. omega (arith, e)))
  tells_run status text (unfinished quiet short) ends = absurd (not_both 2 2 ends refl (λ e. omega (arith, e)) (λ e. omega (arith, e)))
  tells_run status text (unread rose faultless) ends = absurd (not_both 3 3 ends refl (λ e. omega (arith, e)) (λ e. omega (arith, e)))
  tells_run status text (no_memory quiet) ends = absurd (not_both 7 7 ends refl (λ e. omega (arith, e)) (λ e. omega (arith, e)))

  pub is_served : {sink : Moved SinkView} (status : ℕ) (text : List ℕ) → HasRun Makes source depot status text → Appends sink.before.taken sink.after.taken text
      → IsServedBy Makes source depot sink status
  is_served status text ran taken = record { config = ran.config; read = ran.read; text = text; run = ran.run; taken = taken }
