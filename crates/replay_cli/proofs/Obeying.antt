-- What follows from what the program tells.
use Rattle.std.proofs.Common.{◌≡◌, ◌≢◌, ℕ, List, [], ◌∷◌, codes, refl, sym, ◌∙◌, subst, arith, inl, inr}
use Rattle.std.specs.Prelude.{◌⊎◌, None}
use Rattle.std.proofs.Math.Nat.{le_refl}
use Rattle.disk_trait.specs.DepotView.{DepotView}
use Rattle.vm_types.specs.Moved.{Moved, moved}
use Rattle.vm_types.specs.Counts.{Rose}
use Rattle.outside_io.specs.Views.{SinkView, SourceView}
use Rattle.pager_policy.specs.Serial.{IsSerial}
use Rattle.run_words.specs.Text.{status_line}
use Rattle.command_ends.specs.Ends.{Ends}
use Rattle.command_ends.proofs.Concluding.{its_status, unfailed_status}
use Rattle.command_ends.proofs.Wronging.{one_right, seven_right}
use Rattle.command_calls.specs.CommandCall.{IsCommandCall, WithWrong}
use Rattle.command_calls.specs.Moves.{HasNoFailure}
use Rattle.command_calls.proofs.Calling.{HasCauses, is_call, said_causes}
use Rattle.check_command.specs.CheckTells.{CheckTells, HasCheckInput}
use Rattle.check_command.proofs.Telling as checking
use Rattle.study_command.specs.StudyText.{IsStudyAnswer}
use Rattle.show_command.specs.ShowTells.{HasDump, ShowTells}
use Rattle.show_command.proofs.Showing as showing
use Rattle.run_commands.proofs.Dumping.{told_by_dump}
use Rattle.run_commands.proofs.Making.{told_by_make}
use Rattle.replay_run.specs.Replayed.{HasWorkedAfterAnswers}
use Rattle.run_commands.proofs.Running.{HasEnding, Holds, run_holds, tells_holds}
use Rattle.replay_cli.specs.Commands.{Asks, HasInput, HasOptionWords, IsDoneStatus, Obeys, Offers, Told, way_of, usage, unread_options, obeyed}
use Rattle.replay_cli.specs.declared.ways.Way.{Way}
use Rattle.replay_cli.specs.declared.ways.Way.TheVariants.{One, Many}
use Rattle.replay_cli.specs.declared.words.Command.{Command}
use Rattle.replay_cli.specs.declared.words.Command.TheVariants.{Serial, Replay, Study, Make as MakeCommand, Check, Dump, Show}
use Rattle.replay_cli.proofs.Asking.{head_apart, shorter}

study_ending : (depot depot' : DepotView) (status : ℕ) → status ≡ 0 → HasEnding depot depot' status
study_ending depot depot' status zero = inl (inl zero)

-- the word with which the words of a command begin
abbrev pub name_of : Command → List ℕ
name_of Serial = codes "serial"
name_of Replay = codes "replay"
name_of (Study s) = codes "study"
name_of (MakeCommand m) = codes "make"
name_of Check = codes "check"
name_of Dump = codes "dump"
name_of Show = codes "show"

begins_with : (words : List (List ℕ)) (command : Command) → Asks words command → (rest : List (List ℕ)) × (words ≡ name_of command ∷ rest)
begins_with words Serial asks = ([], asks)
begins_with words Replay asks = ([], asks)
begins_with words (Study s) asks = (asks.0, asks.1)
begins_with words (MakeCommand m) asks = (asks.0, asks.1)
begins_with words Check asks = ([], asks)
begins_with words Dump asks = ([], asks)
begins_with words Show asks = ([], asks)

pub same_name : (words : List (List ℕ)) (one two : Command) → Asks words one → Asks words two → name_of one ≡ name_of two
same_name words one two a b = first (sym (begins_with words one a).1 ∙ (begins_with words two b).1) where
  first : {x y : List ℕ} {xs ys : List (List ℕ)} → x ∷ xs ≡ y ∷ ys → x ≡ y
  first e = cc

-- of commands for which the same words ask the input of the first is that of the second, and what is done of the
-- second is done of the first
record AreSame (before : SourceView) (one two : Command) : Type 0 where
  input : HasInput one before → HasInput two before
  done : (status : ℕ) → IsDoneStatus two status → IsDoneStatus one status

same_by : (before : SourceView) (one two : Command) → name_of one ≡ name_of two → AreSame before one two
same_by before Serial Serial e = record { input = λ i. i; done = λ status d. d }
same_by before Serial Replay e = absurd (head_apart 115 114 e (λ n. omega (arith, n)))
same_by before Serial (Study n) e = absurd (shorter e (λ n. omega (arith, n)))
same_by before Serial (MakeCommand n) e = absurd (shorter e (λ n. omega (arith, n)))
same_by before Serial Check e = absurd (shorter e (λ n. omega (arith, n)))
same_by before Serial Dump e = absurd (shorter e (λ n. omega (arith, n)))
same_by before Serial Show e = absurd (shorter e (λ n. omega (arith, n)))
same_by before Replay Serial e = absurd (head_apart 114 115 e (λ n. omega (arith, n)))
same_by before Replay Replay e = record { input = λ i. i; done = λ status d. d }
same_by before Replay (Study n) e = absurd (shorter e (λ n. omega (arith, n)))
same_by before Replay (MakeCommand n) e = absurd (shorter e (λ n. omega (arith, n)))
same_by before Replay Check e = absurd (shorter e (λ n. omega (arith, n)))
same_by before Replay Dump e = absurd (shorter e (λ n. omega (arith, n)))
same_by before Replay Show e = absurd (shorter e (λ n. omega (arith, n)))
same_by before (Study m) Serial e = absurd (shorter e (λ n. omega (arith, n)))
same_by before (Study m) Replay e = absurd (shorter e (λ n. omega (arith, n)))
same_by before (Study m) (Study n) e = record { input = λ i. i; done = λ status d. d }
same_by before (Study m) (MakeCommand n) e = absurd (shorter e (λ n. omega (arith, n)))
same_by before (Study m) Check e = absurd (head_apart 115 99 e (λ n. omega (arith, n)))
same_by before (Study m) Dump e = absurd (shorter e (λ n. omega (arith, n)))
same_by before (Study m) Show e = absurd (shorter e (λ n. omega (arith, n)))
same_by before (MakeCommand m) Serial e = absurd (shorter e (λ n. omega (arith, n)))
same_by before (MakeCommand m) Replay e = absurd (shorter e (λ n. omega (arith, n)))
same_by before (MakeCommand m) (Study n) e = absurd (shorter e (λ n. omega (arith, n)))
same_by before (MakeCommand m) (MakeCommand n) e = record { input = λ i. i; done = λ status d. d }
same_by before (MakeCommand m) Check e = absurd (shorter e (λ n. omega (arith, n)))
same_by before (MakeCommand m) Dump e = absurd (head_apart 109 100 e (λ n. omega (arith, n)))
same_by before (MakeCommand m) Show e = absurd (head_apart 109 115 e (λ n. omega (arith, n)))
same_by before Check Serial e = absurd (shorter e (λ n. omega (arith, n)))
same_by before Check Replay e = absurd (shorter e (λ n. omega (arith, n)))
same_by before Check (Study n) e = absurd (head_apart 99 115 e (λ n. omega (arith, n)))
same_by before Check (MakeCommand n) e = absurd (shorter e (λ n. omega (arith, n)))
same_by before Check Check e = record { input = λ i. i; done = λ status d. d }
same_by before Check Dump e = absurd (shorter e (λ n. omega (arith, n)))
same_by before Check Show e = absurd (shorter e (λ n. omega (arith, n)))
same_by before Dump Serial e = absurd (shorter e (λ n. omega (arith, n)))
same_by before Dump Replay e = absurd (shorter e (λ n. omega (arith, n)))
same_by before Dump (Study n) e = absurd (shorter e (λ n. omega (arith, n)))
same_by before Dump (MakeCommand n) e = absurd (head_apart 100 109 e (λ n. omega (arith, n)))
same_by before Dump Check e = absurd (shorter e (λ n. omega (arith, n)))
same_by before Dump Dump e = record { input = λ i. i; done = λ status d. d }
same_by before Dump Show e = absurd (head_apart 100 115 e (λ n. omega (arith, n)))
same_by before Show Serial e = absurd (shorter e (λ n. omega (arith, n)))
same_by before Show Replay e = absurd (shorter e (λ n. omega (arith, n)))
same_by before Show (Study n) e = absurd (shorter e (λ n. omega (arith, n)))
same_by before Show (MakeCommand n) e = absurd (head_apart 115 109 e (λ n. omega (arith, n)))
same_by before Show Check e = absurd (shorter e (λ n. omega (arith, n)))
same_by before Show Dump e = absurd (head_apart 115 100 e (λ n. omega (arith, n)))
same_by before Show Show e = record { input = λ i. i; done = λ status d. d }

same : (words : List (List ℕ)) (before : SourceView) (one two : Command) → Asks words one → Asks words two → AreSame before one two
same words before one two a b = same_by before one two (same_name words one two a b)

no_way : Many ≡ One → ⊥
no_way e = cc

-- words that ask for `replay` ask for no command on one thread
only_replay : (words : List (List ℕ)) (command : Command) → Asks words Replay → Asks words command → Offers One command → ⊥
only_replay words command replay asks offers = by command (same_name words command Replay asks replay) offers where
  by : (command : Command) → name_of command ≡ codes "replay" → Offers One command → ⊥
  by Serial e offers = head_apart 115 114 e (λ n. omega (arith, n))
  by Replay e offers = no_way offers
  by (Study n) e offers = shorter e (λ n. omega (arith, n))
  by (MakeCommand n) e offers = shorter e (λ n. omega (arith, n))
  by Check e offers = shorter e (λ n. omega (arith, n))
  by Dump e offers = shorter e (λ n. omega (arith, n))
  by Show e offers = shorter e (λ n. omega (arith, n))

pub many_is_replay : (command : Command) → Many ≡ way_of command → command ≡ Replay
many_is_replay command e = by command e where
  by : (command : Command) → Many ≡ way_of command → command ≡ Replay
  by Serial e = absurd (no_way e)
  by Replay e = refl
  by (Study n) e = absurd (no_way e)
  by (MakeCommand n) e = absurd (no_way e)
  by Check e = absurd (no_way e)
  by Dump e = absurd (no_way e)
  by Show e = absurd (no_way e)

module _ {before after : SourceView} {depot depot' : DepotView} where
  told_by_check : (status : ℕ) (text : List ℕ) → CheckTells before after status text → Holds (HasCheckInput before) (IsDoneStatus Check) before after depot depot' status
  told_by_check status text told = record {
    not_four = checking.not_four status text told;
    not_one = checking.not_one status text told;
    read = checking.told_read status text told;
    made = λ e. absurd (checking.not_six status text told e);
    complete = λ input unfailed failed. checking.told_complete status text told input unfailed;
  }

  told_by_show : (status : ℕ) (text : List ℕ) → ShowTells before after status text → Holds (HasDump before) (IsDoneStatus Show) before after depot depot' status
  told_by_show status text told = record {
    not_four = showing.not_four status text told;
    not_one = showing.not_one status text told;
    read = showing.told_read status text told;
    made = λ e. absurd (showing.not_six status text told e);
    complete = λ input unfailed failed. showing.told_whole status text told input unfailed;
  }

module _ {before after : SourceView} {depot depot' : DepotView} where
  obeys_holds : (command : Command) (status : ℕ) (text : List ℕ) → Obeys command (moved before after) (moved depot depot') status text
      → Holds (HasInput command before) (IsDoneStatus command) before after depot depot' status
  obeys_holds Serial status text obeys = run_holds IsSerial status text obeys
  obeys_holds Replay status text obeys = run_holds HasWorkedAfterAnswers status text obeys
  obeys_holds (Study study) status text obeys = tells_holds depot depot' (IsStudyAnswer study) (λ config n t answer. study_ending depot depot' n answer.0) status text obeys.0
  obeys_holds (MakeCommand make) status text obeys = told_by_make make status text obeys.0
  obeys_holds Check status text obeys = told_by_check status text obeys.0
  obeys_holds Dump status text obeys = told_by_dump status text obeys.tells
  obeys_holds Show status text obeys = told_by_show status text obeys.0

-- each command may end for want of memory
memory_ends : (command : Command) → IsDoneStatus command 7
memory_ends Serial = inr (inr refl)
memory_ends Replay = inr (inr refl)
memory_ends (Study study) = inr (inr refl)
memory_ends (MakeCommand make) = inr (inr refl)
memory_ends Check = inr (inr refl)
memory_ends Dump = inr refl
memory_ends Show = inr refl

module _ {way : Way} {words : List (List ℕ)} {before after : SourceView} {depot depot' : DepotView} where
  -- no text goes with status 4, and with 3 and 6 an end failed
  not_four : (status : ℕ) (text : List ℕ) → Told way words (moved before after) (moved depot depot') status text → status ≢ 4
  not_four status text (usage other same kept) e = absurd (omega arith)
  not_four status text (unread_options begin same kept) e = absurd (omega arith)
  not_four status text (obeyed command n t asks offers obeys) e = (obeys_holds command n t obeys).not_four e

  told_read : (status : ℕ) (text : List ℕ) → Told way words (moved before after) (moved depot depot') status text → status ≡ 3 → Rose before.failures after.failures
  told_read status text (usage other same kept) e = absurd (omega arith)
  told_read status text (unread_options begin same kept) e = absurd (omega arith)
  told_read status text (obeyed command n t asks offers obeys) e = (obeys_holds command n t obeys).read e

  told_depot : (status : ℕ) (text : List ℕ) → Told way words (moved before after) (moved depot depot') status text → status ≡ 6 → Rose depot.failures depot'.failures
  told_depot status text (usage other same kept) e = absurd (omega arith)
  told_depot status text (unread_options begin same kept) e = absurd (omega arith)
  told_depot status text (obeyed command n t asks offers obeys) e = (obeys_holds command n t obeys).made e

  pub causes : {output : Moved SinkView} → HasCauses (Told way words) (record { source = moved before after; output = output; depot = moved depot depot' })
  causes = record { not_four = not_four; read = told_read; made = told_depot }

  -- with status 1 the words ask for nothing
  told_usage : (status : ℕ) (text : List ℕ) → Told way words (moved before after) (moved depot depot') status text → status ≡ 1 → (command : Command) → Asks words command → Offers way command → ⊥
  told_usage status text (usage other same kept) e = other
  told_usage status text (unread_options begin same kept) e = absurd (omega (arith, e))
  told_usage status text (obeyed command n t asks offers obeys) e = absurd ((obeys_holds command n t obeys).not_one e)

  told_one : (status : ℕ) (text : List ℕ) → Told way words (moved before after) (moved depot depot') status text → ((command : Command) → Asks words command → Offers way command → ⊥) → (status ≡ 1) ⊎ (HasOptionWords words × (status ≡ 7))
  told_one status text (usage other same kept) bad = inl refl
  told_one status text (unread_options begin same kept) bad = inr (begin, refl)
  told_one status text (obeyed command n t asks offers obeys) bad = absurd (bad command asks offers)

  told_complete : (status : ℕ) (text : List ℕ) → Told way words (moved before after) (moved depot depot') status text → (command : Command) → Asks words command → Offers way command → HasInput command before
      → (Rose before.failures after.failures → ⊥) → (Rose depot.failures depot'.failures → ⊥) → IsDoneStatus command status
  told_complete status text (usage other same_source kept) command asks offers input unfailed made = absurd (other command asks offers)
  told_complete status text (unread_options begin same_source kept) command asks offers input unfailed made = memory_ends command
  told_complete status text (obeyed own n t own_asks own_offers obeys) command asks offers input unfailed made =
      let are = same words before command own asks own_asks in are.done n ((obeys_holds own n t obeys).complete (are.input input) unfailed made)

  -- the same of the status that is answered
  module _ {sink sink' : SinkView} {result : ℕ} (call : IsCommandCall (Told way words) (record { source = moved before after; output = moved sink sink'; depot = moved depot depot' }) result) where
    pub usage_status : ((command : Command) → Asks words command → Offers way command → ⊥) → (result ≡ 1) ⊎ ((result ≡ 4) ⊎ (HasOptionWords words × (result ≡ 7)))
    usage_status bad = elim (its_status call.outcome) [
      | inl is ↦ elim (told_one call.outcome.status call.outcome.text call.outcome.tells_it bad) [
        | inl one ↦ inl (is ∙ one)
        | inr memory ↦ inr (inr (memory.0, is ∙ memory.1))
      ]
      | inr four ↦ inr (inl four)
    ]

    pub no_usage_status : result ≡ 1 → (command : Command) → Asks words command → Offers way command → ⊥
    no_usage_status one = elim (its_status call.outcome) [
      | inl is ↦ told_usage call.outcome.status call.outcome.text call.outcome.tells_it (sym is ∙ one)
      | inr four ↦ absurd (omega (arith, one, four))
    ]

    pub complete_status : (command : Command) → Asks words command → Offers way command → HasInput command before → HasNoFailure (record { source = moved before after; output = moved sink sink'; depot = moved depot depot' }) → IsDoneStatus command result
    complete_status command asks offers input none =
        subst (IsDoneStatus command) (sym (unfailed_status call.outcome none.wrote none.took)) (told_complete call.outcome.status call.outcome.text call.outcome.tells_it command asks offers input none.read none.made)

-- ---- calls that run no command
module _ {way : Way} {words : List (List ℕ)} {source : SourceView} {sink sink' : SinkView} {depot : DepotView} {result : ℕ} where
  -- memory ran out while options were read
  pub no_memory_call : HasOptionWords words → Ends sink sink' 7 (status_line 7) result → IsCommandCall (WithWrong (Told way words) None) (record { source = moved source source; output = moved sink sink'; depot = moved depot depot }) result
  no_memory_call begin ends =
      is_call (said_causes None causes) (record { status = 7; text = status_line 7; tells_it = record { told = unread_options begin refl refl; says = seven_right (status_line 7) }; ends = ends }) (le_refl _) (le_refl _)

  -- the words ask for nothing that can be run there
  pub usage_call : ((command : Command) → Asks words command → Offers way command → ⊥) → Ends sink sink' 1 (status_line 1) result → IsCommandCall (WithWrong (Told way words) None) (record { source = moved source source; output = moved sink sink'; depot = moved depot depot }) result
  usage_call none ends =
      is_call (said_causes None causes) (record { status = 1; text = status_line 1; tells_it = record { told = usage none refl refl; says = one_right (status_line 1) }; ends = ends }) (le_refl _) (le_refl _)

-- `replay` on one thread
pub replay_call : {words : List (List ℕ)} {source : SourceView} {sink sink' : SinkView} {depot : DepotView} {result : ℕ} → Asks words Replay → Ends sink sink' 1 (status_line 1) result
    → IsCommandCall (WithWrong (Told One words) None) (record { source = moved source source; output = moved sink sink'; depot = moved depot depot }) result
replay_call {words} replay ends = usage_call (λ command asks offers. only_replay words command replay asks offers) ends

-- what a command of one thread tells, it tells on many
pub told_by_many : (words : List (List ℕ)) (source : Moved SourceView) (depot : Moved DepotView) (command : Command) → Asks words command → Offers One command
    → (status : ℕ) (text : List ℕ) → Told One words source depot status text → Told Many words source depot status text
told_by_many words source depot command asks offers status text (usage other same kept) = absurd (other command asks offers)
told_by_many words source depot command asks offers status text (unread_options begin same kept) = unread_options begin same kept
told_by_many words source depot command asks offers status text (obeyed own n t own_asks own_offers obeys) = obeyed own n t own_asks tt obeys
