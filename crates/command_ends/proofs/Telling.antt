-- What follows from what a command tells.
use Rattle.std.proofs.Common.{◌≡◌, ◌≢◌, ℕ, List, [], refl, sym, ap, ◌∙◌, subst, arith, inl, inr}
use Rattle.std.specs.Prelude.{◌⊎◌, IfSome, None, Some, Ok, Err}
use Rattle.std.specs.declared.option.Option.{Option}
use Rattle.vm_types.specs.Counts.{Rose}
use Rattle.vm_types.specs.declared.config.Config.{Config}
use Rattle.outside_io.specs.Views.{SinkView, SourceView}
use Rattle.trace_lines.specs.declared.breach.Breach.{Breach}
use Rattle.trace_reader.specs.Answer.{AnswersTrace, FaultsByTrace, HasShown}
use Rattle.trace_reader.specs.Meaning.{Configuration, Faulty, Trace, trace_of}
use Rattle.trace_reader.specs.Meaning as meaning
use Rattle.trace_reader.specs.declared.fault.TraceFault.{TraceFault}
use Rattle.trace_reader.specs.declared.fault.TraceFault.TheVariants as fault
use Rattle.run_words.specs.Text.{status_line}
use Rattle.command_ends.specs.Concludes.{Concludes, EndsAnswered, IsOutcome}
use Rattle.command_ends.specs.Ends.{Ends}
use Rattle.command_ends.specs.FaultText.{fault_status, fault_told}
use Rattle.command_ends.specs.Tells.{IsTrace, Tells, answered, faulty, unfinished, unread, no_memory}
use Rattle.command_ends.specs.Wrongs.{IsWrong, TellsWrong, wrong_of}
use Rattle.command_ends.specs.declared.wrong.Wrong.{Wrong}
use Rattle.command_ends.proofs.Wronging.{fault_wrong, outcome_right, seven_right}
use Rattle.command_ends.proofs.Concluding.{its_status, unfailed_status}

one_meaning : (n : ℕ) (breach : Breach) (config : Config) (trace : Trace) → trace ≡ Configuration config → trace ≡ Faulty n breach → ⊥
one_meaning n breach config trace a b = cc

not_short : (config : Config) (trace : Trace) → trace ≡ Configuration config → trace ≡ meaning.Unfinished → ⊥
not_short config trace a b = cc

-- 1, 3 and 4 are no outcomes
pub other_number : (status : ℕ) → IsOutcome status → (status ≡ 1 → ⊥) × (status ≡ 3 → ⊥) × (status ≡ 4 → ⊥)
other_number status (inl zero) = (λ e. omega (arith, zero, e), λ e. omega (arith, zero, e), λ e. omega (arith, zero, e))
other_number status (inr (inl five)) = (λ e. omega (arith, five, e), λ e. omega (arith, five, e), λ e. omega (arith, five, e))
other_number status (inr (inr six)) = (λ e. omega (arith, six, e), λ e. omega (arith, six, e), λ e. omega (arith, six, e))

-- no text goes with status 4
pub not_four : {answer : Config → ℕ → List ℕ → Type 0} {before after : SourceView} (status : ℕ) (text : List ℕ) → Tells answer before after status text → status ≢ 4
not_four status text (answered config own told outcome quiet reads right) e = (other_number status outcome).2 e
not_four status text (faulty n breach quiet shown) e = absurd (omega arith)
not_four status text (unfinished quiet short) e = absurd (omega arith)
not_four status text (unread rose faultless) e = absurd (omega arith)
not_four status text (no_memory quiet) e = absurd (omega arith)

-- nor with status 1
pub not_one : {answer : Config → ℕ → List ℕ → Type 0} {before after : SourceView} (status : ℕ) (text : List ℕ) → Tells answer before after status text → status ≢ 1
not_one status text (answered config own told outcome quiet reads right) e = (other_number status outcome).0 e
not_one status text (faulty n breach quiet shown) e = absurd (omega arith)
not_one status text (unfinished quiet short) e = absurd (omega arith)
not_one status text (unread rose faultless) e = absurd (omega arith)
not_one status text (no_memory quiet) e = absurd (omega arith)

-- with status 3 a read failed
pub told_read : {answer : Config → ℕ → List ℕ → Type 0} {before after : SourceView} (status : ℕ) (text : List ℕ) → Tells answer before after status text → status ≡ 3 → Rose before.failures after.failures
told_read status text (answered config own told outcome quiet reads right) e = absurd ((other_number status outcome).1 e)
told_read status text (faulty n breach quiet shown) e = absurd (omega arith)
told_read status text (unfinished quiet short) e = absurd (omega arith)
told_read status text (unread rose faultless) e = rose
told_read status text (no_memory quiet) e = absurd (omega arith)

-- over a trace that is read without a failure the status is that of an answer, or 7
pub told_answered : {answer : Config → ℕ → List ℕ → Type 0} {before after : SourceView} (P : ℕ → Type 0)
    → ((config : Config) (status : ℕ) (text : List ℕ) → IsOutcome status → answer config status text → P status)
    → (status : ℕ) (text : List ℕ) → Tells answer before after status text → IsTrace before → (Rose before.failures after.failures → ⊥) → P status ⊎ (status ≡ 7)
told_answered P its status text (answered config own told outcome quiet reads right) trace unfailed = inl (its config status text outcome right)
told_answered {after = after} P its status text (faulty n breach quiet shown) trace unfailed =
    absurd (one_meaning n breach trace.1.0 _ trace.1.2 (subst (λ b. IfSome b (λ t. (trace_of t ≡ Faulty n breach) × HasShown t after.left)) trace.1.1 shown).0)
told_answered {after = after} P its status text (unfinished quiet short) trace unfailed =
    absurd (not_short trace.1.0 _ trace.1.2 (subst (λ b. IfSome b (λ t. (trace_of t ≡ meaning.Unfinished) × (after.left ≡ Some []))) trace.1.1 short).0)
told_answered P its status text (unread rose faultless) trace unfailed = absurd (unfailed rose)
told_answered P its status text (no_memory quiet) trace unfailed = inr refl

-- so it is that of an outcome, or 7
pub told_complete : {answer : Config → ℕ → List ℕ → Type 0} {before after : SourceView} (status : ℕ) (text : List ℕ) → Tells answer before after status text
    → IsTrace before → (Rose before.failures after.failures → ⊥) → IsOutcome status ⊎ (status ≡ 7)
told_complete status text tells trace unfailed = told_answered IsOutcome (λ config own told outcome right. outcome) status text tells trace unfailed

-- the same of the status that is answered
module _ {answer : Config → ℕ → List ℕ → Type 0} {before after : SourceView} {sink sink' : SinkView} {result : ℕ}
    (c : Concludes (Tells answer before after) sink sink' result) where
  pub read_status : result ≡ 3 → Rose before.failures after.failures
  read_status three =
      elim (its_status c) [
        | inl is ↦ told_read c.status c.text c.tells_it (sym is ∙ three)
        | inr four ↦ absurd (omega (arith, three, four))
      ]

  pub answered_status : (P : ℕ → Type 0) → ((config : Config) (status : ℕ) (text : List ℕ) → IsOutcome status → answer config status text → P status)
      → IsTrace before → (Rose before.failures after.failures → ⊥) → (Rose sink.failures sink'.failures → ⊥) → (Rose sink.stalls sink'.stalls → ⊥) → P result ⊎ (result ≡ 7)
  answered_status P its trace unfailed written kept =
      let is = unfailed_status c written kept in
      elim (told_answered P its c.status c.text c.tells_it trace unfailed) [ inl right ↦ inl (subst P (sym is) right) | inr seven ↦ inr (is ∙ seven) ]

  pub complete_status : IsTrace before → (Rose before.failures after.failures → ⊥) → (Rose sink.failures sink'.failures → ⊥) → (Rose sink.stalls sink'.stalls → ⊥)
      → IsOutcome result ⊎ (result ≡ 7)
  complete_status = answered_status IsOutcome (λ config own told outcome right. outcome)

-- an empty text is unfinished
none_unfinished : (before after : SourceView) → IfSome before.left (λ text. AnswersTrace (Err fault.Empty) text after.left) → IfSome before.left (λ text. (trace_of text ≡ meaning.Unfinished) × (after.left ≡ Some []))
none_unfinished before after means = by_text before.left means where
  by_text : (left : Option (List ℕ)) → IfSome left (λ text. AnswersTrace (Err fault.Empty) text after.left) → IfSome left (λ text. (trace_of text ≡ meaning.Unfinished) × (after.left ≡ Some []))
  by_text None means = tt
  by_text (Some text) means = (ap trace_of means.0, means.1)

-- what the answer of the reader tells
pub fault_tells : (answer : Config → ℕ → List ℕ → Type 0) {before after : SourceView} (f : TraceFault)
    → IfSome before.left (λ text. AnswersTrace (Err f) text after.left) → FaultsByTrace (Err f) before.failures after.failures → Tells answer before after (fault_status f) (fault_told f)
fault_tells answer (fault.Line n breach) means counts = faulty n breach counts means
fault_tells answer {before = before} {after = after} fault.Empty means counts = unfinished counts (none_unfinished before after means)
fault_tells answer fault.Unfinished means counts = unfinished counts means
fault_tells answer fault.ReadFault means counts = unread counts means
fault_tells answer fault.NoMemory means counts = no_memory counts

-- the outcome of a configuration that was read, and that of a trace that gives none, with what is wrong
pub concludes_saying : {answer : Config → ℕ → List ℕ → Type 0} {before after : SourceView} {sink sink' : SinkView} {result : ℕ} (config : Config) (wrong : Option Wrong)
    → ((status : ℕ) (text : List ℕ) → IsWrong None status text → IsWrong wrong status text)
    → IfSome before.left (λ text. AnswersTrace (Ok config) text after.left) → FaultsByTrace (Ok config) before.failures after.failures
    → EndsAnswered (answer config) sink sink' result → Concludes (TellsWrong (Tells answer before after) wrong) sink sink' result
concludes_saying config wrong same means counts (inl told) =
    record { status = told.status; text = told.text; tells_it = record { told = answered config told.status told.text told.outcome counts means told.answers; says = same told.status told.text (outcome_right told.status told.text told.outcome) }; ends = told.ends }
concludes_saying config wrong same means counts (inr none) = record { status = 7; text = status_line 7; tells_it = record { told = no_memory counts; says = same 7 (status_line 7) (seven_right (status_line 7)) }; ends = none }

pub concludes_fault : {answer : Config → ℕ → List ℕ → Type 0} {before after : SourceView} {sink sink' : SinkView} {result : ℕ} (f : TraceFault) (wrong : Option Wrong)
    → wrong ≡ wrong_of f → IfSome before.left (λ text. AnswersTrace (Err f) text after.left) → FaultsByTrace (Err f) before.failures after.failures
    → Ends sink sink' (fault_status f) (fault_told f) result → Concludes (TellsWrong (Tells answer before after) wrong) sink sink' result
concludes_fault {answer = answer} f wrong is means counts ends = record { status = fault_status f; text = fault_told f; tells_it = record { told = fault_tells answer f means counts; says = fault_wrong f wrong is }; ends = ends }
