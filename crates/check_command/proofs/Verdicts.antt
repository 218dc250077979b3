-- What the answer to a trace and a log tells, by what its source has left.
use Rattle.std.proofs.Common.{◌≡◌, ℕ, ◌≤◌, List, [], ◌∷◌, ◌++◌, length, take, Option, Some, None, Result, Ok, Err, refl, sym, ap, subst, inl, inr, arith}
use Rattle.std.proofs.lemmas.List.{length-drop, length-take}
use Rattle.std.specs.Prelude.{IfSome}
use Rattle.std.specs.Io.KnownBytes.{prepend_known}
use Rattle.vm_types.specs.declared.config.Config.{Config}
use Rattle.outside_io.specs.Views.{SinkView, SourceView}
use Rattle.outside_io.specs.BytesLeft.{pending}
use Rattle.trace_reader.specs.Head.{head_of}
use Rattle.trace_reader.specs.HeadAnswer.{HeadAnswers}
use Rattle.trace_reader.specs.declared.fault.TraceFault.{TraceFault}
use Rattle.trace_reader.specs.declared.fault.TraceFault.TheVariants as fault
use Rattle.log_check.specs.Judged.{CountsByLog as CountsByVerdict, Judges}
use Rattle.log_check.specs.declared.verdict.Verdict.{Verdict}
use Rattle.log_check.specs.declared.verdict.Verdict.TheVariants.{Legal, Fault}
use Rattle.log_check.specs.declared.check_fault.CheckFault.{CheckFault}
use Rattle.log_check.specs.declared.check_fault.CheckFault.TheVariants.{NoMemory, ReadFault, TooMany}
use Rattle.command_ends.specs.Concludes.{Concludes}
use Rattle.command_ends.specs.Ends.{Ends}
use Rattle.command_ends.specs.FaultText.{fault_status, fault_told}
use Rattle.command_ends.specs.Wrongs.{IsWrong, IsWrongText, TellsWrong, wrong_of}
use Rattle.command_ends.specs.declared.wrong.Wrong.{Wrong}
use Rattle.command_ends.proofs.Wronging.{fault_text_kept, fault_wrong}
use Rattle.outside_io.specs.LineText.{line_text}
use Rattle.log_check.specs.Judged.{KeepsFault}
use Rattle.check_command.specs.Answers.{Answer, CountsByCheck, IsRead, KeepsText, Says}
use Rattle.check_command.specs.CheckText.{legal, at_fault, too_long}
use Rattle.check_command.specs.CheckTells.{CheckTells, answered, faulty, unfinished, unread, no_memory}
use Rattle.check_command.specs.Verdicts.{EndsJudged, verdict_status, verdict_text, wrong_in_log}

if_some : (P Q : List ℕ → Type 0) (told : Option (List ℕ)) → ((text : List ℕ) → P text → Q text) → IfSome told P → IfSome told Q
if_some P Q None f h = tt
if_some P Q (Some text) f h = f text h

-- the lines are at their end, so the source is
none_behind : (read rest : List ℕ) → read ++ rest ≡ [] → rest ≡ []
none_behind [] rest e = e
none_behind (b ∷ read) rest e = absurd cc

at_end : (read : List ℕ) (left : Option (List ℕ)) → prepend_known read left ≡ Some [] → left ≡ Some []
at_end read None e = absurd cc
at_end read (Some rest) e = let both : read ++ rest ≡ [] = cc in rw (none_behind read rest both) refl

-- what is said of the bytes behind the line LOG
pub log_told : (config : Config) (verdict : Result Verdict CheckFault) (told middle left : Option (List ℕ)) → IfSome told (λ text. HeadAnswers (Ok config) text middle)
    → IfSome middle (λ log. Judges config verdict log left) → IfSome told (λ text. Says (Ok verdict) text left)
log_told config verdict None middle left h j = tt
log_told config verdict (Some text) middle left h j =
    record { config = config; log = h.0; head = h.1; said = subst (λ (m : Option (List ℕ)). IfSome m (λ log. Judges config verdict log left)) h.2 j }

pub log_counts : (verdict : Result Verdict CheckFault) (before middle now : ℕ) → middle ≡ before → CountsByVerdict verdict middle now → CountsByCheck (Ok verdict) before now
log_counts verdict before middle now same counts = subst (λ (n : ℕ). CountsByVerdict verdict n now) same counts

-- the source has given the bytes that its lines hold
pub pending_few : (buffer : List ℕ) (next filled : ℕ) → length buffer ≤ 4096 → length (pending buffer next filled) ≤ 4096
pending_few buffer next filled few = omega (arith, length-drop next (take filled buffer), length-take filled buffer, few)

pub read_told : (answer : Answer) (told whole left final : Option (List ℕ)) (read : List ℕ) → whole ≡ told → final ≡ left → length read ≤ 4096
    → IfSome whole (λ text. Says answer text (prepend_known read left)) → IfSome told (λ text. IsRead (Says answer text) final)
read_told answer told whole left final read same kept few says =
    if_some (λ text. Says answer text (prepend_known read left)) (λ text. IsRead (Says answer text) final) told
    (λ text said. record { read = read; few = few; says = subst (λ (o : Option (List ℕ)). Says answer text (prepend_known read o)) (sym kept) said })
    (subst (λ (o : Option (List ℕ)). IfSome o (λ text. Says answer text (prepend_known read left))) same says)

verdict_wrong : (verdict : Result Verdict CheckFault) → IsWrong (wrong_in_log verdict) (verdict_status verdict) (verdict_text verdict)
verdict_wrong (Ok (Legal n)) = (λ e. omega (arith, e), λ e. omega (arith, e))
verdict_wrong (Ok (Fault n reason)) = (refl, refl)
verdict_wrong (Err TooMany) = (refl, refl)
verdict_wrong (Err ReadFault) = (λ e. omega (arith, e), λ e. omega (arith, e))
verdict_wrong (Err NoMemory) = (λ e. omega (arith, e), λ e. omega (arith, e))

-- the first bytes of the line at which a log is at fault
some_is : {A : Type 0} (o : Option A) (x : A) (P : A → Type 0) → o ≡ Some x → IfSome o P → P x
some_is o x P is holds = subst (λ (p : Option _). IfSome p P) is holds

pub log_text : (config : Config) (verdict : Result Verdict CheckFault) (input left later : Option (List ℕ)) (kept : List ℕ) → IfSome input (λ text. HeadAnswers (Ok config) text left)
    → IfSome left (λ log. Judges config verdict log later) → KeepsFault verdict left kept → KeepsText (Ok verdict) input kept
log_text config (Ok (Legal n)) input left later kept head judges keeps = tt
log_text config (Ok (Fault n reason)) None left later kept head judges keeps = tt
log_text config (Ok (Fault n reason)) (Some text) left later kept head judges keeps =
    record {
      config = config;
      log = head.0;
      head = head.1;
      is = some_is left head.0 (λ log. kept ≡ line_text n log) head.2 keeps;
      why = (some_is left head.0 (λ log. Judges config (Ok (Fault n reason)) log later) head.2 judges).1;
    }
log_text config (Err fault) input left later kept head judges keeps = tt

own_text : (verdict : Result Verdict CheckFault) (input : Option (List ℕ)) (kept : List ℕ) → KeepsText (Ok verdict) input kept → IsWrongText (wrong_in_log verdict) input kept
own_text (Ok (Legal n)) input kept keeps = tt
own_text (Ok (Fault n reason)) input kept keeps = keeps
own_text (Err TooMany) input kept keeps = tt
own_text (Err ReadFault) input kept keeps = tt
own_text (Err NoMemory) input kept keeps = tt

verdict_text_kept : (verdict : Result Verdict CheckFault) (wrong : Option Wrong) (input : Option (List ℕ)) (kept : List ℕ) → wrong ≡ wrong_in_log verdict → KeepsText (Ok verdict) input kept
    → IsWrongText wrong input kept
verdict_text_kept verdict wrong input kept is keeps = subst (λ w. IsWrongText w input kept) (sym is) (own_text verdict input kept keeps)

module _ {before after : SourceView} where
  head_tells : (f : TraceFault) → IfSome before.left (λ text. IsRead (Says (Err f) text) after.left) → CountsByCheck (Err f) before.failures after.failures
      → CheckTells before after (fault_status f) (fault_told f)
  head_tells (fault.Line n breach) means counts = faulty n breach counts (if_some _ _ before.left (λ text r. r.says) means)
  head_tells fault.Empty means counts = unfinished counts (if_some _ _ before.left (λ text r. (ap head_of r.says.0, at_end r.read after.left r.says.1)) means)
  head_tells fault.Unfinished means counts = unfinished counts (if_some _ _ before.left (λ text r. (r.says.0, at_end r.read after.left r.says.1)) means)
  head_tells fault.ReadFault means counts = unread counts (if_some _ _ before.left (λ text r. record { read = r.read; few = r.few; says = inl r.says }) means)
  head_tells fault.NoMemory means counts = no_memory counts

  verdict_tells : (verdict : Result Verdict CheckFault) → IfSome before.left (λ text. IsRead (Says (Ok verdict) text) after.left) → CountsByCheck (Ok verdict) before.failures after.failures
      → CheckTells before after (verdict_status verdict) (verdict_text verdict)
  verdict_tells (Ok (Legal n)) says counts =
      answered _ _ counts (legal n (if_some _ _ before.left (λ text r. (record { config = r.says.config; log = r.says.log; head = r.says.head; said = r.says.said.0 }, at_end r.read after.left r.says.said.1)) says))
  verdict_tells (Ok (Fault n reason)) says counts =
      answered _ _ counts (at_fault n (if_some _ _ before.left (λ text r. record { config = r.says.config; log = r.says.log; head = r.says.head; said = r.says.said.0 }) says))
  verdict_tells (Err TooMany) says counts = answered _ _ counts (too_long (if_some _ _ before.left (λ text r. r.says) says))
  verdict_tells (Err ReadFault) says counts = unread counts (if_some _ _ before.left (λ text r. record { read = r.read; few = r.few; says = inr r.says }) says)
  verdict_tells (Err NoMemory) says counts = no_memory counts

  -- the outcome of a trace that gives no configuration, and that of a log
  concludes_fault : {sink sink' : SinkView} {result : ℕ} (f : TraceFault) (wrong : Option Wrong) → wrong ≡ wrong_of f → IfSome before.left (λ text. IsRead (Says (Err f) text) after.left)
      → CountsByCheck (Err f) before.failures after.failures → Ends sink sink' (fault_status f) (fault_told f) result → Concludes (TellsWrong (CheckTells before after) wrong) sink sink' result
  concludes_fault f wrong is means counts ends = record { status = fault_status f; text = fault_told f; tells_it = record { told = head_tells f means counts; says = fault_wrong f wrong is }; ends = ends }

  concludes_verdict : {sink sink' : SinkView} {result : ℕ} (verdict : Result Verdict CheckFault) (wrong : Option Wrong) → wrong ≡ wrong_in_log verdict → IfSome before.left (λ text. IsRead (Says (Ok verdict) text) after.left)
      → CountsByCheck (Ok verdict) before.failures after.failures → Ends sink sink' (verdict_status verdict) (verdict_text verdict) result → Concludes (TellsWrong (CheckTells before after) wrong) sink sink' result
  concludes_verdict verdict wrong is says counts ends =
      record { status = verdict_status verdict; text = verdict_text verdict; tells_it = record { told = verdict_tells verdict says counts; says = subst (λ w. IsWrong w (verdict_status verdict) (verdict_text verdict)) (sym is) (verdict_wrong verdict) }; ends = ends }

  pub concludes_judged : {sink sink' : SinkView} {result : ℕ} (judged : Answer) (wrong : Option Wrong) → IfSome before.left (λ text. IsRead (Says judged text) after.left)
      → CountsByCheck judged before.failures after.failures → EndsJudged judged sink sink' result wrong → Concludes (TellsWrong (CheckTells before after) wrong) sink sink' result
  concludes_judged (Ok verdict) wrong says counts ends = concludes_verdict verdict wrong ends.1 says counts ends.0
  concludes_judged (Err fault) wrong says counts ends = concludes_fault fault wrong ends.1 says counts ends.0

-- and the first bytes of its faulty line
pub judged_text_kept : (sink sink' : SinkView) (result : ℕ) (judged : Answer) (wrong : Option Wrong) (input : Option (List ℕ)) (kept : List ℕ) → EndsJudged judged sink sink' result wrong
    → KeepsText judged input kept → IsWrongText wrong input kept
judged_text_kept sink sink' result (Ok verdict) wrong input kept ends keeps = verdict_text_kept verdict wrong input kept ends.1 keeps
judged_text_kept sink sink' result (Err fault) wrong input kept ends keeps = fault_text_kept fault wrong input kept ends.1 keeps
