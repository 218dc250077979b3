-- What `show` tells of a dump, and of an input that gives none.
use Rattle.std.proofs.Common.{◌≡◌, ◌≢◌, ◌⊎◌, inl, inr, ℕ, List, None, Ok, Err, refl, sym, subst, arith}
use Rattle.std.specs.Prelude.{IfSome}
use Rattle.std.specs.declared.option.Option.{Option}
use Rattle.vm_types.specs.Counts.{Rose}
use Rattle.outside_io.specs.Views.{SinkView, SourceView}
use Rattle.run_words.specs.Text.{status_line}
use Rattle.command_ends.specs.Concludes.{Concludes}
use Rattle.command_ends.specs.Ends.{Ends}
use Rattle.command_ends.specs.Wrongs.{IsWrong, IsWrongText, TellsWrong}
use Rattle.command_ends.specs.declared.wrong.Wrong.{Wrong}
use Rattle.command_ends.proofs.Concluding.{unfailed_status}
use Rattle.command_calls.proofs.Calling.{HasCauses}
use Rattle.command_calls.specs.Moves.{Moves}
use Rattle.command_ends.proofs.Wronging.{seven_right}
use Rattle.dump_bytes.specs.Begins.{IsBadAfter}
use Rattle.dump_bytes.specs.Bounds.{IsDump}
use Rattle.dump_bytes.specs.Dumped.{dumped}
use Rattle.dump_bytes.specs.Outcome.{AnswersDump, FaultsByDump}
use Rattle.dump_bytes.specs.declared.dump.Dump.{Dump}
use Rattle.dump_bytes.specs.declared.fault.DumpFault.{DumpFault}
use Rattle.dump_bytes.specs.declared.fault.DumpFault.TheVariants as fault
use Rattle.dump_bytes.proofs.Outcomes.{not_both}
use Rattle.dump_lines.specs.ShowText.{show_text}
use Rattle.show_command.specs.ShowTells.{EndsShown, HasDump, ShowTells, bad, fault_status, fault_told, no_memory, shown, unread, wrong_in_dump}

-- status 0 says that nothing is wrong
zero_right : (text : List ℕ) → IsWrong None 0 text
zero_right text = (λ e. omega (arith, e), λ e. omega (arith, e))

fault_wrong : (f : DumpFault) → IsWrong (wrong_in_dump f) (fault_status f) (fault_told f)
fault_wrong (fault.Bad n) = (refl, refl)
fault_wrong fault.ReadFault = (λ e. omega (arith, e), λ e. omega (arith, e))
fault_wrong fault.NoMemory = (λ e. omega (arith, e), λ e. omega (arith, e))

-- nothing is quoted
own_text : (f : DumpFault) (input : Option (List ℕ)) (kept : List ℕ) → IsWrongText (wrong_in_dump f) input kept
own_text (fault.Bad n) input kept = tt
own_text fault.ReadFault input kept = tt
own_text fault.NoMemory input kept = tt

pub fault_text : (f : DumpFault) (wrong : Option Wrong) → wrong ≡ wrong_in_dump f → (input : Option (List ℕ)) (kept : List ℕ) → IsWrongText wrong input kept
fault_text f wrong is input kept = subst (λ w. IsWrongText w input kept) (sym is) (own_text f input kept)

-- ---- a dump
pub concludes_dump : {before after : SourceView} {sink sink' : SinkView} {result : ℕ} (d : Dump) → IsDump (dumped d) → IfSome before.left (λ text. AnswersDump (Ok d) text after.left) → FaultsByDump (Ok d) before.failures after.failures
    → EndsShown (dumped d) sink sink' result → Concludes (TellsWrong (ShowTells before after) None) sink sink' result
concludes_dump d bounds means counts (inl whole) =
    record { status = 0; text = show_text (dumped d); tells_it = record { told = shown (dumped d) counts (record { bounds = bounds; text = means }); says = zero_right (show_text (dumped d)) }; ends = whole }
concludes_dump d bounds means counts (inr none) =
    record { status = 7; text = status_line 7; tells_it = record { told = no_memory counts; says = seven_right (status_line 7) }; ends = none }

-- ---- no dump
fault_tells : {before after : SourceView} (f : DumpFault) → IfSome before.left (λ text. AnswersDump (Err f) text after.left) → FaultsByDump (Err f) before.failures after.failures → ShowTells before after (fault_status f) (fault_told f)
fault_tells (fault.Bad n) means counts = bad n counts means
fault_tells fault.ReadFault means counts = unread counts means
fault_tells fault.NoMemory means counts = no_memory counts

pub concludes_fault : {before after : SourceView} {sink sink' : SinkView} {result : ℕ} (f : DumpFault) (wrong : Option Wrong) → wrong ≡ wrong_in_dump f
    → IfSome before.left (λ text. AnswersDump (Err f) text after.left) → FaultsByDump (Err f) before.failures after.failures
    → Ends sink sink' (fault_status f) (fault_told f) result → Concludes (TellsWrong (ShowTells before after) wrong) sink sink' result
concludes_fault f wrong is means counts ends =
    record { status = fault_status f; text = fault_told f; tells_it = record { told = fault_tells f means counts; says = subst (λ w. IsWrong w (fault_status f) (fault_told f)) (sym is) (fault_wrong f) }; ends = ends }

-- ---- what follows of the status
-- no text goes with 4
pub not_four : {before after : SourceView} (status : ℕ) (text : List ℕ) → ShowTells before after status text → status ≢ 4
not_four status text (shown d quiet reads) e = absurd (omega arith)
not_four status text (bad n later is) e = absurd (omega arith)
not_four status text (unread rose begun) e = absurd (omega arith)
not_four status text (no_memory quiet) e = absurd (omega arith)

-- nor with 1 and 6
pub not_one : {before after : SourceView} (status : ℕ) (text : List ℕ) → ShowTells before after status text → status ≢ 1
not_one status text (shown d quiet reads) e = absurd (omega arith)
not_one status text (bad n later is) e = absurd (omega arith)
not_one status text (unread rose begun) e = absurd (omega arith)
not_one status text (no_memory quiet) e = absurd (omega arith)

pub not_six : {before after : SourceView} (status : ℕ) (text : List ℕ) → ShowTells before after status text → status ≢ 6
not_six status text (shown d quiet reads) e = absurd (omega arith)
not_six status text (bad n later is) e = absurd (omega arith)
not_six status text (unread rose begun) e = absurd (omega arith)
not_six status text (no_memory quiet) e = absurd (omega arith)

-- with status 3 a read failed
pub told_read : {before after : SourceView} (status : ℕ) (text : List ℕ) → ShowTells before after status text → status ≡ 3 → Rose before.failures after.failures
told_read status text (shown d quiet reads) e = absurd (omega arith)
told_read status text (bad n later is) e = absurd (omega arith)
told_read status text (unread rose begun) e = rose
told_read status text (no_memory quiet) e = absurd (omega arith)

pub told_whole : {before after : SourceView} (status : ℕ) (text : List ℕ) → ShowTells before after status text → HasDump before → (Rose before.failures after.failures → ⊥) → (status ≡ 0) ⊎ (status ≡ 7)
told_whole status text (shown d quiet reads) dump unfailed = inl refl
told_whole status text (bad n later is) dump unfailed =
    absurd (not_both dump.text n dump.dump dump.is (subst (λ b. IfSome b (λ t. IsBadAfter t n)) dump.known is))
told_whole status text (unread rose begun) dump unfailed = absurd (unfailed rose)
told_whole status text (no_memory quiet) dump unfailed = inr refl

-- so with 3 a read failed, and 4 and 6 come of nothing that is told
pub causes : (ends : Moves) → HasCauses (λ source depot. ShowTells source.before source.after) ends
causes ends = record { not_four = not_four; read = told_read; made = λ status text told six. absurd (not_six status text told six) }

module _ {before after : SourceView} {sink sink' : SinkView} {result : ℕ} (c : Concludes (ShowTells before after) sink sink' result) where
  pub complete_status : HasDump before → (Rose before.failures after.failures → ⊥) → (Rose sink.failures sink'.failures → ⊥) → (Rose sink.stalls sink'.stalls → ⊥) → (result ≡ 0) ⊎ (result ≡ 7)
  complete_status dump quiet unwritten taken =
      subst (λ n. (n ≡ 0) ⊎ (n ≡ 7)) (sym (unfailed_status c unwritten taken)) (told_whole c.status c.text c.tells_it dump quiet)
