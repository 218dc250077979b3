-- What is told, and what is wrong by it.
use Rattle.std.proofs.Common.{◌≡◌, ℕ, List, sym, subst, refl, arith, inl, inr}
use Rattle.std.specs.Prelude.{None}
use Rattle.std.specs.declared.option.Option.{Option}
use Rattle.outside_io.specs.Views.{SinkView}
use Rattle.trace_reader.specs.LineText.{IsTextOf}
use Rattle.trace_reader.specs.declared.fault.TraceFault.{TraceFault}
use Rattle.trace_reader.specs.declared.fault.TraceFault.TheVariants as fault
use Rattle.command_ends.specs.Concludes.{Concludes, IsOutcome}
use Rattle.command_ends.specs.FaultText.{fault_status, fault_told}
use Rattle.command_ends.specs.Wrongs.{IsWrong, IsWrongText, TellsWrong, wrong_of}
use Rattle.command_ends.specs.declared.wrong.Wrong.{Wrong}

-- a trace that gives no configuration
own_wrong : (f : TraceFault) → IsWrong (wrong_of f) (fault_status f) (fault_told f)
own_wrong (fault.Line number breach) = (refl, refl)
own_wrong fault.Empty = (refl, refl)
own_wrong fault.Unfinished = (refl, refl)
own_wrong fault.ReadFault = (λ e. omega (arith, e), λ e. omega (arith, e))
own_wrong fault.NoMemory = (λ e. omega (arith, e), λ e. omega (arith, e))

pub fault_wrong : (f : TraceFault) (wrong : Option Wrong) → wrong ≡ wrong_of f → IsWrong wrong (fault_status f) (fault_told f)
fault_wrong f wrong is = subst (λ w. IsWrong w (fault_status f) (fault_told f)) (sym is) (own_wrong f)

-- the first bytes of its faulty line
own_text : (f : TraceFault) (input : Option (List ℕ)) (kept : List ℕ) → IsTextOf f input kept → IsWrongText (wrong_of f) input kept
own_text (fault.Line number breach) input kept is = is
own_text fault.Empty input kept is = is
own_text fault.Unfinished input kept is = tt
own_text fault.ReadFault input kept is = tt
own_text fault.NoMemory input kept is = tt

pub fault_text_kept : (f : TraceFault) (wrong : Option Wrong) (input : Option (List ℕ)) (kept : List ℕ) → wrong ≡ wrong_of f → IsTextOf f input kept → IsWrongText wrong input kept
fault_text_kept f wrong input kept is text = subst (λ w. IsWrongText w input kept) (sym is) (own_text f input kept text)

-- a command that was carried out, or had no blocks, or for which memory ran out
pub outcome_right : (status : ℕ) (text : List ℕ) → IsOutcome status → IsWrong None status text
outcome_right status text (inl zero) = (λ e. omega (arith, zero, e), λ e. omega (arith, zero, e))
outcome_right status text (inr (inl five)) = (λ e. omega (arith, five, e), λ e. omega (arith, five, e))
outcome_right status text (inr (inr six)) = (λ e. omega (arith, six, e), λ e. omega (arith, six, e))

pub seven_right : (text : List ℕ) → IsWrong None 7 text
seven_right text = (λ e. omega (arith, e), λ e. omega (arith, e))

pub one_right : (text : List ℕ) → IsWrong None 1 text
one_right text = (λ e. omega (arith, e), λ e. omega (arith, e))

-- what is told alone
pub told_alone : {tells : ℕ → List ℕ → Type 0} {wrong : Option Wrong} {before after : SinkView} {result : ℕ}
    → Concludes (TellsWrong tells wrong) before after result → Concludes tells before after result
told_alone c = record { status = c.status; text = c.text; tells_it = c.tells_it.told; ends = c.ends }

-- what is told in other words
pub concludes_wrong : {tells others : ℕ → List ℕ → Type 0} {wrong : Option Wrong} {before after : SinkView} {result : ℕ}
    → ((status : ℕ) (text : List ℕ) → tells status text → others status text) → Concludes (TellsWrong tells wrong) before after result → Concludes (TellsWrong others wrong) before after result
concludes_wrong same c = record { status = c.status; text = c.text; tells_it = record { told = same c.status c.text c.tells_it.told; says = c.tells_it.says }; ends = c.ends }
