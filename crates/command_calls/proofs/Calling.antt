-- What a call does, by its outcome.
use Rattle.std.proofs.Common.{◌≡◌, ◌≢◌, ℕ, ◌≤◌, List, sym, ◌∙◌, arith, inl, inr}
use Rattle.std.specs.declared.option.Option.{Option}
use Rattle.vm_types.specs.Counts.{Rose}
use Rattle.vm_types.specs.Moved.{Moved}
use Rattle.disk_trait.specs.DepotView.{DepotView}
use Rattle.outside_io.specs.Views.{SourceView}
use Rattle.command_ends.specs.Concludes.{Concludes}
use Rattle.command_ends.specs.declared.wrong.Wrong.{Wrong}
use Rattle.command_ends.proofs.Concluding.{faulty_write, has_told, its_status, no_failed_write, was_cut}
use Rattle.command_calls.specs.CommandCall.{IsCommandCall, WithWrong}
use Rattle.command_calls.specs.Moves.{Moves}

-- no text goes with status 4, and with 3 and 6 an end failed
pub record HasCauses (tells : Moved SourceView → Moved DepotView → ℕ → List ℕ → Type 0) (ends : Moves) : Type 0 where
  pub not_four : (status : ℕ) (text : List ℕ) → tells ends.source ends.depot status text → status ≢ 4
  pub read : (status : ℕ) (text : List ℕ) → tells ends.source ends.depot status text → status ≡ 3 → Rose ends.source.before.failures ends.source.after.failures
  pub made : (status : ℕ) (text : List ℕ) → tells ends.source ends.depot status text → status ≡ 6 → Rose ends.depot.before.failures ends.depot.after.failures

module _ {tells : Moved SourceView → Moved DepotView → ℕ → List ℕ → Type 0} {ends : Moves} {status : ℕ} (causes : HasCauses tells ends) (outcome : Concludes (tells ends.source ends.depot) ends.output.before ends.output.after status) where
  read_status : status ≡ 3 → Rose ends.source.before.failures ends.source.after.failures
  read_status three = elim (its_status outcome) [
    | inl is ↦ causes.read outcome.status outcome.text outcome.tells_it (sym is ∙ three)
    | inr four ↦ absurd (omega (arith, three, four))
  ]

  made_status : status ≡ 6 → Rose ends.depot.before.failures ends.depot.after.failures
  made_status six = elim (its_status outcome) [
    | inl is ↦ causes.made outcome.status outcome.text outcome.tells_it (sym is ∙ six)
    | inr four ↦ absurd (omega (arith, six, four))
  ]

  pub is_call : ends.source.before.failures ≤ ends.source.after.failures → ends.depot.before.failures ≤ ends.depot.after.failures → IsCommandCall tells ends status
  is_call read made = record {
    outcome = outcome;
    told = has_told outcome;
    unfailed = no_failed_write outcome;
    cut = was_cut outcome causes.not_four;
    read_fault = read_status;
    write_fault = faulty_write outcome causes.not_four;
    depot_fault = made_status;
    known_later = outcome.ends.known;
    read_later = read;
    write_later = (outcome.ends.failures_later, outcome.ends.stalls_later);
    depot_later = made;
  }

-- what is said with a status has the causes of what is told
pub said_causes : {tells : Moved SourceView → Moved DepotView → ℕ → List ℕ → Type 0} {ends : Moves} (wrong : Option Wrong) → HasCauses tells ends → HasCauses (WithWrong tells wrong) ends
said_causes wrong causes = record {
  not_four = λ status text said. causes.not_four status text said.told;
  read = λ status text said. causes.read status text said.told;
  made = λ status text said. causes.made status text said.told;
}

-- what is told in other words
pub call_by : {tells others : Moved SourceView → Moved DepotView → ℕ → List ℕ → Type 0} {ends : Moves} {status : ℕ} → ((n : ℕ) (text : List ℕ) → tells ends.source ends.depot n text → others ends.source ends.depot n text) → IsCommandCall tells ends status → IsCommandCall others ends status
call_by same call = record {
  outcome = record { status = call.outcome.status; text = call.outcome.text; tells_it = same call.outcome.status call.outcome.text call.outcome.tells_it; ends = call.outcome.ends };
  told = λ no_four. let told = call.told no_four in (told.0, same _ told.0 told.1, told.2);
  unfailed = call.unfailed;
  cut = λ four. let cut = call.cut four in (cut.0, (cut.1.0, (cut.1.1.0, same cut.0 cut.1.0 cut.1.1.1, cut.1.1.2, cut.1.1.3)));
  read_fault = call.read_fault;
  write_fault = call.write_fault;
  depot_fault = call.depot_fault;
  known_later = call.known_later;
  read_later = call.read_later;
  write_later = call.write_later;
  depot_later = call.depot_later;
}

pub said_by : {tells others : Moved SourceView → Moved DepotView → ℕ → List ℕ → Type 0} {ends : Moves} {status : ℕ} (wrong : Option Wrong) → ((n : ℕ) (text : List ℕ) → tells ends.source ends.depot n text → others ends.source ends.depot n text)
    → IsCommandCall (WithWrong tells wrong) ends status → IsCommandCall (WithWrong others wrong) ends status
said_by wrong same call = call_by (λ n text said. record { told = same n text said.told; says = said.says }) call

-- what is told alone
pub told_alone : {tells : Moved SourceView → Moved DepotView → ℕ → List ℕ → Type 0} {ends : Moves} {status : ℕ} (wrong : Option Wrong) → IsCommandCall (WithWrong tells wrong) ends status → IsCommandCall tells ends status
told_alone wrong call = call_by (λ n text said. said.told) call
