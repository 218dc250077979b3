-- What is made for a reference is what the table's first row says that holds.
use Rattle.std.proofs.Common.{◌≡◌, ◌<◌, false, not, length, refl, sym, ap, subst}
use Rattle.vm_types.specs.Configuration.{IsWellFormed}
use Rattle.vm_types.specs.Status.{is_resident}
use Rattle.vm_types.specs.declared.names.Seat.{Seat}
use Rattle.vm_types.specs.declared.reference.Ref.{Ref}
use Rattle.pager_model.specs.Run.{IsRun}
use Rattle.pager_policy.specs.Advance.{GivenNext, advance_gives, again_not_resident, gives_again}
use Rattle.pager_policy.specs.Given.{unsaid}
use Rattle.policy_tables.specs.Words.{shown as with_shown}
use Rattle.policy_tables.proofs.ByAdvance.{goes_by_cases}
use Rattle.pager_laws.proofs.FlatFollows.{follows}
use Rattle.call_begins.proofs.Branches.{if_true}
use Rattle.vm_state.specs.History.{History, pager}
use Rattle.fault_core.specs.Gives.{IsGiven, IsGivenByCases}
use Rattle.fault_core.specs.declared.next.AgainWhy.TheVariants.{NotResident}
use Rattle.fault_core.specs.declared.next.Next.{Next}
use Rattle.fault_core.specs.declared.next.Next.TheVariants.{Again}

module _ (s : History) (seat : Seat) (r : Ref) (formed : IsWellFormed s.config) (run : IsRun s.config s.past) (process : seat.0 < length s.config.procs) where
  abbrev gives : GivenNext
  gives = advance_gives s.config s.past (pager s) seat.0 r

  pub by_table : {after : History} {next : Next} → IsGiven s after seat gives next → IsGivenByCases s after seat r next
  by_table is = record {
    shown = is.shown;
    first = record {
      says = with_shown is.shown gives;
      first = goes_by_cases s.config s.past (pager s) seat.0 r is.shown process (follows s.config s.past formed run).map;
      so = (is.history, is.answer);
    };
  }

  -- the process isn't resident
  not_resident : is_resident ((pager s).status seat.0) ≡ false → gives ≡ gives_again again_not_resident
  not_resident away = if_true (not (is_resident ((pager s).status seat.0))) _ _ (ap not away)

  pub waits_by_table : is_resident ((pager s).status seat.0) ≡ false → IsGivenByCases s s seat r (Again NotResident)
  waits_by_table away = by_table (subst (λ (g : GivenNext). IsGiven s s seat g (Again NotResident)) (sym (not_resident away)) (record { shown = unsaid; history = refl; answer = refl }))
