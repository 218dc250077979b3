-- What a call gives: nothing if the list is short enough, else the cluster that begins with its head.
use Rattle.std.proofs.Common.{◌≡◌, ◌||◌, Bool, true, false, [], length, nat_eq, refl, sym, subst, arith}
use Rattle.vm_types.specs.BlockView.{BlockView, Tells}
use Rattle.vm_types.specs.Configuration.{IsWellFormed}
use Rattle.vm_types.specs.declared.names.Seat.{Seat}
use Rattle.pager_policy.specs.Given.{Given, given}
use Rattle.pager_model.specs.Run.{IsRun}
use Rattle.pager_policy.specs.WriteCluster.{BeginIs, Reason, begin_carry, begin_gives, begin_nothing, is_enough}
use Rattle.policy_tables.specs.BeginCases.{begin_cases}
use Rattle.policy_tables.specs.Rows.{IsByCases}
use Rattle.policy_tables.proofs.ByBegin.{goes_by_cases}
use Rattle.call_laws.specs.AreLegal.{AreLegal}
use Rattle.call_laws.proofs.WritesLegal.{begin_legal}
use Rattle.lift_carriers.specs.CarrierView.{CarrierView}
use Rattle.vm_state.specs.History.{History, pager}
use Rattle.vm_state.specs.LiftsLand.{added_each}
use Rattle.call_begins.specs.Lifted.{HasLifts}
use Rattle.call_begins.specs.MayBegin.{MayBegin}
use Rattle.call_begins.proofs.Branches.{if_false, if_true}
use Rattle.modified_writer.specs.Begins.{Begins}
use Rattle.modified_writer.specs.Cluster.{cluster_writes}
use Rattle.modified_writer.specs.declared.begun.Begin.{Begin}
use Rattle.modified_writer.specs.declared.begun.Begin.TheVariants.{Carry, Nothing}

module _ (s : History) (seat : Seat) (reason : Reason) where
  -- whether there is nothing to write
  abbrev pub is_short : Bool
  is_short = is_enough s.config (pager s) reason || nat_eq (length (pager s).modified) 0

  gives_nothing : is_short ≡ true → begin_gives s.config (pager s) reason ≡ given [] begin_nothing
  gives_nothing short = if_true is_short _ _ short

  gives_cluster : is_short ≡ false → begin_gives s.config (pager s) reason ≡ given (cluster_writes s) begin_carry
  gives_cluster long = if_false is_short _ _ long

  pub cluster_legal : IsWellFormed s.config → IsRun s.config s.past → MayBegin s seat → is_short ≡ false → AreLegal s.config s.past seat.0 (cluster_writes s)
  cluster_legal formed run may long = subst (λ (g : Given BeginIs). AreLegal s.config s.past seat.0 g.made) (gives_cluster long)
      (begin_legal s.config s.past seat.0 reason (record {
        formed = formed;
        run = run;
        free = record { idle = may.idle; calm = may.calm };
        seat_there = let there = may.there in omega (arith, there);
      }))

  module _ {B : Type 0} {seen : B → BlockView} {tells : Tells} where
    pub begins_nothing : is_short ≡ true → (c : CarrierView B) → Begins seen tells s s seat (begin_gives s.config (pager s) reason) Nothing c c
    begins_nothing short c = subst (λ (g : Given BeginIs). Begins seen tells s s seat g Nothing c c) (sym (gives_nothing short))
        (record { history = refl; answer = refl; carrier = refl })

    pub begins_cluster : is_short ≡ false → (s' : History) (old new : CarrierView B) → s' ≡ added_each seat (cluster_writes s) s → HasLifts seen tells s' seat (cluster_writes s) new
        → Begins seen tells s s' seat (begin_gives s.config (pager s) reason) Carry old new
    begins_cluster long s' old new made lifts = subst (λ (g : Given BeginIs). Begins seen tells s s' seat g Carry old new) (sym (gives_cluster long))
        (record { history = made; answer = refl; carrier = lifts })

    -- by the table of write clusters
    pub by_table : {s' : History} {begin : Begin} {old new : CarrierView B} → Begins seen tells s s' seat (begin_gives s.config (pager s) reason) begin old new
        → IsByCases (begin_cases s.config (pager s) reason) (λ (g : Given BeginIs). Begins seen tells s s' seat g begin old new)
    by_table is = record { says = begin_gives s.config (pager s) reason; first = goes_by_cases s.config (pager s) reason; so = is }
