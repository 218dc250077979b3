-- A lift that may land may end its transfer; and the role of a read that lands well is the one that is kept of its frame.
use Rattle.std.proofs.Common.{◌≡◌, ℕ, ◌<◌, Bool, true, List, Option, Some, IsSome, length, slice_index_or, refl, sym, ap₂, ◌∙◌, subst, subst₂}
use Rattle.std.proofs.lemmas.Option.{same_Some}
use Rattle.vm_types.specs.BlockView.{BlockView, Tells}
use Rattle.vm_types.specs.declared.config.Config.{Config}
use Rattle.vm_types.specs.declared.names.Seat.{Seat}
use Rattle.vm_journal.specs.declared.entry.Entry.{Entry}
use Rattle.vm_journal.specs.declared.entry.Role.{Role}
use Rattle.vm_journal.specs.declared.entry.What.{What}
use Rattle.vm_journal.specs.declared.entry.What.TheVariants as what
use Rattle.pager_model.specs.Maps.{pfn}
use Rattle.pager_model.specs.Run.{pager_after}
use Rattle.pager_model.specs.Step.{IsLegal}
use Rattle.frame_store.specs.LiftView.{LiftView}
use Rattle.frame_store.specs.StoreView.{StoreView}
use Rattle.frame_store.specs.declared.lift.Carried.{Carried}
use Rattle.frame_store.specs.declared.lift.Carried.TheVariants.{Good}
use Rattle.state_fits.specs.Parts.{Parts}
use Rattle.vm_state.specs.History.{History, MayAdd, entry_by}
use Rattle.vm_state.specs.Landings.{MayEnd, ended_as, landing_of}
use Rattle.lift_carriers.specs.LiftsFit.{LiftFits}
use Rattle.vm_state.specs.ReadRoles.{IsReadAs}
use Rattle.vm_state.specs.StateKept.{IsState}
use Rattle.vm_state.proofs.InOkCloses as ended

pub landed_well : {B : Type 0} (lift : LiftView B) → lift.is_read ≡ true → lift.result ≡ Good → landing_of lift ≡ what.InOk (pfn lift.frame) lift.start
landed_well lift reads good = ap₂ (λ (b : Bool) (r : Carried). ended_as b lift.frame lift.start r) reads good

pub may_end : {B : Type 0} (seen : B → BlockView) (tells : Tells) (s : History) (seat : Seat) (lift : LiftView B) (b : Bool) (r : Carried)
    → MayAdd s (entry_by seat (landing_of lift)) → LiftFits seen tells s.config s.past lift → lift.pool ≡ s.pool → lift.is_read ≡ b → lift.result ≡ r → MayEnd seen tells s seat lift b r
may_end seen tells s seat lift b r may fits pool reads ended =
    record { may = subst₂ (λ (x : Bool) (y : Carried). MayAdd s (entry_by seat (ended_as x lift.frame lift.start y))) reads ended may; fits = fits; pool = pool; ended = ended }

module _ {B : Type 0} {seen : B → BlockView} {tells : Tells} {config : Config} {past : List Entry} {spare : ℕ} {store : StoreView B} {fields : Parts} {numbers : List ℕ}
    (before : IsState seen tells config past spare store fields numbers) (seat : Seat) (lift : LiftView B)
    (may : IsLegal config past (pager_after config past) (record { seat = seat; what = landing_of lift }))
    (fits : LiftFits seen tells config past lift) (is_read : lift.is_read ≡ true) (good : lift.result ≡ Good) where
  legal : IsLegal config past (pager_after config past) (record { seat = seat; what = what.InOk (pfn lift.frame) lift.start })
  legal = subst (λ (w : What). IsLegal config past (pager_after config past) (record { seat = seat; what = w })) (landed_well lift is_read good) may

  pub frame_there : lift.frame < length fields.roles
  frame_there = (ended.can before seat lift legal fits).roles

  pub role_as : (o : Option Role) → o ≡ slice_index_or fields.roles lift.frame o → (r : Role) → o ≡ Some r → IsReadAs past lift.start r
  role_as o read r is =
      subst (IsReadAs past lift.start) (same_Some _ _ (sym ((ended.can before seat lift legal fits).role o read) ∙ is))
      (legal.row.flight, legal.row.lands.open_k, legal.row.reads)

  pub role_there : (o : Option Role) → o ≡ slice_index_or fields.roles lift.frame o → IsSome o
  role_there o read = subst IsSome (sym ((ended.can before seat lift legal fits).role o read)) refl
