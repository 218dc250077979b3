-- A flight that an entry begins is the one that is asked whether it may join.
use Rattle.std.proofs.Common.{◌≡◌, ◌↔◌, Option, Some, None, sym, subst, ◌∙◌}
use Rattle.std.specs.Prelude.{IfSome}
use Rattle.std.proofs.lemmas.Option.{same_Some}
use Rattle.vm_types.specs.declared.config.Config.{Config}
use Rattle.pager_model.specs.Carrier.{Carrying}
use Rattle.pager_model.specs.Flights.{Flight}
use Rattle.pager_model.specs.InTurn.{MayJoin}
use Rattle.log_reasons.specs.SeatReasons.{MayJoinFails}
use Rattle.log_reasons.specs.declared.reason.Reason.{Reason}

pub begun_joins : (config its : Config) (last its_last : Carrying) (begun : Option Flight) (x : Flight) (T : Type 0) → its ≡ config → its_last ≡ last → begun ≡ Some x
    → (T ↔ MayJoin its its_last x) → (T ↔ ((y : Flight) → begun ≡ Some y → MayJoin config last y))
begun_joins config its last its_last begun x T same same_last is both = (
  λ t y b. subst (λ (z : Flight). MayJoin config last z) (same_Some x y (sym is ∙ b)) (subst (λ (k : Carrying). MayJoin config k x) same_last (subst (λ (g : Config). MayJoin g its_last x) same (both.0 t))),
  λ all. both.1 (subst (λ (g : Config). MayJoin g its_last x) (sym same) (subst (λ (k : Carrying). MayJoin config k x) (sym same_last) (all x is))),
)

-- or why it may not
pub begun_fails : (config its : Config) (last its_last : Carrying) (begun : Option Flight) (x : Flight) (Busy : Type 0) (o : Option Reason) → its ≡ config → its_last ≡ last → begun ≡ Some x → Busy
    → IfSome o (MayJoinFails its its_last x) → IfSome o (λ r. (y : Flight) × (begun ≡ Some y) × Busy × MayJoinFails config last y r)
begun_fails config its last its_last begun x Busy None same same_last is busy says = tt
begun_fails config its last its_last begun x Busy (Some r) same same_last is busy says =
    (x, is, busy, subst (λ (k : Carrying). MayJoinFails config k x r) same_last (subst (λ (g : Config). MayJoinFails g its_last x r) same says))
