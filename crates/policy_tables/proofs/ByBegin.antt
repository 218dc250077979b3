-- What a write cluster makes is the table's first row that holds.
use Rattle.std.proofs.Common.{◌≡◌, Bool, true, false, cond, ◌||◌, [], ◌∷◌, Some, None, length, nat_eq, nat_le, refl}
use Rattle.vm_types.specs.declared.config.Config.{Config}
use Rattle.pager_model.specs.Pager.{Pager}
use Rattle.pager_policy.specs.Given.{Given, given}
use Rattle.pager_policy.specs.WriteCluster.{BeginIs, Reason, begin_carry, begin_gives, begin_nothing, reason_high, reason_need, writes_from}
use Rattle.policy_tables.specs.BeginCases.{begin_cases}
use Rattle.policy_tables.specs.Rows.{first_case, otherwise, when}

-- two reasons for nothing, asked in either order
either_empty : (short empty : Bool) (writes : Given BeginIs) → first_case (when empty (given [] begin_nothing) ∷ when short (given [] begin_nothing) ∷ otherwise writes ∷ []) ≡ Some (cond (short || empty) (given [] begin_nothing) writes)
either_empty true true writes = refl
either_empty true false writes = refl
either_empty false true writes = refl
either_empty false false writes = refl

empty_only : (empty : Bool) (writes : Given BeginIs) → first_case (when empty (given [] begin_nothing) ∷ when false (given [] begin_nothing) ∷ otherwise writes ∷ []) ≡ Some (cond (empty || empty) (given [] begin_nothing) writes)
empty_only true writes = refl
empty_only false writes = refl

pub goes_by_cases : (config : Config) (a : Pager) (reason : Reason) → first_case (begin_cases config a reason) ≡ Some (begin_gives config a reason)
unfolding begin_cases
goes_by_cases config a reason_high = either_empty (nat_le (length a.modified) config.params.lolimit) (nat_eq (length a.modified) 0) (given (writes_from config a config.params.wrtcluster None a.modified) begin_carry)
goes_by_cases config a reason_need = empty_only (nat_eq (length a.modified) 0) (given (writes_from config a config.params.wrtcluster None a.modified) begin_carry)
