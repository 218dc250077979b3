-- What a cluster makes that is written for need are the writes of the list's first frames, also where it has none.
use Rattle.std.proofs.Common.{◌≡◌, ℕ, Bool, true, false, cond, ◌||◌, List, [], ◌∷◌, None, length, nat_eq, refl, sym, arith}
use Rattle.std.proofs.lemmas.Bool.{eqb-true}
use Rattle.vm_types.specs.declared.config.Config.{Config}
use Rattle.vm_journal.specs.declared.entry.What.{What}
use Rattle.pager_model.specs.Pager.{Pager}
use Rattle.pager_policy.specs.Given.{Given, given}
use Rattle.pager_policy.specs.WriteCluster.{BeginIs, begin_carry, begin_gives, begin_nothing, reason_need, writes_from}
use Rattle.policy_tables.specs.Words.{cluster}

abbrev made_unless : Bool → List What → List What
made_unless none ws = (cond {A = Given BeginIs} (none || none) (given [] begin_nothing) (given ws begin_carry)).made

made_some : (b : Bool) (f : ℕ) (frames : List ℕ) (ws : List What) → nat_eq (length (f ∷ frames)) 0 ≡ b → made_unless b ws ≡ ws
made_some true f frames ws is = absurd (let none = eqb-true (length (f ∷ frames)) 0 is in omega (arith, none))
made_some false f frames ws is = refl

made_of : (frames : List ℕ) (writes : List ℕ → List What) → writes [] ≡ [] → made_unless (nat_eq (length frames) 0) (writes frames) ≡ writes frames
made_of [] writes none = sym none
made_of (f ∷ frames) writes none = made_some (nat_eq (length (f ∷ frames)) 0) f frames (writes (f ∷ frames)) refl

pub made_for_need : (config : Config) (a : Pager) → (begin_gives config a reason_need).made ≡ cluster config a
made_for_need config a = made_of a.modified (writes_from config a config.params.wrtcluster None) refl
