-- A way of a read, by its role.
use Rattle.std.proofs.Common.{◌≡◌, ◌↔◌, ℕ, sym, ap, ◌∙◌}
use Rattle.vm_types.specs.declared.names.Addr.{Addr}
use Rattle.vm_types.specs.declared.names.Proc.{Proc}
use Rattle.vm_journal.specs.declared.entry.Role.{Role}
use Rattle.vm_journal.specs.declared.entry.Role.TheVariants as role
use Rattle.pager_model.specs.Flights.{Direction, reading, writing}

abbrev role_or : Role → Direction → Role
role_or other (reading r) = r
role_or other writing = other

pub for_role : (d : Direction) (r : Role) (n : ℕ) (T : Type 0) → d ≡ reading r → (T ↔ ((q : Proc) (at : Addr) → r ≡ role.Fault q at → at.0 ≡ n)) → (T ↔ ((q : Proc) (at : Addr) → d ≡ reading (role.Fault q at) → at.0 ≡ n))
for_role d r n T is both = (λ t q at same. both.0 t q at (ap (role_or r) (sym is ∙ same)), λ all. both.1 (λ q at e. all q at (is ∙ ap reading e)))
