use Rattle.std.proofs.Common.{inl, arith}
use Rattle.std.proofs.lemmas.Option.{none-some}
use Rattle.serial_laws.proofs.laws.first_control_fits.Goals as goal

pub returns-clause-first : goal.returns-clause-first
returns-clause-first c = λ config formed. record { leaving = λ q is. absurd (none-some q is); answered_process = tt; waiting = tt; touched = inl (λ g some. absurd (omega (arith, some))) }

pub returns-clause-cleaning : goal.returns-clause-cleaning
returns-clause-cleaning c = λ config past. record { leaving = λ q is. absurd (none-some q is); answered_process = tt; waiting = tt; touched = tt }
