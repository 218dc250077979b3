-- In a run a seat's carrier has as many flights open as were begun and haven't landed.
use Rattle.pager_model.specs.Transfers.{is_by, flights_of}
use Rattle.std.proofs.Common.{◌≡◌, ℕ, ◌+◌, Bool, true, false, cond, List, [], ◌∷◌, Some, nat_eq, length, refl, ap, ◌∙◌, arith}
use Rattle.vm_types.specs.declared.config.Config.{Config}
use Rattle.vm_journal.specs.declared.entry.Entry.{Entry}
use Rattle.vm_journal.specs.declared.entry.What.{What}
use Rattle.vm_journal.specs.declared.entry.What.TheVariants as what
use Rattle.pager_model.specs.Carrier.{Carrying, carried, carrying, carrying_with}
use Rattle.pager_model.specs.Flights.{Flight, flights_with, is_busy, open_flights, reading, without_flight, writing}
use Rattle.pager_model.specs.InOk.{IsLanding}
use Rattle.pager_model.specs.Pager.{Pager}
use Rattle.pager_model.specs.Run.{IsRun, pager_after}
use Rattle.pager_model.specs.Step.{IsLegalWhat}
use Rattle.pager_model.specs.Transfers.{starts}
use Rattle.pager_rules.proofs.Basics.{count_cons_no, count_cons_yes, count_none}
use Rattle.pager_rules.proofs.Lists.{count_removed_no, count_removed_yes}
use Rattle.pager_rules.proofs.Quiet.{starts_once}

abbrev IsBalanced : Carrying → ℕ → List Flight → Type 0
IsBalanced c s flights = c.begun ≡ c.landed + flights_of s flights

module _ (config : Config) (past : List Entry) (a : Pager) (seat s : ℕ) (c : Carrying) (old : IsBalanced c s (open_flights past)) where
  begins : (x y : Flight) → x.seat ≡ seat → (b : Bool) → nat_eq seat s ≡ b → (busy : Bool) → is_busy s (open_flights past) ≡ busy → IsBalanced (cond b (carried busy c (Some y)) c) s (x ∷ open_flights past)
  begins x y by true is true busy = omega (arith, old, count_cons_yes (is_by s) x (open_flights past) (ap (λ (r : ℕ). nat_eq r s) by ∙ is))
  begins x y by true is false idle = omega (arith, count_none (is_by s) (open_flights past) idle, count_cons_yes (is_by s) x (open_flights past) (ap (λ (r : ℕ). nat_eq r s) by ∙ is))
  begins x y by false is busy some = omega (arith, old, count_cons_no (is_by s) x (open_flights past) (ap (λ (r : ℕ). nat_eq r s) by ∙ is))

  lands : (f k : ℕ) (x : Flight) (next : Carrying) → next.begun ≡ c.begun → next.landed ≡ c.landed + 1 → IsLanding past seat f k x → (b : Bool) → nat_eq seat s ≡ b → IsBalanced (cond b next c) s (without_flight k (open_flights past))
  lands f k x next begun landed legal true is = omega (arith, old, begun, landed, count_removed_yes (is_by s) (starts k) (open_flights past) x legal.open_k (starts_once past k) (ap (λ (r : ℕ). nat_eq r s) legal.seat ∙ is))
  lands f k x next begun landed legal false is = omega (arith, old, count_removed_no (is_by s) (starts k) (open_flights past) x legal.open_k (starts_once past k) (ap (λ (r : ℕ). nat_eq r s) legal.seat ∙ is))

  row : (w : What) → IsLegalWhat config past a seat w → (b : Bool) → nat_eq seat s ≡ b
      → IsBalanced (cond b (carrying_with (length past + 1) s (is_busy s (open_flights past)) w c) c) s (flights_with (length past + 1) seat w (open_flights past))
  row (what.In f d r) legal b is = begins (record { start = length past + 1; seat = seat; frame = f.0; block = d; direction = reading r }) (record { start = length past + 1; seat = s; frame = f.0; block = d; direction = reading r }) refl b is (is_busy s (open_flights past)) refl
  row (what.Out f d) legal b is = begins (record { start = length past + 1; seat = seat; frame = f.0; block = d; direction = writing }) (record { start = length past + 1; seat = s; frame = f.0; block = d; direction = writing }) refl b is (is_busy s (open_flights past)) refl
  row (what.InOk f k) legal b is = lands f.0 k legal.flight (carrying_with (length past + 1) s (is_busy s (open_flights past)) (what.InOk f k) c) refl refl legal.lands b is
  row (what.OutOk f k) legal b is = lands f.0 k legal.flight (carrying_with (length past + 1) s (is_busy s (open_flights past)) (what.OutOk f k) c) refl refl legal.lands b is
  row (what.InFail f k d e) legal b is = lands f.0 k legal.flight (carrying_with (length past + 1) s (is_busy s (open_flights past)) (what.InFail f k d e) c) refl refl legal.lands b is
  row (what.OutFail f k d e) legal b is = lands f.0 k legal.write.flight (carrying_with (length past + 1) s (is_busy s (open_flights past)) (what.OutFail f k d e) c) refl refl legal.write.lands b is
  row other legal true is = old
  row other legal false is = old

pub carriers_balance : (config : Config) (past : List Entry) → IsRun config past → (s : ℕ) → IsBalanced (carrying s past) s (open_flights past)
carriers_balance config [] run s = refl
carriers_balance config (e ∷ past) run s = row config past (pager_after config past) (e.seat).0 s (carrying s past) (carriers_balance config past run.0 s) e.what run.1.row (nat_eq (e.seat).0 s) refl
