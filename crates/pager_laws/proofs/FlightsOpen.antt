-- A flight is open exactly where it was begun and no landing names it.
use Rattle.std.proofs.Common.{◌≡◌, ℕ, ◌+◌, ◌≤◌, ◌||◌, Bool, true, false, cond, not, List, [], ◌∷◌, Some, None, length, find, nat_eq, refl, sym, ap, ◌∙◌, subst, arith}
use Rattle.std.proofs.lemmas.Bool.{false≢true, eqb-true, eq-eqb, ne_eqb, eqb-false}
use Rattle.std.proofs.lemmas.Option.{none-some}
use Rattle.vm_types.specs.declared.config.Config.{Config}
use Rattle.vm_journal.specs.declared.entry.Entry.{Entry}
use Rattle.vm_journal.specs.declared.entry.What.{What}
use Rattle.vm_journal.specs.declared.entry.What.TheVariants as what
use Rattle.pager_model.specs.Fits.{lands}
use Rattle.pager_model.specs.Flights.{Flight, begun_by, begun_in, flights_with, open_flights, reading, without_flight, writing}
use Rattle.pager_model.specs.Pager.{Pager}
use Rattle.pager_model.specs.Run.{pager_after, IsRun}
use Rattle.pager_model.specs.Step.{IsLegalWhat}
use Rattle.pager_model.specs.Transfers.{starts}
use Rattle.pager_laws.specs.Laws.{IsOpen, is_landed}
use Rattle.pager_rules.proofs.Basics.{find_cons_no, find_cons_yes}
use Rattle.pager_rules.proofs.Lists.{all_found, found_passes}
use Rattle.pager_rules.proofs.Quiet.{starts_by}
use Rattle.pager_laws.proofs.InFailKept.{begun_open, none_left}

-- what a landing leaves
left_open : (k j : ℕ) (flights : List Flight) → nat_eq k j ≡ false → find (starts k) (without_flight j flights) ≡ find (starts k) flights
left_open k j [] apart = refl
left_open k j (y ∷ flights) apart = go (nat_eq y.start j) refl (nat_eq y.start k) refl (left_open k j flights apart)
  where
    go : (b : Bool) → nat_eq y.start j ≡ b → (c : Bool) → nat_eq y.start k ≡ c → find (starts k) (without_flight j flights) ≡ find (starts k) flights
        → find (starts k) (cond (not b) (y ∷ without_flight j flights) (without_flight j flights)) ≡ find (starts k) (y ∷ flights)
    go true lands true here rest = absurd (eqb-false k j apart (sym (eqb-true _ _ here) ∙ eqb-true _ _ lands))
    go true lands false later rest = rest ∙ sym (find_cons_no (starts k) y flights later)
    go false stays true here rest = find_cons_yes (starts k) y (without_flight j flights) here ∙ sym (find_cons_yes (starts k) y flights here)
    go false stays false later rest = find_cons_no (starts k) y (without_flight j flights) later ∙ (rest ∙ sym (find_cons_no (starts k) y flights later))

-- a landing names an open flight
landing_names : (config : Config) (past : List Entry) (a : Pager) (p k : ℕ) (w : What) → IsLegalWhat config past a p w → lands k w ≡ true → (x : Flight) × (find (starts k) (open_flights past) ≡ Some x)
landing_names config past a p k (what.InOk f j) legal same = (legal.flight, subst (λ (i : ℕ). find (starts i) (open_flights past) ≡ Some legal.flight) (sym (eqb-true k j same)) legal.lands.open_k)
landing_names config past a p k (what.InFail f j c d) legal same = (legal.flight, subst (λ (i : ℕ). find (starts i) (open_flights past) ≡ Some legal.flight) (sym (eqb-true k j same)) legal.lands.open_k)
landing_names config past a p k (what.OutOk f j) legal same = (legal.flight, subst (λ (i : ℕ). find (starts i) (open_flights past) ≡ Some legal.flight) (sym (eqb-true k j same)) legal.lands.open_k)
landing_names config past a p k (what.OutFail f j c d) legal same = (legal.write.flight, subst (λ (i : ℕ). find (starts i) (open_flights past) ≡ Some legal.write.flight) (sym (eqb-true k j same)) legal.write.lands.open_k)
landing_names config past a p k other legal same = absurd (false≢true same)

-- no landing names a number that no entry has yet
none_names : (config : Config) (past : List Entry) (k : ℕ) → IsRun config past → length past ≤ k → is_landed k past ≡ false
none_names config [] k run above = refl
none_names config (e ∷ past) k run above = go (lands k e.what) refl (none_names config past k run.0 (omega (arith, above)))
  where
    go : (b : Bool) → lands k e.what ≡ b → is_landed k past ≡ false → (b || is_landed k past) ≡ false
    go false is rest = rest
    go true is rest =
        let named = landing_names config past (pager_after config past) (e.seat).0 k e.what run.1.row is in
        let start : named.0.start ≡ k = eqb-true _ _ (found_passes (starts k) (open_flights past) named.0 named.1) in
        let small = all_found (λ (y : Flight). y.start ≤ length past) (starts k) (open_flights past) named.0 (starts_by past) named.1 in
        absurd (omega (arith, small, start, above))

-- an open flight was named by no landing
pub open_unlanded : (config : Config) (past : List Entry) (k : ℕ) (x : Flight) → IsRun config past → find (starts k) (open_flights past) ≡ Some x → is_landed k past ≡ false
open_unlanded config [] k x run found = refl
open_unlanded config (e ∷ past) k x run found = by e.what found (open_unlanded config past k x run.0)
  where
    n : ℕ
    n = length past + 1

    begins : (y : Flight) → y.start ≡ n → find (starts k) (y ∷ open_flights past) ≡ Some x → (find (starts k) (open_flights past) ≡ Some x → is_landed k past ≡ false) → is_landed k past ≡ false
    begins y start is rest = go (nat_eq y.start k) refl
      where
        go : (b : Bool) → nat_eq y.start k ≡ b → is_landed k past ≡ false
        go true same = let k_is : k ≡ n = sym (eqb-true _ _ same) ∙ start in none_names config past k run.0 (omega (arith, k_is))
        go false apart = rest (sym (find_cons_no (starts k) y (open_flights past) apart) ∙ is)

    lands_other : (j : ℕ) → find (starts k) (without_flight j (open_flights past)) ≡ Some x → (find (starts k) (open_flights past) ≡ Some x → is_landed k past ≡ false) → (nat_eq k j || is_landed k past) ≡ false
    lands_other j is rest = go (nat_eq k j) refl
      where
        go : (b : Bool) → nat_eq k j ≡ b → (b || is_landed k past) ≡ false
        go true same = absurd (none-some x (sym (subst (λ (i : ℕ). find (starts k) (without_flight i (open_flights past)) ≡ None) (eqb-true k j same) (none_left k (open_flights past))) ∙ is))
        go false apart = rest (sym (left_open k j (open_flights past) apart) ∙ is)

    by : (w : What) → find (starts k) (flights_with n (e.seat).0 w (open_flights past)) ≡ Some x → (find (starts k) (open_flights past) ≡ Some x → is_landed k past ≡ false) → (lands k w || is_landed k past) ≡ false
    by (what.In f block role) is rest = begins (record { start = n; seat = (e.seat).0; frame = f.0; block = block; direction = reading role }) refl is rest
    by (what.Out f block) is rest = begins (record { start = n; seat = (e.seat).0; frame = f.0; block = block; direction = writing }) refl is rest
    by (what.InOk f j) is rest = lands_other j is rest
    by (what.InFail f j c d) is rest = lands_other j is rest
    by (what.OutOk f j) is rest = lands_other j is rest
    by (what.OutFail f j c d) is rest = lands_other j is rest
    by other is rest = rest is

-- what was begun and is named by no landing is open
pub unlanded_open : (past : List Entry) (k : ℕ) (x : Flight) → begun_in k past ≡ Some x → is_landed k past ≡ false → find (starts k) (open_flights past) ≡ Some x
unlanded_open [] k x begun landed = absurd (none-some x begun)
unlanded_open (e ∷ past) k x begun landed = by (nat_eq k (length past + 1)) refl e.what begun landed (unlanded_open past k x)
  where
    n : ℕ
    n = length past + 1

    begins : (make : ℕ → Flight) → ((m : ℕ) → (make m).start ≡ m) → (b : Bool) → nat_eq k n ≡ b → cond b (Some (make k)) (begun_in k past) ≡ Some x → (begun_in k past ≡ Some x → find (starts k) (open_flights past) ≡ Some x)
        → find (starts k) (make n ∷ open_flights past) ≡ Some x
    begins make start true is here rest =
        let same : n ≡ k = sym (eqb-true k n is) in
        find_cons_yes (starts k) (make n) (open_flights past) (eq-eqb _ _ (start n ∙ same)) ∙ (ap (λ (m : ℕ). Some (make m)) same ∙ here)
    begins make start false is there rest =
        find_cons_no (starts k) (make n) (open_flights past) (ne_eqb _ _ (λ same. eqb-false k n is (sym same ∙ start n))) ∙ rest there

    older : (b : Bool) → nat_eq k n ≡ b → cond b None (begun_in k past) ≡ Some x → begun_in k past ≡ Some x
    older true is here = absurd (none-some x here)
    older false is there = there

    stays : (j : ℕ) (b : Bool) → nat_eq k n ≡ b → cond b None (begun_in k past) ≡ Some x → (c : Bool) → nat_eq k j ≡ c → (c || is_landed k past) ≡ false → (begun_in k past ≡ Some x → is_landed k past ≡ false → find (starts k) (open_flights past) ≡ Some x)
        → find (starts k) (without_flight j (open_flights past)) ≡ Some x
    stays j b is there true same landed rest = absurd (false≢true (sym landed))
    stays j b is there false apart landed rest = left_open k j (open_flights past) apart ∙ rest (older b is there) landed

    by : (b : Bool) → nat_eq k n ≡ b → (w : What) → cond b (begun_by k (e.seat).0 w) (begun_in k past) ≡ Some x → (lands k w || is_landed k past) ≡ false
        → (begun_in k past ≡ Some x → is_landed k past ≡ false → find (starts k) (open_flights past) ≡ Some x) → find (starts k) (flights_with n (e.seat).0 w (open_flights past)) ≡ Some x
    by b is (what.In f block role) begun landed rest = begins (λ m. record { start = m; seat = (e.seat).0; frame = f.0; block = block; direction = reading role }) (λ m. refl) b is begun (λ there. rest there landed)
    by b is (what.Out f block) begun landed rest = begins (λ m. record { start = m; seat = (e.seat).0; frame = f.0; block = block; direction = writing }) (λ m. refl) b is begun (λ there. rest there landed)
    by b is (what.InOk f j) begun landed rest = stays j b is begun (nat_eq k j) refl landed rest
    by b is (what.InFail f j c d) begun landed rest = stays j b is begun (nat_eq k j) refl landed rest
    by b is (what.OutOk f j) begun landed rest = stays j b is begun (nat_eq k j) refl landed rest
    by b is (what.OutFail f j c d) begun landed rest = stays j b is begun (nat_eq k j) refl landed rest
    by b is other begun landed rest = rest (older b is begun) landed

pub open_exactly : (config : Config) (past : List Entry) (k : ℕ) (x : Flight) → IsRun config past → IsOpen past k x
open_exactly config past k x run = record {
  begun = λ found. begun_open past k x found;
  unlanded = λ found. open_unlanded config past k x run found;
  open_now = λ begun landed. unlanded_open past k x begun landed;
}
