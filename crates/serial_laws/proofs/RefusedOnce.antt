-- Each refusal for a failed transfer uses up a carrier of its seat that has a failed transfer.
use Rattle.std.proofs.Common.{◌≡◌, inl, inr, ℕ, ◌+◌, ◌<◌, ◌≤◌, ◌&&◌, ◌||◌, Bool, true, false, cond, List, [], ◌∷◌, Option, Some, None, length, nat_eq, nat_lt, refl, sym, arith, subst}
use Rattle.std.proofs.lemmas.Bool.{and_parts, eqb-true, false≢true, ltb-true}
use Rattle.vm_types.specs.declared.config.Config.{Config}
use Rattle.vm_types.specs.declared.reference.Ref.{Ref}
use Rattle.vm_types.specs.declared.reply.Answer.{Answer}
use Rattle.vm_types.specs.declared.reply.Answer.TheVariants as answer
use Rattle.vm_types.specs.declared.reply.Why.{Why}
use Rattle.vm_types.specs.declared.reply.Why.TheVariants as why
use Rattle.vm_types.specs.declared.service.Service.{Service}
use Rattle.vm_journal.specs.declared.entry.Entry.{Entry}
use Rattle.vm_journal.specs.declared.entry.What.{What}
use Rattle.vm_journal.specs.declared.entry.What.TheVariants as what
use Rattle.pager_model.specs.Carrier.{Carrying, HasLost, begins_with_fault, carried, carrying, carrying_with, is_lost, is_start}
use Rattle.pager_model.specs.Denied.{IsDenial}
use Rattle.pager_model.specs.Flights.{Flight, begun_by, is_busy, open_flights}
use Rattle.pager_model.specs.Pager.{Pager}
use Rattle.pager_model.specs.Run.{IsRun, pager_after}
use Rattle.pager_model.specs.Served.{IsServed}
use Rattle.pager_model.specs.Step.{IsLegalWhat}
use Rattle.pager_rules.proofs.Basics.{count_cons}
use Rattle.serial_laws.specs.Refused.{failures_of, is_disk_refusal, is_failure, is_own, refusals_of}

-- what a seat may still be refused for
abbrev owed : Carrying → ℕ
owed c = cond c.spoken_since 0 c.failed

-- the refusals, with what may still be refused for, are within the failures; a first failure is counted
record Holds (c : Carrying) (refusals failures : ℕ) : Type 0 where
  within : refusals + owed c ≤ failures
  first : c.first_failed ≡ true → 0 < c.failed

abbrev one_if : Bool → ℕ
one_if b = cond b 1 0

-- a carrier that is lost has a failure
has_failure : (c : Carrying) → (c.first_failed ≡ true → 0 < c.failed) → is_lost c ≡ true → 0 < c.failed
has_failure c first lost = by (begins_with_fault c.first && c.first_failed) refl (and_parts (nat_lt 0 c.begun) _ lost)
  where
    by : (b : Bool) → (begins_with_fault c.first && c.first_failed) ≡ b → (nat_lt 0 c.begun ≡ true) × ((b || nat_eq c.failed c.begun) ≡ true) → 0 < c.failed
    by true is parts = first ((and_parts (begins_with_fault c.first) c.first_failed is).1)
    by false is parts = let some = ltb-true 0 c.begun parts.0 in let all = eqb-true c.failed c.begun parts.1 in omega (arith, some, all)

module _ (c : Carrying) (refusals failures : ℕ) (h : Holds c refusals failures) where
  -- one that is no refusal and no failure, and leaves the carrier or begins the next
  kept : Holds c (one_if false + refusals) (one_if false + failures)
  kept = record { within = let w = h.within in omega (arith, w); first = h.first }

  begun : (busy : Bool) (o : Option Flight) → Holds (carried busy c o) (one_if false + refusals) (one_if false + failures)
  begun true (Some x) = record { within = let w = h.within in omega (arith, w); first = h.first }
  begun false (Some x) = record { within = let w = h.within in omega (arith, w); first = λ e. absurd (false≢true e) }
  begun busy None = kept

  landed : Holds (record c { landed = c.landed + 1 }) (one_if false + refusals) (one_if false + failures)
  landed = record { within = let w = h.within in omega (arith, w); first = h.first }

  failed : (k : ℕ) → Holds (record c { landed = c.landed + 1; failed = c.failed + 1; first_failed = c.first_failed || is_start c.first k }) (one_if false + refusals) (one_if true + failures)
  failed k = record { within = by c.spoken_since h.within; first = λ e. omega arith }
    where
      by : (spoken : Bool) → refusals + cond spoken 0 c.failed ≤ failures → one_if false + refusals + cond spoken 0 (c.failed + 1) ≤ one_if true + failures
      by true w = omega (arith, w)
      by false w = omega (arith, w)

  -- it speaks: it may be refused for a lost carrier only if it hasn't spoken since
  spoken : (refused : Bool) → (refused ≡ true → (is_lost c ≡ true) × (c.spoken_since ≡ false)) → Holds (record c { spoken_since = true }) (one_if refused + refusals) (one_if false + failures)
  spoken false may = record { within = let w = h.within in omega (arith, w); first = h.first }
  spoken true may =
      let some = has_failure c h.first (may refl).0 in
      let w = subst (λ (b : Bool). refusals + cond b 0 c.failed ≤ failures) ((may refl).1) h.within in
      record { within = omega (arith, some, w); first = h.first }

  step : (number seat : ℕ) (busy : Bool) (w : What) → (is_disk_refusal w ≡ true → (is_lost c ≡ true) × (c.spoken_since ≡ false))
      → Holds (carrying_with number seat busy w c) (one_if (is_disk_refusal w) + refusals) (one_if (is_failure w) + failures)
  step number seat busy (what.Done r reply) may = spoken false (λ e. absurd (false≢true e))
  step number seat busy (what.Denied r reason) may = spoken (is_disk_refusal (what.Denied r reason)) may
  step number seat busy (what.Served s reply) may = spoken (is_disk_refusal (what.Served s reply)) may
  step number seat busy (what.Reuse f g) may = kept
  step number seat busy (what.Zero a f) may = kept
  step number seat busy (what.Back q a f from) may = kept
  step number seat busy (what.Collide a f k) may = kept
  step number seat busy (what.In f b r) may = begun busy (begun_by number seat (what.In f b r))
  step number seat busy (what.InOk f k) may = landed
  step number seat busy (what.InFail f k old new) may = failed k
  step number seat busy (what.Out f b) may = begun busy (begun_by number seat (what.Out f b))
  step number seat busy (what.OutOk f k) may = landed
  step number seat busy (what.OutFail f k old new) may = failed k
  step number seat busy (what.Evict q a f why to) may = kept
  step number seat busy (what.Limit n faults) may = kept
  step number seat busy (what.Turn q s) may = kept

-- ---- a legal refusal has a lost carrier
module _ (config : Config) (past : List Entry) (a : Pager) (seat : ℕ) where
  denied : (r : Ref) (reason : Why) → IsDenial config past a seat r reason → is_disk_refusal (what.Denied r reason) ≡ true → HasLost past seat
  denied r why.DiskFault (inl flat) e = absurd flat.flat_why
  denied r why.Unmapped (inl flat) e = absurd (false≢true e)
  denied r why.Protected (inl flat) e = absurd (false≢true e)
  denied r why.PageFileFull (inl flat) e = absurd (false≢true e)
  denied r reason (inr fault) e = fault.lost

  served : (s : Service) (reply : Answer) → IsServed config past a seat s reply → is_disk_refusal (what.Served s reply) ≡ true → HasLost past seat
  served s answer.DiskFault legal e = legal.lost
  served s answer.Good legal e = absurd (false≢true e)
  served s (answer.Count n) legal e = absurd (false≢true e)
  served s answer.InUse legal e = absurd (false≢true e)
  served s answer.Unmapped legal e = absurd (false≢true e)
  served s answer.LockLimit legal e = absurd (false≢true e)
  served s answer.BadLimit legal e = absurd (false≢true e)

  lost : (w : What) → IsLegalWhat config past a seat w → is_disk_refusal w ≡ true → HasLost past seat
  lost (what.Denied r reason) legal e = denied r reason legal e
  lost (what.Served s reply) legal e = served s reply legal e
  lost (what.Done r reply) legal e = absurd (false≢true e)
  lost (what.Reuse f g) legal e = absurd (false≢true e)
  lost (what.Zero at f) legal e = absurd (false≢true e)
  lost (what.Back q at f from) legal e = absurd (false≢true e)
  lost (what.Collide at f k) legal e = absurd (false≢true e)
  lost (what.In f b r) legal e = absurd (false≢true e)
  lost (what.InOk f k) legal e = absurd (false≢true e)
  lost (what.InFail f k old new) legal e = absurd (false≢true e)
  lost (what.Out f b) legal e = absurd (false≢true e)
  lost (what.OutOk f k) legal e = absurd (false≢true e)
  lost (what.OutFail f k old new) legal e = absurd (false≢true e)
  lost (what.Evict q at f why to) legal e = absurd (false≢true e)
  lost (what.Limit n faults) legal e = absurd (false≢true e)
  lost (what.Turn q s) legal e = absurd (false≢true e)

module _ (config : Config) (seat : ℕ) where
  -- one more entry, of this seat or another
  one_more : (e : Entry) (past : List Entry) (own : Bool) → nat_eq (e.seat).0 seat ≡ own → Holds (carrying seat past) (refusals_of seat past) (failures_of seat past)
      → (own ≡ true → is_disk_refusal e.what ≡ true → HasLost past seat)
      → Holds (cond own (carrying_with (length past + 1) seat (is_busy seat (open_flights past)) e.what (carrying seat past)) (carrying seat past))
      (one_if (own && is_disk_refusal e.what) + refusals_of seat past) (one_if (own && is_failure e.what) + failures_of seat past)
  one_more e past true is h may =
      step (carrying seat past) (refusals_of seat past) (failures_of seat past) h (length past + 1) seat (is_busy seat (open_flights past)) e.what
      (λ refused. let l = may refl refused in (l.lost, l.unspoken))
  one_more e past false is h may = kept (carrying seat past) (refusals_of seat past) (failures_of seat past) h

  holds : (past : List Entry) → IsRun config past → Holds (carrying seat past) (refusals_of seat past) (failures_of seat past)
  holds [] run = record { within = omega arith; first = λ e. absurd (false≢true e) }
  holds (e ∷ past) run =
      subst (λ (r : ℕ). Holds (carrying seat (e ∷ past)) r (failures_of seat (e ∷ past))) (sym (count_cons (is_own is_disk_refusal seat) e past))
      (subst (λ (f : ℕ). Holds (carrying seat (e ∷ past)) (one_if (is_own is_disk_refusal seat e) + refusals_of seat past) f) (sym (count_cons (is_own is_failure seat) e past))
      (one_more e past (nat_eq (e.seat).0 seat) refl (holds past run.0) may))
    where
      may : nat_eq (e.seat).0 seat ≡ true → is_disk_refusal e.what ≡ true → HasLost past seat
      may own refused = subst (HasLost past) (eqb-true (e.seat).0 seat own) (lost config past (pager_after config past) (e.seat).0 e.what (run.1).row refused)

pub failures_refuse_once : (config : Config) (past : List Entry) (seat : ℕ) → IsRun config past → refusals_of seat past ≤ failures_of seat past
failures_refuse_once config past seat run = let w = (holds config seat past run).within in omega (arith, w)
