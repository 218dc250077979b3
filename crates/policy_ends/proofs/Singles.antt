-- Single entries that lower the later numbers of a rank: a turn, an adjustment, an eviction, a page that comes
-- back to a coming process.
use Rattle.std.proofs.Common.{◌≡◌, ℕ, ◌*◌, ◌<◌, ◌≤◌, ◌&&◌, Bool, true, false, not, cond, List, ◌∷◌, Option, Some, None, length, count_by, slice_get, slice_set, nat_eq, nat_le, refl, sym, ap, ap₂, ◌∙◌, subst, arith}
use Rattle.std.specs.List.{sum_by}
use Rattle.std.proofs.lemmas.Bool.{eqb-false, eqb-true, eq-eqb, false≢true, leb-true, ne_eqb}
use Rattle.vm_types.specs.declared.limits.TheConstants.{PAGE_BYTES}
use Rattle.vm_types.specs.Ring.{Held, Ring, filled, is_filled_slot}
use Rattle.vm_types.specs.declared.names.FrameState.{FrameState}
use Rattle.vm_types.specs.declared.names.ProcStatus.{ProcStatus}
use Rattle.vm_types.specs.declared.config.Config.{Config}
use Rattle.vm_journal.specs.declared.entry.Entry.{Entry}
use Rattle.vm_journal.specs.declared.entry.EvictWhy.{EvictWhy}
use Rattle.vm_journal.specs.declared.entry.EvictWhy.TheVariants as evict
use Rattle.vm_journal.specs.declared.entry.What.TheVariants as what
use Rattle.pager_model.specs.Around.{past_view}
use Rattle.pager_model.specs.Evict.{IsEvict, IsTaken, evicted_ring, victim_of}
use Rattle.pager_model.specs.Flights.{awaits_reuse}
use Rattle.pager_policy.specs.Given.{by_seat, eviction, goes_to}
use Rattle.pager_model.specs.Lookups.{is_pending, slot_with}
use Rattle.pager_model.specs.Maps.{page_number, proc}
use Rattle.pager_model.specs.Pager.{Pager}
use Rattle.pager_model.specs.Run.{IsRun, pager_after}
use Rattle.pager_model.specs.Sets.{at_number}
use Rattle.pager_model.specs.Step.{after}
use Rattle.pager_rules.proofs.Basics.{at_number_cases, at_number_other, at_number_same}
use Rattle.pager_rules.proofs.Lists.{count_written}
use Rattle.pager_rules.proofs.Quiet.{kept_quiet}
use Rattle.pager_rules.specs.Kept.{IsKept}
use Rattle.pager_laws.proofs.EvictKept.{in_its_slot}
use Rattle.pager_laws.proofs.OpeningKept.{in_range}
use Rattle.pager_laws.proofs.RunsAreSound.{run_kept}
use Rattle.serial_laws.proofs.Counting.{each_is, sum_same}
use Rattle.vm_types.specs.Configuration.{IsWellFormed}
use Rattle.policy_ends.specs.Rank.{IsLower, absence, filled_slots, numbers_for, presence, presence_of_others, processes_of}
use Rattle.policy_ends.proofs.Numbers.{AreLower, lower_absence, lower_filled, lower_others, lower_pending}
use Rattle.policy_ends.proofs.Order.{sum_lower}

-- ---- the processes
listed : (config : Config) (q : ℕ) → q < length config.procs → 0 < count_by (λ (m : ℕ). nat_eq m q) (processes_of config)
listed config q there = let one = in_range 0 (length config.procs) q (omega arith) (omega (arith, there)) in omega (arith, one)

weight_less : (p q : ℕ) (x y : ℕ) → x ≤ y → cond (nat_eq q p) 0 x ≤ cond (nat_eq q p) 0 y
weight_less p q x y less = by (nat_eq q p)
  where
    by : (b : Bool) → cond b 0 x ≤ cond b 0 y
    by true = omega arith
    by false = less

-- another process that turns is nearer to being gone
pub others_lower : (config : Config) (a : Pager) (q p : ℕ) (s : ProcStatus) → q < length config.procs → (q ≡ p → ⊥) → presence s < presence (a.status q) → (b : Pager)
    → b.status ≡ at_number a.status q s → presence_of_others config b p < presence_of_others config a p
others_lower config a q p s there apart less b is =
    subst (λ (f : ℕ → ProcStatus). sum_by (λ (m : ℕ). cond (nat_eq m p) 0 (presence (f m))) (processes_of config) < presence_of_others config a p) (sym is)
    (sum_lower (λ (m : ℕ). cond (nat_eq m p) 0 (presence (at_number a.status q s m))) (λ (m : ℕ). cond (nat_eq m p) 0 (presence (a.status m))) (λ (m : ℕ). nat_eq m q) (processes_of config)
    (each_is _ (at_number_cases (λ (m : ℕ) (t : ProcStatus). cond (nat_eq m p) 0 (presence t) ≤ cond (nat_eq m p) 0 (presence (a.status m))) a.status q s (weight_less p q (presence s) (presence (a.status q)) (omega (arith, less))) (λ m other. omega arith)) (processes_of config))
    (λ m same. subst (λ (n : ℕ). cond (nat_eq n p) 0 (presence (at_number a.status q s n)) < cond (nat_eq n p) 0 (presence (a.status n))) (sym (eqb-true m q same)) at)
    (listed config q there))
  where
    at : cond (nat_eq q p) 0 (presence (at_number a.status q s q)) < cond (nat_eq q p) 0 (presence (a.status q))
    at = let no = ne_eqb q p apart in let first = ap₂ (λ (b : Bool) (t : ProcStatus). cond b 0 (presence t)) no (at_number_same a.status q s) in
        let second = ap (λ (b : Bool). cond b 0 (presence (a.status q))) no in omega (arith, first, second, less)

pub others_same : (config : Config) (a b : Pager) (p : ℕ) → b.status ≡ a.status → presence_of_others config b p ≤ presence_of_others config a p
others_same config a b p is = let same = ap (λ (f : ℕ → ProcStatus). sum_by (λ (m : ℕ). cond (nat_eq m p) 0 (presence (f m))) (processes_of config)) is in omega (arith, same)

-- ---- a turn of another process
pub other_turn_lowers : (config : Config) (past : List Entry) (a : Pager) (seat q p u v : ℕ) (s : ProcStatus) → q < length config.procs → (q ≡ p → ⊥) → presence s < presence (a.status q)
    → (more : List Entry) → IsLower (numbers_for config more (after config past a (by_seat seat (what.Turn (proc q) s))) p u) (numbers_for config past a p v)
other_turn_lowers config past a seat q p u v s there apart less more =
    lower_others config past more a (after config past a (by_seat seat (what.Turn (proc q) s))) p u v
    (others_lower config a q p s there apart less (after config past a (by_seat seat (what.Turn (proc q) s))) refl)

-- of the process itself
pub own_turn_lowers : (config : Config) (past : List Entry) (a : Pager) (seat p u v : ℕ) (s : ProcStatus) → absence s < absence (a.status p) → (more : List Entry)
    → IsLower (numbers_for config more (after config past a (by_seat seat (what.Turn (proc p) s))) p u) (numbers_for config past a p v)
own_turn_lowers config past a seat p u v s less more =
    let b : Pager = after config past a (by_seat seat (what.Turn (proc p) s)) in
    lower_absence config past more a b p u v own (let now = ap absence (at_number_same a.status p s) in omega (arith, now, less))
  where
    same_weight : (m : ℕ) → (b : Bool) → nat_eq m p ≡ b → cond b 0 (presence (at_number a.status p s m)) ≡ cond b 0 (presence (a.status m))
    same_weight m true is = refl
    same_weight m false is = ap presence (at_number_other a.status p s m (λ same. false≢true (sym is ∙ eq-eqb m p (sym same))))

    own : presence_of_others config (after config past a (by_seat seat (what.Turn (proc p) s))) p ≤ presence_of_others config a p
    own = let same = sum_same (λ (m : ℕ). cond (nat_eq m p) 0 (presence (at_number a.status p s m))) (λ (m : ℕ). cond (nat_eq m p) 0 (presence (a.status m))) (processes_of config) (each_is _ (λ m. same_weight m (nat_eq m p) refl) (processes_of config)) in
        omega (arith, same)

-- ---- an adjustment of its limit
pub limit_lowers : (config : Config) (past : List Entry) (a : Pager) (p u v n faults : ℕ) → is_pending config (a.references p) ≡ true → (more : List Entry)
    → IsLower (numbers_for config more (after config past a (by_seat p (what.Limit n faults))) p u) (numbers_for config past a p v)
limit_lowers config past a p u v n faults due more =
    let b : Pager = after config past a (by_seat p (what.Limit n faults)) in
    lower_pending config past more a b p u v (omega arith) (omega arith) (omega arith)
    (let before = ap (λ (c : Bool). cond {A = ℕ} c 1 0) due in let now = ap (λ (c : Bool). cond {A = ℕ} c 1 0) not_due in omega (arith, before, now))
  where
    by : (x y : Bool) → nat_eq config.params.awstime 0 ≡ x → nat_le config.params.awstime 0 ≡ y → (not x && y) ≡ false
    by true y is below = refl
    by false false is below = refl
    by false true is below = absurd (let none = eqb-false config.params.awstime 0 is in let most = leb-true config.params.awstime 0 below in omega (arith, none, most))

    not_due : is_pending config (at_number a.references p 0 p) ≡ false
    not_due = ap (is_pending config) (at_number_same a.references p 0) ∙ by (nat_eq config.params.awstime 0) (nat_le config.params.awstime 0) refl refl

-- ---- an eviction
fewer_filled : (slots : List (Option Held)) (n : ℕ) (held : Held) → slice_get slots n ≡ Some (Some held) → filled (slice_set slots n None) < filled slots
fewer_filled slots n held is = let count = count_written is_filled_slot slots n (Some held) None is in omega (arith, count)

ring_lower : (config : Config) (a : Pager) (q : ℕ) (new : Ring) → q < length config.procs → filled new.slots < filled (a.ring q).slots → (b : Pager) → b.ring ≡ at_number a.ring q new
    → filled_slots config b < filled_slots config a
ring_lower config a q new there less b is =
    subst (λ (f : ℕ → Ring). sum_by (λ (m : ℕ). filled (f m).slots) (processes_of config) < filled_slots config a) (sym is)
    (sum_lower (λ (m : ℕ). filled (at_number a.ring q new m).slots) (λ (m : ℕ). filled (a.ring m).slots) (λ (m : ℕ). nat_eq m q) (processes_of config)
    (each_is _ (at_number_cases (λ (m : ℕ) (r : Ring). filled r.slots ≤ filled (a.ring m).slots) a.ring q new (omega (arith, less)) (λ m apart. omega arith)) (processes_of config))
    (λ m same. subst (λ (n : ℕ). filled (at_number a.ring q new n).slots < filled (a.ring n).slots) (sym (eqb-true m q same)) (let now = ap (λ (r : Ring). filled r.slots) (at_number_same a.ring q new) in
    omega (arith, now, less)))
    (listed config q there))

evicted_fewer : (config : Config) (past : List Entry) (a : Pager) (seat q address f : ℕ) (why : EvictWhy) (to : FrameState) → IsKept config (past_view past) a → awaits_reuse past ≡ false
    → IsEvict why config past a seat q address f to
    → filled (evicted_ring why (a.ring q) (a.limit q) (page_number address)).slots < filled (a.ring q).slots
evicted_fewer config past a seat q address f why to kept calm legal = by why legal
  where
    taken : IsTaken past a q (page_number address) f to → filled (slice_set (a.ring q).slots (slot_with (a.ring q) (page_number address)) None) < filled (a.ring q).slots
    taken is = let there = in_its_slot config past a q (page_number address) f to (kept_quiet config past a calm kept) is in
        fewer_filled (a.ring q).slots (slot_with (a.ring q) (page_number address)) there.held there.holds

    by : (why : EvictWhy) → IsEvict why config past a seat q address f to → filled (evicted_ring why (a.ring q) (a.limit q) (page_number address)).slots < filled (a.ring q).slots
    by evict.Replace row = let now = ap (λ c. filled (slice_set (a.ring q).slots (victim_of c) None)) row.1.chosen in
        let less = fewer_filled (a.ring q).slots row.1.slot row.1.evicted.held row.1.evicted.holds in omega (arith, now, less)
    by evict.Purge row = taken row.1.taken
    by evict.Delete row = taken row.1.taken
    by evict.Leave row = taken row.taken
    by evict.Rundown row = taken row.taken

pub evict_lowers : (config : Config) (past : List Entry) (seat p q n f u v : ℕ) (why : EvictWhy) → IsWellFormed config → awaits_reuse past ≡ false → q < length config.procs → u ≤ v
    → IsRun config (by_seat seat (eviction past (pager_after config past) q n f why) ∷ past) → AreLower config past (by_seat seat (eviction past (pager_after config past) q n f why) ∷ past) p u v
evict_lowers config past seat p q n f u v why formed calm there most run =
    let a : Pager = pager_after config past in
    let more : List Entry = by_seat seat (eviction past a q n f why) ∷ past in
    let less = evicted_fewer config past a seat q (PAGE_BYTES * n) f why (goes_to past a f) (run_kept config past formed run.0) calm run.1.row in
    lower_filled config past more a (pager_after config more) p u v (omega arith) (omega arith) (omega arith) (omega arith) most
    (ring_lower config a q (evicted_ring why (a.ring q) (a.limit q) (page_number (PAGE_BYTES * n))) there less (pager_after config more) refl)
