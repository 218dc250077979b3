-- A run's refusals for failed transfers are at most the failed transfers of processes' seats, and those at most the
-- failures of the blocks.
use Rattle.std.proofs.Common.{◌≡◌, inl, inr, ℕ, zero, suc, ◌+◌, ◌<◌, ◌≤◌, ◌&&◌, Bool, true, false, cond, List, [], ◌∷◌, Option, Some, None, length, nat_eq, nat_lt, refl, sym, ap, ◌∙◌, arith, subst}
use Rattle.std.specs.Prelude.{◌⊎◌, count_by, find, sum_by}
use Rattle.std.specs.List.{AllByRecursion}
use Rattle.std.proofs.lemmas.Bool.{cases_eq, cases_lt, eq-eqb, false≢true, le-ltb, lt-ltb, ne_eqb}
use Rattle.std.proofs.lemmas.List.Sums.{sum_by-cons}
use Rattle.vm_types.specs.BlockView.{Retired}
use Rattle.vm_types.specs.Configuration.{IsBlock}
use Rattle.vm_types.specs.Same.{same_block}
use Rattle.vm_types.specs.declared.config.Config.{Config}
use Rattle.vm_types.specs.declared.names.BlockId.{BlockId}
use Rattle.vm_types.specs.declared.reference.Ref.{Ref}
use Rattle.vm_types.specs.declared.reply.Answer.{Answer}
use Rattle.vm_types.specs.declared.reply.Answer.TheVariants as answer
use Rattle.vm_types.specs.declared.reply.Why.{Why}
use Rattle.vm_types.specs.declared.reply.Why.TheVariants as why
use Rattle.vm_types.specs.declared.service.Service.{Service}
use Rattle.vm_journal.specs.declared.entry.Entry.{Entry}
use Rattle.vm_journal.specs.declared.entry.What.{What}
use Rattle.vm_journal.specs.declared.entry.What.TheVariants as what
use Rattle.pager_model.specs.Asked.{IsAsked, is_retired}
use Rattle.pager_model.specs.Counted.{is_flight_on, last_count, with_count}
use Rattle.pager_model.specs.CountedBlock.{IsCountedBlock}
use Rattle.pager_model.specs.Denied.{IsDenial}
use Rattle.pager_model.specs.Flights.{Flight, open_flights}
use Rattle.pager_model.specs.Pager.{Pager}
use Rattle.pager_model.specs.Run.{IsRun, pager_after}
use Rattle.pager_model.specs.Served.{IsServed}
use Rattle.pager_model.specs.Step.{IsLegalWhat}
use Rattle.pager_model.specs.Transfers.{starts}
use Rattle.pager_rules.proofs.Basics.{count_cons}
use Rattle.pager_rules.proofs.Lists.{all_found}
use Rattle.pager_rules.proofs.Put.{blocks_equal}
use Rattle.pager_laws.proofs.FlightsBegun.{flight_blocks}
use Rattle.pager_laws.proofs.KeptIsSound.{same_block_refl}
use Rattle.serial_laws.specs.Refused.{is_disk_refusal, is_failure, is_own}
use Rattle.serial_laws.proofs.RefusedOnce.{failures_refuse_once}
use Rattle.serial_run.specs.FewRefusals.{HasFewRefusals, failures, faults_of, is_process_failure, process_failures, refusals}

abbrev one_if : Bool → ℕ
one_if b = cond b 1 0

-- ---- counts of all seats below a number, seat by seat
abbrev is_below : (What → Bool) → ℕ → Entry → Bool
is_below test n e = nat_lt (e.seat).0 n && test e.what

module _ (test : What → Bool) where
  next_seat : (n seat : ℕ) (t : Bool) → one_if (nat_lt seat (n + 1) && t) ≡ one_if (nat_lt seat n && t) + one_if (nat_eq seat n && t)
  next_seat n seat t = by (cases_lt seat n)
    where
      at : {x y z : Bool} → nat_lt seat (n + 1) ≡ x → nat_lt seat n ≡ y → nat_eq seat n ≡ z → one_if (x && t) ≡ one_if (y && t) + one_if (z && t)
          → one_if (nat_lt seat (n + 1) && t) ≡ one_if (nat_lt seat n && t) + one_if (nat_eq seat n && t)
      at a b c sums =
          let left = ap (λ (v : Bool). one_if (v && t)) a in
          let first = ap (λ (v : Bool). one_if (v && t)) b in
          let second = ap (λ (v : Bool). one_if (v && t)) c in
          omega (arith, left, first, second, sums)

      past : (seat ≡ n) ⊎ (seat ≡ n → ⊥) → n ≤ seat → one_if (nat_lt seat (n + 1) && t) ≡ one_if (nat_lt seat n && t) + one_if (nat_eq seat n && t)
      past (inl is) above = at (lt-ltb seat (n + 1) (omega (arith, is))) (le-ltb seat n above) (eq-eqb seat n is) (omega arith)
      past (inr other) above = at (le-ltb seat (n + 1) (apart other above)) (le-ltb seat n above) (ne_eqb seat n other) (omega arith)
        where
          apart : (seat ≡ n → ⊥) → n ≤ seat → n + 1 ≤ seat
          apart other above = first_of (omega (arith, other, above), grind (arith, other, above))

      by : (seat < n) ⊎ (n ≤ seat) → one_if (nat_lt seat (n + 1) && t) ≡ one_if (nat_lt seat n && t) + one_if (nat_eq seat n && t)
      by (inl below) = at (lt-ltb seat (n + 1) (omega (arith, below))) (lt-ltb seat n below) (ne_eqb seat n (λ is. absurd (omega (arith, below, is)))) (omega arith)
      by (inr above) = past (cases_eq seat n) above

  one_seat_more : (n : ℕ) (past : List Entry) → count_by (is_below test (n + 1)) past ≡ count_by (is_below test n) past + count_by (is_own test n) past
  one_seat_more n [] = refl
  one_seat_more n (e ∷ past) =
      let more = count_cons (is_below test (n + 1)) e past in
      let below = count_cons (is_below test n) e past in
      let own = count_cons (is_own test n) e past in
      let here = next_seat n (e.seat).0 (test e.what) in
      let rest = one_seat_more n past in
      omega (arith, more, below, own, here, rest)

  no_seat : (past : List Entry) → count_by (is_below test 0) past ≡ 0
  no_seat [] = refl
  no_seat (e ∷ past) =
      let step = count_cons (is_below test 0) e past in
      let here : one_if (is_below test 0 e) ≡ 0 = ap (λ (v : Bool). one_if (v && test e.what)) (le-ltb (e.seat).0 0 (omega arith)) in
      let rest = no_seat past in
      omega (arith, step, here, rest)

abbrev IsFewBelow : List Entry → ℕ → Type 0
IsFewBelow past n = count_by (is_below is_disk_refusal n) past ≤ count_by (is_below is_failure n) past

few_below : (config : Config) (past : List Entry) → IsRun config past → (n : ℕ) → IsFewBelow past n
few_below config past run zero = let none = no_seat is_disk_refusal past in omega (arith, none)
few_below config past run (suc n) =
    let refused = one_seat_more is_disk_refusal n past in
    let failed = one_seat_more is_failure n past in
    let below = few_below config past run n in
    let own = failures_refuse_once config past n run in
    let more : IsFewBelow past (n + 1) = omega (arith, refused, failed, below, own) in
    let next : n + 1 ≡ suc n = omega arith in
    subst (IsFewBelow past) next more

-- ---- a request is refused at its process's seat
module _ (config : Config) (past : List Entry) (a : Pager) (seat : ℕ) where
  denied : (r : Ref) (reason : Why) → IsDenial config past a seat r reason → is_disk_refusal (what.Denied r reason) ≡ true → seat < length config.procs
  denied r why.DiskFault (inl flat) e = absurd flat.flat_why
  denied r why.Unmapped (inl flat) e = absurd (false≢true e)
  denied r why.Protected (inl flat) e = absurd (false≢true e)
  denied r why.PageFileFull (inl flat) e = absurd (false≢true e)
  denied r reason (inr fault) e = fault.process

  served : (s : Service) (reply : Answer) → IsServed config past a seat s reply → is_disk_refusal (what.Served s reply) ≡ true → seat < length config.procs
  served s answer.DiskFault legal e = legal.process
  served s answer.Good legal e = absurd (false≢true e)
  served s (answer.Count n) legal e = absurd (false≢true e)
  served s answer.InUse legal e = absurd (false≢true e)
  served s answer.Unmapped legal e = absurd (false≢true e)
  served s answer.LockLimit legal e = absurd (false≢true e)
  served s answer.BadLimit legal e = absurd (false≢true e)

  of_process : (w : What) → IsLegalWhat config past a seat w → is_disk_refusal w ≡ true → seat < length config.procs
  of_process (what.Denied r reason) legal e = denied r reason legal e
  of_process (what.Served s reply) legal e = served s reply legal e
  of_process (what.Done r reply) legal e = absurd (false≢true e)
  of_process (what.Reuse f g) legal e = absurd (false≢true e)
  of_process (what.Zero at f) legal e = absurd (false≢true e)
  of_process (what.Back q at f from) legal e = absurd (false≢true e)
  of_process (what.Collide at f k) legal e = absurd (false≢true e)
  of_process (what.In f b r) legal e = absurd (false≢true e)
  of_process (what.InOk f k) legal e = absurd (false≢true e)
  of_process (what.InFail f k old new) legal e = absurd (false≢true e)
  of_process (what.Out f b) legal e = absurd (false≢true e)
  of_process (what.OutOk f k) legal e = absurd (false≢true e)
  of_process (what.OutFail f k old new) legal e = absurd (false≢true e)
  of_process (what.Evict q at f why to) legal e = absurd (false≢true e)
  of_process (what.Limit n faults) legal e = absurd (false≢true e)
  of_process (what.Turn q s) legal e = absurd (false≢true e)

all_below : (config : Config) (past : List Entry) → IsRun config past → refusals past ≡ count_by (is_below is_disk_refusal (length config.procs)) past
all_below config [] run = refl
all_below config (e ∷ past) run =
    let all = count_cons (λ (x : Entry). is_disk_refusal x.what) e past in
    let below = count_cons (is_below is_disk_refusal (length config.procs)) e past in
    let rest = all_below config past run.0 in
    let here = by (is_disk_refusal e.what) refl in
    omega (arith, all, below, rest, here)
  where
    by : (b : Bool) → is_disk_refusal e.what ≡ b → one_if b ≡ one_if (nat_lt (e.seat).0 (length config.procs) && b)
    by true is = sym (ap (λ (b : Bool). one_if (b && true)) (lt-ltb (e.seat).0 (length config.procs) (of_process config past (pager_after config past) (e.seat).0 e.what (run.1).row is)))
    by false is = nothing (nat_lt (e.seat).0 (length config.procs))
      where
        nothing : (b : Bool) → one_if false ≡ one_if (b && false)
        nothing true = refl
        nothing false = refl

few_refusals : (config : Config) (past : List Entry) → IsRun config past → refusals past ≤ process_failures config past
few_refusals config past run =
    let all = all_below config past run in
    let few = few_below config past run (length config.procs) in
    omega (arith, all, few)

-- ---- each failed transfer is a failure of its block
-- whether it is the failure of a flight on the block
abbrev fails_on : BlockId → List Entry → What → Bool
fails_on b past (what.InFail f k c d) = is_flight_on b (find (starts k) (open_flights past))
fails_on b past (what.OutFail f k c d) = is_flight_on b (find (starts k) (open_flights past))
fails_on b past other = false

abbrev failures_at : BlockId → List Entry → ℕ
failures_at b [] = 0
failures_at b (e ∷ past) = one_if (fails_on b past e.what) + failures_at b past

-- a block's count of failures rises with each
module _ (config : Config) (b : BlockId) (past : List Entry) (a : Pager) (seat : ℕ) where
  counted_up : (o : Option Flight) (x : Flight) (c d n : ℕ) → o ≡ Some x → c ≡ last_count x.block past → c < d → n ≤ last_count b past
      → one_if (is_flight_on b o) + n ≤ cond (is_flight_on b o) d (last_count b past)
  counted_up (Some y) x c d n is last more few = by (same_block b y.block) refl
    where
      same : y ≡ x
      same = cc

      by : (s : Bool) → same_block b y.block ≡ s → one_if s + n ≤ cond s d (last_count b past)
      by true here =
          let there : last_count x.block past ≡ last_count b past = ap (λ (c : BlockId). last_count c past) (sym (blocks_equal b y.block here ∙ ap (λ (z : Flight). z.block) same)) in
          omega (arith, last, more, few, there)
      by false here = omega (arith, few)
  counted_up None x c d n is last more few = absurd (cc)

  risen : (w : What) (n : ℕ) → IsLegalWhat config past a seat w → n ≤ last_count b past → one_if (fails_on b past w) + n ≤ with_count b past w (last_count b past)
  risen (what.InFail f k c d) n legal few = counted_up (find (starts k) (open_flights past)) legal.flight c d n legal.lands.open_k legal.counted.last legal.counted.more few
  risen (what.OutFail f k c d) n legal few = counted_up (find (starts k) (open_flights past)) legal.write.flight c d n legal.write.lands.open_k legal.counted.last legal.counted.more few
  risen other n legal few = omega (arith, few)

few_failures : (config : Config) (b : BlockId) (past : List Entry) → IsRun config past → failures_at b past ≤ last_count b past
few_failures config b [] run = omega arith
few_failures config b (e ∷ past) run = risen config b past (pager_after config past) (e.seat).0 e.what (failures_at b past) (run.1).row (few_failures config b past run.0)

-- ---- over the blocks that were given back, of which each failure is at one
abbrev failures_in : List Retired → List Entry → ℕ
failures_in taken past = sum_by (λ (x : Retired). failures_at x.block past) taken

abbrev fails_in : List Retired → List Entry → What → ℕ
fails_in taken past w = sum_by (λ (x : Retired). one_if (fails_on x.block past w)) taken

one_more : (taken : List Retired) (e : Entry) (past : List Entry) → failures_in taken (e ∷ past) ≡ fails_in taken past e.what + failures_in taken past
one_more [] e past = refl
one_more (x ∷ taken) e past =
    let all = sum_by-cons (λ (y : Retired). failures_at y.block (e ∷ past)) x taken in
    let now = sum_by-cons (λ (y : Retired). one_if (fails_on y.block past e.what)) x taken in
    let before = sum_by-cons (λ (y : Retired). failures_at y.block past) x taken in
    let rest = one_more taken e past in
    omega (arith, all, now, before, rest)

-- which block is named first doesn't matter
turned : (a b : BlockId) → same_block a b ≡ same_block b a
turned a b = by (same_block a b) refl (same_block b a) refl
  where
    by : (x : Bool) → same_block a b ≡ x → (y : Bool) → same_block b a ≡ y → x ≡ y
    by true is true other = refl
    by false is false other = refl
    by true is false other = sym (sym other ∙ ap (same_block b) (blocks_equal a b is) ∙ same_block_refl b)
    by false is true other = sym is ∙ ap (same_block a) (blocks_equal b a other) ∙ same_block_refl a

on_one : (x : Flight) (taken : List Retired) → sum_by (λ (y : Retired). one_if (same_block y.block x.block)) taken ≡ count_by (is_retired x.block) taken
on_one x [] = refl
on_one x (y ∷ taken) =
    let left = sum_by-cons (λ (z : Retired). one_if (same_block z.block x.block)) y taken in
    let right = count_cons (is_retired x.block) y taken in
    let here : one_if (same_block y.block x.block) ≡ one_if (same_block x.block y.block) = ap one_if (turned y.block x.block) in
    let rest = on_one x taken in
    omega (arith, left, right, here, rest)

module _ (config : Config) (taken : List Retired) (all : (b : BlockId) → IsBlock config b → count_by (is_retired b) taken ≡ 1) (past : List Entry) (run : IsRun config past) where
  at_one : (k : ℕ) (o : Option Flight) (x : Flight) → find (starts k) (open_flights past) ≡ Some x → o ≡ Some x
      → sum_by (λ (y : Retired). one_if (is_flight_on y.block o)) taken ≡ 1
  at_one k (Some y) x found is =
      let same : y ≡ x = cc in
      let known = all_found (λ (z : Flight). IsBlock config z.block) (starts k) (open_flights past) x (flight_blocks config past run) found in
      on_one y taken ∙ all y.block (subst (λ (z : Flight). IsBlock config z.block) (sym same) known)
  at_one k None x found is = absurd (cc)

  counts_one : (a : Pager) (seat : ℕ) (w : What) → IsLegalWhat config past a seat w → one_if (is_failure w) ≤ fails_in taken past w
  counts_one a seat (what.InFail f k c d) legal = let one = at_one k (find (starts k) (open_flights past)) legal.flight legal.lands.open_k legal.lands.open_k in omega (arith, one)
  counts_one a seat (what.OutFail f k c d) legal = let one = at_one k (find (starts k) (open_flights past)) legal.write.flight legal.write.lands.open_k legal.write.lands.open_k in omega (arith, one)
  counts_one a seat other legal = omega arith

few_of_processes : (procs : ℕ) (e : Entry) → one_if (is_process_failure procs e) ≤ one_if (is_failure e.what)
few_of_processes procs e = by (nat_lt (e.seat).0 procs) (is_failure e.what)
  where
    by : (x y : Bool) → one_if (x && y) ≤ one_if y
    by true y = omega arith
    by false true = omega arith
    by false false = omega arith

all_of_processes : (config : Config) (past : List Entry) → process_failures config past ≤ failures past
all_of_processes config [] = omega arith
all_of_processes config (e ∷ past) =
    let own = count_cons (is_process_failure (length config.procs)) e past in
    let all = count_cons (λ (x : Entry). is_failure x.what) e past in
    let few = few_of_processes (length config.procs) e in
    let rest = all_of_processes config past in
    omega (arith, own, all, few, rest)

each_at_one : (config : Config) (taken : List Retired) → ((b : BlockId) → IsBlock config b → count_by (is_retired b) taken ≡ 1) → (past : List Entry) → IsRun config past
    → failures past ≤ failures_in taken past
each_at_one config taken all [] run = omega arith
each_at_one config taken all (e ∷ past) run =
    let count = count_cons (λ (x : Entry). is_failure x.what) e past in
    let more = one_more taken e past in
    let one = counts_one config taken all past run.0 (pager_after config past) (e.seat).0 e.what (run.1).row in
    let rest = each_at_one config taken all past run.0 in
    omega (arith, count, more, one, rest)

within_faults : (tells : Bool) (config : Config) (past : List Entry) → IsRun config past → (taken : List Retired)
    → AllByRecursion (λ (x : Retired). IsCountedBlock tells config past x.block x.seen) taken → failures_in taken past ≤ faults_of taken
within_faults tells config past run [] counted = omega arith
within_faults tells config past run (x ∷ taken) counted =
    let at = sum_by-cons (λ (y : Retired). failures_at y.block past) x taken in
    let faults = sum_by-cons (λ (y : Retired). (y.seen).faults) x taken in
    let here = few_failures config x.block past run in
    let is = counted.0.faults in
    let rest = within_faults tells config past run taken counted.1 in
    omega (arith, at, faults, here, is, rest)

pub has_few_refusals : (tells : Bool) (config : Config) (past : List Entry) (taken : List Retired) → IsRun config past → IsAsked tells config past taken → HasFewRefusals config past taken
has_few_refusals tells config past taken run asked = record {
  refused = few_refusals config past run;
  of_all = all_of_processes config past;
  failed =
      let one = each_at_one config taken asked.all past run in
      let within = within_faults tells config past run taken asked.counted in
      omega (arith, one, within);
}
