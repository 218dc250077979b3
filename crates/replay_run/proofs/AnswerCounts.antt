-- Where each process's requests are all answered, no more is answered than the body asks for.
use Rattle.std.proofs.Common.{◌≡◌, ℕ, zero, suc, ◌+◌, ◌<◌, ◌≤◌, Bool, true, false, cond, List, [], ◌∷◌, ◌++◌, Option, Some, None, filter, length, map, nat_eq, nat_lt, refl, ap, ◌∙◌, arith, length-append}
use Rattle.std.specs.Option.{is_some}
use Rattle.std.specs.List.{AllByRecursion}
use Rattle.std.proofs.lemmas.Bool.{eqb-true, eqb-false, ltb-true, ltb-false}
use Rattle.vm_types.specs.declared.config.Task.{Task}
use Rattle.vm_types.specs.declared.service.Request.{Request}
use Rattle.vm_journal.specs.declared.entry.Entry.{Entry}
use Rattle.pager_model.specs.Order.{answered, requests_of, spoken_by}
use Rattle.pager_model.specs.Spoken.{spoken, request_of}
use Rattle.pager_rules.proofs.Basics.{count_cons}
use Rattle.replay_run.proofs.SeatBounds.{IsBelow}

-- the sum over the numbers below n
abbrev total : ℕ → (ℕ → ℕ) → ℕ
total zero f = 0
total (suc n) f = total n f + f n

abbrev pub one_if : Bool → ℕ
one_if b = cond b 1 0

abbrev one_at : ℕ → ℕ → ℕ
one_at q k = one_if (nat_eq q k)

-- one more at a number adds one, if the number is below n
more_beyond : (n q : ℕ) (f g : ℕ → ℕ) → ((k : ℕ) → g k ≡ one_at q k + f k) → n ≤ q → total n g ≡ total n f
more_beyond zero q f g more beyond = refl
more_beyond (suc n) q f g more beyond =
    let rest = more_beyond n q f g more (omega (arith, beyond)) in
    let here = more n in
    let none : one_at q n ≡ 0 = by (nat_eq q n) refl in
    let all : total n g + g n ≡ total n f + f n = omega (arith, rest, here, none) in
    all
  where
    by : (b : Bool) → nat_eq q n ≡ b → one_if b ≡ 0
    by true is = absurd (let same = eqb-true q n is in omega (arith, same, beyond))
    by false is = refl

less_still : (m p : ℕ) → p < suc m → (p ≡ m → ⊥) → p < m
less_still m p less apart = omega (arith, less, apart)

more_here : (n q : ℕ) (f g : ℕ → ℕ) → ((k : ℕ) → g k ≡ one_at q k + f k) → q < n → total n g ≡ 1 + total n f
more_here zero q f g more under = absurd (omega (arith, under))
more_here (suc n) q f g more under = by (nat_eq q n) refl (more_here n q f g more)
  where
    by : (b : Bool) → nat_eq q n ≡ b → (q < n → total n g ≡ 1 + total n f) → total (suc n) g ≡ 1 + total (suc n) f
    by true is lower =
        let rest = more_beyond n q f g more (let same = eqb-true q n is in omega (arith, same)) in
        let here = more n in
        let one : one_at q n ≡ 1 = ap one_if is in
        let all : total n g + g n ≡ 1 + (total n f + f n) = omega (arith, rest, here, one) in
        all
    by false is lower =
        let rest = lower (less_still n q under (eqb-false q n is)) in
        let here = more n in
        let none : one_at q n ≡ 0 = ap one_if is in
        let all : total n g + g n ≡ 1 + (total n f + f n) = omega (arith, rest, here, none) in
        all

same_total : (n : ℕ) (f g : ℕ → ℕ) → ((k : ℕ) → f k ≡ g k) → total n f ≡ total n g
same_total zero f g same = refl
same_total (suc n) f g same = (let rest = same_total n f g same in let here = same n in let all : total n f + f n ≡ total n g + g n = omega (arith, rest, here) in all)

none_total : (n : ℕ) → total n (λ k. 0) ≡ 0
none_total zero = refl
none_total (suc n) = (let rest = none_total n in let all : total n (λ k. 0) + 0 ≡ 0 = omega (arith, rest) in all)

-- ---- what is answered
answered_more : (k : ℕ) (e : Entry) (past : List Entry) (x : Request) → request_of e.what ≡ Some x → length (answered k (e ∷ past)) ≡ one_at (e.seat).0 k + length (answered k past)
answered_more k e past x is =
    ap (λ (o : Option Request). length (answered k past ++ spoken_by k (e.seat).0 o)) is
    ∙ (length-append (answered k past) (spoken_by k (e.seat).0 (Some x)) ∙ by (nat_eq (e.seat).0 k))
  where
    by : (b : Bool) → length (answered k past) + length (cond b (x ∷ []) []) ≡ one_if b + length (answered k past)
    by true = omega arith
    by false = omega arith

answered_same : (k : ℕ) (e : Entry) (past : List Entry) → request_of e.what ≡ None → length (answered k (e ∷ past)) ≡ length (answered k past)
answered_same k e past is =
    ap (λ (o : Option Request). length (answered k past ++ spoken_by k (e.seat).0 o)) is ∙ (length-append (answered k past) [] ∙ omega arith)

all_spoken : (n : ℕ) (past : List Entry) → AllByRecursion (IsBelow n) past → total n (λ k. length (answered k past)) ≡ spoken past
all_spoken n [] below = none_total n
all_spoken n (e ∷ past) below = by (request_of e.what) refl (all_spoken n past below.1)
  where
    by : (o : Option Request) → request_of e.what ≡ o → total n (λ k. length (answered k past)) ≡ spoken past → total n (λ k. length (answered k (e ∷ past))) ≡ spoken (e ∷ past)
    by None is rest =
        let same = same_total n (λ k. length (answered k (e ∷ past))) (λ k. length (answered k past)) (λ k. answered_same k e past is) in
        let counts : spoken (e ∷ past) ≡ one_if (is_some (request_of e.what)) + spoken past = count_cons (λ (z : Entry). is_some (request_of z.what)) e past in
        let zero_is : one_if (is_some (request_of e.what)) ≡ 0 = ap (λ (p : Option Request). one_if (is_some p)) is in
        same ∙ (rest ∙ omega (arith, counts, zero_is))
    by (Some x) is rest =
        let more = more_here n (e.seat).0 (λ k. length (answered k past)) (λ k. length (answered k (e ∷ past))) (λ k. answered_more k e past x is) below.0 in
        let counts : spoken (e ∷ past) ≡ one_if (is_some (request_of e.what)) + spoken past = count_cons (λ (z : Entry). is_some (request_of z.what)) e past in
        let one_is : one_if (is_some (request_of e.what)) ≡ 1 = ap (λ (p : Option Request). one_if (is_some p)) is in
        more ∙ (ap (λ (m : ℕ). 1 + m) rest ∙ omega (arith, counts, one_is))

-- ---- what is asked for
requests_more : (k : ℕ) (task : Task) (body : List Task) → length (requests_of k (task ∷ body)) ≡ one_at (task.proc).0 k + length (requests_of k body)
requests_more k task body = by (nat_eq (task.proc).0 k)
  where
    by : (b : Bool) → length (map (λ (t : Task). t.request) (cond b (task ∷ filter (λ (t : Task). nat_eq (t.proc).0 k) body) (filter (λ (t : Task). nat_eq (t.proc).0 k) body))) ≡ one_if b + length (requests_of k body)
    by true = omega arith
    by false = omega arith

all_asked : (n : ℕ) (body : List Task) → total n (λ k. length (requests_of k body)) ≤ length body
all_asked n [] = (let none = none_total n in omega (arith, none))
all_asked n (task ∷ body) = by (nat_lt (task.proc).0 n) refl (all_asked n body)
  where
    by : (b : Bool) → nat_lt (task.proc).0 n ≡ b → total n (λ k. length (requests_of k body)) ≤ length body → total n (λ k. length (requests_of k (task ∷ body))) ≤ length (task ∷ body)
    by true is fewer =
        let under : (task.proc).0 < n = ltb-true (task.proc).0 n is in
        let more = more_here n (task.proc).0 (λ k. length (requests_of k body)) (λ k. length (requests_of k (task ∷ body))) (λ k. requests_more k task body) under in
        omega (arith, more, fewer)
    by false is fewer =
        let beyond : n ≤ (task.proc).0 = ltb-false (task.proc).0 n is in
        let same = more_beyond n (task.proc).0 (λ k. length (requests_of k body)) (λ k. length (requests_of k (task ∷ body))) (λ k. requests_more k task body) beyond in
        omega (arith, same, fewer)

pub no_more_answers : (n : ℕ) (body : List Task) (past : List Entry) → AllByRecursion (IsBelow n) past → ((k : ℕ) → answered k past ≡ requests_of k body) → spoken past ≤ length body
no_more_answers n body past below all =
    let counts = all_spoken n past below in
    let same = same_total n (λ k. length (answered k past)) (λ k. length (requests_of k body)) (λ k. ap length (all k)) in
    let fewer = all_asked n body in
    omega (arith, counts, same, fewer)
