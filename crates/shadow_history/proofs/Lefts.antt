-- What is left of the requests of each process: by the places of their next tasks, and after one was taken.
use Rattle.std.proofs.Common.{◌≡◌, ◌≢◌, ℕ, zero, suc, ◌<◌, ◌≤◌, Bool, true, false, cond, List, [], ◌∷◌, Some, length}
use Rattle.std.proofs.Common.{map, filter, drop, replicate, get_or, slice_get, slice_set, nat_eq, refl, sym, ap, ◌∙◌, subst, ⊎_elim, arith, length-set}
use Rattle.std.proofs.lemmas.Bool.{eq-eqb, eqb-true, eqb-false, ne_eqb}
use Rattle.std.proofs.lemmas.List.{drop_all, get_or-replicate, length-replicate}
use Rattle.std.proofs.lemmas.Option.{get_or_from_slice_get, slice_get-get_or, slice_get_cases, slice_get_past, slice_get_within}
use Rattle.vm_types.specs.declared.config.Task.{Task}
use Rattle.vm_types.specs.declared.service.Request.{Request}
use Rattle.pager_model.specs.Order.{requests_of}
use Rattle.pager_rules.proofs.Lists.{slot_unchanged}
use Rattle.shadow_history.specs.Lefts.{AreAfter, AreLinked, AreNext, AreOf, ArePlaces, IsFirstFrom, IsTaskPlace, IsRequestTaken, Left, left_of, requests_from}

-- ---- lists
pub same_Some : {X : Type 0} (x y : X) → Some x ≡ Some y → x ≡ y
same_Some x y e = cc

pub slot_set : {X : Type 0} (xs : List X) (i : ℕ) (new : X) → i < length xs → slice_get (slice_set xs i new) i ≡ Some new
slot_set [] i new within = absurd (omega arith)
slot_set (x ∷ xs) zero new within = refl
slot_set (x ∷ xs) (suc i) new within = slot_set xs i new (omega arith)

drop_here : {X : Type 0} (xs : List X) (i : ℕ) (x : X) → slice_get xs i ≡ Some x → drop i xs ≡ x ∷ drop (suc i) xs
drop_here [] i x is = absurd cc
drop_here (y ∷ ys) zero x is = ap (λ z. z ∷ ys) (same_Some y x is)
drop_here (y ∷ ys) (suc i) x is = drop_here ys i x is

pub replicated : {X : Type 0} (n : ℕ) (x y : X) (k : ℕ) → slice_get (replicate n x) k ≡ Some y → x ≡ y
replicated n x y k there =
    let below = slice_get_within (replicate n x) k y there in
    sym (get_or-replicate n k x y (omega (arith, below, length-replicate n x))) ∙ get_or_from_slice_get (replicate n x) k y y there

-- an item is there, or the place is past the end
pub place_cases : {X : Type 0} (P : Type 0) (xs : List X) (i : ℕ) → ((x : X) → slice_get xs i ≡ Some x → P) → (length xs ≤ i → P) → P
place_cases {X} P xs i there past = ⊎_elim (λ (w : (x : X) × (i < length xs) × (slice_get xs i ≡ Some x) × _). there w.0 w.2) (λ w. past w.0) (slice_get_cases xs i).1

-- ---- the requests of a process
requests_own : (p : ℕ) (task : Task) (tasks : List Task) → (task.proc).0 ≡ p → requests_of p (task ∷ tasks) ≡ task.request ∷ requests_of p tasks
requests_own p task tasks own =
    ap (λ (b : Bool). map (λ (x : Task). x.request) (cond b (task ∷ filter (λ (x : Task). nat_eq (x.proc).0 p) tasks) (filter (λ (x : Task). nat_eq (x.proc).0 p) tasks))) (eq-eqb (task.proc).0 p own)

requests_other : (p : ℕ) (task : Task) (tasks : List Task) → (task.proc).0 ≢ p → requests_of p (task ∷ tasks) ≡ requests_of p tasks
requests_other p task tasks other =
    ap (λ (b : Bool). map (λ (x : Task). x.request) (cond b (task ∷ filter (λ (x : Task). nat_eq (x.proc).0 p) tasks) (filter (λ (x : Task). nat_eq (x.proc).0 p) tasks))) (ne_eqb (task.proc).0 p other)

pub requests_here : (p : ℕ) (body : List Task) (i : ℕ) (task : Task) → slice_get body i ≡ Some task → (task.proc).0 ≡ p → requests_of p (drop i body) ≡ task.request ∷ requests_of p (drop (suc i) body)
requests_here p body i task is own = ap (requests_of p) (drop_here body i task is) ∙ requests_own p task (drop (suc i) body) own

requests_there : (p : ℕ) (body : List Task) (i : ℕ) (task : Task) → slice_get body i ≡ Some task → (task.proc).0 ≢ p → requests_of p (drop i body) ≡ requests_of p (drop (suc i) body)
requests_there p body i task is other = ap (requests_of p) (drop_here body i task is) ∙ requests_other p task (drop (suc i) body) other

pub requests_end : (p : ℕ) (body : List Task) (i : ℕ) → length body ≤ i → requests_of p (drop i body) ≡ []
requests_end p body i past = ap (requests_of p) (drop_all i body past)

pub requests_none : (p procs : ℕ) (body : List Task) → AreOf body procs → procs ≤ p → requests_of p body ≡ []
requests_none p procs [] few above = refl
requests_none p procs (task ∷ tasks) few above =
    let below = few 0 task refl in
    requests_other p task tasks (λ own. omega (arith, own, below, above)) ∙ requests_none p procs tasks (λ t x is. few (suc t) x is) above

-- ---- the links
pub linked_more : (body : List Task) (t : ℕ) (next after : List ℕ) (task : Task) (i : ℕ) → AreLinked body (suc t) next after → slice_get body t ≡ Some task → slice_get next (task.proc).0 ≡ Some i
    → AreLinked body t (slice_set next (task.proc).0 t) (slice_set after t i)
linked_more body t next after task i linked here old = record { count = length-set after t i ∙ linked.count; nexts = nexts; afters = afters }
  where
    p : ℕ
    p = (task.proc).0

    nexts : AreNext body t (slice_set next (task.proc).0 t)
    nexts q j is = by (nat_eq (task.proc).0 q) refl
      where
        by : (b : Bool) → nat_eq (task.proc).0 q ≡ b → IsFirstFrom body q t j
        by true same =
            let own : (task.proc).0 ≡ q = eqb-true (task.proc).0 q same in
            let at : slice_get (slice_set next (task.proc).0 t) (task.proc).0 ≡ Some j = subst (λ (r : ℕ). slice_get (slice_set next (task.proc).0 t) r ≡ Some j) (sym own) is in
            let now : t ≡ j = same_Some t j (sym (slot_set next (task.proc).0 t (slice_get_within next (task.proc).0 i old)) ∙ at) in
            let below = slice_get_within body t task here in
            subst (λ (k : ℕ). IsFirstFrom body q t k) now
            (record {
              place = record { within = omega (arith, below); own = λ other there. ap (λ (x : Task). (x.proc).0) (same_Some other task (sym there ∙ here)) ∙ own };
              first = refl;
            })
        by false apart =
            let other : (task.proc).0 ≢ q = eqb-false (task.proc).0 q apart in
            let was = linked.nexts q j (sym (slot_unchanged next (task.proc).0 q t other) ∙ is) in
            record { place = was.place; first = was.first ∙ sym (requests_there q body t task here other) }

    afters : AreAfter body t (slice_set after t i)
    afters u j other from there is = by (nat_eq t u) refl
      where
        by : (b : Bool) → nat_eq t u ≡ b → IsFirstFrom body (other.proc).0 (suc u) j
        by true same =
            let now : t ≡ u = eqb-true t u same in
            let below : t < length after = omega (arith, linked.count, slice_get_within body t task here) in
            let at : slice_get (slice_set after t i) t ≡ Some j = subst (λ (r : ℕ). slice_get (slice_set after t i) r ≡ Some j) (sym now) is in
            let leads : i ≡ j = same_Some i j (sym (slot_set after t i below) ∙ at) in
            let task_is : task ≡ other = same_Some task other (sym here ∙ (ap (slice_get body) now ∙ there)) in
            subst (λ (k : ℕ). IsFirstFrom body (other.proc).0 (suc k) j) now
            (subst (λ (k : ℕ). IsFirstFrom body (other.proc).0 (suc t) k) leads
            (subst (λ (x : Task). IsFirstFrom body (x.proc).0 (suc t) i) task_is (linked.nexts (task.proc).0 i old)))
        by false apart =
            let ne : t ≢ u = eqb-false t u apart in
            linked.afters u j other (omega (arith, from, ne)) there (sym (slot_unchanged after t u i ne) ∙ is)

-- the same, for a task that is there
pub linked_next : (body : List Task) (t : ℕ) (next after : List ℕ) (p i : ℕ) → AreLinked body (suc t) next after → t < length body
    → ((task : Task) → slice_get body t ≡ Some task → (task.proc).0 ≡ p) → slice_get next p ≡ Some i
    → AreLinked body t (slice_set next p t) (slice_set after t i)
linked_next body t next after p i linked below own old =
    place_cases (AreLinked body t (slice_set next p t) (slice_set after t i)) body t
    (λ task here.
    subst (λ (q : ℕ). AreLinked body t (slice_set next q t) (slice_set after t i)) (own task here)
    (linked_more body t next after task i linked here (subst (λ (q : ℕ). slice_get next q ≡ Some i) (sym (own task here)) old)))
    (λ past. absurd (omega (arith, below, past)))

-- a task's process is one of them
pub process_below : (body : List Task) (t procs p : ℕ) → AreOf body procs → t < length body → ((task : Task) → slice_get body t ≡ Some task → (task.proc).0 ≡ p) → p < procs
process_below body t procs p few below own = place_cases (p < procs) body t (λ task here. omega (arith, few t task here, own task here)) (λ past. absurd (omega (arith, below, past)))

pub linked_places : (body : List Task) (next after : List ℕ) → AreLinked body 0 next after → ArePlaces body next after
linked_places body next after linked = record { count = linked.count; places = λ p i is. (linked.nexts p i is).place; afters = linked.afters }

-- all requests are left
pub linked_all : (body : List Task) (next after : List ℕ) → AreOf body (length next) → AreLinked body 0 next after → (p : ℕ) → left_of (record { body = body; next = next }) p ≡ requests_of p body
linked_all body next after few linked p =
    place_cases (requests_from p body (slice_get next p) ≡ requests_of p body) next p
    (λ i is. ap (requests_from p body) is ∙ (linked.nexts p i is).first)
    (λ above. ap (requests_from p body) (slice_get_past next p above) ∙ sym (requests_none p (length next) body few above))

-- ---- what is left
pub left_past : (p : ℕ) (l : Left) → length l.next ≤ p → left_of l p ≡ []
left_past p l above = ap (requests_from p l.body) (slice_get_past l.next p above)

pub left_end : (p i : ℕ) (l : Left) → slice_get l.next p ≡ Some i → length l.body ≤ i → left_of l p ≡ []
left_end p i l is past = ap (requests_from p l.body) is ∙ requests_end p l.body i past

pub left_here : (p i : ℕ) (body : List Task) (next after : List ℕ) (task : Task) → ArePlaces body next after → slice_get next p ≡ Some i → slice_get body i ≡ Some task
    → left_of (record { body = body; next = next }) p ≡ task.request ∷ requests_of p (drop (suc i) body)
left_here p i body next after task places is there = ap (requests_from p body) is ∙ requests_here p body i task there ((places.places p i is).own task there)

-- none was left, so none is taken
pub none_taken : (p : ℕ) (l : Left) → left_of l p ≡ [] → IsRequestTaken p l l
none_taken p l none q = by (nat_eq p q) refl
  where
    by : (b : Bool) → nat_eq p q ≡ b → left_of l q ≡ cond b (drop 1 (left_of l q)) (left_of l q)
    by true same =
        let here : left_of l q ≡ [] = subst (λ (r : ℕ). left_of l r ≡ []) (eqb-true p q same) none in
        here ∙ sym (ap (drop 1) here)
    by false apart = refl

pub taken_places : (p i j : ℕ) (body : List Task) (next after : List ℕ) (task : Task) → ArePlaces body next after → slice_get next p ≡ Some i
    → slice_get body i ≡ Some task → slice_get after i ≡ Some j
    → ArePlaces body (slice_set next p j) after
taken_places p i j body next after task all is there leads = record { count = all.count; places = places; afters = all.afters }
  where
    places : (q k : ℕ) → slice_get (slice_set next p j) q ≡ Some k → IsTaskPlace body q k
    places q k at = by (nat_eq p q) refl
      where
        by : (b : Bool) → nat_eq p q ≡ b → IsTaskPlace body q k
        by true same =
            let here : p ≡ q = eqb-true p q same in
            let now : j ≡ k = same_Some j k (sym (slot_set next p j (slice_get_within next p i is)) ∙ subst (λ (r : ℕ). slice_get (slice_set next p j) r ≡ Some k) (sym here) at) in
            let own : (task.proc).0 ≡ q = (all.places p i is).own task there ∙ here in
            subst (λ (r : ℕ). IsTaskPlace body r k) own (subst (λ (m : ℕ). IsTaskPlace body (task.proc).0 m) now (all.afters i j task (omega arith) there leads).place)
        by false apart = all.places q k (sym (slot_unchanged next p q j (eqb-false p q apart)) ∙ at)

pub one_taken : (p i j : ℕ) (body : List Task) (next after : List ℕ) (task : Task) → ArePlaces body next after → slice_get next p ≡ Some i → slice_get body i ≡ Some task → slice_get after i ≡ Some j
    → IsRequestTaken p (record { body = body; next = next }) (record { body = body; next = slice_set next p j })
one_taken p i j body next after task all is there leads q = by (nat_eq p q) refl
  where
    old : Left
    old = record { body = body; next = next }

    new : Left
    new = record { body = body; next = slice_set next p j }

    own : (task.proc).0 ≡ p
    own = (all.places p i is).own task there

    here : left_of (record { body = body; next = slice_set next p j }) p ≡ drop 1 (left_of (record { body = body; next = next }) p)
    here =
        ap (requests_from p body) (slot_set next p j (slice_get_within next p i is))
        ∙ (subst (λ (r : ℕ). requests_of r (drop j body) ≡ requests_of r (drop (suc i) body)) own (all.afters i j task (omega arith) there leads).first
        ∙ sym (ap (drop 1) (left_here p i body next after task all is there)))

    by : (b : Bool) → nat_eq p q ≡ b
        → left_of (record { body = body; next = slice_set next p j }) q ≡ cond b (drop 1 (left_of (record { body = body; next = next }) q)) (left_of (record { body = body; next = next }) q)
    by true same = subst (λ (r : ℕ). left_of (record { body = body; next = slice_set next p j }) r ≡ drop 1 (left_of (record { body = body; next = next }) r)) (eqb-true p q same) here
    by false apart = ap (requests_from q body) (slot_unchanged next p q j (eqb-false p q apart))

-- ---- whether any is left
pub none_left : (l : Left) → ((p i : ℕ) → slice_get l.next p ≡ Some i → length l.body ≤ i) → (p : ℕ) → left_of l p ≡ []
none_left l past p = place_cases (left_of l p ≡ []) l.next p (λ i is. left_end p i l is (past p i is)) (left_past p l)

pub all_past : (body : List Task) (next after : List ℕ) → ArePlaces body next after → ((p : ℕ) → left_of (record { body = body; next = next }) p ≡ []) → (p i : ℕ)
    → slice_get next p ≡ Some i → length body ≤ i
all_past body next after all none p i is =
    place_cases (length body ≤ i) body i
    (λ task there. let both = sym (left_here p i body next after task all is there) ∙ none p in absurd cc)
    (λ past. past)

-- ---- for places within the body
pub first_here : (p i : ℕ) (body : List Task) (next after : List ℕ) (d : Task) → ArePlaces body next after → slice_get next p ≡ Some i → i < length body
    → Some (get_or body i d).request ≡ slice_get (left_of (record { body = body; next = next }) p) 0
first_here p i body next after d all is below =
    sym (ap (λ (xs : List Request). slice_get xs 0) (left_here p i body next after (get_or body i d) all is (slice_get-get_or body i d below)))

pub places_after : (p i j : ℕ) (body : List Task) (next after : List ℕ) → ArePlaces body next after → slice_get next p ≡ Some i → i < length body
    → slice_get after i ≡ Some j → ArePlaces body (slice_set next p j) after
places_after p i j body next after all is below leads =
    place_cases (ArePlaces body (slice_set next p j) after) body i (λ task there. taken_places p i j body next after task all is there leads) (λ past. absurd (omega (arith, below, past)))

pub taken_after : (p i j : ℕ) (body : List Task) (next after : List ℕ) → ArePlaces body next after → slice_get next p ≡ Some i → i < length body → slice_get after i ≡ Some j
    → IsRequestTaken p (record { body = body; next = next }) (record { body = body; next = slice_set next p j })
taken_after p i j body next after all is below leads =
    place_cases (IsRequestTaken p (record { body = body; next = next }) (record { body = body; next = slice_set next p j })) body i
    (λ task there. one_taken p i j body next after task all is there leads) (λ past. absurd (omega (arith, below, past)))
