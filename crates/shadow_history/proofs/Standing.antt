-- What stands for a past stands, with one more entry, for the longer past.
use Rattle.std.proofs.Common.{◌≡◌, ℕ, ◌+◌, ◌↔◌, ◌<◌, ◌≤◌, ◌++◌, Bool, true, false, cond, List, [], ◌∷◌, Option, Some, None, IsSome}
use Rattle.std.proofs.Common.{IsTrue, is_some, length, find, drop, replicate, slice_get, slice_set, nat_eq, refl, sym, ap, ◌∙◌, subst, arith, length-set, append_assoc, append-nil}
use Rattle.std.proofs.lemmas.Bool.{eq-eqb, eqb-true, eqb-false, false≢true}
use Rattle.std.proofs.lemmas.List.{get_or-replicate, length-replicate}
use Rattle.std.proofs.lemmas.Option.{slice_get-get_or}
use Rattle.vm_types.specs.declared.names.BlockId.{BlockId}
use Rattle.vm_types.specs.declared.config.Config.{Config}
use Rattle.vm_types.specs.declared.service.Request.{Request}
use Rattle.vm_journal.specs.declared.entry.Entry.{Entry}
use Rattle.vm_journal.specs.declared.entry.What.{What}
use Rattle.vm_journal.specs.declared.entry.What.TheVariants as what
use Rattle.pager_model.specs.Carrier.{Carrying, carried, carrying, carrying_with, no_carrier}
use Rattle.pager_model.specs.Counted.{with_count}
use Rattle.pager_model.specs.Flights.{Flight, failed_in, fails_read, flights_with, is_busy, open_flights}
use Rattle.pager_model.specs.Order.{IsAnswered, IsInOrder, answered, requests_of, spoken_by}
use Rattle.pager_model.specs.Spoken.{request_of}
use Rattle.pager_model.specs.Transfers.{starts}
use Rattle.pager_rules.proofs.Lists.{slot_unchanged}
use Rattle.pager_laws.proofs.InFailKept.{begun_open}
use Rattle.shadow_history.specs.declared.count.Count.{Count}
use Rattle.shadow_history.specs.Carriers.{AreCarriers, HasSmallCounts}
use Rattle.shadow_history.specs.Counting.{count_of}
use Rattle.shadow_history.specs.Landed.{failed_read_in}
use Rattle.shadow_history.specs.Lefts.{IsRequestTaken, Left, left_of}
use Rattle.shadow_history.specs.Standing.{AreLeft, FailsOpen, StandsFor}
use Rattle.shadow_history.proofs.Lefts.{same_Some, slot_set}

-- ---- carriers
few_carried : (n : ℕ) (busy : Bool) (c : Carrying) (x : Flight) → HasSmallCounts n c → HasSmallCounts (n + 1) (carried busy c (Some x))
few_carried n true c x few = record { begun = omega (arith, few.begun); landed = omega (arith, few.landed); failed = omega (arith, few.failed) }
few_carried n false c x few = record { begun = omega (arith, few.begun); landed = omega (arith, few.begun); failed = omega (arith, few.begun) }

few_same : (n : ℕ) (c : Carrying) → HasSmallCounts n c → HasSmallCounts (n + 1) c
few_same n c few = record { begun = omega (arith, few.begun); landed = omega (arith, few.landed); failed = omega (arith, few.failed) }

few_with : (n number seat : ℕ) (busy : Bool) (w : What) (c : Carrying) → HasSmallCounts n c → HasSmallCounts (n + 1) (carrying_with number seat busy w c)
few_with n number seat busy (what.In f b r) c few = few_carried n busy c _ few
few_with n number seat busy (what.Out f b) c few = few_carried n busy c _ few
few_with n number seat busy (what.InOk f k) c few = record { begun = omega (arith, few.begun); landed = omega (arith, few.landed); failed = omega (arith, few.failed) }
few_with n number seat busy (what.OutOk f k) c few = record { begun = omega (arith, few.begun); landed = omega (arith, few.landed); failed = omega (arith, few.failed) }
few_with n number seat busy (what.InFail f k old new) c few = record { begun = omega (arith, few.begun); landed = omega (arith, few.landed); failed = omega (arith, few.failed) }
few_with n number seat busy (what.OutFail f k old new) c few = record { begun = omega (arith, few.begun); landed = omega (arith, few.landed); failed = omega (arith, few.failed) }
few_with n number seat busy (what.Done r reply) c few = record { begun = omega (arith, few.begun); landed = omega (arith, few.landed); failed = omega (arith, few.failed) }
few_with n number seat busy (what.Denied r reason) c few = record { begun = omega (arith, few.begun); landed = omega (arith, few.landed); failed = omega (arith, few.failed) }
few_with n number seat busy (what.Served s reply) c few = record { begun = omega (arith, few.begun); landed = omega (arith, few.landed); failed = omega (arith, few.failed) }
few_with n number seat busy other c few = few_same n c few

-- a carrier has counted no further than the entries
carrying_few : (seat : ℕ) (past : List Entry) → HasSmallCounts (length past + 1) (carrying seat past)
carrying_few seat [] = record { begun = omega arith; landed = omega arith; failed = omega arith }
carrying_few seat (e ∷ past) = subst (λ (n : ℕ). HasSmallCounts n (carrying seat (e ∷ past))) (omega arith) (by (nat_eq (e.seat).0 seat) (carrying_few seat past))
  where
    by : (b : Bool) → HasSmallCounts (length past + 1) (carrying seat past)
        → HasSmallCounts (length past + 1 + 1) (cond b (carrying_with (length past + 1) seat (is_busy seat (open_flights past)) e.what (carrying seat past)) (carrying seat past))
    by true few = few_with (length past + 1) (length past + 1) seat (is_busy seat (open_flights past)) e.what (carrying seat past) few
    by false few = few_same (length past + 1) (carrying seat past) few

pub row_small : (past : List Entry) (n seat most : ℕ) (rows : List Carrying) (c : Carrying) → AreCarriers past n rows → seat < n → length past + 1 ≤ most
    → slice_get rows seat ≡ Some c → HasSmallCounts most c
row_small past n seat most rows c are within above is =
    let few = carrying_few seat past in
    let same : carrying seat past ≡ c = cc (are.each seat within, is) in
    subst (HasSmallCounts most) same (record { begun = omega (arith, few.begun, above); landed = omega (arith, few.landed, above); failed = omega (arith, few.failed, above) })

pub carriers_more : (past : List Entry) (e : Entry) (n number : ℕ) (busy : Bool) (rows new : List Carrying) → AreCarriers past n rows → (e.seat).0 < n
    → number ≡ length past + 1 → busy ≡ is_busy (e.seat).0 (open_flights past)
    → ((c : Carrying) → slice_get rows (e.seat).0 ≡ Some c → new ≡ slice_set rows (e.seat).0 (carrying_with number (e.seat).0 busy e.what c)) → AreCarriers (e ∷ past) n new
carriers_more past e n number busy rows new are within number_is busy_is set = record { count = ap length made ∙ (length-set rows s next ∙ are.count); each = each }
  where
    s : ℕ
    s = (e.seat).0

    next : Carrying
    next = carrying_with (length past + 1) (e.seat).0 (is_busy (e.seat).0 (open_flights past)) e.what (carrying (e.seat).0 past)

    made : new ≡ slice_set rows (e.seat).0 (carrying_with (length past + 1) (e.seat).0 (is_busy (e.seat).0 (open_flights past)) e.what (carrying (e.seat).0 past))
    made =
        subst (λ (m : ℕ). new ≡ slice_set rows (e.seat).0 (carrying_with m (e.seat).0 (is_busy (e.seat).0 (open_flights past)) e.what (carrying (e.seat).0 past))) number_is
        (subst (λ (b : Bool). new ≡ slice_set rows (e.seat).0 (carrying_with number (e.seat).0 b e.what (carrying (e.seat).0 past))) busy_is (set (carrying (e.seat).0 past) (are.each (e.seat).0 within)))

    each : (seat : ℕ) → seat < n → slice_get new seat ≡ Some (carrying seat (e ∷ past))
    each seat below = by (nat_eq (e.seat).0 seat) refl
      where
        by : (b : Bool) → nat_eq (e.seat).0 seat ≡ b
            → slice_get new seat ≡ Some (cond b (carrying_with (length past + 1) seat (is_busy seat (open_flights past)) e.what (carrying seat past)) (carrying seat past))
        by true same =
            let there : slice_get new (e.seat).0 ≡ Some (carrying_with (length past + 1) (e.seat).0 (is_busy (e.seat).0 (open_flights past)) e.what (carrying (e.seat).0 past)) =
            ap (λ (xs : List Carrying). slice_get xs (e.seat).0) made ∙ slot_set rows (e.seat).0 _ (omega (arith, within, are.count)) in
            subst (λ (r : ℕ). slice_get new r ≡ Some (carrying_with (length past + 1) r (is_busy r (open_flights past)) e.what (carrying r past))) (eqb-true (e.seat).0 seat same) there
        by false apart =
            ap (λ (xs : List Carrying). slice_get xs seat) made ∙ (slot_unchanged rows (e.seat).0 seat _ (eqb-false (e.seat).0 seat apart) ∙ are.each seat below)

pub no_carriers : (n : ℕ) → AreCarriers [] n (replicate n no_carrier)
no_carriers n = record {
  count = length-replicate n no_carrier;
  each = λ seat below. slice_get-get_or (replicate n no_carrier) seat no_carrier (omega (arith, below, length-replicate n no_carrier)) ∙ ap Some (get_or-replicate n seat no_carrier no_carrier below);
}

-- ---- the failed read
some_is : {X : Type 0} (o : Option X) → IsSome o → (x : X) × (o ≡ Some x)
some_is None there = absurd (false≢true there)
some_is (Some x) there = (x, refl)

failed_more : (past : List Entry) (w : What) → FailsOpen w (open_flights past) → failed_read_in w (open_flights past) ≡ failed_in past w
failed_more past (what.InFail f k c d) there =
    let x = some_is (find (starts k) (open_flights past)) there in x.1 ∙ sym (begun_open past k x.0 x.1)
failed_more past other there = refl

waits_more : (past : List Entry) (w : What) → FailsOpen w (open_flights past) → is_some (failed_read_in w (open_flights past)) ≡ fails_read w
waits_more past (what.InFail f k c d) there = ap is_some (some_is (find (starts k) (open_flights past)) there).1
waits_more past other there = refl

-- ---- what is left
cancel : {X : Type 0} (xs ys zs : List X) → xs ++ ys ≡ xs ++ zs → ys ≡ zs
cancel [] ys zs same = same
cancel (x ∷ xs) ys zs same = cancel xs ys zs cc

pub in_order_before : (config : Config) (past : List Entry) (e : Entry) → IsInOrder config (e ∷ past) → IsInOrder config past
in_order_before config past e order p =
    let all = order p in (spoken_by p (e.seat).0 (request_of e.what) ++ all.0, sym (append_assoc (answered p past) (spoken_by p (e.seat).0 (request_of e.what)) all.0) ∙ all.1)

-- the entry answers the next request that is left
pub asks_next : (past : List Entry) (p : ℕ) (r : Request) (left rest all : List Request) → answered p past ++ left ≡ all → (answered p past ++ (r ∷ [])) ++ rest ≡ all → left ≡ r ∷ rest
asks_next past p r left rest all old new = cancel (answered p past) left (r ∷ rest) (old ∙ sym (sym (append_assoc (answered p past) (r ∷ []) rest) ∙ new))

pub left_more : (config : Config) (past : List Entry) (e : Entry) (old new : Left) → AreLeft config past old
    → (is_some (request_of e.what) ≡ true → IsRequestTaken (e.seat).0 old new) → (is_some (request_of e.what) ≡ false → new ≡ old)
    → AreLeft config (e ∷ past) new
left_more config past e old new are spoken quiet order p = by (request_of e.what) refl
  where
    before : answered p past ++ left_of old p ≡ requests_of p config.body
    before = are (in_order_before config past e order) p

    stays : answered p past ++ left_of old p ≡ requests_of p config.body → left_of new p ≡ left_of old p → (answered p past ++ []) ++ left_of new p ≡ requests_of p config.body
    stays all same = ap (λ (xs : List Request). xs ++ left_of new p) (append-nil (answered p past)) ∙ (ap (λ (xs : List Request). answered p past ++ xs) same ∙ all)

    by : (o : Option Request) → request_of e.what ≡ o → (answered p past ++ spoken_by p (e.seat).0 o) ++ left_of new p ≡ requests_of p config.body
    by None is = stays before (ap (λ (l : Left). left_of l p) (quiet (ap is_some is)))
    by (Some r) is = go (nat_eq (e.seat).0 p) refl
      where
        taken : left_of new p ≡ cond (nat_eq (e.seat).0 p) (drop 1 (left_of old p)) (left_of old p)
        taken = spoken (ap is_some is) p

        all : IsInOrder config (e ∷ past) → (rest : List Request) × ((answered p past ++ spoken_by p (e.seat).0 (Some r)) ++ rest ≡ requests_of p config.body)
        all h = subst (λ (o : Option Request). (rest : List Request) × ((answered p past ++ spoken_by p (e.seat).0 o) ++ rest ≡ requests_of p config.body)) is (h p)

        go : (b : Bool) → nat_eq (e.seat).0 p ≡ b → (answered p past ++ cond b (r ∷ []) []) ++ left_of new p ≡ requests_of p config.body
        go true same =
            let whole = subst (λ (b : Bool). (rest : List Request) × ((answered p past ++ cond b (r ∷ []) []) ++ rest ≡ requests_of p config.body)) same (all order) in
            let next : left_of old p ≡ r ∷ whole.0 = asks_next past p r (left_of old p) whole.0 (requests_of p config.body) before whole.1 in
            let now : left_of new p ≡ whole.0 = taken ∙ (ap (λ (b : Bool). cond b (drop 1 (left_of old p)) (left_of old p)) same ∙ ap (drop 1) next) in
            ap (λ (xs : List Request). (answered p past ++ (r ∷ [])) ++ xs) now ∙ whole.1
        go false apart = stays before (taken ∙ ap (λ (b : Bool). cond b (drop 1 (left_of old p)) (left_of old p)) apart)

-- an entry that answers nothing keeps the order
pub keeps_silent : (config : Config) (past : List Entry) (e : Entry) → request_of e.what ≡ None → IsInOrder config past → IsInOrder config (e ∷ past)
keeps_silent config past e none order p =
    let h = order p in
    (h.0, ap (λ (xs : List Request). xs ++ h.0) (ap (λ (o : Option Request). answered p past ++ spoken_by p (e.seat).0 o) none ∙ append-nil (answered p past)) ∙ h.1)

head_of : (xs : List Request) (r : Request) → slice_get xs 0 ≡ Some r → xs ≡ r ∷ drop 1 xs
head_of [] r is = absurd cc
head_of (x ∷ xs) r is = ap (λ y. y ∷ xs) (same_Some x r is)

-- an entry that answers the next request keeps the order
keeps_next : (config : Config) (past : List Entry) (e : Entry) (left : Left) (r : Request) → AreLeft config past left → request_of e.what ≡ Some r
    → slice_get (left_of left (e.seat).0) 0 ≡ Some r → IsInOrder config past → IsInOrder config (e ∷ past)
keeps_next config past e left r are is next order p = by (nat_eq (e.seat).0 p) refl
  where
    by : (b : Bool) → nat_eq (e.seat).0 p ≡ b → (rest : List Request) × ((answered p past ++ spoken_by p (e.seat).0 (request_of e.what)) ++ rest ≡ requests_of p config.body)
    by true same =
        let head : left_of left p ≡ r ∷ drop 1 (left_of left p) = head_of (left_of left p) r (subst (λ (q : ℕ). slice_get (left_of left q) 0 ≡ Some r) (eqb-true (e.seat).0 p same) next) in
        let whole : (answered p past ++ (r ∷ [])) ++ drop 1 (left_of left p) ≡ requests_of p config.body =
        append_assoc (answered p past) (r ∷ []) (drop 1 (left_of left p)) ∙ (ap (λ (xs : List Request). answered p past ++ xs) (sym head) ∙ are order p) in
        subst (λ (o : Option Request). (rest : List Request) × ((answered p past ++ spoken_by p (e.seat).0 o) ++ rest ≡ requests_of p config.body)) (sym is)
        (subst (λ (b : Bool). (rest : List Request) × ((answered p past ++ cond b (r ∷ []) []) ++ rest ≡ requests_of p config.body)) (sym same) (drop 1 (left_of left p), whole))
    by false apart =
        let h = order p in
        subst (λ (o : Option Request). (rest : List Request) × ((answered p past ++ spoken_by p (e.seat).0 o) ++ rest ≡ requests_of p config.body)) (sym is)
        (subst (λ (b : Bool). (rest : List Request) × ((answered p past ++ cond b (r ∷ []) []) ++ rest ≡ requests_of p config.body)) (sym apart)
        (h.0, ap (λ (xs : List Request). xs ++ h.0) (append-nil (answered p past)) ∙ h.1))

-- an entry that keeps the order answers the next request
keeps_asks : (config : Config) (past : List Entry) (e : Entry) (left : Left) (r : Request) → AreLeft config past left → request_of e.what ≡ Some r → IsInOrder config past
    → IsInOrder config (e ∷ past) → slice_get (left_of left (e.seat).0) 0 ≡ Some r
keeps_asks config past e left r are is order more =
    let p : ℕ = (e.seat).0 in
    let told =
    subst (λ (o : Option Request). (rest : List Request) × ((answered (e.seat).0 past ++ spoken_by (e.seat).0 (e.seat).0 o) ++ rest ≡ requests_of (e.seat).0 config.body))
    is (more (e.seat).0) in
    let whole =
    subst (λ (b : Bool). (rest : List Request) × ((answered (e.seat).0 past ++ cond b (r ∷ []) []) ++ rest ≡ requests_of (e.seat).0 config.body))
    (eq-eqb (e.seat).0 (e.seat).0 refl) told in
    ap (λ (xs : List Request). slice_get xs 0) (asks_next past p r (left_of left p) whole.0 (requests_of p config.body) (are order p) whole.1)

pub keeps_if_next : (config : Config) (past : List Entry) (e : Entry) (left : Left) (r : Request) (kept : Bool) → AreLeft config past left → request_of e.what ≡ Some r
    → (IsTrue kept → slice_get (left_of left (e.seat).0) 0 ≡ Some r) → (slice_get (left_of left (e.seat).0) 0 ≡ Some r → IsTrue kept) → IsInOrder config past → IsTrue kept ↔ IsInOrder config (e ∷ past)
keeps_if_next config past e left r kept are is there back order =
    (λ so. keeps_next config past e left r are is (there so) order, λ more. back (keeps_asks config past e left r are is order more))

-- all is answered where nothing is left
pub answered_if_none : (config : Config) (past : List Entry) (left : Left) (kept : Bool) → AreLeft config past left → (IsTrue kept ↔ ((p : ℕ) → left_of left p ≡ []))
    → IsInOrder config past → IsTrue kept ↔ IsAnswered config past
answered_if_none config past left kept are says order = (
  λ so p. sym (append-nil (answered p past)) ∙ (ap (λ (xs : List Request). answered p past ++ xs) (sym (says.0 so p)) ∙ are order p),
  λ all. says.1 (λ p. cancel (answered p past) (left_of left p) [] (are order p ∙ (sym (all p) ∙ sym (append-nil (answered p past))))),
)

-- ---- all together
pub stands_after : (config : Config) (past : List Entry) (e : Entry) (count : ℕ) (busy : Bool) (flights flights_new : List Flight) (failed failed_new : Option Flight)
    (carriers carriers_new : List Carrying) (counts counts_new : List Count) (left left_new : Left)
    → StandsFor config past count flights failed carriers counts left → (e.seat).0 < length config.procs + 2 → FailsOpen e.what (open_flights past)
    → busy ≡ is_busy (e.seat).0 flights → failed_new ≡ failed_read_in e.what flights → flights_new ≡ flights_with (count + 1) (e.seat).0 e.what flights
    → ((c : Carrying) → slice_get carriers (e.seat).0 ≡ Some c → carriers_new ≡ slice_set carriers (e.seat).0 (carrying_with (count + 1) (e.seat).0 busy e.what c))
    → ((before : List Entry) → flights ≡ open_flights before → (b : BlockId) → count_of b counts_new ≡ with_count b before e.what (count_of b counts))
    → (is_some (request_of e.what) ≡ true → IsRequestTaken (e.seat).0 left left_new) → (is_some (request_of e.what) ≡ false → left_new ≡ left)
    → StandsFor config (e ∷ past) (count + 1) flights_new failed_new carriers_new counts_new left_new
stands_after config past e count busy flights flights_new failed failed_new carriers carriers_new counts counts_new left left_new
    old within fails busy_is failed_is flights_is carriers_are counts_are spoken quiet =
    let number : count + 1 ≡ length past + 1 = ap (λ (n : ℕ). n + 1) old.counted in
    let failed_now : failed_new ≡ failed_read_in e.what (open_flights past) = failed_is ∙ ap (failed_read_in e.what) old.open_now in
    record {
      counted = omega (arith, number);
      open_now = flights_is ∙ (ap (λ (n : ℕ). flights_with n (e.seat).0 e.what flights) number ∙ ap (flights_with (length past + 1) (e.seat).0 e.what) old.open_now);
      failure = failed_now ∙ failed_more past e.what fails;
      waits = ap is_some failed_now ∙ waits_more past e.what fails;
      rows = carriers_more past e (length config.procs + 2) (count + 1) busy carriers carriers_new old.rows within number (busy_is ∙ ap (is_busy (e.seat).0) old.open_now) carriers_are;
      faults = λ b. counts_are past old.open_now b ∙ ap (with_count b past e.what) (old.faults b);
      requests = left_more config past e left left_new old.requests spoken quiet;
    }
