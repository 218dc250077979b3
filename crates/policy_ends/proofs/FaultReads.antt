-- A fault's page is read: once its read has landed well, its entry is valid.
use Rattle.std.proofs.Common.{◌≡◌, ℕ, ◌+◌, ◌*◌, ◌<◌, ◌≤◌, Bool, true, false, cond, List, [], ◌∷◌, Option, Some, None, length, find, count_by, is_some, refl, sym, ap, ◌∙◌, subst, arith}
use Rattle.std.specs.List.{AllByRecursion}
use Rattle.std.proofs.lemmas.Bool.{and_from, eq-eqb, false≢true, true≢false}
use Rattle.vm_types.specs.declared.limits.TheConstants.{PAGE_BYTES}
use Rattle.vm_types.specs.declared.names.BlockId.{BlockId}
use Rattle.vm_types.specs.declared.names.BlockId.TheVariants as block
use Rattle.vm_types.specs.declared.config.Config.{Config}
use Rattle.vm_journal.specs.declared.entry.Entry.{Entry}
use Rattle.vm_journal.specs.declared.entry.Role.TheVariants as role
use Rattle.vm_journal.specs.declared.entry.What.{What}
use Rattle.vm_journal.specs.declared.entry.What.TheVariants as what
use Rattle.pager_model.specs.Changes.{valid_at}
use Rattle.pager_model.specs.Flights.{Direction, Flight, open_flights, reading, writing, carrier_of}
use Rattle.pager_policy.specs.Given.{by_seat, made_by, page_address}
use Rattle.pager_model.specs.Maps.{pfn, page_number, proc}
use Rattle.pager_model.specs.InOk.{after_in_ok}
use Rattle.pager_policy.specs.Landings.{Outcome, first_bad, landed_by, landing, went_badly, went_well}
use Rattle.pager_model.specs.Lookups.{entry_of, is_entry}
use Rattle.pager_model.specs.Out.{after_any_out}
use Rattle.pager_model.specs.OutLanding.{after_out_ok, marked}
use Rattle.pager_model.specs.Pager.{Pager, Valid}
use Rattle.pager_model.specs.Run.{pager_after}
use Rattle.pager_model.specs.Step.{after_what}
use Rattle.pager_model.specs.Transfers.{starts}
use Rattle.pager_rules.proofs.Basics.{count_cons_yes, find_cons_no, find_cons_yes, nat_eq_refl}
use Rattle.pager_rules.proofs.Lists.{count_found, found_passes}
use Rattle.pager_rules.proofs.Quiet.{starts_once}
use Rattle.call_laws.proofs.FreeTurn.{same_number}
use Rattle.serial_laws.proofs.Carriers.{IsBegun, begun_first, begun_made, is_beginning}
use Rattle.serial_laws.proofs.Known.{landed_from}
use Rattle.serial_laws.proofs.Counting.{each_is}
use Rattle.policy_ends.proofs.ReadSteps.{is_transfer, landing_transfers}

-- ---- an entry stays valid while transfers begin and land
abbrev HasEntry : ℕ → ℕ → Pager → Type 0
HasEntry p v a = is_some (entry_of a.valid p v) ≡ true

one_more : (t : Valid → Bool) (e : Valid) (valid : List Valid) → is_some (find t valid) ≡ true → is_some (find t (e ∷ valid)) ≡ true
one_more t e valid is = by (t e)
  where
    by : (b : Bool) → is_some (cond b (Some e) (find t valid)) ≡ true
    by true = refl
    by false = is

in_ok_entry : (p v : ℕ) (a : Pager) (f : ℕ) (o : Option Flight) → HasEntry p v a → HasEntry p v (after_in_ok a f o)
in_ok_entry p v a f None is = is
in_ok_entry p v a f (Some x) is = by x.direction
  where
    by : (d : Direction) → HasEntry p v (after_in_ok a f (Some (record x { direction = d })))
    by (reading (role.Fault q address)) = one_more (is_entry p v) (valid_at q.0 (page_number address.0) f) a.valid is
    by (reading (role.Near g)) = is
    by (reading (role.Come q address)) = one_more (is_entry p v) (valid_at q.0 (page_number address.0) f) a.valid is
    by writing = is

out_entry : (p v : ℕ) (a : Pager) (f : ℕ) (b : BlockId) → HasEntry p v a → HasEntry p v (after_any_out a f b)
out_entry p v a f (block.Swap q n) is = is
out_entry p v a f other is = is

out_ok_entry : (p v : ℕ) (a : Pager) (f : ℕ) (o : Option Flight) → HasEntry p v a → HasEntry p v (after_out_ok a f o)
out_ok_entry p v a f None is = is
out_ok_entry p v a f (Some x) is = is

transfer_entry : (config : Config) (past : List Entry) (p v : ℕ) (a : Pager) (seat : ℕ) (w : What) → is_transfer w ≡ true → HasEntry p v a → HasEntry p v (after_what config past a seat w)
transfer_entry config past p v a seat (what.Reuse f g) transfer is = is
transfer_entry config past p v a seat (what.In f b (role.Fault q address)) transfer is = is
transfer_entry config past p v a seat (what.In f b (role.Near g)) transfer is = is
transfer_entry config past p v a seat (what.In f b (role.Come q address)) transfer is = is
transfer_entry config past p v a seat (what.Out f b) transfer is = out_entry p v a f.0 b is
transfer_entry config past p v a seat (what.InOk f k) transfer is = in_ok_entry p v a f.0 (find (starts k) (open_flights past)) is
transfer_entry config past p v a seat (what.InFail f k c d) transfer is = is
transfer_entry config past p v a seat (what.OutOk f k) transfer is = out_ok_entry p v a f.0 (find (starts k) (open_flights past)) is
transfer_entry config past p v a seat (what.OutFail f k c d) transfer is = out_ok_entry p v (marked a f.0) f.0 (find (starts k) (open_flights past)) is
transfer_entry config past p v a seat other transfer is = absurd (false≢true transfer)

made_entry : (config : Config) (p v seat : ℕ) (ws : List What) (past : List Entry) → AllByRecursion (λ (w : What). is_transfer w ≡ true) ws → HasEntry p v (pager_after config past)
    → HasEntry p v (pager_after config (made_by seat ws past))
made_entry config p v seat [] past each is = is
made_entry config p v seat (w ∷ ws) past each is = made_entry config p v seat ws (by_seat seat w ∷ past) each.1 (transfer_entry config past p v (pager_after config past) seat w each.0 is)

landed_entry : (config : Config) (p v seat : ℕ) (flights : List Flight) (outcomes : List Outcome) (past : List Entry) → HasEntry p v (pager_after config past)
    → HasEntry p v (pager_after config (landed_by config seat flights outcomes past))
landed_entry config p v seat [] outcomes past is = is
landed_entry config p v seat (x ∷ flights) [] past is = is
landed_entry config p v seat (x ∷ flights) (o ∷ outcomes) past is =
    let ws = landing past (pager_after config past).page x x.direction o in
    landed_entry config p v seat flights outcomes (made_by seat ws past) (made_entry config p v seat ws past (landing_transfers past (pager_after config past).page x x.direction o) is)

-- ---- an open flight stays open while others begin
stays_open : (seat : ℕ) (w : What) (now : List Entry) (k : ℕ) (x : Flight) → is_beginning w ≡ true → find (starts k) (open_flights now) ≡ Some x
    → find (starts k) (open_flights (by_seat seat w ∷ now)) ≡ Some x
stays_open seat w now k x begins found = by w begins
  where
    other : (y : Flight) → count_by (starts k) (y ∷ open_flights now) ≤ 1 → find (starts k) (y ∷ open_flights now) ≡ Some x
    other y once = go (starts k y) refl
      where
        go : (b : Bool) → starts k y ≡ b → find (starts k) (y ∷ open_flights now) ≡ Some x
        go false apart = find_cons_no (starts k) y (open_flights now) apart ∙ found
        go true same =
            absurd
            (let some = count_found (starts k) (starts k) (open_flights now) x found (found_passes (starts k) (open_flights now) x found) in
            let more = count_cons_yes (starts k) y (open_flights now) same in omega (arith, some, more, once))

    by : (w : What) → is_beginning w ≡ true → find (starts k) (open_flights (by_seat seat w ∷ now)) ≡ Some x
    by (what.In f b r) is = other (record { start = length now + 1; seat = seat; frame = f.0; block = b; direction = reading r }) (starts_once (by_seat seat (what.In f b r) ∷ now) k)
    by (what.Out f b) is = other (record { start = length now + 1; seat = seat; frame = f.0; block = b; direction = writing }) (starts_once (by_seat seat (what.Out f b) ∷ now) k)
    by (what.Reuse f g) is = found
    by other_entry is = absurd (false≢true is)

made_open : (seat : ℕ) (ws : List What) (now : List Entry) (k : ℕ) (x : Flight) → AllByRecursion (λ (w : What). is_beginning w ≡ true) ws → find (starts k) (open_flights now) ≡ Some x
    → find (starts k) (open_flights (made_by seat ws now)) ≡ Some x
made_open seat [] now k x each found = found
made_open seat (w ∷ ws) now k x each found = made_open seat ws (by_seat seat w ∷ now) k x each.1 (stays_open seat w now k x each.0 found)

-- ---- the carrier's first read
module _ (config : Config) (now : List Entry) (none : open_flights now ≡ []) (p v f : ℕ) (b : BlockId) (rest : List What) (begins : AllByRecursion (λ (w : What). is_beginning w ≡ true) rest) where
  abbrev first_entry : What
  first_entry = what.In (pfn f) b (role.Fault (proc p) (page_address v))

  abbrev first : Flight
  first = record { start = length now + 1; seat = p; frame = f; block = b; direction = reading (role.Fault (proc p) (page_address v)) }

  abbrev begun : List Entry
  begun = made_by p (first_entry ∷ rest) now

  abbrev AnyFlight : Flight → Type 0
  AnyFlight x = Unit {0}

  is_begun : IsBegun AnyFlight begun p first
  is_begun = begun_made AnyFlight p first rest (by_seat p first_entry ∷ now) begins (each_is _ (λ w n x is. tt) rest) (begun_first AnyFlight now p first_entry first none refl tt)

  is_open : find (starts (length now + 1)) (open_flights begun) ≡ Some first
  is_open = made_open p rest (by_seat p first_entry ∷ now) (length now + 1) first begins (find_cons_yes (starts (length now + 1)) first (open_flights now) (nat_eq_refl (length now + 1)))

  valid_first : HasEntry p v (pager_after config (by_seat p (what.InOk (pfn f) (length now + 1)) ∷ begun))
  valid_first =
      ap (λ (o : Option Flight). is_some (entry_of (after_in_ok (pager_after config begun) f o).valid p v)) is_open
      ∙ ap is_some
      (find_cons_yes (is_entry p v) (valid_at p (page_number (PAGE_BYTES * v)) f) (pager_after config begun).valid (and_from _ _ (nat_eq_refl p) (eq-eqb (page_number (PAGE_BYTES * v)) v (same_number v))))

  pub read_valid : (outcomes : List Outcome) → length outcomes ≡ length (carrier_of p (made_by p (what.In (pfn f) b (role.Fault (proc p) (page_address v)) ∷ rest) now)) → first_bad outcomes ≡ false
      → HasEntry p v (pager_after config (landed_from config (made_by p (what.In (pfn f) b (role.Fault (proc p) (page_address v)) ∷ rest) now) p outcomes))
  read_valid outcomes each good =
      subst (λ (flights : List Flight). HasEntry p v (pager_after config (landed_by config p flights outcomes begun))) (sym is_begun.carrier)
      (by outcomes (let some = ap length is_begun.carrier in omega (arith, each, some)) good)
    where
      by : (outcomes : List Outcome) → 0 < length outcomes → first_bad outcomes ≡ false → HasEntry p v (pager_after config (landed_by config p (first ∷ is_begun.more) outcomes begun))
      by [] some good = absurd (omega (arith, some))
      by (went_badly n ∷ outcomes) some good = absurd (true≢false good)
      by (went_well ∷ outcomes) some good = landed_entry config p v p is_begun.more outcomes (by_seat p (what.InOk (pfn f) (length now + 1)) ∷ begun) valid_first
