-- One read into the free list's head: when its entries may be made, and what they leave.
use Rattle.std.proofs.Common.{◌≡◌, ℕ, ◌+◌, ◌-◌, ◌*◌, ◌<◌, ◌≤◌, Bool, true, false, cond, List, [], ◌∷◌, ◌++◌, Option, Some, None, length, map, refl, sym, ap, ◌∙◌, subst, arith}
use Rattle.std.specs.List.{AllByRecursion}
use Rattle.std.proofs.lemmas.List.{length-append, map-append}
use Rattle.vm_types.specs.BlockView.{BlockView, Tells}
use Rattle.vm_types.specs.Configuration.{IsWellFormed}
use Rattle.vm_types.specs.declared.names.BlockId.{BlockId}
use Rattle.vm_types.specs.declared.names.Page.{Page}
use Rattle.vm_types.specs.declared.names.Pfn.{Pfn}
use Rattle.vm_types.specs.declared.names.Seat.{Seat}
use Rattle.vm_journal.specs.declared.entry.Entry.{Entry}
use Rattle.vm_journal.specs.declared.entry.Role.{Role}
use Rattle.vm_journal.specs.declared.entry.What.{What}
use Rattle.vm_journal.specs.declared.entry.What.TheVariants as what
use Rattle.pager_model.specs.Fits.{lands}
use Rattle.pager_model.specs.Flights.{awaits_reuse, open_flights}
use Rattle.pager_policy.specs.Given.{reads_made, reuse_first}
use Rattle.pager_model.specs.Lookups.{IsHead}
use Rattle.pager_model.specs.Run.{IsRun}
use Rattle.content_laws.proofs.LiftsStay.{lifts_stay}
use Rattle.frame_store.specs.LiftView.{LiftView}
use Rattle.frame_store.specs.declared.lift.Carried.TheVariants.{Waiting}
use Rattle.call_laws.specs.AreLegal.{AreLegal}
use Rattle.lift_carriers.specs.CarrierView.{CanTake, CarrierView, taking}
use Rattle.vm_state.specs.History.{History, MayAdd, added, entry_by, owed, pager}
use Rattle.vm_state.specs.LiftsBegin.{HasBegun}
use Rattle.lift_carriers.specs.LiftsFit.{lift_seen}
use Rattle.vm_state.specs.LiftsLand.{added_each}
use Rattle.call_begins.specs.Lifted.{HasBegunLifts, IsBegun, place_of, places_in}
use Rattle.call_begins.specs.OneRead.{one_read}
use Rattle.call_begins.proofs.Heads.{behind_reuse, reuse_alone}
use Rattle.call_begins.proofs.Steps.{paid_after}

-- no read without a target
pub no_more : (page : ℕ → Option Page) (frames : List ℕ) → reads_made page frames [] ≡ []
no_more page [] = refl
no_more page (f ∷ fs) = refl

-- nor without a frame
pub none_read : (s : History) (b : BlockId) (r : Role) → (pager s).free ≡ [] → one_read s b r ≡ []
none_read s b r is = ap (λ (xs : List ℕ). reads_made (pager s).page xs (record { block = b; role = r } ∷ [])) is

paid_in : (past : List Entry) (seat : Seat) (f : Pfn) (b : BlockId) (r : Role) → owed (entry_by seat (what.In f b r) ∷ past) ≤ owed past + 2
paid_in past seat f b r = go (awaits_reuse past)
  where
    go : (c : Bool) → 2 * length (open_flights (entry_by seat (what.In f b r) ∷ past)) + 0 ≤ 2 * length (open_flights past) + cond c 1 0 + 2
    go true = omega arith
    go false = omega arith

module _ (s : History) (seat : Seat) (f : Pfn) (b : BlockId) (r : Role) (head : IsHead (pager s).free f.0) where
  abbrev held : Option Page
  held = (pager s).page f.0

  abbrev read : What
  read = what.In f b r

  pub one_is : one_read s b r ≡ reuse_first held f.0 (read ∷ [])
  one_is =
      ap (λ (xs : List ℕ). reads_made (pager s).page xs (record { block = b; role = r } ∷ [])) head.heads
      ∙ ap (λ (ws : List What). reuse_first held f.0 (read ∷ ws)) (no_more (pager s).page head.rest)

  are_legal : AreLegal s.config s.past seat.0 (one_read s b r) → AreLegal s.config s.past seat.0 (reuse_first held f.0 (read ∷ []))
  are_legal legal = subst (λ (ws : List What). AreLegal s.config s.past seat.0 ws) one_is legal

  pub may_reuse_first : AreLegal s.config s.past seat.0 (one_read s b r) → AreLegal s.config s.past seat.0 (reuse_first held f.0 [])
  may_reuse_first legal = reuse_alone s.config s.past seat.0 f.0 (read ∷ []) held (are_legal legal)

  paid_there : (o : Option Page) → owed s.past + 4 ≤ s.spare → owed (added_each seat (reuse_first o f.0 []) s).past + 3 ≤ (added_each seat (reuse_first o f.0 []) s).spare
  paid_there None paid = omega (arith, paid)
  paid_there (Some x) paid = let less = paid_after s.past (entry_by seat (what.Reuse f x)) s.spare 4 refl refl paid in omega (arith, less)

  module _ (s1 : History) (first : s1 ≡ added_each seat (reuse_first held f.0 []) s) (legal : AreLegal s.config s.past seat.0 (one_read s b r)) where
    pub may_read : owed s.past + 4 ≤ s.spare → MayAdd s1 (entry_by seat read)
    may_read paid = subst (λ (x : History). MayAdd x (entry_by seat read)) (sym first) (record {
      legal = (behind_reuse s seat f.0 (read ∷ []) held (are_legal legal)).0;
      paid =
          let left = paid_there held paid in
          let more = paid_in (added_each seat (reuse_first held f.0 []) s).past seat f b r in
          omega (arith, left, more);
    })

    module _ (s2 : History) (second : s2 ≡ added s1 (entry_by seat read)) where
      reached : s2 ≡ added (added_each seat (reuse_first held f.0 []) s) (entry_by seat read)
      reached = second ∙ ap (λ (x : History). added x (entry_by seat read)) first

      pub is_made : s2 ≡ added_each seat (one_read s b r) s
      is_made = reached ∙ (by held ∙ ap (λ (ws : List What). added_each seat ws s) (sym one_is))
        where
          by : (o : Option Page) → added (added_each seat (reuse_first o f.0 []) s) (entry_by seat read) ≡ added_each seat (reuse_first o f.0 (read ∷ [])) s
          by None = refl
          by (Some x) = refl

      pub is_paid : owed s.past + 4 ≤ s.spare → owed s2.past + s.spare ≤ owed s.past + s2.spare + 4
      is_paid paid = subst (λ (x : History). owed x.past + s.spare ≤ owed s.past + x.spare + 4) (sym reached) (by held)
        where
          by : (o : Option Page) → owed (entry_by seat read ∷ (added_each seat (reuse_first o f.0 []) s).past) + s.spare ≤ owed s.past + ((added_each seat (reuse_first o f.0 []) s).spare - 1) + 4
          by None = let more = paid_in s.past seat f b r in omega (arith, more, paid)
          by (Some x) =
              let more = paid_in (entry_by seat (what.Reuse f x) ∷ s.past) seat f b r in
              let same = paid_after s.past (entry_by seat (what.Reuse f x)) (owed s.past) 0 refl refl (omega arith) in
              omega (arith, more, same, paid)

-- ---- the lifts
reads_one : (f : Pfn) (b : BlockId) (r : Role) (o : Option Page) → places_in (reuse_first o f.0 (what.In f b r ∷ [])) ≡ (f.0, b) ∷ []
reads_one f b r None = refl
reads_one f b r (Some x) = refl

all_as : {X : Type 0} (P Q : X → Type 0) → ((x : X) → P x → Q x) → (xs : List X) → AllByRecursion P xs → AllByRecursion Q xs
all_as P Q then [] all = tt
all_as P Q then (x ∷ xs) all = (then x all.0, all_as P Q then xs all.1)

pub all_and_one : {X : Type 0} (P : X → Type 0) (xs : List X) (x : X) → AllByRecursion P xs → P x → AllByRecursion P (xs ++ x ∷ [])
all_and_one P [] x all one = (one, tt)
all_and_one P (y ∷ ys) x all one = (all.0, all_and_one P ys x all.1 one)

module _ {B : Type 0} {seen : B → BlockView} {tells : Tells} where
  pub can_take : (s : History) (seat : Seat) (c : CarrierView B) → HasBegunLifts seen tells s seat c → length c.lifts < 16 → CanTake c seat
  can_take s seat c has few = record {
    own = has.own;
    room = few;
    waiting = all_as (IsBegun seen tells s seat) (λ (lift : LiftView B). lift.result ≡ Waiting) (λ lift is. is.waits) c.lifts has.begun;
  }

  -- an entry that lands nothing leaves them
  pub later : (s : History) (e : Entry) (seat : Seat) (c : CarrierView B) → IsWellFormed s.config → IsRun s.config (e ∷ s.past) → ((k : ℕ) → lands k e.what ≡ false) → HasBegunLifts seen tells s seat c → HasBegunLifts seen tells (added s e) seat c
  later s e seat c formed run quiet has = record {
    own = has.own;
    begun = all_as (IsBegun seen tells s seat) (IsBegun seen tells (added s e) seat)
        (λ lift is. record {
          seat_is = is.seat_is;
          pool_is = is.pool_is;
          waits = is.waits;
          fits = lifts_stay tells.content tells.plan s.config s.past e (lift_seen seen lift) formed run (quiet lift.start) is.fits;
        }) c.lifts has.begun;
  }

  module _ (s : History) (seat : Seat) (f : Pfn) (b : BlockId) (r : Role) (head : IsHead (pager s).free f.0) where
    both : (o : Option Page) (c : CarrierView B) → IsWellFormed s.config → IsRun s.config s.past → AreLegal s.config s.past seat.0 (reuse_first o f.0 (what.In f b r ∷ [])) → HasBegunLifts seen tells s seat c
        → HasBegunLifts seen tells (added (added_each seat (reuse_first o f.0 []) s) (entry_by seat (what.In f b r))) seat c
    both None c formed run legal has = later s (entry_by seat (what.In f b r)) seat c formed (run, legal.0) (λ k. refl) has
    both (Some x) c formed run legal has =
        let reuse : Entry = entry_by seat (what.Reuse f x) in
        later (added s reuse) (entry_by seat (what.In f b r)) seat c formed ((run, legal.0), legal.1.0) (λ k. refl) (later s reuse seat c formed (run, legal.0) (λ k. refl) has)

    module _ (s1 s2 : History) (c : CarrierView B) (lift : LiftView B) (first : s1 ≡ added_each seat (reuse_first ((pager s).page f.0) f.0 []) s) (second : s2 ≡ added s1 (entry_by seat (what.In f b r)))
        (began : HasBegun seen tells s1 seat (what.In f b r) f.0 b true lift) where
      pub has_taken : (c' : CarrierView B) → c' ≡ taking c lift → IsWellFormed s.config → IsRun s.config s.past → AreLegal s.config s.past seat.0 (one_read s b r) → HasBegunLifts seen tells s seat c → HasBegunLifts seen tells s2 seat c'
      has_taken c' taken formed run legal has =
          let old : HasBegunLifts seen tells s2 seat c = subst (λ (x : History). HasBegunLifts seen tells x seat c) (sym (reached s seat f b r head s1 first legal s2 second)) (both ((pager s).page f.0) c formed run (are_legal s seat f b r head legal) has) in
          subst (λ (x : CarrierView B). HasBegunLifts seen tells s2 seat x) (sym taken) (record {
            own = old.own;
            begun = all_and_one (IsBegun seen tells s2 seat) c.lifts lift old.begun (subst (λ (x : History). IsBegun seen tells x seat lift) (sym second) (record {
              seat_is = ap (λ (x : LiftView B). x.seat) began.begins;
              pool_is = ap (λ (x : LiftView B). x.pool) began.begins;
              waits = ap (λ (x : LiftView B). x.result) began.begins;
              fits = began.fits;
            }));
          })

      pub has_each : (c' : CarrierView B) → c' ≡ taking c lift → map place_of c'.lifts ≡ map place_of c.lifts ++ places_in (one_read s b r)
      has_each c' taken =
          ap (λ (x : CarrierView B). map place_of x.lifts) taken
          ∙ (map-append place_of c.lifts (lift ∷ [])
          ∙ ap (λ (xs : List (ℕ × BlockId)). map place_of c.lifts ++ xs)
          ((λ i. ((began.begins i).frame, (began.begins i).block) ∷ []) ∙ (sym (reads_one f b r ((pager s).page f.0)) ∙ ap (λ (ws : List What). places_in ws) (sym (one_is s seat f b r head)))))

pub one_longer : {B : Type 0} (c c' : CarrierView B) (lift : LiftView B) → c' ≡ taking c lift → length c'.lifts ≤ length c.lifts + 1
one_longer c c' lift taken = let more = ap (λ (x : CarrierView _). length x.lifts) taken in let sum = length-append c.lifts (lift ∷ []) in omega (arith, more, sum)
