-- LIMIT and COLLIDE.
use Rattle.pager_rules.proofs.Quiet.{none_failed}
use Rattle.std.proofs.Common.{◌-◌, nat_le, nat_lt, cond, Bool, true, false, false, ◌≡◌, ℕ, ◌+◌, ◌<◌, ◌≤◌, List, ◌∷◌, Some, None, length, slice_get, refl, sym, subst, arith}
use Rattle.std.proofs.lemmas.Bool.{leb-true, leb-false}
use Rattle.std.proofs.lemmas.Option.{slice_get_cases, slice_get_within, get_or_from_slice_get}
use Rattle.std.proofs.lemmas.Grind.{common_steps}
use Rattle.vm_types.specs.Configuration.{IsWellFormed, IsProcess, all_pins}
use Rattle.vm_types.specs.declared.config.Params.{Params}
use Rattle.vm_types.specs.declared.config.ProcSpec.{ProcSpec}
use Rattle.vm_types.specs.declared.names.Addr.{Addr}
use Rattle.vm_types.specs.declared.names.Pfn.{Pfn}
use Rattle.vm_types.specs.declared.names.Seat.{Seat}
use Rattle.vm_types.specs.declared.config.Config.{Config}
use Rattle.vm_journal.specs.declared.entry.Entry.{Entry}
use Rattle.vm_journal.specs.declared.entry.What.TheVariants as what
use Rattle.pager_model.specs.Around.{past_view, process_view, quiet}
use Rattle.pager_model.specs.Collide.{IsCollide, after_collide}
use Rattle.pager_model.specs.Flights.{is_busy, open_flights}
use Rattle.pager_model.specs.Limit.{IsLimit, after_limit}
use Rattle.pager_model.specs.Own.{IsResident}
use Rattle.pager_model.specs.Pager.{Pager}
use Rattle.pager_model.specs.Served.{with_limit}
use Rattle.pager_model.specs.Sets.{at_number}
use Rattle.vm_types.specs.Adjust.{adjust, greater, lesser}
use Rattle.pager_rules.proofs.Basics.{at_number_other, at_number_same}
use Rattle.pager_rules.proofs.Transfers.{alike, transfers_idle}
use Rattle.pager_rules.proofs.Unread.{unread}
use Rattle.pager_rules.proofs.Views.{frames_move}
use Rattle.pager_rules.specs.Kept.{FitsProcess, IsKept, views}

none_within : (specs : List ProcSpec) (p : ℕ) → p < length specs → slice_get specs p ≡ None → ⊥
none_within specs p inside past = grind (arith, common_steps, slice_get_cases specs p)

greater_is : (m n : ℕ) → (m ≤ greater m n) × (n ≤ greater m n) × ((k : ℕ) → m ≤ k → n ≤ k → greater m n ≤ k)
greater_is m n = go (nat_le m n) refl
  where
    go : (c : Bool) → nat_le m n ≡ c → (m ≤ cond c n m) × (n ≤ cond c n m) × ((k : ℕ) → m ≤ k → n ≤ k → cond c n m ≤ k)
    go true is = (leb-true m n is, omega arith, λ k a b. b)
    go false is = let more = leb-false m n is in (omega arith, omega arith, λ k a b. a)

lesser_is : (m n : ℕ) → (lesser m n ≤ m) × (lesser m n ≤ n) × ((k : ℕ) → k ≤ m → k ≤ n → k ≤ lesser m n)
lesser_is m n = go (nat_le m n) refl
  where
    go : (c : Bool) → nat_le m n ≡ c → (cond c m n ≤ m) × (cond c m n ≤ n) × ((k : ℕ) → k ≤ m → k ≤ n → k ≤ cond c m n)
    go true is = (omega arith, leb-true m n is, λ k a b. a)
    go false is = let more = leb-false m n is in (omega arith, omega arith, λ k a b. b)

-- what an adjustment gives is within the process's bounds
pub adjust_within : (params : Params) (spec : ProcSpec) (faults limit free : ℕ) → spec.limit ≤ spec.quota → spec.quota ≤ spec.extent → spec.locks + 2 ≤ limit → limit ≤ spec.extent
    → (spec.locks + 2 ≤ adjust params spec faults limit free) × (adjust params spec faults limit free ≤ spec.extent)
adjust_within params spec faults limit free quota extent least most = go (nat_lt params.pfrath faults) (nat_lt faults params.pfratl)
  where
    cap : ℕ
    cap = cond (nat_lt params.borrowlim free) spec.extent spec.quota

    cap_is : (c : Bool) → cond c spec.extent spec.quota ≤ spec.extent
    cap_is true = omega arith
    cap_is false = extent

    floor : ℕ
    floor = greater params.awsmin (spec.locks + 2)

    down : ℕ
    down = greater (limit - params.wsdec) floor

    up : ℕ
    up = lesser (limit + params.wsinc) cap

    go : (b c : Bool) → (spec.locks + 2 ≤ cond b (greater limit up) (cond c (lesser limit down) limit)) × (cond b (greater limit up) (cond c (lesser limit down) limit) ≤ spec.extent)
    go true c = (
      omega (arith, (greater_is limit up).0, least),
      (greater_is limit up).2 spec.extent most (omega (arith, (lesser_is (limit + params.wsinc) cap).1, cap_is (nat_lt params.borrowlim free))),
    )
    go false true = (
      (lesser_is limit down).2 (spec.locks + 2) least (omega (arith, (greater_is params.awsmin (spec.locks + 2)).1, (greater_is (limit - params.wsdec) floor).1)),
      omega (arith, (lesser_is limit down).0, most),
    )
    go false false = (least, most)

-- the limit, and what soundness reads nothing of
pub limit_set : (config : Config) (past : List Entry) (a : Pager) (p n : ℕ) → IsKept config (quiet (open_flights past)) a → IsResident config a p → is_busy p (open_flights past) ≡ false
    → ((spec : ProcSpec) → slice_get config.procs p ≡ Some spec → (spec.locks + 2 ≤ n) × (n ≤ spec.extent)) → IsKept config (quiet (open_flights past)) (with_limit a p n)
limit_set config past a p n kept own idle limits =
    record {
      frames = kept.frames;
      processes = frames_move FitsProcess (process_view config a) (process_view config b) p there here kept.processes;
      entries = kept.entries;
      valid = kept.valid;
      pages = kept.pages;
      blocks = kept.blocks;
      fit = kept.fit;
      held_once = kept.held_once;
      held_charged = kept.held_charged;
      unsaved = kept.unsaved;
      swapped = kept.swapped;
      coming_once = kept.coming_once;
      transfers = transfers_idle (views config a) (views config b) p (record { not_leaving = λ leaving. let resident = own.resident in cc; status = λ r. refl; process = there; entries = λ r w far. refl; mapped = λ r w far. refl })
          (open_flights past) idle (λ x counts fits. (refl, λ g holds. alike _ _ _ refl)) kept.transfers;
      one_fault = kept.one_fault;
      failed = none_failed _ _;
    }
  where
    b : Pager
    b = with_limit a p n

    there : (r : ℕ) → (p ≡ r → ⊥) → process_view config b r ≡ process_view config a r
    there r apart = let limit_is = at_number_other a.limit p n r apart in cc

    here : FitsProcess (process_view config b p)
    here = subst (λ (l : ℕ). FitsProcess (record (process_view config a p) { limit = l })) (sym (at_number_same a.limit p n)) (record {
      bounds = λ spec found. let old = (kept.processes p).bounds spec found in let limit = limits spec found in record { locks = old.locks; pins = old.pins; least = limit.0; most = limit.1; slots = old.slots; hand = old.hand };
      gone = (kept.processes p).gone;
      none = λ none. absurd (none_within config.procs p own.process none);
    })

pub limit_kept : (config : Config) (past : List Entry) (a : Pager) (seat : Seat) (n faults : ℕ) → IsWellFormed config → IsKept config (quiet (open_flights past)) a → is_busy seat.0 (open_flights past) ≡ false → IsLimit config a seat.0 n faults
    → IsKept config (past_view (record { seat = seat; what = what.Limit n faults } ∷ past)) (after_limit a seat.0 n)
limit_kept config past a seat n faults formed before idle legal =
    unread config (quiet (open_flights past)) (with_limit a seat.0 n) (at_number a.references seat.0 0) (at_number a.faults seat.0 0) a.collided
    (limit_set config past a seat.0 n before legal.own idle bounds)
  where
    bounds : (spec : ProcSpec) → slice_get config.procs seat.0 ≡ Some spec → (spec.locks + 2 ≤ n) × (n ≤ spec.extent)
    bounds spec found =
        let old = (before.processes seat.0).bounds spec found in
        let process : IsProcess config.frames (length config.bad + all_pins config) spec =
        subst (λ (x : ProcSpec). IsProcess config.frames (length config.bad + all_pins config) x) (get_or_from_slice_get config.procs seat.0 spec spec found) (formed.procs seat.0 spec (slice_get_within config.procs seat.0 spec found)) in
        subst (λ (m : ℕ). (spec.locks + 2 ≤ m) × (m ≤ spec.extent)) (sym (legal.adjusted spec found))
        (adjust_within config.params spec (a.faults seat.0) (a.limit seat.0) (length a.free) process.limited.quota process.limited.extent old.least old.most)

pub collide_kept : (config : Config) (past : List Entry) (a : Pager) (seat : Seat) (address : Addr) (f : Pfn) (k : ℕ) → IsKept config (quiet (open_flights past)) a → IsCollide config past a seat.0 address.0 f.0 k
    → IsKept config (past_view (record { seat = seat; what = what.Collide address f k } ∷ past)) (after_collide a seat.0 k)
collide_kept config past a seat address f k before legal = unread config (quiet (open_flights past)) a a.references a.faults (at_number a.collided seat.0 (Some k)) before
