-- The first entry of each case that answers or makes one entry may be added.
use Rattle.std.proofs.Common.{◌≡◌, ℕ, ◌<◌, ◌&&◌, Bool, true, false, List, [], ◌∷◌, Option, Some, None, length, find, nat_eq, nat_le, refl, sym, ap, ◌∙◌, arith}
use Rattle.std.specs.Option.{is_some, option_map}
use Rattle.std.proofs.lemmas.Bool.{ne_eqb}
use Rattle.vm_types.specs.Ring.{filled}
use Rattle.vm_types.specs.declared.names.BlockId.{BlockId}
use Rattle.vm_types.specs.declared.names.Page.{Page}
use Rattle.vm_types.specs.declared.names.Pfn.{Pfn}
use Rattle.vm_types.specs.declared.names.Seat.{Seat}
use Rattle.vm_types.specs.declared.reference.Ref.{Ref}
use Rattle.vm_types.specs.declared.reply.Why.{Why}
use Rattle.vm_journal.specs.declared.entry.What.TheVariants as what
use Rattle.pager_policy.specs.Advance.{GivenNext, again_block_busy, again_charging, again_collided, entry_given, fault_given, gives_again, held_given, is_busy_block, is_named, mapped_given, out_given, read_given, next_answered, next_more, refused_given, room_given}
use Rattle.pager_model.specs.Charging.{is_uncharged}
use Rattle.pager_model.specs.Flat.{flat_refusal}
use Rattle.pager_model.specs.Flights.{Flight, open_flights}
use Rattle.pager_model.specs.Forget.{holder}
use Rattle.pager_policy.specs.Given.{given, page_address, unsaid}
use Rattle.pager_model.specs.Lookups.{entry_of, page_by, section_at, section_of}
use Rattle.vm_types.specs.Status.{is_resident}
use Rattle.pager_model.specs.Spoken.{flat_after}
use Rattle.pager_model.specs.Transfers.{is_read_on}
use Rattle.vm_state.specs.FlightReadings.{read_by}
use Rattle.vm_state.specs.History.{History, MayAdd, MayAnswer, entry_by, owed, pager}
use Rattle.vm_state.specs.PageReadings.{IsGranted, found_in}
use Rattle.vm_state.specs.ProcessReadings.{pending_in}
use Rattle.state_pages.specs.declared.found.Found.{Found}
use Rattle.state_pages.specs.declared.found.OpenRead.{OpenRead}
use Rattle.call_begins.proofs.Branches.{if_false, if_true}
use Rattle.call_begins.proofs.Steps.{paid_first}
use Rattle.fault_core.specs.Cases.{IsReplacedFirst, at_entry, at_fault, at_first, at_frame, at_held, at_map, at_out, at_read, at_refusal, at_replace, at_room, source_in, vpn_of}
use Rattle.fault_core.specs.Gives.{MayGive}
use Rattle.call_begins.specs.ReadySeat.{IsReadySeat}
use Rattle.fault_core.specs.declared.sought.Sought.{Sought}
use Rattle.fault_core.proofs.Branches.{entry_missing, entry_some, first_pending, first_settled, found_page, found_valid, out_busy, out_still, read_none, read_other, read_own, room_charging, room_full}
use Rattle.fault_core.proofs.Steps.{may_as}

module _ (s : History) (seat : Seat) (r : Ref) where
  -- ---- the adjustment
  pub limited : (n k : ℕ) → IsReadySeat s seat → Some (n, k) ≡ pending_in s.config (pager s) seat.0 → at_first s seat r ≡ given (what.Limit n k ∷ []) next_more
  limited n k ready is = first_pending s.config s.past (pager s) seat.0 r n k (ap is_resident ready.resident) is

  pub may_limit : (n k : ℕ) → IsReadySeat s seat → Some (n, k) ≡ pending_in s.config (pager s) seat.0 → MayGive s seat (at_first s seat r) → MayAdd s (entry_by seat (what.Limit n k))
  may_limit n k ready is may =
      let m = may_as s seat _ _ (limited n k ready is) may in
      record { legal = m.legal.0; paid = paid_first s seat (what.Limit n k) 1 (omega arith) refl refl m.room }

  pub settled : IsReadySeat s seat → None ≡ pending_in s.config (pager s) seat.0 → at_first s seat r ≡ at_refusal s seat r
  settled ready is = first_settled s.config s.past (pager s) seat.0 r ready.seat_is.process (ap is_resident ready.resident) is

  -- ---- the refusal
  pub denies : (reason : Why) → Some reason ≡ flat_refusal s.config (flat_after s.config s.past) seat.0 r → at_refusal s seat r ≡ given (what.Denied r reason ∷ []) next_answered
  denies reason is = ap (refused_given s.config s.past (pager s) seat.0 r) (sym is)

  pub may_deny : (reason : Why) → Some reason ≡ flat_refusal s.config (flat_after s.config s.past) seat.0 r → MayGive s seat (at_refusal s seat r) → MayAdd s (entry_by seat (what.Denied r reason))
  may_deny reason is may =
      let m = may_as s seat _ _ (denies reason is) may in
      record { legal = m.legal.0; paid = paid_first s seat (what.Denied r reason) 1 (omega arith) refl refl m.room }

  pub goes_by : None ≡ flat_refusal s.config (flat_after s.config s.past) seat.0 r → at_refusal s seat r ≡ at_entry s seat r
  goes_by is = ap (refused_given s.config s.past (pager s) seat.0 r) (sym is)

  -- ---- the answer
  valid_there : (x : Found) → Some x ≡ found_in s.config (pager s) seat.0 (vpn_of r) → is_some (entry_of (pager s).valid seat.0 (vpn_of r)) ≡ x.valid
  valid_there x is = sym (found_valid s.config seat.0 (vpn_of r) (is_some (entry_of (pager s).valid seat.0 (vpn_of r))) ((pager s).map seat.0 (vpn_of r)) x is)

  pub answers : (x : Found) → Some x ≡ found_in s.config (pager s) seat.0 (vpn_of r) → x.valid ≡ true → at_entry s seat r ≡ given (what.Done r unsaid ∷ []) next_answered
  answers x is valid = entry_some s.config s.past (pager s) seat.0 r (entry_of (pager s).valid seat.0 (vpn_of r)) (valid_there x is ∙ valid)

  pub may_answer : (x : Found) → Some x ≡ found_in s.config (pager s) seat.0 (vpn_of r) → x.valid ≡ true → MayGive s seat (at_entry s seat r) → MayAnswer s seat r
  may_answer x is valid may =
      let m = may_as s seat _ _ (answers x is valid) may in
      record { legal = m.legal.0; paid = let room = m.room in omega (arith, room) }

  pub passes_on : (x : Found) → Some x ≡ found_in s.config (pager s) seat.0 (vpn_of r) → x.valid ≡ false → at_entry s seat r ≡ at_map s seat r
  passes_on x is invalid = ap (entry_given s.config s.past (pager s) seat.0 r) (entry_missing (entry_of (pager s).valid seat.0 (vpn_of r)) (valid_there x is ∙ invalid))

  -- ---- the mapping
  abbrev fault_by : Page → Option ℕ → GivenNext
  fault_by g o = fault_given s.config s.past (pager s) seat.0 r g o

  abbrev room_by : Page → GivenNext
  room_by g = room_given s.config s.past (pager s) seat.0 r g

  pub mapped_to : (x : Found) → Some x ≡ found_in s.config (pager s) seat.0 (vpn_of r) → (page_by s.config (pager s).map seat.0 (vpn_of r) ≡ Some x.page) × (section_of x.from ≡ section_at ((pager s).map seat.0 (vpn_of r)))
  mapped_to x is = found_page s.config seat.0 (vpn_of r) (is_some (entry_of (pager s).valid seat.0 (vpn_of r))) ((pager s).map seat.0 (vpn_of r)) x is

  pub faults_on : (x : Found) → Some x ≡ found_in s.config (pager s) seat.0 (vpn_of r) → at_map s seat r ≡ fault_by x.page (holder s.config (pager s).page x.page)
  faults_on x is = ap (mapped_given s.config s.past (pager s) seat.0 r) (mapped_to x is).0

  -- nothing is in flight
  none_open : owed s.past ≡ 0 → open_flights s.past ≡ []
  none_open none = go (open_flights s.past) (omega (arith, none))
    where
      go : (xs : List Flight) → length xs ≡ 0 → xs ≡ []
      go [] is = refl
      go (x ∷ xs) is = absurd (omega (arith, is))

  roomed : (g : Page) (o : Option ℕ) → open_flights s.past ≡ [] → fault_by g o ≡ room_by g
  roomed g None none = refl
  roomed g (Some f) none = ap (λ (xs : List Flight). read_given s.config s.past (pager s) seat.0 r g f (find (is_read_on f) xs)) none

  not_charging : (b : Bool) (n m : ℕ) → n < m → (b && nat_eq n m) ≡ false
  not_charging true n m less = ne_eqb n m (λ same. omega (arith, less, same))
  not_charging false n m less = refl

  replaced_first : (g : Page) → IsReplacedFirst s seat.0 → fault_by g (holder s.config (pager s).page g) ≡ at_replace s seat
  replaced_first g first =
      roomed g (holder s.config (pager s).page g) (none_open first.landed)
      ∙ room_full s.config s.past (pager s) seat.0 r g (not_charging (is_uncharged s.config (pager s) g) (length (pager s).charged) s.config.pagefile first.chargeable) first.full

  -- ---- what the entry alone says
  pub granted_answers : (valid : Bool) → IsGranted s seat.0 r valid → valid ≡ true → at_refusal s seat r ≡ given (what.Done r unsaid ∷ []) next_answered
  granted_answers valid x is = goes_by x.granted ∙ answers x.found x.there (x.entry ∙ is)

  pub may_answer_granted : (valid : Bool) → IsGranted s seat.0 r valid → valid ≡ true → MayGive s seat (at_refusal s seat r) → MayAnswer s seat r
  may_answer_granted valid x is may = may_answer x.found x.there (x.entry ∙ is) (may_as s seat _ _ (goes_by x.granted) may)

  pub granted_replaces : (valid : Bool) → IsGranted s seat.0 r valid → valid ≡ false → IsReplacedFirst s seat.0 → at_refusal s seat r ≡ at_replace s seat
  granted_replaces valid x is first = goes_by x.granted ∙ (passes_on x.found x.there (x.entry ∙ is) ∙ (faults_on x.found x.there ∙ replaced_first (x.found).page first))

module _ (s : History) (x : Sought) where
  abbrev is_charging : Bool
  is_charging = is_uncharged s.config (pager s) x.page && nat_eq (length (pager s).charged) s.config.pagefile

  abbrev is_full : Bool
  is_full = nat_le ((pager s).limit (x.seat).0) (filled ((pager s).ring (x.seat).0).slots)

  -- ---- the frame
  pub held_by : (f : Pfn) → holder s.config (pager s).page x.page ≡ Some f.0 → at_fault s x ≡ at_read s x f.0
  held_by f holds = ap (fault_given s.config s.past (pager s) (x.seat).0 x.r x.page) holds

  pub held_by_none : holder s.config (pager s).page x.page ≡ None → at_fault s x ≡ at_room s x
  held_by_none out = ap (fault_given s.config s.past (pager s) (x.seat).0 x.r x.page) out

  pub is_out : holder s.config (pager s).page x.page ≡ None → at_held s x ≡ at_out s x
  is_out out = ap (held_given s.config s.past (pager s) (x.seat).0 x.r x.page) out

  -- ---- the charge and the limit
  pub charging : is_charging ≡ true → at_room s x ≡ gives_again again_charging
  charging is = room_charging s.config s.past (pager s) (x.seat).0 x.r x.page is

  pub at_limit : is_charging ≡ false → is_full ≡ true → at_room s x ≡ at_replace s x.seat
  at_limit is full = room_full s.config s.past (pager s) (x.seat).0 x.r x.page is full

  pub below_limit : is_charging ≡ false → is_full ≡ false → at_room s x ≡ at_held s x
  below_limit is below = if_false is_charging _ _ is ∙ if_false is_full _ _ below

  -- ---- the block
  pub busy : (o : Option BlockId) → o ≡ source_in s x → is_busy_block s.past o ≡ true → at_out s x ≡ gives_again again_block_busy
  busy o is there = ap (out_given s.config s.past (pager s) (x.seat).0 x.r x.page) (sym is) ∙ out_busy s.config s.past (pager s) (x.seat).0 x.r x.page o there

  pub still : (o d : Option BlockId) → o ≡ source_in s x → is_busy_block s.past o ≡ false → o ≡ d → at_out s x ≡ at_frame s x d
  still o d is there same = ap (out_given s.config s.past (pager s) (x.seat).0 x.r x.page) (sym is) ∙ (out_still s.config s.past (pager s) (x.seat).0 x.r x.page o there ∙ ap (at_frame s x) same)

  -- ---- the collision
  module _ (f : Pfn) where
    abbrev read_there : Option OpenRead
    read_there = option_map read_by (find (is_read_on f.0) (open_flights s.past))

    pub no_read : None ≡ read_there → at_read s x f.0 ≡ at_room s x
    no_read is = read_none s.config s.past (pager s) (x.seat).0 x.r x.page f.0 (find (is_read_on f.0) (open_flights s.past)) is

    module _ (y : OpenRead) (is : Some y ≡ read_there) where
      pub own_read : nat_eq (y.seat).0 (x.seat).0 ≡ true → at_read s x f.0 ≡ at_room s x
      own_read own = read_own s.config s.past (pager s) (x.seat).0 x.r x.page f.0 y (find (is_read_on f.0) (open_flights s.past)) is own

      module _ (other : nat_eq (y.seat).0 (x.seat).0 ≡ false) where
        pub named : is_named ((pager s).collided (x.seat).0) y.start ≡ true → at_read s x f.0 ≡ gives_again again_collided
        named again = read_other s.config s.past (pager s) (x.seat).0 x.r x.page f.0 y (find (is_read_on f.0) (open_flights s.past)) is other ∙ if_true (is_named ((pager s).collided (x.seat).0) y.start) _ _ again

        pub collides : is_named ((pager s).collided (x.seat).0) y.start ≡ false → at_read s x f.0 ≡ given (what.Collide (page_address (vpn_of x.r)) f y.start ∷ []) next_more
        collides unnamed = read_other s.config s.past (pager s) (x.seat).0 x.r x.page f.0 y (find (is_read_on f.0) (open_flights s.past)) is other ∙ if_false (is_named ((pager s).collided (x.seat).0) y.start) _ _ unnamed

        pub may_collide : is_named ((pager s).collided (x.seat).0) y.start ≡ false → MayGive s x.seat (at_read s x f.0) → MayAdd s (entry_by x.seat (what.Collide (page_address (vpn_of x.r)) f y.start))
        may_collide unnamed may =
            let m = may_as s x.seat _ _ (collides unnamed) may in
            record { legal = m.legal.0; paid = paid_first s x.seat (what.Collide (page_address (vpn_of x.r)) f y.start) 1 (omega arith) refl refl m.room }
