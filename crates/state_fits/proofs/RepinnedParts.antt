-- The parts while the pages of a range are pinned, or unpinned, in the ring of a process, slot by slot.
use Rattle.std.proofs.Common.{◌≡◌, ◌⊎◌, inl, inr, ℕ, zero, suc, ◌+◌, ◌-◌, ◌^◌, ◌<◌, ◌≤◌, Bool, true, false, not, cond, ◌&&◌, List, [], ◌∷◌, ◌++◌, Option, Some, None, length, map, take, drop, find, position, count_by, nat_eq, nat_lt, slice_get, slice_index_or, slice_set, refl, sym, ap, ap₂, ◌∙◌, subst, arith}
use Rattle.std.specs.Prelude.{◌==◌, if◌then◌else◌}
use Rattle.std.specs.List.{position_or_len}
use Rattle.std.proofs.lemmas.Bool.{cases_eq}
use Rattle.vm_types.specs.Configuration.{IsWellFormed}
use Rattle.vm_types.specs.Ring.{Held, Ring}
use Rattle.vm_types.specs.declared.config.Config.{Config}
use Rattle.vm_types.specs.declared.names.Page.{Page}
use Rattle.vm_types.specs.declared.names.Page.TheVariants.{Private, Shared}
use Rattle.vm_journal.specs.declared.entry.Entry.{Entry}
use Rattle.pfn_database.specs.Frames.{Frames, row_of}
use Rattle.pfn_database.specs.Rows.{counted_references, uncounted}
use Rattle.pfn_database.specs.declared.row.Row.{Row}
use Rattle.pager_model.specs.Around.{PastView}
use Rattle.pager_model.specs.FlatService.{in_range}
use Rattle.pager_model.specs.Flights.{Flight, open_flights}
use Rattle.pager_model.specs.Lookups.{entry_of, has_vpn, is_entry, shares, slots_with}
use Rattle.pager_model.specs.OfConfig.{IsOfConfig}
use Rattle.pager_model.specs.Pager.{Pager, Valid}
use Rattle.pager_model.specs.Ring.{range_pinned, repinned_slot}
use Rattle.pager_model.specs.Served.{is_slot_in, with_ring}
use Rattle.pager_model.specs.Sets.{at_number}
use Rattle.pager_model.specs.Transfers.{reads_on, writes_on}
use Rattle.pager_rules.proofs.Basics.{at_number_other, at_number_same, count_cons, count_cons_yes, count_from_no_find, nat_eq_refl}
use Rattle.pager_rules.specs.Kept.{IsKept}
use Rattle.working_set.specs.Slots.{slot_at, slot_with_pin, with_pin}
use Rattle.state_parts.specs.Repinned.{differ, page_to_pin}
use Rattle.state_parts.specs.declared.process_row.ProcessRow.{ProcessRow}
use Rattle.state_parts.proofs.Marked.{changed_before, left_next, pinned_next, repinned_in, slot_is}
use Rattle.state_fits.specs.Frames.{frame_pins, frame_row, or_zero, row_by, slot_for}
use Rattle.state_fits.specs.Parts.{Parts}
use Rattle.state_fits.specs.PartsFit.{PartsFit}
use Rattle.state_fits.specs.Processes.{process_row}
use Rattle.state_fits.specs.Seats.{is_on_frame}
use Rattle.state_fits.proofs.FewShares.{few_shares}
use Rattle.state_fits.proofs.FlightsMoved.{on_frame_counts, one_on_frame}
use Rattle.state_fits.proofs.FramePins.{pins_shared}
use Rattle.state_fits.proofs.FrameRows.{over_pins, row_is, row_read, row_stays}
use Rattle.state_fits.proofs.PartsSet.{frames_set, process_read, processes_set}
use Rattle.state_fits.proofs.PinsRepinned.{pins_elsewhere, pins_repinned}

-- a slot whose pin doesn't change stays as it is
stays : (pin : Bool) (address pages : ℕ) (slot : Option Held) → page_to_pin pin address pages slot ≡ None → repinned_slot pin address pages slot ≡ slot
stays pin address pages None none = refl
stays pin address pages (Some held) none = go (in_range address pages held.vpn) held.pinned pin none
  where
    go : (inside was will : Bool) → cond (inside && differ was will) (Some held.vpn) None ≡ None → ◌≡◌ {A = Option Held} (Some (record { vpn = held.vpn; locked = held.locked; pinned = cond inside will was })) (Some (record { vpn = held.vpn; locked = held.locked; pinned = was }))
    go false was will none = refl
    go true true true none = refl
    go true false false none = refl
    go true true false none = absurd (cc)
    go true false true none = absurd (cc)

-- what a slot has whose pin changes
pub record IsToPin (pin : Bool) (address pages v : ℕ) (slot : Option Held) : Type 0 where
  pub held : Held
  pub holds : slot ≡ Some held
  pub same : held.vpn ≡ v
  pub inside : in_range address pages held.vpn ≡ true
  pub was : held.pinned ≡ not pin

to_pin : (pin : Bool) (address pages v : ℕ) (slot : Option Held) → page_to_pin pin address pages slot ≡ Some v → IsToPin pin address pages v slot
to_pin pin address pages v None some = absurd (cc)
to_pin pin address pages v (Some held) some = go (in_range address pages held.vpn) held.pinned pin refl refl refl some
  where
    go : (inside was will : Bool) → in_range address pages held.vpn ≡ inside → held.pinned ≡ was → pin ≡ will → cond (inside && differ was will) (Some held.vpn) None ≡ Some v → IsToPin pin address pages v (Some held)
    go false was will i w p some = absurd (cc)
    go true true true i w p some = absurd (cc)
    go true false false i w p some = absurd (cc)
    go true true false i w p some = record { held = held; holds = refl; same = cc; inside = i; was = w ∙ sym (ap not p) }
    go true false true i w p some = record { held = held; holds = refl; same = cc; inside = i; was = w ∙ sym (ap not p) }

-- each slot has the page that it had
vpns_stay : (pin : Bool) (address pages v i : ℕ) (slots : List (Option Held)) → count_by (has_vpn v) (map (repinned_slot pin address pages) (take i slots) ++ drop i slots) ≡ count_by (has_vpn v) slots
vpns_stay pin address pages v zero slots = refl
vpns_stay pin address pages v (suc i) [] = refl
vpns_stay pin address pages v (suc i) (None ∷ slots) = vpns_stay pin address pages v i slots
vpns_stay pin address pages v (suc i) (Some held ∷ slots) =
    count_cons (has_vpn v) (repinned_slot pin address pages (Some held)) (map (repinned_slot pin address pages) (take i slots) ++ drop i slots)
    ∙ (ap (λ (n : ℕ). cond {A = ℕ} (nat_eq held.vpn v) 1 0 + n) (vpns_stay pin address pages v i slots) ∙ sym (count_cons (has_vpn v) (Some held) slots))

-- a slot that is there
there_get : (slots : List (Option Held)) (n : ℕ) (held : Held) → slice_index_or slots n None ≡ Some held → slice_get slots n ≡ Some (Some held)
there_get [] n held is = absurd (cc)
there_get (x ∷ slots) zero held is = ap Some is
there_get (x ∷ slots) (suc n) held is = there_get slots n held is

some_slot : (slots : List (Option Held)) (n : ℕ) (held : Held) → slice_get slots n ≡ Some (Some held) → 0 < count_by (has_vpn held.vpn) slots
some_slot [] n held is = absurd (cc)
some_slot (x ∷ slots) zero held is =
    let here : x ≡ Some held = cc in
    let one = count_cons_yes (has_vpn held.vpn) x slots (ap (has_vpn held.vpn) here ∙ nat_eq_refl held.vpn) in
    omega (arith, one)
some_slot (x ∷ slots) (suc n) held is = let rest = some_slot slots n held is in let all = count_cons (has_vpn held.vpn) x slots in omega (arith, rest, all)

-- and stands where it stood
position_stays : (pin : Bool) (address pages w i : ℕ) (slots : List (Option Held)) → position_or_len (has_vpn w) (map (repinned_slot pin address pages) (take i slots) ++ drop i slots) ≡ position_or_len (has_vpn w) slots
position_stays pin address pages w zero slots = refl
position_stays pin address pages w (suc i) [] = refl
position_stays pin address pages w (suc i) (None ∷ slots) = ap (λ (n : ℕ). 1 + n) (position_stays pin address pages w i slots)
position_stays pin address pages w (suc i) (Some held ∷ slots) = ap (λ (n : ℕ). cond {A = ℕ} (not (nat_eq held.vpn w)) (1 + n) 0) (position_stays pin address pages w i slots)

length_stays : (pin : Bool) (address pages i : ℕ) (slots : List (Option Held)) → length (map (repinned_slot pin address pages) (take i slots) ++ drop i slots) ≡ length slots
length_stays pin address pages zero slots = refl
length_stays pin address pages (suc i) [] = refl
length_stays pin address pages (suc i) (x ∷ slots) = ap suc (length_stays pin address pages i slots)

-- the ring of one process, set twice
set_twice : (ring : ℕ → Ring) (p : ℕ) (first second : Ring) (q : ℕ) → at_number (at_number ring p first) p second q ≡ at_number ring p second q
set_twice ring p first second q = go (cases_eq p q)
  where
    go : (p ≡ q) ⊎ (p ≡ q → ⊥) → at_number (at_number ring p first) p second q ≡ at_number ring p second q
    go (inl same) = subst (λ (n : ℕ). at_number (at_number ring p first) p second n ≡ at_number ring p second n) same (at_number_same (at_number ring p first) p second ∙ sym (at_number_same ring p second))
    go (inr other) = at_number_other (at_number ring p first) p second q other ∙ (at_number_other ring p first q other ∙ sym (at_number_other ring p second q other))

set_same : (ring : ℕ → Ring) (p q : ℕ) → at_number ring p (ring p) q ≡ ring q
set_same ring p q = go (cases_eq p q)
  where
    go : (p ≡ q) ⊎ (p ≡ q → ⊥) → at_number ring p (ring p) q ≡ ring q
    go (inl same) = subst (λ (n : ℕ). at_number ring p (ring p) n ≡ ring n) same (at_number_same ring p (ring p))
    go (inr other) = at_number_other ring p (ring p) q other

module _ (config : Config) (past : List Entry) (a : Pager) (p : ℕ) (there : p < length config.procs) (pin : Bool) (address pages : ℕ) where
  abbrev edit : Option Held → Option Held
  edit = repinned_slot pin address pages

  -- the ring, and the state, with the slots before this one changed
  abbrev pub ring_at : ℕ → Ring
  ring_at i = changed_before edit i (a.ring p)

  abbrev pub with_pins : ℕ → Pager
  with_pins i = with_ring a p (ring_at i)

  pub none_repinned : (parts : Parts) → PartsFit config past a parts → PartsFit config past (with_pins 0) parts
  none_repinned parts fit = subst (λ (r : ℕ → Ring). PartsFit config past (record a { ring = r }) parts) (λ i q. sym (set_same a.ring p q) i) fit

  pub all_repinned : (n : ℕ) → n ≡ length (a.ring p).slots → (parts : Parts) → PartsFit config past (with_pins n) parts → PartsFit config past (with_ring a p (range_pinned pin address pages (a.ring p))) parts
  all_repinned n all parts fit = subst (λ (r : Ring). PartsFit config past (with_ring a p r) parts) (ap (λ (slots : List (Option Held)). record { slots = slots; hand = (a.ring p).hand }) (whole n (a.ring p).slots all)) fit
    where
      whole : (n : ℕ) (slots : List (Option Held)) → n ≡ length slots → map edit (take n slots) ++ drop n slots ≡ map edit slots
      whole zero [] all = refl
      whole (suc n) [] all = refl
      whole zero (x ∷ slots) all = absurd (omega arith)
      whole (suc n) (x ∷ slots) all = ap (λ (xs : List (Option Held)). edit x ∷ xs) (whole n slots (omega arith))

  -- as many slots as before
  pub same_length : (i : ℕ) → i < length (a.ring p).slots → i < length (ring_at i).slots
  same_length i within = omega (arith, within, length_stays pin address pages i (a.ring p).slots)

  module _ (i : ℕ) (within : i < length (a.ring p).slots) (parts : Parts) (fit : PartsFit config past (with_pins i) parts) where
    abbrev rings : ℕ → Ring
    rings = at_number a.ring p (ring_at i)

    -- the process's row
    pub row_is_at : (x : ProcessRow) → x ≡ slice_index_or parts.processes p x → x ≡ process_row a.status rings a.limit a.references a.faults a.collided p
    row_is_at x read = process_read (process_row a.status rings a.limit a.references a.faults a.collided) (length config.procs) parts.processes p x fit.processes there read

    pub ring_is : (x : ProcessRow) → x ≡ slice_index_or parts.processes p x → x.ring ≡ ring_at i
    ring_is x read = ap (λ (y : ProcessRow). y.ring) (row_is_at x read) ∙ at_number_same a.ring p (ring_at i)

    -- the slot's pin doesn't change
    pub left_repinned : (x : ProcessRow) → x ≡ slice_index_or parts.processes p x → page_to_pin pin address pages (slot_at x.ring i) ≡ None → PartsFit config past (with_pins (i + 1)) parts
    left_repinned x read none =
        let old : slot_at (ring_at i) i ≡ slot_at (a.ring p) i = slot_is edit (a.ring p) (ring_at i) i within refl in
        let same : edit (slot_at (a.ring p) i) ≡ slot_at (a.ring p) i = stays pin address pages (slot_at (a.ring p) i) (sym (ap (λ (r : Ring). page_to_pin pin address pages (slot_at r i)) (ring_is x read) ∙ ap (page_to_pin pin address pages) old) ∙ none) in
        subst (λ (r : Ring). PartsFit config past (with_ring a p r) parts) (left_next edit (a.ring p) (ring_at i) i within refl same) fit

    -- the slot's pin changes: its page has a valid entry
    module _ (o : PastView) (kept : IsKept config o a) (x : ProcessRow) (read : x ≡ slice_index_or parts.processes p x) (v : ℕ) (some : page_to_pin pin address pages (slot_at x.ring i) ≡ Some v) where
      its : IsToPin pin address pages v (slot_at (ring_at i) i)
      its = to_pin pin address pages v (slot_at (ring_at i) i) (ap (λ (r : Ring). page_to_pin pin address pages (slot_at r i)) (sym (ring_is x read)) ∙ some)

      holds : slice_get (ring_at i).slots i ≡ Some (Some its.held)
      holds = there_get (ring_at i).slots i its.held its.holds

      vpns : slots_with (ring_at i) v ≡ slots_with (a.ring p) v
      vpns = vpns_stay pin address pages v i (a.ring p).slots

      alone : slots_with (ring_at i) v ≤ 1
      alone = let few = (kept.entries p v).once in let as_many = (kept.entries p v).slots in omega (arith, vpns, few, as_many)

      one : 0 < count_by (is_entry p v) a.valid
      one =
          let filled = subst (λ (w : ℕ). 0 < count_by (has_vpn w) (ring_at i).slots) its.same (some_slot (ring_at i).slots i its.held holds) in
          let as_many = (kept.entries p v).slots in
          omega (arith, vpns, filled, as_many)

      pub found : (e : Valid) × (entry_of a.valid p v ≡ Some e)
      found = go (entry_of a.valid p v) refl
        where
          go : (r : Option Valid) → entry_of a.valid p v ≡ r → (e : Valid) × (entry_of a.valid p v ≡ Some e)
          go (Some e) is = (e, is)
          go None is = absurd (let none = count_from_no_find (is_entry p v) a.valid is in omega (arith, none, one))

      abbrev pub f : ℕ
      f = (found.0).frame

      -- how many open transfers its frame has
      abbrev transfers : ℕ
      transfers = reads_on f (open_flights past) + writes_on f (open_flights past)

      abbrev new : Ring
      new = with_pin (ring_at i) i pin

      new_next : new ≡ ring_at (i + 1)
      new_next =
          let old = slot_is edit (a.ring p) (ring_at i) i within refl in
          pinned_next edit (a.ring p) (ring_at i) i within refl new pin refl
          (repinned_in pin address pages (slot_at (a.ring p) i) (ap (λ (s : Option Held). is_slot_in address pages s) (sym old ∙ its.holds) ∙ its.inside))

      marked : new.slots ≡ slice_set (rings p).slots i (Some (record (its.held) { pinned = pin }))
      marked = ap (λ (s : Option Held). slice_set (ring_at i).slots i (slot_with_pin s pin)) its.holds ∙ ap (λ (r : Ring). slice_set r.slots i (Some (record (its.held) { pinned = pin }))) (sym (at_number_same a.ring p (ring_at i)))

      pinned_here : frame_pins a.valid (at_number rings p new) f + cond {A = ℕ} (its.held).pinned 1 0 ≡ frame_pins a.valid rings f + cond {A = ℕ} pin 1 0
      pinned_here = pins_repinned a.valid rings p v f i found.0 its.held pin new found.1 (kept.entries p v).once refl (ap (λ (r : Ring). slice_get r.slots i) (at_number_same a.ring p (ring_at i)) ∙ holds) its.same
          (let alike = ap (λ (r : Ring). slots_with r v) (at_number_same a.ring p (ring_at i)) in omega (arith, alike, alone)) marked

      -- what the calls need
      pub below : f < config.frames → f < length (parts.frames).rows
      below less = omega (arith, less, fit.frames.count)

      pins_in_row : uncounted (row_of parts.frames f) ≡ frame_pins a.valid rings f
      pins_in_row =
          ap uncounted (row_read a.state a.page a.modify a.valid rings (open_flights past) config.frames a.free a.modified parts.frames f fit.frames)
          ∙ over_pins (counted_references (shares a.valid f) (reads_on f (open_flights past) + writes_on f (open_flights past))) (frame_pins a.valid rings f)

      -- few references are counted, and there are no more pins than shares
      pub room : IsWellFormed config → IsOfConfig config a → o.flights ≡ open_flights past → (row_of parts.frames f).refs < 2 ^ 31
      room formed right now =
          let refs = ap (λ (row : Row). row.refs) (row_read a.state a.page a.modify a.valid rings (open_flights past) config.frames a.free a.modified parts.frames f fit.frames) in
          let few = few_shares config o a f formed kept right in
          let fewer = pins_shared a.valid rings f in
          let flights = subst (λ (xs : List Flight). count_by (is_on_frame f) xs ≤ 1) now (one_on_frame config o a f kept) in
          let counted = counted_few (shares a.valid f) in
          omega (arith, refs, few, fewer, flights, counted, on_frame_counts f (open_flights past))
        where
          one_at_most : (b : Bool) → cond {A = ℕ} b 0 1 + 0 ≤ 1
          one_at_most true = omega arith
          one_at_most false = omega arith

          counted_few : (n : ℕ) → counted_references n 0 ≤ 1
          counted_few n = one_at_most (n == 0)

      pub some_pin : pin ≡ false → 0 < uncounted (row_of parts.frames f)
      some_pin off =
          let was = ap (λ (b : Bool). cond {A = ℕ} b 1 0) (its.was ∙ ap not off) in
          let will = ap (λ (b : Bool). cond {A = ℕ} b 1 0) off in
          omega (arith, pinned_here, was, will, pins_in_row)

      -- the parts once the slot's pin is changed, and the frame's references
      pub one_repinned : f < config.frames → (ring' : Ring) → ring' ≡ with_pin x.ring i pin → (frames' : Frames)
          → frames'.rows ≡ slice_set (parts.frames).rows f (record (row_of parts.frames f) { refs = if pin then (row_of parts.frames f).refs + 1 else (row_of parts.frames f).refs - 1 })
          → frames'.free ≡ (parts.frames).free → frames'.modified ≡ (parts.frames).modified
          → PartsFit config past (with_pins (i + 1)) (record parts { frames = frames'; processes = slice_set parts.processes p (record x { ring = ring' }) })
      one_repinned less ring' is frames' rows free modified =
          subst (λ (r : ℕ → Ring). PartsFit config past (record a { ring = r }) (record parts { frames = frames'; processes = slice_set parts.processes p (record x { ring = ring' }) }))
          (λ k q. (set_twice a.ring p (ring_at i) new q ∙ ap (λ (r : Ring). at_number a.ring p r q) new_next) k)
          (record {
            frames = frames_set (frame_row a.state a.page a.modify a.valid rings (open_flights past)) (frame_row a.state a.page a.modify a.valid (at_number rings p new) (open_flights past)) config.frames a.free a.free a.modified a.modified parts.frames frames' f _ fit.frames less rows
                (free ∙ fit.frames.free_list) (modified ∙ fit.frames.modified_list) row_here
                (λ g apart. row_stays a.state a.page a.modify a.valid rings (open_flights past) a.state a.page a.modify a.valid (at_number rings p new) g refl refl refl refl (slots_stay (a.page g)) (pins_elsewhere a.valid rings p v f i found.0 its.held pin new found.1 (kept.entries p v).once refl (ap (λ (r : Ring). slice_get r.slots i) (at_number_same a.ring p (ring_at i)) ∙ holds) its.same (let alike = ap (λ (r : Ring). slots_with r v) (at_number_same a.ring p (ring_at i)) in omega (arith, alike, alone)) marked g apart));
            flights = fit.flights;
            processes = processes_set (process_row a.status rings a.limit a.references a.faults a.collided) (process_row a.status (at_number rings p new) a.limit a.references a.faults a.collided) (length config.procs) parts.processes p (record x { ring = ring' }) fit.processes there
                (λ k. record {
                  status = (row_is_at x read k).status;
                  ring = (is ∙ (ap (λ (r : Ring). with_pin r i pin) (ring_is x read) ∙ sym (at_number_same rings p new))) k;
                  limit = (row_is_at x read k).limit;
                  references = (row_is_at x read k).references;
                  faults = (row_is_at x read k).faults;
                  collided = (row_is_at x read k).collided;
                })
                (λ q apart. ap (λ (r : Ring). record (process_row a.status rings a.limit a.references a.faults a.collided q) { ring = r }) (at_number_other rings p new q apart));
            spoken = fit.spoken;
            tables = fit.tables;
            sections = fit.sections;
            pages = fit.pages;
            globals = fit.globals;
            file = fit.file;
            swaps = fit.swaps;
            seats = fit.seats;
            failed = fit.failed;
          })
        where
          stands : (k w : ℕ) → position (has_vpn w) (ring_at k).slots ≡ position (has_vpn w) (a.ring p).slots
          stands k w = ap₂ (λ (n m : ℕ). cond {A = Option ℕ} (nat_lt n m) (Some n) None) (position_stays pin address pages w k (a.ring p).slots) (length_stays pin address pages k (a.ring p).slots)

          slots_stay : (g : Option Page) → slot_for (at_number rings p new) g ≡ slot_for rings g
          slots_stay None = refl
          slots_stay (Some (Shared t n)) = refl
          slots_stay (Some (Private q w)) = go (cases_eq p q.0)
            where
              go : (p ≡ q.0) ⊎ (p ≡ q.0 → ⊥) → or_zero (position (has_vpn w) (at_number rings p new q.0).slots) ≡ or_zero (position (has_vpn w) (rings q.0).slots)
              go (inr other) = ap (λ (r : Ring). or_zero (position (has_vpn w) r.slots)) (at_number_other rings p new q.0 other)
              go (inl own) = subst (λ (n : ℕ). or_zero (position (has_vpn w) (at_number rings p new n).slots) ≡ or_zero (position (has_vpn w) (rings n).slots)) own
                  (ap (λ (r : Ring). or_zero (position (has_vpn w) r.slots)) (at_number_same rings p new ∙ new_next)
                  ∙ (ap or_zero (stands (i + 1) w ∙ sym (stands i w)) ∙ ap (λ (r : Ring). or_zero (position (has_vpn w) r.slots)) (sym (at_number_same a.ring p (ring_at i)))))

          row_was : row_of parts.frames f ≡ row_by (a.state f) (a.page f) (a.modify f) (shares a.valid f) transfers (slot_for rings (a.page f)) (frame_pins a.valid rings f)
          row_was = row_read a.state a.page a.modify a.valid rings (open_flights past) config.frames a.free a.modified parts.frames f fit.frames

          refs_are : (if pin then (row_of parts.frames f).refs + 1 else (row_of parts.frames f).refs - 1) ≡ counted_references (shares a.valid f) transfers + frame_pins a.valid (at_number rings p new) f
          refs_are = go pin refl
            where
              go : (b : Bool) → pin ≡ b → cond b ((row_of parts.frames f).refs + 1) ((row_of parts.frames f).refs - 1) ≡ counted_references (shares a.valid f) transfers + frame_pins a.valid (at_number rings p new) f
              go true on =
                  let was = ap (λ (b : Bool). cond {A = ℕ} b 1 0) (its.was ∙ ap not on) in
                  let will = ap (λ (b : Bool). cond {A = ℕ} b 1 0) on in
                  let refs = ap (λ (row : Row). row.refs) row_was in
                  omega (arith, pinned_here, was, will, refs)
              go false off =
                  let was = ap (λ (b : Bool). cond {A = ℕ} b 1 0) (its.was ∙ ap not off) in
                  let will = ap (λ (b : Bool). cond {A = ℕ} b 1 0) off in
                  let refs = ap (λ (row : Row). row.refs) row_was in
                  omega (arith, pinned_here, was, will, refs)

          row_here : record (row_of parts.frames f) { refs = if pin then (row_of parts.frames f).refs + 1 else (row_of parts.frames f).refs - 1 } ≡ frame_row a.state a.page a.modify a.valid (at_number rings p new) (open_flights past) f
          row_here =
              (λ k. record { state = (row_was k).state; page = (row_was k).page; modify = (row_was k).modify; refs = refs_are k; shares = (row_was k).shares; slot = (row_was k).slot; flights = (row_was k).flights })
              ∙ ((λ k. row_by (a.state f) (a.page f) (a.modify f) (shares a.valid f) transfers (sym (slots_stay (a.page f)) k) (frame_pins a.valid (at_number rings p new) f))
              ∙ sym (row_is a.state a.page a.modify a.valid (at_number rings p new) (open_flights past) f))
