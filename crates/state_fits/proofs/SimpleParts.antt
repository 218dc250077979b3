-- DENIED, COLLIDE, LIMIT and TURN change the row of one process; DENIED is spoken besides.
use Rattle.std.proofs.Common.{◌≡◌, ◌⊎◌, inl, inr, ℕ, ◌<◌, ◌+◌, true, false, List, [], ◌∷◌, Option, Some, None, length, map, position, slice_set, slice_index_or, refl, sym, ap, ◌∙◌, subst}
use Rattle.std.specs.List.{position_or_len}
use Rattle.std.specs.Option.{option_map}
use Rattle.std.proofs.lemmas.Bool.{cases_eq}
use Rattle.std.proofs.lemmas.List.{length-map}
use Rattle.vm_types.specs.Ring.{Held, Ring}
use Rattle.vm_types.specs.declared.config.Config.{Config}
use Rattle.vm_types.specs.declared.names.Addr.{Addr}
use Rattle.vm_types.specs.declared.names.Page.{Page}
use Rattle.vm_types.specs.declared.names.Page.TheVariants.{Private, Shared}
use Rattle.vm_types.specs.declared.names.Pfn.{Pfn}
use Rattle.vm_types.specs.declared.names.Proc.{Proc}
use Rattle.vm_types.specs.declared.names.ProcStatus.{ProcStatus}
use Rattle.vm_types.specs.declared.names.ProcStatus.TheVariants as status
use Rattle.vm_types.specs.declared.reference.Ref.{Ref}
use Rattle.vm_types.specs.declared.names.Seat.{Seat}
use Rattle.vm_types.specs.declared.reply.Why.{Why}
use Rattle.vm_journal.specs.declared.entry.Entry.{Entry}
use Rattle.vm_journal.specs.declared.entry.What.TheVariants as what
use Rattle.pager_model.specs.Denied.{IsDenial}
use Rattle.pager_model.specs.Flights.{Flight, awaits_reuse, failed_flight, open_flights}
use Rattle.pager_model.specs.Lookups.{has_pin, has_vpn, pins_with, shares}
use Rattle.pager_model.specs.Ring.{unlocked_slot}
use Rattle.pager_model.specs.Transfers.{reads_on, writes_on}
use Rattle.pager_model.specs.Pager.{Pager}
use Rattle.pager_model.specs.Sets.{at_number}
use Rattle.pager_model.specs.Step.{after, IsLegal}
use Rattle.pager_model.specs.Turn.{turned_ring}
use Rattle.pager_laws.proofs.TurnKept.{count_map}
use Rattle.pager_rules.proofs.Basics.{at_number_other, at_number_same}
use Rattle.pager_rules.proofs.Quiet.{no_failure}
use Rattle.pager_rules.proofs.Turns.{no_reuse}
use Rattle.state_parts.specs.declared.process_row.ProcessRow.{ProcessRow}
use Rattle.state_parts.specs.declared.spoken_row.SpokenRow.{SpokenRow}
use Rattle.state_fits.specs.Parts.{Parts}
use Rattle.state_fits.specs.PartsFit.{PartsFit}
use Rattle.state_fits.specs.Processes.{process_row}
use Rattle.state_fits.specs.Frames.{frame_row, or_zero, row_by, slot_for}
use Rattle.state_fits.specs.Spoken.{one_more}
use Rattle.state_fits.proofs.FramePins.{pins_at, pins_same}
use Rattle.state_fits.proofs.PartsSet.{frames_same, process_read, processes_set, spoken_read, spoken_set}

-- no read failed last
pub none_failed : (past : List Entry) (parts : Parts) → awaits_reuse past ≡ false → parts.failed ≡ option_map (λ (x : Flight). x.block) (failed_flight past) → parts.failed ≡ None
none_failed past parts waits is = is ∙ ap (λ (o : Option Flight). option_map (λ (x : Flight). x.block) o) (no_failure past waits)

unlocked_vpn : (v : ℕ) (slot : Option Held) → has_vpn v (unlocked_slot slot) ≡ has_vpn v slot
unlocked_vpn v None = refl
unlocked_vpn v (Some held) = refl

unlocked_at : (v : ℕ) (slots : List (Option Held)) → position_or_len (has_vpn v) (map unlocked_slot slots) ≡ position_or_len (has_vpn v) slots
unlocked_at v [] = refl
unlocked_at v (slot ∷ slots) = rw (unlocked_vpn v slot, unlocked_at v slots) refl

unlocked_pin : (v : ℕ) (o : Option Held) → has_pin v (unlocked_slot o) ≡ has_pin v o
unlocked_pin v None = refl
unlocked_pin v (Some held) = refl

turned_pins : (s : ProcStatus) (v : ℕ) (ring : Ring) → pins_with (turned_ring s ring) v ≡ pins_with ring v
turned_pins status.Leaving v ring = count_map (has_pin v) (has_pin v) unlocked_slot (unlocked_pin v) ring.slots
turned_pins other v ring = refl

turned_position : (s : ProcStatus) (v : ℕ) (ring : Ring) → position (has_vpn v) (turned_ring s ring).slots ≡ position (has_vpn v) ring.slots
turned_position status.Leaving v ring = rw (unlocked_at v ring.slots, length-map ring.slots unlocked_slot) refl
turned_position other v ring = refl

module _ (config : Config) (past : List Entry) (a : Pager) (seat : Seat) (parts : Parts) (fit : PartsFit config past a parts) where
  abbrev row : ℕ → ProcessRow
  row = process_row a.status a.ring a.limit a.references a.faults a.collided

  pub read_process : (p : ℕ) (x : ProcessRow) → p < length config.procs → x ≡ slice_index_or parts.processes p x → x ≡ row p
  read_process p x there read = process_read row (length config.procs) parts.processes p x fit.processes there read

  pub collide_parts : (address : Addr) (f : Pfn) (k : ℕ) → IsLegal config past a (record { seat = seat; what = what.Collide address f k }) → (x : ProcessRow) → x ≡ slice_index_or parts.processes seat.0 x
      → PartsFit config (record { seat = seat; what = what.Collide address f k } ∷ past) (after config past a (record { seat = seat; what = what.Collide address f k }))
      (record parts { processes = slice_set parts.processes seat.0 (record x { collided = Some k }) })
  collide_parts address f k legal x read =
      let is = read_process seat.0 x legal.row.own.process read in
      record {
        frames = fit.frames;
        flights = fit.flights;
        processes = processes_set row (process_row a.status a.ring a.limit a.references a.faults (at_number a.collided seat.0 (Some k))) (length config.procs) parts.processes seat.0 _ fit.processes legal.row.own.process
            (λ i. record { status = (is i).status; ring = (is i).ring; limit = (is i).limit; references = (is i).references; faults = (is i).faults; collided = sym (at_number_same a.collided seat.0 (Some k)) i })
            (λ q apart i. record { status = a.status q; ring = a.ring q; limit = a.limit q; references = a.references q; faults = a.faults q; collided = at_number_other a.collided seat.0 (Some k) q apart i });
        spoken = fit.spoken;
        tables = fit.tables;
        sections = fit.sections;
        pages = fit.pages;
        globals = fit.globals;
        file = fit.file;
        swaps = fit.swaps;
        seats = fit.seats;
        failed = none_failed past parts (no_reuse config past (record { seat = seat; what = what.Collide address f k }) legal.in_turn refl) fit.failed;
      }

  pub limit_parts : (n faults : ℕ) → IsLegal config past a (record { seat = seat; what = what.Limit n faults }) → (x : ProcessRow) → x ≡ slice_index_or parts.processes seat.0 x
      → PartsFit config (record { seat = seat; what = what.Limit n faults } ∷ past) (after config past a (record { seat = seat; what = what.Limit n faults }))
      (record parts { processes = slice_set parts.processes seat.0 (record x { limit = n; references = 0; faults = 0 }) })
  limit_parts n faults legal x read =
      let is = read_process seat.0 x legal.row.own.process read in
      record {
        frames = fit.frames;
        flights = fit.flights;
        processes = processes_set row (process_row a.status a.ring (at_number a.limit seat.0 n) (at_number a.references seat.0 0) (at_number a.faults seat.0 0) a.collided) (length config.procs) parts.processes seat.0 _ fit.processes legal.row.own.process
            (λ i. record {
              status = (is i).status;
              ring = (is i).ring;
              limit = sym (at_number_same a.limit seat.0 n) i;
              references = sym (at_number_same a.references seat.0 0) i;
              faults = sym (at_number_same a.faults seat.0 0) i;
              collided = (is i).collided;
            })
            (λ q apart i. record {
              status = a.status q;
              ring = a.ring q;
              limit = at_number_other a.limit seat.0 n q apart i;
              references = at_number_other a.references seat.0 0 q apart i;
              faults = at_number_other a.faults seat.0 0 q apart i;
              collided = a.collided q;
            });
        spoken = fit.spoken;
        tables = fit.tables;
        sections = fit.sections;
        pages = fit.pages;
        globals = fit.globals;
        file = fit.file;
        swaps = fit.swaps;
        seats = fit.seats;
        failed = none_failed past parts (no_reuse config past (record { seat = seat; what = what.Limit n faults }) legal.in_turn refl) fit.failed;
      }

  denied_process : (r : Ref) (reason : Why) → IsDenial config past a seat.0 r reason → seat.0 < length config.procs
  denied_process r reason (inl denied) = denied.own.process
  denied_process r reason (inr fault) = fault.process

  pub denied_parts : (r : Ref) (reason : Why) → IsLegal config past a (record { seat = seat; what = what.Denied r reason })
      → (x : ProcessRow) → x ≡ slice_index_or parts.processes seat.0 x → (y : SpokenRow) → y ≡ slice_index_or parts.spoken seat.0 y
      → PartsFit config (record { seat = seat; what = what.Denied r reason } ∷ past) (after config past a (record { seat = seat; what = what.Denied r reason }))
      (record parts { processes = slice_set parts.processes seat.0 (record x { references = x.references + 1 }); spoken = slice_set parts.spoken seat.0 (record { last = Some (length past + 1); count = y.count + 1 }) })
  denied_parts r reason legal x read y read_y =
      let there = denied_process r reason legal.row in
      let is = read_process seat.0 x there read in
      let e : Entry = record { seat = seat; what = what.Denied r reason } in
      record {
        frames = fit.frames;
        flights = fit.flights;
        processes = processes_set row (process_row a.status a.ring a.limit (at_number a.references seat.0 (a.references seat.0 + 1)) a.faults a.collided) (length config.procs) parts.processes seat.0 _ fit.processes there
            (λ i. record {
              status = (is i).status;
              ring = (is i).ring;
              limit = (is i).limit;
              references = (ap (λ (z : ProcessRow). z.references + 1) is ∙ sym (at_number_same a.references seat.0 (a.references seat.0 + 1))) i;
              faults = (is i).faults;
              collided = (is i).collided;
            })
            (λ q apart i. record {
              status = a.status q;
              ring = a.ring q;
              limit = a.limit q;
              references = at_number_other a.references seat.0 (a.references seat.0 + 1) q apart i;
              faults = a.faults q;
              collided = a.collided q;
            });
        spoken = spoken_set past e (length config.procs) parts.spoken _ fit.spoken there
            (ap (λ (z : SpokenRow). one_more true (length past + 1) z) (spoken_read past (length config.procs) parts.spoken seat.0 y fit.spoken there read_y))
            (λ q. refl);
        tables = fit.tables;
        sections = fit.sections;
        pages = fit.pages;
        globals = fit.globals;
        file = fit.file;
        swaps = fit.swaps;
        seats = fit.seats;
        failed = none_failed past parts (no_reuse config past e legal.in_turn refl) fit.failed;
      }

  -- the locks of a leaving process are cleared, which moves no page to another slot
  turned_slot : (s : ProcStatus) (p : ℕ) (o : Option Page) → slot_for (at_number a.ring p (turned_ring s (a.ring p))) o ≡ slot_for a.ring o
  turned_slot s p None = refl
  turned_slot s p (Some (Shared t i)) = refl
  turned_slot s p (Some (Private q v)) = go (cases_eq p q.0)
    where
      go : (p ≡ q.0) ⊎ (p ≡ q.0 → ⊥) → or_zero (position (has_vpn v) (at_number a.ring p (turned_ring s (a.ring p)) q.0).slots) ≡ or_zero (position (has_vpn v) (a.ring q.0).slots)
      go (inr other) = ap (λ (r : Ring). or_zero (position (has_vpn v) r.slots)) (at_number_other a.ring p (turned_ring s (a.ring p)) q.0 other)
      go (inl same) = subst (λ (n : ℕ). or_zero (position (has_vpn v) (at_number a.ring p (turned_ring s (a.ring p)) n).slots) ≡ or_zero (position (has_vpn v) (a.ring n).slots)) same
          (ap (λ (r : Ring). or_zero (position (has_vpn v) r.slots)) (at_number_same a.ring p (turned_ring s (a.ring p))) ∙ ap or_zero (turned_position s v (a.ring p)))

  turned_row : (s : ProcStatus) (p : ℕ) (f : ℕ) → frame_row a.state a.page a.modify a.valid (at_number a.ring p (turned_ring s (a.ring p))) (open_flights past) f ≡ frame_row a.state a.page a.modify a.valid a.ring (open_flights past) f
  unfolding frame_row
  turned_row s p f = λ i. row_by (a.state f) (a.page f) (a.modify f) (shares a.valid f) (reads_on f (open_flights past) + writes_on f (open_flights past)) (turned_slot s p (a.page f) i)
      (pins_same a.valid a.ring (at_number a.ring p (turned_ring s (a.ring p))) f (pins_at a.ring p (turned_ring s (a.ring p)) (λ v. turned_pins s v (a.ring p))) i)

  pub turn_parts : (p : Proc) (s : ProcStatus) → IsLegal config past a (record { seat = seat; what = what.Turn p s }) → (x : ProcessRow) → x ≡ slice_index_or parts.processes p.0 x
      → PartsFit config (record { seat = seat; what = what.Turn p s } ∷ past) (after config past a (record { seat = seat; what = what.Turn p s }))
      (record parts { processes = slice_set parts.processes p.0 (record x { status = s; ring = turned_ring s x.ring }) })
  turn_parts p s legal x read =
      let is = read_process p.0 x legal.row.process read in
      record {
        frames = frames_same (frame_row a.state a.page a.modify a.valid a.ring (open_flights past)) (frame_row a.state a.page a.modify a.valid (at_number a.ring p.0 (turned_ring s (a.ring p.0))) (open_flights past)) config.frames a.free a.modified parts.frames fit.frames
            (turned_row s p.0);
        flights = fit.flights;
        processes = processes_set row (process_row (at_number a.status p.0 s) (at_number a.ring p.0 (turned_ring s (a.ring p.0))) a.limit a.references a.faults a.collided) (length config.procs) parts.processes p.0 _ fit.processes legal.row.process
            (λ i. record {
              status = sym (at_number_same a.status p.0 s) i;
              ring = (ap (λ (z : ProcessRow). turned_ring s z.ring) is ∙ sym (at_number_same a.ring p.0 (turned_ring s (a.ring p.0)))) i;
              limit = (is i).limit;
              references = (is i).references;
              faults = (is i).faults;
              collided = (is i).collided;
            })
            (λ q apart i. record {
              status = at_number_other a.status p.0 s q apart i;
              ring = at_number_other a.ring p.0 (turned_ring s (a.ring p.0)) q apart i;
              limit = a.limit q;
              references = a.references q;
              faults = a.faults q;
              collided = a.collided q;
            });
        spoken = fit.spoken;
        tables = fit.tables;
        sections = fit.sections;
        pages = fit.pages;
        globals = fit.globals;
        file = fit.file;
        swaps = fit.swaps;
        seats = fit.seats;
        failed = none_failed past parts (no_reuse config past (record { seat = seat; what = what.Turn p s }) legal.in_turn refl) fit.failed;
      }
