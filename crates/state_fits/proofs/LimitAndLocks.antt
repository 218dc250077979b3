-- The working set limit of a process, and the locks of the pages of a range in its ring: no page moves to
-- another slot.
use Rattle.std.proofs.Common.{◌≡◌, ◌⊎◌, inl, inr, ℕ, ◌<◌, Bool, List, [], ◌∷◌, Option, Some, None, length, map, position, slice_set, slice_index_or, refl, sym, ap, ◌∙◌, subst}
use Rattle.std.specs.List.{position_or_len}
use Rattle.std.proofs.lemmas.Bool.{cases_eq}
use Rattle.std.proofs.lemmas.List.{length-map}
use Rattle.vm_types.specs.Ring.{Held, Ring}
use Rattle.vm_types.specs.declared.config.Config.{Config}
use Rattle.vm_types.specs.declared.names.Page.{Page}
use Rattle.vm_types.specs.declared.names.Page.TheVariants.{Private, Shared}
use Rattle.vm_journal.specs.declared.entry.Entry.{Entry}
use Rattle.pager_model.specs.Flights.{open_flights}
use Rattle.pager_model.specs.Lookups.{has_pin, has_vpn, pins_with}
use Rattle.pager_model.specs.Pager.{Pager}
use Rattle.pager_model.specs.Ring.{range_locked, relocked_slot}
use Rattle.pager_model.specs.Served.{with_limit, with_ring}
use Rattle.pager_model.specs.Sets.{at_number}
use Rattle.pager_laws.proofs.TurnKept.{count_map}
use Rattle.pager_rules.proofs.Basics.{at_number_other, at_number_same}
use Rattle.state_parts.specs.declared.process_row.ProcessRow.{ProcessRow}
use Rattle.state_fits.specs.Frames.{frame_row, or_zero, slot_for}
use Rattle.state_fits.specs.Parts.{Parts}
use Rattle.state_fits.specs.PartsFit.{PartsFit}
use Rattle.state_fits.specs.Processes.{process_row}
use Rattle.state_fits.proofs.FramePins.{pins_at, pins_same}
use Rattle.state_fits.proofs.FrameRows.{row_stays}
use Rattle.state_fits.proofs.PartsSet.{frames_same, process_read, processes_set}

-- the page of each slot is as it was
mapped_at : (change : Option Held → Option Held) (v : ℕ) → ((slot : Option Held) → has_vpn v (change slot) ≡ has_vpn v slot) → (slots : List (Option Held)) → position_or_len (has_vpn v) (map change slots) ≡ position_or_len (has_vpn v) slots
mapped_at change v same [] = refl
mapped_at change v same (slot ∷ slots) = rw (same slot, mapped_at change v same slots) refl

relocked_vpn : (lock : Bool) (address pages v : ℕ) (slot : Option Held) → has_vpn v (relocked_slot lock address pages slot) ≡ has_vpn v slot
relocked_vpn lock address pages v None = refl
relocked_vpn lock address pages v (Some held) = refl

relocked_pin : (lock : Bool) (address pages v : ℕ) (o : Option Held) → has_pin v (relocked_slot lock address pages o) ≡ has_pin v o
relocked_pin lock address pages v None = refl
relocked_pin lock address pages v (Some held) = refl

relocked_pins : (lock : Bool) (address pages v : ℕ) (ring : Ring) → pins_with (range_locked lock address pages ring) v ≡ pins_with ring v
relocked_pins lock address pages v ring = count_map (has_pin v) (has_pin v) (relocked_slot lock address pages) (relocked_pin lock address pages v) ring.slots

relocked_position : (lock : Bool) (address pages v : ℕ) (ring : Ring) → position (has_vpn v) (range_locked lock address pages ring).slots ≡ position (has_vpn v) ring.slots
relocked_position lock address pages v ring = rw (mapped_at (relocked_slot lock address pages) v (relocked_vpn lock address pages v) ring.slots, length-map ring.slots (relocked_slot lock address pages)) refl

module _ (config : Config) (past : List Entry) (a : Pager) (p : ℕ) (there : p < length config.procs) (parts : Parts) (fit : PartsFit config past a parts) (x : ProcessRow) (read : x ≡ slice_index_or parts.processes p x) where
  abbrev row : ℕ → ProcessRow
  row = process_row a.status a.ring a.limit a.references a.faults a.collided

  is : x ≡ row p
  is = process_read row (length config.procs) parts.processes p x fit.processes there read

  pub adjusted : (n : ℕ) → PartsFit config past (with_limit a p n) (record parts { processes = slice_set parts.processes p (record x { limit = n }) })
  adjusted n =
      record {
        frames = fit.frames;
        flights = fit.flights;
        processes = processes_set row (process_row a.status a.ring (at_number a.limit p n) a.references a.faults a.collided) (length config.procs) parts.processes p _ fit.processes there
            (λ i. record {
              status = (is i).status;
              ring = (is i).ring;
              limit = sym (at_number_same a.limit p n) i;
              references = (is i).references;
              faults = (is i).faults;
              collided = (is i).collided;
            })
            (λ q apart i. record {
              status = a.status q;
              ring = a.ring q;
              limit = at_number_other a.limit p n q apart i;
              references = a.references q;
              faults = a.faults q;
              collided = a.collided q;
            });
        spoken = fit.spoken;
        tables = fit.tables;
        sections = fit.sections;
        pages = fit.pages;
        globals = fit.globals;
        file = fit.file;
        swaps = fit.swaps;
        seats = fit.seats;
        failed = fit.failed;
      }

  module _ (lock : Bool) (address pages : ℕ) where
    abbrev ring' : ℕ → Ring
    ring' = at_number a.ring p (range_locked lock address pages (a.ring p))

    -- no page moves to another slot
    relocked_slots : (o : Option Page) → slot_for ring' o ≡ slot_for a.ring o
    relocked_slots None = refl
    relocked_slots (Some (Shared t i)) = refl
    relocked_slots (Some (Private q v)) = go (cases_eq p q.0)
      where
        go : (p ≡ q.0) ⊎ (p ≡ q.0 → ⊥) → or_zero (position (has_vpn v) (ring' q.0).slots) ≡ or_zero (position (has_vpn v) (a.ring q.0).slots)
        go (inr other) = ap (λ (r : Ring). or_zero (position (has_vpn v) r.slots)) (at_number_other a.ring p (range_locked lock address pages (a.ring p)) q.0 other)
        go (inl same) = subst (λ (n : ℕ). or_zero (position (has_vpn v) (ring' n).slots) ≡ or_zero (position (has_vpn v) (a.ring n).slots)) same
            (ap (λ (r : Ring). or_zero (position (has_vpn v) r.slots)) (at_number_same a.ring p (range_locked lock address pages (a.ring p))) ∙ ap or_zero (relocked_position lock address pages v (a.ring p)))

    pub relocked : PartsFit config past (with_ring a p (range_locked lock address pages (a.ring p))) (record parts { processes = slice_set parts.processes p (record x { ring = range_locked lock address pages x.ring }) })
    relocked =
        record {
          frames = frames_same (frame_row a.state a.page a.modify a.valid a.ring (open_flights past)) (frame_row a.state a.page a.modify a.valid ring' (open_flights past)) config.frames a.free a.modified parts.frames fit.frames
              (λ f. row_stays a.state a.page a.modify a.valid a.ring (open_flights past) a.state a.page a.modify a.valid ring' f refl refl refl refl (relocked_slots (a.page f)) (pins_same a.valid a.ring ring' f (pins_at a.ring p (range_locked lock address pages (a.ring p)) (λ v. relocked_pins lock address pages v (a.ring p)))));
          flights = fit.flights;
          processes = processes_set row (process_row a.status ring' a.limit a.references a.faults a.collided) (length config.procs) parts.processes p _ fit.processes there
              (λ i. record {
                status = (is i).status;
                ring = (ap (λ (z : ProcessRow). range_locked lock address pages z.ring) is ∙ sym (at_number_same a.ring p (range_locked lock address pages (a.ring p)))) i;
                limit = (is i).limit;
                references = (is i).references;
                faults = (is i).faults;
                collided = (is i).collided;
              })
              (λ q apart i. record {
                status = a.status q;
                ring = at_number_other a.ring p (range_locked lock address pages (a.ring p)) q apart i;
                limit = a.limit q;
                references = a.references q;
                faults = a.faults q;
                collided = a.collided q;
              });
          spoken = fit.spoken;
          tables = fit.tables;
          sections = fit.sections;
          pages = fit.pages;
          globals = fit.globals;
          file = fit.file;
          swaps = fit.swaps;
          seats = fit.seats;
          failed = fit.failed;
        }
