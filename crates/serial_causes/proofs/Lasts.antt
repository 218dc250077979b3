-- What is made for a reference or a service has an answer that shows a reply only at its end.
use Rattle.std.proofs.Common.{ℕ, ◌+◌, ◌&&◌, Bool, true, false, cond, not, List, [], ◌∷◌, Option, Some, None, length, find, nat_eq, nat_le, slice_get, refl}
use Rattle.vm_types.specs.Ring.{Ring, choose, filled, fixed}
use Rattle.vm_types.specs.Status.{is_resident}
use Rattle.vm_types.specs.declared.names.Addr.{Addr}
use Rattle.vm_types.specs.declared.names.BlockId.{BlockId}
use Rattle.vm_types.specs.declared.names.Page.{Page}
use Rattle.vm_types.specs.declared.config.Config.{Config}
use Rattle.vm_types.specs.declared.config.ProcSpec.{ProcSpec}
use Rattle.vm_types.specs.declared.reference.Ref.{Ref}
use Rattle.vm_types.specs.declared.reply.Why.{Why}
use Rattle.vm_types.specs.declared.service.Service.{Service}
use Rattle.vm_types.specs.declared.service.Service.TheVariants as service
use Rattle.vm_journal.specs.declared.entry.Entry.{Entry}
use Rattle.vm_journal.specs.declared.entry.EvictWhy.{EvictWhy}
use Rattle.vm_journal.specs.declared.entry.EvictWhy.TheVariants as evict
use Rattle.vm_journal.specs.declared.entry.What.{What}
use Rattle.vm_journal.specs.declared.entry.What.TheVariants as what
use Rattle.pager_model.specs.Charging.{is_uncharged}
use Rattle.pager_model.specs.Evict.{victim_of}
use Rattle.pager_model.specs.Flat.{flat_refusal}
use Rattle.pager_model.specs.Flights.{Flight, open_flights}
use Rattle.pager_model.specs.Forget.{holder}
use Rattle.pager_model.specs.Lookups.{entry_of, is_pending, page_by}
use Rattle.pager_model.specs.MappedRanges.{is_unmapped}
use Rattle.pager_model.specs.Maps.{page_number, pfn}
use Rattle.pager_model.specs.Pager.{Pager, Valid}
use Rattle.pager_model.specs.Ring.{range_locked, range_pinned}
use Rattle.pager_model.specs.Spoken.{flat_after}
use Rattle.pager_model.specs.Transfers.{is_read_on}
use Rattle.pager_policy.specs.Advance.{GivenNext, advance_gives, cluster_targets, entry_given, fault_given, frame_given, held_given, is_busy_block, is_named, limit_given, mapped_given, read_given, refused_given, replace_seen, room_given, source_of}
use Rattle.pager_policy.specs.Given.{Seen, Target, is_stopped, page_address, reads_made, reuse_first, seen_at, unsaid}
use Rattle.pager_policy.specs.Serve.{GivenServe, delete_given, evict_given, is_range_in_flight, limits_given, lock_given, loose_in, purge_given, serve_gives, service_gives, valid_in}
use Rattle.serial_causes.proofs.Entries.{AnswersLast}

reused_last : (o : Option Page) (f : ℕ) (ws : List What) → AnswersLast ws → AnswersLast (reuse_first o f ws)
reused_last None f ws last = last
reused_last (Some x) f ws last = last

reads_last : (page : ℕ → Option Page) (frames : List ℕ) (targets : List Target) → AnswersLast (reads_made page frames targets)
reads_last page [] targets = tt
reads_last page (f ∷ frames) [] = tt
reads_last page (f ∷ frames) (t ∷ targets) = reused_last (page f) f (what.In (pfn f) t.block t.role ∷ reads_made page frames targets) (reads_last page frames targets)

-- ---- for a reference
module _ (config : Config) (past : List Entry) (a : Pager) (p : ℕ) (r : Ref) where
  abbrev v : ℕ
  v = page_number (r.addr).0

  abbrev Last : GivenNext → Type 0
  Last x = AnswersLast x.made

  either : (b : Bool) (x y : GivenNext) → Last x → Last y → Last (cond b x y)
  either true x y first second = first
  either false x y first second = second

  seen_last : (o : Option Seen) → Last (replace_seen config past a p o)
  seen_last None = tt
  seen_last (Some s) = either (is_stopped config past a s.frame) _ _ tt tt

  framed_last : (g : Page) (o : Option BlockId) (frames : List ℕ) → Last (frame_given config a p r g o frames)
  framed_last g o [] = tt
  framed_last g None (f ∷ fs) = reused_last (a.page f) f (what.Zero (page_address v) (pfn f) ∷ what.Done r unsaid ∷ []) refl
  framed_last g (Some b) (f ∷ fs) = reads_last a.page (f ∷ fs) (cluster_targets config a p r g b)

  held_last : (g : Page) (o : Option ℕ) → Last (held_given config past a p r g o)
  held_last g (Some f) = refl
  held_last g None = either (is_busy_block past (source_of config a g (a.map p v))) _ _ tt (framed_last g (source_of config a g (a.map p v)) a.free)

  room_last : (g : Page) → Last (room_given config past a p r g)
  room_last g =
      either (is_uncharged config a g && nat_eq (length a.charged) config.pagefile) _ _ tt
      (either (nat_le (a.limit p) (filled (a.ring p).slots)) _ _ (seen_last (seen_at a p (victim_of (choose (a.ring p) (a.limit p))))) (held_last g (holder config a.page g)))

  read_last : (g : Page) (f : ℕ) (o : Option Flight) → Last (read_given config past a p r g f o)
  read_last g f None = room_last g
  read_last g f (Some x) = either (nat_eq x.seat p) _ _ (room_last g) (either (is_named (a.collided p) x.start) _ _ tt tt)

  fault_last : (g : Page) (o : Option ℕ) → Last (fault_given config past a p r g o)
  fault_last g None = room_last g
  fault_last g (Some f) = read_last g f (find (is_read_on f) (open_flights past))

  mapped_last : (o : Option Page) → Last (mapped_given config past a p r o)
  mapped_last None = tt
  mapped_last (Some g) = fault_last g (holder config a.page g)

  entry_last : (o : Option Valid) → Last (entry_given config past a p r o)
  entry_last (Some e) = refl
  entry_last None = mapped_last (page_by config a.map p v)

  refused_last : (o : Option Why) → Last (refused_given config past a p r o)
  refused_last (Some reason) = tt
  refused_last None = entry_last (entry_of a.valid p v)

  limit_last : (o : Option ProcSpec) → Last (limit_given config a p o)
  limit_last None = tt
  limit_last (Some spec) = tt

  pub advance_last : AnswersLast (advance_gives config past a p r).made
  advance_last =
      either (not (is_resident (a.status p))) _ _ tt
      (either (is_pending config (a.references p)) _ _ (limit_last (slice_get config.procs p)) (refused_last (flat_refusal config (flat_after config past) p r)))

-- ---- for a service
module _ (config : Config) (past : List Entry) (a : Pager) (p : ℕ) where
  one_of : (b : Bool) (x y : GivenServe) → AnswersLast x.made → AnswersLast y.made → AnswersLast (cond b x y).made
  one_of true x y first second = first
  one_of false x y first second = second

  evict_last : (v : ℕ) (why : EvictWhy) (o : Option Valid) → AnswersLast (evict_given config past a p v why o).made
  evict_last v why None = tt
  evict_last v why (Some e) = one_of (is_stopped config past a e.frame) _ _ tt tt

  delete_last : (at : Addr) (pages : ℕ) (o : Option ℕ) → AnswersLast (delete_given config past a p at pages o).made
  delete_last at pages (Some v) = evict_last v evict.Delete (entry_of a.valid p v)
  delete_last at pages None = one_of (is_range_in_flight config past a p at.0 pages) _ _ tt tt

  purge_last : (at : Addr) (pages : ℕ) (o : Option ℕ) → AnswersLast (purge_given config past a p at pages o).made
  purge_last at pages (Some v) = evict_last v evict.Purge (entry_of a.valid p v)
  purge_last at pages None = tt

  lock_last : (s : Service) (address pages : ℕ) (ring : Ring) (o : Option ProcSpec) → AnswersLast (lock_given a p s address pages ring o).made
  lock_last s address pages ring None = tt
  lock_last s address pages ring (Some spec) = one_of (nat_le (fixed ring.slots) spec.locks) _ _ tt tt

  limits_last : (n : ℕ) (o : Option ProcSpec) → AnswersLast (limits_given n o).made
  limits_last n None = tt
  limits_last n (Some spec) = one_of (nat_le (spec.locks + 2) n && nat_le n spec.extent) _ _ tt tt

  served_last : (s : Service) → AnswersLast (service_gives config past a p s).made
  served_last (service.Create at pages prot) = tt
  served_last (service.Delete at pages) = one_of (is_unmapped a p at.0 pages) _ _ tt (delete_last at pages (valid_in a p at.0 pages))
  served_last (service.Protect at pages prot) = tt
  served_last (service.Lock at pages) = one_of (is_unmapped a p at.0 pages) _ _ tt (lock_last (service.Lock at pages) at.0 pages (range_locked true at.0 pages (a.ring p)) (slice_get config.procs p))
  served_last (service.Unlock at pages) = tt
  served_last (service.Purge at pages) = purge_last at pages (loose_in a p at.0 pages)
  served_last (service.Pin at pages) = one_of (is_unmapped a p at.0 pages) _ _ tt (lock_last (service.Pin at pages) at.0 pages (range_pinned true at.0 pages (a.ring p)) (slice_get config.procs p))
  served_last (service.Unpin at pages) = tt
  served_last (service.Adjust n) = limits_last n (slice_get config.procs p)

  pub serve_last : (s : Service) → AnswersLast (serve_gives config past a p s).made
  serve_last s = one_of (is_resident (a.status p)) _ _ (served_last s) tt
