-- What the calls of the pager's logic say: an answered call the request that it was made for, every other one nothing.
use Rattle.pager_model.specs.Evict.{victim_of}
use Rattle.pager_model.specs.Ring.{range_locked, range_pinned}
use Rattle.vm_types.specs.Ring.{Ring, choose, filled, fixed, unpinned}
use Rattle.vm_journal.specs.declared.entry.EvictWhy.TheVariants as evict
use Rattle.vm_journal.specs.declared.entry.What.TheVariants.{Evict}
use Rattle.pager_model.specs.Transfers.{is_read_on, has_come}
use Rattle.std.proofs.Common.{◌||◌, ◌+◌, length, nat_lt, ◌&&◌, nat_eq, not, find, nat_le, slice_get, ◌≡◌, ℕ, zero, suc, Bool, true, false, cond, List, [], ◌∷◌, Option, Some, None, refl}
use Rattle.vm_types.specs.declared.names.Addr.{Addr}
use Rattle.vm_types.specs.declared.names.BlockId.{BlockId}
use Rattle.vm_types.specs.declared.names.Page.{Page}
use Rattle.vm_types.specs.declared.config.Config.{Config}
use Rattle.vm_types.specs.declared.config.ProcSpec.{ProcSpec}
use Rattle.vm_types.specs.declared.reference.Ref.{Ref}
use Rattle.vm_types.specs.declared.reply.Why.{Why}
use Rattle.vm_types.specs.declared.service.Request.{Request}
use Rattle.vm_types.specs.declared.service.Request.TheVariants as request
use Rattle.vm_types.specs.declared.service.Service.{Service}
use Rattle.vm_types.specs.declared.service.Service.TheVariants as service
use Rattle.vm_journal.specs.declared.entry.Entry.{Entry}
use Rattle.vm_journal.specs.declared.entry.EvictWhy.{EvictWhy}
use Rattle.vm_journal.specs.declared.entry.What.TheVariants as what
use Rattle.pager_policy.specs.Advance.{GivenNext, NextIs, advance_gives, cluster_targets, collide_given, entry_given, fault_given, frame_given, held_given, is_busy_block, is_named, limit_given, mapped_given, next_answered, out_given, read_given, refused_given, replace_seen, room_given, source_of}
use Rattle.pager_model.specs.Charging.{is_uncharged}
use Rattle.pager_model.specs.Flat.{flat_refusal}
use Rattle.pager_model.specs.Flights.{Flight, open_flights}
use Rattle.pager_model.specs.Forget.{holder}
use Rattle.pager_policy.specs.Given.{unsaid, given, Seen, is_stopped, page_address, seen_at}
use Rattle.pager_model.specs.Maps.{pfn, page_number}
use Rattle.pager_model.specs.Lookups.{entry_of, is_pending, page_by}
use Rattle.vm_types.specs.Status.{is_resident}
use Rattle.pager_model.specs.Pager.{Pager, Valid}
use Rattle.pager_policy.specs.Serve.{GivenServe, ServeIs, serve_answered, serve_gives, service_gives, evict_given, delete_given, purge_given, lock_given, limits_given, is_range_in_flight, loose_in, valid_in}
use Rattle.pager_model.specs.MappedRanges.{is_unmapped}
use Rattle.pager_model.specs.Spoken.{flat_after}
use Rattle.pager_policy.specs.Swap.{is_to_save, is_saved, is_out_page, is_back_on_free, swap_where, slot_where, GivenSwap, leave_gives, leave_page, leave_saved, leave_shared, leave_unsaved, write_slot, write_slots, come_gives, come_free, come_out, back_page, back_of, is_shared_unpinned}
use Rattle.pager_model.specs.Lying.{lying_in}
use Rattle.pager_policy.specs.WriteCluster.{begin_carry, begin_nothing, writes_taken, Reason, begin_gives, block_out, is_enough, writes_from}
use Rattle.call_laws.proofs.Said.{Silent, said, silent_join, reads_silent, reused_said}

-- ---- a reference
abbrev pub SaysBy : NextIs → List Request → Ref → Type 0
SaysBy next_answered xs r = xs ≡ request.Reference r ∷ []
SaysBy other xs r = xs ≡ []

pub record Says (g : GivenNext) (r : Ref) : Type 0 where
  pub says : SaysBy g.answer (said g.made) r

either : (r : Ref) (b : Bool) (x y : GivenNext) → Says x r → Says y r → Says (cond b x y) r
either r true x y first second = first
either r false x y first second = second

limit_says : (config : Config) (a : Pager) (p : ℕ) (r : Ref) (o : Option ProcSpec) → Says (limit_given config a p o) r
limit_says config a p r None = record { says = refl }
limit_says config a p r (Some spec) = record { says = refl }

seen_says : (config : Config) (past : List Entry) (a : Pager) (p : ℕ) (r : Ref) (o : Option Seen) → Says (replace_seen config past a p o) r
seen_says config past a p r None = record { says = refl }
seen_says config past a p r (Some s) = either r (is_stopped config past a s.frame) _ _ (record { says = refl }) (record { says = refl })

collide_says : (a : Pager) (p : ℕ) (r : Ref) (f : ℕ) (x : Flight) → Says (collide_given a p r f x) r
collide_says a p r f x = either r (is_named (a.collided p) x.start) _ _ (record { says = refl }) (record { says = refl })

frame_says : (config : Config) (a : Pager) (p : ℕ) (r : Ref) (g : Page) (o : Option BlockId) (free : List ℕ) → Says (frame_given config a p r g o free) r
frame_says config a p r g o [] = record { says = refl }
frame_says config a p r g None (f ∷ free) = record { says = reused_said (a.page f) f (what.Zero (page_address (page_number (r.addr).0)) (pfn f) ∷ what.Done r unsaid ∷ []) }
frame_says config a p r g (Some b) (f ∷ free) = record { says = reads_silent a.page (f ∷ free) (cluster_targets config a p r g b) }

out_says : (config : Config) (past : List Entry) (a : Pager) (p : ℕ) (r : Ref) (g : Page) (o : Option BlockId) → Says (out_given config past a p r g o) r
out_says config past a p r g o = either r (is_busy_block past o) _ _ (record { says = refl }) (frame_says config a p r g o a.free)

held_says : (config : Config) (past : List Entry) (a : Pager) (p : ℕ) (r : Ref) (g : Page) (o : Option ℕ) → Says (held_given config past a p r g o) r
held_says config past a p r g (Some f) = record { says = refl }
held_says config past a p r g None = out_says config past a p r g (source_of config a g (a.map p (page_number (r.addr).0)))

room_says : (config : Config) (past : List Entry) (a : Pager) (p : ℕ) (r : Ref) (g : Page) → Says (room_given config past a p r g) r
room_says config past a p r g =
    either r (is_uncharged config a g && nat_eq (length a.charged) config.pagefile) _ _ (record { says = refl })
    (either r (nat_le (a.limit p) (filled (a.ring p).slots)) _ _ (seen_says config past a p r (seen_at a p (victim_of (choose (a.ring p) (a.limit p))))) (held_says config past a p r g (holder config a.page g)))

read_says : (config : Config) (past : List Entry) (a : Pager) (p : ℕ) (r : Ref) (g : Page) (f : ℕ) (o : Option Flight) → Says (read_given config past a p r g f o) r
read_says config past a p r g f None = room_says config past a p r g
read_says config past a p r g f (Some x) = either r (nat_eq x.seat p) _ _ (room_says config past a p r g) (collide_says a p r f x)

fault_says : (config : Config) (past : List Entry) (a : Pager) (p : ℕ) (r : Ref) (g : Page) (o : Option ℕ) → Says (fault_given config past a p r g o) r
fault_says config past a p r g None = room_says config past a p r g
fault_says config past a p r g (Some f) = read_says config past a p r g f (find (is_read_on f) (open_flights past))

mapped_says : (config : Config) (past : List Entry) (a : Pager) (p : ℕ) (r : Ref) (o : Option Page) → Says (mapped_given config past a p r o) r
mapped_says config past a p r None = record { says = refl }
mapped_says config past a p r (Some g) = fault_says config past a p r g (holder config a.page g)

entry_says : (config : Config) (past : List Entry) (a : Pager) (p : ℕ) (r : Ref) (o : Option Valid) → Says (entry_given config past a p r o) r
entry_says config past a p r (Some e) = record { says = refl }
entry_says config past a p r None = mapped_says config past a p r (page_by config a.map p (page_number (r.addr).0))

refused_says : (config : Config) (past : List Entry) (a : Pager) (p : ℕ) (r : Ref) (o : Option Why) → Says (refused_given config past a p r o) r
refused_says config past a p r (Some reason) = record { says = refl }
refused_says config past a p r None = entry_says config past a p r (entry_of a.valid p (page_number (r.addr).0))

pub advance_says : (config : Config) (past : List Entry) (a : Pager) (p : ℕ) (r : Ref) → Says (advance_gives config past a p r) r
advance_says config past a p r =
    either r (not (is_resident (a.status p))) _ _ (record { says = refl })
    (either r (is_pending config (a.references p)) _ _ (limit_says config a p r (slice_get config.procs p)) (refused_says config past a p r (flat_refusal config (flat_after config past) p r)))

-- ---- a service
abbrev pub ServedBy : ServeIs → List Request → Service → Type 0
ServedBy serve_answered xs s = xs ≡ request.Service s ∷ []
ServedBy other xs s = xs ≡ []

pub record SaysService (g : GivenServe) (s : Service) : Type 0 where
  pub says : ServedBy g.answer (said g.made) s

choice : (s : Service) (b : Bool) (x y : GivenServe) → SaysService x s → SaysService y s → SaysService (cond b x y) s
choice s true x y first second = first
choice s false x y first second = second

evict_says : (config : Config) (past : List Entry) (a : Pager) (p v : ℕ) (why : EvictWhy) (s : Service) (o : Option Valid) → SaysService (evict_given config past a p v why o) s
evict_says config past a p v why s None = record { says = refl }
evict_says config past a p v why s (Some e) = choice s (is_stopped config past a e.frame) _ _ (record { says = refl }) (record { says = refl })

delete_says : (config : Config) (past : List Entry) (a : Pager) (p : ℕ) (at : Addr) (pages : ℕ) (o : Option ℕ) → SaysService (delete_given config past a p at pages o) (service.Delete at pages)
delete_says config past a p at pages (Some v) = evict_says config past a p v evict.Delete (service.Delete at pages) (entry_of a.valid p v)
delete_says config past a p at pages None = choice (service.Delete at pages) (is_range_in_flight config past a p at.0 pages) _ _ (record { says = refl }) (record { says = refl })

purge_says : (config : Config) (past : List Entry) (a : Pager) (p : ℕ) (at : Addr) (pages : ℕ) (o : Option ℕ) → SaysService (purge_given config past a p at pages o) (service.Purge at pages)
purge_says config past a p at pages (Some v) = evict_says config past a p v evict.Purge (service.Purge at pages) (entry_of a.valid p v)
purge_says config past a p at pages None = record { says = refl }

lock_says : (a : Pager) (p : ℕ) (s : Service) (address pages : ℕ) (ring : Ring) (o : Option ProcSpec) → SaysService (lock_given a p s address pages ring o) s
lock_says a p s address pages ring None = record { says = refl }
lock_says a p s address pages ring (Some spec) = choice s (nat_le (fixed ring.slots) spec.locks) _ _ (record { says = refl }) (record { says = refl })

limits_say : (n : ℕ) (o : Option ProcSpec) → SaysService (limits_given n o) (service.Adjust n)
limits_say n None = record { says = refl }
limits_say n (Some spec) = choice (service.Adjust n) (nat_le (spec.locks + 2) n && nat_le n spec.extent) _ _ (record { says = refl }) (record { says = refl })

service_says : (config : Config) (past : List Entry) (a : Pager) (p : ℕ) (s : Service) → SaysService (service_gives config past a p s) s
service_says config past a p (service.Create at pages prot) = record { says = refl }
service_says config past a p (service.Delete at pages) = choice (service.Delete at pages) (is_unmapped a p at.0 pages) _ _ (record { says = refl }) (delete_says config past a p at pages (valid_in a p at.0 pages))
service_says config past a p (service.Protect at pages prot) = record { says = refl }
service_says config past a p (service.Lock at pages) = choice (service.Lock at pages) (is_unmapped a p at.0 pages) _ _ (record { says = refl }) (lock_says a p (service.Lock at pages) at.0 pages (range_locked true at.0 pages (a.ring p)) (slice_get config.procs p))
service_says config past a p (service.Unlock at pages) = record { says = refl }
service_says config past a p (service.Purge at pages) = purge_says config past a p at pages (loose_in a p at.0 pages)
service_says config past a p (service.Pin at pages) = choice (service.Pin at pages) (is_unmapped a p at.0 pages) _ _ (record { says = refl }) (lock_says a p (service.Pin at pages) at.0 pages (range_pinned true at.0 pages (a.ring p)) (slice_get config.procs p))
service_says config past a p (service.Unpin at pages) = record { says = refl }
service_says config past a p (service.Adjust n) = limits_say n (slice_get config.procs p)

pub serve_says : (config : Config) (past : List Entry) (a : Pager) (p : ℕ) (s : Service) → SaysService (serve_gives config past a p s) s
serve_says config past a p s = choice s (is_resident (a.status p)) _ _ (service_says config past a p s) (record { says = refl })

-- ---- writing says nothing
writes_silent : (config : Config) (a : Pager) (n : ℕ) (last : Option BlockId) (frames : List ℕ) → Silent (writes_from config a n last frames)
writes_silent config a n last [] = refl
writes_silent config a n last (f ∷ frames) = go n (block_out config a last (a.page f)) (λ (b : BlockId) (m : ℕ). writes_silent config a m (Some b) frames)
  where
    go : (n : ℕ) (o : Option BlockId) → ((b : BlockId) (m : ℕ) → Silent (writes_from config a m (Some b) frames)) → Silent (writes_taken f n o (λ (b : BlockId) (m : ℕ). writes_from config a m (Some b) frames))
    go zero o rest = refl
    go (suc m) None rest = refl
    go (suc m) (Some b) rest = rest b m

pub begin_silent : (config : Config) (a : Pager) (reason : Reason) → Silent (begin_gives config a reason).made
begin_silent config a reason = go (is_enough config a reason || nat_eq (length a.modified) 0)
  where
    go : (b : Bool) → Silent (cond b (given [] begin_nothing) (given (writes_from config a config.params.wrtcluster None a.modified) begin_carry)).made
    go true = refl
    go false = writes_silent config a config.params.wrtcluster None a.modified

-- ---- nor does leaving and coming
pub record SwapSilent (g : GivenSwap) : Type 0 where
  pub silent : Silent g.made

each_way : (b : Bool) (x y : GivenSwap) → SwapSilent x → SwapSilent y → SwapSilent (cond b x y)
each_way true x y first second = first
each_way false x y first second = second

page_silent : (config : Config) (past : List Entry) (a : Pager) (p : ℕ) (o : Option Seen) → SwapSilent (leave_page config past a p o)
page_silent config past a p None = record { silent = refl }
page_silent config past a p (Some s) = each_way (is_stopped config past a s.frame) _ _ (record { silent = refl }) (record { silent = refl })

slot_silent : (p n : ℕ) (o : Option Seen) → Silent (write_slot p n o)
slot_silent p n None = refl
slot_silent p n (Some s) = refl

slots_silent : (a : Pager) (p : ℕ) (slots : List ℕ) → Silent (write_slots a p slots)
slots_silent a p [] = refl
slots_silent a p (n ∷ slots) = silent_join (write_slot p n (seen_at a p n)) (write_slots a p slots) (slot_silent p n (seen_at a p n)) (slots_silent a p slots)

unsaved_silent : (config : Config) (past : List Entry) (a : Pager) (p : ℕ) (o : Option ℕ) → SwapSilent (leave_unsaved config past a p o)
unsaved_silent config past a p (Some n) = record { silent = slots_silent a p _ }
unsaved_silent config past a p None = each_way (nat_lt 0 (unpinned (a.ring p).slots)) _ _ (record { silent = refl }) (record { silent = refl })

saved_silent : (config : Config) (past : List Entry) (a : Pager) (p : ℕ) (o : Option ℕ) → SwapSilent (leave_saved config past a p o)
saved_silent config past a p (Some n) = page_silent config past a p (seen_at a p n)
saved_silent config past a p None = unsaved_silent config past a p (slot_where a p (λ (n : ℕ) (s : Seen). is_to_save past s))

shared_silent : (config : Config) (past : List Entry) (a : Pager) (p : ℕ) (o : Option ℕ) → SwapSilent (leave_shared config past a p o)
shared_silent config past a p (Some n) = page_silent config past a p (seen_at a p n)
shared_silent config past a p None = saved_silent config past a p (slot_where a p (is_saved past a p))

pub leave_silent : (config : Config) (past : List Entry) (a : Pager) (p : ℕ) → SwapSilent (leave_gives config past a p)
leave_silent config past a p = shared_silent config past a p (slot_where a p (λ (n : ℕ) (s : Seen). is_shared_unpinned s))

back_silent : (p : ℕ) (g : Page) (o : Option ℕ) → Silent (back_of p g o)
back_silent p g None = refl
back_silent p g (Some f) = refl

back_page_silent : (config : Config) (a : Pager) (p : ℕ) (o : Option Page) → Silent (back_page config a p o)
back_page_silent config a p None = refl
back_page_silent config a p (Some g) = back_silent p g (holder config a.page g)

out_silent : (config : Config) (past : List Entry) (a : Pager) (p : ℕ) (o : Option ℕ) → SwapSilent (come_out config past a p o)
out_silent config past a p None = each_way (has_come p (open_flights past)) _ _ (record { silent = refl }) (record { silent = refl })
out_silent config past a p (Some n) = each_way (nat_eq (length a.free) 0) _ _ (record { silent = refl }) (record { silent = reads_silent a.page a.free _ })

free_silent : (config : Config) (past : List Entry) (a : Pager) (p : ℕ) (o : Option ℕ) → SwapSilent (come_free config past a p o)
free_silent config past a p (Some n) = record { silent = back_page_silent config a p (lying_in a p n) }
free_silent config past a p None = out_silent config past a p (swap_where a p (is_out_page config a))

pub come_silent : (config : Config) (past : List Entry) (a : Pager) (p : ℕ) → SwapSilent (come_gives config past a p)
come_silent config past a p = free_silent config past a p (swap_where a p (is_back_on_free config a))
