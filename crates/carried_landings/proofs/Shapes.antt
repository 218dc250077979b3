-- What the entries that a call of the pager's logic gives look like, by its answer: transfers that begin, entries that begin
-- and end none, or an answer.
use Rattle.std.proofs.Common.{◌≡◌, ℕ, zero, suc, ◌+◌, Bool, true, false, cond, ◌&&◌, ◌||◌, List, [], ◌∷◌, ◌++◌, Option, Some, None, find, length, nat_eq, nat_le, nat_lt, not, slice_get, refl}
use Rattle.std.specs.List.{AllByRecursion}
use Rattle.vm_types.specs.Ring.{Ring, choose, filled, fixed, unpinned}
use Rattle.vm_types.specs.declared.names.Addr.{Addr}
use Rattle.vm_types.specs.declared.names.BlockId.{BlockId}
use Rattle.vm_types.specs.declared.names.Page.{Page}
use Rattle.vm_types.specs.declared.config.Config.{Config}
use Rattle.vm_types.specs.declared.config.ProcSpec.{ProcSpec}
use Rattle.vm_types.specs.declared.reference.Ref.{Ref}
use Rattle.vm_types.specs.declared.reply.Why.{Why}
use Rattle.vm_types.specs.declared.service.Service.{Service}
use Rattle.vm_types.specs.declared.service.Service.TheVariants as service
use Rattle.vm_journal.specs.declared.entry.Entry.{Entry}
use Rattle.vm_journal.specs.declared.entry.EvictWhy.{EvictWhy}
use Rattle.vm_journal.specs.declared.entry.What.{What}
use Rattle.vm_journal.specs.declared.entry.What.TheVariants as what
use Rattle.pager_policy.specs.Advance.{GivenNext, NextIs, advance_gives, cluster_targets, collide_given, entry_given, fault_given, frame_given, held_given, is_busy_block, is_named, limit_given, mapped_given, next_again, next_answered, next_carry, next_more, read_given, refused_given, replace_seen, room_given, source_of}
use Rattle.pager_model.specs.Charging.{is_uncharged}
use Rattle.pager_model.specs.Evict.{victim_of}
use Rattle.pager_model.specs.Flat.{flat_refusal}
use Rattle.pager_model.specs.Flights.{Flight, open_flights}
use Rattle.pager_model.specs.Forget.{holder}
use Rattle.pager_policy.specs.Given.{Seen, Target, given, is_stopped, page_address, reads_made, reuse_first, seen_at, unsaid}
use Rattle.pager_model.specs.Maps.{pfn, page_number}
use Rattle.pager_model.specs.Lookups.{entry_of, is_pending, page_by}
use Rattle.vm_types.specs.Status.{is_resident}
use Rattle.pager_model.specs.Pager.{Pager, Valid}
use Rattle.pager_model.specs.Ring.{range_locked, range_pinned}
use Rattle.pager_policy.specs.Serve.{GivenServe, ServeIs, delete_given, evict_given, is_range_in_flight, limits_given, lock_given, loose_in, purge_given, serve_again, serve_answered, serve_gives, serve_more, service_gives, valid_in}
use Rattle.pager_model.specs.MappedRanges.{is_unmapped}
use Rattle.pager_model.specs.Spoken.{flat_after}
use Rattle.pager_policy.specs.Swap.{GivenSwap, SwapIs, back_of, back_page, come_free, come_gives, come_out, is_back_on_free, is_out_page, is_saved, is_shared_unpinned, is_to_save, leave_gives, leave_page, leave_saved, leave_shared, leave_unsaved, slot_where, swap_again, swap_carry, swap_more, swap_settled, swap_where, write_slot, write_slots}
use Rattle.pager_model.specs.Lying.{lying_in}
use Rattle.pager_model.specs.Transfers.{has_come, is_read_on}
use Rattle.pager_policy.specs.WriteCluster.{BeginIs, Reason, begin_carry, begin_gives, begin_nothing, block_out, is_enough, writes_from, writes_taken}

-- a transfer that begins, or what comes before a read
abbrev pub IsStart : What → Type 0
IsStart (what.Reuse f g) = Unit {0}
IsStart (what.In f b r) = Unit {0}
IsStart (what.Out f b) = Unit {0}
IsStart other = ⊥

-- an entry that begins and ends no transfer, and answers nothing
abbrev pub IsQuiet : What → Type 0
IsQuiet (what.Reuse f g) = Unit {0}
IsQuiet (what.Zero a f) = Unit {0}
IsQuiet (what.Back p a f from) = Unit {0}
IsQuiet (what.Collide a f k) = Unit {0}
IsQuiet (what.Evict p a f why to) = Unit {0}
IsQuiet (what.Limit n faults) = Unit {0}
IsQuiet (what.Turn p s) = Unit {0}
IsQuiet other = ⊥

abbrev pub AreStarts : List What → Type 0
AreStarts ws = AllByRecursion IsStart ws

abbrev pub AreQuiet : List What → Type 0
AreQuiet ws = AllByRecursion IsQuiet ws

-- quiet entries, and then the reference's answer
abbrev pub EndsIn : Ref → List What → Type 0
EndsIn r [] = ⊥
EndsIn r (what.Done q reply ∷ []) = q ≡ r
EndsIn r (what.Denied q why ∷ []) = q ≡ r
EndsIn r (w ∷ ws) = IsQuiet w × EndsIn r ws

-- a service's answer
abbrev pub IsServedOnce : List What → Type 0
IsServedOnce (what.Served s answer ∷ []) = Unit {0}
IsServedOnce other = ⊥

abbrev pub NextShape : Ref → NextIs → List What → Type 0
NextShape r next_answered made = EndsIn r made
NextShape r next_carry made = AreStarts made
NextShape r next_more made = AreQuiet made
NextShape r (next_again why) made = made ≡ []

abbrev pub ServeShape : ServeIs → List What → Type 0
ServeShape serve_answered made = IsServedOnce made
ServeShape serve_more made = AreQuiet made
ServeShape (serve_again why) made = made ≡ []

abbrev pub SwapShape : SwapIs → List What → Type 0
SwapShape swap_carry made = AreStarts made
SwapShape swap_more made = AreQuiet made
SwapShape swap_settled made = AreQuiet made
SwapShape (swap_again why) made = made ≡ []

abbrev pub BeginShape : BeginIs → List What → Type 0
BeginShape begin_carry made = AreStarts made
BeginShape begin_nothing made = made ≡ []

record NextShaped (r : Ref) (g : GivenNext) : Type 0 where
  shape : NextShape r g.answer g.made

record ServeShaped (g : GivenServe) : Type 0 where
  shape : ServeShape g.answer g.made

record SwapShaped (g : GivenSwap) : Type 0 where
  shape : SwapShape g.answer g.made

next_either : (r : Ref) (b : Bool) (x y : GivenNext) → NextShaped r x → NextShaped r y → NextShaped r (cond b x y)
next_either r true x y first second = first
next_either r false x y first second = second

serve_either : (b : Bool) (x y : GivenServe) → ServeShaped x → ServeShaped y → ServeShaped (cond b x y)
serve_either true x y first second = first
serve_either false x y first second = second

swap_either : (b : Bool) (x y : GivenSwap) → SwapShaped x → SwapShaped y → SwapShaped (cond b x y)
swap_either true x y first second = first
swap_either false x y first second = second

join : (xs ys : List What) → AreStarts xs → AreStarts ys → AreStarts (xs ++ ys)
join [] ys first rest = rest
join (x ∷ xs) ys first rest = (first.0, join xs ys first.1 rest)

reused : (o : Option Page) (f : ℕ) (ws : List What) → AreStarts ws → AreStarts (reuse_first o f ws)
reused None f ws starts = starts
reused (Some g) f ws starts = (tt, starts)

reads_start : (page : ℕ → Option Page) (frames : List ℕ) (targets : List Target) → AreStarts (reads_made page frames targets)
reads_start page [] targets = tt
reads_start page (f ∷ frames) [] = tt
reads_start page (f ∷ frames) (t ∷ targets) = reused (page f) f (what.In (pfn f) t.block t.role ∷ reads_made page frames targets) (tt, reads_start page frames targets)

-- ---- a reference
module _ (config : Config) (past : List Entry) (a : Pager) (p : ℕ) (r : Ref) where
  limit_shape : (o : Option ProcSpec) → NextShaped r (limit_given config a p o)
  limit_shape None = record { shape = refl }
  limit_shape (Some spec) = record { shape = (tt, tt) }

  seen_shape : (o : Option Seen) → NextShaped r (replace_seen config past a p o)
  seen_shape None = record { shape = refl }
  seen_shape (Some s) = next_either r (is_stopped config past a s.frame) _ _ (record { shape = refl }) (record { shape = (tt, tt) })

  collide_shape : (f : ℕ) (x : Flight) → NextShaped r (collide_given a p r f x)
  collide_shape f x = next_either r (is_named (a.collided p) x.start) _ _ (record { shape = refl }) (record { shape = (tt, tt) })

  zero_shape : (o : Option Page) (f : ℕ) → EndsIn r (reuse_first o f (what.Zero (page_address (page_number (r.addr).0)) (pfn f) ∷ what.Done r unsaid ∷ []))
  zero_shape None f = (tt, refl)
  zero_shape (Some g) f = (tt, (tt, refl))

  frame_shape : (g : Page) (o : Option BlockId) (free : List ℕ) → NextShaped r (frame_given config a p r g o free)
  frame_shape g o [] = record { shape = refl }
  frame_shape g None (f ∷ free) = record { shape = zero_shape (a.page f) f }
  frame_shape g (Some b) (f ∷ free) = record { shape = reads_start a.page (f ∷ free) (cluster_targets config a p r g b) }

  held_shape : (g : Page) (o : Option ℕ) → NextShaped r (held_given config past a p r g o)
  held_shape g (Some f) = record { shape = (tt, refl) }
  held_shape g None =
      let source = source_of config a g (a.map p (page_number (r.addr).0)) in
      next_either r (is_busy_block past source) _ _ (record { shape = refl }) (frame_shape g source a.free)

  room_shape : (g : Page) → NextShaped r (room_given config past a p r g)
  room_shape g =
      next_either r (is_uncharged config a g && nat_eq (length a.charged) config.pagefile) _ _ (record { shape = refl })
      (next_either r (nat_le (a.limit p) (filled (a.ring p).slots)) _ _ (seen_shape (seen_at a p (victim_of (choose (a.ring p) (a.limit p))))) (held_shape g (holder config a.page g)))

  read_shape : (g : Page) (f : ℕ) (o : Option Flight) → NextShaped r (read_given config past a p r g f o)
  read_shape g f None = room_shape g
  read_shape g f (Some x) = next_either r (nat_eq x.seat p) _ _ (room_shape g) (collide_shape f x)

  fault_shape : (g : Page) (o : Option ℕ) → NextShaped r (fault_given config past a p r g o)
  fault_shape g None = room_shape g
  fault_shape g (Some f) = read_shape g f (find (is_read_on f) (open_flights past))

  mapped_shape : (o : Option Page) → NextShaped r (mapped_given config past a p r o)
  mapped_shape None = record { shape = refl }
  mapped_shape (Some g) = fault_shape g (holder config a.page g)

  entry_shape : (o : Option Valid) → NextShaped r (entry_given config past a p r o)
  entry_shape (Some e) = record { shape = refl }
  entry_shape None = mapped_shape (page_by config a.map p (page_number (r.addr).0))

  refused_shape : (o : Option Why) → NextShaped r (refused_given config past a p r o)
  refused_shape (Some reason) = record { shape = refl }
  refused_shape None = entry_shape (entry_of a.valid p (page_number (r.addr).0))

  advance_shaped : NextShaped r (advance_gives config past a p r)
  advance_shaped =
      next_either r (not (is_resident (a.status p))) _ _ (record { shape = refl })
      (next_either r (is_pending config (a.references p)) _ _ (limit_shape (slice_get config.procs p)) (refused_shape (flat_refusal config (flat_after config past) p r)))

  pub advance_shape : NextShape r (advance_gives config past a p r).answer (advance_gives config past a p r).made
  advance_shape = advance_shaped.shape

-- ---- a service
module _ (config : Config) (past : List Entry) (a : Pager) (p : ℕ) where
  evict_shape : (v : ℕ) (why : EvictWhy) (o : Option Valid) → ServeShaped (evict_given config past a p v why o)
  evict_shape v why None = record { shape = refl }
  evict_shape v why (Some e) = serve_either (is_stopped config past a e.frame) _ _ (record { shape = refl }) (record { shape = (tt, tt) })

  delete_shape : (at : Addr) (pages : ℕ) (o : Option ℕ) → ServeShaped (delete_given config past a p at pages o)
  delete_shape at pages (Some v) = evict_shape v _ (entry_of a.valid p v)
  delete_shape at pages None = serve_either (is_range_in_flight config past a p at.0 pages) _ _ (record { shape = refl }) (record { shape = tt })

  purge_shape : (at : Addr) (pages : ℕ) (o : Option ℕ) → ServeShaped (purge_given config past a p at pages o)
  purge_shape at pages (Some v) = evict_shape v _ (entry_of a.valid p v)
  purge_shape at pages None = record { shape = tt }

  lock_shape : (s : Service) (at : Addr) (pages : ℕ) (ring : Ring) (o : Option ProcSpec) → ServeShaped (lock_given a p s at.0 pages ring o)
  lock_shape s at pages ring None = record { shape = tt }
  lock_shape s at pages ring (Some spec) = serve_either (nat_le (fixed ring.slots) spec.locks) _ _ (record { shape = tt }) (record { shape = tt })

  limits_shape : (n : ℕ) (o : Option ProcSpec) → ServeShaped (limits_given n o)
  limits_shape n None = record { shape = tt }
  limits_shape n (Some spec) = serve_either (nat_le (spec.locks + 2) n && nat_le n spec.extent) _ _ (record { shape = tt }) (record { shape = tt })

  service_shape : (s : Service) → ServeShaped (service_gives config past a p s)
  service_shape (service.Create at pages prot) = record { shape = tt }
  service_shape (service.Delete at pages) = serve_either (is_unmapped a p at.0 pages) _ _ (record { shape = tt }) (delete_shape at pages (valid_in a p at.0 pages))
  service_shape (service.Protect at pages prot) = record { shape = tt }
  service_shape (service.Lock at pages) = serve_either (is_unmapped a p at.0 pages) _ _ (record { shape = tt }) (lock_shape (service.Lock at pages) at pages (range_locked true at.0 pages (a.ring p)) (slice_get config.procs p))
  service_shape (service.Unlock at pages) = record { shape = tt }
  service_shape (service.Purge at pages) = purge_shape at pages (loose_in a p at.0 pages)
  service_shape (service.Pin at pages) = serve_either (is_unmapped a p at.0 pages) _ _ (record { shape = tt }) (lock_shape (service.Pin at pages) at pages (range_pinned true at.0 pages (a.ring p)) (slice_get config.procs p))
  service_shape (service.Unpin at pages) = record { shape = tt }
  service_shape (service.Adjust n) = limits_shape n (slice_get config.procs p)

  serve_shaped : (s : Service) → ServeShaped (serve_gives config past a p s)
  serve_shaped s = serve_either (is_resident (a.status p)) _ _ (service_shape s) (record { shape = refl })

  pub serve_shape : (s : Service) → ServeShape (serve_gives config past a p s).answer (serve_gives config past a p s).made
  serve_shape s = (serve_shaped s).shape

  -- ---- leaving and coming
  page_shape : (o : Option Seen) → SwapShaped (leave_page config past a p o)
  page_shape None = record { shape = refl }
  page_shape (Some s) = swap_either (is_stopped config past a s.frame) _ _ (record { shape = refl }) (record { shape = (tt, tt) })

  slot_starts : (n : ℕ) (o : Option Seen) → AreStarts (write_slot p n o)
  slot_starts n None = tt
  slot_starts n (Some s) = (tt, tt)

  slots_start : (slots : List ℕ) → AreStarts (write_slots a p slots)
  slots_start [] = tt
  slots_start (n ∷ slots) = join (write_slot p n (seen_at a p n)) (write_slots a p slots) (slot_starts n (seen_at a p n)) (slots_start slots)

  unsaved_shape : (o : Option ℕ) → SwapShaped (leave_unsaved config past a p o)
  unsaved_shape (Some n) = record { shape = slots_start _ }
  unsaved_shape None = swap_either (nat_lt 0 (unpinned (a.ring p).slots)) _ _ (record { shape = refl }) (record { shape = (tt, tt) })

  saved_shape : (o : Option ℕ) → SwapShaped (leave_saved config past a p o)
  saved_shape (Some n) = page_shape (seen_at a p n)
  saved_shape None = unsaved_shape (slot_where a p (λ (n : ℕ) (s : Seen). is_to_save past s))

  shared_shape : (o : Option ℕ) → SwapShaped (leave_shared config past a p o)
  shared_shape (Some n) = page_shape (seen_at a p n)
  shared_shape None = saved_shape (slot_where a p (is_saved past a p))

  leave_shaped : SwapShaped (leave_gives config past a p)
  leave_shaped = shared_shape (slot_where a p (λ (n : ℕ) (s : Seen). is_shared_unpinned s))

  pub leave_shape : SwapShape (leave_gives config past a p).answer (leave_gives config past a p).made
  leave_shape = leave_shaped.shape

  back_quiet : (g : Page) (o : Option ℕ) → AreQuiet (back_of p g o)
  back_quiet g None = tt
  back_quiet g (Some f) = (tt, tt)

  back_page_quiet : (o : Option Page) → AreQuiet (back_page config a p o)
  back_page_quiet None = tt
  back_page_quiet (Some g) = back_quiet g (holder config a.page g)

  out_shape : (o : Option ℕ) → SwapShaped (come_out config past a p o)
  out_shape None = swap_either (has_come p (open_flights past)) _ _ (record { shape = refl }) (record { shape = (tt, tt) })
  out_shape (Some n) = swap_either (nat_eq (length a.free) 0) _ _ (record { shape = refl }) (record { shape = reads_start a.page a.free _ })

  free_shape : (o : Option ℕ) → SwapShaped (come_free config past a p o)
  free_shape (Some n) = record { shape = back_page_quiet (lying_in a p n) }
  free_shape None = out_shape (swap_where a p (is_out_page config a))

  come_shaped : SwapShaped (come_gives config past a p)
  come_shaped = free_shape (swap_where a p (is_back_on_free config a))

  pub come_shape : SwapShape (come_gives config past a p).answer (come_gives config past a p).made
  come_shape = come_shaped.shape

-- ---- a write cluster
writes_start : (config : Config) (a : Pager) (n : ℕ) (last : Option BlockId) (frames : List ℕ) → AreStarts (writes_from config a n last frames)
writes_start config a n last [] = tt
writes_start config a n last (f ∷ frames) = go n (block_out config a last (a.page f)) (λ (b : BlockId) (m : ℕ). writes_start config a m (Some b) frames)
  where
    go : (n : ℕ) (o : Option BlockId) → ((b : BlockId) (m : ℕ) → AreStarts (writes_from config a m (Some b) frames)) → AreStarts (writes_taken f n o (λ (b : BlockId) (m : ℕ). writes_from config a m (Some b) frames))
    go zero o rest = tt
    go (suc m) None rest = tt
    go (suc m) (Some b) rest = (tt, rest b m)

pub begin_shape : (config : Config) (a : Pager) (reason : Reason) → BeginShape (begin_gives config a reason).answer (begin_gives config a reason).made
begin_shape config a reason = go (is_enough config a reason || nat_eq (length a.modified) 0)
  where
    go : (b : Bool) → BeginShape (cond b (given [] begin_nothing) (given (writes_from config a config.params.wrtcluster None a.modified) begin_carry)).answer (cond b (given [] begin_nothing) (given (writes_from config a config.params.wrtcluster None a.modified) begin_carry)).made
    go true = refl
    go false = writes_start config a config.params.wrtcluster None a.modified
