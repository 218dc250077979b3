-- The reads that a reference begins: the first one is of its own page.
use Rattle.std.proofs.Common.{◌≡◌, ℕ, Bool, true, false, cond, ◌&&◌, List, [], ◌∷◌, Option, Some, None, find, length, nat_eq, nat_le, not, slice_get, refl, subst}
use Rattle.std.specs.List.{AllByRecursion}
use Rattle.vm_types.specs.Ring.{choose, filled}
use Rattle.vm_types.specs.declared.names.BlockId.{BlockId}
use Rattle.vm_types.specs.declared.names.Page.{Page}
use Rattle.vm_types.specs.declared.config.Config.{Config}
use Rattle.vm_types.specs.declared.config.ProcSpec.{ProcSpec}
use Rattle.vm_types.specs.declared.reference.Ref.{Ref}
use Rattle.vm_types.specs.declared.reply.Why.{Why}
use Rattle.vm_journal.specs.declared.entry.Entry.{Entry}
use Rattle.vm_journal.specs.declared.entry.Role.TheVariants as role
use Rattle.vm_journal.specs.declared.entry.What.{What}
use Rattle.vm_journal.specs.declared.entry.What.TheVariants as what
use Rattle.pager_policy.specs.Advance.{GivenNext, NextIs, advance_gives, collide_given, entry_given, fault_given, frame_given, held_given, is_busy_block, is_named, limit_given, mapped_given, next_carry, read_given, refused_given, replace_seen, room_given, source_of}
use Rattle.pager_model.specs.Charging.{is_uncharged}
use Rattle.pager_model.specs.Evict.{victim_of}
use Rattle.pager_model.specs.Flat.{flat_refusal}
use Rattle.pager_model.specs.Flights.{Flight, open_flights}
use Rattle.pager_model.specs.Forget.{holder}
use Rattle.pager_policy.specs.Given.{Seen, Target, is_stopped, page_address, reads_made, reuse_first, seen_at}
use Rattle.pager_model.specs.Maps.{pfn, page_number, proc}
use Rattle.pager_model.specs.Lookups.{entry_of, is_pending, page_by}
use Rattle.vm_types.specs.Status.{is_resident}
use Rattle.pager_model.specs.Pager.{Pager, Valid}
use Rattle.pager_model.specs.Spoken.{flat_after}
use Rattle.pager_model.specs.Transfers.{is_read_on}
use Rattle.serial_laws.proofs.Carriers.{is_beginning}

abbrev AreBeginnings : List What → Type 0
AreBeginnings ws = AllByRecursion (λ (w : What). is_beginning w ≡ true) ws

-- the read of the reference's own page, behind the reuse of its frame, and then reads and reuses
pub record ReadsFirst (p : ℕ) (r : Ref) (made : List What) : Type 0 where
  pub reused : Option Page
  pub frame : ℕ
  pub block : BlockId
  pub rest : List What
  pub made_is : made ≡ reuse_first reused frame (what.In (pfn frame) block (role.Fault (proc p) (page_address (page_number (r.addr).0))) ∷ rest)
  pub begin : AreBeginnings rest

abbrev ReadsShape : ℕ → Ref → NextIs → List What → Type 0
ReadsShape p r next_carry made = ReadsFirst p r made
ReadsShape p r other made = Unit {0}

record ReadsShaped (p : ℕ) (r : Ref) (g : GivenNext) : Type 0 where
  shape : ReadsShape p r g.answer g.made

either : (p : ℕ) (r : Ref) (b : Bool) (x y : GivenNext) → ReadsShaped p r x → ReadsShaped p r y → ReadsShaped p r (cond b x y)
either p r true x y first second = first
either p r false x y first second = second

reused : (o : Option Page) (f : ℕ) (ws : List What) → AreBeginnings ws → AreBeginnings (reuse_first o f ws)
reused None f ws each = each
reused (Some g) f ws each = (refl, each)

reads_begin : (page : ℕ → Option Page) (frames : List ℕ) (targets : List Target) → AreBeginnings (reads_made page frames targets)
reads_begin page [] targets = tt
reads_begin page (f ∷ frames) [] = tt
reads_begin page (f ∷ frames) (t ∷ targets) = reused (page f) f (what.In (pfn f) t.block t.role ∷ reads_made page frames targets) (refl, reads_begin page frames targets)

module _ (config : Config) (past : List Entry) (a : Pager) (p : ℕ) (r : Ref) where
  limit_reads : (o : Option ProcSpec) → ReadsShaped p r (limit_given config a p o)
  limit_reads None = record { shape = tt }
  limit_reads (Some spec) = record { shape = tt }

  seen_reads : (o : Option Seen) → ReadsShaped p r (replace_seen config past a p o)
  seen_reads None = record { shape = tt }
  seen_reads (Some s) = either p r (is_stopped config past a s.frame) _ _ (record { shape = tt }) (record { shape = tt })

  collide_reads : (f : ℕ) (x : Flight) → ReadsShaped p r (collide_given a p r f x)
  collide_reads f x = either p r (is_named (a.collided p) x.start) _ _ (record { shape = tt }) (record { shape = tt })

  frame_reads : (g : Page) (o : Option BlockId) (free : List ℕ) → ReadsShaped p r (frame_given config a p r g o free)
  frame_reads g o [] = record { shape = tt }
  frame_reads g None (f ∷ free) = record { shape = tt }
  frame_reads g (Some b) (f ∷ free) = record { shape = record { reused = a.page f; frame = f; block = b; rest = _; made_is = refl; begin = reads_begin a.page free _ } }

  held_reads : (g : Page) (o : Option ℕ) → ReadsShaped p r (held_given config past a p r g o)
  held_reads g (Some f) = record { shape = tt }
  held_reads g None =
      let source = source_of config a g (a.map p (page_number (r.addr).0)) in
      either p r (is_busy_block past source) _ _ (record { shape = tt }) (frame_reads g source a.free)

  room_reads : (g : Page) → ReadsShaped p r (room_given config past a p r g)
  room_reads g =
      either p r (is_uncharged config a g && nat_eq (length a.charged) config.pagefile) _ _ (record { shape = tt })
      (either p r (nat_le (a.limit p) (filled (a.ring p).slots)) _ _ (seen_reads (seen_at a p (victim_of (choose (a.ring p) (a.limit p))))) (held_reads g (holder config a.page g)))

  read_reads : (g : Page) (f : ℕ) (o : Option Flight) → ReadsShaped p r (read_given config past a p r g f o)
  read_reads g f None = room_reads g
  read_reads g f (Some x) = either p r (nat_eq x.seat p) _ _ (room_reads g) (collide_reads f x)

  fault_reads : (g : Page) (o : Option ℕ) → ReadsShaped p r (fault_given config past a p r g o)
  fault_reads g None = room_reads g
  fault_reads g (Some f) = read_reads g f (find (is_read_on f) (open_flights past))

  mapped_reads : (o : Option Page) → ReadsShaped p r (mapped_given config past a p r o)
  mapped_reads None = record { shape = tt }
  mapped_reads (Some g) = fault_reads g (holder config a.page g)

  entry_reads : (o : Option Valid) → ReadsShaped p r (entry_given config past a p r o)
  entry_reads (Some e) = record { shape = tt }
  entry_reads None = mapped_reads (page_by config a.map p (page_number (r.addr).0))

  refused_reads : (o : Option Why) → ReadsShaped p r (refused_given config past a p r o)
  refused_reads (Some reason) = record { shape = tt }
  refused_reads None = entry_reads (entry_of a.valid p (page_number (r.addr).0))

  advance_shaped : ReadsShaped p r (advance_gives config past a p r)
  advance_shaped =
      either p r (not (is_resident (a.status p))) _ _ (record { shape = tt })
      (either p r (is_pending config (a.references p)) _ _ (limit_reads (slice_get config.procs p)) (refused_reads (flat_refusal config (flat_after config past) p r)))

  pub advance_reads : (advance_gives config past a p r).answer ≡ next_carry → ReadsFirst p r (advance_gives config past a p r).made
  advance_reads is = subst (λ (n : NextIs). ReadsShape p r n (advance_gives config past a p r).made) is advance_shaped.shape
