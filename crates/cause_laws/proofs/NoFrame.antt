-- A reference that waits for a frame wants one, and none is free.
use Rattle.std.proofs.Common.{◌≡◌, ℕ, ◌<◌, ◌&&◌, Bool, true, false, cond, not, List, [], ◌∷◌, Option, Some, None, length, find, nat_eq, nat_le, slice_get, refl, arith}
use Rattle.std.proofs.lemmas.Bool.{leb-false}
use Rattle.vm_types.specs.Ring.{choose, filled}
use Rattle.vm_types.specs.Status.{is_resident}
use Rattle.vm_types.specs.declared.names.BlockId.{BlockId}
use Rattle.vm_types.specs.declared.names.Page.{Page}
use Rattle.vm_types.specs.declared.config.Config.{Config}
use Rattle.vm_types.specs.declared.config.ProcSpec.{ProcSpec}
use Rattle.vm_types.specs.declared.reference.Ref.{Ref}
use Rattle.vm_types.specs.declared.reply.Why.{Why}
use Rattle.vm_types.specs.declared.service.Request.TheVariants as request
use Rattle.vm_journal.specs.declared.entry.Entry.{Entry}
use Rattle.pager_model.specs.Charging.{is_uncharged}
use Rattle.pager_model.specs.Evict.{victim_of}
use Rattle.pager_model.specs.Flat.{flat_refusal}
use Rattle.pager_model.specs.Flights.{Flight, open_flights}
use Rattle.pager_model.specs.Forget.{holder}
use Rattle.pager_model.specs.Lookups.{entry_of, is_entry, is_pending, page_by}
use Rattle.pager_model.specs.Maps.{page_number}
use Rattle.pager_model.specs.Pager.{Pager, Valid}
use Rattle.pager_model.specs.Run.{pager_after}
use Rattle.pager_model.specs.Spoken.{flat_after}
use Rattle.pager_model.specs.Transfers.{is_read_on}
use Rattle.pager_policy.specs.Advance.{GivenNext, advance_gives, again_no_frame, collide_given, entry_given, fault_given, frame_given, held_given, is_busy_block, is_named, limit_given, mapped_given, next_again, read_given, refused_given, replace_seen, room_given, source_of}
use Rattle.pager_policy.specs.Given.{Seen, is_stopped, seen_at}
use Rattle.pager_rules.proofs.Basics.{count_from_no_find}
use Rattle.pager_laws.proofs.RunsAreSound.{run_kept}
use Rattle.call_laws.proofs.ReadsLegal.{held_by_none}
use Rattle.call_laws.specs.Ready.{IsReady}
use Rattle.entry_causes.specs.FrameWanted.{WantsFrameForFault}
use Rattle.entry_causes.specs.NextRequest.{next_request}

module _ (config : Config) (past : List Entry) (p : ℕ) (r : Ref) (ready : IsReady config past p) (next : next_request config past p ≡ Some (request.Reference r)) where
  abbrev a : Pager
  a = pager_after config past

  abbrev v : ℕ
  v = page_number (r.addr).0

  abbrev Missed : GivenNext → Type 0
  Missed x = x.answer ≡ next_again again_no_frame → (a.free ≡ []) × WantsFrameForFault config past a p

  either : (b : Bool) (x y : GivenNext) → (b ≡ true → Missed x) → (b ≡ false → Missed y) → Missed (cond b x y)
  either true x y first second = first refl
  either false x y first second = second refl

  module _ (none : flat_refusal config (flat_after config past) p r ≡ None) (invalid : entry_of a.valid p v ≡ None) where
    collided : (f : ℕ) (x : Flight) → Missed (collide_given a p r f x)
    collided f x = either (is_named (a.collided p) x.start) _ _ (λ again is. absurd (cc)) (λ first is. absurd (cc))

    replaced : (o : Option Seen) → Missed (replace_seen config past a p o)
    replaced None = λ is. absurd (cc)
    replaced (Some s) = either (is_stopped config past a s.frame) _ _ (λ stopped is. absurd (cc)) (λ goes is. absurd (cc))

    framed : (g : Page) → page_by config a.map p v ≡ Some g → ((k : ℕ) → a.page k ≡ Some g → ⊥) → filled (a.ring p).slots < a.limit p → (o : Option BlockId) (frames : List ℕ) → a.free ≡ frames → Missed (frame_given config a p r g o frames)
    framed g mapped out below o [] free is =
        (free, record { own = ready.own; v = v; wanted = record { r = r; next = next; here = refl; granted = none; not_valid = count_from_no_find (is_entry p v) a.valid invalid }; page = g; mapped = mapped; out = out; below_limit = below })
    framed g mapped out below None (f ∷ fs) free is = absurd (cc)
    framed g mapped out below (Some b) (f ∷ fs) free is = absurd (cc)

    held : (g : Page) → page_by config a.map p v ≡ Some g → filled (a.ring p).slots < a.limit p → (o : Option ℕ) → holder config a.page g ≡ o → Missed (held_given config past a p r g o)
    held g mapped below (Some f) found = λ is. absurd (cc)
    held g mapped below None found =
        either (is_busy_block past (source_of config a g (a.map p v))) _ _ (λ busy is. absurd (cc))
        (λ still. framed g mapped (held_by_none config past a g (run_kept config past ready.formed ready.run) found) below (source_of config a g (a.map p v)) a.free refl)

    roomed : (g : Page) → page_by config a.map p v ≡ Some g → Missed (room_given config past a p r g)
    roomed g mapped =
        either (is_uncharged config a g && nat_eq (length a.charged) config.pagefile) _ _ (λ charging is. absurd (cc))
        (λ room. either (nat_le (a.limit p) (filled (a.ring p).slots)) _ _ (λ full. replaced (seen_at a p (victim_of (choose (a.ring p) (a.limit p)))))
        (λ below. held g mapped (let less = leb-false (a.limit p) (filled (a.ring p).slots) below in omega (arith, less)) (holder config a.page g) refl))

    read : (g : Page) → page_by config a.map p v ≡ Some g → (f : ℕ) (o : Option Flight) → Missed (read_given config past a p r g f o)
    read g mapped f None = roomed g mapped
    read g mapped f (Some x) = either (nat_eq x.seat p) _ _ (λ own. roomed g mapped) (λ other. collided f x)

    faulted : (g : Page) → page_by config a.map p v ≡ Some g → (o : Option ℕ) → Missed (fault_given config past a p r g o)
    faulted g mapped None = roomed g mapped
    faulted g mapped (Some f) = read g mapped f (find (is_read_on f) (open_flights past))

    found : (o : Option Page) → page_by config a.map p v ≡ o → Missed (mapped_given config past a p r o)
    found None mapped = λ is. absurd (cc)
    found (Some g) mapped = faulted g mapped (holder config a.page g)

  entered : flat_refusal config (flat_after config past) p r ≡ None → (o : Option Valid) → entry_of a.valid p v ≡ o → Missed (entry_given config past a p r o)
  entered none (Some e) valid = λ is. absurd (cc)
  entered none None invalid = found none invalid (page_by config a.map p v) refl

  refused : (o : Option Why) → flat_refusal config (flat_after config past) p r ≡ o → Missed (refused_given config past a p r o)
  refused (Some reason) at = λ is. absurd (cc)
  refused None at = entered at (entry_of a.valid p v) refl

  adjusted : (o : Option ProcSpec) → Missed (limit_given config a p o)
  adjusted None is = absurd (cc)
  adjusted (Some spec) is = absurd (cc)

pub no_frame_wanted : (config : Config) (past : List Entry) (p : ℕ) (r : Ref) → IsReady config past p → next_request config past p ≡ Some (request.Reference r)
    → (advance_gives config past (pager_after config past) p r).answer ≡ next_again again_no_frame → ((pager_after config past).free ≡ []) × WantsFrameForFault config past (pager_after config past) p
no_frame_wanted config past p r ready next =
    either config past p r ready next (not (is_resident ((pager_after config past).status p))) _ _ (λ gone is. absurd (cc))
    (λ there. either config past p r ready next (is_pending config ((pager_after config past).references p)) _ _ (λ pending. adjusted config past p r ready next (slice_get config.procs p))
    (λ calm. refused config past p r ready next (flat_refusal config (flat_after config past) p r) refl))
