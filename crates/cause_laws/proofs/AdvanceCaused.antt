-- What is made for a reference has its cause.
use Rattle.std.proofs.Common.{◌≡◌, inl, inr, ℕ, ◌-◌, ◌<◌, ◌&&◌, Bool, true, false, cond, not, List, [], ◌∷◌, Option, Some, None, length, find, nat_eq, nat_le, slice_get, append-nil, refl, sym, ap, ◌∙◌, subst, arith}
use Rattle.std.specs.List.{range_with_len}
use Rattle.std.proofs.lemmas.Bool.{leb-false}
use Rattle.vm_types.specs.Ring.{choose, filled}
use Rattle.vm_types.specs.Status.{is_resident}
use Rattle.vm_types.specs.declared.names.BlockId.{BlockId}
use Rattle.vm_types.specs.declared.names.Page.{Page}
use Rattle.vm_types.specs.declared.names.ProcStatus.{ProcStatus}
use Rattle.vm_types.specs.declared.config.Config.{Config}
use Rattle.vm_types.specs.declared.config.ProcSpec.{ProcSpec}
use Rattle.vm_types.specs.declared.reference.Ref.{Ref}
use Rattle.vm_types.specs.declared.reply.Why.{Why}
use Rattle.vm_types.specs.declared.service.Request.{Request}
use Rattle.vm_types.specs.declared.service.Request.TheVariants as request
use Rattle.vm_journal.specs.declared.entry.Entry.{Entry}
use Rattle.vm_journal.specs.declared.entry.Role.TheVariants as role
use Rattle.vm_journal.specs.declared.entry.What.{What}
use Rattle.vm_journal.specs.declared.entry.What.TheVariants as what
use Rattle.pager_model.specs.Evict.{victim_of}
use Rattle.pager_model.specs.Flat.{flat_refusal}
use Rattle.pager_model.specs.Flights.{Flight, open_flights}
use Rattle.pager_model.specs.Forget.{holder}
use Rattle.pager_model.specs.Lookups.{entry_of, is_entry, is_pending, page_by}
use Rattle.pager_model.specs.Maps.{page_number, pfn, proc}
use Rattle.pager_model.specs.Order.{answered, requests_of}
use Rattle.pager_model.specs.Pager.{Pager, Valid}
use Rattle.pager_model.specs.Charging.{is_uncharged}
use Rattle.pager_model.specs.ClusterLength.{cluster_length}
use Rattle.pager_model.specs.Run.{pager_after}
use Rattle.pager_model.specs.Spoken.{flat_after}
use Rattle.pager_model.specs.Transfers.{is_read_on}
use Rattle.pager_policy.specs.Advance.{GivenNext, advance_gives, collide_given, entry_given, fault_given, frame_given, held_given, is_busy_block, is_named, limit_given, mapped_given, near_targets, read_given, refused_given, replace_seen, room_given, source_of, window}
use Rattle.pager_policy.specs.Given.{Seen, by_seat, is_stopped, page_address, reads_made, reuse_first, seen_at, unsaid}
use Rattle.pager_rules.proofs.Basics.{count_from_no_find}
use Rattle.pager_laws.proofs.RunsAreSound.{run_kept}
use Rattle.call_laws.proofs.FreeTurn.{same_number}
use Rattle.call_laws.proofs.ReadsLegal.{held_by_none}
use Rattle.call_laws.specs.Ready.{IsReady}
use Rattle.entry_causes.specs.Caused.{IsBackCause}
use Rattle.entry_causes.specs.NextRequest.{next_request}
use Rattle.entry_causes.specs.ReuseCause.{IsReuseCause}
use Rattle.entry_causes.specs.Wanted.{IsWanted}
use Rattle.cause_laws.proofs.ClusterCaused.{read_empty, read_reused}
use Rattle.cause_laws.specs.AreCaused.{AreCaused}

-- a reuse answers nothing
next_stays : (config : Config) (past : List Entry) (p f : ℕ) (x : Page) → next_request config (by_seat p (what.Reuse (pfn f) x) ∷ past) p ≡ next_request config past p
next_stays config past p f x = ap (λ (xs : List Request). slice_get (requests_of p config.body) (length xs)) (append-nil (answered p past))

module _ (config : Config) (past : List Entry) (p : ℕ) (r : Ref) (ready : IsReady config past p) (next : next_request config past p ≡ Some (request.Reference r)) where
  abbrev a : Pager
  a = pager_after config past

  abbrev v : ℕ
  v = page_number (r.addr).0

  abbrev Caused : GivenNext → Type 0
  Caused x = AreCaused config past p x.made

  either : (b : Bool) (x y : GivenNext) → (b ≡ true → Caused x) → (b ≡ false → Caused y) → Caused (cond b x y)
  either true x y first second = first refl
  either false x y first second = second refl

  -- ---- the flat machine grants it, and no entry is valid
  module _ (none : flat_refusal config (flat_after config past) p r ≡ None) (invalid : entry_of a.valid p v ≡ None) where
    wanted : IsWanted config past a p v
    wanted = record { r = r; next = next; here = refl; granted = none; not_valid = count_from_no_find (is_entry p v) a.valid invalid }

    -- as the page is named by its address
    named : IsWanted config past a p (page_number (page_address v).0)
    named = subst (λ (u : ℕ). IsWanted config past a p u) (sym (same_number v)) wanted

    -- after a reuse of the free list's head too
    named_then : (f : ℕ) (x : Page) → IsWanted config (by_seat p (what.Reuse (pfn f) x) ∷ past) (pager_after config (by_seat p (what.Reuse (pfn f) x) ∷ past)) p (page_number (page_address v).0)
    named_then f x = record { r = r; next = next_stays config past p f x ∙ next; here = sym (same_number v); granted = none; not_valid = named.not_valid }

    collided : (f : ℕ) (x : Flight) → Caused (collide_given a p r f x)
    collided f x = either (is_named (a.collided p) x.start) _ _ (λ again. tt) (λ first. (named, tt))

    replaced : (o : Option Seen) → Caused (replace_seen config past a p o)
    replaced None = tt
    replaced (Some s) = either (is_stopped config past a s.frame) _ _ (λ stopped. tt) (λ goes. ((v, wanted), tt))

    backed : (g : Page) (f : ℕ) → Caused (held_given config past a p r g (Some f))
    backed g f = (subst (λ (s : ProcStatus). IsBackCause s config past a p (page_address v).0) (sym ready.own.resident) named, (tt, tt))

    -- ---- the page is in no frame, and there is room below the limit
    module _ (g : Page) (mapped : page_by config a.map p v ≡ Some g) (out : (k : ℕ) → a.page k ≡ Some g → ⊥) (below : filled (a.ring p).slots < a.limit p) where
      reuse : IsReuseCause config past a p
      reuse = inr (inl (record { own = ready.own; v = v; wanted = wanted; page = g; mapped = mapped; out = out; below_limit = below }))

      zeroed : (f : ℕ) (o : Option Page) → AreCaused config past p (reuse_first o f (what.Zero (page_address v) (pfn f) ∷ what.Done r unsaid ∷ []))
      zeroed f None = (named, (tt, tt))
      zeroed f (Some x) = (reuse, (named_then f x, (tt, tt)))

      abbrev first : ℕ → BlockId → What
      first f b = what.In (pfn f) b (role.Fault (proc p) (page_address v))

      module _ (room : (is_uncharged config a g && nat_eq (length a.charged) config.pagefile) ≡ false) where
        reads : (b : BlockId) → source_of config a g (a.map p v) ≡ Some b → is_busy_block past (Some b) ≡ false → (f : ℕ) (fs : List ℕ) → a.free ≡ f ∷ fs → (o : Option Page) → a.page f ≡ o → AreCaused config past p (reuse_first o f (first f b ∷ reads_made a.page fs (near_targets config a g b (range_with_len 1 (cluster_length (window config a g b) config.params.pfc (length a.free) - 1)))))
        reads b source still f fs free None holds = (named, read_empty config past p ready v g b f fs mapped out room below source still free holds)
        reads b source still f fs free (Some x) holds = (reuse, (named_then f x, read_reused config past p ready v g b f fs mapped out room below source still free x holds))

        framed : (o : Option BlockId) → source_of config a g (a.map p v) ≡ o → is_busy_block past o ≡ false → (frames : List ℕ) → a.free ≡ frames → Caused (frame_given config a p r g o frames)
        framed o source still [] free = tt
        framed None source still (f ∷ fs) free = zeroed f (a.page f)
        framed (Some b) source still (f ∷ fs) free = reads b source still f fs free (a.page f) refl

    module _ (g : Page) (mapped : page_by config a.map p v ≡ Some g) where
      held : filled (a.ring p).slots < a.limit p → (is_uncharged config a g && nat_eq (length a.charged) config.pagefile) ≡ false → (o : Option ℕ) → holder config a.page g ≡ o → Caused (held_given config past a p r g o)
      held below room (Some f) found = backed g f
      held below room None found =
          either (is_busy_block past (source_of config a g (a.map p v))) _ _ (λ busy. tt)
          (λ still. framed g mapped (held_by_none config past a g (run_kept config past ready.formed ready.run) found) below room (source_of config a g (a.map p v)) refl still a.free refl)

      roomed : Caused (room_given config past a p r g)
      roomed =
          either (is_uncharged config a g && nat_eq (length a.charged) config.pagefile) _ _ (λ charging. tt)
          (λ room. either (nat_le (a.limit p) (filled (a.ring p).slots)) _ _ (λ full. replaced (seen_at a p (victim_of (choose (a.ring p) (a.limit p)))))
          (λ below. held (let less = leb-false (a.limit p) (filled (a.ring p).slots) below in omega (arith, less)) room (holder config a.page g) refl))

      read : (f : ℕ) (o : Option Flight) → Caused (read_given config past a p r g f o)
      read f None = roomed
      read f (Some x) = either (nat_eq x.seat p) _ _ (λ own. roomed) (λ other. collided f x)

      faulted : (o : Option ℕ) → Caused (fault_given config past a p r g o)
      faulted None = roomed
      faulted (Some f) = read f (find (is_read_on f) (open_flights past))

    found : (o : Option Page) → page_by config a.map p v ≡ o → Caused (mapped_given config past a p r o)
    found None mapped = tt
    found (Some g) mapped = faulted g mapped (holder config a.page g)

  entered : flat_refusal config (flat_after config past) p r ≡ None → (o : Option Valid) → entry_of a.valid p v ≡ o → Caused (entry_given config past a p r o)
  entered none (Some e) valid = (tt, tt)
  entered none None invalid = found none invalid (page_by config a.map p v) refl

  refused : (o : Option Why) → flat_refusal config (flat_after config past) p r ≡ o → Caused (refused_given config past a p r o)
  refused (Some reason) is = (tt, tt)
  refused None is = entered is (entry_of a.valid p v) refl

  adjusted : (o : Option ProcSpec) → Caused (limit_given config a p o)
  adjusted None = tt
  adjusted (Some spec) = (tt, tt)

pub advance_caused : (config : Config) (past : List Entry) (p : ℕ) (r : Ref) → IsReady config past p → next_request config past p ≡ Some (request.Reference r) → AreCaused config past p (advance_gives config past (pager_after config past) p r).made
advance_caused config past p r ready next =
    either config past p r ready next (not (is_resident ((pager_after config past).status p))) _ _ (λ gone. tt)
    (λ there. either config past p r ready next (is_pending config ((pager_after config past).references p)) _ _ (λ pending. adjusted config past p r ready next (slice_get config.procs p))
    (λ calm. refused config past p r ready next (flat_refusal config (flat_after config past) p r) refl))
