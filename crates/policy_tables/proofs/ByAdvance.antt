-- What is made for a reference is the table's first row that holds.
use Rattle.std.proofs.Common.{◌≡◌, ◌⊎◌, inl, inr, ℕ, ◌≤◌, Bool, true, false, cond, not, List, [], ◌∷◌, Option, Some, None, length, find, nat_eq, nat_le, slice_get, slice_index_or, ◌<◌, refl, sym, ap, ◌∙◌, subst, arith}
use Rattle.std.proofs.lemmas.Option.{none-some, slice_get_cases}
use Rattle.vm_types.specs.Adjust.{adjust}
use Rattle.vm_types.specs.Ring.{filled}
use Rattle.vm_types.specs.Status.{is_resident}
use Rattle.vm_types.specs.declared.config.Config.{Config}
use Rattle.vm_types.specs.declared.config.ProcSpec.{ProcSpec}
use Rattle.vm_types.specs.declared.names.BlockId.{BlockId}
use Rattle.vm_types.specs.declared.names.Page.{Page}
use Rattle.vm_types.specs.declared.reference.Ref.{Ref}
use Rattle.vm_types.specs.declared.reply.Reply.{Reply}
use Rattle.vm_types.specs.declared.reply.Why.{Why}
use Rattle.vm_types.specs.declared.reply.Why.TheVariants as why
use Rattle.vm_journal.specs.declared.entry.Entry.{Entry}
use Rattle.vm_journal.specs.declared.entry.EvictWhy.TheVariants as evict
use Rattle.vm_journal.specs.declared.entry.What.{What}
use Rattle.vm_journal.specs.declared.entry.What.TheVariants as what
use Rattle.pager_model.specs.Flat.{FlatState, flat_refusal, refusal_at}
use Rattle.pager_model.specs.Flights.{Flight, open_flights}
use Rattle.pager_model.specs.Forget.{holder}
use Rattle.pager_model.specs.Lookups.{entry_of, is_pending, page_at, page_by}
use Rattle.pager_model.specs.Maps.{Map, Mapped, page_behind, page_number, pfn, proc}
use Rattle.pager_model.specs.Pager.{Pager, Valid}
use Rattle.pager_model.specs.Spoken.{flat_after}
use Rattle.pager_model.specs.Transfers.{is_read_on}
use Rattle.pager_policy.specs.Advance.{GivenNext, advance_gives, again_block_busy, again_charging, again_collided, again_modified_full, again_no_frame, again_not_resident, cluster_targets, collide_given, entry_given, fault_given, frame_given, gives_again, held_given, is_busy_block, is_named, limit_given, mapped_given, next_again, next_answered, next_carry, next_more, read_given, refused_given, replace_given, replace_seen, room_given, source_of}
use Rattle.pager_policy.specs.Given.{Seen, eviction, given, is_stopped, page_address, reads_made, reuse_first}
use Rattle.policy_tables.specs.AdvanceCases.{advance_cases}
use Rattle.policy_tables.specs.Rows.{first_case, first_of_list, if_there, is_none_left, only_if, rows_on, that_is, when}
use Rattle.policy_tables.specs.Words.{OpenRead, foreign_read, is_at_limit, is_page_file_charged, may_go, open_read, pending_limit, shown, victim}
use Rattle.policy_tables.proofs.Shown.{reads_shown, reuse_shown}

-- what the flat machine doesn't refuse is mapped there
flat_mapped : (config : Config) (flat : FlatState) (p : ℕ) (r : Ref) (o : Option Mapped) → refusal_at config flat p r o ≡ None → (m : Mapped) × (o ≡ Some m)
flat_mapped config flat p r None none = absurd (none-some why.Unmapped (sym none))
flat_mapped config flat p r (Some m) none = (m, refl)

module _ (config : Config) (past : List Entry) (a : Pager) (p : ℕ) (r : Ref) (reply : Reply) where
  abbrev v : ℕ
  v = page_number (r.addr).0

  abbrev from : Page → Option BlockId
  from g = source_of config a g (a.map p v)

  -- the first of these rows says this
  abbrev Says : List (Option GivenNext) → GivenNext → Type 0
  Says rows g = first_case rows ≡ Some (shown reply g)

  abbrev frame_rows : Page → Option BlockId → List ℕ → List (Option GivenNext)
  frame_rows g o free =
      when (is_none_left free) (given [] (next_again again_no_frame))
      ∷ if_there o (λ (b : BlockId). given (reads_made a.page free (cluster_targets config a p r g b)) next_carry)
      ∷ if_there (first_of_list free) (λ (f : ℕ). given (reuse_first (a.page f) f (what.Zero (page_address v) (pfn f) ∷ what.Done r reply ∷ [])) next_answered)
      ∷ []

  frames : (g : Page) (o : Option BlockId) (free : List ℕ) → Says (frame_rows g o free) (frame_given config a p r g o free)
  frames g o [] = refl
  frames g None (f ∷ free) = ap (λ (ws : List What). Some (given ws next_answered)) (sym (reuse_shown reply (a.page f) f _ _ refl))
  frames g (Some b) (f ∷ free) = ap (λ (ws : List What). Some (given ws next_carry)) (sym (reads_shown reply a.page (f ∷ free) (cluster_targets config a p r g b)))

  abbrev out_rows : Page → Bool → List (Option GivenNext)
  out_rows g busy = when busy (given [] (next_again again_block_busy)) ∷ frame_rows g (from g) a.free

  outs : (g : Page) (busy : Bool) → Says (out_rows g busy) (cond busy (gives_again again_block_busy) (frame_given config a p r g (from g) a.free))
  outs g true = refl
  outs g false = frames g (from g) a.free

  abbrev held_rows : Page → Option ℕ → List (Option GivenNext)
  held_rows g o =
      if_there o (λ (f : ℕ). given (what.Back (proc p) (page_address v) (pfn f) (a.state f) ∷ what.Done r reply ∷ []) next_answered)
      ∷ out_rows g (is_busy_block past (from g))

  helds : (g : Page) (o : Option ℕ) → Says (held_rows g o) (held_given config past a p r g o)
  helds g (Some f) = refl
  helds g None = outs g (is_busy_block past (from g))

  -- ---- at the limit
  abbrev limit_rows : Page → Bool → List (Option GivenNext)
  limit_rows g full =
      if_there (only_if full (that_is (may_go config past a) (victim a p))) (λ (s : Seen). given (eviction past a p s.vpn s.frame evict.Replace ∷ []) next_more)
      ∷ when full (given [] (next_again again_modified_full))
      ∷ held_rows g (holder config a.page g)

  replaced : (g : Page) (s : Seen) (stopped : Bool)
      → Says (if_there (only_if (not stopped) (Some s)) (λ (s : Seen). given (eviction past a p s.vpn s.frame evict.Replace ∷ []) next_more) ∷ Some (given [] (next_again again_modified_full)) ∷ held_rows g (holder config a.page g))
      (cond stopped (gives_again again_modified_full) (given (eviction past a p s.vpn s.frame evict.Replace ∷ []) next_more))
  replaced g s true = refl
  replaced g s false = refl

  victims : (g : Page) (o : Option Seen)
      → Says (if_there (that_is (may_go config past a) o) (λ (s : Seen). given (eviction past a p s.vpn s.frame evict.Replace ∷ []) next_more) ∷ Some (given [] (next_again again_modified_full)) ∷ held_rows g (holder config a.page g))
      (replace_seen config past a p o)
  victims g None = refl
  victims g (Some s) = replaced g s (is_stopped config past a s.frame)

  at_limit : (g : Page) (full : Bool) → Says (limit_rows g full) (cond full (replace_given config past a p) (held_given config past a p r g (holder config a.page g)))
  at_limit g true = victims g (victim a p)
  at_limit g false = helds g (holder config a.page g)

  abbrev room_rows : Page → Bool → List (Option GivenNext)
  room_rows g charging = when charging (given [] (next_again again_charging)) ∷ limit_rows g (is_at_limit a p)

  rooms_by : (g : Page) (charging : Bool)
      → Says (room_rows g charging) (cond charging (gives_again again_charging) (cond (nat_le (a.limit p) (filled (a.ring p).slots)) (replace_given config past a p) (held_given config past a p r g (holder config a.page g))))
  rooms_by g true = refl
  rooms_by g false = at_limit g (is_at_limit a p)

  abbrev rest : Page → List (Option GivenNext)
  rest g = room_rows g (is_page_file_charged config a g)

  rooms : (g : Page) → Says (rest g) (room_given config past a p r g)
  rooms g = rooms_by g (is_page_file_charged config a g)

  -- ---- another seat's read
  abbrev collide_rows : Page → Option OpenRead → List (Option GivenNext)
  collide_rows g o =
      if_there (that_is (λ (met : OpenRead). not (is_named (a.collided p) (met.flight).start)) o) (λ (met : OpenRead). given (what.Collide (page_address v) (pfn met.frame) (met.flight).start ∷ []) next_more)
      ∷ if_there o (λ (met : OpenRead). given [] (next_again again_collided))
      ∷ rest g

  collided : (g : Page) (x : OpenRead) (named : Bool)
      → Says (if_there (only_if (not named) (Some x)) (λ (met : OpenRead). given (what.Collide (page_address v) (pfn met.frame) (met.flight).start ∷ []) next_more) ∷ if_there (Some x) (λ (met : OpenRead). given [] (next_again again_collided)) ∷ rest g)
      (cond named (gives_again again_collided) (given (what.Collide (page_address v) (pfn x.frame) (x.flight).start ∷ []) next_more))
  collided g x true = refl
  collided g x false = refl

  foreign : (g : Page) (x : OpenRead) (own : Bool) → Says (collide_rows g (only_if (not own) (Some x))) (cond own (room_given config past a p r g) (collide_given a p r x.frame x.flight))
  foreign g x true = rooms g
  foreign g x false = collided g x (is_named (a.collided p) (x.flight).start)

  reads : (g : Page) (f : ℕ) (o : Option Flight) → Says (collide_rows g (that_is (λ (met : OpenRead). not (nat_eq (met.flight).seat p)) (open_read f o))) (read_given config past a p r g f o)
  reads g f None = rooms g
  reads g f (Some x) = foreign g (record { frame = f; flight = x }) (nat_eq x.seat p)

  faults : (g : Page) (o : Option ℕ) → Says (collide_rows g (foreign_read past p o)) (fault_given config past a p r g o)
  faults g None = rooms g
  faults g (Some f) = reads g f (find (is_read_on f) (open_flights past))

  -- ---- before a fault
  module _ (process : p < length config.procs) (same : a.map ≡ (flat_after config past).map) where
    mapped : flat_refusal config (flat_after config past) p r ≡ None → (g : Page) × (page_by config a.map p v ≡ Some g)
    mapped none =
        let there = flat_mapped config (flat_after config past) p r ((flat_after config past).map p v) none in
        (page_behind config p v (there.0).origin, ap (page_at config p v) (ap (λ (m : Map). m p v) same ∙ there.1))

    -- whose page has these rows
    module _ (rows : Page → List (Option GivenNext)) (faulted : (g : Page) → Says (rows g) (fault_given config past a p r g (holder config a.page g))) where
      entries : flat_refusal config (flat_after config past) p r ≡ None → (o : Option Valid)
          → Says (if_there o (λ (e : Valid). given (what.Done r reply ∷ []) next_answered) ∷ rows_on (page_by config a.map p v) rows) (entry_given config past a p r o)
      entries none (Some e) = refl
      entries none None =
          subst (λ (o : Option Page). Says (rows_on o rows) (mapped_given config past a p r o)) (sym (mapped none).1) (faulted (mapped none).0)

      refused : (o : Option Why) → flat_refusal config (flat_after config past) p r ≡ o
          → Says (if_there o (λ (why : Why). given (what.Denied r why ∷ []) next_answered) ∷ if_there (entry_of a.valid p v) (λ (e : Valid). given (what.Done r reply ∷ []) next_answered) ∷ rows_on (page_by config a.map p v) rows)
          (refused_given config past a p r o)
      refused (Some why) is = refl
      refused None is = entries is (entry_of a.valid p v)

      abbrev after_limit : List (Option GivenNext)
      after_limit =
          if_there (flat_refusal config (flat_after config past) p r) (λ (why : Why). given (what.Denied r why ∷ []) next_answered)
          ∷ if_there (entry_of a.valid p v) (λ (e : Valid). given (what.Done r reply ∷ []) next_answered)
          ∷ rows_on (page_by config a.map p v) rows

      limited : (o : Option ProcSpec) → slice_get config.procs p ≡ o
          → Says (if_there o (λ (spec : ProcSpec). given (what.Limit (adjust config.params spec (a.faults p) (a.limit p) (length a.free)) (a.faults p) ∷ []) next_more) ∷ after_limit) (limit_given config a p o)
      limited None is = absurd (inside (slice_get_cases config.procs p).1)
        where
          inside : ((spec : ProcSpec) × (p < length config.procs) × (slice_get config.procs p ≡ Some spec) × (slice_index_or config.procs p spec ≡ spec)) ⊎ ((length config.procs ≤ p) × (slice_get config.procs p ≡ None)) → ⊥
          inside (inl found) = none-some found.0 (sym is ∙ found.2)
          inside (inr outside) = omega (arith, process, outside.0)
      limited (Some spec) is = refl

      pending : (b : Bool)
          → Says (if_there (only_if b (slice_get config.procs p)) (λ (spec : ProcSpec). given (what.Limit (adjust config.params spec (a.faults p) (a.limit p) (length a.free)) (a.faults p) ∷ []) next_more) ∷ after_limit)
          (cond b (limit_given config a p (slice_get config.procs p)) (refused_given config past a p r (flat_refusal config (flat_after config past) p r)))
      pending true = limited (slice_get config.procs p) refl
      pending false = refused (flat_refusal config (flat_after config past) p r) refl

      firsts : (here : Bool)
          → Says (when (not here) (given [] (next_again again_not_resident)) ∷ if_there (pending_limit config a p) (λ (spec : ProcSpec). given (what.Limit (adjust config.params spec (a.faults p) (a.limit p) (length a.free)) (a.faults p) ∷ []) next_more) ∷ after_limit)
          (cond (not here) (gives_again again_not_resident) (cond (is_pending config (a.references p)) (limit_given config a p (slice_get config.procs p)) (refused_given config past a p r (flat_refusal config (flat_after config past) p r))))
      firsts false = refl
      firsts true = pending (is_pending config (a.references p))

    pub goes_by_cases : Says (advance_cases config past a p r reply) (advance_gives config past a p r)
    unfolding advance_cases
    goes_by_cases = firsts _ (λ g. faults g (holder config a.page g)) (is_resident (a.status p))
