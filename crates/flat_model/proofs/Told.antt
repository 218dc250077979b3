-- The flat reply and the next state of a reference, by what is known of its page.
use Rattle.std.proofs.Common.{◌≡◌, ℕ, ◌<◌, ◌&&◌, not, Bool, true, false, cond, List, [], ◌∷◌, ◌++◌, Option, Some, None, length, count_by, nat_eq, refl, sym, ap, ◌∙◌, subst}
use Rattle.std.specs.Prelude.{slice_get, slice_set, slice_index_or}
use Rattle.std.specs.Option.{option_map}
use Rattle.std.specs.List.{position_or_len}
use Rattle.std.proofs.lemmas.Bool.{true≢false}
use Rattle.vm_types.specs.Access.{is_allowed}
use Rattle.vm_types.specs.declared.names.Page.{Page}
use Rattle.vm_types.specs.declared.names.Page.TheVariants.{Private, Shared}
use Rattle.vm_types.specs.declared.config.Config.{Config}
use Rattle.vm_types.specs.declared.config.Origin.{Origin}
use Rattle.vm_types.specs.declared.config.Origin.TheVariants as origin
use Rattle.vm_types.specs.declared.reference.Ref.{Ref}
use Rattle.vm_types.specs.declared.reply.Reply.{Reply}
use Rattle.vm_types.specs.declared.reply.Reply.TheVariants as reply
use Rattle.vm_types.specs.declared.reply.Why.{Why}
use Rattle.vm_types.specs.declared.reply.Why.TheVariants as why
use Rattle.pager_model.specs.Flat.{FlatState, flat_with, flat_reply, flat_next, flat_refusal, refusal_at, found_at, answered_at, next_unless, reply_unless, reply_from, bytes_after, offset_in_page, page_bytes, is_untouched, is_page_file_full, is_change, mapping_of, shared_bytes}
use Rattle.flat_model.specs.FlatMachine.{IsFlat, IsAllowedAt, stored_of, is_of, is_touch, bytes_or, is_paged_in}
use Rattle.pager_model.specs.Maps.{Mapped, page_behind, page_number, shared_of, first_bytes, is_paged}
use Rattle.flat_model.specs.declared.flat.Flat.{Flat}
use Rattle.flat_model.specs.declared.flat.Stored.{Stored}
use Rattle.flat_model.proofs.Entries.{flat_pushed, flat_written, entry_at, paged_same, untouched_some, untouched_none, touched_count}
use Rattle.vm_types.specs.PagePlaces.{item_at}
use Rattle.vm_types.specs.declared.config.Section.{Section}
use Rattle.pager_model.specs.Sets.{has_page}
use Rattle.flat_model.specs.Behind.{as_mapped}
use Rattle.flat_model.specs.declared.behind.Behind.{Behind}

-- ---- by the refusal
abbrev pub IsTold : Config → FlatState → Flat → ℕ → Ref → Reply → Type 0
IsTold config state new p r answer = (answer ≡ flat_reply config state p r) × IsFlat config (flat_next config state p r) new

told_refused : (config : Config) (state : FlatState) (new : Flat) (p : ℕ) (r : Ref) (reason : Why) → flat_refusal config state p r ≡ Some reason → IsFlat config state new → IsTold config state new p r (reply.Refused reason)
told_refused config state new p r reason refused h = (
  sym (ap (λ (o : Option Why). reply_unless o (reply_from r.op (found_at config state p r (mapping_of state p r)) (offset_in_page r))) refused),
  subst (λ (s : FlatState). IsFlat config s new) (sym (ap (λ (o : Option Why). next_unless o state (answered_at config state p r (mapping_of state p r))) refused)) h,
)

told_answered : (config : Config) (state : FlatState) (new : Flat) (p : ℕ) (r : Ref) (m : Mapped) (answer : Reply) → mapping_of state p r ≡ Some m → refusal_at config state p r (Some m) ≡ None
    → answer ≡ reply_from r.op (found_at config state p r (Some m)) (offset_in_page r) → IsFlat config (answered_at config state p r (Some m)) new → IsTold config state new p r answer
told_answered config state new p r m answer mapped unrefused same h = (
  same ∙ sym (ap (λ (o : Option Why). reply_unless o (reply_from r.op (found_at config state p r (mapping_of state p r)) (offset_in_page r))) none
      ∙ ap (λ (o : Option Mapped). reply_from r.op (found_at config state p r o) (offset_in_page r)) mapped),
  subst (λ (s : FlatState). IsFlat config s new)
      (sym (ap (λ (o : Option Why). next_unless o state (answered_at config state p r (mapping_of state p r))) none ∙ ap (answered_at config state p r) mapped)) h,
)
  where
    none : flat_refusal config state p r ≡ None
    none = ap (refusal_at config state p r) mapped ∙ unrefused

-- ---- without the right
-- the mapping of a page is that of the tables
pub mapping_from : (config : Config) (state : FlatState) (flat : Flat) (p : ℕ) (r : Ref) (o : Option Behind) → IsFlat config state flat → o ≡ item_at flat.tables.pages.items p (page_number (r.addr).0) → mapping_of state p r ≡ option_map as_mapped o
mapping_from config state flat p r o h found = h.map p (page_number (r.addr).0) ∙ ap (option_map as_mapped) (sym found)

pub allowed_at : (config : Config) (state : FlatState) (flat : Flat) (p : ℕ) (r : Ref) (behind : Behind) (page : Page) → IsFlat config state flat
    → Some behind ≡ item_at flat.tables.pages.items p (page_number (r.addr).0) → is_allowed behind.prot r.mode (is_change r.op) ≡ true
    → page ≡ page_behind config p (page_number (r.addr).0) behind.origin → IsAllowedAt config state p r behind.origin page
allowed_at config state flat p r behind page h found right on =
    record { prot = behind.prot; mapped = mapping_from config state flat p r (Some behind) h found; right = right; behind = sym on }

-- ---- with the right
module _ (config : Config) (state : FlatState) (new : Flat) (p : ℕ) (r : Ref) (origin : Origin) (page : Page) (at : IsAllowedAt config state p r origin page) where
  abbrev m : Mapped
  m = record { origin = origin; prot = at.prot }

  refusal : refusal_at config state p r (Some m) ≡ cond (is_page_file_full config state page) (Some why.PageFileFull) None
  refusal =
      ap (λ (b : Bool). cond (not b) (Some why.Protected) (cond (is_page_file_full config state (page_behind config p (page_number (r.addr).0) origin)) (Some why.PageFileFull) None)) at.right
      ∙ ap (λ (x : Page). cond (is_page_file_full config state x) (Some why.PageFileFull) None) at.behind

  pub told_full : is_page_file_full config state page ≡ true → IsFlat config state new → IsTold config state new p r (reply.Refused why.PageFileFull)
  told_full full h =
      told_refused config state new p r why.PageFileFull
      (ap (refusal_at config state p r) at.mapped ∙ (refusal ∙ ap (λ (b : Bool). cond b (Some why.PageFileFull) None) full)) h

  pub told_bytes : (bytes : List ℕ) (answer : Reply) → is_page_file_full config state page ≡ false → page_bytes config state page origin ≡ bytes
      → answer ≡ reply_from r.op bytes (offset_in_page r) → IsFlat config (flat_with config state page (bytes_after r.op bytes (offset_in_page r))) new → IsTold config state new p r answer
  told_bytes bytes answer room found same h =
      told_answered config state new p r m answer at.mapped (refusal ∙ ap (λ (b : Bool). cond b (Some why.PageFileFull) None) room)
      (same ∙ ap (λ (bs : List ℕ). reply_from r.op bs (offset_in_page r)) (sym there))
      (subst (λ (s : FlatState). IsFlat config s new)
      (ap (λ (bs : List ℕ). flat_with config state page (bytes_after r.op bs (offset_in_page r))) (sym there)
      ∙ ap (λ (x : Page). flat_with config state x (bytes_after r.op (found_at config state p r (Some m)) (offset_in_page r))) (sym at.behind)) h)
    where
      there : found_at config state p r (Some m) ≡ bytes
      there = ap (λ (x : Page). page_bytes config state x origin) at.behind ∙ found

-- ---- a page that has an entry
pub told_written : (config : Config) (state : FlatState) (old new : Flat) (p : ℕ) (r : Ref) (origin : Origin) (page : Page) (e d : Stored) (i : ℕ) (answer : Reply) → e.page ≡ page → IsAllowedAt config state p r origin page
    → IsFlat config state old → i < length old.stored.items → i ≡ position_or_len (is_of page) old.stored.items
    → answer ≡ reply_from r.op (slice_index_or old.stored.items i d).bytes (offset_in_page r) → e.bytes ≡ bytes_after r.op (slice_index_or old.stored.items i d).bytes (offset_in_page r)
    → new.tables ≡ old.tables → new.stored.items ≡ slice_set old.stored.items i e → IsTold config state new p r answer
told_written config state old new p r origin page e d i answer on at h within there same bytes tables items =
    told_bytes config state new p r origin e.page (subst (IsAllowedAt config state p r origin) (sym on) at) (slice_index_or old.stored.items i d).bytes answer
    (ap (λ (b : Bool). b && nat_eq (length state.touched) config.pagefile) touched)
    (ap (λ (b : Bool). cond b (first_bytes config origin) (state.stored e.page)) touched ∙ (h.stored e.page touched ∙ ap (bytes_or (shared_bytes config e.page)) entry))
    same
    (subst (λ (bs : List ℕ). IsFlat config (flat_with config state e.page bs) new) bytes (flat_written config state old new i e h tables within place items))
  where
    place : i ≡ position_or_len (is_of e.page) old.stored.items
    place = subst (λ (x : Page). i ≡ position_or_len (is_of x) old.stored.items) (sym on) there

    entry : stored_of old.stored.items e.page ≡ Some (slice_index_or old.stored.items i d)
    entry = entry_at old.stored.items i e.page d within place

    touched : is_untouched config state e.page ≡ false
    touched = untouched_some config state old e.page _ h entry

-- ---- a page that has none
-- what a shared page is given by the configuration is what its origin gives
behind_shared : (config : Config) (p v : ℕ) (origin : Origin) → is_paged config (page_behind config p v origin) ≡ false → shared_bytes config (page_behind config p v origin) ≡ first_bytes config origin
behind_shared config p v origin.Zero shared = absurd (true≢false shared)
behind_shared config p v (origin.Section s i) shared = go (shared_of (slice_get config.sections s.0)) shared
  where
    go : (b : Bool) → is_paged config (cond b (Shared s i) (Private (record { 0 = p }) v)) ≡ false → shared_bytes config (cond b (Shared s i) (Private (record { 0 = p }) v)) ≡ first_bytes config (origin.Section s i)
    go true e = rw e refl
    go false e = absurd (true≢false e)

pub full_from : (config : Config) (state : FlatState) (old : Flat) (page : Page) → IsFlat config state old → stored_of old.stored.items page ≡ None → is_page_file_full config state page ≡ (is_paged_in old.tables.sections page && nat_eq (count_by (is_touch old.tables.sections) old.stored.items) old.tables.pagefile)
full_from config state old page h absent =
    ap (λ (b : Bool). b && nat_eq (length state.touched) config.pagefile) (untouched_none config state old page h absent ∙ (paged_same config page ∙ ap (λ (sections : List Section). is_paged_in sections page) (sym h.tables.sections)))
    ∙ (ap (λ (n : ℕ). is_paged_in old.tables.sections page && nat_eq n config.pagefile) (touched_count config state old h)
    ∙ ap (λ (n : ℕ). is_paged_in old.tables.sections page && nat_eq (count_by (is_touch old.tables.sections) old.stored.items) n) (sym h.tables.pagefile))

first_found : (config : Config) (state : FlatState) (old : Flat) (p : ℕ) (r : Ref) (origin : Origin) (page : Page) → IsAllowedAt config state p r origin page → IsFlat config state old → stored_of old.stored.items page ≡ None → page_bytes config state page origin ≡ first_bytes config origin
first_found config state old p r origin page at h absent =
    ap (λ (b : Bool). cond b (first_bytes config origin) (state.stored page)) (untouched_none config state old page h absent) ∙ go (is_paged config page) refl
  where
    go : (b : Bool) → is_paged config page ≡ b → cond b (first_bytes config origin) (state.stored page) ≡ first_bytes config origin
    go true private = refl
    go false shared =
        h.stored page (ap (λ (b : Bool). b && not (has_page state.touched page)) shared) ∙ (ap (bytes_or (shared_bytes config page)) absent
        ∙ subst (λ (x : Page). is_paged config x ≡ false → shared_bytes config x ≡ first_bytes config origin) at.behind (behind_shared config p (page_number (r.addr).0) origin) shared)

pub told_pushed : (config : Config) (state : FlatState) (old new : Flat) (p : ℕ) (r : Ref) (origin : Origin) (e : Stored) (answer : Reply) → IsAllowedAt config state p r origin e.page
    → IsFlat config state old → stored_of old.stored.items e.page ≡ None → is_page_file_full config state e.page ≡ false
    → answer ≡ reply_from r.op (first_bytes config origin) (offset_in_page r) → e.bytes ≡ bytes_after r.op (first_bytes config origin) (offset_in_page r)
    → new.tables ≡ old.tables → new.stored.items ≡ old.stored.items ++ e ∷ [] → IsTold config state new p r answer
told_pushed config state old new p r origin e answer at h absent room same bytes tables items =
    told_bytes config state new p r origin e.page at (first_bytes config origin) answer room
    (first_found config state old p r origin e.page at h absent) same
    (subst (λ (bs : List ℕ). IsFlat config (flat_with config state e.page bs) new) bytes (flat_pushed config state old new e h tables absent items))
