-- What is made for a service has its cause.
use Rattle.std.proofs.Common.{◌≡◌, ℕ, ◌+◌, ◌&&◌, ◌||◌, Bool, true, false, cond, not, List, [], ◌∷◌, Option, Some, None, find, nat_eq, nat_le, slice_get, refl, sym, ap, ◌∙◌}
use Rattle.std.specs.List.{list_any}
use Rattle.std.specs.Option.{is_some}
use Rattle.std.proofs.lemmas.Bool.{false≢true}
use Rattle.vm_types.specs.Ring.{Ring, fixed}
use Rattle.vm_types.specs.Status.{is_resident}
use Rattle.vm_types.specs.declared.names.Addr.{Addr}
use Rattle.vm_types.specs.declared.names.Page.{Page}
use Rattle.vm_types.specs.declared.config.Config.{Config}
use Rattle.vm_types.specs.declared.config.ProcSpec.{ProcSpec}
use Rattle.vm_types.specs.declared.service.Request.TheVariants as request
use Rattle.vm_types.specs.declared.service.Service.{Service}
use Rattle.vm_types.specs.declared.service.Service.TheVariants as service
use Rattle.vm_journal.specs.declared.entry.Entry.{Entry}
use Rattle.vm_journal.specs.declared.entry.EvictWhy.{EvictWhy}
use Rattle.vm_journal.specs.declared.entry.EvictWhy.TheVariants as evict
use Rattle.pager_model.specs.FlatService.{in_range}
use Rattle.pager_model.specs.Forget.{range_of}
use Rattle.pager_model.specs.Lookups.{entry_of, page_at, page_by}
use Rattle.pager_model.specs.MappedRanges.{is_unmapped, is_unmapped_at}
use Rattle.pager_model.specs.Maps.{Mapped, page_behind, page_number}
use Rattle.pager_model.specs.Pager.{Pager, Valid}
use Rattle.pager_model.specs.Ring.{range_locked, range_pinned}
use Rattle.pager_model.specs.Run.{pager_after}
use Rattle.pager_model.specs.Served.{AreMapped}
use Rattle.pager_policy.specs.Given.{is_stopped, page_address}
use Rattle.pager_policy.specs.Serve.{GivenServe, delete_given, evict_given, is_fixed_at, is_range_in_flight, is_valid_at, limits_given, lock_given, loose_in, purge_given, serve_gives, service_gives, valid_in}
use Rattle.pager_rules.proofs.Basics.{nat_eq_refl}
use Rattle.pager_rules.proofs.Lists.{count_found}
use Rattle.pager_laws.proofs.DeleteKept.{inside_from, inside_to}
use Rattle.call_laws.proofs.FreeTurn.{same_number}
use Rattle.call_laws.proofs.ServeLegal.{unfound}
use Rattle.entry_causes.specs.EvictCause.{IsEvictCause}
use Rattle.entry_causes.specs.NextRequest.{next_request}
use Rattle.cause_laws.specs.AreCaused.{AreCaused}

-- a page of the range that was looked for is in the range
pub inside_found : (address pages : ℕ) (t : ℕ → Bool) (v : ℕ) → find t (range_of address pages) ≡ Some v → in_range address pages v ≡ true
inside_found address pages t v found = inside_from address pages v (count_found (λ (u : ℕ). nat_eq u v) t (range_of address pages) v found (nat_eq_refl v))

-- and as it is named by its address
pub inside_named : (address pages v : ℕ) → in_range address pages v ≡ true → in_range address pages (page_number (page_address v).0) ≡ true
inside_named address pages v inside = ap (in_range address pages) (same_number v) ∙ inside

-- where none passes none is found
none_found : (t : ℕ → Bool) (xs : List ℕ) → list_any t xs ≡ false → find t xs ≡ None
none_found t [] none = refl
none_found t (x ∷ xs) none = by (t x) refl (λ rest. none_found t xs rest)
  where
    by : (b : Bool) → t x ≡ b → (list_any t xs ≡ false → find t xs ≡ None) → find t (x ∷ xs) ≡ None
    by true is rest = absurd (false≢true (sym none ∙ ap (λ (b : Bool). b || list_any t xs) is))
    by false is rest = ap (λ (b : Bool). cond b (Some x) (find t xs)) is ∙ rest (sym (ap (λ (b : Bool). b || list_any t xs) is) ∙ none)

module _ (config : Config) (past : List Entry) (p : ℕ) where
  abbrev a : Pager
  a = pager_after config past

  either : (b : Bool) (x y : GivenServe) → (b ≡ true → AreCaused config past p x.made) → (b ≡ false → AreCaused config past p y.made) → AreCaused config past p (cond b x y).made
  either true x y first second = first refl
  either false x y first second = second refl

  evicted : (v : ℕ) (why : EvictWhy) → IsEvictCause why config past a p (page_address v).0 → (o : Option Valid) → AreCaused config past p (evict_given config past a p v why o).made
  evicted v why cause None = tt
  evicted v why cause (Some e) = either (is_stopped config past a e.frame) _ _ (λ stopped. tt) (λ goes. (cause, tt))

  purged : (at : Addr) (pages : ℕ) → next_request config past p ≡ Some (request.Service (service.Purge at pages)) → (o : Option ℕ) → loose_in a p at.0 pages ≡ o → AreCaused config past p (purge_given config past a p at pages o).made
  purged at pages next None found = (tt, tt)
  purged at pages next (Some v) found =
      evicted v evict.Purge (record { at = at; pages = pages; next = next; inside = inside_named at.0 pages v (inside_found at.0 pages (λ (u : ℕ). is_valid_at a p u && not (is_fixed_at a p u)) v found) }) (entry_of a.valid p v)

  deleted : (at : Addr) (pages : ℕ) → next_request config past p ≡ Some (request.Service (service.Delete at pages)) → AreMapped config a p at.0 pages → (o : Option ℕ) → valid_in a p at.0 pages ≡ o → AreCaused config past p (delete_given config past a p at pages o).made
  deleted at pages next mapped None found = either (is_range_in_flight config past a p at.0 pages) _ _ (λ flies. tt) (λ still. (tt, tt))
  deleted at pages next mapped (Some v) found =
      evicted v evict.Delete (record { at = at; pages = pages; next = next; inside = inside_named at.0 pages v (inside_found at.0 pages (is_valid_at a p) v found); mapped = mapped }) (entry_of a.valid p v)

  locked : (s : Service) (address pages : ℕ) (ring : Ring) (o : Option ProcSpec) → AreCaused config past p (lock_given a p s address pages ring o).made
  locked s address pages ring None = (tt, tt)
  locked s address pages ring (Some spec) = either (nat_le (fixed ring.slots) spec.locks) _ _ (λ fits. (tt, tt)) (λ over. (tt, tt))

  limited : (n : ℕ) (o : Option ProcSpec) → AreCaused config past p (limits_given n o).made
  limited n None = (tt, tt)
  limited n (Some spec) = either (nat_le (spec.locks + 2) n && nat_le n spec.extent) _ _ (λ fits. (tt, tt)) (λ over. (tt, tt))

  -- where none of a range is unmapped, all of it is mapped
  pub all_mapped : (address pages : ℕ) → is_unmapped a p address pages ≡ false → AreMapped config a p address pages
  all_mapped address pages none v inside = there (a.map p v) refl
    where
      there : (o : Option Mapped) → a.map p v ≡ o → (g : Page) × (page_by config a.map p v ≡ Some g)
      there (Some m) is = (page_behind config p v m.origin, ap (page_at config p v) is)
      there None is = absurd (unfound (is_unmapped_at a p) (range_of address pages) v (none_found (is_unmapped_at a p) (range_of address pages) none) (inside_to address pages v inside) (ap (λ (o : Option Mapped). not (is_some o)) is))

  served : (s : Service) → next_request config past p ≡ Some (request.Service s) → AreCaused config past p (service_gives config past a p s).made
  served (service.Create at pages prot) next = (tt, tt)
  served (service.Delete at pages) next =
      either (is_unmapped a p at.0 pages) _ _ (λ refused. (tt, tt)) (λ none. deleted at pages next (all_mapped at.0 pages none) (valid_in a p at.0 pages) refl)
  served (service.Protect at pages prot) next = (tt, tt)
  served (service.Lock at pages) next = either (is_unmapped a p at.0 pages) _ _ (λ refused. (tt, tt)) (λ none. locked (service.Lock at pages) at.0 pages (range_locked true at.0 pages (a.ring p)) (slice_get config.procs p))
  served (service.Unlock at pages) next = (tt, tt)
  served (service.Purge at pages) next = purged at pages next (loose_in a p at.0 pages) refl
  served (service.Pin at pages) next = either (is_unmapped a p at.0 pages) _ _ (λ refused. (tt, tt)) (λ none. locked (service.Pin at pages) at.0 pages (range_pinned true at.0 pages (a.ring p)) (slice_get config.procs p))
  served (service.Unpin at pages) next = (tt, tt)
  served (service.Adjust n) next = limited n (slice_get config.procs p)

pub serve_caused : (config : Config) (past : List Entry) (p : ℕ) (s : Service) → next_request config past p ≡ Some (request.Service s) → AreCaused config past p (serve_gives config past (pager_after config past) p s).made
serve_caused config past p s next = either config past p (is_resident ((pager_after config past).status p)) _ _ (λ there. served config past p s next) (λ gone. tt)
