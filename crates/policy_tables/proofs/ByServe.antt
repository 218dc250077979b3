-- What is made for a service is the table's first row that holds.
use Rattle.std.proofs.Common.{◌≡◌, ℕ, ◌+◌, ◌&&◌, Bool, true, false, cond, not, List, [], ◌∷◌, Option, Some, None, count_by, slice_get, nat_le, refl}
use Rattle.std.specs.Option.{option_map}
use Rattle.vm_types.specs.Ring.{Ring, fixed}
use Rattle.vm_types.specs.Status.{is_resident}
use Rattle.vm_types.specs.declared.config.Config.{Config}
use Rattle.vm_types.specs.declared.config.ProcSpec.{ProcSpec}
use Rattle.vm_types.specs.declared.names.Addr.{Addr}
use Rattle.vm_types.specs.declared.reply.Answer.{Answer}
use Rattle.vm_types.specs.declared.reply.Answer.TheVariants as answer
use Rattle.vm_types.specs.declared.service.Service.{Service}
use Rattle.vm_types.specs.declared.service.Service.TheVariants as service
use Rattle.vm_journal.specs.declared.entry.Entry.{Entry}
use Rattle.vm_journal.specs.declared.entry.EvictWhy.{EvictWhy}
use Rattle.vm_journal.specs.declared.entry.EvictWhy.TheVariants as evict
use Rattle.vm_journal.specs.declared.entry.What.{What}
use Rattle.pager_model.specs.Lookups.{entry_of, passes}
use Rattle.pager_model.specs.MappedRanges.{is_in_use, is_unmapped}
use Rattle.pager_model.specs.Pager.{Pager, Valid}
use Rattle.pager_model.specs.Ring.{range_locked, range_pinned}
use Rattle.pager_model.specs.Served.{is_locked_in, is_pinned_in, is_slot_in}
use Rattle.pager_policy.specs.Given.{eviction, given, is_stopped}
use Rattle.pager_policy.specs.Serve.{GivenServe, delete_given, evict_given, is_range_in_flight, limits_given, lock_given, loose_in, purge_given, serve_again, serve_gives, serve_in_flight, serve_modified_full, serve_more, serve_not_resident, served_with, service_gives, valid_in}
use Rattle.policy_tables.specs.Rows.{first_case, if_there, only_if, otherwise, that_is, when}
use Rattle.policy_tables.specs.ServeCases.{serve_cases}
use Rattle.policy_tables.specs.ServiceWords.{InWay, eviction_of}

module _ (config : Config) (past : List Entry) (a : Pager) (p : ℕ) where
  -- the first of these rows says this
  abbrev Says : List (Option GivenServe) → GivenServe → Type 0
  Says rows g = first_case rows ≡ Some g

  abbrev evict_rows : Option InWay → List (Option GivenServe) → List (Option GivenServe)
  evict_rows o rest =
      if_there (eviction_of config past a p o) (λ (w : What). given (w ∷ []) serve_more)
      ∷ if_there o (λ (g : InWay). given [] (serve_again serve_modified_full))
      ∷ rest

  -- ---- a page in the way
  module _ (rest : List (Option GivenServe)) (v : ℕ) (why : EvictWhy) where
    gone : (e : Valid) (stopped : Bool)
        → Says (if_there (if_there (only_if (not stopped) (Some e)) (λ (e : Valid). eviction past a p v e.frame why)) (λ (w : What). given (w ∷ []) serve_more) ∷ Some (given [] (serve_again serve_modified_full)) ∷ rest)
        (cond stopped (given [] (serve_again serve_modified_full)) (given (eviction past a p v e.frame why ∷ []) serve_more))
    gone e true = refl
    gone e false = refl

    evicted : (o : Option Valid)
        → Says (if_there (if_there (that_is (λ (e : Valid). not (is_stopped config past a e.frame)) o) (λ (e : Valid). eviction past a p v e.frame why)) (λ (w : What). given (w ∷ []) serve_more) ∷ Some (given [] (serve_again serve_modified_full)) ∷ rest)
        (evict_given config past a p v why o)
    evicted None = refl
    evicted (Some e) = gone e (is_stopped config past a e.frame)

  -- ---- each service, of a resident process
  abbrev last : Service → Answer → List (Option GivenServe)
  last s w = otherwise (served_with s w) ∷ []

  refused : (s : Service) (w done : Answer) (rest : List (Option GivenServe)) (b : Bool) → Says rest (served_with s done) → Says (if_there (when b w) (served_with s) ∷ rest) (served_with s (cond b w done))
  refused s w done rest true is = refl
  refused s w done rest false is = is

  flies : (s : Service) (rest : List (Option GivenServe)) (b : Bool) → Says rest (served_with s answer.Good)
      → Says (when b (given [] (serve_again serve_in_flight)) ∷ rest) (cond b (given [] (serve_again serve_in_flight)) (served_with s answer.Good))
  flies s rest true is = refl
  flies s rest false is = is

  deleted : (at : Addr) (pages : ℕ) (rest : List (Option GivenServe)) (o : Option ℕ) → Says rest (served_with (service.Delete at pages) answer.Good)
      → Says (evict_rows (option_map (λ (v : ℕ). record { vpn = v; why = evict.Delete }) o) (when (is_range_in_flight config past a p at.0 pages) (given [] (serve_again serve_in_flight)) ∷ rest))
      (delete_given config past a p at pages o)
  deleted at pages rest (Some v) is = evicted (when (is_range_in_flight config past a p at.0 pages) (given [] (serve_again serve_in_flight)) ∷ rest) v evict.Delete (entry_of a.valid p v)
  deleted at pages rest None is = flies (service.Delete at pages) rest (is_range_in_flight config past a p at.0 pages) is

  purged : (at : Addr) (pages : ℕ) (rest : List (Option GivenServe)) (o : Option ℕ) → Says rest (served_with (service.Purge at pages) answer.Good)
      → Says (evict_rows (option_map (λ (v : ℕ). record { vpn = v; why = evict.Purge }) o) rest) (purge_given config past a p at pages o)
  purged at pages rest (Some v) is = evicted rest v evict.Purge (entry_of a.valid p v)
  purged at pages rest None is = is

  within : (s : Service) (refusal done : Answer) (b : Bool) → Says (if_there (when (not b) refusal) (served_with s) ∷ last s done) (cond b (served_with s done) (served_with s refusal))
  within s refusal done true = refl
  within s refusal done false = refl

  locked : (s : Service) (address pages : ℕ) (ring : Ring) (o : Option ProcSpec)
      → Says (if_there (when (not (passes (λ (spec : ProcSpec). nat_le (fixed ring.slots) spec.locks) o)) answer.LockLimit) (served_with s) ∷ last s (answer.Count (count_by (is_slot_in address pages) (a.ring p).slots)))
      (lock_given a p s address pages ring o)
  locked s address pages ring None = refl
  locked s address pages ring (Some spec) = within s answer.LockLimit (answer.Count (count_by (is_slot_in address pages) (a.ring p).slots)) (nat_le (fixed ring.slots) spec.locks)

  limited : (n : ℕ) (o : Option ProcSpec)
      → Says (if_there (when (not (passes (λ (spec : ProcSpec). nat_le (spec.locks + 2) n && nat_le n spec.extent) o)) answer.BadLimit) (served_with (service.Adjust n)) ∷ last (service.Adjust n) answer.Good) (limits_given n o)
  limited n None = refl
  limited n (Some spec) = within (service.Adjust n) answer.BadLimit answer.Good (nat_le (spec.locks + 2) n && nat_le n spec.extent)

  unmapped : (s : Service) (rows : List (Option GivenServe)) (g : GivenServe) (b : Bool) → Says rows g → Says (if_there (when b answer.Unmapped) (served_with s) ∷ rows) (cond b (served_with s answer.Unmapped) g)
  unmapped s rows g true is = refl
  unmapped s rows g false is = is

  abbrev Serves : Service → Type 0
  Serves s = first_case (serve_cases config past a p s) ≡ Some (serve_gives config past a p s)

  resident : (s : Service) (rest : List (Option GivenServe)) (here : Bool) → Says rest (service_gives config past a p s) → Says (when (not here) (given [] (serve_again serve_not_resident)) ∷ rest) (cond here (service_gives config past a p s) (given [] (serve_again serve_not_resident)))
  resident s rest true is = is
  resident s rest false is = refl

  pub goes_by_cases : (s : Service) → Serves s
  unfolding serve_cases
  goes_by_cases (service.Create at pages prot) = resident (service.Create at pages prot) _ (is_resident (a.status p)) (refused (service.Create at pages prot) answer.InUse answer.Good _ (is_in_use a p at.0 pages) refl)
  goes_by_cases (service.Delete at pages) = resident (service.Delete at pages) _ (is_resident (a.status p)) (unmapped (service.Delete at pages) _ _ (is_unmapped a p at.0 pages) (deleted at pages _ (valid_in a p at.0 pages) refl))
  goes_by_cases (service.Protect at pages prot) = resident (service.Protect at pages prot) _ (is_resident (a.status p)) (refused (service.Protect at pages prot) answer.Unmapped answer.Good _ (is_unmapped a p at.0 pages) refl)
  goes_by_cases (service.Lock at pages) = resident (service.Lock at pages) _ (is_resident (a.status p)) (unmapped (service.Lock at pages) _ _ (is_unmapped a p at.0 pages) (locked (service.Lock at pages) at.0 pages (range_locked true at.0 pages (a.ring p)) (slice_get config.procs p)))
  goes_by_cases (service.Unlock at pages) = resident (service.Unlock at pages) _ (is_resident (a.status p)) (refused (service.Unlock at pages) answer.Unmapped (answer.Count (count_by (is_locked_in at.0 pages) (a.ring p).slots)) _ (is_unmapped a p at.0 pages) refl)
  goes_by_cases (service.Purge at pages) = resident (service.Purge at pages) _ (is_resident (a.status p)) (purged at pages _ (loose_in a p at.0 pages) refl)
  goes_by_cases (service.Pin at pages) = resident (service.Pin at pages) _ (is_resident (a.status p)) (unmapped (service.Pin at pages) _ _ (is_unmapped a p at.0 pages) (locked (service.Pin at pages) at.0 pages (range_pinned true at.0 pages (a.ring p)) (slice_get config.procs p)))
  goes_by_cases (service.Unpin at pages) = resident (service.Unpin at pages) _ (is_resident (a.status p)) (refused (service.Unpin at pages) answer.Unmapped (answer.Count (count_by (is_pinned_in at.0 pages) (a.ring p).slots)) _ (is_unmapped a p at.0 pages) refl)
  goes_by_cases (service.Adjust n) = resident (service.Adjust n) _ (is_resident (a.status p)) (limited n (slice_get config.procs p))
