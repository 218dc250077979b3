-- A service's next step: an eviction, a cluster that makes room for it, or its answer. It never rests there.
use Rattle.vm_types.specs.Ring.{Ring, fixed}
use Rattle.std.proofs.Common.{◌≡◌, ◌⊎◌, inl, inr, ℕ, ◌+◌, ◌<◌, ◌&&◌, Bool, true, false, cond, not, List, [], ◌∷◌, Option, Some, None, length, slice_get, nat_le, nat_lt, refl, sym, ap, ◌∙◌, subst, arith}
use Rattle.std.specs.List.{list_any}
use Rattle.std.proofs.lemmas.Bool.{and_parts, false≢true, ltb-true, or_cases, true≢false}
use Rattle.std.proofs.lemmas.Option.{none-some}
use Rattle.vm_types.specs.Same.{same_page}
use Rattle.vm_types.specs.declared.names.Addr.{Addr}
use Rattle.vm_types.specs.declared.names.Page.{Page}
use Rattle.vm_types.specs.declared.names.ProcStatus.TheVariants as status
use Rattle.vm_types.specs.declared.config.Config.{Config}
use Rattle.vm_types.specs.declared.config.ProcSpec.{ProcSpec}
use Rattle.vm_types.specs.declared.config.Task.{Task}
use Rattle.vm_types.specs.declared.reply.Answer.{Answer}
use Rattle.vm_types.specs.declared.reply.Answer.TheVariants as answer
use Rattle.vm_types.specs.declared.service.Request.{Request}
use Rattle.vm_types.specs.declared.service.Request.TheVariants as request
use Rattle.vm_types.specs.declared.service.Service.{Service}
use Rattle.vm_types.specs.declared.service.Service.TheVariants as service
use Rattle.vm_journal.specs.declared.entry.Entry.{Entry}
use Rattle.vm_journal.specs.declared.entry.EvictWhy.{EvictWhy}
use Rattle.vm_journal.specs.declared.entry.EvictWhy.TheVariants as evict
use Rattle.pager_model.specs.Changes.{without_page}
use Rattle.pager_model.specs.Flights.{open_flights}
use Rattle.pager_model.specs.Forget.{forget_all, forgotten, holder, own_pages, range_of}
use Rattle.pager_policy.specs.Given.{eviction, given, is_stopped}
use Rattle.pager_model.specs.Lookups.{passes, count_page, entries_at, entry_of, is_entry}
use Rattle.vm_types.specs.Status.{is_resident}
use Rattle.pager_policy.specs.Moves.{asking, control}
use Rattle.pager_model.specs.Pager.{Pager, Valid}
use Rattle.pager_policy.specs.Policy.{ends_request, next_task, serve_move_by}
use Rattle.pager_model.specs.Ring.{range_locked, range_pinned}
use Rattle.pager_model.specs.Run.{pager_after}
use Rattle.pager_policy.specs.Serve.{GivenServe, delete_given, evict_given, is_fixed_at, is_page_in_flight, is_range_in_flight, is_valid_at, limits_given, lock_given, loose_in, purge_given, serve_again, serve_gives, serve_in_flight, serve_modified_full, serve_more, serve_not_resident, served_with, service_gives, valid_in}
use Rattle.pager_model.specs.MappedRanges.{is_unmapped}
use Rattle.pager_model.specs.Served.{after_served, may_fail}
use Rattle.pager_model.specs.Transfers.{is_in_flight}
use Rattle.pager_rules.proofs.Basics.{pages_equal}
use Rattle.pager_rules.proofs.Lists.{found_one, found_passes}
use Rattle.pager_laws.proofs.ReuseKept.{uncharged_other, uncharged_own}
use Rattle.serial_laws.specs.Between.{IsBetween}
use Rattle.serial_laws.specs.Controlled.{AreTouched, IsUnmet}
use Rattle.serial_laws.proofs.Begins.{stopped_some, writing_known}
use Rattle.serial_laws.proofs.Known.{MoveIsKnown}
use Rattle.serial_laws.proofs.Leaves.{evict_known, evict_quiet}
use Rattle.serial_laws.proofs.Work.{IsWork, calm_quiet, request_work}

-- ---- after an answer each charged page is touched: a page that is forgotten is neither
forgotten_touched : (config : Config) (a : Pager) (g : Page) → AreTouched a → AreTouched (forgotten config a g)
forgotten_touched config a g old h some = by (same_page h g) refl
  where
    by : (b : Bool) → same_page h g ≡ b → 0 < count_page (without_page a.touched g) h
    by true is = absurd (let none = ap (λ (x : Page). count_page (without_page a.charged g) x) (pages_equal h g is) in omega (arith, some, none, uncharged_own a.charged g))
    by false is = let before = old h (omega (arith, some, uncharged_other a.charged g h is)) in omega (arith, before, uncharged_other a.touched g h is)

all_forgotten : (config : Config) (pages : List Page) (a : Pager) → AreTouched a → AreTouched (forget_all config pages a)
all_forgotten config [] a old = old
all_forgotten config (g ∷ pages) a old = all_forgotten config pages (forgotten config a g) (forgotten_touched config a g old)

pub served_touched : (config : Config) (a : Pager) (p : ℕ) (s : Service) (w : Answer) → AreTouched a → AreTouched (after_served config a p s w)
served_touched config a p (service.Delete at pages) answer.Good old = all_forgotten config (own_pages config a.map p (range_of at.0 pages)) a old
served_touched config a p (service.Create at pages prot) answer.Good old = old
served_touched config a p (service.Protect at pages prot) answer.Good old = old
served_touched config a p (service.Lock at pages) (answer.Count n) old = old
served_touched config a p (service.Unlock at pages) (answer.Count n) old = old
served_touched config a p (service.Pin at pages) (answer.Count n) old = old
served_touched config a p (service.Unpin at pages) (answer.Count n) old = old
served_touched config a p (service.Adjust n) answer.Good old = old
served_touched config a p s other old = old

module _ (config : Config) (past : List Entry) (between : IsBetween config past) (Rest : Type 0) (task : Task) (process : (task.proc).0 < length config.procs) (next : next_task config past ≡ Some task) (resident : (pager_after config past).status (task.proc).0 ≡ status.Resident) (touched : AreTouched (pager_after config past)) where
  abbrev a : Pager
  a = pager_after config past

  abbrev p : ℕ
  p = (task.proc).0

  abbrev Serves : GivenServe → Type 0
  Serves g = MoveIsKnown config past Rest (serve_move_by config a p g.made g.answer)

  either : (b : Bool) (x y : GivenServe) → (b ≡ true → Serves x) → (b ≡ false → Serves y) → Serves (cond b x y)
  either true x y first second = first refl
  either false x y first second = second refl

  answered : (s : Service) (w : Answer) → Serves (served_with s w)
  answered s w = record {
    known = record {
      some = omega arith;
      still = (refl, tt);
      turned = λ q t is. absurd (cc);
      controlled = λ reply. record { leaving = λ q is. absurd (none-some q is); answered_process = process; waiting = tt; touched = served_touched config a p s w touched };
    };
  }

  -- ---- an eviction of the service's range
  module _ (s : Service) (own : task.request ≡ request.Service s) (fails : may_fail s ≡ true) where
    work : IsWork config past p ends_request asking
    work = request_work config past task process next (inr (subst (λ (r : Request). IsUnmet config a p r) (sym own) fails)) touched

    evicted : (v : ℕ) (why : EvictWhy) → nat_lt 0 (entries_at a.valid p v) ≡ true → (o : Option Valid) → entry_of a.valid p v ≡ o → Serves (evict_given config past a p v why o)
    evicted v why valid None is = absurd (let found = found_one (is_entry p v) a.valid (ltb-true 0 (entries_at a.valid p v) valid) in none-some found.0 (sym is ∙ found.1))
    evicted v why valid (Some e) is =
        either (is_stopped config past a e.frame) (given [] (serve_again serve_modified_full)) (given (eviction past a p v e.frame why ∷ []) serve_more)
        (λ stopped. writing_known config past between Rest p ends_request (control asking) (stopped_some config past between e.frame stopped) (λ more quiet. work.done more (calm_quiet config past more quiet)) (λ more quiet. work.ended more (calm_quiet config past more quiet)))
        (λ free. evict_known config past Rest p p v e.frame why (control asking) (work.done _ (calm_quiet config past _ (evict_quiet config past p p v e.frame why))))

  -- without an open flight no range is in flight
  frame_still : (o : Option ℕ) → passes (λ (f : ℕ). is_in_flight f (open_flights past)) o ≡ false
  frame_still None = refl
  frame_still (Some f) = ap (is_in_flight f) between.landed

  none_in_flight : (pages : List Page) → list_any (is_page_in_flight config past a) pages ≡ true → ⊥
  none_in_flight [] is = false≢true is
  none_in_flight (g ∷ pages) is = by (or_cases (is_page_in_flight config past a g) (list_any (is_page_in_flight config past a) pages) is) (none_in_flight pages)
    where
      by : (is_page_in_flight config past a g ≡ true) ⊎ (list_any (is_page_in_flight config past a) pages ≡ true) → (list_any (is_page_in_flight config past a) pages ≡ true → ⊥) → ⊥
      by (inl flies) rest = false≢true (sym (frame_still (holder config a.page g)) ∙ flies)
      by (inr later) rest = rest later

  deleted : (at : Addr) (pages : ℕ) → task.request ≡ request.Service (service.Delete at pages) → (o : Option ℕ) → valid_in a p at.0 pages ≡ o → Serves (delete_given config past a p at pages o)
  deleted at pages own (Some v) found = evicted (service.Delete at pages) own refl v evict.Delete (found_passes (is_valid_at a p) (range_of at.0 pages) v found) (entry_of a.valid p v) refl
  deleted at pages own None found =
      either (is_range_in_flight config past a p at.0 pages) (given [] (serve_again serve_in_flight)) (served_with (service.Delete at pages) answer.Good)
      (λ flies. absurd (none_in_flight (own_pages config a.map p (range_of at.0 pages)) flies)) (λ still. answered (service.Delete at pages) answer.Good)

  purged : (at : Addr) (pages : ℕ) → task.request ≡ request.Service (service.Purge at pages) → (o : Option ℕ) → loose_in a p at.0 pages ≡ o → Serves (purge_given config past a p at pages o)
  purged at pages own (Some v) found =
      evicted (service.Purge at pages) own refl v evict.Purge (and_parts (is_valid_at a p v) (not (is_fixed_at a p v)) (found_passes (λ (u : ℕ). is_valid_at a p u && not (is_fixed_at a p u)) (range_of at.0 pages) v found)).0 (entry_of a.valid p v) refl
  purged at pages own None found = answered (service.Purge at pages) answer.Good

  lock_known : (s : Service) (address pages : ℕ) (ring : Ring) (o : Option ProcSpec) → Serves (lock_given a p s address pages ring o)
  lock_known s address pages ring None = answered s answer.LockLimit
  lock_known s address pages ring (Some spec) =
      either (nat_le (fixed ring.slots) spec.locks) (served_with s (answer.Count _)) (served_with s answer.LockLimit) (λ fits. answered s (answer.Count _)) (λ over. answered s answer.LockLimit)

  limits_known : (n : ℕ) (o : Option ProcSpec) → Serves (limits_given n o)
  limits_known n None = answered (service.Adjust n) answer.BadLimit
  limits_known n (Some spec) =
      either (nat_le (spec.locks + 2) n && nat_le n spec.extent) (served_with (service.Adjust n) answer.Good) (served_with (service.Adjust n) answer.BadLimit)
      (λ fits. answered (service.Adjust n) answer.Good) (λ over. answered (service.Adjust n) answer.BadLimit)

  service_known : (s : Service) → task.request ≡ request.Service s → Serves (service_gives config past a p s)
  service_known (service.Create at pages prot) own = answered (service.Create at pages prot) _
  service_known (service.Delete at pages) own =
      either (is_unmapped a p at.0 pages) (served_with (service.Delete at pages) answer.Unmapped) (delete_given config past a p at pages (valid_in a p at.0 pages))
      (λ unmapped. answered (service.Delete at pages) answer.Unmapped) (λ mapped. deleted at pages own (valid_in a p at.0 pages) refl)
  service_known (service.Protect at pages prot) own = answered (service.Protect at pages prot) _
  service_known (service.Lock at pages) own =
      either (is_unmapped a p at.0 pages) (served_with (service.Lock at pages) answer.Unmapped) (lock_given a p (service.Lock at pages) at.0 pages (range_locked true at.0 pages (a.ring p)) (slice_get config.procs p))
      (λ unmapped. answered (service.Lock at pages) answer.Unmapped) (λ mapped. lock_known (service.Lock at pages) at.0 pages (range_locked true at.0 pages (a.ring p)) (slice_get config.procs p))
  service_known (service.Unlock at pages) own = answered (service.Unlock at pages) _
  service_known (service.Purge at pages) own = purged at pages own (loose_in a p at.0 pages) refl
  service_known (service.Pin at pages) own =
      either (is_unmapped a p at.0 pages) (served_with (service.Pin at pages) answer.Unmapped) (lock_given a p (service.Pin at pages) at.0 pages (range_pinned true at.0 pages (a.ring p)) (slice_get config.procs p))
      (λ unmapped. answered (service.Pin at pages) answer.Unmapped) (λ mapped. lock_known (service.Pin at pages) at.0 pages (range_pinned true at.0 pages (a.ring p)) (slice_get config.procs p))
  service_known (service.Unpin at pages) own = answered (service.Unpin at pages) _
  service_known (service.Adjust n) own = limits_known n (slice_get config.procs p)

  pub serve_known : (s : Service) → task.request ≡ request.Service s → Serves (serve_gives config past a p s)
  serve_known s own =
      either (is_resident (a.status p)) (service_gives config past a p s) (given [] (serve_again serve_not_resident)) (λ here. service_known s own) (λ away. absurd (true≢false (sym (ap is_resident resident) ∙ away)))
