-- A service's next step: an eviction, a cluster that makes room for it, or its answer.
use Rattle.vm_types.specs.Ring.{Ring, fixed}
use Rattle.std.proofs.Common.{◌≡◌, ℕ, ◌+◌, ◌<◌, ◌&&◌, Bool, true, false, cond, List, [], ◌∷◌, Option, Some, None, length, slice_get, nat_le, is_some, refl, ap, arith}
use Rattle.vm_types.specs.declared.names.Addr.{Addr}
use Rattle.vm_types.specs.declared.config.Config.{Config}
use Rattle.vm_types.specs.declared.config.ProcSpec.{ProcSpec}
use Rattle.vm_types.specs.declared.config.Task.{Task}
use Rattle.vm_types.specs.declared.reply.Answer.{Answer}
use Rattle.vm_types.specs.declared.reply.Answer.TheVariants as answer
use Rattle.vm_types.specs.declared.service.Request.TheVariants as request
use Rattle.vm_types.specs.declared.service.Service.{Service}
use Rattle.vm_types.specs.declared.service.Service.TheVariants as service
use Rattle.vm_journal.specs.declared.entry.Entry.{Entry}
use Rattle.vm_journal.specs.declared.entry.EvictWhy.{EvictWhy}
use Rattle.vm_journal.specs.declared.entry.EvictWhy.TheVariants as evict
use Rattle.vm_journal.specs.declared.entry.What.TheVariants as what
use Rattle.pager_policy.specs.Given.{by_seat, eviction, given, is_stopped}
use Rattle.pager_model.specs.Lookups.{entry_of}
use Rattle.vm_types.specs.Status.{is_resident}
use Rattle.pager_policy.specs.Moves.{Control, asking, control, saving}
use Rattle.pager_model.specs.Pager.{Pager, Valid}
use Rattle.pager_policy.specs.Policy.{ends_request, next_task, serve_move_by}
use Rattle.pager_model.specs.Ring.{range_locked, range_pinned}
use Rattle.pager_model.specs.Run.{pager_after}
use Rattle.pager_policy.specs.Serve.{GivenServe, delete_given, evict_given, is_range_in_flight, limits_given, lock_given, loose_in, purge_given, serve_again, serve_gives, serve_in_flight, serve_modified_full, serve_more, serve_not_resident, served_with, service_gives, valid_in}
use Rattle.pager_model.specs.MappedRanges.{is_unmapped}
use Rattle.pager_model.specs.Spoken.{request_of}
use Rattle.pager_rules.proofs.Basics.{count_cons_yes}
use Rattle.serial_laws.specs.Between.{IsBetween}
use Rattle.policy_ends.specs.Rank.{is_met}
use Rattle.policy_ends.proofs.LeavesLower.{eviction_lowers, rests_lower, writing_lowers}
use Rattle.policy_ends.proofs.Places.{LowersBy, MoveLowers, answer_lowers, makes_lowers, request_lowers}

module _ (config : Config) (past : List Entry) (between : IsBetween config past) (c : Control) (doing : c.doing ≡ asking) (task : Task) (process : (task.proc).0 < length config.procs)
    (next : next_task config past ≡ Some task) (s : Service) (own : task.request ≡ request.Service s) where
  abbrev a : Pager
  a = pager_after config past

  abbrev p : ℕ
  p = (task.proc).0

  work : LowersBy config past c p ends_request asking
  work = request_lowers config past c task doing next (ap (is_met (pager_after config past) (task.proc).0) own)

  abbrev Serves : GivenServe → Type 0
  Serves g = MoveLowers config past c (serve_move_by config a p g.made g.answer)

  either : (b : Bool) (x y : GivenServe) → Serves x → Serves y → Serves (cond b x y)
  either true x y first second = first
  either false x y first second = second

  answered : (t : Service) (w : Answer) → Serves (served_with t w)
  answered t w =
      makes_lowers config past c p (what.Served t w ∷ []) (control (saving false p))
      (λ reply run. answer_lowers config past c task (by_seat p (what.Served t w) ∷ past) (control (saving false p)) next (let one = count_cons_yes (λ (e : Entry). is_some (request_of e.what)) (by_seat p (what.Served t w)) past refl in
      omega (arith, one)))

  evicted : (v : ℕ) (why : EvictWhy) (o : Option Valid) → Serves (evict_given config past a p v why o)
  evicted v why None = writing_lowers config past between c p p ends_request asking work (control asking) refl
  evicted v why (Some e) =
      either (is_stopped config past a e.frame) (given [] (serve_again serve_modified_full)) (given (eviction past a p v e.frame why ∷ []) serve_more)
      (writing_lowers config past between c p p ends_request asking work (control asking) refl)
      (eviction_lowers config past between c p p ends_request asking work p v e.frame why (control asking) process refl)

  deleted : (at : Addr) (pages : ℕ) (o : Option ℕ) → Serves (delete_given config past a p at pages o)
  deleted at pages (Some v) = evicted v evict.Delete (entry_of a.valid p v)
  deleted at pages None =
      either (is_range_in_flight config past a p at.0 pages) (given [] (serve_again serve_in_flight)) (served_with (service.Delete at pages) answer.Good) (rests_lower config past c)
      (answered (service.Delete at pages) answer.Good)

  purged : (at : Addr) (pages : ℕ) (o : Option ℕ) → Serves (purge_given config past a p at pages o)
  purged at pages (Some v) = evicted v evict.Purge (entry_of a.valid p v)
  purged at pages None = answered (service.Purge at pages) answer.Good

  fixed_in : (t : Service) (address pages : ℕ) (ring : Ring) (o : Option ProcSpec) → Serves (lock_given a p t address pages ring o)
  fixed_in t address pages ring None = answered t answer.LockLimit
  fixed_in t address pages ring (Some spec) =
      either (nat_le (fixed ring.slots) spec.locks) (served_with t (answer.Count _)) (served_with t answer.LockLimit) (answered t (answer.Count _))
      (answered t answer.LockLimit)

  limited : (n : ℕ) (o : Option ProcSpec) → Serves (limits_given n o)
  limited n None = answered (service.Adjust n) answer.BadLimit
  limited n (Some spec) =
      either (nat_le (spec.locks + 2) n && nat_le n spec.extent) (served_with (service.Adjust n) answer.Good) (served_with (service.Adjust n) answer.BadLimit) (answered (service.Adjust n) answer.Good)
      (answered (service.Adjust n) answer.BadLimit)

  served : (t : Service) → Serves (service_gives config past a p t)
  served (service.Create at pages prot) = answered (service.Create at pages prot) _
  served (service.Delete at pages) =
      either (is_unmapped a p at.0 pages) (served_with (service.Delete at pages) answer.Unmapped) (delete_given config past a p at pages (valid_in a p at.0 pages))
      (answered (service.Delete at pages) answer.Unmapped) (deleted at pages (valid_in a p at.0 pages))
  served (service.Protect at pages prot) = answered (service.Protect at pages prot) _
  served (service.Lock at pages) =
      either (is_unmapped a p at.0 pages) (served_with (service.Lock at pages) answer.Unmapped) (lock_given a p (service.Lock at pages) at.0 pages (range_locked true at.0 pages (a.ring p)) (slice_get config.procs p))
      (answered (service.Lock at pages) answer.Unmapped)
      (fixed_in (service.Lock at pages) at.0 pages (range_locked true at.0 pages (a.ring p)) (slice_get config.procs p))
  served (service.Unlock at pages) = answered (service.Unlock at pages) _
  served (service.Purge at pages) = purged at pages (loose_in a p at.0 pages)
  served (service.Pin at pages) =
      either (is_unmapped a p at.0 pages) (served_with (service.Pin at pages) answer.Unmapped) (lock_given a p (service.Pin at pages) at.0 pages (range_pinned true at.0 pages (a.ring p)) (slice_get config.procs p))
      (answered (service.Pin at pages) answer.Unmapped)
      (fixed_in (service.Pin at pages) at.0 pages (range_pinned true at.0 pages (a.ring p)) (slice_get config.procs p))
  served (service.Unpin at pages) = answered (service.Unpin at pages) _
  served (service.Adjust n) = limited n (slice_get config.procs p)

  pub serve_lowers : Serves (serve_gives config past a p s)
  serve_lowers = either (is_resident (a.status p)) (service_gives config past a p s) (given [] (serve_again serve_not_resident)) (served s) (rests_lower config past c)
