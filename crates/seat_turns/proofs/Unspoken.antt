-- Which of the entries that a call gives answer a request.
use Rattle.std.proofs.Common.{◌≡◌, ℕ, ◌+◌, Bool, true, false, cond, ◌&&◌, List, [], ◌∷◌, ◌++◌, Option, Some, None, map, nat_le, slice_get, refl, sym, ap, ◌∙◌, subst}
use Rattle.std.proofs.lemmas.Option.{same_Some}
use Rattle.vm_types.specs.Ring.{Ring, fixed}
use Rattle.vm_types.specs.declared.config.Config.{Config}
use Rattle.vm_types.specs.declared.config.ProcSpec.{ProcSpec}
use Rattle.vm_types.specs.declared.names.Addr.{Addr}
use Rattle.vm_types.specs.declared.reference.Ref.{Ref}
use Rattle.vm_types.specs.declared.reply.Answer.{Answer}
use Rattle.vm_types.specs.declared.reply.Answer.TheVariants as answer
use Rattle.vm_types.specs.declared.reply.Reply.{Reply}
use Rattle.vm_types.specs.declared.reply.Reply.TheVariants as replies
use Rattle.vm_types.specs.declared.service.Request.TheVariants.{Reference, Service as Asked_service}
use Rattle.vm_types.specs.declared.service.Service.{Service}
use Rattle.vm_types.specs.declared.service.Service.TheVariants as service
use Rattle.vm_journal.specs.Journal.{is_answer}
use Rattle.vm_journal.specs.declared.entry.Entry.{Entry}
use Rattle.vm_journal.specs.declared.entry.EvictWhy.{EvictWhy}
use Rattle.vm_journal.specs.declared.entry.EvictWhy.TheVariants as evict
use Rattle.vm_journal.specs.declared.entry.What.{What}
use Rattle.vm_journal.specs.declared.entry.What.TheVariants as what
use Rattle.pager_policy.specs.Given.{is_stopped, with_reply}
use Rattle.pager_model.specs.Lookups.{entry_of}
use Rattle.vm_types.specs.Status.{is_resident}
use Rattle.pager_model.specs.Pager.{Pager, Valid}
use Rattle.pager_model.specs.Ring.{range_locked, range_pinned}
use Rattle.pager_policy.specs.Serve.{GivenServe, ServeIs, delete_given, evict_given, is_range_in_flight, limits_given, lock_given, loose_in, purge_given, serve_again, serve_answered, serve_gives, serve_more, service_gives, valid_in}
use Rattle.pager_model.specs.MappedRanges.{is_unmapped}
use Rattle.fault_core.specs.Gives.{last_reply}
use Rattle.vm_services.specs.Serves.{last_answer}
use Rattle.carried_landings.proofs.Shapes.{AreQuiet, AreStarts, EndsIn, IsQuiet, IsStart}
use Rattle.seat_turns.specs.Steps.{AnswersRequest, AreUnspoken}
use Rattle.seat_turns.specs.declared.turned.Spoken.TheVariants as spoken

-- ---- entries that answer nothing
quiet_one : (w : What) → IsQuiet w → is_answer w ≡ false
quiet_one (what.Done r x) quiet = absurd quiet
quiet_one (what.Denied r why) quiet = absurd quiet
quiet_one (what.Served s given) quiet = absurd quiet
quiet_one other quiet = refl

pub quiet_unspoken : (ws : List What) → AreQuiet ws → AreUnspoken ws
quiet_unspoken [] quiet = tt
quiet_unspoken (w ∷ ws) quiet = (quiet_one w quiet.0, quiet_unspoken ws quiet.1)

quiet_shown : (shown : Reply) (w : What) → IsQuiet w → is_answer (with_reply shown w) ≡ false
quiet_shown shown (what.Done r x) quiet = absurd quiet
quiet_shown shown (what.Denied r why) quiet = absurd quiet
quiet_shown shown (what.Served s given) quiet = absurd quiet
quiet_shown shown other quiet = refl

pub quiet_all_shown : (shown : Reply) (ws : List What) → AreQuiet ws → AreUnspoken (map (with_reply shown) ws)
quiet_all_shown shown [] quiet = tt
quiet_all_shown shown (w ∷ ws) quiet = (quiet_shown shown w quiet.0, quiet_all_shown shown ws quiet.1)

start_one : (w : What) → IsStart w → is_answer w ≡ false
start_one (what.Done r x) start = absurd start
start_one (what.Denied r why) start = absurd start
start_one (what.Served s given) start = absurd start
start_one other start = refl

pub starts_unspoken : (ws : List What) → AreStarts ws → AreUnspoken ws
starts_unspoken [] starts = tt
starts_unspoken (w ∷ ws) starts = (start_one w starts.0, starts_unspoken ws starts.1)

pub none_unspoken : (ws : List What) → ws ≡ [] → AreUnspoken ws
none_unspoken ws none = subst AreUnspoken (sym none) tt

pub unspoken_then : (xs ys : List What) → AreUnspoken xs → AreUnspoken ys → AreUnspoken (xs ++ ys)
unspoken_then [] ys first second = second
unspoken_then (x ∷ xs) ys first second = (first.0, unspoken_then xs ys first.1 second)

-- ---- a reference's answer
one_before : (r : Ref) (reply shown : Reply) (w : What) (ys : List What) → IsQuiet w → AnswersRequest (Reference r) (spoken.Reply reply) ys → AnswersRequest (Reference r) (spoken.Reply reply) (with_reply shown w ∷ ys)
one_before r reply shown w ys quiet a = record {
  before = with_reply shown w ∷ a.before;
  last = a.last;
  made_is = ap (λ (vs : List What). with_reply shown w ∷ vs) a.made_is;
  unspoken = (quiet_shown shown w quiet, a.unspoken);
  answer = a.answer;
}

ends_more : (r : Ref) (w v : What) (ws : List What) → EndsIn r (w ∷ v ∷ ws) → IsQuiet w × EndsIn r (v ∷ ws)
ends_more r (what.Done q x) v ws ends = ends
ends_more r (what.Denied q why) v ws ends = ends
ends_more r other v ws ends = ends

pub reference_answers : (r : Ref) (reply shown : Reply) (ms : List What) → EndsIn r ms → last_reply (map (with_reply shown) ms) ≡ Some reply → AnswersRequest (Reference r) (spoken.Reply reply) (map (with_reply shown) ms)
reference_answers r reply shown [] ends is = absurd ends
reference_answers r reply shown (what.Done q x ∷ []) ends is = record { before = []; last = what.Done q shown; made_is = refl; unspoken = tt; answer = (ends, same_Some shown reply is) }
reference_answers r reply shown (what.Denied q why ∷ []) ends is = record { before = []; last = what.Denied q why; made_is = refl; unspoken = tt; answer = (ends, same_Some (replies.Refused why) reply is) }
reference_answers r reply shown (w ∷ []) ends is = absurd ends.1
reference_answers r reply shown (w ∷ v ∷ ws) ends is = one_before r reply shown w (map (with_reply shown) (v ∷ ws)) (ends_more r w v ws ends).0 (reference_answers r reply shown (v ∷ ws) (ends_more r w v ws ends).1 is)

-- ---- a service's answer is one entry, of this service
abbrev IsOwnAnswer : Service → ServeIs → List What → Type 0
IsOwnAnswer s serve_answered made = (w : Answer) × (made ≡ what.Served s w ∷ [])
IsOwnAnswer s other made = Unit {0}

record IsOwn (s : Service) (g : GivenServe) : Type 0 where
  own : IsOwnAnswer s g.answer g.made

either : (s : Service) (b : Bool) (x y : GivenServe) → IsOwn s x → IsOwn s y → IsOwn s (cond b x y)
either s true x y first second = first
either s false x y first second = second

served : (s : Service) (w : Answer) → IsOwn s (Rattle.pager_policy.specs.Serve.served_with s w)
served s w = record { own = (w, refl) }

module _ (config : Config) (past : List Entry) (a : Pager) (p : ℕ) where
  evict_own : (s : Service) (v : ℕ) (why : EvictWhy) (o : Option Valid) → IsOwn s (evict_given config past a p v why o)
  evict_own s v why None = record { own = tt }
  evict_own s v why (Some e) = either s (is_stopped config past a e.frame) _ _ (record { own = tt }) (record { own = tt })

  delete_own : (at : Addr) (pages : ℕ) (o : Option ℕ) → IsOwn (service.Delete at pages) (delete_given config past a p at pages o)
  delete_own at pages (Some v) = evict_own (service.Delete at pages) v evict.Delete (entry_of a.valid p v)
  delete_own at pages None = either (service.Delete at pages) (is_range_in_flight config past a p at.0 pages) _ _ (record { own = tt }) (served (service.Delete at pages) answer.Good)

  purge_own : (at : Addr) (pages : ℕ) (o : Option ℕ) → IsOwn (service.Purge at pages) (purge_given config past a p at pages o)
  purge_own at pages (Some v) = evict_own (service.Purge at pages) v evict.Purge (entry_of a.valid p v)
  purge_own at pages None = served (service.Purge at pages) answer.Good

  lock_own : (s : Service) (at : Addr) (pages : ℕ) (ring : Ring) (o : Option ProcSpec) → IsOwn s (lock_given a p s at.0 pages ring o)
  lock_own s at pages ring None = served s answer.LockLimit
  lock_own s at pages ring (Some spec) = either s (nat_le (fixed ring.slots) spec.locks) _ _ (served s _) (served s answer.LockLimit)

  limits_own : (n : ℕ) (o : Option ProcSpec) → IsOwn (service.Adjust n) (limits_given n o)
  limits_own n None = served (service.Adjust n) answer.BadLimit
  limits_own n (Some spec) = either (service.Adjust n) (nat_le (spec.locks + 2) n && nat_le n spec.extent) _ _ (served (service.Adjust n) answer.Good) (served (service.Adjust n) answer.BadLimit)

  service_own : (s : Service) → IsOwn s (service_gives config past a p s)
  service_own (service.Create at pages prot) = served (service.Create at pages prot) _
  service_own (service.Delete at pages) = either (service.Delete at pages) (is_unmapped a p at.0 pages) _ _ (served (service.Delete at pages) answer.Unmapped) (delete_own at pages (valid_in a p at.0 pages))
  service_own (service.Protect at pages prot) = served (service.Protect at pages prot) _
  service_own (service.Lock at pages) = either (service.Lock at pages) (is_unmapped a p at.0 pages) _ _ (served (service.Lock at pages) answer.Unmapped) (lock_own (service.Lock at pages) at pages (range_locked true at.0 pages (a.ring p)) (slice_get config.procs p))
  service_own (service.Unlock at pages) = served (service.Unlock at pages) _
  service_own (service.Purge at pages) = purge_own at pages (loose_in a p at.0 pages)
  service_own (service.Pin at pages) = either (service.Pin at pages) (is_unmapped a p at.0 pages) _ _ (served (service.Pin at pages) answer.Unmapped) (lock_own (service.Pin at pages) at pages (range_pinned true at.0 pages (a.ring p)) (slice_get config.procs p))
  service_own (service.Unpin at pages) = served (service.Unpin at pages) _
  service_own (service.Adjust n) = limits_own n (slice_get config.procs p)

  serve_own : (s : Service) → IsOwn s (serve_gives config past a p s)
  serve_own s = either s (is_resident (a.status p)) _ _ (service_own s) (record { own = tt })

  pub service_answers : (s : Service) (given : Answer) → (serve_gives config past a p s).answer ≡ serve_answered → last_answer (serve_gives config past a p s).made ≡ Some given → AnswersRequest (Asked_service s) (spoken.Answer given) (serve_gives config past a p s).made
  service_answers s given is shown = by (subst (λ (x : ServeIs). IsOwnAnswer s x (serve_gives config past a p s).made) is (serve_own s).own)
    where
      by : (w : Answer) × ((serve_gives config past a p s).made ≡ what.Served s w ∷ []) → AnswersRequest (Asked_service s) (spoken.Answer given) (serve_gives config past a p s).made
      by (w, made) = record { before = []; last = what.Served s w; made_is = made; unspoken = tt; answer = (refl, same_Some w given (sym (ap last_answer made) ∙ shown)) }
