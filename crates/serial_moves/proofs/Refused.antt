-- A request that is refused for a lost carrier.
use Rattle.std.proofs.Common.{◌≡◌, ℕ, ◌+◌, ◌*◌, ◌≤◌, Bool, false, cond, List, [], ◌∷◌, Some, None, length, refl, sym, ap, ◌∙◌, subst, arith}
use Rattle.std.proofs.lemmas.Option.{none-some, same_Some}
use Rattle.vm_types.specs.declared.config.Config.{Config}
use Rattle.vm_types.specs.declared.config.Task.{Task}
use Rattle.vm_types.specs.declared.names.Proc.{Proc}
use Rattle.vm_types.specs.declared.names.Seat.{Seat}
use Rattle.vm_types.specs.declared.reference.Ref.{Ref}
use Rattle.vm_types.specs.declared.reply.Answer.TheVariants as answer
use Rattle.vm_types.specs.declared.reply.Why.TheVariants as why
use Rattle.vm_types.specs.declared.service.Request.{Request}
use Rattle.vm_types.specs.declared.service.Request.TheVariants as request
use Rattle.vm_types.specs.declared.service.Service.{Service}
use Rattle.vm_journal.specs.declared.entry.Entry.{Entry}
use Rattle.vm_journal.specs.declared.entry.What.TheVariants as what
use Rattle.pager_model.specs.Flat.{FlatState}
use Rattle.pager_model.specs.Flights.{awaits_reuse, fails_read, open_flights}
use Rattle.pager_policy.specs.Moves.{Control as ControlIs, control, saving}
use Rattle.pager_policy.specs.Policy.{next_task}
use Rattle.pager_model.specs.Run.{pager_after}
use Rattle.pager_policy.specs.Serial.{IsRefused, refusal_of}
use Rattle.pager_model.specs.Spoken.{IsRight, ShowsReply, flat_after}
use Rattle.pager_model.specs.Step.{IsLegal}
use Rattle.call_begins.proofs.Steps.{paid_after}
use Rattle.serial_laws.specs.Laws.{IsRefusedLegally}
use Rattle.vm_state.specs.History.{History, MayAdd, added, entry_by, owed, pager}
use Rattle.carried_landings.specs.CarriedOn.{IsRefusedThere}
use Rattle.carried_landings.specs.Moved.{IsSameBut}
use Rattle.carried_landings.proofs.Moving.{same_then}

-- ---- the refusal, by the kind of the request
pub refuses_reference : (task : Task) (r : Ref) → task.request ≡ request.Reference r → refusal_of task ≡ what.Denied r why.DiskFault
refuses_reference task r is = ap (λ (q : Request). refusal_of (record { proc = task.proc; request = q })) is

pub refuses_service : (task : Task) (s : Service) → task.request ≡ request.Service s → refusal_of task ≡ what.Served s answer.DiskFault
refuses_service task s is = ap (λ (q : Request). refusal_of (record { proc = task.proc; request = q })) is

-- it begins and ends no transfer, and shows no reply
refusal_flights : (seat : Seat) (p : Proc) (q : Request) (past : List Entry) → open_flights (entry_by seat (refusal_of (record { proc = p; request = q })) ∷ past) ≡ open_flights past
refusal_flights seat p (request.Reference r) past = refl
refusal_flights seat p (request.Service s) past = refl

refusal_calm : (p : Proc) (q : Request) → fails_read (refusal_of (record { proc = p; request = q })) ≡ false
refusal_calm p (request.Reference r) = refl
refusal_calm p (request.Service s) = refl

refusal_shows : (config : Config) (flat : FlatState) (seat : ℕ) (p : Proc) (q : Request) → ShowsReply config flat seat (refusal_of (record { proc = p; request = q }))
refusal_shows config flat seat p (request.Reference r) = tt
refusal_shows config flat seat p (request.Service s) = tt

-- nothing is due where nothing is open
pub nothing_owed : (past : List Entry) → open_flights past ≡ [] → awaits_reuse past ≡ false → owed past ≡ 0
nothing_owed past landed reused = λ i. 2 * length (landed i) + cond (reused i) 1 0

one_spare : (due spare : ℕ) → due ≡ 0 → 64 ≤ spare → due + 1 ≤ spare
one_spare due spare none room = omega (arith, none, room)

-- ---- on the history where room was made for it
module _ (s s1 : History) (seat : Seat) (same : IsSameBut s s1) (past_same : s1.past ≡ s.past) (legal : IsRefusedLegally s.config s.past seat.0) where
  config_same : s1.config ≡ s.config
  config_same = ap (λ (x : History). x.config) same

  next_same : next_task s1.config s1.past ≡ next_task s.config s.past
  next_same = λ i. next_task (config_same i) (past_same i)

  -- a request is left
  pub some_left : None ≡ next_task s1.config s1.past → ⊥
  some_left none = none-some legal.task (none ∙ (next_same ∙ legal.next))

  module _ (task : Task) (next : Some task ≡ next_task s1.config s1.past) where
    next_there : next_task s.config s.past ≡ Some task
    next_there = sym next_same ∙ sym next

    task_is : legal.task ≡ task
    task_is = same_Some legal.task task (sym legal.next ∙ next_there)

    pub own : seat.0 ≡ (task.proc).0
    own = legal.own ∙ ap (λ (x : Task). (x.proc).0) task_is

    -- the refusal may be added
    legal_there : IsLegal s1.config s1.past (pager s1) (entry_by seat (refusal_of task))
    legal_there =
        subst (λ (k : Config). IsLegal k s1.past (pager_after k s1.past) (entry_by seat (refusal_of task))) (sym config_same)
        (subst (λ (past : List Entry). IsLegal s.config past (pager_after s.config past) (entry_by seat (refusal_of task))) (sym past_same)
        (subst (λ (x : Task). IsLegal s.config s.past (pager_after s.config s.past) (entry_by seat (refusal_of x))) task_is legal.legal))

    pub may_refuse_it : 64 ≤ s1.spare → open_flights s.past ≡ [] → awaits_reuse s.past ≡ false → MayAdd s1 (entry_by seat (refusal_of task))
    may_refuse_it room landed reused = record {
      legal = legal_there;
      paid = paid_after s1.past (entry_by seat (refusal_of task)) s1.spare 1 (refusal_flights seat task.proc task.request s1.past) (refusal_calm task.proc task.request)
          (one_spare (owed s1.past) s1.spare (nothing_owed s1.past (ap open_flights past_same ∙ landed) (ap awaits_reuse past_same ∙ reused)) room);
    }

    right_before : IsRight s.config s.past → IsRight s1.config s1.past
    right_before right = subst (λ (k : Config). IsRight k s1.past) (sym config_same) (subst (IsRight s.config) (sym past_same) right)

    -- and then the request was refused there
    pub refused_there : (tells : Bool) (after : History) (c : ControlIs) → after ≡ added s1 (entry_by seat (refusal_of task)) → c ≡ control (saving false (task.proc).0) → IsRefusedThere tells s after c
    refused_there tells after c made goes = record {
      refused = subst (IsRefused s.past after.past c) (sym next_there) (
        ap (λ (x : History). x.past) made ∙ (λ i. record { seat = record { 0 = own i }; what = refusal_of task } ∷ past_same i),
        goes,
      );
      same = same_then s s1 after same (subst (λ (x : History). IsSameBut s1 x) (sym made) refl);
      right = λ told right.
          subst (λ (x : History). IsRight x.config x.past) (sym made)
          (right_before right, refusal_shows s1.config (flat_after s1.config s1.past) seat.0 task.proc task.request);
    }
