-- The whole table, but for the rundown: each move is known, and there is none only where no request is left.
use Rattle.std.proofs.Common.{◌≡◌, ◌⊎◌, inl, inr, ℕ, ◌<◌, ◌&&◌, ◌||◌, Bool, true, false, cond, List, [], Option, Some, None, length, nat_eq, refl, sym, ap, ◌∙◌, subst, arith}
use Rattle.std.proofs.lemmas.Option.{none-some, get_or_from_slice_get, same_Some, slice_get_within}
use Rattle.vm_types.specs.Configuration.{IsTask, IsWellFormed}
use Rattle.vm_types.specs.WellFormed.{IsRequestOf, IsWellFormedRequest}
use Rattle.vm_types.specs.declared.names.ProcStatus.{ProcStatus}
use Rattle.vm_types.specs.declared.names.ProcStatus.TheVariants as status
use Rattle.vm_types.specs.declared.config.Config.{Config}
use Rattle.vm_types.specs.declared.config.Task.{Task}
use Rattle.vm_types.specs.declared.reference.Ref.{Ref}
use Rattle.vm_types.specs.declared.service.Request.{Request}
use Rattle.vm_types.specs.declared.service.Request.TheVariants as request
use Rattle.vm_journal.specs.declared.entry.Entry.{Entry}
use Rattle.pager_policy.specs.Given.{given}
use Rattle.pager_model.specs.Maps.{proc}
use Rattle.pager_policy.specs.Moves.{Control, Doing, Move, asking, cleaning, control, freeing, saving, while_leaving}
use Rattle.pager_model.specs.Pager.{Pager}
use Rattle.pager_policy.specs.Policy.{asked_move, asking_move, coming_process, ends_part, ends_request, freeing_move, gone_move, is_freeing, is_saving, move_of, next_task, resident_move, saving_by, saving_move, status_move, swapper_of, task_move}
use Rattle.pager_model.specs.Spoken.{spoken}
use Rattle.pager_model.specs.Run.{pager_after}
use Rattle.pager_policy.specs.Rundown.{writer_of}
use Rattle.pager_policy.specs.WriteCluster.{begin_carry, begin_nothing, is_enough, reason_high, writes_from}
use Rattle.pager_rules.proofs.Basics.{at_number_same}
use Rattle.pager_laws.proofs.OfConfigKept.{run_right}
use Rattle.call_laws.proofs.TurnsLegal.{comer_legal, coming_legal}
use Rattle.serial_laws.specs.Between.{IsBetween}
use Rattle.serial_laws.specs.Controlled.{AreTouched, HasTouched, IsAnsweredProcess, IsControlled, IsInBody, IsLeft, IsRead, MayRefuseMeanwhile}
use Rattle.serial_laws.proofs.AdvanceMoves.{advance_known}
use Rattle.serial_laws.proofs.Begins.{IsWriting, begins_writing, cluster_known}
use Rattle.serial_laws.proofs.Comes.{come_known}
use Rattle.serial_laws.proofs.Finds.{finding_known}
use Rattle.serial_laws.proofs.Known.{MoveIsKnown}
use Rattle.serial_laws.proofs.Leaves.{leave_known}
use Rattle.serial_laws.proofs.Serves.{serve_known}
use Rattle.serial_laws.proofs.Turns.{may_work, turn_known}
use Rattle.serial_laws.proofs.Work.{IsQuiet, IsWork, calm_quiet, calm_turn, part_work, request_work, touched_calm}

-- the next task is one of the body
pub task_formed : (config : Config) (past : List Entry) (task : Task) → IsWellFormed config → next_task config past ≡ Some task → ((task.proc).0 < length config.procs) × IsWellFormedRequest task.request × IsRequestOf config.version task.request
task_formed config past task formed next =
    let known : IsTask config.version (length config.procs) task = subst (λ (t : Task). IsTask config.version (length config.procs) t) (get_or_from_slice_get config.body (spoken past) task task next) (formed.body (spoken past) task (slice_get_within config.body (spoken past) task next)) in
    (known.proc, known.request, known.of_version)

-- a request that isn't a reference was read for none
not_read : (config : Config) (past : List Entry) (task : Task) → next_task config past ≡ Some task → ((r : Ref) → task.request ≡ request.Reference r → ⊥) → AreTouched (pager_after config past) ⊎ IsRead config past → AreTouched (pager_after config past)
not_read config past task next not_reference (inl touched) = touched
not_read config past task next not_reference (inr read) = absurd (not_reference read.reference (ap (λ (t : Task). t.request) (same_Some task read.task (sym next ∙ read.next)) ∙ read.asked))

not_resident : (config : Config) (past : List Entry) (task : Task) → next_task config past ≡ Some task → ((pager_after config past).status (task.proc).0 ≡ status.Resident → ⊥) → AreTouched (pager_after config past) ⊎ IsRead config past → AreTouched (pager_after config past)
not_resident config past task next away (inl touched) = touched
not_resident config past task next away (inr read) = absurd (away (ap (λ (t : Task). (pager_after config past).status (t.proc).0) (same_Some task read.task (sym next ∙ read.next)) ∙ read.resident))

module _ (config : Config) (past : List Entry) (between : IsBetween config past) where
  abbrev a : Pager
  a = pager_after config past

  abbrev Rest : Type 0
  Rest = next_task config past ≡ None

  -- ---- a task
  module _ (task : Task) (next : next_task config past ≡ Some task) where
    abbrev p : ℕ
    p = (task.proc).0

    process : (task.proc).0 < length config.procs
    process = (task_formed config past task between.formed next).0

    resident_known : (q : Request) → task.request ≡ q → a.status p ≡ status.Resident → AreTouched a ⊎ IsRead config past → MoveIsKnown config past Rest (resident_move config past a p q)
    resident_known (request.Reference r) own resident charges = advance_known config past between Rest task process next r own resident charges
    resident_known (request.Service s) own resident charges =
        serve_known config past between Rest task process next resident (not_read config past task next (λ r is. let same : request.Service s ≡ request.Reference r = sym own ∙ is in absurd (cc)) charges) s own

    work : (a.status p ≡ status.Resident → ⊥) → AreTouched a ⊎ IsRead config past → IsWork config past p ends_request asking
    work away charges = request_work config past task process next (inl away) (not_resident config past task next away charges)

    gone_known : (a.status p ≡ status.Resident → ⊥) → AreTouched a ⊎ IsRead config past → a.status p ≡ status.Gone → (o : Option ℕ) → coming_process config a ≡ o → MoveIsKnown config past Rest (gone_move p o)
    gone_known away charges gone None none =
        turn_known config past Rest p (proc p) status.Coming (control asking)
        (coming_legal config past p (may_work config past p (let there = process in omega (arith, there)) between) p process gone none (run_right config past between.formed between.run).absent)
        (record { leaving = λ q is. absurd (none-some q is); answered_process = tt; waiting = tt; touched = inl (not_resident config past task next away charges) })
    gone_known away charges gone (Some q) found =
        let legal = comer_legal config past p (may_work config past p (let there = process in omega (arith, there)) between) q found between.landed in
        turn_known config past Rest p (proc q) status.Leaving (while_leaving asking q) legal
        ((work away charges).left _ q (calm_turn config past p q status.Leaving (λ same. cc)) (legal.row.process, at_number_same a.status q status.Leaving))

    status_known : AreTouched a ⊎ IsRead config past → (s : ProcStatus) → a.status p ≡ s → MoveIsKnown config past Rest (status_move config past a p task.request s)
    status_known charges status.Resident is = resident_known task.request refl is charges
    status_known charges status.Leaving is = leave_known config past between Rest p p ends_request asking (work (λ same. let both : status.Leaving ≡ status.Resident = sym is ∙ same in cc) charges) (process, is)
    status_known charges status.Gone is = gone_known (λ same. let both : status.Gone ≡ status.Resident = sym is ∙ same in cc) charges is (coming_process config a) refl
    status_known charges status.Coming is = come_known config past between Rest task process next is (not_resident config past task next (λ same. let both : status.Coming ≡ status.Resident = sym is ∙ same in cc) charges)

    asked_known : (o : Option ℕ) → ((q : ℕ) → o ≡ Some q → IsLeft config a q) → MayRefuseMeanwhile config past asking o → HasTouched config past asking o → MoveIsKnown config past Rest (asked_move config past a o p task.request)
    asked_known None left waits touched = status_known touched (a.status p) refl
    asked_known (Some q) left waits touched = leave_known config past between Rest p q ends_request asking (request_work config past task process next (waits task next) touched) (left q refl)

  task_known : (leaving : Option ℕ) → ((q : ℕ) → leaving ≡ Some q → IsLeft config a q) → MayRefuseMeanwhile config past asking leaving → HasTouched config past asking leaving → (o : Option Task) → next_task config past ≡ o → MoveIsKnown config past Rest (task_move config past a leaving o)
  task_known leaving left waits touched None next = record { known = next }
  task_known leaving left waits touched (Some task) next = asked_known task next leaving left waits touched

  asking_known : (leaving : Option ℕ) → ((q : ℕ) → leaving ≡ Some q → IsLeft config a q) → MayRefuseMeanwhile config past asking leaving → HasTouched config past asking leaving → MoveIsKnown config past Rest (asking_move config past a leaving)
  asking_known leaving left waits touched = task_known leaving left waits touched (next_task config past) refl

  -- ---- the work after an answer
  either : (b : Bool) (x y : Move) → MoveIsKnown config past Rest x → MoveIsKnown config past Rest y → MoveIsKnown config past Rest (cond b x y)
  either true x y first second = first
  either false x y first second = second

  asking_on : AreTouched a → MoveIsKnown config past Rest (asking_move config past a None)
  asking_on touched = asking_known None (λ q is. absurd (none-some q is)) tt (inl touched)

  freeing_known : (o : Option ℕ) (begun : Bool) (p : ℕ) → p < length config.procs → AreTouched a → ((q : ℕ) → o ≡ Some q → IsLeft config a q) → MoveIsKnown config past Rest (freeing_move config past a o begun p)
  freeing_known (Some q) begun p process touched left = leave_known config past between Rest (swapper_of config) q (ends_part (control asking)) (freeing true p) (part_work config past p process touched) (left q refl)
  freeing_known None begun p process touched left =
      either (is_freeing config a begun && is_freeing config a true) _ _
      (finding_known config past between p Rest (swapper_of config) (ends_part (control asking)) (freeing true p) (part_work config past p process touched) (asking_move config past a None) (λ no_modified no_leaver no_victim. asking_on touched))
      (asking_on touched)

  saving_known : (begun : Bool) (p : ℕ) → p < length config.procs → AreTouched a → MoveIsKnown config past Rest (saving_move config past a begun p)
  saving_known begun p process touched = either (is_saving config a begun) _ _ (by (is_enough config a reason_high || nat_eq (length a.modified) 0) refl) (freeing_known None false p process touched (λ q is. absurd (none-some q is)))
    where
      after : (more : List Entry) → IsQuiet config past more → AreTouched (pager_after config more)
      after more quiet = let calm = calm_quiet config past more quiet in touched_calm a (pager_after config more) calm.touched calm.charged touched

      by : (b : Bool) → (is_enough config a reason_high || nat_eq (length a.modified) 0) ≡ b
          → MoveIsKnown config past Rest (saving_by config (cond b (given [] begin_nothing) (given (writes_from config a config.params.wrtcluster None a.modified) begin_carry)).made (cond b (given [] begin_nothing) (given (writes_from config a config.params.wrtcluster None a.modified) begin_carry)).answer p (freeing_move config past a None false p))
      by true is = freeing_known None false p process touched (λ q is. absurd (none-some q is))
      by false is =
          cluster_known config past between Rest (writer_of config) (ends_part (control (freeing false p))) (control (saving true p)) (writes_from config a config.params.wrtcluster None a.modified)
          (subst (λ (b : Bool). IsWriting (cond b (given [] begin_nothing) (given (writes_from config a config.params.wrtcluster None a.modified) begin_carry)).made) is (begins_writing config past between reason_high is))
          (λ more quiet. record { leaving = λ q is. absurd (none-some q is); answered_process = process; waiting = tt; touched = after more quiet })
          (λ more quiet. record { leaving = λ q is. absurd (none-some q is); answered_process = process; waiting = tt; touched = after more quiet })

-- outside the rundown
pub body_known : (config : Config) (past : List Entry) (c : Control) → IsBetween config past → IsControlled config past c → IsInBody c.doing → MoveIsKnown config past (next_task config past ≡ None) (move_of config past c)
body_known config past c between controlled body = by c.doing controlled.answered_process controlled.waiting controlled.touched body
  where
    by : (d : Doing) → IsAnsweredProcess config d → MayRefuseMeanwhile config past d c.leaving → HasTouched config past d c.leaving → IsInBody d → MoveIsKnown config past (next_task config past ≡ None) (move_of config past (record c { doing = d }))
    by asking answered waits touched body = asking_known config past between c.leaving controlled.leaving waits touched
    by (saving begun p) answered waits touched body = saving_known config past between begun p answered touched
    by (freeing begun p) answered waits touched body = freeing_known config past between c.leaving begun p answered touched controlled.leaving
    by (cleaning at) answered waits touched body = absurd body
