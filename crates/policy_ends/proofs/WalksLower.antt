-- The whole table outside the rundown: each move lowers the rank.
use Rattle.std.proofs.Common.{◌≡◌, inl, inr, ℕ, ◌<◌, ◌&&◌, Bool, true, false, cond, List, ◌∷◌, Option, Some, None, length, is_some, refl, sym, ap, ◌∙◌, arith}
use Rattle.std.specs.List.{range_with_len}
use Rattle.std.proofs.lemmas.Bool.{false≢true}
use Rattle.std.proofs.lemmas.Option.{none-some}
use Rattle.vm_types.specs.declared.names.ProcStatus.{ProcStatus}
use Rattle.vm_types.specs.declared.names.ProcStatus.TheVariants as status
use Rattle.vm_types.specs.declared.config.Config.{Config}
use Rattle.vm_types.specs.declared.config.Task.{Task}
use Rattle.vm_types.specs.declared.service.Request.{Request}
use Rattle.vm_types.specs.declared.service.Request.TheVariants as request
use Rattle.vm_journal.specs.declared.entry.Entry.{Entry}
use Rattle.vm_journal.specs.declared.entry.What.TheVariants as what
use Rattle.pager_policy.specs.Given.{by_seat}
use Rattle.pager_model.specs.Lookups.{entry_of, is_entry}
use Rattle.vm_types.specs.Status.{is_coming, is_resident}
use Rattle.pager_model.specs.Maps.{page_number, proc}
use Rattle.pager_policy.specs.Moves.{Control, Doing, Move, asking, cleaning, control, freeing, saving, while_leaving}
use Rattle.pager_model.specs.Pager.{Pager}
use Rattle.pager_policy.specs.Policy.{asked_move, asking_move, coming_process, ends_part, ends_request, finding_move, freeing_move, gone_move, is_freeing, is_saving, move_of, next_task, resident_move, saving_by, saving_move, status_move, swapper_of, task_move}
use Rattle.pager_model.specs.Run.{IsRun, pager_after}
use Rattle.pager_policy.specs.Rundown.{writer_of}
use Rattle.pager_policy.specs.Serial.{Heard, IsMove}
use Rattle.pager_policy.specs.WriteCluster.{BeginIs, begin_carry, begin_gives, begin_nothing, reason_high}
use Rattle.pager_rules.proofs.Basics.{find_none_from_count}
use Rattle.pager_rules.proofs.Lists.{found_passes}
use Rattle.serial_laws.specs.Between.{IsBetween}
use Rattle.serial_laws.specs.Controlled.{IsControlled, IsInBody, IsLeft, IsUnmet, MayBeRefused, MayRefuseMeanwhile}
use Rattle.serial_laws.proofs.Walks.{task_formed}
use Rattle.policy_ends.specs.Rank.{IsLower, absence, is_met, phase, rank}
use Rattle.policy_ends.proofs.AdvancesLower.{advance_lowers}
use Rattle.policy_ends.proofs.ComesLower.{come_lowers}
use Rattle.policy_ends.proofs.FindsLower.{finding_lowers, leaving_lowers}
use Rattle.policy_ends.proofs.LeavesLower.{cluster_lowers, cluster_writes, leave_lowers, rests_lower, turn_lowers}
use Rattle.policy_ends.proofs.Places.{LowersBy, MoveLowers, earlier_lowers, later_lowers, part_lowers, request_lowers}
use Rattle.policy_ends.proofs.ServesLower.{serve_lowers}
use Rattle.policy_ends.proofs.Singles.{own_turn_lowers}

-- ---- a request that may be refused isn't met
away_unmet : (a : Pager) (p : ℕ) (q : Request) → (a.status p ≡ status.Resident → ⊥) → is_met a p q ≡ false
away_unmet a p (request.Service s) away = refl
away_unmet a p (request.Reference r) away = by (a.status p) away
  where
    by : (s : ProcStatus) → (s ≡ status.Resident → ⊥) → (is_resident s && is_some (entry_of a.valid p (page_number (r.addr).0))) ≡ false
    by status.Resident away = absurd (away refl)
    by status.Coming away = refl
    by status.Leaving away = refl
    by status.Gone away = refl

unmet_unmet : (config : Config) (a : Pager) (p : ℕ) (q : Request) → IsUnmet config a p q → is_met a p q ≡ false
unmet_unmet config a p (request.Service s) is = refl
unmet_unmet config a p (request.Reference r) is = by (is_resident (a.status p)) (find_none_from_count (is_entry p (page_number (r.addr).0)) a.valid is.2)
  where
    by : (b : Bool) → entry_of a.valid p (page_number (r.addr).0) ≡ None → (b && is_some (entry_of a.valid p (page_number (r.addr).0))) ≡ false
    by true none = ap is_some none
    by false none = refl

may_unmet : (config : Config) (a : Pager) (task : Task) → MayBeRefused config a task → is_met a (task.proc).0 task.request ≡ false
may_unmet config a task (inl away) = away_unmet a (task.proc).0 task.request away
may_unmet config a task (inr unmet) = unmet_unmet config a (task.proc).0 task.request unmet

is_coming_is : (s : ProcStatus) → is_coming s ≡ true → s ≡ status.Coming
is_coming_is status.Coming is = refl
is_coming_is status.Resident is = absurd (false≢true is)
is_coming_is status.Leaving is = absurd (false≢true is)
is_coming_is status.Gone is = absurd (false≢true is)

module _ (config : Config) (past : List Entry) (between : IsBetween config past) where
  abbrev a : Pager
  a = pager_after config past

  -- ---- a request
  module _ (c : Control) (doing : c.doing ≡ asking) (task : Task) (next : next_task config past ≡ Some task) where
    abbrev p : ℕ
    p = (task.proc).0

    process : (task.proc).0 < length config.procs
    process = (task_formed config past task between.formed next).0

    resident_lowers : (q : Request) → task.request ≡ q → a.status p ≡ status.Resident → MoveLowers config past c (resident_move config past a p q)
    resident_lowers (request.Reference r) own resident = advance_lowers config past between c doing task process next r own resident
    resident_lowers (request.Service s) own resident = serve_lowers config past between c doing task process next s own

    work : (a.status p ≡ status.Resident → ⊥) → LowersBy config past c p ends_request asking
    work away = request_lowers config past c task doing next (away_unmet a p task.request away)

    gone_lowers : a.status p ≡ status.Gone → (o : Option ℕ) → coming_process config a ≡ o → MoveLowers config past c (gone_move p o)
    gone_lowers gone None is =
        turn_lowers config past between c p p ends_request asking (work (λ same. let both : status.Gone ≡ status.Resident = sym gone ∙ same in cc)) p status.Coming (control asking) refl
        (λ u v run. own_turn_lowers config past a p p u v status.Coming (let two = ap absence gone in omega (arith, two)) (by_seat p (what.Turn (proc p) status.Coming) ∷ past))
    gone_lowers gone (Some q) is =
        turn_lowers config past between c p p ends_request asking (work (λ same. let both : status.Gone ≡ status.Resident = sym gone ∙ same in cc)) q status.Leaving (while_leaving asking q) refl
        (λ u v run. leaving_lowers config past p q p u v apart run)
      where
        apart : q ≡ p → ⊥
        apart same =
            let comes = is_coming_is (a.status q) (found_passes (λ (n : ℕ). is_coming (a.status n)) (range_with_len 0 (length config.procs)) q is) in
            let both : status.Gone ≡ status.Coming = sym gone ∙ (ap a.status (sym same) ∙ comes) in
            absurd (cc)

    status_lowers : (s : ProcStatus) → a.status p ≡ s → MoveLowers config past c (status_move config past a p task.request s)
    status_lowers status.Resident is = resident_lowers task.request refl is
    status_lowers status.Leaving is = leave_lowers config past between c p p ends_request asking (work (λ same. let both : status.Leaving ≡ status.Resident = sym is ∙ same in cc)) p (process, is)
    status_lowers status.Gone is = gone_lowers is (coming_process config a) refl
    status_lowers status.Coming is = come_lowers config past between c doing task process next is

    asked_lowers : (o : Option ℕ) → ((q : ℕ) → o ≡ Some q → IsLeft config a q) → MayRefuseMeanwhile config past asking o → MoveLowers config past c (asked_move config past a o p task.request)
    asked_lowers None left waits = status_lowers (a.status p) refl
    asked_lowers (Some q) left waits =
        leave_lowers config past between c p p ends_request asking (request_lowers config past c task doing next (may_unmet config a task (waits task next))) q (left q refl)

  task_lowers : (c : Control) → c.doing ≡ asking → (leaving : Option ℕ) → ((q : ℕ) → leaving ≡ Some q → IsLeft config a q) → MayRefuseMeanwhile config past asking leaving → (o : Option Task)
      → next_task config past ≡ o → MoveLowers config past c (task_move config past a leaving o)
  task_lowers c doing leaving left waits None next = rests_lower config past c
  task_lowers c doing leaving left waits (Some task) next = asked_lowers c doing task next leaving left waits

  asking_lowers : (c : Control) → c.doing ≡ asking → (leaving : Option ℕ) → ((q : ℕ) → leaving ≡ Some q → IsLeft config a q) → MayRefuseMeanwhile config past asking leaving
      → MoveLowers config past c (asking_move config past a leaving)
  asking_lowers c doing leaving left waits = task_lowers c doing leaving left waits (next_task config past) refl

  -- ---- the work after an answer
  module _ (c : Control) (after_answer : 0 < phase c.doing) where
    asking_on : MoveLowers config past c (asking_move config past a None)
    asking_on = record { lowers = λ heard more next made run. later_lowers config past c more next after_answer ((asking_lowers (control asking) refl None (λ q is. absurd (none-some q is)) tt).lowers heard more next made run) }

    either : (b : Bool) (x y : Move) → MoveLowers config past c x → MoveLowers config past c y → MoveLowers config past c (cond b x y)
    either true x y first second = first
    either false x y first second = second

    freeing_lowers : (p : ℕ) → LowersBy config past c p (ends_part (control asking)) (freeing true p) → (begun : Bool) (o : Option ℕ) → ((q : ℕ) → o ≡ Some q → IsLeft config a q)
        → MoveLowers config past c (freeing_move config past a o begun p)
    freeing_lowers p work begun (Some q) left = leave_lowers config past between c p (swapper_of config) (ends_part (control asking)) (freeing true p) work q (left q refl)
    freeing_lowers p work begun None left =
        either (is_freeing config a begun && is_freeing config a true) (finding_move config past a (swapper_of config) p (ends_part (control asking)) (freeing true p) (asking_move config past a None))
        (asking_move config past a None)
        (finding_lowers config past between c p (swapper_of config) (ends_part (control asking)) (freeing true p) work (asking_move config past a None) asking_on) asking_on

    saving_lowers : (p : ℕ) → LowersBy config past c p (ends_part (control (freeing false p))) (saving true p) → LowersBy config past c p (ends_part (control asking)) (freeing true p) → (begun : Bool)
        → MoveLowers config past c (saving_move config past a begun p)
    saving_lowers p save free begun =
        either (is_saving config a begun) (saving_by config (begin_gives config a reason_high).made (begin_gives config a reason_high).answer p (freeing_move config past a None false p))
        (freeing_move config past a None false p) (by (begin_gives config a reason_high).answer) otherwise
      where
        otherwise : MoveLowers config past c (freeing_move config past a None false p)
        otherwise = freeing_lowers p free false None (λ q is. absurd (none-some q is))

        by : (x : BeginIs) → MoveLowers config past c (saving_by config (begin_gives config a reason_high).made x p (freeing_move config past a None false p))
        by begin_nothing = freeing_lowers p free false None (λ q is. absurd (none-some q is))
        by begin_carry =
            cluster_lowers config past between c p (writer_of config) (ends_part (control (freeing false p))) (saving true p) save (begin_gives config a reason_high).made
            (control (saving true p)) refl (cluster_writes config a reason_high)

  -- ---- each place
  place_lowers : (c : Control) (doing : Doing) → c.doing ≡ doing → ((q : ℕ) → c.leaving ≡ Some q → IsLeft config a q) → MayRefuseMeanwhile config past doing c.leaving → IsInBody doing
      → MoveLowers config past c (move_of config past (record c { doing = doing }))
  place_lowers c asking is left waits body = asking_lowers c is c.leaving left waits
  place_lowers c (saving true p) is left waits body =
      let some : 3 ≡ phase c.doing = sym (ap phase is) in
      saving_lowers c (omega (arith, some)) p (part_lowers config past c p (saving true p) (control (freeing false p)) is (λ xs. refl) (λ xs. refl) (omega arith))
      (earlier_lowers config past c p (freeing true p) (control asking) (omega (arith, some)) (omega (arith, some))) true
  place_lowers c (saving false p) is left waits body =
      let some : 4 ≡ phase c.doing = sym (ap phase is) in
      saving_lowers c (omega (arith, some)) p (earlier_lowers config past c p (saving true p) (control (freeing false p)) (omega (arith, some)) (omega (arith, some)))
      (earlier_lowers config past c p (freeing true p) (control asking) (omega (arith, some)) (omega (arith, some))) false
  place_lowers c (freeing true p) is left waits body =
      let some : 1 ≡ phase c.doing = sym (ap phase is) in
      freeing_lowers c (omega (arith, some)) p (part_lowers config past c p (freeing true p) (control asking) is (λ xs. refl) (λ xs. refl) (omega arith)) true c.leaving left
  place_lowers c (freeing false p) is left waits body =
      let some : 2 ≡ phase c.doing = sym (ap phase is) in
      freeing_lowers c (omega (arith, some)) p (earlier_lowers config past c p (freeing true p) (control asking) (omega (arith, some)) (omega (arith, some))) false c.leaving left
  place_lowers c (cleaning at) is left waits body = absurd body

pub moves_lower : (config : Config) (past : List Entry) (c : Control) (heard : Heard) (more : List Entry) (next : Control) → IsBetween config past → IsControlled config past c → IsInBody c.doing
    → IsMove config past c heard more next → IsRun config more → IsLower (rank config more next) (rank config past c)
moves_lower config past c heard more next between controlled body move run =
    (place_lowers config past between c c.doing refl controlled.leaving controlled.waiting body).lowers heard more next move run
