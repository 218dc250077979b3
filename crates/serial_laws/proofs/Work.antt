-- What a seat works at: for a request, or at the swapper's part.
use Rattle.std.proofs.Common.{true, ◌≡◌, inl, inr, ℕ, ◌+◌, ◌<◌, ◌≤◌, List, ◌∷◌, Some, length, refl, sym, ap, ◌∙◌, subst, arith}
use Rattle.std.proofs.lemmas.Option.{none-some}
use Rattle.std.proofs.lemmas.Option.{same_Some}
use Rattle.vm_types.specs.declared.names.Page.{Page}
use Rattle.vm_types.specs.declared.names.ProcStatus.{ProcStatus}
use Rattle.vm_types.specs.declared.names.ProcStatus.TheVariants as status
use Rattle.vm_types.specs.declared.config.Config.{Config}
use Rattle.vm_types.specs.declared.config.Task.{Task}
use Rattle.vm_types.specs.declared.service.Request.{Request}
use Rattle.vm_types.specs.declared.service.Request.TheVariants as request
use Rattle.vm_journal.specs.declared.entry.Entry.{Entry}
use Rattle.vm_journal.specs.declared.entry.What.TheVariants as what
use Rattle.pager_policy.specs.Given.{by_seat}
use Rattle.pager_model.specs.Lookups.{count_page, page_by}
use Rattle.pager_model.specs.Maps.{Map, page_number, proc}
use Rattle.pager_policy.specs.Moves.{Doing, asking, control, freeing, while_leaving}
use Rattle.pager_model.specs.Pager.{Pager}
use Rattle.pager_policy.specs.Policy.{Ends, ends_part, ends_request, next_task, swapper_of}
use Rattle.pager_model.specs.Run.{pager_after}
use Rattle.pager_rules.proofs.Basics.{at_number_cases}
use Rattle.serial_laws.specs.Controlled.{AreTouched, IsControlled, IsLeft, IsUnmet, MayBeRefused}
use Rattle.serial_laws.proofs.Known.{MayRefuse}
use Rattle.serial_laws.proofs.Steps.{IsSteady, NoneEnters, none_step, task_same}

-- no request is answered, no process becomes resident, no entry becomes valid, and no page is charged or touched
pub record IsCalm (config : Config) (past more : List Entry) : Type 0 where
  pub task : next_task config more ≡ next_task config past
  pub resident : (p : ℕ) → (pager_after config more).status p ≡ status.Resident → (pager_after config past).status p ≡ status.Resident
  pub map : (pager_after config more).map ≡ (pager_after config past).map
  pub none : NoneEnters (pager_after config past) (pager_after config more)
  pub touched : (pager_after config more).touched ≡ (pager_after config past).touched
  pub charged : (g : Page) → count_page (pager_after config more).charged g ≤ count_page (pager_after config past).charged g

-- nor does a status change
pub record IsQuiet (config : Config) (past more : List Entry) : Type 0 where
  pub steady : IsSteady config past more
  pub none : NoneEnters (pager_after config past) (pager_after config more)

pub calm_quiet : (config : Config) (past more : List Entry) → IsQuiet config past more → IsCalm config past more
calm_quiet config past more quiet = record {
  task = quiet.steady.task;
  resident = λ p is. sym (ap (λ (f : ℕ → ProcStatus). f p) quiet.steady.step.status) ∙ is;
  map = quiet.steady.step.map;
  none = quiet.none;
  touched = quiet.steady.step.touched;
  charged = quiet.steady.step.charged;
}

-- the process that is being left stays so
pub left_quiet : (config : Config) (past more : List Entry) (q : ℕ) → IsQuiet config past more → IsLeft config (pager_after config past) q → IsLeft config (pager_after config more) q
left_quiet config past more q quiet left = (left.0, ap (λ (f : ℕ → ProcStatus). f q) quiet.steady.step.status ∙ left.1)

-- a turn to another status than resident
pub calm_turn : (config : Config) (past : List Entry) (seat q : ℕ) (s : ProcStatus) → (s ≡ status.Resident → ⊥) → IsCalm config past (by_seat seat (what.Turn (proc q) s) ∷ past)
calm_turn config past seat q s away = record {
  task = task_same config past seat (what.Turn (proc q) s) refl;
  resident = at_number_cases (λ (p : ℕ) (t : ProcStatus). t ≡ status.Resident → (pager_after config past).status p ≡ status.Resident) (pager_after config past).status q s (λ is. absurd (away is)) (λ p apart is. is);
  map = refl;
  none = none_step config past (pager_after config past) seat (what.Turn (proc q) s) refl;
  touched = refl;
  charged = λ g. omega arith;
}

-- ---- what stays
pub touched_calm : (a b : Pager) → b.touched ≡ a.touched → ((g : Page) → count_page b.charged g ≤ count_page a.charged g) → AreTouched a → AreTouched b
touched_calm a b touched charged old g some =
    let less = charged g in
    let before = old g (omega (arith, some, less)) in
    let same = ap (λ (pages : List Page). count_page pages g) touched in
    omega (arith, before, same)

unmet_calm : (config : Config) (a b : Pager) (p : ℕ) (q : Request) → b.map ≡ a.map → NoneEnters a b → IsUnmet config a p q → IsUnmet config b p q
unmet_calm config a b p (request.Reference r) same none unmet = (unmet.0, ap (λ (m : Map). page_by config m p (page_number (r.addr).0)) same ∙ unmet.1, none p (page_number (r.addr).0) unmet.2)
unmet_calm config a b p (request.Service s) same none unmet = unmet

pub refused_calm : (config : Config) (past more : List Entry) (task : Task) → IsCalm config past more → MayBeRefused config (pager_after config past) task → MayBeRefused config (pager_after config more) task
refused_calm config past more task calm (inl away) = inl (λ is. away (calm.resident (task.proc).0 is))
refused_calm config past more task calm (inr unmet) = inr (unmet_calm config (pager_after config past) (pager_after config more) (task.proc).0 task.request calm.map calm.none unmet)

-- ---- what the seat's failure ends, and where it goes on
abbrev pub HasEnded : Config → ℕ → Ends → List Entry → Type 0
HasEnded config seat ends_request more = MayRefuse config more seat
HasEnded config seat (ends_part c) more = IsControlled config more c

pub record IsWork (config : Config) (past : List Entry) (seat : ℕ) (ends : Ends) (doing : Doing) : Type 0 where
  pub seat_there : seat ≤ length config.procs + 1
  pub left : (more : List Entry) (q : ℕ) → IsCalm config past more → IsLeft config (pager_after config more) q → IsControlled config more (while_leaving doing q)
  pub done : (more : List Entry) → IsCalm config past more → IsControlled config more (control doing)
  pub ended : (more : List Entry) → IsCalm config past more → HasEnded config seat ends more

-- for a request
pub request_work : (config : Config) (past : List Entry) (task : Task) → (task.proc).0 < length config.procs → next_task config past ≡ Some task → MayBeRefused config (pager_after config past) task → AreTouched (pager_after config past)
    → IsWork config past (task.proc).0 ends_request asking
request_work config past task process next waits touched = record {
  seat_there = omega (arith, process);
  left = λ more q calm left. record { leaving = λ n is. subst (λ (m : ℕ). IsLeft config (pager_after config more) m) (same_Some q n is) left; answered_process = tt; waiting = λ other is. still more calm other is; touched = after more calm };
  done = λ more calm. record { leaving = λ q is. absurd (none-some q is); answered_process = tt; waiting = tt; touched = inl (after more calm) };
  ended = λ more calm. record { task = task; next = calm.task ∙ next; own = refl; waits = refused_calm config past more task calm waits; touched = after more calm };
}
  where
    after : (more : List Entry) → IsCalm config past more → AreTouched (pager_after config more)
    after more calm = touched_calm (pager_after config past) (pager_after config more) calm.touched calm.charged touched

    still : (more : List Entry) → IsCalm config past more → (other : Task) → next_task config more ≡ Some other → MayBeRefused config (pager_after config more) other
    still more calm other is = subst (λ (t : Task). MayBeRefused config (pager_after config more) t) (same_Some task other (sym next ∙ (sym calm.task ∙ is))) (refused_calm config past more task calm waits)

-- at the swapper's part
pub part_work : (config : Config) (past : List Entry) (p : ℕ) → p < length config.procs → AreTouched (pager_after config past) → IsWork config past (swapper_of config) (ends_part (control asking)) (freeing true p)
part_work config past p process touched = record {
  seat_there = omega arith;
  left = λ more q calm left. record { leaving = λ n is. subst (λ (m : ℕ). IsLeft config (pager_after config more) m) (same_Some q n is) left; answered_process = process; waiting = tt; touched = after more calm };
  done = λ more calm. record { leaving = λ q is. absurd (none-some q is); answered_process = process; waiting = tt; touched = after more calm };
  ended = λ more calm. record { leaving = λ q is. absurd (none-some q is); answered_process = tt; waiting = tt; touched = inl (after more calm) };
}
  where
    after : (more : List Entry) → IsCalm config past more → AreTouched (pager_after config more)
    after more calm = touched_calm (pager_after config past) (pager_after config more) calm.touched calm.charged touched
