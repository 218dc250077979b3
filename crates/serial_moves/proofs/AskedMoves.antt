-- The move for a request, by the status of its process.
use Rattle.std.proofs.Common.{◌≡◌, ℕ, Option, Some, None, IfSome, refl, sym, ap, ◌∙◌}
use Rattle.std.specs.Option.{option_map}
use Rattle.vm_types.specs.declared.names.Proc.{Proc}
use Rattle.vm_types.specs.declared.names.ProcStatus.{ProcStatus}
use Rattle.vm_types.specs.declared.names.ProcStatus.TheVariants as status
use Rattle.vm_types.specs.declared.reference.Ref.{Ref}
use Rattle.vm_types.specs.declared.service.Request.{Request}
use Rattle.vm_types.specs.declared.service.Request.TheVariants as request
use Rattle.vm_types.specs.declared.service.Service.{Service}
use Rattle.vm_types.specs.declared.config.Task.{Task}
use Rattle.pager_policy.specs.Moves.{Move, asking}
use Rattle.pager_policy.specs.Policy.{asked_move, coming_process, ends_request, gone_move, leave_move, resident_move, status_move}
use Rattle.vm_state.specs.History.{History, pager}
use Rattle.serial_moves.specs.Controls.{number_of}
use Rattle.serial_moves.specs.Requests.{IsResidentReference, come_move}

pub is_none : {X : Type 0} (o : Option X) → ((x : X) → o ≡ Some x → ⊥) → o ≡ None
is_none None never = refl
is_none (Some x) never = absurd (never x refl)

pub left_number : (P : ℕ → Type 0) (o : Option Proc) → IfSome o (λ (q : Proc). P q.0) → IfSome (option_map number_of o) P
left_number P None is = tt
left_number P (Some q) is = is

pub not_both : (x : Service) (r : Ref) → request.Service x ≡ request.Reference r → ⊥
not_both x r same = cc

module _ (s : History) (seat p : ℕ) (own : seat ≡ p) (asks : Request) where
  abbrev asked : Move
  asked = asked_move s.config s.past (pager s) None seat asks

  at_status : (x : ProcStatus) → x ≡ (pager s).status p → asked ≡ status_move s.config s.past (pager s) seat asks x
  at_status x is = ap (status_move s.config s.past (pager s) seat asks) (ap (pager s).status own ∙ sym is)

  pub asked_reference : (r : Ref) → status.Resident ≡ (pager s).status p → asks ≡ request.Reference r → asked ≡ resident_move s.config s.past (pager s) seat (request.Reference r)
  asked_reference r is same = at_status status.Resident is ∙ ap (resident_move s.config s.past (pager s) seat) same

  pub asked_service : (x : Service) → status.Resident ≡ (pager s).status p → asks ≡ request.Service x → asked ≡ resident_move s.config s.past (pager s) seat (request.Service x)
  asked_service x is same = at_status status.Resident is ∙ ap (resident_move s.config s.past (pager s) seat) same

  pub asked_leaving : status.Leaving ≡ (pager s).status p → asked ≡ leave_move s.config s.past (pager s) seat p ends_request asking
  asked_leaving is = at_status status.Leaving is ∙ ap (λ (q : ℕ). leave_move s.config s.past (pager s) seat q ends_request asking) own

  pub asked_gone : status.Gone ≡ (pager s).status p → asked ≡ gone_move seat (coming_process s.config (pager s))
  asked_gone is = at_status status.Gone is

  pub asked_coming : status.Coming ≡ (pager s).status p → asked ≡ come_move s seat
  asked_coming is = at_status status.Coming is

  pub is_coming_there : status.Coming ≡ (pager s).status p → (pager s).status seat ≡ status.Coming
  is_coming_there is = ap (pager s).status own ∙ sym is

-- a reference of a resident process, before which nothing is left
pub asked_resident : (s : History) (leaving : Option Proc) (task : Task) (r : Ref) → IsResidentReference s leaving task r
    → asked_move s.config s.past (pager s) (option_map number_of leaving) (task.proc).0 task.request ≡ resident_move s.config s.past (pager s) (task.proc).0 (request.Reference r)
asked_resident s leaving task r is =
    ap (λ (o : Option Proc). asked_move s.config s.past (pager s) (option_map number_of o) (task.proc).0 task.request) is.none_left
    ∙ asked_reference s (task.proc).0 (task.proc).0 refl task.request r (sym is.resident) is.asked
