-- What a step of a service leaves, by what was given for it.
use Rattle.std.proofs.Common.{◌≡◌, ℕ, ◌+◌, ◌≤◌, [], ◌∷◌, refl, sym, ap, subst, arith}
use Rattle.vm_types.specs.WellFormed.{IsServiceOf, IsWellFormedService}
use Rattle.vm_types.specs.declared.names.Seat.{Seat}
use Rattle.vm_types.specs.declared.reply.Answer.{Answer}
use Rattle.vm_types.specs.declared.service.Service.{Service}
use Rattle.vm_journal.specs.declared.entry.What.{What}
use Rattle.vm_journal.specs.declared.entry.What.TheVariants as what
use Rattle.pager_policy.specs.Given.{given}
use Rattle.vm_types.specs.Status.{is_resident}
use Rattle.pager_policy.specs.Serve.{GivenServe, ServeWhy as Reason, serve_again, serve_gives, serve_more, served_with}
use Rattle.policy_tables.specs.Rows.{IsByCases}
use Rattle.policy_tables.specs.ServeCases.{serve_cases}
use Rattle.policy_tables.proofs.ByServe.{goes_by_cases}
use Rattle.call_laws.specs.AreLegal.{AreLegal}
use Rattle.call_laws.proofs.ServeLegal.{serve_legal}
use Rattle.call_begins.proofs.Branches.{if_true}
use Rattle.call_begins.proofs.Steps.{paid_first}
use Rattle.vm_state.specs.History.{History, MayAdd, added, entry_by, owed, pager}
use Rattle.vm_services.specs.Cases.{at_service}
use Rattle.call_begins.specs.ReadySeat.{IsReadySeat}
use Rattle.vm_services.specs.Serves.{MayServe, Serves, again_of}
use Rattle.call_begins.proofs.ReadySeats.{ready_of}
use Rattle.vm_services.specs.declared.next.ServeNext.{ServeNext}
use Rattle.vm_services.specs.declared.next.ServeNext.TheVariants.{Again, Answered, More}

-- what is given for a service of a resident process may be made, if there is room
pub may_serve : (s : History) (seat : Seat) (x : Service) → IsReadySeat s seat → IsServiceOf s.config.version x → IsWellFormedService x → owed s.past + 64 ≤ s.spare → MayServe s seat (at_service s seat x)
may_serve s seat x ready known formed room = record {
  ready = ready;
  legal = subst (λ (g : GivenServe). AreLegal s.config s.past seat.0 g.made) (if_true (is_resident ((pager s).status seat.0)) _ _ (ap is_resident ready.resident)) (serve_legal s.config s.past seat.0 (ready_of s seat ready) x known formed);
  room = room;
}

-- ---- what may be made
pub may_as : (s : History) (seat : Seat) (g g' : GivenServe) → g ≡ g' → MayServe s seat g → MayServe s seat g'
may_as s seat g g' same may = subst (λ (x : GivenServe). MayServe s seat x) same may

pub may_answer : (s : History) (seat : Seat) (x : Service) (answer : Answer) (g : GivenServe) → g ≡ served_with x answer → MayServe s seat g → MayAdd s (entry_by seat (what.Served x answer))
may_answer s seat x answer g same may =
    let m = may_as s seat g (served_with x answer) same may in
    record { legal = m.legal.0; paid = paid_first s seat (what.Served x answer) 1 (omega arith) refl refl m.room }

-- ---- what is left
pub serves_as : (before after : History) (seat : Seat) (next : ServeNext) (g g' : GivenServe) → g ≡ g' → Serves before after seat g' next → Serves before after seat g next
serves_as before after seat next g g' same is = subst (λ (x : GivenServe). Serves before after seat x next) (sym same) is

-- nothing is made
pub waits : (s : History) (seat : Seat) (reason : Reason) (g : GivenServe) → g ≡ given [] (serve_again reason) → Serves s s seat g (Again (again_of reason))
waits s seat reason g same = serves_as s s seat (Again (again_of reason)) g (given [] (serve_again reason)) same (record { history = refl; answer = refl })

-- the service is answered
pub answered : (s after : History) (seat : Seat) (x : Service) (answer : Answer) (g : GivenServe) → g ≡ served_with x answer → after ≡ added s (entry_by seat (what.Served x answer)) → Serves s after seat g (Answered answer)
answered s after seat x answer g same made = serves_as s after seat (Answered answer) g (served_with x answer) same (record { history = made; answer = refl })

-- an entry is made, and the call is made again
pub goes_on : (s after : History) (seat : Seat) (w : What) (g : GivenServe) → g ≡ given (w ∷ []) serve_more → after ≡ added s (entry_by seat w) → Serves s after seat g More
goes_on s after seat w g same made = serves_as s after seat More g (given (w ∷ []) serve_more) same (record { history = made; answer = refl })

-- ---- by the table of services
pub by_table : (before after : History) (seat : Seat) (p : ℕ) (x : Service) (next : ServeNext) → Serves before after seat (serve_gives before.config before.past (pager before) p x) next
    → IsByCases (serve_cases before.config before.past (pager before) p x) (λ (g : GivenServe). Serves before after seat g next)
by_table before after seat p x next is = record { says = _; first = goes_by_cases before.config before.past (pager before) p x; so = is }
