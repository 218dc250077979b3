-- What a call for a service makes and returns is what the rule of the services gives. This project's own.
use Rattle.std.specs.Prelude.{◌≡◌, ◌+◌, ◌≤◌, List, [], ◌∷◌, Option, Some, None}
use Rattle.std.specs.Option.{option_map}
use Rattle.vm_types.specs.declared.names.Seat.{Seat}
use Rattle.vm_types.specs.declared.reply.Answer.{Answer}
use Rattle.vm_journal.specs.declared.entry.What.{What}
use Rattle.vm_journal.specs.declared.entry.What.TheVariants as what
use Rattle.pager_policy.specs.Serve.{GivenServe, ServeIs, ServeWhy as Reason, serve_again, serve_answered, serve_in_flight, serve_modified_full, serve_more, serve_not_resident}
use Rattle.call_laws.specs.AreLegal.{AreLegal}
use Rattle.call_begins.specs.ReadySeat.{IsReadySeat}
use Rattle.vm_state.specs.History.{History, owed}
use Rattle.vm_state.specs.LiftsLand.{added_each}
use Rattle.vm_services.specs.declared.next.ServeNext.{ServeNext}
use Rattle.vm_services.specs.declared.next.ServeNext.TheVariants.{Again, Answered, More}
use Rattle.vm_services.specs.declared.next.ServeWhy.{ServeWhy}
use Rattle.vm_services.specs.declared.next.ServeWhy.TheVariants.{InFlight, ModifiedFull, NotResident}

-- the answer that an entry shows
abbrev pub answer_shown : What → Option Answer
answer_shown (what.Served s answer) = Some answer
answer_shown other = None

-- and that the last of some entries shows
abbrev pub last_answer : List What → Option Answer
last_answer [] = None
last_answer (w ∷ []) = answer_shown w
last_answer (w ∷ v ∷ ws) = last_answer (v ∷ ws)

abbrev pub again_of : Reason → ServeWhy
again_of serve_not_resident = NotResident
again_of serve_in_flight = InFlight
again_of serve_modified_full = ModifiedFull

-- what is returned, by the answer that was shown
abbrev pub returned : ServeIs → Option Answer → Option ServeNext
returned serve_answered shown = option_map Answered shown
returned serve_more shown = Some More
returned (serve_again reason) shown = Some (Again (again_of reason))

-- the entries are those that are given, and so is what is returned
pub record Serves (before after : History) (seat : Seat) (g : GivenServe) (next : ServeNext) : Type 0 where
  pub history : after ≡ added_each seat g.made before
  pub answer : Some next ≡ returned g.answer (last_answer g.made)

-- the entries that are given may be made: the seat's process is ready for a service, each entry is legal after those
-- before it, and there is room for them
pub record MayServe (s : History) (seat : Seat) (g : GivenServe) : Type 0 where
  pub ready : IsReadySeat s seat
  pub legal : AreLegal s.config s.past seat.0 g.made
  pub room : owed s.past + 64 ≤ s.spare
