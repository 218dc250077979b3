-- What a seat does in one turn, on the state's history. This project's own.
use Rattle.std.specs.Prelude.{◌≡◌, ℕ, ◌+◌, Bool, true, false, List, [], ◌∷◌, ◌++◌, Option, Some, None, length}
use Rattle.std.specs.List.{AllByRecursion}
use Rattle.vm_types.specs.BlockView.{BlockView, Tells}
use Rattle.vm_types.specs.declared.config.Config.{Config}
use Rattle.vm_types.specs.declared.names.Proc.{Proc}
use Rattle.vm_types.specs.declared.names.Seat.{Seat}
use Rattle.vm_types.specs.declared.reply.Reply.TheVariants as reply
use Rattle.vm_types.specs.declared.service.Request.{Request}
use Rattle.vm_types.specs.declared.service.Request.TheVariants.{Reference, Service}
use Rattle.vm_journal.specs.Journal.{is_answer}
use Rattle.vm_journal.specs.declared.entry.What.{What}
use Rattle.vm_journal.specs.declared.entry.What.TheVariants as what
use Rattle.frame_store.specs.LiftView.{LiftView}
use Rattle.pager_model.specs.Flights.{awaits_reuse, carrier_of}
use Rattle.pager_policy.specs.Given.{made_by}
use Rattle.pager_policy.specs.Landings.{Outcome, landed_by}
use Rattle.lift_carriers.specs.CarrierView.{CarrierView}
use Rattle.vm_state.specs.Based.{base_of}
use Rattle.vm_state.specs.History.{History}
use Rattle.carried_landings.specs.Outside.{AllWait, AreOut}
use Rattle.seat_turns.specs.declared.turned.Spoken.{Spoken}
use Rattle.seat_turns.specs.declared.turned.Spoken.TheVariants.{Reply, Answer}
use Rattle.seat_turns.specs.declared.turned.Turned.{Turned}
use Rattle.seat_turns.specs.declared.turned.Turned.TheVariants.{Spoke, Reads, Made, Waits, Rests, Short}

-- the seats of a process, of the modified page writer and of the swapper
abbrev pub seat_of : Proc → Seat
seat_of p = record { 0 = p.0 }

abbrev pub writer_seat : Config → Seat
writer_seat config = record { 0 = length config.procs }

abbrev pub swapper_seat : Config → Seat
swapper_seat config = record { 0 = length config.procs + 1 }

-- entries that answer no request
abbrev pub AreUnspoken : List What → Type 0
AreUnspoken ws = AllByRecursion (λ (w : What). is_answer w ≡ false) ws

-- it answers the request so
abbrev pub AnswersAs : Request → Spoken → What → Type 0
AnswersAs (Reference r) (Reply shown) (what.Done q given) = (q ≡ r) × (given ≡ shown)
AnswersAs (Reference r) (Reply shown) (what.Denied q why) = (q ≡ r) × (reply.Refused why ≡ shown)
AnswersAs (Service s) (Answer shown) (what.Served x given) = (x ≡ s) × (given ≡ shown)
AnswersAs x shown other = ⊥

-- the last of these entries answers the request, and no other one answers anything
pub record AnswersRequest (x : Request) (shown : Spoken) (made : List What) : Type 0 where
  pub before : List What
  pub last : What
  pub made_is : made ≡ before ++ last ∷ []
  pub unspoken : AreUnspoken before
  pub answer : AnswersAs x shown last

-- what the entries of a turn answer; the writer and the swapper work for no request
abbrev pub TurnTells : Turned → Option Request → List What → Type 0
TurnTells (Spoke shown) (Some x) made = AnswersRequest x shown made
TurnTells (Spoke shown) None made = ⊥
TurnTells other o made = AreUnspoken made

-- transfers that were begun in the turn wait to be carried, and none is open else
abbrev pub IsStaged : {B : Type 0} → Turned → List (LiftView B) → Type 0
IsStaged Reads lifts = AllWait lifts
IsStaged Made lifts = AllWait lifts
IsStaged other lifts = lifts ≡ []

abbrev pub is_short : Turned → Bool
is_short Short = true
is_short other = false

abbrev pub is_reads : Turned → Bool
is_reads Reads = true
is_reads other = false

-- in such a turn nothing but landings is made
abbrev pub IsIdleTurn : Turned → Type 0
IsIdleTurn Waits = Unit {0}
IsIdleTurn Rests = Unit {0}
IsIdleTurn Short = Unit {0}
IsIdleTurn other = ⊥

-- what was open of the seat has landed, with the reuse after each failed read, and nothing else was made
pub record HasOnlyLanded (s t : History) (seat : ℕ) : Type 0 where
  pub outcomes : List Outcome
  pub landed : t.past ≡ landed_by s.config seat (carrier_of seat s.past) outcomes s.past

module _ {B : Type 0} (seen : B → BlockView) (tells : Tells) where
  -- what a turn leaves of the history and of the seat's carrier: all its entries are the seat's, no reuse is due, and
  -- what is open of the seat is in the carrier
  pub record HasTurned (s t : History) (seat : Seat) (request : Option Request) (turned : Turned) (c : CarrierView B) : Type 0 where
    pub made : List What
    pub past : t.past ≡ made_by seat.0 made s.past
    pub same : t ≡ record s { past = t.past; spare = t.spare; halted = is_short turned }
    pub answers : TurnTells turned request made
    pub idle : IsIdleTurn turned → HasOnlyLanded s t seat.0
    pub calm : awaits_reuse t.past ≡ false
    pub out : AreOut seen tells (base_of t) t.past seat c
    pub staged : IsStaged turned c.lifts

-- by whether there was anything to do
abbrev pub turned_by : Bool → Turned
turned_by true = Made
turned_by false = Waits
