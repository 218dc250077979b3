-- What a call for a reference makes and returns is what the fault handler's rule gives. This project's own.
use Rattle.std.specs.Prelude.{◌≡◌, ℕ, true, ◌+◌, ◌≤◌, List, [], ◌∷◌, Option, Some, None, map}
use Rattle.std.specs.Option.{option_map}
use Rattle.vm_types.specs.BlockView.{BlockView, Tells}
use Rattle.vm_types.specs.WellFormed.{IsWellFormedReference}
use Rattle.vm_types.specs.declared.config.Config.{Config}
use Rattle.vm_types.specs.declared.names.Seat.{Seat}
use Rattle.vm_types.specs.declared.reference.Ref.{Ref}
use Rattle.vm_types.specs.declared.reply.Reply.{Reply}
use Rattle.vm_types.specs.declared.reply.Reply.TheVariants as reply
use Rattle.vm_journal.specs.declared.entry.Entry.{Entry}
use Rattle.vm_journal.specs.declared.entry.What.{What}
use Rattle.vm_journal.specs.declared.entry.What.TheVariants as what
use Rattle.pager_policy.specs.Advance.{AgainWhy as Reason, GivenNext, NextIs, again_block_busy, again_charging, again_collided, again_modified_full, again_no_frame, again_not_resident, next_again, next_answered, next_carry, next_more}
use Rattle.pager_model.specs.Flat.{flat_reply}
use Rattle.pager_policy.specs.Given.{with_reply}
use Rattle.pager_model.specs.Spoken.{flat_after}
use Rattle.policy_tables.specs.AdvanceCases.{advance_cases}
use Rattle.policy_tables.specs.Rows.{IsByCases}
use Rattle.call_laws.specs.AreLegal.{AreLegal}
use Rattle.call_begins.specs.MayBegin.{empty}
use Rattle.call_begins.specs.ReadySeat.{IsReadySeat}
use Rattle.lift_carriers.specs.CarrierView.{CarrierView}
use Rattle.vm_state.specs.History.{History, owed, pager}
use Rattle.vm_state.specs.LiftsLand.{added_each}
use Rattle.fault_core.specs.Lifted.{IsCarrying}
use Rattle.fault_core.specs.SoughtPage.{IsSought}
use Rattle.fault_core.specs.declared.next.AgainWhy.{AgainWhy}
use Rattle.fault_core.specs.declared.next.AgainWhy.TheVariants.{BlockBusy, Charging, Collided, ModifiedFull, NoFrame, NotResident}
use Rattle.fault_core.specs.declared.next.Next.{Next}
use Rattle.fault_core.specs.declared.next.Next.TheVariants.{Again, Answered, Carry, More}
use Rattle.fault_core.specs.declared.sought.Sought.{Sought}

-- the reply that an entry shows
abbrev pub reply_shown : What → Option Reply
reply_shown (what.Done r reply) = Some reply
reply_shown (what.Denied r why) = Some (reply.Refused why)
reply_shown other = None

-- and that the last of some entries shows
abbrev pub last_reply : List What → Option Reply
last_reply [] = None
last_reply (w ∷ []) = reply_shown w
last_reply (w ∷ v ∷ ws) = last_reply (v ∷ ws)

abbrev pub again_of : Reason → AgainWhy
again_of again_not_resident = NotResident
again_of again_collided = Collided
again_of again_block_busy = BlockBusy
again_of again_charging = Charging
again_of again_modified_full = ModifiedFull
again_of again_no_frame = NoFrame

-- what is returned, by the reply that was shown
abbrev pub returned : NextIs → Option Reply → Option Next
returned next_answered shown = option_map Answered shown
returned next_carry shown = Some Carry
returned next_more shown = Some More
returned (next_again reason) shown = Some (Again (again_of reason))

-- the entries are those that are given, with some reply in place of the open one, and so is what is returned
pub record IsGiven (before after : History) (seat : Seat) (g : GivenNext) (next : Next) : Type 0 where
  pub shown : Reply
  pub history : after ≡ added_each seat (map (with_reply shown) g.made) before
  pub answer : Some next ≡ returned g.answer (last_reply (map (with_reply shown) g.made))

-- the entries are those of the table's first row that holds, with the reply that is shown, and so is what is returned
pub record IsGivenByCases (before after : History) (seat : Seat) (r : Ref) (next : Next) : Type 0 where
  pub shown : Reply
  pub first : IsByCases (advance_cases before.config before.past (pager before) seat.0 r shown) (λ (g : GivenNext). (after ≡ added_each seat g.made before) × (Some next ≡ returned g.answer (last_reply g.made)))

-- a reply is that of memory without frames and disk
abbrev pub IsRightNext : Config → List Entry → ℕ → Ref → Next → Type 0
IsRightNext config past p r (Answered reply) = reply ≡ flat_reply config (flat_after config past) p r
IsRightNext config past p r other = Unit {0}

-- the entries that are given may be made: each is legal after those before it, and there is room for them
pub record MayGive (s : History) (seat : Seat) (g : GivenNext) : Type 0 where
  pub legal : AreLegal s.config s.past seat.0 g.made
  pub room : owed s.past + 64 ≤ s.spare

-- what may be asked of the seat of a process that refers to memory: the seat is ready, the reference is well formed, the
-- entries that are given may be made, and the seat's carrier has no lifts
pub record MayRefer {B : Type 0} (s : History) (seat : Seat) (r : Ref) (g : GivenNext) (old : CarrierView B) : Type 0 where
  pub ready : IsReadySeat s seat
  pub formed : IsWellFormedReference r
  pub may : MayGive s seat g
  pub carrier : old ≡ empty seat

-- and of the seat whose page is sought
pub record MaySeek {B : Type 0} (s : History) (x : Sought) (g : GivenNext) (old : CarrierView B) : Type 0 where
  pub sought : IsSought s x
  pub refers : MayRefer s x.seat x.r g old

module _ {B : Type 0} (seen : B → BlockView) where
  -- what a call leaves of the history and of the seat's carrier, and what it returns
  pub record Gives (tells : Tells) (before after : History) (seat : Seat) (r : Ref) (g : GivenNext) (next : Next) (old new : CarrierView B) : Type 0 where
    pub given : IsGiven before after seat g next
    pub right : tells.content ≡ true → IsRightNext before.config before.past seat.0 r next
    pub carrier : IsCarrying seen tells after seat g.made next old new
