-- Where in the rundown the entries so far stand, as plain values, and which entry may come next. This project's own.
use Rattle.std.specs.Prelude.{◌≡◌, Bool, true, false, ◌&&◌, List, [], ◌∷◌, ◌++◌, Option, Some, None, nat_eq, if◌then◌else◌}
use Rattle.std.specs.Option.{option_map}
use Rattle.vm_types.specs.Same.{same_block, same_state}
use Rattle.vm_types.specs.declared.config.Config.{Config}
use Rattle.vm_journal.specs.declared.entry.Entry.{Entry}
use Rattle.vm_journal.specs.declared.entry.EvictWhy.TheVariants as evict
use Rattle.vm_journal.specs.declared.entry.What.{What}
use Rattle.vm_journal.specs.declared.entry.What.TheVariants as what
use Rattle.pager_policy.specs.Cleaning.{Cleaning, evicting}
use Rattle.pager_model.specs.Counted.{last_count}
use Rattle.pager_model.specs.Flights.{Flight, carrier_of}
use Rattle.pager_policy.specs.Moves.{After, Doing, Move, carries, cleaning, goes, makes, rests}
use Rattle.pager_model.specs.Run.{pager_after}
use Rattle.pager_policy.specs.Rundown.{cleaning_move, writer_of}

-- where the rundown goes on once a cluster's writes have landed: if all of them failed, and if not; whether the
-- first one failed makes no difference in a rundown
pub record Onward : Type 0 where
  pub failed : Cleaning
  pub written : Cleaning

-- a move of the rundown: one eviction, and where the rundown is after it; or the OUTs of a cluster, and where it
-- goes on after their landings; or none
pub data Plan : Type 0 where
  evicts : What → Cleaning → Plan
  writes : List What → Onward → Plan
  no_move : Plan

-- between two moves; in a cluster whose next OUTs are these; or in one whose flights are to land in this order,
-- and whether each one that landed has failed
pub data Underway : Type 0 where
  between_moves : Cleaning → Underway
  in_outs : List What → Onward → Underway
  in_landings : List Flight → Bool → Onward → Underway

-- ---- the move as plain values
abbrev pub evicts_to : What → Doing → Plan
evicts_to w (cleaning at) = evicts w at
evicts_to w other = no_move

abbrev pub writes_to : List What → Doing → Doing → Plan
writes_to ws (cleaning failed) (cleaning written) = writes ws (record { failed = failed; written = written })
writes_to ws doing other = no_move

abbrev pub writes_on : List What → After → After → Plan
writes_on ws (goes c) (goes d) = writes_to ws c.doing d.doing
writes_on ws after other = no_move

abbrev pub plan_of : Move → Plan
plan_of (makes seat (w ∷ []) c) = evicts_to w c.doing
plan_of (carries seat ws onward) = writes_on ws (onward true true) (onward false false)
plan_of other = no_move

abbrev pub plan_at : Config → List Entry → Cleaning → Plan
plan_at config past at = plan_of (cleaning_move config past (pager_after config past) at)

-- ---- whether an entry is the one that is expected
-- the same eviction of the rundown, or the same OUT
abbrev pub same_made : What → What → Bool
same_made (what.Evict p address f evict.Rundown to) (what.Evict q other g evict.Rundown also) = nat_eq p.0 q.0 && (nat_eq address.0 other.0 && (nat_eq f.0 g.0 && same_state to also))
same_made (what.Out f b) (what.Out g c) = nat_eq f.0 g.0 && same_block b c
same_made w other = false

-- by the writer's seat
abbrev pub is_made : Config → What → Entry → Bool
is_made config w e = nat_eq (e.seat).0 (writer_of config) && same_made w e.what

-- whether the flight's landing failed, as the entry shows it; None if this isn't its landing
abbrev pub shown_as : List Entry → Flight → What → Option Bool
shown_as past x (what.OutOk f k) = if nat_eq f.0 x.frame && nat_eq k x.start then Some false else None
shown_as past x (what.OutFail f k c d) = if nat_eq f.0 x.frame && (nat_eq k x.start && nat_eq c (last_count x.block past)) then Some true else None
shown_as past x other = None

abbrev pub landed_as : Config → List Entry → Flight → Entry → Option Bool
landed_as config past x e = if nat_eq (e.seat).0 (writer_of config) then shown_as past x e.what else None

-- ---- the next entry
-- where no flight is left to land the move has ended
abbrev pub after_landings : List Flight → Bool → Onward → Underway
after_landings [] all onward = between_moves (if all then onward.failed else onward.written)
after_landings (x ∷ flights) all onward = in_landings (x ∷ flights) all onward

-- where no OUT is left the flights of the writer's seat land, in the order in which they were begun
abbrev pub after_outs : Config → List Entry → List What → Onward → Underway
after_outs config past [] onward = after_landings (carrier_of (writer_of config) past) true onward
after_outs config past (w ∷ ws) onward = in_outs (w ∷ ws) onward

abbrev pub step_outs : Config → List Entry → List What → Onward → Entry → Option Underway
step_outs config past [] onward e = None
step_outs config past (w ∷ ws) onward e = if is_made config w e then Some (after_outs config (e ∷ past) ws onward) else None

abbrev pub step_landings : Config → List Entry → List Flight → Bool → Onward → Entry → Option Underway
step_landings config past [] all onward e = None
step_landings config past (x ∷ flights) all onward e = option_map (λ (bad : Bool). after_landings flights (all && bad) onward) (landed_as config past x e)

abbrev pub step_plan : Config → List Entry → Plan → Entry → Option Underway
step_plan config past (evicts w at) e = if is_made config w e then Some (between_moves at) else None
step_plan config past (writes ws onward) e = step_outs config past ws onward e
step_plan config past no_move e = None

-- where this entry leads to, after a past that stands here; None if it can't come next
abbrev pub step : Config → List Entry → Underway → Entry → Option Underway
step config past (between_moves at) e = step_plan config past (plan_at config past at) e
step config past (in_outs ws onward) e = step_outs config past ws onward e
step config past (in_landings flights all onward) e = step_landings config past flights all onward e

abbrev pub step_from : Config → List Entry → Option Underway → Entry → Option Underway
step_from config past None e = None
step_from config past (Some u) e = step config past u e

-- where the entries after the report, the newest first, stand; None if one of them couldn't come next
abbrev pub underway_after : Config → List Entry → List Entry → Option Underway
underway_after config past [] = Some (between_moves (evicting 0 0 false))
underway_after config past (e ∷ rest) = step_from config (rest ++ past) (underway_after config past rest) e

-- between two moves, and the policy has none
abbrev pub IsAtRest : Config → List Entry → Underway → Type 0
IsAtRest config past (between_moves at) = cleaning_move config past (pager_after config past) at ≡ rests
IsAtRest config past (in_outs ws onward) = ⊥
IsAtRest config past (in_landings flights all onward) = ⊥
