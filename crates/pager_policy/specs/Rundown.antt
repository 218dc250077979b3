-- The rundown, by the writer's seat, after the report's place: shared pages are evicted, slot by slot, and
-- written in two rounds. This project's own.
use Rattle.std.specs.Prelude.{ℕ, zero, suc, Bool, false, ◌+◌, ◌-◌, ◌&&◌, List, [], ◌∷◌, Option, Some, None, length, find, nat_le, nat_lt, not, if◌then◌else◌}
use Rattle.std.specs.List.{list_any, range_with_len}
use Rattle.vm_types.specs.declared.names.Page.{Page}
use Rattle.vm_types.specs.declared.config.Config.{Config}
use Rattle.vm_journal.specs.declared.entry.Entry.{Entry}
use Rattle.vm_journal.specs.declared.entry.EvictWhy.TheVariants as evict
use Rattle.vm_journal.specs.declared.entry.What.{What}
use Rattle.pager_policy.specs.Advance.{following}
use Rattle.pager_policy.specs.Cleaning.{Cleaning, evicting, rounds}
use Rattle.pager_policy.specs.Given.{Seen, eviction, is_stopped, seen_at, slots_of}
use Rattle.pager_model.specs.Lookups.{passes}
use Rattle.pager_model.specs.Maps.{is_private}
use Rattle.pager_policy.specs.Moves.{Control, Move, carries, cleaning, control, goes, makes, rests}
use Rattle.pager_model.specs.Pager.{Pager}
use Rattle.pager_policy.specs.Swap.{is_shared_seen}
use Rattle.pager_policy.specs.WriteCluster.{begin_gives, reason_need}

abbrev pub writer_of : Config → ℕ
writer_of config = length config.procs

-- ---- the second step: two rounds, each with as many lifts as the modified list has at its start
abbrev pub holds_shared : Option Page → Bool
holds_shared None = false
holds_shared (Some g) = not (is_private g)

abbrev pub is_shared_listed : Pager → Bool
is_shared_listed a = list_any (λ (f : ℕ). holds_shared (a.page f)) a.modified

abbrev pub written_for_need : Config → Pager → List What
written_for_need config a = (begin_gives config a reason_need).made

-- one cluster; its last lifts may pass the number
abbrev pub round_move : Config → Pager → ℕ → ℕ → Move
round_move config a following left =
    carries (writer_of config) (written_for_need config a) (λ (all first : Bool). goes (control (cleaning (rounds following (left - length (written_for_need config a))))))

abbrev pub next_round : Config → Pager → ℕ → Move
next_round config a zero = rests
next_round config a (suc following) = round_move config a following (length a.modified)

-- a round goes on while it has lifts left; all of it ends where no shared page is on the list
abbrev pub rounds_move : Config → Pager → ℕ → ℕ → Move
rounds_move config a following left =
    if is_shared_listed a then (if nat_lt 0 left then round_move config a following left else next_round config a following) else rests

-- ---- the first step: each process in order, and each of its slots that holds a shared page
pub record Place : Type 0 where
  pub process : ℕ
  pub slot : ℕ

abbrev pub is_shared_at : Pager → ℕ → ℕ → Bool
is_shared_at a p n = passes is_shared_seen (seen_at a p n)

-- the first such slot of the process from n on
abbrev pub shared_from : Pager → ℕ → ℕ → Option ℕ
shared_from a p n = find (λ (m : ℕ). nat_le n m && is_shared_at a p m) (slots_of a p)

abbrev pub place_in : ℕ → Option ℕ → Option Place → Option Place
place_in p (Some n) later = Some (record { process = p; slot = n })
place_in p None later = later

-- the first such slot of these processes
abbrev pub shared_of_processes : Pager → List ℕ → Option Place
shared_of_processes a [] = None
shared_of_processes a (p ∷ processes) = place_in p (shared_from a p 0) (shared_of_processes a processes)

-- from this process and slot on
abbrev pub shared_place : Config → Pager → ℕ → ℕ → Option Place
shared_place config a p n = place_in p (shared_from a p n) (shared_of_processes a (range_with_len (p + 1) (length config.procs - (p + 1))))

abbrev pub at_slot : ℕ → ℕ → Bool → Control
at_slot p n failed = control (cleaning (evicting p n failed))

-- the page at a place is evicted, unless that is stopped: then one cluster is written first, again and again
-- until one fails; then the page stays valid, and the next place is looked at
abbrev pub clean_move : Config → List Entry → Pager → Place → Bool → Move → Option Seen → Move
clean_move config past a at failed later None = later
clean_move config past a at failed later (Some s) =
    if not (is_stopped config past a s.frame)
    then makes (writer_of config) (eviction past a at.process s.vpn s.frame evict.Rundown ∷ []) (at_slot at.process (at.slot + 1) false)
    else (if failed then later else carries (writer_of config) (written_for_need config a) (λ (all first : Bool). goes (at_slot at.process at.slot all)))

abbrev pub place_move : Config → List Entry → Pager → Bool → (Place → Move) → Option Place → Move
place_move config past a failed later None = rounds_move config a 2 0
place_move config past a failed later (Some at) = clean_move config past a at failed (later at) (seen_at a at.process at.slot)

-- from the place after this one, where no carrier has failed yet
abbrev pub later_move : Config → List Entry → Pager → Place → Move
later_move config past a at = place_move config past a false (λ (next : Place). rests) (shared_place config a at.process (at.slot + 1))

abbrev pub cleaning_move : Config → List Entry → Pager → Cleaning → Move
cleaning_move config past a (evicting p n failed) = place_move config past a failed (later_move config past a) (shared_place config a p n)
cleaning_move config past a (rounds following left) = rounds_move config a following left
