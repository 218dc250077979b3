-- The rundown's moves answer no request, so what was answered stays so.
use Rattle.std.proofs.Common.{◌≡◌, ℕ, zero, suc, ◌+◌, ◌-◌, Bool, true, false, cond, not, List, [], ◌∷◌, ◌++◌, Option, Some, None, length, map, nat_lt, refl, sym, ap, ◌∙◌, subst}
use Rattle.std.specs.List.{AllByRecursion}
use Rattle.std.proofs.lemmas.List.{append-nil}
use Rattle.std.proofs.lemmas.Option.{none-some}
use Rattle.vm_types.specs.declared.config.Config.{Config}
use Rattle.vm_types.specs.declared.names.Page.{Page}
use Rattle.vm_types.specs.declared.reply.Reply.{Reply}
use Rattle.vm_types.specs.declared.service.Request.{Request}
use Rattle.vm_journal.specs.declared.entry.Entry.{Entry}
use Rattle.vm_journal.specs.declared.entry.EvictWhy.TheVariants as evict
use Rattle.vm_journal.specs.declared.entry.What.{What}
use Rattle.vm_journal.specs.declared.entry.What.TheVariants as what
use Rattle.pager_policy.specs.Cleaning.{Cleaning as CleaningIs, evicting, rounds}
use Rattle.pager_model.specs.Flights.{Direction, Flight, reading, writing, carrier_of}
use Rattle.pager_policy.specs.Given.{Seen as Shown, by_seat, eviction, is_stopped, made_by, seen_at, with_reply}
use Rattle.pager_policy.specs.Landings.{Outcome, all_bad, first_bad, landed_by, landing, reuse_of, went_badly, went_well}
use Rattle.pager_policy.specs.Moves.{After, Control as ControlIs, Move, carries, cleaning, control, goes, makes, rests}
use Rattle.pager_model.specs.Order.{answered, spoken_by}
use Rattle.pager_model.specs.Pager.{Pager}
use Rattle.pager_model.specs.Run.{pager_after}
use Rattle.pager_policy.specs.Rundown.{Place as PlaceIs, at_slot, clean_move, cleaning_move, is_shared_listed, later_move, next_round, place_move, round_move, rounds_move, shared_place, writer_of, written_for_need}
use Rattle.pager_policy.specs.Serial.{GoesOn, Heard, IsMade}
use Rattle.pager_model.specs.Spoken.{request_of}
use Rattle.pager_policy.specs.WriteCluster.{BeginIs, begin_carry, begin_gives, begin_nothing, reason_need}
use Rattle.carried_landings.proofs.Shapes.{AreStarts, BeginShape, IsStart, begin_shape}

-- an entry that answers no request
abbrev pub IsUnspoken : What → Type 0
IsUnspoken w = request_of w ≡ None

abbrev pub AreUnspoken : List What → Type 0
AreUnspoken ws = AllByRecursion IsUnspoken ws

start_unspoken : (w : What) → IsStart w → IsUnspoken w
start_unspoken (what.Done r reply) start = absurd start
start_unspoken (what.Denied r why) start = absurd start
start_unspoken (what.Served s answer) start = absurd start
start_unspoken other start = refl

starts_unspoken : (ws : List What) → AreStarts ws → AreUnspoken ws
starts_unspoken [] starts = tt
starts_unspoken (w ∷ ws) starts = (start_unspoken w starts.0, starts_unspoken ws starts.1)

replied_one : (shown : Reply) (w : What) → IsUnspoken w → IsUnspoken (with_reply shown w)
replied_one shown (what.Done r reply) unspoken = absurd (none-some _ (sym unspoken))
replied_one shown other unspoken = unspoken

replied : (shown : Reply) (ws : List What) → AreUnspoken ws → AreUnspoken (map (with_reply shown) ws)
replied shown [] unspoken = tt
replied shown (w ∷ ws) unspoken = (replied_one shown w unspoken.0, replied shown ws unspoken.1)

landing_unspoken : (past : List Entry) (page : ℕ → Option Page) (x : Flight) (d : Direction) (o : Outcome) → AreUnspoken (landing past page x d o)
landing_unspoken past page x (reading r) went_well = (refl, tt)
landing_unspoken past page x (reading r) (went_badly n) = (refl, by (page x.frame))
  where
    by : (o : Option Page) → AreUnspoken (reuse_of x.frame o)
    by None = tt
    by (Some g) = (refl, tt)
landing_unspoken past page x writing went_well = (refl, tt)
landing_unspoken past page x writing (went_badly n) = (refl, tt)

-- ---- behind such entries as much was answered as before
module _ (p seat : ℕ) where
  pub made_answered : (ws : List What) (past : List Entry) → AreUnspoken ws → answered p (made_by seat ws past) ≡ answered p past
  made_answered [] past unspoken = refl
  made_answered (w ∷ ws) past unspoken =
      made_answered ws (by_seat seat w ∷ past) unspoken.1
      ∙ (ap (λ (o : Option Request). answered p past ++ spoken_by p seat o) unspoken.0 ∙ append-nil (answered p past))

  pub landed_answered : (config : Config) (flights : List Flight) (outcomes : List Outcome) (past : List Entry) → answered p (landed_by config seat flights outcomes past) ≡ answered p past
  landed_answered config [] outcomes past = refl
  landed_answered config (x ∷ flights) [] past = refl
  landed_answered config (x ∷ flights) (o ∷ outcomes) past =
      landed_answered config flights outcomes (made_by seat (landing past (pager_after config past).page x x.direction o) past)
      ∙ made_answered (landing past (pager_after config past).page x x.direction o) past (landing_unspoken past (pager_after config past).page x x.direction o)

-- ---- a move whose entries answer no request, and whose carrier's landing refuses none
abbrev pub IsUnspokenMove : Move → Type 0
IsUnspokenMove (makes seat ws c) = AreUnspoken ws
IsUnspokenMove (carries seat ws onward) = AreUnspoken ws × ((all first : Bool) → (c : ControlIs) × (onward all first ≡ goes c))
IsUnspokenMove rests = Unit {0}

pub record MoveIsUnspoken (m : Move) : Type 0 where
  pub known : IsUnspokenMove m

pub move_answered : (config : Config) (past : List Entry) (heard : Heard) (more : List Entry) (next : ControlIs) (m : Move) → IsUnspokenMove m → IsMade config past heard more next m → (p : ℕ) → answered p more ≡ answered p past
move_answered config past heard more next (makes seat ws c) unspoken made p =
    ap (answered p) made.0 ∙ made_answered p seat (map (with_reply heard.reply) ws) past (replied heard.reply ws unspoken)
move_answered config past heard more next (carries seat ws onward) unspoken made p =
    ap (answered p) there.0
    ∙ (landed_answered p seat config (carrier_of seat (made_by seat ws past)) heard.outcomes (made_by seat ws past) ∙ made_answered p seat ws past unspoken.0)
  where
    landed : List Entry
    landed = landed_by config seat (carrier_of seat (made_by seat ws past)) heard.outcomes (made_by seat ws past)

    to : (c : ControlIs) × (onward (all_bad heard.outcomes) (first_bad heard.outcomes) ≡ goes c)
    to = unspoken.1 (all_bad heard.outcomes) (first_bad heard.outcomes)

    there : (more ≡ landed) × (next ≡ to.0)
    there = subst (λ (x : After). GoesOn config landed more next x) to.1 made.on
move_answered config past heard more next rests unspoken made p = absurd made

-- ---- the rundown's moves are such
begun_unspoken : (answer : BeginIs) (made : List What) → BeginShape answer made → AreUnspoken made
begun_unspoken begin_carry made shape = starts_unspoken made shape
begun_unspoken begin_nothing made shape = subst AreUnspoken (sym shape) tt

module _ (config : Config) (past : List Entry) (a : Pager) where
  cluster_unspoken : AreUnspoken (written_for_need config a)
  cluster_unspoken = begun_unspoken (begin_gives config a reason_need).answer (begin_gives config a reason_need).made (begin_shape config a reason_need)

  either : (b : Bool) (x y : Move) → MoveIsUnspoken x → MoveIsUnspoken y → MoveIsUnspoken (cond b x y)
  either true x y first second = first
  either false x y first second = second

  resting : MoveIsUnspoken rests
  resting = record { known = tt }

  cluster : (to : Bool → Bool → CleaningIs) → MoveIsUnspoken (carries (writer_of config) (written_for_need config a) (λ (all first : Bool). goes (control (cleaning (to all first)))))
  cluster to = record { known = (cluster_unspoken, λ all first. (control (cleaning (to all first)), refl)) }

  round_unspoken : (following left : ℕ) → MoveIsUnspoken (round_move config a following left)
  round_unspoken following left = cluster (λ (all first : Bool). rounds following (left - length (written_for_need config a)))

  next_unspoken : (following : ℕ) → MoveIsUnspoken (next_round config a following)
  next_unspoken zero = resting
  next_unspoken (suc following) = round_unspoken following (length a.modified)

  rounds_unspoken : (following left : ℕ) → MoveIsUnspoken (rounds_move config a following left)
  rounds_unspoken following left =
      either (is_shared_listed a) (cond (nat_lt 0 left) (round_move config a following left) (next_round config a following)) rests
      (either (nat_lt 0 left) (round_move config a following left) (next_round config a following) (round_unspoken following left) (next_unspoken following)) resting

  abbrev evicted : PlaceIs → Shown → Move
  evicted at s = makes (writer_of config) (eviction past a at.process s.vpn s.frame evict.Rundown ∷ []) (at_slot at.process (at.slot + 1) false)

  abbrev written_at : PlaceIs → Move
  written_at at = carries (writer_of config) (written_for_need config a) (λ (all first : Bool). goes (at_slot at.process at.slot all))

  clean_unspoken : (at : PlaceIs) (failed : Bool) (later : Move) (o : Option Shown) → MoveIsUnspoken later → MoveIsUnspoken (clean_move config past a at failed later o)
  clean_unspoken at failed later None known = known
  clean_unspoken at failed later (Some s) known =
      either (not (is_stopped config past a s.frame)) (evicted at s) (cond failed later (written_at at)) (record { known = (refl, tt) })
      (either failed later (written_at at) known (cluster (λ (all first : Bool). evicting at.process at.slot all)))

  place_unspoken : (failed : Bool) (later : PlaceIs → Move) (o : Option PlaceIs) → ((at : PlaceIs) → MoveIsUnspoken (later at)) → MoveIsUnspoken (place_move config past a failed later o)
  place_unspoken failed later None known = rounds_unspoken 2 0
  place_unspoken failed later (Some at) known = clean_unspoken at failed (later at) (seen_at a at.process at.slot) (known at)

  later_unspoken : (at : PlaceIs) → MoveIsUnspoken (later_move config past a at)
  later_unspoken at = place_unspoken false (λ (next : PlaceIs). rests) (shared_place config a at.process (at.slot + 1)) (λ next. resting)

  pub cleaning_unspoken : (at : CleaningIs) → MoveIsUnspoken (cleaning_move config past a at)
  cleaning_unspoken (evicting p n failed) = place_unspoken failed (later_move config past a) (shared_place config a p n) later_unspoken
  cleaning_unspoken (rounds following left) = rounds_unspoken following left
