-- Which move of the rundown is chosen.
use Rattle.std.proofs.Common.{◌≡◌, ◌↔◌, ℕ, suc, ◌+◌, ◌-◌, ◌<◌, ◌≤◌, Bool, true, false, cond, not, List, [], ◌∷◌, Some, None, IsTrue, length, nat_lt, refl, sym, ap, ◌∙◌, arith}
use Rattle.std.proofs.lemmas.Bool.{false≢true, le-ltb, lt-ltb}
use Rattle.vm_types.specs.declared.config.Config.{Config}
use Rattle.vm_types.specs.declared.names.FrameState.{FrameState}
use Rattle.vm_journal.specs.declared.entry.Entry.{Entry}
use Rattle.vm_journal.specs.declared.entry.EvictWhy.TheVariants as evict
use Rattle.vm_journal.specs.declared.entry.What.TheVariants as what
use Rattle.pager_policy.specs.Given.{Seen as SeenIs, goes_to, is_stopped, page_address, seen_at}
use Rattle.pager_model.specs.Maps.{pfn, proc}
use Rattle.pager_policy.specs.Moves.{Move, carries, goes, makes, rests}
use Rattle.pager_model.specs.Pager.{Pager}
use Rattle.pager_policy.specs.Rundown.{Place as PlaceIs, at_slot, clean_move, is_shared_listed, next_round, round_move, rounds_move, writer_of, written_for_need}
use Rattle.log_rundown.specs.Chosen.{is_rest, move_as}
use Rattle.log_rundown.specs.declared.choice.Choice.{Choice}
use Rattle.log_rundown.specs.declared.choice.Choice.TheVariants.{EvictsPage, Rests, WritesBefore, WritesRound}

if_true : {X : Type 0} (b : Bool) (x y : X) → b ≡ true → cond b x y ≡ x
if_true {X} b x y is = ap (λ (c : Bool). cond c x y) is

if_false : {X : Type 0} (b : Bool) (x y : X) → b ≡ false → cond b x y ≡ y
if_false {X} b x y is = ap (λ (c : Bool). cond c x y) is

-- ---- the rounds
module _ (config : Config) (a : Pager) (following left : ℕ) where
  abbrev round : Move
  round = round_move config a following left

  abbrev the_move : Move
  the_move = rounds_move config a following left

  pub none_listed : false ≡ is_shared_listed a → rests ≡ the_move
  none_listed is = sym (if_false (is_shared_listed a) (cond (nat_lt 0 left) round (next_round config a following)) rests (sym is))

  module _ (listed : true ≡ is_shared_listed a) where
    listed_if : the_move ≡ cond (nat_lt 0 left) round (next_round config a following)
    listed_if = if_true (is_shared_listed a) (cond (nat_lt 0 left) round (next_round config a following)) rests (sym listed)

    pub goes_on : 0 < left → round ≡ the_move
    goes_on some = sym (listed_if ∙ if_true (nat_lt 0 left) round (next_round config a following) (lt-ltb 0 left some))

    next_if : left ≤ 0 → the_move ≡ next_round config a following
    next_if none = listed_if ∙ if_false (nat_lt 0 left) round (next_round config a following) (le-ltb 0 left none)

    pub last_over : left ≤ 0 → following ≡ 0 → rests ≡ the_move
    last_over none no_more = sym (next_if none ∙ ap (next_round config a) no_more)

    pub next_begins : (count : ℕ) → left ≤ 0 → 0 < following → count ≡ length a.modified → round_move config a (following - 1) count ≡ the_move
    next_begins count none some is =
        let more : following ≡ suc (following - 1) = omega (arith, some) in
        sym (next_if none ∙ (ap (next_round config a) more ∙ ap (round_move config a (following - 1)) (sym is)))

-- ---- at a place
module _ (config : Config) (past : List Entry) (a : Pager) (p n : ℕ) (failed : Bool) (later : Move) where
  abbrev at : PlaceIs
  at = record { process = p; slot = n }

  abbrev the_clean_move : Move
  the_clean_move = clean_move config past a at failed later (seen_at a p n)

  pub none_seen : None ≡ seen_at a p n → later ≡ the_clean_move
  none_seen is = ap (clean_move config past a at failed later) is

  module _ (s : SeenIs) (is : Some s ≡ seen_at a p n) where
    abbrev evicting_to : FrameState → Move
    evicting_to to = makes (writer_of config) (what.Evict (proc p) (page_address s.vpn) (pfn s.frame) evict.Rundown to ∷ []) (at_slot p (n + 1) false)

    abbrev evicting_it : Move
    evicting_it = evicting_to (goes_to past a s.frame)

    abbrev writing_first : Move
    writing_first = carries (writer_of config) (written_for_need config a) (λ (all first : Bool). goes (at_slot p n all))

    seen_if : the_clean_move ≡ cond (not (is_stopped config past a s.frame)) evicting_it (cond failed later writing_first)
    seen_if = ap (clean_move config past a at failed later) (sym is)

    pub evicts : (to : FrameState) → to ≡ goes_to past a s.frame → is_stopped config past a s.frame ≡ false → evicting_to to ≡ the_clean_move
    evicts to goes_so free = ap evicting_to goes_so ∙ sym (seen_if ∙ if_true (not (is_stopped config past a s.frame)) evicting_it (cond failed later writing_first) (ap not free))

    stopped_if : is_stopped config past a s.frame ≡ true → the_clean_move ≡ cond failed later writing_first
    stopped_if stopped = seen_if ∙ if_false (not (is_stopped config past a s.frame)) evicting_it (cond failed later writing_first) (ap not stopped)

    pub goes_later : is_stopped config past a s.frame ≡ true → failed ≡ true → later ≡ the_clean_move
    goes_later stopped bad = sym (stopped_if stopped ∙ if_true failed later writing_first bad)

    pub writes_first : is_stopped config past a s.frame ≡ true → failed ≡ false → writing_first ≡ the_clean_move
    writes_first stopped good = sym (stopped_if stopped ∙ if_false failed later writing_first good)

-- ---- none
pub rests_if : (config : Config) (a : Pager) (x : Choice) → IsTrue (is_rest x) ↔ (move_as config a x ≡ rests)
rests_if config a (EvictsPage x n) = (λ is. absurd (false≢true is), λ is. absurd (cc))
rests_if config a (WritesBefore p n) = (λ is. absurd (false≢true is), λ is. absurd (cc))
rests_if config a (WritesRound following left) = (λ is. absurd (false≢true is), λ is. absurd (cc))
rests_if config a Rests = (λ is. refl, λ is. refl)
