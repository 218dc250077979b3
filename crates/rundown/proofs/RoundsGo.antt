-- The moves of the rounds.
use Rattle.std.proofs.Common.{◌≡◌, ℕ, suc, ◌-◌, ◌<◌, ◌≤◌, Bool, true, false, cond, length, nat_lt, refl, sym, ap, ◌∙◌, subst, arith}
use Rattle.std.proofs.lemmas.Bool.{le-ltb, lt-ltb}
use Rattle.pager_policy.specs.Cleaning.{rounds}
use Rattle.pager_policy.specs.Moves.{Control as ControlIs, Move, cleaning, control, goes, rests}
use Rattle.pager_policy.specs.Rundown.{is_shared_listed, next_round, round_move, rounds_move, written_for_need}
use Rattle.call_begins.proofs.Branches.{if_false, if_true}
use Rattle.vm_state.specs.History.{History, pager}
use Rattle.carried_landings.specs.Moved.{IsMoved, IsResting}
use Rattle.rundown.specs.Cleans.{HasWritten}

abbrev pub in_round : ℕ → ℕ → ControlIs
in_round following left = control (cleaning (rounds following left))

-- a cluster of a round
pub round_moved : (s t : History) (tells all_failed : Bool) (following left rest writes : ℕ) → rest ≡ left - writes → writes ≡ length (written_for_need s.config (pager s)) → HasWritten tells s t all_failed
    → IsMoved tells s t (round_move s.config (pager s) following left) (in_round following rest)
round_moved s t tells all_failed following left rest writes rest_is count written =
    written (λ (all first : Bool). goes (in_round following (left - length (written_for_need s.config (pager s))))) (in_round following rest)
    (λ first. ap (λ (n : ℕ). goes (in_round following n)) (sym (rest_is ∙ ap (λ (n : ℕ). left - n) count)))

module _ (s : History) (following left : ℕ) where
  abbrev round : Move
  round = round_move s.config (pager s) following left

  abbrev the_move : Move
  the_move = rounds_move s.config (pager s) following left

  pub none_listed : false ≡ is_shared_listed (pager s) → the_move ≡ rests
  none_listed is = if_false (is_shared_listed (pager s)) (cond (nat_lt 0 left) round (next_round s.config (pager s) following)) rests (sym is)

  module _ (listed : true ≡ is_shared_listed (pager s)) where
    listed_if : the_move ≡ cond (nat_lt 0 left) round (next_round s.config (pager s) following)
    listed_if = if_true (is_shared_listed (pager s)) (cond (nat_lt 0 left) round (next_round s.config (pager s) following)) rests (sym listed)

    pub goes_on : 0 < left → the_move ≡ round
    goes_on some = listed_if ∙ if_true (nat_lt 0 left) round (next_round s.config (pager s) following) (lt-ltb 0 left some)

    next_if : left ≤ 0 → the_move ≡ next_round s.config (pager s) following
    next_if none = listed_if ∙ if_false (nat_lt 0 left) round (next_round s.config (pager s) following) (le-ltb 0 left none)

    pub last_over : left ≤ 0 → following ≡ 0 → the_move ≡ rests
    last_over none no_more = next_if none ∙ ap (next_round s.config (pager s)) no_more

    pub next_begins : (listed_now : ℕ) → left ≤ 0 → 0 < following → listed_now ≡ length (pager s).modified → the_move ≡ round_move s.config (pager s) (following - 1) listed_now
    next_begins listed_now none some is =
        let more : following ≡ suc (following - 1) = omega (arith, some) in
        next_if none ∙ (ap (next_round s.config (pager s)) more ∙ ap (round_move s.config (pager s) (following - 1)) (sym is))

pub resting : (s : History) (m : Move) → m ≡ rests → IsResting s s m
resting s m is = record { rest = is; none_made = refl; same = refl }

pub moved_as : (tells : Bool) (s t : History) (m other : Move) (c : ControlIs) → m ≡ other → IsMoved tells s t other c → IsMoved tells s t m c
moved_as tells s t m other c is moved = subst (λ (x : Move). IsMoved tells s t x c) (sym is) moved
