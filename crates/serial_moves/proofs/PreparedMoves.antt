-- Room was made before a move: what held, and what the move leaves.
use Rattle.std.proofs.Common.{◌≡◌, ℕ, ◌≤◌, Bool, List, Option, Some, None, Result, Ok, Err, IfOk, IfSome, refl, sym, ap, ◌∙◌, subst}
use Rattle.std.specs.Option.{option_map}
use Rattle.vm_types.specs.declared.names.Proc.{Proc}
use Rattle.vm_journal.specs.declared.entry.Entry.{Entry}
use Rattle.pager_policy.specs.Moves.{Control as ControlIs, Move}
use Rattle.pager_policy.specs.Policy.{asking_move, move_of}
use Rattle.serial_laws.specs.Between.{IsBetween}
use Rattle.policy_ends.proofs.FirstRows.{first_row}
use Rattle.serial_laws.specs.Controlled.{IsAnsweredProcess, IsControlled, IsInBody, IsLeft}
use Rattle.vm_state.specs.History.{History, pager}
use Rattle.carried_landings.specs.Moved.{IsMoveHere, IsSameBut, IsSteady, MovesTo}
use Rattle.serial_moves.specs.Controls.{ComesTo, AsksNext, Moves, MovesByTable, control_in, doing_in, number_of}
use Rattle.serial_moves.specs.declared.control.AfterAnswer.{AfterAnswer}
use Rattle.serial_moves.specs.declared.control.Control.{Control}
use Rattle.serial_moves.specs.declared.control.Doing.{Doing}
use Rattle.serial_moves.specs.declared.control.Doing.TheVariants.{Asking, Freeing, Saving}

-- how many places are spare doesn't matter to a move
spared : (s t : History) (k : ℕ) (tells : Bool) (m : Move) (o : Option ControlIs) → MovesTo tells (record s { spare = k }) t m o → MovesTo tells s t m o
spared s t k tells m None moved = record { rest = moved.rest; none_made = moved.none_made; same = moved.same }
spared s t k tells m (Some c) moved = record { heard = moved.heard; made = moved.made; same = moved.same; right = moved.right }

in_body : (d : Doing) → IsInBody (doing_in d)
in_body Asking = tt
in_body (Saving begun p) = tt
in_body (Freeing begun p) = tt

-- where the code is, at this part
abbrev pub control_at : Control → Doing → ControlIs
control_at c d = record { doing = doing_in d; leaving = option_map number_of c.leaving }

-- what was made is the first row of the tables that holds
pub row_made : (tells : Bool) (s t : History) (c : Control) (goes : Option Control) → IsBetween s.config s.past → Moves tells s t (move_of s.config s.past (control_in c)) goes
    → MovesByTable tells s t (control_in c) goes
row_made tells s t c goes between moved = record {
  says = move_of s.config s.past (control_in c);
  first = λ reply. first_row s.config s.past reply (control_in c) between.formed between.run;
  so = moved;
}

pub made_by_table : {E : Type 0} (tells : Bool) (s t : History) (c : Control) (r : Result (Option Control) E) → IsBetween s.config s.past
    → IfOk r (Moves tells s t (move_of s.config s.past (control_in c))) → IfOk r (MovesByTable tells s t (control_in c))
made_by_table tells s t c (Err e) between moved = tt
made_by_table tells s t c (Ok goes) between moved = row_made tells s t c goes between moved

-- ---- where the policy is
module _ (s : History) (c : Control) (fits : IsControlled s.config s.past (control_in c)) where
  pub here_at : (d : Doing) → c.doing ≡ d → IsMoveHere s (move_of s.config s.past (control_at c d))
  here_at d there_is = record {
    at = control_in c;
    fits = fits;
    body = in_body c.doing;
    is = ap (λ (x : Doing). move_of s.config s.past (control_at c x)) there_is;
  }

  pub process_at : (d : Doing) → c.doing ≡ d → IsAnsweredProcess s.config (doing_in d)
  process_at d is = subst (λ (x : Doing). IsAnsweredProcess s.config (doing_in x)) is fits.answered_process

  pub left_at : IfSome c.leaving (λ (q : Proc). IsLeft s.config (pager s) q.0)
  left_at = go c.leaving fits.leaving
    where
      go : (o : Option Proc) → ((q : ℕ) → option_map number_of o ≡ Some q → IsLeft s.config (pager s) q) → IfSome o (λ (q : Proc). IsLeft s.config (pager s) q.0)
      go None left = tt
      go (Some q) left = left q.0 refl

  pub comes_at : {E : Type 0} (tells : Bool) (t : History) (r : Result AfterAnswer E) (d : Doing) → c.doing ≡ d
      → IfOk r (ComesTo tells s t (move_of s.config s.past (control_at c d))) → IfOk r (ComesTo tells s t (move_of s.config s.past (control_in c)))
  comes_at tells t r d is = subst (λ (x : Doing). IfOk r (ComesTo tells s t (move_of s.config s.past (control_at c x)))) (sym is)

  pub over_asking : c.doing ≡ Asking → AsksNext s s (move_of s.config s.past (control_in c)) c.leaving
  over_asking is = record {
    same = refl;
    asks = ap (λ (x : Doing). move_of s.config s.past (control_at c x)) is;
    left = left_at;
  }

-- ---- room was made
module _ (s s1 : History) (c : Control) (between : IsBetween s.config s.past) (fits : IsControlled s.config s.past (control_in c)) (same : IsSameBut s s1) (kept : s1.past ≡ s.past) where
  pub config_kept : s1.config ≡ s.config
  config_kept = ap (λ (x : History). x.config) same

  there : s1 ≡ record s { spare = s1.spare }
  there = same ∙ ap (λ (p : List Entry). record s { past = p; spare = s1.spare }) kept

  pub steady_then : 64 ≤ s1.spare → IsSteady s1
  steady_then room = record { between = subst (λ (x : History). IsBetween x.config x.past) (sym there) between; room = room }

  pub fits_then : IsControlled s1.config s1.past (control_in c)
  fits_then = subst (λ (x : History). IsControlled x.config x.past (control_in c)) (sym there) fits

  -- the move that was made
  pub moved_then : (tells : Bool) (t : History) (o : Option Control) → Moves tells s1 t (move_of s1.config s1.past (control_in c)) o → Moves tells s t (move_of s.config s.past (control_in c)) o
  moved_then tells t o moved =
      spared s t s1.spare tells (move_of s.config s.past (control_in c)) (option_map control_in o)
      (subst (λ (x : History). MovesTo tells x t (move_of x.config x.past (control_in c)) (option_map control_in o)) there moved)

  -- the work after an answer is over
  module _ (s2 : History) (leaving : Option Proc) (over : AsksNext s1 s2 (move_of s1.config s1.past (control_in c)) leaving) where
    abbrev asks_in : History → Move
    asks_in x = asking_move x.config x.past (pager x) (option_map number_of leaving)

    pub over_steady : 64 ≤ s1.spare → IsSteady s2
    over_steady room = subst IsSteady (sym over.same) (steady_then room)

    pub over_config : s2.config ≡ s.config
    over_config = ap (λ (x : History). x.config) over.same ∙ config_kept

    pub over_left : IfSome leaving (λ (q : Proc). IsLeft s2.config (pager s2) q.0)
    over_left = subst (λ (x : History). IfSome leaving (λ (q : Proc). IsLeft x.config (pager x) q.0)) (sym over.same) over.left

    pub over_here : IsMoveHere s2 (asks_in s2)
    over_here =
        subst (λ (x : History). IsMoveHere x (asks_in x)) (sym over.same)
        (subst (λ (m : Move). IsMoveHere s1 m) over.asks (here_at s1 c fits_then c.doing refl))

    pub over_moved : {E : Type 0} (tells : Bool) (t : History) (r : Result (Option Control) E) → IfOk r (Moves tells s2 t (asks_in s2)) → IfOk r (Moves tells s t (move_of s.config s.past (control_in c)))
    over_moved tells t (Err e) moved = tt
    over_moved tells t (Ok o) moved =
        moved_then tells t o
        (subst (λ (m : Move). Moves tells s1 t m o) (sym over.asks) (subst (λ (x : History). Moves tells x t (asks_in x) o) over.same moved))
