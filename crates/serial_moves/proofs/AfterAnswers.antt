-- The swapper's and the writer's part after an answer, as moves of the serial policy.
use Rattle.std.proofs.Common.{◌≡◌, ℕ, ◌+◌, ◌<◌, ◌≤◌, Bool, true, false, cond, ◌&&◌, List, [], Option, Some, None, Result, IfOk, IfSome, length, refl, sym, ap, ◌∙◌, subst, arith}
use Rattle.std.specs.Option.{option_map}
use Rattle.vm_types.specs.BlockView.{BlockView, Tells}
use Rattle.vm_types.specs.declared.config.Config.{Config}
use Rattle.vm_types.specs.declared.config.Task.{Task}
use Rattle.vm_types.specs.declared.names.Proc.{Proc}
use Rattle.vm_types.specs.declared.names.Seat.{Seat}
use Rattle.vm_journal.specs.declared.entry.Entry.{Entry}
use Rattle.vm_journal.specs.declared.entry.What.{What}
use Rattle.pager_policy.specs.Moves.{Control as ControlIs, Move, asking, carries, control, freeing, rests}
use Rattle.pager_model.specs.Pager.{Pager}
use Rattle.pager_policy.specs.Policy.{asking_move, ends_part, finding_move, freeing_move, is_freeing, is_saving, leave_move, next_task, saving_by, saving_move, swapper_of, task_move}
use Rattle.pager_policy.specs.Rundown.{writer_of}
use Rattle.pager_policy.specs.WriteCluster.{BeginIs, begin_carry, begin_gives, begin_nothing, reason_high}
use Rattle.pager_model.specs.Flights.{is_busy}
use Rattle.call_begins.specs.MayBegin.{MayBegin, empty}
use Rattle.serial_laws.specs.Controlled.{IsLeft}
use Rattle.serial_laws.proofs.Walks.{task_formed}
use Rattle.modified_writer.specs.Begins.{Begins, begin_of}
use Rattle.modified_writer.specs.declared.begun.Begin.TheVariants.{Carry, Nothing, Room}
use Rattle.lift_carriers.specs.CarrierView.{CarrierView}
use Rattle.vm_state.specs.History.{History, owed, pager}
use Rattle.vm_state.specs.LiftsLand.{added_each}
use Rattle.carried_landings.specs.CarriedOn.{IsCarriedOn, IsLoaded, MayRefuse, after_saving}
use Rattle.carried_landings.specs.Moved.{IsMoveHere, IsMoved, IsResting, IsSteady}
use Rattle.carried_landings.proofs.Entries.{starts_mute}
use Rattle.carried_landings.proofs.Moving.{carries_move, loaded, may_refuse}
use Rattle.carried_landings.proofs.Shapes.{BeginShape, begin_shape}
use Rattle.carried_landings.proofs.WrittenClusters.{begin_starts, begun_lifts}
use Rattle.serial_moves.specs.Controls.{ComesTo, Moves, number_of}
use Rattle.serial_moves.specs.declared.control.AfterAnswer.{AfterAnswer}
use Rattle.serial_moves.specs.declared.control.Control.{Control}
use Rattle.serial_moves.proofs.Refused.{nothing_owed}

-- ---- a result by another name of its move
pub moved_as : {E : Type 0} (tells : Bool) (s t : History) (m n : Move) (r : Result (Option Control) E) → m ≡ n → IfOk r (Moves tells s t n) → IfOk r (Moves tells s t m)
moved_as tells s t m n r same moved = subst (λ (x : Move). IfOk r (Moves tells s t x)) (sym same) moved

pub comes_as : {E : Type 0} (tells : Bool) (s t : History) (m n : Move) (r : Result AfterAnswer E) → m ≡ n → IfOk r (ComesTo tells s t n) → IfOk r (ComesTo tells s t m)
comes_as tells s t m n r same comes = subst (λ (x : Move). IfOk r (ComesTo tells s t x)) (sym same) comes

pub move_as : (tells : Bool) (s t : History) (m n : Move) (o : Option Control) → m ≡ n → Moves tells s t n o → Moves tells s t m o
move_as tells s t m n o same moved = subst (λ (x : Move). Moves tells s t x o) (sym same) moved

pub here_as : (s : History) (m n : Move) → m ≡ n → IsMoveHere s m → IsMoveHere s n
here_as s m n same here = subst (λ (x : Move). IsMoveHere s x) same here

-- there is no move, and nothing was made
pub rests_here : (s : History) (m : Move) → m ≡ rests → IsResting s s m
rests_here s m is = record { rest = is; none_made = refl; same = refl }

-- ---- what holds between two moves
pub enough_room : (s : History) → IsSteady s → owed s.past + 64 ≤ s.spare
enough_room s steady = let none = nothing_owed s.past steady.between.landed steady.between.reused in let room = steady.room in omega (arith, none, room)

pub may_begin : (s : History) (seat : Seat) → IsSteady s → seat.0 < length s.config.procs + 2 → MayBegin s seat
may_begin s seat steady there = record { there = there; idle = ap (is_busy seat.0) steady.between.landed; calm = steady.between.reused }

pub left_there : (config : Config) (a : Pager) (o : Option Proc) (q : Proc) → o ≡ Some q → IfSome o (λ (r : Proc). IsLeft config a r.0) → IsLeft config a q.0
left_there config a o q is left = subst (λ (x : Option Proc). IfSome x (λ (r : Proc). IsLeft config a r.0)) is left

-- ---- the next request
pub asks_task : (config : Config) (past : List Entry) (a : Pager) (leaving : Option ℕ) (o : Option Task) → o ≡ next_task config past → asking_move config past a leaving ≡ task_move config past a leaving o
asks_task config past a leaving o is = ap (task_move config past a leaving) (sym is)

-- its process has a seat
pub task_seat : (s : History) (task : Task) → IsSteady s → next_task s.config s.past ≡ Some task → (task.proc).0 < length s.config.procs + 2
task_seat s task steady next = let there = (task_formed s.config s.past task steady.between.formed next).0 in omega (arith, there)

-- ---- the swapper's part
module _ (config : Config) (past : List Entry) (a : Pager) (begun : Bool) (p : ℕ) where
  -- the process that is being left goes on to leave
  pub leaves_on : (o : Option Proc) (q : Proc) (n : ℕ) → o ≡ Some q → n ≡ swapper_of config
      → freeing_move config past a (option_map number_of o) begun p ≡ leave_move config past a n q.0 (ends_part (control asking)) (freeing true p)
  leaves_on o q n is seat =
      ap (λ (x : Option Proc). freeing_move config past a (option_map number_of x) begun p) is
      ∙ ap (λ (m : ℕ). leave_move config past a m q.0 (ends_part (control asking)) (freeing true p)) (sym seat)

  abbrev found_by : ℕ → Move
  found_by n = finding_move config past a n p (ends_part (control asking)) (freeing true p) (asking_move config past a None)

  pub none_left : (o : Option Proc) → o ≡ None → freeing_move config past a (option_map number_of o) begun p ≡ freeing_move config past a None begun p
  none_left o is = ap (λ (x : Option Proc). freeing_move config past a (option_map number_of x) begun p) is

  part_by : (o : Option Proc) (b : Bool) → o ≡ None → (is_freeing config a begun && is_freeing config a true) ≡ b
      → freeing_move config past a (option_map number_of o) begun p ≡ cond b (found_by (swapper_of config)) (asking_move config past a None)
  part_by o b is short =
      ap (λ (x : Option Proc). freeing_move config past a (option_map number_of x) begun p) is
      ∙ ap (λ (c : Bool). cond c (found_by (swapper_of config)) (asking_move config past a None)) short

  -- frames are wanted
  pub finds_on : (o : Option Proc) (n : ℕ) → o ≡ None → n ≡ swapper_of config → (is_freeing config a begun && is_freeing config a true) ≡ true
      → freeing_move config past a (option_map number_of o) begun p ≡ found_by n
  finds_on o n is seat short = part_by o true is short ∙ ap found_by (sym seat)

  -- or there are enough
  pub asks_on : (o : Option Proc) → o ≡ None → (is_freeing config a begun && is_freeing config a true) ≡ false
      → freeing_move config past a (option_map number_of o) begun p ≡ asking_move config past a None
  asks_on o is enough = part_by o false is enough

  -- ---- the writer's part
  abbrev next_move : Move
  next_move = freeing_move config past a None false p

  abbrev saves_by : BeginIs → Move
  saves_by answer = saving_by config (begin_gives config a reason_high).made answer p next_move

  pub frees_next : is_saving config a begun ≡ false → saving_move config past a begun p ≡ next_move
  frees_next is = ap (λ (b : Bool). cond b (saves_by (begin_gives config a reason_high).answer) next_move) is

  saves_as : (answer : BeginIs) → is_saving config a begun ≡ true → (begin_gives config a reason_high).answer ≡ answer → saving_move config past a begun p ≡ saves_by answer
  saves_as answer is same = ap (λ (b : Bool). cond b (saves_by (begin_gives config a reason_high).answer) next_move) is ∙ ap saves_by same

  pub saves_some : (n : ℕ) → is_saving config a begun ≡ true → (begin_gives config a reason_high).answer ≡ begin_carry → n ≡ writer_of config
      → saving_move config past a begun p ≡ carries n (begin_gives config a reason_high).made (after_saving p)
  saves_some n is same seat = saves_as begin_carry is same ∙ ap (λ (m : ℕ). carries m (begin_gives config a reason_high).made (after_saving p)) (sym seat)

  pub saves_none : is_saving config a begun ≡ true → (begin_gives config a reason_high).answer ≡ begin_nothing → saving_move config past a begun p ≡ next_move
  saves_none is same = saves_as begin_nothing is same

-- ---- the answer of the model that a returned one stands for
carry_is : (x : BeginIs) → Carry ≡ begin_of x → x ≡ begin_carry
carry_is begin_carry is = refl
carry_is begin_nothing is = absurd (cc)

nothing_is : (x : BeginIs) → Nothing ≡ begin_of x → x ≡ begin_nothing
nothing_is begin_carry is = absurd (cc)
nothing_is begin_nothing is = refl

pub never_room : (x : BeginIs) → Room ≡ begin_of x → ⊥
never_room begin_carry is = cc
never_room begin_nothing is = cc

-- ---- a cluster that is written because the modified list is long
abbrev written_of : History → List What
written_of s = (begin_gives s.config (pager s) reason_high).made

abbrev saves_at : History → Bool → ℕ → Move
saves_at s begun p = saving_move s.config s.past (pager s) begun p

module _ {B : Type 0} {seen : B → BlockView} {tells : Tells} (s t : History) (seat : Seat) (old new : CarrierView B) (begun : Bool) (p : ℕ) (steady : IsSteady s)
    (saving : is_saving s.config (pager s) begun ≡ true) where
  module _ (own : seat.0 ≡ writer_of s.config) (is : old ≡ empty seat) (begins : Begins seen tells s t seat (begin_gives s.config (pager s) reason_high) Carry old new) where
    move_is : saves_at s begun p ≡ carries seat.0 (written_of s) (after_saving p)
    move_is = saves_some s.config s.past (pager s) begun p seat.0 saving (carry_is (begin_gives s.config (pager s) reason_high).answer begins.answer) own

    save_loaded : IsLoaded seen tells t seat new
    save_loaded = loaded s t seat (written_of s) begins.history new steady.between (begin_starts s reason_high) (begun_lifts s t seat reason_high Carry old new is begins)

    pub save_loaded_at : (x : CarrierView B) → x ≡ new → IsLoaded seen tells t seat x
    save_loaded_at x same = subst (λ (y : CarrierView B). IsLoaded seen tells t seat y) (sym same) save_loaded

    pub save_may : IsMoveHere s (saves_at s begun p) → MayRefuse t.config t.past seat.0 (after_saving p)
    save_may here = may_refuse s t seat (written_of s) begins.history (after_saving p) steady.between (here_as s (saves_at s begun p) (carries seat.0 (written_of s) (after_saving p)) move_is here)

    pub save_moved : (after : History) (c : ControlIs) → IsCarriedOn tells.content t after seat.0 (after_saving p) c → IsMoved tells.content s after (saves_at s begun p) c
    save_moved after c carried =
        subst (λ (m : Move). IsMoved tells.content s after m c) (sym move_is)
        (carries_move s t seat (written_of s) begins.history tells.content after (after_saving p) c (starts_mute (written_of s) (begin_starts s reason_high)) carried)

  -- nothing is written
  module _ (begins : Begins seen tells s t seat (begin_gives s.config (pager s) reason_high) Nothing old new) where
    nothing : (begin_gives s.config (pager s) reason_high).answer ≡ begin_nothing
    nothing = nothing_is (begin_gives s.config (pager s) reason_high).answer begins.answer

    none_written : written_of s ≡ []
    none_written = subst (λ (x : BeginIs). BeginShape x (written_of s)) nothing (begin_shape s.config (pager s) reason_high)

    pub unchanged : t ≡ s
    unchanged = begins.history ∙ ap (λ (ws : List What). added_each seat ws s) none_written

    pub as_before : new ≡ old
    as_before = begins.carrier

    pub still_steady : IsSteady t
    still_steady = subst IsSteady (sym unchanged) steady

    goes_over : saves_at s begun p ≡ freeing_move s.config s.past (pager s) None false p
    goes_over = saves_none s.config s.past (pager s) begun p saving nothing

    pub goes_here : IsMoveHere s (saves_at s begun p) → IsMoveHere t (freeing_move t.config t.past (pager t) None false p)
    goes_here here = subst (λ (x : History). IsMoveHere x (freeing_move x.config x.past (pager x) None false p)) (sym unchanged) (here_as s (saves_at s begun p) (freeing_move s.config s.past (pager s) None false p) goes_over here)

    pub goes_comes : {E : Type 0} (after : History) (r : Result AfterAnswer E) → IfOk r (ComesTo tells.content t after (freeing_move t.config t.past (pager t) None false p)) → IfOk r (ComesTo tells.content s after (saves_at s begun p))
    goes_comes after r comes =
        comes_as tells.content s after (saves_at s begun p) (freeing_move s.config s.past (pager s) None false p) r goes_over
        (subst (λ (x : History). IfOk r (ComesTo tells.content x after (freeing_move x.config x.past (pager x) None false p))) unchanged comes)
