-- What a seat does, by what it is.
use Rattle.std.proofs.Common.{◌≡◌, Bool, List, Option, Some, None, refl, sym, subst}
use Rattle.std.proofs.lemmas.Option.{none-some}
use Rattle.vm_types.specs.BlockView.{BlockView, Tells}
use Rattle.vm_types.specs.declared.config.Config.{Config}
use Rattle.vm_types.specs.declared.names.Proc.{Proc}
use Rattle.vm_types.specs.declared.names.Seat.{Seat}
use Rattle.vm_types.specs.declared.service.Request.{Request}
use Rattle.vm_journal.specs.declared.entry.Entry.{Entry}
use Rattle.pager_model.specs.Pager.{Pager}
use Rattle.lift_carriers.specs.CarrierView.{CarrierView}
use Rattle.vm_state.specs.History.{History}
use Rattle.vm_state.specs.declared.base.StateBase.{StateBase}
use Rattle.carried_landings.specs.Outside.{AreOut}
use Rattle.seat_steps.specs.Turns.{HasStepped}
use Rattle.seat_turns.specs.Begun.{IsBegunFor}
use Rattle.seat_turns.specs.Rests.{SwapperRests, WriterRests}
use Rattle.seat_turns.specs.Steps.{HasTurned, seat_of, swapper_seat, writer_seat}
use Rattle.seat_turns.specs.declared.turned.Turned.{Turned}
use Rattle.vm_actors.specs.Doings.{HasRested, AreBegunFor, Knows, MayAsk, MayDo, request_of}
use Rattle.vm_actors.specs.declared.doing.Doing.{Doing}
use Rattle.vm_actors.specs.declared.doing.Doing.TheVariants.{Asking, Swapping, Writing}

pub out_at : {B : Type 0} {seen : B → BlockView} {tells : Tells} (b : StateBase) (past : List Entry) (seat z : Seat) (c : CarrierView B) → seat ≡ z → AreOut seen tells b past seat c → AreOut seen tells b past z c
out_at {seen = seen} {tells = tells} b past seat z c is out = subst (λ (x : Seat). AreOut seen tells b past x c) is out

module _ (seat : Seat) (doing : Doing) where
  -- ---- a process asks
  module _ (p : Proc) (x : Request) (is : doing ≡ Asking p x) where
    pub asking_may : (config : Config) → MayDo seat doing config → (seat ≡ seat_of p) × MayAsk p x config
    asking_may config may = subst (λ (d : Doing). MayDo seat d config) is may

    pub asking_begun : (past : List Entry) (own : Bool) → seat ≡ seat_of p → AreBegunFor past seat doing own → IsBegunFor past p.0 x own
    asking_begun past own same begun =
        subst (λ (z : Seat). IsBegunFor past z.0 x own) same (subst (λ (d : Doing). AreBegunFor past seat d own) is begun)

    pub begun_asking : (past : List Entry) (own : Bool) → seat ≡ seat_of p → IsBegunFor past p.0 x own → AreBegunFor past seat doing own
    begun_asking past own same begun =
        subst (λ (d : Doing). AreBegunFor past seat d own) (sym is) (subst (λ (z : Seat). IsBegunFor past z.0 x own) (sym same) begun)

    pub turned_asking : {B : Type 0} {seen : B → BlockView} {tells : Tells} (s t : History) (turned : Turned) (c : CarrierView B) → seat ≡ seat_of p → HasTurned seen tells s t (seat_of p) (Some x) turned c → HasTurned seen tells s t seat (request_of doing) turned c
    turned_asking {seen = seen} {tells = tells} s t turned c same has =
        subst (λ (d : Doing). HasTurned seen tells s t seat (request_of d) turned c) (sym is) (subst (λ (z : Seat). HasTurned seen tells s t z (Some x) turned c) (sym same) has)

    pub stepped_asking : (config : Config) (past more : List Entry) → seat ≡ seat_of p → HasStepped config past more p.0 (Some x) → HasStepped config past more seat.0 (request_of doing)
    stepped_asking config past more same has =
        subst (λ (d : Doing). HasStepped config past more seat.0 (request_of d)) (sym is) (subst (λ (z : Seat). HasStepped config past more z.0 (Some x)) (sym same) has)

    pub rested_asking : (config : Config) (past : List Entry) (a : Pager) → HasRested doing config past a
    rested_asking config past a = subst (λ (d : Doing). HasRested d config past a) (sym is) tt

  -- ---- the writer writes, or the swapper swaps
  pub writing_may : (config : Config) → doing ≡ Writing → MayDo seat doing config → seat ≡ writer_seat config
  writing_may config is may = subst (λ (d : Doing). MayDo seat d config) is may

  pub swapping_may : (config : Config) → doing ≡ Swapping → MayDo seat doing config → seat ≡ swapper_seat config
  swapping_may config is may = subst (λ (d : Doing). MayDo seat d config) is may

  pub turned_idle : {B : Type 0} {seen : B → BlockView} {tells : Tells} (s t : History) (z : Seat) (turned : Turned) (c : CarrierView B) → None ≡ request_of doing → seat ≡ z → HasTurned seen tells s t z None turned c → HasTurned seen tells s t seat (request_of doing) turned c
  turned_idle {seen = seen} {tells = tells} s t z turned c none same has =
      subst (λ (o : Option Request). HasTurned seen tells s t seat o turned c) none (subst (λ (y : Seat). HasTurned seen tells s t y None turned c) (sym same) has)

  pub stepped_idle : (config : Config) (past more : List Entry) (z : Seat) → None ≡ request_of doing → seat ≡ z → HasStepped config past more z.0 None → HasStepped config past more seat.0 (request_of doing)
  stepped_idle config past more z none same has =
      subst (λ (o : Option Request). HasStepped config past more seat.0 o) none (subst (λ (y : Seat). HasStepped config past more y.0 None) (sym same) has)

  pub begun_idle : (past : List Entry) (own : Bool) → request_of doing ≡ None → AreBegunFor past seat doing own
  begun_idle past own none = by doing none
    where
      by : (d : Doing) → request_of d ≡ None → AreBegunFor past seat d own
      by (Asking p x) is = absurd (none-some x (sym is))
      by Writing is = tt
      by Swapping is = tt

  pub rested_writing : (config : Config) (past : List Entry) (a : Pager) → doing ≡ Writing → WriterRests config a → HasRested doing config past a
  rested_writing config past a is rests = subst (λ (d : Doing). HasRested d config past a) (sym is) rests

  pub rested_swapping : (config : Config) (past : List Entry) (a : Pager) → doing ≡ Swapping → SwapperRests config past a → HasRested doing config past a
  rested_swapping config past a is rests = subst (λ (d : Doing). HasRested d config past a) (sym is) rests

-- a process that may ask has its own seat
pub knows_asking : (p : Proc) (x : Request) (base : Option StateBase) → Knows (MayAsk p x) base → Knows (MayDo (seat_of p) (Asking p x)) base
knows_asking p x None knows = absurd knows
knows_asking p x (Some b) knows = (knows.0, (refl, knows.1))

-- the base that is known stands on some configuration
pub knows_any : (Is : Config → Type 0) (base : Option StateBase) → Knows Is base → Knows (λ (c : Config). Unit {0}) base
knows_any Is None knows = absurd knows
knows_any Is (Some b) knows = (knows.0, tt)
