-- Each entry that the serial policy makes up to the report's place has its cause.
use Rattle.std.proofs.Common.{◌<◌, ◌^◌, List, [], ◌∷◌, Option, Some, None, inl, length, map, refl, sym, subst, arith}
use Rattle.std.proofs.lemmas.Option.{none-some}
use Rattle.vm_types.specs.Configuration.{IsWellFormed}
use Rattle.vm_types.specs.declared.config.Config.{Config}
use Rattle.vm_types.specs.declared.config.Task.{Task}
use Rattle.vm_journal.specs.declared.entry.Entry.{Entry}
use Rattle.pager_model.specs.Flights.{carrier_of}
use Rattle.pager_model.specs.Run.{IsRun}
use Rattle.pager_policy.specs.Given.{made_by, with_reply}
use Rattle.pager_policy.specs.Landings.{all_bad, first_bad, landed_by}
use Rattle.pager_policy.specs.Moves.{After, Control, Move, asking, carries, control, goes, makes, refuses, rests}
use Rattle.pager_policy.specs.Policy.{move_of, next_task}
use Rattle.pager_policy.specs.Serial.{GoesOn, Heard, IsMade, IsMove, IsReached, IsRefused, IsSerialTo}
use Rattle.serial_laws.specs.Between.{IsBetween}
use Rattle.serial_laws.specs.Controlled.{IsControlled, IsInBody}
use Rattle.serial_laws.proofs.Kept.{moves_between, moves_fit, moves_longer}
use Rattle.entry_causes.specs.Caused.{IsCausedThroughout}
use Rattle.cause_laws.proofs.Landed.{landed_caused, made_caused}
use Rattle.serial_causes.proofs.Entries.{on_caused, run_landed, run_made, run_on, shown_caused}
use Rattle.serial_causes.proofs.MovesCaused.{CausesRight, StaysInBody, body_caused}
use Rattle.serial_causes.proofs.Taken.{IsTaken, move_taken, next_is_asked}

-- ---- the run before a move
made_run : (config : Config) (past : List Entry) (heard : Heard) (more : List Entry) (next : Control) (m : Move) → IsMade config past heard more next m → IsRun config more → IsRun config past
made_run config past heard more next (makes seat ws c) made run = run_made config seat (map (with_reply heard.reply) ws) past (subst (IsRun config) made.0 run)
made_run config past heard more next (carries seat ws onward) made run =
    let begun = made_by seat ws past in
    let landed = landed_by config seat (carrier_of seat begun) heard.outcomes begun in
    run_made config seat ws past (run_landed config seat (carrier_of seat begun) heard.outcomes begun (run_on config landed more next (onward (all_bad heard.outcomes) (first_bad heard.outcomes)) made.on run))
made_run config past heard more next rests made run = absurd made

pub move_run : (config : Config) (past : List Entry) (c : Control) (heard : Heard) (more : List Entry) (next : Control) → IsMove config past c heard more next → IsRun config more → IsRun config past
move_run config past c heard more next move = made_run config past heard more next (move_of config past c) move

pub reached_run : (config : Config) (start : List Entry) (from : Control) (told : List Heard) (past : List Entry) (c : Control) → IsReached config start from told past c → IsRun config past → IsRun config start
reached_run config start from [] past c reached run = subst (IsRun config) reached.0 run
reached_run config start from (heard ∷ told) past c reached run =
    reached_run config start from told reached.earlier_past reached.earlier_control reached.before (move_run config reached.earlier_past reached.earlier_control heard past c reached.move run)

-- ---- where the policy has come to it fits
abbrev pub Fits : Config → List Entry → Control → Type 0
Fits config past c = IsBetween config past × IsControlled config past c

move_fits : (config : Config) (past : List Entry) (c : Control) (heard : Heard) (more : List Entry) (next : Control) → Fits config past c → IsMove config past c heard more next → IsRun config more → Fits config more next
move_fits config past c heard more next fits move run = (moves_between config past c heard more next fits.0 fits.1 move run, moves_fit config past c heard more next fits.0 fits.1 move)

pub reached_fits : (config : Config) (start : List Entry) (from : Control) (told : List Heard) (past : List Entry) (c : Control) → IsReached config start from told past c → Fits config start from → IsRun config past → Fits config past c
reached_fits config start from [] past c reached fits run = subst (λ (d : Control). Fits config past d) (sym reached.1) (subst (λ (xs : List Entry). Fits config xs from) (sym reached.0) fits)
reached_fits config start from (heard ∷ told) past c reached fits run =
    let earlier = reached_fits config start from told reached.earlier_past reached.earlier_control reached.before fits (move_run config reached.earlier_past reached.earlier_control heard past c reached.move run) in
    move_fits config reached.earlier_past reached.earlier_control heard past c earlier reached.move run

-- ---- one move
move_caused : (config : Config) (past : List Entry) (heard : Heard) (more : List Entry) (next : Control) (m : Move) → CausesRight config past m → IsMade config past heard more next m → IsCausedThroughout config past → IsCausedThroughout config more
move_caused config past heard more next (makes seat ws c) right made before =
    subst (IsCausedThroughout config) (sym made.0) (made_caused config seat (map (with_reply heard.reply) ws) past before (shown_caused config seat heard.reply ws past right.0 right.1))
move_caused config past heard more next (carries seat ws onward) right made before =
    let begun = made_by seat ws past in
    let landed = landed_by config seat (carrier_of seat begun) heard.outcomes begun in
    on_caused config landed more next (onward (all_bad heard.outcomes) (first_bad heard.outcomes)) made.on (landed_caused config seat (carrier_of seat begun) heard.outcomes begun (made_caused config seat ws past before right.0))
move_caused config past heard more next rests right made before = absurd made

on_stays : (config : Config) (landed more : List Entry) (next : Control) (x : After) → StaysInBody x → GoesOn config landed more next x → IsInBody next.doing
on_stays config landed more next (goes c) stays on = subst (λ (d : Control). IsInBody d.doing) (sym on.1) stays
on_stays config landed more next refuses stays on = by (next_task config landed) on
  where
    by : (o : Option Task) → IsRefused landed more next o → IsInBody next.doing
    by None refused = absurd refused
    by (Some task) refused = subst (λ (d : Control). IsInBody d.doing) (sym refused.1) tt

move_stays : (config : Config) (past : List Entry) (heard : Heard) (more : List Entry) (next : Control) (m : Move) → CausesRight config past m → IsMade config past heard more next m → IsInBody next.doing
move_stays config past heard more next (makes seat ws c) right made = subst (λ (d : Control). IsInBody d.doing) (sym made.1) right.2
move_stays config past heard more next (carries seat ws onward) right made =
    let begun = made_by seat ws past in
    let landed = landed_by config seat (carrier_of seat begun) heard.outcomes begun in
    on_stays config landed more next (onward (all_bad heard.outcomes) (first_bad heard.outcomes)) (right.1 (all_bad heard.outcomes) (first_bad heard.outcomes)) made.on
move_stays config past heard more next rests right made = absurd made

-- ---- all of them, from the first request on
record IsCausedTo (config : Config) (past : List Entry) (c : Control) : Type 0 where
  pub body : IsInBody c.doing
  pub taken : IsTaken config past
  pub caused : IsCausedThroughout config past

step_caused : (config : Config) (past : List Entry) (c : Control) (heard : Heard) (more : List Entry) (next : Control) → Fits config past c → length past < 2 ^ 63 → IsMove config past c heard more next → IsCausedTo config past c → IsCausedTo config more next
step_caused config past c heard more next fits few move before =
    let known = body_caused config past c fits.0 fits.1 few (λ task is. next_is_asked config past task before.taken is) before.body in
    record {
      body = move_stays config past heard more next (move_of config past c) known.right move;
      taken = move_taken config past c heard more next move before.taken;
      caused = move_caused config past heard more next (move_of config past c) known.right move before.caused;
    }

first_fits : (config : Config) → IsWellFormed config → Fits config [] (control asking)
first_fits config formed = (
  record { formed = formed; run = tt; landed = refl; reused = refl },
  record { leaving = λ q is. absurd (none-some q is); answered_process = tt; waiting = tt; touched = inl (λ g some. absurd (omega (arith, some))) },
)

reached_caused : (config : Config) (told : List Heard) (past : List Entry) (c : Control) → IsWellFormed config → IsReached config [] (control asking) told past c → IsRun config past → length past < 2 ^ 63 → IsCausedTo config past c
reached_caused config [] past c formed reached run few =
    subst (λ (d : Control). IsCausedTo config past d) (sym reached.1) (subst (λ (xs : List Entry). IsCausedTo config xs (control asking)) (sym reached.0) (record { body = tt; taken = λ p. refl; caused = tt }))
reached_caused config (heard ∷ told) past c formed reached run few =
    let earlier_run = move_run config reached.earlier_past reached.earlier_control heard past c reached.move run in
    let fits = reached_fits config [] (control asking) told reached.earlier_past reached.earlier_control reached.before (first_fits config formed) earlier_run in
    let less = moves_longer config reached.earlier_past reached.earlier_control heard past c fits.0 fits.1 reached.move in
    let earlier_few : length reached.earlier_past < 2 ^ 63 = omega (arith, less, few) in
    step_caused config reached.earlier_past reached.earlier_control heard past c fits earlier_few reached.move (reached_caused config told reached.earlier_past reached.earlier_control formed reached.before earlier_run earlier_few)

pub serial_caused : (config : Config) (past : List Entry) (c : Control) → IsWellFormed config → IsRun config past → length past < 2 ^ 63 → IsSerialTo config past c → IsCausedThroughout config past
serial_caused config past c formed run few serial = (reached_caused config serial.told past c formed serial.reached run few).caused
