-- What follows from each move being known: it leads to where the policy fits, with no flight open, and makes the past
-- longer.
use Rattle.std.proofs.Common.{◌≡◌, Bool, false, ℕ, ◌+◌, ◌<◌, ◌≤◌, List, [], ◌∷◌, Option, Some, None, length, map, refl, sym, ap, subst, arith}
use Rattle.std.proofs.lemmas.Option.{none-some}
use Rattle.vm_types.specs.declared.names.Proc.{Proc}
use Rattle.vm_types.specs.declared.names.ProcStatus.{ProcStatus}
use Rattle.vm_types.specs.declared.config.Config.{Config}
use Rattle.vm_types.specs.declared.config.Task.{Task}
use Rattle.vm_types.specs.declared.reply.Answer.TheVariants as answer
use Rattle.vm_types.specs.declared.reply.Why.TheVariants as why
use Rattle.vm_types.specs.declared.service.Request.{Request}
use Rattle.vm_types.specs.declared.service.Request.TheVariants as request
use Rattle.vm_journal.specs.declared.entry.Entry.{Entry}
use Rattle.vm_journal.specs.declared.entry.What.{What}
use Rattle.vm_journal.specs.declared.entry.What.TheVariants as what
use Rattle.pager_model.specs.Flights.{Flight, carrier_of}
use Rattle.pager_policy.specs.Given.{by_seat, made_by, with_reply}
use Rattle.pager_policy.specs.Landings.{Outcome, all_bad, first_bad, landed_by, landing}
use Rattle.pager_policy.specs.Moves.{After, Control, Doing, Move, asking, carries, cleaning, control, freeing, goes, makes, refuses, rests, saving}
use Rattle.pager_policy.specs.Policy.{move_of, next_task}
use Rattle.pager_model.specs.Run.{IsRun, pager_after}
use Rattle.pager_policy.specs.Serial.{GoesOn, Heard, IsMade, IsMove, IsRefused, refusal_of}
use Rattle.pager_model.specs.Step.{IsLegal}
use Rattle.vm_types.specs.Configuration.{IsWellFormed}
use Rattle.serial_laws.specs.Between.{IsBetween}
use Rattle.serial_laws.specs.Controlled.{AreTouched, IsControlled, IsInBody}
use Rattle.serial_laws.proofs.Betweens.{carried_between, made_between, still_between}
use Rattle.serial_laws.proofs.Known.{IsKnownCarry, Known, MayRefuse, MoveIsKnown, landed_from}
use Rattle.serial_laws.proofs.Rundowns.{cleaning_known}
use Rattle.serial_laws.proofs.Serves.{served_touched}
use Rattle.serial_laws.proofs.Walks.{body_known, task_formed}

-- ---- every move
weaker : (config : Config) (past : List Entry) (Rest : Type 0) (m : Move) → Known config past Rest m → Known config past (Unit {0}) m
weaker config past Rest (makes seat ws next) known = known
weaker config past Rest (carries seat ws onward) known = known
weaker config past Rest rests known = tt

all_known : (config : Config) (past : List Entry) (c : Control) → IsBetween config past → IsControlled config past c → Known config past (Unit {0}) (move_of config past c)
all_known config past c between controlled = by c.doing controlled
  where
    body : (d : Doing) → IsInBody d → IsControlled config past (record c { doing = d }) → Known config past (Unit {0}) (move_of config past (record c { doing = d }))
    body d in_body controlled = weaker config past (next_task config past ≡ None) (move_of config past (record c { doing = d })) (body_known config past (record c { doing = d }) between controlled in_body).known

    by : (d : Doing) → IsControlled config past (record c { doing = d }) → Known config past (Unit {0}) (move_of config past (record c { doing = d }))
    by asking controlled = body asking tt controlled
    by (saving begun p) controlled = body (saving begun p) tt controlled
    by (freeing begun p) controlled = body (freeing begun p) tt controlled
    by (cleaning at) controlled = (cleaning_known config past between at).known

-- ---- it leads to where the policy fits
refused_touched : (config : Config) (past : List Entry) (seat : ℕ) (task : Task) (q : Request) → AreTouched (pager_after config past) → AreTouched (pager_after config (by_seat seat (refusal_of (record task { request = q })) ∷ past))
refused_touched config past seat task (request.Reference r) old = old
refused_touched config past seat task (request.Service s) old = served_touched config (pager_after config past) seat s answer.DiskFault old

refused_fits : (config : Config) (landed : List Entry) (seat : ℕ) (more : List Entry) (next : Control) → IsWellFormed config → MayRefuse config landed seat → IsRefused landed more next (next_task config landed) → IsControlled config more next
refused_fits config landed seat more next formed may refused =
    subst (λ (d : Control). IsControlled config more d) (sym now.1)
    (subst (λ (xs : List Entry). IsControlled config xs (control (saving false (may.task.proc).0))) (sym now.0)
    (record { leaving = λ q is. absurd (none-some q is); answered_process = (task_formed config landed may.task formed may.next).0; waiting = tt; touched = refused_touched config landed (may.task.proc).0 may.task (may.task).request may.touched }))
  where
    now : (more ≡ by_seat (may.task.proc).0 (refusal_of may.task) ∷ landed) × (next ≡ control (saving false (may.task.proc).0))
    now = subst (λ (o : Option Task). IsRefused landed more next o) may.next refused

carry_fits : (config : Config) (past : List Entry) (seat : ℕ) (ws : List What) (onward : Bool → Bool → After) (outcomes : List Outcome) (more : List Entry) (next : Control) → IsWellFormed config → IsKnownCarry config past seat ws onward → length outcomes ≡ length (carrier_of seat (made_by seat ws past))
    → (x : After) → onward (all_bad outcomes) (first_bad outcomes) ≡ x → GoesOn config (landed_from config (made_by seat ws past) seat outcomes) more next x → IsControlled config more next
carry_fits config past seat ws onward outcomes more next formed known each (goes c) is on =
    subst (λ (d : Control). IsControlled config more d) (sym on.1) (subst (λ (xs : List Entry). IsControlled config xs c) (sym on.0) (known.goes_on outcomes c is each))
carry_fits config past seat ws onward outcomes more next formed known each refuses is on =
    refused_fits config (landed_from config (made_by seat ws past) seat outcomes) seat more next formed (known.refused outcomes is each).may on

made_fits : (config : Config) (past : List Entry) (heard : Heard) (more : List Entry) (next : Control) → IsWellFormed config → (m : Move) → Known config past (Unit {0}) m → IsMade config past heard more next m → IsControlled config more next
made_fits config past heard more next formed (makes seat ws c) known made =
    subst (λ (d : Control). IsControlled config more d) (sym made.1) (subst (λ (xs : List Entry). IsControlled config xs c) (sym made.0) (known.controlled heard.reply))
made_fits config past heard more next formed (carries seat ws onward) known made = carry_fits config past seat ws onward heard.outcomes more next formed known made.each (onward (all_bad heard.outcomes) (first_bad heard.outcomes)) refl made.on
made_fits config past heard more next formed rests known made = absurd made

pub moves_fit : (config : Config) (past : List Entry) (c : Control) (heard : Heard) (more : List Entry) (next : Control) → IsBetween config past → IsControlled config past c → IsMove config past c heard more next → IsControlled config more next
moves_fit config past c heard more next between controlled move = made_fits config past heard more next between.formed (move_of config past c) (all_known config past c between controlled) move

-- ---- no flight is open after it
refused_between : (config : Config) (past : List Entry) (seat : ℕ) (task : Task) (q : Request) → IsBetween config past → IsRun config (by_seat seat (refusal_of (record task { request = q })) ∷ past) → IsBetween config (by_seat seat (refusal_of (record task { request = q })) ∷ past)
refused_between config past seat task (request.Reference r) between run = still_between config past seat (what.Denied r why.DiskFault) refl between run
refused_between config past seat task (request.Service s) between run = still_between config past seat (what.Served s answer.DiskFault) refl between run

landed_between : (config : Config) (past : List Entry) (seat : ℕ) (ws : List What) (onward : Bool → Bool → After) (outcomes : List Outcome) → IsBetween config past → IsKnownCarry config past seat ws onward → length outcomes ≡ length (carrier_of seat (made_by seat ws past))
    → IsRun config (landed_from config (made_by seat ws past) seat outcomes) → IsBetween config (landed_from config (made_by seat ws past) seat outcomes)
landed_between config past seat ws onward outcomes between known each run = carried_between config past seat ws outcomes (known.carrying).first (known.carrying).more between (known.carrying).carrier each run

on_between : (config : Config) (landed more : List Entry) (next : Control) (x : After) → (IsRun config landed → IsBetween config landed) → GoesOn config landed more next x → IsRun config more → IsBetween config more
on_between config landed more next (goes c) between on run = subst (IsBetween config) (sym on.0) (between (subst (IsRun config) on.0 run))
on_between config landed more next refuses between on run = by (next_task config landed) on
  where
    by : (o : Option Task) → IsRefused landed more next o → IsBetween config more
    by None refused = absurd refused
    by (Some task) refused =
        let ran = subst (IsRun config) refused.0 run in
        subst (IsBetween config) (sym refused.0) (refused_between config landed (task.proc).0 task task.request (between ran.0) ran)

made_move_between : (config : Config) (past : List Entry) (heard : Heard) (more : List Entry) (next : Control) → IsBetween config past → (m : Move) → Known config past (Unit {0}) m → IsMade config past heard more next m → IsRun config more → IsBetween config more
made_move_between config past heard more next between (makes seat ws c) known made run = subst (IsBetween config) (sym made.0) (made_between config seat heard.reply ws past known.still between (subst (IsRun config) made.0 run))
made_move_between config past heard more next between (carries seat ws onward) known made run =
    on_between config (landed_from config (made_by seat ws past) seat heard.outcomes) more next (onward (all_bad heard.outcomes) (first_bad heard.outcomes)) (landed_between config past seat ws onward heard.outcomes between known made.each) made.on run
made_move_between config past heard more next between rests known made run = absurd made

pub moves_between : (config : Config) (past : List Entry) (c : Control) (heard : Heard) (more : List Entry) (next : Control) → IsBetween config past → IsControlled config past c → IsMove config past c heard more next → IsRun config more → IsBetween config more
moves_between config past c heard more next between controlled move run = made_move_between config past heard more next between (move_of config past c) (all_known config past c between controlled) move run

pub carriers_between : (config : Config) (past : List Entry) (c : Control) (seat : ℕ) (ws : List What) (onward : Bool → Bool → After) (outcomes : List Outcome) (landed : List Entry) → IsBetween config past → IsControlled config past c
    → move_of config past c ≡ carries seat ws onward → length outcomes ≡ length (carrier_of seat (made_by seat ws past))
    → landed ≡ landed_by config seat (carrier_of seat (made_by seat ws past)) outcomes (made_by seat ws past) → IsRun config landed → IsBetween config landed
carriers_between config past c seat ws onward outcomes landed between controlled move each land run =
    let known : IsKnownCarry config past seat ws onward = subst (λ (m : Move). Known config past (Unit {0}) m) move (all_known config past c between controlled) in
    subst (IsBetween config) (sym land) (landed_between config past seat ws onward outcomes between known each (subst (IsRun config) land run))

-- ---- and makes the past longer
length_made : (seat : ℕ) (ws : List What) (past : List Entry) → length (made_by seat ws past) ≡ length past + length ws
length_made seat [] past = omega arith
length_made seat (w ∷ ws) past = omega (arith, length_made seat ws (by_seat seat w ∷ past))

length_landed : (config : Config) (seat : ℕ) (flights : List Flight) (outcomes : List Outcome) (past : List Entry) → length past ≤ length (landed_by config seat flights outcomes past)
length_landed config seat [] outcomes past = omega arith
length_landed config seat (x ∷ flights) [] past = omega arith
length_landed config seat (x ∷ flights) (o ∷ outcomes) past =
    let ws = landing past (pager_after config past).page x x.direction o in
    omega (arith, length_made seat ws past, length_landed config seat flights outcomes (made_by seat ws past))

length_mapped : (f : What → What) (ws : List What) → length (map f ws) ≡ length ws
length_mapped f [] = refl
length_mapped f (w ∷ ws) = omega (arith, length_mapped f ws)

on_longer : (config : Config) (landed : List Entry) (more : List Entry) (next : Control) (x : After) → GoesOn config landed more next x → length landed ≤ length more
on_longer config landed more next (goes c) on = let same = ap length on.0 in omega (arith, same)
on_longer config landed more next refuses on = by (next_task config landed) on
  where
    by : (o : Option Task) → IsRefused landed more next o → length landed ≤ length more
    by None refused = absurd refused
    by (Some task) refused = let same = ap length refused.0 in omega (arith, same)

made_longer : (config : Config) (past : List Entry) (heard : Heard) (more : List Entry) (next : Control) (m : Move) → Known config past (Unit {0}) m → IsMade config past heard more next m → length past < length more
made_longer config past heard more next (makes seat ws c) known made =
    let same = ap length made.0 in
    let some = known.some in
    omega (arith, same, some, length_made seat (map (with_reply heard.reply) ws) past, length_mapped (with_reply heard.reply) ws)
made_longer config past heard more next (carries seat ws onward) known made =
    let begun = made_by seat ws past in
    let some = known.some in
    omega (arith, some, length_made seat ws past, length_landed config seat (carrier_of seat begun) heard.outcomes begun, on_longer config (landed_from config begun seat heard.outcomes) more next (onward (all_bad heard.outcomes) (first_bad heard.outcomes)) made.on)
made_longer config past heard more next rests known made = absurd made

pub moves_longer : (config : Config) (past : List Entry) (c : Control) (heard : Heard) (more : List Entry) (next : Control) → IsBetween config past → IsControlled config past c → IsMove config past c heard more next → length past < length more
moves_longer config past c heard more next between controlled move = made_longer config past heard more next (move_of config past c) (all_known config past c between controlled) move

-- ---- its turns are legal, and it rests only at the end
pub turns_legal : (config : Config) (past : List Entry) (c : Control) (seat : ℕ) (q : Proc) (s : ProcStatus) (next : Control) → IsBetween config past → IsControlled config past c → move_of config past c ≡ makes seat (what.Turn q s ∷ []) next
    → IsLegal config past (pager_after config past) (by_seat seat (what.Turn q s))
turns_legal config past c seat q s next between controlled is = (subst (λ (m : Move). Known config past (Unit {0}) m) is (all_known config past c between controlled)).turned q s refl

pub rests_last : (config : Config) (past : List Entry) (c : Control) → IsBetween config past → IsControlled config past c → IsInBody c.doing → move_of config past c ≡ rests → next_task config past ≡ None
rests_last config past c between controlled body is = (subst (λ (m : Move). MoveIsKnown config past (next_task config past ≡ None) m) is (body_known config past c between controlled body)).known
