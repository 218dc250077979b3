-- Outside the rundown the policy's moves lead to places outside it, and evict nothing for it.
use Rattle.std.proofs.Common.{◌≡◌, ◌⊎◌, inl, inr, ◌||◌, ◌&&◌, ℕ, zero, suc, Bool, true, false, cond, List, [], ◌∷◌, Option, Some, None, length, map, nat_eq, nat_lt, slice_get, refl, sym, ap, ◌∙◌, subst, arith}
use Rattle.std.specs.List.{AllByRecursion}
use Rattle.std.proofs.lemmas.Option.{none-some}
use Rattle.vm_types.specs.Configuration.{IsWellFormed}
use Rattle.vm_types.specs.declared.config.Config.{Config}
use Rattle.vm_types.specs.declared.config.Task.{Task}
use Rattle.vm_types.specs.declared.names.BlockId.{BlockId}
use Rattle.vm_types.specs.declared.names.Page.{Page}
use Rattle.vm_types.specs.declared.names.ProcStatus.{ProcStatus}
use Rattle.vm_types.specs.declared.names.ProcStatus.TheVariants as status
use Rattle.vm_types.specs.declared.reply.Reply.{Reply}
use Rattle.vm_types.specs.declared.service.Request.{Request}
use Rattle.vm_types.specs.declared.service.Request.TheVariants as request
use Rattle.vm_journal.specs.declared.entry.Entry.{Entry}
use Rattle.vm_journal.specs.declared.entry.EvictWhy.TheVariants as evict
use Rattle.vm_journal.specs.declared.entry.What.{What}
use Rattle.vm_journal.specs.declared.entry.What.TheVariants as what
use Rattle.pager_model.specs.Flights.{Direction, Flight, carrier_of, reading, writing}
use Rattle.pager_model.specs.Pager.{Pager}
use Rattle.pager_model.specs.Run.{IsRun, pager_after}
use Rattle.pager_model.specs.Spoken.{spoken}
use Rattle.pager_model.specs.Step.{IsLegalWhat}
use Rattle.pager_policy.specs.Advance.{NextIs, advance_gives, again_block_busy, again_charging, again_collided, again_modified_full, again_no_frame, again_not_resident, next_again, next_answered, next_carry, next_more}
use Rattle.pager_policy.specs.Given.{by_seat, given, made_by, with_reply}
use Rattle.pager_policy.specs.Landings.{Outcome, all_bad, first_bad, landed_by, landing, reuse_of, went_badly, went_well}
use Rattle.pager_policy.specs.Moves.{After, Control, Doing, Move, asking, carries, cleaning, control, freeing, goes, makes, refuses, rests, saving, while_leaving}
use Rattle.pager_policy.specs.Policy.{Ends, advance_move_by, asked_move, asking_move, come_move_by, coming_process, ends_part, ends_request, finding_move, freeing_move, gone_move, is_freeing, is_saving, leave_move, leave_move_by, leaving_other, move_of, next_task, other_move, resident_move, saving_by, saving_move, serve_move_by, status_move, swapper_of, task_move, unless_all_failed, unless_first_failed, victim_move, writing_move}
use Rattle.pager_policy.specs.Serial.{GoesOn, Heard, IsMade, IsReached, IsRefused, refusal_of}
use Rattle.pager_policy.specs.Serve.{ServeIs, serve_again, serve_answered, serve_gives, serve_in_flight, serve_modified_full, serve_more, serve_not_resident}
use Rattle.pager_policy.specs.Swap.{SwapIs, come_gives, leave_gives, swap_again, swap_carry, swap_in_flight, swap_modified_full, swap_more, swap_no_frame, swap_settled, victim_gives}
use Rattle.pager_policy.specs.WriteCluster.{BeginIs, begin_carry, begin_gives, begin_nothing, block_out, is_enough, reason_high, reason_need, writes_from, writes_taken}
use Rattle.call_laws.proofs.CallsSay.{leave_silent}
use Rattle.call_laws.proofs.MovesSay.{SaysRight, move_says}
use Rattle.call_laws.proofs.Said.{Silent, landed_silent, said_shown, silent_made, silent_then}
use Rattle.serial_laws.specs.Between.{IsBetween}
use Rattle.serial_laws.specs.Controlled.{IsControlled, IsInBody}
use Rattle.serial_laws.proofs.Kept.{moves_between, moves_fit}
use Rattle.serial_laws.proofs.Walks.{task_formed}
use Rattle.policy_ends.proofs.WriteCarriers.{run_before, run_landed}
use Rattle.pager_laws.specs.Bodies.{has_rundown, is_rundown_eviction}

-- ---- entries that evict nothing for the rundown
abbrev Spares : List What → Type 0
Spares ws = AllByRecursion (λ (w : What). is_rundown_eviction w ≡ false) ws

taken_spare : (f n : ℕ) (o : Option BlockId) (rest : BlockId → ℕ → List What) → ((b : BlockId) (m : ℕ) → Spares (rest b m)) → Spares (writes_taken f n o rest)
taken_spare f zero o rest spare = tt
taken_spare f (suc m) None rest spare = tt
taken_spare f (suc m) (Some b) rest spare = (refl, spare b m)

writes_spare : (config : Config) (a : Pager) (n : ℕ) (last : Option BlockId) (frames : List ℕ) → Spares (writes_from config a n last frames)
writes_spare config a n last [] = tt
writes_spare config a n last (f ∷ frames) =
    taken_spare f n (block_out config a last (a.page f)) (λ (b : BlockId) (m : ℕ). writes_from config a m (Some b) frames) (λ b m. writes_spare config a m (Some b) frames)

cluster_spares : (config : Config) (a : Pager) → Spares (begin_gives config a reason_high).made
cluster_spares config a = by (is_enough config a reason_high || nat_eq (length a.modified) 0)
  where
    by : (b : Bool) → Spares (cond b (given [] begin_nothing) (given (writes_from config a config.params.wrtcluster None a.modified) begin_carry)).made
    by true = tt
    by false = writes_spare config a config.params.wrtcluster None a.modified

reuse_spares : (f : ℕ) (o : Option Page) → Spares (reuse_of f o)
reuse_spares f None = tt
reuse_spares f (Some g) = (refl, tt)

landing_spares : (past : List Entry) (page : ℕ → Option Page) (x : Flight) (d : Direction) (o : Outcome) → Spares (landing past page x d o)
landing_spares past page x (reading r) went_well = (refl, tt)
landing_spares past page x (reading r) (went_badly n) = (refl, reuse_spares x.frame (page x.frame))
landing_spares past page x writing went_well = (refl, tt)
landing_spares past page x writing (went_badly n) = (refl, tt)

-- ---- at a request for which a process is being left, there is one
abbrev pub HasTask : Config → List Entry → Doing → Option ℕ → Type 0
HasTask config past asking (Some q) = next_task config past ≡ None → ⊥
HasTask config past doing leaving = Unit {0}

task_left : (config : Config) (past more : List Entry) (d : Doing) (o : Option ℕ) → spoken more ≡ spoken past → HasTask config past d o → HasTask config more d o
task_left config past more asking (Some q) same has = λ none. has (ap (slice_get config.body) (sym same) ∙ none)
task_left config past more asking None same has = tt
task_left config past more (saving begun p) o same has = tt
task_left config past more (freeing begun p) o same has = tt
task_left config past more (cleaning at) o same has = tt

nobody_left : (config : Config) (past : List Entry) (d : Doing) (o : Option ℕ) → o ≡ None → HasTask config past d o
nobody_left config past asking None is = tt
nobody_left config past asking (Some q) is = absurd (none-some q (sym is))
nobody_left config past (saving begun p) o is = tt
nobody_left config past (freeing begun p) o is = tt
nobody_left config past (cleaning at) o is = tt

-- ---- moves outside the rundown: whoever makes entries isn't the writer, or they evict nothing for it; and the policy
-- goes on outside it, with a process being left only if nothing was answered
abbrev GoesInBody : Config → List Entry → After → Type 0
GoesInBody config past (goes c) = IsInBody c.doing × HasTask config past c.doing c.leaving
GoesInBody config past refuses = Unit {0}

abbrev IsOther : Config → ℕ → Type 0
IsOther config seat = seat ≡ length config.procs → ⊥

abbrev IsPlain : Config → List Entry → Move → Type 0
IsPlain config past (makes seat ws c) = IsOther config seat × IsInBody c.doing × HasTask config past c.doing c.leaving × (Silent ws ⊎ (c.leaving ≡ None))
IsPlain config past (carries seat ws onward) = (IsOther config seat ⊎ Spares ws) × ((all first : Bool) → GoesInBody config past (onward all first))
IsPlain config past rests = Unit {0}

record MoveIsPlain (config : Config) (past : List Entry) (m : Move) : Type 0 where
  plain : IsPlain config past m

abbrev EndsInBody : Config → List Entry → Ends → Type 0
EndsInBody config past ends_request = Unit {0}
EndsInBody config past (ends_part c) = GoesInBody config past (goes c)

unless_all : (config : Config) (past : List Entry) (ends : Ends) (c : Control) → EndsInBody config past ends → GoesInBody config past (goes c) → (all first : Bool) → GoesInBody config past (unless_all_failed ends c all first)
unless_all config past ends c ended body false first = body
unless_all config past ends_request c ended body true first = tt
unless_all config past (ends_part d) c ended body true first = ended

unless_first : (config : Config) (past : List Entry) (c : Control) → GoesInBody config past (goes c) → (all first : Bool) → GoesInBody config past (unless_first_failed c all first)
unless_first config past c body all true = tt
unless_first config past c body all false = body

module _ (config : Config) (past : List Entry) (a : Pager) where
  either : (b : Bool) (x y : Move) → MoveIsPlain config past x → MoveIsPlain config past y → MoveIsPlain config past (cond b x y)
  either true x y first second = first
  either false x y first second = second

  resting : MoveIsPlain config past rests
  resting = record { plain = tt }

  -- ---- of a seat that isn't the writer's
  module _ (seat : ℕ) (apart : IsOther config seat) where
    -- a place at which no process is left
    makes_plain : (ws : List What) (doing : Doing) → IsInBody doing → MoveIsPlain config past (makes seat ws (control doing))
    makes_plain ws doing body = record { plain = (apart, body, nobody_left config past doing None refl, inr refl) }

    -- one at which a process is left, where nothing is answered
    leaves_plain : (ws : List What) (doing : Doing) (q : ℕ) → IsInBody doing → HasTask config past doing (Some q) → Silent ws → MoveIsPlain config past (makes seat ws (while_leaving doing q))
    leaves_plain ws doing q body has silent = record { plain = (apart, body, has, inl silent) }

    carries_plain : (ws : List What) (ends : Ends) (c : Control) → EndsInBody config past ends → GoesInBody config past (goes c) → MoveIsPlain config past (carries seat ws (unless_all_failed ends c))
    carries_plain ws ends c ended body = record { plain = (inl apart, unless_all config past ends c ended body) }

    writing_plain : (ends : Ends) (c : Control) → EndsInBody config past ends → GoesInBody config past (goes c) → MoveIsPlain config past (writing_move config a seat ends c)
    writing_plain ends c ended body = carries_plain (begin_gives config a reason_need).made ends c ended body

    leave_by_plain : (q : ℕ) (ends : Ends) (doing : Doing) (made : List What) (is : SwapIs) → EndsInBody config past ends → IsInBody doing → HasTask config past doing (Some q) → Silent made
        → MoveIsPlain config past (leave_move_by config a seat q ends doing made is)
    leave_by_plain q ends doing made swap_carry ended body has silent = carries_plain made ends (while_leaving doing q) ended (body, has)
    leave_by_plain q ends doing made swap_more ended body has silent = leaves_plain made doing q body has silent
    leave_by_plain q ends doing made swap_settled ended body has silent = makes_plain made doing body
    leave_by_plain q ends doing made (swap_again swap_modified_full) ended body has silent = writing_plain ends (while_leaving doing q) ended (body, has)
    leave_by_plain q ends doing made (swap_again swap_in_flight) ended body has silent = resting
    leave_by_plain q ends doing made (swap_again swap_no_frame) ended body has silent = resting

    leave_plain : (q : ℕ) (ends : Ends) (doing : Doing) → EndsInBody config past ends → IsInBody doing → HasTask config past doing (Some q) → MoveIsPlain config past (leave_move config past a seat q ends doing)
    leave_plain q ends doing ended body has = leave_by_plain q ends doing (leave_gives config past a q).made (leave_gives config past a q).answer ended body has (leave_silent config past a q).silent

    module _ (p : ℕ) (ends : Ends) (doing : Doing) (ended : EndsInBody config past ends) (body : IsInBody doing) (has : (q : ℕ) → HasTask config past doing (Some q)) (none : Move) (plain : MoveIsPlain config past none) where
      victim_plain : (o : Option ℕ) → MoveIsPlain config past (victim_move seat doing o none)
      victim_plain None = plain
      victim_plain (Some q) = leaves_plain _ doing q body (has q) refl

      other_plain : (o : Option ℕ) → MoveIsPlain config past (other_move config past a seat p ends doing none o)
      other_plain (Some q) = leave_plain q ends doing ended body (has q)
      other_plain None = victim_plain (victim_gives config past a (Some p))

      finding_plain : MoveIsPlain config past (finding_move config past a seat p ends doing none)
      finding_plain = either (nat_lt 0 (length a.modified)) _ _ (writing_plain ends (control doing) ended (body, nobody_left config past doing None refl)) (other_plain (leaving_other config a p))

  -- ---- a request's
  module _ (p : ℕ) (apart : IsOther config p) (some : next_task config past ≡ None → ⊥) where
    come_plain : (made : List What) (is : SwapIs) → MoveIsPlain config past (come_move_by config past a p made is)
    come_plain made swap_carry = carries_plain p apart made ends_request (control asking) tt (tt, tt)
    come_plain made swap_more = makes_plain p apart made asking tt
    come_plain made swap_settled = makes_plain p apart made asking tt
    come_plain made (swap_again swap_no_frame) = finding_plain p apart p ends_request asking tt tt (λ q. some) rests resting
    come_plain made (swap_again swap_in_flight) = resting
    come_plain made (swap_again swap_modified_full) = resting

    gone_plain : (o : Option ℕ) → MoveIsPlain config past (gone_move p o)
    gone_plain None = makes_plain p apart _ asking tt
    gone_plain (Some q) = leaves_plain p apart _ asking q tt some refl

    advance_plain : (made : List What) (is : NextIs) → MoveIsPlain config past (advance_move_by config past a p made is)
    advance_plain made next_answered = makes_plain p apart made (saving false p) tt
    advance_plain made next_carry = record { plain = (inl apart, unless_first config past (control asking) (tt, tt)) }
    advance_plain made next_more = makes_plain p apart made asking tt
    advance_plain made (next_again again_modified_full) = writing_plain p apart ends_request (control asking) tt (tt, tt)
    advance_plain made (next_again again_no_frame) = finding_plain p apart p ends_request asking tt tt (λ q. some) rests resting
    advance_plain made (next_again again_not_resident) = resting
    advance_plain made (next_again again_collided) = resting
    advance_plain made (next_again again_block_busy) = resting
    advance_plain made (next_again again_charging) = resting

    serve_plain : (made : List What) (is : ServeIs) → MoveIsPlain config past (serve_move_by config a p made is)
    serve_plain made serve_answered = makes_plain p apart made (saving false p) tt
    serve_plain made serve_more = makes_plain p apart made asking tt
    serve_plain made (serve_again serve_modified_full) = writing_plain p apart ends_request (control asking) tt (tt, tt)
    serve_plain made (serve_again serve_not_resident) = resting
    serve_plain made (serve_again serve_in_flight) = resting

    resident_plain : (q : Request) → MoveIsPlain config past (resident_move config past a p q)
    resident_plain (request.Reference r) = advance_plain (advance_gives config past a p r).made (advance_gives config past a p r).answer
    resident_plain (request.Service s) = serve_plain (serve_gives config past a p s).made (serve_gives config past a p s).answer

    status_plain : (q : Request) (s : ProcStatus) → MoveIsPlain config past (status_move config past a p q s)
    status_plain q status.Resident = resident_plain q
    status_plain q status.Leaving = leave_plain p apart p ends_request asking tt tt some
    status_plain q status.Gone = gone_plain (coming_process config a)
    status_plain q status.Coming = come_plain (come_gives config past a p).made (come_gives config past a p).answer

    asked_plain : (o : Option ℕ) (q : Request) → MoveIsPlain config past (asked_move config past a o p q)
    asked_plain (Some q) r = leave_plain p apart q ends_request asking tt tt some
    asked_plain None r = status_plain r (a.status p)

  swapper_apart : IsOther config (swapper_of config)
  swapper_apart same = omega (arith, same)

  module _ (formed : IsWellFormed config) where
    task_plain : (leaving : Option ℕ) (o : Option Task) → next_task config past ≡ o → MoveIsPlain config past (task_move config past a leaving o)
    task_plain leaving None next = resting
    task_plain leaving (Some task) next =
        let there = (task_formed config past task formed next).0 in
        asked_plain (task.proc).0 (λ same. omega (arith, there, same)) (λ none. none-some task (sym none ∙ next)) leaving task.request

    asking_plain : (leaving : Option ℕ) → MoveIsPlain config past (asking_move config past a leaving)
    asking_plain leaving = task_plain leaving (next_task config past) refl

    freeing_plain : (o : Option ℕ) (begun : Bool) (p : ℕ) → MoveIsPlain config past (freeing_move config past a o begun p)
    freeing_plain (Some q) begun p = leave_plain (swapper_of config) swapper_apart q (ends_part (control asking)) (freeing true p) (tt, tt) tt tt
    freeing_plain None begun p =
        either (is_freeing config a begun && is_freeing config a true) _ _
        (finding_plain (swapper_of config) swapper_apart p (ends_part (control asking)) (freeing true p) (tt, tt) tt (λ q. tt) (asking_move config past a None) (asking_plain None)) (asking_plain None)

    saving_by_plain : (made : List What) (is : BeginIs) (p : ℕ) (none : Move) → Spares made → MoveIsPlain config past none → MoveIsPlain config past (saving_by config made is p none)
    saving_by_plain made begin_carry p none spare plain = record { plain = (inr spare, unless_all config past (ends_part (control (freeing false p))) (control (saving true p)) (tt, tt) (tt, tt)) }
    saving_by_plain made begin_nothing p none spare plain = plain

    saving_plain : (begun : Bool) (p : ℕ) → MoveIsPlain config past (saving_move config past a begun p)
    saving_plain begun p =
        either (is_saving config a begun) _ _
        (saving_by_plain (begin_gives config a reason_high).made (begin_gives config a reason_high).answer p (freeing_move config past a None false p) (cluster_spares config a) (freeing_plain None false p))
        (freeing_plain None false p)

move_plain : (config : Config) (past : List Entry) (c : Control) → IsWellFormed config → IsInBody c.doing → MoveIsPlain config past (move_of config past c)
move_plain config past c formed body = by c.doing body
  where
    by : (d : Doing) → IsInBody d → MoveIsPlain config past (move_of config past (record c { doing = d }))
    by asking body = asking_plain config past (pager_after config past) formed c.leaving
    by (saving begun p) body = saving_plain config past (pager_after config past) formed begun p
    by (freeing begun p) body = freeing_plain config past (pager_after config past) formed c.leaving begun p
    by (cleaning at) body = absurd body

-- ---- what such a move adds to a past without the rundown
both : (a b : Bool) → a ≡ false → b ≡ false → (a || b) ≡ false
both a b one other = ap (λ (x : Bool). x || b) one ∙ other

spared : (seat : ℕ) (ws : List What) (past : List Entry) → Spares ws → has_rundown past ≡ false → has_rundown (made_by seat ws past) ≡ false
spared seat [] past spare none = none
spared seat (w ∷ ws) past spare none = spared seat ws (by_seat seat w ∷ past) spare.1 (both (is_rundown_eviction w) (has_rundown past) spare.0 none)

-- the rundown's evictions are the writer's
others_spare : (config : Config) (past : List Entry) (a : Pager) (seat : ℕ) (w : What) → IsOther config seat → IsLegalWhat config past a seat w → is_rundown_eviction w ≡ false
others_spare config past a seat (what.Evict p address f evict.Rundown to) apart row = absurd (apart row.writer)
others_spare config past a seat other apart row = refl

others_made : (config : Config) (seat : ℕ) (ws : List What) (past : List Entry) → IsOther config seat → IsRun config (made_by seat ws past) → has_rundown past ≡ false → has_rundown (made_by seat ws past) ≡ false
others_made config seat [] past apart run none = none
others_made config seat (w ∷ ws) past apart run none =
    let first = run_before config seat ws (by_seat seat w ∷ past) run in
    others_made config seat ws (by_seat seat w ∷ past) apart run
    (both (is_rundown_eviction w) (has_rundown past) (others_spare config past (pager_after config past) seat w apart first.1.row) none)

landed_spared : (config : Config) (seat : ℕ) (flights : List Flight) (outcomes : List Outcome) (past : List Entry) → has_rundown past ≡ false → has_rundown (landed_by config seat flights outcomes past) ≡ false
landed_spared config seat [] outcomes past none = none
landed_spared config seat (x ∷ flights) [] past none = none
landed_spared config seat (x ∷ flights) (o ∷ outcomes) past none =
    let page = (pager_after config past).page in
    let ws = landing past page x x.direction o in
    landed_spared config seat flights outcomes (made_by seat ws past) (spared seat ws past (landing_spares past page x x.direction o) none)

refusal_spares : (q : Request) (task : Task) → is_rundown_eviction (refusal_of (record task { request = q })) ≡ false
refusal_spares (request.Reference r) task = refl
refusal_spares (request.Service s) task = refl

-- ---- where a chain of moves from the first request on stands
pub record IsPlaced (config : Config) (past : List Entry) (c : Control) : Type 0 where
  pub between : IsBetween config past
  pub controlled : IsControlled config past c
  pub body : IsInBody c.doing
  pub none : has_rundown past ≡ false
  pub task : HasTask config past c.doing c.leaving

record IsAhead (config : Config) (past : List Entry) (c : Control) : Type 0 where
  body : IsInBody c.doing
  none : has_rundown past ≡ false
  task : HasTask config past c.doing c.leaving

ahead_same : (config : Config) (past more : List Entry) (c next : Control) → more ≡ past → next ≡ c → IsAhead config past c → IsAhead config more next
ahead_same config past more c next one other ahead = subst (λ (d : Control). IsAhead config more d) (sym other) (subst (λ (xs : List Entry). IsAhead config xs c) (sym one) ahead)

refused_ahead : (config : Config) (landed more : List Entry) (next : Control) (o : Option Task) → has_rundown landed ≡ false → IsRefused landed more next o → IsAhead config more next
refused_ahead config landed more next None none refused = absurd refused
refused_ahead config landed more next (Some task) none refused =
    ahead_same config (by_seat (task.proc).0 (refusal_of task) ∷ landed) more (control (saving false (task.proc).0)) next refused.0 refused.1
    (record { body = tt; none = both (is_rundown_eviction (refusal_of task)) (has_rundown landed) (refusal_spares task.request task) none; task = tt })

on_ahead : (config : Config) (landed more : List Entry) (next : Control) (x : After) → has_rundown landed ≡ false → GoesInBody config landed x → GoesOn config landed more next x → IsAhead config more next
on_ahead config landed more next (goes c) none body on = ahead_same config landed more c next on.0 on.1 (record { body = body.0; none = none; task = body.1 })
on_ahead config landed more next refuses none body on = refused_ahead config landed more next (next_task config landed) none on

-- a move's past is a run
on_before : (config : Config) (landed more : List Entry) (next : Control) (x : After) → GoesOn config landed more next x → IsRun config more → IsRun config landed
on_before config landed more next (goes c) on run = subst (IsRun config) on.0 run
on_before config landed more next refuses on run = by (next_task config landed) on
  where
    by : (o : Option Task) → IsRefused landed more next o → IsRun config landed
    by None refused = absurd refused
    by (Some task) refused = (subst (IsRun config) refused.0 run).0

-- what a move that carries has begun is a run
begun_before : (config : Config) (seat : ℕ) (begun more : List Entry) (next : Control) (heard : Heard) (x : After) → GoesOn config (landed_by config seat (carrier_of seat begun) heard.outcomes begun) more next x → IsRun config more → IsRun config begun
begun_before config seat begun more next heard x on run =
    run_landed config seat (carrier_of seat begun) heard.outcomes begun (on_before config (landed_by config seat (carrier_of seat begun) heard.outcomes begun) more next x on run)

move_before : (config : Config) (past : List Entry) (heard : Heard) (more : List Entry) (next : Control) (m : Move) → IsMade config past heard more next m → IsRun config more → IsRun config past
move_before config past heard more next (makes seat ws c) made run = run_before config seat (map (with_reply heard.reply) ws) past (subst (IsRun config) made.0 run)
move_before config past heard more next (carries seat ws onward) made run =
    run_before config seat ws past (begun_before config seat (made_by seat ws past) more next heard (onward (all_bad heard.outcomes) (first_bad heard.outcomes)) made.on run)
move_before config past heard more next rests made run = absurd made

begun_spared : (config : Config) (past : List Entry) (seat : ℕ) (ws : List What) → IsOther config seat ⊎ Spares ws → IsRun config (made_by seat ws past) → has_rundown past ≡ false → has_rundown (made_by seat ws past) ≡ false
begun_spared config past seat ws (inl apart) run none = others_made config seat ws past apart run none
begun_spared config past seat ws (inr spare) run none = spared seat ws past spare none

-- where nothing was answered there is a request as before
after_silence : (config : Config) (past more : List Entry) (x : After) → spoken more ≡ spoken past → GoesInBody config past x → GoesInBody config more x
after_silence config past more (goes c) same body = (body.0, task_left config past more c.doing c.leaving same body.1)
after_silence config past more refuses same body = tt

shown_task : (config : Config) (past : List Entry) (seat : ℕ) (shown : Reply) (ws : List What) (c : Control) → HasTask config past c.doing c.leaving → Silent ws ⊎ (c.leaving ≡ None) → HasTask config (made_by seat (map (with_reply shown) ws) past) c.doing c.leaving
shown_task config past seat shown ws c has (inl silent) =
    task_left config past (made_by seat (map (with_reply shown) ws) past) c.doing c.leaving (silent_made seat (map (with_reply shown) ws) past (said_shown shown ws ∙ silent)).count has
shown_task config past seat shown ws c has (inr none) = nobody_left config (made_by seat (map (with_reply shown) ws) past) c.doing c.leaving none

made_ahead : (config : Config) (past : List Entry) (heard : Heard) (more : List Entry) (next : Control) (m : Move) → IsPlain config past m → SaysRight config past m → has_rundown past ≡ false → IsMade config past heard more next m → IsRun config more → IsAhead config more next
made_ahead config past heard more next (makes seat ws c) plain says none made run =
    let shown = map (with_reply heard.reply) ws in
    ahead_same config (made_by seat shown past) more c next made.0 made.1
    (record { body = plain.1; none = others_made config seat shown past plain.0 (subst (IsRun config) made.0 run) none; task = shown_task config past seat heard.reply ws c plain.2 plain.3 })
made_ahead config past heard more next (carries seat ws onward) plain says none made run =
    let begun = made_by seat ws past in
    let x = onward (all_bad heard.outcomes) (first_bad heard.outcomes) in
    let clear = begun_spared config past seat ws plain.0 (begun_before config seat begun more next heard x made.on run) none in
    let landed = landed_by config seat (carrier_of seat begun) heard.outcomes begun in
    let same = (silent_then past begun landed (silent_made seat ws past says) (landed_silent config seat (carrier_of seat begun) heard.outcomes begun)).count in
    on_ahead config landed more next x
    (landed_spared config seat (carrier_of seat begun) heard.outcomes begun clear)
    (after_silence config past landed x same (plain.1 (all_bad heard.outcomes) (first_bad heard.outcomes))) made.on
made_ahead config past heard more next rests plain says none made run = absurd made

first_placed : (config : Config) → IsWellFormed config → IsPlaced config [] (control asking)
first_placed config formed = record {
  between = record { formed = formed; run = tt; landed = refl; reused = refl };
  controlled = record { leaving = λ q is. absurd (none-some q is); answered_process = tt; waiting = tt; touched = inl (λ g some. absurd (omega (arith, some))) };
  body = tt;
  none = refl;
  task = tt;
}

pub placed : (config : Config) (told : List Heard) (past : List Entry) (c : Control) → IsWellFormed config → IsReached config [] (control asking) told past c → IsRun config past → IsPlaced config past c
placed config [] past c formed reached run =
    subst (λ (d : Control). IsPlaced config past d) (sym reached.1) (subst (λ (xs : List Entry). IsPlaced config xs (control asking)) (sym reached.0) (first_placed config formed))
placed config (heard ∷ told) past c formed reached run =
    let early = reached.earlier_past in
    let at = reached.earlier_control in
    let first = placed config told early at formed reached.before (move_before config early heard past c (move_of config early at) reached.move run) in
    let ahead = made_ahead config early heard past c (move_of config early at) (move_plain config early at formed first.body).plain (move_says config early at).right first.none reached.move run in
    record {
      between = moves_between config early at heard past c first.between first.controlled reached.move run;
      controlled = moves_fit config early at heard past c first.between first.controlled reached.move;
      body = ahead.body;
      none = ahead.none;
      task = ahead.task;
    }
