-- The work of each kind of worker, by what its pass knew at first.
use Rattle.std.proofs.Common.{◌≡◌, ◌⊎◌, ℕ, ◌+◌, ◌<◌, Bool, true, false, cond, List, Some, None, [], ◌∷◌, filter, length, map, nat_eq, reverse, refl, sym, ap, ◌∙◌, subst, arith}
use Rattle.std.specs.Prelude.{All}
use Rattle.std.specs.List.{AllByRecursion}
use Rattle.std.proofs.lemmas.List.Elements.{All-from_recursion, recursion_from_All}
use Rattle.std.proofs.lemmas.Option.{none-some}
use Rattle.vm_types.specs.Configuration.{IsTask}
use Rattle.vm_types.specs.declared.config.Config.{Config}
use Rattle.vm_types.specs.declared.config.Task.{Task}
use Rattle.vm_types.specs.declared.names.Proc.{Proc}
use Rattle.vm_types.specs.declared.names.Seat.{Seat}
use Rattle.vm_types.specs.declared.service.Request.{Request}
use Rattle.vm_journal.specs.declared.entry.Entry.{Entry}
use Rattle.history_lock.specs.Views.{unseen}
use Rattle.history_lock.specs.declared.view.View.{View}
use Rattle.pager_model.specs.Order.{requests_of}
use Rattle.vm_state.specs.declared.base.StateBase.{StateBase}
use Rattle.vm_actors.specs.Between.{IsCalm, NoneOpen}
use Rattle.vm_actors.specs.Doings.{Knows, MayAsk, MayDo, RestsAt, request_of}
use Rattle.vm_actors.specs.InTurns.{AreLeft, MadeInTurns}
use Rattle.vm_actors.specs.OwnEntries.{GoesOnSilently, MadeSome}
use Rattle.vm_actors.specs.Requests.{AreAllAnswered, HasAnswered}
use Rattle.vm_actors.specs.declared.doing.Doing.{Doing}
use Rattle.vm_actors.specs.declared.doing.Doing.TheVariants.{Asking, Swapping, Writing}
use Rattle.replay_run.specs.Jobs.{IsWorkDone, IsDoneBy, IsIdleDone, IsPlayable}

module _ (b : StateBase) (k : ℕ) (v : View StateBase) (is : v ≡ unseen (k ∷ []) b) where
  -- ---- before: nothing is open
  pub none_open_first : NoneOpen v.numbers v.seen
  none_open_first = subst (λ (w : View StateBase). NoneOpen w.numbers w.seen) (sym is) (λ j has. refl)

  pub calm_first : IsCalm v.seen
  calm_first = subst (λ (w : View StateBase). IsCalm w.seen) (sym is) refl

  pub knows_first : (Is : Config → Type 0) → b.keeps ≡ true → Is b.config → Knows Is v.base
  knows_first Is keeps there = subst (λ (w : View StateBase). Knows Is w.base) (sym is) (keeps, there)

  -- ---- what a process may ask for
  asks_by : (n : ℕ) (p : Proc) → p.0 ≡ k → p.0 < n → n ≡ length b.config.procs → (body : List Task) → AllByRecursion (IsTask b.config.version n) body → AllByRecursion (λ (x : Request). MayAsk p x b.config) (requests_of k body)
  asks_by n p same under count [] are = tt
  asks_by n p same under count (task ∷ body) are = by (nat_eq (task.proc).0 k) (asks_by n p same under count body are.1)
    where
      by : (c : Bool) → AllByRecursion (λ (x : Request). MayAsk p x b.config) (requests_of k body) → AllByRecursion (λ (x : Request). MayAsk p x b.config) (map (λ (t : Task). t.request) (cond c (task ∷ filter (λ (t : Task). nat_eq (t.proc).0 k) body) (filter (λ (t : Task). nat_eq (t.proc).0 k) body)))
      by true rest = (record { process = subst (λ (m : ℕ). p.0 < m) count under; formed = (are.0).request; known = (are.0).of_version }, rest)
      by false rest = rest

  pub all_may_ask : IsPlayable b → (p : Proc) → p.0 ≡ k → k < length b.config.procs → (work : List Request) → work ≡ requests_of k b.config.body → All (λ (x : Request). Knows (MayAsk p x) v.base) work
  all_may_ask playable p same under work asks =
      subst (λ (xs : List Request). All (λ (x : Request). Knows (MayAsk p x) v.base) xs) (sym asks)
      (All-from_recursion (λ (x : Request). Knows (MayAsk p x) v.base) (requests_of k b.config.body)
      (each (requests_of k b.config.body)
      (asks_by (length b.config.procs) p same (subst (λ (m : ℕ). m < length b.config.procs) (sym same) under) refl b.config.body (recursion_from_All (IsTask b.config.version (length b.config.procs)) b.config.body (playable.formed).body))))
    where
      each : (xs : List Request) → AllByRecursion (λ (x : Request). MayAsk p x b.config) xs → AllByRecursion (λ (x : Request). Knows (MayAsk p x) v.base) xs
      each [] are = tt
      each (x ∷ xs) are = (knows_first (MayAsk p x) playable.keeps are.0, each xs are.1)

  -- ---- after
  done_by : (place : List Entry) → IsWorkDone b k place → IsDoneBy v.base v.numbers place
  done_by place done = subst (λ (w : View StateBase). IsDoneBy w.base w.numbers place) (sym is) done

  pub all_left : (p : Proc) → p.0 ≡ k → (work : List Request) → work ≡ requests_of k b.config.body → AreLeft v.base p.0 work v.seen
  all_left p same work asks = subst (λ (w : View StateBase). AreLeft w.base p.0 work w.seen) (sym is) (asks ∙ ap (λ (j : ℕ). requests_of j b.config.body) (sym same))

  turns_first : (seat : ℕ) → seat ≡ k → (place : List Entry) → MadeInTurns v.base seat v.seen place → MadeInTurns (Some b) k [] place
  turns_first seat same place turns = subst (λ (j : ℕ). MadeInTurns (Some b) j [] place) same (subst (λ (w : View StateBase). MadeInTurns w.base seat w.seen place) is turns)

  pub process_done : (place : List Entry) (work : List Request) → k < length b.config.procs → work ≡ requests_of k b.config.body → HasAnswered v.numbers v.seen place work → (p : Proc) → p.0 ≡ k → MadeInTurns v.base p.0 v.seen place → IsDoneBy v.base v.numbers place
  process_done place work under asks all p same turns =
      done_by place (record {
        process = λ less. subst (HasAnswered (k ∷ []) [] place) asks (subst (λ (w : View StateBase). HasAnswered w.numbers w.seen place work) is all);
        writer = λ same. absurd (omega (arith, under, same));
        swapper = λ same. absurd (omega (arith, under, same));
        turns = turns_first p.0 same place turns;
      })

  -- the work for no request, of the seat that may do it
  pub idle_done : (doing : Doing) → request_of doing ≡ None → (seat : Seat) → seat.0 ≡ k → MayDo seat doing b.config → (place : List Entry) → GoesOnSilently v.numbers v.seen place → AreAllAnswered v.base place → MadeSome v.numbers v.seen place ⊎ RestsAt doing v.base (reverse place) → MadeInTurns v.base seat.0 v.seen place → IsDoneBy v.base v.numbers place
  idle_done doing none seat same may place silent all worked turns =
      done_by place (by doing none may (record {
        silent = subst (λ (w : View StateBase). GoesOnSilently w.numbers w.seen place) is silent;
        answered = subst (λ (w : View StateBase). AreAllAnswered w.base place) is all;
        worked = subst (λ (w : View StateBase). MadeSome w.numbers w.seen place ⊎ RestsAt doing w.base (reverse place)) is worked;
      }))
    where
      by : (d : Doing) → request_of d ≡ None → MayDo seat d b.config → IsIdleDone b k d place → IsWorkDone b k place
      by (Asking p x) none may idle = absurd (none-some x (sym none))
      by Writing none may idle =
          let here : k ≡ length b.config.procs = sym same ∙ ap (λ (z : Seat). z.0) may in
          record {
            process = λ less. absurd (omega (arith, here, less));
            writer = λ at. idle;
            swapper = λ at. absurd (omega (arith, here, at));
            turns = turns_first seat.0 same place turns;
          }
      by Swapping none may idle =
          let here : k ≡ length b.config.procs + 1 = sym same ∙ ap (λ (z : Seat). z.0) may in
          record {
            process = λ less. absurd (omega (arith, here, less));
            writer = λ at. absurd (omega (arith, here, at));
            swapper = λ at. idle;
            turns = turns_first seat.0 same place turns;
          }
