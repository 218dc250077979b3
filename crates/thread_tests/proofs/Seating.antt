-- A seat's pass and carrier at the lock of a test: at first, and after a call.
use Rattle.std.proofs.Common.{◌≡◌, ℕ, ◌<◌, List, [], ◌∷◌, ◌++◌, Option, Some, length, refl, sym, ap, ◌∙◌, subst, reverse, arith}
use Rattle.std.specs.Prelude.{All, Contains, slice_get}
use Rattle.std.specs.List.{AllByRecursion}
use Rattle.std.proofs.lemmas.List.Elements.{All-from_recursion, All-get_or, recursion_from_All}
use Rattle.std.proofs.lemmas.Option.{get_or_from_slice_get, slice_get_within}
use Rattle.vm_types.specs.Configuration.{IsTask}
use Rattle.vm_types.specs.declared.config.Config.{Config}
use Rattle.vm_types.specs.declared.config.Task.{Task}
use Rattle.vm_journal.specs.declared.entry.Entry.{Entry}
use Rattle.history_lock.specs.Passes.{IsIdle, IsSameLock, base_of, numbers, seen}
use Rattle.history_lock.specs.declared.lock.HistoryLock.{HistoryLock}
use Rattle.history_lock.specs.declared.pass.Pass.{Pass}
use Rattle.history_lock.specs.declared.view.View.{View}
use Rattle.pager_model.specs.Flights.{carrier_of}
use Rattle.lift_carriers.specs.CarrierView.{CarrierView}
use Rattle.vm_state.specs.History.{History}
use Rattle.vm_state.specs.declared.base.StateBase.{StateBase}
use Rattle.call_begins.specs.MayBegin.{empty}
use Rattle.vm_actors.specs.Between.{NoneOpen}
use Rattle.vm_actors.specs.Doings.{Knows, MayAsk}
use Rattle.replay_run.specs.Jobs.{IsFresh, IsPlayable}
use Rattle.thread_tests.specs.Desks.{IsSeated}

-- a pass that stands on such a base knows it
pub knows : (Is : Config → Type 0) (b : StateBase) (o : Option StateBase) → o ≡ Some b → IsPlayable b → Is b.config → Knows Is o
knows Is b o stands playable holds = subst (Knows Is) (sym stands) (playable.keeps, holds)

contains_one : (k : ℕ) (numbers : List ℕ) → numbers ≡ k ∷ [] → Contains numbers k
contains_one k numbers is = subst (λ (ns : List ℕ). Contains ns k) (sym is) (0, omega arith, refl)

-- a task of a configuration may be asked for
pub may_ask : (config : Config) (n : ℕ) (task : Task) → n ≡ length config.procs → IsTask config.version n task → MayAsk task.proc task.request config
may_ask config n task count is = record { process = subst (λ (m : ℕ). (task.proc).0 < m) count is.proc; formed = is.request; known = is.of_version }

pub task_of : (config : Config) (n : ℕ) (body : List Task) (i : ℕ) (task : Task) → All (IsTask config.version n) body → slice_get body i ≡ Some task → IsTask config.version n task
task_of config n body i task are at =
    subst (IsTask config.version n) (get_or_from_slice_get body i task task at) (All-get_or (IsTask config.version n) body i task (slice_get_within body i task at) are)

-- what holds of all items holds of the last one, and of those before it
split_by : (P : Task → Type 0) (left : List Task) (last : Task) → AllByRecursion P (left ++ last ∷ []) → AllByRecursion P left × P last
split_by P [] last are = (tt, are.0)
split_by P (task ∷ left) last are = (let rest = split_by P left last are.1 in ((are.0, rest.0), rest.1))

pub split_tasks : (P : Task → Type 0) (body left : List Task) (last : Task) → body ≡ left ++ last ∷ [] → All P body → All P left × P last
split_tasks P body left last is all = (let parts = split_by P left last (recursion_from_All P (left ++ last ∷ []) (subst (All P) is all)) in (All-from_recursion P left parts.0, parts.1))

module _ {B : Type 0} (lock : HistoryLock History StateBase) (b : StateBase) where
  pub seated_first : (k : ℕ) (pass : Pass History StateBase) (carrier : CarrierView B) → IsFresh lock b k pass → carrier ≡ empty (record { 0 = k }) → IsSeated lock b pass carrier
  seated_first k pass carrier fresh is =
      let seat : (carrier.seat).0 ≡ k = ap (λ (c : CarrierView B). (c.seat).0) is in
      record {
        own = fresh.own;
        idle = fresh.idle;
        owns = ap (λ (v : View StateBase). v.numbers) fresh.views ∙ ap (λ (n : ℕ). n ∷ []) (sym seat);
        stands = ap (λ (v : View StateBase). v.base) fresh.views;
        landed = λ n has. subst (λ (journal : List Entry). carrier_of n (reverse journal) ≡ []) (sym (ap (λ (v : View StateBase). v.seen) fresh.views)) refl;
        carries = is ∙ sym (ap (λ (c : CarrierView B). empty c.seat) is);
      }

  module _ (pass : Pass History StateBase) (carrier : CarrierView B) (seated : IsSeated lock b pass carrier) where
    pub owns_number : (k : ℕ) → (carrier.seat).0 ≡ k → Contains (numbers pass) k
    owns_number k is = contains_one k (numbers pass) (seated.owns ∙ ap (λ (n : ℕ). n ∷ []) is)

    pub none_open : NoneOpen (numbers pass) (seen pass)
    none_open = subst (λ (ns : List ℕ). NoneOpen ns (seen pass)) (sym seated.owns) seated.landed

    pub is_empty : (k : ℕ) → (carrier.seat).0 ≡ k → carrier ≡ empty (record { 0 = k })
    is_empty k is = seated.carries ∙ ap (λ (n : ℕ). empty (record { 0 = n })) is

    pub empty_again : (k : ℕ) → (carrier.seat).0 ≡ k → (after : CarrierView B) → after ≡ empty (record { 0 = k }) → after ≡ empty carrier.seat
    empty_again k same after is = is ∙ sym (ap (λ (n : ℕ). empty (record { 0 = n })) same)

  module _ (old new : Pass History StateBase) (before after : CarrierView B) (seated : IsSeated lock b old before) (is : after ≡ empty before.seat) where
    pub same_seat : after.seat ≡ before.seat
    same_seat = ap (λ (c : CarrierView B). c.seat) is

    pub seated_after : IsSameLock old new → IsIdle new → numbers new ≡ numbers old → base_of new ≡ base_of old → NoneOpen (numbers old) (seen new) → IsSeated lock b new after
    seated_after same idle owns stands landed =
        let number : (after.seat).0 ≡ (before.seat).0 = ap (λ (c : CarrierView B). (c.seat).0) is in
        record {
          own = same ∙ seated.own;
          idle = idle;
          owns = owns ∙ seated.owns ∙ ap (λ (n : ℕ). n ∷ []) (sym number);
          stands = stands ∙ seated.stands;
          landed = subst (λ (n : ℕ). NoneOpen (n ∷ []) (seen new)) (sym number) (subst (λ (ns : List ℕ). NoneOpen ns (seen new)) seated.owns landed);
          carries = is ∙ sym (ap (λ (c : CarrierView B). empty c.seat) is);
        }
