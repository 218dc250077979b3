-- A process comes: a page comes back, a run of its swap blocks is read, its last turn, or a frame is found first.
use Rattle.std.proofs.Common.{◌≡◌, inl, ℕ, zero, suc, ◌+◌, ◌<◌, ◌≤◌, ◌++◌, Bool, true, false, cond, List, [], ◌∷◌, Option, Some, None, length, nat_eq, nat_le, refl, sym, ap, ◌∙◌, subst, arith}
use Rattle.std.proofs.lemmas.Option.{none-some}
use Rattle.std.specs.List.{AllByRecursion, range_with_len}
use Rattle.std.proofs.lemmas.Bool.{eqb-false, eqb-true, false≢true, true≢false}
use Rattle.vm_types.specs.Adjust.{lesser}
use Rattle.vm_types.specs.declared.names.Page.{Page}
use Rattle.vm_types.specs.declared.names.Proc.{Proc}
use Rattle.vm_types.specs.declared.names.BlockId.TheVariants as block
use Rattle.vm_types.specs.declared.names.FrameState.TheVariants as state
use Rattle.vm_types.specs.declared.names.ProcStatus.{ProcStatus}
use Rattle.vm_types.specs.declared.names.ProcStatus.TheVariants as status
use Rattle.vm_types.specs.declared.config.Config.{Config}
use Rattle.vm_types.specs.declared.config.Task.{Task}
use Rattle.vm_journal.specs.declared.entry.Entry.{Entry}
use Rattle.vm_journal.specs.declared.entry.Role.{Role}
use Rattle.vm_journal.specs.declared.entry.Role.TheVariants as role
use Rattle.vm_journal.specs.declared.entry.What.{What}
use Rattle.vm_journal.specs.declared.entry.What.TheVariants as what
use Rattle.pager_model.specs.Flights.{Flight, open_flights, carrier_of}
use Rattle.pager_model.specs.Forget.{holder}
use Rattle.pager_policy.specs.Given.{Target, address_of, given, leading, made_by, reads_made, reuse_first, slots_of}
use Rattle.pager_model.specs.Lookups.{passes}
use Rattle.pager_model.specs.Maps.{pfn, proc}
use Rattle.pager_policy.specs.Landings.{Outcome}
use Rattle.pager_policy.specs.Moves.{asking, carries, control, makes, rests}
use Rattle.pager_model.specs.Pager.{Pager}
use Rattle.pager_policy.specs.Policy.{come_move_by, ends_request, next_task, unless_all_failed}
use Rattle.pager_model.specs.Run.{pager_after}
use Rattle.pager_policy.specs.Swap.{GivenSwap, back_of, back_page, come_free, come_gives, come_out, come_target, come_targets, is_back_on_free, is_free_frame, is_out_page, run_from, swap_again, swap_carry, swap_in_flight, swap_more, swap_no_frame, swap_settled, swap_where, turned_resident}
use Rattle.pager_model.specs.Lying.{lying_in}
use Rattle.pager_model.specs.Transfers.{has_come, is_fault}
use Rattle.pager_rules.proofs.Lists.{found_passes}
use Rattle.call_laws.specs.AreLegal.{AreLegal}
use Rattle.call_laws.proofs.ComeLegal.{come_legal}
use Rattle.serial_laws.specs.Between.{IsBetween}
use Rattle.serial_laws.specs.Controlled.{AreTouched, IsControlled}
use Rattle.serial_laws.proofs.Carriers.{BeginsWith, is_beginning}
use Rattle.serial_laws.proofs.Finds.{finding_known, not_alone}
use Rattle.serial_laws.proofs.Known.{MayRefuse, MoveIsKnown, landed_from}
use Rattle.serial_laws.proofs.Landed.{landed_steady}
use Rattle.serial_laws.proofs.ReadFlights.{IsReading, begun_reads, carrying_reads, reads_each, reused_each}
use Rattle.serial_laws.proofs.Slots.{passing}
use Rattle.serial_laws.proofs.Steps.{IsSteady, is_steady, steady_made, steady_then}
use Rattle.serial_laws.proofs.Turns.{may_work, turn_known}
use Rattle.serial_laws.proofs.Work.{IsWork, request_work, touched_calm}
use Rattle.serial_laws.proofs.Writes.{unless_all_known}

none_free : (xs : List ℕ) → nat_eq (length xs) 0 ≡ true → xs ≡ []
none_free [] is = refl
none_free (x ∷ xs) is = absurd (let none = eqb-true (length (x ∷ xs)) 0 is in omega (arith, none))

-- ---- the reads of a run of swap blocks
abbrev IsComing : Target → Type 0
IsComing t = (q : Proc) × ((page : Page) × (t.role ≡ role.Come q (address_of page)))

one_target : (p n : ℕ) (o : Option Page) (targets : List Target) → AllByRecursion IsComing targets → AllByRecursion IsComing (come_target p n o ++ targets)
one_target p n None targets each = each
one_target p n (Some g) targets each = ((proc p, (g, refl)), each)

all_targets : (a : Pager) (p : ℕ) (slots : List ℕ) → AllByRecursion IsComing (come_targets a p slots)
all_targets a p [] = tt
all_targets a p (n ∷ slots) = one_target p n (lying_in a p n) (come_targets a p slots) (all_targets a p slots)

coming_steady : (f : ℕ) (t : Target) → IsComing t → is_steady (what.In (pfn f) t.block t.role) ≡ true
coming_steady f t coming = ap (λ (r : Role). is_steady (what.In (pfn f) t.block r)) coming.1.1

-- the first one
record HasTargets (a : Pager) (p : ℕ) (targets : List Target) : Type 0 where
  pub slot : ℕ
  pub page : Page
  pub rest : List Target
  pub is : targets ≡ record { block = block.Swap (proc p) slot; role = role.Come (proc p) (address_of page) } ∷ rest
  pub each : AllByRecursion IsComing rest

run_targets : (a : Pager) (p n m : ℕ) (t : ℕ → Bool) → 1 ≤ m → t n ≡ true → (g : Page) → lying_in a p n ≡ Some g → HasTargets a p (come_targets a p (run_from t n m))
run_targets a p n zero t least is g lies = absurd (omega (arith, least))
run_targets a p n (suc m) t least is g lies = record {
  slot = n;
  page = g;
  rest = come_targets a p (leading t (range_with_len (n + 1) m));
  is = ap (λ (b : Bool). come_targets a p (cond b (n ∷ leading t (range_with_len (n + 1) m)) [])) is ∙ ap (λ (o : Option Page). come_target p n o ++ come_targets a p (leading t (range_with_len (n + 1) m))) lies;
  each = all_targets a p (leading t (range_with_len (n + 1) m));
}

lesser_some : (m n : ℕ) → 1 ≤ m → 1 ≤ n → 1 ≤ lesser m n
lesser_some m n first second = by (nat_le m n)
  where
    by : (b : Bool) → 1 ≤ cond b m n
    by true = first
    by false = second

abbrev AnyFlight : ℕ → Flight → Type 0
AnyFlight k x = Unit {0}

module _ (config : Config) (past : List Entry) (between : IsBetween config past) (Rest : Type 0) (task : Task) (process : (task.proc).0 < length config.procs) (next : next_task config past ≡ Some task) (coming : (pager_after config past).status (task.proc).0 ≡ status.Coming) (touched : AreTouched (pager_after config past)) where
  abbrev a : Pager
  a = pager_after config past

  abbrev p : ℕ
  p = (task.proc).0

  abbrev Comes : GivenSwap → Type 0
  Comes g = AreLegal config past p g.made → MoveIsKnown config past Rest (come_move_by config past a p g.made g.answer)

  either : (b : Bool) (x y : GivenSwap) → (b ≡ true → Comes x) → (b ≡ false → Comes y) → Comes (cond b x y)
  either true x y first second = first refl
  either false x y first second = second refl

  not_resident : (s : ProcStatus) → s ≡ status.Coming → s ≡ status.Resident → ⊥
  not_resident s is other = let same : status.Coming ≡ status.Resident = sym is ∙ other in cc

  -- the request goes on being asked
  goes_on : (more : List Entry) → IsSteady config past more → IsControlled config more (control asking)
  goes_on more steady = record { leaving = λ q is. absurd (none-some q is); answered_process = tt; waiting = tt; touched = inl (touched_calm a (pager_after config more) steady.step.touched steady.step.charged touched) }

  may_refuse : (more : List Entry) → IsSteady config past more → MayRefuse config more p
  may_refuse more steady = record {
    task = task;
    next = steady.task ∙ next;
    own = refl;
    waits = inl (λ is. not_resident (a.status p) coming (sym (ap (λ (f : ℕ → ProcStatus). f p) steady.step.status) ∙ is));
    touched = touched_calm a (pager_after config more) steady.step.touched steady.step.charged touched;
  }

  work : IsWork config past p ends_request asking
  work = request_work config past task process next (inl (not_resident (a.status p) coming)) touched

  -- ---- a page comes back
  back_known : (n : ℕ) → passes (is_back_on_free config a) (lying_in a p n) ≡ true → Comes (given (back_page config a p (lying_in a p n)) swap_more)
  back_known n is legal = go (passing (is_back_on_free config a) (lying_in a p n) is)
    where
      made : (g : Page) (f : ℕ) → MoveIsKnown config past Rest (makes p (what.Back (proc p) (address_of g) (pfn f) state.Free ∷ []) (control asking))
      made g f = record {
        known = record {
          some = omega arith;
          still = (refl, tt);
          turned = λ q s is. absurd (cc);
          controlled = λ reply. goes_on _ (steady_made config p (what.Back (proc p) (address_of g) (pfn f) state.Free ∷ []) past (refl, tt));
        };
      }

      go : (g : Page) × (lying_in a p n ≡ Some g) × (is_back_on_free config a g ≡ true) → MoveIsKnown config past Rest (makes p (back_page config a p (lying_in a p n)) (control asking))
      go found =
          let there = passing (is_free_frame a) (holder config a.page found.0) found.2 in
          subst (λ (ws : List What). MoveIsKnown config past Rest (makes p ws (control asking))) (sym (ap (back_page config a p) found.1 ∙ ap (back_of p found.0) there.1)) (made found.0 there.0)

  -- ---- the last turn
  resident_known : Comes (turned_resident past p)
  resident_known =
      either (has_come p (open_flights past)) (given [] (swap_again swap_in_flight)) (given (what.Turn (proc p) status.Resident ∷ []) swap_settled)
      (λ comes. absurd (false≢true (sym (ap (has_come p) between.landed) ∙ comes)))
      (λ none legal. turn_known config past Rest p (proc p) status.Resident (control asking) legal.0 (record { leaving = λ q is. absurd (none-some q is); answered_process = tt; waiting = tt; touched = inl touched }))

  -- ---- the reads
  module _ (f : ℕ) (frames : List ℕ) (slot : ℕ) (page : Page) (rest : List Target) (each : AllByRecursion IsComing rest) where
    abbrev first_entry : What
    first_entry = what.In (pfn f) (block.Swap (proc p) slot) (role.Come (proc p) (address_of page))

    abbrev made : List What
    made = reuse_first (a.page f) f (first_entry ∷ reads_made a.page frames rest)

    reading_on : IsReading AnyFlight (made_by p made past) p (block.Swap (proc p) slot) (role.Come (proc p) (address_of page))
    reading_on = begun_reads AnyFlight past p (a.page f) f (block.Swap (proc p) slot) (role.Come (proc p) (address_of page)) (reads_made a.page frames rest) between.landed (λ x is. tt)
        (reads_each (λ (w : What). is_beginning w ≡ true) IsComing (λ k g. refl) (λ k t coming. refl) a.page frames rest each)
        (λ k. reads_each (BeginsWith (AnyFlight k) p) IsComing (λ m g n x begins. tt) (λ m t coming n x begins. tt) a.page frames rest each)

    reads_steady : (outcomes : List Outcome) → IsSteady config past (landed_from config (made_by p made past) p outcomes)
    reads_steady outcomes =
        steady_then config past (made_by p made past) (landed_from config (made_by p made past) p outcomes)
        (steady_made config p made past (reused_each (λ (w : What). is_steady w ≡ true) (a.page f) f (first_entry ∷ reads_made a.page frames rest) (λ g. refl) (refl, reads_each (λ (w : What). is_steady w ≡ true) IsComing (λ k g. refl) coming_steady a.page frames rest each)))
        (landed_steady config p (carrier_of p (made_by p made past)) outcomes (made_by p made past))

    some_made : (o : Option Page) (ws : List What) → 0 < length (reuse_first o f (first_entry ∷ ws))
    some_made None ws = omega arith
    some_made (Some g) ws = omega arith

    reads_from : MoveIsKnown config past Rest (carries p made (unless_all_failed ends_request (control asking)))
    reads_from =
        unless_all_known config past Rest p made ends_request (control asking) (some_made (a.page f) (reads_made a.page frames rest))
        (carrying_reads AnyFlight (made_by p made past) p (block.Swap (proc p) slot) (role.Come (proc p) (address_of page)) reading_on)
        (λ outcomes. goes_on _ (reads_steady outcomes)) (λ outcomes. may_refuse _ (reads_steady outcomes)) (λ q at is. true≢false (ap is_fault (sym is ∙ reading_on.role)))

  reads_known : (f : ℕ) (frames : List ℕ) (targets : List Target) → HasTargets a p targets → MoveIsKnown config past Rest (carries p (reads_made a.page (f ∷ frames) targets) (unless_all_failed ends_request (control asking)))
  reads_known f frames targets has =
      subst (λ (ts : List Target). MoveIsKnown config past Rest (carries p (reads_made a.page (f ∷ frames) ts) (unless_all_failed ends_request (control asking)))) (sym has.is) (reads_from f frames has.slot has.page has.rest has.each)

  abbrev out_test : ℕ → Bool
  out_test m = passes (is_out_page config a) (lying_in a p m)

  out_known : (n : ℕ) → passes (is_out_page config a) (lying_in a p n) ≡ true → Comes (come_out config past a p (Some n))
  out_known n is =
      either (nat_eq (length a.free) 0) (given [] (swap_again swap_no_frame))
      (given (reads_made a.page a.free (come_targets a p (run_from (λ (m : ℕ). passes (is_out_page config a) (lying_in a p m)) n (lesser config.params.pfc (length a.free))))) swap_carry)
      (λ none legal. finding_known config past between p Rest p ends_request asking work rests (λ no_modified no_leaver no_victim. not_alone config past between p process (none_free a.free none) no_modified no_leaver no_victim))
      (λ some legal. by_free a.free (let apart = eqb-false (length a.free) 0 some in omega (arith, apart)))
    where
      found : (g : Page) × (lying_in a p n ≡ Some g) × (is_out_page config a g ≡ true)
      found = passing (is_out_page config a) (lying_in a p n) is

      by_free : (free : List ℕ) → 1 ≤ length free → MoveIsKnown config past Rest (carries p (reads_made a.page free (come_targets a p (run_from out_test n (lesser config.params.pfc (length free))))) (unless_all_failed ends_request (control asking)))
      by_free [] some = absurd (omega (arith, some))
      by_free (f ∷ free) some = reads_known f free _ (run_targets a p n (lesser config.params.pfc (length (f ∷ free))) out_test (lesser_some config.params.pfc (length (f ∷ free)) between.formed.params.pfc.0 some) is found.0 found.1)

  out_or_done : (o : Option ℕ) → swap_where a p (is_out_page config a) ≡ o → Comes (come_out config past a p o)
  out_or_done None found = resident_known
  out_or_done (Some n) found = out_known n (found_passes (λ (m : ℕ). passes (is_out_page config a) (lying_in a p m)) (slots_of a p) n found)

  free_or_out : (o : Option ℕ) → swap_where a p (is_back_on_free config a) ≡ o → Comes (come_free config past a p o)
  free_or_out (Some n) found = back_known n (found_passes (λ (m : ℕ). passes (is_back_on_free config a) (lying_in a p m)) (slots_of a p) n found)
  free_or_out None found = out_or_done (swap_where a p (is_out_page config a)) refl

  pub come_known : MoveIsKnown config past Rest (come_move_by config past a p (come_gives config past a p).made (come_gives config past a p).answer)
  come_known = free_or_out (swap_where a p (is_back_on_free config a)) refl (come_legal config past p p (may_work config past p (omega (arith, process)) between) process coming)
