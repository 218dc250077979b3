-- A process comes: a page comes back, a run of its swap blocks is read, its last turn, or a frame is found first.
use Rattle.std.proofs.Common.{◌≡◌, inl, inr, ℕ, ◌<◌, ◌&&◌, ◌++◌, Bool, true, false, cond, List, [], ◌∷◌, Option, Some, None, length, count_by, nat_eq, is_some, refl, sym, ap, ◌∙◌, subst, arith}
use Rattle.std.specs.List.{AllByRecursion}
use Rattle.vm_types.specs.Adjust.{lesser}
use Rattle.vm_types.specs.declared.names.Page.{Page}
use Rattle.vm_types.specs.declared.names.FrameState.TheVariants as state
use Rattle.vm_types.specs.declared.names.ProcStatus.{ProcStatus}
use Rattle.vm_types.specs.declared.names.ProcStatus.TheVariants as status
use Rattle.vm_types.specs.declared.config.Config.{Config}
use Rattle.vm_types.specs.declared.config.Task.{Task}
use Rattle.vm_types.specs.declared.service.Request.{Request}
use Rattle.vm_types.specs.declared.service.Request.TheVariants as request
use Rattle.vm_journal.specs.declared.entry.Entry.{Entry}
use Rattle.vm_journal.specs.declared.entry.Role.{Role}
use Rattle.vm_journal.specs.declared.entry.Role.TheVariants as role
use Rattle.vm_journal.specs.declared.entry.What.{What}
use Rattle.vm_journal.specs.declared.entry.What.TheVariants as what
use Rattle.pager_model.specs.Back.{IsAnyBack, after_any_back}
use Rattle.pager_model.specs.Changes.{lies_nowhere}
use Rattle.pager_model.specs.Flights.{open_flights, carrier_of}
use Rattle.pager_model.specs.Forget.{holder}
use Rattle.pager_policy.specs.Given.{Target, address_of, by_seat, given, made_by, reads_made, slots_of}
use Rattle.pager_model.specs.Lookups.{passes, entry_of}
use Rattle.vm_types.specs.Status.{is_coming, is_resident}
use Rattle.pager_model.specs.Maps.{pfn, page_number, proc}
use Rattle.pager_policy.specs.Landings.{Outcome}
use Rattle.pager_policy.specs.Moves.{Control, asking, carries, control, makes, rests}
use Rattle.pager_model.specs.Pager.{Pager}
use Rattle.pager_policy.specs.Policy.{come_move_by, ends_request, next_task, unless_all_failed}
use Rattle.pager_model.specs.Run.{IsRun, pager_after}
use Rattle.pager_policy.specs.Swap.{GivenSwap, back_of, back_page, come_free, come_gives, come_out, come_target, come_targets, is_back_on_free, is_free_frame, is_out_page, run_from, swap_again, swap_carry, swap_in_flight, swap_more, swap_no_frame, swap_settled, swap_where, turned_resident}
use Rattle.pager_model.specs.Lying.{lying_in}
use Rattle.pager_model.specs.Transfers.{has_come}
use Rattle.pager_rules.proofs.Basics.{each_weaker, nat_eq_refl}
use Rattle.pager_rules.proofs.Lists.{found_passes}
use Rattle.pager_laws.proofs.RunsAreSound.{run_kept}
use Rattle.serial_laws.specs.Between.{IsBetween}
use Rattle.serial_laws.proofs.Known.{landed_from}
use Rattle.serial_laws.proofs.ReadFlights.{reads_each}
use Rattle.serial_laws.proofs.Slots.{passing}
use Rattle.policy_ends.specs.Rank.{absence, is_met, lies_in_swap, swapped_out}
use Rattle.policy_ends.proofs.FindsLower.{finding_lowers}
use Rattle.policy_ends.proofs.LeavesLower.{rests_lower, turn_lowers}
use Rattle.policy_ends.proofs.Numbers.{AreLower, lower_come}
use Rattle.policy_ends.proofs.Places.{IsMute, LowersBy, MoveLowers, carries_lowers, makes_lowers, request_lowers, spoken_same}
use Rattle.policy_ends.proofs.ReadSteps.{IsAsBefore, come_less, is_come_entry, is_transfer, landed_before, left, made_before, nowhere_less}
use Rattle.policy_ends.proofs.Singles.{others_same, own_turn_lowers}

-- ---- the reads of a run of swap blocks
abbrev IsComing : ℕ → Target → Type 0
IsComing p t = (page : Page) × (t.role ≡ role.Come (proc p) (address_of page))

one_target : (p n : ℕ) (o : Option Page) (targets : List Target) → AllByRecursion (IsComing p) targets → AllByRecursion (IsComing p) (come_target p n o ++ targets)
one_target p n None targets each = each
one_target p n (Some g) targets each = ((g, refl), each)

all_targets : (a : Pager) (p : ℕ) (slots : List ℕ) → AllByRecursion (IsComing p) (come_targets a p slots)
all_targets a p [] = tt
all_targets a p (n ∷ slots) = one_target p n (lying_in a p n) (come_targets a p slots) (all_targets a p slots)

record OfCome (p : ℕ) (w : What) : Type 0 where
  entry : is_come_entry p w ≡ true
  transfer : is_transfer w ≡ true
  mute : IsMute w

read_of : (p f : ℕ) (t : Target) → IsComing p t → OfCome p (what.In (pfn f) t.block t.role)
read_of p f t coming = record { entry = ap (λ (r : Role). is_come_entry p (what.In (pfn f) t.block r)) coming.1 ∙ nat_eq_refl p; transfer = refl; mute = refl }

is_away : (a : Pager) (p : ℕ) (q : Request) → a.status p ≡ status.Coming → is_met a p q ≡ false
is_away a p (request.Reference r) coming = ap (λ (s : ProcStatus). is_resident s && is_some (entry_of a.valid p (page_number (r.addr).0))) coming
is_away a p (request.Service s) coming = refl

module _ (config : Config) (past : List Entry) (between : IsBetween config past) (c : Control) (doing : c.doing ≡ asking) (task : Task) (process : (task.proc).0 < length config.procs)
    (next : next_task config past ≡ Some task) (coming : (pager_after config past).status (task.proc).0 ≡ status.Coming) where
  abbrev a : Pager
  a = pager_after config past

  abbrev p : ℕ
  p = (task.proc).0

  work : LowersBy config past c p ends_request asking
  work = request_lowers config past c task doing next (is_away a p task.request coming)

  abbrev Comes : GivenSwap → Type 0
  Comes g = MoveLowers config past c (come_move_by config past a p g.made g.answer)

  either : (b : Bool) (x y : GivenSwap) → Comes x → Comes y → Comes (cond b x y)
  either true x y first second = first
  either false x y first second = second

  -- fewer pages are left in its swap blocks
  fewer_lower : (more : List Entry) (u v : ℕ) → IsAsBefore a (pager_after config more) → left config more p < left config past p → AreLower config past more p u v
  fewer_lower more u v same less =
      lower_come config past more a (pager_after config more) p u v (others_same config a (pager_after config more) p same.status)
      (let now = ap (λ (s : ℕ → ProcStatus). absence (s p)) same.status in omega (arith, now))
      (let now = ap (λ (s : ProcStatus). cond (is_coming s) (left config more p) 0) (ap (λ (s : ℕ → ProcStatus). s p) same.status ∙ coming) in
      let before = ap (λ (s : ProcStatus). cond (is_coming s) (left config past p) 0) coming in omega (arith, now, before, less))

  -- ---- a page comes back
  back_less : (g : Page) (f : ℕ) → IsRun config (by_seat p (what.Back (proc p) (address_of g) (pfn f) state.Free) ∷ past)
      → IsAsBefore a (pager_after config (by_seat p (what.Back (proc p) (address_of g) (pfn f) state.Free) ∷ past)) × (left config (by_seat p (what.Back (proc p) (address_of g) (pfn f) state.Free) ∷ past) p < left config past p)
  back_less g f run = by run.1.row
    where
      at_coming : (Q : Pager → Type 0) → Q (after_any_back a status.Coming p ((address_of g).0) f) → Q (after_any_back a (a.status p) p ((address_of g).0) f)
      at_coming Q is = subst (λ (s : ProcStatus). Q (after_any_back a s p ((address_of g).0) f)) (sym coming) is

      by : IsAnyBack config a p p ((address_of g).0) f state.Free
          → IsAsBefore a (pager_after config (by_seat p (what.Back (proc p) (address_of g) (pfn f) state.Free) ∷ past)) × (left config (by_seat p (what.Back (proc p) (address_of g) (pfn f) state.Free) ∷ past) p < left config past p)
      by (inl own) = let both : status.Coming ≡ status.Resident = sym coming ∙ own.1.own.resident in absurd (cc)
      by (inr back) = (
        at_coming (λ (b : Pager). IsAsBefore a b) (record { status = refl; references = refl }),
        at_coming (λ (b : Pager). swapped_out b p < swapped_out a p)
            (let less = nowhere_less config past a p back.slot back.page (run_kept config past between.formed run.0) back.lies in
            let now = ap (λ (o : Option Page). count_by (λ (h : Page). lies_in_swap p (lies_nowhere a.lies o h)) a.charged) back.holds in
            omega (arith, less, now)),
      )

  back_lowers : (n : ℕ) → passes (is_back_on_free config a) (lying_in a p n) ≡ true → Comes (given (back_page config a p (lying_in a p n)) swap_more)
  back_lowers n is = go (passing (is_back_on_free config a) (lying_in a p n) is)
    where
      made : (g : Page) (f : ℕ) → MoveLowers config past c (makes p (what.Back (proc p) (address_of g) (pfn f) state.Free ∷ []) (control asking))
      made g f =
          makes_lowers config past c p (what.Back (proc p) (address_of g) (pfn f) state.Free ∷ []) (control asking)
          (λ reply run. work.on (by_seat p (what.Back (proc p) (address_of g) (pfn f) state.Free) ∷ past) (control asking) refl (spoken_same p (what.Back (proc p) (address_of g) (pfn f) state.Free) past refl)
          (λ u v most. let less = back_less g f run in fewer_lower (by_seat p (what.Back (proc p) (address_of g) (pfn f) state.Free) ∷ past) u v less.0 less.1))

      go : (g : Page) × (lying_in a p n ≡ Some g) × (is_back_on_free config a g ≡ true) → MoveLowers config past c (makes p (back_page config a p (lying_in a p n)) (control asking))
      go found =
          let there = passing (is_free_frame a) (holder config a.page found.0) found.2 in
          subst (λ (ws : List What). MoveLowers config past c (makes p ws (control asking))) (sym (ap (back_page config a p) found.1 ∙ ap (back_of p found.0) there.1)) (made found.0 there.0)

  -- ---- the last turn
  resident_lowers : Comes (turned_resident past p)
  resident_lowers =
      either (has_come p (open_flights past)) (given [] (swap_again swap_in_flight)) (given (what.Turn (proc p) status.Resident ∷ []) swap_settled) (rests_lower config past c)
      (turn_lowers config past between c p p ends_request asking work p status.Resident (control asking) refl (λ u v run. own_turn_lowers config past a p p u v status.Resident (let one = ap absence coming in
      omega (arith, one)) (by_seat p (what.Turn (proc p) status.Resident) ∷ past)))

  -- ---- the reads
  reads_lower : (frames : List ℕ) (targets : List Target) → AllByRecursion (IsComing p) targets
      → MoveLowers config past c (carries p (reads_made a.page frames targets) (unless_all_failed ends_request (control asking)))
  reads_lower frames targets each =
      carries_lowers config past c p p (reads_made a.page frames targets) ends_request asking (control asking) work refl
      (each_weaker (OfCome p) IsMute (λ w of. of.mute) (reads_made a.page frames targets) of_each)
      (λ outcomes same good run u v most. fewer_lower (landed_from config (made_by p (reads_made a.page frames targets) past) p outcomes) u v (before outcomes)
      (come_less config p p (reads_made a.page frames targets) (carrier_of p (made_by p (reads_made a.page frames targets) past)) outcomes past between.formed between.landed (each_weaker (OfCome p) (λ (w : What). is_come_entry p w ≡ true) (λ w of. of.entry) (reads_made a.page frames targets) of_each) same good run))
    where
      of_each : AllByRecursion (OfCome p) (reads_made a.page frames targets)
      of_each = reads_each (OfCome p) (IsComing p) (λ f g. record { entry = refl; transfer = refl; mute = refl }) (read_of p) a.page frames targets each

      before : (outcomes : List Outcome) → IsAsBefore a (pager_after config (landed_from config (made_by p (reads_made a.page frames targets) past) p outcomes))
      before outcomes =
          let begun = made_by p (reads_made a.page frames targets) past in
          let first = made_before config p (reads_made a.page frames targets) past (each_weaker (OfCome p) (λ (w : What). is_transfer w ≡ true) (λ w of. of.transfer) (reads_made a.page frames targets) of_each) in
          let rest = landed_before config p (carrier_of p begun) outcomes begun in
          record { status = rest.status ∙ first.status; references = rest.references ∙ first.references }

  out_lowers : (o : Option ℕ) → Comes (come_out config past a p o)
  out_lowers None = resident_lowers
  out_lowers (Some n) =
      let slots = run_from (λ (m : ℕ). passes (is_out_page config a) (lying_in a p m)) n (lesser config.params.pfc (length a.free)) in
      either (nat_eq (length a.free) 0) (given [] (swap_again swap_no_frame)) (given (reads_made a.page a.free (come_targets a p slots)) swap_carry)
      (finding_lowers config past between c p p ends_request asking work rests (rests_lower config past c)) (reads_lower a.free (come_targets a p slots) (all_targets a p slots))

  free_lowers : (o : Option ℕ) → swap_where a p (is_back_on_free config a) ≡ o → Comes (come_free config past a p o)
  free_lowers (Some n) found = back_lowers n (found_passes (λ (m : ℕ). passes (is_back_on_free config a) (lying_in a p m)) (slots_of a p) n found)
  free_lowers None found = out_lowers (swap_where a p (is_out_page config a))

  pub come_lowers : MoveLowers config past c (come_move_by config past a p (come_gives config past a p).made (come_gives config past a p).answer)
  come_lowers = free_lowers (swap_where a p (is_back_on_free config a)) refl
