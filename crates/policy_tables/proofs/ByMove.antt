-- Each move of the serial policy is the table's first row that holds.
use Rattle.std.proofs.Common.{◌≡◌, ℕ, ◌<◌, ◌&&◌, Bool, true, false, cond, not, List, [], ◌∷◌, Option, Some, None, length, map, nat_lt, refl, sym, ap, ◌∙◌}
use Rattle.std.proofs.lemmas.Option.{same_Some}
use Rattle.std.specs.Option.{is_some}
use Rattle.vm_types.specs.Status.{is_coming, is_leaving}
use Rattle.vm_types.specs.declared.config.Config.{Config}
use Rattle.vm_types.specs.declared.config.Task.{Task}
use Rattle.vm_types.specs.declared.names.ProcStatus.{ProcStatus}
use Rattle.vm_types.specs.declared.names.ProcStatus.TheVariants as status
use Rattle.vm_types.specs.declared.reference.Ref.{Ref}
use Rattle.vm_types.specs.declared.reply.Reply.{Reply}
use Rattle.vm_types.specs.declared.service.Request.{Request}
use Rattle.vm_types.specs.declared.service.Request.TheVariants as request
use Rattle.vm_types.specs.declared.service.Service.{Service}
use Rattle.vm_journal.specs.declared.entry.Entry.{Entry}
use Rattle.vm_journal.specs.declared.entry.What.{What}
use Rattle.vm_journal.specs.declared.entry.What.TheVariants as what
use Rattle.pager_model.specs.Maps.{proc}
use Rattle.pager_model.specs.Pager.{Pager}
use Rattle.pager_model.specs.Run.{pager_after}
use Rattle.pager_model.specs.Spoken.{flat_after}
use Rattle.pager_policy.specs.Advance.{GivenNext, NextIs, advance_gives, again_block_busy, again_charging, again_collided, again_modified_full, again_no_frame, again_not_resident, next_again, next_answered, next_carry, next_more}
use Rattle.pager_policy.specs.Cleaning.{Cleaning, evicting, rounds}
use Rattle.pager_policy.specs.Given.{Given, with_reply}
use Rattle.pager_policy.specs.Moves.{After, Control, Doing, Move, asking, carries, cleaning, control, freeing, makes, rests, saving, while_leaving}
use Rattle.pager_policy.specs.Policy.{Ends, advance_move_by, asked_move, asking_move, come_move_by, coming_process, ends_part, ends_request, finding_move, freeing_move, gone_move, is_freeing, is_saving, leave_move, leave_move_by, leaving_other, move_of, next_task, other_move, resident_move, saving_by, saving_move, serve_move_by, status_move, swapper_of, task_move, unless_all_failed, victim_move, writing_move}
use Rattle.pager_policy.specs.Rundown.{cleaning_move, writer_of}
use Rattle.pager_policy.specs.Serve.{GivenServe, ServeIs, serve_again, serve_answered, serve_gives, serve_in_flight, serve_modified_full, serve_more, serve_not_resident}
use Rattle.pager_policy.specs.Swap.{GivenSwap, SwapIs, come_gives, leave_gives, swap_again, swap_carry, swap_in_flight, swap_modified_full, swap_more, swap_no_frame, swap_settled, victim_gives}
use Rattle.pager_policy.specs.WriteCluster.{BeginIs, begin_carry, begin_gives, begin_nothing, reason_high}
use Rattle.policy_tables.specs.AdvanceCases.{advance_cases}
use Rattle.policy_tables.specs.BeginCases.{begin_cases}
use Rattle.policy_tables.specs.ComeCases.{come_cases}
use Rattle.policy_tables.specs.LeaveCases.{leave_cases}
use Rattle.policy_tables.specs.AskingCases.{asking_cases, finding_cases, request_cases}
use Rattle.policy_tables.specs.MoveCases.{freeing_cases, move_cases, saving_cases}
use Rattle.policy_tables.specs.Rows.{first_case, if_there, only_if, otherwise, row_on, rows_on, when}
use Rattle.policy_tables.specs.RundownCases.{rounds_cases, rundown_cases}
use Rattle.policy_tables.specs.ServeCases.{serve_cases}
use Rattle.policy_tables.specs.Steps.{after_advancing, after_beginning, after_coming, after_leaving, after_serving, or_rest, writes}
use Rattle.policy_tables.specs.Words.{cluster, is_gone, reference_of, service_of, shown, told}
use Rattle.policy_tables.proofs.ByAdvance.{goes_by_cases as advance_by_cases}
use Rattle.policy_tables.proofs.ByBegin.{goes_by_cases as begin_by_cases}
use Rattle.policy_tables.proofs.ByCome.{goes_by_cases as come_by_cases}
use Rattle.policy_tables.proofs.ByLeave.{goes_by_cases as leave_by_cases}
use Rattle.policy_tables.proofs.ByRundown.{goes_by_cases as rundown_by_cases}
use Rattle.policy_tables.proofs.ByServe.{goes_by_cases as serve_by_cases}
use Rattle.policy_tables.proofs.Clusters.{made_for_need}
use Rattle.policy_tables.proofs.Silent.{AllRows, IsSilent, begin_silent, cluster_silent, come_silent, leave_silent, of_first, of_there, of_when, serve_silent}

module _ (config : Config) (past : List Entry) (a : Pager) (reply : Reply) where
  -- ---- what a step leads to
  abbrev shows : List What → List What
  shows made = map (with_reply reply) made

  made_same : (seat : ℕ) (made : List What) (c : Control) → IsSilent reply made → makes seat made c ≡ told reply (makes seat made c)
  made_same seat made c silent = ap (λ (ws : List What). makes seat ws c) (sym silent)

  need_same : (seat : ℕ) (ends : Ends) (c : Control) → writes config a seat ends c ≡ told reply (writing_move config a seat ends c)
  need_same seat ends c =
      ap (λ (ws : List What). carries seat ws (unless_all_failed ends c)) (sym (ap shows (made_for_need config a) ∙ cluster_silent reply config a))

  left_by : (seat q : ℕ) (ends : Ends) (doing : Doing) (made : List What) (answer : SwapIs) → IsSilent reply made
      → after_leaving config a seat q ends doing made answer ≡ told reply (leave_move_by config a seat q ends doing made answer)
  left_by seat q ends doing made swap_carry silent = ap (λ (ws : List What). carries seat ws (unless_all_failed ends (while_leaving doing q))) (sym silent)
  left_by seat q ends doing made swap_more silent = made_same seat made (while_leaving doing q) silent
  left_by seat q ends doing made swap_settled silent = made_same seat made (control doing) silent
  left_by seat q ends doing made (swap_again swap_modified_full) silent = need_same seat ends (while_leaving doing q)
  left_by seat q ends doing made (swap_again swap_in_flight) silent = refl
  left_by seat q ends doing made (swap_again swap_no_frame) silent = refl

  abbrev leaves : ℕ → ℕ → Ends → Doing → Option Move
  leaves seat q ends doing = if_there (first_case (leave_cases config past a q)) (λ (g : GivenSwap). after_leaving config a seat q ends doing g.made g.answer)

  left_for : (seat q : ℕ) (ends : Ends) (doing : Doing) (o : Option GivenSwap) (g : GivenSwap) → o ≡ Some g → IsSilent reply g.made
      → if_there o (λ (h : GivenSwap). after_leaving config a seat q ends doing h.made h.answer) ≡ Some (told reply (leave_move_by config a seat q ends doing g.made g.answer))
  left_for seat q ends doing o g is silent = ap (λ (o : Option GivenSwap). if_there o (λ (h : GivenSwap). after_leaving config a seat q ends doing h.made h.answer)) is ∙ ap Some (left_by seat q ends doing g.made g.answer silent)

  left : (seat q : ℕ) (ends : Ends) (doing : Doing) → leaves seat q ends doing ≡ Some (told reply (leave_move config past a seat q ends doing))
  left seat q ends doing = left_for seat q ends doing (first_case (leave_cases config past a q)) (leave_gives config past a q) (leave_by_cases config past a q) (leave_silent reply config past a q)

  -- ---- finding a frame, or what there is in its place
  module _ (seat p : ℕ) (ends : Ends) (doing : Doing) (rows : List (Option Move)) (none : Move) (is : first_case rows ≡ Some (told reply none)) where
    abbrev Finds : Option Move → Move → Type 0
    Finds o m = first_case (o ∷ rows) ≡ Some (told reply m)

    abbrev turns : Option ℕ → Option Move
    turns o = if_there o (λ (q : ℕ). makes seat (what.Turn (proc q) status.Leaving ∷ []) (while_leaving doing q))

    turned : (o : Option ℕ) → Finds (first_case (turns o ∷ [])) (victim_move seat doing o none)
    turned None = is
    turned (Some q) = refl

    others : (o : Option ℕ) → Finds (first_case (row_on o (λ (q : ℕ). leaves seat q ends doing) ∷ turns (victim_gives config past a (Some p)) ∷ [])) (other_move config past a seat p ends doing none o)
    others None = turned (victim_gives config past a (Some p))
    others (Some q) = ap (λ (o : Option Move). first_case (first_case (o ∷ turns (victim_gives config past a (Some p)) ∷ []) ∷ rows)) (left seat q ends doing)

    listed : (b : Bool)
        → Finds (first_case (when b (writes config a seat ends (control doing)) ∷ row_on (leaving_other config a p) (λ (q : ℕ). leaves seat q ends doing) ∷ turns (victim_gives config past a (Some p)) ∷ []))
        (cond b (writing_move config a seat ends (control doing)) (other_move config past a seat p ends doing none (leaving_other config a p)))
    listed true = ap Some (need_same seat ends (control doing))
    listed false = others (leaving_other config a p)

    finds : Finds (first_case (finding_cases config past a reply seat p ends doing)) (finding_move config past a seat p ends doing none)
    finds = listed (nat_lt 0 (length a.modified))

  or_rests : (o : Option Move) → first_case (o ∷ otherwise rests ∷ []) ≡ Some (or_rest o)
  or_rests None = refl
  or_rests (Some m) = refl

  found : (p : ℕ) → or_rest (first_case (finding_cases config past a reply p p ends_request asking)) ≡ told reply (finding_move config past a p p ends_request asking rests)
  found p = same_Some _ _ (sym (or_rests (first_case (finding_cases config past a reply p p ends_request asking))) ∙ finds p p ends_request asking (otherwise rests ∷ []) rests refl)

  -- ---- the steps of a request
  abbrev finding : ℕ → Move
  finding p = or_rest (first_case (finding_cases config past a reply p p ends_request asking))

  came_by : (p : ℕ) (made : List What) (answer : SwapIs) → IsSilent reply made → after_coming p (finding p) made answer ≡ told reply (come_move_by config past a p made answer)
  came_by p made swap_carry silent = ap (λ (ws : List What). carries p ws (unless_all_failed ends_request (control asking))) (sym silent)
  came_by p made swap_more silent = made_same p made (control asking) silent
  came_by p made swap_settled silent = made_same p made (control asking) silent
  came_by p made (swap_again swap_no_frame) silent = found p
  came_by p made (swap_again swap_in_flight) silent = refl
  came_by p made (swap_again swap_modified_full) silent = refl

  came_for : (p : ℕ) (o : Option GivenSwap) (g : GivenSwap) → o ≡ Some g → IsSilent reply g.made
      → if_there o (λ (h : GivenSwap). after_coming p (finding p) h.made h.answer) ≡ Some (told reply (come_move_by config past a p g.made g.answer))
  came_for p o g is silent = ap (λ (o : Option GivenSwap). if_there o (λ (h : GivenSwap). after_coming p (finding p) h.made h.answer)) is ∙ ap Some (came_by p g.made g.answer silent)

  came : (p : ℕ) → if_there (first_case (come_cases config past a p)) (λ (g : GivenSwap). after_coming p (finding p) g.made g.answer) ≡ Some (told reply (come_move_by config past a p (come_gives config past a p).made (come_gives config past a p).answer))
  came p = came_for p (first_case (come_cases config past a p)) (come_gives config past a p) (come_by_cases config past a p) (come_silent reply config past a p)

  advanced_by : (p : ℕ) (made : List What) (answer : NextIs) → after_advancing config a p (finding p) (shows made) answer ≡ told reply (advance_move_by config past a p made answer)
  advanced_by p made next_answered = refl
  advanced_by p made next_carry = refl
  advanced_by p made next_more = refl
  advanced_by p made (next_again again_modified_full) = need_same p ends_request (control asking)
  advanced_by p made (next_again again_no_frame) = found p
  advanced_by p made (next_again again_not_resident) = refl
  advanced_by p made (next_again again_collided) = refl
  advanced_by p made (next_again again_block_busy) = refl
  advanced_by p made (next_again again_charging) = refl

  advanced_for : (p : ℕ) (o : Option GivenNext) (g : GivenNext) → o ≡ Some (shown reply g)
      → if_there o (λ (h : GivenNext). after_advancing config a p (finding p) h.made h.answer) ≡ Some (told reply (advance_move_by config past a p g.made g.answer))
  advanced_for p o g is = ap (λ (o : Option GivenNext). if_there o (λ (h : GivenNext). after_advancing config a p (finding p) h.made h.answer)) is ∙ ap Some (advanced_by p g.made g.answer)

  served_by : (p : ℕ) (made : List What) (answer : ServeIs) → IsSilent reply made → after_serving config a p made answer ≡ told reply (serve_move_by config a p made answer)
  served_by p made serve_answered silent = made_same p made (control (saving false p)) silent
  served_by p made serve_more silent = made_same p made (control asking) silent
  served_by p made (serve_again serve_modified_full) silent = need_same p ends_request (control asking)
  served_by p made (serve_again serve_not_resident) silent = refl
  served_by p made (serve_again serve_in_flight) silent = refl

  served_for : (p : ℕ) (o : Option GivenServe) (g : GivenServe) → o ≡ Some g → IsSilent reply g.made
      → if_there o (λ (h : GivenServe). after_serving config a p h.made h.answer) ≡ Some (told reply (serve_move_by config a p g.made g.answer))
  served_for p o g is silent = ap (λ (o : Option GivenServe). if_there o (λ (h : GivenServe). after_serving config a p h.made h.answer)) is ∙ ap Some (served_by p g.made g.answer silent)

  served : (p : ℕ) (s : Service) → if_there (first_case (serve_cases config past a p s)) (λ (g : GivenServe). after_serving config a p g.made g.answer) ≡ Some (told reply (serve_move_by config a p (serve_gives config past a p s).made (serve_gives config past a p s).answer))
  served p s = served_for p (first_case (serve_cases config past a p s)) (serve_gives config past a p s) (serve_by_cases config past a p s) (serve_silent reply config past a p s)

  module _ (same : a.map ≡ (flat_after config past).map) where
    advanced : (p : ℕ) (r : Ref) → p < length config.procs
        → if_there (first_case (advance_cases config past a p r reply)) (λ (g : GivenNext). after_advancing config a p (finding p) g.made g.answer) ≡ Some (told reply (advance_move_by config past a p (advance_gives config past a p r).made (advance_gives config past a p r).answer))
    advanced p r process =
        advanced_for p (first_case (advance_cases config past a p r reply)) (advance_gives config past a p r) (advance_by_cases config past a p r reply process same)

    -- ---- the next request
    module _ (p : ℕ) (process : p < length config.procs) where
      abbrev comes : Option Move
      comes = if_there (first_case (come_cases config past a p)) (λ (g : GivenSwap). after_coming p (finding p) g.made g.answer)

      abbrev works : Request → List (Option Move)
      works q =
          row_on (reference_of q) (λ (r : Ref). if_there (first_case (advance_cases config past a p r reply)) (λ (g : GivenNext). after_advancing config a p (finding p) g.made g.answer))
          ∷ row_on (service_of q) (λ (s : Service). if_there (first_case (serve_cases config past a p s)) (λ (g : GivenServe). after_serving config a p g.made g.answer))
          ∷ []

      worked : (q : Request) → first_case (works q) ≡ Some (told reply (resident_move config past a p q))
      worked (request.Reference r) = ap (λ (o : Option Move). first_case (o ∷ None ∷ [])) (advanced p r process)
      worked (request.Service s) = ap (λ (o : Option Move). first_case (o ∷ [])) (served p s)

      abbrev status_rows : ProcStatus → Request → List (Option Move)
      status_rows st q =
          only_if (is_leaving st) (leaves p p ends_request asking)
          ∷ if_there (only_if (is_gone st) (coming_process config a)) (λ (q : ℕ). makes p (what.Turn (proc q) status.Leaving ∷ []) (while_leaving asking q))
          ∷ when (is_gone st) (makes p (what.Turn (proc p) status.Coming ∷ []) (control asking))
          ∷ only_if (is_coming st) comes
          ∷ works q

      gone : (o : Option ℕ) (rest : List (Option Move))
          → first_case (if_there o (λ (q : ℕ). makes p (what.Turn (proc q) status.Leaving ∷ []) (while_leaving asking q)) ∷ Some (makes p (what.Turn (proc p) status.Coming ∷ []) (control asking)) ∷ rest) ≡ Some (told reply (gone_move p o))
      gone None rest = refl
      gone (Some q) rest = refl

      by_status : (st : ProcStatus) (q : Request) → first_case (status_rows st q) ≡ Some (told reply (status_move config past a p q st))
      by_status status.Resident q = worked q
      by_status status.Leaving q = ap (λ (o : Option Move). first_case (o ∷ None ∷ None ∷ None ∷ works q)) (left p p ends_request asking)
      by_status status.Gone q = gone (coming_process config a) (None ∷ works q)
      by_status status.Coming q = ap (λ (o : Option Move). first_case (o ∷ works q)) (came p)

      asked : (o : Option ℕ) (q : Request) → first_case (row_on o (λ (q : ℕ). leaves p q ends_request asking) ∷ status_rows (a.status p) q) ≡ Some (told reply (asked_move config past a o p q))
      asked None q = by_status (a.status p) q
      asked (Some left_now) q = ap (λ (o : Option Move). first_case (o ∷ status_rows (a.status p) q)) (left p left_now ends_request asking)

    module _ (of_process : (task : Task) → next_task config past ≡ Some task → (task.proc).0 < length config.procs) where
      tasks : (leaving : Option ℕ) (o : Option Task) → next_task config past ≡ o
          → first_case (when (not (is_some o)) rests ∷ rows_on o (λ (task : Task). request_cases config past a reply leaving (task.proc).0 task.request)) ≡ Some (told reply (task_move config past a leaving o))
      tasks leaving None is = refl
      tasks leaving (Some task) is = asked (task.proc).0 (of_process task is) leaving task.request

      asks : (leaving : Option ℕ) → first_case (asking_cases config past a reply leaving) ≡ Some (told reply (asking_move config past a leaving))
      asks leaving = tasks leaving (next_task config past) refl

      -- ---- after an answer
      freed : (begun : Bool) (p : ℕ) (b : Bool)
          → first_case (only_if b (first_case (finding_cases config past a reply (swapper_of config) p (ends_part (control asking)) (freeing true p))) ∷ asking_cases config past a reply None)
          ≡ Some (told reply (cond b (finding_move config past a (swapper_of config) p (ends_part (control asking)) (freeing true p) (asking_move config past a None)) (asking_move config past a None)))
      freed begun p true = finds (swapper_of config) p (ends_part (control asking)) (freeing true p) (asking_cases config past a reply None) (asking_move config past a None) (asks None)
      freed begun p false = asks None

      frees : (leaving : Option ℕ) (begun : Bool) (p : ℕ) → first_case (freeing_cases config past a reply leaving begun p) ≡ Some (told reply (freeing_move config past a leaving begun p))
      frees None begun p = freed begun p (is_freeing config a begun && is_freeing config a true)
      frees (Some q) begun p =
          ap (λ (o : Option Move). first_case (o ∷ only_if (is_freeing config a begun && is_freeing config a true) (first_case (finding_cases config past a reply (swapper_of config) p (ends_part (control asking)) (freeing true p))) ∷ asking_cases config past a reply (Some q)))
          (left (swapper_of config) q (ends_part (control asking)) (freeing true p))

      saved_by : (p : ℕ) (made : List What) (answer : BeginIs) → IsSilent reply made
          → first_case (after_beginning config p made answer ∷ freeing_cases config past a reply None false p) ≡ Some (told reply (saving_by config made answer p (freeing_move config past a None false p)))
      saved_by p made begin_carry silent = ap (λ (ws : List What). Some (carries (writer_of config) ws (unless_all_failed (ends_part (control (freeing false p))) (control (saving true p))))) (sym silent)
      saved_by p made begin_nothing silent = frees None false p

      saved : (p : ℕ) (b : Bool)
          → first_case (row_on (only_if b (first_case (begin_cases config a reason_high))) (λ (g : Given BeginIs). after_beginning config p g.made g.answer) ∷ freeing_cases config past a reply None false p)
          ≡ Some (told reply (cond b (saving_by config (begin_gives config a reason_high).made (begin_gives config a reason_high).answer p (freeing_move config past a None false p)) (freeing_move config past a None false p)))
      saved p true =
          ap (λ (o : Option (Given BeginIs)). first_case (row_on o (λ (g : Given BeginIs). after_beginning config p g.made g.answer) ∷ freeing_cases config past a reply None false p)) (begin_by_cases config a reason_high)
          ∙ saved_by p (begin_gives config a reason_high).made (begin_gives config a reason_high).answer (begin_silent reply config a reason_high)
      saved p false = frees None false p

      saves : (begun : Bool) (p : ℕ) → first_case (saving_cases config past a reply begun p) ≡ Some (told reply (saving_move config past a begun p))
      saves begun p = saved p (is_saving config a begun)

-- ---- the rundown answers no reference
module _ (config : Config) (past : List Entry) (a : Pager) (reply : Reply) where
  abbrev Same : Move → Type 0
  Same m = m ≡ told reply m

  cluster_same : (seat : ℕ) (onward : Bool → Bool → After) → Same (carries seat (cluster config a) onward)
  cluster_same seat onward = ap (λ (ws : List What). carries seat ws onward) (sym (cluster_silent reply config a))

  rounds_same : (following left : ℕ) → AllRows Same (rounds_cases config past a following left)
  rounds_same following left = (of_when Same _ _ refl, (of_when Same _ _ (cluster_same _ _), (of_there Same _ _ (λ more. cluster_same _ _), (refl, tt))))

  rows_same : (at : Cleaning) → AllRows Same (rundown_cases config past a at)
  unfolding rundown_cases
  rows_same (evicting p n failed) = (of_there Same _ _ (λ g. refl), (of_there Same _ _ (λ g. cluster_same _ _), (of_there Same _ _ (λ g. refl), (of_there Same _ _ (λ g. cluster_same _ _), rounds_same 2 0))))
  rows_same (rounds following left) = rounds_same following left

  cleans : (at : Cleaning) → cleaning_move config past a at ≡ told reply (cleaning_move config past a at)
  cleans at = of_first Same (rundown_cases config past a at) (rows_same at) (cleaning_move config past a at) (rundown_by_cases config past a at)

module _ (config : Config) (past : List Entry) (reply : Reply) (of_process : (task : Task) → next_task config past ≡ Some task → (task.proc).0 < length config.procs) (same : (pager_after config past).map ≡ (flat_after config past).map) where
  abbrev a : Pager
  a = pager_after config past

  by_doing : (doing : Doing) (leaving : Option ℕ)
      → first_case (move_cases config past a reply (record { doing = doing; leaving = leaving })) ≡ Some (told reply (move_of config past (record { doing = doing; leaving = leaving })))
  by_doing asking leaving = asks config past a reply same of_process leaving
  by_doing (saving begun p) leaving = saves config past a reply same of_process begun p
  by_doing (freeing begun p) leaving = frees config past a reply same of_process leaving begun p
  by_doing (cleaning at) leaving = rundown_by_cases config past a at ∙ ap Some (cleans config past a reply at)

  pub goes_by_cases : (c : Control) → first_case (move_cases config past a reply c) ≡ Some (told reply (move_of config past c))
  goes_by_cases c = by_doing c.doing c.leaving
