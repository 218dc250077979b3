-- A reference's next step: an adjustment, a refusal, an answer, a replacement, a read, or a frame that is found first.
use Rattle.std.proofs.Common.{◌≡◌, ℕ, ◌+◌, ◌-◌, ◌<◌, ◌≤◌, ◌&&◌, Bool, true, false, not, cond, List, [], ◌∷◌, Option, Some, None, length, map, find, slice_get, nat_eq, nat_le, is_some, refl, sym, ap, ap₂, ◌∙◌, subst, arith}
use Rattle.std.specs.List.{AllByRecursion, range_with_len}
use Rattle.std.proofs.lemmas.Bool.{and_from}
use Rattle.std.proofs.lemmas.Option.{none-some}
use Rattle.vm_types.specs.Adjust.{adjust}
use Rattle.vm_types.specs.Ring.{choose, filled}
use Rattle.vm_types.specs.declared.names.Page.{Page}
use Rattle.vm_types.specs.declared.names.BlockId.{BlockId}
use Rattle.vm_types.specs.declared.names.ProcStatus.{ProcStatus}
use Rattle.vm_types.specs.declared.names.ProcStatus.TheVariants as status
use Rattle.vm_types.specs.declared.config.Config.{Config}
use Rattle.vm_types.specs.declared.config.ProcSpec.{ProcSpec}
use Rattle.vm_types.specs.declared.config.Task.{Task}
use Rattle.vm_types.specs.declared.reference.Ref.{Ref}
use Rattle.vm_types.specs.declared.reply.Reply.{Reply}
use Rattle.vm_types.specs.declared.reply.Why.{Why}
use Rattle.vm_types.specs.declared.service.Request.TheVariants as request
use Rattle.vm_journal.specs.declared.entry.Entry.{Entry}
use Rattle.vm_journal.specs.declared.entry.EvictWhy.TheVariants as evict
use Rattle.vm_journal.specs.declared.entry.Role.TheVariants as role
use Rattle.vm_journal.specs.declared.entry.What.{What}
use Rattle.vm_journal.specs.declared.entry.What.TheVariants as what
use Rattle.pager_policy.specs.Advance.{GivenNext, advance_gives, again_block_busy, again_charging, again_modified_full, again_not_resident, entry_given, fault_given, frame_given, gives_again, held_given, is_busy_block, limit_given, mapped_given, near_targets, next_answered, next_more, read_given, refused_given, replace_given, replace_seen, room_given, source_of, window}
use Rattle.pager_model.specs.Charging.{is_uncharged}
use Rattle.pager_model.specs.ClusterLength.{cluster_length}
use Rattle.pager_model.specs.Evict.{victim_of}
use Rattle.pager_model.specs.Flat.{flat_refusal}
use Rattle.pager_model.specs.Flights.{Flight, open_flights, carrier_of}
use Rattle.pager_model.specs.Forget.{holder}
use Rattle.pager_policy.specs.Given.{Seen, Target, by_seat, eviction, given, is_stopped, made_by, page_address, reads_made, reuse_first, seen_at, unsaid, with_reply}
use Rattle.pager_model.specs.Maps.{pfn, page_number, proc}
use Rattle.pager_policy.specs.Landings.{Outcome, first_bad}
use Rattle.pager_model.specs.Lookups.{entry_of, is_pending, page_by}
use Rattle.vm_types.specs.Status.{is_coming, is_resident}
use Rattle.pager_policy.specs.Moves.{Control, asking, carries, control, goes, refuses, rests, saving}
use Rattle.pager_model.specs.Pager.{Pager, Valid}
use Rattle.pager_policy.specs.Policy.{advance_move_by, ends_request, next_task, unless_first_failed}
use Rattle.pager_model.specs.Spoken.{spoken, flat_after, request_of}
use Rattle.pager_model.specs.Run.{pager_after}
use Rattle.pager_policy.specs.Serial.{GoesOn}
use Rattle.pager_model.specs.Transfers.{is_read_on}
use Rattle.pager_rules.proofs.Basics.{count_cons, count_cons_yes, each_weaker}
use Rattle.serial_laws.specs.Between.{IsBetween}
use Rattle.serial_laws.proofs.Carriers.{is_beginning}
use Rattle.serial_laws.proofs.Known.{landed_from}
use Rattle.serial_laws.proofs.ReadFlights.{reads_each, reused_each}
use Rattle.policy_ends.specs.Rank.{IsLower, absence, is_met, rank, swapped_out, unmet_of}
use Rattle.policy_ends.proofs.FaultReads.{read_valid}
use Rattle.policy_ends.proofs.FindsLower.{finding_lowers}
use Rattle.policy_ends.proofs.LeavesLower.{eviction_lowers, rests_lower, writing_lowers}
use Rattle.policy_ends.proofs.Numbers.{lower_unmet}
use Rattle.policy_ends.proofs.Places.{IsMute, LowersBy, MoveLowers, answer_lowers, asked_lowers, makes_lowers, refusal_lowers, request_lowers, spoken_landed, spoken_made, spoken_same}
use Rattle.policy_ends.proofs.ReadSteps.{IsAsBefore, is_transfer, landed_before, made_before}
use Rattle.policy_ends.proofs.Singles.{limit_lowers, others_same}

-- ---- neighbours
record IsOfRead (w : What) : Type 0 where
  begins : is_beginning w ≡ true
  transfer : is_transfer w ≡ true
  mute : IsMute w

abbrev AnyTarget : Target → Type 0
AnyTarget t = Unit {0}

any_target : (targets : List Target) → AllByRecursion AnyTarget targets
any_target [] = tt
any_target (t ∷ targets) = (tt, any_target targets)

of_reads : (page : ℕ → Option Page) (frames : List ℕ) (targets : List Target) → AllByRecursion IsOfRead (reads_made page frames targets)
of_reads page frames targets =
    reads_each IsOfRead AnyTarget (λ f g. record { begins = refl; transfer = refl; mute = refl }) (λ f t any. record { begins = refl; transfer = refl; mute = refl }) page frames targets
    (any_target targets)

-- an answer among the entries makes the spoken ones more
spoken_less : (seat : ℕ) (w : What) (past : List Entry) → spoken past ≤ spoken (by_seat seat w ∷ past)
spoken_less seat w past = let more = count_cons (λ (e : Entry). is_some (request_of e.what)) (by_seat seat w) past in omega (arith, more)

spoken_more : (seat : ℕ) (w : What) (past : List Entry) → is_some (request_of w) ≡ true → spoken (by_seat seat w ∷ past) ≡ 1 + spoken past
spoken_more seat w past is = count_cons_yes (λ (e : Entry). is_some (request_of e.what)) (by_seat seat w) past is

module _ (config : Config) (past : List Entry) (between : IsBetween config past) (c : Control) (doing : c.doing ≡ asking) (task : Task) (process : (task.proc).0 < length config.procs)
    (next : next_task config past ≡ Some task) (r : Ref) (own : task.request ≡ request.Reference r) (resident : (pager_after config past).status (task.proc).0 ≡ status.Resident) where
  abbrev a : Pager
  a = pager_after config past

  abbrev p : ℕ
  p = (task.proc).0

  abbrev v : ℕ
  v = page_number (r.addr).0

  abbrev Advances : GivenNext → Type 0
  Advances g = MoveLowers config past c (advance_move_by config past a p g.made g.answer)

  either : (b : Bool) (x y : GivenNext) → Advances x → Advances y → Advances (cond b x y)
  either true x y first second = first
  either false x y first second = second

  answers : (ws : List What) → ((reply : Reply) → spoken past < spoken (made_by p (map (with_reply reply) ws) past)) → Advances (given ws next_answered)
  answers ws more =
      makes_lowers config past c p ws (control (saving false p))
      (λ reply run. answer_lowers config past c task (made_by p (map (with_reply reply) ws) past) (control (saving false p)) next (more reply))

  -- ---- its page's entry isn't valid
  module _ (invalid : entry_of a.valid p v ≡ None) (g : Page) where
    not_met : is_met a p task.request ≡ false
    not_met = ap (is_met a p) own ∙ ap₂ (λ (s : ProcStatus) (o : Option Valid). is_resident s && is_some o) resident invalid

    work : LowersBy config past c p ends_request asking
    work = request_lowers config past c task doing next not_met

    -- ---- the reads of its page and its neighbours
    module _ (f : ℕ) (b : BlockId) (rest : List What) (of_rest : AllByRecursion IsOfRead rest) where
      abbrev fault_entry : What
      fault_entry = what.In (pfn f) b (role.Fault (proc p) (page_address v))

      abbrev made : Option Page → List What
      made o = reuse_first o f (fault_entry ∷ rest)

      abbrev landed : Option Page → List Outcome → List Entry
      landed o outcomes = landed_from config (made_by p (made o) past) p outcomes

      of_made : (o : Option Page) → AllByRecursion IsOfRead (made o)
      of_made o = reused_each IsOfRead o f (fault_entry ∷ rest) (λ x. record { begins = refl; transfer = refl; mute = refl }) (record { begins = refl; transfer = refl; mute = refl }, of_rest)

      same : (o : Option Page) (outcomes : List Outcome) → spoken (landed o outcomes) ≡ spoken past
      same o outcomes =
          spoken_landed config p (carrier_of p (made_by p (made o) past)) outcomes (made_by p (made o) past) ∙ spoken_made p (made o) past
          (each_weaker IsOfRead IsMute (λ w of. of.mute) (made o) (of_made o))

      as_before : (o : Option Page) (outcomes : List Outcome) → IsAsBefore a (pager_after config (landed o outcomes))
      as_before o outcomes =
          let first = made_before config p (made o) past (each_weaker IsOfRead (λ (w : What). is_transfer w ≡ true) (λ w of. of.transfer) (made o) (of_made o)) in
          let later = landed_before config p (carrier_of p (made_by p (made o) past)) outcomes (made_by p (made o) past) in
          record { status = later.status ∙ first.status; references = later.references ∙ first.references }

      now_valid : (o : Option Page) (outcomes : List Outcome) → length outcomes ≡ length (carrier_of p (made_by p (made o) past)) → first_bad outcomes ≡ false
          → is_some (entry_of (pager_after config (landed o outcomes)).valid p v) ≡ true
      now_valid None outcomes each good =
          read_valid config past between.landed p v f b rest (each_weaker IsOfRead (λ (w : What). is_beginning w ≡ true) (λ w of. of.begins) rest of_rest) outcomes each good
      now_valid (Some x) outcomes each good =
          read_valid config (by_seat p (what.Reuse (pfn f) x) ∷ past) between.landed p v f b rest
          (each_weaker IsOfRead (λ (w : What). is_beginning w ≡ true) (λ w of. of.begins) rest of_rest) outcomes each good

      read_lower : (o : Option Page) (outcomes : List Outcome) (d : Control) → d.doing ≡ asking → length outcomes ≡ length (carrier_of p (made_by p (made o) past)) → first_bad outcomes ≡ false
          → IsLower (rank config (landed o outcomes) d) (rank config past c)
      read_lower o outcomes d there each good =
          let before = as_before o outcomes in
          let now = pager_after config (landed o outcomes) in
          let here : now.status p ≡ status.Resident = ap (λ (s : ℕ → ProcStatus). s p) before.status ∙ resident in
          let met : is_met now p task.request ≡ true = ap (is_met now p) own ∙ and_from _ _ (ap is_resident here) (now_valid o outcomes each good) in
          asked_lowers config past c task doing next (landed o outcomes) d there (same o outcomes)
          (lower_unmet config past (landed o outcomes) a now p (unmet_of now (Some task)) (unmet_of a (Some task)) (others_same config a now p before.status)
          (let one = ap (λ (s : ℕ → ProcStatus). absence (s p)) before.status in omega (arith, one))
          (let one = ap (λ (s : ProcStatus). cond (is_coming s) (swapped_out now p) 0) here in omega (arith, one))
          (let one = ap (λ (n : ℕ → ℕ). cond {A = ℕ} (is_pending config (n p)) 1 0) before.references in omega (arith, one))
          (let none = ap (λ (x : Bool). cond {A = ℕ} (not x) 1 0) met in let one = ap (λ (x : Bool). cond {A = ℕ} (not x) 1 0) not_met in omega (arith, none, one)))

      reads_lower : (o : Option Page) → MoveLowers config past c (carries p (made o) (unless_first_failed (control asking)))
      reads_lower o = record { lowers = λ heard more later is run. by heard.outcomes more later is.each (first_bad heard.outcomes) refl is.on }
        where
          by : (outcomes : List Outcome) (more : List Entry) (later : Control) → length outcomes ≡ length (carrier_of p (made_by p (made o) past)) → (bad : Bool) → first_bad outcomes ≡ bad
              → GoesOn config (landed o outcomes) more later (cond bad refuses (goes (control asking))) → IsLower (rank config more later) (rank config past c)
          by outcomes more later each true bad on = refusal_lowers config past c (landed o outcomes) more later (same o outcomes) on
          by outcomes more later each false good on =
              subst (λ (xs : List Entry). IsLower (rank config xs later) (rank config past c)) (sym on.0) (read_lower o outcomes later (ap (λ (d : Control). d.doing) on.1) each good)

    -- ---- a victim is replaced
    replaced : (o : Option Seen) → Advances (replace_seen config past a p o)
    replaced None = writing_lowers config past between c p p ends_request asking work (control asking) refl
    replaced (Some s) =
        either (is_stopped config past a s.frame) (gives_again again_modified_full) (given (eviction past a p s.vpn s.frame evict.Replace ∷ []) next_more)
        (writing_lowers config past between c p p ends_request asking work (control asking) refl)
        (eviction_lowers config past between c p p ends_request asking work p s.vpn s.frame evict.Replace (control asking) process refl)

    -- ---- a page that is out is fetched, or a frame is found
    framed : (o : Option BlockId) (free : List ℕ) → Advances (frame_given config a p r g o free)
    framed o [] = finding_lowers config past between c p p ends_request asking work rests (rests_lower config past c)
    framed None (f ∷ free) = answers (reuse_first (a.page f) f (what.Zero (page_address v) (pfn f) ∷ what.Done r unsaid ∷ [])) (by (a.page f))
      where
        by : (o : Option Page) (reply : Reply) → spoken past < spoken (made_by p (map (with_reply reply) (reuse_first o f (what.Zero (page_address v) (pfn f) ∷ what.Done r unsaid ∷ []))) past)
        by None reply =
            let first = spoken_less p (what.Zero (page_address v) (pfn f)) past in
            let one = spoken_more p (what.Done r reply) (by_seat p (what.Zero (page_address v) (pfn f)) ∷ past) refl in
            omega (arith, first, one)
        by (Some x) reply =
            let reused : List Entry = by_seat p (what.Reuse (pfn f) x) ∷ past in
            let first = spoken_less p (what.Reuse (pfn f) x) past in
            let second = spoken_less p (what.Zero (page_address v) (pfn f)) reused in
            let one = spoken_more p (what.Done r reply) (by_seat p (what.Zero (page_address v) (pfn f)) ∷ reused) refl in
            omega (arith, first, second, one)
    framed (Some b) (f ∷ free) =
        let near = near_targets config a g b (range_with_len 1 (cluster_length (window config a g b) config.params.pfc (length a.free) - 1)) in
        reads_lower f b (reads_made a.page free near) (of_reads a.page free near) (a.page f)

    held : (o : Option ℕ) → Advances (held_given config past a p r g o)
    held (Some f) = answers (what.Back (proc p) (page_address v) (pfn f) (a.state f) ∷ what.Done r unsaid ∷ []) (λ reply.
        let first = spoken_less p (what.Back (proc p) (page_address v) (pfn f) (a.state f)) past in
        let one = spoken_more p (what.Done r reply) (by_seat p (what.Back (proc p) (page_address v) (pfn f) (a.state f)) ∷ past) refl in
        omega (arith, first, one))
    held None =
        either (is_busy_block past (source_of config a g (a.map p v))) (gives_again again_block_busy) (frame_given config a p r g (source_of config a g (a.map p v)) a.free) (rests_lower config past c)
        (framed (source_of config a g (a.map p v)) a.free)

    roomed : Advances (room_given config past a p r g)
    roomed =
        either (is_uncharged config a g && nat_eq (length a.charged) config.pagefile) (gives_again again_charging)
        (cond (nat_le (a.limit p) (filled (a.ring p).slots)) (replace_given config past a p) (held_given config past a p r g (holder config a.page g))) (rests_lower config past c)
        (either (nat_le (a.limit p) (filled (a.ring p).slots)) (replace_given config past a p) (held_given config past a p r g (holder config a.page g)) (replaced (seen_at a p (victim_of (choose (a.ring p) (a.limit p))))) (held (holder config a.page g)))

    -- no frame is being read
    unread : (f : ℕ) (o : Option Flight) → find (is_read_on f) (open_flights past) ≡ o → Advances (read_given config past a p r g f o)
    unread f None is = roomed
    unread f (Some x) is = absurd (none-some x (sym (ap (find (is_read_on f)) between.landed) ∙ is))

    faulted : (o : Option ℕ) → Advances (fault_given config past a p r g o)
    faulted None = roomed
    faulted (Some f) = unread f (find (is_read_on f) (open_flights past)) refl

  -- ---- each case before it
  done : (w : What) → ((reply : Reply) → is_some (request_of (with_reply reply w)) ≡ true) → Advances (given (w ∷ []) next_answered)
  done w speaks = answers (w ∷ []) (λ reply. let one = spoken_more p (with_reply reply w) past (speaks reply) in omega (arith, one))

  mapped : entry_of a.valid p v ≡ None → (o : Option Page) → Advances (mapped_given config past a p r o)
  mapped invalid None = rests_lower config past c
  mapped invalid (Some g) = faulted invalid g (holder config a.page g)

  entered : (o : Option Valid) → entry_of a.valid p v ≡ o → Advances (entry_given config past a p r o)
  entered (Some e) is = done (what.Done r unsaid) (λ reply. refl)
  entered None is = mapped is (page_by config a.map p v)

  refused : (o : Option Why) → Advances (refused_given config past a p r o)
  refused (Some reason) = done (what.Denied r reason) (λ reply. refl)
  refused None = entered (entry_of a.valid p v) refl

  adjusted : is_pending config (a.references p) ≡ true → (o : Option ProcSpec) → Advances (limit_given config a p o)
  adjusted due None = rests_lower config past c
  adjusted due (Some spec) =
      let w : What = what.Limit (adjust config.params spec (a.faults p) (a.limit p) (length a.free)) (a.faults p) in
      makes_lowers config past c p (w ∷ []) (control asking)
      (λ reply run. asked_lowers config past c task doing next (by_seat p w ∷ past) (control asking) refl (spoken_same p w past refl)
      (limit_lowers config past a p (unmet_of (pager_after config (by_seat p w ∷ past)) (Some task)) (unmet_of a (Some task)) (adjust config.params spec (a.faults p) (a.limit p) (length a.free)) (a.faults p) due (by_seat p w ∷ past)))

  pub advance_lowers : Advances (advance_gives config past a p r)
  advance_lowers =
      either (not (is_resident (a.status p))) (gives_again again_not_resident)
      (cond (is_pending config (a.references p)) (limit_given config a p (slice_get config.procs p)) (refused_given config past a p r (flat_refusal config (flat_after config past) p r)))
      (rests_lower config past c)
      (by (is_pending config (a.references p)) refl)
    where
      by : (b : Bool) → is_pending config (a.references p) ≡ b
          → Advances (cond b (limit_given config a p (slice_get config.procs p)) (refused_given config past a p r (flat_refusal config (flat_after config past) p r)))
      by true due = adjusted due (slice_get config.procs p)
      by false due = refused (flat_refusal config (flat_after config past) p r)
