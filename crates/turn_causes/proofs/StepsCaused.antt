-- What a step of a seat's turn makes has its cause.
use Rattle.std.proofs.Common.{◌≡◌, ◌⊎◌, inl, inr, ℕ, ◌+◌, ◌<◌, ◌≤◌, ◌^◌, ◌||◌, Bool, true, false, cond, not, List, [], Option, Some, None, length, map, nat_eq, nat_le, slice_get, refl, sym, ap, ◌∙◌, subst, arith}
use Rattle.std.proofs.lemmas.Bool.{and_from, eqb-true, leb-false}
use Rattle.vm_types.specs.Configuration.{IsWellFormed}
use Rattle.vm_types.specs.Status.{is_leaving, is_resident}
use Rattle.vm_types.specs.declared.names.ProcStatus.{ProcStatus}
use Rattle.vm_types.specs.declared.names.ProcStatus.TheVariants as status
use Rattle.vm_types.specs.declared.config.Config.{Config}
use Rattle.vm_types.specs.declared.reference.Ref.{Ref}
use Rattle.vm_types.specs.declared.reply.Reply.{Reply}
use Rattle.vm_types.specs.declared.service.Request.{Request}
use Rattle.vm_types.specs.declared.service.Request.TheVariants as request
use Rattle.vm_types.specs.declared.service.Service.{Service}
use Rattle.vm_journal.specs.declared.entry.Entry.{Entry}
use Rattle.vm_journal.specs.declared.entry.What.{What}
use Rattle.pager_model.specs.Flat.{flat_refusal}
use Rattle.pager_model.specs.Lookups.{is_pending}
use Rattle.pager_model.specs.Pager.{Pager}
use Rattle.pager_model.specs.Run.{IsRun, pager_after}
use Rattle.pager_model.specs.Spoken.{flat_after}
use Rattle.pager_policy.specs.Advance.{GivenNext, advance_gives, again_modified_full, again_no_frame, again_not_resident, gives_again, limit_given, next_again, refused_given}
use Rattle.pager_policy.specs.Given.{given, with_reply}
use Rattle.pager_policy.specs.Rundown.{writer_of}
use Rattle.pager_policy.specs.Serve.{GivenServe, serve_again, serve_gives, serve_modified_full, serve_not_resident, service_gives}
use Rattle.pager_policy.specs.Swap.{victim_gives}
use Rattle.pager_policy.specs.WriteCluster.{Reason, begin_carry, begin_gives, begin_nothing, reason_high, reason_need, writes_from}
use Rattle.call_laws.specs.Ready.{IsFree, IsReady, MayWork}
use Rattle.entry_causes.specs.Caused.{IsCausedThroughout}
use Rattle.entry_causes.specs.FrameWanted.{WantsFrame}
use Rattle.entry_causes.specs.HeldUp.{IsHeldUp}
use Rattle.entry_causes.specs.NextRequest.{HasRequest, next_request}
use Rattle.entry_causes.specs.TurnCause.{IsTurnCause}
use Rattle.entry_causes.specs.WriteCause.{IsWriteCause}
use Rattle.cause_laws.specs.AreCaused.{AreCaused}
use Rattle.cause_laws.proofs.AdvanceCaused.{advance_caused}
use Rattle.cause_laws.proofs.BeginCaused.{begin_caused}
use Rattle.cause_laws.proofs.ComeCaused.{come_caused, come_misses}
use Rattle.cause_laws.proofs.HeldUp.{leaving_held, reference_held, service_held}
use Rattle.cause_laws.proofs.Landed.{made_caused}
use Rattle.cause_laws.proofs.LeaveCaused.{leave_caused}
use Rattle.cause_laws.proofs.NoFrame.{no_frame_wanted}
use Rattle.cause_laws.proofs.ServeCaused.{serve_caused}
use Rattle.cause_laws.proofs.Turned.{none_leaves, none_where, victim_turned}
use Rattle.serial_causes.proofs.Entries.{shown_caused}
use Rattle.serial_causes.proofs.Lasts.{advance_last}
use Rattle.seat_steps.specs.Leaving.{is_other_leaving, lowest_leaving}
use Rattle.seat_steps.specs.Steps.{IsStep, IsStepFor, IsToWrite, LooksForFrames, Step, bars, begins_to_come, comes, leaves, makes_nothing, refers, sends_out, serves, step_gives, writes}
use Rattle.seat_steps.specs.Turns.{IsDue}
use Rattle.seat_steps.specs.Waits.{WaitsForFrame, WaitsForRoom}
use Rattle.turn_causes.proofs.VictimSeen.{victim_seen}

-- ---- a reference that doesn't wait for its process has it resident
resident_or : (s : ProcStatus) → (s ≡ status.Resident) ⊎ (is_resident s ≡ false)
resident_or status.Resident = inl refl
resident_or status.Leaving = inr refl
resident_or status.Gone = inr refl
resident_or status.Coming = inr refl

not_there : (config : Config) (past : List Entry) (a : Pager) (p : ℕ) (r : Ref) → is_resident (a.status p) ≡ false → advance_gives config past a p r ≡ gives_again again_not_resident
not_there config past a p r away =
    ap (λ (b : Bool). cond (not b) (gives_again again_not_resident) (cond (is_pending config (a.references p)) (limit_given config a p (slice_get config.procs p)) (refused_given config past a p r (flat_refusal config (flat_after config past) p r)))) away

not_served : (config : Config) (past : List Entry) (a : Pager) (p : ℕ) (s : Service) → is_resident (a.status p) ≡ false → serve_gives config past a p s ≡ given [] (serve_again serve_not_resident)
not_served config past a p s away = ap (λ (b : Bool). cond b (service_gives config past a p s) (given [] (serve_again serve_not_resident))) away

-- ---- where it is looked for none but this process, none but it is leaving
only_leaving : (config : Config) (a : Pager) (p : ℕ) → lowest_leaving config a (Some p) ≡ None → (q : ℕ) → q < length config.procs → a.status q ≡ status.Leaving → p ≡ q
only_leaving config a p none q below leaving = by (nat_eq p q) refl
  where
    by : (b : Bool) → nat_eq p q ≡ b → p ≡ q
    by true same = eqb-true p q same
    by false other = absurd (none_where (is_other_leaving a (Some p)) (length config.procs) q none below (and_from _ _ (ap not other) (ap is_leaving leaving)))

module _ (config : Config) (past : List Entry) (formed : IsWellFormed config) (run : IsRun config past) (few : length past < 2 ^ 63) (seat : ℕ) (free : IsFree past seat) where
  abbrev a : Pager
  a = pager_after config past

  may : seat ≤ length config.procs + 1 → MayWork config past seat
  may there = record { formed = formed; run = run; free = free; seat_there = there }

  seat_there : (o : Option Request) → IsDue config past seat o → seat ≤ length config.procs + 1
  seat_there (Some x) due = let below = due.0 in omega (arith, below)
  seat_there None (inl is) = omega (arith, is)
  seat_there None (inr is) = omega (arith, is)

  -- ---- for a request of the seat's process
  module _ (x : Request) (due : IsDue config past seat (Some x)) where
    asks : HasRequest config past seat
    asks = record { request = x; next = due.1 }

    ready : a.status seat ≡ status.Resident → IsReady config past seat
    ready resident = record { formed = formed; run = run; few = few; free = free; own = record { process = due.0; resident = resident } }

    wants : (y : Request) → next_request config past seat ≡ Some y → WaitsForFrame config past seat y → (a.free ≡ []) × WantsFrame config past a seat
    wants (request.Reference r) next (inl waits) = by (resident_or (a.status seat))
      where
        by : (a.status seat ≡ status.Resident) ⊎ (is_resident (a.status seat) ≡ false) → (a.free ≡ []) × WantsFrame config past a seat
        by (inl resident) = let missed = no_frame_wanted config past seat r (ready resident) next waits in (missed.0, inl missed.1)
        by (inr away) = let both : next_again again_not_resident ≡ next_again again_no_frame = sym (ap (λ (g : GivenNext). g.answer) (not_there config past a seat r away)) ∙ waits in absurd (cc)
    wants (request.Service s) next (inl waits) = absurd waits
    wants y next (inr waits) =
        let missed = come_misses config past seat seat (may (seat_there (Some x) due)) waits.comes.coming asks waits.no_frame in (missed.0, inr missed.1)

    held : (y : Request) → next_request config past seat ≡ Some y → WaitsForRoom config past seat y → IsHeldUp config past a
    held (request.Reference r) next waits = by (resident_or (a.status seat))
      where
        by : (a.status seat ≡ status.Resident) ⊎ (is_resident (a.status seat) ≡ false) → IsHeldUp config past a
        by (inl resident) = reference_held config past seat r (ready resident) next (victim_seen config past formed run seat due.0) waits
        by (inr away) = let both : next_again again_not_resident ≡ next_again again_modified_full = sym (ap (λ (g : GivenNext). g.answer) (not_there config past a seat r away)) ∙ waits in absurd (cc)
    held (request.Service s) next waits = by (resident_or (a.status seat))
      where
        by : (a.status seat ≡ status.Resident) ⊎ (is_resident (a.status seat) ≡ false) → IsHeldUp config past a
        by (inl resident) = service_held config past seat (ready resident) s next waits
        by (inr away) = let both : serve_again serve_not_resident ≡ serve_again serve_modified_full = sym (ap (λ (g : GivenServe). g.answer) (not_served config past a seat s away)) ∙ waits in absurd (cc)

  due_for : (o : Option Request) (x : Request) → o ≡ Some x → IsDue config past seat o → IsDue config past seat (Some x)
  due_for o x same due = subst (IsDue config past seat) same due

  -- ---- the step's entries, by its kind
  refers_caused : (r : Ref) (shown : Reply) → IsDue config past seat (Some (request.Reference r)) → AreCaused config past seat (map (with_reply shown) (advance_gives config past a seat r).made)
  refers_caused r shown due = by (resident_or (a.status seat))
    where
      by : (a.status seat ≡ status.Resident) ⊎ (is_resident (a.status seat) ≡ false) → AreCaused config past seat (map (with_reply shown) (advance_gives config past a seat r).made)
      by (inl resident) = shown_caused config seat shown (advance_gives config past a seat r).made past (advance_last config past a seat r) (advance_caused config past seat r (ready (request.Reference r) due resident) due.1)
      by (inr away) = subst (λ (g : GivenNext). AreCaused config past seat (map (with_reply shown) g.made)) (sym (not_there config past a seat r away)) tt

  high_caused : seat ≡ writer_of config → (b : Bool) → nat_le (length a.modified) config.params.lolimit ≡ b → AreCaused config past seat (begin_gives config a reason_high).made
  high_caused writer true short =
      subst (λ (b : Bool). AreCaused config past seat (cond (b || nat_eq (length a.modified) 0) (given [] begin_nothing) (given (writes_from config a config.params.wrtcluster None a.modified) begin_carry)).made) (sym short) tt
  high_caused writer false long =
      begin_caused config past seat reason_high (inr (inl (record { writer = writer; long = (let less = leb-false (length a.modified) config.params.lolimit long in omega (arith, less)) })))

  need_cause : (o : Option Request) → IsDue config past seat o → IsToWrite config past seat o reason_need → IsWriteCause config past a seat
  need_cause o due (inl works) = inr (inr (inr (inr (inl (held works.x (due_for o works.x works.asks due) works.x (due_for o works.x works.asks due).1 works.is)))))
  need_cause o due (inr (inl works)) =
      let missed = wants works.x (due_for o works.x works.asks due) works.x (due_for o works.x works.asks due).1 works.is in
      inr (inr (inr (inl (record { none_free = missed.0; p = seat; wants = missed.1 }))))
  need_cause o due (inr (inr stopped)) = inr (inr (inr (inr (inl (leaving_held config past seat stopped.0 (may (seat_there o due)) stopped.1.leaves.leaving stopped.1.full)))))

  writes_caused : (o : Option Request) (reason : Reason) → IsDue config past seat o → IsToWrite config past seat o reason → AreCaused config past seat (begin_gives config a reason).made
  writes_caused o reason_high due why = high_caused why.1 (nat_le (length a.modified) config.params.lolimit) refl
  writes_caused o reason_need due why = begin_caused config past seat reason_need (need_cause o due why)

  chosen_cause : (but : Option ℕ) (x : Option Request) (q : ℕ) → IsDue config past seat x → LooksForFrames config past seat x but → lowest_leaving config a but ≡ None → (x ≡ None → length a.free < config.params.freelim) → victim_gives config past a but ≡ Some q → IsTurnCause config past a seat q status.Leaving
  chosen_cause (Some p) (Some x) q due looks none short chosen =
      let missed = wants x due x due.1 looks.1.0 in
      let here : lowest_leaving config a (Some seat) ≡ None = subst (λ (r : ℕ). lowest_leaving config a (Some r) ≡ None) looks.0 none in
      let found : victim_gives config past a (Some seat) ≡ Some q = subst (λ (r : ℕ). victim_gives config past a (Some r) ≡ Some q) looks.0 chosen in
      victim_turned config past seat seat q looks.1.1 (none_leaves config past a seat missed.1 (only_leaving config a seat here)) found (inl missed)
  chosen_cause None None q due looks none short chosen = inl (record { swapper = looks; few = (let less = short refl in let most = formed.params.freelim in omega (arith, less, most)) })
  chosen_cause None (Some x) q due looks none short chosen = absurd looks
  chosen_cause (Some p) None q due looks none short chosen = absurd looks

  gives_caused : (o : Option Request) (step : Step) → IsDue config past seat o → IsStepFor config past seat o step → AreCaused config past seat (step_gives config past a seat step)
  gives_caused o makes_nothing due for = tt
  gives_caused o (refers r shown) due for = refers_caused r shown (due_for o (request.Reference r) for due)
  gives_caused o (serves s) due for = serve_caused config past seat s (due_for o (request.Service s) for due).1
  gives_caused o (writes reason) due for = writes_caused o reason due for
  gives_caused o (leaves q) due for = leave_caused config past seat q
  gives_caused o comes due for = come_caused config past seat seat (may (seat_there o due)) for.is.coming (asks for.x (due_for o for.x for.asks due))
  gives_caused o begins_to_come due for = (asks for.x (due_for o for.x for.asks due), tt)
  gives_caused o (sends_out q) due for = (chosen_cause for.but o q due for.looks for.none_leaving for.few for.chosen, tt)
  gives_caused o (bars q) due for = (inr (inr (record { coming = for.is.coming; p = seat; gone = for.is.gone; asks = asks for.x (due_for o for.x for.asks due) })), tt)

pub step_caused : (config : Config) (past more : List Entry) (seat : ℕ) (o : Option Request) → IsWellFormed config → IsRun config past → length past < 2 ^ 63 → IsFree past seat → IsDue config past seat o → IsStep config past more seat o
    → IsCausedThroughout config past → IsCausedThroughout config more
step_caused config past more seat o formed run few free due stepped before =
    subst (IsCausedThroughout config) (sym stepped.is) (made_caused config seat (step_gives config past (pager_after config past) seat stepped.step) past before (gives_caused config past formed run few seat free o stepped.step due stepped.made_for))
