-- Content along the rows that move no byte and no block: DENIED, COLLIDE, LIMIT, TURN, EVICT, BACK and REUSE.
use Rattle.std.proofs.Common.{◌≡◌, ◌⊎◌, ℕ, ◌+◌, Bool, true, false, cond, List, ◌∷◌, Option, Some, None, nat_lt, refl, sym, ap, ◌∙◌, subst, inl, inr}
use Rattle.std.proofs.lemmas.Bool.{cases_eq, true≢false}
use Rattle.std.proofs.lemmas.Option.{none-some}
use Rattle.vm_types.specs.BlockView.{BlockView}
use Rattle.vm_types.specs.Same.{same_page}
use Rattle.vm_types.specs.declared.names.Page.{Page}
use Rattle.vm_types.specs.declared.names.Pfn.{Pfn}
use Rattle.vm_types.specs.declared.names.Addr.{Addr}
use Rattle.vm_types.specs.declared.names.Proc.{Proc}
use Rattle.vm_types.specs.declared.names.BlockId.{BlockId}
use Rattle.vm_types.specs.declared.names.Seat.{Seat}
use Rattle.vm_types.specs.declared.names.FrameState.{FrameState}
use Rattle.vm_types.specs.declared.names.FrameState.TheVariants as state
use Rattle.vm_types.specs.declared.names.ProcStatus.{ProcStatus}
use Rattle.vm_types.specs.declared.config.Config.{Config}
use Rattle.vm_types.specs.declared.reference.Ref.{Ref}
use Rattle.vm_types.specs.declared.reply.Why.{Why}
use Rattle.vm_journal.specs.declared.entry.Entry.{Entry}
use Rattle.vm_journal.specs.declared.entry.EvictWhy.{EvictWhy}
use Rattle.vm_journal.specs.declared.entry.EvictWhy.TheVariants as evict
use Rattle.vm_journal.specs.declared.entry.What.TheVariants as what
use Rattle.content_laws.proofs.BlockMoved.{counted_same}
use Rattle.content_laws.proofs.DoneBytes.{at_page_of}
use Rattle.content_laws.proofs.FrameChanged.{buffers_stay, held_move, settled_move, written_move, written_stay}
use Rattle.pager_model.specs.Around.{frame_view, past_view, quiet}
use Rattle.pager_model.specs.Back.{IsAnyBack, after_any_back, after_back, after_back_coming, may_come_back}
use Rattle.pager_model.specs.Bytes.{now}
use Rattle.pager_model.specs.Changes.{lies_nowhere}
use Rattle.pager_model.specs.Collide.{after_collide}
use Rattle.pager_model.specs.Content.{ContentFits, HasCounted, has_bytes}
use Rattle.pager_model.specs.Counted.{counts_of}
use Rattle.pager_model.specs.Denied.{after_denied}
use Rattle.pager_model.specs.Evict.{IsEvict, IsTaken, after_evict}
use Rattle.pager_model.specs.Flights.{Flight, open_flights}
use Rattle.pager_model.specs.Limit.{after_limit}
use Rattle.pager_model.specs.Lookups.{is, shares}
use Rattle.pager_model.specs.Maps.{page_number}
use Rattle.pager_model.specs.Pager.{Pager}
use Rattle.pager_model.specs.Reuse.{IsReuse, after_reuse}
use Rattle.pager_model.specs.Sets.{at_number}
use Rattle.pager_model.specs.Transfers.{reads_on, writes_on}
use Rattle.pager_model.specs.Turn.{after_turn}
use Rattle.pager_rules.proofs.Basics.{at_number_other, at_number_same}
use Rattle.pager_rules.proofs.Frames.{at_state, failed_frame, free_frame}
use Rattle.pager_rules.proofs.Put.{free_row, head_counts}
use Rattle.pager_rules.proofs.TouchedPages.{at_number_field}
use Rattle.pager_rules.specs.Kept.{FitsFailure, IsKept, views}

not_reading : (b c m : Bool) → is state.Reading (cond b state.Active (cond c state.ReleasePending (cond m state.Modified state.Free))) ≡ false
not_reading true c m = refl
not_reading false true m = refl
not_reading false false true = refl
not_reading false false false = refl

back_reads : (s : FrameState) → may_come_back s ≡ true → (is state.Reading s ≡ false) × (has_bytes s ≡ true)
back_reads state.Free may = (refl, refl)
back_reads state.Modified may = (refl, refl)
back_reads state.ReleasePending may = (refl, refl)
back_reads state.Writing may = (refl, refl)
back_reads state.Active may = (refl, refl)
back_reads state.Bad may = absurd (true≢false (sym may))
back_reads state.ReadError may = absurd (true≢false (sym may))
back_reads state.Reading may = absurd (true≢false (sym may))

-- a page that lies somewhere once another lies nowhere lay there before
pub nowhere_lies : (lies : Page → Option BlockId) (o : Option Page) (g : Page) (d : BlockId) → lies_nowhere lies o g ≡ Some d → lies g ≡ Some d
nowhere_lies lies None g d there = there
nowhere_lies lies (Some x) g d there = go (same_page x g) there
  where
    go : (s : Bool) → cond s None (lies g) ≡ Some d → lies g ≡ Some d
    go true there = absurd (none-some d there)
    go false there = there

module _ (tells tells_plan : Bool) (config : Config) (past : List Entry) (a : Pager) (buffer : ℕ → Option (List ℕ)) (home : BlockId → Option BlockView) where
  abbrev Fits : List Entry → Pager → Type 0
  Fits longer b = ContentFits tells tells_plan config longer b buffer home

  abbrev flights : List Flight
  flights = open_flights past

  -- the counts of no block change
  counted_on : (longer : List Entry) → ((b : BlockId) → counts_of b longer ≡ counts_of b past) → HasCounted tells_plan config past home → HasCounted tells_plan config longer home
  counted_on longer same old b x at = counted_same tells_plan config past longer b x (same b) (old b x at)

  -- ---- the rows that name no frame
  pub denied_content : (seat : Seat) (r : Ref) (reason : Why) → Fits past a → Fits (record { seat = seat; what = what.Denied r reason } ∷ past) (after_denied a seat.0)
  denied_content seat r reason fits = record {
    buffers = fits.buffers;
    homes = fits.homes;
    held = fits.held;
    lying = fits.lying;
    written = λ told. written_stay config past (record { seat = seat; what = what.Denied r reason }) a.page a.modify (λ g. refl) (fits.written told);
    copied = fits.copied;
    counted = counted_on _ (λ b. refl) fits.counted;
  }

  pub collide_content : (seat : Seat) (address : Addr) (f : Pfn) (k : ℕ) → Fits past a → Fits (record { seat = seat; what = what.Collide address f k } ∷ past) (after_collide a seat.0 k)
  collide_content seat address f k fits = record {
    buffers = fits.buffers;
    homes = fits.homes;
    held = fits.held;
    lying = fits.lying;
    written = λ told. written_stay config past (record { seat = seat; what = what.Collide address f k }) a.page a.modify (λ g. refl) (fits.written told);
    copied = fits.copied;
    counted = counted_on _ (λ b. refl) fits.counted;
  }

  pub limit_content : (seat : Seat) (n faults : ℕ) → Fits past a → Fits (record { seat = seat; what = what.Limit n faults } ∷ past) (after_limit a seat.0 n)
  limit_content seat n faults fits = record {
    buffers = fits.buffers;
    homes = fits.homes;
    held = fits.held;
    lying = fits.lying;
    written = λ told. written_stay config past (record { seat = seat; what = what.Limit n faults }) a.page a.modify (λ g. refl) (fits.written told);
    copied = fits.copied;
    counted = counted_on _ (λ b. refl) fits.counted;
  }

  pub turn_content : (seat : Seat) (q : Proc) (s : ProcStatus) → Fits past a → Fits (record { seat = seat; what = what.Turn q s } ∷ past) (after_turn a q.0 s)
  turn_content seat q s fits = record {
    buffers = fits.buffers;
    homes = fits.homes;
    held = fits.held;
    lying = fits.lying;
    written = λ told. written_stay config past (record { seat = seat; what = what.Turn q s }) a.page a.modify (λ g. refl) (fits.written told);
    copied = fits.copied;
    counted = counted_on _ (λ b. refl) fits.counted;
  }

  -- ---- EVICT, for each of the five reasons
  taken_of : (why : EvictWhy) (p q address f : ℕ) (to : FrameState) → IsEvict why config past a p q address f to → IsTaken past a q (page_number address) f to
  taken_of evict.Replace p q address f to legal = legal.1.evicted.taken
  taken_of evict.Purge p q address f to legal = legal.1.taken
  taken_of evict.Delete p q address f to legal = legal.1.taken
  taken_of evict.Leave p q address f to legal = legal.taken
  taken_of evict.Rundown p q address f to legal = legal.taken

  pub evict_content : (seat : Seat) (q : Proc) (address : Addr) (f : Pfn) (why : EvictWhy) (to : FrameState) → IsKept config (quiet flights) a → IsEvict why config past a seat.0 q.0 address.0 f.0 to
      → Fits past a → Fits (record { seat = seat; what = what.Evict q address f why to } ∷ past) (after_evict a why q.0 address.0 f.0 to)
  evict_content seat q address f why to kept legal fits = record {
    buffers = buffers_stay config a.state (at_number a.state f.0 to) buffer (at_number_field (is state.Reading) a.state f.0 to (to_is ∙ sym (ap (is state.Reading) was_active))) fits.buffers;
    homes = fits.homes;
    held = λ told. held_move (now config past) (now config past) a.page a.page a.state (at_number a.state f.0 to) buffer buffer f.0
        (λ h apart. (refl, at_number_other a.state f.0 to h apart, refl, λ g holds. refl))
        (λ g holds filled. fits.held told f.0 g holds (ap has_bytes was_active)) (fits.held told);
    lying = fits.lying;
    written = λ told. written_stay config past (record { seat = seat; what = what.Evict q address f why to }) a.page a.modify (λ g. refl) (fits.written told);
    copied = fits.copied;
    counted = counted_on _ (λ b. refl) fits.counted;
  }
    where
      taken : IsTaken past a q.0 (page_number address.0) f.0 to
      taken = taken_of why seat.0 q.0 address.0 f.0 to legal

      was_active : a.state f.0 ≡ state.Active
      was_active = subst (λ (n : ℕ). a.state n ≡ state.Active) taken.frame (at_page_of config past a q.0 (page_number address.0) taken.entry kept taken.valid).state

      to_is : is state.Reading to ≡ false
      to_is = ap (is state.Reading) taken.goes ∙ not_reading (nat_lt 1 (shares a.valid f.0)) (nat_lt 0 (reads_on f.0 flights + writes_on f.0 flights)) (a.modify f.0)

  -- ---- BACK, of a resident process and of one that comes back
  resident_back : (seat : Seat) (q : Proc) (address : Addr) (f : Pfn) (from : FrameState) → a.state f.0 ≡ from → may_come_back from ≡ true
      → Fits past a → Fits (record { seat = seat; what = what.Back q address f from } ∷ past) (after_back a q.0 address.0 f.0)
  resident_back seat q address f from was may fits = record {
    buffers = buffers_stay config a.state (at_number a.state f.0 state.Active) buffer (at_number_field (is state.Reading) a.state f.0 state.Active (sym (ap (is state.Reading) was ∙ (back_reads from may).0))) fits.buffers;
    homes = fits.homes;
    held = λ told. held_move (now config past) (now config past) a.page a.page a.state (at_number a.state f.0 state.Active) buffer buffer f.0
        (λ h apart. (refl, at_number_other a.state f.0 state.Active h apart, refl, λ g holds. refl))
        (λ g holds filled. fits.held told f.0 g holds (ap has_bytes was ∙ (back_reads from may).1)) (fits.held told);
    lying = fits.lying;
    written = λ told. written_stay config past (record { seat = seat; what = what.Back q address f from }) a.page a.modify (λ g. refl) (fits.written told);
    copied = fits.copied;
    counted = counted_on _ (λ b. refl) fits.counted;
  }

  coming_back : (seat : Seat) (q : Proc) (address : Addr) (f : Pfn) (from : FrameState) → a.state f.0 ≡ from → may_come_back from ≡ true
      → Fits past a → Fits (record { seat = seat; what = what.Back q address f from } ∷ past) (after_back_coming a q.0 address.0 f.0)
  coming_back seat q address f from was may fits = record {
    buffers = buffers_stay config a.state (at_number a.state f.0 state.Active) buffer (at_number_field (is state.Reading) a.state f.0 state.Active (sym (ap (is state.Reading) was ∙ (back_reads from may).0))) fits.buffers;
    homes = fits.homes;
    held = λ told. held_move (now config past) (now config past) a.page a.page a.state (at_number a.state f.0 state.Active) buffer buffer f.0
        (λ h apart. (refl, at_number_other a.state f.0 state.Active h apart, refl, λ g holds. refl))
        (λ g holds filled. fits.held told f.0 g holds (ap has_bytes was ∙ (back_reads from may).1)) (fits.held told);
    lying = λ told d y g real at_home lies settled. fits.lying told d y g real at_home (nowhere_lies a.lies (a.page f.0) g d lies)
        (settled_move a.page a.page a.modify (at_number a.modify f.0 true) flights flights f.0 g (λ h apart. (refl, at_number_other a.modify f.0 true h apart, refl))
        (λ holds. absurd (true≢false (sym (at_number_same a.modify f.0 true) ∙ (settled f.0 holds).0))) settled);
    written = λ told. written_move config past (record { seat = seat; what = what.Back q address f from }) a.page a.page a.modify (at_number a.modify f.0 true)
        (λ x some writes clear g holds. (clear_before x.frame clear (cases_eq f.0 x.frame), holds, refl)) (fits.written told);
    copied = fits.copied;
    counted = counted_on _ (λ b. refl) fits.counted;
  }
    where
      clear_before : (h : ℕ) → at_number a.modify f.0 true h ≡ false → (f.0 ≡ h) ⊎ (f.0 ≡ h → ⊥) → a.modify h ≡ false
      clear_before h clear (inl same) = absurd (true≢false (sym (at_number_same a.modify f.0 true) ∙ (ap (at_number a.modify f.0 true) same ∙ clear)))
      clear_before h clear (inr apart) = sym (at_number_other a.modify f.0 true h apart) ∙ clear

  pub back_content : (seat : Seat) (q : Proc) (address : Addr) (f : Pfn) (from : FrameState) → IsAnyBack config a seat.0 q.0 address.0 f.0 from
      → Fits past a → Fits (record { seat = seat; what = what.Back q address f from } ∷ past) (after_any_back a (a.status q.0) q.0 address.0 f.0)
  back_content seat q address f from (inl legal) fits =
      subst (λ (s : ProcStatus). Fits (record { seat = seat; what = what.Back q address f from } ∷ past) (after_any_back a s q.0 address.0 f.0)) (sym legal.1.own.resident)
      (resident_back seat q address f from legal.1.state legal.1.may fits)
  back_content seat q address f from (inr legal) fits =
      subst (λ (s : ProcStatus). Fits (record { seat = seat; what = what.Back q address f from } ∷ past) (after_any_back a s q.0 address.0 f.0)) (sym legal.coming)
      (coming_back seat q address f from legal.state (ap may_come_back legal.free) fits)

  -- ---- REUSE, of the free list's head and after a failed read
  -- of a frame without flights whose page isn't changed
  reused : (seat : Seat) (f : Pfn) (x : Page) → is state.Reading (a.state f.0) ≡ false → a.modify f.0 ≡ false → writes_on f.0 flights ≡ 0
      → Fits past a → Fits (record { seat = seat; what = what.Reuse f x } ∷ past) (after_reuse past a f.0 x)
  reused seat f x not_read clear idle fits = record {
    buffers = buffers_stay config a.state b.state buffer (at_number_field (is state.Reading) a.state f.0 state.Free (sym not_read)) fits.buffers;
    homes = fits.homes;
    held = λ told. held_move (now config past) (now config past) a.page b.page a.state b.state buffer buffer f.0
        (λ h apart. (at_number_other a.page f.0 None h apart, at_number_other a.state f.0 state.Free h apart, refl, λ g holds. refl))
        (λ g holds filled. absurd (none-some g (sym (at_number_same a.page f.0 None) ∙ holds))) (fits.held told);
    lying = λ told d y g real at_home lies settled. fits.lying told d y g real at_home lies (settled_move a.page b.page a.modify b.modify flights flights f.0 g
        (λ h apart. (at_number_other a.page f.0 None h apart, at_number_other a.modify f.0 false h apart, refl)) (λ holds. (clear, idle)) settled);
    written = λ told. written_move config past (record { seat = seat; what = what.Reuse f x }) a.page b.page a.modify b.modify (λ y some writes clear_after g holds. by y g holds clear_after (cases_eq f.0 y.frame)) (fits.written told);
    copied = fits.copied;
    counted = counted_on _ (λ d. refl) fits.counted;
  }
    where
      b : Pager
      b = after_reuse past a f.0 x

      by : (y : Flight) (g : Page) → b.page y.frame ≡ Some g → b.modify y.frame ≡ false → (f.0 ≡ y.frame) ⊎ (f.0 ≡ y.frame → ⊥) → (a.modify y.frame ≡ false) × (a.page y.frame ≡ Some g) × (now config past g ≡ now config past g)
      by y g holds clear_after (inl same) = absurd (none-some g (sym (at_number_same a.page f.0 None) ∙ (ap b.page same ∙ holds)))
      by y g holds clear_after (inr apart) = (sym (at_number_other a.modify f.0 false y.frame apart) ∙ clear_after, sym (at_number_other a.page f.0 None y.frame apart) ∙ holds, refl)

  pub reuse_content : (seat : Seat) (f : Pfn) (x : Page) → IsKept config (past_view past) a → IsReuse past a seat.0 f.0 x → Fits past a → Fits (record { seat = seat; what = what.Reuse f x } ∷ past) (after_reuse past a f.0 x)
  reuse_content seat f x kept (inl legal) fits =
      let view = frame_view config (past_view past) a f.0 in
      let some = head_counts a.free f.0 legal.head in
      let row = free_row view (kept.frames f.0) some in
      reused seat f x (ap (is state.Reading) (free_frame view (kept.frames f.0) some)) row.mark row.writes fits
  reuse_content seat f x kept (inr legal) fits =
      let view = frame_view config (past_view past) a f.0 in
      let failure : FitsFailure (past_view past).failed (views config a) legal.flight = kept.failed.fits legal.flight legal.failed in
      let is_failed = failed_frame view (kept.frames f.0) (subst (λ (h : ℕ). (past_view past).failed h ≡ true) legal.frame failure.frame) in
      let row = at_state view state.ReadError is_failed (kept.frames f.0) in
      reused seat f x (ap (is state.Reading) is_failed) row.mark row.writes fits
