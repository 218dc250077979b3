-- Content along OUT: the block goes away, and the write has the page's bytes of now; and the lift that then begins fits.
use Rattle.std.proofs.Common.{◌≡◌, ◌⊎◌, ℕ, ◌+◌, ◌<◌, ◌&&◌, Bool, true, false, cond, List, [], ◌∷◌, Option, Some, None, length, count_by, refl, sym, ap, ◌∙◌, subst, inl, inr, arith}
use Rattle.std.proofs.lemmas.Bool.{and_from, le-ltb, lt-ltb, ne_eqb, true≢false}
use Rattle.std.proofs.lemmas.Option.{none-some, same_Some}
use Rattle.vm_types.specs.BlockView.{BlockView}
use Rattle.vm_types.specs.declared.names.Page.{Page}
use Rattle.vm_types.specs.declared.names.Pfn.{Pfn}
use Rattle.vm_types.specs.declared.names.BlockId.{BlockId}
use Rattle.vm_types.specs.declared.names.BlockId.TheVariants as block
use Rattle.vm_types.specs.declared.names.Seat.{Seat}
use Rattle.vm_types.specs.declared.names.FrameState.{FrameState}
use Rattle.vm_types.specs.declared.names.FrameState.TheVariants as state
use Rattle.vm_types.specs.declared.config.Config.{Config}
use Rattle.vm_journal.specs.declared.entry.Entry.{Entry}
use Rattle.vm_journal.specs.declared.entry.What.TheVariants as what
use Rattle.content_laws.proofs.BlockMoved.{at_home, blocks_apart, copied_put, counted_put, homes_begun}
use Rattle.content_laws.proofs.DoneBytes.{at_page_of}
use Rattle.content_laws.proofs.FrameChanged.{buffers_stay, held_move, settled_move, written_move}
use Rattle.content_laws.specs.Begun.{write_lift}
use Rattle.content_laws.specs.Put.{PutsBlock}
use Rattle.pager_laws.proofs.KeptIsSound.{same_block_refl}
use Rattle.pager_model.specs.Around.{frame_view, quiet}
use Rattle.pager_model.specs.Bytes.{before, bytes_in, now}
use Rattle.pager_model.specs.Content.{ContentFits, has_bytes}
use Rattle.pager_model.specs.Counted.{Counts, last_count, reads_of, writes_of}
use Rattle.pager_model.specs.Fits.{FitsLift}
use Rattle.pager_model.specs.Flights.{Flight, open_flights, writing}
use Rattle.pager_model.specs.Lookups.{is}
use Rattle.pager_model.specs.Out.{IsAnyOut, after_any_out, after_out}
use Rattle.pager_model.specs.Pager.{Assigned, Pager}
use Rattle.pager_model.specs.Sets.{at_number}
use Rattle.pager_model.specs.Spoken.{flat_after}
use Rattle.pager_model.specs.CountedBlock.{HasCounts, IsCountedBlock}
use Rattle.pager_model.specs.Transfers.{is_write_on, reads_on, starts, writes_on}
use Rattle.pager_rules.proofs.Basics.{at_number_other, count_cons_no, count_cons_yes, find_cons_yes, nat_eq_refl}
use Rattle.pager_rules.proofs.Frames.{modified_frame}
use Rattle.pager_rules.proofs.Put.{head_counts, modified_row}
use Rattle.pager_rules.proofs.TouchedPages.{at_number_field}
use Rattle.pager_rules.proofs.Transfers.{on_frame}
use Rattle.pager_rules.specs.Kept.{IsKept}

before_all : (k : ℕ) (past : List Entry) → length past < k → before k past ≡ past
before_all k [] more = refl
before_all k (e ∷ past) more = ap (λ (b : Bool). cond b (e ∷ past) (before k past)) (lt-ltb (length past + 1) k (omega (arith, more)))

-- before the newest entry stands the past
pub before_newest : (e : Entry) (past : List Entry) → before (length past + 1) (e ∷ past) ≡ past
before_newest e past = ap (λ (c : Bool). cond c (e ∷ past) (before (length past + 1) past)) (le-ltb (length past + 1) (length past + 1) (omega arith)) ∙ before_all (length past + 1) past (omega arith)

-- a frame that is to be written: it has its buffer, and no flight is open on it
record MayBeWritten (past : List Entry) (a : Pager) (f : ℕ) : Type 0 where
  pub filled : has_bytes (a.state f) ≡ true
  pub not_read : is state.Reading (a.state f) ≡ false
  pub still : reads_on f (open_flights past) + writes_on f (open_flights past) ≡ 0

may_be_written : (config : Config) (past : List Entry) (a : Pager) (f : ℕ) (d : BlockId) → IsKept config (quiet (open_flights past)) a → IsAnyOut config past a f d → MayBeWritten past a f
may_be_written config past a f d kept (inl legal) =
    let view = frame_view config (quiet (open_flights past)) a f in
    let some = head_counts a.modified f legal.head in
    let was = modified_frame view (kept.frames f) some in
    let row = modified_row view (kept.frames f) some in
    record { filled = ap has_bytes was; not_read = ap (is state.Reading) was; still = omega (arith, row.reads, row.writes) }
may_be_written config past a f d kept (inr legal) =
    let was : a.state f ≡ state.Active = subst (λ (n : ℕ). a.state n ≡ state.Active) legal.frame (at_page_of config past a legal.p legal.v legal.entry kept legal.valid).state in
    record { filled = ap has_bytes was; not_read = ap (is state.Reading) was; still = legal.still }

module _ (tells tells_plan : Bool) (config : Config) (past : List Entry) (a : Pager) (buffer : ℕ → Option (List ℕ)) (home : BlockId → Option BlockView) (fits : ContentFits tells tells_plan config past a buffer home)
    (seat : Seat) (f : Pfn) (d : BlockId) (may : MayBeWritten past a f.0) where
  abbrev flights : List Flight
  flights = open_flights past

  abbrev n : ℕ
  n = f.0

  abbrev e : Entry
  e = record { seat = seat; what = what.Out f d }

  abbrev begun : Flight
  begun = record { start = length past + 1; seat = seat.0; frame = n; block = d; direction = writing }

  abbrev b : (ℕ → FrameState) → List ℕ → List Assigned → Pager
  b state_of modified assigned = record a { state = state_of; modify = at_number a.modify n false; modified = modified; assigned = assigned }

  abbrev counts_with : BlockId → Bool → Counts
  counts_with c same = record { reads = reads_of c past; writes = cond same (writes_of c past + 1) (writes_of c past); faults = last_count c past }

  begins : (state_of : ℕ → FrameState) (modified : List ℕ) (assigned : List Assigned) → ((h : ℕ) → is state.Reading (state_of h) ≡ is state.Reading (a.state h)) → ((h : ℕ) → (n ≡ h → ⊥) → state_of h ≡ a.state h)
      → (home' : BlockId → Option BlockView) → PutsBlock d None home home' → ContentFits tells tells_plan config (e ∷ past) (b state_of modified assigned) buffer home'
  begins state_of modified assigned reads others home' away = record {
    buffers = buffers_stay config a.state state_of buffer reads fits.buffers;
    homes = homes_begun config home home' begun flights away fits.homes;
    held = λ told. held_move (now config past) (now config past) a.page a.page a.state state_of buffer buffer n (λ h apart. (refl, others h apart, refl, λ g holds. refl)) (λ g holds filled. fits.held told n g holds may.filled) (fits.held told);
    lying = λ told c y g real at lies settled. fits.lying told c y g real (still c y at) lies
        (settled_move a.page a.page a.modify modify flights (begun ∷ flights) n g
        (λ h apart. (refl, at_number_other a.modify n false h apart, count_cons_no (is_write_on h) begun flights (ap (λ (c : Bool). c && true) (ne_eqb n h apart))))
        (λ holds. absurd (omega (arith, (settled n holds).1, count_cons_yes (is_write_on n) begun flights (and_from _ _ (nat_eq_refl n) refl)))) settled);
    written = λ told. (
      λ writes clear g holds. ap (λ (p : List Entry). bytes_in config (flat_after config p) g) (sym (before_newest e past)),
      written_move config past e a.page a.page a.modify modify (λ y some writes clear g holds. (sym (at_number_other a.modify n false y.frame (elsewhere y some)) ∙ clear, holds, refl)) (fits.written told),
    );
    copied = λ told. copied_put config home home' d None away (λ s i y is none unshared. absurd (none-some y none)) (fits.copied told);
    counted = counted_put config home home' d None away tells_plan past (e ∷ past) (λ c apart. ap (counts_with c) (blocks_apart d c apart)) (λ y none. absurd (none-some y none)) fits.counted;
  }
    where
      modify : ℕ → Bool
      modify = at_number a.modify n false

      elsewhere : (y : Flight) → ((t : Flight → Bool) → t y ≡ true → 0 < count_by t flights) → n ≡ y.frame → ⊥
      elsewhere y some same = omega (arith, may.still, on_frame y flights some n (sym same))

      still : (c : BlockId) (y : BlockView) → home' c ≡ Some y → home c ≡ Some y
      still c y at = go (at_home config home home' d None away c y at)
        where
          go : ((d ≡ c) × (None ≡ Some y)) ⊎ ((d ≡ c → ⊥) × (home c ≡ Some y)) → home c ≡ Some y
          go (inl mine) = absurd (none-some y mine.1)
          go (inr theirs) = theirs.1

  -- the lift: its buffer has the bytes that the page has now, and its write is still to come
  lift_begins : (page : Page) (y : BlockView) (bytes : List ℕ) → a.page n ≡ Some page → buffer n ≡ Some bytes → home d ≡ Some y → FitsLift tells tells_plan config (e ∷ past) (b a.state a.modified a.assigned) (write_lift past n d page bytes y)
  lift_begins page y bytes holds has at = (
    begun,
    record {
      flight = record { start = refl; frame = refl; block = refl; direction = refl };
      found_x = find_cons_yes (starts (length past + 1)) begun flights (nat_eq_refl (length past + 1));
      held_page = holds;
      content = λ told reads. absurd (true≢false (sym reads));
      buffer = λ told writes. same_Some _ _ (sym has ∙ fits.held told n page holds may.filled) ∙ ap (λ (p : List Entry). bytes_in config (flat_after config p) page) (sym (before_newest e past));
      plan_is = old.plan;
      result = subst (λ (c : Counts). HasCounts y c 0 1 × (y.faults ≡ c.faults)) (sym (ap (counts_with d) (same_block_refl d)))
          (record { reads = old.counts.reads; writes = omega (arith, old.counts.writes) }, old.faults);
    },
  )
    where
      old : IsCountedBlock tells_plan config past d y
      old = fits.counted d y at

  listed : (home' : BlockId → Option BlockView) → PutsBlock d None home home' → ContentFits tells tells_plan config (e ∷ past) (after_out a n d) buffer home'
  listed home' away = begins (at_number a.state n state.Writing) _ _ (at_number_field (is state.Reading) a.state n state.Writing (sym may.not_read)) (λ h apart. at_number_other a.state n state.Writing h apart) home' away

  swapped : (home' : BlockId → Option BlockView) → PutsBlock d None home home' → ContentFits tells tells_plan config (e ∷ past) (record a { modify = at_number a.modify n false }) buffer home'
  swapped home' away = begins a.state a.modified a.assigned (λ h. refl) (λ h apart. refl) home' away

-- ---- OUT, of a listed page and of a leaving process's
module _ (tells tells_plan : Bool) (config : Config) (past : List Entry) (a : Pager) (buffer : ℕ → Option (List ℕ)) (home : BlockId → Option BlockView) (kept : IsKept config (quiet (open_flights past)) a) (seat : Seat) (f : Pfn) where
  pub out_content : (d : BlockId) (home' : BlockId → Option BlockView) → IsAnyOut config past a f.0 d → PutsBlock d None home home' → ContentFits tells tells_plan config past a buffer home
      → ContentFits tells tells_plan config (record { seat = seat; what = what.Out f d } ∷ past) (after_any_out a f.0 d) buffer home'
  out_content (block.Swap p m) home' legal away fits = swapped tells tells_plan config past a buffer home fits seat f (block.Swap p m) (may_be_written config past a f.0 (block.Swap p m) kept legal) home' away
  out_content (block.PageFile m) home' legal away fits = listed tells tells_plan config past a buffer home fits seat f (block.PageFile m) (may_be_written config past a f.0 (block.PageFile m) kept legal) home' away
  out_content (block.Section s i) home' legal away fits = listed tells tells_plan config past a buffer home fits seat f (block.Section s i) (may_be_written config past a f.0 (block.Section s i) kept legal) home' away

  pub out_begins : (d : BlockId) (page : Page) (y : BlockView) (bytes : List ℕ) → IsAnyOut config past a f.0 d → a.page f.0 ≡ Some page → buffer f.0 ≡ Some bytes → home d ≡ Some y → ContentFits tells tells_plan config past a buffer home
      → FitsLift tells tells_plan config (record { seat = seat; what = what.Out f d } ∷ past) (after_any_out a f.0 d) (write_lift past f.0 d page bytes y)
  out_begins (block.Swap p m) page y bytes legal holds has at fits = lift_begins tells tells_plan config past a buffer home fits seat f (block.Swap p m) (may_be_written config past a f.0 (block.Swap p m) kept legal) page y bytes holds has at
  out_begins (block.PageFile m) page y bytes legal holds has at fits = lift_begins tells tells_plan config past a buffer home fits seat f (block.PageFile m) (may_be_written config past a f.0 (block.PageFile m) kept legal) page y bytes holds has at
  out_begins (block.Section s i) page y bytes legal holds has at fits = lift_begins tells tells_plan config past a buffer home fits seat f (block.Section s i) (may_be_written config past a f.0 (block.Section s i) kept legal) page y bytes holds has at
