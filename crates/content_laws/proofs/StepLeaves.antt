-- What each row leaves of an open flight.
use Rattle.pager_rules.proofs.Pages.{own_is}
use Rattle.pager_laws.proofs.DeleteKept.{inside_from, own_all}
use Rattle.pager_rules.proofs.Transfers.{on_frame}
use Rattle.vm_types.specs.declared.reply.Answer.TheVariants as answer
use Rattle.content_laws.proofs.ServedBytes.{served_bytes}
use Rattle.pager_model.specs.Sets.{at_number}
use Rattle.vm_types.specs.declared.service.Service.TheVariants as service
use Rattle.pager_model.specs.Maps.{page_number}
use Rattle.vm_types.specs.declared.names.ProcStatus.TheVariants as status
use Rattle.pager_laws.proofs.ReuseKept.{no_due}
use Rattle.pager_model.specs.Lookups.{IsHead, page_by}
use Rattle.vm_types.specs.declared.reply.Answer.{Answer}
use Rattle.pager_rules.proofs.Turns.{calm}
use Rattle.pager_model.specs.Back.{after_any_back}
use Rattle.vm_types.specs.declared.service.Service.{Service}
use Rattle.vm_types.specs.declared.names.BlockId.TheVariants as block
use Rattle.std.specs.List.{range_with_len, AllByRecursion}
use Rattle.pager_laws.proofs.KeptIsSound.{same_block_refl}
use Rattle.vm_journal.specs.declared.entry.Role.{Role}
use Rattle.vm_types.specs.declared.names.ProcStatus.{ProcStatus}
use Rattle.pager_model.specs.InTurn.{InTurn, is_reuse_of}
use Rattle.pager_model.specs.Forget.{range_of, own_pages, after_delete, forgotten, holds_page, forget_all, put_at, holder}
use Rattle.pager_model.specs.Served.{after_served, IsServed, IsDelete}
use Rattle.vm_journal.specs.declared.entry.What.TheVariants.{Turn}
use Rattle.std.proofs.Common.{◌≡◌, ℕ, ◌+◌, ◌<◌, ◌≤◌, Bool, true, false, cond, not, List, [], ◌∷◌, Option, Some, None, length, find, nat_eq, count_by, refl, sym, ap, ◌∙◌, subst, inl, inr, arith}
use Rattle.std.proofs.lemmas.Bool.{false≢true, eqb-true, eqb-false, ne_eqb}
use Rattle.vm_types.specs.Same.{same_block}
use Rattle.vm_types.specs.declared.names.Page.{Page}
use Rattle.vm_types.specs.declared.names.Pfn.{Pfn}
use Rattle.vm_types.specs.declared.names.Addr.{Addr}
use Rattle.vm_types.specs.declared.names.BlockId.{BlockId}
use Rattle.vm_types.specs.declared.names.Seat.{Seat}
use Rattle.vm_types.specs.declared.names.FrameState.TheVariants as state
use Rattle.vm_types.specs.declared.config.Config.{Config}
use Rattle.vm_journal.specs.declared.entry.Entry.{Entry}
use Rattle.vm_journal.specs.declared.entry.Role.TheVariants as role
use Rattle.vm_journal.specs.declared.entry.What.{What}
use Rattle.vm_journal.specs.declared.entry.What.TheVariants as what
use Rattle.page_lists.specs.Lists.{count_of}
use Rattle.content_laws.proofs.DoneBytes.{done_left}
use Rattle.content_laws.proofs.FlightLeft.{counts_open, elsewhere, left, not_home, started}
use Rattle.content_laws.specs.Stability.{LeavesFlight}
use Rattle.pager_model.specs.Around.{frame_view, past_view, quiet}
use Rattle.pager_model.specs.Bytes.{bytes_in}
use Rattle.pager_model.specs.Counted.{Counts, counts_of, is_flight_on, last_count, reads_of, writes_of}
use Rattle.pager_model.specs.Fits.{lands}
use Rattle.pager_model.specs.Flat.{FlatState}
use Rattle.pager_model.specs.Flights.{failed_flight, awaits_reuse, Direction, Flight, open_flights, reading, without_flight, writing}
use Rattle.pager_model.specs.In.{after_in, IsIn}
use Rattle.pager_model.specs.InFail.{IsInFail, after_in_fail}
use Rattle.pager_model.specs.InOk.{after_in_ok}
use Rattle.pager_model.specs.Out.{IsAnyOut, after_any_out}
use Rattle.pager_model.specs.OutLanding.{marked, IsOutFail, after_out_fail, after_out_ok}
use Rattle.pager_model.specs.Pager.{Pager}
use Rattle.pager_model.specs.Reuse.{IsReuse, after_reuse}
use Rattle.pager_model.specs.Spoken.{flat_after}
use Rattle.pager_model.specs.Step.{IsLegal, IsLegalWhat, after}
use Rattle.pager_model.specs.Transfers.{writes_on, reads_on, IsHome, is_on_block, starts}
use Rattle.pager_model.specs.Zero.{IsZero, after_zero}
use Rattle.pager_rules.proofs.Basics.{pages_equal, each_weaker, at_number_other, find_cons_no, find_cons_yes}
use Rattle.pager_rules.proofs.Frames.{at_state, failed_frame}
use Rattle.pager_rules.proofs.Lists.{found_passes, count_found, count_removed_yes}
use Rattle.pager_rules.proofs.Put.{free_row, head_counts}
use Rattle.pager_rules.proofs.Quiet.{kept_quiet, starts_once}
use Rattle.pager_rules.specs.Kept.{FitsFailure, IsKept, views}

-- ---- another landing leaves what is found
find_without : (j k : ℕ) (flights : List Flight) → nat_eq j k ≡ false → find (starts j) (without_flight k flights) ≡ find (starts j) flights
find_without j k [] apart = refl
find_without j k (y ∷ flights) apart = go (nat_eq y.start k) refl (nat_eq y.start j) refl (find_without j k flights apart)
  where
    go : (b : Bool) → nat_eq y.start k ≡ b → (c : Bool) → nat_eq y.start j ≡ c → find (starts j) (without_flight k flights) ≡ find (starts j) flights
        → find (starts j) (cond (not b) (y ∷ without_flight k flights) (without_flight k flights)) ≡ cond c (Some y) (find (starts j) flights)
    go false other true is rest = find_cons_yes (starts j) y (without_flight k flights) is
    go false other false is rest = find_cons_no (starts j) y (without_flight k flights) is ∙ rest
    go true same false is rest = rest
    go true same true is rest = absurd (eqb-false j k apart (sym (eqb-true _ _ is) ∙ eqb-true _ _ same))

in_ok_page : (a : Pager) (f : ℕ) (o : Option Flight) → (after_in_ok a f o).page ≡ a.page
in_ok_page a f None = refl
in_ok_page a f (Some y) = by y.direction
  where
    by : (d : Direction) → (after_in_ok a f (Some (record y { direction = d }))).page ≡ a.page
    by (reading (role.Fault q address)) = refl
    by (reading (role.Near near)) = refl
    by (reading (role.Come q address)) = refl
    by writing = refl

out_ok_page : (a : Pager) (f : ℕ) (o : Option Flight) → (after_out_ok a f o).page ≡ a.page
out_ok_page a f None = refl
out_ok_page a f (Some y) = refl

back_page : (a : Pager) (s : ProcStatus) (p address f : ℕ) → (after_any_back a s p address f).page ≡ a.page
back_page a status.Coming p address f = refl
back_page a other p address f = refl

-- a frame with a flight keeps its page when pages are forgotten
forgotten_page : (page : ℕ → Option Page) (o : Option ℕ) (f : ℕ) → ((h : ℕ) → o ≡ Some h → h ≡ f → ⊥) → put_at page o None f ≡ page f
forgotten_page page None f apart = refl
forgotten_page page (Some h) f apart = at_number_other page h None f (apart h refl)

pub holder_holds : (config : Config) (page : ℕ → Option Page) (g : Page) (h : ℕ) → holder config page g ≡ Some h → page h ≡ Some g
holder_holds config page g h found = go (page h) refl (found_passes (λ (f : ℕ). holds_page g (page f)) (range_with_len 0 config.frames) h found)
  where
    go : (o : Option Page) → page h ≡ o → holds_page g o ≡ true → page h ≡ Some g
    go None is holds = absurd (false≢true holds)
    go (Some y) is holds = is ∙ ap Some (pages_equal y g holds)

all_forgotten_page : (config : Config) (pages : List Page) (a : Pager) (f : ℕ) → AllByRecursion (λ (g : Page). a.page f ≡ Some g → ⊥) pages → (forget_all config pages a).page f ≡ a.page f
all_forgotten_page config [] a f none = refl
all_forgotten_page config (g ∷ pages) a f none =
    let here : (forgotten config a g).page f ≡ a.page f = forgotten_page a.page (holder config a.page g) f (λ h found same. none.0 (subst (λ (n : ℕ). a.page n ≡ Some g) same (holder_holds config a.page g h found))) in
    all_forgotten_page config pages (forgotten config a g) f (each_weaker (λ (y : Page). a.page f ≡ Some y → ⊥) (λ (y : Page). (forgotten config a g).page f ≡ Some y → ⊥) (λ y not held. not (sym here ∙ held)) pages none.1) ∙ here

deleted_page : (config : Config) (past : List Entry) (a : Pager) (p address pages f : ℕ) → IsKept config (quiet (open_flights past)) a → IsDelete config past a p address pages → 0 < reads_on f (open_flights past) + writes_on f (open_flights past)
    → (after_delete config a p address pages).page f ≡ a.page f
deleted_page config past a p address pages f kept legal busy =
    all_forgotten_page config (own_pages config a.map p (range_of address pages)) a f
    (own_all (λ (g : Page). a.page f ≡ Some g → ⊥) config a.map p (range_of address pages) (λ v g some mapped private held.
    let g_is = own_is config a.map p v g mapped private in
    omega (arith, busy, legal.not_in_flight v f (inside_from address pages v some) (held ∙ ap Some g_is))))

module _ (config : Config) (past : List Entry) (a : Pager) (x : Flight) (is_open : find (starts x.start) (open_flights past) ≡ Some x) where
  abbrev flights : List Flight
  flights = open_flights past

  -- the free list's head has no flight
  head_apart : (f : ℕ) → IsKept config (quiet flights) a → 0 < count_of a.free f → f ≡ x.frame → ⊥
  head_apart f kept some =
      let row = free_row (frame_view config (quiet flights) a f) (kept.frames f) some in
      elsewhere config past a x is_open f row.reads row.writes

  pub zero_left : (seat : Seat) (address : Addr) (f : Pfn) → IsKept config (quiet (open_flights past)) a → IsZero config a seat.0 address.0 f.0 → LeavesFlight config past a (record { seat = seat; what = what.Zero address f }) x
  zero_left seat address f before legal g held =
      left config past a x is_open (record { seat = seat; what = what.Zero address f }) (after_zero config a seat.0 address.0 f.0) g refl
      (at_number_other a.page f.0 _ x.frame (head_apart f.0 before (head_counts a.free f.0 legal.frame.head)))
      (λ reads. refl) refl

  reused_apart : (f : ℕ) (g : Page) (seat : ℕ) → IsKept config (past_view past) a → (awaits_reuse past ≡ true → is_reuse_of (what.Reuse (record { 0 = f }) g) seat (failed_flight past) ≡ true) → IsReuse past a seat f g → f ≡ x.frame → ⊥
  reused_apart f g seat before turn (inl legal) = head_apart f (kept_quiet config past a (no_due config past a seat f g before turn legal) before) (head_counts a.free f legal.head)
  reused_apart f g seat before turn (inr legal) =
      let failure : FitsFailure (past_view past).failed (views config a) legal.flight = before.failed.fits legal.flight legal.failed in
      let row = at_state (frame_view config (past_view past) a f) state.ReadError
      (failed_frame (frame_view config (past_view past) a f) (before.frames f) (subst (λ (h : ℕ). (past_view past).failed h ≡ true) legal.frame failure.frame)) (before.frames f) in
      elsewhere config past a x is_open f row.reads row.writes

  pub reuse_left : (seat : Seat) (f : Pfn) (y : Page) → IsKept config (past_view past) a → (awaits_reuse past ≡ true → is_reuse_of (what.Reuse f y) seat.0 (failed_flight past) ≡ true) → IsReuse past a seat.0 f.0 y
      → LeavesFlight config past a (record { seat = seat; what = what.Reuse f y }) x
  reuse_left seat f y before turn legal g held =
      left config past a x is_open (record { seat = seat; what = what.Reuse f y }) (after_reuse past a f.0 y) g refl
      (at_number_other a.page f.0 None x.frame (reused_apart f.0 y seat.0 before turn legal)) (λ reads. refl) refl

  -- ---- a flight that begins
  later : nat_eq (length past + 1) x.start ≡ false
  later = ne_eqb _ _ (λ same. omega (arith, started past x is_open))

  abbrev counted_in : Bool → Counts
  counted_in c = record { reads = cond c (reads_of x.block past + 1) (reads_of x.block past); writes = writes_of x.block past; faults = last_count x.block past }

  -- a read begins in the empty frame at the free list's head
  begun_in_left : (seat : Seat) (f : Pfn) (b : BlockId) (r : Role) (o : Option Page) → IsKept config (quiet (open_flights past)) a → IsHome config b flights → IsHead a.free f.0 → (after_in config a f.0 r).page ≡ at_number a.page f.0 o
      → LeavesFlight config past a (record { seat = seat; what = what.In f b r }) x
  begun_in_left seat f b r o before home head page g held =
      left config past a x is_open (record { seat = seat; what = what.In f b r }) (after_in config a f.0 r) g
      (find_cons_no (starts x.start) _ flights later)
      (ap (λ (p : ℕ → Option Page). p x.frame) page ∙ at_number_other a.page f.0 o x.frame (head_apart f.0 before (head_counts a.free f.0 head)))
      (λ reads. refl)
      (ap (λ (c : Bool). counted_in c) (not_home config past a x is_open b home))

  pub in_left : (seat : Seat) (f : Pfn) (b : BlockId) (r : Role) → IsKept config (quiet (open_flights past)) a → IsIn r config past a seat.0 f.0 b → LeavesFlight config past a (record { seat = seat; what = what.In f b r }) x
  in_left seat f b (role.Fault q address) before legal = begun_in_left seat f b (role.Fault q address) (page_by config a.map q.0 (page_number address.0)) before legal.home legal.frame.head refl
  in_left seat f b (role.Near y) before legal = begun_in_left seat f b (role.Near y) (Some y) before legal.lying.home legal.lying.frame.head refl
  in_left seat f b (role.Come q address) before legal = begun_in_left seat f b (role.Come q address) (page_by config a.map q.0 (page_number address.0)) before legal.lying.home legal.lying.frame.head refl

  abbrev counted_out : Bool → Counts
  counted_out c = record { reads = reads_of x.block past; writes = cond c (writes_of x.block past + 1) (writes_of x.block past); faults = last_count x.block past }

  out_page : (f : ℕ) (b : BlockId) → (after_any_out a f b).page ≡ a.page
  out_page f (block.Swap p n) = refl
  out_page f other = refl

  begun_out_left : (seat : Seat) (f : Pfn) (b : BlockId) → IsHome config b flights → LeavesFlight config past a (record { seat = seat; what = what.Out f b }) x
  begun_out_left seat f b home g held =
      left config past a x is_open (record { seat = seat; what = what.Out f b }) (after_any_out a f.0 b) g
      (find_cons_no (starts x.start) _ flights later) (ap (λ (p : ℕ → Option Page). p x.frame) (out_page f.0 b)) (λ reads. refl)
      (ap (λ (c : Bool). counted_out c) (not_home config past a x is_open b home))

  pub out_left : (seat : Seat) (f : Pfn) (b : BlockId) → IsAnyOut config past a f.0 b → LeavesFlight config past a (record { seat = seat; what = what.Out f b }) x
  out_left seat f b (inl legal) = begun_out_left seat f b legal.home
  out_left seat f b (inr legal) = begun_out_left seat f b legal.home

  -- ---- another flight that lands
  pub in_ok_left : (seat : Seat) (f : Pfn) (k : ℕ) → lands x.start (what.InOk f k) ≡ false → LeavesFlight config past a (record { seat = seat; what = what.InOk f k }) x
  in_ok_left seat f k other g held =
      left config past a x is_open (record { seat = seat; what = what.InOk f k }) (after_in_ok a f.0 (find (starts k) flights)) g
      (find_without x.start k flights other) (ap (λ (page : ℕ → Option Page). page x.frame) (in_ok_page a f.0 (find (starts k) flights))) (λ reads. refl) refl

  pub out_ok_left : (seat : Seat) (f : Pfn) (k : ℕ) → lands x.start (what.OutOk f k) ≡ false → LeavesFlight config past a (record { seat = seat; what = what.OutOk f k }) x
  out_ok_left seat f k other g held =
      left config past a x is_open (record { seat = seat; what = what.OutOk f k }) (after_out_ok a f.0 (find (starts k) flights)) g
      (find_without x.start k flights other) (ap (λ (page : ℕ → Option Page). page x.frame) (out_ok_page a f.0 (find (starts k) flights))) (λ reads. refl) refl

  -- no other flight is on its block
  alone : (k : ℕ) (y : Flight) → find (starts k) flights ≡ Some y → nat_eq x.start k ≡ false → count_by (is_on_block x.block) flights ≤ 1 → same_block x.block x.block ≡ true → same_block x.block y.block ≡ false
  alone k y found other once itself = go (same_block x.block y.block) refl
    where
      go : (c : Bool) → same_block x.block y.block ≡ c → same_block x.block y.block ≡ false
      go false is = is
      go true is = absurd (omega (
        arith,
        count_removed_yes (is_on_block x.block) (starts k) flights y found (starts_once past k) is,
        count_found (is_on_block x.block) (starts x.start) (without_flight k flights) x (find_without x.start k flights other ∙ is_open) itself,
      ))

  pub in_fail_left : (seat : Seat) (f : Pfn) (k c d : ℕ) → IsKept config (quiet (open_flights past)) a → IsInFail past seat.0 f.0 k c d → lands x.start (what.InFail f k c d) ≡ false → LeavesFlight config past a (record { seat = seat; what = what.InFail f k c d }) x
  in_fail_left seat f k c d before legal other g held =
      left config past a x is_open (record { seat = seat; what = what.InFail f k c d }) (after_in_fail a f.0) g
      (find_without x.start k flights other) refl (λ reads. refl)
      (ap (λ (o : Option Flight). counted (is_flight_on x.block o)) legal.lands.open_k
      ∙ ap (λ (b : Bool). counted b) (alone k legal.flight legal.lands.open_k other (before.blocks x.block).flights (same_block_refl x.block)))
    where
      counted : Bool → Counts
      counted b = record { reads = reads_of x.block past; writes = writes_of x.block past; faults = cond b d (last_count x.block past) }

  out_fail_page : (f : ℕ) (o : Option Flight) → (after_out_fail a f o).page ≡ a.page
  out_fail_page f o = out_ok_page (marked a f) f o

  pub out_fail_left : (seat : Seat) (f : Pfn) (k c d : ℕ) → IsKept config (quiet (open_flights past)) a → IsOutFail past seat.0 f.0 k c d → lands x.start (what.OutFail f k c d) ≡ false
      → LeavesFlight config past a (record { seat = seat; what = what.OutFail f k c d }) x
  out_fail_left seat f k c d before legal other g held =
      left config past a x is_open (record { seat = seat; what = what.OutFail f k c d }) (after_out_fail a f.0 (find (starts k) flights)) g
      (find_without x.start k flights other) (ap (λ (page : ℕ → Option Page). page x.frame) (out_fail_page f.0 (find (starts k) flights))) (λ reads. refl)
      (ap (λ (o : Option Flight). counted (is_flight_on x.block o)) legal.write.lands.open_k
      ∙ ap (λ (b : Bool). counted b) (alone k legal.write.flight legal.write.lands.open_k other (before.blocks x.block).flights (same_block_refl x.block)))
    where
      counted : Bool → Counts
      counted b = record { reads = reads_of x.block past; writes = writes_of x.block past; faults = cond b d (last_count x.block past) }

  served_page : (p : ℕ) (s : Service) (w : Answer) → IsServed config past a p s w → IsKept config (quiet (open_flights past)) a → (after_served config a p s w).page x.frame ≡ a.page x.frame
  served_page p (service.Create at pages prot) answer.Good legal kept = refl
  served_page p (service.Delete at pages) answer.Good legal kept = deleted_page config past a p at.0 pages x.frame kept legal.1 (on_frame x flights (counts_open past x is_open) x.frame refl)
  served_page p (service.Protect at pages prot) answer.Good legal kept = refl
  served_page p (service.Lock at pages) (answer.Count n) legal kept = refl
  served_page p (service.Unlock at pages) (answer.Count n) legal kept = refl
  served_page p (service.Pin at pages) (answer.Count n) legal kept = refl
  served_page p (service.Unpin at pages) (answer.Count n) legal kept = refl
  served_page p (service.Adjust n) answer.Good legal kept = refl
  served_page p s other legal kept = refl

  pub served_left : (seat : Seat) (s : Service) (w : Answer) → IsKept config (quiet (open_flights past)) a → IsServed config past a seat.0 s w
      → LeavesFlight config past a (record { seat = seat; what = what.Served s w }) x
  served_left seat s w kept legal g held =
      left config past a x is_open (record { seat = seat; what = what.Served s w }) (after_served config a seat.0 s w) g refl (served_page seat.0 s w legal kept)
      (λ reads. served_bytes config past a (flat_after config past) kept x.frame seat.0 s w g legal (on_frame x flights (counts_open past x is_open) x.frame refl) held) refl

  pub same_left : (e : Entry) → find (starts x.start) (open_flights (e ∷ past)) ≡ find (starts x.start) flights → (after config past a e).page ≡ a.page → flat_after config (e ∷ past) ≡ flat_after config past → counts_of x.block (e ∷ past) ≡ counts_of x.block past → LeavesFlight config past a e x
  same_left e found page flat counts g held = left config past a x is_open e (after config past a e) g found (ap (λ (p : ℕ → Option Page). p x.frame) page) (λ reads. ap (λ (s : FlatState). bytes_in config s g) flat) counts

  -- ---- the table
  abbrev entry : Seat → What → Entry
  entry seat w = record { seat = seat; what = w }

  row_leaves : (seat : Seat) (w : What) → IsKept config (past_view past) a → a.map ≡ (flat_after config past).map → InTurn config past (entry seat w) → IsLegalWhat config past a seat.0 w → lands x.start w ≡ false
      → LeavesFlight config past a (entry seat w) x
  row_leaves seat (what.Done r answer) kept maps turn legal other = done_left config past a x is_open seat r answer (calm config past a (entry seat (what.Done r answer)) turn refl kept) maps legal
  row_leaves seat (what.Denied r reason) kept maps turn legal other = same_left (entry seat (what.Denied r reason)) refl refl refl refl
  row_leaves seat (what.Served s w) kept maps turn legal other = served_left seat s w (calm config past a (entry seat (what.Served s w)) turn refl kept) legal
  row_leaves seat (what.Reuse f g) kept maps turn legal other = reuse_left seat f g kept turn.reuse legal
  row_leaves seat (what.Zero address f) kept maps turn legal other = zero_left seat address f (calm config past a (entry seat (what.Zero address f)) turn refl kept) legal
  row_leaves seat (what.Back q address f from) kept maps turn legal other = same_left (entry seat (what.Back q address f from)) refl (back_page a (a.status q.0) q.0 address.0 f.0) refl refl
  row_leaves seat (what.Collide address f k) kept maps turn legal other = same_left (entry seat (what.Collide address f k)) refl refl refl refl
  row_leaves seat (what.In f b r) kept maps turn legal other = in_left seat f b r (calm config past a (entry seat (what.In f b r)) turn refl kept) legal
  row_leaves seat (what.InOk f k) kept maps turn legal other = in_ok_left seat f k other
  row_leaves seat (what.InFail f k c d) kept maps turn legal other = in_fail_left seat f k c d (calm config past a (entry seat (what.InFail f k c d)) turn refl kept) legal other
  row_leaves seat (what.Out f b) kept maps turn legal other = out_left seat f b legal
  row_leaves seat (what.OutOk f k) kept maps turn legal other = out_ok_left seat f k other
  row_leaves seat (what.OutFail f k c d) kept maps turn legal other = out_fail_left seat f k c d (calm config past a (entry seat (what.OutFail f k c d)) turn refl kept) legal other
  row_leaves seat (what.Evict q address f why to) kept maps turn legal other = same_left (entry seat (what.Evict q address f why to)) refl refl refl refl
  row_leaves seat (what.Limit n faults) kept maps turn legal other = same_left (entry seat (what.Limit n faults)) refl refl refl refl
  row_leaves seat (what.Turn q s) kept maps turn legal other = same_left (entry seat (what.Turn q s)) refl refl refl refl

  pub step_leaves : (e : Entry) → IsKept config (past_view past) a → a.map ≡ (flat_after config past).map → IsLegal config past a e → lands x.start e.what ≡ false → LeavesFlight config past a e x
  step_leaves e kept maps legal other = row_leaves e.seat e.what kept maps legal.in_turn legal.row other
