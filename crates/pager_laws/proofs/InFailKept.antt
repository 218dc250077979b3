-- INFAIL.
use Rattle.std.proofs.Common.{◌≡◌, ℕ, ◌+◌, ◌≤◌, Bool, true, false, cond, not, List, [], ◌∷◌, Option, Some, None, length, find, nat_eq, count_by, refl, sym, ap, ◌∙◌, subst, inl, inr, arith}
use Rattle.std.proofs.lemmas.Bool.{ne_eqb, eqb-true, eqb-false, eq-eqb, or_right}
use Rattle.std.proofs.lemmas.Option.{none-some}
use Rattle.vm_types.specs.declared.names.Pfn.{Pfn}
use Rattle.vm_types.specs.declared.names.Seat.{Seat}
use Rattle.vm_types.specs.declared.names.FrameState.TheVariants as state
use Rattle.vm_types.specs.declared.config.Config.{Config}
use Rattle.vm_journal.specs.declared.entry.Entry.{Entry}
use Rattle.vm_journal.specs.declared.entry.Role.{Role}
use Rattle.vm_journal.specs.declared.entry.What.{What}
use Rattle.vm_journal.specs.declared.entry.What.TheVariants as what
use Rattle.pager_laws.proofs.InOkKept.{fit, fits, no_reads, no_writes, reads_there, row, writes_there}
use Rattle.pager_model.specs.Around.{PastView, frame_view, past_view, quiet}
use Rattle.pager_model.specs.Flights.{Flight, begun_by, begun_in, flights_with, open_flights, reading, without_flight, writing}
use Rattle.pager_model.specs.InFail.{IsInFail, after_in_fail}
use Rattle.pager_model.specs.Pager.{Pager}
use Rattle.pager_model.specs.Sound.{is_out_state}
use Rattle.pager_model.specs.Transfers.{is_fault_of, is_on_block, starts}
use Rattle.pager_rules.proofs.Basics.{at_number_other, at_number_same, find_cons_no, find_cons_yes, nat_eq_refl}
use Rattle.pager_rules.proofs.Frames.{from_state}
use Rattle.pager_rules.proofs.Lists.{all_filter, all_found, count_filter_le, found_passes}
use Rattle.pager_rules.proofs.Pages.{swapped_frame}
use Rattle.pager_rules.proofs.Put.{unsaved_move}
use Rattle.pager_rules.proofs.Quiet.{starts_by, starts_once}
use Rattle.pager_rules.proofs.Views.{frames_move}
use Rattle.pager_rules.specs.Kept.{FitsFailure, FitsFlight, FitsFrame, IsKept, views}

-- ---- an open transfer began in the entry that it names
pub none_left : (k : ℕ) (flights : List Flight) → find (starts k) (without_flight k flights) ≡ None
none_left k [] = refl
none_left k (y ∷ flights) = go (nat_eq y.start k) refl (none_left k flights)
  where
    go : (b : Bool) → nat_eq y.start k ≡ b → find (starts k) (without_flight k flights) ≡ None → find (starts k) (cond (not b) (y ∷ without_flight k flights) (without_flight k flights)) ≡ None
    go true is rest = rest
    go false is rest = find_cons_no (starts k) y (without_flight k flights) is ∙ rest

-- what is found after a landing was found before it
found_before : (k j : ℕ) (flights : List Flight) (x : Flight) → find (starts k) (without_flight j flights) ≡ Some x → find (starts k) flights ≡ Some x
found_before k j [] x found = found
found_before k j (y ∷ flights) x found = go (nat_eq y.start j) refl (nat_eq y.start k) refl found (found_before k j flights x)
  where
    go : (b : Bool) → nat_eq y.start j ≡ b → (c : Bool) → nat_eq y.start k ≡ c → find (starts k) (cond (not b) (y ∷ without_flight j flights) (without_flight j flights)) ≡ Some x
        → (find (starts k) (without_flight j flights) ≡ Some x → find (starts k) flights ≡ Some x) → cond c (Some y) (find (starts k) flights) ≡ Some x
    go false lands true here is rest = sym (find_cons_yes (starts k) y (without_flight j flights) here) ∙ is
    go false lands false later is rest = rest (sym (find_cons_no (starts k) y (without_flight j flights) later) ∙ is)
    go true lands false later is rest = rest is
    go true lands true here is rest =
        let same : j ≡ k = sym (eqb-true _ _ lands) ∙ eqb-true _ _ here in
        let none : find (starts k) (without_flight j flights) ≡ None = subst (λ (i : ℕ). find (starts k) (without_flight i flights) ≡ None) (sym same) (none_left k flights) in
        absurd (none-some x (sym none ∙ is))

-- a number that no entry has yet
pub not_yet : (past : List Entry) (x : Flight) → find (starts (length past + 1)) (open_flights past) ≡ Some x → ⊥
not_yet past x found =
    let small = all_found (λ (y : Flight). y.start ≤ length past) (starts (length past + 1)) (open_flights past) x (starts_by past) found in
    let is : x.start ≡ length past + 1 = eqb-true _ _ (found_passes (starts (length past + 1)) (open_flights past) x found) in
    omega arith

pub begun_open : (past : List Entry) (k : ℕ) (x : Flight) → find (starts k) (open_flights past) ≡ Some x → begun_in k past ≡ Some x
begun_open [] k x found = absurd (none-some x found)
begun_open (e ∷ past) k x found = go (nat_eq k (length past + 1)) refl e.what found (begun_open past k x)
  where
    n : ℕ
    n = length past + 1

    -- the flight that begins here, or an older one
    begins : (make : ℕ → Flight) → ((m : ℕ) → (make m).start ≡ m) → (b : Bool) → nat_eq k n ≡ b → find (starts k) (make n ∷ open_flights past) ≡ Some x → (find (starts k) (open_flights past) ≡ Some x → begun_in k past ≡ Some x) → cond b (Some (make k)) (begun_in k past) ≡ Some x
    begins make start true is found rest =
        let same : k ≡ n = eqb-true k n is in
        let passes : nat_eq (make n).start k ≡ true = eq-eqb _ _ (start n ∙ sym same) in
        ap (λ (m : ℕ). Some (make m)) same ∙ (sym (find_cons_yes (starts k) (make n) (open_flights past) passes) ∙ found)
    begins make start false apart found rest =
        let fails : nat_eq (make n).start k ≡ false = ne_eqb _ _ (λ same. eqb-false k n apart (sym same ∙ start n)) in
        rest (sym (find_cons_no (starts k) (make n) (open_flights past) fails) ∙ found)

    -- none begins here
    older : (b : Bool) (o : Option Flight) → nat_eq k n ≡ b → find (starts k) (open_flights past) ≡ Some x → (find (starts k) (open_flights past) ≡ Some x → begun_in k past ≡ Some x) → cond b o (begun_in k past) ≡ Some x
    older true o is found rest = absurd (not_yet past x (subst (λ (m : ℕ). find (starts m) (open_flights past) ≡ Some x) (eqb-true k n is) found))
    older false o apart found rest = rest found

    go : (b : Bool) → nat_eq k n ≡ b → (w : What) → find (starts k) (flights_with n (e.seat).0 w (open_flights past)) ≡ Some x → (find (starts k) (open_flights past) ≡ Some x → begun_in k past ≡ Some x) → cond b (begun_by k (e.seat).0 w) (begun_in k past) ≡ Some x
    go b is (what.In f block role) found rest = begins (λ m. record { start = m; seat = (e.seat).0; frame = f.0; block = block; direction = reading role }) (λ m. refl) b is found rest
    go b is (what.Out f block) found rest = begins (λ m. record { start = m; seat = (e.seat).0; frame = f.0; block = block; direction = writing }) (λ m. refl) b is found rest
    go b is (what.InOk f j) found rest = older b None is (found_before k j (open_flights past) x found) rest
    go b is (what.InFail f j c d) found rest = older b None is (found_before k j (open_flights past) x found) rest
    go b is (what.OutOk f j) found rest = older b None is (found_before k j (open_flights past) x found) rest
    go b is (what.OutFail f j c d) found rest = older b None is (found_before k j (open_flights past) x found) rest
    go b is other found rest = older b None is found rest

module _ (config : Config) (a : Pager) (flights : List Flight) (k : ℕ) (x : Flight) (r : Role) (o : PastView)
    (kept : IsKept config (quiet flights) a) (found : find (starts k) flights ≡ Some x) (once : count_by (starts k) flights ≤ 1)
    (reads : x.direction ≡ reading r) where
  abbrev f : ℕ
  f = x.frame

  -- the past with the failure as its newest entry
  abbrev failing : PastView
  failing = record { flights = without_flight k flights; failed = λ g. nat_eq f g; failure = Some x }

  abbrev b : Pager
  b = after_in_fail a f

  old_row : FitsFrame (record (frame_view config (quiet flights) a f) { state = state.Reading })
  old_row = row config a flights k x r kept found once reads

  here : FitsFrame (frame_view config failing b f)
  here = from_state (frame_view config failing b f) state.ReadError (at_number_same a.state f state.ReadError) (record {
    bad = old_row.bad;
    on_free = old_row.on_free;
    on_modified = old_row.on_modified;
    shares = old_row.shares;
    reads = no_reads config a flights k x r kept found once reads;
    writes = no_writes config a flights k x r kept found once reads;
    failed = nat_eq_refl f;
    page = ((fit config a flights k x r kept found once reads).page, (fit config a flights k x r kept found once reads).held);
    mark = old_row.mark;
  })

  there : (h : ℕ) → (f ≡ h → ⊥) → frame_view config failing b h ≡ frame_view config (quiet flights) a h
  there h apart =
      let state_is = at_number_other a.state f state.ReadError h apart in
      let failed_is = ne_eqb f h apart in
      let reads_is = reads_there config a flights k x r kept found once reads h apart in
      let writes_is = writes_there config a flights k x r kept found once reads h apart in
      cc

  read_failed : IsKept config failing b
  read_failed = record {
    frames = frames_move FitsFrame (frame_view config (quiet flights) a) (frame_view config failing b) f there here kept.frames;
    processes = kept.processes;
    entries = kept.entries;
    valid = kept.valid;
    pages = kept.pages;
    blocks = λ d. record { owners = (kept.blocks d).owners; flights = omega (arith, count_filter_le (is_on_block d) (λ (y : Flight). not (starts k y)) flights, (kept.blocks d).flights) };
    fit = kept.fit;
    held_once = kept.held_once;
    held_charged = kept.held_charged;
    unsaved = unsaved_move config (quiet flights) failing a b f there (λ y some lies. inr (some, lies, λ held saved. (f, held, or_right (a.modify f) _ (or_right _ _ (nat_eq_refl f))))) kept.unsaved;
    swapped = swapped_frame a.lies a.status a.ring a.state b.state a.page a.page f (λ h apart. at_number_other a.state f state.ReadError h apart) (λ h apart. refl)
        (λ y q n held old. inl (ap is_out_state (at_number_same a.state f state.ReadError))) kept.swapped;
    coming_once = kept.coming_once;
    transfers = all_filter (FitsFlight (views config a)) (λ (y : Flight). not (starts k y)) flights kept.transfers;
    one_fault = λ s. omega (arith, count_filter_le (is_fault_of s) (λ (y : Flight). not (starts k y)) flights, kept.one_fault s);
    failed = record {
      found = λ g is. (x, refl, eqb-true f g is);
      fits = λ y is. subst (λ (z : Flight). FitsFailure failing.failed (views config b) z) (let same : x ≡ y = cc in same) (record {
        frame = nat_eq_refl f;
        role = r;
        reads = reads;
        page = (fit config a flights k x r kept found once reads).page;
        held = (fit config a flights k x r kept found once reads).held;
        fits = (fits config a flights k x r kept found once reads).0;
      });
    };
  }

pub in_fail_kept : (config : Config) (past : List Entry) (a : Pager) (seat : Seat) (f : Pfn) (k c d : ℕ) → IsKept config (quiet (open_flights past)) a → IsInFail past seat.0 f.0 k c d
    → IsKept config (past_view (record { seat = seat; what = what.InFail f k c d } ∷ past)) (after_in_fail a f.0)
in_fail_kept config past a seat f k c d before legal =
    let x = legal.flight in
    let kept = before in
    let done = read_failed config a (open_flights past) k x legal.role (quiet (open_flights past)) kept legal.lands.open_k (starts_once past k) legal.reads in
    subst (λ (o : Option Flight). IsKept config (record { flights = without_flight k (open_flights past); failed = λ g. nat_eq f.0 g; failure = o }) (after_in_fail a f.0)) (sym (begun_open past k x legal.lands.open_k))
    (subst (λ (h : ℕ). IsKept config (record { flights = without_flight k (open_flights past); failed = λ g. nat_eq h g; failure = Some x }) (after_in_fail a h)) legal.lands.frame done)
