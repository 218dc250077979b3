-- Open flights while something changes for one resident process.
use Rattle.std.proofs.Common.{◌≡◌, ℕ, ◌+◌, ◌<◌, Bool, true, false, not, List, Option, Some, nat_eq, count_by, slice_get, refl, sym, ap, ◌∙◌, subst, subst₂, inl, inr, arith}
use Rattle.std.specs.List.{AllByRecursion}
use Rattle.std.proofs.lemmas.Bool.{false≢true, true≢false, and_from, and_left, eq-eqb}
use Rattle.vm_types.specs.Ring.{Held, filled}
use Rattle.vm_types.specs.declared.names.Page.{Page}
use Rattle.vm_types.specs.declared.names.Proc.{Proc}
use Rattle.vm_types.specs.declared.names.Addr.{Addr}
use Rattle.vm_types.specs.declared.names.BlockId.TheVariants as block
use Rattle.vm_types.specs.declared.names.ProcStatus.TheVariants as status
use Rattle.vm_journal.specs.declared.entry.Role.{Role}
use Rattle.vm_journal.specs.declared.entry.Role.TheVariants as role
use Rattle.pager_model.specs.Around.{EntryView, PageView, ProcessView}
use Rattle.pager_model.specs.Flights.{Direction, Flight, is_busy, is_reading, reading, writing}
use Rattle.pager_model.specs.Lookups.{is}
use Rattle.pager_model.specs.Maps.{page_number}
use Rattle.pager_model.specs.Transfers.{is_fault, is_fault_of, is_read_on, is_write_on, reads_on, writes_on}
use Rattle.pager_rules.proofs.Basics.{count_none, nat_eq_refl}
use Rattle.pager_rules.proofs.Lists.{all_step}
use Rattle.pager_rules.proofs.Turns.{idle}
use Rattle.pager_rules.specs.Kept.{FitsDirection, FitsFlight, FitsRead, FitsRole, FitsWrite, IsSwapWrite, Views}

-- all but process p is as it was, but for what it has mapped where it isn't coming, and p is not leaving
pub record IsApart (v w : Views) (p : ℕ) : Type 0 where
  pub not_leaving : (v.process p).status ≡ status.Leaving → ⊥
  pub mapped : (q u : ℕ) → (p ≡ q → (v.process q).status ≡ status.Coming) → (w.entry q u).mapped ≡ (v.entry q u).mapped
  pub status : (q : ℕ) → (w.process q).status ≡ (v.process q).status
  pub process : (q : ℕ) → (p ≡ q → ⊥) → w.process q ≡ v.process q
  pub entries : (q u : ℕ) → (p ≡ q → ⊥) → (w.entry q u).entries ≡ (v.entry q u).entries

-- what a flight in this direction reads of its page is as it was
pub record IsAlike (d : Direction) (old new : PageView) : Type 0 where
  pub read : is_reading d ≡ true → new ≡ old
  pub paged : new.paged ≡ old.paged
  pub lies : new.lies ≡ old.lies
  pub block : new.block ≡ old.block

pub alike : (d : Direction) (old new : PageView) → new ≡ old → IsAlike d old new
alike d old new same = record { read = λ reads. same; paged = λ i. (same i).paged; lies = λ i. (same i).lies; block = λ i. (same i).block }

module _ (v w : Views) (p : ℕ) (apart : IsApart v w p) where
  role_apart : (x : Flight) (g : Page) (r : Role) → (is_fault (reading r) ≡ true → p ≡ x.seat → ⊥) → FitsRole x g v.process v.entry r → FitsRole x g w.process w.entry r
  role_apart x g (role.Fault q address) other fits =
      let far : (p ≡ q.0 → ⊥) = λ same. other refl (same ∙ sym fits.0) in
      let same = apart.process q.0 far in (
        fits.0,
        apart.status q.0 ∙ fits.1,
        apart.mapped q.0 (page_number address.0) (λ same. absurd (far same)) ∙ fits.2,
        apart.entries q.0 (page_number address.0) far ∙ fits.3,
        subst (λ (y : ProcessView). filled y.ring.slots < y.limit) (sym same) fits.4,
      )
  role_apart x g (role.Near near) other fits = fits
  role_apart x g (role.Come q address) other fits = (apart.status q.0 ∙ fits.0, apart.mapped q.0 (page_number address.0) (λ same. fits.0) ∙ fits.1, fits.2)

  write_apart : (x : Flight) (g : Page) (old new : PageView) → IsAlike x.direction old new → FitsWrite x g old v.process → FitsWrite x g new w.process
  write_apart x g old new alike (inl section) = inl (alike.paged ∙ section.0, alike.lies ∙ section.1)
  write_apart x g old new alike (inr (inl file)) = inr (inl (file.0, alike.block ∙ file.1, file.2))
  write_apart x g old new alike (inr (inr swap)) =
      let far : (p ≡ swap.p → ⊥) = λ same. apart.not_leaving (ap (λ (q : ℕ). (v.process q).status) same ∙ swap.leaving) in
      inr (inr (record {
        p = swap.p;
        n = swap.n;
        block = swap.block;
        own = swap.own;
        leaving = apart.status swap.p ∙ swap.leaving;
        held = swap.held;
        slot = subst (λ (y : ProcessView). slice_get y.ring.slots swap.n ≡ Some (Some swap.held)) (sym (apart.process swap.p far)) swap.slot;
        fits = swap.fits;
        unpinned = swap.unpinned;
      }))

  direction_apart : (x : Flight) (g : Page) (old new : PageView) (d : Direction) → x.direction ≡ d → IsAlike x.direction old new → (is_fault d ≡ true → p ≡ x.seat → ⊥) → FitsDirection x g old v.process v.entry d → FitsDirection x g new w.process w.entry d
  direction_apart x g old new (reading r) is alike other fits = (subst (FitsRead x r g) (sym (alike.read (ap is_reading is))) fits.0, role_apart x g r other fits.1)
  direction_apart x g old new writing is alike other fits = write_apart x g old new alike fits

  -- with the frame's page, and what is around that page, as they were
  pub flight_apart : (x : Flight) → (is_fault_of p x ≡ false) → w.held x.frame ≡ v.held x.frame → ((g : Page) → v.held x.frame ≡ Some g → IsAlike x.direction (v.page g) (w.page g)) → FitsFlight v x → FitsFlight w x
  flight_apart x other held page fits =
      record {
        page = fits.page;
        held = held ∙ fits.held;
        fits = direction_apart x fits.page (v.page fits.page) (w.page fits.page) x.direction refl (page fits.page fits.held) not_p fits.fits;
      }
    where
      not_p : is_fault x.direction ≡ true → p ≡ x.seat → ⊥
      not_p fault same = true≢false (sym (and_from (nat_eq x.seat p) (is_fault x.direction) (subst (λ (s : ℕ). nat_eq x.seat s ≡ true) (sym same) (nat_eq_refl x.seat)) fault) ∙ other)

-- where the seat of p has no flight
pub transfers_idle : (v w : Views) (p : ℕ) → IsApart v w p → (flights : List Flight) → is_busy p flights ≡ false
    → ((x : Flight) → ((t : Flight → Bool) → t x ≡ true → 0 < count_by t flights) → FitsFlight v x → (w.held x.frame ≡ v.held x.frame) × ((g : Page) → v.held x.frame ≡ Some g → IsAlike x.direction (v.page g) (w.page g)))
    → AllByRecursion (FitsFlight v) flights → AllByRecursion (FitsFlight w) flights
transfers_idle v w p apart flights idle same all =
    all_step (FitsFlight v) (FitsFlight w) flights
    (λ x counts fits. flight_apart v w p apart x (and_left (nat_eq x.seat p) (is_fault x.direction) (not_p x counts (nat_eq x.seat p) refl)) (same x counts fits).0 (same x counts fits).1 fits)
    all
  where
    not_p : (x : Flight) → ((t : Flight → Bool) → t x ≡ true → 0 < count_by t flights) → (c : Bool) → nat_eq x.seat p ≡ c → nat_eq x.seat p ≡ false
    not_p x counts false is = is
    not_p x counts true is = absurd (omega (arith, counts (λ (y : Flight). nat_eq y.seat p) is, count_none (λ (y : Flight). nat_eq y.seat p) flights idle))

-- where nothing changes but for the frame's page and what is around that page
pub flight_same : (v : Views) (held : ℕ → Option Page) (page : Page → PageView) (x : Flight) → held x.frame ≡ v.held x.frame → ((g : Page) → v.held x.frame ≡ Some g → IsAlike x.direction (v.page g) (page g))
    → FitsFlight v x → FitsFlight (record v { held = held; page = page }) x
flight_same v held page x same alike fits =
    record { page = fits.page; held = same ∙ fits.held; fits = by x.direction refl fits.fits }
  where
    new : IsAlike x.direction (v.page fits.page) (page fits.page)
    new = alike fits.page fits.held

    written : FitsWrite x fits.page (v.page fits.page) v.process → FitsWrite x fits.page (page fits.page) v.process
    written (inl section) = inl (new.paged ∙ section.0, new.lies ∙ section.1)
    written (inr (inl file)) = inr (inl (file.0, new.block ∙ file.1, file.2))
    written (inr (inr swap)) = inr (inr swap)

    by : (d : Direction) → x.direction ≡ d → FitsDirection x fits.page (v.page fits.page) v.process v.entry d → FitsDirection x fits.page (page fits.page) v.process v.entry d
    by (reading r) is old = (subst (FitsRead x r fits.page) (sym (new.read (ap is_reading is))) old.0, old.1)
    by writing is old = written old

-- a flight on the frame is a read or a write
pub on_frame : (x : Flight) (flights : List Flight) → ((t : Flight → Bool) → t x ≡ true → 0 < count_by t flights) → (f : ℕ) → x.frame ≡ f → 0 < reads_on f flights + writes_on f flights
on_frame x flights counts f same = go (is_reading x.direction) refl
  where
    go : (c : Bool) → is_reading x.direction ≡ c → 0 < reads_on f flights + writes_on f flights
    go true is = omega (arith, counts (is_read_on f) (and_from _ _ (eq-eqb _ _ same) is))
    go false is = omega (arith, counts (is_write_on f) (and_from _ _ (eq-eqb _ _ same) (ap not is)))

-- a flight that doesn't concern process p, while p alone changes
pub record IsFar (v : Views) (x : Flight) (p : ℕ) : Type 0 where
  pub fault : (q : Proc) (address : Addr) → x.direction ≡ reading (role.Fault q address) → x.seat ≡ q.0 → (v.process q.0).status ≡ status.Resident → p ≡ q.0 → ⊥
  pub come : (q : Proc) (address : Addr) (n : ℕ) (g : Page) → x.direction ≡ reading (role.Come q address) → (v.process q.0).status ≡ status.Coming → x.block ≡ block.Swap q n → (v.page g).lies ≡ Some x.block → p ≡ q.0 → ⊥
  pub swap : (g : Page) → IsSwapWrite x g v.process → (q : ℕ) → (v.process q).status ≡ status.Leaving → (n : ℕ) (held : Held) → slice_get (v.process q).ring.slots n ≡ Some (Some held) → held.pinned ≡ false → p ≡ q → ⊥

pub flight_far : (v : Views) (process : ℕ → ProcessView) (entry : ℕ → ℕ → EntryView) (p : ℕ) (x : Flight) → ((q : ℕ) → (p ≡ q → ⊥) → process q ≡ v.process q) → ((q u : ℕ) → (p ≡ q → ⊥) → entry q u ≡ v.entry q u)
    → IsFar v x p → FitsFlight v x → FitsFlight (record v { process = process; entry = entry }) x
flight_far v process entry p x processes entries far fits =
    record { page = fits.page; held = fits.held; fits = by x.direction refl fits.fits }
  where
    by : (d : Direction) → x.direction ≡ d → FitsDirection x fits.page (v.page fits.page) v.process v.entry d → FitsDirection x fits.page (v.page fits.page) process entry d
    by (reading (role.Fault q address)) is old =
        let other : (p ≡ q.0 → ⊥) = far.fault q address is old.1.0 old.1.1 in (
          old.0,
          subst₂ (λ (y : ProcessView) (z : EntryView). (x.seat ≡ q.0) × (y.status ≡ status.Resident) × (z.mapped ≡ Some fits.page) × (z.entries ≡ 0) × (filled y.ring.slots < y.limit))
              (sym (processes q.0 other)) (sym (entries q.0 (page_number address.0) other)) old.1,
        )
    by (reading (role.Near near)) is old = old
    by (reading (role.Come q address)) is old = (old.0, subst₂ (λ (y : ProcessView) (z : EntryView). (y.status ≡ status.Coming) × (z.mapped ≡ Some fits.page) × ((n : ℕ) × (x.block ≡ block.Swap q n))) (sym (processes q.0 (other old.0))) (sym (entries q.0 (page_number address.0) (other old.0))) old.1)
      where
        other : FitsRead x (role.Come q address) fits.page (v.page fits.page) → p ≡ q.0 → ⊥
        other (inl lies) = far.come q address (old.1.2).0 fits.page is old.1.0 (old.1.2).1 lies
        other (inr first) = absurd (false≢true first.fault)
    by writing is (inl section) = inl section
    by writing is (inr (inl file)) = inr (inl file)
    by writing is (inr (inr swap)) =
        let same = sym (processes swap.p (far.swap fits.page swap swap.p swap.leaving swap.n swap.held swap.slot swap.unpinned)) in
        inr (inr (record {
          p = swap.p;
          n = swap.n;
          block = swap.block;
          own = swap.own;
          leaving = subst (λ (y : ProcessView). y.status ≡ status.Leaving) same swap.leaving;
          held = swap.held;
          slot = subst (λ (y : ProcessView). slice_get y.ring.slots swap.n ≡ Some (Some swap.held)) same swap.slot;
          fits = swap.fits;
          unpinned = swap.unpinned;
        }))
