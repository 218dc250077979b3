-- ZERO.
use Rattle.pager_rules.proofs.Quiet.{none_failed}
use Rattle.std.proofs.Common.{◌≡◌, ◌⊎◌, ℕ, ◌<◌, ◌≤◌, Bool, true, false, List, ◌∷◌, Option, Some, None, nat_eq, refl, sym, ap, ◌∙◌, subst, inl, inr, arith}
use Rattle.std.proofs.lemmas.Bool.{ne_eqb, and_left, or_left}
use Rattle.std.proofs.lemmas.Option.{none-some}
use Rattle.vm_types.specs.Same.{same_page}
use Rattle.vm_types.specs.Ring.{Ring}
use Rattle.vm_types.specs.declared.names.Page.{Page}
use Rattle.vm_types.specs.declared.names.Addr.{Addr}
use Rattle.vm_types.specs.declared.names.Pfn.{Pfn}
use Rattle.vm_types.specs.declared.names.Seat.{Seat}
use Rattle.vm_types.specs.declared.names.BlockId.{BlockId}
use Rattle.vm_types.specs.declared.names.FrameState.TheVariants as state
use Rattle.vm_types.specs.declared.config.Config.{Config}
use Rattle.vm_journal.specs.declared.entry.Entry.{Entry}
use Rattle.vm_journal.specs.declared.entry.What.TheVariants as what
use Rattle.pager_model.specs.Around.{FrameView, frame_view, page_view, past_view, process_view, quiet}
use Rattle.pager_model.specs.Changes.{valid_at}
use Rattle.pager_model.specs.Flights.{is_busy, open_flights}
use Rattle.pager_model.specs.Lookups.{count_page, entries_at, is_entry, own_page, page_by}
use Rattle.pager_model.specs.Maps.{is_paged, page_number}
use Rattle.pager_model.specs.Pager.{Pager, Valid}
use Rattle.pager_model.specs.Ring.{placed}
use Rattle.pager_model.specs.Sound.{HasSwapped}
use Rattle.pager_model.specs.Zero.{IsZero, after_zero, zeroed_page}
use Rattle.pager_rules.proofs.Basics.{at_number_other, at_number_same, count_cons, count_cons_no, count_cons_yes, nat_eq_refl, pages_equal}
use Rattle.pager_rules.proofs.Frames.{from_state}
use Rattle.pager_rules.proofs.Pages.{own_is, own_process, swapped_move, zeroed_mapped, zeroed_paged}
use Rattle.pager_rules.proofs.PlacedRing.{IsPlaced}
use Rattle.pager_rules.proofs.Put.{charged_other, charged_same, entries_put, free_row, head_counts, held_charged_put, held_put, no_entry, page_apart, unsaved_move, without_other, without_same}
use Rattle.pager_rules.proofs.Rings.{entries_add, placed_process, placed_there}
use Rattle.pager_rules.proofs.Transfers.{IsApart, alike, transfers_idle}
use Rattle.pager_rules.proofs.Views.{frames_move, pages_move}
use Rattle.pager_rules.specs.Kept.{FitsFrame, FitsPage, FitsProcess, HasUnsaved, IsInFrame, IsKept, saves, views}

not_lying : (o : Option BlockId) → ((b : BlockId) → o ≡ Some b → ⊥) → o ≡ None
not_lying None none = refl
not_lying (Some b) none = absurd (none b refl)

module _ (config : Config) (past : List Entry) (a : Pager) (p address f : ℕ) (kept : IsKept config (quiet (open_flights past)) a) (idle : is_busy p (open_flights past) ≡ false) (legal : IsZero config a p address f) where
  abbrev v : ℕ
  v = page_number address

  abbrev x : Page
  x = zeroed_page config p v (a.map p v)

  abbrev new : Ring
  new = placed (a.ring p) (a.limit p) v

  abbrev b : Pager
  b = after_zero config a p address f

  abbrev old : ℕ → FrameView
  old = frame_view config (quiet (open_flights past)) a

  -- ---- the page is in no frame and lies nowhere
  own : page_by config a.map p v ≡ Some x
  own = zeroed_mapped config p v (a.map p v) legal.demand_zero

  paged : is_paged config x ≡ true
  paged = zeroed_paged config p v (a.map p v) legal.demand_zero

  unheld : (g : ℕ) → a.page g ≡ Some x → ⊥
  unheld g holds = absurd (omega (arith, legal.not_charged, kept.held_charged g x paged holds))

  nowhere : a.lies x ≡ None
  nowhere = not_lying (a.lies x) (λ d lies. omega (arith, legal.not_charged, (kept.pages x).lying d paged lies))

  none : entries_at a.valid p v ≡ 0
  none = no_entry config a.map a.page a.valid p v x own unheld kept.valid

  -- ---- frames
  row : FitsFrame (record (old f) { state = state.Free })
  row = free_row (old f) (kept.frames f) (head_counts a.free f legal.frame.head)

  here : FitsFrame (frame_view config (quiet (open_flights past)) b f)
  here = from_state (frame_view config (quiet (open_flights past)) b f) state.Active (at_number_same a.state f state.Active) (record {
    bad = row.bad;
    on_free = without_same a.free f;
    on_modified = row.on_modified;
    shares = omega (arith, count_cons_yes (λ (e : Valid). nat_eq e.frame f) (valid_at p v f) a.valid (nat_eq_refl f));
    reads = row.reads;
    writes = omega (arith, row.writes);
    failed = refl;
    page = (x, at_number_same a.page f (Some x));
    mark = tt;
  })

  there : (g : ℕ) → (f ≡ g → ⊥) → frame_view config (quiet (open_flights past)) b g ≡ old g
  there g apart =
      let state_is = at_number_other a.state f state.Active g apart in
      let page_is = at_number_other a.page f (Some x) g apart in
      let modify_is = at_number_other a.modify f true g apart in
      let free_is = without_other a.free f g apart in
      let shares_is = count_cons_no (λ (e : Valid). nat_eq e.frame g) (valid_at p v f) a.valid (ne_eqb f g apart) in
      cc

  -- ---- the ring
  is_placed : IsPlaced (a.ring p) new v
  is_placed = placed_there (process_view config a p) v (kept.processes p) legal.below_limit

  process_there : (r : ℕ) → (p ≡ r → ⊥) → process_view config b r ≡ process_view config a r
  process_there r apart = let ring_is = at_number_other a.ring p new r apart in cc

  process_here : FitsProcess (process_view config b p)
  process_here = subst (λ (r : Ring). FitsProcess (record (process_view config a p) { ring = r })) (sym (at_number_same a.ring p new)) (placed_process (process_view config a p) new v is_placed (λ gone. let resident = legal.own.resident in cc) (kept.processes p))

  -- ---- pages
  page_there : (g : Page) → same_page g x ≡ false → page_view config b g ≡ page_view config a g
  page_there g apart = let charged_is = charged_other x g a.charged apart in cc

  page_here : FitsPage x (page_view config b x)
  page_here =
      let fits = kept.pages x in
      let one = charged_same x a.charged in
      record {
        paged = λ some. paged;
        charged = omega (arith, legal.not_charged);
        touched = omega (arith, fits.touched);
        blocks = omega (arith, fits.blocks);
        mapped = λ some private. subst (λ (g : Page). own_page config a.map g ≡ Some x) (sym (own_is config a.map p v x own private)) own;
        lying = λ d paged lies. absurd (none-some d (sym nowhere ∙ lies));
        in_file = fits.in_file;
        not_in_section = fits.not_in_section;
        shared = fits.shared;
      }

  unsaved : HasUnsaved config (quiet (open_flights past)) b
  unsaved = unsaved_move config (quiet (open_flights past)) (quiet (open_flights past)) a b f there step kept.unsaved
    where
      step : (g : Page) → 0 < count_page b.charged g → a.lies g ≡ None → IsInFrame config (quiet (open_flights past)) b g ⊎ ((0 < count_page a.charged g) × (a.lies g ≡ None) × (a.page f ≡ Some g → saves (frame_view config (quiet (open_flights past)) a f) ≡ true → IsInFrame config (quiet (open_flights past)) b g))
      step g charged lies = go (same_page g x) refl
        where
          go : (c : Bool) → same_page g x ≡ c → IsInFrame config (quiet (open_flights past)) b g ⊎ ((0 < count_page a.charged g) × (a.lies g ≡ None) × (a.page f ≡ Some g → saves (frame_view config (quiet (open_flights past)) a f) ≡ true → IsInFrame config (quiet (open_flights past)) b g))
          go true same = inl (f, at_number_same a.page f (Some x) ∙ ap Some (sym (pages_equal g x same)), or_left _ _ (at_number_same a.modify f true))
          go false apart = inr (omega (arith, charged_other x g a.charged apart), lies, λ holds saved. absurd (none-some g (sym legal.frame.empty ∙ holds)))

  swapped : HasSwapped a.lies a.status b.ring b.state b.page
  swapped = swapped_move a.lies a.status a.ring b.ring a.state b.state a.page b.page p f legal.own.resident
      (λ r apart. at_number_other a.ring p new r apart) (λ h apart. at_number_other a.state f state.Active h apart) (λ h apart. at_number_other a.page f (Some x) h apart)
      (λ g r n holds lies own_g apart. let same : x ≡ g = cc (holds, at_number_same a.page f (Some x)) in absurd (apart (own_process config a.map p v r g (own ∙ ap Some same) own_g)))
      kept.swapped

  -- ---- flights
  apart : IsApart (views config a) (views config b) p
  apart = record {
    not_leaving = λ leaving. let resident = legal.own.resident in cc;
    status = λ r. refl;
    process = process_there;
    entries = λ r w far. count_cons_no (is_entry r w) (valid_at p v f) a.valid (and_left _ _ (ne_eqb p r far));
    mapped = λ r w far. refl;
  }

  pub zeroed : IsKept config (quiet (open_flights past)) b
  zeroed = record {
    frames = frames_move FitsFrame old (frame_view config (quiet (open_flights past)) b) f there here kept.frames;
    processes = frames_move FitsProcess (process_view config a) (process_view config b) p process_there process_here kept.processes;
    entries = entries_add config a.map a.status a.ring a.valid p v f new is_placed (λ g coming own. let resident = legal.own.resident in absurd (cc)) none kept.entries;
    valid = ((x, own, at_number_same a.page f (Some x)), entries_put config a.map a.page f (Some x) a.valid legal.frame.empty kept.valid);
    pages = pages_move FitsPage (page_view config a) (page_view config b) x page_there page_here kept.pages;
    blocks = kept.blocks;
    fit = legal.room;
    held_once = held_put a.page f x unheld kept.held_once;
    held_charged = held_charged_put config a.page a.charged b.charged f x (λ private. omega (arith, charged_same x a.charged)) (λ g. count_more g) kept.held_charged;
    unsaved = unsaved;
    swapped = swapped;
    coming_once = kept.coming_once;
    transfers = transfers_idle (views config a) (views config b) p apart (open_flights past) idle
        (λ y counts fits. (
          at_number_other a.page f (Some x) y.frame (λ same. none-some fits.page (sym legal.frame.empty ∙ (ap a.page same ∙ fits.held))),
          λ g holds. alike _ _ _ (page_there g (page_apart g x (λ same. unheld y.frame (holds ∙ ap Some same)))),
        ))
        kept.transfers;
    one_fault = kept.one_fault;
    failed = none_failed _ _;
  }
    where
      count_more : (g : Page) → count_page a.charged g ≤ count_page b.charged g
      count_more g = let whole = count_cons (same_page g) x a.charged in omega arith

pub zero_kept : (config : Config) (past : List Entry) (a : Pager) (seat : Seat) (address : Addr) (f : Pfn) → IsKept config (quiet (open_flights past)) a → is_busy seat.0 (open_flights past) ≡ false → IsZero config a seat.0 address.0 f.0
    → IsKept config (past_view (record { seat = seat; what = what.Zero address f } ∷ past)) (after_zero config a seat.0 address.0 f.0)
zero_kept config past a seat address f before idle legal = zeroed config past a seat.0 address.0 f.0 before idle legal
