-- Content along SERVED: no buffer and no block moves, and only forgotten pages lose their bytes.
use Rattle.std.proofs.Common.{◌≡◌, ℕ, ◌&&◌, ◌||◌, Bool, true, false, List, [], ◌∷◌, Option, Some, nat_eq, refl, sym, ap, ◌∙◌, subst, arith}
use Rattle.std.specs.List.{AllByRecursion}
use Rattle.std.specs.Option.{option_map}
use Rattle.std.proofs.lemmas.Bool.{and_parts, eqb-true, false_from_ne_true, false≢true, true≢false}
use Rattle.vm_types.specs.BlockView.{BlockView}
use Rattle.vm_types.specs.Same.{same_page}
use Rattle.vm_types.specs.declared.names.Page.{Page}
use Rattle.vm_types.specs.declared.names.Page.TheVariants.{Private, Shared}
use Rattle.vm_types.specs.declared.names.BlockId.{BlockId}
use Rattle.vm_types.specs.declared.names.Seat.{Seat}
use Rattle.vm_types.specs.declared.names.FrameState.TheVariants as state
use Rattle.vm_types.specs.declared.config.Config.{Config}
use Rattle.vm_types.specs.declared.reply.Answer.{Answer}
use Rattle.vm_types.specs.declared.reply.Answer.TheVariants as answer
use Rattle.vm_types.specs.declared.service.Service.{Service}
use Rattle.vm_types.specs.declared.service.Service.TheVariants as service
use Rattle.vm_journal.specs.declared.entry.Entry.{Entry}
use Rattle.vm_journal.specs.declared.entry.What.TheVariants as what
use Rattle.content_laws.proofs.BlockMoved.{counted_same}
use Rattle.content_laws.proofs.Forgotten.{IsForgotten, IsUnread, all_forgotten}
use Rattle.content_laws.proofs.FrameChanged.{buffers_stay, written_move}
use Rattle.content_laws.proofs.ServedBytes.{is_dropped, served_keeps}
use Rattle.pager_laws.proofs.DeleteKept.{charged_none, deleted, inside_from, inside_to, own_all, own_has}
use Rattle.pager_laws.proofs.KeptIsSound.{count_from_has, has_from_count}
use Rattle.pager_model.specs.Around.{quiet}
use Rattle.pager_model.specs.Bytes.{now}
use Rattle.pager_model.specs.Content.{ContentFits, has_bytes}
use Rattle.pager_model.specs.Flights.{Flight, is_busy, open_flights}
use Rattle.pager_model.specs.FlatService.{demand_zero, in_range, is_private_in, map_range, with_prot}
use Rattle.pager_model.specs.Forget.{forget_all, own_pages, range_of}
use Rattle.pager_model.specs.Lookups.{is, own_page, page_by}
use Rattle.pager_model.specs.Maps.{Map, Mapped, is_private}
use Rattle.pager_model.specs.Own.{IsResident}
use Rattle.pager_model.specs.Pager.{Pager}
use Rattle.pager_model.specs.Served.{IsDelete, IsServed, after_served}
use Rattle.pager_model.specs.Sets.{has_page}
use Rattle.pager_model.specs.Spoken.{flat_after}
use Rattle.pager_rules.proofs.Basics.{pages_equal}
use Rattle.pager_rules.proofs.Pages.{own_is, private_is_paged}
use Rattle.pager_rules.specs.Kept.{IsKept, one_if}
use Rattle.vm_types.specs.Ring.{Ring}

module _ (tells tells_plan : Bool) (config : Config) (past : List Entry) (a : Pager) (buffer : ℕ → Option (List ℕ)) (home : BlockId → Option BlockView) (fits : ContentFits tells tells_plan config past a buffer home)
    (kept : IsKept config (quiet (open_flights past)) a) (seat : Seat) (s : Service) (w : Answer) (legal : IsServed config past a seat.0 s w) where
  abbrev flights : List Flight
  flights = open_flights past

  abbrev e : Entry
  e = record { seat = seat; what = what.Served s w }

  -- a page that is held or lies in a block has its bytes, unless it is forgotten
  held_bytes : (f : ℕ) (g : Page) → a.page f ≡ Some g → is_dropped seat.0 s w g ≡ false → now config (e ∷ past) g ≡ now config past g
  held_bytes f g holds stays = served_keeps config past a (flat_after config past) seat.0 s w g legal (λ private. (kept.pages g).mapped (kept.held_charged f g (private_is_paged config g private) holds) private) stays

  lying_bytes : (g : Page) (d : BlockId) → a.lies g ≡ Some d → is_dropped seat.0 s w g ≡ false → now config (e ∷ past) g ≡ now config past g
  lying_bytes g d lies stays = served_keeps config past a (flat_after config past) seat.0 s w g legal (λ private. (kept.pages g).mapped (omega (arith, (kept.pages g).lying d (private_is_paged config g private) lies)) private) stays

  -- a service that forgets no page
  still : ((g : Page) → is_dropped seat.0 s w g ≡ false) → (map : Map) (ring : ℕ → Ring) (limit : ℕ → ℕ) → ContentFits tells tells_plan config (e ∷ past) (record a { map = map; ring = ring; limit = limit }) buffer home
  still stays map ring limit = record {
    buffers = fits.buffers;
    homes = fits.homes;
    held = λ told f g holds filled. fits.held told f g holds filled ∙ ap Some (sym (held_bytes f g holds (stays g)));
    lying = λ told d y g real at lies settled. fits.lying told d y g real at lies settled ∙ ap Some (sym (lying_bytes g d lies (stays g)));
    written = λ told. written_move config past e a.page a.page a.modify a.modify (λ x some writes clear g holds. (clear, holds, held_bytes x.frame g holds (stays g))) (fits.written told);
    copied = fits.copied;
    counted = λ b x at. counted_same tells_plan config past (e ∷ past) b x refl (fits.counted b x at);
  }

  -- one that forgets those pages, which are neither read nor written
  forgets : (pages : List Page) (map : Map) → IsForgotten a (forget_all config pages a) pages → ((f : ℕ) (g : Page) → a.page f ≡ Some g → has_page pages g ≡ false → is_dropped seat.0 s w g ≡ false)
      → ((g : Page) (d : BlockId) → a.lies g ≡ Some d → has_page pages g ≡ false → is_dropped seat.0 s w g ≡ false) → ((f : ℕ) (g : Page) → (forget_all config pages a).page f ≡ Some g → has_page pages g ≡ false)
      → ContentFits tells tells_plan config (e ∷ past) (record (forget_all config pages a) { map = map }) buffer home
  forgets pages map is_forgotten held_stays lying_stays not_held = record {
    buffers = buffers_stay config a.state b.state buffer is_forgotten.reading fits.buffers;
    homes = fits.homes;
    held = λ told f g holds filled.
        let was = is_forgotten.held f g holds in
        fits.held told f g was.0 (ap has_bytes (sym was.2) ∙ filled) ∙ ap Some (sym (held_bytes f g was.0 (held_stays f g was.0 (not_held f g holds))));
    lying = λ told d y g real at lies settled.
        let was = is_forgotten.lies g d lies in
        fits.lying told d y g real at was.0 (λ f holds.
        let now_holds = is_forgotten.kept f g holds was.1 in
        let clear = settled f now_holds in
        (sym (is_forgotten.held f g now_holds).1 ∙ clear.0, clear.1))
        ∙ ap Some (sym (lying_bytes g d was.0 (lying_stays g d was.0 was.1)));
    written = λ told. written_move config past e a.page b.page a.modify b.modify (λ x some writes clear g holds.
        let was = is_forgotten.held x.frame g holds in
        (sym was.1 ∙ clear, was.0, held_bytes x.frame g was.0 (held_stays x.frame g was.0 (not_held x.frame g holds)))) (fits.written told);
    copied = fits.copied;
    counted = λ c x at. counted_same tells_plan config past (e ∷ past) c x refl (fits.counted c x at);
  }
    where
      b : Pager
      b = forget_all config pages a

-- ---- a deletion
all_has : (P : Page → Type 0) (pages : List Page) (g : Page) → AllByRecursion P pages → has_page pages g ≡ true → P g
all_has P [] g all has = absurd (false≢true has)
all_has P (h ∷ pages) g all has = go (same_page g h) refl has (all_has P pages g all.1)
  where
    go : (b : Bool) → same_page g h ≡ b → (b || has_page pages g) ≡ true → (has_page pages g ≡ true → P g) → P g
    go true same has rest = subst P (sym (pages_equal g h same)) all.0
    go false other has rest = rest has

module _ (config : Config) (past : List Entry) (a : Pager) (p address pages : ℕ) (kept : IsKept config (quiet (open_flights past)) a) (own : IsResident config a p) (idle : is_busy p (open_flights past) ≡ false) (legal : IsDelete config past a p address pages) where
  abbrev gone : List Page
  gone = own_pages config a.map p (range_of address pages)

  gone_unread : AllByRecursion (IsUnread a) gone
  gone_unread = own_all (IsUnread a) config a.map p (range_of address pages) (λ v g some mapped private f holds.
      let still = legal.not_in_flight v f (inside_from address pages v some) (holds ∙ ap Some (own_is config a.map p v g mapped private)) in
      no_read (is state.Reading (a.state f)) (omega (arith, still, (kept.frames f).reads)))
    where
      no_read : (b : Bool) → one_if b ≡ 0 → b ≡ false
      no_read false none = refl
      no_read true none = absurd (omega (arith, none))

  gone_private : AllByRecursion (λ (g : Page). is_private g ≡ true) gone
  gone_private = own_all (λ (g : Page). is_private g ≡ true) config a.map p (range_of address pages) (λ v g some mapped private. private)

  -- a page of the range that its process has is forgotten
  kept_outside : (g : Page) → (is_private g ≡ true → own_page config a.map g ≡ Some g) → has_page gone g ≡ false → is_private_in p address pages g ≡ false
  kept_outside (Shared s i) mapped other = refl
  kept_outside (Private q v) mapped other = false_from_ne_true (nat_eq p q.0 && in_range address pages v) (λ both.
      let parts = and_parts (nat_eq p q.0) (in_range address pages v) both in
      let there = subst (λ (r : ℕ). page_by config a.map r v ≡ Some (Private q v)) (sym (eqb-true p q.0 parts.0)) (mapped refl) in
      true≢false (sym (has_from_count gone (Private q v) (own_has config a.map p (range_of address pages) v (Private q v) (inside_to address pages v parts.1) there refl)) ∙ other))

  -- and no frame holds it any more
  not_held : (f : ℕ) (g : Page) → (forget_all config gone a).page f ≡ Some g → has_page gone g ≡ false
  not_held f g holds = false_from_ne_true (has_page gone g) (λ has.
      omega (
        arith,
        charged_none config gone a g (count_from_has gone g has),
        (deleted config past a p address pages kept own idle legal).held_charged f g (private_is_paged config g (all_has (λ (h : Page). is_private h ≡ true) gone g gone_private has)) holds,
      ))

-- ---- SERVED, by service and answer
module _ (tells tells_plan : Bool) (config : Config) (past : List Entry) (a : Pager) (buffer : ℕ → Option (List ℕ)) (home : BlockId → Option BlockView) (kept : IsKept config (quiet (open_flights past)) a) (seat : Seat)
    (idle : is_busy seat.0 (open_flights past) ≡ false) where
  pub served_content : (s : Service) (w : Answer) → IsServed config past a seat.0 s w → ContentFits tells tells_plan config past a buffer home
      → ContentFits tells tells_plan config (record { seat = seat; what = what.Served s w } ∷ past) (after_served config a seat.0 s w) buffer home
  served_content (service.Create at pages prot) answer.Good legal fits =
      still tells tells_plan config past a buffer home fits kept seat (service.Create at pages prot) answer.Good legal (λ g. refl) (map_range (λ (old : Option Mapped). Some (demand_zero prot)) seat.0 at.0 pages a.map) a.ring a.limit
  served_content (service.Delete at pages) answer.Good legal fits =
      forgets tells tells_plan config past a buffer home fits kept seat (service.Delete at pages) answer.Good legal (gone config past a seat.0 at.0 pages kept legal.0 idle legal.1) _
      (all_forgotten config (gone config past a seat.0 at.0 pages kept legal.0 idle legal.1) a (gone_unread config past a seat.0 at.0 pages kept legal.0 idle legal.1))
      (λ f g holds other. kept_outside config past a seat.0 at.0 pages kept legal.0 idle legal.1 g (λ private. (kept.pages g).mapped (kept.held_charged f g (private_is_paged config g private) holds) private) other)
      (λ g d lies other. kept_outside config past a seat.0 at.0 pages kept legal.0 idle legal.1 g (λ private. (kept.pages g).mapped (omega (arith, (kept.pages g).lying d (private_is_paged config g private) lies)) private) other)
      (not_held config past a seat.0 at.0 pages kept legal.0 idle legal.1)
  served_content (service.Protect at pages prot) answer.Good legal fits =
      still tells tells_plan config past a buffer home fits kept seat (service.Protect at pages prot) answer.Good legal (λ g. refl) (map_range (option_map (with_prot prot)) seat.0 at.0 pages a.map) a.ring a.limit
  served_content (service.Lock at pages) (answer.Count n) legal fits = still tells tells_plan config past a buffer home fits kept seat (service.Lock at pages) (answer.Count n) legal (λ g. refl) a.map _ a.limit
  served_content (service.Unlock at pages) (answer.Count n) legal fits = still tells tells_plan config past a buffer home fits kept seat (service.Unlock at pages) (answer.Count n) legal (λ g. refl) a.map _ a.limit
  served_content (service.Pin at pages) (answer.Count n) legal fits = still tells tells_plan config past a buffer home fits kept seat (service.Pin at pages) (answer.Count n) legal (λ g. refl) a.map _ a.limit
  served_content (service.Unpin at pages) (answer.Count n) legal fits = still tells tells_plan config past a buffer home fits kept seat (service.Unpin at pages) (answer.Count n) legal (λ g. refl) a.map _ a.limit
  served_content (service.Adjust n) answer.Good legal fits = still tells tells_plan config past a buffer home fits kept seat (service.Adjust n) answer.Good legal (λ g. refl) a.map a.ring _
  served_content s other legal fits = still tells tells_plan config past a buffer home fits kept seat s other legal (λ g. refl) a.map a.ring a.limit
