-- A service leaves the bytes of every page that it doesn't forget, and so of one that is in flight.
use Rattle.pager_rules.proofs.Basics.{pages_equal}
use Rattle.std.proofs.Common.{◌||◌, ◌≡◌, ℕ, ◌+◌, ◌<◌, Bool, true, false, cond, not, ◌&&◌, List, [], ◌∷◌, Option, Some, None, filter, nat_eq, refl, sym, ap, ap₂, ◌∙◌, subst, arith}
use Rattle.std.specs.Option.{option_map}
use Rattle.std.proofs.lemmas.Bool.{and_from, and_parts, eq-eqb, eqb-true, false_from_ne_true, false≢true, true≢false}
use Rattle.std.proofs.lemmas.Option.{none-some}
use Rattle.vm_types.specs.Same.{same_page}
use Rattle.vm_types.specs.declared.names.Page.{Page}
use Rattle.vm_types.specs.declared.names.Page.TheVariants.{Private, Shared}
use Rattle.vm_types.specs.declared.names.Proc.{Proc}
use Rattle.vm_types.specs.declared.config.Config.{Config}
use Rattle.vm_types.specs.declared.config.Origin.TheVariants as origin
use Rattle.vm_types.specs.declared.reply.Answer.{Answer}
use Rattle.vm_types.specs.declared.reply.Answer.TheVariants as answer
use Rattle.vm_types.specs.declared.service.Service.{Service}
use Rattle.vm_types.specs.declared.service.Service.TheVariants as service
use Rattle.vm_journal.specs.declared.entry.Entry.{Entry}
use Rattle.pager_model.specs.Around.{quiet}
use Rattle.pager_model.specs.Bytes.{bytes_at, bytes_in}
use Rattle.pager_model.specs.Flat.{FlatState}
use Rattle.pager_model.specs.FlatService.{demand_zero, flat_service, in_range, is_private_in, map_range, with_prot}
use Rattle.pager_model.specs.Flights.{open_flights}
use Rattle.pager_model.specs.Lookups.{own_page, page_at}
use Rattle.pager_model.specs.Maps.{Map, Mapped, first_bytes, is_paged, is_private, proc}
use Rattle.pager_model.specs.Pager.{Pager}
use Rattle.pager_model.specs.Served.{IsServed}
use Rattle.pager_model.specs.Sets.{has_page}
use Rattle.pager_model.specs.Transfers.{reads_on, writes_on}
use Rattle.pager_rules.specs.Kept.{IsKept}
use Rattle.pager_rules.proofs.Pages.{private_is_paged}

-- a page that is kept is had as often
kept_page : (p address pages : ℕ) (g : Page) (touched : List Page) → is_private_in p address pages g ≡ false → has_page (filter (λ (page : Page). not (is_private_in p address pages page)) touched) g ≡ has_page touched g
kept_page p address pages g [] apart = refl
kept_page p address pages g (h ∷ touched) apart = go (is_private_in p address pages h) refl (same_page g h) refl (kept_page p address pages g touched apart)
  where
    go : (b : Bool) → is_private_in p address pages h ≡ b → (c : Bool) → same_page g h ≡ c → has_page (filter (λ (page : Page). not (is_private_in p address pages page)) touched) g ≡ has_page touched g
        → has_page (cond (not b) (h ∷ filter (λ (page : Page). not (is_private_in p address pages page)) touched) (filter (λ (page : Page). not (is_private_in p address pages page)) touched)) g ≡ (c || has_page touched g)
    go false is true same rest = ap (λ (d : Bool). d || has_page (filter (λ (page : Page). not (is_private_in p address pages page)) touched) g) same
    go false is false other rest = ap₂ (λ (d e : Bool). d || e) other rest
    go true is false other rest = rest
    go true is true same rest = absurd (false≢true (sym apart ∙ subst (λ (y : Page). is_private_in p address pages y ≡ true) (sym (pages_equal g h same)) is))

-- by what is mapped at the page's place, and whether it was touched
module _ (config : Config) (flat : FlatState) (q : Proc) (v : ℕ) where
  abbrev g : Page
  g = Private q v

  bytes_by : (touched : List Page) (map : Map) → has_page touched g ≡ has_page flat.touched g → bytes_at config flat g (map q.0 v) ≡ bytes_at config flat g (flat.map q.0 v)
      → bytes_in config (record { map = map; touched = touched; stored = flat.stored }) g ≡ bytes_in config flat g
  bytes_by touched map same mapped = go (map q.0 v) ∙ mapped
    where
      go : (o : Option Mapped) → bytes_at config (record { map = map; touched = touched; stored = flat.stored }) g o ≡ bytes_at config flat g o
      go None = refl
      go (Some m) = ap (λ (t : Bool). cond (true && not t) (first_bytes config m.origin) (flat.stored g)) same

  -- the change of a range leaves it, where it leaves the bytes of the page or the page is outside
  range_by : (change : Option Mapped → Option Mapped) (p address pages : ℕ) → (in_range address pages v ≡ true → p ≡ q.0 → bytes_at config flat g (change (flat.map q.0 v)) ≡ bytes_at config flat g (flat.map q.0 v))
      → bytes_at config flat g (map_range change p address pages flat.map q.0 v) ≡ bytes_at config flat g (flat.map q.0 v)
  range_by change p address pages here = go (nat_eq p q.0) refl (in_range address pages v) refl
    where
      go : (b : Bool) → nat_eq p q.0 ≡ b → (c : Bool) → in_range address pages v ≡ c → bytes_at config flat g (cond (b && c) (change (flat.map q.0 v)) (flat.map q.0 v)) ≡ bytes_at config flat g (flat.map q.0 v)
      go true same true inside = here inside (eqb-true _ _ same)
      go true same false inside = refl
      go false other c inside = refl

  protected : (prot : ℕ) (o : Option Mapped) → bytes_at config flat g (option_map (with_prot prot) o) ≡ bytes_at config flat g o
  protected prot None = refl
  protected prot (Some m) = refl

-- whether the service forgets the page
abbrev pub is_dropped : ℕ → Service → Answer → Page → Bool
is_dropped p (service.Delete at pages) answer.Good g = is_private_in p at.0 pages g
is_dropped p s other g = false

module _ (config : Config) (past : List Entry) (a : Pager) (flat : FlatState) where
  unmapped_none : (q : Proc) (v : ℕ) → own_page config a.map (Private q v) ≡ Some (Private q v) → a.map q.0 v ≡ None → ⊥
  unmapped_none q v mapped none = none-some (Private q v) (sym (ap (page_at config q.0 v) none) ∙ mapped)

  -- a page that is shared, or mapped by its process, and isn't forgotten
  pub served_keeps : (p : ℕ) (s : Service) (w : Answer) (g : Page) → IsServed config past a p s w → (is_private g ≡ true → own_page config a.map g ≡ Some g) → is_dropped p s w g ≡ false → bytes_in config (flat_service flat p s w) g ≡ bytes_in config flat g
  served_keeps p (service.Create at pages prot) answer.Good (Shared s i) legal mapped stays = refl
  served_keeps p (service.Create at pages prot) answer.Good (Private q v) legal mapped stays =
      bytes_by config flat q v flat.touched (map_range (λ (o : Option Mapped). Some (demand_zero prot)) p at.0 pages flat.map) refl
      (range_by config flat q v (λ (o : Option Mapped). Some (demand_zero prot)) p at.0 pages (λ inside same. absurd (unmapped_none q v (mapped refl) (subst (λ (r : ℕ). a.map r v ≡ None) same (legal.1 v inside)))))
  served_keeps p (service.Delete at pages) answer.Good (Shared s i) legal mapped stays =
      ap (λ (t : Bool). cond (is_paged config (Shared s i) && not t) (first_bytes config (origin.Section s i)) (flat.stored (Shared s i))) (kept_page p at.0 pages (Shared s i) flat.touched refl)
  served_keeps p (service.Delete at pages) answer.Good (Private q v) legal mapped stays =
      bytes_by config flat q v (filter (λ (page : Page). not (is_private_in p at.0 pages page)) flat.touched) (map_range (λ (o : Option Mapped). None) p at.0 pages flat.map)
      (kept_page p at.0 pages (Private q v) flat.touched stays)
      (range_by config flat q v (λ (o : Option Mapped). None) p at.0 pages (λ inside same. absurd (true≢false (sym (and_from _ _ (eq-eqb p q.0 same) inside) ∙ stays))))
  served_keeps p (service.Protect at pages prot) answer.Good (Shared s i) legal mapped stays = refl
  served_keeps p (service.Protect at pages prot) answer.Good (Private q v) legal mapped stays =
      bytes_by config flat q v flat.touched (map_range (option_map (with_prot prot)) p at.0 pages flat.map) refl
      (range_by config flat q v (option_map (with_prot prot)) p at.0 pages (λ inside same. protected config flat q v prot (flat.map q.0 v)))
  served_keeps p s other g legal mapped stays = refl

  -- no service forgets a page that is in flight
  pub flying_stays : (p : ℕ) (s : Service) (w : Answer) (g : Page) (f : ℕ) → IsServed config past a p s w → 0 < reads_on f (open_flights past) + writes_on f (open_flights past) → a.page f ≡ Some g → is_dropped p s w g ≡ false
  flying_stays p (service.Delete at pages) answer.Good (Shared s i) f legal busy held = refl
  flying_stays p (service.Delete at pages) answer.Good (Private q v) f legal busy held = false_from_ne_true (nat_eq p q.0 && in_range at.0 pages v) (λ both.
      let parts = and_parts (nat_eq p q.0) (in_range at.0 pages v) both in
      let own : a.page f ≡ Some (Private (proc p) v) = held ∙ ap (λ (r : ℕ). Some (Private (proc r) v)) (sym (eqb-true p q.0 parts.0)) in
      omega (arith, busy, legal.1.not_in_flight v f parts.1 own))
  flying_stays p s other g f legal busy held = refl

  -- so it leaves the bytes of such a page
  pub served_bytes : IsKept config (quiet (open_flights past)) a → (f p : ℕ) (s : Service) (w : Answer) (g : Page) → IsServed config past a p s w → 0 < reads_on f (open_flights past) + writes_on f (open_flights past) → a.page f ≡ Some g
      → bytes_in config (flat_service flat p s w) g ≡ bytes_in config flat g
  served_bytes kept f p s w g legal busy held = served_keeps p s w g legal (λ private. (kept.pages g).mapped (kept.held_charged f g (private_is_paged config g private) held) private) (flying_stays p s w g f legal busy held)
