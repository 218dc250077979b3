-- REUSE: what its calls require.
use Rattle.std.proofs.Common.{◌≡◌, ◌⊎◌, inl, inr, ℕ, ◌^◌, ◌<◌, ◌≤◌, Bool, true, false, ◌&&◌, List, [], ◌∷◌, Option, Some, None, length, count_by, find, refl, sym, ap, ◌∙◌, subst, arith}
use Rattle.std.specs.List.{AllByRecursion}
use Rattle.std.specs.Option.{option_map}
use Rattle.std.specs.Prelude.{IsSome}
use Rattle.std.proofs.lemmas.Bool.{and_parts, false≢true}
use Rattle.std.proofs.lemmas.Option.{none-some}
use Rattle.vm_types.specs.Configuration.{IsWellFormed}
use Rattle.vm_types.specs.PagePlaces.{region_place}
use Rattle.vm_types.specs.Same.{same_page}
use Rattle.vm_types.specs.declared.config.Config.{Config}
use Rattle.vm_types.specs.declared.config.Origin.{Origin}
use Rattle.vm_types.specs.declared.names.BlockId.{BlockId}
use Rattle.vm_types.specs.declared.names.BlockId.TheVariants as block
use Rattle.vm_types.specs.declared.names.FrameState.{FrameState}
use Rattle.vm_types.specs.declared.names.FrameState.TheVariants as state
use Rattle.vm_types.specs.declared.names.Page.{Page}
use Rattle.vm_types.specs.declared.names.Page.TheVariants.{Private, Shared}
use Rattle.vm_types.specs.declared.names.Pfn.{Pfn}
use Rattle.vm_types.specs.declared.names.Proc.{Proc}
use Rattle.vm_types.specs.declared.names.SecId.{SecId}
use Rattle.vm_types.specs.declared.names.Seat.{Seat}
use Rattle.vm_journal.specs.declared.entry.Entry.{Entry}
use Rattle.vm_journal.specs.declared.entry.What.TheVariants as what
use Rattle.global_pages.specs.GlobalPages.{IsGlobalPage}
use Rattle.page_file.specs.Blocks.{assigned_blocks}
use Rattle.page_tables.specs.PageTables.{IsEntry, IsMapped, pte_in}
use Rattle.pfn_database.specs.Frames.{row_of}
use Rattle.pfn_database.specs.Rows.{IsOneOf}
use Rattle.pfn_database.specs.declared.row.Row.{Row}
use Rattle.pte_forms.specs.declared.pte.Pte.{Pte}
use Rattle.section_table.specs.SectionTable.{behind_of}
use Rattle.state_parts.specs.ChargedTable.{kept_at}
use Rattle.state_parts.specs.declared.charged_page.ChargedPage.{ChargedPage}
use Rattle.pager_laws.proofs.KeptIsSound.{has_from_count}
use Rattle.pager_laws.proofs.ReuseKept.{no_due, uncharged_own}
use Rattle.pager_model.specs.Around.{page_view, past_view}
use Rattle.pager_model.specs.Changes.{is_section_block, without_page}
use Rattle.pager_model.specs.Flights.{Flight, failed_flight, open_flights}
use Rattle.pager_model.specs.Lookups.{block_of, count_page, entry_of, is, is_assigned_to}
use Rattle.pager_model.specs.Maps.{Mapped, is_private, proc}
use Rattle.pager_model.specs.OfConfig.{IsOfConfig, IsOrigin}
use Rattle.pager_model.specs.Pager.{Assigned, Pager}
use Rattle.pager_model.specs.Reuse.{IsReuse}
use Rattle.pager_model.specs.Step.{IsLegal}
use Rattle.pager_rules.proofs.Basics.{pages_equal, same_from_equal}
use Rattle.pager_rules.proofs.Lists.{all_found}
use Rattle.pager_rules.proofs.Put.{no_blocks}
use Rattle.pager_rules.proofs.Quiet.{no_failure}
use Rattle.pager_rules.specs.Kept.{FitsFailure, FitsRead, IsKept, views}
use Rattle.pager_rules.proofs.Pages.{private_is_paged}
use Rattle.pager_laws.proofs.Holders.{holds_within}
use Rattle.pager_laws.proofs.RingBounds.{placed, slots_few}
use Rattle.pager_laws.proofs.SectionNumbers.{number_within}
use Rattle.pager_laws.proofs.EntryPages.{mapped_right}
use Rattle.state_fits.specs.Changes.{is_failed_first}
use Rattle.state_fits.specs.Entries.{resting_place, section_page_number}
use Rattle.state_fits.specs.Parts.{Parts}
use Rattle.state_fits.specs.PartsFit.{PartsFit}
use Rattle.state_fits.proofs.ChargedRows.{charged_is}
use Rattle.state_fits.proofs.FrameRows.{row_read}
use Rattle.state_fits.proofs.GoodEntries.{good_resting}
use Rattle.state_fits.proofs.KnownEntries.{placed_entry, pte_known}
use Rattle.state_fits.proofs.ReuseParts.{holds, lies_is, one_charge, own, resting, still}
use Rattle.state_fits.proofs.UnchargedPage.{assigned_fit, fewer_charged, other_count}

pub record CanReuse (f : ℕ) (parts : Parts) : Type 0 where
  pub below : f < length parts.frames.rows
  pub state : IsOneOf (state.Free ∷ state.Modified ∷ state.ReadError ∷ []) (row_of parts.frames f).state
  pub flights : (row_of parts.frames f).flights ≡ 0

-- a private page
pub record CanRest (config : Config) (p v : ℕ) (parts : Parts) : Type 0 where
  pub mapped : IsMapped parts.tables p v
  pub charged : IsSome (kept_at parts.pages (Private (proc p) v))
  pub behind : IsSome (behind_of parts.sections p v)
  pub entry : (c : ChargedPage) (b : Origin) (pte : Pte) → kept_at parts.pages (Private (proc p) v) ≡ Some c → behind_of parts.sections p v ≡ Some b → pte_in parts.tables p v ≡ Some pte → IsEntry (record pte { place = resting_place config b c.lies })
  pub proc : p < parts.pages.procs
  pub place : IsSome (region_place v)

state_at : (s : FrameState) → (s ≡ state.Free) ⊎ (s ≡ state.ReadError) → IsOneOf (state.Free ∷ state.Modified ∷ state.ReadError ∷ []) s
state_at s (inl is) = inl is
state_at s (inr is) = inr (inr (inl is))

block_small : (assigned : List Assigned) (g : Page) (n most : ℕ) → AllByRecursion (λ (x : Assigned). x.block < most) assigned → block_of assigned g ≡ Some n → n < most
block_small assigned g n most all is = go (find (is_assigned_to g) assigned) refl is
  where
    go : (o : Option Assigned) → find (is_assigned_to g) assigned ≡ o → option_map (λ (x : Assigned). x.block) o ≡ Some n → n < most
    go None found none = absurd (none-some n none)
    go (Some x) found some = let same : x.block ≡ n = cc in subst (λ (m : ℕ). m < most) same (all_found (λ (y : Assigned). y.block < most) (is_assigned_to g) assigned x all found)

module _ (config : Config) (past : List Entry) (a : Pager) (seat : Seat) (f : Pfn) (g : Page) (parts : Parts)
    (formed : IsWellFormed config) (before : IsKept config (past_view past) a) (right : IsOfConfig config a)
    (legal : IsLegal config past a (record { seat = seat; what = what.Reuse f g })) (fit : PartsFit config past a parts) where
  held : a.page f.0 ≡ Some g
  held = holds config past a seat f g parts before right legal fit

  pub reuse_can : CanReuse f.0 parts
  reuse_can =
      let read = row_read a.state a.page a.modify a.valid a.ring (open_flights past) config.frames a.free a.modified parts.frames f.0 fit.frames in
      let less = holds_within config (past_view past) a f.0 g before held in
      record {
        below = omega (arith, less, fit.frames.count);
        state = subst (λ (s : FrameState). IsOneOf (state.Free ∷ state.Modified ∷ state.ReadError ∷ []) s) (sym (ap (λ (row : Row). row.state) read)) (state_at (a.state f.0) (resting config past a seat f g parts before right legal fit));
        flights = ap (λ (row : Row). row.flights) read ∙ still config past a seat f g parts before right legal fit;
      }

  pub reuse_global : (s : SecId) (i : ℕ) → g ≡ Shared s i → IsGlobalPage parts.globals (section_page_number config s.0 i)
  reuse_global s i is = let within = number_within config s.0 i (right.held f.0 (Shared s i) (held ∙ ap Some is)).0 in omega (arith, within, fit.globals.count)

  lies_small : (p : Proc) (v n : ℕ) → g ≡ Private p v → a.lies g ≡ Some (block.PageFile n) → n < 2 ^ 21
  lies_small p v n is lies = let small = block_small a.assigned g n config.pagefile right.assigned ((before.pages g).in_file n lies) in omega (arith, small, formed.pagefile.1)

  pub reuse_private : (p : Proc) (v : ℕ) → g ≡ Private p v → CanRest config p.0 v parts
  reuse_private p v is =
      let own_page = own config past a seat f g parts before right legal fit p v is in
      let found = mapped_right config a p.0 v g right own_page in
      let known = fit.tables.each p.0 v ∙ pte_known config a.map a.valid a.page a.lies p.0 v found.0 g found.1 found.2 (entry_of a.valid p.0 v) refl in
      let behind_is : behind_of parts.sections p.0 v ≡ Some (found.0).origin = fit.sections.each p.0 v ∙ ap (option_map (λ (m : Mapped). m.origin)) found.1 in
      let one = one_charge config past a seat f g parts before right legal fit p v is in
      let has = has_from_count a.charged (Private p v) (let same = ap (count_page a.charged) is in omega (arith, one, same)) in
      record {
        mapped = subst IsSome (sym known) refl;
        charged = subst IsSome (sym (fit.pages.each (Private p v) ∙ charged_is a.charged a.touched a.lies a.assigned (Private p v) has)) refl;
        behind = subst IsSome (sym behind_is) refl;
        entry = λ c b pte kept behind was. placed_entry pte (found.0).prot _ (resting_place config b c.lies) (sym was ∙ known)
            (let origin_is : (found.0).origin ≡ b = let same = sym behind_is ∙ behind in cc in
            let lies = lies_is config past a seat f g parts before right legal fit p v is c kept in
            good_resting config formed (found.0).prot b c.lies (found.3).code (subst (λ (x : Origin). IsOrigin config x) origin_is (found.3).origin)
            (λ n at. lies_small p v n is (sym lies ∙ at))
            (λ r n at. let within = (before.swapped g r.0 n (sym lies ∙ at)).within in let few = slots_few config (past_view past) a formed before r.0 in omega (arith, within, few)));
        proc = let less = (found.3).process in omega (arith, less, fit.pages.procs);
        place = placed v (found.3).page;
      }

  -- the page whose first read failed has no block, so a charge is left over
  first_read : IsReuse past a seat.0 f.0 g → is_failed_first (option_map (λ (x : Flight). x.block) (failed_flight past)) g ≡ true → block_of a.assigned g ≡ None
  first_read (inl free) is =
      let none = no_failure past (no_due config past a seat.0 f.0 g before legal.in_turn.reuse free) in
      absurd (false≢true (ap (λ (o : Option Flight). is_failed_first (option_map (λ (x : Flight). x.block) o) g) (sym none) ∙ is))
  first_read (inr failed) is = go fits
    where
      both : (is_private g && is_section_block failed.flight.block) ≡ true
      both = ap (λ (o : Option Flight). is_failed_first (option_map (λ (x : Flight). x.block) o) g) (sym failed.failed) ∙ is

      failure : FitsFailure (past_view past).failed (views config a) failed.flight
      failure = before.failed.fits failed.flight failed.failed

      page_is : failure.page ≡ g
      page_is = let there = subst (λ (h : ℕ). a.page h ≡ Some failure.page) failed.frame failure.held in cc (there, failed.holds)

      fits : FitsRead failed.flight failure.role g (page_view config a g)
      fits = subst (λ (y : Page). FitsRead failed.flight failure.role y (page_view config a y)) page_is failure.fits

      of_block : (d : BlockId) → is_section_block d ≡ true → a.lies g ≡ Some d → is_private g ≡ true → ⊥
      of_block (block.Section s i) section lies private = (before.pages g).not_in_section s i (private_is_paged config g private) lies
      of_block (block.PageFile n) section lies private = false≢true section
      of_block (block.Swap q n) section lies private = false≢true section

      go : FitsRead failed.flight failure.role g (page_view config a g) → block_of a.assigned g ≡ None
      go (inl lies) = let parts = and_parts _ _ both in absurd (of_block failed.flight.block parts.1 lies parts.0)
      go (inr first) = first.unassigned

  pub reuse_uncharges : (p : Proc) (v : ℕ) → g ≡ Private p v → is_failed_first parts.failed g ≡ true → assigned_blocks parts.file < parts.file.charged
  reuse_uncharges p v is first =
      let none = no_blocks a.assigned g (first_read legal.row (ap (λ (o : Option BlockId). is_failed_first o g) (sym fit.failed) ∙ first)) in
      let fits = assigned_fit a.assigned (without_page a.charged g) (λ h. (each h none (same_page g h) refl).0) (λ h. (each h none (same_page g h) refl).1) in
      omega (arith, fits, fewer_charged a.charged g, one_charge config past a seat f g parts before right legal fit p v is, fit.file.charges, fit.file.blocks)
    where
      each : (h : Page) → count_by (is_assigned_to g) a.assigned ≡ 0 → (b : Bool) → same_page g h ≡ b → (count_by (is_assigned_to h) a.assigned ≤ count_page (without_page a.charged g) h) × (count_page (without_page a.charged g) h ≤ 1)
      each h none true same =
          subst (λ (k : Page). (count_by (is_assigned_to k) a.assigned ≤ count_page (without_page a.charged g) k) × (count_page (without_page a.charged g) k ≤ 1)) (pages_equal g h same)
          (omega (arith, none), omega (arith, uncharged_own a.charged g))
      each h none false other =
          let left = other_count a.charged g h (λ equal. false≢true (sym other ∙ same_from_equal g h equal)) in
          (omega (arith, left, (before.pages h).blocks), omega (arith, left, (before.pages h).charged))
