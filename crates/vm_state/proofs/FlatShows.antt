-- Why a reference is refused, by what the parts keep: the flat machine's maps and touched pages are those of the
-- pager, and each touched page is charged.
use Rattle.std.proofs.Common.{◌≡◌, ℕ, ◌<◌, ◌≤◌, Bool, true, false, not, cond, ◌&&◌, List, Option, Some, None, length, nat_eq, refl, sym, ap, ◌∙◌, subst, arith}
use Rattle.std.proofs.lemmas.Bool.{and_parts, eq-eqb, eqb-true, false≢true, ne_eqb, true≢false}
use Rattle.std.specs.Option.{is_some}
use Rattle.std.specs.Prelude.{◌^◌, All}
use Rattle.std.proofs.lemmas.List.Sums.{get_or-le-sum_by}
use Rattle.std.proofs.lemmas.Map.Made.{length-le_from_is_member}
use Rattle.std.proofs.lemmas.Option.{none-some, slice_get_within}
use Rattle.vm_types.specs.BlockView.{BlockView, Tells}
use Rattle.vm_types.specs.Access.{is_allowed}
use Rattle.vm_types.specs.Configuration.{section_pages}
use Rattle.vm_types.specs.Kinds.{is_paged_kind, paged_of}
use Rattle.vm_types.specs.declared.config.Config.{Config}
use Rattle.vm_types.specs.declared.config.Section.{Section}
use Rattle.vm_types.specs.declared.names.BlockId.{BlockId}
use Rattle.vm_types.specs.declared.names.Page.{Page}
use Rattle.vm_types.specs.declared.names.Page.TheVariants.{Private, Shared}
use Rattle.vm_types.specs.declared.reference.Ref.{Ref}
use Rattle.vm_types.specs.declared.reply.Why.{Why}
use Rattle.vm_types.specs.declared.reply.Why.TheVariants as why
use Rattle.vm_journal.specs.declared.entry.Entry.{Entry}
use Rattle.pager_model.specs.Flat.{FlatState, flat_refusal, is_change, is_page_file_full, refusal_at}
use Rattle.pager_model.specs.Lookups.{block_of, entry_of}
use Rattle.pager_model.specs.Maps.{Map, Mapped, is_paged, page_behind, page_number}
use Rattle.pager_model.specs.Pager.{Assigned, Pager}
use Rattle.pager_model.specs.Run.{pager_after}
use Rattle.pager_model.specs.Sets.{has_page}
use Rattle.pager_model.specs.Sound.{HasCharges, IsPagedMapped}
use Rattle.pager_model.specs.Spoken.{flat_after}
use Rattle.pager_laws.proofs.FlatFollows.{follows}
use Rattle.pager_laws.proofs.KeptIsSound.{count_from_has, kept_is_sound}
use Rattle.pager_laws.proofs.OfConfigKept.{charged_right}
use Rattle.pager_rules.proofs.TouchedPages.{same_page_equiv, shorter_list}
use Rattle.frame_store.specs.StoreView.{StoreView}
use Rattle.state_parts.specs.ChargedTable.{kept_at}
use Rattle.pager_laws.proofs.EntryPages.{mapped_right}
use Rattle.state_fits.specs.Pages.{charged_row}
use Rattle.state_fits.specs.Parts.{Parts}
use Rattle.vm_state.specs.PageReadings.{found_in, found_with}
use Rattle.state_pages.specs.PagesShown.{HasWaiting, NoneShared, NoneWaits, is_touched_row, is_waiting}
use Rattle.vm_state.specs.StateKept.{IsState}
use Rattle.state_pages.specs.declared.found.Found.{Found}
use Rattle.vm_state.proofs.Closing.{kept, right}

-- ---- what is kept of a page says whether it is touched
touched_row : (charged touched : List Page) (lies : Page → Option BlockId) (assigned : List Assigned) (g : Page) → (has_page touched g ≡ true → has_page charged g ≡ true)
    → is_touched_row (charged_row charged touched lies assigned g) ≡ has_page touched g
unfolding charged_row
touched_row charged touched lies assigned g within = go (has_page charged g) (has_page touched g) within
  where
    go : (b c : Bool) → (c ≡ true → b ≡ true) → is_touched_row (cond b (Some (record { touched = c; lies = lies g; assigned = block_of assigned g })) None) ≡ c
    go true c is = refl
    go false false is = refl
    go false true is = absurd (false≢true (is refl))

waiting_row : (charged touched : List Page) (lies : Page → Option BlockId) (assigned : List Assigned) (g : Page)
    → is_waiting (charged_row charged touched lies assigned g) ≡ (has_page charged g && not (has_page touched g))
unfolding charged_row
waiting_row charged touched lies assigned g = go (has_page charged g)
  where
    go : (b : Bool) → is_waiting (cond b (Some (record { touched = has_page touched g; lies = lies g; assigned = block_of assigned g })) None) ≡ (b && not (has_page touched g))
    go true = refl
    go false = refl

-- ---- the reasons in their order
abbrev refused : Bool → Bool → Option Why
refused permitted full = cond (not permitted) (Some why.Protected) (cond full (Some why.PageFileFull) None)

module _ {B : Type 0} {seen : B → BlockView} {tells : Tells} {config : Config} {past : List Entry} {spare : ℕ} {store : StoreView B} {fields : Parts} {numbers : List ℕ}
    (before : IsState seen tells config past spare store fields numbers) where
  abbrev a : Pager
  a = pager_after config past

  abbrev flat : FlatState
  flat = flat_after config past

  map_is : a.map ≡ flat.map
  map_is = (follows config past before.formed before.run).map

  touched_is : a.touched ≡ flat.touched
  touched_is = (follows config past before.formed before.run).touched

  charges : HasCharges config a
  charges = (kept_is_sound config past a (kept before)).charges

  -- ---- whether each block of the page file has a touched page
  none_fuller : length a.touched ≤ length a.charged
  none_fuller = length-le_from_is_member same_page_equiv a.touched a.charged charges.touched_once charges.touched

  waits_fewer : HasWaiting fields.pages → length a.touched < length a.charged
  waits_fewer w =
      let both = and_parts (has_page a.charged w.page) (not (has_page a.touched w.page))
      (sym (waiting_row a.charged a.touched a.lies a.assigned w.page) ∙ (ap is_waiting (sym (before.parts.pages.each w.page)) ∙ w.waits)) in
      shorter_list a.touched a.charged w.page charges.touched_once charges.touched (not_true (has_page a.touched w.page) both.1) both.0
    where
      not_true : (b : Bool) → not b ≡ true → b ≡ false
      not_true false is = refl
      not_true true is = absurd (false≢true is)

  -- what the search for a page that waits needs, and what it tells
  pub few_sections : length config.sections < 2 ^ 32
  few_sections = let few = before.formed.sections.few in omega (arith, few)

  pub few_pages : All (λ (s : Section). section_pages s < 2 ^ 32) config.sections
  few_pages k d below =
      let one = get_or-le-sum_by section_pages config.sections k d below in
      let most = before.formed.sections.pages in
      omega (arith, one, most)

  abbrev pub NoneWaitsAnywhere : Type 0
  NoneWaitsAnywhere = ((p : ℕ) → p < length config.procs → NoneWaits fields.pages p) × ((s : ℕ) → s < length config.sections → NoneShared fields.pages config.sections s)

  each_touched : NoneWaitsAnywhere → (g : Page) → has_page a.charged g ≡ true → has_page a.touched g ≡ true
  each_touched none g is = both (has_page a.charged g) (has_page a.touched g) is (sym (waiting_row a.charged a.touched a.lies a.assigned g) ∙ (ap is_waiting (sym (before.parts.pages.each g)) ∙ still g is ((kept_is_sound config past a (kept before)).contents.mapped g is)))
    where
      both : (b c : Bool) → b ≡ true → (b && not c) ≡ false → c ≡ true
      both true true is row = refl
      both true false is row = absurd (true≢false row)
      both false c is row = absurd (false≢true is)

      still : (h : Page) → has_page a.charged h ≡ true → IsPagedMapped config a h → is_waiting (kept_at fields.pages h) ≡ false
      still (Shared s i) there paged =
          let of = (charged_right config a.charged (Shared s i) (count_from_has a.charged (Shared s i) there) (right before).charged).0 in
          let kind : is_paged_kind (of.0).kind ≡ true = sym (ap paged_of of.1) ∙ paged in
          none.1 s.0 (slice_get_within config.sections s.0 of.0 of.1) of.0 of.1 i (subst (λ (n : ℕ). i < n) (sym (ap (λ (b : Bool). cond b (section_pages of.0) 0) kind)) of.2)
      still (Private p v) there mapped =
          let found = mapped_right config a p.0 v (Private p v) (right before) mapped in
          none.0 p.0 (found.3).process v (found.3).page

  not_all : HasWaiting fields.pages → nat_eq (length flat.touched) config.pagefile ≡ false
  not_all w = ap (λ (xs : List Page). nat_eq (length xs) config.pagefile) (sym touched_is) ∙ ne_eqb _ _ (let less = waits_fewer w in let fit = (kept before).fit in λ same. omega (arith, less, fit, same))

  pub not_charged : (n : ℕ) → n ≡ length a.charged → nat_eq n config.pagefile ≡ false → nat_eq (length flat.touched) config.pagefile ≡ false
  not_charged n count other =
      ap (λ (xs : List Page). nat_eq (length xs) config.pagefile) (sym touched_is) ∙ ne_eqb _ _ (let most = none_fuller in let fit = (kept before).fit in λ same. eqb_apart n config.pagefile other (omega (arith, most, fit, same, count)))
    where
      eqb_apart : (m n : ℕ) → nat_eq m n ≡ false → m ≡ n → ⊥
      eqb_apart m n apart same = false≢true (sym apart ∙ eq-eqb m n same)

  -- a page that isn't paged needs none
  pub unpaged_is : (g : Page) (paged : Bool) → paged ≡ is_paged config g → paged ≡ false → false ≡ is_page_file_full config flat g
  unpaged_is g paged is other = ap (λ (b : Bool). (b && not (has_page flat.touched g)) && nat_eq (length flat.touched) config.pagefile) (sym other ∙ is)

  -- while some block of the page file is free no page needs one in vain
  pub blocks_left : (g : Page) (n : ℕ) → n ≡ length a.charged → n < config.pagefile → false ≡ is_page_file_full config flat g
  blocks_left g n count less = by (is_paged config g && not (has_page flat.touched g)) (not_charged n count (ne_eqb _ _ (λ same. omega (arith, less, same))))
    where
      by : (b : Bool) → nat_eq (length flat.touched) config.pagefile ≡ false → false ≡ (b && nat_eq (length flat.touched) config.pagefile)
      by true is = sym is
      by false is = refl

  pub all_is : (n : ℕ) → n ≡ length a.charged → nat_eq n config.pagefile ≡ true → (waits : Bool) → (waits ≡ true → HasWaiting fields.pages) → (waits ≡ false → NoneWaitsAnywhere)
      → not waits ≡ nat_eq (length flat.touched) config.pagefile
  all_is n count full true some none = sym (not_all (some refl))
  all_is n count full false some none =
      let least = length-le_from_is_member same_page_equiv a.charged a.touched charges.once (each_touched (none refl)) in
      let most = none_fuller in
      let charged : n ≡ config.pagefile = eqb-true n config.pagefile full in
      sym (ap (λ (xs : List Page). nat_eq (length xs) config.pagefile) (sym touched_is) ∙ eq-eqb _ _ (omega (arith, least, most, count, charged)))

  -- ---- whether a page needs a block of a full page file
  touched_known : (g : Page) → is_touched_row (kept_at fields.pages g) ≡ has_page flat.touched g
  touched_known g =
      ap is_touched_row (before.parts.pages.each g) ∙ (touched_row a.charged a.touched a.lies a.assigned g (charges.touched g) ∙ ap (λ (xs : List Page). has_page xs g) touched_is)

  abbrev full_by : Page → Bool → Bool → Bool
  full_by g paged touched = (paged && not touched) && nat_eq (length flat.touched) config.pagefile

  pub full_untouched : (g : Page) (paged : Bool) → paged ≡ is_paged config g → paged ≡ true → (touched all : Bool) → touched ≡ is_touched_row (kept_at fields.pages g) → touched ≡ false → all ≡ nat_eq (length flat.touched) config.pagefile
      → all ≡ is_page_file_full config flat g
  full_untouched g paged paged_is in_file touched all is not_touched same =
      same ∙ (λ i. full_by g ((sym in_file ∙ paged_is) i) ((sym not_touched ∙ (is ∙ touched_known g)) i))

  pub full_touched : (g : Page) (touched : Bool) → touched ≡ is_touched_row (kept_at fields.pages g) → touched ≡ true → not touched ≡ is_page_file_full config flat g
  full_touched g touched is was = ap not was ∙ sym (by (is_paged config g) (has_page flat.touched g) (sym (is ∙ touched_known g) ∙ was))
    where
      by : (b c : Bool) → c ≡ true → full_by g b c ≡ false
      by true true is = refl
      by false c is = refl
      by true false is = absurd (false≢true is)

  -- ---- the refusal, by what is found
  pub unmapped_is : (p : ℕ) (r : Ref) → None ≡ found_in config a p (page_number (r.addr).0) → Some why.Unmapped ≡ flat_refusal config flat p r
  unmapped_is p r none = go (a.map p (page_number (r.addr).0)) refl none
    where
      go : (o : Option Mapped) → a.map p (page_number (r.addr).0) ≡ o → None ≡ found_with config p (page_number (r.addr).0) (is_some (entry_of a.valid p (page_number (r.addr).0))) o → Some why.Unmapped ≡ flat_refusal config flat p r
      go None is missing = sym (ap (refusal_at config flat p r) (ap (λ (m : Map). m p (page_number (r.addr).0)) (sym map_is) ∙ is))
      go (Some m) is missing = absurd (none-some _ missing)

  module _ (p : ℕ) (r : Ref) (x : Found) (found : Some x ≡ found_in config a p (page_number (r.addr).0)) where
    refusal_is : refused (is_allowed x.prot r.mode (is_change r.op)) (is_page_file_full config flat x.page) ≡ flat_refusal config flat p r
    refusal_is = go (a.map p (page_number (r.addr).0)) refl found
      where
        go : (o : Option Mapped) → a.map p (page_number (r.addr).0) ≡ o → Some x ≡ found_with config p (page_number (r.addr).0) (is_some (entry_of a.valid p (page_number (r.addr).0))) o
            → refused (is_allowed x.prot r.mode (is_change r.op)) (is_page_file_full config flat x.page) ≡ flat_refusal config flat p r
        go None is none = absurd (none-some x (sym none))
        go (Some m) is some =
            let same : x ≡ record { page = page_behind config p (page_number (r.addr).0) m.origin; from = m.origin; prot = m.prot; valid = is_some (entry_of a.valid p (page_number (r.addr).0)) } = cc in
            ap (λ (y : Found). refused (is_allowed y.prot r.mode (is_change r.op)) (is_page_file_full config flat y.page)) same
            ∙ sym (ap (refusal_at config flat p r) (ap (λ (m : Map). m p (page_number (r.addr).0)) (sym map_is) ∙ is))

    pub code_small : x.prot < 16
    code_small = go (a.map p (page_number (r.addr).0)) refl found
      where
        go : (o : Option Mapped) → a.map p (page_number (r.addr).0) ≡ o → Some x ≡ found_with config p (page_number (r.addr).0) (is_some (entry_of a.valid p (page_number (r.addr).0))) o → x.prot < 16
        go None is none = absurd (none-some x (sym none))
        go (Some m) is some =
            let same : x ≡ record { page = page_behind config p (page_number (r.addr).0) m.origin; from = m.origin; prot = m.prot; valid = is_some (entry_of a.valid p (page_number (r.addr).0)) } = cc in
            subst (λ (n : ℕ). n < 16) (sym (ap (λ (y : Found). y.prot) same)) (((right before).mapped p (page_number (r.addr).0) m is).code).small

    module _ (change permitted : Bool) (change_is : change ≡ is_change r.op) (permitted_is : permitted ≡ is_allowed x.prot r.mode change) where
      permits : is_allowed x.prot r.mode (is_change r.op) ≡ permitted
      permits = sym (permitted_is ∙ ap (is_allowed x.prot r.mode) change_is)

      pub protected_is : permitted ≡ false → Some why.Protected ≡ flat_refusal config flat p r
      protected_is denied = sym (ap (λ (b : Bool). refused b (is_page_file_full config flat x.page)) (permits ∙ denied)) ∙ refusal_is

      pub full_is : permitted ≡ true → (full : Bool) → full ≡ is_page_file_full config flat x.page → full ≡ true → Some why.PageFileFull ≡ flat_refusal config flat p r
      full_is granted full value is = sym ((λ i. refused ((permits ∙ granted) i) ((sym value ∙ is) i))) ∙ refusal_is

      pub none_is : permitted ≡ true → (full : Bool) → full ≡ is_page_file_full config flat x.page → full ≡ false → None ≡ flat_refusal config flat p r
      none_is granted full value is = sym ((λ i. refused ((permits ∙ granted) i) ((sym value ∙ is) i))) ∙ refusal_is
