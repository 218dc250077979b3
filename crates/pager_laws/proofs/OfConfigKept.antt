-- What is mapped, held and assigned is of the configuration: at the opening, and after each legal step.
use Rattle.std.proofs.Common.{◌≡◌, ◌⊎◌, ℕ, ◌+◌, ◌-◌, ◌*◌, ◌^◌, ◌<◌, ◌≤◌, Bool, true, false, cond, ◌&&◌, List, [], ◌∷◌, Option, Some, None, length, find, nat_eq, count_by, slice_get, refl, sym, ◌∙◌, subst, inl, inr, arith}
use Rattle.std.specs.List.{AllByRecursion}
use Rattle.std.specs.Option.{option_map}
use Rattle.std.specs.Prelude.{All, nat_le}
use Rattle.std.proofs.lemmas.Bool.{and_parts, eqb-true, false≢true, leb-true, ltb-true}
use Rattle.std.proofs.lemmas.Option.{none-some, get_or_from_slice_get, slice_get_within}
use Rattle.std.proofs.lemmas.List.Folds.{find_at}
use Rattle.std.specs.List.{position_or_len}
use Rattle.vm_types.specs.declared.limits.TheConstants.{P0_PAGES, P1_PAGES, PAGE_BYTES}
use Rattle.vm_types.specs.Configuration.{IsBlock}
use Rattle.vm_types.specs.declared.names.SecId.{SecId}
use Rattle.pager_model.specs.Lookups.{count_page, is_assigned_to}
use Rattle.pager_model.specs.Zero.{zeroed_page}
use Rattle.vm_types.specs.Configuration.{IsWellFormed, IsMapping, HasPages}
use Rattle.vm_types.specs.Same.{same_page}
use Rattle.vm_types.specs.WellFormed.{IsRange, IsWellFormedService}
use Rattle.vm_types.specs.declared.names.Page.{Page}
use Rattle.vm_types.specs.declared.names.Page.TheVariants.{Private, Shared}
use Rattle.vm_types.specs.declared.names.BlockId.{BlockId}
use Rattle.vm_types.specs.declared.names.BlockId.TheVariants as block
use Rattle.vm_types.specs.declared.names.ProcStatus.{ProcStatus}
use Rattle.vm_types.specs.declared.names.ProcStatus.TheVariants as status
use Rattle.vm_types.specs.declared.config.Config.{Config}
use Rattle.vm_types.specs.declared.config.Mapping.{Mapping}
use Rattle.vm_types.specs.declared.config.Origin.{Origin}
use Rattle.vm_types.specs.declared.config.Origin.TheVariants as origin
use Rattle.vm_types.specs.declared.reply.Answer.{Answer}
use Rattle.vm_types.specs.declared.reply.Answer.TheVariants as answer
use Rattle.vm_types.specs.declared.service.Service.{Service}
use Rattle.vm_types.specs.declared.service.Service.TheVariants as service
use Rattle.vm_journal.specs.declared.entry.Entry.{Entry}
use Rattle.vm_journal.specs.declared.entry.Role.{Role}
use Rattle.vm_journal.specs.declared.entry.Role.TheVariants as role
use Rattle.vm_journal.specs.declared.entry.What.{What}
use Rattle.vm_journal.specs.declared.entry.What.TheVariants as what
use Rattle.vm_journal.specs.HasLine.{WhatHasLine}
use Rattle.pager_model.specs.Around.{past_view}
use Rattle.pager_model.specs.Flights.{Flight, Direction, failed_flight, reading, writing, open_flights}
use Rattle.pager_model.specs.FlatService.{demand_zero, in_range, map_range, with_prot}
use Rattle.pager_model.specs.Forget.{forget_all, forgotten_in, holder, own_pages, put_at, range_of}
use Rattle.pager_model.specs.In.{IsIn, after_in, charged_with, is_kin}
use Rattle.pager_model.specs.InOk.{after_in_ok}
use Rattle.pager_model.specs.Back.{after_any_back}
use Rattle.pager_model.specs.Changes.{is_section_block, without_page}
use Rattle.pager_model.specs.Lookups.{page_at, page_by}
use Rattle.pager_model.specs.Maps.{Map, Mapped, covers, first_map, is_paged, is_private, mapped_by, origin_after, page_behind, page_number, proc, shared_of}
use Rattle.pager_model.specs.OfConfig.{IsMappable, IsOrigin, IsMappedRight, IsPageOf, MapsRight, HoldsRight, IsOfConfig}
use Rattle.pager_model.specs.Opening.{opening}
use Rattle.pager_model.specs.Out.{IsAnyOut, after_any_out, assigned_with}
use Rattle.pager_model.specs.OutLanding.{after_out_ok, marked}
use Rattle.pager_model.specs.Pager.{Pager, Assigned}
use Rattle.pager_model.specs.Reuse.{charged_reused}
use Rattle.pager_model.specs.Run.{pager_after, IsRun}
use Rattle.pager_model.specs.Served.{IsServed, after_served}
use Rattle.pager_model.specs.Sets.{at_number}
use Rattle.pager_model.specs.Step.{IsLegalWhat, after_what}
use Rattle.pager_model.specs.Transfers.{starts}
use Rattle.pager_rules.specs.Kept.{IsKept}
use Rattle.pager_rules.proofs.Basics.{at_number_cases, pages_equal}
use Rattle.pager_rules.proofs.Lists.{all_filter, all_found, found_one, found_passes}
use Rattle.pager_rules.proofs.Pages.{zeroed_mapped}
use Rattle.pager_laws.proofs.DeleteKept.{untouched}
use Rattle.pager_laws.proofs.RunsAreSound.{run_kept}

-- ---- mapped pages
-- the page behind a right mapping
behind_right : (config : Config) (p v : ℕ) (m : Mapped) → IsMappedRight config p v m → IsPageOf config (page_behind config p v m.origin)
behind_right config p v m right = by m.origin right.origin
  where
    by : (o : Origin) → IsOrigin config o → IsPageOf config (page_behind config p v o)
    by origin.Zero there = (right.process, right.page)
    by (origin.Section s i) there = go (shared_of (slice_get config.sections s.0)) refl
      where
        go : (c : Bool) → shared_of (slice_get config.sections s.0) ≡ c → IsPageOf config (cond c (Shared s i) (Private (proc p) v))
        go true is = (there, is)
        go false is = (right.process, right.page)

pub page_right : (config : Config) (map : Map) (p v : ℕ) (g : Page) → MapsRight config map → page_by config map p v ≡ Some g → IsPageOf config g
page_right config map p v g right = go (map p v) refl
  where
    go : (o : Option Mapped) → map p v ≡ o → page_at config p v o ≡ Some g → IsPageOf config g
    go None is own = absurd (none-some g own)
    go (Some m) is own = let same : page_behind config p v m.origin ≡ g = cc in subst (IsPageOf config) same (behind_right config p v m (right p v m is))

-- ---- the maps of the configuration
in_pages : (address pages v : ℕ) → IsRange address pages → page_number address ≤ v → v < page_number address + pages → IsMappable v
in_pages address pages v range low high = by range.inside
  where
    by : (address + PAGE_BYTES * pages ≤ PAGE_BYTES * P0_PAGES) ⊎ ((2 ^ 31 - PAGE_BYTES * P1_PAGES ≤ address) × (address + PAGE_BYTES * pages ≤ 2 ^ 31)) → IsMappable v
    by (inl below) = inl (omega (arith, range.aligned))
    by (inr above) = inr (omega (arith, range.aligned, above.0), omega (arith, range.aligned, above.1))

origin_right : (config : Config) (o : Origin) (pages n : ℕ) → HasPages config.sections o pages → n < pages → IsOrigin config (origin_after o n)
origin_right config origin.Zero pages n has few = tt
origin_right config (origin.Section s first) pages n has few = (has.0, has.1, omega (arith, has.2))

mapped_right : (config : Config) (p v : ℕ) (m : Mapping) → IsMapping (length config.procs) config.sections m → covers p v m ≡ true → IsMappedRight config p v (mapped_by v m)
mapped_right config p v m is covered =
    let parts = and_parts (nat_eq (m.proc).0 p) _ covered in
    let inside = and_parts (nat_le (page_number (m.at).0) v) _ parts.1 in
    let low = leb-true _ _ inside.0 in
    let high = ltb-true _ _ inside.1 in
    let same : (m.proc).0 ≡ p = eqb-true _ _ parts.0 in
    record {
      process = subst (λ (q : ℕ). q < length config.procs) same is.proc;
      page = in_pages (m.at).0 m.pages v is.range low high;
      origin = origin_right config m.from m.pages (v - page_number (m.at).0) is.origin (omega (arith, low, high));
      code = is.code;
    }

first_right : (config : Config) → IsWellFormed config → MapsRight config (first_map config)
first_right config formed p v m = go (find (covers p v) config.maps) refl
  where
    go : (o : Option Mapping) → find (covers p v) config.maps ≡ o → option_map (mapped_by v) o ≡ Some m → IsMappedRight config p v m
    go None is mapped = absurd (none-some m mapped)
    go (Some x) is mapped =
        let same : mapped_by v x ≡ m = cc in
        subst (IsMappedRight config p v) same (mapped_right config p v x (found_in config.maps formed.maps is) (found_passes (covers p v) config.maps x is))
      where
        found_in : (maps : List Mapping) → All (IsMapping (length config.procs) config.sections) maps → find (covers p v) maps ≡ Some x → IsMapping (length config.procs) config.sections x
        found_in maps all found =
            let there : slice_get maps (position_or_len (covers p v) maps) ≡ Some x = sym (find_at (covers p v) maps) ∙ found in
            subst (IsMapping (length config.procs) config.sections) (get_or_from_slice_get maps _ x x there) (all _ x (slice_get_within maps _ x there))

pub opening_right : (config : Config) → IsWellFormed config → IsOfConfig config (opening config)
opening_right config formed = record { mapped = first_right config formed; held = λ f g held. absurd (none-some g held); charged = tt; assigned = tt; absent = λ p past. refl }

-- ---- what is held
put_right : (config : Config) (page : ℕ → Option Page) (f : ℕ) (o : Option Page) → ((g : Page) → o ≡ Some g → IsPageOf config g) → HoldsRight config page → HoldsRight config (at_number page f o)
put_right config page f o here old h = at_number_cases (λ (n : ℕ) (p : Option Page). (g : Page) → p ≡ Some g → IsPageOf config g) page f o here (λ n apart g held. old n g held) h

none_right : (config : Config) (g : Page) → None ≡ Some g → IsPageOf config g
none_right config g held = absurd (none-some g held)

emptied_right : (config : Config) (page : ℕ → Option Page) (o : Option ℕ) → HoldsRight config page → HoldsRight config (put_at page o None)
emptied_right config page None old = old
emptied_right config page (Some f) old = put_right config page f None (none_right config) old

all_emptied : (config : Config) (pages : List Page) (a : Pager) → HoldsRight config a.page → HoldsRight config (forget_all config pages a).page
all_emptied config [] a old = old
all_emptied config (g ∷ pages) a old = all_emptied config pages (forgotten_in a g (holder config a.page g)) (emptied_right config a.page (holder config a.page g) old)

all_charged : (config : Config) (pages : List Page) (a : Pager) → AllByRecursion (IsPageOf config) a.charged → AllByRecursion (IsPageOf config) (forget_all config pages a).charged
all_charged config [] a old = old
all_charged config (g ∷ pages) a old = all_charged config pages (forgotten_in a g (holder config a.page g)) (all_filter (IsPageOf config) _ a.charged old)

-- a page that is charged
pub charged_right : (config : Config) (pages : List Page) (g : Page) → 0 < count_page pages g → AllByRecursion (IsPageOf config) pages → IsPageOf config g
charged_right config pages g some all =
    let found = found_one (same_page g) pages some in
    subst (IsPageOf config) (sym (pages_equal g found.0 (found_passes (same_page g) pages found.0 found.1))) (all_found (IsPageOf config) (same_page g) pages found.0 all found.1)

charged_more : (config : Config) (charged : List Page) (o : Option Page) → ((g : Page) → o ≡ Some g → IsPageOf config g) → AllByRecursion (IsPageOf config) charged → AllByRecursion (IsPageOf config) (charged_with charged o)
charged_more config charged None right old = old
charged_more config charged (Some g) right old = by (is_private g && nat_eq (count_page charged g) 0)
  where
    by : (b : Bool) → AllByRecursion (IsPageOf config) (cond b (g ∷ charged) charged)
    by true = (right g refl, old)
    by false = old

charged_less : (config : Config) (charged : List Page) (o : Option Flight) (g : Page) → AllByRecursion (IsPageOf config) charged → AllByRecursion (IsPageOf config) (charged_reused o g charged)
charged_less config charged None g old = old
charged_less config charged (Some x) g old = by (is_private g && is_section_block x.block)
  where
    by : (b : Bool) → AllByRecursion (IsPageOf config) (cond b (without_page charged g) charged)
    by true = all_filter (IsPageOf config) _ charged old
    by false = old

abbrev InFile : Config → List Assigned → Type 0
InFile config assigned = AllByRecursion (λ (x : Assigned). x.block < config.pagefile) assigned

all_in_file : (config : Config) (pages : List Page) (a : Pager) → InFile config a.assigned → InFile config (forget_all config pages a).assigned
all_in_file config [] a old = old
all_in_file config (g ∷ pages) a old = all_in_file config pages (forgotten_in a g (holder config a.page g)) (all_filter (λ (x : Assigned). x.block < config.pagefile) _ a.assigned old)

-- ---- maps that change
remapped_right : (config : Config) (map : Map) (change : Option Mapped → Option Mapped) (p address pages : ℕ) → MapsRight config map
    → ((v : ℕ) (m : Mapped) → in_range address pages v ≡ true → change (map p v) ≡ Some m → IsMappedRight config p v m) → MapsRight config (map_range change p address pages map)
remapped_right config map change p address pages old new q v m = go (nat_eq p q) refl (in_range address pages v) refl
  where
    go : (c : Bool) → nat_eq p q ≡ c → (d : Bool) → in_range address pages v ≡ d → cond (c && d) (change (map q v)) (map q v) ≡ Some m → IsMappedRight config q v m
    go true same true inside is = subst (λ (r : ℕ). change (map r v) ≡ Some m → IsMappedRight config r v m) (eqb-true p q same) (new v m inside) is
    go true same false inside is = old q v m is
    go false same d inside is = old q v m is

pub in_service : (address pages v : ℕ) → IsRange address pages → in_range address pages v ≡ true → IsMappable v
in_service address pages v range inside =
    let parts = and_parts (nat_le (page_number address) v) _ inside in
    in_pages address pages v range (leb-true _ _ parts.0) (ltb-true _ _ parts.1)

served_right : (config : Config) (past : List Entry) (a : Pager) (p : ℕ) (s : Service) (w : Answer) → IsServed config past a p s w → IsWellFormedService s → IsOfConfig config a → IsOfConfig config (after_served config a p s w)
served_right config past a p (service.Create at pages prot) answer.Good legal formed old = record {
  mapped = remapped_right config a.map (λ (o : Option Mapped). Some (demand_zero prot)) p at.0 pages old.mapped (λ v m inside is.
      let same : demand_zero prot ≡ m = cc in
      subst (IsMappedRight config p v) same (record { process = legal.0.process; page = in_service at.0 pages v formed.0 inside; origin = tt; code = formed.1 }));
  held = old.held;
  charged = old.charged;
  assigned = old.assigned;
  absent = old.absent;
}
served_right config past a p (service.Delete at pages) answer.Good legal formed old = record {
  mapped = remapped_right config (forget_all config gone a).map (λ (o : Option Mapped). None) p at.0 pages
      (subst (MapsRight config) (sym (untouched config (λ (x : Pager). x.map) (λ x g. refl) gone a)) old.mapped) (λ v m inside is. absurd (none-some m is));
  held = all_emptied config gone a old.held;
  charged = all_charged config gone a old.charged;
  assigned = all_in_file config gone a old.assigned;
  absent = subst (λ (s : ℕ → ProcStatus). (q : ℕ) → length config.procs ≤ q → s q ≡ status.Resident) (sym (untouched config (λ (x : Pager). x.status) (λ x g. refl) gone a)) old.absent;
}
  where
    gone : List Page
    gone = own_pages config a.map p (range_of at.0 pages)
served_right config past a p (service.Protect at pages prot) answer.Good legal formed old = record {
  mapped = remapped_right config a.map (option_map (with_prot prot)) p at.0 pages old.mapped (λ v m inside is. protected v m (a.map p v) refl is);
  held = old.held;
  charged = old.charged;
  assigned = old.assigned;
  absent = old.absent;
}
  where
    protected : (v : ℕ) (m : Mapped) (o : Option Mapped) → a.map p v ≡ o → option_map (with_prot prot) o ≡ Some m → IsMappedRight config p v m
    protected v m None is changed = absurd (none-some m changed)
    protected v m (Some x) is changed =
        let same : with_prot prot x ≡ m = cc in
        let right = old.mapped p v x is in
        subst (IsMappedRight config p v) same (record { process = right.process; page = right.page; origin = right.origin; code = formed.1 })
served_right config past a p (service.Lock at pages) (answer.Count n) legal formed old = record { mapped = old.mapped; held = old.held; charged = old.charged; assigned = old.assigned; absent = old.absent }
served_right config past a p (service.Unlock at pages) (answer.Count n) legal formed old = record { mapped = old.mapped; held = old.held; charged = old.charged; assigned = old.assigned; absent = old.absent }
served_right config past a p (service.Pin at pages) (answer.Count n) legal formed old = record { mapped = old.mapped; held = old.held; charged = old.charged; assigned = old.assigned; absent = old.absent }
served_right config past a p (service.Unpin at pages) (answer.Count n) legal formed old = record { mapped = old.mapped; held = old.held; charged = old.charged; assigned = old.assigned; absent = old.absent }
served_right config past a p (service.Adjust n) answer.Good legal formed old = record { mapped = old.mapped; held = old.held; charged = old.charged; assigned = old.assigned; absent = old.absent }
served_right config past a p s other legal formed old = old

-- ---- reads
-- a page that lies in a block of the configuration, of the same section or process as a page that is right
near_right : (config : Config) (past : List Entry) (a : Pager) (b : BlockId) (h g : Page) → IsKept config (past_view past) a → IsOfConfig config a → a.lies g ≡ Some b → IsBlock config b → is_kin h g ≡ true → IsPageOf config h → IsPageOf config g
near_right config past a b h (Private p v) kept old lies there kin right =
    let one = (kept.pages (Private p v)).lying b refl lies in
    page_right config a.map p.0 v (Private p v) old.mapped ((kept.pages (Private p v)).mapped (omega (arith, one)) refl)
near_right config past a b (Private q w) (Shared s i) kept old lies there kin right = absurd (false≢true kin)
near_right config past a b (Shared t j) (Shared s i) kept old lies there kin right = go (is_paged config (Shared s i)) refl
  where
    go : (c : Bool) → is_paged config (Shared s i) ≡ c → IsPageOf config (Shared s i)
    go true paged = charged_right config a.charged (Shared s i) (omega (arith, (kept.pages (Shared s i)).lying b paged lies)) old.charged
    go false file =
        let own = (kept.pages (Shared s i)).shared s i refl file in
        let same : b ≡ block.Section s i = cc (lies, own) in
        let section : t.0 ≡ s.0 = eqb-true t.0 s.0 kin in
        let exists : IsBlock config (block.Section s i) = subst (IsBlock config) same there in
        (exists.0, subst (λ (n : ℕ). shared_of (slice_get config.sections n) ≡ true) section right.1)

in_right : (config : Config) (past : List Entry) (a : Pager) (p f : ℕ) (b : BlockId) (r : Role) → IsKept config (past_view past) a → IsIn r config past a p f b → IsOfConfig config a → IsOfConfig config (after_in config a f r)
in_right config past a p f b (role.Fault q address) kept legal old = record {
  mapped = old.mapped;
  held = put_right config a.page f (page_by config a.map q.0 (page_number address.0)) (λ g own. page_right config a.map q.0 (page_number address.0) g old.mapped own) old.held;
  charged = charged_more config a.charged (page_by config a.map q.0 (page_number address.0)) (λ g own. page_right config a.map q.0 (page_number address.0) g old.mapped own) old.charged;
  assigned = old.assigned;
  absent = old.absent;
}
in_right config past a p f b (role.Near g) kept legal old = record {
  mapped = old.mapped;
  held = put_right config a.page f (Some g) (λ h own. let same : g ≡ h = cc in
      subst (IsPageOf config) same (near_right config past a b legal.before g kept old legal.lying.lies legal.lying.home.exists legal.kin (old.held legal.last.frame legal.before legal.holds))) old.held;
  charged = old.charged;
  assigned = old.assigned;
  absent = old.absent;
}
in_right config past a p f b (role.Come q address) kept legal old = record {
  mapped = old.mapped;
  held = put_right config a.page f (page_by config a.map q.0 (page_number address.0)) (λ g own. page_right config a.map q.0 (page_number address.0) g old.mapped own) old.held;
  charged = old.charged;
  assigned = old.assigned;
  absent = old.absent;
}

-- ---- landings, writes, and pages that come back
in_ok_right : (config : Config) (a : Pager) (f : ℕ) (o : Option Flight) → IsOfConfig config a → IsOfConfig config (after_in_ok a f o)
in_ok_right config a f None old = old
in_ok_right config a f (Some x) old = by x.direction
  where
    by : (d : Direction) → IsOfConfig config (after_in_ok a f (Some (record x { direction = d })))
    by (reading (role.Fault q address)) = record { mapped = old.mapped; held = old.held; charged = old.charged; assigned = old.assigned; absent = old.absent }
    by (reading (role.Near near)) = record { mapped = old.mapped; held = old.held; charged = old.charged; assigned = old.assigned; absent = old.absent }
    by (reading (role.Come q address)) = record { mapped = old.mapped; held = old.held; charged = old.charged; assigned = old.assigned; absent = old.absent }
    by writing = old

out_ok_right : (config : Config) (a : Pager) (f : ℕ) (o : Option Flight) → IsOfConfig config a → IsOfConfig config (after_out_ok a f o)
out_ok_right config a f None old = old
out_ok_right config a f (Some x) old = record { mapped = old.mapped; held = old.held; charged = old.charged; assigned = old.assigned; absent = old.absent }

back_right : (config : Config) (a : Pager) (s : ProcStatus) (p address f : ℕ) → IsOfConfig config a → IsOfConfig config (after_any_back a s p address f)
back_right config a status.Coming p address f old = record { mapped = old.mapped; held = old.held; charged = old.charged; assigned = old.assigned; absent = old.absent }
back_right config a other p address f old = record { mapped = old.mapped; held = old.held; charged = old.charged; assigned = old.assigned; absent = old.absent }

-- a block that is newly assigned is one of the page file
assigned_right : (config : Config) (assigned : List Assigned) (o : Option Page) (n : ℕ) → n < config.pagefile → InFile config assigned → InFile config (assigned_with assigned o (block.PageFile n))
assigned_right config assigned None n few old = old
assigned_right config assigned (Some g) n few old = go (nat_eq (count_by (is_assigned_to g) assigned) 0)
  where
    go : (c : Bool) → InFile config (cond c (record { page = g; block = n } ∷ assigned) assigned)
    go true = (few, old)
    go false = old

assigned_other : (config : Config) (assigned : List Assigned) (o : Option Page) (s : SecId) (i : ℕ) → InFile config assigned → InFile config (assigned_with assigned o (block.Section s i))
assigned_other config assigned None s i old = old
assigned_other config assigned (Some g) s i old = old

out_right : (config : Config) (a : Pager) (f : ℕ) (b : BlockId) → IsBlock config b → IsOfConfig config a → IsOfConfig config (after_any_out a f b)
out_right config a f (block.Swap p n) there old = record { mapped = old.mapped; held = old.held; charged = old.charged; assigned = old.assigned; absent = old.absent }
out_right config a f (block.PageFile n) there old = record { mapped = old.mapped; held = old.held; charged = old.charged; assigned = assigned_right config a.assigned (a.page f) n there old.assigned; absent = old.absent }
out_right config a f (block.Section s i) there old = record { mapped = old.mapped; held = old.held; charged = old.charged; assigned = assigned_other config a.assigned (a.page f) s i old.assigned; absent = old.absent }

home_of_out : (config : Config) (past : List Entry) (a : Pager) (f : ℕ) (b : BlockId) → IsAnyOut config past a f b → IsBlock config b
home_of_out config past a f b (inl legal) = legal.home.exists
home_of_out config past a f b (inr legal) = legal.home.exists

-- a process that isn't there has no TURN
turned_absent : (config : Config) (status_of : ℕ → ProcStatus) (p : ℕ) (s : ProcStatus) → p < length config.procs
    → ((q : ℕ) → length config.procs ≤ q → status_of q ≡ status.Resident) → (q : ℕ) → length config.procs ≤ q → at_number status_of p s q ≡ status.Resident
turned_absent config status_of p s there old = at_number_cases (λ (n : ℕ) (t : ProcStatus). length config.procs ≤ n → t ≡ status.Resident) status_of p s (λ past. absurd (omega (arith, there, past))) (λ n apart past. old n past)

row_right : (config : Config) (past : List Entry) (a : Pager) (p : ℕ) (w : What) → IsKept config (past_view past) a → IsLegalWhat config past a p w → WhatHasLine (length config.procs) config.sections w → IsOfConfig config a
    → IsOfConfig config (after_what config past a p w)
row_right config past a p (what.Served s w) kept legal line old = served_right config past a p s w legal line.0 old
row_right config past a p (what.Reuse f g) kept legal line old = record { mapped = old.mapped; held = put_right config a.page f.0 None (none_right config) old.held; charged = charged_less config a.charged (failed_flight past) g old.charged; assigned = old.assigned; absent = old.absent }
row_right config past a p (what.Zero address f) kept legal line old = record {
  mapped = old.mapped;
  held = put_right config a.page f.0 (Some x) (λ g own. let same : x ≡ g = cc in subst (IsPageOf config) same right) old.held;
  charged = (right, old.charged);
  assigned = old.assigned;
  absent = old.absent;
}
  where
    x : Page
    x = zeroed_page config p (page_number address.0) (a.map p (page_number address.0))

    right : IsPageOf config x
    right = page_right config a.map p (page_number address.0) x old.mapped (zeroed_mapped config p (page_number address.0) (a.map p (page_number address.0)) legal.demand_zero)
row_right config past a p (what.In f b r) kept legal line old = in_right config past a p f.0 b r kept legal old
row_right config past a p (what.InOk f k) kept legal line old = in_ok_right config a f.0 (find (starts k) (open_flights past)) old
row_right config past a p (what.Out f b) kept legal line old = out_right config a f.0 b (home_of_out config past a f.0 b legal) old
row_right config past a p (what.OutOk f k) kept legal line old = out_ok_right config a f.0 (find (starts k) (open_flights past)) old
row_right config past a p (what.OutFail f k c d) kept legal line old =
    out_ok_right config (marked a f.0) f.0 (find (starts k) (open_flights past)) (record { mapped = old.mapped; held = old.held; charged = old.charged; assigned = old.assigned; absent = old.absent })
row_right config past a p (what.Back q address f from) kept legal line old = back_right config a (a.status q.0) q.0 address.0 f.0 old
row_right config past a p (what.Turn q s) kept legal line old = record { mapped = old.mapped; held = old.held; charged = old.charged; assigned = old.assigned; absent = turned_absent config a.status q.0 s legal.process old.absent }
row_right config past a p other kept legal line old = record { mapped = old.mapped; held = old.held; charged = old.charged; assigned = old.assigned; absent = old.absent }

pub run_right : (config : Config) (past : List Entry) → IsWellFormed config → IsRun config past → IsOfConfig config (pager_after config past)
run_right config [] formed run = opening_right config formed
run_right config (e ∷ past) formed run =
    row_right config past (pager_after config past) (e.seat).0 e.what (run_kept config past formed run.0) run.1.row run.1.line.what (run_right config past formed run.0)
