-- The pages of a range of a process get another protection code, or are mapped to zeros: their page table
-- entries, and what is behind them, change.
use Rattle.std.proofs.Common.{◌≡◌, ℕ, Bool, true, false, cond, List, Option, Some, None, nat_eq, refl, sym, ap, ◌∙◌, subst, arith}
use Rattle.std.specs.Prelude.{◌&&◌, if◌then◌else◌}
use Rattle.std.specs.Option.{option_map}
use Rattle.std.proofs.lemmas.Bool.{and_parts, eqb-true}
use Rattle.std.proofs.lemmas.Option.{none-some}
use Rattle.vm_types.specs.declared.config.Config.{Config}
use Rattle.vm_types.specs.declared.config.Origin.{Origin}
use Rattle.vm_types.specs.declared.config.Origin.TheVariants as origin
use Rattle.vm_types.specs.declared.names.BlockId.{BlockId}
use Rattle.vm_types.specs.declared.names.Page.{Page}
use Rattle.vm_types.specs.declared.names.Page.TheVariants.{Private}
use Rattle.vm_journal.specs.declared.entry.Entry.{Entry}
use Rattle.page_tables.specs.PageTables.{PageTables, pte_in}
use Rattle.pte_forms.specs.declared.pte.Place.TheVariants as place
use Rattle.pte_forms.specs.declared.pte.Pte.{Pte}
use Rattle.section_table.specs.SectionTable.{SectionTable, behind_of}
use Rattle.pager_model.specs.Around.{past_view}
use Rattle.pager_model.specs.FlatService.{demand_zero, in_range, map_range, with_prot}
use Rattle.pager_model.specs.Forget.{holder, remapped}
use Rattle.pager_model.specs.Lookups.{entry_of, page_at, page_by}
use Rattle.pager_model.specs.Maps.{Map, Mapped, proc}
use Rattle.pager_model.specs.Pager.{Pager, Valid}
use Rattle.pager_rules.specs.Kept.{IsKept}
use Rattle.pager_laws.proofs.Holders.{holder_none, no_block_lies}
use Rattle.pager_laws.proofs.ValidEntries.{valid_at_page}
use Rattle.state_fits.specs.Entries.{pte_at, pte_of}
use Rattle.state_fits.specs.Parts.{Parts}
use Rattle.state_fits.specs.PartsFit.{PartsFit}
use Rattle.state_fits.specs.Serving.{ranged, with_code}

module _ (config : Config) (past : List Entry) (a : Pager) (p address pages : ℕ) (parts : Parts) (fit : PartsFit config past a parts) where
  -- ---- another protection code
  module _ (prot : ℕ) where
    abbrev coded : Map
    coded = map_range (option_map (with_prot prot)) p address pages a.map

    code_at : (q w : ℕ) (b : Bool) (valid : Option Valid) (holds : Page → Option ℕ) (lies : Page → Option BlockId) (o : Option Mapped)
        → pte_at config q w holds lies valid (cond b (option_map (with_prot prot) o) o) ≡ cond b (option_map (with_code prot) (pte_at config q w holds lies valid o)) (pte_at config q w holds lies valid o)
    code_at q w false valid holds lies o = refl
    code_at q w true valid holds lies None = refl
    code_at q w true valid holds lies (Some m) = refl

    coded_pte : (q w : ℕ) → pte_of config coded a.valid a.page a.lies q w ≡ ranged (option_map (with_code prot)) p address pages (pte_of config a.map a.valid a.page a.lies) q w
    unfolding pte_of
    coded_pte q w = code_at q w (nat_eq p q && in_range address pages w) (entry_of a.valid q w) (holder config a.page) a.lies (a.map q w)

    coded_origin : (b : Bool) (o : Option Mapped) → option_map (λ (m : Mapped). m.origin) (cond b (option_map (with_prot prot) o) o) ≡ option_map (λ (m : Mapped). m.origin) o
    coded_origin false o = refl
    coded_origin true None = refl
    coded_origin true (Some m) = refl

    pub protected : (tables' : PageTables) → tables'.procs ≡ (parts.tables).procs → ((q w : ℕ) → pte_in tables' q w ≡ ranged (option_map (with_code prot)) p address pages (pte_in parts.tables) q w)
        → PartsFit config past (remapped (option_map (with_prot prot)) p address pages a) (record parts { tables = tables' })
    protected tables' procs changed =
        record {
          frames = fit.frames;
          flights = fit.flights;
          processes = fit.processes;
          spoken = fit.spoken;
          tables = record {
            procs = procs ∙ fit.tables.procs;
            each = λ q w. changed q w ∙ (ap (λ (o : Option Pte). if nat_eq p q && in_range address pages w then option_map (with_code prot) o else o) (fit.tables.each q w) ∙ sym (coded_pte q w));
          };
          sections = record {
            procs = fit.sections.procs;
            kinds = fit.sections.kinds;
            each = λ q w. fit.sections.each q w ∙ sym (coded_origin (nat_eq p q && in_range address pages w) (a.map q w));
          };
          pages = fit.pages;
          globals = fit.globals;
          file = fit.file;
          swaps = fit.swaps;
          seats = fit.seats;
          failed = fit.failed;
        }

  -- ---- zeros
  module _ (prot : ℕ) (kept : IsKept config (past_view past) a) (free : (v : ℕ) → in_range address pages v ≡ true → a.map p v ≡ None) where
    abbrev zeroed : Map
    zeroed = map_range (λ (old : Option Mapped). Some (demand_zero prot)) p address pages a.map

    abbrev zero_pte : Option Pte
    zero_pte = Some (record { prot = prot; place = place.DemandZero })

    -- a page that isn't mapped has no valid entry, is in no frame and lies nowhere
    unmapped : (q w : ℕ) → a.map q w ≡ None → page_by config a.map q w ≡ None
    unmapped q w none = ap (page_at config q w) none

    not_valid : (q w : ℕ) → a.map q w ≡ None → entry_of a.valid q w ≡ None
    not_valid q w none = go (entry_of a.valid q w) refl
      where
        go : (o : Option Valid) → entry_of a.valid q w ≡ o → o ≡ None
        go None is = refl
        go (Some e) is = let at = valid_at_page config past a q w e kept is in absurd (none-some at.page (sym (unmapped q w none) ∙ at.mapped))

    not_held : (q w : ℕ) → a.map q w ≡ None → holder config a.page (Private (proc q) w) ≡ None
    not_held q w none = holder_none config a.page (Private (proc q) w)
        (λ f holds. none-some (Private (proc q) w) (sym (unmapped q w none) ∙ (kept.pages (Private (proc q) w)).mapped (kept.held_charged f (Private (proc q) w) refl holds) refl))

    lies_nowhere : (q w : ℕ) → a.map q w ≡ None → a.lies (Private (proc q) w) ≡ None
    lies_nowhere q w none = no_block_lies (a.lies (Private (proc q) w))
        (λ b lies. let one = (kept.pages (Private (proc q) w)).lying b refl lies in none-some (Private (proc q) w) (sym (unmapped q w none) ∙ (kept.pages (Private (proc q) w)).mapped (omega (arith, one)) refl))

    zero_at : (q w : ℕ) → a.map q w ≡ None → pte_at config q w (holder config a.page) a.lies (entry_of a.valid q w) (Some (demand_zero prot)) ≡ zero_pte
    zero_at q w none = rw (not_valid q w none, not_held q w none, lies_nowhere q w none) refl

    inside : (q w : ℕ) → (nat_eq p q && in_range address pages w) ≡ true → a.map q w ≡ None
    inside q w is =
        let both = and_parts (nat_eq p q) (in_range address pages w) is in
        subst (λ (r : ℕ). a.map r w ≡ None) (eqb-true p q both.0) (free w both.1)

    zeroed_pte : (q w : ℕ) → pte_of config zeroed a.valid a.page a.lies q w ≡ ranged (λ (old : Option Pte). zero_pte) p address pages (pte_of config a.map a.valid a.page a.lies) q w
    unfolding pte_of
    zeroed_pte q w = go (nat_eq p q && in_range address pages w) refl
      where
        go : (b : Bool) → (nat_eq p q && in_range address pages w) ≡ b
            → pte_at config q w (holder config a.page) a.lies (entry_of a.valid q w) (cond b (Some (demand_zero prot)) (a.map q w)) ≡ cond b zero_pte (pte_at config q w (holder config a.page) a.lies (entry_of a.valid q w) (a.map q w))
        go true is = zero_at q w (inside q w is)
        go false is = refl

    zeroed_origin : (b : Bool) (o : Option Mapped) → option_map (λ (m : Mapped). m.origin) (cond b (Some (demand_zero prot)) o) ≡ cond b (Some origin.Zero) (option_map (λ (m : Mapped). m.origin) o)
    zeroed_origin true o = refl
    zeroed_origin false o = refl

    pub created : (tables' : PageTables) → tables'.procs ≡ (parts.tables).procs → ((q w : ℕ) → pte_in tables' q w ≡ ranged (λ (old : Option Pte). Some (record { prot = prot; place = place.DemandZero })) p address pages (pte_in parts.tables) q w)
        → (sections' : SectionTable) → sections'.procs ≡ (parts.sections).procs → sections'.parts ≡ (parts.sections).parts
        → ((q w : ℕ) → behind_of sections' q w ≡ ranged (λ (old : Option Origin). Some origin.Zero) p address pages (behind_of parts.sections) q w)
        → PartsFit config past (remapped (λ (old : Option Mapped). Some (demand_zero prot)) p address pages a) (record parts { tables = tables'; sections = sections' })
    created tables' procs changed sections' procs' kinds behind =
        record {
          frames = fit.frames;
          flights = fit.flights;
          processes = fit.processes;
          spoken = fit.spoken;
          tables = record {
            procs = procs ∙ fit.tables.procs;
            each = λ q w. changed q w ∙ (ap (λ (o : Option Pte). if nat_eq p q && in_range address pages w then zero_pte else o) (fit.tables.each q w) ∙ sym (zeroed_pte q w));
          };
          sections = record {
            procs = procs' ∙ fit.sections.procs;
            kinds = kinds ∙ fit.sections.kinds;
            each = λ q w. behind q w ∙ (ap (λ (o : Option Origin). if nat_eq p q && in_range address pages w then Some origin.Zero else o) (fit.sections.each q w) ∙ sym (zeroed_origin (nat_eq p q && in_range address pages w) (a.map q w)));
          };
          pages = fit.pages;
          globals = fit.globals;
          file = fit.file;
          swaps = fit.swaps;
          seats = fit.seats;
          failed = fit.failed;
        }
