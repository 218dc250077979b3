-- Each part after a change at one place. No kind of entry is named here.
use Rattle.std.proofs.Common.{◌≡◌, ℕ, ◌<◌, ◌+◌, Bool, true, false, cond, List, ◌∷◌, Option, length, nat_eq, slice_set, slice_index_or, refl, sym, ap, ◌∙◌, arith, length-set}
use Rattle.std.specs.Prelude.{◌&&◌}
use Rattle.std.proofs.lemmas.Bool.{eq-eqb, ne_eqb}
use Rattle.std.proofs.lemmas.List.{get_or-set_same, get_or-set_other}
use Rattle.vm_types.specs.PagePlaces.{changed_at}
use Rattle.vm_types.specs.Same.{same_page}
use Rattle.vm_types.specs.declared.config.Config.{Config}
use Rattle.vm_types.specs.declared.names.Page.{Page}
use Rattle.vm_journal.specs.declared.entry.Entry.{Entry}
use Rattle.pte_forms.specs.declared.pte.Pte.{Pte}
use Rattle.page_tables.specs.PageTables.{PageTables, pte_in}
use Rattle.pfn_database.specs.declared.row.Row.{Row}
use Rattle.pfn_database.specs.Frames.{Frames, row_of}
use Rattle.pfn_database.specs.Rows.{bad_row}
use Rattle.pager_model.specs.Sets.{at_page}
use Rattle.pager_rules.proofs.Basics.{same_page_refl}
use Rattle.state_parts.specs.ChargedTable.{ChargedTable, IsTableSet, kept_at}
use Rattle.state_parts.specs.declared.charged_page.ChargedPage.{ChargedPage}
use Rattle.state_parts.specs.declared.process_row.ProcessRow.{ProcessRow}
use Rattle.state_parts.specs.declared.spoken_row.SpokenRow.{SpokenRow}
use Rattle.state_fits.specs.Entries.{TablesFit}
use Rattle.state_fits.specs.Frames.{FramesFit}
use Rattle.state_fits.specs.Pages.{PagesFit}
use Rattle.state_fits.specs.Processes.{ProcessesFit}
use Rattle.state_fits.specs.Spoken.{SpokenFit, one_more, spoken_by}
use Rattle.state_fits.proofs.OnePlace.{at_each, at_page_each, at_page_or, each_set, read_is}

pub frames_set : (row row' : ℕ → Row) (n : ℕ) (free free' modified modified' : List ℕ) (old new : Frames) (f : ℕ) (r : Row)
    → FramesFit row n free modified old → f < n → new.rows ≡ slice_set old.rows f r → new.free ≡ free' → new.modified ≡ modified'
    → r ≡ row' f → ((g : ℕ) → (f ≡ g → ⊥) → row' g ≡ row g) → FramesFit row' n free' modified' new
frames_set row row' n free free' modified modified' old new f r fit below rows is_free is_modified here there =
    record {
      count = ap length rows ∙ (length-set old.rows f r ∙ fit.count);
      rows = at_each (λ g. row_of new g ≡ row' g) f
          (ap (λ xs. slice_index_or xs f bad_row) rows ∙ (get_or-set_same old.rows f r bad_row (omega (arith, below, fit.count)) ∙ here))
          (λ g apart. ap (λ xs. slice_index_or xs g bad_row) rows ∙ (get_or-set_other old.rows f g r bad_row (λ e. apart (sym e)) ∙ (fit.rows g ∙ sym (there g apart))));
      free_list = is_free;
      modified_list = is_modified;
    }

-- no frame's row changes
pub frames_same : (row row' : ℕ → Row) (n : ℕ) (free modified : List ℕ) (pfns : Frames) → FramesFit row n free modified pfns → ((f : ℕ) → row' f ≡ row f) → FramesFit row' n free modified pfns
frames_same row row' n free modified pfns fit same =
    record { count = fit.count; rows = λ f. fit.rows f ∙ sym (same f); free_list = fit.free_list; modified_list = fit.modified_list }

pub processes_set : (row row' : ℕ → ProcessRow) (n : ℕ) (rows : List ProcessRow) (p : ℕ) (x : ProcessRow)
    → ProcessesFit row n rows → p < n → x ≡ row' p → ((q : ℕ) → (p ≡ q → ⊥) → row' q ≡ row q) → ProcessesFit row' n (slice_set rows p x)
processes_set row row' n rows p x fit below here there =
    record { count = length-set rows p x ∙ fit.count; each = each_set row row' n rows p x fit.count fit.each below here there }

-- the row that was read
pub process_read : (row : ℕ → ProcessRow) (n : ℕ) (rows : List ProcessRow) (p : ℕ) (x : ProcessRow) → ProcessesFit row n rows → p < n → x ≡ slice_index_or rows p x → x ≡ row p
process_read row n rows p x fit below read = read_is rows p x (row p) read (fit.each p below) (omega (arith, below, fit.count))

pub spoken_read : (past : List Entry) (n : ℕ) (rows : List SpokenRow) (p : ℕ) (x : SpokenRow) → SpokenFit (λ q. spoken_by q past) n rows → p < n → x ≡ slice_index_or rows p x → x ≡ spoken_by p past
spoken_read past n rows p x fit below read = read_is rows p x (spoken_by p past) read (fit.each p below) (omega (arith, below, fit.count))

-- after a spoken entry of process p: whatever the kind, its row has one more and no other's changes
pub spoken_set : (past : List Entry) (e : Entry) (n : ℕ) (rows : List SpokenRow) (x : SpokenRow) → SpokenFit (λ q. spoken_by q past) n rows → (e.seat).0 < n
    → x ≡ one_more true (length past + 1) (spoken_by (e.seat).0 past) → ((q : ℕ) → spoken_by q (e ∷ past) ≡ one_more (nat_eq (e.seat).0 q) (length past + 1) (spoken_by q past))
    → SpokenFit (λ q. spoken_by q (e ∷ past)) n (slice_set rows (e.seat).0 x)
spoken_set past e n rows x fit below here steps =
    record {
      count = length-set rows (e.seat).0 x ∙ fit.count;
      each = each_set (λ q. spoken_by q past) (λ q. spoken_by q (e ∷ past)) n rows (e.seat).0 x fit.count fit.each below
          (here ∙ sym (steps (e.seat).0 ∙ ap (λ (b : Bool). one_more b (length past + 1) (spoken_by (e.seat).0 past)) (eq-eqb (e.seat).0 (e.seat).0 refl)))
          (λ q apart. steps q ∙ ap (λ (b : Bool). one_more b (length past + 1) (spoken_by q past)) (ne_eqb (e.seat).0 q apart));
    }

pub changed_here : {X : Type 0} (f : ℕ → ℕ → X) (p v : ℕ) (x : X) → changed_at f p v x p v ≡ x
changed_here f p v x = rw (eq-eqb p p refl, eq-eqb v v refl) refl

pub changed_there : {X : Type 0} (f : ℕ → ℕ → X) (p v q w : ℕ) (x : X) → (nat_eq p q && nat_eq v w) ≡ false → changed_at f p v x q w ≡ f q w
changed_there f p v q w x apart = rw apart refl

-- one page's entry is set
pub tables_set : (pte pte' : ℕ → ℕ → Option Pte) (n : ℕ) (old new : PageTables) (p v : ℕ) (x : Option Pte)
    → TablesFit pte n old → new.procs ≡ old.procs → ((q w : ℕ) → pte_in new q w ≡ changed_at (pte_in old) p v x q w)
    → x ≡ pte' p v → ((q w : ℕ) → (nat_eq p q && nat_eq v w) ≡ false → pte' q w ≡ pte q w) → TablesFit pte' n new
tables_set pte pte' n old new p v x fit procs changed here there =
    record {
      procs = procs ∙ fit.procs;
      each = at_page_each (λ q w. pte_in new q w ≡ pte' q w) p v
          (changed p v ∙ (changed_here (pte_in old) p v x ∙ here))
          (λ q w apart. changed q w ∙ (changed_there (pte_in old) p v q w x apart ∙ (fit.each q w ∙ sym (there q w apart))));
    }

pub tables_same : (pte pte' : ℕ → ℕ → Option Pte) (n : ℕ) (tables : PageTables) → TablesFit pte n tables → ((p v : ℕ) → pte' p v ≡ pte p v) → TablesFit pte' n tables
tables_same pte pte' n tables fit same = record { procs = fit.procs; each = λ p v. fit.each p v ∙ sym (same p v) }

-- one page's row is set
page_here : (f : Page → Option ChargedPage) (g : Page) (x : Option ChargedPage) → at_page f g x g ≡ x
page_here f g x = ap (λ (b : Bool). cond b x (f g)) (same_page_refl g)

page_there : (f : Page → Option ChargedPage) (g h : Page) (x : Option ChargedPage) → same_page g h ≡ false → at_page f g x h ≡ f h
page_there f g h x apart = ap (λ (b : Bool). cond b x (f h)) apart

pub pages_set : (config : Config) (row row' : Page → Option ChargedPage) (old new : ChargedTable) (g : Page) (x : Option ChargedPage)
    → PagesFit config row old → IsTableSet old new g x → x ≡ row' g → ((h : Page) → same_page g h ≡ false → row' h ≡ row h) → PagesFit config row' new
pages_set config row row' old new g x fit changed here there =
    record {
      procs = changed.procs ∙ fit.procs;
      places = λ s i real paged. let within = fit.places s i real paged in let same = changed.places s in omega (arith, within, same);
      each = at_page_or (λ h. kept_at new h ≡ row' h) g
          (changed.each g ∙ (page_here (kept_at old) g x ∙ here))
          (λ h apart. changed.each h ∙ (page_there (kept_at old) g h x apart ∙ (fit.each h ∙ sym (there h apart))));
    }

-- the row that the page had
pub pages_kept : (config : Config) (row : Page → Option ChargedPage) (old new : ChargedTable) (g : Page) (x : Option ChargedPage)
    → PagesFit config row old → IsTableSet old new g x → x ≡ row g → PagesFit config row new
pages_kept config row old new g x fit changed same = pages_set config row row old new g x fit changed same (λ h apart. refl)

-- a table is as one in which a page got the row that it has
pub table_same : (table : ChargedTable) (g : Page) (x : Option ChargedPage) → x ≡ kept_at table g → IsTableSet table table g x
table_same table g x same =
    record {
      procs = refl;
      places = λ s. refl;
      each = at_page_or (λ h. kept_at table h ≡ at_page (kept_at table) g x h) g
          (sym same ∙ sym (page_here (kept_at table) g x))
          (λ h apart. sym (page_there (kept_at table) g h x apart));
    }
