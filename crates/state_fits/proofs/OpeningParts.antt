-- The parts before the first entry stand for the opening.
use Rattle.std.proofs.Common.{◌≡◌, ◌⊎◌, inl, inr, ℕ, ◌+◌, ◌<◌, ◌≤◌, Bool, true, false, not, List, [], ◌∷◌, Option, Some, None, length, map, replicate, nat_eq, slice_get, slice_index_or, refl, sym, ap, ◌∙◌, arith}
use Rattle.std.specs.Prelude.{nat_le, ◌||◌, find, sum_by, if◌then◌else◌}
use Rattle.std.specs.Option.{is_some, option_map, unwrap_or}
use Rattle.std.specs.List.{range_with_len}
use Rattle.std.proofs.lemmas.Bool.{cases_lt, le-leb, eqb-true, eq-eqb, false_from_ne_true, leb-true}
use Rattle.std.proofs.lemmas.List.{get_or-replicate, length-replicate, length-map}
use Rattle.std.proofs.lemmas.List.FromFn.{get_or-map-range_with_len, length-range_with_len}
use Rattle.std.proofs.lemmas.Option.{slice_get-get_or, slice_get-map, slice_get_past, unwrap_or-slice_get}
use Rattle.vm_types.specs.Behind.{covers, first_behind, origin_by}
use Rattle.vm_types.specs.declared.config.Config.{Config}
use Rattle.vm_types.specs.declared.config.Mapping.{Mapping}
use Rattle.vm_types.specs.declared.config.Origin.{Origin}
use Rattle.vm_types.specs.declared.config.ProcSpec.{ProcSpec}
use Rattle.vm_types.specs.declared.names.Page.{Page}
use Rattle.vm_types.specs.declared.names.Page.TheVariants.{Private, Shared}
use Rattle.pfn_database.specs.declared.row.Row.{Row}
use Rattle.pfn_database.specs.Frames.{row_of, opening as opening_frames, opening_row, is_bad as is_bad_in}
use Rattle.pfn_database.specs.Rows.{bad_row, empty_row}
use Rattle.pfn_database.proofs.OpeningLists.{filter-range_same}
use Rattle.pager_model.specs.Forget.{holder}
use Rattle.pager_model.specs.Maps.{Mapped, first_map, mapped_by, page_behind, pfn}
use Rattle.pager_model.specs.Opening.{first_block, first_limit, first_ring, is_bad, opening}
use Rattle.pager_model.specs.Sets.{has}
use Rattle.pager_rules.proofs.Basics.{count_replicate, nat_eq_apart}
use Rattle.pager_laws.proofs.Holders.{holder_none}
use Rattle.state_fits.specs.Entries.{origin_of, place_away, pte_at, pte_of, section_page_number}
use Rattle.state_fits.specs.Frames.{FramesFit, frame_row}
use Rattle.vm_types.specs.Configuration.{section_pages}
use Rattle.state_fits.specs.Globals.{shares_held}
use Rattle.state_fits.specs.Opening.{AreFirst, first_pte, first_row, unspoken}
use Rattle.state_fits.specs.Pages.{charged_row}
use Rattle.state_fits.specs.Parts.{Parts}
use Rattle.state_fits.specs.PartsFit.{PartsFit}
use Rattle.state_fits.specs.Processes.{ProcessesFit, process_row}

nat_eq_sym : (m n : ℕ) → nat_eq m n ≡ nat_eq n m
nat_eq_sym m n = go (nat_eq m n) refl
  where
    go : (b : Bool) → nat_eq m n ≡ b → nat_eq m n ≡ nat_eq n m
    go true e = e ∙ sym (eq-eqb n m (sym (eqb-true m n e)))
    go false e = e ∙ sym (nat_eq_apart m n e)

-- the two tests for a bad frame agree
same_bad : (bad : List ℕ) (f : ℕ) → is_bad_in bad f ≡ has bad f
same_bad [] f = refl
same_bad (b ∷ bad) f = ap (λ c. c || is_bad_in bad f) (nat_eq_sym b f) ∙ ap (λ c. nat_eq f b || c) (same_bad bad f)

bad_below : (config : Config) (f : ℕ) → f < config.frames → is_bad_in config.bad f ≡ is_bad config f
bad_below config f below =
    same_bad config.bad f ∙ sym (ap (λ b. b || has config.bad f) (false_from_ne_true (nat_le config.frames f) (λ past. absurd (let more = leb-true config.frames f past in omega (arith, more, below)))))

abbrev row_first : Config → ℕ → Row
row_first config f = frame_row (opening config).state (opening config).page (opening config).modify [] (opening config).ring [] f

row_of_bad : (config : Config) (f : ℕ) (b : Bool) → is_bad config f ≡ b → (if b then bad_row else empty_row) ≡ row_first config f
unfolding frame_row
row_of_bad config f true e = rw e refl
row_of_bad config f false e = rw e refl

row_below : (config : Config) (f : ℕ) → f < config.frames → opening_row config.bad f ≡ row_first config f
row_below config f below = ap (λ b. if b then bad_row else empty_row) (bad_below config f below) ∙ row_of_bad config f (is_bad config f) refl

row_past : (config : Config) (f : ℕ) → config.frames ≤ f → bad_row ≡ row_first config f
row_past config f past = row_of_bad config f true (ap (λ b. b || has config.bad f) (le-leb config.frames f past))

frames_opened : (config : Config) → FramesFit (row_first config) config.frames (opening config).free [] (opening_frames config.frames config.bad)
frames_opened config =
    record {
      count = length-map (range_with_len 0 config.frames) (opening_row config.bad) ∙ length-range_with_len 0 config.frames;
      rows = λ f. go f (cases_lt f config.frames);
      free_list = filter-range_same (λ f. not (is_bad_in config.bad f)) (λ f. not (is_bad config f)) config.frames (λ f below. ap not (bad_below config f below));
      modified_list = refl;
    }
  where
    go : (f : ℕ) → (f < config.frames) ⊎ (config.frames ≤ f) → row_of (opening_frames config.frames config.bad) f ≡ row_first config f
    go f (inl below) = get_or-map-range_with_len (opening_row config.bad) 0 config.frames f f bad_row below (omega arith) ∙ row_below config f below
    go f (inr past) =
        sym (unwrap_or-slice_get (opening_frames config.frames config.bad).rows f bad_row)
        ∙ (ap (λ (o : Option Row). unwrap_or o bad_row) (slice_get_past (opening_frames config.frames config.bad).rows f (let count = length-map (range_with_len 0 config.frames) (opening_row config.bad) in let all = length-range_with_len 0 config.frames in omega (arith, count, all, past)))
        ∙ row_past config f past)

replicated : {X : Type 0} (n i : ℕ) (x : X) → i < n → slice_get (replicate n x) i ≡ Some x
replicated n i x below = slice_get-get_or (replicate n x) i x (let count = length-replicate n x in omega (arith, count, below)) ∙ ap Some (get_or-replicate n i x x below)

spec_there : (specs : List ProcSpec) (p : ℕ) → p < length specs → (spec : ProcSpec) × (slice_get specs p ≡ Some spec)
spec_there [] p less = absurd (omega (arith, less))
spec_there (s ∷ specs) p less = (slice_index_or (s ∷ specs) p s, slice_get-get_or (s ∷ specs) p s less)

processes_opened : (config : Config) → ProcessesFit (process_row (opening config).status (opening config).ring (opening config).limit (opening config).references (opening config).faults (opening config).collided) (length config.procs) (map first_row config.procs)
processes_opened config =
    record {
      count = length-map config.procs first_row;
      each = λ p below.
          let spec = spec_there config.procs p below in
          slice_get-map first_row config.procs p ∙ (ap (λ (o : Option ProcSpec). option_map first_row o) spec.1 ∙ ap (λ (o : Option ProcSpec). Some (process_row (opening config).status (λ q. first_ring o) (λ q. first_limit o) (λ q. 0) (λ q. 0) (λ q. None) p)) (sym spec.1));
    }

-- no frame holds a page
none_held : (config : Config) (g : Page) → holder config (opening config).page g ≡ None
none_held config g = holder_none config (opening config).page g (λ f holds. let no : ⊥ = cc in no)

away : (config : Config) (g : Page) (o : Origin) (held : Option ℕ) → held ≡ None → place_away config g o held (first_block config g) ≡ place_away config g o None None
away config (Private p v) o held none = rw none refl
away config (Shared s i) o held none = refl

entry_opened : (config : Config) (p v : ℕ) (o : Option Mapped) → pte_at config p v (holder config (opening config).page) (first_block config) None o ≡ option_map (first_pte config p v) o
entry_opened config p v None = refl
entry_opened config p v (Some m) =
    let g : Page = page_behind config p v m.origin in
    λ i. Some (record { prot = m.prot; place = away config g m.origin (holder config (opening config).page g) (none_held config g) i })

table_opened : (config : Config) (p v : ℕ) → pte_of config (first_map config) [] (opening config).page (first_block config) p v ≡ option_map (first_pte config p v) (first_map config p v)
unfolding pte_of
table_opened config p v = entry_opened config p v (first_map config p v)

behind_opened : (config : Config) (p v : ℕ) → first_behind config p v ≡ origin_of (first_map config) p v
behind_opened config p v = go (find (covers p v) config.maps)
  where
    go : (o : Option Mapping) → option_map (origin_by v) o ≡ option_map (λ (m : Mapped). m.origin) (option_map (mapped_by v) o)
    go None = refl
    go (Some m) = refl

uncharged : (config : Config) (g : Page) → charged_row [] [] (first_block config) [] g ≡ None
unfolding charged_row
uncharged config g = refl

item_in : {X : Type 0} (n i : ℕ) (x : X) → slice_index_or (replicate n x) i x ≡ x
item_in n i x = go (cases_lt i n)
  where
    go : (i < n) ⊎ (n ≤ i) → slice_index_or (replicate n x) i x ≡ x
    go (inl below) = get_or-replicate n i x x below
    go (inr past) =
        sym (unwrap_or-slice_get (replicate n x) i x)
        ∙ ap (λ o. unwrap_or o x) (slice_get_past (replicate n x) i (let count = length-replicate n x in omega (arith, count, past)))

pub opening_parts : (config : Config) (parts : Parts) → AreFirst config parts → PartsFit config [] (opening config) parts
opening_parts config parts are =
    record {
      frames = rw are.frames (frames_opened config);
      flights = rw (are.starts, are.roles) (record {
        start_count = length-replicate config.frames None;
        role_count = length-replicate config.frames None;
        each_start = λ f below. replicated config.frames f None below;
        each_role = λ f below. replicated config.frames f None below;
      });
      processes = rw are.processes (processes_opened config);
      spoken = rw are.spoken (record { count = length-replicate (length config.procs) unspoken; each = λ p below. replicated (length config.procs) p unspoken below });
      tables = record { procs = are.table_procs; each = λ p v. are.entries p v ∙ sym (table_opened config p v) };
      sections = record { procs = are.section_procs; kinds = are.kinds; each = λ p v. are.behind p v ∙ behind_opened config p v };
      pages = record { procs = are.page_procs; places = are.page_places; each = λ g. are.pages g ∙ sym (uncharged config g) };
      globals = rw are.globals (record {
        count = length-replicate (sum_by section_pages config.sections) None;
        counts = length-replicate (sum_by section_pages config.sections) 0;
        frames = λ s i real. item_in (sum_by section_pages config.sections) (section_page_number config s.0 i) None ∙ sym (ap (option_map pfn) (none_held config (Shared s i)));
        shared = λ s i real. item_in (sum_by section_pages config.sections) (section_page_number config s.0 i) 0 ∙ sym (ap (shares_held []) (none_held config (Shared s i)));
      });
      file = rw are.file (record {
        count = length-replicate config.pagefile None;
        charges = refl;
        blocks = count_replicate is_some config.pagefile None refl;
        owners = λ b. item_in config.pagefile b None;
      });
      swaps = record { procs = are.swap_procs; lying = λ p slot v there. let none = are.swaps p slot in absurd (let no : ⊥ = cc in no); found = λ p slot v lies. absurd (let no : ⊥ = cc in no) };
      seats = rw (are.busy, are.in_flight) (record { count = length-replicate (length config.procs + 2) 0; each = λ seat below. replicated (length config.procs + 2) seat 0 below; total = refl });
      failed = are.failed;
    }
