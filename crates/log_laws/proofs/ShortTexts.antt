-- Each line of a report, and of the text behind the last entry, has at most 255 bytes.
use Rattle.std.proofs.Common.{◌≡◌, inl, inr, ℕ, zero, suc, ◌+◌, ◌^◌, ◌<◌, ◌≤◌, Bool, true, false, List, [], ◌∷◌, ◌++◌, Option, Some, None, length, map, nat_lt, ap, refl, arith, lit<}
use Rattle.std.specs.List.{AllByRecursion, range_with_len}
use Rattle.std.specs.Prelude.{All, codes, decimal, if◌then◌else◌, nat_eq, slice_get, slice_index_or, sum_by}
use Rattle.std.proofs.lemmas.List.Elements.{All-append, All-filter, All-map, All-nil, recursion_from_All}
use Rattle.std.proofs.lemmas.List.FromFn.{get_or-range_with_len, length-map-range_with_len, length-range_with_len}
use Rattle.std.proofs.lemmas.List.Sums.{count_by-le-length, get_or-le-sum_by, sum_by-cons}
use Rattle.std.proofs.lemmas.Option.{get_or_from_slice_get, slice_get_within}
use Rattle.vm_types.specs.declared.limits.TheConstants.{MOST_BLOCKS, MOST_FRAMES, MOST_SECTION_PAGES}
use Rattle.vm_types.specs.Configuration.{IsWellFormed, section_pages}
use Rattle.vm_types.specs.Kinds.{is_shared_kind}
use Rattle.vm_types.specs.Ring.{is_filled_slot}
use Rattle.vm_types.specs.Same.{same_state}
use Rattle.vm_types.specs.declared.config.Config.{Config}
use Rattle.vm_types.specs.declared.config.Section.{Section}
use Rattle.vm_types.specs.declared.names.FrameState.{FrameState}
use Rattle.vm_types.specs.declared.names.FrameState.TheVariants as state
use Rattle.vm_types.specs.declared.names.Page.{Page}
use Rattle.vm_types.specs.declared.names.Page.TheVariants.{Private, Shared}
use Rattle.vm_text.specs.Named.{AreNames, IsNamedPage}
use Rattle.vm_text.specs.Names.{page_text}
use Rattle.vm_text.proofs.Printable.{config_names}
use Rattle.vm_journal.specs.declared.entry.Entry.{Entry}
use Rattle.pager_model.specs.Around.{past_view}
use Rattle.pager_model.specs.Flights.{open_flights}
use Rattle.pager_model.specs.Lookups.{shares}
use Rattle.pager_model.specs.OfConfig.{IsMappable, IsOfConfig, IsPageOf}
use Rattle.pager_model.specs.Pager.{Pager}
use Rattle.pager_model.specs.Report.{FrameRow, ProcessRow, Report, all_states, frame_row, frame_rows, in_state, pins_on, process_row, refs_of, report_of}
use Rattle.pager_model.specs.Run.{IsRun, pager_after}
use Rattle.run_words.specs.Text.{dirty_lines, empty_text, ended, frame_line, frame_lines, held_text, page_file_text, process_lines, process_text, states_text, status_line}
use Rattle.pager_model.specs.DirtyPages.{dirty_pages, is_dirty, pages_from}
use Rattle.pager_model.specs.Transfers.{reads_on, writes_on}
use Rattle.pager_rules.specs.Kept.{IsKept}
use Rattle.pager_laws.proofs.OfConfigKept.{run_right}
use Rattle.pager_laws.proofs.RunsAreSound.{run_kept}
use Rattle.pager_laws.proofs.Pins.{few_pins}
use Rattle.pager_laws.proofs.RingBounds.{bounded}
use Rattle.state_fits.proofs.FewShares.{few_shares}
use Rattle.state_fits.proofs.FlightsMoved.{on_frame_counts, one_on_frame}
use Rattle.state_fits.proofs.UnchargedPage.{assigned_fit}
use Rattle.log_model.specs.Stand.{ending_after, report_after, status_of}
use Rattle.log_laws.proofs.Rooms.{IsShort, both_short, line_short, none_short}
use Rattle.log_laws.proofs.Widths.{AtMost, both, mark_most, number_most, page_most, state_most, status_most, within}

abbrev IsSmall : ℕ → Type 0
IsSmall n = n < 2 ^ 64

-- a word of a line
spelt : {n : ℕ} {text : List ℕ} → length text ≤ n → AtMost n text
spelt is = record { is = is }

line_most : (line : List ℕ) → AtMost 255 line → IsShort (ended line)
line_most line most = line_short line most.is

-- ---- the counts of the states
at_small : (counts : List ℕ) (i : ℕ) → AllByRecursion IsSmall counts → IsSmall (slice_index_or counts i 0)
at_small [] i all = lit< tt
at_small (n ∷ counts) zero all = all.0
at_small (n ∷ counts) (suc i) all = at_small counts i all.1

states_short : (counts : List ℕ) → AllByRecursion IsSmall counts → IsShort (ended (states_text counts))
states_short counts all =
    line_most (states_text counts) (within 255 (omega arith)
    (both (both (both (both (both (both (both (both (both (both (both (both (both (both (both (spelt {n = 5} {text = codes "FREE "} (omega arith)) (number_most _ (at_small counts 0 all)))
    (spelt {n = 10} {text = codes " MODIFIED "} (omega arith))) (number_most _ (at_small counts 1 all)))
    (spelt {n = 5} {text = codes " BAD "} (omega arith))) (number_most _ (at_small counts 2 all)))
    (spelt {n = 9} {text = codes " RELEASE "} (omega arith))) (number_most _ (at_small counts 3 all)))
    (spelt {n = 11} {text = codes " READERROR "} (omega arith))) (number_most _ (at_small counts 4 all)))
    (spelt {n = 9} {text = codes " WRITING "} (omega arith))) (number_most _ (at_small counts 5 all)))
    (spelt {n = 9} {text = codes " READING "} (omega arith))) (number_most _ (at_small counts 6 all)))
    (spelt {n = 8} {text = codes " ACTIVE "} (omega arith))) (number_most _ (at_small counts 7 all))))

counts_small : (rows : List FrameRow) (states : List FrameState) → length rows < 2 ^ 64 → AllByRecursion IsSmall (map (in_state rows) states)
counts_small rows [] few = tt
counts_small rows (s ∷ states) few = (omega (arith, few, count_by-le-length (λ (row : FrameRow). same_state row.state s) rows), counts_small rows states few)

-- ---- the frames
module _ (procs : ℕ) (names : List Section) (are : AreNames procs names) where
  held_short : (f : ℕ) (row : FrameRow) (page : Page) → IsSmall f → IsSmall row.refs → IsSmall row.shares → IsNamedPage procs names page → IsShort (ended (held_text names f row page))
  held_short f row page frame refs shared named =
      line_most (held_text names f row page) (within 255 (omega arith)
      (both (both (both (both (both (both (both (both (both (both (both (spelt {n = 6} {text = codes "FRAME "} (omega arith)) (number_most f frame))
      (spelt {n = 1} {text = codes " "} (omega arith))) (state_most row.state))
      (spelt {n = 1} {text = codes " "} (omega arith))) (page_most procs names are page named))
      (spelt {n = 8} {text = codes " MODIFY "} (omega arith))) (mark_most row.modify))
      (spelt {n = 6} {text = codes " REFS "} (omega arith))) (number_most row.refs refs))
      (spelt {n = 8} {text = codes " SHARES "} (omega arith))) (number_most row.shares shared)))

  empty_short : (f : ℕ) (s : FrameState) → IsSmall f → IsShort (empty_text f s)
  empty_short f state.Bad small =
      line_most (codes "FRAME " ++ decimal f ++ codes " BAD") (within 255 (omega arith)
      (both (both (spelt {n = 6} {text = codes "FRAME "} (omega arith)) (number_most f small)) (spelt {n = 4} {text = codes " BAD"} (omega arith))))
  empty_short f other small = none_short

  frame_short : (f : ℕ) (row : FrameRow) → IsSmall f → IsSmall row.refs → IsSmall row.shares → ((page : Page) → row.page ≡ Some page → IsNamedPage procs names page) → IsShort (frame_line names f row)
  frame_short f row small refs shared named = go row.page named
    where
      go : (o : Option Page) → ((page : Page) → o ≡ Some page → IsNamedPage procs names page) → IsShort (frame_line names f (record row { page = o }))
      go None named = empty_short f row.state small
      go (Some page) named = held_short f row page small refs shared (named page refl)

  dirty_short : (pages : List Page) → AllByRecursion (IsNamedPage procs names) pages → IsShort (dirty_lines names pages)
  dirty_short [] all = none_short
  dirty_short (page ∷ pages) all =
      both_short (ended (codes "DIRTY " ++ page_text names page)) (dirty_lines names pages)
      (line_most (codes "DIRTY " ++ page_text names page) (within 255 (omega arith) (both (spelt {n = 6} {text = codes "DIRTY "} (omega arith)) (page_most procs names are page all.0))))
      (dirty_short pages all.1)

-- ---- the page file and the processes
file_short : (report : Report) → IsSmall report.size → IsSmall report.charged → IsSmall report.assigned → IsShort (ended (page_file_text report))
file_short report size charged assigned =
    line_most (page_file_text report) (within 255 (omega arith)
    (both (both (both (both (both (spelt {n = 9} {text = codes "PAGEFILE "} (omega arith)) (number_most report.size size))
    (spelt {n = 9} {text = codes " CHARGED "} (omega arith))) (number_most report.charged charged))
    (spelt {n = 10} {text = codes " ASSIGNED "} (omega arith))) (number_most report.assigned assigned)))

process_short : (p : ℕ) (row : ProcessRow) → IsSmall row.count → IsSmall row.limit → IsShort (ended (process_text p row))
process_short p row count limit =
    line_most (process_text p row) (within 255 (omega arith)
    (both (both (both (both (both (both (both (spelt {n = 8} {text = codes "PROCESS "} (omega arith)) (spelt {n = 1} {text = (65 + p) ∷ []} (omega arith)))
    (spelt {n = 1} {text = codes " "} (omega arith))) (status_most row.status))
    (spelt {n = 7} {text = codes " COUNT "} (omega arith))) (number_most row.count count))
    (spelt {n = 7} {text = codes " LIMIT "} (omega arith))) (number_most row.limit limit)))

-- ---- the pages have names
most_pages : (sections : List Section) (s : ℕ) (section : Section) → sum_by section_pages sections ≤ MOST_SECTION_PAGES → slice_get sections s ≡ Some section → section_pages section ≤ MOST_SECTION_PAGES
most_pages sections s section few at =
    let same = ap section_pages (get_or_from_slice_get sections s section section at) in
    omega (arith, get_or-le-sum_by section_pages sections s section (slice_get_within sections s section at), few, same)

small_page : (v : ℕ) → IsMappable v → v < 2 ^ 23
small_page v (inl less) = omega (arith, less)
small_page v (inr most) = omega (arith, most.1)

page_named : (config : Config) (page : Page) → IsWellFormed config → IsPageOf config page → IsNamedPage (length config.procs) config.sections page
page_named config (Private p v) formed of_it = (of_it.0, small_page v of_it.1)
page_named config (Shared s i) formed of_it =
    let section = of_it.0.0 in
    let there = slice_get_within config.sections s.0 section of_it.0.1 in (
      record { there = there; small = omega (arith, there, (formed.sections).few) },
      omega (arith, of_it.0.2, most_pages config.sections s.0 section (formed.sections).pages of_it.0.1),
    )

module _ (procs : ℕ) (names : List Section) (few : length names ≤ 64) where
  own_named : (s n : ℕ) (b : Bool) → s < length names → n ≤ MOST_FRAMES → All (IsNamedPage procs names) (if b then map (Shared (record { 0 = s })) (range_with_len 0 n) else [])
  own_named s n true there most =
      All-map (IsNamedPage procs names) (Shared (record { 0 = s })) (range_with_len 0 n) (λ k d inside.
      let less : k < n = omega (arith, inside, length-range_with_len 0 n) in
      (record { there = there; small = omega (arith, there, few) }, omega (arith, get_or-range_with_len 0 n k d less, less, most)))
  own_named s n false there most = All-nil (IsNamedPage procs names)

  from_named : (s : ℕ) (sections : List Section) → s + length sections ≡ length names → sum_by section_pages sections ≤ MOST_SECTION_PAGES → All (IsNamedPage procs names) (pages_from s sections)
  from_named s [] sized most = All-nil (IsNamedPage procs names)
  from_named s (section ∷ sections) sized most =
      let all = sum_by-cons section_pages section sections in
      All-append (IsNamedPage procs names) (if is_shared_kind section.kind then map (Shared (record { 0 = s })) (range_with_len 0 (section_pages section)) else []) (pages_from (s + 1) sections)
      (own_named s (section_pages section) (is_shared_kind section.kind) (omega (arith, sized)) (omega (arith, most, all))) (from_named (s + 1) sections (omega (arith, sized)) (omega (arith, most, all)))

-- ---- the texts of a run
module _ (config : Config) (past : List Entry) (formed : IsWellFormed config) (run : IsRun config past) where
  abbrev a : Pager
  a = pager_after config past

  kept : IsKept config (past_view past) a
  kept = run_kept config past formed run

  right : IsOfConfig config a
  right = run_right config past formed run

  refs_small : (f : ℕ) → IsSmall (refs_of past a f)
  refs_small f = go (nat_lt 0 (shares a.valid f)) (omega (arith, on_frame_counts f (open_flights past), one_on_frame config (past_view past) a f kept)) (omega (arith, few_pins a f, few_shares config (past_view past) a f formed kept right))
    where
      go : (b : Bool) → reads_on f (open_flights past) + writes_on f (open_flights past) ≤ 1 → pins_on a f ≤ 2 ^ 26 → IsSmall (((if b then 1 else 0) + (reads_on f (open_flights past) + writes_on f (open_flights past))) + pins_on a f)
      go true few pins = omega (arith, few, pins)
      go false few pins = omega (arith, few, pins)

  frames_short : (f n : ℕ) → f + n < 2 ^ 64 → IsShort (frame_lines config.sections f (map (frame_row past a) (range_with_len f n)))
  frames_short f zero few = none_short
  frames_short f (suc n) few =
      both_short (frame_line config.sections f (frame_row past a f)) (frame_lines config.sections (f + 1) (map (frame_row past a) (range_with_len (f + 1) n)))
      (frame_short (length config.procs) config.sections (config_names config formed) f (frame_row past a f) (omega (arith, few)) (refs_small f) (omega (arith, few_shares config (past_view past) a f formed kept right))
      (λ page is. page_named config page formed (right.held f page is)))
      (frames_short (f + 1) n (omega (arith, few)))

  processes_short : (p n : ℕ) → p + n ≤ length config.procs → IsShort (process_lines p (map (process_row a) (range_with_len p n)))
  processes_short p zero within = none_short
  processes_short p (suc n) within =
      let bounds = bounded config (past_view past) a formed kept p (omega (arith, within)) in
      both_short (ended (process_text p (process_row a p))) (process_lines (p + 1) (map (process_row a) (range_with_len (p + 1) n)))
      (process_short p (process_row a p) (omega (arith, count_by-le-length is_filled_slot (a.ring p).slots, bounds.1.slots, bounds.2)) (omega (arith, bounds.1.most, bounds.2)))
      (processes_short (p + 1) n (omega (arith, within)))

  charged_small : length a.charged ≤ MOST_BLOCKS
  charged_small = omega (arith, kept.fit, formed.pagefile.1)

  assigned_small : length a.assigned ≤ MOST_BLOCKS
  assigned_small = omega (arith, assigned_fit a.assigned a.charged (λ g. (kept.pages g).blocks) (λ g. (kept.pages g).charged), charged_small)

  -- the report's lines
  pub report_short : length past < 2 ^ 64 → IsShort (report_after config past)
  report_short few =
      let report = report_of config past a in
      let rows = length-map-range_with_len (frame_row past a) 0 config.frames in
      both_short _ (process_lines 0 report.processes)
      (both_short _ (ended (page_file_text report))
      (both_short _ (frame_lines config.sections 0 report.frames)
      (both_short (ended (codes "PFN AT " ++ decimal (length past))) (ended (states_text report.states))
      (line_most (codes "PFN AT " ++ decimal (length past)) (within 255 (omega arith) (both (spelt {n = 7} {text = codes "PFN AT "} (omega arith)) (number_most (length past) few))))
      (states_short report.states (counts_small (frame_rows config past a) all_states (omega (arith, rows, formed.frames.1)))))
      (frames_short 0 config.frames (omega (arith, formed.frames.1))))
      (file_short report (omega (arith, formed.pagefile.1)) (omega (arith, charged_small)) (omega (arith, assigned_small))))
      (processes_short 0 (length config.procs) (omega arith))

  status_small : (b : Bool) → IsSmall (if b then 0 else 5)
  status_small true = lit< tt
  status_small false = lit< tt

  -- the lines behind the last entry
  pub ending_short : IsShort (ending_after config past)
  ending_short =
      let sections = formed.sections in
      let named = All-filter (is_dirty config a) (IsNamedPage (length config.procs) config.sections) (pages_from 0 config.sections) (from_named (length config.procs) config.sections sections.few 0 config.sections (omega arith) sections.pages) in
      both_short (dirty_lines config.sections (dirty_pages config a)) (status_line (status_of config a))
      (dirty_short (length config.procs) config.sections (config_names config formed) (dirty_pages config a) (recursion_from_All (IsNamedPage (length config.procs) config.sections) (dirty_pages config a) named))
      (line_most (codes "STATUS " ++ decimal (status_of config a)) (within 255 (omega arith) (both (spelt {n = 7} {text = codes "STATUS "} (omega arith)) (number_most (status_of config a) (status_small (nat_eq (length (dirty_pages config a)) 0))))))
