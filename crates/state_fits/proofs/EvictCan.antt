-- EVICT: what its calls require.
use Rattle.std.proofs.Common.{◌≡◌, ℕ, ◌<◌, true, List, Some, length, slice_index_or, refl, sym, ap, ◌∙◌, subst, arith}
use Rattle.std.specs.Prelude.{IsSome}
use Rattle.std.proofs.lemmas.Option.{slice_get_within}
use Rattle.vm_types.specs.Configuration.{IsWellFormed}
use Rattle.vm_types.specs.Ring.{Ring, choose}
use Rattle.vm_types.specs.declared.config.Config.{Config}
use Rattle.vm_types.specs.declared.names.Addr.{Addr}
use Rattle.vm_types.specs.declared.names.FrameState.{FrameState}
use Rattle.vm_types.specs.declared.names.FrameState.TheVariants as state
use Rattle.vm_types.specs.declared.names.Page.{Page}
use Rattle.vm_types.specs.declared.names.Page.TheVariants.{Private, Shared}
use Rattle.vm_types.specs.declared.names.Pfn.{Pfn}
use Rattle.vm_types.specs.declared.names.Proc.{Proc}
use Rattle.vm_types.specs.declared.names.Seat.{Seat}
use Rattle.vm_types.specs.declared.ring_choice.Choice.TheVariants.{Victim}
use Rattle.vm_journal.specs.declared.entry.Entry.{Entry}
use Rattle.vm_journal.specs.declared.entry.EvictWhy.{EvictWhy}
use Rattle.vm_journal.specs.declared.entry.EvictWhy.TheVariants as evict
use Rattle.vm_journal.specs.declared.entry.What.TheVariants as what
use Rattle.global_pages.specs.GlobalPages.{GlobalPages, IsGlobalPage, count_of}
use Rattle.page_tables.specs.PageTables.{IsEntry, IsMapped, pte_in}
use Rattle.pfn_database.specs.Frames.{row_of}
use Rattle.pfn_database.specs.Rows.{uncounted}
use Rattle.pfn_database.specs.declared.row.Row.{Row}
use Rattle.pte_forms.specs.declared.pte.Pte.{Pte}
use Rattle.working_set.specs.Slots.{pin_at}
use Rattle.state_parts.specs.Victim.{slot_given}
use Rattle.state_parts.specs.declared.process_row.ProcessRow.{ProcessRow}
use Rattle.pager_laws.proofs.EvictKept.{in_its_slot}
use Rattle.pager_model.specs.Around.{frame_view, past_view, quiet}
use Rattle.pager_model.specs.Evict.{IsEvict, IsEvicted, evicted_ring}
use Rattle.pager_model.specs.Flights.{open_flights}
use Rattle.pager_model.specs.Lookups.{is, shares, slot_with}
use Rattle.pager_model.specs.Maps.{page_number}
use Rattle.pager_model.specs.OfConfig.{IsOfConfig}
use Rattle.pager_model.specs.Pager.{Pager}
use Rattle.pager_model.specs.Step.{IsLegal}
use Rattle.pager_rules.proofs.Frames.{active_frame}
use Rattle.pager_rules.specs.Kept.{IsKept}
use Rattle.pager_laws.proofs.Holders.{holder_there}
use Rattle.pager_laws.proofs.SectionNumbers.{number_within}
use Rattle.pager_laws.proofs.EntryPages.{mapped_right}
use Rattle.state_fits.specs.Changes.{place_left}
use Rattle.state_fits.specs.Entries.{section_page_number}
use Rattle.state_fits.specs.Globals.{shares_held}
use Rattle.state_fits.specs.Parts.{Parts}
use Rattle.state_fits.specs.PartsFit.{PartsFit}
use Rattle.state_fits.specs.Processes.{process_row}
use Rattle.state_fits.proofs.EvictParts.{below, gone, held, kept, one_share, pin_counted, pin_is, process, valid_there}
use Rattle.state_fits.proofs.FrameRows.{row_read}
use Rattle.state_fits.proofs.GoodEntries.{good_left}
use Rattle.state_fits.proofs.KnownEntries.{placed_entry, pte_valid}
use Rattle.state_fits.proofs.PartsSet.{process_read}
use Rattle.state_fits.proofs.WhyEvicted.{IsGivenUp}

-- a page whose count of valid entries can go down
abbrev pub HasShare : Config → GlobalPages → Page → Type 0
HasShare config table (Private p v) = Unit {0}
HasShare config table (Shared s i) = IsGlobalPage table (section_page_number config s.0 i) × (0 < count_of table (section_page_number config s.0 i))

pub record CanEvict (config : Config) (why : EvictWhy) (p v f : ℕ) (parts : Parts) : Type 0 where
  pub process : p < length parts.processes
  pub slot : (x : ProcessRow) → x ≡ slice_index_or parts.processes p x → slot_with x.ring v < length x.ring.slots
  pub victim : (x : ProcessRow) → x ≡ slice_index_or parts.processes p x → why ≡ evict.Replace → (n : ℕ) × (choose x.ring x.limit ≡ Victim n)
  pub below : f < length parts.frames.rows
  pub active : (row_of parts.frames f).state ≡ state.Active
  pub shares : 0 < (row_of parts.frames f).shares
  pub pins : (x : ProcessRow) → x ≡ slice_index_or parts.processes p x → pin_at x.ring (slot_given why x.ring x.limit v) ≡ true → 0 < uncounted (row_of parts.frames f)
  pub held : IsSome (row_of parts.frames f).page
  pub global : (g : Page) → (row_of parts.frames f).page ≡ Some g → HasShare config parts.globals g
  pub mapped : IsMapped parts.tables p v
  pub entry : (g : Page) (pte : Pte) → (row_of parts.frames f).page ≡ Some g → pte_in parts.tables p v ≡ Some pte → IsEntry (record pte { place = place_left config f g })

victim_of : (config : Config) (past : List Entry) (a : Pager) (seat p address f : ℕ) (to : FrameState) (why : EvictWhy) → IsEvict why config past a seat p address f to → why ≡ evict.Replace → (n : ℕ) × (choose (a.ring p) (a.limit p) ≡ Victim n)
victim_of config past a seat p address f to evict.Replace legal is = (legal.1.slot, legal.1.chosen)
victim_of config past a seat p address f to evict.Purge legal is = absurd (cc is)
victim_of config past a seat p address f to evict.Delete legal is = absurd (cc is)
victim_of config past a seat p address f to evict.Leave legal is = absurd (cc is)
victim_of config past a seat p address f to evict.Rundown legal is = absurd (cc is)

module _ (config : Config) (past : List Entry) (a : Pager) (seat : Seat) (q : Proc) (address : Addr) (f : Pfn) (why : EvictWhy) (to : FrameState) (parts : Parts)
    (formed : IsWellFormed config) (before : IsKept config (past_view past) a) (right : IsOfConfig config a)
    (legal : IsLegal config past a (record { seat = seat; what = what.Evict q address f why to })) (fit : PartsFit config past a parts) where
  abbrev v : ℕ
  v = page_number address.0

  abbrev quiet_past : IsKept config (quiet (open_flights past)) a
  quiet_past = kept config past a seat q address f why to parts before right legal fit

  abbrev given_up : IsGivenUp past a why q.0 v f.0 to
  given_up = gone config past a seat q address f why to parts before right legal fit

  abbrev at_slot : IsEvicted past a q.0 v f.0 (slot_with (a.ring q.0) v) to
  at_slot = in_its_slot config past a q.0 v f.0 to quiet_past given_up.evicted.taken

  abbrev page : Page
  page = (valid_there config past a seat q address f why to parts before right legal fit).0

  holds : a.page f.0 ≡ Some page
  holds = held config past a seat q address f why to parts before right legal fit

  less : f.0 < config.frames
  less = below config past a seat q address f why to parts before right legal fit

  there : q.0 < length config.procs
  there = process config past a seat q address f why to parts before right legal fit

  some : 0 < shares a.valid f.0
  some = let one = one_share config past a q.0 v f.0 given_up.slot to quiet_past given_up.evicted (evicted_ring why (a.ring q.0) (a.limit q.0) v) given_up.emptied in omega (arith, one)

  global_there : (g : Page) → a.page f.0 ≡ Some g → HasShare config parts.globals g
  global_there (Private p w) is = tt
  global_there (Shared s i) is =
      let section = (right.held f.0 (Shared s i) is).0 in
      let within = number_within config s.0 i section in
      let shared = fit.globals.shared s i section ∙ ap (shares_held a.valid) (holder_there config (quiet (open_flights past)) a (Shared s i) f.0 quiet_past is) in
      (omega (arith, within, fit.globals.count), omega (arith, shared, some))

  pub evict_can : CanEvict config why q.0 v f.0 parts
  evict_can =
      let read = row_read a.state a.page a.modify a.valid a.ring (open_flights past) config.frames a.free a.modified parts.frames f.0 fit.frames in
      let found = mapped_right config a q.0 v page right (valid_there config past a seat q address f why to parts before right legal fit).1 in
      let known = fit.tables.each q.0 v ∙ pte_valid config a.map a.valid a.page a.lies q.0 v found.0 page found.1 found.2 at_slot.taken.entry at_slot.taken.valid in
      let row_of_process = process_read (process_row a.status a.ring a.limit a.references a.faults a.collided) (length config.procs) parts.processes q.0 in
      record {
        process = omega (arith, there, fit.processes.count);
        slot = λ x is. subst (λ (r : Ring). slot_with r v < length r.slots) (sym (ap (λ (y : ProcessRow). y.ring) (row_of_process x fit.processes there is))) (slice_get_within (a.ring q.0).slots (slot_with (a.ring q.0) v) (Some at_slot.held) at_slot.holds);
        victim = λ x is why_is. subst (λ (y : ProcessRow). (n : ℕ) × (choose y.ring y.limit ≡ Victim n)) (sym (row_of_process x fit.processes there is)) (victim_of config past a seat.0 q.0 address.0 f.0 to why legal.row why_is);
        below = omega (arith, less, fit.frames.count);
        active = ap (λ (row : Row). row.state) read ∙ active_frame (frame_view config (quiet (open_flights past)) a f.0) (quiet_past.frames f.0) some;
        shares = let same = ap (λ (row : Row). row.shares) read in omega (arith, same, some);
        pins = λ x is pinned. pin_counted config past a seat q address f why to parts before right legal fit (sym (pin_is config past a seat q address f why to parts before right legal fit x is) ∙ pinned);
        held = subst IsSome (sym (ap (λ (row : Row). row.page) read ∙ holds)) refl;
        global = λ g is. global_there g (sym (ap (λ (row : Row). row.page) read) ∙ is);
        mapped = subst IsSome (sym known) refl;
        entry = λ g pte is was. placed_entry pte (found.0).prot _ (place_left config f.0 g) (sym was ∙ known)
            (let here : a.page f.0 ≡ Some g = sym (ap (λ (row : Row). row.page) read) ∙ is in good_left config formed (found.0).prot f.0 g found.3.code less (right.held f.0 g here));
      }
