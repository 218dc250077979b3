-- DONE closes, its calls may be made, and its reply is right.
use Rattle.std.specs.Prelude.{if◌then◌else◌}
use Rattle.std.proofs.Common.{◌≡◌, ℕ, ◌+◌, ◌-◌, ◌≤◌, ◌<◌, ◌^◌, Bool, true, List, ◌∷◌, Option, Some, None, IsSome, length, slice_index_or, slice_set, refl, sym, ap, ◌∙◌, subst, arith, length-set}
use Rattle.std.specs.Option.{option_map}
use Rattle.vm_types.specs.declared.limits.TheConstants.{PAGE_BYTES}
use Rattle.vm_types.specs.BlockView.{BlockView, Tells}
use Rattle.vm_types.specs.WellFormed.{IsWellFormedReference, width_bytes}
use Rattle.vm_types.specs.declared.config.Config.{Config}
use Rattle.vm_types.specs.declared.names.FrameState.{FrameState}
use Rattle.vm_types.specs.declared.names.FrameState.TheVariants as state
use Rattle.vm_types.specs.declared.names.Page.{Page}
use Rattle.vm_types.specs.declared.names.Pfn.{Pfn}
use Rattle.vm_types.specs.declared.names.Seat.{Seat}
use Rattle.vm_types.specs.declared.reference.Op.{Op}
use Rattle.vm_types.specs.declared.reference.Op.TheVariants as op
use Rattle.vm_types.specs.declared.reference.Ref.{Ref}
use Rattle.vm_types.specs.declared.reference.Width.{Width}
use Rattle.vm_types.specs.declared.reference.Width.TheVariants as widths
use Rattle.vm_types.specs.declared.reply.Reply.{Reply}
use Rattle.vm_types.specs.declared.reply.Reply.TheVariants as reply
use Rattle.vm_text.specs.References.{IsReplyTo}
use Rattle.vm_journal.specs.declared.entry.Entry.{Entry}
use Rattle.vm_journal.specs.declared.entry.What.TheVariants as what
use Rattle.page_tables.specs.PageTables.{look_of, pte_in}
use Rattle.page_tables.specs.declared.look.Look.{Look}
use Rattle.pfn_database.specs.Frames.{Frames, row_of}
use Rattle.pfn_database.specs.Rows.{FitsModify}
use Rattle.pfn_database.specs.declared.row.Row.{Row}
use Rattle.pager_model.specs.Flat.{bytes_after, flat_reply, is_change, offset_in_page, reply_from}
use Rattle.pager_model.specs.Flights.{open_flights}
use Rattle.pager_model.specs.Lookups.{is}
use Rattle.pager_model.specs.Maps.{page_number}
use Rattle.pager_model.specs.Pager.{Pager, Valid}
use Rattle.pager_model.specs.Run.{pager_after}
use Rattle.pager_model.specs.Spoken.{flat_after}
use Rattle.pager_model.specs.Step.{IsLegal}
use Rattle.content_laws.specs.Put.{PutsBuffer}
use Rattle.content_laws.proofs.AtHome.{buffer_home}
use Rattle.content_laws.proofs.ContentStays.{done_is_right}
use Rattle.content_laws.proofs.ListPuts.{list_puts_buffer}
use Rattle.frame_store.specs.Blocks.{held_at}
use Rattle.frame_store.specs.StoreView.{StoreView}
use Rattle.state_parts.specs.ChargedTable.{ChargedTable, IsTableSet, kept_at}
use Rattle.state_parts.specs.declared.process_row.ProcessRow.{ProcessRow}
use Rattle.state_parts.specs.declared.spoken_row.SpokenRow.{SpokenRow}
use Rattle.pager_laws.proofs.ValidEntries.{IsValidAt, mapping_of}
use Rattle.state_fits.specs.Frames.{frame_row}
use Rattle.state_fits.specs.Pages.{touched_row}
use Rattle.state_fits.specs.Parts.{Parts}
use Rattle.state_fits.proofs.DoneParts.{at as page_at_done, done_parts}
use Rattle.state_fits.proofs.ShownEntries.{valid_shown}
use Rattle.vm_state.specs.History.{History, MayAnswer, entry_by, owed, pager}
use Rattle.state_pages.specs.Shown.{frame_entry, frame_number, frame_shown}
use Rattle.vm_state.specs.StateKept.{IsState, home_in}
use Rattle.vm_state.proofs.Closing.{closed, kept, right}
use Rattle.state_pages.proofs.Looked.{frame_looked}

pub answer_before : {s t : History} {seat : Seat} {r : Ref} → s ≡ t → MayAnswer t seat r → MayAnswer s seat r
answer_before {s} {t} {seat} {r} is may = subst (λ (x : History). MayAnswer x seat r) (sym is) may

pub right_before : {s t : History} (p : ℕ) (r : Ref) (answer : Reply) → s ≡ t → answer ≡ flat_reply s.config (flat_after s.config s.past) p r → answer ≡ flat_reply t.config (flat_after t.config t.past) p r
right_before p r answer is right = subst (λ (x : History). answer ≡ flat_reply x.config (flat_after x.config x.past) p r) is right

-- some reply answers each operation
pub some_reply : (o : Op) → (answer : Reply) × IsReplyTo o answer
some_reply (op.Read width) = (reply.Value 0, go width)
  where
    go : (width : Width) → 0 < 256 ^ width_bytes width
    go widths.One = omega arith
    go widths.Two = omega arith
    go widths.Four = omega arith
some_reply (op.Write width n) = (reply.Written, tt)
some_reply (op.Add n) = (reply.Old 0, omega arith)

-- with some reply a reference that may be answered is legal
pub some_legal : {s : History} {seat : Seat} {r : Ref} → MayAnswer s seat r → IsLegal s.config s.past (pager s) (entry_by seat (what.Done r (some_reply r.op).0))
some_legal {s} {seat} {r} may = may.legal (some_reply r.op).0 (some_reply r.op).1

number_is : (found : Option Pfn) (n : ℕ) → option_map frame_number found ≡ Some n → IsSome found × ((f : Pfn) → found ≡ Some f → f.0 ≡ n)
number_is None n e = absurd (let no : ⊥ = cc in no)
number_is (Some g) n e = (refl, λ f is. let same : g.0 ≡ n = cc in let it : g ≡ f = cc in sym (ap frame_number it) ∙ same)

module _ {B : Type 0} {seen : B → BlockView} {tells : Tells} {config : Config} {past : List Entry} {spare : ℕ} {store : StoreView B} {fields : Parts} {numbers : List ℕ}
    (before : IsState seen tells config past spare store fields numbers) (seat : Seat) (r : Ref)
    {answer : Reply} (legal : IsLegal config past (pager_after config past) (record { seat = seat; what = what.Done r answer })) where
  abbrev a : Pager
  a = pager_after config past

  abbrev v : ℕ
  v = page_number (r.addr).0

  pub process : seat.0 < length config.procs
  process = legal.row.own.process

  pub formed_reference : IsWellFormedReference r
  formed_reference = (legal.line.what).0

  abbrev pub e : Valid
  e = legal.row.valid.0

  abbrev pub at : IsValidAt config a seat.0 v e
  at = page_at_done config past a seat r answer (kept before) legal fields before.parts

  known : frame_entry (pte_in fields.tables seat.0 v) ≡ Some e.frame
  known =
      let m = mapping_of config a.map seat.0 v at.page at.mapped in
      ap frame_entry (valid_shown config a.map a.valid a.page a.lies (length config.procs) fields.tables seat.0 v m.0 e before.parts.tables m.1 legal.row.valid.1)

  -- ---- what the tables show
  pub found_is : (look : Look) (found : Option Pfn) → look ≡ look_of fields.tables seat.0 v → option_map frame_number found ≡ frame_shown look → IsSome found × ((f : Pfn) → found ≡ Some f → f.0 ≡ e.frame)
  found_is look found is shown = number_is found e.frame (shown ∙ (frame_looked fields.tables seat.0 v look is ∙ known))

  module _ (f : Pfn) (same : f.0 ≡ e.frame) where
    -- ---- the frame's row
    row_known : row_of fields.frames e.frame ≡ frame_row a.state a.page a.modify a.valid a.ring (open_flights past) e.frame
    row_known = before.parts.frames.rows e.frame

    row_at : (row_of fields.frames e.frame).state ≡ state.Active
    unfolding frame_row
    row_at = ap (λ (row : Row). row.state) row_known ∙ at.active

    page_at_e : (row_of fields.frames e.frame).page ≡ Some at.page
    unfolding frame_row
    page_at_e = ap (λ (row : Row). row.page) row_known ∙ at.holds

    pub below : f.0 < length fields.frames.rows
    below = let count = before.parts.frames.count in let less = at.within in omega (arith, count, less, same)

    pub active : (row_of fields.frames f.0).state ≡ state.Active
    active = ap (λ (n : ℕ). (row_of fields.frames n).state) same ∙ row_at

    pub page_held : (row_of fields.frames f.0).page ≡ Some at.page
    page_held = ap (λ (n : ℕ). (row_of fields.frames n).page) same ∙ page_at_e

    pub may_mark : (m : Bool) → FitsModify (row_of fields.frames f.0).state m
    may_mark m = subst (λ (s : FrameState). FitsModify s m) (sym active) tt

    -- ---- its buffer
    buffer_at : (bytes : List ℕ) × (held_at store.buffers e.frame ≡ Some bytes) × (length bytes ≡ PAGE_BYTES)
    buffer_at = buffer_home config a.state (held_at store.buffers) e.frame before.bytes.buffers at.within (ap (is state.Reading) at.active)

    pub buffer_there : IsSome (held_at store.buffers f.0)
    buffer_there = subst (λ (n : ℕ). IsSome (held_at store.buffers n)) (sym same) (subst (λ (o : Option (List ℕ)). IsSome o) (sym buffer_at.1) refl)

    pub done_closes : owed past + 1 ≤ spare → (x : ProcessRow) → x ≡ slice_index_or fields.processes seat.0 x → (y : SpokenRow) → y ≡ slice_index_or fields.spoken seat.0 y
        → (number : ℕ) → number ≡ length past + 1 → (row : Row) → row ≡ row_of fields.frames f.0 → (m : Bool) → m ≡ (if is_change r.op then true else row.modify)
        → (frames' : Frames) → frames'.rows ≡ slice_set fields.frames.rows f.0 (record (row_of fields.frames f.0) { modify = m }) → frames'.free ≡ fields.frames.free → frames'.modified ≡ fields.frames.modified
        → (page : Page) → row.page ≡ Some page → (pages' : ChargedTable) → IsTableSet fields.pages pages' page (touched_row (kept_at fields.pages page))
        → (bytes bytes' : List ℕ) → held_at store.buffers f.0 ≡ Some bytes → bytes' ≡ bytes_after r.op bytes (offset_in_page r)
        → (tells.content ≡ true → answer ≡ flat_reply config (flat_after config past) seat.0 r)
        → IsState seen tells config (record { seat = seat; what = what.Done r answer } ∷ past) (spare - 1) (record store { frames = frames'; buffers = slice_set store.buffers f.0 (Some bytes') })
        (record fields { frames = frames'; processes = slice_set fields.processes seat.0 (record x { references = x.references + 1 }); spoken = slice_set fields.spoken seat.0 (record { last = Some number; count = y.count + 1 }); pages = pages' }) numbers
    done_closes paid x read y read_y number counted row row_is m m_is frames' rows free modified page page_is pages' touched bytes bytes' there bytes_is shows =
        let m_row : m ≡ (if is_change r.op then true else (row_of fields.frames f.0).modify) = m_is ∙ ap (λ (z : Row). if is_change r.op then true else z.modify) row_is in
        let both : Some page ≡ Some at.page = sym page_is ∙ (ap (λ (z : Row). z.page) row_is ∙ page_held) in
        let it : page ≡ at.page = cc in
        rw counted (closed before (record { seat = seat; what = what.Done r answer }) shows legal (omega (arith, paid)) (record store { frames = frames'; buffers = slice_set store.buffers f.0 (Some bytes') }) _
        (done_parts config past a seat r answer (kept before) legal fields before.parts frames'
        (rows ∙ (ap (λ (b : Bool). slice_set fields.frames.rows f.0 (record (row_of fields.frames f.0) { modify = b })) m_row
        ∙ ap (λ (n : ℕ). slice_set fields.frames.rows n (record (row_of fields.frames n) { modify = (if is_change r.op then true else (row_of fields.frames n).modify) })) same))
        free modified x read y read_y pages' (subst (λ (g : Page). IsTableSet fields.pages pages' g (touched_row (kept_at fields.pages g))) it touched)) (
          record {
            bytes = bytes;
            finds = record { entry = e; valid = legal.row.valid.1; has = subst (λ (n : ℕ). held_at store.buffers n ≡ Some bytes) same there };
            put = subst (λ (n : ℕ). PutsBuffer n (Some (bytes_after r.op bytes (offset_in_page r))) (held_at store.buffers) (held_at (slice_set store.buffers f.0 (Some bytes')))) same
                (subst (λ (bs : List ℕ). PutsBuffer f.0 (Some bs) (held_at store.buffers) (held_at (slice_set store.buffers f.0 (Some bytes')))) bytes_is
                (list_puts_buffer store.buffers f.0 (Some bytes') (let count = before.places.buffers in let less = at.within in omega (arith, count, less, same))));
          },
          refl,
        )
        (record { ids = before.places.ids; buffers = length-set store.buffers f.0 (Some bytes') ∙ before.places.buffers; blocks = before.places.blocks; left = before.places.left; firsts = before.places.firsts; size = before.places.size }))

    pub done_right : (bytes : List ℕ) → held_at store.buffers f.0 ≡ Some bytes → answer ≡ reply_from r.op bytes (offset_in_page r) → tells.content ≡ true
        → answer ≡ flat_reply config (flat_after config past) seat.0 r
    done_right bytes there is told =
        is ∙ done_is_right tells.content tells.plan config past seat r answer (held_at store.buffers) (home_in seen config store) bytes before.formed (before.run, legal)
        (record { entry = e; valid = legal.row.valid.1; has = subst (λ (n : ℕ). held_at store.buffers n ≡ Some bytes) same there }) before.bytes told
