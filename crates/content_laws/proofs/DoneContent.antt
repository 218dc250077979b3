-- Content along DONE: the operation is applied to the frame's buffer, and what it answers from there is the flat reply.
use Rattle.std.proofs.Common.{◌≡◌, ◌⊎◌, ℕ, ◌&&◌, Bool, true, false, cond, not, List, ◌∷◌, Option, Some, None, length, refl, sym, ap, ap₂, ◌∙◌, subst, inl, inr}
use Rattle.std.proofs.lemmas.Bool.{false≢true, true≢false, cases_eq}
use Rattle.std.proofs.lemmas.Option.{none-some, same_Some}
use Rattle.vm_types.specs.declared.limits.TheConstants.{PAGE_BYTES}
use Rattle.vm_types.specs.BlockView.{BlockView}
use Rattle.vm_types.specs.Same.{same_page}
use Rattle.vm_types.specs.WellFormed.{IsWellFormedReference}
use Rattle.vm_types.specs.declared.names.Page.{Page}
use Rattle.vm_types.specs.declared.names.Page.TheVariants.{Private, Shared}
use Rattle.vm_types.specs.declared.names.BlockId.{BlockId}
use Rattle.vm_types.specs.declared.names.Seat.{Seat}
use Rattle.vm_types.specs.declared.names.FrameState.{FrameState}
use Rattle.vm_types.specs.declared.names.FrameState.TheVariants as state
use Rattle.vm_types.specs.declared.config.Config.{Config}
use Rattle.vm_types.specs.declared.config.Origin.TheVariants as origin
use Rattle.vm_types.specs.declared.reference.Op.{Op}
use Rattle.vm_types.specs.declared.reference.Op.TheVariants.{Read, Write, Add}
use Rattle.vm_types.specs.declared.reference.Ref.{Ref}
use Rattle.vm_types.specs.declared.reply.Reply.{Reply}
use Rattle.vm_types.specs.declared.reply.Why.{Why}
use Rattle.vm_journal.specs.declared.entry.Entry.{Entry}
use Rattle.vm_journal.specs.declared.entry.What.TheVariants as what
use Rattle.content_laws.proofs.BlockMoved.{counted_same}
use Rattle.content_laws.proofs.DoneBytes.{IsAtPage, at_page_of, done_bytes}
use Rattle.content_laws.proofs.FrameChanged.{buffers_put, held_move, written_move}
use Rattle.content_laws.proofs.PageSizes.{bytes_after_size}
use Rattle.content_laws.specs.Put.{PutsBuffer}
use Rattle.pager_laws.proofs.DoneUnrefused.{done_unrefused}
use Rattle.pager_laws.proofs.KeptIsSound.{kept_is_sound}
use Rattle.pager_model.specs.Around.{past_view, quiet}
use Rattle.pager_model.specs.Bytes.{bytes_at, bytes_in, now}
use Rattle.pager_model.specs.Content.{ContentFits, IsSettled, has_bytes}
use Rattle.pager_model.specs.Done.{IsDone, after_done, modify_done}
use Rattle.pager_model.specs.Flat.{FlatState, answered_at, bytes_after, flat_next, flat_refusal, flat_reply, flat_with, found_at, is_change, mapping_of, next_unless, offset_in_page, page_bytes, reply_from, reply_unless, touched_with}
use Rattle.pager_model.specs.Flights.{Flight, open_flights}
use Rattle.pager_model.specs.Lookups.{entry_of, is, page_at, page_by}
use Rattle.pager_model.specs.Maps.{Map, Mapped, first_bytes, is_paged, is_private, page_behind, page_number}
use Rattle.pager_model.specs.Pager.{Pager, Valid}
use Rattle.pager_model.specs.Sets.{at_number, has_page}
use Rattle.pager_model.specs.Spoken.{flat_after}
use Rattle.pager_rules.proofs.Basics.{at_number_other, at_number_same, pages_equal, same_page_refl}
use Rattle.pager_rules.proofs.Pages.{origin_behind, own_is}
use Rattle.pager_rules.specs.Kept.{IsKept}

-- ---- the bytes of the page of a reference
abbrev own_map : Map → Page → Option Mapped
own_map map (Private p v) = map p.0 v
own_map map (Shared s i) = None

own_mapped : (config : Config) (map : Map) (p v : ℕ) (m : Mapped) (x : Page) → map p v ≡ Some m → page_behind config p v m.origin ≡ x → is_private x ≡ true → own_map map x ≡ Some m
own_mapped config map p v m x mapped is private = ap (own_map map) (own_is config map p v x (ap (page_at config p v) mapped ∙ ap Some is) private) ∙ mapped

pub bytes_now : (config : Config) (flat : FlatState) (p v : ℕ) (m : Mapped) (x : Page) → flat.map p v ≡ Some m → page_behind config p v m.origin ≡ x → bytes_in config flat x ≡ page_bytes config flat x m.origin
bytes_now config flat p v m (Shared s i) mapped is = ap (page_bytes config flat (Shared s i)) (sym (origin_behind config p v m.origin s i is))
bytes_now config flat p v m (Private q w) mapped is = ap (bytes_at config flat (Private q w)) (own_mapped config flat.map p v m (Private q w) mapped is refl)

touched_here : (config : Config) (touched : List Page) (x : Page) → is_paged config x ≡ true → has_page (touched_with config touched x) x ≡ true
touched_here config touched x paged = go (is_paged config x) paged (has_page touched x) refl
  where
    go : (b : Bool) → b ≡ true → (c : Bool) → has_page touched x ≡ c → has_page (cond b (cond c touched (x ∷ touched)) touched) x ≡ true
    go false is c has = absurd (false≢true is)
    go true is true has = has
    go true is false has = let itself = same_page_refl x in cc

with_here : (config : Config) (flat : FlatState) (p v : ℕ) (m : Mapped) (x : Page) (bytes : List ℕ) → flat.map p v ≡ Some m → page_behind config p v m.origin ≡ x → bytes_in config (flat_with config flat x bytes) x ≡ bytes
with_here config flat p v m (Shared s i) bytes mapped is = go (is_paged config (Shared s i)) refl
  where
    x : Page
    x = Shared s i

    touched : List Page
    touched = touched_with config flat.touched x

    go : (c : Bool) → is_paged config x ≡ c → bytes_in config (flat_with config flat x bytes) x ≡ bytes
    go true paged =
        ap (λ (b : Bool). cond (b && not (has_page touched x)) (first_bytes config (origin.Section s i)) (cond (same_page x x) bytes (flat.stored x))) paged
        ∙ ap₂ (λ (t u : Bool). cond (not t) (first_bytes config (origin.Section s i)) (cond u bytes (flat.stored x))) (touched_here config flat.touched x paged) (same_page_refl x)
    go false file =
        ap (λ (b : Bool). cond (b && not (has_page touched x)) (first_bytes config (origin.Section s i)) (cond (same_page x x) bytes (flat.stored x))) file
        ∙ ap (λ (u : Bool). cond u bytes (flat.stored x)) (same_page_refl x)
with_here config flat p v m (Private q w) bytes mapped is =
    ap (bytes_at config (flat_with config flat (Private q w) bytes) (Private q w)) (own_mapped config flat.map p v m (Private q w) mapped is refl)
    ∙ ap₂ (λ (t s : Bool). cond (true && not t) (first_bytes config m.origin) (cond s bytes (flat.stored (Private q w)))) (touched_here config flat.touched (Private q w) refl) (same_page_refl (Private q w))

pub done_bytes_here : (config : Config) (flat : FlatState) (p : ℕ) (r : Ref) (x : Page) → flat_refusal config flat p r ≡ None → page_by config flat.map p (page_number (r.addr).0) ≡ Some x
    → bytes_in config (flat_next config flat p r) x ≡ bytes_after r.op (bytes_in config flat x) (offset_in_page r)
done_bytes_here config flat p r x none is =
    ap (λ (o : Option Why). bytes_in config (next_unless o flat (answered_at config flat p r (mapping_of flat p r))) x) none ∙ go (mapping_of flat p r) refl is
  where
    v : ℕ
    v = page_number (r.addr).0

    go : (o : Option Mapped) → flat.map p v ≡ o → page_at config p v o ≡ Some x → bytes_in config (answered_at config flat p r o) x ≡ bytes_after r.op (bytes_in config flat x) (offset_in_page r)
    go None mapped at = absurd (none-some x at)
    go (Some m) mapped at =
        let same : page_behind config p v m.origin ≡ x = same_Some _ _ at in
        subst (λ (y : Page). bytes_in config (flat_with config flat y (bytes_after r.op (page_bytes config flat y m.origin) (offset_in_page r))) x ≡ bytes_after r.op (bytes_in config flat x) (offset_in_page r)) (sym same)
        (with_here config flat p v m x (bytes_after r.op (page_bytes config flat x m.origin) (offset_in_page r)) mapped same
        ∙ ap (λ (ys : List ℕ). bytes_after r.op ys (offset_in_page r)) (sym (bytes_now config flat p v m x mapped same)))

pub done_reply : (config : Config) (flat : FlatState) (p : ℕ) (r : Ref) (x : Page) → flat_refusal config flat p r ≡ None → page_by config flat.map p (page_number (r.addr).0) ≡ Some x
    → flat_reply config flat p r ≡ reply_from r.op (bytes_in config flat x) (offset_in_page r)
done_reply config flat p r x none is =
    ap (λ (o : Option Why). reply_unless o (reply_from r.op (found_at config flat p r (mapping_of flat p r)) (offset_in_page r))) none ∙ go (mapping_of flat p r) refl is
  where
    v : ℕ
    v = page_number (r.addr).0

    go : (o : Option Mapped) → flat.map p v ≡ o → page_at config p v o ≡ Some x → reply_from r.op (found_at config flat p r o) (offset_in_page r) ≡ reply_from r.op (bytes_in config flat x) (offset_in_page r)
    go None mapped at = absurd (none-some x at)
    go (Some m) mapped at =
        let same : page_behind config p v m.origin ≡ x = same_Some _ _ at in
        ap (λ (y : Page). reply_from r.op (page_bytes config flat y m.origin) (offset_in_page r)) same ∙ ap (λ (ys : List ℕ). reply_from r.op ys (offset_in_page r)) (sym (bytes_now config flat p v m x mapped same))

unchanged : (op : Op) (bytes : List ℕ) (k : ℕ) → is_change op ≡ false → bytes_after op bytes k ≡ bytes
unchanged (Read width) bytes k is = refl
unchanged (Write width n) bytes k is = absurd (true≢false is)
unchanged (Add n) bytes k is = absurd (true≢false is)

-- ---- DONE
module _ (tells tells_plan : Bool) (config : Config) (past : List Entry) (a : Pager) (buffer buffer' : ℕ → Option (List ℕ)) (home : BlockId → Option BlockView) where
  pub done_content : (seat : Seat) (r : Ref) (answer : Reply) → IsKept config (past_view past) a → IsKept config (quiet (open_flights past)) a → a.map ≡ (flat_after config past).map → a.touched ≡ (flat_after config past).touched
      → IsWellFormedReference r → (legal : IsDone config a seat.0 r) → (bytes : List ℕ) → buffer (legal.valid.0).frame ≡ Some bytes
      → PutsBuffer (legal.valid.0).frame (Some (bytes_after r.op bytes (offset_in_page r))) buffer buffer' → ContentFits tells tells_plan config past a buffer home
      → ContentFits tells tells_plan config (record { seat = seat; what = what.Done r answer } ∷ past) (after_done config a seat.0 r) buffer' home
  done_content seat r answer before kept maps touches formed legal bytes has put fits =
      subst (λ (modify : ℕ → Bool). ContentFits tells tells_plan config (e ∷ past) (record (after_done config a p r) { modify = modify }) buffer' home) (sym modify_is) (record {
        buffers = buffers_put config a.state a.state buffer buffer' f (Some (bytes_after r.op bytes (offset_in_page r))) put
            (λ ys is. subst (λ (zs : List ℕ). length zs ≡ PAGE_BYTES) (same_Some _ _ is) (bytes_after_size r bytes formed ((fits.buffers).sizes f bytes has)))
            (sym (ap (λ (s : FrameState). not (is state.Reading s)) at.state)) (λ h apart. refl) fits.buffers;
        homes = fits.homes;
        held = λ told. held_move (now config past) (now config (e ∷ past)) a.page a.page a.state a.state buffer buffer' f there (here told) (fits.held told);
        lying = λ told b x g real at_home lies settled.
            let apart = settled_before g settled in
            fits.lying told b x g real at_home lies apart.0 ∙ ap Some (sym apart.1);
        written = λ told. written_move config past e a.page a.page a.modify modify (λ x counts writes clear g holds. written x g clear holds) (fits.written told);
        copied = fits.copied;
        counted = λ b x at_home. counted_same tells_plan config past (e ∷ past) b x refl (fits.counted b x at_home);
      })
    where
      p : ℕ
      p = seat.0

      e : Entry
      e = record { seat = seat; what = what.Done r answer }

      f : ℕ
      f = (legal.valid.0).frame

      at : IsAtPage config past a p (page_number (r.addr).0) legal.valid.0
      at = at_page_of config past a p (page_number (r.addr).0) legal.valid.0 kept legal.valid.1

      modify : ℕ → Bool
      modify = cond (is_change r.op) (at_number a.modify f true) a.modify

      modify_is : modify_done r.op (entry_of a.valid p (page_number (r.addr).0)) a.modify ≡ modify
      modify_is = ap (λ (o : Option Valid). modify_done r.op o a.modify) legal.valid.1

      flat : FlatState
      flat = flat_after config past

      mapped : page_by config flat.map p (page_number (r.addr).0) ≡ Some at.page
      mapped = subst (λ (map : Map). page_by config map p (page_number (r.addr).0) ≡ Some at.page) maps at.mapped

      none : flat_refusal config flat p r ≡ None
      none = done_unrefused config past a flat p r (kept_is_sound config past a before) legal maps touches

      now_here : now config (e ∷ past) at.page ≡ bytes_after r.op (now config past at.page) (offset_in_page r)
      now_here = done_bytes_here config flat p r at.page none mapped

      now_there : (g : Page) → (at.page ≡ g → ⊥) → now config (e ∷ past) g ≡ now config past g
      now_there g apart = done_bytes config flat p r at.page g mapped apart

      there : (h : ℕ) → (f ≡ h → ⊥) → (a.page h ≡ a.page h) × (a.state h ≡ a.state h) × (buffer' h ≡ buffer h) × ((g : Page) → a.page h ≡ Some g → now config (e ∷ past) g ≡ now config past g)
      there h apart = (refl, refl, put.others h apart, λ g holds. now_there g (λ same. apart (kept.held_once f h at.page at.holds (holds ∙ ap Some (sym same)))))

      here : tells ≡ true → (g : Page) → a.page f ≡ Some g → has_bytes (a.state f) ≡ true → buffer' f ≡ Some (now config (e ∷ past) g)
      here told g holds filled =
          let same : at.page ≡ g = same_Some _ _ (sym at.holds ∙ holds) in
          let old : bytes ≡ now config past at.page = same_Some _ _ (sym has ∙ fits.held told f at.page at.holds filled) in
          subst (λ (y : Page). buffer' f ≡ Some (now config (e ∷ past) y)) same
          (put.here ∙ ap Some (ap (λ (ys : List ℕ). bytes_after r.op ys (offset_in_page r)) old ∙ sym now_here))

      -- a page whose frame stays clear has its bytes still
      clear_before : (c : Bool) → is_change r.op ≡ c → (h : ℕ) (g : Page) → a.page h ≡ Some g → cond c (at_number a.modify f true) a.modify h ≡ false → (a.modify h ≡ false) × (now config (e ∷ past) g ≡ now config past g)
      clear_before false is h g holds clear = (clear, bytes_same g)
        where
          bytes_same : (y : Page) → now config (e ∷ past) y ≡ now config past y
          bytes_same y = by (same_page at.page y) refl
            where
              by : (b : Bool) → same_page at.page y ≡ b → now config (e ∷ past) y ≡ now config past y
              by false apart = now_there y (λ same. true≢false (sym (subst (λ (z : Page). same_page at.page z ≡ true) same (same_page_refl at.page)) ∙ apart))
              by true same = subst (λ (z : Page). now config (e ∷ past) z ≡ now config past z) (pages_equal at.page y same) (now_here ∙ unchanged r.op (now config past at.page) (offset_in_page r) is)
      clear_before true is h g holds clear = by (cases_eq f h)
        where
          by : (f ≡ h) ⊎ (f ≡ h → ⊥) → (a.modify h ≡ false) × (now config (e ∷ past) g ≡ now config past g)
          by (inl same) = absurd (true≢false (sym (at_number_same a.modify f true) ∙ (ap (at_number a.modify f true) same ∙ clear)))
          by (inr apart) = (sym (at_number_other a.modify f true h apart) ∙ clear, now_there g (λ same. apart (kept.held_once f h at.page at.holds (holds ∙ ap Some (sym same)))))

      settled_before : (g : Page) → IsSettled a.page modify (open_flights past) g → IsSettled a.page a.modify (open_flights past) g × (now config (e ∷ past) g ≡ now config past g)
      settled_before g settled = (λ h holds. ((clear_before (is_change r.op) refl h g holds (settled h holds).0).0, (settled h holds).1), by (same_page at.page g) refl)
        where
          by : (b : Bool) → same_page at.page g ≡ b → now config (e ∷ past) g ≡ now config past g
          by false apart = now_there g (λ same. true≢false (sym (subst (λ (z : Page). same_page at.page z ≡ true) same (same_page_refl at.page)) ∙ apart))
          by true same = let holds = at.holds ∙ ap Some (pages_equal at.page g same) in (clear_before (is_change r.op) refl f g holds (settled f holds).0).1

      written : (x : Flight) (g : Page) → modify x.frame ≡ false → a.page x.frame ≡ Some g → (a.modify x.frame ≡ false) × (a.page x.frame ≡ Some g) × (now config (e ∷ past) g ≡ now config past g)
      written x g clear holds = let facts = clear_before (is_change r.op) refl x.frame g holds clear in (facts.0, holds, facts.1)

  -- what is read from the buffer is the flat reply
  pub done_right : (seat : Seat) (r : Ref) → IsKept config (past_view past) a → IsKept config (quiet (open_flights past)) a → a.map ≡ (flat_after config past).map → a.touched ≡ (flat_after config past).touched
      → (legal : IsDone config a seat.0 r) → (bytes : List ℕ) → buffer (legal.valid.0).frame ≡ Some bytes → ContentFits tells tells_plan config past a buffer home → tells ≡ true
      → reply_from r.op bytes (offset_in_page r) ≡ flat_reply config (flat_after config past) seat.0 r
  done_right seat r before kept maps touches legal bytes has fits told =
      let at = at_page_of config past a seat.0 (page_number (r.addr).0) legal.valid.0 kept legal.valid.1 in
      let mapped = subst (λ (map : Map). page_by config map seat.0 (page_number (r.addr).0) ≡ Some at.page) maps at.mapped in
      let none = done_unrefused config past a (flat_after config past) seat.0 r (kept_is_sound config past a before) legal maps touches in
      ap (λ (ys : List ℕ). reply_from r.op ys (offset_in_page r)) (same_Some _ _ (sym has ∙ fits.held told (legal.valid.0).frame at.page at.holds (ap has_bytes at.state)))
      ∙ sym (done_reply config (flat_after config past) seat.0 r at.page none mapped)
