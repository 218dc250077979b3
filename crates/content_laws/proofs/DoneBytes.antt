-- DONE leaves the bytes of every other page, and so those of a page that is being read.
use Rattle.std.proofs.Common.{◌≡◌, ℕ, ◌&&◌, Bool, true, false, cond, not, List, ◌∷◌, Option, Some, None, find, nat_eq, refl, sym, ap, ap₂, ◌∙◌, subst, subst₂, arith}
use Rattle.std.proofs.lemmas.Bool.{eqb-true, and_parts, and_from}
use Rattle.std.proofs.lemmas.Option.{same_Some}
use Rattle.vm_types.specs.Same.{same_page}
use Rattle.vm_types.specs.declared.names.Page.{Page}
use Rattle.vm_types.specs.declared.names.Page.TheVariants.{Private, Shared}
use Rattle.vm_types.specs.declared.names.Seat.{Seat}
use Rattle.vm_types.specs.declared.names.FrameState.TheVariants as state
use Rattle.vm_types.specs.declared.config.Config.{Config}
use Rattle.vm_types.specs.declared.config.Origin.TheVariants as origin
use Rattle.vm_types.specs.declared.reference.Ref.{Ref}
use Rattle.vm_types.specs.declared.reply.Reply.{Reply}
use Rattle.vm_types.specs.declared.reply.Why.{Why}
use Rattle.vm_journal.specs.declared.entry.Entry.{Entry}
use Rattle.vm_journal.specs.declared.entry.What.TheVariants as what
use Rattle.content_laws.proofs.FlightLeft.{counts_open, left}
use Rattle.content_laws.specs.Stability.{LeavesFlight}
use Rattle.pager_model.specs.Around.{frame_view, quiet}
use Rattle.pager_model.specs.Bytes.{bytes_at, bytes_in}
use Rattle.pager_model.specs.Done.{IsDone, after_done}
use Rattle.pager_model.specs.Flat.{FlatState, answered_at, flat_next, flat_refusal, flat_with, mapping_of, next_unless, touched_with}
use Rattle.pager_model.specs.Flights.{Flight, is_reading, open_flights}
use Rattle.pager_model.specs.Lookups.{is_entry, page_at, page_by}
use Rattle.pager_model.specs.Maps.{Mapped, first_bytes, is_paged, page_behind, page_number}
use Rattle.pager_model.specs.Pager.{Pager, Valid}
use Rattle.pager_model.specs.Sets.{at_page, has_page}
use Rattle.pager_model.specs.Spoken.{flat_after}
use Rattle.pager_model.specs.Transfers.{is_read_on, reads_on, starts}
use Rattle.pager_rules.proofs.Basics.{nat_eq_refl}
use Rattle.pager_rules.proofs.Frames.{active_frame, at_state}
use Rattle.pager_rules.proofs.Lists.{all_found, count_found, found_passes}
use Rattle.pager_rules.proofs.Put.{page_apart}
use Rattle.pager_rules.specs.Kept.{IsForItsPage, IsKept}

-- ---- the flat state with one page's bytes stored
touched_has : (config : Config) (touched : List Page) (x g : Page) → same_page g x ≡ false → has_page (touched_with config touched x) g ≡ has_page touched g
touched_has config touched x g apart = go (is_paged config x) (has_page touched x)
  where
    go : (b c : Bool) → has_page (cond b (cond c touched (x ∷ touched)) touched) g ≡ has_page touched g
    go false c = refl
    go true true = refl
    go true false = cc apart

pub with_bytes : (config : Config) (flat : FlatState) (x g : Page) (bytes : List ℕ) → (x ≡ g → ⊥) → bytes_in config (flat_with config flat x bytes) g ≡ bytes_in config flat g
with_bytes config flat x (Shared s i) bytes apart =
    ap₂ (λ (t : Bool) (ys : List ℕ). cond (is_paged config (Shared s i) && not t) (first_bytes config (origin.Section s i)) ys)
    (touched_has config flat.touched x (Shared s i) (page_apart (Shared s i) x (λ same. apart (sym same))))
    (ap (λ (b : Bool). cond b bytes (flat.stored (Shared s i))) (page_apart x (Shared s i) apart))
with_bytes config flat x (Private p v) bytes apart = go (flat.map p.0 v)
  where
    g : Page
    g = Private p v

    touched_is : has_page (touched_with config flat.touched x) g ≡ has_page flat.touched g
    touched_is = touched_has config flat.touched x g (page_apart g x (λ same. apart (sym same)))

    stored_is : at_page flat.stored x bytes g ≡ flat.stored g
    stored_is = ap (λ (b : Bool). cond b bytes (flat.stored g)) (page_apart x g apart)

    go : (o : Option Mapped) → bytes_at config (flat_with config flat x bytes) g o ≡ bytes_at config flat g o
    go None = refl
    go (Some m) = ap₂ (λ (t : Bool) (ys : List ℕ). cond (true && not t) (first_bytes config m.origin) ys) touched_is stored_is

answered_bytes : (config : Config) (flat : FlatState) (p : ℕ) (r : Ref) (x g : Page) (o : Option Mapped) → page_at config p (page_number (r.addr).0) o ≡ Some x → (x ≡ g → ⊥) → bytes_in config (answered_at config flat p r o) g ≡ bytes_in config flat g
answered_bytes config flat p r x g None is apart = refl
answered_bytes config flat p r x g (Some m) is apart = with_bytes config flat (page_behind config p (page_number (r.addr).0) m.origin) g _ (λ same. apart (sym (same_Some _ _ is) ∙ same))

-- a reference leaves the bytes of every other page
pub done_bytes : (config : Config) (flat : FlatState) (p : ℕ) (r : Ref) (x g : Page) → page_by config flat.map p (page_number (r.addr).0) ≡ Some x → (x ≡ g → ⊥) → bytes_in config (flat_next config flat p r) g ≡ bytes_in config flat g
done_bytes config flat p r x g is apart = go (flat_refusal config flat p r)
  where
    go : (o : Option Why) → bytes_in config (next_unless o flat (answered_at config flat p r (mapping_of flat p r))) g ≡ bytes_in config flat g
    go None = answered_bytes config flat p r x g (mapping_of flat p r) is apart
    go (Some reason) = refl

-- ---- DONE
pub record IsAtPage (config : Config) (past : List Entry) (a : Pager) (p v : ℕ) (e : Valid) : Type 0 where
  pub page : Page
  pub mapped : page_by config a.map p v ≡ Some page
  pub holds : a.page e.frame ≡ Some page
  pub reads : reads_on e.frame (open_flights past) ≡ 0
  pub state : a.state e.frame ≡ state.Active

-- a valid entry's frame holds its page, and isn't read
pub at_page_of : (config : Config) (past : List Entry) (a : Pager) (p v : ℕ) (e : Valid) → IsKept config (quiet (open_flights past)) a → find (is_entry p v) a.valid ≡ Some e → IsAtPage config past a p v e
at_page_of config past a p v e kept found =
    let for_page = all_found (IsForItsPage config a.map a.page) (is_entry p v) a.valid e kept.valid found in
    let parts = and_parts (nat_eq e.proc p) (nat_eq e.vpn v) (found_passes (is_entry p v) a.valid e found) in
    let was = active_frame (frame_view config (quiet (open_flights past)) a e.frame) (kept.frames e.frame) (count_found (λ (y : Valid). nat_eq y.frame e.frame) (is_entry p v) a.valid e found (nat_eq_refl e.frame)) in
    record {
      page = for_page.0;
      mapped = subst₂ (λ (q w : ℕ). page_by config a.map q w ≡ Some for_page.0) (eqb-true _ _ parts.0) (eqb-true _ _ parts.1) for_page.1;
      holds = for_page.2;
      reads = (at_state (frame_view config (quiet (open_flights past)) a e.frame) state.Active was (kept.frames e.frame)).reads;
      state = was;
    }

pub done_left : (config : Config) (past : List Entry) (a : Pager) (x : Flight) (is_open : find (starts x.start) (open_flights past) ≡ Some x) (seat : Seat) (r : Ref) (answer : Reply)
    → IsKept config (quiet (open_flights past)) a → a.map ≡ (flat_after config past).map → IsDone config a seat.0 r → LeavesFlight config past a (record { seat = seat; what = what.Done r answer }) x
done_left config past a x is_open seat r answer kept maps legal g held =
    left config past a x is_open (record { seat = seat; what = what.Done r answer }) (after_done config a seat.0 r) g refl refl bytes refl
  where
    at : IsAtPage config past a seat.0 (page_number (r.addr).0) legal.valid.0
    at = at_page_of config past a seat.0 (page_number (r.addr).0) legal.valid.0 kept legal.valid.1

    apart : is_reading x.direction ≡ true → at.page ≡ g → ⊥
    apart reads same =
        let frame : x.frame ≡ (legal.valid.0).frame = kept.held_once x.frame (legal.valid.0).frame g held (at.holds ∙ ap Some same) in
        let some = counts_open past x is_open (is_read_on (legal.valid.0).frame) (and_from _ _ (subst (λ (h : ℕ). nat_eq x.frame h ≡ true) frame (nat_eq_refl x.frame)) reads) in
        omega (arith, at.reads)

    bytes : is_reading x.direction ≡ true → bytes_in config (flat_next config (flat_after config past) seat.0 r) g ≡ bytes_in config (flat_after config past) g
    bytes reads = done_bytes config (flat_after config past) seat.0 r at.page g (subst (λ (map : ℕ → ℕ → Option Mapped). page_by config map seat.0 (page_number (r.addr).0) ≡ Some at.page) maps at.mapped) (apart reads)
