-- Content along ZERO: the frame's buffer has zeros.
use Rattle.std.proofs.Common.{◌≡◌, ℕ, ◌<◌, ◌&&◌, Bool, true, false, cond, not, List, ◌∷◌, Option, Some, None, length, count_by, replicate, refl, sym, ap, ap₂, ◌∙◌, subst, arith}
use Rattle.std.proofs.lemmas.Bool.{false_from_ne_true}
use Rattle.std.proofs.lemmas.List.{length-replicate}
use Rattle.std.proofs.lemmas.Option.{none-some, same_Some}
use Rattle.vm_types.specs.declared.limits.TheConstants.{PAGE_BYTES}
use Rattle.vm_types.specs.BlockView.{BlockView}
use Rattle.vm_types.specs.declared.names.Page.{Page}
use Rattle.vm_types.specs.declared.names.Pfn.{Pfn}
use Rattle.vm_types.specs.declared.names.Addr.{Addr}
use Rattle.vm_types.specs.declared.names.BlockId.{BlockId}
use Rattle.vm_types.specs.declared.names.Seat.{Seat}
use Rattle.vm_types.specs.declared.names.FrameState.{FrameState}
use Rattle.vm_types.specs.declared.names.FrameState.TheVariants as state
use Rattle.vm_types.specs.declared.config.Config.{Config}
use Rattle.vm_types.specs.declared.config.Origin.{Origin}
use Rattle.vm_types.specs.declared.config.Origin.TheVariants as origin
use Rattle.vm_journal.specs.declared.entry.Entry.{Entry}
use Rattle.vm_journal.specs.declared.entry.What.TheVariants as what
use Rattle.content_laws.proofs.BlockMoved.{counted_same}
use Rattle.content_laws.proofs.FrameChanged.{buffers_put, held_move, settled_move, written_move}
use Rattle.content_laws.specs.Put.{PutsBuffer}
use Rattle.pager_laws.proofs.KeptIsSound.{count_from_has}
use Rattle.pager_model.specs.Around.{frame_view, quiet}
use Rattle.pager_model.specs.Bytes.{bytes_in, now}
use Rattle.pager_model.specs.Content.{ContentFits}
use Rattle.pager_model.specs.Flat.{FlatState}
use Rattle.pager_model.specs.Flights.{Flight, open_flights}
use Rattle.pager_model.specs.Lookups.{is}
use Rattle.pager_model.specs.Maps.{Map, Mapped, first_bytes, page_behind, page_number, section_bytes}
use Rattle.pager_model.specs.Pager.{Pager}
use Rattle.pager_model.specs.Sets.{has_page}
use Rattle.pager_model.specs.Spoken.{flat_after}
use Rattle.pager_model.specs.Zero.{IsDemandZero, IsZero, after_zero, is_zero_origin, zeroed_page}
use Rattle.pager_rules.proofs.Basics.{at_number_other, at_number_same}
use Rattle.pager_rules.proofs.Put.{free_row, head_counts}
use Rattle.pager_rules.proofs.Transfers.{on_frame}
use Rattle.pager_rules.specs.Kept.{FitsFrame, IsKept}
use Rattle.pager_rules.proofs.Pages.{zeroed_paged}
use Rattle.content_laws.proofs.DoneContent.{bytes_now}

first_zeros : (config : Config) (o : Origin) → is_zero_origin config o ≡ true → first_bytes config o ≡ replicate PAGE_BYTES 0
first_zeros config origin.Zero zeros = refl
first_zeros config (origin.Section s i) zeros = ap (λ (b : Bool). cond b (replicate PAGE_BYTES 0) (section_bytes config s.0 i)) zeros

untouched_bytes : (config : Config) (flat : FlatState) (p v : ℕ) (o : Option Mapped) → flat.map p v ≡ o → IsDemandZero config o → has_page flat.touched (zeroed_page config p v o) ≡ false → bytes_in config flat (zeroed_page config p v o) ≡ replicate PAGE_BYTES 0
untouched_bytes config flat p v None mapped demand out = absurd demand
untouched_bytes config flat p v (Some m) mapped demand out =
    bytes_now config flat p v m (page_behind config p v m.origin) mapped refl
    ∙ (ap₂ (λ (b t : Bool). cond (b && not t) (first_bytes config m.origin) (flat.stored (page_behind config p v m.origin))) (zeroed_paged config p v (Some m) demand) out
    ∙ first_zeros config m.origin demand)

module _ (tells tells_plan : Bool) (config : Config) (past : List Entry) (a : Pager) (buffer buffer' : ℕ → Option (List ℕ)) (home : BlockId → Option BlockView) where
  pub zero_content : (seat : Seat) (address : Addr) (f : Pfn) → IsKept config (quiet (open_flights past)) a → a.map ≡ (flat_after config past).map → a.touched ≡ (flat_after config past).touched → IsZero config a seat.0 address.0 f.0
      → PutsBuffer f.0 (Some (replicate PAGE_BYTES 0)) buffer buffer' → ContentFits tells tells_plan config past a buffer home
      → ContentFits tells tells_plan config (record { seat = seat; what = what.Zero address f } ∷ past) (after_zero config a seat.0 address.0 f.0) buffer' home
  zero_content seat address f kept maps touches legal put fits = record {
    buffers = buffers_put config a.state b.state buffer buffer' n (Some (replicate PAGE_BYTES 0)) put
        (λ ys is. subst (λ (zs : List ℕ). length zs ≡ PAGE_BYTES) (same_Some _ _ is) (length-replicate {A = ℕ} PAGE_BYTES 0))
        (sym (ap (λ (s : FrameState). not (is state.Reading s)) (at_number_same a.state n state.Active))) (λ h apart. at_number_other a.state n state.Active h apart) fits.buffers;
    homes = fits.homes;
    held = λ told. held_move (now config past) (now config (e ∷ past)) a.page b.page a.state b.state buffer buffer' n
        (λ h apart. (at_number_other a.page n (Some x) h apart, at_number_other a.state n state.Active h apart, put.others h apart, λ g holds. refl))
        (λ g holds filled.
        let same : x ≡ g = same_Some _ _ (sym (at_number_same a.page n (Some x)) ∙ holds) in
        subst (λ (y : Page). buffer' n ≡ Some (now config past y)) same (put.here ∙ ap Some (sym now_zero)))
        (fits.held told);
    lying = λ told d y g real at_home lies settled. fits.lying told d y g real at_home lies (settled_move a.page b.page a.modify b.modify (open_flights past) (open_flights past) n g
        (λ h apart. (at_number_other a.page n (Some x) h apart, at_number_other a.modify n true h apart, refl))
        (λ holds. absurd (none-some g (sym legal.frame.empty ∙ holds))) settled);
    written = λ told. written_move config past e a.page b.page a.modify b.modify (λ y counts writes clear g holds.
        let far = elsewhere y counts in
        (sym (at_number_other a.modify n true y.frame far) ∙ clear, sym (at_number_other a.page n (Some x) y.frame far) ∙ holds, refl)) (fits.written told);
    copied = fits.copied;
    counted = λ d y at_home. counted_same tells_plan config past (e ∷ past) d y refl (fits.counted d y at_home);
  }
    where
      n : ℕ
      n = f.0

      v : ℕ
      v = page_number address.0

      x : Page
      x = zeroed_page config seat.0 v (a.map seat.0 v)

      e : Entry
      e = record { seat = seat; what = what.Zero address f }

      b : Pager
      b = after_zero config a seat.0 address.0 n

      row : FitsFrame (record (frame_view config (quiet (open_flights past)) a n) { state = state.Free })
      row = free_row (frame_view config (quiet (open_flights past)) a n) (kept.frames n) (head_counts a.free n legal.frame.head)

      elsewhere : (y : Flight) → ((t : Flight → Bool) → t y ≡ true → 0 < count_by t (open_flights past)) → n ≡ y.frame → ⊥
      elsewhere y counts same = omega (arith, row.reads, row.writes, on_frame y (open_flights past) counts n (sym same))

      untouched : has_page (flat_after config past).touched x ≡ false
      untouched = subst (λ (ys : List Page). has_page ys x ≡ false) touches (false_from_ne_true (has_page a.touched x) (λ has. omega (arith, count_from_has a.touched x has, (kept.pages x).touched, legal.not_charged)))

      now_zero : now config past x ≡ replicate PAGE_BYTES 0
      now_zero = untouched_bytes config (flat_after config past) seat.0 v (a.map seat.0 v) (ap (λ (map : Map). map seat.0 v) (sym maps)) legal.demand_zero untouched
