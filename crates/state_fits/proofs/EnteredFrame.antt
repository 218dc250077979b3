-- A frame gets one valid entry more, by which a page enters a ring: its row, and the rows of the other frames.
use Rattle.std.proofs.Common.{◌≡◌, ℕ, ◌<◌, ◌+◌, Bool, List, ◌∷◌, Option, Some, None, length, nat_eq, slice_get, slice_set, refl, sym, ap, ◌∙◌, subst, arith}
use Rattle.std.proofs.lemmas.Bool.{ne_eqb}
use Rattle.vm_types.specs.Ring.{Ring, choose, filled, fresh_slot}
use Rattle.vm_types.specs.declared.ring_choice.Choice.{Choice}
use Rattle.vm_types.specs.declared.ring_choice.Choice.TheVariants.{Empty}
use Rattle.vm_types.specs.declared.config.ProcSpec.{ProcSpec}
use Rattle.vm_types.specs.declared.names.FrameState.{FrameState}
use Rattle.vm_types.specs.declared.names.Page.{Page}
use Rattle.pfn_database.specs.Rows.{counted_references, uncounted}
use Rattle.pfn_database.specs.declared.row.Row.{Row}
use Rattle.pager_model.specs.Around.{ProcessView}
use Rattle.pager_model.specs.Changes.{valid_at}
use Rattle.pager_model.specs.Flights.{Flight}
use Rattle.pager_model.specs.Lookups.{shares}
use Rattle.pager_model.specs.Pager.{Valid}
use Rattle.pager_model.specs.Ring.{placed, placed_at}
use Rattle.pager_model.specs.Transfers.{reads_on, writes_on}
use Rattle.pager_rules.proofs.Basics.{count_cons_no, count_cons_yes, nat_eq_refl}
use Rattle.pager_rules.proofs.PlacedRing.{IsOffered, offered}
use Rattle.pager_rules.specs.Kept.{FitsProcess}
use Rattle.state_fits.specs.Frames.{frame_pins, frame_row, slot_for}
use Rattle.state_fits.proofs.FrameRows.{over_pins}

-- the slot that the ring offers below the limit: it is there, it is empty, and the page goes into it
pub record IsPut (ring new : Ring) (slot v : ℕ) : Type 0 where
  pub within : slot < length ring.slots
  pub empty : slice_get ring.slots slot ≡ Some None
  pub slots : new.slots ≡ slice_set ring.slots slot (fresh_slot v)

one_offer : (ring : Ring) (limit slot other v : ℕ) → choose ring limit ≡ Empty slot → IsOffered ring limit other → IsPut ring (placed ring limit v) slot v
one_offer ring limit slot other v chosen is =
    let both : Empty slot ≡ Empty other = sym chosen ∙ is.chosen in
    let same : other ≡ slot = cc in
    subst (λ (n : ℕ). IsPut ring (placed ring limit v) n v) same (record {
      within = is.within;
      empty = is.empty;
      slots = ap (λ (c : Choice). (placed_at c ring v).slots) is.chosen;
    })

pub put_there : (x : ProcessView) (slot v : ℕ) → FitsProcess x → filled x.ring.slots < x.limit → choose x.ring x.limit ≡ Empty slot → IsPut x.ring (placed x.ring x.limit v) slot v
put_there x slot v fits below chosen = of_spec x.spec refl
  where
    of_spec : (o : Option ProcSpec) → x.spec ≡ o → IsPut x.ring (placed x.ring x.limit v) slot v
    of_spec None none = let no = fits.none none in absurd (omega (arith, no.0, below))
    of_spec (Some spec) found =
        let bounded = fits.bounds spec found in
        let offer = offered x.ring x.limit below (omega (arith, bounded.slots, bounded.most)) (omega (arith, bounded.slots, bounded.hand)) in
        one_offer x.ring x.limit slot offer.0 v chosen offer.1

-- what the rows are made of, before and after
module _ (state state' : ℕ → FrameState) (page page' : ℕ → Option Page) (modify modify' : ℕ → Bool) (valid : List Valid) (ring ring' : ℕ → Ring) (flights : List Flight) (p v f : ℕ) where
  abbrev old : ℕ → Row
  old = frame_row state page modify valid ring flights

  abbrev new : ℕ → Row
  new = frame_row state' page' modify' (valid_at p v f ∷ valid) ring' flights

  pub entered_here : (row : Row) (s : FrameState) (g : Page) (m : Bool) (slot : ℕ) → row ≡ old f → state' f ≡ s → page' f ≡ Some g → modify' f ≡ m → slot_for ring' (Some g) ≡ slot → frame_pins (valid_at p v f ∷ valid) ring' f ≡ frame_pins valid ring f
      → record row { state = s; page = Some g; modify = m; refs = counted_references (row.shares + 1) row.flights + uncounted row; shares = row.shares + 1; slot = slot } ≡ new f
  unfolding frame_row
  entered_here row s g m slot is state_is page_is modify_is slot_is pins =
      let over = over_pins (counted_references (shares valid f) (reads_on f flights + writes_on f flights)) (frame_pins valid ring f) ∙ sym pins in
      let more : shares valid f + 1 ≡ shares (valid_at p v f ∷ valid) f = let one = count_cons_yes (λ (e : Valid). nat_eq e.frame f) (valid_at p v f) valid (nat_eq_refl f) in omega (arith, one) in
      ap (λ (r : Row). record r { state = s; page = Some g; modify = m; refs = counted_references (r.shares + 1) r.flights + uncounted r; shares = r.shares + 1; slot = slot }) is
      ∙ (λ i. record {
        state = sym state_is i;
        page = sym page_is i;
        modify = sym modify_is i;
        refs = counted_references (more i) (reads_on f flights + writes_on f flights) + over i;
        shares = more i;
        slot = (sym slot_is ∙ ap (slot_for ring') (sym page_is)) i;
        flights = reads_on f flights + writes_on f flights;
      })

  pub entered_there : (h : ℕ) → (f ≡ h → ⊥) → state' h ≡ state h → page' h ≡ page h → modify' h ≡ modify h → slot_for ring' (page h) ≡ slot_for ring (page h) → frame_pins (valid_at p v f ∷ valid) ring' h ≡ frame_pins valid ring h → new h ≡ old h
  unfolding frame_row
  entered_there h apart state_is page_is modify_is slot_is pins =
      let same = count_cons_no (λ (e : Valid). nat_eq e.frame h) (valid_at p v f) valid (ne_eqb f h apart) in
      λ i. record {
        state = state_is i;
        page = page_is i;
        modify = modify_is i;
        refs = counted_references (same i) (reads_on h flights + writes_on h flights) + pins i;
        shares = same i;
        slot = (ap (slot_for ring') page_is ∙ slot_is) i;
        flights = reads_on h flights + writes_on h flights;
      }
