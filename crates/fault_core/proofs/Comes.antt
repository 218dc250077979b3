-- A page that is in a frame, or out.
use Rattle.std.proofs.Common.{◌≡◌, ◌+◌, ◌<◌, ◌≤◌, ◌&&◌, Bool, true, false, cond, not, List, [], ◌∷◌, Option, Some, None, slice_get, refl, sym, ap, ◌∙◌, subst, arith}
use Rattle.std.specs.Option.{option_map}
use Rattle.vm_types.specs.BlockView.{BlockView, Tells}
use Rattle.vm_types.specs.Configuration.{IsBlock}
use Rattle.pfn_database.specs.declared.row.Row.{Row}
use Rattle.vm_types.specs.declared.names.Addr.{Addr}
use Rattle.vm_types.specs.declared.names.BlockId.{BlockId}
use Rattle.vm_types.specs.declared.names.FrameState.{FrameState}
use Rattle.vm_types.specs.declared.names.Page.{Page}
use Rattle.vm_types.specs.declared.names.Page.TheVariants.{Private, Shared}
use Rattle.vm_types.specs.declared.names.Pfn.{Pfn}
use Rattle.vm_types.specs.declared.names.Seat.{Seat}
use Rattle.vm_types.specs.declared.reference.Ref.{Ref}
use Rattle.vm_types.specs.declared.reply.Reply.{Reply}
use Rattle.vm_journal.specs.declared.entry.What.{What}
use Rattle.vm_journal.specs.declared.entry.What.TheVariants as what
use Rattle.pager_policy.specs.Advance.{again_no_frame, frame_given, gives_again, held_given, next_answered}
use Rattle.pager_model.specs.Charging.{first_source, is_uncharged}
use Rattle.pager_model.specs.Around.{past_view}
use Rattle.pager_model.specs.Forget.{holder}
use Rattle.pager_policy.specs.Given.{given, page_address, reuse_first, unsaid}
use Rattle.pager_model.specs.Lookups.{IsHead, page_by, section_at}
use Rattle.pager_model.specs.Maps.{Mapped, is_paged, proc}
use Rattle.pager_model.specs.OfConfig.{IsPageOf}
use Rattle.pager_model.specs.Flat.{flat_reply}
use Rattle.pager_model.specs.Spoken.{flat_after}
use Rattle.pager_laws.proofs.OfConfigKept.{page_right}
use Rattle.pager_laws.proofs.Holders.{holder_holds, holds_within}
use Rattle.vm_state.specs.History.{History, MayAdd, MayAnswer, added, entry_by, owed, pager}
use Rattle.vm_state.specs.PageReadings.{IsKnown}
use Rattle.lift_carriers.specs.CarrierView.{CarrierView}
use Rattle.vm_state.specs.Readings.{row_at}
use Rattle.state_pages.specs.Shown.{frame_number}
use Rattle.state_pages.specs.declared.found.Backing.{Backing}
use Rattle.call_laws.specs.AreLegal.{AreLegal}
use Rattle.call_laws.proofs.ReadsLegal.{first_private, lying_block, section_block}
use Rattle.call_laws.proofs.WaitsLegal.{kept, right}
use Rattle.vm_state.specs.LiftsLand.{added_each}
use Rattle.call_begins.proofs.Rows.{row_state}
use Rattle.call_begins.proofs.Steps.{paid_after, paid_first}
use Rattle.fault_core.specs.Cases.{at_frame, at_held, source_in, vpn_of}
use Rattle.fault_core.specs.Gives.{Gives, MayGive}
use Rattle.call_begins.specs.ReadySeat.{IsReadySeat}
use Rattle.call_begins.proofs.Heads.{behind_reuse, none_there, reuse_alone}
use Rattle.fault_core.specs.SoughtPage.{IsSought, first_block}
use Rattle.fault_core.specs.declared.next.Next.TheVariants.{Answered}
use Rattle.fault_core.specs.declared.sought.Sought.{Sought}
use Rattle.fault_core.proofs.Branches.{frame_none, uncharged_is}
use Rattle.call_begins.proofs.ReadySeats.{frame_some, ready_of}
use Rattle.fault_core.proofs.KnownPages.{known_page}
use Rattle.fault_core.proofs.Steps.{answered_then, may_answer_then, may_as}

-- where a page is read from first, by what its process has there
first_is : (g : Page) (m : Option Mapped) → first_block g (section_at m) ≡ first_source g m
first_is (Private p v) m = refl
first_is (Shared s i) m = refl

module _ (s : History) (seat : Seat) (r : Ref) (ready : IsReadySeat s seat) where
  right_page : (g : Page) → page_by s.config (pager s).map seat.0 (vpn_of r) ≡ Some g → IsPageOf s.config g
  right_page g mapped = page_right s.config (pager s).map seat.0 (vpn_of r) g (right s.config s.past seat.0 (ready_of s seat ready)).mapped mapped

  pub page_known : (g : Page) → page_by s.config (pager s).map seat.0 (vpn_of r) ≡ Some g → IsKnown s.config g
  page_known g mapped = known_page s.config g (right_page g mapped)

module _ (s : History) (x : Sought) where
  abbrev mapped_there : Option Mapped
  mapped_there = (pager s).map (x.seat).0 (vpn_of x.r)

  module _ (sought : IsSought s x) where
    pub frame_held : (f : Pfn) → (x.backing).frame ≡ Some f → holder s.config (pager s).page x.page ≡ Some f.0
    frame_held f is = frame_some f (holder s.config (pager s).page x.page) (sym is ∙ ap (λ (z : Backing). z.frame) sought.backing)

    pub frame_out : (x.backing).frame ≡ None → holder s.config (pager s).page x.page ≡ None
    frame_out is = frame_none (holder s.config (pager s).page x.page) (sym is ∙ ap (λ (z : Backing). z.frame) sought.backing)

    pub uncharged : (is_paged s.config x.page && not (x.backing).charged) ≡ is_uncharged s.config (pager s) x.page
    uncharged = uncharged_is s.config (pager s) x.page (x.backing).charged (ap (λ (z : Backing). z.charged) sought.backing)

    pub source_is : (o : Option BlockId) → o ≡ cond (is_paged s.config x.page && not (x.backing).charged) (first_block x.page x.behind) (x.backing).lies → o ≡ source_in s x
    source_is o is = is ∙ ((λ i. cond (uncharged i) (first_block x.page (sought.behind i)) ((sought.backing i).lies)) ∙ ap (λ (d : Option BlockId). cond (is_uncharged s.config (pager s) x.page) d ((pager s).lies x.page)) (first_is x.page mapped_there))

    pub source_real : IsReadySeat s x.seat → (b : BlockId) → source_in s x ≡ Some b → IsBlock s.config b
    source_real ready b is = by (is_uncharged s.config (pager s) x.page) is
      where
        by : (c : Bool) → cond c (first_source x.page mapped_there) ((pager s).lies x.page) ≡ Some b → IsBlock s.config b
        by false lies = lying_block s.config s.past (x.seat).0 (ready_of s x.seat ready) x.page b (right_page s x.seat x.r ready x.page sought.mapped) lies
        by true behind =
            let own = first_private s.config s.past (x.seat).0 (ready_of s x.seat ready) x.page mapped_there b behind in
            section_block s.config s.past (x.seat).0 (ready_of s x.seat ready) (vpn_of x.r) x.page b sought.mapped own.0 own.1

-- ---- a page that comes back
module _ (s : History) (x : Sought) (f : Pfn) (holds : holder s.config (pager s).page x.page ≡ Some f.0) where
  pub held_within : IsReadySeat s x.seat → f.0 < s.config.frames
  held_within ready = holds_within s.config (past_view s.past) (pager s) f.0 x.page (kept s.config s.past (x.seat).0 (ready_of s x.seat ready)) (holder_holds s.config (pager s).page x.page f.0 holds)

  pub comes : (from : FrameState) → from ≡ (pager s).state f.0 → at_held s x ≡ given (what.Back (proc (x.seat).0) (page_address (vpn_of x.r)) f from ∷ what.Done x.r unsaid ∷ []) next_answered
  comes from is =
      ap (held_given s.config s.past (pager s) (x.seat).0 x.r x.page) holds
      ∙ ap (λ (z : FrameState). given (what.Back (proc (x.seat).0) (page_address (vpn_of x.r)) f z ∷ what.Done x.r unsaid ∷ []) next_answered) (sym is)

  -- by the row of the frame, and the page's first address
  module _ (row : Row) (row_is : row ≡ row_at s f.0) (start : Addr) (start_is : start ≡ page_address (vpn_of x.r)) where
    abbrev entry : What
    entry = what.Back (proc (x.seat).0) start f row.state

    given_is : at_held s x ≡ given (entry ∷ what.Done x.r unsaid ∷ []) next_answered
    given_is =
        comes row.state (ap (λ (z : Row). z.state) row_is ∙ row_state s f.0)
        ∙ ap (λ (z : Addr). given (what.Back (proc (x.seat).0) z f row.state ∷ what.Done x.r unsaid ∷ []) next_answered) (sym start_is)

    pub came_back : MayGive s x.seat (at_held s x) → MayAdd s (entry_by x.seat entry)
    came_back may =
        let m = may_as s x.seat _ _ given_is may in
        record { legal = m.legal.0; paid = paid_first s x.seat entry 1 (omega arith) refl refl m.room }

    module _ (s' : History) where
      pub may_answer_back : MayGive s x.seat (at_held s x) → s' ≡ added s (entry_by x.seat entry) → MayAnswer s' x.seat x.r
      may_answer_back may made =
          let m = may_as s x.seat _ _ given_is may in
          may_answer_then s s' x.seat entry x.r made m.legal.1.0 refl refl m.room

      pub gives_back : {B : Type 0} {seen : B → BlockView} {tells : Tells}
          → s' ≡ added s (entry_by x.seat entry) → (after : History) (shown : Reply) (c : CarrierView B) → after ≡ added s' (entry_by x.seat (what.Done x.r shown))
          → (tells.content ≡ true → shown ≡ flat_reply s'.config (flat_after s'.config s'.past) (x.seat).0 x.r)
          → Gives seen tells s after x.seat x.r (at_held s x) (Answered shown) c c
      gives_back first after shown c made flat = answered_then s s' after x.seat entry x.r shown c _ given_is first refl refl made flat

-- ---- the free list's head
pub no_frame : (s : History) (x : Sought) (o : Option BlockId) → option_map frame_number None ≡ slice_get (pager s).free 0 → at_frame s x o ≡ gives_again again_no_frame
no_frame s x o is = ap (frame_given s.config (pager s) (x.seat).0 x.r x.page o) (none_there (pager s).free is)

-- ---- a demand zero page
module _ (s : History) (x : Sought) (f : Pfn) (head : IsHead (pager s).free f.0) (start : Addr) (start_is : start ≡ page_address (vpn_of x.r)) where
  abbrev zero_made : List What
  zero_made = what.Zero start f ∷ what.Done x.r unsaid ∷ []

  pub zeros : at_frame s x None ≡ given (reuse_first ((pager s).page f.0) f.0 zero_made) next_answered
  zeros =
      ap (frame_given s.config (pager s) (x.seat).0 x.r x.page None) head.heads
      ∙ ap (λ (z : Addr). given (reuse_first ((pager s).page f.0) f.0 (what.Zero z f ∷ what.Done x.r unsaid ∷ [])) next_answered) (sym start_is)

  pub may_first : MayGive s x.seat (at_frame s x None) → AreLegal s.config s.past (x.seat).0 (reuse_first ((pager s).page f.0) f.0 [])
  may_first may = reuse_alone s.config s.past (x.seat).0 f.0 zero_made ((pager s).page f.0) (may_as s x.seat _ _ zeros may).legal

  paid_behind : (o : Option Page) → owed s.past + 64 ≤ s.spare → owed (added_each x.seat (reuse_first o f.0 []) s).past + 60 ≤ (added_each x.seat (reuse_first o f.0 []) s).spare
  paid_behind None room = omega (arith, room)
  paid_behind (Some g) room = let paid = paid_first s x.seat (what.Reuse f g) 62 (omega arith) refl refl room in omega (arith, paid)

  module _ (s1 : History) (first : s1 ≡ added_each x.seat (reuse_first ((pager s).page f.0) f.0 []) s) (may : MayGive s x.seat (at_frame s x None)) where
    rest : AreLegal s1.config s1.past (x.seat).0 zero_made
    rest = subst (λ (y : History). AreLegal y.config y.past (x.seat).0 zero_made) (sym first) (behind_reuse s x.seat f.0 zero_made ((pager s).page f.0) (may_as s x.seat _ _ zeros may).legal)

    left : owed s1.past + 60 ≤ s1.spare
    left = subst (λ (y : History). owed y.past + 60 ≤ y.spare) (sym first) (paid_behind ((pager s).page f.0) may.room)

    pub may_zero : MayAdd s1 (entry_by x.seat (what.Zero start f))
    may_zero = record { legal = rest.0; paid = paid_after s1.past (entry_by x.seat (what.Zero start f)) s1.spare 1 refl refl (let enough = left in omega (arith, enough)) }

    pub may_answer_zero : (s2 : History) → s2 ≡ added s1 (entry_by x.seat (what.Zero start f)) → MayAnswer s2 x.seat x.r
    may_answer_zero s2 made = subst (λ (y : History). MayAnswer y x.seat x.r) (sym made) (record {
      legal = rest.1.0;
      paid = let paid = paid_after s1.past (entry_by x.seat (what.Zero start f)) s1.spare 2 refl refl (let enough = left in omega (arith, enough)) in omega (arith, paid);
    })
