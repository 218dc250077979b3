use Rattle.std.proofs.Common.{◌≡◌, ℕ, ◌<◌, Some, refl, sym, ap, ◌∙◌, subst}
use Rattle.vm_types.specs.Access.{is_allowed}
use Rattle.pager_model.specs.Flat.{flat_refusal}
use Rattle.pager_model.specs.Maps.{page_number}
use Rattle.pager_model.specs.Spoken.{flat_after}
use Rattle.vm_state.specs.History.{History, pager}
use Rattle.vm_state.specs.PageReadings.{found_in}
use Rattle.state_pages.proofs.Looked.{looked}
use Rattle.vm_state.proofs.FlatShows as flat
use Rattle.vm_state.proofs.PageShows as shows
use Rattle.vm_state.proofs.state.State.granted.Goals as goal

pub allowed-requires : goal.allowed-requires
allowed-requires g c =
    let v = page_number (c.args.r.addr).0 in
    let x = shows.entry_is c.self.invariant c.args.p.0 v c.in-Some.pte (sym c.in-Some.is ∙ looked c.self.inside.tables c.args.p.0 v c.look.result c.entry_in.result c.look.ensures.value c.entry_in.ensures) in
    subst (λ (n : ℕ). n < 16) x.2 (flat.code_small c.self.invariant c.args.p.0 c.args.r x.0 x.1)

pub returns-then-allowed : goal.returns-then-allowed
returns-then-allowed g c =
    let p = c.args.p.0 in
    let r = c.args.r in
    let v = page_number (r.addr).0 in
    let x = shows.entry_is c.self.invariant p v c.in-Some.pte (sym c.in-Some.is ∙ looked c.self.inside.tables p v c.look.result c.entry_in.result c.look.ensures.value c.entry_in.ensures) in
    record {
      granted = flat.none_is c.self.invariant p r x.0 x.1 c.changes.result c.allowed.result c.changes.ensures (c.allowed.ensures ∙ ap (λ (n : ℕ). is_allowed n r.mode c.changes.result) (sym x.2)) c.if-allowed.true
          _ (flat.blocks_left c.self.invariant (x.0).page c.charged.result (c.charged.ensures.value ∙ c.self.invariant.parts.file.charges) c.if-charged-self.true) refl
          ∙ ap (λ (s : History). flat_refusal s.config (flat_after s.config s.past) p r) c.self.view_is;
      found = x.0;
      there = x.1 ∙ ap (λ (s : History). found_in s.config (pager s) p v) c.self.view_is;
      entry = x.3 ∙ sym c.is_valid.ensures;
    }
