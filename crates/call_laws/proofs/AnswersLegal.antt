-- What is answered at once is legal: an adjustment, a refusal, and a reference to a page whose entry is valid.
use Rattle.std.proofs.Common.{◌≡◌, inl, ℕ, ◌+◌, ◌≤◌, Bool, true, false, List, Option, Some, None, length, not, cond, refl, sym, ap, subst, arith}
use Rattle.vm_types.specs.Access.{is_allowed}
use Rattle.vm_types.specs.WellFormed.{IsWellFormedReference}
use Rattle.vm_types.specs.declared.config.Config.{Config}
use Rattle.vm_types.specs.declared.reference.Ref.{Ref}
use Rattle.vm_types.specs.declared.reply.Reply.{Reply}
use Rattle.vm_types.specs.declared.reply.Why.{Why}
use Rattle.vm_types.specs.declared.reply.Why.TheVariants as why
use Rattle.vm_journal.specs.declared.entry.Entry.{Entry}
use Rattle.vm_journal.specs.declared.entry.What.TheVariants as what
use Rattle.vm_text.specs.References.{IsReplyTo}
use Rattle.pager_model.specs.Denied.{IsFlatWhy}
use Rattle.pager_model.specs.Done.{Allows}
use Rattle.pager_model.specs.Flat.{FlatState, flat_refusal, is_change, is_page_file_full, refusal_at}
use Rattle.pager_policy.specs.Given.{by_seat}
use Rattle.pager_model.specs.Lookups.{entry_of, is_pending}
use Rattle.pager_model.specs.Maps.{Mapped, page_behind, page_number}
use Rattle.pager_model.specs.Pager.{Pager, Valid}
use Rattle.pager_model.specs.Run.{pager_after}
use Rattle.pager_model.specs.Spoken.{flat_after}
use Rattle.pager_model.specs.Step.{IsLegal}
use Rattle.pager_laws.proofs.FlatFollows.{follows}
use Rattle.call_laws.specs.Ready.{IsReady}
use Rattle.call_laws.proofs.FreeTurn.{free_turn}

-- a refusal of the flat machine is one of its three reasons
flat_why : (config : Config) (flat : FlatState) (p : ℕ) (r : Ref) (reason : Why) (o : Option Mapped) → refusal_at config flat p r o ≡ Some reason → IsFlatWhy reason
flat_why config flat p r why.Unmapped o is = tt
flat_why config flat p r why.Protected o is = tt
flat_why config flat p r why.PageFileFull o is = tt
flat_why config flat p r why.DiskFault None is = absurd (cc)
flat_why config flat p r why.DiskFault (Some m) is = by (not (is_allowed m.prot r.mode (is_change r.op))) (is_page_file_full config flat (page_behind config p (page_number (r.addr).0) m.origin)) is
  where
    by : (b c : Bool) → cond b (Some why.Protected) (cond c (Some why.PageFileFull) None) ≡ Some why.DiskFault → IsFlatWhy why.DiskFault
    by true c is = absurd (cc)
    by false true is = absurd (cc)
    by false false is = absurd (cc)

-- what the flat machine doesn't refuse is mapped, with the right
unrefused : (config : Config) (flat : FlatState) (p : ℕ) (r : Ref) (o : Option Mapped) → refusal_at config flat p r o ≡ None → Allows o r
unrefused config flat p r None is = absurd (cc)
unrefused config flat p r (Some m) is = by (is_allowed m.prot r.mode (is_change r.op)) (is_page_file_full config flat (page_behind config p (page_number (r.addr).0) m.origin)) refl is
  where
    by : (b c : Bool) → is_allowed m.prot r.mode (is_change r.op) ≡ b → cond (not b) (Some why.Protected) (cond c (Some why.PageFileFull) None) ≡ None → is_allowed m.prot r.mode (is_change r.op) ≡ true
    by true c allows is = allows
    by false c allows is = absurd (cc)

module _ (config : Config) (past : List Entry) (p : ℕ) (ready : IsReady config past p) where
  abbrev a : Pager
  a = pager_after config past

  seat_small : p ≤ length config.procs + 1
  seat_small = let below = ready.own.process in omega (arith, below)

  pub denied_legal : (r : Ref) (reason : Why) → IsWellFormedReference r → is_pending config (a.references p) ≡ false → flat_refusal config (flat_after config past) p r ≡ Some reason → IsLegal config past a (by_seat p (what.Denied r reason))
  denied_legal r reason formed_r not_pending refused = record {
    in_turn = free_turn config past p (what.Denied r reason) ready.free;
    line = record { seat = seat_small; what = formed_r };
    row = inl (record { own = ready.own; flat_why = flat_why config (flat_after config past) p r reason _ refused; not_pending = not_pending; refused = refused });
  }

  allowed : (r : Ref) → flat_refusal config (flat_after config past) p r ≡ None → Allows (a.map p (page_number (r.addr).0)) r
  allowed r none = subst (λ (o : Option Mapped). Allows o r) (sym (ap (λ map. map p (page_number (r.addr).0)) (follows config past ready.formed ready.run).map)) (unrefused config (flat_after config past) p r _ none)

  pub done_legal : (r : Ref) (reply : Reply) (e : Valid) → IsWellFormedReference r → IsReplyTo r.op reply → is_pending config (a.references p) ≡ false → flat_refusal config (flat_after config past) p r ≡ None → entry_of a.valid p (page_number (r.addr).0) ≡ Some e
      → IsLegal config past a (by_seat p (what.Done r reply))
  done_legal r reply e formed_r answers not_pending none valid = record {
    in_turn = free_turn config past p (what.Done r reply) ready.free;
    line = record { seat = seat_small; what = (formed_r, answers) };
    row = record { own = ready.own; not_pending = not_pending; allowed = allowed r none; valid = (e, valid) };
  }
