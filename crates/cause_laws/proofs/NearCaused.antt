-- The reads of a cluster have their cause by the one before them.
use Rattle.std.proofs.Common.{◌≡◌, ◌⊎◌, inl, inr, ℕ, Bool, true, cond, List, [], ◌∷◌, Option, Some, None, refl, sym, ap, ◌∙◌, subst, arith}
use Rattle.std.specs.List.{AllByRecursion}
use Rattle.std.proofs.lemmas.Bool.{cases_eq}
use Rattle.std.proofs.lemmas.Option.{none-some, same_Some}
use Rattle.vm_types.specs.BlockOrder.{is_next_block}
use Rattle.vm_types.specs.declared.names.BlockId.{BlockId}
use Rattle.vm_types.specs.declared.names.Page.{Page}
use Rattle.vm_types.specs.declared.config.Config.{Config}
use Rattle.vm_journal.specs.declared.entry.Entry.{Entry}
use Rattle.vm_journal.specs.declared.entry.Role.{Role}
use Rattle.vm_journal.specs.declared.entry.Role.TheVariants as role
use Rattle.vm_journal.specs.declared.entry.What.TheVariants as what
use Rattle.pager_model.specs.Carrier.{Carrying, carrying}
use Rattle.pager_model.specs.Flights.{Flight}
use Rattle.pager_model.specs.In.{IsInNear}
use Rattle.pager_model.specs.InTurn.{MayJoin}
use Rattle.pager_model.specs.Maps.{pfn}
use Rattle.pager_model.specs.Pager.{Pager}
use Rattle.pager_model.specs.Reuse.{IsReuse}
use Rattle.pager_model.specs.Run.{pager_after}
use Rattle.pager_model.specs.Sets.{at_number}
use Rattle.pager_model.specs.Step.{IsLegal}
use Rattle.pager_policy.specs.Given.{Target, by_seat, reads_made, reuse_first}
use Rattle.pager_rules.proofs.Basics.{at_number_other, at_number_same, nat_eq_refl}
use Rattle.call_laws.proofs.NearLegal.{begun_read}
use Rattle.call_laws.specs.AreLegal.{AreLegal}
use Rattle.entry_causes.specs.Caused.{IsInCause}
use Rattle.entry_causes.specs.ReuseCause.{ReadsOn}
use Rattle.cause_laws.specs.AreCaused.{AreCaused}

-- a neighbour that is out, as the frames were when the cluster began
abbrev pub IsOutNeighbour : (ℕ → Option Page) → Target → Type 0
IsOutNeighbour page t = (g : Page) × (t.role ≡ role.Near g) × ((k : ℕ) → page k ≡ Some g → ⊥)

-- ---- a reuse before the read of a neighbour: the page that follows is out already before the reuse
module _ (config : Config) (past : List Entry) (seat f : ℕ) (x g : Page) (b : BlockId) where
  abbrev a : Pager
  a = pager_after config past

  abbrev reused : List Entry
  reused = by_seat seat (what.Reuse (pfn f) x) ∷ past

  reuse_holds : IsReuse past a seat f x → a.page f ≡ Some x
  reuse_holds (inl free) = free.holds
  reuse_holds (inr failed) = failed.holds

  same_carrier : carrying seat reused ≡ carrying seat past
  same_carrier = ap (λ (same : Bool). cond same (carrying seat past) (carrying seat past)) (nat_eq_refl seat)

  module _ (holds : a.page f ≡ Some x) (apart : x ≡ g → ⊥) (near : IsInNear config reused (pager_after config reused) seat f b g) where
    -- the frame of the last read isn't the one that is reused
    kept_page : (k : ℕ) (h : Page) → at_number a.page f None k ≡ Some h → a.page k ≡ Some h
    kept_page k h is = go (cases_eq f k)
      where
        go : (f ≡ k) ⊎ (f ≡ k → ⊥) → a.page k ≡ Some h
        go (inl same) = absurd (none-some h (sym (at_number_same a.page f None) ∙ (ap (at_number a.page f None) same ∙ is)))
        go (inr other) = sym (at_number_other a.page f None k other) ∙ is

    out_before : (k : ℕ) → a.page k ≡ Some g → ⊥
    out_before k is = go (cases_eq f k)
      where
        go : (f ≡ k) ⊎ (f ≡ k → ⊥) → ⊥
        go (inl same) = apart (same_Some x g (sym holds ∙ (ap a.page same ∙ is)))
        go (inr other) = near.lying.out k (at_number_other a.page f None k other ∙ is)

    reads_on : MayJoin config (carrying seat reused) (begun_read reused seat f b (role.Near g)) → ReadsOn config past a seat
    reads_on joins = record {
      busy = near.busy;
      last = near.last;
      lasts = ap (λ (c : Carrying). c.last) (sym same_carrier) ∙ near.lasts;
      role = near.role;
      none_landed = ap (λ (c : Carrying). c.landed) (sym same_carrier) ∙ joins.none_landed;
      room = let begun = ap (λ (c : Carrying). c.begun) same_carrier in let room = joins.room in omega (arith, begun, room);
      followed = record {
        before = near.before;
        holds = kept_page near.last.frame near.before near.holds;
        page = g;
        kin = near.kin;
        block = b;
        exists = near.lying.home.exists;
        next_block = subst (λ (y : Flight). is_next_block y.block b ≡ true) (same_Some joins.last near.last (sym joins.lasts ∙ near.lasts)) joins.next_block;
        lies = near.lying.lies;
        out = out_before;
      };
    }

-- ---- all of them, if they are legal
module _ (config : Config) (page : ℕ → Option Page) (seat : ℕ) where
  near_cause : (past : List Entry) (a : Pager) (t : Target) → IsOutNeighbour page t → IsInCause t.role config past a
  near_cause past a t near = subst (λ (r : Role). IsInCause r config past a) (sym near.1) tt

  reuse_caused : (past : List Entry) (f : ℕ) (x : Page) (t : Target) → page f ≡ Some x → IsOutNeighbour page t → IsLegal config past (pager_after config past) (by_seat seat (what.Reuse (pfn f) x))
      → IsLegal config (by_seat seat (what.Reuse (pfn f) x) ∷ past) (pager_after config (by_seat seat (what.Reuse (pfn f) x) ∷ past)) (by_seat seat (what.In (pfn f) t.block t.role)) → ReadsOn config past (pager_after config past) seat
  reuse_caused past f x t held near reuse legal = go (subst (λ (r : Role). IsLegal config reused_past (pager_after config reused_past) (by_seat seat (what.In (pfn f) t.block r))) near.1 legal)
    where
      reused_past : List Entry
      reused_past = by_seat seat (what.Reuse (pfn f) x) ∷ past

      apart : x ≡ near.0 → ⊥
      apart same = near.2 f (held ∙ ap Some same)

      go : IsLegal config reused_past (pager_after config reused_past) (by_seat seat (what.In (pfn f) t.block (role.Near near.0))) → ReadsOn config past (pager_after config past) seat
      go is =
          let joins = is.in_turn.carrier (begun_read reused_past seat f t.block (role.Near near.0)) refl is.row.busy in
          reads_on config past seat f x near.0 t.block (reuse_holds config past seat f x near.0 t.block reuse.row) apart is.row joins

  pub near_caused : (frames : List ℕ) (targets : List Target) → AllByRecursion (IsOutNeighbour page) targets → (past : List Entry) → AreLegal config past seat (reads_made page frames targets) → AreCaused config past seat (reads_made page frames targets)
  near_caused [] targets near past legal = tt
  near_caused (f ∷ frames) [] near past legal = tt
  near_caused (f ∷ frames) (t ∷ targets) near past legal = by (page f) refl legal (near_caused frames targets near.1)
    where
      by : (o : Option Page) → page f ≡ o → AreLegal config past seat (reuse_first o f (what.In (pfn f) t.block t.role ∷ reads_made page frames targets))
          → ((more : List Entry) → AreLegal config more seat (reads_made page frames targets) → AreCaused config more seat (reads_made page frames targets))
          → AreCaused config past seat (reuse_first o f (what.In (pfn f) t.block t.role ∷ reads_made page frames targets))
      by None held are rest = (near_cause past (pager_after config past) t near.0, rest (by_seat seat (what.In (pfn f) t.block t.role) ∷ past) are.1)
      by (Some x) held are rest = (
        inr (inr (inl (reuse_caused past f x t held near.0 are.0 are.1.0))),
        (
          near_cause (by_seat seat (what.Reuse (pfn f) x) ∷ past) (pager_after config (by_seat seat (what.Reuse (pfn f) x) ∷ past)) t near.0,
          rest (by_seat seat (what.In (pfn f) t.block t.role) ∷ (by_seat seat (what.Reuse (pfn f) x) ∷ past)) are.1.1,
        ),
      )
