-- The tests on an entry tell which entry it is.
use Rattle.std.proofs.Common.{◌≡◌, ℕ, Bool, true, false, ◌&&◌, cond, List, Some, None, nat_eq, refl, sym, ap, ◌∙◌}
use Rattle.std.proofs.lemmas.Bool.{and_from, and_parts, eqb-true, false≢true}
use Rattle.std.proofs.lemmas.Option.{cond_some, none-some}
use Rattle.vm_types.specs.Same.{same_block, same_state}
use Rattle.vm_types.specs.declared.names.BlockId.{BlockId}
use Rattle.vm_types.specs.declared.names.FrameState.{FrameState}
use Rattle.vm_types.specs.declared.names.Pfn.{Pfn}
use Rattle.vm_types.specs.declared.config.Config.{Config}
use Rattle.vm_journal.specs.declared.entry.Entry.{Entry}
use Rattle.vm_journal.specs.declared.entry.EvictWhy.TheVariants as evict
use Rattle.vm_journal.specs.declared.entry.What.{What}
use Rattle.vm_journal.specs.declared.entry.What.TheVariants as what
use Rattle.pager_model.specs.Counted.{last_count}
use Rattle.pager_model.specs.Flights.{Flight}
use Rattle.pager_policy.specs.Given.{by_seat}
use Rattle.pager_model.specs.Maps.{pfn}
use Rattle.pager_policy.specs.Landings.{Outcome, is_bad_outcome, went_badly, went_well}
use Rattle.pager_policy.specs.Rundown.{writer_of}
use Rattle.pager_rules.proofs.Basics.{nat_eq_refl, states_equal}
use Rattle.pager_rules.proofs.Put.{blocks_equal}
use Rattle.pager_laws.proofs.KeptIsSound.{same_block_refl}
use Rattle.log_laws.specs.Underway.{is_made, same_made, landed_as, shown_as}

-- ---- what a move makes
made_same : (w v : What) → same_made w v ≡ true → w ≡ v
made_same (what.Evict p address f evict.Rundown to) (what.Evict q other g evict.Rundown also) is =
    let one = and_parts (nat_eq p.0 q.0) _ is in
    let two = and_parts (nat_eq address.0 other.0) _ one.1 in
    let three = and_parts (nat_eq f.0 g.0) (same_state to also) two.1 in
    ap (λ (n : ℕ). what.Evict (record { 0 = n }) address f evict.Rundown to) (eqb-true p.0 q.0 one.0)
    ∙ (ap (λ (n : ℕ). what.Evict q (record { 0 = n }) f evict.Rundown to) (eqb-true address.0 other.0 two.0)
    ∙ (ap (λ (n : ℕ). what.Evict q other (record { 0 = n }) evict.Rundown to) (eqb-true f.0 g.0 three.0)
    ∙ ap (λ (s : FrameState). what.Evict q other g evict.Rundown s) (states_equal to also three.1)))
made_same (what.Out f b) (what.Out g c) is =
    let parts = and_parts (nat_eq f.0 g.0) (same_block b c) is in
    ap (λ (n : ℕ). what.Out (record { 0 = n }) b) (eqb-true f.0 g.0 parts.0) ∙ ap (λ (x : BlockId). what.Out g x) (blocks_equal b c parts.1)
made_same w v is = absurd (false≢true is)

pub evict_itself : (p address f : ℕ) (to : FrameState)
    → same_made (what.Evict (record { 0 = p }) (record { 0 = address }) (record { 0 = f }) evict.Rundown to)
    (what.Evict (record { 0 = p }) (record { 0 = address }) (record { 0 = f }) evict.Rundown to) ≡ true
evict_itself p address f to = and_from _ _ (nat_eq_refl p) (and_from _ _ (nat_eq_refl address) (and_from _ _ (nat_eq_refl f) (nat_eq_refl _)))

pub out_itself : (f : Pfn) (b : BlockId) → same_made (what.Out f b) (what.Out f b) ≡ true
out_itself f b = and_from _ _ (nat_eq_refl f.0) (same_block_refl b)

-- the expected entry passes, and no other one
pub made_passes : (config : Config) (w : What) → same_made w w ≡ true → is_made config w (by_seat (writer_of config) w) ≡ true
made_passes config w itself = and_from _ _ (nat_eq_refl (writer_of config)) itself

pub made_is : (config : Config) (w : What) (e : Entry) → is_made config w e ≡ true → e ≡ by_seat (writer_of config) w
made_is config w e is =
    let parts = and_parts (nat_eq (e.seat).0 (writer_of config)) (same_made w e.what) is in
    ap (λ (n : ℕ). by_seat n e.what) (eqb-true (e.seat).0 (writer_of config) parts.0) ∙ ap (by_seat (writer_of config)) (sym (made_same w e.what parts.1))

-- ---- how a flight lands
-- the entry of a write's landing
abbrev pub landing_entry : List Entry → Flight → Outcome → What
landing_entry past x went_well = what.OutOk (pfn x.frame) x.start
landing_entry past x (went_badly d) = what.OutFail (pfn x.frame) x.start (last_count x.block past) d

-- the outcome that the entry shows
pub record ShowsOutcome (config : Config) (past : List Entry) (x : Flight) (e : Entry) (bad : Bool) : Type 0 where
  pub outcome : Outcome
  pub same : is_bad_outcome outcome ≡ bad
  pub is : e ≡ by_seat (writer_of config) (landing_entry past x outcome)

pub landing_passes : (config : Config) (past : List Entry) (x : Flight) (o : Outcome) → landed_as config past x (by_seat (writer_of config) (landing_entry past x o)) ≡ Some (is_bad_outcome o)
landing_passes config past x o = ap (λ (b : Bool). cond b (shown_as past x (landing_entry past x o)) None) (nat_eq_refl (writer_of config)) ∙ by o
  where
    by : (o : Outcome) → shown_as past x (landing_entry past x o) ≡ Some (is_bad_outcome o)
    by went_well = ap (λ (b : Bool). cond b (Some false) None) (and_from _ _ (nat_eq_refl x.frame) (nat_eq_refl x.start))
    by (went_badly d) = ap (λ (b : Bool). cond b (Some true) None) (and_from _ _ (nat_eq_refl x.frame) (and_from _ _ (nat_eq_refl x.start) (nat_eq_refl (last_count x.block past))))

record IsLandingOf (past : List Entry) (x : Flight) (w : What) (bad : Bool) : Type 0 where
  pub outcome : Outcome
  pub same : is_bad_outcome outcome ≡ bad
  pub is : w ≡ landing_entry past x outcome

shown_is : (past : List Entry) (x : Flight) (w : What) (bad : Bool) → shown_as past x w ≡ Some bad → IsLandingOf past x w bad
shown_is past x (what.OutOk f k) bad is =
    let parts = cond_some (nat_eq f.0 x.frame && nat_eq k x.start) false bad is in
    let names = and_parts (nat_eq f.0 x.frame) (nat_eq k x.start) parts.0 in
    record {
      outcome = went_well;
      same = parts.1;
      is = ap (λ (n : ℕ). what.OutOk (record { 0 = n }) k) (eqb-true f.0 x.frame names.0) ∙ ap (what.OutOk (pfn x.frame)) (eqb-true k x.start names.1);
    }
shown_is past x (what.OutFail f k c d) bad is =
    let parts = cond_some (nat_eq f.0 x.frame && (nat_eq k x.start && nat_eq c (last_count x.block past))) true bad is in
    let names = and_parts (nat_eq f.0 x.frame) (nat_eq k x.start && nat_eq c (last_count x.block past)) parts.0 in
    let counts = and_parts (nat_eq k x.start) (nat_eq c (last_count x.block past)) names.1 in
    record {
      outcome = went_badly d;
      same = parts.1;
      is =
          ap (λ (n : ℕ). what.OutFail (record { 0 = n }) k c d) (eqb-true f.0 x.frame names.0)
          ∙ (ap (λ (n : ℕ). what.OutFail (pfn x.frame) n c d) (eqb-true k x.start counts.0) ∙ ap (λ (n : ℕ). what.OutFail (pfn x.frame) x.start n d) (eqb-true c (last_count x.block past) counts.1));
    }
shown_is past x w bad is = absurd (none-some bad is)

pub landed_is : (config : Config) (past : List Entry) (x : Flight) (e : Entry) (bad : Bool) → landed_as config past x e ≡ Some bad → ShowsOutcome config past x e bad
landed_is config past x e bad is = by (nat_eq (e.seat).0 (writer_of config)) refl is
  where
    by : (b : Bool) → nat_eq (e.seat).0 (writer_of config) ≡ b → cond b (shown_as past x e.what) None ≡ Some bad → ShowsOutcome config past x e bad
    by true own shown =
        let of = shown_is past x e.what bad shown in
        record { outcome = of.outcome; same = of.same; is = ap (λ (n : ℕ). by_seat n e.what) (eqb-true (e.seat).0 (writer_of config) own) ∙ ap (by_seat (writer_of config)) of.is }
    by false own shown = absurd (none-some bad shown)
