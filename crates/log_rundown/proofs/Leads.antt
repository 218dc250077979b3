-- Where an entry leads to.
use Rattle.std.proofs.Common.{◌≡◌, ℕ, ◌&&◌, Bool, true, false, List, [], ◌∷◌, Some, None, if◌then◌else◌, length, nat_eq, refl, sym, ap, ◌∙◌}
use Rattle.std.specs.Option.{option_map}
use Rattle.std.proofs.lemmas.Bool.{and_parts, eqb-true}
use Rattle.std.proofs.lemmas.List.{nil_from_length}
use Rattle.vm_types.specs.declared.config.Config.{Config}
use Rattle.vm_journal.specs.declared.entry.Entry.{Entry}
use Rattle.vm_journal.specs.declared.entry.What.{What}
use Rattle.pager_policy.specs.Cleaning.{rounds}
use Rattle.pager_model.specs.Flights.{Flight}
use Rattle.pager_policy.specs.Rundown.{writer_of}
use Rattle.log_laws.specs.Underway.{Onward as OnwardIs, Underway as UnderwayIs, after_landings, after_outs, between_moves, in_landings, in_outs, is_made, landed_as, same_made, step_landings, step_outs}
use Rattle.log_rundown.specs.Written.{write_as, writes_as}
use Rattle.log_rundown.specs.declared.write.Write.{Write}

-- ---- landings
module _ (all : Bool) (o : OnwardIs) where
  pub none_to_land : (flights : List Flight) → length flights ≡ 0 → between_moves (if all then o.failed else o.written) ≡ after_landings flights all o
  none_to_land flights none = ap (λ (xs : List Flight). after_landings xs all o) (sym (nil_from_length flights none))

  pub some_to_land : (flights : List Flight) → (length flights ≡ 0 → ⊥) → in_landings flights all o ≡ after_landings flights all o
  some_to_land [] some = absurd (some refl)
  some_to_land (x ∷ flights) some = refl

module _ (config : Config) (past : List Entry) (all : Bool) (o : OnwardIs) (e : Entry) where
  pub lands_none : (flights : List Flight) → length flights ≡ 0 → None ≡ step_landings config past flights all o e
  lands_none flights none = ap (λ (xs : List Flight). step_landings config past xs all o e) (sym (nil_from_length flights none))

  module _ (x : Flight) (rest : List Flight) where
    abbrev landed_on : Bool → UnderwayIs
    landed_on bad = after_landings rest (all && bad) o

    pub lands_not : None ≡ landed_as config past x e → None ≡ step_landings config past (x ∷ rest) all o e
    lands_not is = ap (option_map landed_on) is

    pub lands_so : (bad : Bool) → Some bad ≡ landed_as config past x e → Some (after_landings rest (all && bad) o) ≡ step_landings config past (x ∷ rest) all o e
    lands_so bad is = ap (option_map landed_on) is

-- ---- writes
module _ (config : Config) (past : List Entry) (o : OnwardIs) (e : Entry) where
  pub outs_none : (ws : List Write) → length ws ≡ 0 → None ≡ step_outs config past (writes_as ws) o e
  outs_none ws none = ap (λ (xs : List Write). step_outs config past (writes_as xs) o e) (sym (nil_from_length ws none))

  module _ (ws rest : List Write) (w : Write) (is : ws ≡ w ∷ rest) where
    outs_if : (made : Bool) → is_made config (write_as w) e ≡ made → (if made then Some (after_outs config (e ∷ past) (writes_as rest) o) else None) ≡ step_outs config past (writes_as ws) o e
    outs_if made is_so =
        ap (λ (b : Bool). if b then Some (after_outs config (e ∷ past) (writes_as rest) o) else None) (sym is_so)
        ∙ ap (λ (xs : List Write). step_outs config past (writes_as xs) o e) (sym is)

    pub outs_other : is_made config (write_as w) e ≡ false → None ≡ step_outs config past (writes_as ws) o e
    outs_other = outs_if false

    pub outs_begun : is_made config (write_as w) e ≡ true → Some (after_outs config (e ∷ past) (writes_as rest) o) ≡ step_outs config past (writes_as ws) o e
    outs_begun = outs_if true

  pub no_write_left : (ws : List Write) → length ws ≡ 0 → after_outs config (e ∷ past) [] o ≡ after_outs config (e ∷ past) (writes_as ws) o
  no_write_left ws none = ap (λ (xs : List Write). after_outs config (e ∷ past) (writes_as xs) o) (sym (nil_from_length ws none))

  pub a_write_left : (ws : List Write) → (length ws ≡ 0 → ⊥) → in_outs (writes_as ws) o ≡ after_outs config (e ∷ past) (writes_as ws) o
  a_write_left [] some = absurd (some refl)
  a_write_left (w ∷ ws) some = refl

-- by the writer's seat
pub by_writer : (config : Config) (w : What) (e : Entry) → is_made config w e ≡ true → (e.seat).0 ≡ writer_of config
by_writer config w e is = eqb-true (e.seat).0 (writer_of config) (and_parts (nat_eq (e.seat).0 (writer_of config)) (same_made w e.what) is).0

-- where a round goes on
abbrev pub round_onward : ℕ → ℕ → OnwardIs
round_onward following left = record { failed = rounds following left; written = rounds following left }
