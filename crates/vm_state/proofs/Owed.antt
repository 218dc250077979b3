-- What is due is counted by the parts.
use Rattle.std.proofs.Common.{◌≡◌, ℕ, ◌+◌, ◌*◌, ◌≤◌, Bool, true, false, cond, List, [], ◌∷◌, Option, refl, sym, ap, ◌∙◌, arith}
use Rattle.std.specs.Option.{is_some, option_map}
use mir.Val.{bool_byte}
use Rattle.std.proofs.lemmas.Bool.{true≢false}
use Rattle.vm_types.specs.declared.limits.TheConstants.{MOST_FRAMES}
use Rattle.vm_types.specs.BlockView.{BlockView, Tells}
use Rattle.vm_types.specs.declared.config.Config.{Config}
use Rattle.vm_journal.specs.declared.entry.Entry.{Entry}
use Rattle.vm_journal.specs.declared.entry.What.{What}
use Rattle.vm_journal.specs.declared.entry.What.TheVariants as what
use Rattle.pager_model.specs.Around.{past_view}
use Rattle.pager_model.specs.Flights.{Flight, awaits_reuse, fails_read, fails_read_of, has_failed_read}
use Rattle.pager_model.specs.Run.{pager_after}
use Rattle.pager_rules.proofs.Basics.{nat_eq_refl}
use Rattle.pager_rules.proofs.Quiet.{no_failure}
use Rattle.frame_store.specs.StoreView.{StoreView}
use Rattle.state_fits.specs.Parts.{Parts}
use Rattle.state_fits.proofs.FlightsMoved.{flights_few}
use Rattle.vm_state.specs.History.{owed}
use Rattle.vm_state.specs.StateKept.{IsState}
use Rattle.vm_state.proofs.Closing.{kept}

pub byte_is : (b : Bool) → bool_byte b ≡ cond b 1 0
byte_is true = refl
byte_is false = refl

pub byte_small : (b : Bool) → bool_byte b ≤ 1
byte_small true = omega arith
byte_small false = omega arith

-- the frame whose read has just failed
failed_frame : (past : List Entry) → awaits_reuse past ≡ true → (f : ℕ) × (has_failed_read f past ≡ true)
failed_frame [] e = absurd (true≢false (sym e))
failed_frame (entry ∷ past) e = of_what entry.what e
  where
    of_what : (w : What) → fails_read w ≡ true → (f : ℕ) × (fails_read_of f w ≡ true)
    of_what (what.InFail g k c d) waits = (g.0, nat_eq_refl g.0)
    of_what other waits = absurd (true≢false (sym waits))

module _ {B : Type 0} {seen : B → BlockView} {tells : Tells} {config : Config} {past : List Entry} {spare : ℕ} {store : StoreView B} {fields : Parts} {numbers : List ℕ}
    (before : IsState seen tells config past spare store fields numbers) where
  pub waits : (b : Bool) → awaits_reuse past ≡ b → is_some fields.failed ≡ b
  waits false e = ap is_some (before.parts.failed ∙ ap (λ (o : Option Flight). option_map (λ (x : Flight). x.block) o) (no_failure past e))
  waits true e =
      let at = failed_frame past e in
      let found = (kept before).failed.found at.0 at.1 in
      ap is_some (before.parts.failed ∙ ap (λ (o : Option Flight). option_map (λ (x : Flight). x.block) o) found.1)

  pub few : fields.in_flight ≤ MOST_FRAMES
  few = let total = before.parts.seats.total in let less = flights_few config (past_view past) (pager_after config past) (kept before) in let most = before.formed.frames.1 in omega (arith, total, less, most)

  pub owed_is : (n : ℕ) → n ≡ cond (is_some fields.failed) 1 0 → 2 * fields.in_flight + n ≡ owed past
  owed_is n is =
      let total = before.parts.seats.total in
      let reuse : n ≡ cond (awaits_reuse past) 1 0 = is ∙ ap (λ (b : Bool). cond b 1 0) (waits (awaits_reuse past) refl) in
      omega (arith, total, reuse)
