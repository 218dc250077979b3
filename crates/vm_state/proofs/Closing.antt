-- How each method closes: the parts stand for the state after the entry, and buffers and blocks have moved as it says.
use Rattle.std.proofs.Common.{◌≡◌, ℕ, ◌+◌, ◌-◌, ◌≤◌, Bool, true, List, [], ◌∷◌, ◌++◌, length, reverse, sym, ap, ◌∙◌, subst, subst₂, arith}
use Rattle.std.proofs.lemmas.List.{length-reverse, reverse-append}
use Rattle.vm_types.specs.BlockView.{BlockView, Tells}
use Rattle.vm_types.specs.declared.config.Config.{Config}
use Rattle.run_record.specs.RunRecord.{Recorded}
use Rattle.vm_journal.specs.declared.entry.Entry.{Entry}
use Rattle.pager_model.specs.Flights.{open_flights}
use Rattle.pager_model.specs.OfConfig.{IsOfConfig}
use Rattle.pager_model.specs.Around.{past_view}
use Rattle.pager_model.specs.Run.{pager_after}
use Rattle.pager_model.specs.Spoken.{ShowsReply, flat_after}
use Rattle.pager_model.specs.Step.{IsLegal}
use Rattle.pager_laws.proofs.OfConfigKept.{run_right}
use Rattle.pager_laws.proofs.RunsAreSound.{run_kept}
use Rattle.pager_rules.specs.Kept.{IsKept}
use Rattle.content_laws.specs.Moved.{Moves}
use Rattle.content_laws.proofs.ContentStays.{content_stays}
use Rattle.frame_store.specs.Blocks.{held_at}
use Rattle.frame_store.specs.StoreView.{StoreView}
use Rattle.state_fits.specs.Parts.{Parts}
use Rattle.state_fits.specs.PartsFit.{PartsFit}
use Rattle.vm_state.specs.History.{History, MayAdd, owed}
use Rattle.vm_state.specs.StateKept.{IsState, IsStoreOf, home_in}

-- what a method requires is of the value, what it needs is of the fields
pub may_before : {s t : History} {e : Entry} → s ≡ t → MayAdd t e → MayAdd s e
may_before {s} {t} {e} is may = subst (λ (x : History). MayAdd x e) (sym is) may

pub newest_first : (before : List Entry) (now : Recorded) (spare : ℕ) (e : Entry) {keeps : Bool} → now ≡ record { entries = before ++ e ∷ []; spare = spare; keeps = keeps } → reverse now.entries ≡ e ∷ reverse before
newest_first before now spare e is = ap (λ (j : Recorded). reverse j.entries) is ∙ reverse-append before (e ∷ [])

-- the number of the next entry
pub next_number : (before : List Entry) (count : ℕ) → count ≡ length before → count + 1 ≡ length (reverse before) + 1
next_number before count is = ap (λ (n : ℕ). n + 1) (is ∙ sym (length-reverse before))

module _ {B : Type 0} {seen : B → BlockView} {tells : Tells} {config : Config} where
  -- with the newest entry in front it holds, so it does once the entry is pushed
  pub pushed : {store : StoreView B} {fields : Parts} {numbers : List ℕ} (before : List Entry) (spare : ℕ) (e : Entry) (new : Recorded) {keeps : Bool} → new ≡ record { entries = before ++ e ∷ []; spare = spare; keeps = keeps }
      → IsState seen tells config (e ∷ reverse before) spare store fields numbers
      → IsState seen tells config (reverse new.entries) new.spare store fields numbers
  pushed {store} {fields} {numbers} before spare e new is state =
      subst₂ (λ (p : List Entry) (n : ℕ). IsState seen tells config p n store fields numbers) (sym (newest_first before new spare e is)) (sym (ap (λ (j : Recorded). j.spare) is)) state

  module _ {past : List Entry} {spare : ℕ} {store : StoreView B} {fields : Parts} {numbers : List ℕ} (before : IsState seen tells config past spare store fields numbers) where
    pub kept : IsKept config (past_view past) (pager_after config past)
    kept = run_kept config past before.formed before.run

    pub right : IsOfConfig config (pager_after config past)
    right = run_right config past before.formed before.run

    -- the store as it was, or with other buffers and blocks
    pub closed : (e : Entry) → (tells.content ≡ true → ShowsReply config (flat_after config past) (e.seat).0 e.what) → IsLegal config past (pager_after config past) e → owed (e ∷ past) + 1 ≤ spare → (store' : StoreView B) (fields' : Parts)
        → PartsFit config (e ∷ past) (pager_after config (e ∷ past)) fields'
        → Moves tells.content tells.plan config past (pager_after config past) (e.seat).0 e.what (held_at store.buffers) (held_at store'.buffers) (home_in seen config store) (home_in seen config store')
        → IsStoreOf config (open_flights (e ∷ past)) store' numbers
        → IsState seen tells config (e ∷ past) (spare - 1) store' fields' numbers
    closed e shows legal paid store' fields' fit moves places =
        record {
          formed = before.formed;
          run = (before.run, legal);
          short = (let short = before.short in omega (arith, short, paid));
          paid = omega (arith, paid);
          parts = fit;
          bytes = content_stays tells.content tells.plan config past e (held_at store.buffers) (held_at store'.buffers) (home_in seen config store) (home_in seen config store')
              before.formed (before.run, legal) moves before.bytes;
          places = places;
          right = λ told. (before.right told, shows told);
        }
