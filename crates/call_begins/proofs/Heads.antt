-- The free list's head, which gives up the page that it holds.
use Rattle.std.proofs.Common.{◌≡◌, ℕ, ◌+◌, ◌<◌, ◌≤◌, List, [], ◌∷◌, Option, Some, None, length, slice_get, refl, sym, ap, subst, arith}
use Rattle.std.specs.Option.{option_map}
use Rattle.std.proofs.lemmas.Option.{none-some, same_Some}
use Rattle.vm_types.specs.Configuration.{IsWellFormed}
use Rattle.vm_types.specs.declared.config.Config.{Config}
use Rattle.vm_types.specs.declared.names.Page.{Page}
use Rattle.vm_types.specs.declared.names.Pfn.{Pfn}
use Rattle.vm_types.specs.declared.names.Seat.{Seat}
use Rattle.vm_journal.specs.declared.entry.Entry.{Entry}
use Rattle.vm_journal.specs.declared.entry.What.{What}
use Rattle.vm_journal.specs.declared.entry.What.TheVariants as what
use Rattle.pager_policy.specs.Given.{reuse_first}
use Rattle.pager_model.specs.Lookups.{IsHead}
use Rattle.pager_model.specs.Run.{IsRun}
use Rattle.pager_laws.proofs.RunsAreSound.{run_kept}
use Rattle.pager_rules.proofs.Put.{head_counts}
use Rattle.pager_laws.proofs.Holders.{free_is}
use Rattle.call_laws.specs.AreLegal.{AreLegal}
use Rattle.vm_state.specs.History.{History, MayAdd, entry_by, owed, pager}
use Rattle.vm_state.specs.LiftsLand.{added_each}
use Rattle.state_pages.specs.Shown.{frame_number}
use Rattle.call_begins.proofs.Steps.{paid_after}

pub head_there : (xs : List ℕ) (f : Pfn) → option_map frame_number (Some f) ≡ slice_get xs 0 → IsHead xs f.0
head_there [] f is = absurd (none-some _ (sym is))
head_there (y ∷ ys) f is = record { rest = ys; heads = ap (λ (z : ℕ). z ∷ ys) (sym (same_Some f.0 y is)) }

pub none_there : (xs : List ℕ) → option_map frame_number None ≡ slice_get xs 0 → xs ≡ []
none_there [] is = refl
none_there (y ∷ ys) is = absurd (none-some _ is)

pub some_free : (xs : List ℕ) (f : ℕ) → IsHead xs f → 1 ≤ length xs
some_free xs f head = let some = ap (λ (ys : List ℕ). length ys) head.heads in omega (arith, some)

-- ---- a frame gives up its page first
pub reuse_alone : (config : Config) (past : List Entry) (p f : ℕ) (ws : List What) (o : Option Page) → AreLegal config past p (reuse_first o f ws) → AreLegal config past p (reuse_first o f [])
reuse_alone config past p f ws None legal = tt
reuse_alone config past p f ws (Some g) legal = (legal.0, tt)

pub behind_reuse : (s : History) (seat : Seat) (f : ℕ) (ws : List What) (o : Option Page) → AreLegal s.config s.past seat.0 (reuse_first o f ws) → AreLegal (added_each seat (reuse_first o f []) s).config (added_each seat (reuse_first o f []) s).past seat.0 ws
behind_reuse s seat f ws None legal = legal
behind_reuse s seat f ws (Some g) legal = legal.1

module _ (s : History) (seat : Seat) (f : Pfn) (head : IsHead (pager s).free f.0) where
  pub head_within : IsWellFormed s.config → IsRun s.config s.past → f.0 < s.config.frames
  head_within formed run = (free_is s.config s.past (pager s) f.0 (run_kept s.config s.past formed run) (head_counts (pager s).free f.0 head)).within

  pub may_reuse : (g : Page) → (pager s).page f.0 ≡ Some g → AreLegal s.config s.past seat.0 (reuse_first ((pager s).page f.0) f.0 []) → owed s.past + 2 ≤ s.spare → MayAdd s (entry_by seat (what.Reuse f g))
  may_reuse g holds legal paid = record {
    legal = (subst (λ (o : Option Page). AreLegal s.config s.past seat.0 (reuse_first o f.0 [])) holds legal).0;
    paid = paid_after s.past (entry_by seat (what.Reuse f g)) s.spare 1 refl refl (omega (arith, paid));
  }
