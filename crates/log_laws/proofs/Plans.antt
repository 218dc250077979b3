-- A move of the rundown is one eviction, the writes of a cluster, or none, and its plan says which.
use Rattle.std.proofs.Common.{◌≡◌, ◌⊎◌, inl, inr, ℕ, zero, suc, ◌+◌, ◌-◌, ◌<◌, Bool, true, false, cond, not, List, [], ◌∷◌, Option, Some, None, length, nat_lt, refl, arith}
use Rattle.std.proofs.lemmas.Bool.{false≢true, not-false}
use Rattle.std.specs.List.{list_any}
use Rattle.vm_types.specs.declared.config.Config.{Config}
use Rattle.vm_types.specs.declared.reply.Reply.{Reply}
use Rattle.vm_journal.specs.declared.entry.Entry.{Entry}
use Rattle.vm_journal.specs.declared.entry.EvictWhy.TheVariants as evict
use Rattle.vm_journal.specs.declared.entry.What.{What}
use Rattle.pager_policy.specs.Cleaning.{Cleaning, evicting, rounds}
use Rattle.pager_policy.specs.Given.{Seen, eviction, goes_to, is_stopped, page_address, seen_at, with_reply}
use Rattle.pager_policy.specs.Moves.{Move, carries, cleaning, control, goes, makes, rests}
use Rattle.pager_model.specs.Pager.{Pager}
use Rattle.pager_model.specs.Run.{pager_after}
use Rattle.pager_policy.specs.Rundown.{Place, at_slot, clean_move, cleaning_move, holds_shared, is_shared_listed, later_move, next_round, place_move, round_move, rounds_move, shared_place, writer_of, written_for_need}
use Rattle.serial_laws.specs.Between.{IsBetween}
use Rattle.serial_laws.proofs.Begins.{IsWriting, need_writing, stopped_some}
use Rattle.log_laws.specs.Underway.{same_made}
use Rattle.log_laws.proofs.Made.{evict_itself}

-- one entry, that a reply leaves as it is
pub record Evicts (config : Config) (m : Move) : Type 0 where
  pub made : What
  pub to : Cleaning
  pub is : m ≡ makes (writer_of config) (made ∷ []) (control (cleaning to))
  pub itself : same_made made made ≡ true
  pub shown : (reply : Reply) → with_reply reply made ≡ made

-- a cluster's writes, and then on by whether all failed
pub record Clusters (config : Config) (m : Move) : Type 0 where
  pub made : List What
  pub writing : IsWriting made
  pub to : Bool → Cleaning
  pub is : m ≡ carries (writer_of config) made (λ (all first : Bool). goes (control (cleaning (to all))))

abbrev pub IsPlanned : Config → Move → Type 0
IsPlanned config m = Evicts config m ⊎ (Clusters config m ⊎ (m ≡ rests))

any_some : (t : ℕ → Bool) (xs : List ℕ) → list_any t xs ≡ true → 0 < length xs
any_some t [] is = absurd (false≢true is)
any_some t (x ∷ xs) is = omega arith

module _ (config : Config) (past : List Entry) (between : IsBetween config past) where
  abbrev a : Pager
  a = pager_after config past

  either : (b : Bool) (x y : Move) → (b ≡ true → IsPlanned config x) → (b ≡ false → IsPlanned config y) → IsPlanned config (cond b x y)
  either true x y first second = first refl
  either false x y first second = second refl

  cluster : (ws : List What) → IsWriting ws → (to : Bool → Cleaning) → IsPlanned config (carries (writer_of config) ws (λ (all first : Bool). goes (control (cleaning (to all)))))
  cluster ws writing to = inr (inl (record { made = ws; writing = writing; to = to; is = refl }))

  round_planned : (following left : ℕ) → is_shared_listed a ≡ true → IsPlanned config (round_move config a following left)
  round_planned following left listed =
      cluster (written_for_need config a) (need_writing config past between (any_some (λ (f : ℕ). holds_shared (a.page f)) a.modified listed))
      (λ (all : Bool). rounds following (left - length (written_for_need config a)))

  next_round_planned : (following : ℕ) → is_shared_listed a ≡ true → IsPlanned config (next_round config a following)
  next_round_planned zero listed = inr (inr refl)
  next_round_planned (suc following) listed = round_planned following (length a.modified) listed

  rounds_planned : (following left : ℕ) → IsPlanned config (rounds_move config a following left)
  rounds_planned following left =
      either (is_shared_listed a) _ _ (λ listed. either (nat_lt 0 left) _ _ (λ some. round_planned following left listed) (λ none. next_round_planned following listed)) (λ none. inr (inr refl))

  evicted : (at : Place) (s : Seen) → IsPlanned config (makes (writer_of config) (eviction past a at.process s.vpn s.frame evict.Rundown ∷ []) (at_slot at.process (at.slot + 1) false))
  evicted at s = inl (record {
    made = eviction past a at.process s.vpn s.frame evict.Rundown;
    to = evicting at.process (at.slot + 1) false;
    is = refl;
    itself = evict_itself at.process (page_address s.vpn).0 s.frame (goes_to past a s.frame);
    shown = λ reply. refl;
  })

  clean_planned : (at : Place) (failed : Bool) (later : Move) (o : Option Seen) → IsPlanned config later → IsPlanned config (clean_move config past a at failed later o)
  clean_planned at failed later None planned = planned
  clean_planned at failed later (Some s) planned =
      either (not (is_stopped config past a s.frame)) _ _ (λ free. evicted at s)
      (λ stopped. either failed _ _ (λ bad. planned)
      (λ good. cluster (written_for_need config a) (need_writing config past between (stopped_some config past between s.frame (not-false _ stopped)))
      (λ (all : Bool). evicting at.process at.slot all)))

  place_planned : (failed : Bool) (later : Place → Move) (o : Option Place) → ((at : Place) → IsPlanned config (later at)) → IsPlanned config (place_move config past a failed later o)
  place_planned failed later None planned = rounds_planned 2 0
  place_planned failed later (Some at) planned = clean_planned at failed (later at) (seen_at a at.process at.slot) (planned at)

  later_planned : (at : Place) → IsPlanned config (later_move config past a at)
  later_planned at = place_planned false (λ (next : Place). rests) (shared_place config a at.process (at.slot + 1)) (λ next. inr (inr refl))

  pub cleaning_planned : (at : Cleaning) → IsPlanned config (cleaning_move config past a at)
  cleaning_planned (evicting p n failed) = place_planned failed (later_move config past a) (shared_place config a p n) later_planned
  cleaning_planned (rounds following left) = rounds_planned following left
