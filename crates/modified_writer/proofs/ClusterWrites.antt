-- The writes of a cluster, one after another: what is made so far and what is left make the whole.
use Rattle.std.proofs.Common.{◌≡◌, ℕ, suc, ◌+◌, ◌-◌, ◌*◌, ◌<◌, ◌≤◌, Bool, true, false, cond, List, [], ◌∷◌, ◌++◌, Option, Some, None, inl, inr, length, map, refl, sym, ap, ◌∙◌, subst, arith}
use Rattle.std.proofs.lemmas.List.{append-nil, append_assoc, length-append, length-map}
use Rattle.std.proofs.lemmas.Option.{none-some, same_Some}
use Rattle.vm_types.specs.BlockView.{BlockView, Tells}
use Rattle.vm_types.specs.Configuration.{IsBlock, IsWellFormed}
use Rattle.vm_types.specs.declared.config.Config.{Config}
use Rattle.vm_types.specs.declared.names.BlockId.{BlockId}
use Rattle.vm_types.specs.declared.names.BlockId.TheVariants as block
use Rattle.vm_types.specs.declared.names.Pfn.{Pfn}
use Rattle.vm_types.specs.declared.names.Seat.{Seat}
use Rattle.vm_journal.specs.declared.entry.Entry.{Entry}
use Rattle.vm_journal.specs.declared.entry.What.{What}
use Rattle.vm_journal.specs.declared.entry.What.TheVariants as what
use Rattle.page_lists.specs.Lists.{without}
use Rattle.pager_model.specs.Flights.{awaits_reuse, open_flights}
use Rattle.pager_model.specs.Out.{IsAnyOut, after_any_out}
use Rattle.pager_model.specs.Pager.{Pager}
use Rattle.pager_model.specs.Run.{IsRun}
use Rattle.pager_policy.specs.WriteCluster.{writes_from}
use Rattle.pager_laws.proofs.RunsAreSound.{run_kept}
use Rattle.call_laws.specs.AreLegal.{AreLegal}
use Rattle.lift_carriers.specs.CarrierView.{CarrierView}
use Rattle.vm_state.specs.History.{History, MayAdd, added, entry_by, owed, pager}
use Rattle.vm_state.specs.LiftsLand.{added_each}
use Rattle.call_begins.specs.Lifted.{HasBegunLifts, HasLifts, place_of, places_in}
use Rattle.call_begins.specs.MayBegin.{empty}
use Rattle.modified_writer.specs.Cluster.{cluster_writes}
use Rattle.modified_writer.specs.NextWrite.{next_write}
use Rattle.modified_writer.proofs.ListedPages.{no_swap, none_behind, tail_without}
use Rattle.modified_writer.proofs.NextWrites.{IsNextWrite, left_full, left_more, left_none, next_found}
use Rattle.modified_writer.proofs.RestStays.{out_stays, writes_same}

-- a write is due to land
paid_out : (past : List Entry) (seat : Seat) (f : Pfn) (b : BlockId) → owed (entry_by seat (what.Out f b) ∷ past) ≤ owed past + 2
paid_out past seat f b = go (awaits_reuse past)
  where
    go : (c : Bool) → 2 * length (open_flights (entry_by seat (what.Out f b) ∷ past)) + 0 ≤ 2 * length (open_flights past) + cond c 1 0 + 2
    go true = omega arith
    go false = omega arith

-- the block of a write is one of the configuration
written_there : (config : Config) (past : List Entry) (a : Pager) (f : ℕ) (b : BlockId) → IsAnyOut config past a f b → IsBlock config b
written_there config past a f b (inl listed) = listed.home.exists
written_there config past a f b (inr swapped) = swapped.home.exists

-- the frame is off the list
off_the_list : (a : Pager) (f : ℕ) (b : BlockId) → ((p : _) (n : ℕ) → b ≡ block.Swap p n → ⊥) → (after_any_out a f b).modified ≡ without a.modified f
off_the_list a f (block.Section s i) never = refl
off_the_list a f (block.PageFile n) never = refl
off_the_list a f (block.Swap p n) never = absurd (never p n refl)

-- ---- the writes that are left
abbrev pub left_by : ℕ → Option BlockId → History → List What
left_by m last s = writes_from s.config (pager s) m last (pager s).modified

module _ {B : Type 0} (whole : History) (all : List What) (seat : Seat) where
  -- at most m writes are left: they are legal, and make the whole with those that were made
  pub record IsWriting (m : ℕ) (last : Option BlockId) (s : History) (c : CarrierView B) : Type 0 where
    pub legal : AreLegal s.config s.past seat.0 (left_by m last s)
    pub history : added_each seat (left_by m last s) s ≡ whole
    pub places : map place_of c.lifts ++ places_in (left_by m last s) ≡ places_in all

  -- nothing is left
  pub written_all : (m : ℕ) (last : Option BlockId) (s : History) (c : CarrierView B) → IsWriting m last s c → left_by m last s ≡ [] → (s ≡ whole) × (map place_of c.lifts ≡ places_in all)
  written_all m last s c is none = (
    ap (λ (ws : List What). added_each seat ws s) (sym none) ∙ is.history,
    sym (append-nil (map place_of c.lifts)) ∙ (ap (λ (ws : List What). map place_of c.lifts ++ places_in ws) (sym none) ∙ is.places),
  )

  -- one write more
  module _ (m : ℕ) (last : Option BlockId) (s : History) (c : CarrierView B) (is : IsWriting (suc m) last s c) (f : Pfn) (b : BlockId) (next : Some (f, b) ≡ next_write s.config (pager s) last (pager s).modified) where
    abbrev write : What
    write = what.Out f b

    found : IsNextWrite s.config (pager s) last (pager s).modified f b
    found = next_found s.config (pager s) last (pager s).modified f b next

    abbrev behind : List What
    behind = writes_from s.config (pager s) m (Some b) found.head.rest

    left_now : left_by (suc m) last s ≡ write ∷ behind
    left_now = left_more s.config (pager s) last m (pager s).modified found.head.rest f b found found.head.heads

    legal_now : AreLegal s.config s.past seat.0 (write ∷ behind)
    legal_now = subst (λ (ws : List What). AreLegal s.config s.past seat.0 ws) left_now is.legal

    pub may_write : owed s.past + 3 ≤ s.spare → MayAdd s (entry_by seat write)
    may_write paid = record { legal = legal_now.0; paid = let due = paid_out s.past seat f b in omega (arith, paid, due) }

    pub block_there : IsBlock s.config b
    block_there = written_there s.config s.past (pager s) f.0 b legal_now.0.row

    abbrev later : History
    later = added s (entry_by seat write)

    module _ (formed : IsWellFormed s.config) (run : IsRun s.config s.past) where
      modified_now : (pager later).modified ≡ found.head.rest
      modified_now =
          off_the_list (pager s) f.0 b (λ p n swap. no_swap s.config s.past formed run p n last found.page (found.block ∙ ap Some swap))
          ∙ tail_without s.config s.past formed run f.0 found.head.rest found.head.heads

      rest_is : left_by m (Some b) later ≡ behind
      rest_is =
          ap (writes_from s.config (pager later) m (Some b)) modified_now
          ∙ writes_same s.config (pager s) (pager later) found.head.rest m b
          (out_stays (pager s) (run_kept s.config s.past formed run).held_once f.0 found.page found.holds found.head.rest (none_behind s.config s.past formed run f.0 found.head.rest found.head.heads) b)

      pub next_writing : (s' : History) (c' : CarrierView B) → s' ≡ later → map place_of c'.lifts ≡ map place_of c.lifts ++ (f.0, b) ∷ [] → IsWriting m (Some b) s' c'
      next_writing s' c' made each = subst (λ (x : History). IsWriting m (Some b) x c') (sym made) (record {
        legal = subst (λ (ws : List What). AreLegal later.config later.past seat.0 ws) (sym rest_is) legal_now.1;
        history = ap (λ (ws : List What). added_each seat ws later) rest_is ∙ (ap (λ (ws : List What). added_each seat ws s) (sym left_now) ∙ is.history);
        places =
            (λ i. each i ++ places_in (rest_is i))
            ∙ (append_assoc (map place_of c.lifts) ((f.0, b) ∷ []) (places_in behind)
            ∙ (ap (λ (ws : List What). map place_of c.lifts ++ places_in ws) (sym left_now) ∙ is.places));
      })

-- ---- the writes so far, with what they leave of the carrier and of the room
one_more : {B : Type 0} (c c' : CarrierView B) (place : ℕ × BlockId) → map place_of c'.lifts ≡ map place_of c.lifts ++ place ∷ [] → length c'.lifts ≡ length c.lifts + 1
one_more c c' place each =
    sym (length-map c'.lifts place_of) ∙ (ap (λ (xs : List (ℕ × BlockId)). length xs) each ∙ (length-append (map place_of c.lifts) (place ∷ []) ∙ ap (λ (n : ℕ). n + 1) (length-map c.lifts place_of)))

module _ {B : Type 0} (seen : B → BlockView) (tells : Tells) (s₀ : History) (seat : Seat) (most : ℕ) where
  -- n writes were made
  pub record IsPartWritten (n : ℕ) (last : Option BlockId) (s : History) (c : CarrierView B) : Type 0 where
    pub writing : IsWriting (added_each seat (cluster_writes s₀) s₀) (cluster_writes s₀) seat (most - n) last s c
    pub begun : HasBegunLifts seen tells s seat c
    pub last_there : (b : BlockId) → last ≡ Some b → IsBlock s.config b
    pub few : length c.lifts ≤ n
    pub paid : owed s.past + 64 ≤ s.spare + 3 * n

module _ {B : Type 0} {seen : B → BlockView} {tells : Tells} {s₀ : History} {seat : Seat} {most : ℕ} where
  pub none_written : (c : CarrierView B) → c ≡ empty seat → most ≡ s₀.config.params.wrtcluster → AreLegal s₀.config s₀.past seat.0 (cluster_writes s₀) → owed s₀.past + 64 ≤ s₀.spare
      → IsPartWritten seen tells s₀ seat most 0 None s₀ c
  none_written c none is legal room = subst (λ (x : CarrierView B). IsPartWritten seen tells s₀ seat most 0 None s₀ x) (sym none) (record {
    writing =
        let left : s₀.config.params.wrtcluster ≡ most - 0 = omega (arith, is) in
        subst (λ (m : ℕ). IsWriting {B = B} (added_each seat (cluster_writes s₀) s₀) (cluster_writes s₀) seat m None s₀ (empty seat)) left (record { legal = legal; history = refl; places = refl });
    begun = record { own = refl; begun = tt };
    last_there = λ b some. absurd (none-some b some);
    few = omega arith;
    paid = omega (arith, room);
  })

  module _ {n : ℕ} {last : Option BlockId} {s : History} {c : CarrierView B} (is : IsPartWritten seen tells s₀ seat most n last s c) where
    -- ---- one write more
    module _ (less : n < most) (few : most ≤ 16) (f : Pfn) (b : BlockId) (next : Some (f, b) ≡ next_write s.config (pager s) last (pager s).modified) where
      writing_more : IsWriting (added_each seat (cluster_writes s₀) s₀) (cluster_writes s₀) seat (suc (most - (n + 1))) last s c
      writing_more = let more : most - n ≡ suc (most - (n + 1)) = omega (arith, less) in subst (λ (m : ℕ). IsWriting (added_each seat (cluster_writes s₀) s₀) (cluster_writes s₀) seat m last s c) more is.writing

      pub may_next : MayAdd s (entry_by seat (what.Out f b))
      may_next = may_write _ _ seat (most - (n + 1)) last s c writing_more f b next (let room = is.paid in omega (arith, room, few, less))

      pub part_next : IsWellFormed s.config → IsRun s.config s.past → (s' : History) (c' : CarrierView B) → s' ≡ added s (entry_by seat (what.Out f b)) → HasBegunLifts seen tells s' seat c'
          → map place_of c'.lifts ≡ map place_of c.lifts ++ (f.0, b) ∷ [] → IsPartWritten seen tells s₀ seat most (n + 1) (Some b) s' c'
      part_next formed run s' c' made begun each = record {
        writing = next_writing _ _ seat (most - (n + 1)) last s c writing_more f b next formed run s' c' made each;
        begun = begun;
        last_there = λ d same. subst (λ (x : History). IsBlock x.config d) (sym made) (subst (IsBlock s.config) (same_Some b d same) (block_there _ _ seat (most - (n + 1)) last s c writing_more f b next));
        few = let so_far = is.few in let more = one_more c c' (f.0, b) each in omega (arith, so_far, more);
        paid = subst (λ (x : History). owed x.past + 64 ≤ x.spare + 3 * (n + 1)) (sym made) (let so_far = is.paid in let due = paid_out s.past seat f b in omega (arith, so_far, due, few, less));
      }

    -- ---- the cluster is whole: nothing joins it, or it has as many writes as it may have
    whole_made : left_by (most - n) last s ≡ [] → (s ≡ added_each seat (cluster_writes s₀) s₀) × HasLifts seen tells s seat (cluster_writes s₀) c
    whole_made none =
        let all = written_all _ _ seat (most - n) last s c is.writing none in
        (all.0, record { own = is.begun.own; each = all.1; begun = is.begun.begun })

    pub stopped : None ≡ next_write s.config (pager s) last (pager s).modified → (s ≡ added_each seat (cluster_writes s₀) s₀) × HasLifts seen tells s seat (cluster_writes s₀) c
    stopped none = whole_made (left_none s.config (pager s) last (most - n) (pager s).modified none)

    pub full : most ≤ n → (s ≡ added_each seat (cluster_writes s₀) s₀) × HasLifts seen tells s seat (cluster_writes s₀) c
    full enough = let no_more : 0 ≡ most - n = omega (arith, enough) in whole_made (subst (λ (m : ℕ). left_by m last s ≡ []) no_more (left_full s.config (pager s) last (pager s).modified))
