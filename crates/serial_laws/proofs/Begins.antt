-- A write cluster that is begun has a write: the head of the modified list has a block.
use Rattle.std.proofs.Common.{◌≡◌, ℕ, zero, suc, ◌<◌, ◌≤◌, ◌||◌, Bool, true, false, cond, List, [], ◌∷◌, Option, Some, None, length, nat_eq, nat_le, refl, sym, ap, ◌∙◌, subst, arith, true≢false}
use Rattle.std.proofs.lemmas.Bool.{and_parts, eqb-false, leb-true, ne_eqb, or_from, or_parts}
use Rattle.vm_types.specs.declared.names.Page.{Page}
use Rattle.vm_types.specs.declared.names.Page.TheVariants.{Private, Shared}
use Rattle.vm_types.specs.declared.names.BlockId.{BlockId}
use Rattle.vm_types.specs.declared.names.BlockId.TheVariants as block
use Rattle.vm_types.specs.declared.names.FrameState.TheVariants as state
use Rattle.vm_types.specs.declared.names.Pfn.{Pfn}
use Rattle.vm_types.specs.declared.config.Config.{Config}
use Rattle.vm_journal.specs.declared.entry.Entry.{Entry}
use Rattle.vm_journal.specs.declared.entry.What.{What}
use Rattle.vm_journal.specs.declared.entry.What.TheVariants as what
use Rattle.pager_model.specs.Around.{frame_view, past_view}
use Rattle.pager_policy.specs.Given.{Given, given, is_stopped}
use Rattle.pager_model.specs.Maps.{pfn, is_paged}
use Rattle.pager_model.specs.Lookups.{block_of, is}
use Rattle.pager_policy.specs.Moves.{Control, carries}
use Rattle.pager_model.specs.Pager.{Pager}
use Rattle.pager_policy.specs.Policy.{Ends, unless_all_failed, writing_move}
use Rattle.pager_model.specs.Run.{pager_after}
use Rattle.pager_policy.specs.WriteCluster.{BeginIs, Reason, begin_carry, begin_gives, begin_nothing, block_out, filed_block, is_enough, paged_block, reason_need, writes_from, writes_taken}
use Rattle.pager_rules.proofs.Basics.{count_cons_yes, nat_eq_refl}
use Rattle.pager_rules.proofs.Frames.{at_state, modified_frame}
use Rattle.pager_rules.specs.Kept.{IsKept}
use Rattle.pager_laws.proofs.RunsAreSound.{run_kept}
use Rattle.page_lists.specs.Lists.{count_of}
use Rattle.serial_laws.specs.Between.{IsBetween}
use Rattle.serial_laws.specs.Controlled.{IsControlled}
use Rattle.serial_laws.proofs.Known.{MoveIsKnown}
use Rattle.serial_laws.proofs.PageCounts.{has_free_block}
use Rattle.serial_laws.proofs.Work.{HasEnded, IsQuiet}
use Rattle.serial_laws.proofs.Writes.{Writes, writes_known}

-- a write, and others after it
pub record IsWriting (ws : List What) : Type 0 where
  pub frame : Pfn
  pub to : BlockId
  pub rest : List What
  pub is : ws ≡ what.Out frame to ∷ rest
  pub writes : Writes rest

all_out : (config : Config) (a : Pager) (n : ℕ) (last : Option BlockId) (frames : List ℕ) → Writes (writes_from config a n last frames)
all_out config a n last [] = tt
all_out config a n last (f ∷ frames) = go n (block_out config a last (a.page f)) (λ (b : BlockId) (m : ℕ). all_out config a m (Some b) frames)
  where
    go : (n : ℕ) (o : Option BlockId) → ((b : BlockId) (m : ℕ) → Writes (writes_from config a m (Some b) frames)) → Writes (writes_taken f n o (λ (b : BlockId) (m : ℕ). writes_from config a m (Some b) frames))
    go zero o rest = tt
    go (suc m) None rest = tt
    go (suc m) (Some b) rest = (refl, rest b m)

module _ (config : Config) (past : List Entry) (between : IsBetween config past) where
  abbrev a : Pager
  a = pager_after config past

  kept : IsKept config (past_view past) a
  kept = run_kept config past between.formed between.run

  -- the block of a listed page
  has_block : (f : ℕ) (g : Page) → a.page f ≡ Some g → (b : BlockId) × (block_out config a None (Some g) ≡ Some b)
  has_block f g holds = by_kind (is_paged config g) refl
    where
      taken : Bool → Option BlockId
      taken c = cond c (paged_block config a None (block_of a.assigned g)) (filed_block None (a.lies g))

      owned : is_paged config g ≡ true → (o : Option ℕ) → block_of a.assigned g ≡ o → (b : BlockId) × (paged_block config a None o ≡ Some b)
      owned paged (Some n) is = (block.PageFile n, refl)
      owned paged None is = has_free_block config (past_view past) a kept g (kept.held_charged f g paged holds) is

      filed : (h : Page) → is_paged config h ≡ false → (b : BlockId) × (filed_block None (a.lies h) ≡ Some b)
      filed (Private p v) file = absurd (true≢false file)
      filed (Shared s i) file = (block.Section s i, ap (λ (o : Option BlockId). filed_block None o) ((kept.pages (Shared s i)).shared s i refl file))

      by_kind : (c : Bool) → is_paged config g ≡ c → (b : BlockId) × (block_out config a None (Some g) ≡ Some b)
      by_kind true paged = let found = owned paged (block_of a.assigned g) refl in (found.0, ap taken paged ∙ found.1)
      by_kind false file = let found = filed g file in (found.0, ap taken file ∙ found.1)

  listed_page : (f : ℕ) → 0 < count_of a.modified f → (g : Page) × (a.page f ≡ Some g)
  listed_page f listed = (at_state (frame_view config (past_view past) a f) state.Modified (modified_frame (frame_view config (past_view past) a f) (kept.frames f) listed) (kept.frames f)).page

  from_head : (n : ℕ) → 1 ≤ n → (frames : List ℕ) → a.modified ≡ frames → 0 < length frames → IsWriting (writes_from config a n None frames)
  from_head n least [] is some = absurd (omega (arith, some))
  from_head zero least (f ∷ frames) is some = absurd (omega (arith, least))
  from_head (suc m) least (f ∷ frames) is some = by (listed_page f listed)
    where
      listed : 0 < count_of a.modified f
      listed = let count = ap (λ (xs : List ℕ). count_of xs f) is in let one = count_cons_yes (λ (x : ℕ). nat_eq x f) f frames (nat_eq_refl f) in omega (arith, count, one)

      by : (g : Page) × (a.page f ≡ Some g) → IsWriting (writes_from config a (suc m) None (f ∷ frames))
      by found =
          let placed = has_block f found.0 found.1 in
          record {
            frame = pfn f;
            to = placed.0;
            rest = writes_from config a m (Some placed.0) frames;
            is = ap (λ (o : Option BlockId). writes_taken f (suc m) o (λ (b : BlockId) (k : ℕ). writes_from config a k (Some b) frames)) (ap (block_out config a None) found.1 ∙ placed.1);
            writes = all_out config a m (Some placed.0) frames;
          }

  pub begins_writing : (reason : Reason) → (is_enough config a reason || nat_eq (length a.modified) 0) ≡ false → IsWriting (begin_gives config a reason).made
  begins_writing reason not_enough =
      let apart = eqb-false (length a.modified) 0 (or_parts (is_enough config a reason) (nat_eq (length a.modified) 0) not_enough).1 in
      let from = from_head config.params.wrtcluster between.formed.params.wrtcluster.0 a.modified refl (omega (arith, apart)) in
      record { frame = from.frame; to = from.to; rest = from.rest; is = ap (λ (b : Bool). (cond {A = Given BeginIs} b (given [] begin_nothing) (given (writes_from config a config.params.wrtcluster None a.modified) begin_carry)).made) not_enough ∙ from.is; writes = from.writes }

  -- an eviction is stopped by pages on the modified list
  pub stopped_some : (f : ℕ) → is_stopped config past a f ≡ true → 0 < length a.modified
  stopped_some f stopped =
      let most = leb-true config.params.waitlimit (length a.modified) (and_parts _ (nat_le config.params.waitlimit (length a.modified)) stopped).1 in
      let least = between.formed.params.waitlimit.0 in
      omega (arith, most, least)

  pub cluster_known : (Rest : Type 0) (seat : ℕ) (ends : Ends) (c : Control) (ws : List What) → IsWriting ws → ((more : List Entry) → IsQuiet config past more → IsControlled config more c) → ((more : List Entry) → IsQuiet config past more → HasEnded config seat ends more)
      → MoveIsKnown config past Rest (carries seat ws (unless_all_failed ends c))
  cluster_known Rest seat ends c ws w goes_on ended =
      subst (λ (xs : List What). MoveIsKnown config past Rest (carries seat xs (unless_all_failed ends c))) (sym w.is) (writes_known config past seat between.landed w.frame w.to w.rest w.writes Rest ends c goes_on ended)

  -- one cluster because room is needed
  pub need_writing : 0 < length a.modified → IsWriting (begin_gives config a reason_need).made
  need_writing some =
      let not_empty = ne_eqb (length a.modified) 0 (λ none. omega (arith, none, some)) in
      begins_writing reason_need (or_from (nat_eq (length a.modified) 0) (nat_eq (length a.modified) 0) not_empty not_empty)

  pub writing_known : (Rest : Type 0) (seat : ℕ) (ends : Ends) (c : Control) → 0 < length a.modified → ((more : List Entry) → IsQuiet config past more → IsControlled config more c) → ((more : List Entry) → IsQuiet config past more → HasEnded config seat ends more)
      → MoveIsKnown config past Rest (writing_move config a seat ends c)
  writing_known Rest seat ends c some goes_on ended = cluster_known Rest seat ends c (begin_gives config a reason_need).made (need_writing some) goes_on ended
