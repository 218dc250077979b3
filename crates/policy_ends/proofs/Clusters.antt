-- What the writing of a cluster leaves, if none of its writes failed: the slots as they were, and a shorter modified
-- list.
use Rattle.std.proofs.Common.{◌≡◌, ℕ, zero, suc, ◌+◌, ◌≤◌, ◌&&◌, ◌||◌, Bool, true, false, not, cond, List, [], ◌∷◌, Option, Some, None, length, find, nat_eq, refl, sym, ap, ◌∙◌, subst, arith}
use Rattle.std.specs.Option.{option_map}
use Rattle.std.specs.List.{AllByRecursion, range_with_len}
use Rattle.std.proofs.lemmas.Bool.{false≢true, true≢false}
use Rattle.std.proofs.lemmas.Option.{none-some, same_Some}
use Rattle.vm_types.specs.Configuration.{IsWellFormed}
use Rattle.vm_types.specs.Ring.{Held, Ring}
use Rattle.vm_types.specs.declared.names.Page.{Page}
use Rattle.vm_types.specs.declared.names.Page.TheVariants.{Private, Shared}
use Rattle.vm_types.specs.declared.names.BlockId.{BlockId}
use Rattle.vm_types.specs.declared.names.BlockId.TheVariants as block
use Rattle.vm_types.specs.declared.config.Config.{Config}
use Rattle.vm_journal.specs.declared.entry.Entry.{Entry}
use Rattle.vm_journal.specs.declared.entry.What.{What}
use Rattle.vm_journal.specs.declared.entry.What.TheVariants as what
use Rattle.pager_model.specs.Changes.{pushed_if}
use Rattle.pager_model.specs.Flights.{Direction, Flight, is_reading, open_flights, reading, writing}
use Rattle.pager_policy.specs.Given.{Given, by_seat, given, made_by, seen_at, seen_by, seen_in, seen_page}
use Rattle.pager_model.specs.Lookups.{passes, block_of, entry_of, shares, slot_of}
use Rattle.pager_model.specs.Maps.{pfn, is_paged}
use Rattle.vm_types.specs.BlockOrder.{is_next_block, if_next}
use Rattle.pager_policy.specs.Landings.{Outcome, landed_by, landing, went_badly, went_well}
use Rattle.pager_model.specs.Out.{after_any_out}
use Rattle.pager_model.specs.OutLanding.{IsOutOk, after_out_ok}
use Rattle.pager_model.specs.Pager.{Pager, Valid}
use Rattle.pager_model.specs.Run.{IsRun, pager_after}
use Rattle.pager_policy.specs.Rundown.{is_shared_at, written_for_need}
use Rattle.pager_policy.specs.Swap.{is_shared_seen}
use Rattle.pager_model.specs.Transfers.{starts}
use Rattle.pager_policy.specs.WriteCluster.{BeginIs, begin_carry, begin_nothing, block_out, filed_block, is_enough, is_free_block, new_block, paged_block, reason_need, writes_from, writes_taken}
use Rattle.pager_rules.proofs.Basics.{count_cons_yes}
use Rattle.pager_rules.proofs.Lists.{all_filter, all_found}
use Rattle.pager_laws.proofs.RunsAreSound.{run_kept}
use Rattle.policy_ends.proofs.WriteCarriers.{run_before, run_landed}
use Rattle.policy_ends.proofs.WriteSteps.{AreClear, IsClear, is_list_write, is_swap_block, out_no_higher}
use Rattle.policy_ends.specs.Clean.{failures}
use Rattle.policy_ends.proofs.Unfailed.{landing_fails, more_landed, more_made}
use Rattle.std.specs.Prelude.{slice_get}

-- ---- the slots are as they were
pub record IsStill (a b : Pager) : Type 0 where
  pub ring : b.ring ≡ a.ring
  pub valid : b.valid ≡ a.valid
  pub page : b.page ≡ a.page

pub still_then : (a b c : Pager) → IsStill a b → IsStill b c → IsStill a c
still_then a b c first rest = record { ring = rest.ring ∙ first.ring; valid = rest.valid ∙ first.valid; page = rest.page ∙ first.page }

pub still_same : (a : Pager) → IsStill a a
still_same a = record { ring = refl; valid = refl; page = refl }

pub seen_still : (a b : Pager) → IsStill a b → (p n : ℕ) → seen_at b p n ≡ seen_at a p n
seen_still a b still p n = ap (λ (r : ℕ → Ring). seen_in b p (slot_of (slice_get (r p).slots n))) still.ring ∙ by_slot (slot_of (slice_get (a.ring p).slots n))
  where
    by_entry : (held : Held) (o : Option Valid) → seen_by b held o ≡ seen_by a held o
    by_entry held None = refl
    by_entry held (Some e) = ap (λ (pages : ℕ → Option Page). seen_page held e.frame (pages e.frame)) still.page

    by_slot : (o : Option Held) → seen_in b p o ≡ seen_in a p o
    by_slot None = refl
    by_slot (Some held) = ap (λ (valid : List Valid). seen_by b held (entry_of valid p held.vpn)) still.valid ∙ by_entry held (entry_of a.valid p held.vpn)

pub shared_still : (a b : Pager) → IsStill a b → (p n : ℕ) → is_shared_at b p n ≡ is_shared_at a p n
shared_still a b still p n = ap (passes is_shared_seen) (seen_still a b still p n)

-- ---- writes from the modified list
abbrev pub is_list_out : What → Bool
is_list_out (what.Out f b) = not (is_swap_block b)
is_list_out other = false

abbrev pub AreListOuts : List What → Type 0
AreListOuts ws = AllByRecursion (λ (w : What). is_list_out w ≡ true) ws

-- a cluster has no others
module _ (config : Config) (past : List Entry) (formed : IsWellFormed config) (run : IsRun config past) where
  abbrev a : Pager
  a = pager_after config past

  next_is : (last : Option BlockId) (c b : BlockId) → if_next last c ≡ Some b → c ≡ b
  next_is None c b is = same_Some c b is
  next_is (Some l) c b is = by (is_next_block l c) is
    where
      by : (t : Bool) → cond t (Some c) None ≡ Some b → c ≡ b
      by true is = same_Some c b is
      by false is = absurd (none-some b is)

  next_is_no_swap : (last : Option BlockId) (c b : BlockId) → is_swap_block c ≡ false → if_next last c ≡ Some b → is_swap_block b ≡ false
  next_is_no_swap last c b other is = ap is_swap_block (sym (next_is last c b is)) ∙ other

  new_no_swap : (last : Option BlockId) (b : BlockId) → new_block config a last ≡ Some b → is_swap_block b ≡ false
  new_no_swap None b is = by (find (is_free_block config a) (range_with_len 0 config.pagefile)) is
    where
      by : (o : Option ℕ) → option_map block.PageFile o ≡ Some b → is_swap_block b ≡ false
      by None is = absurd (none-some b is)
      by (Some n) is = ap is_swap_block (sym (same_Some (block.PageFile n) b is))
  new_no_swap (Some (block.PageFile n)) b is = by (is_free_block config a (n + 1)) is
    where
      by : (t : Bool) → cond t (Some (block.PageFile (n + 1))) None ≡ Some b → is_swap_block b ≡ false
      by true is = ap is_swap_block (sym (same_Some (block.PageFile (n + 1)) b is))
      by false is = absurd (none-some b is)
  new_no_swap (Some (block.Section s i)) b is = absurd (none-some b is)
  new_no_swap (Some (block.Swap q n)) b is = absurd (none-some b is)

  paged_no_swap : (last : Option BlockId) (o : Option ℕ) (b : BlockId) → paged_block config a last o ≡ Some b → is_swap_block b ≡ false
  paged_no_swap last (Some n) b is = next_is_no_swap last (block.PageFile n) b refl is
  paged_no_swap last None b is = new_no_swap last b is

  filed_no_swap : (last : Option BlockId) (g : Page) (b : BlockId) → is_paged config g ≡ false → filed_block last (a.lies g) ≡ Some b → is_swap_block b ≡ false
  filed_no_swap last (Private p v) b file is = absurd (true≢false file)
  filed_no_swap last (Shared s i) b file is =
      next_is_no_swap last (block.Section s i) b refl (sym (ap (λ (o : Option BlockId). filed_block last o) (((run_kept config past formed run).pages (Shared s i)).shared s i refl file)) ∙ is)

  out_no_swap : (last : Option BlockId) (o : Option Page) (b : BlockId) → block_out config a last o ≡ Some b → is_swap_block b ≡ false
  out_no_swap last None b is = absurd (none-some b is)
  out_no_swap last (Some g) b is = by (is_paged config g) refl is
    where
      by : (t : Bool) → is_paged config g ≡ t → cond t (paged_block config a last (block_of a.assigned g)) (filed_block last (a.lies g)) ≡ Some b → is_swap_block b ≡ false
      by true paged is = paged_no_swap last (block_of a.assigned g) b is
      by false file is = filed_no_swap last g b file is

  from_list : (n : ℕ) (last : Option BlockId) (frames : List ℕ) → AreListOuts (writes_from config a n last frames)
  from_list n last [] = tt
  from_list n last (f ∷ frames) = go n (block_out config a last (a.page f)) (out_no_swap last (a.page f)) (λ (b : BlockId) (m : ℕ). from_list m (Some b) frames)
    where
      go : (n : ℕ) (o : Option BlockId) → ((b : BlockId) → o ≡ Some b → is_swap_block b ≡ false) → ((b : BlockId) (m : ℕ) → AreListOuts (writes_from config a m (Some b) frames))
          → AreListOuts (writes_taken f n o (λ (b : BlockId) (m : ℕ). writes_from config a m (Some b) frames))
      go zero o other rest = tt
      go (suc m) None other rest = tt
      go (suc m) (Some b) other rest = (ap not (other b refl), rest b m)

  pub need_outs : AreListOuts (written_for_need config a)
  need_outs = by (is_enough config a reason_need || nat_eq (length a.modified) 0)
    where
      by : (t : Bool) → AreListOuts (cond {A = Given BeginIs} t (given [] begin_nothing) (given (writes_from config a config.params.wrtcluster None a.modified) begin_carry)).made
      by true = tt
      by false = from_list config.params.wrtcluster None a.modified

-- ---- the writes begin
pub record HasBegun (config : Config) (past more : List Entry) (writes : ℕ) : Type 0 where
  pub still : IsStill (pager_after config past) (pager_after config more)
  pub clear : AreClear more (pager_after config more)
  pub shorter : length (pager_after config more).modified + writes ≤ length (pager_after config past).modified

any_out_still : (a : Pager) (f : ℕ) (b : BlockId) → IsStill a (after_any_out a f b)
any_out_still a f (block.Swap p n) = record { ring = refl; valid = refl; page = refl }
any_out_still a f (block.PageFile n) = record { ring = refl; valid = refl; page = refl }
any_out_still a f (block.Section s i) = record { ring = refl; valid = refl; page = refl }

pub writes_begun : (config : Config) (seat : ℕ) (ws : List What) (past : List Entry) → IsWellFormed config → AreClear past (pager_after config past) → AreListOuts ws → IsRun config (made_by seat ws past)
    → HasBegun config past (made_by seat ws past) (length ws)
writes_begun config seat [] past formed clear outs run = record { still = still_same (pager_after config past); clear = clear; shorter = omega arith }
writes_begun config seat (what.Out f b ∷ ws) past formed clear outs run =
    let now : List Entry = by_seat seat (what.Out f b) ∷ past in
    let ran = run_before config seat ws now run in
    let first = out_no_higher config past (pager_after config past) seat f.0 b (run_kept config past formed ran.0) clear now refl ran.1.row in
    let rest = writes_begun config seat ws now formed first.clear outs.1 run in
    record {
      still = still_then (pager_after config past) (pager_after config now) (pager_after config (made_by seat ws now)) (any_out_still (pager_after config past) f.0 b) rest.still;
      clear = rest.clear;
      shorter =
          (let one = first.listed in
          let more = rest.shorter in
          let write = count_cons_yes is_list_write (record { start = length past + 1; seat = seat; frame = f.0; block = b; direction = writing }) (open_flights past) outs.0 in
          omega (arith, one, more, write));
    }
writes_begun config seat (other ∷ ws) past formed clear outs run = absurd (false≢true outs.0)

-- ---- they land well
pub record HasLandedWell (config : Config) (past more : List Entry) : Type 0 where
  pub still : IsStill (pager_after config past) (pager_after config more)
  pub clear : AreClear more (pager_after config more)
  pub same : (pager_after config more).modified ≡ (pager_after config past).modified

and_none : (b : Bool) → (b && false) ≡ false
and_none true = refl
and_none false = refl

module _ (config : Config) (past : List Entry) (seat : ℕ) (clear : AreClear past (pager_after config past)) where
  abbrev before : Pager
  before = pager_after config past

  module _ (f k : ℕ) (row : IsOutOk past seat f k) where
    abbrev more : List Entry
    more = by_seat seat (what.OutOk (pfn f) k) ∷ past

    mark : before.modify f ≡ false
    mark = ap before.modify (sym row.lands.frame) ∙ (all_found (IsClear before) (starts k) (open_flights past) row.flight clear row.lands.open_k).1

    now_is : pager_after config more ≡ after_out_ok before f (Some row.flight)
    now_is = ap (after_out_ok before f) row.lands.open_k

    lists_same : (after_out_ok before f (Some row.flight)).modified ≡ before.modified
    lists_same = ap (λ (c : Bool). pushed_if c before.modified f) (ap (λ (c : Bool). nat_eq (shares before.valid f) 0 && c) mark ∙ and_none (nat_eq (shares before.valid f) 0))

    ok_lands : HasLandedWell config past more
    ok_lands = record {
      still = subst (IsStill before) (sym now_is) (record { ring = refl; valid = refl; page = refl });
      clear = subst (λ (p : Pager). AreClear more p) (sym now_is) (all_filter (IsClear before) (λ (y : Flight). not (starts k y)) (open_flights past) clear);
      same = ap (λ (p : Pager). p.modified) now_is ∙ lists_same;
    }

  landing_well : (x : Flight) (d : Direction) → IsRun config (made_by seat (landing past before.page x d went_well) past) → HasLandedWell config past (made_by seat (landing past before.page x d went_well) past)
  landing_well x writing run = ok_lands x.frame x.start run.1.row
  landing_well x (reading r) run =
      let row = run.1.row in
      absurd (false≢true (sym (ap is_reading (all_found (IsClear before) (starts x.start) (open_flights past) row.flight clear row.lands.open_k).0) ∙ ap is_reading row.reads))

pub landed_well : (config : Config) (seat : ℕ) (flights : List Flight) (outcomes : List Outcome) (past : List Entry) → AreClear past (pager_after config past)
    → IsRun config (landed_by config seat flights outcomes past) → failures (landed_by config seat flights outcomes past) ≤ failures past → HasLandedWell config past (landed_by config seat flights outcomes past)
landed_well config seat [] outcomes past clear run none = record { still = still_same (pager_after config past); clear = clear; same = refl }
landed_well config seat (x ∷ flights) [] past clear run none = record { still = still_same (pager_after config past); clear = clear; same = refl }
landed_well config seat (x ∷ flights) (went_badly n ∷ outcomes) past clear run none =
    let ws = landing past (pager_after config past).page x x.direction (went_badly n) in
    absurd (omega (arith, none, landing_fails seat past (pager_after config past).page x x.direction n, more_landed config seat flights outcomes (made_by seat ws past)))
landed_well config seat (x ∷ flights) (went_well ∷ outcomes) past clear run none =
    let ws = landing past (pager_after config past).page x x.direction went_well in
    let now : List Entry = made_by seat ws past in
    let first = landing_well config past seat clear x x.direction (run_landed config seat flights outcomes now run) in
    let rest = landed_well config seat flights outcomes now first.clear run (omega (arith, none, more_made seat ws past)) in
    record {
      still = still_then (pager_after config past) (pager_after config now) (pager_after config (landed_by config seat flights outcomes now)) first.still rest.still;
      clear = rest.clear;
      same = rest.same ∙ first.same;
    }
