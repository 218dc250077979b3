-- What a step of a leaving process makes is the table's first row that holds.
use Rattle.std.proofs.Common.{◌≡◌, ℕ, Bool, true, false, cond, not, ◌&&◌, ◌+◌, List, [], ◌∷◌, Option, Some, None, length, nat_le, nat_lt, refl, sym, subst}
use Rattle.std.proofs.lemmas.Bool.{and_parts, false≢true}
use Rattle.vm_types.specs.Ring.{unpinned}
use Rattle.vm_types.specs.declared.config.Config.{Config}
use Rattle.vm_types.specs.declared.names.BlockId.TheVariants as block
use Rattle.vm_types.specs.declared.names.FrameState.TheVariants as state
use Rattle.vm_types.specs.declared.names.ProcStatus.TheVariants as status
use Rattle.vm_journal.specs.declared.entry.Entry.{Entry}
use Rattle.vm_journal.specs.declared.entry.EvictWhy.TheVariants as evict
use Rattle.vm_journal.specs.declared.entry.What.TheVariants as what
use Rattle.pager_model.specs.Evict.{evicted_to}
use Rattle.pager_model.specs.Flights.{open_flights}
use Rattle.pager_model.specs.Lookups.{is, passes, shares}
use Rattle.pager_model.specs.Lying.{lies_in}
use Rattle.pager_model.specs.Maps.{is_private, proc}
use Rattle.pager_model.specs.Pager.{Pager}
use Rattle.pager_model.specs.Transfers.{reads_on, writes_on}
use Rattle.pager_policy.specs.Given.{Seen, eviction, given, is_stopped, seen_at, slots_of}
use Rattle.pager_policy.specs.Swap.{GivenSwap, is_saved, is_shared_unpinned, is_still, is_to_save, leave_gives, leave_page, leave_saved, leave_shared, leave_unsaved, run_from, slot_where, swap_again, swap_carry, swap_in_flight, swap_modified_full, swap_more, swap_settled, write_slots}
use Rattle.policy_tables.specs.LeaveCases.{leave_cases}
use Rattle.policy_tables.specs.Rows.{first_case, if_there, only_if, otherwise, that_is, when}
use Rattle.policy_tables.specs.Words.{may_go, seen_in_slot}
use Rattle.policy_tables.proofs.Found.{found_passes, passing}

-- a frame without its modify mark doesn't go to the modified list
goes_elsewhere : (shared flying : Bool) → is state.Modified (cond shared state.Active (cond flying state.ReleasePending state.Free)) ≡ false
goes_elsewhere true flying = refl
goes_elsewhere false true = refl
goes_elsewhere false false = refl

-- so its eviction isn't stopped, even if that list is full
unmodified_goes : (modify full : Bool) (shares flights : ℕ) → not modify ≡ true → (is state.Modified (evicted_to shares flights modify) && full) ≡ false
unmodified_goes true full shares flights clear = absurd (false≢true clear)
unmodified_goes false full shares flights clear = subst (λ (b : Bool). (b && full) ≡ false) (sym (goes_elsewhere (nat_lt 1 shares) (nat_lt 0 flights))) refl

module _ (config : Config) (past : List Entry) (a : Pager) (p : ℕ) where
  -- the first of these rows says this
  abbrev Says : List (Option GivenSwap) → GivenSwap → Type 0
  Says rows g = first_case rows ≡ Some g

  abbrev page_rows : Option Seen → List (Option GivenSwap) → List (Option GivenSwap)
  page_rows o rest =
      if_there (that_is (may_go config past a) o) (λ (s : Seen). given (eviction past a p s.vpn s.frame evict.Leave ∷ []) swap_more)
      ∷ if_there o (λ (s : Seen). given [] (swap_again swap_modified_full))
      ∷ rest

  gone : (rest : List (Option GivenSwap)) (s : Seen) (stopped : Bool)
      → Says (if_there (only_if (not stopped) (Some s)) (λ (s : Seen). given (eviction past a p s.vpn s.frame evict.Leave ∷ []) swap_more) ∷ Some (given [] (swap_again swap_modified_full)) ∷ rest)
      (cond stopped (given [] (swap_again swap_modified_full)) (given (eviction past a p s.vpn s.frame evict.Leave ∷ []) swap_more))
  gone rest s true = refl
  gone rest s false = refl

  -- in a slot that was found something is seen
  page_leaves : (t : ℕ → Seen → Bool) (n : ℕ) → slot_where a p t ≡ Some n → (rest : List (Option GivenSwap)) → Says (page_rows (seen_at a p n) rest) (leave_page config past a p (seen_at a p n))
  page_leaves t n is rest =
      let there = passing (t n) (seen_at a p n) (found_passes (λ (m : ℕ). passes (t m) (seen_at a p m)) (slots_of a p) n is) in
      subst (λ (o : Option Seen). Says (page_rows o rest) (leave_page config past a p o)) (sym there.1) (gone rest there.0 (is_stopped config past a (there.0).frame))

  -- the eviction of a saved page isn't stopped
  saved_goes : (n : ℕ) (s : Seen) → is_saved past a p n s ≡ true → is_stopped config past a s.frame ≡ false
  saved_goes n s is =
      let lying = (and_parts (is_private s.page && not s.pinned) (lies_in (a.lies s.page) (block.Swap (proc p) n) && (not (a.modify s.frame) && is_still past s.frame)) is).1 in
      let kept = (and_parts (lies_in (a.lies s.page) (block.Swap (proc p) n)) (not (a.modify s.frame) && is_still past s.frame) lying).1 in
      unmodified_goes (a.modify s.frame) (nat_le config.params.waitlimit (length a.modified)) (shares a.valid s.frame) (reads_on s.frame (open_flights past) + writes_on s.frame (open_flights past))
      (and_parts (not (a.modify s.frame)) (is_still past s.frame) kept).0

  abbrev saved_row : Option Seen → List (Option GivenSwap) → List (Option GivenSwap)
  saved_row o rest = if_there o (λ (s : Seen). given (eviction past a p s.vpn s.frame evict.Leave ∷ []) swap_more) ∷ rest

  saved_leaves : (n : ℕ) → slot_where a p (is_saved past a p) ≡ Some n → (rest : List (Option GivenSwap)) → Says (saved_row (seen_at a p n) rest) (leave_page config past a p (seen_at a p n))
  saved_leaves n is rest =
      let passes_there = found_passes (λ (m : ℕ). passes (is_saved past a p m) (seen_at a p m)) (slots_of a p) n is in
      let there = passing (is_saved past a p n) (seen_at a p n) passes_there in
      let kept = subst (λ (o : Option Seen). passes (is_saved past a p n) o ≡ true) there.1 passes_there in
      subst (λ (o : Option Seen). Says (saved_row o rest) (leave_page config past a p o)) (sym there.1)
      (subst
      (λ (b : Bool). Says (saved_row (Some there.0) rest) (cond b (given [] (swap_again swap_modified_full)) (given (eviction past a p (there.0).vpn (there.0).frame evict.Leave ∷ []) swap_more)))
      (sym (saved_goes n there.0 kept)) refl)

  abbrev last_rows : Bool → List (Option GivenSwap)
  last_rows some = when some (given [] (swap_again swap_in_flight)) ∷ otherwise (given (what.Turn (proc p) status.Gone ∷ []) swap_settled) ∷ []

  turned : (some : Bool) → Says (last_rows some) (cond some (given [] (swap_again swap_in_flight)) (given (what.Turn (proc p) status.Gone ∷ []) swap_settled))
  turned true = refl
  turned false = refl

  abbrev unsaved_rows : Option ℕ → List (Option GivenSwap)
  unsaved_rows o =
      if_there o (λ (n : ℕ). given (write_slots a p (run_from (λ (m : ℕ). passes (is_to_save past) (seen_at a p m)) n config.params.wrtcluster)) swap_carry)
      ∷ last_rows (nat_lt 0 (unpinned (a.ring p).slots))

  unsaved : (o : Option ℕ) → Says (unsaved_rows o) (leave_unsaved config past a p o)
  unsaved (Some n) = refl
  unsaved None = turned (nat_lt 0 (unpinned (a.ring p).slots))

  abbrev unsaved_slot : Option ℕ
  unsaved_slot = slot_where a p (λ (n : ℕ) (s : Seen). is_to_save past s)

  saved : (o : Option ℕ) → slot_where a p (is_saved past a p) ≡ o → Says (saved_row (seen_in_slot a p o) (unsaved_rows unsaved_slot)) (leave_saved config past a p o)
  saved (Some n) is = saved_leaves n is (unsaved_rows unsaved_slot)
  saved None is = unsaved unsaved_slot

  abbrev saved_rows : List (Option GivenSwap)
  saved_rows = saved_row (seen_in_slot a p (slot_where a p (is_saved past a p))) (unsaved_rows unsaved_slot)

  shared : (o : Option ℕ) → slot_where a p (λ (n : ℕ) (s : Seen). is_shared_unpinned s) ≡ o → Says (page_rows (seen_in_slot a p o) saved_rows) (leave_shared config past a p o)
  shared (Some n) is = page_leaves (λ (n : ℕ) (s : Seen). is_shared_unpinned s) n is saved_rows
  shared None is = saved (slot_where a p (is_saved past a p)) refl

  pub goes_by_cases : Says (leave_cases config past a p) (leave_gives config past a p)
  unfolding leave_cases
  goes_by_cases = shared (slot_where a p (λ (n : ℕ) (s : Seen). is_shared_unpinned s)) refl
