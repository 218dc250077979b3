-- What a step of a coming process makes is the table's first row that holds.
use Rattle.std.proofs.Common.{◌≡◌, ℕ, Bool, true, false, cond, List, [], ◌∷◌, Option, Some, None, length, nat_eq, refl, sym, subst}
use Rattle.std.proofs.lemmas.Option.{none-some}
use Rattle.vm_types.specs.Adjust.{lesser}
use Rattle.vm_types.specs.declared.config.Config.{Config}
use Rattle.vm_types.specs.declared.names.FrameState.TheVariants as state
use Rattle.vm_types.specs.declared.names.Page.{Page}
use Rattle.vm_types.specs.declared.names.ProcStatus.TheVariants as status
use Rattle.vm_journal.specs.declared.entry.Entry.{Entry}
use Rattle.vm_journal.specs.declared.entry.What.TheVariants as what
use Rattle.pager_model.specs.Flights.{open_flights}
use Rattle.pager_model.specs.Forget.{holder}
use Rattle.pager_model.specs.Lookups.{passes}
use Rattle.pager_model.specs.Lying.{lying_in}
use Rattle.pager_model.specs.Maps.{pfn, proc}
use Rattle.pager_model.specs.Pager.{Pager}
use Rattle.pager_model.specs.Transfers.{has_come}
use Rattle.pager_policy.specs.Given.{address_of, given, reads_made, slots_of}
use Rattle.pager_policy.specs.Swap.{GivenSwap, back_of, back_page, come_free, come_gives, come_out, come_targets, is_back_on_free, is_free_frame, is_out_page, run_from, swap_again, swap_carry, swap_in_flight, swap_more, swap_no_frame, swap_settled, swap_where, turned_resident}
use Rattle.policy_tables.specs.ComeCases.{come_cases}
use Rattle.policy_tables.specs.Rows.{first_case, if_there, only_if, otherwise, when}
use Rattle.policy_tables.specs.Words.{HeldPage, held_by, held_in_slot, held_page}
use Rattle.policy_tables.proofs.Found.{found_passes, passing}

module _ (config : Config) (past : List Entry) (a : Pager) (p : ℕ) where
  -- the first of these rows says this
  abbrev Says : List (Option GivenSwap) → GivenSwap → Type 0
  Says rows g = first_case rows ≡ Some g

  abbrev last_rows : Bool → List (Option GivenSwap)
  last_rows come = when come (given [] (swap_again swap_in_flight)) ∷ otherwise (given (what.Turn (proc p) status.Resident ∷ []) swap_settled) ∷ []

  turned : (come : Bool) → Says (last_rows come) (cond come (given [] (swap_again swap_in_flight)) (given (what.Turn (proc p) status.Resident ∷ []) swap_settled))
  turned true = refl
  turned false = refl

  abbrev reads : ℕ → GivenSwap
  reads n = given (reads_made a.page a.free (come_targets a p (run_from (λ (m : ℕ). passes (is_out_page config a) (lying_in a p m)) n (lesser config.params.pfc (length a.free))))) swap_carry

  abbrev out_rows : Bool → Option ℕ → List (Option GivenSwap)
  out_rows none o = if_there (only_if none o) (λ (n : ℕ). given [] (swap_again swap_no_frame)) ∷ if_there o reads ∷ last_rows (has_come p (open_flights past))

  read_in : (none : Bool) (n : ℕ) → Says (out_rows none (Some n)) (cond none (given [] (swap_again swap_no_frame)) (reads n))
  read_in true n = refl
  read_in false n = refl

  none_out : (none : Bool) → Says (out_rows none None) (turned_resident past p)
  none_out true = turned (has_come p (open_flights past))
  none_out false = turned (has_come p (open_flights past))

  out : (o : Option ℕ) → Says (out_rows (nat_eq (length a.free) 0) o) (come_out config past a p o)
  out (Some n) = read_in (nat_eq (length a.free) 0) n
  out None = none_out (nat_eq (length a.free) 0)

  abbrev rest : List (Option GivenSwap)
  rest = out_rows (nat_eq (length a.free) 0) (swap_where a p (is_out_page config a))

  abbrev back : HeldPage → GivenSwap
  back g = given (what.Back (proc p) (address_of g.page) (pfn g.frame) state.Free ∷ []) swap_more

  -- the page in a swap block that was found, and its frame
  comes_back : (n : ℕ) → swap_where a p (is_back_on_free config a) ≡ Some n → Says (if_there (held_page config a (lying_in a p n)) back ∷ rest) (given (back_page config a p (lying_in a p n)) swap_more)
  comes_back n is =
      let there = found_passes (λ (m : ℕ). passes (is_back_on_free config a) (lying_in a p m)) (slots_of a p) n is in
      by (lying_in a p n) there
    where
      by : (o : Option Page) → passes (is_back_on_free config a) o ≡ true → Says (if_there (held_page config a o) back ∷ rest) (given (back_page config a p o) swap_more)
      by None passes_none = absurd (let none = passing (is_back_on_free config a) None passes_none in none-some none.0 none.1)
      by (Some g) on_free =
          let held = passing (is_free_frame a) (holder config a.page g) on_free in
          subst (λ (o : Option ℕ). Says (if_there (held_by g o) back ∷ rest) (given (back_of p g o) swap_more)) (sym held.1) refl

  free : (o : Option ℕ) → swap_where a p (is_back_on_free config a) ≡ o → Says (if_there (held_in_slot config a p o) back ∷ rest) (come_free config past a p o)
  free (Some n) is = comes_back n is
  free None is = out (swap_where a p (is_out_page config a))

  pub goes_by_cases : Says (come_cases config past a p) (come_gives config past a p)
  unfolding come_cases
  goes_by_cases = free (swap_where a p (is_back_on_free config a)) refl
