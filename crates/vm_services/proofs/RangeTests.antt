-- What a range of a process has: unmapped pages, valid pages, and transfers of its private pages.
use Rattle.std.proofs.Common.{◌≡◌, ℕ, ◌+◌, ◌-◌, ◌<◌, ◌||◌, Bool, true, false, cond, List, [], ◌∷◌, Option, Some, None, find, count_by, nat_lt, refl, sym, ap, ◌∙◌, arith}
use Rattle.std.specs.List.{list_any, range_with_len}
use Rattle.std.specs.Option.{is_some, option_map}
use Rattle.std.proofs.lemmas.Bool.{lt-ltb}
use Rattle.vm_types.specs.Configuration.{IsWellFormed}
use Rattle.vm_types.specs.declared.config.Config.{Config}
use Rattle.vm_types.specs.declared.names.Page.{Page}
use Rattle.vm_journal.specs.declared.entry.Entry.{Entry}
use Rattle.pager_model.specs.Around.{past_view}
use Rattle.pager_model.specs.Flights.{Flight, open_flights}
use Rattle.pager_model.specs.Forget.{holder, own_pages, range_of, with_private}
use Rattle.pager_model.specs.Lookups.{passes, entry_of, is_entry, page_by}
use Rattle.pager_model.specs.Maps.{is_private, page_number}
use Rattle.pager_model.specs.Pager.{Pager, Valid}
use Rattle.pager_model.specs.Run.{IsRun, pager_after}
use Rattle.pager_policy.specs.Serve.{is_page_in_flight, is_range_in_flight, is_valid_at}
use Rattle.pager_model.specs.Transfers.{is_in_flight}
use Rattle.pager_rules.proofs.Basics.{count_from_no_find}
use Rattle.pager_rules.proofs.Lists.{count_found, found_passes}
use Rattle.pager_laws.proofs.RunsAreSound.{run_kept}
use Rattle.pager_laws.proofs.Holders.{holder_holds, holds_within}
use Rattle.state_fits.specs.Seats.{flight_on, is_on_frame, start_on}
use Rattle.state_fits.proofs.FlightsMoved.{on_frame_counts}
use Rattle.vm_services.specs.OwnFlights.{is_own_in_flight}

-- an item is found exactly if some are counted
found_if : {X : Type 0} (t : X → Bool) (xs : List X) → is_some (find t xs) ≡ nat_lt 0 (count_by t xs)
found_if {X} t xs = by (find t xs) refl
  where
    by : (o : Option X) → find t xs ≡ o → is_some o ≡ nat_lt 0 (count_by t xs)
    by None none = sym (ap (λ (n : ℕ). nat_lt 0 n) (count_from_no_find t xs none))
    by (Some x) some = sym (lt-ltb 0 (count_by t xs) (count_found t t xs x some (found_passes t xs x some)))

some_mapped : {X Y : Type 0} (f : X → Y) (o : Option X) → is_some (option_map f o) ≡ is_some o
some_mapped f None = refl
some_mapped f (Some x) = refl

-- a valid entry is shown by its frame
pub valid_if : {X : Type 0} (a : Pager) (p v : ℕ) (f : X → ℕ) (g : Valid → ℕ) (o : Option X) → option_map f o ≡ option_map g (entry_of a.valid p v) → is_some o ≡ is_valid_at a p v
valid_if a p v f g o is =
    sym (some_mapped f o) ∙ (ap is_some is ∙ (some_mapped g (entry_of a.valid p v) ∙ found_if (is_entry p v) a.valid))

-- and an open flight of a frame by its start
pub flight_if : (f : ℕ) (flights : List Flight) → is_some (start_on f flights) ≡ is_in_flight f flights
flight_if f flights =
    some_mapped (λ (x : Flight). x.start) (flight_on f flights) ∙ (found_if (is_on_frame f) flights ∙ ap (λ (n : ℕ). nat_lt 0 n) (on_frame_counts f flights))

-- ---- the private pages of a range, page by page
any_private : (t : Page → Bool) (o : Option Page) (pages : List Page) → list_any t (with_private o pages) ≡ (list_any t (with_private o []) || list_any t pages)
any_private t None pages = refl
any_private t (Some g) pages = by (is_private g) (t g)
  where
    by : (b c : Bool) → list_any t (cond b (g ∷ pages) pages) ≡ (list_any t (cond b (g ∷ []) []) || list_any t pages)
    by false c = refl
    by true c = either (t g)
      where
        either : (d : Bool) → (d || list_any t pages) ≡ ((d || false) || list_any t pages)
        either true = refl
        either false = refl

any_own : (config : Config) (past : List Entry) (a : Pager) (p : ℕ) (numbers : List ℕ) → list_any (is_page_in_flight config past a) (own_pages config a.map p numbers) ≡ list_any (is_own_in_flight config past a p) numbers
any_own config past a p [] = refl
any_own config past a p (v ∷ numbers) =
    any_private (is_page_in_flight config past a) (page_by config a.map p v) (own_pages config a.map p numbers)
    ∙ ap (λ (b : Bool). is_own_in_flight config past a p v || b) (any_own config past a p numbers)

pub flies_from : (config : Config) (past : List Entry) (a : Pager) (p address pages : ℕ) → is_range_in_flight config past a p address pages ≡ list_any (is_own_in_flight config past a p) (range_with_len (page_number address + 0) (pages - 0))
flies_from config past a p address pages =
    any_own config past a p (range_of address pages) ∙ (λ i. list_any (is_own_in_flight config past a p) (range_with_len (from i) (whole i)))
  where
    from : page_number address ≡ page_number address + 0
    from = omega arith

    whole : pages ≡ pages - 0
    whole = omega arith

-- ---- the frame that holds a page
pub held_within : (config : Config) (past : List Entry) (g : Page) (f : ℕ) → IsWellFormed config → IsRun config past → holder config (pager_after config past).page g ≡ Some f → f < config.frames
held_within config past g f formed run holds = holds_within config (past_view past) (pager_after config past) f g (run_kept config past formed run) (holder_holds config (pager_after config past).page g f holds)

pub page_flies : (config : Config) (past : List Entry) (a : Pager) (g : Page) (f : ℕ) → holder config a.page g ≡ Some f → is_page_in_flight config past a g ≡ is_some (start_on f (open_flights past))
page_flies config past a g f holds = ap (λ (o : Option ℕ). passes (λ (k : ℕ). is_in_flight k (open_flights past)) o) holds ∙ sym (flight_if f (open_flights past))
