-- The first read of a copy on reference page, which is made by itself.
use Rattle.std.proofs.Common.{◌≡◌, ℕ, ◌+◌, ◌*◌, Bool, true, false, cond, List, [], ◌∷◌, Option, Some, length, filter, nat_eq, reverse, ap, ◌∙◌, arith}
use Rattle.std.proofs.lemmas.Bool.{and_from, eq-eqb, false≢true, true≢false}
use Rattle.vm_types.specs.declared.limits.TheConstants.{PAGE_BYTES}
use Rattle.vm_types.specs.declared.names.Page.{Page}
use Rattle.vm_types.specs.declared.names.BlockId.{BlockId}
use Rattle.vm_types.specs.declared.config.Config.{Config}
use Rattle.vm_journal.specs.declared.entry.Entry.{Entry}
use Rattle.vm_journal.specs.declared.entry.Role.TheVariants as role
use Rattle.vm_journal.specs.declared.entry.What.TheVariants as what
use Rattle.pager_model.specs.Changes.{is_section_block, valid_at, without_page}
use Rattle.pager_model.specs.Counted.{last_count}
use Rattle.pager_model.specs.Flights.{Flight, begun_in, failed_flight, open_flights, reading, carrier_of}
use Rattle.pager_policy.specs.Given.{by_seat, made_by, page_address}
use Rattle.pager_model.specs.Maps.{pfn, is_private, page_number, proc}
use Rattle.pager_model.specs.InOk.{after_in_ok}
use Rattle.pager_policy.specs.Landings.{Outcome, first_bad, landed_by, reuse_of, went_badly, went_well}
use Rattle.pager_model.specs.Lookups.{count_page, entry_of, is_entry, page_by}
use Rattle.pager_model.specs.Reuse.{charged_reused}
use Rattle.pager_model.specs.Run.{pager_after}
use Rattle.pager_model.specs.Transfers.{starts}
use Rattle.pager_rules.proofs.Basics.{at_number_same, find_cons_yes, nat_eq_refl}
use Rattle.pager_laws.proofs.ReuseKept.{uncharged_own}
use Rattle.call_laws.proofs.FreeTurn.{same_number}
use Rattle.serial_laws.proofs.Known.{landed_from}

module _ (config : Config) (now : List Entry) (none : open_flights now ≡ []) (p v f : ℕ) (b : BlockId) where
  abbrev x : Flight
  x = record { start = length now + 1; seat = p; frame = f; block = b; direction = reading (role.Fault (proc p) (page_address v)) }

  abbrev pub begun : List Entry
  begun = by_seat p (what.In (pfn f) b (role.Fault (proc p) (page_address v))) ∷ now

  -- it is carried alone
  alone : carrier_of p begun ≡ x ∷ []
  alone =
      ap (λ (xs : List Flight). reverse (filter (λ (y : Flight). nat_eq y.seat p) (x ∷ xs))) none
      ∙ ap (λ (own : Bool). reverse (cond own (x ∷ []) [])) (nat_eq_refl p)

  -- ---- it lands well: its entry is valid
  abbrev pub read_well : List Entry
  read_well = by_seat p (what.InOk (pfn f) (length now + 1)) ∷ begun

  pub well : (outcomes : List Outcome) → length outcomes ≡ length (carrier_of p begun) → first_bad outcomes ≡ false → landed_from config begun p outcomes ≡ read_well
  well [] each good = absurd (let one = ap length alone in omega (arith, each, one))
  well (went_badly n ∷ outcomes) each good = absurd (true≢false good)
  well (went_well ∷ []) each good = ap (λ (xs : List Flight). landed_by config p xs (went_well ∷ []) begun) alone
  well (went_well ∷ o ∷ outcomes) each good = absurd (let one = ap length alone in omega (arith, each, one))

  pub well_valid : entry_of (pager_after config read_well).valid p v ≡ Some (valid_at p (page_number (PAGE_BYTES * v)) f)
  well_valid =
      ap (λ (o : Option Flight). entry_of (after_in_ok (pager_after config begun) f o).valid p v) (find_cons_yes (starts (length now + 1)) x (open_flights now) (nat_eq_refl (length now + 1)))
      ∙ find_cons_yes (is_entry p v) (valid_at p (page_number (PAGE_BYTES * v)) f) (pager_after config begun).valid (and_from _ _ (nat_eq_refl p) (eq-eqb (page_number (PAGE_BYTES * v)) v (same_number v)))

  -- ---- it lands badly: its page isn't charged any more
  module _ (g : Page) (mapped : page_by config (pager_after config now).map p v ≡ Some g) (private : is_private g ≡ true) (section : is_section_block b ≡ true) where
    holds : (pager_after config begun).page f ≡ Some g
    holds = at_number_same (pager_after config now).page f (page_by config (pager_after config now).map p (page_number (PAGE_BYTES * v))) ∙ (ap (page_by config (pager_after config now).map p) (same_number v) ∙ mapped)

    abbrev pub read_badly : ℕ → List Entry
    read_badly n = by_seat p (what.Reuse (pfn f) g) ∷ by_seat p (what.InFail (pfn f) (length now + 1) (last_count b begun) n) ∷ begun

    pub badly : (outcomes : List Outcome) → length outcomes ≡ length (carrier_of p begun) → first_bad outcomes ≡ true → (n : ℕ) × (landed_from config begun p outcomes ≡ read_badly n)
    badly [] each bad = absurd (false≢true bad)
    badly (went_well ∷ outcomes) each bad = absurd (false≢true bad)
    badly (went_badly n ∷ []) each bad = (
      n,
      ap (λ (xs : List Flight). landed_by config p xs (went_badly n ∷ []) begun) alone
          ∙ ap (λ (o : Option Page). made_by p (what.InFail (pfn f) (length now + 1) (last_count b begun) n ∷ reuse_of f o) begun) holds,
    )
    badly (went_badly n ∷ o ∷ outcomes) each bad = absurd (let one = ap length alone in omega (arith, each, one))

    failed_is : (n : ℕ) → failed_flight (by_seat p (what.InFail (pfn f) (length now + 1) (last_count b begun) n) ∷ begun) ≡ Some x
    failed_is n = ap (λ (own : Bool). cond own (Some x) (begun_in (length now + 1) now)) (nat_eq_refl (length now + 1))

    pub badly_uncharged : (n : ℕ) → count_page (pager_after config (read_badly n)).charged g ≡ 0
    badly_uncharged n =
        ap (λ (o : Option Flight). count_page (charged_reused o g (pager_after config begun).charged) g) (failed_is n)
        ∙ (ap (λ (c : Bool). count_page (cond c (without_page (pager_after config begun).charged g) (pager_after config begun).charged) g) (and_from _ _ private section)
        ∙ uncharged_own (pager_after config begun).charged g)
