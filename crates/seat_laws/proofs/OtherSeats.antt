-- What the entries of one seat leave of another seat's open flights.
use Rattle.std.proofs.Common.{◌≡◌, ℕ, ◌+◌, Bool, true, false, cond, not, List, [], ◌∷◌, Some, find, filter, length, nat_eq, reverse, refl, sym, ap, ◌∙◌}
use Rattle.std.proofs.lemmas.Bool.{eqb-false, eqb-true}
use Rattle.std.proofs.lemmas.Option.{same_Some}
use Rattle.vm_types.specs.declared.config.Config.{Config}
use Rattle.vm_journal.specs.declared.entry.Entry.{Entry}
use Rattle.vm_journal.specs.declared.entry.What.{What}
use Rattle.vm_journal.specs.declared.entry.What.TheVariants as what
use Rattle.pager_model.specs.Carrier.{carrying, carrying_with}
use Rattle.pager_model.specs.Fits.{lands}
use Rattle.pager_model.specs.Flights.{Flight, is_busy, open_flights, reading, without_flight, writing, carrier_of}
use Rattle.pager_policy.specs.Given.{by_seat, made_by}
use Rattle.pager_model.specs.InOk.{IsLanding}
use Rattle.pager_model.specs.Run.{IsRun, pager_after}
use Rattle.pager_model.specs.Step.{IsLegalWhat}
use Rattle.pager_model.specs.Transfers.{is_by, starts}
use Rattle.pager_rules.proofs.Quiet.{starts_once}
use Rattle.carried_landings.proofs.Reversed.{filter_within, only_found}
use Rattle.pager_rules.proofs.Basics.{each_weaker}

module _ (p q : ℕ) (apart : nat_eq p q ≡ false) where
  -- ---- one entry
  module _ (config : Config) (past : List Entry) where
    abbrev flights : List Flight
    flights = open_flights past

    begun_apart : (x : Flight) → x.seat ≡ p → filter (is_by q) (x ∷ flights) ≡ filter (is_by q) flights
    begun_apart x by = ap (λ (b : Bool). cond b (x ∷ filter (is_by q) flights) (filter (is_by q) flights)) (ap (λ (n : ℕ). nat_eq n q) by ∙ apart)

    landed_apart : (f k : ℕ) (x : Flight) → IsLanding past p f k x → filter (is_by q) (without_flight k flights) ≡ filter (is_by q) flights
    landed_apart f k x landing =
        filter_within (is_by q) (λ (y : Flight). not (starts k y)) flights
        (each_weaker (λ (y : Flight). starts k y ≡ true → y ≡ x) (λ (y : Flight). is_by q y ≡ true → not (starts k y) ≡ true) (λ y only own. go y only own (starts k y) refl) flights (only_found (starts k) flights x landing.open_k (starts_once past k)))
      where
        go : (y : Flight) → (starts k y ≡ true → y ≡ x) → is_by q y ≡ true → (b : Bool) → starts k y ≡ b → not (starts k y) ≡ true
        go y only own false is = ap not is
        go y only own true is =
            let same : p ≡ q = sym landing.seat ∙ (ap (λ (z : Flight). z.seat) (sym (only is)) ∙ eqb-true y.seat q own) in
            absurd (eqb-false p q apart same)

    filter_stays : (w : What) → IsLegalWhat config past (pager_after config past) p w → filter (is_by q) (open_flights (by_seat p w ∷ past)) ≡ filter (is_by q) flights
    filter_stays (what.In f b r) legal = begun_apart (record { start = length past + 1; seat = p; frame = f.0; block = b; direction = reading r }) refl
    filter_stays (what.Out f b) legal = begun_apart (record { start = length past + 1; seat = p; frame = f.0; block = b; direction = writing }) refl
    filter_stays (what.InOk f k) legal = landed_apart f.0 k legal.flight legal.lands
    filter_stays (what.InFail f k c d) legal = landed_apart f.0 k legal.flight legal.lands
    filter_stays (what.OutOk f k) legal = landed_apart f.0 k legal.flight legal.lands
    filter_stays (what.OutFail f k c d) legal = landed_apart f.0 k legal.write.flight legal.write.lands
    filter_stays other legal = refl

    -- it lands no flight of the other seat
    not_landed : (f j k : ℕ) (x y : Flight) → IsLanding past p f j y → find (starts k) flights ≡ Some x → x.seat ≡ q → nat_eq k j ≡ false
    not_landed f j k x y landing found own = go (nat_eq k j) refl
      where
        go : (b : Bool) → nat_eq k j ≡ b → nat_eq k j ≡ false
        go false is = is
        go true is =
            let same : x ≡ y = same_Some x y (sym found ∙ (ap (λ (n : ℕ). find (starts n) flights) (eqb-true k j is) ∙ landing.open_k)) in
            absurd (eqb-false p q apart (sym landing.seat ∙ (ap (λ (z : Flight). z.seat) (sym same) ∙ own)))

    pub lands_none : (w : What) (k : ℕ) (x : Flight) → IsLegalWhat config past (pager_after config past) p w → find (starts k) flights ≡ Some x → x.seat ≡ q → lands k w ≡ false
    lands_none (what.InOk f j) k x legal found own = not_landed f.0 j k x legal.flight legal.lands found own
    lands_none (what.InFail f j c d) k x legal found own = not_landed f.0 j k x legal.flight legal.lands found own
    lands_none (what.OutOk f j) k x legal found own = not_landed f.0 j k x legal.flight legal.lands found own
    lands_none (what.OutFail f j c d) k x legal found own = not_landed f.0 j k x legal.write.flight legal.write.lands found own
    lands_none other k x legal found own = refl

    pub carrier_stays : (w : What) → IsLegalWhat config past (pager_after config past) p w → carrier_of q (by_seat p w ∷ past) ≡ carrier_of q past
    carrier_stays w legal = ap (λ (xs : List Flight). reverse xs) (filter_stays w legal)

  -- what is kept of the other seat's carrier
  pub carrying_stays : (past : List Entry) (w : What) → carrying q (by_seat p w ∷ past) ≡ carrying q past
  carrying_stays past w = ap (λ (b : Bool). cond b (carrying_with (length past + 1) q (is_busy q (open_flights past)) w (carrying q past)) (carrying q past)) apart

  -- ---- entries one after another
  pub carriers_stay : (config : Config) (ws : List What) (past : List Entry) → IsRun config (made_by p ws past) → carrier_of q (made_by p ws past) ≡ carrier_of q past
  carriers_stay config [] past run = refl
  carriers_stay config (w ∷ ws) past run = carriers_stay config ws (by_seat p w ∷ past) run ∙ carrier_stays config past w ((run_before config ws (by_seat p w ∷ past) run).1).row
    where
      run_before : (config : Config) (ws : List What) (past : List Entry) → IsRun config (made_by p ws past) → IsRun config past
      run_before config [] past run = run
      run_before config (w ∷ ws) past run = (run_before config ws (by_seat p w ∷ past) run).0

  pub carryings_stay : (ws : List What) (past : List Entry) → carrying q (made_by p ws past) ≡ carrying q past
  carryings_stay [] past = refl
  carryings_stay (w ∷ ws) past = carryings_stay ws (by_seat p w ∷ past) ∙ carrying_stays past w
