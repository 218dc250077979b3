-- A carrier of writes lowers the later numbers of a rank, unless all its lifts failed.
use Rattle.std.proofs.Common.{◌≡◌, ◌⊎◌, inl, inr, ℕ, ◌<◌, ◌≤◌, false, cond, List, [], ◌∷◌, Option, Some, length, find, count_by, refl, sym, ap, ◌∙◌, subst, arith}
use Rattle.std.specs.List.{AllByRecursion, sum_by}
use Rattle.std.proofs.lemmas.Bool.{false≢true, true≢false}
use Rattle.vm_types.specs.Configuration.{IsWellFormed}
use Rattle.vm_types.specs.Ring.{Ring, filled}
use Rattle.vm_types.specs.declared.names.ProcStatus.{ProcStatus}
use Rattle.vm_types.specs.declared.config.Config.{Config}
use Rattle.vm_journal.specs.declared.entry.Entry.{Entry}
use Rattle.vm_journal.specs.declared.entry.Role.{Role}
use Rattle.vm_journal.specs.declared.entry.What.{What}
use Rattle.vm_journal.specs.declared.entry.What.TheVariants as what
use Rattle.pager_model.specs.Counted.{last_count}
use Rattle.pager_model.specs.Flights.{Direction, Flight, is_reading, open_flights, reading, writing, carrier_of}
use Rattle.pager_policy.specs.Given.{by_seat, made_by}
use Rattle.pager_model.specs.Maps.{pfn}
use Rattle.pager_policy.specs.Landings.{Outcome, all_bad, landed_by, landing, reuse_of, went_badly, went_well}
use Rattle.pager_model.specs.Lookups.{is_pending}
use Rattle.pager_model.specs.OutLanding.{IsOutOk, after_out_ok, marked}
use Rattle.pager_model.specs.Pager.{Pager}
use Rattle.pager_model.specs.Run.{IsRun, pager_after}
use Rattle.pager_model.specs.Transfers.{starts}
use Rattle.pager_rules.proofs.Lists.{all_found}
use Rattle.pager_laws.proofs.RunsAreSound.{run_kept}
use Rattle.serial_laws.proofs.Betweens.{none_open}
use Rattle.serial_laws.proofs.Known.{landed_from}
use Rattle.serial_laws.proofs.Writes.{Writes}
use Rattle.policy_ends.specs.Rank.{IsLower, absence, filled_slots, numbers_for, pending, presence_of_others, processes_of, unsaved}
use Rattle.policy_ends.proofs.Numbers.{AreLower, lower_modified, lower_unsaved}
use Rattle.policy_ends.proofs.Singles.{others_same}
use Rattle.policy_ends.proofs.WriteSteps.{AreClear, IsClear, IsNoHigher, failed_no_higher, is_list_write, listed, out_no_higher, well_lower, well_no_higher}

-- ---- runs of what was before
pub run_before : (config : Config) (seat : ℕ) (ws : List What) (past : List Entry) → IsRun config (made_by seat ws past) → IsRun config past
run_before config seat [] past run = run
run_before config seat (w ∷ ws) past run = (run_before config seat ws (by_seat seat w ∷ past) run).0

pub run_landed : (config : Config) (seat : ℕ) (flights : List Flight) (outcomes : List Outcome) (past : List Entry) → IsRun config (landed_by config seat flights outcomes past) → IsRun config past
run_landed config seat [] outcomes past run = run
run_landed config seat (x ∷ flights) [] past run = run
run_landed config seat (x ∷ flights) (o ∷ outcomes) past run =
    let ws = landing past (pager_after config past).page x x.direction o in
    run_before config seat ws past (run_landed config seat flights outcomes (made_by seat ws past) run)

-- ---- one after another
no_higher_same : (past : List Entry) (a : Pager) → AreClear past a → IsNoHigher past past a a
no_higher_same past a clear = record { status = refl; ring = refl; references = refl; come = λ p. omega arith; unsaved = omega arith; listed = omega arith; clear = clear }

no_higher_then : (past middle more : List Entry) (a b c : Pager) → IsNoHigher past middle a b → IsNoHigher middle more b c → IsNoHigher past more a c
no_higher_then past middle more a b c first rest = record {
  status = rest.status ∙ first.status;
  ring = rest.ring ∙ first.ring;
  references = rest.references ∙ first.references;
  come = λ p. let one = first.come p in let other = rest.come p in omega (arith, one, other);
  unsaved = (let one = first.unsaved in let other = rest.unsaved in omega (arith, one, other));
  listed = (let one = first.listed in let other = rest.listed in omega (arith, one, other));
  clear = rest.clear;
}

abbrev NoHigher : Config → List Entry → List Entry → Type 0
NoHigher config past more = IsNoHigher past more (pager_after config past) (pager_after config more)

then : (config : Config) (past middle more : List Entry) → NoHigher config past middle → NoHigher config middle more → NoHigher config past more
then config past middle more first rest = no_higher_then past middle more (pager_after config past) (pager_after config middle) (pager_after config more) first rest

-- either number is lower
abbrev Less : Config → List Entry → List Entry → Type 0
Less config past more = (unsaved more (pager_after config more) < unsaved past (pager_after config past)) ⊎ (listed more (pager_after config more) < listed past (pager_after config past))

-- ---- the writes begin
begun_no_higher : (config : Config) (seat : ℕ) (ws : List What) (past : List Entry) → IsWellFormed config → AreClear past (pager_after config past) → Writes ws → IsRun config (made_by seat ws past)
    → NoHigher config past (made_by seat ws past)
begun_no_higher config seat [] past formed clear writes run = no_higher_same past (pager_after config past) clear
begun_no_higher config seat (what.Out f b ∷ ws) past formed clear writes run =
    let now : List Entry = by_seat seat (what.Out f b) ∷ past in
    let ran = run_before config seat ws now run in
    let first : NoHigher config past now = out_no_higher config past (pager_after config past) seat f.0 b (run_kept config past formed ran.0) clear now refl ran.1.row in
    then config past now (made_by seat ws now) first (begun_no_higher config seat ws now formed first.clear writes.1 run)
begun_no_higher config seat (other ∷ ws) past formed clear writes run = absurd (false≢true writes.0)

-- ---- one lands
pub not_read : {X : Type 0} (config : Config) (past : List Entry) (k : ℕ) (x : Flight) (r : Role) → AreClear past (pager_after config past) → find (starts k) (open_flights past) ≡ Some x
    → x.direction ≡ reading r → X
not_read config past k x r clear found is = absurd (false≢true (sym (ap is_reading (all_found (IsClear (pager_after config past)) (starts k) (open_flights past) x clear found).0) ∙ ap is_reading is))

module _ (config : Config) (past : List Entry) (seat : ℕ) (f k : ℕ) (formed : IsWellFormed config) (clear : AreClear past (pager_after config past)) (ran : IsRun config past) where
  abbrev a : Pager
  a = pager_after config past

  good_no_higher : IsOutOk past seat f k → NoHigher config past (by_seat seat (what.OutOk (pfn f) k) ∷ past)
  good_no_higher row =
      subst (λ (o : Option Flight). IsNoHigher past (by_seat seat (what.OutOk (pfn f) k) ∷ past) a (after_out_ok a f o)) (sym row.lands.open_k)
      (well_no_higher config past a k f (run_kept config past formed ran) clear row.flight row.lands.open_k row.lands.frame (by_seat seat (what.OutOk (pfn f) k) ∷ past) refl)

  good_less : IsOutOk past seat f k → Less config past (by_seat seat (what.OutOk (pfn f) k) ∷ past)
  good_less row =
      subst
      (λ (o : Option Flight). (unsaved (by_seat seat (what.OutOk (pfn f) k) ∷ past) (after_out_ok a f o) < unsaved past a) ⊎ (listed (by_seat seat (what.OutOk (pfn f) k) ∷ past) (after_out_ok a f o) < listed past a))
      (sym row.lands.open_k)
      (well_lower config past a k f (run_kept config past formed ran) clear row.flight row.lands.open_k row.lands.frame (by_seat seat (what.OutOk (pfn f) k) ∷ past) refl)

  bad_no_higher : (c d : ℕ) → IsOutOk past seat f k → NoHigher config past (by_seat seat (what.OutFail (pfn f) k c d) ∷ past)
  bad_no_higher c d row =
      subst (λ (o : Option Flight). IsNoHigher past (by_seat seat (what.OutFail (pfn f) k c d) ∷ past) a (after_out_ok (marked a f) f o)) (sym row.lands.open_k)
      (failed_no_higher config past a k f (run_kept config past formed ran) clear row.flight row.lands.open_k row.lands.frame (by_seat seat (what.OutFail (pfn f) k c d) ∷ past) refl)

abbrev landed_one : Config → ℕ → List Entry → Flight → Outcome → List Entry
landed_one config seat past x o = made_by seat (landing past (pager_after config past).page x x.direction o) past

pub landing_no_higher : (config : Config) (seat : ℕ) (past : List Entry) (x : Flight) (o : Outcome) → IsWellFormed config → AreClear past (pager_after config past)
    → IsRun config (landed_one config seat past x o) → NoHigher config past (landed_one config seat past x o)
landing_no_higher config seat past x o formed clear run = by x.direction o run
  where
    by : (d : Direction) (o : Outcome) → IsRun config (made_by seat (landing past (pager_after config past).page x d o) past)
        → NoHigher config past (made_by seat (landing past (pager_after config past).page x d o) past)
    by writing went_well ran = good_no_higher config past seat x.frame x.start formed clear ran.0 ran.1.row
    by writing (went_badly n) ran = bad_no_higher config past seat x.frame x.start formed clear ran.0 (last_count x.block past) n ran.1.row.write
    by (reading r) went_well ran = not_read config past x.start ran.1.row.flight ran.1.row.role clear ran.1.row.lands.open_k ran.1.row.reads
    by (reading r) (went_badly n) ran =
        let failed = run_before config seat (reuse_of x.frame ((pager_after config past).page x.frame)) (by_seat seat (what.InFail (pfn x.frame) x.start (last_count x.block past) n) ∷ past) ran in
        not_read config past x.start failed.1.row.flight failed.1.row.role clear failed.1.row.lands.open_k failed.1.row.reads

landing_less : (config : Config) (seat : ℕ) (past : List Entry) (x : Flight) → IsWellFormed config → AreClear past (pager_after config past) → IsRun config (landed_one config seat past x went_well)
    → Less config past (landed_one config seat past x went_well)
landing_less config seat past x formed clear run = by x.direction run
  where
    by : (d : Direction) → IsRun config (made_by seat (landing past (pager_after config past).page x d went_well) past)
        → Less config past (made_by seat (landing past (pager_after config past).page x d went_well) past)
    by writing ran = good_less config past seat x.frame x.start formed clear ran.0 ran.1.row
    by (reading r) ran = not_read config past x.start ran.1.row.flight ran.1.row.role clear ran.1.row.lands.open_k ran.1.row.reads

-- ---- all of them land
landed_no_higher : (config : Config) (seat : ℕ) (flights : List Flight) (outcomes : List Outcome) (past : List Entry) → IsWellFormed config → AreClear past (pager_after config past)
    → IsRun config (landed_by config seat flights outcomes past) → NoHigher config past (landed_by config seat flights outcomes past)
landed_no_higher config seat [] outcomes past formed clear run = no_higher_same past (pager_after config past) clear
landed_no_higher config seat (x ∷ flights) [] past formed clear run = no_higher_same past (pager_after config past) clear
landed_no_higher config seat (x ∷ flights) (o ∷ outcomes) past formed clear run =
    let now : List Entry = landed_one config seat past x o in
    let first = landing_no_higher config seat past x o formed clear (run_landed config seat flights outcomes now run) in
    then config past now (landed_by config seat flights outcomes now) first (landed_no_higher config seat flights outcomes now formed first.clear run)

less_then : (config : Config) (past middle more : List Entry) → NoHigher config past middle → Less config past middle → NoHigher config middle more → Less config past more
less_then config past middle more first (inl less) rest = inl (let one = rest.unsaved in omega (arith, less, one))
less_then config past middle more first (inr less) rest = inr (let one = rest.listed in omega (arith, less, one))

then_less : (config : Config) (past middle more : List Entry) → NoHigher config past middle → Less config middle more → Less config past more
then_less config past middle more first (inl less) = inl (let one = first.unsaved in omega (arith, less, one))
then_less config past middle more first (inr less) = inr (let one = first.listed in omega (arith, less, one))

landed_less : (config : Config) (seat : ℕ) (flights : List Flight) (outcomes : List Outcome) (past : List Entry) → IsWellFormed config → AreClear past (pager_after config past)
    → length outcomes ≡ length flights → all_bad outcomes ≡ false → IsRun config (landed_by config seat flights outcomes past) → Less config past (landed_by config seat flights outcomes past)
landed_less config seat flights [] past formed clear each good run = absurd (true≢false good)
landed_less config seat [] (o ∷ outcomes) past formed clear each good run = absurd (omega (arith, each))
landed_less config seat (x ∷ flights) (went_well ∷ outcomes) past formed clear each good run =
    let now : List Entry = landed_one config seat past x went_well in
    let ran = run_landed config seat flights outcomes now run in
    let first = landing_no_higher config seat past x went_well formed clear ran in
    less_then config past now (landed_by config seat flights outcomes now) first (landing_less config seat past x formed clear ran)
    (landed_no_higher config seat flights outcomes now formed first.clear run)
landed_less config seat (x ∷ flights) (went_badly n ∷ outcomes) past formed clear each good run =
    let now : List Entry = landed_one config seat past x (went_badly n) in
    let first = landing_no_higher config seat past x (went_badly n) formed clear (run_landed config seat flights outcomes now run) in
    then_less config past now (landed_by config seat flights outcomes now) first (landed_less config seat flights outcomes now formed first.clear (omega (arith, each)) good run)

-- ---- so the numbers are lower
module _ (config : Config) (past : List Entry) (seat : ℕ) (ws : List What) (outcomes : List Outcome) (p u v : ℕ) (formed : IsWellFormed config) (none : open_flights past ≡ []) (writes : Writes ws)
    (each : length outcomes ≡ length (carrier_of seat (made_by seat ws past))) (good : all_bad outcomes ≡ false)
    (run : IsRun config (landed_from config (made_by seat ws past) seat outcomes)) (most : u ≤ v) where
  abbrev begun : List Entry
  begun = made_by seat ws past

  abbrev landed : List Entry
  landed = landed_from config (made_by seat ws past) seat outcomes

  abbrev before : Pager
  before = pager_after config past

  abbrev after_all : Pager
  after_all = pager_after config landed

  first : NoHigher config past begun
  first = begun_no_higher config seat ws past formed (subst (AllByRecursion (IsClear before)) (sym none) tt) writes (run_landed config seat (carrier_of seat begun) outcomes begun run)

  all : NoHigher config past landed
  all = then config past begun landed first (landed_no_higher config seat (carrier_of seat begun) outcomes begun formed first.clear run)

  less : Less config past landed
  less = then_less config past begun landed first (landed_less config seat (carrier_of seat begun) outcomes begun formed first.clear each good run)

  others : presence_of_others config after_all p ≤ presence_of_others config before p
  others = others_same config before after_all p all.status

  away : absence (after_all.status p) ≤ absence (before.status p)
  away = let same = ap (λ (s : ℕ → ProcStatus). absence (s p)) all.status in omega (arith, same)

  waits : pending config after_all p ≤ pending config before p
  waits = let same = ap (λ (n : ℕ → ℕ). cond {A = ℕ} (is_pending config (n p)) 1 0) all.references in omega (arith, same)

  slots : filled_slots config after_all ≤ filled_slots config before
  slots = let same = ap (λ (r : ℕ → Ring). sum_by (λ (q : ℕ). filled (r q).slots) (processes_of config)) all.ring in omega (arith, same)

  pub writes_lower : AreLower config past (landed_from config (made_by seat ws past) seat outcomes) p u v
  writes_lower = by less
    where
      by : Less config past landed → IsLower (numbers_for config landed after_all p u) (numbers_for config past before p v)
      by (inl fewer) = lower_unsaved config past landed before after_all p u v others away (all.come p) waits most slots fewer
      by (inr shorter) =
          lower_modified config past landed before after_all p u v others away (all.come p) waits most slots all.unsaved
          (let old = ap (count_by is_list_write) none in let now = ap (count_by is_list_write) (none_open config past seat ws outcomes none each) in omega (arith, shorter, old, now))
