-- What a cluster of the rundown leaves, whatever comes of its writes.
use Rattle.std.proofs.Common.{◌≡◌, inl, inr, ℕ, ◌+◌, ◌≤◌, true, false, List, [], ◌∷◌, Option, length, refl, sym, ap, ◌∙◌, subst, arith}
use Rattle.std.specs.List.{AllByRecursion}
use Rattle.std.proofs.lemmas.Bool.{false≢true}
use Rattle.vm_types.specs.Configuration.{IsWellFormed}
use Rattle.vm_types.specs.declared.names.BlockId.{BlockId}
use Rattle.vm_types.specs.declared.names.BlockId.TheVariants as block
use Rattle.vm_types.specs.declared.names.Pfn.{Pfn}
use Rattle.vm_types.specs.declared.config.Config.{Config}
use Rattle.vm_journal.specs.declared.entry.Entry.{Entry}
use Rattle.vm_journal.specs.declared.entry.What.{What}
use Rattle.vm_journal.specs.declared.entry.What.TheVariants as what
use Rattle.pager_model.specs.Counted.{last_count}
use Rattle.pager_model.specs.Flights.{Direction, Flight, open_flights, reading, writing, carrier_of}
use Rattle.pager_policy.specs.Given.{by_seat, made_by}
use Rattle.pager_model.specs.Maps.{pfn}
use Rattle.pager_policy.specs.Landings.{Outcome, landed_by, landing, reuse_of, went_badly, went_well}
use Rattle.pager_model.specs.Lookups.{shares}
use Rattle.pager_model.specs.Out.{IsAnyOut, IsOut}
use Rattle.pager_model.specs.OutLanding.{after_out_ok, marked}
use Rattle.pager_model.specs.Pager.{Pager, Valid}
use Rattle.pager_model.specs.Run.{IsRun, pager_after}
use Rattle.pager_laws.proofs.RunsAreSound.{run_kept}
use Rattle.policy_ends.proofs.Beyond.{beyond_more}
use Rattle.policy_ends.proofs.Clusters.{AreListOuts, is_list_out, still_same, still_then, writes_begun}
use Rattle.policy_ends.proofs.FailedWrites.{IsWritten, badly_written, out_written, well_written}
use Rattle.policy_ends.proofs.WriteCarriers.{landing_no_higher, not_read, run_before, run_landed}
use Rattle.policy_ends.proofs.WriteSteps.{AreClear, IsClear, is_swap_block}

-- ---- one after another
abbrev pub WritesTo : Config → ℕ → List Entry → List Entry → ℕ → Type 0
WritesTo config n past more writes = IsWritten n past more (pager_after config past) (pager_after config more) writes

written_same : (config : Config) (n : ℕ) (past : List Entry) → WritesTo config n past past 0
written_same config n past = record {
  still = still_same (pager_after config past);
  longer = omega arith;
  marks = λ f some set. set;
  failed = λ marks. marks;
  tried = λ left later less tried. beyond_more _ left later (pager_after config past).modified (omega (arith, less)) tried;
}

written_then : (config : Config) (n : ℕ) (past middle more : List Entry) (first rest all : ℕ) → all ≤ first + rest → WritesTo config n past middle first → WritesTo config n middle more rest → WritesTo config n past more all
written_then config n past middle more first rest all most one other = record {
  still = still_then (pager_after config past) (pager_after config middle) (pager_after config more) one.still other.still;
  longer = (let short = one.longer in let long = other.longer in omega (arith, short, long));
  marks = λ f some set. other.marks f (let same = ap (λ (valid : List Valid). shares valid f) one.still.valid in omega (arith, same, some)) (one.marks f some set);
  failed = λ marks. other.failed (one.failed marks);
  tried = λ left later less tried. other.tried (later + rest) later (omega arith) (one.tried left (later + rest) (omega (arith, less, most)) tried);
}

-- ---- the writes begin
is_out : (config : Config) (past : List Entry) (a : Pager) (f : ℕ) (b : BlockId) → is_swap_block b ≡ false → IsAnyOut config past a f b → IsOut config past a f b
is_out config past a f b other (inl row) = row
is_out config past a f b other (inr row) = absurd (false≢true (sym other ∙ ap is_swap_block row.block))

list_out_written : (config : Config) (n : ℕ) (past : List Entry) (seat : ℕ) (f : Pfn) (b : BlockId) → IsWellFormed config → n ≤ length past → is_list_out (what.Out f b) ≡ true → IsRun config (by_seat seat (what.Out f b) ∷ past)
    → WritesTo config n past (by_seat seat (what.Out f b) ∷ past) 1
list_out_written config n past seat f (block.Swap p m) formed within listed run = absurd (false≢true listed)
list_out_written config n past seat f (block.PageFile m) formed within listed run =
    out_written config n past (pager_after config past) seat f (block.PageFile m) (run_kept config past formed run.0) within (is_out config past (pager_after config past) f.0 (block.PageFile m) refl run.1.row)
list_out_written config n past seat f (block.Section s i) formed within listed run =
    out_written config n past (pager_after config past) seat f (block.Section s i) (run_kept config past formed run.0) within (is_out config past (pager_after config past) f.0 (block.Section s i) refl run.1.row)

pub begun_written : (config : Config) (n seat : ℕ) (ws : List What) (past : List Entry) → IsWellFormed config → n ≤ length past → AreListOuts ws → IsRun config (made_by seat ws past) → WritesTo config n past (made_by seat ws past) (length ws)
begun_written config n seat [] past formed within outs run = written_same config n past
begun_written config n seat (what.Out f b ∷ ws) past formed within outs run =
    let now : List Entry = by_seat seat (what.Out f b) ∷ past in
    written_then config n past now (made_by seat ws now) 1 (length ws) (length (what.Out f b ∷ ws)) (omega arith) (list_out_written config n past seat f b formed within outs.0 (run_before config seat ws now run))
    (begun_written config n seat ws now formed (omega (arith, within)) outs.1 run)
begun_written config n seat (other ∷ ws) past formed within outs run = absurd (false≢true outs.0)

-- ---- they land
abbrev landed_so : Config → ℕ → List Entry → Flight → Direction → Outcome → List Entry
landed_so config seat past x d o = made_by seat (landing past (pager_after config past).page x d o) past

landing_written : (config : Config) (n seat : ℕ) (past : List Entry) (x : Flight) (d : Direction) (o : Outcome) → IsWellFormed config → n ≤ length past → AreClear past (pager_after config past)
    → IsRun config (landed_so config seat past x d o) → WritesTo config n past (landed_so config seat past x d o) 0
landing_written config n seat past x writing went_well formed within clear run =
    let row = run.1.row in
    subst (λ (y : Option Flight). IsWritten n past (landed_so config seat past x writing went_well) (pager_after config past) (after_out_ok (pager_after config past) x.frame y) 0) (sym row.lands.open_k)
    (well_written config n past (pager_after config past) seat x.start x.frame (run_kept config past formed run.0) within clear row.flight row.lands.open_k row.lands.frame)
landing_written config n seat past x writing (went_badly m) formed within clear run =
    let row = run.1.row.write in
    subst (λ (y : Option Flight). IsWritten n past (landed_so config seat past x writing (went_badly m)) (pager_after config past) (after_out_ok (marked (pager_after config past) x.frame) x.frame y) 0) (sym row.lands.open_k)
    (badly_written config n past (pager_after config past) seat x.start x.frame (run_kept config past formed run.0) within clear row.flight row.lands.open_k row.lands.frame (last_count x.block past) m)
landing_written config n seat past x (reading r) went_well formed within clear run = not_read config past x.start run.1.row.flight run.1.row.role clear run.1.row.lands.open_k run.1.row.reads
landing_written config n seat past x (reading r) (went_badly m) formed within clear run =
    let failed = run_before config seat (reuse_of x.frame ((pager_after config past).page x.frame)) (by_seat seat (what.InFail (pfn x.frame) x.start (last_count x.block past) m) ∷ past) run in
    not_read config past x.start failed.1.row.flight failed.1.row.role clear failed.1.row.lands.open_k failed.1.row.reads

landed_written : (config : Config) (n seat : ℕ) (flights : List Flight) (outcomes : List Outcome) (past : List Entry) → IsWellFormed config → n ≤ length past → AreClear past (pager_after config past)
    → IsRun config (landed_by config seat flights outcomes past) → WritesTo config n past (landed_by config seat flights outcomes past) 0
landed_written config n seat [] outcomes past formed within clear run = written_same config n past
landed_written config n seat (x ∷ flights) [] past formed within clear run = written_same config n past
landed_written config n seat (x ∷ flights) (o ∷ outcomes) past formed within clear run =
    let now : List Entry = landed_so config seat past x x.direction o in
    let ran = run_landed config seat flights outcomes now run in
    let first = landing_written config n seat past x x.direction o formed within clear ran in
    written_then config n past now (landed_by config seat flights outcomes now) 0 0 0 (omega arith) first
    (landed_written config n seat flights outcomes now formed (let longer = first.longer in omega (arith, within, longer)) (landing_no_higher config seat past x o formed clear ran).clear run)

-- ---- a whole cluster
pub cluster_written : (config : Config) (n seat : ℕ) (ws : List What) (outcomes : List Outcome) (past : List Entry) → IsWellFormed config → n ≤ length past → open_flights past ≡ [] → AreListOuts ws
    → IsRun config (landed_by config seat (carrier_of seat (made_by seat ws past)) outcomes (made_by seat ws past))
    → WritesTo config n past (landed_by config seat (carrier_of seat (made_by seat ws past)) outcomes (made_by seat ws past)) (length ws)
cluster_written config n seat ws outcomes past formed within none outs run =
    let begun : List Entry = made_by seat ws past in
    let ran = run_landed config seat (carrier_of seat begun) outcomes begun run in
    let first = begun_written config n seat ws past formed within outs ran in
    let clear = (writes_begun config seat ws past formed (subst (AllByRecursion (IsClear (pager_after config past))) (sym none) tt) outs ran).clear in
    written_then config n past begun (landed_by config seat (carrier_of seat begun) outcomes begun) (length ws) 0 (length ws) (omega arith) first
    (landed_written config n seat (carrier_of seat begun) outcomes begun formed (let longer = first.longer in omega (arith, within, longer)) clear run)
