-- What the entries of a carrier leave as they were, and how the pages in a coming process's swap blocks grow fewer.
use Rattle.std.proofs.Common.{◌≡◌, inl, inr, ℕ, ◌<◌, ◌≤◌, ◌&&◌, Bool, true, false, not, cond, List, [], ◌∷◌, Option, Some, None, length, find, count_by, nat_eq, refl, sym, ap, ◌∙◌, subst, arith}
use Rattle.std.specs.List.{AllByRecursion}
use Rattle.std.proofs.lemmas.Bool.{eqb-true, false≢true, true≢false}
use Rattle.vm_types.specs.Configuration.{IsWellFormed}
use Rattle.vm_types.specs.Same.{same_page}
use Rattle.vm_types.specs.declared.names.Addr.{Addr}
use Rattle.vm_types.specs.declared.names.Page.{Page}
use Rattle.vm_types.specs.declared.names.BlockId.{BlockId}
use Rattle.vm_types.specs.declared.names.BlockId.TheVariants as block
use Rattle.vm_types.specs.declared.config.Config.{Config}
use Rattle.vm_journal.specs.declared.entry.Entry.{Entry}
use Rattle.vm_journal.specs.declared.entry.Role.TheVariants as role
use Rattle.vm_journal.specs.declared.entry.What.{What}
use Rattle.vm_journal.specs.declared.entry.What.TheVariants as what
use Rattle.pager_model.specs.Around.{entry_view, past_view, page_view, process_view}
use Rattle.pager_model.specs.Changes.{is_section_block, lies_nowhere, without_page}
use Rattle.pager_model.specs.Counted.{last_count}
use Rattle.pager_model.specs.Flights.{Direction, Flight, failed_flight, is_reading, open_flights, reading, without_flight, writing}
use Rattle.pager_policy.specs.Given.{by_seat, made_by}
use Rattle.pager_model.specs.Maps.{pfn, is_private, proc}
use Rattle.pager_model.specs.InOk.{IsInOk, after_in_ok, after_read}
use Rattle.pager_policy.specs.Landings.{Outcome, all_bad, landed_by, landing, reuse_of, went_badly, went_well}
use Rattle.pager_model.specs.Out.{after_any_out}
use Rattle.pager_model.specs.OutLanding.{after_out_ok, marked}
use Rattle.pager_model.specs.Pager.{Pager}
use Rattle.pager_model.specs.Reuse.{charged_reused}
use Rattle.pager_model.specs.Run.{IsRun, pager_after}
use Rattle.pager_model.specs.Sets.{at_page}
use Rattle.pager_model.specs.Step.{after_what}
use Rattle.pager_model.specs.Transfers.{starts}
use Rattle.pager_rules.proofs.Basics.{nat_eq_refl, pages_equal}
use Rattle.pager_rules.proofs.Lists.{all_filter, all_found, count_filter_le, found_one, found_passes}
use Rattle.pager_rules.proofs.Pages.{is_of_private, private_is_paged}
use Rattle.pager_rules.specs.Kept.{FitsDirection, FitsFlight, FitsRead, IsKept, views}
use Rattle.pager_laws.proofs.RunsAreSound.{run_kept}
use Rattle.serial_laws.proofs.Counting.{each_is}
use Rattle.policy_ends.specs.Rank.{lies_in_swap, swapped_out}
use Rattle.policy_ends.proofs.Order.{less_pass}
use Rattle.policy_ends.proofs.WriteCarriers.{run_landed}

-- ---- no transfer changes a status or counts a reference
abbrev pub is_transfer : What → Bool
is_transfer (what.Reuse f g) = true
is_transfer (what.In f b r) = true
is_transfer (what.Out f b) = true
is_transfer (what.InOk f k) = true
is_transfer (what.InFail f k c d) = true
is_transfer (what.OutOk f k) = true
is_transfer (what.OutFail f k c d) = true
is_transfer other = false

pub record IsAsBefore (a b : Pager) : Type 0 where
  pub status : b.status ≡ a.status
  pub references : b.references ≡ a.references

same_state : (a : Pager) → IsAsBefore a a
same_state a = record { status = refl; references = refl }

before_then : (a b c : Pager) → IsAsBefore a b → IsAsBefore b c → IsAsBefore a c
before_then a b c first rest = record { status = rest.status ∙ first.status; references = rest.references ∙ first.references }

in_ok_before : (a : Pager) (f : ℕ) (o : Option Flight) → IsAsBefore a (after_in_ok a f o)
in_ok_before a f None = same_state a
in_ok_before a f (Some x) = by x.direction
  where
    by : (d : Direction) → IsAsBefore a (after_in_ok a f (Some (record x { direction = d })))
    by (reading (role.Fault q address)) = record { status = refl; references = refl }
    by (reading (role.Near g)) = record { status = refl; references = refl }
    by (reading (role.Come q address)) = record { status = refl; references = refl }
    by writing = same_state a

out_before : (a : Pager) (f : ℕ) (b : BlockId) → IsAsBefore a (after_any_out a f b)
out_before a f (block.Swap p n) = record { status = refl; references = refl }
out_before a f other = record { status = refl; references = refl }

out_ok_before : (a : Pager) (f : ℕ) (o : Option Flight) → IsAsBefore a (after_out_ok a f o)
out_ok_before a f None = same_state a
out_ok_before a f (Some x) = record { status = refl; references = refl }

out_fail_before : (a : Pager) (f : ℕ) (o : Option Flight) → IsAsBefore a (after_out_ok (marked a f) f o)
out_fail_before a f None = record { status = refl; references = refl }
out_fail_before a f (Some x) = record { status = refl; references = refl }

transfer_before : (config : Config) (past : List Entry) (a : Pager) (seat : ℕ) (w : What) → is_transfer w ≡ true → IsAsBefore a (after_what config past a seat w)
transfer_before config past a seat (what.Reuse f g) is = record { status = refl; references = refl }
transfer_before config past a seat (what.In f b (role.Fault q address)) is = record { status = refl; references = refl }
transfer_before config past a seat (what.In f b (role.Near g)) is = record { status = refl; references = refl }
transfer_before config past a seat (what.In f b (role.Come q address)) is = record { status = refl; references = refl }
transfer_before config past a seat (what.Out f b) is = out_before a f.0 b
transfer_before config past a seat (what.InOk f k) is = in_ok_before a f.0 (find (starts k) (open_flights past))
transfer_before config past a seat (what.InFail f k c d) is = record { status = refl; references = refl }
transfer_before config past a seat (what.OutOk f k) is = out_ok_before a f.0 (find (starts k) (open_flights past))
transfer_before config past a seat (what.OutFail f k c d) is = out_fail_before a f.0 (find (starts k) (open_flights past))
transfer_before config past a seat other is = absurd (false≢true is)

pub made_before : (config : Config) (seat : ℕ) (ws : List What) (past : List Entry) → AllByRecursion (λ (w : What). is_transfer w ≡ true) ws
    → IsAsBefore (pager_after config past) (pager_after config (made_by seat ws past))
made_before config seat [] past each = same_state (pager_after config past)
made_before config seat (w ∷ ws) past each =
    before_then (pager_after config past) (pager_after config (by_seat seat w ∷ past)) (pager_after config (made_by seat ws (by_seat seat w ∷ past)))
    (transfer_before config past (pager_after config past) seat w each.0) (made_before config seat ws (by_seat seat w ∷ past) each.1)

pub landing_transfers : (past : List Entry) (page : ℕ → Option Page) (x : Flight) (d : Direction) (o : Outcome) → AllByRecursion (λ (w : What). is_transfer w ≡ true) (landing past page x d o)
landing_transfers past page x (reading r) went_well = (refl, tt)
landing_transfers past page x (reading r) (went_badly n) = (refl, by (page x.frame))
  where
    by : (o : Option Page) → AllByRecursion (λ (w : What). is_transfer w ≡ true) (reuse_of x.frame o)
    by None = tt
    by (Some g) = (refl, tt)
landing_transfers past page x writing went_well = (refl, tt)
landing_transfers past page x writing (went_badly n) = (refl, tt)

pub landed_before : (config : Config) (seat : ℕ) (flights : List Flight) (outcomes : List Outcome) (past : List Entry)
    → IsAsBefore (pager_after config past) (pager_after config (landed_by config seat flights outcomes past))
landed_before config seat [] outcomes past = same_state (pager_after config past)
landed_before config seat (x ∷ flights) [] past = same_state (pager_after config past)
landed_before config seat (x ∷ flights) (o ∷ outcomes) past =
    let ws = landing past (pager_after config past).page x x.direction o in
    before_then (pager_after config past) (pager_after config (made_by seat ws past)) (pager_after config (landed_by config seat flights outcomes (made_by seat ws past)))
    (made_before config seat ws past (landing_transfers past (pager_after config past).page x x.direction o)) (landed_before config seat flights outcomes (made_by seat ws past))

-- ---- a page that lies nowhere any more
nowhere_each : (p : ℕ) (lies : Page → Option BlockId) (g h : Page) → lies_in_swap p (at_page lies g None h) ≡ true → lies_in_swap p (lies h) ≡ true
nowhere_each p lies g h = by (same_page g h)
  where
    by : (c : Bool) → lies_in_swap p (cond c None (lies h)) ≡ true → lies_in_swap p (lies h) ≡ true
    by true is = absurd (false≢true is)
    by false is = is

pub nowhere_less : (config : Config) (past : List Entry) (a : Pager) (p n : ℕ) (g : Page) → IsKept config (past_view past) a → a.lies g ≡ Some (block.Swap (proc p) n)
    → count_by (λ (h : Page). lies_in_swap p (at_page a.lies g None h)) a.charged < swapped_out a p
nowhere_less config past a p n g kept lies =
    less_pass (λ (h : Page). lies_in_swap p (at_page a.lies g None h)) (λ (h : Page). lies_in_swap p (a.lies h)) a.charged (each_is _ (nowhere_each p a.lies g) a.charged) (same_page g) found.0 found.1
    (ap (λ (c : Bool). lies_in_swap p (cond c None (a.lies found.0))) same)
    (ap (λ (h : Page). lies_in_swap p (a.lies h)) (sym (pages_equal g found.0 same)) ∙ (ap (lies_in_swap p) lies ∙ nat_eq_refl p))
  where
    found : (h : Page) × (find (same_page g) a.charged ≡ Some h)
    found = found_one (same_page g) a.charged (let one = (kept.pages g).lying (block.Swap (proc p) n) (private_is_paged config g (is_of_private p g (kept.swapped g p n lies).own)) lies in omega (arith, one))

    same : same_page g found.0 ≡ true
    same = found_passes (same_page g) a.charged found.0 found.1

-- ---- a carrier that reads pages of the coming process
abbrev pub IsComeOf : ℕ → Flight → Type 0
IsComeOf p x = (at : Addr) × (x.direction ≡ reading (role.Come (proc p) at))

abbrev pub AreOfComing : ℕ → List Entry → Type 0
AreOfComing p past = AllByRecursion (IsComeOf p) (open_flights past)

abbrev pub left : Config → List Entry → ℕ → ℕ
left config past p = swapped_out (pager_after config past) p

record ComesOn (config : Config) (p : ℕ) (past more : List Entry) : Type 0 where
  fewer : left config more p ≤ left config past p
  coming : AreOfComing p more

on_then : (config : Config) (p : ℕ) (past middle more : List Entry) → ComesOn config p past middle → ComesOn config p middle more → ComesOn config p past more
on_then config p past middle more first rest = record { fewer = (let one = first.fewer in let other = rest.fewer in omega (arith, one, other)); coming = rest.coming }

-- the entries that begin it
abbrev pub is_come_entry : ℕ → What → Bool
is_come_entry p (what.Reuse f g) = true
is_come_entry p (what.In f b (role.Come q at)) = nat_eq q.0 p
is_come_entry p other = false

reused_fewer : (t : Page → Bool) (o : Option Flight) (g : Page) (charged : List Page) → count_by t (charged_reused o g charged) ≤ count_by t charged
reused_fewer t None g charged = omega arith
reused_fewer t (Some x) g charged = by (is_private g && is_section_block x.block)
  where
    by : (c : Bool) → count_by t (cond c (without_page charged g) charged) ≤ count_by t charged
    by true = count_filter_le t (λ (h : Page). not (same_page g h)) charged
    by false = omega arith

reuse_on : (config : Config) (p : ℕ) (past : List Entry) (seat f : ℕ) (g : Page) → AreOfComing p past → ComesOn config p past (by_seat seat (what.Reuse (pfn f) g) ∷ past)
reuse_on config p past seat f g each = record { fewer = reused_fewer (λ (h : Page). lies_in_swap p ((pager_after config past).lies h)) (failed_flight past) g (pager_after config past).charged; coming = each }

begins_on : (config : Config) (p seat : ℕ) (w : What) (past : List Entry) → is_come_entry p w ≡ true → AreOfComing p past → ComesOn config p past (by_seat seat w ∷ past)
begins_on config p seat (what.Reuse f g) past is each = reuse_on config p past seat f.0 g each
begins_on config p seat (what.In f b (role.Come q at)) past is each = record { fewer = omega arith; coming = ((at, ap (λ (n : ℕ). reading (role.Come (proc n) at)) (eqb-true q.0 p is)), each) }
begins_on config p seat (what.In f b (role.Fault q at)) past is each = absurd (false≢true is)
begins_on config p seat (what.In f b (role.Near g)) past is each = absurd (false≢true is)
begins_on config p seat other past is each = absurd (false≢true is)

made_on : (config : Config) (p seat : ℕ) (ws : List What) (past : List Entry) → AllByRecursion (λ (w : What). is_come_entry p w ≡ true) ws → AreOfComing p past
    → ComesOn config p past (made_by seat ws past)
made_on config p seat [] past each coming = record { fewer = omega arith; coming = coming }
made_on config p seat (w ∷ ws) past each coming =
    let first = begins_on config p seat w past each.0 coming in
    on_then config p past (by_seat seat w ∷ past) (made_by seat ws (by_seat seat w ∷ past)) first (made_on config p seat ws (by_seat seat w ∷ past) each.1 first.coming)

-- ---- a read lands
come_flight : (config : Config) (past : List Entry) (p k : ℕ) (x : Flight) → AreOfComing p past → find (starts k) (open_flights past) ≡ Some x → IsComeOf p x
come_flight config past p k x each found = all_found (IsComeOf p) (starts k) (open_flights past) x each found

-- it lands well: its page lies nowhere any more
module _ (config : Config) (past : List Entry) (p seat f k : ℕ) (formed : IsWellFormed config) (each : AreOfComing p past) (ran : IsRun config past) (row : IsInOk past seat f k) where
  abbrev a : Pager
  a = pager_after config past

  abbrev x : Flight
  x = row.flight

  kept : IsKept config (past_view past) a
  kept = run_kept config past formed ran

  come : IsComeOf p x
  come = come_flight config past p k x each row.lands.open_k

  fit : FitsFlight (views config a) x
  fit = all_found (FitsFlight (views config a)) (starts k) (open_flights past) x kept.transfers row.lands.open_k

  fits : FitsDirection x fit.page (page_view config a fit.page) (process_view config a) (entry_view config a) (reading (role.Come (proc p) come.0))
  fits = subst (FitsDirection x fit.page (page_view config a fit.page) (process_view config a) (entry_view config a)) come.1 fit.fits

  lying : a.lies fit.page ≡ Some (block.Swap (proc p) (fits.1.2).0)
  lying = by fits.0 ∙ ap Some (fits.1.2).1
    where
      by : FitsRead x (role.Come (proc p) come.0) fit.page (page_view config a fit.page) → a.lies fit.page ≡ Some x.block
      by (inl lies) = lies
      by (inr first) = absurd (false≢true first.fault)

  pub well_less : left config (by_seat seat (what.InOk (pfn f) k) ∷ past) p < left config past p
  well_less =
      let less = nowhere_less config past a p (fits.1.2).0 fit.page kept lying in
      let now : swapped_out (after_in_ok a f (find (starts k) (open_flights past))) p ≡ count_by (λ (h : Page). lies_in_swap p (at_page a.lies fit.page None h)) a.charged =
      ap (λ (o : Option Flight). swapped_out (after_in_ok a f o) p) row.lands.open_k
      ∙
      (ap (λ (d : Direction). swapped_out (after_read a f x.block d) p) come.1 ∙ ap (λ (o : Option Page). count_by (λ (h : Page). lies_in_swap p (lies_nowhere a.lies o h)) a.charged) (ap a.page (sym row.lands.frame) ∙ fit.held)) in
      omega (arith, less, now)

fewer_coming : (p k : ℕ) (past : List Entry) → AreOfComing p past → AllByRecursion (IsComeOf p) (without_flight k (open_flights past))
fewer_coming p k past each = all_filter (IsComeOf p) (λ (y : Flight). not (starts k y)) (open_flights past) each

not_write : {X : Type 0} (config : Config) (past : List Entry) (p k : ℕ) (x : Flight) → AreOfComing p past → find (starts k) (open_flights past) ≡ Some x → x.direction ≡ writing → X
not_write config past p k x each found is = let come = come_flight config past p k x each found in absurd (true≢false (sym (ap is_reading come.1) ∙ ap is_reading is))

abbrev landed_one : Config → ℕ → List Entry → Flight → Outcome → List Entry
landed_one config seat past x o = made_by seat (landing past (pager_after config past).page x x.direction o) past

landing_on : (config : Config) (p seat : ℕ) (past : List Entry) (x : Flight) (o : Outcome) → IsWellFormed config → AreOfComing p past → IsRun config (landed_one config seat past x o)
    → ComesOn config p past (landed_one config seat past x o)
landing_on config p seat past x o formed each run = by x.direction o run
  where
    reused : (c d : ℕ) (o : Option Page) → ComesOn config p past (made_by seat (reuse_of x.frame o) (by_seat seat (what.InFail (pfn x.frame) x.start c d) ∷ past))
    reused c d None = record { fewer = omega arith; coming = fewer_coming p x.start past each }
    reused c d (Some g) =
        let failed : List Entry = by_seat seat (what.InFail (pfn x.frame) x.start c d) ∷ past in
        on_then config p past failed (by_seat seat (what.Reuse (pfn x.frame) g) ∷ failed) (record { fewer = omega arith; coming = fewer_coming p x.start past each })
        (reuse_on config p failed seat x.frame g (fewer_coming p x.start past each))

    by : (d : Direction) (o : Outcome) → IsRun config (made_by seat (landing past (pager_after config past).page x d o) past)
        → ComesOn config p past (made_by seat (landing past (pager_after config past).page x d o) past)
    by (reading r) went_well ran = record { fewer = (let less = well_less config past p seat x.frame x.start formed each ran.0 ran.1.row in omega (arith, less)); coming = fewer_coming p x.start past each }
    by (reading r) (went_badly n) ran = reused (last_count x.block past) n ((pager_after config past).page x.frame)
    by writing went_well ran = not_write config past p x.start ran.1.row.flight each ran.1.row.lands.open_k ran.1.row.writes
    by writing (went_badly n) ran = not_write config past p x.start ran.1.row.write.flight each ran.1.row.write.lands.open_k ran.1.row.write.writes

landing_well : (config : Config) (p seat : ℕ) (past : List Entry) (x : Flight) → IsWellFormed config → AreOfComing p past → IsRun config (landed_one config seat past x went_well)
    → left config (landed_one config seat past x went_well) p < left config past p
landing_well config p seat past x formed each run = by x.direction run
  where
    by : (d : Direction) → IsRun config (made_by seat (landing past (pager_after config past).page x d went_well) past)
        → left config (made_by seat (landing past (pager_after config past).page x d went_well) past) p < left config past p
    by (reading r) ran = well_less config past p seat x.frame x.start formed each ran.0 ran.1.row
    by writing ran = not_write config past p x.start ran.1.row.flight each ran.1.row.lands.open_k ran.1.row.writes

-- ---- all of them land
landed_on : (config : Config) (p seat : ℕ) (flights : List Flight) (outcomes : List Outcome) (past : List Entry) → IsWellFormed config → AreOfComing p past
    → IsRun config (landed_by config seat flights outcomes past) → ComesOn config p past (landed_by config seat flights outcomes past)
landed_on config p seat [] outcomes past formed each run = record { fewer = omega arith; coming = each }
landed_on config p seat (x ∷ flights) [] past formed each run = record { fewer = omega arith; coming = each }
landed_on config p seat (x ∷ flights) (o ∷ outcomes) past formed each run =
    let now : List Entry = landed_one config seat past x o in
    let first = landing_on config p seat past x o formed each (run_landed config seat flights outcomes now run) in
    on_then config p past now (landed_by config seat flights outcomes now) first (landed_on config p seat flights outcomes now formed first.coming run)

landed_less : (config : Config) (p seat : ℕ) (flights : List Flight) (outcomes : List Outcome) (past : List Entry) → IsWellFormed config → AreOfComing p past → length outcomes ≡ length flights
    → all_bad outcomes ≡ false → IsRun config (landed_by config seat flights outcomes past)
    → left config (landed_by config seat flights outcomes past) p < left config past p
landed_less config p seat flights [] past formed each same good run = absurd (true≢false good)
landed_less config p seat [] (o ∷ outcomes) past formed each same good run = absurd (omega (arith, same))
landed_less config p seat (x ∷ flights) (went_well ∷ outcomes) past formed each same good run =
    let now : List Entry = landed_one config seat past x went_well in
    let ran = run_landed config seat flights outcomes now run in
    let first = landing_on config p seat past x went_well formed each ran in
    let less = landing_well config p seat past x formed each ran in
    let rest = (landed_on config p seat flights outcomes now formed first.coming run).fewer in
    omega (arith, less, rest)
landed_less config p seat (x ∷ flights) (went_badly n ∷ outcomes) past formed each same good run =
    let now : List Entry = landed_one config seat past x (went_badly n) in
    let first = landing_on config p seat past x (went_badly n) formed each (run_landed config seat flights outcomes now run) in
    let fewer = first.fewer in
    let less = landed_less config p seat flights outcomes now formed first.coming (omega (arith, same)) good run in
    omega (arith, less, fewer)

-- a carrier of a coming process's pages, unless all its reads failed
pub come_less : (config : Config) (p seat : ℕ) (ws : List What) (flights : List Flight) (outcomes : List Outcome) (past : List Entry) → IsWellFormed config → open_flights past ≡ []
    → AllByRecursion (λ (w : What). is_come_entry p w ≡ true) ws → length outcomes ≡ length flights → all_bad outcomes ≡ false
    → IsRun config (landed_by config seat flights outcomes (made_by seat ws past)) → left config (landed_by config seat flights outcomes (made_by seat ws past)) p < left config past p
come_less config p seat ws flights outcomes past formed none each same good run =
    let first = made_on config p seat ws past each (subst (AllByRecursion (IsComeOf p)) (sym none) tt) in
    let fewer = first.fewer in
    let less = landed_less config p seat flights outcomes (made_by seat ws past) formed first.coming same good run in
    omega (arith, less, fewer)
