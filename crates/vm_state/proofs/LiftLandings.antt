-- A lift that may land lands by a legal entry, which is paid for; and every other lift that may land still may.
use Rattle.std.proofs.Common.{◌≡◌, ℕ, ◌+◌, ◌-◌, ◌*◌, ◌^◌, ◌≤◌, ◌<◌, Bool, true, false, List, [], ◌∷◌, Option, Some, None, find, length, nat_eq, if◌then◌else◌, refl, sym, ap, ◌∙◌, subst, inl, inr, arith}
use Rattle.std.proofs.lemmas.Bool.{and_from, eq-eqb, eqb-false, eqb-true, ne_eqb, true≢false}
use Rattle.std.proofs.lemmas.Option.{none-some, same_Some, slice_get_within}
use Rattle.vm_types.specs.BlockView.{BlockView, Tells}
use Rattle.vm_types.specs.Configuration.{IsWellFormed}
use Rattle.vm_types.specs.declared.config.Config.{Config}
use Rattle.vm_types.specs.declared.names.Page.{Page}
use Rattle.vm_types.specs.declared.names.Page.TheVariants.{Private, Shared}
use Rattle.vm_types.specs.declared.names.Seat.{Seat}
use Rattle.vm_text.specs.Named.{IsNamedPage}
use Rattle.vm_journal.specs.declared.entry.Entry.{Entry}
use Rattle.vm_journal.specs.declared.entry.What.{What}
use Rattle.vm_journal.specs.declared.entry.What.TheVariants as what
use Rattle.pager_laws.proofs.InFailKept.{begun_open}
use Rattle.pager_laws.proofs.OfConfigKept.{run_right}
use Rattle.pager_laws.proofs.RunsAreSound.{run_kept}
use Rattle.pager_model.specs.Around.{past_view}
use Rattle.pager_model.specs.Fits.{lands}
use Rattle.pager_model.specs.Flights.{Flight, awaits_reuse, begun_by, begun_in, fails_read, open_flights, without_flight}
use Rattle.pager_model.specs.Maps.{pfn}
use Rattle.pager_model.specs.InTurn.{InTurn, is_flight_work, is_reuse_of}
use Rattle.pager_model.specs.OfConfig.{IsMappable, IsPageOf}
use Rattle.pager_model.specs.Pager.{Pager}
use Rattle.pager_model.specs.Run.{IsRun, pager_after}
use Rattle.pager_model.specs.Step.{IsLegal}
use Rattle.pager_model.specs.Transfers.{starts}
use Rattle.pager_rules.proofs.Lists.{all_found, count_found, found_passes}
use Rattle.pager_rules.proofs.Quiet.{starts_by, starts_once}
use Rattle.content_laws.proofs.AtHome.{holder_inside}
use Rattle.content_laws.proofs.LiftLands.{in_fail_legal, in_ok_legal, out_fail_legal, out_ok_legal}
use Rattle.content_laws.proofs.LiftsStay.{lifts_stay}
use Rattle.frame_store.specs.LiftView.{LiftView}
use Rattle.frame_store.specs.declared.lift.Carried.{Carried}
use Rattle.frame_store.specs.declared.lift.Carried.TheVariants.{Good, Bad}
use Rattle.pager_laws.proofs.SectionNumbers.{number_within}
use Rattle.vm_state.specs.History.{History, MayAdd, added, entry_by, owed, pager}
use Rattle.vm_state.specs.Landings.{ended_as, landing_of}
use Rattle.lift_carriers.specs.LiftsFit.{LiftFits, lift_seen, result_of}
use Rattle.vm_state.specs.LiftsLand.{HasLanded, MayLand, added_each, reuse_after}
use Rattle.vm_state.proofs.SeatFlights.{of_seats, parted}

-- what a state keeps of its history
pub record Stands (s : History) : Type 0 where
  pub formed : IsWellFormed s.config
  pub run : IsRun s.config s.past
  pub short : length s.past + s.spare ≤ 2 ^ 48
  pub paid : owed s.past ≤ s.spare

-- an open flight is the same one after any entry
one_flight : (e : Entry) (past : List Entry) (k : ℕ) (x y : Flight) → find (starts k) (open_flights past) ≡ Some x → find (starts k) (open_flights (e ∷ past)) ≡ Some y → y ≡ x
one_flight e past k x y was now =
    let small = all_found (λ (z : Flight). z.start ≤ length past) (starts k) (open_flights past) x (starts_by past) was in
    let start : x.start ≡ k = eqb-true x.start k (found_passes (starts k) (open_flights past) x was) in
    let older : nat_eq k (length past + 1) ≡ false = ne_eqb k (length past + 1) (λ same. omega (arith, small, start, same)) in
    same_Some _ _ (sym (begun_open (e ∷ past) k y now) ∙ (ap (λ (b : Bool). if b then begun_by k (e.seat).0 e.what else begun_in k past) older ∙ begun_open past k x was))

-- the page has a name in lines
named_page : (config : Config) → IsWellFormed config → (g : Page) → IsPageOf config g → IsNamedPage (length config.procs) config.sections g
named_page config formed (Private p v) of = (of.0, small of.1)
  where
    small : IsMappable v → v < 2 ^ 23
    small (inl low) = omega (arith, low)
    small (inr high) = let below = high.1 in omega (arith, below)
named_page config formed (Shared s i) of =
    let few = formed.sections.few in
    let there = slice_get_within config.sections s.0 of.0.0 of.0.1 in
    let number = number_within config s.0 i of.0 in
    let most = formed.sections.pages in
    (record { there = there; small = omega (arith, few, there) }, omega (arith, number, most))

module _ {B : Type 0} (seen : B → BlockView) (tells : Tells) where
  abbrev Fits : Config → List Entry → LiftView B → Type 0
  Fits config past lift = LiftFits seen tells config past lift

  abbrev May : History → Seat → LiftView B → Type 0
  May s seat lift = MayLand seen tells s seat lift

  found : (config : Config) (past : List Entry) (lift : LiftView B) (fits : Fits config past lift) → find (starts lift.start) (open_flights past) ≡ Some fits.0
  found config past lift fits = subst (λ (j : ℕ). find (starts j) (open_flights past) ≡ Some fits.0) ((fits.1).flight).start (fits.1).found_x

  -- a lift that may land still may after an entry that doesn't land it
  stays : (s : History) (e : Entry) (seat : Seat) (lift : LiftView B) → IsWellFormed s.config → IsRun s.config (e ∷ s.past) → lands lift.start e.what ≡ false → May s seat lift → May (added s e) seat lift
  stays s e seat lift formed run other may =
      let later : Fits s.config (e ∷ s.past) lift = lifts_stay tells.content tells.plan s.config s.past e (lift_seen seen lift) formed run other may.fits in
      record {
        carried = may.carried;
        fits = later;
        own = ap (λ (x : Flight). x.seat) (one_flight e s.past lift.start may.fits.0 later.0 (found s.config s.past lift may.fits) (found s.config (e ∷ s.past) lift later)) ∙ may.own;
        pool = may.pool;
      }

  module _ (s : History) (stands : Stands s) (seat : Seat) (lift : LiftView B) (calm : awaits_reuse s.past ≡ false) (may : May s seat lift) where
    abbrev a : Pager
    a = pager s

    abbrev x : Flight
    x = may.fits.0

    open_x : find (starts lift.start) (open_flights s.past) ≡ Some x
    open_x = found s.config s.past lift may.fits

    holds : a.page lift.frame ≡ Some lift.page
    holds = subst (λ (f : ℕ). a.page f ≡ Some lift.page) ((may.fits.1).flight).frame (may.fits.1).held_page

    -- ---- what a line asks
    there : seat.0 ≤ length s.config.procs + 1
    there =
        let below = all_found (λ (y : Flight). y.seat < length s.config.procs + 2) (starts lift.start) (open_flights s.past) x (of_seats s.config s.past stands.run) open_x in
        let own = may.own in
        omega (arith, below, own)

    frame_small : lift.frame < 2 ^ 32
    frame_small =
        let within = holder_inside s.config (past_view s.past) a lift.frame lift.page (run_kept s.config s.past stands.formed stands.run) holds in
        let most = stands.formed.frames.1 in
        omega (arith, within, most)

    start_small : lift.start < 2 ^ 64
    start_small =
        let before = all_found (λ (y : Flight). y.start ≤ length s.past) (starts lift.start) (open_flights s.past) x (starts_by s.past) open_x in
        let start = ((may.fits.1).flight).start in
        let short = stands.short in
        omega (arith, before, start, short)

    -- ---- the landing is legal
    turn : (w : What) → begun_by (length s.past + 1) seat.0 w ≡ None → is_flight_work w ≡ true → InTurn s.config s.past (entry_by seat w)
    turn w none work = record {
      reuse = λ awaits. absurd (true≢false (sym awaits ∙ calm));
      work = λ busy. work;
      carrier = λ y begun busy. absurd (none-some y (sym none ∙ begun));
    }

    abbrev Legal : What → Type 0
    Legal w = IsLegal s.config s.past a (entry_by seat w)

    named : (b : Bool) (r : Carried) → lift.is_read ≡ b → lift.result ≡ r → landing_of lift ≡ ended_as b lift.frame lift.start r
    named b r reads result = λ i. ended_as (reads i) lift.frame lift.start (result i)

    in_ok : lift.is_read ≡ true → Legal (what.InOk (pfn lift.frame) lift.start)
    in_ok is = record {
      in_turn = turn (what.InOk (pfn lift.frame) lift.start) refl refl;
      line = record { seat = there; what = (frame_small, start_small) };
      row = in_ok_legal tells.content tells.plan s.config s.past a (lift_seen seen lift) may.fits seat.0 may.own is;
    }

    out_ok : lift.is_read ≡ false → Legal (what.OutOk (pfn lift.frame) lift.start)
    out_ok is = record {
      in_turn = turn (what.OutOk (pfn lift.frame) lift.start) refl refl;
      line = record { seat = there; what = (frame_small, start_small) };
      row = out_ok_legal tells.content tells.plan s.config s.past a (lift_seen seen lift) may.fits seat.0 may.own is;
    }

    in_fail : (c d : ℕ) → c < 2 ^ 64 → d < 2 ^ 64 → lift.is_read ≡ true → lift.result ≡ Bad c d → Legal (what.InFail (pfn lift.frame) lift.start c d)
    in_fail c d c_small d_small is bad = record {
      in_turn = turn (what.InFail (pfn lift.frame) lift.start c d) refl refl;
      line = record { seat = there; what = (frame_small, start_small, c_small, d_small) };
      row = in_fail_legal tells.content tells.plan s.config s.past a (lift_seen seen lift) may.fits seat.0 may.own c d is (ap result_of bad);
    }

    out_fail : (c d : ℕ) → c < 2 ^ 64 → d < 2 ^ 64 → lift.is_read ≡ false → lift.result ≡ Bad c d → Legal (what.OutFail (pfn lift.frame) lift.start c d)
    out_fail c d c_small d_small is bad = record {
      in_turn = turn (what.OutFail (pfn lift.frame) lift.start c d) refl refl;
      line = record { seat = there; what = (frame_small, start_small, c_small, d_small) };
      row = out_fail_legal tells.content tells.plan s.config s.past a (lift_seen seen lift) may.fits seat.0 may.own c d is (ap result_of bad);
    }

    -- ---- and paid for
    one_fewer : length (open_flights s.past) ≡ 1 + length (without_flight lift.start (open_flights s.past))
    one_fewer =
        let some = count_found (starts lift.start) (starts lift.start) (open_flights s.past) x open_x (found_passes (starts lift.start) (open_flights s.past) x open_x) in
        let once = starts_once s.past lift.start in
        let whole = parted (starts lift.start) (open_flights s.past) in
        omega (arith, some, once, whole)

    two_left : 2 * length (without_flight lift.start (open_flights s.past)) + 2 ≤ s.spare
    two_left =
        let fewer = one_fewer in
        let due : 2 * length (open_flights s.past) + (if awaits_reuse s.past then 1 else 0) ≤ s.spare = stands.paid in
        let exact : 2 * length (open_flights s.past) + 0 ≤ s.spare = subst (λ (b : Bool). 2 * length (open_flights s.past) + (if b then 1 else 0) ≤ s.spare) calm due in
        omega (arith, fewer, exact)

    -- ---- a lift that has gone well
    abbrev Adds : Type 0
    Adds = MayAdd s (entry_by seat (landing_of lift))

    adds : (w : What) → landing_of lift ≡ w → Legal w → owed (entry_by seat w ∷ s.past) + 1 ≤ s.spare → Adds
    adds w is legal paid = subst (λ (v : What). MayAdd s (entry_by seat v)) (sym is) (record { legal = legal; paid = paid })

    pub adds_in_ok : lift.is_read ≡ true → lift.result ≡ Good → Adds
    adds_in_ok is good = adds (what.InOk (pfn lift.frame) lift.start) (named true Good is good) (in_ok is) (let left = two_left in omega (arith, left))

    pub adds_out_ok : lift.is_read ≡ false → lift.result ≡ Good → Adds
    adds_out_ok is good = adds (what.OutOk (pfn lift.frame) lift.start) (named false Good is good) (out_ok is) (let left = two_left in omega (arith, left))

    pub adds_in_fail : (c d : ℕ) → c < 2 ^ 64 → d < 2 ^ 64 → lift.is_read ≡ true → lift.result ≡ Bad c d → Adds
    adds_in_fail c d c_small d_small is bad = adds (what.InFail (pfn lift.frame) lift.start c d) (named true (Bad c d) is bad) (in_fail c d c_small d_small is bad) (let left = two_left in omega (arith, left))

    pub adds_out_fail : (c d : ℕ) → c < 2 ^ 64 → d < 2 ^ 64 → lift.is_read ≡ false → lift.result ≡ Bad c d → Adds
    adds_out_fail c d c_small d_small is bad = adds (what.OutFail (pfn lift.frame) lift.start c d) (named false (Bad c d) is bad) (out_fail c d c_small d_small is bad) (let left = two_left in omega (arith, left))

    -- ---- what has landed
    apart_too : (other : LiftView B) → nat_eq lift.start other.start ≡ false → nat_eq other.start lift.start ≡ false
    apart_too other apart = ne_eqb other.start lift.start (λ same. eqb-false lift.start other.start apart (sym same))

    abbrev Landed : History → Type 0
    Landed t = HasLanded seen tells seat lift s t

    -- by one entry alone
    alone : (w : What) → landing_of lift ≡ w → fails_read w ≡ false → ((j : ℕ) → lands j w ≡ nat_eq j lift.start) → reuse_after lift.is_read lift.result lift.frame lift.page ≡ [] → Legal w
        → (t : History) → t ≡ added s (entry_by seat (landing_of lift)) → Landed t
    alone w is fails other none legal t t_is =
        let here : t ≡ added s (entry_by seat w) = t_is ∙ ap (λ (v : What). added s (entry_by seat v)) is in
        record {
          now = t_is ∙ sym (ap (λ (ws : List What). added_each seat ws (added s (entry_by seat (landing_of lift)))) none);
          calm = ap (λ (u : History). awaits_reuse u.past) here ∙ fails;
          others = λ o apart may_too. subst (λ (u : History). May u seat o) (sym here) (stays s (entry_by seat w) seat o stands.formed (stands.run, legal) (other o.start ∙ apart_too o apart) may_too);
        }

    nothing_after : (b : Bool) (r : Carried) → lift.is_read ≡ b → lift.result ≡ r → reuse_after b r lift.frame lift.page ≡ [] → reuse_after lift.is_read lift.result lift.frame lift.page ≡ []
    nothing_after b r reads result none = (λ i. reuse_after (reads i) (result i) lift.frame lift.page) ∙ none

    pub landed_in_ok : lift.is_read ≡ true → lift.result ≡ Good → (t : History) → t ≡ added s (entry_by seat (landing_of lift)) → Landed t
    landed_in_ok is good = alone (what.InOk (pfn lift.frame) lift.start) (named true Good is good) refl (λ j. refl) (nothing_after true Good is good refl) (in_ok is)

    pub landed_out_ok : lift.is_read ≡ false → lift.result ≡ Good → (t : History) → t ≡ added s (entry_by seat (landing_of lift)) → Landed t
    landed_out_ok is good = alone (what.OutOk (pfn lift.frame) lift.start) (named false Good is good) refl (λ j. refl) (nothing_after false Good is good refl) (out_ok is)

    pub landed_out_fail : (c d : ℕ) → c < 2 ^ 64 → d < 2 ^ 64 → lift.is_read ≡ false → lift.result ≡ Bad c d → (t : History) → t ≡ added s (entry_by seat (landing_of lift)) → Landed t
    landed_out_fail c d c_small d_small is bad =
        alone (what.OutFail (pfn lift.frame) lift.start c d) (named false (Bad c d) is bad) refl (λ j. refl) (nothing_after false (Bad c d) is bad refl) (out_fail c d c_small d_small is bad)

    -- ---- a failed read's frame is reused
    module _ (c d : ℕ) (c_small : c < 2 ^ 64) (d_small : d < 2 ^ 64) (is : lift.is_read ≡ true) (bad : lift.result ≡ Bad c d) where
      abbrev failed : Entry
      failed = entry_by seat (what.InFail (pfn lift.frame) lift.start c d)

      abbrev reused : Entry
      reused = entry_by seat (what.Reuse (pfn lift.frame) lift.page)

      reuse_legal : IsLegal s.config (failed ∷ s.past) (pager_after s.config (failed ∷ s.past)) reused
      reuse_legal = record {
        in_turn = record {
          reuse = λ awaits. subst (λ (o : Option Flight). is_reuse_of (what.Reuse (pfn lift.frame) lift.page) seat.0 o ≡ true) (sym begun)
              (and_from _ _ (eq-eqb x.seat seat.0 may.own) (eq-eqb x.frame lift.frame ((may.fits.1).flight).frame));
          work = λ busy. refl;
          carrier = λ y none busy. absurd (none-some y none);
        };
        line = record { seat = there; what = (frame_small, named_page s.config stands.formed lift.page ((run_right s.config s.past stands.formed stands.run).held lift.frame lift.page holds)) };
        row = inr (record { flight = x; failed = begun; seat = may.own; frame = ((may.fits.1).flight).frame; holds = holds });
      }
        where
          begun : begun_in lift.start s.past ≡ Some x
          begun = begun_open s.past lift.start x open_x

      failed_is : landing_of lift ≡ what.InFail (pfn lift.frame) lift.start c d
      failed_is = named true (Bad c d) is bad

      pub adds_reuse : (u : History) → u ≡ added s (entry_by seat (landing_of lift)) → MayAdd u reused
      adds_reuse u u_is =
          let here : u ≡ added s failed = u_is ∙ ap (λ (v : What). added s (entry_by seat v)) failed_is in
          subst (λ (v : History). MayAdd v reused) (sym here) (record { legal = reuse_legal; paid = (let left = two_left in omega (arith, left)) })

      pub landed_in_fail : (u t : History) → u ≡ added s (entry_by seat (landing_of lift)) → t ≡ added u reused → Landed t
      landed_in_fail u t u_is t_is =
          let first : u ≡ added s failed = u_is ∙ ap (λ (v : What). added s (entry_by seat v)) failed_is in
          let both : t ≡ added (added s failed) reused = t_is ∙ ap (λ (v : History). added v reused) first in
          let reuses : reuse_after lift.is_read lift.result lift.frame lift.page ≡ what.Reuse (pfn lift.frame) lift.page ∷ [] = λ i. reuse_after (is i) (bad i) lift.frame lift.page in
          record {
            now = (t_is ∙ ap (λ (v : History). added v reused) u_is) ∙ sym (ap (λ (ws : List What). added_each seat ws (added s (entry_by seat (landing_of lift)))) reuses);
            calm = ap (λ (v : History). awaits_reuse v.past) both;
            others = λ o apart may_too. subst (λ (v : History). May v seat o) (sym both)
                (stays (added s failed) reused seat o stands.formed ((stands.run, in_fail c d c_small d_small is bad), reuse_legal) refl
                (stays s failed seat o stands.formed (stands.run, in_fail c d c_small d_small is bad) (apart_too o apart) may_too));
          }
