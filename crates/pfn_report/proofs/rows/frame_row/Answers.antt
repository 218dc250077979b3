use Rattle.std.proofs.Common.{◌≡◌, ℕ, ◌+◌, ◌∙◌, Bool, ap, arith, cond, nat_lt}
use Rattle.std.specs.Prelude.{is_some}
use Rattle.pager_model.specs.Around.{past_view}
use Rattle.pager_model.specs.Flights.{open_flights}
use Rattle.pager_model.specs.Lookups.{shares}
use Rattle.pager_model.specs.Report.{refs_of}
use Rattle.pager_model.specs.Transfers.{reads_on, writes_on}
use Rattle.pager_laws.proofs.OfConfigKept.{run_right}
use Rattle.pager_laws.proofs.RunsAreSound.{run_kept}
use Rattle.pager_laws.proofs.Pins.{few_pins}
use Rattle.state_fits.proofs.FewShares.{few_shares}
use Rattle.state_fits.proofs.FrameRows.{row_is}
use Rattle.vm_state.specs.History.{pager}
use Rattle.vm_state.proofs.Owed.{byte_is, byte_small}
use Rattle.pfn_report.proofs.FrameFits.{one_flight}
use Rattle.pfn_report.proofs.rows.frame_row.Goals as goal

pub returns : goal.returns
returns g c =
    let s = c.args.state.now in
    let a = pager c.args.state.now in
    let f = (c.args.f).0 in
    let seen = c.frame-row.ensures ∙ row_is a.state a.page a.modify a.valid a.ring (open_flights s.past) f in
    let shared : c.from.result ≡ cond (nat_lt 0 (shares a.valid f)) 1 0 = c.from.ensures ∙ (byte_is (nat_lt 0 c.args.count) ∙ ap (λ (n : ℕ). cond {A = ℕ} (nat_lt 0 n) 1 0) c.requires.shares) in
    let open_on : c.from-2.result ≡ reads_on f (open_flights s.past) + writes_on f (open_flights s.past) =
    c.from-2.ensures ∙ (byte_is c.is_some.result ∙ (ap (λ (b : Bool). cond {A = ℕ} b 1 0) (c.is_some.ensures ∙ ap is_some c.flight-flight.ensures) ∙ one_flight s.config s.past f c.run_law.ensures.formed c.run_law.ensures.run)) in
    let counted : c.from.result + c.from-2.result + c.args.pins ≡ refs_of s.past a f = omega (arith, shared, open_on, c.requires.pins) in
    λ i. record { state = (seen i).state; page = (seen i).page; modify = (seen i).modify; refs = counted i; shares = c.requires.shares i }

-- the sum has 32 bits
pub overflow_add-result-2 : goal.overflow_add-result-2
overflow_add-result-2 g c =
    let s = c.args.state.now in
    let a = pager c.args.state.now in
    let f = (c.args.f).0 in
    let formed = c.run_law.ensures.formed in
    let run = c.run_law.ensures.run in
    let few = few_shares s.config (past_view s.past) a f formed (run_kept s.config s.past formed run) (run_right s.config s.past formed run) in
    omega (arith, few, few_pins a f, c.requires.pins, c.from.ensures, byte_small (nat_lt 0 c.args.count), c.from-2.ensures, byte_small c.is_some.result)
