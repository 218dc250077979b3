-- A read lands: what is around its frame, before and after.
use Rattle.std.proofs.Common.{◌≡◌, ℕ, ◌<◌, ◌≤◌, ◌+◌, false, List, Some, find, count_by, ap, ap₂, ◌∙◌, subst, arith}
use Rattle.vm_types.specs.declared.config.Config.{Config}
use Rattle.vm_types.specs.declared.names.FrameState.TheVariants as state
use Rattle.vm_types.specs.declared.names.Page.{Page}
use Rattle.vm_journal.specs.declared.entry.Entry.{Entry}
use Rattle.vm_journal.specs.declared.entry.Role.{Role}
use Rattle.pfn_database.specs.Frames.{Frames, row_of}
use Rattle.pager_laws.proofs.InOkKept.{fit, no_reads, no_writes, reads_there, row, writes_there}
use Rattle.pager_model.specs.Around.{frame_view, quiet}
use Rattle.pager_model.specs.Flights.{Flight, open_flights, reading, without_flight}
use Rattle.pager_model.specs.InOk.{IsLanding}
use Rattle.pager_model.specs.Lookups.{shares}
use Rattle.pager_model.specs.Pager.{Pager}
use Rattle.pager_model.specs.Transfers.{reads_on, starts, writes_on}
use Rattle.pager_rules.proofs.Frames.{reading_frame}
use Rattle.pager_rules.proofs.Quiet.{starts_once}
use Rattle.pager_rules.specs.Kept.{IsKept}
use Rattle.state_fits.specs.Frames.{FramesFit, frame_row, row_by, slot_for}
use Rattle.state_fits.proofs.FramePins.{no_pins}
use Rattle.state_fits.proofs.FlightsMoved.{flight_within}
use Rattle.state_fits.proofs.UnsharedFrames.{no_slot}

-- the frame is being read, unshared; afterwards no transfer is open on it, and those on the others stay
pub record IsLandedOn (config : Config) (a : Pager) (flights rest : List Flight) (f : ℕ) : Type 0 where
  pub within : f < config.frames
  pub page : Page
  pub holds : a.page f ≡ Some page
  pub state : a.state f ≡ state.Reading
  pub modify : a.modify f ≡ false
  pub shares : shares a.valid f ≡ 0
  pub slot : slot_for a.ring (Some page) ≡ 0
  pub one : reads_on f flights + writes_on f flights ≡ 1
  pub none : reads_on f rest + writes_on f rest ≡ 0
  pub there : (h : ℕ) → (f ≡ h → ⊥) → reads_on h rest + writes_on h rest ≡ reads_on h flights + writes_on h flights

module _ (config : Config) (a : Pager) (flights : List Flight) (k : ℕ) (x : Flight) (r : Role) (kept : IsKept config (quiet flights) a) (found : find (starts k) flights ≡ Some x) (once : count_by (starts k) flights ≤ 1)
    (reads : x.direction ≡ reading r) where
  at_frame : IsLandedOn config a flights (without_flight k flights) x.frame
  at_frame =
      let old = row config a flights k x r kept found once reads in
      let its = fit config a flights k x r kept found once reads in
      record {
        within = flight_within config (quiet flights) a k x kept found;
        page = its.page;
        holds = its.held;
        state = reading_frame (frame_view config (quiet flights) a x.frame) (kept.frames x.frame) (omega (arith, old.reads));
        modify = old.mark;
        shares = old.shares;
        slot = no_slot config (quiet flights) a x.frame its.page kept its.held old.shares;
        one = omega (arith, old.reads, old.writes);
        none = omega (arith, no_reads config a flights k x r kept found once reads, no_writes config a flights k x r kept found once reads);
        there = λ h apart. ap₂ (λ (m n : ℕ). m + n) (reads_there config a flights k x r kept found once reads h apart) (writes_there config a flights k x r kept found once reads h apart);
      }

pub landed_on : (config : Config) (past : List Entry) (a : Pager) (p f k : ℕ) (x : Flight) (r : Role) → IsKept config (quiet (open_flights past)) a → IsLanding past p f k x → x.direction ≡ reading r
    → IsLandedOn config a (open_flights past) (without_flight k (open_flights past)) f
landed_on config past a p f k x r kept lands reads =
    subst (IsLandedOn config a (open_flights past) (without_flight k (open_flights past))) lands.frame (at_frame config a (open_flights past) k x r kept lands.open_k (starts_once past k) reads)

-- the row of the frame
pub landing_row : (config : Config) (a : Pager) (flights rest : List Flight) (f n : ℕ) (free modified : List ℕ) (pfns : Frames) (at : IsLandedOn config a flights rest f)
    → FramesFit (frame_row a.state a.page a.modify a.valid a.ring flights) n free modified pfns → row_of pfns f ≡ row_by state.Reading (Some at.page) false 0 1 0 0
unfolding frame_row
landing_row config a flights rest f n free modified pfns at fit =
    fit.rows f ∙ (λ i. row_by (at.state i) (at.holds i) (at.modify i) (at.shares i) (at.one i) ((ap (slot_for a.ring) at.holds ∙ at.slot) i) (no_pins a.valid a.ring f at.shares i))
