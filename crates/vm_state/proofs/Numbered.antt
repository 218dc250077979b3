-- A shared page that a frame holds has a number, and the parts of a state know it.
use Rattle.std.proofs.Common.{◌≡◌, ℕ, List, Some, sym, ap, ◌∙◌, arith}
use Rattle.std.proofs.lemmas.Option.{slice_get_within}
use Rattle.vm_types.specs.BlockView.{BlockView, Tells}
use Rattle.vm_types.specs.Configuration.{IsSectionPage}
use Rattle.vm_types.specs.declared.config.Config.{Config}
use Rattle.vm_types.specs.declared.names.Page.{Page}
use Rattle.vm_types.specs.declared.names.Page.TheVariants.{Private, Shared}
use Rattle.vm_journal.specs.declared.entry.Entry.{Entry}
use Rattle.global_pages.specs.GlobalPages.{GlobalPages}
use Rattle.pfn_database.specs.Frames.{row_of}
use Rattle.pfn_database.specs.declared.row.Row.{Row}
use Rattle.pager_model.specs.Flights.{open_flights}
use Rattle.pager_model.specs.Pager.{Pager}
use Rattle.pager_model.specs.Run.{pager_after}
use Rattle.frame_store.specs.StoreView.{StoreView}
use Rattle.pager_laws.proofs.SectionNumbers.{number_within}
use Rattle.state_fits.specs.Parts.{Parts}
use Rattle.state_fits.proofs.EvictCan.{HasShare as HasShareThere}
use Rattle.state_fits.proofs.EnterCan.{CanShare as CanShareThere}
use Rattle.state_fits.proofs.FrameRows.{row_read}
use Rattle.state_pages.specs.SectionPages.{CanShare, HasNumber, HasShare, IsNumbered}
use Rattle.vm_state.specs.StateKept.{IsState}
use Rattle.vm_state.proofs.Closing.{right}

pub has_share : (config : Config) (table : GlobalPages) (g : Page) → HasShareThere config table g → HasShare config table g
has_share config table (Private p v) has = tt
has_share config table (Shared s i) has = has

pub can_share : (config : Config) (table : GlobalPages) (g : Page) → CanShareThere config table g → CanShare config table g
can_share config table (Private p v) can = tt
can_share config table (Shared s i) can = can

module _ {B : Type 0} {seen : B → BlockView} {tells : Tells} {config : Config} {past : List Entry} {spare : ℕ} {store : StoreView B} {fields : Parts} {numbers : List ℕ}
    (before : IsState seen tells config past spare store fields numbers) where
  abbrev a : Pager
  a = pager_after config past

  -- a page of a section of the configuration
  pub has_number : (s i : ℕ) → IsSectionPage config.sections s i → HasNumber config numbers s i
  has_number s i there = record {
    first = before.places.firsts s (slice_get_within config.sections s there.0 there.1);
    small = (let within = number_within config s i there in let most = before.formed.sections.pages in omega (arith, within, most));
  }

  pub numbered_page : (f : ℕ) (g : Page) → a.page f ≡ Some g → IsNumbered config numbers g
  numbered_page f (Private p v) held = tt
  numbered_page f (Shared s i) held = has_number s.0 i ((right before).held f (Shared s i) held).0

  -- the page of a frame
  pub numbered : (f : ℕ) (g : Page) → (row_of fields.frames f).page ≡ Some g → IsNumbered config numbers g
  numbered f g is = numbered_page f g (sym (ap (λ (row : Row). row.page) (row_read a.state a.page a.modify a.valid a.ring (open_flights past) config.frames a.free a.modified fields.frames f before.parts.frames)) ∙ is)
