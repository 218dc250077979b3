-- REUSE: the frame at the free list's head gives up the page that it holds, or the frame in read error
-- by this seat the page that couldn't be read. Source: Kenah and Bate, "VAX/VMS Internals and Data
-- Structures", the PFN database: a physical page's virtual page is deleted from it when it is used
-- again; read errors are this project's own.
use Rattle.std.specs.Prelude.{◌≡◌, ◌⊎◌, ℕ, false, ◌&&◌, List, ◌∷◌, Option, Some, None, if◌then◌else◌}
use Rattle.vm_types.specs.declared.names.Page.{Page}
use Rattle.vm_types.specs.declared.names.FrameState.TheVariants as state
use Rattle.vm_journal.specs.declared.entry.Entry.{Entry}
use Rattle.page_lists.specs.Lists.{without}
use Rattle.pager_model.specs.Changes.{is_section_block, without_page}
use Rattle.pager_model.specs.Flights.{Flight, failed_flight}
use Rattle.pager_model.specs.Lookups.{IsHead}
use Rattle.pager_model.specs.Maps.{is_private}
use Rattle.pager_model.specs.Pager.{Pager}
use Rattle.pager_model.specs.Sets.{at_number}

pub record IsReuseFree (a : Pager) (f : ℕ) (g : Page) : Type 0 where
  pub head : IsHead a.free f
  pub holds : a.page f ≡ Some g

pub record IsReuseFailed (past : List Entry) (a : Pager) (p f : ℕ) (g : Page) : Type 0 where
  pub flight : Flight
  pub failed : failed_flight past ≡ Some flight
  pub seat : flight.seat ≡ p
  pub frame : flight.frame ≡ f
  pub holds : a.page f ≡ Some g

abbrev pub IsReuse : List Entry → Pager → ℕ → ℕ → Page → Type 0
IsReuse past a seat f g = IsReuseFree a f g ⊎ IsReuseFailed past a seat f g

-- a copy on reference page whose read from its section block failed is no longer charged
abbrev pub charged_reused : Option Flight → Page → List Page → List Page
charged_reused None g charged = charged
charged_reused (Some x) g charged = if is_private g && is_section_block x.block then without_page charged g else charged

-- the frame is empty and heads the free list; the page is out
abbrev pub after_reuse : List Entry → Pager → ℕ → Page → Pager
after_reuse past a f g =
    record a {
      state = at_number a.state f state.Free;
      page = at_number a.page f None;
      modify = at_number a.modify f false;
      free = f ∷ without a.free f;
      charged = charged_reused (failed_flight past) g a.charged;
    }
