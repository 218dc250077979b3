-- A state with one more request behind its body.
use Rattle.std.proofs.Common.{◌≡◌, ℕ, false, List, [], ◌∷◌, ◌++◌, Result, Ok, Err, length, refl, sym, ap, ◌∙◌, subst}
use Rattle.std.specs.Prelude.{OnErr, OnOk}
use Rattle.vm_types.specs.BlockView.{BlockView, Tells}
use Rattle.vm_types.specs.declared.config.Config.{Config}
use Rattle.vm_types.specs.declared.config.Task.{Task}
use Rattle.vm_journal.specs.declared.entry.Entry.{Entry}
use Rattle.pager_model.specs.Flights.{Flight, open_flights}
use Rattle.pager_model.specs.Pager.{Pager}
use Rattle.pager_model.specs.Run.{pager_after}
use Rattle.frame_store.specs.Blocks.{blocks_of, held_at}
use Rattle.frame_store.specs.StoreView.{StoreView}
use Rattle.state_fits.specs.Entries.{pte_of}
use Rattle.state_fits.specs.Parts.{Parts}
use Rattle.state_fits.specs.PartsFit.{PartsFit}
use Rattle.vm_state.specs.History.{History}
use Rattle.vm_state.specs.StateKept.{IsState, IsStoreOf, home_in}
use Rattle.pager_laws.specs.Bodies.{MayBeAdded, has_rundown, with_body, with_task}
use Rattle.pager_laws.proofs.RunsStay.{bytes_stay, formed_stays, runs_stay}

blocks_same : (config : Config) (body : List Task) → blocks_of config ≡ blocks_of (with_body config body)
unfolding blocks_of
blocks_same config body = refl

ptes_same : (config : Config) (body : List Task) (a : Pager) (p v : ℕ) → pte_of config a.map a.valid a.page a.lies p v ≡ pte_of (with_body config body) a.map a.valid a.page a.lies p v
unfolding pte_of
ptes_same config body a p v = refl

parts_stay : (config : Config) (body : List Task) (past : List Entry) (a : Pager) (parts : Parts) → PartsFit config past a parts → PartsFit (with_body config body) past a parts
parts_stay config body past a parts fits = record {
  frames = fits.frames;
  flights = fits.flights;
  processes = fits.processes;
  spoken = fits.spoken;
  tables = record { procs = (fits.tables).procs; each = λ p v. (fits.tables).each p v ∙ ptes_same config body a p v };
  sections = record { procs = (fits.sections).procs; kinds = (fits.sections).kinds; each = (fits.sections).each };
  pages = record { procs = (fits.pages).procs; places = (fits.pages).places; each = (fits.pages).each };
  globals = record { count = (fits.globals).count; counts = (fits.globals).counts; frames = (fits.globals).frames; shared = (fits.globals).shared };
  file = fits.file;
  swaps = fits.swaps;
  seats = fits.seats;
  failed = fits.failed;
}

store_stays : {B : Type 0} (config : Config) (body : List Task) (flights : List Flight) (store : StoreView B) (numbers : List ℕ) → IsStoreOf config flights store numbers → IsStoreOf (with_body config body) flights store numbers
store_stays config body flights store numbers x = record {
  ids = x.ids ∙ blocks_same config body;
  buffers = x.buffers;
  blocks = x.blocks ∙ ap length (blocks_same config body);
  left = x.left;
  size = x.size;
  firsts = x.firsts;
}

pub body_grows : {B : Type 0} (seen : B → BlockView) (tells : Tells) (config : Config) (task : Task) (past : List Entry) (spare : ℕ) (store : StoreView B) (fields : Parts) (numbers : List ℕ)
    → MayBeAdded config task → has_rundown past ≡ false → IsState seen tells config past spare store fields numbers → IsState seen tells (with_task config task) past spare store fields numbers
unfolding blocks_of
body_grows seen tells config task past spare store fields numbers may none s =
    let body = config.body ++ task ∷ [] in
    record {
      formed = formed_stays config task s.formed may;
      run = runs_stay config body past none s.run;
      short = s.short;
      paid = s.paid;
      parts = parts_stay config body past (pager_after config past) fields s.parts;
      bytes = bytes_stay tells.content tells.plan config body past (pager_after config past) (held_at store.buffers) (home_in seen config store) s.bytes;
      places = store_stays config body (open_flights past) store numbers s.places;
      right = s.right;
    }

-- the body has the request, or is as it was
pub body_pushed : {B R E : Type 0} (seen : B → BlockView) (tells : Tells) (s t : History) (task : Task) (spare : ℕ) (store : StoreView B) (fields : Parts) (numbers : List ℕ) (pushed : Result R E) (body : List Task)
    → s ≡ t → MayBeAdded t.config task → has_rundown t.past ≡ false → OnOk pushed (body ≡ s.config.body ++ task ∷ []) → OnErr pushed (body ≡ s.config.body)
    → IsState seen tells s.config s.past spare store fields numbers → IsState seen tells (with_body s.config body) s.past spare store fields numbers
body_pushed seen tells s t task spare store fields numbers (Ok r) body same may none grown kept is =
    subst (λ (tasks : List Task). IsState seen tells (with_body s.config tasks) s.past spare store fields numbers) (sym grown)
    (body_grows seen tells s.config task s.past spare store fields numbers (subst (λ (h : History). MayBeAdded h.config task) (sym same) may) (subst (λ (h : History). has_rundown h.past ≡ false) (sym same) none) is)
body_pushed seen tells s t task spare store fields numbers (Err e) body same may none grown kept is =
    subst (λ (tasks : List Task). IsState seen tells (with_body s.config tasks) s.past spare store fields numbers) (sym kept) is
