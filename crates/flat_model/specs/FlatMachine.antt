-- What the flat machine keeps, and how it answers. This project's own.
use Rattle.std.specs.Prelude.{◌≡◌, ℕ, ◌*◌, vec_len, Bool, true, false, ◌&&◌, List, Option, Some, None, Result, ◌<◌, find, length, is_some, count_by, not, slice_get, MatchResult}
use Rattle.std.specs.List.{position_or_len}
use Rattle.vm_types.specs.declared.limits.TheConstants.{PRIVATE_PAGES}
use Rattle.vm_types.specs.Access.{is_allowed}
use Rattle.vm_types.specs.Configuration.{IsWellFormed}
use Rattle.vm_types.specs.Kinds.{paged_of}
use Rattle.vm_types.specs.Same.{same_page}
use Rattle.vm_types.specs.declared.names.Page.{Page}
use Rattle.vm_types.specs.declared.config.Config.{Config}
use Rattle.vm_types.specs.declared.config.Origin.{Origin}
use Rattle.vm_types.specs.declared.faults.NoMemory.{NoMemory}
use Rattle.vm_types.specs.declared.reference.Ref.{Ref}
use Rattle.vm_types.specs.declared.reply.Reply.{Reply}
use Rattle.pager_model.specs.Flat.{FlatState, shared_bytes, flat_reply, flat_next, mapping_of, is_change, is_untouched}
use Rattle.pager_model.specs.Maps.{is_paged, page_behind, page_number}
use Rattle.pager_model.specs.Sets.{has_page}
use Rattle.vm_types.specs.declared.config.Section.{Section}
use Rattle.vm_types.specs.declared.names.Page.TheVariants.{Private, Shared}
use Rattle.vm_types.specs.declared.service.Service.{Service}
use Rattle.vm_types.specs.declared.reply.Answer.TheVariants.{Good}
use Rattle.pager_model.specs.FlatService.{flat_service, is_private_in}
use Rattle.flat_model.specs.Behind.{mapped_in}
use Rattle.flat_model.specs.declared.tables.Tables.{Tables}
use Rattle.flat_model.specs.declared.flat.Flat.{Flat}
use Rattle.flat_model.specs.declared.flat.Stored.{Stored}

-- a page that is charged to the page file: a private one, or one of a page file section
abbrev pub is_paged_in : List Section → Page → Bool
is_paged_in sections (Private p v) = true
is_paged_in sections (Shared s i) = paged_of (slice_get sections s.0)

-- whether an entry is that of the page, or of a page that is charged
abbrev pub is_of : Page → Stored → Bool
is_of page entry = same_page entry.page page

abbrev pub is_touch : List Section → Stored → Bool
is_touch sections entry = is_paged_in sections entry.page

-- whether an entry is of no private page of a process's range
abbrev pub is_kept : ℕ → ℕ → ℕ → Stored → Bool
is_kept p address pages entry = not (is_private_in p address pages entry.page)

-- the entry of a page
abbrev pub stored_of : List Stored → Page → Option Stored
stored_of stored page = find (is_of page) stored

-- the bytes of an entry, or others where there is none
abbrev pub bytes_or : List ℕ → Option Stored → List ℕ
bytes_or others None = others
bytes_or others (Some entry) = entry.bytes

-- what the tables keep of a well-formed configuration, and a place for each page of its processes
pub record AreTablesOf (config : Config) (tables : Tables) : Type 0 where
  pub well_formed : IsWellFormed config
  pub pagefile : tables.pagefile ≡ config.pagefile
  pub sections : tables.sections ≡ config.sections
  pub places : vec_len tables.pages ≡ length config.procs * PRIVATE_PAGES

-- whether an entry is of a charged page that passes a test
abbrev pub is_touch_of : Config → (Page → Bool) → Stored → Bool
is_touch_of config test entry = is_paged config entry.page && test entry.page

-- the machine stands for a state of a well-formed configuration: its tables are of the configuration and
-- have the state's maps, the touched pages are the charged pages that have an entry, each once, and the
-- bytes of an uncharged or touched page are those of its entry or, where it has none, those that the
-- configuration gives
pub record IsFlat (config : Config) (state : FlatState) (flat : Flat) : Type 0 where
  pub tables : AreTablesOf config flat.tables
  pub map : (p v : ℕ) → state.map p v ≡ mapped_in flat.tables.pages.items p v
  pub touched : (page : Page) → has_page state.touched page ≡ (is_paged config page && is_some (stored_of flat.stored.items page))
  pub counts : (test : Page → Bool) → count_by test state.touched ≡ count_by (is_touch_of config test) flat.stored.items
  pub stored : (page : Page) → is_untouched config state page ≡ false → state.stored page ≡ bytes_or (shared_bytes config page) (stored_of flat.stored.items page)

-- the reply is the flat reply, and the machine stands for the next state; without memory it stands
-- for the same state
abbrev pub IsFlatAnswer : Config → FlatState → Flat → ℕ → Ref → Result Reply NoMemory → Type 0
IsFlatAnswer config state new p r result =
    MatchResult result (λ reply. (reply ≡ flat_reply config state p r) × IsFlat config (flat_next config state p r) new) (λ _. IsFlat config state new)

-- this holds of whichever configuration and state the machine stood for
abbrev pub AnswersAsFlat : Flat → Flat → ℕ → Ref → Result Reply NoMemory → Type 0
AnswersAsFlat old new p r result = (config : Config) (state : FlatState) → IsFlat config state old → IsFlatAnswer config state new p r result

-- the reference is to a mapped page and has the right to it
pub record IsAllowedAt (config : Config) (state : FlatState) (p : ℕ) (r : Ref) (origin : Origin) (page : Page) : Type 0 where
  pub prot : ℕ
  pub mapped : mapping_of state p r ≡ Some (record { origin = origin; prot = prot })
  pub right : is_allowed prot r.mode (is_change r.op) ≡ true
  pub behind : page_behind config p (page_number (r.addr).0) origin ≡ page

-- it holds where the reference has the right and its page has no entry yet
abbrev pub AnswersNew : Flat → Flat → Page → Origin → Ref → Result Reply NoMemory → Type 0
AnswersNew old new page origin r result =
    (config : Config) (state : FlatState) (p : ℕ) → IsFlat config state old → IsAllowedAt config state p r origin page
    → stored_of old.stored.items page ≡ None → IsFlatAnswer config state new p r result

-- where the page's first entry is
abbrev pub IsStoredAt : List Stored → Page → Option ℕ → Type 0
IsStoredAt stored page None = stored_of stored page ≡ None
IsStoredAt stored page (Some place) = (place < length stored) × (place ≡ position_or_len (is_of page) stored)

-- whichever configuration and state the machine stood for, it stands for that state changed by a service of
-- one of the configuration's processes that answers Good
abbrev pub ChangesAsFlat : Flat → Flat → ℕ → Service → Type 0
ChangesAsFlat old new p s =
    (config : Config) (state : FlatState) → IsFlat config state old → p < length config.procs → IsFlat config (flat_service state p s Good) new
