-- The bytes of pages that are kept, and what they say of the flat machine's state. This project's own.
use Rattle.std.specs.Prelude.{◌≡◌, ℕ, ◌&&◌, false, List, Option, Some, None, Result, MatchResult, is_some, if◌then◌else◌}
use Rattle.vm_types.specs.declared.names.Page.{Page}
use Rattle.vm_types.specs.declared.config.Config.{Config}
use Rattle.vm_types.specs.declared.faults.NoMemory.{NoMemory}
use Rattle.vm_types.specs.declared.reference.Ref.{Ref}
use Rattle.vm_types.specs.declared.reply.Reply.{Reply}
use Rattle.vm_types.specs.declared.reply.Answer.TheVariants.{Good}
use Rattle.vm_types.specs.declared.service.Service.{Service}
use Rattle.pager_model.specs.Flat.{FlatState, flat_next, flat_refusal, flat_reply, is_untouched, mapping_of, shared_bytes}
use Rattle.pager_model.specs.FlatService.{flat_service, is_private_in}
use Rattle.pager_model.specs.Maps.{Mapped, is_paged}
use Rattle.pager_model.specs.Pager.{Pager}
use Rattle.pager_model.specs.Sets.{has_page}
use Rattle.shadow_flat.specs.Slots.{bytes_kept, bytes_or}
use Rattle.shadow_flat.specs.declared.page_bytes.PageBytes.{PageBytes}

-- the bytes of a page that was referred to
abbrev pub kept : PageBytes → Page → Option (List ℕ)
kept b = bytes_kept b.pages

-- of a state: the touched pages are the charged pages whose bytes are kept, and the bytes of an uncharged or
-- touched page are those that are kept or, where none are, those that the configuration gives
pub record KeepsFlat (config : Config) (state : FlatState) (bytes : Page → Option (List ℕ)) : Type 0 where
  pub touched : (page : Page) → has_page state.touched page ≡ (is_paged config page && is_some (bytes page))
  pub stored : (page : Page) → is_untouched config state page ≡ false → state.stored page ≡ bytes_or (shared_bytes config page) (bytes page)

-- the pager has the state's maps and touched pages
pub record IsBeside (a : Pager) (state : FlatState) : Type 0 where
  pub maps : a.map ≡ state.map
  pub touched : a.touched ≡ state.touched

-- the reply is the flat reply, and the bytes are those of the next state
abbrev pub IsTold : Config → FlatState → (Page → Option (List ℕ)) → ℕ → Ref → Reply → Type 0
IsTold config state bytes p r reply = (reply ≡ flat_reply config state p r) × KeepsFlat config (flat_next config state p r) bytes

abbrev pub IsKeptAnswer : Config → FlatState → PageBytes → ℕ → Ref → Result Reply NoMemory → Type 0
IsKeptAnswer config state new p r result = MatchResult result (λ reply. IsTold config state (kept new) p r reply) (λ none. Unit {0})

-- whichever state it was
abbrev pub AnswersMapped : Config → PageBytes → PageBytes → ℕ → Ref → Mapped → Result Reply NoMemory → Type 0
AnswersMapped config old new p r m result =
    (state : FlatState) → KeepsFlat config state (kept old) → mapping_of state p r ≡ Some m → flat_refusal config state p r ≡ None → IsKeptAnswer config state new p r result

abbrev pub AnswersAsFlat : Config → Pager → PageBytes → PageBytes → ℕ → Ref → Result Reply NoMemory → Type 0
AnswersAsFlat config a old new p r result = (state : FlatState) → KeepsFlat config state (kept old) → IsBeside a state → IsKeptAnswer config state new p r result

-- no bytes of a private page of the range are kept, and those of all others stay
abbrev pub IsForgotten : ℕ → ℕ → ℕ → PageBytes → PageBytes → Type 0
IsForgotten p address pages old new = (page : Page) → kept new page ≡ (if is_private_in p address pages page then None else kept old page)

-- of whichever configuration and state they were, they are of that state changed by a service that answers Good
abbrev pub ChangesAsFlat : PageBytes → PageBytes → ℕ → Service → Type 0
ChangesAsFlat old new p s = (config : Config) (state : FlatState) → KeepsFlat config state (kept old) → KeepsFlat config (flat_service state p s Good) (kept new)
