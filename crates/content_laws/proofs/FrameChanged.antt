-- Bytes in frames and blocks, while one frame changes.
use Rattle.std.proofs.Common.{◌≡◌, ◌⊎◌, ℕ, ◌<◌, ◌≤◌, Bool, true, false, not, List, ◌∷◌, Option, Some, is_some, length, count_by, sym, ap, ◌∙◌, subst, inl, inr}
use Rattle.std.specs.List.{AllByRecursion}
use Rattle.std.proofs.lemmas.Bool.{cases_eq}
use Rattle.vm_types.specs.declared.limits.TheConstants.{PAGE_BYTES}
use Rattle.vm_types.specs.declared.names.Page.{Page}
use Rattle.vm_types.specs.declared.names.FrameState.{FrameState}
use Rattle.vm_types.specs.declared.names.FrameState.TheVariants as state
use Rattle.vm_types.specs.declared.config.Config.{Config}
use Rattle.vm_journal.specs.declared.entry.Entry.{Entry}
use Rattle.content_laws.proofs.FlightLeft.{before_later}
use Rattle.content_laws.specs.Put.{PutsBuffer}
use Rattle.pager_model.specs.Bytes.{bytes_in, now, was}
use Rattle.pager_model.specs.Content.{HasBuffers, HasHeld, IsSettled, IsWriting, has_bytes}
use Rattle.pager_model.specs.Flights.{Flight, is_reading, open_flights}
use Rattle.pager_model.specs.Lookups.{is}
use Rattle.pager_model.specs.Spoken.{flat_after}
use Rattle.pager_model.specs.Transfers.{writes_on}
use Rattle.pager_rules.proofs.Basics.{each_of_two}
use Rattle.pager_rules.proofs.Lists.{all_step}
use Rattle.pager_rules.proofs.Quiet.{starts_by}

-- ---- buffers
-- one frame's buffer is put, and its state changes
pub buffers_put : (config : Config) (state_of state_of' : ℕ → FrameState) (buffer buffer' : ℕ → Option (List ℕ)) (f : ℕ) (o : Option (List ℕ)) → PutsBuffer f o buffer buffer'
    → ((bytes : List ℕ) → o ≡ Some bytes → length bytes ≡ PAGE_BYTES) → is_some o ≡ not (is state.Reading (state_of' f)) → ((h : ℕ) → (f ≡ h → ⊥) → state_of' h ≡ state_of h)
    → HasBuffers config state_of buffer → HasBuffers config state_of' buffer'
buffers_put config state_of state_of' buffer buffer' f o put size here there old = record { sizes = λ h bytes has. sizes h bytes has (cases_eq f h); home = λ h inside. home h inside (cases_eq f h) }
  where
    sizes : (h : ℕ) (bytes : List ℕ) → buffer' h ≡ Some bytes → (f ≡ h) ⊎ (f ≡ h → ⊥) → length bytes ≡ PAGE_BYTES
    sizes h bytes has (inl same) = size bytes (sym put.here ∙ (ap buffer' same ∙ has))
    sizes h bytes has (inr apart) = old.sizes h bytes (sym (put.others h apart) ∙ has)

    home : (h : ℕ) → h < config.frames → (f ≡ h) ⊎ (f ≡ h → ⊥) → is_some (buffer' h) ≡ not (is state.Reading (state_of' h))
    home h inside (inl same) = subst (λ (k : ℕ). is_some (buffer' k) ≡ not (is state.Reading (state_of' k))) same (ap is_some put.here ∙ here)
    home h inside (inr apart) = ap is_some (put.others h apart) ∙ (old.home h inside ∙ sym (ap (λ (s : FrameState). not (is state.Reading s)) (there h apart)))

-- no buffer is put, and no read begins or ends
pub buffers_stay : (config : Config) (state_of state_of' : ℕ → FrameState) (buffer : ℕ → Option (List ℕ)) → ((h : ℕ) → is state.Reading (state_of' h) ≡ is state.Reading (state_of h)) → HasBuffers config state_of buffer → HasBuffers config state_of' buffer
buffers_stay config state_of state_of' buffer same old = record { sizes = old.sizes; home = λ h inside. old.home h inside ∙ sym (ap not (same h)) }

-- ---- held pages, settled pages, open writes
pub held_move : (old new : Page → List ℕ) (page page' : ℕ → Option Page) (state_of state_of' : ℕ → FrameState) (buffer buffer' : ℕ → Option (List ℕ)) (f : ℕ)
    → ((h : ℕ) → (f ≡ h → ⊥) → (page' h ≡ page h) × (state_of' h ≡ state_of h) × (buffer' h ≡ buffer h) × ((g : Page) → page h ≡ Some g → new g ≡ old g))
    → ((g : Page) → page' f ≡ Some g → has_bytes (state_of' f) ≡ true → buffer' f ≡ Some (new g)) → HasHeld old page state_of buffer → HasHeld new page' state_of' buffer'
held_move old new page page' state_of state_of' buffer buffer' f other here all h g holds filled = go (cases_eq f h)
  where
    go : (f ≡ h) ⊎ (f ≡ h → ⊥) → buffer' h ≡ Some (new g)
    go (inl same) = subst (λ (k : ℕ). buffer' k ≡ Some (new g)) same (here g (ap page' same ∙ holds) (ap (λ (k : ℕ). has_bytes (state_of' k)) same ∙ filled))
    go (inr apart) =
        let there = other h apart in
        let held = sym there.0 ∙ holds in
        there.2 ∙ (all h g held (ap has_bytes (sym there.1) ∙ filled) ∙ ap Some (sym (there.3 g held)))

pub settled_move : (page page' : ℕ → Option Page) (modify modify' : ℕ → Bool) (flights flights' : List Flight) (f : ℕ) (g : Page)
    → ((h : ℕ) → (f ≡ h → ⊥) → (page' h ≡ page h) × (modify' h ≡ modify h) × (writes_on h flights' ≡ writes_on h flights))
    → (page f ≡ Some g → (modify f ≡ false) × (writes_on f flights ≡ 0)) → IsSettled page' modify' flights' g → IsSettled page modify flights g
settled_move page page' modify modify' flights flights' f g other here all h holds = go (cases_eq f h)
  where
    go : (f ≡ h) ⊎ (f ≡ h → ⊥) → (modify h ≡ false) × (writes_on h flights ≡ 0)
    go (inl same) = subst (λ (k : ℕ). (modify k ≡ false) × (writes_on k flights ≡ 0)) same (here (ap page same ∙ holds))
    go (inr apart) =
        let there = other h apart in
        let settled = all h (there.0 ∙ holds) in
        (sym there.1 ∙ settled.0, sym there.2 ∙ settled.1)

-- writes that were open, one entry later
pub written_move : (config : Config) (past : List Entry) (e : Entry) (page page' : ℕ → Option Page) (modify modify' : ℕ → Bool)
    → ((x : Flight) → ((t : Flight → Bool) → t x ≡ true → 0 < count_by t (open_flights past)) → is_reading x.direction ≡ false → modify' x.frame ≡ false → (g : Page) → page' x.frame ≡ Some g
    → (modify x.frame ≡ false) × (page x.frame ≡ Some g) × (now config (e ∷ past) g ≡ now config past g))
    → AllByRecursion (IsWriting (now config past) (was config past) page modify) (open_flights past) → AllByRecursion (IsWriting (now config (e ∷ past)) (was config (e ∷ past)) page' modify') (open_flights past)
written_move config past e page page' modify modify' step all =
    all_step Both (IsWriting (now config (e ∷ past)) (was config (e ∷ past)) page' modify') (open_flights past)
    (λ x counts both writes clear g holds.
    let facts = step x counts writes clear g holds in
    facts.2 ∙ (both.1 writes facts.0 g facts.1 ∙ ap (λ (p : List Entry). bytes_in config (flat_after config p) g) (sym (before_later x.start e past both.0))))
    (each_of_two Early (IsWriting (now config past) (was config past) page modify) Both (λ x early writes. (early, writes)) (open_flights past) (starts_by past) all)
  where
    Early : Flight → Type 0
    Early x = x.start ≤ length past

    Both : Flight → Type 0
    Both x = Early x × IsWriting (now config past) (was config past) page modify x

-- and if neither a page, a mark nor a byte changed
pub written_stay : (config : Config) (past : List Entry) (e : Entry) (page : ℕ → Option Page) (modify : ℕ → Bool) → ((g : Page) → now config (e ∷ past) g ≡ now config past g)
    → AllByRecursion (IsWriting (now config past) (was config past) page modify) (open_flights past) → AllByRecursion (IsWriting (now config (e ∷ past)) (was config (e ∷ past)) page modify) (open_flights past)
written_stay config past e page modify same = written_move config past e page page modify modify (λ x counts writes clear g holds. (clear, holds, same g))
