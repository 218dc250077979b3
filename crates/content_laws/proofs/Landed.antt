-- What a landing leaves, whatever its entry is: the flight isn't open any more, and its block is home.
use Rattle.std.proofs.Common.{◌≡◌, ℕ, Bool, true, cond, List, ◌∷◌, Option, Some, find, sym, ap, ◌∙◌, subst}
use Rattle.std.specs.List.{AllByRecursion}
use Rattle.std.proofs.lemmas.Option.{same_Some}
use Rattle.vm_types.specs.BlockView.{BlockView}
use Rattle.vm_types.specs.declared.names.Page.{Page}
use Rattle.vm_types.specs.declared.names.BlockId.{BlockId}
use Rattle.vm_types.specs.declared.names.FrameState.{FrameState}
use Rattle.vm_types.specs.declared.config.Config.{Config}
use Rattle.vm_journal.specs.declared.entry.Entry.{Entry}
use Rattle.content_laws.proofs.BlockMoved.{blocks_apart}
use Rattle.pager_laws.proofs.KeptIsSound.{same_block_refl}
use Rattle.pager_model.specs.Bytes.{now, was}
use Rattle.pager_model.specs.Content.{HasBuffers, HasCopied, HasCounted, HasHeld, HasHomes, HasLying, IsWriting}
use Rattle.pager_model.specs.Counted.{Counts, counts_of, is_flight_on, last_count, reads_of, writes_of}
use Rattle.pager_model.specs.Fits.{FitsLift, Lift}
use Rattle.pager_model.specs.Flights.{Flight, open_flights, without_flight}
use Rattle.pager_model.specs.InOk.{IsLanding}
use Rattle.pager_model.specs.Pager.{Pager}
use Rattle.pager_model.specs.CountedBlock.{HasCounts}
use Rattle.pager_model.specs.Transfers.{starts}

-- the parts of content after the landing of flight k, which is x, by the frames, the buffers and the blocks of then
pub record Landed (tells tells_plan : Bool) (config : Config) (past : List Entry) (k : ℕ) (x : Flight) (seen : BlockView) (state_of : ℕ → FrameState) (page : ℕ → Option Page) (modify : ℕ → Bool) (lies : Page → Option BlockId)
    (buffer : ℕ → Option (List ℕ)) (home : BlockId → Option BlockView) : Type 0 where
  pub buffers : HasBuffers config state_of buffer
  pub homes : HasHomes config (without_flight k (open_flights past)) home
  pub held : tells ≡ true → HasHeld (now config past) page state_of buffer
  pub lying : tells ≡ true → HasLying config (now config past) lies page modify (without_flight k (open_flights past)) home
  pub written : (e : Entry) → ((g : Page) → now config (e ∷ past) g ≡ now config past g) → tells ≡ true
      → AllByRecursion (IsWriting (now config (e ∷ past)) (was config (e ∷ past)) page modify) (without_flight k (open_flights past))
  pub copied : tells ≡ true → HasCopied config home
  pub counted : (longer : List Entry) → ((b : BlockId) → (x.block ≡ b → ⊥) → counts_of b longer ≡ counts_of b past) → HasCounts seen (counts_of x.block longer) 0 0 → seen.faults ≡ last_count x.block longer
      → HasCounted tells_plan config longer home

-- a lift that lands is of the flight that the landing names
pub record IsLifted (past : List Entry) (lift : Lift) (x : Flight) (f : ℕ) : Type 0 where
  pub found : find (starts lift.start) (open_flights past) ≡ Some x
  pub frame : x.frame ≡ f
  pub block : lift.block ≡ x.block

pub lifted : (tells tells_plan : Bool) (config : Config) (past : List Entry) (a : Pager) (lift : Lift) (fits : FitsLift tells tells_plan config past a lift) (seat f : ℕ) (y : Flight) → IsLanding past seat f lift.start y
    → IsLifted past lift fits.0 f × (y ≡ fits.0)
lifted tells tells_plan config past a lift fits seat f y landing = (record { found = found; frame = ap (λ (z : Flight). z.frame) (sym same) ∙ landing.frame; block = sym ((fits.1).flight).block }, same)
  where
    found : find (starts lift.start) (open_flights past) ≡ Some fits.0
    found = subst (λ (j : ℕ). find (starts j) (open_flights past) ≡ Some fits.0) ((fits.1).flight).start (fits.1).found_x

    same : y ≡ fits.0
    same = same_Some _ _ (sym landing.open_k ∙ found)

-- ---- the counts after a failure
-- of the flight's own block
pub failed_own : (past : List Entry) (k : ℕ) (x : Flight) (d : ℕ) → find (starts k) (open_flights past) ≡ Some x → cond (is_flight_on x.block (find (starts k) (open_flights past))) d (last_count x.block past) ≡ d
failed_own past k x d found = ap (λ (o : Option Flight). cond (is_flight_on x.block o) d (last_count x.block past)) found ∙ ap (λ (b : Bool). cond b d (last_count x.block past)) (same_block_refl x.block)

-- and of every other
pub failed_other : (past : List Entry) (k : ℕ) (x : Flight) (d : ℕ) (b : BlockId) → find (starts k) (open_flights past) ≡ Some x → (x.block ≡ b → ⊥)
    → record { reads = reads_of b past; writes = writes_of b past; faults = cond (is_flight_on b (find (starts k) (open_flights past))) d (last_count b past) } ≡ counts_of b past
failed_other past k x d b found apart = ap counted (ap (is_flight_on b) found ∙ blocks_apart b x.block (λ same. apart (sym same)))
  where
    counted : Bool → Counts
    counted own = record { reads = reads_of b past; writes = writes_of b past; faults = cond own d (last_count b past) }
