-- A write that may begin, or land, may move its page.
use Rattle.std.proofs.Common.{◌≡◌, ℕ, Option, Some, None, refl}
use Rattle.vm_types.specs.declared.names.BlockId.{BlockId}
use Rattle.vm_types.specs.declared.names.BlockId.TheVariants as block
use Rattle.vm_types.specs.declared.names.Page.{Page}
use Rattle.vm_types.specs.declared.names.Page.TheVariants.{Private, Shared}
use Rattle.vm_types.specs.declared.names.Proc.{Proc}
use Rattle.state_parts.specs.ChargedTable.{kept_at}
use Rattle.state_parts.specs.declared.charged_page.ChargedPage.{ChargedPage}
use Rattle.state_fits.specs.Parts.{Parts}
use Rattle.state_fits.proofs.OutCan.{CanGiveBlock}
use Rattle.state_fits.proofs.OutLandingCan.{CanLieIn}
use Rattle.state_pages.specs.WriteMoves.{MayEmpty, MayFill, MayGive, MayLie, MayLieBy, MayTake, MayTakeBy}

pub may_give : (parts : Parts) (d : BlockId) (g : Page) → ((b : ℕ) → d ≡ block.PageFile b → CanGiveBlock parts g b) → MayGive parts.pages parts.file d g
may_give parts (block.PageFile b) g can = by (kept_at parts.pages g) refl
  where
    its : CanGiveBlock parts g b
    its = can b refl

    by : (c : Option ChargedPage) → kept_at parts.pages g ≡ c → MayTakeBy c parts.file b
    by None is = tt
    by (Some row) is = take row.assigned refl
      where
        take : (o : Option ℕ) → row.assigned ≡ o → MayTake o parts.file b
        take None none = (its.free row is none, its.room row is none)
        take (Some m) had = tt
may_give parts (block.Section s i) g can = tt
may_give parts (block.Swap q n) g can = tt

pub may_lie : (parts : Parts) (g : Page) (d : BlockId) → ((p : Proc) (v : ℕ) → g ≡ Private p v → CanLieIn parts d p v) → MayLie parts.pages parts.swaps g d
may_lie parts (Shared s i) d can = by (kept_at parts.pages (Shared s i))
  where
    by : (c : Option ChargedPage) → MayLieBy c parts.swaps (Shared s i) d
    by None = tt
    by (Some row) = tt
may_lie parts (Private p v) d can = by (kept_at parts.pages (Private p v)) refl
  where
    its : CanLieIn parts d p v
    its = can p v refl

    fill : (b : BlockId) → d ≡ b → MayFill parts.swaps b
    fill (block.Swap q n) is = its.new_slot q n is
    fill (block.PageFile b) is = tt
    fill (block.Section s i) is = tt

    by : (c : Option ChargedPage) → kept_at parts.pages (Private p v) ≡ c → MayLieBy c parts.swaps (Private p v) d
    by None is = tt
    by (Some row) is = (empty row.lies refl, fill d refl)
      where
        empty : (o : Option BlockId) → row.lies ≡ o → MayEmpty parts.swaps o
        empty None lies = tt
        empty (Some (block.Swap q n)) lies = its.old_slot row q n is lies
        empty (Some (block.PageFile b)) lies = tt
        empty (Some (block.Section s i)) lies = tt
