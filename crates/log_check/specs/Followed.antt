-- What stands for the entries so far, and goes on with one more. This project's own.
use Rattle.std.specs.Prelude.{◌≡◌, Bool, true, false, ◌∷◌}
use Rattle.vm_journal.specs.declared.entry.Entry.{Entry}
use Rattle.pager_model.specs.Order.{IsInOrder}
use Rattle.pager_model.specs.Run.{pager_after}
use Rattle.pager_model.specs.Spoken.{ShowsReply, flat_after}
use Rattle.pager_model.specs.Step.{IsLegal}
use Rattle.shadow_flat.specs.Kept.{KeepsFlat, kept}
use Rattle.shadow_pager.specs.Shown.{shown}
use Rattle.log_check.specs.Follows.{Follows}
use Rattle.log_check.specs.declared.followed.Followed.{Followed}

-- the pager's state and the bytes of pages are those after the entries, which are a run in order
pub record IsFollowed (f : Followed) : Type 0 where
  pub follows : Follows f.past.config f.past.past (shown f.pager)
  pub bytes : KeepsFlat f.past.config (flat_after f.past.config f.past.past) (kept f.bytes)

-- the entry is legal behind them
abbrev pub MayStep : Followed → Entry → Type 0
MayStep f e = IsLegal f.past.config f.past.past (pager_after f.past.config f.past.past) e

-- and keeps the order of its process's requests
abbrev pub KeepsOrder : Followed → Entry → Type 0
KeepsOrder f e = IsInOrder f.past.config (e ∷ f.past.past)

-- and shows the flat reply if it is a DONE
abbrev pub IsRightIn : Followed → Entry → Type 0
IsRightIn f e = ShowsReply f.past.config (flat_after f.past.config f.past.past) (e.seat).0 e.what

-- one entry more, and the same bytes of pages
pub record IsAdded (old : Followed) (e : Entry) (new : Followed) : Type 0 where
  pub past : new.past ≡ record { config = old.past.config; past = e ∷ old.past.past }
  pub pager : (shown new.pager).pager ≡ pager_after old.past.config (e ∷ old.past.past)
  pub frames : (shown new.pager).frames ≡ (shown old.pager).frames
  pub processes : (shown new.pager).processes ≡ (shown old.pager).processes
  pub bytes : new.bytes ≡ old.bytes

-- a next entry
pub record MayEnter (f : Followed) (e : Entry) : Type 0 where
  pub legal : MayStep f e
  pub in_order : KeepsOrder f e
  pub right : IsRightIn f e

pub record HasEntered (old : Followed) (e : Entry) (new : Followed) : Type 0 where
  pub may : MayEnter old e
  pub past : new.past ≡ record { config = old.past.config; past = e ∷ old.past.past }
  pub followed : IsFollowed new

-- it has come, or it may not
abbrev pub IsEntered : Followed → Entry → Followed → Bool → Type 0
IsEntered old e new true = HasEntered old e new
IsEntered old e new false = MayEnter old e → ⊥
