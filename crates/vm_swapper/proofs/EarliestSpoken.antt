-- The process that leaves, by the last spoken entry of each.
use Rattle.std.proofs.Common.{◌≡◌, ℕ, ◌+◌, ◌-◌, ◌&&◌, Bool, true, false, cond, List, [], ◌∷◌, Option, filter, length, nat_eq, refl}
use Rattle.std.specs.Option.{is_some, unwrap_or}
use Rattle.std.specs.List.{range_with_len}
use Rattle.vm_journal.specs.declared.entry.Entry.{Entry}
use Rattle.vm_journal.specs.declared.entry.What.{What}
use Rattle.vm_journal.specs.declared.entry.What.TheVariants as what
use Rattle.pager_model.specs.Spoken.{request_of}
use Rattle.pager_policy.specs.Swap.{earliest, last_spoken}
use Rattle.state_fits.specs.Spoken.{one_more, spoken_by, spoken_with}
use Rattle.state_parts.specs.declared.spoken_row.SpokenRow.{SpokenRow}

-- ---- the number of the last spoken entry
module _ (number : ℕ) (row : SpokenRow) (rest : ℕ) (is : unwrap_or row.last 0 ≡ rest) where
  speaks : (own : Bool) → unwrap_or (one_more own number row).last 0 ≡ cond (own && true) number rest
  speaks true = refl
  speaks false = is

  says_nothing : (own : Bool) → unwrap_or row.last 0 ≡ cond (own && false) number rest
  says_nothing true = is
  says_nothing false = is

  last_with : (w : What) (own : Bool) → unwrap_or (spoken_with w own number row).last 0 ≡ cond (own && is_some (request_of w)) number rest
  last_with (what.Done r reply) own = speaks own
  last_with (what.Denied r reason) own = speaks own
  last_with (what.Served s answer) own = speaks own
  last_with (what.Reuse f g) own = says_nothing own
  last_with (what.Zero address f) own = says_nothing own
  last_with (what.Back q address f from) own = says_nothing own
  last_with (what.Collide address f k) own = says_nothing own
  last_with (what.In f b r) own = says_nothing own
  last_with (what.InOk f k) own = says_nothing own
  last_with (what.InFail f k c d) own = says_nothing own
  last_with (what.Out f b) own = says_nothing own
  last_with (what.OutOk f k) own = says_nothing own
  last_with (what.OutFail f k c d) own = says_nothing own
  last_with (what.Evict q address f reason to) own = says_nothing own
  last_with (what.Limit n faults) own = says_nothing own
  last_with (what.Turn q s) own = says_nothing own

pub last_is : (p : ℕ) (past : List Entry) → unwrap_or (spoken_by p past).last 0 ≡ last_spoken p past
last_is p [] = refl
last_is p (e ∷ past) = last_with (length past + 1) (spoken_by p past) (last_spoken p past) (last_is p past) e.what (nat_eq (e.seat).0 p)

-- the earliest of those from a number on
module _ (key : ℕ → ℕ) (t : ℕ → Bool) (n : ℕ) where
  abbrev pub earliest_from : ℕ → Option ℕ
  earliest_from k = earliest key (filter t (range_with_len k (n - k)))
