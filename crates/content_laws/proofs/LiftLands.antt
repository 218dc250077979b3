-- A lift that fits and was carried may land: the rows of its four landings.
use Rattle.std.proofs.Common.{◌≡◌, ℕ, Bool, true, false, List, Some, find, refl, sym, ◌∙◌, subst}
use Rattle.std.proofs.lemmas.Bool.{false≢true, true≢false}
use Rattle.vm_types.specs.declared.names.BlockId.{BlockId}
use Rattle.vm_types.specs.declared.config.Config.{Config}
use Rattle.vm_journal.specs.declared.entry.Entry.{Entry}
use Rattle.vm_journal.specs.declared.entry.Role.{Role}
use Rattle.content_laws.proofs.CarriedFits.{bad_is_counted}
use Rattle.pager_model.specs.Counted.{IsCounted}
use Rattle.pager_model.specs.Fits.{FitsLift, Lift, bad}
use Rattle.pager_model.specs.Flights.{Direction, Flight, is_reading, open_flights, reading, writing}
use Rattle.pager_model.specs.InFail.{IsInFail}
use Rattle.pager_model.specs.InOk.{IsInOk, IsLanding}
use Rattle.pager_model.specs.OutLanding.{IsOutFail, IsOutOk}
use Rattle.pager_model.specs.Pager.{Pager}
use Rattle.pager_model.specs.Transfers.{starts}

read_role : (d : Direction) → is_reading d ≡ true → (r : Role) × (d ≡ reading r)
read_role (reading r) reads = (r, refl)
read_role writing reads = absurd (false≢true reads)

is_write : (d : Direction) → is_reading d ≡ false → d ≡ writing
is_write (reading r) writes = absurd (true≢false writes)
is_write writing writes = refl

module _ (tells tells_plan : Bool) (config : Config) (past : List Entry) (a : Pager) (lift : Lift) (fits : FitsLift tells tells_plan config past a lift) (seat : ℕ) (own : (fits.0).seat ≡ seat) where
  abbrev x : Flight
  x = fits.0

  lands : IsLanding past seat lift.frame lift.start x
  lands = record { open_k = subst (λ (j : ℕ). find (starts j) (open_flights past) ≡ Some x) ((fits.1).flight).start (fits.1).found_x; seat = own; frame = ((fits.1).flight).frame }

  counted : (c d : ℕ) → lift.result ≡ bad c d → IsCounted past x.block c d
  counted c d landed = let says = bad_is_counted tells tells_plan config past a lift c d fits landed in subst (λ (b : BlockId). IsCounted past b c d) (sym ((fits.1).flight).block) says

  pub in_ok_legal : lift.is_read ≡ true → IsInOk past seat lift.frame lift.start
  in_ok_legal reads = let by = read_role x.direction (((fits.1).flight).direction ∙ reads) in record { flight = x; lands = lands; role = by.0; reads = by.1 }

  pub in_fail_legal : (c d : ℕ) → lift.is_read ≡ true → lift.result ≡ bad c d → IsInFail past seat lift.frame lift.start c d
  in_fail_legal c d reads landed = let by = read_role x.direction (((fits.1).flight).direction ∙ reads) in record { flight = x; lands = lands; role = by.0; reads = by.1; counted = counted c d landed }

  pub out_ok_legal : lift.is_read ≡ false → IsOutOk past seat lift.frame lift.start
  out_ok_legal writes = record { flight = x; lands = lands; writes = is_write x.direction (((fits.1).flight).direction ∙ writes) }

  pub out_fail_legal : (c d : ℕ) → lift.is_read ≡ false → lift.result ≡ bad c d → IsOutFail past seat lift.frame lift.start c d
  unfolding out_ok_legal
  out_fail_legal c d writes landed = record { write = out_ok_legal writes; counted = counted c d landed }
