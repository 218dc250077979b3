-- Carriers that write: nothing but where pages lie changes, and what the seat works at goes on.
use Rattle.std.proofs.Common.{◌≡◌, inl, ℕ, ◌+◌, ◌<◌, Bool, true, false, cond, List, [], ◌∷◌, length, refl, sym, ap, subst, arith}
use Rattle.std.specs.List.{AllByRecursion}
use Rattle.std.proofs.lemmas.Bool.{false≢true, true≢false}
use Rattle.std.proofs.lemmas.Option.{same_Some}
use Rattle.vm_types.specs.declared.names.Addr.{Addr}
use Rattle.vm_types.specs.declared.names.BlockId.{BlockId}
use Rattle.vm_types.specs.declared.names.Pfn.{Pfn}
use Rattle.vm_types.specs.declared.names.Proc.{Proc}
use Rattle.vm_types.specs.declared.config.Config.{Config}
use Rattle.vm_journal.specs.declared.entry.Entry.{Entry}
use Rattle.vm_journal.specs.declared.entry.Role.TheVariants as role
use Rattle.vm_journal.specs.declared.entry.What.{What}
use Rattle.vm_journal.specs.declared.entry.What.TheVariants as what
use Rattle.pager_model.specs.Flights.{Direction, Flight, open_flights, reading, writing, carrier_of}
use Rattle.pager_policy.specs.Given.{by_seat, made_by}
use Rattle.pager_policy.specs.Landings.{Outcome, all_bad}
use Rattle.pager_policy.specs.Moves.{After, Control, asking, carries, control, goes, refuses}
use Rattle.pager_policy.specs.Policy.{Ends, ends_part, ends_request, failing, unless_all_failed}
use Rattle.pager_model.specs.Run.{pager_after}
use Rattle.pager_rules.proofs.Basics.{each_weaker}
use Rattle.serial_laws.specs.Controlled.{IsControlled}
use Rattle.serial_laws.proofs.Carriers.{BeginsWith, IsBegun, begun_first, begun_made, carries_all, is_beginning}
use Rattle.serial_laws.proofs.Known.{IsCarrying, IsRefusal, MoveIsKnown, landed_from}
use Rattle.serial_laws.proofs.Landed.{enters, landed_none, landed_steady}
use Rattle.serial_laws.proofs.Steps.{is_steady, may_enter, none_made, none_then, steady_made, steady_then}
use Rattle.serial_laws.proofs.Work.{HasEnded, IsQuiet}

-- ---- a carrier whose failure matters only if it is of all lifts
abbrev control_of : After → Control
control_of (goes c) = c
control_of refuses = control asking

abbrev is_refusing : After → Bool
is_refusing (goes c) = false
is_refusing refuses = true

pub same_control : (c d : Control) → goes c ≡ goes d → c ≡ d
same_control c d is = ap control_of is

pub goes_not : {X : Type 0} (c : Control) → goes c ≡ refuses → X
goes_not c is = absurd (false≢true (ap is_refusing is))

module _ (config : Config) (past : List Entry) (Rest : Type 0) (seat : ℕ) (ws : List What) (ends : Ends) (c : Control) (some : 0 < length ws) (carrying : IsCarrying (made_by seat ws past) seat) where
  abbrev begun : List Entry
  begun = made_by seat ws past

  on_known : (goes_on : (outcomes : List Outcome) → IsControlled config (landed_from config begun seat outcomes) c) (ended : (outcomes : List Outcome) → HasEnded config seat ends (landed_from config begun seat outcomes))
      → (outcomes : List Outcome) (d : Control) (e : Ends) → e ≡ ends → (b : Bool) → cond b (failing e) (goes c) ≡ goes d → IsControlled config (landed_from config begun seat outcomes) d
  on_known goes_on ended outcomes d e same false is = subst (λ (x : Control). IsControlled config (landed_from config begun seat outcomes) x) (same_control c d is) (goes_on outcomes)
  on_known goes_on ended outcomes d ends_request same true is = goes_not d (sym is)
  on_known goes_on ended outcomes d (ends_part x) same true is = subst (λ (y : Control). IsControlled config (landed_from config begun seat outcomes) y) (same_control x d is) (subst (λ (y : Ends). HasEnded config seat y (landed_from config begun seat outcomes)) (sym same) (ended outcomes))

  refusal_known : (ended : (outcomes : List Outcome) → HasEnded config seat ends (landed_from config begun seat outcomes)) → ((q : Proc) (at : Addr) → carrying.first.direction ≡ reading (role.Fault q at) → ⊥)
      → (outcomes : List Outcome) (e : Ends) → e ≡ ends → (b : Bool) → all_bad outcomes ≡ b → cond b (failing e) (goes c) ≡ refuses → IsRefusal config (landed_from config begun seat outcomes) seat carrying.first outcomes
  refusal_known ended not_fault outcomes e same false all is = goes_not c is
  refusal_known ended not_fault outcomes (ends_part x) same true all is = goes_not x is
  refusal_known ended not_fault outcomes ends_request same true all is = record {
    may = subst (λ (y : Ends). HasEnded config seat y (landed_from config begun seat outcomes)) (sym same) (ended outcomes);
    failed = inl all;
    named = λ r q at own is_read. absurd (not_fault q at is_read);
  }

  pub unless_all_known : ((outcomes : List Outcome) → IsControlled config (landed_from config begun seat outcomes) c) → ((outcomes : List Outcome) → HasEnded config seat ends (landed_from config begun seat outcomes))
      → ((q : Proc) (at : Addr) → carrying.first.direction ≡ reading (role.Fault q at) → ⊥) → MoveIsKnown config past Rest (carries seat ws (unless_all_failed ends c))
  unless_all_known goes_on ended not_fault = record {
    known = record {
      some = some;
      carrying = carrying;
      goes_on = λ outcomes d is each. on_known goes_on ended outcomes d ends refl (all_bad outcomes) is;
      refused = λ outcomes is each. refusal_known ended not_fault outcomes ends refl (all_bad outcomes) refl is;
    };
  }

-- ---- a carrier of writes
abbrev is_write : Direction → Bool
is_write writing = true
is_write (reading r) = false

abbrev pub is_out_entry : What → Bool
is_out_entry (what.Out f b) = true
is_out_entry other = false

abbrev pub Writes : List What → Type 0
Writes ws = AllByRecursion (λ (w : What). is_out_entry w ≡ true) ws

abbrev pub IsWrite : Flight → Type 0
IsWrite x = x.direction ≡ writing

-- what is known of each write
record OfWrite (seat : ℕ) (w : What) : Type 0 where
  pub steady : is_steady w ≡ true
  pub enters_not : may_enter w ≡ false
  pub begins : is_beginning w ≡ true
  pub kind : BeginsWith IsWrite seat w

of_write : (seat : ℕ) (w : What) → is_out_entry w ≡ true → OfWrite seat w
of_write seat (what.Out f b) is = record { steady = refl; enters_not = refl; begins = refl; kind = λ n x begins. sym (ap (λ (y : Flight). y.direction) (same_Some _ x begins)) }
of_write seat other is = absurd (false≢true is)

module _ (config : Config) (past : List Entry) (seat : ℕ) (landed : open_flights past ≡ []) (f : Pfn) (b : BlockId) (rest : List What) (writes : Writes rest) where
  abbrev all_writes : List What
  all_writes = what.Out f b ∷ rest

  abbrev pub first_write : Flight
  first_write = record { start = length past + 1; seat = seat; frame = f.0; block = b; direction = writing }

  of_each : AllByRecursion (OfWrite seat) rest
  of_each = each_weaker (λ (w : What). is_out_entry w ≡ true) (OfWrite seat) (of_write seat) rest writes

  pub begun_writes : IsBegun IsWrite (made_by seat (what.Out f b ∷ rest) past) seat first_write
  begun_writes =
      begun_made IsWrite seat first_write rest (by_seat seat (what.Out f b) ∷ past) (each_weaker (OfWrite seat) (λ (w : What). is_beginning w ≡ true) (λ w of. of.begins) rest of_each) (each_weaker (OfWrite seat) (BeginsWith IsWrite seat) (λ w of. of.kind) rest of_each)
      (begun_first IsWrite past seat (what.Out f b) first_write landed refl refl)

  abbrev pub carrying_writes : IsCarrying (made_by seat (what.Out f b ∷ rest) past) seat
  carrying_writes = record { first = first_write; more = begun_writes.more; carries = carries_all IsWrite (made_by seat (what.Out f b ∷ rest) past) seat first_write begun_writes; carrier = begun_writes.carrier }

  -- once they have landed
  writes_quiet : (outcomes : List Outcome) → IsQuiet config past (landed_from config (made_by seat (what.Out f b ∷ rest) past) seat outcomes)
  writes_quiet outcomes =
      let made = made_by seat (what.Out f b ∷ rest) past in
      record {
        steady = steady_then config past made (landed_from config made seat outcomes) (steady_made config seat (what.Out f b ∷ rest) past (refl, each_weaker (OfWrite seat) (λ (w : What). is_steady w ≡ true) (λ w of. of.steady) rest of_each)) (landed_steady config seat (carrier_of seat made) outcomes made);
        none = none_then (pager_after config past) (pager_after config made) (pager_after config (landed_from config made seat outcomes)) (none_made config seat (what.Out f b ∷ rest) past (refl, each_weaker (OfWrite seat) (λ (w : What). may_enter w ≡ false) (λ w of. of.enters_not) rest of_each))
            (landed_none config seat (carrier_of seat made) outcomes made (each_weaker IsWrite (λ (x : Flight). enters x.direction ≡ false) (λ x is. ap enters is) (open_flights made) begun_writes.each));
      }

  pub writes_known : (Rest : Type 0) (ends : Ends) (c : Control) → ((more : List Entry) → IsQuiet config past more → IsControlled config more c) → ((more : List Entry) → IsQuiet config past more → HasEnded config seat ends more)
      → MoveIsKnown config past Rest (carries seat (what.Out f b ∷ rest) (unless_all_failed ends c))
  writes_known Rest ends c goes_on ended =
      unless_all_known config past Rest seat (what.Out f b ∷ rest) ends c (omega arith) carrying_writes (λ outcomes. goes_on _ (writes_quiet outcomes)) (λ outcomes. ended _ (writes_quiet outcomes)) (λ q at is. true≢false (ap is_write is))
