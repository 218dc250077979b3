-- What a process's next request is, as its pass's journal goes on.
use Rattle.std.proofs.Common.{◌≡◌, ℕ, ◌+◌, Bool, true, false, cond, List, [], ◌∷◌, ◌++◌, Option, Some, None, length, nat_eq, reverse, refl, sym, ap, ◌∙◌, subst, append_assoc, append-nil, arith, length-append}
use Rattle.std.specs.Prelude.{Contains, slice_get, take}
use Rattle.std.specs.List.{AllByRecursion}
use Rattle.std.proofs.lemmas.Bool.{eq-eqb, eqb-true, false≢true}
use Rattle.std.proofs.lemmas.List.{length-take-le, take_more}
use Rattle.std.proofs.lemmas.Option.{get_or_from_slice_get, slice_get_within}
use Rattle.vm_types.specs.declared.config.Config.{Config}
use Rattle.vm_types.specs.declared.names.Seat.{Seat}
use Rattle.vm_types.specs.declared.service.Request.{Request}
use Rattle.vm_journal.specs.declared.entry.Entry.{Entry}
use Rattle.pager_model.specs.Order.{answered, requests_of, spoken_by}
use Rattle.pager_model.specs.Spoken.{request_of}
use Rattle.entry_causes.specs.NextRequest.{next_request}
use Rattle.frame_store.proofs.Rows.{get_right}
use Rattle.vm_state.specs.declared.base.StateBase.{StateBase}
use Rattle.seat_turns.specs.declared.turned.Spoken.{Spoken}
use Rattle.vm_actors.specs.InTurns.{AreLeft, IsNext}
use Rattle.vm_actors.specs.OwnEntries.{AreSilent, EndsInAnswer, GoesOnSilently, GoesOnWith, IsReplied, is_of, own_of}
use Rattle.vm_actors.proofs.Answering.{asks, none_asked}
use Rattle.vm_actors.proofs.Foreign.{IsForeign}
use Rattle.vm_actors.proofs.Onto.{onto, onto_reverse}
use Rattle.vm_actors.proofs.OwnTurns.{is_own}

-- ---- what later entries answer of a process, oldest first
abbrev replies_of : ℕ → List Entry → List Request
replies_of p [] = []
replies_of p (e ∷ later) = spoken_by p (e.seat).0 (request_of e.what) ++ replies_of p later

answered_onto : (p : ℕ) (later past : List Entry) → answered p (onto past later) ≡ answered p past ++ replies_of p later
answered_onto p [] past = sym (append-nil (answered p past))
answered_onto p (e ∷ later) past = answered_onto p later (e ∷ past) ∙ append_assoc (answered p past) (spoken_by p (e.seat).0 (request_of e.what)) (replies_of p later)

-- an entry of another seat, or one that answers nothing, answers nothing of it
none_by : (p seat : ℕ) (o : Option Request) → nat_eq seat p ≡ false → spoken_by p seat o ≡ []
none_by p seat None other = refl
none_by p seat (Some x) other = ap (λ (b : Bool). cond b (x ∷ []) []) other

replies_then : (p : ℕ) (xs ys : List Entry) → replies_of p (xs ++ ys) ≡ replies_of p xs ++ replies_of p ys
replies_then p [] ys = refl
replies_then p (x ∷ xs) ys =
    ap (λ (rs : List Request). spoken_by p (x.seat).0 (request_of x.what) ++ rs) (replies_then p xs ys)
    ∙ sym (append_assoc (spoken_by p (x.seat).0 (request_of x.what)) (replies_of p xs) (replies_of p ys))

no_replies : (p : ℕ) (later : List Entry) → AllByRecursion (IsForeign p) later → replies_of p later ≡ []
no_replies p [] foreign = refl
no_replies p (e ∷ later) foreign =
    ap (λ (rs : List Request). rs ++ replies_of p later) (none_by p (e.seat).0 (request_of e.what) foreign.0) ∙ no_replies p later foreign.1

silent_replies : (p : ℕ) (later : List Entry) → AreSilent later → replies_of p later ≡ []
silent_replies p [] silent = refl
silent_replies p (e ∷ later) silent =
    ap (λ (o : Option Request). spoken_by p (e.seat).0 o ++ replies_of p later) (none_asked e.what silent.0) ∙ silent_replies p later silent.1

module _ (numbers : List ℕ) (p : ℕ) (has : Contains numbers p) where
  -- only own entries can answer it
  own_replies : (later : List Entry) → replies_of p (own_of numbers later) ≡ replies_of p later
  own_replies [] = refl
  own_replies (e ∷ later) = by (is_of numbers e) refl (own_replies later)
    where
      not_own : (c : Bool) → nat_eq (e.seat).0 p ≡ c → is_of numbers e ≡ false → nat_eq (e.seat).0 p ≡ false
      not_own false is out = is
      not_own true is out = absurd (false≢true (sym out ∙ is_own numbers e (subst (Contains numbers) (sym (eqb-true (e.seat).0 p is)) has)))

      by : (b : Bool) → is_of numbers e ≡ b → replies_of p (own_of numbers later) ≡ replies_of p later → replies_of p (cond b (e ∷ own_of numbers later) (own_of numbers later)) ≡ spoken_by p (e.seat).0 (request_of e.what) ++ replies_of p later
      by true is rest = ap (λ (rs : List Request). spoken_by p (e.seat).0 (request_of e.what) ++ rs) rest
      by false is rest = rest ∙ sym (ap (λ (rs : List Request). rs ++ replies_of p later) (none_by p (e.seat).0 (request_of e.what) (not_own (nat_eq (e.seat).0 p) refl is)))

  -- what is answered as the journal goes on
  answered_on : (Are : List Entry → Type 0) (a b : List Entry) (more : GoesOnWith Are numbers a b) → answered p (reverse b) ≡ answered p (reverse a) ++ replies_of p (own_of numbers more.later)
  answered_on Are a b more =
      ap (λ (xs : List Entry). answered p (reverse xs)) (sym more.whole)
      ∙ (ap (answered p) (onto_reverse a more.later)
      ∙ (answered_onto p more.later (reverse a) ∙ ap (λ (rs : List Request). answered p (reverse a) ++ rs) (sym (own_replies more.later))))

  pub answered_still : (a b : List Entry) → GoesOnSilently numbers a b → answered p (reverse b) ≡ answered p (reverse a)
  answered_still a b more =
      answered_on AreSilent a b more
      ∙ (ap (λ (rs : List Request). answered p (reverse a) ++ rs) (silent_replies p (own_of numbers more.later) more.own) ∙ append-nil (answered p (reverse a)))

  pub still_next : (base : Option StateBase) (x : Request) (a b : List Entry) → GoesOnSilently numbers a b → IsNext base p x a → IsNext base p x b
  still_next None x a b more next = next
  still_next (Some y) x a b more next = ap (λ (xs : List Request). slice_get (requests_of p y.config.body) (length xs)) (answered_still a b more) ∙ next

  ends_replies : (seat : Seat) (x : Request) (shown : Spoken) (later : List Entry) → seat.0 ≡ p → EndsInAnswer seat x shown later → replies_of p later ≡ x ∷ []
  ends_replies seat x shown later same ends =
      ap (replies_of p) ends.entries_are
      ∙ (replies_then p ends.before (ends.last ∷ [])
      ∙ (ap (λ (rs : List Request). rs ++ (spoken_by p (ends.last.seat).0 (request_of ends.last.what) ++ [])) (silent_replies p ends.before ends.silent)
      ∙ (append-nil (spoken_by p (ends.last.seat).0 (request_of ends.last.what))
      ∙ (ap (λ (o : Option Request). spoken_by p (ends.last.seat).0 o) (asks x shown ends.last.what ends.answer)
      ∙ ap (λ (b : Bool). cond b (x ∷ []) []) (eq-eqb (ends.last.seat).0 p (ap (λ (z : Seat). z.0) ends.seat_is ∙ same))))))

  -- one request more of the work
  pub one_answered : (seat : Seat) (x : Request) (shown : Spoken) (done : List Request) (work : List Request) (i : ℕ) (b c : List Entry) → seat.0 ≡ p → slice_get work i ≡ Some x
      → answered p (reverse b) ≡ done ++ take i work → IsReplied seat x numbers b c shown → answered p (reverse c) ≡ done ++ take (i + 1) work
  one_answered seat x shown done work i b c same is before replied =
      answered_on (EndsInAnswer seat x shown) b c replied
      ∙ (ap (λ (rs : List Request). answered p (reverse b) ++ rs) (ends_replies seat x shown (own_of numbers replied.later) same replied.own)
      ∙ (ap (λ (rs : List Request). rs ++ x ∷ []) before
      ∙ (append_assoc done (take i work) (x ∷ [])
      ∙ ap (λ (rs : List Request). done ++ rs) (sym (take_more work i x (slice_get_within work i x is) ∙ ap (λ (z : Request). take i work ++ z ∷ []) (get_or_from_slice_get work i x x is))))))

-- ---- entries of other seats
pub next_after : (config : Config) (p : ℕ) (later past : List Entry) → AllByRecursion (IsForeign p) later → next_request config (onto past later) p ≡ next_request config past p
next_after config p later past foreign =
    ap (λ (xs : List Request). slice_get (requests_of p config.body) (length xs))
    (answered_onto p later past ∙ (ap (λ (rs : List Request). answered p past ++ rs) (no_replies p later foreign) ∙ append-nil (answered p past)))

-- ---- the next request of the work
pub next_left : (base : Option StateBase) (p : ℕ) (work : List Request) (i : ℕ) (x : Request) (a b : List Entry) → slice_get work i ≡ Some x → AreLeft base p work a
    → answered p (reverse b) ≡ answered p (reverse a) ++ take i work → IsNext base p x b
next_left None p work i x a b is left done = left
next_left (Some y) p work i x a b is left done =
    let within = slice_get_within work i x is in
    let front = length-take-le i work (omega (arith, within)) in
    let count : length (answered p (reverse b)) ≡ length (answered p (reverse a)) + i = ap length done ∙ (length-append (answered p (reverse a)) (take i work) ∙ ap (λ (n : ℕ). length (answered p (reverse a)) + n) front) in
    ap (slice_get (requests_of p y.config.body)) count
    ∙ (ap (λ (xs : List Request). slice_get xs (length (answered p (reverse a)) + i)) (sym left) ∙ get_right (answered p (reverse a)) work i x is)
