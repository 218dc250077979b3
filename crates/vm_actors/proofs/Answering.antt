-- The requests that later entries answer.
use Rattle.std.proofs.Common.{◌≡◌, ◌⊎◌, ◌≤◌, ℕ, ◌+◌, false, List, [], ◌∷◌, ◌++◌, Option, Some, None, refl, sym, ap, ◌∙◌, subst, append-nil, arith, inl, inr, length}
use Rattle.std.specs.Prelude.{All, slice_get, take, drop}
use Rattle.std.proofs.lemmas.Bool.{false≢true}
use Rattle.std.proofs.lemmas.List.{nil_from_length, take-append-drop, take_all, take_more}
use Rattle.std.proofs.lemmas.List.Elements.{All-get_or}
use Rattle.std.proofs.lemmas.Option.{get_or_from_slice_get, slice_get_within}
use Rattle.vm_types.specs.declared.names.Seat.{Seat}
use Rattle.vm_types.specs.declared.service.Request.{Request}
use Rattle.vm_types.specs.declared.service.Request.TheVariants.{Reference, Service}
use Rattle.vm_journal.specs.Journal.{is_answer}
use Rattle.vm_journal.specs.declared.entry.Entry.{Entry}
use Rattle.vm_journal.specs.declared.entry.What.{What}
use Rattle.vm_journal.specs.declared.entry.What.TheVariants as what
use Rattle.pager_model.specs.Spoken.{request_of}
use Rattle.seat_turns.specs.Steps.{AnswersAs}
use Rattle.seat_turns.specs.declared.turned.Spoken.{Spoken}
use Rattle.seat_turns.specs.declared.turned.Spoken.TheVariants.{Answer, Reply}
use Rattle.vm_actors.specs.Between.{IsCalm}
use Rattle.vm_actors.specs.OwnEntries.{AreSilent, EndsInAnswer, GoesOnSilently, IsReplied, own_of}
use Rattle.vm_actors.specs.Requests.{AreAnswers, AreFirstAnswers, HasAnswered, HasAnsweredSome, requests_in, with_request}
use Rattle.vm_actors.proofs.OwnTurns.{goes_both, goes_nowhere}

pub none_asked : (w : What) → is_answer w ≡ false → request_of w ≡ None
none_asked (what.Done r shown) is = absurd (false≢true (sym is))
none_asked (what.Denied r why) is = absurd (false≢true (sym is))
none_asked (what.Served s answer) is = absurd (false≢true (sym is))
none_asked other is = refl

pub silent_ask : (entries : List Entry) → AreSilent entries → requests_in entries ≡ []
silent_ask [] silent = refl
silent_ask (e ∷ entries) silent = ap (λ (o : Option Request). with_request o (requests_in entries)) (none_asked e.what silent.0) ∙ silent_ask entries silent.1

with_then : (o : Option Request) (xs ys : List Request) → with_request o (xs ++ ys) ≡ with_request o xs ++ ys
with_then None xs ys = refl
with_then (Some x) xs ys = refl

requests_then : (xs ys : List Entry) → requests_in (xs ++ ys) ≡ requests_in xs ++ requests_in ys
requests_then [] ys = refl
requests_then (x ∷ xs) ys = ap (with_request (request_of x.what)) (requests_then xs ys) ∙ with_then (request_of x.what) (requests_in xs) (requests_in ys)

pub asks : (x : Request) (shown : Spoken) (w : What) → AnswersAs x shown w → request_of w ≡ Some x
asks (Reference r) (Reply shown) (what.Done q given) is = ap (λ z. Some (Reference z)) is.0
asks (Reference r) (Reply shown) (what.Denied q why) is = ap (λ z. Some (Reference z)) is.0
asks (Service s) (Answer shown) (what.Served x given) is = ap (λ z. Some (Service z)) is.0
asks x shown other is = absurd is

ends_asks : (seat : Seat) (x : Request) (shown : Spoken) (entries : List Entry) → EndsInAnswer seat x shown entries → requests_in entries ≡ x ∷ []
ends_asks seat x shown entries ends =
    ap requests_in ends.entries_are
    ∙ (requests_then ends.before (ends.last ∷ [])
    ∙ (ap (λ (xs : List Request). xs ++ with_request (request_of ends.last.what) []) (silent_ask ends.before ends.silent)
    ∙ ap (λ (o : Option Request). with_request o []) (asks x shown ends.last.what ends.answer)))

module _ (numbers : List ℕ) (a b c : List Entry) (work : List Request) (i : ℕ) (before : HasAnswered numbers a b (take i work)) where
  -- one request more of the work
  pub answered_more : (seat : Seat) (x : Request) (shown : Spoken) → slice_get work i ≡ Some x → IsReplied seat x numbers b c shown → HasAnswered numbers a c (take (i + 1) work)
  answered_more seat x shown is replied =
      subst (HasAnswered numbers a c) (sym (take_more work i x (slice_get_within work i x is) ∙ ap (λ (z : Request). take i work ++ z ∷ []) (get_or_from_slice_get work i x x is)))
      (goes_both numbers (AreAnswers (take i work)) (EndsInAnswer seat x shown) (AreAnswers (take i work ++ x ∷ [])) more a b c before replied)
    where
      more : (xs ys : List Entry) → AreAnswers (take i work) xs → EndsInAnswer seat x shown ys → AreAnswers (take i work ++ x ∷ []) (xs ++ ys)
      more xs ys first ends =
          requests_then xs ys
          ∙ (ap (λ (zs : List Request). zs ++ requests_in ys) first ∙ ap (λ (zs : List Request). take i work ++ zs) (ends_asks seat x shown ys ends))

  -- and no more than those
  pub answered_some : GoesOnSilently numbers b c → HasAnsweredSome numbers a c work
  answered_some silent = goes_both numbers (AreAnswers (take i work)) AreSilent (AreFirstAnswers work) first a b c before silent
    where
      first : (xs ys : List Entry) → AreAnswers (take i work) xs → AreSilent ys → AreFirstAnswers work (xs ++ ys)
      first xs ys answers silent = (
        drop i work,
        ap (λ (zs : List Request). zs ++ drop i work) (requests_then xs ys ∙ (ap (λ (zs : List Request). requests_in xs ++ zs) (silent_ask ys silent) ∙ (append-nil (requests_in xs) ∙ answers)))
            ∙ take-append-drop i work,
      )

-- all of it is a beginning of it
pub all_some : (numbers : List ℕ) (a b : List Entry) (work : List Request) → HasAnswered numbers a b work → HasAnsweredSome numbers a b work
all_some numbers a b work all = record { later = all.later; whole = all.whole; own = ([], append-nil (requests_in (own_of numbers all.later)) ∙ all.own) }

-- ---- the work of a process
pub all_at : (P : Request → Type 0) (work : List Request) (i : ℕ) (x : Request) → All P work → slice_get work i ≡ Some x → P x
all_at P work i x all is = subst P (get_or_from_slice_get work i x x is) (All-get_or P work i x (slice_get_within work i x is) all)

pub answered_none : (numbers : List ℕ) (a : List Entry) (work : List Request) → HasAnswered numbers a a (take 0 work)
answered_none numbers a work = goes_nowhere numbers (AreAnswers (take 0 work)) a refl

pub answered_all : (numbers : List ℕ) (a b : List Entry) (work : List Request) (i : ℕ) → length work ≤ i → HasAnswered numbers a b (take i work) → HasAnswered numbers a b work
answered_all numbers a b work i end done = subst (HasAnswered numbers a b) (take_all i work end) done

-- no reuse is due once a request was asked for
pub calm_after : (work : List Request) (i : ℕ) (old now : List Entry) → length work ≤ i → ((i ≡ 0) × (now ≡ old)) ⊎ IsCalm now → (work ≡ [] → IsCalm old) → IsCalm now
calm_after work i old now end (inl first) calm = subst IsCalm (sym first.1) (calm (nil_from_length work (let none = first.0 in omega (arith, end, none))))
calm_after work i old now end (inr is) calm = is
