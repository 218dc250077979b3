-- What a step leaves, by what was given for it.
use Rattle.std.proofs.Common.{◌≡◌, ℕ, ◌+◌, ◌≤◌, Bool, true, false, [], ◌∷◌, Option, Some, None, refl, sym, ap, ◌∙◌, subst, arith}
use Rattle.std.proofs.lemmas.Option.{none-some}
use Rattle.vm_types.specs.BlockView.{BlockView, Tells}
use Rattle.vm_types.specs.declared.names.Addr.{Addr}
use Rattle.vm_types.specs.declared.names.Page.{Page}
use Rattle.vm_types.specs.declared.names.Pfn.{Pfn}
use Rattle.vm_types.specs.declared.names.Seat.{Seat}
use Rattle.vm_types.specs.declared.reference.Ref.{Ref}
use Rattle.vm_types.specs.declared.reply.Reply.{Reply}
use Rattle.vm_types.specs.declared.reply.Reply.TheVariants as reply
use Rattle.vm_types.specs.declared.reply.Why.{Why}
use Rattle.vm_journal.specs.declared.entry.What.{What}
use Rattle.vm_journal.specs.declared.entry.What.TheVariants as what
use Rattle.pager_policy.specs.Advance.{AgainWhy as Reason, GivenNext, NextIs, gives_again, next_again, next_answered, next_carry, next_more}
use Rattle.pager_model.specs.Flat.{FlatState, flat_refusal, flat_reply, found_at, mapping_of, offset_in_page, reply_from, reply_unless}
use Rattle.pager_model.specs.Flights.{fails_read, open_flights}
use Rattle.pager_policy.specs.Given.{by_seat, given, reuse_first, unsaid, with_reply}
use Rattle.pager_model.specs.Maps.{pfn}
use Rattle.pager_model.specs.Spoken.{flat_after}
use Rattle.call_laws.specs.AreLegal.{IsLegalNext}
use Rattle.lift_carriers.specs.CarrierView.{CarrierView}
use Rattle.vm_state.specs.History.{History, MayAnswer, added, entry_by, owed}
use Rattle.vm_state.specs.LiftsLand.{added_each}
use Rattle.fault_core.specs.Gives.{Gives, MayGive, MayRefer, MaySeek, again_of, returned}
use Rattle.call_begins.proofs.Steps.{paid_first}
use Rattle.fault_core.specs.declared.next.Next.{Next}
use Rattle.fault_core.specs.declared.next.Next.TheVariants.{Again, Answered, More, Room}
use Rattle.fault_core.specs.declared.sought.Sought.{Sought}

-- ---- what may be made
pub may_as : (s : History) (seat : Seat) (g g' : GivenNext) → g ≡ g' → MayGive s seat g → MayGive s seat g'
may_as s seat g g' same may = subst (λ (x : GivenNext). MayGive s seat x) same may

pub refers_as : {B : Type 0} {s : History} {seat : Seat} {r : Ref} {old : CarrierView B} (g g' : GivenNext) → g ≡ g' → MayRefer s seat r g old → MayRefer s seat r g' old
refers_as {B} {s} {seat} {r} {old} g g' same may = subst (λ (x : GivenNext). MayRefer s seat r x old) same may

pub seeks_as : {B : Type 0} {s : History} {x : Sought} {old : CarrierView B} (g g' : GivenNext) → g ≡ g' → MaySeek s x g old → MaySeek s x g' old
seeks_as g g' same may = record { sought = may.sought; refers = refers_as g g' same may.refers }

abbrev pub IsFlat : Bool → History → Seat → Ref → Reply → Type 0
IsFlat tells s seat r shown = tells ≡ true → shown ≡ flat_reply s.config (flat_after s.config s.past) seat.0 r

-- ---- what is left
module _ {B : Type 0} {seen : B → BlockView} {tells : Tells} where
  pub gives_as : {before after : History} {seat : Seat} {r : Ref} {next : Next} {old new : CarrierView B} (g g' : GivenNext) → g ≡ g' → Gives seen tells before after seat r g' next old new → Gives seen tells before after seat r g next old new
  gives_as {before} {after} {seat} {r} {next} {old} {new} g g' same is = subst (λ (x : GivenNext). Gives seen tells before after seat r x next old new) (sym same) is

  -- nothing is made
  pub waits : (s : History) (seat : Seat) (r : Ref) (reason : Reason) (c : CarrierView B) (g : GivenNext) → g ≡ gives_again reason → Gives seen tells s s seat r g (Again (again_of reason)) c c
  waits s seat r reason c g same = gives_as g (gives_again reason) same (record {
    given = record { shown = unsaid; history = refl; answer = refl };
    right = λ t. tt;
    carrier = refl;
  })

  -- an entry is made, and the call is made again
  pub goes_on : (s after : History) (seat : Seat) (r : Ref) (w : What) (c : CarrierView B) (g : GivenNext) → g ≡ given (w ∷ []) next_more → with_reply unsaid w ≡ w → after ≡ added s (entry_by seat w) → Gives seen tells s after seat r g More c c
  goes_on s after seat r w c g same kept made = gives_as g (given (w ∷ []) next_more) same (record {
    given = record { shown = unsaid; history = made ∙ ap (λ (x : What). added s (entry_by seat x)) (sym kept); answer = refl };
    right = λ t. tt;
    carrier = refl;
  })

-- room isn't an answer of the rule
pub never_room : (n : NextIs) (shown : Option Reply) → Some Room ≡ returned n shown → ⊥
never_room next_answered None is = none-some _ (sym is)
never_room next_answered (Some x) is = cc
never_room next_carry shown is = cc
never_room next_more shown is = cc
never_room (next_again reason) shown is = cc

-- a reference that is answered behind one entry
pub may_answer_then : (s s' : History) (seat : Seat) (w : What) (r : Ref) → s' ≡ added s (entry_by seat w) → IsLegalNext s.config (by_seat seat.0 w ∷ s.past) seat.0 (what.Done r unsaid)
    → open_flights (entry_by seat w ∷ s.past) ≡ open_flights s.past → fails_read w ≡ false → owed s.past + 64 ≤ s.spare → MayAnswer s' seat r
may_answer_then s s' seat w r made legal flights calm room =
    subst (λ (x : History). MayAnswer x seat r) (sym made) (record {
      legal = legal;
      paid = let paid = paid_first s seat w 2 (omega arith) flights calm room in omega (arith, paid);
    })

module _ {B : Type 0} {seen : B → BlockView} {tells : Tells} where
  -- the reference is refused
  pub refused : (s after : History) (seat : Seat) (r : Ref) (reason : Why) (c : CarrierView B) (g : GivenNext) → g ≡ given (what.Denied r reason ∷ []) next_answered → Some reason ≡ flat_refusal s.config (flat_after s.config s.past) seat.0 r
      → after ≡ added s (entry_by seat (what.Denied r reason)) → Gives seen tells s after seat r g (Answered (reply.Refused reason)) c c
  refused s after seat r reason c g same why made = subst (λ (x : GivenNext). Gives seen tells s after seat r x (Answered (reply.Refused reason)) c c) (sym same) (record {
    given = record { shown = unsaid; history = made; answer = refl };
    right = λ t. ap (λ (o : Option Why). reply_unless o (reply_from r.op (found_at s.config (flat_after s.config s.past) seat.0 r (mapping_of (flat_after s.config s.past) seat.0 r)) (offset_in_page r))) why;
    carrier = refl;
  })

  -- it is answered
  pub answered : (s after : History) (seat : Seat) (r : Ref) (shown : Reply) (c : CarrierView B) (g : GivenNext) → g ≡ given (what.Done r unsaid ∷ []) next_answered
      → after ≡ added s (entry_by seat (what.Done r shown)) → IsFlat tells.content s seat r shown → Gives seen tells s after seat r g (Answered shown) c c
  answered s after seat r shown c g same made flat = subst (λ (x : GivenNext). Gives seen tells s after seat r x (Answered shown) c c) (sym same) (record {
    given = record { shown = shown; history = made; answer = refl };
    right = flat;
    carrier = refl;
  })

  -- it is answered behind one entry, which the flat machine doesn't see
  pub answered_then : (s s' after : History) (seat : Seat) (w : What) (r : Ref) (shown : Reply) (c : CarrierView B) (g : GivenNext) → g ≡ given (w ∷ what.Done r unsaid ∷ []) next_answered
      → s' ≡ added s (entry_by seat w) → with_reply shown w ≡ w → flat_after s.config (entry_by seat w ∷ s.past) ≡ flat_after s.config s.past
      → after ≡ added s' (entry_by seat (what.Done r shown)) → IsFlat tells.content s' seat r shown → Gives seen tells s after seat r g (Answered shown) c c
  answered_then s s' after seat w r shown c g same first kept unseen made flat = subst (λ (x : GivenNext). Gives seen tells s after seat r x (Answered shown) c c) (sym same) (record {
    given = record {
      shown = shown;
      history = made ∙ (ap (λ (x : History). added x (entry_by seat (what.Done r shown))) first ∙ ap (λ (x : What). added (added s (entry_by seat x)) (entry_by seat (what.Done r shown))) (sym kept));
      answer = refl;
    };
    right = λ t. subst (λ (x : History). IsFlat tells.content x seat r shown) first flat t ∙ ap (λ (x : FlatState). flat_reply s.config x seat.0 r) unseen;
    carrier = refl;
  })

  -- it is answered behind a page of zeros
  pub answered_zero : (s s1 s2 after : History) (seat : Seat) (n : ℕ) (o : Option Page) (address : Addr) (f : Pfn) (r : Ref) (shown : Reply) (c : CarrierView B) (g : GivenNext)
      → g ≡ given (reuse_first o n (what.Zero address f ∷ what.Done r unsaid ∷ [])) next_answered → s1 ≡ added_each seat (reuse_first o n []) s → s2 ≡ added s1 (entry_by seat (what.Zero address f))
      → after ≡ added s2 (entry_by seat (what.Done r shown)) → IsFlat tells.content s2 seat r shown → Gives seen tells s after seat r g (Answered shown) c c
  answered_zero s s1 s2 after seat n o address f r shown c g same first second made flat = subst (λ (x : GivenNext). Gives seen tells s after seat r x (Answered shown) c c) (sym same) (by o first)
    where
      reached : (x : History) → s1 ≡ x → s2 ≡ added x (entry_by seat (what.Zero address f))
      reached x is = second ∙ ap (λ (y : History). added y (entry_by seat (what.Zero address f))) is

      by : (o : Option Page) → s1 ≡ added_each seat (reuse_first o n []) s → Gives seen tells s after seat r (given (reuse_first o n (what.Zero address f ∷ what.Done r unsaid ∷ [])) next_answered) (Answered shown) c c
      by None is = record {
        given = record { shown = shown; history = made ∙ ap (λ (x : History). added x (entry_by seat (what.Done r shown))) (reached s is); answer = refl };
        right = λ t. subst (λ (x : History). IsFlat tells.content x seat r shown) (reached s is) flat t;
        carrier = refl;
      }
      by (Some x) is = record {
        given = record { shown = shown; history = made ∙ ap (λ (y : History). added y (entry_by seat (what.Done r shown))) (reached (added s (entry_by seat (what.Reuse (pfn n) x))) is); answer = refl };
        right = λ t. subst (λ (y : History). IsFlat tells.content y seat r shown) (reached (added s (entry_by seat (what.Reuse (pfn n) x))) is) flat t;
        carrier = refl;
      }
