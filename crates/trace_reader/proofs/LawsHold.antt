-- The laws about the meaning of a text.
use Rattle.std.proofs.Common.{◌≡◌, ℕ, ◌+◌, ◌<◌, Bool, true, false, eqb, List, [], ◌∷◌, ◌++◌, length, Result, Ok, Err, refl, sym, ap, subst, ◌∙◌, arith}
use Rattle.std.proofs.lemmas.Bool.{leb-false}
use Rattle.std.proofs.lemmas.List.{length-append}
use Rattle.vm_types.specs.Configuration.{IsWellFormed}
use Rattle.vm_types.specs.declared.config.Config.{Config}
use Rattle.trace_words.specs.declared.cause.Cause.TheVariants.{LineTooLong}
use Rattle.trace_lines.specs.declared.breach.Breach.{Breach}
use Rattle.trace_lines.specs.declared.part.Part.{Part}
use Rattle.trace_lines.specs.Breaches.{at_word}
use Rattle.trace_lines.specs.declared.places.Place.{Place}
use Rattle.trace_lines.specs.declared.places.Place.TheVariants.{Version, Frames, PageFile, Declarations, Requests, Ended}
use Rattle.trace_reader.specs.Changes.{start}
use Rattle.trace_reader.specs.Drafts.{IsDraft}
use Rattle.trace_reader.specs.Laws.{ReadIsWellFormed, FaultStays}
use Rattle.trace_reader.specs.Meaning.{Trace, Configuration, Faulty, Unfinished, next_line, finished, after, at_end, judge, lines, open_after, is_open}
use Rattle.trace_reader.proofs.Drafting.{start_draft, next_draft, read_whole}
use Rattle.trace_reader.proofs.Judging.{too_long, refused}
use Rattle.trace_reader.proofs.Splitting.{some_line}

-- a configuration comes after END

not_finished : (config : Config) → Unfinished ≡ Configuration config → ⊥
not_finished config e = cc

not_faulty : (n : ℕ) (breach : Breach) (config : Config) → Faulty n breach ≡ Configuration config → ⊥
not_faulty n breach config e = cc

same_configuration : (a b : Config) → Configuration a ≡ Configuration b → a ≡ b
same_configuration a b e = cc

finished_read : (part : Part) (place : Place) (config : Config) → IsDraft part → part.place ≡ place → finished place part.config ≡ Configuration config → IsWellFormed config
finished_read part Version config d p e = absurd (not_finished config e)
finished_read part Frames config d p e = absurd (not_finished config e)
finished_read part PageFile config d p e = absurd (not_finished config e)
finished_read part Declarations config d p e = absurd (not_finished config e)
finished_read part Requests config d p e = absurd (not_finished config e)
finished_read part Ended config d p e = subst IsWellFormed (same_configuration part.config config e) (read_whole part d p)

after_read : (number : ℕ) (part : Part) (line : List ℕ) (config : Config) (rest : Part → Trace) → IsDraft part
    → ((next : Part) → IsDraft next → rest next ≡ Configuration config → IsWellFormed config)
    → (r : Result Part Breach) → next_line number part line ≡ r → after number r rest ≡ Configuration config → IsWellFormed config
after_read number part line config rest d h (Ok next) is e = h next (next_draft number part next line d is) e
after_read number part line config rest d h (Err breach) is e = absurd (not_faulty number breach config e)

end_read : (number : ℕ) (part : Part) (last : List ℕ) (config : Config) → IsDraft part → at_end number part last ≡ Configuration config → IsWellFormed config
end_read number part [] config d e = finished_read part part.place config d refl e
end_read number part (b ∷ last) config d e =
    after_read number part (b ∷ last) config (λ p. finished p.place p.config) d (λ next n f. finished_read next next.place config n refl f) (next_line number part (b ∷ last)) refl e

judge_read : (number : ℕ) (part : Part) (all : List (List ℕ)) (config : Config) → IsDraft part → judge number part all ≡ Configuration config → IsWellFormed config
judge_read number part [] config d e = end_read number part [] config d e
judge_read number part (last ∷ []) config d e = end_read number part last config d e
judge_read number part (line ∷ next ∷ more) config d e =
    after_read number part line config (λ p. judge (number + 1) p (next ∷ more)) d (λ p n f. judge_read (number + 1) p (next ∷ more) config n f) (next_line number part line) refl e

pub read_is_well_formed : ReadIsWellFormed
read_is_well_formed text config e = judge_read 1 start (lines text) config start_draft e

-- a text that goes on

-- the last line goes on with the first one of what follows
joined : List (List ℕ) → List (List ℕ) → List (List ℕ)
joined [] after = after
joined (last ∷ []) [] = last ∷ []
joined (last ∷ []) (m ∷ more) = (last ++ m) ∷ more
joined (x ∷ y ∷ xs) after = x ∷ joined (y ∷ xs) after

lines_on : (b : ℕ) (text : List ℕ) → eqb b 10 ≡ true → lines (b ∷ text) ≡ [] ∷ lines text
lines_on b text e = rw e refl

lines_in : (b : ℕ) (text first : List ℕ) (others : List (List ℕ)) → eqb b 10 ≡ false → lines text ≡ first ∷ others → lines (b ∷ text) ≡ (b ∷ first) ∷ others
lines_in b text first others e some = rw (e, some) refl

joined_nil : (xs : List (List ℕ)) (x : List ℕ) (after : List (List ℕ)) → joined ([] ∷ x ∷ xs) after ≡ [] ∷ joined (x ∷ xs) after
unfolding joined
joined_nil xs x after = refl

joined_head : (b : ℕ) (first : List ℕ) (others after : List (List ℕ)) → (y : List ℕ) × (ys : List (List ℕ)) × (joined (first ∷ others) after ≡ y ∷ ys) × (joined ((b ∷ first) ∷ others) after ≡ (b ∷ y) ∷ ys)
unfolding joined
joined_head b first [] [] = (first, [], refl, refl)
joined_head b first [] (m ∷ more) = (first ++ m, more, refl, refl)
joined_head b first (y ∷ ys) after = (first, joined (y ∷ ys) after, refl, refl)

joined_start : (m : List ℕ) (more : List (List ℕ)) → joined ([] ∷ []) (m ∷ more) ≡ m ∷ more
unfolding joined
joined_start m more = refl

by_byte : (b : ℕ) (text more : List ℕ) (t : Bool) → eqb b 10 ≡ t → lines (text ++ more) ≡ joined (lines text) (lines more) → lines (b ∷ (text ++ more)) ≡ joined (lines (b ∷ text)) (lines more)
by_byte b text more true e h =
    let some = some_line text in
    lines_on b (text ++ more) e ∙ ap (λ (ls : List (List ℕ)). [] ∷ ls) (h ∙ ap (λ (ls : List (List ℕ)). joined ls (lines more)) some.2)
    ∙ sym (joined_nil some.1 some.0 (lines more)) ∙ ap (λ (ls : List (List ℕ)). joined ([] ∷ ls) (lines more)) (sym some.2) ∙ ap (λ (ls : List (List ℕ)). joined ls (lines more)) (sym (lines_on b text e))
by_byte b text more false e h =
    let some = some_line text in
    let head = joined_head b some.0 some.1 (lines more) in
    lines_in b (text ++ more) head.0 head.1 e (h ∙ ap (λ (ls : List (List ℕ)). joined ls (lines more)) some.2 ∙ head.2)
    ∙ sym head.3 ∙ ap (λ (ls : List (List ℕ)). joined ls (lines more)) (sym (lines_in b text some.0 some.1 e some.2))

lines_append : (text more : List ℕ) → lines (text ++ more) ≡ joined (lines text) (lines more)
lines_append [] more = let some = some_line more in some.2 ∙ sym (joined_start some.0 some.1) ∙ ap (joined ([] ∷ [])) (sym some.2)
lines_append (b ∷ text) more = by_byte b text more (eqb b 10) refl (lines_append text more)

-- what is shut stays so

abbrev Stays : ℕ → Part → List (List ℕ) → List (List ℕ) → Type 0
Stays number part all more = ((n : ℕ) × ((breach : Breach) × (judge number part all ≡ Faulty n breach))) × (judge number part (joined all more) ≡ judge number part all)

never : true ≡ false → ⊥
never e = cc

long_stays : (number : ℕ) (part : Part) (last : List ℕ) (more : List (List ℕ)) → 255 < length last → Stays number part (last ∷ []) more
unfolding joined
long_stays number part last [] long = let fault = refused part number (at_word 0 LineTooLong) last [] (omega arith) (too_long part number last long) in ((number, (at_word 0 LineTooLong, fault)), refl)
long_stays number part last (m ∷ more) long =
    let fault = refused part number (at_word 0 LineTooLong) last [] (omega arith) (too_long part number last long) in
    let longer : 255 < length (last ++ m) = rw length-append (omega arith) in
    ((number, (at_word 0 LineTooLong, fault)), refused part number (at_word 0 LineTooLong) (last ++ m) more (omega arith) (too_long part number (last ++ m) longer) ∙ sym fault)

line_stays : (number : ℕ) (part : Part) (line next : List ℕ) (all more : List (List ℕ))
    → ((p : Part) → is_open (number + 1) p (next ∷ all) ≡ false → Stays (number + 1) p (next ∷ all) more)
    → (r : Result Part Breach) → next_line number part line ≡ r → open_after r (λ p. is_open (number + 1) p (next ∷ all)) ≡ false → Stays number part (line ∷ next ∷ all) more
unfolding joined
line_stays number part line next all more rest (Ok p) is shut =
    let tail = rest p shut in
    let head = joined_head 0 next all more in
    let here : judge number part (line ∷ next ∷ all) ≡ judge (number + 1) p (next ∷ all) = rw is refl in
    let there : judge number part (line ∷ joined (next ∷ all) more) ≡ judge (number + 1) p (joined (next ∷ all) more) =
    ap (λ (ls : List (List ℕ)). judge number part (line ∷ ls)) head.2 ∙ (rw is refl) ∙ ap (judge (number + 1) p) (sym head.2) in
    ((tail.0.0, (tail.0.1.0, here ∙ tail.0.1.1)), there ∙ tail.1 ∙ sym here)
line_stays number part line next all more rest (Err breach) is shut =
    let head = joined_head 0 next all more in
    let here : judge number part (line ∷ next ∷ all) ≡ Faulty number breach = rw is refl in
    let there : judge number part (line ∷ joined (next ∷ all) more) ≡ Faulty number breach =
    ap (λ (ls : List (List ℕ)). judge number part (line ∷ ls)) head.2 ∙ (rw is refl) in
    ((number, (breach, here)), there ∙ sym here)

stays : (number : ℕ) (part : Part) (all more : List (List ℕ)) → is_open number part all ≡ false → Stays number part all more
stays number part [] more shut = absurd (never shut)
stays number part (last ∷ []) more shut = long_stays number part last more (leb-false (length last) 255 shut)
stays number part (line ∷ next ∷ all) more shut = line_stays number part line next all more (λ p h. stays (number + 1) p (next ∷ all) more h) (next_line number part line) refl shut

pub fault_stays : FaultStays
fault_stays text more shut =
    let h = stays 1 start (lines text) (lines more) shut in
    (h.0, ap (judge 1 start) (lines_append text more) ∙ h.1)
