-- Words that begin with a command's name and go on with no options of it ask for nothing.
use Rattle.std.proofs.Common.{◌≡◌, ℕ, Bool, true, false, List, [], ◌∷◌, length, refl, sym, ◌∙◌, ap, subst, arith, codes}
use Rattle.std.specs.Borrow.{Bor}
use Rattle.std.specs.Prelude.{◌==◌}
use Rattle.std.proofs.lemmas.Bool.{eqb-false, eqb-true}
use Rattle.std.proofs.lemmas.Option.{none-some, same_Some}
use Rattle.std.specs.Prelude.{Option, None, Some, IfNone}
use Rattle.study_command.specs.CommandLine.{AsksFor}
use Rattle.study_command.specs.declared.words.Study.{Study as Wanted}
use Rattle.replay_cli.specs.Commands.{Asks, plain_word, texts}
use Rattle.run_commands.specs.MakeLine.{AsksToMake}
use Rattle.run_commands.specs.declared.make.Make.{Make as Made}
use Rattle.replay_cli.specs.declared.words.Command.{Command}
use Rattle.replay_cli.specs.declared.words.Command.TheVariants.{Serial, Replay, Study, Make, Check, Dump, Show}

heads : {x y : List ℕ} {xs ys : List (List ℕ)} → x ∷ xs ≡ y ∷ ys → (x ≡ y) × (xs ≡ ys)
heads e = (cc, cc)

-- names of different lengths or first bytes differ
pub shorter : {x y : List ℕ} → x ≡ y → (length x ≡ length y → ⊥) → ⊥
shorter same differ = differ (ap (λ (name : List ℕ). length name) same)

pub head_apart : {x y : List ℕ} (a b : ℕ) → (a ∷ x) ≡ (b ∷ y) → (a ≡ b → ⊥) → ⊥
head_apart a b same differ = differ (first same) where
  first : {a b : ℕ} {x y : List ℕ} → a ∷ x ≡ b ∷ y → a ≡ b
  first e = cc

-- two names differ
pub study_or_make : codes "study" ≡ codes "make" → ⊥
study_or_make e = absurd (omega (arith, first e)) where
  first : {a b : ℕ} {xs ys : List ℕ} → a ∷ xs ≡ b ∷ ys → a ≡ b
  first e = cc

-- the words begin with the name
pub begins : (words rest : List (List ℕ)) (first name : List ℕ) → words ≡ first ∷ rest → name ≡ first → words ≡ name ∷ rest
begins words rest first name begin is = begin ∙ ap (λ (word : List ℕ). word ∷ rest) (sym is)

-- what is said of none
pub if_none_is : {T : Type 0} (P : Type 0) (found : Option T) → found ≡ None → IfNone found P → P
if_none_is P found is known = subst (λ o. IfNone o P) is known

-- a name is no plain command's
no_study : (command : Command) → plain_word command ≡ Some (codes "study") → ⊥
no_study Serial e = shorter (same_Some _ _ e) (λ n. omega (arith, n))
no_study Replay e = shorter (same_Some _ _ e) (λ n. omega (arith, n))
no_study (Study study) e = none-some _ e
no_study (Make make) e = none-some _ e
no_study Check e = head_apart 99 115 (same_Some _ _ e) (λ n. omega (arith, n))
no_study Dump e = shorter (same_Some _ _ e) (λ n. omega (arith, n))
no_study Show e = shorter (same_Some _ _ e) (λ n. omega (arith, n))

no_make : (command : Command) → plain_word command ≡ Some (codes "make") → ⊥
no_make Serial e = shorter (same_Some _ _ e) (λ n. omega (arith, n))
no_make Replay e = shorter (same_Some _ _ e) (λ n. omega (arith, n))
no_make (Study study) e = none-some _ e
no_make (Make make) e = none-some _ e
no_make Check e = shorter (same_Some _ _ e) (λ n. omega (arith, n))
no_make Dump e = head_apart 100 109 (same_Some _ _ e) (λ n. omega (arith, n))
no_make Show e = head_apart 115 109 (same_Some _ _ e) (λ n. omega (arith, n))

-- the word of a plain command alone asks for it
pub plain_asks : (words rest : List (List ℕ)) (first : List ℕ) (command : Command) → words ≡ first ∷ rest → rest ≡ [] → plain_word command ≡ Some first → Asks words command
plain_asks words rest first command begin alone is = by command is (begin ∙ ap (λ (ws : List (List ℕ)). first ∷ ws) alone)
  where
    by : (c : Command) → plain_word c ≡ Some first → words ≡ first ∷ [] → Asks words c
    by Serial e at = at ∙ ap (λ (w : List ℕ). w ∷ []) (sym (same_Some _ _ e))
    by Replay e at = at ∙ ap (λ (w : List ℕ). w ∷ []) (sym (same_Some _ _ e))
    by (Study study) e at = absurd (none-some first e)
    by (Make make) e at = absurd (none-some first e)
    by Check e at = at ∙ ap (λ (w : List ℕ). w ∷ []) (sym (same_Some _ _ e))
    by Dump e at = at ∙ ap (λ (w : List ℕ). w ∷ []) (sym (same_Some _ _ e))
    by Show e at = at ∙ ap (λ (w : List ℕ). w ∷ []) (sym (same_Some _ _ e))

-- no word is left behind the first one, or some is
pub none_left : (words : List (Bor (List ℕ))) (none : Bool) → none ≡ (length words == 0) → none ≡ true → texts words ≡ []
none_left words none is true_is = by words (eqb-true (length words) 0 (sym is ∙ true_is)) where
  by : (words : List (Bor (List ℕ))) → length words ≡ 0 → texts words ≡ []
  by [] e = refl
  by (word ∷ more) e = absurd (omega (arith, e))

pub some_left : (words : List (Bor (List ℕ))) (none : Bool) → none ≡ (length words == 0) → none ≡ false → texts words ≡ [] → ⊥
some_left words none is false_is = by words (eqb-false (length words) 0 (sym is ∙ false_is)) where
  by : (words : List (Bor (List ℕ))) → (length words ≡ 0 → ⊥) → texts words ≡ [] → ⊥
  by [] some e = some refl
  by (word ∷ more) some e = cc

-- words behind it ask for nothing
pub plain_alone : (words rest : List (List ℕ)) (first : List ℕ) (command asked : Command) → words ≡ first ∷ rest → plain_word command ≡ Some first → Asks words asked → rest ≡ []
plain_alone words rest first command Serial begin is asks = sym (heads (sym asks ∙ begin)).1
plain_alone words rest first command Replay begin is asks = sym (heads (sym asks ∙ begin)).1
plain_alone words rest first command (Study study) begin is asks = absurd (no_study command (is ∙ ap Some (sym (heads (sym asks.1 ∙ begin)).0)))
plain_alone words rest first command (Make make) begin is asks = absurd (no_make command (is ∙ ap Some (sym (heads (sym asks.1 ∙ begin)).0)))
plain_alone words rest first command Check begin is asks = sym (heads (sym asks ∙ begin)).1
plain_alone words rest first command Dump begin is asks = sym (heads (sym asks ∙ begin)).1
plain_alone words rest first command Show begin is asks = sym (heads (sym asks ∙ begin)).1

-- the first word is none of the names, or what follows the name is none of its options
pub no_command : (words rest : List (List ℕ)) (first : List ℕ) → words ≡ first ∷ rest → ((command : Command) → plain_word command ≡ Some first → ⊥)
    → (codes "study" ≡ first → (study : Wanted) → AsksFor rest study → ⊥) → (codes "make" ≡ first → (make : Made) → AsksToMake rest make → ⊥)
    → (command : Command) → Asks words command → ⊥
no_command words rest first begin plain two three Serial asks = plain Serial (ap Some (heads (sym asks ∙ begin)).0)
no_command words rest first begin plain two three Replay asks = plain Replay (ap Some (heads (sym asks ∙ begin)).0)
no_command words rest first begin plain two three Check asks = plain Check (ap Some (heads (sym asks ∙ begin)).0)
no_command words rest first begin plain two three Dump asks = plain Dump (ap Some (heads (sym asks ∙ begin)).0)
no_command words rest first begin plain two three Show asks = plain Show (ap Some (heads (sym asks ∙ begin)).0)
no_command words rest first begin plain two three (Study study) asks =
    let both = heads (sym asks.1 ∙ begin) in two both.0 study (subst (λ options. AsksFor options study) both.1 asks.2)
no_command words rest first begin plain two three (Make make) asks =
    let both = heads (sym asks.1 ∙ begin) in three both.0 make (subst (λ options. AsksToMake options make) both.1 asks.2)
