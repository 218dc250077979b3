-- From what clap says of a parse to the values of the options.
use Rattle.std.proofs.Common.{◌≡◌, ◌∙◌, ◌<◌, ◌+◌, ℕ, true, false, zero, suc, refl, sym, ap, ap₂, subst, arith, List, [], ◌∷◌, Bor, get_or, map, length, Option, Some, None, Result, Ok, Err, Vec, Global, IfOk, true≢false, inl, inr}
use Rattle.std.specs.Prelude.{Any, IfNone, IfSome, IsUtf8, option_map}
use Rattle.std.specs.List.{All, AllByRecursion}
use Rattle.std.specs.Str.{bytes_eq}
use Rattle.std.proofs.lemmas.Bool.{cases_lt}
use Rattle.std.proofs.lemmas.List.{get_or_default}
use Rattle.clap.specs.Kinds.{HasKind}
use Rattle.clap.specs.Faults.{fault_of, is_simple_and_free}
use Rattle.clap.specs.Matches.{first_value, found_of}
use Rattle.clap.specs.Simple.{App, HasMatchesOf, is_simple, matches_of}
use Rattle.clap.specs.Values.{kind_of}
use Rattle.clap.specs.Walk.{Text, first_of}
use Rattle.clap.specs.declared.error.Error.{Error}
use Rattle.clap.specs.declared.error.kind.ErrorKind.TheVariants.{OutOfMemory}
use Rattle.clap.specs.declared.parser.matches.ArgMatches.{ArgMatches}
use Rattle.clap.proofs.WalkLemmas.{first_value-rows}
use Rattle.command_options.specs.Apps.{options_app}
use Rattle.command_options.specs.Options.{AreNames, HasOptions}
use Rattle.command_options.proofs.Apps.{given_words, options_go_on, simple_and_free, simple_app, taken_words, values_read}
use Rattle.command_options.proofs.Looks.{stop}
use Rattle.command_options.proofs.Walks.{AreTexts}

abbrev pub texts : List (Bor Text) → List Text
texts words = map (λ word. word.now) words

-- ---- words

-- what holds of the elements so far and of the next
pub next_word : {X : Type 0} (P : X → Type 0) (xs : List X) (i : ℕ) (x : X) → i < length xs → ((k : ℕ) (d : X) → k < i → P (get_or xs k d)) → P (get_or xs i x)
    → (k : ℕ) (d : X) → k < i + 1 → P (get_or xs k d)
next_word P xs i x lt old new k d below = elim (cases_lt k i) [
  | inl under ↦ old k d under
  | inr over ↦
      let same : k ≡ i = omega (arith, over, below) in
      subst (λ j. P (get_or xs j d)) (sym same) (subst P (get_or_default xs i x d lt) new)
]

pub are_texts : (words : List (Bor Text)) → All (λ word. bytes_eq word.now stop ≡ false) words → All (λ word. IsUtf8 word.now) words → AreTexts (texts words)
are_texts [] on utf8 = tt
are_texts (word ∷ words) on utf8 = (
  on 0 word (omega arith),
  utf8 0 word (omega arith),
  are_texts words (λ k d lt. on (suc k) d (omega (arith, lt))) (λ k d lt. utf8 (suc k) d (omega (arith, lt))),
)

no_end : (words : List (Bor Text)) → AllByRecursion (λ word. bytes_eq word stop ≡ false) (texts words) → (k : ℕ) (d : Bor Text) → k < length words → bytes_eq (get_or words k d).now stop ≡ false
no_end [] on k d lt = absurd (omega (arith, lt))
no_end (word ∷ words) on zero d lt = on.0
no_end (word ∷ words) on (suc k) d lt = no_end words on.1 k d (omega (arith, lt))

-- words of which one ends the options aren't options
pub ended : (names words : List (Bor Text)) (values : List Text) → AreNames (texts names) → Any (λ word. bytes_eq word.now stop ≡ true) words → HasOptions (texts names) values (texts words) → ⊥
ended names words values named any has =
    let goes_on = no_end words (options_go_on (texts names) values (texts words) named has) any.0 any.1 any.2 in
    true≢false (sym any.4 ∙ subst (λ w. bytes_eq w.now stop ≡ false) any.3 goes_on)

-- ---- values

values_of_texts : (f : Text → Option Text) (names : List (Bor Text)) → map f (texts names) ≡ map (λ n. f n.now) names
values_of_texts f [] = refl
values_of_texts f (n ∷ names) = ap (λ l. f n.now ∷ l) (values_of_texts f names)

heads : {a b : Text} {os ps : List (Option Text)} → Some a ∷ os ≡ Some b ∷ ps → (a ≡ b) × (os ≡ ps)
heads e = (cc, cc)

no_head : {b : Text} {os ps : List (Option Text)} → None ∷ os ≡ Some b ∷ ps → ⊥
no_head e = cc

shorter : {X : Type 0} {x : X} {xs : List X} → x ∷ xs ≡ [] → ⊥
shorter e = cc

same_values : (xs ys : List Text) → map (λ v. Some v) xs ≡ map (λ v. Some v) ys → xs ≡ ys
same_values [] [] e = refl
same_values [] (y ∷ ys) e = absurd (shorter (sym e))
same_values (x ∷ xs) [] e = absurd (shorter e)
same_values (x ∷ xs) (y ∷ ys) e = let h = heads e in ap₂ (λ a b. a ∷ b) h.0 (same_values xs ys h.1)

some_texts : (xs : List (Bor Text)) → map (λ v. Some v.now) xs ≡ map (λ v. Some v) (texts xs)
some_texts [] = refl
some_texts (x ∷ xs) = ap (λ l. Some x.now ∷ l) (some_texts xs)

none_missing : (f : Text → Option Text) (names : List (Bor Text)) (values : List Text) → map (λ n. f n.now) names ≡ map (λ v. Some v) values → (k : ℕ) (d : Bor Text) → k < length names
    → f (get_or names k d).now ≡ None → ⊥
none_missing f [] values e k d lt none = absurd (omega (arith, lt))
none_missing f (n ∷ names) [] e k d lt none = shorter e
none_missing f (n ∷ names) (v ∷ values) e zero d lt none = no_head (subst (λ o. o ∷ map (λ m. f m.now) names ≡ Some v ∷ map (λ x. Some x) values) none e)
none_missing f (n ∷ names) (v ∷ values) e (suc k) d lt none = none_missing f names values (tail e) k d (omega (arith, lt)) none
  where
    tail : {o : Option Text} {os : List (Option Text)} → o ∷ os ≡ Some v ∷ map (λ x. Some x) values → os ≡ map (λ x. Some x) values
    tail e = cc

-- ---- a parse that succeeds

module _ (names words : List (Bor Text)) (name : Text) (app : App) (is : app ≡ options_app (texts names) name) (named : AreNames (texts names)) where
  free : is_simple_and_free app ≡ true
  free = ap is_simple_and_free is ∙ simple_and_free (texts names) name

  -- the values that the getters read
  read : (m : ArgMatches) → HasMatchesOf app (texts words) m → map (λ n. first_value (found_of m) n.now) names ≡ values_read (texts names) name (texts words)
  read m matches =
      let rows = (matches (ap is_simple is ∙ simple_app (texts names) name)).0 in
      (λ i. map (λ n. first_value-rows (found_of m) n.now i) names)
      ∙ ap (λ r. map (λ n. first_of n.now r) names) (rows ∙ ap (λ a. matches_of a (texts words)) is)
      ∙ sym (values_of_texts (λ n. first_of n (matches_of (options_app (texts names) name) (texts words))) names)

  pub record Found {E : Type 0} (found : Result (Option (Vec (Bor Text) Global)) E) : Type 0 where
    pub some : IfOk found (λ o. IfSome o (λ values. HasOptions (texts names) (texts values.items) (texts words)))
    pub all : IfOk found (λ o. (values : List Text) → HasOptions (texts names) values (texts words) → option_map (λ vs. texts vs.items) o ≡ Some values)

  pub found_values : {E : Type 0} (m : ArgMatches) → AreTexts (texts words) → (is_simple_and_free app ≡ true → fault_of app (texts words) ≡ []) → HasMatchesOf app (texts words) m
      → (found : Result (Option (Vec (Bor Text) Global)) E)
      → IfOk found (λ o. IfSome o (λ values. map (λ n. first_value (found_of m) n.now) names ≡ map (λ v. Some v.now) values.items))
      → IfOk found (λ o. IfNone o (Any (λ n. first_value (found_of m) n.now ≡ None) names)) → Found found
  found_values m read_words faultless matches (Err e) some none = record { some = tt; all = tt }
  found_values m read_words faultless matches (Ok None) some none =
      let t = taken_words (texts names) name (texts words) named read_words (sym (ap (λ a. fault_of a (texts words)) is) ∙ faultless free) in
      let all = read m matches ∙ t.are in
      absurd (none_missing (first_value (found_of m)) names t.values all none.0 none.1 none.2 (ap (λ n. first_value (found_of m) n.now) none.3 ∙ none.4))
  found_values m read_words faultless matches (Ok (Some vs)) some none =
      let t = taken_words (texts names) name (texts words) named read_words (sym (ap (λ a. fault_of a (texts words)) is) ∙ faultless free) in
      let same = same_values (texts vs.items) t.values (sym (some_texts vs.items) ∙ sym some ∙ read m matches ∙ t.are) in
      record {
        some = subst (λ l. HasOptions (texts names) l (texts words)) (sym same) t.has;
        all = λ values has. ap (λ l. Some l) (same ∙ same_values t.values values (sym t.are ∙ (given_words (texts names) name values (texts words) named has).1));
      }

  -- a parse that fails for another reason than memory
  pub none_found : (e : Error) → (kind_of e ≡ OutOfMemory → ⊥) → (is_simple_and_free app ≡ true → HasKind (fault_of app (texts words)) e)
      → (values : List Text) → HasOptions (texts names) values (texts words) → ⊥
  none_found e other kinds values has =
      let none = ap (λ a. fault_of a (texts words)) is ∙ (given_words (texts names) name values (texts words) named has).0 in
      elim (subst (λ k. HasKind k e) none (kinds free)) [ inl memory ↦ other memory | inr among ↦ among ]
