-- What a word looks like to a walk.
use Rattle.std.proofs.Common.{◌≡◌, ◌∙◌, ◌<◌, ◌+◌, ◌||◌, ℕ, Bool, true, false, suc, refl, sym, ap, subst, arith, List, [], ◌∷◌, ◌++◌, length, Option, Some, None, inl, inr, nat_eq, eqb-true, true≢false}
use Rattle.std.specs.Prelude.{IsUtf8, slice_get}
use Rattle.std.specs.Char.{encode_utf8}
use Rattle.std.specs.List.{after_first, before_first, list_any}
use Rattle.std.specs.Str.{bytes_eq, chars, is_utf8}
use Rattle.std.proofs.lemmas.Str.{is_utf8-from_IsUtf8}
use Rattle.clap.specs.Lexer.{has_byte, long_of, name_and_value, short_of}
use Rattle.clap.specs.Walk.{Text}
use Rattle.command_options.specs.Options.{IsValueWord}
use Rattle.command_options.proofs.Rules.{known}

abbrev pub stop : Text
stop = 45 ∷ 45 ∷ []

abbrev pub joined_word : Text → Text → Text
joined_word name value = 45 ∷ 45 ∷ (name ++ (61 ∷ value))

abbrev pub alone_word : Text → Text
alone_word name = 45 ∷ 45 ∷ name

pub data Look (names : List Text) (word : Text) : Type 0 where
  joined : (name value : Text) → long_of word ≡ Some (name, Some value) → known names name ≡ true → word ≡ joined_word name value → Look names word
  alone : (name : Text) → long_of word ≡ Some (name, None) → known names name ≡ true → word ≡ alone_word name → Look names word
  strange : (name : Text) (value : Option Text) → long_of word ≡ Some (name, value) → known names name ≡ false → Look names word
  short : (flags : Text) (x : ℕ) → long_of word ≡ None → short_of word ≡ Some flags → 0 < length flags → slice_get (chars flags) 0 ≡ Some x → Look names word
  beside : long_of word ≡ None → short_of word ≡ None → IsValueWord word → Look names word

-- ---- a text cut at its first =

one_more : (n : ℕ) → 1 + n ≡ suc n
one_more n = omega arith

more_one : (n : ℕ) → n + 1 ≡ suc n
more_one n = omega arith

pub cut_whole : (text : Text) → has_byte 61 text ≡ false → before_first (λ b. nat_eq b 61) text ≡ text
cut_whole [] e = refl
cut_whole (b ∷ text) e = go (nat_eq b 61) refl e (cut_whole text)
  where
    go : (m : Bool) → nat_eq b 61 ≡ m → m || has_byte 61 text ≡ false → (has_byte 61 text ≡ false → before_first (λ b. nat_eq b 61) text ≡ text)
        → before_first (λ b. nat_eq b 61) (b ∷ text) ≡ b ∷ text
    go true m h rest = absurd (true≢false h)
    go false m h rest = rw (m, one_more) (ap (λ t. b ∷ t) (rest h))

pub cut_marked : (text : Text) → has_byte 61 text ≡ true
    → text ≡ before_first (λ b. nat_eq b 61) text ++ (61 ∷ after_first (λ b. nat_eq b 61) text)
cut_marked [] e = absurd (true≢false (sym e))
cut_marked (b ∷ text) e = go (nat_eq b 61) refl e (cut_marked text)
  where
    go : (m : Bool) → nat_eq b 61 ≡ m → m || has_byte 61 text ≡ true
        → (has_byte 61 text ≡ true → text ≡ before_first (λ b. nat_eq b 61) text ++ (61 ∷ after_first (λ b. nat_eq b 61) text))
        → b ∷ text ≡ before_first (λ b. nat_eq b 61) (b ∷ text) ++ (61 ∷ after_first (λ b. nat_eq b 61) (b ∷ text))
    go true m h rest = rw m (ap (λ x. x ∷ text) (eqb-true b 61 m))
    go false m h rest =
        let tail = rest h in
        rw (m, one_more, more_one) (ap {B = List ℕ} (λ t. b ∷ t) (rw more_one at tail))

-- what stands before the first = of a name and what follows it, and what stands after it
pub before_name : (name value : Text) → list_any (λ b. nat_eq b 61) name ≡ false → before_first (λ b. nat_eq b 61) (name ++ (61 ∷ value)) ≡ name
before_name [] value e = refl
before_name (b ∷ name) value e = go (nat_eq b 61) refl e (before_name name value)
  where
    go : (m : Bool) → nat_eq b 61 ≡ m → m || list_any (λ b. nat_eq b 61) name ≡ false
        → (list_any (λ b. nat_eq b 61) name ≡ false → before_first (λ b. nat_eq b 61) (name ++ (61 ∷ value)) ≡ name)
        → before_first (λ b. nat_eq b 61) (b ∷ (name ++ (61 ∷ value))) ≡ b ∷ name
    go true m h rest = absurd (true≢false h)
    go false m h rest = rw (m, one_more) (ap (λ t. b ∷ t) (rest h))

pub after_name : (name value : Text) → list_any (λ b. nat_eq b 61) name ≡ false → after_first (λ b. nat_eq b 61) (name ++ (61 ∷ value)) ≡ value
after_name [] value e = refl
after_name (b ∷ name) value e = go (nat_eq b 61) refl e (after_name name value)
  where
    go : (m : Bool) → nat_eq b 61 ≡ m → m || list_any (λ b. nat_eq b 61) name ≡ false
        → (list_any (λ b. nat_eq b 61) name ≡ false → after_first (λ b. nat_eq b 61) (name ++ (61 ∷ value)) ≡ value)
        → after_first (λ b. nat_eq b 61) (b ∷ (name ++ (61 ∷ value))) ≡ value
    go true m h rest = absurd (true≢false h)
    go false m h rest = rw (m, one_more, more_one) (rw more_one at rest h)

pub marked_name : (name value : Text) → has_byte 61 (name ++ (61 ∷ value)) ≡ true
marked_name [] value = refl
marked_name (b ∷ name) value = go (nat_eq b 61) (marked_name name value)
  where
    go : (m : Bool) → has_byte 61 (name ++ (61 ∷ value)) ≡ true → m || has_byte 61 (name ++ (61 ∷ value)) ≡ true
    go true h = refl
    go false h = h

pub cut_name : (name value : Text) → list_any (λ b. nat_eq b 61) name ≡ false → name_and_value (name ++ (61 ∷ value)) ≡ (name, Some value)
cut_name name value e = rw (marked_name name value, before_name name value e, after_name name value e) refl

-- ---- the words of options

pub long_joined : (name value : Text) → list_any (λ b. nat_eq b 61) name ≡ false → long_of (joined_word name value) ≡ Some (name, Some value)
long_joined [] value e = refl
long_joined (b ∷ name) value e = ap (λ x. Some x) (cut_name (b ∷ name) value e)

pub long_alone : (name : Text) → 0 < length name → list_any (λ b. nat_eq b 61) name ≡ false → long_of (alone_word name) ≡ Some (name, None)
long_alone [] some e = absurd (omega (arith, some))
long_alone (b ∷ name) some e = rw (e, cut_whole (b ∷ name) e) refl

pub joined_goes_on : (name value : Text) → bytes_eq (joined_word name value) stop ≡ false
joined_goes_on [] value = refl
joined_goes_on (b ∷ name) value = refl

pub alone_goes_on : (name : Text) → 0 < length name → bytes_eq (alone_word name) stop ≡ false
alone_goes_on [] some = absurd (omega (arith, some))
alone_goes_on (b ∷ name) some = refl

-- a word that is a value by itself
pub value_looks : (word : Text) → IsValueWord word → (bytes_eq word stop ≡ false) × (long_of word ≡ None) × (short_of word ≡ None)
value_looks word (inl is) = rw is (refl, refl, refl)
value_looks [] (inr other) = (refl, refl, refl)
value_looks (b ∷ word) (inr other) = go (nat_eq b 45) refl
  where
    go : (m : Bool) → nat_eq b 45 ≡ m → (bytes_eq (b ∷ word) stop ≡ false) × (long_of (b ∷ word) ≡ None) × (short_of (b ∷ word) ≡ None)
    go true m = absurd (other (eqb-true b 45 m))
    go false m = rw m (refl, refl, refl)

-- ---- each word

-- a text that goes on behind a hyphen has a first character
first_char : (b : ℕ) (text : Text) → IsUtf8 (45 ∷ b ∷ text) → (x : ℕ) × (slice_get (chars (b ∷ text)) 0 ≡ Some x)
unfolding chars is_utf8 encode_utf8
first_char b text utf8 = go (chars (b ∷ text)) refl
  where
    whole : is_utf8 (45 ∷ b ∷ text) ≡ true
    whole = is_utf8-from_IsUtf8 (45 ∷ b ∷ text) utf8

    go : (cs : Text) → chars (b ∷ text) ≡ cs → (x : ℕ) × (slice_get cs 0 ≡ Some x)
    go [] is = absurd (true≢false (sym whole ∙ rw is refl))
    go (c ∷ cs) is = (c, refl)

look_long : (names : List Text) (b : ℕ) (text : Text) → Look names (45 ∷ 45 ∷ b ∷ text)
look_long names b text = go (has_byte 61 (b ∷ text)) refl
  where
    name : Text
    name = before_first (λ x. nat_eq x 61) (b ∷ text)

    value : Text
    value = after_first (λ x. nat_eq x 61) (b ∷ text)

    go : (m : Bool) → has_byte 61 (b ∷ text) ≡ m → Look names (45 ∷ 45 ∷ b ∷ text)
    go true m = by_name (known names name) refl
      where
        long : long_of (45 ∷ 45 ∷ b ∷ text) ≡ Some (name, Some value)
        long = rw m refl

        by_name : (k : Bool) → known names name ≡ k → Look names (45 ∷ 45 ∷ b ∷ text)
        by_name true k = joined name value long k (ap (λ t. 45 ∷ 45 ∷ t) (cut_marked (b ∷ text) m))
        by_name false k = strange name (Some value) long k
    go false m = by_name (known names (b ∷ text)) refl
      where
        long : long_of (45 ∷ 45 ∷ b ∷ text) ≡ Some (b ∷ text, None)
        long = rw (m, cut_whole (b ∷ text) m) refl

        by_name : (k : Bool) → known names (b ∷ text) ≡ k → Look names (45 ∷ 45 ∷ b ∷ text)
        by_name true k = alone (b ∷ text) long k refl
        by_name false k = strange (b ∷ text) None long k

look_hyphen : (names : List Text) (text : Text) → bytes_eq (45 ∷ text) stop ≡ false → IsUtf8 (45 ∷ text) → Look names (45 ∷ text)
look_hyphen names [] on utf8 = beside refl refl (inl refl)
look_hyphen names (b ∷ text) on utf8 = go (nat_eq b 45) refl
  where
    both : (rest : Text) → bytes_eq (45 ∷ 45 ∷ rest) stop ≡ false → Look names (45 ∷ 45 ∷ rest)
    both [] e = absurd (true≢false e)
    both (y ∷ rest) e = look_long names y rest

    go : (m : Bool) → nat_eq b 45 ≡ m → Look names (45 ∷ b ∷ text)
    go true m = subst (λ y. bytes_eq (45 ∷ y ∷ text) stop ≡ false → Look names (45 ∷ y ∷ text)) (sym (eqb-true b 45 m)) (both text) on
    go false m =
        let first = first_char b text utf8 in
        short (b ∷ text) first.0 (rw m refl) (rw m refl) (omega arith) first.1

pub look : (names : List Text) (word : Text) → bytes_eq word stop ≡ false → IsUtf8 word → Look names word
look names [] on utf8 = beside refl refl (inr (λ e. omega (arith, e)))
look names (b ∷ text) on utf8 = go (nat_eq b 45) refl
  where
    go : (m : Bool) → nat_eq b 45 ≡ m → Look names (b ∷ text)
    go true m =
        subst (λ y. bytes_eq (y ∷ text) stop ≡ false → IsUtf8 (y ∷ text) → Look names (y ∷ text)) (sym (eqb-true b 45 m)) (look_hyphen names text) on utf8
    go false m = beside (rw m refl) (rw m refl) (inr (λ e. true≢false (sym (rw e refl) ∙ m)))
