-- What one word does to a walk over options that have to be given and take a value.
use Rattle.std.proofs.Common.{◌≡◌, ◌<◌, ℕ, true, false, refl, arith, List, [], ◌∷◌, map, length, Option, Some, None}
use Rattle.std.specs.Prelude.{slice_get}
use Rattle.std.specs.Str.{bytes_eq, chars}
use Rattle.clap.specs.Lexer.{long_of, short_of}
use Rattle.clap.specs.Walk.{Held, Row, Text, Waiting, Walk, idle, option, reacted, settled, subcommand_met, walked}
use Rattle.clap.specs.Walk.{positional}
use Rattle.clap.specs.Kinds.{Kinds, or_else}
use Rattle.clap.specs.Simple.{Shape, new_shape}
use Rattle.clap.specs.Faults.{flags_fault, react_fault, settle_fault, turn_fault}
use Rattle.clap.specs.declared.error.kind.ErrorKind.{ErrorKind}
use Rattle.clap.specs.declared.error.kind.ErrorKind.TheVariants as kind
use Rattle.command_options.proofs.Rules.{found_id, found_long, found_place, found_short, known, own_text, read_rule}
use Rattle.command_options.proofs.Looks.{stop}

-- the command, as building leaves it
abbrev pub top : List Text → Text → Shape
top names name = record (new_shape name) {
  rules = map read_rule names;
  no_binary_name = true;
  disable_help_flag = true;
  disable_help_subcommand = true;
  disable_version_flag = true;
  is_built = true;
}

-- where a walk stands
abbrev pub at : Waiting → Held → Walk
at waiting h = record {
  held = h;
  waiting = waiting;
  position = 1;
  is_trailing = false;
  stopped = None;
}

abbrev pub held_by : List Row → Option (Text × List Text) → Held
held_by rows pending = record { rows = rows; pending = pending; skip = 0 }

-- ---- kinds of faults

pub or_none : (a : Kinds) → or_else a [] ≡ a
or_none [] = refl
or_none (k ∷ ks) = refl

pub or_assoc : (a b d : Kinds) → or_else (or_else a b) d ≡ or_else a (or_else b d)
or_assoc [] b d = refl
or_assoc (k ∷ ks) b d = refl

pub or_both : (a b : Kinds) → or_else a b ≡ [] → (a ≡ []) × (b ≡ [])
or_both [] b e = (refl, e)
or_both (k ∷ ks) b e = absurd (some_kind k ks e)
  where
    some_kind : (k : ErrorKind) (ks : Kinds) → k ∷ ks ≡ [] → ⊥
    some_kind k ks e = cc

pub some_kind : {k : ErrorKind} {ks : Kinds} → k ∷ ks ≡ [] → ⊥
some_kind e = cc

no_subcommand : (waiting : Waiting) (word : Text) → subcommand_met [] waiting word ≡ None
no_subcommand idle word = refl
no_subcommand (option n) word = refl
no_subcommand positional word = refl

-- ---- one word

module _ (names : List Text) (name : Text) (waiting : Waiting) (rows : List Row) (pending : Option (Text × List Text)) (word : Text) where
  pub joined_turn : (n v : Text) → bytes_eq word stop ≡ false → long_of word ≡ Some (n, Some v) → known names n ≡ true
      → (turn_fault (top names name) [] (at waiting (held_by rows pending)) word ≡ react_fault (map read_rule names) false (read_rule n) (v ∷ []) (held_by rows pending))
      × (walked (map read_rule names) [] (at waiting (held_by rows pending)) word ≡ at idle (reacted (map read_rule names) (read_rule n) (v ∷ []) (held_by rows pending)))
  unfolding walked
  joined_turn n v unstopped long is_known = (
    rw (no_subcommand waiting word, unstopped, long, found_long names n, is_known) (or_none _),
    rw (no_subcommand waiting word, unstopped, long, found_long names n, is_known) refl,
  )

  pub alone_turn : (n : Text) → bytes_eq word stop ≡ false → long_of word ≡ Some (n, None) → known names n ≡ true
      → (turn_fault (top names name) [] (at waiting (held_by rows pending)) word ≡ settle_fault (map read_rule names) false (held_by rows pending))
      × (walked (map read_rule names) [] (at waiting (held_by rows pending)) word ≡ at (option n) (record (settled (map read_rule names) (held_by rows pending)) { pending = Some (n, []) }))
  unfolding walked
  alone_turn n unstopped long is_known = (
    rw (no_subcommand waiting word, unstopped, long, found_long names n, is_known) (or_none _),
    rw (no_subcommand waiting word, unstopped, long, found_long names n, is_known) refl,
  )

  pub strange_turn : (n : Text) (v : Option Text) → bytes_eq word stop ≡ false → long_of word ≡ Some (n, v) → known names n ≡ false
      → turn_fault (top names name) [] (at waiting (held_by rows pending)) word ≡ [] → ⊥
  strange_turn n v unstopped long unknown e = some_kind (rw (no_subcommand waiting word, unstopped, long, found_long names n, unknown) at e)

  pub short_turn : (flags : Text) (x : ℕ) → bytes_eq word stop ≡ false → long_of word ≡ None → short_of word ≡ Some flags → 0 < length flags → slice_get (chars flags) 0 ≡ Some x
      → turn_fault (top names name) [] (at waiting (held_by rows pending)) word ≡ [] → ⊥
  unfolding flags_fault
  short_turn [] x unstopped long is_short some first e = absurd (omega (arith, some))
  short_turn (b ∷ flags) x unstopped long is_short some first e = some_kind (rw (no_subcommand waiting word, unstopped, long, is_short, first, found_short names x) at e)

module _ (names : List Text) (name : Text) (rows : List Row) (pending : Option (Text × List Text)) (word : Text) where
  pub stray_turn : bytes_eq word stop ≡ false → long_of word ≡ None → short_of word ≡ None
      → turn_fault (top names name) [] (at idle (held_by rows pending)) word ≡ [] → ⊥
  stray_turn unstopped long is_short e = some_kind (rw (unstopped, long, is_short, found_place names 1) at e)

module _ (names : List Text) (name : Text) (rows : List Row) (word : Text) where
  pub value_turn : (n : Text) → bytes_eq word stop ≡ false → long_of word ≡ None → short_of word ≡ None → known names n ≡ true
      → (turn_fault (top names name) [] (at (option n) (held_by rows (Some (n, [])))) word ≡ [])
      × (walked (map read_rule names) [] (at (option n) (held_by rows (Some (n, [])))) word ≡ at idle (held_by rows (Some (n, word ∷ []))))
  unfolding walked
  value_turn n unstopped long is_short is_known = (
    rw (unstopped, long, is_short) refl,
    rw (unstopped, long, is_short, found_id names n, is_known, own_text n) refl,
  )
