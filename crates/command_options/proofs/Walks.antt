-- A walk passes the words exactly if they are options that are known, each for the first time.
use Rattle.std.proofs.Common.{◌≡◌, ◌∙◌, ◌≤◌, ◌||◌, ℕ, Bool, cond, true, false, zero, suc, refl, sym, ap, ap₂, subst, arith, List, [], ◌∷◌, ◌++◌, map, length, Option, Some, None, true≢false, append-nil, append_assoc, inl, inr}
use Rattle.std.specs.Prelude.{IsUtf8, option_map, ⊤}
use Rattle.std.specs.List.{All, fold}
use Rattle.std.specs.Str.{bytes_eq}
use Rattle.std.proofs.lemmas.List.{map-append}
use Rattle.std.proofs.lemmas.List.Folds.{Any-from_list_any}
use Rattle.clap.specs.Walk.{Held, Row, Text, Waiting, Walk, at_row, finished, has_row, idle, more_values, option, reacted, reading_by, settled, used, walked, with_default, with_values, without}
use Rattle.clap.specs.Kinds.{Kinds, or_else}
use Rattle.clap.specs.Faults.{check_fault, defaults_fault, react_fault, settle_fault, turn_fault, use_fault, walk_fault}
use Rattle.clap.specs.declared.parser.matches.ValueSource.TheVariants.{CommandLine}
use Rattle.command_options.specs.Options.{AreInOrder, BeginsOption, IsName, IsValueWord}
use Rattle.command_options.proofs.Rules.{found_id, known, read_rule, same_text}
use Rattle.command_options.proofs.Looks.{Look, alone, alone_goes_on, alone_word, beside, joined, joined_goes_on, joined_word, long_alone, long_joined, look, short, stop, strange, value_looks}
use Rattle.command_options.proofs.Turns.{alone_turn, at, held_by, joined_turn, or_assoc, or_both, short_turn, some_kind, strange_turn, stray_turn, top, value_turn}

-- a name with its value
abbrev pub Use : Type 0
Use = Text × Text

abbrev pub use_row : Use → Row
use_row u = record {
  id = u.0;
  values = u.1 ∷ [];
  count = None;
  source = Some CommandLine;
  reading = reading_by (read_rule u.0);
}

-- the first use of a name that is known
abbrev pub IsFresh : List Text → List Use → Use → Type 0
IsFresh names us u = (known names u.0 ≡ true) × (has_row u.0 (map use_row us) ≡ false)

abbrev pub Fits : List Text → List Use → List Use → Type 0
Fits names us [] = ⊤
Fits names us (u ∷ vs) = IsFresh names us u × Fits names (us ++ u ∷ []) vs

-- ---- one use

at_new_row : (id : Text) (change : Row → List Row) (missing rows : List Row) → has_row id rows ≡ false → at_row id change missing rows ≡ rows ++ missing
at_new_row id change missing [] e = refl
at_new_row id change missing (r ∷ rows) e = go (bytes_eq r.id id) refl e (at_new_row id change missing rows)
  where
    go : (b : Bool) → bytes_eq r.id id ≡ b → b || has_row id rows ≡ false → (has_row id rows ≡ false → at_row id change missing rows ≡ rows ++ missing)
        → at_row id change missing (r ∷ rows) ≡ (r ∷ rows) ++ missing
    go true b h rest = absurd (true≢false h)
    go false b h rest = rw b (ap (λ l. r ∷ l) (rest h))

use_fresh : (n v : Text) (rows : List Row) → has_row n rows ≡ false → use_fault false (read_rule n) (v ∷ []) rows ≡ []
use_fresh n v rows e = rw e refl

use_stale : (n v : Text) (rows : List Row) → use_fault false (read_rule n) (v ∷ []) rows ≡ [] → has_row n rows ≡ false
use_stale n v rows e = go (has_row n rows) refl
  where
    go : (b : Bool) → has_row n rows ≡ b → b ≡ false
    go false b = refl
    go true b = absurd (some_kind (rw b at e))

used_more : (us : List Use) (u : Use) → has_row u.0 (map use_row us) ≡ false → used (read_rule u.0) (u.1 ∷ []) (map use_row us) ≡ map use_row (us ++ u ∷ [])
used_more us u e =
    let rows = map use_row us in
    let out : without u.0 rows ≡ rows = at_new_row u.0 (λ _. []) [] rows e ∙ append-nil rows in
    ap (with_values u.0 (reading_by (read_rule u.0)) CommandLine (u.1 ∷ [])) out ∙ at_new_row u.0 (more_values CommandLine (u.1 ∷ [])) (use_row u ∷ []) rows e ∙ sym (map-append use_row us (u ∷ []))

-- ---- where a walk stands between two words: after uses, of which one may not have been written down

abbrev pub stands : List Use → Option Use → Held
stands us p = held_by (map use_row us) (option_map (λ u. (u.0, u.1 ∷ [])) p)

abbrev pub with_last : List Use → Option Use → List Use
with_last us None = us
with_last us (Some u) = us ++ u ∷ []

abbrev pub IsFreshLast : List Text → List Use → Option Use → Type 0
IsFreshLast names us None = ⊤
IsFreshLast names us (Some u) = IsFresh names us u

abbrev pub IsKnownLast : List Text → Option Use → Type 0
IsKnownLast names None = ⊤
IsKnownLast names (Some u) = known names u.0 ≡ true

settle_none : (names : List Text) (us : List Use) (p : Option Use) → IsFreshLast names us p → settle_fault (map read_rule names) false (stands us p) ≡ []
settle_none names us None fresh = refl
settle_none names us (Some u) fresh = rw (found_id names u.0, fresh.0) (use_fresh u.0 u.1 (map use_row us) fresh.1)

settle_rows : (names : List Text) (us : List Use) (p : Option Use) → IsFreshLast names us p → (settled (map read_rule names) (stands us p)).rows ≡ map use_row (with_last us p)
settle_rows names us None fresh = refl
settle_rows names us (Some u) fresh = rw (found_id names u.0, fresh.0) (used_more us u fresh.1)

settle_back : (names : List Text) (us : List Use) (p : Option Use) → IsKnownLast names p → settle_fault (map read_rule names) false (stands us p) ≡ [] → IsFreshLast names us p
settle_back names us None is_known e = tt
settle_back names us (Some u) is_known e = (is_known, use_stale u.0 u.1 (map use_row us) (rw (found_id names u.0, is_known) at e))

-- an option without its value isn't settled
unfilled : (names : List Text) (n : Text) (rows : List Row) → known names n ≡ true → settle_fault (map read_rule names) false (held_by rows (Some (n, []))) ≡ [] → ⊥
unfilled names n rows is_known e = some_kind (rw (found_id names n, is_known) at e)

-- the state after one more use whose value is in its word
joined_state : (names : List Text) (us : List Use) (p : Option Use) (u : Use) → IsFreshLast names us p → IsFresh names (with_last us p) u
    → reacted (map read_rule names) (read_rule u.0) (u.1 ∷ []) (stands us p) ≡ stands (with_last us p ++ u ∷ []) None
joined_state names us p u first fresh =
    ap (λ rows. held_by (used (read_rule u.0) (u.1 ∷ []) rows) None) (settle_rows names us p first)
    ∙ ap (λ rows. held_by rows None) (used_more (with_last us p) u fresh.1)

waiting_state : (names : List Text) (us : List Use) (p : Option Use) (n : Text) → IsFreshLast names us p
    → record (settled (map read_rule names) (stands us p)) { pending = Some (n, []) } ≡ held_by (map use_row (with_last us p)) (Some (n, []))
waiting_state names us p n first = ap (λ rows. held_by rows (Some (n, []))) (settle_rows names us p first)

-- ---- the faults of a walk and of what follows it

module _ (names : List Text) (name : Text) where
  abbrev pub faults_by_rows : List Row → Kinds
  faults_by_rows rows = or_else (defaults_fault rows (map read_rule names)) (check_fault (top names name) (fold with_default rows (map read_rule names)) false)

  abbrev pub end_fault : Held → Kinds
  end_fault h = or_else (settle_fault (map read_rule names) false h) (faults_by_rows (settled (map read_rule names) h).rows)

  abbrev pub faults : Walk → List Text → Kinds
  faults w words = or_else (walk_fault (top names name) [] w words) (end_fault (fold (walked (map read_rule names) []) w words).held)

  abbrev pub rows_at_end : Walk → List Text → List Row
  rows_at_end w words = finished (map read_rule names) (fold (walked (map read_rule names) []) w words).held

  faults_end : (w : Walk) → faults w [] ≡ end_fault w.held
  unfolding walk_fault
  faults_end w = refl

  faults_step : (w : Walk) (word : Text) (words : List Text)
      → faults w (word ∷ words) ≡ or_else (turn_fault (top names name) [] w word) (faults (walked (map read_rule names) [] w word) words)
  unfolding walk_fault
  faults_step w word words =
      let after = walked (map read_rule names) [] w word in
      or_assoc (turn_fault (top names name) [] w word) (walk_fault (top names name) [] after words) (end_fault (fold (walked (map read_rule names) []) after words).held)

  -- a word whose turn is known
  faults_then : (w after : Walk) (turn : Kinds) (word : Text) (words : List Text) → turn_fault (top names name) [] w word ≡ turn → walked (map read_rule names) [] w word ≡ after
      → faults w (word ∷ words) ≡ or_else turn (faults after words)
  faults_then w after turn word words is to = faults_step w word words ∙ ap₂ (λ k v. or_else k (faults v words)) is to

  rows_then : (w after : Walk) (word : Text) (words : List Text) → walked (map read_rule names) [] w word ≡ after → rows_at_end w (word ∷ words) ≡ rows_at_end after words
  rows_then w after word words to = ap (λ v. rows_at_end v words) to

  rows_by : (w : Walk) (waiting : Waiting) (h after : Held) (word : Text) (words : List Text) → walked (map read_rule names) [] w word ≡ at waiting h → h ≡ after
      → rows_at_end w (word ∷ words) ≡ rows_at_end (at waiting after) words
  rows_by w waiting h after word words to same = rows_then w (at waiting h) word words to ∙ ap (λ x. rows_at_end (at waiting x) words) same

  refused : (w : Walk) (word : Text) (words : List Text) → (turn_fault (top names name) [] w word ≡ [] → ⊥) → faults w (word ∷ words) ≡ [] → ⊥
  refused w word words never e = never (or_both _ _ (sym (faults_step w word words) ∙ e)).0

pub same_default : (n : Text) (rows : List Row) → with_default rows (read_rule n) ≡ rows
same_default n rows = go (has_row n rows)
  where
    go : (b : Bool) → cond b rows rows ≡ rows
    go true = refl
    go false = refl

pub no_defaults : (names : List Text) (rows : List Row) → fold with_default rows (map read_rule names) ≡ rows
no_defaults [] rows = refl
no_defaults (n ∷ names) rows = ap (λ r. fold with_default r (map read_rule names)) (same_default n rows) ∙ no_defaults names rows

-- the words go on, and are texts
abbrev pub AreTexts : List Text → Type 0
AreTexts [] = ⊤
AreTexts (word ∷ words) = (bytes_eq word stop ≡ false) × IsUtf8 word × AreTexts words

-- ---- the words of a walk that passes

pub record Sound (names : List Text) (name : Text) (us : List Use) (p : Option Use) (words : List Text) : Type 0 where
  pub order : List Use
  pub spelled : AreInOrder order words
  pub first : IsFreshLast names us p
  pub fits : Fits names (with_last us p) order
  pub ends : faults_by_rows names name (map use_row (with_last us p ++ order)) ≡ []
  pub rows : rows_at_end names name (at idle (stands us p)) words ≡ map use_row (with_last us p ++ order)

-- an option's name, and then its value
record Waited (names : List Text) (name : Text) (us : List Use) (n : Text) (words : List Text) : Type 0 where
  y : Text
  rest : List Text
  are : words ≡ y ∷ rest
  is : IsValueWord y
  passes : faults names name (at idle (stands us (Some (n, y)))) rest ≡ []
  same : rows_at_end names name (at (option n) (held_by (map use_row us) (Some (n, [])))) words ≡ rows_at_end names name (at idle (stands us (Some (n, y)))) rest
  texts : AreTexts rest

waited : (names : List Text) (name : Text) (us : List Use) (n : Text) (words : List Text) → known names n ≡ true → AreTexts words
    → faults names name (at (option n) (held_by (map use_row us) (Some (n, [])))) words ≡ [] → Waited names name us n words
waited names name us n [] is_known texts e = absurd (unfilled names n (map use_row us) is_known (or_both _ _ (sym (faults_end names name _) ∙ e)).0)
waited names name us n (y ∷ rest) is_known texts e = go (look names y texts.0 texts.1)
  where
    w : Walk
    w = at (option n) (held_by (map use_row us) (Some (n, [])))

    refuse : (turn_fault (top names name) [] w y ≡ [] → ⊥) → Waited names name us n (y ∷ rest)
    refuse never = absurd (refused names name w y rest never e)

    go : Look names y → Waited names name us n (y ∷ rest)
    go (joined m v long k is) = refuse (λ none. unfilled names n (map use_row us) is_known
        (or_both _ _ (sym (joined_turn names name (option n) (map use_row us) (Some (n, [])) y m v texts.0 long k).0 ∙ none)).0)
    go (alone m long k is) = refuse (λ none. unfilled names n (map use_row us) is_known
        (sym (alone_turn names name (option n) (map use_row us) (Some (n, [])) y m texts.0 long k).0 ∙ none))
    go (strange m v long k) = refuse (strange_turn names name (option n) (map use_row us) (Some (n, [])) y m v texts.0 long k)
    go (short flags x long is some first) = refuse (short_turn names name (option n) (map use_row us) (Some (n, [])) y flags x texts.0 long is some first)
    go (beside long is plain) =
        let turn = value_turn names name (map use_row us) y n texts.0 long is is_known in
        record {
          y = y;
          rest = rest;
          are = refl;
          is = plain;
          passes = sym (faults_then names name w _ [] y rest turn.0 turn.1) ∙ e;
          same = rows_then names name w _ y rest turn.1;
          texts = texts.2;
        }

abbrev SoundTo : List Text → Text → ℕ → Type 0
SoundTo names name k = (words : List Text) (us : List Use) (p : Option Use) → length words ≤ k → IsKnownLast names p → AreTexts words
    → faults names name (at idle (stands us p)) words ≡ [] → Sound names name us p words

sound_end : (names : List Text) (name : Text) (us : List Use) (p : Option Use) → IsKnownLast names p → faults names name (at idle (stands us p)) [] ≡ [] → Sound names name us p []
sound_end names name us p is_known e =
    let both = or_both _ _ (sym (faults_end names name _) ∙ e) in
    let first = settle_back names us p is_known both.0 in
    let rows = settle_rows names us p first in
    let all = append-nil (with_last us p) in
    record {
      order = [];
      spelled = refl;
      first = first;
      fits = tt;
      ends = ap (λ l. faults_by_rows names name (map use_row l)) all ∙ ap (faults_by_rows names name) (sym rows) ∙ both.1;
      rows = no_defaults names _ ∙ rows ∙ ap (map use_row) (sym all);
    }

sound_step : (names : List Text) (name : Text) (k : ℕ) → SoundTo names name k → SoundTo names name (suc k)
sound_step names name k rec [] us p le is_known texts e = sound_end names name us p is_known e
sound_step names name k rec (word ∷ words) us p le is_known texts e = go (look names word texts.0 texts.1)
  where
    w : Walk
    w = at idle (stands us p)

    go : Look names word → Sound names name us p (word ∷ words)
    go (joined n v long is_n is) =
        let turn = joined_turn names name idle (map use_row us) (option_map (λ u. (u.0, u.1 ∷ [])) p) word n v texts.0 long is_n in
        let both = or_both _ _ (sym (faults_then names name w _ _ word words turn.0 turn.1) ∙ e) in
        let inner = or_both _ _ both.0 in
        let first = settle_back names us p is_known inner.0 in
        let rows = settle_rows names us p first in
        let fresh : IsFresh names (with_last us p) (n, v) =
        (is_n, use_stale n v _ (subst (λ r. use_fault false (read_rule n) (v ∷ []) r ≡ []) rows inner.1)) in
        let state = joined_state names us p (n, v) first fresh in
        let next = rec words (with_last us p ++ (n, v) ∷ []) None (omega (arith, le)) tt texts.2 (subst (λ h. faults names name (at idle h) words ≡ []) state both.1) in
        let all = append_assoc (with_last us p) ((n, v) ∷ []) next.order in
        record {
          order = (n, v) ∷ next.order;
          spelled = (words, (inl (ap (λ x. x ∷ words) is), next.spelled));
          first = first;
          fits = (fresh, next.fits);
          ends = subst (λ l. faults_by_rows names name (map use_row l) ≡ []) all next.ends;
          rows = rows_by names name w idle _ _ word words turn.1 state ∙ next.rows ∙ ap (map use_row) all;
        }
    go (alone n long is_n is) =
        let turn = alone_turn names name idle (map use_row us) (option_map (λ u. (u.0, u.1 ∷ [])) p) word n texts.0 long is_n in
        let both = or_both _ _ (sym (faults_then names name w _ _ word words turn.0 turn.1) ∙ e) in
        let first = settle_back names us p is_known both.0 in
        let state = waiting_state names us p n first in
        let value = waited names name (with_last us p) n words is_n texts.2 (subst (λ h. faults names name (at (option n) h) words ≡ []) state both.1) in
        let less : length value.rest ≤ k = let l : length words ≡ suc (length value.rest) = ap length value.are in omega (arith, le, l) in
        let next = rec value.rest (with_last us p) (Some (n, value.y)) less is_n value.texts value.passes in
        let all = append_assoc (with_last us p) ((n, value.y) ∷ []) next.order in
        record {
          order = (n, value.y) ∷ next.order;
          spelled = (value.rest, (inr (ap₂ (λ a b. a ∷ b) is value.are, value.is), next.spelled));
          first = first;
          fits = (next.first, next.fits);
          ends = subst (λ l. faults_by_rows names name (map use_row l) ≡ []) all next.ends;
          rows = rows_by names name w (option n) _ _ word words turn.1 state ∙ value.same ∙ next.rows ∙ ap (map use_row) all;
        }
    go (strange n v long un) =
        absurd (refused names name w word words (strange_turn names name idle (map use_row us) (option_map (λ u. (u.0, u.1 ∷ [])) p) word n v texts.0 long un) e)
    go (short flags x long is some first) =
        absurd (refused names name w word words (short_turn names name idle (map use_row us) (option_map (λ u. (u.0, u.1 ∷ [])) p) word flags x texts.0 long is some first) e)
    go (beside long is plain) =
        absurd (refused names name w word words (stray_turn names name (map use_row us) (option_map (λ u. (u.0, u.1 ∷ [])) p) word texts.0 long is) e)

sound_to : (names : List Text) (name : Text) (k : ℕ) → SoundTo names name k
sound_to names name zero [] us p le is_known texts e = sound_end names name us p is_known e
sound_to names name zero (word ∷ words) us p le is_known texts e = absurd (omega (arith, le))
sound_to names name (suc k) words us p le is_known texts e = sound_step names name k (sound_to names name k) words us p le is_known texts e

pub sound : (names : List Text) (name : Text) (words : List Text) → AreTexts words → faults names name (at idle (stands [] None)) words ≡ [] → Sound names name [] None words
sound names name words texts e = sound_to names name (length words) words [] None (omega arith) tt texts e

-- ---- words that a walk passes

pub known_name : (names : List Text) (n : Text) → All IsName names → known names n ≡ true → IsName n
known_name names n each e =
    let any = Any-from_list_any (λ m. bytes_eq m n) names e in
    subst IsName (same_text _ n any.4) (subst IsName any.3 (each any.0 any.1 any.2))

pub record Passes (names : List Text) (name : Text) (us : List Use) (p : Option Use) (words : List Text) (all : List Use) : Type 0 where
  pub none : faults names name (at idle (stands us p)) words ≡ []
  pub rows : rows_at_end names name (at idle (stands us p)) words ≡ map use_row all

passes_end : (names : List Text) (name : Text) (us : List Use) (p : Option Use) → IsFreshLast names us p → faults_by_rows names name (map use_row (with_last us p)) ≡ []
    → Passes names name us p [] (with_last us p)
passes_end names name us p first ends =
    let rows = settle_rows names us p first in
    record {
      none = faults_end names name _ ∙ ap₂ (λ a r. or_else a (faults_by_rows names name r)) (settle_none names us p first) rows ∙ ends;
      rows = no_defaults names _ ∙ rows;
    }

passes_joined : (names : List Text) (name : Text) (us : List Use) (p : Option Use) (u : Use) (words : List Text) (all : List Use) → IsName u.0 → IsFreshLast names us p → IsFresh names (with_last us p) u
    → Passes names name (with_last us p ++ u ∷ []) None words all → Passes names name us p (joined_word u.0 u.1 ∷ words) all
passes_joined names name us p u words all named first fresh next =
    let turn = joined_turn names name idle (map use_row us) (option_map (λ u. (u.0, u.1 ∷ [])) p) (joined_word u.0 u.1) u.0 u.1
    (joined_goes_on u.0 u.1) (long_joined u.0 u.1 named.1) fresh.0 in
    let state = joined_state names us p u first fresh in
    let rows = settle_rows names us p first in
    let now : react_fault (map read_rule names) false (read_rule u.0) (u.1 ∷ []) (stands us p) ≡ [] =
    ap₂ (λ a r. or_else a (use_fault false (read_rule u.0) (u.1 ∷ []) r)) (settle_none names us p first) rows ∙ use_fresh u.0 u.1 _ fresh.1 in
    record {
      none = faults_then names name _ _ [] _ words (turn.0 ∙ now) (turn.1 ∙ ap (at idle) state) ∙ next.none;
      rows = rows_then names name _ _ _ words (turn.1 ∙ ap (at idle) state) ∙ next.rows;
    }

passes_alone : (names : List Text) (name : Text) (us : List Use) (p : Option Use) (u : Use) (words : List Text) (all : List Use) → IsName u.0 → IsValueWord u.1 → IsFreshLast names us p
    → known names u.0 ≡ true → Passes names name (with_last us p) (Some u) words all → Passes names name us p (alone_word u.0 ∷ u.1 ∷ words) all
passes_alone names name us p u words all named plain first is_known next =
    let turn = alone_turn names name idle (map use_row us) (option_map (λ u. (u.0, u.1 ∷ [])) p) (alone_word u.0) u.0
    (alone_goes_on u.0 named.0) (long_alone u.0 named.0 named.1) is_known in
    let state = waiting_state names us p u.0 first in
    let looks = value_looks u.1 plain in
    let value = value_turn names name (map use_row (with_last us p)) u.1 u.0 looks.0 looks.1 looks.2 is_known in
    record {
      none = faults_then names name _ _ [] _ (u.1 ∷ words) (turn.0 ∙ settle_none names us p first) (turn.1 ∙ ap (at (option u.0)) state)
          ∙ faults_then names name _ _ [] u.1 words value.0 value.1 ∙ next.none;
      rows = rows_then names name _ _ _ (u.1 ∷ words) (turn.1 ∙ ap (at (option u.0)) state)
          ∙ rows_then names name _ _ u.1 words value.1 ∙ next.rows;
    }

passes : (names : List Text) (name : Text) → All IsName names → (order us : List Use) (p : Option Use) (words : List Text) → AreInOrder order words
    → IsFreshLast names us p → Fits names (with_last us p) order → faults_by_rows names name (map use_row (with_last us p ++ order)) ≡ []
    → Passes names name us p words (with_last us p ++ order)
passes names name named [] us p words spelled first fits ends =
    let all = append-nil (with_last us p) in
    subst (λ l. Passes names name us p words l) (sym all)
    (subst (λ ws. Passes names name us p ws (with_last us p)) (sym spelled)
    (passes_end names name us p first (ap (λ l. faults_by_rows names name (map use_row l)) (sym all) ∙ ends)))
passes names name named (u ∷ order) us p words spelled first fits ends =
    let all = append_assoc (with_last us p) (u ∷ []) order in
    let ends2 = ap (λ l. faults_by_rows names name (map use_row l)) all ∙ ends in
    let in_one = passes names name named order (with_last us p ++ u ∷ []) None spelled.0 spelled.1.1 tt fits.1 ends2 in
    let in_two = passes names name named order (with_last us p) (Some u) spelled.0 spelled.1.1 fits.0 fits.1 ends2 in
    subst (λ l. Passes names name us p words l) all (go spelled.1.0 in_one in_two)
  where
    is_named : IsName u.0
    is_named = known_name names u.0 named fits.0.0

    go : BeginsOption u.0 u.1 words spelled.0 → Passes names name (with_last us p ++ u ∷ []) None spelled.0 ((with_last us p ++ u ∷ []) ++ order)
        → Passes names name (with_last us p) (Some u) spelled.0 ((with_last us p ++ u ∷ []) ++ order) → Passes names name us p words ((with_last us p ++ u ∷ []) ++ order)
    go (inl is) in_one in_two = subst (λ ws. Passes names name us p ws ((with_last us p ++ u ∷ []) ++ order)) (sym is) (passes_joined names name us p u spelled.0 _ is_named first fits.0 in_one)
    go (inr is) in_one in_two = subst (λ ws. Passes names name us p ws ((with_last us p ++ u ∷ []) ++ order)) (sym is.0) (passes_alone names name us p u spelled.0 _ is_named is.1 first fits.0.0 in_two)

pub complete : (names : List Text) (name : Text) → All IsName names → (order : List Use) (words : List Text) → AreInOrder order words → Fits names [] order
    → faults_by_rows names name (map use_row order) ≡ [] → Passes names name [] None words order
complete names name named order words spelled fits ends = passes names name named order [] None words spelled tt fits ends
