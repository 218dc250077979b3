-- What clap makes of the command: the kinds of its faults and its matches, by the grammar of the options.
use Rattle.std.proofs.Common.{◌≡◌, ◌∙◌, ◌<◌, ℕ, true, false, refl, sym, ap, subst, List, [], ◌∷◌, ◌+◌, ◌++◌, get_or, map, take, length, Option, Some, None, inl, inr}
use Rattle.std.specs.Borrow.{Bor}
use Rattle.std.proofs.lemmas.List.{map-append, map_more}
use Rattle.std.specs.List.{All, AllByRecursion}
use Rattle.std.specs.Str.{bytes_eq}
use Rattle.clap.specs.Walk.{Rule, Text, first_of, idle, nothing_held, rows_after}
use Rattle.clap.specs.Simple.{App, built, is_simple, matches_of, new_shape, with_rule}
use Rattle.clap.specs.Faults.{built_fault, fault_of, is_simple_and_free}
use Rattle.clap.proofs.FaultLemmas.{leaf_fault}
use Rattle.command_options.specs.Apps.{option_rule, options_app}
use Rattle.command_options.specs.Options.{AreInOrder, AreNames, BeginsOption, HasOptions, IsName}
use Rattle.command_options.proofs.Rules.{filled_rules, free_rules, no_early, simple_options, simple_rules}
use Rattle.command_options.proofs.Looks.{alone_goes_on, joined_goes_on, stop, value_looks}
use Rattle.command_options.proofs.Turns.{at, top}
use Rattle.command_options.proofs.Walks.{AreTexts, Fits, Use, complete, faults, known_name, rows_at_end, sound, stands}
use Rattle.command_options.proofs.Orders.{ends_well, fits_valued, none_missing, placed}

built_app : (names : List Text) (name : Text) → built (options_app names name) ≡ record { top = top names name; subs = [] }
built_app names name = ap (λ rules. record { top = record (top names name) { rules = rules }; subs = [] }) (filled_rules names 1)

pub simple_app : (names : List Text) (name : Text) → is_simple (options_app names name) ≡ true
simple_app names name = rw (filled_rules names 1, simple_options names, simple_rules names, no_early names) refl

pub simple_and_free : (names : List Text) (name : Text) → is_simple_and_free (options_app names name) ≡ true
simple_and_free names name = rw (filled_rules names 1, simple_options names, simple_rules names, no_early names, free_rules names) refl

fault_is : (names : List Text) (name : Text) (words : List Text) → fault_of (options_app names name) words ≡ faults names name (at idle (stands [] None)) words
fault_is names name words =
    ap (λ a. built_fault a nothing_held words) (built_app names name)
    ∙ leaf_fault (record { top = top names name; subs = [] }) nothing_held words refl

rows_is : (names : List Text) (name : Text) (words : List Text) → matches_of (options_app names name) words ≡ rows_at_end names name (at idle (stands [] None)) words
rows_is names name words = ap (λ rules. rows_after rules [] words) (filled_rules names 1)

-- the values that clap reads, in the order of the names
abbrev pub values_read : List Text → Text → List Text → List (Option Text)
values_read names name words = map (λ n. first_of n (matches_of (options_app names name) words)) names

pub record TakesWords (names : List Text) (name : Text) (words : List Text) : Type 0 where
  pub values : List Text
  pub has : HasOptions names values words
  pub are : values_read names name words ≡ map (λ v. Some v) values

-- words with no fault are the options
pub taken_words : (names : List Text) (name : Text) (words : List Text) → AreNames names → AreTexts words → fault_of (options_app names name) words ≡ [] → TakesWords names name words
taken_words names name words named texts e =
    let s = sound names name words texts (sym (fault_is names name words) ∙ e) in
    let v = fits_valued names s.order named.differ s.fits (none_missing names name s.order s.ends) in
    record {
      values = v.values;
      has = record {
        order = s.order;
        counted = v.counted;
        each_once = v.order;
        spelled = s.spelled;
      };
      are = ap (λ rows. map (λ n. first_of n rows) names) (rows_is names name words ∙ s.rows) ∙ v.are;
    }

-- the options have no fault, and clap reads their values
pub given_words : (names : List Text) (name : Text) (values words : List Text) → AreNames names → HasOptions names values words
    → (fault_of (options_app names name) words ≡ []) × (values_read names name words ≡ map (λ v. Some v) values)
given_words names name values words named h =
    let p = placed names values h.order named.differ h.counted h.each_once in
    let c = complete names name named.spelled h.order words h.spelled p.fits (ends_well names name h.order p.all) in
    (fault_is names name words ∙ c.none, ap (λ rows. map (λ n. first_of n rows) names) (rows_is names name words ∙ c.rows) ∙ p.are)

in_order_go_on : (names : List Text) → All IsName names → (order us : List Use) (words : List Text) → AreInOrder order words → Fits names us order → AllByRecursion (λ word. bytes_eq word stop ≡ false) words
in_order_go_on names named [] us words spelled fits = subst (AllByRecursion (λ word. bytes_eq word stop ≡ false)) (sym spelled) tt
in_order_go_on names named (u ∷ order) us words spelled fits = go spelled.1.0 (in_order_go_on names named order (us ++ u ∷ []) spelled.0 spelled.1.1 fits.1)
  where
    is_named : IsName u.0
    is_named = known_name names u.0 named fits.0.0

    go : BeginsOption u.0 u.1 words spelled.0 → AllByRecursion (λ word. bytes_eq word stop ≡ false) spelled.0 → AllByRecursion (λ word. bytes_eq word stop ≡ false) words
    go (inl is) rest = subst (AllByRecursion (λ word. bytes_eq word stop ≡ false)) (sym is) (joined_goes_on u.0 u.1, rest)
    go (inr is) rest = subst (AllByRecursion (λ word. bytes_eq word stop ≡ false)) (sym is.0) (alone_goes_on u.0 is_named.0, ((value_looks u.1 is.1).0, rest))

-- no word of options ends them
pub options_go_on : (names values words : List Text) → AreNames names → HasOptions names values words → AllByRecursion (λ word. bytes_eq word stop ≡ false) words
options_go_on names values words named h =
    let p = placed names values h.order named.differ h.counted h.each_once in
    in_order_go_on names named.spelled h.order [] words h.spelled p.fits

-- the command with these rules
abbrev app_with : Text → List Rule → App
app_with name rules = record {
  top = record (new_shape name) {
    rules = rules;
    no_binary_name = true;
    disable_help_flag = true;
    disable_version_flag = true;
  };
  subs = [];
}

-- an option more
pub more_rules : (names : List (Bor Text)) (i : ℕ) (d : Bor Text) (name : Text) → i < length names
    → with_rule (options_app (map (λ n. n.now) (take i names)) name) (option_rule (get_or names i d).now) ≡ options_app (map (λ n. n.now) (take (i + 1) names)) name
more_rules names i d name lt = ap (app_with name)
    (sym (map-append option_rule (map (λ n. n.now) (take i names)) ((get_or names i d).now ∷ []))
    ∙ ap (map option_rule) (sym (map_more (λ n. n.now) names i d lt)))
