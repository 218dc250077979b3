-- A first line in the plain form asks for the reference that its words name.
use Rattle.std.proofs.Common.{◌≡◌, ◌≢◌, ℕ, ◌+◌, ◌-◌, ◌*◌, ◌%◌, ◌^◌, ◌==◌, nat_lt, ◌<◌, ◌≤◌, Bool, true, false, eqb, leb, ltb, ◌&&◌, List, [], ◌∷◌, ◌++◌, length, All, Option, Some, None, option_map, cond, Result, Ok, Err, refl, sym, ap, subst, ◌∙◌, arith, append-nil, append_assoc, length-append, get_or}
use Rattle.std.specs.List.{list_all, AllByRecursion}
use Rattle.std.proofs.lemmas.Bool.{and_parts, eqb-true, le-leb, leb-true, lt-ltb, ltb-true}
use Rattle.std.proofs.lemmas.List.Elements.{All-from_recursion}
use Rattle.std.proofs.lemmas.List.Folds.{list_all-append, list_all_at}
use Rattle.vm_types.specs.Versions.{most_lines, most_requests}
use Rattle.vm_types.specs.WellFormed.{width_bytes}
use Rattle.vm_types.specs.declared.config.Config.{Config}
use Rattle.vm_types.specs.declared.reference.Mode.{Mode}
use Rattle.vm_types.specs.declared.reference.Mode.TheVariants.{K, E, S, U}
use Rattle.vm_types.specs.declared.reference.Op.{Op as What}
use Rattle.vm_types.specs.declared.reference.Width.{Width}
use Rattle.vm_types.specs.declared.reference.Width.TheVariants.{Four}
use Rattle.trace_words.specs.declared.cause.Cause.{Cause}
use Rattle.trace_words.specs.declared.cause.Cause.TheVariants.{UnknownWord, NoSuch, Unaligned}
use Rattle.trace_words.specs.declared.ops.Access.{Access}
use Rattle.trace_words.specs.declared.ops.Access.TheVariants.{Read, Write, Add}
use Rattle.trace_words.specs.declared.ops.OpName.{OpName}
use Rattle.trace_words.specs.Judged.{◌>>=◌, owed}
use Rattle.trace_words.specs.Letter.{letter}
use Rattle.trace_words.specs.Name.{is_capital}
use Rattle.trace_words.specs.Number.{hexadecimal, hexadecimal_digit, spelled, has_length}
use Rattle.trace_words.specs.OpWords.{op_name, with_mode, access_of}
use Rattle.trace_words.specs.Words.{is, is_blank, words}
use Rattle.trace_words.proofs.Splitting.{words_blank, words_one, words_more}
use Rattle.trace_lines.specs.declared.part.Part.{Part}
use Rattle.trace_lines.specs.Grammar.{by_first, is_text, content, ends_with_return, judged}
use Rattle.trace_lines.specs.Lookups.{process, aligned}
use Rattle.trace_lines.specs.Places.{rank}
use Rattle.trace_lines.specs.Plain.{IsPlainFront, IsPlainOp, IsPlainValue, IsValued, IsEndedNumber, IsEndedValue, IsEndedOp, IsFirstRequest, asked, takes_request, width_of}
use Rattle.trace_lines.specs.Requests.{reference_line, write_of}
use Rattle.trace_lines.specs.Says.{Says, Request}

-- a byte of a word

record IsWordByte (b : ℕ) : Type 0 where
  pub solid : is_blank b ≡ false
  pub text : is_text b ≡ true

capital_byte : (b : ℕ) → is_capital b ≡ true → IsWordByte b
capital_byte b e = record { solid = grind arith; text = grind arith }

digit_byte : (b d : ℕ) → hexadecimal_digit b ≡ Ok d → IsWordByte b
digit_byte b d e = record { solid = grind arith; text = grind arith }

-- the two bytes of an operation's name

one_byte : (b : ℕ) → access_of (b ∷ []) ≡ None
one_byte b = grind arith

one_named : (mode : Mode) (b : ℕ) → with_mode mode (b ∷ []) ≡ None
one_named mode b = rw (one_byte b) refl

access_bytes : (a b : ℕ) (access : Access) → access_of (a ∷ b ∷ []) ≡ Some access → IsWordByte a × IsWordByte b
access_bytes a b access e = (record { solid = grind arith; text = grind arith }, record { solid = grind arith; text = grind arith })

else_some : {A : Type 0} (test : Bool) (x y : Option A) (v : A) → cond test x y ≡ Some v → x ≡ None → y ≡ Some v
else_some true x y v e none = absurd cc
else_some false x y v e none = e

mapped : {A B : Type 0} (f : A → B) (r : Option A) (v : B) → option_map f r ≡ Some v → (u : A) × (r ≡ Some u)
mapped f (Some u) v e = (u, refl)
mapped f None v e = absurd cc

op_bytes : (a b : ℕ) (name : OpName) → op_name (a ∷ b ∷ []) ≡ Some name → IsWordByte a × IsWordByte b
op_bytes a b name e =
    let k = else_some (eqb a 75) _ _ name e (one_named K b) in
    let m = else_some (eqb a 69) _ _ name k (one_named E b) in
    let s = else_some (eqb a 83) _ _ name m (one_named S b) in
    let u = else_some (eqb a 85) _ _ name s (one_named U b) in
    let access = mapped (λ (access : Access). record { mode = U; access = access }) (access_of (a ∷ b ∷ [])) name u in
    access_bytes a b access.0 access.1

-- a number's word

record IsWord (word : List ℕ) : Type 0 where
  pub solid : All (λ b. is_blank b ≡ false) word
  pub text : list_all is_text word ≡ true
  pub some : ltb 0 (length word) ≡ true
  pub few : length word ≤ 8

record AreWordBytes (word : List ℕ) : Type 0 where
  pub solid : AllByRecursion (λ b. is_blank b ≡ false) word
  pub text : list_all is_text word ≡ true

digits_by : (b d : ℕ) (word : List ℕ) → hexadecimal_digit b ≡ Ok d → AreWordBytes word → AreWordBytes (b ∷ word)
digits_by b d word e more = let byte = digit_byte b d e in record { solid = (byte.solid, more.solid); text = rw (byte.text, more.text) refl }

bind_ok : {A B : Type 0} (r : Result A Cause) (f : A → Result B Cause) (y : B) → (r >>= f) ≡ Ok y → (x : A) × (r ≡ Ok x) × (f x ≡ Ok y)
bind_ok (Ok x) f y e = (x, refl, e)
bind_ok (Err cause) f y e = absurd cc

digits_are : (before : ℕ) (word : List ℕ) (n : ℕ) → spelled hexadecimal_digit 16 before word ≡ Ok n → AreWordBytes word
digits_are before [] n e = record { solid = tt; text = refl }
digits_are before (b ∷ word) n e =
    let first = bind_ok (hexadecimal_digit b) (λ d. spelled hexadecimal_digit 16 (16 * before + d) word) n e in
    digits_by b first.0 word first.1 (digits_are (16 * before + first.0) word n first.2)

owed_ok : {A : Type 0} (test : Bool) (cause : Cause) (r : Result A Cause) (x : A) → owed test cause r ≡ Ok x → (test ≡ true) × (r ≡ Ok x)
owed_ok true cause r x e = (refl, e)
owed_ok false cause r x e = absurd cc

number_word : (word : List ℕ) (n : ℕ) → hexadecimal word ≡ Ok n → IsWord word
number_word word n e =
    let parts = owed_ok (has_length 8 word) _ _ n e in
    let bytes = digits_are 0 word n parts.1 in
    record { solid = All-from_recursion (λ b. is_blank b ≡ false) word bytes.solid; text = bytes.text; some = (let long = parts.0 in grind arith); few = (let long = parts.0 in grind arith) }

-- the words of a text in the plain form, and its bytes

more_word : (word behind : List ℕ) → ltb 0 (length word) ≡ true → All (λ b. is_blank b ≡ false) word → words (word ++ 32 ∷ behind) ≡ word ∷ words behind
more_word word behind some solid = words_more word (32 ∷ behind) some solid refl ∙ ap (λ (ws : List (List ℕ)). word ∷ ws) (words_blank 32 behind refl)

one_solid : (a : ℕ) → IsWordByte a → All (λ b. is_blank b ≡ false) (a ∷ [])
one_solid a h = All-from_recursion (λ b. is_blank b ≡ false) (a ∷ []) (h.solid, tt)

two_solid : (a b : ℕ) → IsWordByte a → IsWordByte b → All (λ b. is_blank b ≡ false) (a ∷ b ∷ [])
two_solid a b h k = All-from_recursion (λ b. is_blank b ≡ false) (a ∷ b ∷ []) (h.solid, (k.solid, tt))

-- nothing, or a blank and a word
data Behind : List ℕ → Type 0 where
  nothing : Behind []
  value : (word : List ℕ) → IsWord word → Behind (32 ∷ word)

last_words : (address behind : List ℕ) → IsWord address → Behind behind → words (address ++ behind) ≡ address ∷ words behind
last_words address _ h nothing = ap words (append-nil address) ∙ words_one address h.some h.solid
last_words address _ h (value word k) = more_word address word h.some h.solid ∙ ap (λ (ws : List (List ℕ)). address ∷ ws) (sym (words_blank 32 word refl))

last_text : (address behind : List ℕ) → IsWord address → Behind behind → list_all is_text (address ++ behind) ≡ true
last_text address _ h nothing = ap (list_all is_text) (append-nil address) ∙ h.text
last_text address _ h (value word k) = list_all-append is_text address (32 ∷ word) ∙ (rw (h.text, k.text) refl)

last_length : (address behind : List ℕ) → IsWord address → Behind behind → length (address ++ behind) ≤ 17
last_length address _ h nothing = rw length-append (omega (arith, h.few))
last_length address _ h (value word k) = rw length-append (omega (arith, h.few, k.few))

plain_words : (x first second : ℕ) (address behind : List ℕ) → IsWordByte x → IsWordByte first → IsWordByte second → IsWord address → Behind behind
    → words (x ∷ 32 ∷ first ∷ second ∷ 32 ∷ (address ++ behind)) ≡ (x ∷ []) ∷ (first ∷ second ∷ []) ∷ address ∷ words behind
plain_words x first second address behind hx hf hs ha hb =
    more_word (x ∷ []) (first ∷ second ∷ 32 ∷ (address ++ behind)) refl (one_solid x hx)
    ∙ ap (λ (ws : List (List ℕ)). (x ∷ []) ∷ ws) (more_word (first ∷ second ∷ []) (address ++ behind) refl (two_solid first second hf hs))
    ∙ ap (λ (ws : List (List ℕ)). (x ∷ []) ∷ (first ∷ second ∷ []) ∷ ws) (last_words address behind ha hb)

plain_text : (x first second : ℕ) (address behind : List ℕ) → IsWordByte x → IsWordByte first → IsWordByte second → IsWord address → Behind behind
    → list_all is_text (x ∷ 32 ∷ first ∷ second ∷ 32 ∷ (address ++ behind)) ≡ true
plain_text x first second address behind hx hf hs ha hb = rw (hx.text, hf.text, hs.text, last_text address behind ha hb) refl

-- what the words say

value_behind : (width : Width) (behind : List ℕ) (n : ℕ) → IsPlainValue width behind n → Behind behind
value_behind width behind n h = subst Behind (sym h.whole) (value h.word (number_word h.word n h.spelled))

op_behind : (access : Access) (behind : List ℕ) (what : What) → IsPlainOp access behind what → Behind behind
op_behind (Read width) behind what h = subst Behind (sym h.0) nothing
op_behind (Write width) behind what h = value_behind width behind h.0 h.1
op_behind Add behind what h = value_behind Four behind h.0 h.1

value_words : (width : Width) (behind : List ℕ) (n : ℕ) → (h : IsPlainValue width behind n) → words behind ≡ h.word ∷ []
value_words width behind n h =
    let word = number_word h.word n h.spelled in
    ap words h.whole ∙ words_blank 32 h.word refl ∙ words_one h.word word.some word.solid

value_said : (config : Config) (x : ℕ) (width : Width) (address word : List ℕ) (p at n : ℕ)
    → process config.procs (x ∷ []) ≡ Ok p → aligned (width_bytes width) address ≡ Ok at → hexadecimal word ≡ Ok n → nat_lt n (256 ^ width_bytes width) ≡ true
    → write_of config (x ∷ []) width (address ∷ word ∷ []) ≡ Ok (record { proc = p; at = at; value = n })
value_said config x width address word p at n proc place spelled fits = rw (proc, place, spelled, fits) refl

reference_said : (config : Config) (x : ℕ) (mode : Mode) (access : Access) (address behind : List ℕ) (what : What) (p at : ℕ)
    → IsPlainOp access behind what → process config.procs (x ∷ []) ≡ Ok p → aligned (width_bytes (width_of access)) address ≡ Ok at → nat_lt (length config.body) (most_requests config.version) ≡ true
    → reference_line config (x ∷ []) mode access (address ∷ words behind) ≡ Ok (Request (asked p mode at what))
reference_said config x mode (Read width) address behind what p at h proc place few = rw (h.0, h.1, proc, place, few) refl
reference_said config x mode (Write width) address behind what p at h proc place few =
    rw (value_words width behind h.0 h.1, value_said config x width address h.1.word p at h.0 proc place h.1.spelled h.1.fits, few, h.2) refl
reference_said config x mode Add address behind what p at h proc place few =
    rw (value_words Four behind h.0 h.1, value_said config x Four address h.1.word p at h.0 proc place h.1.spelled h.1.fits, few, h.2) refl

letter_byte : (config : Config) (x p : ℕ) → process config.procs (x ∷ []) ≡ Ok p → is_capital x ≡ true
letter_byte config x p e =
    let parts = bind_ok (letter (x ∷ [])) (λ q. owed (ltb q (length config.procs)) NoSuch (Ok q)) p e in
    (owed_ok (is_capital x) UnknownWord (Ok (x - 65)) parts.0 parts.1).0

address_word : (bytes at : ℕ) (address : List ℕ) → aligned bytes address ≡ Ok at → IsWord address
address_word bytes at address e =
    let parts = bind_ok (hexadecimal address) (λ n. owed (eqb (n % bytes) 0) Unaligned (Ok n)) at e in
    number_word address parts.0 parts.1

no_comment : (x : ℕ) → is_capital x ≡ true → (x == 33) ≡ false
no_comment x e = grind arith

first_said : (part : Part) (x first second : ℕ) (name : OpName) (args : List (List ℕ)) (said : Says)
    → is_capital x ≡ true → rank part.place ≡ 4 → op_name (first ∷ second ∷ []) ≡ Some name → reference_line part.config (x ∷ []) name.mode name.access args ≡ Ok said
    → by_first part (x ∷ []) ((first ∷ second ∷ []) ∷ args) ≡ Ok said
first_said part x first second name args said capital here named says = rw (no_comment x capital, capital, here, named) says

-- printed bytes: none is 10 or 13

no_end : (b : ℕ) → is_text b ≡ true → b ≢ 10
no_end b e same = let h : is_text 10 ≡ true = subst (λ (c : ℕ). is_text c ≡ true) same e in absurd cc

no_ends : (text : List ℕ) → list_all is_text text ≡ true → AllByRecursion (λ b. b ≢ 10) text
no_ends [] e = tt
no_ends (b ∷ text) e = let both = and_parts (is_text b) (list_all is_text text) e in (no_end b both.0, no_ends text both.1)

last_return : (line : List ℕ) → 0 < length line → get_or line (length line - 1) 0 ≡ 13 → list_all is_text line ≡ false
last_return line some last = list_all_at is_text line (length line - 1) 0 (omega (arith, some)) (ap is_text last)

content_same : (line : List ℕ) → list_all is_text line ≡ true → content line ≡ line
content_same line text = by_end (ends_with_return line) refl where
  by_end : (t : Bool) → ends_with_return line ≡ t → content line ≡ line
  by_end true e =
      let both = and_parts (ltb 0 (length line)) (eqb (get_or line (length line - 1) 0) 13) e in
      let none = last_return line (ltb-true 0 (length line) both.0) (eqb-true (get_or line (length line - 1) 0) 13 both.1) in
      absurd cc
  by_end false e = rw e refl

-- what is known where a line may be a request
request_parts : (number : ℕ) (part : Part) → takes_request number part ≡ true
    → (number ≤ most_lines part.config.version) × (rank part.place ≡ 4) × (length part.config.body < most_requests part.config.version)
request_parts number part taken =
    let lines = leb number (most_lines part.config.version) in
    let place = eqb (rank part.place) 4 in
    let room = ltb (length part.config.body) (most_requests part.config.version) in
    let both = and_parts (lines && place) room taken in
    let front = and_parts lines place both.0 in
    (leb-true number (most_lines part.config.version) front.0, eqb-true (rank part.place) 4 front.1, ltb-true (length part.config.body) (most_requests part.config.version) both.1)

judged_by : (number : ℕ) (part : Part) (line first : List ℕ) (args : List (List ℕ)) (said : Says) → length line ≤ 255 → number ≤ most_lines part.config.version
    → list_all is_text (content line) ≡ true → words (content line) ≡ first ∷ args → by_first part first args ≡ Ok said → judged number part line ≡ Ok said
judged_by number part line first args said short few text all says = rw (le-leb (length line) 255 short, text, le-leb number (most_lines part.config.version) few, all) says

pub plain_judged : (number : ℕ) (part : Part) (line : List ℕ) (x : ℕ) (name : OpName) (address behind : List ℕ) (what : What) (p at : ℕ)
    → length line ≤ 255 → takes_request number part ≡ true
    → IsPlainFront (content line) x name address behind → process part.config.procs (x ∷ []) ≡ Ok p → aligned (width_bytes (width_of name.access)) address ≡ Ok at
    → IsPlainOp name.access behind what
    → judged number part line ≡ Ok (Request (asked p name.mode at what))
plain_judged number part line x name address behind what p at short taken front proc place does =
    let (few, here, room) = request_parts number part taken in
    let capital = letter_byte part.config x p proc in
    let letters = capital_byte x capital in
    let ops = op_bytes front.first front.second name front.named in
    let word = address_word (width_bytes (width_of name.access)) at address place in
    let rest = op_behind name.access behind what does in
    judged_by number part line (x ∷ []) ((front.first ∷ front.second ∷ []) ∷ address ∷ words behind) (Request (asked p name.mode at what)) short few
    (ap (list_all is_text) front.whole ∙ plain_text x front.first front.second address behind letters ops.0 ops.1 word rest)
    (ap words front.whole ∙ plain_words x front.first front.second address behind letters ops.0 ops.1 word rest)
    (first_said part x front.first front.second name (address ∷ words behind) (Request (asked p name.mode at what)) capital here front.named
    (reference_said part.config x name.mode name.access address behind what p at does proc place (lt-ltb (length part.config.body) (most_requests part.config.version) room)))

pub plain_first : (number : ℕ) (part : Part) (text : List ℕ) (x : ℕ) (name : OpName) (address behind : List ℕ) (what : What) (rest : List ℕ) (p at : ℕ)
    → takes_request number part ≡ true
    → IsPlainFront text x name address behind → process part.config.procs (x ∷ []) ≡ Ok p → aligned (width_bytes (width_of name.access)) address ≡ Ok at
    → IsEndedOp name.access behind what rest
    → IsFirstRequest number part text (asked p name.mode at what) rest
plain_first number part text x name address behind what rest p at taken front proc place ended =
    let capital = letter_byte part.config x p proc in
    let letters = capital_byte x capital in
    let ops = op_bytes front.first front.second name front.named in
    let word = address_word (width_bytes (width_of name.access)) at address place in
    let said = op_behind name.access ended.behind what ended.does in
    let printed = plain_text x front.first front.second address ended.behind letters ops.0 ops.1 word said in
    let line : List ℕ = x ∷ 32 ∷ front.first ∷ front.second ∷ 32 ∷ (address ++ ended.behind) in
    record {
      line = line;
      split = front.whole ∙ ap (λ (b : List ℕ). x ∷ 32 ∷ front.first ∷ front.second ∷ 32 ∷ (address ++ b)) ended.split
          ∙ ap (λ (b : List ℕ). x ∷ 32 ∷ front.first ∷ front.second ∷ 32 ∷ b) (sym (append_assoc address ended.behind (10 ∷ rest)));
      one_line = All-from_recursion (λ b. b ≢ 10) line (no_ends line printed);
      asks = plain_judged number part line x name address ended.behind what p at (omega (arith, last_length address ended.behind word said)) taken
          (subst (λ (t : List ℕ). IsPlainFront t x name address ended.behind) (sym (content_same line printed)) (record { first = front.first; second = front.second; whole = refl; named = front.named }))
          proc place ended.does;
    }

-- an access with a value

pub ended_value : (width : Width) (tail : List ℕ) (text : List ℕ) (n : ℕ) (rest : List ℕ) → text ≡ 32 ∷ tail → IsEndedNumber tail n rest → nat_lt n (256 ^ width_bytes width) ≡ true → IsEndedValue width text n rest
ended_value width tail text n rest whole h fits = record {
  behind = 32 ∷ h.word;
  split = whole ∙ ap (λ (t : List ℕ). 32 ∷ t) h.split;
  valued = record { word = h.word; whole = refl; spelled = h.spelled; fits = fits };
}

pub ended_op : (access : Access) (text : List ℕ) (n : ℕ) (what : What) (rest : List ℕ) → IsEndedValue (width_of access) text n rest → IsValued access n what → IsEndedOp access text what rest
ended_op (Read width) text n what rest h is = absurd is
ended_op (Write width) text n what rest h is = record { behind = h.behind; split = h.split; does = (n, h.valued, is) }
ended_op Add text n what rest h is = record { behind = h.behind; split = h.split; does = (n, h.valued, is) }
