-- Printed words are read as what they name: processes, sections, protection codes, operations, services, bytes.
use Rattle.std.proofs.Common.{◌≡◌, ℕ, zero, suc, ◌+◌, ◌-◌, ◌*◌, ◌/◌, ◌%◌, ◌^◌, ◌<◌, ◌≤◌, true, ◌&&◌, ◌||◌, leb, eqb, List, [], ◌∷◌, ◌++◌, length, get_or, All, Some, Ok, refl, ap, ◌∙◌, arith, inl, inr, le-leb, eq-eqb, length-append, Bool, None, cond, not}
use Rattle.std.specs.Prelude.{slice_get, slice_index, IfSome}
use Rattle.std.specs.List.{list_all}
use Rattle.std.proofs.lemmas.Bool.{and_from, or_left, or_right}
use Rattle.std.proofs.lemmas.List.Elements.{All-head, All-tail}
use Rattle.vm_types.specs.Configuration.{IsName, IsNameByte, IsLetter}
use Rattle.vm_types.specs.WellFormed.{IsCode, IsServiceOf}
use Rattle.vm_types.specs.declared.config.Version.{Version}
use Rattle.vm_types.specs.declared.reference.Mode.{Mode}
use Rattle.vm_types.specs.declared.reference.Mode.TheVariants.{K, E, S, U}
use Rattle.vm_types.specs.declared.reference.Width.TheVariants.{One, Two, Four}
use Rattle.vm_types.specs.declared.reference.Op.{Op}
use Rattle.vm_types.specs.declared.reference.Op.TheVariants as op
use Rattle.vm_types.specs.declared.service.Service.{Service}
use Rattle.vm_types.specs.declared.service.Service.TheVariants as service
use Rattle.vm_text.specs.Hex.{hex, hex_digit}
use Rattle.vm_text.specs.Names.{process_name}
use Rattle.vm_text.specs.References.{op_text}
use Rattle.vm_text.specs.Services.{protection_name, service_name}
use Rattle.trace_words.specs.declared.ops.Access.{Access}
use Rattle.trace_words.specs.declared.ops.Access.TheVariants.{Read, Write, Add}
use Rattle.trace_words.specs.declared.services.ServiceName.{ServiceName}
use Rattle.trace_words.specs.declared.services.ServiceName.TheVariants.{Create, Delete, Protect, Lock, Unlock, Purge, Pin, Unpin, Adjust}
use Rattle.trace_words.specs.declared.verbs.Verb.TheVariants as verb
use Rattle.trace_words.specs.Letter.{letter}
use Rattle.trace_words.specs.Name.{is_capital, is_name_byte, is_name}
use Rattle.trace_words.specs.Number.{hexadecimal_digit}
use Rattle.trace_words.specs.Pairs.{paired, pairs}
use Rattle.trace_words.specs.VerbWords.{verb_of}
use Rattle.trace_lines.specs.Requests.{verb_in}
use Rattle.trace_spelling.specs.Lines.{pairs_text}
use Rattle.trace_spelling.proofs.Numbers.{hex_digit_read}
use Rattle.trace_spelling.proofs.Printing.{IsShortWord, literal, passes_each, passes_both, is_plain, from_plain, hex_plain}

-- processes

pub letter_read : (p : ℕ) → p < 26 → letter (process_name p) ≡ Ok p
letter_read p few =
    let capital : is_capital (65 + p) ≡ true = and_from (leb 65 (65 + p)) (leb (65 + p) 90) (le-leb 65 (65 + p) (omega arith)) (le-leb (65 + p) 90 (omega arith)) in
    let same : (65 + p) - 65 ≡ p = omega arith in
    rw (capital, same) refl

pub letter_word : (p : ℕ) → p < 26 → IsShortWord 1 (process_name p)
letter_word p few = record { is = record { some = refl; plain = and_from (is_plain (65 + p)) true (from_plain (65 + p) (omega arith) (omega arith)) refl }; short = omega arith }

-- names of sections

capital_passes : (b : ℕ) → IsLetter b → is_capital b ≡ true
capital_passes b h = and_from (leb 65 b) (leb b 90) (le-leb 65 b h.0) (le-leb b 90 h.1)

name_byte_passes : (b : ℕ) → IsNameByte b → is_name_byte b ≡ true
name_byte_passes b (inl l) = or_left (is_capital b || (leb 48 b && leb b 57)) (eqb b 95) (or_left (is_capital b) (leb 48 b && leb b 57) (capital_passes b l))
name_byte_passes b (inr (inl d)) = or_left (is_capital b || (leb 48 b && leb b 57)) (eqb b 95) (or_right (is_capital b) (leb 48 b && leb b 57) (and_from (leb 48 b) (leb b 57) (le-leb 48 b d.0) (le-leb b 57 d.1)))
name_byte_passes b (inr (inr u)) = or_right (is_capital b || (leb 48 b && leb b 57)) (eqb b 95) (eq-eqb b 95 u)

first_passes : (word : List ℕ) → 2 ≤ length word → IfSome (slice_get word 0) IsLetter → is_capital (slice_index word 0) ≡ true
first_passes [] some h = absurd (omega arith)
first_passes (b ∷ word) some h = capital_passes b h

pub name_passes : (word : List ℕ) → IsName word → is_name word ≡ true
name_passes word is =
    let a = leb 2 (length word) in
    let b = leb (length word) 15 in
    let c = is_capital (slice_index word 0) in
    and_from (a && b && c) (list_all is_name_byte word)
    (and_from (a && b) c (and_from a b (le-leb 2 (length word) is.length.0) (le-leb (length word) 15 is.length.1)) (first_passes word is.length.0 is.letter))
    (passes_each is_name_byte word (λ i lt. name_byte_passes (get_or word i 0) (is.bytes i 0 lt)))

-- protection codes

pub protection_word : (code : ℕ) → IsCode code → IsShortWord 4 (protection_name code)
protection_word zero h = literal 4 _ refl refl refl
protection_word (suc zero) h = absurd (h.named refl)
protection_word (suc (suc zero)) h = literal 4 _ refl refl refl
protection_word (suc (suc (suc zero))) h = literal 4 _ refl refl refl
protection_word (suc (suc (suc (suc zero)))) h = literal 4 _ refl refl refl
protection_word (suc (suc (suc (suc (suc zero))))) h = literal 4 _ refl refl refl
protection_word (suc (suc (suc (suc (suc (suc zero)))))) h = literal 4 _ refl refl refl
protection_word (suc (suc (suc (suc (suc (suc (suc zero))))))) h = literal 4 _ refl refl refl
protection_word (suc (suc (suc (suc (suc (suc (suc (suc zero)))))))) h = literal 4 _ refl refl refl
protection_word (suc (suc (suc (suc (suc (suc (suc (suc (suc zero))))))))) h = literal 4 _ refl refl refl
protection_word (suc (suc (suc (suc (suc (suc (suc (suc (suc (suc zero)))))))))) h = literal 4 _ refl refl refl
protection_word (suc (suc (suc (suc (suc (suc (suc (suc (suc (suc (suc zero))))))))))) h = literal 4 _ refl refl refl
protection_word (suc (suc (suc (suc (suc (suc (suc (suc (suc (suc (suc (suc zero)))))))))))) h = literal 4 _ refl refl refl
protection_word (suc (suc (suc (suc (suc (suc (suc (suc (suc (suc (suc (suc (suc zero))))))))))))) h = literal 4 _ refl refl refl
protection_word (suc (suc (suc (suc (suc (suc (suc (suc (suc (suc (suc (suc (suc (suc zero)))))))))))))) h = literal 4 _ refl refl refl
protection_word (suc (suc (suc (suc (suc (suc (suc (suc (suc (suc (suc (suc (suc (suc (suc zero))))))))))))))) h = literal 4 _ refl refl refl
protection_word (suc (suc (suc (suc (suc (suc (suc (suc (suc (suc (suc (suc (suc (suc (suc (suc c)))))))))))))))) h = absurd (omega (arith, h.small))

-- operations and services

abbrev pub access : Op → Access
access (op.Read width) = Read width
access (op.Write width value) = Write width
access (op.Add value) = Add

pub op_read : (mode : Mode) (o : Op) → verb_of (op_text mode o) ≡ Some (verb.Op (record { mode = mode; access = access o }))
op_read K (op.Read One) = refl
op_read K (op.Read Two) = refl
op_read K (op.Read Four) = refl
op_read K (op.Write One v) = refl
op_read K (op.Write Two v) = refl
op_read K (op.Write Four v) = refl
op_read K (op.Add v) = refl
op_read E (op.Read One) = refl
op_read E (op.Read Two) = refl
op_read E (op.Read Four) = refl
op_read E (op.Write One v) = refl
op_read E (op.Write Two v) = refl
op_read E (op.Write Four v) = refl
op_read E (op.Add v) = refl
op_read S (op.Read One) = refl
op_read S (op.Read Two) = refl
op_read S (op.Read Four) = refl
op_read S (op.Write One v) = refl
op_read S (op.Write Two v) = refl
op_read S (op.Write Four v) = refl
op_read S (op.Add v) = refl
op_read U (op.Read One) = refl
op_read U (op.Read Two) = refl
op_read U (op.Read Four) = refl
op_read U (op.Write One v) = refl
op_read U (op.Write Two v) = refl
op_read U (op.Write Four v) = refl
op_read U (op.Add v) = refl

pub op_word : (mode : Mode) (o : Op) → IsShortWord 3 (op_text mode o)
op_word K (op.Read One) = literal 3 _ refl refl refl
op_word K (op.Read Two) = literal 3 _ refl refl refl
op_word K (op.Read Four) = literal 3 _ refl refl refl
op_word K (op.Write One v) = literal 3 _ refl refl refl
op_word K (op.Write Two v) = literal 3 _ refl refl refl
op_word K (op.Write Four v) = literal 3 _ refl refl refl
op_word K (op.Add v) = literal 3 _ refl refl refl
op_word E (op.Read One) = literal 3 _ refl refl refl
op_word E (op.Read Two) = literal 3 _ refl refl refl
op_word E (op.Read Four) = literal 3 _ refl refl refl
op_word E (op.Write One v) = literal 3 _ refl refl refl
op_word E (op.Write Two v) = literal 3 _ refl refl refl
op_word E (op.Write Four v) = literal 3 _ refl refl refl
op_word E (op.Add v) = literal 3 _ refl refl refl
op_word S (op.Read One) = literal 3 _ refl refl refl
op_word S (op.Read Two) = literal 3 _ refl refl refl
op_word S (op.Read Four) = literal 3 _ refl refl refl
op_word S (op.Write One v) = literal 3 _ refl refl refl
op_word S (op.Write Two v) = literal 3 _ refl refl refl
op_word S (op.Write Four v) = literal 3 _ refl refl refl
op_word S (op.Add v) = literal 3 _ refl refl refl
op_word U (op.Read One) = literal 3 _ refl refl refl
op_word U (op.Read Two) = literal 3 _ refl refl refl
op_word U (op.Read Four) = literal 3 _ refl refl refl
op_word U (op.Write One v) = literal 3 _ refl refl refl
op_word U (op.Write Two v) = literal 3 _ refl refl refl
op_word U (op.Write Four v) = literal 3 _ refl refl refl
op_word U (op.Add v) = literal 3 _ refl refl refl

abbrev pub named : Service → ServiceName
named (service.Create at pages prot) = Create
named (service.Delete at pages) = Delete
named (service.Protect at pages prot) = Protect
named (service.Lock at pages) = Lock
named (service.Unlock at pages) = Unlock
named (service.Purge at pages) = Purge
named (service.Pin at pages) = Pin
named (service.Unpin at pages) = Unpin
named (service.Adjust limit) = Adjust

pub service_read : (v : Version) (s : Service) → IsServiceOf v s → verb_in v (verb_of (service_name s)) ≡ Some (verb.Service (named s))
service_read v (service.Create at pages prot) known = refl
service_read v (service.Delete at pages) known = refl
service_read v (service.Protect at pages prot) known = refl
service_read v (service.Lock at pages) known = refl
service_read v (service.Unlock at pages) known = refl
service_read v (service.Purge at pages) known = refl
service_read v (service.Pin at pages) known = ap (λ (b : Bool). cond (not b) (Some (verb.Service Pin)) None) known
service_read v (service.Unpin at pages) known = ap (λ (b : Bool). cond (not b) (Some (verb.Service Unpin)) None) known
service_read v (service.Adjust limit) known = refl

pub service_word : (s : Service) → IsShortWord 6 (service_name s)
service_word (service.Create at pages prot) = literal 6 _ refl refl refl
service_word (service.Delete at pages) = literal 6 _ refl refl refl
service_word (service.Protect at pages prot) = literal 6 _ refl refl refl
service_word (service.Lock at pages) = literal 6 _ refl refl refl
service_word (service.Unlock at pages) = literal 6 _ refl refl refl
service_word (service.Purge at pages) = literal 6 _ refl refl refl
service_word (service.Pin at pages) = literal 6 _ refl refl refl
service_word (service.Unpin at pages) = literal 6 _ refl refl refl
service_word (service.Adjust limit) = literal 6 _ refl refl refl

-- bytes

pub hex_two : (b : ℕ) → hex 2 b ≡ hex_digit ((b / 16) % 16) ∷ hex_digit (b % 16) ∷ []
unfolding hex
hex_two b = refl

paired_more : (high low h l : ℕ) (rest bytes : List ℕ) → hexadecimal_digit high ≡ Ok h → hexadecimal_digit low ≡ Ok l → paired rest ≡ Ok bytes
    → paired (high ∷ low ∷ rest) ≡ Ok ((16 * h + l) ∷ bytes)
paired_more high low h l rest bytes a b c = rw (a, b, c) refl

pub paired_read : (bytes : List ℕ) → All (λ b. b < 2 ^ 8) bytes → paired (pairs_text bytes) ≡ Ok bytes
paired_read [] h = refl
paired_read (b ∷ bytes) h =
    let small = All-head (λ b. b < 2 ^ 8) b bytes h in
    let high = hex_digit_read ((b / 16) % 16) (omega (arith, small)) in
    let low = hex_digit_read (b % 16) (omega arith) in
    let rest = paired_read bytes (All-tail (λ b. b < 2 ^ 8) b bytes h) in
    let same : 16 * ((b / 16) % 16) + b % 16 ≡ b = omega (arith, small) in
    ap (λ (t : List ℕ). paired (t ++ pairs_text bytes)) (hex_two b)
    ∙ paired_more (hex_digit ((b / 16) % 16)) (hex_digit (b % 16)) ((b / 16) % 16) (b % 16) (pairs_text bytes) bytes high low rest
    ∙ ap (λ (v : ℕ). Ok (v ∷ bytes)) same

pub length_pairs : (bytes : List ℕ) → length (pairs_text bytes) ≡ 2 * length bytes
length_pairs [] = refl
length_pairs (b ∷ bytes) = omega (arith, length-append (hex 2 b) (pairs_text bytes), ap (length {A = ℕ}) (hex_two b), length_pairs bytes)

pub pairs_read : (bytes : List ℕ) → 1 ≤ length bytes → length bytes ≤ 64 → All (λ b. b < 2 ^ 8) bytes → pairs (pairs_text bytes) ≡ Ok bytes
pairs_read bytes some few h =
    let long = length_pairs bytes in
    let size : (leb 2 (length (pairs_text bytes)) && leb (length (pairs_text bytes)) 128) ≡ true = and_from (leb 2 (length (pairs_text bytes))) (leb (length (pairs_text bytes)) 128) (le-leb 2 (length (pairs_text bytes)) (omega arith)) (le-leb (length (pairs_text bytes)) 128 (omega arith)) in
    rw (size, paired_read bytes h) refl

pub pairs_plain : (bytes : List ℕ) → list_all is_plain (pairs_text bytes) ≡ true
pairs_plain [] = refl
pairs_plain (b ∷ bytes) = passes_both is_plain (hex 2 b) (pairs_text bytes) (hex_plain 2 b) (pairs_plain bytes)
