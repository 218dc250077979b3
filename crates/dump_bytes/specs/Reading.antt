-- Reading from the front of a list of bytes: a value with the bytes after it, or how many bytes are
-- left from the first one that fits nothing. Source: this project's own.
use Rattle.vm_types.specs.declared.names.Page.{Page}
use Rattle.vm_types.specs.declared.names.Page.TheVariants.{Private, Shared}
use Rattle.dump_bytes.specs.declared.dump.FrameRec.{FrameRec}
use Rattle.dump_bytes.specs.declared.dump.SlotRec.{SlotRec}
use Rattle.dump_bytes.specs.Dumped.{Process, Dumped}
use Rattle.byteorder.specs.Endian.{big_number}
use Rattle.std.specs.Prelude.{ℕ, zero, suc, ◌+◌, ◌-◌, ◌*◌, ◌/◌, ◌%◌, ◌^◌, ◌==◌, ◌&&◌, ◌||◌, nat_le, nat_lt, Bool, if◌then◌else◌, List, [], ◌∷◌, length, Result, Ok, Err, Option, Some, None, not, codes}
use Rattle.vm_types.specs.declared.limits.TheConstants.{MOST_EXTENT, MOST_FRAMES, MOST_PROCESSES, MOST_SECTIONS, MOST_SECTION_PAGES}

-- one step after the other, up to the first that fails
infixl 10 ◌>>=◌
abbrev pub ◌>>=◌ : {A B : Type 0} → Result A ℕ → (A → Result B ℕ) → Result B ℕ
(Ok x) >>= f = f x
(Err left) >>= f = Err left

abbrev pub Reader : Type 0 → Type 0
Reader A = List ℕ → Result (A × List ℕ) ℕ

-- one byte that passes the test
abbrev pub byte_at : (ℕ → Bool) → Reader ℕ
byte_at test [] = Err 0
byte_at test (b ∷ bytes) = if test b then Ok (b, bytes) else Err (suc (length bytes))

-- a value, then one that may depend on it
abbrev pub both_at : {A B : Type 0} → Reader A → (A → Reader B) → Reader (A × B)
both_at first second bytes = first bytes >>= λ x. second x.0 x.1 >>= λ y. Ok ((x.0, y.0), y.1)

-- the value that a function makes of the one that is read
abbrev pub made_at : {A B : Type 0} → (A → B) → Reader A → Reader B
made_at make read bytes = read bytes >>= λ x. Ok (make x.0, x.1)

-- a number of so many bytes, from low to high: each byte is one with which some such number goes on
abbrev pub number_at : ℕ → ℕ → ℕ → Reader ℕ
number_at zero low high = λ bytes. Ok (0, bytes)
number_at (suc width) low high =
    made_at (λ p. p.0 * 256 ^ width + p.1)
    (both_at (byte_at (λ b. nat_le (low / 256 ^ width) b && nat_le b (high / 256 ^ width)))
    (λ b. number_at width (if b == low / 256 ^ width then low % 256 ^ width else 0) (if b == high / 256 ^ width then high % 256 ^ width else 256 ^ width - 1)))

-- the number that the first so many bytes are, from low to high: if it is another, its last byte is the
-- one that fits nothing
abbrev pub front_at : ℕ → ℕ → ℕ → List ℕ → Result (Unit {0}) ℕ
front_at width low high bytes =
    if nat_lt (length bytes) width then Err 0
    else (if nat_le low (big_number width bytes) && nat_le (big_number width bytes) high then Ok tt else Err (length bytes - (width - 1)))

-- behind so many bytes come so many more of a number from low to high: with each of them the bytes so
-- far are what such a number begins with
abbrev pub fronts_at : ℕ → ℕ → ℕ → ℕ → List ℕ → Result (Unit {0}) ℕ
fronts_at zero behind low high bytes = Ok tt
fronts_at (suc more) behind low high bytes =
    front_at (suc behind) (low / 256 ^ more) (high / 256 ^ more) bytes >>= λ _. fronts_at more (suc behind) low high bytes

-- so many values, one after the other
abbrev pub items_at : {A : Type 0} → ℕ → Reader A → Reader (List A)
items_at zero read = λ bytes. Ok ([], bytes)
items_at (suc count) read = made_at (λ p. p.0 ∷ p.1) (both_at read (λ x. items_at count read))

-- so many values with ascending numbers, from floor on and below the ceiling: each number leaves
-- room for those of the values after it
abbrev pub rising_at : {A : Type 0} → (A → ℕ) → ℕ → ℕ → ℕ → (ℕ → ℕ → Reader A) → Reader (List A)
rising_at key zero floor ceiling read = λ bytes. Ok ([], bytes)
rising_at key (suc count) floor ceiling read =
    made_at (λ p. p.0 ∷ p.1) (both_at (read floor (ceiling - count)) (λ x. rising_at key count (key x + 1) ceiling read))

-- ---- the parts of a dump

-- this byte
abbrev pub exactly_at : ℕ → Reader ℕ
exactly_at n = byte_at (λ b. b == n)

-- a byte below the limit
abbrev pub below_at : ℕ → Reader ℕ
below_at limit = byte_at (λ b. nat_lt b limit)

-- three zeros
abbrev pub zeros_at : Reader (ℕ × (ℕ × ℕ))
zeros_at = both_at (exactly_at 0) (λ a. both_at (exactly_at 0) (λ b. exactly_at 0))

-- any number of four bytes
abbrev pub any_at : Reader ℕ
any_at = number_at 4 0 (2 ^ 32 - 1)

-- the slot of a code and a page number
abbrev pub slot_from : ℕ → ℕ → SlotRec
slot_from code vpn = record { filled = nat_lt 0 code; locked = (code == 3) || (code == 7); pinned = (code == 5) || (code == 7); vpn = vpn }

abbrev pub is_slot_code : ℕ → Bool
is_slot_code c = (c == 0) || ((c == 1) || ((c == 3) || ((c == 5) || (c == 7))))

abbrev pub slot_at : Reader SlotRec
slot_at = made_at (λ p. slot_from p.0 p.1.1)
    (both_at (byte_at is_slot_code) (λ code. both_at zeros_at (λ z. number_at 4 0 (if code == 0 then 0 else 4194303))))

-- the page of a kind, an owner and a number
abbrev pub page_from : ℕ → ℕ → ℕ → Option Page
page_from kind owner number = if kind == 0 then None else if kind == 1 then Some (Private (record { 0 = owner }) number) else Some (Shared (record { 0 = owner }) number)

-- the highest owner and number of a page of this kind
abbrev pub owner_high : ℕ → ℕ → ℕ
owner_high procs kind = if kind == 0 then 0 else if kind == 1 then procs - 1 else MOST_SECTIONS - 1

abbrev pub page_high : ℕ → ℕ
page_high kind = if kind == 0 then 0 else if kind == 1 then 4194303 else MOST_SECTION_PAGES - 1

abbrev pub frame_at : ℕ → Reader FrameRec
frame_at procs =
    made_at (λ p. record { state = p.0; modify = p.1.0 == 1; page = page_from p.1.1.0 p.1.1.1.1.0 p.1.1.1.1.1.0; refs = p.1.1.1.1.1.1.0; shares = p.1.1.1.1.1.1.1 })
    (both_at (below_at 8) (λ s. both_at (below_at 2) (λ m. both_at (below_at 3) (λ k. both_at (exactly_at 0) (λ z.
    both_at (number_at 4 0 (owner_high procs k)) (λ o. both_at (number_at 4 0 (page_high k)) (λ n. both_at any_at (λ r. any_at))))))))

-- the highest byte of a valid entry's word
abbrev pub is_word_head : ℕ → Bool
is_word_head b = (nat_le 128 b && nat_le b 255) && ((b % 4 == 0) && not (b / 8 % 16 == 1))

abbrev pub word_at : ℕ → Reader ℕ
word_at frames = made_at (λ p. p.0 * 256 ^ 3 + p.1) (both_at (byte_at is_word_head) (λ b. number_at 3 0 (frames - 1)))

-- a valid entry with a page number from low on and below high
abbrev pub entry_at : ℕ → ℕ → ℕ → Reader (ℕ × ℕ)
entry_at frames low high = both_at (number_at 4 low (high - 1)) (λ vpn. word_at frames)

abbrev pub process_at : ℕ → Reader Process
process_at frames =
    made_at (λ p. record { status = p.0; hand = p.1.1.1.0; limit = p.1.1.1.1.0; slots = p.1.1.1.1.1.0; words = p.1.1.1.1.1.1.1 })
    (both_at (below_at 4) (λ s. both_at zeros_at (λ z. both_at (number_at 4 1 MOST_EXTENT) (λ n. both_at (number_at 4 0 (n - 1)) (λ h. both_at any_at (λ l.
    both_at (items_at n slot_at) (λ slots. both_at (number_at 4 0 n) (λ c. rising_at (λ w. w.0) c 0 4194304 (entry_at frames)))))))))

-- these letters
abbrev pub letters_at : List ℕ → Reader (List ℕ)
letters_at [] = λ bytes. Ok ([], bytes)
letters_at (c ∷ letters) = made_at (λ p. p.0 ∷ p.1) (both_at (exactly_at c) (λ b. letters_at letters))

-- a frame's number, with ascending numbers from low on and below high
abbrev pub rising_number_at : ℕ → ℕ → Reader ℕ
rising_number_at low high = number_at 4 low (high - 1)

-- the letters, the seven numbers of the head, the frames, both lists, the processes, and the flights
abbrev pub DumpParts : Type 0
DumpParts =
    List ℕ × (ℕ × (ℕ × (ℕ × (ℕ × (ℕ × (ℕ × (ℕ × (List FrameRec × (List ℕ × (List ℕ × (List Process × (ℕ × List ℕ))))))))))))

-- what the parts of a dump make
abbrev pub dumped_from : DumpParts → Dumped
dumped_from p = record {
  frames = p.1.1.1.1.1.1.1.1.0;
  free = p.1.1.1.1.1.1.1.1.1.0;
  modified = p.1.1.1.1.1.1.1.1.1.1.0;
  size = p.1.1.1.1.1.0;
  charged = p.1.1.1.1.1.1.0;
  assigned = p.1.1.1.1.1.1.1.0;
  procs = p.1.1.1.1.1.1.1.1.1.1.1.0;
  flights = p.1.1.1.1.1.1.1.1.1.1.1.1.1;
}

abbrev pub dump_at : Reader Dumped
dump_at = made_at dumped_from
    (both_at (letters_at (codes "VMSDUMP1")) (λ t. both_at (number_at 4 8 MOST_FRAMES) (λ n. both_at (number_at 4 0 n) (λ f. both_at (number_at 4 0 n) (λ m. both_at (number_at 4 1 MOST_PROCESSES) (λ p.
    both_at any_at (λ s. both_at any_at (λ c. both_at any_at (λ a. both_at (items_at n (frame_at p)) (λ frames. both_at (items_at f (number_at 4 0 (n - 1))) (λ free.
    both_at (items_at m (number_at 4 0 (n - 1))) (λ modified. both_at (items_at p (process_at n)) (λ procs. both_at (number_at 4 0 n) (λ k. rising_at (λ x. x) k 0 n rising_number_at))))))))))))))

-- nothing is left
abbrev pub ended : Dumped → List ℕ → Result Dumped ℕ
ended d [] = Ok d
ended d (b ∷ rest) = Err (suc (length rest))

-- a dump and nothing after it
abbrev pub whole_at : List ℕ → Result Dumped ℕ
whole_at bytes = dump_at bytes >>= λ x. ended x.0 x.1
