-- A buffer's bytes are handed on to a writer.
use Rattle.std.proofs.Common.{◌≡◌, ℕ, ◌+◌, ◌-◌, ◌≤◌, List, ◌++◌, length, take, drop, sym, ◌∙◌, ap, arith, length-drop, is_some}
use Rattle.std.specs.Prelude.{None, Some}
use Rattle.std.specs.declared.option.Option.{Option}
use Rattle.std.proofs.lemmas.List.{take-append-drop, drop-drop, drop-append-le, length-take-le, take_all}
use Rattle.std.specs.Io.KnownBytes.{Appends, Keeps, append_known}
use Rattle.std.proofs.KnownBytes.{Keeps-trans, append_known-moved}
use Rattle.outside_io.specs.BytesLeft.{pending}

rest_is_rest : (held : List ℕ) (done : ℕ) → take (length held - done) (drop done held) ≡ drop done held
rest_is_rest held done = take_all (length held - done) (drop done held) (omega (arith, length-drop done held))

-- the writer took n of the bytes that weren't handed on
pub some_handed_on : (a b c : Option (List ℕ)) (held : List ℕ) (done n : ℕ) → Keeps a (append_known b (drop done held))
    → Appends b c (take n (take (length held - done) (drop done held))) → Keeps a (append_known c (drop (done + n) held))
some_handed_on a b c held done n before took =
    Keeps-trans a (append_known b (drop done held)) (append_known c (drop (done + n) held)) before
    (append_known-moved b c (take n (drop done held)) (drop (done + n) held) (drop done held)
    (rw (rest_is_rest held done) at took)
    (sym (take-append-drop n (drop done held)) ∙ ap (λ rest. take n (drop done held) ++ rest) (drop-drop n done held)))

-- bytes that are put behind those that were taken are kept behind them
pub kept_behind : (old new piece : List ℕ) (done filled : ℕ) → done ≤ filled → filled ≤ length old → take (filled + length piece) new ≡ take filled old ++ piece
    → pending new done (filled + length piece) ≡ pending old done filled ++ piece
kept_behind old new piece done filled within room put =
    ap (drop done) put ∙ drop-append-le done (take filled old) piece (omega (arith, within, length-take-le filled old room))

-- with a buffer as much is known as without
pub known_alike : (a b : Option (List ℕ)) (x y : List ℕ) → is_some a ≡ is_some b → is_some (append_known a x) ≡ is_some (append_known b y)
known_alike None None x y e = e
known_alike None (Some b) x y e = e
known_alike (Some a) None x y e = e
known_alike (Some a) (Some b) x y e = e
