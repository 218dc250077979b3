-- The line of an entry, without the byte 10 that ends it. Source: this project's own.
use Rattle.std.specs.Prelude.{ℕ, List, [], ◌∷◌, ◌++◌, codes, decimal}
use Rattle.vm_types.specs.declared.config.Section.{Section}
use Rattle.vm_text.specs.Names.{process_name, seat_name, address_text, frame_text, place_text, page_text, block_text}
use Rattle.vm_text.specs.References.{reference_words, reply_words, why_word}
use Rattle.vm_text.specs.Services.{service_words, answer_words}
use Rattle.vm_text.specs.Spaced.{spaced}
use Rattle.vm_text.specs.States.{state_word, status_word}
use Rattle.vm_journal.specs.declared.entry.Entry.{Entry}
use Rattle.vm_journal.specs.declared.entry.EvictWhy.{EvictWhy}
use Rattle.vm_journal.specs.declared.entry.EvictWhy.TheVariants.{Replace, Purge, Delete, Leave, Rundown}
use Rattle.vm_journal.specs.declared.entry.Kind.{Kind}
use Rattle.vm_journal.specs.declared.entry.Kind.TheVariants as kind
use Rattle.vm_journal.specs.declared.entry.Role.{Role}
use Rattle.vm_journal.specs.declared.entry.Role.TheVariants.{Fault, Near, Come}
use Rattle.vm_journal.specs.declared.entry.What.{What}
use Rattle.vm_journal.specs.declared.entry.What.TheVariants as what

abbrev pub role_words : List Section → Role → List (List ℕ)
role_words names (Fault p a) = codes "FAULT" ∷ place_text p.0 a.0 ∷ []
role_words names (Near page) = codes "NEAR" ∷ page_text names page ∷ []
role_words names (Come p a) = codes "COME" ∷ place_text p.0 a.0 ∷ []

abbrev pub evict_word : EvictWhy → List ℕ
evict_word Replace = codes "REPLACE"
evict_word Purge = codes "PURGE"
evict_word Delete = codes "DELETE"
evict_word Leave = codes "LEAVE"
evict_word Rundown = codes "RUNDOWN"

abbrev pub kind_of : What → Kind
kind_of (what.Done r reply) = kind.Done
kind_of (what.Denied r why) = kind.Denied
kind_of (what.Served s answer) = kind.Served
kind_of (what.Reuse f page) = kind.Reuse
kind_of (what.Zero a f) = kind.Zero
kind_of (what.Back p a f from) = kind.Back
kind_of (what.Collide a f k) = kind.Collide
kind_of (what.In f block role) = kind.In
kind_of (what.InOk f k) = kind.InOk
kind_of (what.InFail f k c d) = kind.InFail
kind_of (what.Out f block) = kind.Out
kind_of (what.OutOk f k) = kind.OutOk
kind_of (what.OutFail f k c d) = kind.OutFail
kind_of (what.Evict p a f why to) = kind.Evict
kind_of (what.Limit n faults) = kind.Limit
kind_of (what.Turn p status) = kind.Turn

-- the first word of a change
abbrev pub kind_word : Kind → List ℕ
kind_word kind.Done = codes "DONE"
kind_word kind.Denied = codes "DENIED"
kind_word kind.Served = codes "SERVED"
kind_word kind.Reuse = codes "REUSE"
kind_word kind.Zero = codes "ZERO"
kind_word kind.Back = codes "BACK"
kind_word kind.Collide = codes "COLLIDE"
kind_word kind.In = codes "IN"
kind_word kind.InOk = codes "INOK"
kind_word kind.InFail = codes "INFAIL"
kind_word kind.Out = codes "OUT"
kind_word kind.OutOk = codes "OUTOK"
kind_word kind.OutFail = codes "OUTFAIL"
kind_word kind.Evict = codes "EVICT"
kind_word kind.Limit = codes "LIMIT"
kind_word kind.Turn = codes "TURN"

-- the words behind it
abbrev pub part_words : List Section → What → List (List ℕ)
part_words names (what.Done r reply) = reference_words r ++ reply_words r.op reply
part_words names (what.Denied r why) = reference_words r ++ why_word why ∷ []
part_words names (what.Served s answer) = service_words s ++ answer_words answer
part_words names (what.Reuse f page) = frame_text f.0 ∷ page_text names page ∷ []
part_words names (what.Zero a f) = address_text a.0 ∷ frame_text f.0 ∷ []
part_words names (what.Back p a f from) = process_name p.0 ∷ address_text a.0 ∷ frame_text f.0 ∷ state_word from ∷ []
part_words names (what.Collide a f k) = address_text a.0 ∷ frame_text f.0 ∷ decimal k ∷ []
part_words names (what.In f block role) = frame_text f.0 ∷ block_text names block ∷ role_words names role
part_words names (what.InOk f k) = frame_text f.0 ∷ decimal k ∷ []
part_words names (what.InFail f k c d) = frame_text f.0 ∷ decimal k ∷ decimal c ∷ decimal d ∷ []
part_words names (what.Out f block) = frame_text f.0 ∷ block_text names block ∷ []
part_words names (what.OutOk f k) = frame_text f.0 ∷ decimal k ∷ []
part_words names (what.OutFail f k c d) = frame_text f.0 ∷ decimal k ∷ decimal c ∷ decimal d ∷ []
part_words names (what.Evict p a f why to) =
    process_name p.0 ∷ address_text a.0 ∷ frame_text f.0 ∷ evict_word why ∷ state_word to ∷ []
part_words names (what.Limit n faults) = decimal n ∷ decimal faults ∷ []
part_words names (what.Turn p status) = process_name p.0 ∷ status_word status ∷ []

-- the words of an entry: its seat, its kind and its parts
abbrev pub entry_words : ℕ → List Section → Entry → List (List ℕ)
entry_words procs names e = seat_name procs (e.seat).0 ∷ kind_word (kind_of e.what) ∷ part_words names e.what

-- the entry's number and its words, with a blank between them
abbrev pub line_text : ℕ → Entry → ℕ → List Section → List ℕ
line_text number e procs names = decimal number ++ spaced (entry_words procs names e)
