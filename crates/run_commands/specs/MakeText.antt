-- The lines of a made trace's run: how many entries of each kind it has. Source: this project's own.
use Rattle.std.specs.Prelude.{ℕ, Bool, true, false, ◌+◌, List, ◌++◌, length, count_by, codes, decimal, if◌then◌else◌}
use Rattle.std.specs.Borrow.{Bor}
use Rattle.vm_journal.specs.declared.entry.Entry.{Entry}
use Rattle.vm_journal.specs.declared.entry.Kind.{Kind}
use Rattle.vm_journal.specs.declared.entry.Kind.TheVariants as kind
use Rattle.vm_journal.specs.declared.entry.What.{What}
use Rattle.vm_journal.specs.declared.entry.What.TheVariants as what
use Rattle.run_words.specs.Text.{ended}
use Rattle.run_commands.specs.declared.counts.Counts.{Counts}
use Rattle.run_commands.specs.declared.make.Make.{Make}

-- an entry is of the kind
abbrev pub is_kind : Kind → What → Bool
is_kind kind.Done (what.Done r reply) = true
is_kind kind.Denied (what.Denied r why) = true
is_kind kind.Served (what.Served s answer) = true
is_kind kind.Reuse (what.Reuse f page) = true
is_kind kind.Zero (what.Zero a f) = true
is_kind kind.Back (what.Back p a f from) = true
is_kind kind.Collide (what.Collide a f k) = true
is_kind kind.In (what.In f block role) = true
is_kind kind.InOk (what.InOk f k) = true
is_kind kind.InFail (what.InFail f k c d) = true
is_kind kind.Out (what.Out f block) = true
is_kind kind.OutOk (what.OutOk f k) = true
is_kind kind.OutFail (what.OutFail f k c d) = true
is_kind kind.Evict (what.Evict p a f why to) = true
is_kind kind.Limit (what.Limit n faults) = true
is_kind kind.Turn (what.Turn p status) = true
is_kind other w = false

abbrev pub count_of : Kind → List Entry → ℕ
count_of wanted entries = count_by (λ (e : Entry). is_kind wanted e.what) entries

-- each kind that is counted
abbrev pub counts_of : List Entry → Counts
counts_of entries = record {
  done = count_of kind.Done entries;
  denied = count_of kind.Denied entries;
  zeros = count_of kind.Zero entries;
  backs = count_of kind.Back entries;
  reads = count_of kind.In entries;
  writes = count_of kind.Out entries;
  evictions = count_of kind.Evict entries;
  turns = count_of kind.Turn entries;
  limits = count_of kind.Limit entries;
}

-- the counts with one entry more
abbrev pub counted : Counts → What → Counts
counted counts w = record {
  done = counts.done + (if is_kind kind.Done w then 1 else 0);
  denied = counts.denied + (if is_kind kind.Denied w then 1 else 0);
  zeros = counts.zeros + (if is_kind kind.Zero w then 1 else 0);
  backs = counts.backs + (if is_kind kind.Back w then 1 else 0);
  reads = counts.reads + (if is_kind kind.In w then 1 else 0);
  writes = counts.writes + (if is_kind kind.Out w then 1 else 0);
  evictions = counts.evictions + (if is_kind kind.Evict w then 1 else 0);
  turns = counts.turns + (if is_kind kind.Turn w then 1 else 0);
  limits = counts.limits + (if is_kind kind.Limit w then 1 else 0);
}

-- a word and its number
abbrev pub part_text : Bor (List ℕ) × ℕ → List ℕ
part_text part = part.0.now ++ decimal part.1

-- which trace was made
abbrev pub made_line : Make → List ℕ
made_line make = ended (codes "MADE " ++ decimal make.seed ++ codes " " ++ decimal make.procs ++ codes " " ++ decimal make.refs)

-- references
abbrev pub answered_line : Counts → List ℕ
answered_line counts = ended (codes "DONE " ++ decimal counts.done ++ codes " DENIED " ++ decimal counts.denied)

-- pages that came into frames and left working sets, and transfers
abbrev pub paged_line : Counts → List ℕ
paged_line counts =
    ended (codes "ZERO " ++ decimal counts.zeros ++ codes " BACK " ++ decimal counts.backs ++ codes " IN " ++ decimal counts.reads
    ++ codes " OUT " ++ decimal counts.writes ++ codes " EVICT " ++ decimal counts.evictions)

-- statuses and limits
abbrev pub managed_line : Counts → List ℕ
managed_line counts = ended (codes "TURN " ++ decimal counts.turns ++ codes " LIMIT " ++ decimal counts.limits)

abbrev pub entries_line : ℕ → List ℕ
entries_line count = ended (codes "ENTRIES " ++ decimal count)

-- the lines before the status line, by these counts and the count of all entries
abbrev pub summary_lines : Make → Counts → ℕ → List ℕ
summary_lines make counts all = made_line make ++ answered_line counts ++ paged_line counts ++ managed_line counts ++ entries_line all

abbrev pub make_lines : Make → List Entry → List ℕ
make_lines make entries = summary_lines make (counts_of entries) (length entries)
