-- Tallies of entries, one for each of the sixteen kinds. Source: this project's own.
use Rattle.std.specs.Prelude.{ℕ, ◌+◌, ◌==◌, List, count_by, map, slice_index_or, slice_set}
use Rattle.std.specs.List.{range_with_len}
use Rattle.vm_journal.specs.declared.entry.Entry.{Entry}
use Rattle.vm_journal.specs.declared.entry.What.{What}
use Rattle.vm_journal.specs.declared.entry.What.TheVariants as what

-- the place of an entry's kind among the tallies
abbrev pub place : What → ℕ
place (what.Done r reply) = 0
place (what.Denied r why) = 1
place (what.Served s answer) = 2
place (what.Reuse f page) = 3
place (what.Zero a f) = 4
place (what.Back p a f from) = 5
place (what.Collide a f k) = 6
place (what.In f block role) = 7
place (what.InOk f k) = 8
place (what.InFail f k c d) = 9
place (what.Out f block) = 10
place (what.OutOk f k) = 11
place (what.OutFail f k c d) = 12
place (what.Evict p a f why to) = 13
place (what.Limit n faults) = 14
place (what.Turn p status) = 15

-- the tallies with one entry more
abbrev pub tallied : List ℕ → What → List ℕ
tallied tallies w = slice_set tallies (place w) (slice_index_or tallies (place w) 0 + 1)

-- how many entries there are at each place
unfoldable pub tallies_of : List Entry → List ℕ
tallies_of entries = map (λ (at : ℕ). count_by (λ (e : Entry). at == place e.what) entries) (range_with_len 0 16)
