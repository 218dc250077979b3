use Rattle.std.proofs.Common.{◌≡◌, ◌≤◌, ◌+◌, ◌++◌, None, replicate, vec_capacity, vec_len}
use Rattle.page_rows.proofs.rows.open.Given as goal

abbrev pub invariant-loop : goal.invariant-loop
invariant-loop g l = record {
  items : l.items.items ≡ l.initial.items.items ++ replicate l.counter None;
  many : vec_len l.items ≡ vec_len l.initial.items + l.counter;
  capacity : vec_capacity l.items ≡ vec_capacity l.initial.items;
  room : vec_len l.initial.items + 64 ≤ vec_capacity l.initial.items;
  firsts : l.firsts ≡ l.initial.firsts;
}
