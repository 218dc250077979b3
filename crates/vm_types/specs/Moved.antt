-- A view before and after a call. Source: this project's own.

pub record Moved (V : Type 0) : Type 0 where
  pub before : V
  pub after : V

abbrev pub moved : {V : Type 0} → V → V → Moved V
moved before after = record { before = before; after = after }
