-- What is seen of a source and of a sink at one moment. Source: this project's own.
use Rattle.std.specs.Prelude.{ℕ, List, Option}

-- the bytes left, if they are known, and how many calls have failed
pub record SourceView : Type 0 where
  pub left : Option (List ℕ)
  pub failures : ℕ

-- the bytes taken, if they are known; those of them that are kept and not handed on yet; how many calls
-- have failed, and how many took nothing
pub record SinkView : Type 0 where
  pub taken : Option (List ℕ)
  pub kept : List ℕ
  pub failures : ℕ
  pub stalls : ℕ
