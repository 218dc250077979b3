-- What contracts see of a pool of page buffers, and of a buffer. Source: this project's own.
use Rattle.std.specs.Prelude.{ℕ, ◌≡◌, ◌≤◌, List, length}
use Rattle.vm_types.specs.declared.pool_name.PoolName.{PoolName}

-- a pool: its name, and how many buffers are left in it
pub record PoolState : Type 0 where
  pub name : PoolName
  pub left : ℕ

-- the parts that are in are those whose numbers are on the stack, which has room for all
pub record IsStacked (numbers stack : List ℕ) (all capacity size : ℕ) : Type 0 where
  pub stacked : numbers ≡ stack
  pub within : length stack ≤ all
  pub room : all ≤ capacity
  pub known : size ≡ all

-- a buffer: the name of its pool, and its bytes
pub record Buffer : Type 0 where
  pub pool : PoolName
  pub bytes : List ℕ
