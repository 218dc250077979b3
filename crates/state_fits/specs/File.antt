-- The page file as it stands for the pager's state. This project's own.
use Rattle.std.specs.Prelude.{◌≡◌, ℕ, List, Option, find, length, nat_eq, Bool}
use Rattle.std.specs.Option.{option_map}
use Rattle.vm_types.specs.declared.names.Page.{Page}
use Rattle.page_file.specs.Blocks.{Blocks, assigned_blocks, owner_of}
use Rattle.pager_model.specs.Pager.{Assigned}

abbrev pub has_block : ℕ → Assigned → Bool
has_block b x = nat_eq x.block b

-- the page that a block is assigned to
abbrev pub owner_in : List Assigned → ℕ → Option Page
owner_in assigned b = option_map (λ (x : Assigned). x.page) (find (has_block b) assigned)

pub record FileFits (charged assigned : ℕ) (owner : ℕ → Option Page) (n : ℕ) (file : Blocks) : Type 0 where
  pub count : length file.owners ≡ n
  pub charges : file.charged ≡ charged
  pub blocks : assigned_blocks file ≡ assigned
  pub owners : (b : ℕ) → owner_of file b ≡ owner b
