-- What is looked for in the slots of a process, one after another. This project's own.
use Rattle.std.specs.Prelude.{ℕ, Bool, List, Option, find}
use Rattle.vm_types.specs.declared.config.Config.{Config}
use Rattle.vm_journal.specs.declared.entry.Entry.{Entry}
use Rattle.pager_policy.specs.Given.{Seen, seen_at, slots_of}
use Rattle.pager_model.specs.Lookups.{passes}
use Rattle.pager_model.specs.Pager.{Pager}
use Rattle.pager_policy.specs.Swap.{is_back_on_free, is_out_page, is_saved, is_shared_unpinned, is_to_save}
use Rattle.pager_model.specs.Lying.{lying_in}
use Rattle.vm_swapper.specs.declared.looks.Look.{Look}
use Rattle.vm_swapper.specs.declared.looks.Look.TheVariants as look

-- whether a slot has it
abbrev pub has : Config → List Entry → Pager → ℕ → Look → ℕ → Bool
has config past a p look.Shared = λ (n : ℕ). passes (λ (s : Seen). is_shared_unpinned s) (seen_at a p n)
has config past a p look.Saved = λ (n : ℕ). passes (is_saved past a p n) (seen_at a p n)
has config past a p look.Unsaved = λ (n : ℕ). passes (is_to_save past) (seen_at a p n)
has config past a p look.OnFree = λ (n : ℕ). passes (is_back_on_free config a) (lying_in a p n)
has config past a p look.Out = λ (n : ℕ). passes (is_out_page config a) (lying_in a p n)

-- the first slot that has it
abbrev pub first : Config → List Entry → Pager → ℕ → Look → Option ℕ
first config past a p look = find (has config past a p look) (slots_of a p)
