-- Buffers and blocks that are kept in lists: writing one place puts one buffer, or one block.
use Rattle.std.proofs.Common.{ℕ, ◌<◌, List, Option, None, length, slice_index_or, slice_set, sym}
use Rattle.std.proofs.lemmas.List.{get_or-set_other, get_or-set_same}
use Rattle.content_laws.specs.Put.{PutsBuffer}

pub list_puts_buffer : (buffers : List (Option (List ℕ))) (f : ℕ) (o : Option (List ℕ)) → f < length buffers → PutsBuffer f o (λ (g : ℕ). slice_index_or buffers g None) (λ (g : ℕ). slice_index_or (slice_set buffers f o) g None)
list_puts_buffer buffers f o inside = record { here = get_or-set_same buffers f o None inside; others = λ g apart. get_or-set_other buffers f g o None (λ same. apart (sym same)) }
