-- The flat machine that has these maps and touched pages.
use Rattle.std.proofs.Common.{◌≡◌, List}
use Rattle.vm_types.specs.declared.names.Page.{Page}
use Rattle.pager_model.specs.Flat.{FlatState}
use Rattle.pager_model.specs.Maps.{Map}

pub same_flat : (flat : FlatState) (map : Map) (touched : List Page) → map ≡ flat.map → touched ≡ flat.touched
    → let mine : FlatState = record { map = map; touched = touched; stored = flat.stored } in mine ≡ flat
same_flat flat map touched maps pages = λ i. record { map = maps i; touched = pages i; stored = flat.stored }
