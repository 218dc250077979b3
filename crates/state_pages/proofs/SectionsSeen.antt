-- A walk over the sections: none before the next one has a page that waits.
use Rattle.std.proofs.Common.{◌≡◌, ◌<◌, ◌+◌, ℕ, Bool, true, false, List, length, nat_lt, slice_index_or, refl, sym, ap, ◌∙◌, subst, arith}
use Rattle.std.proofs.lemmas.Bool.{ltb-true, ltb-false}
use Rattle.vm_types.specs.declared.config.Section.{Section}
use Rattle.vm_types.specs.declared.names.Page.TheVariants.{Shared}
use Rattle.state_parts.specs.ChargedTable.{ChargedTable, kept_at}
use Rattle.state_fits.proofs.OnePlace.{read_is}
use Rattle.state_pages.specs.PagesShown.{NoneShared, is_waiting, paged_pages}

pub one_more : (table : ChargedTable) (sections : List Section) (n count : ℕ) (x : Section) → n < length sections → x ≡ slice_index_or sections n x → count ≡ paged_pages x
    → ((i : ℕ) → i < count → is_waiting (kept_at table (Shared (record { 0 = n }) i)) ≡ false)
    → ((s : ℕ) → s < n → NoneShared table sections s) → (s : ℕ) → s < n + 1 → NoneShared table sections s
one_more table sections n count x below read is none before s less = by (nat_lt s n) refl
  where
    here : NoneShared table sections n
    here y known i within = none i (subst (λ m. i < m) (ap paged_pages (sym (read_is sections n x y read known below)) ∙ sym is) within)

    by : (b : Bool) → nat_lt s n ≡ b → NoneShared table sections s
    by true e = before s (ltb-true _ _ e)
    by false e =
        let past = ltb-false _ _ e in
        let same : n ≡ s = omega (arith, past, less) in
        subst (NoneShared table sections) same here
