-- A frame has few valid entries: each is of one process, for one page number.
use Rattle.std.proofs.Common.{◌≡◌, inl, inr, ℕ, ◌+◌, ◌*◌, ◌/◌, ◌%◌, ◌^◌, ◌<◌, ◌≤◌, Bool, true, false, List, [], ◌∷◌, map, nat_eq, refl, ◌∙◌, arith}
use Rattle.std.specs.List.{AllByRecursion}
use Rattle.std.proofs.lemmas.Bool.{and_from, eq-eqb, eqb-true, ne_eqb}
use Rattle.std.proofs.lemmas.List.{length-map}
use Rattle.std.proofs.lemmas.List.Sums.{count_by-le-length}
use Rattle.vm_types.specs.Configuration.{IsWellFormed}
use Rattle.vm_types.specs.declared.config.Config.{Config}
use Rattle.page_lists.specs.Lists.{count_of}
use Rattle.page_lists.proofs.Counts.{length-once}
use Rattle.pager_model.specs.Around.{PastView}
use Rattle.pager_model.specs.Lookups.{entries_at, is_entry, shares}
use Rattle.pager_model.specs.OfConfig.{IsMappable, IsOfConfig}
use Rattle.pager_model.specs.Pager.{Pager, Valid}
use Rattle.pager_rules.proofs.Basics.{count_cons, count_cons_no, count_cons_yes, each_weaker}
use Rattle.pager_rules.specs.Kept.{IsForItsPage, IsKept}
use Rattle.pager_laws.proofs.EntryPages.{mapped_right}

-- the process and the page number of an entry as one number
abbrev key : Valid → ℕ
key e = e.proc * 4194304 + e.vpn

pub record IsSmall (e : Valid) : Type 0 where
  pub proc : e.proc < 16
  pub vpn : e.vpn < 4194304

below : (v : ℕ) → IsMappable v → v < 4194304
below v (inl less) = omega (arith, less)
below v (inr most) = omega (arith, most.1)

none_past : (valid : List Valid) (k : ℕ) → 67108864 ≤ k → AllByRecursion IsSmall valid → count_of (map key valid) k ≡ 0
none_past [] k past all = refl
none_past (e ∷ valid) k past all =
    count_cons_no (λ (n : ℕ). nat_eq n k) (key e) (map key valid) (ne_eqb (key e) k (λ same. omega (arith, same, past, all.0.proc, all.0.vpn))) ∙ none_past valid k past all.1

own_key : (e : Valid) (k : ℕ) → IsSmall e → key e ≡ k → is_entry (k / 4194304) (k % 4194304) e ≡ true
own_key e k small same =
    let proc : e.proc ≡ k / 4194304 = omega (arith, same, small.vpn) in
    let vpn : e.vpn ≡ k % 4194304 = omega (arith, same, small.vpn) in
    and_from _ _ (eq-eqb _ _ proc) (eq-eqb _ _ vpn)

most_of_key : (valid : List Valid) (k : ℕ) → AllByRecursion IsSmall valid → count_of (map key valid) k ≤ entries_at valid (k / 4194304) (k % 4194304)
most_of_key [] k all = omega arith
most_of_key (e ∷ valid) k all = go (nat_eq (key e) k) refl (most_of_key valid k all.1)
  where
    go : (b : Bool) → nat_eq (key e) k ≡ b → count_of (map key valid) k ≤ entries_at valid (k / 4194304) (k % 4194304) → count_of (map key (e ∷ valid)) k ≤ entries_at (e ∷ valid) (k / 4194304) (k % 4194304)
    go true is rest =
        let more = count_cons_yes (λ (n : ℕ). nat_eq n k) (key e) (map key valid) is in
        let also = count_cons_yes (is_entry (k / 4194304) (k % 4194304)) e valid (own_key e k all.0 (eqb-true _ _ is)) in
        omega (arith, more, also, rest)
    go false is rest =
        let same = count_cons_no (λ (n : ℕ). nat_eq n k) (key e) (map key valid) is in
        let also = count_cons (is_entry (k / 4194304) (k % 4194304)) e valid in
        omega (arith, same, also, rest)

pub few_shares : (config : Config) (o : PastView) (a : Pager) (f : ℕ) → IsWellFormed config → IsKept config o a → IsOfConfig config a → shares a.valid f ≤ 2 ^ 26
few_shares config o a f formed kept right =
    let small = each_weaker (IsForItsPage config a.map a.page) IsSmall step a.valid kept.valid in
    let keys = length-once (map key a.valid) 67108864 (λ k past. none_past a.valid k past small) (λ k. let most = most_of_key a.valid k small in let once = (kept.entries (k / 4194304) (k % 4194304)).once in omega (arith, most, once)) in
    omega (arith, keys, length-map a.valid key, count_by-le-length (λ (e : Valid). nat_eq e.frame f) a.valid)
  where
    step : (e : Valid) → IsForItsPage config a.map a.page e → IsSmall e
    step e is =
        let found = mapped_right config a e.proc e.vpn is.0 right is.1 in
        record { proc = omega (arith, (found.3).process, formed.some_process.1); vpn = below e.vpn (found.3).page }
