-- The word of a page's table entry is that of its valid entry.
use Rattle.std.proofs.Common.{◌≡◌, ℕ, ◌<◌, Option, Some, None, map, nat_eq, refl, sym, ap, ◌∙◌, arith}
use Rattle.std.specs.Prelude.{IsSome}
use Rattle.std.specs.List.{AllByRecursion}
use Rattle.std.specs.Option.{option_map}
use Rattle.std.proofs.lemmas.Bool.{false≢true}
use Rattle.std.proofs.lemmas.Option.{none-some}
use Rattle.vm_types.specs.declared.config.Config.{Config}
use Rattle.pager_model.specs.Around.{PastView}
use Rattle.pager_model.specs.Forget.{holder}
use Rattle.pager_model.specs.Lookups.{entry_of, is_entry}
use Rattle.pager_model.specs.Maps.{Mapped}
use Rattle.pager_model.specs.Pager.{Pager, Valid}
use Rattle.pager_rules.proofs.Lists.{found_one}
use Rattle.pager_rules.specs.Kept.{IsKept}
use Rattle.pager_laws.proofs.EntryPages.{entry_page, mapped_there}
use Rattle.state_fits.specs.Entries.{pte_at, pte_of}
use Rattle.state_pages.specs.MarkedWords.{word_marked}
use Rattle.vm_state.specs.Words.{word_in}
use Rattle.dump_laws.specs.DumpAfter.{entry_word, pages_of, valid_pages, word_by}
use Rattle.dump_laws.proofs.Bounded.{each_there}
use Rattle.dump_laws.proofs.Entries.{own_times}
use Rattle.dump_laws.proofs.Numbers.{count_ascending, times}

-- the word that was read, or 0
abbrev pub read_word : Option ℕ → ℕ
read_word None = 0
read_word (Some word) = word

module _ (config : Config) (o : PastView) (a : Pager) (kept : IsKept config o a) (p v : ℕ) where
  word_by_entry : (e : Valid) (m : Mapped) → entry_of a.valid p v ≡ Some e → a.map p v ≡ Some m → read_word (word_in config a p v) ≡ entry_word a p v
  unfolding pte_of
  word_by_entry e m entry mapped =
      ap (λ (x : Option Valid). read_word (option_map (word_marked a.modify) (pte_at config p v (holder config a.page) a.lies x (a.map p v)))) entry
      ∙ ap (λ (y : Option Mapped). read_word (option_map (word_marked a.modify) (pte_at config p v (holder config a.page) a.lies (Some e) y))) mapped
      ∙ sym (ap (λ (x : Option Valid). word_by a.modify x (a.map p v)) entry ∙ ap (word_by a.modify (Some e)) mapped)

  pub word_shown : IsSome (entry_of a.valid p v) → read_word (word_in config a p v) ≡ entry_word a p v
  word_shown some = go (entry_of a.valid p v) refl some
    where
      go : (e : Option Valid) → entry_of a.valid p v ≡ e → IsSome e → read_word (word_in config a p v) ≡ entry_word a p v
      go None is none = absurd (false≢true none)
      go (Some e) is some =
          let page = entry_page config o a p v e kept is in
          let there = mapped_there config a.map p v page.0 page.1 in
          word_by_entry e there.0 is there.1

-- each valid page of a process has an entry
pub pages_have : (a : Pager) (p : ℕ) → AllByRecursion (λ (v : ℕ). IsSome (entry_of a.valid p v)) (valid_pages a.valid p)
pages_have a p = each_there (λ (v : ℕ). IsSome (entry_of a.valid p v)) (valid_pages a.valid p) (λ v some. found v some)
  where
    found : (v : ℕ) → 0 < times v (valid_pages a.valid p) → IsSome (entry_of a.valid p v)
    found v some =
        let same = count_ascending (λ (n : ℕ). nat_eq n v) (pages_of a.valid p) in
        let own = own_times p v a.valid in
        let one = found_one (is_entry p v) a.valid (omega (arith, some, same, own)) in
        by (entry_of a.valid p v) one.0 one.1
      where
        by : (e : Option Valid) (x : Valid) → e ≡ Some x → IsSome e
        by None x is = absurd (none-some x is)
        by (Some e) x is = refl
