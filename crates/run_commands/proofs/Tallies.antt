-- What one entry more does to the counts that tallies give.
use Rattle.std.proofs.Common.{◌≡◌, ℕ, zero, suc, ◌+◌, ◌<◌, ◌≤◌, List, [], ◌∷◌, length, get_or, set, take, if◌then◌else◌, ◌==◌, refl, sym, ap, ◌∙◌, subst, arith}
use Rattle.std.proofs.lemmas.List.{get_or-set_same, get_or-set_other, take_all, take_more}
use Rattle.std.proofs.lemmas.List.Sums.{count_by_more_no, count_by_more_yes}
use Rattle.vm_journal.specs.declared.entry.Entry.{Entry}
use Rattle.vm_journal.specs.declared.entry.Kind.{Kind}
use Rattle.vm_journal.specs.declared.entry.Kind.TheVariants as kind
use Rattle.vm_journal.specs.declared.entry.What.{What}
use Rattle.vm_journal.specs.declared.entry.What.TheVariants as what
use Rattle.run_commands.specs.MakeText.{count_of, counted, counts_of, is_kind}
use Rattle.run_record.specs.Tallies.{tallied, tallies_of}
use Rattle.run_record.proofs.Tallies.{tallied_more, tallies_long, tallies_none}
use Rattle.run_commands.specs.Tallies.{counts_in}

-- a tally after one more at a place
raised : (xs : List ℕ) (at k : ℕ) → at < length xs → get_or (set xs at (get_or xs at 0 + 1)) k 0 ≡ get_or xs k 0 + (if k == at then 1 else 0)
raised xs at k within = grind (arith, get_or-set_same, get_or-set_other)

raised_counts : (xs : List ℕ) (at : ℕ) → at < length xs → counts_in (set xs at (get_or xs at 0 + 1)) ≡ record {
  done = get_or xs 0 0 + (if 0 == at then 1 else 0);
  denied = get_or xs 1 0 + (if 1 == at then 1 else 0);
  zeros = get_or xs 4 0 + (if 4 == at then 1 else 0);
  backs = get_or xs 5 0 + (if 5 == at then 1 else 0);
  reads = get_or xs 7 0 + (if 7 == at then 1 else 0);
  writes = get_or xs 10 0 + (if 10 == at then 1 else 0);
  evictions = get_or xs 13 0 + (if 13 == at then 1 else 0);
  turns = get_or xs 15 0 + (if 15 == at then 1 else 0);
  limits = get_or xs 14 0 + (if 14 == at then 1 else 0);
}
raised_counts xs at within =
    rw (
      raised xs at 0 within,
      raised xs at 1 within,
      raised xs at 4 within,
      raised xs at 5 within,
      raised xs at 7 within,
      raised xs at 10 within,
      raised xs at 13 within,
      raised xs at 15 within,
      raised xs at 14 within,
    ) refl

counts_tallied : (xs : List ℕ) (w : What) → length xs ≡ 16 → counts_in (tallied xs w) ≡ counted (counts_in xs) w
counts_tallied xs (what.Done r reply) len = raised_counts xs 0 (omega (arith, len))
counts_tallied xs (what.Denied r why) len = raised_counts xs 1 (omega (arith, len))
counts_tallied xs (what.Served s answer) len = raised_counts xs 2 (omega (arith, len))
counts_tallied xs (what.Reuse f page) len = raised_counts xs 3 (omega (arith, len))
counts_tallied xs (what.Zero a f) len = raised_counts xs 4 (omega (arith, len))
counts_tallied xs (what.Back p a f from) len = raised_counts xs 5 (omega (arith, len))
counts_tallied xs (what.Collide a f k) len = raised_counts xs 6 (omega (arith, len))
counts_tallied xs (what.In f block role) len = raised_counts xs 7 (omega (arith, len))
counts_tallied xs (what.InOk f k) len = raised_counts xs 8 (omega (arith, len))
counts_tallied xs (what.InFail f k c d) len = raised_counts xs 9 (omega (arith, len))
counts_tallied xs (what.Out f block) len = raised_counts xs 10 (omega (arith, len))
counts_tallied xs (what.OutOk f k) len = raised_counts xs 11 (omega (arith, len))
counts_tallied xs (what.OutFail f k c d) len = raised_counts xs 12 (omega (arith, len))
counts_tallied xs (what.Evict p a f why to) len = raised_counts xs 13 (omega (arith, len))
counts_tallied xs (what.Limit n faults) len = raised_counts xs 14 (omega (arith, len))
counts_tallied xs (what.Turn p status) len = raised_counts xs 15 (omega (arith, len))

count_more : (k : Kind) (entries : List Entry) (i : ℕ) (d : Entry) → i < length entries → count_of k (take (i + 1) entries) ≡ count_of k (take i entries) + (if is_kind k (get_or entries i d).what then 1 else 0)
count_more k entries i d less =
    grind (arith, count_by_more_no (λ (e : Entry). is_kind k e.what) entries i d less, count_by_more_yes (λ (e : Entry). is_kind k e.what) entries i d less)

-- the counts of one entry more
counts_more : (entries : List Entry) (i : ℕ) (d : Entry) → i < length entries → counted (counts_of (take i entries)) (get_or entries i d).what ≡ counts_of (take (i + 1) entries)
counts_more entries i d less =
    rw (
      count_more kind.Done entries i d less,
      count_more kind.Denied entries i d less,
      count_more kind.Zero entries i d less,
      count_more kind.Back entries i d less,
      count_more kind.In entries i d less,
      count_more kind.Out entries i d less,
      count_more kind.Evict entries i d less,
      count_more kind.Turn entries i d less,
      count_more kind.Limit entries i d less,
    ) refl

-- tallies that give the counts so far give those with the next entry, once it is counted
still_give : (xs : List ℕ) (entries : List Entry) (i : ℕ) (d : Entry) → length xs ≡ 16 → i < length entries → counts_in xs ≡ counts_of (take i entries)
    → counts_in (tallied xs (get_or entries i d).what) ≡ counts_of (take (i + 1) entries)
still_give xs entries i d len less same =
    counts_tallied xs (get_or entries i d).what len ∙ ap (λ n. counted n (get_or entries i d).what) same ∙ counts_more entries i d less

item_at : (xs : List Entry) (i : ℕ) → i < length xs → Entry
item_at [] i less = absurd (omega (arith, less))
item_at (e ∷ xs) i less = e

next_told : (es : List Entry) (i : ℕ) (d : Entry) → i < length es → counts_in (tallies_of (take i es)) ≡ counts_of (take i es) → counts_in (tallies_of (take (i + 1) es)) ≡ counts_of (take (i + 1) es)
next_told es i d less before =
    ap (λ (xs : List Entry). counts_in (tallies_of xs)) (take_more es i d less)
    ∙ ap counts_in (sym (tallied_more (take i es) (get_or es i d)))
    ∙ still_give (tallies_of (take i es)) es i d (tallies_long (take i es)) less before

told : (es : List Entry) (i : ℕ) → i ≤ length es → counts_in (tallies_of (take i es)) ≡ counts_of (take i es)
told es zero most = ap counts_in (sym tallies_none)
told es (suc i) most =
    let less : i < length es = omega (arith, most) in
    let next : i + 1 ≡ suc i = omega arith in
    subst (λ (n : ℕ). counts_in (tallies_of (take n es)) ≡ counts_of (take n es)) next (next_told es i (item_at es i less) less (told es i (omega (arith, most))))

-- the tallies of entries give their counts
pub counts_told : (es : List Entry) → counts_in (tallies_of es) ≡ counts_of es
counts_told es =
    let all = take_all (length es) es (omega arith) in
    subst (λ (xs : List Entry). counts_in (tallies_of xs) ≡ counts_of xs) all (told es (length es) (omega arith))
