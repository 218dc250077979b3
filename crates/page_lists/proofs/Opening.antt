-- Two empty lists, with cells of zeros.
use Rattle.std.proofs.Common.{◌≡◌, ℕ, ◌<◌, ◌^◌, List, [], Option, None, length, get_or, refl, sym, ◌∙◌, ap, ⊎_elim, arith, replicate}
use Rattle.std.proofs.lemmas.Bool.{cases_lt}
use Rattle.std.proofs.lemmas.List.{length-replicate, get_or-replicate, get_or_past}
use Rattle.std.proofs.lemmas.List.FromFn.{fill_by_all}
use Rattle.page_lists.specs.declared.list_name.ListName.{ListName}
use Rattle.page_lists.specs.declared.ends.Ends.{Ends}
use Rattle.page_lists.specs.Links.{all_cells, lent_cells, mark_of, IsLinked, AreLinked}

pub all_cells-opening : (n : ℕ) (forward backward : List ℕ) (marks : List (Option ListName)) → forward ≡ replicate n 0 → backward ≡ replicate n 0 → marks ≡ replicate n None → all_cells forward backward marks ≡ replicate n (0, 0)
all_cells-opening n forward backward marks ahead behind unmarked =
    let count : length (replicate {A = ℕ} n 0) ≡ n = length-replicate {A = ℕ} n 0 in
    rw (ahead, behind, unmarked, count) (sym (fill_by_all (λ g. lent_cells (mark_of (replicate n None) g) (get_or (replicate n 0) g 0) (get_or (replicate n 0) g 0)) (replicate n (0, 0)) n (0, 0) (length-replicate {A = ℕ × ℕ} n (0, 0))
    (λ k within. get_or-replicate {A = ℕ × ℕ} n k (0, 0) (0, 0) within ∙ sym (rw (get_or-replicate {A = Option ListName} n k None None within, get_or-replicate {A = ℕ} n k 0 0 within) refl))))

module _ (n : ℕ) (short : n < 2 ^ 32) (forward backward : List ℕ) (marks : List (Option ListName)) (ahead : length forward ≡ n) (behind : length backward ≡ n) (unmarked : marks ≡ replicate n None) where
  abbrev none_on : Ends
  none_on = record { head = 0; tail = 0; count = 0 }

  empty : IsLinked forward backward [] none_on
  empty = record {
    counted = refl;
    first = λ some. absurd (omega arith);
    last = λ some. absurd (omega arith);
    within = λ place some. absurd (omega arith);
    once = λ g. omega arith;
    next = λ place some. absurd (omega arith);
    previous = λ place some. absurd (omega arith);
  }

  no_mark : (g : ℕ) → mark_of marks g ≡ None
  no_mark g = rw unmarked (⊎_elim
      (λ within. get_or-replicate {A = Option ListName} n g None None within)
      (λ past. get_or_past (replicate n None) g None (let long = length-replicate {A = Option ListName} n None in omega arith))
      (cases_lt g n))

  pub AreLinked-opening : AreLinked forward backward marks none_on none_on
  AreLinked-opening = record {
    cells_count = behind ∙ sym ahead;
    marks_count = ap length unmarked ∙ length-replicate {A = Option ListName} n None ∙ sym ahead;
    short = rw ahead short;
    free_list = record { linked = empty; marked = λ g. sym (rw (no_mark g) refl) };
    modified_list = record { linked = empty; marked = λ g. sym (rw (no_mark g) refl) };
  }
