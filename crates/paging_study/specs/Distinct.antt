-- How many distinct pages are referenced. This project's own.
use Rattle.std.specs.Prelude.{ℕ, ◌==◌, List, length}
use Rattle.paging_study.specs.Places.{page_at, count_places}
use Rattle.paging_study.specs.Intervals.{begins}

-- each page counts at its first reference
abbrev pub distinct_pages : List ℕ → ℕ
distinct_pages pages = count_places (λ n. begins (page_at pages) n == 0) (length pages)
