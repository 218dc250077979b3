use Rattle.std.proofs.Common.{◌≡◌, take}
use Rattle.paging_study.specs.PageString.{page_string}
use Rattle.paging_study.proofs.references.page_string.Given as goal

-- the pages of the requests so far
abbrev pub invariant-loop-i : goal.invariant-loop-i
invariant-loop-i l = l.pages.items ≡ page_string l.process.0 (take l.i l.config.body)
