-- The answers that a journal counts as it is written are the spoken entries of the past.
use Rattle.std.proofs.Common.{◌≡◌, List, reverse, count_by, cond, refl, sym, ◌∙◌}
use Rattle.std.proofs.lemmas.List.Sorted.{IsPermutation-reverse, sum_by-IsPermutation}
use Rattle.std.specs.Option.{is_some}
use Rattle.vm_journal.specs.Journal.{answers_in, is_answer}
use Rattle.vm_journal.specs.declared.entry.Entry.{Entry}
use Rattle.vm_journal.specs.declared.entry.What.{What}
use Rattle.vm_journal.specs.declared.entry.What.TheVariants as what
use Rattle.pager_model.specs.Spoken.{spoken, request_of}

is_request : (w : What) → is_answer w ≡ is_some (request_of w)
is_request (what.Done r reply) = refl
is_request (what.Denied r reason) = refl
is_request (what.Served s answer) = refl
is_request (what.Reuse f page) = refl
is_request (what.Zero a f) = refl
is_request (what.Back p a f from) = refl
is_request (what.Collide a f k) = refl
is_request (what.In f block role) = refl
is_request (what.InOk f k) = refl
is_request (what.InFail f k c d) = refl
is_request (what.Out f block) = refl
is_request (what.OutOk f k) = refl
is_request (what.OutFail f k c d) = refl
is_request (what.Evict p a f reason to) = refl
is_request (what.Limit n faults) = refl
is_request (what.Turn p status) = refl

pub answers_spoken : (entries : List Entry) → answers_in entries ≡ spoken (reverse entries)
answers_spoken entries =
    (λ i. count_by (λ (e : Entry). is_request e.what i) entries)
    ∙ sym (sum_by-IsPermutation (λ (e : Entry). cond (is_some (request_of e.what)) 1 0) entries (reverse entries) (IsPermutation-reverse entries))
