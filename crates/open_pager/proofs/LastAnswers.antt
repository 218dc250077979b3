-- The newest answer to a process: where it stands, and to which request it is.
use Rattle.std.proofs.Common.{◌≡◌, ℕ, ◌+◌, ◌-◌, Bool, true, false, List, [], ◌∷◌, ◌++◌, Option, Some, None, length, nat_eq, reverse, slice_get, refl, sym, ap, ◌∙◌, cond, filter, map, arith, if◌then◌else◌, ◌&&◌}
use Rattle.std.specs.Option.{is_some}
use Rattle.std.proofs.lemmas.Bool.{eq-eqb}
use Rattle.std.proofs.lemmas.List.Elements.{filter-append}
use Rattle.std.proofs.lemmas.List.{append-nil, append_assoc, length-reverse, map-append, reverse-append, same_from_push}
use Rattle.vm_types.specs.declared.config.Config.{Config}
use Rattle.vm_types.specs.declared.config.Task.{Task}
use Rattle.vm_types.specs.declared.service.Request.{Request}
use Rattle.vm_journal.specs.declared.entry.Entry.{Entry}
use Rattle.vm_journal.specs.declared.entry.What.{What}
use Rattle.vm_journal.specs.declared.entry.What.TheVariants as what
use Rattle.pager_model.specs.Order.{IsAnswered, answered, requests_of, spoken_by as said_by}
use Rattle.pager_model.specs.Spoken.{request_of}
use Rattle.frame_store.proofs.Rows.{get_right}
use Rattle.state_fits.specs.Spoken.{spoken_by, spoken_with}
use Rattle.state_parts.specs.declared.spoken_row.SpokenRow.{SpokenRow}
use Rattle.pager_laws.specs.Bodies.{with_task}
use Rattle.open_pager.specs.LastAnswer.{IsAnsweredLast, last_answer, numbered}

-- ---- where a number leads
module _ (xs : List Entry) (e : Entry) (n : ℕ) (row : SpokenRow) (last : Option Entry) (hit : numbered xs (Some n) ≡ Some e) (older : numbered xs row.last ≡ last) where
  by_kind : (w : What) (own : Bool) → numbered xs (spoken_with w own n row).last ≡ (if is_some (request_of w) && own then Some e else last)
  by_kind (what.Done r reply) true = hit
  by_kind (what.Done r reply) false = older
  by_kind (what.Denied r why) true = hit
  by_kind (what.Denied r why) false = older
  by_kind (what.Served s answer) true = hit
  by_kind (what.Served s answer) false = older
  by_kind (what.Reuse f page) own = older
  by_kind (what.Zero a f) own = older
  by_kind (what.Back p a f from) own = older
  by_kind (what.Collide a f k) own = older
  by_kind (what.In f block role) own = older
  by_kind (what.InOk f k) own = older
  by_kind (what.InFail f k c d) own = older
  by_kind (what.Out f block) own = older
  by_kind (what.OutOk f k) own = older
  by_kind (what.OutFail f k c d) own = older
  by_kind (what.Evict p a f why to) own = older
  by_kind (what.Limit m faults) own = older
  by_kind (what.Turn p status) own = older

at_end : (past tail : List Entry) (e : Entry) → slice_get (reverse past ++ e ∷ tail) (length past + 1 - 1) ≡ Some e
at_end past tail e =
    ap (slice_get (reverse past ++ e ∷ tail)) (let at : length past + 1 - 1 ≡ length (reverse past) + 0 = omega (arith, length-reverse past) in at)
    ∙ get_right (reverse past) (e ∷ tail) 0 e refl

read_on : (p : ℕ) (past tail : List Entry) → numbered (reverse past ++ tail) (spoken_by p past).last ≡ last_answer p past
read_on p [] tail = refl
read_on p (e ∷ past) tail =
    ap (λ (xs : List Entry). numbered (xs ++ tail) (spoken_by p (e ∷ past)).last) (reverse-append (e ∷ []) past)
    ∙ (ap (λ (xs : List Entry). numbered xs (spoken_by p (e ∷ past)).last) (append_assoc (reverse past) (e ∷ []) tail)
    ∙ by_kind (reverse past ++ e ∷ tail) e (length past + 1) (spoken_by p past) (last_answer p past) (at_end past tail e) (read_on p past (e ∷ tail)) e.what (nat_eq (e.seat).0 p))

-- where a state's number leads
pub read_last : (p : ℕ) (past : List Entry) → numbered (reverse past) (spoken_by p past).last ≡ last_answer p past
read_last p past = ap (λ (xs : List Entry). numbered xs (spoken_by p past).last) (sym (append-nil (reverse past))) ∙ read_on p past []

-- ---- the request that was answered last
pub answers_last : (p : ℕ) (past : List Entry) (xs : List Request) (request : Request) → answered p past ≡ xs ++ request ∷ [] → IsAnsweredLast p past request
answers_last p [] [] request is = absurd (cc)
answers_last p [] (x ∷ xs) request is = absurd (cc)
answers_last p (e ∷ past) xs request is = go (λ same. answers_last p past xs request same) (request_of e.what) refl (nat_eq (e.seat).0 p) refl
  where
    older : (answered p past ≡ xs ++ request ∷ [] → IsAnsweredLast p past request) → is_some (request_of e.what) && nat_eq (e.seat).0 p ≡ false → answered p past ++ [] ≡ xs ++ request ∷ [] → IsAnsweredLast p (e ∷ past) request
    older before other same =
        let there = before (sym (append-nil (answered p past)) ∙ same) in
        record {
          entry = there.entry;
          newest = ap (λ (t : Bool). if t then Some e else last_answer p past) other ∙ there.newest;
          of = there.of;
        }

    go : (answered p past ≡ xs ++ request ∷ [] → IsAnsweredLast p past request) → (o : Option Request) → request_of e.what ≡ o → (own : Bool) → nat_eq (e.seat).0 p ≡ own → IsAnsweredLast p (e ∷ past) request
    go before None said own same =
        older before (ap (λ (o : Option Request). is_some o && nat_eq (e.seat).0 p) said)
        (sym (ap (λ (o : Option Request). answered p past ++ said_by p (e.seat).0 o) said) ∙ is)
    go before (Some q) said false same =
        older before (ap (λ (o : Option Request). is_some o && nat_eq (e.seat).0 p) said ∙ same)
        (sym (ap (λ (o : Option Request). answered p past ++ said_by p (e.seat).0 o) said ∙ ap (λ (b : Bool). answered p past ++ (if b then (q ∷ []) else [])) same) ∙ is)
    go before (Some q) said true same =
        let whole : answered p past ++ q ∷ [] ≡ xs ++ request ∷ [] =
        sym (ap (λ (o : Option Request). answered p past ++ said_by p (e.seat).0 o) said ∙ ap (λ (b : Bool). answered p past ++ (if b then (q ∷ []) else [])) same) ∙ is in
        record {
          entry = e;
          newest = ap (λ (t : Bool). if t then Some e else last_answer p past) (ap (λ (o : Option Request). is_some o && nat_eq (e.seat).0 p) said ∙ same);
          of = said ∙ ap Some (same_from_push (answered p past) xs q request whole).1;
        }

-- ---- of the request that was added last
requests_join : (p : ℕ) (xs ys : List Task) → requests_of p (xs ++ ys) ≡ requests_of p xs ++ requests_of p ys
requests_join p xs ys =
    let of_p : Task → Bool = λ task. nat_eq (task.proc).0 p in
    ap (map (λ (task : Task). task.request)) (filter-append of_p xs ys) ∙ map-append (λ (task : Task). task.request) (filter of_p xs) (filter of_p ys)

own_request : (task : Task) → requests_of (task.proc).0 (task ∷ []) ≡ task.request ∷ []
own_request task = ap (λ (b : Bool). map (λ (x : Task). x.request) (cond b (task ∷ []) [])) (eq-eqb (task.proc).0 (task.proc).0 refl)

pub added_is_answered : (config : Config) (task : Task) (past : List Entry) → IsAnswered (with_task config task) past → IsAnsweredLast (task.proc).0 past task.request
added_is_answered config task past all =
    answers_last (task.proc).0 past (requests_of (task.proc).0 config.body) task.request
    (all (task.proc).0 ∙ (requests_join (task.proc).0 config.body (task ∷ []) ∙ ap (λ (rs : List Request). requests_of (task.proc).0 config.body ++ rs) (own_request task)))
