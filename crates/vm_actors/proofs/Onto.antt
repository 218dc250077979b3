-- A past and the entries that come after it.
use Rattle.std.proofs.Common.{◌≡◌, ℕ, List, [], ◌∷◌, ◌++◌, map, reverse, refl, sym, ap, ◌∙◌, append_assoc, append-nil}
use Rattle.std.proofs.lemmas.List.{reverse-append}
use Rattle.vm_types.specs.declared.config.Config.{Config}
use Rattle.vm_journal.specs.declared.entry.Entry.{Entry}
use Rattle.vm_journal.specs.declared.entry.What.{What}
use Rattle.pager_policy.specs.Given.{by_seat, made_by}
use Rattle.pager_model.specs.Run.{IsRun}

-- entries, oldest first, behind a past
abbrev pub onto : List Entry → List Entry → List Entry
onto past [] = past
onto past (e ∷ later) = onto (e ∷ past) later

pub onto_reverse : (xs later : List Entry) → reverse (xs ++ later) ≡ onto (reverse xs) later
onto_reverse xs [] = ap reverse (append-nil xs)
onto_reverse xs (e ∷ later) =
    ap reverse (sym (append_assoc xs (e ∷ []) later))
    ∙ (onto_reverse (xs ++ e ∷ []) later ∙ ap (λ (past : List Entry). onto past later) (reverse-append xs (e ∷ [])))

pub made_onto : (seat : ℕ) (ws : List What) (past : List Entry) → made_by seat ws past ≡ onto past (map (by_seat seat) ws)
made_onto seat [] past = refl
made_onto seat (w ∷ ws) past = made_onto seat ws (by_seat seat w ∷ past)

-- a seat's entries in a journal, oldest first
pub made_last : (seat : ℕ) (ws : List What) (xs : List Entry) → made_by seat ws (reverse xs) ≡ reverse (xs ++ map (by_seat seat) ws)
made_last seat ws xs = made_onto seat ws (reverse xs) ∙ sym (onto_reverse xs (map (by_seat seat) ws))

pub run_onto : (config : Config) (later past : List Entry) → IsRun config (onto past later) → IsRun config past
run_onto config [] past run = run
run_onto config (e ∷ later) past run = (run_onto config later (e ∷ past) run).0
