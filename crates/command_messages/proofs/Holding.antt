-- What holds of a command's words holds of the whole command line.
use Rattle.std.proofs.Common.{◌≡◌, ℕ, List, [], ◌∷◌, get_or, take, sym, ◌∙◌, ap, subst}
use Rattle.command_messages.specs.LineFaults.{HoldsOfWords, Quotes}
use Rattle.command_messages.specs.declared.faults.LineFault.{LineFault}
use Rattle.command_messages.specs.declared.faults.LineFault.TheVariants.{NotText, NoCommand, NoSuchCommand, Missing, BadValue, Other}

pub holds_behind : (words rest : List (List ℕ)) (first name : List ℕ) (fault : LineFault) → words ≡ first ∷ rest → name ≡ first → HoldsOfWords (name ∷ rest) fault → HoldsOfWords words fault
holds_behind words rest first name fault are is holds =
    subst (λ (all : List (List ℕ)). HoldsOfWords all fault) (ap (λ (head : List ℕ). head ∷ rest) is ∙ sym are) holds

-- the first bytes of the first word are what any of the lines may quote
pub quotes_first : (words : List (List ℕ)) (fault : LineFault) (kept : List ℕ) → kept ≡ take 80 (get_or words 0 []) → Quotes words fault kept
quotes_first words NotText kept is = tt
quotes_first words NoCommand kept is = tt
quotes_first words NoSuchCommand kept is = is
quotes_first words (Missing option) kept is = tt
quotes_first words (BadValue option) kept is = tt
quotes_first words (Other command) kept is = tt
