-- What is stated of a log by why a line of it isn't a legal next one. This project's own.
use Rattle.std.specs.Prelude.{◌≡◌, ◌≢◌, ℕ, ◌+◌, ◌<◌, ◌≤◌, ◌^◌, List, [], ◌∷◌, ◌++◌, All, length}
use Rattle.vm_types.specs.declared.config.Config.{Config}
use Rattle.vm_types.specs.declared.reference.Ref.{Ref}
use Rattle.vm_types.specs.declared.reply.Reply.{Reply}
use Rattle.vm_journal.specs.HasLine.{HasLine}
use Rattle.vm_journal.specs.declared.entry.Entry.{Entry}
use Rattle.vm_journal.specs.declared.entry.What.TheVariants as what
use Rattle.outside_io.specs.LineText.{line_text}
use Rattle.pager_model.specs.Flat.{flat_reply}
use Rattle.pager_model.specs.Order.{IsInOrder}
use Rattle.pager_model.specs.Run.{pager_after}
use Rattle.pager_model.specs.Spoken.{flat_after}
use Rattle.run_words.specs.Text.{ended}
use Rattle.log_model.specs.Log.{BeginsLegal}
use Rattle.log_model.specs.NextLine.{AreRundownFirst, IsLineOf}
use Rattle.log_model.specs.Stand.{Stand, ending_after, in_ending, in_entries, in_report, in_rundown, report_after}
use Rattle.log_reasons.specs.EntryReasons.{EntryFails}
use Rattle.log_reasons.specs.declared.line_reason.LineReason.{LineReason}
use Rattle.log_reasons.specs.declared.line_reason.LineReason.TheVariants as why

-- a DONE shows another value than this one, that of the flat machine
abbrev pub ShowsOther : Config → List Entry → Entry → Reply → Type 0
ShowsOther config past e right =
    (r : Ref) × (shown : Reply) × (e.what ≡ what.Done r shown) × (right ≡ flat_reply config (flat_after config past) (e.seat).0 r) × (shown ≡ right → ⊥)

-- an entry that has a line isn't a legal next one
abbrev pub IsEntryRefused : Config → List Entry → Entry → LineReason → Type 0
IsEntryRefused config past e (why.NotLegal reason) = EntryFails config past (pager_after config past) e reason
IsEntryRefused config past e why.OutOfOrder = IsInOrder config (e ∷ past) → ⊥
IsEntryRefused config past e (why.WrongReply right) = ShowsOther config past e right
IsEntryRefused config past e other = ⊥

-- the entries that the lines so far have
abbrev pub entries_of : Stand → List Entry
entries_of (in_entries past) = past
entries_of (in_report past text) = past
entries_of (in_rundown past rest) = rest ++ past
entries_of (in_ending n text) = []

-- the text whose next line may come
abbrev pub text_next : Config → Stand → List ℕ
text_next config (in_entries past) = report_after config past
text_next config (in_report past text) = text
text_next config (in_rundown past rest) = ending_after config (rest ++ past)
text_next config (in_ending n text) = text

-- the line is that of the entry of this number
pub record IsItsLine (config : Config) (number : ℕ) (line : List ℕ) (e : Entry) : Type 0 where
  pub has : HasLine (length config.procs) config.sections e
  pub text : IsLineOf config number e line

-- a whole line isn't a legal next one
abbrev pub LineFails : Config → Stand → List ℕ → LineReason → Type 0
LineFails config stand line why.NoEntry = (number : ℕ) (e : Entry) → number < 2 ^ 64 → IsItsLine config number line e → ⊥
LineFails config stand line (why.NotNextNumber n) = (number : ℕ) × (e : Entry) × IsItsLine config number line e × (n ≡ length (entries_of stand) + 1) × (number ≡ n → ⊥)
LineFails config stand line (why.NotInText right) = ((left : List ℕ) → text_next config stand ≡ ended line ++ left → ⊥) × (right.items ≡ line_text 1 (text_next config stand))
LineFails config stand line why.NotOfRundown =
    (past : List Entry) × (rest : List Entry) × (e : Entry) × (stand ≡ in_rundown past rest) × IsItsLine config (length (rest ++ past) + 1) line e × (AreRundownFirst config past (e ∷ rest) → ⊥)
LineFails config stand line other = (e : Entry) × IsItsLine config (length (entries_of stand) + 1) line e × IsEntryRefused config (entries_of stand) e other

-- behind legal lines this is left, and no legal next line is its first
abbrev pub LeftFails : Config → Stand → List ℕ → LineReason → Type 0
LeftFails config stand left why.Ended = left ≡ []
LeftFails config stand left why.NotEnded = (left ≢ []) × All (λ b. b ≢ 10) left
LeftFails config stand left why.TooLong = (line : List ℕ) × (rest : List ℕ) × (left ≡ line ++ rest) × All (λ b. b ≢ 10) line × (256 ≤ length line)
LeftFails config stand left other = (line : List ℕ) × (rest : List ℕ) × (left ≡ ended line ++ rest) × LineFails config stand line other

-- the line of this number, from 1, isn't a legal next line after those before it, and this is why
pub record IsWhy (config : Config) (text : List ℕ) (number : ℕ) (reason : LineReason) : Type 0 where
  pub count : ℕ
  pub stand : Stand
  pub left : List ℕ
  pub legal : BeginsLegal config text count stand left
  pub follows : number ≡ count + 1
  pub fails : LeftFails config stand left reason
