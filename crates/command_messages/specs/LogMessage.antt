-- What is said of a line of a log that isn't a legal next one. Source: this project's own.
use Rattle.std.specs.Prelude.{ℕ, ◌==◌, if◌then◌else◌, List, ◌++◌, codes, decimal, length}
use Rattle.std.specs.List.{flat_map}
use Rattle.vm_types.specs.declared.reply.Reply.{Reply}
use Rattle.vm_types.specs.declared.reply.Reply.TheVariants as reply
use Rattle.vm_text.specs.Hex.{hex}
use Rattle.vm_text.specs.References.{why_word}
use Rattle.log_reasons.specs.declared.line_reason.LineReason.{LineReason}
use Rattle.log_reasons.specs.declared.line_reason.LineReason.TheVariants as why
use Rattle.command_messages.specs.ReasonText.{reason_text}
use Rattle.command_messages.specs.Shown.{shown}

-- a reply, its value in eight digits
abbrev pub reply_text : Reply → List ℕ
reply_text (reply.Value value) = hex 8 value
reply_text reply.Written = codes "written"
reply_text (reply.Old value) = hex 8 value
reply_text (reply.Refused word) = why_word word

-- the line that comes next, if one does
abbrev pub next_text : List ℕ → List ℕ
next_text right = if length right == 0 then codes "no line comes here" else codes "the line that comes here is " ++ flat_map shown right

-- why a line of a log isn't a legal next one
abbrev pub why_text : LineReason → List ℕ
why_text why.Ended = codes "the log is right as far as it goes"
why_text why.NotEnded = codes "the log ends within the line"
why_text why.TooLong = codes "the line has more than 255 bytes"
why_text why.NoEntry = codes "the line is no entry's"
why_text (why.NotNextNumber n) = codes "the next entry's number is " ++ decimal n
why_text (why.NotInText right) = next_text right.items
why_text (why.NotLegal reason) = reason_text reason
why_text why.OutOfOrder = codes "it isn't what the process asks for next"
why_text (why.WrongReply right) = codes "the right reply is another one, " ++ reply_text right
why_text why.NotOfRundown = codes "no rundown makes this entry next"

-- the first bytes of the line, if it is there
abbrev pub line_part : LineReason → List ℕ → List ℕ
line_part why.Ended text = codes " is missing"
line_part other text = codes ": " ++ flat_map shown text

-- beside a log that isn't legal: the number of its faulty line, its first bytes, and why it isn't a legal next one
abbrev pub log_message : ℕ → LineReason → List ℕ → List ℕ
log_message number reason text = codes "neqysbar: log line " ++ decimal number ++ line_part reason text ++ codes ": " ++ why_text reason ++ codes "\n"
