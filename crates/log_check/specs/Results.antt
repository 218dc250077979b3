-- What was asked for, or why there is none. This project's own.
use Rattle.std.specs.Prelude.{Option, Some, None, Result, Ok, Err}
use Rattle.log_reasons.specs.declared.line_reason.LineReason.{LineReason}

abbrev pub ok_of : {T : Type 0} → Result T LineReason → Option T
ok_of (Ok x) = Some x
ok_of (Err why) = None
