-- An op's word shows its mode and all of it but the value that is written or added.
use Rattle.std.proofs.Common.{◌≡◌, ℕ, ◌-◌, List, length, get_or, refl, sym, ◌∙◌, ap}
use Rattle.std.specs.Prelude.{nat_eq, if◌then◌else◌}
use Rattle.vm_types.specs.WellFormed.{op_bytes}
use Rattle.vm_types.specs.declared.reference.Mode.{Mode}
use Rattle.vm_types.specs.declared.reference.Mode.TheVariants.{K, E, S, U}
use Rattle.vm_types.specs.declared.reference.Width.{Width}
use Rattle.vm_types.specs.declared.reference.Width.TheVariants.{One, Two, Four}
use Rattle.vm_types.specs.declared.reference.Op.{Op}
use Rattle.vm_types.specs.declared.reference.Op.TheVariants.{Read, Write, Add}
use Rattle.vm_text.specs.References.{bare, op_text}

pub bare_text : (mode : Mode) (op : Op) → op_text mode (bare op) ≡ op_text mode op
bare_text mode (Read width) = refl
bare_text mode (Write width value) = refl
bare_text mode (Add value) = refl

pub bare_bytes : (op : Op) → op_bytes (bare op) ≡ op_bytes op
bare_bytes (Read width) = refl
bare_bytes (Write width value) = refl
bare_bytes (Add value) = refl

pub bare_twice : (op : Op) → bare (bare op) ≡ bare op
bare_twice (Read width) = refl
bare_twice (Write width value) = refl
bare_twice (Add value) = refl

abbrev width_by : ℕ → Width
width_by digit = if nat_eq digit 49 then One else (if nat_eq digit 50 then Two else Four)

abbrev op_by : ℕ → ℕ → Op
op_by letter digit = if nat_eq letter 82 then Read (width_by digit) else (if nat_eq letter 87 then Write (width_by digit) 0 else Add 0)

abbrev mode_by : ℕ → ℕ → Mode
mode_by long letter = if nat_eq long 2 then U else (if nat_eq letter 75 then K else (if nat_eq letter 69 then E else S))

abbrev mode_of : List ℕ → Mode
mode_of text = mode_by (length text) (get_or text 0 0)

abbrev op_of : List ℕ → Op
op_of text = op_by (get_or text (length text - 2) 0) (get_or text (length text - 1) 0)

mode_is : (mode : Mode) (op : Op) → mode_of (op_text mode op) ≡ mode
mode_is K (Read One) = refl
mode_is K (Read Two) = refl
mode_is K (Read Four) = refl
mode_is K (Write One value) = refl
mode_is K (Write Two value) = refl
mode_is K (Write Four value) = refl
mode_is K (Add value) = refl
mode_is E (Read One) = refl
mode_is E (Read Two) = refl
mode_is E (Read Four) = refl
mode_is E (Write One value) = refl
mode_is E (Write Two value) = refl
mode_is E (Write Four value) = refl
mode_is E (Add value) = refl
mode_is S (Read One) = refl
mode_is S (Read Two) = refl
mode_is S (Read Four) = refl
mode_is S (Write One value) = refl
mode_is S (Write Two value) = refl
mode_is S (Write Four value) = refl
mode_is S (Add value) = refl
mode_is U (Read One) = refl
mode_is U (Read Two) = refl
mode_is U (Read Four) = refl
mode_is U (Write One value) = refl
mode_is U (Write Two value) = refl
mode_is U (Write Four value) = refl
mode_is U (Add value) = refl

op_is : (mode : Mode) (op : Op) → op_of (op_text mode op) ≡ bare op
op_is K (Read One) = refl
op_is K (Read Two) = refl
op_is K (Read Four) = refl
op_is K (Write One value) = refl
op_is K (Write Two value) = refl
op_is K (Write Four value) = refl
op_is K (Add value) = refl
op_is E (Read One) = refl
op_is E (Read Two) = refl
op_is E (Read Four) = refl
op_is E (Write One value) = refl
op_is E (Write Two value) = refl
op_is E (Write Four value) = refl
op_is E (Add value) = refl
op_is S (Read One) = refl
op_is S (Read Two) = refl
op_is S (Read Four) = refl
op_is S (Write One value) = refl
op_is S (Write Two value) = refl
op_is S (Write Four value) = refl
op_is S (Add value) = refl
op_is U (Read One) = refl
op_is U (Read Two) = refl
op_is U (Read Four) = refl
op_is U (Write One value) = refl
op_is U (Write Two value) = refl
op_is U (Write Four value) = refl
op_is U (Add value) = refl

pub mode_same : (mode : Mode) (op : Op) (mode' : Mode) (op' : Op) → op_text mode op ≡ op_text mode' op' → mode ≡ mode'
mode_same mode op mode' op' e = sym (mode_is mode op) ∙ ap mode_of e ∙ mode_is mode' op'

pub op_same : (mode : Mode) (op : Op) (mode' : Mode) (op' : Op) → op_text mode op ≡ op_text mode' op' → bare op ≡ bare op'
op_same mode op mode' op' e = sym (op_is mode op) ∙ ap op_of e ∙ op_is mode' op'
