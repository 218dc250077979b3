-- What `dump` wrote is a dump in which nothing is wrong, and what `show` tells of it.
use Rattle.std.proofs.Common.{◌≡◌, ℕ, List, [], ◌∷◌, ap, codes, refl, sym, ◌∙◌, subst, arith, inl, inr}
use Rattle.std.specs.Prelude.{IfSome, Some}
use Rattle.std.specs.Io.KnownBytes.{Appends}
use Rattle.vm_types.specs.declared.config.Config.{Config}
use Rattle.vm_types.specs.Moved.{Moved}
use Rattle.disk_trait.specs.DepotView.{DepotView}
use Rattle.outside_io.specs.Views.{SourceView}
use Rattle.command_calls.specs.Moves.{Moves}
use Rattle.replay_cli.specs.declared.ways.Way.{Way}
use Rattle.command_ends.specs.Tells.{Tells, answered, faulty, unfinished, unread, no_memory}
use Rattle.dump_bytes.specs.Begins.{IsTextOf}
use Rattle.dump_bytes.specs.Dumped.{Dumped}
use Rattle.dump_bytes.specs.Text.{dump_text}
use Rattle.dump_bytes.proofs.OneAnswer.{one_dump}
use Rattle.dump_laws.specs.DumpAfter.{dump_after}
use Rattle.dump_laws.specs.Laws.{IsSoundDump}
use Rattle.dump_lines.specs.ShowText.{held_lines, show_text}
use Rattle.show_command.specs.ShowTells as show
use Rattle.show_command.specs.ShowTells.{HasDump, ShowTells}
use Rattle.replay_cli.specs.CommandRun.{IsCommandRun}
use Rattle.replay_cli.specs.Commands.{Asks, Obeys, Told, usage, unread_options, obeyed}
use Rattle.run_commands.specs.DumpAnswer.{DumpTells, IsDumpAnswer}
use Rattle.replay_cli.specs.DumpShown.{EndsRight, HasDumped}
use Rattle.replay_cli.specs.declared.words.Command.{Command}
use Rattle.replay_cli.specs.declared.words.Command.TheVariants.{Serial, Replay, Study, Make, Check, Dump, Show}
use Rattle.replay_cli.proofs.Asking.{head_apart, shorter}
use Rattle.replay_cli.proofs.Obeying.{same_name}

-- the bytes of a dump in which nothing is wrong
record IsSoundText (bytes : List ℕ) : Type 0 where
  dump : Dumped
  text : bytes ≡ dump_text dump
  sound : IsSoundDump dump

is_text : {bytes : List ℕ} (s : IsSoundText bytes) → IsTextOf bytes s.dump
is_text s = record { bounds = s.sound.bounds; text = s.text }

answer_sound : {depot : Moved DepotView} (config : Config) (status : ℕ) (text : List ℕ) → IsDumpAnswer depot config status text → status ≡ 0 → IsSoundText text
answer_sound config status text (inl run) zero = record { dump = dump_after config run.past; text = run.bytes; sound = run.shown }
answer_sound config status text (inr none) zero = absurd (let six = none.ending in omega (arith, six, zero))

module _ (way : Way) (ends : Moves) where
  -- ---- what `dump` tells with status 0
  dump_obeys : (command : Command) (status : ℕ) (text : List ℕ) → Asks (codes "dump" ∷ []) command → Obeys command ends.source ends.depot status text → DumpTells ends.source ends.depot status text
  dump_obeys Serial status text asks obeys = absurd (shorter (same_name (codes "dump" ∷ []) Serial Dump asks refl) (λ n. omega (arith, n)))
  dump_obeys Replay status text asks obeys = absurd (shorter (same_name (codes "dump" ∷ []) Replay Dump asks refl) (λ n. omega (arith, n)))
  dump_obeys (Study study) status text asks obeys = absurd (shorter (same_name (codes "dump" ∷ []) (Study study) Dump asks refl) (λ n. omega (arith, n)))
  dump_obeys (Make make) status text asks obeys = absurd (head_apart 109 100 (same_name (codes "dump" ∷ []) (Make make) Dump asks refl) (λ n. omega (arith, n)))
  dump_obeys Check status text asks obeys = absurd (shorter (same_name (codes "dump" ∷ []) Check Dump asks refl) (λ n. omega (arith, n)))
  dump_obeys Dump status text asks obeys = obeys
  dump_obeys Show status text asks obeys = absurd (head_apart 115 100 (same_name (codes "dump" ∷ []) Show Dump asks refl) (λ n. omega (arith, n)))

  dump_told : (status : ℕ) (text : List ℕ) → Told way (codes "dump" ∷ []) ends.source ends.depot status text → status ≡ 0 → DumpTells ends.source ends.depot status text
  dump_told status text (usage other same kept) zero = absurd (omega (arith, zero))
  dump_told status text (unread_options begin same kept) zero = absurd (omega (arith, zero))
  dump_told status text (obeyed command n t asks offers obeys) zero = dump_obeys command n t asks obeys

  tells_sound : (status : ℕ) (text : List ℕ) → Tells (IsDumpAnswer ends.depot) ends.source.before ends.source.after status text → status ≡ 0 → IsSoundText text
  tells_sound status text (answered config own t outcome quiet reads right) zero = answer_sound config status text right zero
  tells_sound status text (faulty n breach quiet shown) zero = absurd (omega (arith, zero))
  tells_sound status text (unfinished quiet short) zero = absurd (omega (arith, zero))
  tells_sound status text (unread rose faultless) zero = absurd (omega (arith, zero))
  tells_sound status text (no_memory quiet) zero = absurd (omega (arith, zero))

  -- ---- what `show` tells with status 0
  show_obeys : (command : Command) (status : ℕ) (text : List ℕ) → Asks (codes "show" ∷ []) command → Obeys command ends.source ends.depot status text → ShowTells ends.source.before ends.source.after status text
  show_obeys Serial status text asks obeys = absurd (shorter (same_name (codes "show" ∷ []) Serial Show asks refl) (λ n. omega (arith, n)))
  show_obeys Replay status text asks obeys = absurd (shorter (same_name (codes "show" ∷ []) Replay Show asks refl) (λ n. omega (arith, n)))
  show_obeys (Study study) status text asks obeys = absurd (shorter (same_name (codes "show" ∷ []) (Study study) Show asks refl) (λ n. omega (arith, n)))
  show_obeys (Make make) status text asks obeys = absurd (head_apart 109 115 (same_name (codes "show" ∷ []) (Make make) Show asks refl) (λ n. omega (arith, n)))
  show_obeys Check status text asks obeys = absurd (shorter (same_name (codes "show" ∷ []) Check Show asks refl) (λ n. omega (arith, n)))
  show_obeys Dump status text asks obeys = absurd (head_apart 100 115 (same_name (codes "show" ∷ []) Dump Show asks refl) (λ n. omega (arith, n)))
  show_obeys Show status text asks obeys = obeys.0

  show_told : (status : ℕ) (text : List ℕ) → Told way (codes "show" ∷ []) ends.source ends.depot status text → status ≡ 0 → ShowTells ends.source.before ends.source.after status text
  show_told status text (usage other same kept) zero = absurd (omega (arith, zero))
  show_told status text (unread_options begin same kept) zero = absurd (omega (arith, zero))
  show_told status text (obeyed command n t asks offers obeys) zero = show_obeys command n t asks obeys

-- the bytes are of one dump
module _ (source : Moved SourceView) where
  tells_right : {bytes : List ℕ} → IsSoundText bytes → source.before.left ≡ Some bytes → (status : ℕ) (text : List ℕ) → ShowTells source.before source.after status text → status ≡ 0 → EndsRight text
  tells_right {bytes} s known status text (show.shown d quiet reads) zero =
      let is = (subst (λ left. IfSome left (λ t. IsTextOf t d × (source.after.left ≡ Some []))) known reads.text).0 in
      let same = one_dump bytes s.dump d (is_text s) is in
      (held_lines s.dump, ap show_text (sym same) ∙ s.sound.ends)
  tells_right s known status text (show.bad n later is) zero = absurd (omega (arith, zero))
  tells_right s known status text (show.unread rose begun) zero = absurd (omega (arith, zero))
  tells_right s known status text (show.no_memory quiet) zero = absurd (omega (arith, zero))

-- ---- both
not_four : ◌≡◌ {A = ℕ} 0 4 → ⊥
not_four e = omega (arith, e)

sound_text : (bytes : List ℕ) → HasDumped bytes → IsSoundText bytes
sound_text bytes dumped =
    let told = dumped.call.call.told not_four in
    let is : bytes ≡ told.0 = subst (λ b. Appends b (Some bytes) told.0) dumped.empty (subst (λ b. Appends dumped.ends.output.before.taken b told.0) dumped.wrote told.2) in
    subst IsSoundText (sym is) (tells_sound dumped.way dumped.ends 0 told.0 (dump_told dumped.way dumped.ends 0 told.0 told.1 refl).tells refl)

pub has_dump : (bytes : List ℕ) (source : SourceView) → HasDumped bytes → source.left ≡ Some bytes → HasDump source
has_dump bytes source dumped known =
    let s = sound_text bytes dumped in
    record { text = bytes; dump = s.dump; known = known; is = is_text s }

pub shown_right : (bytes : List ℕ) (way : Way) (ends : Moves) → HasDumped bytes → ends.source.before.left ≡ Some bytes
    → IsCommandRun way (codes "show" ∷ []) ends 0 → (text : List ℕ) × EndsRight text × Appends ends.output.before.taken ends.output.after.taken text
shown_right bytes way ends dumped known run =
    let told = run.call.told not_four in
    (told.0, tells_right ends.source (sound_text bytes dumped) known 0 told.0 (show_told way ends 0 told.0 told.1 refl) refl, told.2)
