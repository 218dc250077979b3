-- With status 0 or 5 `serial` or `replay` has served the trace.
use Rattle.std.proofs.Common.{◌≡◌, ℕ, List, [], ◌∷◌, codes, refl, arith}
use Rattle.command_calls.specs.CommandCall.{IsCommandCall}
use Rattle.command_calls.specs.Moves.{Moves}
use Rattle.pager_policy.specs.Serial.{IsSerial}
use Rattle.replay_run.specs.Replayed.{HasWorkedAfterAnswers}
use Rattle.replay_cli.specs.CommandRun.{IsCommandRun}
use Rattle.replay_cli.specs.Commands.{Asks, Obeys, Told, usage, unread_options, obeyed}
use Rattle.replay_cli.specs.declared.ways.Way.{Way}
use Rattle.replay_cli.specs.declared.words.Command.{Command}
use Rattle.replay_cli.specs.declared.words.Command.TheVariants.{Serial, Replay, Study, Make, Check, Dump, Show}
use Rattle.run_commands.specs.Headline.{IsServedBy}
use Rattle.run_commands.proofs.Running.{HasRun, IsFinal, is_served, not_both, tells_run}
use Rattle.replay_cli.proofs.Asking.{head_apart, shorter}
use Rattle.replay_cli.proofs.Obeying.{complete_status, no_usage_status, same_name, usage_status}
use Rattle.disk_trait.specs.DepotView.{DepotView}
use Rattle.outside_io.specs.Views.{SinkView, SourceView}
use Rattle.vm_types.specs.Moved.{moved}

module _ (way : Way) (words : List (List ℕ)) (ends : Moves) where
  -- the words of `serial` ask for no other command
  serial_obeys : (command : Command) (status : ℕ) (text : List ℕ) → words ≡ codes "serial" ∷ [] → Asks words command → Obeys command ends.source ends.depot status text
      → IsFinal status → HasRun IsSerial ends.source ends.depot status text
  serial_obeys Serial status text is asks obeys final = tells_run IsSerial status text obeys.tells final
  serial_obeys Replay status text is asks obeys final = absurd (head_apart 114 115 (same_name words Replay Serial asks is) (λ n. omega (arith, n)))
  serial_obeys (Study of) status text is asks obeys final = absurd (shorter (same_name words (Study of) Serial asks is) (λ n. omega (arith, n)))
  serial_obeys (Make of) status text is asks obeys final = absurd (shorter (same_name words (Make of) Serial asks is) (λ n. omega (arith, n)))
  serial_obeys Check status text is asks obeys final = absurd (shorter (same_name words Check Serial asks is) (λ n. omega (arith, n)))
  serial_obeys Dump status text is asks obeys final = absurd (shorter (same_name words Dump Serial asks is) (λ n. omega (arith, n)))
  serial_obeys Show status text is asks obeys final = absurd (shorter (same_name words Show Serial asks is) (λ n. omega (arith, n)))

  serial_told : (status : ℕ) (text : List ℕ) → words ≡ codes "serial" ∷ [] → Told way words ends.source ends.depot status text → IsFinal status → HasRun IsSerial ends.source ends.depot status text
  serial_told status text is (usage other same kept) final = absurd (not_both 1 1 final refl (λ e. omega (arith, e)) (λ e. omega (arith, e)))
  serial_told status text is (unread_options begin same kept) final = absurd (not_both 7 7 final refl (λ e. omega (arith, e)) (λ e. omega (arith, e)))
  serial_told status text is (obeyed command n t asks offers obeys) final = serial_obeys command status text is asks obeys final

  -- the words of `replay` ask for no other command
  replay_obeys : (command : Command) (status : ℕ) (text : List ℕ) → words ≡ codes "replay" ∷ [] → Asks words command → Obeys command ends.source ends.depot status text
      → IsFinal status → HasRun HasWorkedAfterAnswers ends.source ends.depot status text
  replay_obeys Serial status text is asks obeys final = absurd (head_apart 115 114 (same_name words Serial Replay asks is) (λ n. omega (arith, n)))
  replay_obeys Replay status text is asks obeys final = tells_run HasWorkedAfterAnswers status text obeys.tells final
  replay_obeys (Study of) status text is asks obeys final = absurd (shorter (same_name words (Study of) Replay asks is) (λ n. omega (arith, n)))
  replay_obeys (Make of) status text is asks obeys final = absurd (shorter (same_name words (Make of) Replay asks is) (λ n. omega (arith, n)))
  replay_obeys Check status text is asks obeys final = absurd (shorter (same_name words Check Replay asks is) (λ n. omega (arith, n)))
  replay_obeys Dump status text is asks obeys final = absurd (shorter (same_name words Dump Replay asks is) (λ n. omega (arith, n)))
  replay_obeys Show status text is asks obeys final = absurd (shorter (same_name words Show Replay asks is) (λ n. omega (arith, n)))

  replay_told : (status : ℕ) (text : List ℕ) → words ≡ codes "replay" ∷ [] → Told way words ends.source ends.depot status text → IsFinal status → HasRun HasWorkedAfterAnswers ends.source ends.depot status text
  replay_told status text is (usage other same kept) final = absurd (not_both 1 1 final refl (λ e. omega (arith, e)) (λ e. omega (arith, e)))
  replay_told status text is (unread_options begin same kept) final = absurd (not_both 7 7 final refl (λ e. omega (arith, e)) (λ e. omega (arith, e)))
  replay_told status text is (obeyed command n t asks offers obeys) final = replay_obeys command status text is asks obeys final

  served : {status : ℕ} → IsCommandCall (Told way words) ends status → words ≡ codes "serial" ∷ [] → IsFinal status → IsServedBy IsSerial ends.source ends.depot ends.output status
  served {status} call is final =
      let whole = call.told (λ four. not_both status 4 final four (λ e. omega (arith, e)) (λ e. omega (arith, e))) in
      is_served IsSerial status whole.0 (serial_told status whole.0 is whole.1 final) whole.2

  replayed : {status : ℕ} → IsCommandCall (Told way words) ends status → words ≡ codes "replay" ∷ [] → IsFinal status → IsServedBy HasWorkedAfterAnswers ends.source ends.depot ends.output status
  replayed {status} call is final =
      let whole = call.told (λ four. not_both status 4 final four (λ e. omega (arith, e)) (λ e. omega (arith, e))) in
      is_served HasWorkedAfterAnswers status whole.0 (replay_told status whole.0 is whole.1 final) whole.2

-- what the call of a command does, and what follows of its words
pub command_run : {way : Way} {words : List (List ℕ)} {before after : SourceView} {sink sink' : SinkView} {depot depot' : DepotView} {status : ℕ}
    → IsCommandCall (Told way words) (record { source = moved before after; output = moved sink sink'; depot = moved depot depot' }) status
    → IsCommandRun way words (record { source = moved before after; output = moved sink sink'; depot = moved depot depot' }) status
command_run call = record {
  call = call;
  served = served _ _ _ call;
  replayed = replayed _ _ _ call;
  usage = usage_status call;
  no_usage = no_usage_status call;
  complete = complete_status call;
}
