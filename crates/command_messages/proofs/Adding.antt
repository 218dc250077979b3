-- What is added is the same for values that are the same, and of two texts that of which a test says so.
use Rattle.std.proofs.Common.{◌≡◌, ℕ, List, Bool, true, false, sym, subst}
use Rattle.std.specs.Prelude.{Option, if◌then◌else◌}
use Rattle.command_messages.specs.Bounds.{has_to_be}
use Rattle.command_messages.specs.Texts.{Adds}

pub adds_for : (before after name bound : List ℕ) (found value : Option ℕ) (n m : ℕ) → found ≡ value → n ≡ m
    → Adds before after (has_to_be name found bound n) 240 → Adds before after (has_to_be name value bound m) 240
adds_for before after name bound found value n m is same added =
    subst (λ (at : ℕ). Adds before after (has_to_be name value bound at) 240) same
    (subst (λ (seen : Option ℕ). Adds before after (has_to_be name seen bound n) 240) is added)

pub adds_first : (before after first second : List ℕ) (test : Bool) → test ≡ true → Adds before after first 240
    → Adds before after (if test then first else second) 240
adds_first before after first second test holds added =
    subst (λ (b : Bool). Adds before after (if b then first else second) 240) (sym holds) added

pub adds_second : (before after first second : List ℕ) (test : Bool) → test ≡ false → Adds before after second 240
    → Adds before after (if test then first else second) 240
adds_second before after first second test fails added =
    subst (λ (b : Bool). Adds before after (if b then first else second) 240) (sym fails) added
