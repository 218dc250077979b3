-- What the calls of the pager's logic make but for a reference's answer shows no reply.
use Rattle.std.proofs.Common.{◌≡◌, ℕ, List, [], ◌∷◌, Option, Some, None, map, refl, ap, ◌∙◌}
use Rattle.std.specs.List.{AllByRecursion}
use Rattle.vm_types.specs.declared.config.Config.{Config}
use Rattle.vm_types.specs.declared.reply.Reply.{Reply}
use Rattle.vm_journal.specs.declared.entry.Entry.{Entry}
use Rattle.vm_journal.specs.declared.entry.What.{What}
use Rattle.vm_journal.specs.declared.entry.What.TheVariants as what
use Rattle.pager_model.specs.Flights.{Direction, Flight, reading, writing}
use Rattle.pager_policy.specs.Given.{by_seat, made_by, with_reply}
use Rattle.pager_policy.specs.Landings.{Outcome, landed_by, landing, reuse_of, went_badly, went_well}
use Rattle.pager_model.specs.Run.{pager_after}
use Rattle.pager_model.specs.Spoken.{IsRight, ShowsReply, flat_after}
use Rattle.pager_model.specs.Flat.{FlatState}
use Rattle.vm_types.specs.declared.names.Page.{Page}

-- an entry that answers no reference
abbrev pub IsMute : What → Type 0
IsMute (what.Done r reply) = ⊥
IsMute other = Unit {0}

-- it shows no reply
pub mute_shows : (config : Config) (flat : FlatState) (p : ℕ) (w : What) → IsMute w → ShowsReply config flat p w
mute_shows config flat p (what.Done r reply) mute = absurd mute
mute_shows config flat p other mute = tt

-- nor does an open reply stand in it
pub mute_same : (shown : Reply) (ws : List What) → AllByRecursion IsMute ws → map (with_reply shown) ws ≡ ws
mute_same shown [] mute = refl
mute_same shown (w ∷ ws) mute = ap (λ (v : What). v ∷ map (with_reply shown) ws) (one w mute.0) ∙ ap (λ (vs : List What). w ∷ vs) (mute_same shown ws mute.1)
  where
    one : (w : What) → IsMute w → with_reply shown w ≡ w
    one (what.Done r reply) mute = absurd mute
    one other mute = refl

-- right values stay right
pub mute_right : (config : Config) (seat : ℕ) (ws : List What) (past : List Entry) → AllByRecursion IsMute ws → IsRight config past → IsRight config (made_by seat ws past)
mute_right config seat [] past mute right = right
mute_right config seat (w ∷ ws) past mute right = mute_right config seat ws (by_seat seat w ∷ past) mute.1 (right, mute_shows config (flat_after config past) seat w mute.0)

landing_mute : (past : List Entry) (page : ℕ → Option Page) (x : Flight) (d : Direction) (o : Outcome) → AllByRecursion IsMute (landing past page x d o)
landing_mute past page x (reading r) went_well = (tt, tt)
landing_mute past page x (reading r) (went_badly n) = (tt, by (page x.frame))
  where
    by : (o : Option Page) → AllByRecursion IsMute (reuse_of x.frame o)
    by None = tt
    by (Some g) = (tt, tt)
landing_mute past page x writing went_well = (tt, tt)
landing_mute past page x writing (went_badly n) = (tt, tt)

pub landed_right : (config : Config) (seat : ℕ) (flights : List Flight) (outcomes : List Outcome) (past : List Entry) → IsRight config past → IsRight config (landed_by config seat flights outcomes past)
landed_right config seat [] outcomes past right = right
landed_right config seat (x ∷ flights) [] past right = right
landed_right config seat (x ∷ flights) (o ∷ outcomes) past right =
    let ws : List What = landing past (pager_after config past).page x x.direction o in
    landed_right config seat flights outcomes (made_by seat ws past) (mute_right config seat ws past (landing_mute past (pager_after config past).page x x.direction o) right)
