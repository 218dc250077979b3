-- What stands for the entries goes on with one more.
use Rattle.std.proofs.Common.{◌≡◌, ℕ, List, [], ◌∷◌, length, refl, sym, ap, ◌∙◌, subst}
use Rattle.std.specs.Option.{IsSome}
use Rattle.vm_types.specs.Configuration.{IsWellFormed}
use Rattle.vm_types.specs.declared.config.Config.{Config}
use Rattle.vm_journal.specs.declared.entry.Entry.{Entry}
use Rattle.vm_journal.specs.declared.entry.What.{What}
use Rattle.vm_journal.specs.declared.entry.What.TheVariants as what
use Rattle.pager_model.specs.Flights.{open_flights}
use Rattle.pager_model.specs.Opening.{opening}
use Rattle.pager_model.specs.Order.{requests_of}
use Rattle.pager_model.specs.Flat.{flat_start}
use Rattle.pager_model.specs.Run.{pager_after}
use Rattle.pager_model.specs.Spoken.{flat_after, flat_entry}
use Rattle.pager_model.specs.Step.{IsLegalWhat}
use Rattle.shadow_flat.specs.Kept.{IsBeside, KeepsFlat, kept}
use Rattle.shadow_flat.specs.declared.page_bytes.PageBytes.{PageBytes}
use Rattle.shadow_pager.specs.Shown.{Shown, shown}
use Rattle.shadow_history.specs.Standing.{FailsOpen, Passed}
use Rattle.pager_model.specs.Pager.{Pager}
use Rattle.row_requests.specs.FollowsFlat.{FollowsFlat}
use Rattle.log_check.specs.Follows.{Follows}
use Rattle.log_check.specs.declared.followed.Followed.{Followed}
use Rattle.log_check.specs.Followed.{HasEntered, IsAdded, IsFollowed, MayEnter}
use Rattle.log_check.specs.Replies.{IsOfProcess}
use Rattle.log_check.proofs.Changeable.{served_process}

-- the beginning
pub first_followed : (config : Config) (f : Followed) → IsWellFormed config → f.past ≡ record { config = config; past = [] }
    → shown f.pager ≡ record { frames = config.frames; processes = length config.procs; pager = opening config } → KeepsFlat config (flat_start config) (kept f.bytes) → IsFollowed f
first_followed config f formed past shows bytes = record {
  follows = subst (λ (s : Passed). Follows s.config s.past (shown f.pager)) (sym past) (subst (λ (x : Shown). Follows config [] x) (sym shows) (record {
    tables = record { formed = formed; frames = refl; processes = refl };
    run = tt;
    in_order = λ p. (requests_of p config.body, refl);
    pager = refl;
  }));
  bytes = subst (λ (s : Passed). KeepsFlat s.config (flat_after s.config s.past) (kept f.bytes)) (sym past) bytes;
}

pub of_process : (config : Config) (past : List Entry) (p : ℕ) (w : What) → IsLegalWhat config past (pager_after config past) p w → IsOfProcess config p w
of_process config past p (what.Served s answer) row = served_process config past (pager_after config past) p s answer row
of_process config past p other row = tt

-- a read that fails is open
pub fails_open : (config : Config) (past : List Entry) (p : ℕ) (w : What) → IsLegalWhat config past (pager_after config past) p w → FailsOpen w (open_flights past)
fails_open config past p (what.InFail f k c d) row = subst IsSome (sym row.lands.open_k) refl
fails_open config past p other row = tt

-- one entry more
pub entered : (old mid : Followed) (e : Entry) (new : Followed) → IsFollowed old → mid.past ≡ old.past → mid.pager ≡ old.pager → MayEnter old e
    → KeepsFlat old.past.config (flat_entry old.past.config (flat_after old.past.config old.past.past) (e.seat).0 e.what) (kept mid.bytes) → IsAdded mid e new → HasEntered old e new
entered old mid e new followed same_past same_pager may bytes added =
    let past_is : new.past ≡ record { config = old.past.config; past = e ∷ old.past.past } = added.past ∙ ap (λ (s : Passed). record { config = s.config; past = e ∷ s.past }) same_past in
    record {
      may = may;
      past = past_is;
      followed = record {
        follows = subst (λ (s : Passed). Follows s.config s.past (shown new.pager)) (sym past_is) (record {
          tables = record {
            formed = followed.follows.tables.formed;
            frames = added.frames ∙ (ap (λ p. (shown p).frames) same_pager ∙ followed.follows.tables.frames);
            processes = added.processes ∙ (ap (λ p. (shown p).processes) same_pager ∙ followed.follows.tables.processes);
          };
          run = (followed.follows.run, may.legal);
          in_order = may.in_order;
          pager = added.pager ∙ ap (λ (s : Passed). pager_after s.config (e ∷ s.past)) same_past;
        });
        bytes = subst (λ (s : Passed). KeepsFlat s.config (flat_after s.config s.past) (kept new.bytes)) (sym past_is)
            (subst (λ (x : PageBytes). KeepsFlat old.past.config (flat_entry old.past.config (flat_after old.past.config old.past.past) (e.seat).0 e.what) (kept x)) (sym added.bytes) bytes);
      };
    }

-- the pager has the flat machine's maps and touched pages
pub followed_beside : (config : Config) (past : List Entry) (a : Pager) → FollowsFlat config past a → IsBeside a (flat_after config past)
followed_beside config past a is = record { maps = is.maps; touched = is.touched }
