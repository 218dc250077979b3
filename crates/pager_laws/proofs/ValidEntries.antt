-- What is around a valid page table entry: its page and its frame.
use Rattle.std.proofs.Common.{◌≡◌, ℕ, ◌<◌, List, Option, Some, None, nat_eq, refl, subst}
use Rattle.std.proofs.lemmas.Bool.{and_parts, eqb-true}
use Rattle.vm_types.specs.declared.config.Config.{Config}
use Rattle.vm_types.specs.declared.names.FrameState.TheVariants as state
use Rattle.vm_types.specs.declared.names.Page.{Page}
use Rattle.vm_journal.specs.declared.entry.Entry.{Entry}
use Rattle.pager_model.specs.Around.{frame_view, past_view}
use Rattle.pager_model.specs.Lookups.{entry_of, is_entry, page_at, page_by, shares}
use Rattle.pager_model.specs.Maps.{Map, Mapped}
use Rattle.pager_model.specs.Pager.{Pager, Valid}
use Rattle.pager_rules.proofs.Basics.{nat_eq_refl}
use Rattle.pager_rules.proofs.Frames.{active_frame}
use Rattle.pager_rules.proofs.Lists.{all_found, count_found, found_passes}
use Rattle.pager_rules.specs.Kept.{IsForItsPage, IsKept}
use Rattle.pager_laws.proofs.Holders.{good_within}

-- the process and page that it is of; its page is mapped there and held by its frame, which is active
pub record IsValidAt (config : Config) (a : Pager) (p v : ℕ) (e : Valid) : Type 0 where
  pub proc : e.proc ≡ p
  pub vpn : e.vpn ≡ v
  pub page : Page
  pub mapped : page_by config a.map p v ≡ Some page
  pub holds : a.page e.frame ≡ Some page
  pub shared : 0 < shares a.valid e.frame
  pub active : a.state e.frame ≡ state.Active
  pub within : e.frame < config.frames

pub valid_at_page : (config : Config) (past : List Entry) (a : Pager) (p v : ℕ) (e : Valid) → IsKept config (past_view past) a → entry_of a.valid p v ≡ Some e → IsValidAt config a p v e
valid_at_page config past a p v e kept found =
    let passes = and_parts (nat_eq e.proc p) (nat_eq e.vpn v) (found_passes (is_entry p v) a.valid e found) in
    let proc_is : e.proc ≡ p = eqb-true e.proc p passes.0 in
    let vpn_is : e.vpn ≡ v = eqb-true e.vpn v passes.1 in
    let its : IsForItsPage config a.map a.page e = all_found (IsForItsPage config a.map a.page) (is_entry p v) a.valid e kept.valid found in
    let some : 0 < shares a.valid e.frame = count_found (λ (x : Valid). nat_eq x.frame e.frame) (is_entry p v) a.valid e found (nat_eq_refl e.frame) in
    let at : a.state e.frame ≡ state.Active = active_frame (frame_view config (past_view past) a e.frame) (kept.frames e.frame) some in
    record {
      proc = proc_is;
      vpn = vpn_is;
      page = its.0;
      mapped = subst (λ (n : ℕ). page_by config a.map n v ≡ Some its.0) proc_is (subst (λ (n : ℕ). page_by config a.map e.proc n ≡ Some its.0) vpn_is its.1);
      holds = its.2;
      shared = some;
      active = at;
      within = good_within config (past_view past) a e.frame state.Active kept at refl;
    }

mapped_at : (config : Config) (p v : ℕ) (o : Option Mapped) (g : Page) → page_at config p v o ≡ Some g → (m : Mapped) × (o ≡ Some m)
mapped_at config p v None g is = absurd (let no : ⊥ = cc in no)
mapped_at config p v (Some m) g is = (m, refl)

-- the mapping of a page that a process has
pub mapping_of : (config : Config) (map : Map) (p v : ℕ) (g : Page) → page_by config map p v ≡ Some g → (m : Mapped) × (map p v ≡ Some m)
mapping_of config map p v g is = mapped_at config p v (map p v) g is
