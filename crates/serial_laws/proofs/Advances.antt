-- A reference's next step, but for what it fetches: an adjustment, a refusal, an answer, a replacement. It never
-- rests there.
use Rattle.std.proofs.Common.{◌≡◌, ℕ, zero, suc, ◌<◌, ◌≤◌, ◌||◌, Bool, true, false, cond, List, [], ◌∷◌, Option, Some, None, refl, sym, ap, ◌∙◌, subst, arith}
use Rattle.std.proofs.lemmas.Bool.{false≢true, true≢false}
use Rattle.std.proofs.lemmas.Option.{same_Some}
use Rattle.vm_types.specs.Same.{same_page}
use Rattle.vm_types.specs.declared.names.Page.{Page}
use Rattle.vm_types.specs.declared.config.Config.{Config}
use Rattle.vm_types.specs.declared.config.Task.{Task}
use Rattle.vm_types.specs.declared.reference.Ref.{Ref}
use Rattle.vm_types.specs.declared.service.Request.TheVariants as request
use Rattle.vm_journal.specs.declared.entry.Entry.{Entry}
use Rattle.pager_model.specs.Around.{past_view}
use Rattle.pager_model.specs.Done.{after_done, touched_at}
use Rattle.pager_model.specs.Flat.{flat_refusal, touched_with}
use Rattle.pager_model.specs.Lookups.{count_page, entry_of, page_by}
use Rattle.pager_model.specs.Maps.{is_paged, page_number}
use Rattle.pager_model.specs.Pager.{Pager, Valid}
use Rattle.pager_policy.specs.Policy.{next_task}
use Rattle.pager_model.specs.Run.{pager_after}
use Rattle.pager_model.specs.Sets.{has_page}
use Rattle.pager_model.specs.Spoken.{flat_after}
use Rattle.pager_rules.proofs.Basics.{count_cons, count_cons_yes, pages_equal, same_page_refl}
use Rattle.pager_rules.specs.Kept.{IsKept}
use Rattle.pager_laws.proofs.RunsAreSound.{run_kept}
use Rattle.serial_laws.specs.Between.{IsBetween}
use Rattle.serial_laws.specs.Controlled.{AreTouched, IsRead}

-- ---- a page that is touched
pub more_touched : (config : Config) (touched : List Page) (page g : Page) → count_page touched g ≤ count_page (touched_with config touched page) g
more_touched config touched page g = by (is_paged config page) (has_page touched page)
  where
    by : (b c : Bool) → count_page touched g ≤ count_page (cond b (cond c touched (page ∷ touched)) touched) g
    by false c = omega arith
    by true true = omega arith
    by true false = let one = count_cons (same_page g) page touched in omega (arith, one)

listed_counts : (touched : List Page) (page : Page) → has_page touched page ≡ true → 0 < count_page touched page
listed_counts [] page is = absurd (false≢true is)
listed_counts (x ∷ touched) page is = by (same_page page x) refl is (listed_counts touched page)
  where
    by : (b : Bool) → same_page page x ≡ b → (b || has_page touched page) ≡ true → (has_page touched page ≡ true → 0 < count_page touched page) → 0 < count_page (x ∷ touched) page
    by true here is rest = let one = count_cons_yes (same_page page) x touched here in omega (arith, one)
    by false apart is rest = let some = rest is in let more = count_cons (same_page page) x touched in omega (arith, some, more)

now_touched : (config : Config) (touched : List Page) (page : Page) → is_paged config page ≡ true → 0 < count_page (touched_with config touched page) page
now_touched config touched page paged = by (is_paged config page) paged (has_page touched page) refl
  where
    by : (b : Bool) → b ≡ true → (c : Bool) → has_page touched page ≡ c → 0 < count_page (cond b (cond c touched (page ∷ touched)) touched) page
    by false is c listed = absurd (false≢true is)
    by true is true listed = listed_counts touched page listed
    by true is false listed = let one = count_cons_yes (same_page page) page touched (same_page_refl page) in omega (arith, one)

-- but for one page each charged page is touched
abbrev pub AreTouchedBut : Page → Pager → Type 0
AreTouchedBut page a = (g : Page) → (g ≡ page → ⊥) → 0 < count_page a.charged g → 0 < count_page a.touched g

-- a reference to that page answers for it
pub done_touches : (config : Config) (a : Pager) (p : ℕ) (r : Ref) (page : Page) → page_by config a.map p (page_number (r.addr).0) ≡ Some page → (is_paged config page ≡ false → count_page a.charged page ≡ 0) → AreTouchedBut page a → AreTouched (after_done config a p r)
done_touches config a p r page mapped shared others g some = subst (λ (o : Option Page). 0 < count_page (touched_at config a.touched o) g) (sym mapped) (by (same_page g page) refl)
  where
    own : (b : Bool) → is_paged config page ≡ b → g ≡ page → 0 < count_page (touched_with config a.touched page) g
    own true private same = subst (λ (x : Page). 0 < count_page (touched_with config a.touched page) x) (sym same) (now_touched config a.touched page private)
    own false apart same = absurd (let none = shared apart in let also = ap (count_page a.charged) same in omega (arith, none, also, some))

    by : (b : Bool) → same_page g page ≡ b → 0 < count_page (touched_with config a.touched page) g
    by true is = own (is_paged config page) refl (pages_equal g page is)
    by false is = let before = others g (λ same. false≢true (sym is ∙ (ap (λ (x : Page). same_page x page) same ∙ same_page_refl page))) some in omega (arith, before, more_touched config a.touched page g)

-- ---- what the reference was read for
pub record IsReadFor (config : Config) (past : List Entry) (p : ℕ) (r : Ref) : Type 0 where
  pub allowed : flat_refusal config (flat_after config past) p r ≡ None
  pub entry : Valid
  pub valid : entry_of (pager_after config past).valid p (page_number (r.addr).0) ≡ Some entry
  pub page : Page
  pub mapped : page_by config (pager_after config past).map p (page_number (r.addr).0) ≡ Some page
  pub others : AreTouchedBut page (pager_after config past)

pub same_reference : (r s : Ref) → request.Reference r ≡ request.Reference s → r ≡ s
same_reference r s is = cc

pub read_for : (config : Config) (past : List Entry) (task : Task) (r : Ref) → next_task config past ≡ Some task → task.request ≡ request.Reference r → IsRead config past → IsReadFor config past (task.proc).0 r
read_for config past task r next own read = by read.task read.reference (same_Some read.task task (sym read.next ∙ next)) read.asked (record { allowed = read.allowed; entry = read.entry; valid = read.valid; page = read.page; mapped = read.mapped; others = read.others })
  where
    by : (t : Task) (s : Ref) → t ≡ task → t.request ≡ request.Reference s → IsReadFor config past (t.proc).0 s → IsReadFor config past (task.proc).0 r
    by t s same asked known =
        let one : s ≡ r = same_reference s r (sym asked ∙ (ap (λ (x : Task). x.request) same ∙ own)) in
        subst (λ (x : Ref). IsReadFor config past (task.proc).0 x) one (subst (λ (x : Task). IsReadFor config past (x.proc).0 s) same known)

-- each charged page is paged
pub unpaged_uncharged : (config : Config) (past : List Entry) → IsBetween config past → (g : Page) → is_paged config g ≡ false → count_page (pager_after config past).charged g ≡ 0
unpaged_uncharged config past between g file = by (count_page (pager_after config past).charged g) refl
  where
    kept : IsKept config (past_view past) (pager_after config past)
    kept = run_kept config past between.formed between.run

    by : (n : ℕ) → count_page (pager_after config past).charged g ≡ n → count_page (pager_after config past).charged g ≡ 0
    by zero is = is
    by (suc n) is = absurd (true≢false (sym ((kept.pages g).paged (omega (arith, is))) ∙ file))
