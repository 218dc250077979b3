-- An answered reference is one that the flat machine doesn't refuse.
use Rattle.std.proofs.Common.{◌≡◌, ℕ, Bool, true, false, cond, not, List, Option, Some, None, length, nat_eq, refl, sym, ap, ap₂, ◌∙◌, arith}
use Rattle.std.proofs.lemmas.Bool.{and_parts, eqb-true, false_from_ne_true, not-true}
use Rattle.std.proofs.lemmas.Option.{same_Some}
use Rattle.vm_types.specs.declared.names.Page.{Page}
use Rattle.vm_types.specs.declared.config.Config.{Config}
use Rattle.vm_types.specs.declared.reference.Ref.{Ref}
use Rattle.vm_types.specs.declared.reply.Why.TheVariants as why
use Rattle.vm_journal.specs.declared.entry.Entry.{Entry}
use Rattle.pager_model.specs.Done.{Allows, IsDone}
use Rattle.pager_model.specs.Flat.{FlatState, flat_refusal, is_page_file_full, is_untouched, refusal_at}
use Rattle.pager_model.specs.Lookups.{page_at}
use Rattle.pager_model.specs.Maps.{Map, Mapped, is_paged, page_behind, page_number}
use Rattle.pager_model.specs.Pager.{Pager, Valid}
use Rattle.pager_model.specs.Sets.{has_page}
use Rattle.pager_model.specs.Sound.{IsSound}
use Rattle.pager_rules.proofs.TouchedPages.{shorter_list}

refusal_none : (config : Config) (flat : FlatState) (p : ℕ) (r : Ref) (o : Option Mapped) → Allows o r → ((page : Page) → page_at config p (page_number (r.addr).0) o ≡ Some page → is_page_file_full config flat page ≡ false) → refusal_at config flat p r o ≡ None
refusal_none config flat p r None allows room = absurd allows
refusal_none config flat p r (Some m) allows room =
    ap₂ (λ (allowed full : Bool). cond (not allowed) (Some why.Protected) (cond full (Some why.PageFileFull) None))
    allows (room (page_behind config p (page_number (r.addr).0) m.origin) refl)

-- the page file has room for a charged page: an untouched one leaves fewer touched than charged
room_for_charged : (config : Config) (past : List Entry) (a : Pager) (flat : FlatState) (page : Page) → IsSound config past a → a.touched ≡ flat.touched → (is_paged config page ≡ true → has_page a.charged page ≡ true) → is_page_file_full config flat page ≡ false
room_for_charged config past a flat page sound same charged = false_from_ne_true (is_page_file_full config flat page) (λ full.
    let parts = and_parts (is_untouched config flat page) (nat_eq (length flat.touched) config.pagefile) full in
    let untouched = and_parts (is_paged config page) (not (has_page flat.touched page)) parts.0 in
    let out : has_page a.touched page ≡ false = ap (λ (x : List Page). has_page x page) same ∙ not-true (has_page flat.touched page) untouched.1 in
    let fewer = shorter_list a.touched a.charged page sound.charges.touched_once sound.charges.touched out (charged untouched.0) in
    let all : length flat.touched ≡ config.pagefile = eqb-true (length flat.touched) config.pagefile parts.1 in
    let alike : length a.touched ≡ length flat.touched = ap length same in
    let fit = sound.charges.fit in
    omega arith)

pub done_unrefused : (config : Config) (past : List Entry) (a : Pager) (flat : FlatState) (p : ℕ) (r : Ref) → IsSound config past a → IsDone config a p r → a.map ≡ flat.map → a.touched ≡ flat.touched → flat_refusal config flat p r ≡ None
done_unrefused config past a flat p r sound done same_map same_touched =
    let v : ℕ = page_number (r.addr).0 in
    let e : Valid = done.valid.0 in
    let there = sound.entries.holds p v e done.valid.1 in
    ap (λ (map : Map). refusal_at config flat p r (map p v)) (sym same_map)
    ∙ refusal_none config flat p r (a.map p v) done.allowed (λ page is.
    let same : there.0 ≡ page = same_Some there.0 page (sym there.1 ∙ is) in
    room_for_charged config past a flat page sound same_touched
    (λ paged. sound.contents.held page e.frame paged (there.2 ∙ ap Some same)))
