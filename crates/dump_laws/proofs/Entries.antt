-- The valid entries of a pager that was kept: each is found at its page, has a word with its frame, and a slot.
use Rattle.std.proofs.Common.{◌≡◌, inl, inr, ℕ, ◌+◌, ◌^◌, ◌<◌, ◌≤◌, Bool, true, false, cond, ◌&&◌, List, [], ◌∷◌, Option, Some, None, count_by, filter, length, map, nat_eq, refl, sym, ap, ◌∙◌, subst, arith}
use Rattle.std.specs.List.{AllByRecursion}
use Rattle.std.proofs.lemmas.Bool.{and_parts, and_from, eqb-true}
use Rattle.vm_types.specs.declared.limits.TheConstants.{MOST_FRAMES}
use Rattle.vm_types.specs.Ring.{Held}
use Rattle.vm_types.specs.declared.config.Config.{Config}
use Rattle.pte_forms.specs.Word.{word_of}
use Rattle.pte_forms.specs.declared.pte.Pte.{Pte}
use Rattle.pte_forms.specs.declared.pte.Place.TheVariants as place
use Rattle.pager_model.specs.Around.{PastView}
use Rattle.pager_model.specs.Maps.{pfn, Mapped}
use Rattle.pager_model.specs.Lookups.{entries_at, entry_of, has_vpn, is_entry, page_by}
use Rattle.pager_model.specs.OfConfig.{IsMappable, IsMappedRight, IsOfConfig}
use Rattle.pager_model.specs.Pager.{Pager, Valid}
use Rattle.pager_rules.proofs.Basics.{count_cons, count_cons_no, nat_eq_refl}
use Rattle.pager_rules.proofs.Lists.{all_found, all_step, found_one, found_passes}
use Rattle.pager_rules.specs.Kept.{IsForItsPage, IsKept}
use Rattle.pager_laws.proofs.EntryPages.{mapped_right}
use Rattle.pager_laws.proofs.Holders.{holds_within}
use Rattle.dump_bytes.specs.Bounds.{IsValidEntry}
use Rattle.dump_lines.specs.WordFrame as bits
use Rattle.dump_laws.specs.DumpAfter.{entry_word, pages_of, word_by}
use Rattle.dump_laws.proofs.Numbers.{count_filter, count_map, times}

-- ---- the word of a valid entry
-- the entry with this protection, mark and frame
abbrev valid_pte : ℕ → Bool → ℕ → Pte
valid_pte prot modify frame = record { prot = prot; place = place.Valid modify (pfn frame) }

frame_bits : (prot frame : ℕ) (modify : Bool) → frame < 2 ^ 21 → bits.frame_of (word_of (valid_pte prot modify frame)) ≡ frame
frame_bits prot frame true small = omega (arith, small)
frame_bits prot frame false small = omega (arith, small)

-- what is right of an entry: a page number and a process of the configuration, a word with its frame, and where it is found
pub record IsShown (config : Config) (a : Pager) (e : Valid) : Type 0 where
  pub process : e.proc < length config.procs
  pub frame : bits.frame_of (entry_word a e.proc e.vpn) ≡ e.frame
  pub entry : IsValidEntry config.frames (e.vpn, entry_word a e.proc e.vpn)

below_all : (v : ℕ) → IsMappable v → v < 2 ^ 22
below_all v (inl low) = omega (arith, low)
below_all v (inr high) = high.1

module _ (config : Config) (o : PastView) (a : Pager) (kept : IsKept config o a) (right : IsOfConfig config a) (few : config.frames ≤ MOST_FRAMES) where
  -- two entries of one page are for one frame
  one_frame : (e x : Valid) → x.proc ≡ e.proc → x.vpn ≡ e.vpn → IsForItsPage config a.map a.page e → IsForItsPage config a.map a.page x → x.frame ≡ e.frame
  one_frame e x proc vpn its other =
      let there : page_by config a.map x.proc x.vpn ≡ page_by config a.map e.proc e.vpn = ap (λ (p : ℕ). page_by config a.map p x.vpn) proc ∙ ap (page_by config a.map e.proc) vpn in
      let same : Some other.0 ≡ Some its.0 = sym other.1 ∙ there ∙ its.1 in
      kept.held_once x.frame e.frame other.0 other.2 (its.2 ∙ sym same)

  module _ (e : Valid) (its : IsForItsPage config a.map a.page e) (found : (x : Valid) × (entry_of a.valid e.proc e.vpn ≡ Some x)) where
    passes : (nat_eq found.0.proc e.proc ≡ true) × (nat_eq found.0.vpn e.vpn ≡ true)
    passes = and_parts (nat_eq found.0.proc e.proc) (nat_eq found.0.vpn e.vpn) (found_passes (is_entry e.proc e.vpn) a.valid found.0 found.1)

    same_frame : found.0.frame ≡ e.frame
    same_frame =
        one_frame e found.0 (eqb-true found.0.proc e.proc passes.0) (eqb-true found.0.vpn e.vpn passes.1) its
        (all_found (IsForItsPage config a.map a.page) (is_entry e.proc e.vpn) a.valid found.0 kept.valid found.1)

    mapping : (m : Mapped) × (a.map e.proc e.vpn ≡ Some m) × IsMappedRight config e.proc e.vpn m
    mapping = let m = mapped_right config a e.proc e.vpn its.0 right its.1 in (m.0, m.1, m.3)

    word_is : entry_word a e.proc e.vpn ≡ word_of (valid_pte mapping.0.prot (a.modify found.0.frame) found.0.frame)
    word_is = ap (λ (x : Option Valid). word_by a.modify x (a.map e.proc e.vpn)) found.1 ∙ ap (word_by a.modify (Some found.0)) mapping.1

    within : found.0.frame < config.frames
    within = subst (λ (f : ℕ). f < config.frames) (sym same_frame) (holds_within config o a e.frame its.0 kept its.2)

    shown : IsShown config a e
    shown =
        let small : found.0.frame < 2 ^ 21 = omega (arith, within, few) in
        record {
          process = mapping.2.process;
          frame = ap bits.frame_of word_is ∙ frame_bits mapping.0.prot found.0.frame (a.modify found.0.frame) small ∙ same_frame;
          entry = record {
            vpn = below_all e.vpn mapping.2.page;
            word = record {
              pte = valid_pte mapping.0.prot (a.modify found.0.frame) found.0.frame;
              is_pte = record { code = mapping.2.code; number = small };
              word_is = sym word_is;
              modify = a.modify found.0.frame;
              frame = found.0.frame;
              below = within;
              place = refl;
            };
          };
        }

  pub all_shown : AllByRecursion (IsShown config a) a.valid
  all_shown =
      all_step (IsForItsPage config a.map a.page) (IsShown config a) a.valid
      (λ e among its. shown e its (found_one (is_entry e.proc e.vpn) a.valid (among (is_entry e.proc e.vpn) (and_from (nat_eq e.proc e.proc) (nat_eq e.vpn e.vpn) (nat_eq_refl e.proc) (nat_eq_refl e.vpn)))))
      kept.valid

-- ---- the entries of one process
abbrev pub is_own : ℕ → Valid → Bool
is_own p e = nat_eq e.proc p

-- its pages have words
pub own_entries : (config : Config) (a : Pager) (p : ℕ) (valid : List Valid) → AllByRecursion (IsShown config a) valid
    → AllByRecursion (λ (v : ℕ). IsValidEntry config.frames (v, entry_word a p v)) (pages_of valid p)
own_entries config a p [] all = tt
own_entries config a p (e ∷ valid) all = go (is_own p e) refl (own_entries config a p valid all.1)
  where
    go : (b : Bool) → is_own p e ≡ b → AllByRecursion (λ (v : ℕ). IsValidEntry config.frames (v, entry_word a p v)) (pages_of valid p)
        → AllByRecursion (λ (v : ℕ). IsValidEntry config.frames (v, entry_word a p v)) (map (λ (x : Valid). x.vpn) (cond b (e ∷ filter (is_own p) valid) (filter (is_own p) valid)))
    go true is rest = (subst (λ (q : ℕ). IsValidEntry config.frames (e.vpn, entry_word a q e.vpn)) (eqb-true e.proc p is) (all.0).entry, rest)
    go false is rest = rest

-- how many of them have a word for a frame
abbrev pub is_share : ℕ → Valid → Bool
is_share f e = nat_eq e.frame f

pub own_shares : (config : Config) (a : Pager) (p f : ℕ) (valid : List Valid) → AllByRecursion (IsShown config a) valid
    → count_by (λ (v : ℕ). nat_eq (bits.frame_of (entry_word a p v)) f) (pages_of valid p) ≡ count_by (λ (e : Valid). is_own p e && is_share f e) valid
own_shares config a p f valid all =
    count_map (λ (e : Valid). e.vpn) (λ (v : ℕ). nat_eq (bits.frame_of (entry_word a p v)) f) (filter (is_own p) valid)
    ∙ count_filter (λ (e : Valid). nat_eq (bits.frame_of (entry_word a p e.vpn)) f) (is_own p) valid
    ∙ same valid all
  where
    one : (e : Valid) (b : Bool) → is_own p e ≡ b → IsShown config a e → (b && nat_eq (bits.frame_of (entry_word a p e.vpn)) f) ≡ (b && is_share f e)
    one e true is has = ap (λ (q : ℕ). nat_eq (bits.frame_of (entry_word a q e.vpn)) f) (sym (eqb-true e.proc p is)) ∙ ap (λ (g : ℕ). nat_eq g f) has.frame
    one e false is has = refl

    same : (xs : List Valid) → AllByRecursion (IsShown config a) xs
        → count_by (λ (e : Valid). is_own p e && nat_eq (bits.frame_of (entry_word a p e.vpn)) f) xs ≡ count_by (λ (e : Valid). is_own p e && is_share f e) xs
    same [] all = refl
    same (e ∷ xs) all =
        let left = count_cons (λ (x : Valid). is_own p x && nat_eq (bits.frame_of (entry_word a p x.vpn)) f) e xs in
        let right = count_cons (λ (x : Valid). is_own p x && is_share f x) e xs in
        let here = ap (λ (b : Bool). cond b 1 0) (one e (is_own p e) refl all.0) in
        let rest = same xs all.1 in
        left ∙ ap (λ (k : ℕ). k + count_by (λ (x : Valid). is_own p x && nat_eq (bits.frame_of (entry_word a p x.vpn)) f) xs) here
        ∙ ap (λ (k : ℕ). cond (is_own p e && is_share f e) 1 0 + k) rest ∙ sym right

-- a page stands among them as often as it has entries
pub own_times : (p v : ℕ) (valid : List Valid) → times v (pages_of valid p) ≡ entries_at valid p v
own_times p v valid = count_map (λ (e : Valid). e.vpn) (λ (n : ℕ). nat_eq n v) (filter (is_own p) valid) ∙ count_filter (λ (e : Valid). nat_eq e.vpn v) (is_own p) valid

-- ---- the pages of filled slots
abbrev pub pages_in : List (Option Held) → List ℕ
pages_in [] = []
pages_in (None ∷ slots) = pages_in slots
pages_in (Some held ∷ slots) = held.vpn ∷ pages_in slots

pub slot_times : (v : ℕ) (slots : List (Option Held)) → times v (pages_in slots) ≡ count_by (has_vpn v) slots
slot_times v [] = refl
slot_times v (None ∷ slots) = slot_times v slots ∙ sym (count_cons_no (has_vpn v) None slots refl)
slot_times v (Some held ∷ slots) =
    let left = count_cons (λ (n : ℕ). nat_eq n v) held.vpn (pages_in slots) in
    let right = count_cons (has_vpn v) (Some held) slots in
    let rest = slot_times v slots in
    omega (arith, left, right, rest)

pub pages_few : (slots : List (Option Held)) → length (pages_in slots) ≤ length slots
pages_few [] = omega arith
pages_few (None ∷ slots) = let rest = pages_few slots in omega (arith, rest)
pages_few (Some held ∷ slots) = let rest = pages_few slots in omega (arith, rest)

-- they are those of the valid entries
pub same_pages : (config : Config) (o : PastView) (a : Pager) → IsKept config o a → (p v : ℕ) → times v (pages_in (a.ring p).slots) ≡ times v (pages_of a.valid p)
same_pages config o a kept p v = slot_times v (a.ring p).slots ∙ (kept.entries p v).slots ∙ sym (own_times p v a.valid)

pub pages_once : (config : Config) (o : PastView) (a : Pager) → IsKept config o a → (p v : ℕ) → times v (pages_of a.valid p) ≤ 1
pages_once config o a kept p v = let at = own_times p v a.valid in let once = (kept.entries p v).once in omega (arith, at, once)
