-- The machine values of a part and of a region: what is owned tells them, and is made of nothing. Assumes `Logic`.
use Rattle.std.proofs.Common.{ℕ, zero, suc, ◌≡◌, ◌<◌, ◌^◌, List, [], ◌∷◌, ◌++◌, refl, ◌∙◌, w8, w32, w64, lit<}
use seplogic.Ra.Ura.{Ura}
use mir.Val.{Val, vint, vstruct, vcons, vnil, of_list}
use denote.Signature.{Slot, plain}
use prog.Wp.{Env, Calls, Loops, Wp, after_seq, after_block}
use mir.Syntax.{Body, ty_int, ty_ptr, ty_struct, tcons, tnil}
use base.Logic.{SProp, ent, sep, emp}
use contract.Monad.{fact, fact_i}
use types.Kit.{Post, any_q, post, Item, Seq, Step, step, prop, raw, ◌$◌, by, frame, use0}
use denote.Array.{array_vals, Array-Tells}
use denote.Builtin.{u8, unit}
use denote.Plain.{uint_vals, uint_Tells}
use types.Logic.{Logic, sem}
use denote.RattleType.{RattleType}
use denote.Laws.{Is, Tells}
use denote.Opens.{Opens}
use denote.Copied.{Struct-Copied}
use denote.RawPtr.{Ptr, block_ptr, null_ptr, ptr_val}
use denote.Shadow.{makes_shadow}
use denote.Struct.Laws.{RawPtr-copy, u32-copy}
use denote.Struct.Struct.{Struct}
use denote.Struct.Owning.{shape}
use Rattle.std.specs.contracts.marker.PhantomData as marker
use Rattle.core.proofs.cell.Inside.{Good}
use Rattle.page_pool.specs.Region.{Page}
use Rattle.page_pool.specs.contracts.part.Part as part
use Rattle.page_pool.specs.contracts.region.Region as region
use Rattle.page_pool.specs.contracts.spare.Spare as spare

abbrev pub part_val : Ptr → ℕ → Val
part_val p n = vstruct (vcons (ptr_val p) (vcons (vint w32 n) vnil))

abbrev pub region_val : Ptr → ℕ → Val
region_val p n = vstruct (vcons (ptr_val p) (vcons (vint w64 n) vnil))

-- the fields in the code
abbrev pub Part : RattleType
Part = Struct (shape part.the_type)

abbrev pub Region : RattleType
Region = Struct (shape region.the_type)

pub part_told : (p : Ptr) (n : ℕ) (vs : List Val) → Is Part (p, (n, tt)) vs → (vs ≡ part_val p n ∷ []) × (n < 2 ^ 32)
part_told p n vs s = (s.1.0 ∙ (λ i. vstruct (of_list (s.1.1.0 i ++ (s.1.1.1.0.0 i ++ []))) ∷ []), s.1.1.1.0.1)

pub part_made : {M : Type 1} {𝓤 : Ura M} (𝓛 : Logic 𝓤) (p : Ptr) (n : ℕ) → n < 2 ^ 32 → ent 𝓤 (emp 𝓤) (sem 𝓛 (Part.own_val (p, (n, tt)) (part_val p n ∷ [])))
part_made 𝓛 p n f = makes_shadow 𝓛 (Part.own_val (p, (n, tt)) (part_val p n ∷ [])) (λ _. (tt, (tt, ((tt, tt), tt)))) ((ptr_val p ∷ [], (vint w32 n ∷ [], tt)), (refl, (refl, ((refl, f), tt))))

-- a part that isn't written yet has the same fields
abbrev pub Spare : RattleType
Spare = Struct (shape spare.the_type)

pub spare_told : (p : Ptr) (n : ℕ) (vs : List Val) → Is Spare (p, (n, tt)) vs → (vs ≡ part_val p n ∷ []) × (n < 2 ^ 32)
spare_told p n vs s = (s.1.0 ∙ (λ i. vstruct (of_list (s.1.1.0 i ++ (s.1.1.1.0.0 i ++ []))) ∷ []), s.1.1.1.0.1)

pub spare_made : {M : Type 1} {𝓤 : Ura M} (𝓛 : Logic 𝓤) (p : Ptr) (n : ℕ) → n < 2 ^ 32 → ent 𝓤 (emp 𝓤) (sem 𝓛 (Spare.own_val (p, (n, tt)) (part_val p n ∷ [])))
spare_made 𝓛 p n f = makes_shadow 𝓛 (Spare.own_val (p, (n, tt)) (part_val p n ∷ [])) (λ _. (tt, (tt, ((tt, tt), tt)))) ((ptr_val p ∷ [], (vint w32 n ∷ [], tt)), (refl, (refl, ((refl, f), tt))))

pub part_opened : {M : Type 1} {𝓤 : Ura M} (𝓛 : Logic 𝓤) → Opens 𝓛 Part
part_opened {M} {𝓤 = 𝓤} 𝓛 = (Struct-Copied 𝓛 (shape part.the_type) (refl, (refl, tt)) (RawPtr-copy.copied M 𝓤 𝓛, (u32-copy.copied M 𝓤 𝓛, tt))).opens

pub region_told : (p : Ptr) (n : ℕ) (vs : List Val) → Is Region (p, (n, tt)) vs → (vs ≡ region_val p n ∷ []) × (n < 2 ^ 64)
region_told p n vs s = (s.1.0 ∙ (λ i. vstruct (of_list (s.1.1.0 i ++ (s.1.1.1.0.0 i ++ []))) ∷ []), s.1.1.1.0.1)

pub region_made : {M : Type 1} {𝓤 : Ura M} (𝓛 : Logic 𝓤) (p : Ptr) (n : ℕ) → n < 2 ^ 64 → ent 𝓤 (emp 𝓤) (sem 𝓛 (Region.own_val (p, (n, tt)) (region_val p n ∷ [])))
region_made 𝓛 p n f = makes_shadow 𝓛 (Region.own_val (p, (n, tt)) (region_val p n ∷ [])) (λ _. (tt, (tt, ((tt, tt), tt)))) ((ptr_val p ∷ [], (vint w64 n ∷ [], tt)), (refl, (refl, ((refl, f), tt))))

pub part_typed : (p : Ptr) (n : ℕ) → n < 2 ^ 32 → Good (ty_struct [] (tcons ty_ptr (tcons (ty_int w32) tnil))) (part_val p n)
part_typed (block_ptr b o) n f = (tt, (tt, (record { fits = f }, tt)))
part_typed null_ptr n f = (tt, (record { fits = lit< tt }, (record { fits = f }, tt)))

-- the value of 512 bytes
abbrev pub page_vals : List ℕ → List Val
page_vals = array_vals (uint_vals w8)

pub page_tells : Tells Page (Is Page) page_vals
page_tells = Array-Tells u8 (uint_vals w8) (uint_Tells w8) 512

-- a deed has no bytes
abbrev pub deed_val : Val
deed_val = vstruct (vcons (vstruct vnil) vnil)

abbrev pub Mark : RattleType
Mark = Struct record { name = []; args = []; types = []; fields = marker.the_row unit ∷ [] }

pub deed_told : (vs : List Val) → Is Mark (record {}, tt) vs → vs ≡ deed_val ∷ []
deed_told vs is = is.1.0 ∙ (λ i. vstruct (of_list (is.1.1.0.1.0 i ++ [])) ∷ [])

pub deed_made : {M : Type 1} {𝓤 : Ura M} (𝓛 : Logic 𝓤) → ent 𝓤 (emp 𝓤) (sem 𝓛 (Mark.own_val (record {}, tt) (deed_val ∷ [])))
deed_made 𝓛 = makes_shadow 𝓛 (Mark.own_val (record {}, tt) (deed_val ∷ [])) (λ vss. (tt, ((λ uss. (tt, tt)), tt))) ((vstruct vnil ∷ [], tt), (refl, ((tt, (refl, tt)), tt)))

module _ {M : Type 1} {𝓤 : Ura M} {𝓛 : Logic 𝓤} {K : Type 0} {Γ : List (Item 𝓤)} where
  -- a goal's fact is told
  pub tells : K → {φ : Type 0} {P : SProp 𝓤} → φ → Step K 𝓛 Γ (prop P) Γ (prop (sep 𝓤 (fact 𝓤 φ) P))
  tells t {φ} {P} x = step (λ s. use0 𝓛 (raw (fact 𝓤 φ)) (fact_i 𝓤 φ (emp 𝓤) x) $ frame t $ s)

  pub tells_last : K → {φ : Type 0} → φ → Seq K 𝓛 Γ (prop (fact 𝓤 φ))
  tells_last t {φ} x = by t (fact_i 𝓤 φ _ x)

module _ {M : Type 1} {𝓤 : Ura M} (𝓛 : Logic 𝓤) where
  open 𝓛 use {H}

  -- what runs after a part of a body
  abbrev pub then_runs : Calls 𝓤 H → Loops 𝓤 H → Env 𝓤 H → Body → Post 𝓤 H → Post 𝓤 H
  then_runs C Λ E b q = any_q (after_seq 𝓤 H (Wp 𝓤 H C Λ E b (post 𝓤 H q)) (post 𝓤 H q))

  abbrev pub out_of_block : Post 𝓤 H → Post 𝓤 H
  out_of_block q = any_q (after_block 𝓤 H (post 𝓤 H q))

abbrev pub slot_at : {n : ℕ} → ℕ → List (Slot n) → Slot n
slot_at k [] = plain (λ _. unit)
slot_at zero (s ∷ ss) = s
slot_at (suc k) (s ∷ ss) = slot_at k ss
