-- How many bytes the words of a line have at most.
use Rattle.std.proofs.Common.{ℕ, ◌+◌, ◌*◌, ◌^◌, ◌<◌, ◌≤◌, Bool, true, false, List, [], ◌∷◌, ◌++◌, Option, length, refl, sym, subst, arith, length-append, lit<, lit≤}
use Rattle.std.specs.Prelude.{codes, decimal}
use Rattle.std.proofs.lemmas.Fmt.{length-decimal-le}
use Rattle.vm_types.specs.declared.limits.TheConstants.{PAGE_BYTES}
use Rattle.vm_types.specs.declared.config.Section.{Section}
use Rattle.vm_types.specs.declared.names.BlockId.{BlockId}
use Rattle.vm_types.specs.declared.names.BlockId.TheVariants as block
use Rattle.vm_types.specs.declared.names.FrameState.{FrameState}
use Rattle.vm_types.specs.declared.names.FrameState.TheVariants as state
use Rattle.vm_types.specs.declared.names.Page.{Page}
use Rattle.vm_types.specs.declared.names.Page.TheVariants.{Private, Shared}
use Rattle.vm_types.specs.declared.names.ProcStatus.{ProcStatus}
use Rattle.vm_types.specs.declared.names.ProcStatus.TheVariants as status
use Rattle.vm_text.specs.Hex.{hex}
use Rattle.vm_text.specs.Named.{AreNames, IsNamedBlock, IsNamedPage}
use Rattle.vm_text.specs.Names.{address_text, block_text, name_of, page_text, place_text, section_name, section_page_text}
use Rattle.vm_text.specs.States.{mark_text, state_word, status_word}
use Rattle.vm_text.proofs.Decimals.{few_bytes}
use Rattle.vm_text.proofs.HexLemmas.{length-hex}
use Rattle.vm_text.proofs.Printable.{section_named}

pub record AtMost (n : ℕ) (text : List ℕ) : Type 0 where
  pub is : length text ≤ n

-- this, and a text behind it
pub both : {m n : ℕ} {xs ys : List ℕ} → AtMost m xs → AtMost n ys → AtMost (m + n) (xs ++ ys)
both {m} {n} {xs} {ys} first second = record { is = omega (arith, length-append xs ys, first.is, second.is) }

pub within : {m : ℕ} {xs : List ℕ} (n : ℕ) → m ≤ n → AtMost m xs → AtMost n xs
within n less most = record { is = omega (arith, less, most.is) }

pub number_most : (n : ℕ) → n < 2 ^ 64 → AtMost 20 (decimal n)
number_most n small = record { is = few_bytes (decimal n) n small refl }

pub small_most : (n : ℕ) → n < 2 ^ 32 → AtMost 10 (decimal n)
small_most n small = record { is = length-decimal-le 10 n (lit< tt) (omega (arith, small, lit≤ {m = 2 ^ 32} {n = 10 ^ 10} tt)) (omega (arith, small)) }

pub address_most : (a : ℕ) → AtMost 8 (address_text a)
address_most a = record { is = omega (arith, length-hex 8 a) }

pub hex_most : (places value : ℕ) → AtMost places (hex places value)
hex_most places value = record { is = omega (arith, length-hex places value) }

pub state_most : (s : FrameState) → AtMost 9 (state_word s)
state_most state.Free = record { is = omega arith }
state_most state.Modified = record { is = omega arith }
state_most state.Bad = record { is = omega arith }
state_most state.ReleasePending = record { is = omega arith }
state_most state.ReadError = record { is = omega arith }
state_most state.Writing = record { is = omega arith }
state_most state.Reading = record { is = omega arith }
state_most state.Active = record { is = omega arith }

pub status_most : (s : ProcStatus) → AtMost 8 (status_word s)
status_most status.Resident = record { is = omega arith }
status_most status.Leaving = record { is = omega arith }
status_most status.Gone = record { is = omega arith }
status_most status.Coming = record { is = omega arith }

pub mark_most : (b : Bool) → AtMost 1 (mark_text b)
mark_most true = record { is = omega arith }
mark_most false = record { is = omega arith }

pub place_most : (p a : ℕ) → AtMost 10 (place_text p a)
place_most p a = both {m = 1} {xs = (65 + p) ∷ []} (record { is = omega arith }) (both {m = 1} {xs = codes "/"} (record { is = omega arith }) (address_most a))

module _ (procs : ℕ) (names : List Section) (are : AreNames procs names) where
  section_most : (s : ℕ) → s < length names → AtMost 15 (section_name names s)
  section_most s there =
      let found = section_named procs names s are there in
      record { is = subst (λ (o : Option Section). length (name_of o) ≤ 15) (sym found.1) found.2.length.1 }

  section_page_most : (s i : ℕ) → s < length names → i < 2 ^ 32 → AtMost 26 (section_page_text names s i)
  section_page_most s i there small =
      both (section_most s there) (both {m = 1} {xs = codes "/"} (record { is = omega arith }) (small_most i small))

  pub page_most : (page : Page) → IsNamedPage procs names page → AtMost 26 (page_text names page)
  page_most (Private p v) named = within 26 (omega arith) (place_most p.0 (PAGE_BYTES * v))
  page_most (Shared s i) named = section_page_most s.0 i named.0.there named.1

  pub block_most : (b : BlockId) → IsNamedBlock procs names b → AtMost 28 (block_text names b)
  block_most (block.Section s i) named = both {m = 2} {xs = codes "S:"} (record { is = omega arith }) (section_page_most s.0 i named.0.there named.1)
  block_most (block.PageFile b) named = within 28 (omega arith) (both {m = 2} {xs = codes "P:"} (record { is = omega arith }) (small_most b named))
  block_most (block.Swap p n) named =
      within 28 (omega arith) (both {m = 2} {xs = codes "X:"} (record { is = omega arith })
      (both {m = 1} {xs = (65 + p.0) ∷ []} (record { is = omega arith }) (both {m = 1} {xs = codes "/"} (record { is = omega arith }) (small_most n named.1))))
