-- The words for services, their answers and protection codes. Source: the names of protection codes
-- by the VAX Architecture Reference Manual; the rest is this project's own.
use Rattle.std.specs.Prelude.{ℕ, ◌^◌, ◌<◌, List, [], ◌∷◌, slice_index_or, codes, decimal}
use Rattle.vm_types.specs.declared.service.Service.{Service}
use Rattle.vm_types.specs.declared.service.Service.TheVariants.{Create, Delete, Protect, Lock, Unlock, Purge, Adjust, Pin, Unpin}
use Rattle.vm_types.specs.declared.reply.Answer.{Answer}
use Rattle.vm_types.specs.declared.reply.Answer.TheVariants as answer
use Rattle.vm_text.specs.Names.{address_text}

-- the names of the protection codes, by code; the reserved code 1 has none
abbrev pub protection_names : List (List ℕ)
protection_names =
    codes "NA" ∷ [] ∷ codes "KW" ∷ codes "KR" ∷ codes "UW" ∷ codes "EW" ∷ codes "ERKW" ∷ codes "ER" ∷
    codes "SW" ∷ codes "SREW" ∷ codes "SRKW" ∷ codes "SR" ∷ codes "URSW" ∷ codes "UREW" ∷ codes "URKW" ∷ codes "UR" ∷ []

abbrev pub protection_name : ℕ → List ℕ
protection_name code = slice_index_or protection_names code []

abbrev pub service_name : Service → List ℕ
service_name (Create at pages prot) = codes "CRETVA"
service_name (Delete at pages) = codes "DELTVA"
service_name (Protect at pages prot) = codes "SETPRT"
service_name (Lock at pages) = codes "LKWSET"
service_name (Unlock at pages) = codes "ULWSET"
service_name (Purge at pages) = codes "PURGWS"
service_name (Pin at pages) = codes "LCKPAG"
service_name (Unpin at pages) = codes "ULKPAG"
service_name (Adjust limit) = codes "ADJWSL"

-- a range: its first address and its pages
abbrev pub range_words : ℕ → ℕ → List (List ℕ)
range_words at pages = address_text at ∷ decimal pages ∷ []

-- what a service is asked for
abbrev pub operands : Service → List (List ℕ)
operands (Create at pages prot) = address_text at.0 ∷ decimal pages ∷ protection_name prot ∷ []
operands (Delete at pages) = range_words at.0 pages
operands (Protect at pages prot) = address_text at.0 ∷ decimal pages ∷ protection_name prot ∷ []
operands (Lock at pages) = range_words at.0 pages
operands (Unlock at pages) = range_words at.0 pages
operands (Purge at pages) = range_words at.0 pages
operands (Pin at pages) = range_words at.0 pages
operands (Unpin at pages) = range_words at.0 pages
operands (Adjust limit) = decimal limit ∷ []

abbrev pub service_words : Service → List (List ℕ)
service_words s = service_name s ∷ operands s

-- a count fits a number of 32 bits
abbrev pub HasAnswerWords : Answer → Type 0
HasAnswerWords answer.Good = Unit {0}
HasAnswerWords (answer.Count n) = n < 2 ^ 32
HasAnswerWords answer.InUse = Unit {0}
HasAnswerWords answer.Unmapped = Unit {0}
HasAnswerWords answer.LockLimit = Unit {0}
HasAnswerWords answer.BadLimit = Unit {0}
HasAnswerWords answer.DiskFault = Unit {0}

abbrev pub answer_words : Answer → List (List ℕ)
answer_words answer.Good = codes "OK" ∷ []
answer_words (answer.Count n) = codes "OK" ∷ decimal n ∷ []
answer_words answer.InUse = codes "INUSE" ∷ []
answer_words answer.Unmapped = codes "UNMAPPED" ∷ []
answer_words answer.LockLimit = codes "LOCKLIMIT" ∷ []
answer_words answer.BadLimit = codes "BADLIMIT" ∷ []
answer_words answer.DiskFault = codes "DISKFAULT" ∷ []
