-- The bounds, codes and orders of a dump. A dump within them need not be of a sound state. Source:
-- this project's own.
use Rattle.std.specs.Prelude.{◌≡◌, ℕ, ◌^◌, ◌<◌, ◌≤◌, Bool, false, List, [], ◌∷◌, length, map, Option, Some, None}
use Rattle.std.specs.List.{AllByRecursion}
use Rattle.vm_types.specs.declared.limits.TheConstants.{MOST_EXTENT, MOST_FRAMES, MOST_PROCESSES, MOST_SECTIONS, MOST_SECTION_PAGES}
use Rattle.vm_types.specs.declared.names.Page.{Page}
use Rattle.vm_types.specs.declared.names.Page.TheVariants.{Private, Shared}
use Rattle.pte_forms.specs.Word.{IsPte, word_of}
use Rattle.pte_forms.specs.declared.pte.Pte.{Pte}
use Rattle.pte_forms.specs.declared.pte.Place.TheVariants.{Valid}
use Rattle.dump_bytes.specs.declared.dump.FrameRec.{FrameRec}
use Rattle.dump_bytes.specs.declared.dump.SlotRec.{SlotRec}
use Rattle.dump_bytes.specs.Dumped.{Process, Dumped}

-- a private page of one of the processes, or a page of one of as many sections as a trace may have
abbrev pub IsDumpedPage : ℕ → Option Page → Type 0
IsDumpedPage procs None = Unit {0}
IsDumpedPage procs (Some (Private owner vpn)) = (owner.0 < procs) × (vpn < 2 ^ 22)
IsDumpedPage procs (Some (Shared section page)) = (section.0 < MOST_SECTIONS) × (page < MOST_SECTION_PAGES)

pub record IsFrame (procs : ℕ) (f : FrameRec) : Type 0 where
  pub state : f.state < 8
  pub page : IsDumpedPage procs f.page
  pub refs : f.refs < 2 ^ 32
  pub shares : f.shares < 2 ^ 32

-- an empty slot has no marks and page number 0
pub record IsSlot (s : SlotRec) : Type 0 where
  pub vpn : s.vpn < 2 ^ 22
  pub empty : s.filled ≡ false → (s.locked ≡ false) × (s.pinned ≡ false) × (s.vpn ≡ 0)

-- the word of a valid entry with a frame below the frames
pub record IsValidWord (frames word : ℕ) : Type 0 where
  pub pte : Pte
  pub is_pte : IsPte pte
  pub word_is : word_of pte ≡ word
  pub modify : Bool
  pub frame : ℕ
  pub below : frame < frames
  pub place : pte.place ≡ Valid modify (record { 0 = frame })

pub record IsValidEntry (frames : ℕ) (w : ℕ × ℕ) : Type 0 where
  pub vpn : w.0 < 2 ^ 22
  pub word : IsValidWord frames w.1

-- each number is above the ones before it
abbrev pub Ascends : List ℕ → Type 0
Ascends [] = Unit {0}
Ascends (n ∷ numbers) = AllByRecursion (λ m. n < m) numbers × Ascends numbers

pub record IsProcess (frames : ℕ) (p : Process) : Type 0 where
  pub status : p.status < 4
  pub few_slots : (1 ≤ length p.slots) × (length p.slots ≤ MOST_EXTENT)
  pub hand : p.hand < length p.slots
  pub limit : p.limit < 2 ^ 32
  pub slots : AllByRecursion IsSlot p.slots
  pub few_words : length p.words ≤ length p.slots
  pub words : AllByRecursion (IsValidEntry frames) p.words
  pub ascends : Ascends (map (λ w. w.0) p.words)

-- a list of at most so many frames
pub record AreFrames (frames : ℕ) (numbers : List ℕ) : Type 0 where
  pub few : length numbers ≤ frames
  pub each : AllByRecursion (λ n. n < frames) numbers

pub record IsDump (d : Dumped) : Type 0 where
  pub frames : (8 ≤ length d.frames) × (length d.frames ≤ MOST_FRAMES)
  pub procs : (1 ≤ length d.procs) × (length d.procs ≤ MOST_PROCESSES)
  pub size : d.size < 2 ^ 32
  pub charged : d.charged < 2 ^ 32
  pub assigned : d.assigned < 2 ^ 32
  pub each_frame : AllByRecursion (IsFrame (length d.procs)) d.frames
  pub free : AreFrames (length d.frames) d.free
  pub modified : AreFrames (length d.frames) d.modified
  pub each_process : AllByRecursion (IsProcess (length d.frames)) d.procs
  pub flights : AreFrames (length d.frames) d.flights
  pub ascends : Ascends d.flights
