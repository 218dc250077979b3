-- When a ring gives up a page. Source: Kenah and Bate, "VAX/VMS Internals and Data Structures", working
-- set replacement.
use Rattle.std.specs.Prelude.{◌≡◌, ℕ}
use Rattle.vm_types.specs.Ring.{Ring, choose}
use Rattle.vm_types.specs.declared.ring_choice.Choice.TheVariants.{Victim}
use Rattle.vm_journal.specs.declared.entry.EvictWhy.{EvictWhy}
use Rattle.vm_journal.specs.declared.entry.EvictWhy.TheVariants as evict
use Rattle.pager_model.specs.Evict.{victim_of}
use Rattle.pager_model.specs.Lookups.{slot_with}

-- if the page is replaced, the ring offers a victim at the limit
abbrev pub HasVictim : EvictWhy → Ring → ℕ → Type 0
HasVictim why ring limit = why ≡ evict.Replace → (slot : ℕ) × (choose ring limit ≡ Victim slot)

-- the slot of the page that the ring gives up
abbrev pub slot_given : EvictWhy → Ring → ℕ → ℕ → ℕ
slot_given evict.Replace ring limit vpn = victim_of (choose ring limit)
slot_given evict.Purge ring limit vpn = slot_with ring vpn
slot_given evict.Delete ring limit vpn = slot_with ring vpn
slot_given evict.Leave ring limit vpn = slot_with ring vpn
slot_given evict.Rundown ring limit vpn = slot_with ring vpn
