use Rattle.std.proofs.Common.{◌≡◌, ℕ, map, take}
use Rattle.dump_laws.specs.DumpAfter.{entry_word}
use Rattle.vm_state.specs.History.{pager}
use Rattle.state_dump.proofs.pages.entry_words.Given as goal

abbrev pub invariant-loop-vpn : goal.invariant-loop-vpn
invariant-loop-vpn g l = l.words.items ≡ map (λ (v : ℕ). (v, entry_word (pager l.state) (l.p).0 v)) (take l.vpn-index l.vpn-items)
