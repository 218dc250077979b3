-- A fact of each change of a kind, from the fact of its form.
use Rattle.std.proofs.Common.{◌≡◌, ℕ, sym, subst}
use Rattle.vm_types.specs.declared.names.Addr.{Addr}
use Rattle.vm_types.specs.declared.names.BlockId.{BlockId}
use Rattle.vm_types.specs.declared.names.FrameState.{FrameState}
use Rattle.vm_types.specs.declared.names.Page.{Page}
use Rattle.vm_types.specs.declared.names.Pfn.{Pfn}
use Rattle.vm_types.specs.declared.names.Proc.{Proc}
use Rattle.vm_types.specs.declared.names.ProcStatus.{ProcStatus}
use Rattle.vm_types.specs.declared.reference.Ref.{Ref}
use Rattle.vm_types.specs.declared.reply.Answer.{Answer}
use Rattle.vm_types.specs.declared.reply.Reply.{Reply}
use Rattle.vm_types.specs.declared.reply.Why.{Why}
use Rattle.vm_types.specs.declared.service.Service.{Service}
use Rattle.vm_journal.specs.declared.entry.EvictWhy.{EvictWhy}
use Rattle.vm_journal.specs.declared.entry.Kind.{Kind}
use Rattle.vm_journal.specs.declared.entry.Kind.TheVariants as kind
use Rattle.vm_journal.specs.declared.entry.Role.{Role}
use Rattle.vm_journal.specs.declared.entry.What.{What}
use Rattle.vm_journal.specs.declared.entry.What.TheVariants as what
use Rattle.vm_journal.specs.Line.{kind_of}

-- the fact of each change of this form
abbrev pub Form : Kind → (What → Type 0) → Type 0
Form kind.Done P = (r : Ref) (reply : Reply) → P (what.Done r reply)
Form kind.Denied P = (r : Ref) (why : Why) → P (what.Denied r why)
Form kind.Served P = (s : Service) (answer : Answer) → P (what.Served s answer)
Form kind.Reuse P = (f : Pfn) (page : Page) → P (what.Reuse f page)
Form kind.Zero P = (a : Addr) (f : Pfn) → P (what.Zero a f)
Form kind.Back P = (p : Proc) (a : Addr) (f : Pfn) (from : FrameState) → P (what.Back p a f from)
Form kind.Collide P = (a : Addr) (f : Pfn) (k : ℕ) → P (what.Collide a f k)
Form kind.In P = (f : Pfn) (block : BlockId) (role : Role) → P (what.In f block role)
Form kind.InOk P = (f : Pfn) (k : ℕ) → P (what.InOk f k)
Form kind.InFail P = (f : Pfn) (k : ℕ) (c : ℕ) (d : ℕ) → P (what.InFail f k c d)
Form kind.Out P = (f : Pfn) (block : BlockId) → P (what.Out f block)
Form kind.OutOk P = (f : Pfn) (k : ℕ) → P (what.OutOk f k)
Form kind.OutFail P = (f : Pfn) (k : ℕ) (c : ℕ) (d : ℕ) → P (what.OutFail f k c d)
Form kind.Evict P = (p : Proc) (a : Addr) (f : Pfn) (why : EvictWhy) (to : FrameState) → P (what.Evict p a f why to)
Form kind.Limit P = (n : ℕ) (faults : ℕ) → P (what.Limit n faults)
Form kind.Turn P = (p : Proc) (status : ProcStatus) → P (what.Turn p status)

by_form : (P : What → Type 0) (w : What) → Form (kind_of w) P → P w
by_form P (what.Done r reply) h = h r reply
by_form P (what.Denied r why) h = h r why
by_form P (what.Served s answer) h = h s answer
by_form P (what.Reuse f page) h = h f page
by_form P (what.Zero a f) h = h a f
by_form P (what.Back p a f from) h = h p a f from
by_form P (what.Collide a f k) h = h a f k
by_form P (what.In f block role) h = h f block role
by_form P (what.InOk f k) h = h f k
by_form P (what.InFail f k c d) h = h f k c d
by_form P (what.Out f block) h = h f block
by_form P (what.OutOk f k) h = h f k
by_form P (what.OutFail f k c d) h = h f k c d
by_form P (what.Evict p a f why to) h = h p a f why to
by_form P (what.Limit n faults) h = h n faults
by_form P (what.Turn p status) h = h p status

pub of_kind : (P : What → Type 0) (k : Kind) → Form k P → (w : What) → kind_of w ≡ k → P w
of_kind P k h w e = by_form P w (subst (λ k. Form k P) (sym e) h)
