-- A row of the model's legal steps under another body. But for the evictions of the rundown none reads it.
use Rattle.std.proofs.Common.{◌≡◌, ◌⊎◌, ℕ, Bool, true, false, List, Some, inl, inr}
use Rattle.vm_types.specs.declared.config.Config.{Config}
use Rattle.vm_types.specs.declared.config.Task.{Task}
use Rattle.vm_types.specs.declared.names.BlockId.{BlockId}
use Rattle.vm_types.specs.declared.names.Page.{Page}
use Rattle.vm_types.specs.declared.names.FrameState.{FrameState}
use Rattle.vm_types.specs.declared.reference.Ref.{Ref}
use Rattle.vm_types.specs.declared.reply.Answer.{Answer}
use Rattle.vm_types.specs.declared.reply.Answer.TheVariants as answer
use Rattle.vm_types.specs.declared.reply.Why.{Why}
use Rattle.vm_types.specs.declared.service.Service.{Service}
use Rattle.vm_types.specs.declared.service.Service.TheVariants as service
use Rattle.vm_types.specs.Ring.{Ring}
use Rattle.vm_journal.specs.declared.entry.Entry.{Entry}
use Rattle.vm_journal.specs.declared.entry.EvictWhy.{EvictWhy}
use Rattle.vm_journal.specs.declared.entry.EvictWhy.TheVariants as evict
use Rattle.vm_journal.specs.declared.entry.Role.{Role}
use Rattle.vm_journal.specs.declared.entry.Role.TheVariants as role
use Rattle.vm_journal.specs.declared.entry.What.{What}
use Rattle.vm_journal.specs.declared.entry.What.TheVariants as what
use Rattle.pager_model.specs.Back.{IsAnyBack}
use Rattle.pager_model.specs.Carrier.{Carrying}
use Rattle.pager_model.specs.Collide.{IsCollide}
use Rattle.pager_model.specs.Denied.{IsDenial}
use Rattle.pager_model.specs.Done.{IsDone}
use Rattle.pager_model.specs.Evict.{IsDropped, IsEvict}
use Rattle.pager_model.specs.Flights.{Flight}
use Rattle.pager_model.specs.In.{IsFirstIn, IsIn, IsInLying}
use Rattle.pager_model.specs.InTurn.{MayJoin}
use Rattle.pager_model.specs.Out.{IsAnyOut}
use Rattle.pager_model.specs.Own.{IsResident}
use Rattle.pager_model.specs.Pager.{Pager}
use Rattle.pager_model.specs.Served.{IsDelete, IsInUse, IsLocking, IsOverLocking, IsServed, IsService, IsUnmapped}
use Rattle.pager_model.specs.Step.{IsLegal, IsLegalWhat}
use Rattle.pager_model.specs.Transfers.{IsHome}
use Rattle.pager_model.specs.Zero.{IsZero}
use Rattle.pager_laws.specs.Bodies.{is_rundown_eviction, with_body}

module _ (config : Config) (body : List Task) where
  abbrev more : Config
  more = with_body config body

  resident : (a : Pager) (p : ℕ) → IsResident config a p → IsResident more a p
  resident a p x = record { process = x.process; resident = x.resident }

  home : (b : BlockId) (flights : List Flight) → IsHome config b flights → IsHome more b flights
  home b flights x = record { exists = x.exists; still = x.still }

  -- ---- references
  done : (a : Pager) (p : ℕ) (r : Ref) → IsDone config a p r → IsDone more a p r
  done a p r x = record { own = resident a p x.own; not_pending = x.not_pending; allowed = x.allowed; valid = x.valid }

  denied : (past : List Entry) (a : Pager) (p : ℕ) (r : Ref) (why : Why) → IsDenial config past a p r why → IsDenial more past a p r why
  denied past a p r why (inl x) = inl (record { own = resident a p x.own; flat_why = x.flat_why; not_pending = x.not_pending; refused = x.refused })
  denied past a p r why (inr x) = inr (record { lost = x.lost; named = x.named; fault = x.fault; process = x.process; waits = x.waits })

  -- ---- services
  unmapped : (a : Pager) (p address pages : ℕ) → IsUnmapped config a p address pages → IsUnmapped more a p address pages
  unmapped a p address pages x = record { v = x.v; inside = x.inside; unmapped = x.unmapped }

  in_use : (a : Pager) (p address pages : ℕ) → IsInUse config a p address pages → IsInUse more a p address pages
  in_use a p address pages x = record { v = x.v; inside = x.inside; page = x.page; mapped = x.mapped }

  deleted : (past : List Entry) (a : Pager) (p address pages : ℕ) → IsDelete config past a p address pages → IsDelete more past a p address pages
  deleted past a p address pages x = record { mapped = x.mapped; not_valid = x.not_valid; not_in_flight = x.not_in_flight }

  locking : (a : Pager) (p address pages : ℕ) (ring : Ring) (n : ℕ) → IsLocking config a p address pages ring n → IsLocking more a p address pages ring n
  locking a p address pages ring n x = record { mapped = x.mapped; fits = x.fits; counted = x.counted }

  over : (a : Pager) (p address pages : ℕ) (ring : Ring) → IsOverLocking config a p address pages ring → IsOverLocking more a p address pages ring
  over a p address pages ring x = record { mapped = x.mapped; spec = x.spec; process = x.process; over = x.over }

  serves : (past : List Entry) (a : Pager) (p : ℕ) (s : Service) (reply : Answer) → IsService config past a p s reply → IsService more past a p s reply
  serves past a p (service.Create at pages prot) answer.InUse x = in_use a p at.0 pages x
  serves past a p (service.Delete at pages) answer.Good x = deleted past a p at.0 pages x
  serves past a p (service.Delete at pages) answer.Unmapped x = unmapped a p at.0 pages x
  serves past a p (service.Protect at pages prot) answer.Unmapped x = unmapped a p at.0 pages x
  serves past a p (service.Lock at pages) (answer.Count n) x = locking a p at.0 pages _ n x
  serves past a p (service.Lock at pages) answer.Unmapped x = unmapped a p at.0 pages x
  serves past a p (service.Lock at pages) answer.LockLimit x = over a p at.0 pages _ x
  serves past a p (service.Unlock at pages) answer.Unmapped x = unmapped a p at.0 pages x
  serves past a p (service.Pin at pages) (answer.Count n) x = locking a p at.0 pages _ n x
  serves past a p (service.Pin at pages) answer.Unmapped x = unmapped a p at.0 pages x
  serves past a p (service.Pin at pages) answer.LockLimit x = over a p at.0 pages _ x
  serves past a p (service.Unpin at pages) answer.Unmapped x = unmapped a p at.0 pages x
  serves past a p s other x = x

  served : (past : List Entry) (a : Pager) (p : ℕ) (s : Service) (reply : Answer) → IsServed config past a p s reply → IsServed more past a p s reply
  served past a p s answer.DiskFault x = record { lost = x.lost; process = x.process; waits = x.waits; known = x.known }
  served past a p s other x = (resident a p x.0, serves past a p s other x.1, x.2)

  -- ---- pages without a transfer
  zeroed : (a : Pager) (p address f : ℕ) → IsZero config a p address f → IsZero more a p address f
  zeroed a p address f x = record {
    own = resident a p x.own;
    demand_zero = x.demand_zero;
    not_charged = x.not_charged;
    room = x.room;
    below_limit = x.below_limit;
    frame = x.frame;
  }

  back : (a : Pager) (seat p address f : ℕ) (from : FrameState) → IsAnyBack config a seat p address f from → IsAnyBack more a seat p address f from
  back a seat p address f from (inl x) = let b = x.1 in inl (
    x.0,
    record {
      own = resident a p b.own;
      page = b.page;
      mapped = b.mapped;
      holds = b.holds;
      not_valid = b.not_valid;
      state = b.state;
      may = b.may;
      below_limit = b.below_limit;
    },
  )
  back a seat p address f from (inr x) = inr (record {
    coming = x.coming;
    page = x.page;
    mapped = x.mapped;
    holds = x.holds;
    not_valid = x.not_valid;
    free = x.free;
    state = x.state;
    slot = x.slot;
    lies = x.lies;
  })

  collided : (past : List Entry) (a : Pager) (p address f k : ℕ) → IsCollide config past a p address f k → IsCollide more past a p address f k
  collided past a p address f k x = record {
    own = resident a p x.own;
    flight = x.flight;
    open_k = x.open_k;
    frame = x.frame;
    reads = x.reads;
    other = x.other;
    page = x.page;
    mapped = x.mapped;
    holds = x.holds;
    not_named = x.not_named;
  }

  -- ---- reads and writes
  first_in : (a : Pager) (p v : ℕ) (b : BlockId) (g : Page) → (a.lies g ≡ Some b) ⊎ IsFirstIn config a p v b g → (a.lies g ≡ Some b) ⊎ IsFirstIn more a p v b g
  first_in a p v b g (inl x) = inl x
  first_in a p v b g (inr x) = inr (record { private = x.private; behind = x.behind; uncharged = x.uncharged; room = x.room })

  lying : (past : List Entry) (a : Pager) (f : ℕ) (b : BlockId) (g : Page) → IsInLying config past a f b g → IsInLying more past a f b g
  lying past a f b g x = record { home = home b _ x.home; frame = x.frame; out = x.out; lies = x.lies }

  reads : (r : Role) (past : List Entry) (a : Pager) (p f : ℕ) (b : BlockId) → IsIn r config past a p f b → IsIn r more past a p f b
  reads (role.Fault q address) past a p f b x = record {
    own = resident a p x.own;
    self = x.self;
    home = home b _ x.home;
    frame = x.frame;
    below_limit = x.below_limit;
    page = x.page;
    mapped = x.mapped;
    out = x.out;
    from = first_in a p _ b x.page x.from;
  }
  reads (role.Near g) past a p f b x = record {
    busy = x.busy;
    last = x.last;
    lasts = x.lasts;
    role = x.role;
    before = x.before;
    holds = x.holds;
    kin = x.kin;
    lying = lying past a f b g x.lying;
  }
  reads (role.Come q address) past a p f b x = record {
    page = x.page;
    mapped = x.mapped;
    coming = x.coming;
    slot = x.slot;
    block = x.block;
    lying = lying past a f b x.page x.lying;
  }

  writes : (past : List Entry) (a : Pager) (f : ℕ) (b : BlockId) → IsAnyOut config past a f b → IsAnyOut more past a f b
  writes past a f b (inl x) = inl (record { home = home b _ x.home; head = x.head; page = x.page; holds = x.holds; block = x.block })
  writes past a f b (inr x) = inr (record {
    home = home b _ x.home;
    page = x.page;
    holds = x.holds;
    private = x.private;
    p = x.p;
    v = x.v;
    slot = x.slot;
    block = x.block;
    leaving = x.leaving;
    entry = x.entry;
    valid = x.valid;
    frame = x.frame;
    held = x.held;
    filled = x.filled;
    same = x.same;
    unpinned = x.unpinned;
    still = x.still;
    changed = x.changed;
  })

  -- ---- evictions, but for those of the rundown
  dropped : (past : List Entry) (a : Pager) (p address f : ℕ) (purged : Bool) (to : FrameState) → IsDropped config past a p address f purged to → IsDropped more past a p address f purged to
  dropped past a p address f purged to x = record { own = resident a p x.own; taken = x.taken; loose = x.loose; waits = x.waits }

  evicts : (why : EvictWhy) (past : List Entry) (a : Pager) (seat p address f : ℕ) (to : FrameState) → is_rundown_eviction (what.Evict (record { 0 = p }) (record { 0 = address }) (record { 0 = f }) why to) ≡ false
      → IsEvict why config past a seat p address f to → IsEvict why more past a seat p address f to
  evicts evict.Replace past a seat p address f to none x =
      let r = x.1 in
      (x.0, record { own = resident a p r.own; full = r.full; slot = r.slot; chosen = r.chosen; evicted = r.evicted; waits = r.waits })
  evicts evict.Purge past a seat p address f to none x = (x.0, dropped past a p address f true to x.1)
  evicts evict.Delete past a seat p address f to none x = (x.0, dropped past a p address f false to x.1)
  evicts evict.Leave past a seat p address f to none x = record { leaving = x.leaving; unpinned = x.unpinned; taken = x.taken; private = x.private; waits = x.waits }
  evicts evict.Rundown past a seat p address f to none x = absurd (cc)

  -- ---- each kind
  row : (past : List Entry) (a : Pager) (p : ℕ) (w : What) → is_rundown_eviction w ≡ false → IsLegalWhat config past a p w → IsLegalWhat more past a p w
  row past a p (what.Done r reply) none x = done a p r x
  row past a p (what.Denied r reason) none x = denied past a p r reason x
  row past a p (what.Served s reply) none x = served past a p s reply x
  row past a p (what.Zero address f) none x = zeroed a p address.0 f.0 x
  row past a p (what.Back q address f from) none x = back a p q.0 address.0 f.0 from x
  row past a p (what.Collide address f k) none x = collided past a p address.0 f.0 k x
  row past a p (what.In f b r) none x = reads r past a p f.0 b x
  row past a p (what.Out f b) none x = writes past a f.0 b x
  row past a p (what.Evict q address f why to) none x = evicts why past a p q.0 address.0 f.0 to none x
  row past a p (what.Limit n faults) none x = record { own = resident a p x.own; pending = x.pending; counted = x.counted; adjusted = x.adjusted }
  row past a p (what.Turn q s) none x = record { process = x.process; turned = x.turned }
  row past a p other none x = x

  joins : (c : Carrying) (x : Flight) → MayJoin config c x → MayJoin more c x
  joins c x m = record {
    last = m.last;
    lasts = m.lasts;
    none_landed = m.none_landed;
    same_way = m.same_way;
    next_block = m.next_block;
    room = m.room;
    not_fault = m.not_fault;
  }

  pub legal : (past : List Entry) (a : Pager) (e : Entry) → is_rundown_eviction e.what ≡ false → IsLegal config past a e → IsLegal more past a e
  legal past a e none x = let t = x.in_turn in record {
    in_turn = record { reuse = t.reuse; work = t.work; carrier = λ f begun busy. joins _ f (t.carrier f begun busy) };
    line = x.line;
    row = row past a (e.seat).0 e.what none x.row;
  }
