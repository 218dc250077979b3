-- Content along a run: whatever entry comes next, with the buffers and blocks that it moves.
use Rattle.std.proofs.Common.{◌≡◌, ℕ, Bool, true, List, ◌∷◌, Option, Some, length, refl, sym, ◌∙◌, subst}
use Rattle.std.proofs.lemmas.Option.{same_Some}
use Rattle.vm_types.specs.BlockView.{BlockView}
use Rattle.vm_types.specs.Configuration.{IsBlock, IsWellFormed}
use Rattle.vm_types.specs.WellFormed.{IsWellFormedReference}
use Rattle.vm_types.specs.declared.names.Pfn.{Pfn}
use Rattle.vm_types.specs.declared.names.BlockId.{BlockId}
use Rattle.vm_types.specs.declared.names.Seat.{Seat}
use Rattle.vm_types.specs.declared.config.Config.{Config}
use Rattle.vm_types.specs.declared.reference.Ref.{Ref}
use Rattle.vm_types.specs.declared.reply.Reply.{Reply}
use Rattle.vm_journal.specs.declared.entry.Entry.{Entry}
use Rattle.vm_journal.specs.declared.entry.What.{What}
use Rattle.vm_journal.specs.declared.entry.What.TheVariants as what
use Rattle.vm_journal.specs.HasLine.{HasLine}
use Rattle.content_laws.proofs.DoneContent.{done_content, done_right}
use Rattle.content_laws.proofs.InContent.{in_begins, in_content}
use Rattle.content_laws.proofs.OutContent.{out_begins, out_content}
use Rattle.content_laws.proofs.QuietContent.{back_content, collide_content, denied_content, evict_content, limit_content, reuse_content, turn_content}
use Rattle.content_laws.proofs.ReadLanded.{in_fail_content, in_ok_content}
use Rattle.content_laws.proofs.SectionBehind.{page_real}
use Rattle.content_laws.proofs.ServedContent.{served_content}
use Rattle.content_laws.proofs.WriteLanded.{out_fail_content, out_ok_content}
use Rattle.content_laws.proofs.ZeroContent.{zero_content}
use Rattle.content_laws.specs.Laws.{ContentStays, DoneIsRight, ReadBegins, WriteBegins}
use Rattle.content_laws.specs.Moved.{AppliesOperation, BringsBlock, BringsBuffer, Moves}
use Rattle.content_laws.specs.Put.{PutsBuffer}
use Rattle.pager_laws.proofs.FlatFollows.{follows}
use Rattle.pager_laws.proofs.FlightsBegun.{flight_blocks}
use Rattle.pager_laws.proofs.OfConfigKept.{run_right}
use Rattle.pager_laws.proofs.RunsAreSound.{run_kept}
use Rattle.pager_model.specs.Around.{past_view, quiet}
use Rattle.pager_model.specs.Bytes.{is_real}
use Rattle.pager_model.specs.Content.{ContentFits}
use Rattle.pager_model.specs.Done.{IsDone}
use Rattle.pager_model.specs.Fits.{FitsLift, Lift, bad, good}
use Rattle.pager_model.specs.Flat.{bytes_after, offset_in_page}
use Rattle.pager_model.specs.Flights.{Flight, open_flights}
use Rattle.pager_model.specs.InFail.{IsInFail}
use Rattle.pager_model.specs.InOk.{IsInOk}
use Rattle.pager_model.specs.InTurn.{InTurn}
use Rattle.pager_model.specs.OutLanding.{IsOutFail, IsOutOk}
use Rattle.pager_model.specs.Pager.{Pager, Valid}
use Rattle.pager_model.specs.Run.{IsRun, pager_after}
use Rattle.pager_model.specs.Spoken.{flat_after}
use Rattle.pager_model.specs.Step.{IsLegalWhat, after_what}
use Rattle.pager_model.specs.Transfers.{starts}
use Rattle.pager_rules.proofs.Lists.{all_found}
use Rattle.pager_rules.proofs.Turns.{calm, idle}
use Rattle.pager_rules.specs.Kept.{IsKept}

module _ (tells tells_plan : Bool) (config : Config) (past : List Entry) (seat : Seat) (formed : IsWellFormed config) (run : IsRun config past) where
  abbrev a : Pager
  a = pager_after config past

  abbrev entry : What → Entry
  entry w = record { seat = seat; what = w }

  kept : IsKept config (past_view past) a
  kept = run_kept config past formed run

  maps : a.map ≡ (flat_after config past).map
  maps = (follows config past formed run).map

  touches : a.touched ≡ (flat_after config past).touched
  touches = (follows config past formed run).touched

  -- the block of a lift is one of the configuration, and its page is real
  block_known : (lift : Lift) → FitsLift tells tells_plan config past a lift → IsBlock config lift.block
  block_known lift fits =
      let x = fits.0 in
      subst (IsBlock config) ((fits.1).flight).block (all_found (λ (y : Flight). IsBlock config y.block) (starts x.start) (open_flights past) x (flight_blocks config past run) (fits.1).found_x)

  page_known : (lift : Lift) → FitsLift tells tells_plan config past a lift → is_real config lift.page ≡ true
  page_known lift fits = page_real config lift.page ((run_right config past formed run).held (fits.0).frame lift.page (fits.1).held_page)

  abbrev After : What → (ℕ → Option (List ℕ)) → (BlockId → Option BlockView) → Type 0
  After w buffer home = ContentFits tells tells_plan config (entry w ∷ past) (after_what config past a seat.0 w) buffer home

  with_home : (w : What) (buffer : ℕ → Option (List ℕ)) (home home' : BlockId → Option BlockView) → home' ≡ home → After w buffer home → After w buffer home'
  with_home w buffer home home' same fits = subst (After w buffer) (sym same) fits

  with_both : (w : What) (buffer buffer' : ℕ → Option (List ℕ)) (home home' : BlockId → Option BlockView) → (buffer' ≡ buffer) × (home' ≡ home) → After w buffer home → After w buffer' home'
  with_both w buffer buffer' home home' same fits = subst (λ (o : ℕ → Option (List ℕ)). After w o home') (sym same.0) (with_home w buffer home home' same.1 fits)

  module _ (buffer buffer' : ℕ → Option (List ℕ)) (home home' : BlockId → Option BlockView) (fits : ContentFits tells tells_plan config past a buffer home) where
    done_row : (r : Ref) (answer : Reply) → IsKept config (quiet (open_flights past)) a → IsWellFormedReference r → (legal : IsDone config a seat.0 r) → AppliesOperation a seat.0 r buffer buffer' → After (what.Done r answer) buffer' home
    done_row r answer quiet_kept well_formed legal applies =
        let same : (applies.finds).entry ≡ legal.valid.0 = same_Some _ _ (sym (applies.finds).valid ∙ legal.valid.1) in
        done_content tells tells_plan config past a buffer buffer' home seat r answer kept quiet_kept maps touches well_formed legal applies.bytes
        (subst (λ (e : Valid). buffer e.frame ≡ Some applies.bytes) same (applies.finds).has)
        (subst (λ (e : Valid). PutsBuffer e.frame (Some (bytes_after r.op applies.bytes (offset_in_page r))) buffer buffer') same applies.put) fits

    in_ok_row : (f : Pfn) (k : ℕ) → IsKept config (quiet (open_flights past)) a → IsInOk past seat.0 f.0 k → BringsBuffer tells tells_plan config past a f.0 k good buffer buffer' home home' → After (what.InOk f k) buffer' home'
    in_ok_row f k quiet_kept legal brings =
        let b = brings.block in
        subst (λ (j : ℕ). After (what.InOk f j) buffer' home') b.start
        (in_ok_content tells tells_plan config past a buffer buffer' home home' maps touches quiet_kept seat f b.lift b.fits (block_known b.lift b.fits) (page_known b.lift b.fits) brings.size brings.put b.back
        (subst (λ (j : ℕ). IsInOk past seat.0 f.0 j) (sym b.start) legal) b.ended fits)

    in_fail_row : (f : Pfn) (k c d : ℕ) → IsKept config (quiet (open_flights past)) a → IsInFail past seat.0 f.0 k c d → BringsBuffer tells tells_plan config past a f.0 k (bad c d) buffer buffer' home home' → After (what.InFail f k c d) buffer' home'
    in_fail_row f k c d quiet_kept legal brings =
        let b = brings.block in
        subst (λ (j : ℕ). After (what.InFail f j c d) buffer' home') b.start
        (in_fail_content tells tells_plan config past a buffer buffer' home home' maps touches quiet_kept seat f b.lift b.fits (block_known b.lift b.fits) (page_known b.lift b.fits) brings.size brings.put b.back c d
        (subst (λ (j : ℕ). IsInFail past seat.0 f.0 j c d) (sym b.start) legal) b.ended fits)

    out_ok_row : (f : Pfn) (k : ℕ) → IsKept config (quiet (open_flights past)) a → IsOutOk past seat.0 f.0 k → BringsBlock tells tells_plan config past a k good home home' → After (what.OutOk f k) buffer home'
    out_ok_row f k quiet_kept legal b =
        subst (λ (j : ℕ). After (what.OutOk f j) buffer home') b.start
        (out_ok_content tells tells_plan config past a buffer home home' quiet_kept seat f b.lift b.fits (block_known b.lift b.fits) (page_known b.lift b.fits) b.back
        (subst (λ (j : ℕ). IsOutOk past seat.0 f.0 j) (sym b.start) legal) b.ended fits)

    out_fail_row : (f : Pfn) (k c d : ℕ) → IsKept config (quiet (open_flights past)) a → IsOutFail past seat.0 f.0 k c d → BringsBlock tells tells_plan config past a k (bad c d) home home' → After (what.OutFail f k c d) buffer home'
    out_fail_row f k c d quiet_kept legal b =
        subst (λ (j : ℕ). After (what.OutFail f j c d) buffer home') b.start
        (out_fail_content tells tells_plan config past a buffer home home' quiet_kept seat f b.lift b.fits (block_known b.lift b.fits) (page_known b.lift b.fits) b.back c d
        (subst (λ (j : ℕ). IsOutFail past seat.0 f.0 j c d) (sym b.start) legal) b.ended fits)

    -- ---- the table
    row_content : (w : What) → InTurn config past (entry w) → HasLine (length config.procs) config.sections (entry w) → IsLegalWhat config past a seat.0 w → Moves tells tells_plan config past a seat.0 w buffer buffer' home home' → After w buffer' home'
    row_content (what.Done r answer) turn line legal moves =
        with_home (what.Done r answer) buffer' home home' moves.1 (done_row r answer (calm config past a (entry (what.Done r answer)) turn refl kept) (line.what).0 legal moves.0)
    row_content (what.Denied r reason) turn line legal moves = with_both (what.Denied r reason) buffer buffer' home home' moves (denied_content tells tells_plan config past a buffer home seat r reason fits)
    row_content (what.Served s w) turn line legal moves =
        with_both (what.Served s w) buffer buffer' home home' moves
        (served_content tells tells_plan config past a buffer home (calm config past a (entry (what.Served s w)) turn refl kept) seat (idle config past (entry (what.Served s w)) turn refl) s w legal fits)
    row_content (what.Reuse f g) turn line legal moves = with_both (what.Reuse f g) buffer buffer' home home' moves (reuse_content tells tells_plan config past a buffer home seat f g kept legal fits)
    row_content (what.Zero address f) turn line legal moves =
        with_home (what.Zero address f) buffer' home home' moves.1
        (zero_content tells tells_plan config past a buffer buffer' home seat address f (calm config past a (entry (what.Zero address f)) turn refl kept) maps touches legal moves.0 fits)
    row_content (what.Back q address f from) turn line legal moves = with_both (what.Back q address f from) buffer buffer' home home' moves (back_content tells tells_plan config past a buffer home seat q address f from legal fits)
    row_content (what.Collide address f k) turn line legal moves = with_both (what.Collide address f k) buffer buffer' home home' moves (collide_content tells tells_plan config past a buffer home seat address f k fits)
    row_content (what.In f b r) turn line legal moves = in_content tells tells_plan config past a buffer home (calm config past a (entry (what.In f b r)) turn refl kept) seat f b r buffer' home' legal moves.0 moves.1 fits
    row_content (what.InOk f k) turn line legal moves = in_ok_row f k (calm config past a (entry (what.InOk f k)) turn refl kept) legal moves
    row_content (what.InFail f k c d) turn line legal moves = in_fail_row f k c d (calm config past a (entry (what.InFail f k c d)) turn refl kept) legal moves
    row_content (what.Out f b) turn line legal moves =
        subst (λ (o : ℕ → Option (List ℕ)). After (what.Out f b) o home') (sym moves.0) (out_content tells tells_plan config past a buffer home (calm config past a (entry (what.Out f b)) turn refl kept) seat f b home' legal moves.1 fits)
    row_content (what.OutOk f k) turn line legal moves =
        subst (λ (o : ℕ → Option (List ℕ)). After (what.OutOk f k) o home') (sym moves.0) (out_ok_row f k (calm config past a (entry (what.OutOk f k)) turn refl kept) legal moves.1)
    row_content (what.OutFail f k c d) turn line legal moves =
        subst (λ (o : ℕ → Option (List ℕ)). After (what.OutFail f k c d) o home') (sym moves.0) (out_fail_row f k c d (calm config past a (entry (what.OutFail f k c d)) turn refl kept) legal moves.1)
    row_content (what.Evict q address f why to) turn line legal moves =
        with_both (what.Evict q address f why to) buffer buffer' home home' moves
        (evict_content tells tells_plan config past a buffer home seat q address f why to (calm config past a (entry (what.Evict q address f why to)) turn refl kept) legal fits)
    row_content (what.Limit n faults) turn line legal moves = with_both (what.Limit n faults) buffer buffer' home home' moves (limit_content tells tells_plan config past a buffer home seat n faults fits)
    row_content (what.Turn q s) turn line legal moves = with_both (what.Turn q s) buffer buffer' home home' moves (turn_content tells tells_plan config past a buffer home seat q s fits)

-- content passes over each legal entry
pub content_stays : ContentStays
content_stays tells tells_plan config past e buffer buffer' home home' formed run moves fits =
    row_content tells tells_plan config past e.seat formed run.0 buffer buffer' home home' fits e.what run.1.in_turn run.1.line run.1.row moves

-- ---- what is read, and what begins
pub done_is_right : DoneIsRight
done_is_right tells tells_plan config past seat r answer buffer home bytes formed run finds fits told =
    let a = pager_after config past in
    let before = run_kept config past formed run.0 in
    let flat = follows config past formed run.0 in
    let legal = run.1.row in
    let same : finds.entry ≡ legal.valid.0 = same_Some _ _ (sym finds.valid ∙ legal.valid.1) in
    done_right tells tells_plan config past a buffer buffer home seat r before (calm config past a (record { seat = seat; what = what.Done r answer }) run.1.in_turn refl before) flat.map flat.touched legal bytes
    (subst (λ (e : Valid). buffer e.frame ≡ Some bytes) same finds.has) fits told

pub read_begins : ReadBegins
read_begins tells tells_plan config past seat f b r page bytes told buffer home formed run holds at fits =
    let a = pager_after config past in
    let e : Entry = record { seat = seat; what = what.In f b r } in
    let flat = follows config past formed run.0 in
    in_begins tells tells_plan config past a buffer home (calm config past a e run.1.in_turn refl (run_kept config past formed run.0)) seat f b r page told bytes flat.map flat.touched run.1.row holds
    (page_real config page ((run_right config (e ∷ past) formed run).held f.0 page holds)) at fits

pub write_begins : WriteBegins
write_begins tells tells_plan config past seat f b page bytes told buffer home formed run holds has at fits =
    let a = pager_after config past in
    let e : Entry = record { seat = seat; what = what.Out f b } in
    out_begins tells tells_plan config past a buffer home (calm config past a e run.1.in_turn refl (run_kept config past formed run.0)) seat f b page told bytes run.1.row holds has at fits
