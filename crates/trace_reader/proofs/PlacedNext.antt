-- What a line says, added to the declarations, keeps what its place asks.
use Rattle.std.proofs.Common.{◌≡◌, arith}
use Rattle.trace_lines.specs.declared.part.Part.{Part}
use Rattle.trace_lines.specs.Places.{rank}
use Rattle.trace_lines.specs.Says as says
use Rattle.trace_lines.specs.Says.{Says}
use Rattle.trace_reader.specs.Changes.{changed}
use Rattle.trace_reader.specs.Drafts.{IsPlaced}
use Rattle.trace_reader.specs.Right.{IsRightLine}

pub placed_next : (part : Part) (said : Says) → IsPlaced (rank part.place) part.config → IsRightLine part said → IsPlaced (rank (changed part said).place) (changed part said).config
placed_next part says.Nothing p r = p
placed_next part (says.Version v) p r =
    let here : rank part.place ≡ 0 = r.here in
    record { no_frames = λ h. p.no_frames (omega arith); no_bad = λ h. p.no_bad (omega arith); no_sections = λ h. p.no_sections (omega arith); no_fails = λ h. p.no_fails (omega arith); no_tasks = λ h. p.no_tasks (omega arith); frames = λ h. absurd (omega (arith, h)); pagefile = λ h. absurd (omega (arith, h)); some_process = λ h. absurd (omega (arith, h)); agree = λ h. absurd (omega (arith, h)); room = λ h. absurd (omega (arith, h)) }
placed_next part (says.Frames n) p r =
    let here : rank part.place ≡ 1 = r.here in
    record { no_frames = λ h. absurd (omega (arith, h)); no_bad = λ h. p.no_bad (omega arith); no_sections = λ h. p.no_sections (omega arith); no_fails = λ h. p.no_fails (omega arith); no_tasks = λ h. p.no_tasks (omega arith); frames = λ h. r.fits.0; pagefile = λ h. absurd (omega (arith, h)); some_process = λ h. absurd (omega (arith, h)); agree = λ h. absurd (omega (arith, h)); room = λ h. absurd (omega (arith, h)) }
placed_next part (says.PageFile n) p r =
    let here : rank part.place ≡ 2 = r.here in
    record { no_frames = λ h. absurd (omega (arith, h)); no_bad = λ h. absurd (omega (arith, h)); no_sections = λ h. absurd (omega (arith, h)); no_fails = λ h. absurd (omega (arith, h)); no_tasks = λ h. p.no_tasks (omega arith); frames = λ h. p.frames (omega arith); pagefile = λ h. r.fits.0; some_process = λ h. absurd (omega (arith, h)); agree = λ h. absurd (omega (arith, h)); room = λ h. absurd (omega (arith, h)) }
placed_next part (says.Param q n) p r =
    let here : rank part.place ≡ 3 = r.here in
    record { no_frames = λ h. absurd (omega (arith, h, here)); no_bad = λ h. absurd (omega (arith, h, here)); no_sections = λ h. absurd (omega (arith, h, here)); no_fails = λ h. absurd (omega (arith, h, here)); no_tasks = λ h. p.no_tasks h; frames = p.frames; pagefile = p.pagefile; some_process = λ h. absurd (omega (arith, h, here)); agree = λ h. absurd (omega (arith, h, here)); room = λ h. absurd (omega (arith, h, here)) }
placed_next part (says.Bad f) p r =
    let here : rank part.place ≡ 3 = r.here in
    record { no_frames = λ h. absurd (omega (arith, h, here)); no_bad = λ h. absurd (omega (arith, h, here)); no_sections = λ h. absurd (omega (arith, h, here)); no_fails = λ h. absurd (omega (arith, h, here)); no_tasks = λ h. p.no_tasks h; frames = p.frames; pagefile = p.pagefile; some_process = λ h. absurd (omega (arith, h, here)); agree = λ h. absurd (omega (arith, h, here)); room = λ h. absurd (omega (arith, h, here)) }
placed_next part (says.Section name of_kind pages) p r =
    let here : rank part.place ≡ 3 = r.here in
    record { no_frames = λ h. absurd (omega (arith, h, here)); no_bad = λ h. absurd (omega (arith, h, here)); no_sections = λ h. absurd (omega (arith, h, here)); no_fails = λ h. absurd (omega (arith, h, here)); no_tasks = λ h. p.no_tasks h; frames = p.frames; pagefile = p.pagefile; some_process = λ h. absurd (omega (arith, h, here)); agree = λ h. absurd (omega (arith, h, here)); room = λ h. absurd (omega (arith, h, here)) }
placed_next part (says.Data k at bytes) p r =
    let here : rank part.place ≡ 3 = r.here in
    record { no_frames = λ h. absurd (omega (arith, h, here)); no_bad = λ h. absurd (omega (arith, h, here)); no_sections = λ h. absurd (omega (arith, h, here)); no_fails = λ h. absurd (omega (arith, h, here)); no_tasks = λ h. p.no_tasks h; frames = p.frames; pagefile = p.pagefile; some_process = λ h. absurd (omega (arith, h, here)); agree = λ h. absurd (omega (arith, h, here)); room = λ h. absurd (omega (arith, h, here)) }
placed_next part (says.Process spec) p r =
    let here : rank part.place ≡ 3 = r.here in
    record { no_frames = λ h. absurd (omega (arith, h, here)); no_bad = λ h. absurd (omega (arith, h, here)); no_sections = λ h. absurd (omega (arith, h, here)); no_fails = λ h. absurd (omega (arith, h, here)); no_tasks = λ h. p.no_tasks h; frames = p.frames; pagefile = p.pagefile; some_process = λ h. absurd (omega (arith, h, here)); agree = λ h. absurd (omega (arith, h, here)); room = λ h. absurd (omega (arith, h, here)) }
placed_next part (says.Map m) p r =
    let here : rank part.place ≡ 3 = r.here in
    record { no_frames = λ h. absurd (omega (arith, h, here)); no_bad = λ h. absurd (omega (arith, h, here)); no_sections = λ h. absurd (omega (arith, h, here)); no_fails = λ h. absurd (omega (arith, h, here)); no_tasks = λ h. p.no_tasks h; frames = p.frames; pagefile = p.pagefile; some_process = λ h. absurd (omega (arith, h, here)); agree = λ h. absurd (omega (arith, h, here)); room = λ h. absurd (omega (arith, h, here)) }
placed_next part (says.Fail id calls) p r =
    let here : rank part.place ≡ 3 = r.here in
    record { no_frames = λ h. absurd (omega (arith, h, here)); no_bad = λ h. absurd (omega (arith, h, here)); no_sections = λ h. absurd (omega (arith, h, here)); no_fails = λ h. absurd (omega (arith, h, here)); no_tasks = λ h. p.no_tasks h; frames = p.frames; pagefile = p.pagefile; some_process = λ h. absurd (omega (arith, h, here)); agree = λ h. absurd (omega (arith, h, here)); room = λ h. absurd (omega (arith, h, here)) }
placed_next part says.Body p r =
    let here : rank part.place ≡ 3 = r.here in
    record { no_frames = λ h. absurd (omega (arith, h)); no_bad = λ h. absurd (omega (arith, h)); no_sections = λ h. absurd (omega (arith, h)); no_fails = λ h. absurd (omega (arith, h)); no_tasks = λ h. absurd (omega (arith, h)); frames = λ h. p.frames (omega arith); pagefile = λ h. p.pagefile (omega arith); some_process = λ h. r.fits.0; agree = λ h. r.fits.1; room = λ h. r.fits.2 }
placed_next part (says.Request t) p r =
    let here : rank part.place ≡ 4 = r.here in
    record { no_frames = p.no_frames; no_bad = p.no_bad; no_sections = p.no_sections; no_fails = p.no_fails; no_tasks = λ h. absurd (omega (arith, h, here)); frames = p.frames; pagefile = p.pagefile; some_process = p.some_process; agree = p.agree; room = p.room }
placed_next part says.End p r =
    let here : rank part.place ≡ 4 = r.here in
    record { no_frames = λ h. absurd (omega (arith, h)); no_bad = λ h. absurd (omega (arith, h)); no_sections = λ h. absurd (omega (arith, h)); no_fails = λ h. absurd (omega (arith, h)); no_tasks = λ h. absurd (omega (arith, h)); frames = λ h. p.frames (omega arith); pagefile = λ h. p.pagefile (omega arith); some_process = λ h. p.some_process (omega arith); agree = λ h. p.agree (omega arith); room = λ h. p.room (omega arith) }
