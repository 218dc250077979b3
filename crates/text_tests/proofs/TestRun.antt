-- The configuration of the tests is well formed, and its entries are a run.
use Rattle.std.proofs.Common.{◌≡◌, true, false, Some, None, [], ◌∷◌, ◌++◌, refl, subst, sym, inl, arith}
use Rattle.std.specs.Prelude.{All, AllPairs}
use Rattle.std.specs.List.{AllByRecursion}
use Rattle.std.proofs.lemmas.Bool.{false≢true}
use Rattle.std.proofs.lemmas.List.Elements.{All-from_recursion}
use Rattle.vm_types.specs.Configuration.{IsWellFormed, AreSections, IsSection, IsNameByte, IsProcess, IsMapping, AreApart}
use Rattle.vm_types.specs.declared.config.Config.{Config}
use Rattle.vm_types.specs.declared.config.Version.TheVariants as version
use Rattle.pager_model.specs.Flights.{Flight, reading}
use Rattle.pager_model.specs.Opening.{opening}
use Rattle.pager_model.specs.Report.{Report, report_of}
use Rattle.pager_model.specs.Run.{IsRun, pager_after}
use Rattle.pager_model.specs.Step.{IsLegal}
use Rattle.pager_model.specs.DirtyPages.{dirty_pages}
use Rattle.run_text.specs.Printable.{IsPrintable, IsPrintableRow}
use Rattle.run_text.specs.Reported.{IsReported}
use Rattle.text_tests.specs.TestRun.{shared_section, one_spec, one_mapping, test_config, the_block, the_role, the_page, read_begins, read_ends, is_written, before_report, after_report, test_report}

abbrev the_flight : Flight
the_flight = record { start = 1; seat = 0; frame = 0; block = the_block; direction = reading the_role }

never : false ≡ true → ⊥
never e = cc

none_begun : (x : Flight) → None ≡ Some x → ⊥
none_begun x e = cc

none_held : None ≡ Some the_page → ⊥
none_held e = cc

begins_legal : IsLegal test_config [] (opening test_config) read_begins
begins_legal =
    record {
      in_turn = record { reuse = λ e. absurd (never e); work = λ e. refl; carrier = λ x e busy. absurd (never busy) };
      line = record { seat = omega arith; what = (omega arith, (record { there = omega arith; small = omega arith }, omega arith), (omega arith, record { aligned = refl; small = omega arith })) };
      row = record {
        own = record { process = omega arith; resident = refl };
        self = refl;
        home = record { exists = ((shared_section, refl, omega arith), refl); still = refl };
        frame = record { head = record { rest = 1 ∷ 2 ∷ 3 ∷ 4 ∷ 5 ∷ 6 ∷ 7 ∷ []; heads = refl }; empty = refl };
        below_limit = omega arith;
        page = the_page;
        mapped = refl;
        out = λ g e. absurd (none_held e);
        from = inl refl;
      };
    }

ends_legal : IsLegal test_config (read_begins ∷ []) (pager_after test_config (read_begins ∷ [])) read_ends
ends_legal =
    record {
      in_turn = record { reuse = λ e. absurd (never e); work = λ e. refl; carrier = λ x e busy. absurd (none_begun x e) };
      line = record { seat = omega arith; what = (omega arith, omega arith) };
      row = record { flight = the_flight; lands = record { open_k = refl; seat = refl; frame = refl }; role = the_role; reads = refl };
    }

written_legal : IsLegal test_config before_report (pager_after test_config before_report) is_written
written_legal =
    record {
      in_turn = record { reuse = λ e. absurd (never e); work = λ e. absurd (never e); carrier = λ x e busy. absurd (never busy) };
      line = record { seat = omega arith; what = (record { address = omega arith; aligned = refl; fits = omega arith }, tt) };
      row = record {
        own = record { process = omega arith; resident = refl };
        not_pending = refl;
        allowed = refl;
        valid = (record { proc = 0; vpn = 0; frame = 0 }, refl);
      };
    }

test_run : IsRun test_config (after_report ++ before_report)
test_run = (((tt, begins_legal), ends_legal), written_legal)

letters : All IsNameByte (83 ∷ 72 ∷ [])
letters = All-from_recursion IsNameByte (83 ∷ 72 ∷ []) (inl (omega arith, omega arith), (inl (omega arith, omega arith), tt))

section_formed : IsSection version.One shared_section
section_formed =
    record {
      name = record { length = (omega arith, omega arith); letter = (omega arith, omega arith); bytes = letters };
      whole = refl;
      some = omega arith;
      paged = λ paged. absurd (false≢true paged);
    }

one_pair : {X : Type 0} (R : X → X → Type 0) (x : X) → AllPairs R (x ∷ [])
one_pair R x = λ i j d less within. absurd (omega arith)

sections_formed : AreSections version.One (shared_section ∷ [])
sections_formed =
    record {
      few = omega arith;
      pages = omega arith;
      each = All-from_recursion (IsSection version.One) (shared_section ∷ []) (section_formed, tt);
      differ = one_pair (λ s t. s.name ≡ t.name → ⊥) shared_section;
    }

process_formed : IsProcess 8 0 one_spec
process_formed = record { limited = record { locks = omega arith; quota = omega arith; extent = omega arith; most = omega arith }; room = omega arith }

mapping_formed : IsMapping 1 (shared_section ∷ []) one_mapping
mapping_formed =
    record {
      proc = omega arith;
      range = record { aligned = refl; some = omega arith; few = omega arith; inside = inl (omega arith) };
      code = record { small = omega arith; named = λ e. omega arith };
      origin = (shared_section, refl, omega arith);
    }

test_formed : IsWellFormed test_config
test_formed =
    record {
      frames = (omega arith, omega arith);
      of_version = omega arith;
      bad = λ k d within. absurd (omega arith);
      bad_differ = λ i j d less within. absurd (omega arith);
      pagefile = (omega arith, omega arith);
      params = record {
        pfc = (omega arith, omega arith);
        hilimit = omega arith;
        lolimit = omega arith;
        waitlimit = (omega arith, omega arith);
        wait_above = omega arith;
        wrtcluster = (omega arith, omega arith);
        freelim = omega arith;
        freegoal = omega arith;
        awstime = omega arith;
        pfrath = omega arith;
        pfratl = omega arith;
        wsinc = omega arith;
        wsdec = omega arith;
        awsmin = (omega arith, omega arith);
        borrowlim = omega arith;
      };
      sections = sections_formed;
      some_process = (omega arith, omega arith);
      procs = All-from_recursion (IsProcess 8 0) (one_spec ∷ []) (process_formed, tt);
      maps = All-from_recursion (IsMapping 1 (shared_section ∷ [])) (one_mapping ∷ []) (mapping_formed, tt);
      maps_apart = one_pair AreApart one_mapping;
      fails = λ k d within. absurd (omega arith);
      fails_differ = λ i j d less within. absurd (omega arith);
      few_tasks = omega arith;
      body = λ k d within. absurd (omega arith);
    }

report_is : test_report ≡ report_of test_config before_report (pager_after test_config before_report)
report_is = refl

dirty_is : the_page ∷ [] ≡ dirty_pages test_config (pager_after test_config (after_report ++ before_report))
dirty_is = refl

rows_named : AllByRecursion (IsPrintableRow (shared_section ∷ [])) test_report.frames
rows_named = (omega arith, (tt, (tt, (tt, (tt, (tt, (tt, (tt, tt))))))))

test_printable : IsPrintable (shared_section ∷ []) test_report
test_printable =
    record {
      states = refl;
      processes = omega arith;
      pages = All-from_recursion (IsPrintableRow (shared_section ∷ [])) test_report.frames rows_named;
    }

test_reported : IsReported test_config (read_begins ∷ read_ends ∷ is_written ∷ []) 2 test_report (the_page ∷ [])
test_reported =
    record {
      past = before_report;
      rest = after_report;
      parts = record { all = refl; place = refl };
      formed = test_formed;
      legal = test_run;
      recount = report_is;
      printable = test_printable;
      last = dirty_is;
    }

-- by what the printing call is given
pub given_reported : (config : Config) (report : Report) → config ≡ test_config → report ≡ test_report
    → IsReported config (read_begins ∷ read_ends ∷ is_written ∷ []) 2 report (the_page ∷ [])
given_reported config report made counted =
    subst (λ (c : Config). IsReported c (read_begins ∷ read_ends ∷ is_written ∷ []) 2 report (the_page ∷ [])) (sym made)
    (subst (λ (r : Report). IsReported test_config (read_begins ∷ read_ends ∷ is_written ∷ []) 2 r (the_page ∷ [])) (sym counted) test_reported)
