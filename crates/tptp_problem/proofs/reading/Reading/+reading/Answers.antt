use Rattle.std.proofs.Common.{◌≡◌, inl, ◌++◌, ◌∷◌, [], List, ℕ, map, ap, sym, ◌∙◌, subst, arith, length}
use Rattle.std.specs.Str.{IsAscii}
use Rattle.std.proofs.lemmas.Str.{IsUtf8-from_ascii}
use Rattle.tptp_problem.specs.Files.{loaded_name}
use Rattle.tptp_problem.specs.Languages.{missing, selected}
use Rattle.tptp_reader.specs.declared.cause.ReadCause.TheVariants.{Load, SelectionMissing, IncludeDepth}
use Rattle.tptp_problem.specs.Shape.{file_of, progress_of, selections}
use Rattle.tptp_problem.proofs.AboutReading.FaultLemmas.{file-fault-then, told-then, told-here, told-load, told-no-load, unloaded, syntax-no-load, end-no-load, other-no-load}
use Rattle.tptp_problem.proofs.AboutFiles.FileLemmas.{missing-within, Included, one-less, deep-fault, broken-fault, text-end, included-fault, missing-fault, include-step, include-on, formula-on}
use Rattle.list_lemmas.proofs.Results.{err-passed}
use Rattle.tptp_problem.proofs.reading.Reading.+reading.Goals as goal

-- ---- file

pub file-returns-in-Err-clause-fault : goal.file-returns-in-Err-clause-fault
file-returns-in-Err-clause-fault g t c =
    let language = g.E.Entry.language in
    file-fault-then language _ _ c.told.result (λ cause f p h. inl h)
    (told-here language _ c.in-Err.fault c.told.result c.in-Err.ensures.fault c.told.ensures)

pub file-returns-in-Err-clause-load : goal.file-returns-in-Err-clause-load
file-returns-in-Err-clause-load g t c =
    told-load g.E.Entry.language g.met.E.Entry.load_alone _ _ _ c.in-Err.fault c.told.result c.in-Err.ensures.load c.told.ensures

-- ---- include

selection-no-load : SelectionMissing ≡ Load → ⊥
selection-no-load e = cc

pub include-returns-then-depth-eq0-clause-fault : goal.include-returns-then-depth-eq0-clause-fault
include-returns-then-depth-eq0-clause-fault g t c =
    told-then g.E.Entry.language _ _ c.fault.result c.told.result
    (deep-fault g.E.Entry.language (g.L.Library.told c.args.library.now) c.args.self.now.base.now _ c.args.source c.args.first c.args.depth
    (progress_of c.args.self.now) c.if-depth-eq0.true c.requires.lexed)
    c.fault.ensures c.told.ensures

pub include-returns-then-depth-eq0-clause-load : goal.include-returns-then-depth-eq0-clause-load
include-returns-then-depth-eq0-clause-load g t c =
    unloaded g.E.Entry.language _ _ _ c.told.result
    (told-no-load g.E.Entry.language g.met.E.Entry.load_alone _
    (λ cause f p h. other-no-load cause IncludeDepth (λ e. cc) h.0)
    c.fault.result c.told.result c.fault.ensures c.told.ensures)

pub include-returns-in-Err-clause-fault : goal.include-returns-in-Err-clause-fault
include-returns-in-Err-clause-fault g t c =
    told-then g.E.Entry.language _ _ c.in-Err.fault c.told-in-Err.result
    (broken-fault g.E.Entry.language (g.L.Library.told c.args.library.now) c.args.self.now.base.now _ c.args.source c.args.first c.args.depth
    (progress_of c.args.self.now) c.if-depth-eq0.false)
    c.in-Err.ensures.fault c.told-in-Err.ensures

pub include-returns-in-Err-clause-load : goal.include-returns-in-Err-clause-load
include-returns-in-Err-clause-load g t c =
    unloaded g.E.Entry.language _ _ _ c.told-in-Err.result
    (told-no-load g.E.Entry.language g.met.E.Entry.load_alone _ (syntax-no-load (file_of c.args.source) c.args.first)
    c.in-Err.fault c.told-in-Err.result c.in-Err.ensures.fault c.told-in-Err.ensures)

pub include-returns-in-Some-clause-load : goal.include-returns-in-Some-clause-load
include-returns-in-Some-clause-load g t c =
    unloaded g.E.Entry.language _ _ _ c.told-in-Some.result
    (told-no-load g.E.Entry.language g.met.E.Entry.load_alone _
    (λ cause f p h. other-no-load cause SelectionMissing selection-no-load h.0)
    c.fault-fault.result c.told-in-Some.result c.fault-fault.ensures c.told-in-Some.ensures)

pub include-loaded_name-requires : goal.include-loaded_name-requires
include-loaded_name-requires g t c =
    IsUtf8-from_ascii c.as_slice.result.now (subst IsAscii (sym c.as_slice.ensures) c.in-Ok.ensures.read.ascii)

pub include-returns-in_err-read-clause-fault : goal.include-returns-in_err-read-clause-fault
include-returns-in_err-read-clause-fault g t c =
    let language = g.E.Entry.language in
    let s = c.args.source in
    let base = c.args.self.now.base.now in
    let i = c.in-Ok.include in
    let k : Included base s c.args.first c.args.depth _ i c.as_str.result.now (selections c.as_slice-2.result.now) =
    record {
      lexed = c.requires.lexed;
      some = one-less c.args.depth c.if-depth-eq0.false;
      read = c.in-Ok.ensures.read;
      name_is = c.as_str.ensures.value ∙ c.in_ok-name.ensures ∙ ap (loaded_name base) c.as_slice.ensures;
      around_is = ap selections c.as_slice-2.ensures.value ∙ c.in_ok-around.ensures ∙ ap (λ ns. selections s.around.now ++ ns ∷ []) c.as_slice-names.ensures;
    } in
    err-passed _ _ _ c.from_residual-in_err-read.ensures.1
    (file-fault-then language _ _ _
    (included-fault language (g.L.Library.told c.args.library.now) base _ s c.args.first c.args.depth _ i _ _ (progress_of c.args.self.now) k)
    c.in_err-read.ensures.fault)

pub include-overflow_mul-index : goal.include-overflow_mul-index
include-overflow_mul-index g t c =
    let within = missing-within g.E.Entry.language c.as_slice-names.result.now _ c.in-Some.index (sym c.in-Some.is ∙ c.in_ok-missing.ensures) in
    let many = ap (λ (ns : List (List ℕ)). length ns) c.as_slice-names.ensures in
    omega (arith, within, many, c.in-Ok.ensures.read.room, c.in-Ok.ensures.fits)

pub include-overflow_add-first-in-Some : goal.include-overflow_add-first-in-Some
include-overflow_add-first-in-Some g t c =
    let within = missing-within g.E.Entry.language c.as_slice-names.result.now _ c.in-Some.index (sym c.in-Some.is ∙ c.in_ok-missing.ensures) in
    let many = ap (λ (ns : List (List ℕ)). length ns) c.as_slice-names.ensures in
    omega (arith, within, many, c.in-Ok.ensures.read.room, c.in-Ok.ensures.fits)

pub include-returns-in-Some-clause-fault : goal.include-returns-in-Some-clause-fault
include-returns-in-Some-clause-fault g t c =
    let language = g.E.Entry.language in
    let s = c.args.source in
    let base = c.args.self.now.base.now in
    let i = c.in-Ok.include in
    let k : Included base s c.args.first c.args.depth _ i c.as_str.result.now (selections c.as_slice-2.result.now) =
    record {
      lexed = c.requires.lexed;
      some = one-less c.args.depth c.if-depth-eq0.false;
      read = c.in-Ok.ensures.read;
      name_is = c.as_str.ensures.value ∙ c.in_ok-name.ensures ∙ ap (loaded_name base) c.as_slice.ensures;
      around_is = ap selections c.as_slice-2.ensures.value ∙ c.in_ok-around.ensures ∙ ap (λ ns. selections s.around.now ++ ns ∷ []) c.as_slice-names.ensures;
    } in
    told-then language _ _ c.fault-fault.result c.told-in-Some.result
    (λ cause f p h.
    missing-fault language (g.L.Library.told c.args.library.now) base _ s c.args.first c.args.depth _ i _ _ (progress_of c.args.self.now)
    (progress_of c.file.new.self) (map g.E.Entry.placed c.in_ok-read.read.items) c.in-Some.index k c.in_ok-read.ensures.read
    ((sym c.in-Some.is ∙ c.in_ok-missing.ensures)
    ∙ ap (λ (ns : List (List ℕ)). missing language ns (map g.E.Entry.placed c.as_slice-3.result.now)) c.as_slice-names.ensures
    ∙ ap (λ fs. missing language i.names (map g.E.Entry.placed fs)) c.as_slice-3.ensures.value)
    (language.cause cause) f p (ap language.cause h.0, h.1, h.2))
    c.fault-fault.ensures c.told-in-Some.ensures

pub include-returns-clause-read : goal.include-returns-clause-read
include-returns-clause-read g t c =
    let language = g.E.Entry.language in
    let s = c.args.source in
    let base = c.args.self.now.base.now in
    let i = c.in-Ok.include in
    let k : Included base s c.args.first c.args.depth _ i c.as_str.result.now (selections c.as_slice-2.result.now) =
    record {
      lexed = c.requires.lexed;
      some = one-less c.args.depth c.if-depth-eq0.false;
      read = c.in-Ok.ensures.read;
      name_is = c.as_str.ensures.value ∙ c.in_ok-name.ensures ∙ ap (loaded_name base) c.as_slice.ensures;
      around_is = ap selections c.as_slice-2.ensures.value ∙ c.in_ok-around.ensures ∙ ap (λ ns. selections s.around.now ++ ns ∷ []) c.as_slice-names.ensures;
    } in
    include-step language (g.L.Library.told c.args.library.now) base s c.args.first c.args.depth _ i _ _ (progress_of c.args.self.now)
    (progress_of c.file.new.self) (map g.E.Entry.placed c.in_ok-read.read.items) (map g.E.Entry.placed c.args.formulas.now.items) _ k
    c.in_ok-read.ensures.read
    ((sym c.in-None.is ∙ c.in_ok-missing.ensures)
    ∙ ap (λ (ns : List (List ℕ)). missing language ns (map g.E.Entry.placed c.as_slice-3.result.now)) c.as_slice-names.ensures
    ∙ ap (λ fs. missing language i.names (map g.E.Entry.placed fs)) c.as_slice-3.ensures.value)
    (c.in_ok-take-in-None.ensures
    ∙ ap (λ (ns : List (List ℕ)). map g.E.Entry.placed c.args.formulas.now.items ++ selected language ns (map g.E.Entry.placed c.in_ok-read.read.items))
    c.as_slice-names.ensures)

-- ---- text

pub text-returns-in-Some-clause-fault : goal.text-returns-in-Some-clause-fault
text-returns-in-Some-clause-fault g t c =
    told-then g.E.Entry.language _ _ c.end_fault.result c.told.result
    (text-end g.E.Entry.language c.args.depth c.args.self.now.base.now _ _ c.args.source (progress_of c.args.self.now) c.loop-next.next
    (map g.E.Entry.placed c.loop-next.formulas.items) (progress_of c.loop-next.self) c.in-Some.field-0 c.requires.lexed c.loop-next.invariant.read
    (omega (arith, c.loop-next-test.false, c.len.ensures)) c.in-Some.is)
    c.end_fault.ensures c.told.ensures

pub text-returns-in-Some-clause-load : goal.text-returns-in-Some-clause-load
text-returns-in-Some-clause-load g t c =
    unloaded g.E.Entry.language _ _ _ c.told.result
    (told-no-load g.E.Entry.language g.met.E.Entry.load_alone _
    (λ cause f p h. end-no-load c.args.source.lexed.now.fault (length c.args.source.bytes.now) cause p h.1)
    c.end_fault.result c.told.result c.end_fault.ensures c.told.ensures)

pub text-loop-next-preserved-then-is_include : goal.text-loop-next-preserved-then-is_include
text-loop-next-preserved-then-is_include g t c =
    let told = c.loop-next.invariant.told in
    let base = c.loop-next.invariant.base in
    let on = c.in_ok-next.ensures in
    record {
      read =
          include-on g.E.Entry.language _ _ _ _ c.args.depth c.args.source (progress_of c.args.self.now) c.loop-next.next c.in_ok-next.next
          (map g.E.Entry.placed c.loop-next.formulas.items) _ (progress_of c.loop-next.self) _ c.requires.lexed
          (omega (arith, c.loop-next-test.true, c.len.ensures))
          (sym c.is_include.ensures ∙ c.if-is_include.true) told (ap (λ b. b.now) base) c.loop-next.invariant.read on.read;
      told = on.told ∙ told;
      later = omega (arith, on.later, c.loop-next.invariant.later);
      base = on.base ∙ base;
    }

pub text-loop-next-preserved : goal.text-loop-next-preserved
text-loop-next-preserved g t c =
    let on = c.in_ok-next-2.ensures in
    record {
      read =
          formula-on g.E.Entry.language _ _ c.args.source (progress_of c.args.self.now) c.loop-next.next c.in_ok-next-2.next
          (map g.E.Entry.placed c.loop-next.formulas.items) _ (progress_of c.loop-next.self) _ c.requires.lexed
          (omega (arith, c.loop-next-test.true, c.len.ensures))
          (sym c.is_include.ensures ∙ c.if-is_include.false) c.loop-next.invariant.read on.read;
      told = c.loop-next.invariant.told;
      later = c.loop-next.invariant.later;
      base = on.base ∙ c.loop-next.invariant.base;
    }
