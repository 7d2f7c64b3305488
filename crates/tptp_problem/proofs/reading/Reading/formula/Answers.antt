use Rattle.std.proofs.Common.{◌≡◌, [], ◌∷◌, true, false, map, sym, ap, ◌∙◌}
use Rattle.std.proofs.lemmas.List.{map-append}
use Rattle.tptp_reader.specs.declared.cause.ReadCause.TheVariants.{SecondConjecture}
use Rattle.tptp_problem.specs.Problem.{is_second}
use Rattle.tptp_problem.specs.declared.reading.Reading.{Reading}
use Rattle.tptp_problem.specs.Shape.{file_of, progress_of, selections}
use Rattle.tptp_problem.proofs.AboutReading.FaultLemmas.{file-fault-then, told-then, told-no-load, other-no-load, second-true, second-none, second-clear, second-fault, formula-fault, formula-step, met-then, conjecture-word}
use Rattle.list_lemmas.proofs.Results.{err-passed}
use Rattle.tptp_problem.proofs.reading.Reading.formula.Goals as goal
use Rattle.tptp_problem.proofs.reading.Reading.formula.Goals.{else-self-via-then-self+in_ok-begins_conjecture+else-branch, else-self-via-else-self, then-counts_as_conjecture, else-counts_as_conjecture}

pub returns-then-branch-clause-fault : goal.returns-then-branch-clause-fault
returns-then-branch-clause-fault g c =
    let s = c.args.source in
    let progress = progress_of c.args.self.now in
    told-then g.E.Entry.language _ _ c.fault-fault.result c.told.result
    (second-fault g.E.Entry.language s c.args.first progress c.requires.lexed
    (second-true g.E.Entry.language s c.args.first progress c.in_ok-begins_conjecture.field-0 c.requires.lexed
    (conjecture-word g.E.Entry.language s c.args.first _ _ c.conjecture_word.ensures c.in_ok-begins_conjecture.ensures.begins)
    c.if-self.true c.if-branch.true))
    c.fault-fault.ensures c.told.ensures

pub returns-then-branch-clause-no_load : goal.returns-then-branch-clause-no_load
returns-then-branch-clause-no_load g c =
    told-no-load g.E.Entry.language g.met.E.Entry.load_alone _
    (λ cause f p h. other-no-load cause SecondConjecture (λ e. cc) h.0)
    c.fault-fault.result c.told.result c.fault-fault.ensures c.told.ensures

pub returns-in_err-formula-clause-fault : goal.returns-in_err-formula-clause-fault
returns-in_err-formula-clause-fault g c =
    let s = c.args.source in
    let progress = progress_of c.args.self.now in
    let single : is_second g.E.Entry.language (file_of s) c.args.first progress ≡ false =
    elim c.else-self.branch [
      | else-self-via-then-self+in_ok-begins_conjecture+else-branch w
          ↦ second-none g.E.Entry.language s c.args.first progress w.in_ok-begins_conjecture.field-0 c.requires.lexed
          (conjecture-word g.E.Entry.language s c.args.first _ _ w.conjecture_word.ensures w.in_ok-begins_conjecture.ensures.begins)
          w.if-branch.false
      | else-self-via-else-self w ↦ second-clear g.E.Entry.language s c.args.first progress w.if-self.false
    ] in
    err-passed _ _ _ c.from_residual-in_err-formula.ensures.1
    (file-fault-then g.E.Entry.language _ _ _ (formula-fault g.E.Entry.language s c.args.first progress single) c.in_err-formula.ensures.fault)

pub returns-clause-read : goal.returns-clause-read
returns-clause-read g c =
    let language = g.E.Entry.language in
    let s = c.args.source in
    let start = progress_of c.args.self.now in
    let placed = g.E.Entry.placed c.in_ok-formula.formula in
    let single : is_second language (file_of s) c.args.first start ≡ false =
    elim c.else-self.branch [
      | else-self-via-then-self+in_ok-begins_conjecture+else-branch w
          ↦ second-none language s c.args.first start w.in_ok-begins_conjecture.field-0 c.requires.lexed
          (conjecture-word language s c.args.first _ _ w.conjecture_word.ensures w.in_ok-begins_conjecture.ensures.begins)
          w.if-branch.false
      | else-self-via-else-self w ↦ second-clear language s c.args.first start w.if-self.false
    ] in
    let kept : c.if-counts_as_conjecture.self.loaded ≡ c.args.self.now.loaded =
    elim c.if-counts_as_conjecture.branch [
      | then-counts_as_conjecture w ↦ ap (λ (r : Reading). r.loaded) w.self-is
      | else-counts_as_conjecture w ↦ ap (λ (r : Reading). r.loaded) w.self-is
    ] in
    let counted : c.counts_as_conjecture.result ≡ true → c.if-counts_as_conjecture.self.met ≡ true =
    λ h. elim c.if-counts_as_conjecture.branch [
      | then-counts_as_conjecture w ↦ ap (λ (r : Reading). r.met) w.self-is
      | else-counts_as_conjecture w ↦ absurd (let x : true ≡ false = sym h ∙ w.if-counts_as_conjecture.false in cc)
    ] in
    let uncounted : c.counts_as_conjecture.result ≡ false → c.if-counts_as_conjecture.self.met ≡ c.args.self.now.met =
    λ h. elim c.if-counts_as_conjecture.branch [
      | then-counts_as_conjecture w ↦ absurd (let x : true ≡ false = sym w.if-counts_as_conjecture.true ∙ h in cc)
      | else-counts_as_conjecture w ↦ ap (λ (r : Reading). r.met) w.self-is
    ] in
    record {
      added = placed ∷ [];
      joined = ap (map g.E.Entry.placed) c.in_ok-push.ensures.items ∙ map-append g.E.Entry.placed c.args.formulas.now.items _;
      step =
          formula-step language s c.args.first start (progress_of c.if-counts_as_conjecture.self) placed c.in_ok-formula.next single
          c.in_ok-formula.ensures.read
          (met-then language (selections s.around.now) placed start (progress_of c.if-counts_as_conjecture.self)
          c.counts_as_conjecture.result c.counts_as_conjecture.ensures kept counted uncounted);
    }
