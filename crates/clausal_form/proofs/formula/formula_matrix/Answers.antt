use Rattle.std.proofs.Common.{not, subst, sym, arith}
use Rattle.tptp_tree.specs.Entries.{is_conjecture}
use Rattle.signature.specs.Occurrences.{formula_symbols}
use Rattle.signature.specs.Environment.{closed}
use Rattle.formula_nnf.specs.NormalForm.{normal_form}
use Rattle.formula_nnf.specs.Shape.{nnf_tree}
use Rattle.tptp_tree.specs.declared.problem.Annotated.{Annotated}
use Rattle.tptp_tree.specs.Shape.{formula_of}
use Rattle.tptp_tree.specs.Formula.{FormulaTree}
use Rattle.std.proofs.Common.{◌≡◌, List}
use Rattle.signature.specs.declared.symbol.Symbol.{Symbol}
use Rattle.skolem.specs.Skolemized.{AreKnown, skolemized_form}
use Rattle.clausal_form.specs.declared.fault.FormCause.TheVariants.{TooHeavy}
use Rattle.skolem.proofs.AboutFormulas.ProblemLemmas.{normal_form_keeps_known_symbols}
use Rattle.clausal_form.proofs.AboutNaming.NameLemmas.{closed-known}
use Rattle.clausal_form.proofs.AboutCounts.PassingLemmas.{cause-of-form, outline-passes, heavy-form-of, heavy-end-of, written-over, over-end-of}
use Rattle.clausal_form.proofs.formula.formula_matrix.Goals as goal

-- the normal form has known symbols alone
form-known :
    (known : List Symbol) (a : Annotated) (f : FormulaTree)
    → f ≡ normal_form (closed a) (not (is_conjecture a.role)) → AreKnown known (formula_symbols (formula_of a.formula)) → AreKnown known (formula_symbols f)
form-known known a f e k =
    subst (λ g. AreKnown known (formula_symbols g)) (sym e)
    (normal_form_keeps_known_symbols known (closed a) (not (is_conjecture a.role)) (closed-known known a k))

pub largest_clause-requires : goal.largest_clause-requires
largest_clause-requires c =
    record { known = form-known c.args.signature.now c.args.annotated.now _ c.in_ok-form.ensures c.requires.known }

pub skolemize-requires : goal.skolemize-requires
skolemize-requires c =
    record { known = form-known c.args.signature.now c.args.annotated.now _ c.in_ok-form.ensures c.requires.known }

pub cause_over_total-requires : goal.cause_over_total-requires
cause_over_total-requires c =
    record {
      known = form-known c.args.signature.now c.args.annotated.now _ c.in_ok-form.ensures c.requires.known;
      over = written-over c.args.signature.now (nnf_tree c.in_ok-form.form) (omega (arith, c.form_weight-weight.ensures.symbols));
    }

pub cause_over_total-requires-in-Err-TotalLimit : goal.cause_over_total-requires-in-Err-TotalLimit
cause_over_total-requires-in-Err-TotalLimit c =
    record {
      known = form-known c.args.signature.now c.args.annotated.now _ c.in_ok-form.ensures c.requires.known;
      over = over-end-of c.args.signature.now (nnf_tree c.in_ok-form.form) c.in-Err-TotalLimit.field-0 c.in-Err-TotalLimit.field-0-is c.in-Err-TotalLimit.ensures.ended;
    }

pub returns-then-weight : goal.returns-then-weight
returns-then-weight c =
    heavy-form-of c.args.signature.now c.args.annotated.now _ _ c.in_ok-form.ensures c.form_weight-weight.ensures.heavy c.if-weight.true

pub returns-then-size-gt-MOST_SYMBOLS : goal.returns-then-size-gt-MOST_SYMBOLS
returns-then-size-gt-MOST_SYMBOLS c =
    cause-of-form c.args.signature.now c.args.annotated.now _ TooHeavy c.in_ok-form.ensures
    (outline-passes (skolemized_form c.args.signature.now (nnf_tree c.in_ok-form.form)).matrix c.in_ok-size.size c.in_ok-size.ensures
    (omega (arith, c.if-size-gt-MOST_SYMBOLS.true)))

pub returns-in-Err-TooHeavy : goal.returns-in-Err-TooHeavy
returns-in-Err-TooHeavy c =
    heavy-end-of c.args.signature.now c.args.annotated.now _ c.in-Err-TooHeavy.field-0 c.in_ok-form.ensures c.in-Err-TooHeavy.field-0-is
    c.in-Err-TooHeavy.ensures.ended
