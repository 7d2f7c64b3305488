-- An accepted derivation is a refutation of the form by the kernel, and its lines are grounded.
use Rattle.std.proofs.Common.{◌≡◌, ℕ, Bool, true, false, List, [], ◌∷◌, ◌++◌, map, length, refl, ap, sym, subst}
use Rattle.std.specs.Prelude.{if◌then◌else◌}
use Rattle.std.proofs.lemmas.Bool.{and_parts, true≢false}
use Rattle.fol_base.specs.Clause.{clause_eq}
use Rattle.fol_base.specs.Ground.{is_over}
use Rattle.fol_base.specs.Literal.{clause_of}
use Rattle.tptp_tree.specs.declared.problem.Annotated.{Annotated}
use Rattle.signature.specs.Form.{clausal_form}
use Rattle.kernel_steps.specs.Conclusion.{empty_clause}
use Rattle.kernel_steps.specs.Derivation.{is_clause_step}
use Rattle.kernel_steps.specs.Soundness.{BindsOver}
use Rattle.kernel_steps.specs.declared.step.Line.{Line}
use Rattle.kernel_steps.proofs.AboutGrounding.GroundedLemmasLines.{lines_are_grounded, refutations_herbrand_refute}
use Rattle.clausal_form.specs.DerivationLine.{LineTree, NamedLine, Taken, kernel_lines}
use Rattle.clausal_form.specs.DerivationParts.{Setting, setting_of}
use Rattle.clausal_form.specs.DerivationCauses.{no_empty_clause}
use Rattle.clausal_form.specs.DerivationLines.{LinesVerdict, all_taken, refused_at, lines_verdict, ends_empty, accepted, refused_line, ended}
use Rattle.clausal_form.specs.DerivationLaws.{TakenLinesAreSteps, AcceptedLinesRefute, TakenLinesAreGrounded, AcceptedDerivationsRefute}
use Rattle.clausal_form.specs.FormFunctions.{functions_of, is_predicate_in, OwnFunctions, IsHerbrandRefuted}
use Rattle.clausal_form.proofs.AboutNaming.GivenLemmas.{clause_eq-says}
use Rattle.clausal_form.proofs.AboutNaming.TakenLemmas.{all-taken, taken-derivation}
use Rattle.clausal_form.proofs.AboutForms.SymbolTerms.{known-bound}
use Rattle.clausal_form.proofs.AboutForms.FunctionLemmas.{form-functions}

pub taken_lines_are_steps : TakenLinesAreSteps
taken_lines_are_steps problem ts e h =
    let s : Setting = setting_of problem in
    let all = all-taken (is_over (functions_of (s.form).symbols)) s ts e (known-bound s) h in
    (taken-derivation (is_over (functions_of (s.form).symbols)) s e all, all.bind)

-- ---- the last line

record LastLine (lines : List NamedLine) : Type 0 where
  pub before : List Line
  pub last : Line
  pub ends : map (λ (l : NamedLine). l.line) lines ≡ before ++ last ∷ []
  pub is_clause : is_clause_step last.step ≡ true
  pub is_empty : clause_of last.clause ≡ empty_clause

last_line : (lines : List NamedLine) → ends_empty lines ≡ true → LastLine lines
last_line [] h = absurd (true≢false (sym h))
last_line (l ∷ []) h =
    let parts = and_parts (is_clause_step (l.line).step) (clause_eq (clause_of (l.line).clause) empty_clause) h in
    record {
      before = [];
      last = l.line;
      ends = refl;
      is_clause = parts.0;
      is_empty = clause_eq-says (clause_of (l.line).clause) empty_clause parts.1;
    }
last_line (l ∷ m ∷ ls) h =
    let rest = last_line (m ∷ ls) h in
    record {
      before = l.line ∷ rest.before;
      last = rest.last;
      ends = ap (λ ms. l.line ∷ ms) rest.ends;
      is_clause = rest.is_clause;
      is_empty = rest.is_empty;
    }

ends : (b : Bool) (n m count : ℕ) → (if b then accepted n else refused_line m no_empty_clause) ≡ accepted count → b ≡ true
ends true n m count h = refl
ends false n m count h = absurd (cc)

pub accepted_lines_refute : AcceptedLinesRefute
accepted_lines_refute problem ts e count h answered =
    let last = last_line e.lines (ends (ends_empty e.lines) (length e.lines) (length e.lines) count answered) in
    record {
      derived = (taken_lines_are_steps problem ts e h).0;
      before = last.before;
      last = last.last;
      ends = last.ends;
      is_clause = last.is_clause;
      is_empty = last.is_empty;
    }

-- ---- grounded

binds-own :
    (problem : List Annotated) (own : OwnFunctions (clausal_form problem).symbols) (ts : List LineTree) (e : Taken)
    → lines_verdict (setting_of problem) ts ≡ all_taken e → BindsOver (own.functions).symbols (kernel_lines e)
binds-own problem own ts e h =
    subst (λ functions. BindsOver functions (kernel_lines e)) (sym own.are_all) (taken_lines_are_steps problem ts e h).1

pub taken_lines_are_grounded : TakenLinesAreGrounded
taken_lines_are_grounded problem own ts e h n line there is_clause =
    lines_are_grounded (is_predicate_in (clausal_form problem).symbols) own.functions (clausal_form problem).clauses (kernel_lines e)
    (binds-own problem own ts e h) (taken_lines_are_steps problem ts e h).0 n line there is_clause

accepted-from :
    (problem : List Annotated) (ts : List LineTree) (count : ℕ) (v : LinesVerdict) → lines_verdict (setting_of problem) ts ≡ v → ended v ≡ accepted count
    → IsHerbrandRefuted problem
accepted-from problem ts count (refused_at n cause) h answered = absurd (cc)
accepted-from problem ts count (all_taken e) h answered =
    let own = form-functions problem in
    record {
      own = own;
      refuted =
          refutations_herbrand_refute (is_predicate_in (clausal_form problem).symbols) own.functions (clausal_form problem).clauses (kernel_lines e)
          (binds-own problem own ts e h) (accepted_lines_refute problem ts e count h answered);
    }

pub accepted_derivations_refute : AcceptedDerivationsRefute
accepted_derivations_refute problem bytes count (ts, spelled, answered) =
    accepted-from problem ts count (lines_verdict (setting_of problem) ts) refl answered
