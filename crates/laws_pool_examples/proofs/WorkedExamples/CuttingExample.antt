-- A worked batch by which the given clause goes: the negation of p(a), which p(a) cuts.
use Rattle.std.proofs.Common.{◌≡◌, ℕ, zero, suc, Bool, true, ◌&&◌, [], ◌∷◌, refl, sym, ◌∙◌, subst, inr}
use Rattle.std.specs.Prelude.{Some, slice_get, take, IsTrue}
use Rattle.std.proofs.lemmas.Bool.{and_from}
use Rattle.std.proofs.lemmas.Option.{none-some, same_Some}
use Rattle.std.proofs.lemmas.List.Elements.{All-nil, All-cons}
use Rattle.fol_base.specs.Tree.{true_tree, true_symbol}
use Rattle.fol_base.specs.Clause.{TreeClause}
use Rattle.fol_base.specs.Literal.{clause_of}
use Rattle.fol_base.specs.Subsumption.{Subsumes}
use Rattle.fol_base.specs.Examples.{a, p, clause, is_predicate}
use Rattle.kernel_steps.specs.Conclusion.{verdict, concludes}
use Rattle.kernel_steps.specs.Derivation.{continued}
use Rattle.kernel_steps.specs.Examples.{not_p, not_true, opposites}
use Rattle.kernel_steps.specs.Lines.{clause_parents, IsNumbered}
use Rattle.kernel_steps.specs.Symbols.{symbols_pass}
use Rattle.kernel_steps.specs.declared.step.TheConstants.{CLAUSE_NUMBERS}
use Rattle.kernel_steps.specs.declared.step.Line.{Line}
use Rattle.kernel_steps.specs.declared.step.Step.TheVariants as step
use Rattle.laws_calculus.specs.Lifting.{among, IsMember}
use Rattle.pool_history.specs.Record.{GivenJob, clauses_of}
use Rattle.kernel_steps.specs.FromTrees.{line_of}
use Rattle.pool_history.specs.Reduction.{Lookup, AreLinesFrom}
use Rattle.pool_history.specs.Batches.{is_told_beside, told_clauses, IsReducedBeside, IsRightGone}
use Rattle.pool_history.specs.Lawful.{IsLawful}
use Rattle.pool_history.specs.Replay.{Origin, start}
use Rattle.laws_pool_examples.specs.Examples.{pool_of, cut, batch_line, para_at_roots, return}
use Rattle.pool_history.specs.declared.batch.Work.TheVariants as work
use Rattle.pool_history.specs.declared.event.Event.TheVariants as event
use Rattle.laws_pool_examples.proofs.WorkedExamples.MeetingExample.{none-when}
use Rattle.laws_pool_examples.proofs.WorkedExamples.EntryExample.{no_subsuming, no_step_of_empty}
use Rattle.laws_pool_examples.proofs.WorkedExamples.ReturnExamples.{cutting}

abbrev origin : Origin
origin = pool_of opposites

abbrev registered : Lookup
registered = clauses_of (start origin)

-- the job on the negation, which was told both clauses
abbrev job : GivenJob
job = record { job = 2; number = 1; told = 0 ∷ 1 ∷ []; as_of = 2; left = 100 }

abbrev told : Lookup
told = told_clauses is_predicate origin.options registered job

-- ---- the lines

abbrev superposed_line : Line
superposed_line = line_of (para_at_roots 0 1 [] []) (clause (not_true ∷ []))

abbrev resolved_line : Line
resolved_line = line_of (step.Refl (batch_line 0) 0 []) (clause [])

-- `$true` passes where its symbol does
pub truth-passes : (test : ℕ → ℕ → Bool) → IsTrue (test true_symbol 0) → IsTrue (symbols_pass test true_tree)
truth-passes test truth = and_from (test true_symbol 0) true truth refl

are_lines : AreLinesFrom is_predicate told (superposed_line ∷ resolved_line ∷ [])
are_lines = record {
  lines_right =
      record {
        kinds = refl;
        steps = steps;
        numbered =
            All-cons IsNumbered superposed_line (resolved_line ∷ []) (record { canonical = refl; bindings = refl })
            (All-cons IsNumbered resolved_line [] (record { canonical = refl; bindings = refl }) (All-nil _));
        terms = refl;
        small = refl;
      };
  symbols = λ test truth each.
      let t = truth-passes test truth in
      let both : IsTrue (symbols_pass test true_tree && symbols_pass test true_tree) = and_from (symbols_pass test true_tree) (symbols_pass test true_tree) t t in (
        and_from ((symbols_pass test true_tree && symbols_pass test true_tree) && true) true
            (and_from (symbols_pass test true_tree && symbols_pass test true_tree) true both refl) refl,
        refl,
      );
}
  where
    steps :
        (n : ℕ) (l : Line) → slice_get (superposed_line ∷ resolved_line ∷ []) n ≡ Some l
        → verdict l.step (continued CLAUSE_NUMBERS (clause_parents told) (take n (superposed_line ∷ resolved_line ∷ [])))
        ≡ concludes (clause_of l.clause)
    steps zero l there =
        subst (λ (k : Line). verdict k.step (continued CLAUSE_NUMBERS (clause_parents told) []) ≡ concludes (clause_of k.clause))
        (same_Some superposed_line l there) refl
    steps (suc zero) l there =
        subst (λ (k : Line). verdict k.step (continued CLAUSE_NUMBERS (clause_parents told) (superposed_line ∷ [])) ≡ concludes (clause_of k.clause))
        (same_Some resolved_line l there) refl
    steps (suc (suc n)) l there = absurd (none-some l there)

-- ---- the empty clause is irreducible

is-unit : (d : TreeClause) (n : ℕ) → among (is_told_beside job 1) registered n ≡ Some d → clause (p a ∷ []) ≡ d
is-unit d zero there = same_Some (clause (p a ∷ [])) d there
is-unit d (suc zero) there = absurd (none-some d there)
is-unit d (suc (suc n)) there =
    absurd (none-some d (sym (none-when (is_told_beside job 1 (suc (suc n))) (registered (suc (suc n))) refl) ∙ there))

irreducible : IsReducedBeside is_predicate origin.options registered job 1 (clause [])
irreducible = record {
  no_step = no_step_of_empty (IsMember (is_told_beside job 1) registered);
  no_tautology = refl;
  not_subsumed = λ s.
      no_subsuming (p a) []
      (subst (λ (u : TreeClause). Subsumes is_predicate u (clause [])) (sym (is-unit s.clause s.holds.0 s.holds.1)) s.does);
}

-- ---- the history is lawful

going : IsRightGone is_predicate origin.options registered job cut
going = record {
  victim = refl;
  right =
      record {
        clause = clause (not_p a ∷ []);
        there = refl;
        are_lines = are_lines;
        move = record { by = Some 0; gives = clause [] };
        moves = [];
        result = clause [];
        reduced =
            record {
              moved = (
                record {
                  result = clause [];
                  step = record { clause = clause (p a ∷ []); there = refl; infers = inr cutting };
                  canonical = refl;
                },
                tt,
              );
              ends = refl;
              led = refl;
            };
        justified = refl;
        given = refl;
      };
  irreducible = λ made led.
      subst (IsReducedBeside is_predicate origin.options registered job 1) (same_Some (clause []) made led) irreducible;
}

pub cut_goes : IsLawful is_predicate origin (event.Claim 1 ∷ event.Claim 2 ∷ return 2 (work.Gone cut) ∷ [])
cut_goes = (
  ((refl, refl), refl, refl),
  (((refl, refl), refl, refl), (record { given = job; out = refl; says = (refl, refl, going) }, tt)),
)
