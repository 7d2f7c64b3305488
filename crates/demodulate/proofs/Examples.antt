-- Worked outcomes, and what is none.
use Rattle.std.proofs.Common.{◌≡◌, ℕ, zero, suc, Bool, true, false, not, List, [], ◌∷◌, refl, sym, subst, ◌==◌, inl, inr, ⊎_elim}
use Rattle.std.specs.Prelude.{None, Some, if◌then◌else◌}
use Rattle.std.proofs.lemmas.Bool.{true≢false}
use Rattle.std.proofs.lemmas.Option.{none-some}
use Rattle.std.proofs.lemmas.List.Elements.{All-nil}
use Rattle.fol_base.specs.Clause.{TreeLiteral, TreeClause}
use Rattle.fol_base.specs.Examples.{a, b, c, f, p, all_a, clause, equation, is_predicate}
use Rattle.fol_base.specs.Rules.{disequation, merged, resolved}
use Rattle.fol_base.specs.Subsumption.{Subsumes}
use Rattle.kernel_steps.specs.Inference.{DropsTrivial, MergesEqual, Reduces}
use Rattle.kernel_steps.specs.Lines.{IsNumbered}
use Rattle.kernel_steps.proofs.WorkedExamples.ReductionExamples.{rewritten}
use Rattle.reduced_clause.specs.Examples.{given, reduced_to, units}
use Rattle.reduced_clause.specs.Reduced.{IsReduced}
use Rattle.demodulate.specs.Examples.{alone, as_it_was, members}
use Rattle.demodulate.specs.Simplified.{IsOutcome}
use Rattle.demodulate.specs.Usable.{IsAmong, without}
use Rattle.demodulate.specs.declared.simplifying.Simplified.TheVariants.{Subsumed}

-- ---- p(a) where it is left out

neither : {X : Type 0} (b : Bool) (x : X) → (if b then None else None) ≡ Some x → ⊥
neither true x e = none-some x e
neither false x e = none-some x e

none_among : (n : ℕ) (d : TreeClause) → without (Some 0) members n ≡ Some d → ⊥
none_among zero d there = none-some d there
none_among (suc n) d there = neither (not (suc n == 0)) d there

nothing_dropped : (i : ℕ) (ls : List TreeLiteral) → resolved alone.literals i ≡ Some ls → ⊥
nothing_dropped zero ls gives = none-some ls gives
nothing_dropped (suc i) ls gives = none-some ls gives

nothing_merged : (stays goes : ℕ) (ls : List TreeLiteral) → merged alone.literals stays goes ≡ Some ls → ⊥
nothing_merged zero zero ls gives = none-some ls gives
nothing_merged zero (suc j) ls gives = neither (0 == suc j) ls gives
nothing_merged (suc i) zero ls gives = neither (suc i == 0) ls gives
nothing_merged (suc i) (suc j) ls gives = neither (suc i == suc j) ls gives

no_step : (d : TreeClause) → Reduces is_predicate (IsAmong (without (Some 0) members)) alone d → ⊥
no_step d step =
    ⊎_elim
    (λ (drops : DropsTrivial alone d). nothing_dropped drops.i d.literals drops.gives)
    (λ more.
    ⊎_elim
    (λ (merges : MergesEqual alone d). nothing_merged merges.stays merges.goes d.literals merges.gives)
    (λ by.
    ⊎_elim
    (λ rewrites. none_among rewrites.holds.number rewrites.clause rewrites.holds.there)
    (λ cuts. none_among cuts.holds.number cuts.clause cuts.holds.there)
    by)
    more)
    step

unreduced : IsReduced is_predicate (without (Some 0) members) alone (reduced_to (p a ∷ []) [] [])
unreduced = record {
  are_lines =
      record {
        kinds = refl;
        steps = λ k line there. absurd (none-some line there);
        numbered = All-nil IsNumbered;
        terms = refl;
        small = refl;
      };
  ends = refl;
  symbols = λ test truth pass all. refl;
  used = refl;
  moves = [];
  moved = tt;
  moved_to = refl;
  by_used = All-nil _;
  all_used = All-nil _;
  some_moved = λ none. refl;
}

pub stays : IsOutcome is_predicate (without (Some 0) members) alone (as_it_was (p a))
stays = (
  unreduced,
  record {
    no_step = no_step;
    no_tautology = refl;
    not_subsumed = λ by. none_among by.holds.number by.clause by.holds.there;
  },
)

pub left_out : IsOutcome is_predicate (without (Some 0) members) alone (Subsumed 0) → ⊥
left_out it = none-some it.by it.there

-- ---- where it isn't

itself : Subsumes is_predicate alone alone
itself = record { matcher = all_a; function_terms = λ v. refl; places = 0 ∷ []; different = refl; mapped = refl; asserted = refl }

pub subsumed : IsOutcome is_predicate (without None members) alone (Subsumed 0)
subsumed = record {
  result = alone;
  leads = record { moves = []; are_moves = tt; ends = refl };
  by = alone;
  there = refl;
  subsumes = itself;
}

pub not_subsumed : IsOutcome is_predicate (without None members) alone (as_it_was (p a)) → ⊥
not_subsumed it = it.1.not_subsumed (record { clause = alone; holds = record { number = 0; there = refl }; does = itself })

-- ---- other refused ones

pub tautology : IsOutcome is_predicate units (clause (equation a a ∷ [])) (as_it_was (equation a a)) → ⊥
tautology it = true≢false it.1.no_tautology

-- a step by clauses that satisfy one predicate is one by those of another
by-more :
    (Few Many : TreeClause → Type 0) (c d : TreeClause)
    → ((e : TreeClause) → Few e → Many e) → Reduces is_predicate Few c d → Reduces is_predicate Many c d
by-more Few Many c d more step =
    ⊎_elim
    (λ drops. inl drops)
    (λ rest.
    ⊎_elim
    (λ merges. inr (inl merges))
    (λ by.
    ⊎_elim
    (λ rewrites. inr (inr (inl (record { clause = rewrites.clause; holds = more rewrites.clause rewrites.holds; does = rewrites.does }))))
    (λ cuts. inr (inr (inr (record { clause = cuts.clause; holds = more cuts.clause cuts.holds; does = cuts.does }))))
    by)
    rest)
    step

pub still_rewritten : IsOutcome is_predicate units given (as_it_was (disequation (f b) c)) → ⊥
still_rewritten it =
    it.1.no_step (clause (disequation (f a) c ∷ []))
    (by-more (λ e. e ≡ clause (equation a b ∷ [])) (IsAmong units) given (clause (disequation (f a) c ∷ []))
    (λ e same. subst (IsAmong units) (sym same) (record { number = 0; there = refl })) rewritten)
