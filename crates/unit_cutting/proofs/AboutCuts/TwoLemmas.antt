-- The line of a superposition of two clauses under terms for their variables: it is as a line has to be, and the kernel's verdict.
use Rattle.std.proofs.Common.{◌≡◌, ℕ, ◌<◌, ◌≤◌, Bool, true, false, ◌&&◌, Option, Some, List, [], ◌++◌, length, map, append-nil, refl, ap, ap₂, sym, ◌∙◌, subst}
use Rattle.std.specs.Prelude.{flat_map, nat_le, option_map}
use Rattle.std.specs.List.{AllByRecursion, list_all}
use Rattle.std.proofs.lemmas.Bool.{and_from, and_parts, cond-true}
use Rattle.std.proofs.lemmas.List.{length-map, map-append}
use Rattle.std.proofs.lemmas.Option.{same_Some}
use Rattle.plain_types.specs.declared.sequence.NameLit.{NameLit}
use Rattle.fol_base.specs.Tree.{Tree, is_truth, tree_size, trees_of, trees_variables}
use Rattle.fol_base.specs.Instance.{instance, substitution}
use Rattle.fol_base.specs.Clause.{TreeLiteral, TreeClause, LiteralVariablesBelow, literal_instance, literal_variables, clause_instance, clause_size, clause_variables}
use Rattle.fol_base.specs.Ground.{literals_instance}
use Rattle.fol_base.specs.Canonical.{bound_of, distinct, numbers_from, renaming}
use Rattle.fol_base.specs.Kind.{is_function_term, PutsFunctionTerms}
use Rattle.fol_base.specs.Literal.{clause_of}
use Rattle.fol_base.specs.Numbering.{with_variables}
use Rattle.fol_base.specs.Rules.{superposed}
use Rattle.fol_base.specs.declared.clause.Side.{Side}
use Rattle.fol_base.specs.declared.limits.TheConstants.{MOST_SYMBOLS, MOST_BOUND_SYMBOLS}
use Rattle.fol_base.proofs.WorkedExamples.TestLemmas.{list_all-map_from}
use Rattle.kernel_steps.specs.Conclusion.{binding_fault, binds, bound_literals, by_two, clause_with, concludes, verdict, verdict_of}
use Rattle.kernel_steps.specs.Lines.{has_small_sides, is_on_literals, is_small_term}
use Rattle.kernel_steps.specs.Names.{sorted_names}
use Rattle.kernel_steps.specs.Parents.{Parent, Parents}
use Rattle.kernel_steps.specs.Soundness.{binds_each, bindings_of}
use Rattle.kernel_steps.specs.Symbols.{symbols_pass}
use Rattle.kernel_steps.specs.declared.step.Line.{Line}
use Rattle.kernel_steps.specs.declared.step.Step.{Step}
use Rattle.eq_rules.proofs.AboutConclusions.BindingLemmas.{bound_functions, bound_small, bound_symbols}
use Rattle.eq_rules.proofs.AboutConclusions.ConclusionLemmas.{binds_renamed, bindings_numbered, conclusion_numbered, appended_variables}
use Rattle.eq_rules.proofs.AboutConclusions.WideLemmas.{renamed-size}
use Rattle.unit_cutting.specs.Superposing.{IsSuperposed, superposed_under}
use Rattle.unit_cutting.proofs.AboutLeaving.MoveLemmas.{IsGood}
use Rattle.unit_cutting.proofs.AboutCuts.SuperposingLemmas.{under-renamed}

-- terms for a clause's variables, as a step may bind them
pub record AreTerms (p : ℕ → Bool) (c : TreeClause) (terms : List Tree) : Type 0 where
  pub many : length terms ≡ bound_of (clause_variables c)
  pub below : AllByRecursion (LiteralVariablesBelow (length terms)) c.literals
  pub no_truth : (v : ℕ) → is_truth (substitution terms v) ≡ false
  pub bounded : clause_size (clause_instance (substitution terms) c) ≤ MOST_BOUND_SYMBOLS
  pub functions : PutsFunctionTerms p (substitution terms)
  pub small : (v : ℕ) → v < length terms → tree_size (substitution terms v) ≤ MOST_SYMBOLS

verdict_by_two :
    (first second : Option Parent) (a b e : TreeClause) (first_bind second_bind : List Tree)
    (rule : List TreeLiteral → List TreeLiteral → Option (List TreeLiteral))
    → first ≡ Some (record { clause = a; introduces = false }) → second ≡ Some (record { clause = b; introduces = false })
    → binds first_bind a ≡ true → binds second_bind b ≡ true
    → rule (bound_literals first_bind a) (bound_literals second_bind b) ≡ Some e.literals → e.names ≡ sorted_names (a.names ++ b.names)
    → by_two first first_bind second second_bind rule ≡ concludes e
verdict_by_two first second a b e first_bind second_bind rule first_there second_there first_bound second_bound gives names =
    ap₂ (λ (o q : Option Parent). by_two o first_bind q second_bind rule) first_there second_there
    ∙ cond-true (binds first_bind a && binds second_bind b)
    (verdict_of (option_map (clause_with (a.names ++ b.names)) (rule (bound_literals first_bind a) (bound_literals second_bind b)))) binding_fault
    (and_from (binds first_bind a) (binds second_bind b) first_bound second_bound)
    ∙ ap (λ o. verdict_of (option_map (clause_with (a.names ++ b.names)) o)) gives
    ∙ ap (λ (ns : List NameLit). let d : TreeClause = record { literals = e.literals; names = ns } in concludes d) (sym names)

renamed-sides : (order : List ℕ) (l : TreeLiteral) → has_small_sides l ≡ true → has_small_sides (literal_instance (renaming order) l) ≡ true
renamed-sides order l h =
    let both = and_parts (is_small_term l.left) (is_small_term l.right) h in
    and_from (is_small_term (instance (renaming order) l.left)) (is_small_term (instance (renaming order) l.right))
    (ap small (renamed-size order l.left) ∙ both.0) (ap small (renamed-size order l.right) ∙ both.1)
  where
    small : ℕ → Bool
    small n = nat_le n MOST_SYMBOLS

module _
    (p : ℕ → Bool) (a b : TreeClause) (first second i j : ℕ) (s z : Side) (left right : List Tree) (left_are : AreTerms p a left) (right_are : AreTerms p b right)
    (line : Line) (plain : List TreeLiteral)
    (given : superposed_under left a.literals i s right b.literals j z ≡ Some plain)
    (it : IsSuperposed a.literals left i s first b.literals right j z second (with_variables [] (flat_map literal_variables plain)) line) where
  abbrev d : TreeClause
  d = clause_of line.clause

  pub two-literals : d.literals ≡ literals_instance (renaming it.order) plain
  two-literals =
      same_Some d.literals (literals_instance (renaming it.order) plain)
      (sym it.gives
      ∙ under-renamed a.literals b.literals i s j z left right it.first_bind it.second_bind it.order left_are.below right_are.below
      it.first_renamed it.second_renamed plain given)

  bound-list : (test : Tree → Bool) → list_all test it.first_bind ≡ true → list_all test it.second_bind ≡ true → binds_each test line.step ≡ true
  bound-list test h k =
      ap (binds_each test) it.of_step
      ∙ and_from (list_all test it.first_bind) (list_all test it.second_bind && true) h (and_from (list_all test it.second_bind) true k refl)

  pub two-good : list_all has_small_sides plain ≡ true → IsGood p line
  two-good sides = record {
    kind = ap is_on_literals it.of_step;
    numbered = record {
      canonical = conclusion_numbered plain (trees_variables (trees_of (left ++ right))) it.order d it.order_met two-literals;
      bindings =
          subst (λ vs. distinct (clause_variables d ++ vs) ≡ numbers_from 0 (length (distinct (clause_variables d ++ vs)))) (sym bound-order)
          (bindings_numbered plain (left ++ right) (it.first_bind ++ it.second_bind) it.order d it.order_met both-renamed two-literals);
    };
    terms =
        bound-list (is_function_term p)
        (bound_functions p it.order left it.first_bind it.first_renamed left_are.functions)
        (bound_functions p it.order right it.second_bind it.second_renamed right_are.functions);
    small =
        and_from (list_all has_small_sides d.literals) (binds_each is_small_term line.step)
        (ap (list_all has_small_sides) two-literals
        ∙ list_all-map_from has_small_sides has_small_sides (literal_instance (renaming it.order)) (renamed-sides it.order) plain sides)
        (bound-list is_small_term
        (bound_small it.order left it.first_bind it.first_renamed left_are.small)
        (bound_small it.order right it.second_bind it.second_renamed right_are.small));
  }
    where
      both-renamed : it.first_bind ++ it.second_bind ≡ map (instance (renaming it.order)) (left ++ right)
      both-renamed = ap₂ ◌++◌ it.first_renamed it.second_renamed ∙ sym (map-append (instance (renaming it.order)) left right)

      bound-order :
          flat_map (λ b. trees_variables (trees_of b)) (bindings_of line.step) ≡ trees_variables (trees_of (it.first_bind ++ it.second_bind))
      bound-order =
          ap (λ (st : Step). flat_map (λ b. trees_variables (trees_of b)) (bindings_of st)) it.of_step
          ∙ ap (λ vs. trees_variables (trees_of it.first_bind) ++ vs) (append-nil (trees_variables (trees_of it.second_bind)))
          ∙ sym (appended_variables it.first_bind it.second_bind)

  pub two-verdict :
      (parents : Parents) → parents first ≡ Some (record { clause = a; introduces = false }) → parents second ≡ Some (record { clause = b; introduces = false })
      → d.names ≡ sorted_names (a.names ++ b.names) → verdict line.step parents ≡ concludes d
  two-verdict parents first_there second_there names =
      ap (λ st. verdict st parents) it.of_step
      ∙ verdict_by_two (parents first) (parents second) a b d it.first_bind it.second_bind (λ ls ks. superposed ls i s ks j z []) first_there second_there
      (binds_renamed a it.order left it.first_bind it.first_renamed
      (ap length it.first_renamed ∙ length-map left (instance (renaming it.order)) ∙ left_are.many) left_are.below left_are.no_truth left_are.bounded)
      (binds_renamed b it.order right it.second_bind it.second_renamed
      (ap length it.second_renamed ∙ length-map right (instance (renaming it.order)) ∙ right_are.many) right_are.below right_are.no_truth right_are.bounded)
      it.gives names

  pub two-symbols :
      (test : ℕ → ℕ → Bool) → ((v : ℕ) → v < length left → symbols_pass test (substitution left v) ≡ true)
      → ((v : ℕ) → v < length right → symbols_pass test (substitution right v) ≡ true) → binds_each (symbols_pass test) line.step ≡ true
  two-symbols test h k =
      bound-list (symbols_pass test) (bound_symbols test it.order left it.first_bind it.first_renamed h)
      (bound_symbols test it.order right it.second_bind it.second_renamed k)
