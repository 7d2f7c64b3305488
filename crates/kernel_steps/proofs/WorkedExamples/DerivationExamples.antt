-- The worked derivations: each line computes.
use Rattle.std.proofs.Common.{◌≡◌, ℕ, zero, suc, List, [], ◌∷◌, ◌++◌, take, refl, sym, subst, arith}
use Rattle.std.specs.Prelude.{Some, None, true, slice_get}
use Rattle.std.proofs.lemmas.List.{append_assoc, append-nil}
use Rattle.std.proofs.lemmas.Option.{none-some, same_Some}
use Rattle.plain_types.specs.Names.{positive_of, negative_of}
use Rattle.fol_base.specs.Clause.{TreeLiteral, TreeClause}
use Rattle.fol_base.specs.Ground.{is_ground_literal}
use Rattle.fol_base.specs.Examples.{x, p, q}
use Rattle.fol_base.specs.Literal.{clause_of}
use Rattle.kernel_steps.specs.Derivation.{component_clause, complement, IsComponent, IsOpposite, ComesBy, IsDerivation, IsRefutation, under_names}
use Rattle.kernel_steps.specs.Examples.{p₀, q₀, opposites, opposites_lines, implication, implication_lines, rewrites, rewrites_lines, components, components_lines, four_clauses, four_clauses_lines}
use Rattle.kernel_steps.specs.declared.step.Line.{Line}

-- each line comes about from the form and the lines before it
abbrev pub AllCome : List TreeClause → List Line → List Line → Type 0
AllCome form earlier [] = Unit {0}
AllCome form earlier (l ∷ ls) = ComesBy l.step form earlier (clause_of l.clause) × AllCome form (earlier ++ l ∷ []) ls

all_come :
    (form : List TreeClause) (earlier lines : List Line) → AllCome form earlier lines
    → (n : ℕ) (line : Line) → slice_get lines n ≡ Some line → ComesBy line.step form (earlier ++ take n lines) (clause_of line.clause)
all_come form earlier [] all n line at = absurd (none-some line at)
all_come form earlier (l ∷ ls) all zero line at =
    let P : List Line → Type 0 = λ before. ComesBy line.step form before (clause_of line.clause) in
    let Q : Line → Type 0 = λ m. ComesBy m.step form earlier (clause_of m.clause) in
    subst P (sym (append-nil earlier)) (subst Q (same_Some l line at) all.0)
all_come form earlier (l ∷ ls) all (suc n) line at =
    let P : List Line → Type 0 = λ before. ComesBy line.step form before (clause_of line.clause) in
    subst P (append_assoc earlier (l ∷ []) (take n ls)) (all_come form (earlier ++ l ∷ []) ls all.1 n line at)

pub derivation-from : (form : List TreeClause) (lines : List Line) → AllCome form [] lines → IsDerivation form lines
derivation-from form lines all = all_come form [] lines all

-- ---- the derivations

pub opposites_refuted : IsRefutation opposites (opposites_lines 3)
opposites_refuted = record {
  derived = derivation-from opposites (opposites_lines 3) (refl, (refl, (refl, (refl, (refl, tt)))));
  before = take 4 (opposites_lines 3);
  last = _;
  ends = refl;
  is_clause = refl;
  is_empty = refl;
}

pub implication_refuted : IsRefutation implication implication_lines
implication_refuted = record {
  derived =
      derivation-from implication implication_lines
      (refl, (refl, (refl, (refl, (refl, (refl, (refl, (refl, (refl, (refl, (refl, tt)))))))))));
  before = take 10 implication_lines;
  last = _;
  ends = refl;
  is_clause = refl;
  is_empty = refl;
}

pub rewrites_refuted : IsRefutation rewrites rewrites_lines
rewrites_refuted = record {
  derived =
      derivation-from rewrites rewrites_lines
      (refl, (refl, (refl, (refl, (refl, (refl, (refl, (refl, (refl, tt)))))))));
  before = take 8 rewrites_lines;
  last = _;
  ends = refl;
  is_clause = refl;
  is_empty = refl;
}

-- a component line for one literal
pub component-new :
    (name : ℕ) (earlier : List Line) (l : TreeLiteral)
    → component_clause name earlier ≡ None → IsComponent name earlier (under_names (l ∷ []) (negative_of name ∷ []))
component-new name earlier l is_new = record { is_new = is_new; some_literal = λ h. omega arith; one_name = refl }

pub opposite-of :
    (name : ℕ) (earlier : List Line) (l : TreeLiteral)
    → component_clause name earlier ≡ Some (under_names (l ∷ []) (negative_of name ∷ [])) → l.positive ≡ true → is_ground_literal l ≡ true
    → IsOpposite name earlier (under_names (complement l ∷ []) (positive_of name ∷ []))
opposite-of name earlier l introduced positive ground = record {
  component = under_names (l ∷ []) (negative_of name ∷ []);
  introduced = introduced;
  literal = l;
  one_literal = refl;
  positive = positive;
  ground = ground;
  complemented = refl;
  one_name = refl;
}

pub components_refuted : IsRefutation components components_lines
components_refuted = record {
  derived =
      derivation-from components components_lines (
        refl,
        (
          refl,
          (
            refl,
            (
              refl,
              (
                refl,
                (
                  refl,
                  (
                    component-new 0 (take 6 components_lines) (p (x 0)) refl,
                    (
                      component-new 1 (take 7 components_lines) (q (x 0)) refl,
                      (refl, (refl, (refl, (refl, (refl, (refl, tt)))))),
                    ),
                  ),
                ),
              ),
            ),
          ),
        ),
      );
  before = take 13 components_lines;
  last = _;
  ends = refl;
  is_clause = refl;
  is_empty = refl;
}

pub four_clauses_refuted : IsRefutation four_clauses four_clauses_lines
four_clauses_refuted = record {
  derived =
      derivation-from four_clauses four_clauses_lines (
        refl,
        (
          refl,
          (
            refl,
            (
              refl,
              (
                refl,
                (
                  refl,
                  (
                    refl,
                    (
                      refl,
                      (
                        component-new 0 (take 8 four_clauses_lines) p₀ refl,
                        (
                          component-new 1 (take 9 four_clauses_lines) q₀ refl,
                          (
                            opposite-of 0 (take 10 four_clauses_lines) p₀ refl refl refl,
                            (
                              opposite-of 1 (take 11 four_clauses_lines) q₀ refl refl refl,
                              (refl, (refl, (refl, (refl, (refl, (refl, (refl, tt))))))),
                            ),
                          ),
                        ),
                      ),
                    ),
                  ),
                ),
              ),
            ),
          ),
        ),
      );
  before = take 18 four_clauses_lines;
  last = _;
  ends = refl;
  is_clause = refl;
  is_empty = refl;
}
