-- The worked examples: derivations and clauses over the symbols of the base's examples.
use Rattle.std.specs.Prelude.{ℕ, zero, suc, ◌+◌, true, false, List, [], ◌∷◌, option_map, slice_get}
use Rattle.plain_types.specs.declared.sequence.NameLit.{NameLit}
use Rattle.plain_types.specs.Names.{positive_of, negative_of}
use Rattle.fol_base.specs.Tree.{Tree, application, no_trees, true_tree}
use Rattle.fol_base.specs.Clause.{TreeLiteral, TreeClause}
use Rattle.fol_base.specs.Examples.{x, a, b, c, f, p, q, equation, clause}
use Rattle.fol_base.specs.Rules.{disequation}
use Rattle.fol_base.specs.declared.clause.Side.TheVariants.{Left, Right}
use Rattle.kernel_steps.specs.Parents.{Parent, Parents}
use Rattle.kernel_steps.specs.Derivation.{complement, under_names}
use Rattle.kernel_steps.specs.FromTrees.{line_of}
use Rattle.kernel_steps.specs.declared.step.TheConstants.{CLAUSE_NUMBERS}
use Rattle.kernel_steps.specs.declared.step.Step.{Step}
use Rattle.kernel_steps.specs.declared.step.Step.TheVariants.{Input, Negate, Clausify, Para, Refl, Component, Opposite, Split, Chain}
use Rattle.kernel_steps.specs.declared.step.Line.{Line}

-- ---- literals and clauses

abbrev pub not_p : Tree → TreeLiteral
not_p t = complement (p t)

abbrev pub not_q : Tree → TreeLiteral
not_q t = complement (q t)

abbrev pub not_true : TreeLiteral
not_true = disequation true_tree true_tree

-- nullary atoms
abbrev pub p₀ : TreeLiteral
p₀ = equation (application 6 no_trees) true_tree

abbrev pub q₀ : TreeLiteral
q₀ = equation (application 7 no_trees) true_tree

-- f(..f(a)..)
abbrev pub tower : ℕ → Tree
tower zero = a
tower (suc n) = f (tower n)

-- a clause of names alone
abbrev pub names_only : List NameLit → TreeClause
names_only names = under_names [] names

-- a parent whose line introduces no name
abbrev pub conclusion : TreeClause → Parent
conclusion d = record { clause = d; introduces = false }

-- a parent with these literals whose line introduces a name
abbrev pub definition : List TreeLiteral → Parent
definition ls = record { clause = clause ls; introduces = true }

-- clauses as parents, by their places
abbrev pub listed : List TreeClause → Parents
listed cs n = option_map conclusion (slice_get cs n)

-- ---- lines

abbrev pub named_line : Step → List TreeLiteral → List NameLit → Line
named_line step ls names = line_of step (under_names ls names)

abbrev pub line : Step → List TreeLiteral → Line
line step ls = named_line step ls []

-- the line that introduces the name 0 for literals
abbrev pub introduced : List TreeLiteral → List Line
introduced ls = named_line (Component 0) ls (negative_of 0 ∷ []) ∷ []

-- ---- p(a) and its negation

abbrev pub opposites : List TreeClause
opposites = clause (p a ∷ []) ∷ clause (not_p a ∷ []) ∷ []

-- the clauses of p(a), where its negation is about b
abbrev pub unrelated : List TreeClause
unrelated = clause (p a ∷ []) ∷ clause (not_p b ∷ []) ∷ []

-- the clauses of p(x) for all x, and not p(a)
abbrev pub general : List TreeClause
general = clause (p (x 0) ∷ []) ∷ clause (not_p a ∷ []) ∷ []

-- the clauses, p(a) = $true put into the third line, and the empty clause, from the parent given
abbrev pub opposites_with : Line → ℕ → List Line
opposites_with negation parent =
    line (Input 0) []
    ∷ line (Clausify 0) (p a ∷ [])
    ∷ negation
    ∷ line (Para 1 2 0 Left 0 Left [] [] []) (not_true ∷ [])
    ∷ line (Refl parent 0 []) []
    ∷ []

-- where the third line is the negation of p(a)
abbrev pub opposites_lines : ℕ → List Line
opposites_lines = opposites_with (line (Clausify 1) (not_p a ∷ []))

-- the lines that reduce the negation of p(a) by p(a), which has the number 0
abbrev pub reducing_lines : List Line
reducing_lines =
    line (Para 0 CLAUSE_NUMBERS 0 Left 0 Left [] [] []) (not_true ∷ [])
    ∷ line (Refl (CLAUSE_NUMBERS + 1) 0 []) []
    ∷ []

-- ---- one implication: p implies q, and p(a), but not q(a)

abbrev pub implication : List TreeClause
implication = clause (not_p (x 0) ∷ q (x 0) ∷ []) ∷ clause (p a ∷ []) ∷ clause (not_q a ∷ []) ∷ []

abbrev pub implication_lines : List Line
implication_lines =
    line (Input 0) []
    ∷ line (Input 1) []
    ∷ line (Input 2) []
    ∷ line (Negate 2) []
    ∷ line (Clausify 0) (not_p (x 0) ∷ q (x 0) ∷ [])
    ∷ line (Clausify 1) (p a ∷ [])
    ∷ line (Clausify 2) (not_q a ∷ [])
    ∷ line (Para 5 4 0 Left 0 Left [] [] (a ∷ [])) (not_true ∷ q a ∷ [])
    ∷ line (Refl 7 0 []) (q a ∷ [])
    ∷ line (Para 8 6 0 Left 0 Left [] [] []) (not_true ∷ [])
    ∷ line (Refl 9 0 []) []
    ∷ []

-- ---- two rewrites: a = b and f(a) = c, but f(b) != c

abbrev pub rewrites : List TreeClause
rewrites = clause (equation a b ∷ []) ∷ clause (equation (f a) c ∷ []) ∷ clause (disequation (f b) c ∷ []) ∷ []

abbrev pub rewrites_lines : List Line
rewrites_lines =
    line (Input 0) []
    ∷ line (Input 1) []
    ∷ line (Input 2) []
    ∷ line (Clausify 0) (equation a b ∷ [])
    ∷ line (Clausify 1) (equation (f a) c ∷ [])
    ∷ line (Clausify 2) (disequation (f b) c ∷ [])
    ∷ line (Para 3 5 0 Right 0 Left (0 ∷ []) [] []) (disequation (f a) c ∷ [])
    ∷ line (Para 4 6 0 Left 0 Left [] [] []) (disequation c c ∷ [])
    ∷ line (Refl 7 0 []) []
    ∷ []

-- ---- two components: p(X) or q(Y), but neither p(a) nor q(b)

abbrev pub components : List TreeClause
components = clause (p (x 0) ∷ q (x 1) ∷ []) ∷ clause (not_p a ∷ []) ∷ clause (not_q b ∷ []) ∷ []

abbrev pub components_lines : List Line
components_lines =
    line (Input 0) []
    ∷ line (Input 1) []
    ∷ line (Input 2) []
    ∷ line (Clausify 0) (p (x 0) ∷ q (x 1) ∷ [])
    ∷ line (Clausify 1) (not_p a ∷ [])
    ∷ line (Clausify 2) (not_q b ∷ [])
    ∷ named_line (Component 0) (p (x 0) ∷ []) (negative_of 0 ∷ [])
    ∷ named_line (Component 1) (q (x 0) ∷ []) (negative_of 1 ∷ [])
    ∷ named_line (Split 3 (6 ∷ 7 ∷ []) ((0 ∷ []) ∷ (1 ∷ []) ∷ [])) [] (positive_of 0 ∷ positive_of 1 ∷ [])
    ∷ named_line (Para 6 4 0 Left 0 Left [] (a ∷ []) []) (not_true ∷ []) (negative_of 0 ∷ [])
    ∷ named_line (Refl 9 0 []) [] (negative_of 0 ∷ [])
    ∷ named_line (Para 7 5 0 Left 0 Left [] (b ∷ []) []) (not_true ∷ []) (negative_of 1 ∷ [])
    ∷ named_line (Refl 11 0 []) [] (negative_of 1 ∷ [])
    ∷ line (Chain (8 ∷ 10 ∷ 12 ∷ []) (positive_of 0 ∷ positive_of 1 ∷ [])) []
    ∷ []

-- ---- signed names: the four clauses of p and q, where a literal and its complement share a name

abbrev pub four_clauses : List TreeClause
four_clauses =
    clause (p₀ ∷ q₀ ∷ [])
    ∷ clause (complement p₀ ∷ q₀ ∷ [])
    ∷ clause (p₀ ∷ complement q₀ ∷ [])
    ∷ clause (complement p₀ ∷ complement q₀ ∷ [])
    ∷ []

abbrev pub halves : List (List ℕ)
halves = (0 ∷ []) ∷ (1 ∷ []) ∷ []

abbrev pub four_clauses_lines : List Line
four_clauses_lines =
    line (Input 0) []
    ∷ line (Input 1) []
    ∷ line (Input 2) []
    ∷ line (Input 3) []
    ∷ line (Clausify 0) (p₀ ∷ q₀ ∷ [])
    ∷ line (Clausify 1) (complement p₀ ∷ q₀ ∷ [])
    ∷ line (Clausify 2) (p₀ ∷ complement q₀ ∷ [])
    ∷ line (Clausify 3) (complement p₀ ∷ complement q₀ ∷ [])
    ∷ named_line (Component 0) (p₀ ∷ []) (negative_of 0 ∷ [])
    ∷ named_line (Component 1) (q₀ ∷ []) (negative_of 1 ∷ [])
    ∷ named_line (Opposite 0) (complement p₀ ∷ []) (positive_of 0 ∷ [])
    ∷ named_line (Opposite 1) (complement q₀ ∷ []) (positive_of 1 ∷ [])
    ∷ named_line (Split 4 (8 ∷ 9 ∷ []) halves) [] (positive_of 0 ∷ positive_of 1 ∷ [])
    ∷ named_line (Split 5 (10 ∷ 9 ∷ []) halves) [] (negative_of 0 ∷ positive_of 1 ∷ [])
    ∷ named_line (Split 6 (8 ∷ 11 ∷ []) halves) [] (positive_of 0 ∷ negative_of 1 ∷ [])
    ∷ named_line (Split 7 (10 ∷ 11 ∷ []) halves) [] (negative_of 0 ∷ negative_of 1 ∷ [])
    ∷ named_line (Chain (12 ∷ 13 ∷ []) (positive_of 0 ∷ [])) [] (positive_of 1 ∷ [])
    ∷ named_line (Chain (14 ∷ 15 ∷ []) (positive_of 0 ∷ [])) [] (negative_of 1 ∷ [])
    ∷ line (Chain (16 ∷ 17 ∷ []) (positive_of 1 ∷ [])) []
    ∷ []
