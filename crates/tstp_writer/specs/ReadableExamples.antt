-- A line with variables and equations: from f(X) = a | f(Y) = b, by factoring, a != b | f(X) = b; and lines with names.
use Rattle.std.specs.Prelude.{ℕ, true, List, [], ◌∷◌, codes}
use Rattle.plain_types.specs.Names.{positive_of, negative_of}
use Rattle.fol_base.specs.Tree.{Tree, variable, application, trees_of}
use Rattle.fol_base.specs.Clause.{TreeClause}
use Rattle.fol_base.specs.Rules.{disequation}
use Rattle.fol_base.specs.declared.clause.Side.TheVariants.{Left}
use Rattle.signature.specs.declared.symbol.Symbol.{Symbol}
use Rattle.signature.specs.Symbol.{true_symbol, function_symbol}
use Rattle.kernel_steps.specs.declared.step.Step.{Step}
use Rattle.kernel_steps.specs.declared.step.Step.TheVariants.{Refl, Factor, Split}
use Rattle.tstp_writer.specs.LineTrees.{Script, Layout}

-- f, a and b, after `$true`
abbrev pub symbols : List Symbol
symbols = true_symbol ∷ function_symbol (codes "f") 1 ∷ function_symbol (codes "a") 0 ∷ function_symbol (codes "b") 0 ∷ []

abbrev constant : ℕ → Tree
constant n = application n (trees_of [])

abbrev pub factor_step : Step
factor_step = Factor 0 0 Left 1 Left (variable 0 ∷ variable 0 ∷ [])

abbrev pub factor_clause : TreeClause
factor_clause = record {
  literals =
      disequation (constant 2) (constant 3)
      ∷ record { positive = true; left = application 1 (trees_of (variable 0 ∷ [])); right = constant 3 } ∷ [];
  names = [];
}

-- a step that binds a variable which its clause doesn't have
abbrev pub other_step : Step
other_step = Refl 0 0 (variable 7 ∷ variable 0 ∷ [])

-- a component line of a name, and the split of the line before it and of another one by that name and the next
abbrev pub component_clause : TreeClause
component_clause = record { literals = factor_clause.literals; names = negative_of 2 ∷ [] }

abbrev pub split_step : Step
split_step = Split 0 (1 ∷ 2 ∷ []) ((0 ∷ []) ∷ (1 ∷ []) ∷ [])

abbrev pub split_clause : TreeClause
split_clause = record { literals = []; names = positive_of 2 ∷ positive_of 5 ∷ [] }

-- the factor line is line 1, after its parent
abbrev pub script : Script
script = record { file = codes "f.p"; formulas = []; symbols = symbols; origins = []; prefix = codes "spl" }

abbrev pub layout : Layout
layout = record { cited = []; negated = []; numbers = 0 ∷ 1 ∷ [] }

abbrev pub factor_text : List ℕ
factor_text =
    codes "cnf(c1,plain,a != b | f(X0) = b,inference(factor,[status(thm),lit(0,left),lit(1,left),bind([X0,X0])],[c0])).\n"
