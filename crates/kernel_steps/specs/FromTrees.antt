-- From trees to the program's terms, literals, clauses and lines.
use Rattle.std.specs.Prelude.{map}
use Rattle.fol_base.specs.Tree.{Tree, variable, application, list_of}
use Rattle.fol_base.specs.Clause.{TreeLiteral, TreeClause}
use Rattle.fol_base.specs.declared.term.Term.{Term}
use Rattle.fol_base.specs.declared.term.Term.TheVariants.{Var, App}
use Rattle.fol_base.specs.declared.clause.Literal.{Literal}
use Rattle.fol_base.specs.declared.clause.Clause.{Clause}
use Rattle.kernel_steps.specs.declared.step.Step.{Step}
use Rattle.kernel_steps.specs.declared.step.Line.{Line}

-- the program's term for a tree
abbrev pub term_from : Tree → Term
term_from (variable v) = Var v
term_from (application f ts) = App f (list_of ts)

-- the program's literal for a literal over trees
abbrev pub literal_from : TreeLiteral → Literal
literal_from l = record { positive = l.positive; left = term_from l.left; right = term_from l.right }

-- the program's clause for a clause over trees
abbrev pub clause_from : TreeClause → Clause
clause_from c = record { literals = map literal_from c.literals; names = c.names }

-- the program's line with this step and this clause
abbrev pub line_of : Step → TreeClause → Line
line_of step c = record { step = step; clause = clause_from c }
