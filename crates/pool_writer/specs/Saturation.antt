-- The printed text of the members of a saturated set.
use Rattle.std.specs.Prelude.{ℕ, List, ◌++◌, map, flat_map, codes}
use Rattle.std.specs.Fmt.{decimal}
use Rattle.std.specs.List.{enumerate_from}
use Rattle.fol_base.specs.Clause.{TreeClause}
use Rattle.signature.specs.declared.symbol.Symbol.{Symbol}
use Rattle.tptp_tree.specs.Printing.{formula_text}
use Rattle.tstp_writer.specs.ClauseTrees.{literal_formula, one_of}

-- the literals of a clause, without the names that it asserts
abbrev pub literals_text : List Symbol → TreeClause → List ℕ
literals_text symbols c = formula_text (one_of (map (literal_formula symbols) c.literals))

-- the line of a member, by its place among them
abbrev pub member_text : List Symbol → ℕ × TreeClause → List ℕ
member_text symbols m = codes "cnf(s" ++ decimal m.0 ++ codes ",plain," ++ literals_text symbols m.1 ++ codes ").\n"

-- A line for each member, in their order: they are named s0, s1 and so on.
abbrev pub saturation_text : List Symbol → List TreeClause → List ℕ
saturation_text symbols members = flat_map (member_text symbols) (enumerate_from 0 members)
