-- The kernel's line that has a clause is that clause's.
use Rattle.std.proofs.Common.{◌≡◌, List, [], ◌∷◌, map, refl, ap, ap₂}
use Rattle.fol_base.specs.Term.{tree_of}
use Rattle.fol_base.specs.Literal.{literal_of, clause_of}
use Rattle.fol_base.specs.declared.term.Term.{Term}
use Rattle.fol_base.specs.declared.term.Term.TheVariants.{Var, App}
use Rattle.fol_base.specs.declared.clause.Literal.{Literal}
use Rattle.fol_base.specs.declared.clause.Clause.{Clause}
use Rattle.fol_base.proofs.AboutTerms.TreeLemmas.{list_of-trees_of}
use Rattle.kernel_steps.specs.declared.step.Step.{Step}
use Rattle.kernel_steps.specs.declared.step.Line.{Line}
use Rattle.kernel_steps.specs.FromTrees.{term_from, literal_from, line_of}

term-back : (t : Term) → term_from (tree_of t) ≡ t
term-back (Var v) = refl
term-back (App f ts) = ap (App f) (list_of-trees_of ts)

literals-back : (ls : List Literal) → map literal_from (map literal_of ls) ≡ ls
literals-back [] = refl
literals-back (l ∷ ls) =
    let make : Term → Term → Literal = λ t u. record { positive = l.positive; left = t; right = u } in
    ap₂ ◌∷◌ (ap₂ make (term-back l.left) (term-back l.right)) (literals-back ls)

pub line-back : (st : Step) (c : Clause) → line_of st (clause_of c) ≡ record { step = st; clause = c }
line-back st c =
    let make : List Literal → Line = λ ls. record { step = st; clause = record { literals = ls; names = c.names } } in ap make (literals-back c.literals)
