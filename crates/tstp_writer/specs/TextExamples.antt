-- Three worked derivations as the kernel has them, and their texts.
use Rattle.std.specs.Prelude.{ℕ, Bool, true, false, List, [], ◌∷◌, ◌++◌, codes}
use Rattle.plain_types.specs.Names.{positive_of, negative_of}
use Rattle.fol_base.specs.Tree.{Tree, variable, application, true_tree, trees_of}
use Rattle.fol_base.specs.Clause.{TreeLiteral}
use Rattle.fol_base.specs.declared.clause.Side.TheVariants.{Left}
use Rattle.tptp_tree.specs.Term.{no_terms}
use Rattle.tptp_tree.specs.Formula.{FormulaTree, predicate, negation}
use Rattle.tptp_tree.specs.declared.role.Role.TheVariants.{Axiom}
use Rattle.tptp_tree.specs.declared.problem.Annotated.{Annotated}
use Rattle.kernel_steps.specs.Names.{sorted_names}
use Rattle.kernel_steps.specs.Examples.{line, named_line}
use Rattle.kernel_steps.specs.declared.step.Step.{Step}
use Rattle.kernel_steps.specs.declared.step.Step.TheVariants.{Clausify, Para, Refl, Component, Opposite, Split, Chain}
use Rattle.kernel_steps.specs.declared.step.Line.{Line}
use Rattle.clausal_form.specs.DerivationExamples.{entry, one_of}

abbrev constant : ℕ → Tree
constant f = application f (trees_of [])

-- an atom of the predicate with that number, or its negation
abbrev of_predicate : Bool → ℕ → Tree → TreeLiteral
of_predicate positive p t = record { positive = positive; left = application p (trees_of (t ∷ [])); right = true_tree }

abbrev not_true : TreeLiteral
not_true = record { positive = false; left = true_tree; right = true_tree }

-- a resolution of the first literals of two lines, with what binds the first one's variables and the second one's
abbrev resolved : ℕ → ℕ → List Tree → List Tree → Step
resolved first second first_bind second_bind = Para first second 0 Left 0 Left [] first_bind second_bind

-- ---- p implies q, and p(a); so q(a). The symbols are p, q and a; the fourth line isn't needed.

abbrev pub implication_steps : List Line
implication_steps =
    line (Clausify 0) (of_predicate false 1 (variable 0) ∷ of_predicate true 2 (variable 0) ∷ [])
    ∷ line (Clausify 1) (of_predicate true 1 (constant 3) ∷ [])
    ∷ line (Clausify 2) (of_predicate false 2 (constant 3) ∷ [])
    ∷ line (Clausify 1) (of_predicate true 1 (constant 3) ∷ [])
    ∷ line (resolved 1 0 [] (constant 3 ∷ [])) (not_true ∷ of_predicate true 2 (constant 3) ∷ [])
    ∷ line (Refl 4 0 []) (of_predicate true 2 (constant 3) ∷ [])
    ∷ line (resolved 5 2 [] []) (not_true ∷ [])
    ∷ line (Refl 6 0 []) []
    ∷ []

abbrev pub implication_numbers : List ℕ
implication_numbers = 0 ∷ 1 ∷ 2 ∷ 4 ∷ 5 ∷ 6 ∷ 7 ∷ []

abbrev pub implication_text : List ℕ
implication_text =
    codes "fof(c0,axiom,! [X] : (p(X) => q(X)),file('r5.p',a)).\n"
    ++ codes "fof(c1,axiom,p(a),file('r5.p',b)).\n"
    ++ codes "fof(c2,conjecture,q(a),file('r5.p',c)).\n"
    ++ codes "fof(c3,negated_conjecture,~q(a),inference(negate,[status(cth)],[c2])).\n"
    ++ codes "cnf(c4,plain,~p(X0) | q(X0),inference(clausify,[status(esa),index(0)],[c0])).\n"
    ++ codes "cnf(c5,plain,p(a),inference(clausify,[status(esa),index(1)],[c1])).\n"
    ++ codes "cnf(c6,plain,~q(a),inference(clausify,[status(esa),index(2)],[c3])).\n"
    ++ codes "cnf(c7,plain,~$true | q(a),inference(para,[status(thm),from(0,left),into(0,left,[]),bind([]),bind([a])],[c5,c4])).\n"
    ++ codes "cnf(c8,plain,q(a),inference(refl,[status(thm),lit(0),bind([])],[c7])).\n"
    ++ codes "cnf(c9,plain,~$true,inference(para,[status(thm),from(0,left),into(0,left,[]),bind([]),bind([])],[c8,c6])).\n"
    ++ codes "cnf(c10,plain,$false,inference(refl,[status(thm),lit(0),bind([])],[c9])).\n"

-- ---- p(X) or q(Y), but neither p(a) nor q(b). The symbols are p, q, a and b.

-- with two names, in the order of their component lines
abbrev pub named_components : ℕ → ℕ → List Line
named_components n m =
    line (Clausify 0) (of_predicate true 1 (variable 0) ∷ of_predicate true 2 (variable 1) ∷ [])
    ∷ line (Clausify 1) (of_predicate false 1 (constant 3) ∷ [])
    ∷ line (Clausify 2) (of_predicate false 2 (constant 4) ∷ [])
    ∷ named_line (Component n) (of_predicate true 1 (variable 0) ∷ []) (negative_of n ∷ [])
    ∷ named_line (Component m) (of_predicate true 2 (variable 0) ∷ []) (negative_of m ∷ [])
    ∷ named_line (Split 0 (3 ∷ 4 ∷ []) ((0 ∷ []) ∷ (1 ∷ []) ∷ [])) [] (sorted_names (positive_of n ∷ positive_of m ∷ []))
    ∷ named_line (resolved 3 1 (constant 3 ∷ []) []) (not_true ∷ []) (negative_of n ∷ [])
    ∷ named_line (Refl 6 0 []) [] (negative_of n ∷ [])
    ∷ named_line (resolved 4 2 (constant 4 ∷ []) []) (not_true ∷ []) (negative_of m ∷ [])
    ∷ named_line (Refl 8 0 []) [] (negative_of m ∷ [])
    ∷ line (Chain (5 ∷ 7 ∷ 9 ∷ []) (positive_of n ∷ positive_of m ∷ [])) []
    ∷ []

abbrev pub components_steps : List Line
components_steps = named_components 0 1

abbrev pub components_numbers : List ℕ
components_numbers = 0 ∷ 1 ∷ 2 ∷ 3 ∷ 4 ∷ 5 ∷ 6 ∷ 7 ∷ 8 ∷ 9 ∷ 10 ∷ []

abbrev pub components_text : List ℕ
components_text =
    codes "cnf(c0,axiom,p(X) | q(Y),file('r10.p',a)).\n"
    ++ codes "cnf(c1,axiom,~p(a),file('r10.p',b)).\n"
    ++ codes "cnf(c2,axiom,~q(b),file('r10.p',c)).\n"
    ++ codes "cnf(c3,plain,p(X0) | q(X1),inference(clausify,[status(esa),index(0)],[c0])).\n"
    ++ codes "cnf(c4,plain,~p(a),inference(clausify,[status(esa),index(1)],[c1])).\n"
    ++ codes "cnf(c5,plain,~q(b),inference(clausify,[status(esa),index(2)],[c2])).\n"
    ++ codes "cnf(c6,plain,p(X0) | ~spl0,introduced(definition,[component(spl0)])).\n"
    ++ codes "cnf(c7,plain,q(X0) | ~spl1,introduced(definition,[component(spl1)])).\n"
    ++ codes "cnf(c8,plain,spl0 | spl1,inference(split,[status(esa),parts([[0],[1]])],[c3,c6,c7])).\n"
    ++ codes "cnf(c9,plain,~$true | ~spl0,inference(para,[status(thm),from(0,left),into(0,left,[]),bind([a]),bind([])],[c6,c4])).\n"
    ++ codes "cnf(c10,plain,~spl0,inference(refl,[status(thm),lit(0),bind([])],[c9])).\n"
    ++ codes "cnf(c11,plain,~$true | ~spl1,inference(para,[status(thm),from(0,left),into(0,left,[]),bind([b]),bind([])],[c7,c5])).\n"
    ++ codes "cnf(c12,plain,~spl1,inference(refl,[status(thm),lit(0),bind([])],[c11])).\n"
    ++ codes "cnf(c13,plain,$false,inference(chain,[status(thm),pivots([spl0,spl1])],[c8,c10,c12])).\n"

-- ---- split or q, not split, and not q: the first name is of a literal whose complement has it too. The prefix `spl` isn't free here.

abbrev of_proposition : Bool → ℕ → TreeLiteral
of_proposition positive p = record { positive = positive; left = constant p; right = true_tree }

abbrev proposition : List ℕ → FormulaTree
proposition p = predicate p no_terms

abbrev pub split_or_q : List Annotated
split_or_q =
    entry (codes "a") Axiom true (one_of (proposition (codes "split") ∷ proposition (codes "q") ∷ []))
    ∷ entry (codes "b") Axiom true (negation (proposition (codes "split")))
    ∷ entry (codes "c") Axiom true (negation (proposition (codes "q")))
    ∷ []

abbrev pub signed_steps : List Line
signed_steps =
    line (Clausify 0) (of_proposition true 1 ∷ of_proposition true 2 ∷ [])
    ∷ line (Clausify 1) (of_proposition false 1 ∷ [])
    ∷ line (Clausify 2) (of_proposition false 2 ∷ [])
    ∷ named_line (Component 0) (of_proposition true 1 ∷ []) (negative_of 0 ∷ [])
    ∷ named_line (Opposite 0) (of_proposition false 1 ∷ []) (positive_of 0 ∷ [])
    ∷ named_line (Component 1) (of_proposition true 2 ∷ []) (negative_of 1 ∷ [])
    ∷ named_line (Split 0 (3 ∷ 5 ∷ []) ((0 ∷ []) ∷ (1 ∷ []) ∷ [])) [] (positive_of 0 ∷ positive_of 1 ∷ [])
    ∷ named_line (Split 1 (4 ∷ []) ((0 ∷ []) ∷ [])) [] (negative_of 0 ∷ [])
    ∷ named_line (Chain (7 ∷ 6 ∷ []) (negative_of 0 ∷ [])) [] (positive_of 1 ∷ [])
    ∷ named_line (resolved 5 2 [] []) (not_true ∷ []) (negative_of 1 ∷ [])
    ∷ named_line (Refl 9 0 []) [] (negative_of 1 ∷ [])
    ∷ line (Chain (8 ∷ 10 ∷ []) (positive_of 1 ∷ [])) []
    ∷ []

abbrev pub signed_numbers : List ℕ
signed_numbers = 0 ∷ 1 ∷ 2 ∷ 3 ∷ 4 ∷ 5 ∷ 6 ∷ 7 ∷ 8 ∷ 9 ∷ 10 ∷ 11 ∷ []

abbrev pub signed_text : List ℕ
signed_text =
    codes "cnf(c0,axiom,split | q,file('r11.p',a)).\n"
    ++ codes "cnf(c1,axiom,~split,file('r11.p',b)).\n"
    ++ codes "cnf(c2,axiom,~q,file('r11.p',c)).\n"
    ++ codes "cnf(c3,plain,split | q,inference(clausify,[status(esa),index(0)],[c0])).\n"
    ++ codes "cnf(c4,plain,~split,inference(clausify,[status(esa),index(1)],[c1])).\n"
    ++ codes "cnf(c5,plain,~q,inference(clausify,[status(esa),index(2)],[c2])).\n"
    ++ codes "cnf(c6,plain,split | ~spl_0,introduced(definition,[component(spl_0)])).\n"
    ++ codes "cnf(c7,plain,~split | spl_0,introduced(definition,[opposite(spl_0)])).\n"
    ++ codes "cnf(c8,plain,q | ~spl_1,introduced(definition,[component(spl_1)])).\n"
    ++ codes "cnf(c9,plain,spl_0 | spl_1,inference(split,[status(esa),parts([[0],[1]])],[c3,c6,c8])).\n"
    ++ codes "cnf(c10,plain,~spl_0,inference(split,[status(esa),parts([[0]])],[c4,c7])).\n"
    ++ codes "cnf(c11,plain,spl_1,inference(chain,[status(thm),pivots([~spl_0])],[c10,c9])).\n"
    ++ codes "cnf(c12,plain,~$true | ~spl_1,inference(para,[status(thm),from(0,left),into(0,left,[]),bind([]),bind([])],[c8,c5])).\n"
    ++ codes "cnf(c13,plain,~spl_1,inference(refl,[status(thm),lit(0),bind([])],[c12])).\n"
    ++ codes "cnf(c14,plain,$false,inference(chain,[status(thm),pivots([spl_1])],[c11,c13])).\n"
