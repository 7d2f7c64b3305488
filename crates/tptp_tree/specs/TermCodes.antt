-- A code for terms over names: the steps of a small machine that builds one, read from the last step to the first.
use Rattle.std.specs.Prelude.{◌≡◌, ℕ, zero, suc, List, [], ◌∷◌, refl}
use Rattle.std.specs.Coded.{Coded, code_by, coded×, coded_ℕ, coded_list}
use Rattle.std.proofs.Common.{◌∙◌, ap}
use Rattle.tptp_tree.specs.Term.{TermTree, variable, application, TermTrees, no_terms, term_then}

-- (0, x) puts a variable in front, (2, _) begins a list of arguments, (1, f) ends it with its name
abbrev pub TermStep : Type 0
TermStep = ℕ × List ℕ

-- the list in work, and the lists around it
abbrev pub TermState : Type 0
TermState = TermTrees × List TermTrees

abbrev mutual
  pub term_steps : TermTree → List TermStep → List TermStep
  term_steps (variable x) rest = (0, x) ∷ rest
  term_steps (application f ts) rest = (1, f) ∷ terms_steps ts ((2, []) ∷ rest)

  pub terms_steps : TermTrees → List TermStep → List TermStep
  terms_steps no_terms rest = rest
  terms_steps (term_then t ts) rest = term_steps t (terms_steps ts rest)

abbrev pub close : List ℕ → TermTrees → List TermTrees → TermState
close f top [] = (top, [])
close f top (next ∷ below) = (term_then (application f top) next, below)

abbrev pub after_step : ℕ → List ℕ → TermState → TermState
after_step zero x s = (term_then (variable x) s.0, s.1)
after_step (suc zero) f s = close f s.0 s.1
after_step (suc (suc n)) f s = (no_terms, s.0 ∷ s.1)

abbrev pub after_steps : List TermStep → TermState
after_steps [] = (no_terms, [])
after_steps (s ∷ rest) = after_step s.0 s.1 (after_steps rest)

abbrev pub first_term : TermTrees → TermTree
first_term no_terms = variable []
first_term (term_then t ts) = t

abbrev pub joined_terms : TermTrees → TermTrees → TermTrees
joined_terms no_terms us = us
joined_terms (term_then t ts) us = term_then t (joined_terms ts us)

pub joined-no_terms : (ts : TermTrees) → joined_terms ts no_terms ≡ ts
joined-no_terms no_terms = refl
joined-no_terms (term_then t ts) = ap (term_then t) (joined-no_terms ts)

mutual
  pub after_steps-term_steps :
      (t : TermTree) (rest : List TermStep)
      → after_steps (term_steps t rest) ≡ (term_then t (after_steps rest).0, (after_steps rest).1)
  after_steps-term_steps (variable x) rest = refl
  after_steps-term_steps (application f ts) rest =
      ap (λ (s : TermState). close f s.0 s.1) (after_steps-terms_steps ts ((2, []) ∷ rest))
      ∙ ap (λ (us : TermTrees). close f us ((after_steps rest).0 ∷ (after_steps rest).1)) (joined-no_terms ts)

  pub after_steps-terms_steps :
      (ts : TermTrees) (rest : List TermStep)
      → after_steps (terms_steps ts rest) ≡ (joined_terms ts (after_steps rest).0, (after_steps rest).1)
  after_steps-terms_steps no_terms rest = refl
  after_steps-terms_steps (term_then t ts) rest =
      after_steps-term_steps t (terms_steps ts rest)
      ∙ ap (λ (s : TermState). let r : TermState = (term_then t s.0, s.1) in r) (after_steps-terms_steps ts rest)

abbrev pub term_code : Coded TermTree
term_code =
    code_by (List TermStep) (coded_list (coded× coded_ℕ (coded_list coded_ℕ))) (λ t. term_steps t []) (λ steps. first_term (after_steps steps).0)
    (λ t. ap (λ (s : TermState). first_term s.0) (after_steps-term_steps t []))
