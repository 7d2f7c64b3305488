-- What the order asks under a unifier's own substitutions, and under the terms that it gives for a clause's variables: the same.
use Rattle.std.proofs.Common.{◌≡◌, ℕ, Bool, true, false, Option, Some, List, refl, ap, sym, ◌∙◌}
use Rattle.std.specs.Prelude.{slice_get}
use Rattle.std.proofs.lemmas.Bool.{false_from_ne_true}
use Rattle.plain_types.specs.Capped.{capped}
use Rattle.fol_base.specs.Tree.{Tree, variable, tree_eq, tree_size}
use Rattle.fol_base.specs.Instance.{Substitution, substitution}
use Rattle.fol_base.specs.Clause.{TreeLiteral, TreeClause, clause_variables}
use Rattle.fol_base.specs.Ground.{literals_instance}
use Rattle.fol_base.specs.Canonical.{bound_of, terms_from}
use Rattle.fol_base.specs.declared.clause.Side.TheVariants.{Left, Right}
use Rattle.fol_base.proofs.AboutTerms.TreeLemmas.{tree_eq-true}
use Rattle.kbo_order.proofs.AboutMultisets.LiteralLemmas.{literals-themselves}
use Rattle.unifier.specs.SolvedForm.{SolvedForm, substitution_of}
use Rattle.eq_rules.proofs.AboutConclusions.OutsizeLemmas.{own-literals}
use Rattle.eq_rules.specs.declared.concluding.LiteralSide.{LiteralSide}
use Rattle.superpose.specs.Superposing.{allows, SuperposesBy}
use Rattle.superpose.specs.declared.sites.LiteralPlace.{LiteralPlace}
use Rattle.superpose.proofs.AboutSites.AllowLemmas.{allowed_lifts, allows-from, allows-parts}

-- what is allowed under some substitutions is so under those that give the same instances
allows-again :
    (ls : List TreeLiteral) (s : LiteralSide) (ks : List TreeLiteral) (t : LiteralPlace) (choice : Option ℕ) (l m : TreeLiteral)
    → slice_get ls s.literal ≡ Some l → slice_get ks t.at.literal ≡ Some m
    → (σ τ ρ π : Substitution) → literals_instance σ ls ≡ literals_instance ρ ls → literals_instance τ ks ≡ literals_instance π ks
    → allows ls s ks t choice ρ π ≡ true → allows ls s ks t choice σ τ ≡ true
allows-again ls s ks t choice l m l_there m_there σ τ ρ π first second h =
    allows-from ls s ks t choice l m l_there m_there σ τ
    (allowed_lifts ls s ks t choice l m l_there m_there variable σ τ ρ π
    (literals-themselves (literals_instance σ ls) ∙ first)
    (literals-themselves (literals_instance τ ks) ∙ second)
    (allows-parts ls s ks t choice l m l_there m_there ρ π h))

same-by : (a b : Bool) → (a ≡ true → b ≡ true) → (b ≡ true → a ≡ true) → a ≡ b
same-by true b h k = sym (h refl)
same-by false true h k = k refl
same-by false false h k = refl

pub allows-own :
    (c : TreeClause) (s : LiteralSide) (d : TreeClause) (t : LiteralPlace) (b : SolvedForm) (r : SuperposesBy b c s d t) (choice : Option ℕ)
    → allows c.literals s d.literals t choice
    (substitution (terms_from 0 (bound_of (clause_variables c)) (substitution_of b Left)))
    (substitution (terms_from 0 (bound_of (clause_variables d)) (substitution_of b Right)))
    ≡ allows c.literals s d.literals t choice (substitution_of b Left) (substitution_of b Right)
allows-own c s d t b r choice =
    let ρ : Substitution = substitution_of b Left in
    let π : Substitution = substitution_of b Right in
    let σ : Substitution = substitution (terms_from 0 (bound_of (clause_variables c)) ρ) in
    let τ : Substitution = substitution (terms_from 0 (bound_of (clause_variables d)) π) in
    let first = own-literals c ρ in
    let second = own-literals d π in
    let again = allows-again c.literals s d.literals t choice r.starts.literal r.enters.literal r.starts.there r.enters.there in
    same-by (allows c.literals s d.literals t choice σ τ) (allows c.literals s d.literals t choice ρ π)
    (again ρ π σ τ (sym first) (sym second))
    (again σ τ ρ π first second)

-- terms whose sizes are told to differ are different
pub sizes-differ :
    (t u : Tree) (m n : ℕ) → m ≡ capped (tree_size t) → n ≡ capped (tree_size u) → (m ≡ n → ⊥) → tree_eq t u ≡ false
sizes-differ t u m n m_is n_is differ =
    false_from_ne_true (tree_eq t u) (λ e.
    differ (m_is ∙ ap (λ (w : Tree). capped (tree_size w)) (tree_eq-true t u e) ∙ sym n_is))
