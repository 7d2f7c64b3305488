-- Two conclusions of one inference are variants: so what covers the instances of the one covers those of the other.
use Rattle.std.proofs.Common.{◌≡◌, ℕ, Bool, true, refl, ap, sym, ◌∙◌, subst}
use Rattle.std.specs.Prelude.{All, IsTrue}
use Rattle.fol_base.specs.Tree.{Tree, variable, application, Trees}
use Rattle.fol_base.specs.Instance.{Substitution, instance, instances}
use Rattle.fol_base.specs.InstanceLaws.{after}
use Rattle.fol_base.specs.Clause.{TreeClause, clause_variables}
use Rattle.fol_base.specs.Symbols.{FunctionSymbols}
use Rattle.fol_base.specs.Ground.{is_over, GroundInstance, literals_instance}
use Rattle.fol_base.proofs.AboutInstances.GroundInstanceLemmas.{ground_instances_of_instances}
use Rattle.fol_base.proofs.AboutInstances.InstanceLemmas.{literals_instance-again}
use Rattle.laws_calculus.specs.Variants.{AreVariants}
use Rattle.laws_calculus.specs.Coverage.{CoversEach}
use Rattle.laws_calculus.proofs.AboutCovering.ClauseLemmas.{All-In}
use Rattle.laws_calculus.proofs.AboutLifting.VariantLemmas.{kept_literals}

-- ---- variants

-- what goes back to a variable is one
variable-over :
    {is_predicate : ℕ → Bool} (functions : FunctionSymbols is_predicate) (back : Substitution) (t : Tree) (v : ℕ)
    → instance back t ≡ variable v → is_over functions.symbols t ≡ true
variable-over functions back (variable w) v same = refl
variable-over functions back (application f ts) v same = absurd (no-variable f (instances back ts) v same)
  where
    no-variable : (g : ℕ) (us : Trees) (w : ℕ) → application g us ≡ variable w → ⊥
    no-variable g us w e = cc

pub variant-covers :
    {is_predicate : ℕ → Bool} (functions : FunctionSymbols is_predicate) (Holds : TreeClause → Type 0) (c d : TreeClause)
    → AreVariants c d → CoversEach functions Holds c → CoversEach functions Holds d
variant-covers {is_predicate} functions Holds c d variants covers g made =
    let forth : Substitution = variants.forth in
    let stays : literals_instance (after variants.back forth) c.literals ≡ c.literals =
    sym (literals_instance-again variants.back forth c.literals)
    ∙ ap (λ (e : TreeClause). literals_instance variants.back e.literals) variants.becomes
    ∙ ap (λ (e : TreeClause). e.literals) variants.comes_back in
    let over : All (λ v. IsTrue (is_over functions.symbols (forth v))) (clause_variables c) =
    All-In (λ v. IsTrue (is_over functions.symbols (forth v))) (clause_variables c)
    (λ v there. variable-over functions variants.back (forth v) v (kept_literals (after variants.back forth) c.literals v stays there)) in
    covers g
    (ground_instances_of_instances is_predicate functions forth c g over
    (subst (λ (e : TreeClause). GroundInstance functions e g) (sym variants.becomes) made))
