-- Laws of the terms of a unifier for the first variables of each side, by the unifier's own variables or by other names that can be
-- undone: they are a most general unifier, give the sizes of its instances, and put in function terms where it does.
use Rattle.std.specs.Prelude.{◌≡◌, ℕ, ◌<◌, Bool, true, false, List, Some, sum_by, All, IsTrue}
use Rattle.fol_base.specs.Tree.{Tree, VariablesBelow}
use Rattle.fol_base.specs.Instance.{Substitution, instance, substitution}
use Rattle.fol_base.specs.Canonical.{terms_from}
use Rattle.fol_base.specs.Clause.{TreeLiteral, LiteralVariablesBelow, literal_size}
use Rattle.fol_base.specs.Ground.{literals_instance}
use Rattle.fol_base.specs.Kind.{PutsFunctionTerms}
use Rattle.fol_base.specs.Unifier.{IsUnifier, IsUnifierApart}
use Rattle.fol_base.specs.declared.clause.Side.TheVariants.{Left, Right}
use Rattle.unifier.specs.SolvedForm.{SolvedForm, substitution_of}
use Rattle.unifier.specs.Bindings.{IsUnified}
use Rattle.unifier.specs.Renaming.{AreNamedTerms}
use Rattle.unifier.specs.Laws.{are_of_one_kind}

-- on the first variables of each side, the substitutions of the lists after `another` are these
pub record IsAfterBoth (left : List Tree) (right : List Tree) (another : Substitution) (left_count : ℕ) (right_count : ℕ) (ρ : Substitution) (π : Substitution) : Type 0 where
  pub on_left : (v : ℕ) → v < left_count → ρ v ≡ instance another (substitution left v)
  pub on_right : (v : ℕ) → v < right_count → π v ≡ instance another (substitution right v)

-- apart, they make the two terms equal, and every two substitutions that do are another after them, on the variables that
-- were asked for
abbrev pub SharedUnifyApart : Type 0
SharedUnifyApart =
    (s t : Tree) (b : SolvedForm) (left_count right_count : ℕ) (left right : List Tree)
    → IsUnified true s t (Some b) → VariablesBelow left_count s → VariablesBelow right_count t
    → AreNamedTerms b left_count right_count left right
    → IsUnifierApart s t (substitution left) (substitution right)
    × ((ρ π : Substitution) → IsUnifierApart s t ρ π
    → (another : Substitution) × IsAfterBoth left right another left_count right_count ρ π)

-- not apart, likewise, and a variable that both lists have becomes the same in both
abbrev pub SharedUnify : Type 0
SharedUnify =
    (s t : Tree) (b : SolvedForm) (left_count right_count : ℕ) (left right : List Tree)
    → IsUnified false s t (Some b) → VariablesBelow left_count s → VariablesBelow right_count t
    → AreNamedTerms b left_count right_count left right
    → (instance (substitution left) s ≡ instance (substitution right) t)
    × ((ρ : Substitution) → IsUnifier s t ρ
    → (another : Substitution) × IsAfterBoth left right another left_count right_count ρ ρ)
    × ((v : ℕ) → v < left_count → v < right_count → substitution left v ≡ substitution right v)

-- not apart, the left list alone makes the two terms equal where its count is above the variables of both, and every
-- substitution that does is another after it, on the variables that were asked for
abbrev pub SharedUnifyOne : Type 0
SharedUnifyOne =
    (s t : Tree) (b : SolvedForm) (left_count right_count : ℕ) (left right : List Tree)
    → IsUnified false s t (Some b) → VariablesBelow left_count s → VariablesBelow left_count t
    → AreNamedTerms b left_count right_count left right
    → IsUnifier s t (substitution left)
    × ((ρ : Substitution) → IsUnifier s t ρ
    → (another : Substitution) × ((v : ℕ) → v < left_count → ρ v ≡ instance another (substitution left v)))

-- their instances of literals in the variables asked for have the sizes of the unifier's
abbrev pub HasSizesOf : List Tree → ℕ → Substitution → Type 0
HasSizesOf terms count σ =
    (ls : List TreeLiteral) → All (LiteralVariablesBelow count) ls
    → sum_by literal_size (literals_instance (substitution terms) ls) ≡ sum_by literal_size (literals_instance σ ls)

abbrev pub SharedKeepSizes : Type 0
SharedKeepSizes =
    (b : SolvedForm) (left_count right_count : ℕ) (left right : List Tree)
    → AreNamedTerms b left_count right_count left right
    → HasSizesOf left left_count (substitution_of b Left) × HasSizesOf right right_count (substitution_of b Right)

-- where the two terms are of one kind, they put in function terms alone
abbrev pub SharedPutFunctionTerms : Type 0
SharedPutFunctionTerms =
    (is_predicate : ℕ → Bool) (apart : Bool) (s t : Tree) (b : SolvedForm) (left_count right_count : ℕ) (left right : List Tree)
    → IsTrue (are_of_one_kind is_predicate s t) → IsUnified apart s t (Some b)
    → AreNamedTerms b left_count right_count left right
    → PutsFunctionTerms is_predicate (substitution left) × PutsFunctionTerms is_predicate (substitution right)

-- the terms of `Bindings::terms` are such terms, and so are those of `Bindings::substs`
abbrev pub OwnTermsAreNamed : Type 0
OwnTermsAreNamed =
    (b : SolvedForm) (left_count right_count : ℕ)
    → AreNamedTerms b left_count right_count (terms_from 0 left_count (substitution_of b Left)) (terms_from 0 right_count (substitution_of b Right))
