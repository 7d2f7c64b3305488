-- Superposition from one site into another.
use mathlib.Core.Bool.{beq}
use Rattle.std.specs.Prelude.{◌≡◌, ℕ, ◌+◌, ◌-◌, ◌*◌, max, nat_lt, Bool, true, false, ◌&&◌, not, List, [], ◌∷◌, slice_get, Option, None, Some, IsTrue}
use Rattle.fol_base.specs.Tree.{Tree, tree_eq, tree_size, is_truth, is_variable}
use Rattle.fol_base.specs.Instance.{Substitution, instance}
use Rattle.fol_base.specs.Place.{subterm}
use Rattle.fol_base.specs.Clause.{TreeLiteral, TreeClause, clause_instance, clause_size, clause_variables}
use Rattle.fol_base.specs.Ground.{literals_instance}
use Rattle.fol_base.specs.Canonical.{bound_of}
use Rattle.fol_base.specs.Selection.{SelectionMode, chosen, eligible}
use Rattle.fol_base.specs.Sides.{side_of, other_side_of}
use Rattle.fol_base.specs.WellFormed.{SymbolUse, are_literals_of}
use Rattle.fol_base.specs.declared.clause.Side.{Side}
use Rattle.fol_base.specs.declared.clause.Side.TheVariants.{Left, Right}
use Rattle.fol_base.specs.declared.limits.TheConstants.{MOST_SYMBOLS}
use Rattle.kernel_steps.specs.Inference.{other_side_not_above}
use Rattle.kernel_steps.specs.declared.key.Key.{Key}
use Rattle.kernel_steps.specs.declared.key.Key.TheVariants.{Para}
use Rattle.bank_clause.specs.Clause.{clause_at}
use Rattle.bank_clause.specs.declared.member.Member.{Member}
use Rattle.unifier.specs.Bindings.{IsUnified}
use Rattle.unifier.specs.Renaming.{fits}
use Rattle.unifier.specs.SolvedForm.{SolvedForm, substitution_of}
use Rattle.eq_rules.specs.Trying.{IsTried}
use Rattle.eq_rules.specs.declared.inference.Made.{Made}
use Rattle.superpose.specs.Sites.{can_start, can_enter}
use Rattle.eq_rules.specs.declared.concluding.LiteralSide.{LiteralSide}
use Rattle.superpose.specs.declared.sites.LiteralPlace.{LiteralPlace}

-- the name of the superposition from a side of one clause into a place of another
abbrev pub para_key : ℕ → LiteralSide → ℕ → LiteralPlace → Key
para_key first s second t = Para first s.literal s.side second t.at.literal t.at.side t.place

-- What becomes of it is known, under each use of the symbols under which the clauses are well-formed, and wherever the clauses are looked
-- up: the inference of that name has this result, or there is none.
abbrev pub IsSuperposition : SelectionMode → Member → LiteralSide → Member → LiteralPlace → Option Made → Type 0
IsSuperposition mode m s n t made =
    (usage : SymbolUse) (clauses : ℕ → Option TreeClause)
    → IsTrue (are_literals_of usage (clause_at m.clause).literals) → IsTrue (are_literals_of usage (clause_at n.clause).literals)
    → clauses m.number ≡ Some (clause_at m.clause) → clauses n.number ≡ Some (clause_at n.clause)
    → IsTried usage.is_predicate mode clauses (para_key m.number s n.number t) made

-- ---- what is asked under a unifier

abbrev pub is_root : List ℕ → Bool
is_root [] = true
is_root (i ∷ place) = false

abbrev pub both_literals : (TreeLiteral → TreeLiteral → Bool) → Option TreeLiteral → Option TreeLiteral → Bool
both_literals test None o = false
both_literals test (Some l) None = false
both_literals test (Some l) (Some m) = test l m

-- at the root of a positive literal the other sides would become one literal `t = t`
abbrev pub others_coincide : LiteralSide → LiteralPlace → Substitution → Substitution → TreeLiteral → TreeLiteral → Bool
others_coincide s t σ τ l m =
    (m.positive && is_root t.place) && tree_eq (instance σ (other_side_of s.side l)) (instance τ (other_side_of t.at.side m))

abbrev pub one_literal : (TreeLiteral → Bool) → Option TreeLiteral → Bool
one_literal test None = false
one_literal test (Some l) = test l

-- the side from which it starts isn't below the other one, and its literal is strictly eligible
abbrev pub starts_under : List TreeLiteral → LiteralSide → Substitution → Bool
starts_under ls s σ =
    one_literal
    (λ l. other_side_not_above σ s.side l && eligible (literals_instance σ ls) s.literal None true)
    (slice_get ls s.literal)

-- the other sides don't become one term at the root of a positive literal, the side into which it goes isn't below the other one, and its
-- literal is eligible
abbrev pub enters_under : List TreeLiteral → LiteralSide → List TreeLiteral → LiteralPlace → Option ℕ → Substitution → Substitution → Bool
enters_under ls s ks t choice σ τ =
    both_literals
    (λ l m. not (others_coincide s t σ τ l m)
    && (other_side_not_above τ t.at.side m && eligible (literals_instance τ ks) t.at.literal choice m.positive))
    (slice_get ls s.literal) (slice_get ks t.at.literal)

abbrev pub allows : List TreeLiteral → LiteralSide → List TreeLiteral → LiteralPlace → Option ℕ → Substitution → Substitution → Bool
allows ls s ks t choice σ τ = starts_under ls s σ && enters_under ls s ks t choice σ τ

-- ---- what is known on the way

-- the side of a positive literal, and not `$true`
pub record StartsAt (ls : List TreeLiteral) (s : LiteralSide) : Type 0 where
  pub literal : TreeLiteral
  pub there : slice_get ls s.literal ≡ Some literal
  pub positive : literal.positive ≡ true
  pub no_truth : is_truth (side_of s.side literal) ≡ false

-- the place is there, no variable stands at it, and the side isn't `$true`
pub record EntersAt (ls : List TreeLiteral) (t : LiteralPlace) : Type 0 where
  pub literal : TreeLiteral
  pub there : slice_get ls t.at.literal ≡ Some literal
  pub no_truth : is_truth (side_of t.at.side literal) ≡ false
  pub old : Tree
  pub old_there : subterm t.place (side_of t.at.side literal) ≡ Some old
  pub no_variable : is_variable old ≡ false

-- the side and the term at the place are of one kind: an atom's other side is `$true`, and below the root function terms stand
abbrev pub are_alike : LiteralSide → LiteralPlace → TreeLiteral → TreeLiteral → Tree → Bool
are_alike s t l m old =
    not (is_truth old) && beq (is_truth (other_side_of s.side l)) (is_root t.place && is_truth (other_side_of t.at.side m))

-- a most general unifier of a side of one clause and the term at a place of another that are alike, with no variables but the clauses'
pub record SuperposesBy (b : SolvedForm) (c : TreeClause) (s : LiteralSide) (d : TreeClause) (t : LiteralPlace) : Type 0 where
  pub starts : StartsAt c.literals s
  pub enters : EntersAt d.literals t
  pub alike : are_alike s t starts.literal enters.literal enters.old ≡ true
  pub unified : IsUnified true (side_of s.side starts.literal) enters.old (Some b)
  pub counted : fits b (bound_of (clause_variables c)) (bound_of (clause_variables d)) ≡ true

-- both are sites for the mode, and the choice is the second clause's
pub record AreSites (mode : SelectionMode) (c : TreeClause) (s : LiteralSide) (d : TreeClause) (t : LiteralPlace) (choice : Option ℕ) : Type 0 where
  pub starts : can_start mode c.literals s ≡ true
  pub enters : can_enter mode d.literals t.at ≡ true
  pub choice_is : choice ≡ chosen mode d.literals

-- ---- sizes

-- a clause's size under a unifier
abbrev pub size_under : SolvedForm → Side → TreeClause → ℕ
size_under b z c = clause_size (clause_instance (substitution_of b z) c)

-- Whether one of two clauses, or what is inferred from them, has more symbols than a clause may have that is kept, by the sizes of both and
-- of the side from which it starts: this goes twice, with its literal and at the place.
abbrev pub is_heavy : ℕ → ℕ → ℕ → Bool
is_heavy left right side = nat_lt MOST_SYMBOLS (max (max left right) (left + right - 2 * side))

-- the same of a superposition by a unifier
abbrev pub IsHeavyUnder : SolvedForm → TreeClause → LiteralSide → TreeClause → Bool → Type 0
IsHeavyUnder b c s d heavy =
    (l : TreeLiteral) → slice_get c.literals s.literal ≡ Some l
    → heavy ≡ is_heavy (size_under b Left c) (size_under b Right d) (tree_size (instance (substitution_of b Left) (side_of s.side l)))
