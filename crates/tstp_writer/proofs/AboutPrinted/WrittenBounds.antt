-- The numbers of literals and arguments in a step that concludes are those of clauses that aren't too large, so they can be read again.
use Rattle.std.proofs.Common.{◌≡◌, ℕ, zero, suc, ◌+◌, ◌<◌, ◌≤◌, true, not, ◌==◌, List, [], ◌∷◌, length, Some, ap, arith}
use Rattle.std.specs.Prelude.{nat_le, sum_by, slice_get}
use Rattle.std.specs.List.{list_all, AllByRecursion}
use Rattle.std.proofs.lemmas.Bool.{and_parts, leb-true}
use Rattle.std.proofs.lemmas.List.Sums.{sum_by-cons}
use Rattle.std.proofs.lemmas.Option.{none-some, same_Some, option_and_then_some}
use Rattle.fol_base.specs.Tree.{Tree, variable, application, Trees, no_trees, tree_then, list_of, tree_size, trees_size, is_truth}
use Rattle.fol_base.specs.Place.{subterm}
use Rattle.fol_base.specs.Sides.{side_of}
use Rattle.fol_base.specs.Clause.{TreeLiteral, TreeClause, literal_size, clause_size, clause_variables}
use Rattle.fol_base.specs.Canonical.{bound_of}
use Rattle.fol_base.specs.Rules.{superposed, resolved, factored, merged}
use Rattle.fol_base.specs.declared.clause.Side.{Side}
use Rattle.fol_base.specs.declared.clause.Side.TheVariants.{Left, Right}
use Rattle.fol_base.specs.declared.limits.TheConstants.{MOST_BOUND_SYMBOLS}
use Rattle.fol_base.proofs.AboutTerms.TreeLemmas.{tree_size-positive}
use Rattle.fol_base.proofs.AboutClauses.RuleLemmas.{superposed-parts, superposed_literal-parts, resolved-parts, factored-parts, merged-parts}
use Rattle.kernel_steps.specs.Conclusion.{bound_clause, bound_literals, binds}
use Rattle.tstp_writer.specs.ReadableLines.{Fits}

-- ---- terms

argument-size : (ts : Trees) (i : ℕ) (a : Tree) → slice_get (list_of ts) i ≡ Some a → (i < trees_size ts) × (tree_size a ≤ trees_size ts)
argument-size no_trees i a at = absurd (none-some a at)
argument-size (tree_then t ts) zero a at =
    let same : tree_size t ≡ tree_size a = ap tree_size (same_Some t a at) in
    (omega (arith, tree_size-positive t), omega (arith, same))
argument-size (tree_then t ts) (suc i) a at =
    let rest = argument-size ts i a at in
    (omega (arith, rest.0, tree_size-positive t), omega (arith, rest.1))

place-below : (n : ℕ) (place : List ℕ) (t u : Tree) → subterm place t ≡ Some u → tree_size t ≤ n → AllByRecursion (λ i. i < n) place
place-below n [] t u at small = tt
place-below n (i ∷ place) (variable v) u at small = absurd (none-some u at)
place-below n (i ∷ place) (application f ts) u at small =
    option_and_then_some (subterm place) (slice_get (list_of ts) i) u at λ a a_is a_at.
    let size = argument-size ts i a a_is in
    (omega (arith, size.0, small), place-below n place a u a_at (omega (arith, size.1, small)))

-- ---- literals

size-more : (k : TreeLiteral) (ls : List TreeLiteral) → sum_by literal_size (k ∷ ls) ≡ tree_size k.left + tree_size k.right + sum_by literal_size ls
size-more k ls = sum_by-cons literal_size k ls

literal-small :
    (ls : List TreeLiteral) (i : ℕ) (l : TreeLiteral) → slice_get ls i ≡ Some l
    → (i < sum_by literal_size ls) × (literal_size l ≤ sum_by literal_size ls)
literal-small [] i l at = absurd (none-some l at)
literal-small (k ∷ ls) zero l at =
    let same : literal_size k ≡ literal_size l = ap literal_size (same_Some k l at) in
    let size = size-more k ls in
    (omega (arith, size, tree_size-positive k.left), omega (arith, size, same))
literal-small (k ∷ ls) (suc i) l at =
    let rest = literal-small ls i l at in
    let size = size-more k ls in
    (omega (arith, size, rest.0, tree_size-positive k.left), omega (arith, size, rest.1))

side-small : (z : Side) (l : TreeLiteral) → tree_size (side_of z l) ≤ literal_size l
side-small Left l = omega arith
side-small Right l = omega arith

-- a parent under a binding that is right is small
bound-small : (bind : List Tree) (c : TreeClause) → binds bind c ≡ true → sum_by literal_size (bound_literals bind c) ≤ MOST_BOUND_SYMBOLS
bound-small bind c h =
    let parts = and_parts (length bind == bound_of (clause_variables c)) _ h in
    let rest = and_parts (list_all (λ t. not (is_truth t)) bind) (nat_le (clause_size (bound_clause bind c)) MOST_BOUND_SYMBOLS) parts.1 in
    leb-true (clause_size (bound_clause bind c)) MOST_BOUND_SYMBOLS rest.1

literal-fits : (bind : List Tree) (c : TreeClause) (i : ℕ) (l : TreeLiteral) → binds bind c ≡ true → slice_get (bound_literals bind c) i ≡ Some l → Fits i
literal-fits bind c i l h at = let small = literal-small (bound_literals bind c) i l at in omega (arith, small.0, bound-small bind c h)

all-fit : (place : List ℕ) → AllByRecursion (λ i. i < MOST_BOUND_SYMBOLS) place → AllByRecursion Fits place
all-fit [] h = tt
all-fit (i ∷ place) h = (let low : i < MOST_BOUND_SYMBOLS = h.0 in omega (arith, low), all-fit place h.1)

-- ---- steps

pub record ParaFits (from into : ℕ) (place : List ℕ) : Type 0 where
  pub from_fits : Fits from
  pub into_fits : Fits into
  pub place_fits : AllByRecursion Fits place

pub para-fits :
    (first second : TreeClause) (first_bind second_bind : List Tree) (from into : ℕ) (from_side into_side : Side) (place : List ℕ)
    (made : List TreeLiteral)
    → binds first_bind first ≡ true → binds second_bind second ≡ true
    → superposed (bound_literals first_bind first) from from_side (bound_literals second_bind second) into into_side place ≡ Some made
    → ParaFits from into place
para-fits first second first_bind second_bind from into from_side into_side place made first_bound second_bound h =
    let parts =
    superposed-parts (bound_literals first_bind first) from from_side (bound_literals second_bind second) into into_side place made h in
    let literal = superposed_literal-parts parts.from from_side parts.into into_side place parts.literal parts.literal_made in
    let into_small = literal-small (bound_literals second_bind second) into parts.into parts.into_there in
    let small : tree_size (side_of into_side parts.into) ≤ MOST_BOUND_SYMBOLS =
    omega (arith, side-small into_side parts.into, into_small.1, bound-small second_bind second second_bound) in
    record {
      from_fits = literal-fits first_bind first from parts.from first_bound parts.from_there;
      into_fits = literal-fits second_bind second into parts.into second_bound parts.into_there;
      place_fits =
          all-fit place
          (place-below MOST_BOUND_SYMBOLS place (side_of into_side parts.into) (side_of from_side parts.from) literal.old_there small);
    }

pub refl-fits :
    (c : TreeClause) (bind : List Tree) (literal : ℕ) (made : List TreeLiteral)
    → binds bind c ≡ true → resolved (bound_literals bind c) literal ≡ Some made → Fits literal
refl-fits c bind literal made bound h =
    let parts = resolved-parts (bound_literals bind c) literal made h in
    literal-fits bind c literal parts.literal bound parts.literal_there

pub factor-fits :
    (c : TreeClause) (bind : List Tree) (becomes : ℕ) (becomes_side : Side) (other : ℕ) (other_side : Side) (made : List TreeLiteral)
    → binds bind c ≡ true → factored (bound_literals bind c) becomes becomes_side other other_side ≡ Some made → Fits becomes × Fits other
factor-fits c bind becomes becomes_side other other_side made bound h =
    let parts = factored-parts (bound_literals bind c) becomes becomes_side other other_side made h in
    (literal-fits bind c becomes parts.literal_i bound parts.i_there, literal-fits bind c other parts.literal_j bound parts.j_there)

pub merge-fits :
    (c : TreeClause) (bind : List Tree) (stays goes : ℕ) (made : List TreeLiteral)
    → binds bind c ≡ true → merged (bound_literals bind c) stays goes ≡ Some made → Fits stays × Fits goes
merge-fits c bind stays goes made bound h =
    let parts = merged-parts (bound_literals bind c) stays goes made h in
    (literal-fits bind c stays parts.literal_i bound parts.i_there, literal-fits bind c goes parts.literal_j bound parts.j_there)
