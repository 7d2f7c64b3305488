-- Names of literals, while more nodes and equations come.
use Rattle.std.proofs.Common.{◌≡◌, ℕ, ◌+◌, ◌<◌, ◌≤◌, ◌^◌, true, List, [], ◌∷◌, ◌++◌, length, map, take, get_or, nat_lt, refl, sym, ap, subst, ◌∙◌, arith}
use Rattle.std.proofs.lemmas.Bool.{and_parts, and_from}
use Rattle.std.proofs.lemmas.Bool.Decides.{nat_tests}
use Rattle.list_lemmas.proofs.Bools.{and-true}
use Rattle.list_lemmas.proofs.Lists.{length-pushed}
use Rattle.list_lemmas.proofs.Places.{last-item}
use Rattle.list_lemmas.proofs.Numbers.{less-says}
use Rattle.list_lemmas.proofs.Tests.{all-joined}
use Rattle.fol_base.specs.Tree.{Tree}
use Rattle.fol_base.specs.Clause.{TreeLiteral}
use Rattle.fol_base.specs.Ground.{GroundClause, is_ground_literal, is_ground_clause}
use Rattle.fol_base.specs.Literal.{literal_of}
use Rattle.fol_base.specs.declared.clause.Literal.{Literal}
use Rattle.fol_base.specs.declared.clause.Clause.{Clause}
use Rattle.fol_base.proofs.ListLemmas.{map-take_more_item}
use Rattle.plain_types.specs.declared.sequence.NameLit.{NameLit}
use Rattle.sat_core.specs.Clause.{PropClause}
use Rattle.congruence.specs.declared.node.Node.{Node}
use Rattle.congruence.specs.declared.node.Equation.{Equation}
use Rattle.congruence.specs.Congruence.{equation_at, is_between}
use Rattle.congruence.proofs.AboutClasses.PlaceLemmas.{all-weaker, all-here, all-mapped}
use Rattle.herbrand_list.specs.Nodes.{Stands, AreTermNodes, IsGrown, IsNameOf, AreNamesOf, AreClausesOf, AreAtoms}
use Rattle.herbrand_list.specs.Refuted.{ground_clauses, are_ground_clauses}
use Rattle.herbrand_list.proofs.AboutRefuting.PairLemmas.{pairs-weaker, pairs-last}
use Rattle.herbrand_list.proofs.AboutRefuting.NodeLemmas.{grown-twice, grown-longer, grown-at, stands-still, stands-within}

pub ltb-from : (m n : ℕ) → m < n → nat_lt m n ≡ true
ltb-from m n low = grind (arith, nat_tests)

-- ---- what stays

pub name-still :
    (old new : List Node) (atoms more : List Equation) → IsGrown old new → IsGrown atoms more
    → (l : TreeLiteral) (name : NameLit) → IsNameOf old atoms l name → IsNameOf new more l name
name-still old new atoms more nodes equations l name is =
    let low : name.name < length atoms = less-says name.name (length atoms) is.below in
    let longer : length atoms ≤ length more = grown-longer atoms more equations in
    let same : equation_at more name.name ≡ equation_at atoms name.name = grown-at atoms more name.name (record { left = 0; right = 0 }) equations low in
    record {
      sign = is.sign;
      below = ltb-from name.name (length more) (omega (arith, low, longer));
      left =
          subst (λ (e : Equation). Stands new e.left l.left) (sym same)
          (stands-still old new nodes (equation_at atoms name.name).left l.left is.left);
      right =
          subst (λ (e : Equation). Stands new e.right l.right) (sym same)
          (stands-still old new nodes (equation_at atoms name.name).right l.right is.right);
    }

pub names-still :
    (old new : List Node) (atoms more : List Equation) → IsGrown old new → IsGrown atoms more
    → (ls : GroundClause) (names : PropClause) → AreNamesOf old atoms ls names → AreNamesOf new more ls names
names-still old new atoms more nodes equations ls names are =
    pairs-weaker (IsNameOf old atoms) (IsNameOf new more) (name-still old new atoms more nodes equations) ls names are

pub clauses-still :
    (old new : List Node) (atoms more : List Equation) → IsGrown old new → IsGrown atoms more
    → (list : List GroundClause) (clauses : List PropClause) → AreClausesOf old atoms list clauses → AreClausesOf new more list clauses
clauses-still old new atoms more nodes equations list clauses are =
    pairs-weaker (AreNamesOf old atoms) (AreNamesOf new more) (names-still old new atoms more nodes equations) list clauses are

-- ---- one more

pub names-more :
    (old new : List Node) (atoms more : List Equation) (ls now : GroundClause) (names later : PropClause) (l : TreeLiteral) (name : NameLit)
    → IsGrown old new → IsGrown atoms more → AreNamesOf old atoms ls names → IsNameOf new more l name
    → now ≡ ls ++ l ∷ [] → later ≡ names ++ name ∷ [] → AreNamesOf new more now later
names-more old new atoms more ls now names later l name nodes equations are is e f =
    subst (λ (ks : GroundClause). AreNamesOf new more ks later) (sym e)
    (subst (λ (ns : PropClause). AreNamesOf new more (ls ++ l ∷ []) ns) (sym f)
    (pairs-last (IsNameOf new more) ls names l name (names-still old new atoms more nodes equations ls names are) is))

pub clauses-more :
    (old new : List Node) (atoms more : List Equation) (list now : List GroundClause) (clauses later : List PropClause) (ls : GroundClause) (names : PropClause)
    → IsGrown old new → IsGrown atoms more → AreClausesOf old atoms list clauses → AreNamesOf new more ls names
    → now ≡ list ++ ls ∷ [] → later ≡ clauses ++ names ∷ [] → AreClausesOf new more now later
clauses-more old new atoms more list now clauses later ls names nodes equations are is e f =
    subst (λ (ks : List GroundClause). AreClausesOf new more ks later) (sym e)
    (subst (λ (ns : List PropClause). AreClausesOf new more (list ++ ls ∷ []) ns) (sym f)
    (pairs-last (AreNamesOf new more) list clauses ls names (clauses-still old new atoms more nodes equations list clauses are) is))

-- ---- equations

between-longer : (old new : List Node) → IsGrown old new → (e : Equation) → is_between old e ≡ true → is_between new e ≡ true
between-longer old new grown e h =
    let parts = and_parts (nat_lt e.left (length old)) (nat_lt e.right (length old)) h in
    let longer : length old ≤ length new = grown-longer old new grown in
    and_from (nat_lt e.left (length new)) (nat_lt e.right (length new))
    (ltb-from e.left (length new) (omega (arith, less-says e.left (length old) parts.0, longer)))
    (ltb-from e.right (length new) (omega (arith, less-says e.right (length old) parts.1, longer)))

-- more nodes
pub atoms-longer : (old new : List Node) (atoms : List Equation) → AreAtoms old atoms → IsGrown old new → AreTermNodes new → AreAtoms new atoms
atoms-longer old new atoms are grown terms = record {
  terms = terms;
  between = all-weaker (is_between old) (is_between new) (between-longer old new grown) atoms are.between;
  few = are.few;
}

-- one more equation
pub atoms-more :
    (nodes : List Node) (atoms more : List Equation) (e : Equation) → AreAtoms nodes atoms → is_between nodes e ≡ true
    → length atoms + 1 < 2 ^ 32 → more ≡ atoms ++ e ∷ [] → AreAtoms nodes more
atoms-more nodes atoms more e are between few is =
    subst (AreAtoms nodes) (sym is) record {
      terms = are.terms;
      between = all-joined (is_between nodes) atoms (e ∷ []) are.between (and-true (is_between nodes e) ∙ between);
      few = omega (arith, length-pushed atoms e, few);
    }

pub stands-between :
    (old new : List Node) (left right : ℕ) (t u : Tree) → IsGrown old new → Stands old left t → Stands new right u
    → is_between new (record { left = left; right = right }) ≡ true
stands-between old new left right t u grown first second =
    and_from (nat_lt left (length new)) (nat_lt right (length new))
    (ltb-from left (length new) (omega (arith, stands-within old left t first, grown-longer old new grown)))
    (ltb-from right (length new) (stands-within new right u second))

pub name-of :
    (old new : List Node) (atoms : List Equation) (l : TreeLiteral) (left right number : ℕ) → IsGrown old new
    → Stands old left l.left → Stands new right l.right → number < length atoms
    → equation_at atoms number ≡ record { left = left; right = right }
    → IsNameOf new atoms l (record { positive = l.positive; name = number })
name-of old new atoms l left right number grown first second low is = record {
  sign = refl;
  below = ltb-from number (length atoms) low;
  left = subst (λ (e : Equation). Stands new e.left l.left) (sym is) (stands-still old new grown left l.left first);
  right = subst (λ (e : Equation). Stands new e.right l.right) (sym is) second;
}

-- ---- what calls leave

-- no equations
pub atoms-none : (nodes : List Node) (atoms : List Equation) → AreTermNodes nodes → atoms ≡ [] → AreAtoms nodes atoms
atoms-none nodes atoms terms is =
    subst (AreAtoms nodes) (sym is) record { terms = terms; between = refl; few = omega arith }

-- an equation is pushed
pub atom-pushed :
    (nodes : List Node) (atoms more : List Equation) (e : Equation) (n : ℕ) → AreAtoms nodes atoms → is_between nodes e ≡ true
    → n ≡ length atoms → n + 1 < 2 ^ 32 → more ≡ atoms ++ e ∷ []
    → (n < length more) × (equation_at more n ≡ e) × IsGrown atoms more × AreAtoms nodes more
atom-pushed nodes atoms more e n are between at few is = (
  omega (arith, at, ap length is, length-pushed atoms e),
  ap (λ l. equation_at l n) is ∙ ap (equation_at (atoms ++ e ∷ [])) at ∙ last-item atoms e (record { left = 0; right = 0 }),
  record { more = e ∷ []; is = is },
  atoms-more nodes atoms more e are between (omega (arith, at, few)) is,
)

-- the name of a literal whose sides have their nodes
pub literal-named :
    (start old new last : List Node) (before atoms : List Equation) (l : TreeLiteral) (left right number : ℕ)
    → IsGrown start old → IsGrown old new → last ≡ new → Stands old left l.left → Stands new right l.right → number < length atoms
    → equation_at atoms number ≡ record { left = left; right = right }
    → IsNameOf last atoms l (record { positive = l.positive; name = number }) × IsGrown start last
literal-named start old new last before atoms l left right number first second same left_stands right_stands low is =
    subst (λ (ns : List Node). IsNameOf ns atoms l (record { positive = l.positive; name = number }) × IsGrown start ns) (sym same)
    (name-of old new atoms l left right number second left_stands right_stands low is, grown-twice start old new first second)

-- the nodes of a second side
pub atoms-later :
    (start old new : List Node) (atoms : List Equation) → AreAtoms start atoms → IsGrown start old → IsGrown old new → AreTermNodes new
    → AreAtoms new atoms
atoms-later start old new atoms are first second terms = atoms-longer start new atoms are (grown-twice start old new first second) terms

-- ---- walks

-- a literal of ground literals
pub ground-literal-item :
    (ls : List Literal) (k : ℕ) (l : Literal) → is_ground_clause (map literal_of ls) ≡ true → k < length ls → l ≡ get_or ls k l
    → is_ground_literal (literal_of l) ≡ true
ground-literal-item ls k l h low read =
    subst (λ (m : Literal). is_ground_literal (literal_of m) ≡ true) (sym read)
    (all-here (λ (m : Literal). is_ground_literal (literal_of m)) ls k l (sym (all-mapped is_ground_literal literal_of ls) ∙ h) low)

-- the literals of a clause of ground clauses
pub ground-clause-item :
    (list : List Clause) (k : ℕ) (c : Clause) (read : List Literal) → are_ground_clauses (ground_clauses list) ≡ true → k < length list
    → c ≡ get_or list k c → read ≡ c.literals → is_ground_clause (map literal_of read) ≡ true
ground-clause-item list k c read h low at is =
    ap (λ (ls : List Literal). is_ground_clause (map literal_of ls)) is
    ∙ subst (λ (d : Clause). is_ground_clause (map literal_of d.literals) ≡ true) (sym at)
    (all-here (λ (d : Clause). is_ground_clause (map literal_of d.literals)) list k c
    (sym (all-mapped is_ground_clause (λ (d : Clause). map literal_of d.literals) list) ∙ h) low)

pub names-walked :
    (old new : List Node) (atoms more : List Equation) (ls : List Literal) (k : ℕ) (l : Literal) (names later : PropClause) (name : NameLit)
    → k < length ls → l ≡ get_or ls k l → IsGrown old new → IsGrown atoms more → AreNamesOf old atoms (map literal_of (take k ls)) names
    → IsNameOf new more (literal_of l) name → later ≡ names ++ name ∷ [] → AreNamesOf new more (map literal_of (take (k + 1) ls)) later
names-walked old new atoms more ls k l names later name low read nodes equations are is last =
    names-more old new atoms more (map literal_of (take k ls)) (map literal_of (take (k + 1) ls)) names later (literal_of l) name nodes equations are is
    (map-take_more_item literal_of ls k l low read) last

pub clauses-walked :
    (old new : List Node) (atoms more : List Equation) (list : List Clause) (k : ℕ) (c : Clause) (read : List Literal)
    (clauses later : List PropClause) (names lent : PropClause)
    → k < length list → c ≡ get_or list k c → read ≡ c.literals → IsGrown old new → IsGrown atoms more
    → AreClausesOf old atoms (ground_clauses (take k list)) clauses → AreNamesOf new more (map literal_of read) names
    → lent ≡ names → later ≡ clauses ++ lent ∷ [] → AreClausesOf new more (ground_clauses (take (k + 1) list)) later
clauses-walked old new atoms more list k c read clauses later names lent low at is nodes equations are here same last =
    clauses-more old new atoms more (ground_clauses (take k list)) (ground_clauses (take (k + 1) list)) clauses later (map literal_of read) names nodes
    equations are here
    (map-take_more_item (λ (d : Clause). map literal_of d.literals) list k c low at
    ∙ ap (λ (ms : List Literal). ground_clauses (take k list) ++ map literal_of ms ∷ []) (sym is))
    (last ∙ ap (λ (ns : PropClause). clauses ++ ns ∷ []) same)
