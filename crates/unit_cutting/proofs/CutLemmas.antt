-- Where no unit of the set cuts a literal.
use Rattle.std.proofs.Common.{◌≡◌, ℕ, ◌+◌, ◌<◌, ◌≤◌, Bool, true, false, not, List, [], ◌∷◌, length, ap, sym, ◌∙◌, subst, ⊎_elim, arith}
use Rattle.std.specs.Prelude.{Option, Some, slice_get, MatchBool}
use Rattle.std.proofs.lemmas.Bool.{or_left, or_right, cases_order}
use Rattle.std.proofs.Math.Bool.{not-not}
use Rattle.std.proofs.lemmas.Option.{same_Some, slice_get_within}
use Rattle.fol_base.specs.Clause.{TreeLiteral, TreeClause, literal_instance}
use Rattle.fol_base.specs.Compatible.{compatible_generalisation}
use Rattle.fol_base.specs.Instance.{Substitution}
use Rattle.fol_base.specs.Order.{equivalent_literals}
use Rattle.fol_base.proofs.AboutOrders.OrderLemmas.{SameLiteral, equivalent_literals-decided}
use Rattle.kernel_steps.specs.Derivation.{complement}
use Rattle.bank_clause.specs.Clause.{clause_at}
use Rattle.bank_clause.specs.declared.clause.BankClause.{BankClause}
use Rattle.bank_clause.specs.declared.member.Member.{Member}
use Rattle.disc_tree.specs.Entries.{IsIn}
use Rattle.disc_tree.proofs.AboutQueries.UnifierLemmas.{generalisation-compatible}
use Rattle.rewriting.specs.Units.{clause_numbered, is_kept}
use Rattle.kernel_steps.specs.declared.step.TheConstants.{CLAUSE_NUMBERS}
use Rattle.kernel_steps.specs.declared.step.Reduced.{Reduced}
use Rattle.unit_cutting.specs.CutSteps.{CutsNone, CutsOrNot, IsCutStep}
use Rattle.fol_base.specs.Literal.{clause_of}
use Rattle.fol_base.specs.WellFormed.{SymbolUse}
use Rattle.bank_clause.specs.Members.{IsMemberOfUse}
use Rattle.unit_cutting.specs.Indexed.{HasCandidates, may_cover, numbered}
use Rattle.unit_cutting.specs.Cuts.{CutsNoneAt, SignedCutsNone, IsCutOrNotBy, NoneCuts}
use Rattle.unit_cutting.specs.Cuttable.{IsCutBy}

-- a literal of which another one is the complement's instance, sides in either order, may cover it
covers : (u l : TreeLiteral) (σ : Substitution) → equivalent_literals (literal_instance σ (complement u)) l ≡ true → may_cover u l ≡ true
covers u l σ h =
    let same : SameLiteral (literal_instance σ (complement u)) l = (equivalent_literals-decided (literal_instance σ (complement u)) l).0 h in
    ⊎_elim
    (λ straight.
    or_left (compatible_generalisation u.left l.left) (compatible_generalisation u.left l.right)
    (generalisation-compatible u.left l.left σ straight.0))
    (λ crossed.
    or_right (compatible_generalisation u.left l.left) (compatible_generalisation u.left l.right)
    (generalisation-compatible u.left l.right σ crossed.0))
    same.1

-- the one that cuts a literal has the other sign
other-sign : (u l : TreeLiteral) (σ : Substitution) → equivalent_literals (literal_instance σ (complement u)) l ≡ true → u.positive ≡ not l.positive
other-sign u l σ h =
    let same : SameLiteral (literal_instance σ (complement u)) l = (equivalent_literals-decided (literal_instance σ (complement u)) l).0 h in
    sym (not-not u.positive) ∙ ap not same.0

-- none of the units with the other sign that may cover a literal cuts the clause
abbrev pub NoneOver : List Member → Option ℕ → TreeClause → TreeLiteral → Type 0
NoneOver units out c l =
    (n : ℕ) (u : BankClause) (k : TreeLiteral)
    → clause_numbered n units ≡ Some u → (clause_at u).literals ≡ k ∷ [] → may_cover k l ≡ true → k.positive ≡ not l.positive → CutsNoneAt units out c n

-- nor of those that may cover one of the first literals
abbrev pub NoneBefore : ℕ → List Member → Option ℕ → TreeClause → Type 0
NoneBefore i units out c = (j : ℕ) (l : TreeLiteral) → j < i → slice_get c.literals j ≡ Some l → NoneOver units out c l

pub none-over :
    (units : List Member) (out : Option ℕ) (c : TreeClause) (l : TreeLiteral) (numbers : List ℕ)
    → HasCandidates units l numbers → ((n : ℕ) → IsIn n numbers → SignedCutsNone units out (not l.positive) c n) → NoneOver units out c l
none-over units out c l numbers candidates none n u k there alone may sign v v_there kept =
    let same : u ≡ v = same_Some u v (sym there ∙ v_there) in
    none n (candidates n u k there alone may) v k v_there (ap (λ (d : BankClause). (clause_at d).literals) (sym same) ∙ alone) sign kept

pub one-more :
    (i : ℕ) (units : List Member) (out : Option ℕ) (c : TreeClause) (here : TreeLiteral)
    → slice_get c.literals i ≡ Some here → NoneBefore i units out c → NoneOver units out c here → NoneBefore (i + 1) units out c
one-more i units out c here at before none j l less there =
    ⊎_elim
    (λ (same : j ≡ i).
    subst (NoneOver units out c) (same_Some here l (sym at ∙ ap (slice_get c.literals) (sym same) ∙ there)) none)
    (λ r. ⊎_elim (λ below. before j l below there) (λ above. absurd (omega (arith, less, above))) r)
    (cases_order j i)

-- a unit that cuts a literal may cover it
pub none-of-all :
    (i : ℕ) (units : List Member) (out : Option ℕ) (c : TreeClause) → length c.literals ≤ i → NoneBefore i units out c → NoneCuts units out c
none-of-all i units out c all before n u there kept usage wf d cuts =
    before cuts.j cuts.literal (omega (arith, slice_get_within c.literals cuts.j cuts.literal cuts.literal_there, all)) cuts.literal_there
    n u cuts.unit_literal there cuts.is_unit (covers cuts.unit_literal cuts.literal cuts.matcher cuts.matches)
    (other-sign cuts.unit_literal cuts.literal cuts.matcher cuts.matches) u there kept usage wf d cuts

-- ---- one unit

-- what a unit does that has a number in the set
pub by-unit :
    (units : List Member) (out : Option ℕ) (positive : Bool) (n : ℕ) (u : Member) (old new : Reduced)
    → Some u.clause ≡ clause_numbered n units → u.number ≡ n → is_kept out u.number ≡ true → u.number < CLAUSE_NUMBERS
    → (cut : Bool) → IsCutStep u old new cut → IsCutOrNotBy units out positive n old new cut
by-unit units out positive n u old new there number kept low true step =
    let same : u ≡ numbered n u.clause = ap (λ (k : ℕ). numbered k u.clause) number in
    record {
      number = n;
      clause = u.clause;
      there = sym there;
      kept = ap (is_kept out) (sym number) ∙ kept;
      low = subst (λ k. k < CLAUSE_NUMBERS) number low;
      step = subst (λ (m : Member). IsCutStep m old new true) same step;
    }
by-unit units out positive n u old new there number kept low false step = (
  step.0,
  λ v l v_there alone sign v_kept.
      let clauses : u.clause ≡ v = same_Some u.clause v (there ∙ v_there) in
      let same : u ≡ numbered n v = ap (λ (k : ℕ). numbered k u.clause) number ∙ ap (numbered n) clauses in
      subst (λ (m : Member). CutsNone m (clause_of old.clause)) same step.1,
)

-- one that hasn't the sign
pub by-sign :
    (units : List Member) (out : Option ℕ) (positive : Bool) (n : ℕ) (u : Member) (c : TreeClause) (has : Bool)
    → Some u.clause ≡ clause_numbered n units → ((l : TreeLiteral) → (clause_at u.clause).literals ≡ l ∷ [] → l.positive ≡ has)
    → (has ≡ positive → ⊥) → SignedCutsNone units out positive c n
by-sign units out positive n u c has there signed other v l v_there alone sign kept =
    let clauses : u.clause ≡ v = same_Some u.clause v (there ∙ v_there) in
    absurd (other (sym (signed l (ap (λ (d : BankClause). (clause_at d).literals) clauses ∙ alone)) ∙ sign))

-- and what it does to another member
pub decided :
    (usage : SymbolUse) (unit m : Member) → (m.number ≡ unit.number → ⊥) → (answer : Bool) → CutsOrNot unit (clause_at m.clause) answer
    → IsMemberOfUse usage unit → IsMemberOfUse usage m
    → MatchBool answer (IsCutBy usage.is_predicate unit m) (IsCutBy usage.is_predicate unit m → ⊥)
decided usage unit m another true h of_unit of_member =
    record { another = another; cut = h usage (record { first = of_unit; second = of_member }) }
decided usage unit m another false h of_unit of_member =
    λ by. h usage (record { first = of_unit; second = of_member }) by.cut.result by.cut.cuts
