-- The verdict on a step: its conclusion, or the first fault.
use Rattle.std.specs.Prelude.{◌≡◌, ℕ, Bool, true, false, not, ◌&&◌, ◌==◌, nat_le, List, [], ◌++◌, map, flat_map, length, Option, None, Some, option_and_then, option_map, Result, Ok, Err, IsFalse, if◌then◌else◌}
use Rattle.std.specs.List.{list_all}
use Rattle.plain_types.specs.declared.sequence.NameLit.{NameLit}
use Rattle.plain_types.specs.Names.{opposite}
use Rattle.fol_base.specs.Tree.{Tree, is_truth}
use Rattle.fol_base.specs.Instance.{substitution}
use Rattle.fol_base.specs.Clause.{TreeLiteral, TreeClause, clause_instance, clause_size, clause_variables}
use Rattle.fol_base.specs.Canonical.{bound_of}
use Rattle.fol_base.specs.Literal.{clause_of}
use Rattle.fol_base.specs.Rules.{superposed, resolved, factored, merged}
use Rattle.fol_base.specs.declared.clause.Clause.{Clause}
use Rattle.fol_base.specs.declared.limits.TheConstants.{MOST_BOUND_SYMBOLS}
use Rattle.kernel_steps.specs.Names.{sorted_names, chained}
use Rattle.kernel_steps.specs.Parents.{Parent, Parents, all_there}
use Rattle.kernel_steps.specs.Split.{is_split}
use Rattle.kernel_steps.specs.declared.step.Step.{Step}
use Rattle.kernel_steps.specs.declared.step.Step.TheVariants.{Para, Refl, Factor, Merge, Split, Chain}
use Rattle.kernel_steps.specs.declared.step.StepFault.{StepFault}
use Rattle.kernel_steps.specs.declared.step.StepFault.TheVariants.{Binding, Rule, NoMemory}

-- the clause without literals and without names, which is false
abbrev pub empty_clause : TreeClause
empty_clause = record { literals = []; names = [] }

-- ---- bindings

-- a parent under a binding
abbrev pub bound_clause : List Tree → TreeClause → TreeClause
bound_clause bind c = clause_instance (substitution bind) c

-- the literals of a parent under a binding
abbrev pub bound_literals : List Tree → TreeClause → List TreeLiteral
bound_literals bind c = (bound_clause bind c).literals

-- A binding has one term for each variable of its parent, by number; none of the terms is `$true`; and
-- the parent under it isn't too large. The variables of a line's clause are numbered from 0 without gaps.
abbrev pub binds : List Tree → TreeClause → Bool
binds bind c =
    (length bind == bound_of (clause_variables c))
    && (list_all (λ t. not (is_truth t)) bind && nat_le (clause_size (bound_clause bind c)) MOST_BOUND_SYMBOLS)

-- a binding isn't tested where there is no such parent: then the rule fails
abbrev pub binds_parent : List Tree → Option Parent → Bool
binds_parent bind None = true
binds_parent bind (Some p) = binds bind p.clause

-- ---- verdicts

-- the outcome of a step: a fault of its bindings, a failed condition of its rule, or its conclusion
pub data Verdict : Type 0 where
  binding_fault : Verdict
  rule_fault : Verdict
  concludes : TreeClause → Verdict

-- the verdict from a rule's result, which is none where the rule's condition fails
abbrev pub verdict_of : Option TreeClause → Verdict
verdict_of None = rule_fault
verdict_of (Some c) = concludes c

-- faults of bindings come before those of the rule
abbrev pub verdict_if : Bool → Option TreeClause → Verdict
verdict_if bound made = if bound then verdict_of made else binding_fault

-- the clause of these literals and of these names, the names sorted and each once
abbrev pub clause_with : List NameLit → List TreeLiteral → TreeClause
clause_with names ls = record { literals = ls; names = sorted_names names }

-- the verdict by a rule on the literals of one parent under a binding; its names stay
abbrev pub by_one : Option Parent → List Tree → (List TreeLiteral → Option (List TreeLiteral)) → Verdict
by_one parent bind rule =
    verdict_if (binds_parent bind parent)
    (option_and_then (λ (p : Parent). option_map (clause_with p.clause.names) (rule (bound_literals bind p.clause))) parent)

-- the verdict by a rule on the literals of two parents, each under its binding; their names are united
abbrev pub by_two : Option Parent → List Tree → Option Parent → List Tree → (List TreeLiteral → List TreeLiteral → Option (List TreeLiteral)) → Verdict
by_two first first_bind second second_bind rule =
    verdict_if (binds_parent first_bind first && binds_parent second_bind second)
    (option_and_then (λ (p : Parent). option_and_then (λ (q : Parent). option_map
    (clause_with (p.clause.names ++ q.clause.names)) (rule (bound_literals first_bind p.clause) (bound_literals second_bind q.clause)))
    second) first)

-- a parent split into parts: its names, and for each part the opposite of its definition's name
abbrev pub split_from : Parent → List Parent → List (List ℕ) → Option TreeClause
split_from p definitions parts =
    if is_split p.clause.literals definitions parts
    then Some (clause_with (p.clause.names ++ map opposite (flat_map (λ (d : Parent). d.clause.names) definitions)) [])
    else None

-- the names of a parent that has no literals; none where it has some
abbrev pub names_alone : Parent → Option (List NameLit)
names_alone p = if length p.clause.literals == 0 then Some p.clause.names else None

-- the names of the parent with that number, if it is there and has no literals
abbrev pub names_at : Parents → ℕ → Option (List NameLit)
names_at parents n = option_and_then names_alone (parents n)

-- the clause of names alone
abbrev pub clause_of_names : List NameLit → TreeClause
clause_of_names names = record { literals = []; names = names }

-- the verdict on a step by one of the six rules; the other kinds of steps have no parents, and are no steps by a rule
abbrev pub verdict : Step → Parents → Verdict
verdict (Para first second from from_side into into_side place first_bind second_bind) parents =
    by_two (parents first) first_bind (parents second) second_bind (λ ls ks. superposed ls from from_side ks into into_side place)
verdict (Refl parent literal bind) parents = by_one (parents parent) bind (λ ls. resolved ls literal)
verdict (Factor parent becomes becomes_side other other_side bind) parents =
    by_one (parents parent) bind (λ ls. factored ls becomes becomes_side other other_side)
verdict (Merge parent stays goes bind) parents = by_one (parents parent) bind (λ ls. merged ls stays goes)
verdict (Split parent definitions parts) parents =
    verdict_of (option_and_then (λ p. option_and_then (λ ds. split_from p ds parts) (all_there (map parents definitions))) (parents parent))
verdict (Chain numbers pivots) parents =
    verdict_of (option_map clause_of_names (option_and_then (λ nss. chained nss pivots) (all_there (map (names_at parents) numbers))))
verdict _ parents = rule_fault

-- the steps that conclude from parents by a rule
abbrev pub is_rule_step : Step → Bool
is_rule_step (Para first second from from_side into into_side place first_bind second_bind) = true
is_rule_step (Refl parent literal bind) = true
is_rule_step (Factor parent becomes becomes_side other other_side bind) = true
is_rule_step (Merge parent stays goes bind) = true
is_rule_step (Split parent definitions parts) = true
is_rule_step (Chain numbers pivots) = true
is_rule_step _ = false

-- the fault is the verdict's; out of memory may be answered at any verdict
abbrev pub IsFaultOf : StepFault → Verdict → Type 0
IsFaultOf Binding v = v ≡ binding_fault
IsFaultOf Rule v = v ≡ rule_fault
IsFaultOf NoMemory v = Unit {0}

-- the answer is the verdict's conclusion, or its fault
abbrev pub IsAnswerTo : Verdict → Result Clause StepFault → Type 0
IsAnswerTo v (Ok clause) = v ≡ concludes (clause_of clause)
IsAnswerTo v (Err fault) = IsFaultOf fault v

-- why a parent can't be used: its binding isn't right, or it isn't there
abbrev pub IsRefusal : List Tree → Option Parent → StepFault → Type 0
IsRefusal bind None fault = fault ≡ Rule
IsRefusal bind (Some p) fault = (fault ≡ Binding) × IsFalse (binds bind p.clause)
