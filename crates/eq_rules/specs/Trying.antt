-- What is known of a name that was tried.
use Rattle.std.specs.Prelude.{ℕ, Bool, Option, None, Some, IsTrue}
use Rattle.fol_base.specs.Clause.{TreeClause}
use Rattle.fol_base.specs.Selection.{SelectionMode}
use Rattle.fol_base.specs.WellFormed.{SymbolUse, are_literals_of}
use Rattle.kernel_steps.specs.Named.{IsInference}
use Rattle.kernel_steps.specs.declared.key.Key.{Key}
use Rattle.bank_clause.specs.Clause.{clause_at}
use Rattle.bank_clause.specs.declared.member.Member.{Member}
use Rattle.eq_rules.specs.Inferences.{IsMade, alone}
use Rattle.eq_rules.specs.declared.inference.Made.{Made}

-- the inference of that name has this result, or there is none
abbrev pub IsTried : (ℕ → Bool) → SelectionMode → (ℕ → Option TreeClause) → Key → Option Made → Type 0
IsTried is_predicate mode clauses key None = (c : TreeClause) → IsInference is_predicate mode clauses key c → ⊥
IsTried is_predicate mode clauses key (Some made) = IsMade is_predicate mode clauses key made

-- of one member alone, under each use of the symbols under which its clause is well-formed
abbrev pub IsTriedOf : SelectionMode → Member → Key → Option Made → Type 0
IsTriedOf mode m key made =
    (usage : SymbolUse) → IsTrue (are_literals_of usage (clause_at m.clause).literals)
    → IsTried usage.is_predicate mode (alone m) key made
