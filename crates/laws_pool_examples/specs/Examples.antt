-- The worked examples: what pools begin with, and their histories. The symbols are those of the base's examples.
use Rattle.std.specs.Prelude.{ℕ, zero, suc, ◌+◌, Bool, true, false, List, [], ◌∷◌, ◌++◌, map, take}
use Rattle.plain_types.specs.declared.sequence.NameLit.{NameLit}
use Rattle.plain_types.specs.Names.{positive_of, negative_of}
use Rattle.fol_base.specs.Tree.{Tree}
use Rattle.fol_base.specs.Clause.{TreeLiteral, TreeClause}
use Rattle.fol_base.specs.Examples.{x, a, b, c, f, p, q, q₂, r, equation, clause}
use Rattle.fol_base.specs.Rules.{disequation}
use Rattle.fol_base.specs.declared.clause.Side.TheVariants.{Left}
use Rattle.kernel_steps.specs.Derivation.{complement, under_names}
use Rattle.kernel_steps.specs.Examples.{not_p, not_q, not_true, tower, components, four_clauses}
use Rattle.kernel_steps.specs.declared.step.TheConstants.{CLAUSE_NUMBERS}
use Rattle.kernel_steps.specs.declared.step.Step.{Step}
use Rattle.kernel_steps.specs.declared.step.Step.TheVariants.{Para, Refl}
use Rattle.kernel_steps.specs.declared.step.Line.{Line}
use Rattle.kernel_steps.specs.declared.key.Key.{Key}
use Rattle.kernel_steps.specs.declared.key.Key.TheVariants as key
use Rattle.literal_selection.specs.declared.choice.Selection.TheVariants.{Nothing, Negative}
use Rattle.sat_core.specs.Examples.{link, chain}
use Rattle.sat_core.specs.declared.answer.Chain as log
use Rattle.kernel_steps.specs.FromTrees.{clause_from, line_of}
use Rattle.pool_history.specs.Replay.{Origin}
use Rattle.pool_history.specs.declared.batch.Entry.{Entry}
use Rattle.pool_history.specs.declared.batch.Fate.{Fate}
use Rattle.pool_history.specs.declared.batch.Fate.TheVariants.{Kept, Dropped, Heavy}
use Rattle.pool_history.specs.declared.batch.Redundancy.TheVariants.{Tautology, Subsumed}
use Rattle.pool_history.specs.declared.batch.Removal.{Removal}
use Rattle.pool_history.specs.declared.batch.Work.{Work}
use Rattle.pool_history.specs.declared.batch.Work.TheVariants.{Gone, Met}
use Rattle.pool_history.specs.declared.event.Event.{Event}
use Rattle.pool_history.specs.declared.event.Event.TheVariants.{Claim, Return, Stale, Void, ClaimSolve, ReturnModel, ReturnRefuted, Abandon}

-- ---- parts of histories

-- a pool that counts up to a limit, and splits or doesn't
abbrev pub pool_up_to : ℕ → Bool → List TreeClause → Origin
pool_up_to limit split inputs = record { inputs = inputs; options = record { select = Negative; split = split; inferences = limit } }

abbrev pub pool_of : List TreeClause → Origin
pool_of inputs = pool_up_to 100 true inputs

-- line i of a batch as a parent
abbrev pub batch_line : ℕ → ℕ
batch_line i = CLAUSE_NUMBERS + i

abbrev pub kept : List Line → TreeClause → Fate
kept lines result = Kept lines (clause_from result ∷ [])

abbrev pub entry : Key → Fate → Entry
entry name fate = record { key = name; fate = fate }

abbrev pub removal : ℕ → List ℕ → Fate → Removal
removal victim justifiers fate = record { victim = victim; justifiers = justifiers; fate = fate }

abbrev pub return : ℕ → Work → Event
return job work = Return (record { job = job; work = work })

-- the first literal of the first clause superposed into the first of the second, at the root of the left sides
abbrev pub at_roots : ℕ → ℕ → Key
at_roots first second = key.Para first 0 Left second 0 Left []

abbrev pub para_at_roots : ℕ → ℕ → List Tree → List Tree → Step
para_at_roots first second first_bind second_bind = Para first second 0 Left 0 Left [] first_bind second_bind

-- an atom resolved with its complement, under names: a superposition that leaves `$true != $true`, and a resolution
abbrev pub resolved : ℕ → ℕ → List Tree → List Tree → List TreeLiteral → List NameLit → List Line
resolved first second first_bind second_bind rest names =
    line_of (para_at_roots first second first_bind second_bind) (under_names (not_true ∷ rest) names)
    ∷ line_of (Refl (batch_line 0) 0 []) (under_names rest names)
    ∷ []

-- ---- two units that resolve, of which neither cuts the other: q(X0, a), and not q(b, X0)

abbrev pub unifying : List TreeClause
unifying = clause (q₂ (x 0) a ∷ []) ∷ clause (complement (q₂ b (x 0)) ∷ []) ∷ []

abbrev pub units : Origin
units = pool_of unifying

abbrev pub units_resolved : Entry
units_resolved = entry (at_roots 0 1) (kept (resolved 0 1 (b ∷ []) (a ∷ []) [] []) (clause []))

abbrev pub units_history : List Event
units_history = Claim 1 ∷ return 1 (Met [] []) ∷ Claim 2 ∷ return 2 (Met (units_resolved ∷ []) []) ∷ []

-- ---- a unit that cuts another: p(a) and its negation

abbrev pub cut : Removal
cut = removal 1 (0 ∷ []) (kept (resolved 0 1 [] [] [] []) (clause []))

abbrev pub cut_away : List Event
cut_away = Claim 1 ∷ return 1 (Met [] []) ∷ Claim 2 ∷ return 2 (Gone cut) ∷ []

-- where it stays beside the unit that cuts it
abbrev pub left_uncut : List Event
left_uncut = take 3 cut_away ++ return 2 (Met [] []) ∷ []

-- by a line whose clause can be reduced further
abbrev pub cut_halfway : List Event
cut_halfway =
    take 3 cut_away
    ++ return 2 (Gone (removal 1 (0 ∷ []) (kept (take 1 (resolved 0 1 [] [] [] [])) (clause (not_true ∷ []))))) ∷ []

-- ---- a clause that subsumes one that was told before it: p(X0), and p(a)

abbrev pub subsuming : Origin
subsuming = pool_of (clause (p a ∷ []) ∷ clause (p (x 0) ∷ []) ∷ [])

-- which goes
abbrev pub subsumed_removed : List Event
subsumed_removed = Claim 1 ∷ Claim 2 ∷ return 2 (Met [] (removal 0 (1 ∷ []) (Dropped (Subsumed 1)) ∷ [])) ∷ []

-- which stays
abbrev pub left_subsumed : List Event
left_subsumed = Claim 1 ∷ return 1 (Met [] []) ∷ Claim 2 ∷ return 2 (Met [] []) ∷ []

-- ---- two rewrites: f(a) = b and f(a) = c, where the first rewrites the second to b = c

abbrev pub rewrites : Origin
rewrites = pool_of (clause (equation (f a) b ∷ []) ∷ clause (equation (f a) c ∷ []) ∷ [])

-- where one counted inference is the limit
abbrev pub limited : Origin
limited = record { inputs = rewrites.inputs; options = record { select = Negative; split = true; inferences = 1 } }

abbrev pub rewritten : Removal
rewritten =
    removal 1 (0 ∷ [])
    (kept (line_of (para_at_roots 0 1 [] []) (clause (equation b c ∷ [])) ∷ []) (clause (equation b c ∷ [])))

-- both are out, the second goes, then the first returns
abbrev pub rewrites_history : List Event
rewrites_history = Claim 1 ∷ Claim 2 ∷ return 2 (Gone rewritten) ∷ return 1 (Met [] []) ∷ []

-- the same with another result, the clause itself
abbrev pub rewritten_to_itself : Removal
rewritten_to_itself =
    removal 1 (0 ∷ [])
    (kept (line_of (para_at_roots 0 1 [] []) (clause (equation b c ∷ [])) ∷ []) (clause (equation (f a) c ∷ [])))

-- and then f(a) = c comes again: the replay asks nothing of a batch
abbrev pub comes_again : List Event
comes_again =
    rewrites_history
    ++ Claim 3
    ∷ return 3 (Met (entry (at_roots 0 2) (kept (line_of (para_at_roots 0 2 [] []) (clause (equation (f a) c ∷ [])) ∷ []) (clause (equation (f a) c ∷ []))) ∷ []) [])
    ∷ []

-- where b = c is there before
abbrev pub thrice : Origin
thrice = pool_of (clause (equation (f a) b ∷ []) ∷ clause (equation (f a) c ∷ []) ∷ clause (equation b c ∷ []) ∷ [])

abbrev pub thrice_history : List Event
thrice_history = Claim 1 ∷ Claim 2 ∷ Claim 3 ∷ return 3 (Gone rewritten) ∷ []

-- ---- a justifier that dies: q(a) and q(X0), and not q(a) or r

abbrev pub justified : Origin
justified = pool_up_to 100 false (clause (q a ∷ []) ∷ clause (q (x 0) ∷ []) ∷ clause (not_q a ∷ r ∷ []) ∷ [])

-- the third clause is cut by a unit
abbrev pub cut_by : ℕ → List Tree → Removal
cut_by unit bind = removal 2 (unit ∷ []) (kept (resolved unit 2 bind [] (r ∷ []) []) (clause (r ∷ [])))

-- all three are out; q(X0) removes q(a), by which the third clause was cut
abbrev pub removing : List Event
removing = Claim 1 ∷ Claim 2 ∷ Claim 3 ∷ return 2 (Met [] (removal 0 (1 ∷ []) (Dropped (Subsumed 1)) ∷ [])) ∷ []

-- the same return with a further removal, by the clause that has died then
abbrev pub removing_by_dead : List Event
removing_by_dead =
    take 3 removing ++ return 2 (Met [] (removal 0 (1 ∷ []) (Dropped (Subsumed 1)) ∷ cut_by 0 [] ∷ [])) ∷ []

-- the same return with the same removal twice, and with an inference
abbrev pub removing_twice : List Event
removing_twice =
    take 3 removing ++ return 2 (Met [] (removal 0 (1 ∷ []) (Dropped (Subsumed 1)) ∷ removal 0 (1 ∷ []) (Dropped (Subsumed 1)) ∷ [])) ∷ []

abbrev pub removing_and_meeting : List Event
removing_and_meeting =
    take 3 removing
    ++ return 2 (Met (entry (at_roots 1 2) (Dropped Tautology) ∷ []) (removal 0 (1 ∷ []) (Dropped (Subsumed 1)) ∷ [])) ∷ []

-- which is refused, and cut by q(X0) then; and the first job is void
abbrev pub stale_history : List Event
stale_history = removing ++ Stale 3 0 ∷ return 3 (Gone (cut_by 1 (a ∷ []))) ∷ Void 1 ∷ []

-- ---- two components: p(X0) or q(X1), but neither p(a) nor q(b)

abbrev pub split : Origin
split = pool_of components

-- the empty clause under the assertion of a tag, by one of the parts and one of the units
abbrev pub denied : ℕ → ℕ → List Tree → ℕ → Entry
denied part unit bind tag =
    entry (at_roots part unit) (kept (resolved part unit bind [] [] (negative_of tag ∷ [])) (under_names [] (negative_of tag ∷ [])))

-- the first part is asserted and the second put off; the first is denied
abbrev pub first_denied : List Event
first_denied =
    ClaimSolve 1
    ∷ ReturnModel 1 (true ∷ false ∷ [])
    ∷ Claim 2
    ∷ return 2 (Met [] [])
    ∷ Claim 3
    ∷ return 3 (Met (denied 0 2 (a ∷ []) 0 ∷ []) [])
    ∷ []

-- so the second is asserted, and denied too
abbrev pub both_denied : List Event
both_denied =
    first_denied
    ++ ClaimSolve 4
    ∷ ReturnModel 4 (false ∷ true ∷ [])
    ∷ Claim 5
    ∷ return 5 (Met [] [])
    ∷ Claim 6
    ∷ return 6 (Met (denied 1 3 (b ∷ []) 1 ∷ []) [])
    ∷ []

abbrev pub split_history : List Event
split_history =
    both_denied ++ ClaimSolve 7 ∷ ReturnRefuted 7 (chain 0 (link (positive_of 0) 1 ∷ link (positive_of 1) 2 ∷ []) ∷ []) ∷ []

-- two clauses that share a part: p(X0) or q(X1), and p(X0) or not q(X1)
abbrev pub sharing : Origin
sharing = pool_of (clause (p (x 0) ∷ q (x 1) ∷ []) ∷ clause (p (x 0) ∷ not_q (x 1) ∷ []) ∷ [])

-- Four units: p(a), p(X0), q(a) and q(b). One batch proposes three removals: p(X0) removes p(a); the clause of a number removes q(a), with the
-- result p(X0) or q(X1); and p(X0) removes q(b), with the result r or not p(X0). The batch isn't right, but the replay doesn't ask this.
abbrev pub four_units : Origin
four_units = pool_of (clause (p a ∷ []) ∷ clause (p (x 0) ∷ []) ∷ clause (q a ∷ []) ∷ clause (q b ∷ []) ∷ [])

abbrev pub leaves : TreeClause → Fate
leaves c = kept (line_of (Refl 2 0 []) c ∷ []) c

abbrev pub falling_by : ℕ → List Event
falling_by justifier =
    Claim 1
    ∷ Claim 2
    ∷ return 2
    (Met []
    (removal 0 (1 ∷ []) (Dropped (Subsumed 1))
    ∷ removal 2 (justifier ∷ []) (leaves (clause (p (x 0) ∷ q (x 1) ∷ [])))
    ∷ removal 3 (1 ∷ []) (leaves (clause (r ∷ not_p (x 0) ∷ [])))
    ∷ []))
    ∷ []

-- Two parts of which one is asserted: the part p(X0) goes; then the part q(X1) leaves p(X0) or r, under its assertion. The batch isn't right,
-- but the replay doesn't ask this.
abbrev pub part_again : List Event
part_again =
    ClaimSolve 1
    ∷ ReturnModel 1 (true ∷ true ∷ [])
    ∷ Claim 2
    ∷ return 2 (Gone (removal 0 [] (Dropped Tautology)))
    ∷ Claim 3
    ∷ return 3 (Gone (removal 1 [] (leaves (under_names (p (x 0) ∷ r ∷ []) (negative_of 1 ∷ [])))))
    ∷ []

-- p(X0) removes p(a) while the job on q(a) is out. The batch of that job is refused; the next one removes q(a) by p(X0).
abbrev pub refused_split : List Event
refused_split = Claim 1 ∷ Claim 2 ∷ Claim 3 ∷ return 2 (Met [] (removal 0 (1 ∷ []) (Dropped (Subsumed 1)) ∷ [])) ∷ Stale 3 0 ∷ []

abbrev pub split_again : List Event
split_again = refused_split ++ return 3 (Gone (removal 2 (1 ∷ []) (leaves (clause (p (x 0) ∷ q (x 1) ∷ []))))) ∷ []

-- q(X0, X1), and q(X0, X1) implies p(X0) or f(X1) = a: cut by the unit the second clause falls into two parts. It is handed back so, or
-- otherwise.
abbrev pub connected : Origin
connected = pool_of (clause (q₂ (x 0) (x 1) ∷ []) ∷ clause (complement (q₂ (x 0) (x 1)) ∷ p (x 0) ∷ equation (f (x 1)) a ∷ []) ∷ [])

abbrev pub cut_apart : List TreeClause → List Event
cut_apart results =
    Claim 1
    ∷ Claim 2
    ∷ return 2
    (Gone
    (removal 1 (0 ∷ [])
    (Kept (resolved 0 1 (x 0 ∷ x 1 ∷ []) (x 0 ∷ x 1 ∷ []) (p (x 0) ∷ equation (f (x 1)) a ∷ []) []) (map clause_from results))))
    ∷ []

-- ---- signed names: the four clauses of two atoms

abbrev pub signed : Origin
signed = pool_of four_clauses

abbrev pub signed_log : List log.Chain
signed_log = chain 0 (link (positive_of 0) 1 ∷ []) ∷ chain 2 (link (positive_of 0) 3 ∷ []) ∷ chain 4 (link (positive_of 1) 5 ∷ []) ∷ []

abbrev pub signed_history : List Event
signed_history = ClaimSolve 1 ∷ ReturnRefuted 1 signed_log ∷ []

-- not p(a), or r: the negative part comes first
abbrev pub denial_first : Origin
denial_first = pool_of (clause (not_p a ∷ r ∷ []) ∷ [])

-- ---- an inference without end: p(a), and p(X0) implies p(f(X0))

abbrev pub growing : ℕ → Origin
growing limit = pool_up_to limit true (clause (p a ∷ []) ∷ clause (not_p (x 0) ∷ p (f (x 0)) ∷ []) ∷ [])

abbrev pub one_step : Entry
one_step = entry (at_roots 0 1) (kept (resolved 0 1 [] (a ∷ []) (p (f a) ∷ []) []) (clause (p (f a) ∷ [])))

abbrev pub growing_history : List Event
growing_history = Claim 1 ∷ return 1 (Met [] []) ∷ Claim 2 ∷ return 2 (Met (one_step ∷ []) []) ∷ []

-- the same inference without its last line
abbrev pub half_step : Entry
half_step =
    entry (at_roots 0 1) (kept (take 1 (resolved 0 1 [] (a ∷ []) (p (f a) ∷ []) [])) (clause (not_true ∷ p (f a) ∷ [])))

-- with a removal: the replay asks nothing of a batch
abbrev pub growing_with : Removal → List Event
growing_with m = take 3 growing_history ++ return 2 (Met (one_step ∷ []) (m ∷ [])) ∷ []

-- the same inference set aside, as if it were heavy: the replay asks nothing of a batch
abbrev pub heavy_history : List Event
heavy_history = Claim 1 ∷ return 1 (Met [] []) ∷ Claim 2 ∷ return 2 (Met (entry (at_roots 0 1) Heavy ∷ []) []) ∷ []

-- the same with two that are set aside, one of each clause, and with removals
abbrev pub two_heavy : List Removal → List Event
two_heavy removals =
    Claim 1 ∷ return 1 (Met [] []) ∷ Claim 2 ∷ return 2 (Met (entry (key.Refl 0 0) Heavy ∷ entry (key.Refl 1 0) Heavy ∷ []) removals) ∷ []

-- ---- jobs that are given up: p(a), p(X0) implies q(X0), and r

abbrev pub three : Origin
three = pool_of (clause (p a ∷ []) ∷ clause (not_p (x 0) ∷ q (x 0) ∷ []) ∷ clause (r ∷ []) ∷ [])

abbrev pub abandon_history : List Event
abandon_history = Claim 1 ∷ return 1 (Met [] []) ∷ Claim 2 ∷ Abandon 2 ∷ Claim 3 ∷ []

-- two parts alone, of which the first is asserted
abbrev pub parted : Origin
parted = pool_of (clause (p (x 0) ∷ q (x 1) ∷ []) ∷ [])

abbrev pub parted_history : List Event
parted_history = ClaimSolve 1 ∷ ReturnModel 1 (true ∷ false ∷ []) ∷ Claim 2 ∷ return 2 (Met [] []) ∷ []

-- the clause that denies the first part comes while the solver is out, so its model is of one clause alone
abbrev pub late_model : List Event
late_model =
    ClaimSolve 1
    ∷ Claim 2
    ∷ return 2 (Met (denied 0 2 (a ∷ []) 0 ∷ []) [])
    ∷ ReturnModel 1 (true ∷ false ∷ [])
    ∷ []

-- a job that is claimed and given up, n times from job k on
abbrev pub given_up_from : ℕ → ℕ → List Event
given_up_from k zero = []
given_up_from k (suc n) = Claim k ∷ Abandon k ∷ given_up_from (suc k) n

-- ---- one clause that meets nothing: r, with no literal chosen

abbrev pub alone : Origin
alone = record { inputs = clause (r ∷ []) ∷ []; options = record { select = Nothing; split = true; inferences = 100 } }

abbrev pub alone_history : List Event
alone_history = Claim 1 ∷ return 1 (Met [] []) ∷ []

-- ---- a clause that meets itself: X0 != a, of which the sides unify

abbrev pub unequal : Origin
unequal = pool_of (clause (disequation (x 0) a ∷ []) ∷ [])

abbrev pub unequal_resolved : Entry
unequal_resolved = entry (key.Refl 0 0) (kept (line_of (Refl 0 0 (a ∷ [])) (clause []) ∷ []) (clause []))

-- ---- one whose inference is dropped: X0 != a or f(X0) = f(a), which resolves to f(a) = f(a)

abbrev pub dropping : Origin
dropping = pool_up_to 1 true (clause (disequation (x 0) a ∷ equation (f (x 0)) (f a) ∷ []) ∷ [])

abbrev pub tautology_dropped : Entry
tautology_dropped = entry (key.Refl 0 0) (Dropped Tautology)

-- ---- one whose inference falls apart: X0 != a or p(X0) or q(X0), which resolves to p(a) or q(a)

abbrev pub parting : Origin
parting = pool_of (clause (disequation (x 0) a ∷ p (x 0) ∷ q (x 0) ∷ []) ∷ [])

-- handed back as these clauses
abbrev pub parting_resolved : List TreeClause → Entry
parting_resolved results =
    entry (key.Refl 0 0) (Kept (line_of (Refl 0 0 (a ∷ [])) (clause (p a ∷ q a ∷ [])) ∷ []) (map clause_from results))

-- ---- two clauses that meet: p(a), and p(X0) implies q(X0)

abbrev pub partners : Origin
partners = pool_of (clause (p a ∷ []) ∷ clause (not_p (x 0) ∷ q (x 0) ∷ []) ∷ [])

-- ---- a clause that the first subsumes, where three were told: p(X0), not q(a) or r, and p of f(f(f(f(a))))

abbrev pub towering : Origin
towering = pool_up_to 100 false (clause (p (x 0) ∷ []) ∷ clause (not_q a ∷ r ∷ []) ∷ clause (p (tower 4) ∷ []) ∷ [])

abbrev pub towering_goes : List ℕ → List Event
towering_goes justifiers = Claim 1 ∷ Claim 2 ∷ Claim 3 ∷ return 3 (Gone (removal 2 justifiers (Dropped (Subsumed 0)))) ∷ []

-- ---- chains of a log

-- 1 or 0; not 0; not 1
abbrev pub names_in_examples : ℕ → List NameLit
names_in_examples zero = positive_of 1 ∷ positive_of 0 ∷ []
names_in_examples (suc zero) = negative_of 0 ∷ []
names_in_examples (suc (suc n)) = negative_of 1 ∷ []
