-- The verdict on lines of clauses by rules with parents.
use Rattle.std.proofs.Common.{◌≡◌, ℕ, ◌+◌, ◌<◌, ◌≤◌, Bool, true, false, ◌&&◌, ◌==◌, List, [], ◌∷◌, length, map, drop, get_or, Option, Some, None, refl, ap, sym, ◌∙◌, arith}
use Rattle.std.specs.Prelude.{option_map, unwrap_or, zip, Err, if◌then◌else◌}
use Rattle.std.specs.List.{list_all}
use Rattle.fol_base.specs.Tree.{Tree}
use Rattle.tptp_source.specs.General.{GeneralTree}
use Rattle.kernel_steps.specs.Conclusion.{verdict}
use Rattle.kernel_steps.specs.declared.step.Step.{Step}
use Rattle.clausal_form.specs.DerivationSteps.{LineKind, bindings_count, rule_step}
use Rattle.clausal_form.specs.DerivationLine.{LineTree, Taken}
use Rattle.clausal_form.specs.DerivationParts.{Setting, line_kind, parents_of, parent_lines, items_of}
use Rattle.clausal_form.specs.DerivationCauses.{binding, rule, Given, fault, is_bound, concluded, given_by_rule, refused, compared}
use Rattle.tstp_lines.specs.declared.parts.LineParts.{LineParts}
use Rattle.tstp_checker.specs.declared.refusal.Refusal.{Refusal}
use Rattle.tstp_checker.specs.declared.refusal.Refusal.TheVariants.{Cause, NoMemory}
use Rattle.tstp_checker.specs.Causes.{cause_meant}
use Rattle.tstp_checker.specs.Verdicts.{IsVerdict, IsClauseLine, IsConcluded}
use Rattle.list_lemmas.proofs.Places.{drop-item, drop-all}

-- ---- bindings, one after another

abbrev pub Bound : Type 0
Bound = Option (List Tree) × ℕ

abbrev pub bound_left : (Bound → Bool) → List (Option (List Tree)) → ℕ → List ℕ → Bool
bound_left f bs i left = list_all f (zip (drop i bs) left)

pub bound-starts : (f : Bound → Bool) (bs : List (Option (List Tree))) (ps : List ℕ) → bound_left f bs 0 ps ≡ list_all f (zip bs ps)
bound-starts f bs ps = ap (λ xs. list_all f (zip xs ps)) (drop-none bs)
  where
    drop-none : {A : Type 0} (us : List A) → drop 0 us ≡ us
    drop-none [] = refl
    drop-none (u ∷ us) = refl

pub bound-next :
    (f : Bound → Bool) (bs : List (Option (List Tree))) (i : ℕ) (b : Option (List Tree)) (left rest : List ℕ) (p : ℕ) (r all : Bool)
    → i < length bs → b ≡ get_or bs i b → left ≡ p ∷ rest → r ≡ f (b, p) → bound_left f bs i left ≡ all → (r && bound_left f bs (i + 1) rest) ≡ all
bound-next f bs i b left rest p r all h e l o w =
    ap (λ x. x && bound_left f bs (i + 1) rest) o
    ∙ ap (λ xs. list_all f (zip xs (p ∷ rest))) (sym (drop-item bs i b h e))
    ∙ ap (bound_left f bs i) (sym l) ∙ w

pub bound-none :
    (f : Bound → Bool) (bs : List (Option (List Tree))) (i : ℕ) (b : Option (List Tree)) (left : List ℕ) (all : Bool)
    → i < length bs → b ≡ get_or bs i b → length left ≡ 0 → bound_left f bs i left ≡ all → true ≡ all
bound-none f bs i b left all h e l w =
    ap (λ xs. list_all f (zip xs [])) (sym (drop-item bs i b h e)) ∙ ap (bound_left f bs i) (sym (nothing left l)) ∙ w
  where
    nothing : (xs : List ℕ) → length xs ≡ 0 → xs ≡ []
    nothing [] g = refl
    nothing (x ∷ xs) g = absurd (omega (arith, g))

pub bound-ends :
    (f : Bound → Bool) (bs : List (Option (List Tree))) (i : ℕ) (left : List ℕ) (all : Bool)
    → length bs ≤ i → bound_left f bs i left ≡ all → true ≡ all
bound-ends f bs i left all h w = ap (λ xs. list_all f (zip xs left)) (sym (drop-all bs i h)) ∙ w

-- ---- the verdict

abbrev pub right_bindings : Taken → LineKind → List (Option (List Tree)) → List ℕ → Bool
right_bindings e k bs ps = (length bs == bindings_count k) && list_all (λ b. is_bound b.0 (parent_lines e b.1)) (zip bs ps)

abbrev pub step_of : Taken → LineKind → List GeneralTree → List ℕ → List (Option (List Tree)) → Option Step
step_of e k items ps bs = rule_step k e.introduced items ps (map (λ o. unwrap_or o []) bs)

abbrev rule_given : Taken → Bool → Option Step → Given
rule_given e bound st = if bound then unwrap_or (option_map (λ st'. concluded st' (verdict st' (parent_lines e))) st) (fault rule) else fault binding

given-rule :
    (s : Setting) (e : Taken) (t : LineTree) (k : LineKind) (items : List GeneralTree) (parents : List ℕ) (parts : LineParts)
    → line_kind t ≡ k → IsClauseLine s e t items parents parts
    → given_by_rule s e t ≡ rule_given e (right_bindings e k parts.bindings parents) (step_of e k items parents parts.bindings)
given-rule s e t k items parents parts kind l =
    ap (λ bs. rule_given e (right_bindings e (line_kind t) bs (parents_of e t)) (step_of e (line_kind t) (items_of t.source) (parents_of e t) bs)) (sym l.its_parts.bindings)
    ∙ ap (λ ps. rule_given e (right_bindings e (line_kind t) parts.bindings ps) (step_of e (line_kind t) (items_of t.source) ps parts.bindings)) l.its_parents
    ∙ ap (λ gs. rule_given e (right_bindings e (line_kind t) parts.bindings parents) (step_of e (line_kind t) gs parents parts.bindings)) l.its_items
    ∙ ap (λ j. rule_given e (right_bindings e j parts.bindings parents) (step_of e j items parents parts.bindings)) kind

pub rule-unbound :
    (s : Setting) (e : Taken) (t : LineTree) (k : LineKind) (items : List GeneralTree) (parents : List ℕ) (parts : LineParts)
    → line_kind t ≡ k → IsClauseLine s e t items parents parts → false ≡ right_bindings e k parts.bindings parents
    → compared s e t (given_by_rule s e t) ≡ refused binding
rule-unbound s e t k items parents parts kind l h =
    ap (compared s e t) (given-rule s e t k items parents parts kind l ∙ ap (λ b. rule_given e b (step_of e k items parents parts.bindings)) (sym h))

pub rule-none :
    (s : Setting) (e : Taken) (t : LineTree) (k : LineKind) (items : List GeneralTree) (parents : List ℕ) (parts : LineParts)
    → line_kind t ≡ k → IsClauseLine s e t items parents parts → true ≡ right_bindings e k parts.bindings parents
    → None ≡ step_of e k items parents parts.bindings → compared s e t (given_by_rule s e t) ≡ refused rule
rule-none s e t k items parents parts kind l h o =
    ap (compared s e t)
    (given-rule s e t k items parents parts kind l ∙ ap (λ b. rule_given e b (step_of e k items parents parts.bindings)) (sym h) ∙ ap (rule_given e true) (sym o))

pub rule-gives :
    (s : Setting) (e : Taken) (t : LineTree) (k : LineKind) (items : List GeneralTree) (parents : List ℕ) (parts : LineParts) (st : Step) (g : Given)
    → line_kind t ≡ k → IsClauseLine s e t items parents parts → true ≡ right_bindings e k parts.bindings parents
    → Some st ≡ step_of e k items parents parts.bindings → concluded st (verdict st (parent_lines e)) ≡ g
    → compared s e t (given_by_rule s e t) ≡ compared s e t g
rule-gives s e t k items parents parts st g kind l h o c =
    ap (compared s e t)
    (given-rule s e t k items parents parts kind l ∙ ap (λ b. rule_given e b (step_of e k items parents parts.bindings)) (sym h) ∙ ap (rule_given e true) (sym o) ∙ c)

-- a refusal of the kernel is the line's
pub rule-refused :
    (s : Setting) (e : Taken) (t : LineTree) (k : LineKind) (items : List GeneralTree) (parents : List ℕ) (parts : LineParts) (st : Step) (r : Refusal)
    → line_kind t ≡ k → IsClauseLine s e t items parents parts → true ≡ right_bindings e k parts.bindings parents
    → Some st ≡ step_of e k items parents parts.bindings → IsConcluded st (verdict st (parent_lines e)) (Err r)
    → IsVerdict (compared s e t (given_by_rule s e t)) (Err r)
rule-refused s e t k items parents parts st (Cause cause) kind l h o c = rule-gives s e t k items parents parts st (fault (cause_meant cause)) kind l h o c
rule-refused s e t k items parents parts st NoMemory kind l h o c = tt
