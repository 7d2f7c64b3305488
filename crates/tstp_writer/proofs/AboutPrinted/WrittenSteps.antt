-- The steps by which lines come about, when they are read again: their items, and their parents at other places.
use Rattle.std.proofs.Common.{◌≡◌, ℕ, Bool, true, List, [], ◌∷◌, map, take, Option, Some, None, refl, ap, ap₂, sym, ◌∙◌, subst}
use Rattle.std.specs.Prelude.{flat_map, option_map, option_and_then, slice_get, codes, if◌then◌else◌}
use Rattle.std.specs.List.{AllByRecursion}
use Rattle.std.proofs.lemmas.Option.{same_Some, slice_get-map}
use Rattle.plain_types.specs.declared.sequence.NameLit.{NameLit}
use Rattle.fol_base.specs.Tree.{Tree}
use Rattle.fol_base.specs.Instance.{Substitution}
use Rattle.fol_base.specs.Clause.{TreeClause}
use Rattle.fol_base.specs.Literal.{clause_of}
use Rattle.fol_base.specs.declared.clause.Side.{Side}
use Rattle.fol_base.specs.declared.clause.Side.TheVariants.{Left, Right}
use Rattle.kernel_steps.specs.Parents.{Parent, all_there}
use Rattle.kernel_steps.specs.Derivation.{is_clause_step, introduces_name, line_parent, line_parents}
use Rattle.kernel_steps.specs.declared.step.Step.{Step}
use Rattle.kernel_steps.specs.declared.step.Step.TheVariants.{Input, Negate, Clausify, Para, Refl, Factor, Merge, Component, Opposite, Split, Chain}
use Rattle.kernel_steps.specs.declared.step.Line.{Line}
use Rattle.kernel_steps.proofs.AboutCalls.LineLemmas.{ParentLine, parent_line}
use Rattle.clausal_form.specs.DerivationItems.{side_of, numbers_in, introduced_in}
use Rattle.clausal_form.specs.DerivationSteps.{OfLiteral, literal_side, into_literal, rule_step}
use Rattle.clausal_form.specs.DerivationSteps as kind
use Rattle.clausal_form.specs.DerivationLine.{NamedLine, Taken, kernel_lines}
use Rattle.kernel_steps.specs.FromTrees.{line_of}
use Rattle.clausal_form.specs.DerivationParts.{parent_lines}
use Rattle.clausal_form.proofs.AboutNaming.TakenLemmas.{line_of-clause}
use Rattle.tstp_writer.specs.LineTrees.{Script, Layout, place_in, number_item, numbers_item, side_item, pivot_item, status_item, step_items}
use Rattle.tstp_writer.specs.ReadableLines.{Fits, read_clause, written_place, read_renaming, placed_step}
use Rattle.tstp_writer.specs.DerivedLines.{IsKnown, ParentIsTaken}
use Rattle.tstp_writer.proofs.AboutPrinted.WrittenNumbers.{decimal-back, list-trees, listed-back}
use Rattle.tstp_writer.proofs.AboutPrinted.VariableNames.{all-front, all-back}
use Rattle.tstp_writer.proofs.ReadAgain.RenamedNames.{renamed_parent}

-- ---- items

side-back : (z : Side) → side_of (side_item z) ≡ Some z
side-back Left = refl
side-back Right = refl

abbrev at_side : ℕ → Side → OfLiteral
at_side i z = record { literal = i; side = z }

literal-back : (i : ℕ) (z : Side) → Fits i → literal_side (number_item i) (side_item z) ≡ Some (at_side i z)
literal-back i z fits =
    ap (option_and_then (λ n. option_map (λ s. at_side n s) (side_of (side_item z)))) (decimal-back i fits)
    ∙ ap (option_map (at_side i)) (side-back z)

-- What was written for a binding isn't looked at here; what it is read as is handed in.
pub para-back :
    (names : List (List ℕ)) (script : Script) (first second from into a b : ℕ) (from_side into_side : Side) (place : List ℕ) (first_bind second_bind x y : List Tree)
    → Fits from → Fits into → AllByRecursion Fits place
    → rule_step kind.para_kind names
    (status_item (codes "thm") ∷ step_items script (Para first second from from_side into into_side place first_bind second_bind)) (a ∷ b ∷ [])
    (x ∷ y ∷ [])
    ≡ Some (Para a b from from_side into into_side place x y)
para-back names script first second from into a b from_side into_side place first_bind second_bind x y from_fits into_fits place_fits =
    ap₂ made (literal-back from from_side from_fits) into_back
  where
    made : Option OfLiteral → Option (OfLiteral × List ℕ) → Option Step
    made o p =
        option_and_then
        (λ (i : OfLiteral). option_map (λ (j : OfLiteral × List ℕ). Para a b i.literal i.side (j.0).literal (j.0).side j.1 x y) p) o

    into_back : into_literal (number_item into ∷ side_item into_side ∷ numbers_item place ∷ []) ≡ Some (at_side into into_side, place)
    into_back =
        ap (option_and_then (λ l. option_map (λ p. (l, p)) (numbers_in (numbers_item place)))) (literal-back into into_side into_fits)
        ∙ ap (option_map (λ p. (at_side into into_side, p))) (listed-back place place_fits)

pub refl-back :
    (names : List (List ℕ)) (script : Script) (parent literal a : ℕ) (bind x : List Tree) → Fits literal
    → rule_step kind.refl_kind names (status_item (codes "thm") ∷ step_items script (Refl parent literal bind)) (a ∷ []) (x ∷ []) ≡ Some (Refl a literal x)
refl-back names script parent literal a bind x fits = ap (option_map (λ i. Refl a i x)) (decimal-back literal fits)

pub factor-back :
    (names : List (List ℕ)) (script : Script) (parent becomes other a : ℕ) (becomes_side other_side : Side) (bind x : List Tree) → Fits becomes → Fits other
    → rule_step kind.factor_kind names
    (status_item (codes "thm") ∷ step_items script (Factor parent becomes becomes_side other other_side bind)) (a ∷ []) (x ∷ [])
    ≡ Some (Factor a becomes becomes_side other other_side x)
factor-back names script parent becomes other a becomes_side other_side bind x becomes_fits other_fits =
    ap₂ made (literal-back becomes becomes_side becomes_fits) (literal-back other other_side other_fits)
  where
    made : Option OfLiteral → Option OfLiteral → Option Step
    made o p = option_and_then (λ (i : OfLiteral). option_map (λ (j : OfLiteral). Factor a i.literal i.side j.literal j.side x) p) o

pub merge-back :
    (names : List (List ℕ)) (script : Script) (parent stays goes a : ℕ) (bind x : List Tree) → Fits stays → Fits goes
    → rule_step kind.merge_kind names (status_item (codes "thm") ∷ step_items script (Merge parent stays goes bind)) (a ∷ []) (x ∷ [])
    ≡ Some (Merge a stays goes x)
merge-back names script parent stays goes a bind x stays_fits goes_fits = ap₂ made (decimal-back stays stays_fits) (decimal-back goes goes_fits)
  where
    made : Option ℕ → Option ℕ → Option Step
    made o p = option_and_then (λ i. option_map (λ j. Merge a i j x) p) o

-- the parts of a split
parts-read : (parts : List (List ℕ)) → AllByRecursion Fits (flat_map (λ ns. ns) parts) → all_there (map numbers_in (map numbers_item parts)) ≡ Some parts
parts-read [] fit = refl
parts-read (ns ∷ parts) fit =
    ap₂ (λ (o : Option (List ℕ)) os. option_and_then (λ x. option_map (λ xs. x ∷ xs) os) o)
    (listed-back ns (all-front Fits ns (flat_map (λ ks. ks) parts) fit)) (parts-read parts (all-back Fits ns (flat_map (λ ks. ks) parts) fit))

pub split-back :
    (names : List (List ℕ)) (script : Script) (parent a : ℕ) (definitions ds : List ℕ) (parts : List (List ℕ))
    → AllByRecursion Fits (flat_map (λ ns. ns) parts)
    → rule_step kind.split_kind names (status_item (codes "esa") ∷ step_items script (Split parent definitions parts)) (a ∷ ds) []
    ≡ Some (Split a ds parts)
split-back names script parent a definitions ds parts fit =
    ap (option_map (λ ps. Split a ds ps))
    (ap (λ ts. all_there (map numbers_in ts)) (list-trees (map numbers_item parts)) ∙ parts-read parts fit)

-- what the pivots of a chain are read as is handed in
pub chain-back :
    (names : List (List ℕ)) (script : Script) (numbers places : List ℕ) (pivots read : List NameLit)
    → all_there (map (introduced_in names) (map (pivot_item script.prefix) pivots)) ≡ Some read
    → rule_step kind.chain_kind names (status_item (codes "thm") ∷ step_items script (Chain numbers pivots)) places [] ≡ Some (Chain places read)
chain-back names script numbers places pivots read h =
    ap (option_map (λ ps. Chain places ps))
    (ap (λ ts. all_there (map (introduced_in names) ts)) (list-trees (map (pivot_item script.prefix) pivots)) ∙ h)

-- ---- parents

pub placed-clause :
    (layout : Layout) (names : List ℕ) (σ : Substitution) (step : Step) → is_clause_step (placed_step layout names σ step) ≡ is_clause_step step
placed-clause layout names σ (Input place) = refl
placed-clause layout names σ (Negate place) = refl
placed-clause layout names σ (Clausify i) = refl
placed-clause layout names σ (Para first second from from_side into into_side place first_bind second_bind) = refl
placed-clause layout names σ (Refl parent literal bind) = refl
placed-clause layout names σ (Factor parent becomes becomes_side other other_side bind) = refl
placed-clause layout names σ (Merge parent stays goes bind) = refl
placed-clause layout names σ (Component name) = refl
placed-clause layout names σ (Opposite name) = refl
placed-clause layout names σ (Split parent definitions parts) = refl
placed-clause layout names σ (Chain parents pivots) = refl

placed-introduces :
    (layout : Layout) (names : List ℕ) (σ : Substitution) (step : Step) → introduces_name (placed_step layout names σ step) ≡ introduces_name step
placed-introduces layout names σ (Input place) = refl
placed-introduces layout names σ (Negate place) = refl
placed-introduces layout names σ (Clausify i) = refl
placed-introduces layout names σ (Para first second from from_side into into_side place first_bind second_bind) = refl
placed-introduces layout names σ (Refl parent literal bind) = refl
placed-introduces layout names σ (Factor parent becomes becomes_side other other_side bind) = refl
placed-introduces layout names σ (Merge parent stays goes bind) = refl
placed-introduces layout names σ (Component name) = refl
placed-introduces layout names σ (Opposite name) = refl
placed-introduces layout names σ (Split parent definitions parts) = refl
placed-introduces layout names σ (Chain parents pivots) = refl

-- a number that its name is read as
abbrev pub read_number : List ℕ → ℕ → ℕ
read_number names n = place_in n names

-- the line of a parent is a parent as before, with its names as they are read
pub parent-back :
    (layout : Layout) (names known : List ℕ) (lines : List Line) (e : Taken) (n k : ℕ) → ParentIsTaken layout names known lines e k
    → (p : Parent) → line_parents (take n lines) k ≡ Some p
    → AllByRecursion (λ (m : NameLit). IsKnown known m.name) p.clause.names
    × (parent_lines e (written_place layout k) ≡ Some (renamed_parent (read_number names) p))
parent-back layout names known lines e n k h p before = (
  subst (λ (q : Parent). AllByRecursion (λ (m : NameLit). IsKnown known m.name) q.clause.names) old.gives
      (subst (λ (l : Line). AllByRecursion (λ (m : NameLit). IsKnown known m.name) (clause_of l.clause).names) same_line h.names_known),
  ap (option_and_then line_parent) at ∙ same_parent,
)
  where
    old : ParentLine lines n k p
    old = parent_line lines n k p before

    same_line : h.line ≡ old.line
    same_line = same_Some h.line old.line (sym h.there ∙ old.there)

    σ : Substitution
    σ = read_renaming (h.line).step (clause_of (h.line).clause)

    placed : Step
    placed = placed_step layout names σ (h.line).step

    clause : TreeClause
    clause = read_clause names (clause_of (h.line).clause)

    new : Line
    new = line_of placed clause

    at : slice_get (kernel_lines e) (written_place layout k) ≡ Some new
    at = slice_get-map (λ (l : NamedLine). l.line) e.lines (written_place layout k) ∙ ap (option_map (λ (l : NamedLine). l.line)) h.taken

    is_clause : is_clause_step (h.line).step ≡ true
    is_clause = ap (λ (l : Line). is_clause_step l.step) same_line ∙ old.is_clause

    make : TreeClause → Bool → Parent
    make c b = record { clause = c; introduces = b }

    same_parent : line_parent new ≡ Some (renamed_parent (read_number names) p)
    same_parent =
        ap (λ b. if b then Some (make (clause_of new.clause) (introduces_name new.step)) else None) (placed-clause layout names σ (h.line).step ∙ is_clause)
        ∙ ap Some
        (ap₂ make (line_of-clause placed clause) (placed-introduces layout names σ (h.line).step)
        ∙ ap (λ (l : Line). make (read_clause names (clause_of l.clause)) (introduces_name l.step)) same_line
        ∙ ap (renamed_parent (read_number names)) old.gives)
