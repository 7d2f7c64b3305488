-- The sources of lines that can be read again are writable, within the levels of a derivation.
use Rattle.std.proofs.Common.{◌≡◌, ℕ, zero, suc, ◌/◌, ◌%◌, ◌<◌, ◌≤◌, Bool, true, false, ◌==◌, List, [], ◌∷◌, map, length, codes, refl, ap, ap₂, arith, leb-true}
use Rattle.std.specs.Prelude.{max, if◌then◌else◌}
use Rattle.std.specs.Fmt.{digits, digits_onto, digit_glyph, decimal}
use Rattle.std.specs.List.{list_all, AllByRecursion}
use Rattle.std.proofs.lemmas.Bool.{and_parts, false≢true}
use Rattle.std.proofs.Math.Nat.{max-le}
use Rattle.plain_types.specs.declared.sequence.NameLit.{NameLit}
use Rattle.fol_base.specs.Tree.{Tree, tree_size}
use Rattle.fol_base.specs.declared.clause.Side.{Side}
use Rattle.fol_base.specs.declared.clause.Side.TheVariants.{Left, Right}
use Rattle.fol_base.specs.declared.limits.TheConstants.{MOST_SYMBOLS}
use Rattle.tptp_token.specs.Spelling.{is_digit}
use Rattle.tptp_tree.specs.Term.{TermTree, variable as named_variable, application as named_application, TermTrees, no_terms, term_then}
use Rattle.tptp_tree.proofs.CanonicalLemmas.{WellTerm, WellTerms}
use Rattle.signature.specs.declared.symbol.Symbol.{Symbol}
use Rattle.kernel_steps.specs.Keys.{side_word}
use Rattle.kernel_steps.specs.Derivation.{is_clause_step}
use Rattle.kernel_steps.specs.Soundness.{binds_each}
use Rattle.kernel_steps.specs.declared.step.Step.{Step}
use Rattle.kernel_steps.specs.declared.step.Step.TheVariants.{Input, Negate, Clausify, Para, Refl, Factor, Merge, Component, Opposite, Split, Chain}
use Rattle.tptp_source.specs.General.{GeneralTree, GeneralTrees, trees_of}
use Rattle.tptp_source.specs.Sources.{inference_source, word_of, list_of, definition_by}
use Rattle.tstp_writer.specs.ClauseTrees.{term_tree, introduced_name}
use Rattle.tptp_tree.specs.Printing.{is_number_name}
use Rattle.tstp_writer.specs.SourceTexts.{name_term, source_term}
use Rattle.tptp_tree.specs.Levels.{term_levels, arguments_levels, terms_levels}
use Rattle.tstp_writer.specs.Levels.{general_levels, general_arguments_levels, all_general_levels}
use Rattle.tstp_writer.specs.LineTrees.{Script, Layout, named, number_item, numbers_item, pivot_name, pivot_item, term_item, term_items, status_item, bind_item, literal_item, side_of_literal_item, from_item, into_item, derived_name, origin, origin_name, is_conjecture_at, negated_name, cited_name, step_source}
use Rattle.kernel_steps.specs.Lines.{is_small_term}
use Rattle.tstp_writer.specs.ReadableLines.{is_term_over}
use Rattle.tstp_writer.specs.Printable.{IsShown, IsWritable, AreWritable}
use Rattle.tstp_writer.specs.WrittenTexts.{AreShownSymbols}
use Rattle.tstp_writer.proofs.ReadAgain.LiteralKinds.{term-over}
use Rattle.tstp_writer.proofs.ReadAgain.ReadableTexts.{term-well, term-few, AreShownNames}
use Rattle.tstp_writer.proofs.AboutPrinted.PieceTexts.{decimal-digits}
use Rattle.tstp_writer.proofs.ReadAgain.ProblemLemmas.{line_name-shown, name-writable, name-levels}

-- ---- numbers

onto-some : (k n : ℕ) (acc : List ℕ) → 0 < length acc → 0 < length (digits_onto k 10 false n acc)
onto-some zero n acc h = h
onto-some (suc k) n acc h =
    by (n / 10 == 0) (onto-some k (n / 10) (digit_glyph false (n % 10) ∷ acc) (omega arith))
  where
    by :
        (t : Bool) → 0 < length (digits_onto k 10 false (n / 10) (digit_glyph false (n % 10) ∷ acc))
        → 0 < length (if t then digit_glyph false (n % 10) ∷ acc else digits_onto k 10 false (n / 10) (digit_glyph false (n % 10) ∷ acc))
    by true g = omega arith
    by false g = g

first-some : (k n : ℕ) → 0 < length (digits_onto (suc k) 10 false n [])
first-some k n = by (n / 10 == 0) (onto-some k (n / 10) (digit_glyph false (n % 10) ∷ []) (omega arith))
  where
    by :
        (t : Bool) → 0 < length (digits_onto k 10 false (n / 10) (digit_glyph false (n % 10) ∷ []))
        → 0 < length (if t then digit_glyph false (n % 10) ∷ [] else digits_onto k 10 false (n / 10) (digit_glyph false (n % 10) ∷ []))
    by true g = omega arith
    by false g = g

decimal-some : (n : ℕ) → 0 < length (decimal n)
unfolding digits
decimal-some n = first-some 63 n

digits-name : (ds : List ℕ) → 0 < length ds → list_all is_digit ds ≡ true → is_number_name ds ≡ true
digits-name [] l h = absurd (omega (arith, l))
digits-name (d ∷ ds) l h = h

decimal-name : (n : ℕ) → is_number_name (decimal n) ≡ true
decimal-name n = digits-name (decimal n) (decimal-some n) (decimal-digits n)

-- ---- items

-- within the levels of what is bound, and three more
pub record IsSmallItem (t : GeneralTree) : Type 0 where
  pub writable : IsWritable t
  pub levels : general_levels t ≤ 4003

numbers-writable : (ns : List ℕ) → AreWritable (trees_of (map number_item ns))
numbers-writable [] = tt
numbers-writable (n ∷ ns) = ((tt, decimal-name n), numbers-writable ns)

numbers-flat : (ns : List ℕ) → all_general_levels (trees_of (map number_item ns)) ≡ 0
numbers-flat [] = refl
numbers-flat (n ∷ ns) = ap (max 0) (numbers-flat ns)

side-shown : (s : Side) → IsShown (side_word s)
side-shown Left = record { printable = refl; some = omega arith }
side-shown Right = record { printable = refl; some = omega arith }

status-small : (w : List ℕ) → IsShown w → IsSmallItem (status_item w)
status-small w h = record { writable = (record { printable = refl; some = omega arith }, ((h, tt), tt)); levels = omega arith }

index-small : (i : ℕ) → IsSmallItem (word_of (codes "index") (number_item i ∷ []))
index-small i =
    record { writable = (record { printable = refl; some = omega arith }, ((tt, decimal-name i), tt)); levels = omega arith }

literal-small : (i : ℕ) → IsSmallItem (literal_item i)
literal-small i =
    record { writable = (record { printable = refl; some = omega arith }, ((tt, decimal-name i), tt)); levels = omega arith }

from-small : (i : ℕ) (s : Side) → IsSmallItem (from_item i s)
from-small i s =
    record {
      writable = (record { printable = refl; some = omega arith }, ((tt, decimal-name i), ((side-shown s, tt), tt)));
      levels = omega arith;
    }

into-small : (i : ℕ) (s : Side) (place : List ℕ) → IsSmallItem (into_item i s place)
into-small i s place =
    let levels : general_levels (into_item i s place) ≡ 2 = ap (λ n. suc (max 0 (max 0 (max (suc n) 0)))) (numbers-flat place) in
    record {
      writable = (record { printable = refl; some = omega arith }, ((tt, decimal-name i), ((side-shown s, tt), (numbers-writable place, tt))));
      levels = omega (arith, levels);
    }

-- ---- what is bound

mutual
  item-writable : (t : TermTree) → WellTerm t → IsWritable (term_item t)
  item-writable (named_variable x) w = w
  item-writable (named_application f ts) w =
      let name : IsShown f = record { printable = (w.0).printable; some = (w.0).some } in (name, arguments-writable ts w.1)

  arguments-writable : (ts : TermTrees) → WellTerms ts → AreWritable (term_items ts)
  arguments-writable no_terms w = tt
  arguments-writable (term_then t ts) w = (item-writable t w.0, arguments-writable ts w.1)

mutual
  item-levels : (t : TermTree) → general_levels (term_item t) ≡ term_levels t
  item-levels (named_variable x) = refl
  item-levels (named_application f ts) = arguments-item-levels ts

  arguments-item-levels : (ts : TermTrees) → general_arguments_levels (term_items ts) ≡ arguments_levels ts
  arguments-item-levels no_terms = refl
  arguments-item-levels (term_then t ts) = ap₂ (λ n m. suc (max n m)) (item-levels t) (items-item-levels ts)

  items-item-levels : (ts : TermTrees) → all_general_levels (term_items ts) ≡ terms_levels ts
  items-item-levels no_terms = refl
  items-item-levels (term_then t ts) = ap₂ max (item-levels t) (items-item-levels ts)

abbrev bound_items : List Symbol → List Tree → GeneralTrees
bound_items symbols ts = trees_of (map (λ t. term_item (term_tree symbols t)) ts)

bound-writable :
    (symbols : List Symbol) (ts : List Tree) → AreShownSymbols symbols → list_all (is_term_over symbols) ts ≡ true
    → AreWritable (bound_items symbols ts)
bound-writable symbols [] each over = tt
bound-writable symbols (t ∷ ts) each over =
    let parts = and_parts (is_term_over symbols t) (list_all (is_term_over symbols) ts) over in (
      item-writable (term_tree symbols t) (term-well symbols t each (term-over symbols t parts.0)),
      bound-writable symbols ts each parts.1,
    )

bound-levels :
    (symbols : List Symbol) (ts : List Tree) → list_all is_small_term ts ≡ true → all_general_levels (bound_items symbols ts) ≤ MOST_SYMBOLS
bound-levels symbols [] small = omega arith
bound-levels symbols (t ∷ ts) small =
    let parts = and_parts (is_small_term t) (list_all is_small_term ts) small in
    let one : general_levels (term_item (term_tree symbols t)) ≤ MOST_SYMBOLS =
    omega (arith, item-levels (term_tree symbols t), term-few symbols t, leb-true (tree_size t) MOST_SYMBOLS parts.0) in
    max-le one (bound-levels symbols ts parts.1)

bind-small :
    (symbols : List Symbol) (ts : List Tree)
    → AreShownSymbols symbols → list_all (is_term_over symbols) ts ≡ true → list_all is_small_term ts ≡ true
    → IsSmallItem (bind_item symbols ts)
bind-small symbols ts each over small =
    let list : suc (all_general_levels (bound_items symbols ts)) ≤ 4001 = omega (arith, bound-levels symbols ts small) in
    let inner : max (suc (all_general_levels (bound_items symbols ts))) 0 ≤ 4001 = max-le list (omega arith) in
    record {
      writable = (record { printable = refl; some = omega arith }, (bound-writable symbols ts each over, tt));
      levels = omega (arith, inner);
    }

-- ---- sources

items-writable : (ts : List GeneralTree) → AllByRecursion IsSmallItem ts → AreWritable (trees_of ts)
items-writable [] h = tt
items-writable (t ∷ ts) h = (h.0.writable, items-writable ts h.1)

items-levels : (ts : List GeneralTree) → AllByRecursion IsSmallItem ts → all_general_levels (trees_of ts) ≤ 4003
items-levels [] h = omega arith
items-levels (t ∷ ts) h = max-le h.0.levels (items-levels ts h.1)

parents-writable : (ns : List (List ℕ)) → AllByRecursion IsShown ns → AreWritable (trees_of (map name_term ns))
parents-writable [] h = tt
parents-writable (n ∷ ns) h = (name-writable n h.0, parents-writable ns h.1)

parents-flat : (ns : List (List ℕ)) → all_general_levels (trees_of (map name_term ns)) ≤ 0
parents-flat [] = omega arith
parents-flat (n ∷ ns) = max-le (omega (arith, name-levels n)) (parents-flat ns)

-- within two more
pub record IsSmallSource (t : GeneralTree) : Type 0 where
  pub writable : IsWritable t
  pub levels : general_levels t ≤ 4005

inference-small :
    (rule : List ℕ) (items : List GeneralTree) (parents : List (List ℕ))
    → IsShown rule → AllByRecursion IsSmallItem items → AllByRecursion IsShown parents
    → IsSmallSource (source_term (inference_source (named rule) items parents))
inference-small rule items parents h each names =
    let inside : max (suc (all_general_levels (trees_of items))) (max (suc (all_general_levels (trees_of (map name_term parents)))) 0) ≤ 4004 =
    max-le (omega (arith, items-levels items each)) (max-le (omega (arith, parents-flat parents)) (omega arith)) in
    let whole : max 0 (max (suc (all_general_levels (trees_of items))) (max (suc (all_general_levels (trees_of (map name_term parents)))) 0)) ≤ 4004 =
    max-le (omega arith) inside in
    record {
      writable = (
        record { printable = refl; some = omega arith },
        ((h, tt), (items-writable items each, (parents-writable parents names, tt))),
      );
      levels = omega (arith, whole);
    }

origin-shown : (script : Script) (layout : Layout) (place : ℕ) → IsShown (origin_name script layout place)
origin-shown script layout place = by (is_conjecture_at script place)
  where
    by : (t : Bool) → IsShown (if t then negated_name layout place else cited_name layout place)
    by true = line_name-shown _
    by false = line_name-shown _

thm-shown : IsShown (codes "thm")
thm-shown = record { printable = refl; some = omega arith }

-- a side of a literal, in an item with its number
side-small : (i : ℕ) (z : Side) → IsSmallItem (side_of_literal_item i z)
side-small i z =
    record {
      writable = (record { printable = refl; some = omega arith }, ((tt, decimal-name i), ((side-shown z, tt), tt)));
      levels = omega arith;
    }

-- ---- parts, pivots and definitions of names

parts-writable : (parts : List (List ℕ)) → AreWritable (trees_of (map numbers_item parts))
parts-writable [] = tt
parts-writable (ns ∷ parts) = (numbers-writable ns, parts-writable parts)

parts-levels : (parts : List (List ℕ)) → all_general_levels (trees_of (map numbers_item parts)) ≤ 1
parts-levels [] = omega arith
parts-levels (ns ∷ parts) =
    let one : general_levels (numbers_item ns) ≤ 1 = let flat = numbers-flat ns in omega (arith, flat) in
    max-le one (parts-levels parts)

-- a list of what is writable, in an item with that word
list-small :
    (w : List ℕ) (ts : List GeneralTree) → IsShown w → AreWritable (trees_of ts) → all_general_levels (trees_of ts) ≤ 1
    → IsSmallItem (word_of w (list_of ts ∷ []))
list-small w ts shown writable low =
    let list : suc (all_general_levels (trees_of ts)) ≤ 2 = omega (arith, low) in
    let inner : max (suc (all_general_levels (trees_of ts))) 0 ≤ 2 = max-le list (omega arith) in
    record { writable = (shown, (writable, tt)); levels = omega (arith, inner) }

parts-small : (parts : List (List ℕ)) → IsSmallItem (word_of (codes "parts") (list_of (map numbers_item parts) ∷ []))
parts-small parts =
    list-small (codes "parts") (map numbers_item parts) (record { printable = refl; some = omega arith }) (parts-writable parts) (parts-levels parts)

-- an item without levels
record IsFlat (t : GeneralTree) : Type 0 where
  writable : IsWritable t
  levels : general_levels t ≡ 0

pivot-flat : (prefix : List ℕ) (n : NameLit) → AreShownNames prefix → IsFlat (pivot_item prefix n)
pivot-flat prefix n shown = by n.positive
  where
    by : (b : Bool) → IsFlat (pivot_name b (introduced_name prefix n.name))
    by true = record { writable = (shown n.name, tt); levels = refl }
    by false = record { writable = shown n.name; levels = refl }

pivots-writable : (prefix : List ℕ) (ns : List NameLit) → AreShownNames prefix → AreWritable (trees_of (map (pivot_item prefix) ns))
pivots-writable prefix [] shown = tt
pivots-writable prefix (n ∷ ns) shown = ((pivot-flat prefix n shown).writable, pivots-writable prefix ns shown)

pivots-levels : (prefix : List ℕ) (ns : List NameLit) → AreShownNames prefix → all_general_levels (trees_of (map (pivot_item prefix) ns)) ≤ 1
pivots-levels prefix [] shown = omega arith
pivots-levels prefix (n ∷ ns) shown =
    let flat = (pivot-flat prefix n shown).levels in
    let one : general_levels (pivot_item prefix n) ≤ 1 = omega (arith, flat) in
    max-le one (pivots-levels prefix ns shown)

pivots-small : (prefix : List ℕ) (ns : List NameLit) → AreShownNames prefix → IsSmallItem (word_of (codes "pivots") (list_of (map (pivot_item prefix) ns) ∷ []))
pivots-small prefix ns shown =
    list-small (codes "pivots") (map (pivot_item prefix) ns) (record { printable = refl; some = omega arith }) (pivots-writable prefix ns shown)
    (pivots-levels prefix ns shown)

definition-small : (way name : List ℕ) → IsShown way → IsShown name → IsSmallSource (definition_by way (name_term name))
definition-small way name way_shown shown =
    let flat = name-levels name in
    let inner : max (suc (max (suc (max (general_levels (name_term name)) 0)) 0)) 0 ≤ 2 =
    max-le (let it : suc (max (suc (max (general_levels (name_term name)) 0)) 0) ≤ 2 = omega (arith, flat) in it) (omega arith) in
    record {
      writable = (
        record { printable = refl; some = omega arith },
        ((record { printable = refl; some = omega arith }, tt), (((way_shown, (name-writable name shown, tt)), tt), tt)),
      );
      levels = omega (arith, flat);
    }

derived-shown : (layout : Layout) (ns : List ℕ) → AllByRecursion IsShown (map (derived_name layout) ns)
derived-shown layout [] = tt
derived-shown layout (n ∷ ns) = (line_name-shown _, derived-shown layout ns)

-- ---- what is bound

-- what is bound by all steps
pub record IsBoundOver (symbols : List Symbol) (bs : List (List Tree)) : Type 0 where
  pub over : list_all (list_all (is_term_over symbols)) bs ≡ true
  pub small : list_all (list_all is_small_term) bs ≡ true

first-bound :
    (symbols : List Symbol) (b : List Tree) (bs : List (List Tree))
    → AreShownSymbols symbols → IsBoundOver symbols (b ∷ bs) → IsSmallItem (bind_item symbols b)
first-bound symbols b bs each h =
    bind-small symbols b each (and_parts (list_all (is_term_over symbols) b) (list_all (list_all (is_term_over symbols)) bs) h.over).0
    (and_parts (list_all is_small_term b) (list_all (list_all is_small_term) bs) h.small).0

more-bound : (symbols : List Symbol) (b : List Tree) (bs : List (List Tree)) → IsBoundOver symbols (b ∷ bs) → IsBoundOver symbols bs
more-bound symbols b bs h = record {
  over = (and_parts (list_all (is_term_over symbols) b) (list_all (list_all (is_term_over symbols)) bs) h.over).1;
  small = (and_parts (list_all is_small_term b) (list_all (list_all is_small_term) bs) h.small).1;
}

-- a rule of one parent
rule-small :
    (rule : List ℕ) (items : List GeneralTree) (layout : Layout) (parent : ℕ)
    → IsShown rule → AllByRecursion IsSmallItem items
    → IsSmallSource (source_term (inference_source (named rule) (status_item (codes "thm") ∷ items) (derived_name layout parent ∷ [])))
rule-small rule items layout parent h each =
    inference-small rule (status_item (codes "thm") ∷ items) (derived_name layout parent ∷ []) h (status-small (codes "thm") thm-shown, each)
    (line_name-shown _, tt)

pub source-small :
    (script : Script) (layout : Layout) (step : Step)
    → AreShownSymbols script.symbols → AreShownNames script.prefix → is_clause_step step ≡ true
    → binds_each (is_term_over script.symbols) step ≡ true → binds_each is_small_term step ≡ true
    → IsSmallSource (source_term (step_source script layout step))
source-small script layout (Input place) each names clause over small = absurd (false≢true clause)
source-small script layout (Negate place) each names clause over small = absurd (false≢true clause)
source-small script layout (Clausify i) each names clause over small =
    inference-small (codes "clausify") (status_item (codes "esa") ∷ word_of (codes "index") (number_item i ∷ []) ∷ [])
    (origin_name script layout (origin script i) ∷ []) (record { printable = refl; some = omega arith })
    (status-small (codes "esa") (record { printable = refl; some = omega arith }), (index-small i, tt))
    (origin-shown script layout (origin script i), tt)
source-small script layout (Para first second from from_side into into_side place x y) each names clause over small =
    let bound : IsBoundOver script.symbols (x ∷ y ∷ []) = record { over = over; small = small } in
    inference-small (codes "para")
    (status_item (codes "thm") ∷ from_item from from_side ∷ into_item into into_side place
    ∷ bind_item script.symbols x ∷ bind_item script.symbols y ∷ [])
    (derived_name layout first ∷ derived_name layout second ∷ []) (record { printable = refl; some = omega arith }) (
      status-small (codes "thm") thm-shown,
      (
        from-small from from_side,
        (
          into-small into into_side place,
          (
            first-bound script.symbols x (y ∷ []) each bound,
            (first-bound script.symbols y [] each (more-bound script.symbols x (y ∷ []) bound), tt),
          ),
        ),
      ),
    )
    (line_name-shown _, (line_name-shown _, tt))
source-small script layout (Refl parent literal bind) each names clause over small =
    rule-small (codes "refl") (literal_item literal ∷ bind_item script.symbols bind ∷ []) layout parent
    (record { printable = refl; some = omega arith })
    (literal-small literal, (first-bound script.symbols bind [] each (record { over = over; small = small }), tt))
source-small script layout (Factor parent becomes becomes_side other other_side bind) each names clause over small =
    rule-small (codes "factor")
    (side_of_literal_item becomes becomes_side ∷ side_of_literal_item other other_side ∷ bind_item script.symbols bind ∷ []) layout parent
    (record { printable = refl; some = omega arith }) (
      side-small becomes becomes_side,
      (side-small other other_side, (first-bound script.symbols bind [] each (record { over = over; small = small }), tt)),
    )
source-small script layout (Merge parent stays goes bind) each names clause over small =
    rule-small (codes "merge") (literal_item stays ∷ literal_item goes ∷ bind_item script.symbols bind ∷ []) layout parent
    (record { printable = refl; some = omega arith })
    (literal-small stays, (literal-small goes, (first-bound script.symbols bind [] each (record { over = over; small = small }), tt)))
source-small script layout (Component name) each names clause over small =
    definition-small (codes "component") (introduced_name script.prefix name) (record { printable = refl; some = omega arith }) (names name)
source-small script layout (Opposite name) each names clause over small =
    definition-small (codes "opposite") (introduced_name script.prefix name) (record { printable = refl; some = omega arith }) (names name)
source-small script layout (Split parent definitions parts) each names clause over small =
    inference-small (codes "split") (status_item (codes "esa") ∷ word_of (codes "parts") (list_of (map numbers_item parts) ∷ []) ∷ [])
    (derived_name layout parent ∷ map (derived_name layout) definitions) (record { printable = refl; some = omega arith })
    (status-small (codes "esa") (record { printable = refl; some = omega arith }), (parts-small parts, tt))
    (derived-shown layout (parent ∷ definitions))
source-small script layout (Chain parents pivots) each names clause over small =
    inference-small (codes "chain")
    (status_item (codes "thm") ∷ word_of (codes "pivots") (list_of (map (pivot_item script.prefix) pivots) ∷ []) ∷ [])
    (map (derived_name layout) parents) (record { printable = refl; some = omega arith })
    (status-small (codes "thm") thm-shown, (pivots-small script.prefix pivots names, tt)) (derived-shown layout parents)
