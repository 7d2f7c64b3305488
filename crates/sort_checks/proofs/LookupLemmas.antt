-- What the table tells of a word: its type as a function or a predicate, and its first declaration.
use Rattle.std.proofs.Common.{◌≡◌, ℕ, ◌<◌, ◌≤◌, ◌==◌, Bool, true, false, not, ◌&&◌, List, length, take, get_or, if◌then◌else◌, refl, ap, ap₂, sym, ◌∙◌, arith}
use Rattle.std.specs.Prelude.{Option, None, Some, slice_get, option_map}
use denote.Ref.{Bor}
use Rattle.std.specs.Option.{is_some}
use Rattle.std.proofs.lemmas.List.{take_all, length-map}
use Rattle.std.proofs.lemmas.Option.{slice_get-map, slice_get_read, slice_get_within}
use Rattle.typed_tree.specs.declared.sort.Declaration.{Declaration}
use Rattle.typed_tree.specs.declared.sort.Sort.{Sort}
use Rattle.typed_tree.specs.Shape.{sort_of, result_sort}
use Rattle.typed_tree.specs.Sorts.{SymbolType, Declared, DeclarationTree}
use Rattle.typed_tree.specs.TypedEntries.{BodyTree, declaration_tree}
use Rattle.typed_problem.specs.Declarations.{declared_as, declared_type, has_values, only_symbol, is_function_type, is_predicate_type}
use Rattle.typed_problem.specs.ProblemShape.{type_of}
use Rattle.typed_problem.proofs.TypeLemmas.{type_if, type-by}
use Rattle.sort_checks.specs.declared.lent.LentDeclaration.{LentDeclaration}
use Rattle.sort_checks.specs.declared.lent.LentEntry.{LentEntry}
use Rattle.sort_checks.specs.Lent.{declared_lent, declaration_lent, earlier_lent, body_lent, bodies_of, declared_among, declaration_of_body}
use Rattle.sort_checks.specs.Tables.{first_from}
use Rattle.sort_checks.proofs.TableLemmas.{IsFirst, none-declares, first-declares}

-- ---- types

-- what is told of a word that is no symbol
pub none-told :
    (test : SymbolType → Bool) (found : Option Declared) (otherwise : SymbolType) (told : Option (Bor Declaration))
    → option_map (λ (d : Bor Declaration). type_of d.now) told ≡ only_symbol found → told ≡ None → otherwise ≡ declared_type test found otherwise
none-told test found otherwise told e n =
    sym (type-by test found otherwise (option_map (λ (d : Bor Declaration). type_of d.now) told) e
    ∙ ap (λ (o : Option (Bor Declaration)). type_if test otherwise (option_map (λ (d : Bor Declaration). type_of d.now) o)) n)

-- what is told of a symbol of another kind, or with another number of arguments
pub other-told :
    (test : SymbolType → Bool) (found : Option Declared) (otherwise : SymbolType) (told : Option (Bor Declaration)) (d : Bor Declaration)
    → option_map (λ (d : Bor Declaration). type_of d.now) told ≡ only_symbol found → told ≡ Some d → test (type_of d.now) ≡ false
    → otherwise ≡ declared_type test found otherwise
other-told test found otherwise told d e s f =
    sym (type-by test found otherwise (option_map (λ (d : Bor Declaration). type_of d.now) told) e
    ∙ ap (λ (o : Option (Bor Declaration)). type_if test otherwise (option_map (λ (d : Bor Declaration). type_of d.now) o)) s
    ∙ ap (λ (b : Bool). if b then type_of d.now else otherwise) f)

-- what is told of a symbol as it is used
pub type-told :
    (test : SymbolType → Bool) (found : Option Declared) (otherwise : SymbolType) (told : Option (Bor Declaration)) (d : Bor Declaration)
    → option_map (λ (d : Bor Declaration). type_of d.now) told ≡ only_symbol found → told ≡ Some d → test (type_of d.now) ≡ true
    → type_of d.now ≡ declared_type test found otherwise
type-told test found otherwise told d e s f =
    sym (type-by test found otherwise (option_map (λ (d : Bor Declaration). type_of d.now) told) e
    ∙ ap (λ (o : Option (Bor Declaration)). type_if test otherwise (option_map (λ (d : Bor Declaration). type_of d.now) o)) s
    ∙ ap (λ (b : Bool). if b then type_of d.now else otherwise) f)

values-told : (r : Option Sort) → has_values (result_sort r) ≡ is_some r
values-told None = refl
values-told (Some s) = refl

-- whether a declaration is one of a function with so many arguments
pub function-tested : (d : Declaration) (arity : ℕ) → is_function_type arity (type_of d) ≡ (is_some d.result && length d.args == arity)
function-tested d arity = ap₂ (λ (b : Bool) (n : ℕ). b && n == arity) (values-told d.result) (length-map d.args sort_of)

pub predicate-tested : (d : Declaration) (arity : ℕ) → is_predicate_type arity (type_of d) ≡ (not (is_some d.result) && length d.args == arity)
predicate-tested d arity = ap₂ (λ (b : Bool) (n : ℕ). not b && n == arity) (values-told d.result) (length-map d.args sort_of)

-- ---- first declarations

-- the first declaration stands at a place of the entries
pub first-within : (es : List LentEntry) (k : ℕ) (w : List ℕ) → first_from 0 (bodies_of es) w ≡ Some k → k < length es
first-within es k w h =
    let first = first-declares (bodies_of es) 0 k w h in
    omega (arith, first.place_is, slice_get_within (bodies_of es) first.place (declaration_tree first.declaration) first.there, length-map es (λ (e : LentEntry). body_lent e.body))

-- it is told if it stands before an index
pub earlier-told :
    (es : List LentEntry) (k index : ℕ) (w : List ℕ) (e : LentEntry) (told : Option LentDeclaration) → first_from 0 (bodies_of es) w ≡ Some k → k < index
    → e ≡ get_or es k e → option_map declaration_lent told ≡ declaration_of_body (body_lent e.body) → earlier_lent told ≡ declared_as (declared_among (take index (bodies_of es))) w
earlier-told es k index w e told h l g t =
    lent told (t ∙ ap declaration_of_body body) ∙ sym (first.behind index (omega (arith, l, first.place_is)))
  where
    first : IsFirst (bodies_of es) 0 k w
    first = first-declares (bodies_of es) 0 k w h

    here : k ≡ first.place
    here = omega (arith, first.place_is)

    same : Some (body_lent e.body) ≡ Some (declaration_tree first.declaration) → body_lent e.body ≡ declaration_tree first.declaration
    same z = cc

    body : body_lent e.body ≡ declaration_tree first.declaration
    body =
        same
        (sym (slice_get-map (λ (x : LentEntry). body_lent x.body) es k ∙ ap (option_map (λ (x : LentEntry). body_lent x.body)) (slice_get_read es (length es) k e refl (first-within es k w h) g))
        ∙ ap (slice_get (bodies_of es)) here ∙ first.there)

    lent : (o : Option LentDeclaration) → option_map declaration_lent o ≡ Some first.declaration → earlier_lent o ≡ Some first.declaration.declared
    lent None z = cc
    lent (Some d) z = ap (option_map (λ (x : DeclarationTree). x.declared)) z

-- a first declaration that stands later isn't told
pub later-untold :
    (es : List LentEntry) (k index : ℕ) (w : List ℕ) → first_from 0 (bodies_of es) w ≡ Some k → index ≤ k → None ≡ declared_as (declared_among (take index (bodies_of es))) w
later-untold es k index w h l =
    let first = first-declares (bodies_of es) 0 k w h in sym (first.before index (omega (arith, l, first.place_is)))

pub none-untold :
    (es : List LentEntry) (index : ℕ) (w : List ℕ) → first_from 0 (bodies_of es) w ≡ None → None ≡ declared_as (declared_among (take index (bodies_of es))) w
none-untold es index w h = sym (none-declares (bodies_of es) 0 index w h)

-- ---- symbols

pub symbol-told :
    (found : Option Declared) (earlier : Option LentDeclaration) (d : LentDeclaration) → earlier_lent earlier ≡ found → earlier ≡ Some d
    → option_map (λ (s : Bor Declaration). type_of s.now) d.symbol ≡ only_symbol found
symbol-told found earlier d e s = by d.symbol ∙ ap only_symbol (sym (ap earlier_lent s) ∙ e)
  where
    by : (o : Option (Bor Declaration)) → option_map (λ (x : Bor Declaration). type_of x.now) o ≡ only_symbol (Some (declared_lent o))
    by None = refl
    by (Some x) = refl

pub all-taken : (es : List LentEntry) (bs : List BodyTree) → bodies_of es ≡ bs → take (length es) bs ≡ bs
all-taken es bs e = take_all (length es) bs (omega (arith, ap length e, length-map es (λ (x : LentEntry). body_lent x.body)))

-- ---- whether there is an earlier declaration

pub earlier-there : (o : Option LentDeclaration) (found : Option Declared) → earlier_lent o ≡ found → is_some o ≡ is_some found
earlier-there o found e = by o ∙ ap is_some e
  where
    by : (p : Option LentDeclaration) → is_some p ≡ is_some (earlier_lent p)
    by None = refl
    by (Some d) = refl
