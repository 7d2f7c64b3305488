-- The source that a term is, by its shape and as a function.
use Rattle.std.proofs.Common.{◌≡◌, ℕ, Bool, true, false, List, [], ◌∷◌, codes, bytes_eq, None, Some, Option, refl, sym, ap, ap₂, ◌∙◌, subst}
use Rattle.std.specs.Prelude.{if◌then◌else◌}
use Rattle.std.specs.Option.{option_map, option_and_then}
use Rattle.std.proofs.lemmas.Slice.Eq.{bytes_eq-Decides}
use Rattle.tptp_source.specs.General.{GeneralTree, variable, word, dollar, number, distinct, negated, listed, joined, trees_of, list_of_trees}
use Rattle.tptp_source.specs.Sources.{name_in, names_in, SourceTree, file_source, inference_source, component_source, opposite_source, word_of, list_of, IsSource}
use Rattle.tptp_source.specs.TermSources.{one_in, two_in, three_in, items_in, Applied, applied_in, file_by, inference_from, inference_by, way_by, definition_by_word, definition_in, no_arguments, is_definition, introduced_by, source_by, source_in}
use Rattle.tptp_source.proofs.AboutParts.PartTerms.{list-trees, trees-list}

-- ---- a source by its shape is the one of the function

items-of : (ts : List GeneralTree) → items_in (list_of ts) ≡ Some ts
items-of ts = ap (λ us. Some us) (list-trees ts)

inference-is :
    (rule : GeneralTree) (items names : List GeneralTree) (parents : List (List ℕ))
    → names_in names ≡ Some parents → inference_from rule (items_in (list_of items)) (items_in (list_of names)) ≡ Some (inference_source rule items parents)
inference-is rule items names parents e =
    ap₂ (inference_from rule) (items-of items) (items-of names) ∙ ap (option_map (inference_source rule items)) e

pub source-is : (t : GeneralTree) (s : SourceTree) → IsSource t s → source_in t ≡ Some s
source-is t (file_source f n) h = ap source_in h.2 ∙ ap (option_map (file_source f)) h.1
source-is t (inference_source rule items parents) h = ap source_in h.2 ∙ inference-is rule items h.0 parents h.1
source-is t (component_source n) h = ap source_in h.2 ∙ ap (option_map component_source) h.1
source-is t (opposite_source n) h = ap source_in h.2 ∙ ap (option_map opposite_source) h.1

-- ---- a source of the function has its shape

pub no_source : (s : SourceTree) (P : Type 0) → (let o : Option SourceTree = None in o) ≡ Some s → P
no_source s P e = cc

abbrev source_or : SourceTree → Option SourceTree → SourceTree
source_or s None = s
source_or s (Some t) = t

pub some-source : (s t : SourceTree) → Some s ≡ Some t → s ≡ t
some-source s t e = ap (source_or s) e

-- both ways of a test of bytes
tested :
    (bytes text : List ℕ) (x y : Option SourceTree) (s : SourceTree) (P : Type 0)
    → (if bytes_eq bytes text then x else y) ≡ Some s → (bytes ≡ text → x ≡ Some s → P) → (y ≡ Some s → P) → P
tested bytes text x y s P e h k = by (bytes_eq bytes text) refl e
  where
    by : (b : Bool) → bytes_eq bytes text ≡ b → (if b then x else y) ≡ Some s → P
    by true f g = h ((bytes_eq-Decides bytes text).0 f) g
    by false f g = k g

no_items : (ts : List GeneralTree) (P : Type 0) → (let o : Option (List GeneralTree) = None in o) ≡ Some ts → P
no_items ts P e = cc

abbrev items_or : List GeneralTree → Option (List GeneralTree) → List GeneralTree
items_or ts None = ts
items_or ts (Some us) = us

some-items : (ts us : List GeneralTree) → Some ts ≡ Some us → ts ≡ us
some-items ts us e = ap (items_or ts) e

no_applied : (a : Applied) (P : Type 0) → (let o : Option Applied = None in o) ≡ Some a → P
no_applied a P e = cc

abbrev applied_or : Applied → Option Applied → Applied
applied_or a None = a
applied_or a (Some b) = b

some-applied : (a b : Applied) → Some a ≡ Some b → a ≡ b
some-applied a b e = ap (applied_or a) e

none-is : (ts : List GeneralTree) → no_arguments ts ≡ true → ts ≡ []
none-is [] e = refl
none-is (t ∷ ts) e = absurd (let x : false ≡ true = e in cc)

-- a definition, as it stands in an annotation
abbrev introduced : GeneralTree → GeneralTree
introduced d = word_of (codes "introduced") (word_of (codes "definition") [] ∷ list_of (d ∷ []) ∷ [])

no_way : (way : List ℕ) (s : SourceTree) (P : Type 0) → way_by way None ≡ Some s → P
no_way way s P e =
    tested way (codes "component") None (if bytes_eq way (codes "opposite") then None else None) s P e
    (λ f g. no_source s P g)
    (λ g. tested way (codes "opposite") None None s P g (λ f k. no_source s P k) (λ k. no_source s P k))

-- a name, and the source that is made of it
abbrev Named : (List ℕ → SourceTree) → GeneralTree → SourceTree → Type 0
Named make t s = (n : List ℕ) × (name_in t ≡ Some n) × (s ≡ make n)

named : (make : List ℕ → SourceTree) (t : GeneralTree) (s : SourceTree) → option_map make (name_in t) ≡ Some s → Named make t s
named make t s e = by (name_in t) refl e
  where
    by : (o : Option (List ℕ)) → name_in t ≡ o → option_map make o ≡ Some s → (n : List ℕ) × (name_in t ≡ Some n) × (s ≡ make n)
    by None h g = no_source s _ g
    by (Some n) h g = (n, h, sym (some-source (make n) s g))

same-word : (f g : List ℕ) (ts : List GeneralTree) → f ≡ g → word_of f ts ≡ word_of g ts
same-word f g ts e = ap (λ h. word_of h ts) e

file-shape :
    (f : List ℕ) (ts : List GeneralTree) (s : SourceTree) → f ≡ codes "file" → option_and_then file_by (two_in ts) ≡ Some s → IsSource (word_of f ts) s
file-shape f [] s e h = no_source s (IsSource (word_of f []) s) h
file-shape f (a ∷ []) s e h = no_source s (IsSource (word_of f (a ∷ [])) s) h
file-shape f (a ∷ b ∷ []) s e h =
    let n = named (file_source a) b s h in
    subst (λ (x : SourceTree). IsSource (word_of f (a ∷ b ∷ [])) x) (sym n.2) (b, n.1, same-word f (codes "file") (a ∷ b ∷ []) e)
file-shape f (a ∷ b ∷ c ∷ cs) s e h = no_source s (IsSource (word_of f (a ∷ b ∷ c ∷ cs)) s) h

-- ---- inferences

listed-is : (t : GeneralTree) (ts : List GeneralTree) → items_in t ≡ Some ts → t ≡ list_of ts
listed-is (variable x) ts e = no_items ts _ e
listed-is (word f us) ts e = no_items ts _ e
listed-is (dollar d us) ts e = no_items ts _ e
listed-is (number sign n) ts e = no_items ts _ e
listed-is (distinct d) ts e = no_items ts _ e
listed-is (negated f) ts e = no_items ts _ e
listed-is (listed us) ts e = ap listed (sym (trees-list us) ∙ ap trees_of (some-items (list_of_trees us) ts e))
listed-is (joined us) ts e = no_items ts _ e

inference-by-shape :
    (f : List ℕ) (a b c : GeneralTree) (s : SourceTree) → f ≡ codes "inference" → (items names : Option (List GeneralTree))
    → items_in b ≡ items → items_in c ≡ names → inference_from a items names ≡ Some s → IsSource (word_of f (a ∷ b ∷ c ∷ [])) s
inference-by-shape f a b c s e None names g h k = no_source s _ k
inference-by-shape f a b c s e (Some items) None g h k = no_source s _ k
inference-by-shape f a b c s e (Some items) (Some names) g h k = by (names_in names) refl k
  where
    by : (o : Option (List (List ℕ))) → names_in names ≡ o → option_map (inference_source a items) o ≡ Some s → IsSource (word_of f (a ∷ b ∷ c ∷ [])) s
    by None m l = no_source s _ l
    by (Some parents) m l =
        subst (λ (x : SourceTree). IsSource (word_of f (a ∷ b ∷ c ∷ [])) x) (some-source (inference_source a items parents) s l) (
          names,
          m,
          same-word f (codes "inference") (a ∷ b ∷ c ∷ []) e
              ∙ ap₂ (λ x y. word_of (codes "inference") (a ∷ x ∷ y ∷ [])) (listed-is b items g) (listed-is c names h),
        )

inference-shape :
    (f : List ℕ) (ts : List GeneralTree) (s : SourceTree) → f ≡ codes "inference" → option_and_then inference_by (three_in ts) ≡ Some s
    → IsSource (word_of f ts) s
inference-shape f [] s e h = no_source s _ h
inference-shape f (a ∷ []) s e h = no_source s _ h
inference-shape f (a ∷ b ∷ []) s e h = no_source s _ h
inference-shape f (a ∷ b ∷ c ∷ []) s e h = inference-by-shape f a b c s e (items_in b) (items_in c) refl refl h
inference-shape f (a ∷ b ∷ c ∷ d ∷ ds) s e h = no_source s _ h

-- ---- definitions

applied-is : (t : GeneralTree) (a : Applied) → applied_in t ≡ Some a → t ≡ word_of a.0 a.1
applied-is (variable x) a e = no_applied a _ e
applied-is (word f us) a e =
    ap (word f) (sym (trees-list us)) ∙ ap (λ (b : Applied). word_of b.0 b.1) (some-applied (f, list_of_trees us) a e)
applied-is (dollar d us) a e = no_applied a _ e
applied-is (number sign n) a e = no_applied a _ e
applied-is (distinct d) a e = no_applied a _ e
applied-is (negated f) a e = no_applied a _ e
applied-is (listed us) a e = no_applied a _ e
applied-is (joined us) a e = no_applied a _ e

-- the word `definition`
definition-is : (t : GeneralTree) → is_definition (applied_in t) ≡ true → t ≡ word_of (codes "definition") []
definition-is t e = by (applied_in t) refl e
  where
    bare : (a : Applied) → applied_in t ≡ Some a → (b : Bool) → bytes_eq a.0 (codes "definition") ≡ b → (if b then no_arguments a.1 else false) ≡ true → t ≡ word_of (codes "definition") []
    bare a h false f g = absurd (let x : false ≡ true = g in cc)
    bare a h true f g =
        applied-is t a h ∙ ap₂ word_of ((bytes_eq-Decides a.0 (codes "definition")).0 f) (none-is a.1 g)

    by : (o : Option Applied) → applied_in t ≡ o → is_definition o ≡ true → t ≡ word_of (codes "definition") []
    by None h g = absurd (let x : false ≡ true = g in cc)
    by (Some a) h g = bare a h (bytes_eq a.0 (codes "definition")) refl g

-- a definition by its way
way-shape :
    (way : List ℕ) (name d : GeneralTree) (s : SourceTree) → d ≡ word_of way (name ∷ []) → way_by way (name_in name) ≡ Some s
    → IsSource (word_of (codes "introduced") (word_of (codes "definition") [] ∷ list_of (d ∷ []) ∷ [])) s
way-shape way name d s e h =
    tested way (codes "component") (option_map component_source (name_in name))
    (if bytes_eq way (codes "opposite") then option_map opposite_source (name_in name) else None) s _ h
    (λ f g. let n = named component_source name s g in
    subst (λ (x : SourceTree). IsSource (introduced d) x) (sym n.2) (name, n.1, ap introduced (e ∙ same-word way (codes "component") (name ∷ []) f)))
    (λ g. tested way (codes "opposite") (option_map opposite_source (name_in name)) None s _ g
    (λ f k. let n = named opposite_source name s k in
    subst (λ (x : SourceTree). IsSource (introduced d) x) (sym n.2) (name, n.1, ap introduced (e ∙ same-word way (codes "opposite") (name ∷ []) f)))
    (λ k. no_source s _ k))

one-shape :
    (d : GeneralTree) (a : Applied) (s : SourceTree) → applied_in d ≡ Some a → (ts : List GeneralTree) → a.1 ≡ ts
    → way_by a.0 (option_and_then name_in (one_in ts)) ≡ Some s → IsSource (introduced d) s
one-shape d a s e [] f h = no_way a.0 s _ h
one-shape d a s e (name ∷ []) f h = way-shape a.0 name d s (applied-is d a e ∙ ap (word_of a.0) f) h
one-shape d a s e (t ∷ u ∷ us) f h = no_way a.0 s _ h

definition-shape : (d : GeneralTree) (s : SourceTree) → definition_in d ≡ Some s → IsSource (introduced d) s
definition-shape d s h = by (applied_in d) refl h
  where
    by : (o : Option Applied) → applied_in d ≡ o → option_and_then definition_by_word o ≡ Some s → IsSource (introduced d) s
    by None e g = no_source s _ g
    by (Some a) e g = one-shape d a s e a.1 refl g

-- the list of one definition
item-shape :
    (t : GeneralTree) (s : SourceTree) → option_and_then definition_in (option_and_then one_in (items_in t)) ≡ Some s
    → (d : GeneralTree) × (t ≡ list_of (d ∷ [])) × IsSource (introduced d) s
item-shape t s h = by (items_in t) refl h
  where
    single :
        (ts : List GeneralTree) → t ≡ list_of ts → option_and_then definition_in (one_in ts) ≡ Some s
        → (d : GeneralTree) × (t ≡ list_of (d ∷ [])) × IsSource (introduced d) s
    single [] e g = no_source s _ g
    single (d ∷ []) e g = (d, e, definition-shape d s g)
    single (d ∷ u ∷ us) e g = no_source s _ g

    by :
        (o : Option (List GeneralTree)) → items_in t ≡ o → option_and_then definition_in (option_and_then one_in o) ≡ Some s
        → (d : GeneralTree) × (t ≡ list_of (d ∷ [])) × IsSource (introduced d) s
    by None e g = no_source s _ g
    by (Some ts) e g = single ts (listed-is t ts e) g

introduced-shape :
    (f : List ℕ) (ts : List GeneralTree) (s : SourceTree) → f ≡ codes "introduced" → option_and_then introduced_by (two_in ts) ≡ Some s
    → IsSource (word_of f ts) s
introduced-shape f [] s e h = no_source s _ h
introduced-shape f (a ∷ []) s e h = no_source s _ h
introduced-shape f (a ∷ b ∷ []) s e h = by (is_definition (applied_in a)) refl h
  where
    by :
        (x : Bool) → is_definition (applied_in a) ≡ x
        → (if x then option_and_then definition_in (option_and_then one_in (items_in b)) else None) ≡ Some s → IsSource (word_of f (a ∷ b ∷ [])) s
    by true k g =
        let i = item-shape b s g in
        subst (λ (t : GeneralTree). IsSource t s)
        (sym (same-word f (codes "introduced") (a ∷ b ∷ []) e
        ∙ ap₂ (λ x y. word_of (codes "introduced") (x ∷ y ∷ [])) (definition-is a k) i.1)) i.2
    by false k g = no_source s _ g
introduced-shape f (a ∷ b ∷ c ∷ cs) s e h = no_source s _ h

-- ---- all sources

pub source-shape : (t : GeneralTree) (s : SourceTree) → source_in t ≡ Some s → IsSource t s
source-shape t s h = by (applied_in t) refl h
  where
    by : (o : Option Applied) → applied_in t ≡ o → option_and_then source_by o ≡ Some s → IsSource t s
    by None e g = no_source s _ g
    by (Some a) e g =
        subst (λ (u : GeneralTree). IsSource u s) (sym (applied-is t a e))
        (tested a.0 (codes "file") (option_and_then file_by (two_in a.1))
        (if bytes_eq a.0 (codes "inference") then option_and_then inference_by (three_in a.1)
        else if bytes_eq a.0 (codes "introduced") then option_and_then introduced_by (two_in a.1) else None) s _ g
        (λ f k. file-shape a.0 a.1 s f k)
        (λ k. tested a.0 (codes "inference") (option_and_then inference_by (three_in a.1))
        (if bytes_eq a.0 (codes "introduced") then option_and_then introduced_by (two_in a.1) else None) s _ k
        (λ f l. inference-shape a.0 a.1 s f l)
        (λ l. tested a.0 (codes "introduced") (option_and_then introduced_by (two_in a.1)) None s _ l
        (λ f m. introduced-shape a.0 a.1 s f m) (λ m. no_source s _ m))))
