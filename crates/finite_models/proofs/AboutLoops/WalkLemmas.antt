-- The flat literals of one more term, and of one more literal.
use Rattle.std.proofs.Common.{◌≡◌, ℕ, ◌+◌, ◌<◌, ◌≤◌, List, [], ◌∷◌, ◌++◌, length, map, take, get_or, append_assoc, append-nil, ap, ap₂, sym, ◌∙◌, arith}
use Rattle.std.specs.Prelude.{sum_by}
use Rattle.std.proofs.lemmas.List.{take_all, map-append}
use Rattle.std.proofs.lemmas.List.Sums.{sum_by-cons, sum_by_push}
use Rattle.fol_base.specs.Tree.{Tree, trees_of}
use Rattle.fol_base.specs.Clause.{TreeLiteral}
use Rattle.fol_base.specs.Term.{tree_of}
use Rattle.fol_base.specs.Literal.{literal_of}
use Rattle.fol_base.specs.declared.term.Term.{Term}
use Rattle.fol_base.specs.declared.clause.Literal.{Literal}
use Rattle.fol_base.proofs.ListLemmas.{map-take_more_item}
use Rattle.finite_models.specs.declared.flat.FlatLiteral.{FlatLiteral}
use Rattle.finite_models.specs.declared.flat.FlatClause.{FlatClause}
use Rattle.finite_models.specs.Measure.{occurrences, all_occurrences}
use Rattle.finite_models.specs.Flattening.{term_slot, terms_slots, term_literals, terms_literals, literal_flattened, literal_slots, literals_flattened}

-- ---- lists

-- a sum with the next item of a slice
pub sum-more :
    {X Y : Type 0} (f : Y → ℕ) (g : X → Y) (xs : List X) (i : ℕ) (x : X)
    → i < length xs → x ≡ get_or xs i x → sum_by f (map g (take (i + 1) xs)) ≡ sum_by f (map g (take i xs)) + f (g x)
sum-more f g xs i x h r = ap (sum_by f) (map-take_more_item g xs i x h r) ∙ sum_by_push f (map g (take i xs)) (g x)

-- what is mapped twice, with the next item
pub mapped-more :
    {X Y Z : Type 0} (f : Y → Z) (g : X → Y) (xs : List X) (i : ℕ) (x : X)
    → i < length xs → x ≡ get_or xs i x → map f (map g (take (i + 1) xs)) ≡ map f (map g (take i xs)) ++ f (g x) ∷ []
mapped-more f g xs i x h r = ap (map f) (map-take_more_item g xs i x h r) ∙ map-append f (map g (take i xs)) (g x ∷ [])

-- literals that are added twice
pub added-twice :
    {X : Type 0} (old mid new first second : List X) → mid ≡ old ++ first → new ≡ mid ++ second → new ≡ old ++ (first ++ second)
added-twice old mid new first second a b = b ∙ ap (λ xs. xs ++ second) a ∙ append_assoc old first second

-- ---- terms

occurrences-push : (ts : List Tree) (t : Tree) → all_occurrences (trees_of (ts ++ t ∷ [])) ≡ all_occurrences (trees_of ts) + occurrences t
occurrences-push [] t = omega arith
occurrences-push (u ∷ ts) t = omega (arith, occurrences-push ts t)

slots-push :
    (first : ℕ) (ts : List Tree) (t : Tree)
    → terms_slots first (trees_of (ts ++ t ∷ [])) ≡ terms_slots first (trees_of ts) ++ term_slot (first + all_occurrences (trees_of ts)) t ∷ []
slots-push first [] t = let e : first ≡ first + 0 = omega arith in ap (λ (n : ℕ). term_slot n t ∷ []) e
slots-push first (u ∷ ts) t =
    let e : (first + occurrences u) + all_occurrences (trees_of ts) ≡ first + (occurrences u + all_occurrences (trees_of ts)) = omega arith in
    ap (λ (ns : List ℕ). term_slot first u ∷ ns)
    (slots-push (first + occurrences u) ts t ∙ ap (λ (n : ℕ). terms_slots (first + occurrences u) (trees_of ts) ++ term_slot n t ∷ []) e)

literals-push :
    (first : ℕ) (ts : List Tree) (t : Tree)
    → terms_literals first (trees_of (ts ++ t ∷ [])) ≡ terms_literals first (trees_of ts) ++ term_literals (first + all_occurrences (trees_of ts)) t
literals-push first [] t =
    let e : first ≡ first + 0 = omega arith in append-nil (term_literals first t) ∙ ap (λ (n : ℕ). term_literals n t) e
literals-push first (u ∷ ts) t =
    let e : (first + occurrences u) + all_occurrences (trees_of ts) ≡ first + (occurrences u + all_occurrences (trees_of ts)) = omega arith in
    ap (λ (ls : List FlatLiteral). term_literals first u ++ ls)
    (literals-push (first + occurrences u) ts t
    ∙ ap (λ (n : ℕ). terms_literals (first + occurrences u) (trees_of ts) ++ term_literals n t) e)
    ∙ sym (append_assoc (term_literals first u) (terms_literals (first + occurrences u) (trees_of ts)) (term_literals (first + (occurrences u + all_occurrences (trees_of ts))) t))

-- one more term of a slice
module _ (xs : List Term) (i : ℕ) (x : Term) (h : i < length xs) (r : x ≡ get_or xs i x) where
  abbrev front : List Tree
  front = map tree_of (take i xs)

  more : map tree_of (take (i + 1) xs) ≡ front ++ tree_of x ∷ []
  more = map-take_more_item tree_of xs i x h r

  pub occurrences-more :
      all_occurrences (trees_of (map tree_of (take (i + 1) xs))) ≡ all_occurrences (trees_of front) + occurrences (tree_of x)
  occurrences-more = ap (λ ts. all_occurrences (trees_of ts)) more ∙ occurrences-push front (tree_of x)

  pub slots-more :
      (first : ℕ)
      → terms_slots first (trees_of (map tree_of (take (i + 1) xs)))
      ≡ terms_slots first (trees_of front) ++ term_slot (first + all_occurrences (trees_of front)) (tree_of x) ∷ []
  slots-more first = ap (λ ts. terms_slots first (trees_of ts)) more ∙ slots-push first front (tree_of x)

  pub literals-more :
      (first : ℕ)
      → terms_literals first (trees_of (map tree_of (take (i + 1) xs)))
      ≡ terms_literals first (trees_of front) ++ term_literals (first + all_occurrences (trees_of front)) (tree_of x)
  literals-more first = ap (λ ts. terms_literals first (trees_of ts)) more ∙ literals-push first front (tree_of x)

  -- the slots and literals of the next term
  pub slots-next :
      (first next slot : ℕ) (slots new : List ℕ)
      → slots ≡ terms_slots first (trees_of front) → next ≡ first + all_occurrences (trees_of front)
      → slot ≡ term_slot next (tree_of x) → new ≡ slots ++ slot ∷ [] → new ≡ terms_slots first (trees_of (map tree_of (take (i + 1) xs)))
  slots-next first next slot slots new a b c d =
      d
      ∙ ap₂ (λ (ns : List ℕ) (n : ℕ). ns ++ n ∷ []) a (c ∙ ap (λ (n : ℕ). term_slot n (tree_of x)) b)
      ∙ sym (slots-more first)

  pub literals-next :
      (first next : ℕ) (old literals new : List FlatLiteral)
      → literals ≡ old ++ terms_literals first (trees_of front) → next ≡ first + all_occurrences (trees_of front)
      → new ≡ literals ++ term_literals next (tree_of x) → new ≡ old ++ terms_literals first (trees_of (map tree_of (take (i + 1) xs)))
  literals-next first next old literals new a b c =
      added-twice old literals new (terms_literals first (trees_of front)) (term_literals (first + all_occurrences (trees_of front)) (tree_of x)) a
      (c ∙ ap (λ (n : ℕ). literals ++ term_literals n (tree_of x)) b)
      ∙ ap (λ (ls : List FlatLiteral). old ++ ls) (sym (literals-more first))

-- all terms
pub all-terms : (xs : List Term) (ts : List Tree) (i : ℕ) → map tree_of xs ≡ ts → length xs ≤ i → map tree_of (take i xs) ≡ ts
all-terms xs ts i e h = ap (map tree_of) (take_all i xs h) ∙ e

-- ---- literals

flattened-push :
    (first : ℕ) (ls : List TreeLiteral) (l : TreeLiteral)
    → literals_flattened first (ls ++ l ∷ []) ≡ literals_flattened first ls ++ literal_flattened (first + sum_by literal_slots ls) l
flattened-push first [] l =
    let e : first ≡ first + 0 = omega arith in append-nil (literal_flattened first l) ∙ ap (λ (n : ℕ). literal_flattened n l) e
flattened-push first (k ∷ ls) l =
    let e : (first + literal_slots k) + sum_by literal_slots ls ≡ first + sum_by literal_slots (k ∷ ls) =
    omega (arith, sum_by-cons literal_slots k ls) in
    ap (λ (fs : List FlatLiteral). literal_flattened first k ++ fs)
    (flattened-push (first + literal_slots k) ls l
    ∙ ap (λ (n : ℕ). literals_flattened (first + literal_slots k) ls ++ literal_flattened n l) e)
    ∙ sym (append_assoc (literal_flattened first k) (literals_flattened (first + literal_slots k) ls) (literal_flattened (first + sum_by literal_slots (k ∷ ls)) l))

pub flattened-next :
    (xs : List Literal) (i : ℕ) (x : Literal) (first next : ℕ) (old literals new : List FlatLiteral)
    → i < length xs → x ≡ get_or xs i x
    → literals ≡ old ++ literals_flattened first (map literal_of (take i xs)) → next ≡ first + sum_by literal_slots (map literal_of (take i xs))
    → new ≡ literals ++ literal_flattened next (literal_of x) → new ≡ old ++ literals_flattened first (map literal_of (take (i + 1) xs))
flattened-next xs i x first next old literals new h r a b c =
    added-twice old literals new (literals_flattened first begun) (literal_flattened (first + sum_by literal_slots begun) (literal_of x)) a
    (c ∙ ap (λ (n : ℕ). literals ++ literal_flattened n (literal_of x)) b)
    ∙ ap (λ (fs : List FlatLiteral). old ++ fs)
    (sym (ap (literals_flattened first) (map-take_more_item literal_of xs i x h r) ∙ flattened-push first begun (literal_of x)))
  where
    begun : List TreeLiteral
    begun = map literal_of (take i xs)

-- a flat clause by its parts
pub flat-same :
    (k n : ℕ) (ks ns : List FlatLiteral) (c d : FlatClause)
    → c ≡ record { slots = k; literals = ks } → k ≡ n → ks ≡ ns → d ≡ record { slots = n; literals = ns } → c ≡ d
flat-same k n ks ns c d a e f b = a ∙ together ∙ sym b
  where
    made : ℕ → List FlatLiteral → FlatClause
    made m ms = record { slots = m; literals = ms }

    together : made k ks ≡ made n ns
    together = ap₂ made e f
