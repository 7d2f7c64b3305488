-- Lists of the inferences of names that were tried one after another.
use Rattle.std.proofs.Common.{◌≡◌, ◌⊎◌, ℕ, zero, suc, ◌+◌, ◌<◌, ◌≤◌, Bool, true, false, ◌&&◌, ◌==◌, Option, None, Some, List, [], ◌∷◌, ◌++◌, length, take, get_or, append-nil, refl, ap, ap₂, sym, ◌∙◌, subst, inl, inr, ⊎_elim, arith}
use Rattle.std.specs.Prelude.{flat_map, slice_get, All, Contains}
use Rattle.std.proofs.lemmas.Bool.{true≢false, and_from, and_parts, cases_Bool, cond-true, cond-false, eq-eqb, eqb-true, false_from_ne_true, not-true, not_from_false}
use Rattle.std.proofs.lemmas.Grind.{flat_map-append}
use Rattle.std.proofs.lemmas.List.{append_assoc, length-take}
use Rattle.std.proofs.Math.Seq.{take-append_seam, take-length}
use Rattle.std.proofs.lemmas.List.Elements.{Contains-append_left, Contains-append_right, Contains-get_or}
use Rattle.std.proofs.lemmas.Option.{same_Some, slice_get-get_or, get_or_from_slice_get}
use Rattle.fol_base.specs.Clause.{TreeClause}
use Rattle.fol_base.specs.Selection.{SelectionMode}
use Rattle.fol_base.specs.WellFormed.{SymbolUse, are_literals_of}
use Rattle.fol_base.specs.declared.clause.Side.{Side}
use Rattle.fol_base.specs.declared.clause.Side.TheVariants.{Left}
use Rattle.fol_base.proofs.ListLemmas.{take_more_item, map-take_more_item}
use Rattle.kbo_order.proofs.AboutMultisets.MemberLemmas.{In, In-left, In-right, In-map, map-In}
use Rattle.kernel_steps.specs.Named.{IsInference}
use Rattle.kernel_steps.specs.declared.key.Key.{Key}
use Rattle.kernel_steps.specs.declared.key.Key.TheVariants.{Para, Refl, Factor, Replaced}
use Rattle.bank_clause.specs.Clause.{clause_at}
use Rattle.bank_clause.specs.declared.member.Member.{Member}
use Rattle.eq_rules.specs.Inferences.{IsMade, AreInferences, AreSomeInferences, alone, is_enough}
use Rattle.eq_rules.specs.Trying.{IsTried}
use Rattle.eq_rules.specs.declared.inference.Made.{Made}
use Rattle.eq_rules.specs.declared.inference.Inference.{Inference}
use Rattle.eq_rules.proofs.AboutConclusions.MadeLemmas.{alone_there, alone_number}
use Rattle.literal_selection.specs.Mode.{mode_of}
use Rattle.superpose.specs.Sites.{start_sites, enter_sites, AreSitesOf}
use Rattle.superpose.specs.declared.sites.Sites.{Sites}
use Rattle.superpose.specs.Superposing.{para_key, IsSuperposition}
use Rattle.superpose.specs.Pairing.{entry_of, AreTried, keys_from, keys_between, AddsSomeSuperpositions, AddsSuperpositions, AddsSuperpositionsUpTo, AddsTried, Begins, TriesUpTo, pair_keys, two, is_between, is_from_into, is_superposition}
use Rattle.eq_rules.specs.declared.concluding.LiteralSide.{LiteralSide}
use Rattle.superpose.specs.declared.sites.LiteralPlace.{LiteralPlace}
use Rattle.superpose.proofs.AboutLists.ListLemmas.{In-either, In-flat_map, In-flat_mapped, Once, Once-append, Once-front, Once-map, Once-flat_map}
use Rattle.superpose.proofs.AboutSites.SitesThere.{starts_once, enters_once, start_in, formed_in}

-- ---- one after another

module _ (p : ℕ → Bool) (mode : SelectionMode) (clauses : ℕ → Option TreeClause) where
  pub tried-append :
      (keys more : List Key) (found others : List Inference)
      → AreTried p mode clauses keys found → AreTried p mode clauses more others → AreTried p mode clauses (keys ++ more) (found ++ others)
  tried-append [] more found others h k = subst (λ (es : List Inference). AreTried p mode clauses more (es ++ others)) (sym h) k
  tried-append (key ∷ keys) more found others h k = (
    h.0,
    h.1 ++ others,
    ap (λ es. es ++ others) h.2 ∙ append_assoc (entry_of key h.0) h.1 others,
    h.3,
    tried-append keys more h.1 others h.4 k,
  )

  pub tried-one : (key : Key) (made : Option Made) → IsTried p mode clauses key made → AreTried p mode clauses (key ∷ []) (entry_of key made)
  tried-one key made h = (made, [], sym (append-nil (entry_of key made)), h, refl)

  -- ---- what the list then has

  abbrev Fact : (Key → Bool) → Inference → Type 0
  Fact passes e = (passes e.key ≡ true) × IsMade p mode clauses e.key e.result

  all-more : (P : Inference → Type 0) (e : Inference) (es : List Inference) → P e → All P es → All P (e ∷ es)
  all-more P e es h all = at
    where
      at : (k : ℕ) (d : Inference) → k < length (e ∷ es) → P (get_or (e ∷ es) k d)
      at zero d less = h
      at (suc k) d less = all k d (omega (arith, less))

  entry-made :
      (passes : Key → Bool) (key : Key) (made : Option Made) (rest : List Inference)
      → passes key ≡ true → IsTried p mode clauses key made → All (Fact passes) rest → All (Fact passes) (entry_of key made ++ rest)
  entry-made passes key None rest h tried all = all
  entry-made passes key (Some made) rest h tried all =
      all-more (Fact passes) (record { key = key; result = made }) rest (h, tried) all

  tried-made :
      (passes : Key → Bool) (keys : List Key) (found : List Inference)
      → ((key : Key) → In key keys → passes key ≡ true) → AreTried p mode clauses keys found → All (Fact passes) found
  tried-made passes [] found pass h = subst (λ (es : List Inference). All (Fact passes) es) (sym h) (λ k d less. absurd (omega (arith, less)))
  tried-made passes (key ∷ keys) found pass h =
      subst (λ (es : List Inference). All (Fact passes) es) (sym h.2)
      (entry-made passes key h.0 h.1 (pass key (inl refl)) h.3
      (tried-made passes keys h.1 (λ k there. pass k (inr there)) h.4))

  abbrev HasEntry : List Inference → Key → Type 0
  HasEntry found key = (e : Inference) × Contains found e × (e.key ≡ key)

  entry-first :
      (key : Key) (made : Option Made) (rest : List Inference) (c : TreeClause)
      → IsTried p mode clauses key made → IsInference p mode clauses key c → HasEntry (entry_of key made ++ rest) key
  entry-first key None rest c tried it = absurd (tried c it)
  entry-first key (Some made) rest c tried it =
      let e : Inference = record { key = key; result = made } in
      (e, Contains-append_left (e ∷ []) rest e (Contains-get_or (e ∷ []) 0 e (omega arith)), refl)

  tried-complete :
      (keys : List Key) (found : List Inference) (key : Key) (c : TreeClause)
      → AreTried p mode clauses keys found → In key keys → IsInference p mode clauses key c → HasEntry found key
  tried-complete [] found key c h there it = absurd there
  tried-complete (k ∷ keys) found key c h there it =
      subst (λ (es : List Inference). HasEntry es key) (sym h.2)
      (⊎_elim
      (λ here.
      subst (λ (n : Key). HasEntry (entry_of k h.0 ++ h.1) n) (sym here)
      (entry-first k h.0 h.1 c h.3 (subst (λ (n : Key). IsInference p mode clauses n c) here it)))
      (λ later.
      let found_later = tried-complete keys h.1 key c h.4 later it in
      (found_later.0, Contains-append_right (entry_of k h.0) h.1 found_later.0 found_later.1, found_later.2))
      there)

  -- the names of a list's entries are those that were tried
  tried-named :
      (keys : List Key) (found : List Inference) (n : ℕ) (e : Inference)
      → AreTried p mode clauses keys found → slice_get found n ≡ Some e → In e.key keys
  tried-named [] found n e h at = absurd (nothing n (sym (ap (λ es. slice_get es n) h) ∙ at))
    where
      nothing : (k : ℕ) → slice_get [] k ≡ Some e → ⊥
      nothing k it = absurd (cc)
  tried-named (key ∷ keys) found n e h at =
      named key h.0 h.1 n (λ k f there. tried-named keys h.1 k f h.4 there) (sym (ap (λ es. slice_get es n) h.2) ∙ at)
    where
      named :
          (k : Key) (made : Option Made) (rest : List Inference) (i : ℕ)
          → ((j : ℕ) (f : Inference) → slice_get rest j ≡ Some f → In f.key keys)
          → slice_get (entry_of k made ++ rest) i ≡ Some e → In e.key (k ∷ keys)
      named k None rest i later it = inr (later i e it)
      named k (Some made) rest zero later it =
          inl (sym (ap (λ (d : Inference). d.key) (same_Some (record { key = k; result = made }) e it)))
      named k (Some made) rest (suc i) later it = inr (later i e it)

  tried-once :
      (keys : List Key) (found : List Inference) → Once keys → AreTried p mode clauses keys found
      → (m n : ℕ) (d e : Inference) → slice_get found m ≡ Some d → slice_get found n ≡ Some e → d.key ≡ e.key → m ≡ n
  tried-once [] found once h m n d e at_m at_n same = absurd (tried-named [] found m d h at_m)
  tried-once (key ∷ keys) found once h m n d e at_m at_n same =
      first key h.0 h.1 m n (λ k f there. tried-named keys h.1 k f h.4 there) once.0
      (λ i j at_i at_j. tried-once keys h.1 once.1 h.4 i j d e at_i at_j same)
      (sym (ap (λ es. slice_get es m) h.2) ∙ at_m) (sym (ap (λ es. slice_get es n) h.2) ∙ at_n)
    where
      first :
          (k : Key) (made : Option Made) (rest : List Inference) (i j : ℕ)
          → ((l : ℕ) (f : Inference) → slice_get rest l ≡ Some f → In f.key keys) → (In k keys → ⊥)
          → ((a b : ℕ) → slice_get rest a ≡ Some d → slice_get rest b ≡ Some e → a ≡ b)
          → slice_get (entry_of k made ++ rest) i ≡ Some d → slice_get (entry_of k made ++ rest) j ≡ Some e → i ≡ j
      first k None rest i j later new again at_i at_j = again i j at_i at_j
      first k (Some made) rest zero zero later new again at_i at_j = refl
      first k (Some made) rest zero (suc j) later new again at_i at_j =
          absurd (new (subst (λ (n : Key). In n keys)
          (sym same ∙ sym (ap (λ (f : Inference). f.key) (same_Some (record { key = k; result = made }) d at_i)))
          (later j e at_j)))
      first k (Some made) rest (suc i) zero later new again at_i at_j =
          absurd (new (subst (λ (n : Key). In n keys)
          (same ∙ sym (ap (λ (f : Inference). f.key) (same_Some (record { key = k; result = made }) e at_j)))
          (later i d at_i)))
      first k (Some made) rest (suc i) (suc j) later new again at_i at_j = ap suc (again i j at_i at_j)

  -- all that have names that pass
  pub tried-all :
      (passes : Key → Bool) (keys : List Key) (found : List Inference)
      → Once keys → ((key : Key) → In key keys → passes key ≡ true)
      → ((key : Key) (c : TreeClause) → passes key ≡ true → IsInference p mode clauses key c → In key keys)
      → AreTried p mode clauses keys found → AreInferences p mode clauses passes found
  tried-all passes keys found once pass back h = record {
    made = tried-made passes keys found pass h;
    complete = λ key c passing it. tried-complete keys found key c h (back key c passing it) it;
    once = tried-once keys found once h;
  }

  -- some that have names that pass
  pub tried-some :
      (passes : Key → Bool) (keys : List Key) (found : List Inference)
      → Once keys → ((key : Key) → In key keys → passes key ≡ true) → AreTried p mode clauses keys found
      → AreSomeInferences p mode clauses passes found
  tried-some passes keys found once pass h = record {
    made = tried-made passes keys found pass h;
    once = tried-once keys found once h;
  }

-- ---- as a list grows

pub adds-nothing : (mode : SelectionMode) (m n : Member) (found : List Inference) → AddsTried mode m n [] found found
adds-nothing mode m n found usage clauses used second_used there second_there = ([], sym (append-nil found), refl)

pub adds-more :
    (mode : SelectionMode) (m n : Member) (keys more : List Key) (before middle now : List Inference)
    → AddsTried mode m n keys before middle → AddsTried mode m n more middle now → AddsTried mode m n (keys ++ more) before now
adds-more mode m n keys more before middle now h k usage clauses used second_used there second_there =
    let one = h usage clauses used second_used there second_there in
    let two = k usage clauses used second_used there second_there in (
      one.0 ++ two.0,
      two.1 ∙ ap (λ es. es ++ two.0) one.1 ∙ append_assoc before one.0 two.0,
      tried-append usage.is_predicate mode clauses keys more one.0 two.0 one.2 two.2,
    )

pub adds-one :
    (mode : SelectionMode) (m n : Member) (s : LiteralSide) (t : LiteralPlace) (made : Option Made) (before now : List Inference)
    → now ≡ before ++ entry_of (para_key m.number s n.number t) made → IsSuperposition mode m s n t made
    → AddsTried mode m n (para_key m.number s n.number t ∷ []) before now
adds-one mode m n s t made before now is tried usage clauses used second_used there second_there = (
  entry_of (para_key m.number s n.number t) made,
  is,
  tried-one usage.is_predicate mode clauses (para_key m.number s n.number t) made (tried usage clauses used second_used there second_there),
)

-- one more place
pub adds-place :
    (mode : SelectionMode) (m n : Member) (s : LiteralSide) (into : List LiteralPlace) (i : ℕ) (t : LiteralPlace) (made : Option Made)
    (initial before now : List Inference)
    → i < length into → t ≡ get_or into i t
    → AddsTried mode m n (keys_from m.number s n.number (take i into)) initial before
    → now ≡ before ++ entry_of (para_key m.number s n.number t) made → IsSuperposition mode m s n t made
    → AddsTried mode m n (keys_from m.number s n.number (take (i + 1) into)) initial now
adds-place mode m n s into i t made initial before now less read adds is tried =
    subst (λ (keys : List Key). AddsTried mode m n keys initial now)
    (sym (map-take_more_item (para_key m.number s n.number) into i t less read))
    (adds-more mode m n (keys_from m.number s n.number (take i into)) (para_key m.number s n.number t ∷ []) initial before now adds
    (adds-one mode m n s t made before now is tried))

-- one more side
pub adds-side :
    (mode : SelectionMode) (m n : Member) (from : List LiteralSide) (into : List LiteralPlace) (i : ℕ) (s : LiteralSide)
    (initial before now : List Inference)
    → i < length from → s ≡ get_or from i s
    → AddsTried mode m n (keys_between m.number (take i from) n.number into) initial before
    → AddsTried mode m n (keys_from m.number s n.number into) before now
    → AddsTried mode m n (keys_between m.number (take (i + 1) from) n.number into) initial now
adds-side mode m n from into i s initial before now less read adds step =
    let keys : LiteralSide → List Key = λ z. keys_from m.number z n.number into in
    let more : keys_between m.number (take (i + 1) from) n.number into ≡ keys_between m.number (take i from) n.number into ++ keys s =
    ap (flat_map keys) (take_more_item from i s less read) ∙ flat_map-append keys (take i from) (s ∷ [])
    ∙ ap (λ ks. keys_between m.number (take i from) n.number into ++ ks) (append-nil (keys s)) in
    subst (λ (ks : List Key). AddsTried mode m n ks initial now) (sym more)
    (adds-more mode m n (keys_between m.number (take i from) n.number into) (keys s) initial before now adds step)

-- one more side, which is that of the index
pub adds-next :
    (mode : SelectionMode) (m n : Member) (from : List LiteralSide) (into : List LiteralPlace) (i : ℕ) (initial before now : List Inference)
    → i < length from → AddsTried mode m n (keys_between m.number (take i from) n.number into) initial before
    → ((s : LiteralSide) → slice_get from i ≡ Some s → AddsTried mode m n (keys_from m.number s n.number into) before now)
    → AddsTried mode m n (keys_between m.number (take (i + 1) from) n.number into) initial now
adds-next mode m n from into i initial before now less adds step =
    let any : LiteralSide = record { literal = 0; side = Left } in
    let s : LiteralSide = get_or from i any in
    let at : slice_get from i ≡ Some s = slice_get-get_or from i any less in
    adds-side mode m n from into i s initial before now less (sym (get_or_from_slice_get from i s s at)) adds (step s at)

-- ---- until there are enough

-- where there aren't enough, all were tried
pub tried-whole :
    (most : Option ℕ) (mode : SelectionMode) (m n : Member) (keys : List Key) (before now : List Inference)
    → is_enough most (length now) ≡ false → TriesUpTo most mode m n keys before now → AddsTried mode m n keys before now
tried-whole most mode m n keys before now few h = ⊎_elim (λ all. all) (λ some. absurd (true≢false (sym some.0 ∙ few))) h

-- the first places of a row, and the rest
row-rest :
    (a b : ℕ) (s : LiteralSide) (into : List LiteralPlace) (k : ℕ)
    → (rest : List Key) × (keys_from a s b into ≡ keys_from a s b (take k into) ++ rest)
row-rest a b s [] zero = ([], refl)
row-rest a b s [] (suc k) = ([], refl)
row-rest a b s (t ∷ ts) zero = (keys_from a s b (t ∷ ts), refl)
row-rest a b s (t ∷ ts) (suc k) =
    let later = row-rest a b s ts k in (later.0, ap (λ (ks : List Key). para_key a s b t ∷ ks) later.1)

-- the places up to one are enough
pub row-enough :
    (most : Option ℕ) (mode : SelectionMode) (m n : Member) (s : LiteralSide) (into : List LiteralPlace) (k : ℕ) (before now : List Inference)
    → is_enough most (length now) ≡ true → AddsTried mode m n (keys_from m.number s n.number (take k into)) before now
    → TriesUpTo most mode m n (keys_from m.number s n.number into) before now
row-enough most mode m n s into k before now enough adds =
    let rest = row-rest m.number n.number s into k in
    inr (enough, (keys_from m.number s n.number (take k into), rest.0, rest.1, adds))

-- the rows before a side, the first names of its own row, and the rest
sides-rest :
    (a b : ℕ) (from : List LiteralSide) (into : List LiteralPlace) (i : ℕ) (s : LiteralSide) (row more : List Key)
    → slice_get from i ≡ Some s → keys_from a s b into ≡ row ++ more
    → (rest : List Key) × (keys_between a from b into ≡ (keys_between a (take i from) b into ++ row) ++ rest)
sides-rest a b [] into i s row more at is = absurd (cc)
sides-rest a b (z ∷ zs) into zero s row more at is =
    let later : List Key = keys_between a zs b into in (
      more ++ later,
      ap (λ (x : LiteralSide). keys_from a x b into ++ later) (same_Some z s at) ∙ ap (λ (ks : List Key). ks ++ later) is ∙ append_assoc row more later,
    )
sides-rest a b (z ∷ zs) into (suc i) s row more at is =
    let first : List Key = keys_from a z b into in
    let before : List Key = keys_between a (take i zs) b into in
    let later = sides-rest a b zs into i s row more at is in (
      later.0,
      ap (λ (ks : List Key). first ++ ks) later.1 ∙ sym (append_assoc first (before ++ row) later.0)
          ∙ ap (λ (ks : List Key). ks ++ later.0) (sym (append_assoc first before row)),
    )

-- the sides before one, and its own as far as it was tried, are enough
pub sides-enough :
    (most : Option ℕ) (mode : SelectionMode) (m n : Member) (from : List LiteralSide) (into : List LiteralPlace) (i : ℕ)
    (initial before now : List Inference)
    → i < length from → AddsTried mode m n (keys_between m.number (take i from) n.number into) initial before
    → ((s : LiteralSide) → slice_get from i ≡ Some s → TriesUpTo most mode m n (keys_from m.number s n.number into) before now)
    → is_enough most (length now) ≡ true
    → TriesUpTo most mode m n (keys_between m.number from n.number into) initial now
sides-enough most mode m n from into i initial before now less adds step enough =
    let any : LiteralSide = record { literal = 0; side = Left } in
    let s : LiteralSide = get_or from i any in
    let at : slice_get from i ≡ Some s = slice_get-get_or from i any less in
    let row : List Key = keys_from m.number s n.number into in
    inr (
      enough,
      ⊎_elim
          (λ whole. part s at row [] (sym (append-nil row)) whole)
          (λ some. part s at some.1.0 some.1.1 some.1.2 some.1.3)
          (step s at),
    )
  where
    part :
        (s : LiteralSide) → slice_get from i ≡ Some s → (row more : List Key) → keys_from m.number s n.number into ≡ row ++ more
        → AddsTried mode m n row before now
        → (tried : List Key) × (rest : List Key) × (keys_between m.number from n.number into ≡ tried ++ rest) × AddsTried mode m n tried initial now
    part s at row more is own =
        let rows : List Key = keys_between m.number (take i from) n.number into in
        let rest = sides-rest m.number n.number from into i s row more at is in
        (rows ++ row, rest.0, rest.1, adds-more mode m n rows row initial before now adds own)

-- all sites of both clauses
pub all-keys :
    (m n : Member) (sites others : Sites) → AreSitesOf (clause_at m.clause) sites → AreSitesOf (clause_at n.clause) others → sites.mode ≡ others.mode
    → keys_between m.number sites.from.items n.number others.into.items ≡ pair_keys (mode_of sites.mode) m n
all-keys m n sites others are others_are same =
    let into_is : others.into.items ≡ enter_sites (mode_of sites.mode) (clause_at n.clause).literals =
    others_are.into ∙ ap (λ k. enter_sites (mode_of k) (clause_at n.clause).literals) (sym same) in
    ap₂ (λ ss ts. keys_between m.number ss n.number ts) are.from into_is

pub adds-all :
    (m n : Member) (sites others : Sites) → AreSitesOf (clause_at m.clause) sites → AreSitesOf (clause_at n.clause) others → sites.mode ≡ others.mode
    → (from : List LiteralSide) (initial now : List Inference) → from ≡ sites.from.items
    → AddsTried (mode_of sites.mode) m n (keys_between m.number from n.number others.into.items) initial now
    → AddsTried (mode_of sites.mode) m n (pair_keys (mode_of sites.mode) m n) initial now
adds-all m n sites others are others_are same from initial now all adds =
    let mode : SelectionMode = mode_of sites.mode in
    let into_is : others.into.items ≡ enter_sites mode (clause_at n.clause).literals =
    others_are.into ∙ ap (λ k. enter_sites (mode_of k) (clause_at n.clause).literals) (sym same) in
    subst (λ (keys : List Key). AddsTried mode m n keys initial now)
    (ap₂ (λ ss ts. keys_between m.number ss n.number ts) (all ∙ are.from) into_is) adds

-- ---- the names

from_same : (a b : ℕ) (s z : LiteralSide) (t u : LiteralPlace) → para_key a s b t ≡ para_key a z b u → (s ≡ z) × (t ≡ u)
from_same a b s z t u e =
    let one : s.literal ≡ z.literal = cc in
    let two : s.side ≡ z.side = cc in
    let three : t.at.literal ≡ u.at.literal = cc in
    let four : t.at.side ≡ u.at.side = cc in
    let five : t.place ≡ u.place = cc in (
      ap₂ (λ i w. let x : LiteralSide = record { literal = i; side = w } in x) one two,
      ap₂ (λ (x : LiteralSide) q. let y : LiteralPlace = record { at = x; place = q } in y)
          (ap₂ (λ i w. let x : LiteralSide = record { literal = i; side = w } in x) three four) five,
    )

keys_once :
    (a b : ℕ) (from : List LiteralSide) (into : List LiteralPlace) → Once from → Once into → Once (keys_between a from b into)
keys_once a b from into from_once into_once =
    Once-flat_map (λ s. keys_from a s b into) from
    (λ s. Once-map (para_key a s b) into (λ t u e. (from_same a b s s t u e).1) into_once)
    (λ s z key here there.
    let one = map-In (para_key a s b) key into here in
    let other = map-In (para_key a z b) key into there in
    (from_same a b s z one.0 other.0 (sym one.2 ∙ other.2)).0)
    from_once

key_in :
    (a b : ℕ) (from : List LiteralSide) (into : List LiteralPlace) (s : LiteralSide) (t : LiteralPlace)
    → In s from → In t into → In (para_key a s b t) (keys_between a from b into)
key_in a b from into s t s_in t_in =
    In-flat_map (λ z. keys_from a z b into) s (para_key a s b t) from s_in (In-map (para_key a s b) t into t_in)

key_of_pair :
    (a b : ℕ) (from : List LiteralSide) (into : List LiteralPlace) (key : Key)
    → In key (keys_between a from b into) → (s : LiteralSide) × (t : LiteralPlace) × (key ≡ para_key a s b t)
key_of_pair a b from into key h =
    let outer = In-flat_mapped (λ z. keys_from a z b into) key from h in
    let inner = map-In (para_key a outer.0 b) key into outer.2 in
    (outer.0, inner.0, inner.2)

-- an inference of two clauses has its name among theirs
inference_key :
    (usage : SymbolUse) (mode : SelectionMode) (clauses : ℕ → Option TreeClause) (m n : Member) (s : LiteralSide) (t : LiteralPlace) (c : TreeClause)
    → are_literals_of usage (clause_at m.clause).literals ≡ true → are_literals_of usage (clause_at n.clause).literals ≡ true
    → clauses m.number ≡ Some (clause_at m.clause) → clauses n.number ≡ Some (clause_at n.clause)
    → IsInference usage.is_predicate mode clauses (para_key m.number s n.number t) c → In (para_key m.number s n.number t) (pair_keys mode m n)
inference_key usage mode clauses m n s t c used second_used there second_there it =
    let first_same : it.first_clause ≡ clause_at m.clause = same_Some it.first_clause (clause_at m.clause) (sym it.first_there ∙ there) in
    let second_same : it.second_clause ≡ clause_at n.clause = same_Some it.second_clause (clause_at n.clause) (sym it.second_there ∙ second_there) in
    key_in m.number n.number (start_sites mode (clause_at m.clause).literals) (enter_sites mode (clause_at n.clause).literals) s t
    (subst (λ (q : TreeClause). In s (start_sites mode q.literals)) first_same (start_in usage.is_predicate mode it.first_clause s it.second_clause t c it.infers))
    (subst (λ (q : TreeClause). In t (enter_sites mode q.literals)) second_same
    (formed_in usage mode it.first_clause s it.second_clause t c
    (subst (λ (q : TreeClause). are_literals_of usage q.literals ≡ true) (sym first_same) used)
    (subst (λ (q : TreeClause). are_literals_of usage q.literals ≡ true) (sym second_same) second_used)
    it.infers))

-- ---- of one clause into another

into_number : (a b first second : ℕ) → ((first == a) && (second == b)) ≡ true → (first ≡ a) × (second ≡ b)
into_number a b first second h =
    let both = and_parts (first == a) (second == b) h in (eqb-true first a both.0, eqb-true second b both.1)

pub pair_all :
    (mode : SelectionMode) (m n : Member) (before now : List Inference)
    → AddsTried mode m n (pair_keys mode m n) before now → AddsSuperpositions mode m n before now
pair_all mode m n before now h usage clauses used second_used there second_there =
    let tried = h usage clauses used second_used there second_there in (
      tried.0,
      tried.1,
      tried-all usage.is_predicate mode clauses (is_from_into m.number n.number) (pair_keys mode m n) tried.0
          (keys_once m.number n.number (start_sites mode (clause_at m.clause).literals) (enter_sites mode (clause_at n.clause).literals)
          (starts_once mode (clause_at m.clause).literals) (enters_once mode (clause_at n.clause).literals))
          (λ key here.
          let named =
          key_of_pair m.number n.number (start_sites mode (clause_at m.clause).literals) (enter_sites mode (clause_at n.clause).literals) key here in
          ap (is_from_into m.number n.number) named.2
          ∙ and_from (m.number == m.number) (n.number == n.number) (eq-eqb m.number m.number refl) (eq-eqb n.number n.number refl))
          back
          tried.2,
    )
  where
    back :
        (key : Key) (c : TreeClause) → is_from_into m.number n.number key ≡ true → IsInference usage.is_predicate mode clauses key c
        → In key (pair_keys mode m n)
    back (Para first i s second j z place) c passes it =
        let numbers = into_number m.number n.number first second passes in
        let from : LiteralSide = record { literal = i; side = s } in
        let into : LiteralPlace = record { at = record { literal = j; side = z }; place = place } in
        let same : Para first i s second j z place ≡ para_key m.number from n.number into =
        ap₂ (λ (a b : ℕ). para_key a from b into) numbers.0 numbers.1 in
        subst (λ (key : Key). In key (pair_keys mode m n)) (sym same)
        (inference_key usage mode clauses m n from into c used second_used there second_there
        (subst (λ (key : Key). IsInference usage.is_predicate mode clauses key c) same it))
    back (Refl q i) c passes it = absurd (true≢false (sym passes))
    back (Factor q i s j z) c passes it = absurd (true≢false (sym passes))
    back (Replaced q) c passes it = absurd (true≢false (sym passes))

pub pair_some :
    (mode : SelectionMode) (m n : Member) (before now : List Inference) (tried rest : List Key)
    → pair_keys mode m n ≡ tried ++ rest → AddsTried mode m n tried before now → AddsSomeSuperpositions mode m n before now
pair_some mode m n before now tried rest is h usage clauses used second_used there second_there =
    let froms : List LiteralSide = start_sites mode (clause_at m.clause).literals in
    let intos : List LiteralPlace = enter_sites mode (clause_at n.clause).literals in
    let are = h usage clauses used second_used there second_there in (
      are.0,
      are.1,
      tried-some usage.is_predicate mode clauses (is_from_into m.number n.number) tried are.0
          (Once-front tried rest
          (subst (λ (ks : List Key). Once ks) is
          (keys_once m.number n.number froms intos (starts_once mode (clause_at m.clause).literals) (enters_once mode (clause_at n.clause).literals))))
          (λ key here.
          let named =
          key_of_pair m.number n.number froms intos key (subst (λ (ks : List Key). In key ks) (sym is) (In-left key tried rest here)) in
          ap (is_from_into m.number n.number) named.2
          ∙ and_from (m.number == m.number) (n.number == n.number) (eq-eqb m.number m.number refl) (eq-eqb n.number n.number refl))
          are.2,
    )

pub pairs_up_to :
    (most : Option ℕ) (mode : SelectionMode) (m n : Member) (before now : List Inference)
    → TriesUpTo most mode m n (pair_keys mode m n) before now → AddsSuperpositionsUpTo most mode m n before now
pairs_up_to most mode m n before now h =
    ⊎_elim
    (λ all. inl (pair_all mode m n before now all))
    (λ some. inr (some.0, pair_some mode m n before now some.1.0 some.1.1 some.1.2 some.1.3))
    h

-- ---- what a list begins with

pub begins-self : (xs : List Inference) → Begins xs xs
begins-self xs = take-length xs

pub begins-same : (xs ys : List Inference) → ys ≡ xs → Begins xs ys
begins-same xs ys e = ap (take (length xs)) e ∙ take-length xs

pub begins-pushed : (xs ys more : List Inference) → ys ≡ xs ++ more → Begins xs ys
begins-pushed xs ys more e = ap (take (length xs)) e ∙ take-append_seam xs more

pub begins-again : (xs ys zs : List Inference) → Begins xs ys → Begins ys zs → Begins xs zs
begins-again xs ys zs h k =
    let shorter : length xs ≤ length ys = omega (arith, sym (ap length h), length-take (length xs) ys) in
    sym (take-take (length xs) (length ys) zs shorter) ∙ ap (take (length xs)) k ∙ h
  where
    take-take : (n m : ℕ) (us : List Inference) → n ≤ m → take n (take m us) ≡ take n us
    take-take zero m us less = refl
    take-take (suc n) zero us less = absurd (omega arith)
    take-take (suc n) (suc m) [] less = refl
    take-take (suc n) (suc m) (u ∷ us) less = ap (λ (vs : List Inference). u ∷ vs) (take-take n m us (omega arith))

-- ---- within a clause, and between two

pub within_all :
    (mode : SelectionMode) (m : Member) (found : List Inference) → AddsTried mode m m (pair_keys mode m m) [] found
    → (usage : SymbolUse) → are_literals_of usage (clause_at m.clause).literals ≡ true
    → AreInferences usage.is_predicate mode (alone m) is_superposition found
within_all mode m found h usage used =
    let tried = h usage (alone m) used used (alone_there m) (alone_there m) in
    let keys : List Key = pair_keys mode m m in
    tried-all usage.is_predicate mode (alone m) is_superposition keys found
    (keys_once m.number m.number (start_sites mode (clause_at m.clause).literals) (enter_sites mode (clause_at m.clause).literals)
    (starts_once mode (clause_at m.clause).literals) (enters_once mode (clause_at m.clause).literals))
    (λ key there.
    let named =
    key_of_pair m.number m.number (start_sites mode (clause_at m.clause).literals) (enter_sites mode (clause_at m.clause).literals) key there in
    ap is_superposition named.2)
    back
    (subst (λ (es : List Inference). AreTried usage.is_predicate mode (alone m) keys es) (sym tried.1) tried.2)
  where
    back :
        (key : Key) (c : TreeClause) → is_superposition key ≡ true → IsInference usage.is_predicate mode (alone m) key c
        → In key (pair_keys mode m m)
    back (Para first i s second j z place) c passes it =
        let first_is = alone_number m first it.first_clause it.first_there in
        let second_is = alone_number m second it.second_clause it.second_there in
        let from : LiteralSide = record { literal = i; side = s } in
        let into : LiteralPlace = record { at = record { literal = j; side = z }; place = place } in
        let same : Para first i s second j z place ≡ para_key m.number from m.number into =
        ap₂ (λ (a b : ℕ). para_key a from b into) first_is second_is in
        subst (λ (key : Key). In key (pair_keys mode m m)) (sym same)
        (inference_key usage mode (alone m) m m from into c used used (alone_there m) (alone_there m)
        (subst (λ (key : Key). IsInference usage.is_predicate mode (alone m) key c) same it))
    back (Refl q i) c passes it = absurd (true≢false (sym passes))
    back (Factor q i s j z) c passes it = absurd (true≢false (sym passes))
    back (Replaced q) c passes it = absurd (true≢false (sym passes))

module _ (m n : Member) (differ : m.number ≡ n.number → ⊥) where
  two_first : two m n m.number ≡ Some (clause_at m.clause)
  two_first = cond-true (m.number == m.number) (Some (clause_at m.clause)) (alone n m.number) (eq-eqb m.number m.number refl)

  two_second : two m n n.number ≡ Some (clause_at n.clause)
  two_second =
      cond-false (n.number == m.number) (Some (clause_at m.clause)) (alone n n.number)
      (false_from_ne_true (n.number == m.number) (λ e. differ (sym (eqb-true n.number m.number e))))
      ∙ alone_there n

  one_of_two : (k : ℕ) (c : TreeClause) → two m n k ≡ Some c → (k ≡ m.number) ⊎ (k ≡ n.number)
  one_of_two k c h =
      ⊎_elim
      (λ e. inl (eqb-true k m.number e))
      (λ e. inr (alone_number n k c (sym (cond-false (k == m.number) (Some (clause_at m.clause)) (alone n k) e) ∙ h)))
      (cases_Bool (k == m.number))

  pub between_all :
      (mode : SelectionMode) (middle found : List Inference)
      → AddsTried mode m n (pair_keys mode m n) [] middle → AddsTried mode n m (pair_keys mode n m) middle found
      → (usage : SymbolUse) → are_literals_of usage (clause_at m.clause).literals ≡ true → are_literals_of usage (clause_at n.clause).literals ≡ true
      → AreInferences usage.is_predicate mode (two m n) is_between found
  between_all mode middle found h k usage used second_used =
      let one = h usage (two m n) used second_used two_first two_second in
      let other = k usage (two m n) second_used used two_second two_first in
      let keys : List Key = pair_keys mode m n ++ pair_keys mode n m in
      tried-all usage.is_predicate mode (two m n) is_between keys found once pass back
      (subst (λ (es : List Inference). AreTried usage.is_predicate mode (two m n) keys es) (sym (other.1 ∙ ap (λ es. es ++ other.0) one.1))
      (tried-append usage.is_predicate mode (two m n) (pair_keys mode m n) (pair_keys mode n m) one.0 other.0 one.2 other.2))
    where
      pair_once : (a b : Member) → Once (pair_keys mode a b)
      pair_once a b =
          keys_once a.number b.number (start_sites mode (clause_at a.clause).literals) (enter_sites mode (clause_at b.clause).literals)
          (starts_once mode (clause_at a.clause).literals) (enters_once mode (clause_at b.clause).literals)

      pair_key : (a b : Member) (key : Key) → In key (pair_keys mode a b) → (s : LiteralSide) × (t : LiteralPlace) × (key ≡ para_key a.number s b.number t)
      pair_key a b key there =
          key_of_pair a.number b.number (start_sites mode (clause_at a.clause).literals) (enter_sites mode (clause_at b.clause).literals) key there

      once : Once (pair_keys mode m n ++ pair_keys mode n m)
      once =
          Once-append (pair_keys mode m n) (pair_keys mode n m) (pair_once m n) (pair_once n m)
          (λ key here there.
          let first = pair_key m n key here in
          let second = pair_key n m key there in
          let same : para_key m.number first.0 n.number first.1 ≡ para_key n.number second.0 m.number second.1 = sym first.2 ∙ second.2 in
          let numbers : m.number ≡ n.number = cc in
          differ numbers)

      pass : (key : Key) → In key (pair_keys mode m n ++ pair_keys mode n m) → is_between key ≡ true
      pass key there =
          ⊎_elim
          (λ here.
          let named = pair_key m n key here in
          ap is_between named.2 ∙ not_from_false (m.number == n.number) (false_from_ne_true (m.number == n.number) (λ e. differ (eqb-true m.number n.number e))))
          (λ here.
          let named = pair_key n m key here in
          ap is_between named.2 ∙ not_from_false (n.number == m.number) (false_from_ne_true (n.number == m.number) (λ e. differ (sym (eqb-true n.number m.number e)))))
          (In-either key (pair_keys mode m n) (pair_keys mode n m) there)

      named_in :
          (a b : Member) (first second i j : ℕ) (s z : Side) (place : List ℕ) (c : TreeClause)
          → are_literals_of usage (clause_at a.clause).literals ≡ true → are_literals_of usage (clause_at b.clause).literals ≡ true
          → two m n a.number ≡ Some (clause_at a.clause) → two m n b.number ≡ Some (clause_at b.clause)
          → first ≡ a.number → second ≡ b.number
          → IsInference usage.is_predicate mode (two m n) (Para first i s second j z place) c → In (Para first i s second j z place) (pair_keys mode a b)
      named_in a b first second i j s z place c a_used b_used a_there b_there first_is second_is it =
          let from : LiteralSide = record { literal = i; side = s } in
          let into : LiteralPlace = record { at = record { literal = j; side = z }; place = place } in
          let same : Para first i s second j z place ≡ para_key a.number from b.number into =
          ap₂ (λ (x y : ℕ). para_key x from y into) first_is second_is in
          subst (λ (key : Key). In key (pair_keys mode a b)) (sym same)
          (inference_key usage mode (two m n) a b from into c a_used b_used a_there b_there
          (subst (λ (key : Key). IsInference usage.is_predicate mode (two m n) key c) same it))

      back :
          (key : Key) (c : TreeClause) → is_between key ≡ true → IsInference usage.is_predicate mode (two m n) key c
          → In key (pair_keys mode m n ++ pair_keys mode n m)
      back (Para first i s second j z place) c passes it =
          let key : Key = Para first i s second j z place in
          let distinct : (first == second) ≡ false = not-true (first == second) passes in
          ⊎_elim
          (λ first_m.
          ⊎_elim
          (λ second_m. absurd (true≢false (sym (eq-eqb first second (first_m ∙ sym second_m)) ∙ distinct)))
          (λ second_n.
          In-left key (pair_keys mode m n) (pair_keys mode n m)
          (named_in m n first second i j s z place c used second_used two_first two_second first_m second_n it))
          (one_of_two second it.second_clause it.second_there))
          (λ first_n.
          ⊎_elim
          (λ second_m.
          In-right key (pair_keys mode m n) (pair_keys mode n m)
          (named_in n m first second i j s z place c second_used used two_second two_first first_n second_m it))
          (λ second_n. absurd (true≢false (sym (eq-eqb first second (first_n ∙ sym second_n)) ∙ distinct)))
          (one_of_two second it.second_clause it.second_there))
          (one_of_two first it.first_clause it.first_there)
      back (Refl q i) c passes it = absurd (true≢false (sym passes))
      back (Factor q i s j z) c passes it = absurd (true≢false (sym passes))
      back (Replaced q) c passes it = absurd (true≢false (sym passes))
