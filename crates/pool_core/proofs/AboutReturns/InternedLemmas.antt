-- The results of a batch in the bank, one after another.
use Rattle.std.proofs.Common.{◌≡◌, ℕ, zero, suc, ◌+◌, ◌-◌, ◌<◌, ◌≤◌, Bool, true, false, List, [], ◌∷◌, ◌++◌, length, take, get_or, append-nil, refl, ap, ap₂, sym, ◌∙◌, subst, arith}
use Rattle.std.specs.Prelude.{Option, None, Some, cond, filter_map, option_to_list, All}
use Rattle.std.specs.List.{cons_option}
use Rattle.std.proofs.lemmas.List.{take_more}
use Rattle.std.proofs.lemmas.List.Elements.{All-weaker}
use Rattle.std.proofs.lemmas.Option.{none-some, same_Some}
use Rattle.plain_types.specs.declared.sequence.NameLit.{NameLit}
use Rattle.fol_base.specs.Clause.{TreeClause}
use Rattle.fol_base.specs.Literal.{clause_of}
use Rattle.fol_base.specs.declared.clause.Clause.{Clause}
use Rattle.kernel_steps.specs.declared.key.Key.{Key}
use Rattle.kernel_steps.specs.declared.step.Line.{Line}
use Rattle.term_bank.specs.declared.bank.Bank.{Bank}
use Rattle.term_bank.specs.declared.table.Table.{Table}
use Rattle.pool_history.specs.Components.{parts_of}
use Rattle.pool_history.specs.Counting.{is_heavy, keys_of}
use Rattle.pool_history.specs.Lines.{result_of}
use Rattle.pool_history.specs.Returning.{heavy_entries}
use Rattle.pool_core.specs.Demanded.{no_demand, plus, total}
use Rattle.pool_core.specs.Placing.{IsFit, IsFitResult, IsFitWork, IsFormOf, IsInterned, AreInterned, AreResults, KnowsMore}
use Rattle.pool_history.specs.declared.batch.Entry.{Entry}
use Rattle.pool_history.specs.declared.batch.Fate.{Fate}
use Rattle.pool_history.specs.declared.batch.Fate.TheVariants.{Kept, Dropped, Heavy}
use Rattle.pool_history.specs.declared.batch.Removal.{Removal}
use Rattle.pool_history.specs.declared.batch.Work.TheVariants.{Gone}
use Rattle.pool_core.specs.declared.demand.Demand.{Demand}
use Rattle.pool_core.specs.declared.form.Form.{Form}
use Rattle.pool_core.specs.declared.form.Form.TheVariants.{Whole, Contradiction, Parts}
use Rattle.pool_core.specs.declared.interning.Interned.{Interned}
use Rattle.pool_core.specs.declared.interning.Results.{Results}
use Rattle.pool_core.proofs.AboutSplits.PartedLemmas.{learned-parts}

-- ---- what the table learns

learned-form : (bank : Bank) (known learned : Table) (split : Bool) (c : TreeClause) (form : Form) → KnowsMore known learned → IsFormOf bank known split c form → IsFormOf bank learned split c form
learned-form bank known learned split c (Whole x) more is = record {
  whole = is.whole;
  same = is.same;
  hashed = is.hashed;
  of_bank = is.of_bank;
  known = more x.clause.literals is.known;
  refutes = is.refutes;
}
learned-form bank known learned split c (Contradiction x) more is = is
learned-form bank known learned split c (Parts x) more is = record {
  splits = is.splits;
  places = is.places;
  parts = learned-parts bank known learned (parts_of c.literals) x.parts.keys.items x.parts.clauses.items more is.parts;
  no_tags = is.no_tags;
  tags_room = is.tags_room;
  asserted = is.asserted;
  definitions = is.definitions;
  definitions_room = is.definitions_room;
}

pub learned-result :
    (bank : Bank) (known learned : Table) (split : Bool) (count : ℕ) (lines : List Line) (x : Interned)
    → KnowsMore known learned → IsInterned bank known split count lines x → IsInterned bank learned split count lines x
learned-result bank known learned split count lines x more is = record {
  clause = is.clause;
  lead = is.lead;
  form = learned-form bank known learned split is.clause x.form more is.form;
  counted = is.counted;
}

pub learned-all :
    (bank : Bank) (known learned : Table) (split : Bool) (count : ℕ) (lss : List (List Line)) (xs : List Interned)
    → KnowsMore known learned → AreInterned bank known split count lss xs → AreInterned bank learned split count lss xs
learned-all bank known learned split count [] [] more are = tt
learned-all bank known learned split count (lines ∷ lss) (x ∷ xs) more are =
    (learned-result bank known learned split count lines x more are.0, learned-all bank known learned split count lss xs more are.1)
learned-all bank known learned split count [] (x ∷ xs) more are = absurd are
learned-all bank known learned split count (lines ∷ lss) [] more are = absurd are

pub learned-results :
    (bank : Bank) (known learned : Table) (split : Bool) (count : ℕ) (lss : List (List Line)) (results : Results)
    → KnowsMore known learned → AreResults bank known split count lss results → AreResults bank learned split count lss results
learned-results bank known learned split count lss results more are = record {
  interned = learned-all bank known learned split count lss results.clauses.items more are.interned;
  counted = are.counted;
}

-- ---- more tags

pub more-met :
    (bank : Bank) (table : Table) (split : Bool) (few many : ℕ) (lines : List Line) (x : Interned)
    → few ≤ many → IsInterned bank table split few lines x → IsInterned bank table split many lines x
more-met bank table split few many lines x more is = record {
  clause = is.clause;
  lead = record {
    led = is.lead.led;
    asserts = is.lead.asserts;
    met =
        All-weaker (λ (n : NameLit). n.name < few) (λ (n : NameLit). n.name < many) (λ n below. omega (arith, below, more)) is.clause.names is.lead.met;
    plain = is.lead.plain;
    parents = is.lead.parents;
  };
  form = is.form;
  counted = is.counted;
}

pub all-more-met :
    (bank : Bank) (table : Table) (split : Bool) (few many : ℕ) (lss : List (List Line)) (xs : List Interned)
    → few ≤ many → AreInterned bank table split few lss xs → AreInterned bank table split many lss xs
all-more-met bank table split few many [] [] more are = tt
all-more-met bank table split few many (lines ∷ lss) (x ∷ xs) more are =
    (more-met bank table split few many lines x more are.0, all-more-met bank table split few many lss xs more are.1)
all-more-met bank table split few many [] (x ∷ xs) more are = absurd are
all-more-met bank table split few many (lines ∷ lss) [] more are = absurd are

-- ---- one more result

pub no-results :
    (bank : Bank) (table : Table) (split : Bool) (count : ℕ) (results : Results)
    → results.clauses.items ≡ [] → results.demand ≡ no_demand → AreResults bank table split count [] results
no-results bank table split count results none nothing = record {
  interned = subst (AreInterned bank table split count []) (sym none) tt;
  counted = nothing ∙ ap total (sym none);
}

added-one :
    (bank : Bank) (table : Table) (split : Bool) (count : ℕ) (lss : List (List Line)) (xs : List Interned) (lines : List Line) (x : Interned)
    → AreInterned bank table split count lss xs → IsInterned bank table split count lines x
    → AreInterned bank table split count (lss ++ lines ∷ []) (xs ++ x ∷ [])
added-one bank table split count [] [] lines x are one = (one, tt)
added-one bank table split count (ls ∷ lss) (y ∷ ys) lines x are one = (are.0, added-one bank table split count lss ys lines x are.1 one)
added-one bank table split count [] (y ∷ ys) lines x are one = absurd are
added-one bank table split count (ls ∷ lss) [] lines x are one = absurd are

same-demand :
    (d e : Demand) → d.clauses ≡ e.clauses → d.tags ≡ e.tags → d.lines ≡ e.lines → d.parts ≡ e.parts → d.splits ≡ e.splits → d.names ≡ e.names → d ≡ e
same-demand d e clauses tags lines parts splits names =
    λ j. record { clauses = clauses j; tags = tags j; lines = lines j; parts = parts j; splits = splits j; names = names j }

plus-nested : (d e f : Demand) → plus d (plus e f) ≡ plus (plus d e) f
plus-nested d e f =
    same-demand (plus d (plus e f)) (plus (plus d e) f) (omega arith) (omega arith) (omega arith) (omega arith) (omega arith) (omega arith)

total-more : (xs : List Interned) (x : Interned) → total (xs ++ x ∷ []) ≡ plus (total xs) x.demand
total-more [] x =
    same-demand (plus x.demand no_demand) (plus no_demand x.demand) (omega arith) (omega arith) (omega arith) (omega arith) (omega arith) (omega arith)
total-more (y ∷ ys) x = ap (plus y.demand) (total-more ys x) ∙ plus-nested y.demand (total ys) x.demand

pub one-more-result :
    (bank : Bank) (known learned : Table) (split : Bool) (count : ℕ) (lss : List (List Line)) (before after : Results) (lines : List Line) (x : Interned)
    → KnowsMore known learned → AreResults bank known split count lss before → IsInterned bank learned split count lines x
    → after.clauses.items ≡ before.clauses.items ++ x ∷ [] → after.demand ≡ plus before.demand x.demand
    → AreResults bank learned split count (lss ++ lines ∷ []) after
one-more-result bank known learned split count lss before after lines x more are one items demand = record {
  interned =
      subst (AreInterned bank learned split count (lss ++ lines ∷ [])) (sym items)
      (added-one bank learned split count lss before.clauses.items lines x (learned-all bank known learned split count lss before.clauses.items more are.interned) one);
  counted =
      demand ∙ ap (λ (d : Demand). plus d x.demand) are.counted ∙ sym (total-more before.clauses.items x) ∙ ap total (sym items);
}

-- under other names for the lists
pub fit-same :
    (split : Bool) (count : ℕ) (ls ms : List Line) (rs qs : List Clause) → ls ≡ ms → rs ≡ qs → IsFitResult split count ms qs → IsFitResult split count ls rs
fit-same split count ls ms rs qs same alike fit =
    subst (λ (xs : List Line). IsFitResult split count xs rs) (sym same) (subst (IsFitResult split count ms) (sym alike) fit)

-- what is fit at a place
pub fit-at :
    {X : Type 0} (fate_of : X → Fate) (split : Bool) (count : ℕ) (xs : List X) (i : ℕ) (x : X)
    → All (λ (y : X). IsFit split count (fate_of y)) xs → i < length xs → x ≡ get_or xs i x → IsFit split count (fate_of x)
fit-at fate_of split count xs i x all below read = subst (λ y. IsFit split count (fate_of y)) (sym read) (all i x below)

-- the removal by which the given clause goes
pub lone-fit : (split : Bool) (count : ℕ) (m : Removal) → IsFitWork split count (Gone m) → IsFit split count m.fate
lone-fit split count m fit = fit.removals 0 m (omega arith)

pub some-line : (lines : List Line) (c : TreeClause) → result_of lines ≡ Some c → 1 ≤ length lines
some-line [] c led = absurd (none-some c led)
some-line (l ∷ ls) c led = omega arith

-- the last line's clause is that to which the lines lead
pub last-clause : (lines : List Line) (c : TreeClause) (d : Line) → result_of lines ≡ Some c → clause_of (get_or lines (length lines - 1) d).clause ≡ c
last-clause lines c d led = let some = some-line lines c led in by lines (length lines - 1) (omega (arith, some)) led
  where
    by : (ls : List Line) (i : ℕ) → length ls ≡ i + 1 → result_of ls ≡ Some c → clause_of (get_or ls i d).clause ≡ c
    by [] i count led = absurd (none-some c led)
    by (k ∷ []) zero count led = same_Some (clause_of k.clause) c led
    by (k ∷ []) (suc i) count led = absurd (omega (arith, count))
    by (k ∷ n ∷ ls) zero count led = absurd (omega (arith, count))
    by (k ∷ n ∷ ls) (suc i) count led = by (n ∷ ls) i (omega (arith, count)) led

-- ---- lists with one more

filter_map-end : {X Y : Type 0} (h : X → Option Y) (xs : List X) (x : X) → filter_map h (xs ++ x ∷ []) ≡ filter_map h xs ++ option_to_list (h x)
filter_map-end h [] x = by (h x)
  where
    by : {Y : Type 0} (o : Option Y) → cons_option o [] ≡ option_to_list o
    by None = refl
    by (Some y) = refl
filter_map-end h (y ∷ ys) x =
    ap (cons_option (h y)) (filter_map-end h ys x) ∙ by (h y) (filter_map h ys) (option_to_list (h x))
  where
    by : {Y : Type 0} (o : Option Y) (zs ws : List Y) → cons_option o (zs ++ ws) ≡ cons_option o zs ++ ws
    by None zs ws = refl
    by (Some z) zs ws = refl

pub lone-lines : {X : Type 0} (o : Option X) → cons_option o [] ≡ option_to_list o
lone-lines None = refl
lone-lines (Some x) = refl

pub mapped-more :
    {X : Type 0} (h : X → Option (List Line)) (xs : List X) (i : ℕ) (x : X) → i < length xs → x ≡ get_or xs i x
    → filter_map h (take (i + 1) xs) ≡ filter_map h (take i xs) ++ option_to_list (h x)
mapped-more {X} h xs i x below read =
    ap (filter_map h) (take_more xs i x below ∙ ap (λ (y : X). take i xs ++ y ∷ []) (sym read)) ∙ filter_map-end h (take i xs) x

heavy-end : (es : List Entry) (e : Entry) → keys_of (heavy_entries (es ++ e ∷ [])) ≡ keys_of (heavy_entries es) ++ keys_of (cond (is_heavy e.fate) (e ∷ []) [])
heavy-end [] e = refl
heavy-end (d ∷ ds) e = by (is_heavy d.fate) (heavy-end ds e)
  where
    by :
        (b : Bool) → keys_of (heavy_entries (ds ++ e ∷ [])) ≡ keys_of (heavy_entries ds) ++ keys_of (cond (is_heavy e.fate) (e ∷ []) [])
        → keys_of (cond b (d ∷ heavy_entries (ds ++ e ∷ [])) (heavy_entries (ds ++ e ∷ []))) ≡ keys_of (cond b (d ∷ heavy_entries ds) (heavy_entries ds)) ++ keys_of (cond (is_heavy e.fate) (e ∷ []) [])
    by true rest = ap (λ (ks : List Key). d.key ∷ ks) rest
    by false rest = rest

heavy-more : (es : List Entry) (i : ℕ) (e : Entry) → i < length es → e ≡ get_or es i e → keys_of (heavy_entries (take (i + 1) es)) ≡ keys_of (heavy_entries (take i es)) ++ keys_of (cond (is_heavy e.fate) (e ∷ []) [])
heavy-more es i e below read =
    ap (λ (ds : List Entry). keys_of (heavy_entries ds)) (take_more es i e below ∙ ap (λ (d : Entry). take i es ++ d ∷ []) (sym read)) ∙ heavy-end (take i es) e

pub one-heavy :
    (es : List Entry) (i : ℕ) (e : Entry) (before now : List Key) (k : Key) → i < length es → e ≡ get_or es i e → e.fate ≡ Heavy → k ≡ e.key
    → before ≡ keys_of (heavy_entries (take i es)) → now ≡ before ++ k ∷ [] → now ≡ keys_of (heavy_entries (take (i + 1) es))
one-heavy es i e before now k below read fate key was is =
    is ∙ ap₂ (λ (ks : List Key) (j : Key). ks ++ j ∷ []) was key
    ∙ ap (λ (f : Fate). keys_of (heavy_entries (take i es)) ++ keys_of (cond (is_heavy f) (e ∷ []) [])) (sym fate)
    ∙ sym (heavy-more es i e below read)

pub none-heavy :
    (es : List Entry) (i : ℕ) (e : Entry) (before : List Key) → i < length es → e ≡ get_or es i e → (e.fate ≡ Heavy → ⊥)
    → before ≡ keys_of (heavy_entries (take i es)) → before ≡ keys_of (heavy_entries (take (i + 1) es))
none-heavy es i e before below read light was =
    was ∙ sym (append-nil (keys_of (heavy_entries (take i es))))
    ∙ ap (λ b. keys_of (heavy_entries (take i es)) ++ keys_of (cond b (e ∷ []) [])) (sym (by e.fate light))
    ∙ sym (heavy-more es i e below read)
  where
    by : (f : Fate) → (f ≡ Heavy → ⊥) → is_heavy f ≡ false
    by (Kept lines results) other = refl
    by (Dropped redundancy) other = refl
    by Heavy other = absurd (other refl)
