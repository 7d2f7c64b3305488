use Rattle.std.specs.Prelude.{IsTrue}
use Rattle.fol_base.specs.Sides.{side_of}
use Rattle.fol_base.specs.Lent.{lent_of}
use Rattle.fol_base.specs.declared.clause.Side.{Side}
use Rattle.fol_base.specs.declared.clause.Side.TheVariants.{Left, Right}
use Rattle.disc_tree.specs.Entries.{IsIn}
use Rattle.rewriting.specs.Units.{oriented}
use Rattle.bank_clause.specs.Clause.{side_number}
use Rattle.rewriting.proofs.index.put_sides.Goals as goal

by_side : (P : Side → Type 0) → P Left → P Right → (s : Side) → P s
by_side P l r Left = l
by_side P l r Right = r

pub returns-in_err-put_side-clause-kept : goal.returns-in_err-put_side-clause-kept
returns-in_err-put_side-clause-kept c = λ t n s other there. c.put_side.ensures.kept (t, side_number n s) there

pub returns-in-Ok-clause-put : goal.returns-in-Ok-clause-put
returns-in-Ok-clause-put c =
    by_side
    (λ s. IsTrue (oriented s c.args.by) → IsIn (side_of s (lent_of c.args.equation), side_number c.args.number s) c.put_side-2.new.sides)
    (λ is. c.put_side-2.ensures.kept _ (c.in_ok-put_side.ensures.put is))
    (λ is. c.in-Ok.ensures.put is)

pub returns-in-Ok-clause-kept : goal.returns-in-Ok-clause-kept
returns-in-Ok-clause-kept c =
    λ t n s other there. c.put_side-2.ensures.kept (t, side_number n s) (c.put_side.ensures.kept (t, side_number n s) there)

pub returns-in-Err-clause-kept : goal.returns-in-Err-clause-kept
returns-in-Err-clause-kept c =
    λ t n s other there.
    c.take_side.ensures t n s other (c.put_side-2.ensures.kept (t, side_number n s) (c.put_side.ensures.kept (t, side_number n s) there))
