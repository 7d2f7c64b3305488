use Rattle.std.proofs.Common.{refl}
use Rattle.signature.proofs.laws.form_examples.connective_examples.Goals as goal

pub returns : goal.returns
returns c = record {
  symbols = refl;
  conjunction = refl;
  no_conjunction = refl;
  disjunction = refl;
  no_disjunction = refl;
  implies = refl;
  not_implies = refl;
  implied = refl;
  not_implied = refl;
  equivalent = refl;
  not_equivalent = refl;
  different = refl;
  not_different = refl;
  nor = refl;
  not_nor = refl;
  nand = refl;
  not_nand = refl;
}
