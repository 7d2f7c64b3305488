use Rattle.std.proofs.Common.{◌≤◌, ◌^◌, arith, pow_mono}
use Rattle.std.proofs.Math.Nat.{min-le_right}
use Rattle.term_bank.proofs.rows.row_length.Goals as goal

pub returns-clause-limit : goal.returns-clause-limit
returns-clause-limit c =
    let low = min-le_right c.args.row 27 in
    let most : c.min.result ≤ 27 = omega (arith, c.min.ensures) in
    let small : 2 ^ c.min.result ≤ 134217728 = pow_mono most in omega arith
