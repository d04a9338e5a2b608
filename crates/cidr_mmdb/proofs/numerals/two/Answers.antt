use Rattle.std.proofs.Common.{◌^◌, ◌≤◌, arith, lit≤}
use Rattle.std.proofs.Math.Nat.{pow-le-pow_right}
use Rattle.cidr_mmdb.proofs.numerals.two.Goals as goal

pub pow-requires : goal.pow-requires
pow-requires c =
    let most : 2 ^ c.args.exponent ≤ 2 ^ 70 = pow-le-pow_right (lit≤ tt) c.requires in
    omega arith

pub returns-clause-few : goal.returns-clause-few
returns-clause-few c =
    let most : 2 ^ c.args.exponent ≤ 2 ^ 70 = pow-le-pow_right (lit≤ tt) c.requires in
    omega (arith, c.pow.ensures)
