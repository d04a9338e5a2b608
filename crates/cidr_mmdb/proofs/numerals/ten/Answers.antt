use Rattle.std.proofs.Common.{◌^◌, ◌≤◌, arith, lit≤}
use Rattle.std.proofs.Math.Nat.{pow-le-pow_right}
use Rattle.cidr_mmdb.proofs.Figures.{unit_above}
use Rattle.cidr_mmdb.proofs.numerals.ten.Goals as goal

pub pow-requires : goal.pow-requires
pow-requires c =
    let most : 10 ^ c.args.places ≤ 10 ^ 22 = pow-le-pow_right (lit≤ tt) c.requires in
    omega arith

pub returns-clause-few : goal.returns-clause-few
returns-clause-few c =
    let most : 10 ^ c.args.places ≤ 10 ^ 22 = pow-le-pow_right (lit≤ tt) c.requires in
    omega (arith, c.pow.ensures)

pub returns-clause-some : goal.returns-clause-some
returns-clause-some c = omega (arith, c.pow.ensures, unit_above 10 c.args.places (lit≤ tt))
