use Rattle.std.proofs.Common.{◌≡◌, length, ap, arith}
use Rattle.std.proofs.lemmas.Str.{encode_ascii}
use Rattle.std.proofs.Math.Utf8.{encode}
use Rattle.cidr.specs.laws.DecimalLaws.{digits_before_last}
use Rattle.cidr.proofs.addr.decimal.+decimal_text.Goals as goal
use Rattle.cidr.proofs.addr.decimal.+decimal_text.Goals.{then-n-ge10, else-n-ge10}

pub push-requires : goal.push-requires
push-requires t c =
    let digit : length (encode c.from.result) ≡ 1 = ap length (encode_ascii c.from.result (omega (arith, c.from.ensures))) in (
      omega arith,
      elim c.if-n-ge10.branch [
        | then-n-ge10 w ↦ omega (arith, digit, ap (λ text. length text.bytes) w.text-is, ap length w.decimal_text-text.ensures, digits_before_last c.args.n c.ranges.n.fits)
        | else-n-ge10 w ↦ omega (arith, digit, ap (λ text. length text.bytes) w.text-is, ap length w.new-text.ensures)
      ],
    )
