use Rattle.std.proofs.Common.{lit<, length, ap, arith}
use Rattle.std.proofs.lemmas.Str.{len_utf8_bounds, length-encode}
use Rattle.cidr_io.proofs.shown.shown_char.Goals as goal

pub push-requires : goal.push-requires
push-requires c =
    (lit< tt, omega (arith, length-encode c.args.c, (len_utf8_bounds c.args.c).1, ap length c.new-text.ensures))
