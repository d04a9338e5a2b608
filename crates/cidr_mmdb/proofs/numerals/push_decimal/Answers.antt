use Rattle.std.proofs.Common.{◌≡◌, ◌++◌, rules}
use Rattle.std.specs.Prelude.{decimal}
use Rattle.std.proofs.lemmas.Fmt.{contents_after_writes}
use Rattle.arrayvec.specs.ArrayString.{ArrayString}
use Rattle.cidr_mmdb.proofs.numerals.push_decimal.Goals as goal

pub returns-in-Ok : goal.returns-in-Ok
returns-in-Ok c =
    let text : c.write.new.self.bytes ≡ c.new-text.result.bytes ++ decimal c.args.n = contents_after_writes _ (λ (s : ArrayString). s.bytes) (λ w l v t. t) _ _ _ c.in-Ok.ensures.writes in
    search rules
