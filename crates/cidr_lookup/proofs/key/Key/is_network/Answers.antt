use Rattle.std.proofs.Common.{◌≡◌, sym, ◌∙◌, ap, ap₂, arith, eq-eqb, IsTrue, nat_eq, bit_and, ℕ, ◌-◌, ◌%◌, ◌^◌}
use Rattle.std.proofs.lemmas.Bool.Decides.{nat_tests}
use Rattle.std.proofs.lemmas.Nat.{and_mask}
use Rattle.cidr_lookup.proofs.key.Key.is_network.Goals as goal

tested : (n : ℕ) → IsTrue (nat_eq n 0) → n ≡ 0
tested n t = grind (arith, nat_tests)

pub returns : goal.returns
returns g c =
    let w = g.A.Address.width in
    let len = c.args.self.now.len in
    let value = g.A.Address.value c.args.self.now.address in
    let mask : c.ones.result ≡ 2 ^ (w - len) - 1 = c.ones.ensures ∙ ap (λ n. 2 ^ (n - len) - 1) c.width-width.ensures.value in
    let is : bit_and c.number.result c.ones.result ≡ value % 2 ^ (w - len) = ap₂ (λ a b. bit_and a b) c.number.ensures.value mask ∙ and_mask value (w - len) in (
      λ t. record {
        fits = omega (arith, c.width-width.ensures.value);
        within = omega (arith, c.number.ensures.value, c.number.ensures.fits);
        host = sym is ∙ tested (bit_and c.number.result c.ones.result) t;
      },
      λ n. eq-eqb (bit_and c.number.result c.ones.result) 0 (is ∙ n.host),
    )
