use Rattle.std.proofs.Common.{◌≡◌, refl, sym, ◌∙◌, arith, subst, true≢false, eqb-true, ℕ, ◌==◌, Bool, true, false, List, [], ◌∷◌, ◌++◌, codes, length}
use Rattle.cidr_io.specs.Collecting.{Collects}
use Rattle.netset_commands.specs.Rows.{row_text}
use Rattle.netset_commands.proofs.output.rows.push_row.Goals as goal

-- without a gap where the value is empty
short : (n v : List ℕ) (test : Bool) → test ≡ (length v == 0) → test ≡ true → row_text n v ≡ n ++ codes "\n"
short n [] test is holds = refl
short n (b ∷ v) test is holds = absurd (omega (arith, eqb-true (length (b ∷ v)) 0 (sym is ∙ holds)))

long : (n v : List ℕ) (test : Bool) → test ≡ (length v == 0) → test ≡ false → row_text n v ≡ n ++ (codes " " ++ (v ++ codes "\n"))
long n [] test is fails = absurd (true≢false (sym is ∙ fails))
long n (b ∷ v) test is fails = refl

pub returns-then-is_empty : goal.returns-then-is_empty
returns-then-is_empty g c =
    subst (λ (k : List ℕ). Collects (g.S.Sink.state c.args.out.now) (g.S.Sink.state c.push_line.new.out) c.args.block.now c.push_line.new.self (c.args.front.now ++ (c.args.joint.now ++ k)) c.push_line.result)
    (sym (short c.args.network.bytes c.args.value.now _ c.is_empty.ensures c.if-is_empty.true))
    (rw (c.as_bytes-network.ensures.value, c.as_str.ensures.value) at c.push_line.ensures)

pub returns : goal.returns
returns g c =
    subst (λ (k : List ℕ). Collects (g.S.Sink.state c.args.out.now) (g.S.Sink.state c.push_line-2.new.out) c.args.block.now c.push_line-2.new.self (c.args.front.now ++ (c.args.joint.now ++ k)) c.push_line-2.result)
    (sym (long c.args.network.bytes c.args.value.now _ c.is_empty.ensures c.if-is_empty.false))
    (rw (c.as_bytes-network.ensures.value, c.as_str.ensures.value) at c.push_line-2.ensures)
