use Rattle.std.proofs.Common.{◌≡◌, ap, ◌∙◌, subst, ℕ}
use Rattle.arrayvec.specs.ArrayVec.{ArrayVec as Items}
use Rattle.cidr_io.specs.Writing.{Whole}
use Rattle.cidr_io.proofs.Collected.{written_behind}
use Rattle.cidr_io.proofs.block.Block.push.Goals as goal

pub returns : goal.returns
returns g c =
    let kept : c.try_extend_from_slice.new.self.items ≡ c.args.self.now = ap (λ (v : Items ℕ). v.items) c.in-Err.ensures.err ∙ c.self.view_is in
    let still : c.try_extend_from_slice-2.new.self.items ≡ c.write.new.self =
    ap (λ (v : Items ℕ). v.items) c.in-Err-try_extend_from_slice.ensures.err ∙ c.self-2.view_is in
    written_behind (g.S.Sink.state c.args.out.now) (g.S.Sink.state c.write.new.out) (g.S.Sink.state c.write_all.new.out) c.args.self.now
    c.try_extend_from_slice-2.new.self.items c.args.bytes.now c.write_all.result
    (subst (Whole (g.S.Sink.state c.args.out.now) (g.S.Sink.state c.write.new.out)) kept c.in_ok-write.ensures.writes)
    (still ∙ c.in_ok-write.ensures.empty) c.write_all.ensures
