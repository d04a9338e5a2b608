use Rattle.std.proofs.Common.{refl, sym, inl, inr, map, option_map}
use Rattle.std.proofs.lemmas.Result.{err_from_is_err_and}
use Rattle.cidr_lists.specs.Formats.{style_in}
use Rattle.cidr_lists.specs.Sets.{networks_of}
use Rattle.netset_commands.specs.Causes.{FileFails}
use Rattle.netset_commands.proofs.Pools.{free_cause, free_written, pool_read}
use Rattle.netset_commands.proofs.commands.free.free.Goals as goal

pub returns-clause-answers : goal.returns-clause-answers
returns-clause-answers g c =
    free_written (g.F.Sources.contents c.args.sources.now) (option_map (λ s. style_in s) c.args.style) c.args.most c.args.pool.now c.args.len (map (λ file. file.now) c.args.used.now)
    c.in_ok-first.first c.in_ok-others.others.items c.in_ok-rest.rest (g.O.Sink.state c.args.out.now)
    (g.O.Sink.state c.tell_free.new.out) c.tell_free.result c.in_ok-first.ensures.reads c.in_ok-others.ensures.reads
    (rw (sym c.in_ok-rest.ensures.made) at c.combination-rest.ensures) c.tell_free.ensures

pub returns-clause-cause : goal.returns-clause-cause
returns-clause-cause g c =
    free_cause (FileFails (g.F.Sources.contents c.args.sources.now) (g.F.Sources.reasons c.args.sources.now)) _ (option_map (λ s. style_in s) c.args.style) (networks_of c.in_ok-rest.rest) c.args.len c.args.most _ _ c.tell_free.result c.tell_free.ensures

pub returns-in_err-first-clause-answers : goal.returns-in_err-first-clause-answers
returns-in_err-first-clause-answers g c =
    let (y, is, same) = err_from_is_err_and c.from_residual.result c.from_residual.ensures.1 in
    rw (is, same) (inl (refl, inl c.in_err-first.ensures.reads))

pub returns-in_err-others-clause-answers : goal.returns-in_err-others-clause-answers
returns-in_err-others-clause-answers g c =
    let (y, is, same) = err_from_is_err_and c.from_residual-in_err-others.result c.from_residual-in_err-others.ensures.1 in
    rw (is, same) (inl (refl, inr (pool_read (g.F.Sources.contents c.args.sources.now) c.args.pool.now c.in_ok-first.first c.in_ok-first.ensures.reads, c.in_err-others.ensures.reads)))

pub returns-in_err-rest-clause-answers : goal.returns-in_err-rest-clause-answers
returns-in_err-rest-clause-answers g c =
    let (y, is, same) = err_from_is_err_and c.from_residual-in_err-rest.result c.from_residual-in_err-rest.ensures.1 in
    rw (is, same) (inl (refl, inl (inr refl)))
