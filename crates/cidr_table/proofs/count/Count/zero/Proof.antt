use Rattle.std.proofs.Common.{[], ◌∷◌, refl}
use Rattle.std.proofs.raw_atomic.Walks.{proved}
use base.Fml.{ftrue}
use mir.Val.{vstruct, vnil}
use types.Kit.{‵, raw, ◌$◌, ◌∵◌, !, qed, done, keep, suffices, use0}
use types.Run.{no_more, enter, returns}
use types.ByLocal.{alloc_all, pass_all, free_all, look_at, sets}
use types.Part.{agg}
use denote.Shadow.{makes_shadow}
use denote.Steps.{nothing}
use denote.Triple.Entry.{on_entry}
use denote.Triple.Walked.{Stays, walk_of, says, ends_at}
use Rattle.cidr_table.specs.contracts.count.Count.{the_row as R}
use Rattle.cidr_table.specs.contracts.count.Count.zero as f
use Rattle.cidr_table.proofs.count.Count.zero.Statement.{statement}
use Rattle.cidr_table.proofs.count.Count.zero.Code as code

abbrev stayed : Stays f.ended.signature.params f.ended.kept
stayed = tt

pub zero_spec : {M : Type 1} → statement M
zero_spec 𝓤 𝓛 𝓜 𝓡 wired =
    let c = f.clauses 𝓛 𝓜.mem 𝓡.returns in let W = walk_of 𝓛 f.ended stayed c in
    proved 𝓛 f.ended stayed c 𝓜 𝓡 tt
    f.Key.name code.function (code.unfolded 𝓤 𝓛.H 𝓜 𝓡 wired)
    (λ κs. tt) (λ κs. tt) (λ κs qs bounds a n are.
    let y : W.Ghost = ((κs, qs, bounds, a, tt), n) in
    qed 𝓛 (raw (on_entry 𝓛 f.signature κs qs a tt) ∷ ‵ ftrue ∷ []) ∵ keep ! [] $
    enter ! _ _ _ _ _ $ alloc_all ! (λ l. pass_all ! refl tt $
    sets ! (agg ! (no_more !)) refl (tt, tt) $
    returns ! (look_at ! 0 refl) $ free_all ! refl $
    suffices ! _ (ends_at 𝓛 f.ended stayed c y (vstruct vnil) (record { total = 0 }) tt tt) $ says ! refl $
    use0 𝓛 (‵ (R.own_val (record { total = 0 }) (vstruct vnil ∷ []))) (makes_shadow 𝓛 (R.own_val (record { total = 0 }) (vstruct vnil ∷ [])) ((λ u. (tt, tt)), tt) ((tt, (refl, tt)), tt)) $
    nothing ! $ nothing ! $ done !))
