use Rattle.std.proofs.Common.{inr, refl}
use Rattle.netset_commands.specs.Causes.{FileFails}
use Rattle.netset_commands.specs.Command.{single_request}
use Rattle.netset_commands.specs.declared.program.TheConstants.{VERSION}
use Rattle.netset_commands.specs.Table.{help_text}
use Rattle.netset_commands.specs.declared.output.answers.Verdict.TheVariants.{Yes}
use Rattle.netset_commands.proofs.Causes.{output_cause, single_cause}
use Rattle.netset_commands.proofs.program.answer.Goals as goal

pub returns-in-Lists : goal.returns-in-Lists
returns-in-Lists g c = rw c.in-Lists.is (record { answers = c.lists.ensures.answers; cause = c.lists.ensures.cause; leaves = refl })

pub returns-in-Styled : goal.returns-in-Styled
returns-in-Styled g c = rw c.in-Styled.is (record { answers = c.lists-in-Styled.ensures.answers; cause = c.lists-in-Styled.ensures.cause; leaves = refl })

pub returns-in-NotIn : goal.returns-in-NotIn
returns-in-NotIn g c = rw c.in-NotIn.is (record { answers = c.not_in.ensures.answers; cause = c.not_in.ensures.cause; leaves = refl })

pub returns-in-Diff : goal.returns-in-Diff
returns-in-Diff g c = rw c.in-Diff.is (record { answers = c.diff.ensures.answers; cause = c.diff.ensures.cause; leaves = refl })

pub returns-in-Same : goal.returns-in-Same
returns-in-Same g c = rw c.in-Same.is (record { answers = c.same.ensures.answers; cause = c.same.ensures.cause; leaves = refl })

pub returns-in-Free : goal.returns-in-Free
returns-in-Free g c = rw c.in-Free.is (record { answers = c.free.ensures.answers; cause = c.free.ensures.cause; leaves = refl })

pub returns-in-Acl : goal.returns-in-Acl
returns-in-Acl g c = rw c.in-Acl.is (record { answers = c.acl.ensures.answers; cause = c.acl.ensures.cause; leaves = refl })

pub returns-in-Split : goal.returns-in-Split
returns-in-Split g c = rw c.in-Split.is (record { answers = c.split.ensures.answers; cause = c.split.ensures.cause; leaves = refl })

pub returns-in-Check : goal.returns-in-Check
returns-in-Check g c = rw c.in-Check.is (record { answers = c.check.ensures.answers; cause = c.check.ensures.cause; leaves = refl })

pub returns-in-Which : goal.returns-in-Which
returns-in-Which g c = rw c.in-Which.is (record { answers = c.which.ensures.answers; cause = c.which.ensures.cause; leaves = refl })

pub returns-in-Match : goal.returns-in-Match
returns-in-Match g c = rw c.in-Match.is (record { answers = c.matching.ensures.answers; cause = c.matching.ensures.cause; leaves = refl })

pub returns-in-MatchEach : goal.returns-in-MatchEach
returns-in-MatchEach g c = rw c.in-MatchEach.is (record { answers = c.match_each.ensures.answers; cause = c.match_each.ensures.cause; leaves = refl })

pub returns-in-Look : goal.returns-in-Look
returns-in-Look g c = rw c.in-Look.is (record { answers = c.look.ensures.answers; cause = c.look.ensures.cause; leaves = refl })

pub returns-in-Compile : goal.returns-in-Compile
returns-in-Compile g c = rw c.in-Compile.is (record { answers = (refl, c.compile.ensures.compiled); cause = c.compile.ensures.cause; leaves = c.compile.ensures.leaves })

pub returns-in-Smallest : goal.returns-in-Smallest
returns-in-Smallest g c = rw c.in-Smallest.is (record { answers = c.smallest.ensures.answers; cause = c.smallest.ensures.cause; leaves = refl })

pub returns-in-Describe : goal.returns-in-Describe
returns-in-Describe g c = rw c.in-Describe.is (record { answers = c.describe.ensures.answers; cause = c.describe.ensures.cause; leaves = refl })

pub returns-in-Class : goal.returns-in-Class
returns-in-Class g c = rw c.in-Class.is (record { answers = c.class.ensures.answers; cause = c.class.ensures.cause; leaves = refl })

pub returns-in-Single : goal.returns-in-Single
returns-in-Single g c =
    rw c.in-Single.is (record {
      answers = (c.answer_single.ensures (g.F.Sources.contents c.args.sources.now));
      cause = (single_cause (FileFails (g.F.Sources.contents c.args.sources.now) (g.F.Sources.reasons c.args.sources.now)) (g.M.Memory.refused c.args.memory.now) (g.F.Sources.contents c.args.sources.now) (single_request c.in-Single.single) _ _ c.answer_single.result (c.answer_single.ensures (g.F.Sources.contents c.args.sources.now)));
      leaves = refl;
    })

pub returns-in-Help : goal.returns-in-Help
returns-in-Help g c =
    rw c.in-Help.is (record {
      answers = (inr (help_text c.in-Help.topic, Yes, c.write_help.result, (refl, refl), c.write_help.ensures, c.by_output.ensures));
      cause = (output_cause (FileFails (g.F.Sources.contents c.args.sources.now) (g.F.Sources.reasons c.args.sources.now)) (g.M.Memory.refused c.args.memory.now) _ _ c.by_output.result c.by_output.ensures);
      leaves = refl;
    })

pub returns-in-Version : goal.returns-in-Version
returns-in-Version g c =
    rw c.in-Version.is (record {
      answers = (inr (VERSION.now, Yes, c.write_text.result, (refl, refl), c.write_text.ensures, c.by_output-in-Version.ensures));
      cause = (output_cause (FileFails (g.F.Sources.contents c.args.sources.now) (g.F.Sources.reasons c.args.sources.now)) (g.M.Memory.refused c.args.memory.now) _ _ c.by_output-in-Version.result c.by_output-in-Version.ensures);
      leaves = refl;
    })
