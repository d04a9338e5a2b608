use Rattle.std.proofs.lemmas.Bool.Decides.{not_from_Decides}
use Rattle.cidr_lists.specs.Sets.{IsInSets}
use Rattle.cidr_lists.proofs.Anywhere.{either_family}
use Rattle.cidr_lists.proofs.sets.Sets.have_one.Goals as goal

pub returns-else-have_one_of : goal.returns-else-have_one_of
returns-else-have_one_of c =
    either_family (IsInSets c.args.self.now) c.args.line.now _ (not_from_Decides c.have_one_of.result c.have_one_of.ensures c.if-have_one_of.false)
    c.have_one_of-else-have_one_of.ensures
