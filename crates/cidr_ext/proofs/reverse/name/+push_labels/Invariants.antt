use Rattle.cidr_ext.proofs.reverse.name.+push_labels.Given as goal

abbrev pub decreases-push_labels : goal.decreases-push_labels
decreases-push_labels l = l.count
