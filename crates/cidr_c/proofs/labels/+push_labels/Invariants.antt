use Rattle.cidr_c.proofs.labels.+push_labels.Given as goal

abbrev pub decreases-push_labels : goal.decreases-push_labels
decreases-push_labels l = l.count
