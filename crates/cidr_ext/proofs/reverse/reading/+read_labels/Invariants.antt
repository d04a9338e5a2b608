use Rattle.cidr_ext.proofs.reverse.reading.+read_labels.Given as goal

abbrev pub decreases-read_labels : goal.decreases-read_labels
decreases-read_labels l = l.room
