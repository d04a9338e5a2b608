use Rattle.std.proofs.Common.{arith, ◌<◌, ◌∙◌}
use Rattle.cidr_ext.proofs.Labels.{front, length-front, value-front, more_labels, no_labels}
use Rattle.cidr_ext.proofs.reverse.name.+push_labels.Goals as goal

pub returns-then-count-gt0-clause-bytes : goal.returns-then-count-gt0-clause-bytes
returns-then-count-gt0-clause-bytes t c = λ network size is.
    let some : 0 < c.args.count = omega arith in
    more_labels c.args.family c.args.value c.args.count network some size is c.args.name.now.bytes c.push_label.new.name.bytes c.push_labels.new.name.bytes
    c.split_label-rest.result.1 c.split_label-rest.ensures.label c.push_label.ensures.bytes
    (c.push_labels.ensures.bytes (front c.args.family c.args.value c.args.count network some size is)
    (length-front c.args.family c.args.value c.args.count network some size is)
    (c.split_label-rest.ensures.rest ∙ value-front c.args.family c.args.value c.args.count network some size is))

pub returns-else-count-gt0-clause-bytes : goal.returns-else-count-gt0-clause-bytes
returns-else-count-gt0-clause-bytes t c = λ network size is. no_labels c.args.family c.args.count network c.args.name.now.bytes (omega arith)
