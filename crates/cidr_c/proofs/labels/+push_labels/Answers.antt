use Rattle.std.proofs.Common.{arith, ap, ◌∙◌, ◌++◌, ◌∷◌, [], lit<}
use Rattle.cidr.specs.texts.Ipv4Text.{dot}
use Rattle.cidr.specs.declared.family.Family.TheVariants.{Ipv6}
use Rattle.cidr_ext.proofs.Labels.{no_labels}
use Rattle.cidr_c.proofs.LabelPairs.{one_more, two_more}
use Rattle.cidr_c.proofs.labels.+push_labels.Goals as goal

pub returns-then-count-gt1-clause-bytes : goal.returns-then-count-gt1-clause-bytes
returns-then-count-gt1-clause-bytes t c = λ network size is.
    two_more c.args.value c.args.count network size is c.args.name.now.bytes c.push_str.new.self.bytes c.push_labels.new.name.bytes (omega arith)
    (c.push_str.ensures.bytes ∙ ap (λ labels. c.args.name.now.bytes ++ labels) c.two_labels.ensures.value) c.push_labels.ensures.bytes

pub returns-then-count-eq1-clause-bytes : goal.returns-then-count-eq1-clause-bytes
returns-then-count-eq1-clause-bytes t c = λ network size is.
    one_more c.args.value c.args.count network size is c.args.name.now.bytes c.push-then-count-eq1.new.self.bytes (omega arith)
    (c.push-then-count-eq1.ensures.ascii (lit< tt)
    ∙ ap (λ t. t ++ dot ∷ []) (c.push.ensures.ascii c.hex_digit.ensures.ascii
    ∙ ap (λ d. c.args.name.now.bytes ++ d ∷ []) c.hex_digit.ensures.value))

pub returns-else-count-eq1-clause-bytes : goal.returns-else-count-eq1-clause-bytes
returns-else-count-eq1-clause-bytes t c = λ network size is. no_labels Ipv6 c.args.count network c.args.name.now.bytes (omega arith)
