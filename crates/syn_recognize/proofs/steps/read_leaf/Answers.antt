use Rattle.std.proofs.Common.{ap, ◌∙◌}
use Rattle.syn_recognize.specs.Forms.{grammar_of}
use Rattle.syn_recognize.specs.Copies.{copy_form}
use Rattle.syn_recognize.specs.Steps.{todo}
use Rattle.syn_recognize.proofs.Copied.{empty_is, unshown_is}
use Rattle.syn_recognize.proofs.steps.read_leaf.Goals as goal

pub returns-in-Empty : goal.returns-in-Empty
returns-in-Empty c = ap (todo c.args.steps.now.items) (ap (λ f. copy_form (grammar_of f) c.args.out.now c.args.input.now) c.in-Empty.is ∙ empty_is c.args.out.now c.args.input.now)

pub returns-in-Unshown : goal.returns-in-Unshown
returns-in-Unshown c = ap (todo c.args.steps.now.items) (ap (λ f. copy_form (grammar_of f) c.args.out.now c.args.input.now) c.in-Unshown.is ∙ unshown_is c.args.out.now c.args.input.now)
