use Rattle.syn_reader.proofs.Groups.{closes_tokens, closes_within}
use Rattle.syn_reader.proofs.reader.trees.TreeBuilder.close.Goals as goal

pub returns-clause-tokens : goal.returns-clause-tokens
returns-clause-tokens c = closes_tokens c.close.result _ _ c.args.self.now.inner c.close.new.self c.close.ensures.ok

pub returns-clause-within : goal.returns-clause-within
returns-clause-within c = λ n within starts ends.
    closes_within c.close.result n _ _ c.args.self.now.inner c.close.new.self _ c.close.ensures.ok c.close.ensures.err within starts ends
