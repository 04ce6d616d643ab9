use Rattle.std.proofs.Common.{rules}
use Rattle.syn_tokens.specs.Kinds.{comma_syntax}
use Rattle.syn_lower.proofs.SameLists.{ordered_then, ordered_else}
use Rattle.syn_lower.proofs.nested.compare.ordered.same_ordered.Goals as goal

pub returns-then-same_members : goal.returns-then-same_members
returns-then-same_members g c = record {
  same = ordered_then g.T.Ordered.is_first g.met.T.Ordered.apart g.T.Syntactic.syntax comma_syntax c.args.list.now.pairs c.args.other.now.pairs c.args.list.now.last c.args.other.now.last c.pairs.result.now c.pairs-2.result.now c.same_members.result c.same_end.result c.pairs.ensures c.pairs-2.ensures c.same_members.ensures c.if-same_members.true c.same_end.ensures;
}

pub returns-else-same_members : goal.returns-else-same_members
returns-else-same_members g c =
    let e = ordered_else g.T.Ordered.is_first g.met.T.Ordered.apart g.T.Syntactic.syntax comma_syntax c.args.list.now.pairs c.args.other.now.pairs c.args.list.now.last c.args.other.now.last in
    search (rules, e)
